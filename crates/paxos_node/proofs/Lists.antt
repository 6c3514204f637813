-- Lists: an element in place of another, and what ascends.
use Rattle.std.proofs.Common.{◌≡◌, ℕ, get_or, zero, suc, ◌+◌, ◌-◌, ◌≤◌, ◌<◌, true, List, [], ◌∷◌, ◌++◌, Some, drop, take, length, refl, sym, ap, ◌∙◌, arith}
use Rattle.std.specs.Prelude.{map, slice_get, slice_set}
use Rattle.gr_ids.specs.declared.names.Inc.{Inc}
use Rattle.node_rules.specs.Welcoming.{ascends, last_config}

-- one more is done
pub set_next : {A B : Type 0} (f : A → B) (g : B → B) (xs : List A) (olds : List B) (k j : ℕ) (x y : A) → map f xs ≡ map g (take k olds) ++ drop k olds → j ≡ suc k → k < length olds → y ≡ get_or xs k y → f x ≡ g (f y) → map f (slice_set xs k x) ≡ map g (take j olds) ++ drop j olds
set_next f g [] [] k j x y e n l h s = absurd (omega arith)
set_next f g [] (o ∷ os) zero j x y e n l h s = absurd cc
set_next f g [] (o ∷ os) (suc k) j x y e n l h s = absurd cc
set_next f g (z ∷ zs) [] k j x y e n l h s = absurd (omega arith)
set_next f g (z ∷ zs) (o ∷ os) zero j x y e n l h s =
    let head : f z ≡ o = cc in
    let tail : map f zs ≡ os = cc in
    rw (n, s, h, head, tail) refl
set_next f g (z ∷ zs) (o ∷ os) (suc k) j x y e n l h s =
    let head : f z ≡ g o = cc in
    let tail : map f zs ≡ map g (take k os) ++ drop k os = cc in
    rw (n, head) (ap (λ l. g o ∷ l) (set_next f g zs os k (suc k) x y tail refl (omega arith) h s))

pub ascends_last : (is : List Inc) (k : ℕ) → length is ≤ k + 1 → ascends (drop k is) ≡ true
ascends_last [] zero h = refl
ascends_last [] (suc k) h = refl
ascends_last (i ∷ []) zero h = refl
ascends_last (i ∷ j ∷ is) zero h = absurd (omega arith)
ascends_last (i ∷ is) (suc k) h = ascends_last is k (omega arith)

pub last_is : (c : List Inc) (cs : List (List Inc)) → slice_get (c ∷ cs) (length cs) ≡ Some (last_config (c ∷ cs))
last_is c [] = refl
last_is c (d ∷ cs) = last_is d cs

pub last_got : (cs : List (List Inc)) (c : List Inc) → slice_get cs (length cs - 1) ≡ Some c → c ≡ last_config cs
last_got [] c h = absurd cc
last_got (d ∷ cs) c h =
    let place : length (d ∷ cs) - 1 ≡ length cs = omega arith in
    let same : Some c ≡ Some (last_config (d ∷ cs)) = sym (rw place at h) ∙ last_is d cs in
    cc
