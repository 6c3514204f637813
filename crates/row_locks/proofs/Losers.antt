-- Where a session stands in an ascending list.
use Rattle.std.proofs.Common.{◌≡◌, ℕ, zero, suc, ◌+◌, ◌<◌, ◌≤◌, Bool, true, false, not, Option, Some, None, List, [], ◌∷◌, length, slice_get, refl, sym, ap, ◌∙◌, arith}
use Rattle.std.specs.Prelude.{nat_lt, ◌==◌}
use Rattle.std.specs.List.{prefix_len, insert}
use Rattle.std.proofs.lemmas.Bool.{ltb-true, ltb-false, eqb-true, eqb-false, eq-eqb, ne_eqb, lt-ltb, le-ltb}
use Rattle.group_rules.specs.Sessions.{with_session}

-- how many of them are less
abbrev pub before : ℕ → List ℕ → ℕ
before s xs = prefix_len (λ t. nat_lt t s) xs

pub there : (xs : List ℕ) (s k : ℕ) → k ≡ before s xs → slice_get xs k ≡ Some s → with_session xs s ≡ xs
there [] s k e g = absurd cc
there (x ∷ xs) s k e g = go (nat_lt x s) refl (there xs s (before s xs) refl)
  where
    go : (u : Bool) → nat_lt x s ≡ u → (slice_get xs (before s xs) ≡ Some s → with_session xs s ≡ xs) → with_session (x ∷ xs) s ≡ x ∷ xs
    go true f r =
        let below : x < s = ltb-true x s f in
        let k_is : k ≡ suc (before s xs) = e ∙ (rw f (omega arith)) in
        let g' : slice_get xs (before s xs) ≡ Some s = rw k_is at g in
        let not_less : nat_lt s x ≡ false = le-ltb s x (omega arith) in
        let other : (s == x) ≡ false = ne_eqb s x (omega arith) in
        rw (not_less, other, with_session) (ap (λ l. x ∷ l) (r g'))
    go false f r =
        let k_is : k ≡ 0 = e ∙ (rw f refl) in
        let same : Some x ≡ Some s = rw k_is at g in
        let is : x ≡ s = cc in
        let not_less : nat_lt s x ≡ false = le-ltb s x (omega arith) in
        rw (not_less, eq-eqb s x (sym is), with_session) refl

pub missing : (xs : List ℕ) (s k : ℕ) → k ≡ before s xs → (slice_get xs k ≡ Some s → ⊥) → with_session xs s ≡ insert xs k s
missing [] s k e n = let z : k ≡ 0 = e in rw z refl
missing (x ∷ xs) s k e n = go (nat_lt x s) refl (missing xs s (before s xs) refl)
  where
    by_order : nat_lt x s ≡ false → (u : Bool) → nat_lt s x ≡ u → with_session (x ∷ xs) s ≡ insert (x ∷ xs) k s
    by_order f true p = let k_is : k ≡ 0 = e ∙ (rw f refl) in rw (p, k_is, with_session) refl
    by_order f false p =
        let k_is : k ≡ 0 = e ∙ (rw f refl) in
        let from : s ≤ x = ltb-false x s f in
        let to : x ≤ s = ltb-false s x p in
        let is : x ≡ s = omega arith in
        absurd (n (rw k_is (ap (λ (u : ℕ). Some u) is)))

    go : (u : Bool) → nat_lt x s ≡ u → ((slice_get xs (before s xs) ≡ Some s → ⊥) → with_session xs s ≡ insert xs (before s xs) s) → with_session (x ∷ xs) s ≡ insert (x ∷ xs) k s
    go true f r =
        let below : x < s = ltb-true x s f in
        let k_is : k ≡ suc (before s xs) = e ∙ (rw f (omega arith)) in
        let not_less : nat_lt s x ≡ false = le-ltb s x (omega arith) in
        let other : (s == x) ≡ false = ne_eqb s x (omega arith) in
        rw (not_less, other, k_is, with_session) (ap (λ l. x ∷ l) (r (λ g. n (rw k_is g))))
    go false f r = by_order f (nat_lt s x) refl
