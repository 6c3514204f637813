-- The k-th letter and its change; sums of bytes; the index of a part of the letters, and after a change.
use Rattle.std.proofs.Common.{◌≡◌, ◌⊎◌, inl, inr, ℕ, zero, suc, ◌+◌, Bool, true, false, ◌==◌, Some, None, List, [], ◌∷◌, ◌++◌, refl, sym, ap, ◌∙◌, arith}
use Rattle.std.specs.Prelude.{slice_set}
use Rattle.std.specs.List.{list_any, slice_get}
use Rattle.std.proofs.lemmas.Bool.{ne_eqb, true≢false}
use Rattle.group_rules.specs.Script.{Letter, letter_at, set_letter, total}
use Rattle.world_wire.specs.Nexts.{is_open}
use Rattle.world_wire.specs.Lanes.{IsIndex, LaneOf, lists}

not_zero : (k : ℕ) → (suc k == 0) ≡ false
not_zero k = ne_eqb (suc k) 0 (λ h. absurd (omega (arith, h)))

letter_on : (x : Letter) (xs : List Letter) (k : ℕ) → letter_at (x ∷ xs) (suc (suc k)) ≡ letter_at xs (suc k)
letter_on x xs k = let e = not_zero k in rw (e, letter_at) refl

set_on : (x : Letter) (xs : List Letter) (k : ℕ) (f : Letter → Letter) → set_letter (x ∷ xs) (suc (suc k)) f ≡ x ∷ set_letter xs (suc k) f
set_on x xs k f = let e = not_zero k in rw (e, set_letter) refl

pub letter_zero : (xs : List Letter) → letter_at xs 0 ≡ None
letter_zero [] = refl
letter_zero (x ∷ xs) = refl

pub letter_get : (xs : List Letter) (k : ℕ) → letter_at xs (suc k) ≡ slice_get xs k
letter_get [] k = refl
letter_get (x ∷ xs) zero = refl
letter_get (x ∷ xs) (suc k) = letter_on x xs k ∙ letter_get xs k

pub set_none : (xs : List Letter) (k : ℕ) (f : Letter → Letter) → letter_at xs k ≡ None → xs ≡ set_letter xs k f
set_none [] k f e = refl
set_none (x ∷ xs) zero f e = refl
set_none (x ∷ xs) (suc zero) f e = absurd (let h : Some x ≡ None = e in cc)
set_none (x ∷ xs) (suc (suc k)) f e = ap (λ l. x ∷ l) (set_none xs (suc k) f (sym (letter_on x xs k) ∙ e)) ∙ sym (set_on x xs k f)

pub set_there : (xs : List Letter) (k : ℕ) (f : Letter → Letter) (x : Letter) → slice_get xs k ≡ Some x → slice_set xs k (f x) ≡ set_letter xs (suc k) f
set_there [] k f x e = absurd (let h : None ≡ Some x = e in cc)
set_there (y ∷ ys) zero f x e = let same : y ≡ x = cc in ap (λ z. f z ∷ ys) (sym same)
set_there (y ∷ ys) (suc k) f x e = ap (λ l. y ∷ l) (set_there ys k f x e) ∙ sym (set_on y ys k f)

pub total_append : (xs ys : List Letter) → total (xs ++ ys) ≡ total xs + total ys
total_append [] ys = omega arith
total_append (x ∷ xs) ys = omega (arith, total_append xs ys)

pub total_set : (xs : List Letter) (k : ℕ) (x y : Letter) → slice_get xs k ≡ Some x → y.size ≡ x.size → total (slice_set xs k y) ≡ total xs
total_set [] k x y e s = refl
total_set (z ∷ zs) zero x y e s = let same : z ≡ x = cc in ap (λ n. n + total zs) (s ∙ ap (λ l. l.size) (sym same))
total_set (z ∷ zs) (suc k) x y e s = ap (λ n. z.size + n) (total_set zs k x y e s)

get_front : {A : Type 0} (xs ys : List A) (k : ℕ) (x : A) → slice_get xs k ≡ Some x → slice_get (xs ++ ys) k ≡ Some x
get_front [] ys k x e = absurd (let h : None ≡ Some x = e in cc)
get_front (z ∷ zs) ys zero x e = e
get_front (z ∷ zs) ys (suc k) x e = get_front zs ys k x e

get_set : {A : Type 0} (xs : List A) (k i : ℕ) (y z : A) → slice_get (slice_set xs k y) i ≡ Some z → (slice_get xs i ≡ Some z) ⊎ (y ≡ z)
get_set [] k i y z e = inl e
get_set (x ∷ xs) zero zero y z e = let same : y ≡ z = cc in inr same
get_set (x ∷ xs) zero (suc i) y z e = inl e
get_set (x ∷ xs) (suc k) zero y z e = inl e
get_set (x ∷ xs) (suc k) (suc i) y z e = get_set xs k i y z e

pub index_front : (ls : List LaneOf) (xs ys : List Letter) → IsIndex ls (xs ++ ys) → IsIndex ls xs
index_front ls xs ys ix = record {
  rising = ix.rising;
  complete = λ i x e o. ix.complete i x (get_front xs ys i x e) o;
}

-- a letter that isn't open any more
pub closed_keeps : (ls : List LaneOf) (xs : List Letter) (k : ℕ) (y : Letter) → is_open y ≡ false → IsIndex ls xs → IsIndex ls (slice_set xs k y)
closed_keeps ls xs k y c ix = record {
  rising = ix.rising;
  complete = λ i z e o. go i z o (get_set xs k i y z e);
}
  where
    go : (i : ℕ) (z : Letter) → is_open z ≡ true → (slice_get xs i ≡ Some z) ⊎ (y ≡ z) → list_any (lists i z) ls ≡ true
    go i z o (inl e) = ix.complete i z e o
    go i z o (inr e) = absurd (true≢false (sym o ∙ ap is_open (sym e) ∙ c))

pub lost_closed : (x : Letter) → is_open (record x { lost = true }) ≡ false
lost_closed x = go x.delivered
  where
    go : (d : Bool) → is_open (record x { delivered = d; lost = true }) ≡ false
    go true = refl
    go false = refl
