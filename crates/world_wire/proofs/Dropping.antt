-- What is dropped at the front, and what is found first.
use Rattle.std.proofs.Common.{◌≡◌, ℕ, ◌+◌, ◌<◌, ◌≤◌, Bool, true, false, Some, None, List, [], ◌∷◌, length, get_or, drop, refl, sym, ap, ◌∙◌, arith}
use Rattle.std.specs.List.{find, slice_get}
use Rattle.std.proofs.lemmas.List.{at_drop_more, at_drop_all}
use Rattle.group_rules.specs.Script.{Letter}
use Rattle.world_wire.specs.Lanes.{dropped, opens}

pub stops : (xs : List Letter) (is : List ℕ) (i : ℕ) → 0 < length is → i ≡ get_or is 0 i → opens (slice_get xs i) ≡ true → dropped xs is ≡ is
stops xs [] i h g e = refl
stops xs (j ∷ is) i h g e = let at : opens (slice_get xs j) ≡ true = ap (λ k. opens (slice_get xs k)) (sym g) ∙ e in rw (at, dropped) refl

pub goes_on : (xs : List Letter) (is : List ℕ) (i : ℕ) → 0 < length is → i ≡ get_or is 0 i → opens (slice_get xs i) ≡ false → dropped xs (drop 1 is) ≡ dropped xs is
goes_on xs [] i h g e = refl
goes_on xs (j ∷ is) i h g e = let at : opens (slice_get xs j) ≡ false = ap (λ k. opens (slice_get xs k)) (sym g) ∙ e in rw (at, dropped) refl

pub at_end : (xs : List Letter) (is : List ℕ) → length is ≡ 0 → dropped xs is ≡ is
at_end xs [] h = refl
at_end xs (i ∷ is) h = absurd (omega (arith, h))

first_is : (p : ℕ → Bool) (i : ℕ) (is : List ℕ) → p i ≡ true → find p (i ∷ is) ≡ Some i
first_is p i is t = rw t refl

first_is_not : (p : ℕ → Bool) (i : ℕ) (is : List ℕ) → p i ≡ false → find p (i ∷ is) ≡ find p is
first_is_not p i is t = rw t refl

ahead : (p : ℕ → Bool) (is : List ℕ) (at i : ℕ) → find p (drop at is) ≡ find p is → at < length is → i ≡ get_or is at i → find p is ≡ find p (i ∷ drop (at + 1) is)
ahead p is at i e h g = sym e ∙ at_drop_more (find p) is at i h ∙ ap (λ j. find p (j ∷ drop (at + 1) is)) (sym g)

pub find_here : (p : ℕ → Bool) (is : List ℕ) (at i : ℕ) → find p (drop at is) ≡ find p is → at < length is → i ≡ get_or is at i → p i ≡ true → Some i ≡ find p is
find_here p is at i e h g t = sym (ahead p is at i e h g ∙ first_is p i (drop (at + 1) is) t)

pub find_on : (p : ℕ → Bool) (is : List ℕ) (at i : ℕ) → find p (drop at is) ≡ find p is → at < length is → i ≡ get_or is at i → p i ≡ false → find p (drop (at + 1) is) ≡ find p is
find_on p is at i e h g t = sym (ahead p is at i e h g ∙ first_is_not p i (drop (at + 1) is) t)

pub find_none : (p : ℕ → Bool) (is : List ℕ) (at : ℕ) → find p (drop at is) ≡ find p is → length is ≤ at → None ≡ find p is
find_none p is at e h = sym (sym e ∙ at_drop_all (find p) is at h)
