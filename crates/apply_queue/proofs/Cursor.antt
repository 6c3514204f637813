-- Those before the cursor still pass, whatever is put, taken or changed.
use Rattle.std.proofs.Common.{◌≡◌, ℕ, zero, suc, ◌-◌, ◌≤◌, Bool, true, List, [], ◌∷◌, ◌++◌, take, length, refl, ap, ◌∙◌, arith}
use Rattle.std.specs.Prelude.{slice_set}
use Rattle.std.specs.List.{list_all}
use Rattle.std.proofs.lemmas.Bool.{and_parts}
use Rattle.std.proofs.lemmas.List.{take-append-le}
use Rattle.apply_queue.specs.Queues.{Queued}

pub after_put : (p : Queued → Bool) (xs ys : List Queued) (n : ℕ) → n ≤ length xs → list_all p (take n xs) ≡ true → list_all p (take n (xs ++ ys)) ≡ true
after_put p xs ys n h a = ap (list_all p) (take-append-le n xs ys h) ∙ a

pub after_taken : (p : Queued → Bool) (x : Queued) (xs : List Queued) (n : ℕ) → list_all p (take n (x ∷ xs)) ≡ true → list_all p (take (n - 1) xs) ≡ true
after_taken p x xs zero a = refl
after_taken p x xs (suc n) a = let less : suc n - 1 ≡ n = omega arith in rw less (and_parts (p x) (list_all p (take n xs)) a).1

pub after_change : (p : Queued → Bool) (xs : List Queued) (n k : ℕ) (y : Queued) → p y ≡ true → list_all p (take n xs) ≡ true → list_all p (take n (slice_set xs k y)) ≡ true
after_change p [] n k y h a = a
after_change p (x ∷ xs) zero k y h a = refl
after_change p (x ∷ xs) (suc n) zero y h a = rw h (and_parts (p x) (list_all p (take n xs)) a).1
after_change p (x ∷ xs) (suc n) (suc k) y h a = let q = and_parts (p x) (list_all p (take n xs)) a in rw q.0 (after_change p xs n k y h q.1)
