-- Where a certified transaction goes.
use Rattle.std.proofs.Common.{◌≡◌, ℕ, suc, ◌≤◌, Bool, true, false, ◌&&◌, not, List, [], ◌∷◌, ◌++◌, refl, ap, ◌∙◌, sym, arith, subst}
use Rattle.std.specs.Prelude.{nat_le, nat_lt}
use Rattle.std.specs.List.{All, insert, list_all, prefix_len}
use Rattle.std.specs.Prelude.{Result, Ok, Err, OnOk, OnErr}
use Rattle.std.proofs.lemmas.List.Elements.{All-cons, All-head, All-nil, All-tail}
use Rattle.std.proofs.lemmas.Bool.Decides.{nat_tests}
use Rattle.paxos_forms.specs.declared.recovery.Given.{Given}
use Rattle.donor_recovery.specs.Donating.{HasNumber, IsAtMost, with_given}

abbrev pub before : ℕ → List Given → ℕ
before p xs = prefix_len (λ (x : Given). not (nat_lt p x.place)) xs

pub given_inserts : (xs : List Given) (g : Given) (k : ℕ) → k ≡ before g.place xs → with_given xs g ≡ insert xs k g
given_inserts [] g k e = let z : k ≡ 0 = e in rw z refl
given_inserts (x ∷ xs) g k e = go (nat_lt g.place x.place) refl (given_inserts xs g (before g.place xs) refl)
  where
    go : (u : Bool) → nat_lt g.place x.place ≡ u → with_given xs g ≡ insert xs (before g.place xs) g → with_given (x ∷ xs) g ≡ insert (x ∷ xs) k g
    go true f r = let z : k ≡ 0 = e ∙ (rw f refl) in rw (f, with_given, z) refl
    go false f r = let z : k ≡ suc (before g.place xs) = e ∙ (rw f (omega arith)) in rw (f, with_given, z) (ap (λ l. x ∷ l) r)

-- one at the greatest place goes behind all others
not_below : (a b c : ℕ) → nat_le a b ≡ true → b ≤ c → nat_lt c a ≡ false
not_below a b c e h = grind (arith, nat_tests)

first_two : (a b : Bool) → (a && b) ≡ true → (a ≡ true) × (b ≡ true)
first_two true true e = (refl, refl)
first_two true false e = cc
first_two false b e = cc

pub given_last : (xs : List Given) (g : Given) (p : ℕ) → IsAtMost p xs → p ≤ g.place → with_given xs g ≡ xs ++ g ∷ []
given_last [] g p e h = refl
given_last (x ∷ xs) g p e h =
    let t = first_two (nat_le x.place p) (list_all (λ g. nat_le g.place p) xs) e in
    let f : nat_lt g.place x.place ≡ false = not_below x.place p g.place t.0 h in
    rw (f, with_given) (ap (λ l. x ∷ l) (given_last xs g p t.1 h))

-- ---- what stays true of all

raised : (a b c : ℕ) → nat_le a b ≡ true → b ≤ c → nat_le a c ≡ true
raised a b c e h = grind (arith, nat_tests)

at_most : (a b : ℕ) → a ≤ b → nat_le a b ≡ true
at_most a b h = grind (arith, nat_tests)

both : (a b : Bool) → a ≡ true → b ≡ true → (a && b) ≡ true
both a b e f = rw (e, f) refl

pub rise : (xs : List Given) (p q : ℕ) → IsAtMost p xs → p ≤ q → IsAtMost q xs
rise [] p q e h = refl
rise (x ∷ xs) p q e h =
    let t = first_two (nat_le x.place p) (list_all (λ g. nat_le g.place p) xs) e in
    both (nat_le x.place q) (list_all (λ g. nat_le g.place q) xs) (raised x.place p q t.0 h) (rise xs p q t.1 h)

pub most_with : (xs : List Given) (g : Given) (p q : ℕ) → IsAtMost p xs → p ≤ q → g.place ≤ q → IsAtMost q (with_given xs g)
most_with [] g p q e h k = both (nat_le g.place q) true (at_most g.place q k) refl
most_with (x ∷ xs) g p q e h k = go (nat_lt g.place x.place) refl (most_with xs g p q t h k)
  where
    t : list_all (λ g. nat_le g.place p) xs ≡ true
    t = (first_two (nat_le x.place p) (list_all (λ g. nat_le g.place p) xs) e).1

    here : nat_le x.place q ≡ true
    here = raised x.place p q (first_two (nat_le x.place p) (list_all (λ g. nat_le g.place p) xs) e).0 h

    go : (u : Bool) → nat_lt g.place x.place ≡ u → IsAtMost q (with_given xs g) → IsAtMost q (with_given (x ∷ xs) g)
    go true f r = rw (f, with_given) (both _ _ (at_most g.place q k) (both _ _ here (rise xs p q t h)))
    go false f r = rw (f, with_given) (both _ _ here r)

pub numbers_with : (xs : List Given) (g : Given) → All HasNumber xs → HasNumber g → All HasNumber (with_given xs g)
numbers_with [] g h k = All-cons HasNumber g [] k (All-nil HasNumber)
numbers_with (x ∷ xs) g h k = go (nat_lt g.place x.place) refl (numbers_with xs g (All-tail HasNumber x xs h) k)
  where
    go : (u : Bool) → nat_lt g.place x.place ≡ u → All HasNumber (with_given xs g) → All HasNumber (with_given (x ∷ xs) g)
    go true f r = rw (f, with_given) (All-cons HasNumber g (x ∷ xs) k h)
    go false f r = rw (f, with_given) (All-cons HasNumber x (with_given xs g) (All-head HasNumber x xs h) r)

-- what a donor keeps of its certified transactions
abbrev pub Keeps : ℕ → List Given → Type 0
Keeps p xs = All HasNumber xs × IsAtMost p xs

pub keeps_with : (xs : List Given) (g : Given) (p q : ℕ) → Keeps p xs → HasNumber g → p ≤ q → g.place ≤ q → Keeps q (with_given xs g)
keeps_with xs g p q h k a b = (numbers_with xs g h.0 k, most_with xs g p q h.1 a b)

pub either_keeps : {A E : Type 0} (r : Result A E) (new done old : List Given) (p : ℕ) → OnOk r (new ≡ done) → OnErr r (new ≡ old) → Keeps p done → Keeps p old → Keeps p new
either_keeps (Ok x) new done old p ok err d o = subst (Keeps p) (sym ok) d
either_keeps (Err x) new done old p ok err d o = subst (Keeps p) (sym err) o
