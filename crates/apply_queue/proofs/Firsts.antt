-- The first that passes a test: where it stands, and what a change of it leaves.
use Rattle.std.proofs.Common.{◌≡◌, ℕ, zero, suc, ◌+◌, ◌<◌, ◌≤◌, Bool, true, false, not, Some, None, List, [], ◌∷◌, take, length, get_or, slice_get, refl, sym, ap, ◌∙◌, arith}
use Rattle.std.specs.Prelude.{slice_set}
use Rattle.std.specs.List.{find, prefix_len, list_all}
use Rattle.std.proofs.lemmas.Bool.{true≢false, cases_lt}
use Rattle.std.proofs.lemmas.Option.{slice_get-get_or}
use Rattle.std.proofs.Common.{inl, inr}
use Rattle.gr_ids.specs.declared.names.Gtid.{Gtid}
use Rattle.apply_queue.specs.Queues.{Mark, Waiting, Out, Done, is_waiting}
use Rattle.apply_queue.specs.Queues.{Queued, with_first}

-- how many stand before the first that passes
abbrev pub before : (Queued → Bool) → List Queued → ℕ
before p qs = prefix_len (λ q. not (p q)) qs

one_more : (n : ℕ) → 1 + n ≡ suc n
one_more n = omega arith

pub find_at : (p : Queued → Bool) (qs : List Queued) → find p qs ≡ slice_get qs (before p qs)
find_at p [] = refl
find_at p (q ∷ qs) = go (p q) refl (find_at p qs)
  where
    go : (b : Bool) → p q ≡ b → find p qs ≡ slice_get qs (before p qs) → find p (q ∷ qs) ≡ slice_get (q ∷ qs) (before p (q ∷ qs))
    go true f r = rw f refl
    go false f r = rw f (rw one_more r)

pub first_at : (p : Queued → Bool) (f : Queued → Queued) (qs : List Queued) (q : Queued) → slice_get qs (before p qs) ≡ Some q → with_first p f qs ≡ slice_set qs (before p qs) (f q)
first_at p f [] q e = refl
first_at p f (x ∷ xs) q e = go (p x) refl (first_at p f xs q)
  where
    go : (b : Bool) → p x ≡ b → (slice_get xs (before p xs) ≡ Some q → with_first p f xs ≡ slice_set xs (before p xs) (f q)) → with_first p f (x ∷ xs) ≡ slice_set (x ∷ xs) (before p (x ∷ xs)) (f q)
    go true g r =
        let is : Some x ≡ Some q = rw g at e in
        let same : x ≡ q = cc in
        rw g (ap (λ y. f y ∷ xs) same)
    go false g r =
        let later : slice_get xs (before p xs) ≡ Some q = rw one_more at (rw g at e) in
        rw g (rw one_more (ap (λ l. x ∷ l) (r later)))

-- those before a place pass, and it doesn't
pub prefix_is : (p : Queued → Bool) (xs : List Queued) (k : ℕ) (q : Queued) → list_all p (take k xs) ≡ true → k < length xs → q ≡ get_or xs k q → p q ≡ false → prefix_len p xs ≡ k
prefix_is p [] k q a h g n = absurd (omega (arith, h))
prefix_is p (x ∷ xs) zero q a h g n = let none : p x ≡ false = ap p (sym g) ∙ n in rw none refl
prefix_is p (x ∷ xs) (suc k) q a h g n = go (p x) refl (prefix_is p xs k q)
  where
    go : (b : Bool) → p x ≡ b → (list_all p (take k xs) ≡ true → k < length xs → q ≡ get_or xs k q → p q ≡ false → prefix_len p xs ≡ k) → prefix_len p (x ∷ xs) ≡ suc k
    go true f r = let later : list_all p (take k xs) ≡ true = rw f at a in rw f (one_more (prefix_len p xs) ∙ ap (λ m. suc m) (r later (omega (arith, h)) g n))
    go false f r = absurd (let z : false ≡ true = rw f at a in true≢false (sym z))

-- all pass
pub prefix_all : (p : Queued → Bool) (xs : List Queued) (k : ℕ) → list_all p (take k xs) ≡ true → length xs ≤ k → length xs ≡ prefix_len p xs
prefix_all p [] k a h = refl
prefix_all p (x ∷ xs) zero a h = absurd (omega (arith, h))
prefix_all p (x ∷ xs) (suc k) a h = go (p x) refl (prefix_all p xs k)
  where
    go : (b : Bool) → p x ≡ b → (list_all p (take k xs) ≡ true → length xs ≤ k → length xs ≡ prefix_len p xs) → length (x ∷ xs) ≡ prefix_len p (x ∷ xs)
    go true f r = let later : list_all p (take k xs) ≡ true = rw f at a in rw f (ap (λ m. suc m) (r later (omega (arith, h))) ∙ sym (one_more (prefix_len p xs)))
    go false f r = absurd (let z : false ≡ true = rw f at a in true≢false (sym z))

pub prefix_passes : (p : Queued → Bool) (xs : List Queued) → list_all p (take (prefix_len p xs) xs) ≡ true
prefix_passes p [] = refl
prefix_passes p (x ∷ xs) = go (p x) refl (prefix_passes p xs)
  where
    go : (b : Bool) → p x ≡ b → list_all p (take (prefix_len p xs) xs) ≡ true → list_all p (take (prefix_len p (x ∷ xs)) (x ∷ xs)) ≡ true
    go true f r = rw f (rw (one_more, f) r)
    go false f r = rw f refl

pub prefix_within : (p : Queued → Bool) (xs : List Queued) → prefix_len p xs ≤ length xs
prefix_within p [] = omega arith
prefix_within p (x ∷ xs) = go (p x) refl (prefix_within p xs)
  where
    go : (b : Bool) → p x ≡ b → prefix_len p xs ≤ length xs → prefix_len p (x ∷ xs) ≤ length (x ∷ xs)
    go true f r = rw f (omega arith)
    go false f r = rw f (omega arith)

-- ---- what stands at the index

past : (qs : List Queued) (k : ℕ) → length qs ≤ k → slice_get qs k ≡ None
past [] k h = refl
past (q ∷ qs) zero h = absurd (omega (arith, h))
past (q ∷ qs) (suc k) h = past qs k (omega (arith, h))

got : (qs : List Queued) (k : ℕ) (q : Queued) → k < length qs → q ≡ get_or qs k q → slice_get qs k ≡ Some q
got qs k q h g = slice_get-get_or qs k q h ∙ ap (λ (x : Queued). Some x) (sym g)

pub nobody : (p : Queued → Bool) (qs : List Queued) (k : ℕ) → k ≡ before p qs → (k < length qs → ⊥) → find p qs ≡ None
nobody p qs k e n = find_at p qs ∙ (ap (slice_get qs) (sym e) ∙ elim (cases_lt k (length qs)) [ inl less ↦ absurd (n less) | inr from ↦ past qs k from ])

pub somebody : (p : Queued → Bool) (qs : List Queued) (k : ℕ) (q : Queued) → k ≡ before p qs → k < length qs → q ≡ get_or qs k q → find p qs ≡ Some q
somebody p qs k q e h g = find_at p qs ∙ (ap (slice_get qs) (sym e) ∙ got qs k q h g)

pub changed_there : (p : Queued → Bool) (f : Queued → Queued) (qs : List Queued) (k : ℕ) (q : Queued) → k ≡ before p qs → k < length qs → q ≡ get_or qs k q → with_first p f qs ≡ slice_set qs k (f q)
changed_there p f qs k q e h g = first_at p f qs q (ap (slice_get qs) (sym e) ∙ got qs k q h g) ∙ ap (λ n. slice_set qs n (f q)) (sym e)

pub set_length : (qs : List Queued) (k : ℕ) (q : Queued) → length (slice_set qs k q) ≡ length qs
set_length [] k q = refl
set_length (x ∷ xs) zero q = refl
set_length (x ∷ xs) (suc k) q = ap (λ n. suc n) (set_length xs k q)

passes : (p : Queued → Bool) (qs : List Queued) (q : Queued) → find p qs ≡ Some q → p q ≡ true
passes p [] q e = absurd cc
passes p (x ∷ xs) q e = go (p x) refl (passes p xs q)
  where
    go : (b : Bool) → p x ≡ b → (find p xs ≡ Some q → p q ≡ true) → p q ≡ true
    go true f r = let is : Some x ≡ Some q = rw f at e in let same : x ≡ q = cc in ap p (sym same) ∙ f
    go false f r = r (rw f at e)

-- a queued place by its fields
pub fields_of : (q : Queued) (p : ℕ) (g : Gtid) (b : List ℕ) (m : Mark) → p ≡ q.place → g ≡ q.gtid → b ≡ q.body → q.mark ≡ m → q ≡ record { place = p; gtid = g; body = b; mark = m }
fields_of q p g b m hp hg hb hm = rw (hp, hg, hb) (ap (λ (n : Mark). record { place = q.place; gtid = q.gtid; body = q.body; mark = n }) hm)

pub mark_waits : (q : Queued) → is_waiting q ≡ true → q.mark ≡ Waiting
mark_waits q h = go q.mark refl
  where
    go : (m : Mark) → q.mark ≡ m → q.mark ≡ Waiting
    go Waiting e = e
    go Out e = absurd (true≢false (sym h ∙ ap (λ (n : Mark). is_waiting (record q { mark = n })) e))
    go (Done cs ws) e = absurd (true≢false (sym h ∙ ap (λ (n : Mark). is_waiting (record q { mark = n })) e))

pub waits_at : (qs : List Queued) (q : Queued) → find is_waiting qs ≡ Some q → q.mark ≡ Waiting
waits_at qs q e = mark_waits q (passes is_waiting qs q e)
