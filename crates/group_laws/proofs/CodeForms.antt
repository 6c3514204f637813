-- The definitions in the forms that code has at hand.
use Rattle.std.proofs.Common.{◌≡◌, ◌⊎◌, ◌↔◌, inl, inr, ℕ, ◌<◌, List, [], ◌∷◌, ◌++◌, Option, Some, None, Bool, true, false, ltb, ltb-true, ltb-false, lt-ltb, le-ltb, ◌&&◌, ◌||◌, not, refl, sym, ◌∙◌, ap, arith}
use Rattle.std.specs.List.{list_any, list_all}
use Rattle.std.proofs.lemmas.Bool.{false≢true, and_parts, and_from, or_right}
use Rattle.group_rules.specs.Events.{Setup}
use Rattle.group_laws.specs.Lists.{Mem}
use Rattle.group_laws.specs.Names.{Inc, Gtid, Item, Txn}
use Rattle.group_laws.specs.Entries.{Value, Placed, Cert, certified}
use Rattle.group_laws.specs.View.{standing, active, everyone, told, has_in, bears, stable}
use Rattle.group_laws.specs.Verdict.{if_outside, later, kept_writer, kept_blocker}
use Rattle.group_laws.specs.Life.{Life, marked, executed}
use Rattle.group_laws.specs.Lawful.{HasAll}
use Rattle.group_laws.proofs.Lists.{any_mem, any_from, all_at}
use Rattle.group_laws.proofs.Views.{active_rank, stood_in}

all_from : {A : Type 0} (test : A → Bool) (xs : List A) → ((x : A) → Mem x xs → test x ≡ true) → list_all test xs ≡ true
all_from test [] h = refl
all_from test (x ∷ xs) h = and_from (test x) (list_all test xs) (h x (inl refl)) (all_from test xs (λ y i. h y (inr i)))

same_bool : (a b : Bool) → (a ≡ true → b ≡ true) → (b ≡ true → a ≡ true) → a ≡ b
same_bool true b f g = sym (f refl)
same_bool false true f g = g refl
same_bool false false f g = refl

abbrev some_one : List Inc → Bool
some_one [] = false
some_one (x ∷ xs) = true

some_mem : (os : List Inc) → some_one os ≡ true → (m : Inc) × Mem m os
some_mem [] h = absurd (false≢true h)
some_mem (x ∷ xs) h = (x, inl refl)

mem_some : (os : List Inc) (m : Inc) → Mem m os → some_one os ≡ true
mem_some [] m h = absurd h
mem_some (x ∷ xs) m h = refl

-- the stable set is the intersection of the last told sets over the list of the ONLINE members
pub stable_over : (r : Setup) (p : List Value) (g : Gtid) (os : List Inc) → ((m : Inc) → Mem m os ↔ (active r p m ≡ true)) → stable r p g ≡ (some_one os && list_all (λ m. has_in (told p m) g) os)
stable_over r p g os h = same_bool (stable r p g) (some_one os && list_all (λ m. has_in (told p m) g) os) to from
  where
    to : stable r p g ≡ true → (some_one os && list_all (λ m. has_in (told p m) g) os) ≡ true
    to e =
        let s = and_parts (list_any (active r p) (everyone r p)) (list_all (bears r p g) (everyone r p)) e in
        let x = any_mem (active r p) (everyone r p) s.0 in
        let one = mem_some os x.0 ((h x.0).1 x.2) in
        and_from (some_one os) (list_all (λ m. has_in (told p m) g) os) one (all_from (λ m. has_in (told p m) g) os (λ m i. each m i s.1))
      where
        each : (m : Inc) → Mem m os → list_all (bears r p g) (everyone r p) ≡ true → has_in (told p m) g ≡ true
        each m i q =
            let a = (h m).0 i in
            let k = active_rank (standing r p m) a in
            let j = stood_in r p m (omega (arith, k)) in
            let b : (not (active r p m) || has_in (told p m) g) ≡ true = all_at (bears r p g) (everyone r p) m q j in
            rw a at b

    from : (some_one os && list_all (λ m. has_in (told p m) g) os) ≡ true → stable r p g ≡ true
    from e =
        let s = and_parts (some_one os) (list_all (λ m. has_in (told p m) g) os) e in
        let x = some_mem os s.0 in
        let a = (h x.0).0 x.1 in
        let k = active_rank (standing r p x.0) a in
        let j = stood_in r p x.0 (omega (arith, k)) in
        and_from (list_any (active r p) (everyone r p)) (list_all (bears r p g) (everyone r p))
        (any_from (active r p) (everyone r p) x.0 j a)
        (all_from (bears r p g) (everyone r p) (λ m i. each m s.1))
      where
        each : (m : Inc) → list_all (λ m. has_in (told p m) g) os ≡ true → bears r p g m ≡ true
        each m q = at (active r p m) refl
          where
            at : (b : Bool) → active r p m ≡ b → (not (active r p m) || has_in (told p m) g) ≡ true
            at false z = rw z refl
            at true z =
                let y : has_in (told p m) g ≡ true = all_at (λ m. has_in (told p m) g) os m q ((h m).1 z) in
                or_right (not (active r p m)) (has_in (told p m) g) y

-- the best blocker so far, as a loop over the items has it
later_none : (o : Option Cert) → later o None ≡ o
later_none None = refl
later_none (Some c) = refl

pub later_assoc : (a b c : Option Cert) → later (later a b) c ≡ later a (later b c)
later_assoc None b c = refl
later_assoc (Some x) None c = refl
later_assoc (Some x) (Some y) None = later_none (later (Some x) (Some y))
later_assoc (Some x) (Some y) (Some z) = go (ltb x.place y.place) refl (ltb y.place z.place) refl
  where
    go : (a : Bool) → ltb x.place y.place ≡ a → (b : Bool) → ltb y.place z.place ≡ b → later (later (Some x) (Some y)) (Some z) ≡ later (Some x) (later (Some y) (Some z))
    go true p true q =
        let i = ltb-true x.place y.place p in
        let j = ltb-true y.place z.place q in
        let t : ltb x.place z.place ≡ true = lt-ltb x.place z.place (omega (arith, i, j)) in
        rw (p, q, t) refl
    go true p false q = rw (p, q, p) refl
    go false p true q = rw (p, q) refl
    go false p false q =
        let i = ltb-false x.place y.place p in
        let j = ltb-false y.place z.place q in
        let t : ltb x.place z.place ≡ false = le-ltb x.place z.place (omega (arith, i, j)) in
        rw (p, q, t, p) refl

pub blocker_append : (r : Setup) (m : List Placed) (t : Txn) (is js : List Item) → kept_blocker r m t (is ++ js) ≡ later (kept_blocker r m t is) (kept_blocker r m t js)
blocker_append r m t [] js = refl
blocker_append r m t (i ∷ is) js =
    ap (later (if_outside t (kept_writer r m i))) (blocker_append r m t is js)
    ∙ sym (later_assoc (if_outside t (kept_writer r m i)) (kept_blocker r m t is) (kept_blocker r m t js))

-- the step of that loop
pub blocker_push : (r : Setup) (m : List Placed) (t : Txn) (is : List Item) (i : Item) → kept_blocker r m t (is ++ i ∷ []) ≡ later (kept_blocker r m t is) (if_outside t (kept_writer r m i))
blocker_push r m t is i = blocker_append r m t is (i ∷ []) ∙ ap (later (kept_blocker r m t is)) (later_none (if_outside t (kept_writer r m i)))

-- the certified transactions that are not committed here, as places
abbrev pub IsPending : Setup → Life → List ℕ → Type 0
IsPending r l ps = (c : Cert) → Mem c (certified r (marked l)) → (executed l c.gtid ≡ true) ⊎ Mem c.place ps

-- a condition on a place holds where no place up to it is pending
pub none_pending : (r : Setup) (l : Life) (ps : List ℕ) (n : ℕ) → IsPending r l ps → ((p : ℕ) → Mem p ps → n < p) → HasAll r (marked l) n l
none_pending r l ps n h k d i lt = go (h d i)
  where
    go : (executed l d.gtid ≡ true) ⊎ Mem d.place ps → executed l d.gtid ≡ true
    go (inl e) = e
    go (inr j) = let x = k d.place j in absurd (omega (arith, x, lt))
