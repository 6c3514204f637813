-- The least of the lanes is the next letter of the rules.
use Rattle.std.proofs.Common.{◌≡◌, ◌⊎◌, inl, inr, ℕ, zero, suc, ◌+◌, ◌<◌, ◌≤◌, Bool, true, false, ◌&&◌, ◌||◌, ◌==◌, nat_lt, Option, Some, None, List, [], ◌∷◌, length, refl, sym, ap, ◌∙◌, arith, leb}
use Rattle.std.specs.Prelude.{option_map}
use Rattle.std.specs.List.{find, list_all, list_any, slice_get}
use Rattle.std.proofs.lemmas.Bool.{and_parts, or_cases, ltb-true, ltb-false, leb-true, le-leb, eqb-true, true≢false, false≢true}
use Rattle.std.proofs.lemmas.Option.{slice_get_within}
use Rattle.node_rules.proofs.Incs.{inc_is}
use Rattle.gr_ids.specs.Names.{has_inc, inc_eq}
use Rattle.gr_ids.specs.declared.names.Inc.{Inc}
use Rattle.group_rules.specs.Script.{Letter, is_among, is_next, next_letter}
use Rattle.group_rules.specs.World.{World, runs}
use Rattle.world_wire.specs.Nexts.{are_among, is_next_at, is_next_of, is_open, lower, passes, serves}
use Rattle.world_wire.specs.Lanes.{IsIndex, LaneOf, has_index, is_between, lists, next_in, next_of_lane, rises}

-- ---- the least number that passes

abbrev is_at_most : Option ℕ → ℕ → Bool
is_at_most None m = false
is_at_most (Some k) m = leb k m

abbrev holds : (ℕ → Bool) → Option ℕ → Bool
holds t None = true
holds t (Some k) = t k

record IsLeast (t : ℕ → Bool) (r : Option ℕ) : Type 0 where
  holding : holds t r ≡ true
  least : (m : ℕ) → t m ≡ true → is_at_most r m ≡ true

unique : (t : ℕ → Bool) (r s : Option ℕ) → IsLeast t r → IsLeast t s → r ≡ s
unique t None None p q = refl
unique t None (Some k) p q = absurd (false≢true (p.least k q.holding))
unique t (Some k) None p q = absurd (false≢true (q.least k p.holding))
unique t (Some k) (Some j) p q =
    let low : k ≤ j = leb-true k j (p.least j q.holding) in
    let high : j ≤ k = leb-true j k (q.least k p.holding) in
    let same : k ≡ j = omega arith in
    ap (λ n. Some n) same

lower_second : (i j : ℕ) → nat_lt j i ≡ true → lower (Some i) (Some j) ≡ Some j
lower_second i j f = rw (f, lower) refl

lower_first : (i j : ℕ) → nat_lt j i ≡ false → lower (Some i) (Some j) ≡ Some i
lower_first i j f = rw (f, lower) refl

lower_holds : (t : ℕ → Bool) (a b : Option ℕ) → holds t a ≡ true → holds t b ≡ true → holds t (lower a b) ≡ true
lower_holds t None b g h = h
lower_holds t (Some i) None g h = g
lower_holds t (Some i) (Some j) g h = go (nat_lt j i) refl
  where
    go : (b : Bool) → nat_lt j i ≡ b → holds t (lower (Some i) (Some j)) ≡ true
    go true f = ap (holds t) (lower_second i j f) ∙ h
    go false f = ap (holds t) (lower_first i j f) ∙ g

lower_left : (a b : Option ℕ) (m : ℕ) → is_at_most a m ≡ true → is_at_most (lower a b) m ≡ true
lower_left None b m h = absurd (false≢true h)
lower_left (Some i) None m h = h
lower_left (Some i) (Some j) m h = go (nat_lt j i) refl
  where
    go : (b : Bool) → nat_lt j i ≡ b → is_at_most (lower (Some i) (Some j)) m ≡ true
    go true f = ap (λ o. is_at_most o m) (lower_second i j f) ∙ le-leb j m (omega (arith, ltb-true j i f, leb-true i m h))
    go false f = ap (λ o. is_at_most o m) (lower_first i j f) ∙ h

lower_right : (a b : Option ℕ) (m : ℕ) → is_at_most b m ≡ true → is_at_most (lower a b) m ≡ true
lower_right None b m h = h
lower_right (Some i) None m h = absurd (false≢true h)
lower_right (Some i) (Some j) m h = go (nat_lt j i) refl
  where
    go : (b : Bool) → nat_lt j i ≡ b → is_at_most (lower (Some i) (Some j)) m ≡ true
    go true f = ap (λ o. is_at_most o m) (lower_second i j f) ∙ h
    go false f = ap (λ o. is_at_most o m) (lower_first i j f) ∙ le-leb i m (omega (arith, ltb-false j i f, leb-true j m h))

-- ---- the first in a list that rises

find_holds : (t : ℕ → Bool) (is : List ℕ) → holds t (find t is) ≡ true
find_holds t [] = refl
find_holds t (i ∷ is) = go (t i) refl (find_holds t is)
  where
    go : (b : Bool) → t i ≡ b → holds t (find t is) ≡ true → holds t (find t (i ∷ is)) ≡ true
    go true f r = rw f f
    go false f r = rw f r

below_has : (is : List ℕ) (i m : ℕ) → list_all (λ j. nat_lt i j) is ≡ true → has_index is m ≡ true → i < m
below_has [] i m a h = absurd (false≢true h)
below_has (j ∷ is) i m a h = go (or_cases (j == m) (has_index is m) h) (below_has is i m (and_parts (nat_lt i j) (list_all (λ k. nat_lt i k) is) a).1)
  where
    go : ((j == m) ≡ true) ⊎ (has_index is m ≡ true) → (has_index is m ≡ true → i < m) → i < m
    go (inl e) k = omega (arith, eqb-true j m e, ltb-true i j (and_parts (nat_lt i j) (list_all (λ n. nat_lt i n) is) a).0)
    go (inr r) k = k r

find_least : (t : ℕ → Bool) (is : List ℕ) (m : ℕ) → rises is ≡ true → has_index is m ≡ true → t m ≡ true → is_at_most (find t is) m ≡ true
find_least t [] m r h g = absurd (false≢true h)
find_least t (i ∷ is) m r h g = go (t i) refl (or_cases (i == m) (has_index is m) h) (λ k. find_least t is m (and_parts (list_all (λ j. nat_lt i j) is) (rises is) r).1 k g)
  where
    go : (b : Bool) → t i ≡ b → ((i == m) ≡ true) ⊎ (has_index is m ≡ true) → (has_index is m ≡ true → is_at_most (find t is) m ≡ true) → is_at_most (find t (i ∷ is)) m ≡ true
    go true f (inl e) k = rw f (le-leb i m (omega (arith, eqb-true i m e)))
    go true f (inr e) k = rw f (le-leb i m (omega (arith, below_has is i m (and_parts (list_all (λ j. nat_lt i j) is) (rises is) r).0 e)))
    go false f (inl e) k = absurd (true≢false (sym g ∙ ap t (sym (eqb-true i m e)) ∙ f))
    go false f (inr e) k = rw f (k e)

-- ---- the least of all lanes

module _ (ns : List ℕ) (is : List Inc) (xs : List Letter) where
  served_lane : (l : LaneOf) → serves ns is l.from l.to ≡ true → next_of_lane ns is xs l ≡ find (is_next_at ns is xs) l.indexes
  served_lane l f = rw (f, next_of_lane) refl

  other_lane : (l : LaneOf) → serves ns is l.from l.to ≡ false → next_of_lane ns is xs l ≡ None
  other_lane l f = rw (f, next_of_lane) refl

  lane_holds : (l : LaneOf) → holds (is_next_at ns is xs) (next_of_lane ns is xs l) ≡ true
  lane_holds l = go (serves ns is l.from l.to) refl
    where
      go : (b : Bool) → serves ns is l.from l.to ≡ b → holds (is_next_at ns is xs) (next_of_lane ns is xs l) ≡ true
      go true f = ap (holds (is_next_at ns is xs)) (served_lane l f) ∙ find_holds (is_next_at ns is xs) l.indexes
      go false f = ap (holds (is_next_at ns is xs)) (other_lane l f)

  next_holds : (o : Option ℕ) (ls : List LaneOf) → holds (is_next_at ns is xs) o ≡ true → holds (is_next_at ns is xs) (next_in ns is xs o ls) ≡ true
  next_holds o [] h = h
  next_holds o (l ∷ ls) h = next_holds (lower o (next_of_lane ns is xs l)) ls (lower_holds (is_next_at ns is xs) o (next_of_lane ns is xs l) h (lane_holds l))

  next_keeps : (o : Option ℕ) (ls : List LaneOf) (m : ℕ) → is_at_most o m ≡ true → is_at_most (next_in ns is xs o ls) m ≡ true
  next_keeps o [] m h = h
  next_keeps o (l ∷ ls) m h = next_keeps (lower o (next_of_lane ns is xs l)) ls m (lower_left o (next_of_lane ns is xs l) m h)

  -- the lane of a letter that is next is served
  served : (l : LaneOf) (x : Letter) → is_between x.message.to x.message.from.server l ≡ true → is_next_of ns is x ≡ true → serves ns is l.from l.to ≡ true
  served l x b n =
      let parts = and_parts (inc_eq l.to x.message.to) (l.from == x.message.from.server) b in
      let to : l.to ≡ x.message.to = inc_is l.to x.message.to parts.0 in
      let from : l.from ≡ x.message.from.server = eqb-true l.from x.message.from.server parts.1 in
      let there : serves ns is x.message.from.server x.message.to ≡ true = (and_parts (is_open x) (serves ns is x.message.from.server x.message.to) n).1 in
      ap (λ f. serves ns is f l.to) from ∙ ap (λ t. serves ns is x.message.from.server t) to ∙ there

  lane_least : (l : LaneOf) (m : ℕ) (x : Letter) → rises l.indexes ≡ true → slice_get xs m ≡ Some x → is_next_of ns is x ≡ true → lists m x l ≡ true → is_at_most (next_of_lane ns is xs l) m ≡ true
  lane_least l m x r e n h =
      let parts = and_parts (is_between x.message.to x.message.from.server l) (has_index l.indexes m) h in
      let yes : serves ns is l.from l.to ≡ true = served l x parts.0 n in
      let t : is_next_at ns is xs m ≡ true = ap (λ o. passes (is_next_of ns is) o) e ∙ n in
      ap (λ o. is_at_most o m) (served_lane l yes) ∙ find_least (is_next_at ns is xs) l.indexes m r parts.1 t

  next_finds : (o : Option ℕ) (ls : List LaneOf) (m : ℕ) (x : Letter) → list_all (λ l. rises l.indexes) ls ≡ true → slice_get xs m ≡ Some x → is_next_of ns is x ≡ true
      → list_any (lists m x) ls ≡ true → is_at_most (next_in ns is xs o ls) m ≡ true
  next_finds o [] m x r e n h = absurd (false≢true h)
  next_finds o (l ∷ ls) m x r e n h =
      go (or_cases (lists m x l) (list_any (lists m x) ls) h) (next_finds (lower o (next_of_lane ns is xs l)) ls m x (and_parts (rises l.indexes) (list_all (λ k. rises k.indexes) ls) r).1 e n)
    where
      go : (lists m x l ≡ true) ⊎ (list_any (lists m x) ls ≡ true) → (list_any (lists m x) ls ≡ true → is_at_most (next_in ns is xs (lower o (next_of_lane ns is xs l)) ls) m ≡ true)
          → is_at_most (next_in ns is xs o (l ∷ ls)) m ≡ true
      go (inl i) k = next_keeps (lower o (next_of_lane ns is xs l)) ls m (lower_right o (next_of_lane ns is xs l) m
          (lane_least l m x (and_parts (rises l.indexes) (list_all (λ j. rises j.indexes) ls) r).0 e n i))
      go (inr i) k = k i

  lanes_least : (ls : List LaneOf) → IsIndex ls xs → IsLeast (is_next_at ns is xs) (next_in ns is xs None ls)
  lanes_least ls ix = record {
    holding = next_holds None ls refl;
    least = λ m t. go m (slice_get xs m) refl t;
  }
    where
      go : (m : ℕ) (o : Option Letter) → slice_get xs m ≡ o → passes (is_next_of ns is) (slice_get xs m) ≡ true → is_at_most (next_in ns is xs None ls) m ≡ true
      go m None e t = absurd (false≢true (sym (ap (λ o. passes (is_next_of ns is) o) e) ∙ t))
      go m (Some x) e t =
          let n : is_next_of ns is x ≡ true = sym (ap (λ o. passes (is_next_of ns is) o) e) ∙ t in
          next_finds None ls m x ix.rising e n (ix.complete m x e (and_parts (is_open x) (serves ns is x.message.from.server x.message.to) n).0)

  pub next_within : (ls : List LaneOf) (k : ℕ) → next_in ns is xs None ls ≡ Some k → k < length xs
  next_within ls k e = go (slice_get xs k) refl
    where
      there : passes (is_next_of ns is) (slice_get xs k) ≡ true
      there = sym (ap (holds (is_next_at ns is xs)) e) ∙ next_holds None ls refl

      go : (o : Option Letter) → slice_get xs k ≡ o → k < length xs
      go None f = absurd (false≢true (sym (ap (λ o. passes (is_next_of ns is) o) f) ∙ there))
      go (Some x) f = slice_get_within xs k x f

-- ---- the rules' search

abbrev first : (Letter → Bool) → List Letter → Option ℕ
first p [] = None
first p (x ∷ xs) = elim (p x) [ true ↦ Some 0 | false ↦ option_map suc (first p xs) ]

first_is_least : (p : Letter → Bool) (xs : List Letter) → IsLeast (λ k. passes p (slice_get xs k)) (first p xs)
first_is_least p [] = record { holding = refl; least = λ m h. absurd (false≢true h) }
first_is_least p (x ∷ xs) = go (p x) refl (first_is_least p xs)
  where
    later_holds : (o : Option ℕ) → holds (λ k. passes p (slice_get xs k)) o ≡ true → holds (λ k. passes p (slice_get (x ∷ xs) k)) (option_map suc o) ≡ true
    later_holds None h = refl
    later_holds (Some k) h = h

    later_most : (o : Option ℕ) (m : ℕ) → is_at_most o m ≡ true → is_at_most (option_map suc o) (suc m) ≡ true
    later_most None m h = h
    later_most (Some k) m h = le-leb (suc k) (suc m) (omega (arith, leb-true k m h))

    later_least : (o : Option ℕ) → p x ≡ false → ((m : ℕ) → passes p (slice_get xs m) ≡ true → is_at_most o m ≡ true) → (m : ℕ) → passes p (slice_get (x ∷ xs) m) ≡ true → is_at_most (option_map suc o) m ≡ true
    later_least o f h zero t = absurd (true≢false (sym t ∙ f))
    later_least o f h (suc m) t = later_most o m (h m t)

    go : (b : Bool) → p x ≡ b → IsLeast (λ k. passes p (slice_get xs k)) (first p xs) → IsLeast (λ k. passes p (slice_get (x ∷ xs) k)) (first p (x ∷ xs))
    go true f r = rw (f, first) (record { holding = f; least = λ m h. le-leb 0 m (omega arith) })
    go false f r = rw (f, first) (record { holding = later_holds (first p xs) r.holding; least = later_least (first p xs) f r.least })

first_here : (p : Letter → Bool) (x : Letter) (xs : List Letter) → p x ≡ true → first p (x ∷ xs) ≡ Some 0
first_here p x xs f = rw (f, first) refl

first_later : (p : Letter → Bool) (x : Letter) (xs : List Letter) → p x ≡ false → first p (x ∷ xs) ≡ option_map suc (first p xs)
first_later p x xs f = rw (f, first) refl

first_same : (p q : Letter → Bool) → ((x : Letter) → p x ≡ q x) → (xs : List Letter) → first p xs ≡ first q xs
first_same p q h [] = refl
first_same p q h (x ∷ xs) = go (q x) refl (first_same p q h xs)
  where
    go : (b : Bool) → q x ≡ b → first p xs ≡ first q xs → first p (x ∷ xs) ≡ first q (x ∷ xs)
    go true f r = rw (h x, f, first) refl
    go false f r = rw (h x, f, first) (ap (option_map suc) r)

search_ends : (w : World) (ns : List ℕ) (j : ℕ) (x : Letter) (xs : List Letter) → is_next w ns x ≡ true → next_letter w ns j (x ∷ xs) ≡ Some j
search_ends w ns j x xs f = rw (f, next_letter) refl

search_goes_on : (w : World) (ns : List ℕ) (j : ℕ) (x : Letter) (xs : List Letter) → is_next w ns x ≡ false → next_letter w ns j (x ∷ xs) ≡ next_letter w ns (suc j) xs
search_goes_on w ns j x xs f = rw (f, next_letter) refl

search_is_first : (w : World) (ns : List ℕ) (j : ℕ) (xs : List Letter) → next_letter w ns j xs ≡ option_map (λ i. j + i) (first (is_next w ns) xs)
search_is_first w ns j [] = refl
search_is_first w ns j (x ∷ xs) = go (is_next w ns x) refl (search_is_first w ns (suc j) xs)
  where
    shift : (o : Option ℕ) → option_map (λ i. suc j + i) o ≡ option_map (λ i. j + i) (option_map suc o)
    shift None = refl
    shift (Some i) = let e : suc j + i ≡ j + suc i = omega arith in ap (λ n. Some n) e

    go : (b : Bool) → is_next w ns x ≡ b → next_letter w ns (suc j) xs ≡ option_map (λ i. suc j + i) (first (is_next w ns) xs) → next_letter w ns j (x ∷ xs) ≡ option_map (λ i. j + i) (first (is_next w ns) (x ∷ xs))
    go true f r = let e : j ≡ j + 0 = omega arith in search_ends w ns j x xs f ∙ (ap (λ n. Some n) e ∙ ap (option_map (λ i. j + i)) (sym (first_here (is_next w ns) x xs f)))
    go false f r = search_goes_on w ns j x xs f ∙ (r ∙ (shift (first (is_next w ns) xs) ∙ ap (option_map (λ i. j + i)) (sym (first_later (is_next w ns) x xs f))))

among_is : (ns : List ℕ) (x : Letter) → is_among ns x.message ≡ are_among ns x.message.from.server x.message.to.server
among_is [] x = refl
among_is (n ∷ ns) x = refl

next_test : (w : World) (ns : List ℕ) (is : List Inc) → ((i : Inc) → runs w i ≡ has_inc is i) → (x : Letter) → is_next w ns x ≡ is_next_of ns is x
next_test w ns is h x = go (x.delivered || x.lost) refl
  where
    closed : (x.delivered || x.lost) ≡ true → is_next w ns x ≡ false
    closed f = rw (f, is_next) refl

    stands : (x.delivered || x.lost) ≡ false → is_next w ns x ≡ (is_among ns x.message && runs w x.message.to)
    stands f = rw (f, is_next) refl

    not_open : (x.delivered || x.lost) ≡ true → is_open x ≡ false
    not_open f = rw (f, is_open) refl

    open_now : (x.delivered || x.lost) ≡ false → is_open x ≡ true
    open_now f = rw (f, is_open) refl

    go : (b : Bool) → (x.delivered || x.lost) ≡ b → is_next w ns x ≡ is_next_of ns is x
    go true f = closed f ∙ sym (ap (λ b. b && serves ns is x.message.from.server x.message.to) (not_open f))
    go false f =
        stands f
        ∙ (ap (λ a. a && runs w x.message.to) (among_is ns x)
        ∙ (ap (λ r. are_among ns x.message.from.server x.message.to.server && r) (h x.message.to)
        ∙ sym (ap (λ b. b && serves ns is x.message.from.server x.message.to) (open_now f))))

-- from the index to the rules' number
pub next_is : (w : World) (ns : List ℕ) (is : List Inc) (xs : List Letter) (ls : List LaneOf) → ((i : Inc) → runs w i ≡ has_inc is i) → IsIndex ls xs
    → option_map suc (next_in ns is xs None ls) ≡ next_letter w ns 1 xs
next_is w ns is xs ls h ix =
    ap (option_map suc) (unique (is_next_at ns is xs) (next_in ns is xs None ls) (first (is_next_of ns is) xs) (lanes_least ns is xs ls ix) (first_is_least (is_next_of ns is) xs))
    ∙ (one (first (is_next_of ns is) xs)
    ∙ (ap (option_map (λ i. 1 + i)) (sym (first_same (is_next w ns) (is_next_of ns is) (next_test w ns is h) xs))
    ∙ sym (search_is_first w ns 1 xs)))
  where
    one : (o : Option ℕ) → option_map suc o ≡ option_map (λ i. 1 + i) o
    one None = refl
    one (Some i) = let e : suc i ≡ 1 + i = omega arith in ap (λ n. Some n) e
