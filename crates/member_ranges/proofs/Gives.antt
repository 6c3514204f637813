-- What a member gives can be spelt, and so can what its server keeps.
use Rattle.std.proofs.Common.{◌≡◌, ◌⊎◌, inl, inr, ℕ, suc, ◌≤◌, Bool, true, false, not, Option, Some, None, IfSome, List, [], ◌∷◌, refl, sym, ap, subst, ◌∙◌, arith, length}
use Rattle.std.specs.Prelude.{filter, map, nat_le, nat_lt}
use Rattle.std.proofs.lemmas.Bool.{leb-true}
use Rattle.byte_forms.specs.Lists.{IsChain}
use Rattle.gr_ids.specs.Names.{inc_eq}
use Rattle.gr_ids.specs.declared.names.Inc.{Inc}
use Rattle.gr_ids.specs.declared.names.LastNumber.{LastNumber}
use Rattle.gr_ids.specs.declared.names.OpenParts.{OpenParts}
use Rattle.name_forms.specs.Ids.{last_u64}
use Rattle.name_forms.specs.Incs.{IsIncAfter}
use Rattle.name_forms.specs.OpenParts.{IsOpenAfter, inc_of_parts}
use Rattle.gtid_sets.specs.Canonical.{IsCanonical}
use Rattle.gtid_sets.specs.Sets.{Gtids, has}
use Rattle.gtid_sets.specs.declared.told.ToldSet.{ToldSet}
use Rattle.gtid_sets.proofs.PutLemmas.{canonical_with_gtid}
use Rattle.slot_values.specs.Spelling.{last_u32}
use Rattle.txn_forms.proofs.OpenPlaces.{IsOpenFor}
use Rattle.paxos_forms.specs.Gives.{IsGive, IsGivenAfter, IsLastAfter, IsToldAfter, inc_of_last, inc_of_told, place_above}
use Rattle.paxos_forms.specs.declared.recovery.Give.{Give}
use Rattle.paxos_forms.specs.declared.recovery.Given.{Given}
use Rattle.node_rules.specs.Lists.{In}
use Rattle.node_rules.specs.declared.seat.Seat.{Seat}
use Rattle.order_laws.proofs.Lists.{in_filter}
use Rattle.group_rules.specs.Events.{Cert, Entry, Life, Setup, Took}
use Rattle.group_rules.specs.Life.{certs, entry_at, stored, upto, view}
use Rattle.group_rules.specs.Certifier.{certifier, last_of, numbers_of}
use Rattle.group_rules.specs.Member.{Member}
use Rattle.group_rules.specs.Parts.{open_parts}
use Rattle.group_rules.specs.Recovery.{all_parts, give_of, given_of, gtids_of}
use Rattle.group_rules.specs.Rows.{all_in, known, with_cert}
use Rattle.group_rules.specs.Told.{sets_of, told, told_of}
use Rattle.group_rules.specs.View.{is_online_state, online_incs, seated}
use Rattle.member_truth.specs.Truth.{IsTrue, Rise}
use Rattle.member_ranges.specs.Giving.{give_at_entry}
use Rattle.member_ranges.specs.Lives.{AllFit, AreGivable, IsGivable}
use Rattle.member_ranges.specs.Ranges.{InRange}
use Rattle.member_ranges.proofs.Chains.{Ascend, ascend_below, filter_shorter}
use Rattle.member_ranges.proofs.Histories.{Facts, facts, upto_entry}

-- ---- last numbers, told sets and open parts of ascending members

some_is : {A : Type 0} {x y : A} → Some x ≡ Some y → x ≡ y
some_is {x = x} {y = y} e = cc

last_small : (xs : List LastNumber) (i : Inc) (n : ℕ) → ((x : LastNumber) → In x xs → x.number ≤ last_u64) → last_of xs i ≡ Some n → n ≤ last_u64
last_small [] i n f h = absurd (cc h)
last_small (x ∷ xs) i n f h = go (inc_eq x.inc i) refl (last_small xs i n (λ y q. f y (inr q)))
  where
    go : (b : Bool) → inc_eq x.inc i ≡ b → (last_of xs i ≡ Some n → n ≤ last_u64) → n ≤ last_u64
    go true e r = let k : Some x.number ≡ Some n = rw (e, last_of) at h in subst (λ (z : ℕ). z ≤ last_u64) (some_is k) (f x (inl refl))
    go false e r = let k : last_of xs i ≡ Some n = rw (e, last_of) at h in r k

numbers_chain : (xs : List LastNumber) (is : List Inc) (b : Option LastNumber) → ((x : LastNumber) → In x xs → x.number ≤ last_u64) → Ascend (inc_of_last b) is → IsChain IsLastAfter b (numbers_of xs is)
numbers_chain xs [] b f up = tt
numbers_chain xs (i ∷ is) b f up = go (last_of xs i) refl (numbers_chain xs is)
  where
    go : (o : Option ℕ) → last_of xs i ≡ o → ((c : Option LastNumber) → ((x : LastNumber) → In x xs → x.number ≤ last_u64) → Ascend (inc_of_last c) is → IsChain IsLastAfter c (numbers_of xs is)) → IsChain IsLastAfter b (numbers_of xs (i ∷ is))
    go None e r = rw (e, numbers_of) (r b f (ascend_below is (inc_of_last b) i up.0 up.1))
    go (Some n) e r = rw (e, numbers_of) (record { inc = up.0; small = last_small xs i n f e }, r (Some (record { inc = i; number = n })) f up.1)

numbers_few : (xs : List LastNumber) (is : List Inc) → length (numbers_of xs is) ≤ length is
numbers_few xs [] = omega arith
numbers_few xs (i ∷ is) = go (last_of xs i) refl (numbers_few xs is)
  where
    go : (o : Option ℕ) → last_of xs i ≡ o → length (numbers_of xs is) ≤ length is → length (numbers_of xs (i ∷ is)) ≤ length (i ∷ is)
    go None e r = rw (e, numbers_of) (omega (arith, r))
    go (Some n) e r = rw (e, numbers_of) (omega (arith, r))

told_small : (xs : List ToldSet) (i : Inc) (s : Gtids) → ((x : ToldSet) → In x xs → IsCanonical x.set) → told_of xs i ≡ Some s → IsCanonical s
told_small [] i s f h = absurd (cc h)
told_small (x ∷ xs) i s f h = go (inc_eq x.inc i) refl (told_small xs i s (λ y q. f y (inr q)))
  where
    go : (b : Bool) → inc_eq x.inc i ≡ b → (told_of xs i ≡ Some s → IsCanonical s) → IsCanonical s
    go true e r = let k : Some x.set ≡ Some s = rw (e, told_of) at h in subst (λ z. IsCanonical z) (some_is k) (f x (inl refl))
    go false e r = let k : told_of xs i ≡ Some s = rw (e, told_of) at h in r k

sets_chain : (xs : List ToldSet) (is : List Inc) (b : Option ToldSet) → ((x : ToldSet) → In x xs → IsCanonical x.set) → Ascend (inc_of_told b) is → IsChain IsToldAfter b (sets_of xs is)
sets_chain xs [] b f up = tt
sets_chain xs (i ∷ is) b f up = go (told_of xs i) refl (sets_chain xs is)
  where
    go : (o : Option Gtids) → told_of xs i ≡ o → ((c : Option ToldSet) → ((x : ToldSet) → In x xs → IsCanonical x.set) → Ascend (inc_of_told c) is → IsChain IsToldAfter c (sets_of xs is)) → IsChain IsToldAfter b (sets_of xs (i ∷ is))
    go None e r = rw (e, sets_of) (r b f (ascend_below is (inc_of_told b) i up.0 up.1))
    go (Some s) e r = rw (e, sets_of) (record { inc = up.0; set = told_small xs i s f e }, r (Some (record { inc = i; set = s })) f up.1)

sets_few : (xs : List ToldSet) (is : List Inc) → length (sets_of xs is) ≤ length is
sets_few xs [] = omega arith
sets_few xs (i ∷ is) = go (told_of xs i) refl (sets_few xs is)
  where
    go : (o : Option Gtids) → told_of xs i ≡ o → length (sets_of xs is) ≤ length is → length (sets_of xs (i ∷ is)) ≤ length (i ∷ is)
    go None e r = rw (e, sets_of) (omega (arith, r))
    go (Some n) e r = rw (e, sets_of) (omega (arith, r))

open_one : (o : Inc) (b : Option OpenParts) (p : OpenParts) → IsIncAfter (inc_of_parts b) o → IsOpenFor o p → IsOpenAfter b p
open_one o b p i k = record { origin = subst (λ x. IsIncAfter (inc_of_parts b) x) (sym k.origin) i; held_above = k.held_above; held_below = k.held_below; count_below = k.count_below; bytes = k.bytes }

module _ (l : Life) (f : (o : Inc) → IfSome (open_parts l o) (IsOpenFor o)) where
  parts_chain : (is : List Inc) (b : Option OpenParts) → Ascend (inc_of_parts b) is → IsChain IsOpenAfter b (all_parts l is)
  parts_chain [] b up = tt
  parts_chain (i ∷ is) b up = go (open_parts l i) refl (f i) (parts_chain is)
    where
      go : (o : Option OpenParts) → open_parts l i ≡ o → IfSome o (IsOpenFor i) → ((c : Option OpenParts) → Ascend (inc_of_parts c) is → IsChain IsOpenAfter c (all_parts l is)) → IsChain IsOpenAfter b (all_parts l (i ∷ is))
      go None e k r = rw (e, all_parts) (r b (ascend_below is (inc_of_parts b) i up.0 up.1))
      go (Some p) e k r = rw (e, all_parts) (open_one i b p up.0 k, r (Some p) (subst (λ x. Ascend (Some x) is) (sym k.origin) up.1))

parts_few : (l : Life) (is : List Inc) → length (all_parts l is) ≤ length is
parts_few l [] = omega arith
parts_few l (i ∷ is) = go (open_parts l i) refl (parts_few l is)
  where
    go : (o : Option OpenParts) → open_parts l i ≡ o → length (all_parts l is) ≤ length is → length (all_parts l (i ∷ is)) ≤ length (i ∷ is)
    go None e r = rw (e, all_parts) (omega (arith, r))
    go (Some n) e r = rw (e, all_parts) (omega (arith, r))

-- those that are ONLINE
online_ascend : (ss : List Seat) (b : Option Inc) → Ascend b (seated ss) → Ascend b (seated (filter (λ s. is_online_state s.state) ss))
online_ascend [] b up = tt
online_ascend (s ∷ ss) b up = go (is_online_state s.state) refl (online_ascend ss (Some s.joiner.inc) up.1)
  where
    go : (u : Bool) → is_online_state s.state ≡ u → Ascend (Some s.joiner.inc) (seated (filter (λ s. is_online_state s.state) ss)) → Ascend b (seated (filter (λ s. is_online_state s.state) (s ∷ ss)))
    go true e r = rw e (up.0, r)
    go false e r = rw e (ascend_below (seated (filter (λ s. is_online_state s.state) ss)) b s.joiner.inc up.0 r)

seated_length : (ss : List Seat) → length (seated ss) ≡ length ss
seated_length [] = refl
seated_length (s ∷ ss) = ap suc (seated_length ss)

-- ---- certified transactions

in_with : (xs : List Cert) (c y : Cert) → In y (with_cert xs c) → (c ≡ y) ⊎ In y xs
in_with [] c y h = h
in_with (x ∷ xs) c y h = go (nat_lt c.place x.place) h (in_with xs c y)
  where
    go : (b : Bool) → In y (elim b [ true ↦ c ∷ x ∷ xs | false ↦ x ∷ with_cert xs c ]) → (In y (with_cert xs c) → (c ≡ y) ⊎ In y xs) → (c ≡ y) ⊎ In y (x ∷ xs)
    go true (inl e) f = inl e
    go true (inr k) f = inr k
    go false (inl e) f = inr (inl e)
    go false (inr k) f = elim (f k) [ inl e ↦ inl e | inr m ↦ inr (inr m) ]

in_all : (xs cs : List Cert) (y : Cert) → In y (all_in xs cs) → In y xs ⊎ In y cs
in_all xs [] y h = inl h
in_all xs (c ∷ cs) y h = elim (in_with (all_in xs cs) c y h) [ inl e ↦ inr (inl e) | inr k ↦ elim (in_all xs cs y k) [ inl m ↦ inl m | inr m ↦ inr (inr m) ] ]

pub known_givable : (s : Setup) (l : Life) → Facts s l → AreGivable (known l)
known_givable s l k c h = elim (in_all (all_in [] (stored l).committed) (certs l) c h) [
  | inl q ↦ elim (in_all [] (stored l).committed c q) [ inl z ↦ absurd z | inr z ↦ k.had c z ]
  | inr q ↦ k.given c q
]

rise_left : (p : Cert → Bool) (cs : List Cert) → Rise cs → Rise (filter p cs)
rise_left p [] h = tt
rise_left p (c ∷ cs) h = go (p c) refl (rise_left p cs h.1)
  where
    go : (u : Bool) → p c ≡ u → Rise (filter p cs) → Rise (filter p (c ∷ cs))
    go true e r = rw e ((λ d q. h.0 d (in_filter p cs d q)), r)
    go false e r = rw e r

known_rises : (s : Setup) (me : Inc) (l : Life) → IsTrue s me l → Rise (known l)
known_rises s me [] t = tt
known_rises s me (d ∷ l) t = t.2

pub canonical_of : (cs : List Cert) → AreGivable cs → IsCanonical (gtids_of cs)
canonical_of [] f = tt
canonical_of (c ∷ cs) f = let k = f c (inl refl) in canonical_with_gtid (gtids_of cs) c.gtid k.source k.number (canonical_of cs (λ d q. f d (inr q)))

given_chain : (p : ℕ) (cs : List Cert) (b : Option Given) → Rise cs → ((c : Cert) → In c cs → IsGivable c × (c.place ≤ p) × (place_above b ≤ c.place)) → IsChain (IsGivenAfter p) b (map given_of cs)
given_chain p [] b r f = tt
given_chain p (c ∷ cs) b r f =
    let k = f c (inl refl) in
    let g = k.0 in (
      record { above = k.2; below = k.1; origin = g.origin; gtid = record { source = g.source.long; number_above = g.number.0; number_below = g.number.1 }; body = g.body },
      given_chain p cs (Some (given_of c)) r.1 (λ d q. let z = f d (inr q) in let a = r.0 d q in (z.0, z.1, omega (arith, a))),
    )

in_holds : (p : Cert → Bool) (cs : List Cert) (c : Cert) → In c (filter p cs) → p c ≡ true
in_holds p [] c h = absurd h
in_holds p (x ∷ xs) c h = go (p x) refl (in_holds p xs c)
  where
    go : (u : Bool) → p x ≡ u → (In c (filter p xs) → p c ≡ true) → p c ≡ true
    go true e r = let k : In c (x ∷ filter p xs) = rw e at h in elim k [ inl q ↦ subst (λ y. p y ≡ true) q e | inr q ↦ r q ]
    go false e r = let k : In c (filter p xs) = rw e at h in r k

-- ---- the Give

module _ (s : Setup) (me : Inc) (l : Life) (f : AllFit s l) (t : IsTrue s me l) (e : Entry) (set : Gtids) where
  abbrev by : Cert → Bool
  by c = nat_le c.place e.place

  abbrev lacks : Cert → Bool
  lacks c = not (has set c.gtid)

  all : AreGivable (known l)
  all = known_givable s l (facts s me l f t)

  those_by : AreGivable (filter by (known l))
  those_by c q = all c (in_filter by (known l) c q)

  lacked : (c : Cert) → In c (filter lacks (filter by (known l))) → IsGivable c × (c.place ≤ e.place) × (place_above None ≤ c.place)
  lacked c q =
      let z = in_filter lacks (filter by (known l)) c q in
      let g = those_by c z in
      (g, leb-true c.place e.place (in_holds by (known l) c z), g.place_above)

  module _ (k : Life) (fits : AllFit s (Took e ∷ k)) (holds : IsTrue s me (Took e ∷ k)) where
    here : Facts s (Took e ∷ k)
    here = facts s me (Took e ∷ k) fits holds

    abbrev seats : List Seat
    seats = (view s (Took e ∷ k)).seats

    few : length (seated (view s (Took e ∷ k)).seats) ≤ 9
    few = (fits.0).seats.few

    few_online : length (online_incs (view s (Took e ∷ k))) ≤ 9
    few_online =
        let a = filter_shorter (λ (x : Seat). is_online_state x.state) (view s (Took e ∷ k)).seats in
        let b = seated_length (filter (λ (x : Seat). is_online_state x.state) (view s (Took e ∷ k)).seats) in
        let c = seated_length (view s (Took e ∷ k)).seats in
        omega (arith, a, b, c, few)

    abbrev give : Give
    give = give_of s (Took e ∷ k) (filter by (known l)) e.place set

    given : length (give_of s (Took e ∷ k) (filter by (known l)) e.place set).items ≤ last_u32 → length (give_of s (Took e ∷ k) (filter by (known l)) e.place set).txns ≤ last_u32
        → IsGive (give_of s (Took e ∷ k) (filter by (known l)) e.place set)
    given few_items few_txns =
        let u = (fits.0).above in
        let a = numbers_few (certifier s (Took e ∷ k)).last (seated (view s (Took e ∷ k)).seats) in
        let b = sets_few (told (Took e ∷ k)) (online_incs (view s (Took e ∷ k))) in
        let c = parts_few (Took e ∷ k) (seated (view s (Took e ∷ k)).seats) in
        record {
          place_above = omega (arith, u);
          place_below = (fits.0).below;
          blocks = here.certifies.blocks;
          last = numbers_chain (certifier s (Took e ∷ k)).last (seated (view s (Took e ∷ k)).seats) None here.certifies.lasts (fits.0).seats.ascend;
          few_last = omega (arith, a, few);
          items = here.certifies.items;
          few_items = few_items;
          told = sets_chain (told (Took e ∷ k)) (online_incs (view s (Took e ∷ k))) None here.sets (online_ascend (view s (Took e ∷ k)).seats None (fits.0).seats.ascend);
          few_told = omega (arith, b, few_online);
          certified = canonical_of (filter by (known l)) those_by;
          txns = given_chain e.place (filter lacks (filter by (known l))) None (rise_left lacks (filter by (known l)) (rise_left by (known l) (known_rises s me l t))) lacked;
          few_txns = few_txns;
          parts = parts_chain (Took e ∷ k) here.parts (seated (view s (Took e ∷ k)).seats) None (fits.0).seats.ascend;
          few_parts = omega (arith, c, few);
        }

pub give_is : (a : Member) (p : ℕ) (e : Entry) (set : Gtids) → InRange a → IsTrue a.setup a.me.inc a.life → entry_at a.life p ≡ Some e
    → length (give_at_entry a e set).items ≤ last_u32 → length (give_at_entry a e set).txns ≤ last_u32 → IsGive (give_at_entry a e set)
give_is a p e set k t h =
    let u = upto_entry a.setup a.me.inc a.life p e h k.life t in
    let same : upto a.life e.place ≡ Took e ∷ u.before = ap (λ q. upto a.life q) u.place ∙ u.history in
    subst (λ l. length (give_of a.setup l (filter (λ c. nat_le c.place e.place) (known a.life)) e.place set).items ≤ last_u32 → length (give_of a.setup l (filter (λ c. nat_le c.place e.place) (known a.life)) e.place set).txns ≤ last_u32
    → IsGive (give_of a.setup l (filter (λ c. nat_le c.place e.place) (known a.life)) e.place set)) (sym same)
    (given a.setup a.me.inc a.life k.life t e set u.before u.fits u.holds)
