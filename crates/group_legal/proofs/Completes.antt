-- A part of the list is the list of an earlier log; and what is complete by the laws is so by the rules.
use Rattle.std.proofs.Common.{◌≡◌, ◌⊎◌, inl, inr, ℕ, suc, ◌+◌, ◌≤◌, ◌<◌, Bool, true, false, not, ◌&&◌, ◌||◌, Option, Some, None, List, [], ◌∷◌, refl, sym, ap, subst, ◌∙◌, length, arith}
use Rattle.std.specs.Prelude.{if◌then◌else◌, ◌==◌, nat_le, filter}
use Rattle.std.specs.List.{list_any, list_all}
use Rattle.std.proofs.lemmas.Bool.{leb-true, leb-false, eqb-true, or_left, or_right, and_from}
use Rattle.gr_ids.specs.declared.names.Inc.{Inc}
use Rattle.gr_ids.specs.declared.names.Gtid.{Gtid}
use Rattle.gr_ids.specs.Names.{inc_eq, gtid_eq}
use Rattle.slot_values.specs.declared.value.Value.{Value}
use Rattle.slot_values.specs.declared.value.What.{What}
use Rattle.slot_values.specs.declared.value.What.TheVariants.{Noop, Add, Remove, Body as Says}
use Rattle.slot_values.specs.declared.kept.Kept.TheVariants.{At as KeptAt, Skipped as IsSkipped}
use Rattle.slot_values.specs.Log.{is_kept, has_effect}
use Rattle.txn_forms.specs.declared.body.Body.{Body}
use Rattle.txn_forms.specs.declared.body.Body.TheVariants.{Txn as Writes, Prepared, Sync, Executed, Online as Arrives, Mode as Switches, Primary as Appoints, Part as PartOf}
use Rattle.node_rules.specs.Lists.{In}
use Rattle.node_rules.specs.declared.seat.Seat.{Seat}
use Rattle.node_rules.proofs.Incs.{inc_same}
use Rattle.group_rules.specs.declared.marks.Effect.{Effect}
use Rattle.group_rules.specs.declared.marks.Effect.TheVariants.{Plain}
use Rattle.group_rules.specs.Events.{Took, Life, Setup, Entry, Cert}
use Rattle.group_rules.specs.Life.{view, upto}
use Rattle.group_rules.specs.View.{online_incs, seated, is_online_state, is_online, is_seated}
use Rattle.group_rules.specs.Commit.{required, prepares, has_prepared, complete}
use Rattle.group_rules.specs.OneList.{reading_of, listed_by, listed, first_places}
use Rattle.group_laws.specs.Lists as listing
use Rattle.group_laws.specs.Lists.{Mem}
use Rattle.group_laws.specs.Entries as law
use Rattle.group_laws.specs.View as seen
use Rattle.group_laws.specs.Lawful as lawful
use Rattle.group_laws.specs.Lawful.{Requires, HasPrepared, Complete}
use Rattle.group_laws.proofs.Lists.{IsPast-self}
use Rattle.group_laws.proofs.Names.{gtid_eq_itself}
use Rattle.group_laws.proofs.Acks.{values_past}
use Rattle.group_lives.specs.Lives.{does_body, does_entry, law_cert, placed}
use Rattle.group_lives.proofs.Taking.{views_agree}
use Rattle.group_lives.proofs.Standings.{stands}
use Rattle.group_legal.specs.Bases.{list_of}
use Rattle.group_legal.proofs.Scanned.{takes, new_entry}
use Rattle.group_legal.proofs.Newcomers.{adds_new}
use Rattle.group_legal.proofs.Points.{values_length}
use Rattle.group_legal.proofs.Prefix.{past_is_upto, list_length, list_more, list_if}

-- ---- one value more

-- by whether it is kept
abbrev grown_if : Setup → Value → List Value → Bool → Life
grown_if t v log b = listed_by t (listed t log) (suc (length log)) v (if b then KeptAt ((reading_of t log).place + 1) (has_effect (reading_of t log) v.what) else IsSkipped)

grows : (t : Setup) (v : Value) (log : List Value) → is_kept (reading_of t log) v ≡ true → listed t (v ∷ log) ≡ Took (new_entry t v log) ∷ listed t log
grows t v log e = ap (grown_if t v log) e

stays : (t : Setup) (v : Value) (log : List Value) → is_kept (reading_of t log) v ≡ false → listed t (v ∷ log) ≡ listed t log
stays t v log e = ap (grown_if t v log) e

list_grows : (t : Setup) (v : Value) (log : List Value) → is_kept (reading_of t log) v ≡ true → list_of t (v ∷ log) ≡ placed (new_entry t v log) ∷ list_of t log
list_grows t v log e = list_more t v log ∙ ap (list_if t v log) e

list_stays : (t : Setup) (v : Value) (log : List Value) → is_kept (reading_of t log) v ≡ false → list_of t (v ∷ log) ≡ list_of t log
list_stays t v log e = list_more t v log ∙ ap (list_if t v log) e

-- the place of the entry is the length of the list with it
new_place : (t : Setup) (v : Value) (log : List Value) → is_kept (reading_of t log) v ≡ true
    → (length (list_of t (v ∷ log)) ≡ (new_entry t v log).place) × ((new_entry t v log).place ≡ suc (length (list_of t log)))
new_place t v log e =
    let m = list_length t log in
    let n : length (list_of t (v ∷ log)) ≡ suc (length (list_of t log)) = ap length (list_grows t v log e) in
    let p : (new_entry t v log).place ≡ (reading_of t log).place + 1 = refl in
    (omega (arith, m, n, p), omega (arith, m, p))

-- ---- parts

-- the list of an earlier log, of so many places
pub record PartOfList (t : Setup) (log : List Value) (n : ℕ) (l : Life) : Type 0 where
  pub before : List Value
  pub is_it : l ≡ listed t before
  pub past : listing.IsPast (list_of t before) (list_of t log)
  pub long : n ≤ length (list_of t log) → length (list_of t before) ≡ n

part_more : (t : Setup) (v : Value) (log : List Value) (n : ℕ) (l m : Life) → is_kept (reading_of t log) v ≡ true → n < suc (length (list_of t log)) → l ≡ m
    → PartOfList t log n m → PartOfList t (v ∷ log) n l
part_more t v log n l m e lt q k = record {
  before = k.before;
  is_it = q ∙ k.is_it;
  past = subst (listing.IsPast (list_of t k.before)) (sym (list_grows t v log e)) (inr k.past);
  long = λ h. k.long (omega (arith, lt));
}

part_same : (t : Setup) (v : Value) (log : List Value) (n : ℕ) (l m : Life) → is_kept (reading_of t log) v ≡ false → l ≡ m
    → PartOfList t log n m → PartOfList t (v ∷ log) n l
part_same t v log n l m e q k = record {
  before = k.before;
  is_it = q ∙ k.is_it;
  past = subst (listing.IsPast (list_of t k.before)) (sym (list_stays t v log e)) k.past;
  long = λ h. k.long (subst (λ y. n ≤ length y) (list_stays t v log e) h);
}

part_all : (t : Setup) (log : List Value) (n : ℕ) (l : Life) → l ≡ listed t log → (n ≤ length (list_of t log) → length (list_of t log) ≡ n) → PartOfList t log n l
part_all t log n l e f = record { before = log; is_it = e; past = IsPast-self (list_of t log); long = f }

-- its first places
pub first_part : (t : Setup) (log : List Value) (n : ℕ) → PartOfList t log n (first_places (listed t log) n)
first_part t [] n = part_all t [] n (first_places (listed t []) n) refl (λ h. omega (arith, h))
first_part t (v ∷ log) n = go (is_kept (reading_of t log) v) refl (first_part t log n)
  where
    either : Bool → Life
    either b = elim b [ true ↦ Took (new_entry t v log) ∷ listed t log | false ↦ first_places (listed t log) n ]

    by_place : is_kept (reading_of t log) v ≡ true → (b : Bool) → nat_le (new_entry t v log).place n ≡ b → first_places (listed t (v ∷ log)) n ≡ either b
        → PartOfList t log n (first_places (listed t log) n) → PartOfList t (v ∷ log) n (first_places (listed t (v ∷ log)) n)
    by_place e true q here k =
        let z = leb-true (new_entry t v log).place n q in
        let p = new_place t v log e in
        part_all t (v ∷ log) n (first_places (listed t (v ∷ log)) n) (here ∙ sym (grows t v log e)) (λ h. omega (arith, p.0, z, h))
    by_place e false q here k =
        let z = leb-false (new_entry t v log).place n q in
        let p = new_place t v log e in
        part_more t v log n (first_places (listed t (v ∷ log)) n) (first_places (listed t log) n) e (omega (arith, p.1, z)) here k

    go : (b : Bool) → is_kept (reading_of t log) v ≡ b → PartOfList t log n (first_places (listed t log) n)
        → PartOfList t (v ∷ log) n (first_places (listed t (v ∷ log)) n)
    go true e k = by_place e (nat_le (new_entry t v log).place n) refl (ap (λ l. first_places l n) (grows t v log e)) k
    go false e k = part_same t v log n (first_places (listed t (v ∷ log)) n) (first_places (listed t log) n) e (ap (λ l. first_places l n) (stays t v log e)) k

-- up to a place that it has
abbrev UpToPlace : Setup → List Value → ℕ → Type 0
UpToPlace t log n = (upto (listed t log) n ≡ []) ⊎ (PartOfList t log n (upto (listed t log) n) × (n ≤ length (list_of t log)))

up_to : (t : Setup) (log : List Value) (n : ℕ) → UpToPlace t log n
up_to t [] n = inl refl
up_to t (v ∷ log) n = go (is_kept (reading_of t log) v) refl (up_to t log n)
  where
    either : Bool → Life
    either b = elim b [ true ↦ Took (new_entry t v log) ∷ listed t log | false ↦ upto (listed t log) n ]

    by_place : is_kept (reading_of t log) v ≡ true → (b : Bool) → ((new_entry t v log).place == n) ≡ b → upto (listed t (v ∷ log)) n ≡ either b
        → UpToPlace t log n → UpToPlace t (v ∷ log) n
    by_place e true q here k =
        let z = eqb-true (new_entry t v log).place n q in
        let p = new_place t v log e in
        inr (part_all t (v ∷ log) n (upto (listed t (v ∷ log)) n) (here ∙ sym (grows t v log e)) (λ h. omega (arith, p.0, z)), omega (arith, p.0, z))
    by_place e false q here (inl x) = inl (here ∙ x)
    by_place e false q here (inr x) =
        let z = x.1 in
        let p = new_place t v log e in
        inr (part_more t v log n (upto (listed t (v ∷ log)) n) (upto (listed t log) n) e (omega (arith, z)) here x.0, omega (arith, z, p.0, p.1))

    go : (b : Bool) → is_kept (reading_of t log) v ≡ b → UpToPlace t log n → UpToPlace t (v ∷ log) n
    go true e k = by_place e ((new_entry t v log).place == n) refl (ap (λ l. upto l n) (grows t v log e)) k
    go false e (inl x) = inl (ap (λ l. upto l n) (stays t v log e) ∙ x)
    go false e (inr x) = inr (
      part_same t v log n (upto (listed t (v ∷ log)) n) (upto (listed t log) n) e (ap (λ l. upto l n) (stays t v log e)) x.0,
      subst (λ y. n ≤ length y) (sym (list_stays t v log e)) x.1,
    )

-- ---- complete

says_prepared : (b : Option Body) (g : Gtid) → does_body b ≡ law.Prepared g → prepares b g ≡ true
says_prepared (Some (Prepared h)) g e = let q : h ≡ g = cc e in ap (λ y. gtid_eq h y) (sym q) ∙ gtid_eq_itself h
says_prepared None g e = absurd (cc e)
says_prepared (Some (Writes x)) g e = absurd (cc e)
says_prepared (Some Sync) g e = absurd (cc e)
says_prepared (Some (Executed x)) g e = absurd (cc e)
says_prepared (Some (Arrives x)) g e = absurd (cc e)
says_prepared (Some (Switches x)) g e = absurd (cc e)
says_prepared (Some (Appoints x)) g e = absurd (cc e)
says_prepared (Some (PartOf x)) g e = absurd (cc e)

entry_prepared : (y : What) (f : Effect) (b : Option Body) (g : Gtid) → does_entry y f b ≡ law.Prepared g → prepares b g ≡ true
entry_prepared (Says x) f b g e = says_prepared b g e
entry_prepared (Add j) Plain b g e = absurd (cc e)
entry_prepared (Add j) f b g e = absurd (cc e)
entry_prepared (Remove i) Plain b g e = absurd (cc e)
entry_prepared (Remove i) f b g e = absurd (cc e)
entry_prepared Noop f b g e = absurd (cc e)

-- who has prepared by the values has by the list
prepared_there : (t : Setup) (log : List Value) (m : Inc) (g : Gtid) → HasPrepared (law.values (list_of t log)) m g → has_prepared (listed t log) m g ≡ true
prepared_there t [] m g h = absurd h.1
prepared_there t (v ∷ log) m g h = go (is_kept (reading_of t log) v) refl (prepared_there t log m g)
  where
    by_test : (b : Bool) → (has_prepared (listed t log) m g ≡ true) → elim b [ true ↦ true | false ↦ has_prepared (listed t log) m g ] ≡ true
    by_test true k = refl
    by_test false k = k

    grown : (HasPrepared (law.values (list_of t log)) m g → has_prepared (listed t log) m g ≡ true)
        → HasPrepared (law.values (placed (new_entry t v log) ∷ list_of t log)) m g → has_prepared (Took (new_entry t v log) ∷ listed t log) m g ≡ true
    grown k (x, inl q, o, b) =
        let e : Entry = new_entry t v log in
        let origin : inc_eq e.value.id.origin m ≡ true = ap (λ y. inc_eq y m) (ap (λ (y : law.Value). y.origin) q ∙ o) ∙ inc_same m in
        let says : prepares e.holds g ≡ true = entry_prepared e.value.what e.effect e.holds g (ap (λ (y : law.Value). y.body) q ∙ b) in
        ap (λ y. elim y [ true ↦ true | false ↦ has_prepared (listed t log) m g ]) (and_from (inc_eq e.value.id.origin m) (prepares e.holds g) origin says)
    grown k (x, inr n, o, b) = by_test (inc_eq (new_entry t v log).value.id.origin m && prepares (new_entry t v log).holds g) (k (x, n, o, b))

    go : (b : Bool) → is_kept (reading_of t log) v ≡ b → (HasPrepared (law.values (list_of t log)) m g → has_prepared (listed t log) m g ≡ true)
        → has_prepared (listed t (v ∷ log)) m g ≡ true
    go true e k = ap (λ l. has_prepared l m g) (grows t v log e) ∙ grown k (subst (λ y. HasPrepared (law.values y) m g) (list_grows t v log e) h)
    go false e k = ap (λ l. has_prepared l m g) (stays t v log e) ∙ k (subst (λ y. HasPrepared (law.values y) m g) (list_stays t v log e) h)

-- how one stands by the values is how its seat is by the list
pub seat_is : (t : Setup) (log : List Value) (m : Inc) → is_seated (view t (listed t log)) m ≡ seen.member t (law.values (list_of t log)) m
seat_is t log m = ap (λ v. is_seated v m) (sym (views_agree t [] (listed t log) (takes t [] log))) ∙ (stands t (law.values (list_of t log)) m (adds_new t [] log)).0

online_is : (t : Setup) (log : List Value) (m : Inc) → is_online (view t (listed t log)) m ≡ seen.active t (law.values (list_of t log)) m
online_is t log m = ap (λ v. is_online v m) (sym (views_agree t [] (listed t log) (takes t [] log))) ∙ (stands t (law.values (list_of t log)) m (adds_new t [] log)).1

-- those ONLINE have a seat that is
abbrev ups : List Seat → List Inc
ups ss = seated (filter (λ s. is_online_state s.state) ss)

abbrev is_up_for : Inc → Seat → Bool
is_up_for m s = inc_eq s.joiner.inc m && is_online_state s.state

pub in_online : (ss : List Seat) (m : Inc) → In m (ups ss) → list_any (is_up_for m) ss ≡ true
in_online [] m h = absurd h
in_online (s ∷ ss) m h = go (is_online_state s.state) refl (in_online ss m)
  where
    this : is_online_state s.state ≡ true → (In m (ups ss) → list_any (is_up_for m) ss ≡ true) → (s.joiner.inc ≡ m) ⊎ In m (ups ss) → (is_up_for m s || list_any (is_up_for m) ss) ≡ true
    this e k (inl q) = or_left (is_up_for m s) (list_any (is_up_for m) ss) (and_from (inc_eq s.joiner.inc m) (is_online_state s.state) (ap (λ y. inc_eq y m) q ∙ inc_same m) e)
    this e k (inr n) = or_right (is_up_for m s) (list_any (is_up_for m) ss) (k n)

    go : (b : Bool) → is_online_state s.state ≡ b → (In m (ups ss) → list_any (is_up_for m) ss ≡ true) → (is_up_for m s || list_any (is_up_for m) ss) ≡ true
    go true e k = this e k (rw e at h)
    go false e k = let n : In m (ups ss) = rw e at h in or_right (is_up_for m s) (list_any (is_up_for m) ss) (k n)

all_of : (test : Inc → Bool) (xs : List Inc) → ((x : Inc) → In x xs → test x ≡ true) → list_all test xs ≡ true
all_of test [] f = refl
all_of test (y ∷ ys) f = and_from (test y) (list_all test ys) (f y (inl refl)) (all_of test ys (λ x m. f x (inr m)))

-- one that the list requires is one that its values require
required_is : (t : Setup) (log : List Value) (c : Cert) (m : Inc) → In m (required t (listed t log) c) → Requires t (law.values (list_of t log)) (law_cert c) m
required_is t log c m h = by (up_to t log c.place)
  where
    by : UpToPlace t log c.place → Requires t (law.values (list_of t log)) (law_cert c) m
    by (inl e) = absurd (subst (λ l. In m (online_incs (view t l))) e h)
    by (inr k) =
        let part = k.0 in
        let up : is_online (view t (listed t part.before)) m ≡ true =
        in_online (view t (listed t part.before)).seats m (subst (λ l. In m (online_incs (view t l))) part.is_it h) in
        let long : length (law.values (list_of t part.before)) ≡ c.place = values_length (list_of t part.before) ∙ part.long k.1 in
        let front : law.values (list_of t part.before) ≡ lawful.upto c.place (law.values (list_of t log)) =
        past_is_upto (law.values (list_of t part.before)) (law.values (list_of t log)) (values_past (list_of t part.before) (list_of t log) part.past)
        ∙ ap (λ n. lawful.upto n (law.values (list_of t log))) long in
        ap (λ p. seen.active t p m) (sym front) ∙ sym (online_is t part.before m) ∙ up

-- complete by the values is complete by the list
pub complete_there : (t : Setup) (log : List Value) (c : Cert) → Complete t (law.values (list_of t log)) (law_cert c) → complete t (listed t log) c ≡ true
complete_there t log c h = all_of (λ x. inc_eq x c.id.origin || (prepared x || absent x)) (required t (listed t log) c) (λ m n. by m (h m (required_is t log c m n)))
  where
    prepared : Inc → Bool
    prepared m = has_prepared (listed t log) m c.gtid

    absent : Inc → Bool
    absent m = not (is_seated (view t (listed t log)) m)

    by : (m : Inc) → (m ≡ c.id.origin) ⊎ (HasPrepared (law.values (list_of t log)) m c.gtid ⊎ (seen.standing t (law.values (list_of t log)) m ≡ seen.Gone))
        → (inc_eq m c.id.origin || (prepared m || absent m)) ≡ true
    by m (inl e) = or_left (inc_eq m c.id.origin) (prepared m || absent m) (ap (λ y. inc_eq m y) (sym e) ∙ inc_same m)
    by m (inr (inl p)) = or_right (inc_eq m c.id.origin) (prepared m || absent m) (or_left (prepared m) (absent m) (prepared_there t log m c.gtid p))
    by m (inr (inr g)) = or_right (inc_eq m c.id.origin) (prepared m || absent m) (or_right (prepared m) (absent m) (ap not (seat_is t log m ∙ ap seen.is_in g)))
