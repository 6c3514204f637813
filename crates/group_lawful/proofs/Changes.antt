-- A statement that changes a row, and the own value of a transaction, as the laws ask them.
use Rattle.std.proofs.Common.{◌≡◌, ◌⊎◌, inl, inr, ℕ, suc, ◌≤◌, ◌<◌, Bool, true, false, cond, not, ◌&&◌, ◌||◌, Option, Some, None, List, [], ◌∷◌, ◌++◌, refl, sym, ap, subst, ◌∙◌, length, eqb, eq-eqb, arith}
use Rattle.std.specs.Prelude.{◌==◌, if◌then◌else◌, is_some, filter}
use Rattle.std.specs.List.{list_any}
use Rattle.std.proofs.lemmas.Bool.{false≢true, cases_Bool, or_left, and_parts, and_from, eqb-true}
use Rattle.gr_ids.specs.declared.names.Inc.{Inc}
use Rattle.gr_ids.specs.declared.names.Gtid.{Gtid}
use Rattle.gr_ids.specs.declared.names.ValueId.{ValueId}
use Rattle.gr_ids.specs.declared.levels.Level.{Level}
use Rattle.gr_ids.specs.declared.levels.MemberState.{MemberState}
use Rattle.gr_ids.specs.declared.levels.MemberState.TheVariants.{Error}
use Rattle.key_items.specs.declared.item.Item.{Item}
use Rattle.key_items.specs.declared.change.Change.{Change}
use Rattle.key_items.specs.Items.{item_eq, item_lt, has_item, with_item}
use Rattle.key_items.proofs.Order.{item_eq_same, item_eq_itself}
use Rattle.slot_values.specs.declared.value.Value.{Value}
use Rattle.txn_forms.specs.declared.body.Txn.{Txn}
use Rattle.txn_forms.specs.declared.body.Part.{Part}
use Rattle.txn_forms.specs.declared.body.Body.{Body}
use Rattle.txn_forms.specs.declared.body.Body.TheVariants.{Txn as Writes, Prepared, Sync, Executed, Online as Arrives, Mode as Switches, Primary as Appoints, Part as PartOf}
use Rattle.node_rules.specs.Lists.{In}
use Rattle.group_rules.specs.declared.answers.Holder.{Holder}
use Rattle.group_rules.specs.declared.answers.Holder.TheVariants.{Place as ByPlace}
use Rattle.group_rules.specs.Events.{Did, Founds, Starts, Came, Made, Took, Skips, Done, Committed, Is, Gave, Answered, Begun, Changed, Replied, Called, AsksCommit, Ends, Enters, Restores, AskFails, Hears, Ticks, Works, Calls, Operates, Life, Setup, Entry, Cert}
use Rattle.group_rules.specs.Life.{is_up, is_recovering, certs, has_give, state, is_error, executed}
use Rattle.group_rules.specs.Queue.{is_done, is_own, pending, queue}
use Rattle.group_rules.specs.Commit.{required, has_sent_prepared, is_prepared, owes_prepared}
use Rattle.gtid_sets.specs.Sets.{Gtids}
use Rattle.gr_ids.specs.Names.{has_inc}
use Rattle.group_lawful.proofs.Commits.{prepared_as}
use Rattle.group_rules.specs.Sessions.{Call, one_tick, last_call, Active, Asking, is_begun, is_active, is_asking, phase, changes, sessions}
use Rattle.group_rules.specs.Calls.{items_of, state_then}
use Rattle.group_rules.specs.Keys.{place_holder, or_holder, killed, keeps_key, writes_key, holds_key, session_holder}
use Rattle.group_bridge.specs.Left as left
use Rattle.group_bridge.specs.Left.{IsOpen, MadeParts, AsksFor, IsOver, Fallen, Refused, Settled, IsEnded, Unasked, WasKilled, WasLeft, Over}
use Rattle.gr_ids.specs.declared.levels.MemberState.TheVariants.{Offline, Recovering, Online}
use Rattle.group_order.specs.OneLog.{IsReady}
use Rattle.group_laws.specs.Lists.{Mem, newest}
use Rattle.group_laws.specs.Lists as listing
use Rattle.group_laws.specs.Entries as law
use Rattle.group_laws.specs.View as seen
use Rattle.group_laws.specs.Table.{Rows, put, applied}
use Rattle.group_laws.specs.World.{IsKeptList}
use Rattle.group_laws.specs.Lawful.{IsNow, InSession, rows_now, Waits, Lost, LawfulChange, Asks, LawfulBody, LawfulMade}
use Rattle.group_laws.proofs.Worlds.{kept_number}
use Rattle.group_rules.specs.Rows.{row_after, fits, changed_row, row_of}
use Rattle.group_laws.specs.Verdict as decided
use Rattle.group_laws.specs.Life as lives
use Rattle.group_laws.proofs.Lives.{ever_mono, ready_mono}
use Rattle.group_laws.proofs.Lists.{IsPast-self, IsPast-nil, IsPast-mem, any_from}
use Rattle.group_laws.proofs.Certs.{same_place, cons_cases, cons_keeps}
use Rattle.group_lives.proofs.Taking.{skip_made, skip_answer, skip_state}
use Rattle.group_lives.proofs.Sets.{canonical, executed_agrees}
use Rattle.group_lives.specs.Sound.{HasSets}
use Rattle.gtid_sets.specs.Sets.{has}
use Rattle.gtid_sets.proofs.LawLemmas.{all_with_gtid}
use Rattle.gr_ids.specs.Names.{gtid_eq}
use Rattle.group_laws.proofs.Names.{gtid_eq_itself}
use Rattle.node_rules.proofs.Incs.{inc_is}
use Rattle.group_rules.specs.declared.marks.Effect.TheVariants.{Conflict as Conflicts}
use Rattle.group_lives.specs.Lives.{does_entry, outcome_of, asking, made_as, placed, life_of}
use Rattle.group_lawful.specs.Lived.{LivedDid, Lived}
use Rattle.group_lawful.specs.Knows.{Alike, certified_of, Sound, AlwaysSound}
use Rattle.group_lawful.proofs.Sessions.{unfallen, law_call, calls, call_as, BegunAs, begun_as}
use Rattle.group_lawful.proofs.Asked.{LostSince, AskedAs, Keeps, IsDone, asked_as, asked_first, MadeAs, made_back}
use Rattle.group_lawful.proofs.Begins.{call_past, sound_listed}
use Rattle.group_lawful.proofs.Holders.{in_sessions, free_of, none_open}
use Rattle.group_lawful.proofs.Opened.{Opened, opened, done_place, is_open, parts_asked}
use Rattle.group_lawful.proofs.Marks.{ready_back, ready_as, made_as_many, done_as, lawful_finish, life_past, past_itself, past_tail, lived_past, sound_past}
use Rattle.group_lawful.proofs.Known.{executed_stays, sets_past, empty_before, filter_in, is_pending}
use Rattle.group_lawful.proofs.States.{fallen_is, stand, StateAs, stands_so, ready_by, shape_of}
use Rattle.group_lawful.proofs.Opens.{unready, ready_or, sound_where, any_item, find_is, in_pending, in_queue}

some_none : {A : Type 0} {x : A} → Some x ≡ None → ⊥
some_none e = absurd (cc e)

some_is : {A : Type 0} {x y : A} → Some x ≡ Some y → x ≡ y
some_is {x = x} {y = y} e = cc

-- ---- the rows of changes

pub changed_as : (cs : List Change) (was : Rows) (x : Item) → applied cs was x ≡ changed_row x (was x) cs
changed_as [] was x = refl
changed_as (c ∷ cs) was x = changed_as cs (put c.item (row_after c.what) was) x ∙ go (item_eq c.item x)
  where
    go : (b : Bool) → changed_row x (cond b (row_after c.what) (was x)) cs ≡ elim b [ true ↦ changed_row x (row_after c.what) cs | false ↦ changed_row x (was x) cs ]
    go true = refl
    go false = refl

-- ---- the items of changes

with_cases : (xs : List Item) (x y : Item) → Mem y (with_item xs x) → (x ≡ y) ⊎ Mem y xs
with_cases [] x y h = elim h [ inl e ↦ inl e | inr k ↦ absurd k ]
with_cases (z ∷ xs) x y h = go (item_lt x z) (item_eq x z) h (with_cases xs x y)
  where
    go : (b c : Bool) → Mem y (if b then x ∷ z ∷ xs else (if c then z ∷ xs else z ∷ with_item xs x)) → (Mem y (with_item xs x) → (x ≡ y) ⊎ Mem y xs) → (x ≡ y) ⊎ Mem y (z ∷ xs)
    go true c (inl e) f = inl e
    go true c (inr k) f = inr k
    go false true k f = inr k
    go false false (inl e) f = inr (inl e)
    go false false (inr k) f = elim (f k) [ inl e ↦ inl e | inr m ↦ inr (inr m) ]

with_new : (xs : List Item) (x : Item) → Mem x (with_item xs x)
with_new [] x = inl refl
with_new (z ∷ xs) x = go (item_lt x z) (item_eq x z) refl (with_new xs x)
  where
    go : (b c : Bool) → item_eq x z ≡ c → Mem x (with_item xs x) → Mem x (if b then x ∷ z ∷ xs else (if c then z ∷ xs else z ∷ with_item xs x))
    go true c e k = inl refl
    go false true e k = inl (sym (item_eq_same x z e))
    go false false e k = inr k

with_old : (xs : List Item) (x y : Item) → Mem y xs → Mem y (with_item xs x)
with_old [] x y h = absurd h
with_old (z ∷ xs) x y h = go (item_lt x z) (item_eq x z) h (with_old xs x y)
  where
    go : (b c : Bool) → (z ≡ y) ⊎ Mem y xs → (Mem y xs → Mem y (with_item xs x)) → Mem y (if b then x ∷ z ∷ xs else (if c then z ∷ xs else z ∷ with_item xs x))
    go true c k f = inr k
    go false true k f = k
    go false false (inl e) f = inl e
    go false false (inr k) f = inr (f k)

items_cover : (cs : List Change) (c : Change) → Mem c cs → Mem c.item (items_of cs)
items_cover [] c h = absurd h
items_cover (d ∷ cs) c (inl e) = subst (λ (y : Change). Mem y.item (items_of (d ∷ cs))) e (with_new (items_of cs) d.item)
items_cover (d ∷ cs) c (inr h) = with_old (items_of cs) d.item c.item (items_cover cs c h)

items_from : (cs : List Change) (x : Item) → Mem x (items_of cs) → (c : Change) × Mem c cs × (c.item ≡ x)
items_from [] x h = absurd h
items_from (d ∷ cs) x h = elim (with_cases (items_of cs) d.item x h) [
  | inl e ↦ (d, inl refl, e)
  | inr k ↦ (let r = items_from cs x k in (r.0, inr r.1, r.2))
]

item_among : (cs : List Change) (x : Item) → Mem x (items_of cs) → any_item cs x ≡ true
item_among cs x h = let r = items_from cs x h in any_from (λ (c : Change). item_eq c.item x) cs r.0 r.1 (ap (λ y. item_eq y x) r.2 ∙ item_eq_itself x)

-- ---- one value of an origin and a number

-- its number is at most the last one kept
number_below : (t : Setup) (m : List law.Placed) (e : law.Placed) → IsKeptList t (law.values m) → Mem e m → e.value.number ≤ seen.last_kept (law.values m) e.value.origin
number_below t m e k h = kept_number t (law.values m) e.value k (in_values m e h)
  where
    in_values : (m : List law.Placed) (e : law.Placed) → Mem e m → Mem e.value (law.values m)
    in_values [] e h = absurd h
    in_values (x ∷ m) e (inl q) = inl (ap (λ (y : law.Placed). y.value) q)
    in_values (x ∷ m) e (inr h) = inr (in_values m e h)

-- two places of one origin and number are one
one_place : (t : Setup) (m : List law.Placed) (e f : law.Placed) → IsKeptList t (law.values m) → Mem e m → Mem f m → e.value.origin ≡ f.value.origin → e.value.number ≡ f.value.number → e ≡ f
one_place t [] e f k h g o n = absurd h
one_place t (x ∷ m) e f k (inl a) (inl b) o n = sym a ∙ b
one_place t (x ∷ m) e f k (inl a) (inr b) o n =
    let z = number_below t m f k.1 b in
    let y : e.value.number ≡ suc (seen.last_kept (law.values m) f.value.origin) = ap (λ (u : law.Placed). u.value.number) (sym a) ∙ k.0.0 ∙ ap (λ u. suc (seen.last_kept (law.values m) u)) (ap (λ (u : law.Placed). u.value.origin) a ∙ o) in
    absurd (omega (arith, z, y, n))
one_place t (x ∷ m) e f k (inr a) (inl b) o n =
    let z = number_below t m e k.1 a in
    let y : f.value.number ≡ suc (seen.last_kept (law.values m) e.value.origin) = ap (λ (u : law.Placed). u.value.number) (sym b) ∙ k.0.0 ∙ ap (λ u. suc (seen.last_kept (law.values m) u)) (ap (λ (u : law.Placed). u.value.origin) b ∙ sym o) in
    absurd (omega (arith, z, y, n))
one_place t (x ∷ m) e f k (inr a) (inr b) o n = one_place t m e f k.1 a b o n

-- the place of a certified transaction
pub record PlacedAs (t : Setup) (m : List law.Placed) (d : law.Cert) : Type 0 where
  pub at : law.Placed
  pub there : Mem at m
  pub origin : at.value.origin ≡ d.origin
  pub number : at.value.number ≡ d.id
  pub is_it : (n : ℕ) × (law.cert_of t n at ≡ Some d)

pub placed_as : (t : Setup) (m : List law.Placed) (d : law.Cert) → Mem d (law.certified t m) → PlacedAs t m d
placed_as t [] d h = absurd h
placed_as t (e ∷ m) d h = go (cons_cases (law.cert_of t (suc (length m)) e) (law.certified t m) d h) (placed_as t m d)
  where
    parts : (b : law.Body) (o : law.Outcome) → law.cert_parts t (suc (length m)) e.value.origin e.value.number b o ≡ Some d → (e.value.origin ≡ d.origin) × (e.value.number ≡ d.id)
    parts (law.Write x) (law.Positive y) q = let z : record { place = suc (length m); origin = e.value.origin; id = e.value.number; gtid = record { source = t.limits.group; number = y }; txn = x } ≡ d = cc in (ap (λ (c : law.Cert). c.origin) z, ap (λ (c : law.Cert). c.id) z)
    parts (law.Write x) (law.Conflict y) q = absurd (cc q)
    parts (law.Write x) law.NoTxn q = absurd (cc q)
    parts (law.Executed x) o q = absurd (cc q)
    parts (law.Online x) o q = absurd (cc q)
    parts (law.Joins x) o q = absurd (cc q)
    parts (law.Leaves x) o q = absurd (cc q)
    parts (law.Prepared x) o q = absurd (cc q)
    parts (law.Switches x) o q = absurd (cc q)
    parts (law.Appoints x) o q = absurd (cc q)
    parts law.Plain o q = absurd (cc q)

    go : (law.cert_of t (suc (length m)) e ≡ Some d) ⊎ Mem d (law.certified t m) → (Mem d (law.certified t m) → PlacedAs t m d) → PlacedAs t (e ∷ m) d
    go (inl q) f = let p = parts e.value.body e.outcome q in record { at = e; there = inl refl; origin = p.0; number = p.1; is_it = (suc (length m), q) }
    go (inr k) f = let r = f k in record { at = r.at; there = inr r.there; origin = r.origin; number = r.number; is_it = r.is_it }

-- two certified transactions of one origin and number are one
pub one_cert : (t : Setup) (m : List law.Placed) (c d : law.Cert) → IsKeptList t (law.values m) → Mem c (law.certified t m) → Mem d (law.certified t m) → c.origin ≡ d.origin → c.id ≡ d.id → c ≡ d
one_cert t m c d k h g o n = go m k h g
  where
    below : (m : List law.Placed) (c : law.Cert) → IsKeptList t (law.values m) → Mem c (law.certified t m) → c.id ≤ seen.last_kept (law.values m) c.origin
    below m c k h =
        let p = placed_as t m c h in
        let a = number_below t m p.at k p.there in
        let e : seen.last_kept (law.values m) (p.at).value.origin ≡ seen.last_kept (law.values m) c.origin = ap (seen.last_kept (law.values m)) p.origin in
        let n = p.number in
        omega (arith, a, e, n)

    head : (e : law.Placed) (m : List law.Placed) (c : law.Cert) → law.cert_of t (suc (length m)) e ≡ Some c → Mem c (law.certified t (e ∷ m))
    head e m c q = subst (λ o. Mem c (law.cons_some o (law.certified t m))) (sym q) (inl refl)

    next : (e : law.Placed) (m : List law.Placed) (c : law.Cert) → IsKeptList t (law.values (e ∷ m)) → law.cert_of t (suc (length m)) e ≡ Some c → c.id ≡ suc (seen.last_kept (law.values m) c.origin)
    next e m c k q = by e.value.body e.outcome q
      where
        by : (b : law.Body) (o : law.Outcome) → law.cert_parts t (suc (length m)) e.value.origin e.value.number b o ≡ Some c → c.id ≡ suc (seen.last_kept (law.values m) c.origin)
        by (law.Write x) (law.Positive y) q =
            let z : record { place = suc (length m); origin = e.value.origin; id = e.value.number; gtid = record { source = t.limits.group; number = y }; txn = x } ≡ c = cc in
            ap (λ (u : law.Cert). u.id) (sym z) ∙ k.0.0 ∙ ap (λ u. suc (seen.last_kept (law.values m) u)) (ap (λ (u : law.Cert). u.origin) z)
        by (law.Write x) (law.Conflict y) q = absurd (cc q)
        by (law.Write x) law.NoTxn q = absurd (cc q)
        by (law.Executed x) o q = absurd (cc q)
        by (law.Online x) o q = absurd (cc q)
        by (law.Joins x) o q = absurd (cc q)
        by (law.Leaves x) o q = absurd (cc q)
        by (law.Prepared x) o q = absurd (cc q)
        by (law.Switches x) o q = absurd (cc q)
        by (law.Appoints x) o q = absurd (cc q)
        by law.Plain o q = absurd (cc q)

    go : (m : List law.Placed) → IsKeptList t (law.values m) → Mem c (law.certified t m) → Mem d (law.certified t m) → c ≡ d
    go [] k h g = absurd h
    go (e ∷ m) k h g = by (cons_cases (law.cert_of t (suc (length m)) e) (law.certified t m) c h) (cons_cases (law.cert_of t (suc (length m)) e) (law.certified t m) d g) (go m k.1)
      where
        apart : (x y : law.Cert) → law.cert_of t (suc (length m)) e ≡ Some x → Mem y (law.certified t m) → x.origin ≡ y.origin → x.id ≡ y.id → ⊥
        apart x y q z o n =
            let a = below m y k.1 z in
            let b : x.id ≡ suc (seen.last_kept (law.values m) y.origin) = next e m x k q ∙ ap (λ u. suc (seen.last_kept (law.values m) u)) o in
            omega (arith, a, b, n)

        by : (law.cert_of t (suc (length m)) e ≡ Some c) ⊎ Mem c (law.certified t m) → (law.cert_of t (suc (length m)) e ≡ Some d) ⊎ Mem d (law.certified t m) → (Mem c (law.certified t m) → Mem d (law.certified t m) → c ≡ d) → c ≡ d
        by (inl a) (inl b) f = some_is (sym a ∙ b)
        by (inl a) (inr b) f = absurd (apart c d a b o n)
        by (inr a) (inl b) f = absurd (apart d c b a (sym o) (sym n))
        by (inr a) (inr b) f = f a b

module _ (t : Setup) (i : Inc) (base : List law.Placed) where
  -- ---- places that are done are of others

  pub record DoneAt (l : Life) (p : ℕ) : Type 0 where
    pub cert : law.Cert
    pub here : Mem cert (certified_of t base l)
    pub place : cert.place ≡ p
    pub foreign : cert.origin ≡ i → ⊥

  done_still : (d : Did) (l : Life) (p : ℕ) → lives.marked (life_of base (d ∷ l)) ≡ lives.marked (life_of base l) → DoneAt l p → DoneAt (d ∷ l) p
  done_still d l p e k = record { cert = k.cert; here = subst (λ y. Mem k.cert (law.certified t y)) (sym e) k.here; place = k.place; foreign = k.foreign }

  pub done_at : (l : Life) (p : ℕ) → Lived t i l → AlwaysSound t i base l → is_done l p ≡ true → DoneAt l p
  done_at [] p k o h = absurd (false≢true h)
  done_at (Done q ∷ l) p k o h = go (q == p) refl h (done_at l p k.1 o.1)
    where
      go : (b : Bool) → (q == p) ≡ b → elim b [ true ↦ true | false ↦ is_done l p ] ≡ true → (is_done l p ≡ true → DoneAt l p) → DoneAt (Done q ∷ l) p
      go true e z f = let y = lawful_finish t i base l q k.0 o.1 in record { cert = y.0; here = y.1; place = y.2 ∙ eqb-true q p e; foreign = y.3 }
      go false e z f = done_still (Done q) l p refl (f z)
  done_at (Took e ∷ l) p k o h = let y = done_at l p k.1 o.1 h in record { cert = y.cert; here = cons_keeps (law.cert_of t (suc (length (lives.marked (life_of base l)))) (placed e)) (certified_of t base l) y.cert y.here; place = y.place; foreign = y.foreign }
  done_at (Restores y cs ∷ l) p k o h =
      let b = empty_before t i base y cs l k.0 o.1 o.0.1 in
      let d = done_at l p k.1 o.1 h in
      absurd (subst (λ x. Mem d.cert (law.certified t x)) (unready t i base l b.0 b.1).1 d.here)
  done_at (Made v y ∷ l) p k o h = done_still (Made v y) l p (skip_made v y l (life_of base l)) (done_at l p k.1 o.1 h)
  done_at (Answered u y ∷ l) p k o h = done_still (Answered u y) l p (skip_answer base u y l (life_of base l)) (done_at l p k.1 o.1 h)
  done_at (Is y z ∷ l) p k o h = done_still (Is y z) l p (skip_state base y z l (life_of base l)) (done_at l p k.1 o.1 h)
  done_at (Came (Hears m) ∷ l) p k o h = done_still (Came (Hears m)) l p refl (done_at l p k.1 o.1 h)
  done_at (Came Ticks ∷ l) p k o h = done_still (Came Ticks) l p refl (done_at l p k.1 o.1 h)
  done_at (Came (Works z y) ∷ l) p k o h = done_still (Came (Works z y)) l p refl (done_at l p k.1 o.1 h)
  done_at (Came (Calls z y) ∷ l) p k o h = done_still (Came (Calls z y)) l p refl (done_at l p k.1 o.1 h)
  done_at (Came (Operates z) ∷ l) p k o h = done_still (Came (Operates z)) l p refl (done_at l p k.1 o.1 h)
  done_at (Skips u v ∷ l) p k o h = done_still (Skips u v) l p refl (done_at l p k.1 o.1 h)
  done_at (Gave n j ∷ l) p k o h = done_still (Gave n j) l p refl (done_at l p k.1 o.1 h)
  done_at (Replied r ∷ l) p k o h = done_still (Replied r) l p refl (done_at l p k.1 o.1 h)
  done_at (AskFails ∷ l) p k o h = done_still AskFails l p refl (done_at l p k.1 o.1 h)
  done_at (Founds ∷ l) p k o h = done_still Founds l p refl (done_at l p k.1 o.1 h)
  done_at (Enters z ∷ l) p k o h = done_still (Enters z) l p refl (done_at l p k.1 o.1 h)
  done_at (Starts z ∷ l) p k o h = done_still (Starts z) l p refl (done_at l p k.1 o.1 h)
  done_at (Committed y ∷ l) p k o h = done_still (Committed y) l p refl (done_at l p k.1 o.1 h)
  done_at (Begun u y z ∷ l) p k o h = done_still (Begun u y z) l p refl (done_at l p k.1 o.1 h)
  done_at (Changed u z ∷ l) p k o h = done_still (Changed u z) l p refl (done_at l p k.1 o.1 h)
  done_at (Called u v w ∷ l) p k o h = done_still (Called u v w) l p refl (done_at l p k.1 o.1 h)
  done_at (AsksCommit u y ∷ l) p k o h = done_still (AsksCommit u y) l p refl (done_at l p k.1 o.1 h)
  done_at (Ends u ∷ l) p k o h = done_still (Ends u) l p refl (done_at l p k.1 o.1 h)

  -- ---- moments

  abbrev MomentOf : Life → Type 0
  MomentOf l = (Lived t i l × AlwaysSound t i base l) × HasSets l

  -- the rows of what a history that is ready has executed are those of its life
  abbrev pub SameRows : Life → Type 0
  SameRows l = (x : Item) → row_of l (executed l) x ≡ rows_now t (life_of base l) x

  -- ---- what stays

  pub marked_stays : (l p : Life) → left.IsPast p l → Lived t i l → AlwaysSound t i base l → listing.IsPast (lives.marked (life_of base p)) (lives.marked (life_of base l))
  marked_stays [] p h k o = subst (λ y. listing.IsPast (lives.marked (life_of base y)) []) (sym h) refl
  marked_stays (d ∷ l) p (inl e) k o = subst (λ y. listing.IsPast (lives.marked (life_of base y)) (lives.marked (life_of base (d ∷ l)))) (sym e) (IsPast-self (lives.marked (life_of base (d ∷ l))))
  marked_stays (Took e ∷ l) p (inr h) k o = inr (marked_stays l p h k.1 o.1)
  marked_stays (Restores y cs ∷ l) p (inr h) k o =
      let b = empty_before t i base y cs l k.0 o.1 o.0.1 in
      let n : listing.IsPast (lives.marked (life_of base p)) [] = subst (listing.IsPast (lives.marked (life_of base p))) (unready t i base l b.0 b.1).1 (marked_stays l p h k.1 o.1) in
      subst (λ m. listing.IsPast m base) (sym n) (IsPast-nil base)
  marked_stays (Made v y ∷ l) p (inr h) k o = subst (listing.IsPast (lives.marked (life_of base p))) (sym (skip_made v y l (life_of base l))) (marked_stays l p h k.1 o.1)
  marked_stays (Answered u y ∷ l) p (inr h) k o = subst (listing.IsPast (lives.marked (life_of base p))) (sym (skip_answer base u y l (life_of base l))) (marked_stays l p h k.1 o.1)
  marked_stays (Is y z ∷ l) p (inr h) k o = subst (listing.IsPast (lives.marked (life_of base p))) (sym (skip_state base y z l (life_of base l))) (marked_stays l p h k.1 o.1)
  marked_stays (Came (Hears m) ∷ l) p (inr h) k o = marked_stays l p h k.1 o.1
  marked_stays (Came Ticks ∷ l) p (inr h) k o = marked_stays l p h k.1 o.1
  marked_stays (Came (Works z y) ∷ l) p (inr h) k o = marked_stays l p h k.1 o.1
  marked_stays (Came (Calls z y) ∷ l) p (inr h) k o = marked_stays l p h k.1 o.1
  marked_stays (Came (Operates z) ∷ l) p (inr h) k o = marked_stays l p h k.1 o.1
  marked_stays (Skips u v ∷ l) p (inr h) k o = marked_stays l p h k.1 o.1
  marked_stays (Gave n j ∷ l) p (inr h) k o = marked_stays l p h k.1 o.1
  marked_stays (Replied r ∷ l) p (inr h) k o = marked_stays l p h k.1 o.1
  marked_stays (AskFails ∷ l) p (inr h) k o = marked_stays l p h k.1 o.1
  marked_stays (Founds ∷ l) p (inr h) k o = marked_stays l p h k.1 o.1
  marked_stays (Enters z ∷ l) p (inr h) k o = marked_stays l p h k.1 o.1
  marked_stays (Starts z ∷ l) p (inr h) k o = marked_stays l p h k.1 o.1
  marked_stays (Committed y ∷ l) p (inr h) k o = marked_stays l p h k.1 o.1
  marked_stays (Done q ∷ l) p (inr h) k o = marked_stays l p h k.1 o.1
  marked_stays (Begun u y z ∷ l) p (inr h) k o = marked_stays l p h k.1 o.1
  marked_stays (Changed u z ∷ l) p (inr h) k o = marked_stays l p h k.1 o.1
  marked_stays (Called u v w ∷ l) p (inr h) k o = marked_stays l p h k.1 o.1
  marked_stays (AsksCommit u y ∷ l) p (inr h) k o = marked_stays l p h k.1 o.1
  marked_stays (Ends u ∷ l) p (inr h) k o = marked_stays l p h k.1 o.1

  certified_more : (m k : List law.Placed) (d : law.Cert) → listing.IsPast m k → Mem d (law.certified t m) → Mem d (law.certified t k)
  certified_more m [] d h n = subst (λ y. Mem d (law.certified t y)) h n
  certified_more m (e ∷ k) d (inl q) n = subst (λ y. Mem d (law.certified t y)) q n
  certified_more m (e ∷ k) d (inr h) n = cons_keeps (law.cert_of t (suc (length k)) e) (law.certified t k) d (certified_more m k d h n)

  pub certified_stays : (l p : Life) → left.IsPast p l → Lived t i l → AlwaysSound t i base l → (d : law.Cert) → Mem d (certified_of t base p) → Mem d (certified_of t base l)
  certified_stays l p h k o d n = certified_more (lives.marked (life_of base p)) (lives.marked (life_of base l)) d (marked_stays l p h k o) n

  error_past : (l q : Life) → left.IsPast q l → Lived t i l → is_error (state q) ≡ true → is_error (state l) ≡ true
  error_past l q h k e = sym (fallen_is t i base l k) ∙ ever_mono lives.is_fall (life_of base q) (life_of base l) (life_past base q l h) (fallen_is t i base q (lived_past t i q l h k) ∙ e)

  is_done_past : (l : Life) (p : ℕ) (b : Life) → left.IsPast (Done p ∷ b) l → is_done l p ≡ true
  is_done_past l p b h = sym (done_as t i base l p) ∙ ever_mono (lives.finishes p) (life_of base (Done p ∷ b)) (life_of base l) (life_past base (Done p ∷ b) l h) (or_left (p == p) (list_any (lives.finishes p) (life_of base b)) (eq-eqb p p refl))

  past_trans : (a b l : Life) → left.IsPast a b → left.IsPast b l → left.IsPast a l
  past_trans a b [] h k = subst (left.IsPast a) k h
  past_trans a b (d ∷ l) h (inl e) = subst (left.IsPast a) e h
  past_trans a b (d ∷ l) h (inr k) = inr (past_trans a b l h k)

  sound_marked : (l : Life) → AlwaysSound t i base l → (e : law.Placed) → Mem e (lives.marked (life_of base l)) → Sound t i base l
  sound_marked [] o e m = absurd m
  sound_marked (y ∷ l) o e m = elim (ready_or t i base (y ∷ l) o.0.0.0) [
    | inl r ↦ o.0.0.1 r (omega arith)
    | inr z ↦ (let k = unready t i base (y ∷ l) z.0 z.1 in absurd (subst (Mem e) k.1 m))
  ]

  -- what was refused has no certified transaction
  no_cert : (n : ℕ) (o : Inc) (id : ℕ) (b : law.Body) (g : Gtid) → law.cert_parts t n o id b (law.Conflict g) ≡ None
  no_cert n o id (law.Write x) g = refl
  no_cert n o id (law.Executed x) g = refl
  no_cert n o id (law.Online x) g = refl
  no_cert n o id (law.Joins x) g = refl
  no_cert n o id (law.Leaves x) g = refl
  no_cert n o id (law.Prepared x) g = refl
  no_cert n o id (law.Switches x) g = refl
  no_cert n o id (law.Appoints x) g = refl
  no_cert n o id law.Plain g = refl

  -- a value that was refused, or whose transaction is committed, doesn't wait
  refused : (l : Life) (v : law.Value) → Lived t i l → AlwaysSound t i base l → (y : Entry) (g : Gtid) (past : Life) → left.IsPast (Took y ∷ past) l → v.origin ≡ i → y.value.id.origin ≡ i → y.value.id.number ≡ v.number → y.effect ≡ Conflicts g → Waits t i (life_of base l) v → ⊥
  refused l v k o y g past h vo yo yn c w =
      let m : Mem (placed y) (lives.marked (life_of base l)) = IsPast-mem (lives.marked (life_of base (Took y ∷ past))) (lives.marked (life_of base l)) (placed y) (marked_stays l (Took y ∷ past) h k o) (inl refl) in
      let s = sound_marked l o (placed y) m in
      let n = number_below t (lives.marked (life_of base l)) (placed y) s.kept m in
      elim w [
        | inl z ↦ (let e : seen.last_kept (lives.taken (life_of base l)) (placed y).value.origin ≡ seen.last_kept (lives.taken (life_of base l)) i = ap (seen.last_kept (lives.taken (life_of base l))) yo in absurd (omega (arith, n, e, yn, z)))
        | inr z ↦ (let p = placed_as t (lives.marked (life_of base l)) z.0 z.1 in
            let same : p.at ≡ placed y = one_place t (lives.marked (life_of base l)) p.at (placed y) s.kept p.there m (p.origin ∙ z.3 ∙ sym yo) (p.number ∙ z.2 ∙ sym yn) in
            let none : law.cert_of t (p.is_it).0 (placed y) ≡ None = ap (λ f. law.cert_parts t (p.is_it).0 y.value.id.origin y.value.id.number (does_entry y.value.what y.effect y.holds) (outcome_of f)) c ∙ no_cert (p.is_it).0 y.value.id.origin y.value.id.number (does_entry y.value.what y.effect y.holds) g in
            absurd (some_none (sym (p.is_it).1 ∙ ap (law.cert_of t (p.is_it).0) same ∙ none)))
      ]

  settled_by : (l : Life) (v : law.Value) → MomentOf l → (c : Cert) (past : Life) → left.IsPast (Committed c.gtid ∷ past) l → In c (certs past) → v.origin ≡ i → c.id.origin ≡ i → c.id.number ≡ v.number → 1 ≤ v.number → Waits t i (life_of base l) v → ⊥
  settled_by l v m c past h n vo co cn pos w =
      let hp = past_tail (Committed c.gtid) past l h in
      let d = (sound_where t i base past (sound_past t i base past l hp m.0.1) c n).knows.of_list c n in
      let here = certified_stays l past hp m.0.0 m.0.1 d.0 d.1 in
      let s = sound_listed t i base l m.0.1 d.0 here in
      let id : (d.0).id ≡ v.number = elim d.2.number [ inl e ↦ sym e ∙ cn | inr e ↦ absurd (omega (arith, e, cn, pos)) ] in
      let own : (d.0).origin ≡ i = sym d.2.origin ∙ co in
      elim w [
        | inl z ↦ (let p = placed_as t (lives.marked (life_of base l)) d.0 here in
            let b = number_below t (lives.marked (life_of base l)) p.at s.kept p.there in
            let e : seen.last_kept (lives.taken (life_of base l)) (p.at).value.origin ≡ seen.last_kept (lives.taken (life_of base l)) i = ap (seen.last_kept (lives.taken (life_of base l))) (p.origin ∙ own) in
            let f = p.number in
            absurd (omega (arith, b, e, f, id, z)))
        | inr z ↦ (let same : z.0 ≡ d.0 = one_cert t (lives.marked (life_of base l)) z.0 d.0 s.kept z.1 here (z.3 ∙ sym own) (z.2 ∙ sym id) in
            let hs : HasSets (Committed c.gtid ∷ past) = sets_past (Committed c.gtid ∷ past) l h m.1 in
            let now : has (executed (Committed c.gtid ∷ past)) c.gtid ≡ true = all_with_gtid (executed past) c.gtid c.gtid (canonical past hs.1) hs.0.0 hs.0.1 ∙ or_left (gtid_eq c.gtid c.gtid) (has (executed past) c.gtid) (gtid_eq_itself c.gtid) in
            let stays = executed_stays t i base l (Committed c.gtid ∷ past) c.gtid h m.0.0 m.1 now in
            absurd (false≢true (sym z.4 ∙ executed_agrees base l (z.0).gtid m.1 ∙ ap (has (executed l)) (ap (λ (u : law.Cert). u.gtid) same ∙ sym d.2.gtid) ∙ stays)))
      ]

  -- ---- a statement

  -- none of the queued places that are done writes the key
  none_placed : (l : Life) (x : Item) (cs : List Cert) (c : Cert) → place_holder l x cs ≡ None → In c cs → is_done l c.place ≡ true → has_item c.txn.items x ≡ false
  none_placed l x [] c h m d = absurd m
  none_placed l x (y ∷ cs) c h m d = go (has_item y.txn.items x && is_done l y.place) refl h m (λ k z. none_placed l x cs c k z d)
    where
      unwritten : (a b : Bool) → (a && b) ≡ false → b ≡ true → a ≡ false
      unwritten false b e q = refl
      unwritten true b e q = absurd (false≢true (sym e ∙ q))

      go : (b : Bool) → (has_item y.txn.items x && is_done l y.place) ≡ b → ◌≡◌ {A = Option Holder} (elim b [ true ↦ Some (ByPlace y.place y.gtid) | false ↦ place_holder l x cs ]) None → (y ≡ c) ⊎ In c cs → (place_holder l x cs ≡ None → In c cs → has_item c.txn.items x ≡ false) → has_item c.txn.items x ≡ false
      go true e q z f = absurd (some_none q)
      go false e q (inl z) f = ap (λ (u : Cert). has_item u.txn.items x) (sym z) ∙ unwritten (has_item y.txn.items x) (is_done l y.place) e (ap (λ (u : Cert). is_done l u.place) z ∙ d)
      go false e q (inr z) f = f q z

  no_holder : (a b : Option Holder) → or_holder a b ≡ None → (a ≡ None) × (b ≡ None)
  no_holder None b h = (refl, h)
  no_holder (Some x) b h = absurd (some_none h)

  module _ (l : Life) (s : ℕ) (ch : Change) (h : left.IsChanged i l s ch) (m : MomentOf l) (rows : IsReady t i l → SameRows l) (begun : 1 < length l) (settled : left.is_settled i l ≡ true) where
    k : Lived t i l
    k = m.0.0

    o : AlwaysSound t i base l
    o = m.0.1

    holders : (place_holder l ch.item (queue l i) ≡ None) × (session_holder l ch.item s (sessions l) ≡ None)
    holders = no_holder (place_holder l ch.item (queue l i)) (session_holder l ch.item s (sessions l)) h.free

    open_now : Opened t i base l s
    open_now = opened t i base l s k o (ap is_open h.is_open.active) h.is_open.unkilled

    -- nothing was left since the begin call
    alive : is_error (state l) ≡ false
    alive = sym (unfallen t i base l s k (ap is_begun h.is_open.active) h.is_open.stayed) ∙ not_error (state_then (last_call l s)) h.was_up
      where
        not_error : (x : MemberState) → is_up x ≡ true → is_error x ≡ false
        not_error Offline q = absurd (false≢true q)
        not_error Recovering q = absurd (false≢true q)
        not_error Online q = refl
        not_error Error q = absurd (false≢true q)

    same : (g : Gtid) → lives.executed (life_of base l) g ≡ has (executed l) g
    same g = executed_agrees base l g m.1

    no_place : (c : law.Cert) → Mem c (certified_of t base l) → decided.writes c ch.item ≡ true → list_any (lives.finishes c.place) (life_of base l) ≡ true → lives.executed (life_of base l) c.gtid ≡ true
    no_place c n w d = same c.gtid ∙ elim ((sound_listed t i base l o c n).knows.all c n) [
      | inr q ↦ q
      | inl q ↦ ap (has (executed l)) (sym q.2.gtid) ∙ elim (cases_Bool (has (executed l) (q.0).gtid)) [
        | inl y ↦ y
        | inr y ↦ absurd (false≢true (sym (none_placed l ch.item (queue l i) q.0 holders.0 (queued q.0 (is_pending t i base l q.0 q.1 y) (foreign q.0 q.2)) (done q.0 q.2)) ∙ (ap (λ (u : Txn). has_item u.items ch.item) q.2.txn ∙ w)))
      ]
    ]
      where
        done : (u : Cert) → Alike u c → is_done l u.place ≡ true
        done u a = ap (is_done l) a.place ∙ sym (done_as t i base l c.place) ∙ d

        foreign : (u : Cert) → Alike u c → is_own i u ≡ false
        foreign u a =
            let y = done_at l u.place k o (done u a) in
            let z : y.cert ≡ c = same_place t (lives.marked (life_of base l)) y.cert c y.here n (y.place ∙ a.place) in
            elim (cases_Bool (is_own i u)) [
              | inr e ↦ e
              | inl e ↦ absurd (y.foreign (ap (λ (w : law.Cert). w.origin) z ∙ sym a.origin ∙ inc_is u.id.origin i e))
            ]

        queued : (u : Cert) → In u (pending l) → is_own i u ≡ false → In u (queue l i)
        queued u p f = subst (λ b. In u (elim b [ true ↦ [] | false ↦ filter (λ d. not (is_own i d)) (pending l) ])) (sym alive) (filter_in t i base (λ (d : Cert). not (is_own i d)) u (pending l) p (ap not f))

    no_open : (u : ℕ) (ds : List Change) → (u ≡ s → ⊥) → lives.open_of t (life_of base l) u ≡ Some ds → (dh : Change) → Mem dh ds → item_eq dh.item ch.item ≡ false
    no_open u ds n e dh z = elim (cases_Bool (item_eq dh.item ch.item)) [
      | inr q ↦ q
      | inl q ↦ absurd (false≢true (sym (none_open t i base l s ch.item k o holders.1 u ds n e) ∙ any_from (λ (c : Change). item_eq c.item ch.item) ds dh z q))
    ]

    -- a transaction whose commit was asked and that waits has lost the key
    no_asked : (v : law.Value) (x : Txn) (past : lives.Life) → listing.IsPast (lives.Made v ∷ past) (life_of base l) → v.body ≡ law.Write x → Mem ch.item x.items → Waits t i (life_of base l) v → Lost t (life_of base l) past ch.item
    no_asked v x past p b n w = go (asked_as t i base a.value x a.before (asking a.before) ch.item l a.there k first)
      where
        a : MadeAs base v past x l
        a = made_back base v past x l b p

        lived_made : Lived t i (Made a.value (Some (Writes x)) ∷ a.before)
        lived_made = lived_past t i (Made a.value (Some (Writes x)) ∷ a.before) l a.there k

        asks : AsksFor a.before a.value x
        asks = lived_made.0.allowed.rightly

        before_l : left.IsPast a.before l
        before_l = past_tail (Made a.value (Some (Writes x))) a.before l a.there

        items : x.items ≡ items_of x.changes
        items = ap (λ (y : Txn). y.items) asks.txn ∙ ap (λ (y : Txn). items_of y.changes) (sym asks.txn)

        first : AskedAs t i base a.value x a.before (asking a.before) ch.item (Made a.value (Some (Writes x)) ∷ a.before)
        first = asked_first t i base a.value x a.before (asking a.before) ch.item asks lived_made.1 (sound_past t i base a.before l before_l o) refl (item_among x.changes ch.item (subst (Mem ch.item) items n))

        own : v.origin ≡ i
        own = a.origin ∙ lived_made.0.allowed.origin

        -- a place took the key over
        lost : LostSince t i base a.value x a.before (asking a.before) ch.item l → Lost t (life_of base l) past ch.item
        lost z =
            let at : left.IsPast (Done z.place ∷ z.before) l = z.done in
            let before : left.IsPast z.before l = past_tail (Done z.place) z.before l at in
            let kb = lived_past t i (Done z.place ∷ z.before) l at k in
            let ob = sound_past t i base z.before l before o in
            let y = done_place t i base z.before z.place kb.0 ob in
            let d = kb.0.allowed in
            let f = find_is z.place (queue z.before i) d.0 d.1 in
            let q = in_pending z.before d.0 (in_queue z.before i d.0 f.0).1 in
            let e = (sound_where t i base z.before ob d.0 q.0).knows.of_list d.0 q.0 in
            let same_cert : e.0 ≡ y.listed = same_place t (lives.marked (life_of base z.before)) e.0 y.listed e.1 y.there (sym e.2.place ∙ f.1 ∙ sym y.place ∙ y.alike.place) in (
              y.listed,
              listed_stays (Done z.place ∷ z.before) at y.listed y.there,
              ap (λ (u : Txn). has_item u.items ch.item) (sym y.alike.txn) ∙ ap (λ c. writes_key c ch.item) (sym y.found) ∙ z.takes,
              done_as t i base l (y.listed).place ∙ ap (is_done l) (sym y.alike.place ∙ y.place) ∙ done_stays l z.place z.before at,
              unexecuted (y.listed).gtid (ap (has (executed z.before)) (sym (ap (λ (u : law.Cert). u.gtid) same_cert) ∙ sym e.2.gtid) ∙ q.1) z.after before,
            )
          where
            done_stays : (l : Life) (p : ℕ) (b : Life) → left.IsPast (Done p ∷ b) l → is_done l p ≡ true
            done_stays l p b h = is_done_past l p b h

            listed_stays : (p : Life) → left.IsPast p l → (d : law.Cert) → Mem d (certified_of t base p) → Mem d (certified_of t base l)
            listed_stays p h d n = certified_stays l p h k o d n

            unexecuted : (g : Gtid) → has (executed z.before) g ≡ false → left.IsPast a.before z.before → left.IsPast z.before l → lives.executed past g ≡ false
            unexecuted g e h b =
                let sb : HasSets z.before = sets_past z.before l b m.1 in
                let sa : HasSets a.before = sets_past a.before z.before h sb in
                ap (λ u. lives.executed u g) a.past_is ∙ executed_agrees base a.before g sa ∙ elim (cases_Bool (has (executed a.before) g)) [
                  | inr y ↦ y
                  | inl y ↦ absurd (false≢true (sym e ∙ executed_stays t i base z.before a.before g h (lived_past t i z.before l b k) sb y))
                ]

        over : (q : Life) → left.IsPast q l → IsOver q (a.value).id → Lost t (life_of base l) past ch.item
        over q h (Fallen e) = absurd (false≢true (sym alive ∙ error_past l q h k e))
        over q h (Refused y g pst z id c) = absurd (refused l v k o y g pst (past_trans (Took y ∷ pst) q l z h) own (ap (λ (u : ValueId). u.origin) id ∙ lived_made.0.allowed.origin) (ap (λ (u : ValueId). u.number) id ∙ sym a.number) c w)
        over q h (Settled c pst z n id) = absurd (settled_by l v m c pst (past_trans (Committed c.gtid ∷ pst) q l z h) n own (ap (λ (u : ValueId). u.origin) id ∙ lived_made.0.allowed.origin) (ap (λ (u : ValueId). u.number) id ∙ sym a.number) (subst (λ y. 1 ≤ y) (sym (a.number ∙ lived_made.0.allowed.number)) (omega arith)) w)

        go : AskedAs t i base a.value x a.before (asking a.before) ch.item l → Lost t (life_of base l) past ch.item
        go (IsDone q h z) = over q h z
        go (Keeps p (inr z)) = lost z
        go (Keeps p (inl z)) = absurd (false≢true (sym free ∙ held))
          where
            s0 : ℕ
            s0 = asking a.before

            other : (asking a.before == s) ≡ false
            other = elim (cases_Bool (eqb (asking a.before) s)) [
              | inr e ↦ e
              | inl e ↦ (let y : Active ≡ Asking (a.value).id = sym h.is_open.active ∙ ap (phase l) (sym (eqb-true (asking a.before) s e)) ∙ p in absurd (cc y))
            ]

            free : holds_key l ch.item (asking a.before) ≡ false
            free = free_of t i base l ch.item s (sessions l) (asking a.before) holders.1 (in_sessions t i base l (asking a.before) k (ap is_begun p)) other

            held : holds_key l ch.item (asking a.before) ≡ true
            held = ap (λ y. (is_asking y || (is_active y && not (is_some (killed l (asking a.before))))) && keeps_key l (asking a.before) ch.item) p ∙ z

    -- it was ONLINE at the call, so it is ready
    is_ready : lives.ready t i (life_of base l) ≡ true
    is_ready = go (last_call l s) refl
      where
        go : (q : Option Call) → last_call l s ≡ q → lives.ready t i (life_of base l) ≡ true
        go None e = absurd (false≢true (ap (λ y. is_up (state_then y)) (sym e) ∙ h.was_up))
        go (Some c) e =
            let r = call_past l s c e in
            let at : left.IsPast c.past l = past_tail (Called s c.level r.0) c.past l r.1 in
            let up : is_up (state c.past) ≡ true = ap (λ y. is_up (state_then y)) (sym e) ∙ h.was_up in
            let b = (lived_past t i (Called s c.level r.0 ∷ c.past) l r.1 k).0.goes_on.begun in
            let sh = shape_of t i base c.past (sound_past t i base c.past l at o) b in
            let ready = ready_by t i base c.past sh (or_left (is_up (state c.past)) (is_recovering (state c.past) && has_give c.past) up) in
            ready_mono t i (life_of base c.past) (life_of base l) (life_past base c.past l at) (ready_as t i base c.past ready)

    pub lawful_change : LawfulChange t i (life_of base l) s ch
    lawful_change = record {
      changes = changes l s;
      is_open = open_now.has;
      is_ready = is_ready;
      need = ap (fits ch.what) (changed_as (changes l s) (rows_now t (life_of base l)) ch.item ∙ ap (λ y. changed_row ch.item y (changes l s)) (sym (rows (ready_back t i base l is_ready) ch.item))) ∙ h.fits;
      no_place = no_place;
      no_open = no_open;
      no_asked = no_asked;
    }

  -- ---- own values

  -- what was changed was changed while ONLINE at the call
  changed_up : (l : Life) (s : ℕ) → Lived t i l → (changes l s ≡ [] → ⊥) → is_up (state_then (last_call l s)) ≡ true
  changed_up [] s k n = absurd (n refl)
  changed_up (Called u v w ∷ l) s k n = go (u == s) n (changed_up l s k.1)
    where
      go : (b : Bool) → (◌≡◌ {A = List Change} (elim b [ true ↦ [] | false ↦ changes l s ]) [] → ⊥) → ((changes l s ≡ [] → ⊥) → is_up (state_then (last_call l s)) ≡ true) → is_up (state_then (elim b [ true ↦ Some (record { level = v; limit = w; past = l; ticks = 0 }) | false ↦ last_call l s ])) ≡ true
      go true n f = absurd (n refl)
      go false n f = f n
  changed_up (Changed u c ∷ l) s k n = go (u == s) refl n (changed_up l s k.1)
    where
      go : (b : Bool) → (u == s) ≡ b → (◌≡◌ {A = List Change} (elim b [ true ↦ changes l s ++ c ∷ [] | false ↦ changes l s ]) [] → ⊥) → ((changes l s ≡ [] → ⊥) → is_up (state_then (last_call l s)) ≡ true) → is_up (state_then (last_call l s)) ≡ true
      go true e n f = ap (λ y. is_up (state_then (last_call l y))) (sym (eqb-true u s e)) ∙ k.0.allowed.was_up
      go false e n f = f n
  changed_up (Came Ticks ∷ l) s k n = ticked (last_call l s) ∙ changed_up l s k.1 n
    where
      ticked : (q : Option Call) → is_up (state_then (one_tick q)) ≡ is_up (state_then q)
      ticked None = refl
      ticked (Some c) = refl
  changed_up (Came (Hears m) ∷ l) s k n = changed_up l s k.1 n
  changed_up (Came (Works z y) ∷ l) s k n = changed_up l s k.1 n
  changed_up (Came (Calls z y) ∷ l) s k n = changed_up l s k.1 n
  changed_up (Came (Operates z) ∷ l) s k n = changed_up l s k.1 n
  changed_up (Skips u v ∷ l) s k n = changed_up l s k.1 n
  changed_up (Gave j m ∷ l) s k n = changed_up l s k.1 n
  changed_up (Replied r ∷ l) s k n = changed_up l s k.1 n
  changed_up (AskFails ∷ l) s k n = changed_up l s k.1 n
  changed_up (Founds ∷ l) s k n = changed_up l s k.1 n
  changed_up (Enters z ∷ l) s k n = changed_up l s k.1 n
  changed_up (Starts z ∷ l) s k n = changed_up l s k.1 n
  changed_up (Committed y ∷ l) s k n = changed_up l s k.1 n
  changed_up (Done q ∷ l) s k n = changed_up l s k.1 n
  changed_up (Begun u y z ∷ l) s k n = changed_up l s k.1 n
  changed_up (AsksCommit u y ∷ l) s k n = changed_up l s k.1 n
  changed_up (Ends u ∷ l) s k n = changed_up l s k.1 n
  changed_up (Took z ∷ l) s k n = changed_up l s k.1 n
  changed_up (Made v y ∷ l) s k n = changed_up l s k.1 n
  changed_up (Answered u y ∷ l) s k n = changed_up l s k.1 n
  changed_up (Is y z ∷ l) s k n = changed_up l s k.1 n
  changed_up (Restores y cs ∷ l) s k n = changed_up l s k.1 n

  -- the history before the present begin is a past
  begun_before : (l : Life) (s : ℕ) → (b : BegunAs t i base l s) → left.IsPast b.past l
  begun_before l s b = b.earlier

  parts_before : (ps : List Part) (l before : Life) (u : ℕ) (id : ValueId) → MadeParts ps l (AsksCommit u id ∷ before) → left.IsPast before l
  parts_before [] l before u id h = subst (left.IsPast before) (sym h) (inr (past_itself before))
  parts_before (p ∷ ps) l before u id h = subst (left.IsPast before) (sym h.2) (inr (parts_before ps h.1 before u id h.3))

  parts_executed : (ps : List Part) (l before : Life) (u : ℕ) (id : ValueId) → MadeParts ps l (AsksCommit u id ∷ before) → executed l ≡ executed before
  parts_executed [] l before u id h = ap executed h
  parts_executed (p ∷ ps) l before u id h = ap executed h.2 ∙ parts_executed ps h.1 before u id h.3

  parts_open : (ps : List Part) (l before : Life) (u : ℕ) (id : ValueId) (s : ℕ) → MadeParts ps l (AsksCommit u id ∷ before) → lives.open_of t (life_of base l) s ≡ lives.open_of t (life_of base before) s
  parts_open [] l before u id s h = ap (λ y. lives.open_of t (life_of base y) s) h
  parts_open (p ∷ ps) l before u id s h = ap (λ y. lives.open_of t (life_of base y) s) h.2 ∙ parts_open ps h.1 before u id s h.3

  parts_then : (ps : List Part) (l before : Life) (u : ℕ) (id : ValueId) (s : ℕ) → MadeParts ps l (AsksCommit u id ∷ before) → state_then (last_call l s) ≡ state_then (last_call before s)
  parts_then [] l before u id s h = ap (λ y. state_then (last_call y s)) h
  parts_then (p ∷ ps) l before u id s h = ap (λ y. state_then (last_call y s)) h.2 ∙ parts_then ps h.1 before u id s h.3

  -- ONLINE by the own state is ONLINE by the life
  up_online : (p : Life) → MomentOf p → 1 < length p → left.is_settled i p ≡ true → is_up (state p) ≡ true → lives.online t i (life_of base p) ≡ true
  up_online p m b z u =
      let sh = shape_of t i base p m.0.1 b in
      let ready = ready_by t i base p sh (or_left (is_up (state p)) (is_recovering (state p) && has_give p) u) in
      let st = (stands_so t i base p m.0.0 m.0.1).0 ready b z in
      and_from (not (list_any lives.is_fall (life_of base p))) (seen.active t (lives.taken (life_of base p)) i)
      (ap not (fallen_is t i base p m.0.0 ∙ not_error (state p) u)) (ap seen.is_active (active (state p) (stand t i base p) u st))
    where
      not_error : (x : MemberState) → is_up x ≡ true → is_error x ≡ false
      not_error Offline q = absurd (false≢true q)
      not_error Recovering q = absurd (false≢true q)
      not_error Online q = refl
      not_error Error q = absurd (false≢true q)

      active : (x : MemberState) (y : seen.Standing) → is_up x ≡ true → StateAs t i base x y → y ≡ seen.Active
      active Offline y q h = absurd (false≢true q)
      active Recovering y q h = absurd (false≢true q)
      active Online y q h = h
      active Error y q h = absurd (false≢true q)

  -- a call comes in a settled moment
  call_settled : (p : Life) (s : ℕ) (v : Level) (w : ℕ) → LivedDid t i (Called s v w) p → (1 < length p) × (left.is_settled i p ≡ true)
  call_settled p s v w h = let z = h.allowed.1 in (h.goes_on.begun, subst (λ y. left.is_settled i y ≡ true) (sym z.1) refl)

  made_txn : (l : Life) (v : Value) (x : Txn) → MomentOf l → AsksFor l v x → LawfulBody t i (lives.Asked (asking l) ∷ life_of base l) (law.Write x)
  made_txn l v x m a = (now, (in_session, asks))
    where
      k : Lived t i l
      k = m.0.0

      o : AlwaysSound t i base l
      o = m.0.1

      before : left.IsPast a.past l
      before = parts_before a.parts l a.past a.session a.id a.since

      asked : (asking l ≡ a.session) × (phase l a.session ≡ Asking a.id)
      asked = parts_asked t i base a.parts l a.past a.session a.id a.since

      now : IsNow (lives.Asked (asking l) ∷ life_of base l) x.snapshot
      now g =
          ap (λ (y : Txn). has y.snapshot g) a.txn
          ∙ ap (λ y. has y g) (sym (parts_executed a.parts l a.past a.session a.id a.since))
          ∙ sym (executed_agrees base l g m.1)

      b : BegunAs t i base l a.session
      b = begun_as t i base l a.session k (ap (λ p. is_active p || is_asking p) asked.1)

      begun_past : left.IsPast (b.past) l
      begun_past = begun_before l a.session b

      r : (w : ℕ) × left.IsPast (Called a.session (b.call).level w ∷ (b.call).past) b.past
      r = call_past b.past a.session b.call b.was

      at : left.IsPast (Called a.session (b.call).level r.0 ∷ (b.call).past) l
      at = past_trans (Called a.session (b.call).level r.0 ∷ (b.call).past) b.past l r.1 begun_past

      at_past : left.IsPast (b.call).past l
      at_past = past_tail (Called a.session (b.call).level r.0) (b.call).past l at

      moment : MomentOf (b.call).past
      moment = ((lived_past t i (b.call).past l at_past k, sound_past t i base (b.call).past l at_past o), sets_past (b.call).past l at_past m.1)

      up : is_up (state (b.call).past) ≡ true
      up =
          ap is_up (sym (b.then) ∙ parts_then a.parts l a.past a.session a.id a.session a.since)
          ∙ changed_up a.past a.session (lived_past t i a.past l before k) a.some_changes

      in_session : InSession t i (lives.Asked (asking l) ∷ life_of base l)
      in_session =
          let z = call_settled (b.call).past a.session (b.call).level r.0 (lived_past t i (Called a.session (b.call).level r.0 ∷ (b.call).past) l at k).0 in
          record {
            session = a.session;
            begun = life_of base b.past;
            call = law_call t i base b.call;
            is_begun = b.begun;
            is_call = call_as t i base b.past a.session ∙ ap (calls t i base) b.was;
            was_online = up_online (b.call).past moment z.0 z.1 up;
          }

      opened_past : Opened t i base a.past a.session
      opened_past = opened t i base a.past a.session (lived_past t i a.past l before k) (sound_past t i base a.past l before o) (ap is_open a.is_open.active) a.is_open.unkilled

      changes_are : x.changes ≡ changes a.past a.session
      changes_are = ap (λ (y : Txn). y.changes) a.txn

      items_are : x.items ≡ items_of x.changes
      items_are = ap (λ (y : Txn). y.items) a.txn ∙ ap items_of (sym changes_are)

      asks : Asks t (lives.Asked (asking l) ∷ life_of base l) a.session x
      asks = record {
        past = life_of base l;
        asked = ap (λ n. lives.Asked n ∷ life_of base l) asked.0;
        changes = parts_open a.parts l a.past a.session a.id a.session a.since ∙ opened_past.has ∙ ap Some (sym changes_are);
        covers = λ c z. subst (Mem c.item) (sym items_are) (items_cover x.changes c z);
        keys = λ y z. items_from x.changes y (subst (Mem y) items_are z);
      }

  now_is : (l : Life) (e : Gtids) → MomentOf l → e ≡ executed l → IsNow (life_of base l) e
  now_is l e m q g = ap (λ y. has y g) q ∙ sym (executed_agrees base l g m.1)

  -- a Prepared entry is of one that is prepared
  made_prepared : (l : Life) (g : Gtid) → MomentOf l → (c : Cert) → In c (pending l) → c.gtid ≡ g → owes_prepared t l i c ≡ true → LawfulBody t i (life_of base l) (law.Prepared g)
  made_prepared l g m c n e q =
      let here = (in_pending l c n).0 in
      let s = sound_where t i base l m.0.1 c here in
      let p = prepared_as t i base l s (λ h. executed_agrees base l h m.1) c here (owed (c.txn.after && not (is_own i c)) q) in
      (p.0, sym p.1.gtid ∙ e, p.2)
    where
      owed : (b : Bool) → elim b [ false ↦ false | true ↦ has_inc (required t l c) i && (not (has_sent_prepared l c.gtid) && is_prepared l i c) ] ≡ true → is_prepared l i c ≡ true
      owed false h = absurd (false≢true h)
      owed true h = (and_parts (not (has_sent_prepared l c.gtid)) (is_prepared l i c) (and_parts (has_inc (required t l c) i) (not (has_sent_prepared l c.gtid) && is_prepared l i c) h).1).1

  -- what its value is made as, after the commit of its session was asked if it is of a transaction
  abbrev pub MadeRightly : Life → Value → Option Body → Type 0
  MadeRightly l v (Some (Writes x)) = LawfulMade t i (lives.Asked (asking l) ∷ life_of base l) (made_as v (Some (Writes x)))
  MadeRightly l v b = LawfulMade t i (life_of base l) (made_as v b)

  pub lawful_made : (l : Life) (v : Value) (b : Option Body) → left.IsMade t i l v b → MomentOf l → MadeRightly l v b
  lawful_made l v (Some (Writes x)) h m = record { own = h.origin; next = h.number ∙ ap suc (sym (made_as_many t i base l)); body = made_txn l v x m h.rightly }
  lawful_made l v None h m = record { own = h.origin; next = h.number ∙ ap suc (sym (made_as_many t i base l)); body = tt }
  lawful_made l v (Some (Executed e)) h m = record { own = h.origin; next = h.number ∙ ap suc (sym (made_as_many t i base l)); body = now_is l e m h.rightly.1 }
  lawful_made l v (Some (Arrives e)) h m = record { own = h.origin; next = h.number ∙ ap suc (sym (made_as_many t i base l)); body = now_is l e m h.rightly.1 }
  lawful_made l v (Some (Prepared g)) h m = let z = h.rightly.1 in record { own = h.origin; next = h.number ∙ ap suc (sym (made_as_many t i base l)); body = made_prepared l g m z.0 z.1 z.2 z.3 }
  lawful_made l v (Some Sync) h m = record { own = h.origin; next = h.number ∙ ap suc (sym (made_as_many t i base l)); body = tt }
  lawful_made l v (Some (Switches x)) h m = record { own = h.origin; next = h.number ∙ ap suc (sym (made_as_many t i base l)); body = tt }
  lawful_made l v (Some (Appoints x)) h m = record { own = h.origin; next = h.number ∙ ap suc (sym (made_as_many t i base l)); body = tt }
  lawful_made l v (Some (PartOf x)) h m = record { own = h.origin; next = h.number ∙ ap suc (sym (made_as_many t i base l)); body = tt }
