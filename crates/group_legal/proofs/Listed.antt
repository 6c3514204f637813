-- Certified transactions wherever they are known: their GTIDs are within their ranges, their bytes are read as them, and they stand in the list.
use Rattle.std.proofs.Common.{◌≡◌, inl, inr, ℕ, suc, ◌<◌, Bool, true, false, Option, Some, None, List, ◌∷◌, ◌++◌, refl, sym, ap, subst, ◌∙◌, length, arith}
use Rattle.std.proofs.lemmas.Bool.{cases_Bool}
use Rattle.gr_ids.specs.declared.names.Inc.{Inc}
use Rattle.gr_ids.specs.declared.names.Gtid.{Gtid}
use Rattle.gr_ids.specs.declared.names.OpenParts.{OpenParts}
use Rattle.gtid_sets.specs.Canonical.{IsUuid, IsNumber}
use Rattle.slot_values.specs.declared.value.What.{What}
use Rattle.slot_values.specs.declared.value.What.TheVariants.{Noop, Add, Remove, Body as Says}
use Rattle.txn_forms.specs.declared.body.Body.{Body}
use Rattle.txn_forms.specs.declared.body.Body.TheVariants.{Txn as HasTxn, Prepared, Sync, Executed, Online as Arrives, Mode as Switches, Primary as Appoints, Part as PartOf}
use Rattle.txn_forms.specs.declared.body.Part.{Part}
use Rattle.txn_forms.specs.declared.body.Txn.{Txn}
use Rattle.txn_forms.specs.Bodies.{read_body}
use Rattle.txn_forms.specs.Parts.{is_last, is_large, if_txn, joined, bytes_before}
use Rattle.node_rules.specs.Lists.{In}
use Rattle.node_rules.proofs.Incs.{inc_same}
use Rattle.group_rules.specs.declared.marks.Effect.{Effect}
use Rattle.group_rules.specs.declared.marks.Effect.TheVariants.{Plain, Void, Unread, Positive, Conflict}
use Rattle.group_rules.specs.Events.{Took, Setup, Entry, Cert}
use Rattle.group_rules.specs.Life.{view, cert_by, cert_of}
use Rattle.group_rules.specs.Parts.{open_parts, joined_or, held_body, held}
use Rattle.group_rules.specs.View.{View}
use Rattle.group_rules.specs.Legal.{IsPast}
use Rattle.group_rules.specs.World.{Past, Does, life_in}
use Rattle.group_runs.specs.Runs.{IsSetup, is_founder, AllDid, IsDone}
use Rattle.group_order.specs.OneLog.{IsReady, TakenAs, Follows, LogOver}
use Rattle.group_order.proofs.Nexts.{past_self, past_of, did_past, done_at}
use Rattle.group_order.proofs.Shapes.{Shape, shapes, takes_after}
use Rattle.group_laws.specs.Lists.{Mem}
use Rattle.group_laws.specs.Entries as law
use Rattle.group_laws.specs.Life as lives
use Rattle.group_laws.specs.Lawful.{upto}
use Rattle.group_laws.proofs.Acks.{upto_is_past}
use Rattle.group_laws.proofs.ServerRows.{certified_past}
use Rattle.group_lives.specs.Lives.{does_entry, outcome_of, placed, life_of, law_cert}
use Rattle.group_lives.specs.Sound.{IsEffect}
use Rattle.group_lives.proofs.Taking.{places_agree}
use Rattle.group_lawful.specs.Knows.{Alike}
use Rattle.group_legal.specs.Bases.{list_of, base_in, TakesOf, JudgesAs}
use Rattle.group_legal.specs.Ranges.{HasSmallNumbers}
use Rattle.group_legal.proofs.EntryEffects.{entry_takes}
use Rattle.group_legal.proofs.Told.{Spelled, body_read}
use Rattle.group_legal.proofs.Stocks.{Readable}
use Rattle.group_legal.proofs.Carried.{as_given, CarriedAt, carried}

-- ---- what a place holds was read

-- a transaction that a place holds was read from bytes
pub holds_read : (o : Option OpenParts) (w : What) (x : Txn) → held o w ≡ Some (HasTxn x) → (b : List ℕ) × (read_body b ≡ Some (HasTxn x))
holds_read o Noop x h = absurd (cc h)
holds_read o (Add j) x h = absurd (cc h)
holds_read o (Remove i) x h = absurd (cc h)
holds_read o (Says b) x h = go (read_body b) refl h
  where
    of_txn : (c : List ℕ) (y : Option Body) → read_body c ≡ y → (p : Part) → joined_or (PartOf p) (if_txn y) ≡ Some (HasTxn x) → (b : List ℕ) × (read_body b ≡ Some (HasTxn x))
    of_txn c None e p q = absurd (cc q)
    of_txn c (Some (HasTxn y)) e p q = (c, e ∙ q)
    of_txn c (Some (Prepared g)) e p q = absurd (cc q)
    of_txn c (Some Sync) e p q = absurd (cc q)
    of_txn c (Some (Executed s)) e p q = absurd (cc q)
    of_txn c (Some (Arrives s)) e p q = absurd (cc q)
    of_txn c (Some (Switches m)) e p q = absurd (cc q)
    of_txn c (Some (Appoints i)) e p q = absurd (cc q)
    of_txn c (Some (PartOf z)) e p q = absurd (cc q)

    of_joined : (c : List ℕ) (l : Bool) (p : Part) → joined_or (PartOf p) (elim l [ true ↦ if_txn (read_body c) | false ↦ None ]) ≡ Some (HasTxn x) → (b : List ℕ) × (read_body b ≡ Some (HasTxn x))
    of_joined c true p q = of_txn c (read_body c) refl p q
    of_joined c false p q = absurd (cc q)

    of_part : (p : Part) (l : Bool) → ◌≡◌ {A = Option Body} (elim l [ true ↦ joined_or (PartOf p) (joined (bytes_before o ++ p.bytes)) | false ↦ Some (PartOf p) ]) (Some (HasTxn x)) → (b : List ℕ) × (read_body b ≡ Some (HasTxn x))
    of_part p true q = let c : List ℕ = bytes_before o ++ p.bytes in of_joined c (is_large (length c)) p q
    of_part p false q = absurd (cc q)

    go : (y : Option Body) → read_body b ≡ y → held_body o y ≡ Some (HasTxn x) → (b : List ℕ) × (read_body b ≡ Some (HasTxn x))
    go None e q = absurd (cc q)
    go (Some (HasTxn y)) e q = (b, e ∙ q)
    go (Some (PartOf p)) e q = of_part p (is_last o p) q
    go (Some (Prepared g)) e q = absurd (cc q)
    go (Some Sync) e q = absurd (cc q)
    go (Some (Executed s)) e q = absurd (cc q)
    go (Some (Arrives s)) e q = absurd (cc q)
    go (Some (Switches m)) e q = absurd (cc q)
    go (Some (Appoints i)) e q = absurd (cc q)

-- ---- an entry with a GTID

pub record GivenGtid (e : Entry) (c : Cert) : Type 0 where
  pub gtid : Gtid
  pub txn : Txn
  pub effect : e.effect ≡ Positive gtid
  pub holds : e.holds ≡ Some (HasTxn txn)
  pub is_it : record { place = e.place; id = e.value.id; gtid = gtid; txn = txn } ≡ c

pub given_gtid : (e : Entry) (c : Cert) → In c (cert_of e) → GivenGtid e c
given_gtid e c h = go e.effect e.holds refl refl h
  where
    go : (f : Effect) (b : Option Body) → e.effect ≡ f → e.holds ≡ b → In c (cert_by e.place e.value.id f b) → GivenGtid e c
    go (Positive g) (Some (HasTxn x)) p q (inl z) = record { gtid = g; txn = x; effect = p; holds = q; is_it = z }
    go (Positive g) (Some (HasTxn x)) p q (inr z) = absurd z
    go (Positive g) (Some (Prepared y)) p q z = absurd z
    go (Positive g) (Some Sync) p q z = absurd z
    go (Positive g) (Some (Executed s)) p q z = absurd z
    go (Positive g) (Some (Arrives s)) p q z = absurd z
    go (Positive g) (Some (Switches m)) p q z = absurd z
    go (Positive g) (Some (Appoints i)) p q z = absurd z
    go (Positive g) (Some (PartOf y)) p q z = absurd z
    go (Positive g) None p q z = absurd z
    go Plain b p q z = absurd z
    go Void b p q z = absurd z
    go Unread b p q z = absurd z
    go (Conflict g) b p q z = absurd z

pub says_txn : (t : Setup) (v : View) (w : What) (f : Effect) (x : Txn) (g : Gtid) → IsEffect t v w (Some (HasTxn x)) f → f ≡ Positive g → (g.source ≡ t.limits.group) × ((b : List ℕ) × (w ≡ Says b))
says_txn t v (Says b) f x g h e = let z : IsEffect t v (Says b) (Some (HasTxn x)) (Positive g) = subst (IsEffect t v (Says b) (Some (HasTxn x))) e h in (z, (b, refl))
says_txn t v Noop f x g h e = absurd h
says_txn t v (Add j) f x g h e = absurd h
says_txn t v (Remove i) f x g h e = absurd h

-- as the laws have it
abbrev pub cert_placed : Setup → Entry → Option law.Cert
cert_placed t e = law.cert_of t e.place (placed e)

placed_cert : (t : Setup) (v : View) (e : Entry) (c : Cert) → IsEffect t v e.value.what e.holds e.effect → GivenGtid e c → cert_placed t e ≡ Some (law_cert c)
placed_cert t v e c h g = by e.value.what refl
  where
    k : (g.gtid.source ≡ t.limits.group) × ((b : List ℕ) × (e.value.what ≡ Says b))
    k = says_txn t v e.value.what e.effect g.txn g.gtid (subst (λ b. IsEffect t v e.value.what b e.effect) g.holds h) g.effect

    same : law_cert (record { place = e.place; id = e.value.id; gtid = g.gtid; txn = g.txn }) ≡ law_cert c
    same = ap law_cert g.is_it

    gtid : record { source = t.limits.group; number = g.gtid.number } ≡ g.gtid
    gtid = ap (λ s. record { source = s; number = g.gtid.number }) (sym k.0)

    by : (w : What) → e.value.what ≡ w → cert_placed t e ≡ Some (law_cert c)
    by w q =
        ap (λ (y : What). law.cert_parts t e.place e.value.id.origin e.value.id.number (does_entry y e.effect e.holds) (outcome_of e.effect)) k.1.1
        ∙ ap (λ (f : Effect). law.cert_parts t e.place e.value.id.origin e.value.id.number (does_entry (Says k.1.0) f e.holds) (outcome_of f)) g.effect
        ∙ ap (λ (b : Option Body). law.cert_parts t e.place e.value.id.origin e.value.id.number (does_entry (Says k.1.0) (Positive g.gtid) b) (outcome_of (Positive g.gtid))) g.holds
        ∙ ap (λ (y : Gtid). Some (record { place = e.place; origin = e.value.id.origin; id = e.value.id.number; gtid = y; txn = g.txn })) gtid
        ∙ ap (λ (y : law.Cert). Some y) same

cons_here : {A : Type 0} (o : Option A) (x : A) (xs : List A) → o ≡ Some x → Mem x (law.cons_some o xs)
cons_here None x xs h = absurd (cc h)
cons_here (Some y) x xs h = inl (cc h)

-- ---- wherever it is known

-- its GTID is within its range, and its bytes are read as it
abbrev pub Fine : Cert → Type 0
Fine c = (IsUuid c.gtid.source × IsNumber c.gtid.number) × Readable c

-- it stands in the list
abbrev pub Listed : Setup → List law.Placed → Cert → Type 0
Listed t k c = (d : law.Cert) × Mem d (law.certified t k) × Alike c d

abbrev pub Known : Setup → List law.Placed → Cert → Type 0
Known t k c = Fine c × Listed t k c

module _ (t : Setup) (setup : IsSetup t) (w : Past) (x : LogOver t w) (done : AllDid (IsDone t) w) (spelled : Spelled) (small : HasSmallNumbers w) where
  effect_at : (p : Past) (i : Inc) (e : Entry) → TakenAs t x.log p i e → IsEffect t (view t (life_in p i)) e.value.what e.holds e.effect
  effect_at p i e g =
      subst (λ (y : Entry). IsEffect t (view t (life_in p i)) y.value.what y.holds y.effect) (sym g.is_it)
      (entry_takes t (life_in p i) g.effect e.value (open_parts (life_in p i) e.value.id.origin))

  took_as : (p : Past) (i : Inc) (e : Entry) → IsPast (Does i (Took e) ∷ p) w → TakenAs t x.log p i e
  took_as p i e k = done_at (Follows t x.log) w p i (Took e) x.follows k

  fine_took : (p : Past) (i : Inc) (e : Entry) → IsPast (Does i (Took e) ∷ p) w → (c : Cert) → In c (cert_of e) → Fine c
  fine_took p i e k c m =
      let g : GivenGtid e c = given_gtid e c m in
      let f : TakenAs t x.log p i e = took_as p i e k in
      let s = says_txn t (view t (life_in p i)) e.value.what e.effect g.txn g.gtid (subst (λ b. IsEffect t (view t (life_in p i)) e.value.what b e.effect) g.holds (effect_at p i e f)) g.effect in
      let r = holds_read (open_parts (life_in p i) e.value.id.origin) e.value.what g.txn (sym (ap (λ (y : Entry). y.holds) f.is_it) ∙ g.holds) in
      let b = body_read spelled r.0 (HasTxn g.txn) r.1 in
      subst Fine g.is_it ((subst IsUuid (sym s.0) setup.group, small.given p i e g.gtid k g.effect), ap read_body (sym b.1) ∙ r.1)

  pub fine_at : (p : Past) → IsPast p w → CarriedAt Fine p
  fine_at p k = carried t w x done w (past_self w) Fine fine_took (λ c h. h) (λ c h. h.1) p k p (past_self p)

  -- one that takes an entry is ready
  pub ready_took : (p : Past) (i : Inc) (e : Entry) → IsPast (Does i (Took e) ∷ p) w → IsReady t i (life_in p i)
  ready_took p i e k = elim (cases_Bool (is_founder t i)) [ inl f ↦ inl f | inr f ↦ inr (takes_after t i (life_in p i) shape is_done.1.1 f).2 ]
    where
      is_done : IsDone t p i (Took e)
      is_done = done_at (IsDone t) w p i (Took e) done k

      shape : Shape t i (life_in p i)
      shape = shapes t p (did_past (IsDone t) w (Does i (Took e) ∷ p) done k).1 i

  module _ (v : Past) (v_past : IsPast v w)
      (judges : (p : Past) → IsPast p v → (i : Inc) → IsReady t i (life_in p i) → 0 < length (life_in p i) → TakesOf t x.log (base_in t x.log w i) (life_in p i) × JudgesAs t x.log (base_in t x.log w i) (life_in p i)) where
    -- what it took is of the list, with its verdict
    pub judged_took : (p : Past) (i : Inc) (e : Entry) → IsPast (Does i (Took e) ∷ p) v → TakesOf t x.log (base_in t x.log w i) (Took e ∷ life_in p i) × JudgesAs t x.log (base_in t x.log w i) (Took e ∷ life_in p i)
    judged_took p i e k =
        subst (λ l. TakesOf t x.log (base_in t x.log w i) l × JudgesAs t x.log (base_in t x.log w i) l) here
        (judges (Does i (Took e) ∷ p) k i (subst (IsReady t i) (sym here) (ready_took p i e (past_of v (Does i (Took e) ∷ p) w v_past k))) (subst (λ l. 0 < length l) (sym here) (omega arith)))
      where
        here : life_in (Does i (Took e) ∷ p) i ≡ Took e ∷ life_in p i
        here = ap (λ b. elim b [ true ↦ Took e ∷ life_in p i | false ↦ life_in p i ]) (inc_same i)

    listed_took : (p : Past) (i : Inc) (e : Entry) → IsPast (Does i (Took e) ∷ p) v → (c : Cert) → In c (cert_of e) → Known t (list_of t x.log) c
    listed_took p i e k c m = (fine_took p i e in_w c m, (law_cert c, there, record { place = refl; origin = refl; number = inl refl; gtid = refl; txn = refl }))
      where
        in_w : IsPast (Does i (Took e) ∷ p) w
        in_w = past_of v (Does i (Took e) ∷ p) w v_past k

        base : List law.Placed
        base = base_in t x.log w i

        both : TakesOf t x.log base (Took e ∷ life_in p i) × JudgesAs t x.log base (Took e ∷ life_in p i)
        both = judged_took p i e k

        place : suc (length (lives.marked (life_of base (life_in p i)))) ≡ e.place
        place = ap suc (places_agree t base (life_in p i) both.0.taking.1) ∙ sym both.0.taking.0.0

        is_it : law.cert_of t (suc (length (lives.marked (life_of base (life_in p i))))) (placed e) ≡ Some (law_cert c)
        is_it = ap (λ n. law.cert_of t n (placed e)) place ∙ placed_cert t (view t (life_in p i)) e c both.0.taking.0.1 (given_gtid e c m)

        here : Mem (law_cert c) (law.certified t (lives.marked (life_of base (Took e ∷ life_in p i))))
        here = cons_here (law.cert_of t (suc (length (lives.marked (life_of base (life_in p i))))) (placed e)) (law_cert c) (law.certified t (lives.marked (life_of base (life_in p i)))) is_it

        there : Mem (law_cert c) (law.certified t (list_of t x.log))
        there = certified_past t (upto e.place (list_of t x.log)) (list_of t x.log) (law_cert c) (upto_is_past e.place (list_of t x.log)) (subst (λ y. Mem (law_cert c) (law.certified t y)) both.1 here)

    known_given : (c : Cert) → Known t (list_of t x.log) c → Known t (list_of t x.log) (as_given c)
    known_given c h = (h.0, (h.1.0, h.1.1, record { place = h.1.2.place; origin = h.1.2.origin; number = inr refl; gtid = h.1.2.gtid; txn = h.1.2.txn }))

    -- each certified transaction that anyone knows, or stores, is one of the list
    pub known_at : (p : Past) → IsPast p v → CarriedAt (Known t (list_of t x.log)) p
    known_at p k = carried t w x done v v_past (Known t (list_of t x.log)) listed_took known_given (λ c h. h.0.1) p k p (past_self p)
