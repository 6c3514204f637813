-- Every run of the group is one of which the laws speak.
use Rattle.std.proofs.Common.{◌≡◌, ◌⊎◌, inl, inr, ℕ, suc, ◌≤◌, ◌<◌, Bool, true, false, not, Option, Some, None, List, [], ◌∷◌, ◌++◌, refl, sym, ap, subst, ◌∙◌, length, arith}
use Rattle.std.specs.Prelude.{◌==◌}
use Rattle.std.proofs.lemmas.Bool.{false≢true, cases_Bool}
use Rattle.gr_ids.specs.Names.{inc_eq}
use Rattle.gr_ids.specs.declared.names.Inc.{Inc}
use Rattle.gr_ids.specs.declared.names.Gtid.{Gtid}
use Rattle.gr_ids.specs.declared.names.OpenParts.{OpenParts}
use Rattle.gr_ids.specs.declared.levels.MemberState.{MemberState}
use Rattle.gr_ids.specs.declared.levels.MemberState.TheVariants.{Error}
use Rattle.gtid_sets.specs.Sets.{has}
use Rattle.key_items.specs.declared.change.Change.{Change}
use Rattle.slot_values.specs.declared.value.Value.{Value}
use Rattle.slot_values.specs.declared.value.What.{What}
use Rattle.slot_values.specs.declared.value.What.TheVariants.{Noop, Add, Remove, Body as Says}
use Rattle.txn_forms.specs.declared.body.Body.{Body}
use Rattle.txn_forms.specs.declared.body.Body.TheVariants.{Txn as HasTxn, Prepared, Sync, Executed, Online as Arrives, Mode as Switches, Primary as Appoints, Part as PartOf}
use Rattle.txn_forms.specs.declared.body.Txn.{Txn}
use Rattle.paxos_forms.specs.declared.welcome.Welcome.{Welcome}
use Rattle.node_rules.specs.Lists.{In}
use Rattle.node_rules.proofs.Incs.{inc_is}
use Rattle.group_rules.specs.declared.answers.Answer.{Answer}
use Rattle.group_rules.specs.declared.answers.Answer.TheVariants.{Committed as CommittedAs}
use Rattle.group_rules.specs.declared.marks.Effect.{Effect}
use Rattle.group_rules.specs.declared.marks.Effect.TheVariants.{Plain, Void, Unread, Positive, Conflict}
use Rattle.group_rules.specs.declared.marks.Cause.{Cause}
use Rattle.group_rules.specs.Names.{Give}
use Rattle.group_rules.specs.Events.{Did, Founds, Starts, Came, Made, Took, Skips, Done, Committed, Is, Gave, Answered, Begun, Changed, Replied, Called, AsksCommit, Ends, Enters, Restores, AskFails, Hears, Ticks, Works, Calls, Operates, Life, Setup, Entry, Stored, OfflineWrite, Cert}
use Rattle.group_rules.specs.Life.{executed, view, taken, entered, entry_at, certs, last_made}
use Rattle.group_rules.specs.View.{View, void_if, is_idle}
use Rattle.group_rules.specs.Certifier.{certifier, verdict}
use Rattle.group_rules.specs.Parts.{open_parts}
use Rattle.group_rules.specs.Taking.{effect_of}
use Rattle.group_rules.specs.Recovery.{add_place}
use Rattle.group_rules.specs.Legal.{IsPast, runs_in}
use Rattle.group_rules.specs.World.{Happening, Past, Does, Writes, Halts, life_in}
use Rattle.group_bridge.specs.Left as left
use Rattle.group_runs.specs.Runs.{IsSetup, is_founder, running_in, AllDid, ByRules, IsDone}
use Rattle.group_runs.specs.Servers.{IsWritten, OfServers}
use Rattle.group_order.specs.OneLog.{IsReady, GivenBy, TakenAs, Follows, LogOver}
use Rattle.group_order.proofs.Nexts.{past_self, past_of, did_past, done_at}
use Rattle.group_order.proofs.Shapes.{Shape, shapes}
use Rattle.group_laws.specs.Lists as listing
use Rattle.group_laws.specs.Lists.{Mem}
use Rattle.group_laws.specs.Entries as law
use Rattle.group_laws.specs.View as seen
use Rattle.group_laws.specs.Verdict as decided
use Rattle.group_laws.specs.Life as lives
use Rattle.group_laws.specs.Lawful.{upto, LawfulDid}
use Rattle.group_laws.specs.World as run
use Rattle.group_laws.specs.World.{IsRun, IsKeptList, JointDid, AliveDid}
use Rattle.group_laws.proofs.Acks.{upto_past, upto_is_past, length_upto, values_past}
use Rattle.group_laws.proofs.Certs.{place_le}
use Rattle.group_laws.proofs.Law.{run_holds}
use Rattle.group_laws.proofs.Scans.{values_scan}
use Rattle.group_laws.proofs.ServerRows.{certified_past}
use Rattle.group_laws.proofs.Worlds.{life_here}
use Rattle.group_lives.specs.Given.{IsHere}
use Rattle.group_lives.specs.Lives.{does_body, does_entry, outcome_of, placed, made_as, sync_number, asking, made_did, did_of, life_of, all_did, run_of}
use Rattle.group_lives.specs.Sound.{IsEffect, IsTaking, HasToldSets, HasSets, AddsNew}
use Rattle.group_lives.proofs.Runs.{lives_agree}
use Rattle.group_lives.proofs.Sets.{executed_agrees}
use Rattle.group_lives.proofs.Taking.{places_agree}
use Rattle.group_lawful.specs.Lived.{LivedDid, Lived}
use Rattle.group_lawful.specs.Knows.{certified_of, EndsWithAdd, Sound, GivenOnce, AlwaysSound, Distinct}
use Rattle.group_lawful.proofs.Lives.{lived}
use Rattle.group_lawful.proofs.Marks.{ready_as, ready_back, made_as_many, lawful_finish, lawful_ack}
use Rattle.group_lawful.proofs.Lawfuls.{lawful_commit}
use Rattle.group_lawful.proofs.Begins.{lawful_begun}
use Rattle.group_lawful.proofs.Opens.{unready, ready_or}
use Rattle.group_lawful.proofs.Given.{cert_within}
use Rattle.group_lawful.proofs.Changes.{certified_stays, lawful_change, lawful_made}
use Rattle.group_legal.specs.Bases.{list_of, given_to, base_in, TakesOf, JudgesAs}
use Rattle.group_legal.specs.LawRun.{MomentOf, IsLawRun}
use Rattle.group_legal.specs.Ranges.{HasSmallNumbers}
use Rattle.group_legal.specs.OwnRanges.{ReadBack, MadeInRange}
use Rattle.group_legal.proofs.Prefix.{upto_zero}
use Rattle.group_legal.proofs.Scanned.{scanned}
use Rattle.group_legal.proofs.Newcomers.{adds_new}
use Rattle.group_legal.proofs.Numbered.{kept_list}
use Rattle.group_legal.proofs.Told.{Spelled, told_sets}
use Rattle.group_legal.proofs.Takers.{GiveTells, Taker, Judge, adds_past, kept_past, stays_entered, takes_more}
use Rattle.group_legal.proofs.Owners.{some_none, runs_here, runs_as, owns_as, written_past}
use Rattle.group_legal.proofs.Points.{did_here}
use Rattle.group_legal.proofs.Carried.{CarriedAt}
use Rattle.group_legal.proofs.Listed.{Known, ready_took}
use Rattle.group_legal.proofs.Knowing as knowing
use Rattle.group_legal.proofs.Knowing.{KnowsBy, LifeKnows, KnownAt, known_before}
use Rattle.group_legal.proofs.RowsAgree.{rows_listed, rows_taken}
use Rattle.group_legal.proofs.Joined.{entered_at, ends_with_add, place_within, place_positive}
use Rattle.group_legal.proofs.Origins.{made_before}

-- ---- outcomes

-- what isn't a transaction has none
no_outcome : (t : Setup) (v : View) (w : What) (b : Option Body) (f : Effect) → IsEffect t v w b f → ((x : Txn) → b ≡ Some (HasTxn x) → ⊥) → outcome_of f ≡ law.NoTxn
no_outcome t v w b f h n = go w b h n
  where
    void : (z : Bool) → outcome_of (void_if z) ≡ law.NoTxn
    void true = refl
    void false = refl

    go : (w : What) (b : Option Body) → IsEffect t v w b f → ((x : Txn) → b ≡ Some (HasTxn x) → ⊥) → outcome_of f ≡ law.NoTxn
    go (Says y) None h n = ap outcome_of h.1
    go (Says y) (Some (HasTxn x)) h n = absurd (n x refl)
    go (Says y) (Some (PartOf x)) h n = ap outcome_of h.1 ∙ void h.0
    go (Says y) (Some (Prepared x)) h n = ap outcome_of h.1 ∙ void (is_idle v (Prepared x))
    go (Says y) (Some Sync) h n = ap outcome_of h.1 ∙ void (is_idle v Sync)
    go (Says y) (Some (Executed x)) h n = ap outcome_of h.1 ∙ void (is_idle v (Executed x))
    go (Says y) (Some (Arrives x)) h n = ap outcome_of h.1 ∙ void (is_idle v (Arrives x))
    go (Says y) (Some (Switches x)) h n = ap outcome_of h.1 ∙ void (is_idle v (Switches x))
    go (Says y) (Some (Appoints x)) h n = ap outcome_of h.1 ∙ void (is_idle v (Appoints x))
    go Noop None h n = ap outcome_of h.1
    go Noop (Some x) h n = absurd h
    go (Add j) None h n = ap outcome_of h.1 ∙ void (not h.0)
    go (Add j) (Some x) h n = absurd h
    go (Remove j) None h n = ap outcome_of h.1 ∙ void (not h.0)
    go (Remove j) (Some x) h n = absurd h

-- nor does the kept list give one
none_kept : (t : Setup) (m : List law.Placed) (o : Inc) (w : What) (f : Effect) (b : Option Body) → ((x : Txn) → b ≡ Some (HasTxn x) → ⊥) → decided.kept_parts t m o (does_entry w f b) ≡ law.NoTxn
none_kept t m o (Says y) f b n = body b n
  where
    body : (b : Option Body) → ((x : Txn) → b ≡ Some (HasTxn x) → ⊥) → decided.kept_parts t m o (does_body b) ≡ law.NoTxn
    body None n = refl
    body (Some (HasTxn x)) n = absurd (n x refl)
    body (Some (PartOf x)) n = refl
    body (Some (Prepared x)) n = refl
    body (Some Sync) n = refl
    body (Some (Executed x)) n = refl
    body (Some (Arrives x)) n = refl
    body (Some (Switches x)) n = refl
    body (Some (Appoints x)) n = refl
none_kept t m o Noop f b n = refl
none_kept t m o (Add j) Plain b n = refl
none_kept t m o (Add j) Void b n = refl
none_kept t m o (Add j) Unread b n = refl
none_kept t m o (Add j) (Positive g) b n = refl
none_kept t m o (Add j) (Conflict g) b n = refl
none_kept t m o (Remove j) Plain b n = refl
none_kept t m o (Remove j) Void b n = refl
none_kept t m o (Remove j) Unread b n = refl
none_kept t m o (Remove j) (Positive g) b n = refl
none_kept t m o (Remove j) (Conflict g) b n = refl

is_txn : (b : Option Body) → ((x : Txn) × (b ≡ Some (HasTxn x))) ⊎ ((x : Txn) → b ≡ Some (HasTxn x) → ⊥)
is_txn (Some (HasTxn x)) = inl (x, refl)
is_txn None = inr (λ x e. absurd (cc e))
is_txn (Some (PartOf y)) = inr (λ x e. absurd (cc e))
is_txn (Some (Prepared y)) = inr (λ x e. absurd (cc e))
is_txn (Some Sync) = inr (λ x e. absurd (cc e))
is_txn (Some (Executed y)) = inr (λ x e. absurd (cc e))
is_txn (Some (Arrives y)) = inr (λ x e. absurd (cc e))
is_txn (Some (Switches y)) = inr (λ x e. absurd (cc e))
is_txn (Some (Appoints y)) = inr (λ x e. absurd (cc e))

-- a value that a place holds as a transaction is a body
txn_says : (t : Setup) (v : View) (w : What) (f : Effect) (x : Txn) → IsEffect t v w (Some (HasTxn x)) f → (b : List ℕ) × (w ≡ Says b)
txn_says t v (Says b) f x h = (b, refl)
txn_says t v Noop f x h = absurd h
txn_says t v (Add j) f x h = absurd h
txn_says t v (Remove j) f x h = absurd h

-- ---- parts of a scanned list

scan_past : (t : Setup) (p : List law.Value) (m : List law.Placed) → listing.IsPast m (decided.scan t p) → m ≡ decided.scan t (law.values m)
scan_past t [] m h = h ∙ sym (ap (λ y. decided.scan t (law.values y)) h)
scan_past t (u ∷ p) m (inl e) = e ∙ ap (decided.scan t) (sym (values_scan t (u ∷ p))) ∙ ap (λ y. decided.scan t (law.values y)) (sym e)
scan_past t (u ∷ p) m (inr h) = scan_past t p m h

pub upto_upto : {A : Type 0} (n m : ℕ) (xs : List A) → n ≤ m → m ≤ length xs → listing.IsPast (upto n xs) (upto m xs)
upto_upto {A} n m xs h k =
    let l = length_upto m xs k in
    subst (λ y. listing.IsPast y (upto m xs)) (sym (upto_past n (upto m xs) xs (upto_is_past m xs) (omega (arith, h, l)))) (upto_is_past n (upto m xs))

not_gone : (x : seen.Standing) → seen.is_in x ≡ true → x ≡ seen.Gone → ⊥
not_gone x h e = false≢true (sym (ap seen.is_in e) ∙ h)

-- ---- what the certifiers give

abbrev pub VerdictsAgree : Setup → Type 0
VerdictsAgree t = (base : List law.Placed) (l : Life) (o : Inc) (x : Txn) → IsTaking t base l → HasToldSets l → AddsNew t (lives.taken (life_of base l)) → IsHere t (lives.taken (life_of base l)) o
    → outcome_of (verdict t.limits (certifier t l) o x) ≡ decided.kept_parts t (lives.marked (life_of base l)) o (law.Write x)

-- ---- a run

module _ (t : Setup) (setup : IsSetup t) (w : Past) (x : LogOver t w) (done : AllDid (IsDone t) w) (servers : OfServers t w) (spelled : Spelled) (reads : ReadBack) (small : HasSmallNumbers w) (ranges : MadeInRange w)
    (tells : GiveTells t) (verdicts : VerdictsAgree t) where
  abbrev list : List law.Placed
  list = list_of t x.log

  abbrev base : Inc → List law.Placed
  base = base_in t x.log w

  abbrev values : List law.Value
  values = law.values (list_of t x.log)

  abbrev Judged : Past → Type 0
  Judged p = (q : Past) → IsPast q p → (i : Inc) → IsReady t i (life_in q i) → 0 < length (life_in q i) → TakesOf t x.log (base_in t x.log w i) (life_in q i) × JudgesAs t x.log (base_in t x.log w i) (life_in q i)

  -- up to some time it is a run, and each history takes the list with its verdicts
  record RunsTo (p : Past) : Type 0 where
    runs : IsRun t values (run_of base p)
    judged : Judged p

  list_scanned : list ≡ decided.scan t values
  list_scanned = scanned t [] x.log

  kept : IsKeptList t values
  kept = (kept_list t [] x.log).0

  new : AddsNew t values
  new = adds_new t [] x.log

  done_to : (p : Past) → IsPast p w → AllDid (IsDone t) p
  done_to p k = did_past (IsDone t) w p done k

  -- ---- at a time up to which it is so

  module _ (p : Past) (k : IsPast p w) (a : Judged p) where
    within : (q : Past) → IsPast q p → IsPast q w
    within q h = past_of p q w k h

    known : (q : Past) → IsPast q p → KnownAt t list q
    known = known_before t setup w x done servers spelled small p k a p (past_self p)

    sets : (q : Past) → IsPast q p → (i : Inc) → HasSets (life_in q i)
    sets q h i = (knowing.sets t setup w x done servers spelled small p k a q (within q h)).lives i

    everywhere : (q : Past) → IsPast q p → CarriedAt (Known t list) q
    everywhere = knowing.everywhere t setup w x done servers spelled small p k a

    distinct : (c d : law.Cert) → Mem c (law.certified t list) → Mem d (law.certified t list) → c.gtid ≡ d.gtid → c ≡ d
    distinct = knowing.distinct t setup w x done servers spelled small p k a

    shape : (q : Past) → IsPast q p → (i : Inc) → Shape t i (life_in q i)
    shape q h i = shapes t q (done_to q (within q h)) i

    -- what it has is a part of the list
    pub part : (q : Past) → IsPast q p → (i : Inc) → listing.IsPast (lives.marked (life_of (base i) (life_in q i))) list
    part q h i = go (life_in q i) refl
      where
        nothing : lives.marked (life_of (base i) (life_in q i)) ≡ [] → listing.IsPast (lives.marked (life_of (base i) (life_in q i))) list
        nothing e = subst (λ y. listing.IsPast y list) (upto_zero list ∙ sym e) (upto_is_past 0 list)

        go : (l : Life) → life_in q i ≡ l → listing.IsPast (lives.marked (life_of (base i) (life_in q i))) list
        go [] e = nothing (ap (λ y. lives.marked (life_of (base i) y)) e)
        go (d ∷ l) e = elim (ready_or t i (base i) (life_in q i) (shape q h i)) [
          | inl r ↦ subst (λ y. listing.IsPast y list) (sym (a q h i r (subst (λ y. 0 < length y) (sym e) (omega arith))).1) (upto_is_past (taken (life_in q i)) list)
          | inr z ↦ nothing (unready t i (base i) (life_in q i) z.0 z.1).1
        ]

    -- a certified transaction of the list is among those that it took, by its place
    in_part : (q : Past) (h : IsPast q p) (i : Inc) (r : IsReady t i (life_in q i)) → 0 < length (life_in q i) → (d : law.Cert) → Mem d (law.certified t list) → d.place ≤ taken (life_in q i) → Mem d (certified_of t (base i) (life_in q i))
    in_part q h i r n d m le =
        let z = places_agree t (base i) (life_in q i) (a q h i r n).0.taking in
        cert_within t (lives.marked (life_of (base i) (life_in q i))) list d (part q h i) m (omega (arith, le, z))

    -- ---- what a joiner was given

    welcomed : (q : Past) → IsPast q p → (i : Inc) → IsReady t i (life_in q i) → is_founder t i ≡ false → (u : Welcome) × (entered (life_in q i) ≡ Some u)
    welcomed q h i (inl y) f = absurd (false≢true (sym f ∙ y))
    welcomed q h i (inr y) f = go (entered (life_in q i)) refl
      where
        go : (o : Option Welcome) → entered (life_in q i) ≡ o → (u : Welcome) × (entered (life_in q i) ≡ Some u)
        go (Some u) e = (u, e)
        go None e = absurd (false≢true (sym (((shape q h i).joiner f).unentered e).give ∙ y))

    -- it ends with its Add
    pub given_is : (q : Past) → IsPast q p → (i : Inc) (u : Welcome) → entered (life_in q i) ≡ Some u → base i ≡ upto u.place list
    given_is q h i u e = ap (given_to list) (stays_entered t w done q (within q h) i u e)

    pub add_in : (q : Past) → IsPast q p → (i : Inc) (u : Welcome) → entered (life_in q i) ≡ Some u → (EndsWithAdd i (base i) × (u.place ≤ length list)) × (1 ≤ u.place)
    add_in q h i u e =
        let y = entered_at q i u e in
        let m = past_of q (Does i (Enters u) ∷ y.0) w (within q h) y.1 in
        ((subst (EndsWithAdd i) (sym (given_is q h i u e)) (ends_with_add t w x y.0 i u m), place_within t w x y.0 i u m), place_positive t w x y.0 i u m)

    given_length : (q : Past) (h : IsPast q p) (i : Inc) → IsReady t i (life_in q i) → add_place (entered (life_in q i)) ≤ length (base i)
    given_length q h i r = go (entered (life_in q i)) refl
      where
        go : (o : Option Welcome) → entered (life_in q i) ≡ o → add_place o ≤ length (base i)
        go None e = omega arith
        go (Some u) e = let l = ap length (given_is q h i u e) ∙ length_upto u.place list (add_in q h i u e).0.1 in omega (arith, l)

    -- ---- what is known

    sound : (q : Past) → IsPast q p → (i : Inc) → IsReady t i (life_in q i) → 0 < length (life_in q i) → Sound t i (base i) (life_in q i)
    sound q h i r n = record {
      taking = both.0.taking;
      knows = record {
        of_list = λ c m. (let d = ((everywhere q h).lives i c m).1 in
            let b = z.below c m in
            let e = d.2.place in
            (d.0, in_part q h i r n d.0 d.1 (omega (arith, b, e)), d.2));
        all = λ d m. (let y = place_le t (lives.marked (life_of (base i) (life_in q i))) d m in
            let e = places_agree t (base i) (life_in q i) both.0.taking in
            z.reached r d (certified_past t (lives.marked (life_of (base i) (life_in q i))) list d (part q h i) m) (omega (arith, y, e)));
        descends = z.descends;
        numbers = λ c m. ((everywhere q h).lives i c m).0.0;
        entries = λ c m. entries c m;
      };
      kept = subst (IsKeptList t) (sym both.0.values) (kept_past t (law.values (upto (taken (life_in q i)) list)) values (values_past (upto (taken (life_in q i)) list) list (upto_is_past (taken (life_in q i)) list)) kept);
      adds = subst (AddsNew t) (sym both.0.values) (adds_past t (law.values (upto (taken (life_in q i)) list)) values (values_past (upto (taken (life_in q i)) list) list (upto_is_past (taken (life_in q i)) list)) new);
      founded = λ f. ap (given_to list) ((shapes t w done i).founder f).entered;
      joined = λ f. joined f;
    }
      where
        both : TakesOf t x.log (base i) (life_in q i) × JudgesAs t x.log (base i) (life_in q i)
        both = a q h i r n

        z : LifeKnows t list i (life_in q i)
        z = (known q h).lives i

        entries : (c : Cert) → In c (certs (life_in q i)) → (c.place ≤ length (base i)) ⊎ ((e : Entry) × (entry_at (life_in q i) c.place ≡ Some e))
        entries c m = elim (z.entries c m) [ inl y ↦ (let b = given_length q h i r in inl (omega (arith, y, b))) | inr y ↦ inr y ]

        joined : is_founder t i ≡ false → EndsWithAdd i (base i)
        joined f = let u = welcomed q h i r f in (add_in q h i u.0 u.1).0.0

    once : (q : Past) (i : Inc) (d : Did) → IsPast (Does i d ∷ q) p → GivenOnce d (life_in q i)
    once q i (Restores g cs) h = (x.given q i g cs (within (Does i (Restores g cs) ∷ q) h)).ungiven
    once q i (Starts x) h = tt
    once q i (Came (Hears n)) h = tt
    once q i (Came Ticks) h = tt
    once q i (Came (Works z y)) h = tt
    once q i (Came (Calls z y)) h = tt
    once q i (Came (Operates z)) h = tt
    once q i (Skips u v) h = tt
    once q i (Gave n j) h = tt
    once q i (Replied r) h = tt
    once q i AskFails h = tt
    once q i Founds h = tt
    once q i (Enters z) h = tt
    once q i (Done m) h = tt
    once q i (Begun u y z) h = tt
    once q i (Changed u z) h = tt
    once q i (Called u y z) h = tt
    once q i (AsksCommit u y) h = tt
    once q i (Ends u) h = tt
    once q i (Took z) h = tt
    once q i (Made u y) h = tt
    once q i (Answered u y) h = tt
    once q i (Is y z) h = tt
    once q i (Committed u) h = tt

    always : (q : Past) → IsPast q p → (i : Inc) → AlwaysSound t i (base i) (life_in q i)
    always [] h i = tt
    always (Writes n y ∷ q) h i = always q (past_of (Writes n y ∷ q) q p h (inr (past_self q))) i
    always (Halts n ∷ q) h i = always q (past_of (Halts n ∷ q) q p h (inr (past_self q))) i
    always (Does j d ∷ q) h i = go (inc_eq j i) refl (always q (past_of (Does j d ∷ q) q p h (inr (past_self q))) i)
      where
        go : (b : Bool) → inc_eq j i ≡ b → AlwaysSound t i (base i) (life_in q i) → AlwaysSound t i (base i) (elim b [ true ↦ d ∷ life_in q i | false ↦ life_in q i ])
        go false e r = r
        go true e r =
            let here : life_in (Does j d ∷ q) i ≡ d ∷ life_in q i = ap (λ b. elim b [ true ↦ d ∷ life_in q i | false ↦ life_in q i ]) e in
            let mine : IsPast (Does i d ∷ q) p = subst (λ y. IsPast (Does y d ∷ q) p) (inc_is j i e) h in
            (((subst (Shape t i) here (shape (Does j d ∷ q) h i), (λ y n. subst (Sound t i (base i)) here (sound (Does j d ∷ q) h i (subst (IsReady t i) (sym here) y) (subst (λ l. 0 < length l) (sym here) n)))), once q i d mine), r)

    lives_to : (q : Past) → IsPast q p → (i : Inc) → Lived t i (life_in q i)
    lives_to q h i = lived t q (done_to q (within q h)) i

    abbrev now : IsPast p p
    now = past_self p

    moment : (i : Inc) → (Lived t i (life_in p i) × AlwaysSound t i (base i) (life_in p i)) × HasSets (life_in p i)
    moment i = ((lives_to p now i, always p now i), sets p now i)

    distinct_now : (i : Inc) → Distinct t (base i) (life_in p i)
    distinct_now i c d m n e =
        distinct c d (certified_past t (lives.marked (life_of (base i) (life_in p i))) list c (part p now i) m) (certified_past t (lives.marked (life_of (base i) (life_in p i))) list d (part p now i) n) e

    distinct_then : (i : Inc) (l : Life) → left.IsPast l (life_in p i) → Distinct t (base i) l
    distinct_then i l h c d m n e =
        let f = certified_stays t i (base i) (life_in p i) l h (lives_to p now i) (always p now i) in
        distinct_now i c d (f c m) (f d n) e

    before : (q : Past) → IsPast q p → (i : Inc) → Taker t w x done spelled tells i (life_in q i) × Judge t w x done spelled tells i (life_in q i)
    before q h i = ((λ r n. (a q h i r n).0), (λ r n. (a q h i r n).1))

    -- ---- one thing more

    module _ (ru : IsRun t values (run_of base p)) (j : Inc) where
      life_is : run.life (run_of base p) j ≡ life_of (base j) (life_in p j)
      life_is = lives_agree base p j

      with_did : (c : lives.Did) → LawfulDid t j (life_of (base j) (life_in p j)) c → JointDid values (run_of base p) j c → AliveDid t (run_of base p) j c → IsRun t values (run.Does j c ∷ run_of base p)
      with_did c l n y = record { founding = ru.founding; lawful = (subst (λ z. LawfulDid t j z c) (sym life_is) l, ru.lawful); joint = (n, ru.joint); alive = (y, ru.alive); kept = ru.kept }

      runs_now : running_in p j.server ≡ Some j → run.runs t (run_of base p) j ≡ true
      runs_now r = runs_as base t w servers p k (done_to p k) (written_past (IsWritten t) w p k servers.written) j.server j r

      -- all that it has executed is certified
      pub certified_all : IsReady t j (life_in p j) → (g : Gtid) → has (executed (life_in p j)) g ≡ true → (d : law.Cert) × Mem d (certified_of t (base j) (life_in p j)) × (d.gtid ≡ g)
      certified_all r g e =
          let inv = run_holds t values (run_of base p) ru in
          let y = inv.within j (ap (lives.ready t j) life_is ∙ ready_as t j (base j) (life_in p j) r) g (ap (λ l. lives.executed l g) life_is ∙ executed_agrees (base j) (life_in p j) g (sets p now j) ∙ e) in
          (y.0, subst (λ l. Mem y.0 (law.certified t (lives.marked l))) life_is y.1, y.2)

      -- ---- an entry

      module _ (e : Entry) (m : IsPast (Does j (Took e) ∷ p) w) (h : ByRules t p j (Took e)) where
        ready : IsReady t j (life_in p j)
        ready = ready_took t setup w x done spelled small p j e m

        long : 0 < length (life_in p j)
        long = let b = h.0.begun in omega (arith, b)

        takes_it : TakesOf t x.log (base j) (Took e ∷ life_in p j)
        takes_it =
            subst (TakesOf t x.log (base j)) (did_here p j (Took e))
            (takes_more t w x done spelled tells p j (Took e) m before j (subst (IsReady t j) (sym (did_here p j (Took e))) ready) (subst (λ l. 0 < length l) (sym (did_here p j (Took e))) (omega arith)))

        next : listing.IsPast ((placed e).value ∷ lives.taken (life_of (base j) (life_in p j))) values
        next = subst (λ y. listing.IsPast y values) (sym takes_it.values) (values_past (upto e.place list) list (upto_is_past e.place list))

        abbrev l : Life
        l = life_in p j

        g : TakenAs t x.log p j e
        g = done_at (Follows t x.log) w p j (Took e) x.follows m

        effect : IsEffect t (view t (life_in p j)) e.value.what e.holds e.effect
        effect = takes_it.taking.0.1

        marked : List law.Placed
        marked = lives.marked (life_of (base j) (life_in p j))

        of_txn : (y : Txn) → e.holds ≡ Some (HasTxn y) → outcome_of e.effect ≡ decided.kept_parts t (lives.marked (life_of (base j) (life_in p j))) e.value.id.origin (does_entry e.value.what e.effect e.holds)
        of_txn y q =
            ap outcome_of is_verdict
            ∙ verdicts (base j) (life_in p j) e.value.id.origin y takes_it.taking.1 (told_sets spelled t x.log p (did_past (Follows t x.log) w p x.follows k) j) (sound p now j ready long).adds here
            ∙ ap (decided.kept_parts t (lives.marked (life_of (base j) (life_in p j))) e.value.id.origin) (sym body)
          where
            opens : Option OpenParts
            opens = open_parts (life_in p j) e.value.id.origin

            is_verdict : e.effect ≡ verdict t.limits (certifier t (life_in p j)) e.value.id.origin y
            is_verdict =
                ap (λ (u : Entry). u.effect) g.is_it
                ∙ ap (effect_of t (life_in p j) g.effect e.value (open_parts (life_in p j) e.value.id.origin)) (sym (ap (λ (u : Entry). u.holds) g.is_it) ∙ q)

            says : (b : List ℕ) × (e.value.what ≡ Says b)
            says = txn_says t (view t (life_in p j)) e.value.what e.effect y (subst (λ b. IsEffect t (view t (life_in p j)) e.value.what b e.effect) q effect)

            body : does_entry e.value.what e.effect e.holds ≡ law.Write y
            body = ap (λ (u : What). does_entry u e.effect e.holds) says.1 ∙ ap does_body q

            here : IsHere t (lives.taken (life_of (base j) (life_in p j))) e.value.id.origin
            here = not_gone (seen.standing t (lives.taken (life_of (base j) (life_in p j))) e.value.id.origin) (kept_past t ((placed e).value ∷ lives.taken (life_of (base j) (life_in p j))) values next kept).0.1

        outcome : outcome_of e.effect ≡ decided.kept_parts t (lives.marked (life_of (base j) (life_in p j))) e.value.id.origin (does_entry e.value.what e.effect e.holds)
        outcome = elim (is_txn e.holds) [
          | inl z ↦ of_txn z.0 z.1
          | inr n ↦ no_outcome t (view t (life_in p j)) e.value.what e.holds e.effect effect n ∙ sym (none_kept t (lives.marked (life_of (base j) (life_in p j))) e.value.id.origin e.value.what e.effect e.holds n)
        ]

        took_step : IsRun t values (run.Does j (lives.Took (placed e)) ∷ run_of base p)
        took_step = with_did (lives.Took (placed e)) (record { is_ready = ready_as t j (base j) (life_in p j) ready; outcome = outcome })
            (subst (λ z. listing.IsPast ((placed e).value ∷ lives.taken z) values) (sym life_is) next, made_before t w x done reads ranges base p j e m) (runs_now h.0.running)

      -- ---- a Give

      module _ (g : Give) (cs : List Cert) (m : IsPast (Does j (Restores g cs) ∷ p) w) (h : ByRules t p j (Restores g cs)) where
        abbrev f : GivenBy t p j g cs
        f = x.given p j g cs m

        in_p : (EndsWithAdd j (base j) × (f.welcome.place ≤ length list)) × (1 ≤ f.welcome.place)
        in_p = add_in p now j f.welcome f.entered

        given_was : base j ≡ upto f.welcome.place list
        given_was = given_is p now j f.welcome f.entered

        unready_yet : lives.ready t j (life_of (base j) (life_in p j)) ≡ false
        unready_yet = elim (cases_Bool (lives.ready t j (life_of (base j) (life_in p j)))) [
          | inr y ↦ y
          | inl y ↦ absurd (by (ready_back t j (base j) (life_in p j) y))
        ]
          where
            by : IsReady t j (life_in p j) → ⊥
            by (inl z) = some_none (sym f.entered ∙ ((shape p now j).founder z).entered)
            by (inr z) = false≢true (sym f.ungiven ∙ z)

        none_extra : (u : Gtid) → lives.executed (life_of (base j) (life_in p j)) u ≡ true → (c : law.Cert) × Mem c (law.certified t (base j)) × (c.gtid ≡ u)
        none_extra u y =
            let r = knowing.certified_before t setup w x done servers spelled small p k a p j g cs m now known u (sym (executed_agrees (base j) (life_in p j) u (sets p now j)) ∙ y) in
            let l = ap length given_was ∙ length_upto f.welcome.place list in_p.0.1 in
            let b = r.2 in
            let z = f.place in
            (r.0, cert_within t (base j) list r.0 (subst (λ y. listing.IsPast y list) (sym given_was) (upto_is_past f.welcome.place list)) r.1 (omega (arith, l, b, z)), r.3)

        -- the donor's list goes on from it
        donor : (IsReady t f.giver (life_in p f.giver)) × (f.add.place ≤ taken (life_in p f.giver))
        donor = knowing.giver_here t setup w x done servers spelled small p k a p j g cs m now known

        donor_began : 0 < length (life_in p f.giver)
        donor_began = go (life_in p f.giver) donor.1
          where
            go : (l : Life) → f.add.place ≤ taken l → 0 < length l
            go [] n = let z = f.place in let y = in_p.1 in absurd (omega (arith, n, z, y))
            go (d ∷ l) n = omega arith

        donor_list : listing.IsPast (base j) (lives.marked (run.life (run_of base p) f.giver))
        donor_list =
            let both = a p now f.giver donor.0 donor_began in
            let n = donor.1 in
            let z = f.place in
            subst (λ l. listing.IsPast (base j) (lives.marked l)) (sym (lives_agree base p f.giver))
            (subst (λ y. y) (λ i. listing.IsPast (sym given_was i) (sym both.1 i)) (upto_upto f.welcome.place (taken (life_in p f.giver)) list (omega (arith, n, z)) both.0.within))

        given_step : IsRun t values (run.Does j (lives.Given (base j)) ∷ run_of base p)
        given_step = with_did (lives.Given (base j)) (record { fresh = unready_yet; add = (in_p.0.0.add, in_p.0.0.rest, in_p.0.0.joiner, in_p.0.0.is_base, in_p.0.0.joins, in_p.0.0.inc); no_extra = none_extra })
            (f.giver, donor_list) (runs_now h.0.running)

      -- ---- an own value

      made_step : (v : Value) (y : Option Body) → ByRules t p j (Made v y) → IsRun t values (all_did j (made_did v y (life_in p j)) ++ run_of base p)
      made_step v (Some (HasTxn z)) h =
          let made = lawful_made t j (base j) (life_in p j) v (Some (HasTxn z)) h.1.1 (moment j) in
          let first = with_did (lives.Asked (asking (life_in p j))) tt tt (runs_now h.0.running) in
          record {
            founding = first.founding;
            lawful = (subst (λ l. LawfulDid t j l (lives.Made (made_as v (Some (HasTxn z))))) (sym (life_here (run_of base p) j (lives.Asked (asking (life_in p j))) ∙ ap (λ l. lives.Asked (asking (life_in p j)) ∷ l) life_is)) made, first.lawful);
            joint = (tt, first.joint);
            alive = (runs_here base t j (lives.Asked (asking (life_in p j)) ∷ []) (run_of base p) (runs_now h.0.running), first.alive);
            kept = first.kept;
          }
      made_step v None h = with_did (lives.Made (made_as v None)) (lawful_made t j (base j) (life_in p j) v None h.1.1 (moment j)) tt (runs_now h.0.running)
      made_step v (Some (Executed z)) h = with_did (lives.Made (made_as v (Some (Executed z)))) (lawful_made t j (base j) (life_in p j) v (Some (Executed z)) h.1.1 (moment j)) tt (runs_now h.0.running)
      made_step v (Some (Arrives z)) h = with_did (lives.Made (made_as v (Some (Arrives z)))) (lawful_made t j (base j) (life_in p j) v (Some (Arrives z)) h.1.1 (moment j)) tt (runs_now h.0.running)
      made_step v (Some (Prepared z)) h = with_did (lives.Made (made_as v (Some (Prepared z)))) (lawful_made t j (base j) (life_in p j) v (Some (Prepared z)) h.1.1 (moment j)) tt (runs_now h.0.running)
      made_step v (Some Sync) h = with_did (lives.Made (made_as v (Some Sync))) (lawful_made t j (base j) (life_in p j) v (Some Sync) h.1.1 (moment j)) tt (runs_now h.0.running)
      made_step v (Some (Switches z)) h = with_did (lives.Made (made_as v (Some (Switches z)))) (lawful_made t j (base j) (life_in p j) v (Some (Switches z)) h.1.1 (moment j)) tt (runs_now h.0.running)
      made_step v (Some (Appoints z)) h = with_did (lives.Made (made_as v (Some (Appoints z)))) (lawful_made t j (base j) (life_in p j) v (Some (Appoints z)) h.1.1 (moment j)) tt (runs_now h.0.running)
      made_step v (Some (PartOf z)) h = with_did (lives.Made (made_as v (Some (PartOf z)))) (lawful_made t j (base j) (life_in p j) v (Some (PartOf z)) h.1.1 (moment j)) tt (runs_now h.0.running)

      -- ---- anything

      answered_step : (u : ℕ) (y : Answer) → ByRules t p j (Answered u y) → IsRun t values (all_did j (did_of (base j) (Answered u y) (life_in p j)) ++ run_of base p)
      answered_step u (CommittedAs g) h = with_did (lives.Acked g) (lawful_ack t j (base j) (life_in p j) g h.1.1 (always p now j) (distinct_then j)) tt (runs_now h.0.running)
      answered_step u y h = ru

      is_step : (y : MemberState) (c : Cause) → running_in p j.server ≡ Some j → IsRun t values (all_did j (did_of (base j) (Is y c) (life_in p j)) ++ run_of base p)
      is_step Error c r = with_did lives.Fell tt tt (runs_now r)
      is_step y c r = ru

      start_step : (y : Stored) → IsDone t p j (Starts y) → IsRun t values (run.Does j (lives.Started y.executed) ∷ run_of base p)
      start_step y h =
          with_did (lives.Started y.executed) (ap (life_of (base j)) h.1, h.2)
          (λ g. ap (λ (z : Stored). has z.executed g) h.3 ∙ sym ((owns_as t w servers (knowing.numbers t setup w x done servers spelled small p k a) base p k (done_to p k) (written_past (IsWritten t) w p k servers.written) j.server g).idle h.0)) tt

      change_step : (u : ℕ) (c : Change) → ByRules t p j (Changed u c) → IsRun t values (run.Does j (lives.Changed u c) ∷ run_of base p)
      change_step u c h =
          with_did (lives.Changed u c)
          (lawful_change t j (base j) (life_in p j) u c h.1.1 (moment j)
          (λ r. rows_taken t setup w x done servers spelled small p k a p now j h.0.running (part p now j) (sets p now j) (certified_all r) distinct) h.0.begun h.0.settled) tt (runs_now h.0.running)

      lived_did : (d : Did) → IsPast (Does j d ∷ p) w → LivedDid t j d (life_in p j)
      lived_did d m = (subst (Lived t j) (did_here p j d) (lived t (Does j d ∷ p) (done_to (Does j d ∷ p) m) j)).0

      step : (d : Did) → IsPast (Does j d ∷ p) w → IsDone t p j d → IsRun t values (all_did j (did_of (base j) d (life_in p j)) ++ run_of base p)
      step Founds m h = ru
      step (Starts y) m h = start_step y h
      step (Restores g cs) m h = given_step g cs m h
      step (Made v y) m h = made_step v y h
      step (Took e) m h = took_step e m h
      step (Done n) m h = with_did (lives.Finished n) (lawful_finish t j (base j) (life_in p j) n (lived_did (Done n) m) (always p now j)) tt (runs_now h.0.running)
      step (Committed g) m h =
          with_did (lives.Committed g)
          (lawful_commit t j (base j) (life_in p j) g h.1.1 (lives_to p now j) (always p now j) (λ u. executed_agrees (base j) (life_in p j) u (sets p now j)) (sets p now j) (distinct_now j)) tt (runs_now h.0.running)
      step (Called u v n) m h =
          with_did (lives.Called u v (sync_number v (life_in p j)))
          (λ q. ap (λ b. elim b [ true ↦ suc (last_made (life_in p j)) | false ↦ 0 ]) q ∙ ap suc (sym (made_as_many t j (base j) (life_in p j)))) tt (runs_now h.0.running)
      step (Begun u e y) m h = with_did (lives.Begun u) (lawful_begun t j (base j) (life_in p j) u e y h.1.1 (lives_to p now j) (always p now j) (sets p now j)) tt (runs_now h.0.running)
      step (Changed u c) m h = change_step u c h
      step (Ends u) m h = with_did (lives.Ended u) tt tt (runs_now h.0.running)
      step (Answered u y) m h = answered_step u y h
      step (Is y c) m (inl h) = is_step y c h.0
      step (Is y c) m (inr h) = is_step y c h.0.running
      step (Came (Hears n)) m h = ru
      step (Came Ticks) m h = ru
      step (Came (Works z y)) m h = ru
      step (Came (Calls z y)) m h = ru
      step (Came (Operates z)) m h = ru
      step (Skips u v) m h = ru
      step (Gave n i) m h = ru
      step (Replied r) m h = ru
      step AskFails m h = ru
      step (Enters z) m h = ru
      step (AsksCommit u y) m h = ru

  -- ---- all that happened

  -- in a run a history that takes the list has its verdicts
  judge_of : (p : Past) → IsRun t values (run_of base p) → (i : Inc) → TakesOf t x.log (base i) (life_in p i) → JudgesAs t x.log (base i) (life_in p i)
  judge_of p ru i o =
      let inv = run_holds t values (run_of base p) ru in
      subst (λ l. lives.marked l ≡ decided.scan t (lives.taken l)) (lives_agree base p i) (inv.same i)
      ∙ ap (decided.scan t) o.values
      ∙ sym (scan_past t values (upto (taken (life_in p i)) list) (subst (listing.IsPast (upto (taken (life_in p i)) list)) list_scanned (upto_is_past (taken (life_in p i)) list)))

  more : (p : Past) (j : Inc) (d : Did) → IsPast (Does j d ∷ p) w → RunsTo p → RunsTo (Does j d ∷ p)
  more p j d m r = record { runs = ran; judged = judged }
    where
      below : IsPast p w
      below = past_of (Does j d ∷ p) p w m (inr (past_self p))

      ran : IsRun t values (run_of base (Does j d ∷ p))
      ran = step p below r.judged r.runs j d m (done_at (IsDone t) w p j d done m)

      judged : Judged (Does j d ∷ p)
      judged q (inr h) i y n = r.judged q h i y n
      judged q (inl e) i y n = subst (λ z. TakesOf t x.log (base_in t x.log w i) (life_in z i) × JudgesAs t x.log (base_in t x.log w i) (life_in z i)) (sym e) (o, judge_of (Does j d ∷ p) ran i o)
        where
          o : TakesOf t x.log (base i) (life_in (Does j d ∷ p) i)
          o = takes_more t w x done spelled tells p j d m (before p below r.judged) i (subst (λ z. IsReady t i (life_in z i)) e y) (subst (λ z. 0 < length (life_in z i)) e n)

  -- a server that stops, and a row that is written offline
  same_lives : (p q : Past) (h : Happening) → ((i : Inc) → life_in (h ∷ p) i ≡ life_in p i) → Judged p → (q ≡ h ∷ p) ⊎ IsPast q p → (i : Inc) → IsReady t i (life_in q i) → 0 < length (life_in q i)
      → TakesOf t x.log (base_in t x.log w i) (life_in q i) × JudgesAs t x.log (base_in t x.log w i) (life_in q i)
  same_lives p q h f a (inr k) i y n = a q k i y n
  same_lives p q h f a (inl e) i y n =
      let s : life_in q i ≡ life_in p i = ap (λ z. life_in z i) e ∙ f i in
      subst (λ l. TakesOf t x.log (base_in t x.log w i) l × JudgesAs t x.log (base_in t x.log w i) l) (sym s) (a p (past_self p) i (subst (IsReady t i) s y) (subst (λ l. 0 < length l) s n))

  halted : (p : Past) (m : ℕ) → RunsTo p → RunsTo (Halts m ∷ p)
  halted p m r = record { runs = r.runs; judged = λ q k. same_lives p q (Halts m) (λ i. refl) r.judged k }

  written : (p : Past) (m : ℕ) (u : OfflineWrite) → IsPast (Writes m u ∷ p) w → RunsTo p → RunsTo (Writes m u ∷ p)
  written p m u k r = record {
    runs = record { founding = r.runs.founding; lawful = r.runs.lawful; joint = ((written_past (IsWritten t) w (Writes m u ∷ p) k servers.written).0.apart, r.runs.joint); alive = r.runs.alive; kept = r.runs.kept };
    judged = λ q h. same_lives p q (Writes m u) (λ i. refl) r.judged h;
  }

  runs_to : (p : Past) → IsPast p w → RunsTo p
  runs_to [] k = record {
    runs = record { founding = record { block = setup.block }; lawful = tt; joint = tt; alive = tt; kept = kept };
    judged = λ q e i y n. absurd (let z : length (life_in q i) ≡ 0 = ap (λ u. length (life_in u i)) e in omega (arith, z, n));
  }
  runs_to (Does j d ∷ p) k = more p j d k (runs_to p (past_of (Does j d ∷ p) p w k (inr (past_self p))))
  runs_to (Halts m ∷ p) k = halted p m (runs_to p (past_of (Halts m ∷ p) p w k (inr (past_self p))))
  runs_to (Writes m u ∷ p) k = written p m u k (runs_to p (past_of (Writes m u ∷ p) p w k (inr (past_self p))))

  -- one that is its server's last, and hasn't stopped, runs
  runs_running : (p : Past) (i : Inc) → runs_in p i ≡ true → running_in p i.server ≡ Some i
  runs_running [] i h = absurd (false≢true h)
  runs_running (Writes m u ∷ p) i h = runs_running p i h
  runs_running (Halts m ∷ p) i h = go (m == i.server) h (runs_running p i)
    where
      go : (b : Bool) → ◌≡◌ {A = Bool} (elim b [ true ↦ false | false ↦ runs_in p i ]) true → (runs_in p i ≡ true → running_in p i.server ≡ Some i) → ◌≡◌ {A = Option Inc} (elim b [ true ↦ None | false ↦ running_in p i.server ]) (Some i)
      go true q f = absurd (false≢true q)
      go false q f = f q
  runs_running (Does j d ∷ p) i h = go (j.server == i.server) h (runs_running p i)
    where
      go : (b : Bool) → ◌≡◌ {A = Bool} (elim b [ true ↦ inc_eq j i | false ↦ runs_in p i ]) true → (runs_in p i ≡ true → running_in p i.server ≡ Some i) → ◌≡◌ {A = Option Inc} (elim b [ true ↦ Some j | false ↦ running_in p i.server ]) (Some i)
      go true q f = ap (λ y. Some y) (inc_is j i q)
      go false q f = f q

  all : RunsTo w
  all = runs_to w (past_self w)

  at_end : IsPast w w
  at_end = past_self w

  -- each history takes the list with its verdicts, and what had happened by any time is a run
  pub judged_at : (p : Past) → IsPast p w → (i : Inc) → IsReady t i (life_in p i) → 0 < length (life_in p i) → TakesOf t x.log (base_in t x.log w i) (life_in p i) × JudgesAs t x.log (base_in t x.log w i) (life_in p i)
  judged_at = all.judged

  pub run_at : (p : Past) → IsPast p w → IsRun t values (run_of base p)
  run_at p k = (runs_to p k).runs

  moment_of : (p : Past) → IsPast p w → (i : Inc) → MomentOf t x.log (base_in t x.log w i) i (life_in p i)
  moment_of p h i = record {
    lived = lives_to w at_end all.judged p h i;
    always = always w at_end all.judged p h i;
    sets = sets w at_end all.judged p h i;
    judged = λ r n. (all.judged p h i r n).1;
    within = λ r n. (all.judged p h i r n).0.within;
  }

  pub is_law_run : IsLawRun t x.log w
  is_law_run = record {
    run = all.runs;
    moments = moment_of;
    rows = λ p h i r. rows_listed t setup w x done servers spelled small w at_end all.judged p h i (runs_running p i r);
  }
