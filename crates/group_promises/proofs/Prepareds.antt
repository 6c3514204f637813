-- A Prepared entry stands behind the transaction that it names.
use Rattle.std.proofs.Common.{◌≡◌, inr, ℕ, suc, ◌<◌, Option, Some, List, [], ◌∷◌, refl, sym, ap, subst, ◌∙◌, arith}
use Rattle.gr_ids.specs.declared.names.Inc.{Inc}
use Rattle.gr_ids.specs.declared.names.Gtid.{Gtid}
use Rattle.gr_ids.specs.declared.names.OpenParts.{OpenParts}
use Rattle.slot_values.specs.declared.value.What.{What}
use Rattle.slot_values.specs.declared.value.What.TheVariants.{Noop, Add, Remove, Body as Says}
use Rattle.txn_forms.specs.declared.body.Body.{Body}
use Rattle.txn_forms.specs.declared.body.Body.TheVariants.{Prepared}
use Rattle.group_rules.specs.Events.{Took, Setup, Entry}
use Rattle.group_rules.specs.Life.{taken}
use Rattle.group_rules.specs.Parts.{held, open_parts}
use Rattle.group_rules.specs.Legal.{IsPast}
use Rattle.group_rules.specs.World.{Past, Does, life_in}
use Rattle.group_runs.specs.Runs.{IsDone}
use Rattle.group_order.specs.OneLog.{IsReady, TakenAs, Follows}
use Rattle.group_order.proofs.Nexts.{past_self, past_of, done_at}
use Rattle.group_laws.specs.Lists as listing
use Rattle.group_laws.specs.Lists.{Mem, AllPasts}
use Rattle.group_laws.specs.Entries as law
use Rattle.group_laws.specs.Verdict as decided
use Rattle.group_laws.specs.Life as lives
use Rattle.group_laws.specs.Lawful.{upto, LawfulBody}
use Rattle.group_laws.specs.World as run
use Rattle.group_laws.specs.World.{IsRun, MadeBy}
use Rattle.group_laws.proofs.Acks.{upto_is_past, values_past}
use Rattle.group_laws.proofs.Lists.{IsPast-self, IsPast-tail, AllPasts-at}
use Rattle.group_laws.proofs.Scans.{certified_mono, scan_place}
use Rattle.group_laws.proofs.Worlds.{made_is}
use Rattle.group_laws.proofs.Freshness.{Inv, taken_before}
use Rattle.group_laws.proofs.Law.{invs, run_holds}
use Rattle.group_lives.specs.Lives.{does_entry, placed, life_of, run_of}
use Rattle.group_lives.proofs.Runs.{lives_agree}
use Rattle.group_lives.proofs.Taking.{places_agree}
use Rattle.group_legal.proofs.Scanned.{scanned}
use Rattle.group_legal.proofs.Points.{values_length}
use Rattle.group_legal.proofs.Listed as listed
use Rattle.group_legal.proofs.Origins.{made_before}
use Rattle.group_promises.proofs.Ran.{Ran, list_in, given_in, Takes}
use Rattle.group_promises.proofs.Ran as ran

-- only a body's bytes hold something
says_of : (o : Option OpenParts) (w : What) (b : Body) → held o w ≡ Some b → (x : List ℕ) × (w ≡ Says x)
says_of o (Says x) b h = (x, refl)
says_of o Noop b h = absurd (cc h)
says_of o (Add j) b h = absurd (cc h)
says_of o (Remove i) b h = absurd (cc h)

module _ (t : Setup) (w : Past) (s : Ran t w) (q : Past) (i : Inc) (e : Entry) (m : IsPast (Does i (Took e) ∷ q) w) (g : Gtid) (holds : e.holds ≡ Some (Prepared g)) where
  in_w : IsPast q w
  in_w = past_of (Does i (Took e) ∷ q) q w m (inr (past_self q))

  abbrev values : List law.Value
  values = law.values (list_in t w s)

  abbrev all : run.World
  all = run_of (given_in t w s) q

  abbrev before : List law.Value
  before = lives.taken (life_of (given_in t w s i) (life_in q i))

  is_done : IsDone t q i (Took e)
  is_done = done_at (IsDone t) w q i (Took e) s.done m

  ready : IsReady t i (life_in q i)
  ready = listed.ready_took t s.setup w s.over s.done s.spelled s.small q i e m

  takes : Takes t w s q i
  takes = ran.judges t w s q in_w i ready (let b = is_done.0.begun in omega (arith, b))

  ru : IsRun t values all
  ru = ran.run_at t w s q in_w

  always : AllPasts (Inv t values) all
  always = invs t values all ru

  next : listing.IsPast ((placed e).value ∷ before) values
  next =
      let both = listed.judged_took t s.setup w s.over s.done s.spelled s.small w (past_self w) (ran.judges t w s) q i e m in
      subst (λ y. listing.IsPast y values) (sym both.0.values) (values_past (upto e.place (list_in t w s)) (list_in t w s) (upto_is_past e.place (list_in t w s)))

  place : e.place ≡ suc (taken (life_in q i))
  place = (listed.judged_took t s.setup w s.over s.done s.spelled s.small w (past_self w) (ran.judges t w s) q i e m).0.taking.0.0

  made : MadeBy all (placed e).value
  made = made_before t w s.over s.done s.reads s.ranges (given_in t w s) q i e m

  abbrev origin : Inc
  origin = e.value.id.origin

  -- what its origin had taken when it made it stands before it
  earlier : listing.IsPast (lives.taken (run.life made.0 origin)) before
  earlier =
      taken_before t values ru.kept all ru.lawful always before (placed e).value next made.0 made.1
      (λ x n. (run_holds t values all ru).made i x (subst (λ l. Mem x (lives.taken l)) (sym (lives_agree (given_in t w s) q i)) n)) made.0 (IsPast-self made.0) origin

  follow : TakenAs t s.over.log q i e
  follow = done_at (Follows t s.over.log) w q i (Took e) s.over.follows m

  says : (x : List ℕ) × (e.value.what ≡ Says x)
  says = says_of (open_parts (life_in q i) origin) e.value.what (Prepared g) (sym (ap (λ (y : Entry). y.holds) follow.is_it) ∙ holds)

  body : (placed e).value.body ≡ law.Prepared g
  body = ap (λ y. does_entry y e.effect e.holds) says.1 ∙ ap (λ b. does_entry (Says says.0) e.effect b) holds

  lawful : LawfulBody t origin (run.life made.0 origin) (law.Prepared g)
  lawful = subst (λ b. LawfulBody t origin (run.life made.0 origin) b) (ap law.unplaced body) (made_is t all made.0 (placed e).value ru.lawful made.1).body

  inv : Inv t values made.0
  inv = AllPasts-at (Inv t values) made.0 all always (IsPast-tail (run.Does origin (lives.Made (law.as_made (placed e).value))) made.0 all made.1)

  -- its transaction was certified before
  pub of_earlier : (d : law.Cert) × Mem d (law.certified t (list_in t w s)) × (d.place < e.place) × (d.gtid ≡ g)
  of_earlier =
      let c : law.Cert = lawful.0 in
      let here : Mem c (law.certified t (decided.scan t before)) =
      certified_mono t (lives.taken (run.life made.0 origin)) before c earlier (subst (λ y. Mem c (law.certified t y)) (inv.same origin) lawful.2.0) in
      let a = scan_place t before c here in
      let b = values_length (lives.marked (life_of (given_in t w s i) (life_in q i))) in
      let n = places_agree t (given_in t w s i) (life_in q i) takes.0.taking in
      let p = place in (
        c,
        subst (λ y. Mem c (law.certified t y)) (sym (scanned t [] s.over.log)) (certified_mono t before values c (IsPast-tail (placed e).value before values next) here),
        omega (arith, a, b, n, p),
        lawful.1,
      )
