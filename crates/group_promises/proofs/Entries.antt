-- An entry that is taken is true of the history before it.
use Rattle.std.proofs.Common.{◌≡◌, inl, inr, suc, ◌≤◌, ◌<◌, true, false, Some, List, [], ◌∷◌, sym, ap, subst, ◌∙◌, length, arith}
use Rattle.std.proofs.lemmas.Bool.{false≢true, cases_Bool}
use Rattle.gr_ids.specs.Names.{inc_eq, has_inc, gtid_eq}
use Rattle.gr_ids.specs.declared.names.Inc.{Inc}
use Rattle.gtid_sets.specs.Sets.{has}
use Rattle.slot_values.specs.declared.value.Joiner.{Joiner}
use Rattle.slot_values.specs.declared.value.What.TheVariants.{Add}
use Rattle.node_rules.specs.Lists.{In}
use Rattle.node_rules.proofs.Incs.{inc_is}
use Rattle.group_rules.specs.declared.marks.Effect.TheVariants.{Plain}
use Rattle.group_rules.specs.Events.{Made, Took, Setup, Entry, Cert}
use Rattle.group_rules.specs.Life.{executed, view, taken, certs, cert_of, last_made}
use Rattle.group_rules.specs.View.{View, online_incs, is_online}
use Rattle.group_rules.specs.Rows.{known}
use Rattle.group_rules.specs.Commit.{has_prepared, required}
use Rattle.group_rules.specs.Legal.{IsPast}
use Rattle.group_rules.specs.World.{Past, Does, life_in}
use Rattle.group_runs.specs.Runs.{IsDone}
use Rattle.group_order.specs.OneLog.{IsReady, TakenAs, Follows}
use Rattle.group_order.proofs.Nexts.{past_self, past_of, done_at}
use Rattle.group_laws.specs.Lists as listing
use Rattle.group_laws.specs.Lists.{Mem}
use Rattle.group_laws.specs.Entries as law
use Rattle.group_laws.specs.View as seen
use Rattle.group_laws.specs.Life as lives
use Rattle.group_laws.specs.Lawful as lawful
use Rattle.group_laws.proofs.Acks.{upto_is_past, values_past}
use Rattle.group_laws.proofs.Lists.{any_mem}
use Rattle.group_laws.proofs.Names.{gtid_eq_same}
use Rattle.group_laws.proofs.Views.{rank, rank_up, active_rank}
use Rattle.group_lives.specs.Lives.{does_entry, placed, life_of}
use Rattle.group_lives.specs.Sound.{IsNew as AddsOne, AddsNew}
use Rattle.group_lives.proofs.Standings.{stands}
use Rattle.group_lives.proofs.Taking.{views_agree}
use Rattle.group_lawful.proofs.Commits.{in_mem}
use Rattle.group_legal.specs.Bases.{TakesOf, JudgesAs}
use Rattle.group_legal.specs.OwnRanges.{MadeInRange}
use Rattle.group_legal.proofs.Newcomers.{adds_new}
use Rattle.group_legal.proofs.Takers.{adds_past}
use Rattle.group_legal.proofs.Completes.{in_online}
use Rattle.group_legal.proofs.Points.{did_here}
use Rattle.group_legal.proofs.Stocks.{in_first}
use Rattle.group_legal.proofs.OwnValues.{Own, owns, last_own, last_is, AreOwn, are_own, own_made}
use Rattle.group_legal.proofs.Listed as listed
use Rattle.group_legal.proofs.Listed.{Known, Listed, given_gtid}
use Rattle.group_legal.proofs.Knowing as knowing
use Rattle.group_legal.proofs.Runs.{upto_upto}
use Rattle.member_truth.specs.Truth.{IsNew, IsTrueEntry}
use Rattle.group_promises.proofs.Ran.{Ran, list_in, given_in, Takes}
use Rattle.group_promises.proofs.Ran as ran
use Rattle.group_promises.proofs.Taken.{BackTo, back_to, TookPrepared, took_prepared}
use Rattle.group_promises.proofs.Prepareds.{of_earlier}

-- own values are numbered up to the last one
own_below : (o : Inc) (xs : List Own) → AreOwn o xs → (x : Own) → In x xs → x.value.id.number ≤ last_own xs
own_below o [] k x h = absurd h
own_below o (y ∷ xs) k x (inl e) = let z = ap (λ (u : Own). u.value.id.number) e in omega (arith, z)
own_below o (y ∷ xs) k x (inr h) = let z = own_below o xs k.1 x h in let n = k.0.1 in omega (arith, z, n)

-- one of those ONLINE has a seat that is
online_up : (v : View) (m : Inc) → has_inc (online_incs v) m ≡ true → is_online v m ≡ true
online_up v m h =
    let x = any_mem (λ x. inc_eq x m) (online_incs v) h in
    in_online v.seats m (in_mem m (online_incs v) (subst (λ y. Mem y (online_incs v)) (inc_is x.0 m x.2) x.1))

module _ (t : Setup) (w : Past) (s : Ran t w) where
  judged_took : (p : Past) (i : Inc) (e : Entry) → IsPast (Does i (Took e) ∷ p) w
      → TakesOf t s.over.log (given_in t w s i) (Took e ∷ life_in p i) × JudgesAs t s.over.log (given_in t w s i) (Took e ∷ life_in p i)
  judged_took = listed.judged_took t s.setup w s.over s.done s.spelled s.small w (past_self w) (ran.judges t w s)

  -- it adds nobody who ever was a member
  adds_took : (p : Past) (i : Inc) (e : Entry) → IsPast (Does i (Took e) ∷ p) w → AddsNew t (lives.taken (life_of (given_in t w s i) (Took e ∷ life_in p i)))
  adds_took p i e m =
      subst (AddsNew t) (sym (judged_took p i e m).0.values)
      (adds_past t (law.values (lawful.upto e.place (list_in t w s))) (law.values (list_in t w s)) (values_past (lawful.upto e.place (list_in t w s)) (list_in t w s) (upto_is_past e.place (list_in t w s))) (adds_new t [] s.over.log))

  module _ (p : Past) (i : Inc) (e : Entry) (m : IsPast (Does i (Took e) ∷ p) w) where
    in_w : IsPast p w
    in_w = past_of (Does i (Took e) ∷ p) p w m (inr (past_self p))

    is_done : IsDone t p i (Took e)
    is_done = done_at (IsDone t) w p i (Took e) s.done m

    ready : IsReady t i (life_in p i)
    ready = listed.ready_took t s.setup w s.over s.done s.spelled s.small p i e m

    long : 0 < length (life_in p i)
    long = let b = is_done.0.begun in omega (arith, b)

    place : e.place ≡ suc (taken (life_in p i))
    place = (judged_took p i e m).0.taking.0.0

    -- ---- an own value

    made : inc_eq e.value.id.origin i ≡ true → e.value.id.number ≤ last_made (life_in p i)
    made h =
        let f : TakenAs t s.over.log p i e = done_at (Follows t s.over.log) w p i (Took e) s.over.follows m in
        let same : e.value.id.origin ≡ i = inc_is e.value.id.origin i h in
        let in_range : MadeInRange p = λ q j v b k. s.ranges q j v b (past_of p (Does j (Made v (Some b)) ∷ q) w in_w k) in
        let there = own_made i e.value f.made.0 p (subst (λ o. In (Does o (Made e.value f.made.0)) p) same f.made.1) in
        let z = own_below i (owns (life_in p i)) (are_own t p (ran.done_to t w s p in_w) in_range i) (record { value = e.value; holds = f.made.0 }) there in
        let n = last_is (life_in p i) in
        omega (arith, z, n)

    -- ---- an Add

    module _ (j : Joiner) (adds : e.value.what ≡ Add j) (effect : e.effect ≡ Plain) where
      abbrev now : List law.Value
      now = lives.taken (life_of (given_in t w s i) (life_in p i))

      absent : seen.standing t now j.inc ≡ seen.Absent
      absent =
          let body : (placed e).value.body ≡ law.Joins j = ap (λ y. does_entry y e.effect e.holds) adds ∙ ap (λ y. does_entry (Add j) y e.holds) effect in
          subst (AddsOne t now) body (adds_took p i e m).0

      never : (x : Entry) (q : Past) → IsPast (Does i (Took x) ∷ q) p → x.place ≤ taken (life_in p i) → is_online (view t (Took x ∷ life_in q i)) j.inc ≡ true → ⊥
      never x q k le up =
          let n : IsPast (Does i (Took x) ∷ q) w = past_of p (Does i (Took x) ∷ q) w in_w k in
          let both = judged_took q i x n in
          let here = ran.judges t w s p in_w i ready long in
          let then : List law.Value = lives.taken (life_of (given_in t w s i) (Took x ∷ life_in q i)) in
          let active : seen.active t then j.inc ≡ true =
          sym (stands t then j.inc (adds_took q i x n)).1 ∙ ap (λ v. is_online v j.inc) (views_agree t (given_in t w s i) (Took x ∷ life_in q i) both.0.taking) ∙ up in
          let past : listing.IsPast then now =
          subst (λ y. y) (λ k. listing.IsPast (sym both.0.values k) (sym here.0.values k))
          (values_past (lawful.upto x.place (list_in t w s)) (lawful.upto (taken (life_in p i)) (list_in t w s)) (upto_upto x.place (taken (life_in p i)) (list_in t w s) le here.0.within)) in
          let a = rank_up t then now j.inc past in
          let b = active_rank (seen.standing t then j.inc) active in
          let z : rank (seen.standing t now j.inc) ≡ 0 = ap rank absent in
          absurd (omega (arith, a, b, z))

      unrequired : (c : Cert) → In c (certs (life_in p i)) → has_inc (required t (life_in p i) c) j.inc ≡ false
      unrequired c n = elim (cases_Bool (has_inc (required t (life_in p i) c) j.inc)) [ inr z ↦ z | inl z ↦ absurd (by (back_to p i c.place) z) ]
        where
          by : BackTo (life_in p i) p i c.place → has_inc (required t (life_in p i) c) j.inc ≡ true → ⊥
          by (inl a) z = false≢true (subst (λ l. has_inc (online_incs (view t l)) j.inc ≡ true) a z)
          by (inr (x, q, k, a, b)) z =
              let le = ((ran.knows t w s p in_w).lives i).below c n in
              never x q k (omega (arith, le, b)) (online_up (view t (Took x ∷ life_in q i)) j.inc (subst (λ l. has_inc (online_incs (view t l)) j.inc ≡ true) a z))

    -- ---- a transaction that it certifies

    module _ (c : Cert) (n : In c (cert_of e)) where
      known_here : Known t (list_in t w s) c
      known_here = (ran.everywhere t w s (Does i (Took e) ∷ p) m).lives i c (subst (λ l. In c (certs l)) (sym (did_here p i (Took e))) (in_first c (cert_of e) (certs (life_in p i)) n))

      of_list : Listed t (list_in t w s) c
      of_list = known_here.1

      cert_place : c.place ≡ e.place
      cert_place = sym (ap (λ (y : Cert). y.place) (given_gtid e c n).is_it)

      -- none of the list up to the last place has its GTID
      not_before : (d : law.Cert) → Mem d (law.certified t (list_in t w s)) → d.place ≤ taken (life_in p i) → d.gtid ≡ c.gtid → ⊥
      not_before d k le q =
          let same : d ≡ of_list.0 = ran.distinct t w s d of_list.0 k of_list.1 (q ∙ of_list.2.gtid) in
          let a = ap (λ (y : law.Cert). y.place) same in
          let b = of_list.2.place in
          let z = cert_place in
          let y = place in
          absurd (omega (arith, a, b, z, y, le))

      unexecuted : has (executed (life_in p i)) c.gtid ≡ false
      unexecuted = elim (cases_Bool (has (executed (life_in p i)) c.gtid)) [
        | inr z ↦ z
        | inl z ↦ (let y = ran.certified_all t w s p in_w i ready long c.gtid z in absurd (not_before y.0 y.1 y.2 y.3))
      ]

      unknown : (d : Cert) → In d (known (life_in p i)) → gtid_eq d.gtid c.gtid ≡ false
      unknown d k = elim (cases_Bool (gtid_eq d.gtid c.gtid)) [
        | inr z ↦ z
        | inl z ↦ (let y = ran.listed_known t w s p in_w i d k in
            let a = ran.known_below t w s p in_w i ready long d k in
            let b = y.2.place in
            absurd (not_before y.0 y.1 (omega (arith, a, b)) (sym y.2.gtid ∙ gtid_eq_same d.gtid c.gtid z)))
      ]

      unprepared : (o : Inc) → has_prepared (life_in p i) o c.gtid ≡ false
      unprepared o = elim (cases_Bool (has_prepared (life_in p i) o c.gtid)) [ inr z ↦ z | inl z ↦ absurd (by (took_prepared p i o c.gtid z)) ]
        where
          by : TookPrepared p i c.gtid → ⊥
          by (x, q, k, h) =
              let y = of_earlier t w s q i x (past_of p (Does i (Took x) ∷ q) w in_w k) c.gtid h in
              let went = knowing.went t s.setup w s.over s.done s.servers s.spelled s.small w (past_self w) (ran.judges t w s) (Does i (Took x) ∷ q) p i k in_w (ran.done_to t w s p in_w)
              (subst (IsReady t i) (sym (did_here q i (Took x))) (listed.ready_took t s.setup w s.over s.done s.spelled s.small q i x (past_of p (Does i (Took x) ∷ q) w in_w k))) in
              let a : x.place ≤ taken (life_in p i) = subst (λ l. taken l ≤ taken (life_in p i)) (did_here q i (Took x)) went.1 in
              let b = y.2 in
              not_before y.0 y.1 (omega (arith, a, b)) y.3

      is_new : IsNew (life_in p i) c
      is_new = record { unexecuted = unexecuted; unknown = unknown; unprepared = unprepared }

    pub true_entry : IsTrueEntry t i (life_in p i) e
    true_entry = record { next = place; certified = is_new; numbers = λ c n. (known_here c n).0.0; joins = unrequired; made = made }
