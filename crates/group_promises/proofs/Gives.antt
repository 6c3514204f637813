-- A Give that is taken up is true of the history before it.
use Rattle.std.proofs.Common.{◌≡◌, inl, inr, suc, ◌≤◌, ◌<◌, true, false, not, None, List, [], ◌∷◌, refl, sym, ap, subst, ◌∙◌, length, arith}
use Rattle.std.specs.Prelude.{filter, map, nat_le}
use Rattle.std.proofs.lemmas.Bool.{false≢true, cases_Bool}
use Rattle.gr_ids.specs.Names.{gtid_eq}
use Rattle.gr_ids.specs.declared.names.Inc.{Inc}
use Rattle.gtid_sets.specs.Sets.{has}
use Rattle.node_rules.specs.Lists.{In}
use Rattle.node_rules.proofs.Incs.{inc_is}
use Rattle.group_rules.specs.Names.{Give}
use Rattle.group_rules.specs.Events.{Took, Restores, Setup, Stored, Cert}
use Rattle.group_rules.specs.Life.{executed, taken, certs, stored}
use Rattle.group_rules.specs.Queue.{is_own}
use Rattle.group_rules.specs.Rows.{known}
use Rattle.group_rules.specs.Commit.{has_prepared}
use Rattle.group_rules.specs.Legal.{IsPast}
use Rattle.group_rules.specs.World.{Past, Does, life_in}
use Rattle.group_runs.specs.Runs.{is_founder}
use Rattle.group_order.specs.OneLog.{IsReady, GivenBy}
use Rattle.group_order.proofs.Nexts.{past_self, past_of}
use Rattle.group_laws.specs.Lists as listing
use Rattle.group_laws.specs.Lists.{Mem}
use Rattle.group_laws.specs.Entries as law
use Rattle.group_laws.specs.View as seen
use Rattle.group_laws.specs.World.{IsKeptList}
use Rattle.group_laws.specs.Lawful.{upto}
use Rattle.group_laws.proofs.Acks.{upto_is_past, length_upto, values_past}
use Rattle.group_laws.proofs.Names.{gtid_eq_same}
use Rattle.group_laws.proofs.Views.{rank}
use Rattle.group_laws.proofs.Worlds.{kept_past}
use Rattle.group_lives.specs.Sound.{IsNew as AddsOne, AddsNew}
use Rattle.group_lawful.specs.Knows.{EndsWithAdd}
use Rattle.group_lawful.proofs.Given.{origin_came, cert_within}
use Rattle.group_lawful.proofs.Known.{reverse_in}
use Rattle.group_lawful.proofs.Lives.{lived}
use Rattle.group_legal.proofs.Newcomers.{adds_new}
use Rattle.group_legal.proofs.Numbered.{kept_list}
use Rattle.group_legal.proofs.Takers.{adds_past}
use Rattle.group_legal.proofs.Points.{did_here}
use Rattle.group_legal.proofs.Carried.{as_given, in_map, in_known}
use Rattle.group_legal.proofs.Listed as listed
use Rattle.group_legal.proofs.Listed.{Known, Listed}
use Rattle.group_legal.proofs.Knowing as knowing
use Rattle.group_legal.proofs.Knowing.{LifeKnows, KnownAt, past_lives, stored_stays, recovering_began, ascends_given}
use Rattle.group_legal.proofs.Runs as runs
use Rattle.member_truth.specs.Truth.{IsNew, Rise, AreDistinct, IsTrueGive}
use Rattle.group_promises.proofs.Ran.{Ran, list_in, given_in, rises}
use Rattle.group_promises.proofs.Ran as ran
use Rattle.group_promises.proofs.Taken.{TookPrepared, took_prepared}

module _ (t : Setup) (w : Past) (s : Ran t w) where
  -- transactions of the list at rising places have GTIDs of their own
  distinct_rising : (cs : List Cert) → Rise cs → ((c : Cert) → In c cs → Listed t (list_in t w s) c) → AreDistinct cs
  distinct_rising [] r f = tt
  distinct_rising (c ∷ cs) r f = (first, distinct_rising cs r.1 (λ d n. f d (inr n)))
    where
      first : (d : Cert) → In d cs → gtid_eq d.gtid c.gtid ≡ false
      first d n = elim (cases_Bool (gtid_eq d.gtid c.gtid)) [
        | inr z ↦ z
        | inl z ↦ (let x = f d (inr n) in
            let y = f c (inl refl) in
            let same : x.0 ≡ y.0 = ran.distinct t w s x.0 y.0 x.1 y.1 (sym x.2.gtid ∙ gtid_eq_same d.gtid c.gtid z ∙ y.2.gtid) in
            let a = ap (λ (u : law.Cert). u.place) same in
            let b = x.2.place in
            let e = y.2.place in
            let l = r.0 d n in
            absurd (omega (arith, a, b, e, l)))
      ]

  module _ (p : Past) (i : Inc) (g : Give) (cs : List Cert) (m : IsPast (Does i (Restores g cs) ∷ p) w) where
    in_w : IsPast p w
    in_w = past_of (Does i (Restores g cs) ∷ p) p w m (inr (past_self p))

    before : (q : Past) → IsPast q p → KnownAt t (list_in t w s) q
    before q h = ran.knows t w s q (past_of p q w in_w h)

    abbrev f : GivenBy t p i g cs
    f = s.over.given p i g cs m

    -- what the joiner lacked
    abbrev lacked : List Cert
    lacked = filter (λ (c : Cert). not (has (executed (life_in f.asked i)) c.gtid)) (filter (λ (c : Cert). nat_le c.place f.add.place) (known (life_in f.sent f.giver)))

    told : cs ≡ map as_given lacked
    told = knowing.told t s.setup w s.over s.done s.servers s.spelled s.small w (past_self w) (ran.judges t w s) p i g cs m in_w before

    none : certs (life_in p i) ≡ []
    none = knowing.none t s.setup w s.over s.done s.servers s.spelled s.small w (past_self w) (ran.judges t w s) p i g cs m in_w before

    place : f.add.place ≡ taken (life_in p i)
    place = knowing.place t s.setup w s.over s.done s.servers s.spelled s.small w (past_self w) (ran.judges t w s) p i g cs m in_w before

    joined : is_founder t i ≡ false
    joined = knowing.joined t s.setup w s.over s.done s.servers s.spelled s.small w (past_self w) (ran.judges t w s) p i g cs m in_w before

    rise : Rise cs
    rise = subst Rise (sym told) (rises (map as_given lacked) (ascends_given lacked (knowing.lacked_ascends t s.setup w s.over s.done s.servers s.spelled s.small w (past_self w) (ran.judges t w s) p i g cs m in_w before)))

    mine : LifeKnows t (list_in t w s) i (life_in p i)
    mine = (ran.knows t w s p in_w).lives i

    module _ (c : Cert) (n : In c cs) where
      known_here : Known t (list_in t w s) c
      known_here = (ran.everywhere t w s (Does i (Restores g cs) ∷ p) m).lives i c (subst (λ l. In c (certs l)) (sym (did_here p i (Restores g cs))) (reverse_in t i [] c cs n))

      of : (y : Cert) × In y lacked × (as_given y ≡ c)
      of = in_map lacked c (subst (In c) told n)

      lacks : has (executed (life_in f.asked i)) c.gtid ≡ false
      lacks =
          ap (λ (u : Cert). has (executed (life_in f.asked i)) u.gtid) (sym of.2)
          ∙ (knowing.lacked_has t s.setup w s.over s.done s.servers s.spelled s.small w (past_self w) (ran.judges t w s) p i g cs m in_w before of.0 of.1).1

      below : c.place ≤ taken (life_in p i)
      below =
          let a = knowing.lacked_has t s.setup w s.over s.done s.servers s.spelled s.small w (past_self w) (ran.judges t w s) p i g cs m in_w before of.0 of.1 in
          let b = (knowing.up_has t s.setup w s.over s.done s.servers s.spelled s.small w (past_self w) (ran.judges t w s) p i g cs m in_w before of.0 a.0).1 in
          let z = place in
          let e = ap (λ (u : Cert). u.place) of.2 in
          omega (arith, b, z, e)

      -- it executed nothing since it asked
      unexecuted : has (executed (life_in p i)) c.gtid ≡ false
      unexecuted = elim (cases_Bool (has (executed (life_in p i)) c.gtid)) [ inr z ↦ z | inl z ↦ absurd (no z) ]
        where
          began : stored (life_in f.asked i) ≡ stored (life_in p i)
          began = stored_stays t i (life_in p i) (life_in f.asked i) (past_lives f.asked p i f.asked_before) (lived t p (ran.done_to t w s p in_w) i) (recovering_began (life_in f.asked i) f.asking)

          had : (has (stored (life_in p i)).executed known_here.1.0.gtid ≡ true) → ⊥
          had h =
              let e : has (stored (life_in f.asked i)).executed c.gtid ≡ true = ap (λ (y : Stored). has y.executed c.gtid) began ∙ ap (has (stored (life_in p i)).executed) known_here.1.2.gtid ∙ h in
              absurd (false≢true (sym lacks ∙ ((before f.asked f.asked_before).lives i).stays c.gtid e))

          no : has (executed (life_in p i)) c.gtid ≡ true → ⊥
          no z = elim (mine.complete known_here.1.0 known_here.1.1 (ap (has (executed (life_in p i))) (sym known_here.1.2.gtid) ∙ z)) [
            | inl h ↦ had h
            | inr b ↦ absurd (subst (In b.0) none b.1)
          ]

      unknown : (d : Cert) → In d (known (life_in p i)) → gtid_eq d.gtid c.gtid ≡ false
      unknown d k = elim (cases_Bool (gtid_eq d.gtid c.gtid)) [ inr z ↦ z | inl z ↦ absurd (no z) ]
        where
          no : gtid_eq d.gtid c.gtid ≡ true → ⊥
          no z = elim (in_known (life_in p i) d k) [
            | inl h ↦ false≢true (sym unexecuted ∙ ap (has (executed (life_in p i))) (sym (gtid_eq_same d.gtid c.gtid z)) ∙ mine.stays d.gtid (mine.stock.done d h))
            | inr h ↦ absurd (subst (In d) none h)
          ]

      -- it took no entry yet
      unprepared : (o : Inc) → has_prepared (life_in p i) o c.gtid ≡ false
      unprepared o = elim (cases_Bool (has_prepared (life_in p i) o c.gtid)) [ inr z ↦ z | inl z ↦ absurd (by (took_prepared p i o c.gtid z)) ]
        where
          unready : IsReady t i (life_in p i) → ⊥
          unready (inl y) = false≢true (sym joined ∙ y)
          unready (inr y) = false≢true (sym f.ungiven ∙ y)

          by : TookPrepared p i c.gtid → ⊥
          by (x, q, k, h) =
              unready
              (knowing.went t s.setup w s.over s.done s.servers s.spelled s.small w (past_self w) (ran.judges t w s) (Does i (Took x) ∷ q) p i k in_w (ran.done_to t w s p in_w)
              (subst (IsReady t i) (sym (did_here q i (Took x))) (listed.ready_took t s.setup w s.over s.done s.spelled s.small q i x (past_of p (Does i (Took x) ∷ q) w in_w k)))).0

      is_new : IsNew (life_in p i) c
      is_new = record { unexecuted = unexecuted; unknown = unknown; unprepared = unprepared }

      -- a joiner had made nothing before its Add
      other : is_own i c ≡ false
      other = elim (cases_Bool (is_own i c)) [ inr z ↦ z | inl z ↦ absurd (no z) ]
        where
          judged : (q : Past) → IsPast q p → (j : Inc) → IsReady t j (life_in q j) → 0 < length (life_in q j) → ran.Takes t w s q j
          judged q h = ran.judges t w s q (past_of p q w in_w h)

          base : given_in t w s i ≡ upto f.welcome.place (list_in t w s)
          base = runs.given_is t s.setup w s.over s.done s.servers s.spelled s.reads s.small s.ranges s.tells s.verdicts p in_w judged p (past_self p) i f.welcome f.entered

          add : (EndsWithAdd i (given_in t w s i) × (f.welcome.place ≤ length (list_in t w s))) × (1 ≤ f.welcome.place)
          add = runs.add_in t s.setup w s.over s.done s.servers s.spelled s.reads s.small s.ranges s.tells s.verdicts p in_w judged p (past_self p) i f.welcome f.entered

          no : is_own i c ≡ true → ⊥
          no z =
              let ends : EndsWithAdd i (given_in t w s i) = add.0.0 in
              let d : law.Cert = known_here.1.0 in
              let past : listing.IsPast (ends.add ∷ ends.rest) (list_in t w s) =
              subst (λ y. listing.IsPast y (list_in t w s)) (sym base ∙ ends.is_base) (upto_is_past f.welcome.place (list_in t w s)) in
              let a = known_here.1.2.place in
              let b = below in
              let e = place in
              let h = f.place in
              let l = sym (ap length (sym base ∙ ends.is_base)) ∙ length_upto f.welcome.place (list_in t w s) add.0.1 in
              let there : Mem d (law.certified t (ends.add ∷ ends.rest)) = cert_within t (ends.add ∷ ends.rest) (list_in t w s) d past known_here.1.1 (omega (arith, a, b, e, h, l)) in
              let whole : listing.IsPast (ends.add.value ∷ law.values ends.rest) (law.values (list_in t w s)) = values_past (ends.add ∷ ends.rest) (list_in t w s) past in
              let adds : AddsNew t (ends.add.value ∷ law.values ends.rest) = adds_past t (ends.add.value ∷ law.values ends.rest) (law.values (list_in t w s)) whole (adds_new t [] s.over.log) in
              let kept : IsKeptList t (ends.add.value ∷ law.values ends.rest) = kept_past t (ends.add.value ∷ law.values ends.rest) (law.values (list_in t w s)) whole (kept_list t [] s.over.log).0 in
              let absent : seen.standing t (law.values ends.rest) ends.joiner.inc ≡ seen.Absent = subst (AddsOne t (law.values ends.rest)) ends.joins adds.0 in
              let no_cert : law.cert_of t (suc (length ends.rest)) ends.add ≡ None =
              ap (λ b. law.cert_parts t (suc (length ends.rest)) ends.add.value.origin ends.add.value.number b ends.add.outcome) ends.joins in
              let in_rest : Mem d (law.certified t ends.rest) = subst (λ o. Mem d (law.cons_some o (law.certified t ends.rest))) no_cert there in
              let r = origin_came t ends.rest d kept.1 in_rest in
              let who : d.origin ≡ ends.joiner.inc = sym known_here.1.2.origin ∙ inc_is c.id.origin i z ∙ sym ends.inc in
              let q : rank (seen.standing t (law.values ends.rest) d.origin) ≡ 0 = ap (λ o. rank (seen.standing t (law.values ends.rest) o)) who ∙ ap rank absent in
              absurd (omega (arith, r, q))

    pub true_give : IsTrueGive i (life_in p i) cs
    true_give = record {
      first = none;
      rise = rise;
      distinct = distinct_rising cs rise (λ c n. (known_here c n).1);
      given = is_new;
      others = other;
      numbers = λ c n. (known_here c n).0.0;
      places = below;
    }
