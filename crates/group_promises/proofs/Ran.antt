-- What is known of all that happened up to some time of a run, its numbers and own values being within their ranges.
use Rattle.std.proofs.Common.{◌≡◌, inl, inr, ◌≤◌, ◌<◌, true, List, [], ◌∷◌, length, arith}
use Rattle.gr_ids.specs.declared.names.Inc.{Inc}
use Rattle.gr_ids.specs.declared.names.Gtid.{Gtid}
use Rattle.gtid_sets.specs.Sets.{has}
use Rattle.node_rules.specs.Lists.{In}
use Rattle.group_rules.specs.Events.{Setup, Cert}
use Rattle.group_rules.specs.Life.{executed, taken}
use Rattle.group_rules.specs.Rows.{known}
use Rattle.group_rules.specs.Legal.{IsPast}
use Rattle.group_rules.specs.World.{Past, life_in}
use Rattle.group_runs.specs.Runs.{IsSetup, AllDid, IsDone}
use Rattle.group_runs.specs.Servers.{OfServers}
use Rattle.group_order.specs.OneLog.{IsReady, LogOver}
use Rattle.group_order.proofs.Nexts.{past_self, past_of, did_past}
use Rattle.group_laws.specs.Lists as listing
use Rattle.group_laws.specs.Lists.{Mem}
use Rattle.group_laws.specs.Entries as law
use Rattle.group_laws.specs.Life as lives
use Rattle.group_laws.specs.World.{IsRun}
use Rattle.group_laws.proofs.Certs.{place_le}
use Rattle.group_laws.proofs.ServerRows.{certified_past}
use Rattle.group_lives.specs.Lives.{life_of, run_of}
use Rattle.group_lives.specs.Sound.{HasSets}
use Rattle.group_lives.proofs.Taking.{places_agree}
use Rattle.group_legal.specs.Bases.{list_of, base_in, TakesOf, JudgesAs}
use Rattle.group_legal.specs.Ranges.{HasSmallNumbers}
use Rattle.group_legal.specs.OwnRanges.{ReadBack, MadeInRange}
use Rattle.group_legal.proofs.Told.{Spelled}
use Rattle.group_legal.proofs.Takers.{GiveTells}
use Rattle.group_legal.proofs.Carried.{CarriedAt, in_known}
use Rattle.group_legal.proofs.Listed.{Known, Listed}
use Rattle.group_legal.proofs.Knowing as knowing
use Rattle.group_legal.proofs.Knowing.{LifeKnows, KnownAt}
use Rattle.group_legal.proofs.Runs as runs
use Rattle.group_legal.proofs.Runs.{VerdictsAgree}
use Rattle.group_lawful.proofs.Lawfuls.{Ascends}
use Rattle.member_truth.specs.Truth.{Rise}

pub record Ran (t : Setup) (w : Past) : Type 0 where
  pub setup : IsSetup t
  pub over : LogOver t w
  pub done : AllDid (IsDone t) w
  pub servers : OfServers t w
  pub spelled : Spelled
  pub reads : ReadBack
  pub small : HasSmallNumbers w
  pub ranges : MadeInRange w
  pub tells : GiveTells t
  pub verdicts : VerdictsAgree t

-- the one list
abbrev pub list_in : (t : Setup) (w : Past) → Ran t w → List law.Placed
list_in t w s = list_of t s.over.log

-- what an incarnation was given of it
abbrev pub given_in : (t : Setup) (w : Past) → Ran t w → Inc → List law.Placed
given_in t w s i = base_in t s.over.log w i

abbrev pub Takes : (t : Setup) (w : Past) → Ran t w → Past → Inc → Type 0
Takes t w s p i = TakesOf t s.over.log (given_in t w s i) (life_in p i) × JudgesAs t s.over.log (given_in t w s i) (life_in p i)

pub rises : (cs : List Cert) → Ascends cs → Rise cs
rises [] h = tt
rises (c ∷ cs) h = (h.0, rises cs h.1)

module _ (t : Setup) (w : Past) (s : Ran t w) where
  pub self : IsPast w w
  self = past_self w

  pub judges : (p : Past) → IsPast p w → (i : Inc) → IsReady t i (life_in p i) → 0 < length (life_in p i) → Takes t w s p i
  judges = runs.judged_at t s.setup w s.over s.done s.servers s.spelled s.reads s.small s.ranges s.tells s.verdicts

  pub run_at : (p : Past) → IsPast p w → IsRun t (law.values (list_in t w s)) (run_of (given_in t w s) p)
  run_at = runs.run_at t s.setup w s.over s.done s.servers s.spelled s.reads s.small s.ranges s.tells s.verdicts

  pub distinct : (c d : law.Cert) → Mem c (law.certified t (list_in t w s)) → Mem d (law.certified t (list_in t w s)) → c.gtid ≡ d.gtid → c ≡ d
  distinct = knowing.distinct t s.setup w s.over s.done s.servers s.spelled s.small w self judges

  module _ (p : Past) (k : IsPast p w) where
    pub done_to : AllDid (IsDone t) p
    done_to = did_past (IsDone t) w p s.done k

    pub knows : KnownAt t (list_in t w s) p
    knows = knowing.known_before t s.setup w s.over s.done s.servers s.spelled s.small w self judges p k p (past_self p)

    pub everywhere : CarriedAt (Known t (list_in t w s)) p
    everywhere = knowing.everywhere t s.setup w s.over s.done s.servers s.spelled s.small w self judges p k

    pub sets : (i : Inc) → HasSets (life_in p i)
    sets i = (knowing.sets t s.setup w s.over s.done s.servers s.spelled s.small w self judges p k).lives i

    judged : (q : Past) → IsPast q p → (i : Inc) → IsReady t i (life_in q i) → 0 < length (life_in q i) → Takes t w s q i
    judged q h = judges q (past_of p q w k h)

    -- what it has is a part of the list
    pub part : (i : Inc) → listing.IsPast (lives.marked (life_of (given_in t w s i) (life_in p i))) (list_in t w s)
    part = runs.part t s.setup w s.over s.done s.servers s.spelled s.reads s.small s.ranges s.tells s.verdicts p k judged p (past_self p)

    -- those that it knows stand by place, each once
    pub known_rises : (i : Inc) → Rise (known (life_in p i))
    known_rises i = rises (known (life_in p i)) (knowing.ascends_known t (list_in t w s) i (life_in p i) (knows.lives i))

    -- each certified transaction that it knows is one of the list
    pub listed_known : (i : Inc) (c : Cert) → In c (known (life_in p i)) → Listed t (list_in t w s) c
    listed_known i c m = elim (in_known (life_in p i) c m) [ inl n ↦ (everywhere.had i c n).1 | inr n ↦ (everywhere.lives i c n).1 ]

    module _ (i : Inc) (r : IsReady t i (life_in p i)) (n : 0 < length (life_in p i)) where
      -- what it has executed was certified up to its last place
      pub certified_all : (g : Gtid) → has (executed (life_in p i)) g ≡ true → (d : law.Cert) × Mem d (law.certified t (list_in t w s)) × (d.place ≤ taken (life_in p i)) × (d.gtid ≡ g)
      certified_all g e =
          let y = runs.certified_all t s.setup w s.over s.done s.servers s.spelled s.reads s.small s.ranges s.tells s.verdicts p k judged (run_at p k) i r g e in
          let m = lives.marked (life_of (given_in t w s i) (life_in p i)) in
          let a = place_le t m y.0 y.1 in
          let b = places_agree t (given_in t w s i) (life_in p i) (judges p k i r n).0.taking in
          (y.0, certified_past t m (list_in t w s) y.0 (part i) y.1, omega (arith, a, b), y.2)

      -- those that it knows stand up to its last place
      pub known_below : (c : Cert) → In c (known (life_in p i)) → c.place ≤ taken (life_in p i)
      known_below c m = elim (in_known (life_in p i) c m) [ inl z ↦ (knows.lives i).had r c z | inr z ↦ (knows.lives i).below c z ]
