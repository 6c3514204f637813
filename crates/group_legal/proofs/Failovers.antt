-- The fifth law of a legal run: a begin at a new primary reads all that is certified before its election.
use Rattle.std.proofs.Common.{◌≡◌, ◌<◌, true, List, sym, ap, subst, ◌∙◌, length}
use Rattle.gr_ids.specs.declared.names.Inc.{Inc}
use Rattle.group_rules.specs.Events.{Setup}
use Rattle.group_rules.specs.Life.{view}
use Rattle.group_rules.specs.View.{View}
use Rattle.group_rules.specs.OneList.{listed}
use Rattle.group_rules.specs.Legal.{IsPast, FailoverLaw}
use Rattle.group_rules.specs.World.{Past, life_in}
use Rattle.group_bridge.specs.Left.{is_settled}
use Rattle.group_runs.specs.Runs.{AllDid, IsDone}
use Rattle.group_order.specs.OneLog.{LogOver}
use Rattle.group_laws.specs.Entries as law
use Rattle.group_laws.specs.Primary as primary
use Rattle.group_laws.specs.Life as lives
use Rattle.group_laws.specs.World as run
use Rattle.group_laws.proofs.Begins as begins
use Rattle.group_lives.specs.Lives.{law_cert, run_of}
use Rattle.group_legal.specs.Bases.{list_of, base_in}
use Rattle.group_legal.specs.LawRun.{IsLawRun}
use Rattle.group_legal.proofs.Points.{called_past, was_begun, has_read, certified_there, sound_up, online_at, view_at, at_call}

module _ (t : Setup) (w : Past) (one : LogOver t w) (done : AllDid (IsDone t) w) (r : IsLawRun t one.log w) where
  abbrev given : Inc → List law.Placed
  given = base_in t one.log w

  pub failover_law : FailoverLaw t (listed t one.log) w
  failover_law i b c v set sync h e up chosen d m lt =
      has_read t w one done r i b c v set sync h d.gtid
      (begins.failover_law t (law.values (list_of t one.log)) (run_of given w) r.run i (run_of given b) (run_of given c) v (was_begun t w one done r i b c v set sync h)
      (online_at t w one done r c at i call.0 call.1 up) e (ap (λ (x : View). x.primary) same ∙ chosen)
      (law_cert d) (certified_there t w one done r d m) (subst (λ (x : View). d.place < x.elected) (sym same) lt))
    where
      at : IsPast c w
      at = called_past t w one done r i b c v set sync h

      call : (1 < length (life_in c i)) × (is_settled i (life_in c i) ≡ true)
      call = at_call t w one done r i b c v set sync h

      same : primary.view t (lives.taken (run.life (run_of given c) i)) ≡ view t (life_in c i)
      same = view_at t w one done r c i (sound_up t w one done r c at i call.0 up)
