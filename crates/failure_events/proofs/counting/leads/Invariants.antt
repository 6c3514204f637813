-- Those so far are suspected.
use Rattle.std.proofs.Common.{◌≡◌, drop}
use Rattle.failure_events.specs.Counts.{leads_in}
use Rattle.failure_events.proofs.counting.leads.Given as goal

abbrev pub invariant-loop-inc : goal.invariant-loop-inc
invariant-loop-inc l = leads_in l.me l.silences (drop l.inc-index l.online) ≡ leads_in l.me l.silences l.online
