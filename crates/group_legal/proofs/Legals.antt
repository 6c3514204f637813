-- A run as the laws have it is legal; so is every run.
use Rattle.group_rules.specs.Events.{Setup}
use Rattle.group_rules.specs.Legal.{IsLegal}
use Rattle.group_rules.specs.World.{Past, world_after}
use Rattle.group_runs.specs.Runs.{AllDid, IsDone, EveryRun}
use Rattle.group_runs.specs.Servers.{EveryRunOfServers}
use Rattle.group_order.specs.OneLog.{OneLogOf, EveryRunHasOne}
use Rattle.group_legal.specs.EveryRun.{EveryRunIsLegal}
use Rattle.group_legal.specs.OwnRanges.{ReadBack}
use Rattle.group_legal.proofs.Told.{Spelled}
use Rattle.group_legal.proofs.Takers.{GiveTells}
use Rattle.group_legal.proofs.Runs.{VerdictsAgree, is_law_run}
use Rattle.group_legal.specs.LawRun.{IsLawRun}
use Rattle.group_legal.proofs.Ordered.{ordered}
use Rattle.group_legal.proofs.Verdicts.{verdict_law}
use Rattle.group_legal.proofs.Befores.{before_law}
use Rattle.group_legal.proofs.Afters.{after_law}
use Rattle.group_legal.proofs.Failovers.{failover_law}
use Rattle.group_legal.proofs.RowsFit.{rows_law}

pub is_legal : (t : Setup) (w : Past) (one : OneLogOf t w) → AllDid (IsDone t) w → IsLawRun t one.parts.log w → IsLegal t w
is_legal t w one done r = record {
  log = one.parts.log;
  order = ordered t w one;
  verdict = verdict_law t w one.parts done r;
  before = before_law t w one.parts done r;
  after = after_law t w one.parts done r;
  failover = failover_law t w one.parts done r;
  rows = rows_law t w one.parts done r;
}

-- each run of the group is a run of which the laws speak
pub every_run_legal : EveryRun → EveryRunOfServers → EveryRunHasOne → Spelled → ReadBack → ((t : Setup) → GiveTells t) → ((t : Setup) → VerdictsAgree t) → EveryRunIsLegal
every_run_legal runs writes logs spelled reads tells verdicts ms t e setup moves small ranges =
    let w : Past = (world_after ms).past in
    let one : OneLogOf t w = logs ms t e setup in
    let done : AllDid (IsDone t) w = (runs ms t e setup).done in
    is_legal t w one done (is_law_run t setup w one.parts done (writes ms t e setup moves) spelled reads small ranges (tells t) (verdicts t))
