-- Those so far, with those left, are all.
use Rattle.std.proofs.Common.{◌≡◌, ◌++◌, List, length}
use Rattle.std.specs.Prelude.{map}
use Rattle.group_rules.specs.World.{Server}
use Rattle.report_text.specs.Reporting.{member_report, running}
use Rattle.group_world.specs.Sites.{AreSites}
use Rattle.group_world.proofs.sites.Sites.reports.Given as goal

abbrev pub invariant-loop-site : goal.invariant-loop-site
invariant-loop-site l = (ss : List Server) → AreSites ss l.fn.self → (ts : List Server) × AreSites ts l.left × (l.reports.items ++ map member_report (running ts) ≡ map member_report (running ss))

abbrev pub decreases-loop-site : goal.decreases-loop-site
decreases-loop-site l = length l.left
