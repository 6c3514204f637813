-- Who runs.
use Rattle.std.specs.Prelude.{Option, Some, None, List, map}
use Rattle.gr_ids.specs.declared.names.Inc.{Inc}
use Rattle.group_rules.specs.Member.{Member}
use Rattle.group_rules.specs.World.{Server}
use Rattle.report_text.specs.Reporting.{running}

abbrev pub inc_of : Option Member → Option Inc
inc_of None = None
inc_of (Some a) = Some a.me.inc

abbrev pub incs : List Member → List Inc
incs ms = map {A = Member} (λ a. a.me.inc) ms

-- the incarnations that run, ascending
abbrev pub running_incs : List Server → List Inc
running_incs ss = incs (running ss)
