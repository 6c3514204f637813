use Rattle.std.proofs.Common.{◌↔◌, length}
use Rattle.std.specs.List.{AllByRecursion}
use Rattle.paxos_forms.specs.Welcomes.{IsConfig}
use Rattle.message_checks.proofs.incs.are_configs.Given as goal

-- all are in their ranges exactly where those left are
abbrev pub invariant-loop-first : goal.invariant-loop-first
invariant-loop-first l = AllByRecursion IsConfig l.left ↔ AllByRecursion IsConfig l.configs

abbrev pub decreases-loop-first : goal.decreases-loop-first
decreases-loop-first l = length l.left
