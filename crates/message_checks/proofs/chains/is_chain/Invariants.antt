use Rattle.std.proofs.Common.{◌↔◌, None, length, option_copied}
use Rattle.byte_forms.specs.Lists.{IsChain}
use Rattle.message_checks.proofs.chains.is_chain.Given as goal

-- all are in order exactly where those left are
abbrev pub invariant-loop-first : goal.invariant-loop-first
invariant-loop-first g l = IsChain (g.R.Rule.IsNext l.rule) (option_copied l.before) l.left ↔ IsChain (g.R.Rule.IsNext l.rule) None l.xs

abbrev pub decreases-loop-first : goal.decreases-loop-first
decreases-loop-first g l = length l.left
