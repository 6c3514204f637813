use Rattle.std.proofs.Common.{◌≡◌}
use Rattle.script_text.specs.Make.{lines_up_to, state_before}
use Rattle.script_text.proofs.make.make_script.Given as goal

abbrev pub invariant-loop-i : goal.invariant-loop-i
invariant-loop-i l = (l.lines.items ≡ lines_up_to l.from l.i) × (l.draws.state ≡ state_before l.from l.i)
