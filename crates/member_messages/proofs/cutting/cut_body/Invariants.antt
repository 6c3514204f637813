-- The parts so far, with those of the bytes that are left, are all.
use Rattle.std.proofs.Common.{◌≡◌, ◌++◌, ◌-◌}
use Rattle.group_rules.specs.Parts.{cut_from}
use Rattle.member_messages.proofs.cutting.cut_body.Given as goal

abbrev pub invariant-loop-index : goal.invariant-loop-index
invariant-loop-index l = l.parts.items ++ cut_from (l.count - l.index) l.count l.rest ≡ cut_from l.count l.count l.body
