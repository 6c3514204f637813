use Rattle.std.proofs.Common.{◌≡◌, true, Option, Some, option_copied, sym, ap, subst, ◌∙◌}
use Rattle.gr_ids.specs.Names.{inc_lt}
use Rattle.slot_values.specs.Joiners.{IsJoiner}
use Rattle.slot_values.specs.declared.value.Joiner.{Joiner}
use Rattle.member_ranges.specs.Ranges.{IsFounderAfter}
use Rattle.group_world.proofs.founding.is_founder_after.Goals as goal

above : (o : Option Joiner) (last j : Joiner) → o ≡ Some last → IsJoiner j → inc_lt last.inc j.inc ≡ true → IsFounderAfter o j
above o last j e i l = subst (λ p. IsFounderAfter p j) (sym e) (record { inc = (i.inc, l); uuid = i.uuid; parts = i.parts; small = i.small; weight = i.weight })

pub returns-in-Some : goal.returns-in-Some
returns-in-Some c h = above _ c.in-Some.last.now c.args.founder.now (ap option_copied c.in-Some.is) (c.is_joiner.ensures.0 c.if-not-is_joiner.false) (sym c.is_before.ensures ∙ h)
