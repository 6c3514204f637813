use Rattle.std.proofs.Common.{◌≡◌, ◌++◌, codes, drop}
use Rattle.std.specs.List.{flat_map}
use Rattle.group_rules.specs.Texts.{inc_text}
use Rattle.report_text.proofs.shown.put_config_members.Given as goal

abbrev pub invariant-loop-inc : goal.invariant-loop-inc
invariant-loop-inc l =
    l.to ++ flat_map (λ i. codes " " ++ inc_text i) (drop l.inc-index l.members)
    ≡ l.initial.to ++ flat_map (λ i. codes " " ++ inc_text i) l.members
