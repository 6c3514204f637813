-- What a member makes of its watch.
use Rattle.std.specs.Prelude.{Bool, ◌&&◌, not}
use Rattle.std.specs.List.{list_any}
use Rattle.gr_ids.specs.Names.{inc_eq}
use Rattle.gr_ids.specs.declared.names.Inc.{Inc}
use Rattle.group_rules.specs.Life.{view}
use Rattle.group_rules.specs.Member.{Member}
use Rattle.group_rules.specs.Steps.{removes_inc}
use Rattle.group_rules.specs.View.{online_incs}
use Rattle.group_rules.specs.Watch.{Watch, is_expel_due, leads_by_rank, watch}

abbrev pub watch_of : Member → Watch
watch_of a = watch a.setup a.me.inc a.life

-- expulsions and campaigns are for this member
abbrev pub leads : Member → Bool
leads a = leads_by_rank a.me.inc (watch_of a) (online_incs (view a.setup a.life))

-- it is to make a Remove of this one
abbrev pub expels : Member → Inc → Bool
expels a i = not (inc_eq i a.me.inc) && (is_expel_due a.setup.limits.expel (watch_of a) i && not (list_any (removes_inc i) a.node.own))
