-- A slot that is taken.
use Rattle.slot_values.specs.declared.kept.Kept.{Kept}
use Rattle.slot_values.specs.declared.kept.Kept.TheVariants.{At as KeptAt, Skipped as IsSkipped}
use Rattle.node_rules.specs.declared.taken.Taken.{Taken}
use Rattle.node_rules.specs.Taking.{take}
use Rattle.group_rules.specs.Events.{Skips, Took}
use Rattle.group_rules.specs.Member.{Member, by_node, push}
use Rattle.group_rules.specs.Taking.{entry_of}

-- the entry is in the history, or the slot is skipped
abbrev pub entered_by : Taken → Kept → Member → Member
entered_by x IsSkipped a = push (Skips x.slot x.value) a
entered_by x (KeptAt p h) a = push (Took (entry_of a.setup a.life x.slot p h x.value)) a

abbrev pub takes_on : Taken → Member → Member
takes_on x a = entered_by x x.kept (by_node take a)
