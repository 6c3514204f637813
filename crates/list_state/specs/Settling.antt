-- When nothing is left to forget.
use Rattle.std.specs.Prelude.{◌≡◌, Bool, true, false, not, Option, Some, None, List, [], ◌∷◌, find}
use Rattle.std.specs.Option.{option_map}
use Rattle.gr_ids.specs.declared.names.Gtid.{Gtid}
use Rattle.gr_ids.specs.declared.names.Inc.{Inc}
use Rattle.gtid_sets.specs.Sets.{Gtids, has}
use Rattle.gtid_sets.specs.declared.told.ToldSet.{ToldSet}
use Rattle.key_items.specs.declared.item.KeptItem.{KeptItem}
use Rattle.group_rules.specs.declared.marks.Effect.{Effect}
use Rattle.group_rules.specs.declared.marks.Effect.TheVariants.{Positive}
use Rattle.group_rules.specs.View.{View, is_online_state}
use Rattle.group_rules.specs.Told.{set_or_empty, told_of}
use Rattle.list_state.specs.declared.held.Held.{Held}
use Rattle.list_state.specs.declared.held.Held.TheVariants.{Txn, Part as PartHeld}

-- no writer of these items is in the set
abbrev pub AreKept : Gtids → List KeptItem → Type 0
AreKept s [] = Unit {0}
AreKept s (k ∷ ks) = (has s k.gtid ≡ false) × AreKept s ks

-- the first member ONLINE, if there is one
abbrev pub first_online : View → Option Inc
first_online v = option_map (λ s. s.joiner.inc) (find (λ s. is_online_state s.state) v.seats)

-- whether this member, if there is one, has not told the GTID: where it is ONLINE, the GTID isn't stable then
abbrev pub is_new_to : List ToldSet → Option Inc → Gtid → Bool
is_new_to ts None g = true
is_new_to ts (Some i) g = not (has (set_or_empty (told_of ts i)) g)

-- whether an entry of this effect leaves nothing to forget where nothing was left, by the first member ONLINE
abbrev pub is_quiet : List ToldSet → Option Inc → Held → Effect → Bool
is_quiet ts i (Txn t b) (Positive g) = is_new_to ts i g
is_quiet ts i (Txn t b) f = true
is_quiet ts i (PartHeld v) f = true
is_quiet ts i h f = false
