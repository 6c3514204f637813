-- The view that the entries make, by the rules of the view: the mode, the members, the primary and the place of its election.
use Rattle.std.specs.Prelude.{ℕ, suc, true, Option, Some, None, List, [], ◌∷◌, length}
use Rattle.group_rules.specs.Events.{Setup}
use Rattle.slot_values.specs.declared.value.What.{What}
use Rattle.slot_values.specs.declared.value.What.TheVariants.{Add, Remove, Body as Says}
use Rattle.txn_forms.specs.declared.body.Body.{Body as Said}
use Rattle.txn_forms.specs.declared.body.Body.TheVariants.{Online as Arrives, Mode as SwitchesTo, Primary as MakesPrimary}
use Rattle.group_rules.specs.View.{View, founding, effect_in, next_view}
use Rattle.group_laws.specs.Names.{Inc}
use Rattle.group_laws.specs.Entries.{Body, Online, Joins, Leaves, Switches, Appoints, Value}

-- what the rules of the view look at
abbrev pub what_of : Body → What
what_of (Joins j) = Add j
what_of (Leaves i) = Remove i
what_of b = Says []

abbrev pub said_of : Body → Option Said
said_of (Online s) = Some (Arrives s)
said_of (Switches m) = Some (SwitchesTo m)
said_of (Appoints i) = Some (MakesPrimary i)
said_of b = None

abbrev pub view_after : ℕ → Inc → Body → View → View
view_after n origin b v = next_view n origin (what_of b) (said_of b) (effect_in v true (what_of b) (said_of b)) v

-- the view after the entries
abbrev pub view : Setup → List Value → View
view r [] = founding r.mode r.founders
view r (x ∷ p) = view_after (suc (length p)) x.origin x.body (view r p)
