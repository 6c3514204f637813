-- What the ordered list has made at a member that takes it, and what one entry more makes of it.
-- (MySQL 8.0 Reference Manual, Group Replication: the members of a group apply the same changes in the same order.)
use Rattle.std.specs.Prelude.{◌≡◌, ℕ, suc, ◌+◌, ◌≤◌, Bool, true, Option, Some, List}
use Rattle.gr_ids.specs.declared.limits.Limits.{Limits}
use Rattle.gr_ids.specs.declared.names.OpenParts.{OpenParts}
use Rattle.gtid_sets.specs.Sets.{Gtids}
use Rattle.gtid_sets.specs.declared.told.ToldSet.{ToldSet}
use Rattle.key_items.specs.declared.item.KeptItem.{KeptItem}
use Rattle.slot_values.specs.declared.value.Value.{Value}
use Rattle.txn_forms.specs.declared.body.Body.{Body}
use Rattle.txn_forms.specs.declared.body.Body.TheVariants.{Txn as Writes, Part as PartOf}
use Rattle.txn_forms.specs.Parts.{parts_of, with_parts}
use Rattle.group_rules.specs.declared.marks.Effect.{Effect}
use Rattle.group_rules.specs.View.{View, effect_in, online_incs, void_if}
use Rattle.group_rules.specs.Events.{Entry}
use Rattle.group_rules.specs.Life.{view_after}
use Rattle.group_rules.specs.Told.{stable_of, tells, told_after}
use Rattle.group_rules.specs.Certifier.{certified_by}
use Rattle.group_rules.specs.Parts.{held, is_void_part, open_after}
use Rattle.list_state.specs.Settling.{AreKept}
use Rattle.certifier.specs.Certifying.{Certifying, limits_of, verdict_on, without_stable}

-- the place of the last entry taken, and what the entries up to it have made
pub record Listed : Type 0 where
  pub limits : Limits
  pub taken : ℕ
  pub view : View
  pub told : List ToldSet
  pub certifier : Certifying
  pub parts : List OpenParts

-- The size of a block is 1 to 1,000,000. Each place adds one to the number of the view at most, and draws one block at most. No item
-- that is kept has a stable writer, where that is known.
pub record IsSound (block place number blocks : ℕ) (settled : Bool) (stable : Gtids) (items : List KeptItem) : Type 0 where
  pub least : 1 ≤ block
  pub most : block ≤ 1000000
  pub numbered : number ≤ place + 1
  pub drawn : blocks ≤ place
  pub kept : settled ≡ true → AreKept stable items

-- ---- the entry that a value becomes at the next place

-- a transaction gets its verdict, and a part is void unless it is open; of all else the view decides
abbrev pub effect_by : View → Certifying → Option OpenParts → Bool → Value → Option Body → Effect
effect_by w c o has_effect v (Some (Writes t)) = verdict_on c v.id.origin t
effect_by w c o has_effect v (Some (PartOf p)) = void_if (is_void_part o (Some (PartOf p)))
effect_by w c o has_effect v b = effect_in w has_effect v.what b

-- the value of slot t at place p, by the parts that its origin has open, and with effect or not by the kept list
abbrev pub entry_by : View → Certifying → Option OpenParts → ℕ → ℕ → Bool → Value → Entry
entry_by w c o t p has_effect v = record { slot = t; place = p; value = v; effect = effect_by w c o has_effect v (held o v.what); holds = held o v.what }

abbrev pub open_of : Listed → Value → Option OpenParts
open_of x v = parts_of x.parts v.id.origin

abbrev pub entry_next : Listed → ℕ → Bool → Value → Entry
entry_next x t has_effect v = entry_by x.view x.certifier (open_of x v) t (suc x.taken) has_effect v

-- ---- what an entry makes

abbrev pub certified : Entry → Certifying → Certifying
certified e c = record c { certified = certified_by (limits_of c) e.place e.value.id.origin e.effect e.holds c.certified }

abbrev pub parts_after : Entry → List OpenParts → List OpenParts
parts_after e ps = with_parts ps e.value.id.origin (open_after e.value.id.origin e.holds (parts_of ps e.value.id.origin))

abbrev pub told_with : Entry → List ToldSet → List ToldSet
told_with e ts = told_after e (tells e.holds) ts

-- it is certified, and then what the stable set has is forgotten
abbrev pub certifier_after : Entry → View → List ToldSet → Certifying → Certifying
certifier_after e w ts c = without_stable (stable_of ts (online_incs w)) (certified e c)

abbrev pub with_entry : Entry → Listed → Listed
with_entry e x = record x {
  taken = e.place;
  view = view_after e x.view;
  told = told_with e x.told;
  certifier = certifier_after e (view_after e x.view) (told_with e x.told) x.certifier;
  parts = parts_after e x.parts;
}
