-- A certifier with the settings of its group. What is kept and what an entry changes there stands in the rules of the group.
use Rattle.std.specs.Prelude.{ℕ, ◌*◌, IsTrue, nat_le, Some, List, [], fold, map}
use Rattle.std.specs.List.{list_all}
use Rattle.gr_ids.specs.declared.names.Inc.{Inc}
use Rattle.gr_ids.specs.declared.names.LastNumber.{LastNumber}
use Rattle.gr_ids.specs.declared.limits.Limits.{Limits}
use Rattle.key_items.specs.declared.item.KeptItem.{KeptItem}
use Rattle.key_items.specs.declared.item.Item.{Item}
use Rattle.key_items.specs.Items.{Ascend}
use Rattle.gtid_sets.specs.Sets.{Gtids}
use Rattle.gtid_sets.specs.Canonical.{IsNumber}
use Rattle.txn_forms.specs.declared.body.Txn.{Txn}
use Rattle.txn_forms.specs.declared.body.Body.TheVariants.{Txn as Writes}
use Rattle.group_rules.specs.declared.marks.Effect.{Effect}
use Rattle.group_rules.specs.declared.marks.Effect.TheVariants.{Positive as IsPositive, Conflict as IsConflict}
use Rattle.group_rules.specs.Certifier.{Certifier, certified_by, forget, no_certifier, verdict, with_last}
use Rattle.certifier.specs.declared.verdict.Verdict.{Verdict}
use Rattle.certifier.specs.declared.verdict.Verdict.TheVariants.{Positive, Conflict}

-- the group's UUID, the size of a block of numbers, and what is certified
pub record Certifying : Type 0 where
  pub group : List ℕ
  pub block : ℕ
  pub certified : Certifier

-- the limits of a group with these settings; certification reads none of the others
abbrev pub limits_of : Certifying → Limits
limits_of c = record { group = c.group; horizon = 0; expel = 0; majority = 0; block = c.block }

abbrev pub nothing_certified : List ℕ → ℕ → Certifying
nothing_certified group block = record { group = group; block = block; certified = no_certifier }

abbrev pub effect_of : Verdict → Effect
effect_of (Positive g) = IsPositive g
effect_of (Conflict g) = IsConflict g

-- the number of a GTID that is given is one that a GTID may have
abbrev pub HasNumber : Verdict → Type 0
HasNumber (Positive g) = IsNumber g.number
HasNumber (Conflict g) = Unit {0}

-- the verdict on a transaction of this origin that is taken next
abbrev pub verdict_on : Certifying → Inc → Txn → Effect
verdict_on c m t = verdict (limits_of c) c.certified m t

-- after a transaction of this origin at place p
abbrev pub with_txn : ℕ → Inc → Txn → Certifying → Certifying
with_txn p m t c = record c { certified = certified_by (limits_of c) p m (verdict_on c m t) (Some (Writes t)) c.certified }

-- after the stable set is taken out
abbrev pub without_stable : Gtids → Certifying → Certifying
without_stable s c = record c { certified = forget s c.certified }

-- ---- what a donor gave

-- no number is above those of the blocks taken
abbrev pub AreOfBlocks : ℕ → ℕ → List LastNumber → Type 0
AreOfBlocks block blocks last = IsTrue (list_all (λ (x : LastNumber). nat_le x.number (blocks * block)) last)

abbrev pub item_of : KeptItem → Item
item_of k = k.item

abbrev pub ItemsAscend : List KeptItem → Type 0
ItemsAscend ks = Ascend (map item_of ks)

-- the last number of each origin; where an origin comes twice, the later number
abbrev pub numbers_told : List LastNumber → List LastNumber
numbers_told last = fold with_last [] last

abbrev pub restored_as : List ℕ → ℕ → ℕ → List LastNumber → List KeptItem → Certifying
restored_as group block blocks last items = record { group = group; block = block; certified = record { blocks = blocks; last = numbers_told last; items = items } }
