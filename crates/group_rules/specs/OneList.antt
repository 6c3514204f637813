-- The one ordered list: what the values of the slots come to, by a scan of the whole list.
-- It is said as the history of a founder that did nothing but take the slots, so all that is said of a member's entries is said of it too: the view, the
-- certified transactions, told sets, open parts, who has prepared. Its verdicts alone are those of the scan.
use Rattle.std.specs.Prelude.{ℕ, suc, Bool, true, false, ◌&&◌, not, Option, Some, None, List, [], ◌∷◌, length, nat_le, ◌==◌, filter}
use Rattle.std.specs.List.{list_any, find}
use Rattle.gr_ids.specs.Names.{inc_eq}
use Rattle.gtid_sets.specs.Sets.{has}
use Rattle.key_items.specs.Items.{has_item}
use Rattle.slot_values.specs.Log.{Reading, became, founded, read}
use Rattle.slot_values.specs.declared.kept.Kept.{Kept}
use Rattle.slot_values.specs.declared.kept.Kept.TheVariants.{At as KeptAt, Skipped as IsSkipped}
use Rattle.group_rules.specs.Names.{Inc, Gtid, Limits, Value, Txn, Body, Writes, PartOf, OpenParts, Effect, Positive, Conflict}
use Rattle.group_rules.specs.View.{effect_in, void_if}
use Rattle.group_rules.specs.Events.{Founds, Took, Life, Setup, Entry, Cert}
use Rattle.group_rules.specs.Life.{view, certs}
use Rattle.group_rules.specs.Parts.{open_parts, held, is_void_part}
use Rattle.group_rules.specs.Certifier.{number_after, opens_block}
use Rattle.group_rules.specs.Steps.{group_of}

-- ---- the verdict by scan: `cs` are the certified transactions before it, newest first

abbrev pub shares : Txn → Cert → Bool
shares t c = list_any (has_item t.items) c.txn.items

-- it shares an item, and its GTID is outside the snapshot
abbrev pub stands_in_way : Txn → Cert → Bool
stands_in_way t c = shares t c && not (has t.snapshot c.gtid)

abbrev pub number_in : Option Cert → Option ℕ
number_in None = None
number_in (Some c) = Some c.gtid.number

abbrev pub blocks_taken : ℕ → List Cert → ℕ
blocks_taken b cs = length (filter (λ c. opens_block b c.gtid.number) cs)

-- the number after the origin's last one in its block, or the first one of the next block
abbrev pub scan_number : ℕ → List Cert → Inc → ℕ
scan_number b cs m = number_after b (blocks_taken b cs) (number_in (find (λ c. inc_eq c.id.origin m) cs))

abbrev pub scan_by : Gtid → Option Cert → Effect
scan_by g None = Positive g
scan_by g (Some c) = Conflict c.gtid

-- it is refused for the last one by place that stands in its way; otherwise it is positive
abbrev pub scan : Limits → List Cert → Inc → Txn → Effect
scan x cs m t = scan_by (record { source = x.group; number = scan_number x.block cs m }) (find (stands_in_way t) cs)

-- ---- the list

abbrev pub scan_effect : Setup → Life → Bool → Value → Option OpenParts → Option Body → Effect
scan_effect s l has_effect v o (Some (Writes t)) = scan s.limits (certs l) v.id.origin t
scan_effect s l has_effect v o (Some (PartOf p)) = void_if (is_void_part o (Some (PartOf p)))
scan_effect s l has_effect v o b = effect_in (view s l) has_effect v.what b

abbrev pub scan_entry : Setup → Life → ℕ → ℕ → Bool → Value → Entry
scan_entry s l t p has_effect v =
    let o = open_parts l v.id.origin in
    let b = held o v.what in
    record { slot = t; place = p; value = v; effect = scan_effect s l has_effect v o b; holds = b }

-- the values of a log stand newest first: that of the last slot first
abbrev pub reading_of : Setup → List Value → Reading
reading_of s [] = founded (group_of s)
reading_of s (v ∷ log) = read (reading_of s log) v

abbrev pub listed_by : Setup → Life → ℕ → Value → Kept → Life
listed_by s l t v IsSkipped = l
listed_by s l t v (KeptAt p has_effect) = Took (scan_entry s l t p has_effect v) ∷ l

-- the list that a log gives
abbrev pub listed : Setup → List Value → Life
listed s [] = Founds ∷ []
listed s (v ∷ log) = listed_by s (listed s log) (suc (length log)) v (became (reading_of s log) v)

-- ---- parts of it

-- the list after its first n places
abbrev pub first_places : Life → ℕ → Life
first_places [] n = []
first_places (Took e ∷ l) n = elim (nat_le e.place n) [ true ↦ Took e ∷ l | false ↦ first_places l n ]
first_places (d ∷ l) n = d ∷ l

-- the value of a slot, from 1
abbrev pub value_at : List Value → ℕ → Option Value
value_at [] t = None
value_at (v ∷ log) t = elim (t == suc (length log)) [ true ↦ Some v | false ↦ value_at log t ]

-- the log before a slot
abbrev pub before_slot : List Value → ℕ → List Value
before_slot [] t = []
before_slot (v ∷ log) t = elim (nat_le t (suc (length log))) [ true ↦ before_slot log t | false ↦ v ∷ log ]
