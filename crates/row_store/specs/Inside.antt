-- How the chains stand in a map.
use Rattle.std.specs.Prelude.{◌-◌, Bool, false, ◌||◌, List, fold, length, nat_lt, vec_capacity}
use Rattle.std.specs.Global.{Vec}
use Rattle.key_items.specs.declared.item.Item.{Item}
use Rattle.gr_ids.specs.declared.names.Gtid.{Gtid}
use Rattle.gr_ids.specs.Names.{gtid_eq}
use Rattle.row_store.specs.Chains.{Chain, Version, spare_of, versions_of}

abbrev pub chain_of : Item × Vec Version → Chain
chain_of e = record { item = e.0; versions = e.1.items; spare = vec_capacity e.1 - length e.1.items }

-- the newest version is of this transaction
abbrev pub is_newest : Gtid → List Version → Bool
is_newest g vs = fold (λ b v. gtid_eq v.gtid g) false vs

-- a version of this transaction can be put
abbrev pub is_ready : Gtid → List Chain → Item → Bool
is_ready g cs i = nat_lt 0 (spare_of cs i) || is_newest g (versions_of cs i)
