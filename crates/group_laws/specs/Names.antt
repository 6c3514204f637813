-- The names of the types that the laws speak of, and their tests, passed on.
pub use Rattle.gr_ids.specs.declared.names.Inc.{Inc}
pub use Rattle.gr_ids.specs.declared.names.Gtid.{Gtid}
pub use Rattle.gr_ids.specs.declared.levels.Level.{Level}
pub use Rattle.gr_ids.specs.declared.levels.Level.TheVariants.{Eventual, BeforeOnPrimaryFailover, Before, After, BeforeAndAfter}
pub use Rattle.gr_ids.specs.declared.levels.Mode.TheVariants.{Single, Multi}
pub use Rattle.gr_ids.specs.Names.{inc_eq, has_inc, gtid_eq, bytes_eq}
pub use Rattle.gtid_sets.specs.declared.run.Run.{Run}
pub use Rattle.gtid_sets.specs.Sets.{Gtids, in_run, has}
pub use Rattle.key_items.specs.declared.item.Item.{Item}
pub use Rattle.key_items.specs.declared.change.Change.{Change}
pub use Rattle.key_items.specs.declared.change.ChangeKind.{ChangeKind}
pub use Rattle.key_items.specs.declared.change.ChangeKind.TheVariants.{Insert as Inserts, Update as Updates, Delete as Deletes}
pub use Rattle.key_items.specs.Items.{item_eq}
pub use Rattle.slot_values.specs.declared.value.Joiner.{Joiner}
pub use Rattle.txn_forms.specs.declared.body.Txn.{Txn}
pub use Rattle.txn_forms.specs.declared.body.ModeChange.{ModeChange}
pub use Rattle.txn_forms.specs.declared.body.ModeChange.TheVariants.{Multi as ToMulti, Single as ToSingle}
