-- Where there is room, a version can be put.
use Rattle.std.proofs.Common.{map, ap, ◌∙◌}
use Rattle.std.specs.Prelude.{nat_lt}
use Rattle.key_items.specs.declared.change.Change.{Change}
use Rattle.row_store.specs.Chains.{spare_of, has_room}
use Rattle.row_store.specs.Inside.{chain_of, is_ready}
use Rattle.row_store.proofs.ChainReads.{ready_with_room}
use Rattle.row_store.proofs.Folds.{all_more}
use Rattle.row_store.proofs.store.Store.apply.Goals as goal

pub put_all-requires : goal.put_all-requires
put_all-requires c =
    all_more (λ (x : Change). nat_lt 0 (spare_of (map chain_of c.self.inside.chains.entries) x.item)) (λ (x : Change). is_ready c.args.gtid (map chain_of c.self.inside.chains.entries) x.item) c.args.changes
    (λ x h. ready_with_room c.args.gtid c.self.inside.chains.entries x.item h)
    (ap (λ cs. has_room cs c.args.changes) c.self.view_is ∙ c.requires)
