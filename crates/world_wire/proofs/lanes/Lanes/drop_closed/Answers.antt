use Rattle.std.proofs.Common.{◌≡◌, Some, length, ap, arith}
use Rattle.std.specs.List.{slice_get}
use Rattle.std.proofs.lemmas.Option.{slice_get_read}
use Rattle.world_wire.proofs.Indexing.{drop_keeps}
use Rattle.world_wire.proofs.lanes.Lanes.drop_closed.Goals as goal

pub returns-then-at-len : goal.returns-then-at-len
returns-then-at-len c = λ ix.
    let long : c.len.result ≡ length c.self.inside.lanes.items = omega (arith, c.len.ensures, c.deref.ensures.len, ap length c.deref.ensures.value) in
    let here : slice_get c.self.inside.lanes.items c.index_of-at.result ≡ Some c.index_mut.result.now = slice_get_read c.self.inside.lanes.items c.len.result c.index_of-at.result c.index_mut.result.now long c.if-at-len.true c.index_mut.ensures.value in
    c.drop_empty.ensures c.args.letters.now (rw c.drop_closed.ensures (drop_keeps c.self.inside.lanes.items c.args.letters.now c.index_of-at.result c.index_mut.result.now here (rw (← c.self.view_is) at ix)))
