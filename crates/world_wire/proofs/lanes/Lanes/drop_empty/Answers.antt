use Rattle.std.proofs.Common.{◌≡◌, ◌<◌, [], Some, length, refl, arith}
use Rattle.std.specs.List.{slice_get}
use Rattle.std.proofs.lemmas.Option.{slice_get_read}
use Rattle.world_wire.proofs.Indexing.{empty_goes}
use Rattle.world_wire.proofs.lanes.Lanes.drop_empty.Goals as goal

pub returns-then-is_empty : goal.returns-then-is_empty
returns-then-is_empty c = λ xs ix.
    let within : c.args.at < length c.self.inside.lanes.items = omega (arith, c.if-at-len.true, c.len.ensures, c.self.inside.lanes.ok.0) in
    let here : slice_get c.self.inside.lanes.items c.args.at ≡ Some c.index.result.now = slice_get_read c.self.inside.lanes.items (length c.self.inside.lanes.items) c.args.at c.index.result.now refl within c.index.ensures in
    let none : c.index.result.now.indexes ≡ [] = c.is_empty.ensures.0 c.if-is_empty.true in
    rw c.remove.ensures.items (empty_goes c.self.inside.lanes.items xs c.args.at c.index.result.now here none (rw (← c.self.view_is) at ix))
