use Rattle.std.proofs.Common.{◌≡◌, ◌<◌, Some, [], length, get_or, refl, ap, arith}
use Rattle.std.specs.List.{slice_get}
use Rattle.std.proofs.lemmas.Bool.{and_from, eq-eqb}
use Rattle.std.proofs.lemmas.Option.{slice_get-get_or}
use Rattle.node_rules.proofs.Incs.{inc_same}
use Rattle.world_wire.specs.Lanes.{LaneOf}
use Rattle.world_wire.proofs.Members.{get_last}
use Rattle.world_wire.proofs.lanes.Lanes.lane_of.Goals as goal

pub returns-then-at-len-clause-at : goal.returns-then-at-len-clause-at
returns-then-at-len-clause-at c =
    let none : LaneOf = record { to = c.args.to; from = c.args.from; indexes = [] } in
    let within : c.index_of-at.result < length c.self.inside.lanes.items = omega (arith, c.if-at-len.true, c.len.ensures, c.deref.ensures.len, ap length c.deref.ensures.value) in
    let here : slice_get c.self.inside.lanes.items c.index_of-at.result ≡ Some (get_or c.self.inside.lanes.items c.index_of-at.result none) = slice_get-get_or c.self.inside.lanes.items c.index_of-at.result none within in
    (get_or c.self.inside.lanes.items c.index_of-at.result none, rw (← c.self.view_is) here, c.index_of-at.ensures.at (get_or c.self.inside.lanes.items c.index_of-at.result none) (rw c.deref.ensures.value here))

pub returns-clause-at : goal.returns-clause-at
returns-clause-at c =
    let made : LaneOf = record { to = c.args.to; from = c.args.from; indexes = [] } in
    let at : c.index_of-at.result ≡ length c.self.inside.lanes.items = omega (arith, c.if-at-len.false, c.len.ensures, c.deref.ensures.len, ap length c.deref.ensures.value, c.index_of-at.ensures.within) in
    (made, rw (c.in_ok-push.ensures.items, c.new.ensures) (get_last c.self.inside.lanes.items made c.index_of-at.result at), and_from _ _ (inc_same c.args.to) (eq-eqb c.args.from c.args.from refl))
