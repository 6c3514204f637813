use Rattle.std.proofs.Common.{rules, ◌≡◌, ◌<◌, length, deque_len, arith}
use Rattle.world_wire.proofs.Rising.{reach}
use Rattle.world_wire.proofs.lane.Lane.reaches.Goals as goal

pub returns-in-Some : goal.returns-in-Some
returns-in-Some c = λ r.
    let some : 0 < deque_len c.self.inside.indexes = search rules in
    let long : deque_len c.self.inside.indexes ≡ length c.self.inside.indexes.items = omega (arith, c.self.inside.indexes.ok.0) in
    rw (← c.self.view_is) (reach c.self.inside.indexes.items (deque_len c.self.inside.indexes) c.args.index c.in-Some.last.now (rw (← c.self.view_is) at r) some long c.in-Some.ensures.lookup)
