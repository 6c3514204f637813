use Rattle.std.proofs.Common.{rules, ◌≡◌, ◌<◌, ℕ, List, length, deque_len, sym, ap, ◌∙◌, arith, inl, inr, length-drop}
use Rattle.std.proofs.lemmas.Bool.{cases_lt}
use Rattle.world_wire.specs.Lanes.{LaneOf, dropped_in}
use Rattle.world_wire.proofs.Dropping.{stops, goes_on, at_end}
use Rattle.world_wire.proofs.lane.Lane.drop_closed.Goals as goal

pub loop-index-init : goal.loop-index-init
loop-index-init c = ap (dropped_in c.args.letters.now) c.self.view_is

pub returns-then-is_open_at : goal.returns-then-is_open_at
returns-then-is_open_at c =
    let with : List ℕ → LaneOf = λ is. record { to = c.loop-index.self-inside.to; from = c.loop-index.self-inside.from; indexes = is } in
    let some : 0 < deque_len c.loop-index.self-inside.indexes = search rules in
    let more : 0 < length c.loop-index.self-inside.indexes.items = omega (arith, c.loop-index.self-inside.indexes.ok.0) in
    ap with (sym (stops c.args.letters.now c.loop-index.self-inside.indexes.items c.in-Some.index.now more c.in-Some.ensures.lookup (sym c.if-is_open_at.ensures))) ∙ c.loop-index.invariant

pub loop-index-smaller : goal.loop-index-smaller
loop-index-smaller c =
    let some : 0 < deque_len c.loop-index.self-inside.indexes = search rules in
    omega (arith, c.loop-index.self-inside.indexes.ok.0, ap length c.pop_front.ensures.rest, length-drop 1 c.loop-index.self-inside.indexes.items)

pub loop-index-preserved : goal.loop-index-preserved
loop-index-preserved c =
    let with : List ℕ → LaneOf = λ is. record { to = c.loop-index.self-inside.to; from = c.loop-index.self-inside.from; indexes = is } in
    let some : 0 < deque_len c.loop-index.self-inside.indexes = search rules in
    let more : 0 < length c.loop-index.self-inside.indexes.items = omega (arith, c.loop-index.self-inside.indexes.ok.0) in
    let rest : dropped_in c.args.letters.now (with c.pop_front.new.self.items) ≡ dropped_in c.args.letters.now (with c.loop-index.self-inside.indexes.items) = rw c.pop_front.ensures.rest (ap with (goes_on c.args.letters.now c.loop-index.self-inside.indexes.items c.in-Some.index.now more c.in-Some.ensures.lookup (sym c.if-is_open_at.ensures))) in
    rest ∙ c.loop-index.invariant

pub returns : goal.returns
returns c =
    let with : List ℕ → LaneOf = λ is. record { to = c.loop-index.self-inside.to; from = c.loop-index.self-inside.from; indexes = is } in
    let none : length c.loop-index.self-inside.indexes.items ≡ 0 = elim (cases_lt 0 (deque_len c.loop-index.self-inside.indexes)) [ inl h ↦ absurd (search rules) | inr h ↦ omega (arith, c.loop-index.self-inside.indexes.ok.0) ] in
    ap with (sym (at_end c.args.letters.now c.loop-index.self-inside.indexes.items none)) ∙ c.loop-index.invariant
