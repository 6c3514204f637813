use Rattle.std.proofs.Common.{◌≡◌, ◌≤◌, ◌<◌, true, Some, List, length, sym, ap, ◌∙◌, arith}
use Rattle.std.specs.List.{slice_get}
use Rattle.std.proofs.lemmas.Option.{get_or_from_slice_get, slice_get_within}
use Rattle.group_rules.specs.Script.{Letter}
use Rattle.world_wire.specs.Lanes.{IsIndex, LaneOf, cut_at, put_at, is_between, rises}
use Rattle.world_wire.proofs.Indexing.{cut_keeps, lane_rises, put_adds}
use Rattle.world_wire.proofs.Results.{err_anyway, on_err, on_ok}
use Rattle.world_wire.proofs.lanes.Lanes.put.Goals as goal

pub returns-in_err-at-clause-err : goal.returns-in_err-at-clause-err
returns-in_err-at-clause-err c = err_anyway c.from_residual.result (λ xs s ix. c.lane_of.ensures.same xs ix)

pub index_mut-requires : goal.index_mut-requires
index_mut-requires c =
    let there = c.in_ok-at.ensures.at in
    let within : c.in_ok-at.at < length c.lane_of.new.self = slice_get_within c.lane_of.new.self c.in_ok-at.at there.0 there.1 in
    omega (arith, within, ap length c.self.view_is, c.self.inside.lanes.ok.0)

-- the lane that is changed, in the lanes
here : (c : goal.After-self-1) → slice_get c.self.inside.lanes.items c.in_ok-at.at ≡ Some c.index_mut.result.now
here c =
    let there = c.in_ok-at.ensures.at in
    let at : slice_get c.self.inside.lanes.items c.in_ok-at.at ≡ Some there.0 = rw c.self.view_is there.1 in
    let same : c.index_mut.result.now ≡ there.0 = c.index_mut.ensures.value ∙ get_or_from_slice_get c.self.inside.lanes.items c.in_ok-at.at there.0 c.index_mut.result.now at in
    at ∙ ap (λ (l : LaneOf). Some l) (sym same)

between : (c : goal.After-self-1) → is_between c.args.letter.now.message.to c.args.letter.now.message.from.server c.index_mut.result.now ≡ true
between c =
    let there = c.in_ok-at.ensures.at in
    let same : c.index_mut.result.now ≡ there.0 = c.index_mut.ensures.value ∙ get_or_from_slice_get c.self.inside.lanes.items c.in_ok-at.at there.0 c.index_mut.result.now (rw c.self.view_is there.1) in
    rw (same, ← c.to.ensures, ← c.from.ensures) there.2

indexed : (c : goal.After-self-1) (xs : List Letter) → IsIndex c.args.self.now xs → IsIndex c.self.inside.lanes.items xs
indexed c xs ix = rw c.self.view_is (c.lane_of.ensures.same xs ix)

pub returns-clause-ok : goal.returns-clause-ok
returns-clause-ok c = on_ok c.put.result (λ (f : rises c.index_mut.result.now.indexes ≡ true → c.put.new.self ≡ put_at c.args.index c.index_mut.result.now) (xs : List Letter) (s : length xs ≡ c.args.index) (ix : IsIndex c.args.self.now xs).
    let was = indexed c xs ix in
    let now : c.put.new.self ≡ put_at c.args.index c.index_mut.result.now = f (lane_rises c.self.inside.lanes.items xs c.in_ok-at.at c.index_mut.result.now (here c) was) in
    rw now (put_adds c.self.inside.lanes.items xs c.in_ok-at.at c.index_mut.result.now c.args.index c.args.letter.now s (here c) (between c) was)) c.put.ensures.ok

pub returns-clause-err : goal.returns-clause-err
returns-clause-err c = on_err c.put.result (λ (f : rises c.index_mut.result.now.indexes ≡ true → c.put.new.self ≡ cut_at c.args.index c.index_mut.result.now) (xs : List Letter) (s : length xs ≤ c.args.index) (ix : IsIndex c.args.self.now xs).
    let was = indexed c xs ix in
    let now : c.put.new.self ≡ cut_at c.args.index c.index_mut.result.now = f (lane_rises c.self.inside.lanes.items xs c.in_ok-at.at c.index_mut.result.now (here c) was) in
    rw now (cut_keeps c.self.inside.lanes.items xs c.in_ok-at.at c.index_mut.result.now c.args.index s (here c) was)) c.put.ensures.err
