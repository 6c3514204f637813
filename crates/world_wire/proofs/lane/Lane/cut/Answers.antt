use Rattle.std.proofs.Common.{rules, ◌≡◌, true, nat_lt, ℕ, List, sym, ap, ◌∙◌}
use Rattle.std.specs.List.{list_all}
use Rattle.std.proofs.lemmas.Bool.{not-false}
use Rattle.std.proofs.lemmas.Fn.{filter_same}
use Rattle.world_wire.specs.Lanes.{LaneOf, cut_at}
use Rattle.world_wire.proofs.Rising.{filter_all}
use Rattle.world_wire.proofs.lane.Lane.cut.Goals as goal

pub returns-then-reaches : goal.returns-then-reaches
returns-then-reaches c = λ r.
    let with : List ℕ → LaneOf = λ is. record { to = c.self.inside.to; from = c.self.inside.from; indexes = is } in
    ap with (filter_same _ (λ (j : ℕ). nat_lt j c.args.index) _ (λ x b f h. search rules) _ _ c.retain.ensures.filtered) ∙ ap (cut_at c.args.index) c.self.view_is

pub returns-else-reaches : goal.returns-else-reaches
returns-else-reaches c = λ r.
    let with : List ℕ → LaneOf = λ is. record { to = c.args.self.now.to; from = c.args.self.now.from; indexes = is } in
    let all : list_all (λ (j : ℕ). nat_lt j c.args.index) c.args.self.now.indexes ≡ true = not-false _ (sym (c.if-reaches.ensures r)) in
    ap with (sym (filter_all (λ (j : ℕ). nat_lt j c.args.index) c.args.self.now.indexes all))
