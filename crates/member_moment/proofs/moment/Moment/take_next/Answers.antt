-- The node hands a slot out, and the rest of the member takes it.
use Rattle.std.proofs.Common.{◌≡◌, Option, option_to_list, [], ◌∷◌, sym, subst, ap, ◌∙◌}
use Rattle.std.specs.Option.{MatchOption}
use Rattle.node_rules.specs.Node.{Node}
use Rattle.node_rules.specs.Taking.{take}
use Rattle.node_rules.specs.declared.taken.Taken.{Taken}
use Rattle.member_moment.specs.Taking.{HasPassed}
use Rattle.member_moment.specs.declared.moment.Moment.{Moment}
use Rattle.member_moment.proofs.moment.Moment.take_next.Goals as goal

pub returns-in_ok-take_kept-in-Some : goal.returns-in_ok-take_kept-in-Some
returns-in_ok-take_kept-in-Some c = λ base a ok st.
    let x : Moment = c.args.self.now in
    let t : Taken = c.in-Some.taken in
    let one : (take a.node).took ≡ t ∷ [] = ap (λ (n : Node). (take n).took) (sym st.rest.node) ∙ (sym c.in_ok-take.ensures.taken ∙ ap option_to_list c.in-Some.is) in
    let node : c.take.new.self ≡ (take x.node).node = subst (λ (o : Option Taken). MatchOption o (c.take.new.self ≡ x.node) (λ d. c.take.new.self ≡ (take x.node).node)) c.in-Some.is c.in_ok-take.ensures.node in
    let passed : HasPassed t base a (record x { node = c.take.new.self }) = record { more = []; took = one; node = node ∙ ap (λ (n : Node). (take n).node) st.rest.node; before = x.node; stands = st; ready = ok } in
    (t, [], one, c.in_ok-take_kept-in-Some.ensures base a passed)
