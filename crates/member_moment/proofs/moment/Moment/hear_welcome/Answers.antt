-- The node has it; and then the member, if it was OFFLINE and the node begins with it.
use Rattle.std.proofs.Common.{◌≡◌, ◌++◌, None, refl, sym, ap, ◌∙◌}
use Rattle.std.specs.Option.{option_map}
use Rattle.std.proofs.lemmas.Result.{on_ok_weaker}
use Rattle.group_rules.specs.Life.{is_offline}
use Rattle.group_rules.specs.Member.{at_node}
use Rattle.member_moment.specs.declared.moment.Moment.{Moment}
use Rattle.member_moment.specs.Joining.{greets_of, welcome_in, welcomed_by}
use Rattle.member_moment.proofs.Doing.{does_same}
use Rattle.member_moment.proofs.Welcomed.{no_log, not_offline, welcomes}
use Rattle.member_moment.proofs.moment.Moment.hear_welcome.Goals as goal

pub returns-in_default : goal.returns-in_default
returns-in_default c =
    let h : welcome_in c.args.event.now ≡ None = sym c.welcome_in.ensures ∙ ap (option_map (λ w. w.now)) c.in_default.is in
    on_ok_weaker c.at_node.result (λ d given. does_same (greets_of c.args.event.now) (at_node c.args.event.now) c.args.self.now c.at_node.new.self (λ base a st. ap (λ o. welcomed_by o (at_node c.args.event.now a)) h) (d given)) c.at_node.ensures.does

pub returns-then-not-is_offline : goal.returns-then-not-is_offline
returns-then-not-is_offline c = λ given base a p st.
    let x : Moment = c.args.self.now in
    not_offline c.args.event.now c.in-Some.welcome.now (sym c.welcome_in.ensures ∙ ap (option_map (λ w. w.now)) c.in-Some.is) given base a x st
    (record x { node = c.step.new.self; sent = c.send_all.new.to }) refl c.in_ok-sent.ensures.node (c.in_ok-send_all.ensures ∙ ap (λ ms. x.sent.items ++ ms) c.in_ok-sent.ensures.sent) c.in_ok-sent.ensures.votes
    (sym (ap is_offline (c.state.ensures base a st)) ∙ (sym c.is_offline-is_offline.ensures ∙ c.if-not-is_offline.true))

pub returns-then-not-has_log : goal.returns-then-not-has_log
returns-then-not-has_log c = λ given base a p st.
    let x : Moment = c.args.self.now in
    no_log c.args.event.now c.in-Some.welcome.now (sym c.welcome_in.ensures ∙ ap (option_map (λ w. w.now)) c.in-Some.is) given base a x st
    (record x { node = c.step.new.self; sent = c.send_all.new.to }) refl c.in_ok-sent.ensures.node (c.in_ok-send_all.ensures ∙ ap (λ ms. x.sent.items ++ ms) c.in_ok-sent.ensures.sent) c.in_ok-sent.ensures.votes
    (sym (ap is_offline (c.state.ensures base a st)) ∙ (sym c.is_offline-is_offline.ensures ∙ c.if-not-is_offline.false)) (sym c.has_log.ensures ∙ c.if-not-has_log.true)

pub returns : goal.returns
returns c = on_ok_weaker c.enter.result (λ entered given base a p st.
    let x : Moment = c.args.self.now in
    welcomes c.args.event.now c.in-Some.welcome.now (sym c.welcome_in.ensures ∙ ap (option_map (λ w. w.now)) c.in-Some.is) given base a x st
    (record x { node = c.step.new.self; sent = c.send_all.new.to }) refl c.in_ok-sent.ensures.node (c.in_ok-send_all.ensures ∙ ap (λ ms. x.sent.items ++ ms) c.in_ok-sent.ensures.sent) c.in_ok-sent.ensures.votes
    (sym (ap is_offline (c.state.ensures base a st)) ∙ (sym c.is_offline-is_offline.ensures ∙ c.if-not-is_offline.false)) (sym c.has_log.ensures ∙ c.if-not-has_log.false) c.enter.new.self entered) c.enter.ensures
