-- The ask is replied, and then sent, unless this incarnation is named itself.
use Rattle.std.proofs.Common.{◌≡◌, true, false, refl, sym, subst, ap, ◌∙◌}
use Rattle.std.proofs.lemmas.Result.{on_ok_weaker}
use Rattle.gr_ids.specs.Names.{inc_eq}
use Rattle.slot_values.specs.declared.value.Joiner.{Joiner}
use Rattle.group_rules.specs.declared.marks.Reply.TheVariants.{Asked}
use Rattle.group_rules.specs.Events.{Replied}
use Rattle.group_rules.specs.Member.{Member, push, send}
use Rattle.group_rules.specs.Recovery.{ask_wire}
use Rattle.member_moment.specs.declared.moment.Moment.{Moment}
use Rattle.member_moment.specs.Doing.{IsKept}
use Rattle.member_moment.specs.Standing.{Stands}
use Rattle.member_moment.proofs.Asked.{ask_spelt, replied, unless_it}
use Rattle.member_moment.proofs.moment.Moment.ask.Goals as goal

pub returns-then-eq : goal.returns-then-eq
returns-then-eq c = λ base a due p st.
    let y : Moment = record c.args.self.now { joining = c.ask.new.self; marks = c.push.new.self } in
    let b : Member = push (Replied (Asked c.args.donor)) a in
    let own : inc_eq c.args.donor a.me.inc ≡ true = ap (λ (j : Joiner). inc_eq c.args.donor j.inc) (sym st.rest.me) ∙ (sym c.eq.ensures ∙ c.if-eq.true) in
    subst (λ (z : Member). Stands base z y) (sym (unless_it c.args.donor (ask_wire a) b true own)) (replied base a c.args.self.now y c.args.donor refl due st c.in_ok-push.ensures.items c.in-Ok.ensures.asked)

pub returns : goal.returns
returns c = on_ok_weaker c.send.result (λ d base a due p st.
    let y : Moment = record c.args.self.now { joining = c.ask.new.self; marks = c.push.new.self } in
    let b : Member = push (Replied (Asked c.args.donor)) a in
    let other : inc_eq c.args.donor a.me.inc ≡ false = ap (λ (j : Joiner). inc_eq c.args.donor j.inc) (sym st.rest.me) ∙ (sym c.eq.ensures ∙ c.if-eq.false) in
    let spelt = ask_spelt base a c.args.self.now y c.args.donor refl due st c.in-Ok.ask c.in-Ok.ensures.ask c.requires in
    let same = unless_it c.args.donor (ask_wire a) b false other ∙ ap (λ w. send c.args.donor w b) (sym spelt.0) in
    subst (λ (z : Member). Stands base z c.send.new.self) (sym same) (d base b spelt.1 (subst (λ z. IsKept z) same p) (replied base a c.args.self.now y c.args.donor refl due st c.in_ok-push.ensures.items c.in-Ok.ensures.asked))) c.send.ensures
