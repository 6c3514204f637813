-- The place and the origin are within their ranges, and all of the member takes the entry.
use Rattle.std.proofs.Common.{refl, sym, subst, ap, ◌∙◌, arith}
use Rattle.std.proofs.lemmas.Bool.{false≢true}
use Rattle.list_state.specs.Listing.{Listed}
use Rattle.local_sessions.specs.declared.tables.Tables.{Tables}
use Rattle.member_own.specs.Keeping.{with_place}
use Rattle.member_moment.specs.Taking.{Hands}
use Rattle.member_moment.specs.declared.moment.Moment.{Moment}
use Rattle.member_moment.proofs.Taken.{below, never, origin, took}
use Rattle.member_moment.proofs.moment.Moment.take_entry.Goals as goal

pub returns-then-taken-ge-LAST_PLACE : goal.returns-then-taken-ge-LAST_PLACE
returns-then-taken-ge-LAST_PLACE c = λ base a t p tv tk k.
    let x : Moment = c.args.self.now in
    let l = below base a t x k p c.args.has_effect c.args.value tv tk in
    let s = c.taken-2.view_is ∙ (c.taken.ensures ∙ (ap (λ (z : Listed). z.taken) c.list.ensures ∙ k.stands.rest.parts.list.taken)) in
    never base a t x k p c.args.has_effect c.args.value tv tk x (omega (arith, l, s, c.if-taken-ge-LAST_PLACE.true))

pub returns-then-not-is_inc : goal.returns-then-not-is_inc
returns-then-not-is_inc c = λ base a t p tv tk k.
    let x : Moment = c.args.self.now in
    never base a t x k p c.args.has_effect c.args.value tv tk x (false≢true (sym c.if-not-is_inc.true ∙ c.is_inc.ensures.all (origin base a t x k p c.args.has_effect c.args.value tv tk)))

pub returns : goal.returns
returns c = λ base a t p tv tk k.
    let x : Moment = c.args.self.now in
    let y : Moment = record x { parts = c.take.new.self; tables = c.taken-3.new.self; own = c.take-2.new.self; marks = c.push.new.self } in
    let r = c.in_ok-entered.entered in
    let view = c.view-view.ensures ∙ ap (λ (z : Listed). z.view) c.list-2.ensures in
    subst (λ d. Hands d base a t y) (sym c.caused_by-caused.ensures)
    (took base a t x k p c.args.has_effect c.args.value tv tk r c.mode.result c.primary.result y refl
    c.in_ok-entered.ensures.entered
    c.in_ok-entered.ensures.number
    (λ s l n e w u f. c.in_ok-entered.ensures.taken s l n (ap (λ (z : Tables). z.executed) c.tables.ensures ∙ e) w u f)
    (c.take-2.ensures ∙ ap (λ b. with_place r.place b x.own) c.is_own_arrival.ensures)
    (c.mode.ensures ∙ ap (λ z. z.mode) view)
    (c.primary.ensures ∙ ap (λ z. z.primary) view)
    c.taken-3.ensures
    c.in_ok-push.ensures.items)
