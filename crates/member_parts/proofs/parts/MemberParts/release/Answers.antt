-- Those begin whose conditions hold.
use Rattle.std.proofs.Common.{◌≡◌, ◌∙◌, [], ap, filter, map, not, refl, sym}
use Rattle.consistency_waits.specs.Holding.{is_due, released_as}
use Rattle.member_backlog.specs.Waiting.{pending_of}
use Rattle.member_parts.specs.declared.parts.MemberParts.{MemberParts}
use Rattle.member_parts.proofs.Holds.{left_out, released_are, released_out, stands_released}
use Rattle.member_parts.proofs.parts.MemberParts.release.Goals as goal

pub returns-then-is_empty-clause-begun : goal.returns-then-is_empty-clause-begun
returns-then-is_empty-clause-begun c =
    let x : MemberParts = c.args.self.now in
    let none : x.waits ≡ [] = c.is_empty.ensures.nothing c.if-is_empty.true in
    λ a f. released_are a x (pending_of x.backlog) c.from_vec.result refl
    (c.from_vec.ensures ∙ (c.new.ensures.items ∙ sym (ap (λ hs. map released_as (filter (is_due (pending_of x.backlog)) hs)) none))) f

pub returns-then-is_empty-clause-stands : goal.returns-then-is_empty-clause-stands
returns-then-is_empty-clause-stands c =
    let x : MemberParts = c.args.self.now in
    let none : x.waits ≡ [] = c.is_empty.ensures.nothing c.if-is_empty.true in
    λ a f. stands_released a x x (pending_of x.backlog) refl (none ∙ sym (ap (λ hs. filter (λ h. not (is_due (pending_of x.backlog) h)) hs) none)) f

pub returns-clause-begun : goal.returns-clause-begun
returns-clause-begun c =
    released_out c.release.result _ _ (λ rs e a f. released_are a c.args.self.now c.in_ok-pending.field-0 rs c.in_ok-pending.ensures e f) c.release.ensures.released

pub returns-clause-stands : goal.returns-clause-stands
returns-clause-stands c =
    (let x : MemberParts = c.args.self.now in
    left_out c.release.result _ _ (λ e a f. stands_released a x (record x { waits = c.release.new.self }) c.in_ok-pending.field-0 c.in_ok-pending.ensures e f) c.release.ensures.ok)
