-- The place is done, where it is queued with these bytes and not done yet.
use Rattle.std.proofs.Common.{◌<◌, ℕ, List, not, length, ap, sym, refl, ◌∙◌, arith, subst}
use Rattle.std.proofs.lemmas.Bool.{true≢false}
use Rattle.std.proofs.lemmas.Result.{err_from_is_err_and}
use Rattle.apply_queue.specs.Queues.{Queued, Done, is_waiting, is_at, at_place, refused_at}
use Rattle.apply_queue.specs.Works.{AreDecoded}
use Rattle.apply_queue.proofs.Firsts.{nobody, somebody, changed_there, set_length}
use Rattle.apply_queue.proofs.Cursor.{after_change}
use Rattle.apply_queue.proofs.Results.{taken_at}
use Rattle.apply_queue.proofs.queue.Queue.done.Goals as goal

pub returns-in_default-clause-refused : goal.returns-in_default-clause-refused
returns-in_default-clause-refused c =
    ap (λ qs. refused_at c.args.done.place c.args.done.body (at_place qs c.args.done.place)) (sym c.self.view_is)
    ∙ ap (refused_at c.args.done.place c.args.done.body)
    (nobody (is_at c.args.done.place) c.self.inside.entries.items c.index_of-at.result c.index_of-at.ensures
    (λ less. true≢false (sym (c.in_default.ensures.variant.1 (omega (arith, less, c.self.inside.entries.ok.0))))))

pub returns-in_err-accepts-clause-refused : goal.returns-in_err-accepts-clause-refused
returns-in_err-accepts-clause-refused c =
    let inside : c.index_of-at.result < length c.self.inside.entries.items = omega (arith, c.in-Some.ensures.variant.0 refl, c.self.inside.entries.ok.0) in
    let p = err_from_is_err_and c.from_residual.result c.from_residual.ensures.1 in
    rw (p.1, p.2)
    (ap (λ qs. refused_at c.args.done.place c.args.done.body (at_place qs c.args.done.place)) (sym c.self.view_is)
    ∙ (ap (refused_at c.args.done.place c.args.done.body)
    (somebody (is_at c.args.done.place) c.self.inside.entries.items c.index_of-at.result c.in-Some.entry.now c.index_of-at.ensures inside c.in-Some.ensures.value)
    ∙ c.in_err-accepts.ensures.refused))

pub finish-requires : goal.finish-requires
finish-requires c =
    let same = taken_at c.args.done.place c.args.done.body c.in-Some.entry.now c.in_ok-accepts.ensures.ok in
    subst (λ (b : List ℕ). AreDecoded b c.args.done.changes c.args.done.items) (sym same.0) c.args.done.decoded

within : (c : goal.After-drop-done-2) → c.index_of-at.result < length c.self.inside.entries.items
within c = omega (arith, c.in-Some.ensures.variant.0 refl, c.self.inside.entries.ok.0)

pub invariant_of-self-2 : goal.invariant_of-self-2
invariant_of-self-2 c = (
  omega (arith, set_length c.self.inside.entries.items c.index_of-at.result c.finish.new.self, c.self.invariant.0),
  after_change (λ (q : Queued). not (is_waiting q)) c.self.inside.entries.items c.self.inside.next c.index_of-at.result c.finish.new.self
      (ap (λ q. not (is_waiting q)) c.finish.ensures) c.self.invariant.1,
)

pub returns-clause-ok : goal.returns-clause-ok
returns-clause-ok c = (
  ap (λ qs. refused_at c.args.done.place c.args.done.body (at_place qs c.args.done.place)) (sym c.self.view_is)
      ∙ (ap (refused_at c.args.done.place c.args.done.body)
      (somebody (is_at c.args.done.place) c.self.inside.entries.items c.index_of-at.result c.in-Some.entry.now c.index_of-at.ensures (within c) c.in-Some.ensures.value)
      ∙ c.in_ok-accepts.ensures.ok),
  rw (← c.self.view_is, c.finish.ensures)
      (sym (changed_there (is_at c.args.done.place) (λ (q : Queued). record q { mark = Done c.args.done.changes c.args.done.items }) c.self.inside.entries.items c.index_of-at.result c.in-Some.entry.now c.index_of-at.ensures (within c) c.in-Some.ensures.value)),
)
