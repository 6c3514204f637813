-- By the first one that is the place.
use Rattle.std.proofs.Common.{◌≡◌, ◌<◌, Some, length, ap, sym, refl, ◌∙◌, arith}
use Rattle.std.proofs.lemmas.Bool.{true≢false}
use Rattle.std.specs.Option.{option_map}
use Rattle.std.proofs.lemmas.Result.{err_from_is_err_and}
use Rattle.apply_queue.specs.Queues.{Queued, is_at, at_place, refused_at}
use Rattle.apply_queue.proofs.Firsts.{nobody, somebody}
use Rattle.apply_queue.proofs.queue.Queue.accepts.Goals as goal
use Rattle.apply_queue.proofs.queue.Queue.accepts.Goals.{In-Some}

pub returns-in_default-clause-refused : goal.returns-in_default-clause-refused
returns-in_default-clause-refused c =
    ap (λ qs. refused_at c.args.done.now.place c.args.done.now.body (at_place qs c.args.done.now.place)) (sym c.self.view_is)
    ∙ ap (refused_at c.args.done.now.place c.args.done.now.body)
    (nobody (is_at c.args.done.now.place) c.self.inside.entries.items c.index_of-at.result c.index_of-at.ensures
    (λ less. true≢false (sym (c.in_default.ensures.variant.1 (omega (arith, less, c.self.inside.entries.ok.0))))))

-- the entry of the place
entry_is : (c : In-Some) → at_place c.args.self.now c.args.done.now.place ≡ Some c.in-Some.entry.now
entry_is c =
    let inside : c.index_of-at.result < length c.self.inside.entries.items = omega (arith, c.in-Some.ensures.variant.0 refl, c.self.inside.entries.ok.0) in
    ap (λ qs. at_place qs c.args.done.now.place) (sym c.self.view_is)
    ∙ somebody (is_at c.args.done.now.place) c.self.inside.entries.items c.index_of-at.result c.in-Some.entry.now c.index_of-at.ensures inside c.in-Some.ensures.lookup

pub returns-in_err-accepts-clause-refused : goal.returns-in_err-accepts-clause-refused
returns-in_err-accepts-clause-refused c =
    let p = err_from_is_err_and c.from_residual.result c.from_residual.ensures.1 in
    rw (p.1, p.2)
    (ap (refused_at c.args.done.now.place c.args.done.now.body) (entry_is (goal.at.returns-in_err-accepts-clause-refused c).In-Some) ∙ c.in_err-accepts.ensures.refused)

pub returns-clause-ok : goal.returns-clause-ok
returns-clause-ok c = ap (refused_at c.args.done.now.place c.args.done.now.body) (entry_is (goal.at.returns-clause-ok c).In-Some) ∙ c.in_ok-accepts.ensures.ok

pub returns-clause-gtid : goal.returns-clause-gtid
returns-clause-gtid c = ap (option_map (λ (q : Queued). q.gtid)) (entry_is (goal.at.returns-clause-gtid c).In-Some) ∙ ap Some (sym c.gtid.ensures)
