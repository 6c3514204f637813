-- The parts of the body, each behind its count.
use Rattle.std.proofs.Common.{◌≡◌, ◌-◌, ◌^◌, min, ap, ◌∙◌, arith}
use Rattle.txn_forms.specs.declared.body.Txn.{Txn}
use Rattle.local_sessions.specs.Sizes.{runs_size}
use Rattle.local_sessions.proofs.Lengths.{body_is}
use Rattle.local_sessions.proofs.sizes.body_size.Goals as goal

pub returns-clause-size : goal.returns-clause-size
returns-clause-size c after =
    let t : Txn = record { after = after; snapshot = c.args.snapshot.now; items = c.args.items.now; changes = c.args.changes.now } in
    let set : c.runs_size-set.result ≡ min (runs_size c.args.snapshot.now) (2 ^ 64 - 1) = c.runs_size-set.ensures ∙ ap (λ l. min (runs_size l) (2 ^ 64 - 1)) c.runs.ensures.runs in
    rw (body_is t c.runs.ensures.canonical) (omega (arith, set, c.saturating_add-2.ensures, c.saturating_add.ensures, c.saturating_add-written.ensures, c.items_size.ensures, c.changes_size.ensures))
