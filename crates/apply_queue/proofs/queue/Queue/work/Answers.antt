-- The work of the first one that is the place.
use Rattle.std.proofs.Common.{◌<◌, Some, length, ap, sym, refl, ◌∙◌, arith}
use Rattle.std.proofs.lemmas.Bool.{true≢false}
use Rattle.apply_queue.specs.Queues.{Queued, is_at, at_place}
use Rattle.apply_queue.proofs.Firsts.{nobody, somebody, fields_of}
use Rattle.apply_queue.proofs.queue.Queue.work.Goals as goal

pub returns-in_err-entry : goal.returns-in_err-entry
returns-in_err-entry c =
    rw (c.from_residual.ensures, ← c.self.view_is)
    (nobody (is_at c.args.place) c.self.inside.entries.items c.index_of.result c.index_of.ensures
    (λ less. true≢false (sym (c.in_err-entry.ensures.variant.1 (omega (arith, less, c.self.inside.entries.ok.0))))))

pub returns : goal.returns
returns c =
    let inside : c.index_of.result < length c.self.inside.entries.items = omega (arith, c.in_ok-entry.ensures.variant.0 refl, c.self.inside.entries.ok.0) in (
      c.in_ok-entry.entry.now.mark,
      ap (λ qs. at_place qs c.args.place) (sym c.self.view_is)
          ∙ (somebody (is_at c.args.place) c.self.inside.entries.items c.index_of.result c.in_ok-entry.entry.now c.index_of.ensures inside c.in_ok-entry.ensures.lookup
          ∙ ap (λ (q : Queued). Some q) (fields_of c.in_ok-entry.entry.now c.work.result.now.place c.work.result.now.gtid c.work.result.now.body c.in_ok-entry.entry.now.mark c.work.ensures.0 c.work.ensures.1 c.work.ensures.2 refl)),
    )
