-- The first one that waits is handed out.
use Rattle.std.proofs.Common.{◌<◌, Some, not, length, ap, sym, refl, ◌∙◌, arith}
use Rattle.std.proofs.lemmas.Bool.{true≢false}
use Rattle.apply_queue.specs.Queues.{Queued, Waiting, Out, is_waiting, first_waiting}
use Rattle.apply_queue.proofs.Firsts.{nobody, somebody, changed_there, set_length, fields_of, waits_at, prefix_passes}
use Rattle.apply_queue.proofs.Cursor.{after_change}
use Rattle.apply_queue.proofs.queue.Queue.next_work.Goals as goal

pub returns-in_default-clause-handed : goal.returns-in_default-clause-handed
returns-in_default-clause-handed c = (
  ap first_waiting (sym c.self.view_is)
      ∙ nobody is_waiting c.self.inside.entries.items c.first_waiting_from-at.result c.first_waiting_from-at.ensures
      (λ less. true≢false (sym (c.in_default.ensures.variant.1 (omega (arith, less, c.self.inside.entries.ok.0))))),
  c.self.view_is,
)

within : (c : goal.After-self-3-1) → c.first_waiting_from-at.result < length c.self.inside.entries.items
within c = omega (arith, c.in-Some.ensures.variant.0 refl, c.self.inside.entries.ok.0)

pub invariant_of-self-2 : goal.invariant_of-self-2
invariant_of-self-2 c = (
  omega (arith, set_length c.self.inside.entries.items c.first_waiting_from-at.result c.hand_out.new.self, within c),
  after_change (λ (q : Queued). not (is_waiting q)) c.self.inside.entries.items c.first_waiting_from-at.result c.first_waiting_from-at.result c.hand_out.new.self
      (ap (λ q. not (is_waiting q)) c.hand_out.ensures)
      (rw c.first_waiting_from-at.ensures (prefix_passes (λ (q : Queued). not (is_waiting q)) c.self.inside.entries.items)),
)

pub returns-clause-handed : goal.returns-clause-handed
returns-clause-handed c =
    let first = somebody is_waiting c.self.inside.entries.items c.first_waiting_from-at.result c.in-Some.entry.now c.first_waiting_from-at.ensures (within c) c.in-Some.ensures.value in (
      ap first_waiting (sym c.self.view_is)
          ∙ (first ∙ ap (λ (q : Queued). Some q) (fields_of c.in-Some.entry.now c.in_ok-work.work.place c.in_ok-work.work.gtid c.in_ok-work.work.body Waiting
          c.in_ok-work.ensures.0 c.in_ok-work.ensures.1 c.in_ok-work.ensures.2 (waits_at c.self.inside.entries.items c.in-Some.entry.now first))),
      rw (← c.self.view_is, c.hand_out.ensures)
          (sym (changed_there is_waiting (λ (q : Queued). record q { mark = Out }) c.self.inside.entries.items c.first_waiting_from-at.result c.in-Some.entry.now c.first_waiting_from-at.ensures (within c) c.in-Some.ensures.value)),
    )
