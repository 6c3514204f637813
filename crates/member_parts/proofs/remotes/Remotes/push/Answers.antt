-- A place above the last one is above all.
use Rattle.std.proofs.Common.{List, Some, ap, sym, ◌∙◌}
use Rattle.std.proofs.lemmas.Bool.{leb-true}
use Rattle.apply_queue.specs.Queues.{Queued, is_above}
use Rattle.apply_queue.specs.Following.{waiting_at}
use Rattle.member_parts.specs.Remote.{free_from}
use Rattle.member_parts.proofs.Queues.{more_above, put_above}
use Rattle.member_parts.proofs.remotes.Remotes.push.Goals as goal

pub push-requires-clause-above : goal.push-requires-clause-above
push-requires-clause-above c = more_above c.self.inside.queue (free_from c.self.inside.last) c.args.work.place (leb-true (free_from c.self.inside.last) c.args.work.place (sym c.if-not-is_above_last.ensures)) c.self.invariant

pub invariant_of-self-2 : goal.invariant_of-self-2
invariant_of-self-2 c =
    (let above = more_above c.self.inside.queue (free_from c.self.inside.last) c.args.work.place (leb-true (free_from c.self.inside.last) c.args.work.place (sym c.if-not-is_above_last.ensures)) c.self.invariant in
    ap (λ (qs : List Queued). is_above qs (free_from (Some c.args.work.place))) c.in_ok-push.ensures.ok
    ∙ put_above c.self.inside.queue (waiting_at c.args.work.place c.args.work.gtid c.args.work.body) above)
