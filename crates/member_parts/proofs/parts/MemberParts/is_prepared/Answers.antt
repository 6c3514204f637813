-- By its origin.
use Rattle.std.proofs.Common.{map, ap, ◌∙◌}
use Rattle.apply_queue.specs.Queues.{shown}
use Rattle.member_parts.proofs.Told.{prepared_other, prepared_own}
use Rattle.member_parts.proofs.parts.MemberParts.is_prepared.Goals as goal

pub returns-then-is_mine : goal.returns-then-is_mine
returns-then-is_mine c = λ s l e h f. prepared_own c.args.me l e c.args.one.now c.if-is_mine.ensures h

pub returns : goal.returns
returns c = λ s l e h f.
    prepared_other s c.args.me l e c.args.one.now c.args.self.now c.as_slice.result.now c.all_done_to.result c.all_done_to.ensures (c.as_slice.ensures ∙ (c.in_ok-places.ensures ∙ ap (map shown) c.queue.ensures)) c.if-is_mine.ensures h f
