-- Killed sessions stay where they are.
use Rattle.std.proofs.Common.{map, ap, ◌∙◌, arith}
use Rattle.std.proofs.lemmas.List.{with_items_is}
use Rattle.local_sessions.specs.Standing.{ascend}
use Rattle.local_sessions.specs.Others.{killed_by}
use Rattle.local_sessions.proofs.Order.{ascend_map, killed_keeps}
use Rattle.local_sessions.proofs.sessions.Sessions.done_takes.Goals as goal

pub invariant_of-self : goal.invariant_of-self
invariant_of-self c =
    ap ascend (with_items_is c.self.inside.list c.kill_losers.new.list (omega (arith, c.kill_losers.auto.list, c.deref_mut.ensures.len)) ∙ (c.kill_losers.ensures ∙ ap (map (killed_by c.args.gtid c.as_slice-2.result.now)) c.deref_mut.ensures.value))
    ∙ (ascend_map (killed_by c.args.gtid c.as_slice-2.result.now) c.self.inside.list.items (killed_keeps c.args.gtid c.as_slice-2.result.now) ∙ c.self.invariant)
