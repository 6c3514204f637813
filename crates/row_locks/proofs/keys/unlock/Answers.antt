-- The key is left where the session holds it.
use Rattle.std.proofs.Common.{◌≡◌, sym, ◌∙◌}
use Rattle.row_locks.proofs.KeyReads.{reads, unlocked, kept}
use Rattle.row_locks.proofs.keys.unlock.Goals as goal

pub returns-then-is_session : goal.returns-then-is_session
returns-then-is_session c j =
    let there = sym (reads c.args.keys.now.entries c.args.item.now) ∙ (sym c.session_of_key.ensures ∙ c.is_session.ensures.yes c.if-is_session.true) in
    unlocked c.args.keys.now.entries c.remove.new.self.entries c.args.item.now c.args.session there c.remove.ensures.updates.0 j

pub returns-else-is_session : goal.returns-else-is_session
returns-else-is_session c j =
    kept c.args.keys.now.entries c.args.item.now c.args.session
    (λ there. c.is_session.ensures.no c.if-is_session.false (c.session_of_key.ensures ∙ (reads c.args.keys.now.entries c.args.item.now ∙ there))) j
