-- One more, or one again.
use Rattle.std.proofs.Common.{Some, option_copied, ap, sym, ◌∙◌}
use Rattle.group_world.proofs.Listed.{lists_again, lists_new, not_there, same_server}
use Rattle.group_world.proofs.Results.{on_ok}
use Rattle.group_world.proofs.stage.Stage.enlist.Goals as goal

pub declare-requires : goal.declare-requires
declare-requires c = not_there c.args.server.number c.args.self.now.servers (sym c.get.ensures ∙ ap option_copied c.in-None.is)

pub returns-in-None-clause-listed : goal.returns-in-None-clause-listed
returns-in-None-clause-listed c = on_ok c.declare.result c.declare.ensures.ok (λ h ss s r e k. h ∙ lists_new ss c.args.self.now.servers s c.args.server e k)

pub returns-then-eq-clause-listed : goal.returns-then-eq-clause-listed
returns-then-eq-clause-listed c ss s r e k = lists_again ss c.args.self.now.servers s c.args.server r e k (sym c.get.ensures ∙ (ap option_copied c.in-Some.is ∙ ap Some (same_server c.in-Some.there.now c.args.server (sym c.eq.ensures ∙ c.if-eq.true))))
