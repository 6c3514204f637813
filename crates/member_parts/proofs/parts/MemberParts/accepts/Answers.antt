-- A result is taken where a transaction is queued for it.
use Rattle.std.proofs.Common.{Some}
use Rattle.member_parts.proofs.Committed.{accepted_out, refused_as, result_as}
use Rattle.member_parts.proofs.parts.MemberParts.accepts.Goals as goal

pub returns-clause-accepted : goal.returns-clause-accepted
returns-clause-accepted c = accepted_out c.accepts.result c.args.self.now c.args.done.now c.accepts.ensures.ok c.accepts.ensures.gtid

pub returns-clause-refused : goal.returns-clause-refused
returns-clause-refused c = refused_as c.accepts.result _ _ (λ e h a f. result_as a c.args.done.now.place c.args.done.now.body (Some e) c.args.self.now h f) c.accepts.ensures.refused
