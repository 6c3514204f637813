-- A result is taken as the rules have it.
use Rattle.std.proofs.Common.{Some, None}
use Rattle.member_parts.specs.declared.parts.MemberParts.{MemberParts}
use Rattle.member_parts.proofs.Committed.{done_out, refused_out, result_as, stands_done, sure_out}
use Rattle.member_parts.proofs.parts.MemberParts.done.Goals as goal

pub returns-clause-ok : goal.returns-clause-ok
returns-clause-ok c =
    (let x : MemberParts = c.args.self.now in
    done_out c.done.result _ _ (λ h s me l f. stands_done s me l c.args.done.place c.args.done.body c.args.done.changes c.args.done.items x (record x { remotes = c.done.new.self }) h f) c.done.ensures.ok)

pub returns-clause-taken : goal.returns-clause-taken
returns-clause-taken c = done_out c.done.result _ _ (λ h a f. result_as a c.args.done.place c.args.done.body None c.args.self.now h.0 f) c.done.ensures.ok

pub returns-clause-refused : goal.returns-clause-refused
returns-clause-refused c = refused_out c.done.result _ _ (λ e h a f. result_as a c.args.done.place c.args.done.body (Some e) c.args.self.now h f) c.done.ensures.refused

pub returns-clause-sure : goal.returns-clause-sure
returns-clause-sure c = sure_out c.done.result _ c.done.ensures.refused
