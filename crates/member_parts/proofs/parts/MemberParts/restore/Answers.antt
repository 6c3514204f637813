-- What was given is the joiner's own.
use Rattle.std.proofs.Common.{refl}
use Rattle.member_parts.specs.declared.parts.MemberParts.{MemberParts}
use Rattle.member_parts.proofs.Begun.{stands_give}
use Rattle.member_parts.proofs.parts.MemberParts.restore.Goals as goal

pub returns : goal.returns
returns c = λ s l g cs i ea et eu ez t rs b f.
    (let x : MemberParts = c.args.self.now in
    let y : MemberParts = record x { list = c.restore-2.new.self; donor = c.keep_all.new.donor; backlog = c.in_ok-self-2.field-0; remotes = c.in_ok-self.field-0 } in
    stands_give s c.args.me l g cs c.args.at c.args.txns.now c.args.certified.now c.args.executed.now x y f i ea et eu ez t rs b
    (record { list = c.in_ok-restore.ensures.ok; watch = refl; donor = c.in_ok-keep_all.ensures; backlog = c.in_ok-self-2.ensures; remotes = c.in_ok-self.ensures; own = refl; acks = refl; required = refl; sent = refl; waits = refl }))
