-- Each part begins with the founders.
use Rattle.std.proofs.Common.{ap, ◌∙◌, List}
use Rattle.gr_ids.specs.declared.names.Inc.{Inc}
use Rattle.failure_events.specs.Watching.{first_watch}
use Rattle.member_parts.proofs.Begun.{stands_founding}
use Rattle.member_parts.specs.declared.parts.MemberParts.{MemberParts}
use Rattle.member_parts.proofs.parts.MemberParts.founded.Goals as goal

pub returns : goal.returns
returns c =
    let x : MemberParts = record {
      list = c.in_ok-founded.field-0;
      watch = c.in_ok-new.field-0;
      donor = c.new-2.result;
      backlog = c.new-3.result;
      remotes = c.new-4.result;
      own = c.new-5.result;
      acks = c.new-6.result;
      required = c.new-7.result;
      sent = c.new-8.result;
      waits = c.new-9.result;
    } in
    stands_founding (record { limits = c.args.limits; mode = c.args.mode; founders = c.args.founders.now }) c.args.me x c.in_ok-founded.ensures
    (c.in_ok-new.ensures ∙ ap (λ (is : List Inc). first_watch c.args.me c.args.limits is) (c.deref.ensures.value ∙ c.in_ok-members.ensures)) c.new-2.ensures
    (record { backlog = c.new-3.ensures; remotes = c.new-4.ensures; own = c.new-5.ensures; acks = c.new-6.ensures; required = c.new-7.ensures; sent = c.new-8.ensures; waits = c.new-9.ensures })
