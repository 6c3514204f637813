-- Nobody is watched, and what was committed is known.
use Rattle.std.proofs.Common.{[], ap, sym, ◌∙◌}
use Rattle.gr_ids.specs.declared.limits.Limits.{Limits}
use Rattle.failure_events.specs.Watching.{first_watch}
use Rattle.donor_recovery.specs.Donating.{Donating}
use Rattle.member_parts.specs.Entering.{all_back}
use Rattle.member_parts.proofs.Begun.{stands_start}
use Rattle.member_parts.specs.declared.parts.MemberParts.{MemberParts}
use Rattle.member_parts.proofs.parts.MemberParts.joining.Goals as goal

pub returns : goal.returns
returns c = λ s y e n k.
    (let with : Donating → Donating = λ d. record d { certified = all_back d.certified c.args.committed.now } in
    let x : MemberParts = record {
      list = c.joining.result;
      watch = c.in_ok-new.field-0;
      donor = c.keep_back.new.donor;
      backlog = c.new-2.result;
      remotes = c.new-3.result;
      own = c.new-4.result;
      acks = c.new-5.result;
      required = c.new-6.result;
      sent = c.new-7.result;
      waits = c.new-8.result;
    } in
    stands_start s c.args.me y c.args.committed.now x (c.joining.ensures s y e)
    (c.in_ok-new.ensures ∙ ap (λ (x : Limits). first_watch c.args.me x []) (sym e)) (c.in_ok-keep_back.ensures ∙ ap with c.new-donor.ensures) n
    (record { backlog = c.new-2.ensures; remotes = c.new-3.ensures; own = c.new-4.ensures; acks = c.new-5.ensures; required = c.new-6.ensures; sent = c.new-7.ensures; waits = c.new-8.ensures }) k)
