-- The view and the watch are those of the Welcome.
use Rattle.std.proofs.Common.{List, map, ap, sym, ◌∙◌}
use Rattle.gr_ids.specs.declared.names.Inc.{Inc}
use Rattle.gr_ids.specs.declared.limits.Limits.{Limits}
use Rattle.paxos_forms.specs.declared.welcome.WelcomeMember.{WelcomeMember}
use Rattle.failure_events.specs.Watching.{first_watch}
use Rattle.member_parts.proofs.Begun.{stands_welcome}
use Rattle.member_parts.proofs.parts.MemberParts.enter.Goals as goal

pub returns : goal.returns
returns c = λ s l e n f.
    (let told : List WelcomeMember → List Inc = λ ms. map {A = WelcomeMember} (λ m. m.joiner.inc) ms in
    stands_welcome s c.args.me l c.args.welcome.now c.args.self.now c.enter.new.self c.in_ok-self.field-0 f c.requires.above n c.in_ok-enter.ensures.ok
    (c.in_ok-self.ensures ∙ (ap (λ (is : List Inc). first_watch c.args.me c.args.limits is) (c.deref.ensures.value ∙ (c.in_ok-members.ensures ∙ ap told c.as_slice.ensures)) ∙ ap (λ (x : Limits). first_watch c.args.me x (told c.args.welcome.now.members)) (sym e))))
