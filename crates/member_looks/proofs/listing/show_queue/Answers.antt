use Rattle.std.proofs.Common.{map, sym, ap, ◌∙◌}
use Rattle.group_rules.specs.declared.said.Look.TheVariants.{Queue}
use Rattle.apply_queue.specs.Queues.{shown}
use Rattle.apply_queue.proofs.Fronts.{shows_queue}
use Rattle.member_parts.specs.declared.parts.MemberParts.{MemberParts}
use Rattle.member_looks.proofs.listing.show_queue.Goals as goal

pub returns : goal.returns
returns c = λ base a st.
    ap (λ i. Queue i c.in_ok-places.field-0) (c.inc.ensures base a st)
    ∙ (ap (Queue a.me.inc) (c.in_ok-places.ensures ∙ ap (map shown) (c.queue.ensures ∙ ap (λ (p : MemberParts). p.remotes.queue) c.parts.ensures))
    ∙ sym (shows_queue a c.args.moment.now.parts.remotes.queue st.rest.parts.queue))
