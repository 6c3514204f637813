-- A joiner's parts are those of its start.
use Rattle.std.proofs.Common.{[], ◌∷◌, ◌++◌, refl, sym, subst, ap, ◌∙◌}
use Rattle.std.specs.List.{AllByRecursion}
use Rattle.gr_ids.specs.declared.limits.Limits.{Limits}
use Rattle.paxos_forms.specs.declared.message.Message.{Message}
use Rattle.node_rules.specs.Node.{joiner}
use Rattle.member_moment.specs.Founding.{IsKeepable}
use Rattle.member_moment.proofs.Founded.{all_givable, started}
use Rattle.member_moment.proofs.moment.Moment.start.Goals as goal

pub returns : goal.returns
returns c = λ s y good same st.
    started s c.args.me y c.args.contact _ good c.requires.joiner c.requires.contact
    (all_givable y.committed (subst (AllByRecursion IsKeepable) st.committed (c.are_keepable.ensures c.if-not-are_keepable.false)))
    refl refl (sym same)
    (c.joiner.ensures ∙ ap (λ (l : Limits). joiner (record { founders = []; horizon = l.horizon }) c.args.me.inc) (sym same))
    (c.in_ok-parts.ensures s y same st.committed st.canonical)
    (c.joining-2.ensures s c.args.me y c.args.contact refl st.executed st.canonical st.rows st.gtids)
    c.new.ensures c.new-2.ensures c.new-3.ensures.items c.new-4.ensures.items
    (c.in_ok-push.ensures.items ∙ (ap (λ (ms : _). ms ++ c.add_offered.result ∷ []) c.new-sent.ensures.items ∙ ap (λ (m : Message). m ∷ []) c.add_offered.ensures))
