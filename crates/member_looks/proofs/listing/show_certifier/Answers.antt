use Rattle.std.proofs.Common.{map, ap, ◌∙◌}
use Rattle.group_rules.specs.declared.said.Look.TheVariants.{Certifier}
use Rattle.member_looks.specs.Listing.{item_writer}
use Rattle.member_looks.proofs.Seen.{certified_items, list_is}
use Rattle.member_looks.proofs.listing.show_certifier.Goals as goal

pub returns : goal.returns
returns c = λ base a st.
    let l = list_is base a c.args.moment.now st c.parts.result.now c.list.result.now c.parts.ensures c.list.ensures in
    ap (λ i. Certifier i c.in_ok-item_writers.field-0) (c.inc.ensures base a st)
    ∙ ap (Certifier a.me.inc) (c.in_ok-item_writers.ensures ∙ ap (map item_writer) (c.in_ok-items.ensures ∙ ap certified_items (c.certifier.ensures ∙ l.certifier)))
