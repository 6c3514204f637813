use Rattle.std.proofs.Common.{ap, ◌∙◌}
use Rattle.group_rules.specs.declared.said.Look.TheVariants.{Rows}
use Rattle.member_looks.proofs.Rows.{rows_are}
use Rattle.member_looks.proofs.Seen.{stored_rows}
use Rattle.member_looks.proofs.listing.show_rows.Goals as goal

pub returns : goal.returns
returns c = λ base a st.
    let rows = stored_rows base a c.args.moment.now st c.tables.result.now c.tables-2.result.now c.tables.ensures c.tables-2.ensures in
    ap (λ i. Rows i c.in_ok-rows.field-0) (c.inc.ensures base a st)
    ∙ ap (Rows a.me.inc) (rows_are a.life c.tables-2.result.now.store c.in_ok-rows.field-0 rows c.in_ok-rows.ensures.ascend c.in_ok-rows.ensures.listed)
