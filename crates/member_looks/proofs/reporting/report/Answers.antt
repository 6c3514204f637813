use Rattle.std.proofs.Common.{length, ap, ◌∙◌}
use Rattle.group_rules.specs.View.{View}
use Rattle.member_looks.proofs.Rows.{rows_are}
use Rattle.member_looks.proofs.Seen.{list_is, report_same, stored_rows}
use Rattle.member_looks.proofs.reporting.report.Goals as goal

pub returns : goal.returns
returns c = λ base a st.
    let l = list_is base a c.args.moment.now st c.parts.result.now c.list-list.result.now c.parts.ensures c.list-list.ensures in
    let kept = stored_rows base a c.args.moment.now st c.tables.result.now c.tables-2.result.now c.tables.ensures c.tables-2.ensures in
    let rows = rows_are a.life c.tables-2.result.now.store c.in_ok-rows.rows kept c.in_ok-rows.ensures.ascend c.in_ok-rows.ensures.listed in
    report_same _ _ _ _ _ _ _ _ _ _ _ _
    (c.inc.ensures base a st) (c.state.ensures base a st) (c.number.ensures ∙ ap (λ (v : View). v.number) (c.view.ensures ∙ l.view)) (c.taken.ensures ∙ l.taken)
    (c.in_ok-try_copy.ensures ∙ c.executed.ensures base a st) (ap length (c.as_slice.ensures ∙ rows))
