use Rattle.std.proofs.Common.{◌≡◌, ℕ, ap, sym, option_copied}
use Rattle.byte_forms.specs.Unreads.{Breaks}
use Rattle.byte_forms.specs.Cuts.{FaultsAt}
use Rattle.byte_forms.specs.declared.unread.Unread.{Unread}
use Rattle.byte_forms.specs.declared.unread.Unread.TheVariants.{Misfit}
use Rattle.byte_forms.proofs.ChainLemmas.{Reached, reached, reached_on, reached_end, faults_there, breaks_there, err_is}
use Rattle.key_items.specs.Spelling.{next_item_after}
use Rattle.key_items.specs.declared.item.Item.{Item}
use Rattle.byte_forms.proofs.ChainLemmas.{takes_equal}
use Rattle.key_items.proofs.spelling.take_item_after.Goals as goal

pub returns-in_err-table_length-clause-misfit : goal.returns-in_err-table_length-clause-misfit
unfolding next_item_after
returns-in_err-table_length-clause-misfit c =
    let form = next_item_after (option_copied c.args.before) in
    let at0 = reached form c.args.from.now c.fork-ahead.result c.fork-ahead.ensures in
    err_is c.from_residual.result (Misfit c.in_err-table_length.field-0.0.at) (λ e. Breaks form c.args.from.now e) c.from_residual.ensures.1 (faults_there _ c.in_err-table_length.field-0.0.at at0 c.in_err-table_length.ensures.misfit)

pub returns-in_err-table-clause-misfit : goal.returns-in_err-table-clause-misfit
unfolding next_item_after
returns-in_err-table-clause-misfit c =
    let form = next_item_after (option_copied c.args.before) in
    let at0 = reached form c.args.from.now c.fork-ahead.result c.fork-ahead.ensures in
    let at1 = reached_on _ c.in_ok-table_length.table_length at0 c.in_ok-table_length.ensures.ok in
    err_is c.from_residual-in_err-table.result (Misfit c.in_err-table.field-0.0.at) (λ e. Breaks form c.args.from.now e) c.from_residual-in_err-table.ensures.1 (faults_there _ c.in_err-table.field-0.0.at at1 c.in_err-table.ensures.misfit)

pub returns-in_err-key_length-clause-misfit : goal.returns-in_err-key_length-clause-misfit
unfolding next_item_after
returns-in_err-key_length-clause-misfit c =
    let form = next_item_after (option_copied c.args.before) in
    let at0 = reached form c.args.from.now c.fork-ahead.result c.fork-ahead.ensures in
    let at1 = reached_on _ c.in_ok-table_length.table_length at0 c.in_ok-table_length.ensures.ok in
    let at2 = reached_on _ c.in_ok-table.table.now at1 c.in_ok-table.ensures.ok in
    err_is c.from_residual-in_err-key_length.result (Misfit c.in_err-key_length.field-0.0.at) (λ e. Breaks form c.args.from.now e) c.from_residual-in_err-key_length.ensures.1 (faults_there _ c.in_err-key_length.field-0.0.at at2 c.in_err-key_length.ensures.misfit)

pub returns-in_err-key-clause-misfit : goal.returns-in_err-key-clause-misfit
unfolding next_item_after
returns-in_err-key-clause-misfit c =
    let form = next_item_after (option_copied c.args.before) in
    let at0 = reached form c.args.from.now c.fork-ahead.result c.fork-ahead.ensures in
    let at1 = reached_on _ c.in_ok-table_length.table_length at0 c.in_ok-table_length.ensures.ok in
    let at2 = reached_on _ c.in_ok-table.table.now at1 c.in_ok-table.ensures.ok in
    let at3 = reached_on _ c.in_ok-key_length.key_length at2 c.in_ok-key_length.ensures.ok in
    err_is c.from_residual-in_err-key.result (Misfit c.in_err-key.field-0.0.at) (λ e. Breaks form c.args.from.now e) c.from_residual-in_err-key.ensures.1 (faults_there _ c.in_err-key.field-0.0.at at3 c.in_err-key.ensures.misfit)

pub returns-clause-ok : goal.returns-clause-ok
unfolding next_item_after
returns-clause-ok c =
    let form = next_item_after (option_copied c.args.before) in
    let at0 = reached form c.args.from.now c.fork-ahead.result c.fork-ahead.ensures in
    let at1 = reached_on _ c.in_ok-table_length.table_length at0 c.in_ok-table_length.ensures.ok in
    let at2 = reached_on _ c.in_ok-table.table.now at1 c.in_ok-table.ensures.ok in
    let at3 = reached_on _ c.in_ok-key_length.key_length at2 c.in_ok-key_length.ensures.ok in
    let at4 = reached_on _ c.in_ok-key.key.now at3 c.in_ok-key.ensures.ok in
    let read : Item = record { table = c.in_ok-table.table.now; key = c.in_ok-key.key.now } in
    let table : c.in_ok-of.field-0 ≡ c.in_ok-table.table.now = c.in_ok-of.ensures in
    let key : c.in_ok-of-2.field-0 ≡ c.in_ok-key.key.now = c.in_ok-of-2.ensures in
    let kept : Item = record { table = c.in_ok-of.field-0; key = c.in_ok-of-2.field-0 } in
    let same : read ≡ kept = (cc) in
    takes_equal form c.args.from.now read kept c.take_key.new.from same (reached_end read at4)
