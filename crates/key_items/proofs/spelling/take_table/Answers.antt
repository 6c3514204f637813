use Rattle.std.proofs.Common.{ℕ, List, [], ◌&&◌, ap, option_copied, Bor}
use Rattle.byte_forms.specs.Fields.{field}
use Rattle.key_items.specs.Floors.{passes}
use Rattle.key_items.specs.Spelling.{begins_table, is_between, length_where}
use Rattle.key_items.proofs.Above.{field-same}
use Rattle.byte_forms.proofs.ChainLemmas.{if_takes, if_faults}
use Rattle.key_items.proofs.spelling.take_table.Goals as goal

pub returns-clause-ok : goal.returns-clause-ok
returns-clause-ok c =
    if_takes (λ (s : Bor (List ℕ)). s.now) (field (passes c.table_floor-itself.result.0.now c.table_floor-itself.result.1 c.args.n) c.args.n) (field (begins_table (option_copied c.args.before) c.args.n) c.args.n) c.args.from.now c.take_above.new.from c.take_above.result (field-same (begins_table (option_copied c.args.before) c.args.n) (passes c.table_floor-itself.result.0.now c.table_floor-itself.result.1 c.args.n) (λ xs. c.table_floor-itself.ensures c.args.n xs) c.args.n c.args.from.now.left) c.take_above.ensures.ok

pub returns-clause-misfit : goal.returns-clause-misfit
returns-clause-misfit c =
    if_faults (field (passes c.table_floor-itself.result.0.now c.table_floor-itself.result.1 c.args.n) c.args.n) (field (begins_table (option_copied c.args.before) c.args.n) c.args.n) c.args.from.now c.take_above.result (field-same (begins_table (option_copied c.args.before) c.args.n) (passes c.table_floor-itself.result.0.now c.table_floor-itself.result.1 c.args.n) (λ xs. c.table_floor-itself.ensures c.args.n xs) c.args.n c.args.from.now.left) c.take_above.ensures.misfit
