use Rattle.std.proofs.Common.{ℕ, List, [], ◌&&◌, ap, option_copied, Bor}
use Rattle.byte_forms.specs.Fields.{field}
use Rattle.key_items.specs.Floors.{passes}
use Rattle.key_items.specs.Spelling.{begins_key, is_between, length_where}
use Rattle.key_items.proofs.Above.{length-same}
use Rattle.byte_forms.proofs.ChainLemmas.{if_takes, if_faults}
use Rattle.key_items.proofs.spelling.take_key_length.Goals as goal

pub returns-clause-ok : goal.returns-clause-ok
returns-clause-ok c =
    if_takes (λ (m : ℕ). m) (length_where (λ m. is_between 1 255 m && passes c.key_floor-itself.result.0.now c.key_floor-itself.result.1 m [])) (length_where (λ m. is_between 1 255 m && begins_key (option_copied c.args.before) c.args.table.now m [])) c.args.from.now c.take_length.new.from c.take_length.result (length-same (λ m. is_between 1 255 m && begins_key (option_copied c.args.before) c.args.table.now m []) (λ m. is_between 1 255 m && passes c.key_floor-itself.result.0.now c.key_floor-itself.result.1 m []) (λ m. ap (λ t. is_between 1 255 m && t) (c.key_floor-itself.ensures m [])) c.args.from.now.left) c.take_length.ensures.ok

pub returns-clause-misfit : goal.returns-clause-misfit
returns-clause-misfit c =
    if_faults (length_where (λ m. is_between 1 255 m && passes c.key_floor-itself.result.0.now c.key_floor-itself.result.1 m [])) (length_where (λ m. is_between 1 255 m && begins_key (option_copied c.args.before) c.args.table.now m [])) c.args.from.now c.take_length.result (length-same (λ m. is_between 1 255 m && begins_key (option_copied c.args.before) c.args.table.now m []) (λ m. is_between 1 255 m && passes c.key_floor-itself.result.0.now c.key_floor-itself.result.1 m []) (λ m. ap (λ t. is_between 1 255 m && t) (c.key_floor-itself.ensures m [])) c.args.from.now.left) c.take_length.ensures.misfit
