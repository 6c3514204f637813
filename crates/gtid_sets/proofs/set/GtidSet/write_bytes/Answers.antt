use Rattle.std.proofs.Common.{take, ap, ◌∙◌}
use Rattle.gtid_sets.proofs.set.GtidSet.write_bytes.Goals as goal

pub returns-in-Err-clause-err : goal.returns-in-Err-clause-err
returns-in-Err-clause-err c = c.truncate.ensures ∙ ap (λ n. take n c.put_set.new.to) c.len-len.ensures ∙ c.put_set.ensures.keeps
