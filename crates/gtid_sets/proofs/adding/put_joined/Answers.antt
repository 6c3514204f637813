use Rattle.std.proofs.Common.{◌∙◌, arith}
use Rattle.gtid_sets.proofs.PutLemmas.{put_last, put_before, put_joining}
use Rattle.gtid_sets.proofs.adding.put_joined.Goals as goal

pub returns-then-at-len : goal.returns-then-at-len
returns-then-at-len c = put_last c.args.runs.now.items c.args.at c.args.run (omega (arith, c.requires)) (omega (arith, c.if-at-len.true))

pub returns-then-is_before : goal.returns-then-is_before
returns-then-is_before c = put_before c.args.runs.now.items c.args.at c.index.result.now c.args.run c.index.ensures (omega (arith, c.if-at-len.false)) c.if-is_before.ensures

pub returns : goal.returns
returns c = c.remove.ensures.items ∙ put_joining c.args.runs.now.items c.args.at c.index.result.now c.args.run c.joined.result c.index.ensures (omega (arith, c.if-at-len.false)) c.if-is_before.ensures c.joined.ensures
