use Rattle.std.proofs.Common.{◌<◌, length, sym, ◌∙◌, arith}
use Rattle.std.proofs.lemmas.Bool.Decides.{nat_tests}
use Rattle.gtid_sets.proofs.SourcePacks.{text_whole}
use Rattle.gtid_sets.proofs.text.text_of.Goals as goal

pub returns : goal.returns
returns c =
    let some : 0 < length c.args.runs.now = (let e = sym c.is_empty.ensures ∙ c.if-is_empty.false in grind (arith, nat_tests, e)) in
    c.in_ok-put_others.ensures ∙ text_whole c.args.runs.now c.len_of_source-n.result _ _ _ some c.len_of_source-n.ensures.count c.new-text.ensures.items c.in_ok-put_source.ensures
