-- A part more.
use Rattle.std.proofs.Common.{◌∙◌, subst, sym}
use Rattle.std.specs.List.{AllByRecursion}
use Rattle.txn_forms.specs.Bodies.{IsPart}
use Rattle.member_messages.proofs.Cuts.{cut_all, cut_more}
use Rattle.member_messages.proofs.Fits.{cut_fits}
use Rattle.member_messages.proofs.cutting.cut_body.Goals as goal

pub loop-index-preserved : goal.loop-index-preserved
loop-index-preserved c =
    cut_more c.loop-index.index c.div_ceil-count.result c.min.result c.loop-index.rest.now c.in_ok-of.field-0 c.split_at.result.1.now c.loop-index.parts.items c.push.new.self.items _
    c.loop-index-test.true c.min.ensures (c.in_ok-of.ensures ∙ c.split_at.ensures.front) c.split_at.ensures.back c.in_ok-push.ensures.items c.loop-index.invariant

pub returns-clause-fit : goal.returns-clause-fit
returns-clause-fit c = λ h.
    subst (AllByRecursion IsPart)
    (sym (cut_all c.loop-index.index c.div_ceil-count.result c.args.body.now c.loop-index.rest.now c.loop-index.parts.items c.loop-index-test.false c.div_ceil-count.ensures c.loop-index.invariant))
    (cut_fits c.args.body.now h c.requires)
