use Rattle.std.proofs.Common.{ap, ◌∙◌, arith}
use Rattle.gtid_sets.specs.Places.{runs_before}
use Rattle.gtid_sets.proofs.Searching.{absent, looked}
use Rattle.gtid_sets.proofs.set.GtidSet.contains.Goals as goal

pub returns-then-at-len : goal.returns-then-at-len
returns-then-at-len c =
    rw (← c.self.view_is) (absent c.self.inside.runs.items c.args.gtid c.runs_before-at.result c.runs_before-at.ensures.uuid c.self.invariant (c.runs_before-at.ensures.place ∙ ap (λ s. runs_before s c.args.gtid) c.deref.ensures.value) (omega (arith, c.if-at-len.true)))

pub returns : goal.returns
returns c =
    rw (← c.self.view_is) (c.has.ensures ∙ looked c.self.inside.runs.items c.args.gtid c.runs_before-at.result c.index.result.now c.runs_before-at.ensures.uuid c.self.invariant (c.runs_before-at.ensures.place ∙ ap (λ s. runs_before s c.args.gtid) c.deref.ensures.value) c.index.ensures (omega (arith, c.runs_before-at.ensures.within, c.deref.ensures.len, c.if-at-len.false)))
