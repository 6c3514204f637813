-- One run more is forgotten; at the end all are.
use Rattle.std.proofs.Common.{sym, subst}
use Rattle.gtid_sets.specs.Canonical.{IsCanonical}
use Rattle.gtid_sets.specs.Sets.{Gtids}
use Rattle.certifier.proofs.Forgotten.{shedding_begun, shedding_next, shedding_end, run_at}
use Rattle.certifier.proofs.kept.KeptItems.forget.Goals as goal

pub loop-run-init : goal.loop-run-init
loop-run-init c = shedding_begun c.runs-runs.result.now c.self.inside.writers.entries c.self.inside.written.entries c.self.invariant

pub forget_run-requires-clause-run : goal.forget_run-requires-clause-run
forget_run-requires-clause-run c = run_at c.runs-runs.result.now c.loop-run.run-index _ (subst (λ (s : Gtids). IsCanonical s) (sym c.runs-runs.ensures.runs) c.runs-runs.ensures.canonical) c.loop-run-test.true

pub loop-run-preserved : goal.loop-run-preserved
loop-run-preserved c =
    shedding_next c.runs-runs.result.now c.self.inside.writers.entries c.loop-run.run-index c.loop-run.self-inside.writers.entries c.forget_run.new.writers.entries
    c.loop-run.self-inside.written.entries c.forget_run.new.written.entries _ c.loop-run-test.true c.forget_run.ensures.dropped c.forget_run.ensures.indexed c.loop-run.invariant

pub returns : goal.returns
returns c =
    rw (← c.self.view_is, ← c.runs-runs.ensures.runs) (shedding_end c.runs-runs.result.now c.self.inside.writers.entries c.loop-run.self-inside.writers.entries c.loop-run.run-index
    c.loop-run.self-inside.written.entries c.loop-run-test.false c.self.invariant.ordered c.loop-run.invariant)
