-- One transaction more; and then all.
use Rattle.std.proofs.Common.{◌∙◌, subst, sym}
use Rattle.row_store.proofs.Folds.{nil_of}
use Rattle.kept_server.specs.Keeping.{KeptFor}
use Rattle.kept_server.specs.Redoing.{LeadTo, committing}
use Rattle.kept_server.proofs.kept.KeptServer.redo.Goals as goal

pub loop-one-init : goal.loop-one-init
loop-one-init c = λ y z h a. (y, h, subst (λ gs. LeadTo y gs z) (sym c.into_iter-one-iterator.ensures.into_iter_gives.0) a)

pub loop-one-preserved : goal.loop-one-preserved
loop-one-preserved c = λ y z h a.
    let (w, kept, leads) = c.loop-one.invariant y z h a in
    let (d, is, may, more) = subst (λ gs. LeadTo w gs z) c.in-Some.ensures.steps.0 leads in
    (committing w d, c.in_ok-redo_one.ensures w d is may kept, more)

pub returns : goal.returns
returns c = λ y z h a.
    let left = c.loop-one.one-iterator.rest in
    let (w, kept, leads) = c.loop-one.invariant y z h a in
    subst (λ x. KeptFor x c.loop-one.kept) (subst (λ gs. LeadTo w gs z) (nil_of left.items (sym left.ok.0 ∙ c.in-None.ensures.steps.0)) leads) kept
