use Rattle.std.proofs.Common.{◌≡◌, ◌-◌, ◌≤◌, sym, ap, ◌∙◌, arith}
use Rattle.byte_forms.specs.Reads.{Got, Fault}
use Rattle.byte_forms.proofs.FieldLemmas.{word-whole, word-short}
use Rattle.byte_forms.proofs.cutter.Cutter.take_slice.Goals as goal

pub returns-then-self-n-clause-misfit : goal.returns-then-self-n-clause-misfit
returns-then-self-n-clause-misfit c =
    let none : 0 ≡ c.args.self.now.total - c.args.self.now.total = omega arith in
    record { fault = rw (← c.self.view_is) (word-short c.args.n _ c.if-self-n.true) ∙ ap Fault none; within = omega arith }

pub returns-clause-ok : goal.returns-clause-ok
returns-clause-ok c = record { value = rw (← c.self.view_is, c.split_at.ensures.front, c.split_at.ensures.back) (word-whole c.args.n _ c.if-self-n.false); whole = ap (λ cut. cut.total) c.self.view_is }
