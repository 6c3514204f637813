-- The tables begin it, and the mark tells it.
use Rattle.std.proofs.Common.{refl, ap, ◌∙◌, [], ◌∷◌, ◌++◌}
use Rattle.group_rules.specs.Events.{Begun}
use Rattle.group_rules.specs.Life.{executed}
use Rattle.group_rules.specs.declared.marks.Mark.TheVariants.{Answered as AnsweredMark}
use Rattle.member_moment.proofs.Aside.{passed}
use Rattle.member_moment.proofs.moment.Moment.begun.Goals as goal

pub returns-clause-begun : goal.returns-clause-begun
returns-clause-begun c = λ base a h b.
    let r = c.args.released.now in
    record {
      aside = passed base a c.args.self.now (record c.args.self.now { tables = c.begun.new.self; marks = c.push.new.self }) refl (Begun r.session (executed a.life) r.sync)
          (c.in_ok-push.ensures.items ∙ ap (λ v. c.args.self.now.marks.items ++ AnsweredMark r.session v ∷ []) (c.in_ok-answer.ensures.answer a b.tables)) (record { own = refl; ranged = tt; committed = refl }) refl refl b.aside;
      tables = c.in_ok-answer.ensures.begun a b.tables;
    }
