-- An answer, and what is done besides.
use Rattle.std.proofs.Common.{◌≡◌, ◌++◌, ◌∷◌, ℕ, Bool, true, false, [], refl, ap, ◌∙◌}
use Rattle.group_rules.specs.declared.answers.Answer.{Answer}
use Rattle.group_rules.specs.declared.marks.Mark.TheVariants.{Answered as AnsweredMark}
use Rattle.group_rules.specs.declared.requests.Request.{Request}
use Rattle.group_rules.specs.Events.{Answered, Changed, Life}
use Rattle.group_rules.specs.Member.{Member, last_answer}
use Rattle.local_sessions.specs.declared.commit_step.CommitStep.TheVariants.{Said}
use Rattle.local_sessions.specs.Acting.{done_by}
use Rattle.local_sessions.specs.Replies.{Asks, Deed, Ends, Holds, Nothing, Writing}
use Rattle.member_moment.specs.declared.moment.Moment.{Moment}
use Rattle.local_sessions.specs.Telling.{Fits}
use Rattle.member_moment.specs.Standing.{RestFor}
use Rattle.member_moment.proofs.Called.{Answers}
use Rattle.member_moment.proofs.Pushed.{rest_said}

pub answers_last : (x y : Moment) (s : ℕ) (w : Answer) (b : Bool) → b ≡ true
    → ((base : Life) (a : Member) → RestFor base a x → RestFor base (last_answer s w a) y) → Answers s b w x y
answers_last x y s w b e f = go
  where
    go : (base : Life) (a : Member) (r : Request) (d : Deed) → Fits b w d → RestFor base a x → RestFor base (done_by s r (Said w) d a) y
    go base a r Nothing h k = absurd cc
    go base a r Ends h k = f base a k
    go base a r (Holds after state) h k = absurd h
    go base a r (Writing c) h k = absurd (let g : b ≡ false = h.0 in cc)
    go base a r Asks h k = absurd h

pub answers_on : (x y : Moment) (s : ℕ) (w : Answer) (b : Bool) → b ≡ false → y ≡ record x { marks = y.marks } → y.marks.items ≡ x.marks.items ++ AnsweredMark s w ∷ []
    → Answers s b w x y
answers_on x y s w b e m k = go
  where
    go : (base : Life) (a : Member) (r : Request) (d : Deed) → Fits b w d → RestFor base a x → RestFor base (done_by s r (Said w) d a) y
    go base a r Nothing h q = rest_said base a x (Answered s w) y m k (record { parts = refl; own = refl; joining = refl; range = refl; ranged = tt; committed = refl }) q
    go base a r Ends h q = absurd cc
    go base a r (Holds after state) h q = absurd h
    go base a r (Writing c) h q = rest_said base a x (Changed s c) y m (k ∙ ap (λ v. x.marks.items ++ AnsweredMark s v ∷ []) h.1) (record { parts = refl; own = refl; joining = refl; range = refl; ranged = tt; committed = refl }) q
    go base a r Asks h q = absurd h
