-- Held begins that have reached their limits end one by one.
use Rattle.std.proofs.Common.{◌≡◌, ℕ, Option, Some, None, ◌∷◌, refl}
use Rattle.std.specs.Prelude.{MatchOption}
use Rattle.group_rules.specs.declared.answers.Answer.TheVariants.{HoldTimeout}
use Rattle.group_rules.specs.Events.{Answered}
use Rattle.group_rules.specs.Member.{Member, for_each}
use Rattle.group_rules.specs.Sessions.{sessions}
use Rattle.group_rules.specs.Steps.{time_out}
use Rattle.consistency_waits.specs.Following.{IsTurn as IsTurnOf, all_time_out}
use Rattle.consistency_waits.specs.Holding.{without}
use Rattle.consistency_waits.proofs.Timeouts.{all_end}
use Rattle.member_parts.specs.declared.parts.MemberParts.{MemberParts}
use Rattle.member_parts.specs.Ending.{IsTurn}
use Rattle.member_parts.specs.Standing.{StandsFor}
use Rattle.member_parts.proofs.Holds.{stands_ended}
use Rattle.member_parts.proofs.Passed.{passes}

pub all_answered : (a : Member) (x : MemberParts) → StandsFor a.setup a.me.inc a.life x → for_each time_out (sessions a.life) a ≡ all_time_out x.waits a
all_answered a x f = all_end a x.waits f.waits

pub turn_as : (o : Option (ℕ × ℕ)) (x y : MemberParts) → IsTurnOf x.waits y.waits o → MatchOption o (y.waits ≡ x.waits) (λ p. y.waits ≡ without p.0 x.waits) → IsTurn x (record x { waits = y.waits }) o
turn_as None x y t m = t
turn_as (Some p) x y t m = λ a. (
  t a,
  λ f. stands_ended a.setup a.me.inc (Answered p.0 (HoldTimeout p.1) ∷ a.life) p.0 x y m (passes a.setup a.me.inc a.life (Answered p.0 (HoldTimeout p.1)) x refl f),
)
