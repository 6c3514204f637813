-- Held begins that have reached their limits.
use Rattle.std.specs.Prelude.{◌≡◌, ℕ, Option, Some, None}
use Rattle.group_rules.specs.declared.answers.Answer.TheVariants.{HoldTimeout}
use Rattle.group_rules.specs.Member.{Member, last_answer}
use Rattle.consistency_waits.specs.Following.{all_time_out}
use Rattle.member_parts.specs.declared.parts.MemberParts.{MemberParts}
use Rattle.member_parts.specs.Standing.{StandsFor}

-- A session and its limit are handed out: it is answered, and then the others that have reached their limits. Where none is handed out, there is none.
abbrev pub IsTurn : MemberParts → MemberParts → Option (ℕ × ℕ) → Type 0
IsTurn x y None = (a : Member) → all_time_out x.waits a ≡ a
IsTurn x y (Some o) = (a : Member) → (all_time_out x.waits a ≡ all_time_out y.waits (last_answer o.0 (HoldTimeout o.1) a))
    × (StandsFor a.setup a.me.inc a.life x → StandsFor a.setup a.me.inc (last_answer o.0 (HoldTimeout o.1) a).life y)
