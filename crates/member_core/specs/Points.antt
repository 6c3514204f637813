-- Acts for transactions that are pending.
use Rattle.std.specs.Prelude.{◌≡◌, false}
use Rattle.group_rules.specs.Events.{Cert, Life}
use Rattle.group_rules.specs.Life.{is_error, state}
use Rattle.group_rules.specs.Member.{Member}
use Rattle.group_rules.specs.Points.{arrive, begin_all, commit_all, prepare_all}
use Rattle.member_backlog.specs.declared.uncommitted.Uncommitted.{Uncommitted}
use Rattle.member_parts.specs.Committing.{IsPending}
use Rattle.member_moment.specs.declared.moment.Moment.{Moment}
use Rattle.member_moment.specs.Doing.{IsKept}
use Rattle.member_moment.specs.Standing.{Stands}

-- it isn't in ERROR
abbrev pub IsWell : Member → Type 0
IsWell a = is_error (state a.life) ≡ false

-- the act is done for this one, which is pending
abbrev pub DoesOne : (Cert → Member → Member) → Uncommitted → Moment → Moment → Type 0
DoesOne f u x y = (base : Life) (a : Member) (c : Cert) → IsPending a.life c u → IsKept (f c a) → Stands base a x → Stands base (f c a) y

-- a point, but in ERROR
abbrev pub point_well : Member → Member
point_well a = arrive (begin_all (prepare_all (commit_all a)))
