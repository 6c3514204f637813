-- How a member's history grows: what happened stays, and is followed by what happens next.
use Rattle.std.specs.Prelude.{◌≡◌, ◌++◌}
use Rattle.gr_ids.specs.declared.names.Inc.{Inc}
use Rattle.group_rules.specs.Events.{Life, Setup}
use Rattle.group_rules.specs.Member.{Member}
use Rattle.member_truth.specs.Ranged.{IsRanged}
use Rattle.member_truth.specs.Truth.{IsTrue}

-- the history begins with this one
abbrev pub Begins : Life → Life → Type 0
Begins k l = (x : Life) × (l ≡ x ++ k)

-- the same member of the same group, later
pub record Grows (a b : Member) : Type 0 where
  pub setup : b.setup ≡ a.setup
  pub me : b.me ≡ a.me
  pub contact : b.contact ≡ a.contact
  pub life : Begins a.life b.life

-- At each moment at which what happened so far stays within its ranges, it is true: every run of the group promises this to its members.
abbrev pub IsPromised : Setup → Inc → Life → Type 0
IsPromised s me l = (k : Life) → Begins k l → IsRanged k → IsTrue s me k
