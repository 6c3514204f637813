-- The world of a script as a run of the group.
use Rattle.std.specs.Prelude.{◌≡◌, ℕ, Some, List, suc, length}
use Rattle.gtid_sets.specs.Canonical.{IsNumber}
use Rattle.node_rules.specs.Lists.{In}
use Rattle.group_rules.specs.Events.{Event, Setup}
use Rattle.group_rules.specs.Member.{Member}
use Rattle.group_rules.specs.Steps.{step}
use Rattle.group_rules.specs.World.{Move, Server, World, life_in, move, server_at, stepped, world_after}
use Rattle.group_runs.specs.Runs.{IsSetup}
use Rattle.group_runs.specs.Servers.{IsMove}
use Rattle.group_legal.specs.Ranges.{HasSmallNumbers}
use Rattle.group_legal.specs.OwnRanges.{MadeInRange}
use Rattle.member_truth.specs.Growing.{IsPromised}
use Rattle.member_truth.specs.Ranged.{IsRanged}

-- It is the world after some moves, founded as the laws ask, and what happened is within the ranges of its forms.
pub record IsRun (w : World) : Type 0 where
  pub moves : List Move
  pub is_it : w ≡ world_after moves
  pub allowed : (m : Move) → In m moves → IsMove m
  pub setup : (t : Setup) → w.setup ≡ Some t → IsSetup t
  pub small : HasSmallNumbers w.past
  pub made : MadeInRange w.past

-- a member that runs at a server
pub record RunsAt (w : World) (s : Server) (a : Member) : Type 0 where
  pub setup : w.setup ≡ Some a.setup
  pub server : a.me.inc.server ≡ s.number
  pub start : a.me.inc.start ≡ s.starts
  pub life : life_in w.past a.me.inc ≡ a.life

-- ---- moves

-- a row that is written offline has a number that a GTID may have
abbrev pub HasRoom : World → ℕ → Type 0
HasRoom w n = (s : Server) → server_at w n ≡ Some s → IsNumber (suc (length s.stored.writes))

-- the move is an event of a member that runs
pub record IsStepIn (w : World) (m : Move) (e : Event) (a : Member) : Type 0 where
  pub allowed : IsMove m
  pub server : Server
  pub number : ℕ
  pub at_it : server_at w number ≡ Some server
  pub running : server.running ≡ Some a
  pub is_it : move m w ≡ stepped server a (step e a) w

-- what every run promises of such a step, and that its world is a run again
pub record IsSafe (w : World) (m : Move) (e : Event) (a : Member) : Type 0 where
  pub promised : IsPromised (step e a).setup (step e a).me.inc (step e a).life
  pub runs : IsRanged (step e a).life → IsRun (move m w)
