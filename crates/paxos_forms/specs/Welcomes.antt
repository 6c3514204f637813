-- Welcomes as bytes. Whether a Welcome is in order is no matter of its form.
use Rattle.std.specs.Prelude.{◌≡◌, ℕ, ◌+◌, ◌≤◌, Bool, true, false, Option, Some, None, List, [], ◌∷◌, ◌++◌, length, slice_index_or, ◌==◌, if◌then◌else◌}
use Rattle.std.specs.List.{AllByRecursion}
use Rattle.byte_forms.specs.Numbers.{number}
use Rattle.byte_forms.specs.Reads.{Reader, ◌>>=◌, pure}
use Rattle.byte_forms.specs.Fields.{number_in}
use Rattle.byte_forms.specs.Lists.{several, list_of, IsChain}
use Rattle.gr_ids.specs.declared.names.Inc.{Inc}
use Rattle.gr_ids.specs.declared.levels.MemberState.{MemberState}
use Rattle.gr_ids.specs.declared.levels.MemberState.TheVariants.{Offline, Recovering, Online, Error}
use Rattle.gr_ids.specs.declared.levels.Mode.{Mode}
use Rattle.gr_ids.specs.declared.levels.Mode.TheVariants as mode
use Rattle.name_forms.specs.Incs.{IsInc, IsIncAfter, inc_bytes, next_inc, next_inc_after}
use Rattle.name_forms.specs.Ballots.{IsBallot, ballot_bytes, next_ballot}
use Rattle.slot_values.specs.Slots.{last_slot}
use Rattle.slot_values.specs.Joiners.{IsJoinerAfter, joiner_bytes, next_joiner_after}
use Rattle.slot_values.specs.Spelling.{last_u32}
pub use Rattle.paxos_forms.specs.declared.welcome.Welcome.{Welcome}
pub use Rattle.paxos_forms.specs.declared.welcome.WelcomeMember.{WelcomeMember}

-- ---- the mode: 0 for multi, 1 for single

abbrev pub mode_number : Mode → ℕ
mode_number mode.Multi = 0
mode_number mode.Single = 1

unfoldable pub next_mode : Reader Mode
next_mode = number_in 1 0 1 >>= λ n. pure (if n == 1 then mode.Single else mode.Multi)

-- ---- a primary: 0 for none; 1, and the incarnation

abbrev pub IsPrimary : Option Inc → Type 0
IsPrimary None = Unit {0}
IsPrimary (Some i) = IsInc i

abbrev pub primary_bytes : Option Inc → List ℕ
primary_bytes None = number 1 0
primary_bytes (Some i) = number 1 1 ++ inc_bytes i

-- what stands behind the byte, from 0 on
abbrev pub primaries : List (Reader (Option Inc))
primaries = pure None ∷ (next_inc >>= λ i. pure (Some i)) ∷ []

unfoldable pub next_primary : Reader (Option Inc)
next_primary = number_in 1 0 1 >>= λ n. slice_index_or primaries n (pure None)

-- ---- members, strictly ascending: the joiner, 1 for ONLINE or 2 for RECOVERING, and the last kept number, at most the place

abbrev pub state_number : MemberState → ℕ
state_number Online = 1
state_number Recovering = 2
state_number Offline = 0
state_number Error = 0

unfoldable pub next_state : Reader MemberState
next_state = number_in 1 1 2 >>= λ n. pure (if n == 1 then Online else Recovering)

abbrev pub inc_before : Option WelcomeMember → Option Inc
inc_before None = None
inc_before (Some b) = Some b.joiner.inc

pub record IsMemberAfter (place : ℕ) (before : Option WelcomeMember) (m : WelcomeMember) : Type 0 where
  pub joiner : IsJoinerAfter (inc_before before) m.joiner
  pub state : 1 ≤ state_number m.state
  pub last : m.last ≤ place

abbrev pub member_bytes : WelcomeMember → List ℕ
member_bytes m = joiner_bytes m.joiner ++ (number 1 (state_number m.state) ++ number 8 m.last)

unfoldable pub next_member_after : ℕ → Option WelcomeMember → Reader WelcomeMember
next_member_after place before = do
  joiner ← next_joiner_after (inc_before before)
  state ← next_state
  last ← number_in 8 0 place
  pure (record { joiner = joiner; state = state; last = last })

-- ---- the members after a slot: any incarnations

abbrev pub IsConfig : List Inc → Type 0
IsConfig c = AllByRecursion IsInc c × (length c ≤ last_u32)

abbrev pub config_bytes : List Inc → List ℕ
config_bytes c = several inc_bytes c

abbrev pub next_config : Reader (List Inc)
next_config = list_of 0 (λ before. next_inc)

-- ---- a Welcome: the slot, the place, at most the slot, the view number, at most the place plus 1, the promise, the mode, the primary,
-- the place at which it was elected, at most the place, the members, every incarnation that ever was one, strictly ascending, and the
-- members after each of the slots that the horizon reaches back to

pub record IsWelcome (w : Welcome) : Type 0 where
  pub slot_above : 1 ≤ w.slot
  pub slot_below : w.slot ≤ last_slot
  pub place_above : 1 ≤ w.place
  pub place_below : w.place ≤ w.slot
  pub number_above : 1 ≤ w.number
  pub number_below : w.number ≤ w.place + 1
  pub promise : IsBallot w.promise
  pub primary : IsPrimary w.primary
  pub elected : w.elected ≤ w.place
  pub members : IsChain (IsMemberAfter w.place) None w.members
  pub few_members : length w.members ≤ last_u32
  pub ever : IsChain IsIncAfter None w.ever
  pub few_ever : length w.ever ≤ last_u32
  pub configs : AllByRecursion IsConfig w.configs
  pub few_configs : length w.configs ≤ last_u32

abbrev pub welcome_bytes : Welcome → List ℕ
welcome_bytes w =
    number 8 w.slot
    ++ (number 8 w.place
    ++ (number 8 w.number
    ++ (ballot_bytes w.promise
    ++ (number 1 (mode_number w.mode)
    ++ (primary_bytes w.primary
    ++ (number 8 w.elected
    ++ (several member_bytes w.members
    ++ (several inc_bytes w.ever
    ++ several config_bytes w.configs))))))))

unfoldable pub next_welcome : Reader Welcome
next_welcome = do
  slot ← number_in 8 1 last_slot
  place ← number_in 8 1 slot
  view ← number_in 8 1 (place + 1)
  promise ← next_ballot
  mode ← next_mode
  primary ← next_primary
  elected ← number_in 8 0 place
  members ← list_of 0 (next_member_after place)
  ever ← list_of 0 next_inc_after
  configs ← list_of 0 (λ before. next_config)
  pure (record { slot = slot; place = place; number = view; promise = promise; mode = mode; primary = primary; elected = elected; members = members; ever = ever; configs = configs })
