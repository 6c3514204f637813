-- Values as bytes: the identity, and one byte: 0 for a Noop, whose number is 0; 1 for an Add, and the joiner; 2 for a Remove, and the
-- incarnation; 3 for a body, and its bytes, at least one, behind their count.
use Rattle.std.specs.Prelude.{◌≡◌, ℕ, suc, ◌≤◌, Option, Some, None, List, [], ◌∷◌, ◌++◌, length, slice_index_or, ◌==◌, if◌then◌else◌}
use Rattle.byte_forms.specs.Numbers.{number}
use Rattle.byte_forms.specs.Reads.{Read, Got, Fault, Reader, ◌>>=◌, pure}
use Rattle.byte_forms.specs.Fields.{number_in}
use Rattle.byte_forms.specs.Lists.{counted, bytes_in}
use Rattle.name_forms.specs.Incs.{IsInc, inc_bytes, next_inc}
use Rattle.name_forms.specs.Ballots.{IsBallot, ballot_bytes, next_ballot}
use Rattle.name_forms.specs.Ids.{IsId, id_bytes, next_id}
use Rattle.slot_values.specs.Slots.{IsSlot, last_slot}
use Rattle.slot_values.specs.Joiners.{IsJoiner, joiner_bytes, next_joiner}
use Rattle.slot_values.specs.Values.{What, Noop, Add, Remove, Body, Value, Vote}

-- 2 ^ 32 - 1
abbrev pub last_u32 : ℕ
last_u32 = 4294967295

-- ---- what a value with this number says

abbrev pub IsWhat : ℕ → What → Type 0
IsWhat n Noop = n ≡ 0
IsWhat n (Add j) = IsJoiner j
IsWhat n (Remove i) = IsInc i
IsWhat n (Body bytes) = (1 ≤ length bytes) × (length bytes ≤ last_u32)

abbrev pub what_bytes : What → List ℕ
what_bytes Noop = number 1 0
what_bytes (Add j) = number 1 1 ++ joiner_bytes j
what_bytes (Remove i) = number 1 2 ++ inc_bytes i
what_bytes (Body bytes) = number 1 3 ++ counted bytes

-- a value of another number than 0 is no Noop
abbrev pub least_kind : ℕ → ℕ
least_kind n = if n == 0 then 0 else 1

-- what stands behind the kind, from 0 on
abbrev pub kinds : List (Reader What)
kinds = pure Noop ∷ (next_joiner >>= λ j. pure (Add j)) ∷ (next_inc >>= λ i. pure (Remove i)) ∷ (bytes_in 1 last_u32 >>= λ bytes. pure (Body bytes)) ∷ []

unfoldable pub next_what : ℕ → Reader What
next_what n = number_in 1 (least_kind n) 3 >>= λ k. slice_index_or kinds k (pure Noop)

-- ---- values and votes

pub record IsValue (v : Value) : Type 0 where
  pub id : IsId v.id
  pub what : IsWhat v.id.number v.what

abbrev pub value_bytes : Value → List ℕ
value_bytes v = id_bytes v.id ++ what_bytes v.what

unfoldable pub next_value : Reader Value
next_value = do
  id ← next_id
  what ← next_what id.number
  pure (record { id = id; what = what })

-- In a list of votes each slot is above the one before.
abbrev pub least_slot : Option Vote → ℕ
least_slot None = 1
least_slot (Some b) = suc b.slot

pub record IsVoteAfter (before : Option Vote) (x : Vote) : Type 0 where
  pub slot_above : least_slot before ≤ x.slot
  pub slot_below : x.slot ≤ last_slot
  pub ballot : IsBallot x.ballot
  pub value : IsValue x.value

abbrev pub vote_bytes : Vote → List ℕ
vote_bytes x = number 8 x.slot ++ (ballot_bytes x.ballot ++ value_bytes x.value)

unfoldable pub next_vote_after : Option Vote → Reader Vote
next_vote_after before = do
  slot ← number_in 8 (least_slot before) last_slot
  ballot ← next_ballot
  value ← next_value
  pure (record { slot = slot; ballot = ballot; value = value })
