-- Messages as bytes: the sender, the addressee, one byte for the kind, and the kind's fields.
use Rattle.std.specs.Prelude.{◌≡◌, ℕ, ◌+◌, ◌-◌, ◌≤◌, Option, Some, None, List, [], ◌∷◌, ◌++◌, length, slice_index_or}
use Rattle.byte_forms.specs.Numbers.{number}
use Rattle.byte_forms.specs.Reads.{Reader, ◌>>=◌, pure, whole, value_of}
use Rattle.byte_forms.specs.Fields.{number_in}
use Rattle.byte_forms.specs.Lists.{several, list_of, IsChain}
use Rattle.name_forms.specs.Incs.{IsInc, inc_bytes, next_inc}
use Rattle.name_forms.specs.Ballots.{IsBallot, ballot_bytes, next_ballot}
use Rattle.gtid_sets.specs.Spelling.{HasCounts}
use Rattle.slot_values.specs.Slots.{IsSlot, last_slot}
use Rattle.slot_values.specs.Spelling.{IsValue, IsVoteAfter, last_u32, value_bytes, vote_bytes, next_value, next_vote_after}
use Rattle.paxos_forms.specs.Welcomes.{IsWelcome, welcome_bytes, next_welcome}
use Rattle.paxos_forms.specs.Gives.{IsAsk, IsGive, IsHeldGive, ask_bytes, give_bytes, next_ask, next_give}
pub use Rattle.paxos_forms.specs.declared.message.Message.{Message}
pub use Rattle.paxos_forms.specs.declared.message.Wire.{Wire}
pub use Rattle.paxos_forms.specs.declared.message.Wire.TheVariants.{Prepare, Promise, Accept, Accepted, Learn, Offer, Alive, Gone}
pub use Rattle.paxos_forms.specs.declared.message.Wire.TheVariants as wire

-- a slot up to which all are decided may be the last one: the next one is 2 ^ 42 + 1
abbrev pub IsNextSlot : ℕ → Type 0
IsNextSlot t = (1 ≤ t) × (t ≤ last_slot + 1)

abbrev pub next_slot : Reader ℕ
next_slot = number_in 8 1 last_slot

abbrev pub next_from_slot : Reader ℕ
next_from_slot = number_in 8 1 (last_slot + 1)

-- ---- the kinds

-- the byte, and the fields behind it
abbrev pub wire_bytes : Wire → List ℕ
wire_bytes (Prepare b s) = number 1 1 ++ (ballot_bytes b ++ number 8 s)
wire_bytes (Promise b s xs) = number 1 2 ++ (ballot_bytes b ++ (number 8 s ++ several vote_bytes xs))
wire_bytes (Accept b t v) = number 1 3 ++ (ballot_bytes b ++ (number 8 t ++ value_bytes v))
wire_bytes (Accepted b t) = number 1 4 ++ (ballot_bytes b ++ number 8 t)
wire_bytes (Learn t v) = number 1 5 ++ (number 8 t ++ value_bytes v)
wire_bytes (Offer v) = number 1 6 ++ value_bytes v
wire_bytes (wire.Welcome w) = number 1 7 ++ welcome_bytes w
wire_bytes (wire.Ask a) = number 1 8 ++ ask_bytes a
wire_bytes (wire.Give g) = number 1 9 ++ give_bytes g
wire_bytes (Alive n) = number 1 10 ++ number 8 n
wire_bytes Gone = number 1 11

abbrev pub IsWire : Wire → Type 0
IsWire (Prepare b s) = IsBallot b × IsNextSlot s
IsWire (Promise b s xs) = IsBallot b × IsNextSlot s × IsChain IsVoteAfter None xs × (length xs ≤ last_u32)
IsWire (Accept b t v) = IsBallot b × IsSlot t × IsValue v
IsWire (Accepted b t) = IsBallot b × IsSlot t
IsWire (Learn t v) = IsSlot t × IsValue v
IsWire (Offer v) = IsValue v
IsWire (wire.Welcome w) = IsWelcome w
IsWire (wire.Ask a) = IsAsk a
IsWire (wire.Give g) = IsGive g
IsWire (Alive n) = IsNextSlot n
IsWire Gone = Unit {0}

unfoldable pub next_prepare : Reader Wire
next_prepare = do
  b ← next_ballot
  s ← next_from_slot
  pure (Prepare b s)

unfoldable pub next_promise : Reader Wire
next_promise = do
  b ← next_ballot
  s ← next_from_slot
  xs ← list_of 0 next_vote_after
  pure (Promise b s xs)

unfoldable pub next_accept : Reader Wire
next_accept = do
  b ← next_ballot
  t ← next_slot
  v ← next_value
  pure (Accept b t v)

unfoldable pub next_accepted : Reader Wire
next_accepted = do
  b ← next_ballot
  t ← next_slot
  pure (Accepted b t)

unfoldable pub next_learn : Reader Wire
next_learn = do
  t ← next_slot
  v ← next_value
  pure (Learn t v)

-- what stands behind the kind, from 1 on
abbrev pub kinds : List (Reader Wire)
kinds =
    next_prepare
    ∷ next_promise
    ∷ next_accept
    ∷ next_accepted
    ∷ next_learn
    ∷ (next_value >>= λ v. pure (Offer v))
    ∷ (next_welcome >>= λ w. pure (wire.Welcome w))
    ∷ (next_ask >>= λ a. pure (wire.Ask a))
    ∷ (next_give >>= λ g. pure (wire.Give g))
    ∷ (next_from_slot >>= λ n. pure (Alive n))
    ∷ pure Gone
    ∷ []

unfoldable pub next_wire : Reader Wire
next_wire = number_in 1 1 11 >>= λ k. slice_index_or kinds (k - 1) (pure Gone)

-- what memory holds: bytes below 256, and sets whose counts fit four bytes
abbrev pub IsHeld : Wire → Type 0
IsHeld (Prepare b s) = Unit {0}
IsHeld (Promise b s xs) = Unit {0}
IsHeld (Accept b t v) = Unit {0}
IsHeld (Accepted b t) = Unit {0}
IsHeld (Learn t v) = Unit {0}
IsHeld (Offer v) = Unit {0}
IsHeld (wire.Welcome w) = Unit {0}
IsHeld (wire.Ask a) = HasCounts a.executed
IsHeld (wire.Give g) = IsHeldGive g
IsHeld (Alive n) = Unit {0}
IsHeld Gone = Unit {0}

-- ---- messages

pub record IsMessage (m : Message) : Type 0 where
  pub from : IsInc m.from
  pub to : IsInc m.to
  pub wire : IsWire m.wire

abbrev pub message_bytes : Message → List ℕ
message_bytes m = inc_bytes m.from ++ (inc_bytes m.to ++ wire_bytes m.wire)

unfoldable pub next_message : Reader Message
next_message = do
  from ← next_inc
  to ← next_inc
  wire ← next_wire
  pure (record { from = from; to = to; wire = wire })

-- the message that these bytes spell, if they spell one
abbrev pub read_message : List ℕ → Option Message
read_message bytes = value_of (whole next_message bytes)
