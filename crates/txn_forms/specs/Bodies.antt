-- Bodies as bytes: one byte for the kind, and the kind's fields.
use Rattle.std.specs.Prelude.{◌≡◌, ℕ, zero, suc, ◌≤◌, Bool, true, false, Option, Some, None, List, [], ◌∷◌, ◌++◌, length, max, slice_index_or, ◌-◌, ◌==◌, if◌then◌else◌}
use Rattle.std.specs.List.{AllByRecursion}
use Rattle.byte_forms.specs.Numbers.{number}
use Rattle.byte_forms.specs.Reads.{Reader, ◌>>=◌, pure, whole, value_of}
use Rattle.byte_forms.specs.Fields.{number_in}
use Rattle.byte_forms.specs.Lists.{several, counted, list_of, bytes_in, IsChain}
use Rattle.name_forms.specs.Incs.{IsInc, inc_bytes, next_inc}
use Rattle.name_forms.specs.Gtids.{IsGtid, gtid_bytes, next_gtid}
use Rattle.name_forms.specs.OpenParts.{part_size, most_parts}
use Rattle.gtid_sets.specs.Canonical.{IsCanonical}
use Rattle.gtid_sets.specs.Spelling.{set_bytes, next_set, HasCounts}
use Rattle.key_items.specs.Spelling.{IsItemAfter, AreBytes, item_bytes, next_item_after}
use Rattle.txn_forms.specs.Changes.{IsChange, last_u32, change_bytes, next_change}
pub use Rattle.txn_forms.specs.declared.body.Txn.{Txn}
pub use Rattle.txn_forms.specs.declared.body.Part.{Part}
pub use Rattle.txn_forms.specs.declared.body.ModeChange.{ModeChange}
pub use Rattle.txn_forms.specs.declared.body.ModeChange.TheVariants.{Multi, Single}
pub use Rattle.txn_forms.specs.declared.body.Body.{Body}
pub use Rattle.txn_forms.specs.declared.body.Body.TheVariants as body

-- ---- transactions: whether AFTER, the snapshot, the write set, and the changes, at least one

abbrev pub flag : Bool → ℕ
flag true = 1
flag false = 0

abbrev pub txn_bytes : Txn → List ℕ
txn_bytes t = number 1 (flag t.after) ++ (set_bytes t.snapshot ++ (several item_bytes t.items ++ several (change_bytes t.items) t.changes))

unfoldable pub next_txn : Reader Txn
next_txn = do
  after ← number_in 1 0 1
  snapshot ← next_set
  items ← list_of 0 next_item_after
  changes ← list_of 1 (λ before. next_change items)
  pure (record { after = after == 1; snapshot = snapshot; items = items; changes = changes })

-- ---- changes of the mode: 0 for multi; 1 for single by election; 2 for single, and the incarnation

abbrev pub mode_bytes : ModeChange → List ℕ
mode_bytes Multi = number 1 0
mode_bytes (Single None) = number 1 1
mode_bytes (Single (Some i)) = number 1 2 ++ inc_bytes i

-- what stands behind the byte, from 0 on
abbrev pub modes : List (Reader ModeChange)
modes = pure Multi ∷ pure (Single None) ∷ (next_inc >>= λ i. pure (Single (Some i))) ∷ []

unfoldable pub next_mode : Reader ModeChange
next_mode = number_in 1 0 2 >>= λ k. slice_index_or modes k (pure Multi)

-- ---- parts: the index, the count, and the bytes behind their count

abbrev pub part_bytes : Part → List ℕ
part_bytes p = number 4 p.index ++ (number 4 p.count ++ counted p.bytes)

unfoldable pub next_part : Reader Part
next_part = do
  index ← number_in 4 1 most_parts
  count ← number_in 4 (max 2 index) most_parts
  bytes ← bytes_in (if index == count then 1 else part_size) part_size
  pure (record { index = index; count = count; bytes = bytes })

-- ---- bodies

abbrev pub body_bytes : Body → List ℕ
body_bytes (body.Txn t) = number 1 1 ++ txn_bytes t
body_bytes (body.Prepared g) = number 1 2 ++ gtid_bytes g
body_bytes body.Sync = number 1 3
body_bytes (body.Executed s) = number 1 4 ++ set_bytes s
body_bytes (body.Online s) = number 1 5 ++ set_bytes s
body_bytes (body.Mode m) = number 1 6 ++ mode_bytes m
body_bytes (body.Primary i) = number 1 7 ++ inc_bytes i
body_bytes (body.Part p) = number 1 8 ++ part_bytes p

-- what stands behind the kind, from 1 on
abbrev pub kinds : List (Reader Body)
kinds =
    (next_txn >>= λ t. pure (body.Txn t))
    ∷ (next_gtid >>= λ g. pure (body.Prepared g))
    ∷ pure body.Sync
    ∷ (next_set >>= λ s. pure (body.Executed s))
    ∷ (next_set >>= λ s. pure (body.Online s))
    ∷ (next_mode >>= λ m. pure (body.Mode m))
    ∷ (next_inc >>= λ i. pure (body.Primary i))
    ∷ (next_part >>= λ p. pure (body.Part p))
    ∷ []

unfoldable pub next_body : Reader Body
next_body = number_in 1 1 8 >>= λ k. slice_index_or kinds (k - 1) (pure body.Sync)

-- the body that these bytes spell, if they spell one
abbrev pub read_body : List ℕ → Option Body
read_body bytes = value_of (whole next_body bytes)

-- ---- what has a spelling

pub record IsTxn (t : Txn) : Type 0 where
  pub snapshot : IsCanonical t.snapshot
  pub items : IsChain IsItemAfter None t.items
  pub few_items : length t.items ≤ last_u32
  pub changes : AllByRecursion (IsChange t.items) t.changes
  pub some_changes : 1 ≤ length t.changes
  pub few_changes : length t.changes ≤ last_u32

-- a part below the count has 65,523 bytes, the last one 1 to 65,523
pub record IsPart (p : Part) : Type 0 where
  pub index_above : 1 ≤ p.index
  pub index_below : p.index ≤ p.count
  pub count_above : 2 ≤ p.count
  pub count_below : p.count ≤ most_parts
  pub bytes_above : (if p.index == p.count then 1 else part_size) ≤ length p.bytes
  pub bytes_below : length p.bytes ≤ part_size

abbrev pub IsModeChange : ModeChange → Type 0
IsModeChange Multi = Unit {0}
IsModeChange (Single None) = Unit {0}
IsModeChange (Single (Some i)) = IsInc i

abbrev pub IsBody : Body → Type 0
IsBody (body.Txn t) = IsTxn t
IsBody (body.Prepared g) = IsGtid g
IsBody body.Sync = Unit {0}
IsBody (body.Executed s) = IsCanonical s
IsBody (body.Online s) = IsCanonical s
IsBody (body.Mode m) = IsModeChange m
IsBody (body.Primary i) = IsInc i
IsBody (body.Part p) = IsPart p

-- ---- what memory holds: bytes below 256, and sets whose counts fit four bytes

pub record IsHeldTxn (t : Txn) : Type 0 where
  pub counts : HasCounts t.snapshot
  pub items : AllByRecursion AreBytes t.items

abbrev pub IsHeld : Body → Type 0
IsHeld (body.Txn t) = IsHeldTxn t
IsHeld (body.Prepared g) = Unit {0}
IsHeld body.Sync = Unit {0}
IsHeld (body.Executed s) = HasCounts s
IsHeld (body.Online s) = HasCounts s
IsHeld (body.Mode m) = Unit {0}
IsHeld (body.Primary i) = Unit {0}
IsHeld (body.Part p) = Unit {0}
