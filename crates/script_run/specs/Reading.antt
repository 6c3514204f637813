-- What the reader of lines finds at the front of the bytes that it holds.
use Rattle.std.specs.Prelude.{◌≡◌, ℕ, ◌+◌, ◌<◌, ◌≤◌, List, [], length, take, Option, Some, None, Result, Ok, Err, ◌++◌}
use Rattle.std.specs.Str.Lines.{strip_carriage_return}
use Rattle.std.specs.Io.KnownBytes.{prepend_known, IsAtEnd}
use Rattle.gr_io.specs.Causes.{Rose}
use Rattle.script_run.specs.Lines.{feed_at}
use Rattle.script_run.specs.declared.front_line.FrontLine.{FrontLine}
use Rattle.script_run.specs.declared.front_line.LineKind.{LineKind}
use Rattle.script_run.specs.declared.front_line.LineKind.TheVariants.{Whole, Last, Long}
use Rattle.script_run.specs.declared.front_line.ReadFault.{ReadFault}
use Rattle.script_run.specs.declared.front_line.ReadFault.TheVariants.{Failed, Memory}

-- these bytes have no LF
abbrev pub IsUnended : List ℕ → Type 0
IsUnended held = feed_at held ≡ length held

-- what so many bytes at the front are, with these bytes left at the source
abbrev pub IsKind : LineKind → ℕ → ℕ → List ℕ → Option (List ℕ) → Type 0
IsKind Whole len taken held left = (feed_at held < length held) × (taken ≡ feed_at held + 1) × (take len held ≡ strip_carriage_return (take (feed_at held) held))
IsKind Last len taken held left = IsUnended held × (len ≡ length held) × (0 < length held) × IsAtEnd left
IsKind Long len taken held left = IsUnended held × (len ≡ length held) × (65537 < length held)

-- a line stands at the front, or there is none and nothing is left
abbrev pub Finds : Option FrontLine → List ℕ → Option (List ℕ) → Type 0
Finds None held left = (held ≡ []) × IsAtEnd left
Finds (Some found) held left = (found.len ≤ length held) × (found.taken ≤ length held) × IsKind found.kind found.len found.taken held left

-- A call pulled this piece, and holds it behind what was held.
pub record Reads (left_old left_new : Option (List ℕ)) (held_old held_new : List ℕ) : Type 0 where
  pub piece : List ℕ
  pub source : left_old ≡ prepend_known piece left_new
  pub held : held_new ≡ held_old ++ piece

-- the count of faults doesn't fall, and `Failed` comes only where it rose
abbrev pub FailsBy : {T : Type 0} → Result T ReadFault → ℕ → ℕ → Type 0
FailsBy (Ok x) before now = before ≤ now
FailsBy (Err Failed) before now = Rose before now
FailsBy (Err Memory) before now = before ≤ now
