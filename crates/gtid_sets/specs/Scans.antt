-- What a scanner of a text does.
use Rattle.std.specs.Prelude.{◌≡◌, ℕ, Result, Err}
use Rattle.byte_forms.specs.Cuts.{Cut}
use Rattle.gtid_sets.specs.declared.faults.TextFault.{TextFault}
use Rattle.gtid_sets.specs.declared.faults.TextFault.TheVariants.{Memory}
use Rattle.gtid_sets.specs.Sets.{Gtids}
use Rattle.gtid_sets.specs.Text.{Text}
use Rattle.gtid_sets.specs.Grammar.{Scan, Found, Refused, set_of}

-- The value was found, and the text behind it is left.
pub record Finds {A : Type 0} (scan : ℕ → Text → Scan A) (old : Cut) (x : A) (new : Cut) : Type 0 where
  pub value : scan old.total old.left ≡ Found x new.left
  pub whole : new.total ≡ old.total

abbrev pub Refuses : {A : Type 0} → (ℕ → Text → Scan A) → Cut → TextFault → Type 0
Refuses scan old e = scan old.total old.left ≡ Refused e

-- Why a reading failed: memory was refused, or the text has this fault.
abbrev pub IsFaultIn : Result Gtids TextFault → TextFault → Type 0
IsFaultIn reading Memory = Unit {0}
IsFaultIn reading e = reading ≡ Err e

abbrev pub IsFaultOf : Text → TextFault → Type 0
IsFaultOf text e = IsFaultIn (set_of text) e
