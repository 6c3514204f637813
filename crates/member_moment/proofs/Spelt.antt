-- Bodies as values.
use Rattle.std.proofs.lemmas.List.{length-append}
use Rattle.byte_forms.specs.Numbers.{number}
use Rattle.byte_forms.proofs.NumberLemmas.{length-number}
use Rattle.std.proofs.Common.{arith, ℕ, List, ◌++◌, ◌≤◌, Some, length}
use Rattle.txn_forms.specs.Bodies.{IsBody, body_bytes}
use Rattle.txn_forms.specs.declared.body.Body.{Body}
use Rattle.txn_forms.specs.declared.body.Body.TheVariants.{Txn as Writes, Prepared, Sync, Executed, Online as Arrives, Mode as Switches, Primary as Appoints, Part as PartOf}
use Rattle.member_parts.specs.Committing.{HasNumber, prepared_in}

kind_first : (k : ℕ) (xs : List ℕ) → 1 ≤ length (number 1 k ++ xs)
kind_first k xs = omega (arith, length-append (number 1 k) xs, length-number 1 k)

-- a body has at least the byte of its kind
pub some_bytes : (b : Body) → 1 ≤ length (body_bytes b)
some_bytes (Writes t) = kind_first 1 _
some_bytes (Prepared g) = kind_first 2 _
some_bytes Sync = omega (arith, length-number 1 3)
some_bytes (Executed s) = kind_first 4 _
some_bytes (Arrives s) = kind_first 5 _
some_bytes (Switches m) = kind_first 6 _
some_bytes (Appoints i) = kind_first 7 _
some_bytes (PartOf p) = kind_first 8 _

-- what a Prepared entry acknowledges has a number
pub has_number : (b : Body) → IsBody b → HasNumber (prepared_in (Some b))
has_number (Writes t) h = tt
has_number (Prepared g) h = (h.number_above, h.number_below)
has_number Sync h = tt
has_number (Executed s) h = tt
has_number (Arrives s) h = tt
has_number (Switches m) h = tt
has_number (Appoints i) h = tt
has_number (PartOf p) h = tt
