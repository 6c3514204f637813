-- The rule of a mailbox, which holds between any two of its atomic steps, and what each step tells.
use Rattle.std.specs.Prelude.{◌≡◌, ℕ, true, false, List, [], ◌∷◌, ◌++◌, Option, Some, None}
use Rattle.std.specs.List.{All}
use mathlib.Core.Option.{some}
use mathlib.Core.List.{IsPrefix}
use lib.ListN.{get_elem?}
use Rattle.gr_ids.specs.declared.names.Inc.{Inc}
use Rattle.gr_ids.specs.Names.{has_inc}
use Rattle.wire_hub.specs.declared.letter.Letter.{Letter}
use Rattle.wire_hub.specs.declared.view.View.{View}
use Rattle.wire_hub.specs.declared.view.Told.{Told}
use Rattle.wire_hub.specs.declared.view.Role.{Role}
use Rattle.wire_hub.specs.declared.view.Role.TheVariants.{Taker, Sender, Note}
use Rattle.wire_hub.specs.Letters.{of, rises}

abbrev pub no_one : Inc
no_one = record { server = 0; start = 0 }

abbrev pub taker : Inc → List Inc → List Letter → List Told → View
taker owner senders got told = record { role = Taker; owner = owner; name = no_one; senders = senders; letters = got; told = told }

abbrev pub sender : Inc → Inc → List Letter → List Told → View
sender owner name sent told = record { role = Sender; owner = owner; name = name; senders = []; letters = sent; told = told }

abbrev pub note : List Told → View
note told = record { role = Note; owner = no_one; name = no_one; senders = []; letters = []; told = told }

-- each list that was told of begins what its sender has in these letters
abbrev pub TrueOf : List Letter → List Told → Type 0
TrueOf letters told = All (λ t. IsPrefix t.letters (of t.name letters)) told

-- ---- the rule

-- `all` is what was ever sent to the mailbox, of which the taker got a beginning. Each sender has one pass, which knows all that it sent
abbrev pub Knows : ℕ → (Inc → Option ℕ) → Inc → List Letter → List Letter → ℕ → View → Role → Type 0
Knows reader seat owner got all pass v Taker =
    (pass ≡ reader) × (v.owner ≡ owner) × (v.letters ≡ got) × ((p : Inc) → has_inc v.senders p ≡ false → (seat p ≡ None) × (of p all ≡ []))
Knows reader seat owner got all pass v Sender = (seat v.name ≡ Some pass) × (v.owner ≡ owner) × (v.letters ≡ of v.name all)
Knows reader seat owner got all pass v Note = Unit {0}

abbrev pub Fits : ℕ → (Inc → Option ℕ) → Inc → List Letter → List Letter → ℕ → View → Type 0
Fits reader seat owner got all pass v = TrueOf all v.told × Knows reader seat owner got all pass v v.role

-- what was sent is what was got, and then what the mailbox holds; all of it is addressed to the owner, and each sender's indices rise
abbrev pub Posted : List Letter → List View → Type 0
Posted items views =
    (reader : ℕ) × (seat : Inc → Option ℕ) × (owner : Inc) × (got : List Letter)
    × All (λ x. x.to ≡ owner) (got ++ items)
    × ((p : Inc) → rises 0 (of p (got ++ items)) ≡ true)
    × ((pass : ℕ) (v : View) → get_elem? views pass ≡ some v → Fits reader seat owner got (got ++ items) pass v)

-- ---- what a step tells

abbrev pub with_letter : View → Letter → View
with_letter v x = record v { letters = v.letters ++ x ∷ [] }

-- a letter was put behind all others
abbrev pub sent : View → Letter → View → Type 0
sent v x w = w ≡ with_letter v x

-- the first letter was taken: it is addressed to the owner, a sender that was made sent it, and each sender's letters that were taken still rise
abbrev pub taken : View → Letter → View → Type 0
taken v x w = (w ≡ with_letter v x) × (x.to ≡ v.owner) × (has_inc v.senders x.from ≡ true) × ((p : Inc) → rises 0 (of p (v.letters ++ x ∷ [])) ≡ true)

-- the mailbox was empty: all that the taker was told of, it has taken
abbrev pub emptied : View → List Letter → Type 0
emptied v items = items ≡ [] → TrueOf v.letters v.told

-- what a sender was told of its own letters begins what it has sent
abbrev pub owned : View → List Letter → Type 0
owned v items = All (λ t. t.name ≡ v.name → IsPrefix t.letters v.letters) v.told

-- ---- how passes are made and joined

abbrev pub owning : Inc → View → View
owning p v = record v { owner = p }

abbrev pub making : Inc → View → View
making p v = record v { senders = v.senders ++ p ∷ [] }

abbrev pub newcomer : Inc → View → View
newcomer p v = sender v.owner p [] []

-- what the pass knows of the letters of p, of a sender its own
abbrev pub told_of : Inc → View → View
told_of p v = note (record { name = p; letters = of p v.letters } ∷ [])

abbrev pub told_own : View → View
told_own v = note (record { name = v.name; letters = v.letters } ∷ [])

abbrev pub hears : View → View → View
hears v w = record v { told = v.told ++ w.told }
