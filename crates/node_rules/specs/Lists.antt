-- Lists of incarnations, and what a list has.
use Rattle.std.specs.Prelude.{Bool, not, List, [], ◌∷◌, ◌≡◌, ◌⊎◌, filter, fold}
use Rattle.std.specs.Cmp.Lexicographic.{pointwise}
use Rattle.node_rules.specs.Names.{Inc}
use Rattle.gr_ids.specs.Names.{inc_eq}
use Rattle.slot_values.specs.Log.{with_inc}

-- the list has this element
abbrev pub In : {A : Type 0} → A → List A → Type 0
In x [] = ⊥
In x (y ∷ ys) = (y ≡ x) ⊎ In x ys

-- ---- lists of incarnations

abbrev pub incs_eq : List Inc → List Inc → Bool
incs_eq is js = pointwise inc_eq is js

-- all but this one
abbrev pub others : Inc → List Inc → List Inc
others me is = filter (λ i. not (inc_eq me i)) is

-- those of either list, ascending where the second list is
abbrev pub union : List Inc → List Inc → List Inc
union is js = fold with_inc js is
