-- Lists kept by slot, ascending: at most one element for each slot.
use Rattle.std.specs.Prelude.{ℕ, zero, suc, ◌+◌, List, [], ◌∷◌, Option, filter, nat_lt, nat_le, ◌==◌, if◌then◌else◌, is_some}
use Rattle.std.specs.List.{find}
use Rattle.node_rules.specs.Names.{Value}

-- the element of this slot
abbrev pub at_slot : {A : Type 0} → (A → ℕ) → List A → ℕ → Option A
at_slot slot xs t = find (λ x. slot x == t) xs

-- the element put in place of the one of its slot, or in order
abbrev pub put_slot : {A : Type 0} → (A → ℕ) → List A → A → List A
put_slot slot [] x = x ∷ []
put_slot slot (y ∷ ys) x = if slot y == slot x then x ∷ ys else (if nat_lt (slot x) (slot y) then x ∷ y ∷ ys else y ∷ put_slot slot ys x)

-- the elements of slots from s on
abbrev pub from_slot : {A : Type 0} → (A → ℕ) → List A → ℕ → List A
from_slot slot xs s = filter (λ x. nat_le s (slot x)) xs

-- a slot and its value
pub record Entry : Type 0 where
  pub slot : ℕ
  pub value : Value

abbrev pub entry_at : List Entry → ℕ → Option Entry
entry_at es t = at_slot (λ e. e.slot) es t

-- the least of these many slots from t on that has no entry, or the slot after them
abbrev pub first_empty : ℕ → List Entry → ℕ → ℕ
first_empty zero es t = t
first_empty (suc k) es t = if is_some (entry_at es t) then first_empty k es (t + 1) else t
