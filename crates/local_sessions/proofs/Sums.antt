-- Sizes that stop at the greatest number.
use Rattle.std.proofs.Common.{◌≡◌, ℕ, zero, suc, ◌≤◌, List, [], ◌∷◌, drop, length, refl, arith}
use Rattle.key_items.specs.declared.item.Item.{Item}
use Rattle.key_items.specs.declared.change.Change.{Change}
use Rattle.local_sessions.specs.Sizes.{items_size, changes_size}

pub no_items : (xs : List Item) (n : ℕ) → length xs ≤ n → items_size (drop n xs) ≡ 0
no_items [] zero h = refl
no_items [] (suc n) h = refl
no_items (x ∷ xs) zero h = absurd (omega (arith, h))
no_items (x ∷ xs) (suc n) h = no_items xs n (omega (arith, h))

pub no_changes : (xs : List Change) (n : ℕ) → length xs ≤ n → changes_size (drop n xs) ≡ 0
no_changes [] zero h = refl
no_changes [] (suc n) h = refl
no_changes (x ∷ xs) zero h = absurd (omega (arith, h))
no_changes (x ∷ xs) (suc n) h = no_changes xs n (omega (arith, h))
