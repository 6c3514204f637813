-- Lists of letters: those of one sender, and how their indices rise.
use Rattle.std.specs.Prelude.{ℕ, Bool, true, List, [], ◌∷◌, ◌&&◌, nat_lt}
use Rattle.std.specs.List.{filter}
use Rattle.gr_ids.specs.declared.names.Inc.{Inc}
use Rattle.gr_ids.specs.Names.{inc_eq}
use Rattle.wire_hub.specs.declared.letter.Letter.{Letter}

-- the letters that p sent, in order
abbrev pub of : Inc → List Letter → List Letter
of p letters = filter (λ x. inc_eq p x.from) letters

-- each index is greater than the one before it, the first one greater than n
abbrev pub rises : ℕ → List Letter → Bool
rises n [] = true
rises n (x ∷ xs) = nat_lt n x.index && rises x.index xs

-- the index of the last letter, or n where there is none
abbrev pub last_index : ℕ → List Letter → ℕ
last_index n [] = n
last_index n (x ∷ xs) = last_index x.index xs
