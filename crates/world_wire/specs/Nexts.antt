-- Which letter comes next, where these incarnations run.
use Rattle.std.specs.Prelude.{◌&&◌, ◌||◌, ◌==◌, ℕ, Bool, true, false, List, [], ◌∷◌, Option, Some, None, nat_lt}
use Rattle.std.specs.List.{list_any, slice_get}
use Rattle.gr_ids.specs.Names.{has_inc}
use Rattle.gr_ids.specs.declared.names.Inc.{Inc}
use Rattle.group_rules.specs.Script.{Letter}

-- neither delivered nor lost
abbrev pub is_open : Letter → Bool
is_open x = elim (x.delivered || x.lost) [ true ↦ false | false ↦ true ]

-- both of these servers are among them; none stand for all
abbrev pub are_among : List ℕ → ℕ → ℕ → Bool
are_among [] a b = true
are_among (n ∷ ns) a b = list_any (λ x. x == a) (n ∷ ns) && list_any (λ x. x == b) (n ∷ ns)

-- letters from this server to this incarnation are taken
abbrev pub serves : List ℕ → List Inc → ℕ → Inc → Bool
serves ns is from to = are_among ns from to.server && has_inc is to

-- `is_next` of the rules, where these incarnations run
abbrev pub is_next_of : List ℕ → List Inc → Letter → Bool
is_next_of ns is x = is_open x && serves ns is x.message.from.server x.message.to

-- there is a letter, and it passes the test
abbrev pub passes : (Letter → Bool) → Option Letter → Bool
passes p None = false
passes p (Some x) = p x

-- the letter with this index
abbrev pub is_next_at : List ℕ → List Inc → List Letter → ℕ → Bool
is_next_at ns is xs i = passes (is_next_of ns is) (slice_get xs i)

-- the lower of two
abbrev pub lower : Option ℕ → Option ℕ → Option ℕ
lower None b = b
lower (Some i) None = Some i
lower (Some i) (Some j) = elim (nat_lt j i) [ true ↦ Some j | false ↦ Some i ]
