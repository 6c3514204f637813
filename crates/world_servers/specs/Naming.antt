-- The servers that are declared, by ascending number, with what an Add tells of them; and how they stand for a world.
use Rattle.std.specs.Prelude.{◌≡◌, ◌||◌, ◌==◌, if◌then◌else◌, ℕ, Bool, Option, Some, None, List, [], ◌∷◌, map, nat_lt}
use Rattle.std.specs.List.{list_any, find}
use Rattle.gr_ids.specs.Names.{bytes_eq}
use Rattle.slot_values.specs.declared.value.Joiner.{Joiner}
use Rattle.group_rules.specs.Script.{with_joiner}
use Rattle.world_servers.specs.declared.servers.DeclaredServer.{DeclaredServer}
use Rattle.group_rules.specs.World.{Server, World, default_uuid, is_default_of_other}

abbrev pub declared_of : Server → DeclaredServer
declared_of s = record { number = s.number; uuid = s.uuid; version = s.version; weight = s.weight }

-- they are the servers of the world
abbrev pub AreOf : World → List DeclaredServer → Type 0
AreOf w xs = xs ≡ map declared_of w.servers

abbrev pub has_number : ℕ → DeclaredServer → Bool
has_number n x = x.number == n

abbrev pub is_there : List DeclaredServer → ℕ → Bool
is_there xs n = list_any (has_number n) xs

abbrev pub has_uuid : List DeclaredServer → List ℕ → Bool
has_uuid xs u = list_any (λ x. bytes_eq x.uuid u) xs

-- put among the others, ascending, in place of one of its number
abbrev pub with_declared : List DeclaredServer → DeclaredServer → List DeclaredServer
with_declared [] x = x ∷ []
with_declared (y ∷ ys) x = if y.number == x.number then x ∷ ys else (if nat_lt x.number y.number then x ∷ y ∷ ys else y ∷ with_declared ys x)

-- the number or the UUID can't be declared any more
abbrev pub is_taken_in : List DeclaredServer → ℕ → List ℕ → Bool
is_taken_in xs n u = is_there xs n || (has_uuid xs u || is_default_of_other u n 32)

-- nor be that of a group
abbrev pub is_group_taken_in : List DeclaredServer → List ℕ → Bool
is_group_taken_in xs g = has_uuid xs g || is_default_of_other g 0 32

-- ---- founders

abbrev pub joiner_as : ℕ → DeclaredServer → Joiner
joiner_as k x = record { inc = record { server = x.number; start = k }; uuid = x.uuid; version = x.version; weight = x.weight }

-- a founder that wasn't declared has a default UUID, version 8.0.36 and weight 50
abbrev pub default_of : ℕ → DeclaredServer
default_of n = record { number = n; uuid = default_uuid n; version = 8 ∷ 0 ∷ 36 ∷ []; weight = 50 }

abbrev pub declared_or : ℕ → Option DeclaredServer → DeclaredServer
declared_or n (Some x) = x
declared_or n None = default_of n

abbrev pub founder_in : List DeclaredServer → ℕ → Joiner
founder_in xs n = joiner_as 1 (declared_or n (find (has_number n) xs))

-- ascending
abbrev pub founders_in : List DeclaredServer → List ℕ → List Joiner
founders_in xs [] = []
founders_in xs (n ∷ ns) = with_joiner (founders_in xs ns) (founder_in xs n)
