-- The servers that a line names.
use Rattle.std.specs.Prelude.{ℕ, List, [], ◌∷◌, Bool, true, not, ◌==◌, ◌&&◌, Option, Some}
use Rattle.std.specs.List.{list_any}
use Rattle.script_text.specs.Words.{Text, ◌>>=◌}
use Rattle.script_text.specs.Numbers.{number_in, first_number, only_number}

abbrev pub server_of : Text → Option ℕ
server_of w = number_in 1 32 w

-- a server, and the words behind it
abbrev pub first_server : List Text → Option (ℕ × List Text)
first_server ws = first_number 1 32 ws

-- the one word is a server
abbrev pub only_server : List Text → Option ℕ
only_server ws = only_number 1 32 ws

-- each word is a server
abbrev pub all_servers : List Text → Option (List ℕ)
all_servers [] = Some []
all_servers (w ∷ ws) = do
  server ← server_of w
  others ← all_servers ws
  Some (server ∷ others)

-- none stands twice
abbrev pub are_distinct : List ℕ → Bool
are_distinct [] = true
are_distinct (n ∷ ns) = not (list_any (λ m. m == n) ns) && are_distinct ns
