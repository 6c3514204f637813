-- The texts of a server's version and of its weight.
-- (Semantic Versioning 2.0.0, sections 2 and 11; MySQL 8.0 Reference Manual, `group_replication_member_weight`.)
use Rattle.std.specs.Prelude.{ℕ, ◌==◌, Bool, ◌&&◌, ◌||◌, not, List, [], ◌∷◌, length, Option, Some, None, Result, Ok, Err, nat_lt, nat_le, slice_index, if◌then◌else◌}
use Rattle.std.specs.List.{list_all}
use Rattle.std.specs.Char.{is_ascii_digit}
use Rattle.std.specs.Str.{is_utf8}
use Rattle.std.specs.Str.Parse.{digits_value}
use Rattle.semver.specs.declared.error.Error.{Error}
use Rattle.semver.specs.Parse.{Parts, version_parts}
use Rattle.gr_ids.specs.Names.{bytes_lt}

-- ---- versions

-- the first version whose elections go by version and weight among all members
abbrev pub least_version : List ℕ
least_version = 8 ∷ 0 ∷ 17 ∷ []

-- the numbers of a version, if it has no pre-release and no build and is no older than the least one
abbrev pub plain_version : Result Parts Error → Option (List ℕ)
plain_version (Err e) = None
plain_version (Ok p) =
    let numbers : List ℕ = p.0 ∷ p.1 ∷ p.2 ∷ [] in
    if (length p.3 == 0) && (length p.4 == 0) && not (bytes_lt numbers least_version) then Some numbers else None

-- the three numbers that a text stands for
unfoldable pub version_of : List ℕ → Option (List ℕ)
version_of text = if is_utf8 text then plain_version (version_parts text) else None

-- ---- weights

-- decimal digits without a leading zero
abbrev pub is_number : List ℕ → Bool
is_number text = list_all is_ascii_digit text && nat_lt 0 (length text) && (not (slice_index text 0 == 48) || (length text == 1))

-- a number of 0 to 100
unfoldable pub weight_of : List ℕ → Option ℕ
weight_of text = if is_number text && nat_le (digits_value 10 text) 100 then Some (digits_value 10 text) else None
