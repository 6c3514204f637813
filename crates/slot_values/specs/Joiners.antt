-- Joiners as bytes: the incarnation, the sixteen bytes of its UUID, the version's three numbers in eight bytes each, and the weight,
-- 0 to 100, in one byte.
use Rattle.std.specs.Prelude.{◌≡◌, ℕ, ◌≤◌, ◌<◌, ◌^◌, true, Option, Some, None, List, [], ◌∷◌, ◌++◌, length, flat_map}
use Rattle.std.specs.List.{AllByRecursion}
use Rattle.byte_forms.specs.Numbers.{number}
use Rattle.byte_forms.specs.Reads.{Reader, ◌>>=◌, pure}
use Rattle.byte_forms.specs.Fields.{number_in, word}
use Rattle.name_forms.specs.Incs.{IsIncAfter, inc_bytes, next_inc_after}
use Rattle.name_forms.specs.Ids.{last_u64}
use Rattle.slot_values.specs.Values.{Inc, Joiner}

-- the incarnation of a joiner is above the one before, if there is one
pub record IsJoinerAfter (before : Option Inc) (j : Joiner) : Type 0 where
  pub inc : IsIncAfter before j.inc
  pub uuid : length j.uuid ≡ 16
  pub parts : length j.version ≡ 3
  pub small : AllByRecursion (λ n. n ≤ last_u64) j.version
  pub weight : j.weight ≤ 100

abbrev pub IsJoiner : Joiner → Type 0
IsJoiner j = IsJoinerAfter None j

abbrev pub joiner_bytes : Joiner → List ℕ
joiner_bytes j = inc_bytes j.inc ++ (j.uuid ++ (flat_map (number 8) j.version ++ number 1 j.weight))

unfoldable pub next_joiner_after : Option Inc → Reader Joiner
next_joiner_after before = do
  inc ← next_inc_after before
  uuid ← word 16
  major ← number_in 8 0 last_u64
  minor ← number_in 8 0 last_u64
  patch ← number_in 8 0 last_u64
  weight ← number_in 1 0 100
  pure (record { inc = inc; uuid = uuid; version = major ∷ minor ∷ patch ∷ []; weight = weight })

abbrev pub next_joiner : Reader Joiner
next_joiner = next_joiner_after None
