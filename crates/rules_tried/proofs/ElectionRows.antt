-- The election, computed: lowest version first, then highest weight, then lowest UUID.
use Rattle.std.proofs.Common.{◌≡◌, ℕ, Option, Some, None, [], ◌∷◌, refl}
use Rattle.slot_values.specs.declared.value.Joiner.{Joiner}
use Rattle.group_rules.specs.View.{elect}
use Rattle.group_rules.specs.World.{default_uuid}

abbrev candidate : ℕ → ℕ → ℕ → Joiner
candidate n patch weight = record { inc = record { server = n; start = 1 }; uuid = default_uuid n; version = 8 ∷ 0 ∷ patch ∷ []; weight = weight }

by_uuid : elect (candidate 1 36 50 ∷ candidate 2 36 50 ∷ []) ≡ Some (candidate 1 36 50)
by_uuid = refl

by_version : elect (candidate 1 36 100 ∷ candidate 2 35 50 ∷ []) ≡ Some (candidate 2 35 50)
by_version = refl

by_weight : elect (candidate 1 36 50 ∷ candidate 2 36 60 ∷ []) ≡ Some (candidate 2 36 60)
by_weight = refl

of_none : elect [] ≡ None
of_none = refl
