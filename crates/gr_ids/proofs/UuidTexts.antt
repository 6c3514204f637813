-- The text of a UUID as a text of std.
use Rattle.std.proofs.Common.{ℕ, List, inl, refl}
use Rattle.std.specs.Str.{IsUtf8}
use Rattle.std.proofs.lemmas.Str.{IsUtf8-from_ascii}
use Rattle.uuid.proofs.TextLemmas.{hyphenated_ascii}
use Rattle.uuid.specs.Text.{lower}
use Rattle.gr_ids.specs.Uuids.{uuid_text}

pub uuid_text-IsUtf8 : (id : List ℕ) → IsUtf8 (uuid_text id)
uuid_text-IsUtf8 id = IsUtf8-from_ascii _ (hyphenated_ascii lower id (inl refl))
