use Rattle.std.proofs.Common.{◌≡◌, List, ℕ, None, Bool, true, false, refl}
use Rattle.std.specs.Str.{IsUtf8, is_utf8}
use Rattle.std.proofs.lemmas.Str.{IsUtf8-from_is_utf8, is_utf8-from_IsUtf8}
use Rattle.semver.specs.Parse.{version_parts}
use Rattle.primary_election.specs.Texts.{plain_version, version_of}
use Rattle.primary_election.proofs.versions.read_version.Goals as goal

false_if : (b : Bool) → (b ≡ true → ⊥) → b ≡ false
false_if true h = absurd (h refl)
false_if false h = refl

no_text : (xs : List ℕ) → ¬ (IsUtf8 xs) → version_of xs ≡ None
unfolding version_of
no_text xs h = rw (false_if (is_utf8 xs) (λ e. h (IsUtf8-from_is_utf8 xs e))) refl

of_text : (xs : List ℕ) → IsUtf8 xs → version_of xs ≡ plain_version (version_parts xs)
unfolding version_of
of_text xs h = rw (is_utf8-from_IsUtf8 xs h) refl

pub returns-in-Err : goal.returns-in-Err
returns-in-Err c = no_text _ c.in-Err.ensures.cases.0

pub returns-in-Ok : goal.returns-in-Ok
returns-in-Ok c = rw (of_text _ c.in-Ok.ensures.cases.1, ← c.in-Ok.ensures.cases.0) c.read_text.ensures
