use Rattle.std.proofs.Common.{◌≡◌, ◌==◌, ◌&&◌, ℕ, List, Some, None, Result, Ok, Err, Bool, true, false, length, refl, arith, if◌then◌else◌}
use Rattle.std.proofs.lemmas.Bool.{false≢true}
use Rattle.std.proofs.lemmas.Bool.Decides.{nat_tests}
use Rattle.semver.specs.Parse.{IsPlain, Parts}
use Rattle.semver.specs.declared.error.Error.{Error}
use Rattle.semver.specs.declared.Version.{Version}
use Rattle.primary_election.specs.Texts.{plain_version}
use Rattle.primary_election.proofs.versions.read_text.Goals as goal

none_if : (b c d : Bool) (n : List ℕ) → (b ≡ true → c ≡ true → ⊥) → (if b && c && d then Some n else None) ≡ None
none_if true true d n h = absurd (h refl refl)
none_if true false d n h = refl
none_if false true d n h = refl
none_if false false d n h = refl

-- a version without pre-release and build is parsed
refused : (r : Result Parts Error) (e : Error) → IsPlain {T = Version} r (Err e) → plain_version r ≡ None
refused (Err f) e h = refl
refused (Ok p) e h = none_if (length p.3 == 0) (length p.4 == 0) _ _ (λ x y.
    let no_pre : length p.3 ≡ 0 = grind (arith, nat_tests, x) in
    let no_build : length p.4 ≡ 0 = grind (arith, nat_tests, y) in
    false≢true (h no_pre no_build))

pub returns-in-Ok : goal.returns-in-Ok
returns-in-Ok c = rw c.in-Ok.ensures.ok c.plain_numbers.ensures

pub returns-in-Err : goal.returns-in-Err
returns-in-Err c = refused _ c.in-Err.error c.in-Err.ensures.plain
