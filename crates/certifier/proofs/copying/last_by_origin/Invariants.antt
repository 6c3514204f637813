-- What is left, put in one after another, gives the whole.
use Rattle.std.proofs.Common.{◌≡◌, map, drop}
use Rattle.std.specs.Prelude.{fold}
use Rattle.group_rules.specs.Certifier.{with_last}
use Rattle.certifier.specs.Certifying.{numbers_told}
use Rattle.certifier.specs.Inside.{last_in}
use Rattle.certifier.proofs.copying.last_by_origin.Given as goal

abbrev pub invariant-loop-told : goal.invariant-loop-told
invariant-loop-told l = fold with_last (map last_in l.last.entries) (drop l.told-index l.numbers) ≡ numbers_told l.numbers
