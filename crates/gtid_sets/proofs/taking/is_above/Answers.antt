use Rattle.std.proofs.Common.{sym, ap, ◌∙◌}
use Rattle.gtid_sets.specs.Spelling.{is_above as uuid_is_above}
use Rattle.gtid_sets.proofs.Keys.{array_lt}
use Rattle.gtid_sets.proofs.taking.is_above.Goals as goal

pub returns-in-Some : goal.returns-in-Some
returns-in-Some c = c.lt.ensures ∙ array_lt c.in-Some.b c.args.uuid.now ∙ ap (λ o. uuid_is_above o c.args.uuid.now) (sym c.in-Some.is)
