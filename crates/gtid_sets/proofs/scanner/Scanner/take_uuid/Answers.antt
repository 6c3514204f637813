use Rattle.std.proofs.Common.{take, drop, sym, ap, ◌∙◌}
use Rattle.std.proofs.lemmas.List.{take_rest}
use Rattle.gr_ids.specs.Uuids.{uuid_of}
use Rattle.gtid_sets.proofs.Scanning.{uuid_found}
use Rattle.gtid_sets.proofs.scanner.Scanner.take_uuid.Goals as goal

pub returns-in-Ok-clause-found : goal.returns-in-Ok-clause-found
returns-in-Ok-clause-found c =
    let here = ap (λ x. x.left) c.self.view_is in
    record {
      value = uuid_found _ _ _ _ (ap (λ xs. uuid_of (take 36 xs)) (sym here) ∙ c.in-Ok.ensures) (take_rest c.self.inside.left.now 36 ∙ ap (drop 36) here);
      whole = ap (λ x. x.total) c.self.view_is;
    }
