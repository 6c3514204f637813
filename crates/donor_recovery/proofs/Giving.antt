-- What is given of the certified transactions.
use Rattle.std.proofs.Common.{◌≡◌, Bool, true, false, not, List, [], ◌∷◌, map, refl, ap}
use Rattle.std.specs.Prelude.{filter}
use Rattle.gtid_sets.specs.Sets.{Gtids, has, with_gtid}
use Rattle.group_rules.specs.Events.{Cert}
use Rattle.group_rules.specs.Recovery.{given_of, gtids_of}
use Rattle.donor_recovery.specs.Donating.{gtids_given}

pub same_gtids : (cs : List Cert) → gtids_of cs ≡ gtids_given (map given_of cs)
same_gtids [] = refl
same_gtids (c ∷ cs) = ap (λ s. with_gtid s c.gtid) (same_gtids cs)

pub same_lacking : (e : Gtids) (cs : List Cert) → map given_of (filter (λ c. not (has e c.gtid)) cs) ≡ filter (λ g. not (has e g.gtid)) (map given_of cs)
same_lacking e [] = refl
same_lacking e (c ∷ cs) = go (has e c.gtid) refl (same_lacking e cs)
  where
    go : (b : Bool) → has e c.gtid ≡ b → map given_of (filter (λ x. not (has e x.gtid)) cs) ≡ filter (λ g. not (has e g.gtid)) (map given_of cs)
        → map given_of (filter (λ x. not (has e x.gtid)) (c ∷ cs)) ≡ filter (λ g. not (has e g.gtid)) (map given_of (c ∷ cs))
    go true f r = rw f r
    go false f r = rw f (ap (λ l. given_of c ∷ l) r)
