-- A run in which numbers stay within the ranges of their forms. (Members refuse a transaction whose GTID would have a greater number.)
use Rattle.std.specs.Prelude.{◌≡◌, ◌∷◌}
use Rattle.gr_ids.specs.declared.names.Inc.{Inc}
use Rattle.gr_ids.specs.declared.names.Gtid.{Gtid}
use Rattle.gtid_sets.specs.Canonical.{IsNumber}
use Rattle.group_rules.specs.declared.marks.Effect.TheVariants.{Positive}
use Rattle.group_rules.specs.Events.{Took, Entry}
use Rattle.group_rules.specs.Legal.{IsPast}
use Rattle.group_rules.specs.World.{Past, Does}
use Rattle.group_runs.specs.Servers.{AllWritten}

-- the GTIDs that are given and written offline have numbers that a GTID may have
pub record HasSmallNumbers (w : Past) : Type 0 where
  pub given : (p : Past) (i : Inc) (e : Entry) (g : Gtid) → IsPast (Does i (Took e) ∷ p) w → e.effect ≡ Positive g → IsNumber g.number
  pub written : AllWritten (λ p n x. IsNumber x.gtid.number) w
