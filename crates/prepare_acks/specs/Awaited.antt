-- For each AFTER transaction the members that are still awaited: those that it requires, but for its origin, those that have prepared it, and those
-- that are members no more. (MySQL 8.0 Reference Manual, Group Replication: Transaction Consistency Guarantees, AFTER.)
use Rattle.std.specs.Prelude.{Bool, true, false, not, List, [], ◌∷◌, filter, if◌then◌else◌}
use Rattle.gr_ids.specs.declared.names.Inc.{Inc}
use Rattle.gr_ids.specs.declared.names.Gtid.{Gtid}
use Rattle.gr_ids.specs.Names.{inc_eq, gtid_eq}

-- a transaction, and who is awaited
pub record Waiting : Type 0 where
  pub gtid : Gtid
  pub members : List Inc

-- who is awaited for each transaction; nobody where it isn't among these
abbrev pub awaited : List Waiting → Gtid → List Inc
awaited [] g = []
awaited (x ∷ xs) g = if gtid_eq g x.gtid then x.members else awaited xs g

-- all of these but one
abbrev pub without : Inc → List Inc → List Inc
without i ms = filter (λ m. not (inc_eq m i)) ms

-- the transaction requires the members that are ONLINE at its place
abbrev pub requiring : Gtid → Inc → List Inc → (Gtid → List Inc) → Gtid → List Inc
requiring g origin online was h = if gtid_eq g h then without origin online else was h

-- a member has prepared the transaction
abbrev pub prepared_by : Gtid → Inc → (Gtid → List Inc) → Gtid → List Inc
prepared_by g i was h = if gtid_eq g h then without i (was h) else was h

-- an incarnation is a member no more
abbrev pub left_by : Inc → (Gtid → List Inc) → Gtid → List Inc
left_by i was h = without i (was h)

abbrev pub is_none : List Inc → Bool
is_none [] = true
is_none (i ∷ is) = false

-- nobody is awaited
abbrev pub is_complete : List Waiting → Gtid → Bool
is_complete xs g = is_none (awaited xs g)
