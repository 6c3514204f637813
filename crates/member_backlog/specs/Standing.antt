-- How they stand for a history.
use Rattle.std.specs.Prelude.{◌≡◌, Bool, true, false, List, map}
use Rattle.gtid_sets.specs.Canonical.{IsCanonical}
use Rattle.group_rules.specs.Events.{Cert, Committed, Did, Life, Restores, Starts, Took}
use Rattle.group_rules.specs.Life.{executed}
use Rattle.group_rules.specs.Queue.{pending}
use Rattle.member_backlog.specs.Waiting.{Uncommitted}

abbrev pub uncommitted_of : Cert → Uncommitted
uncommitted_of c = record { place = c.place; id = c.id; gtid = c.gtid; after = c.txn.after }

-- they are the transactions that are pending by the rules of the group
pub record Waits (l : Life) (us : List Uncommitted) : Type 0 where
  pub waiting : us ≡ map uncommitted_of (pending l)
  pub set : IsCanonical (executed l)

-- a start, an entry, a Give and a commit change what is pending
abbrev pub is_of_backlog : Did → Bool
is_of_backlog (Starts x) = true
is_of_backlog (Took e) = true
is_of_backlog (Restores g cs) = true
is_of_backlog (Committed g) = true
is_of_backlog d = false
