-- One transaction that a member commits.
use Rattle.std.specs.Prelude.{◌≡◌, ℕ, true, false, Option, Some, None, List}
use Rattle.gr_ids.specs.declared.names.Gtid.{Gtid}
use Rattle.gr_ids.specs.declared.names.Inc.{Inc}
use Rattle.gr_ids.specs.declared.names.ValueId.{ValueId}
use Rattle.gtid_sets.specs.Canonical.{IsNumber, IsUuid}
use Rattle.gtid_sets.specs.Sets.{with_gtid}
use Rattle.key_items.specs.declared.change.Change.{Change}
use Rattle.key_items.specs.declared.item.Item.{Item}
use Rattle.node_rules.specs.Lists.{In}
use Rattle.group_rules.specs.Events.{Cert, Life}
use Rattle.group_rules.specs.Queue.{is_own, pending}
use Rattle.group_rules.specs.Rows.{changed_row}
use Rattle.row_locks.specs.Locking.{without_place}
use Rattle.row_store.specs.Chains.{IsApplied, row_now, versions_of}
use Rattle.row_store.specs.Following.{HasPlaces}
use Rattle.local_sessions.specs.declared.tables.Tables.{Tables}
use Rattle.member_truth.specs.Truth.{IsInOrder}

-- the value of an own transaction
abbrev pub own_id : Inc → Cert → Option ValueId
own_id me c = elim (is_own me c) [ true ↦ Some c.id | false ↦ None ]

-- what the code has of a certified transaction
pub record IsOf (me : Inc) (c : Cert) (place : ℕ) (gtid : Gtid) (own : Option ValueId) (changes : List Change) : Type 0 where
  pub at : place ≡ c.place
  pub named : gtid ≡ c.gtid
  pub sent : own ≡ own_id me c
  pub writes : changes ≡ c.txn.changes

-- It waits to be committed, in the order of every run, and its GTID is within its range; no two that the history knows have one place.
pub record IsNext (l : Life) (c : Cert) : Type 0 where
  pub waits : In c (pending l)
  pub order : IsInOrder l c.gtid
  pub source : IsUuid c.gtid.source
  pub number : IsNumber c.gtid.number
  pub places : HasPlaces l

-- What a commit does to the tables: its changes are the newest, its GTID is executed, and its place holds nothing any more.
pub record Settles (place : ℕ) (gtid : Gtid) (changes : List Change) (was now : Tables) : Type 0 where
  pub rows : IsApplied was.store now.store gtid changes
  pub latest : (i : Item) → row_now now.store i ≡ changed_row i (row_now was.store i) changes
  pub others : now ≡ record was { store = now.store; executed = with_gtid was.executed gtid; locks = record was.locks { places = without_place place was.locks.places } }

-- the rows are as they were, and so is all else
pub record IsAsBefore (was now : Tables) : Type 0 where
  pub rows : (i : Item) → versions_of now.store i ≡ versions_of was.store i
  pub others : now ≡ record was { store = now.store }
