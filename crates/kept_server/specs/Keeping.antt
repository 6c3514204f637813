-- What a server keeps while no incarnation of it runs, and how that stands for what the rules have it store.
use Rattle.std.specs.Prelude.{◌≡◌, ◌≤◌, ◌++◌, ◌∷◌, [], ℕ, suc, List, length, map}
use Rattle.gtid_sets.specs.Canonical.{IsCanonical}
use Rattle.gtid_sets.specs.Sets.{Gtids}
use Rattle.key_items.specs.declared.item.Item.{Item}
use Rattle.paxos_forms.specs.declared.recovery.Given.{Given}
use Rattle.node_rules.specs.Lists.{In}
use Rattle.group_rules.specs.Events.{Life, OfflineWrite, Starts, Stored}
use Rattle.group_rules.specs.Life.{certs, executed, stored}
use Rattle.group_rules.specs.Recovery.{given_of}
use Rattle.group_rules.specs.World.{committed_of}
use Rattle.row_store.specs.Chains.{Chain}
use Rattle.row_store.specs.Following.{HasPlaces, RowsOf}
use Rattle.member_tables.specs.Standing.{HasGtids}
use Rattle.kept_server.specs.declared.kept.Earlier.{Earlier}
use Rattle.kept_server.specs.declared.kept.KeptServer.{KeptServer}

-- its executed set, its rows and the transactions that it committed
pub record IsStored (y : Stored) (e : Gtids) (cs : List Chain) (gs : List Given) : Type 0 where
  pub executed : e ≡ y.executed
  pub canonical : IsCanonical y.executed
  pub rows : RowsOf (Starts y ∷ []) cs
  pub gtids : HasGtids (Starts y ∷ [])
  pub places : HasPlaces (Starts y ∷ [])
  pub committed : gs ≡ map given_of y.committed

-- what was committed by incarnations before the one that runs, and how many rows were written while none ran, under the first numbers
pub record IsEarlier (y : Stored) (x : Earlier) : Type 0 where
  pub committed : x.committed.items ≡ map given_of y.committed
  pub written : x.written ≡ length y.writes
  pub numbers : (w : OfflineWrite) → In w y.writes → w.gtid.number ≤ length y.writes

-- it stands for what a server of the rules has stored
pub record KeptFor (y : Stored) (k : KeptServer) : Type 0 where
  pub stored : IsStored y k.executed k.store k.earlier.committed.items
  pub earlier : IsEarlier y k.earlier

-- ---- an incarnation that stops

-- what is stored behind it
abbrev pub left_of : Life → Stored
left_of l = record { executed = executed l; committed = (stored l).committed ++ committed_of l (certs l); writes = (stored l).writes }

-- ---- a row that is written offline

-- the next write of a server with this UUID
abbrev pub offline_write : List ℕ → Item → List ℕ → Stored → OfflineWrite
offline_write u i r y = record { gtid = record { source = u; number = suc (length y.writes) }; item = i; row = r }
