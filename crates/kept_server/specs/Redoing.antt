-- Transactions that are committed again over what a server had, one after another.
use Rattle.std.specs.Prelude.{◌≡◌, ◌<◌, ◌++◌, ◌∷◌, [], false, true, Some, List}
use Rattle.gr_ids.specs.Names.{gtid_eq}
use Rattle.gtid_sets.specs.Canonical.{IsNumber, IsUuid}
use Rattle.gtid_sets.specs.Sets.{has, with_gtid}
use Rattle.txn_forms.specs.declared.body.Body.TheVariants.{Txn as Writes}
use Rattle.txn_forms.specs.Bodies.{body_bytes, read_body}
use Rattle.paxos_forms.specs.declared.recovery.Given.{Given}
use Rattle.node_rules.specs.Lists.{In}
use Rattle.group_rules.specs.Events.{Cert, Stored}
use Rattle.group_rules.specs.Recovery.{given_of}
use Rattle.row_store.specs.Following.{AreApart}

-- what is stored once this one is committed
abbrev pub committing : Stored → Cert → Stored
committing y c = record { executed = with_gtid y.executed c.gtid; committed = y.committed ++ c ∷ []; writes = y.writes }

-- It may be committed: it is new, no other has its GTID or its place, those behind it that are executed already share no row with it, and no row was written while
-- the server didn't run. It is read from its bytes.
pub record MayCommit (y : Stored) (c : Cert) : Type 0 where
  pub unexecuted : has y.executed c.gtid ≡ false
  pub only : (d : Cert) → In d y.committed → gtid_eq d.gtid c.gtid ≡ true → d ≡ c
  pub placed : (d : Cert) → In d y.committed → d.place ≡ c.place → d ≡ c
  pub ahead : (d : Cert) → In d y.committed → has y.executed d.gtid ≡ true → c.place < d.place → AreApart c.txn.changes d.txn.changes
  pub unwritten : y.writes ≡ []
  pub source : IsUuid c.gtid.source
  pub number : IsNumber c.gtid.number
  pub read : read_body (body_bytes (Writes c.txn)) ≡ Some (Writes c.txn)

-- Their commits, one after another, lead from what is stored to this.
abbrev pub LeadTo : Stored → List Given → Stored → Type 0
LeadTo y [] z = y ≡ z
LeadTo y (g ∷ gs) z = (c : Cert) × (g ≡ given_of c) × MayCommit y c × LeadTo (committing y c) gs z
