-- How the tables of a member, and its sessions, stand for it.
use Rattle.std.specs.Prelude.{◌≡◌, ℕ, Bool, true, false}
use Rattle.gr_ids.specs.Names.{gtid_eq}
use Rattle.gr_ids.specs.declared.names.Inc.{Inc}
use Rattle.gtid_sets.specs.Canonical.{IsCanonical}
use Rattle.node_rules.specs.Lists.{In}
use Rattle.group_rules.specs.Events.{AskFails, AsksCommit, Answered, Begun, Called, Came, Cert, Changed, Committed, Did, Done, Ends, Enters, Founds, Gave, Is, Life, Made, Replied, Restores, Setup, Skips, Starts, Took}
use Rattle.group_rules.specs.Life.{executed, state, view}
use Rattle.group_rules.specs.Member.{Member}
use Rattle.group_rules.specs.Queue.{queue}
use Rattle.group_rules.specs.Rows.{known}
use Rattle.group_rules.specs.Sessions.{begun_set, is_active, phase}
use Rattle.row_store.specs.Following.{HasCommitted, IsPartOf, RowsOf}
use Rattle.local_sessions.specs.declared.tables.Tables.{Tables}
use Rattle.local_sessions.specs.Following.{AsksOnce, LeftActive, LocksOf, StandFor, done_places}
use Rattle.member_tables.specs.declared.tables.MemberTables.{MemberTables}

-- no two certified transactions that it knows have one GTID
abbrev pub HasGtids : Life → Type 0
HasGtids l = (c d : Cert) → In c (known l) → In d (known l) → gtid_eq c.gtid d.gtid ≡ true → c ≡ d

-- What is executed, the state, the mode and the primary; the rows, and the places that are done. Each active transaction reads what was executed; and what
-- was executed of the certified transactions was committed here.
pub record Keeps (s : Setup) (me : Inc) (l : Life) (at : Tables) : Type 0 where
  pub is_me : at.me ≡ me
  pub set : at.executed ≡ executed l
  pub own_state : at.state ≡ state l
  pub mode : at.mode ≡ (view s l).mode
  pub primary : at.primary ≡ (view s l).primary
  pub rows : RowsOf l at.store
  pub places : at.locks.places ≡ done_places l (queue l me)
  pub reads : (t : ℕ) → is_active (phase l t) ≡ true → IsPartOf (begun_set l t) (executed l)
  pub canonical : IsCanonical (executed l)
  pub kept : HasCommitted l
  pub gtids : HasGtids l

-- the sessions and the keys too, those that were left, and those whose commit is asked
pub record Stands (s : Setup) (me : Inc) (l : Life) (x : MemberTables) : Type 0 where
  pub tables : Keeps s me l x.tables
  pub locks : LocksOf x.tables.locks l
  pub sessions : StandFor x.sessions l
  pub left : LeftActive l
  pub once : AsksOnce l

-- the tables stand for the member, whatever its node is and what it has sent
abbrev pub TablesFor : Member → MemberTables → Type 0
TablesFor a x = Stands a.setup a.me.inc a.life x

-- a begin, an entry, a place that is done, a commit, a state, a Welcome and a Give change what is in the tables, or who reads it
abbrev pub is_of_tables : Did → Bool
is_of_tables Founds = true
is_of_tables (Starts d) = true
is_of_tables (Came e) = false
is_of_tables (Made v b) = false
is_of_tables (Took e) = true
is_of_tables (Skips t v) = false
is_of_tables (Done p) = true
is_of_tables (Committed g) = true
is_of_tables (Is s c) = true
is_of_tables (Gave p n) = false
is_of_tables (Answered s x) = false
is_of_tables (Begun s e y) = true
is_of_tables (Changed s c) = false
is_of_tables (Replied r) = false
is_of_tables (Called s v w) = false
is_of_tables (AsksCommit s i) = false
is_of_tables (Ends s) = false
is_of_tables (Enters w) = true
is_of_tables (Restores g cs) = true
is_of_tables AskFails = false
