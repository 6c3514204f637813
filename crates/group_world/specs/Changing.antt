-- Servers that stop, that start, and to which a row is written.
use Rattle.std.specs.Prelude.{◌≡◌, ℕ, suc, Bool, true, Option, Some, None, List, [], ◌∷◌, is_some, map}
use Rattle.gr_ids.specs.declared.levels.MemberState.TheVariants.{Offline}
use Rattle.gr_ids.specs.declared.names.Inc.{Inc}
use Rattle.paxos_forms.specs.declared.message.Message.{Message}
use Rattle.paxos_forms.specs.Messages.{IsMessage}
use Rattle.node_rules.specs.Lists.{In}
use Rattle.member_messages.specs.Sending.{spelt}
use Rattle.group_rules.specs.declared.marks.Cause.TheVariants.{Started}
use Rattle.group_rules.specs.declared.marks.Mark.TheVariants.{State}
use Rattle.group_rules.specs.Events.{Setup}
use Rattle.group_rules.specs.Member.{Member}
use Rattle.group_rules.specs.Steps.{start}
use Rattle.group_rules.specs.World.{Server, joiner_of, stored_by, with_server}
use Rattle.world_servers.specs.Naming.{declared_of}
use Rattle.world_servers.specs.declared.servers.DeclaredServer.{DeclaredServer}
use Rattle.group_world.specs.Sites.{AreSites, IsSite, at_number}
use Rattle.group_world.specs.declared.site.Site.{Site}
use Rattle.group_world.specs.declared.site.Turn.{Turn}

-- the servers after a change of the one of a number, if it is there
abbrev pub with_change : (Server → Server) → Option Server → List Server → List Server
with_change f None ss = ss
with_change f (Some s) ss = with_server ss (f s)

-- this is what was declared of the server of its number
abbrev pub Tells : DeclaredServer → List Server → Type 0
Tells d ss = (s : Server) → at_number d.number ss ≡ Some s → declared_of s ≡ d

-- no incarnation of it can start, and no row be written: it isn't there, or runs
abbrev pub is_busy : Option Server → Bool
is_busy None = true
is_busy (Some s) = is_some s.running

-- ---- a stop

abbrev pub stopped : Server → Server
stopped s = record s { stored = stored_by s.stored s.running; running = None }

-- ---- a start

-- the next incarnation of a server
abbrev pub joining : Setup → Inc → Server → Member
joining t via s = start t (joiner_of s (suc s.starts)) s.stored via

abbrev pub begun : Setup → Inc → Server → Server
begun t via s = record s { starts = suc s.starts; running = Some (joining t via s) }

-- what a joiner leaves as it begins
pub record IsBegin (a : Member) (x : Turn) : Type 0 where
  pub inc : x.inc ≡ a.me.inc
  pub marks : x.left.marks.items ≡ State Offline Started ∷ []
  pub sent : x.left.sent.items ≡ map spelt a.sent
  pub spellable : (m : Message) → In m a.sent → IsMessage m

abbrev pub HasBegun : Setup → Inc → Server → Option Turn → Site → Type 0
HasBegun t via s None z = (is_some s.running ≡ true) × IsSite s z
HasBegun t via s (Some x) z = (s.running ≡ None) × IsBegin (joining t via s) x × IsSite (begun t via s) z

pub record BeginsAt (n : ℕ) (t : Setup) (via : Inc) (ss : List Server) (x : Turn) (zs : List Site) : Type 0 where
  pub server : Server
  pub at_it : at_number n ss ≡ Some server
  pub stopped : server.running ≡ None
  pub turn : IsBegin (joining t via server) x
  pub after : AreSites (with_server ss (begun t via server)) zs

abbrev pub HaveBegun : ℕ → Setup → Inc → List Server → Option Turn → List Site → Type 0
HaveBegun n t via ss None zs = (is_busy (at_number n ss) ≡ true) × AreSites ss zs
HaveBegun n t via ss (Some x) zs = BeginsAt n t via ss x zs
