-- An incarnation joins: it asks a donor, a Welcome comes, and a Give.
use Rattle.std.specs.Prelude.{◌≡◌, ◌≤◌, ◌+◌, ◌++◌, ◌∷◌, [], false, Option, Some, None, List, true, is_some, length, map}
use Rattle.gr_ids.specs.declared.names.Inc.{Inc}
use Rattle.gr_ids.specs.declared.levels.MemberState.TheVariants.{Recovering}
use Rattle.paxos_forms.specs.declared.message.Wire.{Wire}
use Rattle.paxos_forms.specs.declared.message.Wire.TheVariants.{Welcome as Greet}
use Rattle.paxos_forms.specs.declared.welcome.Welcome.{Welcome}
use Rattle.node_rules.specs.declared.event.PaxosEvent.{PaxosEvent}
use Rattle.node_rules.specs.declared.event.PaxosEvent.TheVariants.{Heard}
use Rattle.group_rules.specs.declared.marks.Cause.TheVariants.{Welcomed}
use Rattle.group_rules.specs.declared.marks.Reply.TheVariants.{Asked}
use Rattle.group_rules.specs.declared.marks.Mark.TheVariants.{State as StateMark}
use Rattle.group_rules.specs.Events.{Enters, Is, Life, Replied, Restores, Setup}
use Rattle.group_rules.specs.Life.{certs, entered, executed, is_error, is_recovering, state}
use Rattle.group_rules.specs.Member.{Member, at_node, push}
use Rattle.group_rules.specs.Recovery.{add_place, ask_wire, certs_given, pending_ask, restore, unless_self}
use Rattle.group_rules.specs.Welcomes.{hear_welcome}
use Rattle.member_parts.specs.Standing.{StandsFor}
use Rattle.member_tables.specs.Standing.{TablesFor}
use Rattle.member_backlog.specs.Standing.{uncommitted_of}
use Rattle.member_backlog.specs.declared.uncommitted.Uncommitted.{Uncommitted}
use Rattle.member_parts.specs.Joining.{IsBare}
use Rattle.member_truth.specs.Truth.{IsTrueGive}
use Rattle.certifier.specs.Certifying.{AreOfBlocks}
use Rattle.donor_recovery.specs.Asking.{begin_of}
use Rattle.donor_recovery.specs.declared.at_add.Begin.{Begin}
use Rattle.gtid_sets.specs.Sets.{minus}
use Rattle.paxos_forms.specs.Gives.{IsGive}
use Rattle.paxos_forms.specs.declared.recovery.Give.{Give}
use Rattle.member_joining.specs.Reading.{cert_of_given}
use Rattle.member_joining.specs.declared.given_txn.GivenTxn.{GivenTxn}
use Rattle.member_joining.specs.Asking.{pending_in, place_in, welcomed}
use Rattle.member_moment.specs.declared.moment.Moment.{Moment}

-- ---- the ask

-- the ask is replied, and sent, unless this incarnation is named itself
abbrev pub asks_of : Inc → Member → Member
asks_of d a = unless_self d (ask_wire a) (push (Replied (Asked d)) a)

-- ---- a Welcome

abbrev pub welcome_by : Wire → Option Welcome
welcome_by (Greet w) = Some w
welcome_by x = None

-- the Welcome that comes
abbrev pub welcome_in : PaxosEvent → Option Welcome
welcome_in (Heard m) = welcome_by m.wire
welcome_in e = None

-- the member is welcomed, if this is a Welcome
abbrev pub welcomed_by : Option Welcome → Member → Member
welcomed_by (Some w) a = hear_welcome w a
welcomed_by None a = a

-- the node hears it first
abbrev pub greets_of : PaxosEvent → Member → Member
greets_of e a = welcomed_by (welcome_in e) (at_node e a)

-- A joiner that was OFFLINE is RECOVERING.
abbrev pub enters_of : Welcome → Member → Member
enters_of w a = push (Is Recovering Welcomed) (push (Enters w) a)

-- the parts, the tables and the joining have it, and the marks
pub record Entering (w : Welcome) (x y : Moment) : Type 0 where
  pub others : y ≡ record x { parts = y.parts; tables = y.tables; joining = y.joining; marks = y.marks }
  pub joins : y.joining ≡ welcomed x.tables.tables.executed w.place
  pub parts : (s : Setup) (l : Life) → s.limits ≡ x.limits → certs l ≡ [] → StandsFor s x.me.inc l x.parts → StandsFor s x.me.inc (Enters w ∷ l) y.parts
  pub tables : (a : Member) → is_error (state a.life) ≡ false → TablesFor a x.tables → TablesFor (enters_of w a) y.tables
  pub marks : y.marks.items ≡ x.marks.items ++ StateMark Recovering Welcomed ∷ []

-- where its numbers fit, and it names no place that was taken
abbrev pub IsEntered : Welcome → Moment → Moment → Type 0
IsEntered w x y = w.number ≤ w.place + 1 → x.parts.list.taken ≤ w.place → Entering w x y

-- ---- a Give

-- what is given is taken up, unless the joiner has transactions that the group hasn't
abbrev pub takes_up : Give → Member → Member
takes_up g a = restore g (certs_given g.txns) (minus (executed a.life) g.certified) a

-- a Give that may be taken up: it is asked for, of the last place taken, and its transactions are read
pub record IsTakeable (x : Moment) (g : Give) (ts : List GivenTxn) : Type 0 where
  pub give : IsGive g
  pub pending : is_some (pending_in x.joining) ≡ true
  pub place : g.place ≡ place_in x.joining
  pub taken : g.place ≡ x.parts.list.taken
  pub blocks : AreOfBlocks x.parts.list.limits.block g.blocks g.last
  pub all : map {A = GivenTxn} (λ t. t.given) ts ≡ g.txns
  pub certs : certs_given g.txns ≡ map cert_of_given ts
  pub each : length (certs_given g.txns) ≡ length g.txns

-- a transaction that was given, as it waits to be committed
abbrev pub waiting_of : GivenTxn → Uncommitted
waiting_of t = uncommitted_of (cert_of_given t)

-- it is asked for by this member
pub record Awaits (g : Give) (a : Member) : Type 0 where
  pub recovering : is_recovering (state a.life) ≡ true
  pub pending : is_some (pending_ask a.life) ≡ true
  pub place : g.place ≡ add_place (entered a.life)

-- what the parts make of it
abbrev pub Restored : Begin → List GivenTxn → Moment → Moment → Type 0
Restored b ts x y = (s : Setup) (l : Life) (g : Give) → IsGive g → b ≡ begin_of g → certs_given g.txns ≡ map cert_of_given ts → length (certs_given g.txns) ≡ length g.txns
    → x.tables.tables.executed ≡ executed l → IsTrueGive x.me.inc l (certs_given g.txns) → IsBare l → StandsFor s x.me.inc l x.parts → StandsFor s x.me.inc (Restores g (certs_given g.txns) ∷ l) y.parts
