-- Where the servers of a world stand: whether an incarnation runs, and what a server keeps that none runs at.
use Rattle.std.specs.Prelude.{◌≡◌, ◌<◌, ◌==◌, nat_lt, not, ℕ, Option, Some, None, List, [], ◌∷◌, map}
use Rattle.std.specs.List.{find, prefix_len}
use Rattle.paxos_forms.specs.declared.message.Message.{Message}
use Rattle.paxos_forms.specs.Messages.{IsMessage}
use Rattle.node_rules.specs.Lists.{In}
use Rattle.member_messages.specs.Sending.{spelt}
use Rattle.member_truth.specs.Ranged.{IsRanged}
use Rattle.group_rules.specs.Events.{Event, marks_of}
use Rattle.group_rules.specs.Histories.{arranged}
use Rattle.group_rules.specs.Life.{stored}
use Rattle.group_rules.specs.Member.{Member}
use Rattle.group_rules.specs.Steps.{step, left_by}
use Rattle.group_rules.specs.World.{Server, running_of, with_server}
use Rattle.kept_server.specs.Keeping.{KeptFor}
use Rattle.member_core.specs.declared.member.Member.{Member as Runner}
use Rattle.member_core.specs.Standing.{IsMember}
use Rattle.member_moment.specs.Doing.{IsKept}
use Rattle.group_world.specs.declared.site.Site.{Site}
use Rattle.group_world.specs.declared.site.Stay.{Stay}
use Rattle.group_world.specs.declared.site.Stay.TheVariants.{Stopped, Running}
use Rattle.group_world.specs.declared.site.Turn.{Turn}

-- ---- one server

abbrev pub IsStay : Server → Stay → Type 0
IsStay s (Stopped k) = (s.running ≡ None) × KeptFor s.stored k
IsStay s (Running m) = (a : Member) × (s.running ≡ Some a) × IsMember a m × (stored a.life ≡ s.stored)

pub record IsSite (s : Server) (z : Site) : Type 0 where
  pub number : z.number ≡ s.number
  pub starts : z.starts ≡ s.starts
  pub stay : IsStay s z.stay

-- ---- all of them

abbrev pub AreSites : List Server → List Site → Type 0
AreSites [] [] = Unit {0}
AreSites [] (z ∷ zs) = ⊥
AreSites (s ∷ ss) [] = ⊥
AreSites (s ∷ ss) (z ∷ zs) = IsSite s z × AreSites ss zs

-- how many stand before the one of this number
abbrev pub before : ℕ → List Site → ℕ
before n zs = prefix_len (λ z. not (z.number == n)) zs

-- how many have no greater number
abbrev pub under : ℕ → List Site → ℕ
under n zs = prefix_len (λ z. not (nat_lt n z.number)) zs

-- the site of a server
abbrev pub HasSite : Option Server → Option Site → Type 0
HasSite None None = Unit {0}
HasSite None (Some z) = ⊥
HasSite (Some s) None = ⊥
HasSite (Some s) (Some z) = IsSite s z

-- the member that runs, if one does
abbrev pub HasMember : Option Member → Option Runner → Type 0
HasMember None None = Unit {0}
HasMember None (Some m) = ⊥
HasMember (Some a) None = ⊥
HasMember (Some a) (Some m) = IsMember a m

-- each number is below those behind it
abbrev pub Rises : List Server → Type 0
Rises [] = Unit {0}
Rises (s ∷ ss) = ((x : Server) → In x ss → s.number < x.number) × Rises ss

-- the server of this number
abbrev pub at_number : ℕ → List Server → Option Server
at_number n ss = find (λ s. s.number == n) ss

-- ---- a step of a member

-- what a step leaves
pub record IsTurn (e : Event) (a : Member) (t : Turn) : Type 0 where
  pub inc : t.inc ≡ a.me.inc
  pub marks : t.left.marks.items ≡ marks_of (left_by a (step e a))
  pub sent : t.left.sent.items ≡ map spelt (arranged (step e a).sent)
  pub spellable : (m : Message) → In m (step e a).sent → IsMessage m
  pub ranged : IsRanged (step e a).life

-- the server after a step of its member
abbrev pub after_step : Event → Server → Member → Server
after_step e s a = record s { running = Some (step e a) }

abbrev pub HasStepped : Event → Server → Option Turn → Site → Type 0
HasStepped e s None z = (s.running ≡ None) × IsSite s z
HasStepped e s (Some t) z = (a : Member) × (s.running ≡ Some a) × (IsKept (step e a) → IsTurn e a t × IsSite (after_step e s a) z)

pub record StepsAt (n : ℕ) (e : Event) (ss : List Server) (t : Turn) (zs : List Site) : Type 0 where
  pub server : Server
  pub member : Member
  pub at_it : at_number n ss ≡ Some server
  pub running : server.running ≡ Some member
  pub after : IsKept (step e member) → IsTurn e member t × AreSites (with_server ss (after_step e server member)) zs

abbrev pub HaveStepped : ℕ → Event → List Server → Option Turn → List Site → Type 0
HaveStepped n e ss None zs = (running_of (at_number n ss) ≡ None) × AreSites ss zs
HaveStepped n e ss (Some t) zs = StepsAt n e ss t zs
