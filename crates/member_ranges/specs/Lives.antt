-- A history within the ranges of what a member gives to those that join.
use Rattle.std.specs.Prelude.{◌≡◌, ◌<◌, ◌≤◌, Option, Some, None, List, [], ◌∷◌, length}
use Rattle.byte_forms.specs.Lists.{IsChain}
use Rattle.name_forms.specs.Incs.{IsInc, IsIncAfter}
use Rattle.gtid_sets.specs.Canonical.{IsNumber, IsUuid}
use Rattle.slot_values.specs.Slots.{last_slot}
use Rattle.slot_values.specs.Spelling.{IsValue, last_u32}
use Rattle.txn_forms.specs.declared.body.Body.{Body}
use Rattle.txn_forms.specs.declared.body.Body.TheVariants.{Txn as Writes}
use Rattle.txn_forms.specs.Bodies.{IsBody, body_bytes}
use Rattle.paxos_forms.specs.Gives.{IsGive}
use Rattle.paxos_forms.specs.Welcomes.{IsWelcome}
use Rattle.paxos_forms.specs.declared.recovery.Give.{Give}
use Rattle.paxos_forms.specs.declared.welcome.Welcome.{Welcome}
use Rattle.node_rules.specs.Lists.{In}
use Rattle.group_rules.specs.Events.{Cert, Did, Enters, Entry, Life, Restores, Setup, Starts, Took}
use Rattle.group_rules.specs.Life.{taken, view}
use Rattle.group_rules.specs.Recovery.{certs_given}
use Rattle.group_rules.specs.View.{View, seated}
use Rattle.member_ranges.specs.Logs.{AreFew}

-- a certified transaction that can be given
pub record IsGivable (c : Cert) : Type 0 where
  pub place_above : 1 ≤ c.place
  pub place_below : c.place ≤ last_slot
  pub origin : IsInc c.id.origin
  pub source : IsUuid c.gtid.source
  pub number : IsNumber c.gtid.number
  pub body : length (body_bytes (Writes c.txn)) ≤ last_u32

abbrev pub AreGivable : List Cert → Type 0
AreGivable cs = (c : Cert) → In c cs → IsGivable c

-- what a place holds can be spelt, in the bytes of a value or of joined parts
abbrev pub IsHolding : Option Body → Type 0
IsHolding None = Unit {0}
IsHolding (Some b) = IsBody b × (length (body_bytes b) ≤ last_u32)

-- the members of a view ascend, at most nine
pub record AreSeated (v : View) : Type 0 where
  pub ascend : IsChain IsIncAfter None (seated v.seats)
  pub few : AreFew (seated v.seats)

-- an entry has a place above those before, no greater than slots are
pub record IsInPlace (s : Setup) (l : Life) (e : Entry) : Type 0 where
  pub above : taken l < e.place
  pub below : e.place ≤ last_slot
  pub value : IsValue e.value
  pub holds : IsHolding e.holds
  pub seats : AreSeated (view s (Took e ∷ l))

-- a Welcome comes before any entry
pub record IsEntering (l : Life) (w : Welcome) : Type 0 where
  pub welcome : IsWelcome w
  pub place : taken l ≤ w.place

-- a Give is taken up before any entry: it is of the place of the joiner's Add
pub record IsTakenUp (l : Life) (g : Give) (cs : List Cert) : Type 0 where
  pub give : IsGive g
  pub place : g.place ≡ taken l
  pub certs : cs ≡ certs_given g.txns

-- (a start is the first of its incarnation)
abbrev pub IsFitting : Setup → Did → Life → Type 0
IsFitting s (Starts x) l = AreGivable x.committed × (l ≡ [])
IsFitting s (Enters w) l = IsEntering l w
IsFitting s (Took e) l = IsInPlace s l e
IsFitting s (Restores g cs) l = IsTakenUp l g cs
IsFitting s d l = Unit {0}

abbrev pub AllFit : Setup → Life → Type 0
AllFit s [] = Unit {0}
AllFit s (d ∷ l) = IsFitting s d l × AllFit s l
