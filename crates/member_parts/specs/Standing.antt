-- How the parts of a member that its entries change stand for its history.
use Rattle.std.specs.Prelude.{◌≡◌, ◌<◌, ◌≤◌, ℕ, suc, Bool, true, false, Some, None, List, map, filter, reverse}
use Rattle.gr_ids.specs.declared.names.Inc.{Inc}
use Rattle.gr_ids.specs.Names.{gtid_eq}
use Rattle.txn_forms.specs.declared.body.Body.TheVariants.{Txn as Writes}
use Rattle.txn_forms.specs.Bodies.{body_bytes, read_body}
use Rattle.node_rules.specs.Lists.{In}
use Rattle.group_rules.specs.Events.{AsksCommit, Begun, Called, Came, Cert, Committed, Did, Done, Ends, Enters, Founds, Hears, Is, Life, Made, Restores, Setup, Starts, Ticks, Took}
use Rattle.group_rules.specs.Life.{certs, entry_at, is_error, last_made, own_place, state, taken}
use Rattle.group_rules.specs.Queue.{is_done, is_own, pending}
use Rattle.apply_queue.specs.Following.{IsRising, QueuedOf}
use Rattle.consistency_waits.specs.Following.{HeldOf}
use Rattle.donor_recovery.specs.Laws.{Donates}
use Rattle.failure_events.specs.Watching.{Watches}
use Rattle.list_state.specs.Following.{Follows}
use Rattle.member_backlog.specs.Standing.{Waits}
use Rattle.prepare_acks.specs.Following.{AwaitedOf, IsGtid, RequiredOf, SentOf}
use Rattle.member_parts.specs.declared.parts.MemberParts.{MemberParts}
use Rattle.member_parts.specs.Remote.{OwnWork, free_from, own_work}

-- Nothing is taken or done at a place above the last one, and no own value is taken before it is made. The certified transactions stand by ascending
-- place, each with a GTID of its own, and are read from their bytes.
pub record IsOrderly (me : Inc) (l : Life) : Type 0 where
  pub untaken : (p : ℕ) → taken l < p → entry_at l p ≡ None
  pub undone : (p : ℕ) → taken l < p → is_done l p ≡ false
  pub unmade : (n : ℕ) → last_made l < n → own_place l me n ≡ None
  pub rising : IsRising (reverse (certs l))
  pub distinct : (c d : Cert) → In c (certs l) → In d (certs l) → gtid_eq c.gtid d.gtid ≡ true → c ≡ d
  pub gtids : (c : Cert) → In c (certs l) → IsGtid c.gtid
  pub read : (c : Cert) → In c (certs l) → read_body (body_bytes (Writes c.txn)) ≡ Some (Writes c.txn)

-- they are the own transactions that are pending by the rules of the group; in ERROR nobody asks for them
abbrev pub OwnOf : Inc → Life → List OwnWork → Type 0
OwnOf me l ws = is_error (state l) ≡ false → ws ≡ map own_work (filter (is_own me) (pending l))

-- Each part is what the rules of the group read from the history.
pub record StandsFor (s : Setup) (me : Inc) (l : Life) (x : MemberParts) : Type 0 where
  pub list : Follows s l x.list
  pub watch : Watches s me l x.watch
  pub donor : Donates s l x.donor
  pub backlog : Waits l x.backlog
  pub queue : QueuedOf me l x.remotes.queue
  pub free : free_from x.remotes.last ≤ suc (taken l)
  pub own : OwnOf me l x.own
  pub acks : AwaitedOf s l x.acks
  pub required : RequiredOf s me l x.required
  pub sent : SentOf l x.sent
  pub waits : HeldOf s me l x.waits
  pub orderly : IsOrderly me l

-- ---- what changes them

-- A begin, a tick and a message, an own value, an entry, a result, a commit, a state, a call and an end, a Welcome and a Give may change some part.
abbrev pub is_of_parts : Did → Bool
is_of_parts Founds = true
is_of_parts (Starts x) = true
is_of_parts (Came Ticks) = true
is_of_parts (Came (Hears m)) = true
is_of_parts (Made v x) = true
is_of_parts (Took e) = true
is_of_parts (Done p) = true
is_of_parts (Committed g) = true
is_of_parts (Is s c) = true
is_of_parts (Called t v w) = true
is_of_parts (Begun t e y) = true
is_of_parts (AsksCommit t i) = true
is_of_parts (Ends t) = true
is_of_parts (Enters w) = true
is_of_parts (Restores g cs) = true
is_of_parts d = false
