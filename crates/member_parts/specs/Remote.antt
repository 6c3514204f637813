-- Certified transactions that aren't committed, with what their commit writes: those of other origins, which are queued, and a member's own.
use Rattle.std.specs.Prelude.{ℕ, suc, Bool, true, false, ◌&&◌, not, Option, Some, None, List, [], ◌∷◌, ◌++◌, fold, nat_le, if◌then◌else◌}
use Rattle.gr_ids.specs.declared.names.Inc.{Inc}
use Rattle.gr_ids.specs.declared.names.Gtid.{Gtid}
use Rattle.gr_ids.specs.Names.{gtid_eq, inc_eq}
use Rattle.gtid_sets.specs.Sets.{Gtids, has}
use Rattle.key_items.specs.declared.change.Change.{Change}
use Rattle.paxos_forms.specs.declared.recovery.Given.{Given}
use Rattle.txn_forms.specs.declared.body.Body.TheVariants.{Txn as Writes}
use Rattle.txn_forms.specs.Bodies.{body_bytes}
use Rattle.group_rules.specs.Events.{Cert}
use Rattle.group_rules.specs.Queue.{is_own}
use Rattle.apply_queue.specs.Queues.{Queued}
use Rattle.apply_queue.specs.Following.{is_for_workers, waiting_at, work_of}

-- ---- of other origins

-- the queue, and the place that was queued last
pub record Remote : Type 0 where
  pub queue : List Queued
  pub last : Option ℕ

abbrev pub no_remote : Remote
no_remote = record { queue = []; last = None }

-- the least place that is above it
abbrev pub free_from : Option ℕ → ℕ
free_from None = 0
free_from (Some p) = suc p

-- a place is queued, if it is above the last one
abbrev pub with_work : Queued → Remote → Remote
with_work q r = if nat_le (free_from r.last) q.place then record { queue = r.queue ++ q ∷ []; last = Some q.place } else r

-- a certified transaction of another origin is queued, unless it is committed already
abbrev pub with_remote : Inc → Gtids → List Cert → Remote → Remote
with_remote me e [] r = r
with_remote me e (c ∷ cs) r = if is_for_workers me e c then with_work (work_of c) r else r

-- what a Give brings, as work that waits
abbrev pub work_given : Given → Queued
work_given g = waiting_at g.place g.gtid g.body

abbrev pub with_given_work : Inc → Gtids → Remote → Given → Remote
with_given_work me e r g = if not (inc_eq g.origin me) && not (has e g.gtid) then with_work (work_given g) r else r

-- transactions that a Give brought, one after another
abbrev pub with_works : Inc → Gtids → Remote → List Given → Remote
with_works me e r gs = fold (with_given_work me e) r gs

-- ---- its own

pub record OwnWork : Type 0 where
  pub place : ℕ
  pub gtid : Gtid
  pub body : List ℕ
  pub changes : List Change

abbrev pub own_work : Cert → OwnWork
own_work c = record { place = c.place; gtid = c.gtid; body = body_bytes (Writes c.txn); changes = c.txn.changes }

-- an own certified transaction waits for its commit, unless it is committed already
abbrev pub with_own : Inc → Gtids → List Cert → List OwnWork → List OwnWork
with_own me e [] ws = ws
with_own me e (c ∷ cs) ws = ws ++ (if is_own me c && not (has e c.gtid) then own_work c ∷ [] else [])

-- none waits for its commit
abbrev pub none_waits : List OwnWork → Bool
none_waits [] = true
none_waits (w ∷ ws) = false

-- it is committed
abbrev pub without_own : Gtid → List OwnWork → List OwnWork
without_own g [] = []
without_own g (w ∷ ws) = if gtid_eq w.gtid g then ws else w ∷ without_own g ws
