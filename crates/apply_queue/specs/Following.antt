-- How the queue stands for a history.
use Rattle.std.specs.Prelude.{◌≡◌, ◌<◌, ℕ, Bool, true, false, ◌&&◌, not, Option, Some, None, List, [], ◌∷◌, ◌++◌, map, filter, if◌then◌else◌}
use Rattle.gr_ids.specs.declared.names.Inc.{Inc}
use Rattle.gr_ids.specs.declared.names.Gtid.{Gtid}
use Rattle.gr_ids.specs.Names.{gtid_eq}
use Rattle.gtid_sets.specs.Sets.{Gtids, has}
use Rattle.txn_forms.specs.declared.body.Body.TheVariants.{Txn as Writes}
use Rattle.txn_forms.specs.Bodies.{body_bytes}
use Rattle.node_rules.specs.Lists.{In}
use Rattle.group_rules.specs.declared.marks.Reply.TheVariants.{NotQueued as SaysNotQueued, AlreadyDone as SaysAlreadyDone}
use Rattle.group_rules.specs.Events.{Cert, Committed, Did, Done, Is, Life, Replied, Restores, Starts, Took}
use Rattle.group_rules.specs.Member.{Member, push}
use Rattle.group_rules.specs.Queue.{is_done as was_done, is_own, queue}
use Rattle.apply_queue.specs.declared.fault.QueueFault.{QueueFault}
use Rattle.apply_queue.specs.declared.fault.QueueFault.TheVariants.{NotQueued, AlreadyDone}
use Rattle.key_items.specs.declared.change.Change.{Change}
use Rattle.key_items.specs.declared.item.Item.{Item}
use Rattle.apply_queue.specs.Queues.{Done as HasChanges, Queued, Waiting, is_done}

-- a place that waits for a worker
abbrev pub waiting_at : ℕ → Gtid → List ℕ → Queued
waiting_at p g b = record { place = p; gtid = g; body = b; mark = Waiting }

-- a place that is done, with these changes and items
abbrev pub done_at : ℕ → Gtid → List ℕ → List Change → List Item → Queued
done_at p g b cs ws = record { place = p; gtid = g; body = b; mark = HasChanges cs ws }

-- a certified transaction as work that waits
abbrev pub work_of : Cert → Queued
work_of c = waiting_at c.place c.gtid (body_bytes (Writes c.txn))

-- a queued place as it was when it was queued
abbrev pub as_queued : Queued → Queued
as_queued q = record q { mark = Waiting }

-- They are the works of the transactions that are queued by the rules of the group, and those are done that are done in the history.
pub record QueuedOf (me : Inc) (l : Life) (qs : List Queued) : Type 0 where
  pub works : map as_queued qs ≡ map work_of (queue l me)
  pub done : map is_done qs ≡ map (λ c. was_done l c.place) (queue l me)

-- each place is below all that follow
abbrev pub IsRising : List Cert → Type 0
IsRising [] = Unit {0}
IsRising (c ∷ cs) = ((d : Cert) → In d cs → c.place < d.place) × IsRising cs

-- ---- what changes it

-- a start, an entry, a result, a commit, a state and a Give change what is queued
abbrev pub is_of_queue : Did → Bool
is_of_queue (Starts x) = true
is_of_queue (Took e) = true
is_of_queue (Done p) = true
is_of_queue (Committed g) = true
is_of_queue (Is s c) = true
is_of_queue (Restores g cs) = true
is_of_queue d = false

-- of another origin, and not committed yet
abbrev pub is_for_workers : Inc → Gtids → Cert → Bool
is_for_workers me e c = not (is_own me c) && not (has e c.gtid)

-- one more is certified
abbrev pub with_certified : Inc → Gtids → List Queued → Cert → List Queued
with_certified me e qs c = qs ++ (if is_for_workers me e c then work_of c ∷ [] else [])

-- those that a Give brought
abbrev pub works_of : Inc → Gtids → List Cert → List Queued
works_of me e cs = map work_of (filter (is_for_workers me e) cs)

abbrev pub is_other : Gtid → Queued → Bool
is_other g q = not (gtid_eq g q.gtid)

-- the transaction of this GTID is committed
abbrev pub without : Gtid → List Queued → List Queued
without g qs = filter (is_other g) qs

-- ---- what is read from it

-- what a worker's result for this place leaves, by why it is refused
abbrev pub with_result : ℕ → Option QueueFault → Member → Member
with_result p None a = push (Done p) a
with_result p (Some (NotQueued q)) a = push (Replied (SaysNotQueued p)) a
with_result p (Some (AlreadyDone q)) a = push (Replied (SaysAlreadyDone p)) a
