-- The queue of a member: certified transactions of other origins, by ascending place. Each waits, is handed out to a worker, or is done.
-- (MySQL 8.0 Reference Manual, replica_parallel_workers and replica_preserve_commit_order: workers apply in parallel, and commit in order.)
use Rattle.std.specs.Prelude.{ℕ, Bool, true, false, ◌&&◌, not, Option, Some, None, List, [], ◌∷◌, nat_lt, ◌==◌, if◌then◌else◌}
use Rattle.std.specs.List.{find, list_all}
use Rattle.gr_ids.specs.declared.names.Gtid.{Gtid}
use Rattle.gr_ids.specs.Names.{bytes_eq}
use Rattle.key_items.specs.declared.change.Change.{Change}
use Rattle.key_items.specs.declared.item.Item.{Item}
use Rattle.group_rules.specs.declared.said.QueuedPlace.{QueuedPlace}
use Rattle.apply_queue.specs.declared.fault.QueueFault.{QueueFault}
use Rattle.apply_queue.specs.declared.fault.QueueFault.TheVariants.{NotQueued, AlreadyDone}
pub use Rattle.apply_queue.specs.declared.mark.Mark.{Mark}
pub use Rattle.apply_queue.specs.declared.mark.Mark.TheVariants.{Waiting, Out, Done}

pub record Queued : Type 0 where
  pub place : ℕ
  pub gtid : Gtid
  pub body : List ℕ
  pub mark : Mark

abbrev pub is_waiting : Queued → Bool
is_waiting q = elim q.mark [ Waiting ↦ true | Out ↦ false | Done cs ws ↦ false ]

abbrev pub is_done : Queued → Bool
is_done q = elim q.mark [ Waiting ↦ false | Out ↦ false | Done cs ws ↦ true ]

-- each place is above all that are queued before it
abbrev pub is_above : List Queued → ℕ → Bool
is_above qs p = list_all (λ q. nat_lt q.place p) qs

-- ---- what is handed out

-- the least place that waits
abbrev pub first_waiting : List Queued → Option Queued
first_waiting qs = find is_waiting qs

-- the first one that passes is changed
abbrev pub with_first : (Queued → Bool) → (Queued → Queued) → List Queued → List Queued
with_first p f [] = []
with_first p f (q ∷ qs) = if p q then f q ∷ qs else q ∷ with_first p f qs

-- the least place that waits is handed out
abbrev pub handed_out : List Queued → List Queued
handed_out qs = with_first is_waiting (λ q. record q { mark = Out }) qs

-- ---- what is done

abbrev pub is_at : ℕ → Queued → Bool
is_at p q = q.place == p

abbrev pub at_place : List Queued → ℕ → Option Queued
at_place qs p = find (is_at p) qs

abbrev pub refused_at : ℕ → List ℕ → Option Queued → Option QueueFault
refused_at p bytes None = Some (NotQueued p)
refused_at p bytes (Some q) = if bytes_eq q.body bytes then (if is_done q then Some (AlreadyDone p) else None) else Some (NotQueued p)

-- why a result for this place, of these bytes, is refused
abbrev pub refusal : List Queued → ℕ → List ℕ → Option QueueFault
refusal qs p bytes = refused_at p bytes (at_place qs p)

-- the place is done
abbrev pub with_done : List Queued → ℕ → List Change → List Item → List Queued
with_done qs p cs ws = with_first (is_at p) (λ q. record q { mark = Done cs ws }) qs

-- ---- what may be committed

abbrev pub is_below : Option ℕ → ℕ → Bool
is_below None p = true
is_below (Some b) p = nat_lt p b

-- the least place, where it is done and below the barrier
abbrev pub next_commit : List Queued → Option ℕ → Option Queued
next_commit [] b = None
next_commit (q ∷ qs) b = if is_done q && is_below b q.place then Some q else None

-- the least place is this one, and done
abbrev pub front_is_done : List Queued → ℕ → Bool
front_is_done [] p = false
front_is_done (q ∷ qs) p = is_done q && (q.place == p)

-- the least place isn't done, or none is queued: no place may be committed
abbrev pub front_waits : List Queued → Bool
front_waits [] = true
front_waits (q ∷ qs) = not (is_done q)

abbrev pub shown : Queued → QueuedPlace
shown q = record { place = q.place; done = is_done q }
