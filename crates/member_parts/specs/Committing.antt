-- A commit of a pending transaction.
use Rattle.std.specs.Prelude.{◌≡◌, ℕ, Bool, true, false, ◌||◌, Option, Some, None, List, nat_lt}
use Rattle.std.specs.List.{list_all}
use Rattle.gr_ids.specs.declared.names.Gtid.{Gtid}
use Rattle.gr_ids.specs.declared.names.Inc.{Inc}
use Rattle.gtid_sets.specs.Canonical.{IsNumber}
use Rattle.txn_forms.specs.declared.body.Body.{Body}
use Rattle.txn_forms.specs.declared.body.Body.TheVariants.{Txn as Writes, Prepared}
use Rattle.txn_forms.specs.Bodies.{body_bytes}
use Rattle.node_rules.specs.Lists.{In}
use Rattle.group_rules.specs.Commit.{may_commit}
use Rattle.group_rules.specs.Events.{Cert, Life, Setup}
use Rattle.group_rules.specs.Life.{is_error, state}
use Rattle.group_rules.specs.Queue.{at_place, is_done, pending, queue}
use Rattle.group_rules.specs.declared.said.QueuedPlace.{QueuedPlace}
use Rattle.apply_queue.specs.declared.work.WorkDone.{WorkDone}
use Rattle.member_backlog.specs.declared.uncommitted.Uncommitted.{Uncommitted}
use Rattle.member_backlog.specs.Standing.{uncommitted_of}

-- it is pending, as it waits in the backlog
pub record IsPending (l : Life) (c : Cert) (u : Uncommitted) : Type 0 where
  pub well : is_error (state l) ≡ false
  pub waits : In c (pending l)
  pub is_it : u ≡ uncommitted_of c

-- it is pending, and may be committed now
pub record MayGo (s : Setup) (me : Inc) (l : Life) (c : Cert) (u : Uncommitted) : Type 0 where
  pub well : is_error (state l) ≡ false
  pub waits : In c (pending l)
  pub is_it : u ≡ uncommitted_of c
  pub may : may_commit s l me c ≡ true

-- what its commit writes
abbrev pub IsWritten : Cert → Option WorkDone → Type 0
IsWritten c None = ⊥
IsWritten c (Some d) = (d.body ≡ body_bytes (Writes c.txn)) × (d.changes ≡ c.txn.changes)

-- ---- an own value that is made

-- the transaction that it acknowledges, if it is a Prepared entry
abbrev pub prepared_in : Option Body → Option Gtid
prepared_in (Some (Prepared g)) = Some g
prepared_in x = None

abbrev pub HasNumber : Option Gtid → Type 0
HasNumber None = Unit {0}
HasNumber (Some g) = IsNumber g.number

-- ---- what is done

-- a transaction with this GTID is queued at the place of a result, which has its items, and the place isn't done
pub record IsAccepted (me : Inc) (l : Life) (d : WorkDone) (g : Gtid) : Type 0 where
  pub cert : Cert
  pub queued : at_place (queue l me) d.place ≡ Some cert
  pub undone : is_done l d.place ≡ false
  pub gtid : g ≡ cert.gtid
  pub items : d.items ≡ cert.txn.items

-- all queued places up to this one are done
abbrev pub are_done_to : ℕ → List QueuedPlace → Bool
are_done_to p qs = list_all {X = QueuedPlace} (λ q. nat_lt p q.place || q.done) qs
