-- How a joiner asks for what it lacks.
-- (MySQL 8.0 Reference Manual, Group Replication: Connection Attempts for Distributed Recovery.)
use Rattle.std.specs.Prelude.{◌≡◌, ℕ, suc, Bool, true, false, ◌&&◌, not, is_some, nat_lt, nat_le, Option, Some, None, []}
use Rattle.gr_ids.specs.declared.names.Inc.{Inc}
use Rattle.gtid_sets.specs.Sets.{Gtids, minus}
use Rattle.paxos_forms.specs.declared.recovery.Ask.{Ask}
use Rattle.paxos_forms.specs.declared.recovery.Give.{Give}
use Rattle.donor_recovery.specs.declared.at_add.AtAdd.{AtAdd}
use Rattle.donor_recovery.specs.declared.at_add.Begin.{Begin}
use Rattle.donor_recovery.specs.declared.recovery.AskFault.{AskFault}
use Rattle.donor_recovery.specs.declared.recovery.AskFault.TheVariants.{NoAskDue, Memory as NoRoomToAsk}
use Rattle.donor_recovery.specs.declared.recovery.RecoveryFault.{RecoveryFault}
use Rattle.donor_recovery.specs.declared.recovery.RecoveryFault.TheVariants.{NoAskPending, NoDonor}
use Rattle.donor_recovery.specs.declared.recovery.TakeFault.{TakeFault}
use Rattle.donor_recovery.specs.declared.recovery.TakeFault.TheVariants.{ExtraTransactions, Memory as NoRoomToTake}

-- the set that the joiner has and the place of its Add; the donor that is asked, how many asks failed, and whether a Give was taken
pub record Asking : Type 0 where
  pub executed : Gtids
  pub place : ℕ
  pub pending : Option Inc
  pub failures : ℕ
  pub has_give : Bool

abbrev pub not_asked : Gtids → ℕ → Asking
not_asked e p = record { executed = e; place = p; pending = None; failures = 0; has_give = false }

-- no ask is pending, no Give was taken, and fewer than ten asks failed
abbrev pub is_due : Asking → Bool
is_due r = not (is_some r.pending) && (not r.has_give && nat_lt r.failures 10)

abbrev pub asks : Inc → Asking → Asking
asks d r = record r { pending = Some d }

abbrev pub ask_of : Asking → Ask
ask_of r = record { place = r.place; executed = r.executed }

-- why nothing is asked: no ask is due, or memory was refused
abbrev pub IsAskFault : Asking → AskFault → Type 0
IsAskFault r NoAskDue = is_due r ≡ false
IsAskFault r NoRoomToAsk = Unit {0}

-- ---- a failure

abbrev pub fails : Asking → Asking
fails r = record r { pending = None; failures = suc r.failures }

-- the tenth failure is the last one
abbrev pub is_last : Asking → Bool
is_last r = nat_le 10 (suc r.failures)

-- why a failure isn't followed by another ask: no ask is pending, or the tenth has failed
abbrev pub IsFailure : Asking → RecoveryFault → Type 0
IsFailure r NoAskPending = is_some r.pending ≡ false
IsFailure r (NoDonor n) = (n ≡ 10) × (is_some r.pending ≡ true) × (is_last r ≡ true)

-- ---- a Give

abbrev pub with_give : Asking → Asking
with_give r = record r { pending = None; has_give = true }

-- what the joiner has and the group hasn't
abbrev pub extra : Asking → Give → Gtids
extra r g = minus r.executed g.certified

abbrev pub at_add : Give → AtAdd
at_add g = record { place = g.place; blocks = g.blocks; last = g.last; items = g.items; told = g.told; parts = g.parts }

abbrev pub begin_of : Give → Begin
begin_of g = record { at = at_add g; queue = g.txns }

-- why a Give isn't taken: the joiner has transactions that the group hasn't, or memory was refused
abbrev pub IsTakeFault : Asking → Give → TakeFault → Type 0
IsTakeFault r g (ExtraTransactions x) = (x ≡ extra r g) × (x ≡ [] → ⊥)
IsTakeFault r g NoRoomToTake = Unit {0}
