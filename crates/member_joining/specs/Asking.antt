-- What is read from the asks of an incarnation, which begin with its Welcome, and what becomes of them.
use Rattle.std.specs.Prelude.{◌≡◌, ℕ, Bool, true, false, ◌&&◌, ◌==◌, Option, Some, None, [], is_some}
use Rattle.gr_ids.specs.declared.names.Inc.{Inc}
use Rattle.gr_ids.specs.declared.levels.MemberState.{MemberState}
use Rattle.gr_ids.specs.Names.{is_inc}
use Rattle.gtid_sets.specs.Sets.{Gtids, minus}
use Rattle.paxos_forms.specs.declared.recovery.Ask.{Ask}
use Rattle.paxos_forms.specs.declared.recovery.Give.{Give}
use Rattle.group_rules.specs.Life.{is_recovering}
use Rattle.donor_recovery.specs.Asking.{Asking, asks, fails, is_due, is_last, not_asked, with_give}
use Rattle.donor_recovery.specs.declared.recovery.AskFault.{AskFault}
use Rattle.donor_recovery.specs.declared.recovery.AskFault.TheVariants.{NoAskDue, Memory as NoRoomToAsk}
use Rattle.donor_recovery.specs.declared.recovery.RecoveryFault.{RecoveryFault}
use Rattle.donor_recovery.specs.declared.recovery.RecoveryFault.TheVariants.{NoAskPending, NoDonor}
use Rattle.donor_recovery.specs.declared.recovery.TakeFault.{TakeFault}
use Rattle.donor_recovery.specs.declared.recovery.TakeFault.TheVariants.{ExtraTransactions, Memory as NoRoomToTake}

-- ---- what is read; before the Welcome there is no ask, no failure and no Give

abbrev pub place_in : Option Asking → ℕ
place_in None = 0
place_in (Some r) = r.place

abbrev pub executed_in : Option Asking → Gtids
executed_in None = []
executed_in (Some r) = r.executed

abbrev pub pending_in : Option Asking → Option Inc
pending_in None = None
pending_in (Some r) = r.pending

abbrev pub failures_in : Option Asking → ℕ
failures_in None = 0
failures_in (Some r) = r.failures

abbrev pub has_give_in : Option Asking → Bool
has_give_in None = false
has_give_in (Some r) = r.has_give

-- a donor may be asked
abbrev pub may_ask : Option Asking → Bool
may_ask None = false
may_ask (Some r) = is_due r

abbrev pub is_ask_due_by : MemberState → Option Asking → Bool
is_ask_due_by s x = is_recovering s && may_ask x

abbrev pub ask_in : Option Asking → Ask
ask_in x = record { place = place_in x; executed = executed_in x }

-- a Give from this incarnation, for this place, is what is asked for
abbrev pub awaits_by : MemberState → Inc → ℕ → Option Asking → Bool
awaits_by s i p x = (is_recovering s && is_inc (pending_in x) i) && (p == place_in x)

-- what the joiner has and the group hasn't
abbrev pub extra_in : Option Asking → Give → Gtids
extra_in x g = minus (executed_in x) g.certified

-- the failure of the pending ask is the last one
abbrev pub is_last_in : Option Asking → Bool
is_last_in None = false
is_last_in (Some r) = is_last r

-- ---- what becomes of them

abbrev pub welcomed : Gtids → ℕ → Option Asking
welcomed e p = Some (not_asked e p)

abbrev pub asked : Inc → Option Asking → Option Asking
asked d None = None
asked d (Some r) = Some (asks d r)

abbrev pub failed : Option Asking → Option Asking
failed None = None
failed (Some r) = Some (fails r)

abbrev pub given : Option Asking → Option Asking
given None = None
given (Some r) = Some (with_give r)

-- ---- why nothing becomes of them

-- no ask is due, or memory was refused
abbrev pub IsNotAsked : Option Asking → AskFault → Type 0
IsNotAsked x NoAskDue = may_ask x ≡ false
IsNotAsked x NoRoomToAsk = Unit {0}

-- no ask is pending, or the tenth has failed
abbrev pub IsFailure : Option Asking → RecoveryFault → Type 0
IsFailure x NoAskPending = is_some (pending_in x) ≡ false
IsFailure x (NoDonor n) = (n ≡ 10) × (is_some (pending_in x) ≡ true) × (is_last_in x ≡ true)

-- the joiner has transactions that the group hasn't, or memory was refused
abbrev pub IsNotTaken : Option Asking → Give → TakeFault → Type 0
IsNotTaken x g (ExtraTransactions e) = (e ≡ extra_in x g) × (e ≡ [] → ⊥)
IsNotTaken x g NoRoomToTake = Unit {0}
