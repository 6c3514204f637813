-- The learner: which slots are decided here, and which of them were handed out.
-- (Lamport, "Paxos Made Simple", sections 2.3 and 3: chosen values are learnt in any order, and executed in the order of their slots.)
use Rattle.std.specs.Prelude.{ℕ, Bool, false, ◌+◌, ◌&&◌, ◌||◌, List, [], Option, None, map, length, nat_lt, nat_le, ◌==◌, if◌then◌else◌, is_some}
use Rattle.std.specs.List.{list_any}
use Rattle.gr_ids.specs.Names.{inc_eq}
use Rattle.node_rules.specs.Names.{Inc, Value, What, Remove}
use Rattle.node_rules.specs.Slots.{Entry, entry_at, put_slot, from_slot, first_empty}

-- The decided slots whose values are kept, ascending; the least slot that wasn't handed out; the least undecided slot.
-- At a joiner both numbers are 0 before its Welcome.
pub record Learner : Type 0 where
  pub decided : List Entry
  pub slot : ℕ
  pub next : ℕ

abbrev pub new_learner : ℕ → Learner
new_learner s = record { decided = []; slot = s; next = s }

abbrev pub decided_at : Learner → ℕ → Option Entry
decided_at l t = entry_at l.decided t

-- a slot below `next` counts as decided, whether its value is kept or not
abbrev pub is_decided : Learner → ℕ → Bool
is_decided l t = nat_lt t l.next || is_some (decided_at l t)

-- `next` moves past the slots that are decided; before the Welcome it stays 0
abbrev pub advanced : Learner → Learner
advanced l = record l { next = if l.next == 0 then 0 else first_empty (length l.decided) l.decided l.next }

-- a slot that isn't decided here is decided with the value
abbrev pub learn : Learner → ℕ → Value → Learner
learn l t v = if is_decided l t then l else advanced (record l { decided = put_slot (λ e. e.slot) l.decided (record { slot = t; value = v }) })

-- slots are handed out from s on
abbrev pub begin_at : Learner → ℕ → Learner
begin_at l s = advanced (record l { slot = s; next = s })

-- the slot to be handed out, if it is decided
abbrev pub next_entry : Learner → Option Entry
next_entry l = if nat_lt l.slot l.next then decided_at l l.slot else None

abbrev pub pass : Learner → Learner
pass l = record l { slot = l.slot + 1 }

-- the decided slots that weren't handed out
abbrev pub waiting : Learner → List ℕ
waiting l = map (λ e. e.slot) (from_slot (λ e. e.slot) l.decided l.slot)

-- a slot that wasn't handed out is decided with a Remove of the incarnation
abbrev pub removes : Inc → What → Bool
removes i (Remove j) = inc_eq j i
removes i _ = false

abbrev pub learnt_remove : Learner → Inc → Bool
learnt_remove l i = list_any (λ e. nat_le l.slot e.slot && removes i e.value.what) l.decided

-- the values of slots below k are forgotten
abbrev pub forget_decided : ℕ → Learner → Learner
forget_decided k l = record l { decided = from_slot (λ e. e.slot) l.decided k }
