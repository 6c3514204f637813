-- What is proposed next, step by step.
use Rattle.std.proofs.Common.{◌≡◌, ℕ, ◌^◌, Bool, true, false, List, Option, Some, None, refl, sym, ◌∙◌}
use Rattle.std.specs.Prelude.{◌||◌, ◌==◌, nat_le, if◌then◌else◌}
use Rattle.gr_ids.specs.declared.names.Inc.{Inc}
use Rattle.slot_values.specs.declared.value.Value.{Value}
use Rattle.slot_values.specs.declared.value.Vote.{Vote}
use Rattle.slot_values.specs.Log.{Turns, config_of, majority}
use Rattle.slot_values.specs.Turns.{Taken}
use Rattle.node_rules.specs.Learner.{Learner, is_decided}
use Rattle.node_rules.specs.Proposing.{decided_above}
use Rattle.node_rules.specs.Leader.{Leader, Choice, best, choice_by, first_offer, free_slot, has_promise, may_propose, noop, reported_above}
use Rattle.node_rules.specs.Known.{config_here}
use Rattle.paxos_leader.specs.Parts.{standing}
use Rattle.paxos_leader.specs.Choosing.{forced, next_choice}

abbrev pub open_for : Turns → Leader → ℕ → Option (List Inc)
open_for w l t = if may_propose (Some w) l t then config_of w t else None

abbrev quorum : Leader → List Inc → Bool
quorum l c = (l.ballot.round == 1) || majority c (has_promise l.promises)

pub opens : (w : Turns) (l : Leader) (t : ℕ) (c : List Inc) → Some c ≡ config_of w t → nat_le t (2 ^ 42) ≡ true → quorum l c ≡ true → Some c ≡ open_for w l t
opens w l t c e h q = rw (← e, h, q) refl

pub shut_late : (w : Turns) (l : Leader) (t : ℕ) (c : List Inc) → Some c ≡ config_of w t → nat_le t (2 ^ 42) ≡ false → None ≡ open_for w l t
shut_late w l t c e h = rw (← e, h) refl

pub shut_few : (w : Turns) (l : Leader) (t : ℕ) (c : List Inc) → Some c ≡ config_of w t → nat_le t (2 ^ 42) ≡ true → quorum l c ≡ false → None ≡ open_for w l t
shut_few w l t c e h q = rw (← e, h, q) refl

pub shut_unknown : (w : Turns) (l : Leader) (t : ℕ) → None ≡ config_of w t → None ≡ open_for w l t
shut_unknown w l t e = rw (← e) refl

abbrev later : Leader → Learner → ℕ → Bool
later l d t = reported_above l.promises t || decided_above d t

abbrev free : Leader → Learner → ℕ → Option ℕ
free l d h = free_slot (is_decided d) l h d.next

pub no_slot : (l : Leader) (d : Learner) (w : Taken) (h : ℕ) → None ≡ free l d h → next_choice l d w h ≡ None
no_slot l d w h e = rw (← e) refl

abbrev after_open : Leader → Learner → Taken → ℕ → Option Choice
after_open l d w t = choice_by (later l d t) l t (best (config_here (Some (standing w)) t) l.promises t)

-- what a known configuration that is open says
unopened : (w : Turns) (l : Leader) (t : ℕ) → None ≡ open_for w l t → may_propose (Some w) l t ≡ false
unopened w l t e = go (config_of w t) (may_propose (Some w) l t) refl refl
  where
    go : (c : Option (List Inc)) (m : Bool) → config_of w t ≡ c → may_propose (Some w) l t ≡ m → may_propose (Some w) l t ≡ false
    go c false p q = q
    go None true p q = absurd (let never : may_propose (Some w) l t ≡ false = rw p refl in let no : true ≡ false = sym q ∙ never in cc)
    go (Some c) true p q = absurd (let no : ◌≡◌ {A = Option (List Inc)} None (Some c) = e ∙ (rw q p) in cc)

opened : (w : Turns) (l : Leader) (t : ℕ) (c : List Inc) → Some c ≡ open_for w l t → (may_propose (Some w) l t ≡ true) × (config_of w t ≡ Some c)
opened w l t c e = go (may_propose (Some w) l t) refl
  where
    go : (m : Bool) → may_propose (Some w) l t ≡ m → (may_propose (Some w) l t ≡ true) × (config_of w t ≡ Some c)
    go true q = (q, sym (e ∙ (rw q refl)))
    go false q = absurd (let no : ◌≡◌ {A = Option (List Inc)} (Some c) None = e ∙ (rw q refl) in cc)

pub no_config : (l : Leader) (d : Learner) (w : Taken) (h t : ℕ) → Some t ≡ free l d h → None ≡ open_for (standing w) l t → next_choice l d w h ≡ None
no_config l d w h t e o = rw (← e, unopened (standing w) l t o) refl

by_force : (u : Bool) (l : Leader) (t : ℕ) (b : Option Vote) (v : Value) → Some v ≡ forced u l.ballot b → choice_by u l t b ≡ Some (record { slot = t; value = v; offers = l.offers })
by_force u l t (Some x) v e = let same : v ≡ x.value = cc in rw same refl
by_force true l t None v e = let same : v ≡ noop l.ballot.inc = cc in rw same refl
by_force false l t None v e = absurd cc

by_offer : (u : Bool) (l : Leader) (t : ℕ) (b : Option Vote) → None ≡ forced u l.ballot b → choice_by u l t b ≡ first_offer t l.offers
by_offer u l t (Some x) e = absurd cc
by_offer true l t None e = absurd cc
by_offer false l t None e = refl

abbrev pub force : Leader → Learner → List Inc → ℕ → Option Value
force l d c t = forced (later l d t) l.ballot (best c l.promises t)

pub forced_choice : (l : Leader) (d : Learner) (w : Taken) (h t : ℕ) (c : List Inc) (v : Value) → Some t ≡ free l d h → Some c ≡ open_for (standing w) l t → Some v ≡ force l d c t → next_choice l d w h ≡ Some (record { slot = t; value = v; offers = l.offers })
forced_choice l d w h t c v e o f =
    let yes = opened (standing w) l t c o in
    rw (← e, yes.0, yes.1) (by_force (later l d t) l t (best c l.promises t) v f)

pub offered_choice : (l : Leader) (d : Learner) (w : Taken) (h t : ℕ) (c : List Inc) → Some t ≡ free l d h → Some c ≡ open_for (standing w) l t → None ≡ force l d c t → next_choice l d w h ≡ first_offer t l.offers
offered_choice l d w h t c e o f =
    let yes = opened (standing w) l t c o in
    rw (← e, yes.0, yes.1) (by_offer (later l d t) l t (best c l.promises t) f)
