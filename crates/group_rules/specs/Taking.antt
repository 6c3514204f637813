-- The decided slots are taken one by one; after them a leader proposes.
use Rattle.std.specs.Prelude.{ℕ, zero, suc, ◌^◌, Bool, true, false, ◌&&◌, ◌||◌, Option, Some, List, [], ◌∷◌}
use Rattle.gr_ids.specs.Names.{inc_eq, id_eq}
use Rattle.slot_values.specs.declared.kept.Kept.{Kept}
use Rattle.slot_values.specs.declared.kept.Kept.TheVariants.{At as KeptAt, Skipped as IsSkipped}
use Rattle.group_rules.specs.Names.{Inc, ValueId, Gtid, OpenParts, Online, What, Add, Remove, Value, Body, Writes, Arrives, PartOf, Effect, Plain, Conflict, OwnOnline, Removed, ConflictWith}
use Rattle.group_rules.specs.View.{effect_in, void_if}
use Rattle.node_rules.specs.declared.event.PaxosEvent.TheVariants.{Propose}
use Rattle.node_rules.specs.declared.taken.Taken.{Taken}
use Rattle.node_rules.specs.Taking.{take}
use Rattle.group_rules.specs.Events.{Took, Skips, Is, Entry, Life, Setup}
use Rattle.group_rules.specs.Life.{state, is_up, is_error, is_recovering, view, has_give}
use Rattle.group_rules.specs.Parts.{open_parts, held, is_void_part}
use Rattle.group_rules.specs.Certifier.{certifier, verdict}
use Rattle.group_rules.specs.Sessions.{Asking, phase, sessions}
use Rattle.group_rules.specs.Welcomes.{greet}
use Rattle.group_rules.specs.Member.{Member, push, by_node, at_node, last_answer, for_each, fall}
use Rattle.group_rules.specs.Points.{point}

-- ---- the entry at a place

-- a transaction gets its verdict; a part is void unless it is open; of all else the view decides
abbrev pub effect_of : Setup → Life → Bool → Value → Option OpenParts → Option Body → Effect
effect_of s l has_effect v o (Some (Writes t)) = verdict s.limits (certifier s l) v.id.origin t
effect_of s l has_effect v o (Some (PartOf p)) = void_if (is_void_part o (Some (PartOf p)))
effect_of s l has_effect v o b = effect_in (view s l) has_effect v.what b

-- the value of slot t at place p; whether an Add or a Remove has effect is known from the kept list
abbrev pub entry_of : Setup → Life → ℕ → ℕ → Bool → Value → Entry
entry_of s l t p has_effect v =
    let o = open_parts l v.id.origin in
    let b = held o v.what in
    record { slot = t; place = p; value = v; effect = effect_of s l has_effect v o b; holds = b }

-- ---- what an entry causes: a Welcome, an own state, the answer Conflict

abbrev pub answer_conflict : ValueId → Gtid → ℕ → Member → Member
answer_conflict i g s a = elim (phase a.life s) [ Asking j ↦ elim (id_eq i j) [ true ↦ last_answer s (ConflictWith g) a | false ↦ a ] | _ ↦ a ]

abbrev pub on_conflict : ValueId → Gtid → Member → Member
on_conflict i g a = for_each (answer_conflict i g) (sessions a.life) a

abbrev pub on_plain : Inc → What → Option Body → Member → Member
on_plain o (Add j) b a = greet j.inc a
on_plain o (Remove i) b a = elim (inc_eq i a.me.inc) [ true ↦ fall Removed a | false ↦ a ]
on_plain o w (Some (Arrives e)) a = elim (inc_eq o a.me.inc) [ true ↦ push (Is Online OwnOnline) a | false ↦ a ]
on_plain o w b a = a

abbrev pub causes : Entry → Effect → Member → Member
causes e (Conflict g) a = on_conflict e.value.id g a
causes e Plain a = on_plain e.value.id.origin e.value.what e.holds a
causes e x a = a

abbrev pub take_kept : ℕ → Value → Kept → Member → Member
take_kept t v IsSkipped a = push (Skips t v) a
take_kept t v (KeptAt p has_effect) a = let e = entry_of a.setup a.life t p has_effect v in causes e e.effect (push (Took e) a)

-- ---- slots

-- the slot that its node has just handed out
abbrev pub take_slot : Taken → Member → Member
take_slot x a = take_kept x.slot x.value x.kept a

-- a member takes slots while ONLINE, and while RECOVERING once it has taken up a Give
abbrev pub takes_slots : Life → Bool
takes_slots l = is_up (state l) || (is_recovering (state l) && has_give l)

abbrev pub next_slot : Member → List Taken
next_slot a = elim (takes_slots a.life) [ true ↦ (take a.node).took | false ↦ [] ]

-- all decided slots, one after another, with a point after each (slots end at 2^42)
abbrev pub take_slots : ℕ → Member → Member
take_slots zero a = a
take_slots (suc k) a = elim (next_slot a) [ [] ↦ a | x ∷ xs ↦ take_slots k (point (take_slot x (by_node take a))) ]

abbrev pub propose : Member → Member
propose a = elim (is_error (state a.life)) [ true ↦ a | false ↦ at_node Propose a ]

-- the slots are taken and a leader proposes again, until neither does anything
abbrev pub rounds : ℕ → Member → Member
rounds zero a = a
rounds (suc k) a = elim (next_slot a) [ [] ↦ a | x ∷ xs ↦ rounds k (propose (take_slots (2 ^ 42) a)) ]

unfoldable pub settle_slots : Member → Member
settle_slots a = rounds (2 ^ 42) (propose (take_slots (2 ^ 42) a))
