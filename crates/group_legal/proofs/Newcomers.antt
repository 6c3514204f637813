-- The list of a log adds nobody twice.
use Rattle.std.proofs.Common.{◌≡◌, suc, ◌+◌, Bool, true, false, cond, not, Option, Some, None, List, [], ◌∷◌, refl, sym, ap, ◌∙◌, length}
use Rattle.std.specs.Prelude.{if◌then◌else◌}
use Rattle.std.proofs.lemmas.Bool.{false≢true, and_parts, not-true}
use Rattle.gr_ids.specs.declared.names.Inc.{Inc}
use Rattle.gr_ids.specs.Names.{inc_eq, has_inc}
use Rattle.slot_values.specs.declared.value.Joiner.{Joiner}
use Rattle.slot_values.specs.declared.value.Value.{Value}
use Rattle.slot_values.specs.declared.value.What.{What}
use Rattle.slot_values.specs.declared.value.What.TheVariants.{Noop, Add, Remove, Body as Says}
use Rattle.slot_values.specs.declared.kept.Kept.TheVariants.{At as KeptAt, Skipped as IsSkipped}
use Rattle.slot_values.specs.Log.{is_kept, has_effect, read}
use Rattle.txn_forms.specs.declared.body.Body.{Body}
use Rattle.txn_forms.specs.declared.body.Body.TheVariants.{Txn as Writes, Prepared, Executed, Online as Arrives, Mode as Switches, Primary as Appoints}
use Rattle.group_rules.specs.declared.marks.Effect.{Effect}
use Rattle.group_rules.specs.declared.marks.Effect.TheVariants.{Plain, Void}
use Rattle.group_rules.specs.Events.{Setup}
use Rattle.group_rules.specs.Life.{view}
use Rattle.group_rules.specs.View.{effect_in, void_if}
use Rattle.group_rules.specs.OneList.{reading_of, scan_effect, listed_by, listed}
use Rattle.group_rules.specs.Parts.{open_parts, held}
use Rattle.group_laws.specs.Entries as law
use Rattle.group_laws.specs.View as seen
use Rattle.group_laws.specs.Life as lives
use Rattle.node_rules.proofs.Incs.{inc_is}
use Rattle.group_lives.specs.Lives.{does_body, does_entry, placed, life_of}
use Rattle.group_lives.specs.Sound.{IsNew, AddsNew}
use Rattle.group_order.proofs.Adds.{read_adds}
use Rattle.group_order.proofs.Members.{ever_before}
use Rattle.group_legal.proofs.Scanned.{old_list, new_entry}

-- ---- who never was added is absent

-- one that stays absent where it isn't joined
stays_absent : (m o : Inc) (b : law.Body) → ((j : Joiner) → b ≡ law.Joins j → inc_eq j.inc m ≡ false) → seen.stands_after m o b seen.Absent ≡ seen.Absent
stays_absent m o b f = go b f
  where
    same : (t : Bool) → cond t seen.Absent seen.Absent ≡ seen.Absent
    same true = refl
    same false = refl

    go : (b : law.Body) → ((j : Joiner) → b ≡ law.Joins j → inc_eq j.inc m ≡ false) → seen.stands_after m o b seen.Absent ≡ seen.Absent
    go (law.Online t) f = same (inc_eq o m)
    go (law.Joins j) f = ap (λ (t : Bool). cond t seen.Recovering seen.Absent) (f j refl)
    go (law.Leaves j) f = same (inc_eq j m)
    go (law.Write t) f = refl
    go (law.Executed t) f = refl
    go (law.Prepared t) f = refl
    go (law.Switches t) f = refl
    go (law.Appoints t) f = refl
    go law.Plain f = refl

-- no body joins
body_joins : (b : Option Body) (j : Joiner) → does_body b ≡ law.Joins j → ⊥
body_joins None j e = absurd (cc e)
body_joins (Some (Writes t)) j e = absurd (cc e)
body_joins (Some (Prepared g)) j e = absurd (cc e)
body_joins (Some (Executed x)) j e = absurd (cc e)
body_joins (Some (Arrives x)) j e = absurd (cc e)
body_joins (Some (Switches x)) j e = absurd (cc e)
body_joins (Some (Appoints i)) j e = absurd (cc e)
body_joins (Some x) j e = absurd (cc e)

abbrev joiner_in : law.Body → Joiner → Joiner
joiner_in (law.Joins j) d = j
joiner_in b d = d

-- what joins is an Add with effect
entry_joins : (w : What) (e : Effect) (b : Option Body) (j : Joiner) → does_entry w e b ≡ law.Joins j → (w ≡ Add j) × (e ≡ Plain)
entry_joins (Add i) Plain b j q = (ap (λ (x : law.Body). Add (joiner_in x i)) q, refl)
entry_joins (Add i) e b j q = absurd (cc q)
entry_joins (Remove i) Plain b j q = absurd (cc q)
entry_joins (Remove i) e b j q = absurd (cc q)
entry_joins (Says x) e b j q = absurd (body_joins b j q)
entry_joins Noop e b j q = absurd (cc q)

module _ (t : Setup) (base : List law.Placed) where
  abbrev at_log : List Value → List law.Value
  at_log log = law.values (old_list t base log)

  -- an Add whose entry joins has effect
  has_joined : (v : Value) (log : List Value) (j : Joiner) → (placed (new_entry t v log)).value.body ≡ law.Joins j → (v.what ≡ Add j) × (has_effect (reading_of t log) (Add j) ≡ true)
  has_joined v log j q =
      let x = entry_joins v.what (new_entry t v log).effect (new_entry t v log).holds j q in
      let w : v.what ≡ Add j = x.0 in
      (w, plain (has_effect (reading_of t log) v.what) refl w x.1)
    where
      plain : (b : Bool) → has_effect (reading_of t log) v.what ≡ b → v.what ≡ Add j → (new_entry t v log).effect ≡ Plain → has_effect (reading_of t log) (Add j) ≡ true
      plain true e w p = ap (has_effect (reading_of t log)) (sym w) ∙ e
      plain false e w p =
          let none : held (open_parts (listed t log) v.id.origin) v.what ≡ None = ap (held (open_parts (listed t log) v.id.origin)) w in
          let z : scan_effect t (listed t log) (has_effect (reading_of t log) v.what) v (open_parts (listed t log) v.id.origin) None ≡ Plain =
          ap (scan_effect t (listed t log) (has_effect (reading_of t log) v.what) v (open_parts (listed t log) v.id.origin)) (sym none) ∙ p in
          let y : void_if (not (has_effect (reading_of t log) v.what)) ≡ Plain = ap (λ (x : What). effect_in (view t (listed t log)) (has_effect (reading_of t log) v.what) x None) (sym w) ∙ z in
          let u : Void ≡ Plain = ap (λ (b : Bool). void_if (not b)) (sym e) ∙ y in
          absurd (cc u)

  abbrev pub list_if : Bool → Value → List Value → List law.Value
  list_if b v log = lives.taken (life_of base (listed_by t (listed t log) (suc (length log)) v (if b then KeptAt ((reading_of t log).place + 1) (has_effect (reading_of t log) v.what) else IsSkipped)))

  pub never : (log : List Value) (m : Inc) → has_inc (reading_of t log).ever m ≡ false → seen.standing t (at_log log) m ≡ seen.Absent
  never [] m h = ap (λ (b : Bool). cond b seen.Active seen.Absent) h
  never (v ∷ log) m h = go (is_kept (reading_of t log) v) refl (never log m (ever_before (reading_of t log) v m h))
    where
      other : is_kept (reading_of t log) v ≡ true → (j : Joiner) → (placed (new_entry t v log)).value.body ≡ law.Joins j → (b : Bool) → inc_eq j.inc m ≡ b → inc_eq j.inc m ≡ false
      other k j q false e = e
      other k j q true e =
          let x = has_joined v log j q in
          let a = read_adds (reading_of t log) v j k (ap (has_effect (reading_of t log)) x.0 ∙ x.1) x.0 in
          absurd (false≢true (sym h ∙ ap (has_inc (read (reading_of t log) v).ever) (sym (inc_is j.inc m e)) ∙ a))

      go : (b : Bool) → is_kept (reading_of t log) v ≡ b → seen.standing t (at_log log) m ≡ seen.Absent → seen.standing t (list_if b v log) m ≡ seen.Absent
      go true k a = ap (seen.stands_after m v.id.origin (placed (new_entry t v log)).value.body) a
          ∙ stays_absent m v.id.origin (placed (new_entry t v log)).value.body (λ j q. other k j q (inc_eq j.inc m) refl)
      go false k a = a

  pub adds_new : (log : List Value) → AddsNew t (at_log log)
  adds_new [] = tt
  adds_new (v ∷ log) = go (is_kept (reading_of t log) v) (adds_new log)
    where
      is_new : (b : law.Body) → (placed (new_entry t v log)).value.body ≡ b → IsNew t (at_log log) b
      is_new (law.Joins j) q =
          let x = has_joined v log j q in
          never log j.inc (not-true (has_inc (reading_of t log).ever j.inc) (and_parts _ (not (has_inc (reading_of t log).ever j.inc)) x.1).1)
      is_new (law.Online s) q = tt
      is_new (law.Leaves j) q = tt
      is_new (law.Write x) q = tt
      is_new (law.Executed x) q = tt
      is_new (law.Prepared x) q = tt
      is_new (law.Switches x) q = tt
      is_new (law.Appoints x) q = tt
      is_new law.Plain q = tt

      go : (b : Bool) → AddsNew t (at_log log) → AddsNew t (list_if b v log)
      go true a = (is_new (placed (new_entry t v log)).value.body refl, a)
      go false a = a
