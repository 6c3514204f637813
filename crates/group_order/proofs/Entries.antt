-- One slot more: a history that agrees with the list that a log gives agrees with it after the next slot too.
use Rattle.std.proofs.Common.{◌≡◌, inl, inr, ℕ, suc, ◌+◌, Bool, true, false, Option, Some, None, List, ◌∷◌, refl, sym, ap, subst, ◌∙◌, length}
use Rattle.std.specs.Prelude.{if◌then◌else◌}
use Rattle.std.proofs.lemmas.Bool.{false≢true, cases_Bool}
use Rattle.gr_ids.specs.Names.{inc_eq, has_inc}
use Rattle.gr_ids.specs.declared.names.Inc.{Inc}
use Rattle.gr_ids.specs.declared.names.OpenParts.{OpenParts}
use Rattle.slot_values.specs.declared.value.Value.{Value}
use Rattle.slot_values.specs.declared.value.What.{What}
use Rattle.slot_values.specs.declared.value.What.TheVariants.{Noop, Add, Remove, Body as Says}
use Rattle.slot_values.specs.declared.kept.Kept.TheVariants.{At as KeptAt, Skipped as IsSkipped}
use Rattle.slot_values.specs.Log.{Reading, is_kept, has_effect, kept, changed, read, became}
use Rattle.txn_forms.specs.declared.body.Txn.{Txn}
use Rattle.txn_forms.specs.declared.body.Body.{Body}
use Rattle.txn_forms.specs.declared.body.Body.TheVariants.{Txn as Writes, Prepared, Sync, Executed, Online as Arrives, Mode as Switches, Primary as Appoints, Part as PartOf}
use Rattle.group_rules.specs.declared.marks.Effect.{Effect}
use Rattle.group_rules.specs.declared.marks.Effect.TheVariants.{Plain, Void, Unread, Positive, Conflict}
use Rattle.group_rules.specs.View.{View, void_if, effect_in, next_view, settled}
use Rattle.group_rules.specs.Events.{Took, Skips, Life, Setup, Entry}
use Rattle.group_rules.specs.Life.{view, taken, certs}
use Rattle.group_rules.specs.Legal.{SameEntry}
use Rattle.group_rules.specs.Parts.{open_after, open_parts, held, is_void_part}
use Rattle.group_rules.specs.Certifier.{certifier, verdict}
use Rattle.group_rules.specs.Taking.{effect_of, entry_of}
use Rattle.group_rules.specs.OneList.{scan, scan_effect, scan_entry, listed_by, listed, reading_of}
use Rattle.group_order.specs.OneLog.{is_member_of, IsReady, AgreesWith}
use Rattle.node_rules.proofs.Incs.{inc_is}
use Rattle.group_order.proofs.Joins.{kept_is}
use Rattle.group_order.proofs.Listed.{listed_place}
use Rattle.group_order.proofs.Members.{kept_origin, members_were, new_or_old, ever_before, new_has_none}

-- ---- effects, but for verdicts

abbrev effect_by : View → (Txn → Effect) → Bool → What → Option OpenParts → Option Body → Effect
effect_by v f b w o (Some (Writes x)) = f x
effect_by v f b w o (Some (PartOf p)) = void_if (is_void_part o (Some (PartOf p)))
effect_by v f b w o h = effect_in v b w h

effect_is : (t : Setup) (l : Life) (b : Bool) (v : Value) (o : Option OpenParts) (h : Option Body) → effect_of t l b v o h ≡ effect_by (view t l) (λ x. verdict t.limits (certifier t l) v.id.origin x) b v.what o h
effect_is t l b v o None = refl
effect_is t l b v o (Some (Writes x)) = refl
effect_is t l b v o (Some (Prepared g)) = refl
effect_is t l b v o (Some Sync) = refl
effect_is t l b v o (Some (Executed e)) = refl
effect_is t l b v o (Some (Arrives e)) = refl
effect_is t l b v o (Some (Switches m)) = refl
effect_is t l b v o (Some (Appoints i)) = refl
effect_is t l b v o (Some (PartOf p)) = refl

scan_is : (t : Setup) (l : Life) (b : Bool) (v : Value) (o : Option OpenParts) (h : Option Body) → scan_effect t l b v o h ≡ effect_by (view t l) (λ x. scan t.limits (certs l) v.id.origin x) b v.what o h
scan_is t l b v o None = refl
scan_is t l b v o (Some (Writes x)) = refl
scan_is t l b v o (Some (Prepared g)) = refl
scan_is t l b v o (Some Sync) = refl
scan_is t l b v o (Some (Executed e)) = refl
scan_is t l b v o (Some (Arrives e)) = refl
scan_is t l b v o (Some (Switches m)) = refl
scan_is t l b v o (Some (Appoints i)) = refl
scan_is t l b v o (Some (PartOf p)) = refl

-- a transaction leaves the view, whatever its verdict
write_view : (p : ℕ) (o : Inc) (z : List ℕ) (x : Txn) (v : View) (e : Effect) → next_view p o (Says z) (Some (Writes x)) e v ≡ settled p v
write_view p o z x v Plain = refl
write_view p o z x v Void = refl
write_view p o z x v Unread = refl
write_view p o z x v (Positive g) = refl
write_view p o z x v (Conflict g) = refl

-- the view after an entry, by what decides on a transaction
abbrev view_by : ℕ → Inc → What → Bool → Option OpenParts → (Txn → Effect) → View → View
view_by p o w b q f v = next_view p o w (held q w) (effect_by v f b w q (held q w)) v

says_same : (p : ℕ) (o : Inc) (z : List ℕ) (b : Bool) (q : Option OpenParts) (f g : Txn → Effect) (v : View) (h : Option Body) → next_view p o (Says z) h (effect_by v f b (Says z) q h) v ≡ next_view p o (Says z) h (effect_by v g b (Says z) q h) v
says_same p o z b q f g v None = refl
says_same p o z b q f g v (Some (Writes x)) = write_view p o z x v (f x) ∙ sym (write_view p o z x v (g x))
says_same p o z b q f g v (Some (Prepared y)) = refl
says_same p o z b q f g v (Some Sync) = refl
says_same p o z b q f g v (Some (Executed e)) = refl
says_same p o z b q f g v (Some (Arrives e)) = refl
says_same p o z b q f g v (Some (Switches m)) = refl
says_same p o z b q f g v (Some (Appoints i)) = refl
says_same p o z b q f g v (Some (PartOf y)) = refl

view_same : (p : ℕ) (o : Inc) (w : What) (b : Bool) (q : Option OpenParts) (f g : Txn → Effect) (v : View) → view_by p o w b q f v ≡ view_by p o w b q g v
view_same p o Noop b q f g v = refl
view_same p o (Add j) b q f g v = refl
view_same p o (Remove i) b q f g v = refl
view_same p o (Says z) b q f g v = says_same p o z b q f g v (held q (Says z))

-- ---- a value kept

module _ (t : Setup) (i : Inc) (l : Life) (log : List Value) (v : Value) (place : ℕ) (effect : Bool) (kept_at : KeptAt place effect ≡ became (reading_of t log) v) where
  abbrev next_listed : Entry
  next_listed = scan_entry t (listed t log) (suc (length log)) place effect v

  is_listed : listed t (v ∷ log) ≡ Took (scan_entry t (listed t log) (suc (length log)) place effect v) ∷ listed t log
  is_listed = ap (λ k. listed_by t (listed t log) (suc (length log)) v k) (sym kept_at)

  is_kept_here : is_kept (reading_of t log) v ≡ true
  is_kept_here = (kept_is (reading_of t log) v place effect kept_at).0

  other : (o : Inc) → has_inc (reading_of t log).ever o ≡ false → inc_eq v.id.origin o ≡ false
  other o h = elim (cases_Bool (inc_eq v.id.origin o)) [
    | inl z ↦ absurd (false≢true (sym h ∙ subst (λ y. has_inc (reading_of t log).ever y ≡ true) (inc_is v.id.origin o z) (members_were t log v.id.origin (kept_origin (reading_of t log) v is_kept_here))))
    | inr z ↦ z
  ]

  module _ (a : AgreesWith t i l log) (ready : IsReady t i l) (s : ℕ) where
    abbrev entry : Entry
    entry = entry_of t l s place effect v

    same_parts : open_parts l v.id.origin ≡ open_parts (listed t log) v.id.origin
    same_parts = a.parts ready v.id.origin (kept_origin (reading_of t log) v is_kept_here)

    pub same_holds : (entry_of t l s place effect v).holds ≡ (scan_entry t (listed t log) (suc (length log)) place effect v).holds
    same_holds = ap (λ q. held q v.what) same_parts

    as_view_by : view t (Took (entry_of t l s place effect v) ∷ l) ≡ view_by place v.id.origin v.what effect (open_parts l v.id.origin) (λ x. verdict t.limits (certifier t l) v.id.origin x) (view t l)
    as_view_by = ap (λ e. next_view place v.id.origin v.what (held (open_parts l v.id.origin) v.what) e (view t l)) (effect_is t l effect v (open_parts l v.id.origin) (held (open_parts l v.id.origin) v.what))

    scan_view_by : view t (Took (scan_entry t (listed t log) (suc (length log)) place effect v) ∷ listed t log) ≡ view_by place v.id.origin v.what effect (open_parts (listed t log) v.id.origin) (λ x. scan t.limits (certs (listed t log)) v.id.origin x) (view t (listed t log))
    scan_view_by = ap (λ e. next_view place v.id.origin v.what (held (open_parts (listed t log) v.id.origin) v.what) e (view t (listed t log))) (scan_is t (listed t log) effect v (open_parts (listed t log) v.id.origin) (held (open_parts (listed t log) v.id.origin) v.what))

    view_next : view t (Took (entry_of t l s place effect v) ∷ l) ≡ view t (listed t (v ∷ log))
    view_next =
        as_view_by
        ∙ (view_same place v.id.origin v.what effect (open_parts l v.id.origin) (λ x. verdict t.limits (certifier t l) v.id.origin x) (λ x. scan t.limits (certs (listed t log)) v.id.origin x) (view t l)
        ∙ (ap (λ q. view_by place v.id.origin v.what effect q (λ x. scan t.limits (certs (listed t log)) v.id.origin x) (view t l)) same_parts
        ∙ (ap (λ y. view_by place v.id.origin v.what effect (open_parts (listed t log) v.id.origin) (λ x. scan t.limits (certs (listed t log)) v.id.origin x) y) a.view
        ∙ (sym scan_view_by ∙ sym (ap (λ z. view t z) is_listed)))))

    place_next : place ≡ (reading_of t (v ∷ log)).place
    place_next = sym (ap taken is_listed) ∙ listed_place t (v ∷ log)

    fresh_next : (o : Inc) → has_inc (reading_of t (v ∷ log)).ever o ≡ false → open_parts (Took (entry_of t l s place effect v) ∷ l) o ≡ None
    fresh_next o h =
        let before = ever_before (reading_of t log) v o h in
        ap (λ b. elim b [ true ↦ open_after o (entry_of t l s place effect v).holds (open_parts l o) | false ↦ open_parts l o ]) (other o before) ∙ a.fresh o before

    parts_next : (o : Inc) → is_member_of (reading_of t (v ∷ log)) o ≡ true → open_parts (Took (entry_of t l s place effect v) ∷ l) o ≡ open_parts (listed t (v ∷ log)) o
    parts_next o h = elim (new_or_old (reading_of t log) v o h) [
      | inl m ↦ ap (λ q. elim (inc_eq v.id.origin o) [ true ↦ open_after o (entry_of t l s place effect v).holds q | false ↦ q ]) (a.parts ready o m)
          ∙ (ap (λ x. elim (inc_eq v.id.origin o) [ true ↦ open_after o x (open_parts (listed t log) o) | false ↦ open_parts (listed t log) o ]) same_holds
          ∙ sym (ap (λ z. open_parts z o) is_listed))
      | inr n ↦ ap (λ b. elim b [ true ↦ open_after o (entry_of t l s place effect v).holds (open_parts l o) | false ↦ open_parts l o ]) (other o n)
          ∙ (a.fresh o n
          ∙ (sym (new_has_none t log o n)
          ∙ (sym (ap (λ b. elim b [ true ↦ open_after o (scan_entry t (listed t log) (suc (length log)) place effect v).holds (open_parts (listed t log) o) | false ↦ open_parts (listed t log) o ]) (other o n))
          ∙ sym (ap (λ z. open_parts z o) is_listed))))
    ]

    pub took_agrees : AgreesWith t i (Took (entry_of t l s place effect v) ∷ l) (v ∷ log)
    took_agrees = record { view = view_next; place = place_next; fresh = fresh_next; parts = λ r o h. parts_next o h }

    -- the entry is that of the list but for its verdict
    not_write : (w : What) (q : Option OpenParts) (h : Option Body) (f g : Txn → Effect) (x : View) → ((y : Txn) → h ≡ Some (Writes y) → ⊥) → effect_by x f effect w q h ≡ effect_by x g effect w q h
    not_write w q None f g x n = refl
    not_write w q (Some (Writes y)) f g x n = absurd (n y refl)
    not_write w q (Some (Prepared y)) f g x n = refl
    not_write w q (Some Sync) f g x n = refl
    not_write w q (Some (Executed y)) f g x n = refl
    not_write w q (Some (Arrives y)) f g x n = refl
    not_write w q (Some (Switches y)) f g x n = refl
    not_write w q (Some (Appoints y)) f g x n = refl
    not_write w q (Some (PartOf y)) f g x n = refl

    pub same_entry : s ≡ suc (length log) → SameEntry (scan_entry t (listed t log) (suc (length log)) place effect v) (entry_of t l s place effect v)
    same_entry n = record { slot = sym n; value = refl; holds = sym same_holds; effect = same_effect }
      where
        same_effect : ((x : Txn) → held (open_parts l v.id.origin) v.what ≡ Some (Writes x) → ⊥) → (scan_entry t (listed t log) (suc (length log)) place effect v).effect ≡ (entry_of t l s place effect v).effect
        same_effect none =
            scan_is t (listed t log) effect v (open_parts (listed t log) v.id.origin) (held (open_parts (listed t log) v.id.origin) v.what)
            ∙ (ap (λ y. effect_by y (λ x. scan t.limits (certs (listed t log)) v.id.origin x) effect v.what (open_parts (listed t log) v.id.origin) (held (open_parts (listed t log) v.id.origin) v.what)) (sym a.view)
            ∙ (ap (λ q. effect_by (view t l) (λ x. scan t.limits (certs (listed t log)) v.id.origin x) effect v.what q (held q v.what)) (sym same_parts)
            ∙ (not_write v.what (open_parts l v.id.origin) (held (open_parts l v.id.origin) v.what) (λ x. scan t.limits (certs (listed t log)) v.id.origin x) (λ x. verdict t.limits (certifier t l) v.id.origin x) (view t l) none
            ∙ sym (effect_is t l effect v (open_parts l v.id.origin) (held (open_parts l v.id.origin) v.what)))))

-- ---- a value skipped

skipped_is : (r : Reading) (v : Value) → IsSkipped ≡ became r v → is_kept r v ≡ false
skipped_is r v h = go (is_kept r v) refl h
  where
    go : (b : Bool) → is_kept r v ≡ b → IsSkipped ≡ (if b then KeptAt (r.place + 1) (has_effect r v.what) else IsSkipped) → is_kept r v ≡ false
    go true e q = absurd (cc q)
    go false e q = e

skipped_reading : (r : Reading) (v : Value) → is_kept r v ≡ false → read r v ≡ r
unfolding read
skipped_reading r v h = ap (λ b. if b then (if has_effect r v.what then changed (kept r v) v.what else kept r v) else r) h

pub skipped_agrees : (t : Setup) (i : Inc) (l : Life) (log : List Value) (s : ℕ) (v : Value) → became (reading_of t log) v ≡ IsSkipped → AgreesWith t i l log → AgreesWith t i (Skips s v ∷ l) (v ∷ log)
skipped_agrees t i l log s v h a = record {
  view = a.view ∙ sym (ap (λ z. view t z) is_listed);
  place = a.place ∙ sym (ap (λ r. r.place) reading);
  fresh = λ o k. a.fresh o (subst (λ r. has_inc r.ever o ≡ false) reading k);
  parts = λ r o k. a.parts r o (subst (λ r. is_member_of r o ≡ true) reading k) ∙ sym (ap (λ z. open_parts z o) is_listed);
}
  where
    is_listed : listed t (v ∷ log) ≡ listed t log
    is_listed = ap (λ k. listed_by t (listed t log) (suc (length log)) v k) h

    reading : reading_of t (v ∷ log) ≡ reading_of t log
    reading = skipped_reading (reading_of t log) v (skipped_is (reading_of t log) v (sym h))
