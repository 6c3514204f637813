-- A Welcome comes with the slot of the joiner's own Add, and that slot holds it.
use Rattle.std.proofs.Common.{ltb, ◌≡◌, inl, inr, ℕ, zero, suc, ◌+◌, ◌-◌, ◌≤◌, ◌<◌, Bool, true, false, not, Some, None, List, [], ◌∷◌, ◌++◌, refl, sym, ap, subst, ◌∙◌, length, take, arith}
use Rattle.std.specs.Prelude.{slice_get, if◌then◌else◌, IsTrue}
use Rattle.std.proofs.lemmas.Bool.{cases_Bool, leb-true, leb-false}
use Rattle.gr_ids.specs.declared.names.Inc.{Inc}
use Rattle.slot_values.specs.declared.value.Joiner.{Joiner}
use Rattle.slot_values.specs.declared.value.Value.{Value}
use Rattle.slot_values.specs.declared.value.What.TheVariants.{Add}
use Rattle.slot_values.specs.declared.kept.Kept.{Kept}
use Rattle.slot_values.specs.declared.kept.Kept.TheVariants.{At as KeptAt, Skipped as IsSkipped}
use Rattle.slot_values.specs.Log.{Group, Reading, incs, is_kept, has_effect, config, majority, became, after}
use Rattle.node_rules.specs.Chosen.{Cast, IsChosenLog, has_cast, cast_of}
use Rattle.order_laws.specs.Laws.{AddedIn}
use Rattle.group_rules.specs.declared.marks.Effect.{Effect}
use Rattle.group_rules.specs.declared.marks.Effect.TheVariants.{Plain}
use Rattle.group_rules.specs.View.{void_if}
use Rattle.group_rules.specs.Events.{Took, Skips, Life, Setup, Entry}
use Rattle.group_rules.specs.Parts.{open_parts, held}
use Rattle.group_rules.specs.Steps.{group_of}
use Rattle.group_rules.specs.Taking.{effect_of, entry_of}
use Rattle.group_rules.specs.World.{Past, life_in}
use Rattle.group_rules.specs.OneList.{reading_of, value_at, before_slot}
use Rattle.group_bridge.specs.Left.{slot_left}
use Rattle.group_order.specs.OneLog.{OnLog, LeftBy}
use Rattle.group_order.proofs.Flips.{flip, flip_length, read_flip, take_flip, get_take, take_less, before_length, before_next}

-- ---- a part of a log of chosen values is one

get_none : {A : Type 0} (xs : List A) (n k : ℕ) → n ≤ k → slice_get (take n xs) k ≡ None
get_none xs zero k h = refl
get_none [] (suc n) k h = refl
get_none (x ∷ xs) (suc n) zero h = absurd (omega (arith, h))
get_none (x ∷ xs) (suc n) (suc k) h = get_none xs n k (omega (arith, h))

pub take_chosen : (g : Group) (cs : List Cast) (xs : List Value) (n : ℕ) → IsChosenLog g cs xs → IsChosenLog g cs (take n xs)
take_chosen g cs xs n h k u q = elim (cases_Bool (ltb k n)) [
  | inl a ↦ (let lt : k < n = leb-true (suc k) n a in
      let x = h k u (sym (get_take xs n k lt) ∙ q) in
      let same : config g xs (k + 1) ≡ config g (take n xs) (k + 1) = ap (λ l. incs (after g l).members) (sym (take_less xs ((k + 1) - g.horizon) n (omega (arith, lt)))) in
      (x.0, subst (λ c. IsTrue (majority c (λ i. has_cast cs (cast_of i (k + 1) x.0 u)))) same x.1))
  | inr a ↦ (let ge = leb-false (suc k) n a in let none : None ≡ Some u = sym (get_none xs n k (omega (arith, ge))) ∙ q in absurd (cc))
]

-- ---- an Add that took effect

pub kept_is : (r : Reading) (v : Value) (p : ℕ) (b : Bool) → KeptAt p b ≡ became r v → (is_kept r v ≡ true) × (has_effect r v.what ≡ b)
kept_is r v p b h = go (is_kept r v) refl h
  where
    go : (c : Bool) → is_kept r v ≡ c → KeptAt p b ≡ (if c then KeptAt (r.place + 1) (has_effect r v.what) else IsSkipped) → (is_kept r v ≡ true) × (has_effect r v.what ≡ b)
    go true e q = let z : b ≡ has_effect r v.what = cc in (e, sym z)
    go false e q = absurd (cc q)

abbrev IsPlain : Effect → Type 0
IsPlain Plain = Unit {0}
IsPlain x = ⊥

void_plain : (b : Bool) → void_if (not b) ≡ Plain → b ≡ true
void_plain true e = refl
void_plain false e = absurd (subst (λ x. IsPlain x) (sym e) tt)

add_plain : (t : Setup) (l : Life) (s p : ℕ) (b : Bool) (v : Value) (j : Joiner) → v.what ≡ Add j → (entry_of t l s p b v).effect ≡ Plain → b ≡ true
add_plain t l s p b v j y h = void_plain b (subst (λ u. effect_of t l b (record { id = v.id; what = u }) (open_parts l v.id.origin) (held (open_parts l v.id.origin) u) ≡ Plain) y h)

-- what an entry was taken from
pub record TookAs (t : Setup) (log : List Value) (l : Life) (e : Entry) : Type 0 where
  pub before : ℕ
  pub slot : e.slot ≡ suc before
  pub within : before < length log
  pub value : value_at log e.slot ≡ Some e.value
  pub effect : Bool
  pub place : ℕ
  pub kept : KeptAt place effect ≡ became (reading_of t (before_slot log e.slot)) e.value
  pub is_it : e ≡ entry_of t l e.slot place effect e.value

pub took_as : (t : Setup) (log : List Value) (p : Past) (i : Inc) (e : Entry) → LeftBy t log p i (Took e) → TookAs t log (life_in p i) e
took_as t log p i e h = go (h.0).kept refl
  where
    o : OnLog t log h.0
    o = h.2

    go : (k : Kept) → (h.0).kept ≡ k → TookAs t log (life_in p i) e
    go IsSkipped q = let z : Took e ≡ Skips (h.0).slot (h.0).value = h.1 ∙ ap (λ k. slot_left t (life_in p i) (h.0).slot (h.0).value k) q in absurd (cc)
    go (KeptAt n b) q =
        let z : Took e ≡ Took (entry_of t (life_in p i) (h.0).slot n b (h.0).value) = h.1 ∙ ap (λ k. slot_left t (life_in p i) (h.0).slot (h.0).value k) q in
        let same : e ≡ entry_of t (life_in p i) (h.0).slot n b (h.0).value = cc in
        subst (λ d. TookAs t log (life_in p i) d) (sym same) (record {
          before = o.before;
          slot = o.slot;
          within = o.within;
          value = o.value;
          effect = b;
          place = n;
          kept = sym q ∙ o.kept;
          is_it = refl;
        })

-- an Add that was taken as Plain took effect
pub add_effect : (t : Setup) (log : List Value) (l : Life) (e : Entry) (j : Joiner) → (x : TookAs t log l e) → e.value.what ≡ Add j → e.effect ≡ Plain → x.effect ≡ true
add_effect t log l e j x w f = add_plain t l e.slot x.place x.effect e.value j w (sym (ap (λ y. y.effect) x.is_it) ∙ f)

module _ (t : Setup) (cs : List Cast) (log : List Value) (chosen : IsChosenLog (group_of t) cs (flip log)) where
  pub added_here : (l : Life) (e : Entry) (j : Joiner) → TookAs t log l e → e.value.what ≡ Add j → e.effect ≡ Plain → AddedIn (group_of t) cs j.inc e.slot
  added_here l e j x w f = (
    flip (before_slot log e.slot),
    e.value,
    j,
    subst (λ y. IsChosenLog (group_of t) cs y) with_it (take_chosen (group_of t) cs (flip log) e.slot chosen),
    slot,
    w,
    refl,
    subst (λ r. is_kept r e.value ≡ true) (sym (read_flip t (before_slot log e.slot))) k.0,
    subst (λ r. has_effect r e.value.what ≡ true) (sym (read_flip t (before_slot log e.slot))) (k.1 ∙ effect),
  )
    where
      k : (is_kept (reading_of t (before_slot log e.slot)) e.value ≡ true) × (has_effect (reading_of t (before_slot log e.slot)) e.value.what ≡ x.effect)
      k = kept_is (reading_of t (before_slot log e.slot)) e.value x.place x.effect x.kept

      effect : x.effect ≡ true
      effect = add_effect t log l e j x w f

      slot : e.slot ≡ length (flip (before_slot log e.slot)) + 1
      slot =
          let a : length (before_slot log (suc x.before)) ≡ x.before = before_length log x.before (omega (arith, x.within)) in
          let b : length (flip (before_slot log e.slot)) ≡ x.before = flip_length (before_slot log e.slot) ∙ (ap (λ s. length (before_slot log s)) x.slot ∙ a) in
          omega (arith, b, x.slot)

      with_it : take e.slot (flip log) ≡ flip (before_slot log e.slot) ++ e.value ∷ []
      with_it =
          sym (take_flip log e.slot)
          ∙ (ap (λ s. flip (before_slot log (suc s))) x.slot
          ∙ (ap flip (before_next log x.before e.value (ap (λ s. value_at log s) (sym x.slot) ∙ x.value))
          ∙ ap (λ s. flip (before_slot log s) ++ e.value ∷ []) (sym x.slot)))
