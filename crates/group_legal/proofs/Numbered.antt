-- The list of a log is a kept list: each value is of a member, with its next number.
use Rattle.std.proofs.Common.{◌≡◌, ◌⊎◌, inl, inr, ℕ, suc, ◌+◌, Bool, true, false, cond, not, ◌&&◌, ◌||◌, eqb, eqb-true, List, [], ◌∷◌, refl, sym, ap, subst, ◌∙◌, map, arith}
use Rattle.std.specs.Prelude.{if◌then◌else◌}
use Rattle.std.proofs.lemmas.Bool.{false≢true, and_parts, not-true}
use Rattle.gr_ids.specs.declared.names.Inc.{Inc}
use Rattle.gr_ids.specs.Names.{inc_eq, inc_lt, has_inc}
use Rattle.slot_values.specs.declared.value.Joiner.{Joiner}
use Rattle.slot_values.specs.declared.value.Value.{Value}
use Rattle.slot_values.specs.declared.value.What.{What}
use Rattle.slot_values.specs.declared.value.What.TheVariants.{Noop, Add, Remove, Body as Says}
use Rattle.slot_values.specs.Values.{is_noop}
use Rattle.slot_values.specs.declared.member.Member.{Member}
use Rattle.slot_values.specs.Log.{incs, is_next, is_kept, has_effect, counted, with_member, without, changed, kept, read}
use Rattle.group_rules.specs.Events.{Setup}
use Rattle.group_rules.specs.View.{View}
use Rattle.group_rules.specs.Life.{view}
use Rattle.group_rules.specs.OneList.{reading_of, listed}
use Rattle.group_laws.specs.Lists.{Mem}
use Rattle.group_laws.specs.Entries as law
use Rattle.group_laws.specs.View as seen
use Rattle.group_laws.specs.World.{IsKeptList}
use Rattle.node_rules.proofs.Incs.{inc_is, inc_back}
use Rattle.group_laws.proofs.Lists.{any_mem}
use Rattle.group_lives.specs.Lives.{placed}
use Rattle.group_lives.proofs.Taking.{views_agree}
use Rattle.group_lives.proofs.Standings.{sat, stands}
use Rattle.group_lives.proofs.Giving.{has_seated, came_in}
use Rattle.group_order.proofs.Listed.{listed_seats}
use Rattle.group_order.proofs.Members.{by_read}
use Rattle.group_legal.proofs.Scanned.{old_list, new_entry, takes}
use Rattle.group_legal.proofs.Newcomers.{never, adds_new, list_if}

-- one that never was a member made no kept value
no_number : (s : Setup) (p : List law.Value) (m : Inc) → IsKeptList s p → seen.standing s p m ≡ seen.Absent → seen.last_kept p m ≡ 0
no_number s [] m k a = refl
no_number s (v ∷ p) m k a = go (inc_eq v.origin m) refl (came_in m v.origin v.body (seen.standing s p m) a) (no_number s p m k.1)
  where
    go : (b : Bool) → inc_eq v.origin m ≡ b → seen.standing s p m ≡ seen.Absent → (seen.standing s p m ≡ seen.Absent → seen.last_kept p m ≡ 0) → cond (inc_eq v.origin m) v.number (seen.last_kept p m) ≡ 0
    go true q z f = absurd (false≢true (ap seen.is_in (sym z) ∙ ap (λ (i : Inc). seen.member s p i) (sym (inc_is v.origin m q)) ∙ k.0.1))
    go false q z f = ap (λ (b : Bool). cond b v.number (seen.last_kept p m)) q ∙ f z

-- the members' last numbers are those of the list
abbrev pub Lasts : List Member → List law.Value → Type 0
Lasts ms p = (m : Member) → Mem m ms → m.last ≡ seen.last_kept p m.inc

mem_put : (ms : List Member) (i : Inc) (m : Member) → Mem m (with_member ms i) → (record { inc = i; last = 0 } ≡ m) ⊎ Mem m ms
mem_put [] i m (inl e) = inl e
mem_put [] i m (inr h) = absurd h
mem_put (x ∷ xs) i m h = go (inc_lt i x.inc) h (mem_put xs i m)
  where
    go : (b : Bool) → Mem m (if b then record { inc = i; last = 0 } ∷ x ∷ xs else x ∷ with_member xs i) → (Mem m (with_member xs i) → (record { inc = i; last = 0 } ≡ m) ⊎ Mem m xs) → (record { inc = i; last = 0 } ≡ m) ⊎ Mem m (x ∷ xs)
    go true (inl e) f = inl e
    go true (inr h) f = inr h
    go false (inl e) f = inr (inl e)
    go false (inr h) f = elim (f h) [ inl e ↦ inl e | inr k ↦ inr (inr k) ]

mem_left : (ms : List Member) (i : Inc) (m : Member) → Mem m (without ms i) → Mem m ms
mem_left [] i m h = h
mem_left (x ∷ xs) i m h = go (not (inc_eq x.inc i)) h (mem_left xs i m)
  where
    go : (b : Bool) → Mem m (if b then x ∷ without xs i else without xs i) → (Mem m (without xs i) → Mem m xs) → Mem m (x ∷ xs)
    go true (inl e) f = inl e
    go true (inr h) f = inr (f h)
    go false h f = inr (f h)

counted_lasts : (ms : List Member) (p : List law.Value) (v : law.Value) → Lasts ms p → Lasts (counted ms v.origin v.number) (v ∷ p)
counted_lasts [] p v h m k = absurd k
counted_lasts (x ∷ xs) p v h m (inr k) = counted_lasts xs p v (λ y z. h y (inr z)) m k
counted_lasts (x ∷ xs) p v h m (inl e) = subst (λ (y : Member). y.last ≡ seen.last_kept (v ∷ p) y.inc) e
    (go (inc_eq x.inc v.origin) refl)
  where
    go : (b : Bool) → inc_eq x.inc v.origin ≡ b → cond (inc_eq x.inc v.origin) v.number x.last ≡ cond (inc_eq v.origin x.inc) v.number (seen.last_kept p x.inc)
    go b q = (λ k. cond (inc_back x.inc v.origin k) v.number (h x (inl refl) k))

founded_lasts : (is : List Inc) → Lasts (map (λ i. record { inc = i; last = 0 }) is) []
founded_lasts [] m h = absurd h
founded_lasts (i ∷ is) m (inl e) = ap (λ (y : Member). y.last) (sym e)
founded_lasts (i ∷ is) m (inr h) = founded_lasts is m h

-- a kept value is of a member, with its next number
next_of : (ms : List Member) (p : List law.Value) (i : Inc) (n : ℕ) → is_next ms i n ≡ true → Lasts ms p → (has_inc (incs ms) i ≡ true) × (n ≡ suc (seen.last_kept p i))
next_of ms p i n h k =
    let x = any_member ms h in
    let y = and_parts (inc_eq x.0.inc i) (eqb n (x.0.last + 1)) x.2 in
    let e : x.0.inc ≡ i = inc_is x.0.inc i y.0 in
    let l : x.0.last ≡ seen.last_kept p i = k x.0 x.1 ∙ ap (seen.last_kept p) e in
    let z : n ≡ x.0.last + 1 = eqb-true n (x.0.last + 1) y.1 in
    (member_there ms x.0 x.1 y.0, omega (arith, z, l))
  where
    any_member : (ms : List Member) → is_next ms i n ≡ true → (m : Member) × Mem m ms × ((inc_eq m.inc i && eqb n (m.last + 1)) ≡ true)
    any_member ms h = any_mem (λ m. inc_eq m.inc i && (eqb n (m.last + 1))) ms h

    member_there : (ms : List Member) (m : Member) → Mem m ms → inc_eq m.inc i ≡ true → has_inc (incs ms) i ≡ true
    member_there [] m h e = absurd h
    member_there (x ∷ xs) m (inl q) e = ap (λ (b : Bool). b || has_inc (incs xs) i) (ap (λ (y : Member). inc_eq y.inc i) q ∙ e)
    member_there (x ∷ xs) m (inr q) e = ap (λ (b : Bool). inc_eq x.inc i || b) (member_there xs m q e) ∙ right (inc_eq x.inc i)
      where
        right : (b : Bool) → (b || true) ≡ true
        right true = refl
        right false = refl

module _ (t : Setup) (base : List law.Placed) where
  abbrev list_at : List Value → List law.Value
  list_at log = law.values (old_list t base log)

  members_stand : (log : List Value) (m : Inc) → has_inc (incs (reading_of t log).members) m ≡ seen.is_in (seen.standing t (list_at log) m)
  members_stand log m =
      ap (λ (is : List Inc). has_inc is m) (sym (listed_seats t log))
      ∙ has_seated (view t (listed t log)).seats m
      ∙ ap (λ (v : View). sat v.seats m) (sym (views_agree t base (listed t log) (takes t base log)))
      ∙ (stands t (list_at log) m (adds_new t base log)).0

  abbrev new_value : Value → List Value → law.Value
  new_value v log = (placed (new_entry t v log)).value

  -- one that is added made no value
  newcomer_last : (v : Value) (log : List Value) (j : Joiner) → IsKeptList t (list_at log) → seen.member t (list_at log) v.id.origin ≡ true → has_effect (reading_of t log) (Add j) ≡ true
      → seen.last_kept (new_value v log ∷ list_at log) j.inc ≡ 0
  newcomer_last v log j k q h = go (inc_eq v.id.origin j.inc) refl
    where
      absent : seen.standing t (list_at log) j.inc ≡ seen.Absent
      absent = never t base log j.inc (not-true (has_inc (reading_of t log).ever j.inc) (and_parts _ (not (has_inc (reading_of t log).ever j.inc)) h).1)

      go : (b : Bool) → inc_eq v.id.origin j.inc ≡ b → cond (inc_eq v.id.origin j.inc) v.id.number (seen.last_kept (list_at log) j.inc) ≡ 0
      go true e = absurd (false≢true (ap seen.is_in (sym absent) ∙ ap (λ (i : Inc). seen.member t (list_at log) i) (sym (inc_is v.id.origin j.inc e)) ∙ q))
      go false e = ap (λ (b : Bool). cond b v.id.number (seen.last_kept (list_at log) j.inc)) e ∙ no_number t (list_at log) j.inc k absent

  -- the members after a value that is kept
  lasts_more : (v : Value) (log : List Value) → IsKeptList t (list_at log) → seen.member t (list_at log) v.id.origin ≡ true → Lasts (reading_of t log).members (list_at log)
      → is_kept (reading_of t log) v ≡ true → Lasts (read (reading_of t log) v).members (new_value v log ∷ list_at log)
  lasts_more v log k q h kept_here = by_read (λ z. Lasts z.members (new_value v log ∷ list_at log)) v (reading_of t log)
      (λ n. absurd (false≢true (sym n ∙ kept_here)))
      (λ y e. counted_here)
      (λ y e. by_what v.what refl e)
    where
      counted_here : Lasts (counted (reading_of t log).members v.id.origin v.id.number) (new_value v log ∷ list_at log)
      counted_here = counted_lasts (reading_of t log).members (list_at log) (new_value v log) h

      by_what : (w : What) → v.what ≡ w → has_effect (reading_of t log) w ≡ true → Lasts (changed (kept (reading_of t log) v) w).members (new_value v log ∷ list_at log)
      by_what (Add j) e x m i = elim (mem_put (counted (reading_of t log).members v.id.origin v.id.number) j.inc m i) [
        | inl z ↦ subst (λ (y : Member). y.last ≡ seen.last_kept (new_value v log ∷ list_at log) y.inc) z (sym (newcomer_last v log j k q x))
        | inr z ↦ counted_here m z
      ]
      by_what (Remove i) e x m z = counted_here m (mem_left (counted (reading_of t log).members v.id.origin v.id.number) i m z)
      by_what Noop e x m z = counted_here m z
      by_what (Says b) e x m z = counted_here m z

  pub kept_list : (log : List Value) → IsKeptList t (list_at log) × Lasts (reading_of t log).members (list_at log)
  kept_list [] = (tt, founded_lasts (map (λ j. j.inc) t.founders))
  kept_list (v ∷ log) = go (is_kept (reading_of t log) v) refl (kept_list log)
    where
      go : (b : Bool) → is_kept (reading_of t log) v ≡ b → IsKeptList t (list_at log) × Lasts (reading_of t log).members (list_at log)
          → IsKeptList t (list_if t base b v log) × Lasts (read (reading_of t log) v).members (list_if t base b v log)
      go true e h =
          let n = next_of (reading_of t log).members (list_at log) v.id.origin v.id.number (and_parts (not (is_noop v.what)) (is_next (reading_of t log).members v.id.origin v.id.number) e).1 h.1 in
          let q : seen.member t (list_at log) v.id.origin ≡ true = sym (members_stand log v.id.origin) ∙ n.0 in
          (((n.1, q), h.0), lasts_more v log h.0 q h.1 e)
      go false e h = (h.0, by_read (λ z. Lasts z.members (list_at log)) v (reading_of t log) (λ y. h.1) (λ y x. absurd (false≢true (sym e ∙ y))) (λ y x. absurd (false≢true (sym e ∙ y))))
