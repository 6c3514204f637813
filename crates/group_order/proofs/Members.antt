-- The members that a log gives: they are distinct, each was added once, and those who never were members have no open parts.
use Rattle.std.proofs.Common.{◌≡◌, ◌⊎◌, inl, inr, ℕ, suc, ◌+◌, Bool, true, false, cond, not, ◌&&◌, ◌||◌, None, List, [], ◌∷◌, refl, sym, ap, subst, ◌∙◌, length, map}
use Rattle.std.specs.Prelude.{◌==◌, if◌then◌else◌}
use Rattle.std.proofs.lemmas.Bool.{false≢true, cases_Bool, cond_both, and_parts, not-true}
use Rattle.gr_ids.specs.Names.{inc_eq, inc_lt, has_inc}
use Rattle.gr_ids.specs.declared.names.Inc.{Inc}
use Rattle.slot_values.specs.declared.value.Value.{Value}
use Rattle.slot_values.specs.declared.value.What.{What}
use Rattle.slot_values.specs.declared.value.What.TheVariants.{Noop, Add, Remove, Body as Says}
use Rattle.slot_values.specs.Values.{is_noop}
use Rattle.slot_values.specs.declared.member.Member.{Member}
use Rattle.slot_values.specs.declared.kept.Kept.TheVariants.{At as KeptAt, Skipped as IsSkipped}
use Rattle.slot_values.specs.Log.{Reading, with_inc, incs, is_next, is_kept, has_effect, with_member, without, kept, changed, read}
use Rattle.group_rules.specs.Events.{Setup}
use Rattle.group_rules.specs.Parts.{open_parts}
use Rattle.group_rules.specs.Steps.{group_of}
use Rattle.group_rules.specs.OneList.{reading_of, listed_by, listed}
use Rattle.group_order.specs.OneLog.{is_member_of}
use Rattle.node_rules.proofs.Incs.{inc_is}
use Rattle.group_order.proofs.Adds.{with_more, with_here, or_parts, or_first, or_second}
use Rattle.group_order.proofs.Listed.{counted_incs, with_inc_more}

-- ---- one value read

-- what a property of readings needs to be kept by one value more
module _ (P : Reading → Type 0) (v : Value) (r : Reading) where
  pub by_read : (is_kept r v ≡ false → P r) → (is_kept r v ≡ true → has_effect r v.what ≡ false → P (kept r v)) → (is_kept r v ≡ true → has_effect r v.what ≡ true → P (changed (kept r v) v.what)) → P (read r v)
  unfolding read
  by_read a b c = cond_both (is_kept r v) (cond (has_effect r v.what) (changed (kept r v) v.what) (kept r v)) r (λ (z : Reading). P z)
      (λ q. cond_both (has_effect r v.what) (changed (kept r v) v.what) (kept r v) (λ (z : Reading). P z) (c q) (b q)) a

-- ---- the members put in

pub member_put : (ms : List Member) (i j : Inc) → has_inc (incs (with_member ms i)) j ≡ true → (inc_eq i j ≡ true) ⊎ (has_inc (incs ms) j ≡ true)
member_put [] i j h = elim (or_parts (inc_eq i j) false h) [ inl z ↦ inl z | inr z ↦ absurd (false≢true z) ]
member_put (m ∷ ms) i j h = go (inc_lt i m.inc) h (member_put ms i j)
  where
    go : (b : Bool) → has_inc (incs (if b then record { inc = i; last = 0 } ∷ m ∷ ms else m ∷ with_member ms i)) j ≡ true → (has_inc (incs (with_member ms i)) j ≡ true → (inc_eq i j ≡ true) ⊎ (has_inc (incs ms) j ≡ true)) → (inc_eq i j ≡ true) ⊎ (has_inc (incs (m ∷ ms)) j ≡ true)
    go true q k = or_parts (inc_eq i j) (has_inc (incs (m ∷ ms)) j) q
    go false q k = elim (or_parts (inc_eq m.inc j) (has_inc (incs (with_member ms i)) j) q) [
      | inl z ↦ inr (or_first (inc_eq m.inc j) (has_inc (incs ms) j) z)
      | inr z ↦ elim (k z) [ inl y ↦ inl y | inr y ↦ inr (or_second (inc_eq m.inc j) (has_inc (incs ms) j) y) ]
    ]

pub member_left : (ms : List Member) (i j : Inc) → has_inc (incs (without ms i)) j ≡ true → has_inc (incs ms) j ≡ true
member_left [] i j h = h
member_left (m ∷ ms) i j h = go (not (inc_eq m.inc i)) h (member_left ms i j)
  where
    go : (b : Bool) → has_inc (incs (if b then m ∷ without ms i else without ms i)) j ≡ true → (has_inc (incs (without ms i)) j ≡ true → has_inc (incs ms) j ≡ true) → (inc_eq m.inc j || has_inc (incs ms) j) ≡ true
    go true q k = elim (or_parts (inc_eq m.inc j) (has_inc (incs (without ms i)) j) q) [ inl z ↦ or_first (inc_eq m.inc j) (has_inc (incs ms) j) z | inr z ↦ or_second (inc_eq m.inc j) (has_inc (incs ms) j) (k z) ]
    go false q k = or_second (inc_eq m.inc j) (has_inc (incs ms) j) (k q)

-- ---- members were added once

pub counted_has : (r : Reading) (v : Value) (o : Inc) → is_member_of (kept r v) o ≡ is_member_of r o
counted_has r v o = ap (λ l. has_inc l o) (counted_incs r.members v.id.origin v.id.number)

-- each member was one before, or never was any
pub new_or_old : (r : Reading) (v : Value) (o : Inc) → is_member_of (read r v) o ≡ true → (is_member_of r o ≡ true) ⊎ (has_inc r.ever o ≡ false)
new_or_old r v o h = by_read (λ z. is_member_of z o ≡ true → (is_member_of r o ≡ true) ⊎ (has_inc r.ever o ≡ false)) v r
    (λ a k. inl k)
    (λ a b k. inl (sym (counted_has r v o) ∙ k))
    (λ a b. by_what v.what refl b)
    h
  where
    by_what : (w : What) → v.what ≡ w → has_effect r v.what ≡ true → is_member_of (changed (kept r v) v.what) o ≡ true → (is_member_of r o ≡ true) ⊎ (has_inc r.ever o ≡ false)
    by_what (Add j) q e k = elim (member_put (kept r v).members j.inc o (subst (λ y. is_member_of (changed (kept r v) y) o ≡ true) q k)) [
      | inl z ↦ inr (subst (λ y. has_inc r.ever y ≡ false) (inc_is j.inc o z) (not-true (has_inc r.ever j.inc) (and_parts _ (not (has_inc r.ever j.inc)) (subst (λ y. has_effect r y ≡ true) q e)).1))
      | inr z ↦ inl (sym (counted_has r v o) ∙ z)
    ]
    by_what (Remove i) q e k = inl (sym (counted_has r v o) ∙ member_left (kept r v).members i o (subst (λ y. is_member_of (changed (kept r v) y) o ≡ true) q k))
    by_what Noop q e k = inl (sym (counted_has r v o) ∙ subst (λ y. is_member_of (changed (kept r v) y) o ≡ true) q k)
    by_what (Says x) q e k = inl (sym (counted_has r v o) ∙ subst (λ y. is_member_of (changed (kept r v) y) o ≡ true) q k)

-- those who are new stay new before
pub ever_before : (r : Reading) (v : Value) (o : Inc) → has_inc (read r v).ever o ≡ false → has_inc r.ever o ≡ false
ever_before r v o h = by_read (λ z. has_inc z.ever o ≡ false → has_inc r.ever o ≡ false) v r (λ a k. k) (λ a b k. k) (λ a b. by_what v.what) h
  where
    by_what : (w : What) → has_inc (changed (kept r v) w).ever o ≡ false → has_inc r.ever o ≡ false
    by_what (Add j) k = with_inc_more r.ever j.inc o k
    by_what (Remove i) k = k
    by_what Noop k = k
    by_what (Says x) k = k

-- a member is one that ever was
pub members_were : (t : Setup) (log : List Value) (o : Inc) → is_member_of (reading_of t log) o ≡ true → has_inc (reading_of t log).ever o ≡ true
members_were t [] o h = subst (λ l. has_inc l o ≡ true) (founded_incs (group_of t).founders) h
  where
    founded_incs : (is : List Inc) → incs (map {A = Inc} (λ i. record { inc = i; last = 0 }) is) ≡ is
    founded_incs [] = refl
    founded_incs (i ∷ is) = ap (λ l. i ∷ l) (founded_incs is)
members_were t (v ∷ log) o h = by_read (λ z. is_member_of z o ≡ true → has_inc z.ever o ≡ true) v (reading_of t log)
    (λ a k. members_were t log o k)
    (λ a b k. members_were t log o (sym (counted_has (reading_of t log) v o) ∙ k))
    (λ a b. by_what (members_were t log o) v.what)
    h
  where
    by_what : (is_member_of (reading_of t log) o ≡ true → has_inc (reading_of t log).ever o ≡ true) → (w : What) → is_member_of (changed (kept (reading_of t log) v) w) o ≡ true → has_inc (changed (kept (reading_of t log) v) w).ever o ≡ true
    by_what f (Add j) k = elim (member_put (kept (reading_of t log) v).members j.inc o k) [
      | inl z ↦ subst (λ y. has_inc (with_inc (reading_of t log).ever j.inc) y ≡ true) (inc_is j.inc o z) (with_here (reading_of t log).ever j.inc)
      | inr z ↦ with_more (reading_of t log).ever j.inc o (f (sym (counted_has (reading_of t log) v o) ∙ z))
    ]
    by_what f (Remove i) k = f (sym (counted_has (reading_of t log) v o) ∙ member_left (kept (reading_of t log) v).members i o k)
    by_what f Noop k = f (sym (counted_has (reading_of t log) v o) ∙ k)
    by_what f (Says x) k = f (sym (counted_has (reading_of t log) v o) ∙ k)

-- ---- the origin of a kept value is a member

pub next_member : (ms : List Member) (i : Inc) (n : ℕ) → is_next ms i n ≡ true → has_inc (incs ms) i ≡ true
next_member [] i n h = h
next_member (m ∷ ms) i n h = elim (or_parts (inc_eq m.inc i && (n == m.last + 1)) (is_next ms i n) h) [
  | inl z ↦ or_first (inc_eq m.inc i) (has_inc (incs ms) i) (and_parts (inc_eq m.inc i) (n == m.last + 1) z).0
  | inr z ↦ or_second (inc_eq m.inc i) (has_inc (incs ms) i) (next_member ms i n z)
]

pub kept_origin : (r : Reading) (v : Value) → is_kept r v ≡ true → is_member_of r v.id.origin ≡ true
kept_origin r v h = next_member r.members v.id.origin v.id.number (and_parts (not (is_noop v.what)) _ h).1

-- ---- who never was a member has no open parts

pub new_has_none : (t : Setup) (log : List Value) (o : Inc) → has_inc (reading_of t log).ever o ≡ false → open_parts (listed t log) o ≡ None
new_has_none t [] o h = refl
new_has_none t (v ∷ log) o h = go (is_kept (reading_of t log) v) refl (new_has_none t log o (ever_before (reading_of t log) v o h))
  where
    other : is_kept (reading_of t log) v ≡ true → inc_eq v.id.origin o ≡ false
    other q = elim (cases_Bool (inc_eq v.id.origin o)) [
      | inl z ↦ absurd (false≢true (sym (ever_before (reading_of t log) v o h) ∙ subst (λ y. has_inc (reading_of t log).ever y ≡ true) (inc_is v.id.origin o z) (members_were t log v.id.origin (kept_origin (reading_of t log) v q))))
      | inr z ↦ z
    ]

    go : (b : Bool) → is_kept (reading_of t log) v ≡ b → open_parts (listed t log) o ≡ None → open_parts (listed_by t (listed t log) (suc (length log)) v (if b then KeptAt ((reading_of t log).place + 1) (has_effect (reading_of t log) v.what) else IsSkipped)) o ≡ None
    go false q k = k
    go true q k = rw (open_parts, other q) k
