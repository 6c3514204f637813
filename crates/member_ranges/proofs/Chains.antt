-- Incarnations in ascending order, each in its range.
use Rattle.std.proofs.Common.{◌≡◌, inl, inr, ℕ, suc, ◌≤◌, Bool, true, false, not, Option, Some, None, List, [], ◌∷◌, refl, ap, subst, arith, length}
use Rattle.std.specs.Prelude.{filter}
use Rattle.byte_forms.specs.Lists.{IsChain}
use Rattle.gr_ids.specs.Names.{inc_eq, inc_lt}
use Rattle.gr_ids.specs.declared.names.Inc.{Inc}
use Rattle.name_forms.specs.Incs.{IsInc, IsIncAfter}
use Rattle.slot_values.specs.Log.{incs, counted, with_inc, with_member, without}
use Rattle.slot_values.specs.declared.member.Member.{Member}
use Rattle.txn_forms.proofs.OpenPlaces.{below_below, else_above}
use Rattle.node_rules.specs.Lists.{In}

abbrev pub Ascend : Option Inc → List Inc → Type 0
Ascend b is = IsChain IsIncAfter b is

pub after_inc : (b : Option Inc) (i : Inc) → IsIncAfter b i → IsInc i
after_inc None i h = h
after_inc (Some b) i h = h.0

after_after : (b : Option Inc) (i j : Inc) → IsIncAfter b i → IsIncAfter (Some i) j → IsIncAfter b j
after_after None i j h k = k.0
after_after (Some b) i j h k = (k.0, below_below b i j h.1 k.1)

pub ascend_below : (is : List Inc) (b : Option Inc) (i : Inc) → IsIncAfter b i → Ascend (Some i) is → Ascend b is
ascend_below [] b i h k = tt
ascend_below (j ∷ js) b i h k = (after_after b i j h k.0, k.1)

pub ascend_none : (is : List Inc) (b : Option Inc) → Ascend b is → Ascend None is
ascend_none [] b k = tt
ascend_none (j ∷ js) b k = (after_inc b j k.0, k.1)

pub ascend_incs : (is : List Inc) (b : Option Inc) → Ascend b is → (i : Inc) → In i is → IsInc i
ascend_incs [] b k i h = absurd h
ascend_incs (j ∷ js) b k i (inl e) = subst IsInc e (after_inc b j k.0)
ascend_incs (j ∷ js) b k i (inr q) = ascend_incs js (Some j) k.1 i q

-- ---- one more, one fewer

pub ascend_with : (is : List Inc) (b : Option Inc) (i : Inc) → Ascend b is → IsIncAfter b i → Ascend b (with_inc is i)
ascend_with [] b i k h = (h, tt)
ascend_with (x ∷ xs) b i k h = go (inc_lt i x) refl (inc_eq i x) refl (ascend_with xs (Some x) i k.1)
  where
    go : (u : Bool) → inc_lt i x ≡ u → (v : Bool) → inc_eq i x ≡ v → (IsIncAfter (Some x) i → Ascend (Some x) (with_inc xs i)) → Ascend b (with_inc (x ∷ xs) i)
    go true e v f r = rw e (h, ((after_inc b x k.0, e), k.1))
    go false e true f r = rw (e, f) k
    go false e false f r = rw (e, f) (k.0, r (after_inc b i h, else_above i x e f))

pub ascend_filter : (p : Inc → Bool) (is : List Inc) (b : Option Inc) → Ascend b is → Ascend b (filter p is)
ascend_filter p [] b k = tt
ascend_filter p (x ∷ xs) b k = go (p x) refl (ascend_filter p xs (Some x) k.1)
  where
    go : (u : Bool) → p x ≡ u → Ascend (Some x) (filter p xs) → Ascend b (filter p (x ∷ xs))
    go true e r = rw e (k.0, r)
    go false e r = rw e (ascend_below (filter p xs) b x k.0 r)

-- ---- members

pub incs_counted : (ms : List Member) (i : Inc) (n : ℕ) → incs (counted ms i n) ≡ incs ms
incs_counted [] i n = refl
incs_counted (m ∷ ms) i n = ap (λ l. m.inc ∷ l) (incs_counted ms i n)

pub incs_without : (ms : List Member) (i : Inc) → incs (without ms i) ≡ filter (λ j. not (inc_eq j i)) (incs ms)
incs_without [] i = refl
incs_without (m ∷ ms) i = go (not (inc_eq m.inc i)) refl (incs_without ms i)
  where
    go : (u : Bool) → not (inc_eq m.inc i) ≡ u → incs (without ms i) ≡ filter (λ j. not (inc_eq j i)) (incs ms) → incs (without (m ∷ ms) i) ≡ filter (λ j. not (inc_eq j i)) (incs (m ∷ ms))
    go true e r = rw e (ap (λ l. m.inc ∷ l) r)
    go false e r = rw e r

-- one that is no member yet
pub incs_with : (ms : List Member) (i : Inc) → ((m : Member) → In m ms → inc_eq i m.inc ≡ false) → incs (with_member ms i) ≡ with_inc (incs ms) i
incs_with [] i h = refl
incs_with (m ∷ ms) i h = go (inc_lt i m.inc) refl (incs_with ms i (λ x q. h x (inr q)))
  where
    go : (u : Bool) → inc_lt i m.inc ≡ u → incs (with_member ms i) ≡ with_inc (incs ms) i → incs (with_member (m ∷ ms) i) ≡ with_inc (incs (m ∷ ms)) i
    go true e r = rw e refl
    go false e r = rw (e, h m (inl refl)) (ap (λ l. m.inc ∷ l) r)

pub length_with : (ms : List Member) (i : Inc) → length (incs (with_member ms i)) ≡ suc (length (incs ms))
length_with [] i = refl
length_with (m ∷ ms) i = go (inc_lt i m.inc) refl (length_with ms i)
  where
    go : (u : Bool) → inc_lt i m.inc ≡ u → length (incs (with_member ms i)) ≡ suc (length (incs ms)) → length (incs (with_member (m ∷ ms) i)) ≡ suc (length (incs (m ∷ ms)))
    go true e r = rw e refl
    go false e r = rw e (ap suc r)

pub filter_shorter : {A : Type 0} (p : A → Bool) (xs : List A) → length (filter p xs) ≤ length xs
filter_shorter p [] = omega arith
filter_shorter p (x ∷ xs) = go (p x) refl (filter_shorter p xs)
  where
    go : (u : Bool) → p x ≡ u → length (filter p xs) ≤ length xs → length (filter p (x ∷ xs)) ≤ length (x ∷ xs)
    go true e r = rw e (omega (arith, r))
    go false e r = rw e (omega (arith, r))
