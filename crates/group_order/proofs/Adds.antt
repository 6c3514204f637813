-- An incarnation is added once, so the slot of its Add is known from any log that has it.
use Rattle.std.proofs.Common.{ltb, ◌≡◌, ◌⊎◌, inl, inr, ℕ, suc, ◌≤◌, ◌<◌, Bool, true, false, cond, not, ◌||◌, List, [], ◌∷◌, ◌++◌, refl, sym, ap, subst, ◌∙◌, length, take, drop, length-append, take-append-drop, arith}
use Rattle.std.specs.Prelude.{fold, if◌then◌else◌}
use Rattle.std.proofs.lemmas.Bool.{false≢true, cases_Bool, and_parts, cond_both, leb-true, leb-false}
use Rattle.std.proofs.lemmas.List.Sums.{fold-append}
use Rattle.gr_ids.specs.Names.{inc_eq, inc_lt, has_inc}
use Rattle.gr_ids.specs.declared.names.Inc.{Inc}
use Rattle.slot_values.specs.declared.value.Joiner.{Joiner}
use Rattle.slot_values.specs.declared.value.Value.{Value}
use Rattle.slot_values.specs.declared.value.What.{What}
use Rattle.slot_values.specs.declared.value.What.TheVariants.{Noop, Add, Remove, Body as Says}
use Rattle.slot_values.specs.Log.{Group, Reading, founded, is_kept, has_effect, with_inc, kept, changed, read, after}
use Rattle.node_rules.specs.Chosen.{Cast, IsChosenLog}
use Rattle.order_laws.specs.Laws.{AddedIn}
use Rattle.node_rules.proofs.Incs.{inc_same, inc_is}
use Rattle.group_order.proofs.Flips.{take_less, take_whole}

-- ---- the incarnations that ever were members

pub with_here : (xs : List Inc) (i : Inc) → has_inc (with_inc xs i) i ≡ true
with_here [] i = ap (λ b. b || false) (inc_same i)
with_here (x ∷ xs) i = go (inc_lt i x) (inc_eq i x) refl (with_here xs i)
  where
    go : (a b : Bool) → inc_eq i x ≡ b → has_inc (with_inc xs i) i ≡ true → has_inc (if a then i ∷ x ∷ xs else (if b then x ∷ xs else x ∷ with_inc xs i)) i ≡ true
    go true b e k = ap (λ c. c || has_inc (x ∷ xs) i) (inc_same i)
    go false true e k = let s : i ≡ x = inc_is i x e in ap (λ c. c || has_inc xs i) (subst (λ z. inc_eq x z ≡ true) (sym s) (inc_same x))
    go false false e k = or_right (inc_eq x i) k
      where
        or_right : (a : Bool) {b : Bool} → b ≡ true → (a || b) ≡ true
        or_right true h = refl
        or_right false h = h

pub or_parts : (a b : Bool) → (a || b) ≡ true → (a ≡ true) ⊎ (b ≡ true)
or_parts true b h = inl refl
or_parts false b h = inr h

pub or_first : (a b : Bool) → a ≡ true → (a || b) ≡ true
or_first true b h = refl
or_first false b h = absurd (false≢true h)

pub or_second : (a b : Bool) → b ≡ true → (a || b) ≡ true
or_second true b h = refl
or_second false b h = h

pub with_more : (xs : List Inc) (i j : Inc) → has_inc xs j ≡ true → has_inc (with_inc xs i) j ≡ true
with_more [] i j h = absurd (false≢true h)
with_more (x ∷ xs) i j h = go (inc_lt i x) (inc_eq i x) (or_parts (inc_eq x j) (has_inc xs j) h) (λ k. with_more xs i j k)
  where
    go : (a b : Bool) → (inc_eq x j ≡ true) ⊎ (has_inc xs j ≡ true) → (has_inc xs j ≡ true → has_inc (with_inc xs i) j ≡ true) → has_inc (if a then i ∷ x ∷ xs else (if b then x ∷ xs else x ∷ with_inc xs i)) j ≡ true
    go true b k r = or_second (inc_eq i j) (has_inc (x ∷ xs) j) h
    go false true k r = h
    go false false (inl k) r = or_first (inc_eq x j) (has_inc (with_inc xs i) j) k
    go false false (inr k) r = or_second (inc_eq x j) (has_inc (with_inc xs i) j) (r k)

changed_more : (r : Reading) (w : What) (i : Inc) → has_inc r.ever i ≡ true → has_inc (changed r w).ever i ≡ true
changed_more r (Add j) i h = with_more r.ever j.inc i h
changed_more r (Remove j) i h = h
changed_more r Noop i h = h
changed_more r (Says b) i h = h

read_more : (r : Reading) (v : Value) (i : Inc) → has_inc r.ever i ≡ true → has_inc (read r v).ever i ≡ true
unfolding read
read_more r v i h =
    cond_both (is_kept r v) (cond (has_effect r v.what) (changed (kept r v) v.what) (kept r v)) r (λ (z : Reading). has_inc z.ever i ≡ true)
    (λ q. cond_both (has_effect r v.what) (changed (kept r v) v.what) (kept r v) (λ (z : Reading). has_inc z.ever i ≡ true) (λ p. changed_more (kept r v) v.what i h) (λ p. h))
    (λ q. h)

pub ever_more : (r : Reading) (vs : List Value) (i : Inc) → has_inc r.ever i ≡ true → has_inc (fold read r vs).ever i ≡ true
ever_more r [] i h = h
ever_more r (v ∷ vs) i h = ever_more (read r v) vs i (read_more r v i h)

pub read_adds : (r : Reading) (v : Value) (j : Joiner) → is_kept r v ≡ true → has_effect r v.what ≡ true → v.what ≡ Add j → has_inc (read r v).ever j.inc ≡ true
unfolding read
read_adds r v j k e w = rw (k, e) (subst (λ z. has_inc (changed (kept r v) z).ever j.inc ≡ true) (sym w) (with_here r.ever j.inc))

-- one that ever was a member can't be added
pub not_again : (r : Reading) (j : Joiner) → has_inc r.ever j.inc ≡ true → has_effect r (Add j) ≡ true → ⊥
not_again r j h e = absurd (false≢true (sym (ap not h) ∙ (and_parts _ (not (has_inc r.ever j.inc)) e).1))

-- ---- two Adds of one

module _ (g : Group) (cs : List Cast) (shorter : (xs ys : List Value) → IsChosenLog g cs xs → IsChosenLog g cs ys → length ys ≤ length xs → ys ≡ take (length ys) xs) where
  earlier : (i : Inc) (s r : ℕ) → AddedIn g cs i s → AddedIn g cs i r → s < r → ⊥
  earlier i s r a b lt = not_again (after g b.0) b.2 again (subst (λ w. has_effect (after g b.0) w ≡ true) b.5 b.8)
    where
      len_x : length (a.0 ++ a.1 ∷ []) ≡ s
      len_x = let e = length-append a.0 (a.1 ∷ []) in omega (arith, e, a.4)

      len_y : length (b.0 ++ b.1 ∷ []) ≡ r
      len_y = let e = length-append b.0 (b.1 ∷ []) in omega (arith, e, b.4)

      front : a.0 ++ a.1 ∷ [] ≡ take (length (a.0 ++ a.1 ∷ [])) (b.0 ++ b.1 ∷ [])
      front = shorter (b.0 ++ b.1 ∷ []) (a.0 ++ a.1 ∷ []) b.3 a.3 (omega (arith, len_x, len_y, lt))

      -- the log before the later Add begins with that of the earlier one
      begins : a.0 ++ a.1 ∷ [] ≡ take (length (a.0 ++ a.1 ∷ [])) b.0
      begins = front ∙ (sym (take_less (b.0 ++ b.1 ∷ []) (length (a.0 ++ a.1 ∷ [])) (length b.0) (let e = length-append b.0 (b.1 ∷ []) in omega (arith, len_x, len_y, e, lt))) ∙ ap (λ l. take (length (a.0 ++ a.1 ∷ [])) l) (take_whole b.0 (b.1 ∷ [])))

      split : b.0 ≡ (a.0 ++ a.1 ∷ []) ++ drop (length (a.0 ++ a.1 ∷ [])) b.0
      split = sym (take-append-drop (length (a.0 ++ a.1 ∷ [])) b.0) ∙ ap (λ l. l ++ drop (length (a.0 ++ a.1 ∷ [])) b.0) (sym begins)

      added : has_inc (after g (a.0 ++ a.1 ∷ [])).ever i ≡ true
      added = subst (λ z. has_inc (after g (a.0 ++ a.1 ∷ [])).ever z ≡ true) a.6 (subst (λ z. has_inc z.ever (a.2).inc ≡ true) (sym (fold-append read (founded g) a.0 (a.1 ∷ []))) (read_adds (after g a.0) a.1 a.2 a.7 a.8 a.5))

      there : has_inc (after g b.0).ever i ≡ true
      there = subst (λ z. has_inc z.ever i ≡ true) (sym (ap (λ l. after g l) split ∙ fold-append read (founded g) (a.0 ++ a.1 ∷ []) (drop (length (a.0 ++ a.1 ∷ [])) b.0))) (ever_more (after g (a.0 ++ a.1 ∷ [])) (drop (length (a.0 ++ a.1 ∷ [])) b.0) i added)

      again : has_inc (after g b.0).ever (b.2).inc ≡ true
      again = subst (λ z. has_inc (after g b.0).ever z ≡ true) (sym b.6) there

  pub added_once : (i : Inc) (s r : ℕ) → AddedIn g cs i s → AddedIn g cs i r → s ≡ r
  added_once i s r a b = elim (cases_Bool (ltb s r)) [
    | inl h ↦ absurd (earlier i s r a b (leb-true (suc s) r h))
    | inr h ↦ elim (cases_Bool (ltb r s)) [
      | inl k ↦ absurd (earlier i r s b a (leb-true (suc r) s k))
      | inr k ↦ (let x = leb-false (suc s) r h in let y = leb-false (suc r) s k in omega (arith, x, y))
    ]
  ]
