-- Votes in ascending order, each in its range.
use Rattle.std.proofs.Common.{◌≡◌, inl, inr, ℕ, suc, ◌≤◌, Bool, true, false, Option, Some, List, [], ◌∷◌, refl, subst, arith, eqb, ltb, leb, length}
use Rattle.std.proofs.lemmas.Bool.{eqb-true, eqb-false, ltb-true, ltb-false, cases_Bool}
use Rattle.byte_forms.specs.Lists.{IsChain}
use Rattle.slot_values.specs.Spelling.{IsValue, IsVoteAfter, least_slot}
use Rattle.slot_values.specs.declared.value.Vote.{Vote}
use Rattle.node_rules.specs.Lists.{In}
use Rattle.node_rules.specs.Slots.{put_slot, from_slot}

abbrev pub Chain : Option Vote → List Vote → Type 0
Chain b xs = IsChain IsVoteAfter b xs

pub chain_values : (xs : List Vote) (b : Option Vote) → Chain b xs → (x : Vote) → In x xs → IsValue x.value
chain_values [] b k x h = absurd h
chain_values (y ∷ ys) b k x (inl e) = subst (λ z. IsValue z.value) e (k.0).value
chain_values (y ∷ ys) b k x (inr q) = chain_values ys (Some y) k.1 x q

after_less : (b c : Option Vote) (x : Vote) → least_slot c ≤ least_slot b → IsVoteAfter b x → IsVoteAfter c x
after_less b c x h k = record { slot_above = omega (arith, h, k.slot_above); slot_below = k.slot_below; ballot = k.ballot; value = k.value }

chain_less : (xs : List Vote) (b c : Option Vote) → least_slot c ≤ least_slot b → Chain b xs → Chain c xs
chain_less [] b c h k = tt
chain_less (x ∷ xs) b c h k = (after_less b c x h k.0, k.1)

pub chain_put : (xs : List Vote) (b : Option Vote) (x : Vote) → Chain b xs → IsVoteAfter b x → Chain b (put_slot (λ y. y.slot) xs x)
chain_put [] b x k h = (h, tt)
chain_put (y ∷ ys) b x k h = go (eqb y.slot x.slot) refl (ltb x.slot y.slot) refl (chain_put ys (Some y) x k.1)
  where
    up : eqb y.slot x.slot ≡ false → ltb x.slot y.slot ≡ false → suc y.slot ≤ x.slot
    up e f = elim (cases_Bool (ltb y.slot x.slot)) [
      | inl q ↦ (let a = ltb-true y.slot x.slot q in omega (arith, a))
      | inr q ↦ absurd (eqb-false y.slot x.slot e (let a = ltb-false y.slot x.slot q in let c = ltb-false x.slot y.slot f in omega (arith, a, c)))
    ]

    go : (u : Bool) → eqb y.slot x.slot ≡ u → (v : Bool) → ltb x.slot y.slot ≡ v → (IsVoteAfter (Some y) x → Chain (Some y) (put_slot (λ z. z.slot) ys x)) → Chain b (put_slot (λ z. z.slot) (y ∷ ys) x)
    go true e v f r = rw e (h, chain_less ys (Some y) (Some x) (let a = eqb-true y.slot x.slot e in omega (arith, a)) k.1)
    go false e true f r = rw (e, f) (h, (record { slot_above = (let a = ltb-true x.slot y.slot f in omega (arith, a)); slot_below = (k.0).slot_below; ballot = (k.0).ballot; value = (k.0).value }, k.1))
    go false e false f r = rw (e, f) (k.0, r (record { slot_above = up e f; slot_below = h.slot_below; ballot = h.ballot; value = h.value }))

pub chain_from : (xs : List Vote) (s : ℕ) (b c : Option Vote) → least_slot c ≤ least_slot b → Chain b xs → Chain c (from_slot (λ y. y.slot) xs s)
chain_from [] s b c h k = tt
chain_from (x ∷ xs) s b c h k = go (leb s x.slot) refl (chain_from xs s (Some x))
  where
    go : (u : Bool) → leb s x.slot ≡ u → ((d : Option Vote) → least_slot d ≤ suc x.slot → Chain (Some x) xs → Chain d (from_slot (λ y. y.slot) xs s)) → Chain c (from_slot (λ y. y.slot) (x ∷ xs) s)
    go true e r = rw e (after_less b c x h k.0, r (Some x) (omega arith) k.1)
    go false e r = rw e (r c (omega (arith, h, (k.0).slot_above)) k.1)

pub from_shorter : (xs : List Vote) (s : ℕ) {n : ℕ} → length xs ≤ n → length (from_slot (λ y. y.slot) xs s) ≤ n
from_shorter xs s h = let a = shorter xs in omega (arith, a, h)
  where
    shorter : (ys : List Vote) → length (from_slot (λ y. y.slot) ys s) ≤ length ys
    shorter [] = omega arith
    shorter (y ∷ ys) = go (leb s y.slot) refl (shorter ys)
      where
        go : (u : Bool) → leb s y.slot ≡ u → length (from_slot (λ y. y.slot) ys s) ≤ length ys → length (from_slot (λ y. y.slot) (y ∷ ys) s) ≤ length (y ∷ ys)
        go true e r = rw e (omega (arith, r))
        go false e r = rw e (omega (arith, r))
