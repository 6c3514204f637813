-- Ordered insertions, by the place where the new one goes.
use Rattle.std.proofs.Common.{◌≡◌, ℕ, suc, ◌<◌, ◌&&◌, ◌||◌, Bool, true, false, not, List, [], ◌∷◌, length, refl, sym, ap, ◌∙◌, arith}
use Rattle.std.specs.List.{prefix_len, insert}
use Rattle.std.proofs.lemmas.Bool.Decides.{nat_tests}
use Rattle.gr_ids.specs.declared.names.Inc.{Inc}
use Rattle.gr_ids.specs.Names.{inc_lt, inc_eq, has_inc}
use Rattle.slot_values.specs.Log.{Member, with_member, with_inc}

pub member_inserts : (xs : List Member) (i : Inc) (k : ℕ) → k ≡ prefix_len (λ m. not (inc_lt i m.inc)) xs → with_member xs i ≡ insert xs k (record { inc = i; last = 0 })
member_inserts [] i k e = let z : k ≡ 0 = e in rw z refl
member_inserts (m ∷ ms) i k e = go (inc_lt i m.inc) refl (member_inserts ms i (prefix_len (λ m. not (inc_lt i m.inc)) ms) refl)
  where
    go : (u : Bool) → inc_lt i m.inc ≡ u → with_member ms i ≡ insert ms (prefix_len (λ m. not (inc_lt i m.inc)) ms) (record { inc = i; last = 0 }) → with_member (m ∷ ms) i ≡ insert (m ∷ ms) k (record { inc = i; last = 0 })
    go true f r = let z : k ≡ 0 = e ∙ (rw f refl) in rw (f, z) refl
    go false f r = let z : k ≡ suc (prefix_len (λ m. not (inc_lt i m.inc)) ms) = e ∙ (rw f (omega arith)) in rw (f, z) (ap (λ l. m ∷ l) r)

other : (i x : Inc) → inc_eq x i ≡ false → inc_eq i x ≡ false
other i x h = grind (arith, nat_tests)

pub inc_inserts : (xs : List Inc) (i : Inc) (k : ℕ) → k ≡ prefix_len (λ x. not (inc_lt i x)) xs → has_inc xs i ≡ false → with_inc xs i ≡ insert xs k i
inc_inserts [] i k e h = let z : k ≡ 0 = e in rw z refl
inc_inserts (x ∷ xs) i k e h = go (inc_lt i x) (inc_eq x i) refl refl h (inc_inserts xs i (prefix_len (λ x. not (inc_lt i x)) xs) refl)
  where
    go : (u v : Bool) → inc_lt i x ≡ u → inc_eq x i ≡ v → has_inc (x ∷ xs) i ≡ false → (has_inc xs i ≡ false → with_inc xs i ≡ insert xs (prefix_len (λ x. not (inc_lt i x)) xs) i) → with_inc (x ∷ xs) i ≡ insert (x ∷ xs) k i
    go true v f g n r = let z : k ≡ 0 = e ∙ (rw f refl) in rw (f, z) refl
    go false true f g n r = absurd (let z : true ≡ false = (rw g at n) in cc)
    go false false f g n r =
        let m : has_inc xs i ≡ false = (rw g at n) in
        let z : k ≡ suc (prefix_len (λ x. not (inc_lt i x)) xs) = e ∙ (rw f (omega arith)) in
        rw (f, other i x g, z) (ap (λ l. x ∷ l) (r m))
