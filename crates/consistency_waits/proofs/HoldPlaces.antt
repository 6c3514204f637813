-- Where a hold goes.
use Rattle.std.proofs.Common.{◌≡◌, ℕ, suc, Bool, true, false, not, List, [], ◌∷◌, refl, ap, ◌∙◌, arith}
use Rattle.std.specs.Prelude.{nat_lt}
use Rattle.std.specs.List.{prefix_len, insert}
use Rattle.consistency_waits.specs.Holding.{Held, with_hold}

-- how many of these sessions aren't behind this one
abbrev pub before : ℕ → List Held → ℕ
before s xs = prefix_len (λ (h : Held). not (nat_lt s h.session)) xs

pub hold_inserts : (xs : List Held) (h : Held) (k : ℕ) → k ≡ before h.session xs → with_hold xs h ≡ insert xs k h
hold_inserts [] h k e = let z : k ≡ 0 = e in rw z refl
hold_inserts (x ∷ xs) h k e = go (nat_lt h.session x.session) refl (hold_inserts xs h (before h.session xs) refl)
  where
    go : (u : Bool) → nat_lt h.session x.session ≡ u → with_hold xs h ≡ insert xs (before h.session xs) h → with_hold (x ∷ xs) h ≡ insert (x ∷ xs) k h
    go true f r = let z : k ≡ 0 = e ∙ (rw f refl) in rw (f, z) refl
    go false f r = let z : k ≡ suc (before h.session xs) = e ∙ (rw f (omega arith)) in rw (f, z) (ap (λ l. x ∷ l) r)
