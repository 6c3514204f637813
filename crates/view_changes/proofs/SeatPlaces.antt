-- Where a seat goes.
use Rattle.std.proofs.Common.{◌≡◌, ℕ, suc, Bool, true, false, not, List, [], ◌∷◌, refl, ap, ◌∙◌, arith}
use Rattle.std.specs.List.{prefix_len, insert}
use Rattle.gr_ids.specs.Names.{inc_lt}
use Rattle.group_rules.specs.View.{Seat, with_seat}

-- the members of these seats that aren't behind the one of this seat
abbrev pub before : Seat → List Seat → ℕ
before s xs = prefix_len (λ (x : Seat). not (inc_lt s.joiner.inc x.joiner.inc)) xs

pub seat_inserts : (xs : List Seat) (s : Seat) (k : ℕ) → k ≡ before s xs → with_seat xs s ≡ insert xs k s
seat_inserts [] s k e = let z : k ≡ 0 = e in rw z refl
seat_inserts (x ∷ xs) s k e = go (inc_lt s.joiner.inc x.joiner.inc) refl (seat_inserts xs s (before s xs) refl)
  where
    go : (u : Bool) → inc_lt s.joiner.inc x.joiner.inc ≡ u → with_seat xs s ≡ insert xs (before s xs) s → with_seat (x ∷ xs) s ≡ insert (x ∷ xs) k s
    go true f r = let z : k ≡ 0 = e ∙ (rw f refl) in rw (f, with_seat, z) refl
    go false f r = let z : k ≡ suc (before s xs) = e ∙ (rw f (omega arith)) in rw (f, with_seat, z) (ap (λ l. x ∷ l) r)
