-- The configurations that are known are those of the log's state without the forgotten ones.
use Rattle.std.proofs.Common.{◌≡◌, ℕ, zero, suc, ◌+◌, ◌-◌, ◌<◌, ◌≤◌, Bool, true, false, List, [], ◌∷◌, drop, refl, ap, ◌∙◌, arith}
use Rattle.std.specs.Prelude.{slice_get, nat_lt, nat_le}
use Rattle.std.proofs.lemmas.Bool.{ltb-true, ltb-false, lt-ltb, le-ltb}
use Rattle.std.proofs.lemmas.Bool.Decides.{nat_tests}
use Rattle.slot_values.specs.Log.{config_of}
use Rattle.slot_values.specs.Turns.{Taken, known_config}
use Rattle.paxos_leader.specs.Parts.{standing}

get_dropped : {X : Type 0} (d : ℕ) (xs : List X) (i : ℕ) → slice_get (drop d xs) i ≡ slice_get xs (d + i)
get_dropped zero xs i = ap (slice_get xs) (let e : i ≡ 0 + i = omega arith in e)
get_dropped (suc d) [] i = refl
get_dropped (suc d) (x ∷ xs) i = get_dropped d xs i ∙ ap (slice_get (x ∷ xs)) (let e : suc (d + i) ≡ suc d + i = omega arith in e)

pub standing_config : (w : Taken) (t : ℕ) → config_of (standing w) t ≡ known_config w t
standing_config w t = go (nat_le w.low t) (nat_lt w.turns.base t) refl refl
  where
    go : (a b : Bool) → nat_le w.low t ≡ a → nat_lt w.turns.base t ≡ b → config_of (standing w) t ≡ known_config w t
    go false b p q =
        let below : t < w.low = grind (arith, nat_tests) in
        rw (p, le-ltb (w.turns.base + (w.low - (w.turns.base + 1))) t (omega arith)) refl
    go true false p q =
        let from : w.low ≤ t = grind (arith, nat_tests) in
        let base : t ≤ w.turns.base = ltb-false w.turns.base t q in
        rw (p, q, le-ltb (w.turns.base + (w.low - (w.turns.base + 1))) t (omega arith)) refl
    go true true p q =
        let from : w.low ≤ t = grind (arith, nat_tests) in
        let base : w.turns.base < t = ltb-true w.turns.base t q in
        let place : (w.low - (w.turns.base + 1)) + (t - ((w.turns.base + (w.low - (w.turns.base + 1))) + 1)) ≡ t - (w.turns.base + 1) = omega arith in
        rw (p, q, lt-ltb (w.turns.base + (w.low - (w.turns.base + 1))) t (omega arith)) (get_dropped (w.low - (w.turns.base + 1)) w.turns.configs (t - ((w.turns.base + (w.low - (w.turns.base + 1))) + 1)) ∙ ap (slice_get w.turns.configs) place)
