-- The log of a node that hasn't forgotten more than the state of the log itself.
use Rattle.std.proofs.Common.{◌≡◌, ℕ, ◌+◌, ◌-◌, ◌≤◌, refl, sym, ap, ◌∙◌, arith}
use Rattle.slot_values.specs.Log.{Turns, config_of}
use Rattle.slot_values.specs.Turns.{Taken, known_config}
use Rattle.paxos_leader.specs.Parts.{standing}
use Rattle.paxos_leader.proofs.Standing.{standing_config}

pub standing_is : (w : Taken) → w.low ≤ w.turns.base + 1 → standing w ≡ w.turns
standing_is w h =
    let none : w.low - (w.turns.base + 1) ≡ 0 = omega arith in
    let base : w.turns.base + 0 ≡ w.turns.base = omega arith in
    rw (none, base) refl

pub known_is : (w : Taken) (t : ℕ) → w.low ≤ w.turns.base + 1 → known_config w t ≡ config_of w.turns t
known_is w t h = sym (standing_config w t) ∙ ap (λ (x : Turns). config_of x t) (standing_is w h)
