-- Loops of turns: the turns that are left lead to the same play.
use Rattle.std.proofs.Common.{◌≡◌, ◌≤◌, ◌<◌, ◌-◌, ◌+◌, ℕ, suc, zero, sym, ap, subst, ◌∙◌, arith}
use Rattle.group_rules.specs.Script.{Play}
use Rattle.world_wire.specs.declared.fault.WireFault.{WireFault}
use Rattle.group_world.specs.Standing.{Along, Closes, Ends, Goes}
use Rattle.group_world.specs.declared.stage.Stage.{Stage}
use Rattle.group_world.proofs.Closing.{Stays, closes_on}

-- so many turns, begun where the world z stands now, lead to the whole begun at x
abbrev pub IsLeft : (ℕ → Play → Play) → (Play → Play) → ℕ → Stage → Stage → Type 0
IsLeft times whole n x z = (y : Play) → Along y x → (p : Play) × Along p z × (times n p ≡ whole y)

-- one turn does this
abbrev pub Turns : (ℕ → Play → Play) → (Play → Play) → Stage → Type 0
Turns times one z = (p : Play) → Along p z → (f : ℕ) → times (suc f) p ≡ times f (one p)

-- no turn does anything
abbrev pub Stops : (ℕ → Play → Play) → Stage → Type 0
Stops times z = (p : Play) → Along p z → (f : ℕ) → times f p ≡ p

less_one : (n i : ℕ) → i < n → suc (n - (i + 1)) ≡ n - i
less_one n i h = omega (arith, h)

module _ (times : ℕ → Play → Play) (whole : Play → Play) (n i : ℕ) (x z : Stage) where
  pub turns_on : (one : Play → Play) (w : Stage) → i < n → IsLeft times whole (n - i) x z → Turns times one z → Goes one z w → IsLeft times whole (n - (i + 1)) x w
  turns_on one w h l t g y a =
      let r = l y a in
      (one r.0, g r.0 r.1, sym (t r.0 r.1 (n - (i + 1))) ∙ (ap (λ k. times k r.0) (less_one n i h) ∙ r.2))

  pub turns_stop : IsLeft times whole (n - i) x z → Stops times z → Goes whole x z
  turns_stop l s y a = let r = l y a in subst (λ p. Along p z) (sym (s r.0 r.1 (n - i)) ∙ r.2) r.1

  pub turns_over : n ≤ i → IsLeft times whole (n - i) x z → ((p : Play) → times zero p ≡ p) → Goes whole x z
  turns_over h l e y a =
      let r = l y a in
      let none : n - i ≡ zero = omega (arith, h) in
      subst (λ p. Along p z) (sym (e r.0) ∙ (ap (λ k. times k r.0) (sym none) ∙ r.2)) r.1

  -- the turn isn't done
  pub turns_fail : (one : Play → Play) (c : WireFault) → i < n → IsLeft times whole (n - i) x z → Turns times one z → ((f : ℕ) → Stays (times f)) → Ends one z c → Ends whole x c
  turns_fail one c h l t s k y a =
      let r = l y a in
      subst (Closes c) (sym (t r.0 r.1 (n - (i + 1))) ∙ (ap (λ j. times j r.0) (less_one n i h) ∙ r.2)) (closes_on (times (n - (i + 1))) (s (n - (i + 1))) c (one r.0) (k r.0 r.1))
