-- A look is done with the looks.
use Rattle.std.proofs.Common.{◌≡◌, ◌⊎◌, inl, inr, ℕ, refl, subst, sym}
use Rattle.std.specs.Prelude.{Result, IfErr, OnOk}
use Rattle.group_rules.specs.declared.steps.Step.{Step}
use Rattle.group_rules.specs.declared.steps.Step.TheVariants.{ShowMembers, ShowSlots, ShowConfig, ShowGtids, ShowRows, ShowQueue, ShowCertifier, ShowKept, ShowWire}
use Rattle.group_rules.specs.Script.{Play, does}
use Rattle.world_wire.specs.declared.fault.WireFault.{WireFault}
use Rattle.group_world.specs.Applying.{looks}
use Rattle.group_world.specs.Standing.{Along, Closes, Ends, Goes}
use Rattle.group_world.specs.declared.stage.Stage.{Stage}
use Rattle.group_world.proofs.Results.{if_err, on_ok}

abbrev pub IsLook : Step → Type 0
IsLook x = ((n : ℕ) × (x ≡ ShowMembers n)) ⊎ (((n : ℕ) × (x ≡ ShowSlots n)) ⊎ (((n : ℕ) × (t : ℕ) × (x ≡ ShowConfig n t)) ⊎ (((n : ℕ) × (x ≡ ShowGtids n)) ⊎ (((n : ℕ) × (x ≡ ShowRows n)) ⊎ (((n : ℕ) × (x ≡ ShowQueue n)) ⊎ (((n : ℕ) × (x ≡ ShowCertifier n)) ⊎ (((n : ℕ) × (x ≡ ShowKept n)) ⊎ ((x ≡ ShowWire)))))))))

same : (x v : Step) (y : Play) → x ≡ v → looks v y ≡ does v y → looks x y ≡ does x y
same x v y e h = subst (λ s. looks s y ≡ does s y) (sym e) h

looks_are : (x : Step) (y : Play) → IsLook x → looks x y ≡ does x y
looks_are x y (inl h) = same x (ShowMembers h.0) y h.1 refl
looks_are x y (inr (inl h)) = same x (ShowSlots h.0) y h.1 refl
looks_are x y (inr (inr (inl h))) = same x (ShowConfig h.0 h.1) y h.2 refl
looks_are x y (inr (inr (inr (inl h)))) = same x (ShowGtids h.0) y h.1 refl
looks_are x y (inr (inr (inr (inr (inl h))))) = same x (ShowRows h.0) y h.1 refl
looks_are x y (inr (inr (inr (inr (inr (inl h)))))) = same x (ShowQueue h.0) y h.1 refl
looks_are x y (inr (inr (inr (inr (inr (inr (inl h))))))) = same x (ShowCertifier h.0) y h.1 refl
looks_are x y (inr (inr (inr (inr (inr (inr (inr (inl h)))))))) = same x (ShowKept h.0) y h.1 refl
looks_are x y (inr (inr (inr (inr (inr (inr (inr (inr h)))))))) = same x ShowWire y h refl

pub looks_on : (x : Step) (s z : Stage) (r : Result Unit WireFault) → IsLook x → OnOk r (Goes (looks x) s z) → OnOk r (Goes (does x) s z)
looks_on x s z r l h = on_ok r h (λ g y a. subst (λ p. Along p z) (looks_are x y l) (g y a))

pub looks_end : (x : Step) (s : Stage) (r : Result Unit WireFault) → IsLook x → IfErr r (Ends (looks x) s) → IfErr r (Ends (does x) s)
looks_end x s r l h = if_err r h (λ e g y a. subst (Closes e) (looks_are x y l) (g y a))
