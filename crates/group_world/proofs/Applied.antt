-- A step of a script, as a whole.
use Rattle.std.proofs.Common.{◌≡◌, ◌∙◌, false, Option, Some, None, List, [], refl, sym, ap, subst}
use Rattle.std.specs.Prelude.{option_map}
use Rattle.group_rules.specs.declared.said.Said.{Said}
use Rattle.group_rules.specs.declared.steps.Step.{Step}
use Rattle.group_rules.specs.Script.{AlreadyRunning, Declared, Full, MessageLost, NoMember, NoMessage, NoServer, Play, Refusal, apply, apply_to, does, refusal}
use Rattle.report_text.specs.declared.fault.WorldFault.{WorldFault}
use Rattle.world_wire.specs.declared.fault.WireFault.{WireFault}
use Rattle.world_wire.specs.declared.fault.WireFault.TheVariants.{Full as IsFull, Memory as IsMemory}
use Rattle.group_world.specs.Refusing.{fault_for}
use Rattle.group_world.specs.Standing.{Along, Closes, IsFault, IsSaid, IsWorld, cleared, fault_as, is_last, is_refusal, is_spent}
use Rattle.group_world.specs.declared.stage.Stage.{Stage}
use Rattle.group_world.specs.declared.world.World.{World}
use Rattle.group_world.proofs.Refused.{Told}

-- ---- a play that isn't closed

open_apply : (x : Step) (y : Play) → y.closed ≡ None → apply x y ≡ apply_to x (cleared y)
unfolding apply
open_apply x y h = go y.closed h
  where
    go : (c : Option Full) → c ≡ None → ◌≡◌ {A = Play} (elim c [ Some f ↦ y | None ↦ apply_to x (cleared y) ]) (apply_to x (cleared y))
    go (Some f) e = absurd (cc e)
    go None e = refl

refuses : (x : Step) (y : Play) (r : Refusal) → y.closed ≡ None → refusal x (cleared y) ≡ Some r → apply x y ≡ record (cleared y) { refused = Some r }
refuses x y r h e = open_apply x y h ∙ rw (e, apply_to) refl

pub done : (x : Step) (y : Play) → y.closed ≡ None → refusal x (cleared y) ≡ None → apply x y ≡ does x (cleared y)
done x y h e = open_apply x y h ∙ rw (e, apply_to) refl

-- ---- a step that is refused

reason : (x : Step) (y : Play) (f : WorldFault) → Told x y (Some f) → (r : Refusal) × (refusal x y ≡ Some r) × (f ≡ fault_for r)
reason x y f h = go (refusal x y) refl h
  where
    go : (o : Option Refusal) → refusal x y ≡ o → Some f ≡ option_map fault_for o → (r : Refusal) × (refusal x y ≡ Some r) × (f ≡ fault_for r)
    go None e k = absurd (cc k)
    go (Some r) e k = (r, e, let q : Some f ≡ Some (fault_for r) = k in cc)

is_fault : (r : Refusal) (z : Play) → z.closed ≡ None → z.refused ≡ Some r → IsFault (fault_for r) z
is_fault Declared z c e = (c, e)
is_fault NoServer z c e = (c, e)
is_fault AlreadyRunning z c e = (c, e)
is_fault (NoMessage k) z c e = (c, e)
is_fault (MessageLost k) z c e = (c, e)
is_fault NoMember z c e = (c, e)

pub refused_fault : (x : Step) (y : Play) (s : World) (f : WorldFault) → IsWorld y s → Told x (cleared y) (Some f) → IsFault f (apply x y)
refused_fault x y s f w h =
    let p = reason x (cleared y) f h in
    subst (λ g. IsFault g (apply x y)) (sym p.2) (subst (IsFault (fault_for p.0)) (sym (refuses x y p.0 w.along.unclosed p.1)) (is_fault p.0 (record (cleared y) { refused = Some p.0 }) w.along.unclosed refl))

-- the world is as it was, but for the number of steps
pub refused_world : (x : Step) (y : Play) (s z : World) (f : WorldFault) → IsWorld y s → Told x (cleared y) (Some f) → z.stage ≡ s.stage → z.fault ≡ s.fault → IsWorld (apply x y) z
refused_world x y s z f w h stage fault =
    let p = reason x (cleared y) f h in
    subst (λ q. IsWorld q z) (sym (refuses x y p.0 w.along.unclosed p.1)) (record {
      unfailed = fault ∙ w.unfailed;
      unsaid = ap (λ t. t.said.items) stage ∙ w.unsaid;
      along = subst (Along (cleared y)) (sym stage) w.along;
    })

-- it stays open for the next
pub refused_closes : (o : Option Refusal) (f : WorldFault) → Some f ≡ option_map fault_for o → (is_last f ≡ false) × (is_spent f ≡ false)
refused_closes None f h = absurd (cc h)
refused_closes (Some r) f h = let q : f ≡ fault_for r = cc in subst (λ g. (is_last g ≡ false) × (is_spent g ≡ false)) (sym q) (each r)
  where
    each : (r : Refusal) → (is_last (fault_for r) ≡ false) × (is_spent (fault_for r) ≡ false)
    each Declared = (refl, refl)
    each NoServer = (refl, refl)
    each AlreadyRunning = (refl, refl)
    each (NoMessage k) = (refl, refl)
    each (MessageLost k) = (refl, refl)
    each NoMember = (refl, refl)

-- ---- a step that is done

untold : (x : Step) (y : Play) → Told x y None → refusal x y ≡ None
untold x y h = go (refusal x y) h
  where
    go : (o : Option Refusal) → None ≡ option_map fault_for o → o ≡ None
    go None k = refl
    go (Some r) k = absurd (cc k)

pub done_said : (x : Step) (y : Play) (s : World) (t : Stage) (said : List Said) → IsWorld y s → Told x (cleared y) None → Along (does x (cleared y)) t → said ≡ t.said.items → IsSaid said (apply x y)
done_said x y s t said w h a e =
    subst (IsSaid said) (sym (done x y w.along.unclosed (untold x (cleared y) h))) (a.unclosed, a.unrefused, e ∙ a.said)

pub done_world : (x : Step) (y : Play) (s z : World) (t : Stage) → IsWorld y s → Told x (cleared y) None → Along (does x (cleared y)) t → z.fault ≡ None → z.stage ≡ record t { said = z.stage.said } → z.stage.said.items ≡ [] → IsWorld (apply x y) z
done_world x y s z t w h a fault stage said =
    subst (λ q. IsWorld q z) (sym (done x y w.along.unclosed (untold x (cleared y) h))) (record {
      unfailed = fault;
      unsaid = said;
      along = subst (Along (cleared (does x (cleared y)))) (sym stage) (record {
        unclosed = a.unclosed;
        unrefused = refl;
        said = said;
        block = a.block;
        block_above = a.block_above;
        block_below = a.block_below;
        wire = a.wire;
        carries = a.carries;
        holds = record {
          servers = a.holds.servers;
          sites = a.holds.sites;
          rising = a.holds.rising;
          declared = a.holds.declared;
          setup = a.holds.setup;
          founded = a.holds.founded;
          run = a.holds.run;
        };
      });
    })

-- ---- a step that closes the world

closes_as : (f : WireFault) (z : Play) → Closes f z → IsFault (fault_as f) z
closes_as IsMemory z h = tt
closes_as (IsFull n b) z h = h

pub closed_fault : (x : Step) (y : Play) (s : World) (f : WireFault) → IsWorld y s → Told x (cleared y) None → Closes f (does x (cleared y)) → IsFault (fault_as f) (apply x y)
closed_fault x y s f w h c = subst (IsFault (fault_as f)) (sym (done x y w.along.unclosed (untold x (cleared y) h))) (closes_as f (does x (cleared y)) c)

pub as_no_refusal : (f : WireFault) → (is_refusal (fault_as f) ≡ false) × (is_spent (fault_as f) ≡ false)
as_no_refusal IsMemory = (refl, refl)
as_no_refusal (IsFull n b) = (refl, refl)
