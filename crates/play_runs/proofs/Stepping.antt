-- A step of a member in a play is promised, and keeps that the play is a run.
use Rattle.std.proofs.Common.{◌≡◌, ◌-◌, inl, inr, ℕ, Option, None, Some, List, ◌∷◌, ◌++◌, refl, sym, ap, subst, ◌∙◌, length, take}
use Rattle.gr_ids.specs.declared.names.Inc.{Inc}
use Rattle.node_rules.specs.Lists.{In}
use Rattle.group_rules.specs.Events.{Event, Life, Setup}
use Rattle.group_rules.specs.Legal.{IsPast}
use Rattle.group_rules.specs.Member.{Member}
use Rattle.group_rules.specs.Steps.{step}
use Rattle.group_rules.specs.World.{Move, Server, World, dids, life_in, move, server_at, stepped, world_after}
use Rattle.group_runs.specs.Servers.{IsMove}
use Rattle.group_runs.proofs.Moves.{Sound}
use Rattle.group_order.proofs.Nexts.{past_self}
use Rattle.group_legal.specs.Ranges.{HasSmallNumbers}
use Rattle.group_legal.specs.OwnRanges.{MadeInRange}
use Rattle.group_promises.specs.Promises.{EveryStepIsPromised}
use Rattle.group_promises.proofs.Steps.{small_more, made_more}
use Rattle.member_truth.specs.Growing.{Grows, IsPromised}
use Rattle.member_truth.specs.Ranged.{IsRanged}
use Rattle.member_truth.proofs.Grown.{steps}
use Rattle.plain_steps.proofs.Last.{take_more}
use Rattle.play_runs.specs.Runs.{IsRun, IsSafe, IsStepIn, RunsAt}
use Rattle.play_runs.proofs.Kept.{moved}

-- ---- who runs

some_none : {A : Type 0} (x : A) → Some x ≡ None → ⊥
some_none x e = absurd (cc e)

module _ (sound : (ms : List Move) → Sound (world_after ms)) where
  pub runs_at : (w : World) (n : ℕ) (s : Server) (a : Member) → IsRun w → server_at w n ≡ Some s → s.running ≡ Some a → RunsAt w s a
  runs_at w n s a r q h = go w.setup refl
    where
      it : Sound w
      it = subst Sound (sym r.is_it) (sound r.moves)

      go : (o : Option Setup) → w.setup ≡ o → RunsAt w s a
      go None e = absurd (some_none a (sym h ∙ ((it.bare e).idle n s q).0))
      go (Some t) e =
          let k = it.runs t e (r.setup t e) in
          let x = k.1.running n s a q h in
          record { setup = e ∙ ap Some (sym x.setup); server = x.server; start = x.start; life = x.life }

-- ---- the step

module _ (law : EveryStepIsPromised) (w : World) (m : Move) (s : Server) (a b : Member) (r : IsRun w) (allowed : IsMove m) (at : RunsAt w s a) (g : Grows a b) (is_it : move m w ≡ stepped s a b w) where
  abbrev more : Life
  more = g.life.0

  abbrev i : Inc
  i = a.me.inc

  left : take (length b.life - length a.life) b.life ≡ more
  left = ap (λ l. take (length l - length a.life) l) g.life.1 ∙ take_more more a.life

  past_is : (move m w).past ≡ dids i more ++ w.past
  past_is = ap (λ x. x.past) is_it ∙ ap (λ l. dids i l ++ w.past) left

  setup_is : (move m w).setup ≡ w.setup
  setup_is = ap (λ x. x.setup) is_it

  after : world_after (m ∷ r.moves) ≡ move m w
  after = ap (move m) (sym r.is_it)

  moves : (x : Move) → In x (m ∷ r.moves) → IsMove x
  moves x (inl e) = subst IsMove e allowed
  moves x (inr k) = r.allowed x k

  life_is : more ++ life_in w.past i ≡ b.life
  life_is = ap (λ l. more ++ l) at.life ∙ sym g.life.1

  then : IsPromised a.setup i (more ++ life_in w.past i)
  then = law (m ∷ r.moves) a.setup (ap (λ x. x.setup) after ∙ (setup_is ∙ at.setup)) (r.setup a.setup at.setup) moves w.past i more
      (subst (λ p. IsPast (dids i more ++ w.past) p) (sym (ap (λ x. x.past) after ∙ past_is)) (past_self (dids i more ++ w.past))) r.small r.made

  pub promised : IsPromised b.setup b.me.inc b.life
  promised = subst (λ t. IsPromised t b.me.inc b.life) (sym g.setup) (subst (λ j. IsPromised a.setup j.inc b.life) (sym g.me) (subst (λ l. IsPromised a.setup i l) life_is then))

  pub runs_on : IsRanged b.life → IsRun (move m w)
  runs_on h =
      let k : IsRanged (more ++ life_in w.past i) = subst IsRanged (sym life_is) h in
      moved m w allowed r (λ t e. r.setup t (sym setup_is ∙ e))
      (subst (λ p. HasSmallNumbers p × MadeInRange p) (sym past_is) (small_more w.past i more r.small k, made_more w.past i more r.made k))

pub step_safe : EveryStepIsPromised → ((ms : List Move) → Sound (world_after ms)) → (w : World) (m : Move) (e : Event) (a : Member) → IsRun w → IsStepIn w m e a → IsSafe w m e a
step_safe law sound w m e a r k =
    let at : RunsAt w k.server a = runs_at sound w k.number k.server a r k.at_it k.running in
    record { promised = promised law w m k.server a (step e a) r k.allowed at (steps e a) k.is_it; runs = runs_on law w m k.server a (step e a) r k.allowed at (steps e a) k.is_it }
