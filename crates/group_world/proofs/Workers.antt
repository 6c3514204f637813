-- Workers.
use Rattle.std.proofs.Common.{◌≡◌, ℕ, Bool, true, false, Option, Some, None, List, [], ◌∷◌, refl, sym, ap, subst, ◌∙◌}
use Rattle.std.specs.Prelude.{is_some}
use Rattle.apply_queue.specs.declared.work.WorkDone.{WorkDone}
use Rattle.group_rules.specs.declared.said.Said.TheVariants.{Idle}
use Rattle.group_rules.specs.declared.steps.Step.TheVariants.{Work}
use Rattle.group_rules.specs.Events.{Cert, Works}
use Rattle.group_rules.specs.Member.{Member}
use Rattle.group_rules.specs.Queue.{at_place, queue}
use Rattle.group_rules.specs.Script.{Play, body_at, does, event, least_worker, say, waiting_at, work_by, work_least}
use Rattle.group_rules.specs.World.{Server, member_at}
use Rattle.member_core.specs.Standing.{IsMember}
use Rattle.member_looks.specs.Working.{IsLeast, IsResult}
use Rattle.member_core.specs.declared.member.Member.{Member as Runner}
use Rattle.group_world.specs.Draining.{has_work}
use Rattle.group_world.specs.Sites.{HasMember}
use Rattle.group_world.specs.Standing.{Along, Goes}
use Rattle.group_world.specs.declared.stage.Stage.{Stage}
use Rattle.group_world.proofs.Parts.{SameAt}
use Rattle.gr_ids.specs.declared.names.Inc.{Inc}

-- ---- the member that runs

pub no_member : (o : Option Member) → HasMember o None → o ≡ None
no_member None h = refl
no_member (Some a) h = absurd h

pub some_member : (o : Option Member) (m : Runner) → HasMember o (Some m) → (a : Member) × (o ≡ Some a) × IsMember a m
some_member None m h = absurd h
some_member (Some a) m h = (a, refl, h)

-- ---- its places

some_none : {A : Type 0} (x : A) → Some x ≡ None → ⊥
some_none x e = absurd (cc e)

pub idle_work : (n : ℕ) (p : Option ℕ) (y : Play) → member_at y.world n ≡ None → does (Work n p) y ≡ y
idle_work n p y e = go (member_at y.world n) e
  where
    go : (o : Option Member) → o ≡ None → work_by n p o y ≡ y
    go None q = refl
    go (Some a) q = absurd (some_none a q)

-- a result of this place
pub place_work : (n p : ℕ) (y : Play) (a : Member) (b : Option (List ℕ)) → member_at y.world n ≡ Some a → body_at (at_place (queue a.life a.me.inc) p) ≡ b → does (Work n (Some p)) y ≡ event n (Works p b) y
place_work n p y a b e k = ap (λ o. work_by n (Some p) o y) e ∙ ap (λ x. event n (Works p x) y) k

-- the least place
pub least_work : (n : ℕ) (y : Play) (a : Member) (w : WorkDone) → member_at y.world n ≡ Some a → IsLeast a (waiting_at a) (Some w) → does (Work n None) y ≡ event n (Works w.place (Some w.body)) y
least_work n y a w e h = ap (λ o. work_by n None o y) e ∙ go (waiting_at a) h
  where
    go : (cs : List Cert) → IsLeast a cs (Some w) → work_least n a cs y ≡ event n (Works w.place (Some w.body)) y
    go [] q = absurd (some_none w q)
    go (c ∷ cs) q = ap (λ b. event n (Works c.place b) y) q.1 ∙ ap (λ p. event n (Works p (Some w.body)) y) (sym q.0)

pub no_work : (n : ℕ) (y : Play) (a : Member) → member_at y.world n ≡ Some a → IsLeast a (waiting_at a) None → does (Work n None) y ≡ say (Idle a.me.inc) y
no_work n y a e h = ap (λ o. work_by n None o y) e ∙ go (waiting_at a) h
  where
    go : (cs : List Cert) → IsLeast a cs None → work_least n a cs y ≡ say (Idle a.me.inc) y
    go [] q = refl
    go (c ∷ cs) q = absurd q

-- ---- who has one

pub least_some : (a : Member) (w : Option WorkDone) → IsLeast a (waiting_at a) w → is_some w ≡ has_work (Some a)
least_some a w h = go (waiting_at a) w h
  where
    go : (cs : List Cert) (o : Option WorkDone) → IsLeast a cs o → ◌≡◌ {A = Bool} (is_some o) (elim cs [ [] ↦ false | c ∷ ds ↦ true ])
    go [] o q = ap is_some q
    go (c ∷ cs) None q = absurd q
    go (c ∷ cs) (Some x) q = refl

false_true : false ≡ true → ⊥
false_true e = absurd (cc e)

pub worker_here : (s : Server) (rest : List Server) → has_work s.running ≡ true → least_worker (s ∷ rest) ≡ Some s.number
worker_here s rest h = go s.running h
  where
    by : (cs : List Cert) → ◌≡◌ {A = Bool} (elim cs [ [] ↦ false | c ∷ ds ↦ true ]) true → ◌≡◌ {A = Option ℕ} (elim cs [ [] ↦ least_worker rest | c ∷ ds ↦ Some s.number ]) (Some s.number)
    by [] q = absurd (false_true q)
    by (c ∷ cs) q = refl

    go : (o : Option Member) → has_work o ≡ true → ◌≡◌ {A = Option ℕ} (elim o [ None ↦ least_worker rest | Some a ↦ elim (waiting_at a) [ [] ↦ least_worker rest | c ∷ cs ↦ Some s.number ] ]) (Some s.number)
    go None q = absurd (false_true q)
    go (Some a) q = by (waiting_at a) q

pub worker_later : (s : Server) (rest : List Server) → has_work s.running ≡ false → least_worker (s ∷ rest) ≡ least_worker rest
worker_later s rest h = go s.running h
  where
    by : (cs : List Cert) → ◌≡◌ {A = Bool} (elim cs [ [] ↦ false | c ∷ ds ↦ true ]) false → ◌≡◌ {A = Option ℕ} (elim cs [ [] ↦ least_worker rest | c ∷ ds ↦ Some s.number ]) (least_worker rest)
    by [] q = refl
    by (c ∷ cs) q = absurd (false_true (sym q))

    go : (o : Option Member) → has_work o ≡ false → ◌≡◌ {A = Option ℕ} (elim o [ None ↦ least_worker rest | Some a ↦ elim (waiting_at a) [ [] ↦ least_worker rest | c ∷ cs ↦ Some s.number ] ]) (least_worker rest)
    go None q = refl
    go (Some a) q = by (waiting_at a) q

-- ---- at a world

-- where none runs at the server, nothing is worked
pub idle_at : (n : ℕ) (p : Option ℕ) (x : Stage) (o : Option Runner) → ((y : Play) → Along y x → HasMember (member_at y.world n) o) → o ≡ None → Goes (does (Work n p)) x x
idle_at n p x o h e y a = subst (λ q. Along q x) (sym (idle_work n p y (no_member (member_at y.world n) (subst (HasMember (member_at y.world n)) e (h y a))))) a

module _ (n : ℕ) (x : Stage) (o : Option Runner) (m : Runner) (h : (y : Play) → Along y x → HasMember (member_at y.world n) o) (e : o ≡ Some m) where
  runner : (y : Play) → Along y x → (a : Member) × (member_at y.world n ≡ Some a) × IsMember a m
  runner y a = some_member (member_at y.world n) m (subst (HasMember (member_at y.world n)) e (h y a))

  -- the place isn't queued
  pub undone_as : (p : ℕ) → ((a : Member) → IsMember a m → IsResult a p None) → SameAt (does (Work n (Some p))) (event n (Works p None)) x
  undone_as p k y a = let r = runner y a in place_work n p y r.0 None r.1 (k r.0 r.2)

  pub done_as : (p : ℕ) (w : WorkDone) → ((a : Member) → IsMember a m → IsResult a p (Some w)) → SameAt (does (Work n (Some p))) (event n (Works w.place (Some w.body))) x
  done_as p w k y a =
      let r = runner y a in
      let q = k r.0 r.2 in
      place_work n p y r.0 (Some w.body) r.1 q.1 ∙ ap (λ i. event n (Works i (Some w.body)) y) (sym q.0)

  pub least_as : (w : WorkDone) → ((a : Member) → IsMember a m → IsLeast a (waiting_at a) (Some w)) → SameAt (does (Work n None)) (event n (Works w.place (Some w.body))) x
  least_as w k y a = let r = runner y a in least_work n y r.0 w r.1 (k r.0 r.2)

  pub idle_as : (i : Inc) → ((a : Member) → IsMember a m → i ≡ a.me.inc) → ((a : Member) → IsMember a m → IsLeast a (waiting_at a) None) → SameAt (does (Work n None)) (say (Idle i)) x
  idle_as i j k y a = let r = runner y a in no_work n y r.0 r.1 (k r.0 r.2) ∙ ap (λ v. say (Idle v) y) (sym (j r.0 r.2))
