-- The sites after a step of a member.
use Rattle.std.proofs.Common.{◌≡◌, ℕ, ◌<◌, Option, Some, None, List, get_or, length, slice_get, refl, sym, ap, subst, ◌∙◌}
use Rattle.std.specs.Prelude.{slice_set, Result, Ok, Err, IfOk}
use Rattle.std.proofs.lemmas.Option.{slice_get-get_or}
use Rattle.gr_ids.specs.declared.memory.Memory.{Memory}
use Rattle.group_rules.specs.Events.{Event}
use Rattle.group_rules.specs.Life.{stored}
use Rattle.group_rules.specs.Member.{Member}
use Rattle.group_rules.specs.Steps.{step}
use Rattle.group_rules.specs.World.{Server, running_of}
use Rattle.member_core.specs.Standing.{IsMember}
use Rattle.member_core.specs.declared.member.Member.{Member as Runner}
use Rattle.member_moment.specs.Doing.{IsKept}
use Rattle.group_world.specs.Sites.{AreSites, HasStepped, HaveStepped, IsSite, IsStay, IsTurn, Rises, before}
use Rattle.group_world.specs.declared.site.Site.{Site}
use Rattle.group_world.specs.declared.site.Stay.TheVariants.{Running}
use Rattle.group_world.specs.declared.site.Turn.{Turn}
use Rattle.group_world.proofs.Finding.{at_in, found, keep, put}

abbrev SiteSteps : Event → Site → Site → Option Turn → Type 0
SiteSteps e z y o = (s : Server) → IsSite s z → HasStepped e s o y

some_is : {A : Type 0} {x y : A} → Some x ≡ Some y → x ≡ y
some_is {x = x} {y = y} e = cc

-- the site that stands at the index
pub there : (n at : ℕ) (zs : List Site) (z : Site) → at ≡ before n zs → at < length zs → z ≡ get_or zs at z → slice_get zs (before n zs) ≡ Some z
there n at zs z e h g = subst (λ k. slice_get zs k ≡ Some z) e (slice_get-get_or zs at z h ∙ ap Some (sym g))

one_of : (n : ℕ) (e : Event) (ss : List Server) (zs : List Site) (z y : Site) (o : Option Turn)
    → slice_get zs (before n zs) ≡ Some z → SiteSteps e z y o → Rises ss → AreSites ss zs → HaveStepped n e ss o (slice_set zs (before n zs) y)
one_of n e ss zs z y None g h r a =
    let f = found n ss zs z a g in
    let k = h f.0 f.2 in
    (ap running_of f.1 ∙ k.0, keep n ss zs f.0 z y a g f.1 k.1)
one_of n e ss zs z y (Some t) g h r a =
    let f = found n ss zs z a g in
    let k = h f.0 f.2 in
    record {
      server = f.0;
      member = k.0;
      at_it = f.1;
      running = k.1;
      after = λ p. let q = k.2 p in (q.0, put n ss zs f.0 z _ y r a g f.1 (at_in n ss f.0 f.1).1 q.1);
    }

abbrev AllStep : ℕ → Event → List Site → List Site → Option Turn → Type 0
AllStep n e zs ys o = (ss : List Server) → Rises ss → AreSites ss zs → HaveStepped n e ss o ys

pub stepped : (n at : ℕ) (e : Event) (zs : List Site) (z y : Site) (r : Result (Option Turn) Memory)
    → at ≡ before n zs → at < length zs → z ≡ get_or zs at z → IfOk r (SiteSteps e z y) → IfOk r (AllStep n e zs (slice_set zs at y))
stepped n at e zs z y (Ok o) q h g k = λ ss r a. subst (λ i. HaveStepped n e ss o (slice_set zs i y)) (sym q) (one_of n e ss zs z y o (there n at zs z q h g) k r a)
stepped n at e zs z y (Err f) q h g k = tt

-- ---- one site

-- a server whose member has taken the event; what it had before stays
pub site_steps : (e : Event) (s : Server) (z : Site) (m n : Runner) (t : Turn) → ((a : Member) → stored (step e a).life ≡ stored a.life) → z.stay ≡ Running m
    → ((a : Member) → IsKept (step e a) → IsMember a m → IsTurn e a t × IsMember (step e a) n) → IsSite s z → HasStepped e s (Some t) (record z { stay = Running n })
site_steps e s z m n t plain is does h = go (subst (IsStay s) is h.stay)
  where
    go : IsStay s (Running m) → HasStepped e s (Some t) (record z { stay = Running n })
    go k = (k.0, k.1, λ p. let q = does k.0 p k.2 in (q.0, record { number = h.number; starts = h.starts; stay = (step e k.0, refl, q.1, plain k.0 ∙ k.3) }))
