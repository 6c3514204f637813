-- The sites one after another.
use Rattle.std.proofs.Common.{◌≡◌, Option, Some, None, List, [], ◌∷◌, length, refl, sym, ap, subst, arith}
use Rattle.gr_ids.specs.declared.names.Inc.{Inc}
use Rattle.group_rules.specs.Member.{Member}
use Rattle.group_rules.specs.World.{Server}
use Rattle.report_text.specs.Reporting.{with_running, running}
use Rattle.group_world.specs.Running.{inc_of, incs, running_incs}
use Rattle.group_world.specs.Sites.{AreSites, IsSite}
use Rattle.group_world.specs.declared.site.Site.{Site}

some_none : {A : Type 0} (x : A) → Some x ≡ None → ⊥
some_none x e = absurd (cc e)

pub next_site : (ts : List Server) (z : Site) (zs left : List Site) → left ≡ z ∷ zs → AreSites ts left → (s : Server) × (rest : List Server) × (ts ≡ s ∷ rest) × IsSite s z × AreSites rest zs
next_site [] z zs left e h = absurd (let k : AreSites [] (z ∷ zs) = subst (AreSites []) e h in k)
next_site (s ∷ rest) z zs left e h = let k : AreSites (s ∷ rest) (z ∷ zs) = subst (AreSites (s ∷ rest)) e h in (s, rest, refl, k.0, k.1)

pub no_site : (ts : List Server) (left : List Site) → length left ≡ 0 → AreSites ts left → ts ≡ []
no_site [] left e h = refl
no_site (s ∷ ts) [] e h = absurd h
no_site (s ∷ ts) (z ∷ zs) e h = absurd (omega (arith, e))

pub next_some : (s : Server) (rest : List Server) (i : Inc) → inc_of s.running ≡ Some i → running_incs (s ∷ rest) ≡ i ∷ running_incs rest
next_some s rest i e = go s.running e
  where
    go : (o : Option Member) → inc_of o ≡ Some i → ◌≡◌ {A = List Inc} (incs (with_running o (running rest))) (i ∷ incs (running rest))
    go None q = absurd (some_none i (sym q))
    go (Some a) q = let same : a.me.inc ≡ i = cc in ap (λ j. j ∷ incs (running rest)) same

pub next_none : (s : Server) (rest : List Server) → inc_of s.running ≡ None → running_incs (s ∷ rest) ≡ running_incs rest
next_none s rest e = go s.running e
  where
    go : (o : Option Member) → inc_of o ≡ None → ◌≡◌ {A = List Inc} (incs (with_running o (running rest))) (incs (running rest))
    go None q = refl
    go (Some a) q = absurd (some_none a.me.inc q)
