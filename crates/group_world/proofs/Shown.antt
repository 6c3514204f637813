-- A member that is looked at.
use Rattle.std.proofs.Common.{◌≡◌, ℕ, Some, None, Option, List, [], ◌∷◌, ◌++◌, refl, sym, ap, subst, ◌∙◌}
use Rattle.std.specs.Prelude.{Result, Ok, Err, OnOk}
use Rattle.gr_ids.specs.declared.memory.Memory.{Memory}
use Rattle.group_rules.specs.declared.said.Look.{Look}
use Rattle.group_rules.specs.declared.said.Said.{Said}
use Rattle.group_rules.specs.declared.said.Said.TheVariants.{Looked}
use Rattle.group_rules.specs.Member.{Member}
use Rattle.group_rules.specs.Script.{Play, look, look_at, say}
use Rattle.group_rules.specs.World.{Server, running_of}
use Rattle.member_core.specs.Standing.{IsMember}
use Rattle.member_core.specs.declared.member.Member.{Member as Running}
use Rattle.group_world.specs.Sites.{AreSites, HasMember, at_number}
use Rattle.group_world.specs.Standing.{Along, Goes}
use Rattle.group_world.specs.declared.stage.Stage.{Stage}

-- one thing more is said
pub says : (x : Said) (y : Play) (s z : Stage) → Along y s → z ≡ record s { said = z.said } → z.said.items ≡ s.said.items ++ x ∷ [] → Along (say x y) z
says x y s z a e h = subst (λ q. Along (say x y) q) (sym e) (record {
  unclosed = a.unclosed;
  unrefused = a.unrefused;
  said = h ∙ ap (λ l. l ++ x ∷ []) a.said;
  block = a.block;
  block_above = a.block_above;
  block_below = a.block_below;
  wire = a.wire;
  carries = a.carries;
  holds = record {
    servers = a.holds.servers;
    sites = a.holds.sites;
    rising = a.holds.rising;
    declared = a.holds.declared;
    setup = a.holds.setup;
    founded = a.holds.founded;
    run = a.holds.run;
  };
})

-- ---- who is looked at

pub nobody : (o : Option Member) → HasMember o None → o ≡ None
nobody None h = refl
nobody (Some a) h = absurd h

pub somebody : (o : Option Member) (x : Running) → HasMember o (Some x) → (a : Member) × (o ≡ Some a) × IsMember a x
somebody None x h = absurd h
somebody (Some a) x h = (a, refl, h)

abbrev pub AllSeen : ℕ → Stage → Option Running → Type 0
AllSeen n s o = (ss : List Server) → AreSites ss s.sites → HasMember (running_of (at_number n ss)) o

-- nothing is said where none runs
pub unseen : (f : Member → Look) (n : ℕ) (s : Stage) → AllSeen n s None → Goes (look_at f n) s s
unseen f n s h y a = let none = nobody (running_of (at_number n y.world.servers)) (h y.world.servers a.holds.sites) in subst (λ o. Along (look f o y) s) (sym none) a

-- or what is seen
pub seen : (f : Member → Look) (n : ℕ) (s z : Stage) (x : Running) (l : Look) (r : Result Unit Memory) → AllSeen n s (Some x) → ((a : Member) → IsMember a x → l ≡ f a) → OnOk r (Goes (say (Looked l)) s z) → OnOk r (Goes (look_at f n) s z)
seen f n s z x l (Err e) h k g = tt
seen f n s z x l (Ok u) h k g = λ y a.
    let p = somebody (running_of (at_number n y.world.servers)) x (h y.world.servers a.holds.sites) in
    subst (λ o. Along (look f o y) z) (sym p.1) (subst (λ q. Along (say (Looked q) y) z) (k p.0 p.2) (g y a))
