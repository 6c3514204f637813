-- A server that is declared.
use Rattle.std.proofs.Common.{◌≡◌, inl, inr, ℕ, Bool, true, false, None, List, append-nil, refl, sym, ap, subst, ◌∙◌}
use Rattle.std.specs.Prelude.{◌||◌}
use Rattle.gtid_sets.specs.Canonical.{IsUuid}
use Rattle.group_rules.specs.Script.{Play, plays}
use Rattle.group_rules.specs.World.{Declares, Server, World, declare, is_default_of_other, is_group, is_taken, move, nothing_happens, nothing_stored, with_server}
use Rattle.world_servers.specs.Naming.{AreOf, has_uuid, is_taken_in, is_there}
use Rattle.world_servers.specs.declared.servers.DeclaredServer.{DeclaredServer}
use Rattle.play_runs.specs.Runs.{IsRun}
use Rattle.group_world.specs.Sites.{AreSites}
use Rattle.group_world.specs.Standing.{Along, AreDeclared, setup_in}
use Rattle.group_world.specs.declared.stage.Stage.{Stage}
use Rattle.group_world.proofs.Servers.{in_with, rises_with}
use Rattle.group_world.proofs.Still.{still}

abbrev pub fresh : DeclaredServer → Server
fresh d = record { number = d.number; uuid = d.uuid; version = d.version; weight = d.weight; starts = 0; stored = nothing_stored; running = None }

abbrev pub DeclaredRuns : Type 0
DeclaredRuns = (w : World) (n : ℕ) (u v : List ℕ) (g : ℕ) → IsUuid u → IsRun w → IsRun (move (Declares n u v g) w)

abbrev pub declares : DeclaredServer → Play → Play
declares d y = plays (Declares d.number d.uuid d.version d.weight) y

-- ---- whether it is taken

pub taken_is : (y : Play) (x : Stage) (n : ℕ) (u : List ℕ) → Along y x
    → ((w : World) (xs : List DeclaredServer) (k : ℕ) (v : List ℕ) → AreOf w xs → (is_taken_in xs k v || is_group w.setup v) ≡ is_taken k v w)
    → (is_taken_in x.servers n u || is_group (setup_in x.founding) u) ≡ is_taken n u y.world
taken_is y x n u a law = ap (λ o. is_taken_in x.servers n u || is_group o u) (sym a.holds.setup) ∙ law y.world x.servers n u a.holds.servers

or_first : (b c : Bool) → (b || c) ≡ false → b ≡ false
or_first true c e = e
or_first false c e = refl

-- one that isn't taken isn't there
pub untaken_there : (xs : List DeclaredServer) (n : ℕ) (u : List ℕ) (o : Bool) → (is_taken_in xs n u || o) ≡ false → is_there xs n ≡ false
untaken_there xs n u o e = or_first (is_there xs n) (has_uuid xs u || is_default_of_other u n 32) (or_first (is_taken_in xs n u) o e)

pub taken_idles : (d : DeclaredServer) (w : World) → is_taken d.number d.uuid w ≡ true → move (Declares d.number d.uuid d.version d.weight) w ≡ nothing_happens w
unfolding move
taken_idles d w h = rw (h, move) refl

-- ---- it isn't

module _ (law : DeclaredRuns) (d : DeclaredServer) (y : Play) (x z : Stage) (a : Along y x) (uuid : IsUuid d.uuid) (free : is_taken d.number d.uuid y.world ≡ false) where
  abbrev w : World
  w = y.world

  abbrev next : World
  next = nothing_happens (declare d.number d.uuid d.version d.weight w)

  is_it : move (Declares d.number d.uuid d.version d.weight) w ≡ next
  unfolding move
  is_it = rw (free, move) refl

  known : AreDeclared next.servers
  known v h = elim (in_with v (fresh d) w.servers h) [ inl q ↦ subst (λ u. IsUuid u.uuid) q uuid | inr q ↦ a.holds.declared v q ]

  pub declared : AreOf (declare d.number d.uuid d.version d.weight w) z.servers → AreSites (with_server w.servers (fresh d)) z.sites
      → z.founding ≡ x.founding → z.block ≡ x.block → z.wire ≡ x.wire → z.said ≡ x.said → Along (declares d y) z
  declared servers sites founding block wire said = still (Declares d.number d.uuid d.version d.weight) y x z next a is_it refl
      (record {
        servers = servers;
        sites = sites;
        rising = rises_with (fresh d) w.servers a.holds.rising;
        declared = known;
        setup = a.holds.setup ∙ ap setup_in (sym founding);
        founded = a.holds.founded;
        run = subst IsRun is_it (law w d.number d.uuid d.version d.weight uuid a.holds.run);
      })
      (ap (λ l. l.items) said ∙ sym (append-nil x.said.items)) block wire
