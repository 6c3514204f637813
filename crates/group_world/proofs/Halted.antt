-- A server that stops.
use Rattle.std.proofs.Common.{◌≡◌, inl, inr, ℕ, Some, None, Option, List, [], ◌++◌, append-nil, refl, sym, ap, subst, ◌∙◌}
use Rattle.std.specs.Prelude.{map}
use Rattle.gtid_sets.specs.Canonical.{IsUuid}
use Rattle.group_rules.specs.Script.{Play, plays, said_of}
use Rattle.group_rules.specs.World.{Server, Stops, World, move, server_at, stop}
use Rattle.world_servers.specs.Naming.{declared_of}
use Rattle.play_runs.specs.Runs.{IsRun}
use Rattle.group_world.specs.Changing.{stopped, with_change}
use Rattle.group_world.specs.Sites.{AreSites, Rises, at_number}
use Rattle.group_world.specs.Standing.{Along, AreDeclared, setup_in}
use Rattle.group_world.specs.declared.stage.Stage.{Stage}
use Rattle.group_world.proofs.Finding.{at_in}
use Rattle.group_world.proofs.Servers.{in_with, map_with, rises_with}
use Rattle.group_world.proofs.Still.{still}

abbrev pub StoppedRuns : Type 0
StoppedRuns = (w : World) (n : ℕ) → IsRun w → IsRun (move (Stops n) w)

-- ---- a change that leaves what was declared

-- the servers after it are those of the world as before
pub declared_as : (f : Server → Server) → ((s : Server) → declared_of (f s) ≡ declared_of s) → (n : ℕ) (ss : List Server) → Rises ss → (o : Option Server) → at_number n ss ≡ o
    → map declared_of (with_change f o ss) ≡ map declared_of ss
declared_as f h n ss r None e = refl
declared_as f h n ss r (Some s) e = map_with declared_of n ss s (f s) r e (ap (λ d. d.number) (h s) ∙ (at_in n ss s e).1) (h s)

pub rising_as : (f : Server → Server) (o : Option Server) (ss : List Server) → Rises ss → Rises (with_change f o ss)
rising_as f None ss r = r
rising_as f (Some s) ss r = rises_with (f s) ss r

pub known_as : (f : Server → Server) → ((s : Server) → declared_of (f s) ≡ declared_of s) → (n : ℕ) (ss : List Server) (o : Option Server) → at_number n ss ≡ o → AreDeclared ss → AreDeclared (with_change f o ss)
known_as f h n ss None e k = k
known_as f h n ss (Some s) e k = λ v i. elim (in_with v (f s) ss i) [
  | inl q ↦ subst (λ u. IsUuid u.uuid) q (subst IsUuid (sym (ap (λ d. d.uuid) (h s))) (k s (at_in n ss s e).0))
  | inr q ↦ k v q
]

-- ---- the stop

stops : (n : ℕ) (w : World) → move (Stops n) w ≡ stop (server_at w n) w
unfolding move
stops n w = refl

servers_of : (o : Option Server) (w : World) → (stop o w).servers ≡ with_change stopped o w.servers
servers_of None w = refl
servers_of (Some s) w = refl

sent_of : (o : Option Server) (w : World) → (stop o w).sent ≡ w.sent
sent_of None w = refl
sent_of (Some s) w = refl

setup_of : (o : Option Server) (w : World) → (stop o w).setup ≡ w.setup
setup_of None w = refl
setup_of (Some s) w = refl

silent : (o : Option Server) (w : World) → said_of (stop o w).left ≡ []
silent None w = refl
silent (Some s) w = refl

pub halted : StoppedRuns → (n : ℕ) (y : Play) (x z : Stage) → Along y x → AreSites (with_change stopped (at_number n y.world.servers) y.world.servers) z.sites
    → z.servers ≡ x.servers → z.founding ≡ x.founding → z.block ≡ x.block → z.wire ≡ x.wire → z.said ≡ x.said → Along (plays (Stops n) y) z
halted law n y x z a sites servers founding block wire said =
    let w = y.world in
    let o = server_at w n in
    let is = servers_of o w in
    still (Stops n) y x z (stop o w) a (stops n w) (sent_of o w)
    (record {
      servers = servers ∙ (a.holds.servers ∙ (sym (declared_as stopped (λ s. refl) n w.servers a.holds.rising o refl) ∙ ap (map declared_of) (sym is)));
      sites = subst (λ l. AreSites l z.sites) (sym is) sites;
      rising = subst Rises (sym is) (rising_as stopped o w.servers a.holds.rising);
      declared = subst AreDeclared (sym is) (known_as stopped (λ s. refl) n w.servers o refl a.holds.declared);
      setup = setup_of o w ∙ (a.holds.setup ∙ ap setup_in (sym founding));
      founded = λ t e. a.holds.founded t (sym (setup_of o w) ∙ e);
      run = subst IsRun (stops n w) (law w n a.holds.run);
    })
    (ap (λ l. l.items) said ∙ (sym (append-nil x.said.items) ∙ ap (λ l. x.said.items ++ l) (sym (silent o w)))) block wire
