-- A move that changes nothing.
use Rattle.std.proofs.Common.{◌≡◌, append-nil, false, sym, ap, subst, ◌∙◌, []}
use Rattle.group_rules.specs.Script.{Play, is_full, plays}
use Rattle.group_rules.specs.World.{Move, World, move, nothing_happens}
use Rattle.group_runs.specs.Servers.{IsMove}
use Rattle.play_runs.specs.Runs.{IsRun}
use Rattle.group_world.specs.Sites.{AreSites}
use Rattle.group_world.specs.Standing.{Along, setup_in}
use Rattle.group_world.specs.declared.stage.Stage.{Stage}
use Rattle.group_world.proofs.Moving.{goes}

abbrev pub IdleRuns : Type 0
IdleRuns = (m : Move) (w : World) → IsMove m → IsRun w → move m w ≡ nothing_happens w → IsRun (nothing_happens w)

-- the sites may be other ones that stand for the same servers
pub idle : IdleRuns → (m : Move) (y : Play) (x z : Stage) → Along y x → IsMove m → move m y.world ≡ nothing_happens y.world
    → AreSites y.world.servers z.sites → z.servers ≡ x.servers → z.founding ≡ x.founding → z.block ≡ x.block → z.wire ≡ x.wire → z.said ≡ x.said → Along (plays m y) z
idle runs m y x z a ok e sites servers founding block wire said =
    goes y x a m (nothing_happens y.world) [] (record { is_it = e; sent = sym (append-nil y.world.sent); spellable = λ n h. absurd h }) z
    (ap (λ l. l.items) said ∙ sym (append-nil x.said.items)) block (wire ∙ sym (append-nil x.wire))
    (subst (λ l. is_full l ≡ false) (sym (wire ∙ a.wire)) a.carries.few)
    (record {
      servers = servers ∙ a.holds.servers;
      sites = sites;
      rising = a.holds.rising;
      declared = a.holds.declared;
      setup = a.holds.setup ∙ ap setup_in (sym founding);
      founded = a.holds.founded;
      run = runs m y.world ok a.holds.run e;
    })
