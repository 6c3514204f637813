use Rattle.std.proofs.Common.{sym, ap, ◌∙◌}
use Rattle.group_rules.specs.Script.{next_letter}
use Rattle.gr_ids.specs.Names.{has_inc}
use Rattle.group_world.proofs.Seen.{runs_seen}
use Rattle.group_world.proofs.stage.Stage.next.Goals as goal

pub returns : goal.returns
returns c y a =
    let list = c.deref.ensures.value ∙ c.in_ok-running.ensures y.world.servers a.holds.sites in
    c.next.ensures y.world (λ i. runs_seen c.steps_of_plays_are_promised.ensures.members y.world a.holds.run a.holds.rising i ∙ ap (λ l. has_inc l i) (sym list))
    ∙ ap (next_letter y.world c.args.among.now 1) a.wire
