-- What the calls ask is within the step's ranges.
use Rattle.std.proofs.Common.{nat_lt, ap, subst, sym, ◌∙◌}
use Rattle.std.specs.List.{list_all}
use Rattle.group_world.specs.Standing.{Along}
use Rattle.group_world.proofs.Fitting.{block_fits, founders_fit, offline_fits}
use Rattle.group_world.proofs.Unmoved.{sets_not}
use Rattle.group_world.proofs.stage.Stage.sets.Goals as goal

pub set_block-requires-clause-above : goal.set_block-requires-clause-above
set_block-requires-clause-above c = (block_fits c.args.step c.in-Block.size c.requires c.in-Block.is).0

pub set_block-requires-clause-below : goal.set_block-requires-clause-below
set_block-requires-clause-below c = (block_fits c.args.step c.in-Block.size c.requires c.in-Block.is).1

pub found-requires : goal.found-requires
found-requires c = ap (λ l. list_all (λ n. nat_lt n 100) l) c.as_slice.ensures ∙ founders_fit c.args.step _ _ _ _ _ c.in-Found.servers c.requires c.in-Found.is

pub write_offline-requires : goal.write_offline-requires
write_offline-requires c = offline_fits c.args.step _ c.in-Offline.item _ c.requires c.in-Offline.is

pub returns : goal.returns
returns c = record {
  stands = λ y a. subst (λ p. Along p c.args.self.now) (sym (sets_not c.args.step y c.in_default.not-Server c.in_default.not-Block c.in_default.not-Found c.in_default.not-Start c.in_default.not-Stop c.in_default.not-Offline)) a;
  full = tt;
}
