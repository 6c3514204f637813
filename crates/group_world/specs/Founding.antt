-- In the midst of a founding.
use Rattle.std.specs.Prelude.{◌≡◌, ◌++◌, List}
use Rattle.group_rules.specs.declared.said.Said.{Said}
use Rattle.group_rules.specs.Script.{said_of}
use Rattle.group_rules.specs.World.{World}
use Rattle.world_servers.specs.Naming.{AreOf}
use Rattle.group_world.specs.Sites.{AreSites, Rises}
use Rattle.group_world.specs.Standing.{AreDeclared}
use Rattle.group_world.specs.declared.stage.Stage.{Stage}

-- the servers are those of the world, and what is left of the founding so far is said behind what was said before
pub record AreFounded (before : List Said) (w : World) (x : Stage) : Type 0 where
  pub servers : AreOf w x.servers
  pub sites : AreSites w.servers x.sites
  pub rising : Rises w.servers
  pub declared : AreDeclared w.servers
  pub said : x.said.items ≡ before ++ said_of w.left

-- all is as it was but the servers, and what was said
pub record IsWithin (x z : Stage) : Type 0 where
  pub wire : z.wire ≡ x.wire
  pub block : z.block ≡ x.block
