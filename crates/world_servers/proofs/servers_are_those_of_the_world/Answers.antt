use Rattle.world_servers.proofs.Tabled as tabled
use Rattle.world_servers.proofs.servers_are_those_of_the_world.Goals as goal

pub returns-clause-declared : goal.returns-clause-declared
returns-clause-declared c = tabled.declares

pub returns-clause-there : goal.returns-clause-there
returns-clause-there c = tabled.there

pub returns-clause-taken : goal.returns-clause-taken
returns-clause-taken c = tabled.taken

pub returns-clause-group : goal.returns-clause-group
returns-clause-group c = tabled.group_taken

pub returns-clause-founders : goal.returns-clause-founders
returns-clause-founders c = tabled.all_founders
