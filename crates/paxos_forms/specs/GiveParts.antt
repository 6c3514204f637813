-- The bytes of a Give in two parts: the certifier, and what the joiner lacks.
use Rattle.std.specs.Prelude.{ℕ, List, ◌++◌}
use Rattle.byte_forms.specs.Numbers.{number}
use Rattle.byte_forms.specs.Lists.{several}
use Rattle.gtid_sets.specs.Spelling.{set_bytes}
use Rattle.paxos_forms.specs.Gives.{Give, last_bytes, kept_bytes, told_bytes, given_bytes, parts_bytes}

abbrev pub state_bytes : Give → List ℕ
state_bytes g = number 8 g.place ++ (number 8 g.blocks ++ (several last_bytes g.last ++ (several kept_bytes g.items ++ several told_bytes g.told)))

abbrev pub lacks_bytes : Give → List ℕ
lacks_bytes g = set_bytes g.certified ++ (several given_bytes g.txns ++ several parts_bytes g.parts)
