-- The bytes of a Welcome in two parts: its numbers, and its lists.
use Rattle.std.specs.Prelude.{ℕ, List, ◌++◌}
use Rattle.byte_forms.specs.Numbers.{number}
use Rattle.byte_forms.specs.Lists.{several}
use Rattle.name_forms.specs.Incs.{inc_bytes}
use Rattle.name_forms.specs.Ballots.{ballot_bytes}
use Rattle.paxos_forms.specs.Welcomes.{Welcome, mode_number, primary_bytes, member_bytes, config_bytes}

abbrev pub numbers_bytes : Welcome → List ℕ
numbers_bytes w =
    number 8 w.slot
    ++ (number 8 w.place
    ++ (number 8 w.number
    ++ (ballot_bytes w.promise
    ++ (number 1 (mode_number w.mode)
    ++ (primary_bytes w.primary
    ++ number 8 w.elected)))))

abbrev pub lists_bytes : Welcome → List ℕ
lists_bytes w = several member_bytes w.members ++ (several inc_bytes w.ever ++ several config_bytes w.configs)
