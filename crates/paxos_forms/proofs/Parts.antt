-- A Welcome's bytes are those of its numbers, and behind them those of its lists.
use Rattle.std.proofs.Common.{◌≡◌, ℕ, List, ◌++◌, append_assoc}
use Rattle.byte_forms.specs.Numbers.{number}
use Rattle.byte_forms.specs.Lists.{several}
use Rattle.name_forms.specs.Incs.{inc_bytes}
use Rattle.name_forms.specs.Ballots.{ballot_bytes}
use Rattle.paxos_forms.specs.Welcomes.{Welcome, mode_number, primary_bytes, member_bytes, config_bytes, welcome_bytes}
use Rattle.paxos_forms.specs.WelcomeParts.{numbers_bytes, lists_bytes}
use Rattle.paxos_forms.specs.Gives.{Give, last_bytes, kept_bytes, told_bytes, give_bytes}
use Rattle.paxos_forms.specs.GiveParts.{state_bytes, lacks_bytes}

regroup : (old a b c d e f g rest : List ℕ) → (old ++ (a ++ (b ++ (c ++ (d ++ (e ++ (f ++ g))))))) ++ rest ≡ old ++ (a ++ (b ++ (c ++ (d ++ (e ++ (f ++ (g ++ rest)))))))
regroup old a b c d e f g rest = simp append_assoc

pub welcome_parts : (old : List ℕ) (w : Welcome) → (old ++ numbers_bytes w) ++ lists_bytes w ≡ old ++ welcome_bytes w
welcome_parts old w =
    regroup old (number 8 w.slot) (number 8 w.place) (number 8 w.number) (ballot_bytes w.promise) (number 1 (mode_number w.mode)) (primary_bytes w.primary) (number 8 w.elected) (lists_bytes w)

regroup_give : (old a b c d e rest : List ℕ) → (old ++ (a ++ (b ++ (c ++ (d ++ e))))) ++ rest ≡ old ++ (a ++ (b ++ (c ++ (d ++ (e ++ rest)))))
regroup_give old a b c d e rest = simp append_assoc

pub give_parts : (old : List ℕ) (g : Give) → (old ++ state_bytes g) ++ lacks_bytes g ≡ old ++ give_bytes g
give_parts old g = regroup_give old (number 8 g.place) (number 8 g.blocks) (several last_bytes g.last) (several kept_bytes g.items) (several told_bytes g.told) (lacks_bytes g)
