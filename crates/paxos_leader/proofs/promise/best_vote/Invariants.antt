-- The best vote of the promises so far, taken on through the others, is the best of all.
use Rattle.std.proofs.Common.{◌≡◌, drop}
use Rattle.std.specs.Prelude.{fold, map, option_map}
use Rattle.node_rules.specs.Leader.{best, better}
use Rattle.paxos_leader.specs.Parts.{promised_of}
use Rattle.paxos_leader.proofs.promise.best_vote.Given as goal

abbrev pub invariant-loop-promise : goal.invariant-loop-promise
invariant-loop-promise l = fold (better l.config l.slot) (option_map (λ x. x.now) l.found) (map promised_of (drop l.promise-index l.promises)) ≡ best l.config (map promised_of l.promises) l.slot
