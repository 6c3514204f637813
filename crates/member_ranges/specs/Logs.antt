-- What a node knows of the log, within the ranges of a Welcome.
use Rattle.std.specs.Prelude.{◌≡◌, ◌+◌, ◌≤◌, ℕ, None, List, length}
use Rattle.byte_forms.specs.Lists.{IsChain}
use Rattle.gr_ids.specs.declared.names.Inc.{Inc}
use Rattle.name_forms.specs.Incs.{IsIncAfter}
use Rattle.slot_values.specs.Log.{Turns, incs}
use Rattle.slot_values.specs.declared.member.Member.{Member}
use Rattle.node_rules.specs.Lists.{In}
use Rattle.node_rules.specs.Node.{Node}

-- a group has at most nine members
abbrev pub AreFew : List Inc → Type 0
AreFew is = length is ≤ 9

-- A place for each slot at most, and a kept number for each place; the members ascend, and so do those who ever were; as many configurations are known beyond
-- the last slot as the horizon allows.
pub record IsLog (horizon : ℕ) (w : Turns) : Type 0 where
  pub place : w.reading.place ≤ w.slot
  pub lasts : (m : Member) → In m w.reading.members → m.last ≤ w.reading.place
  pub members : IsChain IsIncAfter None (incs w.reading.members)
  pub few : AreFew (incs w.reading.members)
  pub ever : IsChain IsIncAfter None w.reading.ever
  pub base : w.base ≤ w.slot
  pub reaches : w.base + length w.configs ≡ w.slot + horizon
  pub configs : (c : List Inc) → In c w.configs → AreFew c

-- it has promised some ballot, and hands out the slot behind those of its log next
pub record HasLog (n : Node) (w : Turns) : Type 0 where
  pub round : 1 ≤ n.acceptor.promise.round
  pub slot : n.learner.slot ≡ w.slot + 1
  pub next : n.learner.slot ≤ n.learner.next
  pub log : IsLog n.horizon w
