-- The configuration is the one that is known.
use Rattle.std.proofs.Common.{◌≡◌, ◌^◌, true, Some, sym, ◌∙◌, arith}
use Rattle.std.specs.Prelude.{nat_le}
use Rattle.std.proofs.lemmas.Bool.Decides.{nat_tests}
use Rattle.slot_values.specs.Log.{config_of}
use Rattle.paxos_leader.specs.Parts.{standing}
use Rattle.paxos_leader.proofs.Standing.{standing_config}
use Rattle.paxos_leader.proofs.Choices.{opens, shut_few}
use Rattle.paxos_leader.proofs.leader.Leader.open_config.Goals as goal

pub returns-then-is_promised_by : goal.returns-then-is_promised_by
returns-then-is_promised_by c =
    let known : Some c.in-Some.config.now ≡ config_of (standing c.args.turns.now) c.args.slot = c.in-Some.ensures ∙ sym (standing_config c.args.turns.now c.args.slot) in
    let low : nat_le c.args.slot (2 ^ 42) ≡ true = grind (arith, nat_tests) in
    opens (standing c.args.turns.now) c.args.self.now c.args.slot c.in-Some.config.now known low (sym c.is_promised_by.ensures ∙ c.if-is_promised_by.true)

pub returns-else-is_promised_by : goal.returns-else-is_promised_by
returns-else-is_promised_by c =
    let known : Some c.in-Some.config.now ≡ config_of (standing c.args.turns.now) c.args.slot = c.in-Some.ensures ∙ sym (standing_config c.args.turns.now c.args.slot) in
    let low : nat_le c.args.slot (2 ^ 42) ≡ true = grind (arith, nat_tests) in
    shut_few (standing c.args.turns.now) c.args.self.now c.args.slot c.in-Some.config.now known low (sym c.is_promised_by.ensures ∙ c.if-is_promised_by.false)
