-- The configuration is the one that is known.
use Rattle.std.proofs.Common.{◌≡◌, Option, Some, None, List, [], sym, ap, ◌∙◌}
use Rattle.std.specs.Prelude.{unwrap_or}
use Rattle.gr_ids.specs.declared.names.Inc.{Inc}
use Rattle.slot_values.specs.Log.{config_of}
use Rattle.paxos_leader.specs.Parts.{standing}
use Rattle.paxos_leader.proofs.Standing.{standing_config}
use Rattle.paxos_leader.proofs.missing.config_or_none.Goals as goal

pub returns-in-Some : goal.returns-in-Some
returns-in-Some c =
    let known : Some c.in-Some.config.now ≡ config_of (standing c.args.turns.now) c.args.slot = c.in-Some.ensures ∙ sym (standing_config c.args.turns.now c.args.slot) in
    ap (λ (o : Option (List Inc)). unwrap_or o []) known

pub returns-in-None : goal.returns-in-None
returns-in-None c =
    let known : ◌≡◌ {A = Option (List Inc)} None (config_of (standing c.args.turns.now) c.args.slot) = c.in-None.ensures ∙ sym (standing_config c.args.turns.now c.args.slot) in
    ap (λ (o : Option (List Inc)). unwrap_or o []) known
