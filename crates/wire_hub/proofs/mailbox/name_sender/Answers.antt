use Rattle.std.proofs.Common.{◌≡◌, false, sym, subst}
use Rattle.gr_ids.specs.declared.names.Inc.{Inc}
use Rattle.gr_ids.specs.Names.{has_inc}
use Rattle.wire_hub.proofs.Keeps.{makes}
use Rattle.wire_hub.proofs.mailbox.name_sender.Goals as goal

pub another-requires-clause-rule : goal.another-requires-clause-rule
another-requires-clause-rule g c = makes _ _ _ c.requires.room.1 (subst (λ (i : Inc). has_inc c.args.seat.now.me.view.client.senders i ≡ false) (sym c.requires.name) c.requires.room.2)
