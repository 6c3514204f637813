use Rattle.wire_hub.proofs.passes.Mailbox.open.Given as goal

abbrev pub ghosts-name_owner : goal.ghosts-name_owner
ghosts-name_owner a = record { name = a.owner }
