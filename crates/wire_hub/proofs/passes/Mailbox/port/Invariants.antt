use Rattle.wire_hub.proofs.passes.Mailbox.port.Given as goal

abbrev pub ghosts-name_sender : goal.ghosts-name_sender
ghosts-name_sender a = record { name = a.name }
