use Rattle.wire_hub.proofs.passes.Mailbox.compare.Given as goal

abbrev pub ghosts-name_told : goal.ghosts-name_told
ghosts-name_told g a = record { name = a.name }
