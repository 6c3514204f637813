-- The keys are taken over.
use Rattle.member_tables.proofs.Freed.{placed}
use Rattle.member_tables.proofs.Results.{on_ok_all}
use Rattle.member_tables.proofs.tables.MemberTables.done.Goals as goal

pub returns-clause-done : goal.returns-clause-done
returns-clause-done c =
    on_ok_all c.done_takes.result (λ es ek ep a x e n up eg ei f.
    placed a.setup a.me.inc a.life c.args.self.now c.args.place x c.args.gtid c.args.items.now c.done_takes.new.self c.done_takes.new.locks e n up eg ei es ek ep f)
    c.done_takes.ensures.sessions c.done_takes.ensures.keys c.done_takes.ensures.places
