-- What the map has at the GTID.
use Rattle.std.proofs.Common.{ap, sym, ◌∙◌}
use Rattle.prepare_acks.specs.Awaited.{is_none}
use Rattle.prepare_acks.specs.Inside.{members_in}
use Rattle.prepare_acks.proofs.MapReads.{reads}
use Rattle.prepare_acks.proofs.acks.Acks.complete.Goals as goal

pub returns-in-Some : goal.returns-in-Some
returns-in-Some c =
    rw (← c.self.view_is) (c.is_nobody.ensures ∙ (ap is_none c.deref.ensures.value ∙ (ap (λ o. is_none (members_in o)) c.in-Some.ensures.value ∙ sym (ap is_none (reads c.self.inside.awaited.entries c.args.gtid)))))

pub returns-in-None : goal.returns-in-None
returns-in-None c =
    rw (← c.self.view_is) (ap (λ o. is_none (members_in o)) c.in-None.ensures.value ∙ sym (ap is_none (reads c.self.inside.awaited.entries c.args.gtid)))
