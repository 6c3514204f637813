-- What was kept is what its incarnation begins with.
use Rattle.std.proofs.Common.{sym}
use Rattle.member_ranges.specs.Ranges.{setup_with}
use Rattle.group_world.proofs.Begun.{site_begins}
use Rattle.group_world.proofs.site.Site.start.Goals as goal

pub returns-in_ok-first_turn-in-Stopped : goal.returns-in_ok-first_turn-in-Stopped
returns-in_ok-first_turn-in-Stopped c s h m =
    let e = c.in_ok-first_turn-in-Stopped.ensures in
    site_begins (setup_with c.args.founding.now.limits c.args.founding.now.mode c.args.founding.now.founders.items) c.args.contact s c.args.self.now c.in-Stopped.kept c.args.me c.in_ok-member-in-Stopped.field-0
    c.in_ok-first_turn-in-Stopped.field-0 h (sym c.in-Stopped.ensures.value) m c.in_ok-member-in-Stopped.ensures e.0 e.1 e.2
