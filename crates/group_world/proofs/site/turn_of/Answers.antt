use Rattle.group_world.proofs.site.turn_of.Goals as goal

pub returns-in-Ok : goal.returns-in-Ok
returns-in-Ok c a k h =
    let left = c.in-Ok.ensures.ok a k h in
    (record { inc = c.inc-inc.ensures a h; marks = left.marks; sent = left.sent; spellable = left.spellable; ranged = left.ranged }, left.stands)
