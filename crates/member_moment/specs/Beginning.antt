-- A begin that is held no more.
use Rattle.group_rules.specs.Events.{Begun}
use Rattle.group_rules.specs.Life.{executed}
use Rattle.group_rules.specs.Member.{Member, push}
use Rattle.consistency_waits.specs.declared.held.Released.{Released}

-- its transaction reads what is executed now
abbrev pub begins_now : Released → Member → Member
begins_now r a = push (Begun r.session (executed a.life) r.sync) a
