-- What is told.
use Rattle.member_joining.proofs.Told.{awaited, awaited_told, due_told, extra_told, last_told, wire_told}
use Rattle.member_joining.proofs.laws.joinings_tell_what_the_rules_tell.Goals as goal

pub returns-clause-due : goal.returns-clause-due
returns-clause-due c = due_told

pub returns-clause-wire : goal.returns-clause-wire
returns-clause-wire c = wire_told

pub returns-clause-awaited : goal.returns-clause-awaited
returns-clause-awaited c = awaited_told

pub returns-clause-last : goal.returns-clause-last
returns-clause-last c = last_told

pub returns-clause-extra : goal.returns-clause-extra
returns-clause-extra c = extra_told

pub returns-clause-ready : goal.returns-clause-ready
returns-clause-ready c = awaited
