-- A view as it is told and taken up again.
use Rattle.view_changes.specs.declared.view_at.ViewAt.{ViewAt}
use Rattle.group_rules.specs.View.{View}

abbrev pub told_view : ViewAt → View
told_view x = record { number = x.number; mode = x.mode; primary = x.primary; elected = x.elected; seats = x.members }
