use Rattle.std.proofs.Common.{◌≡◌, ◌++◌, drop}
use Rattle.report_text.specs.Shown.{each_line, place_shown}
use Rattle.report_text.proofs.shown_lines.put_place_lines.Given as goal

abbrev pub invariant-loop-place : goal.invariant-loop-place
invariant-loop-place l =
    l.to ++ each_line l.number l.inc place_shown (drop l.place-index l.places)
    ≡ l.initial.to ++ each_line l.number l.inc place_shown l.places
