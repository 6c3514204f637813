-- The number is put behind the others, where there is one.
use Rattle.std.proofs.Common.{map, sym, ◌∙◌}
use Rattle.std.proofs.lemmas.List.{append-nil}
use Rattle.certifier.specs.Inside.{last_in}
use Rattle.certifier.proofs.LastMaps.{reads, has_number, has_none}
use Rattle.certifier.proofs.copying.push_last.Goals as goal

pub returns-in_ok-push : goal.returns-in_ok-push
returns-in_ok-push c = rw (has_number (map last_in c.args.last.now.entries) c.args.inc c.in-Some.number.now (reads c.args.last.now.entries c.args.inc ∙ sym c.in-Some.ensures.value)) c.in_ok-push.ensures.items

pub returns-in_default : goal.returns-in_default
returns-in_default c = rw (has_none (map last_in c.args.last.now.entries) c.args.inc (reads c.args.last.now.entries c.args.inc ∙ sym c.in_default.ensures.value)) (sym (append-nil c.args.to.now.items))
