-- What looks show, one thing after another.
use Rattle.std.specs.Prelude.{ℕ, Option, List, ◌++◌, codes, map}
use Rattle.gr_ids.specs.declared.names.Inc.{Inc}
use Rattle.gr_ids.specs.declared.names.Ballot.{Ballot}
use Rattle.group_rules.specs.Texts.{Text, decimal, item_text, gtid_text, done_text, promise_text, after_inc}
use Rattle.group_rules.specs.declared.said.Row.{Row}
use Rattle.group_rules.specs.declared.said.QueuedPlace.{QueuedPlace}
use Rattle.group_rules.specs.declared.said.ItemWriter.{ItemWriter}
use Rattle.report_text.specs.Lines.{output_line, output_lines}

abbrev pub slots_shown : ℕ → ℕ → Option Ballot → Text
slots_shown next place promise = codes "slots next " ++ decimal next ++ codes " place " ++ decimal place ++ codes " promise " ++ promise_text promise

abbrev pub row_shown : Row → Text
row_shown r = codes "row " ++ item_text r.item ++ codes " " ++ r.value

abbrev pub place_shown : QueuedPlace → Text
place_shown p = codes "queued " ++ decimal p.place ++ done_text p.done

abbrev pub writer_shown : ItemWriter → Text
writer_shown w = codes "item " ++ item_text w.item ++ codes " " ++ gtid_text w.gtid

-- the output line of a text about an incarnation
abbrev pub inc_line : ℕ → Inc → Text → Text
inc_line number inc text = output_line number (after_inc inc text)

-- a line for each of them
abbrev pub each_line : {A : Type 0} → ℕ → Inc → (A → Text) → List A → Text
each_line number inc text xs = output_lines number (map (λ x. after_inc inc (text x)) xs)
