-- The words as `clap` reads them, and what is read of its matches.
use Rattle.std.specs.Prelude.{Bool, true, false, List, Option, Some, codes, option_map}
use Rattle.clap.specs.Simple.{on_top}
use Rattle.clap.specs.Words.{App, Row, Rule, Text, first_of, new_app, new_rule, one_of, with_rule, with_subcommand}
use Rattle.clap.specs.declared.builder.action.ArgAction.TheVariants.{SetTrue}

-- ---- the program's words: `play`, with a flag, and `make`, with two words

abbrev pub report_rule : Rule
report_rule = record (new_rule (codes "report")) { long = Some (codes "report"); action = Some SetTrue }

abbrev pub steps_rule : Rule
steps_rule = record (new_rule (codes "steps")) { required = true }

abbrev pub from_rule : Rule
from_rule = record (new_rule (codes "from")) { required = true }

abbrev pub play_app : App
play_app = with_rule (new_app (codes "play")) report_rule

abbrev pub make_app : App
make_app = with_rule (with_rule (new_app (codes "make")) steps_rule) from_rule

-- the words are those behind the program's name
abbrev pub nameless : App
nameless = on_top (λ s. record s { no_binary_name = true }) (new_app (codes "grsim"))

abbrev pub grsim : App
grsim = with_subcommand (with_subcommand nameless play_app.top) make_app.top

-- ---- what is read of the subcommand that was met, of its name and its matches

abbrev pub named : Option (Text × List Row) → Option Text
named = option_map (λ p. p.0)

abbrev pub flag_in : Option (Text × List Row) → Option (Option Text)
flag_in = option_map (λ p. one_of (codes "report") p.1)

abbrev pub values_in : Option (Text × List Row) → Option (Option Text × Option Text)
values_in = option_map (λ p. (first_of (codes "steps") p.1, first_of (codes "from") p.1))

abbrev pub flag_text : Bool → Text
flag_text true = codes "true"
flag_text false = codes "false"
