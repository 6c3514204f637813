-- What a script says: the texts of its lines, up to the end, or up to and with the first line that is bad or passes a limit.
use Rattle.std.specs.Prelude.{ℕ, ◌+◌, Bool, true, false, List, [], ◌∷◌, ◌++◌, length, ◌==◌, nat_lt, Option, Some, None, if◌then◌else◌, codes}
use Rattle.group_rules.specs.declared.steps.Step.{Step}
use Rattle.group_rules.specs.Script.{Play, apply, new_play}
use Rattle.group_rules.specs.Texts.{Text}
use Rattle.report_text.specs.Reporting.{report_of}
use Rattle.report_text.specs.Reports.{report_json}
use Rattle.script_text.specs.declared.line.Line.{Line}
use Rattle.script_text.specs.Grammar.{line_of}
use Rattle.script_run.specs.Lines.{lines_of, ended_lines}
use Rattle.script_run.specs.Placing.{is_misplaced, no_lines, with_line}
use Rattle.script_run.specs.Statuses.{done, bad_line, past_limit}
use Rattle.script_run.specs.Texts.{bad_text, length_text, lines_text, play_text}
use Rattle.script_run.specs.declared.placing.Placing.{Placing}

-- ---- one line

-- how far a script has come: its play, and which lines stood
pub record State : Type 0 where
  pub play : Play
  pub placing : Placing

abbrev pub start : State
start = record { play = new_play; placing = no_lines }

-- what a line leaves and says, and the status if it ends the run
pub record Outcome : Type 0 where
  pub status : ℕ
  pub text : Text
  pub state : State

-- the run goes on
abbrev pub says : Text → State → Outcome
says text s = record { status = done; text = text; state = s }

-- the line is bad
abbrev pub refuses : ℕ → State → Outcome
refuses number s = record { status = bad_line; text = bad_text number; state = s }

-- the line passes a limit
abbrev pub passes : Text → State → Outcome
passes text s = record { status = past_limit; text = text; state = s }

-- the step led to this play; one that passes a limit of the wire isn't done
abbrev pub step_leads : ℕ → Step → State → Play → Outcome
step_leads number x s z = elim (z.closed) [
  | None ↦ says (play_text number z) (record { play = z; placing = with_line x s.placing })
  | Some f ↦ passes (play_text number z) s
]

-- a line that is misplaced is bad
unfoldable pub step_or_bad : ℕ → Step → State → Outcome
step_or_bad number x s = elim (is_misplaced x s.placing) [ true ↦ refuses number s | false ↦ step_leads number x s (apply x s.play) ]

-- a comment says nothing
abbrev pub step_done : ℕ → Option Step → State → Outcome
step_done number None s = says [] s
step_done number (Some x) s = step_or_bad number x s

abbrev pub line_or_bad : ℕ → Option Line → State → Outcome
line_or_bad number None s = refuses number s
line_or_bad number (Some l) s = step_done number l.step s

-- the count of lines is checked first, then the length, then the grammar, then where the line stands, then the step
unfoldable pub line_step : State → ℕ → List ℕ → Outcome
line_step s number line =
    if nat_lt 1000000 number then passes (lines_text number) s
    else if nat_lt 65536 (length line) then passes (length_text number) s
    else line_or_bad number (line_of number line) s

-- ---- all lines

-- the texts of lines, the first of which has this number
abbrev pub texts : State → ℕ → List (List ℕ) → Text
texts s number [] = []
texts s number (line ∷ lines) = (line_step s number line).text ++ (if (line_step s number line).status == 0 then texts (line_step s number line).state (number + 1) lines else [])

-- the status with which they end
abbrev pub ends : State → ℕ → List (List ℕ) → ℕ
ends s number [] = done
ends s number (line ∷ lines) = if (line_step s number line).status == 0 then ends (line_step s number line).state (number + 1) lines else (line_step s number line).status

-- how far they come: a line that ends the run isn't done
abbrev pub after : State → ℕ → List (List ℕ) → State
after s number [] = s
after s number (line ∷ lines) = if (line_step s number line).status == 0 then after (line_step s number line).state (number + 1) lines else s

-- ---- scripts

-- the play of a script's lines
abbrev pub play_of : List (List ℕ) → Play
play_of lines = (after start 1 lines).play

abbrev pub report_line : ℕ → Play → Text
report_line lines y = report_json (report_of lines y) ++ codes "\n"

-- the line behind the texts: the report, where it is asked for and every line was done
abbrev pub ending : Bool → ℕ → ℕ → Play → Text
ending false status lines y = []
ending true status lines y = if status == 0 then report_line lines y else []

-- all that lines say
unfoldable pub all_texts : List (List ℕ) → Text
all_texts lines = texts start 1 lines

-- and the report
unfoldable pub told_of : Bool → List (List ℕ) → Text
told_of report lines = all_texts lines ++ ending report (ends start 1 lines) (length lines) (play_of lines)

-- all that a script says
abbrev pub full : List ℕ → Text
full script = all_texts (lines_of script)

-- all that is written of it
abbrev pub text_of : Bool → List ℕ → Text
text_of report script = told_of report (lines_of script)

unfoldable pub status_of : List ℕ → ℕ
status_of script = ends start 1 (lines_of script)

-- what its lines say that have their end
abbrev pub whole_lines_text : List ℕ → Text
whole_lines_text bytes = all_texts (ended_lines bytes)
