-- What a script that is made does, and what is written of it.
use Rattle.std.specs.Prelude.{ℕ, ◌+◌, List, [], ◌∷◌, ◌++◌, Option, Some, None}
use Rattle.group_rules.specs.declared.said.Said.{Said}
use Rattle.group_rules.specs.declared.steps.Step.{Step}
use Rattle.group_rules.specs.Script.{Full, Play, Refusal, apply, new_play}
use Rattle.group_rules.specs.Texts.{Text, limit_text}
use Rattle.report_text.specs.declared.summary.Verdict.{Verdict}
use Rattle.report_text.specs.Lines.{output_line}
use Rattle.report_text.specs.Reporting.{report_of}
use Rattle.report_text.specs.Summaries.{summary, verdicts}
use Rattle.script_text.specs.declared.line.Line.{Line}
use Rattle.script_text.specs.Make.{made}
use Rattle.script_run.specs.Statuses.{done, past_limit}

-- How a made script ends: each line was done, with these verdicts, or a line passed a limit of the wire and isn't done.
pub data Ending : Type 0 where
  AllDone : (play : Play) (verdicts : List Verdict) → Ending
  Passes : (number : ℕ) (full : Full) (play : Play) → Ending

abbrev pub step_play : Option Step → Play → Play
step_play None y = y
step_play (Some x) y = apply x y

-- a step that is refused says nothing
abbrev pub said_unless : Option Refusal → List Said → List Said
said_unless (Some r) xs = []
said_unless None xs = xs

abbrev pub step_said : Option Step → Play → List Said
step_said None z = []
step_said (Some x) z = said_unless z.refused z.said

-- the lines from this play on, behind which so much was said
abbrev pub ending_of : Play → List Verdict → List Line → Ending
ending_of y vs [] = AllDone y vs
ending_of y vs (l ∷ ls) = let z : Play = step_play l.step y in elim (z.closed) [ Some f ↦ Passes l.number f y | None ↦ ending_of z (vs ++ verdicts (step_said l.step z)) ls ]

abbrev pub ending_play : Ending → Play
ending_play (AllDone y vs) = y
ending_play (Passes number f y) = y

abbrev pub ending_status : Ending → ℕ
ending_status (AllDone y vs) = done
ending_status (Passes number f y) = past_limit

-- after so many lines
abbrev pub ending_text : ℕ → Ending → Text
ending_text lines (AllDone y vs) = summary vs (report_of lines y)
ending_text lines (Passes number f y) = output_line number (limit_text f)

-- n steps from a number
unfoldable pub made_ending : ℕ → ℕ → Ending
made_ending n from = ending_of new_play [] (made n from)

abbrev pub made_play : ℕ → ℕ → Play
made_play n from = ending_play (made_ending n from)

abbrev pub made_status : ℕ → ℕ → ℕ
made_status n from = ending_status (made_ending n from)

abbrev pub made_text : ℕ → ℕ → Text
made_text n from = ending_text (n + 2) (made_ending n from)
