-- The lines of a script and their steps.
use Rattle.std.specs.Prelude.{ℕ, List, Option, Some, None, if◌then◌else◌, codes}
use Rattle.std.specs.Option.{option_map}
use Rattle.std.specs.Str.{bytes_eq}
use Rattle.group_rules.specs.declared.steps.Step.{Step}
use Rattle.script_text.specs.declared.line.Line.{Line}
use Rattle.script_text.specs.Words.{Text, ◌<|>◌, named_words}
use Rattle.script_text.specs.Founding.{setting_of}
use Rattle.script_text.specs.Sessions.{session_of, once_of}
use Rattle.script_text.specs.Operators.{operator_of}
use Rattle.script_text.specs.Moves.{wire_of, pace_of, power_of}
use Rattle.script_text.specs.Looks.{look_of}

-- `once`, which stands on the line with this number, or another call
unfoldable pub call_of : ℕ → Text → List Text → Option Step
call_of number name ws = if bytes_eq name (codes "once") then once_of number ws else session_of name ws

-- The step of a line that begins with this word: that of the one form that has it. None stands for a line that isn't in the grammar.
unfoldable pub step_of : ℕ → Text → List Text → Option Step
step_of number name ws =
    call_of number name ws <|> setting_of name ws <|> operator_of name ws <|> wire_of name ws <|> pace_of name ws <|> power_of name ws <|> look_of name ws

-- a line of these words, or a comment
abbrev pub line_by : ℕ → Option (Text × List Text) → Option Line
line_by number None = Some (record { number = number; step = None })
line_by number (Some named) = option_map (λ s. record { number = number; step = Some s }) (step_of number named.0 named.1)

-- A line of a script, without its end. None stands for a line that isn't in the grammar.
unfoldable pub line_of : ℕ → Text → Option Line
line_of number line = line_by number (named_words line)
