-- The lines of a scenario and what they say.
use Rattle.std.specs.Prelude.{ℕ, List, Option, Some, None, if◌then◌else◌, codes}
use Rattle.std.specs.Option.{option_map}
use Rattle.std.specs.Str.{bytes_eq}
use Rattle.script_text.specs.declared.scene.Scene.{Scene}
use Rattle.script_text.specs.declared.scene.SceneStep.{SceneStep}
use Rattle.script_text.specs.declared.scene.SceneStep.TheVariants.{Comment, Step as Sets, Session, Call, Operate}
use Rattle.script_text.specs.Words.{Text, ◌>>=◌, ◌<|>◌, named_words, first_word}
use Rattle.script_text.specs.Numbers.{number_in}
use Rattle.script_text.specs.Servers.{only_server}
use Rattle.script_text.specs.Founding.{declared_of, found_of}
use Rattle.script_text.specs.Sessions.{first_session, request_of}
use Rattle.script_text.specs.Operators.{action_of}

-- S N
unfoldable pub opened_of : List Text → Option SceneStep
opened_of ws = do
  (session, args) ← first_session ws
  server ← only_server args
  Some (Session session server)

-- a call or an action of a session: its name, and the rest of it without N and S
unfoldable pub act_of : ℕ → Text → List Text → Option SceneStep
act_of session name args = option_map (Call session) (request_of name args) <|> option_map (Operate session) (action_of name args)

-- S, and a call or an action
unfoldable pub acted_of : Text → List Text → Option SceneStep
acted_of session ws = do
  session ← number_in 1 999999999 session
  (name, args) ← first_word ws
  act_of session name args

-- what a line says that begins with this word
unfoldable pub scene_step_of : Text → List Text → Option SceneStep
scene_step_of name ws =
    if bytes_eq name (codes "server") then option_map Sets (declared_of ws)
    else if bytes_eq name (codes "found") then option_map Sets (found_of ws)
    else if bytes_eq name (codes "session") then opened_of ws
    else acted_of name ws

-- what a line of these words says, or a comment
abbrev pub scene_by : Option (Text × List Text) → Option SceneStep
scene_by None = Some Comment
scene_by (Some named) = scene_step_of named.0 named.1

-- A line of a scenario, without its end. None stands for a line that isn't in the grammar.
unfoldable pub scene_of : ℕ → Text → Option Scene
scene_of number line = option_map (λ s. record { number = number; what = s }) (scene_by (named_words line))
