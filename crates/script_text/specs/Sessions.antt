-- The calls of sessions.
use Rattle.std.specs.Prelude.{ℕ, ◌+◌, List, Option, Some, None, if◌then◌else◌, codes}
use Rattle.std.specs.Option.{option_map}
use Rattle.std.specs.Str.{bytes_eq}
use Rattle.group_rules.specs.declared.requests.Request.{Request}
use Rattle.group_rules.specs.declared.requests.Request.TheVariants.{Begin, Get, Insert, Update, Delete, Commit, Rollback}
use Rattle.group_rules.specs.declared.steps.Step.{Step}
use Rattle.group_rules.specs.declared.steps.Step.TheVariants.{Session, Once}
use Rattle.script_text.specs.Words.{Text, ◌>>=◌, first_word, two_words, no_words}
use Rattle.script_text.specs.Numbers.{number_in, first_number}
use Rattle.script_text.specs.Names.{level_of}
use Rattle.script_text.specs.Servers.{first_server}
use Rattle.script_text.specs.Rows.{item_of, row_of, change_of}

-- LEVEL WAIT
unfoldable pub begin_of : List Text → Option Request
begin_of ws = do
  (level, wait) ← two_words ws
  level ← level_of level
  wait ← number_in 1 1000000 wait
  Some (Begin level wait)

-- `begin LEVEL WAIT`, `get TABLE KEY`, `insert TABLE KEY VALUE`, `update TABLE KEY VALUE`, `delete TABLE KEY`, `commit`, `rollback`
unfoldable pub request_of : Text → List Text → Option Request
request_of name ws =
    if bytes_eq name (codes "begin") then begin_of ws
    else if bytes_eq name (codes "get") then option_map Get (item_of ws)
    else if bytes_eq name (codes "insert") then option_map (λ r. Insert r.item r.value) (row_of ws)
    else if bytes_eq name (codes "update") then option_map (λ r. Update r.item r.value) (row_of ws)
    else if bytes_eq name (codes "delete") then option_map Delete (item_of ws)
    else if bytes_eq name (codes "commit") then no_words Commit ws
    else if bytes_eq name (codes "rollback") then no_words Rollback ws
    else None

-- a session, and the words behind it
abbrev pub first_session : List Text → Option (ℕ × List Text)
first_session ws = first_number 1 999999999 ws

-- a call of a session: its name, N S, and the rest of the call
unfoldable pub session_of : Text → List Text → Option Step
session_of name ws = do
  (server, others) ← first_server ws
  (session, args) ← first_session others
  request ← request_of name args
  Some (Session server session request)

-- `once N` and a change, in a session that has the number of the line
unfoldable pub once_of : ℕ → List Text → Option Step
once_of number ws = do
  (server, others) ← first_server ws
  (name, args) ← first_word others
  change ← change_of name args
  Some (Once server (1000000000 + number) change)
