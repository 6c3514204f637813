-- Scripts that are made: so many steps, drawn from a number.
use Rattle.std.specs.Prelude.{ℕ, zero, suc, ◌+◌, ◌*◌, ◌/◌, ◌%◌, ◌^◌, ◌==◌, nat_lt, List, [], ◌∷◌, ◌++◌, Some, None, codes, decimal}
use Rattle.std.specs.Prelude.{replicate, if◌then◌else◌}
use Rattle.group_rules.specs.Names.{Item, ChangeKind, Inserts, Updates, Multi}
use Rattle.group_rules.specs.declared.requests.Operator.TheVariants.{Tell}
use Rattle.group_rules.specs.declared.steps.Step.{Step}
use Rattle.group_rules.specs.declared.steps.Step.TheVariants.{Found, Once, Settle, Work, Tick, Operate, Drain}
use Rattle.script_text.specs.declared.line.Line.{Line}
use Rattle.script_text.specs.Words.{Text}

-- ---- draws

-- the state of the generator after a draw
abbrev pub after_draw : ℕ → ℕ
after_draw x = (x * 6364136223846793005 + 1442695040888963407) % 2 ^ 64

-- what is drawn at a state
abbrev pub draw : ℕ → ℕ
draw x = after_draw x / 2 ^ 33

-- the state after the three draws of a step
abbrev pub after_step : ℕ → ℕ
after_step x = after_draw (after_draw (after_draw x))

-- the state before the step with this number, from 0
abbrev pub state_before : ℕ → ℕ → ℕ
state_before from zero = from
state_before from (suc i) = after_step (state_before from i)

-- ---- steps

abbrev pub key_of : ℕ → Item
key_of k = record { table = codes "t"; key = codes "k" ++ decimal k }

abbrev pub value_of : ℕ → Text
value_of i = codes "v" ++ decimal i

-- a transaction on line i + 1, which is that of step i
abbrev pub once_step : ℕ → ℕ → ℕ → ChangeKind → Step
once_step i server key what = Once server (1000000000 + (i + 1)) (record { item = key_of key; what = what })

-- step i, from 1, of such a kind
unfoldable pub step_by : ℕ → ℕ → ℕ → ℕ → Step
step_by i kind server key =
    if nat_lt kind 2 then once_step i server key (Inserts (value_of i))
    else if nat_lt kind 4 then once_step i server key (Updates (value_of i))
    else if kind == 4 then Settle []
    else if kind == 5 then Work server None
    else if kind == 6 then Tick server 1
    else Operate server Tell

-- step i, drawn at a state
unfoldable pub step_drawn : ℕ → ℕ → Step
step_drawn i x = step_by i (draw x % 8) (draw (after_draw x) % 3 + 1) (draw (after_draw (after_draw x)) % 100)

-- ---- lines

abbrev pub line_with : ℕ → Step → Line
line_with number step = record { number = number; step = Some step }

-- `found aaaaaaaa-aaaa-aaaa-aaaa-aaaaaaaaaaaa multi 10 5 0 1 2 3`
abbrev pub founding : Step
founding = Found (replicate 16 170) Multi 10 5 0 (1 ∷ 2 ∷ 3 ∷ [])

-- the founding and so many steps
abbrev pub lines_up_to : ℕ → ℕ → List Line
lines_up_to from zero = line_with 1 founding ∷ []
lines_up_to from (suc i) = lines_up_to from i ++ line_with (i + 2) (step_drawn (i + 1) (state_before from i)) ∷ []

-- the founding, n steps and a drain
unfoldable pub made : ℕ → ℕ → List Line
made n from = lines_up_to from n ++ line_with (n + 2) Drain ∷ []
