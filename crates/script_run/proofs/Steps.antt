-- With which statuses a line ends a run, and what it leaves.
use Rattle.std.proofs.Common.{◌≡◌, ◌==◌, ◌<◌, ◌≤◌, cond, true, false, Bool, ℕ, List, length, Option, Some, None, refl, inl, inr, arith, ltb, nat_lt}
use Rattle.std.specs.Prelude.{if◌then◌else◌}
use Rattle.std.proofs.lemmas.Bool.Decides.{nat_tests}
use Rattle.group_rules.specs.declared.steps.Step.{Step}
use Rattle.group_rules.specs.Script.{Full, Play, apply}
use Rattle.script_text.specs.declared.line.Line.{Line}
use Rattle.script_text.specs.Grammar.{line_of}
use Rattle.script_run.specs.Placing.{is_misplaced, with_line}
use Rattle.script_run.specs.Play.{State, Outcome, says, refuses, passes, step_leads, step_or_bad, step_done, line_or_bad, line_step}
use Rattle.script_run.specs.Texts.{lines_text, length_text, play_text}
use Rattle.script_run.specs.Run.{IsEnded}

-- a line of its own status, and one that ends the run changes nothing
pub record Plain (s : State) (o : Outcome) : Type 0 where
  pub ended : IsEnded o.status
  pub stays : cond (o.status == 0) o.state s ≡ o.state

done_plain : (s t : State) (text : List ℕ) → Plain s (says text t)
done_plain s t text = record { ended = inl refl; stays = refl }

bad_plain : (s : State) (number : ℕ) → Plain s (refuses number s)
bad_plain s number = record { ended = inr (inl refl); stays = refl }

past_plain : (s : State) (text : List ℕ) → Plain s (passes text s)
past_plain s text = record { ended = inr (inr refl); stays = refl }

either : (s : State) (b : Bool) (x y : Outcome) → Plain s x → Plain s y → Plain s (cond b x y)
either s true x y p q = p
either s false x y p q = q

leads_plain : (number : ℕ) (x : Step) (s : State) (z : Play) → Plain s (step_leads number x s z)
leads_plain number x s z = by_closed z.closed
  where
    by_closed : (c : Option Full) → Plain s (elim c [ None ↦ says (play_text number z) (record { play = z; placing = with_line x s.placing }) | Some f ↦ passes (play_text number z) s ])
    by_closed None = done_plain s _ _
    by_closed (Some f) = past_plain s _

step_plain : (number : ℕ) (x : Step) (s : State) → Plain s (step_or_bad number x s)
unfolding step_or_bad
step_plain number x s = by_place (is_misplaced x s.placing)
  where
    by_place : (b : Bool) → Plain s (elim b [ true ↦ refuses number s | false ↦ step_leads number x s (apply x s.play) ])
    by_place true = bad_plain s number
    by_place false = leads_plain number x s (apply x s.play)

done_by : (number : ℕ) (x : Option Step) (s : State) → Plain s (step_done number x s)
done_by number None s = done_plain s s _
done_by number (Some x) s = step_plain number x s

line_plain : (number : ℕ) (l : Option Line) (s : State) → Plain s (line_or_bad number l s)
line_plain number None s = bad_plain s number
line_plain number (Some l) s = done_by number l.step s

pub line_step_plain : (s : State) (number : ℕ) (line : List ℕ) → Plain s (line_step s number line)
unfolding line_step
line_step_plain s number line =
    either s (ltb 1000000 number) (passes (lines_text number) s) (if nat_lt 65536 (length line) then passes (length_text number) s else line_or_bad number (line_of number line) s) (past_plain s _)
    (either s (ltb 65536 (length line)) (passes (length_text number) s) (line_or_bad number (line_of number line) s) (past_plain s _) (line_plain number (line_of number line) s))

within : (b : Bool) (x y : Outcome) → (cond b x y).status ≡ 0 → x.status ≡ 7 → b ≡ false
within true x y e seven = absurd (omega arith)
within false x y e seven = refl

pub line_step_within : (s : State) (number : ℕ) (line : List ℕ) → (line_step s number line).status ≡ 0 → number ≤ 1000000
unfolding line_step
line_step_within s number line e =
    let test = within (ltb 1000000 number) (passes (lines_text number) s) (if nat_lt 65536 (length line) then passes (length_text number) s else line_or_bad number (line_of number line) s) e refl in
    grind (arith, nat_tests)

-- a line past the limit ends the run
pub line_step_long : (s : State) (number : ℕ) (line : List ℕ) → 65536 < length line → (line_step s number line).status ≡ 0 → ⊥
unfolding line_step
line_step_long s number line long e =
    let test = within (ltb 1000000 number) (passes (lines_text number) s) (if nat_lt 65536 (length line) then passes (length_text number) s else line_or_bad number (line_of number line) s) e refl in
    let rest : (if nat_lt 65536 (length line) then passes (length_text number) s else line_or_bad number (line_of number line) s).status ≡ 0 = rw test at e in
    let test2 = within (ltb 65536 (length line)) (passes (length_text number) s) (line_or_bad number (line_of number line) s) rest refl in
    grind (arith, nat_tests)

-- two lines past the limit do the same
pub long_same : (s : State) (number : ℕ) (a b : List ℕ) → 65536 < length a → 65536 < length b → line_step s number a ≡ line_step s number b
unfolding line_step
long_same s number a b la lb =
    let ea : ltb 65536 (length a) ≡ true = grind (arith, nat_tests) in
    let eb : ltb 65536 (length b) ≡ true = grind (arith, nat_tests) in
    rw (ea, eb) refl

-- past the last line allowed
pub line_step_past : (s : State) (number : ℕ) (line : List ℕ) → 1000000 < number → line_step s number line ≡ passes (lines_text number) s
unfolding line_step
line_step_past s number line past = let e : ltb 1000000 number ≡ true = grind (arith, nat_tests) in rw e refl
