-- What a player says of a step.
use Rattle.std.proofs.Common.{◌≡◌, true, false, Bool, ℕ, List, Option, Some, None, refl, sym, ap, ◌∙◌, subst, arith}
use Rattle.std.specs.Prelude.{flat_map}
use Rattle.std.proofs.lemmas.List.{append-nil}
use Rattle.group_rules.specs.declared.said.Said.{Said}
use Rattle.group_rules.specs.declared.steps.Step.{Step}
use Rattle.group_rules.specs.Script.{Full, Play, apply, Refusal, Declared, NoServer, AlreadyRunning, NoMessage, MessageLost, NoMember}
use Rattle.group_rules.specs.Texts.{Text, closed_or_said, limit_text, refused_or_said, said_texts, texts_or_ok}
use Rattle.report_text.specs.Faults.{fault_line, refused}
use Rattle.report_text.specs.Lines.{output_line, output_lines}
use Rattle.report_text.specs.declared.fault.WorldFault.{WorldFault}
use Rattle.report_text.specs.declared.fault.WorldFault.TheVariants.{Declared as NumberTaken, NoServer as ServerMissing, AlreadyRunning as ServerRuns}
use Rattle.report_text.specs.declared.fault.WorldFault.TheVariants.{NoMessage as MessageMissing, MessageLost as MessageGone}
use Rattle.report_text.specs.declared.fault.WorldFault.TheVariants.{NoMember as MemberMissing, WireFull, Spent, Memory}
use Rattle.group_world.specs.Standing.{IsFault, IsRefused, IsSaid, is_refusal, is_spent}
use Rattle.script_run.specs.Placing.{is_misplaced, with_line}
use Rattle.script_run.specs.Play.{Outcome, State, passes, refuses, says, step_leads, step_or_bad}
use Rattle.script_run.specs.Standing.{SaidBy, Stands, fault_status, is_memory}
use Rattle.script_run.specs.Statuses.{bad_line, done, past_limit}
use Rattle.script_run.specs.Texts.{bad_text, play_text}
use Rattle.script_run.specs.declared.line_text.LineText.{LineText}
use Rattle.script_run.specs.declared.player.Player.{Player}

-- ---- lines that end the run

pub past_says : (said : LineText) (x : Player) (s : State) (text : Text) → said.status ≡ past_limit → said.text ≡ text → SaidBy said x (passes text s)
past_says said x s text status is = record { status = status; text = is; stands = λ e. absurd (omega arith) }

pub bad_says : (said : LineText) (x : Player) (s : State) (number : ℕ) → said.status ≡ bad_line → said.text ≡ bad_text number → SaidBy said x (refuses number s)
bad_says said x s number status is = record { status = status; text = is; stands = λ e. absurd (omega arith) }

pub misplaced_says : (said : LineText) (x : Player) (s : State) (number : ℕ) (step : Step) → is_misplaced step s.placing ≡ true → said.status ≡ bad_line → said.text ≡ bad_text number → SaidBy said x (step_or_bad number step s)
unfolding step_or_bad
misplaced_says said x s number step bad status is = by_place (is_misplaced step s.placing) bad
  where
    by_place : (b : Bool) → b ≡ true → SaidBy said x (elim b [ true ↦ refuses number s | false ↦ step_leads number step s (apply step s.play) ])
    by_place true e = bad_says said x s number status is
    by_place false e = cc e

-- a line that stands where it may
placed : (said : LineText) (x : Player) (s : State) (number : ℕ) (step : Step) → is_misplaced step s.placing ≡ false → SaidBy said x (step_leads number step s (apply step s.play)) → SaidBy said x (step_or_bad number step s)
unfolding step_or_bad
placed said x s number step good says = by_place (is_misplaced step s.placing) good
  where
    by_place : (b : Bool) → b ≡ false → SaidBy said x (elim b [ true ↦ refuses number s | false ↦ step_leads number step s (apply step s.play) ])
    by_place true e = cc e
    by_place false e = says

-- ---- steps

-- the run goes on from this play
abbrev next : Step → State → Play → State
next step s z = record { play = z; placing = with_line step s.placing }

abbrev outcome : ℕ → Step → State → Play → Option Full → Outcome
outcome number step s z c = elim c [ None ↦ says (play_text number z) (next step s z) | Some f ↦ passes (play_text number z) s ]

goes_on : (said : LineText) (x : Player) (s : State) (number : ℕ) (step : Step) (z : Play) → z.closed ≡ None → said.status ≡ done → said.text ≡ play_text number z → Stands x (next step s z) → SaidBy said x (step_leads number step s z)
goes_on said x s number step z open_ status is stands = subst (λ (c : Option Full). SaidBy said x (outcome number step s z c)) (sym open_) (record { status = status; text = is; stands = λ e. stands })

text_said : (number : ℕ) (z : Play) (out : List Said) → IsSaid out z → output_lines number (texts_or_ok (flat_map said_texts out)) ≡ play_text number z
text_said number z out so =
    ap (λ (xs : List Said). output_lines number (texts_or_ok (flat_map said_texts xs))) so.2
    ∙ ap (λ (r : Option Refusal). output_lines number (refused_or_said r z.said)) (sym so.1)
    ∙ ap (λ (c : Option Full). output_lines number (closed_or_said c z)) (sym so.0)

pub done_says : (said : LineText) (x : Player) (s : State) (number : ℕ) (step : Step) (out : List Said) → is_misplaced step s.placing ≡ false → IsSaid out (apply step s.play) → said.status ≡ done
    → said.text ≡ output_lines number (texts_or_ok (flat_map said_texts out)) → Stands x (next step s (apply step s.play)) → SaidBy said x (step_or_bad number step s)
done_says said x s number step out good so status is stands =
    placed said x s number step good (goes_on said x s number step (apply step s.play) so.0 status (is ∙ text_said number (apply step s.play) out so) stands)

-- ---- steps that aren't done

text_refused : (number : ℕ) (z : Play) (r : Refusal) → IsRefused r z → output_line number (refused r) ≡ play_text number z
text_refused number z r so =
    sym (append-nil (output_line number (refused r)))
    ∙ ap (λ (o : Option Refusal). output_lines number (refused_or_said o z.said)) (sym so.1)
    ∙ ap (λ (c : Option Full). output_lines number (closed_or_said c z)) (sym so.0)

text_full : (number : ℕ) (z : Play) (f : Full) → z.closed ≡ Some f → output_line number (limit_text f) ≡ play_text number z
text_full number z f full = sym (append-nil (output_line number (limit_text f))) ∙ ap (λ (c : Option Full). output_lines number (closed_or_said c z)) (sym full)

refusal_says : (said : LineText) (x : Player) (s : State) (number : ℕ) (step : Step) (z : Play) (r : Refusal) → IsRefused r z → said.status ≡ done → said.text ≡ output_line number (refused r) → Stands x (next step s z)
    → SaidBy said x (step_leads number step s z)
refusal_says said x s number step z r so status is stands = goes_on said x s number step z so.0 status (is ∙ text_refused number z r so) stands

full_says : (said : LineText) (x : Player) (s : State) (number : ℕ) (step : Step) (z : Play) (f : Full) → z.closed ≡ Some f → said.status ≡ past_limit → said.text ≡ output_line number (limit_text f) → SaidBy said x (step_leads number step s z)
full_says said x s number step z f full status is =
    subst (λ (c : Option Full). SaidBy said x (outcome number step s z c)) (sym full) (past_says said x s (play_text number z) status (is ∙ text_full number z f full))

fault_leads : (e : WorldFault) (said : LineText) (x : Player) (s : State) (number : ℕ) (step : Step) (z : Play) → IsFault e z → (is_spent e ≡ true → ⊥) → is_memory e ≡ false → said.status ≡ fault_status e → said.text ≡ fault_line number e
    → (is_refusal e ≡ true → Stands x (next step s z)) → SaidBy said x (step_leads number step s z)
fault_leads NumberTaken said x s number step z so spent memory status is stands = refusal_says said x s number step z Declared so status is (stands refl)
fault_leads ServerMissing said x s number step z so spent memory status is stands = refusal_says said x s number step z NoServer so status is (stands refl)
fault_leads ServerRuns said x s number step z so spent memory status is stands = refusal_says said x s number step z AlreadyRunning so status is (stands refl)
fault_leads (MessageMissing k) said x s number step z so spent memory status is stands = refusal_says said x s number step z (NoMessage k) so status is (stands refl)
fault_leads (MessageGone k) said x s number step z so spent memory status is stands = refusal_says said x s number step z (MessageLost k) so status is (stands refl)
fault_leads MemberMissing said x s number step z so spent memory status is stands = refusal_says said x s number step z NoMember so status is (stands refl)
fault_leads (WireFull messages bytes) said x s number step z so spent memory status is stands = full_says said x s number step z (record { messages = messages; bytes = bytes }) so status is
fault_leads (Spent steps) said x s number step z so spent memory status is stands = absurd (spent refl)
fault_leads Memory said x s number step z so spent memory status is stands = cc memory

pub fault_says : (e : WorldFault) (said : LineText) (x : Player) (s : State) (number : ℕ) (step : Step) → is_misplaced step s.placing ≡ false → IsFault e (apply step s.play) → (is_spent e ≡ true → ⊥) → is_memory e ≡ false
    → said.status ≡ fault_status e → said.text ≡ fault_line number e → (is_refusal e ≡ true → Stands x (next step s (apply step s.play))) → SaidBy said x (step_or_bad number step s)
fault_says e said x s number step good so spent memory status is stands =
    placed said x s number step good (fault_leads e said x s number step (apply step s.play) so spent memory status is stands)
