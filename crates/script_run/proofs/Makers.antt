-- How a script that is made goes on and ends.
use Rattle.std.proofs.Common.{◌≡◌, ◌+◌, false, ℕ, zero, suc, List, [], ◌∷◌, ◌++◌, length, Option, Some, None, refl, sym, ap, ◌∙◌, subst, arith}
use Rattle.std.proofs.lemmas.List.{length-append}
use Rattle.group_rules.specs.Script.{Full, Play}
use Rattle.group_rules.specs.Texts.{limit_text}
use Rattle.report_text.specs.declared.summary.Verdict.{Verdict}
use Rattle.report_text.specs.Faults.{fault_line}
use Rattle.report_text.specs.Lines.{output_line}
use Rattle.report_text.specs.Reporting.{report_of}
use Rattle.report_text.specs.Summaries.{summary, verdicts}
use Rattle.report_text.specs.declared.fault.WorldFault.{WorldFault}
use Rattle.report_text.specs.declared.fault.WorldFault.TheVariants.{Declared, NoServer, AlreadyRunning, NoMessage, MessageLost, NoMember, WireFull, Spent, Memory}
use Rattle.script_text.specs.declared.line.Line.{Line}
use Rattle.script_text.specs.Make.{lines_up_to, made}
use Rattle.script_run.specs.Making.{Ending, Passes, ending_of, ending_play, ending_status, ending_text, step_play, step_said}
use Rattle.script_run.specs.Standing.{IsLegalPlay, IsMadeFault, fault_status, is_memory}
use Rattle.script_run.specs.Statuses.{done, past_limit}
use Rattle.script_run.specs.declared.line_text.LineText.{LineText}

pub ending_goes : (y : Play) (vs : List Verdict) (l : Line) (ls : List Line) → (step_play l.step y).closed ≡ None → ending_of y vs (l ∷ ls) ≡ ending_of (step_play l.step y) (vs ++ verdicts (step_said l.step (step_play l.step y))) ls
ending_goes y vs l ls goes =
    ap (λ (c : Option Full). elim c [ Some f ↦ Passes l.number f y | None ↦ ending_of (step_play l.step y) (vs ++ verdicts (step_said l.step (step_play l.step y))) ls ]) goes

pub ending_stops : (y : Play) (vs : List Verdict) (l : Line) (ls : List Line) (f : Full) → (step_play l.step y).closed ≡ Some f → ending_of y vs (l ∷ ls) ≡ Passes l.number f y
ending_stops y vs l ls f stops =
    ap (λ (c : Option Full). elim c [ Some f ↦ Passes l.number f y | None ↦ ending_of (step_play l.step y) (vs ++ verdicts (step_said l.step (step_play l.step y))) ls ]) stops

-- which limit was passed, and its text
pub full_of : (e : WorldFault) (z : Play) → IsMadeFault e z → is_memory e ≡ false → (f : Full) × (z.closed ≡ Some f) × (fault_status e ≡ past_limit) × ((number : ℕ) → fault_line number e ≡ output_line number (limit_text f))
full_of (WireFull messages bytes) z so memory = (record { messages = messages; bytes = bytes }, so, refl, λ number. refl)
full_of Memory z so memory = cc memory
full_of Declared z so memory = absurd so
full_of NoServer z so memory = absurd so
full_of AlreadyRunning z so memory = absurd so
full_of (NoMessage k) z so memory = absurd so
full_of (MessageLost k) z so memory = absurd so
full_of NoMember z so memory = absurd so
full_of (Spent steps) z so memory = absurd so

-- ---- how many lines there are

lines_length : (from n : ℕ) → length (lines_up_to from n) ≡ n + 1
lines_length from zero = refl
lines_length from (suc i) = length-append (lines_up_to from i) _ ∙ omega (arith, lines_length from i)

pub made_length : (n from : ℕ) → length (made n from) ≡ n + 2
unfolding made
made_length n from = length-append (lines_up_to from n) _ ∙ omega (arith, lines_length from n)

-- ---- what is said at the end

-- of such an ending
abbrev pub Ends : ℕ → LineText → Ending → Type 0
Ends lines said e = (said.status ≡ ending_status e) × (said.text ≡ ending_text lines e) × IsLegalPlay (ending_play e)

pub ends_full : (lines number : ℕ) (said : LineText) (e : WorldFault) (z y : Play) (w : Ending) → IsMadeFault e z → IsLegalPlay y → ((f : Full) → z.closed ≡ Some f → w ≡ Passes number f y)
    → said.status ≡ fault_status e → said.text ≡ fault_line number e → is_memory e ≡ false → Ends lines said w
ends_full lines number said e z y w so legal ends status text memory =
    let f = full_of e z so memory in
    subst (λ (x : Ending). Ends lines said x) (sym (ends f.0 f.1)) (status ∙ f.2, text ∙ f.3 number, legal)

pub ends_whole : (lines : ℕ) (said : LineText) (y : Play) (vs : List Verdict) (rest : List Line) (w : Ending) → length rest ≡ 0 → ending_of y vs rest ≡ w → IsLegalPlay y → said.status ≡ done → said.text ≡ summary vs (report_of lines y) → Ends lines said w
ends_whole lines said y vs [] w none ends legal status text = subst (λ (x : Ending). Ends lines said x) ends (status, text, legal)
ends_whole lines said y vs (l ∷ ls) w none ends legal status text = absurd (omega arith)
