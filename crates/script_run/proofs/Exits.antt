-- How a run ends, and what it has then written.
use Rattle.std.proofs.Common.{◌≡◌, ◌⊎◌, ◌==◌, ◌≤◌, ◌+◌, cond, true, false, Bool, ℕ, List, [], ◌∷◌, ◌++◌, length, take, drop, Option, Some, None, Result, Ok, Err, refl, sym, ap, ◌∙◌, subst, inl, inr, append_assoc, arith}
use Rattle.std.proofs.lemmas.List.{append-nil, take_all, take-append-drop}
use Rattle.std.proofs.lemmas.Bool.Decides.{nat_tests}
use Rattle.std.specs.Result.{is_err}
use Rattle.std.specs.Str.Lines.{strip_carriage_return, lines_of_parts}
use Rattle.std.specs.Io.KnownBytes.{prepend_known, append_known, IsAtEnd}
use Rattle.gr_io.proofs.Known.{append_known-append}
use Rattle.gr_io.specs.Causes.{Rose}
use Rattle.gr_io.specs.Put.{put_bytes, FailsBy, IdlesBy}
use Rattle.gr_io.specs.declared.put.PutFault.{PutFault}
use Rattle.gr_io.specs.declared.put.PutFault.TheVariants.{Failed, TookNothing}
use Rattle.script_run.specs.Lines.{lines_of, ended_lines, ended_parts, feed_at}
use Rattle.script_run.specs.Reading.{IsUnended, IsKind, Reads}
use Rattle.script_run.specs.Statuses.{done, read_failed, write_failed, no_memory}
use Rattle.script_run.specs.Play.{State, Outcome, start, line_step, texts, ends, after, all_texts, play_of, ending, report_line, told_of, text_of, status_of}
use Rattle.script_run.specs.Standing.{IsLegalPlay}
use Rattle.group_rules.specs.Script.{Play}
use Rattle.script_run.specs.Making.{made_play, made_text}
use Rattle.script_run.specs.Run.{IsFront, IsEnded, IsCut, Plays, Concludes, Makes}
use Rattle.script_run.specs.declared.front_line.LineKind.{LineKind}
use Rattle.script_run.specs.declared.front_line.LineKind.TheVariants.{Whole, Last, Long}
use Rattle.script_run.proofs.Parts.{lines_cons, ended_cons, split_front, lines_long, lines_last, ended_none}
use Rattle.script_run.proofs.Steps.{line_step_long, line_step_plain, long_same}
use Rattle.script_run.proofs.Playing.{Goes, Along, Begins, along_pulls, goes_with, one_text, one_state, text_with}

-- what is left of a script that is told
told_rest : (l : Option (List ℕ)) (script pulled : List ℕ) → Some script ≡ prepend_known pulled l → (rest : List ℕ) × (l ≡ Some rest) × (script ≡ pulled ++ rest)
told_rest None script pulled e = cc
told_rest (Some rest) script pulled e = (rest, refl, cc e)

pub begins_at : (held : List ℕ) (len taken : ℕ) (left : Option (List ℕ)) → IsKind Whole len taken held left → Begins held (take len held) (drop taken held)
begins_at held len taken left k = record {
  lines = λ rest. ap lines_parts (split_front held rest k.0) ∙ lines_cons (take (feed_at held) held) (drop (feed_at held + 1) held ++ rest) ∙ same_lines_ rest;
  ended = λ rest. ap ended_parts (split_front held rest k.0) ∙ ended_cons (take (feed_at held) held) (drop (feed_at held + 1) held ++ rest) ∙ same_ended rest;
}
  where
    lines_parts : List (List ℕ) → List (List ℕ)
    lines_parts = lines_of_parts

    same_lines_ : (rest : List ℕ) → strip_carriage_return (take (feed_at held) held) ∷ lines_of (drop (feed_at held + 1) held ++ rest) ≡ take len held ∷ lines_of (drop taken held ++ rest)
    same_lines_ rest = ap (λ (l : List ℕ). l ∷ lines_of (drop (feed_at held + 1) held ++ rest)) (sym k.2) ∙ ap (λ (n : ℕ). take len held ∷ lines_of (drop n held ++ rest)) (sym k.1)

    same_ended : (rest : List ℕ) → strip_carriage_return (take (feed_at held) held) ∷ ended_lines (drop (feed_at held + 1) held ++ rest) ≡ take len held ∷ ended_lines (drop taken held ++ rest)
    same_ended rest = ap (λ (l : List ℕ). l ∷ ended_lines (drop (feed_at held + 1) held ++ rest)) (sym k.2) ∙ ap (λ (n : ℕ). take len held ∷ ended_lines (drop n held ++ rest)) (sym k.1)

-- ---- the first line of what is left, up to what it does

pub record Fronts (s : State) (number : ℕ) (held line rest : List ℕ) : Type 0 where
  pub first : List ℕ
  pub others : List (List ℕ)
  pub lines : lines_of (held ++ rest) ≡ first ∷ others
  pub same : line_step s number first ≡ line_step s number line

at_end_rest : (left : Option (List ℕ)) (rest : List ℕ) → IsAtEnd left → left ≡ Some rest → rest ≡ []
at_end_rest None rest e is = cc is
at_end_rest (Some xs) rest e is = let same : xs ≡ rest = cc is in sym same ∙ e

pub fronts_at : (s : State) (number : ℕ) (kind : LineKind) (len taken : ℕ) (held : List ℕ) (left : Option (List ℕ)) (rest : List ℕ) → IsKind kind len taken held left → left ≡ Some rest → Fronts s number held (take len held) rest
fronts_at s number Whole len taken held left rest k is = record { first = take len held; others = lines_of (drop taken held ++ rest); lines = (begins_at held len taken left k).lines rest; same = refl }
fronts_at s number Last len taken held left rest k is =
    let none = at_end_rest left rest k.3 is in
    record {
      first = held;
      others = [];
      lines = ap (λ (r : List ℕ). lines_of (held ++ r)) none ∙ ap lines_of (append-nil held) ∙ lines_last held k.0 k.2;
      same = ap (line_step s number) (sym (take_all len held (omega (arith, k.1))));
    }
fronts_at s number Long len taken held left rest k is =
    let c = lines_long held rest k.0 (omega (arith, k.2)) in
    record {
      first = c.0;
      others = c.1;
      lines = c.2;
      same = long_same s number c.0 (take len held) (omega (arith, c.3, k.2)) (omega (arith, k.2, ap length (take_all len held (omega (arith, k.1)))));
    }

-- ---- what lines say

-- all that they say stands first in what is written of them
told_front : (report : Bool) (lines : List (List ℕ)) (text more : List ℕ) → all_texts lines ≡ text ++ more → IsFront text (told_of report lines)
unfolding told_of
told_front report lines text more is =
    let behind = ending report (ends start 1 lines) (length lines) (play_of lines) in
    (more ++ behind, ap (λ (t : List ℕ). t ++ behind) is ∙ append_assoc text more behind)

-- and so does what lines say that were done, with what comes behind them
said_front : (report : Bool) {lines : List (List ℕ)} {s : State} {number : ℕ} → Goes lines s number → (all more : List (List ℕ)) (piece rest : List ℕ) → all ≡ lines ++ more → texts s number more ≡ piece ++ rest
    → IsFront (all_texts lines ++ piece) (told_of report all)
said_front report {lines} {s} {number} g all more piece rest is says =
    told_front report all (all_texts lines ++ piece) rest
    (ap all_texts is ∙ g.text more ∙ ap (λ (t : List ℕ). all_texts lines ++ t) says ∙ sym (append_assoc (all_texts lines) piece rest))

whole_front : (report : Bool) {lines : List (List ℕ)} {s : State} {number : ℕ} → Goes lines s number → (all more : List (List ℕ)) → all ≡ lines ++ more → IsFront (all_texts lines) (told_of report all)
whole_front report {lines} {s} {number} g all more is =
    told_front report all (all_texts lines) (texts s number more) (ap all_texts is ∙ g.text more)

-- where a line ended the run there is no report
no_ending : (report : Bool) (status lines : ℕ) (y : State) → (status ≡ 0 → ⊥) → ending report status lines y.play ≡ []
no_ending false status lines y stops = refl
no_ending true status lines y stops = let no : (status == 0) ≡ false = grind (arith, nat_tests) in rw no refl

-- ---- legal

play_at : {lines : List (List ℕ)} {s : State} {number : ℕ} → Goes lines s number → after start 1 lines ≡ s
play_at {lines} g = ap (after start 1) (sym (append-nil lines)) ∙ g.state []

legal_at : {lines : List (List ℕ)} {s : State} {number : ℕ} → Goes lines s number → IsLegalPlay s.play → IsLegalPlay (play_of lines)
legal_at g legal = subst (λ (t : State). IsLegalPlay t.play) (sym (play_at g)) legal

legal_with : {lines : List (List ℕ)} {s : State} {number : ℕ} → Goes lines s number → (line : List ℕ) → IsLegalPlay (line_step s number line).state.play → IsLegalPlay (play_of (lines ++ line ∷ []))
legal_with {lines} {s} {number} g line legal = subst (λ (t : State). IsLegalPlay t.play) (sym (g.state (line ∷ []) ∙ one_state s number line)) legal

-- a line that ends the run leaves what was before
pub legal_after : (s : State) (number : ℕ) (line : List ℕ) → IsLegalPlay s.play → ((line_step s number line).status ≡ 0 → IsLegalPlay (line_step s number line).state.play) → IsLegalPlay (line_step s number line).state.play
legal_after s number line before goes = by_test ((line_step s number line).status == 0) refl
  where
    by_test : (b : Bool) → ((line_step s number line).status == 0) ≡ b → IsLegalPlay (line_step s number line).state.play
    by_test true e = goes (grind (arith, nat_tests))
    by_test false e = subst (λ (x : State). IsLegalPlay x.play) (ap (λ (b : Bool). cond b (line_step s number line).state s) (sym e) ∙ (line_step_plain s number line).stays) before

-- ---- statuses

memory_not_ended : IsEnded no_memory → ⊥
memory_not_ended = elim [ inl e ↦ omega arith | inr e ↦ elim e [ inl e ↦ omega arith | inr e ↦ omega arith ] ]

read_not_ended : IsEnded read_failed → ⊥
read_not_ended = elim [ inl e ↦ omega arith | inr e ↦ elim e [ inl e ↦ omega arith | inr e ↦ omega arith ] ]

write_not_ended : IsEnded write_failed → ⊥
write_not_ended = elim [ inl e ↦ omega arith | inr e ↦ elim e [ inl e ↦ omega arith | inr e ↦ omega arith ] ]

read_not_cut : IsCut read_failed → ⊥
read_not_cut = elim [ inl e ↦ omega arith | inr e ↦ omega arith ]

done_not_cut : IsCut done → ⊥
done_not_cut = elim [ inl e ↦ omega arith | inr e ↦ omega arith ]

pub ended_not : (s t : ℕ) → IsEnded s → s ≡ t → (t ≡ read_failed) ⊎ ((t ≡ write_failed) ⊎ (t ≡ no_memory)) → ⊥
ended_not s t a e b = grind arith

-- ---- ways out

-- memory was refused, at any moment of a turn
pub exit_memory : {report : Bool} {l0 l1 w0 w1 : Option (List ℕ)} {s : State} {number : ℕ} {held : List ℕ} → Along l0 l1 w0 w1 s number held → IsLegalPlay s.play → (script : List ℕ) → l0 ≡ Some script → Plays report script l1 w0 w1 no_memory
exit_memory {report} {l0} {l1} {w0} {w1} {s} {number} {held} a legal script told =
    let t = told_rest l1 script a.pulled (sym told ∙ a.source) in
    let all = ap lines_of t.2 ∙ a.all t.0 in
    record {
      pulled = a.pulled;
      source = sym told ∙ a.source;
      ended = λ e. absurd (memory_not_ended e);
      at_end = λ e. absurd (omega arith);
      read = λ e. absurd (omega arith);
      cut = λ e. (all_texts a.lines, a.sink, whole_front report a.goes (lines_of script) (lines_of (held ++ t.0)) all);
      lines = a.lines;
      first = (lines_of (held ++ t.0), all);
      told = (all_texts a.lines, a.sink, told_front report a.lines (all_texts a.lines) [] (sym (append-nil (all_texts a.lines))));
      all = λ e. absurd (memory_not_ended e);
      whole = λ e. absurd (omega arith);
      legal = legal_at a.goes legal;
    }

-- the source failed
pub exit_read : {report : Bool} {l0 l1 w0 w1 : Option (List ℕ)} {s : State} {number : ℕ} {held : List ℕ} → Along l0 l1 w0 w1 s number held → IsUnended held → IsLegalPlay s.play → (script : List ℕ) → l0 ≡ Some script → Plays report script l1 w0 w1 read_failed
exit_read {report} {l0} {l1} {w0} {w1} {s} {number} {held} a none legal script told =
    let t = told_rest l1 script a.pulled (sym told ∙ a.source) in
    record {
      pulled = a.pulled;
      source = sym told ∙ a.source;
      ended = λ e. absurd (read_not_ended e);
      at_end = λ e. absurd (omega arith);
      read = λ e. a.sink ∙ ap (λ (ls : List (List ℕ)). append_known w0 (all_texts ls)) whole;
      cut = λ e. absurd (read_not_cut e);
      lines = a.lines;
      first = (lines_of (held ++ t.0), ap lines_of t.2 ∙ a.all t.0);
      told = (all_texts a.lines, a.sink, told_front report a.lines (all_texts a.lines) [] (sym (append-nil (all_texts a.lines))));
      all = λ e. absurd (read_not_ended e);
      whole = λ e. whole;
      legal = legal_at a.goes legal;
    }
  where
    whole : a.lines ≡ ended_lines a.pulled
    whole = sym (ap ended_lines (sym (append-nil a.pulled)) ∙ a.whole [] ∙ ap (λ (h : List ℕ). a.lines ++ ended_lines h) (append-nil held)
        ∙ ap (λ (ls : List (List ℕ)). a.lines ++ ls) (ended_none held none) ∙ append-nil a.lines)

-- what the first line says, cut off, and what comes behind it
piece_front : (piece more : List ℕ) (n : ℕ) → piece ++ more ≡ take n piece ++ (drop n piece ++ more)
piece_front piece more n = ap (λ (p : List ℕ). p ++ more) (sym (take-append-drop n piece)) ∙ append_assoc (take n piece) (drop n piece) more

-- the sink failed, or took nothing
pub exit_write : {report : Bool} {l0 l1 w0 w1 w2 : Option (List ℕ)} {s : State} {number : ℕ} {held : List ℕ} (kind : LineKind) (len taken put : ℕ) → Along l0 l1 w0 w1 s number held → IsKind kind len taken held l1
    → w2 ≡ append_known w1 (take put (line_step s number (take len held)).text) → IsLegalPlay (line_step s number (take len held)).state.play → (script : List ℕ) → l0 ≡ Some script → Plays report script l1 w0 w2 write_failed
exit_write {report} {l0} {l1} {w0} {w1} {w2} {s} {number} {held} kind len taken put a k written legal script told =
    let t = told_rest l1 script a.pulled (sym told ∙ a.source) in
    let f = fronts_at s number kind len taken held l1 t.0 k t.1 in
    let d = line_step s number (take len held) in
    let more = cond (d.status == 0) (texts d.state (number + 1) f.others) [] in
    let all : lines_of script ≡ a.lines ++ f.first ∷ f.others = ap lines_of t.2 ∙ a.all t.0 ∙ ap (λ (ls : List (List ℕ)). a.lines ++ ls) f.lines in
    let sink : w2 ≡ append_known w0 (all_texts a.lines ++ take put d.text) = written ∙ ap (λ (w : Option (List ℕ)). append_known w (take put d.text)) a.sink ∙ append_known-append w0 (all_texts a.lines) (take put d.text) in
    let says : texts s number (f.first ∷ f.others) ≡ d.text ++ more = ap (λ (o : Outcome). o.text ++ cond (o.status == 0) (texts o.state (number + 1) f.others) []) f.same in
    record {
      pulled = a.pulled;
      source = sym told ∙ a.source;
      ended = λ e. absurd (write_not_ended e);
      at_end = λ e. absurd (omega arith);
      read = λ e. absurd (omega arith);
      cut = λ e. (all_texts a.lines ++ take put d.text, sink, said_front report a.goes (lines_of script) (f.first ∷ f.others) (take put d.text) (drop put d.text ++ more) all (says ∙ piece_front d.text more put));
      lines = a.lines ++ f.first ∷ [];
      first = (f.others, all ∙ sym (append_assoc a.lines (f.first ∷ []) f.others));
      told = (
        all_texts a.lines ++ take put d.text,
        sink,
        said_front report a.goes (a.lines ++ f.first ∷ []) (f.first ∷ []) (take put d.text) (drop put d.text) refl
            (one_text s number f.first ∙ ap (λ (o : Outcome). o.text) f.same ∙ sym (take-append-drop put d.text)),
      );
      all = λ e. absurd (write_not_ended e);
      whole = λ e. absurd (omega arith);
      legal = legal_with a.goes f.first (subst (λ (o : Outcome). IsLegalPlay o.state.play) (sym f.same) legal);
    }

-- a line ended the run
pub exit_stop : {report : Bool} {l0 l1 w0 w1 w2 : Option (List ℕ)} {s : State} {number : ℕ} {held : List ℕ} (kind : LineKind) (len taken status : ℕ) → Along l0 l1 w0 w1 s number held → IsKind kind len taken held l1
    → status ≡ (line_step s number (take len held)).status → (status ≡ 0 → ⊥) → IsEnded status
    → w2 ≡ append_known w1 (line_step s number (take len held)).text → IsLegalPlay s.play → (script : List ℕ) → l0 ≡ Some script → Plays report script l1 w0 w2 status
unfolding told_of status_of
exit_stop {report} {l0} {l1} {w0} {w1} {w2} {s} {number} {held} kind len taken status a k is stops ended written legal script told =
    let t = told_rest l1 script a.pulled (sym told ∙ a.source) in
    let f = fronts_at s number kind len taken held l1 t.0 k t.1 in
    let d = line_step s number (take len held) in
    let no : (d.status == 0) ≡ false = grind (arith, nat_tests) in
    let all : lines_of script ≡ a.lines ++ f.first ∷ f.others = ap lines_of t.2 ∙ a.all t.0 ∙ ap (λ (ls : List (List ℕ)). a.lines ++ ls) f.lines in
    let ends_so : ends start 1 (lines_of script) ≡ status =
    ap (ends start 1) all ∙ a.goes.status (f.first ∷ f.others) ∙ ap (λ (o : Outcome). cond (o.status == 0) (ends o.state (number + 1) f.others) o.status) f.same
    ∙ ap (λ (b : Bool). cond b (ends d.state (number + 1) f.others) d.status) no ∙ sym is in
    let leaves : after start 1 (lines_of script) ≡ s =
    ap (after start 1) all ∙ a.goes.state (f.first ∷ f.others) ∙ ap (λ (o : Outcome). cond (o.status == 0) (after o.state (number + 1) f.others) s) f.same
    ∙ ap (λ (b : Bool). cond b (after d.state (number + 1) f.others) s) no in
    let says : all_texts (lines_of script) ≡ all_texts a.lines ++ d.text =
    ap all_texts all ∙ a.goes.text (f.first ∷ f.others) ∙ ap (λ (o : Outcome). all_texts a.lines ++ (o.text ++ cond (o.status == 0) (texts o.state (number + 1) f.others) [])) f.same
    ∙ ap (λ (b : Bool). all_texts a.lines ++ (d.text ++ cond b (texts d.state (number + 1) f.others) [])) no ∙ ap (λ (x : List ℕ). all_texts a.lines ++ x) (append-nil d.text) in
    let nothing : ending report (ends start 1 (lines_of script)) (length (lines_of script)) (play_of (lines_of script)) ≡ [] =
    no_ending report (ends start 1 (lines_of script)) (length (lines_of script)) (after start 1 (lines_of script)) (λ e. stops (sym ends_so ∙ e)) in
    let text : text_of report script ≡ all_texts a.lines ++ d.text = ap (λ (x : List ℕ). all_texts (lines_of script) ++ x) nothing ∙ append-nil (all_texts (lines_of script)) ∙ says in
    let sink : w2 ≡ append_known w0 (text_of report script) =
    written ∙ ap (λ (w : Option (List ℕ)). append_known w d.text) a.sink ∙ append_known-append w0 (all_texts a.lines) d.text ∙ ap (append_known w0) (sym text) in
    record {
      pulled = a.pulled;
      source = sym told ∙ a.source;
      ended = λ e. (sym ends_so, sink);
      at_end = λ e. absurd (stops e);
      read = λ e. absurd (ended_not status read_failed ended e (inl refl));
      cut = elim [ inl e ↦ absurd (ended_not status write_failed ended e (inr (inl refl))) | inr e ↦ absurd (ended_not status no_memory ended e (inr (inr refl))) ];
      lines = lines_of script;
      first = ([], sym (append-nil (lines_of script)));
      told = (text_of report script, sink, ([], sym (append-nil (text_of report script))));
      all = λ e. refl;
      whole = λ e. absurd (ended_not status read_failed ended e (inl refl));
      legal = subst (λ (x : State). IsLegalPlay x.play) (sym leaves) legal;
    }

-- ---- the end of the script

-- Each line of the script was done.
pub record AllDone (l1 w0 w1 : Option (List ℕ)) (script : List ℕ) (s : State) (number : ℕ) : Type 0 where
  pub pulled : List ℕ
  pub source : Some script ≡ prepend_known pulled l1
  pub left : l1 ≡ Some []
  pub sink : w1 ≡ append_known w0 (all_texts (lines_of script))
  pub goes : Goes (lines_of script) s number

-- nothing was left
pub all_done : {l0 l1 w0 w1 : Option (List ℕ)} {s : State} {number : ℕ} {held : List ℕ} → Along l0 l1 w0 w1 s number held → held ≡ [] → IsAtEnd l1 → (script : List ℕ) → l0 ≡ Some script → AllDone l1 w0 w1 script s number
all_done {l0} {l1} {w0} {w1} {s} {number} {held} a empty end script told =
    let t = told_rest l1 script a.pulled (sym told ∙ a.source) in
    let none = at_end_rest l1 t.0 end t.1 in
    let nothing : held ++ t.0 ≡ [] = ap (λ (h : List ℕ). h ++ t.0) empty ∙ none in
    let all : lines_of script ≡ a.lines = ap lines_of t.2 ∙ a.all t.0 ∙ ap (λ (b : List ℕ). a.lines ++ lines_of b) nothing ∙ append-nil a.lines in
    record {
      pulled = a.pulled;
      source = sym told ∙ a.source;
      left = t.1 ∙ ap Some none;
      sink = a.sink ∙ ap (λ (ls : List (List ℕ)). append_known w0 (all_texts ls)) (sym all);
      goes = subst (λ (ls : List (List ℕ)). Goes ls s number) (sym all) a.goes;
    }

-- the last line, which lacks its end, was done
pub last_done : {l0 l1 w0 w1 w2 : Option (List ℕ)} {s : State} {number : ℕ} {held : List ℕ} (kind : LineKind) (len taken : ℕ) → (kind ≡ Whole → ⊥) → Along l0 l1 w0 w1 s number held → IsKind kind len taken held l1
    → (line_step s number (take len held)).status ≡ 0 → w2 ≡ append_known w1 (line_step s number (take len held)).text
    → (script : List ℕ) → l0 ≡ Some script → AllDone l1 w0 w2 script (line_step s number (take len held)).state (number + 1)
last_done Whole len taken not_whole a k goes written script told = absurd (not_whole refl)
last_done {s = s} {number = number} {held = held} Long len taken not_whole a k goes written script told =
    absurd (line_step_long s number (take len held) (omega (arith, k.2, ap length (take_all len held (omega (arith, k.1))))) goes)
last_done {l0} {l1} {w0} {w1} {w2} {s} {number} {held} Last len taken not_whole a k goes written script told =
    let t = told_rest l1 script a.pulled (sym told ∙ a.source) in
    let none = at_end_rest l1 t.0 k.3 t.1 in
    let line = take len held in
    let whole : line ≡ held = take_all len held (omega (arith, k.1)) in
    let all : lines_of script ≡ a.lines ++ line ∷ [] =
    ap lines_of t.2 ∙ a.all t.0 ∙ ap (λ (r : List ℕ). a.lines ++ lines_of (held ++ r)) none ∙ ap (λ (h : List ℕ). a.lines ++ lines_of h) (append-nil held)
    ∙ ap (λ (ls : List (List ℕ)). a.lines ++ ls) (lines_last held k.0 k.2) ∙ ap (λ (l : List ℕ). a.lines ++ l ∷ []) (sym whole) in
    let d = line_step s number line in
    record {
      pulled = a.pulled;
      source = sym told ∙ a.source;
      left = t.1 ∙ ap Some none;
      sink = written ∙ ap (λ (w : Option (List ℕ)). append_known w d.text) a.sink ∙ append_known-append w0 (all_texts a.lines) d.text
          ∙ ap (append_known w0) (sym (text_with a.goes line) ∙ sym (ap all_texts all));
      goes = subst (λ (ls : List (List ℕ)). Goes ls d.state (number + 1)) (sym all) (goes_with a.goes line goes);
    }

-- the report came behind it, where it was asked for
pub exit_done : {report : Bool} {l1 w0 w1 w2 : Option (List ℕ)} {script : List ℕ} {s : State} {number : ℕ} (lines status : ℕ) → AllDone l1 w0 w1 script s number → lines + 1 ≡ number
    → Concludes (ending report done lines s.play) w1 w2 status → (status ≡ done) ⊎ (status ≡ write_failed) ⊎ (status ≡ no_memory) → IsLegalPlay s.play → Plays report script l1 w0 w2 status
unfolding told_of status_of
exit_done {report} {l1} {w0} {w1} {w2} {script} {s} {number} lines status a counts c known legal =
    let behind = ending report done lines s.play in
    let ls = lines_of script in
    let ends_so : ends start 1 ls ≡ done = ap (ends start 1) (sym (append-nil ls)) ∙ a.goes.status [] in
    let count : length ls ≡ lines = omega (arith, a.goes.counted, counts) in
    let text : text_of report script ≡ all_texts ls ++ behind =
    ap (λ (k : ℕ). all_texts ls ++ ending report k (length ls) (play_of ls)) ends_so ∙ ap (λ (n : ℕ). all_texts ls ++ ending report done n (play_of ls)) count
    ∙ ap (λ (x : State). all_texts ls ++ ending report done lines x.play) (play_at a.goes) in
    let sink : (piece : List ℕ) → w2 ≡ append_known w1 piece → w2 ≡ append_known w0 (all_texts ls ++ piece) =
    λ piece e. e ∙ ap (λ (w : Option (List ℕ)). append_known w piece) a.sink ∙ append_known-append w0 (all_texts ls) piece in
    let fronts : (piece : List ℕ) → IsFront piece behind → IsFront (all_texts ls ++ piece) (text_of report script) =
    λ piece f. (f.0, text ∙ ap (λ (x : List ℕ). all_texts ls ++ x) f.1 ∙ sym (append_assoc (all_texts ls) piece f.0)) in
    record {
      pulled = a.pulled;
      source = a.source;
      ended = λ e. let is = ended_done status e known in (is ∙ sym ends_so, sink behind (c.ended is) ∙ ap (append_known w0) (sym text));
      at_end = λ e. a.left;
      read = λ e. absurd (known_not_read status e known);
      cut = λ e. let f = c.cut e in (all_texts ls ++ f.0, sink f.0 f.1, fronts f.0 f.2);
      lines = ls;
      first = ([], sym (append-nil ls));
      told = elim known [
        | inl e ↦ (all_texts ls ++ behind, sink behind (c.ended e), fronts behind ([], sym (append-nil behind)))
        | inr e ↦ let f = c.cut e in (all_texts ls ++ f.0, sink f.0 f.1, fronts f.0 f.2)
      ];
      all = λ e. refl;
      whole = λ e. absurd (known_not_read status e known);
      legal = legal_at a.goes legal;
    }
  where
    ended_done : (status : ℕ) → IsEnded status → (status ≡ done) ⊎ (status ≡ write_failed) ⊎ (status ≡ no_memory) → status ≡ done
    ended_done status e known = grind arith

    known_not_read : (status : ℕ) → status ≡ read_failed → (status ≡ done) ⊎ (status ≡ write_failed) ⊎ (status ≡ no_memory) → ⊥
    known_not_read status e known = grind arith

-- what the reader pulled is held
pub along_find : {l0 l1 l2 w0 w1 : Option (List ℕ)} {s : State} {number : ℕ} {h1 h2 : List ℕ} → Along l0 l1 w0 w1 s number h1 → Reads l1 l2 h1 h2 → Along l0 l2 w0 w1 s number h2
along_find a r = along_pulls r.piece a r.source r.held

-- a put that stopped wrote a front of its bytes
pub put_cut : {T : Type 0} (result : Result T PutFault) (bytes : List ℕ) → is_err result ≡ true → (taken : ℕ) × (put_bytes result bytes ≡ take taken bytes)
put_cut (Ok x) bytes e = cc e
put_cut (Err (Failed taken)) bytes e = (taken, refl)
put_cut (Err (TookNothing taken)) bytes e = (taken, refl)

pub put_whole : {T : Type 0} (result : Result T PutFault) (bytes : List ℕ) → is_err result ≡ false → put_bytes result bytes ≡ bytes
put_whole (Ok x) bytes e = refl
put_whole (Err (Failed taken)) bytes e = cc e
put_whole (Err (TookNothing taken)) bytes e = cc e

pub with_status : {report : Bool} {script : List ℕ} {left w0 w1 : Option (List ℕ)} (s t : ℕ) → s ≡ t → Plays report script left w0 w1 t → Plays report script left w0 w1 s
with_status {report} {script} {left} {w0} {w1} s t e p = subst (λ (n : ℕ). Plays report script left w0 w1 n) (sym e) p

pub along_held : {l0 l1 w0 w1 : Option (List ℕ)} {s : State} {number : ℕ} {held held2 : List ℕ} → Along l0 l1 w0 w1 s number held → held ≡ held2 → Along l0 l1 w0 w1 s number held2
along_held {l0} {l1} {w0} {w1} {s} {number} a e = subst (λ (h : List ℕ). Along l0 l1 w0 w1 s number h) e a

-- a put that went through counted no fault
pub put_no_fault : {T : Type 0} (result : Result T PutFault) (before now : ℕ) → is_err result ≡ false → FailsBy result before now → before ≤ now
put_no_fault (Ok x) before now e h = h
put_no_fault (Err (Failed taken)) before now e h = cc e
put_no_fault (Err (TookNothing taken)) before now e h = cc e

pub put_no_idle : {T : Type 0} (result : Result T PutFault) (before now : ℕ) → is_err result ≡ false → IdlesBy result before now → now ≡ before
put_no_idle (Ok x) before now e h = h
put_no_idle (Err (Failed taken)) before now e h = cc e
put_no_idle (Err (TookNothing taken)) before now e h = cc e

-- where nothing failed, the run ended by itself, or for want of memory
pub complete_of : {report : Bool} {script : List ℕ} {left w0 w1 : Option (List ℕ)} {A B C : Type 0} (result : ℕ) → Plays report script left w0 w1 result → (result ≡ read_failed → A) → (result ≡ write_failed → B ⊎ C)
    → IsEnded result ⊎ (result ≡ read_failed) ⊎ (result ≡ write_failed) ⊎ (result ≡ no_memory) → (A → ⊥) → (B → ⊥) → (C → ⊥)
    → (result ≡ no_memory) ⊎ ((result ≡ status_of script) × (w1 ≡ append_known w0 (text_of report script)))
complete_of result p read write (inl ended) a b c = inr (p.ended ended)
complete_of result p read write (inr (inl r)) a b c = absurd (a (read r))
complete_of result p read write (inr (inr (inl w))) a b c = absurd (elim (write w) [ inl x ↦ b x | inr x ↦ c x ])
complete_of result p read write (inr (inr (inr m))) a b c = inl m

-- the report was cut off
pub cut_report : (report : Bool) (lines : ℕ) (y : Play) (text : List ℕ) (w0 w1 : Option (List ℕ)) (put status : ℕ) → report ≡ true → text ≡ report_line lines y → w1 ≡ append_known w0 (take put text) → status ≡ write_failed
    → Concludes (ending report done lines y) w0 w1 status
cut_report true lines y text w0 w1 put status on is written failed = record {
  ended = λ e. absurd (omega arith);
  cut = λ e. (take put text, written, (drop put text, sym is ∙ sym (take-append-drop put text)));
}
cut_report false lines y text w0 w1 put status on is written failed = cc on

-- and so was the summary
pub cut_summary : (n from : ℕ) (text : List ℕ) (w0 w1 : Option (List ℕ)) (put status : ℕ) → text ≡ made_text n from → w1 ≡ append_known w0 (take put text) → status ≡ write_failed → IsLegalPlay (made_play n from) → Makes n from w0 w1 status
cut_summary n from text w0 w1 put status is written failed legal = record {
  ended = λ e. absurd (ended_not status write_failed e failed (inr (inl refl)));
  cut = λ e. (take put text, written, (drop put text, sym is ∙ sym (take-append-drop put text)));
  unmade = λ e. absurd (omega arith);
  legal = λ e. legal;
}

-- a count that rose later rose
pub write_from : (a b d x y z : ℕ) → a ≤ b → x ≡ y → Rose b d ⊎ Rose y z → Rose a d ⊎ Rose x z
write_from a b d x y z early same (inl r) = inl (omega (arith, r))
write_from a b d x y z early same (inr r) = inr (omega (arith, r))

pub with_report : {r q : Bool} {script : List ℕ} {left w0 w1 : Option (List ℕ)} {status : ℕ} → r ≡ q → Plays r script left w0 w1 status → Plays q script left w0 w1 status
with_report {script = script} {left = left} {w0 = w0} {w1 = w1} {status = status} e p = subst (λ (b : Bool). Plays b script left w0 w1 status) e p
