-- What a run of a script reads, writes and answers.
use Rattle.std.specs.Prelude.{◌≡◌, ◌⊎◌, ℕ, Bool, List, [], ◌++◌, Option, Some}
use Rattle.std.specs.Io.KnownBytes.{prepend_known, append_known}
use Rattle.script_run.specs.Lines.{ended_lines, lines_of}
use Rattle.script_run.specs.Making.{made_play, made_status, made_text}
use Rattle.script_run.specs.Play.{play_of, status_of, text_of, told_of, whole_lines_text}
use Rattle.script_run.specs.Standing.{IsLegalPlay}
use Rattle.script_run.specs.Statuses.{done, read_failed, write_failed, bad_line, no_memory, past_limit}

-- xs begins ys
abbrev pub IsFront : {A : Type 0} → List A → List A → Type 0
IsFront {A} xs ys = (more : List A) × (ys ≡ xs ++ more)

-- a status of a run that neither memory nor source nor sink cut off
abbrev pub IsEnded : ℕ → Type 0
IsEnded status = (status ≡ done) ⊎ (status ≡ bad_line) ⊎ (status ≡ past_limit)

abbrev pub IsCut : ℕ → Type 0
IsCut status = (status ≡ write_failed) ⊎ (status ≡ no_memory)

-- What was read of a script, and what was written, behind a status.
pub record Plays (report : Bool) (script : List ℕ) (left written_old written_new : Option (List ℕ)) (status : ℕ) : Type 0 where
  -- the bytes that were pulled, and those that are left, are the script
  pub pulled : List ℕ
  pub source : Some script ≡ prepend_known pulled left
  -- the text of the whole script, and its status
  pub ended : IsEnded status → (status ≡ status_of script) × (written_new ≡ append_known written_old (text_of report script))
  pub at_end : status ≡ done → left ≡ Some []
  -- the texts of the whole lines that were pulled
  pub read : status ≡ read_failed → written_new ≡ append_known written_old (whole_lines_text pulled)
  -- a front of the text
  pub cut : IsCut status → (text : List ℕ) × (written_new ≡ append_known written_old text) × IsFront text (text_of report script)
  -- the lines that were done are the script's first lines, and what was written is theirs: one legal history of a group
  pub lines : List (List ℕ)
  pub first : IsFront lines (lines_of script)
  pub told : (text : List ℕ) × (written_new ≡ append_known written_old text) × IsFront text (told_of report lines)
  pub all : IsEnded status → lines ≡ lines_of script
  pub whole : status ≡ read_failed → lines ≡ ended_lines pulled
  pub legal : IsLegalPlay (play_of lines)

-- What was written at the end of a script whose lines were all done, of this text.
pub record Concludes (text : List ℕ) (written_old written_new : Option (List ℕ)) (status : ℕ) : Type 0 where
  pub ended : status ≡ done → written_new ≡ append_known written_old text
  pub cut : IsCut status → (front : List ℕ) × (written_new ≡ append_known written_old front) × IsFront front text

-- What was written of a script that is made, behind a status; nothing is read.
pub record Makes (n from : ℕ) (written_old written_new : Option (List ℕ)) (status : ℕ) : Type 0 where
  -- the summary, or the text of the limit that was passed
  pub ended : IsEnded status → (status ≡ made_status n from) × (written_new ≡ append_known written_old (made_text n from))
  pub cut : status ≡ write_failed → (text : List ℕ) × (written_new ≡ append_known written_old text) × IsFront text (made_text n from)
  pub unmade : status ≡ no_memory → written_new ≡ written_old
  -- the lines done are one legal history of a group
  pub legal : (status ≡ no_memory → ⊥) → IsLegalPlay (made_play n from)
