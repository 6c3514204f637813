-- The reader's steps.
use Rattle.std.proofs.Common.{◌≡◌, ℕ, List, [], ◌++◌, length, Option, sym, ap, ◌∙◌, append_assoc}
use Rattle.std.proofs.Common.{◌+◌, ◌<◌, ◌≤◌, ◌==◌, not, take, arith, subst}
use Rattle.std.proofs.lemmas.List.{append-nil}
use Rattle.std.proofs.lemmas.List.Sums.{prefix_len-le-length}
use Rattle.std.specs.Str.Lines.{strip_carriage_return}
use Rattle.script_run.specs.Lines.{feed_at}
use Rattle.script_run.specs.Reading.{Reads}
use Rattle.std.specs.Io.KnownBytes.{prepend_known}
use Rattle.gr_io.proofs.Known.{prepend_known-prepend, prepend_known-nil}

pub reads_none : (left : Option (List ℕ)) (held : List ℕ) → Reads left left held held
reads_none left held = record { piece = []; source = sym (prepend_known-nil left); held = sym (append-nil held) }

pub reads_more : (l0 l1 l2 : Option (List ℕ)) (h0 h1 h2 x : List ℕ) → Reads l0 l1 h0 h1 → l1 ≡ prepend_known x l2 → h2 ≡ h1 ++ x → Reads l0 l2 h0 h2
reads_more l0 l1 l2 h0 h1 h2 x before source held = record {
  piece = before.piece ++ x;
  source = before.source ∙ ap (prepend_known before.piece) source ∙ prepend_known-prepend l2 before.piece x;
  held = held ∙ ap (λ (h : List ℕ). h ++ x) before.held ∙ append_assoc h0 before.piece x;
}

pub feed_within : (bytes : List ℕ) → feed_at bytes ≤ length bytes
feed_within bytes = prefix_len-le-length (λ b. not (b == 10)) bytes

-- no LF was found
pub unended_at : (lent held : List ℕ) (at : ℕ) → lent ≡ held → at ≡ feed_at lent → length lent ≤ at → feed_at held ≡ length held
unended_at lent held at same found past =
    let there : feed_at lent ≡ length lent = omega (arith, feed_within lent) in
    subst (λ (h : List ℕ). feed_at h ≡ length h) same there

-- an LF was found
pub line_at : (lent held : List ℕ) (at len : ℕ) → lent ≡ held → at ≡ feed_at lent → at < length lent → len ≤ at → take len lent ≡ strip_carriage_return (take at lent)
    → (len ≤ length held) × (at + 1 ≤ length held) × ((feed_at held < length held) × (at + 1 ≡ feed_at held + 1) × (take len held ≡ strip_carriage_return (take (feed_at held) held)))
line_at lent held at len same found within short line =
    subst (λ (h : List ℕ). (len ≤ length h) × (at + 1 ≤ length h) × ((feed_at h < length h) × (at + 1 ≡ feed_at h + 1) × (take len h ≡ strip_carriage_return (take (feed_at h) h)))) same
    (omega arith, omega arith, (omega arith, omega arith, line ∙ ap (λ (n : ℕ). strip_carriage_return (take n lent)) found))

pub unended_same : (old new : List ℕ) → new ≡ old → feed_at old ≡ length old → feed_at new ≡ length new
unended_same old new same none = subst (λ (h : List ℕ). feed_at h ≡ length h) (sym same) none
