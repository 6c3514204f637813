-- The two sides of the forms of names.
use Rattle.std.proofs.Common.{◌≡◌, ◌∙◌, ℕ, ◌≤◌, ◌<◌, List, ◌++◌, Option, Some, None, true, refl, arith}
use Rattle.byte_forms.specs.Numbers.{number}
use Rattle.byte_forms.specs.Reads.{Reader, ◌>>=◌, pure}
use Rattle.byte_forms.specs.Forms.{IsForm}
use Rattle.byte_forms.specs.Fields.{number_in, word}
use Rattle.byte_forms.proofs.FormLemmas.{word_form, number_form, step, ends, glue, reads_on, reads_last}
use Rattle.gr_ids.specs.declared.names.Inc.{Inc}
use Rattle.gr_ids.specs.declared.names.Ballot.{Ballot}
use Rattle.std.proofs.lemmas.Bool.Decides.{nat_tests}
use Rattle.gr_ids.specs.Names.{inc_lt}
use Rattle.name_forms.specs.Incs.{IsInc, IsIncAfter, inc_bytes, next_inc, next_inc_after, last_start, least_server, least_start}
use Rattle.name_forms.specs.Ids.{IsId, id_bytes, next_id, last_u64}
use Rattle.name_forms.specs.Gtids.{IsGtid, gtid_bytes, next_gtid, last_gtid_number}
use Rattle.name_forms.specs.Ballots.{IsBallot, ballot_bytes, next_ballot, last_round}

pub inc_form : IsForm IsInc inc_bytes next_inc
unfolding next_inc
inc_form = record {
  reads = λ x rest fits. reads_on (number_form 1 1 32 (omega arith)) _ x.server (number 4 x.start) rest (fits.server_above, fits.server_below, omega (arith, fits.server_below))
      ∙ reads_last (number_form 4 1 last_start (omega arith)) _ x.start rest (fits.start_above, fits.start_below, omega (arith, fits.start_below));
  spells = λ bytes rest x e.
      (let a = step (number_form 1 1 32 (omega arith)) _ bytes rest x e in
      let b = step (number_form 4 1 last_start (omega arith)) _ a.behind rest x a.then_reads in
      ends (λ y more. IsInc y × (bytes ≡ inc_bytes y ++ more)) _ x b.behind rest b.then_reads
      (record { server_above = a.fits.0; server_below = a.fits.1; start_above = b.fits.0; start_below = b.fits.1 }, glue _ _ _ _ _ a.parts b.parts));
}

-- ---- above the one before

server_above : (b i : Inc) → 1 ≤ i.server → i.start ≤ last_start → inc_lt b i ≡ true → least_server (Some b) ≤ i.server
server_above b i pos small h = grind (arith, nat_tests)

start_above : (b i : Inc) → 1 ≤ i.start → inc_lt b i ≡ true → least_start (Some b) i.server ≤ i.start
start_above b i pos h = grind (arith, nat_tests)

is_above : (b : Inc) (server start : ℕ) → least_server (Some b) ≤ server → least_start (Some b) server ≤ start → inc_lt b (record { server = server; start = start }) ≡ true
is_above b server start h k = grind (arith, nat_tests)

is_positive : (b : Inc) (server start : ℕ) → least_server (Some b) ≤ server → least_start (Some b) server ≤ start → (1 ≤ server) × (1 ≤ start)
is_positive b server start h k = (grind (arith, nat_tests), grind (arith, nat_tests))

inc_above_form : (b : Inc) → IsForm (IsIncAfter (Some b)) inc_bytes (next_inc_after (Some b))
unfolding next_inc_after
inc_above_form b = record {
  reads = λ x rest fits.
      (reads_on (number_form 1 (least_server (Some b)) 32 (omega arith)) _ x.server (number 4 x.start) rest (server_above b x fits.0.server_above fits.0.start_below fits.1, fits.0.server_below, omega (arith, fits.0.server_below))
      ∙ reads_last (number_form 4 (least_start (Some b) x.server) last_start (omega arith)) _ x.start rest (start_above b x fits.0.start_above fits.1, fits.0.start_below, omega (arith, fits.0.start_below)));
  spells = λ bytes rest x e.
      (let s = step (number_form 1 (least_server (Some b)) 32 (omega arith)) _ bytes rest x e in
      let t = step (number_form 4 (least_start (Some b) s.first) last_start (omega arith)) _ s.behind rest x s.then_reads in
      let pos = is_positive b s.first t.first s.fits.0 t.fits.0 in
      ends (λ y more. IsIncAfter (Some b) y × (bytes ≡ inc_bytes y ++ more)) _ x t.behind rest t.then_reads
      ((record { server_above = pos.0; server_below = s.fits.1; start_above = pos.1; start_below = t.fits.1 }, is_above b s.first t.first s.fits.0 t.fits.0), glue _ _ _ _ _ s.parts t.parts));
}

pub inc_after_form : (before : Option Inc) → IsForm (IsIncAfter before) inc_bytes (next_inc_after before)
unfolding next_inc next_inc_after
inc_after_form None = inc_form
inc_after_form (Some b) = inc_above_form b

-- ---- ballots, identities, GTIDs

pub ballot_form : IsForm IsBallot ballot_bytes next_ballot
unfolding next_ballot
ballot_form = record {
  reads = λ x rest fits. reads_on (number_form 4 1 last_round (omega arith)) _ x.round (inc_bytes x.inc) rest (fits.round_above, fits.round_below, omega (arith, fits.round_below))
      ∙ reads_last inc_form _ x.inc rest fits.inc;
  spells = λ bytes rest x e.
      (let a = step (number_form 4 1 last_round (omega arith)) _ bytes rest x e in
      let b = step inc_form _ a.behind rest x a.then_reads in
      ends (λ y more. IsBallot y × (bytes ≡ ballot_bytes y ++ more)) _ x b.behind rest b.then_reads
      (record { round_above = a.fits.0; round_below = a.fits.1; inc = b.fits }, glue _ _ _ _ _ a.parts b.parts));
}

pub id_form : IsForm IsId id_bytes next_id
unfolding next_id
id_form = record {
  reads = λ x rest fits.
      (reads_on inc_form _ x.origin (number 8 x.number) rest fits.origin
      ∙ reads_last (number_form 8 0 last_u64 (omega arith)) _ x.number rest (omega arith, fits.number_below, omega (arith, fits.number_below)));
  spells = λ bytes rest x e.
      (let a = step inc_form _ bytes rest x e in
      let b = step (number_form 8 0 last_u64 (omega arith)) _ a.behind rest x a.then_reads in
      ends (λ y more. IsId y × (bytes ≡ id_bytes y ++ more)) _ x b.behind rest b.then_reads
      (record { origin = a.fits; number_below = b.fits.1 }, glue _ _ _ _ _ a.parts b.parts));
}

pub gtid_form : IsForm IsGtid gtid_bytes next_gtid
unfolding next_gtid
gtid_form = record {
  reads = λ x rest fits.
      (reads_on (word_form 16) _ x.source (number 8 x.number) rest fits.source
      ∙ reads_last (number_form 8 1 last_gtid_number (omega arith)) _ x.number rest (fits.number_above, fits.number_below, omega (arith, fits.number_below)));
  spells = λ bytes rest x e.
      (let a = step (word_form 16) _ bytes rest x e in
      let b = step (number_form 8 1 last_gtid_number (omega arith)) _ a.behind rest x a.then_reads in
      ends (λ y more. IsGtid y × (bytes ≡ gtid_bytes y ++ more)) _ x b.behind rest b.then_reads
      (record { source = a.fits; number_above = b.fits.0; number_below = b.fits.1 }, glue _ _ _ _ _ a.parts b.parts));
}
