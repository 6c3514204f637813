-- The two sides of the forms of joiners, values and votes.
use Rattle.std.proofs.Common.{◌≡◌, ℕ, zero, suc, ◌<◌, ◌≤◌, ◌^◌, List, [], ◌∷◌, ◌++◌, length, Option, Some, None, refl, sym, ap, ◌∙◌, arith, append_assoc}
use Rattle.std.specs.Prelude.{slice_index_or}
use Rattle.std.specs.List.{flat_map, AllByRecursion}
use Rattle.std.proofs.lemmas.Bool.Decides.{nat_tests}
use Rattle.byte_forms.specs.Numbers.{number}
use Rattle.byte_forms.specs.Reads.{Read, Got, Fault, Reader, go_on, ◌>>=◌, pure}
use Rattle.byte_forms.specs.Fields.{number_in, word}
use Rattle.byte_forms.specs.Lists.{counted, bytes_in}
use Rattle.byte_forms.specs.Forms.{IsForm}
use Rattle.byte_forms.proofs.FormLemmas.{word_form, number_form, counted_form, step, ends, glue, reads_on, reads_last}
use Rattle.gr_ids.specs.declared.names.Inc.{Inc}
use Rattle.name_forms.specs.Incs.{inc_bytes, next_inc}
use Rattle.name_forms.specs.Ballots.{ballot_bytes}
use Rattle.name_forms.specs.Ids.{last_u64}
use Rattle.name_forms.proofs.NameLaws.{inc_form, inc_after_form, ballot_form, id_form}
use Rattle.slot_values.specs.Slots.{last_slot}
use Rattle.slot_values.specs.Joiners.{IsJoinerAfter, joiner_bytes, next_joiner_after, next_joiner}
use Rattle.slot_values.specs.Values.{What, Noop, Add, Remove, Body, Value, Vote, Joiner}
use Rattle.slot_values.specs.Spelling.{IsWhat, IsValue, IsVoteAfter, what_bytes, value_bytes, vote_bytes, kinds, least_kind, least_slot, next_what, next_value, next_vote_after, last_u32}

-- ---- joiners

-- the three numbers of a version stand one behind the other
three : (a b c w rest : List ℕ) → ((a ++ (b ++ (c ++ []))) ++ w) ++ rest ≡ a ++ (b ++ (c ++ (w ++ rest)))
three a b c w rest =
    append_assoc (a ++ (b ++ (c ++ []))) w rest ∙ append_assoc a (b ++ (c ++ [])) (w ++ rest)
    ∙ ap (λ xs. a ++ xs) (append_assoc b (c ++ []) (w ++ rest) ∙ ap (λ xs. b ++ xs) (append_assoc c [] (w ++ rest)))

number_64 : (n : ℕ) (rest : List ℕ) → n ≤ last_u64 → number_in 8 0 last_u64 (number 8 n ++ rest) ≡ Got n rest
number_64 n rest h = (number_form 8 0 last_u64 (omega arith)).reads n rest (omega arith, h, omega (arith, h))

-- what is read behind the UUID
behind_uuid : (i : Inc) (uuid : List ℕ) → Reader Joiner
behind_uuid i uuid = do
  major ← number_in 8 0 last_u64
  minor ← number_in 8 0 last_u64
  patch ← number_in 8 0 last_u64
  weight ← number_in 1 0 100
  pure (record { inc = i; uuid = uuid; version = major ∷ minor ∷ patch ∷ []; weight = weight })

version_reads : (i : Inc) (uuid version : List ℕ) (weight : ℕ) (rest : List ℕ) → length version ≡ 3 → AllByRecursion (λ n. n ≤ last_u64) version → weight ≤ 100
    → behind_uuid i uuid ((flat_map (number 8) version ++ number 1 weight) ++ rest) ≡ Got (record { inc = i; uuid = uuid; version = version; weight = weight }) rest
unfolding behind_uuid
version_reads i uuid [] w rest l all h = absurd (omega (arith, l))
version_reads i uuid (a ∷ []) w rest l all h = absurd (omega (arith, l))
version_reads i uuid (a ∷ b ∷ []) w rest l all h = absurd (omega (arith, l))
version_reads i uuid (a ∷ b ∷ c ∷ []) w rest l all h =
    let weight = (number_form 1 0 100 (omega arith)).reads w rest (omega arith, h, omega (arith, h)) in
    rw (three (number 8 a) (number 8 b) (number 8 c) (number 1 w) rest, number_64 a (number 8 b ++ (number 8 c ++ (number 1 w ++ rest))) all.0, number_64 b (number 8 c ++ (number 1 w ++ rest)) all.1.0, number_64 c (number 1 w ++ rest) all.1.1.0, weight) refl
version_reads i uuid (a ∷ b ∷ c ∷ d ∷ ds) w rest l all h = absurd (omega (arith, l))

pub joiner_after_form : (before : Option Inc) → IsForm (IsJoinerAfter before) joiner_bytes (next_joiner_after before)
unfolding next_joiner_after behind_uuid
joiner_after_form before = record {
  reads = λ x rest fits.
      (reads_on (inc_after_form before) _ x.inc (x.uuid ++ (flat_map (number 8) x.version ++ number 1 x.weight)) rest fits.inc
      ∙ reads_on (word_form 16) _ x.uuid (flat_map (number 8) x.version ++ number 1 x.weight) rest fits.uuid
      ∙ version_reads x.inc x.uuid x.version x.weight rest fits.parts fits.small fits.weight);
  spells = λ bytes rest x e.
      (let a = step (inc_after_form before) _ bytes rest x e in
      let b = step (word_form 16) _ a.behind rest x a.then_reads in
      let c = step (number_form 8 0 last_u64 (omega arith)) _ b.behind rest x b.then_reads in
      let d = step (number_form 8 0 last_u64 (omega arith)) _ c.behind rest x c.then_reads in
      let f = step (number_form 8 0 last_u64 (omega arith)) _ d.behind rest x d.then_reads in
      let w = step (number_form 1 0 100 (omega arith)) _ f.behind rest x f.then_reads in
      let version : c.behind ≡ number 8 d.first ++ (number 8 f.first ++ (number 1 w.first ++ w.behind)) =
      d.parts ∙ ap (λ xs. number 8 d.first ++ xs) (f.parts ∙ ap (λ xs. number 8 f.first ++ xs) w.parts) in
      let numbers : b.behind ≡ ((number 8 c.first ++ (number 8 d.first ++ (number 8 f.first ++ []))) ++ number 1 w.first) ++ w.behind =
      c.parts ∙ ap (λ xs. number 8 c.first ++ xs) version ∙ sym (three (number 8 c.first) (number 8 d.first) (number 8 f.first) (number 1 w.first) w.behind) in
      ends (λ y more. IsJoinerAfter before y × (bytes ≡ joiner_bytes y ++ more)) _ x w.behind rest w.then_reads
      (record { inc = a.fits; uuid = b.fits; parts = refl; small = (c.fits.1, (d.fits.1, (f.fits.1, tt))); weight = w.fits.1 }, glue _ _ _ _ _ a.parts (glue _ _ _ _ _ b.parts numbers)));
}

-- ---- what a value says

above_zero : (n : ℕ) → least_kind n ≤ 1
above_zero n = grind (arith, nat_tests)

kind_form : (n : ℕ) → IsForm (λ k. (least_kind n ≤ k) × (k ≤ 3) × (k < 256 ^ 1)) (number 1) (number_in 1 (least_kind n) 3)
kind_form n = number_form 1 (least_kind n) 3 (omega arith)

pub body_form : IsForm (λ bytes. (1 ≤ length bytes) × (length bytes ≤ last_u32) × (length bytes < 2 ^ 32)) counted (bytes_in 1 last_u32)
body_form = counted_form 1 last_u32

what_reads : (n : ℕ) (x : What) (rest : List ℕ) → IsWhat n x → next_what n (what_bytes x ++ rest) ≡ Got x rest
unfolding next_what
what_reads n Noop rest fits =
    let low : least_kind n ≤ 0 = rw fits (omega arith) in
    reads_last (kind_form n) _ 0 rest (low, omega arith, omega arith)
what_reads n (Add j) rest fits =
    let low : least_kind n ≤ 1 = above_zero n in
    reads_on (kind_form n) _ 1 (joiner_bytes j) rest (low, omega arith, omega arith) ∙ reads_last (joiner_after_form None) (λ i. pure (Add i)) j rest fits
what_reads n (Remove i) rest fits =
    let low : least_kind n ≤ 1 = above_zero n in
    reads_on (kind_form n) _ 2 (inc_bytes i) rest (omega (arith, low), omega arith, omega arith) ∙ reads_last inc_form (λ j. pure (Remove j)) i rest fits
what_reads n (Body b) rest fits =
    let low : least_kind n ≤ 1 = above_zero n in
    reads_on (kind_form n) _ 3 (counted b) rest (omega (arith, low), omega arith, omega arith) ∙ reads_last body_form (λ c. pure (Body c)) b rest (fits.0, fits.1, omega (arith, fits.1))

-- a Noop has no other number than 0
noop_number : (n : ℕ) → least_kind n ≤ 0 → n ≡ 0
noop_number n h = grind (arith, nat_tests)

kind_spells : (n k : ℕ) (bytes rest : List ℕ) (x : What) → least_kind n ≤ k → k ≤ 3 → slice_index_or kinds k (pure Noop) bytes ≡ Got x rest → IsWhat n x × (number 1 k ++ bytes ≡ what_bytes x ++ rest)
kind_spells n zero bytes rest x low high e =
    ends (λ y more. IsWhat n y × (number 1 0 ++ bytes ≡ what_bytes y ++ more)) Noop x bytes rest e (noop_number n low, refl)
kind_spells n (suc zero) bytes rest x low high e =
    let a = step (joiner_after_form None) (λ j. pure (Add j)) bytes rest x e in
    ends (λ y more. IsWhat n y × (number 1 1 ++ bytes ≡ what_bytes y ++ more)) _ x a.behind rest a.then_reads (a.fits, glue _ _ _ _ _ refl a.parts)
kind_spells n (suc (suc zero)) bytes rest x low high e =
    let a = step inc_form (λ i. pure (Remove i)) bytes rest x e in
    ends (λ y more. IsWhat n y × (number 1 2 ++ bytes ≡ what_bytes y ++ more)) _ x a.behind rest a.then_reads (a.fits, glue _ _ _ _ _ refl a.parts)
kind_spells n (suc (suc (suc zero))) bytes rest x low high e =
    let a = step body_form (λ b. pure (Body b)) bytes rest x e in
    ends (λ y more. IsWhat n y × (number 1 3 ++ bytes ≡ what_bytes y ++ more)) _ x a.behind rest a.then_reads ((a.fits.0, a.fits.1), glue _ _ _ _ _ refl a.parts)
kind_spells n (suc (suc (suc (suc k)))) bytes rest x low high e = absurd (omega (arith, high))

pub what_form : (n : ℕ) → IsForm (IsWhat n) what_bytes (next_what n)
unfolding next_what
what_form n = record {
  reads = λ x rest fits. what_reads n x rest fits;
  spells = λ bytes rest x e.
      (let a = step (kind_form n) _ bytes rest x e in
      let b = kind_spells n a.first a.behind rest x a.fits.0 a.fits.1 a.then_reads in
      (b.0, a.parts ∙ b.1));
}

-- ---- values and votes

pub value_form : IsForm IsValue value_bytes next_value
unfolding next_value
value_form = record {
  reads = λ x rest fits. reads_on id_form _ x.id (what_bytes x.what) rest fits.id ∙ reads_last (what_form x.id.number) _ x.what rest fits.what;
  spells = λ bytes rest x e.
      (let a = step id_form _ bytes rest x e in
      let b = step (what_form a.first.number) _ a.behind rest x a.then_reads in
      ends (λ y more. IsValue y × (bytes ≡ value_bytes y ++ more)) _ x b.behind rest b.then_reads
      (record { id = a.fits; what = b.fits }, glue _ _ _ _ _ a.parts b.parts));
}

pub vote_after_form : (before : Option Vote) → IsForm (IsVoteAfter before) vote_bytes (next_vote_after before)
unfolding next_vote_after
vote_after_form before = record {
  reads = λ x rest fits.
      (reads_on (number_form 8 (least_slot before) last_slot (omega arith)) _ x.slot (ballot_bytes x.ballot ++ value_bytes x.value) rest (fits.slot_above, fits.slot_below, omega (arith, fits.slot_below))
      ∙ reads_on ballot_form _ x.ballot (value_bytes x.value) rest fits.ballot
      ∙ reads_last value_form _ x.value rest fits.value);
  spells = λ bytes rest x e.
      (let a = step (number_form 8 (least_slot before) last_slot (omega arith)) _ bytes rest x e in
      let b = step ballot_form _ a.behind rest x a.then_reads in
      let c = step value_form _ b.behind rest x b.then_reads in
      ends (λ y more. IsVoteAfter before y × (bytes ≡ vote_bytes y ++ more)) _ x c.behind rest c.then_reads
      (record { slot_above = a.fits.0; slot_below = a.fits.1; ballot = b.fits; value = c.fits }, glue _ _ _ _ _ a.parts (glue _ _ _ _ _ b.parts c.parts)));
}
