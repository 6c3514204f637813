-- A text that was written is read as the set that it was written of.
use Rattle.std.proofs.Common.{◌≡◌, ℕ, zero, suc, ◌+◌, ◌-◌, ◌≤◌, ◌<◌, ◌^◌, Bool, true, false, cond, Option, Some, None, Result, Ok, Err, List, [], ◌∷◌, ◌++◌, length, take, drop, get_or, refl, sym, ap, ◌∙◌, inl, arith, rules, length-append, eqb, ltb, append_assoc}
use Rattle.std.specs.Prelude.{codes, decimal, fold, nat_lt, if◌then◌else◌}
use Rattle.std.specs.List.{flat_map, prefix_len, list_all}
use Rattle.std.specs.Char.{is_ascii_digit}
use Rattle.std.specs.Str.{bytes_eq}
use Rattle.std.specs.Str.Parse.{digits_value}
use Rattle.std.specs.Cmp.Lexicographic.{same_text}
use Rattle.std.proofs.lemmas.Bool.{and_parts, ltb-true, false≢true}
use Rattle.std.proofs.lemmas.Bool.Decides.{nat_tests}
use Rattle.std.proofs.lemmas.List.{take_at, drop_at}
use Rattle.std.proofs.lemmas.Str.Parse.{IsNumeralModel, numerals_by_value}
use Rattle.std.proofs.lemmas.Fmt.{digits_decimal, digits_value-decimal, first_decimal}
use Rattle.uuid.specs.Text.{by_index, lower, hyphen, hex_digit, nibble, digit_place, is_hyphen_place}
use Rattle.uuid.proofs.RoundTrips.{parses_hyphenated_text}
use Rattle.uuid.proofs.TextLemmas.{by_index_length}
use Rattle.gr_ids.specs.Uuids.{uuid_of, uuid_text}
use Rattle.gtid_sets.specs.declared.faults.TextFault.{TextFault}
use Rattle.gtid_sets.specs.declared.faults.TextFault.TheVariants.{BadInterval, BadNumber}
use Rattle.gtid_sets.specs.declared.scanner.Joint.{Joint}
use Rattle.gtid_sets.specs.declared.scanner.Joint.TheVariants.{End, Interval as ColonJoint, Source as CommaJoint}
use Rattle.gtid_sets.specs.Sets.{Run, Gtids, with_run}
use Rattle.gtid_sets.specs.Canonical.{last_number, IsUuid, IsRun, IsCanonical}
use Rattle.gtid_sets.specs.Spelling.{Interval, Source, interval_of, with_first, sources_of}
use Rattle.gtid_sets.specs.Text.{Text, span_text, interval_text, joined_text, sources_text, set_text}
use Rattle.gtid_sets.specs.Grammar.{Scan, Found, Refused, found_then, place, is_blank, after_blanks, starts_with, is_number, next_number, next_last, next_interval, next_uuid, next_source, source_or_next, next_run, next_joint, source_behind, behind_run, from_run, runs_in, set_of}
use Rattle.byte_forms.specs.Numbers.{are_bytes}
use Rattle.gtid_sets.specs.Sets.{union}
use Rattle.gtid_sets.specs.Pieces.{run_of}
use Rattle.gtid_sets.proofs.LawLemmas.{all_union, one_list}
use Rattle.gtid_sets.proofs.UnionLemmas.{canonical_union, runs_of_canonical}
use Rattle.gtid_sets.proofs.Scanning.{uuid_found, set_of_runs}

-- ---- numbers

own : IsNumeralModel (λ ds. list_all is_ascii_digit ds ≡ true) (digits_value 10)
own = numerals_by_value _ (search rules)

prefix_all : (p : ℕ → Bool) (xs ys : List ℕ) → list_all p xs ≡ true → prefix_len p ys ≡ 0 → prefix_len p (xs ++ ys) ≡ length xs
prefix_all p [] ys h none = none
prefix_all p (x ∷ xs) ys h none =
    let parts = and_parts (p x) (list_all p xs) h in
    ap (λ t. cond t (1 + prefix_len p (xs ++ ys)) 0) parts.0 ∙ ap (λ n. 1 + n) (prefix_all p xs ys parts.1 none) ∙ omega arith

is_number-digits : (ds : List ℕ) (n : ℕ) → 48 < get_or ds 0 0 → digits_value 10 ds ≡ n → 1 ≤ n → n ≤ last_number → is_number ds ≡ true
is_number-digits [] n first value low high = absurd (omega arith)
is_number-digits (d ∷ ds) n first value low high =
    let other : eqb d 48 ≡ false = grind (arith, nat_tests, first) in
    rw (value, other) (grind (arith, nat_tests, low, high))

number_found : (whole : ℕ) (text : List ℕ) (k : ℕ) → k ≡ prefix_len is_ascii_digit text → is_number (take k text) ≡ true → next_number whole text ≡ Found (digits_value 10 (take k text)) (drop k text)
unfolding next_number
number_found whole text k e h =
    let here : is_number (take (prefix_len is_ascii_digit text) text) ≡ true = ap (λ n. is_number (take n text)) (sym e) ∙ h in
    let refused = BadNumber (place whole text) in
    ap (λ b. elim b as (λ x. Scan ℕ) [ true ↦ Found (digits_value 10 (take (prefix_len is_ascii_digit text) text)) (drop (prefix_len is_ascii_digit text) text) | false ↦ Refused refused ]) here
    ∙ ap (λ n. Found (digits_value 10 (take n text)) (drop n text)) (sym e)

number_back : (whole n : ℕ) (t : List ℕ) → 1 ≤ n → n ≤ last_number → prefix_len is_ascii_digit t ≡ 0 → next_number whole (decimal n ++ t) ≡ Found n t
number_back whole n t low high none =
    let small : n < 2 ^ 64 = omega arith in
    let len : length (decimal n) ≡ prefix_len is_ascii_digit (decimal n ++ t) = sym (prefix_all is_ascii_digit (decimal n) t (digits_decimal own n small) none) in
    let front : take (length (decimal n)) (decimal n ++ t) ≡ decimal n = take_at (decimal n) t (length (decimal n)) refl in
    let behind : drop (length (decimal n)) (decimal n ++ t) ≡ t = drop_at (decimal n) t (length (decimal n)) refl in
    let value : digits_value 10 (decimal n) ≡ n = digits_value-decimal own n small in
    let is : is_number (decimal n) ≡ true = is_number-digits (decimal n) n (first_decimal n (omega arith) small) value low high in
    number_found whole (decimal n ++ t) (length (decimal n)) len (ap is_number front ∙ is) ∙ ap (λ ds. Found (digits_value 10 ds) (drop (length (decimal n)) (decimal n ++ t))) front ∙ ap (λ v. Found v (drop (length (decimal n)) (decimal n ++ t))) value ∙ ap (Found n) behind

no_blank : (ds t : List ℕ) → 47 < get_or ds 0 0 → after_blanks (ds ++ t) ≡ ds ++ t
no_blank [] t first = absurd (omega arith)
no_blank (d ∷ ds) t first =
    let solid : is_blank d ≡ false = grind (arith, nat_tests, first) in
    ap (λ b. drop (cond b (1 + prefix_len is_blank (ds ++ t)) 0) (d ∷ (ds ++ t))) solid

-- ---- intervals

-- what may stand behind an interval
pub record Clean (t : List ℕ) : Type 0 where
  pub digits : prefix_len is_ascii_digit t ≡ 0
  pub blanks : after_blanks t ≡ t
  pub dash : starts_with 45 t ≡ false

clean_end : Clean []
clean_end = record { digits = refl; blanks = refl; dash = refl }

clean_colon : (t : List ℕ) → Clean (58 ∷ t)
clean_colon t = record { digits = refl; blanks = refl; dash = refl }

clean_comma : (t : List ℕ) → Clean (44 ∷ t)
clean_comma t = record { digits = refl; blanks = refl; dash = refl }

last_same : (whole first : ℕ) (t : List ℕ) → Clean t → next_last whole first (after_blanks t) ≡ Found first t
unfolding next_last
last_same whole first t c =
    ap (λ xs. elim (starts_with 45 xs) as (λ x. Scan ℕ) [ true ↦ next_number whole (after_blanks (drop 1 xs)) | false ↦ Found first xs ]) c.blanks
    ∙ ap (λ b. elim b as (λ x. Scan ℕ) [ true ↦ next_number whole (after_blanks (drop 1 t)) | false ↦ Found first t ]) c.dash

last_behind : (whole first last : ℕ) (t : List ℕ) → 1 ≤ last → last ≤ last_number → Clean t → next_last whole first (after_blanks (45 ∷ (decimal last ++ t))) ≡ Found last t
unfolding next_last
last_behind whole first last t low high c =
    let solid : after_blanks (decimal last ++ t) ≡ decimal last ++ t = no_blank (decimal last) t (omega (arith, first_decimal last (omega arith) (omega arith))) in
    ap (next_number whole) solid ∙ number_back whole last t low high c.digits

interval_found : (whole first last : ℕ) (text rest behind : List ℕ) → next_number whole text ≡ Found first rest → next_last whole first (after_blanks rest) ≡ Found last behind → first ≤ last
    → next_interval whole text ≡ Found (record { first = first; last = last }) behind
unfolding next_interval
interval_found whole first last text rest behind e f le =
    let above : ltb last first ≡ false = grind (arith, nat_tests, le) in
    let refused = BadInterval (place whole text) in
    ap (λ s. found_then s (λ x more. found_then (next_last whole x (after_blanks more)) (λ y rest'. elim (ltb y x) as (λ b. Scan Interval) [ true ↦ Refused refused | false ↦ Found (record { first = x; last = y }) rest' ]))) e
    ∙ ap (λ s. found_then s (λ y rest'. elim (ltb y first) as (λ b. Scan Interval) [ true ↦ Refused refused | false ↦ Found (record { first = first; last = y }) rest' ])) f
    ∙ ap (λ b. elim b as (λ b. Scan Interval) [ true ↦ Refused refused | false ↦ Found (record { first = first; last = last }) behind ]) above

interval_back : (whole : ℕ) (r : Run) (t : List ℕ) → IsRun r → Clean t → next_interval whole (span_text (interval_of r) ++ t) ≡ Found (interval_of r) t
interval_back whole r t h c = by_test (eqb r.first r.last) refl
  where
    by_test : (b : Bool) → b ≡ eqb r.first r.last → next_interval whole (elim b as (λ x. Text) [ true ↦ decimal r.first | false ↦ decimal r.first ++ (codes "-" ++ decimal r.last) ] ++ t) ≡ Found (interval_of r) t
    by_test true e =
        let same : r.first ≡ r.last = grind (arith, nat_tests, e) in
        interval_found whole r.first r.first (decimal r.first ++ t) t t (number_back whole r.first t h.positive (omega (arith, h.ordered, h.bounded)) c.digits) (last_same whole r.first t c) (omega arith)
        ∙ ap (λ l. Found (record { first = r.first; last = l }) t) same
    by_test false e =
        let tail : List ℕ = 45 ∷ (decimal r.last ++ t) in
        ap (next_interval whole) (append_assoc (decimal r.first) (45 ∷ decimal r.last) t)
        ∙ interval_found whole r.first r.last (decimal r.first ++ tail) tail t (number_back whole r.first tail h.positive (omega (arith, h.ordered, h.bounded)) refl) (last_behind whole r.first r.last t (omega (arith, h.positive, h.ordered)) h.bounded c) h.ordered

span_front : (r : Run) (t : List ℕ) → IsRun r → after_blanks (span_text (interval_of r) ++ t) ≡ span_text (interval_of r) ++ t
span_front r t h = by_test (eqb r.first r.last)
  where
    first : 48 < get_or (decimal r.first) 0 0
    first = first_decimal r.first (omega (arith, h.positive)) (omega (arith, h.ordered, h.bounded))

    longer : (ds more : List ℕ) → 48 < get_or ds 0 0 → 47 < get_or (ds ++ more) 0 0
    longer [] more p = absurd (omega arith)
    longer (d ∷ ds) more p = omega (arith, p)

    by_test : (b : Bool) → after_blanks (elim b as (λ x. Text) [ true ↦ decimal r.first | false ↦ decimal r.first ++ (codes "-" ++ decimal r.last) ] ++ t) ≡ elim b as (λ x. Text) [ true ↦ decimal r.first | false ↦ decimal r.first ++ (codes "-" ++ decimal r.last) ] ++ t
    by_test true = no_blank (decimal r.first) t (omega (arith, first))
    by_test false = no_blank (decimal r.first ++ (codes "-" ++ decimal r.last)) t (longer (decimal r.first) (codes "-" ++ decimal r.last) first)

-- ---- sources

all_bytes : (xs : List ℕ) → are_bytes xs ≡ true → (k d : ℕ) → k < length xs → get_or xs k d < 256
all_bytes [] e k d lt = absurd (omega arith)
all_bytes (x ∷ xs) e zero d lt = ltb-true x 256 (and_parts _ _ e).0
all_bytes (x ∷ xs) e (suc k) d lt = all_bytes xs (and_parts _ _ e).1 k d (omega arith)

uuid_read : (u : List ℕ) → IsUuid u → uuid_of (uuid_text u) ≡ Some u
uuid_read u h = sym (parses_hyphenated_text lower u (inl refl) h.long (all_bytes u h.bytes))

uuid_length : (u : List ℕ) → length (uuid_text u) ≡ 36
uuid_length u = by_index_length 36 _

front_first : (xs ys : List ℕ) → 0 < length xs → get_or (xs ++ ys) 0 0 ≡ get_or xs 0 0
front_first [] ys some = absurd (omega arith)
front_first (x ∷ xs) ys some = refl

index_first : (n : ℕ) (f : ℕ → ℕ) → get_or (by_index (suc n) f) 0 0 ≡ f 0
unfolding by_index
index_first zero f = refl
index_first (suc n) f = front_first (by_index (suc n) f) (f (suc n) ∷ []) (omega (arith, by_index_length (suc n) f)) ∙ index_first n f

uuid_first : (u : List ℕ) → 47 < get_or (uuid_text u) 0 0
uuid_first u = omega (arith, index_first 35 (λ k. if is_hyphen_place k then hyphen else hex_digit lower (nibble u (digit_place k))), digit (nat_lt (nibble u 0) 10) (nibble u 0))
  where
    digit : (b : Bool) (d : ℕ) → 47 < cond b (48 + d) (97 + d - 10)
    digit true d = omega arith
    digit false d = omega arith

uuid_solid : (u t : List ℕ) → after_blanks (uuid_text u ++ t) ≡ uuid_text u ++ t
uuid_solid u t = no_blank (uuid_text u) t (uuid_first u)

source_back : (whole : ℕ) (u x : List ℕ) → IsUuid u → after_blanks x ≡ x → next_source whole (uuid_text u ++ (58 ∷ x)) ≡ Found u x
unfolding next_source
source_back whole u x h solid =
    let text : List ℕ = uuid_text u ++ (58 ∷ x) in
    let front : take 36 text ≡ uuid_text u = take_at (uuid_text u) (58 ∷ x) 36 (uuid_length u) in
    let behind : 58 ∷ x ≡ drop 36 text = sym (drop_at (uuid_text u) (58 ∷ x) 36 (uuid_length u)) in
    let found : next_uuid whole text ≡ Found u (58 ∷ x) = uuid_found whole text u (58 ∷ x) (ap uuid_of front ∙ uuid_read u h) behind in
    ap (λ s. found_then s (λ v rest. elim (starts_with 58 (after_blanks rest)) as (λ b. Scan (List ℕ)) [ true ↦ Found v (after_blanks (drop 1 (after_blanks rest))) | false ↦ Refused (BadInterval (place whole (after_blanks rest))) ])) found
    ∙ ap (Found u) solid

-- ---- runs

-- what stands before the numbers of a run: nothing, where its source stands before it already
abbrev pub front : Option (List ℕ) → Run → Text
front None r = uuid_text r.source ++ (58 ∷ [])
front (Some u) r = []

abbrev pub IsSourceOf : Option (List ℕ) → Run → Type 0
IsSourceOf None r = Unit {0}
IsSourceOf (Some u) r = u ≡ r.source

run_found : (whole : ℕ) (before : Option (List ℕ)) (text rest behind u : List ℕ) (i : Interval) → source_or_next whole before text ≡ Found u rest → next_interval whole rest ≡ Found i behind → next_run whole before text ≡ Found (run_of u i) behind
unfolding next_run
run_found whole before text rest behind u i e f =
    ap (λ s. found_then s (λ v more. found_then (next_interval whole more) (λ j rest'. Found (run_of v j) rest'))) e ∙ ap (λ s. found_then s (λ j rest'. Found (run_of u j) rest')) f

run_back : (whole : ℕ) (before : Option (List ℕ)) (r : Run) (t : List ℕ) → IsRun r → IsSourceOf before r → Clean t → next_run whole before (front before r ++ (span_text (interval_of r) ++ t)) ≡ Found r t
unfolding source_or_next
run_back whole (Some u) r t h same c = run_found whole (Some u) _ _ t u (interval_of r) refl (interval_back whole r t h c) ∙ ap (λ v. Found (run_of v (interval_of r)) t) same
run_back whole None r t h same c =
    let x : List ℕ = span_text (interval_of r) ++ t in
    let e : next_source whole ((uuid_text r.source ++ (58 ∷ [])) ++ x) ≡ Found r.source x = ap (next_source whole) (append_assoc (uuid_text r.source) (58 ∷ []) x) ∙ source_back whole r.source x h.uuid (span_front r t h) in
    run_found whole None _ x t r.source (interval_of r) e (interval_back whole r t h c)

-- ---- the text from a run on

-- what joins a run to one of this source
abbrev pub joint : List ℕ → Run → Text
joint u r = elim (bytes_eq u r.source) [ true ↦ 58 ∷ [] | false ↦ 44 ∷ (uuid_text r.source ++ (58 ∷ [])) ]

abbrev pub rest_text : List ℕ → Gtids → Text
rest_text u [] = []
rest_text u (r ∷ rs) = joint u r ++ (span_text (interval_of r) ++ rest_text r.source rs)

clean_rest : (u : List ℕ) (rs : Gtids) → Clean (rest_text u rs)
clean_rest u [] = clean_end
clean_rest u (r ∷ rs) = by_test (bytes_eq u r.source)
  where
    by_test : (b : Bool) → Clean (elim b as (λ x. Text) [ true ↦ 58 ∷ [] | false ↦ 44 ∷ (uuid_text r.source ++ (58 ∷ [])) ] ++ (span_text (interval_of r) ++ rest_text r.source rs))
    by_test true = clean_colon _
    by_test false = clean_comma _

-- the joint before a run, read
record Joins (whole : ℕ) (u : List ℕ) (r : Run) (rest : Text) : Type 0 where
  mark : Joint
  goes_on : mark ≡ End → ⊥
  source : IsSourceOf (source_behind mark u) r
  reads : next_joint whole (after_blanks (joint u r ++ rest)) ≡ Found mark (front (source_behind mark u) r ++ rest)

abbrev is_end : Joint → Bool
is_end End = true
is_end ColonJoint = false
is_end CommaJoint = false

joins : (whole : ℕ) (u : List ℕ) (r : Run) (rest : Text) → after_blanks rest ≡ rest → Joins whole u r rest
unfolding next_joint
joins whole u r rest solid = by_test (bytes_eq u r.source) refl
  where
    by_test : (b : Bool) → b ≡ bytes_eq u r.source → Joins whole u r rest
    by_test true e = record { mark = ColonJoint; goes_on = λ x. false≢true (ap is_end x); source = same_text u r.source e; reads = rw (joint, ← e) (ap (Found ColonJoint) solid) }
    by_test false e = record { mark = CommaJoint; goes_on = λ x. false≢true (ap is_end x); source = tt; reads = rw (joint, ← e) (ap (Found CommaJoint) (ap after_blanks (append_assoc (uuid_text r.source) (58 ∷ []) rest) ∙ uuid_solid r.source ((58 ∷ []) ++ rest) ∙ sym (append_assoc (uuid_text r.source) (58 ∷ []) rest))) }

all_back : (n whole : ℕ) (before : Option (List ℕ)) (set : Gtids) (r : Run) (rs : Gtids) → length rs ≤ n → IsCanonical (r ∷ rs) → IsSourceOf before r
    → runs_in (suc n) whole before set (front before r ++ (span_text (interval_of r) ++ rest_text r.source rs)) ≡ Ok (fold with_run set (r ∷ rs))
unfolding runs_in next_joint
all_back n whole before set r [] le h same = ap (from_run (runs_in n whole) whole set) (run_back whole before r [] h.0 same clean_end)
all_back zero whole before set r (s ∷ ss) le h same = absurd (omega arith)
all_back (suc n) whole before set r (s ∷ ss) le h same =
    let first = run_back whole before r (rest_text r.source (s ∷ ss)) h.0 same (clean_rest r.source (s ∷ ss)) in
    let j = joins whole r.source s (span_text (interval_of s) ++ rest_text s.source ss) (span_front s (rest_text s.source ss) h.2.0) in
    let later = all_back n whole (source_behind j.mark r.source) (with_run set r) s ss (omega (arith, le)) h.2 j.source in
    ap (from_run (runs_in (suc n) whole) whole set) first ∙ ap (behind_run (runs_in (suc n) whole) set r) j.reads ∙ goes_on j.mark j.goes_on _ ∙ later
  where
    goes_on : (x : Joint) → (x ≡ End → ⊥) → (text : Text) → behind_run (runs_in (suc n) whole) set r (Found x text) ≡ runs_in (suc n) whole (source_behind x r.source) (with_run set r) text
    goes_on End never text = absurd (never refl)
    goes_on ColonJoint never text = refl
    goes_on CommaJoint never text = refl

-- ---- the text of the sources is that of the runs

record Texts (r : Run) (rs : Gtids) : Type 0 where
  more : List Interval
  others : List Source
  is : sources_of (r ∷ rs) ≡ record { uuid = r.source; intervals = interval_of r ∷ more } ∷ others
  rest : flat_map interval_text more ++ flat_map joined_text others ≡ rest_text r.source rs

texts : (r : Run) (rs : Gtids) → Texts r rs
texts r [] = record { more = []; others = []; is = refl; rest = refl }
texts r (s ∷ ss) = by_test (bytes_eq r.source s.source) refl (texts s ss)
  where
    by_test : (b : Bool) → b ≡ bytes_eq r.source s.source → Texts s ss → Texts r (s ∷ ss)
    by_test true e later =
        let same : r.source ≡ s.source = same_text r.source s.source e in
        let put : sources_of (r ∷ s ∷ ss) ≡ record { uuid = s.source; intervals = interval_of r ∷ interval_of s ∷ later.more } ∷ later.others = ap (with_first r) later.is ∙ rw (with_first, ← e) refl in
        record {
          more = interval_of s ∷ later.more;
          others = later.others;
          is = put ∙ ap (λ u. record { uuid = u; intervals = interval_of r ∷ interval_of s ∷ later.more } ∷ later.others) (sym same);
          rest = append_assoc (interval_text (interval_of s)) (flat_map interval_text later.more) (flat_map joined_text later.others) ∙ ap (λ xs. interval_text (interval_of s) ++ xs) later.rest ∙ rw (joint, ← e) refl;
        }
    by_test false e later =
        let a = uuid_text s.source in
        let b = interval_text (interval_of s) in
        let m = flat_map interval_text later.more in
        let o = flat_map joined_text later.others in
        let shift : (a ++ (b ++ m)) ++ o ≡ a ++ (b ++ rest_text s.source ss) = append_assoc a (b ++ m) o ∙ ap (λ xs. a ++ xs) (append_assoc b m o ∙ ap (λ xs. b ++ xs) later.rest) in
        record {
          more = [];
          others = record { uuid = s.source; intervals = interval_of s ∷ later.more } ∷ later.others;
          is = ap (with_first r) later.is ∙ rw (with_first, ← e) refl;
          rest = ap (λ xs. 44 ∷ xs) (shift ∙ sym (append_assoc a (58 ∷ []) (span_text (interval_of s) ++ rest_text s.source ss))) ∙ rw (joint, ← e) refl;
        }

pub set_text_of : (r : Run) (rs : Gtids) → set_text (r ∷ rs) ≡ front None r ++ (span_text (interval_of r) ++ rest_text r.source rs)
set_text_of r rs =
    let t = texts r rs in
    let a = uuid_text r.source in
    let b = interval_text (interval_of r) in
    let m = flat_map interval_text t.more in
    let o = flat_map joined_text t.others in
    let shift : (a ++ (b ++ m)) ++ o ≡ a ++ (b ++ rest_text r.source rs) = append_assoc a (b ++ m) o ∙ ap (λ xs. a ++ xs) (append_assoc b m o ∙ ap (λ xs. b ++ xs) t.rest) in
    ap sources_text t.is ∙ shift ∙ sym (append_assoc a (58 ∷ []) (span_text (interval_of r) ++ rest_text r.source rs))

rest_long : (u : List ℕ) (rs : Gtids) → length rs ≤ length (rest_text u rs)
rest_long u [] = omega arith
rest_long u (r ∷ rs) =
    let more = span_text (interval_of r) ++ rest_text r.source rs in
    omega (arith, rest_long r.source rs, length-append (joint u r) more, length-append (span_text (interval_of r)) (rest_text r.source rs), some (bytes_eq u r.source))
  where
    some : (b : Bool) → 1 ≤ length {A = ℕ} (elim b as (λ x. Text) [ true ↦ 58 ∷ [] | false ↦ 44 ∷ (uuid_text r.source ++ (58 ∷ [])) ])
    some true = omega arith
    some false = omega arith

-- ---- the whole

-- a set put into the empty one, run by run, is that set
put_again : (s : Gtids) → IsCanonical s → union [] s ≡ s
put_again s h = one_list (union [] s) s (canonical_union [] s tt (runs_of_canonical s h)) h (λ g. all_union [] s g tt h)

pub text_back : (s : Gtids) → IsCanonical s → set_of (set_text s) ≡ Ok s
unfolding set_of
text_back [] h = refl
text_back (r ∷ rs) h =
    let rest : Text = span_text (interval_of r) ++ rest_text r.source rs in
    let text : Text = front None r ++ rest in
    let split : text ≡ uuid_text r.source ++ ((58 ∷ []) ++ rest) = append_assoc (uuid_text r.source) (58 ∷ []) rest in
    let solid : after_blanks text ≡ text = ap after_blanks split ∙ uuid_solid r.source ((58 ∷ []) ++ rest) ∙ sym split in
    let long : length text ≡ 36 + (1 + (length (span_text (interval_of r)) + length (rest_text r.source rs))) = ap length split ∙ length-append (uuid_text r.source) ((58 ∷ []) ++ rest) ∙ omega (arith, uuid_length r.source, length-append (span_text (interval_of r)) (rest_text r.source rs)) in
    set_of_runs (set_text (r ∷ rs)) text (length (set_text (r ∷ rs))) (sym (ap after_blanks (set_text_of r rs) ∙ solid)) refl (λ none. absurd (omega (arith, long, ap length none)))
    ∙ all_back (length text) (length (set_text (r ∷ rs))) None [] r rs (omega (arith, long, rest_long r.source rs)) h tt
    ∙ ap Ok (put_again (r ∷ rs) h)

pub texts_apart : (s t : Gtids) → IsCanonical s → IsCanonical t → set_text s ≡ set_text t → s ≡ t
texts_apart s t hs ht e = ap value (sym (text_back s hs) ∙ ap set_of e ∙ text_back t ht)
  where
    value : Result Gtids TextFault → Gtids
    value (Ok x) = x
    value (Err f) = []
