-- The two sides of the spelling of a set.
use Rattle.std.proofs.Common.{◌≡◌, ℕ, ◌-◌, ◌<◌, ◌≤◌, Bool, true, false, cond, Option, Some, None, List, [], ◌∷◌, ◌++◌, length, replicate, refl, sym, ap, subst, ◌∙◌, arith, eqb, ltb, append_assoc, length-append}
use Rattle.std.proofs.lemmas.Bool.{and_parts, and_from, ltb-true}
use Rattle.std.proofs.lemmas.Bool.Decides.{nat_tests}
use Rattle.std.proofs.lemmas.List.{append-nil}
use Rattle.std.specs.Cmp.Lexicographic.{slice_cmp}
use Rattle.std.specs.Ordering.{nat_cmp, is_lt, ordering_then}
use Rattle.std.specs.declared.cmp.Ordering.TheVariants.{Less, Equal, Greater}
use Rattle.gr_ids.specs.Names.{bytes_lt}
use Rattle.byte_forms.specs.Numbers.{number, are_bytes}
use Rattle.byte_forms.specs.Reads.{Got, ◌>>=◌, pure}
use Rattle.byte_forms.specs.Fields.{field, number_in}
use Rattle.byte_forms.specs.Lists.{several, list_of}
use Rattle.byte_forms.specs.Forms.{IsForm}
use Rattle.byte_forms.proofs.FieldLemmas.{are_bytes_parts, go_on-got, field-again, field-got, number_in-again, number_in-got}
use Rattle.byte_forms.proofs.FormLemmas.{IsListed, list_form}
use Rattle.gtid_sets.specs.Canonical.{last_number, IsUuid}
use Rattle.gtid_sets.specs.Spelling.{Interval, Source, interval_bytes, source_bytes, least_first, next_interval_after, is_above, begins_uuid, uuid_of, next_source_above, next_source_after}

-- ---- intervals

pub record IsIntervalAfter (before : Option Interval) (i : Interval) : Type 0 where
  pub low : least_first before ≤ i.first
  pub ordered : i.first ≤ i.last
  pub high : i.last ≤ last_number

pub interval_form : (before : Option Interval) → IsForm (IsIntervalAfter before) interval_bytes (next_interval_after before)
unfolding next_interval_after
interval_form before = record {
  reads = λ i rest fits.
      (let first = number_in-again 8 (least_first before) last_number i.first (number 8 i.last ++ rest) fits.low (omega (arith, fits.ordered, fits.high)) (omega (arith, fits.ordered, fits.high)) in
      let last = number_in-again 8 i.first last_number i.last rest fits.ordered fits.high (omega (arith, fits.high)) in
      rw (append_assoc (number 8 i.first) (number 8 i.last) rest, first, last) refl);
  spells = λ bytes rest i e.
      (let f = go_on-got (number_in 8 (least_first before) last_number bytes) (λ first. number_in 8 first last_number >>= λ last. pure (record { first = first; last = last })) i rest e in
      let g = go_on-got (number_in 8 f.first last_number f.behind) (λ last. pure (record { first = f.first; last = last })) i rest f.then_reads in
      let first = number_in-got 8 (least_first before) last_number f.first bytes f.behind (omega arith) f.reads in
      let last = number_in-got 8 f.first last_number g.first f.behind g.behind (omega arith) g.reads in
      let j : Interval = record { first = f.first; last = g.first } in
      let end : Got j g.behind ≡ Got i rest = g.then_reads in
      let is : j ≡ i = cc in
      let same : g.behind ≡ rest = cc in
      let there : Interval → List ℕ → Type 0 = λ x r. IsIntervalAfter before x × (bytes ≡ interval_bytes x ++ r) in
      subst (λ (r : List ℕ). there i r) same (subst (λ (x : Interval). there x g.behind) is (
        record { low = first.above; ordered = last.above; high = last.below },
        first.parts ∙ ap (λ ys. number 8 f.first ++ ys) last.parts ∙ sym (append_assoc (number 8 f.first) (number 8 g.first) g.behind),
      )));
}

-- ---- UUIDs, ascending

lt_cons : (x y : ℕ) (xs ys : List ℕ) → bytes_lt (x ∷ xs) (y ∷ ys) ≡ cond (ltb x y) true (cond (eqb x y) (bytes_lt xs ys) false)
lt_cons x y xs ys = by_tests (ltb x y) (eqb x y)
  where
    by_tests : (s t : Bool) → is_lt (ordering_then (cond s Less (cond t Equal Greater)) (slice_cmp nat_cmp xs ys)) ≡ cond s true (cond t (bytes_lt xs ys) false)
    by_tests true t = refl
    by_tests false true = refl
    by_tests false false = refl

lt_top : (b more : List ℕ) → are_bytes more ≡ true → bytes_lt b more ≡ true → bytes_lt b (replicate (length more) 255) ≡ true
lt_top b [] hm h = h
lt_top [] (m ∷ ms) hm h = refl
lt_top (y ∷ ys) (m ∷ ms) hm h =
    let parts = and_parts _ _ hm in
    let small : m < 256 = ltb-true m 256 parts.0 in
    let later : bytes_lt ys ms ≡ true → bytes_lt ys (replicate (length ms) 255) ≡ true = λ k. lt_top ys ms parts.1 k in
    let k = sym (lt_cons y m ys ms) ∙ h in
    lt_cons y 255 ys (replicate (length ms) 255) ∙ top_cases y m (bytes_lt ys ms) (bytes_lt ys (replicate (length ms) 255)) small later k
  where
    top_cases : (y m : ℕ) (s t : Bool) → m < 256 → (s ≡ true → t ≡ true) → cond (ltb y m) true (cond (eqb y m) s false) ≡ true → cond (ltb y 255) true (cond (eqb y 255) t false) ≡ true
    top_cases y m true t small later k = (let e = later refl in grind (arith, nat_tests, e, k))
    top_cases y m false t small later k = grind (arith, nat_tests, k)

lt_greatest : (b front more : List ℕ) → are_bytes more ≡ true → bytes_lt b (front ++ more) ≡ true → bytes_lt b (front ++ replicate (length more) 255) ≡ true
lt_greatest b [] more hm h = lt_top b more hm h
lt_greatest [] (x ∷ front) more hm h = refl
lt_greatest (y ∷ ys) (x ∷ front) more hm h =
    let later : bytes_lt ys (front ++ more) ≡ true → bytes_lt ys (front ++ replicate (length more) 255) ≡ true = λ k. lt_greatest ys front more hm k in
    let k = sym (lt_cons y x ys (front ++ more)) ∙ h in
    lt_cons y x ys (front ++ replicate (length more) 255) ∙ same_cases (ltb y x) (eqb y x) (bytes_lt ys (front ++ more)) (bytes_lt ys (front ++ replicate (length more) 255)) later k
  where
    same_cases : (p q s t : Bool) → (s ≡ true → t ≡ true) → cond p true (cond q s false) ≡ true → cond p true (cond q t false) ≡ true
    same_cases true q s t later k = refl
    same_cases false true s t later k = later k
    same_cases false false s t later k = k

fronts_uuid : (before : Option (List ℕ)) (u front more : List ℕ) → length u ≡ 16 → are_bytes u ≡ true → is_above before u ≡ true → front ++ more ≡ u → begins_uuid before front ≡ true
fronts_uuid None u front more long hu p e = and_from (are_bytes front) true (are_bytes_parts front more (ap are_bytes e ∙ hu)).0 refl
fronts_uuid (Some b) u front more long hu p e =
    let parts = are_bytes_parts front more (ap are_bytes e ∙ hu) in
    let rest : length more ≡ 16 - length front = omega (arith, length-append front more, ap length e) in
    let lt = lt_greatest b front more parts.1 (ap (bytes_lt b) e ∙ p) in
    and_from (are_bytes front) (bytes_lt b (front ++ replicate (16 - length front) 255)) parts.0 (ap (λ n. bytes_lt b (front ++ replicate n 255)) (sym rest) ∙ lt)

pub uuid_again : (before : Option (List ℕ)) (u rest : List ℕ) → IsUuid u → is_above before u ≡ true → field (begins_uuid before) 16 (u ++ rest) ≡ Got u rest
uuid_again before u rest hu p =
    subst (λ (n : ℕ). field (begins_uuid before) n (u ++ rest) ≡ Got u rest) hu.long (field-again (begins_uuid before) u rest (λ front more e. fronts_uuid before u front more hu.long hu.bytes p e))

begins_whole : (before : Option (List ℕ)) (u : List ℕ) → length u ≡ 16 → begins_uuid before u ≡ true → IsUuid u × (is_above before u ≡ true)
begins_whole None u long h = (record { long = long; bytes = (and_parts (are_bytes u) true h).0 }, refl)
begins_whole (Some b) u long h =
    let parts = and_parts (are_bytes u) (bytes_lt b (u ++ replicate (16 - length u) 255)) h in
    let none : 16 - length u ≡ 0 = omega arith in
    (record { long = long; bytes = parts.0 }, ap (bytes_lt b) (sym (append-nil u)) ∙ ap (λ n. bytes_lt b (u ++ replicate n 255)) (sym none) ∙ parts.1)

pub record IsNextUuid (before : Option (List ℕ)) (bytes u rest : List ℕ) : Type 0 where
  pub uuid : IsUuid u
  pub above : is_above before u ≡ true
  pub parts : bytes ≡ u ++ rest

pub uuid_got : (before : Option (List ℕ)) (bytes u rest : List ℕ) → field (begins_uuid before) 16 bytes ≡ Got u rest → IsNextUuid before bytes u rest
uuid_got before bytes u rest e =
    let f = field-got (begins_uuid before) 16 bytes u rest e in
    let w = begins_whole before u f.long (f.passes (omega arith)) in
    record { uuid = w.0; above = w.1; parts = f.parts }

-- ---- sources

pub record IsSourceAfter (before : Option Source) (s : Source) : Type 0 where
  pub uuid : IsUuid s.uuid
  pub above : is_above (uuid_of before) s.uuid ≡ true
  pub intervals : IsListed 1 IsIntervalAfter s.intervals

intervals_form : IsForm (IsListed 1 IsIntervalAfter) (several interval_bytes) (list_of 1 next_interval_after)
intervals_form = list_form 1 IsIntervalAfter interval_bytes next_interval_after interval_form

pub source_form : (before : Option Source) → IsForm (IsSourceAfter before) source_bytes (next_source_after before)
unfolding next_source_above
source_form before = record {
  reads = λ s rest fits.
      (let u = uuid_again (uuid_of before) s.uuid (several interval_bytes s.intervals ++ rest) fits.uuid fits.above in
      let is = intervals_form.reads s.intervals rest fits.intervals in
      rw (append_assoc s.uuid (several interval_bytes s.intervals) rest, u, is) refl);
  spells = λ bytes rest s e.
      (let f = go_on-got (field (begins_uuid (uuid_of before)) 16 bytes) (λ uuid. list_of 1 next_interval_after >>= λ intervals. pure (record { uuid = uuid; intervals = intervals })) s rest e in
      let g = go_on-got (list_of 1 next_interval_after f.behind) (λ intervals. pure (record { uuid = f.first; intervals = intervals })) s rest f.then_reads in
      let u = uuid_got (uuid_of before) bytes f.first f.behind f.reads in
      let is = intervals_form.spells f.behind g.behind g.first g.reads in
      let j : Source = record { uuid = f.first; intervals = g.first } in
      let end : Got j g.behind ≡ Got s rest = g.then_reads in
      let same_source : j ≡ s = cc in
      let same : g.behind ≡ rest = cc in
      let there : Source → List ℕ → Type 0 = λ x r. IsSourceAfter before x × (bytes ≡ source_bytes x ++ r) in
      subst (λ (r : List ℕ). there s r) same (subst (λ (x : Source). there x g.behind) same_source (
        record { uuid = u.uuid; above = u.above; intervals = is.0 },
        u.parts ∙ ap (λ ys. f.first ++ ys) is.1 ∙ sym (append_assoc f.first (several interval_bytes g.first) g.behind),
      )));
}
