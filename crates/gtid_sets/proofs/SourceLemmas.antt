-- The runs of a canonical set, by source, and back.
use Rattle.std.proofs.Common.{◌≡◌, ℕ, ◌+◌, ◌^◌, ◌<◌, ◌≤◌, Bool, true, false, Option, Some, None, List, [], ◌∷◌, ◌++◌, length, map, refl, sym, ap, subst, ◌∙◌, arith}
use Rattle.std.specs.List.{AllByRecursion}
use Rattle.std.proofs.lemmas.Bool.Decides.{nat_tests}
use Rattle.std.specs.Cmp.Lexicographic.{same_text, nat_list_eq_equiv}
use Rattle.std.specs.Str.{bytes_eq}
use Rattle.gr_ids.specs.Names.{bytes_lt}
use Rattle.byte_forms.specs.Numbers.{number_of}
use Rattle.byte_forms.specs.Reads.{Got, pure}
use Rattle.byte_forms.specs.Lists.{several, IsChain, list_of}
use Rattle.byte_forms.specs.Forms.{IsForm}
use Rattle.byte_forms.proofs.FieldLemmas.{go_on-got}
use Rattle.byte_forms.proofs.FormLemmas.{IsListed, list_form}
use Rattle.gtid_sets.specs.Sets.{Run, Gtids, before_run}
use Rattle.gtid_sets.specs.Canonical.{IsUuid, IsRun, IsBefore, IsCanonical}
use Rattle.gtid_sets.specs.Spelling.{Interval, Source, interval_of, with_first, sources_of, runs_of, source_bytes, set_bytes, least_first, is_above, uuid_of, next_source_after, next_set, HasCounts}
use Rattle.gtid_sets.proofs.Keys.{bytes_eq-key, bytes_lt-key, before_run-key}
use Rattle.gtid_sets.proofs.SpellingLemmas.{IsIntervalAfter, IsSourceAfter, source_form}

-- ---- from runs to sources and back

abbrev pub run_of : List ℕ → Interval → Run
run_of u i = record { source = u; first = i.first; last = i.last }

runs_with_first : (r : Run) (ss : List Source) → runs_of (with_first r ss) ≡ r ∷ runs_of ss
runs_with_first r [] = refl
runs_with_first r (s ∷ ss) = by_test (bytes_eq r.source s.uuid) refl
  where
    by_test : (t : Bool) → t ≡ bytes_eq r.source s.uuid
        → runs_of (elim t [
          | true ↦ record { uuid = s.uuid; intervals = interval_of r ∷ s.intervals } ∷ ss
          | false ↦ record { uuid = r.source; intervals = interval_of r ∷ [] } ∷ s ∷ ss
        ]) ≡ r ∷ runs_of (s ∷ ss)
    by_test false e = refl
    by_test true e =
        let same : s.uuid ≡ r.source = sym (same_text r.source s.uuid e) in
        ap (λ u. run_of u (interval_of r) ∷ (map (run_of s.uuid) s.intervals ++ runs_of ss)) same

pub runs_of-sources_of : (s : Gtids) → runs_of (sources_of s) ≡ s
runs_of-sources_of [] = refl
runs_of-sources_of (r ∷ rs) = runs_with_first r (sources_of rs) ∙ ap (λ xs. r ∷ xs) (runs_of-sources_of rs)

-- ---- the sources of a canonical set ascend, and so do their intervals

pub record Shaped (before : Option Source) (s : Source) : Type 0 where
  pub uuid : IsUuid s.uuid
  pub above : is_above (uuid_of before) s.uuid ≡ true
  pub chain : IsChain IsIntervalAfter None s.intervals
  pub some : 1 ≤ length s.intervals

-- the first source, and those behind it
record Sourced (r : Run) (rs : Gtids) : Type 0 where
  more : List Interval
  others : List Source
  is : sources_of (r ∷ rs) ≡ record { uuid = r.source; intervals = interval_of r ∷ more } ∷ others
  chain : IsChain IsIntervalAfter (Some (interval_of r)) more
  rest : IsChain Shaped (Some (record { uuid = r.source; intervals = interval_of r ∷ more })) others

after_any : (b c : Source) (ss : List Source) → b.uuid ≡ c.uuid → IsChain Shaped (Some b) ss → IsChain Shaped (Some c) ss
after_any b c [] e h = tt
after_any b c (s ∷ ss) e h = (record { uuid = h.0.uuid; above = ap (λ u. bytes_lt u s.uuid) (sym e) ∙ h.0.above; chain = h.0.chain; some = h.0.some }, h.1)

sourced : (r : Run) (rs : Gtids) → IsCanonical (r ∷ rs) → Sourced r rs
sourced r [] h = record { more = []; others = []; is = refl; chain = tt; rest = tt }
sourced r (s ∷ ss) h = by_test (sourced s ss h.2) (bytes_eq r.source s.source) refl
  where
    by_test : Sourced s ss → (t : Bool) → t ≡ bytes_eq r.source s.source → Sourced r (s ∷ ss)
    by_test later true e =
        let same : r.source ≡ s.source = same_text r.source s.source e in
        let k = sym (before_run-key r s h.0 h.2.0) ∙ h.1 in
        let keys = bytes_eq-key r.source s.source h.0.uuid h.2.0.uuid in
        let gap : r.last + 2 ≤ s.first = grind (arith, nat_tests, k, e, keys) in
        let put : with_first r (sources_of (s ∷ ss)) ≡ record { uuid = s.source; intervals = interval_of r ∷ interval_of s ∷ later.more } ∷ later.others = ap (with_first r) later.is ∙ rw (with_first, sym e) refl in
        record {
          more = interval_of s ∷ later.more;
          others = later.others;
          is = put ∙ ap (λ u. record { uuid = u; intervals = interval_of r ∷ interval_of s ∷ later.more } ∷ later.others) (sym same);
          chain = (record { low = gap; ordered = h.2.0.ordered; high = h.2.0.bounded }, later.chain);
          rest = after_any (record { uuid = s.source; intervals = interval_of s ∷ later.more }) (record { uuid = r.source; intervals = interval_of r ∷ interval_of s ∷ later.more }) later.others (sym same) later.rest;
        }
    by_test later false e =
        let k = sym (before_run-key r s h.0 h.2.0) ∙ h.1 in
        let keys = bytes_eq-key r.source s.source h.0.uuid h.2.0.uuid in
        let lt : bytes_lt r.source s.source ≡ true = bytes_lt-key r.source s.source h.0.uuid h.2.0.uuid ∙ grind (arith, nat_tests, k, e, keys) in
        record {
          more = [];
          others = record { uuid = s.source; intervals = interval_of s ∷ later.more } ∷ later.others;
          is = ap (with_first r) later.is ∙ rw (with_first, sym e) refl;
          chain = tt;
          rest = (record { uuid = h.2.0.uuid; above = lt; chain = (record { low = h.2.0.positive; ordered = h.2.0.ordered; high = h.2.0.bounded }, later.chain); some = omega arith }, later.rest);
        }

pub shaped : (s : Gtids) → IsCanonical s → IsChain Shaped None (sources_of s)
shaped [] h = tt
shaped (r ∷ rs) h =
    let q = sourced r rs h in
    let P : List Source → Type 0 = IsChain Shaped None in
    subst P (sym q.is) (record { uuid = h.0.uuid; above = refl; chain = (record { low = h.0.positive; ordered = h.0.ordered; high = h.0.bounded }, q.chain); some = omega arith }, q.rest)

counted_chain : (before : Option Source) (ss : List Source) → IsChain Shaped before ss → AllByRecursion (λ x. length x.intervals < 2 ^ 32) ss → IsChain IsSourceAfter before ss
counted_chain before [] h n = tt
counted_chain before (s ∷ ss) h n = (record { uuid = h.0.uuid; above = h.0.above; intervals = (h.0.chain, h.0.some, n.0) }, counted_chain (Some s) ss h.1 n.1)

-- ---- and back: ascending sources are those of the set that they join to

-- the source before the others differs from the first of them
not_first : (b : Source) (ss : List Source) → IsUuid b.uuid → IsChain IsSourceAfter (Some b) ss → (r : Run) → r.source ≡ b.uuid → with_first r ss ≡ record { uuid = r.source; intervals = interval_of r ∷ [] } ∷ ss
not_first b [] hb h r e = refl
not_first b (s ∷ ss) hb h r e =
    let other : bytes_eq r.source s.uuid ≡ false =
    ap (λ u. bytes_eq u s.uuid) e ∙ bytes_eq-key b.uuid s.uuid hb h.0.uuid ∙ (let k = sym (bytes_lt-key b.uuid s.uuid hb h.0.uuid) ∙ h.0.above in grind (arith, nat_tests, k)) in
    rw (with_first, other) refl

same_first : (u : List ℕ) (i : Interval) (is : List Interval) (ss : List Source) → with_first (run_of u i) (record { uuid = u; intervals = is } ∷ ss) ≡ record { uuid = u; intervals = i ∷ is } ∷ ss
same_first u i is ss = rw (with_first, nat_list_eq_equiv.refl u) refl

sources_of_one : (b : Source) (u : List ℕ) (i : Interval) (is : List Interval) (rest : Gtids) → b.uuid ≡ u → IsUuid u → IsChain IsSourceAfter (Some b) (sources_of rest)
    → sources_of (map (run_of u) (i ∷ is) ++ rest) ≡ record { uuid = u; intervals = i ∷ is } ∷ sources_of rest
sources_of_one b u i [] rest e hu h = not_first b (sources_of rest) (subst IsUuid (sym e) hu) h (run_of u i) (sym e)
sources_of_one b u i (j ∷ js) rest e hu h = ap (with_first (run_of u i)) (sources_of_one b u j js rest e hu h) ∙ same_first u i (j ∷ js) (sources_of rest)

after_same : (b c : Source) (ss : List Source) → b.uuid ≡ c.uuid → IsChain IsSourceAfter (Some b) ss → IsChain IsSourceAfter (Some c) ss
after_same b c [] e h = tt
after_same b c (s ∷ ss) e h = (record { uuid = h.0.uuid; above = ap (λ u. bytes_lt u s.uuid) (sym e) ∙ h.0.above; intervals = h.0.intervals }, h.1)

pub sources_of-runs_of : (before : Option Source) (ss : List Source) → IsChain IsSourceAfter before ss → sources_of (runs_of ss) ≡ ss
sources_of-runs_of before [] h = refl
sources_of-runs_of before (s ∷ ss) h =
    let later = sources_of-runs_of (Some s) ss h.1 in
    some s.intervals refl later
  where
    some : (is : List Interval) → is ≡ s.intervals → sources_of (runs_of ss) ≡ ss → sources_of (map (run_of s.uuid) s.intervals ++ runs_of ss) ≡ s ∷ ss
    some [] e later = absurd (omega (arith, h.0.intervals.1, ap length e))
    some (i ∷ is) e later =
        let chain : IsChain IsSourceAfter (Some s) (sources_of (runs_of ss)) = subst (λ (xs : List Source). IsChain IsSourceAfter (Some s) xs) (sym later) h.1 in
        ap (λ xs. sources_of (map (run_of s.uuid) xs ++ runs_of ss)) (sym e) ∙ sources_of_one s s.uuid i is (runs_of ss) refl h.0.uuid chain
        ∙ ap (λ xs. record { uuid = s.uuid; intervals = xs } ∷ sources_of (runs_of ss)) e ∙ ap (λ xs. s ∷ xs) later

counts_of : (before : Option Source) (ss : List Source) → IsChain IsSourceAfter before ss → AllByRecursion (λ x. length x.intervals < 2 ^ 32) ss
counts_of before [] h = tt
counts_of before (s ∷ ss) h = (h.0.intervals.2, counts_of (Some s) ss h.1)

-- ---- the runs of ascending sources are canonical

before_gap : (u : List ℕ) (i : Interval) (s : Run) → IsRun (run_of u i) → IsRun s → u ≡ s.source → i.last + 2 ≤ s.first → before_run (run_of u i) s ≡ true
before_gap u i s hi hs e gap =
    let k : number_of u ≡ number_of s.source = ap number_of e in
    before_run-key (run_of u i) s hi hs ∙ grind (arith, nat_tests, k, gap)

before_source : (r s : Run) → IsRun r → IsRun s → bytes_lt r.source s.source ≡ true → before_run r s ≡ true
before_source r s hr hs lt =
    let k = sym (bytes_lt-key r.source s.source hr.uuid hs.uuid) ∙ lt in
    before_run-key r s hr hs ∙ grind (arith, nat_tests, k)

-- every run of a source stands before what begins behind the source
pub AllBehind : List ℕ → Gtids → Type 0
AllBehind u [] = Unit {0}
AllBehind u (s ∷ rs) = bytes_lt u s.source ≡ true

canonical_source : (u : List ℕ) (before : Option Interval) (i : Interval) (is : List Interval) (rest : Gtids) → IsUuid u → 1 ≤ least_first before → IsChain IsIntervalAfter before (i ∷ is) → IsCanonical rest → AllBehind u rest
    → IsCanonical (map (run_of u) (i ∷ is) ++ rest)
unfolding AllBehind
canonical_source u before i [] rest hu pos c hr b = (run, next rest hr b, hr)
  where
    run : IsRun (run_of u i)
    run = record { uuid = hu; positive = omega (arith, c.0.low); ordered = c.0.ordered; bounded = c.0.high }

    next : (xs : Gtids) → IsCanonical xs → AllBehind u xs → IsBefore (run_of u i) xs
    next [] h k = tt
    next (x ∷ xs) h k = before_source (run_of u i) x run h.0 k
canonical_source u before i (j ∷ js) rest hu pos c hr b =
    let run : IsRun (run_of u i) = record { uuid = hu; positive = omega (arith, c.0.low); ordered = c.0.ordered; bounded = c.0.high } in
    let later = canonical_source u (Some i) j js rest hu (omega arith) c.1 hr b in
    (run, before_gap u i (run_of u j) run later.0 refl c.1.0.low, later)

pub canonical_runs_of : (before : Option Source) (ss : List Source) → IsChain IsSourceAfter before ss → IsCanonical (runs_of ss)
unfolding AllBehind
canonical_runs_of before [] h = tt
canonical_runs_of before (s ∷ ss) h = some s.intervals refl (canonical_runs_of (Some s) ss h.1)
  where
    behind : (xs : List Source) → IsChain IsSourceAfter (Some s) xs → AllBehind s.uuid (runs_of xs)
    behind [] c = tt
    behind (x ∷ xs) c = first x.intervals refl
      where
        first : (is : List Interval) → is ≡ x.intervals → AllBehind s.uuid (map (run_of x.uuid) x.intervals ++ runs_of xs)
        first [] e = absurd (omega (arith, c.0.intervals.1, ap length e))
        first (i ∷ is) e = subst (λ (ys : List Interval). AllBehind s.uuid (map (run_of x.uuid) ys ++ runs_of xs)) e c.0.above

    some : (is : List Interval) → is ≡ s.intervals → IsCanonical (runs_of ss) → IsCanonical (map (run_of s.uuid) s.intervals ++ runs_of ss)
    some [] e later = absurd (omega (arith, h.0.intervals.1, ap length e))
    some (i ∷ is) e later =
        let chain : IsChain IsIntervalAfter None (i ∷ is) = subst (λ (ys : List Interval). IsChain IsIntervalAfter None ys) (sym e) h.0.intervals.0 in
        subst (λ (ys : List Interval). IsCanonical (map (run_of s.uuid) ys ++ runs_of ss)) e (canonical_source s.uuid None i is (runs_of ss) h.0.uuid (omega arith) chain later (behind ss h.1))

-- ---- the form of a set

sources_form : IsForm (IsListed 0 IsSourceAfter) (several source_bytes) (list_of 0 next_source_after)
sources_form = list_form 0 IsSourceAfter source_bytes next_source_after source_form

pub set_form : IsForm (λ s. IsCanonical s × HasCounts s) set_bytes next_set
unfolding next_set
set_form = record {
  reads = λ s rest fits.
      (let listed : IsListed 0 IsSourceAfter (sources_of s) = (counted_chain None (sources_of s) (shaped s fits.0) fits.1.1, omega arith, fits.1.0) in
      let read = sources_form.reads (sources_of s) rest listed in
      rw read (ap (λ xs. Got xs rest) (runs_of-sources_of s)));
  spells = λ bytes rest s e.
      (let f = go_on-got (list_of 0 next_source_after bytes) (λ sources. pure (runs_of sources)) s rest e in
      let q = sources_form.spells bytes f.behind f.first f.reads in
      let end : Got (runs_of f.first) f.behind ≡ Got s rest = f.then_reads in
      let is : runs_of f.first ≡ s = cc in
      let same : f.behind ≡ rest = cc in
      let back = sources_of-runs_of None f.first q.0.0 in
      let there : Gtids → List ℕ → Type 0 = λ x r. (IsCanonical x × HasCounts x) × (bytes ≡ set_bytes x ++ r) in
      let counts : HasCounts (runs_of f.first) = (subst (λ (xs : List Source). length xs < 2 ^ 32) (sym back) q.0.2, subst (λ (xs : List Source). AllByRecursion (λ x. length x.intervals < 2 ^ 32) xs) (sym back) (counts_of None f.first q.0.0)) in
      subst (λ (r : List ℕ). there s r) same (subst (λ (x : Gtids). there x f.behind) is ((canonical_runs_of None f.first q.0.0, counts), q.1 ∙ ap (λ xs. several source_bytes xs ++ f.behind) (sym back))));
}
