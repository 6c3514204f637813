-- What was read of a set so far.
use Rattle.std.proofs.Common.{◌≡◌, ℕ, suc, ◌+◌, ◌-◌, ◌≤◌, ◌<◌, Option, Some, None, List, [], ◌∷◌, ◌++◌, map, refl, sym, ap, subst, ◌∙◌, arith, append_assoc}
use Rattle.std.proofs.lemmas.List.{append-nil, map-append}
use Rattle.std.proofs.lemmas.Grind.{flat_map-append}
use Rattle.byte_forms.specs.Reads.{Read, Got, Fault, Reader, go_on, ◌>>=◌, pure}
use Rattle.byte_forms.specs.Fields.{field, number_in}
use Rattle.byte_forms.specs.Unreads.{Breaks}
use Rattle.byte_forms.specs.declared.unread.Unread.{Unread}
use Rattle.byte_forms.specs.declared.unread.Unread.TheVariants.{Memory, Misfit}
use Rattle.byte_forms.specs.Lists.{elements, list_of}
use Rattle.byte_forms.specs.Cuts.{Cut, Takes, FaultsAt}
use Rattle.byte_forms.proofs.ListLemmas.{last_of, last_of-push, Done, done_none, done_more, done_all, done_fault}
use Rattle.gtid_sets.specs.Sets.{Run, Gtids}
use Rattle.gtid_sets.specs.Spelling.{Interval, Source, interval_of, least_first, begins_uuid, interval_from, next_interval_after, next_source_above, next_source_after, next_set, uuid_of, runs_of}
use Rattle.gtid_sets.specs.Pieces.{run_of}

-- ---- a list of which a part was read

-- a form behind a count
pub list_got : {A : Type 0} (least : ℕ) (read : Option A → Reader A) (old mid new : Cut) (n : ℕ) (xs : List A) → Takes (number_in 4 least 4294967295) old n mid → elements read None n mid.left ≡ Got xs new.left
    → new.total ≡ mid.total → Takes (list_of least read) old xs new
list_got least read old mid new n xs counted e same = record { value = ap (λ r. go_on r (elements read None)) counted.value ∙ e; whole = same ∙ counted.whole }

pub list_breaks : {A : Type 0} (least : ℕ) (read : Option A → Reader A) (old mid : Cut) (n at total : ℕ) → Takes (number_in 4 least 4294967295) old n mid → elements read None n mid.left ≡ Fault (total - at)
    → total ≡ mid.total → at ≤ total → FaultsAt (list_of least read) old at
list_breaks least read old mid n at total counted e same within =
    let whole : old.total ≡ total = sym (same ∙ counted.whole) in
    record { fault = ap (λ r. go_on r (elements read None)) counted.value ∙ e ∙ ap (λ t. Fault (t - at)) (sym whole); within = omega (arith, within, whole) }

pub count_breaks : {A : Type 0} (least : ℕ) (read : Option A → Reader A) (old : Cut) (at : ℕ) → FaultsAt (number_in 4 least 4294967295) old at → FaultsAt (list_of least read) old at
count_breaks least read old at h = record { fault = ap (λ r. go_on r (elements read None)) h.fault; within = h.within }

-- ---- intervals

pub record IntervalsSoFar (u : List ℕ) (n : ℕ) (bytes : List ℕ) (had : Gtids) (i low : ℕ) (runs : Gtids) (left : List ℕ) : Type 0 where
  pub done : List Interval
  pub read : Done next_interval_after n bytes done (n - i) left
  pub put : runs ≡ had ++ map (run_of u) done
  pub from : low ≡ least_first (last_of done)

whole_left : (n : ℕ) → n ≡ n - 0
whole_left n = omega arith

pub no_intervals : (u : List ℕ) (n : ℕ) (bytes : List ℕ) (had : Gtids) → IntervalsSoFar u n bytes had 0 1 had bytes
no_intervals u n bytes had = record { done = []; read = subst (λ (k : ℕ). Done next_interval_after n bytes [] k bytes) (whole_left n) (done_none next_interval_after n bytes); put = sym (append-nil had); from = refl }

read_here : (low : ℕ) (done : List Interval) (left : List ℕ) (r : Read Interval) → low ≡ least_first (last_of done) → interval_from low left ≡ r → next_interval_after (last_of done) left ≡ r
unfolding next_interval_after
read_here low done left r e h = ap (λ k. interval_from k left) (sym e) ∙ h

pub more_intervals : (u : List ℕ) (n : ℕ) (bytes : List ℕ) (had : Gtids) (i low : ℕ) (runs : Gtids) (left rest : List ℕ) (run : Run) → IntervalsSoFar u n bytes had i low runs left → i < n → run.source ≡ u
    → interval_from low left ≡ Got (interval_of run) rest → IntervalsSoFar u n bytes had (i + 1) (run.last + 2) (runs ++ run ∷ []) rest
more_intervals u n bytes had i low runs left rest run h lt same e =
    let here : next_interval_after (last_of h.done) left ≡ Got (interval_of run) rest = read_here low h.done left (Got (interval_of run) rest) h.from e in
    let count : n - i ≡ suc (n - (i + 1)) = omega arith in
    let read : Done next_interval_after n bytes h.done (suc (n - (i + 1))) left = subst (λ (k : ℕ). Done next_interval_after n bytes h.done k left) count h.read in
    record {
      done = h.done ++ interval_of run ∷ [];
      read = done_more next_interval_after n bytes h.done (n - (i + 1)) left rest (interval_of run) read here;
      put = ap (λ xs. xs ++ run ∷ []) h.put ∙ append_assoc had (map (run_of u) h.done) (run ∷ []) ∙ ap (λ v. had ++ (map (run_of u) h.done ++ run_of v (interval_of run) ∷ [])) same ∙ ap (λ xs. had ++ xs) (sym (map-append (run_of u) h.done (interval_of run ∷ [])));
      from = sym (ap least_first (last_of-push h.done (interval_of run)));
    }

pub all_intervals : (u : List ℕ) (n : ℕ) (bytes : List ℕ) (had : Gtids) (i low : ℕ) (runs : Gtids) (left : List ℕ) → (h : IntervalsSoFar u n bytes had i low runs left) → n ≤ i → elements next_interval_after None n bytes ≡ Got h.done left
all_intervals u n bytes had i low runs left h le =
    let none : n - i ≡ 0 = omega arith in
    done_all next_interval_after n bytes h.done left (subst (λ (k : ℕ). Done next_interval_after n bytes h.done k left) none h.read)

pub intervals_break : (u : List ℕ) (n : ℕ) (bytes : List ℕ) (had : Gtids) (i low : ℕ) (runs : Gtids) (left : List ℕ) (k : ℕ) → IntervalsSoFar u n bytes had i low runs left → i < n → interval_from low left ≡ Fault k
    → elements next_interval_after None n bytes ≡ Fault k
intervals_break u n bytes had i low runs left k h lt e =
    let count : n - i ≡ suc (n - (i + 1)) = omega arith in
    done_fault next_interval_after n bytes h.done (n - (i + 1)) left k (subst (λ (m : ℕ). Done next_interval_after n bytes h.done m left) count h.read) (read_here low h.done left (Fault k) h.from e)

-- ---- sources

pub record SourcesSoFar (n : ℕ) (bytes : List ℕ) (i : ℕ) (before : Option (List ℕ)) (runs : Gtids) (left : List ℕ) : Type 0 where
  pub done : List Source
  pub read : Done next_source_after n bytes done (n - i) left
  pub put : runs ≡ runs_of done
  pub last : before ≡ uuid_of (last_of done)

pub no_sources : (n : ℕ) (bytes : List ℕ) → SourcesSoFar n bytes 0 None [] bytes
no_sources n bytes = record { done = []; read = subst (λ (k : ℕ). Done next_source_after n bytes [] k bytes) (whole_left n) (done_none next_source_after n bytes); put = refl; last = refl }

pub more_sources : (n : ℕ) (bytes : List ℕ) (i : ℕ) (before : Option (List ℕ)) (runs more : Gtids) (left rest : List ℕ) (s : Source) → SourcesSoFar n bytes i before runs left → i < n
    → next_source_above before left ≡ Got s rest → more ≡ runs ++ runs_of (s ∷ []) → SourcesSoFar n bytes (i + 1) (Some s.uuid) more rest
more_sources n bytes i before runs more left rest s h lt e put =
    let here : next_source_after (last_of h.done) left ≡ Got s rest = ap (λ b. next_source_above b left) (sym h.last) ∙ e in
    let count : n - i ≡ suc (n - (i + 1)) = omega arith in
    let read : Done next_source_after n bytes h.done (suc (n - (i + 1))) left = subst (λ (k : ℕ). Done next_source_after n bytes h.done k left) count h.read in
    record {
      done = h.done ++ s ∷ [];
      read = done_more next_source_after n bytes h.done (n - (i + 1)) left rest s read here;
      put = put ∙ ap (λ xs. xs ++ runs_of (s ∷ [])) h.put ∙ sym (flat_map-append (λ x. map (λ i. record { source = x.uuid; first = i.first; last = i.last }) x.intervals) h.done (s ∷ []));
      last = sym (ap uuid_of (last_of-push h.done s));
    }

pub all_sources : (n : ℕ) (bytes : List ℕ) (i : ℕ) (before : Option (List ℕ)) (runs : Gtids) (left : List ℕ) → (h : SourcesSoFar n bytes i before runs left) → n ≤ i → elements next_source_after None n bytes ≡ Got h.done left
all_sources n bytes i before runs left h le =
    let none : n - i ≡ 0 = omega arith in
    done_all next_source_after n bytes h.done left (subst (λ (k : ℕ). Done next_source_after n bytes h.done k left) none h.read)

pub sources_break : (n : ℕ) (bytes : List ℕ) (i : ℕ) (before : Option (List ℕ)) (runs : Gtids) (left : List ℕ) (k : ℕ) → SourcesSoFar n bytes i before runs left → i < n → next_source_above before left ≡ Fault k
    → elements next_source_after None n bytes ≡ Fault k
sources_break n bytes i before runs left k h lt e =
    let count : n - i ≡ suc (n - (i + 1)) = omega arith in
    done_fault next_source_after n bytes h.done (n - (i + 1)) left k (subst (λ (m : ℕ). Done next_source_after n bytes h.done m left) count h.read) (ap (λ b. next_source_above b left) (sym h.last) ∙ e)

-- ---- a source, and a set

pub source_got : (before : Option (List ℕ)) (old mid new : Cut) (u : List ℕ) (is : List Interval) → Takes (field (begins_uuid before) 16) old u mid → Takes (list_of 1 next_interval_after) mid is new
    → Takes (next_source_above before) old (record { uuid = u; intervals = is }) new
unfolding next_source_above
source_got before old mid new u is first then = record {
  value = ap (λ r. go_on r (λ uuid. list_of 1 next_interval_after >>= λ intervals. pure (record { uuid = uuid; intervals = intervals }))) first.value ∙ ap (λ r. go_on r (λ intervals. pure (record { uuid = u; intervals = intervals }))) then.value;
  whole = then.whole ∙ first.whole;
}

pub uuid_breaks : (before : Option (List ℕ)) (old : Cut) (at : ℕ) → FaultsAt (field (begins_uuid before) 16) old at → FaultsAt (next_source_above before) old at
unfolding next_source_above
uuid_breaks before old at h = record { fault = ap (λ r. go_on r (λ uuid. list_of 1 next_interval_after >>= λ intervals. pure (record { uuid = uuid; intervals = intervals }))) h.fault; within = h.within }

pub source_breaks : (before : Option (List ℕ)) (old mid : Cut) (u : List ℕ) (e : Unread) → Takes (field (begins_uuid before) 16) old u mid → Breaks (list_of 1 next_interval_after) mid e → Breaks (next_source_above before) old e
unfolding next_source_above
source_breaks before old mid u Memory first h = tt
source_breaks before old mid u (Misfit at) first h = record {
  fault = ap (λ r. go_on r (λ uuid. list_of 1 next_interval_after >>= λ intervals. pure (record { uuid = uuid; intervals = intervals }))) first.value ∙ ap (λ r. go_on r (λ intervals. pure (record { uuid = u; intervals = intervals }))) h.fault ∙ ap (λ t. Fault (t - at)) first.whole;
  within = omega (arith, h.within, first.whole);
}

set_breaks : (old : Cut) (at : ℕ) → FaultsAt (list_of 0 next_source_after) old at → FaultsAt next_set old at
unfolding next_set
set_breaks old at h = record { fault = ap (λ r. go_on r (λ sources. pure (runs_of sources))) h.fault; within = h.within }

pub set_count_breaks : (old : Cut) (at : ℕ) → FaultsAt (number_in 4 0 4294967295) old at → FaultsAt next_set old at
set_count_breaks old at h = set_breaks old at (count_breaks 0 next_source_after old at h)

pub set_got : (old mid new : Cut) (n i : ℕ) (before : Option (List ℕ)) (runs : Gtids) → Takes (number_in 4 0 4294967295) old n mid → SourcesSoFar n mid.left i before runs new.left → n ≤ i → new.total ≡ mid.total → Takes next_set old runs new
unfolding next_set
set_got old mid new n i before runs counted h le same =
    let t = list_got 0 next_source_after old mid new n h.done counted (all_sources n mid.left i before runs new.left h le) same in
    record { value = ap (λ r. go_on r (λ sources. pure (runs_of sources))) t.value ∙ ap (λ xs. Got xs new.left) (sym h.put); whole = t.whole }

pub set_source_breaks : (old start mid : Cut) (n i : ℕ) (before : Option (List ℕ)) (runs : Gtids) (e : Unread) → Takes (number_in 4 0 4294967295) old n start → SourcesSoFar n start.left i before runs mid.left → i < n → mid.total ≡ start.total
    → Breaks (next_source_above before) mid e → Breaks next_set old e
set_source_breaks old start mid n i before runs Memory counted h lt same b = tt
set_source_breaks old start mid n i before runs (Misfit at) counted h lt same b =
    set_breaks old at (list_breaks 0 next_source_after old start n at mid.total counted (sources_break n start.left i before runs mid.left (mid.total - at) h lt b.fault) same b.within)
