-- A GTID put in among runs: the list after each way out.
use Rattle.std.proofs.Common.{◌≡◌, ℕ, suc, ◌+◌, ◌<◌, Bool, true, false, [], ◌∷◌, ◌++◌, length, get_or, set, take, drop, refl, sym, ap, subst, ◌∙◌, arith, add-one, append_assoc}
use Rattle.std.specs.Prelude.{insert, remove}
use Rattle.std.proofs.lemmas.Bool.Decides.{nat_tests}
use Rattle.std.proofs.lemmas.List.{set_split, drop_more, drop_all, take_all, take_more_set, drop-set-lt}
use Rattle.gr_ids.specs.declared.names.Gtid.{Gtid}
use Rattle.gtid_sets.specs.Sets.{Run, Gtids, single, before_run, joined, with_run, with_gtid}
use Rattle.gtid_sets.specs.Canonical.{IsUuid, IsRun, IsBefore, IsCanonical, IsNumber}
use Rattle.gtid_sets.specs.Places.{runs_before, joined_next}
use Rattle.gtid_sets.proofs.Keys.{before_run-key}
use Rattle.gtid_sets.proofs.RunLemmas.{Touch, joined_run, touch, with_run-before, with_run-touch, canonical_with_run, canonical_drop}
use Rattle.gtid_sets.proofs.Searching.{at_place, with_gtid_at}

-- ---- a run in the place of another

pub put_last : (s : Gtids) (i : ℕ) (r : Run) → i < length s → i + 1 ≡ length s → set s i r ≡ take i s ++ joined_next r (drop (i + 1) s)
unfolding joined_next
put_last s i r lt e =
    let none : drop (i + 1) s ≡ [] = drop_all (i + 1) s (omega arith) in
    let same : drop (suc i) s ≡ [] = ap (λ k. drop k s) (sym (add-one i)) ∙ none in
    set_split s i r lt ∙ ap (λ xs. take i s ++ r ∷ xs) same ∙ ap (λ xs. take i s ++ joined_next r xs) (sym none)

next_before : (s : Gtids) (i : ℕ) (d r : Run) → i < length s → true ≡ before_run r (get_or s i d) → joined_next r (drop i s) ≡ r ∷ drop i s
unfolding joined_next
next_before s i d r lt h =
    let split = drop_more s i d lt in
    let here : joined_next r (get_or s i d ∷ drop (i + 1) s) ≡ r ∷ get_or s i d ∷ drop (i + 1) s = rw (joined_next, sym h) refl in
    ap (joined_next r) split ∙ here ∙ ap (λ xs. r ∷ xs) (sym split)

next_joined : (s : Gtids) (i : ℕ) (d r : Run) → i < length s → false ≡ before_run r (get_or s i d) → joined_next r (drop i s) ≡ joined r (get_or s i d) ∷ drop (i + 1) s
unfolding joined_next
next_joined s i d r lt h =
    let split = drop_more s i d lt in
    let here : joined_next r (get_or s i d ∷ drop (i + 1) s) ≡ joined r (get_or s i d) ∷ drop (i + 1) s = rw (joined_next, sym h) refl in
    ap (joined_next r) split ∙ here

pub put_before : (s : Gtids) (i : ℕ) (x r : Run) → x ≡ get_or s (i + 1) x → i + 1 < length s → true ≡ before_run r x → set s i r ≡ take i s ++ joined_next r (drop (i + 1) s)
put_before s i x r ex lt h = set_split s i r (omega arith) ∙ ap (λ k. take i s ++ r ∷ drop k s) (sym (add-one i)) ∙ ap (λ xs. take i s ++ xs) (sym (next_before s (i + 1) x r lt (h ∙ ap (before_run r) ex)))

pub put_joining : (s : Gtids) (i : ℕ) (x r j : Run) → x ≡ get_or s (i + 1) x → i + 1 < length s → false ≡ before_run r x → j ≡ joined r x → remove (set s i j) (i + 1) ≡ take i s ++ joined_next r (drop (i + 1) s)
put_joining s i x r j ex lt h ej =
    let e : j ≡ joined r (get_or s (i + 1) x) = ej ∙ ap (joined r) ex in
    let front : take (i + 1) (set s i j) ≡ take i s ++ j ∷ [] = take_more_set s i j (omega arith) in
    let back : drop (suc (i + 1)) (set s i j) ≡ drop (i + 1 + 1) s = drop-set-lt (suc (i + 1)) s i j (omega arith) ∙ ap (λ k. drop k s) (sym (add-one (i + 1))) in
    let next : joined_next r (drop (i + 1) s) ≡ j ∷ drop (i + 1 + 1) s = next_joined s (i + 1) x r lt (h ∙ ap (before_run r) ex) ∙ ap (λ y. y ∷ drop (i + 1 + 1) s) (sym e) in
    rw (front, back, next) (append_assoc (take i s) (j ∷ []) (drop (i + 1 + 1) s))

-- ---- a GTID

pub put_end : (s : Gtids) (g : Gtid) (i : ℕ) (r : Run) → IsUuid g.source → IsCanonical s → i ≡ runs_before s g → r ≡ single g → i ≡ length s → s ++ r ∷ [] ≡ with_gtid s g
put_end s g i r hg hs e er end =
    let at : runs_before s g ≡ length s = sym e ∙ end in
    let all : take (runs_before s g) s ≡ s = take_all (runs_before s g) s (omega arith) in
    let none : drop (runs_before s g) s ≡ [] = drop_all (runs_before s g) s (omega arith) in
    ap (λ x. s ++ x ∷ []) er ∙ sym (with_gtid_at s g hg hs ∙ ap (λ xs. xs ++ with_run (drop (runs_before s g) s) (single g)) all ∙ ap (λ xs. s ++ with_run xs (single g)) none)

pub put_between : (s : Gtids) (g : Gtid) (i : ℕ) (d r : Run) → IsUuid g.source → IsCanonical s → i ≡ runs_before s g → r ≡ single g → d ≡ get_or s i d → i < length s → true ≡ before_run r d → insert s i r ≡ with_gtid s g
put_between s g i d r hg hs e er ed lt hd =
    let h = hd ∙ ap (before_run r) ed in
    let split = drop_more s i d lt in
    let before : before_run (single g) (get_or s i d) ≡ true = ap (λ x. before_run x (get_or s i d)) (sym er) ∙ sym h in
    let here : with_run (drop i s) (single g) ≡ single g ∷ drop i s = ap (λ xs. with_run xs (single g)) split ∙ with_run-before (get_or s i d) (drop (i + 1) s) (single g) before ∙ ap (λ xs. single g ∷ xs) (sym split) in
    let at : with_gtid s g ≡ take i s ++ with_run (drop i s) (single g) = with_gtid_at s g hg hs ∙ ap (λ k. take k s ++ with_run (drop k s) (single g)) (sym e) in
    ap (λ x. take i s ++ x ∷ drop i s) er ∙ sym (at ∙ ap (λ xs. take i s ++ xs) here)

-- a run that reaches no further than the one that it joins touches at most the next one
joins_next : (r : Run) (rs : Gtids) (g : Gtid) → IsUuid g.source → IsNumber g.number → IsCanonical (r ∷ rs) → before_run (single g) r ≡ false → before_run r (single g) ≡ false → with_run rs (joined (single g) r) ≡ joined_next (joined (single g) r) rs
unfolding joined_next
joins_next r [] g hg n hs p q = refl
joins_next r (s ∷ rs) g hg n hs p q = by_test (before_run (joined (single g) r) s) refl
  where
    is_single : IsRun (single g)
    is_single = record { uuid = hg; positive = n.0; ordered = omega arith; bounded = n.1 }

    t : Touch (single g) r
    t = touch (single g) r is_single hs.0 p q

    is_joined : IsRun (joined (single g) r)
    is_joined = joined_run (single g) r is_single hs.0 t

    after : before_run s (joined (single g) r) ≡ false
    after =
        let k = sym (before_run-key r s hs.0 hs.2.0) ∙ hs.1 in
        before_run-key s (joined (single g) r) hs.2.0 is_joined ∙ grind (arith, nat_tests, k, t.source, t.left, t.right, hs.0.ordered, hs.2.0.ordered)

    further : before_run (joined (single g) r) s ≡ false → (rest : Gtids) → IsBefore s rest → IsCanonical rest → with_run rest (joined (joined (single g) r) s) ≡ joined (joined (single g) r) s ∷ rest
    further f [] b c = refl
    further f (u ∷ us) b c =
        let t2 = touch (joined (single g) r) s is_joined hs.2.0 f after in
        let k = sym (before_run-key s u hs.2.0 c.0) ∙ b in
        let kr = sym (before_run-key r s hs.0 hs.2.0) ∙ hs.1 in
        with_run-before u us (joined (joined (single g) r) s) (before_run-key (joined (joined (single g) r) s) u (joined_run (joined (single g) r) s is_joined hs.2.0 t2) c.0 ∙ grind (arith, nat_tests, k, kr, t.source, t.left, t.right, t2.source, hs.2.0.ordered))

    by_test : (x : Bool) → x ≡ before_run (joined (single g) r) s → with_run (s ∷ rs) (joined (single g) r) ≡ (elim x [ true ↦ joined (single g) r ∷ s ∷ rs | false ↦ joined (joined (single g) r) s ∷ rs ])
    by_test true e = with_run-before s rs (joined (single g) r) (sym e)
    by_test false e = with_run-touch s rs (joined (single g) r) (sym e) after ∙ further (sym e) rs hs.2.1 hs.2.2

pub put_touching : (s : Gtids) (g : Gtid) (i : ℕ) (d r j : Run) → IsUuid g.source → IsNumber g.number → IsCanonical s → i ≡ runs_before s g → r ≡ single g → d ≡ get_or s i d → i < length s → false ≡ before_run r d → j ≡ joined r d
    → take i s ++ joined_next j (drop (i + 1) s) ≡ with_gtid s g
put_touching s g i d r j hg n hs e er ed lt hd ejd =
    let h = hd ∙ ap (before_run r) ed in
    let ej = ejd ∙ ap (joined r) ed in
    let split = drop_more s i d lt in
    let left : before_run (single g) (get_or s i d) ≡ false = ap (λ x. before_run x (get_or s i d)) (sym er) ∙ sym h in
    let right : before_run (get_or s i d) (single g) ≡ false = ap (λ k. before_run (get_or s k d) (single g)) e ∙ at_place s g d (omega arith) in
    let parts : IsCanonical (get_or s i d ∷ drop (i + 1) s) = subst IsCanonical split (canonical_drop s i hs) in
    let there : with_run (drop i s) (single g) ≡ joined_next (joined (single g) (get_or s i d)) (drop (i + 1) s) =
    ap (λ xs. with_run xs (single g)) split ∙ with_run-touch (get_or s i d) (drop (i + 1) s) (single g) left right ∙ joins_next (get_or s i d) (drop (i + 1) s) g hg n parts left right in
    let same : joined (single g) (get_or s i d) ≡ j = ap (λ x. joined x (get_or s i d)) (sym er) ∙ sym ej in
    let at : with_gtid s g ≡ take i s ++ with_run (drop i s) (single g) = with_gtid_at s g hg hs ∙ ap (λ k. take k s ++ with_run (drop k s) (single g)) (sym e) in
    sym (at ∙ ap (λ xs. take i s ++ xs) (there ∙ ap (λ x. joined_next x (drop (i + 1) s)) same))

pub canonical_with_gtid : (s : Gtids) (g : Gtid) → IsUuid g.source → IsNumber g.number → IsCanonical s → IsCanonical (with_gtid s g)
canonical_with_gtid s g hg n hs = canonical_with_run s (single g) hs (record { uuid = hg; positive = n.0; ordered = omega arith; bounded = n.1 })
