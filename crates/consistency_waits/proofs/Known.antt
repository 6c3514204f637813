-- The sessions that ever began ascend, and one whose begin is held is among them.
use Rattle.std.proofs.Common.{◌≡◌, ℕ, Bool, true, false, ◌&&◌, ◌||◌, Option, Some, None, List, [], ◌∷◌, refl, sym, ap, ◌∙◌}
use Rattle.std.specs.Prelude.{nat_lt, is_some, ◌==◌}
use Rattle.std.specs.List.{list_all, list_any}
use Rattle.std.proofs.lemmas.Bool.{and_from, and_parts, eqb-true, eqb-false, ne_eqb, false≢true}
use Rattle.group_rules.specs.Events.{AskFails, AsksCommit, Answered, Begun, Called, Came, Changed, Calls, Committed, Done, Ends, Enters, Founds, Gave, Hears, Is, Life, Made, Operates, Replied, Restores, Skips, Starts, Ticks, Took, Works}
use Rattle.group_rules.specs.Sessions.{Call, is_holding, last_call, one_tick, phase, sessions, with_session}
use Rattle.consistency_waits.proofs.Ascending.{lt_trans, other_way}

abbrev pub has_session : List ℕ → ℕ → Bool
has_session ss t = list_any (λ s. s == t) ss

abbrev pub rise : List ℕ → Bool
rise [] = true
rise (s ∷ ss) = list_all (nat_lt s) ss && rise ss

-- ---- one more

pub with_has : (ss : List ℕ) (n t : ℕ) → has_session (with_session ss n) t ≡ ((n == t) || has_session ss t)
with_has [] n t = refl
with_has (x ∷ xs) n t = go (nat_lt n x) refl (n == x) refl (with_has xs n t)
  where
    twice : (a b : Bool) → (a || b) ≡ (a || (a || b))
    twice true b = refl
    twice false b = refl

    swap : (a b c : Bool) → (a || (b || c)) ≡ (b || (a || c))
    swap true true c = refl
    swap true false c = refl
    swap false true c = refl
    swap false false c = refl

    go : (b : Bool) → nat_lt n x ≡ b → (e : Bool) → (n == x) ≡ e → has_session (with_session xs n) t ≡ ((n == t) || has_session xs t) → has_session (with_session (x ∷ xs) n) t ≡ ((n == t) || ((x == t) || has_session xs t))
    go true f e g r = rw (with_session, f) refl
    go false f true g r = rw (with_session, f, g) (twice (x == t) (has_session xs t) ∙ ap (λ (y : ℕ). (y == t) || ((x == t) || has_session xs t)) (sym (eqb-true n x g)))
    go false f false g r = rw (with_session, f, g) (ap (λ (b : Bool). (x == t) || b) r ∙ swap (x == t) (n == t) (has_session xs t))

all_with_session : (ss : List ℕ) (s n : ℕ) → nat_lt s n ≡ true → list_all (nat_lt s) ss ≡ true → list_all (nat_lt s) (with_session ss n) ≡ true
all_with_session [] s n h k = rw h refl
all_with_session (x ∷ xs) s n h k =
    let both = and_parts (nat_lt s x) (list_all (nat_lt s) xs) k in
    go (nat_lt n x) refl (n == x) refl both.0 (all_with_session xs s n h both.1)
  where
    go : (b : Bool) → nat_lt n x ≡ b → (e : Bool) → (n == x) ≡ e → nat_lt s x ≡ true → list_all (nat_lt s) (with_session xs n) ≡ true → list_all (nat_lt s) (with_session (x ∷ xs) n) ≡ true
    go true f e g m r = rw (with_session, f) (and_from (nat_lt s n) (list_all (nat_lt s) (x ∷ xs)) h k)
    go false f true g m r = rw (with_session, f, g) k
    go false f false g m r = rw (with_session, f, g) (and_from (nat_lt s x) (list_all (nat_lt s) (with_session xs n)) m r)

below_all : (s t : ℕ) (ss : List ℕ) → nat_lt s t ≡ true → list_all (nat_lt t) ss ≡ true → list_all (nat_lt s) ss ≡ true
below_all s t [] h k = refl
below_all s t (x ∷ xs) h k =
    let both = and_parts (nat_lt t x) (list_all (nat_lt t) xs) k in
    and_from (nat_lt s x) (list_all (nat_lt s) xs) (lt_trans s t x h both.0) (below_all s t xs h both.1)

with_rises : (ss : List ℕ) (n : ℕ) → rise ss ≡ true → rise (with_session ss n) ≡ true
with_rises [] n h = refl
with_rises (x ∷ xs) n h =
    let both = and_parts (list_all (nat_lt x) xs) (rise xs) h in
    go (nat_lt n x) refl (n == x) refl both.0 (with_rises xs n both.1)
  where
    apart : (n == x) ≡ false → (x == n) ≡ false
    apart g = ne_eqb x n (λ e. eqb-false n x g (sym e))

    go : (b : Bool) → nat_lt n x ≡ b → (e : Bool) → (n == x) ≡ e → list_all (nat_lt x) xs ≡ true → rise (with_session xs n) ≡ true → rise (with_session (x ∷ xs) n) ≡ true
    go true f e g m r = rw (with_session, f) (and_from (list_all (nat_lt n) (x ∷ xs)) (rise (x ∷ xs)) (and_from (nat_lt n x) (list_all (nat_lt n) xs) f (below_all n x xs f m)) h)
    go false f true g m r = rw (with_session, f, g) h
    go false f false g m r = rw (with_session, f, g) (and_from (list_all (nat_lt x) (with_session xs n)) (rise (with_session xs n)) (all_with_session xs x n (other_way n x f (apart g)) m) r)

-- ---- of a history

pub sessions_rise : (l : Life) → rise (sessions l) ≡ true
sessions_rise [] = refl
sessions_rise (Founds ∷ l) = sessions_rise l
sessions_rise ((Starts x) ∷ l) = sessions_rise l
sessions_rise ((Came (Hears m)) ∷ l) = sessions_rise l
sessions_rise ((Came Ticks) ∷ l) = sessions_rise l
sessions_rise ((Came (Works p b)) ∷ l) = sessions_rise l
sessions_rise ((Came (Calls n r)) ∷ l) = sessions_rise l
sessions_rise ((Came (Operates o)) ∷ l) = sessions_rise l
sessions_rise ((Made v y) ∷ l) = sessions_rise l
sessions_rise ((Took e) ∷ l) = sessions_rise l
sessions_rise ((Skips n v) ∷ l) = sessions_rise l
sessions_rise ((Done p) ∷ l) = sessions_rise l
sessions_rise ((Committed g) ∷ l) = sessions_rise l
sessions_rise ((Is m c) ∷ l) = sessions_rise l
sessions_rise ((Gave p n) ∷ l) = sessions_rise l
sessions_rise ((Answered n a) ∷ l) = sessions_rise l
sessions_rise ((Begun n e y) ∷ l) = sessions_rise l
sessions_rise ((Changed n c) ∷ l) = sessions_rise l
sessions_rise ((Replied r) ∷ l) = sessions_rise l
sessions_rise ((AsksCommit n i) ∷ l) = sessions_rise l
sessions_rise ((Ends n) ∷ l) = sessions_rise l
sessions_rise ((Enters w) ∷ l) = sessions_rise l
sessions_rise ((Restores g cs) ∷ l) = sessions_rise l
sessions_rise (AskFails ∷ l) = sessions_rise l
sessions_rise (Called n v w ∷ l) = with_rises (sessions l) n (sessions_rise l)

-- ---- a begin that is held was called

counted : (o : Option Call) → is_some o ≡ true → is_some (one_tick o) ≡ true
counted None h = h
counted (Some c) h = refl

either_has : (a b : Bool) → b ≡ true → (a || b) ≡ true
either_has true b h = refl
either_has false b h = h

pub known : (l : Life) (t : ℕ) → is_holding (phase l t) ≡ true → (is_some (last_call l t) ≡ true) × (has_session (sessions l) t ≡ true)
known [] t h = absurd (false≢true h)
known (Founds ∷ l) t h = known l t h
known ((Starts x) ∷ l) t h = known l t h
known ((Came (Hears m)) ∷ l) t h = known l t h
known ((Came Ticks) ∷ l) t h = let k = known l t h in (counted (last_call l t) k.0, k.1)
known ((Came (Works p b)) ∷ l) t h = known l t h
known ((Came (Calls n r)) ∷ l) t h = known l t h
known ((Came (Operates o)) ∷ l) t h = known l t h
known ((Made v y) ∷ l) t h = known l t h
known ((Took e) ∷ l) t h = known l t h
known ((Skips n v) ∷ l) t h = known l t h
known ((Done p) ∷ l) t h = known l t h
known ((Committed g) ∷ l) t h = known l t h
known ((Is m c) ∷ l) t h = known l t h
known ((Gave p n) ∷ l) t h = known l t h
known ((Answered n a) ∷ l) t h = known l t h
known ((Begun n e y) ∷ l) t h = go (n == t) refl (known l t)
  where
    go : (b : Bool) → (n == t) ≡ b → (is_holding (phase l t) ≡ true → (is_some (last_call l t) ≡ true) × (has_session (sessions l) t ≡ true)) → (is_some (last_call l t) ≡ true) × (has_session (sessions l) t ≡ true)
    go true f k = absurd (false≢true (rw (phase, f) at h))
    go false f k = k (rw (phase, f) at h)
known ((Changed n c) ∷ l) t h = known l t h
known ((Replied r) ∷ l) t h = known l t h
known ((AsksCommit n i) ∷ l) t h = go (n == t) refl (known l t)
  where
    go : (b : Bool) → (n == t) ≡ b → (is_holding (phase l t) ≡ true → (is_some (last_call l t) ≡ true) × (has_session (sessions l) t ≡ true)) → (is_some (last_call l t) ≡ true) × (has_session (sessions l) t ≡ true)
    go true f k = absurd (false≢true (rw (phase, f) at h))
    go false f k = k (rw (phase, f) at h)
known ((Ends n) ∷ l) t h = go (n == t) refl (known l t)
  where
    go : (b : Bool) → (n == t) ≡ b → (is_holding (phase l t) ≡ true → (is_some (last_call l t) ≡ true) × (has_session (sessions l) t ≡ true)) → (is_some (last_call l t) ≡ true) × (has_session (sessions l) t ≡ true)
    go true f k = absurd (false≢true (rw (phase, f) at h))
    go false f k = k (rw (phase, f) at h)
known ((Enters w) ∷ l) t h = known l t h
known ((Restores g cs) ∷ l) t h = known l t h
known (AskFails ∷ l) t h = known l t h
known (Called n v w ∷ l) t h = go (n == t) refl (known l t)
  where
    go : (b : Bool) → (n == t) ≡ b → (is_holding (phase l t) ≡ true → (is_some (last_call l t) ≡ true) × (has_session (sessions l) t ≡ true))
        → (is_some (last_call (Called n v w ∷ l) t) ≡ true) × (has_session (with_session (sessions l) n) t ≡ true)
    go true f k = (rw (last_call, f) refl, with_has (sessions l) n t ∙ (rw f refl))
    go false f k =
        let old = k (rw (phase, f) at h) in
        let there : is_some (last_call (Called n v w ∷ l) t) ≡ true = rw (last_call, f) old.0 in
        (there, with_has (sessions l) n t ∙ either_has (n == t) (has_session (sessions l) t) old.1)
