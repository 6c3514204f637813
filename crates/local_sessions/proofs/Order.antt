-- The sessions ascend, whatever comes, changes and goes.
use Rattle.std.proofs.Common.{◌≡◌, ℕ, ◌<◌, ◌≤◌, Bool, true, false, ◌&&◌, Option, Some, None, List, [], ◌∷◌, map, filter, refl, sym, ap, ◌∙◌, arith}
use Rattle.std.specs.Prelude.{nat_lt, ◌==◌}
use Rattle.std.proofs.lemmas.Bool.{and_parts, lt-ltb, ltb-true, ltb-false, eqb-false}
use Rattle.local_sessions.specs.declared.told.Answered.{Answered}
use Rattle.local_sessions.specs.declared.told.TakenOwn.{TakenOwn}
use Rattle.group_rules.specs.declared.answers.Answer.{Answer}
use Rattle.local_sessions.specs.Standing.{Session, ascend, is_of, session_in, changed_at, with_session}
use Rattle.gr_ids.specs.declared.names.Gtid.{Gtid}
use Rattle.local_sessions.specs.Others.{can_lose, has_session, killed_by, answer_at, answered, answers_left, answers_ascend}

-- the first of these is above the session
abbrev pub tops : ℕ → List Session → Bool
tops s [] = true
tops s (x ∷ xs) = nat_lt s x.session

pub on_top : (x : Session) (xs : List Session) → ascend (x ∷ xs) ≡ (tops x.session xs && ascend xs)
on_top x [] = refl
on_top x (y ∷ ys) = refl

put : (x : Session) (xs : List Session) → tops x.session xs ≡ true → ascend xs ≡ true → ascend (x ∷ xs) ≡ true
put x xs h k = on_top x xs ∙ rw h k

pub parts : (x : Session) (xs : List Session) → ascend (x ∷ xs) ≡ true → (tops x.session xs ≡ true) × (ascend xs ≡ true)
parts x xs h = and_parts (tops x.session xs) (ascend xs) (sym (on_top x xs) ∙ h)

lt_trans : (a b c : ℕ) → nat_lt a b ≡ true → nat_lt b c ≡ true → nat_lt a c ≡ true
lt_trans a b c h k = let x : a < b = ltb-true a b h in let y : b < c = ltb-true b c k in lt-ltb a c (omega (arith, x, y))

tops_lower : (s t : ℕ) (xs : List Session) → nat_lt s t ≡ true → tops t xs ≡ true → tops s xs ≡ true
tops_lower s t [] h k = refl
tops_lower s t (x ∷ xs) h k = lt_trans s t x.session h k

-- ---- what is left

tops_filter : (p : Session → Bool) (s : ℕ) (xs : List Session) → tops s xs ≡ true → ascend xs ≡ true → tops s (filter p xs) ≡ true
tops_filter p s [] h k = refl
tops_filter p s (x ∷ xs) h k = go (p x) refl (tops_filter p s xs (tops_lower s x.session xs h (parts x xs k).0) (parts x xs k).1)
  where
    go : (b : Bool) → p x ≡ b → tops s (filter p xs) ≡ true → tops s (filter p (x ∷ xs)) ≡ true
    go true f r = rw f h
    go false f r = rw f r

pub ascend_filter : (p : Session → Bool) (xs : List Session) → ascend xs ≡ true → ascend (filter p xs) ≡ true
ascend_filter p [] h = refl
ascend_filter p (x ∷ xs) h = go (p x) refl (ascend_filter p xs (parts x xs h).1)
  where
    go : (b : Bool) → p x ≡ b → ascend (filter p xs) ≡ true → ascend (filter p (x ∷ xs)) ≡ true
    go true f r = rw f (put x (filter p xs) (tops_filter p x.session xs (parts x xs h).0 (parts x xs h).1) r)
    go false f r = rw f r

-- ---- what changes

abbrev pub Keeps : (Session → Session) → Type 0
Keeps f = (x : Session) → (f x).session ≡ x.session

tops_map : (f : Session → Session) (s : ℕ) (xs : List Session) → Keeps f → tops s (map f xs) ≡ tops s xs
tops_map f s [] k = refl
tops_map f s (x ∷ xs) k = ap (nat_lt s) (k x)

pub ascend_map : (f : Session → Session) (xs : List Session) → Keeps f → ascend (map f xs) ≡ ascend xs
ascend_map f [] k = refl
ascend_map f (x ∷ xs) k = on_top (f x) (map f xs) ∙ (rw (k x, tops_map f x.session xs k, ascend_map f xs k) (sym (on_top x xs)))

tops_changed : (s : ℕ) (f : Session → Session) (t : ℕ) (xs : List Session) → Keeps f → tops t (changed_at s f xs) ≡ tops t xs
tops_changed s f t [] k = refl
tops_changed s f t (x ∷ xs) k = go (is_of s x) refl
  where
    go : (b : Bool) → is_of s x ≡ b → tops t (changed_at s f (x ∷ xs)) ≡ tops t (x ∷ xs)
    go true g = rw g (ap (nat_lt t) (k x))
    go false g = rw g refl

pub ascend_changed : (s : ℕ) (f : Session → Session) (xs : List Session) → Keeps f → ascend (changed_at s f xs) ≡ ascend xs
ascend_changed s f [] k = refl
ascend_changed s f (x ∷ xs) k = go (is_of s x) refl (ascend_changed s f xs k)
  where
    go : (b : Bool) → is_of s x ≡ b → ascend (changed_at s f xs) ≡ ascend xs → ascend (changed_at s f (x ∷ xs)) ≡ ascend (x ∷ xs)
    go true g r = rw g (on_top (f x) xs ∙ (rw (k x) (sym (on_top x xs))))
    go false g r = rw g (on_top x (changed_at s f xs) ∙ (rw (tops_changed s f x.session xs k, r) (sym (on_top x xs))))

-- ---- what comes

tops_with : (s : ℕ) (xs : List Session) (x : Session) → tops s xs ≡ true → nat_lt s x.session ≡ true → tops s (with_session xs x) ≡ true
tops_with s [] x h k = k
tops_with s (y ∷ ys) x h k = go (nat_lt x.session y.session) refl
  where
    go : (b : Bool) → nat_lt x.session y.session ≡ b → tops s (with_session (y ∷ ys) x) ≡ true
    go true f = rw f k
    go false f = rw f h

-- of two numbers that aren't the same, the one that isn't less is greater
other_way : (a b : ℕ) → nat_lt a b ≡ false → (b == a) ≡ false → nat_lt b a ≡ true
other_way a b h k =
    go (nat_lt b a) refl
  where
    go : (u : Bool) → nat_lt b a ≡ u → nat_lt b a ≡ true
    go true f = f
    go false f = let same : b ≡ a = let x : b ≤ a = ltb-false a b h in let y : a ≤ b = ltb-false b a f in omega (arith, x, y) in absurd (eqb-false b a k same)

pub ascend_with : (xs : List Session) (x : Session) → ascend xs ≡ true → session_in xs x.session ≡ None → ascend (with_session xs x) ≡ true
ascend_with [] x h n = refl
ascend_with (y ∷ ys) x h n = go (nat_lt x.session y.session) (is_of x.session y) refl refl (ascend_with ys x (parts y ys h).1)
  where
    go : (b e : Bool) → nat_lt x.session y.session ≡ b → is_of x.session y ≡ e → (session_in ys x.session ≡ None → ascend (with_session ys x) ≡ true) → ascend (with_session (y ∷ ys) x) ≡ true
    go true e f g r = rw f (put x (y ∷ ys) f h)
    go false true f g r = absurd (let z : Some y ≡ None = rw g at n in cc)
    go false false f g r =
        let rest : session_in ys x.session ≡ None = rw g at n in
        rw f (put y (with_session ys x) (tops_with y.session ys x (parts y ys h).0 (other_way x.session y.session f g)) (r rest))

-- ---- the answers of those that end

abbrev tops_answers : ℕ → List Answered → Bool
tops_answers s [] = true
tops_answers s (a ∷ rest) = nat_lt s a.session

answers_top : (ts : List TakenOwn) (s : ℕ) (xs : List Session) → tops s xs ≡ true → ascend xs ≡ true → tops_answers s (answers_left ts xs) ≡ true
answers_top ts s [] h k = refl
answers_top ts s (x ∷ xs) h k = go (answer_at ts x.stage) refl (answers_top ts s xs (tops_lower s x.session xs h (parts x xs k).0) (parts x xs k).1)
  where
    go : (o : Option Answer) → answer_at ts x.stage ≡ o → tops_answers s (answers_left ts xs) ≡ true → tops_answers s (answers_left ts (x ∷ xs)) ≡ true
    go None f r = rw f r
    go (Some a) f r = rw f h

put_answer : (a : Answered) (rest : List Answered) → tops_answers a.session rest ≡ true → answers_ascend rest ≡ true → answers_ascend (a ∷ rest) ≡ true
put_answer a [] h k = refl
put_answer a (b ∷ bs) h k = rw h k

pub answers_are_ascending : (ts : List TakenOwn) (xs : List Session) → ascend xs ≡ true → answers_ascend (answers_left ts xs) ≡ true
answers_are_ascending ts [] h = refl
answers_are_ascending ts (x ∷ xs) h = go (answer_at ts x.stage) refl (answers_are_ascending ts xs (parts x xs h).1)
  where
    go : (o : Option Answer) → answer_at ts x.stage ≡ o → answers_ascend (answers_left ts xs) ≡ true → answers_ascend (answers_left ts (x ∷ xs)) ≡ true
    go None f r = rw f r
    go (Some a) f r = rw f (put_answer (answered a x) (answers_left ts xs) (answers_top ts x.session xs (parts x xs h).0 (parts x xs h).1) r)

pub killed_keeps : (g : Gtid) (ss : List ℕ) → Keeps (killed_by g ss)
killed_keeps g ss x = go (has_session ss x.session && can_lose x.stage) refl
  where
    go : (b : Bool) → (has_session ss x.session && can_lose x.stage) ≡ b → (killed_by g ss x).session ≡ x.session
    go true f = rw f refl
    go false f = rw f refl
