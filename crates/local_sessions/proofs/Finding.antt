-- What a session is after a change of the list.
use Rattle.std.proofs.Common.{◌≡◌, ℕ, Bool, true, false, Some, None, List, [], ◌∷◌, map, refl, ap, ◌∙◌}
use Rattle.std.specs.Prelude.{nat_lt, ◌==◌}
use Rattle.std.specs.Option.{option_map}
use Rattle.std.proofs.lemmas.Bool.{eqb-true, eq-eqb}
use Rattle.local_sessions.specs.Standing.{Session, is_of, session_in, changed_at, with_session, without}
use Rattle.local_sessions.proofs.Order.{Keeps}

-- the one that is changed
pub changed_same : (s : ℕ) (f : Session → Session) (xs : List Session) → Keeps f → session_in (changed_at s f xs) s ≡ option_map f (session_in xs s)
changed_same s f [] k = refl
changed_same s f (x ∷ xs) k = go (is_of s x) refl (changed_same s f xs k)
  where
    go : (b : Bool) → is_of s x ≡ b → session_in (changed_at s f xs) s ≡ option_map f (session_in xs s) → session_in (changed_at s f (x ∷ xs)) s ≡ option_map f (session_in (x ∷ xs) s)
    go true g r = let h : is_of s (f x) ≡ true = ap (λ n. n == s) (k x) ∙ g in rw g (rw h refl)
    go false g r = rw g (rw g r)

-- any other
pub changed_other : (s t : ℕ) (f : Session → Session) (xs : List Session) → Keeps f → (s == t) ≡ false → session_in (changed_at s f xs) t ≡ session_in xs t
changed_other s t f [] k n = refl
changed_other s t f (x ∷ xs) k n = go (is_of s x) (is_of t x) refl refl (changed_other s t f xs k n)
  where
    go : (b d : Bool) → is_of s x ≡ b → is_of t x ≡ d → session_in (changed_at s f xs) t ≡ session_in xs t → session_in (changed_at s f (x ∷ xs)) t ≡ session_in (x ∷ xs) t
    go true d g h r =
        let same : x.session ≡ s = eqb-true x.session s g in
        let away : is_of t x ≡ false = ap (λ n. n == t) same ∙ n in
        let away_too : is_of t (f x) ≡ false = ap (λ n. n == t) (k x) ∙ away in
        rw g (rw (away, away_too) refl)
    go false true g h r = rw g (rw h refl)
    go false false g h r = rw g (rw h r)

pub without_same : (s : ℕ) (xs : List Session) → session_in (without s xs) s ≡ None
without_same s [] = refl
without_same s (x ∷ xs) = go (is_of s x) refl (without_same s xs)
  where
    go : (b : Bool) → is_of s x ≡ b → session_in (without s xs) s ≡ None → session_in (without s (x ∷ xs)) s ≡ None
    go true g r = rw g r
    go false g r = rw g (rw g r)

pub without_other : (s t : ℕ) (xs : List Session) → (s == t) ≡ false → session_in (without s xs) t ≡ session_in xs t
without_other s t [] n = refl
without_other s t (x ∷ xs) n = go (is_of s x) (is_of t x) refl refl (without_other s t xs n)
  where
    go : (b d : Bool) → is_of s x ≡ b → is_of t x ≡ d → session_in (without s xs) t ≡ session_in xs t → session_in (without s (x ∷ xs)) t ≡ session_in (x ∷ xs) t
    go true d g h r = let same : x.session ≡ s = eqb-true x.session s g in let away : is_of t x ≡ false = ap (λ n. n == t) same ∙ n in rw (g, away) r
    go false true g h r = rw g (rw h refl)
    go false false g h r = rw g (rw h r)

pub with_same : (xs : List Session) (x : Session) → session_in xs x.session ≡ None → session_in (with_session xs x) x.session ≡ Some x
with_same [] x n = rw (eq-eqb x.session x.session refl) refl
with_same (y ∷ ys) x n = go (nat_lt x.session y.session) (is_of x.session y) refl refl (with_same ys x)
  where
    go : (b d : Bool) → nat_lt x.session y.session ≡ b → is_of x.session y ≡ d → (session_in ys x.session ≡ None → session_in (with_session ys x) x.session ≡ Some x) → session_in (with_session (y ∷ ys) x) x.session ≡ Some x
    go true d g h r = rw g (rw (eq-eqb x.session x.session refl) refl)
    go false true g h r = absurd (let z : Some y ≡ None = rw h at n in cc)
    go false false g h r = let rest : session_in ys x.session ≡ None = rw h at n in rw g (rw h (r rest))

pub with_other : (xs : List Session) (x : Session) (t : ℕ) → (x.session == t) ≡ false → session_in (with_session xs x) t ≡ session_in xs t
with_other [] x t n = rw n refl
with_other (y ∷ ys) x t n = go (nat_lt x.session y.session) (is_of t y) refl refl (with_other ys x t n)
  where
    go : (b d : Bool) → nat_lt x.session y.session ≡ b → is_of t y ≡ d → session_in (with_session ys x) t ≡ session_in ys t → session_in (with_session (y ∷ ys) x) t ≡ session_in (y ∷ ys) t
    go true d g h r = rw g (rw n refl)
    go false true g h r = rw g (rw h refl)
    go false false g h r = rw g (rw h r)

pub map_in : (f : Session → Session) (xs : List Session) (t : ℕ) → Keeps f → session_in (map f xs) t ≡ option_map f (session_in xs t)
map_in f [] t k = refl
map_in f (x ∷ xs) t k = go (is_of t x) refl (map_in f xs t k)
  where
    go : (b : Bool) → is_of t x ≡ b → session_in (map f xs) t ≡ option_map f (session_in xs t) → session_in (map f (x ∷ xs)) t ≡ option_map f (session_in (x ∷ xs) t)
    go true g r = let h : is_of t (f x) ≡ true = ap (λ n. n == t) (k x) ∙ g in rw (g, h) refl
    go false g r = let h : is_of t (f x) ≡ false = ap (λ n. n == t) (k x) ∙ g in rw (g, h) r
