-- Sessions that lose their keys, one after another.
use Rattle.std.proofs.Common.{◌≡◌, ℕ, zero, suc, ◌+◌, ◌<◌, ◌≤◌, Bool, true, false, ◌&&◌, Option, Some, None, List, [], ◌∷◌, drop, length, get_or, drop-cons, refl, sym, ap, ◌∙◌, arith}
use Rattle.std.specs.Prelude.{◌==◌}
use Rattle.std.proofs.lemmas.Bool.{eqb-true, eqb-false, eq-eqb, ne_eqb}
use Rattle.row_locks.specs.Locking.{without_session}
use Rattle.local_sessions.specs.Standing.{Session}
use Rattle.local_sessions.specs.Others.{has_session, loses, unless_killed}

and_false : (b : Bool) → (b && false) ≡ false
and_false true = refl
and_false false = refl

-- one that can't lose its keys keeps them
pub kept_one : (xs : List Session) (s : ℕ) (ss : List ℕ) (k : Option ℕ) → loses xs s ≡ false → unless_killed xs ss k ≡ unless_killed xs (s ∷ ss) k
kept_one xs s ss None h = refl
kept_one xs s ss (Some t) h = go (s == t) refl
  where
    go : (b : Bool) → (s == t) ≡ b → unless_killed xs ss (Some t) ≡ unless_killed xs (s ∷ ss) (Some t)
    go true f = let same : s ≡ t = eqb-true s t f in let n : loses xs t ≡ false = ap (loses xs) (sym same) ∙ h in rw (f, n) (rw (and_false (has_session ss t)) refl)
    go false f = rw f refl

-- one that is killed loses all
pub lost_one : (xs : List Session) (s : ℕ) (ss : List ℕ) (k : Option ℕ) → loses xs s ≡ true → unless_killed xs ss (without_session s k) ≡ unless_killed xs (s ∷ ss) k
lost_one xs s ss None h = refl
lost_one xs s ss (Some t) h = go (t == s) refl
  where
    go : (b : Bool) → (t == s) ≡ b → unless_killed xs ss (without_session s (Some t)) ≡ unless_killed xs (s ∷ ss) (Some t)
    go true f = let same : t ≡ s = eqb-true t s f in rw (f, same, h, eq-eqb s s refl) refl
    go false f = let other : (s == t) ≡ false = ne_eqb s t (λ e. eqb-false t s f (sym e)) in rw (f, other) refl

pub none_killed : (xs : List Session) (k : Option ℕ) → unless_killed xs [] k ≡ k
none_killed xs None = refl
none_killed xs (Some t) = refl

-- one, and then the others
pub one_then : (xs : List Session) (s : ℕ) (ss : List ℕ) (k : Option ℕ) → unless_killed xs ss (unless_killed xs (s ∷ []) k) ≡ unless_killed xs (s ∷ ss) k
one_then xs s ss None = refl
one_then xs s ss (Some t) = go (s == t) (loses xs t) refl refl
  where
    go : (b l : Bool) → (s == t) ≡ b → loses xs t ≡ l → unless_killed xs ss (unless_killed xs (s ∷ []) (Some t)) ≡ unless_killed xs (s ∷ ss) (Some t)
    go true true f g = rw (f, g) refl
    go true false f g = rw (f, g) (rw (g, and_false (has_session ss t)) refl)
    go false l f g = rw f refl

-- ---- a walk over the losers

pub next_of : (ss : List ℕ) (n s : ℕ) → n < length ss → s ≡ get_or ss n s → drop n ss ≡ s ∷ drop (n + 1) ss
next_of ss n s h e =
    let f : drop n ss ≡ get_or ss n s ∷ drop (suc n) ss = drop-cons ss n s h in
    let t : suc n ≡ n + 1 = omega arith in
    f ∙ (ap (λ y. y ∷ drop (suc n) ss) (sym e) ∙ ap (λ m. s ∷ drop m ss) t)

pub none_after : (ss : List ℕ) (n : ℕ) → length ss ≤ n → drop n ss ≡ []
none_after [] zero h = refl
none_after [] (suc n) h = refl
none_after (x ∷ xs) zero h = absurd (omega (arith, h))
none_after (x ∷ xs) (suc n) h = none_after xs n (omega (arith, h))
