-- The transaction that is queued at a place is the one that was certified there.
use Rattle.std.proofs.Common.{◌≡◌, ℕ, Bool, true, false, Option, Some, None, List, [], ◌∷◌, ◌++◌, filter, not, reverse, refl, sym, ap, ◌∙◌, arith}
use Rattle.std.specs.Prelude.{◌==◌, nat_lt}
use Rattle.std.proofs.lemmas.List.{reverse-append}
use Rattle.std.proofs.lemmas.Bool.{eqb-true, ne_eqb, ltb-true, lt-ltb}
use Rattle.gr_ids.specs.declared.names.Inc.{Inc}
use Rattle.gtid_sets.specs.Sets.{has}
use Rattle.group_rules.specs.Events.{Cert, Life}
use Rattle.group_rules.specs.Life.{certs, executed, is_error, state}
use Rattle.group_rules.specs.Queue.{at_place, is_own, queue}
use Rattle.local_sessions.specs.Following.{rise}
use Rattle.local_sessions.proofs.Queued.{behind, rise_parts}

-- ---- among those that are left of a rising list

-- one at a later place stays there behind this one
skip : (d : Cert) (ds : List Cert) (p : ℕ) (c : Cert) → rise (d ∷ ds) ≡ true → at_place ds p ≡ Some c → at_place (d ∷ ds) p ≡ Some c
skip d ds p c k e =
    let up : nat_lt d.place p ≡ true = behind ds p d.place c (rise_parts d ds k).0 (rise_parts d ds k).1 e in
    let other : (d.place == p) ≡ false = ne_eqb d.place p (λ h. let w = ltb-true d.place p up in omega (arith, w, h)) in
    rw other e

twice : (f g : Cert → Bool) (cs : List Cert) (p : ℕ) (c : Cert) → rise cs ≡ true → at_place (filter g (filter f cs)) p ≡ Some c → at_place cs p ≡ Some c
twice f g [] p c k e = e
twice f g (d ∷ ds) p c k e = go (f d) (g d) (d.place == p) refl refl refl (twice f g ds p c (rise_parts d ds k).1)
  where
    go : (a b t : Bool) → f d ≡ a → g d ≡ b → (d.place == p) ≡ t → (at_place (filter g (filter f ds)) p ≡ Some c → at_place ds p ≡ Some c) → at_place (d ∷ ds) p ≡ Some c
    go false b t u v w r = skip d ds p c k (r (rw u at e))
    go true false t u v w r = skip d ds p c k (r (rw (u, v) at e))
    go true true true u v w r = rw w (rw (u, v, w) at e)
    go true true false u v w r = rw w (r (rw (u, v, w) at e))

-- ---- the same list, the other way round

-- the last one is above those before it
before_end : (x : Cert) (xs : List Cert) (d : Cert) → rise (x ∷ xs ++ d ∷ []) ≡ true → nat_lt x.place d.place ≡ true
before_end x [] d k = (rise_parts x (d ∷ []) k).0
before_end x (y ∷ ys) d k =
    let low : nat_lt x.place y.place ≡ true = (rise_parts x (y ∷ ys ++ d ∷ []) k).0 in
    let up : nat_lt y.place d.place ≡ true = before_end y ys d (rise_parts x (y ∷ ys ++ d ∷ []) k).1 in
    lt-ltb x.place d.place (omega (arith, ltb-true x.place y.place low, ltb-true y.place d.place up))

front_rises : (xs : List Cert) (d : Cert) → rise (xs ++ d ∷ []) ≡ true → rise xs ≡ true
front_rises [] d k = refl
front_rises (x ∷ []) d k = refl
front_rises (x ∷ y ∷ ys) d k = rw (rise_parts x (y ∷ ys ++ d ∷ []) k).0 (front_rises (y ∷ ys) d (rise_parts x (y ∷ ys ++ d ∷ []) k).1)

front_below : (xs : List Cert) (d : Cert) (p : ℕ) (c : Cert) → rise (xs ++ d ∷ []) ≡ true → at_place xs p ≡ Some c → nat_lt p d.place ≡ true
front_below [] d p c k e = absurd cc
front_below (x ∷ xs) d p c k e = go (x.place == p) refl (front_below xs d p c (rise_parts x (xs ++ d ∷ []) k).1)
  where
    go : (b : Bool) → (x.place == p) ≡ b → (at_place xs p ≡ Some c → nat_lt p d.place ≡ true) → nat_lt p d.place ≡ true
    go true h r = ap (λ n. nat_lt n d.place) (sym (eqb-true x.place p h)) ∙ before_end x xs d k
    go false h r = r (rw h at e)

found : (xs ys : List Cert) (p : ℕ) (c : Cert) → at_place xs p ≡ Some c → at_place (xs ++ ys) p ≡ Some c
found [] ys p c e = absurd cc
found (x ∷ xs) ys p c e = go (x.place == p) refl (found xs ys p c)
  where
    go : (b : Bool) → (x.place == p) ≡ b → (at_place xs p ≡ Some c → at_place (xs ++ ys) p ≡ Some c) → at_place ((x ∷ xs) ++ ys) p ≡ Some c
    go true h r = rw h (rw h at e)
    go false h r = rw h (r (rw h at e))

missed : (xs ys : List Cert) (p : ℕ) → at_place xs p ≡ None → at_place (xs ++ ys) p ≡ at_place ys p
missed [] ys p e = refl
missed (x ∷ xs) ys p e = go (x.place == p) refl (missed xs ys p)
  where
    go : (b : Bool) → (x.place == p) ≡ b → (at_place xs p ≡ None → at_place (xs ++ ys) p ≡ at_place ys p) → at_place ((x ∷ xs) ++ ys) p ≡ at_place ys p
    go true h r = absurd (let z : Some x ≡ None = rw h at e in cc)
    go false h r = rw h (r (rw h at e))

turned : (ds : List Cert) (p : ℕ) (c : Cert) → rise (reverse ds) ≡ true → at_place (reverse ds) p ≡ Some c → at_place ds p ≡ Some c
turned [] p c k e = e
turned (d ∷ ds) p c k e = go (at_place (reverse ds) p) refl (turned ds p c)
  where
    all : reverse (d ∷ ds) ≡ reverse ds ++ d ∷ []
    all = reverse-append (d ∷ []) ds

    rises : rise (reverse ds ++ d ∷ []) ≡ true
    rises = ap rise (sym all) ∙ k

    here : at_place (reverse ds ++ d ∷ []) p ≡ Some c
    here = ap (λ xs. at_place xs p) (sym all) ∙ e

    go : (o : Option Cert) → at_place (reverse ds) p ≡ o → (rise (reverse ds) ≡ true → at_place (reverse ds) p ≡ Some c → at_place ds p ≡ Some c) → at_place (d ∷ ds) p ≡ Some c
    go None h r = one (d.place == p) refl (sym (missed (reverse ds) (d ∷ []) p h) ∙ here)
      where
        one : (b : Bool) → (d.place == p) ≡ b → at_place (d ∷ []) p ≡ Some c → at_place (d ∷ ds) p ≡ Some c
        one true w s = rw w (rw w at s)
        one false w s = absurd (let z : None ≡ Some c = rw w at s in cc)
    go (Some x) h r =
        let same : Some x ≡ Some c = sym (found (reverse ds) (d ∷ []) p x h) ∙ here in
        let up : nat_lt p d.place ≡ true = front_below (reverse ds) d p x rises h in
        let other : (d.place == p) ≡ false = ne_eqb d.place p (λ q. let w = ltb-true p d.place up in omega (arith, w, q)) in
        rw other (r (front_rises (reverse ds) d rises) (h ∙ same))

pub queued : (l : Life) (me : Inc) (p : ℕ) (c : Cert) → rise (reverse (certs l)) ≡ true → at_place (queue l me) p ≡ Some c → at_place (certs l) p ≡ Some c
queued l me p c k e = go (is_error (state l)) refl
  where
    go : (b : Bool) → is_error (state l) ≡ b → at_place (certs l) p ≡ Some c
    go true h = absurd (let z : None ≡ Some c = rw (queue, h) at e in cc)
    go false h = turned (certs l) p c k (twice (λ x. not (has (executed l) x.gtid)) (λ x. not (is_own me x)) (reverse (certs l)) p c k (rw (queue, h) at e))
