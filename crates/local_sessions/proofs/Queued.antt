-- The places that are done, of those that are queued.
use Rattle.std.proofs.Common.{◌≡◌, ℕ, Bool, true, false, not, Some, List, [], ◌∷◌, ◌++◌, filter, refl, sym, ap, ◌∙◌, arith}
use Rattle.std.specs.Prelude.{◌==◌, nat_lt}
use Rattle.std.proofs.lemmas.Bool.{and_parts, eqb-true, eqb-false, eq-eqb, ne_eqb, lt-ltb, le-ltb, ltb-true, true≢false}
use Rattle.key_items.specs.declared.item.Item.{Item}
use Rattle.key_items.specs.Items.{has_item}
use Rattle.group_rules.specs.Events.{AskFails, AsksCommit, Answered, Begun, Called, Came, Cert, Changed, Committed, Did, Done, Ends, Enters, Founds, Gave, Is, Life, Made, Replied, Restores, Skips, Starts, Took}
use Rattle.group_rules.specs.Queue.{at_place, is_done}
use Rattle.group_rules.specs.Keys.{place_holder}
use Rattle.row_locks.specs.declared.done.DonePlace.{DonePlace}
use Rattle.row_locks.specs.Locking.{place_at, with_place, without_place}
use Rattle.local_sessions.specs.Following.{does_place, done_places, place_of, rise}

-- ---- who is named

pub named : (l : Life) (i : Item) (cs : List Cert) → place_at (done_places l cs) i ≡ place_holder l i cs
named l i [] = refl
named l i (c ∷ cs) = go (has_item c.txn.items i) (is_done l c.place) refl refl (named l i cs)
  where
    go : (h d : Bool) → has_item c.txn.items i ≡ h → is_done l c.place ≡ d → place_at (done_places l cs) i ≡ place_holder l i cs → place_at (done_places l (c ∷ cs)) i ≡ place_holder l i (c ∷ cs)
    go true true e f r = rw (place_holder, f, e) refl
    go false true e f r = rw (place_holder, f, e) r
    go true false e f r = rw (place_holder, f, e) r
    go false false e f r = rw (place_holder, f, e) r

-- ---- none, nothing is done, one more is queued

pub none : (l : Life) (cs : List Cert) → ((p : ℕ) → is_done l p ≡ false) → done_places l cs ≡ []
none l [] h = refl
none l (c ∷ cs) h = rw (h c.place) (none l cs h)

pub passed : (l : Life) (d : Did) (cs : List Cert) → does_place d ≡ false → done_places (d ∷ l) cs ≡ done_places l cs
passed l Founds cs h = refl
passed l (Starts d) cs h = refl
passed l (Came e) cs h = refl
passed l (Made v b) cs h = refl
passed l (Took e) cs h = refl
passed l (Skips t v) cs h = refl
passed l (Done p) cs h = absurd (true≢false h)
passed l (Committed g) cs h = refl
passed l (Is s c) cs h = refl
passed l (Gave p n) cs h = refl
passed l (Answered t x) cs h = refl
passed l (Begun t e y) cs h = refl
passed l (Changed t c) cs h = refl
passed l (Replied r) cs h = refl
passed l (Called t v w) cs h = refl
passed l (AsksCommit t i) cs h = refl
passed l (Ends t) cs h = refl
passed l (Enters w) cs h = refl
passed l (Restores g given) cs h = refl
passed l AskFails cs h = refl

pub taken : (l : Life) (cs : List Cert) (c : Cert) → is_done l c.place ≡ false → done_places l (cs ++ c ∷ []) ≡ done_places l cs
taken l [] c n = rw n refl
taken l (d ∷ ds) c n = go (is_done l d.place) refl (taken l ds c n)
  where
    go : (b : Bool) → is_done l d.place ≡ b → done_places l (ds ++ c ∷ []) ≡ done_places l ds → done_places l ((d ∷ ds) ++ c ∷ []) ≡ done_places l (d ∷ ds)
    go true e r = rw e (ap (λ xs. place_of d ∷ xs) r)
    go false e r = rw e r

-- ---- one more is done

abbrev pub before : ℕ → List Cert → Bool
before p [] = true
before p (c ∷ cs) = nat_lt p c.place

pub rise_parts : (c : Cert) (cs : List Cert) → rise (c ∷ cs) ≡ true → (before c.place cs ≡ true) × (rise cs ≡ true)
rise_parts c [] h = (refl, refl)
rise_parts c (d ∷ ds) h = and_parts (nat_lt c.place d.place) (rise (d ∷ ds)) h

lt_trans : (a b c : ℕ) → nat_lt a b ≡ true → nat_lt b c ≡ true → nat_lt a c ≡ true
lt_trans a b c u v = let x = ltb-true a b u in let y = ltb-true b c v in lt-ltb a c (omega (arith, x, y))

before_trans : (a b : ℕ) (cs : List Cert) → nat_lt a b ≡ true → before b cs ≡ true → before a cs ≡ true
before_trans a b [] h k = refl
before_trans a b (c ∷ cs) h k = lt_trans a b c.place h k

-- behind its place the same are done
same_done : (l : Life) (p : ℕ) (cs : List Cert) → before p cs ≡ true → rise cs ≡ true → done_places (Done p ∷ l) cs ≡ done_places l cs
same_done l p [] h k = refl
same_done l p (c ∷ cs) h k =
    let other : (p == c.place) ≡ false = ne_eqb p c.place (λ e. let w = ltb-true p c.place h in omega (arith, w, e)) in
    go (is_done l c.place) refl other (same_done l p cs (before_trans p c.place cs h (rise_parts c cs k).0) (rise_parts c cs k).1)
  where
    go : (d : Bool) → is_done l c.place ≡ d → (p == c.place) ≡ false → done_places (Done p ∷ l) cs ≡ done_places l cs → done_places (Done p ∷ l) (c ∷ cs) ≡ done_places l (c ∷ cs)
    go true e m r = rw (is_done, m, e) (ap (λ ds. place_of c ∷ ds) r)
    go false e m r = rw (is_done, m, e) r

-- it goes before those behind
goes_first : (l : Life) (d : DonePlace) (cs : List Cert) → before d.place cs ≡ true → rise cs ≡ true → with_place (done_places l cs) d ≡ d ∷ done_places l cs
goes_first l d [] h k = refl
goes_first l d (c ∷ cs) h k = go (is_done l c.place) refl (goes_first l d cs (before_trans d.place c.place cs h (rise_parts c cs k).0) (rise_parts c cs k).1)
  where
    go : (b : Bool) → is_done l c.place ≡ b → with_place (done_places l cs) d ≡ d ∷ done_places l cs → with_place (done_places l (c ∷ cs)) d ≡ d ∷ done_places l (c ∷ cs)
    go true e r = rw e (rw h refl)
    go false e r = rw e r

found_is : (cs : List Cert) (p : ℕ) (c : Cert) → at_place cs p ≡ Some c → c.place ≡ p
found_is [] p c e = absurd cc
found_is (d ∷ ds) p c e = go (d.place == p) refl (found_is ds p c)
  where
    go : (b : Bool) → (d.place == p) ≡ b → (at_place ds p ≡ Some c → c.place ≡ p) → c.place ≡ p
    go true f r = let z : Some d ≡ Some c = rw f at e in let same : d ≡ c = cc in ap (λ (x : Cert). x.place) (sym same) ∙ eqb-true d.place p f
    go false f r = r (rw f at e)

pub behind : (cs : List Cert) (p q : ℕ) (c : Cert) → before q cs ≡ true → rise cs ≡ true → at_place cs p ≡ Some c → nat_lt q p ≡ true
behind [] p q c h k e = absurd cc
behind (d ∷ ds) p q c h k e = go (d.place == p) refl (behind ds p d.place c (rise_parts d ds k).0 (rise_parts d ds k).1)
  where
    go : (b : Bool) → (d.place == p) ≡ b → (at_place ds p ≡ Some c → nat_lt d.place p ≡ true) → nat_lt q p ≡ true
    go true f r = let same : d.place ≡ p = eqb-true d.place p f in ap (nat_lt q) (sym same) ∙ h
    go false f r = lt_trans q d.place p h (r (rw f at e))

pub done : (l : Life) (p : ℕ) (c : Cert) (cs : List Cert) → rise cs ≡ true → at_place cs p ≡ Some c → is_done l p ≡ false → with_place (done_places l cs) (place_of c) ≡ done_places (Done p ∷ l) cs
done l p c [] k e n = absurd cc
done l p c (d ∷ ds) k e n = go (d.place == p) (is_done l d.place) refl refl (done l p c ds (rise_parts d ds k).1)
  where
    go : (b z : Bool) → (d.place == p) ≡ b → is_done l d.place ≡ z → (at_place ds p ≡ Some c → is_done l p ≡ false → with_place (done_places l ds) (place_of c) ≡ done_places (Done p ∷ l) ds)
        → with_place (done_places l (d ∷ ds)) (place_of c) ≡ done_places (Done p ∷ l) (d ∷ ds)
    go true z f g r =
        let is : Some d ≡ Some c = rw f at e in
        let same : d ≡ c = cc in
        let at : d.place ≡ p = eqb-true d.place p f in
        let me : (p == d.place) ≡ true = eq-eqb p d.place (sym at) in
        let not_yet : is_done l d.place ≡ false = ap (is_done l) at ∙ n in
        let first : before p ds ≡ true = ap (λ q. before q ds) (sym at) ∙ (rise_parts d ds k).0 in
        let mine : before (place_of c).place ds ≡ true = ap (λ (x : Cert). before x.place ds) (sym same) ∙ (rise_parts d ds k).0 in
        rw (not_yet, is_done, me)
        (goes_first l (place_of c) ds mine (rise_parts d ds k).1
        ∙ (ap (λ (x : Cert). place_of x ∷ done_places l ds) (sym same) ∙ ap (λ xs. place_of d ∷ xs) (sym (same_done l p ds first (rise_parts d ds k).1))))
    go false true f g r =
        let later : at_place ds p ≡ Some c = rw f at e in
        let place : c.place ≡ p = found_is ds p c later in
        let up : nat_lt d.place p ≡ true = behind ds p d.place c (rise_parts d ds k).0 (rise_parts d ds k).1 later in
        let down : nat_lt c.place d.place ≡ false = le-ltb c.place d.place (let w = ltb-true d.place p up in omega (arith, w, place)) in
        let other : (p == d.place) ≡ false = ne_eqb p d.place (λ h. eqb-false d.place p f (sym h)) in
        rw (g, is_done, other) (rw (with_place, down, g) (ap (λ xs. place_of d ∷ xs) (r later n)))
    go false false f g r =
        let later : at_place ds p ≡ Some c = rw f at e in
        let other : (p == d.place) ≡ false = ne_eqb p d.place (λ h. eqb-false d.place p f (sym h)) in
        rw (g, is_done, other) (rw g (r later n))

-- ---- one is committed

pub freed : (l : Life) (p : ℕ) (cs : List Cert) → without_place p (done_places l cs) ≡ done_places l (filter (λ c. not (c.place == p)) cs)
freed l p [] = refl
freed l p (c ∷ cs) = go (is_done l c.place) (c.place == p) refl refl (freed l p cs)
  where
    go : (d b : Bool) → is_done l c.place ≡ d → (c.place == p) ≡ b → without_place p (done_places l cs) ≡ done_places l (filter (λ c. not (c.place == p)) cs)
        → without_place p (done_places l (c ∷ cs)) ≡ done_places l (filter (λ c. not (c.place == p)) (c ∷ cs))
    go true true e f r = rw (e, f) r
    go true false e f r = rw (e, f) (rw e (ap (λ ds. place_of c ∷ ds) r))
    go false true e f r = rw (e, f) r
    go false false e f r = rw (e, f) (rw e r)
