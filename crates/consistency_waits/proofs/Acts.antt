-- What the rules do session by session, as acts of holds.
use Rattle.std.proofs.Common.{◌≡◌, ℕ, Bool, true, false, ◌||◌, Option, Some, None, List, [], ◌∷◌, filter, refl, sym, ap, ◌∙◌, arith, ne_eqb}
use Rattle.std.specs.Prelude.{is_some, nat_lt, ◌==◌}
use Rattle.std.specs.List.{list_all}
use Rattle.std.proofs.lemmas.Bool.{and_parts, eq-eqb, eqb-true, eqb-false, ltb-true, true≢false}
use Rattle.group_rules.specs.Member.{Member, for_each}
use Rattle.consistency_waits.specs.Following.{held_by}
use Rattle.consistency_waits.specs.Holding.{Held, ascend, held_in}
use Rattle.consistency_waits.proofs.Ascending.{is_above, parts, above_all}
use Rattle.consistency_waits.proofs.Finding.{above_none, its_session}
use Rattle.consistency_waits.proofs.Known.{has_session, rise}

abbrev pub act : (Held → Member → Member) → Option Held → Member → Member
act f None a = a
act f (Some h) a = f h a

abbrev pub acts : (Held → Member → Member) → List Held → List ℕ → Member → Member
acts f hs ss a = for_each (λ t. act f (held_in hs t)) ss a

-- ---- the two lists

apart : (s t : ℕ) → nat_lt s t ≡ true → (s == t) ≡ false
apart s t h = ne_eqb s t (λ e. let w = ltb-true s t h in omega (arith, w, e))

pub among : (ss : List ℕ) (s t : ℕ) → list_all (nat_lt s) ss ≡ true → has_session ss t ≡ true → nat_lt s t ≡ true
among [] s t h k = absurd (true≢false (sym k))
among (x ∷ xs) s t h k =
    let both = and_parts (nat_lt s x) (list_all (nat_lt s) xs) h in
    go (x == t) refl both.0 (among xs s t both.1)
  where
    go : (b : Bool) → (x == t) ≡ b → nat_lt s x ≡ true → (has_session xs t ≡ true → nat_lt s t ≡ true) → nat_lt s t ≡ true
    go true e m r = ap (nat_lt s) (sym (eqb-true x t e)) ∙ m
    go false e m r = r (rw e at k)

or_so : (a b : Bool) → b ≡ true → (a || b) ≡ true
or_so true b h = refl
or_so false b h = h

itself : (s : ℕ) (ss : List ℕ) → has_session (s ∷ ss) s ≡ true
itself s ss = rw (eq-eqb s s refl) refl

acts_same : (f : Held → Member → Member) (hs ks : List Held) (ss : List ℕ) (a : Member) → ((t : ℕ) → has_session ss t ≡ true → held_in hs t ≡ held_in ks t) → acts f hs ss a ≡ acts f ks ss a
acts_same f hs ks [] a h = refl
acts_same f hs ks (s ∷ ss) a h =
    ap (λ (o : Option Held). acts f hs ss (act f o a)) (h s (itself s ss))
    ∙ acts_same f hs ks ss (act f (held_in ks s) a) (λ t m. h t (or_so (s == t) (has_session ss t) m))

-- each hold's session is one of these
abbrev pub Among : List Held → List ℕ → Type 0
Among hs ss = (t : ℕ) → is_some (held_in hs t) ≡ true → has_session ss t ≡ true

pub merged : (f : Held → Member → Member) (ss : List ℕ) (hs : List Held) (a : Member) → rise ss ≡ true → ascend hs ≡ true → Among hs ss → acts f hs ss a ≡ for_each f hs a
merged f [] [] a r k m = refl
merged f [] (h ∷ hs) a r k m = absurd (true≢false (sym (m h.session (rw (eq-eqb h.session h.session refl) refl))))
merged f (s ∷ ss) [] a r k m = merged f ss [] a (and_parts (list_all (nat_lt s) ss) (rise ss) r).1 k (λ t e. absurd (true≢false (sym e)))
merged f (s ∷ ss) (h ∷ hs) a r k m = go (h.session == s) refl (λ ks b u n. merged f ss ks b rising.1 u n)
  where
    rising : (list_all (nat_lt s) ss ≡ true) × (rise ss ≡ true)
    rising = and_parts (list_all (nat_lt s) ss) (rise ss) r

    Later : Type 0
    Later = (ks : List Held) (b : Member) → ascend ks ≡ true → Among ks ss → acts f ks ss b ≡ for_each f ks b

    -- the others' holds are behind it
    rest : h.session ≡ s → (t : ℕ) → has_session ss t ≡ true → held_in (h ∷ hs) t ≡ held_in hs t
    rest e t n = let other : (h.session == t) ≡ false = ap (λ (u : ℕ). u == t) e ∙ apart s t (among ss s t rising.0 n) in rw other refl

    behind : h.session ≡ s → Among hs ss
    behind e t n = go (s == t) refl
      where
        go : (b : Bool) → (s == t) ≡ b → has_session ss t ≡ true
        go true g =
            let low : list_all (is_above t) hs ≡ true = ap (λ (u : ℕ). list_all (is_above u) hs) (sym (eqb-true s t g)) ∙ (ap (λ (u : ℕ). list_all (is_above u) hs) (sym e) ∙ (parts h hs k).0) in
            absurd (true≢false (sym n ∙ ap is_some (above_none hs t low)))
        go false g =
            let other : (h.session == t) ≡ false = ap (λ (u : ℕ). u == t) e ∙ g in
            let there : has_session (s ∷ ss) t ≡ true = m t (rw other n) in
            rw g at there

    -- where the least hold isn't this session's, none is
    later : (h.session == s) ≡ false → has_session ss h.session ≡ true
    later e =
        let there : has_session (s ∷ ss) h.session ≡ true = m h.session (rw (eq-eqb h.session h.session refl) refl) in
        let other : (s == h.session) ≡ false = ne_eqb s h.session (λ g. eqb-false h.session s e (sym g)) in
        rw other at there

    none : (h.session == s) ≡ false → held_in (h ∷ hs) s ≡ None
    none e = rw e (above_none hs s (above_all s h.session hs (among ss s h.session rising.0 (later e)) (parts h hs k).0))

    fewer : (h.session == s) ≡ false → Among (h ∷ hs) ss
    fewer e t n = go (s == t) refl
      where
        go : (b : Bool) → (s == t) ≡ b → has_session ss t ≡ true
        go true g = absurd (true≢false (sym n ∙ (ap (λ (u : ℕ). is_some (held_in (h ∷ hs) u)) (sym (eqb-true s t g)) ∙ ap is_some (none e))))
        go false g = let there : has_session (s ∷ ss) t ≡ true = m t n in rw g at there

    go : (b : Bool) → (h.session == s) ≡ b → Later → acts f (h ∷ hs) (s ∷ ss) a ≡ for_each f (h ∷ hs) a
    go true e q =
        let same : h.session ≡ s = eqb-true h.session s e in
        let mine : held_in (h ∷ hs) s ≡ Some h = rw e refl in
        ap (λ (o : Option Held). acts f (h ∷ hs) ss (act f o a)) mine
        ∙ (acts_same f (h ∷ hs) hs ss (f h a) (rest same) ∙ q hs (f h a) (parts h hs k).1 (behind same))
    go false e q = ap (λ (o : Option Held). acts f (h ∷ hs) ss (act f o a)) (none e) ∙ q (h ∷ hs) a k (fewer e)

-- ---- one session after another

abbrev pub held_at : Member → ℕ → Option Held
held_at a t = held_by a.setup a.me.inc a.life t

-- each act of the rules is that of the session's hold, and leaves the other sessions' holds
pub each_acts : (g : ℕ → Member → Member) (f : Held → Member → Member) (Good : Member → Type 0) (hs : List Held)
    → ((a : Member) (t : ℕ) → Good a → held_at a t ≡ held_in hs t → g t a ≡ act f (held_in hs t) a) → ((a : Member) (h : Held) → Good a → Good (f h a))
    → ((a : Member) (h : Held) (t : ℕ) → (h.session == t) ≡ false → held_at (f h a) t ≡ held_at a t)
    → (ss : List ℕ) (a : Member) → rise ss ≡ true → Good a → ((t : ℕ) → has_session ss t ≡ true → held_at a t ≡ held_in hs t) → for_each g ss a ≡ acts f hs ss a
each_acts g f Good hs one keep others [] a r w k = refl
each_acts g f Good hs one keep others (s ∷ ss) a r w k =
    ap (for_each g ss) (one a s w (k s (itself s ss)))
    ∙ go (held_in hs s) refl (λ b. each_acts g f Good hs one keep others ss b rising.1)
  where
    rising : (list_all (nat_lt s) ss ≡ true) × (rise ss ≡ true)
    rising = and_parts (list_all (nat_lt s) ss) (rise ss) r

    Later : Type 0
    Later = (b : Member) → Good b → ((t : ℕ) → has_session ss t ≡ true → held_at b t ≡ held_in hs t) → for_each g ss b ≡ acts f hs ss b

    before : (t : ℕ) → has_session ss t ≡ true → held_at a t ≡ held_in hs t
    before t n = k t (or_so (s == t) (has_session ss t) n)

    go : (o : Option Held) → held_in hs s ≡ o → Later → for_each g ss (act f (held_in hs s) a) ≡ acts f hs ss (act f (held_in hs s) a)
    go None e q = rw e (q a w before)
    go (Some h) e q =
        rw e (q (f h a) (keep a h w) (λ t n. others a h t (ap (λ (u : ℕ). u == t) (its_session hs s h e) ∙ apart s t (among ss s t rising.0 n)) ∙ before t n))

-- ---- acts of those that pass a test

abbrev pub if_so : (Held → Bool) → (Held → Member → Member) → Held → Member → Member
if_so q k h a = elim (q h) [ true ↦ k h a | false ↦ a ]

-- what holds of the act, and where there is none, holds
pub either : (P : Member → Type 0) (q : Held → Bool) (k : Held → Member → Member) (h : Held) (a : Member) → P (k h a) → P a → P (if_so q k h a)
either P q k h a y n = go (q h)
  where
    go : (b : Bool) → P (elim b [ true ↦ k h a | false ↦ a ])
    go true = y
    go false = n

pub chosen : (q : Held → Bool) (k : Held → Member → Member) (hs : List Held) (a : Member) → for_each (if_so q k) hs a ≡ for_each k (filter q hs) a
chosen q k [] a = refl
chosen q k (h ∷ hs) a = go (q h) refl (chosen q k hs)
  where
    go : (b : Bool) → q h ≡ b → ((c : Member) → for_each (if_so q k) hs c ≡ for_each k (filter q hs) c) → for_each (if_so q k) (h ∷ hs) a ≡ for_each k (filter q (h ∷ hs)) a
    go true e r = rw (if_so, e) (r (k h a))
    go false e r = rw (if_so, e) (r a)
