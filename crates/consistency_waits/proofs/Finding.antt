-- A session's hold, whatever comes, changes and goes.
use Rattle.std.proofs.Common.{◌≡◌, ℕ, Bool, true, false, Option, Some, None, List, [], ◌∷◌, map, refl, sym, ap, ◌∙◌, ne_eqb, arith}
use Rattle.std.specs.Prelude.{nat_lt, ◌==◌, is_some}
use Rattle.std.specs.List.{list_all}
use Rattle.std.specs.Option.{option_map}
use Rattle.std.proofs.lemmas.Bool.{and_parts, or_parts, eqb-true, eqb-false, ltb-true}
use Rattle.consistency_waits.specs.Holding.{Held, held_in, is_held, with_hold, without}
use Rattle.consistency_waits.proofs.Ascending.{Keeps, is_above}

pub held_is : (hs : List Held) (t : ℕ) → is_held hs t ≡ is_some (held_in hs t)
held_is [] t = refl
held_is (h ∷ hs) t = go (h.session == t) refl (held_is hs t)
  where
    go : (b : Bool) → (h.session == t) ≡ b → is_held hs t ≡ is_some (held_in hs t) → is_held (h ∷ hs) t ≡ is_some (held_in (h ∷ hs) t)
    go true e r = rw e refl
    go false e r = rw e r

pub held_none : (hs : List Held) (t : ℕ) → held_in hs t ≡ None → is_held hs t ≡ false
held_none hs t n = held_is hs t ∙ ap is_some n

-- it is the session's
pub its_session : (hs : List Held) (t : ℕ) (h : Held) → held_in hs t ≡ Some h → h.session ≡ t
its_session [] t h e = cc
its_session (x ∷ xs) t h e = go (x.session == t) refl (its_session xs t h)
  where
    go : (b : Bool) → (x.session == t) ≡ b → (held_in xs t ≡ Some h → h.session ≡ t) → h.session ≡ t
    go true f r = let same : Some x ≡ Some h = rw f at e in let one : x ≡ h = cc in ap (λ (y : Held). y.session) (sym one) ∙ eqb-true x.session t f
    go false f r = r (rw f at e)

-- what holds of all holds of it
pub all_held : (q : Held → Bool) (hs : List Held) (t : ℕ) (h : Held) → list_all q hs ≡ true → held_in hs t ≡ Some h → q h ≡ true
all_held q [] t h k e = cc
all_held q (x ∷ xs) t h k e =
    let both = and_parts (q x) (list_all q xs) k in
    go (x.session == t) refl both.0 (all_held q xs t h both.1)
  where
    go : (b : Bool) → (x.session == t) ≡ b → q x ≡ true → (held_in xs t ≡ Some h → q h ≡ true) → q h ≡ true
    go true f m r = let same : Some x ≡ Some h = rw f at e in let one : x ≡ h = cc in ap q (sym one) ∙ m
    go false f m r = r (rw f at e)

pub in_with : (hs : List Held) (h : Held) (t : ℕ) → is_held hs h.session ≡ false → held_in (with_hold hs h) t ≡ (elim (h.session == t) [ true ↦ Some h | false ↦ held_in hs t ])
in_with [] h t n = go (h.session == t) refl
  where
    go : (b : Bool) → (h.session == t) ≡ b → held_in (h ∷ []) t ≡ (elim (h.session == t) [ true ↦ Some h | false ↦ None ])
    go true f = rw f refl
    go false f = rw f refl
in_with (x ∷ xs) h t n =
    let apart = or_parts (x.session == h.session) (is_held xs h.session) n in
    go (nat_lt h.session x.session) refl (h.session == t) refl (x.session == t) refl apart.0 (in_with xs h t apart.1)
  where
    go : (b : Bool) → nat_lt h.session x.session ≡ b → (c : Bool) → (h.session == t) ≡ c → (d : Bool) → (x.session == t) ≡ d → (x.session == h.session) ≡ false
        → held_in (with_hold xs h) t ≡ (elim (h.session == t) [ true ↦ Some h | false ↦ held_in xs t ])
        → held_in (with_hold (x ∷ xs) h) t ≡ (elim (h.session == t) [ true ↦ Some h | false ↦ held_in (x ∷ xs) t ])
    go true e true f d g m r = rw (e, f) refl
    go true e false f d g m r = rw (e, f) refl
    go false e true f true g m r = absurd (eqb-false x.session h.session m (eqb-true x.session t g ∙ sym (eqb-true h.session t f)))
    go false e false f true g m r = rw (e, f, g) refl
    go false e true f false g m r = let k : held_in (with_hold xs h) t ≡ Some h = rw f at r in rw (e, f, g) k
    go false e false f false g m r = let k : held_in (with_hold xs h) t ≡ held_in xs t = rw f at r in rw (e, f, g) k

pub in_without : (hs : List Held) (s t : ℕ) → held_in (without s hs) t ≡ (elim (s == t) [ true ↦ None | false ↦ held_in hs t ])
in_without [] s t = go (s == t)
  where
    go : (b : Bool) → ◌≡◌ {A = Option Held} None (elim b [ true ↦ None | false ↦ None ])
    go true = refl
    go false = refl
in_without (x ∷ xs) s t = go (x.session == s) refl (s == t) refl (x.session == t) refl (in_without xs s t)
  where
    go : (b : Bool) → (x.session == s) ≡ b → (c : Bool) → (s == t) ≡ c → (d : Bool) → (x.session == t) ≡ d
        → held_in (without s xs) t ≡ (elim (s == t) [ true ↦ None | false ↦ held_in xs t ])
        → held_in (without s (x ∷ xs)) t ≡ (elim (s == t) [ true ↦ None | false ↦ held_in (x ∷ xs) t ])
    go true e true f d g r = let k : held_in (without s xs) t ≡ None = rw f at r in rw (e, f) k
    go true e false f true g r = absurd (eqb-false s t f (sym (eqb-true x.session s e) ∙ eqb-true x.session t g))
    go true e false f false g r = let k : held_in (without s xs) t ≡ held_in xs t = rw f at r in rw (e, f, g) k
    go false e true f true g r = absurd (eqb-false x.session s e (eqb-true x.session t g ∙ sym (eqb-true s t f)))
    go false e true f false g r = let k : held_in (without s xs) t ≡ None = rw f at r in rw (e, f, g) k
    go false e false f true g r = rw (e, f, g) refl
    go false e false f false g r = let k : held_in (without s xs) t ≡ held_in xs t = rw f at r in rw (e, f, g) k

pub in_map : (f : Held → Held) (hs : List Held) (t : ℕ) → Keeps f → held_in (map f hs) t ≡ option_map f (held_in hs t)
in_map f [] t k = refl
in_map f (x ∷ xs) t k = go (x.session == t) refl (in_map f xs t k)
  where
    go : (b : Bool) → (x.session == t) ≡ b → held_in (map f xs) t ≡ option_map f (held_in xs t) → held_in (map f (x ∷ xs)) t ≡ option_map f (held_in (x ∷ xs) t)
    go true e r = let g : ((f x).session == t) ≡ true = ap (λ s. s == t) (k x) ∙ e in rw (e, g) refl
    go false e r = let g : ((f x).session == t) ≡ false = ap (λ s. s == t) (k x) ∙ e in rw (e, g) r

-- what isn't held isn't left out
pub others_stay : (hs : List Held) (t : ℕ) → is_held hs t ≡ false → without t hs ≡ hs
others_stay [] t n = refl
others_stay (x ∷ xs) t n =
    let apart = or_parts (x.session == t) (is_held xs t) n in
    rw apart.0 (ap (λ l. x ∷ l) (others_stay xs t apart.1))

-- those above a session aren't its own
pub above_none : (hs : List Held) (t : ℕ) → list_all (is_above t) hs ≡ true → held_in hs t ≡ None
above_none [] t h = refl
above_none (x ∷ xs) t h =
    let both = and_parts (nat_lt t x.session) (list_all (is_above t) xs) h in
    let other : (x.session == t) ≡ false = ne_eqb x.session t (λ e. let w = ltb-true t x.session both.0 in omega (arith, w, e)) in
    rw other (above_none xs t both.1)
