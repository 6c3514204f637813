-- The server of a number among those of a world, and among those that are kept.
use Rattle.std.proofs.Common.{Bor, HoldsAt, Option, ap, ◌≤◌, length, get_or, ◌≡◌, inl, inr, ℕ, suc, ◌+◌, ◌<◌, Bool, true, false, Some, None, List, [], ◌∷◌, slice_get, refl, sym, subst, ◌∙◌, arith}
use Rattle.std.specs.Prelude.{MatchOption, IfSome, option_copied, ◌==◌, nat_lt, slice_set}
use Rattle.std.proofs.lemmas.Bool.Decides.{nat_tests}
use Rattle.std.proofs.lemmas.Bool.{eqb-true}
use Rattle.std.proofs.lemmas.Option.{slice_get-get_or, slice_get_past}
use Rattle.node_rules.specs.Lists.{In}
use Rattle.group_rules.specs.World.{Server, with_server}
use Rattle.group_world.specs.Sites.{AreSites, HasSite, IsSite, Rises, at_number, before}
use Rattle.group_world.specs.declared.site.Site.{Site}

one_more : (n : ℕ) → 1 + n ≡ suc n
one_more n = omega arith

some_none : {A : Type 0} (x : A) → Some x ≡ None → ⊥
some_none x e = absurd (cc e)

-- ---- which server it is

pub at_in : (n : ℕ) (ss : List Server) (s : Server) → at_number n ss ≡ Some s → In s ss × (s.number ≡ n)
at_in n [] s e = absurd (some_none s (sym e))
at_in n (x ∷ ss) s e = go (x.number == n) refl (at_in n ss s)
  where
    go : (b : Bool) → (x.number == n) ≡ b → (at_number n ss ≡ Some s → In s ss × (s.number ≡ n)) → In s (x ∷ ss) × (s.number ≡ n)
    go true q k =
        let is : Some x ≡ Some s = rw q at e in
        let same : x ≡ s = cc in
        (inl same, subst (λ y. y.number ≡ n) same (eqb-true x.number n q))
    go false q k = let later : at_number n ss ≡ Some s = rw q at e in let r = k later in (inr r.0, r.1)

-- the site of the number, with its server
pub found : (n : ℕ) (ss : List Server) (zs : List Site) (z : Site) → AreSites ss zs → slice_get zs (before n zs) ≡ Some z → (s : Server) × (at_number n ss ≡ Some s) × IsSite s z
found n [] [] z h e = absurd (some_none z (sym e))
found n [] (y ∷ zs) z h e = absurd h
found n (s ∷ ss) [] z h e = absurd h
found n (s ∷ ss) (y ∷ zs) z h e = go (y.number == n) refl (found n ss zs z h.1)
  where
    go : (b : Bool) → (y.number == n) ≡ b → (slice_get zs (before n zs) ≡ Some z → (t : Server) × (at_number n ss ≡ Some t) × IsSite t z) → (t : Server) × (at_number n (s ∷ ss) ≡ Some t) × IsSite t z
    go true q k =
        let is : Some y ≡ Some z = rw q at e in
        let same : y ≡ z = cc in
        let here : (s.number == n) ≡ true = subst (λ m. (m == n) ≡ true) h.0.number q in
        (s, rw here refl, subst (λ x. IsSite s x) same h.0)
    go false q k =
        let later : slice_get zs (before n zs) ≡ Some z = rw one_more at (rw q at e) in
        let there : (s.number == n) ≡ false = subst (λ m. (m == n) ≡ false) h.0.number q in
        let r = k later in
        (r.0, rw there r.1, r.2)

pub absent : (n : ℕ) (ss : List Server) (zs : List Site) → AreSites ss zs → slice_get zs (before n zs) ≡ None → at_number n ss ≡ None
absent n [] zs h e = refl
absent n (s ∷ ss) [] h e = absurd h
absent n (s ∷ ss) (y ∷ zs) h e = go (y.number == n) refl (absent n ss zs h.1)
  where
    go : (b : Bool) → (y.number == n) ≡ b → (slice_get zs (before n zs) ≡ None → at_number n ss ≡ None) → at_number n (s ∷ ss) ≡ None
    go true q k = let is : Some y ≡ None = rw q at e in absurd (some_none y is)
    go false q k =
        let later : slice_get zs (before n zs) ≡ None = rw one_more at (rw q at e) in
        let there : (s.number == n) ≡ false = subst (λ m. (m == n) ≡ false) h.0.number q in
        rw there (k later)

-- ---- a change of it

lt_not : (m n : ℕ) → m < n → nat_lt n m ≡ false
lt_not m n h = grind (arith, nat_tests)

pub put : (n : ℕ) (ss : List Server) (zs : List Site) (s : Server) (z : Site) (t : Server) (y : Site)
    → Rises ss → AreSites ss zs → slice_get zs (before n zs) ≡ Some z → at_number n ss ≡ Some s → t.number ≡ n → IsSite t y → AreSites (with_server ss t) (slice_set zs (before n zs) y)
put n [] zs s z t y r h e a f k = absurd (some_none s (sym a))
put n (x ∷ ss) [] s z t y r h e a f k = absurd h
put n (x ∷ ss) (w ∷ zs) s z t y r h e a f k = go (w.number == n) refl (put n ss zs s z t y r.1 h.1)
  where
    go : (b : Bool) → (w.number == n) ≡ b
        → (slice_get zs (before n zs) ≡ Some z → at_number n ss ≡ Some s → t.number ≡ n → IsSite t y → AreSites (with_server ss t) (slice_set zs (before n zs) y))
        → AreSites (with_server (x ∷ ss) t) (slice_set (w ∷ zs) (before n (w ∷ zs)) y)
    go true q p =
        let here : (x.number == t.number) ≡ true = subst (λ m. (x.number == m) ≡ true) (sym f) (subst (λ m. (m == n) ≡ true) h.0.number q) in
        rw q (rw (here, with_server) (k, h.1))
    go false q p =
        let later : slice_get zs (before n zs) ≡ Some z = rw one_more at (rw q at e) in
        let there : (x.number == n) ≡ false = subst (λ m. (m == n) ≡ false) h.0.number q in
        let after : at_number n ss ≡ Some s = rw there at a in
        let other : (x.number == t.number) ≡ false = subst (λ m. (x.number == m) ≡ false) (sym f) there in
        let is_in = at_in n ss s after in
        let above : nat_lt t.number x.number ≡ false = lt_not x.number t.number (subst (λ m. x.number < m) (is_in.1 ∙ sym f) (r.0 s is_in.0)) in
        rw q (rw one_more (rw (other, above, with_server) (h.0, p later after f k)))

-- a site changes, and stands for the same server
pub keep : (n : ℕ) (ss : List Server) (zs : List Site) (s : Server) (z y : Site)
    → AreSites ss zs → slice_get zs (before n zs) ≡ Some z → at_number n ss ≡ Some s → IsSite s y → AreSites ss (slice_set zs (before n zs) y)
keep n [] zs s z y h e a k = absurd (some_none s (sym a))
keep n (x ∷ ss) [] s z y h e a k = absurd h
keep n (x ∷ ss) (w ∷ zs) s z y h e a k = go (w.number == n) refl (keep n ss zs s z y h.1)
  where
    go : (b : Bool) → (w.number == n) ≡ b → (slice_get zs (before n zs) ≡ Some z → at_number n ss ≡ Some s → IsSite s y → AreSites ss (slice_set zs (before n zs) y)) → AreSites (x ∷ ss) (slice_set (w ∷ zs) (before n (w ∷ zs)) y)
    go true q p =
        let here : (x.number == n) ≡ true = subst (λ m. (m == n) ≡ true) h.0.number q in
        let is : Some x ≡ Some s = rw here at a in
        let same : x ≡ s = cc in
        rw q (subst (λ i. IsSite i y) (sym same) k, h.1)
    go false q p =
        let later : slice_get zs (before n zs) ≡ Some z = rw one_more at (rw q at e) in
        let there : (x.number == n) ≡ false = subst (λ m. (m == n) ≡ false) h.0.number q in
        let after : at_number n ss ≡ Some s = rw there at a in
        rw q (rw one_more (h.0, p later after k))

-- ---- what is read at an index

pub read_at : (o : Option (Bor Site)) (zs : List Site) (at : ℕ)
    → MatchOption o (length zs ≤ at) (λ x. (at < length zs) × HoldsAt {X = Site} (λ y. x.now ≡ y) zs at) → IfSome o (λ x. x.now ≡ get_or zs at x.now) → option_copied o ≡ slice_get zs at
read_at None zs at h k = sym (slice_get_past zs at h)
read_at (Some x) zs at h k = ap Some k ∙ sym (slice_get-get_or zs at x.now h.0)

-- so the site that is read is that of the server
pub has_site : (n : ℕ) (ss : List Server) (zs : List Site) → AreSites ss zs → HasSite (at_number n ss) (slice_get zs (before n zs))
has_site n ss zs h = go (slice_get zs (before n zs)) refl
  where
    go : (o : Option Site) → slice_get zs (before n zs) ≡ o → HasSite (at_number n ss) o
    go None e = subst (λ s. HasSite s None) (sym (absent n ss zs h e)) tt
    go (Some z) e = let f = found n ss zs z h e in subst (λ s. HasSite s (Some z)) (sym f.1) f.2
