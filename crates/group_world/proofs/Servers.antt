-- A server that is put among those of a world.
use Rattle.std.proofs.Common.{◌≡◌, ◌⊎◌, inl, inr, ℕ, ◌<◌, Bool, true, false, Some, None, List, [], ◌∷◌, refl, sym, ap, subst, ◌∙◌, arith}
use Rattle.std.specs.Prelude.{◌==◌, map, nat_lt}
use Rattle.std.proofs.lemmas.Bool.{eqb-true}
use Rattle.std.proofs.lemmas.Bool.Decides.{nat_tests}
use Rattle.node_rules.specs.Lists.{In}
use Rattle.group_rules.specs.World.{Server, with_server}
use Rattle.group_world.specs.Sites.{Rises, at_number}
use Rattle.group_world.proofs.Finding.{at_in}

pub lt_not : (m n : ℕ) → m < n → nat_lt n m ≡ false
lt_not m n h = grind (arith, nat_tests)

lt_is : (m n : ℕ) → nat_lt m n ≡ true → m < n
lt_is m n h = grind (arith, nat_tests)

gt_is : (m n : ℕ) → (m == n) ≡ false → nat_lt n m ≡ false → m < n
gt_is m n h k = grind (arith, nat_tests)

pub in_with : (x t : Server) (ss : List Server) → In x (with_server ss t) → (t ≡ x) ⊎ In x ss
in_with x t [] h = h
in_with x t (s ∷ ss) h = go (s.number == t.number) (nat_lt t.number s.number) h (in_with x t ss)
  where
    go : (b c : Bool) → In x (elim b [ true ↦ t ∷ ss | false ↦ elim c [ true ↦ t ∷ s ∷ ss | false ↦ s ∷ with_server ss t ] ]) → (In x (with_server ss t) → (t ≡ x) ⊎ In x ss) → (t ≡ x) ⊎ In x (s ∷ ss)
    go true c (inl e) r = inl e
    go true c (inr k) r = inr (inr k)
    go false true k r = k
    go false false (inl e) r = inr (inl e)
    go false false (inr k) r = elim (r k) [ inl e ↦ inl e | inr z ↦ inr (inr z) ]

pub rises_with : (t : Server) (ss : List Server) → Rises ss → Rises (with_server ss t)
rises_with t [] r = ((λ x h. absurd h), tt)
rises_with t (s ∷ ss) r = go (s.number == t.number) (nat_lt t.number s.number) refl refl (rises_with t ss r.1)
  where
    above : (x : Server) → s.number < t.number → In x (with_server ss t) → s.number < x.number
    above x h k = elim (in_with x t ss k) [ inl e ↦ subst (λ y. s.number < y.number) e h | inr z ↦ r.0 x z ]

    under : (x : Server) → t.number < s.number → In x (s ∷ ss) → t.number < x.number
    under x h (inl e) = subst (λ y. t.number < y.number) e h
    under x h (inr k) = let l : s.number < x.number = r.0 x k in omega (arith, h, l)

    go : (b c : Bool) → (s.number == t.number) ≡ b → nat_lt t.number s.number ≡ c → Rises (with_server ss t)
        → Rises (elim b [ true ↦ t ∷ ss | false ↦ elim c [ true ↦ t ∷ s ∷ ss | false ↦ s ∷ with_server ss t ] ])
    go true c e f k = ((λ x h. subst (λ n. n < x.number) (eqb-true s.number t.number e) (r.0 x h)), r.1)
    go false true e f k = ((λ x h. under x (lt_is t.number s.number f) h), r)
    go false false e f k = ((λ x h. above x (gt_is s.number t.number e f) h), k)

-- what is read of a server that stays as it was is read of all of them as before
pub map_with : {B : Type 0} (f : Server → B) (n : ℕ) (ss : List Server) (s t : Server) → Rises ss → at_number n ss ≡ Some s → t.number ≡ n → f t ≡ f s → map f (with_server ss t) ≡ map f ss
map_with f n [] s t r a e g = let none : None ≡ Some s = a in absurd (cc none)
map_with f n (x ∷ ss) s t r a e g = go (x.number == n) refl (map_with f n ss s t r.1)
  where
    go : (b : Bool) → (x.number == n) ≡ b → (at_number n ss ≡ Some s → t.number ≡ n → f t ≡ f s → map f (with_server ss t) ≡ map f ss) → map f (with_server (x ∷ ss) t) ≡ map f (x ∷ ss)
    go true q p =
        let is : Some x ≡ Some s = rw q at a in
        let same : x ≡ s = cc in
        let here : (x.number == t.number) ≡ true = subst (λ m. (x.number == m) ≡ true) (sym e) q in
        rw (here, with_server) (ap (λ y. y ∷ map f ss) (g ∙ ap f (sym same)))
    go false q p =
        let later : at_number n ss ≡ Some s = rw q at a in
        let is_in = at_in n ss s later in
        let other : (x.number == t.number) ≡ false = subst (λ m. (x.number == m) ≡ false) (sym e) q in
        let above : nat_lt t.number x.number ≡ false = lt_not x.number t.number (subst (λ m. x.number < m) (is_in.1 ∙ sym e) (r.0 s is_in.0)) in
        rw (other, above, with_server) (ap (λ l. f x ∷ l) (p later e g))
