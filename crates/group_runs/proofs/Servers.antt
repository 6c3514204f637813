-- The servers of a world, by their numbers.
use Rattle.std.proofs.Common.{eq-eqb, eqb, ◌≡◌, ◌⊎◌, inl, inr, ℕ, Bool, true, false, Option, Some, None, List, [], ◌∷◌, refl, sym, subst, ◌∙◌}
use Rattle.std.specs.Prelude.{◌==◌, nat_lt}
use Rattle.std.specs.List.{find}
use Rattle.std.proofs.lemmas.Bool.{eqb-true, cases_Bool}
use Rattle.group_rules.specs.World.{World, Server, with_server, put_server, server_at}

-- the server of this number
abbrev pub at_number : ℕ → List Server → Option Server
at_number n ss = find (λ s. s.number == n) ss

at_head : (n : ℕ) (s : Server) (ss : List Server) → (s.number == n) ≡ true → at_number n (s ∷ ss) ≡ Some s
at_head n s ss h = rw h

at_tail : (n : ℕ) (s : Server) (ss : List Server) → (s.number == n) ≡ false → at_number n (s ∷ ss) ≡ at_number n ss
at_tail n s ss h = rw h

put_found : (ss : List Server) (s : Server) (n : ℕ) → (s.number == n) ≡ true → at_number n (with_server ss s) ≡ Some s
put_found [] s n h = at_head n s [] h
put_found (x ∷ xs) s n h = go (x.number == s.number) (nat_lt s.number x.number) refl (put_found xs s n h)
  where
    go : (b c : Bool) → (x.number == s.number) ≡ b → at_number n (with_server xs s) ≡ Some s → at_number n (elim b [ true ↦ s ∷ xs | false ↦ elim c [ true ↦ s ∷ x ∷ xs | false ↦ x ∷ with_server xs s ] ]) ≡ Some s
    go true c e k = at_head n s xs h
    go false true e k = at_head n s (x ∷ xs) h
    go false false e k = at_tail n x (with_server xs s) other ∙ k
      where
        other : (x.number == n) ≡ false
        other = subst (λ m. (x.number == m) ≡ false) (eqb-true s.number n h) e

put_passed : (ss : List Server) (s : Server) (n : ℕ) → (s.number == n) ≡ false → at_number n (with_server ss s) ≡ at_number n ss
put_passed [] s n h = at_tail n s [] h
put_passed (x ∷ xs) s n h = go (x.number == s.number) (nat_lt s.number x.number) refl (put_passed xs s n h)
  where
    go : (b c : Bool) → (x.number == s.number) ≡ b → at_number n (with_server xs s) ≡ at_number n xs → at_number n (elim b [ true ↦ s ∷ xs | false ↦ elim c [ true ↦ s ∷ x ∷ xs | false ↦ x ∷ with_server xs s ] ]) ≡ at_number n (x ∷ xs)
    go true c e k = at_tail n s xs h ∙ sym (at_tail n x xs (subst (λ m. (m == n) ≡ false) (sym (eqb-true x.number s.number e)) h))
    go false true e k = at_tail n s (x ∷ xs) h
    go false false e k = elim (cases_Bool (eqb x.number n)) [
      | inl q ↦ at_head n x (with_server xs s) q ∙ sym (at_head n x xs q)
      | inr q ↦ at_tail n x (with_server xs s) q ∙ (k ∙ sym (at_tail n x xs q))
    ]

pub put_same : (s : Server) (w : World) → server_at (put_server s w) s.number ≡ Some s
put_same s w = put_found w.servers s s.number (eq-eqb s.number s.number refl)

pub put_other : (s : Server) (w : World) (n : ℕ) → (s.number == n) ≡ false → server_at (put_server s w) n ≡ server_at w n
put_other s w n h = put_passed w.servers s n h

pub put_cases : (s : Server) (w : World) (n : ℕ) (x : Server) → server_at (put_server s w) n ≡ Some x → ((s.number ≡ n) × (s ≡ x)) ⊎ (((s.number == n) ≡ false) × (server_at w n ≡ Some x))
put_cases s w n x h = elim (cases_Bool (eqb s.number n)) [
  | inl q ↦ inl (eqb-true s.number n q, is_it (sym (put_found w.servers s n q) ∙ h))
  | inr q ↦ inr (q, sym (put_other s w n q) ∙ h)
]
  where
    is_it : Some s ≡ Some x → s ≡ x
    is_it e = cc

pub number_of : (w : World) (n : ℕ) (s : Server) → server_at w n ≡ Some s → s.number ≡ n
number_of w n s h = go w.servers h
  where
    go : (ss : List Server) → at_number n ss ≡ Some s → s.number ≡ n
    go [] e = let k : None ≡ Some s = e in absurd (cc)
    go (x ∷ xs) e = elim (cases_Bool (eqb x.number n)) [
      | inl q ↦ (let k : Some x ≡ Some s = sym (at_head n x xs q) ∙ e in let z : x ≡ s = cc in subst (λ y. y.number ≡ n) z (eqb-true x.number n q))
      | inr q ↦ go xs (sym (at_tail n x xs q) ∙ e)
    ]
