-- The own transactions: the first of a GTID, and what is left without it.
use Rattle.std.proofs.Common.{◌≡◌, ℕ, zero, suc, ◌+◌, ◌<◌, ◌≤◌, Bool, true, false, not, Some, None, List, [], ◌∷◌, take, length, get_or, refl, sym, ap, ◌∙◌, arith, true≢false}
use Rattle.std.specs.List.{find, list_all, prefix_len, remove}
use Rattle.gr_ids.specs.declared.names.Gtid.{Gtid}
use Rattle.gr_ids.specs.Names.{gtid_eq}
use Rattle.member_parts.specs.Remote.{OwnWork, without_own}

abbrev pub is_of : Gtid → OwnWork → Bool
is_of g w = gtid_eq w.gtid g

-- how many stand before it
abbrev pub before : Gtid → List OwnWork → ℕ
before g ws = prefix_len (λ (w : OwnWork). not (is_of g w)) ws

one_more : (n : ℕ) → 1 + n ≡ suc n
one_more n = omega arith

pub stands_at : (g : Gtid) (ws : List OwnWork) (k : ℕ) (w : OwnWork) → list_all (λ (x : OwnWork). not (is_of g x)) (take k ws) ≡ true → k < length ws → w ≡ get_or ws k w → is_of g w ≡ true → k ≡ before g ws
stands_at g [] k w a h e n = absurd (omega (arith, h))
stands_at g (x ∷ xs) zero w a h e n = let here : is_of g x ≡ true = ap (is_of g) (sym e) ∙ n in rw here refl
stands_at g (x ∷ xs) (suc k) w a h e n = go (is_of g x) refl (stands_at g xs k w)
  where
    go : (b : Bool) → is_of g x ≡ b → (list_all (λ (y : OwnWork). not (is_of g y)) (take k xs) ≡ true → k < length xs → w ≡ get_or xs k w → is_of g w ≡ true → k ≡ before g xs) → suc k ≡ before g (x ∷ xs)
    go true f r = absurd (let z : false ≡ true = rw f at a in true≢false (sym z))
    go false f r = let later : list_all (λ (y : OwnWork). not (is_of g y)) (take k xs) ≡ true = rw f at a in rw f (ap (λ (m : ℕ). suc m) (r later (omega (arith, h)) e n) ∙ sym (one_more (before g xs)))

pub taken_out : (g : Gtid) (ws : List OwnWork) (k : ℕ) → k ≡ before g ws → k < length ws → remove ws k ≡ without_own g ws
taken_out g [] k e h = absurd (omega (arith, h))
taken_out g (x ∷ xs) k e h = go (is_of g x) refl (taken_out g xs (before g xs) refl)
  where
    go : (b : Bool) → is_of g x ≡ b → (before g xs < length xs → remove xs (before g xs) ≡ without_own g xs) → remove (x ∷ xs) k ≡ without_own g (x ∷ xs)
    go true f r = rw f (ap (λ (n : ℕ). remove (x ∷ xs) n) (let z : k ≡ 0 = rw f at e in z))
    go false f r =
        let m : k ≡ suc (before g xs) = (let z : k ≡ 1 + before g xs = rw f at e in z) ∙ one_more (before g xs) in
        rw f (ap (λ (n : ℕ). remove (x ∷ xs) n) m ∙ ap (λ (ys : List OwnWork). x ∷ ys) (r (omega (arith, m, h))))

pub found_at : (g : Gtid) (ws : List OwnWork) (k : ℕ) (w : OwnWork) → k ≡ before g ws → k < length ws → w ≡ get_or ws k w → find (is_of g) ws ≡ Some w
found_at g [] k w e h q = absurd (omega (arith, h))
found_at g (x ∷ xs) k w e h q = go (is_of g x) refl (found_at g xs (before g xs) w refl)
  where
    go : (b : Bool) → is_of g x ≡ b → (before g xs < length xs → w ≡ get_or xs (before g xs) w → find (is_of g) xs ≡ Some w) → find (is_of g) (x ∷ xs) ≡ Some w
    go true f r = rw f (ap (λ (y : OwnWork). Some y) (sym (q ∙ ap (λ (n : ℕ). get_or (x ∷ xs) n w) (let z : k ≡ 0 = rw f at e in z))))
    go false f r =
        let m : k ≡ suc (before g xs) = (let z : k ≡ 1 + before g xs = rw f at e in z) ∙ one_more (before g xs) in
        rw f (r (omega (arith, m, h)) (q ∙ ap (λ (n : ℕ). get_or (x ∷ xs) n w) m))

pub stays : (g : Gtid) (ws : List OwnWork) (k : ℕ) → k ≡ before g ws → length ws ≤ k → (without_own g ws ≡ ws) × (find (is_of g) ws ≡ None)
stays g [] k e h = (refl, refl)
stays g (x ∷ xs) k e h = go (is_of g x) refl (stays g xs (before g xs) refl)
  where
    go : (b : Bool) → is_of g x ≡ b → (length xs ≤ before g xs → (without_own g xs ≡ xs) × (find (is_of g) xs ≡ None)) → (without_own g (x ∷ xs) ≡ x ∷ xs) × (find (is_of g) (x ∷ xs) ≡ None)
    go true f r = let z : k ≡ 0 = rw f at e in absurd (omega (arith, z, h))
    go false f r =
        let m : k ≡ suc (before g xs) = (let z : k ≡ 1 + before g xs = rw f at e in z) ∙ one_more (before g xs) in
        let p = r (omega (arith, m, h)) in
        rw f (ap (λ (ys : List OwnWork). x ∷ ys) p.0, p.1)

pub all_pass : (g : Gtid) (ws : List OwnWork) (k : ℕ) → list_all (λ (w : OwnWork). not (is_of g w)) (take k ws) ≡ true → length ws ≤ k → length ws ≡ before g ws
all_pass g [] k a h = refl
all_pass g (x ∷ xs) zero a h = absurd (omega (arith, h))
all_pass g (x ∷ xs) (suc k) a h = go (is_of g x) refl (all_pass g xs k)
  where
    go : (b : Bool) → is_of g x ≡ b → (list_all (λ (w : OwnWork). not (is_of g w)) (take k xs) ≡ true → length xs ≤ k → length xs ≡ before g xs) → length (x ∷ xs) ≡ before g (x ∷ xs)
    go true f r = absurd (let z : false ≡ true = rw f at a in true≢false (sym z))
    go false f r = let later : list_all (λ (w : OwnWork). not (is_of g w)) (take k xs) ≡ true = rw f at a in rw f (ap (λ (m : ℕ). suc m) (r later (omega (arith, h))) ∙ sym (one_more (before g xs)))
