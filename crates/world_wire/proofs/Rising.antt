-- Indexes that rise: the last one tells whether all are below an index.
use Rattle.std.proofs.Common.{◌≡◌, ℕ, zero, suc, ◌-◌, ◌<◌, ◌≤◌, Bool, true, false, not, nat_lt, List, [], ◌∷◌, length, get_or, refl, sym, ap, ◌∙◌, arith, leb}
use Rattle.std.specs.List.{list_all, filter}
use Rattle.std.proofs.lemmas.Bool.{and_from, and_parts, ltb-true, lt-ltb, leb-true, leb-false, le-ltb}
use Rattle.std.proofs.lemmas.List.Folds.{list_all_at}
use Rattle.world_wire.specs.Lanes.{rises}

last_below : (is : List ℕ) (at i d : ℕ) → rises is ≡ true → suc at ≡ length is → get_or is at d < i → list_all (λ j. nat_lt j i) is ≡ true
last_below [] at i d r e h = absurd (omega (arith, e))
last_below (j ∷ []) zero i d r e h = and_from _ _ (lt-ltb _ _ h) refl
last_below (j ∷ []) (suc at) i d r e h = absurd (omega (arith, e))
last_below (j ∷ (k ∷ is)) zero i d r e h = absurd (omega (arith, e))
last_below (j ∷ (k ∷ is)) (suc at) i d r e h =
    let parts = and_parts (list_all (λ m. nat_lt j m) (k ∷ is)) (rises (k ∷ is)) r in
    let later : list_all (λ m. nat_lt m i) (k ∷ is) ≡ true = last_below (k ∷ is) at i d parts.1 (omega (arith, e)) h in
    let low : j < k = ltb-true j k (and_parts (nat_lt j k) (list_all (λ m. nat_lt j m) is) parts.0).0 in
    let high : k < i = ltb-true k i (and_parts (nat_lt k i) (list_all (λ m. nat_lt m i) is) later).0 in
    and_from _ _ (lt-ltb j i (omega arith)) later

pub reach : (is : List ℕ) (n i last : ℕ) → rises is ≡ true → 0 < n → n ≡ length is → last ≡ get_or is (n - 1) last → leb i last ≡ not (list_all (λ j. nat_lt j i) is)
reach is n i last r p e g = go (leb i last) refl
  where
    go : (b : Bool) → leb i last ≡ b → leb i last ≡ not (list_all (λ j. nat_lt j i) is)
    go true f =
        let high : i ≤ get_or is (n - 1) last = omega (arith, g, leb-true i last f) in
        let within : n - 1 < length is = omega arith in
        f ∙ ap not (sym (list_all_at (λ j. nat_lt j i) is (n - 1) last within (le-ltb (get_or is (n - 1) last) i high)))
    go false f =
        let low : get_or is (n - 1) last < i = omega (arith, g, leb-false i last f) in
        f ∙ ap not (sym (last_below is (n - 1) i last r (omega arith) low))

pub filter_all : {A : Type 0} (p : A → Bool) (xs : List A) → list_all p xs ≡ true → filter p xs ≡ xs
filter_all p [] h = refl
filter_all p (x ∷ xs) h =
    let parts = and_parts (p x) (list_all p xs) h in
    let here : p x ≡ true = parts.0 in
    rw here (ap (λ l. x ∷ l) (filter_all p xs parts.1))
