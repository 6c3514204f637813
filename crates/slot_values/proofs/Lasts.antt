-- The last kept number of an incarnation, as a search finds it.
use Rattle.std.proofs.Common.{◌≡◌, ℕ, Bool, true, false, List, [], ◌∷◌, ◌++◌, Option, Some, None, refl, ◌∙◌}
use Rattle.std.specs.Prelude.{find, option_map, unwrap_or}
use Rattle.gr_ids.specs.declared.names.Inc.{Inc}
use Rattle.gr_ids.specs.Names.{inc_eq}
use Rattle.slot_values.specs.Log.{Member, last_in}

abbrev pub found : List Member → Inc → Option ℕ
found ms i = option_map (λ m. m.last) (find (λ m. inc_eq m.inc i) ms)

pub last_of_found : (ms fs : List Member) (i : Inc) (n : ℕ) → found ms i ≡ Some n → n ≡ last_in (ms ++ fs) i
last_of_found [] fs i n e = absurd cc
last_of_found (m ∷ ms) fs i n e = go (inc_eq m.inc i) refl (last_of_found ms fs i n) e
  where
    go : (u : Bool) → inc_eq m.inc i ≡ u → (found ms i ≡ Some n → n ≡ last_in (ms ++ fs) i) → found (m ∷ ms) i ≡ Some n → n ≡ last_in ((m ∷ ms) ++ fs) i
    go true f r h = let q : Some m.last ≡ Some n = (rw f at h) in rw f (let p : m.last ≡ n = cc in cc)
    go false f r h = let q : found ms i ≡ Some n = (rw f at h) in rw f (r q)

pub last_of_missing : (ms fs : List Member) (i : Inc) → found ms i ≡ None → last_in fs i ≡ last_in (ms ++ fs) i
last_of_missing [] fs i e = refl
last_of_missing (m ∷ ms) fs i e = go (inc_eq m.inc i) refl (last_of_missing ms fs i) e
  where
    go : (u : Bool) → inc_eq m.inc i ≡ u → (found ms i ≡ None → last_in fs i ≡ last_in (ms ++ fs) i) → found (m ∷ ms) i ≡ None → last_in fs i ≡ last_in ((m ∷ ms) ++ fs) i
    go true f r h = absurd (let q : Some m.last ≡ None = (rw f at h) in cc)
    go false f r h = let q : found ms i ≡ None = (rw f at h) in rw f (r q)

pub last_in_found : (ms : List Member) (i : Inc) → unwrap_or (found ms i) 0 ≡ last_in ms i
last_in_found [] i = refl
last_in_found (m ∷ ms) i = go (inc_eq m.inc i) refl (last_in_found ms i)
  where
    go : (u : Bool) → inc_eq m.inc i ≡ u → unwrap_or (found ms i) 0 ≡ last_in ms i → unwrap_or (found (m ∷ ms) i) 0 ≡ last_in (m ∷ ms) i
    go true f r = rw f refl
    go false f r = rw f r
