-- Where a session stands in the list, and what a change there leaves.
use Rattle.std.proofs.Common.{◌≡◌, ℕ, suc, ◌+◌, ◌<◌, ◌≤◌, Bool, true, false, not, List, [], ◌∷◌, ◌++◌, length, get_or, refl, ap, ◌∙◌, arith}
use Rattle.std.specs.Prelude.{nat_lt, slice_set}
use Rattle.std.specs.List.{prefix_len, insert}
use Rattle.key_items.specs.declared.change.Change.{Change}
use Rattle.local_sessions.specs.Standing.{Session, is_of, changed_at, with_session, with_change}

-- how many stand before the session
abbrev pub before : ℕ → List Session → ℕ
before s xs = prefix_len (λ (x : Session). not (is_of s x)) xs

-- how many aren't above it
abbrev pub below : ℕ → List Session → ℕ
below s xs = prefix_len (λ (x : Session). not (nat_lt s x.session)) xs

one_more : (n : ℕ) → 1 + n ≡ suc n
one_more n = omega arith

-- the one at the index is changed
pub changed_there : (s : ℕ) (f : Session → Session) (xs : List Session) (k : ℕ) (d : Session) → k ≡ before s xs → k < length xs → changed_at s f xs ≡ slice_set xs k (f (get_or xs k d))
changed_there s f [] k d e h = absurd (omega (arith, h))
changed_there s f (x ∷ xs) k d e h = go (is_of s x) refl (changed_there s f xs)
  where
    go : (b : Bool) → is_of s x ≡ b → ((j : ℕ) (d : Session) → j ≡ before s xs → j < length xs → changed_at s f xs ≡ slice_set xs j (f (get_or xs j d))) → changed_at s f (x ∷ xs) ≡ slice_set (x ∷ xs) k (f (get_or (x ∷ xs) k d))
    go true g r = let z : k ≡ 0 = e ∙ (rw g refl) in rw (g, z) refl
    go false g r =
        let z : k ≡ suc (before s xs) = e ∙ (rw g (omega arith)) in
        let less : before s xs < length xs = omega (arith, h, z) in
        rw (g, z) (ap (λ l. x ∷ l) (r (before s xs) d refl less))

-- where it isn't there, nothing changes
pub changed_nowhere : (s : ℕ) (f : Session → Session) (xs : List Session) → length xs ≤ before s xs → changed_at s f xs ≡ xs
changed_nowhere s f [] h = refl
changed_nowhere s f (x ∷ xs) h = go (is_of s x) refl (changed_nowhere s f xs)
  where
    go : (b : Bool) → is_of s x ≡ b → (length xs ≤ before s xs → changed_at s f xs ≡ xs) → changed_at s f (x ∷ xs) ≡ x ∷ xs
    go true g r = absurd (let z : length (x ∷ xs) ≤ 0 = rw g at h in omega (arith, z))
    go false g r = let z : length (x ∷ xs) ≤ 1 + before s xs = rw g at h in rw g (ap (λ l. x ∷ l) (r (omega (arith, z))))

pub inserts : (xs : List Session) (x : Session) (k : ℕ) → k ≡ below x.session xs → with_session xs x ≡ insert xs k x
inserts [] x k e = let z : k ≡ 0 = e in rw z refl
inserts (y ∷ ys) x k e = go (nat_lt x.session y.session) refl (inserts ys x (below x.session ys) refl)
  where
    go : (u : Bool) → nat_lt x.session y.session ≡ u → with_session ys x ≡ insert ys (below x.session ys) x → with_session (y ∷ ys) x ≡ insert (y ∷ ys) k x
    go true f r = let z : k ≡ 0 = e ∙ (rw f refl) in rw (f, z) refl
    go false f r = let z : k ≡ suc (below x.session ys) = e ∙ (rw f (omega arith)) in rw (f, z) (ap (λ l. y ∷ l) r)

-- ---- a change that is taken back

pub undone : (s : ℕ) (c : Change) (xs : List Session) (k : ℕ) (d : Session) (y : List Change) → k ≡ before s (changed_at s (with_change c) xs) → k < length (changed_at s (with_change c) xs)
    → ((cs : List Change) (e : Change) → (get_or (changed_at s (with_change c) xs) k d).changes ≡ cs ++ e ∷ [] → y ≡ cs)
    → slice_set (changed_at s (with_change c) xs) k (record (get_or (changed_at s (with_change c) xs) k d) { changes = y }) ≡ xs
undone s c [] k d y e h p = absurd (omega (arith, h))
undone s c (x ∷ xs) k d y e h p = go (is_of s x) refl (undone s c xs)
  where
    go : (b : Bool) → is_of s x ≡ b
        → ((j : ℕ) (d : Session) (y : List Change) → j ≡ before s (changed_at s (with_change c) xs) → j < length (changed_at s (with_change c) xs)
        → ((cs : List Change) (e : Change) → (get_or (changed_at s (with_change c) xs) j d).changes ≡ cs ++ e ∷ [] → y ≡ cs)
        → slice_set (changed_at s (with_change c) xs) j (record (get_or (changed_at s (with_change c) xs) j d) { changes = y }) ≡ xs)
        → slice_set (changed_at s (with_change c) (x ∷ xs)) k (record (get_or (changed_at s (with_change c) (x ∷ xs)) k d) { changes = y }) ≡ x ∷ xs
    go true g r =
        let z : k ≡ 0 = e ∙ (rw g (rw g refl)) in
        let q : (cs : List Change) (e : Change) → x.changes ++ c ∷ [] ≡ cs ++ e ∷ [] → y ≡ cs = rw (g, z) at p in
        let same : y ≡ x.changes = q x.changes c refl in
        rw (g, z, same) refl
    go false g r =
        let z : k ≡ suc (before s (changed_at s (with_change c) xs)) = e ∙ (rw g (rw g (omega arith))) in
        let q : (cs : List Change) (e : Change) → (get_or (changed_at s (with_change c) xs) (before s (changed_at s (with_change c) xs)) d).changes ≡ cs ++ e ∷ [] → y ≡ cs = rw (g, z) at p in
        let less : suc (before s (changed_at s (with_change c) xs)) < suc (length (changed_at s (with_change c) xs)) = rw (g, z) at h in
        rw (g, z) (ap (λ l. x ∷ l) (r (before s (changed_at s (with_change c) xs)) d y refl (omega (arith, less)) q))

pub never_made : (s : ℕ) (c : Change) (xs : List Session) → length (changed_at s (with_change c) xs) ≤ before s (changed_at s (with_change c) xs) → changed_at s (with_change c) xs ≡ xs
never_made s c [] h = refl
never_made s c (x ∷ xs) h = go (is_of s x) refl (never_made s c xs)
  where
    go : (b : Bool) → is_of s x ≡ b → (length (changed_at s (with_change c) xs) ≤ before s (changed_at s (with_change c) xs) → changed_at s (with_change c) xs ≡ xs) → changed_at s (with_change c) (x ∷ xs) ≡ x ∷ xs
    go true g r = absurd (let z : suc (length xs) ≤ 0 = rw (g, g) at h in omega (arith, z))
    go false g r = let z : suc (length (changed_at s (with_change c) xs)) ≤ 1 + before s (changed_at s (with_change c) xs) = rw (g, g) at h in rw g (ap (λ l. x ∷ l) (r (omega (arith, z))))
