-- Queued places stand for certified transactions, one by one.
use Rattle.std.proofs.Common.{◌≡◌, ℕ, Bool, true, false, List, [], ◌∷◌, ◌++◌, map, inl, inr, refl, sym, ap, ◌∙◌}
use Rattle.std.specs.Prelude.{filter}
use Rattle.node_rules.specs.Lists.{In}
use Rattle.group_rules.specs.Events.{Cert}
use Rattle.apply_queue.specs.Following.{as_queued, work_of}
use Rattle.apply_queue.specs.Queues.{Mark, Queued, handed_out, is_done, is_waiting}
use Rattle.apply_queue.proofs.Firsts.{mark_waits}

-- each is the work of its transaction, and done where this says so of its place
abbrev pub Stand : (ℕ → Bool) → List Cert → List Queued → Type 0
Stand f [] [] = Unit {0}
Stand f [] (q ∷ qs) = ⊥
Stand f (c ∷ cs) [] = ⊥
Stand f (c ∷ cs) (q ∷ qs) = (as_queued q ≡ work_of c) × (is_done q ≡ f c.place) × Stand f cs qs

first_works : (x y : Queued) (xs ys : List Queued) → x ∷ xs ≡ y ∷ ys → (x ≡ y) × (xs ≡ ys)
first_works x y xs ys e = (cc, cc)

first_tests : (x y : Bool) (xs ys : List Bool) → x ∷ xs ≡ y ∷ ys → (x ≡ y) × (xs ≡ ys)
first_tests x y xs ys e = (cc, cc)

pub stand : (f : ℕ → Bool) (cs : List Cert) (qs : List Queued) → map as_queued qs ≡ map work_of cs → map is_done qs ≡ map (λ c. f c.place) cs → Stand f cs qs
stand f [] [] w d = tt
stand f [] (q ∷ qs) w d = absurd cc
stand f (c ∷ cs) [] w d = absurd cc
stand f (c ∷ cs) (q ∷ qs) w d =
    let v = first_works (as_queued q) (work_of c) (map as_queued qs) (map work_of cs) w in
    let e = first_tests (is_done q) (f c.place) (map is_done qs) (map (λ b. f b.place) cs) d in
    (v.0, e.0, stand f cs qs v.1 e.1)

pub works_stand : (f : ℕ → Bool) (cs : List Cert) (qs : List Queued) → Stand f cs qs → map as_queued qs ≡ map work_of cs
works_stand f [] [] s = refl
works_stand f [] (q ∷ qs) s = absurd s
works_stand f (c ∷ cs) [] s = absurd s
works_stand f (c ∷ cs) (q ∷ qs) s = ap (λ x. x ∷ map as_queued qs) s.0 ∙ ap (λ (xs : List Queued). work_of c ∷ xs) (works_stand f cs qs s.2)

pub done_stand : (f : ℕ → Bool) (cs : List Cert) (qs : List Queued) → Stand f cs qs → map is_done qs ≡ map (λ c. f c.place) cs
done_stand f [] [] s = refl
done_stand f [] (q ∷ qs) s = absurd s
done_stand f (c ∷ cs) [] s = absurd s
done_stand f (c ∷ cs) (q ∷ qs) s = ap (λ x. x ∷ map is_done qs) s.1 ∙ ap (λ (xs : List Bool). f c.place ∷ xs) (done_stand f cs qs s.2)

-- ---- what is put, and what is left

pub stand_append : (f : ℕ → Bool) (cs ds : List Cert) (qs rs : List Queued) → Stand f cs qs → Stand f ds rs → Stand f (cs ++ ds) (qs ++ rs)
stand_append f [] ds [] rs s t = t
stand_append f [] ds (q ∷ qs) rs s t = absurd s
stand_append f (c ∷ cs) ds [] rs s t = absurd s
stand_append f (c ∷ cs) ds (q ∷ qs) rs s t = (s.0, s.1, stand_append f cs ds qs rs s.2 t)

pub stand_filter : (f : ℕ → Bool) (p : Cert → Bool) (r : Queued → Bool) → ((c : Cert) (q : Queued) → as_queued q ≡ work_of c → p c ≡ r q) → (cs : List Cert) (qs : List Queued) → Stand f cs qs → Stand f (filter p cs) (filter r qs)
stand_filter f p r h [] [] s = tt
stand_filter f p r h [] (q ∷ qs) s = absurd s
stand_filter f p r h (c ∷ cs) [] s = absurd s
stand_filter f p r h (c ∷ cs) (q ∷ qs) s = go (p c) refl (stand_filter f p r h cs qs s.2)
  where
    go : (b : Bool) → p c ≡ b → Stand f (filter p cs) (filter r qs) → Stand f (filter p (c ∷ cs)) (filter r (q ∷ qs))
    go true e t = let k : r q ≡ true = sym (h c q s.0) ∙ e in rw (e, k) (s.0, s.1, t)
    go false e t = let k : r q ≡ false = sym (h c q s.0) ∙ e in rw (e, k) t

-- another test of places that says the same of these
pub stand_same : (f g : ℕ → Bool) (cs : List Cert) (qs : List Queued) → ((c : Cert) → In c cs → f c.place ≡ g c.place) → Stand f cs qs → Stand g cs qs
stand_same f g [] [] h s = tt
stand_same f g [] (q ∷ qs) h s = absurd s
stand_same f g (c ∷ cs) [] h s = absurd s
stand_same f g (c ∷ cs) (q ∷ qs) h s = (s.0, s.1 ∙ h c (inl refl), stand_same f g cs qs (λ d m. h d (inr m)) s.2)

-- ---- what is handed out

waits_undone : (q : Queued) → is_waiting q ≡ true → is_done q ≡ false
waits_undone q w = ap (λ (m : Mark). is_done (record q { mark = m })) (mark_waits q w)

pub stand_handed : (f : ℕ → Bool) (cs : List Cert) (qs : List Queued) → Stand f cs qs → Stand f cs (handed_out qs)
stand_handed f [] [] s = tt
stand_handed f [] (q ∷ qs) s = absurd s
stand_handed f (c ∷ cs) [] s = absurd s
stand_handed f (c ∷ cs) (q ∷ qs) s = go (is_waiting q) refl (stand_handed f cs qs s.2)
  where
    go : (b : Bool) → is_waiting q ≡ b → Stand f cs (handed_out qs) → Stand f (c ∷ cs) (handed_out (q ∷ qs))
    go true e t = rw e (s.0, sym (waits_undone q e) ∙ s.1, s.2)
    go false e t = rw e (s.0, s.1, t)
