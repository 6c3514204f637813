-- What may be put behind the queue.
use Rattle.std.proofs.Common.{◌≡◌, ◌<◌, inl, inr, ℕ, Bool, true, false, List, [], ◌∷◌, ◌++◌, refl, ap, ◌∙◌}
use Rattle.std.specs.Prelude.{filter, reverse, nat_lt, if◌then◌else◌}
use Rattle.std.proofs.lemmas.Bool.{lt-ltb}
use Rattle.gr_ids.specs.declared.names.Inc.{Inc}
use Rattle.gtid_sets.specs.Sets.{Gtids}
use Rattle.node_rules.specs.Lists.{In}
use Rattle.group_rules.specs.Events.{Cert, Life}
use Rattle.group_rules.specs.Life.{certs, executed, is_error, state}
use Rattle.group_rules.specs.Queue.{is_done as was_done, pending, queue}
use Rattle.apply_queue.specs.Following.{QueuedOf, is_for_workers, with_certified, work_of, works_of}
use Rattle.apply_queue.specs.Queues.{Queued, is_above}
use Rattle.apply_queue.proofs.Lists.{in_filter, in_reverse}
use Rattle.apply_queue.proofs.Standing.{Stand}
use Rattle.apply_queue.proofs.Lives.{is_others, lacks, stands}

-- what is queued is certified
in_queue : (me : Inc) (l : Life) (c : Cert) → In c (queue l me) → In c (certs l)
in_queue me l c m = go (is_error (state l)) m
  where
    go : (b : Bool) → In c (elim b [ true ↦ [] | false ↦ filter (is_others me) (pending l) ]) → In c (certs l)
    go true n = absurd n
    go false n = in_reverse c (certs l) (in_filter (lacks (executed l)) c (reverse (certs l)) (in_filter (is_others me) c (pending l) n).0).0

all_above : (f : ℕ → Bool) (p : ℕ) (cs : List Cert) (qs : List Queued) → Stand f cs qs → ((d : Cert) → In d cs → d.place < p) → is_above qs p ≡ true
all_above f p [] [] s h = refl
all_above f p [] (q ∷ qs) s h = absurd s
all_above f p (c ∷ cs) [] s h = absurd s
all_above f p (c ∷ cs) (q ∷ qs) s h =
    let below : nat_lt q.place p ≡ true = ap (λ (x : Queued). nat_lt x.place p) s.0 ∙ lt-ltb c.place p (h c (inl refl)) in
    rw below (all_above f p cs qs s.2 (λ d m. h d (inr m)))

pub above : (me : Inc) (l : Life) (qs : List Queued) (p : ℕ) → QueuedOf me l qs → ((d : Cert) → In d (certs l) → d.place < p) → is_above qs p ≡ true
above me l qs p w h = all_above (was_done l) p (queue l me) qs (stands me l qs w) (λ d m. h d (in_queue me l d m))

pub above_given : (me : Inc) (e : Gtids) (cs : List Cert) (p : ℕ) → ((d : Cert) → In d cs → d.place < p) → is_above (works_of me e cs) p ≡ true
above_given me e [] p h = refl
above_given me e (c ∷ cs) p h = go (is_for_workers me e c) refl (above_given me e cs p (λ d m. h d (inr m)))
  where
    go : (b : Bool) → is_for_workers me e c ≡ b → is_above (works_of me e cs) p ≡ true → is_above (works_of me e (c ∷ cs)) p ≡ true
    go true f r = rw (f, lt-ltb c.place p (h c (inl refl))) r
    go false f r = rw f r

pub one_more : (me : Inc) (e : Gtids) (cs : List Cert) (c : Cert) → works_of me e (cs ++ c ∷ []) ≡ with_certified me e (works_of me e cs) c
one_more me e [] c = go (is_for_workers me e c) refl
  where
    go : (b : Bool) → is_for_workers me e c ≡ b → works_of me e (c ∷ []) ≡ (if is_for_workers me e c then work_of c ∷ [] else [])
    go true f = rw f refl
    go false f = rw f refl
one_more me e (d ∷ cs) c = go (is_for_workers me e d) refl (one_more me e cs c)
  where
    go : (b : Bool) → is_for_workers me e d ≡ b → works_of me e (cs ++ c ∷ []) ≡ with_certified me e (works_of me e cs) c → works_of me e (d ∷ (cs ++ c ∷ [])) ≡ with_certified me e (works_of me e (d ∷ cs)) c
    go true f r = rw f (ap (λ (qs : List Queued). work_of d ∷ qs) r)
    go false f r = rw f r
