-- What a worker's result leaves.
use Rattle.std.proofs.Common.{◌≡◌, ℕ, Bool, true, false, Some, None, List, [], ◌∷◌, refl, sym, ap, ◌∙◌, eqb, eqb-true, eq-eqb}
use Rattle.std.specs.Option.{option_map}
use Rattle.apply_queue.specs.declared.fault.QueueFault.TheVariants.{AlreadyDone, NotQueued}
use Rattle.std.proofs.lemmas.Slice.Eq.{bytes_eq-Decides}
use Rattle.gr_ids.specs.declared.names.Inc.{Inc}
use Rattle.gr_ids.specs.Names.{bytes_eq}
use Rattle.txn_forms.specs.Bodies.{body_bytes}
use Rattle.txn_forms.specs.declared.body.Body.TheVariants.{Txn as Writes}
use Rattle.group_rules.specs.declared.marks.Reply.TheVariants.{NotQueued as SaysNotQueued}
use Rattle.group_rules.specs.Events.{Cert, Life, Replied}
use Rattle.group_rules.specs.Member.{Member, push}
use Rattle.group_rules.specs.Queue.{at_place, is_done as was_done, queue}
use Rattle.group_rules.specs.Steps.{done_of, work}
use Rattle.apply_queue.specs.Following.{QueuedOf, as_queued, with_result, work_of}
use Rattle.apply_queue.specs.Queues.{Queued, is_at, is_done, at_place as queued_at, refusal, refused_at}
use Rattle.apply_queue.proofs.Standing.{Stand}
use Rattle.apply_queue.proofs.Lives.{stands}

by_tests : (p : ℕ) (b : List ℕ) (a : Member) (c : Cert) (q : Queued) (x y : Bool) → bytes_eq (body_bytes (Writes c.txn)) b ≡ x → bytes_eq q.body b ≡ x → was_done a.life p ≡ y → is_done q ≡ y
    → done_of p (Some b) (Some c) a ≡ with_result p (refused_at p b (Some q)) a
by_tests p b a c q false y e f g h = rw (done_of, e, f) refl
by_tests p b a c q true true e f g h = rw (done_of, e, f, g, h) refl
by_tests p b a c q true false e f g h = rw (done_of, e, f, g, h) refl

body_is : (c : Cert) (q : Queued) → as_queued q ≡ work_of c → q.body ≡ body_bytes (Writes c.txn)
body_is c q e = ap (λ (x : Queued). x.body) e

place_is : (c : Cert) (q : Queued) → as_queued q ≡ work_of c → q.place ≡ c.place
place_is c q e = ap (λ (x : Queued). x.place) e

leaves : (p : ℕ) (b : List ℕ) (a : Member) (cs : List Cert) (qs : List Queued) → Stand (was_done a.life) cs qs → done_of p (Some b) (at_place cs p) a ≡ with_result p (refused_at p b (queued_at qs p)) a
leaves p b a [] [] s = refl
leaves p b a [] (q ∷ qs) s = absurd s
leaves p b a (c ∷ cs) [] s = absurd s
leaves p b a (c ∷ cs) (q ∷ qs) s = go (is_at p q) refl (leaves p b a cs qs s.2)
  where
    there : (t : Bool) → is_at p q ≡ t → eqb c.place p ≡ t
    there t e = ap (λ n. eqb n p) (sym (place_is c q s.0)) ∙ e

    go : (t : Bool) → is_at p q ≡ t → done_of p (Some b) (at_place cs p) a ≡ with_result p (refused_at p b (queued_at qs p)) a → done_of p (Some b) (at_place (c ∷ cs) p) a ≡ with_result p (refused_at p b (queued_at (q ∷ qs) p)) a
    go true e r =
        let here : c.place ≡ p = sym (place_is c q s.0) ∙ eqb-true q.place p e in
        rw (e, there true e)
        (by_tests p b a c q (bytes_eq q.body b) (is_done q) (ap (λ (x : List ℕ). bytes_eq x b) (sym (body_is c q s.0))) refl (ap (was_done a.life) (sym here) ∙ sym s.1) refl)
    go false e r = rw (e, there false e) r

pub result_is : (a : Member) (qs : List Queued) (p : ℕ) (b : List ℕ) → QueuedOf a.me.inc a.life qs → work p (Some b) a ≡ with_result p (refusal qs p b) a
result_is a qs p b w = leaves p b a (queue a.life a.me.inc) qs (stands a.me.inc a.life qs w)

-- the GTID of a queued place is that of its transaction
gtids_in : (f : ℕ → Bool) (p : ℕ) (cs : List Cert) (qs : List Queued) → Stand f cs qs → option_map (λ (q : Queued). q.gtid) (queued_at qs p) ≡ option_map (λ (c : Cert). c.gtid) (at_place cs p)
gtids_in f p [] [] s = refl
gtids_in f p [] (q ∷ qs) s = absurd s
gtids_in f p (c ∷ cs) [] s = absurd s
gtids_in f p (c ∷ cs) (q ∷ qs) s = go (is_at p q) refl (gtids_in f p cs qs s.2)
  where
    go : (t : Bool) → is_at p q ≡ t → option_map (λ (x : Queued). x.gtid) (queued_at qs p) ≡ option_map (λ (d : Cert). d.gtid) (at_place cs p) → option_map (λ (x : Queued). x.gtid) (queued_at (q ∷ qs) p) ≡ option_map (λ (d : Cert). d.gtid) (at_place (c ∷ cs) p)
    go true e r =
        let there : eqb c.place p ≡ true = ap (λ m. eqb m p) (sym (place_is c q s.0)) ∙ e in
        rw (e, there) (ap (λ (x : Queued). Some x.gtid) s.0)
    go false e r = let there : eqb c.place p ≡ false = ap (λ m. eqb m p) (sym (place_is c q s.0)) ∙ e in rw (e, there) r

pub gtid_is : (me : Inc) (l : Life) (qs : List Queued) (p : ℕ) → QueuedOf me l qs → option_map (λ (q : Queued). q.gtid) (queued_at qs p) ≡ option_map (λ (c : Cert). c.gtid) (at_place (queue l me) p)
gtid_is me l qs p w = gtids_in (was_done l) p (queue l me) qs (stands me l qs w)

pub unqueued : (a : Member) (p : ℕ) → work p None a ≡ push (Replied (SaysNotQueued p)) a
unqueued a p = refl

-- a result that is taken is for this body, and the place isn't done yet
pub taken_at : (p : ℕ) (b : List ℕ) (q : Queued) → refused_at p b (Some q) ≡ None → (q.body ≡ b) × (is_done q ≡ false)
taken_at p b q n = go (bytes_eq q.body b) refl (is_done q) refl
  where
    go : (x : Bool) → bytes_eq q.body b ≡ x → (y : Bool) → is_done q ≡ y → (q.body ≡ b) × (is_done q ≡ false)
    go true g true h = absurd (let z : Some (AlreadyDone p) ≡ None = rw (g, h) at n in cc)
    go true g false h = ((bytes_eq-Decides q.body b).0 g, h)
    go false g y h = absurd (let z : Some (NotQueued p) ≡ None = rw g at n in cc)

-- where it is taken
found_in : (f : ℕ → Bool) (p : ℕ) (b : List ℕ) (cs : List Cert) (qs : List Queued) → Stand f cs qs → refused_at p b (queued_at qs p) ≡ None → (c : Cert) × (at_place cs p ≡ Some c) × (body_bytes (Writes c.txn) ≡ b) × (f p ≡ false)
found_in f p b [] [] s n = absurd cc
found_in f p b [] (q ∷ qs) s n = absurd s
found_in f p b (c ∷ cs) [] s n = absurd s
found_in f p b (c ∷ cs) (q ∷ qs) s n = go (is_at p q) refl (found_in f p b cs qs s.2)
  where
    go : (t : Bool) → is_at p q ≡ t → (refused_at p b (queued_at qs p) ≡ None → (d : Cert) × (at_place cs p ≡ Some d) × (body_bytes (Writes d.txn) ≡ b) × (f p ≡ false)) → (d : Cert) × (at_place (c ∷ cs) p ≡ Some d) × (body_bytes (Writes d.txn) ≡ b) × (f p ≡ false)
    go false e r =
        let other : eqb c.place p ≡ false = ap (λ m. eqb m p) (sym (place_is c q s.0)) ∙ e in
        let later : refused_at p b (queued_at qs p) ≡ None = rw e at n in
        let k = r later in
        (k.0, rw other k.1, k.2, k.3)
    go true e r =
        let here : c.place ≡ p = sym (place_is c q s.0) ∙ eqb-true q.place p e in
        let this : refused_at p b (Some q) ≡ None = rw e at n in
        let k = taken_at p b q this in
        (c, rw (eq-eqb c.place p here) refl, sym (body_is c q s.0) ∙ k.0, ap f (sym here) ∙ (sym s.1 ∙ k.1))

pub found : (me : Inc) (l : Life) (qs : List Queued) (p : ℕ) (b : List ℕ) → QueuedOf me l qs → refusal qs p b ≡ None → (c : Cert) × (at_place (queue l me) p ≡ Some c) × (body_bytes (Writes c.txn) ≡ b) × (was_done l p ≡ false)
found me l qs p b w n = found_in (was_done l) p b (queue l me) qs (stands me l qs w) n
