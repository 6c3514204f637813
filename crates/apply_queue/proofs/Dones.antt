-- A place that is done.
use Rattle.std.proofs.Common.{◌≡◌, ℕ, Bool, true, false, List, [], ◌∷◌, refl, sym, ap, ◌∙◌, arith, eqb, eqb-true, eq-eqb, ne_eqb}
use Rattle.std.proofs.lemmas.Bool.{eqb-false}
use Rattle.gr_ids.specs.declared.names.Inc.{Inc}
use Rattle.key_items.specs.declared.change.Change.{Change}
use Rattle.key_items.specs.declared.item.Item.{Item}
use Rattle.group_rules.specs.Events.{Cert, Done as IsDone, Life}
use Rattle.group_rules.specs.Queue.{is_done as was_done, queue}
use Rattle.apply_queue.specs.Following.{IsRising, QueuedOf}
use Rattle.apply_queue.specs.Queues.{Queued, is_at, with_done}
use Rattle.apply_queue.proofs.Standing.{Stand, stand_same}
use Rattle.apply_queue.proofs.Lives.{queued, stands}

-- another place is done exactly where it was
elsewhere : (l : Life) (p r : ℕ) → eqb p r ≡ false → was_done l r ≡ was_done (IsDone p ∷ l) r
elsewhere l p r e = rw (was_done, e) refl

there : (l : Life) (p r : ℕ) → p ≡ r → true ≡ was_done (IsDone p ∷ l) r
there l p r e = rw (was_done, eq-eqb p r e) refl

done_stand_at : (l : Life) (p : ℕ) (ds : List Change) (ws : List Item) (cs : List Cert) (qs : List Queued) → IsRising cs → Stand (was_done l) cs qs → Stand (was_done (IsDone p ∷ l)) cs (with_done qs p ds ws)
done_stand_at l p ds ws [] [] k s = tt
done_stand_at l p ds ws [] (q ∷ qs) k s = absurd s
done_stand_at l p ds ws (c ∷ cs) [] k s = absurd s
done_stand_at l p ds ws (c ∷ cs) (q ∷ qs) k s = go (is_at p q) refl (done_stand_at l p ds ws cs qs k.1 s.2)
  where
    place : q.place ≡ c.place
    place = ap (λ (x : Queued). x.place) s.0

    go : (b : Bool) → is_at p q ≡ b → Stand (was_done (IsDone p ∷ l)) cs (with_done qs p ds ws) → Stand (was_done (IsDone p ∷ l)) (c ∷ cs) (with_done (q ∷ qs) p ds ws)
    go true e t =
        let here : p ≡ c.place = sym (eqb-true q.place p e) ∙ place in
        let later : Stand (was_done (IsDone p ∷ l)) cs qs =
        stand_same (was_done l) (was_done (IsDone p ∷ l)) cs qs (λ d m. elsewhere l p d.place (ne_eqb p d.place (λ same. absurd (omega (arith, k.0 d m, here, same))))) s.2 in
        rw e (s.0, there l p c.place here, later)
    go false e t = rw e (s.0, s.1 ∙ elsewhere l p c.place (ne_eqb p c.place (λ same. eqb-false q.place p e (place ∙ sym same))), t)

pub does : (me : Inc) (l : Life) (p : ℕ) (ds : List Change) (ws : List Item) (qs : List Queued) → QueuedOf me l qs → IsRising (queue l me) → QueuedOf me (IsDone p ∷ l) (with_done qs p ds ws)
does me l p ds ws qs w k = queued me (IsDone p ∷ l) (queue l me) (with_done qs p ds ws) refl (done_stand_at l p ds ws (queue l me) qs k (stands me l qs w))
