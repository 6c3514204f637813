-- What a commit takes out.
use Rattle.std.proofs.Common.{◌≡◌, inl, inr, ℕ, Bool, true, false, not, List, [], ◌∷◌, refl, ap, ◌∙◌, arith}
use Rattle.std.proofs.lemmas.Bool.{and_parts}
use Rattle.std.specs.List.{list_all}
use Rattle.gr_ids.specs.declared.names.Gtid.{Gtid}
use Rattle.gr_ids.specs.declared.names.Inc.{Inc}
use Rattle.gr_ids.specs.Names.{gtid_eq}
use Rattle.node_rules.specs.Lists.{In}
use Rattle.group_rules.specs.Events.{Cert, Life}
use Rattle.group_rules.specs.Queue.{is_done as was_done, queue}
use Rattle.apply_queue.specs.Following.{IsRising, QueuedOf, is_other, without}
use Rattle.apply_queue.specs.Queues.{Queued}
use Rattle.apply_queue.proofs.Standing.{Stand}
use Rattle.apply_queue.proofs.Lives.{stands}

pub absent : (g : Gtid) (qs : List Queued) → list_all (is_other g) qs ≡ true → without g qs ≡ qs
absent g [] a = refl
absent g (q ∷ qs) a = let k = and_parts (is_other g q) (list_all (is_other g) qs) a in rw k.0 (ap (λ (rs : List Queued). q ∷ rs) (absent g qs k.1))

pub first_out : (g : Gtid) (q : Queued) (qs : List Queued) → gtid_eq g q.gtid ≡ true → list_all (is_other g) qs ≡ true → without g (q ∷ qs) ≡ qs
first_out g q qs e a = rw e (absent g qs a)

-- ---- in the terms of the history

all_other : (f : ℕ → Bool) (g : Gtid) (cs : List Cert) (qs : List Queued) → Stand f cs qs → ((c : Cert) → In c cs → gtid_eq g c.gtid ≡ false) → list_all (is_other g) qs ≡ true
all_other f g [] [] s h = refl
all_other f g [] (q ∷ qs) s h = absurd s
all_other f g (c ∷ cs) [] s h = absurd s
all_other f g (c ∷ cs) (q ∷ qs) s h =
    let other : is_other g q ≡ true = ap (λ (x : Queued). is_other g x) s.0 ∙ ap not (h c (inl refl)) in
    rw other (all_other f g cs qs s.2 (λ d m. h d (inr m)))

pub apart : (me : Inc) (l : Life) (qs : List Queued) (g : Gtid) → QueuedOf me l qs → ((c : Cert) → In c (queue l me) → gtid_eq g c.gtid ≡ false) → list_all (is_other g) qs ≡ true
apart me l qs g w h = all_other (was_done l) g (queue l me) qs (stands me l qs w) h

all_behind : (f : ℕ → Bool) (cs : List Cert) (q : Queued) (qs : List Queued) → Stand f cs (q ∷ qs) → IsRising cs → ((d : Cert) → In d cs → gtid_eq q.gtid d.gtid ≡ true → d.place ≡ q.place) → list_all (is_other q.gtid) qs ≡ true
all_behind f [] q qs s k h = absurd s
all_behind f (c ∷ cs) q qs s k h = all_other f q.gtid cs qs s.2 (λ d m. go d m (gtid_eq q.gtid d.gtid) refl)
  where
    place : q.place ≡ c.place
    place = ap (λ (x : Queued). x.place) s.0

    go : (d : Cert) → In d cs → (b : Bool) → gtid_eq q.gtid d.gtid ≡ b → gtid_eq q.gtid d.gtid ≡ false
    go d m false e = e
    go d m true e = absurd (omega (arith, k.0 d m, place, h d (inr m) e))

pub behind : (me : Inc) (l : Life) (q : Queued) (qs : List Queued) → QueuedOf me l (q ∷ qs) → IsRising (queue l me) → ((d : Cert) → In d (queue l me) → gtid_eq q.gtid d.gtid ≡ true → d.place ≡ q.place) → list_all (is_other q.gtid) qs ≡ true
behind me l q qs w k h = all_behind (was_done l) (queue l me) q qs (stands me l (q ∷ qs) w) k h
