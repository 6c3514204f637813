-- The first of the queue, and what is shown.
use Rattle.std.proofs.Common.{◌≡◌, ◌<◌, inl, inr, ℕ, Bool, true, false, ◌&&◌, ◌||◌, not, List, [], ◌∷◌, map, refl, sym, ap, subst, ◌∙◌, true≢false, eq-eqb}
use Rattle.std.specs.Prelude.{filter, reverse, nat_lt, if◌then◌else◌}
use Rattle.std.proofs.lemmas.Bool.{lt-ltb}
use Rattle.gr_ids.specs.declared.names.Inc.{Inc}
use Rattle.gtid_sets.specs.Sets.{has}
use Rattle.node_rules.specs.Lists.{In}
use Rattle.group_rules.specs.declared.said.Look.TheVariants.{Queue as ShowsQueue}
use Rattle.group_rules.specs.declared.said.QueuedPlace.{QueuedPlace}
use Rattle.group_rules.specs.Events.{Cert, Life}
use Rattle.group_rules.specs.Life.{certs, executed, is_error, state}
use Rattle.group_rules.specs.Looks.{show_queue}
use Rattle.group_rules.specs.Member.{Member}
use Rattle.group_rules.specs.Queue.{all_below, is_done as was_done, is_own, pending, queue}
use Rattle.apply_queue.specs.Following.{IsRising, QueuedOf, as_queued, work_of}
use Rattle.apply_queue.specs.Queues.{Queued, front_is_done, is_done, shown}
use Rattle.apply_queue.proofs.Lists.{all_in, in_filter, in_reverse}
use Rattle.apply_queue.proofs.Standing.{Stand}
use Rattle.apply_queue.proofs.Lives.{is_others, lacks, queue_is, stands}

rising_left : (p : Cert → Bool) (cs : List Cert) → IsRising cs → IsRising (filter p cs)
rising_left p [] k = tt
rising_left p (c ∷ cs) k = go (p c) (rising_left p cs k.1)
  where
    go : (b : Bool) → IsRising (filter p cs) → IsRising (if b then c ∷ filter p cs else filter p cs)
    go true r = ((λ d m. k.0 d (in_filter p d cs m).0), r)
    go false r = r

pub rises : (me : Inc) (l : Life) → IsRising (pending l) → IsRising (queue l me)
rises me l k = go (is_error (state l))
  where
    go : (b : Bool) → IsRising (elim b [ true ↦ [] | false ↦ filter (is_others me) (pending l) ])
    go true = tt
    go false = rising_left (is_others me) (pending l) k

-- ---- the first

-- what is pending isn't committed, and all below this place is
not_below : (l : Life) (d : Cert) (p : ℕ) → In d (pending l) → all_below (executed l) (certs l) p ≡ true → d.place < p → ⊥
not_below l d p m a less =
    let k = in_filter (lacks (executed l)) d (reverse (certs l)) m in
    let b : (not (nat_lt d.place p) || has (executed l) d.gtid) ≡ true = all_in (λ (c : Cert). not (nat_lt c.place p) || has (executed l) c.gtid) d (certs l) a (in_reverse d (certs l) k.0) in
    go (has (executed l) d.gtid) (rw (lt-ltb d.place p less) at b) k.1
  where
    go : (h : Bool) → h ≡ true → not h ≡ true → ⊥
    go true e f = true≢false (sym f)
    go false e f = true≢false (sym e)

first_pending : (l : Life) (c : Cert) → IsRising (pending l) → In c (pending l) → all_below (executed l) (certs l) c.place ≡ true → (rest : List Cert) × (pending l ≡ c ∷ rest)
first_pending l c k m a = go (pending l) refl k m
  where
    go : (ds : List Cert) → pending l ≡ ds → IsRising ds → In c ds → (rest : List Cert) × (pending l ≡ c ∷ rest)
    go [] e r n = absurd n
    go (d ∷ ds) e r (inl same) = (ds, e ∙ ap (λ x. x ∷ ds) same)
    go (d ∷ ds) e r (inr n) = absurd (not_below l d c.place (subst (In d) (sym e) (inl refl)) a (r.0 c n))

-- the queue begins with this transaction
pub record Begins (l : Life) (c : Cert) (qs : List Queued) : Type 0 where
  pub front : Queued
  pub rest : List Queued
  pub is : qs ≡ front ∷ rest
  pub work : as_queued front ≡ work_of c
  pub done : is_done front ≡ was_done l c.place

begins_with : (l : Life) (c : Cert) (cs : List Cert) (qs : List Queued) → Stand (was_done l) (c ∷ cs) qs → Begins l c qs
begins_with l c cs [] s = absurd s
begins_with l c cs (q ∷ qs) s = record { front = q; rest = qs; is = refl; work = s.0; done = s.1 }

begins : (me : Inc) (l : Life) (qs : List Queued) (c : Cert) → QueuedOf me l qs → is_error (state l) ≡ false → IsRising (pending l) → In c (pending l) → is_own me c ≡ false → all_below (executed l) (certs l) c.place ≡ true → Begins l c qs
begins me l qs c w h k m o a =
    let first = first_pending l c k m a in
    let others : List Cert = filter (is_others me) first.0 in
    let front : queue l me ≡ c ∷ others = queue_is l me h ∙ (ap (filter (is_others me)) first.1 ∙ rw o refl) in
    begins_with l c others qs (subst (λ (cs : List Cert). Stand (was_done l) cs qs) front (stands me l qs w))

pub first_is : (me : Inc) (l : Life) (qs : List Queued) (c : Cert) → QueuedOf me l qs → is_error (state l) ≡ false → IsRising (pending l) → In c (pending l) → is_own me c ≡ false → all_below (executed l) (certs l) c.place ≡ true
    → (q : Queued) × (rest : List Queued) × (qs ≡ q ∷ rest) × (as_queued q ≡ work_of c) × (is_done q ≡ was_done l c.place)
first_is me l qs c w h k m o a = let b = begins me l qs c w h k m o a in (b.front, b.rest, b.is, b.work, b.done)

pub front_is : (me : Inc) (l : Life) (qs : List Queued) (c : Cert) → QueuedOf me l qs → is_error (state l) ≡ false → IsRising (pending l) → In c (pending l) → is_own me c ≡ false → all_below (executed l) (certs l) c.place ≡ true → front_is_done qs c.place ≡ was_done l c.place
front_is me l qs c w h k m o a =
    let b = begins me l qs c w h k m o a in
    ap (λ (rs : List Queued). front_is_done rs c.place) b.is ∙ (rw (eq-eqb b.front.place c.place (ap (λ (x : Queued). x.place) b.work)) (alone (is_done b.front)) ∙ b.done)
  where
    alone : (t : Bool) → (t && true) ≡ t
    alone true = refl
    alone false = refl

-- ---- what is shown

shows : (f : ℕ → Bool) (cs : List Cert) (qs : List Queued) → Stand f cs qs → map shown qs ≡ map {A = Cert} (λ c. record { place = c.place; done = f c.place }) cs
shows f [] [] s = refl
shows f [] (q ∷ qs) s = absurd s
shows f (c ∷ cs) [] s = absurd s
shows f (c ∷ cs) (q ∷ qs) s =
    let first : shown q ≡ record { place = c.place; done = f c.place } = λ i. record { place = (s.0 i).place; done = s.1 i } in
    ap (λ (x : QueuedPlace). x ∷ map shown qs) first ∙ ap (λ (xs : List QueuedPlace). record { place = c.place; done = f c.place } ∷ xs) (shows f cs qs s.2)

pub shows_queue : (a : Member) (qs : List Queued) → QueuedOf a.me.inc a.life qs → show_queue a ≡ ShowsQueue a.me.inc (map shown qs)
shows_queue a qs w = ap (ShowsQueue a.me.inc) (sym (shows (was_done a.life) (queue a.life a.me.inc) qs (stands a.me.inc a.life qs w)))
