-- The queue and the own transactions, with an entry, a Give and a commit.
use Rattle.std.proofs.Common.{◌≡◌, ◌≤◌, inl, inr, ℕ, Bool, true, false, ◌&&◌, not, suc, Some, List, [], ◌∷◌, ◌++◌, map, refl, sym, ap, ◌∙◌, subst, arith}
use Rattle.std.specs.Prelude.{filter, reverse, nat_le, if◌then◌else◌}
use Rattle.std.proofs.lemmas.Bool.{le-leb}
use Rattle.std.proofs.lemmas.List.{append-nil, append_assoc, map-append, reverse-append, reverse-reverse}
use Rattle.std.proofs.lemmas.List.Elements.{filter-append}
use Rattle.gr_ids.specs.declared.names.Inc.{Inc}
use Rattle.gtid_sets.specs.Sets.{Gtids, has}
use Rattle.node_rules.specs.Lists.{In}
use Rattle.group_rules.specs.Events.{Cert, Entry, Life, Took}
use Rattle.group_rules.specs.Life.{cert_of, certs, executed, is_error, state}
use Rattle.group_rules.specs.Queue.{is_done, is_own, pending}
use Rattle.group_rules.specs.Recovery.{given_of}
use Rattle.apply_queue.specs.Queues.{Queued}
use Rattle.apply_queue.specs.Following.{QueuedOf, is_for_workers, work_of, works_of}
use Rattle.apply_queue.proofs.Lives.{lacks, takes_none, takes_one}
use Rattle.member_truth.specs.Truth.{Rise}
use Rattle.prepare_acks.proofs.Entries.{only_one, place_is}
use Rattle.member_parts.specs.Remote.{OwnWork, Remote, free_from, own_work, with_given_work, with_own, with_remote, with_work, with_works}
use Rattle.member_parts.specs.Standing.{OwnOf}

-- ---- the queue, with an entry

-- the queue is that of the history with the entry, and no queued place is above it
pub record IsQueuedAfter (me : Inc) (l : Life) (e : Entry) (r : Remote) : Type 0 where
  pub queue : QueuedOf me (Took e ∷ l) r.queue
  pub free : free_from r.last ≤ suc e.place

pub takes_remote : (me : Inc) (l : Life) (e : Entry) (r : Remote) → QueuedOf me l r.queue → free_from r.last ≤ e.place → is_error (state l) ≡ false → is_done l e.place ≡ false → IsQueuedAfter me l e (with_remote me (executed l) (cert_of e) r)
takes_remote me l e r w h k d = go (cert_of e) refl
  where
    one : (c : Cert) → cert_of e ≡ c ∷ [] → c.place ≡ e.place → (b : Bool) → is_for_workers me (executed l) c ≡ b → IsQueuedAfter me l e (with_remote me (executed l) (c ∷ []) r)
    one c n p true f =
        let less : nat_le (free_from r.last) c.place ≡ true = le-leb (free_from r.last) c.place (omega (arith, h, p)) in
        let more : QueuedOf me (Took e ∷ l) (r.queue ++ work_of c ∷ []) = rw f at (takes_one me l e c r.queue w k n (ap (is_done l) p ∙ d)) in
        rw (f, less) (record { queue = more; free = omega (arith, p) })
    one c n p false f =
        let same : QueuedOf me (Took e ∷ l) (r.queue ++ []) = rw f at (takes_one me l e c r.queue w k n (ap (is_done l) p ∙ d)) in
        rw f (record { queue = subst (QueuedOf me (Took e ∷ l)) (append-nil r.queue) same; free = omega (arith, h) })

    go : (cs : List Cert) → cert_of e ≡ cs → IsQueuedAfter me l e (with_remote me (executed l) (cert_of e) r)
    go [] n = subst (λ (cs : List Cert). IsQueuedAfter me l e (with_remote me (executed l) cs r)) (sym n) (record { queue = takes_none me l e r.queue w n; free = omega (arith, h) })
    go (c ∷ cs) n =
        let m : In c (cert_of e) = subst (In c) (sym n) (inl refl) in
        subst (λ (ds : List Cert). IsQueuedAfter me l e (with_remote me (executed l) ds r)) (sym (only_one e c m)) (one c (only_one e c m) (place_is e c m) (is_for_workers me (executed l) c) refl)

-- ---- the own transactions, with an entry

own_left : (me : Inc) (s : Gtids) (c : Cert) → map own_work (filter (is_own me) (filter (lacks s) (c ∷ []))) ≡ (if is_own me c && not (has s c.gtid) then own_work c ∷ [] else [])
own_left me s c = go (is_own me c) refl (has s c.gtid) refl
  where
    go : (a : Bool) → is_own me c ≡ a → (b : Bool) → has s c.gtid ≡ b → map own_work (filter (is_own me) (filter (lacks s) (c ∷ []))) ≡ (if is_own me c && not (has s c.gtid) then own_work c ∷ [] else [])
    go true o true h = rw (o, h) refl
    go true o false h = rw (h, o) refl
    go false o true h = rw (o, h) refl
    go false o false h = rw (h, o) refl

pub takes_own : (me : Inc) (l : Life) (e : Entry) (ws : List OwnWork) → OwnOf me l ws → OwnOf me (Took e ∷ l) (with_own me (executed l) (cert_of e) ws)
takes_own me l e ws f k = go (cert_of e) refl
  where
    goal : List Cert → Type 0
    goal cs = with_own me (executed l) cs ws ≡ map own_work (filter (is_own me) (filter (lacks (executed l)) (reverse (cs ++ certs l))))

    one : (c : Cert) → goal (c ∷ [])
    one c =
        let s = executed l in
        let last : List Cert = filter (is_own me) (filter (lacks s) (c ∷ [])) in
        ap (λ (vs : List OwnWork). vs ++ (if is_own me c && not (has s c.gtid) then own_work c ∷ [] else [])) (f k)
        ∙ (ap (λ (vs : List OwnWork). map own_work (filter (is_own me) (pending l)) ++ vs) (sym (own_left me s c))
        ∙ (sym (map-append own_work (filter (is_own me) (pending l)) last)
        ∙ (ap (map own_work) (sym (filter-append (is_own me) (pending l) (filter (lacks s) (c ∷ []))))
        ∙ (ap (λ (ds : List Cert). map own_work (filter (is_own me) ds)) (sym (filter-append (lacks s) (reverse (certs l)) (c ∷ [])))
        ∙ ap (λ (ds : List Cert). map own_work (filter (is_own me) (filter (lacks s) ds))) (sym (reverse-append (c ∷ []) (certs l)))))))

    go : (cs : List Cert) → cert_of e ≡ cs → goal (cert_of e)
    go [] n = subst goal (sym n) (f k)
    go (c ∷ cs) n = subst goal (sym (only_one e c (subst (In c) (sym n) (inl refl)))) (one c)

-- ---- a Give

-- what one of them leaves
given_one : (me : Inc) (s : Gtids) (c : Cert) (r : Remote) (b : Bool) → is_for_workers me s c ≡ b → with_given_work me s r (given_of c) ≡ (if b then with_work (work_of c) r else r)
given_one me s c r b f = ap (λ (t : Bool). if t then with_work (work_of c) r else r) f

put_one : (q : Queued) (r : Remote) (b : Bool) → nat_le (free_from r.last) q.place ≡ b → with_work q r ≡ (if b then record { queue = r.queue ++ q ∷ []; last = Some q.place } else r)
put_one q r b f = ap (λ (t : Bool). if t then record { queue = r.queue ++ q ∷ []; last = Some q.place } else r) f

abbrev queue_of : Inc → Gtids → List Cert → Remote → List Queued
queue_of me s cs r = (with_works me s r (map given_of cs)).queue

abbrev free_of : Inc → Gtids → List Cert → Remote → ℕ
free_of me s cs r = free_from (with_works me s r (map given_of cs)).last

pub given_works : (me : Inc) (s : Gtids) (cs : List Cert) (r : Remote) → Rise cs → ((c : Cert) → In c cs → free_from r.last ≤ c.place) → (with_works me s r (map given_of cs)).queue ≡ r.queue ++ works_of me s cs
given_works me s [] r k h = sym (append-nil r.queue)
given_works me s (c ∷ cs) r k h =
    go (is_for_workers me s c) refl (given_works me s cs (record { queue = r.queue ++ work_of c ∷ []; last = Some c.place }) k.1 (λ d m. k.0 d m)) (given_works me s cs r k.1 (λ d m. h d (inr m)))
  where
    put : Remote
    put = record { queue = r.queue ++ work_of c ∷ []; last = Some c.place }

    go : (b : Bool) → is_for_workers me s c ≡ b → queue_of me s cs put ≡ put.queue ++ works_of me s cs → queue_of me s cs r ≡ r.queue ++ works_of me s cs → queue_of me s (c ∷ cs) r ≡ r.queue ++ works_of me s (c ∷ cs)
    go true f more same =
        let is : with_given_work me s r (given_of c) ≡ put = given_one me s c r true f ∙ put_one (work_of c) r true (le-leb (free_from r.last) c.place (h c (inl refl))) in
        let left : works_of me s (c ∷ cs) ≡ work_of c ∷ works_of me s cs = rw f refl in
        ap (queue_of me s cs) is ∙ (more ∙ (append_assoc r.queue (work_of c ∷ []) (works_of me s cs) ∙ ap (λ (qs : List Queued). r.queue ++ qs) (sym left)))
    go false f more same =
        let left : works_of me s (c ∷ cs) ≡ works_of me s cs = rw f refl in
        ap (queue_of me s cs) (given_one me s c r false f) ∙ (same ∙ ap (λ (qs : List Queued). r.queue ++ qs) (sym left))

pub given_free : (me : Inc) (s : Gtids) (cs : List Cert) (r : Remote) (n : ℕ) → free_from r.last ≤ suc n → ((c : Cert) → In c cs → c.place ≤ n) → free_from (with_works me s r (map given_of cs)).last ≤ suc n
given_free me s [] r n k h = k
given_free me s (c ∷ cs) r n k h =
    go (is_for_workers me s c) refl (nat_le (free_from r.last) c.place) refl (given_free me s cs (record { queue = r.queue ++ work_of c ∷ []; last = Some c.place }) n (omega (arith, h c (inl refl))) (λ d m. h d (inr m)))
    (given_free me s cs r n k (λ d m. h d (inr m)))
  where
    put : Remote
    put = record { queue = r.queue ++ work_of c ∷ []; last = Some c.place }

    go : (b : Bool) → is_for_workers me s c ≡ b → (a : Bool) → nat_le (free_from r.last) c.place ≡ a → free_of me s cs put ≤ suc n → free_of me s cs r ≤ suc n → free_of me s (c ∷ cs) r ≤ suc n
    go true f true g more same = subst (λ (z : Remote). free_of me s cs z ≤ suc n) (sym (given_one me s c r true f ∙ put_one (work_of c) r true g)) more
    go true f false g more same = subst (λ (z : Remote). free_of me s cs z ≤ suc n) (sym (given_one me s c r true f ∙ put_one (work_of c) r false g)) same
    go false f a g more same = subst (λ (z : Remote). free_of me s cs z ≤ suc n) (sym (given_one me s c r false f)) same

-- none of them is an own one
none_own : (me : Inc) (s : Gtids) (cs : List Cert) → ((c : Cert) → In c cs → is_own me c ≡ false) → filter (is_own me) (filter (lacks s) cs) ≡ []
none_own me s [] h = refl
none_own me s (c ∷ cs) h = go (has s c.gtid) refl (none_own me s cs (λ d m. h d (inr m)))
  where
    go : (b : Bool) → has s c.gtid ≡ b → filter (is_own me) (filter (lacks s) cs) ≡ [] → filter (is_own me) (filter (lacks s) (c ∷ cs)) ≡ []
    go true f r = rw f r
    go false f r = rw (f, h c (inl refl)) r

pub own_of_others : (me : Inc) (s : Gtids) (cs : List Cert) → ((c : Cert) → In c cs → is_own me c ≡ false) → map own_work (filter (is_own me) (filter (lacks s) (reverse (reverse cs)))) ≡ []
own_of_others me s cs h = ap (λ (ds : List Cert). map own_work (filter (is_own me) (filter (lacks s) ds))) (reverse-reverse cs) ∙ ap (map own_work) (none_own me s cs h)
