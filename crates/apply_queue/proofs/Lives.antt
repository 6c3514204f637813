-- The queue, thing by thing.
use Rattle.std.proofs.Common.{◌≡◌, ℕ, Bool, true, false, ◌||◌, not, List, [], ◌∷◌, ◌++◌, map, refl, sym, ap, ◌∙◌}
use Rattle.std.specs.Prelude.{filter, reverse, if◌then◌else◌}
use Rattle.std.proofs.lemmas.List.{reverse-append, reverse-reverse}
use Rattle.std.proofs.lemmas.List.Elements.{filter-append}
use Rattle.gr_ids.specs.declared.names.Inc.{Inc}
use Rattle.gr_ids.specs.declared.names.Gtid.{Gtid}
use Rattle.gr_ids.specs.declared.levels.MemberState.{MemberState}
use Rattle.gr_ids.specs.declared.levels.MemberState.TheVariants.{Error}
use Rattle.gr_ids.specs.Names.{gtid_eq}
use Rattle.gtid_sets.specs.Sets.{Gtids, has, with_gtid}
use Rattle.gtid_sets.specs.Canonical.{IsCanonical, IsNumber, IsUuid}
use Rattle.gtid_sets.proofs.LawLemmas.{all_with_gtid}
use Rattle.paxos_forms.specs.declared.recovery.Give.{Give}
use Rattle.group_rules.specs.declared.marks.Cause.{Cause}
use Rattle.group_rules.specs.Events.{AskFails, AsksCommit, Answered, Begun, Called, Came, Cert, Changed, Committed, Did, Done, Ends, Enters, Entry, Founds, Gave, Is, Life, Made, Replied, Restores, Skips, Starts, Stored, Took}
use Rattle.group_rules.specs.Life.{cert_of, certs, executed, is_error, state}
use Rattle.group_rules.specs.Queue.{is_done as was_done, is_own, pending, queue}
use Rattle.apply_queue.specs.Following.{QueuedOf, is_for_workers, is_of_queue, is_other, with_certified, without, work_of, works_of}
use Rattle.apply_queue.specs.Queues.{Queued, handed_out}
use Rattle.apply_queue.proofs.Standing.{Stand, done_stand, stand, stand_append, stand_filter, stand_handed, works_stand}

abbrev pub lacks : Gtids → Cert → Bool
lacks e c = not (has e c.gtid)

abbrev pub is_others : Inc → Cert → Bool
is_others me c = not (is_own me c)

pub queue_is : (l : Life) (me : Inc) → is_error (state l) ≡ false → queue l me ≡ filter (is_others me) (pending l)
queue_is l me h = rw (queue, h) refl

-- ---- the relation, one by one

pub stands : (me : Inc) (l : Life) (qs : List Queued) → QueuedOf me l qs → Stand (was_done l) (queue l me) qs
stands me l qs w = stand (was_done l) (queue l me) qs w.works w.done

pub queued : (me : Inc) (l : Life) (cs : List Cert) (qs : List Queued) → queue l me ≡ cs → Stand (was_done l) cs qs → QueuedOf me l qs
queued me l cs qs e s = record {
  works = works_stand (was_done l) cs qs s ∙ ap (map work_of) (sym e);
  done = done_stand (was_done l) cs qs s ∙ ap (map (λ (c : Cert). was_done l c.place)) (sym e);
}

-- ---- an entry

pub takes_none : (me : Inc) (l : Life) (e : Entry) (qs : List Queued) → QueuedOf me l qs → cert_of e ≡ [] → QueuedOf me (Took e ∷ l) qs
takes_none me l e qs w n = go (is_error (state l)) refl
  where
    go : (b : Bool) → is_error (state l) ≡ b → QueuedOf me (Took e ∷ l) qs
    go true h = queued me (Took e ∷ l) [] qs (rw (queue, h) refl) (let s : Stand (was_done l) [] qs = rw (queue, h) at (stands me l qs w) in s)
    go false h =
        let same : queue (Took e ∷ l) me ≡ queue l me =
        queue_is (Took e ∷ l) me h
        ∙ (ap (λ (cs : List Cert). filter (is_others me) (filter (lacks (executed l)) (reverse (cs ++ certs l)))) n ∙ sym (queue_is l me h)) in
        queued me (Took e ∷ l) (queue l me) qs same (stands me l qs w)

new_one : (me : Inc) (e : Gtids) (f : ℕ → Bool) (c : Cert) → f c.place ≡ false → Stand f (filter (is_others me) (filter (lacks e) (c ∷ []))) (if is_for_workers me e c then work_of c ∷ [] else [])
new_one me e f c d = go (is_own me c) refl (has e c.gtid) refl
  where
    go : (a : Bool) → is_own me c ≡ a → (b : Bool) → has e c.gtid ≡ b → Stand f (filter (is_others me) (filter (lacks e) (c ∷ []))) (if is_for_workers me e c then work_of c ∷ [] else [])
    go true o true h = rw (o, h) tt
    go true o false h = rw (h, o) tt
    go false o true h = rw (o, h) tt
    go false o false h = rw (h, o) (refl, sym d, tt)

pub takes_one : (me : Inc) (l : Life) (e : Entry) (c : Cert) (qs : List Queued) → QueuedOf me l qs → is_error (state l) ≡ false → cert_of e ≡ c ∷ [] → was_done l c.place ≡ false → QueuedOf me (Took e ∷ l) (with_certified me (executed l) qs c)
takes_one me l e c qs w h n d =
    let s = executed l in
    let new : List Queued = if is_for_workers me s c then work_of c ∷ [] else [] in
    let last : List Cert = filter (is_others me) (filter (lacks s) (c ∷ [])) in
    let more : queue (Took e ∷ l) me ≡ queue l me ++ last =
    queue_is (Took e ∷ l) me h
    ∙ (ap (λ (cs : List Cert). filter (is_others me) (filter (lacks s) (reverse (cs ++ certs l)))) n
    ∙ (ap (λ (cs : List Cert). filter (is_others me) (filter (lacks s) cs)) (reverse-append (c ∷ []) (certs l))
    ∙ (ap (filter (is_others me)) (filter-append (lacks s) (reverse (certs l)) (c ∷ []))
    ∙ (filter-append (is_others me) (pending l) (filter (lacks s) (c ∷ [])) ∙ ap (λ (cs : List Cert). cs ++ last) (sym (queue_is l me h)))))) in
    queued me (Took e ∷ l) (queue l me ++ last) (qs ++ new) more (stand_append (was_done l) (queue l me) last qs new (stands me l qs w) (new_one me s (was_done l) c d))

-- ---- a place that is handed out

pub hands : (me : Inc) (l : Life) (qs : List Queued) → QueuedOf me l qs → QueuedOf me l (handed_out qs)
hands me l qs w = queued me l (queue l me) (handed_out qs) refl (stand_handed (was_done l) (queue l me) qs (stands me l qs w))

-- ---- a commit

abbrev pub is_not : Gtid → Cert → Bool
is_not g c = not (gtid_eq g c.gtid)

left : (me : Inc) (s t : Gtids) (g : Gtid) → ((m : Gtid) → has t m ≡ (gtid_eq g m || has s m)) → (cs : List Cert) → filter (is_others me) (filter (lacks t) cs) ≡ filter (is_not g) (filter (is_others me) (filter (lacks s) cs))
left me s t g h [] = refl
left me s t g h (c ∷ cs) = go (gtid_eq g c.gtid) refl (has s c.gtid) refl (is_own me c) refl (left me s t g h cs)
  where
    go : (a : Bool) → gtid_eq g c.gtid ≡ a → (b : Bool) → has s c.gtid ≡ b → (o : Bool) → is_own me c ≡ o
        → filter (is_others me) (filter (lacks t) cs) ≡ filter (is_not g) (filter (is_others me) (filter (lacks s) cs))
        → filter (is_others me) (filter (lacks t) (c ∷ cs)) ≡ filter (is_not g) (filter (is_others me) (filter (lacks s) (c ∷ cs)))
    go true ea true eb o eo r = let k : has t c.gtid ≡ true = h c.gtid ∙ rw ea refl in rw (k, eb) r
    go true ea false eb true eo r = let k : has t c.gtid ≡ true = h c.gtid ∙ rw ea refl in rw (k, eb, eo) r
    go true ea false eb false eo r = let k : has t c.gtid ≡ true = h c.gtid ∙ rw ea refl in rw (k, eb, eo, ea) r
    go false ea true eb o eo r = let k : has t c.gtid ≡ true = h c.gtid ∙ rw (ea, eb) refl in rw (k, eb) r
    go false ea false eb true eo r = let k : has t c.gtid ≡ false = h c.gtid ∙ rw (ea, eb) refl in rw (k, eb, eo) r
    go false ea false eb false eo r = let k : has t c.gtid ≡ false = h c.gtid ∙ rw (ea, eb) refl in rw (k, eb, eo, ea) (ap (λ (ds : List Cert). c ∷ ds) r)

pub commits : (me : Inc) (l : Life) (g : Gtid) (qs : List Queued) → QueuedOf me l qs → IsCanonical (executed l) → IsUuid g.source → IsNumber g.number → QueuedOf me (Committed g ∷ l) (without g qs)
commits me l g qs w k u n = queued me (Committed g ∷ l) (filter (is_not g) (queue l me)) (without g qs) (go (is_error (state l)) refl)
    (stand_filter (was_done l) (is_not g) (is_other g) (λ c q e. ap (λ (x : Queued). is_other g x) (sym e)) (queue l me) qs (stands me l qs w))
  where
    go : (b : Bool) → is_error (state l) ≡ b → queue (Committed g ∷ l) me ≡ filter (is_not g) (queue l me)
    go true h = rw (queue, h) refl
    go false h =
        queue_is (Committed g ∷ l) me h
        ∙ (left me (executed l) (with_gtid (executed l) g) g (λ m. all_with_gtid (executed l) g m k u n) (reverse (certs l)) ∙ ap (filter (is_not g)) (sym (queue_is l me h)))

-- ---- a Give

fresh : (me : Inc) (e : Gtids) (f : ℕ → Bool) → ((p : ℕ) → f p ≡ false) → (cs : List Cert) → Stand f (filter (is_others me) (filter (lacks e) cs)) (works_of me e cs)
fresh me e f n [] = tt
fresh me e f n (c ∷ cs) = go (is_own me c) refl (has e c.gtid) refl (fresh me e f n cs)
  where
    go : (a : Bool) → is_own me c ≡ a → (b : Bool) → has e c.gtid ≡ b → Stand f (filter (is_others me) (filter (lacks e) cs)) (works_of me e cs) → Stand f (filter (is_others me) (filter (lacks e) (c ∷ cs))) (works_of me e (c ∷ cs))
    go true o true h r = rw (o, h) r
    go true o false h r = rw (h, o) r
    go false o true h r = rw (o, h) r
    go false o false h r = rw (h, o) (refl, sym (n c.place), r)

pub restores : (me : Inc) (l : Life) (g : Give) (cs : List Cert) → is_error (state l) ≡ false → ((p : ℕ) → was_done l p ≡ false) → QueuedOf me (Restores g cs ∷ l) (works_of me (executed l) cs)
restores me l g cs h n =
    let given : queue (Restores g cs ∷ l) me ≡ filter (is_others me) (filter (lacks (executed l)) cs) =
    queue_is (Restores g cs ∷ l) me h ∙ ap (λ (ds : List Cert). filter (is_others me) (filter (lacks (executed l)) ds)) (reverse-reverse cs) in
    queued me (Restores g cs ∷ l) (filter (is_others me) (filter (lacks (executed l)) cs)) (works_of me (executed l) cs) given (fresh me (executed l) (was_done l) n cs)

-- ---- a state

pub changes_state : (me : Inc) (l : Life) (s : MemberState) (c : Cause) (qs : List Queued) → QueuedOf me l qs → is_error (state l) ≡ false → is_error s ≡ false → QueuedOf me (Is s c ∷ l) qs
changes_state me l s c qs w h k = queued me (Is s c ∷ l) (queue l me) qs (queue_is (Is s c ∷ l) me k ∙ sym (queue_is l me h)) (stands me l qs w)

-- ---- the begin, and a fall

pub founded : (me : Inc) → QueuedOf me (Founds ∷ []) []
founded me = record { works = refl; done = refl }

pub started : (me : Inc) (x : Stored) → QueuedOf me (Starts x ∷ []) []
started me x = record { works = refl; done = refl }

pub failed : (me : Inc) (l : Life) (c : Cause) → QueuedOf me (Is Error c ∷ l) []
failed me l c = record { works = refl; done = refl }

-- ---- what else happens

pub passes : (me : Inc) (l : Life) (d : Did) (qs : List Queued) → is_of_queue d ≡ false → QueuedOf me l qs → QueuedOf me (d ∷ l) qs
passes me l Founds qs h f = record { works = f.works; done = f.done }
passes me l (Starts y) qs h f = cc
passes me l (Came e) qs h f = record { works = f.works; done = f.done }
passes me l (Made v y) qs h f = record { works = f.works; done = f.done }
passes me l (Took e) qs h f = cc
passes me l (Skips t v) qs h f = record { works = f.works; done = f.done }
passes me l (Done p) qs h f = cc
passes me l (Committed g) qs h f = cc
passes me l (Is m c) qs h f = cc
passes me l (Gave p n) qs h f = record { works = f.works; done = f.done }
passes me l (Answered n a) qs h f = record { works = f.works; done = f.done }
passes me l (Begun n e y) qs h f = record { works = f.works; done = f.done }
passes me l (Changed n c) qs h f = record { works = f.works; done = f.done }
passes me l (Replied r) qs h f = record { works = f.works; done = f.done }
passes me l (Called n v w) qs h f = record { works = f.works; done = f.done }
passes me l (AsksCommit n i) qs h f = record { works = f.works; done = f.done }
passes me l (Ends n) qs h f = record { works = f.works; done = f.done }
passes me l (Enters w) qs h f = record { works = f.works; done = f.done }
passes me l (Restores g cs) qs h f = cc
passes me l AskFails qs h f = record { works = f.works; done = f.done }
