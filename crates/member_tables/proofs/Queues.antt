-- What an entry, a state and a commit make of the queue.
use Rattle.std.proofs.Common.{◌≡◌, ◌⊎◌, inl, inr, ℕ, ◌==◌, Bool, true, false, ◌||◌, not, Option, Some, None, List, [], ◌∷◌, ◌++◌, refl, sym, ap, ◌∙◌, filter}
use Rattle.std.specs.Prelude.{reverse}
use Rattle.std.proofs.lemmas.List.{reverse-append}
use Rattle.std.proofs.lemmas.List.Elements.{filter-append}
use Rattle.gr_ids.specs.declared.names.Gtid.{Gtid}
use Rattle.gr_ids.specs.declared.names.Inc.{Inc}
use Rattle.gr_ids.specs.declared.names.ValueId.{ValueId}
use Rattle.gr_ids.specs.Names.{gtid_eq}
use Rattle.gtid_sets.specs.Sets.{Gtids, has, with_gtid}
use Rattle.row_store.proofs.Known.{in_reverse}
use Rattle.node_rules.specs.Lists.{In}
use Rattle.txn_forms.specs.declared.body.Body.{Body}
use Rattle.txn_forms.specs.declared.body.Body.TheVariants.{Txn as Writes, Prepared, Sync, Executed, Online as Arrives, Mode as Switches, Primary as Appoints, Part as PartOf}
use Rattle.group_rules.specs.declared.marks.Effect.{Effect}
use Rattle.group_rules.specs.declared.marks.Effect.TheVariants.{Plain, Void, Unread, Positive, Conflict}
use Rattle.group_rules.specs.Events.{Cert, Committed, Entry, Life, Took}
use Rattle.group_rules.specs.Life.{cert_by, cert_of, certs, executed, is_error, state}
use Rattle.group_rules.specs.Queue.{is_done, is_own, pending, queue}
use Rattle.local_sessions.specs.Following.{done_places}
use Rattle.local_sessions.proofs.Queued.{passed, taken}

abbrev pub lacks : Gtids → Cert → Bool
lacks e c = not (has e c.gtid)

abbrev pub is_others : Inc → Cert → Bool
is_others me c = not (is_own me c)

pub queue_is : (l : Life) (me : Inc) → is_error (state l) ≡ false → queue l me ≡ filter (is_others me) (pending l)
queue_is l me h = rw (queue, h) refl

pub no_queue : (l : Life) (me : Inc) → is_error (state l) ≡ true → queue l me ≡ []
no_queue l me h = rw (queue, h) refl

-- ---- what an entry certifies

-- one transaction at its place, or none
pub certified : (p : ℕ) (i : ValueId) (f : Effect) (b : Option Body) → (cert_by p i f b ≡ []) ⊎ ((c : Cert) × (c.place ≡ p) × (cert_by p i f b ≡ c ∷ []))
certified p i (Positive g) (Some (Writes t)) = inr (record { place = p; id = i; gtid = g; txn = t }, refl, refl)
certified p i (Positive g) (Some (Prepared h)) = inl refl
certified p i (Positive g) (Some Sync) = inl refl
certified p i (Positive g) (Some (Executed s)) = inl refl
certified p i (Positive g) (Some (Arrives s)) = inl refl
certified p i (Positive g) (Some (Switches m)) = inl refl
certified p i (Positive g) (Some (Appoints j)) = inl refl
certified p i (Positive g) (Some (PartOf y)) = inl refl
certified p i (Positive g) None = inl refl
certified p i Plain b = inl refl
certified p i Void b = inl refl
certified p i Unread b = inl refl
certified p i (Conflict g) b = inl refl

-- ---- an entry

abbrev waits_in : Inc → Gtids → List Cert → List Cert
waits_in me e cs = filter (is_others me) (filter (lacks e) cs)

-- one more that isn't done
one_more : (l : Life) (me : Inc) (e : Gtids) (cs : List Cert) (c : Cert) → is_done l c.place ≡ false → done_places l (cs ++ waits_in me e (c ∷ [])) ≡ done_places l cs
one_more l me e cs c d = go (has e c.gtid) refl (is_own me c) refl
  where
    nil : (cs : List Cert) → cs ++ [] ≡ cs
    nil [] = refl
    nil (x ∷ xs) = ap (λ (ys : List Cert). x ∷ ys) (nil xs)

    go : (a : Bool) → has e c.gtid ≡ a → (b : Bool) → is_own me c ≡ b → done_places l (cs ++ waits_in me e (c ∷ [])) ≡ done_places l cs
    go true h b o = rw h (ap (done_places l) (nil cs))
    go false h true o = rw (h, o) (ap (done_places l) (nil cs))
    go false h false o = rw (h, o) (taken l cs c d)

pub takes : (l : Life) (me : Inc) (e : Entry) → is_done l e.place ≡ false → done_places (Took e ∷ l) (queue (Took e ∷ l) me) ≡ done_places l (queue l me)
takes l me e d = passed l (Took e) (queue (Took e ∷ l) me) refl ∙ by (is_error (state l)) refl
  where
    alive : is_error (state l) ≡ false → (cert_of e ≡ []) ⊎ ((c : Cert) × (c.place ≡ e.place) × (cert_of e ≡ c ∷ [])) → done_places l (queue (Took e ∷ l) me) ≡ done_places l (queue l me)
    alive h (inl n) = ap (done_places l) (queue_is (Took e ∷ l) me h ∙ (ap (λ (cs : List Cert). waits_in me (executed l) (reverse (cs ++ certs l))) n ∙ sym (queue_is l me h)))
    alive h (inr w) =
        let c : Cert = w.0 in
        let s : Gtids = executed l in
        let more : queue (Took e ∷ l) me ≡ queue l me ++ waits_in me s (c ∷ []) =
        queue_is (Took e ∷ l) me h
        ∙ (ap (λ (cs : List Cert). waits_in me s (reverse (cs ++ certs l))) w.2
        ∙ (ap (λ (cs : List Cert). waits_in me s cs) (reverse-append (c ∷ []) (certs l))
        ∙ (ap (filter (is_others me)) (filter-append (lacks s) (reverse (certs l)) (c ∷ []))
        ∙ (filter-append (is_others me) (pending l) (filter (lacks s) (c ∷ [])) ∙ ap (λ (cs : List Cert). cs ++ waits_in me s (c ∷ [])) (sym (queue_is l me h)))))) in
        ap (done_places l) more ∙ one_more l me s (queue l me) c (ap (is_done l) w.1 ∙ d)

    by : (b : Bool) → is_error (state l) ≡ b → done_places l (queue (Took e ∷ l) me) ≡ done_places l (queue l me)
    by true h = ap (done_places l) (no_queue (Took e ∷ l) me h ∙ sym (no_queue l me h))
    by false h = alive h (certified e.place e.value.id e.effect e.holds)

-- ---- a commit

left : (me : Inc) (s t : Gtids) (g : Gtid) (p : ℕ) → ((m : Gtid) → has t m ≡ (gtid_eq g m || has s m)) → (cs : List Cert) → ((d : Cert) → In d cs → gtid_eq g d.gtid ≡ (d.place == p))
    → waits_in me t cs ≡ filter (λ d. not (d.place == p)) (waits_in me s cs)
left me s t g p h [] w = refl
left me s t g p h (c ∷ cs) w = go (gtid_eq g c.gtid) refl (has s c.gtid) refl (is_own me c) refl (sym (w c (inl refl))) (left me s t g p h cs (λ d m. w d (inr m)))
  where
    go : (a : Bool) → gtid_eq g c.gtid ≡ a → (b : Bool) → has s c.gtid ≡ b → (o : Bool) → is_own me c ≡ o → (c.place == p) ≡ gtid_eq g c.gtid
        → waits_in me t cs ≡ filter (λ d. not (d.place == p)) (waits_in me s cs) → waits_in me t (c ∷ cs) ≡ filter (λ d. not (d.place == p)) (waits_in me s (c ∷ cs))
    go true ea true eb o eo q r = let k : has t c.gtid ≡ true = h c.gtid ∙ rw ea refl in rw (k, eb) r
    go true ea false eb true eo q r = let k : has t c.gtid ≡ true = h c.gtid ∙ rw ea refl in rw (k, eb, eo) r
    go true ea false eb false eo q r = let k : has t c.gtid ≡ true = h c.gtid ∙ rw ea refl in rw (k, eb, eo, q ∙ ea) r
    go false ea true eb o eo q r = let k : has t c.gtid ≡ true = h c.gtid ∙ rw (ea, eb) refl in rw (k, eb) r
    go false ea false eb true eo q r = let k : has t c.gtid ≡ false = h c.gtid ∙ rw (ea, eb) refl in rw (k, eb, eo) r
    go false ea false eb false eo q r = let k : has t c.gtid ≡ false = h c.gtid ∙ rw (ea, eb) refl in rw (k, eb, eo, q ∙ ea) (ap (λ (ds : List Cert). c ∷ ds) r)

-- the transaction of this GTID, which alone has its place
pub commits : (l : Life) (me : Inc) (g : Gtid) (p : ℕ) → ((m : Gtid) → has (with_gtid (executed l) g) m ≡ (gtid_eq g m || has (executed l) m)) → ((d : Cert) → In d (certs l) → gtid_eq g d.gtid ≡ (d.place == p))
    → queue (Committed g ∷ l) me ≡ filter (λ d. not (d.place == p)) (queue l me)
commits l me g p h w = go (is_error (state l)) refl
  where
    go : (b : Bool) → is_error (state l) ≡ b → queue (Committed g ∷ l) me ≡ filter (λ d. not (d.place == p)) (queue l me)
    go true e = no_queue (Committed g ∷ l) me e ∙ ap (filter (λ (d : Cert). not (d.place == p))) (sym (no_queue l me e))
    go false e =
        queue_is (Committed g ∷ l) me e
        ∙ (left me (executed l) (with_gtid (executed l) g) g p h (reverse (certs l)) (λ d m. w d (in_reverse d (certs l) m)) ∙ ap (filter (λ (d : Cert). not (d.place == p))) (sym (queue_is l me e)))
