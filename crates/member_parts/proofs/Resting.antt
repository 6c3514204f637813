-- Nothing that is pending may be committed, or is owed a Prepared entry.
use Rattle.std.proofs.Common.{arith, ◌≡◌, inl, inr, ℕ, Bool, true, false, ◌&&◌, ◌||◌, not, List, [], ◌∷◌, map, refl, sym, ap, subst, ◌∙◌, eq-eqb}
use Rattle.std.specs.Prelude.{filter, nat_lt, ◌==◌, if◌then◌else◌}
use Rattle.std.proofs.lemmas.Bool.{and_parts, le-ltb}
use Rattle.gr_ids.specs.declared.names.Inc.{Inc}
use Rattle.gtid_sets.specs.Sets.{has, subset}
use Rattle.gtid_sets.proofs.LawLemmas.{subset_has}
use Rattle.node_rules.specs.Lists.{In}
use Rattle.group_rules.specs.Commit.{is_prepared, may_commit, owes_prepared}
use Rattle.group_rules.specs.Events.{Cert, Life, Setup}
use Rattle.group_rules.specs.Life.{is_error, state}
use Rattle.group_rules.specs.Queue.{is_done, is_own, pending, queue}
use Rattle.apply_queue.specs.Following.{IsRising}
use Rattle.apply_queue.specs.Queues.{Queued, front_is_done, front_waits, shown, is_done as is_done_now}
use Rattle.apply_queue.proofs.Lives.{is_others, queue_is, stands}
use Rattle.apply_queue.proofs.Fronts.{rises}
use Rattle.apply_queue.proofs.Standing.{Stand}
use Rattle.member_backlog.specs.Standing.{uncommitted_of}
use Rattle.member_backlog.specs.Waiting.{is_clear}
use Rattle.prepare_acks.specs.Awaited.{is_complete}
use Rattle.member_parts.specs.declared.parts.MemberParts.{MemberParts}
use Rattle.member_parts.specs.Committing.{IsPending, are_done_to}
use Rattle.member_parts.specs.Remote.{OwnWork, none_waits, own_work}
use Rattle.member_parts.specs.Standing.{StandsFor}
use Rattle.member_parts.proofs.Committed.{pending_rises}
use Rattle.member_parts.proofs.Told.{owes_none, owes_one, prepared_other, tells_other}

and_false : (b : Bool) → (b && false) ≡ false
and_false true = refl
and_false false = refl

-- ---- what is told

pub none_is_left : (ws : List OwnWork) → none_waits ws ≡ true → ws ≡ []
none_is_left [] e = refl
none_is_left (w ∷ ws) e = absurd (cc e)

pub front_rests : (qs : List Queued) → front_waits qs ≡ true → (p : ℕ) → front_is_done qs p ≡ false
front_rests [] e p = refl
front_rests (q ∷ qs) e p = go (is_done_now q) e
  where
    go : (b : Bool) → not b ≡ true → (b && (q.place == p)) ≡ false
    go false k = refl
    go true k = absurd (cc k)

-- ---- commits

none_own : (me : Inc) (c : Cert) (cs : List Cert) → [] ≡ map own_work (filter (is_own me) cs) → In c cs → is_own me c ≡ false
none_own me c [] e m = absurd m
none_own me c (d ∷ ds) e m = go (is_own me d) refl e m (none_own me c ds)
  where
    go : (b : Bool) → is_own me d ≡ b → [] ≡ map own_work (if b then d ∷ filter (is_own me) ds else filter (is_own me) ds) → In c (d ∷ ds) → ([] ≡ map own_work (filter (is_own me) ds) → In c ds → is_own me c ≡ false) → is_own me c ≡ false
    go true o k n r = absurd (cc k)
    go false o k (inl same) r = subst (λ (x : Cert). is_own me x ≡ false) same o
    go false o k (inr n) r = r k n

pub none_may_go : (s : Setup) (me : Inc) (l : Life) (x : MemberParts) → x.own ≡ [] → ((p : ℕ) → front_is_done x.remotes.queue p ≡ false) → is_error (state l) ≡ false → StandsFor s me l x → (c : Cert) → In c (pending l) → may_commit s l me c ≡ false
none_may_go s me l x eo ef w f c m =
    let o : is_own me c ≡ false = none_own me c (pending l) (sym eo ∙ f.own w) m in
    let free : Bool = not c.txn.after || (not (has x.required c.gtid) || is_complete x.acks c.gtid) in
    let e : (is_clear c.place x.backlog && (front_is_done x.remotes.queue c.place && free)) ≡ false =
    ap (λ (t : Bool). is_clear c.place x.backlog && (t && free)) (ef c.place) ∙ and_false (is_clear c.place x.backlog) in
    sym (tells_other s me l c (uncommitted_of c) x false (sym e) (sym o) (record { well = w; waits = m; is_it = refl }) f)

-- ---- Prepared entries

answered : (r s : Bool) → (r ≡ true → s ≡ true) → (r && not s) ≡ false
answered false s h = refl
answered true s h = ap not (h refl)

pub none_unsent : (s : Setup) (me : Inc) (l : Life) (x : MemberParts) → subset x.required x.sent ≡ true → is_error (state l) ≡ false → StandsFor s me l x → (c : Cert) → In c (pending l) → owes_prepared s l me c ≡ false
none_unsent s me l x e w f c m =
    let sent : (has x.required c.gtid && not (has x.sent c.gtid)) ≡ false = answered (has x.required c.gtid) (has x.sent c.gtid) (subset_has x.required x.sent c.gtid e) in
    sym (owes_none s me l c (uncommitted_of c) x (ap (λ (t : Bool). (c.txn.after && not (is_own me c)) && t) sent ∙ and_false (c.txn.after && not (is_own me c))) (record { well = w; waits = m; is_it = refl }) f)

-- the first of the queue isn't done, so none is done with all before it
undone : (q : Queued) → ((p : ℕ) → (is_done_now q && (q.place == p)) ≡ false) → is_done_now q ≡ false
undone q h = go (is_done_now q) refl
  where
    go : (b : Bool) → is_done_now q ≡ b → b ≡ false
    go false e = refl
    go true e = sym (rw (e, eq-eqb q.place q.place refl) refl) ∙ h q.place

in_queue : (me : Inc) (c : Cert) (cs : List Cert) → is_own me c ≡ false → In c cs → In c (filter (is_others me) cs)
in_queue me c [] o m = absurd m
in_queue me c (d ∷ ds) o (inl same) = subst (λ (x : Cert). In x (filter (is_others me) (d ∷ ds))) same (rw (subst (λ (x : Cert). is_own me x ≡ false) (sym same) o) (inl refl))
in_queue me c (d ∷ ds) o (inr n) = go (is_own me d) (in_queue me c ds o n)
  where
    go : (b : Bool) → In c (filter (is_others me) ds) → In c (if not b then d ∷ filter (is_others me) ds else filter (is_others me) ds)
    go true k = k
    go false k = inr k

least : (c d : Cert) (ds : List Cert) → IsRising (d ∷ ds) → In c (d ∷ ds) → nat_lt c.place d.place ≡ false
least c d ds r (inl same) = le-ltb c.place d.place (omega (arith, ap (λ (x : Cert). x.place) same))
least c d ds r (inr n) = le-ltb c.place d.place (omega (arith, r.0 c n))

none_to : (f : ℕ → Bool) (c : Cert) (cs : List Cert) (qs : List Queued) → Stand f cs qs → IsRising cs → In c cs → ((p : ℕ) → front_is_done qs p ≡ false) → are_done_to c.place (map shown qs) ≡ false
none_to f c [] qs s r m h = absurd m
none_to f c (d ∷ ds) [] s r m h = absurd s
none_to f c (d ∷ ds) (q ∷ qs) s r m h =
    ap (λ (b : Bool). (nat_lt c.place q.place || b) && are_done_to c.place (map shown qs)) (undone q h)
    ∙ (ap (λ (n : ℕ). (nat_lt c.place n || false) && are_done_to c.place (map shown qs)) (ap (λ (z : Queued). z.place) s.0)
    ∙ ap (λ (b : Bool). (b || false) && are_done_to c.place (map shown qs)) (least c d ds r m))

unprepared : (s : Setup) (me : Inc) (l : Life) (x : MemberParts) (c : Cert) → ((p : ℕ) → front_is_done x.remotes.queue p ≡ false) → is_own me c ≡ false → is_error (state l) ≡ false → StandsFor s me l x → In c (pending l) → false ≡ is_prepared l me c
unprepared s me l x c h o w f m =
    let same : queue l me ≡ filter (is_others me) (pending l) = queue_is l me w in
    let n : are_done_to c.place (map shown x.remotes.queue) ≡ false =
    none_to (is_done l) c (queue l me) x.remotes.queue (stands me l x.remotes.queue f.queue) (rises me l (pending_rises s me l x f)) (subst (In c) (sym same) (in_queue me c (pending l) o m)) h in
    prepared_other s me l c (uncommitted_of c) x (map shown x.remotes.queue) false (sym n) refl (sym o) (record { well = w; waits = m; is_it = refl }) f

pub none_prepared : (s : Setup) (me : Inc) (l : Life) (x : MemberParts) → ((p : ℕ) → front_is_done x.remotes.queue p ≡ false) → is_error (state l) ≡ false → StandsFor s me l x → (c : Cert) → In c (pending l) → owes_prepared s l me c ≡ false
none_prepared s me l x h w f c m = go (is_foreign && rest) refl
  where
    is_foreign : Bool
    is_foreign = c.txn.after && not (is_own me c)

    rest : Bool
    rest = has x.required c.gtid && not (has x.sent c.gtid)

    pends : IsPending l c (uncommitted_of c)
    pends = record { well = w; waits = m; is_it = refl }

    other : (b : Bool) → is_own me c ≡ b → not b ≡ true → is_own me c ≡ false
    other false e k = e
    other true e k = absurd (cc k)

    go : (b : Bool) → (is_foreign && rest) ≡ b → owes_prepared s l me c ≡ false
    go false e = sym (owes_none s me l c (uncommitted_of c) x e pends f)
    go true e =
        let o : is_own me c ≡ false = other (is_own me c) refl (and_parts c.txn.after (not (is_own me c)) (and_parts is_foreign rest e).0).1 in
        sym (owes_one s me l c (uncommitted_of c) x false e (unprepared s me l x c h o w f m) pends f)
