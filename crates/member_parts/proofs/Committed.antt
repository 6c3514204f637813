-- The parts stand for the history with a result, a commit, an own value, and a fall.
use Rattle.std.proofs.Common.{◌≡◌, ◌≤◌, ◌<◌, inl, inr, ℕ, suc, Bool, true, false, ◌&&◌, not, Option, Some, None, List, [], ◌∷◌, map, refl, sym, ap, ◌∙◌, subst, arith, eqb-true, true≢false}
use Rattle.std.specs.Prelude.{filter, reverse, Result, Ok, Err, OnOk, IfOk, IfErr, IfNone, IfSome, MatchOption, OnErr, ◌==◌}
use Rattle.std.specs.List.{find, list_all}
use Rattle.std.specs.Option.{option_map}
use Rattle.std.proofs.lemmas.Bool.{and_parts}
use Rattle.gr_ids.specs.declared.names.Gtid.{Gtid}
use Rattle.gr_ids.specs.declared.names.Inc.{Inc}
use Rattle.gr_ids.specs.declared.levels.MemberState.TheVariants.{Error}
use Rattle.gr_ids.specs.Names.{gtid_eq}
use Rattle.gtid_sets.specs.Canonical.{IsCanonical, IsNumber, IsUuid}
use Rattle.gtid_sets.specs.Sets.{Gtids, with_gtid}
use Rattle.gtid_sets.proofs.LawLemmas.{all_with_gtid}
use Rattle.key_items.specs.declared.change.Change.{Change}
use Rattle.key_items.specs.declared.item.Item.{Item}
use Rattle.slot_values.specs.declared.value.Value.{Value}
use Rattle.txn_forms.specs.declared.body.Body.{Body}
use Rattle.txn_forms.specs.declared.body.Body.TheVariants as body
use Rattle.txn_forms.specs.Bodies.{body_bytes, read_body}
use Rattle.node_rules.specs.Lists.{In}
use Rattle.group_rules.specs.declared.marks.Cause.{Cause}
use Rattle.group_rules.specs.Commit.{may_commit, may_commit_other, may_commit_own, unless_incomplete}
use Rattle.group_rules.specs.Events.{Cert, Committed, Done, Is, Life, Made, Setup}
use Rattle.group_rules.specs.Life.{certs, executed, is_error, last_made, state, taken}
use Rattle.group_rules.specs.Member.{Member}
use Rattle.group_rules.specs.Queue.{all_below, is_done, is_own, pending, queue}
use Rattle.group_rules.specs.Steps.{work}
use Rattle.apply_queue.specs.declared.fault.QueueFault.{QueueFault}
use Rattle.gr_ids.specs.declared.memory.Memory.{Memory}
use Rattle.apply_queue.specs.declared.work.Work.{Work}
use Rattle.apply_queue.specs.declared.work.WorkDone.{WorkDone}
use Rattle.apply_queue.specs.Following.{IsRising, QueuedOf, as_queued, is_other, with_result, without, work_of}
use Rattle.apply_queue.specs.Queues.{Queued, at_place as queued_at, handed_out, next_commit, refusal, with_done, is_done as is_done_now}
use Rattle.apply_queue.specs.Works.{changes_of, items_of}
use Rattle.apply_queue.proofs.Commits.{absent, apart, behind, first_out}
use Rattle.apply_queue.proofs.Dones.{does}
use Rattle.apply_queue.proofs.Fronts.{first_is, rises}
use Rattle.apply_queue.proofs.Lists.{in_filter, in_reverse}
use Rattle.apply_queue.proofs.Lives.{commits as queue_commits, failed, hands, is_others, lacks, passes as queue_passes, queue_is}
use Rattle.apply_queue.proofs.Results.{found, gtid_is, result_is}
use Rattle.consistency_waits.proofs.Histories.{passes as holds_pass}
use Rattle.donor_recovery.proofs.Donors.{passes as donor_passes}
use Rattle.failure_events.proofs.Histories.{passes as watch_passes}
use Rattle.list_state.proofs.Followed.{passed as list_passes}
use Rattle.member_backlog.specs.declared.uncommitted.Uncommitted.{Uncommitted}
use Rattle.member_backlog.specs.Standing.{Waits}
use Rattle.member_backlog.specs.Waiting.{without as less_one}
use Rattle.member_backlog.proofs.Backlogs.{commits as backlog_commits, is_not, lacks_left, passes as backlog_passes}
use Rattle.prepare_acks.specs.Following.{IsGtid, SentOf, with_sent}
use Rattle.prepare_acks.proofs.Awaiting.{passes_awaited}
use Rattle.prepare_acks.proofs.Entries.{gtid_other, gtid_same}
use Rattle.prepare_acks.proofs.Requiring.{passes_requiring}
use Rattle.prepare_acks.proofs.Sending.{makes, passes_sent}
use Rattle.member_parts.specs.declared.parts.MemberParts.{MemberParts}
use Rattle.member_parts.specs.Committing.{HasNumber, IsAccepted, IsWritten, MayGo, prepared_in}
use Rattle.member_parts.specs.Remote.{OwnWork, Remote, free_from, no_remote, own_work, without_own}
use Rattle.member_parts.specs.Standing.{OwnOf, StandsFor}
use Rattle.member_parts.proofs.Lists.{rising_left}
use Rattle.member_parts.proofs.Orderly.{does_orderly, makes_orderly, passes_orderly}
use Rattle.member_parts.proofs.Owns.{is_of}

-- ---- what is pending after a commit

keeps_it : (p : Cert → Bool) (c : Cert) (cs : List Cert) → p c ≡ true → filter p (c ∷ cs) ≡ c ∷ filter p cs
keeps_it p c cs e = rw e refl

drops_it : (p : Cert → Bool) (c : Cert) (cs : List Cert) → p c ≡ false → filter p (c ∷ cs) ≡ filter p cs
drops_it p c cs e = rw e refl

swapped : (p q : Cert → Bool) (cs : List Cert) → filter p (filter q cs) ≡ filter q (filter p cs)
swapped p q [] = refl
swapped p q (c ∷ cs) = go (p c) refl (q c) refl (swapped p q cs)
  where
    go : (a : Bool) → p c ≡ a → (b : Bool) → q c ≡ b → filter p (filter q cs) ≡ filter q (filter p cs) → filter p (filter q (c ∷ cs)) ≡ filter q (filter p (c ∷ cs))
    go true ea true eb r =
        ap (filter p) (keeps_it q c cs eb)
        ∙ (keeps_it p c (filter q cs) ea ∙ (ap (λ (ds : List Cert). c ∷ ds) r ∙ (sym (keeps_it q c (filter p cs) eb) ∙ ap (filter q) (sym (keeps_it p c cs ea)))))
    go true ea false eb r = ap (filter p) (drops_it q c cs eb) ∙ (r ∙ (sym (drops_it q c (filter p cs) eb) ∙ ap (filter q) (sym (keeps_it p c cs ea))))
    go false ea true eb r = ap (filter p) (keeps_it q c cs eb) ∙ (drops_it p c (filter q cs) ea ∙ (r ∙ ap (filter q) (sym (drops_it p c cs ea))))
    go false ea false eb r = ap (filter p) (drops_it q c cs eb) ∙ (r ∙ ap (filter q) (sym (drops_it p c cs ea)))

all_left : (p : Cert → Bool) (cs : List Cert) → ((c : Cert) → In c cs → p c ≡ true) → filter p cs ≡ cs
all_left p [] h = refl
all_left p (c ∷ cs) h = rw (h c (inl refl)) (ap (λ (ds : List Cert). c ∷ ds) (all_left p cs (λ d m. h d (inr m))))

own_after : (me : Inc) (l : Life) (g : Gtid) → IsCanonical (executed l) → IsGtid g → filter (is_own me) (pending (Committed g ∷ l)) ≡ filter (is_not g) (filter (is_own me) (pending l))
own_after me l g k n =
    ap (filter (is_own me)) (lacks_left (executed l) (with_gtid (executed l) g) g (λ m. all_with_gtid (executed l) g m k n.0 n.1) (reverse (certs l)))
    ∙ swapped (is_own me) (is_not g) (pending l)

-- ---- the own transaction

swap_gtid : (g h : Gtid) (b : Bool) → gtid_eq g h ≡ b → gtid_eq h g ≡ b
swap_gtid g h false e = gtid_other g h e
swap_gtid g h true e = go (gtid_eq h g) refl
  where
    go : (b : Bool) → gtid_eq h g ≡ b → gtid_eq h g ≡ true
    go true f = f
    go false f = absurd (true≢false (sym e ∙ gtid_other h g f))

-- only this one has its GTID
abbrev IsOnly : Cert → List Cert → Type 0
IsOnly c cs = (d : Cert) → In d cs → gtid_eq c.gtid d.gtid ≡ true → c ≡ d

other_places : (c d e : Cert) → c ≡ d → c ≡ e → d.place < e.place → ⊥
other_places c d e p q h = let same : d.place ≡ e.place = ap (λ (x : Cert). x.place) (sym p ∙ q) in omega (arith, same, h)

own_left : (c : Cert) (os : List Cert) → IsRising os → IsOnly c os → without_own c.gtid (map own_work os) ≡ map own_work (filter (is_not c.gtid) os)
own_left c [] k o = refl
own_left c (d ∷ ds) k o = go (gtid_eq c.gtid d.gtid) refl (own_left c ds k.1 (λ e m. o e (inr m)))
  where
    behind_it : c ≡ d → (e : Cert) → In e ds → is_not c.gtid e ≡ true
    behind_it p e m = by (gtid_eq c.gtid e.gtid) refl
      where
        by : (b : Bool) → gtid_eq c.gtid e.gtid ≡ b → is_not c.gtid e ≡ true
        by false f = ap not f
        by true f = absurd (other_places c d e p (o e (inr m) f) (k.0 e m))

    go : (b : Bool) → gtid_eq c.gtid d.gtid ≡ b → without_own c.gtid (map own_work ds) ≡ map own_work (filter (is_not c.gtid) ds) → without_own c.gtid (map own_work (d ∷ ds)) ≡ map own_work (filter (is_not c.gtid) (d ∷ ds))
    go true f r = let f' = swap_gtid c.gtid d.gtid true f in rw (f, f') (ap (map own_work) (sym (all_left (is_not c.gtid) ds (behind_it (o d (inl refl) f)))))
    go false f r = let f' = swap_gtid c.gtid d.gtid false f in rw (f, f') (ap (λ (ws : List OwnWork). own_work d ∷ ws) r)

own_found : (c : Cert) (os : List Cert) → In c os → IsOnly c os → find (is_of c.gtid) (map own_work os) ≡ Some (own_work c)
own_found c [] m o = absurd m
own_found c (d ∷ ds) m o = go (gtid_eq c.gtid d.gtid) refl m (λ n. own_found c ds n (λ e i. o e (inr i)))
  where
    go : (b : Bool) → gtid_eq c.gtid d.gtid ≡ b → In c (d ∷ ds) → (In c ds → find (is_of c.gtid) (map own_work ds) ≡ Some (own_work c)) → find (is_of c.gtid) (map own_work (d ∷ ds)) ≡ Some (own_work c)
    go true f n r = let f' = swap_gtid c.gtid d.gtid true f in rw f' (ap (λ (x : Cert). Some (own_work x)) (sym (o d (inl refl) f)))
    go false f (inl e) r = absurd (true≢false (sym (gtid_same c.gtid) ∙ subst (λ (x : Cert). gtid_eq c.gtid x.gtid ≡ false) e f))
    go false f (inr n) r = let f' = swap_gtid c.gtid d.gtid false f in rw f' (r n)

-- ---- facts of the history

pub in_certs : (l : Life) (c : Cert) → In c (pending l) → In c (certs l)
in_certs l c m = in_reverse c (certs l) (in_filter (lacks (executed l)) c (reverse (certs l)) m).0

pub pending_rises : (s : Setup) (me : Inc) (l : Life) (x : MemberParts) → StandsFor s me l x → IsRising (pending l)
pending_rises s me l x f = rising_left (lacks (executed l)) (reverse (certs l)) f.orderly.rising

only_pending : (s : Setup) (me : Inc) (l : Life) (x : MemberParts) (c : Cert) → StandsFor s me l x → In c (pending l) → IsOnly c (pending l)
only_pending s me l x c f m d n e = f.orderly.distinct c d (in_certs l c m) (in_certs l d n) e

only_own : (s : Setup) (me : Inc) (l : Life) (x : MemberParts) (c : Cert) → StandsFor s me l x → In c (pending l) → IsOnly c (filter (is_own me) (pending l))
only_own s me l x c f m d n e = only_pending s me l x c f m d (in_filter (is_own me) d (pending l) n).0 e

gtid_of : (s : Setup) (me : Inc) (l : Life) (x : MemberParts) (c : Cert) → StandsFor s me l x → In c (pending l) → IsGtid c.gtid
gtid_of s me l x c f m = f.orderly.gtids c (in_certs l c m)

in_queue : (l : Life) (me : Inc) (d : Cert) → is_error (state l) ≡ false → In d (queue l me) → In d (pending l) × (is_own me d ≡ false)
in_queue l me d w m =
    let k = in_filter (is_others me) d (pending l) (subst (λ (cs : List Cert). In d cs) (queue_is l me w) m) in
    (k.0, no (is_own me d) k.1)
  where
    no : (b : Bool) → not b ≡ true → b ≡ false
    no true e = absurd (true≢false (sym e))
    no false e = refl

in_own : (me : Inc) (l : Life) (c : Cert) → In c (pending l) → is_own me c ≡ true → In c (filter (is_own me) (pending l))
in_own me l c m o = within (pending l) m
  where
    within : (cs : List Cert) → In c cs → In c (filter (is_own me) cs)
    within [] n = absurd n
    within (d ∷ ds) n = go (is_own me d) refl n (within ds)
      where
        go : (b : Bool) → is_own me d ≡ b → In c (d ∷ ds) → (In c ds → In c (filter (is_own me) ds)) → In c (filter (is_own me) (d ∷ ds))
        go true e (inl p) r = rw e (inl p)
        go true e (inr i) r = rw e (inr (r i))
        go false e (inl p) r = absurd (true≢false (sym o ∙ subst (λ (x : Cert). is_own me x ≡ false) p e))
        go false e (inr i) r = rw e (r i)

-- ---- the commit

other_may : (s : Setup) (me : Inc) (l : Life) (c : Cert) → is_own me c ≡ false → may_commit s l me c ≡ true → (is_done l c.place ≡ true) × (all_below (executed l) (certs l) c.place ≡ true)
other_may s me l c o h = go (is_done l c.place) refl (ap (λ (b : Bool). elim b [ true ↦ may_commit_own s l c | false ↦ may_commit_other s l me c ]) (sym o) ∙ h)
  where
    go : (b : Bool) → is_done l c.place ≡ b → may_commit_other s l me c ≡ true → (is_done l c.place ≡ true) × (all_below (executed l) (certs l) c.place ≡ true)
    go true e k = (e, (and_parts (all_below (executed l) (certs l) c.place) (unless_incomplete s l me c) (sym (ap (λ (b : Bool). elim b [ false ↦ false | true ↦ all_below (executed l) (certs l) c.place && unless_incomplete s l me c ]) e) ∙ k)).0)
    go false e k = absurd (true≢false (sym k ∙ ap (λ (b : Bool). elim b [ false ↦ false | true ↦ all_below (executed l) (certs l) c.place && unless_incomplete s l me c ]) e))

-- what a commit leaves, but for the queue and the own transactions
abbrev Leaves : MemberParts → List Uncommitted → Remote → List OwnWork → MemberParts
Leaves x us r ws = record x { backlog = us; remotes = r; own = ws }

commits_rest : (s : Setup) (me : Inc) (l : Life) (c : Cert) (x : MemberParts) (us : List Uncommitted) (r : Remote) (ws : List OwnWork) → StandsFor s me l x → In c (pending l) → us ≡ less_one c.gtid x.backlog
    → QueuedOf me (Committed c.gtid ∷ l) r.queue → free_from r.last ≡ free_from x.remotes.last → OwnOf me (Committed c.gtid ∷ l) ws → StandsFor s me (Committed c.gtid ∷ l) (Leaves x us r ws)
commits_rest s me l c x us r ws f m eb q k o =
    let g = c.gtid in
    let n = gtid_of s me l x c f m in
    record {
      list = list_passes s l x.list (Committed g) refl f.list;
      watch = watch_passes s me l (Committed g) x.watch refl f.watch;
      donor = donor_passes s l x.donor (Committed g) refl f.donor;
      backlog = subst (λ (vs : List Uncommitted). Waits (Committed g ∷ l) vs) (sym eb) (backlog_commits l g x.backlog f.backlog n.0 n.1);
      queue = q;
      free = omega (arith, k, f.free);
      own = o;
      acks = passes_awaited s l (Committed g) x.acks refl f.acks;
      required = passes_requiring s me l (Committed g) x.required refl f.required;
      sent = passes_sent l (Committed g) x.sent refl f.sent;
      waits = holds_pass s me l x.waits (Committed g) refl f.waits;
      orderly = passes_orderly me l (Committed g) refl f.orderly;
    }

queue_stays : (s : Setup) (me : Inc) (l : Life) (c : Cert) (u : Uncommitted) (x : MemberParts) → MayGo s me l c u → is_own me c ≡ true → StandsFor s me l x → QueuedOf me (Committed c.gtid ∷ l) x.remotes.queue
queue_stays s me l c u x h o f =
    let n = gtid_of s me l x c f h.waits in
    subst (QueuedOf me (Committed c.gtid ∷ l)) (absent c.gtid x.remotes.queue (apart me l x.remotes.queue c.gtid f.queue (λ d m. other d m (gtid_eq c.gtid d.gtid) refl)))
    (queue_commits me l c.gtid x.remotes.queue f.queue f.backlog.set n.0 n.1)
  where
    other : (d : Cert) → In d (queue l me) → (b : Bool) → gtid_eq c.gtid d.gtid ≡ b → gtid_eq c.gtid d.gtid ≡ false
    other d m false e = e
    other d m true e =
        let k = in_queue l me d h.well m in
        absurd (true≢false (sym o ∙ (ap (is_own me) (only_pending s me l x c f h.waits d k.0 e) ∙ k.1)))

own_goes : (s : Setup) (me : Inc) (l : Life) (c : Cert) (u : Uncommitted) (x : MemberParts) (ws : List OwnWork) → MayGo s me l c u → ws ≡ without_own c.gtid x.own → StandsFor s me l x → OwnOf me (Committed c.gtid ∷ l) ws
own_goes s me l c u x ws h ew f w =
    ew ∙ (ap (without_own c.gtid) (f.own w)
    ∙ (own_left c (filter (is_own me) (pending l)) (rising_left (is_own me) (pending l) (pending_rises s me l x f)) (only_own s me l x c f h.waits)
    ∙ ap (map own_work) (sym (own_after me l c.gtid f.backlog.set (gtid_of s me l x c f h.waits)))))

own_stays : (s : Setup) (me : Inc) (l : Life) (c : Cert) (u : Uncommitted) (x : MemberParts) → MayGo s me l c u → is_own me c ≡ false → StandsFor s me l x → OwnOf me (Committed c.gtid ∷ l) x.own
own_stays s me l c u x h o f w =
    f.own w ∙ ap (map own_work) (sym (own_after me l c.gtid f.backlog.set (gtid_of s me l x c f h.waits) ∙ all_left (is_not c.gtid) (filter (is_own me) (pending l)) (λ d m. other d m (gtid_eq c.gtid d.gtid) refl)))
  where
    other : (d : Cert) → In d (filter (is_own me) (pending l)) → (b : Bool) → gtid_eq c.gtid d.gtid ≡ b → is_not c.gtid d ≡ true
    other d m false e = ap not e
    other d m true e =
        let k = in_filter (is_own me) d (pending l) m in
        absurd (true≢false (sym k.1 ∙ (ap (is_own me) (sym (only_pending s me l x c f h.waits d k.0 e)) ∙ o)))

-- it is the one that waits
this_one : (l : Life) (c : Cert) (u : Uncommitted) (x : MemberParts) (us : List Uncommitted) → u.gtid ≡ c.gtid → us ≡ less_one u.gtid x.backlog → us ≡ less_one c.gtid x.backlog
this_one l c u x us e eb = eb ∙ ap (λ (g : Gtid). less_one g x.backlog) e

pub commits_own : (s : Setup) (me : Inc) (l : Life) (c : Cert) (u : Uncommitted) (x : MemberParts) (us : List Uncommitted) (ws : List OwnWork) → MayGo s me l c u → is_own me c ≡ true → us ≡ less_one u.gtid x.backlog
    → ws ≡ without_own c.gtid x.own → StandsFor s me l x → StandsFor s me (Committed c.gtid ∷ l) (record x { backlog = us; own = ws })
commits_own s me l c u x us ws h o eb ew f = commits_rest s me l c x us x.remotes ws f h.waits (this_one l c u x us (ap (λ (y : Uncommitted). y.gtid) h.is_it) eb) (queue_stays s me l c u x h o f) refl (own_goes s me l c u x ws h ew f)

-- the first of the queue is the transaction, and done
pub record IsFirst (me : Inc) (l : Life) (c : Cert) (qs : List Queued) : Type 0 where
  pub front : Queued
  pub rest : List Queued
  pub is : qs ≡ front ∷ rest
  pub work : as_queued front ≡ work_of c
  pub done : is_done_now front ≡ true
  pub left : QueuedOf me (Committed c.gtid ∷ l) rest

pub first_of : (s : Setup) (me : Inc) (l : Life) (c : Cert) (u : Uncommitted) (x : MemberParts) → MayGo s me l c u → is_own me c ≡ false → StandsFor s me l x → IsFirst me l c x.remotes.queue
first_of s me l c u x h o f =
    let may = other_may s me l c o h.may in
    let n = gtid_of s me l x c f h.waits in
    let rise = pending_rises s me l x f in
    let b = first_is me l x.remotes.queue c f.queue h.well rise h.waits o may.1 in
    let same : b.0.gtid ≡ c.gtid = ap (λ (q : Queued). q.gtid) b.3 in
    let place : b.0.place ≡ c.place = ap (λ (q : Queued). q.place) b.3 in
    let behind_it : list_all (is_other c.gtid) b.1 ≡ true =
    subst (λ (g : Gtid). list_all (is_other g) b.1 ≡ true) same
    (behind me l b.0 b.1 (subst (QueuedOf me l) b.2 f.queue) (rises me l rise)
    (λ d m e. ap (λ (y : Cert). y.place) (sym (only_pending s me l x c f h.waits d (in_queue l me d h.well m).0 (ap (λ (g : Gtid). gtid_eq g d.gtid) (sym same) ∙ e))) ∙ sym place)) in
    let left : without c.gtid x.remotes.queue ≡ b.1 = ap (without c.gtid) b.2 ∙ first_out c.gtid b.0 b.1 (ap (gtid_eq c.gtid) same ∙ gtid_same c.gtid) behind_it in
    record { front = b.0; rest = b.1; is = b.2; work = b.3; done = b.4 ∙ may.0; left = subst (QueuedOf me (Committed c.gtid ∷ l)) left (queue_commits me l c.gtid x.remotes.queue f.queue f.backlog.set n.0 n.1) }

-- what the queue hands out
pub record IsOut (x : Remote) (y : Remote) (o : Option WorkDone) : Type 0 where
  pub none : IfNone o ((next_commit x.queue None ≡ None) × (y ≡ x))
  pub some : IfSome o (λ d. (q : Queued) × (x.queue ≡ q ∷ y.queue) × (q.place ≡ d.place) × (q.body ≡ d.body))
  pub last : y.last ≡ x.last

first_queued : (x y : Queued) (xs ys : List Queued) → x ∷ xs ≡ y ∷ ys → (x ≡ y) × (xs ≡ ys)
first_queued x y xs ys e = (cc, cc)

front_goes : (me : Inc) (l : Life) (c : Cert) (qs : List Queued) → IsFirst me l c qs → next_commit qs None ≡ None → ⊥
front_goes me l c qs b e = go (next_commit (b.front ∷ b.rest) None) (rw b.done refl) (ap (λ (rs : List Queued). next_commit rs None) (sym b.is) ∙ e)
  where
    go : (o : Option Queued) → next_commit (b.front ∷ b.rest) None ≡ Some b.front → next_commit (b.front ∷ b.rest) None ≡ None → ⊥
    go o p q = let z : Some b.front ≡ None = sym p ∙ q in cc

pub out_written : (s : Setup) (me : Inc) (l : Life) (c : Cert) (u : Uncommitted) (x : MemberParts) (y : Remote) (o : Option WorkDone) → MayGo s me l c u → is_own me c ≡ false → IsOut x.remotes y o → StandsFor s me l x → IsWritten c o
out_written s me l c u x y None h w i f = front_goes me l c x.remotes.queue (first_of s me l c u x h w f) i.none.0
out_written s me l c u x y (Some d) h w i f =
    let b = first_of s me l c u x h w f in
    let same = first_queued i.some.0 b.front y.queue b.rest (sym i.some.1 ∙ b.is) in
    let body_is : d.body ≡ body_bytes (body.Txn c.txn) = sym i.some.3 ∙ (ap (λ (q : Queued). q.body) same.0 ∙ ap (λ (q : Queued). q.body) b.work) in
    let read : read_body d.body ≡ Some (body.Txn c.txn) = ap read_body body_is ∙ f.orderly.read c (in_certs l c h.waits) in
    let both : Some d.changes ≡ Some c.txn.changes = sym d.decoded.0 ∙ ap changes_of read in
    (body_is, cc)

pub out_stands : (s : Setup) (me : Inc) (l : Life) (c : Cert) (u : Uncommitted) (x : MemberParts) (us : List Uncommitted) (y : Remote) (o : Option WorkDone) → MayGo s me l c u → is_own me c ≡ false → us ≡ less_one u.gtid x.backlog
    → IsOut x.remotes y o → StandsFor s me l x → StandsFor s me (Committed c.gtid ∷ l) (record x { backlog = us; remotes = y })
out_stands s me l c u x us y None h w eb i f = absurd (front_goes me l c x.remotes.queue (first_of s me l c u x h w f) i.none.0)
out_stands s me l c u x us y (Some d) h w eb i f =
    let b = first_of s me l c u x h w f in
    let same = first_queued i.some.0 b.front y.queue b.rest (sym i.some.1 ∙ b.is) in
    commits_rest s me l c x us y x.own f h.waits (this_one l c u x us (ap (λ (v : Uncommitted). v.gtid) h.is_it) eb) (subst (QueuedOf me (Committed c.gtid ∷ l)) (sym same.1) b.left) (ap free_from i.last) (own_stays s me l c u x h w f)

pub own_written : (s : Setup) (me : Inc) (l : Life) (c : Cert) (u : Uncommitted) (g : Gtid) (x : MemberParts) (o : Option WorkDone) → MayGo s me l c u → is_own me c ≡ true → g ≡ c.gtid
    → MatchOption o (find (λ (w : OwnWork). gtid_eq w.gtid g) x.own ≡ None) (λ d. (k : Gtid) × (find (λ (w : OwnWork). gtid_eq w.gtid g) x.own ≡ Some (record { place = d.place; gtid = k; body = d.body; changes = d.changes }))) → StandsFor s me l x → IsWritten c o
own_written s me l c u g x o h w e m f = go o m
  where
    there : find (λ (v : OwnWork). gtid_eq v.gtid g) x.own ≡ Some (own_work c)
    there =
        ap (λ (k : Gtid). find (λ (v : OwnWork). gtid_eq v.gtid k) x.own) e
        ∙ (ap (find (is_of c.gtid)) (f.own h.well) ∙ own_found c (filter (is_own me) (pending l)) (in_own me l c h.waits w) (only_own s me l x c f h.waits))

    go : (o : Option WorkDone) → MatchOption o (find (λ (v : OwnWork). gtid_eq v.gtid g) x.own ≡ None) (λ d. (k : Gtid) × (find (λ (v : OwnWork). gtid_eq v.gtid g) x.own ≡ Some (record { place = d.place; gtid = k; body = d.body; changes = d.changes }))) → IsWritten c o
    go None n = let z : Some (own_work c) ≡ None = sym there ∙ n in absurd cc
    go (Some d) n =
        let z : Some (own_work c) ≡ Some (record { place = d.place; gtid = n.0; body = d.body; changes = d.changes }) = sym there ∙ n.1 in
        let same : own_work c ≡ record { place = d.place; gtid = n.0; body = d.body; changes = d.changes } = cc in
        (ap (λ (v : OwnWork). v.body) (sym same), ap (λ (v : OwnWork). v.changes) (sym same))

-- ---- a worker's result

find_in : (p : Cert → Bool) (cs : List Cert) (c : Cert) → find p cs ≡ Some c → In c cs × (p c ≡ true)
find_in p [] c e = absurd cc
find_in p (d ∷ ds) c e = go (p d) refl (find_in p ds c)
  where
    go : (b : Bool) → p d ≡ b → (find p ds ≡ Some c → In c ds × (p c ≡ true)) → In c (d ∷ ds) × (p c ≡ true)
    go true f r = let z : Some d ≡ Some c = rw f at e in let same : d ≡ c = cc in (inl same, ap p (sym same) ∙ f)
    go false f r = let k = r (rw f at e) in (inr k.0, k.1)

in_error_none : (l : Life) (me : Inc) (c : Cert) → In c (queue l me) → In c (pending l)
in_error_none l me c m = go (is_error (state l)) m
  where
    go : (b : Bool) → In c (elim b [ true ↦ [] | false ↦ filter (λ (d : Cert). not (is_own me d)) (pending l) ]) → In c (pending l)
    go true n = absurd n
    go false n = (in_filter (λ (d : Cert). not (is_own me d)) c (pending l) n).0

pub stands_done : (s : Setup) (me : Inc) (l : Life) (p : ℕ) (b : List ℕ) (cs : List Change) (ws : List Item) (x y : MemberParts) → (refusal x.remotes.queue p b ≡ None) × (y.remotes ≡ record x.remotes { queue = with_done x.remotes.queue p cs ws }) → StandsFor s me l x
    → StandsFor s me (Done p ∷ l) (record x { remotes = y.remotes })
stands_done s me l p b cs ws x y h f =
    let k = found me l x.remotes.queue p b f.queue h.0 in
    let i = find_in (λ (c : Cert). c.place == p) (queue l me) k.0 k.1 in
    let low : k.0.place ≤ taken l = f.acks.placed k.0 (in_certs l k.0 (in_error_none l me k.0 i.0)) in
    let here : k.0.place ≡ p = eqb-true k.0.place p i.1 in
    record {
      list = list_passes s l x.list (Done p) refl f.list;
      watch = watch_passes s me l (Done p) x.watch refl f.watch;
      donor = donor_passes s l x.donor (Done p) refl f.donor;
      backlog = backlog_passes l (Done p) x.backlog refl f.backlog;
      queue = subst (λ (r : Remote). QueuedOf me (Done p ∷ l) r.queue) (sym h.1) (does me l p cs ws x.remotes.queue f.queue (rises me l (pending_rises s me l x f)));
      free = subst (λ (r : Remote). free_from r.last ≤ suc (taken l)) (sym h.1) f.free;
      own = f.own;
      acks = passes_awaited s l (Done p) x.acks refl f.acks;
      required = passes_requiring s me l (Done p) x.required refl f.required;
      sent = passes_sent l (Done p) x.sent refl f.sent;
      waits = holds_pass s me l x.waits (Done p) refl f.waits;
      orderly = does_orderly me l p f.orderly (omega (arith, low, here));
    }

pub result_as : (a : Member) (p : ℕ) (b : List ℕ) (o : Option QueueFault) (x : MemberParts) → refusal x.remotes.queue p b ≡ o → StandsFor a.setup a.me.inc a.life x → work p (Some b) a ≡ with_result p o a
result_as a p b o x e f = result_is a x.remotes.queue p b f.queue ∙ ap (λ (r : Option QueueFault). with_result p r a) e

pub accepted : (s : Setup) (me : Inc) (l : Life) (x : MemberParts) (d : WorkDone) (g : Gtid) → refusal x.remotes.queue d.place d.body ≡ None → option_map (λ (q : Queued). q.gtid) (queued_at x.remotes.queue d.place) ≡ Some g → StandsFor s me l x
    → IsAccepted me l d g
accepted s me l x d g n e f =
    let k = found me l x.remotes.queue d.place d.body f.queue n in
    let c : Cert = k.0 in
    let i = find_in (λ (y : Cert). y.place == d.place) (queue l me) c k.1 in
    let read : read_body d.body ≡ Some (body.Txn c.txn) = ap read_body (sym k.2) ∙ f.orderly.read c (in_certs l c (in_error_none l me c i.0)) in
    let items : Some d.items ≡ Some c.txn.items = sym d.decoded.1 ∙ ap items_of read in
    let gtids : Some g ≡ Some c.gtid = sym e ∙ (gtid_is me l x.remotes.queue d.place f.queue ∙ ap (option_map (λ (y : Cert). y.gtid)) k.1) in
    record { cert = c; queued = k.1; undone = k.3; gtid = cc; items = cc }

-- ---- an own value, and a fall

pub stands_made : (s : Setup) (me : Inc) (l : Life) (v : Value) (b : Option Body) (z : Gtids) (x : MemberParts) → ((g : Gtid) → b ≡ Some (body.Prepared g) → IsGtid g) → z ≡ with_sent b x.sent → last_made l ≤ v.id.number → StandsFor s me l x
    → StandsFor s me (Made v b ∷ l) (record x { sent = z })
stands_made s me l v b z x n ez k f = record {
  list = list_passes s l x.list (Made v b) refl f.list;
  watch = watch_passes s me l (Made v b) x.watch refl f.watch;
  donor = donor_passes s l x.donor (Made v b) refl f.donor;
  backlog = backlog_passes l (Made v b) x.backlog refl f.backlog;
  queue = queue_passes me l (Made v b) x.remotes.queue refl f.queue;
  free = f.free;
  own = f.own;
  acks = passes_awaited s l (Made v b) x.acks refl f.acks;
  required = passes_requiring s me l (Made v b) x.required refl f.required;
  sent = subst (SentOf (Made v b ∷ l)) (sym ez) (makes l v b x.sent f.sent n);
  waits = holds_pass s me l x.waits (Made v b) refl f.waits;
  orderly = makes_orderly me l v b f.orderly k;
}

pub stands_failed : (s : Setup) (me : Inc) (l : Life) (c : Cause) (x : MemberParts) (r : Remote) (ws : List OwnWork) → r ≡ no_remote → StandsFor s me l x → StandsFor s me (Is Error c ∷ l) (record x { remotes = r; own = ws })
stands_failed s me l c x r ws er f = record {
  list = list_passes s l x.list (Is Error c) refl f.list;
  watch = watch_passes s me l (Is Error c) x.watch refl f.watch;
  donor = donor_passes s l x.donor (Is Error c) refl f.donor;
  backlog = backlog_passes l (Is Error c) x.backlog refl f.backlog;
  queue = subst (λ (q : Remote). QueuedOf me (Is Error c ∷ l) q.queue) (sym er) (failed me l c);
  free = subst (λ (q : Remote). free_from q.last ≤ suc (taken l)) (sym er) (omega arith);
  own = λ k. absurd (true≢false k);
  acks = passes_awaited s l (Is Error c) x.acks refl f.acks;
  required = passes_requiring s me l (Is Error c) x.required refl f.required;
  sent = passes_sent l (Is Error c) x.sent refl f.sent;
  waits = holds_pass s me l x.waits (Is Error c) refl f.waits;
  orderly = passes_orderly me l (Is Error c) refl f.orderly;
}

-- ---- after a call

pub done_out : (r : Result (Unit {0}) QueueFault) (P Q : Type 0) → (P → Q) → OnOk r P → OnOk r Q
done_out (Ok u) P Q f h = f h
done_out (Err e) P Q f h = tt

pub refused_out : (r : Result (Unit {0}) QueueFault) (P Q : QueueFault → Type 0) → ((e : QueueFault) → P e → Q e) → IfErr r P → IfErr r Q
refused_out (Ok u) P Q f h = tt
refused_out (Err e) P Q f h = f e h

pub sure_out : (r : Result (Unit {0}) QueueFault) (o : Option QueueFault) → IfErr r (λ e. o ≡ Some e) → OnErr r (o ≡ None → ⊥)
sure_out (Ok u) o h = tt
sure_out (Err e) o h = λ n. (let z : Some e ≡ None = sym h ∙ n in cc)

pub refused_as : (r : Result Gtid QueueFault) (P Q : QueueFault → Type 0) → ((e : QueueFault) → P e → Q e) → IfErr r P → IfErr r Q
refused_as (Ok g) P Q f h = tt
refused_as (Err e) P Q f h = f e h

pub accepted_out : (r : Result Gtid QueueFault) (x : MemberParts) (d : WorkDone) → OnOk r (refusal x.remotes.queue d.place d.body ≡ None) → IfOk r (λ g. option_map (λ q. q.gtid) (queued_at x.remotes.queue d.place) ≡ Some g)
    → IfOk r (λ g. (a : Member) → StandsFor a.setup a.me.inc a.life x → IsAccepted a.me.inc a.life d g)
accepted_out (Ok g) x d n e = λ a f. accepted a.setup a.me.inc a.life x d g n e f
accepted_out (Err e) x d n h = tt

stands_handed : (s : Setup) (me : Inc) (l : Life) (x : MemberParts) (y : Remote) → y ≡ record x.remotes { queue = handed_out x.remotes.queue } → StandsFor s me l x → StandsFor s me l (record x { remotes = y })
stands_handed s me l x y e f = record {
  list = f.list;
  watch = f.watch;
  donor = f.donor;
  backlog = f.backlog;
  queue = subst (λ (r : Remote). QueuedOf me l r.queue) (sym e) (hands me l x.remotes.queue f.queue);
  free = subst (λ (r : Remote). free_from r.last ≤ suc (taken l)) (sym e) f.free;
  own = f.own;
  acks = f.acks;
  required = f.required;
  sent = f.sent;
  waits = f.waits;
  orderly = f.orderly;
}

abbrev Stays : MemberParts → Remote → Type 0
Stays x y = (s : Setup) (me : Inc) (l : Life) → StandsFor s me l x → StandsFor s me l (record x { remotes = y })

pub handed_stands : (r : Result (Option Work) Memory) (x : MemberParts) (y : Remote) (A : Type 0) (B : Work → Type 0) → IfOk r (λ o. MatchOption o (A × (y ≡ x.remotes)) (λ w. B w × (y ≡ record x.remotes { queue = handed_out x.remotes.queue }))) → OnOk r (Stays x y)
handed_stands (Ok None) x y A B h = λ s me l f. subst (λ (z : Remote). StandsFor s me l (record x { remotes = z })) (sym h.1) f
handed_stands (Ok (Some w)) x y A B h = λ s me l f. stands_handed s me l x y h.1 f
handed_stands (Err e) x y A B h = tt

prepared_of : (b : Option Body) (g : Gtid) → Some g ≡ prepared_in b → b ≡ Some (body.Prepared g)
prepared_of None g e = absurd cc
prepared_of (Some (body.Prepared k)) g e = let same : g ≡ k = cc in ap (λ (z : Gtid). Some (body.Prepared z)) (sym same)
prepared_of (Some (body.Txn t)) g e = absurd cc
prepared_of (Some body.Sync) g e = absurd cc
prepared_of (Some (body.Executed s)) g e = absurd cc
prepared_of (Some (body.Online s)) g e = absurd cc
prepared_of (Some (body.Mode m)) g e = absurd cc
prepared_of (Some (body.Primary i)) g e = absurd cc
prepared_of (Some (body.Part p)) g e = absurd cc

prepared_same : (g k : Gtid) → Some (body.Prepared g) ≡ Some (body.Prepared k) → g ≡ k
prepared_same g k e = cc

none_sent : (b : Option Body) (z : Gtids) → None ≡ prepared_in b → with_sent b z ≡ z
none_sent None z e = refl
none_sent (Some (body.Prepared k)) z e = absurd cc
none_sent (Some (body.Txn t)) z e = refl
none_sent (Some body.Sync) z e = refl
none_sent (Some (body.Executed s)) z e = refl
none_sent (Some (body.Online s)) z e = refl
none_sent (Some (body.Mode m)) z e = refl
none_sent (Some (body.Primary i)) z e = refl
none_sent (Some (body.Part p)) z e = refl

none_prepared : (b : Option Body) (g : Gtid) → None ≡ prepared_in b → b ≡ Some (body.Prepared g) → ⊥
none_prepared b g e q = let z : None ≡ Some g = e ∙ ap prepared_in q in cc

abbrev IsSent : Option Gtid → MemberParts → Gtids → Type 0
IsSent p x z = (s : Setup) (me : Inc) (l : Life) (v : Value) (b : Option Body) → p ≡ prepared_in b → HasNumber p → last_made l ≤ v.id.number → StandsFor s me l x → StandsFor s me (Made v b ∷ l) (record x { sent = z })

pub made_one : (r : Result (Unit {0}) Memory) (p : Option Gtid) (g : Gtid) (x : MemberParts) (z : Gtids) → p ≡ Some g → IsUuid g.source → OnOk r (IsNumber g.number → z ≡ with_gtid x.sent g) → OnOk r (IsSent p x z)
made_one (Err e) p g x z ep u h = tt
made_one (Ok t) p g x z ep u h = λ s me l v b q n k f.
    (let is : b ≡ Some (body.Prepared g) = prepared_of b g (sym ep ∙ q) in
    let number : IsNumber g.number = subst HasNumber ep n in
    stands_made s me l v b z x (λ m e. subst IsGtid (prepared_same g m (sym is ∙ e)) (u, number)) (h number ∙ sym (ap (λ (y : Option Body). with_sent y x.sent) is)) k f)

pub made_none : (p : Option Gtid) (x : MemberParts) → p ≡ None → IsSent p x x.sent
made_none p x ep s me l v b q n k f = stands_made s me l v b x.sent x (λ m e. absurd (none_prepared b m (sym ep ∙ q) e)) (sym (none_sent b x.sent (sym ep ∙ q))) k f
