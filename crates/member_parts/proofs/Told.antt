-- What the parts tell is what the rules read from the history.
use Rattle.std.proofs.Common.{◌≡◌, ℕ, Bool, true, false, ◌&&◌, ◌||◌, not, List, [], ◌∷◌, map, refl, sym, ap, ◌∙◌}
use Rattle.std.specs.Prelude.{filter, reverse, nat_lt, Result, Ok, Err, IfOk}
use Rattle.std.specs.List.{list_all}
use Rattle.std.proofs.lemmas.Bool.{and_parts}
use Rattle.std.proofs.lemmas.List.{reverse-append}
use Rattle.std.proofs.lemmas.List.Folds.{list_all-append}
use Rattle.gr_ids.specs.declared.memory.Memory.{Memory}
use Rattle.gr_ids.specs.declared.names.Inc.{Inc}
use Rattle.gr_ids.specs.Names.{has_inc, inc_eq}
use Rattle.gtid_sets.specs.Sets.{has}
use Rattle.node_rules.specs.Lists.{In}
use Rattle.group_rules.specs.declared.said.QueuedPlace.{QueuedPlace}
use Rattle.group_rules.specs.Commit.{complete, has_sent_prepared, is_prepared, is_settled, may_commit, may_commit_other, may_commit_own, owes_prepared, required, unless_incomplete}
use Rattle.group_rules.specs.Events.{Cert, Life, Setup}
use Rattle.group_rules.specs.Life.{certs, executed, is_error, state}
use Rattle.group_rules.specs.Queue.{all_below, is_done, is_own, queue}
use Rattle.apply_queue.specs.Queues.{Queued, front_is_done, shown, is_done as is_done_now}
use Rattle.apply_queue.proofs.Fronts.{front_is}
use Rattle.apply_queue.proofs.Lives.{is_others, lacks, queue_is, stands}
use Rattle.apply_queue.proofs.Standing.{Stand}
use Rattle.member_backlog.specs.declared.uncommitted.Uncommitted.{Uncommitted}
use Rattle.member_backlog.specs.Waiting.{is_clear}
use Rattle.member_backlog.proofs.Backlogs.{clear_told}
use Rattle.prepare_acks.specs.Awaited.{is_complete}
use Rattle.prepare_acks.proofs.Awaiting.{tells_complete}
use Rattle.member_parts.specs.declared.parts.MemberParts.{MemberParts}
use Rattle.member_parts.specs.Committing.{IsPending, are_done_to}
use Rattle.member_parts.specs.Standing.{StandsFor}
use Rattle.member_parts.proofs.Committed.{in_certs, pending_rises}

-- ---- commits

own_tells : (s : Setup) (me : Inc) (l : Life) (c : Cert) (x : MemberParts) → In c (certs l) → StandsFor s me l x → (not c.txn.after || is_complete x.acks c.gtid) ≡ may_commit_own s l c
own_tells s me l c x m f = go c.txn.after refl
  where
    go : (b : Bool) → c.txn.after ≡ b → (not b || is_complete x.acks c.gtid) ≡ (elim b [ false ↦ true | true ↦ complete s l c ])
    go false e = refl
    go true e = tells_complete s l c x.acks f.acks m e

unless_tells : (s : Setup) (me : Inc) (l : Life) (c : Cert) (x : MemberParts) → In c (certs l) → StandsFor s me l x → (not c.txn.after || (not (has x.required c.gtid) || is_complete x.acks c.gtid)) ≡ unless_incomplete s l me c
unless_tells s me l c x m f = go c.txn.after refl
  where
    go : (b : Bool) → c.txn.after ≡ b → (not b || (not (has x.required c.gtid) || is_complete x.acks c.gtid)) ≡ (elim b [ false ↦ true | true ↦ not (has_inc (required s l c) me) || complete s l c ])
    go false e = refl
    go true e = ap (λ (t : Bool). not t || is_complete x.acks c.gtid) (f.required.each c m e) ∙ ap (λ (t : Bool). not (has_inc (required s l c) me) || t) (tells_complete s l c x.acks f.acks m e)

abbrev may_by : Bool → Bool → Bool → Bool
may_by done below free = elim done [ false ↦ false | true ↦ below && free ]

other_tells : (s : Setup) (me : Inc) (l : Life) (c : Cert) (u : Uncommitted) (x : MemberParts) → IsPending l c u → is_own me c ≡ false → StandsFor s me l x
    → (is_clear c.place x.backlog && (front_is_done x.remotes.queue c.place && (not c.txn.after || (not (has x.required c.gtid) || is_complete x.acks c.gtid)))) ≡ may_commit_other s l me c
other_tells s me l c u x h o f =
    ap (λ (t : Bool). t && (front_is_done x.remotes.queue c.place && free)) (clear_told l x.backlog c.place f.backlog)
    ∙ (go (all_below (executed l) (certs l) c.place) refl ∙ ap (may_by (is_done l c.place) (all_below (executed l) (certs l) c.place)) (unless_tells s me l c x (in_certs l c h.waits) f))
  where
    free : Bool
    free = not c.txn.after || (not (has x.required c.gtid) || is_complete x.acks c.gtid)

    none : (b : Bool) → false ≡ may_by b false free
    none true = refl
    none false = refl

    first : (b : Bool) → (b && free) ≡ may_by b true free
    first true = refl
    first false = refl

    go : (b : Bool) → all_below (executed l) (certs l) c.place ≡ b → (b && (front_is_done x.remotes.queue c.place && free)) ≡ may_by (is_done l c.place) b free
    go false e = none (is_done l c.place)
    go true e =
        ap (λ (t : Bool). t && free) (front_is me l x.remotes.queue c f.queue h.well (pending_rises s me l x f) h.waits o e) ∙ first (is_done l c.place)

abbrev by_origin : Bool → Bool → Bool → Bool
by_origin own a b = elim own [ true ↦ a | false ↦ b ]

pub tells_own : (s : Setup) (me : Inc) (l : Life) (c : Cert) (u : Uncommitted) (x : MemberParts) (b : Bool) → b ≡ (not u.after || is_complete x.acks u.gtid) → true ≡ inc_eq u.id.origin me → IsPending l c u → StandsFor s me l x → b ≡ may_commit s l me c
tells_own s me l c u x b e o h f =
    let own : is_own me c ≡ true = ap (λ (w : Uncommitted). inc_eq w.id.origin me) (sym h.is_it) ∙ sym o in
    e ∙ (ap (λ (w : Uncommitted). not w.after || is_complete x.acks w.gtid) h.is_it
    ∙ (own_tells s me l c x (in_certs l c h.waits) f ∙ ap (λ (t : Bool). by_origin t (may_commit_own s l c) (may_commit_other s l me c)) (sym own)))

pub tells_other : (s : Setup) (me : Inc) (l : Life) (c : Cert) (u : Uncommitted) (x : MemberParts) (b : Bool)
    → b ≡ (is_clear u.place x.backlog && (front_is_done x.remotes.queue u.place && (not u.after || (not (has x.required u.gtid) || is_complete x.acks u.gtid)))) → false ≡ inc_eq u.id.origin me → IsPending l c u → StandsFor s me l x → b ≡ may_commit s l me c
tells_other s me l c u x b e o h f =
    let own : is_own me c ≡ false = ap (λ (w : Uncommitted). inc_eq w.id.origin me) (sym h.is_it) ∙ sym o in
    e ∙ (ap (λ (w : Uncommitted). is_clear w.place x.backlog && (front_is_done x.remotes.queue w.place && (not w.after || (not (has x.required w.gtid) || is_complete x.acks w.gtid)))) h.is_it
    ∙ (other_tells s me l c u x h own f ∙ ap (λ (t : Bool). by_origin t (may_commit_own s l c) (may_commit_other s l me c)) (sym own)))

-- ---- prepared

swap_and : (a b : Bool) → (a && (b && true)) ≡ (b && a)
swap_and true true = refl
swap_and true false = refl
swap_and false true = refl
swap_and false false = refl

all_back : (p : Cert → Bool) (cs : List Cert) → list_all p (reverse cs) ≡ list_all p cs
all_back p [] = refl
all_back p (c ∷ cs) =
    ap (list_all p) (reverse-append (c ∷ []) cs)
    ∙ (list_all-append p (reverse cs) (c ∷ []) ∙ (ap (λ (b : Bool). b && (p c && true)) (all_back p cs) ∙ swap_and (list_all p cs) (p c)))

abbrev pub settled_to : Life → Inc → ℕ → Cert → Bool
settled_to l me p d = nat_lt p d.place || is_settled l me (executed l) d

abbrev done_to : Life → ℕ → Cert → Bool
done_to l p d = nat_lt p d.place || is_done l d.place

or_true : (a : Bool) → (a || true) ≡ true
or_true true = refl
or_true false = refl

left_alone : (l : Life) (me : Inc) (p : ℕ) (cs : List Cert) → list_all (done_to l p) (filter (is_others me) (filter (lacks (executed l)) cs)) ≡ list_all (settled_to l me p) cs
left_alone l me p [] = refl
left_alone l me p (c ∷ cs) = go (is_own me c) refl (has (executed l) c.gtid) refl (left_alone l me p cs)
  where
    goal : Type 0
    goal = list_all (done_to l p) (filter (is_others me) (filter (lacks (executed l)) (c ∷ cs))) ≡ list_all (settled_to l me p) (c ∷ cs)

    both : settled_to l me p c ≡ true → list_all (done_to l p) (filter (is_others me) (filter (lacks (executed l)) (c ∷ cs))) ≡ list_all (settled_to l me p) cs → goal
    both e r = r ∙ ap (λ (b : Bool). b && list_all (settled_to l me p) cs) (sym e)

    go : (a : Bool) → is_own me c ≡ a → (b : Bool) → has (executed l) c.gtid ≡ b → list_all (done_to l p) (filter (is_others me) (filter (lacks (executed l)) cs)) ≡ list_all (settled_to l me p) cs → goal
    go true o true h r = both (ap (λ (t : Bool). nat_lt p c.place || (t || (has (executed l) c.gtid || is_done l c.place))) o ∙ or_true (nat_lt p c.place)) (rw h r)
    go true o false h r = both (ap (λ (t : Bool). nat_lt p c.place || (t || (has (executed l) c.gtid || is_done l c.place))) o ∙ or_true (nat_lt p c.place)) (rw h (rw o r))
    go false o true h r =
        both (ap (λ (t : Bool). nat_lt p c.place || (t || (has (executed l) c.gtid || is_done l c.place))) o ∙ (ap (λ (t : Bool). nat_lt p c.place || (t || is_done l c.place)) h ∙ or_true (nat_lt p c.place))) (rw h r)
    go false o false h r =
        let same : settled_to l me p c ≡ done_to l p c =
        ap (λ (t : Bool). nat_lt p c.place || (t || (has (executed l) c.gtid || is_done l c.place))) o ∙ ap (λ (t : Bool). nat_lt p c.place || (t || is_done l c.place)) h in
        rw h (rw o (ap (λ (b : Bool). done_to l p c && b) r)) ∙ ap (λ (b : Bool). b && list_all (settled_to l me p) cs) (sym same)

stand_done : (l : Life) (p : ℕ) (cs : List Cert) (qs : List Queued) → Stand (is_done l) cs qs → are_done_to p (map shown qs) ≡ list_all (done_to l p) cs
stand_done l p [] [] s = refl
stand_done l p [] (q ∷ qs) s = absurd s
stand_done l p (c ∷ cs) [] s = absurd s
stand_done l p (c ∷ cs) (q ∷ qs) s =
    ap (λ (n : ℕ). (nat_lt p n || is_done_now q) && are_done_to p (map shown qs)) (ap (λ (z : Queued). z.place) s.0)
    ∙ (ap (λ (b : Bool). (nat_lt p c.place || b) && are_done_to p (map shown qs)) s.1 ∙ ap (λ (b : Bool). done_to l p c && b) (stand_done l p cs qs s.2))

pub prepared_tells : (s : Setup) (me : Inc) (l : Life) (p : ℕ) (x : MemberParts) → is_error (state l) ≡ false → StandsFor s me l x → are_done_to p (map shown x.remotes.queue) ≡ list_all (settled_to l me p) (certs l)
prepared_tells s me l p x w f =
    stand_done l p (queue l me) x.remotes.queue (stands me l x.remotes.queue f.queue)
    ∙ (ap (list_all (done_to l p)) (queue_is l me w) ∙ (left_alone l me p (reverse (certs l)) ∙ all_back (settled_to l me p) (certs l)))

abbrev prepared_by : Life → Inc → Cert → Bool → Bool
prepared_by l me c own = elim own [ true ↦ true | false ↦ list_all (settled_to l me c.place) (certs l) ]

pub prepared_own : (me : Inc) (l : Life) (c : Cert) (u : Uncommitted) → true ≡ inc_eq u.id.origin me → IsPending l c u → true ≡ is_prepared l me c
prepared_own me l c u o h = ap (prepared_by l me c) (o ∙ ap (λ (w : Uncommitted). inc_eq w.id.origin me) h.is_it)

pub prepared_other : (s : Setup) (me : Inc) (l : Life) (c : Cert) (u : Uncommitted) (x : MemberParts) (qs : List QueuedPlace) (b : Bool) → b ≡ are_done_to u.place qs → qs ≡ map shown x.remotes.queue → false ≡ inc_eq u.id.origin me → IsPending l c u → StandsFor s me l x → b ≡ is_prepared l me c
prepared_other s me l c u x qs b e eq o h f =
    e ∙ (ap (λ (w : Uncommitted). are_done_to w.place qs) h.is_it ∙ (ap (are_done_to c.place) eq ∙ (prepared_tells s me l c.place x h.well f
    ∙ ap (prepared_by l me c) (o ∙ ap (λ (w : Uncommitted). inc_eq w.id.origin me) h.is_it))))

-- ---- what is owed

abbrev owed_by : Bool → Bool → Bool → Bool → Bool
owed_by foreign needed sent prepared = elim foreign [ false ↦ false | true ↦ needed && (not sent && prepared) ]

and_all : (a b p : Bool) → (a && (b && p)) ≡ ((a && b) && p)
and_all true b p = refl
and_all false b p = refl

owes_is : (s : Setup) (me : Inc) (l : Life) (c : Cert) (x : MemberParts) → In c (certs l) → StandsFor s me l x
    → owes_prepared s l me c ≡ (((c.txn.after && not (is_own me c)) && (has x.required c.gtid && not (has x.sent c.gtid))) && is_prepared l me c)
owes_is s me l c x m f = go (c.txn.after && not (is_own me c)) refl
  where
    needed : Bool
    needed = has_inc (required s l c) me

    sent : Bool
    sent = has_sent_prepared l c.gtid

    rest : Bool
    rest = has x.required c.gtid && not (has x.sent c.gtid)

    go : (b : Bool) → (c.txn.after && not (is_own me c)) ≡ b → owed_by (c.txn.after && not (is_own me c)) needed sent (is_prepared l me c) ≡ (((c.txn.after && not (is_own me c)) && rest) && is_prepared l me c)
    go false e = ap (λ (t : Bool). owed_by t needed sent (is_prepared l me c)) e ∙ sym (ap (λ (t : Bool). (t && rest) && is_prepared l me c) e)
    go true e =
        let after : c.txn.after ≡ true = (and_parts c.txn.after (not (is_own me c)) e).0 in
        let same : (needed && not sent) ≡ rest =
        ap (λ (t : Bool). t && not sent) (sym (f.required.each c m after)) ∙ ap (λ (t : Bool). has x.required c.gtid && not t) (sym (f.sent.each c.gtid)) in
        ap (λ (t : Bool). owed_by t needed sent (is_prepared l me c)) e
        ∙ (and_all needed (not sent) (is_prepared l me c) ∙ (ap (λ (t : Bool). t && is_prepared l me c) same ∙ sym (ap (λ (t : Bool). (t && rest) && is_prepared l me c) e)))

abbrev may_owe : Inc → MemberParts → Uncommitted → Bool
may_owe me x u = (u.after && not (inc_eq u.id.origin me)) && (has x.required u.gtid && not (has x.sent u.gtid))

owes_so : (s : Setup) (me : Inc) (l : Life) (c : Cert) (u : Uncommitted) (x : MemberParts) (b : Bool) → may_owe me x u ≡ b → IsPending l c u → StandsFor s me l x → owes_prepared s l me c ≡ (b && is_prepared l me c)
owes_so s me l c u x b e h f = owes_is s me l c x (in_certs l c h.waits) f ∙ ap (λ (t : Bool). t && is_prepared l me c) (ap (may_owe me x) (sym h.is_it) ∙ e)

pub owes_none : (s : Setup) (me : Inc) (l : Life) (c : Cert) (u : Uncommitted) (x : MemberParts) → may_owe me x u ≡ false → IsPending l c u → StandsFor s me l x → false ≡ owes_prepared s l me c
owes_none s me l c u x e h f = sym (owes_so s me l c u x false e h f)

pub owes_one : (s : Setup) (me : Inc) (l : Life) (c : Cert) (u : Uncommitted) (x : MemberParts) (p : Bool) → may_owe me x u ≡ true → p ≡ is_prepared l me c → IsPending l c u → StandsFor s me l x → p ≡ owes_prepared s l me c
owes_one s me l c u x p e k h f = k ∙ sym (owes_so s me l c u x true e h f)

pub if_so : (r : Result Bool Memory) (P Q : Bool → Type 0) → ((b : Bool) → P b → Q b) → IfOk r P → IfOk r Q
if_so (Ok b) P Q f h = f b h
if_so (Err e) P Q f h = tt
