-- A commit: the rows, the executed set and the queue of the longer history.
use Rattle.std.proofs.Common.{◌≡◌, inl, inr, ◌==◌, arith, Bool, true, false, ◌||◌, not, List, [], ◌∷◌, refl, sym, ap, ◌∙◌, subst, filter}
use Rattle.std.specs.Prelude.{reverse}
use Rattle.std.proofs.lemmas.Bool.{true≢false, eqb-true, eq-eqb}
use Rattle.gr_ids.specs.declared.names.Gtid.{Gtid}
use Rattle.gr_ids.specs.declared.names.Inc.{Inc}
use Rattle.gr_ids.specs.Names.{gtid_eq}
use Rattle.gtid_sets.specs.Sets.{has, with_gtid}
use Rattle.gtid_sets.proofs.LawLemmas.{all_with_gtid}
use Rattle.gtid_sets.proofs.PutLemmas.{canonical_with_gtid}
use Rattle.node_rules.specs.Lists.{In}
use Rattle.group_rules.specs.Events.{Cert, Committed, Life, Setup}
use Rattle.group_rules.specs.Life.{certs, executed, stored}
use Rattle.group_rules.specs.Queue.{pending, queue}
use Rattle.group_rules.specs.Sessions.{begun_set}
use Rattle.group_rules.specs.Rows.{all_in, known}
use Rattle.row_locks.specs.Locking.{without_place}
use Rattle.row_store.specs.Following.{IsCommit}
use Rattle.row_store.proofs.Commits.{commits as rows_commit}
use Rattle.row_store.proofs.Followed.{part_stays}
use Rattle.row_store.proofs.Kept.{keeps_committing}
use Rattle.row_store.proofs.Known.{all_second, in_reverse}
use Rattle.row_store.proofs.Versions.{gtid_itself}
use Rattle.local_sessions.specs.declared.tables.Tables.{Tables}
use Rattle.local_sessions.specs.Following.{LocksOf, done_places}
use Rattle.local_sessions.proofs.Awaited.{passed as once_passed}
use Rattle.local_sessions.proofs.KeyHolders.{passed as locks_passed}
use Rattle.local_sessions.proofs.Passing.{passed as sessions_passed}
use Rattle.local_sessions.proofs.Queued.{freed}
use Rattle.local_sessions.proofs.StillActive.{passed as left_passed}
use Rattle.member_tables.specs.declared.tables.MemberTables.{MemberTables}
use Rattle.member_tables.specs.Committing.{IsNext, Settles}
use Rattle.member_tables.specs.Standing.{HasGtids, Keeps, Stands}
use Rattle.member_tables.proofs.Queues.{commits}

in_filter : (p : Cert → Bool) (xs : List Cert) (x : Cert) → In x (filter p xs) → In x xs
in_filter p [] x m = absurd m
in_filter p (y ∷ ys) x m = go (p y) refl (in_filter p ys x)
  where
    go : (b : Bool) → p y ≡ b → (In x (filter p ys) → In x ys) → In x (y ∷ ys)
    go true e r = elim (subst (In x) (let e2 : filter p (y ∷ ys) ≡ y ∷ filter p ys = rw e refl in e2) m) [ inl q ↦ inl q | inr q ↦ inr (r q) ]
    go false e r = inr (r (subst (In x) (let e2 : filter p (y ∷ ys) ≡ filter p ys = rw e refl in e2) m))

pub is_certified : (l : Life) (c : Cert) → In c (pending l) → In c (certs l)
is_certified l c m = in_reverse c (certs l) (in_filter (λ d. not (has (executed l) d.gtid)) (reverse (certs l)) c m)

is_known : (l : Life) (c : Cert) → In c (certs l) → In c (known l)
is_known l c m = all_second (all_in [] (stored l).committed) (certs l) c m

-- it is a commit in the order of the rows
pub in_order : (l : Life) (c : Cert) → HasGtids l → IsNext l c → IsCommit l c.gtid c
in_order l c h k =
    let here : In c (known l) = is_known l c (is_certified l c k.waits) in
    record {
      certified = here;
      named = gtid_itself c.gtid;
      only = λ d m e. h d c m here e;
      placed = λ d m e. k.places d c m here e;
      ahead = λ d m e p. k.order.ahead c d here m (gtid_itself c.gtid) e p;
      unwritten = k.order.unwritten;
    }

-- its GTID tells its place
own_place : (l : Life) (c : Cert) → HasGtids l → IsNext l c → (d : Cert) → In d (certs l) → gtid_eq c.gtid d.gtid ≡ (d.place == c.place)
own_place l c h k d m = go (gtid_eq c.gtid d.gtid) refl (d.place == c.place) refl
  where
    here : In c (known l)
    here = is_known l c (is_certified l c k.waits)

    go : (a : Bool) → gtid_eq c.gtid d.gtid ≡ a → (b : Bool) → (d.place == c.place) ≡ b → gtid_eq c.gtid d.gtid ≡ (d.place == c.place)
    go true e b f = e ∙ sym (eq-eqb d.place c.place (ap (λ (x : Cert). x.place) (sym (h c d here (is_known l d m) e))))
    go false e true f = absurd (true≢false (sym (gtid_itself c.gtid) ∙ (ap (λ (x : Cert). gtid_eq c.gtid x.gtid) (sym (k.places d c (is_known l d m) here (eqb-true d.place c.place f))) ∙ e)))
    go false e false f = e ∙ sym f

module _ (s : Setup) (me : Inc) (l : Life) (c : Cert) (at now : Tables) (k : IsNext l c) (z : Settles c.place c.gtid c.txn.changes at now) (f : Keeps s me l at) where
  members : (m : Gtid) → has (with_gtid (executed l) c.gtid) m ≡ (gtid_eq c.gtid m || has (executed l) m)
  members m = all_with_gtid (executed l) c.gtid m f.canonical k.source k.number

  pub keeps_settled : Keeps s me (Committed c.gtid ∷ l) now
  keeps_settled = record {
    is_me = ap (λ (t : Tables). t.me) z.others ∙ f.is_me;
    set = ap (λ (t : Tables). t.executed) z.others ∙ ap (λ e. with_gtid e c.gtid) f.set;
    own_state = ap (λ (t : Tables). t.state) z.others ∙ f.own_state;
    mode = ap (λ (t : Tables). t.mode) z.others ∙ f.mode;
    primary = ap (λ (t : Tables). t.primary) z.others ∙ f.primary;
    rows = rows_commit l c.gtid c at.store now.store f.rows (in_order l c f.gtids k) f.canonical k.source k.number z.rows z.latest;
    places =
        ap (λ (t : Tables). t.locks.places) z.others
        ∙ (ap (without_place c.place) f.places ∙ (freed l c.place (queue l me) ∙ ap (done_places l) (sym (commits l me c.gtid c.place members (own_place l c f.gtids k)))));
    reads = λ t a. part_stays l (Committed c.gtid) (begun_set l t) refl (f.reads t a);
    canonical = canonical_with_gtid (executed l) c.gtid k.source k.number f.canonical;
    kept = keeps_committing l c.gtid f.kept f.canonical k.source k.number;
    gtids = f.gtids;
  }

pub settled : (s : Setup) (me : Inc) (l : Life) (c : Cert) (x : MemberTables) (now : Tables) → IsNext l c → Settles c.place c.gtid c.txn.changes x.tables now → Stands s me l x → Stands s me (Committed c.gtid ∷ l) (record x { tables = now })
settled s me l c x now k z f = record {
  tables = keeps_settled s me l c x.tables now k z f.tables;
  locks = subst (λ q. LocksOf q (Committed c.gtid ∷ l)) (sym (ap (λ (t : Tables). t.locks) z.others)) (replaced (locks_passed x.tables.locks l (Committed c.gtid) refl f.locks));
  sessions = sessions_passed x.sessions l (Committed c.gtid) refl f.sessions;
  left = left_passed l (Committed c.gtid) refl f.left;
  once = once_passed l (Committed c.gtid) refl (omega arith) f.once;
}
  where
    replaced : LocksOf x.tables.locks (Committed c.gtid ∷ l) → LocksOf (record x.tables.locks { places = without_place c.place x.tables.locks.places }) (Committed c.gtid ∷ l)
    replaced g = record { keys = g.keys; called = g.called; dead = g.dead; held = g.held }
