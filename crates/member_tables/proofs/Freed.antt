-- A place that is done takes keys over.
use Rattle.std.proofs.Common.{◌≡◌, ℕ, ◌==◌, arith, Bool, true, false, Some, List, [], ◌∷◌, refl, sym, ap, ◌∙◌, subst, filter, map}
use Rattle.std.specs.Prelude.{reverse}
use Rattle.std.proofs.lemmas.Bool.{eqb-true, lt-ltb, ltb-true}
use Rattle.gr_ids.specs.declared.names.Inc.{Inc}
use Rattle.gr_ids.specs.declared.names.Gtid.{Gtid}
use Rattle.key_items.specs.declared.item.Item.{Item}
use Rattle.group_rules.specs.Events.{Cert, Done, Life, Setup}
use Rattle.group_rules.specs.Life.{certs, executed, is_error, state}
use Rattle.group_rules.specs.Queue.{at_place, is_done, pending, queue}
use Rattle.row_locks.specs.declared.done.DonePlace.{DonePlace}
use Rattle.row_locks.specs.Locking.{Locked, holders_of, session_at, taken_over, with_place}
use Rattle.row_store.proofs.Followed.{passes as rows_pass}
use Rattle.row_store.proofs.Kept.{keeps_passing}
use Rattle.local_sessions.specs.declared.session.Session.{Session}
use Rattle.local_sessions.specs.Following.{StandFor, place_of, rise}
use Rattle.local_sessions.specs.Others.{killed_by, unless_killed}
use Rattle.local_sessions.proofs.Awaited.{alike}
use Rattle.local_sessions.proofs.Certified.{queued}
use Rattle.local_sessions.proofs.Killing.{done as sessions_done, freed as locks_done}
use Rattle.local_sessions.proofs.Queued.{before, done as places_done, rise_parts}
use Rattle.member_tables.specs.declared.tables.MemberTables.{MemberTables}
use Rattle.member_tables.specs.Standing.{Keeps, Stands}
use Rattle.member_tables.proofs.Queues.{is_others, lacks, no_queue, queue_is}

-- ---- places rise among those that are left

before_filter : (f : Cert → Bool) (p : ℕ) (cs : List Cert) → before p cs ≡ true → rise cs ≡ true → before p (filter f cs) ≡ true
before_filter f p [] h k = refl
before_filter f p (c ∷ cs) h k = go (f c) refl (before_filter f p cs (later cs (rise_parts c cs k).0) (rise_parts c cs k).1)
  where
    later : (ds : List Cert) → before c.place ds ≡ true → before p ds ≡ true
    later [] e = refl
    later (d ∷ ds) e = let u = ltb-true p c.place h in let v = ltb-true c.place d.place e in lt-ltb p d.place (omega (arith, u, v))

    go : (b : Bool) → f c ≡ b → before p (filter f cs) ≡ true → before p (filter f (c ∷ cs)) ≡ true
    go true e r = rw e h
    go false e r = rw e r

rise_filter : (f : Cert → Bool) (cs : List Cert) → rise cs ≡ true → rise (filter f cs) ≡ true
rise_filter f [] k = refl
rise_filter f (c ∷ cs) k = go (f c) refl (before_filter f c.place cs (rise_parts c cs k).0 (rise_parts c cs k).1) (rise_filter f cs (rise_parts c cs k).1)
  where
    put : (ds : List Cert) → before c.place ds ≡ true → rise ds ≡ true → rise (c ∷ ds) ≡ true
    put [] e r = refl
    put (d ∷ ds) e r = rw e r

    go : (b : Bool) → f c ≡ b → before c.place (filter f cs) ≡ true → rise (filter f cs) ≡ true → rise (filter f (c ∷ cs)) ≡ true
    go true e h r = rw e (put (filter f cs) h r)
    go false e h r = rw e r

queue_rises : (l : Life) (me : Inc) → rise (reverse (certs l)) ≡ true → rise (queue l me) ≡ true
queue_rises l me k = go (is_error (state l)) refl
  where
    go : (b : Bool) → is_error (state l) ≡ b → rise (queue l me) ≡ true
    go true e = ap rise (no_queue l me e)
    go false e = ap rise (queue_is l me e) ∙ rise_filter (is_others me) (pending l) (rise_filter (lacks (executed l)) (reverse (certs l)) k)

found_is : (cs : List Cert) (p : ℕ) (c : Cert) → at_place cs p ≡ Some c → c.place ≡ p
found_is [] p c e = absurd cc
found_is (x ∷ xs) p c e = go (x.place == p) refl (found_is xs p c)
  where
    go : (b : Bool) → (x.place == p) ≡ b → (at_place xs p ≡ Some c → c.place ≡ p) → c.place ≡ p
    go true h r = let z : Some x ≡ Some c = rw h at e in let q : x ≡ c = cc in ap (λ (y : Cert). y.place) (sym q) ∙ eqb-true x.place p h
    go false h r = r (rw h at e)

-- ---- the place

pub placed : (s : Setup) (me : Inc) (l : Life) (x : MemberTables) (p : ℕ) (c : Cert) (g : Gtid) (is : List Item) (xs : List Session) (k : Locked) → at_place (queue l me) p ≡ Some c → is_done l p ≡ false → rise (reverse (certs l)) ≡ true
    → g ≡ c.gtid → is ≡ c.txn.items → xs ≡ map (killed_by g (holders_of x.tables.locks.keys is)) x.sessions
    → ((j : Item) → session_at k.keys j ≡ unless_killed x.sessions (holders_of x.tables.locks.keys is) (taken_over is (session_at x.tables.locks.keys) j))
    → k.places ≡ with_place x.tables.locks.places (record { place = p; gtid = g; items = is }) → Stands s me l x
    → Stands s me (Done p ∷ l) (record { tables = record x.tables { locks = k }; sessions = xs })
placed s me l x p c g is xs k e n up eg ei es ek ep f = record {
  tables = tables;
  locks = locks_done x.sessions x.tables.locks l p c f.sessions f.locks certified k (λ j. ek j ∙ ap (λ (ys : List Item). unless_killed x.sessions (holders_of x.tables.locks.keys ys) (taken_over ys (session_at x.tables.locks.keys) j)) ei);
  sessions = subst (λ (ys : List Session). StandFor ys (Done p ∷ l)) (sym (es ∙ (ap (λ h. map (killed_by h (holders_of x.tables.locks.keys is)) x.sessions) eg ∙ ap (λ (ys : List Item). map (killed_by c.gtid (holders_of x.tables.locks.keys ys)) x.sessions) ei)))
      (sessions_done x.sessions x.tables.locks l p c f.sessions f.locks certified);
  left = f.left;
  once = alike l (Done p ∷ l) (λ t. refl) refl f.once;
}
  where
    certified : at_place (certs l) p ≡ Some c
    certified = queued l me p c up e

    this : DonePlace
    this = record { place = p; gtid = g; items = is }

    is_it : this ≡ place_of c
    is_it = ap (λ q. record { place = q; gtid = g; items = is }) (sym (found_is (queue l me) p c e)) ∙ (ap (λ h. record { place = c.place; gtid = h; items = is }) eg ∙ ap (λ ys. record { place = c.place; gtid = c.gtid; items = ys }) ei)

    tables : Keeps s me (Done p ∷ l) (record x.tables { locks = k })
    tables = record {
      is_me = f.tables.is_me;
      set = f.tables.set;
      own_state = f.tables.own_state;
      mode = f.tables.mode;
      primary = f.tables.primary;
      rows = rows_pass l (Done p) x.tables.store refl f.tables.rows;
      places = ep ∙ (ap (with_place x.tables.locks.places) is_it ∙ (ap (λ ds. with_place ds (place_of c)) f.tables.places ∙ places_done l p c (queue l me) (queue_rises l me up) e n));
      reads = f.tables.reads;
      canonical = f.tables.canonical;
      kept = keeps_passing l (Done p) refl f.tables.kept;
      gtids = f.tables.gtids;
    }
