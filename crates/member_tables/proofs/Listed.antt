-- The begin, an entry, a state.
use Rattle.std.proofs.Common.{◌≡◌, ◌⊎◌, inl, inr, arith, false, Option, None, List, [], ◌∷◌, ◌++◌, refl, sym, ap, ◌∙◌, subst}
use Rattle.std.proofs.lemmas.Bool.{true≢false}
use Rattle.gr_ids.specs.declared.names.Inc.{Inc}
use Rattle.gr_ids.specs.declared.levels.MemberState.{MemberState}
use Rattle.gr_ids.specs.declared.levels.MemberState.TheVariants.{Error, Offline, Online, Recovering}
use Rattle.gr_ids.specs.declared.levels.Mode.{Mode}
use Rattle.gtid_sets.specs.Sets.{has}
use Rattle.node_rules.specs.Lists.{In}
use Rattle.slot_values.specs.declared.value.Joiner.{Joiner}
use Rattle.gtid_sets.specs.Canonical.{IsCanonical}
use Rattle.group_rules.specs.declared.marks.Cause.{Cause}
use Rattle.group_rules.specs.declared.marks.Cause.TheVariants.{Founded, Started}
use Rattle.gr_ids.specs.declared.levels.Mode.TheVariants.{Multi}
use Rattle.group_rules.specs.View.{founding}
use Rattle.group_rules.specs.Steps.{found, start}
use Rattle.row_locks.specs.Locking.{Locked}
use Rattle.group_rules.specs.Events.{Cert, Did, Entry, Founds, Is, Life, Setup, Starts, Stored, Took}
use Rattle.group_rules.specs.Life.{cert_of, certs, executed, is_error, state, stored, view}
use Rattle.group_rules.specs.Queue.{is_done}
use Rattle.group_rules.specs.Rows.{all_in, known}
use Rattle.row_store.specs.Following.{RowsOf}
use Rattle.row_store.specs.Chains.{Chain}
use Rattle.row_store.proofs.Followed.{founded as rows_founded, passes as rows_pass, takes_none, takes_one}
use Rattle.row_store.proofs.Kept.{keeps_founded, keeps_passing, keeps_started, keeps_taking}
use Rattle.row_store.proofs.Known.{all_first, all_second, in_all, in_either}
use Rattle.local_sessions.specs.Following.{LocksOf, StandFor, done_places, touches}
use Rattle.local_sessions.proofs.Awaited.{none as once_none, passed as once_passed}
use Rattle.local_sessions.proofs.KeyHolders.{none as locks_none, passed as locks_passed}
use Rattle.local_sessions.proofs.Passing.{none as sessions_none, passed as sessions_passed}
use Rattle.local_sessions.proofs.StillActive.{none as left_none, passed as left_passed}
use Rattle.member_truth.specs.Truth.{AreDistinct, IsTrueEntry}
use Rattle.member_tables.specs.declared.tables.MemberTables.{MemberTables}
use Rattle.member_tables.specs.Standing.{HasGtids, Keeps, Stands, TablesFor}
use Rattle.member_tables.proofs.Gtids.{more_gtids}
use Rattle.member_tables.proofs.Kept.{stands_with}
use Rattle.member_tables.proofs.Queues.{certified, queue_is, takes}

-- ---- the begin

pub fresh : (s : Setup) (me : Inc) (x : MemberTables) (d : Did) → touches d ≡ false → x.tables.locks ≡ record { keys = []; places = [] } → x.sessions ≡ [] → Keeps s me (d ∷ []) x.tables → Stands s me (d ∷ []) x
fresh s me x d h k n f = record {
  tables = f;
  locks = subst (λ z. LocksOf z (d ∷ [])) (sym k) (locks_passed (record { keys = []; places = [] }) [] d h locks_none);
  sessions = subst (λ xs. StandFor xs (d ∷ [])) (sym n) (sessions_passed [] [] d h sessions_none);
  left = left_passed [] d h left_none;
  once = once_passed [] d h (omega arith) once_none;
}

-- ---- a state

pub states : (s : Setup) (me : Inc) (l : Life) (x : MemberTables) (m : MemberState) (c : Cause) → is_error (state l) ≡ false → is_error m ≡ false → Stands s me l x → Stands s me (Is m c ∷ l) (record x { tables = record x.tables { state = m } })
states s me l x m c h k f = stands_with s me l x (record x.tables { state = m }) (Is m c) (untouched m k) (omega arith) refl tables f
  where
    untouched : (n : MemberState) → is_error n ≡ false → touches (Is n c) ≡ false
    untouched Offline e = refl
    untouched Recovering e = refl
    untouched Online e = refl
    untouched Error e = absurd (true≢false e)

    tables : Keeps s me (Is m c ∷ l) (record x.tables { state = m })
    tables = record {
      is_me = f.tables.is_me;
      set = f.tables.set;
      own_state = refl;
      mode = f.tables.mode;
      primary = f.tables.primary;
      rows = rows_pass l (Is m c) x.tables.store refl f.tables.rows;
      places = f.tables.places ∙ ap (done_places l) (queue_is l me h ∙ sym (queue_is (Is m c ∷ l) me k));
      reads = f.tables.reads;
      canonical = f.tables.canonical;
      kept = keeps_passing l (Is m c) refl f.tables.kept;
      gtids = f.tables.gtids;
    }

-- ---- founded, and started

pub founds : (s : Setup) (j : Joiner) (x : MemberTables) → x.tables.store ≡ [] → x.tables.locks ≡ record { keys = []; places = [] } → x.tables.executed ≡ [] → x.tables.state ≡ Online → x.sessions ≡ [] → x.tables.me ≡ j.inc
    → x.tables.mode ≡ (founding s.mode s.founders).mode → x.tables.primary ≡ (founding s.mode s.founders).primary → TablesFor (found s j) x
unfolding found
founds s j x er el ee es en i m o =
    let old : MemberTables = record x { tables = record x.tables { state = Offline } } in
    subst (λ z. Stands s j.inc (Is Online Founded ∷ Founds ∷ []) z) (ap (λ m. record x { tables = record x.tables { state = m } }) (sym es))
    (states s j.inc (Founds ∷ []) old Online Founded refl refl
    (fresh s j.inc old Founds refl el en
    (record {
      is_me = i;
      set = ee;
      own_state = refl;
      mode = m;
      primary = o;
      rows = subst (RowsOf (Founds ∷ [])) (sym er) rows_founded;
      places = ap (λ (z : Locked). z.places) el;
      reads = λ t a. absurd (true≢false (sym a));
      canonical = tt;
      kept = keeps_founded;
      gtids = λ c d n k q. absurd n;
    })))

pub starts : (s : Setup) (j : Joiner) (y : Stored) (i : Inc) (x : MemberTables) → x.sessions ≡ [] → x.tables.locks ≡ record { keys = []; places = [] } → x.tables.state ≡ Offline → x.tables.mode ≡ Multi → x.tables.primary ≡ None → x.tables.me ≡ j.inc
    → x.tables.executed ≡ y.executed → IsCanonical y.executed → RowsOf (Starts y ∷ []) x.tables.store → HasGtids (Starts y ∷ []) → TablesFor (start s j y i) x
unfolding start
starts s j y i x en el es em eo ei ee k r g =
    subst (λ z. Stands s j.inc (Is Offline Started ∷ Starts y ∷ []) z) (ap (λ m. record x { tables = record x.tables { state = m } }) (sym es))
    (states s j.inc (Starts y ∷ []) x Offline Started refl refl
    (fresh s j.inc x (Starts y) refl el en
    (record {
      is_me = ei;
      set = ee;
      own_state = es;
      mode = em;
      primary = eo;
      rows = r;
      places = ap (λ (z : Locked). z.places) el;
      reads = λ t a. absurd (true≢false (sym a));
      canonical = k;
      kept = keeps_started y;
      gtids = g;
    })))

-- ---- an entry

takes_rows : (l : Life) (e : Entry) (cs : List Chain) → ((c : Cert) → In c (cert_of e) → has (executed l) c.gtid ≡ false) → RowsOf l cs → RowsOf (Took e ∷ l) cs
takes_rows l e cs h r = elim (certified e.place e.value.id e.effect e.holds) [
  | inl n ↦ takes_none l e cs r n
  | inr w ↦ takes_one l e w.0 cs r w.2 (h w.0 (subst (λ (xs : List Cert). In w.0 xs) (sym w.2) (inl refl)))
]

few : (e : Entry) → AreDistinct (cert_of e)
few e = elim (certified e.place e.value.id e.effect e.holds) [
  | inl n ↦ subst AreDistinct (sym n) tt
  | inr w ↦ subst AreDistinct (sym w.2) (λ d m. absurd m, tt)
]

pub taken : (s : Setup) (me : Inc) (l : Life) (x : MemberTables) (e : Entry) (m : Mode) (o : Option Inc) → IsTrueEntry s me l e → is_done l e.place ≡ false → m ≡ (view s (Took e ∷ l)).mode → o ≡ (view s (Took e ∷ l)).primary → Stands s me l x
    → Stands s me (Took e ∷ l) (record x { tables = record x.tables { mode = m; primary = o } })
taken s me l x e m o k d em eo f = stands_with s me l x (record x.tables { mode = m; primary = o }) (Took e) refl (omega arith) refl tables f
  where
    unexecuted : (c : Cert) → In c (cert_of e) → has (executed l) c.gtid ≡ false
    unexecuted c i = (k.certified c i).unexecuted

    base : List Cert
    base = all_in [] (stored l).committed

    apart : (y : Cert) → In y (known (Took e ∷ l)) → In y (known l) ⊎ In y (cert_of e)
    apart y z = elim (in_all base (cert_of e ++ certs l) y z) [
      | inl p ↦ inl (all_first base (certs l) y p)
      | inr p ↦ elim (in_either y (cert_of e) (certs l) p) [ inl q ↦ inr q | inr q ↦ inl (all_second base (certs l) y q) ]
    ]

    tables : Keeps s me (Took e ∷ l) (record x.tables { mode = m; primary = o })
    tables = record {
      is_me = f.tables.is_me;
      set = f.tables.set;
      own_state = f.tables.own_state;
      mode = em;
      primary = eo;
      rows = takes_rows l e x.tables.store unexecuted f.tables.rows;
      places = f.tables.places ∙ sym (takes l me e d);
      reads = f.tables.reads;
      canonical = f.tables.canonical;
      kept = keeps_taking l e f.tables.kept unexecuted;
      gtids = more_gtids l (Took e ∷ l) (cert_of e) apart (few e) (λ c i. (k.certified c i).unknown) f.tables.gtids;
    }
