-- What happens beside the tables leaves them standing for the history.
use Rattle.std.proofs.Common.{◌≡◌, ◌==◌, ℕ, ◌≤◌, Bool, true, false, List, ◌∷◌, refl, sym, ap, ◌∙◌, subst}
use Rattle.std.proofs.lemmas.Bool.{true≢false}
use Rattle.gr_ids.specs.declared.names.Inc.{Inc}
use Rattle.gr_ids.specs.declared.names.ValueId.{ValueId}
use Rattle.gr_ids.specs.declared.levels.Level.{Level}
use Rattle.gr_ids.specs.Names.{gtid_eq}
use Rattle.gtid_sets.specs.Canonical.{IsCanonical}
use Rattle.gtid_sets.specs.Sets.{Gtids}
use Rattle.node_rules.specs.Lists.{In}
use Rattle.group_rules.specs.View.{View}
use Rattle.group_rules.specs.Events.{AskFails, AsksCommit, Answered, Begun, Called, Came, Cert, Changed, Committed, Did, Done, Ends, Enters, Founds, Gave, Is, Life, Made, Replied, Restores, Setup, Skips, Starts, Took}
use Rattle.group_rules.specs.Life.{executed, last_made, state, view}
use Rattle.group_rules.specs.Queue.{queue}
use Rattle.group_rules.specs.Rows.{known}
use Rattle.group_rules.specs.Sessions.{begun_set, is_active, phase}
use Rattle.row_store.specs.Following.{IsPartOf, is_of_rows}
use Rattle.row_store.proofs.Followed.{passes as rows_pass}
use Rattle.row_store.proofs.Kept.{keeps_passing}
use Rattle.local_sessions.specs.declared.tables.Tables.{Tables}
use Rattle.local_sessions.specs.Following.{LocksOf, done_places, touches}
use Rattle.local_sessions.proofs.Awaited.{passed as once_passed}
use Rattle.local_sessions.proofs.KeyHolders.{passed as locks_passed}
use Rattle.local_sessions.proofs.Passing.{passed as sessions_passed}
use Rattle.local_sessions.proofs.StillActive.{passed as left_passed}
use Rattle.member_tables.specs.declared.tables.MemberTables.{MemberTables}
use Rattle.member_tables.specs.Standing.{Keeps, Stands, is_of_tables}

-- ---- who is active after a call, an ask or an end was so before

pub called_active : (n : ℕ) (v : Level) (w : ℕ) (l : Life) (t : ℕ) → is_active (phase (Called n v w ∷ l) t) ≡ true → is_active (phase l t) ≡ true
called_active n v w l t a = go (n == t) refl
  where
    go : (b : Bool) → (n == t) ≡ b → is_active (phase l t) ≡ true
    go true e = absurd (true≢false (sym a ∙ rw (phase, e) refl))
    go false e = rw (phase, e) at a

pub asked_active : (n : ℕ) (i : ValueId) (l : Life) (t : ℕ) → is_active (phase (AsksCommit n i ∷ l) t) ≡ true → is_active (phase l t) ≡ true
asked_active n i l t a = go (n == t) refl
  where
    go : (b : Bool) → (n == t) ≡ b → is_active (phase l t) ≡ true
    go true e = absurd (true≢false (sym a ∙ rw (phase, e) refl))
    go false e = rw (phase, e) at a

pub ended_active : (n : ℕ) (l : Life) (t : ℕ) → is_active (phase (Ends n ∷ l) t) ≡ true → is_active (phase l t) ≡ true
ended_active n l t a = go (n == t) refl
  where
    go : (b : Bool) → (n == t) ≡ b → is_active (phase l t) ≡ true
    go true e = absurd (true≢false (sym a ∙ rw (phase, e) refl))
    go false e = rw (phase, e) at a

-- ---- one thing more that changes nothing of the tables

-- what it is read by stays
pub same : (s : Setup) (me : Inc) (l : Life) (at : Tables) (d : Did) → is_of_rows d ≡ false → Keeps s me l at
    → executed (d ∷ l) ≡ executed l → state (d ∷ l) ≡ state l → view s (d ∷ l) ≡ view s l → queue (d ∷ l) me ≡ queue l me → done_places (d ∷ l) (queue l me) ≡ done_places l (queue l me)
    → begun_set (d ∷ l) ≡ begun_set l → ((t : ℕ) → is_active (phase (d ∷ l) t) ≡ true → IsPartOf (begun_set l t) (executed l)) → known (d ∷ l) ≡ known l → Keeps s me (d ∷ l) at
same s me l at d r f ee es ev eq ep eb reads ek = record {
  is_me = f.is_me;
  set = f.set ∙ sym ee;
  own_state = f.own_state ∙ sym es;
  mode = f.mode ∙ ap (λ (v : View). v.mode) (sym ev);
  primary = f.primary ∙ ap (λ (v : View). v.primary) (sym ev);
  rows = rows_pass l d at.store r f.rows;
  places = f.places ∙ (sym ep ∙ ap (done_places (d ∷ l)) (sym eq));
  reads = λ t a. subst (λ e. IsPartOf (begun_set (d ∷ l) t) e) (sym ee) (subst (λ (b : ℕ → Gtids). IsPartOf (b t) (executed l)) (sym eb) (reads t a));
  canonical = subst IsCanonical (sym ee) f.canonical;
  kept = keeps_passing l d r f.kept;
  gtids = subst (λ (cs : List Cert). (c e : Cert) → In c cs → In e cs → gtid_eq c.gtid e.gtid ≡ true → c ≡ e) (sym ek) f.gtids;
}

pub keeps_on : (s : Setup) (me : Inc) (l : Life) (at : Tables) (d : Did) → is_of_tables d ≡ false → Keeps s me l at → Keeps s me (d ∷ l) at
keeps_on s me l at Founds h f = absurd (true≢false h)
keeps_on s me l at (Starts d) h f = absurd (true≢false h)
keeps_on s me l at (Came e) h f = same s me l at (Came e) refl f refl refl refl refl refl refl (f.reads) refl
keeps_on s me l at (Made v b) h f = same s me l at (Made v b) refl f refl refl refl refl refl refl (f.reads) refl
keeps_on s me l at (Took e) h f = absurd (true≢false h)
keeps_on s me l at (Skips t v) h f = same s me l at (Skips t v) refl f refl refl refl refl refl refl (f.reads) refl
keeps_on s me l at (Done p) h f = absurd (true≢false h)
keeps_on s me l at (Committed g) h f = absurd (true≢false h)
keeps_on s me l at (Is m c) h f = absurd (true≢false h)
keeps_on s me l at (Gave p n) h f = same s me l at (Gave p n) refl f refl refl refl refl refl refl (f.reads) refl
keeps_on s me l at (Answered n x) h f = same s me l at (Answered n x) refl f refl refl refl refl refl refl (f.reads) refl
keeps_on s me l at (Begun n e y) h f = absurd (true≢false h)
keeps_on s me l at (Changed n c) h f = same s me l at (Changed n c) refl f refl refl refl refl refl refl (f.reads) refl
keeps_on s me l at (Replied r) h f = same s me l at (Replied r) refl f refl refl refl refl refl refl (f.reads) refl
keeps_on s me l at (Called n v w) h f = same s me l at (Called n v w) refl f refl refl refl refl refl refl (λ t a. f.reads t (called_active n v w l t a)) refl
keeps_on s me l at (AsksCommit n i) h f = same s me l at (AsksCommit n i) refl f refl refl refl refl refl refl (λ t a. f.reads t (asked_active n i l t a)) refl
keeps_on s me l at (Ends n) h f = same s me l at (Ends n) refl f refl refl refl refl refl refl (λ t a. f.reads t (ended_active n l t a)) refl
keeps_on s me l at (Enters w) h f = absurd (true≢false h)
keeps_on s me l at (Restores g cs) h f = absurd (true≢false h)
keeps_on s me l at AskFails h f = same s me l at AskFails refl f refl refl refl refl refl refl (f.reads) refl

-- ---- all together

pub stands_on : (s : Setup) (me : Inc) (l : Life) (x : MemberTables) (d : Did) → touches d ≡ false → is_of_tables d ≡ false → last_made l ≤ last_made (d ∷ l) → Stands s me l x → Stands s me (d ∷ l) x
stands_on s me l x d h i n f = record {
  tables = keeps_on s me l x.tables d i f.tables;
  locks = locks_passed x.tables.locks l d h f.locks;
  sessions = sessions_passed x.sessions l d h f.sessions;
  left = left_passed l d h f.left;
  once = once_passed l d h n f.once;
}

-- an entry, a commit, a Welcome, a state or a Give, after which these tables are kept
pub stands_with : (s : Setup) (me : Inc) (l : Life) (x : MemberTables) (at : Tables) (d : Did) → touches d ≡ false → last_made l ≤ last_made (d ∷ l) → at.locks ≡ x.tables.locks → Keeps s me (d ∷ l) at → Stands s me l x
    → Stands s me (d ∷ l) (record { tables = at; sessions = x.sessions })
stands_with s me l x at d h n e k f = record {
  tables = k;
  locks = subst (λ z. LocksOf z (d ∷ l)) (sym e) (locks_passed x.tables.locks l d h f.locks);
  sessions = sessions_passed x.sessions l d h f.sessions;
  left = left_passed l d h f.left;
  once = once_passed l d h n f.once;
}
