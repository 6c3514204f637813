-- A begin that was held is done, or ends.
use Rattle.std.proofs.Common.{◌≡◌, ◌==◌, ℕ, arith, Bool, true, false, Option, List, ◌∷◌, refl, sym, ap, ◌∙◌, subst}
use Rattle.gr_ids.specs.declared.names.Inc.{Inc}
use Rattle.gtid_sets.specs.Sets.{Gtids}
use Rattle.group_rules.specs.declared.answers.Answer.{Answer}
use Rattle.group_rules.specs.Events.{Answered as AnsweredIn, Begun, Ends as EndsIn, Life, Setup}
use Rattle.group_rules.specs.Life.{executed}
use Rattle.group_rules.specs.Member.{Member, last_answer}
use Rattle.group_rules.specs.Sessions.{begun_set, is_active, is_holding, phase}
use Rattle.row_store.specs.Following.{IsPartOf}
use Rattle.row_store.proofs.Followed.{passes as rows_pass}
use Rattle.row_store.proofs.Kept.{keeps_passing}
use Rattle.local_sessions.specs.declared.session.Session.{Session}
use Rattle.local_sessions.specs.Following.{StandFor}
use Rattle.local_sessions.specs.Standing.{begins, changed_at, is_held, session_in, without}
use Rattle.local_sessions.proofs.Awaited.{begun as once_begun, ended as once_ended}
use Rattle.local_sessions.proofs.Holders.{holds}
use Rattle.local_sessions.proofs.KeyHolders.{begun as locks_begun, timed_out as locks_timed_out}
use Rattle.local_sessions.proofs.Passing.{begun as sessions_begun, ended as sessions_ended}
use Rattle.local_sessions.proofs.StillActive.{begun as left_begun, ended as left_ended}
use Rattle.member_tables.specs.declared.tables.MemberTables.{MemberTables}
use Rattle.member_tables.specs.Standing.{Stands, TablesFor}
use Rattle.member_tables.proofs.Kept.{keeps_on, stands_on}

pub holding : (a : Member) (x : MemberTables) (t : ℕ) → TablesFor a x → is_held (session_in x.sessions t) ≡ is_holding (phase a.life t)
holding a x t f = holds x.sessions x.tables.locks a.life t f.sessions f.locks

-- ---- it is done

module _ (s : Setup) (me : Inc) (l : Life) (t : ℕ) (y : Option ℕ) where
  -- it reads what is executed now
  reads : ((u : ℕ) → is_active (phase l u) ≡ true → IsPartOf (begun_set l u) (executed l)) → (u : ℕ) → is_active (phase (Begun t (executed l) y ∷ l) u) ≡ true → IsPartOf (begun_set (Begun t (executed l) y ∷ l) u) (executed l)
  reads r u a = go (t == u) refl
    where
      go : (c : Bool) → (t == u) ≡ c → IsPartOf (begun_set (Begun t (executed l) y ∷ l) u) (executed l)
      go true e = subst (λ z. IsPartOf z (executed l)) (sym (let q : begun_set (Begun t (executed l) y ∷ l) u ≡ executed l = rw (begun_set, e) refl in q)) (λ g h. h)
      go false e = subst (λ z. IsPartOf z (executed l)) (sym (let q : begun_set (Begun t (executed l) y ∷ l) u ≡ begun_set l u = rw (begun_set, e) refl in q)) (r u (let q : phase (Begun t (executed l) y ∷ l) u ≡ phase l u = rw (phase, e) refl in ap is_active (sym q) ∙ a))

  pub begun : (x : MemberTables) (xs : List Session) → xs ≡ changed_at t (begins x.tables.executed) x.sessions → is_held (session_in x.sessions t) ≡ true → Stands s me l x → Stands s me (Begun t (executed l) y ∷ l) (record x { sessions = xs })
  begun x xs e h f = record {
    tables = record {
      is_me = f.tables.is_me;
      set = f.tables.set;
      own_state = f.tables.own_state;
      mode = f.tables.mode;
      primary = f.tables.primary;
      rows = rows_pass l (Begun t (executed l) y) x.tables.store refl f.tables.rows;
      places = f.tables.places;
      reads = reads f.tables.reads;
      canonical = f.tables.canonical;
      kept = keeps_passing l (Begun t (executed l) y) refl f.tables.kept;
      gtids = f.tables.gtids;
    };
    locks = locks_begun x.tables.locks l t (executed l) y f.locks (sym (holds x.sessions x.tables.locks l t f.sessions f.locks) ∙ h);
    sessions = subst (λ ys. StandFor ys (Begun t (executed l) y ∷ l)) (sym (e ∙ ap (λ (z : Gtids). changed_at t (begins z) x.sessions) f.tables.set)) (sessions_begun x.sessions l t (executed l) y f.sessions f.left h);
    left = left_begun l t (executed l) y f.left;
    once = once_begun l t (executed l) y f.once;
  }

-- ---- it ends

pub timed_out : (a : Member) (x : MemberTables) (xs : List Session) (t : ℕ) (w : Answer) → xs ≡ without t x.sessions → is_held (session_in x.sessions t) ≡ true → TablesFor a x → TablesFor (last_answer t w a) (record x { sessions = xs })
timed_out a x xs t w e h f =
    let l : Life = AnsweredIn t w ∷ a.life in
    let g : Stands a.setup a.me.inc l x = stands_on a.setup a.me.inc a.life x (AnsweredIn t w) refl refl (omega arith) f in
    record {
      tables = keeps_on a.setup a.me.inc l x.tables (EndsIn t) refl g.tables;
      locks = locks_timed_out x.tables.locks l t g.locks (sym (holding a x t f) ∙ h);
      sessions = subst (λ (ys : List Session). StandFor ys (EndsIn t ∷ l)) (sym e) (sessions_ended x.sessions l t g.sessions);
      left = left_ended l t g.left;
      once = once_ended l t g.once;
    }
