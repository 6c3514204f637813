-- The member takes ERROR: who is told, and what stands then.
use Rattle.std.proofs.Common.{◌≡◌, arith, true, List, [], ◌∷◌, refl, sym, ap, ◌∙◌, subst}
use Rattle.gr_ids.specs.declared.levels.MemberState.TheVariants.{Error}
use Rattle.key_items.specs.declared.item.Item.{Item}
use Rattle.group_rules.specs.declared.marks.Cause.{Cause}
use Rattle.group_rules.specs.Events.{Answered as AnsweredIn, Ends as EndsIn, Is}
use Rattle.group_rules.specs.Member.{Member, fall, last_answer, push}
use Rattle.row_locks.specs.Locking.{Locked, session_at}
use Rattle.row_store.proofs.Followed.{passes as rows_pass}
use Rattle.row_store.proofs.Kept.{keeps_passing}
use Rattle.local_sessions.specs.declared.session.Session.{Session}
use Rattle.local_sessions.specs.declared.tables.Tables.{Tables}
use Rattle.local_sessions.specs.declared.told.Answered.{Answered}
use Rattle.local_sessions.specs.declared.told.TakenOwn.{TakenOwn}
use Rattle.local_sessions.specs.Acting.{TakenOf, tell}
use Rattle.local_sessions.specs.Following.{AsksOnce, StandFor}
use Rattle.local_sessions.specs.Others.{answers_left, sessions_left, without_told}
use Rattle.local_sessions.specs.Standing.{ascend}
use Rattle.local_sessions.proofs.Awaited.{alike, ended as once_ended, passed as once_passed}
use Rattle.local_sessions.proofs.Falling.{fallen}
use Rattle.local_sessions.proofs.FallFrees.{freed}
use Rattle.local_sessions.proofs.Remaining.{remaining}
use Rattle.local_sessions.proofs.StillActive.{fallen as still_active}
use Rattle.member_tables.specs.declared.tables.MemberTables.{MemberTables}
use Rattle.member_tables.specs.Standing.{Keeps, TablesFor}
use Rattle.member_tables.proofs.Kept.{keeps_on}

-- ---- answers, one after another

keeps_told : (more : List Answered) (b : Member) (at : Tables) → Keeps b.setup b.me.inc b.life at → Keeps (tell more b).setup (tell more b).me.inc (tell more b).life at
keeps_told [] b at f = f
keeps_told (x ∷ more) b at f =
    keeps_told more (last_answer x.session x.answer b) at
    (keeps_on b.setup b.me.inc (AnsweredIn x.session x.answer ∷ b.life) at (EndsIn x.session) refl (keeps_on b.setup b.me.inc b.life at (AnsweredIn x.session x.answer) refl f))

once_told : (more : List Answered) (b : Member) → AsksOnce b.life → AsksOnce (tell more b).life
once_told [] b f = f
once_told (x ∷ more) b f =
    once_told more (last_answer x.session x.answer b)
    (once_ended (AnsweredIn x.session x.answer ∷ b.life) x.session (once_passed b.life (AnsweredIn x.session x.answer) refl (omega arith) f))

-- ---- ERROR

pub told : (a : Member) (x : MemberTables) (ts : List TakenOwn) (c : Cause) → ascend x.sessions ≡ true → TakenOf ts a.life → TablesFor a x → fall c a ≡ tell (answers_left ts x.sessions) (push (Is Error c) a)
told a x ts c up t f = fallen x.sessions x.tables.locks ts a c up f.sessions f.locks t

pub falls : (a : Member) (x : MemberTables) (ts : List TakenOwn) (c : Cause) (out : List Answered) (xs : List Session) (k : Locked) → ascend x.sessions ≡ true → out ≡ answers_left ts x.sessions → xs ≡ sessions_left x.sessions
    → ((j : Item) → session_at k.keys j ≡ without_told out (session_at x.tables.locks.keys j)) → k.places ≡ [] → TakenOf ts a.life → TablesFor a x
    → TablesFor (fall c a) (record { tables = record x.tables { locks = k; state = Error }; sessions = xs })
falls a x ts c out xs k up eo es ek ep t f = record {
  tables = subst (λ (m : Member). Keeps m.setup m.me.inc m.life (record x.tables { locks = k; state = Error })) (sym (told a x ts c up t f)) (keeps_told (answers_left ts x.sessions) (push (Is Error c) a) (record x.tables { locks = k; state = Error }) tables);
  locks = freed x.sessions x.tables.locks k ts a c up f.sessions f.locks t (λ j. ek j ∙ ap (λ os. without_told os (session_at x.tables.locks.keys j)) eo);
  sessions = subst (λ (ys : List Session). StandFor ys (fall c a).life) (sym es) (remaining x.sessions x.tables.locks ts a c up f.sessions f.locks t);
  left = still_active x.tables.locks a c f.locks;
  once = subst (λ (m : Member). AsksOnce m.life) (sym (told a x ts c up t f)) (once_told (answers_left ts x.sessions) (push (Is Error c) a) (alike a.life (Is Error c ∷ a.life) (λ u. refl) refl f.once));
}
  where
    tables : Keeps a.setup a.me.inc (Is Error c ∷ a.life) (record x.tables { locks = k; state = Error })
    tables = record {
      is_me = f.tables.is_me;
      set = f.tables.set;
      own_state = refl;
      mode = f.tables.mode;
      primary = f.tables.primary;
      rows = rows_pass a.life (Is Error c) x.tables.store refl f.tables.rows;
      places = ep;
      reads = f.tables.reads;
      canonical = f.tables.canonical;
      kept = keeps_passing a.life (Is Error c) refl f.tables.kept;
      gtids = f.tables.gtids;
    }
