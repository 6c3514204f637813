-- A session is told its last answer, and holds no key any more.
use Rattle.std.proofs.Common.{◌≡◌, ℕ, arith, Option, Some, None, List, ◌∷◌, refl, sym, ap, ◌∙◌, subst}
use Rattle.std.specs.Prelude.{IfNone, IfSome, option_to_list}
use Rattle.std.specs.Option.{option_map}
use Rattle.gr_ids.specs.declared.names.Inc.{Inc}
use Rattle.gr_ids.specs.declared.names.ValueId.{ValueId}
use Rattle.group_rules.specs.declared.answers.Answer.{Answer}
use Rattle.group_rules.specs.Events.{Answered as AnsweredIn, Ends as EndsIn, Life, Setup}
use Rattle.group_rules.specs.Member.{Member, last_answer}
use Rattle.row_locks.specs.Locking.{SessionKey}
use Rattle.local_sessions.specs.declared.tables.Tables.{Tables}
use Rattle.local_sessions.specs.declared.told.Answered.{Answered}
use Rattle.local_sessions.specs.Acting.{tell, told_to}
use Rattle.local_sessions.specs.Following.{StandFor}
use Rattle.local_sessions.specs.Others.{answered, asking}
use Rattle.local_sessions.specs.Replies.{Does, Ends}
use Rattle.local_sessions.specs.declared.session.Session.{Session}
use Rattle.local_sessions.proofs.Awaited.{ended as once_ended}
use Rattle.local_sessions.proofs.KeyHolders.{ended as locks_ended}
use Rattle.local_sessions.proofs.Passing.{ended as sessions_ended}
use Rattle.local_sessions.proofs.StillActive.{ended as left_ended}
use Rattle.member_tables.specs.declared.tables.MemberTables.{MemberTables}
use Rattle.member_tables.specs.Standing.{Keeps, Stands, TablesFor}
use Rattle.member_tables.proofs.Kept.{keeps_on, stands_on}

-- the keys of sessions are no part of what is kept
pub rekeyed : (s : Setup) (me : Inc) (l : Life) (at now : Tables) → now ≡ record at { locks = record at.locks { keys = now.locks.keys } } → Keeps s me l at → Keeps s me l now
rekeyed s me l at now e f = subst (Keeps s me l) (sym e) (with now.locks.keys)
  where
    with : (ks : List SessionKey) → Keeps s me l (record at { locks = record at.locks { keys = ks } })
    with ks = record { is_me = f.is_me; set = f.set; own_state = f.own_state; mode = f.mode; primary = f.primary; rows = f.rows; places = f.places; reads = f.reads; canonical = f.canonical; kept = f.kept; gtids = f.gtids }

pub told : (b : Member) (x y : MemberTables) (t : ℕ) (w : Answer) → Does Ends t x.sessions y.sessions x.tables y.tables → TablesFor b x → TablesFor (last_answer t w b) y
told b x y t w d f =
    let l : Life = AnsweredIn t w ∷ b.life in
    let g : Stands b.setup b.me.inc l x = stands_on b.setup b.me.inc b.life x (AnsweredIn t w) refl refl (omega arith) f in
    record {
      tables = rekeyed b.setup b.me.inc (EndsIn t ∷ l) x.tables y.tables d.tables (keeps_on b.setup b.me.inc l x.tables (EndsIn t) refl g.tables);
      locks = locks_ended x.tables.locks y.tables.locks l t g.locks d.keys;
      sessions = subst (λ (ys : List Session). StandFor ys (EndsIn t ∷ l)) (sym d.sessions) (sessions_ended x.sessions l t g.sessions);
      left = left_ended l t g.left;
      once = once_ended l t g.once;
    }

-- the session that waits for a value
pub decided : (b : Member) (x y : MemberTables) (i : ValueId) (w : Answer) (o : Option Answered) → o ≡ option_map (answered w) (asking x.sessions i) → IfNone o ((y.sessions ≡ x.sessions) × (y.tables ≡ x.tables))
    → IfSome o (λ z. Does Ends z.session x.sessions y.sessions x.tables y.tables) → TablesFor b x → TablesFor (told_to (asking x.sessions i) w b) y
decided b x y i w o e n d f = go (asking x.sessions i) refl
  where
    go : (q : Option Session) → asking x.sessions i ≡ q → TablesFor (told_to q w b) y
    go None h =
        let k : o ≡ None = e ∙ ap (option_map (answered w)) h in
        let m : (y.sessions ≡ x.sessions) × (y.tables ≡ x.tables) = subst (λ z. IfNone z ((y.sessions ≡ x.sessions) × (y.tables ≡ x.tables))) k n in
        let same : y ≡ x = ap (λ ys. record { tables = y.tables; sessions = ys }) m.0 ∙ ap (λ t. record { tables = t; sessions = x.sessions }) m.1 in
        subst (TablesFor b) (sym same) f
    go (Some z) h =
        let k : o ≡ Some (answered w z) = e ∙ ap (option_map (answered w)) h in
        told b x y z.session w (subst (λ u. IfSome u (λ v. Does Ends v.session x.sessions y.sessions x.tables y.tables)) k d) f

-- it is told so
pub tells : (b : Member) (w : Answer) (q : Option Session) → told_to q w b ≡ tell (option_to_list (option_map (answered w) q)) b
tells b w None = refl
tells b w (Some z) = refl
