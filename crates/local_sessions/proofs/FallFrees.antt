-- After a fall, who holds which key, and that no place is queued.
use Rattle.std.proofs.Common.{◌≡◌, subst, ℕ, true, Option, List, [], ◌∷◌, refl, sym, ◌∙◌}
use Rattle.gr_ids.specs.declared.levels.MemberState.TheVariants.{Error}
use Rattle.key_items.specs.declared.item.Item.{Item}
use Rattle.gr_ids.specs.declared.names.Inc.{Inc}
use Rattle.group_rules.specs.declared.marks.Cause.{Cause}
use Rattle.group_rules.specs.Events.{Answered as AnsweredIn, Is}
use Rattle.group_rules.specs.Life.{state}
use Rattle.group_rules.specs.Queue.{queue}
use Rattle.group_rules.specs.Sessions.{Phase, Free as IsFree, Holding as IsHolding, Active as IsActive, Asking as IsAsking, phase, sessions}
use Rattle.group_rules.specs.Member.{Member, fall, for_each, last_answer, leave_session, push}
use Rattle.row_locks.specs.Locking.{Locked, session_at, without_session}
use Rattle.local_sessions.specs.declared.told.Answered.{Answered}
use Rattle.local_sessions.specs.declared.told.TakenOwn.{TakenOwn}
use Rattle.local_sessions.specs.Standing.{Session, ascend}
use Rattle.local_sessions.specs.Others.{answers_left, without_told}
use Rattle.local_sessions.specs.Following.{LocksOf, StandFor}
use Rattle.local_sessions.specs.Acting.{tell, TakenOf}
use Rattle.local_sessions.proofs.KeyHolders.{HeldBy, answered_by, as_locks, ended_by, by_holder, fallen as at_error}
use Rattle.local_sessions.proofs.Falling.{fallen}

-- ---- keys

told : (more : List Answered) (b : Member) (was : Item → Option ℕ) → HeldBy was b.life → HeldBy (λ j. without_told more (was j)) (tell more b).life
told [] b was h = h
told (a ∷ more) b was h =
    told more (last_answer a.session a.answer b) (λ j. without_session a.session (was j))
    (ended_by was (AnsweredIn a.session a.answer ∷ b.life) a.session (answered_by was b.life a.session a.answer h))

pub freed : (xs : List Session) (k now : Locked) (ts : List TakenOwn) (a : Member) (c : Cause) → ascend xs ≡ true → StandFor xs a.life → LocksOf k a.life → TakenOf ts a.life
    → ((j : Item) → session_at now.keys j ≡ without_told (answers_left ts xs) (session_at k.keys j)) → LocksOf now (fall c a).life
freed xs k now ts a c up f o taken e =
    subst (λ (m : Member). LocksOf now m.life) (sym (fallen xs k ts a c up f o taken))
    (as_locks (λ j. without_told (answers_left ts xs) (session_at k.keys j)) now (tell (answers_left ts xs) (push (Is Error c) a)).life
    (told (answers_left ts xs) (push (Is Error c) a) (session_at k.keys) (by_holder k (Is Error c ∷ a.life) (at_error k a.life c o))) e)

-- ---- places

same_state : (ss : List ℕ) (b : Member) → state (for_each leave_session ss b).life ≡ state b.life
same_state [] b = refl
same_state (s ∷ ss) b = same_state ss (leave_session s b) ∙ go (phase b.life s) refl
  where
    go : (p : Phase) → phase b.life s ≡ p → state (leave_session s b).life ≡ state b.life
    go IsFree e = rw (leave_session, e) refl
    go IsHolding e = rw (leave_session, e) refl
    go IsActive e = rw (leave_session, e) refl
    go (IsAsking i) e = rw (leave_session, e) refl

pub emptied : (a : Member) (c : Cause) (me : Inc) → queue (fall c a).life me ≡ []
emptied a c me = let e : state (fall c a).life ≡ Error = same_state (sessions a.life) (push (Is Error c) a) in rw (queue, e) refl
