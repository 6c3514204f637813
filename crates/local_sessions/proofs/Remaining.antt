-- Which sessions are left after ERROR, and where their transactions stand.
use Rattle.std.proofs.Common.{◌≡◌, subst, ℕ, Bool, true, false, not, Option, Some, None, List, [], ◌∷◌, filter, map, refl, sym, ap, ◌∙◌}
use Rattle.std.specs.Prelude.{◌==◌, is_some, if◌then◌else◌}
use Rattle.std.specs.Option.{option_map}
use Rattle.std.specs.List.{list_any}
use Rattle.std.proofs.lemmas.Bool.{eqb-true}
use Rattle.gr_ids.specs.declared.levels.MemberState.TheVariants.{Error}
use Rattle.gr_ids.specs.declared.names.Gtid.{Gtid}
use Rattle.group_rules.specs.declared.answers.Answer.{Answer}
use Rattle.group_rules.specs.declared.marks.Cause.{Cause}
use Rattle.group_rules.specs.Events.{Answered as AnsweredIn, Is, Life}
use Rattle.group_rules.specs.Member.{Member, fall, last_answer, push}
use Rattle.group_rules.specs.Sessions.{Phase, Free as IsFree, Holding as IsHolding, Active as IsActive, Asking as IsAsking, phase}
use Rattle.group_rules.specs.Keys.{killed, was_left}
use Rattle.row_locks.specs.Locking.{Locked}
use Rattle.local_sessions.specs.declared.told.Answered.{Answered}
use Rattle.local_sessions.specs.declared.told.TakenOwn.{TakenOwn}
use Rattle.local_sessions.specs.Standing.{Session, Stage, Holding, Active, WasKilled, WasLeft, Asked, Asking, ascend, is_of, session_in, stage_of, without}
use Rattle.local_sessions.specs.Others.{answer_at, answers_left, left, left_stage, remains, remains_at, sessions_left}
use Rattle.local_sessions.specs.Following.{Follows, LocksOf, StandFor, has_changes, stage_in}
use Rattle.local_sessions.specs.Acting.{tell, TakenOf}
use Rattle.local_sessions.proofs.Finding.{map_in, without_same, without_other}
use Rattle.local_sessions.proofs.Order.{parts, tops}
use Rattle.local_sessions.proofs.Passing.{passed, ended}
use Rattle.local_sessions.proofs.Falling.{answer_opt, fallen, none_below}

-- ---- ERROR itself

never_active : (g : Stage) → left_stage g ≡ Active → ⊥
never_active Holding e = cc
never_active Active e = cc
never_active (WasKilled g) e = cc
never_active WasLeft e = cc
never_active Asked e = cc
never_active (Asking i) e = cc

had_changes : (g : Stage) → has_changes (left_stage g) ≡ true → has_changes g ≡ true
had_changes Holding e = refl
had_changes Active e = refl
had_changes (WasKilled g) e = e
had_changes WasLeft e = e
had_changes Asked e = e
had_changes (Asking i) e = e

stage_left : (o : Option Session) → stage_of (option_map left o) ≡ option_map left_stage (stage_of o)
stage_left None = refl
stage_left (Some x) = refl

pub at_error : (xs : List Session) (l : Life) (c : Cause) → StandFor xs l → StandFor (map left xs) (Is Error c ∷ l)
at_error xs l c f t = subst (λ q. Follows q (Is Error c ∷ l) t) (sym (map_in left xs t (λ x. refl))) (one (session_in xs t) (f t))
  where
    stages : option_map left_stage (stage_in l t) ≡ stage_in (Is Error c ∷ l) t
    stages = go (killed l t) (was_left l t) (phase l t) refl refl refl
      where
        go : (z : Option Gtid) (w : Bool) (p : Phase) → killed l t ≡ z → was_left l t ≡ w → phase l t ≡ p → option_map left_stage (stage_in l t) ≡ stage_in (Is Error c ∷ l) t
        go (Some g) w p d e h = rw (stage_in, d) refl
        go None true IsFree d e h = rw (stage_in, d, e, h) refl
        go None true IsHolding d e h = rw (stage_in, d, e, h) refl
        go None true IsActive d e h = rw (stage_in, d, e, h) refl
        go None true (IsAsking i) d e h = rw (stage_in, d, e, h) refl
        go None false IsFree d e h = rw (stage_in, d, e, h) refl
        go None false IsHolding d e h = rw (stage_in, d, e, h) refl
        go None false IsActive d e h = rw (stage_in, d, e, h) refl
        go None false (IsAsking i) d e h = rw (stage_in, d, e, h) refl

    one : (q : Option Session) → Follows q l t → Follows (option_map left q) (Is Error c ∷ l) t
    one None g = record { stage = ap (option_map left_stage) g.stage ∙ stages; after = tt; state = tt; set = tt; changes = tt }
    one (Some x) g = record {
      stage = ap (option_map left_stage) g.stage ∙ stages;
      after = g.after;
      state = g.state;
      set = λ h. absurd (never_active x.stage h);
      changes = λ h. g.changes (had_changes x.stage h);
    }

-- ---- those that are told

abbrev outs : List Answered → List Session → List Session
outs [] xs = xs
outs (a ∷ more) xs = outs more (without a.session xs)

told : (more : List Answered) (xs : List Session) (b : Member) → StandFor xs b.life → StandFor (outs more xs) (tell more b).life
told [] xs b f = f
told (a ∷ more) xs b f =
    told more (without a.session xs) (last_answer a.session a.answer b)
    (ended xs (AnsweredIn a.session a.answer ∷ b.life) a.session (passed xs b.life (AnsweredIn a.session a.answer) refl f))

abbrev tells : List Answered → ℕ → Bool
tells more t = list_any (λ (a : Answered). a.session == t) more

out_stays : (more : List Answered) (xs : List Session) (t : ℕ) → session_in xs t ≡ None → session_in (outs more xs) t ≡ None
out_stays [] xs t n = n
out_stays (a ∷ more) xs t n = out_stays more (without a.session xs) t (go (a.session == t) refl)
  where
    go : (b : Bool) → (a.session == t) ≡ b → session_in (without a.session xs) t ≡ None
    go true e = let same : a.session ≡ t = eqb-true a.session t e in ap (λ s. session_in (without s xs) t) same ∙ without_same t xs
    go false e = without_other a.session t xs e ∙ n

out_is : (more : List Answered) (xs : List Session) (t : ℕ) → session_in (outs more xs) t ≡ (if tells more t then None else session_in xs t)
out_is [] xs t = refl
out_is (a ∷ more) xs t = go (a.session == t) refl (out_is more (without a.session xs) t)
  where
    go : (b : Bool) → (a.session == t) ≡ b → session_in (outs more (without a.session xs)) t ≡ (if tells more t then None else session_in (without a.session xs) t)
        → session_in (outs more (without a.session xs)) t ≡ (if tells (a ∷ more) t then None else session_in xs t)
    go true e r =
        let same : a.session ≡ t = eqb-true a.session t e in
        let gone : session_in (without a.session xs) t ≡ None = ap (λ s. session_in (without s xs) t) same ∙ without_same t xs in
        rw e (out_stays more (without a.session xs) t gone)
    go false e r = rw e (r ∙ ap (λ q. if tells more t then None else q) (without_other a.session t xs e))

-- ---- the two lists

told_is : (ts : List TakenOwn) (xs : List Session) (t : ℕ) → ascend xs ≡ true → tells (answers_left ts xs) t ≡ is_some (answer_opt ts (stage_of (session_in xs t)))
told_is ts [] t k = refl
told_is ts (x ∷ xs) t k = go (is_of t x) (answer_at ts x.stage) refl refl (told_is ts xs t (parts x xs k).1)
  where
    go : (b : Bool) (o : Option Answer) → is_of t x ≡ b → answer_at ts x.stage ≡ o → tells (answers_left ts xs) t ≡ is_some (answer_opt ts (stage_of (session_in xs t)))
        → tells (answers_left ts (x ∷ xs)) t ≡ is_some (answer_opt ts (stage_of (session_in (x ∷ xs) t)))
    go true (Some a) e h r = rw (answers_left, e, h) (rw e refl)
    go true None e h r =
        let none : session_in xs t ≡ None = none_below t xs (ap (λ s. tops s xs) (sym (eqb-true x.session t e)) ∙ (parts x xs k).0) (parts x xs k).1 in
        rw (answers_left, e, h) (r ∙ ap (λ q. is_some (answer_opt ts (stage_of q))) none)
    go false (Some a) e h r = rw (answers_left, e, h) (rw e r)
    go false None e h r = rw (answers_left, e, h) r

abbrev kept : Option Session → Option Session
kept None = None
kept (Some x) = if remains x then Some x else None

kept_is : (xs : List Session) (t : ℕ) → ascend xs ≡ true → session_in (filter remains xs) t ≡ kept (session_in xs t)
kept_is [] t k = refl
kept_is (x ∷ xs) t k = go (is_of t x) (remains x) refl refl (kept_is xs t (parts x xs k).1)
  where
    go : (b d : Bool) → is_of t x ≡ b → remains x ≡ d → session_in (filter remains xs) t ≡ kept (session_in xs t) → session_in (filter remains (x ∷ xs)) t ≡ kept (session_in (x ∷ xs) t)
    go true true e h r = rw (h, e) (rw (kept, h) refl)
    go true false e h r =
        let none : session_in xs t ≡ None = none_below t xs (ap (λ s. tops s xs) (sym (eqb-true x.session t e)) ∙ (parts x xs k).0) (parts x xs k).1 in
        rw (h, e) (r ∙ (ap kept none ∙ (rw (kept, h) refl)))
    go false true e h r = rw (h, e) r
    go false false e h r = rw (h, e) r

remains_is : (ts : List TakenOwn) (g : Stage) → is_some (answer_at ts g) ≡ not (remains_at g)
remains_is ts Holding = refl
remains_is ts Active = refl
remains_is ts (WasKilled g) = refl
remains_is ts WasLeft = refl
remains_is ts Asked = refl
remains_is ts (Asking i) = refl

same_list : (ts : List TakenOwn) (xs : List Session) (t : ℕ) → ascend xs ≡ true → session_in (outs (answers_left ts xs) (map left xs)) t ≡ session_in (sessions_left xs) t
same_list ts xs t k =
    out_is (answers_left ts xs) (map left xs) t
    ∙ (ap (λ b. if b then None else session_in (map left xs) t) (told_is ts xs t k)
    ∙ (ap (λ q. if is_some (answer_opt ts (stage_of (session_in xs t))) then None else q) (map_in left xs t (λ x. refl))
    ∙ (go (session_in xs t) ∙ sym (map_in left (filter remains xs) t (λ x. refl) ∙ ap (option_map left) (kept_is xs t k)))))
  where
    go : (q : Option Session) → (if is_some (answer_opt ts (stage_of q)) then None else option_map left q) ≡ option_map left (kept q)
    go None = refl
    go (Some x) = test (remains_at x.stage) refl
      where
        test : (b : Bool) → remains_at x.stage ≡ b → (if is_some (answer_at ts x.stage) then None else Some (left x)) ≡ option_map left (kept (Some x))
        test true e = rw (remains_is ts x.stage, kept, e) refl
        test false e = rw (remains_is ts x.stage, kept, e) refl

pub remaining : (xs : List Session) (k : Locked) (ts : List TakenOwn) (a : Member) (c : Cause) → ascend xs ≡ true → StandFor xs a.life → LocksOf k a.life → TakenOf ts a.life → StandFor (sessions_left xs) (fall c a).life
remaining xs k ts a c up f o taken =
    subst (λ (m : Member). StandFor (sessions_left xs) m.life) (sym (fallen xs k ts a c up f o taken))
    (λ t. subst (λ q. Follows q (tell (answers_left ts xs) (push (Is Error c) a)).life t) (same_list ts xs t up)
    (told (answers_left ts xs) (map left xs) (push (Is Error c) a) (at_error xs a.life c f) t))
