-- A member takes ERROR: who is answered what, and which transactions wait for their next call.
use Rattle.std.proofs.Common.{◌≡◌, ◌≤◌, ◌<◌, ℕ, Bool, true, false, ◌&&◌, ◌||◌, Option, Some, None, List, [], ◌∷◌, ◌++◌, refl, sym, ap, ◌∙◌, arith}
use Rattle.std.specs.Prelude.{◌==◌, is_some, nat_lt}
use Rattle.std.specs.Option.{option_map}
use Rattle.std.proofs.lemmas.Bool.{and_parts, eqb-true, eqb-false, eq-eqb, ne_eqb, lt-ltb, ltb-true, ltb-false, true≢false}
use Rattle.gr_ids.specs.declared.levels.MemberState.TheVariants.{Error}
use Rattle.gr_ids.specs.declared.names.Gtid.{Gtid}
use Rattle.gr_ids.specs.declared.names.ValueId.{ValueId}
use Rattle.group_rules.specs.declared.answers.Answer.{Answer}
use Rattle.group_rules.specs.declared.answers.Answer.TheVariants.{MemberLeft, NotAcknowledged}
use Rattle.group_rules.specs.declared.marks.Cause.{Cause}
use Rattle.group_rules.specs.Events.{AskFails, AsksCommit, Answered as AnsweredIn, Begun, Called, Came, Cert, Changed, Committed, Done, Ends, Enters, Founds, Gave, Is, Life, Made, Replied, Restores, Skips, Starts, Took}
use Rattle.group_rules.specs.Member.{Member, fall, for_each, last_answer, leave_session, push, unanswered as unanswered_in, waiting_as}
use Rattle.group_rules.specs.Queue.{pending}
use Rattle.group_rules.specs.Sessions.{Phase, Free as IsFree, Holding as IsHolding, Active as IsActive, Asking as IsAsking, is_active, phase, sessions, with_session as with_number}
use Rattle.group_rules.specs.Keys.{killed}
use Rattle.row_locks.specs.Locking.{Locked}
use Rattle.local_sessions.specs.declared.told.TakenOwn.{TakenOwn}
use Rattle.local_sessions.specs.Standing.{Session, Stage, ascend, is_of, session_in, stage_of}
use Rattle.local_sessions.specs.Others.{answer_at, answer_list, answers_left, has_session, taken_as, unanswered}
use Rattle.local_sessions.specs.Following.{LocksOf, StandFor, is_free, is_left, stage_in}
use Rattle.local_sessions.specs.Acting.{tell, TakenOf}
use Rattle.local_sessions.proofs.KeyHolders.{active_phase, left_is_active}
use Rattle.local_sessions.proofs.Order.{parts, tops}

-- the answer of a session, by where its transaction stands
abbrev pub answer_opt : List TakenOwn → Option Stage → Option Answer
answer_opt ts None = None
answer_opt ts (Some g) = answer_at ts g

-- the answer of a session, by the rules
abbrev answer_by : List TakenOwn → Phase → Option Answer
answer_by ts IsFree = None
answer_by ts IsHolding = Some MemberLeft
answer_by ts IsActive = None
answer_by ts (IsAsking i) = Some (unanswered i (taken_as ts i))

abbrev tell_one : Option Answer → ℕ → Member → Member
tell_one None s a = a
tell_one (Some x) s a = last_answer s x a

-- ---- one session

leave_is : (ts : List TakenOwn) (s : ℕ) (a : Member) → TakenOf ts a.life → leave_session s a ≡ tell_one (answer_by ts (phase a.life s)) s a
leave_is ts s a t = go (phase a.life s) refl
  where
    last : (i : ValueId) (o : Option TakenOwn) (c : Option Cert) → option_map (λ (w : TakenOwn). w.gtid) o ≡ option_map (λ (d : Cert). d.gtid) c → unanswered_in i c ≡ unanswered i o
    last i None None e = refl
    last i (Some w) (Some d) e = ap NotAcknowledged (let z : w.gtid ≡ d.gtid = cc in sym z)
    last i None (Some d) e = absurd cc
    last i (Some w) None e = absurd cc

    go : (p : Phase) → phase a.life s ≡ p → leave_session s a ≡ tell_one (answer_by ts (phase a.life s)) s a
    go IsFree e = rw (leave_session, e) refl
    go IsHolding e = rw (leave_session, e) refl
    go IsActive e = rw (leave_session, e) refl
    go (IsAsking i) e = rw (leave_session, e) (ap (λ x. last_answer s x a) (last i (taken_as ts i) (waiting_as (pending a.life) i) (t i)))

-- ---- all sessions of a list, each by what it was

-- what each of these sessions is told
abbrev tell_all : (ℕ → Option Answer) → List ℕ → Member → Member
tell_all f [] a = a
tell_all f (s ∷ ss) a = tell_all f ss (tell_one (f s) s a)

-- no number comes twice, and each is above those before
abbrev rises : List ℕ → Bool
rises [] = true
rises (x ∷ []) = true
rises (x ∷ y ∷ ys) = nat_lt x y && rises (y ∷ ys)

abbrev lower : ℕ → List ℕ → Bool
lower x [] = true
lower x (y ∷ ys) = nat_lt x y

rise_parts : (x : ℕ) (ss : List ℕ) → rises (x ∷ ss) ≡ true → (lower x ss ≡ true) × (rises ss ≡ true)
rise_parts x [] h = (refl, refl)
rise_parts x (y ∷ ys) h = and_parts (nat_lt x y) (rises (y ∷ ys)) h

rise_put : (x : ℕ) (ss : List ℕ) → lower x ss ≡ true → rises ss ≡ true → rises (x ∷ ss) ≡ true
rise_put x [] h k = refl
rise_put x (y ∷ ys) h k = rw h k

lt_trans : (a b c : ℕ) → nat_lt a b ≡ true → nat_lt b c ≡ true → nat_lt a c ≡ true
lt_trans a b c u v = let x = ltb-true a b u in let y = ltb-true b c v in lt-ltb a c (omega (arith, x, y))

lower_trans : (a b : ℕ) (ss : List ℕ) → nat_lt a b ≡ true → lower b ss ≡ true → lower a ss ≡ true
lower_trans a b [] h k = refl
lower_trans a b (x ∷ xs) h k = lt_trans a b x h k

-- those behind are greater
rise_above : (t u : ℕ) (ss : List ℕ) → lower t ss ≡ true → rises ss ≡ true → has_session ss u ≡ true → nat_lt t u ≡ true
rise_above t u [] h k m = absurd (true≢false (sym m))
rise_above t u (x ∷ xs) h k m = go (x == u) refl (rise_above t u xs (lower_trans t x xs h (rise_parts x xs k).0) (rise_parts x xs k).1)
  where
    go : (b : Bool) → (x == u) ≡ b → (has_session xs u ≡ true → nat_lt t u ≡ true) → nat_lt t u ≡ true
    go true e r = let same : x ≡ u = eqb-true x u e in ap (nat_lt t) (sym same) ∙ h
    go false e r = r (rw e at m)

less_apart : (a b : ℕ) → nat_lt a b ≡ true → (a == b) ≡ false
less_apart a b h = ne_eqb a b (λ e. let w = ltb-true a b h in omega (arith, w, e))

-- ---- the sessions of a history rise

with_rises : (ss : List ℕ) (s : ℕ) → rises ss ≡ true → rises (with_number ss s) ≡ true
with_rises [] s h = refl
with_rises (x ∷ xs) s h = go (nat_lt s x) (s == x) refl refl (with_rises xs s (rise_parts x xs h).1)
  where
    low : (y : ℕ) (ys : List ℕ) (n : ℕ) → lower y ys ≡ true → nat_lt y n ≡ true → lower y (with_number ys n) ≡ true
    low y [] n a b = b
    low y (z ∷ zs) n a b = test (nat_lt n z) (n == z) refl refl
      where
        test : (u v : Bool) → nat_lt n z ≡ u → (n == z) ≡ v → lower y (with_number (z ∷ zs) n) ≡ true
        test true v e f = rw (with_number, e) b
        test false true e f = rw (with_number, e, f) a
        test false false e f = rw (with_number, e, f) a

    go : (b e : Bool) → nat_lt s x ≡ b → (s == x) ≡ e → rises (with_number xs s) ≡ true → rises (with_number (x ∷ xs) s) ≡ true
    go true e f g r = rw (with_number, f) (rise_put s (x ∷ xs) f h)
    go false true f g r = rw (with_number, f, g) h
    go false false f g r =
        let up : nat_lt x s ≡ true = let a : x ≤ s = ltb-false s x f in lt-ltb x s (above x s a (eqb-false s x g)) in
        rw (with_number, f, g) (rise_put x (with_number xs s) (low x xs s (rise_parts x xs h).0 up) r)
      where
        above : (a b : ℕ) → a ≤ b → (b ≡ a → ⊥) → a < b
        above a b h n = test (nat_lt a b) refl
          where
            test : (u : Bool) → nat_lt a b ≡ u → a < b
            test true e = ltb-true a b e
            test false e = absurd (n (let w = ltb-false a b e in omega (arith, h, w)))

sessions_rise : (l : Life) → rises (sessions l) ≡ true
sessions_rise [] = refl
sessions_rise (Founds ∷ l) = sessions_rise l
sessions_rise ((Starts d) ∷ l) = sessions_rise l
sessions_rise ((Came e) ∷ l) = sessions_rise l
sessions_rise ((Made v b) ∷ l) = sessions_rise l
sessions_rise ((Took e) ∷ l) = sessions_rise l
sessions_rise ((Skips t v) ∷ l) = sessions_rise l
sessions_rise ((Done p) ∷ l) = sessions_rise l
sessions_rise ((Committed g) ∷ l) = sessions_rise l
sessions_rise ((Is x c) ∷ l) = sessions_rise l
sessions_rise ((Gave p n) ∷ l) = sessions_rise l
sessions_rise ((AnsweredIn t x) ∷ l) = sessions_rise l
sessions_rise ((Begun t e y) ∷ l) = sessions_rise l
sessions_rise ((Changed t c) ∷ l) = sessions_rise l
sessions_rise ((Replied r) ∷ l) = sessions_rise l
sessions_rise ((AsksCommit t i) ∷ l) = sessions_rise l
sessions_rise ((Ends t) ∷ l) = sessions_rise l
sessions_rise ((Enters w) ∷ l) = sessions_rise l
sessions_rise ((Restores g cs) ∷ l) = sessions_rise l
sessions_rise (AskFails ∷ l) = sessions_rise l
sessions_rise (Called t v w ∷ l) = with_rises (sessions l) t (sessions_rise l)

-- ---- the rules answer one after another

each_left : (ts : List TakenOwn) (ss : List ℕ) (b : Member) (l : Life) → rises ss ≡ true → ((u : ℕ) → has_session ss u ≡ true → phase b.life u ≡ phase l u) → TakenOf ts b.life
    → for_each leave_session ss b ≡ tell_all (λ t. answer_by ts (phase l t)) ss b
each_left ts [] b l r h t = refl
each_left ts (s ∷ ss) b l r h t =
    ap (for_each leave_session ss) (leave_is ts s b t ∙ ap (λ p. tell_one (answer_by ts p) s b) (h s (rw (eq-eqb s s refl) refl)))
    ∙ go (answer_by ts (phase l s)) (λ m g w. each_left ts ss m l (rise_parts s ss r).1 g w)
  where
    later : (u : ℕ) → has_session ss u ≡ true → phase b.life u ≡ phase l u
    later u m = h u (also (s == u) (has_session ss u) m)
      where
        also : (p q : Bool) → q ≡ true → (p || q) ≡ true
        also true q n = refl
        also false q n = n

    apart : (u : ℕ) → has_session ss u ≡ true → (s == u) ≡ false
    apart u m = less_apart s u (rise_above s u ss (rise_parts s ss r).0 (rise_parts s ss r).1 m)

    go : (o : Option Answer)
        → ((m : Member) → ((u : ℕ) → has_session ss u ≡ true → phase m.life u ≡ phase l u) → TakenOf ts m.life → for_each leave_session ss m ≡ tell_all (λ t. answer_by ts (phase l t)) ss m)
        → for_each leave_session ss (tell_one o s b) ≡ tell_all (λ t. answer_by ts (phase l t)) ss (tell_one o s b)
    go None q = q b later t
    go (Some x) q = q (last_answer s x b) (λ u m. rw (phase, apart u m) (later u m)) t

-- ---- the two lists of sessions

tops_lower : (s t : ℕ) (xs : List Session) → nat_lt s t ≡ true → tops t xs ≡ true → tops s xs ≡ true
tops_lower s t [] h k = refl
tops_lower s t (x ∷ xs) h k = lt_trans s t x.session h k

pub none_below : (t : ℕ) (xs : List Session) → tops t xs ≡ true → ascend xs ≡ true → session_in xs t ≡ None
none_below t [] h k = refl
none_below t (x ∷ xs) h k =
    let other : is_of t x ≡ false = ne_eqb x.session t (λ e. let w = ltb-true t x.session h in omega (arith, w, e)) in
    rw other (none_below t xs (tops_lower t x.session xs h (parts x xs k).0) (parts x xs k).1)

-- the sessions of the list are among these
abbrev Among : List Session → List ℕ → Type 0
Among xs ss = (u : ℕ) → is_some (session_in xs u) ≡ true → has_session ss u ≡ true

tell_same : (f g : ℕ → Option Answer) (ss : List ℕ) (b : Member) → ((u : ℕ) → has_session ss u ≡ true → f u ≡ g u) → tell_all f ss b ≡ tell_all g ss b
tell_same f g [] b h = refl
tell_same f g (s ∷ ss) b h =
    ap (λ o. tell_all f ss (tell_one o s b)) (h s (rw (eq-eqb s s refl) refl))
    ∙ tell_same f g ss (tell_one (g s) s b) (λ u m. h u (also (s == u) (has_session ss u) m))
  where
    also : (p q : Bool) → q ≡ true → (p || q) ≡ true
    also true q n = refl
    also false q n = n

merged : (ts : List TakenOwn) (ss : List ℕ) (xs : List Session) (b : Member) → rises ss ≡ true → ascend xs ≡ true → Among xs ss
    → tell_all (λ u. answer_opt ts (stage_of (session_in xs u))) ss b ≡ tell (answers_left ts xs) b
merged ts [] [] b r k m = refl
merged ts [] (y ∷ ys) b r k m = absurd (true≢false (sym (m y.session (rw (eq-eqb y.session y.session refl) refl))))
merged ts (t ∷ ss) [] b r k m = merged ts ss [] b (rise_parts t ss r).1 k (λ u e. absurd (true≢false (sym e)))
merged ts (t ∷ ss) (y ∷ ys) b r k m = go (is_of t y) refl (λ zs d l n. merged ts ss zs d (rise_parts t ss r).1 l n)
  where
    rising : (lower t ss ≡ true) × (rises ss ≡ true)
    rising = rise_parts t ss r

    Later : Type 0
    Later = (zs : List Session) (d : Member) → ascend zs ≡ true → Among zs ss → tell_all (λ u. answer_opt ts (stage_of (session_in zs u))) ss d ≡ tell (answers_left ts zs) d

    go : (e : Bool) → is_of t y ≡ e → Later → tell_all (λ u. answer_opt ts (stage_of (session_in (y ∷ ys) u))) (t ∷ ss) b ≡ tell (answers_left ts (y ∷ ys)) b
    go true e q =
        let same : y.session ≡ t = eqb-true y.session t e in
        let mine : answer_opt ts (stage_of (session_in (y ∷ ys) t)) ≡ answer_at ts y.stage = rw e refl in
        ap (λ o. tell_all (λ u. answer_opt ts (stage_of (session_in (y ∷ ys) u))) ss (tell_one o t b)) mine ∙ first (answer_at ts y.stage) same q
      where
        away : y.session ≡ t → (u : ℕ) → has_session ss u ≡ true → is_of u y ≡ false
        away s u n = ap (λ v. v == u) s ∙ less_apart t u (rise_above t u ss rising.0 rising.1 n)

        rest : y.session ≡ t → Among ys ss
        rest s u n =
            let up : is_of u y ≡ false = apart u n in
            let there : has_session (t ∷ ss) u ≡ true = m u (rw up n) in
            let other : (t == u) ≡ false = ap (λ v. v == u) (sym s) ∙ up in
            rw other at there
          where
            apart : (u : ℕ) → is_some (session_in ys u) ≡ true → is_of u y ≡ false
            apart u n = test (is_of u y) refl
              where
                test : (b : Bool) → is_of u y ≡ b → is_of u y ≡ false
                test false f = f
                test true f = absurd (true≢false (sym n ∙ ap is_some (none_below u ys (ap (λ v. tops v ys) (sym (eqb-true y.session u f)) ∙ (parts y ys k).0) (parts y ys k).1)))

        first : (o : Option Answer) → y.session ≡ t → Later → tell_all (λ u. answer_opt ts (stage_of (session_in (y ∷ ys) u))) ss (tell_one o t b) ≡ tell (answer_list y o ++ answers_left ts ys) b
        first o s q =
            tell_same (λ u. answer_opt ts (stage_of (session_in (y ∷ ys) u))) (λ u. answer_opt ts (stage_of (session_in ys u))) ss (tell_one o t b) (λ u n. rw (away s u n) refl)
            ∙ (q ys (tell_one o t b) (parts y ys k).1 (rest s) ∙ told o s)
          where
            told : (o : Option Answer) → y.session ≡ t → tell (answers_left ts ys) (tell_one o t b) ≡ tell (answer_list y o ++ answers_left ts ys) b
            told None s = refl
            told (Some x) s = ap (λ v. tell (answers_left ts ys) (last_answer v x b)) (sym s)
    go false e q =
        let later : has_session ss y.session ≡ true = behind e in
        let up : nat_lt t y.session ≡ true = rise_above t y.session ss rising.0 rising.1 later in
        let none : session_in (y ∷ ys) t ≡ None = none_below t (y ∷ ys) up k in
        ap (λ q. tell_all (λ u. answer_opt ts (stage_of (session_in (y ∷ ys) u))) ss (tell_one (answer_opt ts (stage_of q)) t b)) none
        ∙ q (y ∷ ys) b k (λ u n. among u n none)
      where
        turned : is_of t y ≡ false → (t == y.session) ≡ false
        turned e = ne_eqb t y.session (λ g. eqb-false y.session t e (sym g))

        behind : is_of t y ≡ false → has_session ss y.session ≡ true
        behind e = let there : has_session (t ∷ ss) y.session ≡ true = m y.session (rw (eq-eqb y.session y.session refl) refl) in rw (turned e) at there

        among : (u : ℕ) → is_some (session_in (y ∷ ys) u) ≡ true → session_in (y ∷ ys) t ≡ None → has_session ss u ≡ true
        among u n z = test (t == u) refl
          where
            test : (b : Bool) → (t == u) ≡ b → has_session ss u ≡ true
            test true f = absurd (true≢false (sym n ∙ (ap (λ v. is_some (session_in (y ∷ ys) v)) (sym (eqb-true t u f)) ∙ ap is_some z)))
            test false f = let there : has_session (t ∷ ss) u ≡ true = m u n in rw f at there

-- ---- ERROR

module _ (xs : List Session) (k : Locked) (ts : List TakenOwn) (a : Member) (c : Cause) (up : ascend xs ≡ true) (f : StandFor xs a.life) (o : LocksOf k a.life) (taken : TakenOf ts a.life) where
  same_answer : (t : ℕ) → answer_by ts (phase a.life t) ≡ answer_opt ts (stage_of (session_in xs t))
  same_answer t = sym (ap (answer_opt ts) (f t).stage ∙ go (killed a.life t) (is_left a.life t) (phase a.life t) refl refl refl)
    where
      idle : is_active (phase a.life t) ≡ true → answer_by ts (phase a.life t) ≡ None
      idle h = rw (active_phase (phase a.life t) h) refl

      go : (z : Option Gtid) (w : Bool) (p : Phase) → killed a.life t ≡ z → is_left a.life t ≡ w → phase a.life t ≡ p → answer_opt ts (stage_in a.life t) ≡ answer_by ts (phase a.life t)
      go (Some g) w p d e h = let dead : is_some (killed a.life t) ≡ true = rw d refl in rw (stage_in, d) (sym (idle (o.dead t dead)))
      go None true p d e h = rw (stage_in, d, e) (sym (idle (left_is_active a.life t e)))
      go None false IsFree d e h = rw (stage_in, d, e, h) refl
      go None false IsHolding d e h = rw (stage_in, d, e, h) refl
      go None false IsActive d e h = rw (stage_in, d, e, h) refl
      go None false (IsAsking j) d e h = rw (stage_in, d, e, h) refl

  among : Among xs (sessions a.life)
  among u n = o.called u (go (phase a.life u) refl (session_in xs u) refl)
    where
      go : (p : Phase) → phase a.life u ≡ p → (q : Option Session) → session_in xs u ≡ q → is_free (phase a.life u) ≡ false
      go IsFree e None g = absurd (true≢false (sym (ap is_some (sym g) ∙ n)))
      go IsFree e (Some x) g = absurd (standing (killed a.life u) (is_left a.life u) refl refl)
        where
          standing : (z : Option Gtid) (w : Bool) → killed a.life u ≡ z → is_left a.life u ≡ w → ⊥
          standing (Some d) w r s = true≢false (sym (o.dead u (ap is_some r)) ∙ ap is_active e)
          standing None true r s = true≢false (sym (left_is_active a.life u s) ∙ ap is_active e)
          standing None false r s = let z : Some x.stage ≡ None = ap stage_of (sym g) ∙ ((f u).stage ∙ (rw (stage_in, r, s, e) refl)) in cc
      go IsHolding e q g = rw e refl
      go IsActive e q g = rw e refl
      go (IsAsking i) e q g = rw e refl

  pub fallen : fall c a ≡ tell (answers_left ts xs) (push (Is Error c) a)
  fallen =
      each_left ts (sessions a.life) (push (Is Error c) a) a.life (sessions_rise a.life) (λ u m. refl) taken
      ∙ (tell_same (λ u. answer_by ts (phase a.life u)) (λ u. answer_opt ts (stage_of (session_in xs u))) (sessions a.life) (push (Is Error c) a) (λ u m. same_answer u)
      ∙ merged ts (sessions a.life) xs (push (Is Error c) a) (sessions_rise a.life) up among)
