-- A value is decided: the one session that waits for it is answered.
use Rattle.std.proofs.Common.{◌≡◌, ℕ, Bool, true, false, Option, Some, None, List, [], ◌∷◌, refl, sym, ap, ◌∙◌, arith}
use Rattle.std.specs.Prelude.{◌==◌, is_some, nat_lt, if◌then◌else◌}
use Rattle.std.specs.List.{find}
use Rattle.std.proofs.lemmas.Bool.{eqb-true, eqb-false, eq-eqb, ne_eqb, lt-ltb, ltb-true, true≢false}
use Rattle.gr_ids.specs.Names.{id_eq}
use Rattle.gr_ids.specs.declared.names.Gtid.{Gtid}
use Rattle.gr_ids.specs.declared.names.ValueId.{ValueId}
use Rattle.group_rules.specs.declared.answers.Answer.{Answer}
use Rattle.group_rules.specs.declared.answers.Answer.TheVariants.{Committed as CommittedAs, Conflict as ConflictWith}
use Rattle.group_rules.specs.Events.{Cert}
use Rattle.group_rules.specs.Member.{Member, for_each, last_answer}
use Rattle.group_rules.specs.Points.{answer_commit}
use Rattle.group_rules.specs.Taking.{answer_conflict}
use Rattle.group_rules.specs.Sessions.{Phase, Free as IsFree, Holding as IsHolding, Active as IsActive, Asking as IsAsking, is_active, phase, sessions}
use Rattle.group_rules.specs.Keys.{killed}
use Rattle.row_locks.specs.Locking.{Locked}
use Rattle.local_sessions.specs.Standing.{Session, Stage, ascend, is_of, session_in, stage_of}
use Rattle.local_sessions.specs.Others.{asking, asks_at, asks_for, has_session}
use Rattle.local_sessions.specs.Following.{LocksOf, StandFor, asks_as, is_free, is_left, stage_in}
use Rattle.local_sessions.specs.Acting.{told_to}
use Rattle.local_sessions.proofs.KeyHolders.{left_is_active}
use Rattle.local_sessions.proofs.Order.{parts, tops}

-- ---- one answer at most

-- each session that asks for the value gets the answer
abbrev answer_asking : ValueId → Answer → ℕ → Member → Member
answer_asking i x s a = if asks_as i (phase a.life s) then last_answer s x a else a

nobody : (i : ValueId) (x : Answer) (ts : List ℕ) (a : Member) → ((t : ℕ) → asks_as i (phase a.life t) ≡ false) → for_each (answer_asking i x) ts a ≡ a
nobody i x [] a h = refl
nobody i x (t ∷ ts) a h = rw (h t) (nobody i x ts a h)

somebody : (i : ValueId) (x : Answer) (ts : List ℕ) (a : Member) (s : ℕ) → asks_as i (phase a.life s) ≡ true → ((t : ℕ) → asks_as i (phase a.life t) ≡ true → t ≡ s) → has_session ts s ≡ true
    → for_each (answer_asking i x) ts a ≡ last_answer s x a
somebody i x [] a s e u h = absurd (true≢false (sym h))
somebody i x (t ∷ ts) a s e u h = go (asks_as i (phase a.life t)) refl (somebody i x ts a s e u)
  where
    go : (b : Bool) → asks_as i (phase a.life t) ≡ b → (has_session ts s ≡ true → for_each (answer_asking i x) ts a ≡ last_answer s x a) → for_each (answer_asking i x) (t ∷ ts) a ≡ last_answer s x a
    go true f r =
        let same : t ≡ s = u t f in
        rw f (nobody i x ts (last_answer t x a) after ∙ ap (λ v. last_answer v x a) same)
      where
        after : (v : ℕ) → asks_as i (phase (last_answer t x a).life v) ≡ false
        after v = test (t == v) refl (asks_as i (phase a.life v)) refl
          where
            test : (b : Bool) → (t == v) ≡ b → (d : Bool) → asks_as i (phase a.life v) ≡ d → asks_as i (phase (last_answer t x a).life v) ≡ false
            test true g d k = rw (phase, g) refl
            test false g false k = rw (phase, g) k
            test false g true k = absurd (eqb-false t v g (u t f ∙ sym (u v k)))
    go false f r =
        let apart : (t == s) ≡ false = ne_eqb t s (λ g. true≢false (sym e ∙ (ap (λ v. asks_as i (phase a.life v)) (sym g) ∙ f))) in
        let later : has_session ts s ≡ true = rw apart at h in
        rw f (r later)

-- ---- the one that is found

found_passes : (p : Session → Bool) (xs : List Session) (x : Session) → find p xs ≡ Some x → p x ≡ true
found_passes p [] x e = absurd cc
found_passes p (y ∷ ys) x e = go (p y) refl (found_passes p ys x)
  where
    go : (b : Bool) → p y ≡ b → (find p ys ≡ Some x → p x ≡ true) → p x ≡ true
    go true f r = let z : Some y ≡ Some x = rw f at e in let same : y ≡ x = cc in ap p (sym same) ∙ f
    go false f r = r (rw f at e)

found_none : (p q : Session → Bool) (xs : List Session) (x : Session) → find p xs ≡ None → find q xs ≡ Some x → p x ≡ false
found_none p q [] x n e = absurd cc
found_none p q (y ∷ ys) x n e = go (p y) (q y) refl refl (found_none p q ys x)
  where
    go : (b d : Bool) → p y ≡ b → q y ≡ d → (find p ys ≡ None → find q ys ≡ Some x → p x ≡ false) → p x ≡ false
    go true d f g r = absurd (let z : Some y ≡ None = rw f at n in cc)
    go false true f g r = let z : Some y ≡ Some x = rw g at e in let same : y ≡ x = cc in ap p (sym same) ∙ f
    go false false f g r = r (rw f at n) (rw g at e)

above : (p : Session → Bool) (s : ℕ) (xs : List Session) (x : Session) → tops s xs ≡ true → ascend xs ≡ true → find p xs ≡ Some x → nat_lt s x.session ≡ true
above p s [] x h k e = absurd cc
above p s (y ∷ ys) x h k e = go (p y) refl (above p y.session ys x (parts y ys k).0 (parts y ys k).1)
  where
    trans : (a b c : ℕ) → nat_lt a b ≡ true → nat_lt b c ≡ true → nat_lt a c ≡ true
    trans a b c u v = lt-ltb a c (omega (arith, ltb-true a b u, ltb-true b c v))

    go : (b : Bool) → p y ≡ b → (find p ys ≡ Some x → nat_lt y.session x.session ≡ true) → nat_lt s x.session ≡ true
    go true f r = let z : Some y ≡ Some x = rw f at e in let same : y ≡ x = cc in ap (λ (z : Session). nat_lt s z.session) (sym same) ∙ h
    go false f r = trans s y.session x.session h (r (rw f at e))

-- the sessions ascend, so the one that is found is the only one of its number
found_again : (p : Session → Bool) (xs : List Session) (x : Session) → ascend xs ≡ true → find p xs ≡ Some x → session_in xs x.session ≡ Some x
found_again p [] x k e = absurd cc
found_again p (y ∷ ys) x k e = go (p y) refl (found_again p ys x (parts y ys k).1)
  where
    go : (b : Bool) → p y ≡ b → (find p ys ≡ Some x → session_in ys x.session ≡ Some x) → session_in (y ∷ ys) x.session ≡ Some x
    go true f r =
        let z : Some y ≡ Some x = rw f at e in
        let same : y ≡ x = cc in
        let me : is_of x.session y ≡ true = eq-eqb y.session x.session (ap (λ (z : Session). z.session) same) in
        rw me z
    go false f r =
        let there : find p ys ≡ Some x = rw f at e in
        let more = above p y.session ys x (parts y ys k).0 (parts y ys k).1 there in
        let other : is_of x.session y ≡ false = ne_eqb y.session x.session (λ g. let w = ltb-true y.session x.session more in omega (arith, w, g)) in
        rw other (r there)

-- ---- who waits for the value

abbrev asks_opt : ValueId → Option Stage → Bool
asks_opt i None = false
asks_opt i (Some g) = asks_at i g

module _ (xs : List Session) (k : Locked) (a : Member) (i : ValueId) (x : Answer) (up : ascend xs ≡ true) (f : StandFor xs a.life) (o : LocksOf k a.life)
    (only : (s t : ℕ) → asks_as i (phase a.life s) ≡ true → asks_as i (phase a.life t) ≡ true → t ≡ s) where
  asks_same : (t : ℕ) → asks_opt i (stage_of (session_in xs t)) ≡ asks_as i (phase a.life t)
  asks_same t = ap (asks_opt i) (f t).stage ∙ go (killed a.life t) (is_left a.life t) (phase a.life t) refl refl refl
    where
      idle : is_active (phase a.life t) ≡ true → asks_as i (phase a.life t) ≡ false
      idle h = test (phase a.life t) refl
        where
          test : (p : Phase) → phase a.life t ≡ p → asks_as i (phase a.life t) ≡ false
          test IsFree e = rw e refl
          test IsHolding e = rw e refl
          test IsActive e = rw e refl
          test (IsAsking j) e = absurd (let z : false ≡ true = rw e at h in true≢false (sym z))

      go : (z : Option Gtid) (w : Bool) (p : Phase) → killed a.life t ≡ z → is_left a.life t ≡ w → phase a.life t ≡ p → asks_opt i (stage_in a.life t) ≡ asks_as i (phase a.life t)
      go (Some g) w p d e h = let dead : is_some (killed a.life t) ≡ true = rw d refl in rw (stage_in, d) (sym (idle (o.dead t dead)))
      go None true p d e h = rw (stage_in, d, e) (sym (idle (left_is_active a.life t e)))
      go None false IsFree d e h = rw (stage_in, d, e, h) refl
      go None false IsHolding d e h = rw (stage_in, d, e, h) refl
      go None false IsActive d e h = rw (stage_in, d, e, h) refl
      go None false (IsAsking j) d e h = rw (stage_in, d, e, h) refl

  told : for_each (answer_asking i x) (sessions a.life) a ≡ told_to (asking xs i) x a
  told = go (asking xs i) refl
    where
      quiet : (t : ℕ) (q : Option Session) → asking xs i ≡ None → session_in xs t ≡ q → asks_opt i (stage_of q) ≡ false
      quiet t None n e = refl
      quiet t (Some y) n e = found_none (asks_for i) (is_of t) xs y n e

      busy : (s : ℕ) → asks_as i (phase a.life s) ≡ true → is_free (phase a.life s) ≡ false
      busy s h = test (phase a.life s) refl
        where
          test : (p : Phase) → phase a.life s ≡ p → is_free (phase a.life s) ≡ false
          test IsFree e = absurd (let z : false ≡ true = rw e at h in true≢false (sym z))
          test IsHolding e = rw e refl
          test IsActive e = rw e refl
          test (IsAsking j) e = rw e refl

      go : (q : Option Session) → asking xs i ≡ q → for_each (answer_asking i x) (sessions a.life) a ≡ told_to q x a
      go None n = nobody i x (sessions a.life) a (λ t. sym (asks_same t) ∙ quiet t (session_in xs t) n refl)
      go (Some y) n =
          let here : session_in xs y.session ≡ Some y = found_again (asks_for i) xs y up n in
          let asks : asks_as i (phase a.life y.session) ≡ true = sym (asks_same y.session) ∙ (ap (λ q. asks_opt i (stage_of q)) here ∙ found_passes (asks_for i) xs y n) in
          somebody i x (sessions a.life) a y.session asks (λ t h. only y.session t asks h) (o.called y.session (busy y.session asks))

-- ---- the answers of the rules

each_same : (g h : ℕ → Member → Member) (ts : List ℕ) (a : Member) → ((s : ℕ) (b : Member) → g s b ≡ h s b) → for_each g ts a ≡ for_each h ts a
each_same g h [] a e = refl
each_same g h (t ∷ ts) a e = ap (for_each g ts) (e t a) ∙ each_same g h ts (h t a) e

turn : (a b : ℕ) → (a == b) ≡ (b == a)
turn a b = go (a == b) refl
  where
    go : (t : Bool) → (a == b) ≡ t → (a == b) ≡ (b == a)
    go true e = e ∙ sym (eq-eqb b a (sym (eqb-true a b e)))
    go false e = e ∙ sym (ne_eqb b a (λ g. eqb-false a b e (sym g)))

turn_id : (i j : ValueId) → id_eq i j ≡ id_eq j i
turn_id i j = rw (turn i.origin.server j.origin.server, turn i.origin.start j.origin.start, turn i.number j.number) refl

chosen : {A : Type 0} (b : Bool) (p q : A) → (elim b as (λ z. A) [ true ↦ p | false ↦ q ]) ≡ (if b then p else q)
chosen true p q = refl
chosen false p q = refl

commit_is : (c : Cert) (s : ℕ) (a : Member) → answer_commit c s a ≡ answer_asking c.id (CommittedAs c.gtid) s a
commit_is c s a = go (phase a.life s) refl
  where
    go : (p : Phase) → phase a.life s ≡ p → answer_commit c s a ≡ answer_asking c.id (CommittedAs c.gtid) s a
    go IsFree e = rw (answer_commit, e) refl
    go IsHolding e = rw (answer_commit, e) refl
    go IsActive e = rw (answer_commit, e) refl
    go (IsAsking j) e = rw (answer_commit, e) (chosen (id_eq j c.id) (last_answer s (CommittedAs c.gtid) a) a)

conflict_is : (i : ValueId) (g : Gtid) (s : ℕ) (a : Member) → answer_conflict i g s a ≡ answer_asking i (ConflictWith g) s a
conflict_is i g s a = go (phase a.life s) refl
  where
    go : (p : Phase) → phase a.life s ≡ p → answer_conflict i g s a ≡ answer_asking i (ConflictWith g) s a
    go IsFree e = rw (answer_conflict, e) refl
    go IsHolding e = rw (answer_conflict, e) refl
    go IsActive e = rw (answer_conflict, e) refl
    go (IsAsking j) e = rw (answer_conflict, e) (chosen (id_eq i j) (last_answer s (ConflictWith g) a) a ∙ ap (λ b. if b then last_answer s (ConflictWith g) a else a) (turn_id i j))

pub committed : (xs : List Session) (k : Locked) (a : Member) (c : Cert) → ascend xs ≡ true → StandFor xs a.life → LocksOf k a.life
    → ((s t : ℕ) → asks_as c.id (phase a.life s) ≡ true → asks_as c.id (phase a.life t) ≡ true → t ≡ s)
    → for_each (answer_commit c) (sessions a.life) a ≡ told_to (asking xs c.id) (CommittedAs c.gtid) a
committed xs k a c up f o only = each_same (answer_commit c) (answer_asking c.id (CommittedAs c.gtid)) (sessions a.life) a (λ s b. commit_is c s b) ∙ told xs k a c.id (CommittedAs c.gtid) up f o only

pub conflicted : (xs : List Session) (k : Locked) (a : Member) (i : ValueId) (g : Gtid) → ascend xs ≡ true → StandFor xs a.life → LocksOf k a.life
    → ((s t : ℕ) → asks_as i (phase a.life s) ≡ true → asks_as i (phase a.life t) ≡ true → t ≡ s)
    → for_each (answer_conflict i g) (sessions a.life) a ≡ told_to (asking xs i) (ConflictWith g) a
conflicted xs k a i g up f o only = each_same (answer_conflict i g) (answer_asking i (ConflictWith g)) (sessions a.life) a (λ s b. conflict_is i g s b) ∙ told xs k a i (ConflictWith g) up f o only
