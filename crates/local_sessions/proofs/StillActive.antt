-- The transactions that were left are active: each thing that happens keeps that, and once all that a fall ends are answered it holds again.
use Rattle.std.proofs.Common.{◌≡◌, ℕ, true, false, Option, List, [], ◌∷◌, refl, sym, ◌∙◌}
use Rattle.std.proofs.lemmas.Bool.{eq-eqb, true≢false}
use Rattle.gr_ids.specs.declared.levels.Level.{Level}
use Rattle.gr_ids.specs.declared.levels.MemberState.TheVariants.{Error, Offline, Online, Recovering}
use Rattle.gr_ids.specs.declared.names.ValueId.{ValueId}
use Rattle.gtid_sets.specs.Sets.{Gtids}
use Rattle.group_rules.specs.declared.answers.Answer.{Answer}
use Rattle.group_rules.specs.declared.answers.Answer.TheVariants.{MemberLeft}
use Rattle.group_rules.specs.declared.marks.Cause.{Cause}
use Rattle.group_rules.specs.Events.{AskFails, AsksCommit, Answered, Begun, Called, Came, Changed, Committed, Did, Done, Ends, Enters, Founds, Gave, Is, Life, Made, Replied, Restores, Skips, Starts, Took}
use Rattle.group_rules.specs.Queue.{pending}
use Rattle.group_rules.specs.Sessions.{Phase, Free as IsFree, Holding as IsHolding, Active as IsActive, Asking as IsAsking, is_active, is_begun, phase, sessions}
use Rattle.group_rules.specs.Keys.{was_left}
use Rattle.group_rules.specs.Member.{Member, fall, for_each, last_answer, leave_session, push, unanswered, waiting_as}
use Rattle.row_locks.specs.Locking.{Locked}
use Rattle.local_sessions.specs.Others.{has_session}
use Rattle.local_sessions.specs.Following.{LeftActive, LocksOf, is_free, touches}
use Rattle.local_sessions.proofs.KeyHolders.{split}

-- ---- one thing more

pub none : LeftActive []
none s h = absurd (true≢false (sym h))

pub passed : (l : Life) (d : Did) → touches d ≡ false → LeftActive l → LeftActive (d ∷ l)
passed l Founds h a = a
passed l (Starts d) h a = a
passed l (Came e) h a = a
passed l (Made v b) h a = a
passed l (Took e) h a = a
passed l (Skips t v) h a = a
passed l (Done p) h a = absurd (true≢false h)
passed l (Committed g) h a = a
passed l (Is Offline c) h a = a
passed l (Is Recovering c) h a = a
passed l (Is Online c) h a = a
passed l (Is Error c) h a = absurd (true≢false h)
passed l (Gave p n) h a = a
passed l (Answered t x) h a = a
passed l (Begun t e y) h a = absurd (true≢false h)
passed l (Changed t c) h a = absurd (true≢false h)
passed l (Replied r) h a = a
passed l (Called t v w) h a = absurd (true≢false h)
passed l (AsksCommit t i) h a = absurd (true≢false h)
passed l (Ends t) h a = absurd (true≢false h)
passed l (Enters w) h a = a
passed l (Restores g cs) h a = a
passed l AskFails h a = a

pub called : (l : Life) (s : ℕ) (v : Level) (w : ℕ) → LeftActive l → LeftActive (Called s v w ∷ l)
called l s v w a t = split s t (λ u. was_left (Called s v w ∷ l) u ≡ true → is_active (phase (Called s v w ∷ l) u) ≡ true) (λ z. absurd (true≢false (sym z ∙ rw (was_left, eq-eqb s s refl) refl))) (λ m z. rw (phase, m) (a t (rw (was_left, m) at z)))

pub begun : (l : Life) (s : ℕ) (e : Gtids) (y : Option ℕ) → LeftActive l → LeftActive (Begun s e y ∷ l)
begun l s e y a t = split s t (λ u. was_left l u ≡ true → is_active (phase (Begun s e y ∷ l) u) ≡ true) (λ z. rw (phase, eq-eqb s s refl) refl) (λ m z. rw (phase, m) (a t z))

pub asked : (l : Life) (s : ℕ) (i : ValueId) → LeftActive l → was_left l s ≡ false → LeftActive (AsksCommit s i ∷ l)
asked l s i a n t = split s t (λ u. was_left l u ≡ true → is_active (phase (AsksCommit s i ∷ l) u) ≡ true) (λ z. absurd (true≢false (sym z ∙ n))) (λ m z. rw (phase, m) (a t z))

pub ended : (l : Life) (s : ℕ) → LeftActive l → LeftActive (Ends s ∷ l)
ended l s a t = split s t (λ u. was_left (Ends s ∷ l) u ≡ true → is_active (phase (Ends s ∷ l) u) ≡ true) (λ z. absurd (true≢false (sym z ∙ rw (was_left, eq-eqb s s refl) refl))) (λ m z. rw (phase, m) (a t (rw (was_left, m) at z)))

-- ---- a fall

-- those that were left have begun, and are active but for these, which are to be answered
record Settling (ss : List ℕ) (l : Life) : Type 0 where
  begun : (t : ℕ) → was_left l t ≡ true → is_begun (phase l t) ≡ true
  active : (t : ℕ) → was_left l t ≡ true → has_session ss t ≡ false → is_active (phase l t) ≡ true

skips : (ss : List ℕ) (s : ℕ) (l : Life) → Settling (s ∷ ss) l → (is_begun (phase l s) ≡ true → is_active (phase l s) ≡ true) → Settling ss l
skips ss s l o a = record {
  begun = o.begun;
  active = λ t. split s t (λ u. was_left l u ≡ true → has_session ss u ≡ false → is_active (phase l u) ≡ true) (λ h n. a (o.begun s h)) (λ m h n. o.active t h (rw m n));
}

ends : (ss : List ℕ) (s : ℕ) (x : Answer) (l : Life) → Settling (s ∷ ss) l → Settling ss (Ends s ∷ Answered s x ∷ l)
ends ss s x l o = record {
  begun = λ t. split s t (λ u. was_left (Ends s ∷ Answered s x ∷ l) u ≡ true → is_begun (phase (Ends s ∷ Answered s x ∷ l) u) ≡ true) (λ h. absurd (gone h)) (λ m h. rw (phase, m) (o.begun t (rw (was_left, m) at h)));
  active = λ t. split s t (λ u. was_left (Ends s ∷ Answered s x ∷ l) u ≡ true → has_session ss u ≡ false → is_active (phase (Ends s ∷ Answered s x ∷ l) u) ≡ true) (λ h n. absurd (gone h))
      (λ m h n. rw (phase, m) (o.active t (rw (was_left, m) at h) (rw m n)));
}
  where
    gone : was_left (Ends s ∷ Answered s x ∷ l) s ≡ true → ⊥
    gone h = true≢false (sym h ∙ rw (was_left, eq-eqb s s refl) refl)

settled : (ss : List ℕ) (b : Member) → Settling ss b.life → LeftActive (for_each leave_session ss b).life
settled [] b o = λ t h. o.active t h refl
settled (s ∷ ss) b o = go (phase b.life s) refl (λ m. settled ss m)
  where
    go : (p : Phase) → phase b.life s ≡ p → ((m : Member) → Settling ss m.life → LeftActive (for_each leave_session ss m).life) → LeftActive (for_each leave_session ss (leave_session s b)).life
    go IsFree e r = rw (leave_session, e) (r b (skips ss s b.life o (λ h. absurd (true≢false (sym h ∙ rw e refl)))))
    go IsHolding e r = rw (leave_session, e) (r (last_answer s MemberLeft b) (ends ss s MemberLeft b.life o))
    go IsActive e r = rw (leave_session, e) (r b (skips ss s b.life o (λ h. rw e refl)))
    go (IsAsking i) e r = let x = unanswered i (waiting_as (pending b.life) i) in rw (leave_session, e) (r (last_answer s x b) (ends ss s x b.life o))

taken : (p : Phase) → is_begun p ≡ true → is_free p ≡ false
taken IsFree h = absurd (true≢false (sym h))
taken IsHolding h = refl
taken IsActive h = refl
taken (IsAsking i) h = refl

pub fallen : (k : Locked) (a : Member) (c : Cause) → LocksOf k a.life → LeftActive (fall c a).life
fallen k a c o = settled (sessions a.life) (push (Is Error c) a)
    (record { begun = λ t h. h; active = λ t h n. absurd (true≢false (sym (o.called t (taken (phase a.life t) h)) ∙ n)) })
