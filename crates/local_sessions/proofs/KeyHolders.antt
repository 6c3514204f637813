-- One thing more in the history, and who holds which key then.
use Rattle.std.proofs.Common.{◌≡◌, subst, ℕ, Bool, true, false, ◌&&◌, ◌||◌, not, Option, Some, None, List, [], ◌∷◌, refl, sym, ap, ◌∙◌}
use Rattle.std.specs.Prelude.{◌==◌, is_some, nat_lt}
use Rattle.std.proofs.lemmas.Bool.{and_parts, eqb-true, eq-eqb, true≢false}
use Rattle.gr_ids.specs.declared.levels.Level.{Level}
use Rattle.gr_ids.specs.declared.levels.MemberState.TheVariants.{Error, Offline, Online, Recovering}
use Rattle.gr_ids.specs.declared.names.ValueId.{ValueId}
use Rattle.gtid_sets.specs.Sets.{Gtids}
use Rattle.key_items.specs.declared.item.Item.{Item}
use Rattle.key_items.specs.declared.change.Change.{Change}
use Rattle.key_items.specs.Items.{item_eq}
use Rattle.key_items.proofs.Order.{item_eq_same}
use Rattle.group_rules.specs.declared.answers.Answer.{Answer}
use Rattle.group_rules.specs.declared.answers.Holder.TheVariants.{Session as BySession}
use Rattle.group_rules.specs.Events.{AskFails, AsksCommit, Answered, Begun, Called, Came, Changed, Committed, Did, Done, Ends, Enters, Founds, Gave, Is, Life, Made, Replied, Restores, Skips, Starts, Took}
use Rattle.group_rules.specs.Sessions.{Phase, Free as IsFree, Holding as IsHolding, Active as IsActive, Asking as IsAsking, is_active, is_asking, is_holding, phase, sessions, with_session as with_number}
use Rattle.group_rules.specs.Keys.{holds_key, keeps_key, killed, was_left}
use Rattle.row_locks.specs.Locking.{Locked, locked_by, other_session, session_at, without_session}
use Rattle.group_rules.specs.declared.marks.Cause.{Cause}
use Rattle.local_sessions.specs.Others.{has_session}
use Rattle.local_sessions.specs.Following.{LocksOf, is_free, is_holder, is_left, touches}

-- ---- no history

pub none : LocksOf (record { keys = []; places = [] }) []
none = record {
  keys = λ i s. refl;
  called = λ s h. absurd (true≢false h);
  dead = λ s h. absurd (true≢false (sym h));
  held = λ s i h. refl;
}

-- ---- what touches no transaction, and ERROR

pub passed : (k : Locked) (l : Life) (d : Did) → touches d ≡ false → LocksOf k l → LocksOf k (d ∷ l)
passed k l Founds h o = record { keys = o.keys; called = o.called; dead = o.dead; held = o.held }
passed k l (Starts d) h o = record { keys = o.keys; called = o.called; dead = o.dead; held = o.held }
passed k l (Came e) h o = record { keys = o.keys; called = o.called; dead = o.dead; held = o.held }
passed k l (Made v b) h o = record { keys = o.keys; called = o.called; dead = o.dead; held = o.held }
passed k l (Took e) h o = record { keys = o.keys; called = o.called; dead = o.dead; held = o.held }
passed k l (Skips t v) h o = record { keys = o.keys; called = o.called; dead = o.dead; held = o.held }
passed k l (Done p) h o = absurd (true≢false h)
passed k l (Committed g) h o = record { keys = o.keys; called = o.called; dead = o.dead; held = o.held }
passed k l (Is Offline c) h o = record { keys = o.keys; called = o.called; dead = o.dead; held = o.held }
passed k l (Is Recovering c) h o = record { keys = o.keys; called = o.called; dead = o.dead; held = o.held }
passed k l (Is Online c) h o = record { keys = o.keys; called = o.called; dead = o.dead; held = o.held }
passed k l (Is Error c) h o = absurd (true≢false h)
passed k l (Gave p n) h o = record { keys = o.keys; called = o.called; dead = o.dead; held = o.held }
passed k l (Answered t x) h o = record { keys = o.keys; called = o.called; dead = o.dead; held = o.held }
passed k l (Begun t e y) h o = absurd (true≢false h)
passed k l (Changed t c) h o = absurd (true≢false h)
passed k l (Replied r) h o = record { keys = o.keys; called = o.called; dead = o.dead; held = o.held }
passed k l (Called t v w) h o = absurd (true≢false h)
passed k l (AsksCommit t i) h o = absurd (true≢false h)
passed k l (Ends t) h o = absurd (true≢false h)
passed k l (Enters w) h o = record { keys = o.keys; called = o.called; dead = o.dead; held = o.held }
passed k l (Restores g cs) h o = record { keys = o.keys; called = o.called; dead = o.dead; held = o.held }
passed k l AskFails h o = record { keys = o.keys; called = o.called; dead = o.dead; held = o.held }

pub fallen : (k : Locked) (l : Life) (c : Cause) → LocksOf k l → LocksOf k (Is Error c ∷ l)
fallen k l c o = record { keys = o.keys; called = o.called; dead = o.dead; held = o.held }

-- ---- one session, by itself or another one

pub split : (s t : ℕ) (P : ℕ → Type 0) → P s → ((s == t) ≡ false → P t) → P t
split s t P p q = go (s == t) refl
  where
    go : (b : Bool) → (s == t) ≡ b → P t
    go true f = subst P (eqb-true s t f) p
    go false f = q f

and_false : (b : Bool) → (b && false) ≡ false
and_false true = refl
and_false false = refl

-- a session without a transaction, or whose begin is held, holds nothing
idle : (l : Life) (s : ℕ) (i : Item) → is_asking (phase l s) ≡ false → is_active (phase l s) ≡ false → holds_key l i s ≡ false
idle l s i a b = rw (holds_key, a, b) refl

pub left_is_active : (l : Life) (s : ℕ) → is_left l s ≡ true → is_active (phase l s) ≡ true
left_is_active l s h = (and_parts (was_left l s) (is_active (phase l s)) h).1

-- ---- begins

pub has_number : (ss : List ℕ) (s t : ℕ) → has_session (with_number ss s) t ≡ ((s == t) || has_session ss t)
has_number [] s t = refl
has_number (x ∷ xs) s t = go (nat_lt s x) (s == x) refl refl (has_number xs s t)
  where
    go : (b e : Bool) → nat_lt s x ≡ b → (s == x) ≡ e → has_session (with_number xs s) t ≡ ((s == t) || has_session xs t) → has_session (with_number (x ∷ xs) s) t ≡ ((s == t) || has_session (x ∷ xs) t)
    go true e f g r = rw (with_number, f) refl
    go false true f g r = let q : s ≡ x = eqb-true s x g in rw (with_number, f, g) (rw q (twice (x == t) (has_session xs t)))
      where
        twice : (a b : Bool) → (a || b) ≡ (a || (a || b))
        twice true b = refl
        twice false b = refl
    go false false f g r = rw (with_number, f, g) (ap (λ z. (x == t) || z) r ∙ turn (x == t) (s == t) (has_session xs t))
      where
        turn : (a b c : Bool) → (a || (b || c)) ≡ (b || (a || c))
        turn true true c = refl
        turn true false c = refl
        turn false true c = refl
        turn false false c = refl

free_phase : (p : Phase) → is_free p ≡ true → p ≡ IsFree
free_phase IsFree h = refl
free_phase IsHolding h = absurd (true≢false (sym h))
free_phase IsActive h = absurd (true≢false (sym h))
free_phase (IsAsking i) h = absurd (true≢false (sym h))

pub called : (k : Locked) (l : Life) (s : ℕ) (v : Level) (w : ℕ) → LocksOf k l → is_free (phase l s) ≡ true → LocksOf k (Called s v w ∷ l)
called k l s v w o h = record {
  keys = λ i t. split s t (λ u. is_holder (session_at k.keys i) u ≡ holds_key (Called s v w ∷ l) i u) (mine i) (λ m. o.keys i t ∙ sym (rw (holds_key, phase, killed, keeps_key, m) refl));
  called = λ t n. has_number (sessions l) s t ∙ split s t (λ u. is_free (phase (Called s v w ∷ l) u) ≡ false → ((s == u) || has_session (sessions l) u) ≡ true) (λ z. rw me refl) (λ m z. rw m (o.called t (rw (phase, m) at z))) n;
  dead = λ t. split s t (λ u. is_some (killed (Called s v w ∷ l) u) ≡ true → is_active (phase (Called s v w ∷ l) u) ≡ true) (λ z. absurd (true≢false (sym z ∙ rw (killed, me) refl))) (λ m z. rw (phase, m) (o.dead t (rw (killed, m) at z)));
  held = λ t i. split s t (λ u. is_holding (phase (Called s v w ∷ l) u) ≡ true → keeps_key (Called s v w ∷ l) u i ≡ false) (λ z. rw (keeps_key, me) refl) (λ m z. rw (keeps_key, m) (o.held t i (rw (phase, m) at z)));
}
  where
    me : (s == s) ≡ true
    me = eq-eqb s s refl

    none : phase l s ≡ IsFree
    none = free_phase (phase l s) h

    mine : (i : Item) → is_holder (session_at k.keys i) s ≡ holds_key (Called s v w ∷ l) i s
    mine i = o.keys i s ∙ (idle l s i (ap is_asking none) (ap is_active none) ∙ sym (idle (Called s v w ∷ l) s i (rw (phase, me) refl) (rw (phase, me) refl)))

held_phase : (p : Phase) → is_holding p ≡ true → p ≡ IsHolding
held_phase IsFree h = absurd (true≢false (sym h))
held_phase IsHolding h = refl
held_phase IsActive h = absurd (true≢false (sym h))
held_phase (IsAsking i) h = absurd (true≢false (sym h))

pub active_phase : (p : Phase) → is_active p ≡ true → p ≡ IsActive
active_phase IsFree h = absurd (true≢false (sym h))
active_phase IsHolding h = absurd (true≢false (sym h))
active_phase IsActive h = refl
active_phase (IsAsking i) h = absurd (true≢false (sym h))

pub begun : (k : Locked) (l : Life) (s : ℕ) (e : Gtids) (y : Option ℕ) → LocksOf k l → is_holding (phase l s) ≡ true → LocksOf k (Begun s e y ∷ l)
begun k l s e y o h = record {
  keys = λ i t. split s t (λ u. is_holder (session_at k.keys i) u ≡ holds_key (Begun s e y ∷ l) i u) (mine i) (λ m. o.keys i t ∙ sym (rw (holds_key, phase, m) refl));
  called = λ t. split s t (λ u. is_free (phase (Begun s e y ∷ l) u) ≡ false → has_session (sessions l) u ≡ true) (λ z. o.called s (ap is_free held)) (λ m z. o.called t (rw (phase, m) at z));
  dead = λ t. split s t (λ u. is_some (killed l u) ≡ true → is_active (phase (Begun s e y ∷ l) u) ≡ true) (λ z. rw (phase, me) refl) (λ m z. rw (phase, m) (o.dead t z));
  held = λ t i. split s t (λ u. is_holding (phase (Begun s e y ∷ l) u) ≡ true → keeps_key l u i ≡ false) (λ z. o.held s i h) (λ m z. o.held t i (rw (phase, m) at z));
}
  where
    me : (s == s) ≡ true
    me = eq-eqb s s refl

    held : phase l s ≡ IsHolding
    held = held_phase (phase l s) h

    mine : (i : Item) → is_holder (session_at k.keys i) s ≡ holds_key (Begun s e y ∷ l) i s
    mine i = o.keys i s ∙ (idle l s i (ap is_asking held) (ap is_active held) ∙ sym (rw (holds_key, phase, me, o.held s i h) (and_false (not (is_some (killed l s))))))

-- ---- changes

pub changed : (k now : Locked) (l : Life) (s : ℕ) (c : Change) → LocksOf k l → is_active (phase l s) ≡ true → killed l s ≡ None → other_session s (session_at k.keys c.item) ≡ None
    → ((j : Item) → session_at now.keys j ≡ locked_by s c.item (session_at k.keys) j) → LocksOf now (Changed s c ∷ l)
changed k now l s c o h a n e = record {
  keys = λ i t. ap (λ z. is_holder z t) (e i) ∙ go i t (item_eq c.item i) refl;
  called = o.called;
  dead = o.dead;
  held = λ t i. split s t (λ u. is_holding (phase l u) ≡ true → keeps_key (Changed s c ∷ l) u i ≡ false) (λ z. absurd (true≢false (sym (ap is_holding (sym active) ∙ z)))) (λ m z. rw (keeps_key, m) (o.held t i z));
}
  where
    me : (s == s) ≡ true
    me = eq-eqb s s refl

    active : phase l s ≡ IsActive
    active = active_phase (phase l s) h

    -- nobody else holds the key
    others : (z : Option ℕ) (t : ℕ) → other_session s z ≡ None → (s == t) ≡ false → is_holder z t ≡ false
    others None t n m = refl
    others (Some u) t n m = test (u == s) refl
      where
        test : (b : Bool) → (u == s) ≡ b → (u == t) ≡ false
        test true f = ap (λ x. x == t) (eqb-true u s f) ∙ m
        test false f = absurd (let z : Some (BySession u) ≡ None = rw (other_session, f) at n in cc)

    go : (i : Item) (t : ℕ) (b : Bool) → item_eq c.item i ≡ b → is_holder (locked_by s c.item (session_at k.keys) i) t ≡ holds_key (Changed s c ∷ l) i t
    go i t true f = split s t (λ u. is_holder (locked_by s c.item (session_at k.keys) i) u ≡ holds_key (Changed s c ∷ l) i u) mine theirs
      where
        taken : (u : ℕ) → is_holder (locked_by s c.item (session_at k.keys) i) u ≡ (s == u)
        taken u = rw (locked_by, f) refl

        mine : is_holder (locked_by s c.item (session_at k.keys) i) s ≡ holds_key (Changed s c ∷ l) i s
        mine = let right : holds_key (Changed s c ∷ l) i s ≡ true = rw (holds_key, active, a, keeps_key, me, f) refl in taken s ∙ (me ∙ sym right)

        theirs : (s == t) ≡ false → is_holder (locked_by s c.item (session_at k.keys) i) t ≡ holds_key (Changed s c ∷ l) i t
        theirs m =
            let right : holds_key (Changed s c ∷ l) i t ≡ holds_key l i t = rw (holds_key, keeps_key, m) refl in
            let free : other_session s (session_at k.keys i) ≡ None = ap (λ x. other_session s (session_at k.keys x)) (sym (item_eq_same c.item i f)) ∙ n in
            taken t ∙ (m ∙ (sym (others (session_at k.keys i) t free m) ∙ (o.keys i t ∙ sym right)))
    go i t false f =
        let right : holds_key (Changed s c ∷ l) i t ≡ holds_key l i t = rw (holds_key, keeps_key, f, and_false (s == t)) refl in
        rw (locked_by, f) (o.keys i t ∙ sym right)

-- ---- commits and ends

pub asked : (k : Locked) (l : Life) (s : ℕ) (i : ValueId) → LocksOf k l → is_active (phase l s) ≡ true → killed l s ≡ None → LocksOf k (AsksCommit s i ∷ l)
asked k l s i o h a = record {
  keys = λ j t. split s t (λ u. is_holder (session_at k.keys j) u ≡ holds_key (AsksCommit s i ∷ l) j u) (mine j) (λ m. o.keys j t ∙ sym (rw (holds_key, phase, m) refl));
  called = λ t. split s t (λ u. is_free (phase (AsksCommit s i ∷ l) u) ≡ false → has_session (sessions l) u ≡ true) (λ z. o.called s (ap is_free active)) (λ m z. o.called t (rw (phase, m) at z));
  dead = λ t. split s t (λ u. is_some (killed l u) ≡ true → is_active (phase (AsksCommit s i ∷ l) u) ≡ true) (λ z. absurd (true≢false (sym z ∙ rw a refl))) (λ m z. rw (phase, m) (o.dead t z));
  held = λ t j. split s t (λ u. is_holding (phase (AsksCommit s i ∷ l) u) ≡ true → keeps_key l u j ≡ false) (λ z. absurd (true≢false (sym z ∙ rw (phase, me) refl))) (λ m z. o.held t j (rw (phase, m) at z));
}
  where
    me : (s == s) ≡ true
    me = eq-eqb s s refl

    active : phase l s ≡ IsActive
    active = active_phase (phase l s) h

    mine : (j : Item) → is_holder (session_at k.keys j) s ≡ holds_key (AsksCommit s i ∷ l) j s
    mine j =
        let was : holds_key l j s ≡ keeps_key l s j = rw (holds_key, active, a) refl in
        let is : holds_key (AsksCommit s i ∷ l) j s ≡ keeps_key l s j = rw (holds_key, phase, me) refl in
        o.keys j s ∙ (was ∙ sym is)

-- the same, by who holds each key
pub record HeldBy (was : Item → Option ℕ) (l : Life) : Type 0 where
  keys : (i : Item) (s : ℕ) → is_holder (was i) s ≡ holds_key l i s
  called : (s : ℕ) → is_free (phase l s) ≡ false → has_session (sessions l) s ≡ true
  dead : (s : ℕ) → is_some (killed l s) ≡ true → is_active (phase l s) ≡ true
  held : (s : ℕ) (i : Item) → is_holding (phase l s) ≡ true → keeps_key l s i ≡ false

pub by_holder : (k : Locked) (l : Life) → LocksOf k l → HeldBy (session_at k.keys) l
by_holder k l o = record { keys = o.keys; called = o.called; dead = o.dead; held = o.held }

pub as_locks : (was : Item → Option ℕ) (now : Locked) (l : Life) → HeldBy was l → ((j : Item) → session_at now.keys j ≡ was j) → LocksOf now l
as_locks was now l o e = record { keys = λ i t. ap (λ z. is_holder z t) (e i) ∙ o.keys i t; called = o.called; dead = o.dead; held = o.held }

pub answered_by : (was : Item → Option ℕ) (l : Life) (s : ℕ) (x : Answer) → HeldBy was l → HeldBy was (Answered s x ∷ l)
answered_by was l s x o = record { keys = o.keys; called = o.called; dead = o.dead; held = o.held }

pub ended_by : (was : Item → Option ℕ) (l : Life) (s : ℕ) → HeldBy was l → HeldBy (λ j. without_session s (was j)) (Ends s ∷ l)
ended_by was l s o = record {
  keys = λ i t. split s t (λ u. is_holder (without_session s (was i)) u ≡ holds_key (Ends s ∷ l) i u) (gone (was i) ∙ sym (idle (Ends s ∷ l) s i (rw (phase, me) refl) (rw (phase, me) refl)))
      (λ m. there (was i) t m ∙ (o.keys i t ∙ sym (rw (holds_key, phase, killed, m) refl)));
  called = λ t. split s t (λ u. is_free (phase (Ends s ∷ l) u) ≡ false → has_session (sessions l) u ≡ true) (λ z. absurd (true≢false (sym (rw (phase, me) refl) ∙ z))) (λ m z. o.called t (rw (phase, m) at z));
  dead = λ t. split s t (λ u. is_some (killed (Ends s ∷ l) u) ≡ true → is_active (phase (Ends s ∷ l) u) ≡ true) (λ z. absurd (true≢false (sym z ∙ rw (killed, me) refl))) (λ m z. rw (phase, m) (o.dead t (rw (killed, m) at z)));
  held = λ t i. split s t (λ u. is_holding (phase (Ends s ∷ l) u) ≡ true → keeps_key l u i ≡ false) (λ z. absurd (true≢false (sym z ∙ rw (phase, me) refl))) (λ m z. o.held t i (rw (phase, m) at z));
}
  where
    me : (s == s) ≡ true
    me = eq-eqb s s refl

    gone : (z : Option ℕ) → is_holder (without_session s z) s ≡ false
    gone None = refl
    gone (Some u) = test (u == s) refl
      where
        test : (b : Bool) → (u == s) ≡ b → is_holder (without_session s (Some u)) s ≡ false
        test true f = rw (without_session, f) refl
        test false f = rw (without_session, f) f

    there : (z : Option ℕ) (t : ℕ) → (s == t) ≡ false → is_holder (without_session s z) t ≡ is_holder z t
    there None t m = refl
    there (Some u) t m = test (u == s) refl
      where
        test : (b : Bool) → (u == s) ≡ b → is_holder (without_session s (Some u)) t ≡ (u == t)
        test true f = let away : (u == t) ≡ false = ap (λ x. x == t) (eqb-true u s f) ∙ m in rw (without_session, f) (sym away)
        test false f = rw (without_session, f) refl

pub ended : (k now : Locked) (l : Life) (s : ℕ) → LocksOf k l → ((j : Item) → session_at now.keys j ≡ without_session s (session_at k.keys j)) → LocksOf now (Ends s ∷ l)
ended k now l s o e = as_locks (λ j. without_session s (session_at k.keys j)) now (Ends s ∷ l) (ended_by (session_at k.keys) l s (by_holder k l o)) e

-- a hold holds no key, so nothing need be freed at its end
pub timed_out : (k : Locked) (l : Life) (s : ℕ) → LocksOf k l → is_holding (phase l s) ≡ true → LocksOf k (Ends s ∷ l)
timed_out k l s o h = ended k k l s o (λ j. sym (kept (session_at k.keys j) (o.keys j s ∙ idle l s j (ap is_asking held) (ap is_active held))))
  where
    held : phase l s ≡ IsHolding
    held = held_phase (phase l s) h

    kept : (z : Option ℕ) → is_holder z s ≡ false → without_session s z ≡ z
    kept None n = refl
    kept (Some u) n = rw (without_session, n) refl
