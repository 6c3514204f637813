-- One thing more in the history, and where each session's transaction stands then.
use Rattle.std.proofs.Common.{◌≡◌, subst, ℕ, Bool, true, false, ◌&&◌, Option, Some, None, List, [], ◌∷◌, ◌++◌, refl, sym, ap, ◌∙◌}
use Rattle.std.specs.Prelude.{◌==◌}
use Rattle.std.specs.Option.{option_map}
use Rattle.std.proofs.lemmas.Bool.{eqb-true, eq-eqb, true≢false}
use Rattle.gr_ids.specs.declared.levels.Level.{Level}
use Rattle.gr_ids.specs.declared.levels.MemberState.TheVariants.{Error, Offline, Online, Recovering}
use Rattle.gr_ids.specs.declared.names.Gtid.{Gtid}
use Rattle.gr_ids.specs.declared.names.ValueId.{ValueId}
use Rattle.gtid_sets.specs.Sets.{Gtids}
use Rattle.key_items.specs.declared.change.Change.{Change}
use Rattle.group_rules.specs.Events.{AskFails, AsksCommit, Answered, Begun, Called, Came, Calls, Changed, Committed, Did, Done, Ends, Enters, Founds, Gave, Hears, Is, Life, Made, Operates, Replied, Restores, Skips, Starts, Ticks, Took, Works}
use Rattle.group_rules.specs.Life.{state}
use Rattle.group_rules.specs.Holds.{is_after}
use Rattle.group_rules.specs.Sessions.{Call, begun_set, changes, last_call, one_tick, phase}
use Rattle.group_rules.specs.Keys.{killed, was_left}
use Rattle.group_rules.specs.Calls.{is_after_call, state_then}
use Rattle.local_sessions.specs.Standing.{Session, Stage, is_of, Holding, Active, WasKilled, WasLeft, Asked, Asking, asks, at_stage, begins, changed_at, is_held, new_hold, session_in, stage_of, with_change, with_session, without}
use Rattle.local_sessions.specs.Following.{Follows, LeftActive, StandFor, has_changes, is_left, stage_in, touches}
use Rattle.local_sessions.proofs.Order.{Keeps}
use Rattle.local_sessions.proofs.Finding.{changed_same, changed_other, without_same, without_other, with_same, with_other}

-- ---- the same transaction, seen by another history

-- what is read of a history for a session is the same
record Same (l m : Life) (s : ℕ) : Type 0 where
  stage : stage_in m s ≡ stage_in l s
  after : is_after_call (last_call m s) ≡ is_after_call (last_call l s)
  state : state_then (last_call m s) ≡ state_then (last_call l s)
  set : begun_set m s ≡ begun_set l s
  changed : changes m s ≡ changes l s

carry : (o : Option Session) (l m : Life) (s : ℕ) → Same l m s → Follows o l s → Follows o m s
carry None l m s e f = record { stage = f.stage ∙ sym e.stage; after = tt; state = tt; set = tt; changes = tt }
carry (Some x) l m s e f = record {
  stage = f.stage ∙ sym e.stage;
  after = f.after ∙ sym e.after;
  state = f.state ∙ sym e.state;
  set = λ h. f.set h ∙ sym e.set;
  changes = λ h. f.changes h ∙ sym e.changed;
}

after_tick : (o : Option Call) → is_after_call (one_tick o) ≡ is_after_call o
after_tick None = refl
after_tick (Some c) = refl

state_tick : (o : Option Call) → state_then (one_tick o) ≡ state_then o
state_tick None = refl
state_tick (Some c) = refl

-- what touches no transaction
same : (d : Did) (l : Life) (s : ℕ) → touches d ≡ false → Same l (d ∷ l) s
same Founds l s h = record { stage = refl; after = refl; state = refl; set = refl; changed = refl }
same (Starts d) l s h = record { stage = refl; after = refl; state = refl; set = refl; changed = refl }
same (Came (Hears m)) l s h = record { stage = refl; after = refl; state = refl; set = refl; changed = refl }
same (Came Ticks) l s h = record { stage = refl; after = after_tick (last_call l s); state = state_tick (last_call l s); set = refl; changed = refl }
same (Came (Works p b)) l s h = record { stage = refl; after = refl; state = refl; set = refl; changed = refl }
same (Came (Calls t r)) l s h = record { stage = refl; after = refl; state = refl; set = refl; changed = refl }
same (Came (Operates o)) l s h = record { stage = refl; after = refl; state = refl; set = refl; changed = refl }
same (Made v b) l s h = record { stage = refl; after = refl; state = refl; set = refl; changed = refl }
same (Took e) l s h = record { stage = refl; after = refl; state = refl; set = refl; changed = refl }
same (Skips t v) l s h = record { stage = refl; after = refl; state = refl; set = refl; changed = refl }
same (Done p) l s h = absurd (true≢false h)
same (Committed g) l s h = record { stage = refl; after = refl; state = refl; set = refl; changed = refl }
same (Is Offline c) l s h = record { stage = refl; after = refl; state = refl; set = refl; changed = refl }
same (Is Recovering c) l s h = record { stage = refl; after = refl; state = refl; set = refl; changed = refl }
same (Is Online c) l s h = record { stage = refl; after = refl; state = refl; set = refl; changed = refl }
same (Is Error c) l s h = absurd (true≢false h)
same (Gave p n) l s h = record { stage = refl; after = refl; state = refl; set = refl; changed = refl }
same (Answered t x) l s h = record { stage = refl; after = refl; state = refl; set = refl; changed = refl }
same (Begun t e y) l s h = absurd (true≢false h)
same (Changed t c) l s h = absurd (true≢false h)
same (Replied r) l s h = record { stage = refl; after = refl; state = refl; set = refl; changed = refl }
same (Called t v w) l s h = absurd (true≢false h)
same (AsksCommit t i) l s h = absurd (true≢false h)
same (Ends t) l s h = absurd (true≢false h)
same (Enters w) l s h = record { stage = refl; after = refl; state = refl; set = refl; changed = refl }
same (Restores g cs) l s h = record { stage = refl; after = refl; state = refl; set = refl; changed = refl }
same AskFails l s h = record { stage = refl; after = refl; state = refl; set = refl; changed = refl }

pub passed : (xs : List Session) (l : Life) (d : Did) → touches d ≡ false → StandFor xs l → StandFor xs (d ∷ l)
passed xs l d h f s = carry (session_in xs s) l (d ∷ l) s (same d l s h) (f s)

pub none : StandFor [] []
none s = record { stage = refl; after = tt; state = tt; set = tt; changes = tt }

-- ---- what touches another session's

called_other : (s t : ℕ) (v : Level) (w : ℕ) (l : Life) → (s == t) ≡ false → Same l (Called s v w ∷ l) t
called_other s t v w l n =
    let call : last_call (Called s v w ∷ l) t ≡ last_call l t = rw (last_call, n) refl in
    record {
      stage = rw (stage_in, killed, was_left, phase, n) (refl {a = stage_in l t});
      after = ap is_after_call call;
      state = ap state_then call;
      set = refl;
      changed = rw (changes, n) refl;
    }

begun_other : (s t : ℕ) (e : Gtids) (y : Option ℕ) (l : Life) → (s == t) ≡ false → Same l (Begun s e y ∷ l) t
begun_other s t e y l n = record {
  stage = rw (stage_in, phase, n) refl;
  after = refl;
  state = refl;
  set = rw (begun_set, n) refl;
  changed = refl;
}

changed_too : (s t : ℕ) (c : Change) (l : Life) → (s == t) ≡ false → Same l (Changed s c ∷ l) t
changed_too s t c l n = record { stage = refl; after = refl; state = refl; set = refl; changed = rw (changes, n) refl }

asked_other : (s t : ℕ) (i : ValueId) (l : Life) → (s == t) ≡ false → Same l (AsksCommit s i ∷ l) t
asked_other s t i l n = record { stage = rw (stage_in, phase, n) refl; after = refl; state = refl; set = refl; changed = refl }

ended_other : (s t : ℕ) (l : Life) → (s == t) ≡ false → Same l (Ends s ∷ l) t
ended_other s t l n = record { stage = rw (stage_in, killed, was_left, phase, n) refl; after = refl; state = refl; set = refl; changed = refl }

-- ---- what a stage says of a history

and_false : (b : Bool) → (b && false) ≡ false
and_false true = refl
and_false false = refl

record Plain (l : Life) (s : ℕ) : Type 0 where
  alive : killed l s ≡ None
  stays : is_left l s ≡ false

-- neither killed nor left
plain : (l : Life) (s : ℕ) (p : Stage) → stage_in l s ≡ Some p → has_changes p ≡ true → Plain l s
plain l s p e h = go (killed l s) (is_left l s) refl refl
  where
    go : (k : Option Gtid) (w : Bool) → killed l s ≡ k → is_left l s ≡ w → Plain l s
    go None false f g = record { alive = f; stays = g }
    go None true f g = absurd (let z : Some WasLeft ≡ Some p = rw (stage_in, f, g) at e in let q : WasLeft ≡ p = cc in true≢false (sym h ∙ ap has_changes (sym q)))
    go (Some d) w f g = absurd (let z : Some (WasKilled d) ≡ Some p = rw (stage_in, f) at e in let q : WasKilled d ≡ p = cc in true≢false (sym h ∙ ap has_changes (sym q)))

-- ---- one session, by itself or another one

split : (s t : ℕ) (P : ℕ → Type 0) → P s → ((s == t) ≡ false → P t) → P t
split s t P p q = go (s == t) refl
  where
    go : (b : Bool) → (s == t) ≡ b → P t
    go true f = subst P (eqb-true s t f) p
    go false f = q f

-- ---- begins

pub called : (xs : List Session) (l : Life) (s : ℕ) (v : Level) (w : ℕ) → StandFor xs l → session_in xs s ≡ None → StandFor (with_session xs (new_hold s (is_after v) (state l))) (Called s v w ∷ l)
called xs l s v w f n t = split s t (λ u. Follows (session_in (with_session xs x) u) (Called s v w ∷ l) u) here there
  where
    x : Session
    x = new_hold s (is_after v) (state l)

    me : (s == s) ≡ true
    me = eq-eqb s s refl

    held : Follows (Some x) (Called s v w ∷ l) s
    held = record {
      stage = rw (stage_in, killed, was_left, phase, me) refl;
      after = rw (last_call, me) refl;
      state = rw (last_call, me) refl;
      set = λ h. absurd (let z : Holding ≡ Active = h in cc);
      changes = λ h. rw (changes, me) refl;
    }

    here : Follows (session_in (with_session xs x) s) (Called s v w ∷ l) s
    here = subst (λ o. Follows o (Called s v w ∷ l) s) (sym (with_same xs x n)) held

    there : (s == t) ≡ false → Follows (session_in (with_session xs x) t) (Called s v w ∷ l) t
    there m = subst (λ o. Follows o (Called s v w ∷ l) t) (sym (with_other xs x t m)) (carry (session_in xs t) l (Called s v w ∷ l) t (called_other s t v w l m) (f t))

-- ---- one session is changed

at_one : (xs : List Session) (l : Life) (d : Did) (s : ℕ) (f : Session → Session) → Keeps f → StandFor xs l → (Follows (session_in xs s) l s → Follows (option_map f (session_in xs s)) (d ∷ l) s)
    → ((t : ℕ) → (s == t) ≡ false → Same l (d ∷ l) t) → StandFor (changed_at s f xs) (d ∷ l)
at_one xs l d s f k e mine others t = split s t (λ u. Follows (session_in (changed_at s f xs) u) (d ∷ l) u) here there
  where
    here : Follows (session_in (changed_at s f xs) s) (d ∷ l) s
    here = subst (λ o. Follows o (d ∷ l) s) (sym (changed_same s f xs k)) (mine (e s))

    there : (s == t) ≡ false → Follows (session_in (changed_at s f xs) t) (d ∷ l) t
    there m = subst (λ o. Follows o (d ∷ l) t) (sym (changed_other s t f xs k m)) (carry (session_in xs t) l (d ∷ l) t (others t m) (e t))

held_stage : (x : Session) → is_held (Some x) ≡ true → x.stage ≡ Holding
held_stage x h = go x.stage refl
  where
    go : (g : Stage) → x.stage ≡ g → x.stage ≡ Holding
    go Holding e = e
    go Active e = absurd (true≢false (sym h ∙ rw (is_held, e) refl))
    go (WasKilled g) e = absurd (true≢false (sym h ∙ rw (is_held, e) refl))
    go WasLeft e = absurd (true≢false (sym h ∙ rw (is_held, e) refl))
    go Asked e = absurd (true≢false (sym h ∙ rw (is_held, e) refl))
    go (Asking i) e = absurd (true≢false (sym h ∙ rw (is_held, e) refl))

-- where those that were left are active, one that isn't left wasn't left
never_left : (l : Life) (s : ℕ) → LeftActive l → is_left l s ≡ false → was_left l s ≡ false
never_left l s a n = go (was_left l s) refl
  where
    go : (w : Bool) → was_left l s ≡ w → was_left l s ≡ false
    go false e = e
    go true e = absurd (true≢false (sym (rw (e, a s e) refl) ∙ n))

begun_here : (o : Option Session) (l : Life) (s : ℕ) (e : Gtids) (y : Option ℕ) → LeftActive l → is_held o ≡ true → Follows o l s → Follows (option_map (begins e) o) (Begun s e y ∷ l) s
begun_here None l s e y a h f = absurd (true≢false (sym h))
begun_here (Some x) l s e y a h f =
    let g : x.stage ≡ Holding = held_stage x h in
    let p = plain l s Holding (sym f.stage ∙ ap (λ z. Some z) g) refl in
    let me : (s == s) ≡ true = eq-eqb s s refl in
    record {
      stage = rw (stage_in, phase, me, p.alive, never_left l s a p.stays) refl;
      after = f.after;
      state = f.state;
      set = λ z. rw (begun_set, me) refl;
      changes = λ z. f.changes (ap has_changes g);
    }

pub begun : (xs : List Session) (l : Life) (s : ℕ) (e : Gtids) (y : Option ℕ) → StandFor xs l → LeftActive l → is_held (session_in xs s) ≡ true → StandFor (changed_at s (begins e) xs) (Begun s e y ∷ l)
begun xs l s e y f a h = at_one xs l (Begun s e y) s (begins e) (λ x. refl) f (begun_here (session_in xs s) l s e y a h) (λ t m. begun_other s t e y l m)

-- ---- changes

active_stage : (x : Session) → stage_of (Some x) ≡ Some Active → x.stage ≡ Active
active_stage x h = cc

changed_here : (o : Option Session) (l : Life) (s : ℕ) (c : Change) → stage_of o ≡ Some Active → Follows o l s → Follows (option_map (with_change c) o) (Changed s c ∷ l) s
changed_here None l s c h f = absurd cc
changed_here (Some x) l s c h f =
    let g : x.stage ≡ Active = active_stage x h in
    let me : (s == s) ≡ true = eq-eqb s s refl in
    record {
      stage = f.stage;
      after = f.after;
      state = f.state;
      set = f.set;
      changes = λ z. rw (changes, me) (ap (λ cs. cs ++ c ∷ []) (f.changes (ap has_changes g)));
    }

pub changed : (xs : List Session) (l : Life) (s : ℕ) (c : Change) → StandFor xs l → stage_of (session_in xs s) ≡ Some Active → StandFor (changed_at s (with_change c) xs) (Changed s c ∷ l)
changed xs l s c f h = at_one xs l (Changed s c) s (with_change c) (λ x. refl) f (changed_here (session_in xs s) l s c h) (λ t m. changed_too s t c l m)

-- ---- commits

asked_here : (o : Option Session) (l : Life) (s : ℕ) (i : ValueId) → stage_of o ≡ Some Active → Follows o l s → Follows (option_map (λ x. at_stage (Asking i) (asks x)) o) (AsksCommit s i ∷ l) s
asked_here None l s i h f = absurd cc
asked_here (Some x) l s i h f =
    let p = plain l s Active (sym f.stage ∙ h) refl in
    let me : (s == s) ≡ true = eq-eqb s s refl in
    record {
      stage = rw (stage_in, phase, me, p.alive, and_false (was_left l s)) refl;
      after = f.after;
      state = f.state;
      set = λ z. absurd (let q : Asking i ≡ Active = z in cc);
      changes = λ z. absurd (true≢false (sym z));
    }

twice : (s : ℕ) (i : ValueId) (xs : List Session) → changed_at s (at_stage (Asking i)) (changed_at s asks xs) ≡ changed_at s (λ x. at_stage (Asking i) (asks x)) xs
twice s i [] = refl
twice s i (x ∷ xs) = go (is_of s x) refl (twice s i xs)
  where
    go : (b : Bool) → is_of s x ≡ b → changed_at s (at_stage (Asking i)) (changed_at s asks xs) ≡ changed_at s (λ x. at_stage (Asking i) (asks x)) xs
        → changed_at s (at_stage (Asking i)) (changed_at s asks (x ∷ xs)) ≡ changed_at s (λ x. at_stage (Asking i) (asks x)) (x ∷ xs)
    go true g r = rw g (rw g refl)
    go false g r = rw g (rw g (ap (λ ys. x ∷ ys) r))

pub asked : (xs : List Session) (l : Life) (s : ℕ) (i : ValueId) → StandFor xs l → stage_of (session_in xs s) ≡ Some Active → StandFor (changed_at s (at_stage (Asking i)) (changed_at s asks xs)) (AsksCommit s i ∷ l)
asked xs l s i f h =
    subst (λ ys. StandFor ys (AsksCommit s i ∷ l)) (sym (twice s i xs))
    (at_one xs l (AsksCommit s i) s (λ x. at_stage (Asking i) (asks x)) (λ x. refl) f (asked_here (session_in xs s) l s i h) (λ t m. asked_other s t i l m))

-- ---- ends

pub ended : (xs : List Session) (l : Life) (s : ℕ) → StandFor xs l → StandFor (without s xs) (Ends s ∷ l)
ended xs l s f t = split s t (λ u. Follows (session_in (without s xs) u) (Ends s ∷ l) u) here there
  where
    me : (s == s) ≡ true
    me = eq-eqb s s refl

    over : Follows None (Ends s ∷ l) s
    over = record { stage = rw (stage_in, killed, was_left, phase, me) refl; after = tt; state = tt; set = tt; changes = tt }

    here : Follows (session_in (without s xs) s) (Ends s ∷ l) s
    here = subst (λ o. Follows o (Ends s ∷ l) s) (sym (without_same s xs)) over

    there : (s == t) ≡ false → Follows (session_in (without s xs) t) (Ends s ∷ l) t
    there m = subst (λ o. Follows o (Ends s ∷ l) t) (sym (without_other s t xs m)) (carry (session_in xs t) l (Ends s ∷ l) t (ended_other s t l m) (f t))
