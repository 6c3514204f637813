-- The holder of a key is the one that the history names, and a begin is held where it says so.
use Rattle.std.proofs.Common.{◌≡◌, ℕ, Bool, true, false, ◌&&◌, not, Option, Some, None, List, [], ◌∷◌, refl, sym, ap, ◌∙◌}
use Rattle.std.specs.Prelude.{◌==◌, is_some}
use Rattle.std.proofs.lemmas.Bool.{eqb-true, eqb-false, eq-eqb, ne_eqb, true≢false}
use Rattle.gr_ids.specs.declared.names.Gtid.{Gtid}
use Rattle.key_items.specs.declared.item.Item.{Item}
use Rattle.group_rules.specs.declared.answers.Holder.TheVariants.{Session as BySession}
use Rattle.group_rules.specs.Events.{Life}
use Rattle.group_rules.specs.Member.{Member}
use Rattle.group_rules.specs.Sessions.{Phase, Free as IsFree, Holding as IsHolding, Active as IsActive, Asking as IsAsking, is_active, is_holding, phase, sessions}
use Rattle.group_rules.specs.Keys.{holder, holds_key, killed, session_holder}
use Rattle.row_locks.specs.Locking.{Locked, holder_beside, other_session, session_at}
use Rattle.local_sessions.specs.declared.tables.Tables.{Tables}
use Rattle.local_sessions.specs.Standing.{Session, Stage, Holding, Active, WasKilled, WasLeft, Asked, Asking, is_held, session_in, stage_of}
use Rattle.local_sessions.specs.Others.{has_session}
use Rattle.local_sessions.specs.Following.{LocksOf, StandFor, TablesOf, is_free, is_holder, is_left, stage_in}
use Rattle.local_sessions.proofs.KeyHolders.{active_phase, left_is_active}

and_false : (b : Bool) → (b && false) ≡ false
and_false true = refl
and_false false = refl

-- whoever holds a key has a transaction
not_free : (l : Life) (s : ℕ) (i : Item) → holds_key l i s ≡ true → is_free (phase l s) ≡ false
not_free l s i h = go (phase l s) refl
  where
    go : (p : Phase) → phase l s ≡ p → is_free (phase l s) ≡ false
    go IsFree e = absurd (true≢false (sym h ∙ rw e refl))
    go IsHolding e = rw e refl
    go IsActive e = rw e refl
    go (IsAsking j) e = rw e refl

-- nobody of these holds it
nobody_holds : (l : Life) (i : Item) (s : ℕ) (ts : List ℕ) → ((t : ℕ) → (not (t == s) && holds_key l i t) ≡ false) → session_holder l i s ts ≡ None
nobody_holds l i s [] h = refl
nobody_holds l i s (t ∷ ts) h = rw (session_holder, h t) (nobody_holds l i s ts h)

-- the one that holds it is among these
somebody_holds : (l : Life) (i : Item) (s u : ℕ) (ts : List ℕ) → (u == s) ≡ false → ((t : ℕ) → (u == t) ≡ holds_key l i t) → has_session ts u ≡ true → session_holder l i s ts ≡ Some (BySession u)
somebody_holds l i s u [] n h m = absurd (true≢false (sym m))
somebody_holds l i s u (t ∷ ts) n h m = go (u == t) refl (somebody_holds l i s u ts n h)
  where
    go : (b : Bool) → (u == t) ≡ b → (has_session ts u ≡ true → session_holder l i s ts ≡ Some (BySession u)) → session_holder l i s (t ∷ ts) ≡ Some (BySession u)
    go true f r =
        let same : u ≡ t = eqb-true u t f in
        let here : holds_key l i t ≡ true = sym (h t) ∙ f in
        let other : (t == s) ≡ false = ap (λ v. v == s) (sym same) ∙ n in
        rw (session_holder, other, here) (ap (λ v. Some (BySession v)) (sym same))
    go false f r =
        let away : holds_key l i t ≡ false = sym (h t) ∙ f in
        let apart : (t == u) ≡ false = ne_eqb t u (λ e. eqb-false u t f (sym e)) in
        let later : has_session ts u ≡ true = rw apart at m in
        rw (session_holder, away, and_false (not (t == s))) (r later)

-- ---- the holder beside a session

beside : (locks : Locked) (l : Life) (s : ℕ) (i : Item) (k : Option ℕ) → LocksOf locks l → session_at locks.keys i ≡ k → session_holder l i s (sessions l) ≡ other_session s k
beside locks l s i None o e = nobody_holds l i s (sessions l) (λ t. let none : holds_key l i t ≡ false = sym (o.keys i t) ∙ ap (λ k. is_holder k t) e in rw (none, and_false (not (t == s))) refl)
beside locks l s i (Some u) o e = go (u == s) refl
  where
    holds : (t : ℕ) → (u == t) ≡ holds_key l i t
    holds t = sym (ap (λ k. is_holder k t) e) ∙ o.keys i t

    mine : (u == s) ≡ true → (t : ℕ) (b : Bool) → (t == s) ≡ b → (not (t == s) && holds_key l i t) ≡ false
    mine f t true g = rw g refl
    mine f t false g =
        let same : u ≡ s = eqb-true u s f in
        let away : (u == t) ≡ false = ne_eqb u t (λ e. eqb-false t s g (sym e ∙ same)) in
        rw (g, ← holds t, away) refl

    go : (b : Bool) → (u == s) ≡ b → session_holder l i s (sessions l) ≡ other_session s (Some u)
    go true f = rw (other_session, f) (nobody_holds l i s (sessions l) (λ t. mine f t (t == s) refl))
    go false f = rw (other_session, f) (somebody_holds l i s u (sessions l) f holds (o.called u (not_free l u i (sym (holds u) ∙ eq-eqb u u refl))))

pub same_holder : (at : Tables) (a : Member) (s : ℕ) (i : Item) → TablesOf at a → holder_beside at.locks s i ≡ holder a.life a.me.inc s i
same_holder at a s i t = rw (t.places i, beside at.locks a.life s i (session_at at.locks.keys i) t.locks refl) refl

-- ---- whose begin is held

abbrev held_at : Option Stage → Bool
held_at None = false
held_at (Some Holding) = true
held_at (Some Active) = false
held_at (Some (WasKilled g)) = false
held_at (Some WasLeft) = false
held_at (Some Asked) = false
held_at (Some (Asking i)) = false

by_stage : (o : Option Session) → is_held o ≡ held_at (stage_of o)
by_stage None = refl
by_stage (Some x) = go x.stage refl
  where
    go : (g : Stage) → x.stage ≡ g → is_held (Some x) ≡ held_at (Some x.stage)
    go Holding e = rw (is_held, e) refl
    go Active e = rw (is_held, e) refl
    go (WasKilled g) e = rw (is_held, e) refl
    go WasLeft e = rw (is_held, e) refl
    go Asked e = rw (is_held, e) refl
    go (Asking i) e = rw (is_held, e) refl

pub holds : (xs : List Session) (k : Locked) (l : Life) (s : ℕ) → StandFor xs l → LocksOf k l → is_held (session_in xs s) ≡ is_holding (phase l s)
holds xs k l s f o = by_stage (session_in xs s) ∙ (ap held_at (f s).stage ∙ go (killed l s) (is_left l s) (phase l s) refl refl refl)
  where
    idle : is_active (phase l s) ≡ true → is_holding (phase l s) ≡ false
    idle h = ap is_holding (active_phase (phase l s) h)

    go : (z : Option Gtid) (w : Bool) (p : Phase) → killed l s ≡ z → is_left l s ≡ w → phase l s ≡ p → held_at (stage_in l s) ≡ is_holding (phase l s)
    go (Some g) w p d e h = rw (stage_in, d) (sym (idle (o.dead s (ap is_some d))))
    go None true p d e h = rw (stage_in, d, e) (sym (idle (left_is_active l s e)))
    go None false IsFree d e h = rw (stage_in, d, e, h) refl
    go None false IsHolding d e h = rw (stage_in, d, e, h) refl
    go None false IsActive d e h = rw (stage_in, d, e, h) refl
    go None false (IsAsking i) d e h = rw (stage_in, d, e, h) refl
