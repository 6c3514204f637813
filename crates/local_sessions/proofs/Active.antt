-- A session whose transaction is active, and what its call does.
use Rattle.std.proofs.Common.{◌≡◌, ℕ, Bool, true, false, Option, Some, None, Result, Ok, Err, List, [], ◌∷◌, refl, sym, ap, ◌∙◌}
use Rattle.std.specs.Prelude.{OnErr}
use Rattle.std.specs.Option.{option_map}
use Rattle.std.proofs.lemmas.Bool.{eqb-true}
use Rattle.key_items.specs.declared.change.Change.{Change}
use Rattle.group_rules.specs.declared.answers.Answer.{Answer}
use Rattle.group_rules.specs.declared.answers.Answer.TheVariants.{Changed as IsChanged, NotOnline, ReadOnly, RowLocked}
use Rattle.group_rules.specs.declared.answers.Holder.{Holder}
use Rattle.group_rules.specs.Life.{is_up}
use Rattle.row_locks.specs.Locking.{holder_beside}
use Rattle.local_sessions.specs.declared.tables.Tables.{Tables}
use Rattle.local_sessions.specs.declared.commit_step.CommitStep.TheVariants.{Said}
use Rattle.local_sessions.specs.Standing.{Session, asks, changed_at, is_of, session_in}
use Rattle.local_sessions.specs.Replies.{Reply, Deed, Asks, Nothing, Writing, Does, bar, bar_at, is_read_only, reply_or, statement_in, stays, unless_barred}

-- nothing stands in the way of its call
pub opened : (f : Session → Reply) (o : Option Session) (x : Session) → option_map (λ (r : Reply). r.answer) (bar o) ≡ None → o ≡ Some x → unless_barred f o ≡ f x
opened f o x n e = ap (unless_barred f) e ∙ go (bar_at x.stage) refl (ap (λ p. option_map (λ (r : Reply). r.answer) (bar p)) (sym e) ∙ n)
  where
    go : (b : Option Reply) → bar_at x.stage ≡ b → option_map (λ (r : Reply). r.answer) (bar_at x.stage) ≡ None → reply_or (bar_at x.stage) (f x) ≡ f x
    go None g h = rw g refl
    go (Some r) g h = absurd (let z : Some r.answer ≡ None = rw g at h in cc)

pub found_is : (xs : List Session) (s : ℕ) (x : Session) → session_in xs s ≡ Some x → x.session ≡ s
found_is [] s x e = absurd cc
found_is (y ∷ ys) s x e = go (is_of s y) refl (found_is ys s x)
  where
    go : (b : Bool) → is_of s y ≡ b → (session_in ys s ≡ Some x → x.session ≡ s) → x.session ≡ s
    go true f r = let z : Some y ≡ Some x = rw f at e in let same : y ≡ x = cc in ap (λ (z : Session). z.session) (sym same) ∙ eqb-true y.session s f
    go false f r = r (rw f at e)

pub found_in : (a b : List Session) (s : ℕ) (x : Session) → Some x ≡ session_in a s → a ≡ b → session_in b s ≡ Some x
found_in a b s x e f = ap (λ l. session_in l s) (sym f) ∙ sym e

-- nothing is done
pub does_nothing : (d : Deed) (s : ℕ) (old new : List Session) (was now : Tables) → d ≡ Nothing → new ≡ old → now ≡ was → Does d s old new was now
does_nothing d s old new was now e f g = rw (e, f, g) (record { sessions = refl; keys = λ j. refl; tables = refl })

pub does_as : (d e : Deed) (s : ℕ) (old mid new : List Session) (was mean now : Tables) → d ≡ e → mid ≡ old → mean ≡ was → Does e s mid new mean now → Does d s old new was now
does_as d e s old mid new was mean now f g h k = rw (f, ← g, ← h) k

pub does_ask : (d : Deed) (s : ℕ) (old new : List Session) (was now : Tables) → d ≡ Asks → new ≡ changed_at s asks old → now ≡ was → Does d s old new was now
does_ask d s old new was now e f g = rw (e, f, g) (record { sessions = refl; keys = λ j. refl; tables = refl })

pub on_err_from : {T E P : Type 0} (r : Result T E) → P → OnErr r P
on_err_from (Ok x) p = tt
on_err_from (Err e) p = p

-- a statement that isn't refused finds its key free
pub free_key : (at : Tables) (c : Change) (x : Session) → statement_in at c x ≡ record { answer = Said IsChanged; deed = Writing c } → holder_beside at.locks x.session c.item ≡ None
free_key at c x e = go (is_up x.state) (is_read_only at) (holder_beside at.locks x.session c.item) refl refl refl
  where
    differ : (a : Answer) → stays a ≡ record { answer = Said IsChanged; deed = Writing c } → ⊥
    differ a z = let d : Nothing ≡ Writing c = ap (λ (r : Reply). r.deed) z in cc

    go : (u r : Bool) (h : Option Holder) → is_up x.state ≡ u → is_read_only at ≡ r → holder_beside at.locks x.session c.item ≡ h → holder_beside at.locks x.session c.item ≡ None
    go u r None f g k = k
    go true false (Some h) f g k = absurd (differ (RowLocked h) (rw (statement_in, f, g, k) at e))
    go true true (Some h) f g k = absurd (differ (ReadOnly at.primary) (rw (statement_in, f, g) at e))
    go false r (Some h) f g k = absurd (differ (NotOnline x.state) (rw (statement_in, f) at e))
