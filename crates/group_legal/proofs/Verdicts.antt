-- The second law of a legal run: each transaction that was taken has the verdict of the list.
use Rattle.std.proofs.Common.{◌≡◌, ◌⊎◌, inl, inr, ℕ, suc, ◌+◌, Bool, true, false, Option, Some, List, [], ◌∷◌, refl, sym, ap, subst, ◌∙◌, length, arith}
use Rattle.std.specs.Prelude.{if◌then◌else◌, ◌==◌}
use Rattle.std.proofs.lemmas.Bool.{eqb-true}
use Rattle.gr_ids.specs.declared.names.Inc.{Inc}
use Rattle.gr_ids.specs.declared.names.Gtid.{Gtid}
use Rattle.slot_values.specs.declared.value.Value.{Value}
use Rattle.slot_values.specs.declared.value.What.{What}
use Rattle.slot_values.specs.declared.value.What.TheVariants.{Noop, Add, Remove, Body as Says}
use Rattle.slot_values.specs.declared.kept.Kept.TheVariants.{At as KeptAt, Skipped as IsSkipped}
use Rattle.slot_values.specs.Log.{is_kept, has_effect}
use Rattle.txn_forms.specs.declared.body.Txn.{Txn}
use Rattle.txn_forms.specs.declared.body.Body.TheVariants.{Txn as Writes}
use Rattle.group_rules.specs.declared.marks.Effect.{Effect}
use Rattle.group_rules.specs.declared.marks.Effect.TheVariants.{Plain, Void, Unread, Positive, Conflict}
use Rattle.group_rules.specs.Events.{Took, Setup, Entry}
use Rattle.group_rules.specs.Life.{view, taken, entry_at}
use Rattle.group_rules.specs.View.{View}
use Rattle.group_rules.specs.OneList.{reading_of, listed_by, listed}
use Rattle.group_rules.specs.Legal.{DidAt, SameEntry, VerdictLaw}
use Rattle.group_rules.specs.World.{Past, Does, life_in}
use Rattle.group_runs.specs.Runs.{AllDid, IsDone}
use Rattle.group_order.specs.OneLog.{IsReady, TakenAs, Follows, LogOver}
use Rattle.group_order.proofs.Nexts.{done_at}
use Rattle.group_laws.specs.Entries as law
use Rattle.group_laws.specs.Life as lives
use Rattle.group_laws.specs.Lawful.{upto}
use Rattle.group_lives.specs.Lives.{outcome_of, placed, life_of}
use Rattle.group_lives.specs.Sound.{IsEffect, IsTaking}
use Rattle.group_lawful.specs.Knows.{Sound}
use Rattle.group_lawful.proofs.States.{ready_by, shape_of}
use Rattle.group_lawful.proofs.Known.{sound_took}
use Rattle.group_legal.specs.Bases.{list_of, base_in}
use Rattle.group_legal.specs.LawRun.{MomentOf, IsLawRun}
use Rattle.group_legal.proofs.Scanned.{takes, new_entry}
use Rattle.group_legal.proofs.Prefix.{StandsAt, entry_stands}
use Rattle.group_legal.proofs.Points.{did_here}

-- ---- entries of the list

-- an entry of the list has its place, and an effect
abbrev IsEntryAt : Setup → ℕ → Entry → Type 0
IsEntryAt t n x = (x.place ≡ n) × ((v : View) × IsEffect t v x.value.what x.holds x.effect)

entry_is : (t : Setup) (log : List Value) (n : ℕ) (x : Entry) → entry_at (listed t log) n ≡ Some x → IsEntryAt t n x
entry_is t [] n x h = absurd (cc h)
entry_is t (v ∷ log) n x h = go (is_kept (reading_of t log) v) (takes t [] (v ∷ log)) h (entry_is t log n x)
  where
    found : (e : Entry) → IsEffect t (view t (listed t log)) e.value.what e.holds e.effect → (b : Bool) → (e.place == n) ≡ b
        → ◌≡◌ {A = Option Entry} (elim b [ true ↦ Some e | false ↦ entry_at (listed t log) n ]) (Some x)
        → (entry_at (listed t log) n ≡ Some x → IsEntryAt t n x) → IsEntryAt t n x
    found e f true y z k = let same : e ≡ x = cc z in subst (IsEntryAt t n) same (eqb-true e.place n y, (view t (listed t log), f))
    found e f false y z k = k z

    go : (b : Bool) → IsTaking t [] (listed_by t (listed t log) (suc (length log)) v (if b then KeptAt ((reading_of t log).place + 1) (has_effect (reading_of t log) v.what) else IsSkipped))
        → entry_at (listed_by t (listed t log) (suc (length log)) v (if b then KeptAt ((reading_of t log).place + 1) (has_effect (reading_of t log) v.what) else IsSkipped)) n ≡ Some x
        → (entry_at (listed t log) n ≡ Some x → IsEntryAt t n x) → IsEntryAt t n x
    go true k q f = found (new_entry t v log) k.0.1 ((new_entry t v log).place == n) refl q f
    go false k q f = f q

-- ---- verdicts

-- the effect of a transaction is positive, with a GTID of the group, or a conflict
abbrev IsVerdict : Setup → Effect → Type 0
IsVerdict t f = ((g : Gtid) × (f ≡ Positive g) × (g.source ≡ t.limits.group)) ⊎ ((g : Gtid) × (f ≡ Conflict g))

is_verdict : (t : Setup) (v : View) (y : What) (tx : Txn) (f : Effect) → IsEffect t v y (Some (Writes tx)) f → IsVerdict t f
is_verdict t v (Says x) tx (Positive g) h = inl (g, refl, h)
is_verdict t v (Says x) tx (Conflict g) h = inr (g, refl)
is_verdict t v (Says x) tx Plain h = absurd h
is_verdict t v (Says x) tx Void h = absurd h
is_verdict t v (Says x) tx Unread h = absurd h
is_verdict t v Noop tx f h = absurd h
is_verdict t v (Add j) tx f h = absurd h
is_verdict t v (Remove j) tx f h = absurd h

-- two verdicts with one outcome are one
same_verdict : (t : Setup) (f g : Effect) → IsVerdict t f → IsVerdict t g → outcome_of f ≡ outcome_of g → f ≡ g
same_verdict t f g (inl a) (inl b) e =
    let q : law.Positive (a.0).number ≡ law.Positive (b.0).number = ap outcome_of (sym a.1) ∙ e ∙ ap outcome_of b.1 in
    let n : (a.0).number ≡ (b.0).number = cc q in
    let s : (a.0).source ≡ (b.0).source = a.2 ∙ sym b.2 in
    a.1 ∙ (λ j. Positive (record { source = s j; number = n j })) ∙ sym b.1
same_verdict t f g (inl a) (inr b) e = let q : law.Positive (a.0).number ≡ law.Conflict b.0 = ap outcome_of (sym a.1) ∙ e ∙ ap outcome_of b.1 in absurd (cc q)
same_verdict t f g (inr a) (inl b) e = let q : law.Conflict a.0 ≡ law.Positive (b.0).number = ap outcome_of (sym a.1) ∙ e ∙ ap outcome_of b.1 in absurd (cc q)
same_verdict t f g (inr a) (inr b) e =
    let q : law.Conflict a.0 ≡ law.Conflict b.0 = ap outcome_of (sym a.1) ∙ e ∙ ap outcome_of b.1 in
    let n : a.0 ≡ b.0 = cc q in
    a.1 ∙ ap Conflict n ∙ sym b.1

first_is : {A : Type 0} (x y : A) (xs ys : List A) → x ∷ xs ≡ y ∷ ys → x ≡ y
first_is x y xs ys e = cc e

-- ---- the law

module _ (t : Setup) (w : Past) (one : LogOver t w) (done : AllDid (IsDone t) w) (r : IsLawRun t one.log w) where
  abbrev given : Inc → List law.Placed
  given = base_in t one.log w

  -- an entry that was taken
  module _ (i : Inc) (e : Entry) (p : Past) (h : DidAt w i (Took e) p) where
    moment : MomentOf t one.log (given i) i (Took e ∷ life_in p i)
    moment = subst (MomentOf t one.log (given i) i) (did_here p i (Took e)) (r.moments (Does i (Took e) ∷ p) h i)

    sound : Sound t i (given i) (Took e ∷ life_in p i)
    sound = sound_took t i (given i) e (life_in p i) moment.lived moment.always

    ready : IsReady t i (life_in p i)
    ready =
        let d = done_at (IsDone t) w p i (Took e) done h in
        ready_by t i (given i) (life_in p i) (shape_of t i (given i) (life_in p i) moment.always.1 d.0.begun) d.1.1

    -- it has the outcome of the list
    same_outcome : (x : Entry) → entry_at (listed t one.log) e.place ≡ Some x → placed e ≡ placed x
    same_outcome x q =
        first_is (placed e) (placed x) (lives.marked (life_of (given i) (life_in p i))) (upto (taken (life_in p i)) (list_of t one.log))
        (moment.judged ready (omega arith) ∙ ap (λ n. upto n (list_of t one.log)) sound.taking.0.0 ∙ stands.1)
      where
        stands : StandsAt (taken (life_in p i)) x (list_of t one.log)
        stands = entry_stands t one.log (taken (life_in p i)) x (ap (entry_at (listed t one.log)) (sym sound.taking.0.0) ∙ q)

    -- and its effect, where it holds a transaction
    same_effect : (tx : Txn) (x : Entry) → e.holds ≡ Some (Writes tx) → entry_at (listed t one.log) e.place ≡ Some x
        → x.holds ≡ e.holds → IsEntryAt t e.place x → x.effect ≡ e.effect
    same_effect tx x holds q same is =
        same_verdict t x.effect e.effect
        (is_verdict t is.1.0 x.value.what tx x.effect (subst (λ b. IsEffect t is.1.0 x.value.what b x.effect) (same ∙ holds) is.1.1))
        (is_verdict t (view t (life_in p i)) e.value.what tx e.effect (subst (λ b. IsEffect t (view t (life_in p i)) e.value.what b e.effect) holds sound.taking.0.1))
        (ap (λ (y : law.Placed). y.outcome) (sym (same_outcome x q)))

  pub verdict_law : VerdictLaw (listed t one.log) w
  verdict_law i e p tx h holds = there ∙ ap Some (λ j. record { slot = s.slot j; place = is.0 j; value = s.value j; effect = effect j; holds = s.holds j })
    where
      g : TakenAs t one.log p i e
      g = done_at (Follows t one.log) w p i (Took e) one.follows h

      there : entry_at (listed t one.log) e.place ≡ Some g.listed.0
      there = g.listed.1

      s : SameEntry g.listed.0 e
      s = g.listed.2

      is : IsEntryAt t e.place g.listed.0
      is = entry_is t one.log e.place g.listed.0 g.listed.1

      effect : (g.listed.0).effect ≡ e.effect
      effect = same_effect i e p h tx g.listed.0 holds g.listed.1 g.listed.2.holds is
