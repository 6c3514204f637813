-- What is done in a step is promised.
use Rattle.std.proofs.Common.{◌≡◌, ◌⊎◌, inl, inr, ℕ, Some, [], ◌∷◌, ◌++◌, refl, sym, ap, subst, ◌∙◌}
use Rattle.gr_ids.specs.declared.names.Inc.{Inc}
use Rattle.gr_ids.specs.declared.names.Gtid.{Gtid}
use Rattle.gtid_sets.specs.Canonical.{IsNumber}
use Rattle.group_rules.specs.declared.marks.Effect.{Effect}
use Rattle.group_rules.specs.declared.marks.Effect.TheVariants.{Positive}
use Rattle.group_rules.specs.Events.{Made, Took, Life, Setup, Entry, OfflineWrite}
use Rattle.group_rules.specs.Legal.{IsPast}
use Rattle.group_rules.specs.World.{Past, Does, Writes, Halts, life_in, dids}
use Rattle.group_order.proofs.Nexts.{past_self, past_of}
use Rattle.group_legal.specs.Ranges.{HasSmallNumbers}
use Rattle.group_legal.specs.OwnRanges.{MadeInRange}
use Rattle.group_legal.proofs.Points.{did_here}
use Rattle.member_truth.specs.Growing.{Begins}
use Rattle.member_truth.specs.Ranged.{IsRangedDid, IsRanged, IsNumbered}
use Rattle.member_truth.specs.Truth.{IsTrue}
use Rattle.group_promises.specs.Promises.{EveryHistoryIsTrue, EveryStepIsPromised}

-- what is true of a history is true of those with which it begins
true_before : (t : Setup) (i : Inc) (x k : Life) → IsTrue t i (x ++ k) → IsTrue t i k
true_before t i [] k h = h
true_before t i (d ∷ x) k h = true_before t i x k h.1

module _ (q : Past) (i : Inc) where
  life_more : (more : Life) → life_in (dids i more ++ q) i ≡ more ++ life_in q i
  life_more [] = refl
  life_more (d ∷ more) = did_here (dids i more ++ q) i d ∙ ap (λ l. d ∷ l) (life_more more)

  past_more : (more : Life) → IsPast q (dids i more ++ q)
  past_more [] = past_self q
  past_more (d ∷ more) = inr (past_more more)

  numbered : (f : Effect) (g : Gtid) → f ≡ Positive g → IsNumbered f → IsNumber g.number
  numbered f g e h = subst IsNumbered e h

  given_more : (more : Life) → HasSmallNumbers q → IsRanged (more ++ life_in q i) → (p : Past) (j : Inc) (e : Entry) (g : Gtid) → IsPast (Does j (Took e) ∷ p) (dids i more ++ q) → e.effect ≡ Positive g → IsNumber g.number
  given_more [] s r p j e g k f = s.given p j e g k f
  given_more (d ∷ more) s r p j e g (inr k) f = given_more more s r.1 p j e g k f
  given_more (d ∷ more) s r p j e g (inl z) f =
      let same : Took e ≡ d = cc in
      numbered e.effect g f (subst IsRangedDid (sym same) r.0)

  pub small_more : (more : Life) → HasSmallNumbers q → IsRanged (more ++ life_in q i) → HasSmallNumbers (dids i more ++ q)
  small_more [] s r = s
  small_more (d ∷ more) s r = record { given = given_more (d ∷ more) s r; written = (small_more more s r.1).written }

  pub made_more : (more : Life) → MadeInRange q → IsRanged (more ++ life_in q i) → MadeInRange (dids i more ++ q)
  made_more [] s r p j v b k = s p j v b k
  made_more (d ∷ more) s r p j v b (inr k) = made_more more s r.1 p j v b k
  made_more (d ∷ more) s r p j v b (inl z) = let same : Made v (Some b) ≡ d = cc in subst IsRangedDid (sym same) r.0

  -- that with which it begins is of the step, or was there before
  abbrev BeganWith : Life → Life → Type 0
  BeganWith k more = Begins k (life_in q i) ⊎ ((first : Life) × (k ≡ first ++ life_in q i) × IsPast (dids i first ++ q) (dids i more ++ q))

  began_with : (k x more : Life) → more ++ life_in q i ≡ x ++ k → BeganWith k more
  began_with k x [] e = inl (x, e)
  began_with k [] (d ∷ more) e = inr (d ∷ more, sym e, past_self (dids i (d ∷ more) ++ q))
  began_with k (y ∷ x) (d ∷ more) e =
      let rest : more ++ life_in q i ≡ x ++ k = cc in
      elim (began_with k x more rest) [ inl b ↦ inl b | inr b ↦ inr (b.0, b.1, inr b.2) ]

-- a server that stops, and a row that is written offline, make no values and give no GTIDs
pub stopped_in_range : (q : Past) (n : ℕ) → HasSmallNumbers q → MadeInRange q → HasSmallNumbers (Halts n ∷ q) × MadeInRange (Halts n ∷ q)
stopped_in_range q n s r = (record { given = given; written = s.written }, made)
  where
    given : (p : Past) (j : Inc) (e : Entry) (g : Gtid) → IsPast (Does j (Took e) ∷ p) (Halts n ∷ q) → e.effect ≡ Positive g → IsNumber g.number
    given p j e g (inl z) f = absurd (cc z)
    given p j e g (inr k) f = s.given p j e g k f

    made : MadeInRange (Halts n ∷ q)
    made p j v b (inl z) = absurd (cc z)
    made p j v b (inr k) = r p j v b k

pub written_in_range : (q : Past) (n : ℕ) (x : OfflineWrite) → IsNumber x.gtid.number → HasSmallNumbers q → MadeInRange q → HasSmallNumbers (Writes n x ∷ q) × MadeInRange (Writes n x ∷ q)
written_in_range q n x small s r = (record { given = given; written = (small, s.written) }, made)
  where
    given : (p : Past) (j : Inc) (e : Entry) (g : Gtid) → IsPast (Does j (Took e) ∷ p) (Writes n x ∷ q) → e.effect ≡ Positive g → IsNumber g.number
    given p j e g (inl z) f = absurd (cc z)
    given p j e g (inr k) f = s.given p j e g k f

    made : MadeInRange (Writes n x ∷ q)
    made p j v b (inl z) = absurd (cc z)
    made p j v b (inr k) = r p j v b k

pub every_step_promised : EveryHistoryIsTrue → EveryStepIsPromised
every_step_promised law ms t e setup moves q i more m small ranges k b r = elim (began_with q i k b.0 more b.1) [
  | inl z ↦ true_before t i z.0 k (subst (IsTrue t i) z.1 (law ms t e setup moves q (past_of (dids i more ++ q) q _ m (past_more q i more)) small ranges i))
  | inr z ↦ (let ranged : IsRanged (z.0 ++ life_in q i) = subst IsRanged z.1 r in
      subst (IsTrue t i) (life_more q i z.0 ∙ sym z.1)
      (law ms t e setup moves (dids i z.0 ++ q) (past_of (dids i more ++ q) (dids i z.0 ++ q) _ m z.2) (small_more q i z.0 small ranged) (made_more q i z.0 ranges ranged) i))
]
