-- What a joiner was given stands before its own entries, and there it isn't a member yet.
use Rattle.std.proofs.Common.{◌≡◌, ◌⊎◌, inl, inr, ℕ, suc, ◌≤◌, Bool, true, false, cond, Some, None, List, [], ◌∷◌, refl, sym, ap, subst, ◌∙◌, length, arith}
use Rattle.std.proofs.lemmas.Bool.{false≢true}
use Rattle.gr_ids.specs.Names.{inc_eq}
use Rattle.gr_ids.specs.declared.names.Inc.{Inc}
use Rattle.group_rules.specs.Events.{Founds, Starts, Came, Made, Took, Skips, Done, Committed, Is, Gave, Answered, Begun, Changed, Replied, Called, AsksCommit, Ends, Enters, Restores, AskFails, Hears, Ticks, Works, Calls, Operates, Life, Setup}
use Rattle.group_rules.specs.Life.{has_give}
use Rattle.group_runs.specs.Runs.{is_founder}
use Rattle.group_laws.specs.Lists as listing
use Rattle.group_laws.specs.Lists.{Mem}
use Rattle.group_laws.specs.Entries as law
use Rattle.group_laws.specs.View as seen
use Rattle.group_laws.specs.Life as lives
use Rattle.group_laws.specs.Lawful.{upto, Requires}
use Rattle.group_laws.specs.World.{IsKeptList}
use Rattle.group_laws.proofs.Lists.{IsPast-self, IsPast-length}
use Rattle.group_laws.proofs.Certs.{parts_place, cons_cases}
use Rattle.group_laws.proofs.Views.{rank, rank_up, after_up}
use Rattle.group_laws.proofs.Worlds.{kept_past}
use Rattle.group_laws.proofs.Acks.{upto_past, upto_is_past, values_past}
use Rattle.group_lives.specs.Lives.{life_of}
use Rattle.group_lives.specs.Sound.{IsNew, AddsNew}
use Rattle.group_lives.proofs.Taking.{skip_made, skip_answer, skip_state}
use Rattle.group_lawful.specs.Knows.{certified_of, EndsWithAdd, Sound}

-- places begin with 1
pub cert_place : (t : Setup) (m : List law.Placed) (d : law.Cert) → Mem d (law.certified t m) → 1 ≤ d.place
cert_place t [] d h = absurd h
cert_place t (e ∷ m) d h = go (cons_cases (law.cert_of t (suc (length m)) e) (law.certified t m) d h) (cert_place t m d)
  where
    go : (law.cert_of t (suc (length m)) e ≡ Some d) ⊎ Mem d (law.certified t m) → (Mem d (law.certified t m) → 1 ≤ d.place) → 1 ≤ d.place
    go (inl q) f = let p = parts_place t (suc (length m)) e.value.origin e.value.number e.value.body e.outcome d q in omega (arith, p)
    go (inr k) f = f k

in_rank : (x : seen.Standing) → seen.is_in x ≡ true → 1 ≤ rank x
in_rank seen.Absent h = absurd (false≢true h)
in_rank seen.Recovering h = omega arith
in_rank seen.Active h = omega arith
in_rank seen.Gone h = absurd (false≢true h)

parts_origin : (t : Setup) (n : ℕ) (e : law.Placed) (d : law.Cert) → law.cert_of t n e ≡ Some d → d.origin ≡ e.value.origin
parts_origin t n e d h = go e.value.body e.outcome h
  where
    go : (b : law.Body) (o : law.Outcome) → law.cert_parts t n e.value.origin e.value.number b o ≡ Some d → d.origin ≡ e.value.origin
    go (law.Write x) (law.Positive y) q = let z : record { place = n; origin = e.value.origin; id = e.value.number; gtid = record { source = t.limits.group; number = y }; txn = x } ≡ d = cc in ap (λ (c : law.Cert). c.origin) (sym z)
    go (law.Write x) (law.Conflict y) q = absurd (cc q)
    go (law.Write x) law.NoTxn q = absurd (cc q)
    go (law.Executed x) o q = absurd (cc q)
    go (law.Online x) o q = absurd (cc q)
    go (law.Joins x) o q = absurd (cc q)
    go (law.Leaves x) o q = absurd (cc q)
    go (law.Prepared x) o q = absurd (cc q)
    go (law.Switches x) o q = absurd (cc q)
    go (law.Appoints x) o q = absurd (cc q)
    go law.Plain o q = absurd (cc q)

-- the origin of a certified transaction has been a member
pub origin_came : (t : Setup) (m : List law.Placed) (d : law.Cert) → IsKeptList t (law.values m) → Mem d (law.certified t m) → 1 ≤ rank (seen.standing t (law.values m) d.origin)
origin_came t [] d k h = absurd h
origin_came t (e ∷ m) d k h = go (cons_cases (law.cert_of t (suc (length m)) e) (law.certified t m) d h) (origin_came t m d k.1)
  where
    up : rank (seen.standing t (law.values m) d.origin) ≤ rank (seen.standing t (law.values (e ∷ m)) d.origin)
    up = after_up d.origin e.value.origin e.value.body (seen.standing t (law.values m) d.origin)

    go : (law.cert_of t (suc (length m)) e ≡ Some d) ⊎ Mem d (law.certified t m) → (Mem d (law.certified t m) → 1 ≤ rank (seen.standing t (law.values m) d.origin)) → 1 ≤ rank (seen.standing t (law.values (e ∷ m)) d.origin)
    go (inl q) f =
        let o = parts_origin t (suc (length m)) e d q in
        let n = in_rank (seen.standing t (law.values m) d.origin) (ap (seen.member t (law.values m)) o ∙ k.0.1) in
        omega (arith, n, up)
    go (inr z) f = let n = f z in omega (arith, n, up)

values_length : (xs : List law.Placed) → length (law.values xs) ≡ length xs
values_length [] = refl
values_length (x ∷ xs) = ap suc (values_length xs)

pub adds_past : (t : Setup) (p k : List law.Value) → listing.IsPast p k → AddsNew t k → AddsNew t p
adds_past t p [] h a = subst (AddsNew t) (sym h) tt
adds_past t p (v ∷ k) (inl e) a = subst (AddsNew t) (sym e) a
adds_past t p (v ∷ k) (inr h) a = adds_past t p k h a.1

-- a certified transaction of a list is one of the list up to its place
pub cert_within : (t : Setup) (p k : List law.Placed) (d : law.Cert) → listing.IsPast p k → Mem d (law.certified t k) → d.place ≤ length p → Mem d (law.certified t p)
cert_within t p [] d h m n = absurd m
cert_within t p (e ∷ k) d (inl q) m n = subst (λ y. Mem d (law.certified t y)) (sym q) m
cert_within t p (e ∷ k) d (inr h) m n = go (cons_cases (law.cert_of t (suc (length k)) e) (law.certified t k) d m) (λ z. cert_within t p k d h z n)
  where
    go : (law.cert_of t (suc (length k)) e ≡ Some d) ⊎ Mem d (law.certified t k) → (Mem d (law.certified t k) → Mem d (law.certified t p)) → Mem d (law.certified t p)
    go (inl q) f =
        let a = parts_place t (suc (length k)) e.value.origin e.value.number e.value.body e.outcome d q in
        let b = IsPast-length p k h in
        absurd (omega (arith, a, b, n))
    go (inr z) f = f z

module _ (t : Setup) (i : Inc) (base : List law.Placed) where
  -- the list of a joiner that is ready goes on from what it was given
  pub base_past : (l : Life) → has_give l ≡ true → listing.IsPast base (lives.marked (life_of base l))
  base_past [] h = absurd (false≢true h)
  base_past (Took e ∷ l) h = inr (base_past l h)
  base_past (Restores y cs ∷ l) h = IsPast-self base
  base_past (Made v y ∷ l) h = subst (listing.IsPast base) (sym (skip_made v y l (life_of base l))) (base_past l h)
  base_past (Answered u y ∷ l) h = subst (listing.IsPast base) (sym (skip_answer base u y l (life_of base l))) (base_past l h)
  base_past (Is y c ∷ l) h = subst (listing.IsPast base) (sym (skip_state base y c l (life_of base l))) (base_past l h)
  base_past (Came (Hears n) ∷ l) h = base_past l h
  base_past (Came Ticks ∷ l) h = base_past l h
  base_past (Came (Works z y) ∷ l) h = base_past l h
  base_past (Came (Calls z y) ∷ l) h = base_past l h
  base_past (Came (Operates z) ∷ l) h = base_past l h
  base_past (Skips u v ∷ l) h = base_past l h
  base_past (Gave n j ∷ l) h = base_past l h
  base_past (Replied r ∷ l) h = base_past l h
  base_past (AskFails ∷ l) h = base_past l h
  base_past (Founds ∷ l) h = base_past l h
  base_past (Enters z ∷ l) h = base_past l h
  base_past (Starts x ∷ l) h = base_past l h
  base_past (Committed y ∷ l) h = base_past l h
  base_past (Done p ∷ l) h = base_past l h
  base_past (Begun u y z ∷ l) h = base_past l h
  base_past (Changed u z ∷ l) h = base_past l h
  base_past (Called u v w ∷ l) h = base_past l h
  base_past (AsksCommit u y ∷ l) h = base_past l h
  base_past (Ends u ∷ l) h = base_past l h

  -- after it the joiner is RECOVERING
  base_rank : EndsWithAdd i base → AddsNew t (law.values base) → (rank (seen.standing t (law.values base) i) ≤ 1) × ((d : law.Cert) → IsKeptList t (law.values base) → Mem d (law.certified t base) → d.origin ≡ i → ⊥)
  base_rank n adds = (small, none)
    where
      a : AddsNew t (n.add.value ∷ law.values n.rest)
      a = subst (λ y. AddsNew t (law.values y)) n.is_base adds

      new : seen.standing t (law.values n.rest) i ≡ seen.Absent
      new = ap (seen.standing t (law.values n.rest)) (sym n.inc) ∙ subst (IsNew t (law.values n.rest)) n.joins a.0

      joins : (b : Bool) → rank (cond b (seen.on_join seen.Absent) seen.Absent) ≤ 1
      joins true = omega arith
      joins false = omega arith

      now : seen.standing t (law.values base) i ≡ cond (inc_eq (n.joiner).inc i) (seen.on_join seen.Absent) seen.Absent
      now =
          ap (λ y. seen.standing t (law.values y) i) n.is_base
          ∙ ap (λ b. seen.stands_after i n.add.value.origin b (seen.standing t (law.values n.rest) i)) n.joins
          ∙ ap (λ x. cond (inc_eq (n.joiner).inc i) (seen.on_join x) x) new

      small : rank (seen.standing t (law.values base) i) ≤ 1
      small = subst (λ x. rank x ≤ 1) (sym now) (joins (inc_eq (n.joiner).inc i))

      none : (d : law.Cert) → IsKeptList t (law.values base) → Mem d (law.certified t base) → d.origin ≡ i → ⊥
      none d k m e =
          let k2 : IsKeptList t (n.add.value ∷ law.values n.rest) = subst (λ y. IsKeptList t (law.values y)) n.is_base k in
          let m2 : Mem d (law.certified t (n.add ∷ n.rest)) = subst (λ y. Mem d (law.certified t y)) n.is_base m in
          let no_cert : law.cert_of t (suc (length n.rest)) n.add ≡ None = ap (λ b. law.cert_parts t (suc (length n.rest)) n.add.value.origin n.add.value.number b n.add.outcome) n.joins in
          let m3 : Mem d (law.certified t n.rest) = subst (λ o. Mem d (law.cons_some o (law.certified t n.rest))) no_cert m2 in
          let r = origin_came t n.rest d k2.1 m3 in
          let z : rank (seen.standing t (law.values n.rest) d.origin) ≡ 0 = ap rank (ap (seen.standing t (law.values n.rest)) e ∙ new) in
          absurd (omega (arith, r, z))

  -- what was given is of others, and doesn't require the joiner
  pub given_before : (l : Life) → Sound t i base l → has_give l ≡ true → is_founder t i ≡ false → (d : law.Cert) → Mem d (certified_of t base l) → d.place ≤ length base → (d.origin ≡ i) ⊎ Requires t (lives.taken (life_of base l)) d i → ⊥
  given_before l s g f d m n r =
      let past = base_past l g in
      let vals : listing.IsPast (law.values base) (lives.taken (life_of base l)) = values_past base (lives.marked (life_of base l)) past in
      let adds : AddsNew t (law.values base) = adds_past t (law.values base) (lives.taken (life_of base l)) vals s.adds in
      let kept : IsKeptList t (law.values base) = kept_past t (law.values base) (lives.taken (life_of base l)) vals s.kept in
      let b = base_rank (s.joined f) adds in
      elim r [
        | inl e ↦ b.1 d kept (certified_back_of d m n past) e
        | inr a ↦ active d.place vals n b.0 a
      ]
    where
      two : (x : seen.Standing) → seen.is_active x ≡ true → rank x ≡ 2
      two seen.Absent e = absurd (false≢true e)
      two seen.Recovering e = absurd (false≢true e)
      two seen.Active e = refl
      two seen.Gone e = absurd (false≢true e)

      certified_back_of : (d : law.Cert) → Mem d (certified_of t base l) → d.place ≤ length base → listing.IsPast base (lives.marked (life_of base l)) → Mem d (law.certified t base)
      certified_back_of d m n p = cert_within t base (lives.marked (life_of base l)) d p m n

      active : (k : ℕ) → listing.IsPast (law.values base) (lives.taken (life_of base l)) → k ≤ length base → rank (seen.standing t (law.values base) i) ≤ 1 → seen.active t (upto k (lives.taken (life_of base l))) i ≡ true → ⊥
      active k vals n b a =
          let long : length (law.values base) ≡ length base = values_length base in
          let same : upto k (lives.taken (life_of base l)) ≡ upto k (law.values base) = upto_past k (law.values base) (lives.taken (life_of base l)) vals (omega (arith, n, long)) in
          let r = rank_up t (upto k (law.values base)) (law.values base) i (upto_is_past k (law.values base)) in
          let z : rank (seen.standing t (upto k (law.values base)) i) ≡ 2 = two (seen.standing t (upto k (law.values base)) i) (ap (λ y. seen.active t y i) (sym same) ∙ a) in
          absurd (omega (arith, r, z, b))
