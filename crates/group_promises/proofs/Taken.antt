-- The entry to which a history goes back at a place, and that by which a member has prepared.
use Rattle.std.proofs.Common.{◌≡◌, ◌⊎◌, inl, inr, ℕ, Bool, true, false, ◌&&◌, Option, Some, None, [], ◌∷◌, refl, sym, ap, subst, ◌∙◌}
use Rattle.std.specs.Prelude.{◌==◌}
use Rattle.std.proofs.lemmas.Bool.{false≢true, and_parts, eqb-true}
use Rattle.gr_ids.specs.Names.{inc_eq}
use Rattle.gr_ids.specs.declared.names.Inc.{Inc}
use Rattle.gr_ids.specs.declared.names.Gtid.{Gtid}
use Rattle.txn_forms.specs.declared.body.Body.{Body}
use Rattle.txn_forms.specs.declared.body.Body.TheVariants.{Txn as HasTxn, Prepared, Sync, Executed, Online as Arrives, Mode as Switches, Primary as Appoints, Part as PartOf}
use Rattle.node_rules.proofs.Incs.{inc_is}
use Rattle.group_rules.specs.Events.{Did, Founds, Starts, Came, Made, Took, Skips, Done, Committed, Is, Gave, Answered, Begun, Changed, Replied, Called, AsksCommit, Ends, Enters, Restores, AskFails, Hears, Ticks, Works, Calls, Operates, Life, Entry}
use Rattle.group_rules.specs.Life.{upto}
use Rattle.group_rules.specs.Commit.{has_prepared, prepares}
use Rattle.group_rules.specs.Legal.{IsPast}
use Rattle.group_rules.specs.World.{Past, Does, Writes, Halts, life_in}
use Rattle.group_laws.proofs.Names.{gtid_eq_same}

-- what is no entry changes neither
record Quiet (d : Did) : Type 0 where
  upto : (l : Life) (n : ℕ) → upto (d ∷ l) n ≡ upto l n
  prepared : (l : Life) (m : Inc) (g : Gtid) → has_prepared (d ∷ l) m g ≡ has_prepared l m g

took_or : (d : Did) → ((e : Entry) × (d ≡ Took e)) ⊎ Quiet d
took_or (Took e) = inl (e, refl)
took_or Founds = inr (record { upto = λ l n. refl; prepared = λ l m g. refl })
took_or (Starts y) = inr (record { upto = λ l n. refl; prepared = λ l m g. refl })
took_or (Came (Hears n)) = inr (record { upto = λ l n. refl; prepared = λ l m g. refl })
took_or (Came Ticks) = inr (record { upto = λ l n. refl; prepared = λ l m g. refl })
took_or (Came (Works z y)) = inr (record { upto = λ l n. refl; prepared = λ l m g. refl })
took_or (Came (Calls z y)) = inr (record { upto = λ l n. refl; prepared = λ l m g. refl })
took_or (Came (Operates z)) = inr (record { upto = λ l n. refl; prepared = λ l m g. refl })
took_or (Skips u v) = inr (record { upto = λ l n. refl; prepared = λ l m g. refl })
took_or (Gave n j) = inr (record { upto = λ l n. refl; prepared = λ l m g. refl })
took_or (Replied r) = inr (record { upto = λ l n. refl; prepared = λ l m g. refl })
took_or AskFails = inr (record { upto = λ l n. refl; prepared = λ l m g. refl })
took_or (Enters z) = inr (record { upto = λ l n. refl; prepared = λ l m g. refl })
took_or (Done n) = inr (record { upto = λ l n. refl; prepared = λ l m g. refl })
took_or (Begun u y z) = inr (record { upto = λ l n. refl; prepared = λ l m g. refl })
took_or (Changed u z) = inr (record { upto = λ l n. refl; prepared = λ l m g. refl })
took_or (Called u y z) = inr (record { upto = λ l n. refl; prepared = λ l m g. refl })
took_or (AsksCommit u y) = inr (record { upto = λ l n. refl; prepared = λ l m g. refl })
took_or (Ends u) = inr (record { upto = λ l n. refl; prepared = λ l m g. refl })
took_or (Made u y) = inr (record { upto = λ l n. refl; prepared = λ l m g. refl })
took_or (Answered u y) = inr (record { upto = λ l n. refl; prepared = λ l m g. refl })
took_or (Is y z) = inr (record { upto = λ l n. refl; prepared = λ l m g. refl })
took_or (Restores y z) = inr (record { upto = λ l n. refl; prepared = λ l m g. refl })
took_or (Committed u) = inr (record { upto = λ l n. refl; prepared = λ l m g. refl })

-- ---- back to a place

-- the history begins with nothing at that place, or with what it was right after it took it
abbrev pub BackTo : Life → Past → Inc → ℕ → Type 0
BackTo l p i n = (upto l n ≡ []) ⊎ ((e : Entry) × (q : Past) × IsPast (Does i (Took e) ∷ q) p × (upto l n ≡ Took e ∷ life_in q i) × (e.place ≡ n))

pub back_to : (p : Past) (i : Inc) (n : ℕ) → BackTo (life_in p i) p i n
back_to [] i n = inl refl
back_to (Writes m y ∷ p) i n = elim (back_to p i n) [ inl z ↦ inl z | inr z ↦ inr (z.0, z.1, inr z.2, z.3, z.4) ]
back_to (Halts m ∷ p) i n = elim (back_to p i n) [ inl z ↦ inl z | inr z ↦ inr (z.0, z.1, inr z.2, z.3, z.4) ]
back_to (Does j d ∷ p) i n = go (inc_eq j i) refl (back_to p i n)
  where
    took : j ≡ i → BackTo (life_in p i) p i n → (x : Entry) (b : Bool) → (x.place == n) ≡ b → BackTo (Took x ∷ life_in p i) (Does j (Took x) ∷ p) i n
    took s r x true z = inr (x, p, inl (ap (λ y. Does y (Took x) ∷ p) (sym s)), ap (λ b. elim b [ true ↦ Took x ∷ life_in p i | false ↦ upto (life_in p i) n ]) z, eqb-true x.place n z)
    took s r x false z =
        let here : upto (Took x ∷ life_in p i) n ≡ upto (life_in p i) n = ap (λ b. elim b [ true ↦ Took x ∷ life_in p i | false ↦ upto (life_in p i) n ]) z in
        elim r [ inl a ↦ inl (here ∙ a) | inr a ↦ inr (a.0, a.1, inr a.2, here ∙ a.3, a.4) ]

    one : j ≡ i → BackTo (life_in p i) p i n → ((x : Entry) × (d ≡ Took x)) ⊎ Quiet d → BackTo (d ∷ life_in p i) (Does j d ∷ p) i n
    one s r (inl (x, q)) = subst (λ y. BackTo (y ∷ life_in p i) (Does j y ∷ p) i n) (sym q) (took s r x (x.place == n) refl)
    one s r (inr k) = elim r [ inl a ↦ inl (k.upto (life_in p i) n ∙ a) | inr a ↦ inr (a.0, a.1, inr a.2, k.upto (life_in p i) n ∙ a.3, a.4) ]

    go : (b : Bool) → inc_eq j i ≡ b → BackTo (life_in p i) p i n → BackTo (elim b [ true ↦ d ∷ life_in p i | false ↦ life_in p i ]) (Does j d ∷ p) i n
    go true e r = one (inc_is j i e) r (took_or d)
    go false e r = elim r [ inl z ↦ inl z | inr z ↦ inr (z.0, z.1, inr z.2, z.3, z.4) ]

-- ---- who has prepared

prepared_is : (b : Option Body) (g : Gtid) → prepares b g ≡ true → b ≡ Some (Prepared g)
prepared_is (Some (Prepared h)) g e = ap (λ y. Some (Prepared y)) (gtid_eq_same h g e)
prepared_is None g e = absurd (false≢true e)
prepared_is (Some (HasTxn x)) g e = absurd (false≢true e)
prepared_is (Some Sync) g e = absurd (false≢true e)
prepared_is (Some (Executed x)) g e = absurd (false≢true e)
prepared_is (Some (Arrives x)) g e = absurd (false≢true e)
prepared_is (Some (Switches x)) g e = absurd (false≢true e)
prepared_is (Some (Appoints x)) g e = absurd (false≢true e)
prepared_is (Some (PartOf x)) g e = absurd (false≢true e)

-- it took the entry of that
abbrev pub TookPrepared : Past → Inc → Gtid → Type 0
TookPrepared p i g = (e : Entry) × (q : Past) × IsPast (Does i (Took e) ∷ q) p × (e.holds ≡ Some (Prepared g))

pub took_prepared : (p : Past) (i m : Inc) (g : Gtid) → has_prepared (life_in p i) m g ≡ true → TookPrepared p i g
took_prepared [] i m g h = absurd (false≢true h)
took_prepared (Writes n y ∷ p) i m g h = let z = took_prepared p i m g h in (z.0, z.1, inr z.2, z.3)
took_prepared (Halts n ∷ p) i m g h = let z = took_prepared p i m g h in (z.0, z.1, inr z.2, z.3)
took_prepared (Does j d ∷ p) i m g h = go (inc_eq j i) refl h (took_prepared p i m g)
  where
    took : j ≡ i → (has_prepared (life_in p i) m g ≡ true → TookPrepared p i g) → (x : Entry) (b : Bool) → (inc_eq x.value.id.origin m && prepares x.holds g) ≡ b
        → ◌≡◌ {A = Bool} (elim b [ true ↦ true | false ↦ has_prepared (life_in p i) m g ]) true → TookPrepared (Does j (Took x) ∷ p) i g
    took s r x true z y = (x, p, inl (ap (λ y. Does y (Took x) ∷ p) (sym s)), prepared_is x.holds g (and_parts (inc_eq x.value.id.origin m) (prepares x.holds g) z).1)
    took s r x false z y = let a = r y in (a.0, a.1, inr a.2, a.3)

    one : j ≡ i → (has_prepared (life_in p i) m g ≡ true → TookPrepared p i g) → has_prepared (d ∷ life_in p i) m g ≡ true → ((x : Entry) × (d ≡ Took x)) ⊎ Quiet d → TookPrepared (Does j d ∷ p) i g
    one s r y (inl (x, q)) = subst (λ u. TookPrepared (Does j u ∷ p) i g) (sym q) (took s r x (inc_eq x.value.id.origin m && prepares x.holds g) refl (ap (λ u. has_prepared (u ∷ life_in p i) m g) (sym q) ∙ y))
    one s r y (inr k) = let a = r (sym (k.prepared (life_in p i) m g) ∙ y) in (a.0, a.1, inr a.2, a.3)

    go : (b : Bool) → inc_eq j i ≡ b → has_prepared (elim b [ true ↦ d ∷ life_in p i | false ↦ life_in p i ]) m g ≡ true → (has_prepared (life_in p i) m g ≡ true → TookPrepared p i g) → TookPrepared (Does j d ∷ p) i g
    go true e y r = one (inc_is j i e) r y (took_or d)
    go false e y r = let a = r y in (a.0, a.1, inr a.2, a.3)
