-- The test of incarnations says what it tests.
use Rattle.std.proofs.Common.{eqb, eq-eqb, ◌≡◌, Bool, true, false, refl, sym, subst, ◌∙◌}
use Rattle.std.proofs.lemmas.Bool.{and_from, and_parts, eqb-true, false≢true}
use Rattle.gr_ids.specs.Names.{inc_eq}
use Rattle.gr_ids.specs.declared.names.Inc.{Inc}

pub inc_same : (i : Inc) → inc_eq i i ≡ true
inc_same i = and_from _ _ (eq-eqb i.server i.server refl) (eq-eqb i.start i.start refl)

pub inc_is : (i j : Inc) → inc_eq i j ≡ true → i ≡ j
inc_is i j h =
    let x = and_parts (eqb i.server j.server) (eqb i.start j.start) h in
    let a : i.server ≡ j.server = eqb-true i.server j.server x.0 in
    let b : i.start ≡ j.start = eqb-true i.start j.start x.1 in
    λ k. record { server = a k; start = b k }

pub inc_back : (i j : Inc) → inc_eq i j ≡ inc_eq j i
inc_back i j = go (inc_eq i j) refl (inc_eq j i) refl
  where
    go : (a : Bool) → inc_eq i j ≡ a → (b : Bool) → inc_eq j i ≡ b → a ≡ b
    go true p true q = refl
    go false p false q = refl
    go true p false q = absurd (false≢true (sym q ∙ subst (λ (z : Inc). inc_eq z i ≡ true) (inc_is i j p) (inc_same i)))
    go false p true q = absurd (false≢true (sym p ∙ subst (λ (z : Inc). inc_eq z j ≡ true) (inc_is j i q) (inc_same j)))
