-- The lives in the run of a world are those of its histories.
use Rattle.std.proofs.Common.{◌≡◌, Bool, true, false, cond, List, [], ◌∷◌, ◌++◌, refl, ◌∙◌, ap}
use Rattle.gr_ids.specs.declared.names.Inc.{Inc}
use Rattle.gr_ids.specs.Names.{inc_eq}
use Rattle.group_rules.specs.World.{Past, Does, Writes as WritesOffline, Halts, life_in}
use Rattle.group_laws.specs.Entries as law
use Rattle.group_laws.specs.Life as lives
use Rattle.group_laws.specs.World as run
use Rattle.node_rules.proofs.Incs.{inc_is}
use Rattle.group_lives.specs.Lives.{did_of, life_of, all_did, run_of}

did_alone : (i j : Inc) (ds : List lives.Did) (w : run.World) → run.life (all_did j ds ++ w) i ≡ cond (inc_eq j i) (ds ++ run.life w i) (run.life w i)
did_alone i j [] w = go (inc_eq j i)
  where
    go : (b : Bool) → run.life w i ≡ cond b (run.life w i) (run.life w i)
    go true = refl
    go false = refl
did_alone i j (d ∷ ds) w = go (inc_eq j i) (did_alone i j ds w)
  where
    go : (b : Bool) → run.life (all_did j ds ++ w) i ≡ cond b (ds ++ run.life w i) (run.life w i) → cond b (d ∷ run.life (all_did j ds ++ w) i) (run.life (all_did j ds ++ w) i) ≡ cond b (d ∷ ds ++ run.life w i) (run.life w i)
    go true h = ap (λ (y : lives.Life). d ∷ y) h
    go false h = h

pub lives_agree : (base : Inc → List law.Placed) (p : Past) (i : Inc) → run.life (run_of base p) i ≡ life_of (base i) (life_in p i)
lives_agree base [] i = refl
lives_agree base (Does j d ∷ p) i = did_alone i j (did_of (base j) d (life_in p j)) (run_of base p) ∙ go (inc_eq j i) refl (lives_agree base p i)
  where
    go : (b : Bool) → inc_eq j i ≡ b → run.life (run_of base p) i ≡ life_of (base i) (life_in p i) → cond b (did_of (base j) d (life_in p j) ++ run.life (run_of base p) i) (run.life (run_of base p) i) ≡ life_of (base i) (elim b [ true ↦ d ∷ life_in p i | false ↦ life_in p i ])
    go true e h =
        let q : j ≡ i = inc_is j i e in
        λ k. did_of (base (q k)) d (life_in p (q k)) ++ h k
    go false e h = h
lives_agree base (WritesOffline n x ∷ p) i = lives_agree base p i
lives_agree base (Halts n ∷ p) i = lives_agree base p i
