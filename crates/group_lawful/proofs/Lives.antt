-- The history of an incarnation in a run, taken by itself.
use Rattle.std.proofs.Common.{◌≡◌, inl, inr, Bool, true, false, [], ◌∷◌, refl, subst}
use Rattle.gr_ids.specs.declared.names.Inc.{Inc}
use Rattle.gr_ids.specs.Names.{inc_eq}
use Rattle.node_rules.proofs.Incs.{inc_is}
use Rattle.group_rules.specs.Events.{Did, Founds, Starts, Came, Made, Took, Skips, Done, Committed, Is, Gave, Answered, Begun, Changed, Replied, Called, AsksCommit, Ends, Enters, Restores, AskFails, Hears, Setup}
use Rattle.group_rules.specs.World.{Past, Does, Writes as WritesOffline, Halts, life_in}
use Rattle.group_runs.specs.Runs.{AllDid, IsActive, ByRules, IsDone}
use Rattle.group_lawful.specs.Lived.{GoesOn, ByTests, LivedDid, Lived}

goes_on : (t : Setup) (p : Past) (i : Inc) (d : Did) → IsActive p i d → GoesOn i d (life_in p i)
goes_on t p i d h = record { begun = h.begun; settled = h.settled }

by_tests : (t : Setup) (p : Past) (i : Inc) (d : Did) → ByRules t p i d → ByTests t i d (life_in p i)
by_tests t p i d h = record { goes_on = goes_on t p i d h.0; event = h.1.0; allowed = h.1.1 }

lived_did : (t : Setup) (p : Past) (i : Inc) (d : Did) → IsDone t p i d → LivedDid t i d (life_in p i)
lived_did t p i Founds h = (h.1, h.2)
lived_did t p i (Starts x) h = (h.1, h.2)
lived_did t p i (Came (Hears m)) h = goes_on t p i (Came (Hears m)) h.0
lived_did t p i (Is x c) h = elim h [ inl k ↦ inl k.1 | inr k ↦ inr (by_tests t p i (Is x c) k) ]
lived_did t p i (Came e) h = by_tests t p i (Came e) h
lived_did t p i (Made v y) h = by_tests t p i (Made v y) h
lived_did t p i (Took e) h = by_tests t p i (Took e) h
lived_did t p i (Skips s v) h = by_tests t p i (Skips s v) h
lived_did t p i (Done n) h = by_tests t p i (Done n) h
lived_did t p i (Committed g) h = by_tests t p i (Committed g) h
lived_did t p i (Gave n m) h = by_tests t p i (Gave n m) h
lived_did t p i (Answered s x) h = by_tests t p i (Answered s x) h
lived_did t p i (Begun s x y) h = by_tests t p i (Begun s x y) h
lived_did t p i (Changed s c) h = by_tests t p i (Changed s c) h
lived_did t p i (Replied r) h = by_tests t p i (Replied r) h
lived_did t p i (Called s v w) h = by_tests t p i (Called s v w) h
lived_did t p i (AsksCommit s y) h = by_tests t p i (AsksCommit s y) h
lived_did t p i (Ends s) h = by_tests t p i (Ends s) h
lived_did t p i (Enters w) h = by_tests t p i (Enters w) h
lived_did t p i (Restores g cs) h = by_tests t p i (Restores g cs) h
lived_did t p i AskFails h = by_tests t p i AskFails h

pub lived : (t : Setup) (p : Past) → AllDid (IsDone t) p → (i : Inc) → Lived t i (life_in p i)
lived t [] h i = tt
lived t (WritesOffline n y ∷ p) h i = lived t p h i
lived t (Halts n ∷ p) h i = lived t p h i
lived t (Does j d ∷ p) h i = go (inc_eq j i) refl (lived t p h.1 i)
  where
    go : (b : Bool) → inc_eq j i ≡ b → Lived t i (life_in p i) → Lived t i (elim b [ true ↦ d ∷ life_in p i | false ↦ life_in p i ])
    go true e k = (lived_did t p i d (subst (λ y. IsDone t p y d) (inc_is j i e) h.0), k)
    go false e k = k
