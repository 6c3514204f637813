-- Each incarnation takes consecutive slots: each one is the next after its last.
use Rattle.std.proofs.Common.{append-nil, ◌≡◌, ◌⊎◌, inl, inr, ℕ, zero, suc, ◌+◌, ◌-◌, ◌≤◌, ◌<◌, Bool, true, false, Option, Some, None, List, [], ◌∷◌, ◌++◌, refl, sym, ap, subst, ◌∙◌, length, length-append, arith}
use Rattle.std.proofs.lemmas.Bool.{false≢true, cases_Bool}
use Rattle.gr_ids.specs.Names.{inc_eq, has_inc}
use Rattle.gr_ids.specs.declared.names.Inc.{Inc}
use Rattle.slot_values.specs.Log.{Turns}
use Rattle.paxos_forms.specs.declared.welcome.Welcome.{Welcome}
use Rattle.node_rules.specs.Node.{Node}
use Rattle.node_rules.specs.World as nodes
use Rattle.order_laws.specs.Laws.{InEveryRun, AddedIn, Consecutive, slots_by, count_up}
use Rattle.group_rules.specs.Events.{Did, Founds, Starts, Came, Made, Took, Skips, Done, Committed, Is, Gave, Answered, Begun, Changed, Replied, Called, AsksCommit, Ends, Enters, Restores, AskFails, Life, Setup}
use Rattle.group_rules.specs.Life.{state, is_offline, entered}
use Rattle.group_rules.specs.Legal.{last_slot}
use Rattle.group_rules.specs.Steps.{group_of}
use Rattle.group_rules.specs.World.{World, Past, Does, Writes, Halts, life_in}
use Rattle.group_bridge.specs.Moves.{slots_in}
use Rattle.group_runs.specs.Runs.{as_sent, IsSetup, is_founder, AllDid, IsDone, OfNodes}
use Rattle.node_rules.proofs.Incs.{inc_is}
use Rattle.group_order.proofs.Shapes.{Shape, Waits, not_entering, shapes}

some_none : {A : Type 0} (x : A) → Some x ≡ None → ⊥
some_none x e = absurd (cc e)

some_is : {A : Type 0} {x y : A} → Some x ≡ Some y → x ≡ y
some_is {x = x} {y = y} e = cc

-- ---- the last slot of a history

pub record Last (l : Life) : Type 0 where
  -- that of the slot taken last
  pub some : (slots_in l ≡ []) ⊎ ((xs : List ℕ) × (slots_in l ≡ xs ++ last_slot l ∷ []))
  -- or of the Welcome
  pub welcomed : (w : Welcome) → entered l ≡ Some w → slots_in l ≡ [] → last_slot l ≡ w.slot
  pub none : entered l ≡ None → slots_in l ≡ [] → last_slot l ≡ 0

cons_end : (xs : List ℕ) (x : ℕ) → xs ++ x ∷ [] ≡ [] → ⊥
cons_end [] x e = absurd (cc e)
cons_end (y ∷ xs) x e = absurd (cc e)

-- a Welcome comes before all slots
pub enters_waits : (t : Setup) (p : Past) (i : Inc) (w : Welcome) → IsDone t p i (Enters w) → Shape t i (life_in p i) → Waits (life_in p i)
enters_waits t p i w h o = elim (cases_Bool (is_founder t i)) [ inl f ↦ absurd (false≢true (sym ((o.founder f).begun (h.0).begun) ∙ off)) | inr f ↦ waits f ]
  where
    off : is_offline (state (life_in p i)) ≡ true
    off = subst (λ l. is_offline (state l) ≡ true) (sym (h.1.1).heard) (h.1.1).offline

    waits : is_founder t i ≡ false → Waits (life_in p i)
    waits f = elim ((o.joiner f).offline off) [ inl q ↦ (o.joiner f).unentered q | inr q ↦ absurd (not_entering i (life_in p i) (h.0).settled q) ]

last_more : (t : Setup) (p : Past) (i : Inc) (d : Did) → IsDone t p i d → Shape t i (life_in p i) → Last (life_in p i) → Last (d ∷ life_in p i)
last_more t p i (Took e) h o l = record { some = inr (slots_in (life_in p i), refl); welcomed = λ w q z. absurd (cons_end (slots_in (life_in p i)) e.slot z); none = λ q z. absurd (cons_end (slots_in (life_in p i)) e.slot z) }
last_more t p i (Skips s v) h o l = record { some = inr (slots_in (life_in p i), refl); welcomed = λ w q z. absurd (cons_end (slots_in (life_in p i)) s z); none = λ q z. absurd (cons_end (slots_in (life_in p i)) s z) }
last_more t p i (Enters w) h o l = record { some = inl (enters_waits t p i w h o).slots; welcomed = λ u q z. ap (λ y. y.slot) (some_is q); none = λ q z. absurd (some_none w q) }
last_more t p i (Came x) h o l = record { some = l.some; welcomed = l.welcomed; none = l.none }
last_more t p i Founds h o l = record { some = l.some; welcomed = l.welcomed; none = l.none }
last_more t p i (Starts x) h o l = record { some = l.some; welcomed = l.welcomed; none = l.none }
last_more t p i (Made v k) h o l = record { some = l.some; welcomed = l.welcomed; none = l.none }
last_more t p i (Done n) h o l = record { some = l.some; welcomed = l.welcomed; none = l.none }
last_more t p i (Committed g) h o l = record { some = l.some; welcomed = l.welcomed; none = l.none }
last_more t p i (Is s c) h o l = record { some = l.some; welcomed = l.welcomed; none = l.none }
last_more t p i (Gave n m) h o l = record { some = l.some; welcomed = l.welcomed; none = l.none }
last_more t p i (Answered s x) h o l = record { some = l.some; welcomed = l.welcomed; none = l.none }
last_more t p i (Begun s x y) h o l = record { some = l.some; welcomed = l.welcomed; none = l.none }
last_more t p i (Changed s c) h o l = record { some = l.some; welcomed = l.welcomed; none = l.none }
last_more t p i (Replied r) h o l = record { some = l.some; welcomed = l.welcomed; none = l.none }
last_more t p i (Called s v w) h o l = record { some = l.some; welcomed = l.welcomed; none = l.none }
last_more t p i (AsksCommit s j) h o l = record { some = l.some; welcomed = l.welcomed; none = l.none }
last_more t p i (Ends s) h o l = record { some = l.some; welcomed = l.welcomed; none = l.none }
last_more t p i (Restores g cs) h o l = record { some = l.some; welcomed = l.welcomed; none = l.none }
last_more t p i AskFails h o l = record { some = l.some; welcomed = l.welcomed; none = l.none }

pub lasts : (t : Setup) (p : Past) → AllDid (IsDone t) p → (i : Inc) → Last (life_in p i)
lasts t [] h i = record { some = inl refl; welcomed = λ w q z. absurd (some_none w (sym q)); none = λ q z. refl }
lasts t (Writes n x ∷ p) h i = lasts t p h i
lasts t (Halts n ∷ p) h i = lasts t p h i
lasts t (Does j d ∷ p) h i = go (inc_eq j i) refl (lasts t p h.1 i)
  where
    go : (b : Bool) → inc_eq j i ≡ b → Last (life_in p i) → Last (elim b [ true ↦ d ∷ life_in p i | false ↦ life_in p i ])
    go true q l = last_more t p i d (subst (λ k. IsDone t p k d) (inc_is j i q) h.0) (shapes t p h.1 i) l
    go false q l = l

-- ---- counted up

count_length : (a n : ℕ) → length (count_up a n) ≡ n
count_length a zero = refl
count_length a (suc n) = ap suc (count_length (a + 1) n)

-- the one after some that are counted up, and they are counted up
pub count_next : (xs : List ℕ) (x : ℕ) (zs : List ℕ) (a n : ℕ) → (xs ++ x ∷ []) ++ zs ≡ count_up a n → (x ≡ a + length xs) × (xs ≡ count_up a (length xs))
count_next [] x zs a zero e = absurd (cc e)
count_next [] x zs a (suc n) e = let k : x ≡ a = cc in (omega (arith, k), refl)
count_next (y ∷ xs) x zs a zero e = absurd (cc e)
count_next (y ∷ xs) x zs a (suc n) e =
    let h : y ≡ a = cc in
    let r : (xs ++ x ∷ []) ++ zs ≡ count_up (a + 1) n = cc in
    let k = count_next xs x zs (a + 1) n r in
    (omega (arith, k.0), ap (λ z. z ∷ xs) h ∙ ap (λ l. a ∷ l) k.1)

pub count_end : (xs : List ℕ) (x a : ℕ) → xs ++ x ∷ [] ≡ count_up a (length (xs ++ x ∷ [])) → suc x ≡ a + length (xs ++ x ∷ [])
count_end xs x a e =
    let k = count_next xs x [] a (length (xs ++ x ∷ [])) (append-nil (xs ++ x ∷ []) ∙ e) in
    let z : length (xs ++ x ∷ []) ≡ length xs + 1 = length-append xs (x ∷ []) in
    omega (arith, k.0, z)

-- ---- the slots of one incarnation

-- they are counted up from the one after `first`
pub record Span (t : Setup) (v : nodes.World) (i : Inc) (l : Life) : Type 0 where
  pub first : ℕ
  pub count : ℕ
  pub slots : slots_in l ≡ count_up (first + 1) count
  pub founder : is_founder t i ≡ true → 0 < count → first ≡ 0
  pub joiner : is_founder t i ≡ false → 0 < count → AddedIn (group_of t) v.cast i first

pub spans : (t : Setup) → IsSetup t → InEveryRun Consecutive → (w : World) (x : OfNodes t w) (i : Inc) → Span t x.nodes i (life_in w.past i)
spans t good law w x i = elim (x.there i) [ inl q ↦ nothing (ap slots_in q) | inr r ↦ of_node r.0 r.1 ]
  where
    nothing : slots_in (life_in w.past i) ≡ [] → Span t x.nodes i (life_in w.past i)
    nothing q = record { first = 0; count = 0; slots = q; founder = λ f h. refl; joiner = λ f h. absurd (omega (arith, h)) }

    of_node : (n : Node) → x.nodes.at i ≡ Some n → Span t x.nodes i (life_in w.past i)
    of_node n h = go n.turns refl
      where
        c : (n.turns ≡ None → slots_by i x.nodes.took ≡ []) × ((u : Turns) → n.turns ≡ Some u → (s : ℕ) × (s ≤ u.slot) × (slots_by i x.nodes.took ≡ count_up (s + 1) (u.slot - s)) × (has_inc (group_of t).founders i ≡ true → s ≡ 0) × (has_inc (group_of t).founders i ≡ false → AddedIn (group_of t) x.nodes.cast i s))
        c = subst (λ v. Consecutive (group_of t) v) (sym (x.run).1) (law as_sent (λ ms m k. k) (group_of t) (x.run).0 good.horizon) i n h

        go : (o : Option Turns) → n.turns ≡ o → Span t x.nodes i (life_in w.past i)
        go None q = nothing (sym (x.slots i) ∙ c.0 q)
        go (Some u) q = let r = c.1 u q in record { first = r.0; count = u.slot - r.0; slots = sym (x.slots i) ∙ r.2; founder = λ f k. r.3 f; joiner = λ f k. r.4 f }
