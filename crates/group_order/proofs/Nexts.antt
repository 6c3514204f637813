-- Each slot is the next after the last one of the incarnation that takes it; and where a Welcome came from.
use Rattle.std.proofs.Common.{append_assoc, ◌≡◌, inl, inr, ℕ, zero, suc, ◌+◌, ◌<◌, Bool, true, false, Some, None, List, [], ◌∷◌, ◌++◌, refl, sym, ap, subst, ◌∙◌, length, arith}
use Rattle.std.proofs.lemmas.Bool.{false≢true}
use Rattle.gr_ids.specs.Names.{inc_eq}
use Rattle.gr_ids.specs.declared.names.Inc.{Inc}
use Rattle.paxos_forms.specs.declared.message.Message.{Message}
use Rattle.paxos_forms.specs.declared.message.Wire.TheVariants.{Welcome as Greet}
use Rattle.paxos_forms.specs.declared.welcome.Welcome.{Welcome}
use Rattle.node_rules.specs.Lists.{In}
use Rattle.node_rules.specs.World as nodes
use Rattle.order_laws.specs.Laws.{count_up}
use Rattle.group_rules.specs.Events.{Did, Founds, Starts, Came, Made, Took, Skips, Done, Committed, Is, Gave, Answered, Begun, Changed, Replied, Called, AsksCommit, Ends, Enters, Restores, AskFails, Hears, Life, Setup}
use Rattle.group_rules.specs.Life.{entered}
use Rattle.group_rules.specs.Legal.{IsPast, last_slot}
use Rattle.group_rules.specs.Taking.{takes_slots}
use Rattle.group_rules.specs.World.{Past, Does, Writes, Halts, life_in}
use Rattle.group_bridge.specs.Moves.{is_apart, slots_in}
use Rattle.group_runs.specs.Runs.{AllDid, IsDone, HeardIn, WasGreeted, WasSentAs, OfSlots}
use Rattle.node_rules.proofs.Incs.{inc_same, inc_is}
use Rattle.group_order.proofs.Shapes.{Shape, shapes}
use Rattle.group_order.proofs.Spans.{Last, lasts, count_next, count_end}

some_none : {A : Type 0} (x : A) → Some x ≡ None → ⊥
some_none x e = absurd (cc e)

some_is : {A : Type 0} {x y : A} → Some x ≡ Some y → x ≡ y
some_is {x = x} {y = y} e = cc

-- ---- what was done at some time

pub past_self : (p : Past) → IsPast p p
past_self [] = refl
past_self (x ∷ p) = inl refl

-- a past of a past
pub past_of : (b a p : Past) → IsPast b p → IsPast a b → IsPast a p
past_of b a [] k h = subst (λ y. IsPast a y) k h
past_of b a (x ∷ p) (inl e) h = subst (λ y. IsPast a y) e h
past_of b a (x ∷ p) (inr k) h = inr (past_of b a p k h)

pub did_past : (P : Past → Inc → Did → Type 0) (p q : Past) → AllDid P p → IsPast q p → AllDid P q
did_past P [] q h k = subst (λ y. AllDid P y) (sym k) tt
did_past P (x ∷ p) q h (inl e) = subst (λ y. AllDid P y) (sym e) h
did_past P (Writes n x ∷ p) q h (inr k) = did_past P p q h k
did_past P (Halts n ∷ p) q h (inr k) = did_past P p q h k
did_past P (Does j c ∷ p) q h (inr k) = did_past P p q h.1 k

pub done_at : (P : Past → Inc → Did → Type 0) (p q : Past) (i : Inc) (d : Did) → AllDid P p → IsPast (Does i d ∷ q) p → P q i d
done_at P [] q i d h k = absurd (cc k)
done_at P (Writes n x ∷ p) q i d h (inl e) = absurd (cc e)
done_at P (Writes n x ∷ p) q i d h (inr k) = done_at P p q i d h k
done_at P (Halts n ∷ p) q i d h (inl e) = absurd (cc e)
done_at P (Halts n ∷ p) q i d h (inr k) = done_at P p q i d h k
done_at P (Does j c ∷ p) q i d h (inr k) = done_at P p q i d h.1 k
done_at P (Does j c ∷ p) q i d h (inl e) =
    let a : i ≡ j = cc in
    let b : d ≡ c = cc in
    let z : q ≡ p = cc in
    subst (λ y. P y i d) (sym z) (subst (λ y. P p y d) (sym a) (subst (λ y. P p j y) (sym b) h.0))

-- the time at which the last thing of a history was done
pub last_done : (p : Past) (i : Inc) (d : Did) (l : Life) → life_in p i ≡ d ∷ l → (q : Past) × IsPast (Does i d ∷ q) p × (life_in q i ≡ l)
last_done [] i d l h = absurd (cc h)
last_done (Writes n x ∷ p) i d l h = let r = last_done p i d l h in (r.0, inr r.1, r.2)
last_done (Halts n ∷ p) i d l h = let r = last_done p i d l h in (r.0, inr r.1, r.2)
last_done (Does j c ∷ p) i d l h = go (inc_eq j i) refl h (last_done p i d l)
  where
    go : (b : Bool) → inc_eq j i ≡ b → elim b [ true ↦ c ∷ life_in p i | false ↦ life_in p i ] ≡ d ∷ l → (life_in p i ≡ d ∷ l → (q : Past) × IsPast (Does i d ∷ q) p × (life_in q i ≡ l)) → (q : Past) × IsPast (Does i d ∷ q) (Does j c ∷ p) × (life_in q i ≡ l)
    go true e k r =
        let a : c ≡ d = cc in
        let b : life_in p i ≡ l = cc in
        (p, inl (ap (λ y. Does y d ∷ p) (sym (inc_is j i e)) ∙ ap (λ y. Does j y ∷ p) (sym a)), b)
    go false e k r = let z = r k in (z.0, inr z.1, z.2)

-- ---- where a Welcome came from

-- It came on the wire of the nodes to this incarnation, from one that showed its view.
pub record EnteredBy (t : Setup) (v : nodes.World) (p : Past) (i : Inc) (w : Welcome) : Type 0 where
  pub message : Message
  pub on_wire : In message v.wire
  pub wire : message.wire ≡ Greet w
  pub to : message.to ≡ i
  pub before : Past
  pub earlier : IsPast (Does i (Came (Hears message)) ∷ before) p
  pub greeted : WasGreeted t before message w

pub entered_by : (t : Setup) (v : nodes.World) (p : Past) (i : Inc) (w : Welcome) → AllDid (IsDone t) p → AllDid (HeardIn v) p → IsDone t p i (Enters w) → EnteredBy t v p i w
entered_by t v p i w done heard h = record { message = (h.1.1).message; on_wire = on_wire; wire = (h.1.1).wire; to = came.1; before = at.0; earlier = at.1; greeted = subst (λ y. WasSentAs t at.0 (h.1.1).message y) (h.1.1).wire came.2 }
  where
    at : (q : Past) × IsPast (Does i (Came (Hears (h.1.1).message)) ∷ q) p × (life_in q i ≡ (h.1.1).past)
    at = last_done p i (Came (Hears (h.1.1).message)) (h.1.1).past (h.1.1).heard

    came : IsDone t at.0 i (Came (Hears (h.1.1).message))
    came = done_at (IsDone t) p at.0 i (Came (Hears (h.1.1).message)) done at.1

    on_wire : In (h.1.1).message v.wire
    on_wire = elim (done_at (HeardIn v) p at.0 i (Came (Hears (h.1.1).message)) heard at.1) [ inl z ↦ z | inr z ↦ absurd (false≢true (sym (ap is_apart (h.1.1).wire) ∙ z)) ]

-- ---- the slot of a Welcome

abbrev pub WelcomeAt : (Inc → ℕ → Type 0) → Life → Inc → Type 0
WelcomeAt B l i = (w : Welcome) → entered l ≡ Some w → B i w.slot

welcome_more : (B : Inc → ℕ → Type 0) (i : Inc) (d : Did) (l : Life) → ((w : Welcome) → d ≡ Enters w → B i w.slot) → WelcomeAt B l i → WelcomeAt B (d ∷ l) i
welcome_more B i (Enters w) l f h u q = f u (ap (λ y. Enters y) (some_is q))
welcome_more B i (Took e) l f h u q = h u q
welcome_more B i (Skips s v) l f h u q = h u q
welcome_more B i Founds l f h u q = h u q
welcome_more B i (Starts x) l f h u q = h u q
welcome_more B i (Made v k) l f h u q = h u q
welcome_more B i (Done n) l f h u q = h u q
welcome_more B i (Committed g) l f h u q = h u q
welcome_more B i (Is s c) l f h u q = h u q
welcome_more B i (Gave n m) l f h u q = h u q
welcome_more B i (Answered s x) l f h u q = h u q
welcome_more B i (Begun s x y) l f h u q = h u q
welcome_more B i (Changed s c) l f h u q = h u q
welcome_more B i (Replied r) l f h u q = h u q
welcome_more B i (Called s v w) l f h u q = h u q
welcome_more B i (AsksCommit s j) l f h u q = h u q
welcome_more B i (Ends s) l f h u q = h u q
welcome_more B i (Restores g cs) l f h u q = h u q
welcome_more B i AskFails l f h u q = h u q
welcome_more B i (Came x) l f h u q = h u q

pub welcomes_at : (B : Inc → ℕ → Type 0) (t : Setup) (p : Past) → ((q : Past) (i : Inc) (w : Welcome) → IsPast (Does i (Enters w) ∷ q) p → B i w.slot) → (i : Inc) → WelcomeAt B (life_in p i) i
welcomes_at B t [] f i = λ w q. absurd (some_none w (sym q))
welcomes_at B t (Writes n x ∷ p) f i = welcomes_at B t p (λ q j w k. f q j w (inr k)) i
welcomes_at B t (Halts n ∷ p) f i = welcomes_at B t p (λ q j w k. f q j w (inr k)) i
welcomes_at B t (Does j d ∷ p) f i = go (inc_eq j i) refl (welcomes_at B t p (λ q k w z. f q k w (inr z)) i)
  where
    go : (b : Bool) → inc_eq j i ≡ b → WelcomeAt B (life_in p i) i → WelcomeAt B (elim b [ true ↦ d ∷ life_in p i | false ↦ life_in p i ]) i
    go true q h = welcome_more B i d (life_in p i) (λ w z. f p i w (inl (ap (λ y. Does y (Enters w) ∷ p) (sym (inc_is j i q)) ∙ ap (λ y. Does j y ∷ p) (sym z)))) h
    go false q h = h

-- ---- the next slot

abbrev slot_of : Did → ℕ
slot_of (Took e) = e.slot
slot_of (Skips s v) = s
slot_of d = 0

abbrev pub IsNext : Past → Inc → Did → Type 0
IsNext p i d = slot_of d ≡ suc (last_slot (life_in p i))

-- the slots of a history go on to those of the whole one
abbrev GoesOn : Past → (Inc → List ℕ) → Type 0
GoesOn p full = (i : Inc) → (zs : List ℕ) × (slots_in (life_in p i) ++ zs ≡ full i)

module _ (t : Setup) (v : nodes.World) (full : Inc → List ℕ) (first count : Inc → ℕ) (counted : (i : Inc) → full i ≡ count_up (first i + 1) (count i))
    (B : Inc → ℕ → Type 0) (at_first : (i : Inc) (l : Life) → Last l → Shape t i l → WelcomeAt B l i → takes_slots l ≡ true → slots_in l ≡ [] → 0 < count i → last_slot l ≡ first i) where
  next_slot : (p : Past) (i : Inc) (s : ℕ) (zs : List ℕ) → Last (life_in p i) → Shape t i (life_in p i) → WelcomeAt B (life_in p i) i → takes_slots (life_in p i) ≡ true → (slots_in (life_in p i) ++ s ∷ []) ++ zs ≡ full i → s ≡ suc (last_slot (life_in p i))
  next_slot p i s zs l o a r e = elim l.some [
    | inl q ↦ (let z : slots_in (life_in p i) ≡ [] = q in
        let len : length (slots_in (life_in p i)) ≡ 0 = ap length q in
        let at : last_slot (life_in p i) ≡ first i = at_first i (life_in p i) l o a r q some in
        omega (arith, k.0, len, at))
    | inr q ↦ (let same : slots_in (life_in p i) ≡ q.0 ++ last_slot (life_in p i) ∷ [] = q.1 in
        let up : q.0 ++ last_slot (life_in p i) ∷ [] ≡ count_up (first i + 1) (length (q.0 ++ last_slot (life_in p i) ∷ [])) = subst (λ l. l ≡ count_up (first i + 1) (length l)) q.1 k.1 in
        let end = count_end q.0 (last_slot (life_in p i)) (first i + 1) up in
        let len : length (slots_in (life_in p i)) ≡ length (q.0 ++ last_slot (life_in p i) ∷ []) = ap length q.1 in
        omega (arith, k.0, end, len))
  ]
    where
      k : (s ≡ (first i + 1) + length (slots_in (life_in p i))) × (slots_in (life_in p i) ≡ count_up (first i + 1) (length (slots_in (life_in p i))))
      k = count_next (slots_in (life_in p i)) s zs (first i + 1) (count i) (e ∙ counted i)

      some : 0 < count i
      some = go (count i) (e ∙ counted i)
        where
          go : (n : ℕ) → (slots_in (life_in p i) ++ s ∷ []) ++ zs ≡ count_up (first i + 1) n → 0 < n
          go zero q = absurd (none (slots_in (life_in p i)) q)
            where
              none : (xs : List ℕ) → (xs ++ s ∷ []) ++ zs ≡ [] → ⊥
              none [] z = absurd (cc z)
              none (x ∷ xs) z = absurd (cc z)
          go (suc n) q = omega arith

  -- one thing more of one incarnation
  goes_back : (j : Inc) (d : Did) (p : Past) → GoesOn (Does j d ∷ p) full → GoesOn p full
  goes_back j d p h i = go (inc_eq j i) (h i)
    where
      by_did : (c : Did) → (zs : List ℕ) × (slots_in (c ∷ life_in p i) ++ zs ≡ full i) → (zs : List ℕ) × (slots_in (life_in p i) ++ zs ≡ full i)
      by_did (Took e) k = (e.slot ∷ k.0, sym (append_assoc (slots_in (life_in p i)) (e.slot ∷ []) k.0) ∙ k.1)
      by_did (Skips s u) k = (s ∷ k.0, sym (append_assoc (slots_in (life_in p i)) (s ∷ []) k.0) ∙ k.1)
      by_did (Enters w) k = k
      by_did Founds k = k
      by_did (Starts x) k = k
      by_did (Made y h) k = k
      by_did (Done n) k = k
      by_did (Committed g) k = k
      by_did (Is s c) k = k
      by_did (Gave n m) k = k
      by_did (Answered s x) k = k
      by_did (Begun s x y) k = k
      by_did (Changed s c) k = k
      by_did (Replied r) k = k
      by_did (Called s y w) k = k
      by_did (AsksCommit s j) k = k
      by_did (Ends s) k = k
      by_did (Restores g cs) k = k
      by_did AskFails k = k
      by_did (Came x) k = k

      go : (b : Bool) → (zs : List ℕ) × (slots_in (elim b [ true ↦ d ∷ life_in p i | false ↦ life_in p i ]) ++ zs ≡ full i) → (zs : List ℕ) × (slots_in (life_in p i) ++ zs ≡ full i)
      go true k = by_did d k
      go false k = k

  here : (j : Inc) (d : Did) (p : Past) → life_in (Does j d ∷ p) j ≡ d ∷ life_in p j
  here j d p = ap (λ b. elim b [ true ↦ d ∷ life_in p j | false ↦ life_in p j ]) (inc_same j)

  pub all_next : (p : Past) → AllDid (IsDone t) p → ((q : Past) (i : Inc) (w : Welcome) → IsPast (Does i (Enters w) ∷ q) p → B i w.slot) → GoesOn p full → AllDid (OfSlots IsNext) p
  all_next [] h f k = tt
  all_next (Writes n x ∷ p) h f k = all_next p h (λ q i w z. f q i w (inr z)) k
  all_next (Halts n ∷ p) h f k = all_next p h (λ q i w z. f q i w (inr z)) k
  all_next (Does j d ∷ p) h f k = (by d refl h.0, all_next p h.1 (λ q i w z. f q i w (inr z)) (goes_back j d p k))
    where
      ready : (c : Did) → d ≡ c → (s : ℕ) → slots_in (c ∷ life_in p j) ≡ slots_in (life_in p j) ++ s ∷ [] → takes_slots (life_in p j) ≡ true → s ≡ suc (last_slot (life_in p j))
      ready c q s e r = next_slot p j s (k j).0 (lasts t p h.1 j) (shapes t p h.1 j) (welcomes_at B t p (λ q i w z. f q i w (inr z)) j) r (ap (λ l. l ++ (k j).0) (sym e ∙ (ap (λ y. slots_in (y ∷ life_in p j)) (sym q) ∙ ap slots_in (sym (here j d p)))) ∙ (k j).1)

      by : (c : Did) → d ≡ c → IsDone t p j c → OfSlots IsNext p j c
      by (Took e) q z = ready (Took e) q e.slot refl z.1.1
      by (Skips s u) q z = ready (Skips s u) q s refl z.1.1
      by (Enters w) q z = tt
      by Founds q z = tt
      by (Starts x) q z = tt
      by (Made y a) q z = tt
      by (Done n) q z = tt
      by (Committed g) q z = tt
      by (Is s c) q z = tt
      by (Gave n m) q z = tt
      by (Answered s x) q z = tt
      by (Begun s x y) q z = tt
      by (Changed s c) q z = tt
      by (Replied r) q z = tt
      by (Called s y w) q z = tt
      by (AsksCommit s j) q z = tt
      by (Ends s) q z = tt
      by (Restores g a) q z = tt
      by AskFails q z = tt
      by (Came x) q z = tt
