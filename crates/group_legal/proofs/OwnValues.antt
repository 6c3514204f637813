-- The own values that an incarnation made, and the parts that they leave open.
use Rattle.std.proofs.Common.{◌≡◌, ◌⊎◌, inl, inr, ℕ, suc, ◌≤◌, ◌<◌, Bool, true, false, Option, Some, None, List, [], ◌∷◌, refl, sym, ap, subst, ◌∙◌, length, reverse, arith}
use Rattle.std.specs.Prelude.{◌==◌}
use Rattle.gr_ids.specs.declared.names.Inc.{Inc}
use Rattle.gr_ids.specs.Names.{inc_eq}
use Rattle.slot_values.specs.declared.value.Value.{Value}
use Rattle.slot_values.specs.declared.value.What.TheVariants.{Body as Says}
use Rattle.txn_forms.specs.declared.body.Body.{Body}
use Rattle.txn_forms.specs.declared.body.Body.TheVariants.{Txn as Writes, Prepared, Sync, Executed, Online as Arrives, Mode as Switches, Primary as Appoints, Part as PartOf}
use Rattle.txn_forms.specs.declared.body.Part.{Part}
use Rattle.txn_forms.specs.declared.body.Txn.{Txn}
use Rattle.txn_forms.specs.Bodies.{body_bytes}
use Rattle.txn_forms.specs.Parts.{whole_bytes, most_bytes}
use Rattle.node_rules.specs.Lists.{In}
use Rattle.group_rules.specs.Events.{Did, Founds, Starts, Came, Made, Took, Skips, Done, Committed, Is, Gave, Answered, Begun, Changed, Replied, Called, AsksCommit, Ends, Enters, Restores, AskFails, Life, Setup}
use Rattle.group_rules.specs.Life.{last_made}
use Rattle.group_rules.specs.Legal.{IsPast}
use Rattle.group_rules.specs.Parts.{cut}
use Rattle.group_rules.specs.World.{Past, Does, Writes as WritesOffline, Halts, life_in}
use Rattle.group_bridge.specs.Left.{MadeParts, HoldsRightly}
use Rattle.group_runs.specs.Runs.{AllDid, IsDone}
use Rattle.group_laws.specs.Lists as listing
use Rattle.node_rules.proofs.Incs.{inc_is, inc_same}
use Rattle.group_legal.specs.OwnRanges.{InRange, MadeInRange}

-- ---- own values

-- an own value, and what its place is to hold
pub record Own : Type 0 where
  pub value : Value
  pub holds : Option Body

-- newest first
abbrev pub owns : Life → List Own
owns [] = []
owns (Made v b ∷ l) = record { value = v; holds = b } ∷ owns l
owns (_ ∷ l) = owns l

abbrev pub last_own : List Own → ℕ
last_own [] = 0
last_own (x ∷ xs) = x.value.id.number

-- the last ones made hold these parts, the last one first
abbrev pub PartsMade : List Part → List Own → Type 0
PartsMade [] xs = Unit {0}
PartsMade (p ∷ ps) [] = ⊥
PartsMade (p ∷ ps) (x ∷ xs) = (x.holds ≡ Some (PartOf p)) × PartsMade ps xs

-- it is the last part of the transaction, the others of which were made right before
pub record IsLastOf (xs : List Own) (v : Value) (t : Txn) : Type 0 where
  pub last : Part
  pub parts : List Part
  pub says : v.what ≡ Says (body_bytes (PartOf last))
  pub made : PartsMade parts xs
  pub large : whole_bytes < length (body_bytes (Writes t))
  pub most : length (body_bytes (Writes t)) ≤ most_bytes
  pub all : reverse (last ∷ parts) ≡ cut (body_bytes (Writes t))

-- what a value says by what its place is to hold, those in the list having been made before
abbrev pub HoldsOwn : List Own → Value → Option Body → Type 0
HoldsOwn xs v None = (b : List ℕ) → v.what ≡ Says b → ⊥
HoldsOwn xs v (Some (Writes t)) = (v.what ≡ Says (body_bytes (Writes t))) ⊎ IsLastOf xs v t
HoldsOwn xs v (Some (PartOf p)) = (v.what ≡ Says (body_bytes (PartOf p))) × ((p.index == p.count) ≡ false)
HoldsOwn xs v (Some b) = v.what ≡ Says (body_bytes b)

abbrev pub Fits : Option Body → Type 0
Fits None = Unit {0}
Fits (Some b) = InRange b

-- numbered from 1 on, each in the ranges of its form
abbrev pub AreOwn : Inc → List Own → Type 0
AreOwn o [] = Unit {0}
AreOwn o (x ∷ xs) = ((x.value.id.origin ≡ o) × (x.value.id.number ≡ suc (last_own xs)) × HoldsOwn xs x.value x.holds × Fits x.holds) × AreOwn o xs

-- ---- of a history

pub last_is : (l : Life) → last_made l ≡ last_own (owns l)
last_is [] = refl
last_is (Made v b ∷ l) = refl
last_is (Founds ∷ l) = last_is l
last_is (Starts y ∷ l) = last_is l
last_is (Came y ∷ l) = last_is l
last_is (Took y ∷ l) = last_is l
last_is (Skips s y ∷ l) = last_is l
last_is (Done n ∷ l) = last_is l
last_is (Committed g ∷ l) = last_is l
last_is (Is y c ∷ l) = last_is l
last_is (Gave n m ∷ l) = last_is l
last_is (Answered s y ∷ l) = last_is l
last_is (Begun s y z ∷ l) = last_is l
last_is (Changed s c ∷ l) = last_is l
last_is (Replied r ∷ l) = last_is l
last_is (Called s y z ∷ l) = last_is l
last_is (AsksCommit s y ∷ l) = last_is l
last_is (Ends s ∷ l) = last_is l
last_is (Enters u ∷ l) = last_is l
last_is (Restores y cs ∷ l) = last_is l
last_is (AskFails ∷ l) = last_is l

parts_made : (ps : List Part) (l before : Life) → MadeParts ps l before → PartsMade ps (owns l)
parts_made [] l before h = tt
parts_made (p ∷ ps) l before (v, rest, e, m) = subst (λ y. PartsMade (p ∷ ps) (owns y)) (sym e) (refl, parts_made ps rest before m)

holds_own : (t : Setup) (i : Inc) (l : Life) (v : Value) (b : Option Body) → HoldsRightly t i l v b → HoldsOwn (owns l) v b
holds_own t i l v None h = h
holds_own t i l v (Some (Writes x)) h = elim h.bytes [
  | inl z ↦ inl z.1
  | inr z ↦ inr (record { last = z.0; parts = h.parts; says = z.1; made = parts_made h.parts l (AsksCommit h.session h.id ∷ h.past) h.since; large = z.2; most = h.most; all = z.3 })
]
holds_own t i l v (Some (Prepared g)) h = h.0
holds_own t i l v (Some Sync) h = h
holds_own t i l v (Some (Executed s)) h = h.0
holds_own t i l v (Some (Arrives s)) h = h.0
holds_own t i l v (Some (Switches m)) h = h
holds_own t i l v (Some (Appoints j)) h = h
holds_own t i l v (Some (PartOf p)) h = h

own_more : (t : Setup) (p : Past) (i : Inc) (d : Did) → IsDone t p i d → ((v : Value) (b : Body) → d ≡ Made v (Some b) → InRange b)
    → AreOwn i (owns (life_in p i)) → AreOwn i (owns (d ∷ life_in p i))
own_more t p i (Made v b) h f k = ((h.1.1.origin, h.1.1.number ∙ ap suc (last_is (life_in p i)), holds_own t i (life_in p i) v b h.1.1.rightly, fits b f), k)
  where
    fits : (x : Option Body) → ((u : Value) (y : Body) → Made v x ≡ Made u (Some y) → InRange y) → Fits x
    fits None f = tt
    fits (Some y) f = f v y refl
own_more t p i Founds h f k = k
own_more t p i (Starts y) h f k = k
own_more t p i (Came y) h f k = k
own_more t p i (Took y) h f k = k
own_more t p i (Skips s y) h f k = k
own_more t p i (Done n) h f k = k
own_more t p i (Committed g) h f k = k
own_more t p i (Is y c) h f k = k
own_more t p i (Gave n m) h f k = k
own_more t p i (Answered s y) h f k = k
own_more t p i (Begun s y z) h f k = k
own_more t p i (Changed s c) h f k = k
own_more t p i (Replied r) h f k = k
own_more t p i (Called s y z) h f k = k
own_more t p i (AsksCommit s y) h f k = k
own_more t p i (Ends s) h f k = k
own_more t p i (Enters u) h f k = k
own_more t p i (Restores y cs) h f k = k
own_more t p i AskFails h f k = k

pub are_own : (t : Setup) (p : Past) → AllDid (IsDone t) p → MadeInRange p → (i : Inc) → AreOwn i (owns (life_in p i))
are_own t [] h r i = tt
are_own t (WritesOffline n x ∷ p) h r i = are_own t p h (λ q j v b k. r q j v b (inr k)) i
are_own t (Halts n ∷ p) h r i = are_own t p h (λ q j v b k. r q j v b (inr k)) i
are_own t (Does j d ∷ p) h r i = go (inc_eq j i) refl (are_own t p h.1 (λ q j v b k. r q j v b (inr k)) i)
  where
    go : (b : Bool) → inc_eq j i ≡ b → AreOwn i (owns (life_in p i)) → AreOwn i (owns (elim b [ true ↦ d ∷ life_in p i | false ↦ life_in p i ]))
    go false e k = k
    go true e k = own_more t p i d (subst (λ y. IsDone t p y d) (inc_is j i e) h.0) (λ v b q. r p j v b (inl (ap (λ y. Does j y ∷ p) (sym q)))) k

-- ---- which were made at some time

-- one thing more makes one value more, or none
abbrev MakesOrNot : Did → Life → Type 0
MakesOrNot d l = ((v : Value) × (b : Option Body) × (d ≡ Made v b)) ⊎ (owns (d ∷ l) ≡ owns l)

makes_or_not : (d : Did) (l : Life) → MakesOrNot d l
makes_or_not (Made v b) l = inl (v, b, refl)
makes_or_not Founds l = inr refl
makes_or_not (Starts y) l = inr refl
makes_or_not (Came y) l = inr refl
makes_or_not (Took y) l = inr refl
makes_or_not (Skips s y) l = inr refl
makes_or_not (Done n) l = inr refl
makes_or_not (Committed g) l = inr refl
makes_or_not (Is y c) l = inr refl
makes_or_not (Gave n m) l = inr refl
makes_or_not (Answered s y) l = inr refl
makes_or_not (Begun s y z) l = inr refl
makes_or_not (Changed s c) l = inr refl
makes_or_not (Replied r) l = inr refl
makes_or_not (Called s y z) l = inr refl
makes_or_not (AsksCommit s y) l = inr refl
makes_or_not (Ends s) l = inr refl
makes_or_not (Enters u) l = inr refl
makes_or_not (Restores y cs) l = inr refl
makes_or_not AskFails l = inr refl

past_more : (d : Did) (l : Life) (xs : List Own) → listing.IsPast xs (owns l) → listing.IsPast xs (owns (d ∷ l))
past_more d l xs h = go (makes_or_not d l)
  where
    go : MakesOrNot d l → listing.IsPast xs (owns (d ∷ l))
    go (inl (v, b, e)) = subst (λ y. listing.IsPast xs (owns (y ∷ l))) (sym e) (inr h)
    go (inr e) = subst (λ y. listing.IsPast xs y) (sym e) h

in_more : (d : Did) (l : Life) (x : Own) → In x (owns l) → In x (owns (d ∷ l))
in_more d l x h = go (makes_or_not d l)
  where
    go : MakesOrNot d l → In x (owns (d ∷ l))
    go (inl (v, b, e)) = subst (λ y. In x (owns (y ∷ l))) (sym e) (inr h)
    go (inr e) = subst (λ y. In x y) (sym e) h

past_here : (xs : List Own) → listing.IsPast xs xs
past_here [] = refl
past_here (x ∷ xs) = inl refl

pub own_past : (q w : Past) (i : Inc) → IsPast q w → listing.IsPast (owns (life_in q i)) (owns (life_in w i))
own_past q [] i h = ap (λ y. owns (life_in y i)) h
own_past q (x ∷ w) i (inl e) = subst (λ y. listing.IsPast (owns (life_in y i)) (owns (life_in (x ∷ w) i))) (sym e) (past_here (owns (life_in (x ∷ w) i)))
own_past q (WritesOffline n x ∷ w) i (inr h) = own_past q w i h
own_past q (Halts n ∷ w) i (inr h) = own_past q w i h
own_past q (Does j d ∷ w) i (inr h) = go (inc_eq j i) (own_past q w i h)
  where
    go : (b : Bool) → listing.IsPast (owns (life_in q i)) (owns (life_in w i))
        → listing.IsPast (owns (life_in q i)) (owns (elim b [ true ↦ d ∷ life_in w i | false ↦ life_in w i ]))
    go true k = past_more d (life_in w i) (owns (life_in q i)) k
    go false k = k

-- when something happened
pub happened : (i : Inc) (d : Did) (p : Past) → In (Does i d) p → (q : Past) × IsPast (Does i d ∷ q) p
happened i d [] h = absurd h
happened i d (x ∷ p) (inl e) = (p, inl (ap (λ y. y ∷ p) (sym e)))
happened i d (x ∷ p) (inr h) = let r = happened i d p h in (r.0, inr r.1)

-- what was made is one of the own values
pub own_made : (o : Inc) (v : Value) (b : Option Body) (w : Past) → In (Does o (Made v b)) w
    → In (record { value = v; holds = b }) (owns (life_in w o))
own_made o v b [] h = absurd h
own_made o v b (WritesOffline n x ∷ w) (inl e) = absurd (cc e)
own_made o v b (WritesOffline n x ∷ w) (inr h) = own_made o v b w h
own_made o v b (Halts n ∷ w) (inl e) = absurd (cc e)
own_made o v b (Halts n ∷ w) (inr h) = own_made o v b w h
own_made o v b (Does j d ∷ w) (inl e) =
    let who : j ≡ o = cc in
    let did : d ≡ Made v b = cc in
    let here : inc_eq j o ≡ true = ap (λ y. inc_eq y o) who ∙ inc_same o in
    subst (λ y. In (record { value = v; holds = b }) (owns y)) (sym (ap (λ c. elim c [ true ↦ d ∷ life_in w o | false ↦ life_in w o ]) here ∙ ap (λ y. y ∷ life_in w o) did)) (inl refl)
own_made o v b (Does j d ∷ w) (inr h) = go (inc_eq j o) (own_made o v b w h)
  where
    go : (c : Bool) → In (record { value = v; holds = b }) (owns (life_in w o))
        → In (record { value = v; holds = b }) (owns (elim c [ true ↦ d ∷ life_in w o | false ↦ life_in w o ]))
    go true k = in_more d (life_in w o) (record { value = v; holds = b }) k
    go false k = k

pub first_in : (x : Own) (xs ys : List Own) → listing.IsPast (x ∷ xs) ys → In x ys
first_in x xs [] h = absurd (cc h)
first_in x xs (y ∷ ys) (inl e) = inl cc
first_in x xs (y ∷ ys) (inr h) = inr (first_in x xs ys h)

pub rest_past : (x : Own) (xs ys : List Own) → listing.IsPast (x ∷ xs) ys → listing.IsPast xs ys
rest_past x xs [] h = absurd (cc h)
rest_past x xs (y ∷ ys) (inl e) = let z : xs ≡ ys = cc in inr (subst (λ u. listing.IsPast xs u) z (past_here xs))
rest_past x xs (y ∷ ys) (inr h) = inr (rest_past x xs ys h)

pub own_of : (o : Inc) (xs ys : List Own) → listing.IsPast xs ys → AreOwn o ys → AreOwn o xs
own_of o xs [] h k = subst (AreOwn o) (sym h) tt
own_of o xs (y ∷ ys) (inl e) k = subst (AreOwn o) (sym e) k
own_of o xs (y ∷ ys) (inr h) k = own_of o xs ys h k.1

own_below : (o : Inc) (x : Own) (xs : List Own) → AreOwn o xs → In x xs → x.value.id.number ≤ last_own xs
own_below o x [] k h = absurd h
own_below o x (y ∷ ys) k (inl e) = let z : y.value.id.number ≡ x.value.id.number = ap (λ (u : Own). u.value.id.number) e in omega (arith, z)
own_below o x (y ∷ ys) k (inr h) =
    let z = own_below o x ys k.1 h in
    let n : y.value.id.number ≡ suc (last_own ys) = k.0.1 in
    omega (arith, z, n)

-- two of one number are one
pub own_once : (o : Inc) (x y : Own) (xs : List Own) → AreOwn o xs → In x xs → In y xs → x.value.id.number ≡ y.value.id.number → x ≡ y
own_once o x y [] k a b e = absurd a
own_once o x y (z ∷ zs) k (inl a) (inl b) e = sym a ∙ b
own_once o x y (z ∷ zs) k (inr a) (inr b) e = own_once o x y zs k.1 a b e
own_once o x y (z ∷ zs) k (inl a) (inr b) e =
    let s = own_below o y zs k.1 b in
    let q : z.value.id.number ≡ x.value.id.number = ap (λ (u : Own). u.value.id.number) a in
    let n : z.value.id.number ≡ suc (last_own zs) = k.0.1 in
    absurd (omega (arith, s, q, e, n))
own_once o x y (z ∷ zs) k (inr a) (inl b) e =
    let s = own_below o x zs k.1 a in
    let q : z.value.id.number ≡ y.value.id.number = ap (λ (u : Own). u.value.id.number) b in
    let n : z.value.id.number ≡ suc (last_own zs) = k.0.1 in
    absurd (omega (arith, s, q, e, n))
