-- How a joiner begins: its Welcome and its Give tell what the history of their sender was.
use Rattle.std.proofs.Common.{leb, ◌≡◌, ◌⊎◌, inl, inr, ℕ, suc, ◌≤◌, Bool, true, false, ◌||◌, Option, Some, None, List, [], ◌∷◌, ◌++◌, refl, sym, ap, subst, ◌∙◌, length, map, arith}
use Rattle.std.specs.Prelude.{◌==◌}
use Rattle.std.proofs.lemmas.Bool.{false≢true, cases_Bool, eqb-true, leb-true, leb-false}
use Rattle.gr_ids.specs.Names.{inc_eq, has_inc}
use Rattle.gr_ids.specs.declared.names.Inc.{Inc}
use Rattle.gr_ids.specs.declared.names.OpenParts.{OpenParts}
use Rattle.node_rules.specs.declared.seat.Seat.{Seat}
use Rattle.node_rules.specs.Node.{Node}
use Rattle.node_rules.specs.Welcoming.{welcome_of}
use Rattle.slot_values.specs.declared.value.Value.{Value}
use Rattle.slot_values.specs.declared.value.What.{What}
use Rattle.slot_values.specs.declared.value.What.TheVariants.{Noop, Add, Remove, Body as Says}
use Rattle.slot_values.specs.declared.member.Member.{Member}
use Rattle.slot_values.specs.Log.{Reading, Turns, incs, kept, changed, read}
use Rattle.slot_values.specs.Turns.{told as turns_at}
use Rattle.txn_forms.specs.declared.body.Body.{Body}
use Rattle.txn_forms.specs.declared.body.Body.TheVariants.{Txn as Writes, Prepared, Sync, Executed, Online as Arrives, Mode as Switches, Primary as Appoints, Part as PartOf}
use Rattle.txn_forms.specs.Parts.{is_open, joined_bytes, parts_of}
use Rattle.paxos_forms.specs.declared.welcome.Welcome.{Welcome}
use Rattle.paxos_forms.specs.declared.welcome.WelcomeMember.{WelcomeMember}
use Rattle.group_rules.specs.View.{View, seated, seat_in, shown}
use Rattle.group_rules.specs.Events.{Did, Founds, Starts, Came, Made, Took, Skips, Done, Committed, Is, Gave, Answered, Begun, Changed, Replied, Called, AsksCommit, Ends, Enters, Restores, AskFails, Life, Setup, Entry}
use Rattle.group_rules.specs.Life.{view_told, has_give, entry_at, upto}
use Rattle.group_rules.specs.Legal.{IsPast}
use Rattle.group_rules.specs.Parts.{open_after, open_parts}
use Rattle.group_rules.specs.Recovery.{all_parts}
use Rattle.group_rules.specs.OneList.{reading_of, before_slot}
use Rattle.group_rules.specs.World.{Past, Does, Writes as WritesRow, Halts, life_in}
use Rattle.group_bridge.specs.Moves.{slots_in}
use Rattle.node_rules.proofs.Incs.{inc_is}
use Rattle.group_order.proofs.Adds.{or_parts}
use Rattle.group_order.proofs.Flips.{before_above, before_all}
use Rattle.group_order.proofs.Members.{by_read}
use Rattle.group_order.proofs.Seats.{Distinct, told_seat, seats_told}

-- ---- the view that a Welcome tells

-- the members of a Welcome are those seats
members_told : (f : Inc → Seat) (ms : List Member) → map {A = WelcomeMember} (λ m. record { joiner = m.joiner; state = m.state }) (map {A = Member} (λ m. record { joiner = record (f m.inc).joiner { inc = m.inc }; state = (f m.inc).state; last = m.last }) ms) ≡ map (told_seat f) ms
members_told f [] = refl
members_told f (m ∷ ms) = ap (λ l. told_seat f m ∷ l) (members_told f ms)

incs_told : (f : Inc → Seat) (ms : List Member) → incs (map {A = WelcomeMember} (λ y. record { inc = y.joiner.inc; last = y.last }) (map {A = Member} (λ m. record { joiner = record (f m.inc).joiner { inc = m.inc }; state = (f m.inc).state; last = m.last }) ms)) ≡ incs ms
incs_told f [] = refl
incs_told f (m ∷ ms) = ap (λ l. m.inc ∷ l) (incs_told f ms)

pub welcome_view : (n : Node) (u : Turns) (v : View) (w : Welcome) → w ≡ welcome_of n u (shown v) → incs (map {A = WelcomeMember} (λ y. record { inc = y.joiner.inc; last = y.last }) w.members) ≡ seated v.seats → Distinct (seated v.seats) → view_told w ≡ v
welcome_view n u v w e h d = ap view_told e ∙ ap (λ ss. record { number = v.number; mode = v.mode; primary = v.primary; elected = v.elected; seats = ss }) seats
  where
    same : incs (turns_at u).last ≡ seated v.seats
    same = sym (incs_told (seat_in v.seats) (turns_at u).last) ∙ (ap (λ x. incs (map {A = WelcomeMember} (λ y. record { inc = y.joiner.inc; last = y.last }) x.members)) (sym e) ∙ h)

    seats : (view_told (welcome_of n u (shown v))).seats ≡ v.seats
    seats = members_told (seat_in v.seats) (turns_at u).last ∙ seats_told v.seats (turns_at u).last same d

-- ---- one that waits has no open parts

end_none : (xs : List ℕ) (x : ℕ) → xs ++ x ∷ [] ≡ [] → ⊥
end_none [] x e = absurd (cc e)
end_none (y ∷ xs) x e = absurd (cc e)

pub waits_none : (l : Life) (o : Inc) → slots_in l ≡ [] → has_give l ≡ false → open_parts l o ≡ None
waits_none [] o h g = refl
waits_none (Took e ∷ l) o h g = absurd (end_none (slots_in l) e.slot h)
waits_none (Skips s v ∷ l) o h g = absurd (end_none (slots_in l) s h)
waits_none (Restores y cs ∷ l) o h g = absurd (false≢true (sym g))
waits_none (Enters w ∷ l) o h g = waits_none l o h g
waits_none (Founds ∷ l) o h g = waits_none l o h g
waits_none (Starts x ∷ l) o h g = waits_none l o h g
waits_none (Came x ∷ l) o h g = waits_none l o h g
waits_none (Made v y ∷ l) o h g = waits_none l o h g
waits_none (Done n ∷ l) o h g = waits_none l o h g
waits_none (Committed y ∷ l) o h g = waits_none l o h g
waits_none (Is s c ∷ l) o h g = waits_none l o h g
waits_none (Gave n m ∷ l) o h g = waits_none l o h g
waits_none (Answered s x ∷ l) o h g = waits_none l o h g
waits_none (Begun s x y ∷ l) o h g = waits_none l o h g
waits_none (Changed s c ∷ l) o h g = waits_none l o h g
waits_none (Replied r ∷ l) o h g = waits_none l o h g
waits_none (Called s v w ∷ l) o h g = waits_none l o h g
waits_none (AsksCommit s j ∷ l) o h g = waits_none l o h g
waits_none (Ends s ∷ l) o h g = waits_none l o h g
waits_none (AskFails ∷ l) o h g = waits_none l o h g

-- ---- the parts that a Give tells

abbrev IsOf : Inc → Option OpenParts → Type 0
IsOf o None = Unit {0}
IsOf o (Some p) = p.origin ≡ o

parts_of_is : (ps : List OpenParts) (o : Inc) → IsOf o (parts_of ps o)
parts_of_is [] o = tt
parts_of_is (p ∷ ps) o = go (inc_eq p.origin o) refl (parts_of_is ps o)
  where
    go : (b : Bool) → inc_eq p.origin o ≡ b → IsOf o (parts_of ps o) → IsOf o (elim b [ true ↦ Some p | false ↦ parts_of ps o ])
    go true e k = inc_is p.origin o e
    go false e k = k

after_is : (o : Inc) (h : Option Body) (q : Option OpenParts) → IsOf o (open_after o h q)
after_is o None q = tt
after_is o (Some (Writes x)) q = tt
after_is o (Some (Prepared g)) q = tt
after_is o (Some Sync) q = tt
after_is o (Some (Executed e)) q = tt
after_is o (Some (Arrives e)) q = tt
after_is o (Some (Switches m)) q = tt
after_is o (Some (Appoints i)) q = tt
after_is o (Some (PartOf x)) q = go (is_open q x)
  where
    go : (b : Bool) → IsOf o (elim b [ true ↦ Some (record { origin = o; count = x.count; held = x.index; bytes = joined_bytes q x }) | false ↦ None ])
    go true = refl
    go false = tt

open_is : (l : Life) (o : Inc) → IsOf o (open_parts l o)
open_is [] o = tt
open_is (Restores y cs ∷ l) o = parts_of_is y.parts o
open_is (Took e ∷ l) o = go (inc_eq e.value.id.origin o) (open_is l o)
  where
    go : (b : Bool) → IsOf o (open_parts l o) → IsOf o (elim b [ true ↦ open_after o e.holds (open_parts l o) | false ↦ open_parts l o ])
    go true k = after_is o e.holds (open_parts l o)
    go false k = k
open_is (Skips s v ∷ l) o = open_is l o
open_is (Enters w ∷ l) o = open_is l o
open_is (Founds ∷ l) o = open_is l o
open_is (Starts x ∷ l) o = open_is l o
open_is (Came x ∷ l) o = open_is l o
open_is (Made v h ∷ l) o = open_is l o
open_is (Done n ∷ l) o = open_is l o
open_is (Committed g ∷ l) o = open_is l o
open_is (Is s c ∷ l) o = open_is l o
open_is (Gave n m ∷ l) o = open_is l o
open_is (Answered s x ∷ l) o = open_is l o
open_is (Begun s x y ∷ l) o = open_is l o
open_is (Changed s c ∷ l) o = open_is l o
open_is (Replied r ∷ l) o = open_is l o
open_is (Called s v w ∷ l) o = open_is l o
open_is (AsksCommit s j ∷ l) o = open_is l o
open_is (Ends s ∷ l) o = open_is l o
open_is (AskFails ∷ l) o = open_is l o

-- those that are not among these have none
pub parts_missing : (l : Life) (is : List Inc) (o : Inc) → has_inc is o ≡ false → parts_of (all_parts l is) o ≡ None
parts_missing l [] o h = refl
parts_missing l (i ∷ is) o h = go (open_parts l i) refl (open_is l i) (parts_missing l is o rest)
  where
    apart : inc_eq i o ≡ false
    apart = elim (cases_Bool (inc_eq i o)) [ inl z ↦ absurd (false≢true (sym h ∙ ap (λ b. b || has_inc is o) z)) | inr z ↦ z ]

    rest : has_inc is o ≡ false
    rest = sym (ap (λ b. b || has_inc is o) apart) ∙ h

    go : (q : Option OpenParts) → open_parts l i ≡ q → IsOf i (open_parts l i) → parts_of (all_parts l is) o ≡ None → parts_of (elim q [ None ↦ all_parts l is | Some p ↦ p ∷ all_parts l is ]) o ≡ None
    go None e z k = k
    go (Some p) e z k = ap (λ b. elim b [ true ↦ Some p | false ↦ parts_of (all_parts l is) o ]) (ap (λ j. inc_eq j o) (subst (λ y. IsOf i y) e z) ∙ apart) ∙ k

-- each of these has the parts that it had
pub parts_given : (l : Life) (is : List Inc) (o : Inc) → has_inc is o ≡ true → parts_of (all_parts l is) o ≡ open_parts l o
parts_given l [] o h = absurd (false≢true h)
parts_given l (i ∷ is) o h = go (open_parts l i) refl (open_is l i) (or_parts (inc_eq i o) (has_inc is o) h) (λ k. parts_given l is o k)
  where
    go : (q : Option OpenParts) → open_parts l i ≡ q → IsOf i (open_parts l i) → (inc_eq i o ≡ true) ⊎ (has_inc is o ≡ true) → (has_inc is o ≡ true → parts_of (all_parts l is) o ≡ open_parts l o) → parts_of (elim q [ None ↦ all_parts l is | Some p ↦ p ∷ all_parts l is ]) o ≡ open_parts l o
    go None e z (inr k) f = f k
    go None e z (inl k) f = none_of (cases_Bool (has_inc is o))
      where
        here : open_parts l o ≡ None
        here = ap (λ j. open_parts l j) (sym (inc_is i o k)) ∙ e

        none_of : (has_inc is o ≡ true) ⊎ (has_inc is o ≡ false) → parts_of (all_parts l is) o ≡ open_parts l o
        none_of (inl m) = f m
        none_of (inr m) = parts_missing l is o m ∙ sym here
    go (Some p) e z k f = by (cases_Bool (inc_eq i o))
      where
        origin : p.origin ≡ i
        origin = subst (λ y. IsOf i y) e z

        by : (inc_eq i o ≡ true) ⊎ (inc_eq i o ≡ false) → elim (inc_eq p.origin o) [ true ↦ Some p | false ↦ parts_of (all_parts l is) o ] ≡ open_parts l o
        by (inl m) = ap (λ b. elim b [ true ↦ Some p | false ↦ parts_of (all_parts l is) o ]) (ap (λ j. inc_eq j o) origin ∙ m) ∙ (sym e ∙ ap (λ j. open_parts l j) (inc_is i o m))
        by (inr m) = ap (λ b. elim b [ true ↦ Some p | false ↦ parts_of (all_parts l is) o ]) (ap (λ j. inc_eq j o) origin ∙ m) ∙ elim k [ inl y ↦ absurd (false≢true (sym m ∙ y)) | inr y ↦ f y ]

-- ---- where an entry was taken

pub took_at : (p : Past) (i : Inc) (n : ℕ) (e : Entry) → entry_at (life_in p i) n ≡ Some e → (e.place ≡ n) × ((q : Past) × IsPast (Does i (Took e) ∷ q) p × (upto (life_in p i) n ≡ Took e ∷ life_in q i))
took_at [] i n e h = absurd (cc h)
took_at (WritesRow m x ∷ p) i n e h = let r = took_at p i n e h in (r.0, (r.1.0, inr r.1.1, r.1.2))
took_at (Halts m ∷ p) i n e h = let r = took_at p i n e h in (r.0, (r.1.0, inr r.1.1, r.1.2))
took_at (Does j d ∷ p) i n e h = go (inc_eq j i) refl h (took_at p i n e)
  where
    taken_here : (x : Entry) → j ≡ i → d ≡ Took x → (b : Bool) → (x.place == n) ≡ b → elim b [ true ↦ Some x | false ↦ entry_at (life_in p i) n ] ≡ Some e → (entry_at (life_in p i) n ≡ Some e → (e.place ≡ n) × ((q : Past) × IsPast (Does i (Took e) ∷ q) p × (upto (life_in p i) n ≡ Took e ∷ life_in q i))) →
        (e.place ≡ n) × ((q : Past) × IsPast (Does i (Took e) ∷ q) (Does j d ∷ p) × (elim b [ true ↦ Took x ∷ life_in p i | false ↦ upto (life_in p i) n ] ≡ Took e ∷ life_in q i))
    taken_here x a c true q k f =
        let same : x ≡ e = cc in
        (ap (λ y. y.place) (sym same) ∙ eqb-true x.place n q, (p, inl (ap (λ y. Does y (Took e) ∷ p) (sym a) ∙ (ap (λ y. Does j (Took y) ∷ p) (sym same) ∙ ap (λ y. Does j y ∷ p) (sym c))), ap (λ y. Took y ∷ life_in p i) same))
    taken_here x a c false q k f = let r = f k in (r.0, (r.1.0, inr r.1.1, r.1.2))

    by : (x : Did) → d ≡ x → j ≡ i → entry_at (x ∷ life_in p i) n ≡ Some e → (entry_at (life_in p i) n ≡ Some e → (e.place ≡ n) × ((q : Past) × IsPast (Does i (Took e) ∷ q) p × (upto (life_in p i) n ≡ Took e ∷ life_in q i))) →
        (e.place ≡ n) × ((q : Past) × IsPast (Does i (Took e) ∷ q) (Does j d ∷ p) × (upto (x ∷ life_in p i) n ≡ Took e ∷ life_in q i))
    by (Took x) c a k f = taken_here x a c (x.place == n) refl k f
    by (Skips s v) c a k f = let r = f k in (r.0, (r.1.0, inr r.1.1, r.1.2))
    by (Enters w) c a k f = let r = f k in (r.0, (r.1.0, inr r.1.1, r.1.2))
    by (Restores y cs) c a k f = let r = f k in (r.0, (r.1.0, inr r.1.1, r.1.2))
    by Founds c a k f = let r = f k in (r.0, (r.1.0, inr r.1.1, r.1.2))
    by (Starts x) c a k f = let r = f k in (r.0, (r.1.0, inr r.1.1, r.1.2))
    by (Came x) c a k f = let r = f k in (r.0, (r.1.0, inr r.1.1, r.1.2))
    by (Made v y) c a k f = let r = f k in (r.0, (r.1.0, inr r.1.1, r.1.2))
    by (Done n) c a k f = let r = f k in (r.0, (r.1.0, inr r.1.1, r.1.2))
    by (Committed g) c a k f = let r = f k in (r.0, (r.1.0, inr r.1.1, r.1.2))
    by (Is s y) c a k f = let r = f k in (r.0, (r.1.0, inr r.1.1, r.1.2))
    by (Gave n m) c a k f = let r = f k in (r.0, (r.1.0, inr r.1.1, r.1.2))
    by (Answered s x) c a k f = let r = f k in (r.0, (r.1.0, inr r.1.1, r.1.2))
    by (Begun s x y) c a k f = let r = f k in (r.0, (r.1.0, inr r.1.1, r.1.2))
    by (Changed s y) c a k f = let r = f k in (r.0, (r.1.0, inr r.1.1, r.1.2))
    by (Replied r) c a k f = let r = f k in (r.0, (r.1.0, inr r.1.1, r.1.2))
    by (Called s v w) c a k f = let r = f k in (r.0, (r.1.0, inr r.1.1, r.1.2))
    by (AsksCommit s j) c a k f = let r = f k in (r.0, (r.1.0, inr r.1.1, r.1.2))
    by (Ends s) c a k f = let r = f k in (r.0, (r.1.0, inr r.1.1, r.1.2))
    by AskFails c a k f = let r = f k in (r.0, (r.1.0, inr r.1.1, r.1.2))

    go : (b : Bool) → inc_eq j i ≡ b → entry_at (elim b [ true ↦ d ∷ life_in p i | false ↦ life_in p i ]) n ≡ Some e → (entry_at (life_in p i) n ≡ Some e → (e.place ≡ n) × ((q : Past) × IsPast (Does i (Took e) ∷ q) p × (upto (life_in p i) n ≡ Took e ∷ life_in q i))) →
        (e.place ≡ n) × ((q : Past) × IsPast (Does i (Took e) ∷ q) (Does j d ∷ p) × (upto (elim b [ true ↦ d ∷ life_in p i | false ↦ life_in p i ]) n ≡ Took e ∷ life_in q i))
    go true c k f = by d refl (inc_is j i c) k f
    go false c k f = let r = f k in (r.0, (r.1.0, inr r.1.1, r.1.2))

-- ---- places rise with slots

read_place : (r : Reading) (v : Value) → r.place ≤ (read r v).place
read_place r v = by_read (λ z. r.place ≤ z.place) v r (λ a. omega arith) (λ a b. omega arith) (λ a b. by_what v.what)
  where
    by_what : (w : What) → r.place ≤ (changed (kept r v) w).place
    by_what (Add j) = omega arith
    by_what (Remove i) = omega arith
    by_what Noop = omega arith
    by_what (Says x) = omega arith

part_place : (t : Setup) (log : List Value) (s : ℕ) → (reading_of t (before_slot log s)).place ≤ (reading_of t log).place
part_place t [] s = omega arith
part_place t (v ∷ log) s = elim (cases_Bool (leb s (suc (length log)))) [
  | inl q ↦ (let a = part_place t log s in let b = read_place (reading_of t log) v in
      subst (λ l. (reading_of t l).place ≤ (reading_of t (v ∷ log)).place) (sym (before_above v log s (leb-true s (suc (length log)) q))) (omega (arith, a, b)))
  | inr q ↦ subst (λ l. (reading_of t l).place ≤ (reading_of t (v ∷ log)).place) (sym (before_all (v ∷ log) s (leb-false s (suc (length log)) q))) (omega arith)
]

pub places_rise : (t : Setup) (log : List Value) (s r : ℕ) → s ≤ r → (reading_of t (before_slot log s)).place ≤ (reading_of t (before_slot log r)).place
places_rise t [] s r h = omega arith
places_rise t (v ∷ log) s r h = elim (cases_Bool (leb r (suc (length log)))) [
  | inl q ↦ (let a = leb-true r (suc (length log)) q in
      subst (λ l. (reading_of t l).place ≤ (reading_of t (before_slot (v ∷ log) r)).place) (sym (before_above v log s (omega (arith, a, h))))
      (subst (λ l. (reading_of t (before_slot log s)).place ≤ (reading_of t l).place) (sym (before_above v log r a)) (places_rise t log s r h)))
  | inr q ↦ subst (λ l. (reading_of t (before_slot (v ∷ log) s)).place ≤ (reading_of t l).place) (sym (before_all (v ∷ log) r (leb-false r (suc (length log)) q))) (part_place t (v ∷ log) s)
]
