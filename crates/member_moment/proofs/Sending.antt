-- The own values that bring a transaction.
use Rattle.std.proofs.Common.{◌≡◌, ◌≤◌, ◌<◌, ◌+◌, ◌++◌, ◌∷◌, ℕ, Bool, true, false, Some, None, List, [], length, refl, sym, subst, ap, ◌∙◌, arith, append_assoc, append-nil, length-append}
use Rattle.std.specs.Prelude.{◌==◌, nat_le}
use Rattle.std.proofs.lemmas.Bool.{lt-leb, le-leb}
use Rattle.std.specs.List.{AllByRecursion}
use Rattle.byte_forms.specs.Numbers.{number}
use Rattle.byte_forms.specs.Lists.{counted}
use Rattle.byte_forms.proofs.NumberLemmas.{length-number}
use Rattle.slot_values.specs.declared.value.What.{What}
use Rattle.slot_values.specs.declared.value.What.TheVariants.{Body as Says}
use Rattle.slot_values.specs.Spelling.{IsWhat}
use Rattle.txn_forms.specs.Bodies.{IsPart, body_bytes, part_bytes}
use Rattle.txn_forms.specs.declared.body.Body.{Body}
use Rattle.txn_forms.specs.declared.body.Body.TheVariants.{Txn as Writes, Part as PartOf, Sync}
use Rattle.txn_forms.specs.declared.body.Part.{Part}
use Rattle.txn_forms.specs.declared.body.Txn.{Txn}
use Rattle.txn_forms.specs.Parts.{whole_bytes}
use Rattle.group_rules.specs.Calls.{own_part}
use Rattle.group_rules.specs.Parts.{cut}
use Rattle.group_rules.specs.Events.{Life}
use Rattle.group_rules.specs.Member.{Member, for_each, own, own_body}
use Rattle.member_truth.specs.Ranged.{IsSpelt}
use Rattle.member_moment.specs.declared.moment.Moment.{Moment}
use Rattle.member_moment.specs.Calling.{sends_body}
use Rattle.member_moment.specs.Owning.{IsHeldAs}
use Rattle.member_moment.specs.Standing.{RestFor}

-- ---- one part

-- the bytes of a part aren't too many for a value
pub part_is_what : (p : Part) (b : List ℕ) → IsPart p → b ≡ body_bytes (PartOf p) → IsWhat 1 (Says b)
part_is_what p b h e =
    let few : length p.bytes ≤ 65523 = h.bytes_below in
    let n : length (body_bytes (PartOf p)) ≡ 13 + length p.bytes = size in
    subst (λ (c : List ℕ). (1 ≤ length c) × (length c ≤ 4294967295)) (sym e) (omega (arith, n), omega (arith, n, few))
  where
    size : length (body_bytes (PartOf p)) ≡ 13 + length p.bytes
    size = omega (
      arith,
      length-append (number 1 8) (part_bytes p),
      length-append (number 4 p.index) (number 4 p.count ++ counted p.bytes),
      length-append (number 4 p.count) (counted p.bytes),
      length-append (number 4 (length p.bytes)) p.bytes,
      length-number 1 8,
      length-number 4 p.index,
      length-number 4 p.count,
      length-number 4 (length p.bytes),
    )

-- what an own value does to the rest, where it is neither a Prepared nor an Online entry
abbrev pub Owns : What → Moment → Moment → Type 0
Owns w x y = (base : Life) (a : Member) (holds : _) → IsSpelt holds → IsHeldAs None false holds → RestFor base a x → RestFor base (own w holds a) y

-- a Sync
pub sync_is_what : (b : List ℕ) → b ≡ body_bytes Sync → IsWhat 1 (Says b)
sync_is_what b e = subst (λ (c : List ℕ). (1 ≤ length c) × (length c ≤ 4294967295)) (sym e) (omega (arith, length-number 1 3), omega (arith, length-number 1 3))

pub sync_is_sent : (x y : Moment) (b : List ℕ) → b ≡ body_bytes Sync → Owns (Says b) x y → (base : Life) (a : Member) → RestFor base a x → RestFor base (own_body Sync a) y
sync_is_sent x y b e f = λ base a r.
    subst (λ (c : List ℕ). RestFor base (own (Says c) (Some Sync) a) y) e (f base a (Some Sync) (tt, tt) (record { acknowledges = refl; number = tt; comes = refl }) r)

abbrev pub SendsPart : Part → Moment → Moment → Type 0
SendsPart p x y = (base : Life) (a : Member) (t : Txn) → IsSpelt (Some (Writes t)) → RestFor base a x → RestFor base (own_part t p a) y

pub part_is_sent : (x y : Moment) (p : Part) (b : List ℕ) → IsPart p → b ≡ body_bytes (PartOf p) → Owns (Says b) x y → SendsPart p x y
part_is_sent x y p b h e f = λ base a t k r.
    let holds : Bool → Body = λ z. elim z [ true ↦ Writes t | false ↦ PartOf p ] in
    subst (λ (c : List ℕ). RestFor base (own (Says c) (Some (holds (p.index == p.count))) a) y) e (f base a (Some (holds (p.index == p.count))) (spelt t (p.index == p.count) k) (held t (p.index == p.count)) r)
  where
    spelt : (t : Txn) (z : Bool) → IsSpelt (Some (Writes t)) → IsSpelt (Some (elim z [ true ↦ Writes t | false ↦ PartOf p ]))
    spelt t true k = k
    spelt t false k = (h, tt)

    held : (t : Txn) (z : Bool) → IsHeldAs None false (Some (elim z [ true ↦ Writes t | false ↦ PartOf p ]))
    held t true = record { acknowledges = refl; number = tt; comes = refl }
    held t false = record { acknowledges = refl; number = tt; comes = refl }

-- ---- parts

-- nothing else changes
abbrev pub Keeps : Moment → Moment → Type 0
Keeps x y = y ≡ record x { node = y.node; parts = y.parts; own = y.own; sent = y.sent }

pub keeps_then : (x y z : Moment) → Keeps x y → Keeps y z → Keeps x z
keeps_then x y z e f = let g : Moment → Moment = λ m. record m { node = z.node; parts = z.parts; own = z.own; sent = z.sent } in f ∙ ap g e

abbrev pub SendsAll : List Part → Moment → Moment → Type 0
SendsAll ps x y = (base : Life) (a : Member) (t : Txn) → IsSpelt (Some (Writes t)) → RestFor base a x → RestFor base (for_each (own_part t) ps a) y

-- some of the parts are sent
pub record Parted (x y : Moment) (all sent left : List Part) : Type 0 where
  pub whole : sent ++ left ≡ all
  pub others : Keeps x y
  pub rest : SendsAll sent x y

each_and_one : {A : Type 0} → (f : A → Member → Member) (xs : List A) (x : A) (a : Member) → for_each f (xs ++ x ∷ []) a ≡ f x (for_each f xs a)
each_and_one f [] x a = refl
each_and_one f (y ∷ ys) x a = each_and_one f ys x (f y a)

-- the next one has the form of parts
pub next_fits : (sent left : List Part) (p : Part) → AllByRecursion IsPart (sent ++ p ∷ left) → IsPart p
next_fits [] left p h = h.0
next_fits (q ∷ qs) left p h = next_fits qs left p h.1

pub parted_more : (x y z : Moment) (all sent left : List Part) (p : Part) → Parted x y all sent (p ∷ left) → SendsPart p y z → Keeps y z → Parted x z all (sent ++ p ∷ []) left
parted_more x y z all sent left p h f k = record {
  whole = append_assoc sent (p ∷ []) left ∙ h.whole;
  others = keeps_then x y z h.others k;
  rest = λ base a t s r. subst (λ b. RestFor base b z) (sym (each_and_one (own_part t) sent p a)) (f base (for_each (own_part t) sent a) t s (h.rest base a t s r));
}

pub all_are_sent : (x y : Moment) (all sent left : List Part) → Parted x y all sent left → length left ≡ 0 → SendsAll all x y
all_are_sent x y all sent [] h e = λ base a t k r. subst (λ (ps : List Part). RestFor base (for_each (own_part t) ps a) y) (sym (append-nil sent) ∙ h.whole) (h.rest base a t k r)
all_are_sent x y all sent (p ∷ ps) h e = absurd (omega (arith, e))

-- ---- a body

abbrev pub SendsBody : List ℕ → Moment → Moment → Type 0
SendsBody b x y = (base : Life) (a : Member) (t : Txn) → IsSpelt (Some (Writes t)) → RestFor base a x → RestFor base (sends_body t b a) y

pub whole_is_sent : (x y : Moment) (b : List ℕ) → length b ≤ whole_bytes → Owns (Says b) x y → SendsBody b x y
whole_is_sent x y b h f = λ base a t k r.
    let short : nat_le (length b) whole_bytes ≡ true = le-leb (length b) whole_bytes h in
    rw (sends_body, short) (f base a (Some (Writes t)) k (record { acknowledges = refl; number = tt; comes = refl }) r)

pub parts_are_sent : (x y : Moment) (b : List ℕ) (ps : List Part) → whole_bytes < length b → ps ≡ cut b → SendsAll ps x y → SendsBody b x y
parts_are_sent x y b ps h e f = λ base a t k r.
    let long : nat_le (length b) whole_bytes ≡ false = lt-leb (length b) whole_bytes h in
    rw (sends_body, long) (subst (λ (qs : List Part). RestFor base (for_each (own_part t) qs a) y) e (f base a t k r))
