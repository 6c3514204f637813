-- Own values.
use Rattle.std.proofs.Common.{arith, ◌∷◌, ◌≡◌, ◌≤◌, ℕ, suc, Bool, Option, refl, sym, subst, ap, ◌∙◌}
use Rattle.slot_values.specs.declared.value.Value.{Value}
use Rattle.slot_values.specs.declared.value.What.{What}
use Rattle.slot_values.specs.declared.value.What.TheVariants.{Noop, Add, Remove, Body as Says}
use Rattle.gr_ids.specs.declared.names.ValueId.{ValueId}
use Rattle.name_forms.specs.Incs.{IsInc}
use Rattle.name_forms.specs.Ids.{last_u64}
use Rattle.slot_values.specs.Spelling.{IsValue, IsWhat}
use Rattle.txn_forms.specs.declared.body.Body.{Body}
use Rattle.group_rules.specs.Events.{Life, Made}
use Rattle.group_rules.specs.Life.{is_arrival, last_made}
use Rattle.group_rules.specs.Member.{Member, at_node, next_id, own, push}
use Rattle.node_rules.specs.declared.event.PaxosEvent.TheVariants.{Own}
use Rattle.member_tables.specs.declared.tables.MemberTables.{MemberTables}
use Rattle.member_tables.specs.Standing.{TablesFor}
use Rattle.member_tables.proofs.Kept.{stands_on}
use Rattle.member_parts.specs.Standing.{StandsFor}
use Rattle.member_own.specs.Keeping.{Keeps, with_value}
use Rattle.member_own.proofs.Kept.{makes}
use Rattle.member_joining.proofs.Joined.{passes as joining_passes}
use Rattle.member_ranges.proofs.Passed.{passed as said}
use Rattle.member_truth.specs.Ranged.{IsSpelt}
use Rattle.member_moment.specs.declared.moment.Moment.{Moment}
use Rattle.member_moment.specs.Standing.{RestFor}
use Rattle.member_moment.proofs.Pushed.{unmarked}

-- another number than 0 says the same of a value, but for a Noop
pub another : (n : ℕ) (w : What) → IsWhat 1 w → IsWhat n w
another n Noop h = omega (arith, h)
another n (Add j) h = h
another n (Remove i) h = h
another n (Says b) h = h

-- an own value is made, with the next number
pub made_rest : (base : Life) (a : Member) (v : Value) (holds : Option Body) (arrives : Bool) (x y : Moment) → y ≡ record x { own = y.own; parts = y.parts } → v.id.number ≡ suc x.own.made
    → y.own ≡ with_value (suc x.own.made) arrives x.own → arrives ≡ is_arrival holds → IsSpelt holds
    → (last_made a.life ≤ v.id.number → StandsFor a.setup a.me.inc a.life x.parts → StandsFor a.setup a.me.inc (Made v holds ∷ a.life) y.parts)
    → RestFor base a x → RestFor base (push (Made v holds) a) y
made_rest base a v holds arrives x y same n o e spelt parts r = subst (λ z. RestFor base (push (Made v holds) a) z) (sym same) (record {
  me = r.me;
  contact = r.contact;
  limits = r.limits;
  node = r.node;
  parts = parts (omega (arith, n, r.own.number)) r.parts;
  own = subst (λ k. Keeps a.me.inc (Made v holds ∷ a.life) k) (sym (o ∙ (ap (λ m. with_value m arrives x.own) (sym n) ∙ ap (λ b. with_value v.id.number b x.own) e))) (makes a.me.inc a.life x.own v holds r.own);
  joining = joining_passes a.life (Made v holds) x.joining refl r.joining;
  committed = r.committed;
  marks = unmarked base a.life x.marks.items (Made v holds) refl r.marks;
  sent = r.sent;
  range = said (Made v holds) a refl r.range;
  sent_range = r.sent_range;
  ranged = (spelt, r.ranged);
})

-- the value that is made next can be spelt
pub made_is_value : (a : Member) (x : Moment) (v : Value) (base : Life) → IsWhat 1 v.what → v.id ≡ record { origin = x.me.inc; number = suc x.own.made } → v.id.number ≤ last_u64 → RestFor base a x → IsValue v
made_is_value a x v base w e f r = record {
  id = record { origin = subst IsInc (sym (ap (λ i. i.origin) e ∙ ap (λ j. j.inc) r.me)) r.range.joiner.inc; number_below = f };
  what = another v.id.number v.what w;
}

-- it is the one of the rules
pub made_id : (a : Member) (x : Moment) (base : Life) (i : ValueId) → i ≡ record { origin = x.me.inc; number = suc x.own.made } → RestFor base a x → i ≡ next_id a
made_id a x base i e r = e ∙ (ap (λ j. record { origin = j.inc; number = suc x.own.made }) r.me ∙ ap (λ n. record { origin = a.me.inc; number = suc n }) r.own.number)

-- The value is made, and goes to the node.
pub own_rest : (base : Life) (a : Member) (w : What) (holds : Option Body) (arrives : Bool) (n : ℕ) (x y z : Moment) → n ≡ suc x.own.made → n ≤ last_u64 → IsWhat 1 w
    → y ≡ record x { own = y.own; parts = y.parts } → y.own ≡ with_value (suc x.own.made) arrives x.own → arrives ≡ is_arrival holds → IsSpelt holds
    → ((v : Value) → last_made a.life ≤ v.id.number → StandsFor a.setup a.me.inc a.life x.parts → StandsFor a.setup a.me.inc (Made v holds ∷ a.life) y.parts)
    → ((b : Member) → IsValue (record { id = record { origin = x.me.inc; number = n }; what = w }) → RestFor base b y
    → RestFor base (at_node (Own (record { id = record { origin = x.me.inc; number = n }; what = w })) b) z)
    → RestFor base a x → RestFor base (own w holds a) z
own_rest base a w holds arrives n x y z e f what same o h spelt parts act r =
    let v : Value = record { id = record { origin = x.me.inc; number = n }; what = w } in
    let i : v.id ≡ record { origin = x.me.inc; number = suc x.own.made } = ap (λ k. record { origin = x.me.inc; number = k }) e in
    let id : v.id ≡ next_id a = made_id a x base v.id i r in
    subst (λ k. RestFor base (at_node (Own (record { id = k; what = w })) (push (Made (record { id = k; what = w }) holds) a)) z) id
    (act (push (Made v holds) a) (made_is_value a x v base what i f r) (made_rest base a v holds arrives x y same e o h spelt (parts v) r))

-- the tables keep nothing of it
pub own_tables : (a : Member) (w : What) (holds : Option Body) (t : MemberTables) → TablesFor a t → TablesFor (own w holds a) t
own_tables a w holds t s = stands_on a.setup a.me.inc a.life t (Made (record { id = next_id a; what = w }) holds) refl refl (omega arith) s
