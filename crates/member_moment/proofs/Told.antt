-- A last answer, but for the tables.
use Rattle.std.proofs.Common.{◌≡◌, ℕ, ◌∷◌, refl, sym, subst}
use Rattle.group_rules.specs.Events.{Ends, Life}
use Rattle.group_rules.specs.Member.{Member}
use Rattle.member_parts.specs.Standing.{StandsFor}
use Rattle.member_own.proofs.Kept.{passes as own_passes}
use Rattle.member_joining.proofs.Joined.{passes as joining_passes}
use Rattle.member_ranges.proofs.Passed.{passed as said}
use Rattle.member_moment.specs.declared.moment.Moment.{Moment}
use Rattle.member_moment.specs.Standing.{RestFor}
use Rattle.member_moment.proofs.Pushed.{unmarked}

-- the parts end the hold, and nothing else is kept of the end
pub ended : (base : Life) (a : Member) (s : ℕ) (x y : Moment) → y ≡ record x { parts = y.parts } → StandsFor a.setup a.me.inc (Ends s ∷ a.life) y.parts → RestFor base a x
    → RestFor base (record a { life = Ends s ∷ a.life }) y
ended base a s x y e p r = subst (λ z. RestFor base (record a { life = Ends s ∷ a.life }) z) (sym e) (record {
  me = r.me;
  contact = r.contact;
  limits = r.limits;
  node = r.node;
  parts = p;
  own = own_passes a.me.inc a.life x.own (Ends s) refl r.own;
  joining = joining_passes a.life (Ends s) x.joining refl r.joining;
  committed = r.committed;
  marks = unmarked base a.life x.marks.items (Ends s) refl r.marks;
  sent = r.sent;
  range = said (Ends s) a refl r.range;
  sent_range = r.sent_range;
  ranged = (tt, r.ranged);
})
