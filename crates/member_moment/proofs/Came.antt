-- Events that come.
use Rattle.std.proofs.Common.{arith, ◌≡◌, ◌∷◌, true, refl, sym, subst}
use Rattle.group_rules.specs.Events.{Came, Event, Hears, Ticks, Works, Calls, Operates, Life}
use Rattle.group_rules.specs.Member.{Member, push}
use Rattle.member_parts.specs.Standing.{StandsFor}
use Rattle.member_parts.proofs.Passed.{passes as parts_pass}
use Rattle.member_own.specs.Keeping.{Keeps}
use Rattle.member_own.proofs.Kept.{passes as own_passes}
use Rattle.member_joining.proofs.Joined.{passes as joining_passes}
use Rattle.member_ranges.proofs.Passed.{passed as said}
use Rattle.member_tables.proofs.Kept.{stands_on}
use Rattle.member_moment.specs.declared.moment.Moment.{Moment}
use Rattle.member_moment.specs.Arriving.{is_untold}
use Rattle.member_moment.specs.Standing.{Stands}
use Rattle.member_moment.proofs.Pushed.{unmarked}

-- the parts and what is kept of the own ticks have it
pub came : (base : Life) (a : Member) (e : Event) (x y : Moment) → y ≡ record x { parts = y.parts; own = y.own } → StandsFor a.setup a.me.inc (Came e ∷ a.life) y.parts → Keeps a.me.inc (Came e ∷ a.life) y.own
    → Stands base a x → Stands base (push (Came e) a) y
came base a e x y same p o st = let r = st.rest in subst (λ z. Stands base (push (Came e) a) z) (sym same) (record {
  rest = record {
    me = r.me;
    contact = r.contact;
    limits = r.limits;
    node = r.node;
    parts = p;
    own = o;
    joining = joining_passes a.life (Came e) x.joining refl r.joining;
    committed = r.committed;
    marks = unmarked base a.life x.marks.items (Came e) refl r.marks;
    sent = r.sent;
    range = said (Came e) a refl r.range;
    sent_range = r.sent_range;
    ranged = (tt, r.ranged);
  };
  tables = stands_on a.setup a.me.inc a.life x.tables (Came e) refl refl (omega arith) st.tables;
})

-- nothing is kept of it
pub came_untold : (base : Life) (a : Member) (e : Event) (x : Moment) → is_untold e ≡ true → Stands base a x → Stands base (push (Came e) a) x
came_untold base a (Hears m) x h st = absurd (cc h)
came_untold base a Ticks x h st = absurd (cc h)
came_untold base a (Works p b) x h st = came base a (Works p b) x x refl (parts_pass a.setup a.me.inc a.life (Came (Works p b)) x.parts refl st.rest.parts) (own_passes a.me.inc a.life x.own (Came (Works p b)) refl st.rest.own) st
came_untold base a (Calls s r) x h st = came base a (Calls s r) x x refl (parts_pass a.setup a.me.inc a.life (Came (Calls s r)) x.parts refl st.rest.parts) (own_passes a.me.inc a.life x.own (Came (Calls s r)) refl st.rest.own) st
came_untold base a (Operates o) x h st = came base a (Operates o) x x refl (parts_pass a.setup a.me.inc a.life (Came (Operates o)) x.parts refl st.rest.parts) (own_passes a.me.inc a.life x.own (Came (Operates o)) refl st.rest.own) st
