-- A member whose parts or tables know already how an act ends: one thing more in its history, for all the rest.
use Rattle.std.proofs.Common.{◌≡◌, ℕ, false, option_to_list, [], ◌∷◌, ◌++◌, refl, sym, subst}
use Rattle.std.proofs.lemmas.List.{append-nil}
use Rattle.group_rules.specs.declared.answers.Answer.{Answer}
use Rattle.group_rules.specs.declared.marks.Mark.TheVariants.{Answered as AnsweredMark}
use Rattle.slot_values.specs.declared.value.Joiner.{Joiner}
use Rattle.group_rules.specs.Events.{Answered, Did, Ends, Life, Setup, mark_of}
use Rattle.group_rules.specs.Member.{Member, last_answer, push}
use Rattle.member_truth.specs.Growing.{Grows}
use Rattle.member_truth.specs.Ranged.{IsRangedDid}
use Rattle.member_parts.specs.declared.parts.MemberParts.{MemberParts}
use Rattle.member_parts.specs.Standing.{StandsFor}
use Rattle.member_tables.specs.declared.tables.MemberTables.{MemberTables}
use Rattle.member_own.specs.Keeping.{is_of_own}
use Rattle.member_own.proofs.Kept.{passes as own_passes}
use Rattle.member_joining.specs.Joins.{JoinsBy, is_of_joining}
use Rattle.member_joining.proofs.Joined.{passes as joining_passes}
use Rattle.member_ranges.specs.Ranges.{InRange, is_of_range}
use Rattle.member_ranges.proofs.Passed.{passed as said}
use Rattle.kept_server.specs.Keeping.{left_of}
use Rattle.kept_server.specs.Redoing.{LeadTo}
use Rattle.member_moment.specs.declared.moment.Moment.{Moment}
use Rattle.member_moment.specs.Aside.{AsideFor, ButParts}
use Rattle.member_moment.specs.Standing.{Marked, RestFor, Stands}
use Rattle.member_moment.proofs.Pushed.{marked}

pub aside_of : (base : Life) (a : Member) (x : Moment) → RestFor base a x → AsideFor base a x
aside_of base a x r = record {
  me = r.me;
  contact = r.contact;
  limits = r.limits;
  node = r.node;
  own = r.own;
  joining = r.joining;
  committed = r.committed;
  marks = r.marks;
  sent = r.sent;
  range = r.range;
  sent_range = r.sent_range;
  ranged = r.ranged;
}

pub rest_of : (base : Life) (a : Member) (x : Moment) → AsideFor base a x → StandsFor a.setup a.me.inc a.life x.parts → RestFor base a x
rest_of base a x r p = record {
  me = r.me;
  contact = r.contact;
  limits = r.limits;
  node = r.node;
  parts = p;
  own = r.own;
  joining = r.joining;
  committed = r.committed;
  marks = r.marks;
  sent = r.sent;
  range = r.range;
  sent_range = r.sent_range;
  ranged = r.ranged;
}

-- nothing but a mark is kept of it, in what stands beside the parts, the tables and the joining
pub record IsQuiet (d : Did) (a : Member) : Type 0 where
  pub own : is_of_own d ≡ false
  pub ranged : IsRangedDid d
  pub committed : left_of (d ∷ a.life) ≡ left_of a.life

module _ (base : Life) (a : Member) (x y : Moment) (e : y ≡ record x { parts = y.parts; tables = y.tables; marks = y.marks }) where
  pub pushed : (d : Did) → y.marks.items ≡ x.marks.items ++ option_to_list (mark_of d) → IsQuiet d a → InRange (push d a) → JoinsBy (d ∷ a.life) x.joining → AsideFor base a x → AsideFor base (push d a) y
  pushed d m q g j r = subst (λ z. AsideFor base (push d a) z) (sym e) (record {
    me = r.me;
    contact = r.contact;
    limits = r.limits;
    node = r.node;
    own = own_passes a.me.inc a.life x.own d q.own r.own;
    joining = j;
    committed = subst (LeadTo (left_of base) x.committed.items) (sym q.committed) r.committed;
    marks = subst (Marked base (d ∷ a.life)) (sym m) (marked base a.life x.marks.items d r.marks);
    sent = r.sent;
    range = g;
    sent_range = r.sent_range;
    ranged = (q.ranged, r.ranged);
  })

  pub passed : (d : Did) → y.marks.items ≡ x.marks.items ++ option_to_list (mark_of d) → IsQuiet d a → is_of_range d ≡ false → is_of_joining d ≡ false → AsideFor base a x → AsideFor base (push d a) y
  passed d m q g j r = pushed d m q (said d a g r.range) (joining_passes a.life d x.joining j r.joining) r

  -- other parts and tables
  pub same : y.marks.items ≡ x.marks.items → AsideFor base a x → AsideFor base a y
  same m r = subst (λ z. AsideFor base a z) (sym e) (record {
    me = r.me;
    contact = r.contact;
    limits = r.limits;
    node = r.node;
    own = r.own;
    joining = r.joining;
    committed = r.committed;
    marks = subst (Marked base a.life) (sym m) r.marks;
    sent = r.sent;
    range = r.range;
    sent_range = r.sent_range;
    ranged = r.ranged;
  })

-- ---- what is told

module _ (base : Life) (a : Member) (x y : Moment) (e : y ≡ record x { parts = y.parts; tables = y.tables; marks = y.marks }) where
  pub answered_last : (s : ℕ) (v : Answer) → y.marks.items ≡ x.marks.items ++ AnsweredMark s v ∷ [] → AsideFor base a x → AsideFor base (last_answer s v a) y
  answered_last s v m r =
      passed base (push (Answered s v) a) y y refl (Ends s) (sym (append-nil y.marks.items)) (record { own = refl; ranged = tt; committed = refl }) refl refl
      (passed base a x y e (Answered s v) m (record { own = refl; ranged = tt; committed = refl }) refl refl r)

module _ (base : Life) (a : Member) (x : Moment) where
  pub other_tables : (t : MemberTables) → RestFor base a x → RestFor base a (record x { tables = t })
  other_tables t r = rest_of base a (record x { tables = t }) (same base a x (record x { tables = t }) refl refl (aside_of base a x r)) r.parts

  -- all but the parts, whatever these are
  pub but_parts : (p : MemberParts) → Stands base a x → ButParts base a (record x { parts = p })
  but_parts p s = record { aside = same base a x (record x { parts = p }) refl refl (aside_of base a x s.rest); tables = s.tables }

  pub whole : StandsFor a.setup a.me.inc a.life x.parts → ButParts base a x → Stands base a x
  whole p b = record { rest = rest_of base a x b.aside p; tables = b.tables }

-- the parts of the same member, later
pub still_its : {a b : Member} {p : MemberParts} → Grows a b → StandsFor a.setup a.me.inc b.life p → StandsFor b.setup b.me.inc b.life p
still_its {a = a} {b = b} {p = p} g h = subst (λ (s : Setup). StandsFor s b.me.inc b.life p) (sym g.setup) (subst (λ (j : Joiner). StandsFor a.setup j.inc b.life p) (sym g.me) h)
