-- One thing more in a history, of which nothing is kept but a mark.
use Rattle.std.proofs.Common.{◌≡◌, false, Option, Some, None, option_to_list, List, [], ◌∷◌, ◌++◌, reverse, refl, sym, subst, ap, ◌∙◌}
use Rattle.std.proofs.lemmas.List.{append-nil, reverse-append}
use Rattle.group_rules.specs.declared.marks.Mark.{Mark}
use Rattle.group_rules.specs.Events.{Did, Life, mark_of, marks_of, with_mark}
use Rattle.std.proofs.Common.{arith}
use Rattle.group_rules.specs.Life.{last_made}
use Rattle.group_rules.specs.Member.{Member, push}
use Rattle.local_sessions.specs.Following.{touches}
use Rattle.member_truth.specs.Ranged.{IsRangedDid}
use Rattle.member_parts.specs.Standing.{is_of_parts}
use Rattle.member_parts.proofs.Passed.{passes as parts_pass}
use Rattle.member_tables.specs.Standing.{is_of_tables}
use Rattle.member_tables.proofs.Kept.{stands_on}
use Rattle.member_own.specs.Keeping.{is_of_own}
use Rattle.member_own.proofs.Kept.{passes as own_passes}
use Rattle.member_joining.specs.Joins.{is_of_joining}
use Rattle.member_joining.proofs.Joined.{passes as joining_passes}
use Rattle.member_ranges.specs.Ranges.{is_of_range}
use Rattle.member_ranges.proofs.Passed.{passed as said}
use Rattle.kept_server.specs.Keeping.{left_of}
use Rattle.kept_server.specs.Redoing.{LeadTo}
use Rattle.member_moment.specs.declared.moment.Moment.{Moment}
use Rattle.member_moment.specs.Standing.{Marked, RestFor}
use Rattle.member_moment.specs.Doing.{Does}
use Rattle.member_tables.specs.Standing.{TablesFor}

-- ---- marks

with_mark_before : (o : Option Mark) (ms ns : List Mark) → with_mark o (ms ++ ns) ≡ with_mark o ms ++ ns
with_mark_before None ms ns = refl
with_mark_before (Some m) ms ns = refl

mark_alone : (o : Option Mark) → with_mark o [] ≡ option_to_list o
mark_alone None = refl
mark_alone (Some m) = refl

marks_then : (ds : List Did) (d : Did) → marks_of (ds ++ d ∷ []) ≡ marks_of ds ++ option_to_list (mark_of d)
marks_then [] d = mark_alone (mark_of d)
marks_then (c ∷ ds) d = ap (with_mark (mark_of c)) (marks_then ds d) ∙ with_mark_before (mark_of c) (marks_of ds) (option_to_list (mark_of d))

-- one thing more, with its mark
pub marked : (base l : Life) (ms : List Mark) (d : Did) → Marked base l ms → Marked base (d ∷ l) (ms ++ option_to_list (mark_of d))
marked base l ms d m = record {
  since = d ∷ m.since;
  grown = ap (λ k. d ∷ k) m.grown;
  told = ap (λ ks. ks ++ option_to_list (mark_of d)) m.told ∙ sym (ap marks_of (reverse-append (d ∷ []) m.since) ∙ marks_then (reverse m.since) d);
}

-- one thing more that has no mark
pub unmarked : (base l : Life) (ms : List Mark) (d : Did) → mark_of d ≡ None → Marked base l ms → Marked base (d ∷ l) ms
unmarked base l ms d e m = subst (Marked base (d ∷ l)) (ap (λ o. ms ++ option_to_list o) e ∙ append-nil ms) (marked base l ms d m)

-- ---- nothing is kept of it

pub record IsSaid (d : Did) (a : Member) : Type 0 where
  pub parts : is_of_parts d ≡ false
  pub own : is_of_own d ≡ false
  pub joining : is_of_joining d ≡ false
  pub range : is_of_range d ≡ false
  pub ranged : IsRangedDid d
  pub committed : left_of (d ∷ a.life) ≡ left_of a.life

module _ (base : Life) (a : Member) (x : Moment) (d : Did) where
  -- all but the tables
  pub rest_said : (y : Moment) → y ≡ record x { marks = y.marks } → y.marks.items ≡ x.marks.items ++ option_to_list (mark_of d) → IsSaid d a → RestFor base a x → RestFor base (push d a) y
  rest_said y e m s r = subst (λ z. RestFor base (push d a) z) (sym e) (record {
    me = r.me;
    contact = r.contact;
    limits = r.limits;
    node = r.node;
    parts = parts_pass a.setup a.me.inc a.life d x.parts s.parts r.parts;
    own = own_passes a.me.inc a.life x.own d s.own r.own;
    joining = joining_passes a.life d x.joining s.joining r.joining;
    committed = subst (LeadTo (left_of base) x.committed.items) (sym s.committed) r.committed;
    marks = subst (Marked base (d ∷ a.life)) (sym m) (marked base a.life x.marks.items d r.marks);
    sent = r.sent;
    range = said d a s.range r.range;
    sent_range = r.sent_range;
    ranged = (s.ranged, r.ranged);
  })

-- the tables too
pub record IsUntold (d : Did) (a : Member) : Type 0 where
  pub said : IsSaid d a
  pub sessions : touches d ≡ false
  pub tables : is_of_tables d ≡ false
  pub made : last_made (d ∷ a.life) ≡ last_made a.life

pub does_say : (d : Did) (x y : Moment) → y ≡ record x { marks = y.marks } → y.marks.items ≡ x.marks.items ++ option_to_list (mark_of d) → ((a : Member) → IsUntold d a) → Does (push d) x y
does_say d x y e m u = λ base a p st. record {
  rest = rest_said base a x d y e m (u a).said st.rest;
  tables = subst (λ t. TablesFor (push d a) t) (sym (ap (λ z. z.tables) e)) (stands_on a.setup a.me.inc a.life x.tables d (u a).sessions (u a).tables (omega (arith, (u a).made)) st.tables);
}
