-- What an entry causes is what is told of it.
use Rattle.std.proofs.Common.{◌≡◌, ◌≤◌, ℕ, List, Bool, true, false, Option, Some, None, refl, sym, ap, ◌∙◌}
use Rattle.std.specs.Prelude.{◌&&◌, if◌then◌else◌}
use Rattle.gr_ids.specs.Names.{inc_eq}
use Rattle.gr_ids.specs.declared.levels.MemberState.TheVariants.{Online}
use Rattle.gr_ids.specs.declared.names.Inc.{Inc}
use Rattle.gr_ids.specs.declared.names.OpenParts.{OpenParts}
use Rattle.gr_ids.specs.declared.names.ValueId.{ValueId}
use Rattle.slot_values.specs.Spelling.{IsValue, IsWhat}
use Rattle.slot_values.specs.declared.value.Value.{Value}
use Rattle.slot_values.specs.declared.value.What.{What}
use Rattle.slot_values.specs.declared.value.What.TheVariants.{Noop, Add, Remove, Body as Says}
use Rattle.txn_forms.specs.declared.body.Body.{Body}
use Rattle.txn_forms.specs.declared.body.Body.TheVariants.{Txn as Writes, Prepared, Sync, Executed, Online as Arrives, Mode as Switches, Primary as Appoints, Part as PartOf}
use Rattle.group_rules.specs.declared.marks.Cause.TheVariants.{OwnOnline, Removed}
use Rattle.group_rules.specs.declared.marks.Effect.{Effect}
use Rattle.group_rules.specs.declared.marks.Effect.TheVariants.{Positive, Conflict, Plain, Void, Unread}
use Rattle.group_rules.specs.Events.{Entry, Is}
use Rattle.group_rules.specs.Life.{is_arrival, taken}
use Rattle.group_rules.specs.Member.{Member, fall, push}
use Rattle.group_rules.specs.Taking.{causes, on_plain}
use Rattle.list_state.specs.Holding.{IsEntered, Shows}
use Rattle.list_state.specs.declared.entered.Entered.{Entered}
use Rattle.list_state.specs.declared.held.Held.{Held}
use Rattle.list_state.specs.declared.held.Held.TheVariants.{Txn, Part as PartHeld, Other, Nothing}
use Rattle.member_moment.specs.declared.taking.Caused.{Caused}
use Rattle.member_moment.specs.declared.taking.Caused.TheVariants.{Nothing as NothingMore, Removal, Arrival}
use Rattle.member_moment.specs.Taking.{Joins, arrives_by, cause_of, done_of, holds_online, news_cause, plain_cause}

-- what is held tells an Online entry
pub online_is : (o : Option OpenParts) (b : Option Body) (h : Held) → Shows o b h → holds_online h ≡ is_arrival b
online_is o b (Txn t x) s = sym (ap is_arrival s.0)
online_is o b (PartHeld v) s = sym (ap is_arrival s.1)
online_is o b Nothing s = sym (ap is_arrival s)
online_is o b (Other (Writes t)) s = sym (ap is_arrival s.0)
online_is o b (Other (Prepared g)) s = sym (ap is_arrival s.0)
online_is o b (Other Sync) s = sym (ap is_arrival s.0)
online_is o b (Other (Executed e)) s = sym (ap is_arrival s.0)
online_is o b (Other (Arrives e)) s = sym (ap is_arrival s.0)
online_is o b (Other (Switches m)) s = sym (ap is_arrival s.0)
online_is o b (Other (Appoints i)) s = sym (ap is_arrival s.0)
online_is o b (Other (PartOf p)) s = sym (ap is_arrival s.0)

abbrev comes_if : Bool → Member → Member
comes_if t a = elim t [ true ↦ push (Is Online OwnOnline) a | false ↦ a ]

none_comes : (t : Bool) (a : Member) → a ≡ comes_if (t && false) a
none_comes true a = refl
none_comes false a = refl

all_come : (t : Bool) (a : Member) → comes_if t a ≡ comes_if (t && true) a
all_come true a = refl
all_come false a = refl

noop_is : (o : Inc) (b : Option Body) (a : Member) → on_plain o Noop b a ≡ comes_if (inc_eq o a.me.inc && is_arrival b) a
noop_is o None a = none_comes (inc_eq o a.me.inc) a
noop_is o (Some (Arrives e)) a = all_come (inc_eq o a.me.inc) a
noop_is o (Some (Writes t)) a = none_comes (inc_eq o a.me.inc) a
noop_is o (Some (Prepared g)) a = none_comes (inc_eq o a.me.inc) a
noop_is o (Some Sync) a = none_comes (inc_eq o a.me.inc) a
noop_is o (Some (Executed e)) a = none_comes (inc_eq o a.me.inc) a
noop_is o (Some (Switches m)) a = none_comes (inc_eq o a.me.inc) a
noop_is o (Some (Appoints i)) a = none_comes (inc_eq o a.me.inc) a
noop_is o (Some (PartOf p)) a = none_comes (inc_eq o a.me.inc) a

says_is : (o : Inc) (x : List ℕ) (b : Option Body) (a : Member) → on_plain o (Says x) b a ≡ comes_if (inc_eq o a.me.inc && is_arrival b) a
says_is o x None a = none_comes (inc_eq o a.me.inc) a
says_is o x (Some (Arrives e)) a = all_come (inc_eq o a.me.inc) a
says_is o x (Some (Writes t)) a = none_comes (inc_eq o a.me.inc) a
says_is o x (Some (Prepared g)) a = none_comes (inc_eq o a.me.inc) a
says_is o x (Some Sync) a = none_comes (inc_eq o a.me.inc) a
says_is o x (Some (Executed e)) a = none_comes (inc_eq o a.me.inc) a
says_is o x (Some (Switches m)) a = none_comes (inc_eq o a.me.inc) a
says_is o x (Some (Appoints i)) a = none_comes (inc_eq o a.me.inc) a
says_is o x (Some (PartOf p)) a = none_comes (inc_eq o a.me.inc) a

comes : (t : Bool) (a : Member) → comes_if t a ≡ done_of (if t then Arrival else NothingMore) a
comes true a = refl
comes false a = refl

news : (o : Option OpenParts) (b : Option Body) (h : Held) (i : ValueId) (a : Member) → Shows o b h → comes_if (inc_eq i.origin a.me.inc && is_arrival b) a ≡ done_of (news_cause a.me.inc i h) a
news o b h i a s = ap (λ t. comes_if (inc_eq i.origin a.me.inc && t) a) (sym (online_is o b h s)) ∙ comes (arrives_by a.me.inc i h) a

removes : (t : Bool) (a : Member) → elim t as (λ u. Member) [ true ↦ fall Removed a | false ↦ a ] ≡ done_of (if t then Removal else NothingMore) a
removes true a = refl
removes false a = refl

plainly : (o : Option OpenParts) (i : ValueId) (w : What) (b : Option Body) (h : Held) (a : Member) → Shows o b h → on_plain i.origin w b a ≡ done_of (plain_cause a.me.inc i w h) a
plainly o i (Add j) b h a s = refl
plainly o i (Remove j) b h a s = removes (inc_eq j a.me.inc) a
plainly o i Noop b h a s = noop_is i.origin b a ∙ news o b h i a s
plainly o i (Says x) b h a s = says_is i.origin x b a ∙ news o b h i a s

by_effect : (e : Entry) (f : Effect) (o : Option OpenParts) (h : Held) (a : Member) → Shows o e.holds h → causes e f a ≡ done_of (cause_of a.me.inc e.value f h) a
by_effect e (Conflict g) o h a s = refl
by_effect e Plain o h a s = plainly o e.value.id e.value.what e.holds h a s
by_effect e (Positive g) o h a s = refl
by_effect e Void o h a s = refl
by_effect e Unread o h a s = refl

pub caused_is : (e : Entry) (r : Entered) (o : Option OpenParts) (a : Member) → IsEntered o e r → causes e e.effect a ≡ done_of (cause_of a.me.inc e.value r.effect r.held) a
caused_is e r o a k = by_effect e e.effect o r.held a k.held ∙ ap (λ f. done_of (cause_of a.me.inc e.value f r.held) a) (sym k.effect)

-- ---- a joiner that is to be welcomed

joins_if : (t : Bool) (x y : Caused) (b : Member) → Joins x b → Joins y b → Joins (if t then x else y) b
joins_if true x y b p q = p
joins_if false x y b p q = q

joins_plainly : (me : Inc) (i : ValueId) (w : What) (h : Held) (b : Member) → IsWhat i.number w → 1 ≤ taken b.life → Joins (plain_cause me i w h) b
joins_plainly me i (Add j) h b k p = (k.inc, p)
joins_plainly me i (Remove j) h b k p = joins_if (inc_eq j me) Removal NothingMore b tt tt
joins_plainly me i Noop h b k p = joins_if (arrives_by me i h) Arrival NothingMore b tt tt
joins_plainly me i (Says x) h b k p = joins_if (arrives_by me i h) Arrival NothingMore b tt tt

pub cause_joins : (me : Inc) (v : Value) (f : Effect) (h : Held) (b : Member) → IsValue v → 1 ≤ taken b.life → Joins (cause_of me v f h) b
cause_joins me v (Conflict g) h b k p = tt
cause_joins me v Plain h b k p = joins_plainly me v.id v.what h b k.what p
cause_joins me v (Positive g) h b k p = tt
cause_joins me v Void h b k p = tt
cause_joins me v Unread h b k p = tt
