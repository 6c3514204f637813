-- Actions of operators.
use Rattle.std.proofs.Common.{◌≡◌, Bool, true, false, ◌||◌, None, refl, sym, ap, ◌∙◌, subst}
use Rattle.gr_ids.specs.declared.levels.MemberState.{MemberState}
use Rattle.gr_ids.specs.declared.names.Ballot.{Ballot}
use Rattle.gr_ids.specs.declared.names.Inc.{Inc}
use Rattle.gr_ids.specs.declared.names.ValueId.{ValueId}
use Rattle.name_forms.specs.Incs.{IsInc}
use Rattle.gtid_sets.specs.Sets.{Gtids}
use Rattle.slot_values.specs.declared.value.What.TheVariants.{Remove}
use Rattle.txn_forms.specs.declared.body.Body.TheVariants.{Executed}
use Rattle.node_rules.specs.Node.{Node}
use Rattle.node_rules.specs.declared.event.PaxosEvent.TheVariants.{Campaign as Campaigns}
use Rattle.group_rules.specs.declared.marks.Reply.TheVariants.{Ballot as AtBallot, NotOnline as IsNotOnline, Sent}
use Rattle.group_rules.specs.declared.requests.Operator.{Operator}
use Rattle.group_rules.specs.declared.requests.Operator.TheVariants.{Leave, Tell}
use Rattle.group_rules.specs.Events.{Life, Replied}
use Rattle.group_rules.specs.Life.{executed, is_recovering, is_up, state}
use Rattle.group_rules.specs.Member.{Member, at_node, next_id, own, push}
use Rattle.group_rules.specs.Steps.{if_online, leave, operate, reply_ballot, reply_sent}
use Rattle.member_truth.proofs.Grown.{promised, pushes}
use Rattle.member_moment.specs.declared.moment.Moment.{Moment}
use Rattle.member_moment.specs.Doing.{Does, IsKept}
use Rattle.member_moment.specs.Standing.{Stands}
use Rattle.member_moment.proofs.Doing.{does_same}
use Rattle.member_core.specs.Operating.{refuse, send_body}

-- what is asked
pub asked_so : (o p : Operator) (x y : Moment) → o ≡ p → Does (operate p) x y → Does (operate o) x y
asked_so o p x y e d = subst (λ q. Does (operate q) x y) (sym e) d

-- ---- only while ONLINE

abbrev IsUp : Bool → Moment → Type 0
IsUp b x = (base : Life) (a : Member) → Stands base a x → b ≡ is_up (state a.life)

online_is : (f : Member → Member) (b : Bool) (a : Member) → b ≡ is_up (state a.life) → if_online f a ≡ elim b [ true ↦ f a | false ↦ refuse a ]
online_is f b a e = ap (λ u. elim u [ true ↦ f a | false ↦ refuse a ]) (sym e)

pub is_refused : (f : Member → Member) (x y : Moment) → IsUp false x → Does refuse x y → Does (if_online f) x y
is_refused f x y t d = does_same (if_online f) refuse x y (λ base a st. online_is f false a (t base a st)) d

pub is_done : (f : Member → Member) (x y : Moment) → IsUp true x → Does f x y → Does (if_online f) x y
is_done f x y t d = does_same (if_online f) f x y (λ base a st. online_is f true a (t base a st)) d

pub refuses_so : (s : MemberState) (x y : Moment) → ((base : Life) (a : Member) → Stands base a x → s ≡ state a.life) → Does (push (Replied (IsNotOnline s))) x y → Does refuse x y
refuses_so s x y e d = does_same refuse (push (Replied (IsNotOnline s))) x y (λ base a st. ap (λ u. push (Replied (IsNotOnline u)) a) (sym (e base a st))) d

-- ---- an own value, and the reply that names it

pub sends_so : (f : Member → Member) (i : ValueId) (x y z : Moment) → ((base : Life) (a : Member) → Stands base a x → i ≡ next_id a) → Does f x y → Does (push (Replied (Sent i))) y z → Does (reply_sent f) x z
sends_so f i x y z e d r base a k st =
    let q : reply_sent f a ≡ push (Replied (Sent i)) (f a) = ap (λ j. push (Replied (Sent j)) (f a)) (sym (e base a st)) in
    let k1 : IsKept (push (Replied (Sent i)) (f a)) = subst IsKept q k in
    subst (λ b. Stands base b z) (sym q) (r base (f a) k1 (d base a (promised (pushes (Replied (Sent i)) (f a)) k1) st))

pub tells_so : (set : Gtids) (x y : Moment) → ((base : Life) (a : Member) → Stands base a x → set ≡ executed a.life) → Does (send_body (Executed set)) x y → Does (operate Tell) x y
tells_so set x y e d = does_same (operate Tell) (send_body (Executed set)) x y (λ base a st. ap (λ s. send_body (Executed s) a) (sym (e base a st))) d

-- ---- a campaign

pub campaigns_so : (b : Ballot) (n : Node) (x y z : Moment) → ((base : Life) (a : Member) → Stands base a y → n ≡ a.node) → b ≡ n.acceptor.promise → Does (at_node Campaigns) x y → Does (push (Replied (AtBallot b))) y z
    → Does (λ a. reply_ballot (at_node Campaigns a)) x z
campaigns_so b n x y z e p d r base a k st =
    let c : Member = at_node Campaigns a in
    let kc : IsKept c = promised (pushes (Replied (AtBallot c.node.acceptor.promise)) c) k in
    let sc : Stands base c y = d base a kc st in
    let q : reply_ballot c ≡ push (Replied (AtBallot b)) c = ap (λ u. push (Replied (AtBallot u)) c) (sym (p ∙ ap (λ (m : Node). m.acceptor.promise) (e base c sc))) in
    subst (λ m. Stands base m z) (sym q) (r base c (subst IsKept q k) sc)

-- ---- it leaves

abbrev MayLeave : Bool → Moment → Type 0
MayLeave b x = (base : Life) (a : Member) → Stands base a x → b ≡ (is_recovering (state a.life) || is_up (state a.life))

leave_is : (b c : Bool) (a : Member) → true ≡ (b || c) → elim b as (λ u. Member) [ true ↦ leave a | false ↦ elim c as (λ u. Member) [ true ↦ leave a | false ↦ refuse a ] ] ≡ leave a
leave_is true c a e = refl
leave_is false true a e = refl
leave_is false false a e = absurd (cc e)

stay_is : (b c : Bool) (a : Member) → false ≡ (b || c) → elim b as (λ u. Member) [ true ↦ leave a | false ↦ elim c as (λ u. Member) [ true ↦ leave a | false ↦ refuse a ] ] ≡ refuse a
stay_is true c a e = absurd (cc e)
stay_is false true a e = absurd (cc e)
stay_is false false a e = refl

pub may_leave : (x y : Moment) → MayLeave true x → Does leave x y → Does (operate Leave) x y
may_leave x y t d = does_same (operate Leave) leave x y (λ base a st. leave_is _ _ a (t base a st)) d

pub may_not_leave : (x y : Moment) → MayLeave false x → Does refuse x y → Does (operate Leave) x y
may_not_leave x y t d = does_same (operate Leave) refuse x y (λ base a st. stay_is _ _ a (t base a st)) d

pub leaves_so : (me : Inc) (i : ValueId) (x y z : Moment) → ((base : Life) (a : Member) → Stands base a x → me ≡ a.me.inc) → ((base : Life) (a : Member) → Stands base a x → i ≡ next_id a) → Does (own (Remove me) None) x y
    → Does (push (Replied (Sent i))) y z → Does leave x z
leaves_so me i x y z m e d r = does_same leave (reply_sent (own (Remove me) None)) x z (λ base a st. ap (λ j. reply_sent (own (Remove j) None) a) (sym (m base a st))) (sends_so (own (Remove me) None) i x y z e d r)

-- an incarnation that stands for a member is in range
pub no_inc : (me : Inc) (x : Moment) → ((base : Life) (a : Member) → Stands base a x → me ≡ a.me.inc) → (IsInc me → ⊥) → Does leave x x
no_inc me x m h base a k st = absurd (h (subst IsInc (sym (m base a st)) st.rest.range.joiner.inc))
