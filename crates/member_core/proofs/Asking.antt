-- A donor is asked, and asks fail.
use Rattle.std.proofs.Common.{◌≡◌, Bool, true, false, ◌&&◌, Option, Some, None, refl, sym, ap, ◌∙◌, subst}
use Rattle.std.specs.Prelude.{is_some, nat_le}
use Rattle.std.proofs.lemmas.Bool.{and_parts}
use Rattle.gr_ids.specs.declared.names.Inc.{Inc}
use Rattle.node_rules.specs.Learner.{learnt_remove}
use Rattle.node_rules.specs.Node.{Node}
use Rattle.group_rules.specs.declared.marks.Cause.TheVariants.{NoDonor}
use Rattle.group_rules.specs.declared.marks.Reply.TheVariants.{Failed, NoAskDue, NoAskPending}
use Rattle.group_rules.specs.Events.{AskFails, Life, Replied}
use Rattle.group_rules.specs.Life.{is_recovering, state}
use Rattle.group_rules.specs.Member.{Member, fall, push}
use Rattle.group_rules.specs.Recovery.{ask_donor, check_ask, check_donor, donor_failed, fail_ask, failures, is_ask_due, pending_ask}
use Rattle.member_truth.proofs.Grown.{checks, falls, fails, promised}
use Rattle.member_moment.specs.declared.moment.Moment.{Moment}
use Rattle.member_moment.specs.Doing.{Does, DoesIf, IsKept}
use Rattle.member_moment.specs.Joining.{asks_of}
use Rattle.member_moment.specs.Standing.{Stands}

-- ---- the failure

abbrev IsAsking : Member → Type 0
IsAsking a = is_some (pending_ask a.life) ≡ true

abbrev IsLast : Bool → Moment → Type 0
IsLast b x = (base : Life) (a : Member) → IsAsking a → Stands base a x → b ≡ nat_le 10 (failures (push AskFails a).life)

pub fails_on : (x y : Moment) → IsLast false x → DoesIf IsAsking (push AskFails) x y → DoesIf IsAsking fail_ask x y
fails_on x y t d base a h k st =
    let b : Member = push AskFails a in
    let e : fail_ask a ≡ b = ap (λ u. elim u [ true ↦ fall (NoDonor 10) b | false ↦ b ]) (sym (t base a h st)) in
    subst (λ c. Stands base c y) (sym e) (d base a h (subst IsKept e k) st)

pub fails_last : (x y z : Moment) → IsLast true x → DoesIf IsAsking (push AskFails) x y → Does (fall (NoDonor 10)) y z → DoesIf IsAsking fail_ask x z
fails_last x y z t d f base a h k st =
    let b : Member = push AskFails a in
    let e : fail_ask a ≡ fall (NoDonor 10) b = ap (λ u. elim u [ true ↦ fall (NoDonor 10) b | false ↦ b ]) (sym (t base a h st)) in
    let k1 : IsKept (fall (NoDonor 10) b) = subst IsKept e k in
    subst (λ c. Stands base c z) (sym e) (f base b k1 (d base a h (promised (falls (NoDonor 10) b) k1) st))

-- ---- the donor's Remove

abbrev Asks : Inc → Member → Type 0
Asks d a = pending_ask a.life ≡ Some d

donor_is : (d : Inc) (b : Bool) (n : Node) (a : Member) → n ≡ a.node → b ≡ learnt_remove n.learner d → check_donor (Some d) a ≡ elim b [ true ↦ fail_ask a | false ↦ a ]
donor_is d b n a e t = ap (λ u. elim u [ true ↦ fail_ask a | false ↦ a ]) (ap (λ (m : Node). learnt_remove m.learner d) (sym e) ∙ sym t)

pub donor_stays : (d : Inc) (n : Node) (x : Moment) → ((base : Life) (a : Member) → Stands base a x → n ≡ a.node) → false ≡ learnt_remove n.learner d → DoesIf (Asks d) (check_donor (Some d)) x x
donor_stays d n x e t base a h k st = subst (λ c. Stands base c x) (sym (donor_is d false n a (e base a st) t)) st

pub donor_goes : (d : Inc) (n : Node) (x y : Moment) → ((base : Life) (a : Member) → Stands base a x → n ≡ a.node) → true ≡ learnt_remove n.learner d → DoesIf IsAsking fail_ask x y → DoesIf (Asks d) (check_donor (Some d)) x y
donor_goes d n x y e t f base a h k st =
    let q : check_donor (Some d) a ≡ fail_ask a = donor_is d true n a (e base a st) t in
    subst (λ c. Stands base c y) (sym q) (f base a (ap is_some h) (subst IsKept q k) st)

-- ---- the check

check_is : (b : Bool) (o : Option Inc) (a : Member) → b ≡ is_recovering (state a.life) → o ≡ pending_ask a.life → check_ask a ≡ elim b [ true ↦ check_donor o a | false ↦ a ]
check_is b o a e p = ap (λ u. elim u [ true ↦ check_donor (pending_ask a.life) a | false ↦ a ]) (sym e) ∙ ap (λ q. elim b [ true ↦ check_donor q a | false ↦ a ]) (sym p)

pub checks_nothing : (x : Moment) → ((base : Life) (a : Member) → Stands base a x → false ≡ is_recovering (state a.life)) → Does check_ask x x
checks_nothing x t base a k st = subst (λ c. Stands base c x) (sym (check_is false (pending_ask a.life) a (t base a st) refl)) st

pub checks_none : (x : Moment) → ((base : Life) (a : Member) → Stands base a x → true ≡ is_recovering (state a.life)) → ((base : Life) (a : Member) → Stands base a x → None ≡ pending_ask a.life) → Does check_ask x x
checks_none x t p base a k st = subst (λ c. Stands base c x) (sym (check_is true None a (t base a st) (p base a st))) st

pub checks_some : (d : Inc) (x y : Moment) → ((base : Life) (a : Member) → Stands base a x → true ≡ is_recovering (state a.life)) → ((base : Life) (a : Member) → Stands base a x → Some d ≡ pending_ask a.life)
    → DoesIf (Asks d) (check_donor (Some d)) x y → Does check_ask x y
checks_some d x y t p f base a k st =
    let e : check_ask a ≡ check_donor (Some d) a = check_is true (Some d) a (t base a st) (p base a st) in
    subst (λ c. Stands base c y) (sym e) (f base a (sym (p base a st)) (subst IsKept e k) st)

-- ---- the operator's actions

abbrev is_waiting : Member → Bool
is_waiting a = is_recovering (state a.life) && is_some (pending_ask a.life)

failed_is : (b : Bool) (a : Member) → b ≡ is_waiting a → donor_failed a ≡ elim b [ false ↦ push (Replied NoAskPending) a | true ↦ fail_ask (push (Replied Failed) a) ]
failed_is b a e = ap (λ u. elim u [ false ↦ push (Replied NoAskPending) a | true ↦ fail_ask (push (Replied Failed) a) ]) (sym e)

pub none_fails : (x y : Moment) → ((base : Life) (a : Member) → Stands base a x → false ≡ is_waiting a) → Does (push (Replied NoAskPending)) x y → Does donor_failed x y
none_fails x y t d base a k st = let e = failed_is false a (t base a st) in subst (λ c. Stands base c y) (sym e) (d base a (subst IsKept e k) st)

pub one_fails : (x y z : Moment) → ((base : Life) (a : Member) → Stands base a x → true ≡ is_waiting a) → Does (push (Replied Failed)) x y → DoesIf IsAsking fail_ask y z → Does donor_failed x z
one_fails x y z t d f base a k st =
    let b : Member = push (Replied Failed) a in
    let e : donor_failed a ≡ fail_ask b = failed_is true a (t base a st) in
    let k1 : IsKept (fail_ask b) = subst IsKept e k in
    let asks : IsAsking b = (and_parts (is_recovering (state a.life)) (is_some (pending_ask a.life)) (sym (t base a st))).1 in
    subst (λ c. Stands base c z) (sym e) (f base b asks k1 (d base a (promised (fails b) k1) st))

ask_is : (d : Inc) (b : Bool) (a : Member) → b ≡ is_ask_due a → ask_donor d a ≡ elim b [ false ↦ push (Replied NoAskDue) a | true ↦ check_ask (asks_of d a) ]
ask_is d b a e = ap (λ u. elim u [ false ↦ push (Replied NoAskDue) a | true ↦ check_ask (asks_of d a) ]) (sym e)

pub asks_none : (d : Inc) (x y : Moment) → ((base : Life) (a : Member) → Stands base a x → false ≡ is_ask_due a) → Does (push (Replied NoAskDue)) x y → Does (ask_donor d) x y
asks_none d x y t f base a k st = let e = ask_is d false a (t base a st) in subst (λ c. Stands base c y) (sym e) (f base a (subst IsKept e k) st)

pub asks_one : (d : Inc) (x y z : Moment) → ((base : Life) (a : Member) → Stands base a x → true ≡ is_ask_due a) → DoesIf (λ a. is_ask_due a ≡ true) (asks_of d) x y → Does check_ask y z → Does (ask_donor d) x z
asks_one d x y z t f g base a k st =
    let e : ask_donor d a ≡ check_ask (asks_of d a) = ask_is d true a (t base a st) in
    let k1 : IsKept (check_ask (asks_of d a)) = subst IsKept e k in
    subst (λ c. Stands base c z) (sym e) (g base (asks_of d a) k1 (f base a (sym (t base a st)) (promised (checks (asks_of d a)) k1) st))
