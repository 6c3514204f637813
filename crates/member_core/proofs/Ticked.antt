-- Ticks.
use Rattle.std.proofs.Common.{◌≡◌, ◌+◌, ◌≤◌, ◌<◌, ℕ, suc, Bool, true, false, ◌&&◌, ◌||◌, Option, Some, None, List, [], ◌∷◌, drop, length, get_or, add-one, refl, sym, ap, ◌∙◌, subst, inl, inr}
use Rattle.std.specs.Prelude.{◌%◌, ◌==◌, nat_le}
use Rattle.group_rules.specs.declared.answers.Answer.TheVariants.{HoldTimeout}
use Rattle.std.proofs.lemmas.Bool.{or_parts}
use Rattle.std.proofs.lemmas.List.{drop_all}
use Rattle.std.proofs.Math.Seq.{drop-cons}
use Rattle.gr_ids.specs.declared.names.Inc.{Inc}
use Rattle.name_forms.specs.Incs.{IsInc}
use Rattle.slot_values.specs.Log.{Turns}
use Rattle.slot_values.specs.declared.value.What.TheVariants.{Remove}
use Rattle.paxos_forms.specs.declared.message.Wire.TheVariants.{Offer}
use Rattle.txn_forms.specs.declared.body.Body.TheVariants.{Executed}
use Rattle.gtid_sets.specs.Sets.{Gtids}
use Rattle.node_rules.specs.Lists.{In}
use Rattle.node_rules.specs.Step.{node_step}
use Rattle.node_rules.specs.declared.event.PaxosEvent.TheVariants.{Campaign as Campaigns, Tick}
use Rattle.node_rules.specs.declared.seat.Seat.{Seat}
use Rattle.order_laws.proofs.Lists.{in_map}
use Rattle.group_rules.specs.declared.marks.Cause.TheVariants.{Majority}
use Rattle.group_rules.specs.Events.{Life}
use Rattle.group_rules.specs.Life.{executed, is_error, is_offline, is_up, state, ticks, view}
use Rattle.group_rules.specs.Member.{Member, at_node, fall, for_each, last_answer, own, own_body, send}
use Rattle.group_rules.specs.Sessions.{Call, is_holding, last_call, phase, sessions}
use Rattle.group_rules.specs.Steps.{add_of, campaign_if_due, expel_one, look_after, needs_leader, tell_at, tick_on, tick_once, time_out, time_out_by}
use Rattle.group_rules.specs.View.{seated}
use Rattle.group_rules.specs.Watch.{Watch, gives_up}
use Rattle.member_truth.proofs.Grown.{by_act, either, expels_each, looks_after, promised, stays, tells, ticks_on}
use Rattle.member_truth.specs.Growing.{Grows}
use Rattle.member_ranges.specs.Ranges.{InRange}
use Rattle.member_moment.specs.declared.moment.Moment.{Moment}
use Rattle.member_moment.specs.Doing.{Does, DoesIf, IsKept}
use Rattle.member_moment.specs.Standing.{Stands}
use Rattle.member_moment.specs.Watching.{expels, leads, watch_of}
use Rattle.member_moment.proofs.Doing.{does_same}
use Rattle.member_core.specs.Points.{IsWell}
use Rattle.member_core.specs.Ticking.{IsInside, campaign_now, expel_all, look_now, tell_now, tick_inside}

-- ---- what a member tells

pub tells_now : (set : Gtids) (x y : Moment) → ((base : Life) (a : Member) → Stands base a x → true ≡ (((ticks a.life % 60) == 0) && is_up (state a.life))) → ((base : Life) (a : Member) → Stands base a x → set ≡ executed a.life)
    → Does (own_body (Executed set)) x y → Does tell_now x y
tells_now set x y t e d = does_same tell_now (own_body (Executed set)) x y (λ base a st. ap (λ b. elim b [ true ↦ own_body (Executed (executed a.life)) a | false ↦ a ]) (sym (t base a st)) ∙ ap (λ s. own_body (Executed s) a) (sym (e base a st))) d

pub tells_not : (x : Moment) → ((base : Life) (a : Member) → Stands base a x → false ≡ (((ticks a.life % 60) == 0) && is_up (state a.life))) → Does tell_now x x
tells_not x t = does_same tell_now (λ a. a) x x (λ base a st. ap (λ b. elim b [ true ↦ own_body (Executed (executed a.life)) a | false ↦ a ]) (sym (t base a st))) (λ base a k st. st)

-- ---- the leader

abbrev NeedsLeader : Bool → Moment → Type 0
NeedsLeader b x = (base : Life) (a : Member) → Stands base a x → b ≡ needs_leader (watch_of a) a.node.acceptor.promise.inc a

pub campaigns_now : (x y : Moment) → NeedsLeader true x → Does (at_node Campaigns) x y → Does campaign_now x y
campaigns_now x y t d = does_same campaign_now (at_node Campaigns) x y (λ base a st. ap (λ b. elim b [ true ↦ at_node Campaigns a | false ↦ a ]) (sym (t base a st))) d

pub campaigns_not : (x : Moment) → NeedsLeader false x → Does campaign_now x x
campaigns_not x t = does_same campaign_now (λ a. a) x x (λ base a st. ap (λ b. elim b [ true ↦ at_node Campaigns a | false ↦ a ]) (sym (t base a st))) (λ base a k st. st)

-- ---- who is silent

abbrev expel_now : Inc → Member → Member
expel_now i a = expel_one (watch_of a) i a

expel_is : (i : Inc) (b : Bool) (a : Member) → b ≡ expels a i → expel_now i a ≡ elim b [ true ↦ own (Remove i) None a | false ↦ a ]
expel_is i b a e = ap (λ u. elim u [ true ↦ own (Remove i) None a | false ↦ a ]) (sym e)

pub expels_none : (i : Inc) (x : Moment) → ((base : Life) (a : Member) → Stands base a x → false ≡ expels a i) → DoesIf (λ a. IsInc i) (expel_now i) x x
expels_none i x t base a h k st = subst (λ b. Stands base b x) (sym (expel_is i false a (t base a st))) st

pub expels_this : (i : Inc) (x y : Moment) → ((base : Life) (a : Member) → Stands base a x → true ≡ expels a i) → Does (own (Remove i) None) x y → DoesIf (λ a. IsInc i) (expel_now i) x y
expels_this i x y t d base a h k st =
    let e : expel_now i a ≡ own (Remove i) None a = expel_is i true a (t base a st) in
    subst (λ b. Stands base b y) (sym e) (d base a (subst IsKept e k) st)

-- who is watched, and how many ticks passed, stay
record Alike (a b : Member) : Type 0 where
  pub watch : watch_of b ≡ watch_of a
  pub passed : ticks b.life ≡ ticks a.life

alike_where : {a x y : Member} → (b : Bool) → Alike a x → Alike a y → Alike a (elim b [ true ↦ x | false ↦ y ])
alike_where true p q = p
alike_where false p q = q

alike_then : {a b c : Member} → Alike a b → Alike b c → Alike a c
alike_then p q = record { watch = q.watch ∙ p.watch; passed = q.passed ∙ p.passed }

alike_same : (a : Member) → Alike a a
alike_same a = record { watch = refl; passed = refl }

alike_own : (i : Inc) (a : Member) → Alike a (own (Remove i) None a)
alike_own i a = record { watch = refl; passed = refl }

alike_node : (a : Member) → Alike a (at_node Campaigns a)
alike_node a = record { watch = refl; passed = refl }

alike_one : (w : Watch) (i : Inc) (a : Member) → Alike a (expel_one w i a)
alike_one w i a = alike_where _ (alike_own i a) (alike_same a)

alike_each : (w : Watch) (is : List Inc) (a : Member) → Alike a (for_each (expel_one w) is a)
alike_each w [] a = alike_same a
alike_each w (i ∷ is) a = alike_then (alike_one w i a) (alike_each w is (expel_one w i a))

alike_campaign : (w : Watch) (a : Member) → Alike a (campaign_if_due w a)
alike_campaign w a = alike_where _ (alike_node a) (alike_same a)

alike_after : (w : Watch) (a : Member) → Alike a (look_after w a)
alike_after w a =
    let is : List Inc = seated (view a.setup a.life).seats in
    alike_where _ (alike_then (alike_each w is a) (alike_campaign w (for_each (expel_one w) is a))) (alike_same a)

-- ---- all who are

-- the members of one that is inside are in range
seats_fit : (a : Member) → InRange a → IsInside a → (i : Inc) → In i (seated (view a.setup a.life).seats) → IsInc i
seats_fit a r h i m = go a.node.turns refl
  where
    go : (o : Option Turns) → a.node.turns ≡ o → IsInc i
    go None e = absurd (let q = sym h ∙ r.outside e in cc q)
    go (Some w) e =
        let s = in_map {A = Seat} (λ s. s.joiner.inc) (view a.setup a.life).seats i m in
        let v = (r.shown (or_parts (is_offline (state a.life)) (is_error (state a.life)) h).1 w e).view in
        subst IsInc s.2 (v.seats s.0 s.1).0.inc

-- some are expelled, and with these the others are
pub record Expelling (is : List Inc) (base : Life) (a : Member) (y : Moment) : Type 0 where
  pub now : Member
  pub whole : for_each (expel_one (watch_of a)) is now ≡ expel_all a
  pub same : watch_of now ≡ watch_of a
  pub fit : (i : Inc) → In i is → IsInc i
  pub stands : Stands base now y

abbrev pub AreLeft : List Inc → Moment → Moment → Type 0
AreLeft is x y = (base : Life) (a : Member) → IsInside a → IsKept (expel_all a) → Stands base a x → Expelling is base a y

pub none_expelled : (is : List Inc) (x : Moment) → ((base : Life) (a : Member) → Stands base a x → is ≡ seated (view a.setup a.life).seats) → AreLeft is x x
none_expelled is x e base a h k st =
    let q = e base a st in
    record { now = a; whole = ap (λ js. for_each (expel_one (watch_of a)) js a) q; same = refl; fit = λ i m. seats_fit a st.rest.range h i (subst (In i) q m); stands = st }

one_expelled : (i : Inc) (is : List Inc) (x y z : Moment) → AreLeft (i ∷ is) x y → DoesIf (λ a. IsInc i) (expel_now i) y z → AreLeft is x z
one_expelled i is x y z l d base a h k st =
    let g : Expelling (i ∷ is) base a y = l base a h k st in
    let w : Watch = watch_of a in
    let b : Member = expel_one w i g.now in
    let e : expel_now i g.now ≡ b = ap (λ v. expel_one v i g.now) g.same in
    let kb : IsKept b = promised (expels_each w is b) (subst IsKept (sym g.whole) k) in
    record {
      now = b;
      whole = g.whole;
      same = (alike_one w i g.now).watch ∙ g.same;
      fit = λ j m. g.fit j (inr m);
      stands = subst (λ c. Stands base c z) e (d base g.now (g.fit i (inl refl)) (subst IsKept (sym e) kb) g.stands);
    }

pub next_expelled : (is : List Inc) (n : ℕ) (i : Inc) (x y z : Moment) → n < length is → i ≡ get_or is n i → AreLeft (drop n is) x y → DoesIf (λ a. IsInc i) (expel_now i) y z → AreLeft (drop (n + 1) is) x z
next_expelled is n i x y z h e l d = one_expelled i (drop (n + 1) is) x y z (subst (λ js. AreLeft js x y) (rw add-one (drop-cons is n i h ∙ ap (λ v. v ∷ drop (suc n) is) (sym e))) l) d

pub all_expelled : (is : List Inc) (n : ℕ) (x y : Moment) → length is ≤ n → AreLeft (drop n is) x y → DoesIf IsInside expel_all x y
all_expelled is n x y h l base a i k st =
    let g : Expelling [] base a y = subst (λ js. AreLeft js x y) (drop_all n is h) l base a i k st in
    subst (λ b. Stands base b y) g.whole g.stands

-- ---- the one that leads looks after the others

abbrev Leads : Bool → Moment → Type 0
Leads b x = (base : Life) (a : Member) → Stands base a x → b ≡ leads a

after_is : (b : Bool) (a : Member) → b ≡ leads a → look_now a ≡ elim b [ true ↦ campaign_if_due (watch_of a) (expel_all a) | false ↦ a ]
after_is b a e = ap (λ u. elim u [ true ↦ campaign_if_due (watch_of a) (expel_all a) | false ↦ a ]) (sym e)

pub looks_not : (b : Bool) (x : Moment) → b ≡ false → Leads b x → DoesIf IsInside look_now x x
looks_not b x f t base a h k st = subst (λ c. Stands base c x) (sym (after_is false a (sym f ∙ t base a st))) st

campaigns : (w : Watch) (a : Member) → Grows a (campaign_if_due w a)
campaigns w a = either _ (by_act (node_step Campaigns) a) (stays a)

pub looks : (b : Bool) (x y z : Moment) → b ≡ true → Leads b x → DoesIf IsInside expel_all x y → Does campaign_now y z → DoesIf IsInside look_now x z
looks b x y z f t d e base a h k st =
    let w : Watch = watch_of a in
    let c : Member = expel_all a in
    let s : campaign_now c ≡ campaign_if_due w c = ap (λ v. campaign_if_due v c) (alike_each w (seated (view a.setup a.life).seats) a).watch in
    let q : look_now a ≡ campaign_if_due w c = after_is true a (sym f ∙ t base a st) in
    let k1 : IsKept (campaign_now c) = subst IsKept (q ∙ sym s) k in
    subst (λ m. Stands base m z) (s ∙ sym q) (e base c k1 (d base a h (promised (campaigns w c) (subst IsKept q k)) st))

-- ---- a tick of one that is inside

abbrev GivesUp : Bool → Moment → Type 0
GivesUp b x = (base : Life) (a : Member) → Stands base a x → b ≡ gives_up a.setup.limits.majority (watch_of a)

abbrev ticks_then : Member → Member
ticks_then a = tell_at (ticks a.life) (look_after (watch_of a) (at_node Tick a))

tick_is : (b : Bool) (a : Member) → b ≡ gives_up a.setup.limits.majority (watch_of a) → tick_inside a ≡ elim b [ true ↦ fall Majority a | false ↦ ticks_then a ]
tick_is b a e = ap (λ u. elim u [ true ↦ fall Majority a | false ↦ ticks_then a ]) (sym e)

pub gives_up_now : (x y : Moment) → GivesUp true x → Does (fall Majority) x y → DoesIf IsInside tick_inside x y
gives_up_now x y t d base a h k st =
    let e : tick_inside a ≡ fall Majority a = tick_is true a (t base a st) in
    subst (λ b. Stands base b y) (sym e) (d base a (subst IsKept e k) st)

pub ticks_inside : (x y z v : Moment) → GivesUp false x → Does (at_node Tick) x y → DoesIf IsInside look_now y z → Does tell_now z v → DoesIf IsInside tick_inside x v
ticks_inside x y z v t d e f base a h k st =
    let b : Member = at_node Tick a in
    let c : Member = look_now b in
    let s : tell_now c ≡ tell_at (ticks a.life) c = ap (λ n. tell_at n c) (alike_after (watch_of a) b).passed in
    let q : tick_inside a ≡ tell_now c = tick_is false a (t base a st) ∙ sym s in
    let k1 : IsKept (tell_now c) = subst IsKept q k in
    let k2 : IsKept c = promised (tells (ticks c.life) c) k1 in
    let k3 : IsKept b = promised (looks_after (watch_of b) b) k2 in
    subst (λ m. Stands base m v) (sym q) (f base c k1 (e base b h k2 (d base a k3 st)))

-- ---- a tick

abbrev IsAway : Bool → Moment → Type 0
IsAway b x = (base : Life) (a : Member) → Stands base a x → b ≡ is_offline (state a.life)

on_is : (b : Bool) (a : Member) → b ≡ is_offline (state a.life) → tick_on a ≡ elim b [ true ↦ send a.contact (Offer (add_of a.me)) a | false ↦ tick_inside a ]
on_is b a e = ap (λ u. elim u [ true ↦ send a.contact (Offer (add_of a.me)) a | false ↦ tick_inside a ]) (sym e)

pub offers_again : (x y : Moment) → IsAway true x → Does (λ a. send a.contact (Offer (add_of a.me)) a) x y → DoesIf IsWell tick_on x y
offers_again x y t d base a h k st =
    let e : tick_on a ≡ send a.contact (Offer (add_of a.me)) a = on_is true a (t base a st) in
    subst (λ b. Stands base b y) (sym e) (d base a (subst IsKept e k) st)

pub goes_on : (x y : Moment) → IsAway false x → DoesIf IsInside tick_inside x y → DoesIf IsWell tick_on x y
goes_on x y t d base a h k st =
    let e : tick_on a ≡ tick_inside a = on_is false a (t base a st) in
    let i : IsInside a = ap (λ b. b || is_error (state a.life)) (sym (t base a st)) ∙ h in
    subst (λ b. Stands base b y) (sym e) (d base a i (subst IsKept e k) st)

state_where : (a x y : Member) (b : Bool) → state x.life ≡ state a.life → state y.life ≡ state a.life → state (elim b as (λ u. Member) [ true ↦ x | false ↦ y ]).life ≡ state a.life
state_where a x y true p q = p
state_where a x y false p q = q

state_by : (s : ℕ) (o : Option Call) (a : Member) → state (time_out_by s o a).life ≡ state a.life
state_by s None a = refl
state_by s (Some c) a = state_where a (last_answer s (HoldTimeout c.limit) a) a (nat_le c.limit c.ticks) refl refl

state_one : (s : ℕ) (a : Member) → state (time_out s a).life ≡ state a.life
state_one s a = state_where a (time_out_by s (last_call a.life s) a) a (is_holding (phase a.life s)) (state_by s (last_call a.life s) a) refl

state_each : (ss : List ℕ) (a : Member) → state (for_each time_out ss a).life ≡ state a.life
state_each [] a = refl
state_each (s ∷ ss) a = state_each ss (time_out s a) ∙ state_one s a

pub ticks_so : (x y z : Moment) → Does (λ a. for_each time_out (sessions a.life) a) x y → DoesIf IsWell tick_on y z → DoesIf IsWell tick_once x z
ticks_so x y z d e base a h k st =
    let b : Member = for_each time_out (sessions a.life) a in
    e base b (ap is_error (state_each (sessions a.life) a) ∙ h) k (d base a (promised (ticks_on b) k) st)
