-- The action of a step, and the whole step.
use Rattle.std.proofs.Common.{◌≡◌, ◌-◌, ◌++◌, ℕ, Bool, true, false, Option, Some, None, List, [], length, map, reverse, take, refl, sym, ap, ◌∙◌, subst}
use Rattle.group_rules.specs.declared.answers.Answer.TheVariants.{Held}
use Rattle.group_rules.specs.declared.requests.Request.{Request}
use Rattle.group_rules.specs.Sessions.{is_holding, phase}
use Rattle.group_rules.specs.Events.{Answered, Came, Event, Ticks, Life, Setup, Stored, marks_of}
use Rattle.group_rules.specs.Histories.{arranged}
use Rattle.group_rules.specs.Life.{is_error, state, stored}
use Rattle.group_rules.specs.Member.{Member, push}
use Rattle.group_rules.specs.Points.{point}
use Rattle.group_rules.specs.Steps.{act, act_alive, act_in_error, found, left_by, start, step, tick_once}
use Rattle.group_rules.specs.Taking.{settle_slots}
use Rattle.group_rules.specs.World.{nothing_stored}
use Rattle.slot_values.specs.declared.value.Joiner.{Joiner}
use Rattle.paxos_forms.specs.declared.recovery.Given.{Given}
use Rattle.kept_server.specs.Keeping.{left_of}
use Rattle.kept_server.specs.Redoing.{LeadTo}
use Rattle.std.proofs.lemmas.List.{append-nil}
use Rattle.gr_ids.specs.declared.names.Inc.{Inc}
use Rattle.member_truth.specs.Growing.{Grows}
use Rattle.member_truth.proofs.Grown.{acts_alive, either, points, promised, pushes, settles, stays, ticks_once}
use Rattle.member_messages.specs.Sending.{spelt}
use Rattle.plain_steps.proofs.Last.{take_more}
use Rattle.member_moment.specs.declared.moment.Moment.{Moment}
use Rattle.member_moment.specs.Arriving.{is_untold}
use Rattle.member_moment.specs.Doing.{Does, DoesIf, IsKept}
use Rattle.member_moment.specs.Standing.{AreMessages, Marked, Stands}
use Rattle.member_moment.proofs.Doing.{does_same, does_then}
use Rattle.member_core.specs.declared.event.Event.{Event as Happening}
use Rattle.member_core.specs.declared.event.Event.TheVariants.{Message as Comes, Tick, Done, Undone, Session, Operate}
use Rattle.member_core.specs.declared.event.StepLeft.{StepLeft}
use Rattle.member_core.specs.declared.member.Started.{Started}
use Rattle.member_core.specs.Acting.{caller_of, come, hold_by, step_of}
use Rattle.member_core.specs.Points.{IsWell}
use Rattle.member_core.specs.Ledgers.{IsLedger}
use Rattle.member_core.specs.declared.ledger.Ledger.{Ledger}
use Rattle.member_core.specs.Whole.{Contents, closed}
use Rattle.member_core.specs.Standing.{GoesOn, HasStarted, IsMember, IsServerOf, IsStepOf, cleared, event_of}
use Rattle.member_core.proofs.Closed.{is_member}
use Rattle.member_core.proofs.Quiet.{marks_held, rest}

-- ---- what comes

abbrev Untold : Moment → Type 0
Untold x = (base : Life) (a : Member) (e : Event) → is_untold e ≡ true → Stands base a x → Stands base (push (Came e) a) x

-- its coming is kept, and then it is done
pub takes : (e : Event) (x y z : Moment) → Does (push (Came e)) x y → Does (act_alive e) y z → Does (come e) x z
takes e = does_then (push (Came e)) (act_alive e) (acts_alive e)

-- nothing is kept of its coming
pub takes_untold : (e : Event) (x y : Moment) → is_untold e ≡ true → Untold x → Does (act_alive e) x y → Does (come e) x y
takes_untold e x y u t d base a k st = d base (push (Came e) a) k (t base a e u st)

pub takes_tick : (x y z : Moment) → Does (push (Came Ticks)) x y → DoesIf IsWell tick_once y z → DoesIf IsWell (come Ticks) x z
takes_tick x y z d e base a h k st = let b : Member = push (Came Ticks) a in e base b h k (d base a (promised (ticks_once b) k) st)

-- ---- by what it is

pub comes_so : (h k : Happening) (x y : Moment) → h ≡ k → Does (come (event_of k)) x y → DoesIf IsWell (come (event_of h)) x y
comes_so h k x y e d = subst (λ g. DoesIf IsWell (come (event_of g)) x y) (sym e) (λ base a w p st. d base a p st)

pub comes_well : (h k : Happening) (x y : Moment) → h ≡ k → DoesIf IsWell (come (event_of k)) x y → DoesIf IsWell (come (event_of h)) x y
comes_well h k x y e d = subst (λ g. DoesIf IsWell (come (event_of g)) x y) (sym e) d

pub falls_so : (h k : Happening) (x y : Moment) → h ≡ k → Does (act_in_error (event_of k)) x y → Does (act_in_error (event_of h)) x y
falls_so h k x y e d = subst (λ g. Does (act_in_error (event_of g)) x y) (sym e) d

-- ---- by its state

abbrev IsFallen : Bool → Moment → Type 0
IsFallen b x = (base : Life) (a : Member) → Stands base a x → b ≡ is_error (state a.life)

act_is : (e : Event) (b : Bool) (a : Member) → b ≡ is_error (state a.life) → act e a ≡ elim b [ true ↦ act_in_error e a | false ↦ come e a ]
act_is e b a t = ap (λ u. elim u [ true ↦ act_in_error e a | false ↦ come e a ]) (sym t)

pub does_fallen : (e : Event) (x y : Moment) → IsFallen true x → Does (act_in_error e) x y → Does (act e) x y
does_fallen e x y t d = does_same (act e) (act_in_error e) x y (λ base a st. act_is e true a (t base a st)) d

pub does_alive : (e : Event) (x y : Moment) → IsFallen false x → DoesIf IsWell (come e) x y → Does (act e) x y
does_alive e x y t d base a k st =
    let q : act e a ≡ come e a = act_is e false a (t base a st) in
    subst (λ b. Stands base b y) (sym q) (d base a (sym (t base a st)) (subst IsKept q k) st)

-- ---- a whole step

-- who doesn't call isn't told
pub calls_none : (h : Happening) (a : Member) → ((s : ℕ) (r : Request) → h ≡ Session s r → ⊥) → None ≡ caller_of (event_of h) a
calls_none (Comes m) a n = refl
calls_none Tick a n = refl
calls_none (Done w) a n = refl
calls_none (Undone p) a n = refl
calls_none (Session s r) a n = absurd (n s r refl)
calls_none (Operate o) a n = refl

pub holds_by : (o p : Option ℕ) (x y : Moment) → o ≡ p → Does (hold_by p) x y → Does (hold_by o) x y
holds_by o p x y e d = subst (λ q. Does (hold_by q) x y) (sym e) d

abbrev IsHeld : Bool → ℕ → Moment → Type 0
IsHeld b s x = (base : Life) (a : Member) → Stands base a x → b ≡ is_holding (phase a.life s)

pub holds_not : (s : ℕ) (x : Moment) → IsHeld false s x → Does (hold_by (Some s)) x x
holds_not s x t = does_same (hold_by (Some s)) (λ a. a) x x (λ base a st. ap (λ b. elim b [ true ↦ push (Answered s Held) a | false ↦ a ]) (sym (t base a st))) (λ base a k st. st)

pub holds_now : (s : ℕ) (x y : Moment) → IsHeld true s x → Does (push (Answered s Held)) x y → Does (hold_by (Some s)) x y
holds_now s x y t d = does_same (hold_by (Some s)) (push (Answered s Held)) x y (λ base a st. ap (λ b. elim b [ true ↦ push (Answered s Held) a | false ↦ a ]) (sym (t base a st))) d

tells : (o : Option ℕ) (a : Member) → Grows a (hold_by o a)
tells None a = stays a
tells (Some s) a = either _ (pushes _ a) (stays a)

pub takes_step : (e : Event) (o : Option ℕ) (x y z v w : Moment) → ((base : Life) (a : Member) → Stands base a x → o ≡ caller_of e a) → Does (act e) x y → Does point y z → Does settle_slots z v → Does (hold_by o) v w
    → Does (step_of e) x w
takes_step e o x y z v w c f g h i base a k st =
    let b : Member = act e a in
    let d : Member = rest b in
    let q : step_of e a ≡ hold_by o d = marks_held e a ∙ ap (λ p. hold_by p d) (sym (c base a st)) in
    let k1 : IsKept (hold_by o d) = subst IsKept q k in
    let k2 : IsKept d = promised (tells o d) k1 in
    let k3 : IsKept (point b) = promised (settles (point b)) k2 in
    let k4 : IsKept b = promised (points b) k3 in
    subst (λ m. Stands base m w) (sym q) (i base d k1 (h base (point b) k2 (g base b k3 (f base a k4 st))))

pub step_is : (e : Event) (a : Member) → step_of e (cleared a) ≡ step e a
unfolding step
step_is e a = refl

-- what is left since is what the step has left
left_is : (a b : Member) (since : Life) → b.life ≡ since ++ a.life → left_by a b ≡ reverse since
left_is a b since e = ap (λ l. reverse (take (length l - length a.life) l)) e ∙ ap reverse (take_more since a.life)

pub goes_on : (e : Event) (a : Member) (left : StepLeft) (x y : Moment) (old new : Ledger) (gs : List Given) → Stands a.life (step e a) x → Stands (step e a).life (cleared (step e a)) y
    → Marked a.life (step e a).life left.marks.items → left.sent.items ≡ map spelt (arranged (step e a).sent) → LeadTo (left_of a.life) gs (left_of (step e a).life)
    → ((y z w : Stored) → IsLedger y z old → LeadTo z gs w → IsLedger y w new) → stored (step e a).life ≡ stored a.life → IsServerOf a old → GoesOn e a left y new
goes_on e a left x y old new gs st now marked sent leads noted kept server =
    let b : Member = step e a in record {
      moment = now;
      server = subst (λ z. IsLedger z (left_of b.life) new) (sym kept) (noted (stored a.life) (left_of a.life) (left_of b.life) server leads);
      marks = marked.told ∙ ap marks_of (sym (left_is a b marked.since marked.grown));
      sent = sent;
      spellable = st.rest.sent_range;
      ranged = st.rest.ranged;
    }

pub stepped : (e : Event) (a : Member) (left : StepLeft) (x : Contents) → x.is_stopped ≡ false → GoesOn e a left x.moment x.ledger → IsStepOf e a left (closed x)
stepped e a left x r g = record {
  stands = is_member (step e a) x (record { moment = g.moment; server = g.server; running = r });
  marks = g.marks;
  sent = g.sent;
  spellable = g.spellable;
  ranged = g.ranged;
}

-- ---- the begin

pub founded : (s : Setup) (me : Joiner) (x : Contents) → Stands (found s me).life (cleared (found s me)) x.moment → IsLedger nothing_stored nothing_stored x.ledger → x.is_stopped ≡ false → IsMember (found s me) (closed x)
unfolding found
founded s me x st l r = is_member (found s me) x (record { moment = st; server = l; running = r })

-- nothing is committed at the start
at_start : (y : Stored) → y ≡ record y { committed = y.committed ++ [] }
at_start y = ap (λ cs. record y { committed = cs }) (sym (append-nil y.committed))

pub started : (s : Setup) (me : Joiner) (y : Stored) (i : Inc) (x : Started) (z : Contents) → x.member ≡ closed z → Stands (start s me y i).life (cleared (start s me y i)) z.moment → IsLedger y y z.ledger → z.is_stopped ≡ false
    → x.sent.items ≡ map spelt (arranged (start s me y i).sent) → AreMessages (start s me y i).sent → HasStarted (start s me y i) x
unfolding start
started s me y i x z same st l r q h =
    let a : Member = start s me y i in record {
      stands = subst (λ w. IsMember a w) (sym same) (is_member a z (record { moment = st; server = subst (λ w. IsLedger y w z.ledger) (at_start y) l; running = r }));
      sent = q;
      spellable = h;
    }
