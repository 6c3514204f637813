-- A Welcome comes to the node and the member at once.
use Rattle.std.proofs.Common.{◌≡◌, inl, inr, arith, Bool, true, false, not, ◌&&◌, Option, Some, None, List, [], ◌∷◌, refl, sym, ap, subst, ◌∙◌}
use Rattle.std.specs.Prelude.{is_some, map}
use Rattle.std.proofs.lemmas.Bool.{and_parts, false≢true}
use Rattle.gr_ids.specs.declared.levels.MemberState.{MemberState}
use Rattle.gr_ids.specs.declared.levels.MemberState.TheVariants.{Offline, Recovering, Online, Error}
use Rattle.slot_values.specs.Log.{Reading, Turns}
use Rattle.slot_values.specs.Turns.{resumed}
use Rattle.paxos_forms.specs.Messages.{IsMessage, IsWire}
use Rattle.paxos_forms.specs.Welcomes.{IsWelcome}
use Rattle.paxos_forms.specs.declared.message.Message.{Message}
use Rattle.paxos_forms.specs.declared.message.Wire.TheVariants.{Welcome as Greet}
use Rattle.paxos_forms.specs.declared.welcome.Welcome.{Welcome}
use Rattle.paxos_forms.specs.declared.welcome.WelcomeMember.{WelcomeMember}
use Rattle.node_rules.specs.Node.{Node}
use Rattle.node_rules.specs.Step.{node_step}
use Rattle.node_rules.specs.Welcoming.{is_for, is_in_order, told_in}
use Rattle.node_rules.specs.declared.event.PaxosEvent.TheVariants.{Heard}
use Rattle.node_rules.specs.declared.seat.Seat.{Seat}
use Rattle.paxos_ranges.specs.Ranges.{IsInRange}
use Rattle.paxos_ranges.proofs.Rows.{step_in_range}
use Rattle.group_rules.specs.declared.marks.Cause.TheVariants.{Welcomed}
use Rattle.group_rules.specs.Events.{Enters, Is}
use Rattle.group_rules.specs.Life.{is_error, is_offline, state, view_told}
use Rattle.group_rules.specs.Member.{Member, at_node, push}
use Rattle.group_rules.specs.View.{seated}
use Rattle.group_rules.specs.Welcomes.{hear_welcome}
use Rattle.member_ranges.specs.Ranges.{InRange, IsUntouched, IsWaiting, Shows, is_outside}
use Rattle.member_ranges.proofs.Greeted.{told_incs}
use Rattle.member_ranges.proofs.Passed.{moved}
use Rattle.member_ranges.proofs.Views.{told_is_view}
use Rattle.member_ranges.proofs.Steps.{Begins, Greets, reading_by, step_greets, unread}

told_seats : (ms : List WelcomeMember) → map {A = WelcomeMember} (λ m. m.joiner.inc) ms ≡ seated (map {A = WelcomeMember} {B = Seat} (λ m. record { joiner = m.joiner; state = m.state }) ms)
told_seats [] = refl
told_seats (m ∷ ms) = ap (λ l. m.joiner.inc ∷ l) (told_seats ms)

some_is : {A : Type 0} {x y : A} → Some x ≡ Some y → x ≡ y
some_is {x = x} {y = y} e = cc

shown_by : (w : Welcome) → IsWelcome w → Shows w.place (view_told w) (resumed (told_in w)).reading
shown_by w k = record { place = refl; seats = told_incs w.members ∙ told_seats w.members; view = told_is_view w k }

abbrev welcomed_if : Bool → Welcome → Member → Member
welcomed_if c w b = elim c [ true ↦ push (Is Recovering Welcomed) (push (Enters w) b) | false ↦ b ]

-- of a state that is OFFLINE or ERROR
either_out : (s : MemberState) → is_outside s ≡ true → is_offline s ≡ false → is_error s ≡ true
either_out Offline h k = absurd (false≢true (sym k))
either_out Error h k = refl
either_out Recovering h k = absurd (false≢true h)
either_out Online h k = absurd (false≢true h)

module _ (w : Welcome) (i : IsWelcome w) (a : Member) (k : InRange a) (n : Node) (ms : List Message) (r : IsInRange n) (g : Greets w a.node n) where
  abbrev heard : Member
  heard = record a { node = n; sent = ms }

  -- both begin with it
  module _ (b : Begins w a.node n) where
    not_none : n.turns ≡ None → ⊥
    not_none h = absurd (cc (sym b.reading ∙ ap reading_by h))

    reading_is : (u : Turns) → n.turns ≡ Some u → (resumed (told_in w)).reading ≡ u.reading
    reading_is u h = some_is (sym b.reading ∙ ap reading_by h)

    still : IsUntouched a.life → IsUntouched (Is Recovering Welcomed ∷ Enters w ∷ a.life)
    still u = record { certified = u.certified; untaken = u.untaken; undone = u.undone; uncommitted = u.uncommitted }

    joined : is_offline (state a.life) ≡ true → InRange (push (Is Recovering Welcomed) (push (Enters w) (record a { node = n; sent = ms })))
    joined off = record {
      setup = k.setup;
      joiner = k.joiner;
      contact = k.contact;
      me = g.me ∙ k.me;
      horizon = g.horizon ∙ k.horizon;
      node = r;
      log = g.logged;
      shown = λ q u h. subst (λ (z : Reading). Shows w.place (view_told w) z) (reading_is u h) (shown_by w i);
      outside = λ h. absurd (not_none h);
      offline = λ h. absurd (false≢true h);
      before = λ h. absurd (false≢true h);
      welcomed = λ h. (w, refl, i);
      waits = λ q u h. (subst (λ (z : Welcome). IsWaiting w.place Recovering z) (some_is h) (record { place = refl; down = refl }), still (k.before off).1);
      life = (tt, (record { welcome = i; place = let z = (k.before off).0 in omega (arith, z) }, k.life));
    }

    -- in ERROR the node begins with it alone
    alone : is_error (state a.life) ≡ true → InRange (record a { node = n; sent = ms })
    alone e = record {
      setup = k.setup;
      joiner = k.joiner;
      contact = k.contact;
      me = g.me ∙ k.me;
      horizon = g.horizon ∙ k.horizon;
      node = r;
      log = g.logged;
      shown = λ q u h. absurd (false≢true (sym q ∙ e));
      outside = λ h. absurd (not_none h);
      offline = λ h. absurd (offline_error (state a.life) h e);
      before = k.before;
      welcomed = k.welcomed;
      waits = k.waits;
      life = k.life;
    }
      where
        offline_error : (s : MemberState) → is_offline s ≡ true → is_error s ≡ true → ⊥
        offline_error Offline x y = absurd (false≢true y)
        offline_error Error x y = absurd (false≢true x)
        offline_error Recovering x y = absurd (false≢true x)
        offline_error Online x y = absurd (false≢true x)

    for_me : is_for w a.me.inc n.horizon ≡ true
    for_me = ap (λ z. is_for w z n.horizon) (sym k.me) ∙ (ap (λ z. is_for w a.node.me z) g.horizon ∙ b.for)

    begins : (c : Bool) → (is_offline (state a.life) && (is_in_order w && is_for w a.me.inc n.horizon)) ≡ c → InRange (welcomed_if c w (record a { node = n; sent = ms }))
    begins true e = joined (and_parts (is_offline (state a.life)) (is_in_order w && is_for w a.me.inc n.horizon) e).0
    begins false e = alone (either_out (state a.life) (k.outside b.unread) (first (is_offline (state a.life)) _ e (both (is_in_order w) (is_for w a.me.inc n.horizon) b.order for_me)))
      where
        first : (x y : Bool) → (x && y) ≡ false → y ≡ true → x ≡ false
        first true y h q = absurd (false≢true (sym h ∙ q))
        first false y h q = refl

        both : (x y : Bool) → x ≡ true → y ≡ true → (x && y) ≡ true
        both true y p q = q
        both false y p q = absurd (false≢true p)

  -- or neither does
  leaves : (a.node.turns ≡ None → (is_in_order w && is_for w a.node.me a.node.horizon) ≡ false) → reading_by n.turns ≡ reading_by a.node.turns
      → (c : Bool) → (is_offline (state a.life) && (is_in_order w && is_for w a.me.inc n.horizon)) ≡ c → InRange (welcomed_if c w (record a { node = n; sent = ms }))
  leaves z s false e = moved n ms a (record { me = g.me; horizon = g.horizon; reading = s }) r g.logged k
  leaves z s true e =
      let t = and_parts (is_offline (state a.life)) (is_in_order w && is_for w a.me.inc n.horizon) e in
      let same : (is_in_order w && is_for w a.node.me a.node.horizon) ≡ (is_in_order w && is_for w a.me.inc n.horizon) = ap (λ z. is_in_order w && is_for w z a.node.horizon) k.me ∙ ap (λ z. is_in_order w && is_for w a.me.inc z) (sym g.horizon) in
      absurd (false≢true (sym (z (k.offline t.0)) ∙ (same ∙ t.1)))

none_test : (o : Option Turns) (y : Bool) → (not (is_some o) && y) ≡ false → o ≡ None → y ≡ false
none_test None y h e = h
none_test (Some u) y h e = absurd (cc e)

pub greeted : (m : Message) (w : Welcome) (a : Member) → m.wire ≡ Greet w → IsMessage m → InRange a → InRange (hear_welcome w (at_node (Heard m) a))
greeted m w a e i k =
    let x : IsWelcome w = subst (λ z. IsWire z) e i.wire in
    let n : Node = (node_step (Heard m) a.node).node in
    let r : IsInRange n = step_in_range (Heard m) a.node i k.node in
    let g : Greets w a.node n = step_greets m w a.node e x k.log in
    let ms : List Message = (at_node (Heard m) a).sent in
    elim (g.either) [
      | inl b ↦ begins w x a k n ms r g b (is_offline (state a.life) && (is_in_order w && is_for w a.me.inc n.horizon)) refl
      | inr q ↦ leaves w x a k n ms r g (none_test a.node.turns _ q.0) q.1 (is_offline (state a.life) && (is_in_order w && is_for w a.me.inc n.horizon)) refl
    ]

-- ---- when it begins

some_reading : (o : Option Turns) (r : Reading) → reading_by o ≡ Some r → is_some o ≡ true
some_reading None r h = absurd (cc h)
some_reading (Some u) r h = refl

-- an OFFLINE one begins exactly where its node has a log then
pub begins_where : (m : Message) (w : Welcome) (a : Member) → m.wire ≡ Greet w → IsMessage m → InRange a → is_offline (state a.life) ≡ true
    → is_some (at_node (Heard m) a).node.turns ≡ (is_in_order w && is_for w a.me.inc (at_node (Heard m) a).node.horizon)
begins_where m w a e i k off = go (step_greets m w a.node e (subst (λ z. IsWire z) e i.wire) k.log)
  where
    go : Greets w a.node (node_step (Heard m) a.node).node → is_some (node_step (Heard m) a.node).node.turns ≡ (is_in_order w && is_for w a.me.inc (node_step (Heard m) a.node).node.horizon)
    go g = let n : Node = (node_step (Heard m) a.node).node in elim (g.either) [
      | inl b ↦ some_reading (node_step (Heard m) a.node).node.turns (resumed (told_in w)).reading b.reading
          ∙ sym (ap (λ z. z && is_for w a.me.inc n.horizon) b.order ∙ for_me w (subst (λ z. IsWire z) e i.wire) a k n [] (step_in_range (Heard m) a.node i k.node) g b)
      | inr q ↦
          ap is_some (unread (node_step (Heard m) a.node).node.turns (q.1 ∙ ap reading_by (k.offline off)))
          ∙ sym (ap (λ z. is_in_order w && is_for w z n.horizon) (sym k.me) ∙ (ap (λ z. is_in_order w && is_for w a.node.me z) g.horizon ∙ none_test a.node.turns (is_in_order w && is_for w a.node.me a.node.horizon) q.0 (k.offline off)))
    ]
