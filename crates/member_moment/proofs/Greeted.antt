-- What is sent to those that join.
use Rattle.std.proofs.Common.{◌≡◌, ◌≤◌, ℕ, Bool, true, false, ◌&&◌, not, Option, Some, None, [], length, refl, sym, subst, ap, ◌∙◌}
use Rattle.std.specs.Prelude.{is_some}
use Rattle.gr_ids.specs.Names.{inc_eq}
use Rattle.gr_ids.specs.declared.levels.MemberState.{MemberState}
use Rattle.gr_ids.specs.declared.levels.MemberState.TheVariants.{Offline, Recovering, Online, Error}
use Rattle.gr_ids.specs.declared.names.Ballot.{Ballot}
use Rattle.gr_ids.specs.declared.names.Inc.{Inc}
use Rattle.name_forms.specs.Incs.{IsInc}
use Rattle.gtid_sets.specs.Sets.{Gtids}
use Rattle.slot_values.specs.Log.{Turns}
use Rattle.slot_values.specs.Spelling.{last_u32}
use Rattle.slot_values.specs.declared.value.Joiner.{Joiner}
use Rattle.paxos_forms.specs.Gives.{IsGive}
use Rattle.paxos_forms.specs.Messages.{IsMessage}
use Rattle.paxos_forms.specs.Welcomes.{IsWelcome}
use Rattle.paxos_forms.specs.declared.message.Wire.TheVariants.{Give as Gives, Welcome as Greet}
use Rattle.paxos_forms.specs.declared.recovery.Give.{Give}
use Rattle.paxos_forms.specs.declared.welcome.Welcome.{Welcome}
use Rattle.node_rules.specs.Node.{Node, message}
use Rattle.node_rules.specs.Welcoming.{welcome_of}
use Rattle.group_rules.specs.Events.{Entry, Life}
use Rattle.group_rules.specs.Life.{entry_at, is_error, is_up, state, taken, view}
use Rattle.group_rules.specs.Member.{Member, send}
use Rattle.group_rules.specs.Recovery.{give_at, hear_ask, is_add}
use Rattle.group_rules.specs.View.{View, shown}
use Rattle.group_rules.specs.Welcomes.{greet, greet_by}
use Rattle.member_truth.specs.Ranged.{IsRanged}
use Rattle.member_truth.specs.Truth.{IsTrue}
use Rattle.member_parts.specs.Giving.{given_to}
use Rattle.member_ranges.specs.Giving.{give_at_entry}
use Rattle.member_ranges.proofs.Gives.{give_is}
use Rattle.member_ranges.proofs.Sent.{welcome_is}
use Rattle.member_moment.specs.declared.moment.Moment.{Moment}
use Rattle.member_moment.specs.Doing.{Does, DoesIf, IsKept}
use Rattle.member_moment.specs.Giving.{IsGreeting, IsShort}
use Rattle.member_moment.specs.Standing.{Stands}

-- ---- a Give

-- no Add with effect was taken there
ungiven : (i : Inc) (set : Gtids) (e : Option Entry) (a : Member) → given_to a.setup a.life set e ≡ None → give_at i set e a ≡ a
ungiven i set None a h = refl
ungiven i set (Some e) a h = go (is_add e.value.what e.effect) refl h
  where
    go : (b : Bool) → is_add e.value.what e.effect ≡ b → ◌≡◌ {A = Option Give} (elim b [ true ↦ Some (give_at_entry a e set) | false ↦ None ]) None → give_at i set (Some e) a ≡ a
    go true q k = absurd (cc k)
    go false q k = ap (λ z. elim z [ true ↦ send i (Gives (give_at_entry a e set)) a | false ↦ a ]) q

-- what is given of an entry is sent
given : (i : Inc) (set : Gtids) (e : Option Entry) (g : Give) (a : Member) → given_to a.setup a.life set e ≡ Some g
    → (x : Entry) × (e ≡ Some x) × (give_at_entry a x set ≡ g) × (give_at i set e a ≡ send i (Gives g) a)
given i set None g a h = absurd (cc h)
given i set (Some e) g a h = go (is_add e.value.what e.effect) refl h
  where
    go : (b : Bool) → is_add e.value.what e.effect ≡ b → elim b [ true ↦ Some (give_at_entry a e set) | false ↦ None ] ≡ Some g
        → (x : Entry) × (Some e ≡ Some x) × (give_at_entry a x set ≡ g) × (give_at i set (Some e) a ≡ send i (Gives g) a)
    go true q k =
        let same : give_at_entry a e set ≡ g = cc in
        (e, refl, same, ap (λ z. elim z [ true ↦ send i (Gives (give_at_entry a e set)) a | false ↦ a ]) q ∙ ap (λ y. send i (Gives y) a) same)
    go false q k = absurd (cc k)

-- every run promises the truth of this history
true_now : (a : Member) → IsKept a → IsRanged a.life → IsTrue a.setup a.me.inc a.life
true_now a k r = k a.life ([], refl) r

pub gives_nothing : (x : Moment) (i : Inc) (p : ℕ) (set : Gtids) → ((base : Life) (a : Member) → Stands base a x → given_to a.setup a.life set (entry_at a.life p) ≡ None)
    → Does (hear_ask i p set) x x
gives_nothing x i p set none base a k st = subst (λ b. Stands base b x) (sym (ungiven i set (entry_at a.life p) a (none base a st))) st

pub gives_so : (x z : Moment) (i : Inc) (p : ℕ) (set : Gtids) (g : Give) → IsInc i → IsShort g
    → ((base : Life) (a : Member) → Stands base a x → given_to a.setup a.life set (entry_at a.life p) ≡ Some g)
    → DoesIf (λ a. IsMessage (message a.node i (Gives g))) (send i (Gives g)) x z → Does (hear_ask i p set) x z
gives_so x z i p set g to short some d base a k st =
    let y = given i set (entry_at a.life p) g a (some base a st) in
    let kept : IsKept (send i (Gives g) a) = subst IsKept y.3 k in
    let fits : IsShort (give_at_entry a y.0 set) = subst IsShort (sym y.2) short in
    let is : IsGive g = subst IsGive y.2 (give_is a p y.0 set st.rest.range (true_now a kept st.rest.ranged) y.1 fits.0 fits.1) in
    let m : IsMessage (message a.node i (Gives g)) = record { from = st.rest.range.node.me; to = to; wire = is } in
    subst (λ b. Stands base b z) (sym y.3) (d base a m kept st)

-- ---- a Welcome

-- whether this member welcomes it
abbrev test : Inc → Member → Bool
test i a = is_up (state a.life) && not (inc_eq i a.me.inc)

by_test : (i : Inc) (a : Member) (b : Bool) → test i a ≡ b → greet i a ≡ elim b [ true ↦ greet_by i a.node.turns a | false ↦ a ]
by_test i a b e = ap (λ z. elim z [ true ↦ greet_by i a.node.turns a | false ↦ a ]) e

is_other : (i : Inc) (a : Member) (x : Moment) (b : Bool) → x.me ≡ a.me → inc_eq i x.me.inc ≡ b → inc_eq i a.me.inc ≡ b
is_other i a x b e h = ap (λ (j : Joiner). inc_eq i j.inc) (sym e) ∙ h

and_false : (a : Bool) → (a && false) ≡ false
and_false true = refl
and_false false = refl

abbrev Greets : Inc → Moment → Moment → Type 0
Greets i x z = DoesIf (λ a. IsInc i × (1 ≤ taken a.life)) (greet i) x z

-- it isn't ONLINE
pub greets_down : (i : Inc) (x : Moment) → ((base : Life) (a : Member) → Stands base a x → is_up (state a.life) ≡ false) → Greets i x x
greets_down i x down base a h k st =
    subst (λ b. Stands base b x) (sym (by_test i a false (ap (λ b. b && not (inc_eq i a.me.inc)) (down base a st)))) st

-- it is that one itself
pub greets_itself : (i : Inc) (x : Moment) → inc_eq i x.me.inc ≡ true → Greets i x x
greets_itself i x e base a h k st =
    let own : inc_eq i a.me.inc ≡ true = is_other i a x true st.rest.me e in
    subst (λ b. Stands base b x) (sym (by_test i a false (ap (λ b. is_up (state a.life) && not b) own ∙ and_false (is_up (state a.life))))) st

module _ (i : Inc) (x : Moment) (up : (base : Life) (a : Member) → Stands base a x → is_up (state a.life) ≡ true) (other : inc_eq i x.me.inc ≡ false) where
  welcomes : (base : Life) (a : Member) → Stands base a x → greet i a ≡ greet_by i a.node.turns a
  welcomes base a st = by_test i a true (ap (λ b. b && not (inc_eq i a.me.inc)) (up base a st) ∙ ap not (is_other i a x false st.rest.me other))

  abbrev Greeting : Option Welcome → Type 0
  Greeting w = (base : Life) (a : Member) → Stands base a x → is_up (state a.life) ≡ true → 1 ≤ taken a.life → IsGreeting w a

  -- it doesn't know the log
  pub greets_nobody : Greeting None → Greets i x x
  greets_nobody g base a h k st =
      subst (λ b. Stands base b x) (sym (welcomes base a st ∙ ap (λ o. greet_by i o a) (g base a st (up base a st) h.1))) st

  pub greets_so : (z : Moment) (w : Welcome) → Greeting (Some w) → DoesIf (λ a. IsMessage (message a.node i (Greet w))) (send i (Greet w)) x z → Greets i x z
  greets_so z w g d base a h k st =
      let y = g base a st (up base a st) h.1 in
      let same : greet i a ≡ send i (Greet w) a = welcomes base a st ∙ (ap (λ o. greet_by i o a) y.1 ∙ ap (λ v. send i (Greet v) a) (sym y.2)) in
      let m : IsMessage (message a.node i (Greet w)) = record { from = st.rest.range.node.me; to = h.0; wire = y.3 } in
      subst (λ b. Stands base b z) (sym same) (d base a m (subst IsKept same k) st)

-- ---- the Welcome that is made

is_well : (s : MemberState) → is_up s ≡ true → is_error s ≡ false
is_well Online e = refl
is_well Offline e = absurd (cc e)
is_well Recovering e = absurd (cc e)
is_well Error e = absurd (cc e)

pub logless : (x : Moment) → is_some x.node.turns ≡ false → (base : Life) (a : Member) → Stands base a x → a.node.turns ≡ None
logless x e base a st = unknown a.node.turns (ap (λ (n : Node). is_some n.turns) (sym st.rest.node) ∙ e)
  where
    unknown : (o : Option Turns) → is_some o ≡ false → o ≡ None
    unknown None q = refl
    unknown (Some w) q = absurd (cc q)

pub greeting_is : (x : Moment) (t : Turns) (b : Ballot) (v : View) (w : Welcome) → Some t ≡ x.node.turns → b ≡ x.node.acceptor.promise → v ≡ x.parts.list.view
    → ((n : Node) → n.acceptor.promise ≡ b → w ≡ welcome_of n t (shown v)) → length w.ever ≤ last_u32
    → (base : Life) (a : Member) → Stands base a x → is_up (state a.life) ≡ true → 1 ≤ taken a.life → IsGreeting (Some w) a
greeting_is x t b v w e p s made few base a st up some =
    let log : a.node.turns ≡ Some t = ap (λ (n : Node). n.turns) (sym st.rest.node) ∙ sym e in
    let same : w ≡ welcome_of a.node t (shown (view a.setup a.life)) =
    made a.node (ap (λ (n : Node). n.acceptor.promise) (sym st.rest.node) ∙ sym p) ∙ ap (λ y. welcome_of a.node t (shown y)) (s ∙ st.rest.parts.list.view) in
    let ever : length t.reading.ever ≤ last_u32 = subst (λ (y : Welcome). length y.ever ≤ last_u32) same few in
    (t, log, same, subst (λ y. IsWelcome y) (sym same) (welcome_is a t st.rest.range (is_well (state a.life) up) log some ever))
