-- Messages that come.
use Rattle.std.proofs.Common.{◌≡◌, ℕ, Bool, eqb-true, true, false, None, refl, sym, ap, ◌∙◌, subst}
use Rattle.std.specs.Prelude.{◌==◌}
use Rattle.slot_values.specs.Spelling.{IsValue, IsWhat}
use Rattle.slot_values.specs.declared.value.Joiner.{Joiner}
use Rattle.slot_values.specs.declared.value.Value.{Value}
use Rattle.slot_values.specs.declared.value.What.{What}
use Rattle.slot_values.specs.declared.value.What.TheVariants.{Add, Body as Says, Noop, Remove}
use Rattle.paxos_forms.specs.declared.message.Message.{Message}
use Rattle.paxos_forms.specs.declared.recovery.Ask.{Ask}
use Rattle.paxos_forms.specs.declared.recovery.Give.{Give}
use Rattle.paxos_forms.specs.declared.welcome.Welcome.{Welcome}
use Rattle.paxos_forms.specs.declared.message.Wire.{Wire}
use Rattle.paxos_forms.specs.declared.message.Wire.TheVariants.{Prepare, Promise, Accept, Accepted, Learn, Offer, Welcome as Greet, Ask as Asks, Give as Gives, Alive, Gone}
use Rattle.node_rules.specs.declared.event.PaxosEvent.TheVariants.{Heard}
use Rattle.group_rules.specs.Events.{Came, Hears, Life}
use Rattle.group_rules.specs.Life.{is_up, state}
use Rattle.group_rules.specs.Member.{Member, at_node, own, push}
use Rattle.group_rules.specs.Steps.{hear_add, hear_in_error, hear_offer, hear_wire}
use Rattle.member_truth.proofs.Grown.{hears as hears_grow, promised}
use Rattle.member_ranges.specs.Hearing.{is_welcome}
use Rattle.member_moment.specs.declared.moment.Moment.{Moment}
use Rattle.member_moment.specs.Doing.{Does, IsKept}
use Rattle.member_moment.specs.Standing.{Stands}
use Rattle.member_moment.proofs.Doing.{does_nothing, does_same}
use Rattle.member_core.specs.Hearing.{asks_a_vote, hear, hear_checked, hear_fallen, message_of}

-- by what it says
pub as_said : (m : Message) (w : Wire) (x y : Moment) → m.wire ≡ w → Does (hear (message_of m.from m.to w)) x y → Does (hear m) x y
as_said m w x y e d = subst (λ z. Does (hear (message_of m.from m.to z)) x y) (sym e) d

-- ---- an offer

pub offers_add : (m : Message) (v : Value) (x y : Moment) → v.id.number ≡ 0 → Does (hear_add v.what) x y → Does (hear_offer m v) x y
offers_add m v x y e d base a k st =
    let q : hear_offer m v a ≡ hear_add v.what a = ap (λ b. elim b [ true ↦ hear_add v.what a | false ↦ at_node (Heard m) a ]) (ap (λ n. n == 0) e) in
    subst (λ c. Stands base c y) (sym q) (d base a (subst IsKept q k) st)

not_zero : (n : ℕ) → (n ≡ 0 → ⊥) → (n == 0) ≡ false
not_zero n h = go (n == 0) refl
  where
    go : (b : Bool) → (n == 0) ≡ b → b ≡ false
    go true e = absurd (h (eqb-true n 0 e))
    go false e = refl

pub offers_on : (m : Message) (v : Value) (x y : Moment) → (v.id.number ≡ 0 → ⊥) → Does (at_node (Heard m)) x y → Does (hear_offer m v) x y
offers_on m v x y e d base a k st =
    let q : hear_offer m v a ≡ at_node (Heard m) a = ap (λ b. elim b [ true ↦ hear_add v.what a | false ↦ at_node (Heard m) a ]) (not_zero v.id.number e) in
    subst (λ c. Stands base c y) (sym q) (d base a (subst IsKept q k) st)

add_is : (j : Joiner) (b : Bool) (a : Member) → b ≡ is_up (state a.life) → hear_add (Add j) a ≡ elim b [ true ↦ own (Add j) None a | false ↦ a ]
add_is j b a e = ap (λ u. elim u [ true ↦ own (Add j) None a | false ↦ a ]) (sym e)

pub adds_none : (w : What) (j : Joiner) (x : Moment) → w ≡ Add j → ((base : Life) (a : Member) → Stands base a x → false ≡ is_up (state a.life)) → Does (hear_add w) x x
adds_none w j x e t base a k st = subst (λ z. Stands base (hear_add z a) x) (sym e) (subst (λ c. Stands base c x) (sym (add_is j false a (t base a st))) st)

pub adds_one : (w : What) (j : Joiner) (x y : Moment) → w ≡ Add j → ((base : Life) (a : Member) → Stands base a x → true ≡ is_up (state a.life)) → Does (own (Add j) None) x y → Does (hear_add w) x y
adds_one w j x y e t d base a k st =
    let q : hear_add w a ≡ own (Add j) None a = ap (λ z. hear_add z a) e ∙ add_is j true a (t base a st) in
    subst (λ c. Stands base c y) (sym q) (d base a (subst IsKept q k) st)

-- ---- in ERROR

vote_is : (m : Message) (w : Wire) (b : Bool) (a : Member) → b ≡ asks_a_vote w → hear_in_error m w a ≡ elim b [ true ↦ at_node (Heard m) (push (Came (Hears m)) a) | false ↦ a ]
vote_is m (Prepare p s) b a e = subst (λ z. at_node (Heard m) (push (Came (Hears m)) a) ≡ elim z as (λ u. Member) [ true ↦ at_node (Heard m) (push (Came (Hears m)) a) | false ↦ a ]) (sym e) refl
vote_is m (Accept p t v) b a e = subst (λ z. at_node (Heard m) (push (Came (Hears m)) a) ≡ elim z as (λ u. Member) [ true ↦ at_node (Heard m) (push (Came (Hears m)) a) | false ↦ a ]) (sym e) refl
vote_is m (Promise p s xs) b a e = subst (λ z. a ≡ elim z as (λ u. Member) [ true ↦ at_node (Heard m) (push (Came (Hears m)) a) | false ↦ a ]) (sym e) refl
vote_is m (Accepted p t) b a e = subst (λ z. a ≡ elim z as (λ u. Member) [ true ↦ at_node (Heard m) (push (Came (Hears m)) a) | false ↦ a ]) (sym e) refl
vote_is m (Learn t v) b a e = subst (λ z. a ≡ elim z as (λ u. Member) [ true ↦ at_node (Heard m) (push (Came (Hears m)) a) | false ↦ a ]) (sym e) refl
vote_is m (Offer v) b a e = subst (λ z. a ≡ elim z as (λ u. Member) [ true ↦ at_node (Heard m) (push (Came (Hears m)) a) | false ↦ a ]) (sym e) refl
vote_is m (Greet w) b a e = subst (λ z. a ≡ elim z as (λ u. Member) [ true ↦ at_node (Heard m) (push (Came (Hears m)) a) | false ↦ a ]) (sym e) refl
vote_is m (Asks x) b a e = subst (λ z. a ≡ elim z as (λ u. Member) [ true ↦ at_node (Heard m) (push (Came (Hears m)) a) | false ↦ a ]) (sym e) refl
vote_is m (Gives g) b a e = subst (λ z. a ≡ elim z as (λ u. Member) [ true ↦ at_node (Heard m) (push (Came (Hears m)) a) | false ↦ a ]) (sym e) refl
vote_is m (Alive n) b a e = subst (λ z. a ≡ elim z as (λ u. Member) [ true ↦ at_node (Heard m) (push (Came (Hears m)) a) | false ↦ a ]) (sym e) refl
vote_is m Gone b a e = subst (λ z. a ≡ elim z as (λ u. Member) [ true ↦ at_node (Heard m) (push (Came (Hears m)) a) | false ↦ a ]) (sym e) refl

pub votes_not : (m : Message) (x : Moment) → false ≡ asks_a_vote m.wire → Does (hear_fallen m) x x
votes_not m x t base a k st = subst (λ c. Stands base c x) (sym (vote_is m m.wire false a t)) st

pub votes_yes : (m : Message) (x y z : Moment) → true ≡ asks_a_vote m.wire → Does (push (Came (Hears m))) x y → Does (at_node (Heard m)) y z → Does (hear_fallen m) x z
votes_yes m x y z t d e base a k st =
    let b : Member = push (Came (Hears m)) a in
    let q : hear_fallen m a ≡ at_node (Heard m) b = vote_is m m.wire true a t in
    let k1 : IsKept (at_node (Heard m) b) = subst IsKept q k in
    subst (λ c. Stands base c z) (sym q) (e base b k1 (d base a (promised (hears_grow m b) k1) st))

-- who asks for a vote sends no Welcome
pub no_welcome : (m : Message) → true ≡ asks_a_vote m.wire → is_welcome (Heard m) ≡ false
no_welcome m t = go m.wire t
  where
    go : (w : Wire) → true ≡ asks_a_vote w → is_welcome (Heard (message_of m.from m.to w)) ≡ false
    go (Prepare p s) e = refl
    go (Accept p s v) e = refl
    go (Promise p s xs) e = refl
    go (Accepted p s) e = refl
    go (Learn s v) e = refl
    go (Offer v) e = refl
    go (Greet w) e = absurd (cc e)
    go (Asks x) e = refl
    go (Gives g) e = refl
    go (Alive n) e = refl
    go Gone e = refl

-- ---- all other messages

is_other : (m : Message) (w : Wire) (a : Member) → ((x : Ask) → w ≡ Asks x → ⊥) → ((g : Give) → w ≡ Gives g → ⊥) → ((v : Value) → w ≡ Offer v → ⊥) → ((x : Welcome) → w ≡ Greet x → ⊥) → (w ≡ Gone → ⊥)
    → hear_wire m w a ≡ hear_checked m a
is_other m (Prepare p s) a f g h i j = refl
is_other m (Promise p s xs) a f g h i j = refl
is_other m (Accept p s v) a f g h i j = refl
is_other m (Accepted p s) a f g h i j = refl
is_other m (Learn s v) a f g h i j = refl
is_other m (Offer v) a f g h i j = absurd (h v refl)
is_other m (Greet w) a f g h i j = absurd (i w refl)
is_other m (Asks x) a f g h i j = absurd (f x refl)
is_other m (Gives x) a f g h i j = absurd (g x refl)
is_other m (Alive n) a f g h i j = refl
is_other m Gone a f g h i j = absurd (j refl)

pub hears_other : (m : Message) (x y : Moment) → ((z : Ask) → m.wire ≡ Asks z → ⊥) → ((g : Give) → m.wire ≡ Gives g → ⊥) → ((v : Value) → m.wire ≡ Offer v → ⊥) → ((w : Welcome) → m.wire ≡ Greet w → ⊥) → (m.wire ≡ Gone → ⊥)
    → Does (hear_checked m) x y → Does (hear m) x y
hears_other m x y f g h i j d = does_same (hear m) (hear_checked m) x y (λ base a st. is_other m m.wire a f g h i j) d

pub is_no_welcome : (m : Message) → ((w : Welcome) → m.wire ≡ Greet w → ⊥) → is_welcome (Heard m) ≡ false
is_no_welcome m i = go m.wire i
  where
    go : (w : Wire) → ((x : Welcome) → w ≡ Greet x → ⊥) → is_welcome (Heard (message_of m.from m.to w)) ≡ false
    go (Prepare p s) h = refl
    go (Accept p s v) h = refl
    go (Promise p s xs) h = refl
    go (Accepted p s) h = refl
    go (Learn s v) h = refl
    go (Offer v) h = refl
    go (Greet w) h = absurd (h w refl)
    go (Asks x) h = refl
    go (Gives g) h = refl
    go (Alive n) h = refl
    go Gone h = refl

-- ---- the value of an Add

pub adds_else : (w : What) (x : Moment) → ((j : Joiner) → w ≡ Add j → ⊥) → Does (hear_add w) x x
adds_else (Add j) x h = absurd (h j refl)
adds_else Noop x h = does_nothing x
adds_else (Remove i) x h = does_nothing x
adds_else (Says b) x h = does_nothing x

pub add_fits : (w : What) (j : Joiner) → w ≡ Add j → IsWhat 0 w → IsWhat 1 (Add j)
add_fits w j e h = subst (λ z. IsWhat 0 z) e h

pub without_number : (v : Value) → IsValue v → v.id.number ≡ 0 → IsWhat 0 v.what
without_number v h e = subst (λ n. IsWhat n v.what) e h.what
