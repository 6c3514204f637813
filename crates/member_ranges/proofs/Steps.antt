-- The log of a node after a step, a Welcome, and a slot that is taken.
use Rattle.std.proofs.Common.{◌≡◌, ◌⊎◌, inl, inr, ℕ, ◌+◌, ◌≤◌, ◌<◌, Bool, true, false, not, cond, ◌&&◌, Option, Some, None, List, [], ◌∷◌, ◌++◌, ltb, eqb, refl, sym, ap, subst, ◌∙◌, arith, length}
use Rattle.std.specs.Prelude.{is_some, fold, min, option_map}
use Rattle.std.proofs.lemmas.Bool.{and_parts, cond_both, eqb-true, false≢true, ltb-false}
use Rattle.gr_ids.specs.Names.{ballot_lt}
use Rattle.gr_ids.specs.declared.names.Ballot.{Ballot}
use Rattle.slot_values.specs.Spelling.{IsValue}
use Rattle.slot_values.specs.Log.{Reading, Turns, became, forget_configs, read, turn}
use Rattle.slot_values.specs.Turns.{resumed}
use Rattle.paxos_forms.specs.Welcomes.{IsWelcome}
use Rattle.paxos_forms.specs.declared.message.Message.{Message}
use Rattle.paxos_forms.specs.declared.message.Wire.TheVariants.{Welcome as Greet}
use Rattle.paxos_forms.specs.declared.welcome.Welcome.{Welcome}
use Rattle.node_rules.specs.Acceptor.{forget_votes}
use Rattle.node_rules.specs.Learner.{decided_at, forget_decided, next_entry}
use Rattle.node_rules.specs.Leader.{forget_proposals}
use Rattle.node_rules.specs.Node.{Effect, Node, Told, also, quiet}
use Rattle.node_rules.specs.Slots.{Entry}
use Rattle.node_rules.specs.Step.{hear, node_step, row}
use Rattle.node_rules.specs.Taking.{forget, forgets, least_told, take, take_entry, take_next}
use Rattle.node_rules.specs.Welcoming.{hear_welcome, higher_ballot, is_for, is_in_order, told_in, welcomed}
use Rattle.node_rules.specs.declared.event.PaxosEvent.{PaxosEvent}
use Rattle.node_rules.specs.declared.event.PaxosEvent.TheVariants.{Heard}
use Rattle.node_rules.specs.declared.taken.Taken.{Taken}
use Rattle.order_laws.proofs.Leads.{advanced_up}
use Rattle.order_laws.proofs.Lists.{at_slot-in}
use Rattle.order_laws.proofs.Takes.{next-entry}
use Rattle.paxos_ranges.specs.Ranges.{IsInRange}
use Rattle.member_ranges.specs.Hearing.{is_welcome}
use Rattle.member_ranges.specs.Logs.{HasLog}
use Rattle.member_ranges.proofs.Greeted.{log_told}
use Rattle.member_ranges.proofs.Logs.{log_forget, log_turn}
use Rattle.member_ranges.proofs.Nodes.{Onward, has_on, on_row}

abbrev pub Logged : Node → Type 0
Logged n = (w : Turns) → n.turns ≡ Some w → HasLog n w

abbrev pub reading_by : Option Turns → Option Reading
reading_by o = option_map (λ w. w.reading) o

-- what is read, where something is
pub turns_of : (o : Option Turns) (r : Reading) → reading_by o ≡ Some r → (w : Turns) × (o ≡ Some w) × (w.reading ≡ r)
turns_of None r h = absurd (cc h)
turns_of (Some w) r h = (w, refl, cc)

pub unread : (o : Option Turns) → reading_by o ≡ None → o ≡ None
unread None h = refl
unread (Some w) h = absurd (cc h)

-- the same node, with the same log
pub record Same (n m : Node) : Type 0 where
  pub me : m.me ≡ n.me
  pub horizon : m.horizon ≡ n.horizon
  pub reading : reading_by m.turns ≡ reading_by n.turns

same_then : (n m k : Node) → Same n m → Same m k → Same n k
same_then n m k p q = record { me = q.me ∙ p.me; horizon = q.horizon ∙ p.horizon; reading = q.reading ∙ p.reading }

onward_same : (n m : Node) → Onward n m → Same n m
onward_same n m o = record { me = o.me; horizon = o.horizon; reading = ap reading_by o.turns }

onward_logged : (n m : Node) → Onward n m → Logged n → Logged m
onward_logged n m o k w h = has_on n m w o (k w (sym o.turns ∙ h))

-- ---- forgetting

abbrev forgotten : ℕ → Node → Node
forgotten k n = record n { acceptor = forget_votes k n.acceptor; learner = forget_decided k n.learner; leader = option_map (forget_proposals k) n.leader; turns = option_map (forget_configs k) n.turns }

same_reading : (k : ℕ) (o : Option Turns) → reading_by (option_map (forget_configs k) o) ≡ reading_by o
same_reading k None = refl
same_reading k (Some w) = refl

forget_same : (k : ℕ) (n : Node) → Same n (forget k n)
unfolding forget
forget_same k n = cond_both (ltb n.acceptor.low k) (forgotten k n) n (λ (x : Node). Same n x) (λ e. record { me = refl; horizon = refl; reading = same_reading k n.turns }) (λ e. record { me = refl; horizon = refl; reading = refl })

forget_logged : (k : ℕ) (n : Node) → k ≤ n.learner.slot → Logged n → Logged (forget k n)
unfolding forget
forget_logged k n below l = cond_both (ltb n.acceptor.low k) (forgotten k n) n (λ (x : Node). Logged x) (λ e w h. go n.turns refl w h) (λ e. l)
  where
    go : (o : Option Turns) → n.turns ≡ o → (w : Turns) → option_map (forget_configs k) o ≡ Some w → HasLog (forgotten k n) w
    go None q w h = absurd (cc h)
    go (Some y) q w h =
        let z : forget_configs k y ≡ w = cc in
        let s = l y q in
        let b = s.slot in
        subst (λ (v : Turns). HasLog (forgotten k n) v) z (record { round = s.round; slot = s.slot; next = s.next; log = log_forget n.horizon k y (omega (arith, below, b)) s.log })

least_below : (ts : List Told) (k : ℕ) → fold (λ k x. min k x.slot) k ts ≤ k
least_below [] k = omega arith
least_below (x ∷ ts) k = let h = least_below ts (min k x.slot) in let m = min_left k x.slot in omega arith
  where
    min_left : (a b : ℕ) → min a b ≤ a
    min_left a b = omega arith

forgets_logged : (n : Node) → Logged n → Logged (forgets n).node
forgets_logged n l = forget_logged (least_told n) n (least_below n.told n.learner.slot) l

-- ---- a step

pub step_same : (e : PaxosEvent) (n : Node) → is_welcome e ≡ false → Same n (node_step e n).node
unfolding node_step
step_same e n h = let m = (row e n).node in same_then n m (forgets m).node (onward_same n m (on_row e n h)) (forget_same (least_told m) m)

pub step_logged : (e : PaxosEvent) (n : Node) → is_welcome e ≡ false → Logged n → Logged (node_step e n).node
unfolding node_step
step_logged e n h l = let m = (row e n).node in forgets_logged m (onward_logged n m (on_row e n h) l)

-- ---- a Welcome

higher_round : (a b : Ballot) → 1 ≤ b.round → 1 ≤ (higher_ballot a b).round
higher_round a b h = go (ballot_lt a b) refl
  where
    go : (u : Bool) → ballot_lt a b ≡ u → 1 ≤ (cond u b a).round
    go true e = h
    go false e = low (eqb a.round b.round) refl e
      where
        low : (v : Bool) → eqb a.round b.round ≡ v → ballot_lt a b ≡ false → 1 ≤ a.round
        low true f g = let q : a.round ≡ b.round = eqb-true a.round b.round f in omega (arith, q, h)
        low false f g = let q : ltb a.round b.round ≡ false = rw f at g in let z = ltb-false a.round b.round q in omega (arith, z, h)

abbrev test_of : Welcome → Node → Bool
test_of x n = not (is_some n.turns) && (is_in_order x && is_for x n.me n.horizon)

for_length : (x : Welcome) (n : Node) → is_for x n.me n.horizon ≡ true → length x.configs ≡ n.horizon
for_length x n h = eqb-true (length x.configs) n.horizon (and_parts (eqb (length x.configs) n.horizon) _ h).0

welcomed_logged : (x : Welcome) (n : Node) → IsWelcome x → is_in_order x ≡ true → is_for x n.me n.horizon ≡ true → Logged (welcomed n x)
welcomed_logged x n k order for w h =
    let z : resumed (told_in x) ≡ w = cc in
    let up = advanced_up (record n.learner { slot = x.slot + 1; next = x.slot + 1 }) in
    subst (λ (v : Turns). HasLog (welcomed n x) v) z (record {
      round = higher_round n.acceptor.promise x.promise k.promise.round_above;
      slot = refl;
      next = up;
      log = log_told x k order n.horizon (for_length x n for);
    })

-- it begins with the Welcome, or nothing changes
pub record Begins (x : Welcome) (n m : Node) : Type 0 where
  pub unread : n.turns ≡ None
  pub order : is_in_order x ≡ true
  pub for : is_for x n.me n.horizon ≡ true
  pub reading : reading_by m.turns ≡ Some (resumed (told_in x)).reading

pub record Greets (x : Welcome) (n m : Node) : Type 0 where
  pub me : m.me ≡ n.me
  pub horizon : m.horizon ≡ n.horizon
  pub logged : Logged m
  pub either : Begins x n m ⊎ ((test_of x n ≡ false) × (reading_by m.turns ≡ reading_by n.turns))

none_of : (o : Option Turns) → not (is_some o) ≡ true → o ≡ None
none_of None h = refl
none_of (Some w) h = absurd (false≢true h)

hears_welcome : (x : Welcome) (n : Node) → IsWelcome x → Logged n → Greets x n (hear_welcome x n).node
unfolding hear_welcome
hears_welcome x n k l = cond_both (test_of x n) (quiet (welcomed n x)) (quiet n) (λ (e : Effect). Greets x n e.node)
    (λ e.
    let t = and_parts (not (is_some n.turns)) (is_in_order x && is_for x n.me n.horizon) e in
    let s = and_parts (is_in_order x) (is_for x n.me n.horizon) t.1 in
    record { me = refl; horizon = refl; logged = welcomed_logged x n k s.0 s.1; either = inl (record { unread = none_of n.turns t.0; order = s.0; for = s.1; reading = refl }) })
    (λ e. record { me = refl; horizon = refl; logged = l; either = inr (e, refl) })

greets_on : (x : Welcome) (n m k : Node) → Greets x n m → Same m k → Logged k → Greets x n k
greets_on x n m k g s l = record {
  me = s.me ∙ g.me;
  horizon = s.horizon ∙ g.horizon;
  logged = l;
  either = elim (g.either) [
    | inl b ↦ inl (record { unread = b.unread; order = b.order; for = b.for; reading = s.reading ∙ b.reading })
    | inr q ↦ inr (q.0, s.reading ∙ q.1)
  ];
}

pub step_greets : (m : Message) (x : Welcome) (n : Node) → m.wire ≡ Greet x → IsWelcome x → Logged n → Greets x n (node_step (Heard m) n).node
unfolding node_step hear
step_greets m x n e k l = subst (λ z. Greets x n (also (hear m.from z n) forgets).node) (sym e) there
  where
    there : Greets x n (also (hear_welcome x n) forgets).node
    there =
        let g = hears_welcome x n k l in
        let y = (hear_welcome x n).node in
        greets_on x n y (forgets y).node g (forget_same (least_told y) y) (forgets_logged y g.logged)

-- ---- a slot that is taken

pub record TakesNext (n m : Node) (t : Taken) : Type 0 where
  pub before : Turns
  pub had : n.turns ≡ Some before
  pub kept : t.kept ≡ became before.reading t.value
  pub value : IsInRange n → IsValue t.value
  pub me : m.me ≡ n.me
  pub horizon : m.horizon ≡ n.horizon
  pub reading : reading_by m.turns ≡ Some (read before.reading t.value)
  pub logged : IsInRange n → Logged n → Logged m

module _ (n : Node) (w : Turns) (d : Entry) (had : n.turns ≡ Some w) (found : next_entry n.learner ≡ Some d) where
  next : (n.learner.slot < n.learner.next) × (decided_at n.learner n.learner.slot ≡ Some d)
  next = next-entry n.learner d found

  value : IsInRange n → IsValue d.value
  value r = (r.decided d (at_slot-in (λ e. e.slot) n.learner.decided n.learner.slot d next.1)).1

  passed : IsInRange n → Logged n → Logged (take_entry n w d).node
  unfolding turn
  passed r l x h =
      let z : turn w d.value ≡ x = cc in
      let s = l w had in
      let b = s.slot in
      subst (λ (v : Turns). HasLog (take_entry n w d).node v) z (record { round = s.round; slot = ap (λ k. k + 1) s.slot; next = omega (arith, next.0); log = log_turn n.horizon w d.value (value r) s.log })

  turn_reading : reading_by (Some (turn w d.value)) ≡ Some (read w.reading d.value)
  unfolding turn
  turn_reading = refl

  taken_entry : (t : Taken) (more : List Taken) → (take_entry n w d).took ++ [] ≡ t ∷ more → TakesNext n (forgets (take_entry n w d).node).node t
  taken_entry t more h =
      let z : record { slot = d.slot; value = d.value; kept = became w.reading d.value } ≡ t = cc in
      let m = (take_entry n w d).node in
      let s = forget_same (least_told m) m in
      record {
        before = w;
        had = had;
        kept = subst (λ (y : Taken). y.kept ≡ became w.reading y.value) z refl;
        value = λ r. subst (λ (y : Taken). IsValue y.value) z (value r);
        me = s.me;
        horizon = s.horizon;
        reading = subst (λ (y : Taken). reading_by (forgets m).node.turns ≡ Some (read w.reading y.value)) z (s.reading ∙ turn_reading);
        logged = λ r l. forgets_logged m (passed r l);
      }

pub takes_next : (n : Node) (t : Taken) (more : List Taken) → (take n).took ≡ t ∷ more → TakesNext n (take n).node t
unfolding take
takes_next n t more h = go n.turns refl (next_entry n.learner) refl h
  where
    go : (o : Option Turns) → n.turns ≡ o → (p : Option Entry) → next_entry n.learner ≡ p → (take_next n o p).took ++ [] ≡ t ∷ more → TakesNext n (forgets (take_next n o p).node).node t
    go None q p e z = absurd (cc z)
    go (Some w) q None e z = absurd (cc z)
    go (Some w) q (Some d) e z = taken_entry n w d q e t more z
