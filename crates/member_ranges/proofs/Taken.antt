-- A slot is taken by the node and the member.
use Rattle.std.proofs.Common.{◌≡◌, ℕ, ◌+◌, ◌≤◌, Bool, true, false, Some, None, List, ◌∷◌, refl, sym, ap, subst, ◌∙◌, arith}
use Rattle.std.specs.Prelude.{if◌then◌else◌}
use Rattle.std.proofs.lemmas.Bool.{false≢true}
use Rattle.slot_values.specs.Log.{Reading, Turns, became, changed, has_effect, incs, is_kept, kept, read}
use Rattle.slot_values.specs.Slots.{last_slot}
use Rattle.slot_values.specs.Spelling.{IsValue}
use Rattle.slot_values.specs.declared.kept.Kept.{Kept}
use Rattle.slot_values.specs.declared.kept.Kept.TheVariants.{At as KeptAt, Skipped as IsSkipped}
use Rattle.slot_values.specs.declared.value.Value.{Value}
use Rattle.slot_values.specs.declared.value.What.{What}
use Rattle.slot_values.specs.declared.value.What.TheVariants.{Noop, Add, Remove, Body}
use Rattle.node_rules.specs.Node.{Node}
use Rattle.node_rules.specs.Taking.{take}
use Rattle.node_rules.specs.declared.taken.Taken.{Taken}
use Rattle.paxos_ranges.specs.Ranges.{IsInRange}
use Rattle.paxos_ranges.proofs.Rows.{take_in_range}
use Rattle.paxos_forms.specs.declared.message.Message.{Message}
use Rattle.group_rules.specs.Events.{Entry, Skips, Took}
use Rattle.group_rules.specs.Life.{has_give, is_error, is_up, state, taken, view}
use Rattle.group_rules.specs.Member.{Member, by_node, push}
use Rattle.group_rules.specs.Parts.{open_parts}
use Rattle.group_rules.specs.Taking.{entry_of, takes_slots}
use Rattle.group_rules.specs.View.{seated}
use Rattle.member_ranges.specs.Logs.{AreFew}
use Rattle.member_ranges.specs.Lives.{AreSeated, IsHolding}
use Rattle.member_ranges.specs.Ranges.{InRange, Shows, is_outside}
use Rattle.member_ranges.specs.Taking.{entered_by, takes_on}
use Rattle.member_ranges.proofs.Chains.{Ascend}
use Rattle.member_ranges.proofs.Holding.{held_holding}
use Rattle.member_ranges.proofs.Passed.{moved, passed, ready}
use Rattle.member_ranges.proofs.Seats.{entry_seats}
use Rattle.member_ranges.proofs.Steps.{Logged, TakesNext, reading_by, takes_next, turns_of}
use Rattle.member_ranges.proofs.Views.{next_is_view}

-- ---- what a value becomes

skipped_same : (r : Reading) (v : Value) → IsSkipped ≡ became r v → read r v ≡ r
unfolding read
skipped_same r v h = go (is_kept r v) refl h
  where
    go : (b : Bool) → is_kept r v ≡ b → IsSkipped ≡ (if b then KeptAt (r.place + 1) (has_effect r v.what) else IsSkipped) → read r v ≡ r
    go true e q = absurd (cc q)
    go false e q = rw e refl

pub record Becomes (r : Reading) (v : Value) (p : ℕ) (b : Bool) : Type 0 where
  pub kept : is_kept r v ≡ true
  pub place : p ≡ r.place + 1
  pub effect : b ≡ has_effect r v.what

pub becomes_at : (r : Reading) (v : Value) (p : ℕ) (b : Bool) → KeptAt p b ≡ became r v → Becomes r v p b
becomes_at r v p b h = go (is_kept r v) refl h
  where
    go : (c : Bool) → is_kept r v ≡ c → KeptAt p b ≡ (if c then KeptAt (r.place + 1) (has_effect r v.what) else IsSkipped) → Becomes r v p b
    go true e q = record { kept = e; place = cc; effect = cc }
    go false e q = absurd (cc q)

read_place : (r : Reading) (v : Value) → is_kept r v ≡ true → (read r v).place ≡ r.place + 1
unfolding read
read_place r v h = rw h (go (has_effect r v.what) v.what)
  where
    go : (b : Bool) (w : What) → (if b then changed (kept r v) w else kept r v).place ≡ r.place + 1
    go true Noop = refl
    go true (Add j) = refl
    go true (Remove i) = refl
    go true (Body x) = refl
    go false w = refl

some_is : {A : Type 0} {x y : A} → Some x ≡ Some y → x ≡ y
some_is {x = x} {y = y} e = cc

-- ---- the member

module _ (t : Taken) (a : Member) (ok : takes_slots a.life ≡ true) (k : InRange a) (next : TakesNext a.node (take a.node).node t) where
  abbrev n : Node
  n = (take a.node).node

  abbrev ms : List Message
  ms = (by_node take a).sent

  in_range : IsInRange (take a.node).node
  in_range = take_in_range a.node k.node

  logged : Logged (take a.node).node
  logged = next.logged k.node k.log

  is_ready : (is_error (state a.life) ≡ false) × (is_outside (state a.life) ≡ false) × (is_up (state a.life) ≡ false → has_give a.life ≡ true)
  is_ready = ready (state a.life) (has_give a.life) ok

  shows : Shows (taken a.life) (view a.setup a.life) next.before.reading
  shows = k.shown is_ready.0 next.before next.had

  skipped : IsSkipped ≡ became next.before.reading t.value → InRange (push (Skips t.slot t.value) (by_node take a))
  skipped h =
      passed (Skips t.slot t.value) (by_node take a) refl
      (moved (take a.node).node (by_node take a).sent a (record { me = next.me; horizon = next.horizon; reading = next.reading ∙ (ap Some (skipped_same next.before.reading t.value h) ∙ sym (ap reading_by next.had)) }) in_range logged k)

  module _ (p : ℕ) (b : Bool) (x : Becomes next.before.reading t.value p b) where
    abbrev entry : Entry
    entry = entry_of a.setup a.life t.slot p b t.value

    value : IsValue t.value
    value = next.value k.node

    now : (w : Turns) × ((take a.node).node.turns ≡ Some w) × (w.reading ≡ read next.before.reading t.value)
    now = turns_of (take a.node).node.turns (read next.before.reading t.value) next.reading

    place : (read next.before.reading t.value).place ≡ p
    place = read_place next.before.reading t.value x.kept ∙ sym x.place

    seats : incs (read next.before.reading t.value).members ≡ seated (view a.setup (Took (entry_of a.setup a.life t.slot p b t.value) ∷ a.life)).seats
    seats = subst (λ c. incs (read next.before.reading t.value).members ≡ seated (view a.setup (Took (entry_of a.setup a.life t.slot p c t.value) ∷ a.life)).seats) (sym x.effect)
        (entry_seats a.setup a.life next.before.reading shows.seats t.slot p t.value x.kept)

    holds : IsHolding (entry_of a.setup a.life t.slot p b t.value).holds
    holds = held_holding (open_parts a.life t.value.id.origin) t.value.id.number t.value.what value.what

    later : taken a.life + 1 ≤ p
    later = let q = shows.place in let z = x.place in omega (arith, q, z)

    below : p ≤ last_slot
    below =
        let l = logged now.0 now.1 in
        let c : (now.0).reading.place ≡ p = ap (λ (r : Reading). r.place) now.2 ∙ place in
        omega (arith, c, l.log.place, l.slot, l.next, in_range.next)

    shows_on : Shows p (view a.setup (Took (entry_of a.setup a.life t.slot p b t.value) ∷ a.life)) (read next.before.reading t.value)
    shows_on = record {
      place = place;
      seats = seats;
      view = next_is_view (taken a.life) p later t.value.id.origin (view a.setup a.life) shows.view t.value.id.number t.value.what (entry_of a.setup a.life t.slot p b t.value).holds (entry_of a.setup a.life t.slot p b t.value).effect value.what holds;
    }

    seated_now : AreSeated (view a.setup (Took (entry_of a.setup a.life t.slot p b t.value) ∷ a.life))
    seated_now =
        let l = (logged now.0 now.1).log in
        let e = ap (λ (r : Reading). incs r.members) now.2 ∙ seats in
        record { ascend = subst (λ is. Ascend None is) e l.members; few = subst (λ is. AreFew is) e l.few }

    took : InRange (push (Took (entry_of a.setup a.life t.slot p b t.value)) (by_node take a))
    took = record {
      setup = k.setup;
      joiner = k.joiner;
      contact = k.contact;
      me = next.me ∙ k.me;
      horizon = next.horizon ∙ k.horizon;
      node = in_range;
      log = logged;
      shown = λ q w h. subst (λ (r : Reading). Shows p (view a.setup (Took (entry_of a.setup a.life t.slot p b t.value) ∷ a.life)) r) (some_is (sym next.reading ∙ ap reading_by h)) shows_on;
      outside = λ h. absurd (cc (sym next.reading ∙ ap reading_by h));
      offline = λ h. absurd (cc (sym next.had ∙ k.offline h));
      before = λ h. absurd (cc (sym next.had ∙ k.offline h));
      welcomed = k.welcomed;
      waits = λ q w h. absurd (false≢true (sym q ∙ is_ready.2 ((k.waits q w h).0).down));
      life = (record { above = omega (arith, later); below = below; value = value; holds = holds; seats = seated_now }, k.life);
    }

  entered : (c : Kept) → c ≡ became next.before.reading t.value → InRange (entered_by t c (by_node take a))
  entered IsSkipped h = skipped h
  entered (KeptAt p b) h = took p b (becomes_at next.before.reading t.value p b h)

pub taken_in_range : (t : Taken) (more : List Taken) (a : Member) → (take a.node).took ≡ t ∷ more → takes_slots a.life ≡ true → InRange a → InRange (takes_on t a)
taken_in_range t more a h ok k = let next = takes_next a.node t more h in entered t a ok k next t.kept next.kept
