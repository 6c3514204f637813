-- What a member tells a joiner, and what it asks.
use Rattle.std.proofs.Common.{◌≡◌, inl, inr, ℕ, ◌-◌, ◌≤◌, Bool, true, false, ◌||◌, ◌&&◌, Option, Some, None, List, [], ◌∷◌, refl, sym, ap, subst, ◌∙◌, arith, length}
use Rattle.std.specs.Prelude.{drop, map}
use Rattle.std.specs.List.{AllByRecursion, list_all, list_any}
use Rattle.std.proofs.lemmas.Bool.{false≢true}
use Rattle.std.proofs.lemmas.List.{length-drop, length-map}
use Rattle.byte_forms.specs.Lists.{IsChain}
use Rattle.gr_ids.specs.Names.{inc_eq}
use Rattle.gr_ids.specs.declared.names.Ballot.{Ballot}
use Rattle.gr_ids.specs.declared.names.Inc.{Inc}
use Rattle.name_forms.specs.Ballots.{IsBallot}
use Rattle.name_forms.specs.Incs.{IsInc}
use Rattle.gtid_sets.specs.Canonical.{IsCanonical}
use Rattle.slot_values.specs.Log.{Turns, incs}
use Rattle.slot_values.specs.Spelling.{IsValue, last_u32}
use Rattle.slot_values.specs.declared.member.Member.{Member as LogMember}
use Rattle.paxos_forms.specs.Messages.{IsWire}
use Rattle.paxos_forms.specs.Welcomes.{IsConfig, IsMemberAfter, IsWelcome, inc_before}
use Rattle.paxos_forms.specs.declared.welcome.WelcomeMember.{WelcomeMember}
use Rattle.node_rules.proofs.Incs.{inc_same}
use Rattle.node_rules.specs.Lists.{In}
use Rattle.node_rules.specs.Welcoming.{welcome_of}
use Rattle.node_rules.specs.declared.seat.Seat.{Seat}
use Rattle.paxos_ranges.specs.Ranges.{IsPromise}
use Rattle.group_rules.specs.Life.{executed, is_error, is_recovering, state, taken, view}
use Rattle.group_rules.specs.Member.{Member}
use Rattle.group_rules.specs.Recovery.{add_place, ask_wire}
use Rattle.group_rules.specs.Steps.{add_of}
use Rattle.group_rules.specs.View.{View, is_seated, seat_in, seated, shown}
use Rattle.member_ranges.specs.Logs.{HasLog}
use Rattle.member_ranges.specs.Ranges.{InRange, IsSeat, Shows}
use Rattle.member_ranges.proofs.Chains.{Ascend}
use Rattle.member_ranges.proofs.Logs.{in_drop}

-- ---- lists

pub all_of : {A : Type 0} (P : A → Type 0) (xs : List A) → ((x : A) → In x xs → P x) → AllByRecursion P xs
all_of P [] f = tt
all_of P (x ∷ xs) f = (f x (inl refl), all_of P xs (λ y q. f y (inr q)))

list_all_of : {A : Type 0} (p : A → Bool) (xs : List A) → ((x : A) → In x xs → p x ≡ true) → list_all p xs ≡ true
list_all_of p [] f = refl
list_all_of p (x ∷ xs) f = ap (λ (b : Bool). b && list_all p xs) (f x (inl refl)) ∙ list_all_of p xs (λ y q. f y (inr q))

-- ---- seats

or_true : (a b : Bool) → b ≡ true → (a || b) ≡ true
or_true true b h = refl
or_true false b h = h

seat_there : (ss : List Seat) (i : Inc) → In i (seated ss) → list_any (λ s. inc_eq s.joiner.inc i) ss ≡ true
seat_there [] i h = absurd h
seat_there (s ∷ ss) i (inl e) = ap (λ (b : Bool). b || list_any (λ s. inc_eq s.joiner.inc i) ss) (subst (λ (j : Inc). inc_eq s.joiner.inc j ≡ true) e (inc_same s.joiner.inc))
seat_there (s ∷ ss) i (inr q) = or_true (inc_eq s.joiner.inc i) _ (seat_there ss i q)

pub all_seated : (a : Member) (w : Turns) → InRange a → is_error (state a.life) ≡ false → a.node.turns ≡ Some w → list_all (is_seated (view a.setup a.life)) (incs w.reading.members) ≡ true
all_seated a w k e h =
    let v : View = view a.setup a.life in
    let s = (k.shown e w h).seats in
    list_all_of (is_seated v) (incs w.reading.members) (λ i q. seat_there v.seats i (subst (λ is. In i is) s q))

seat_is : (ss : List Seat) (i : Inc) → ((s : Seat) → In s ss → IsSeat s) → In i (seated ss) → IsSeat (seat_in ss i)
seat_is [] i f h = absurd h
seat_is (s ∷ ss) i f h = go (inc_eq s.joiner.inc i) refl h (seat_is ss i (λ x q. f x (inr q)))
  where
    go : (b : Bool) → inc_eq s.joiner.inc i ≡ b → In i (seated (s ∷ ss)) → (In i (seated ss) → IsSeat (seat_in ss i)) → IsSeat (seat_in (s ∷ ss) i)
    go true e q r = rw (e, seat_in) (f s (inl refl))
    go false e (inl q) r = absurd (false≢true (sym e ∙ subst (λ (j : Inc). inc_eq s.joiner.inc j ≡ true) q (inc_same s.joiner.inc)))
    go false e (inr q) r = rw (e, seat_in) (r q)

-- ---- the members that it tells

abbrev told_member : List Seat → LogMember → WelcomeMember
told_member ss m = record { joiner = record (seat_in ss m.inc).joiner { inc = m.inc }; state = (seat_in ss m.inc).state; last = m.last }

told_chain : (ss : List Seat) (p : ℕ) (ms : List LogMember) (b : Option WelcomeMember) → Ascend (inc_before b) (incs ms) → ((m : LogMember) → In m ms → IsSeat (seat_in ss m.inc) × (m.last ≤ p))
    → IsChain (IsMemberAfter p) b (map (told_member ss) ms)
told_chain ss p [] b up f = tt
told_chain ss p (m ∷ ms) b up f =
    let k = f m (inl refl) in
    let j = (k.0).0 in (
      record { joiner = record { inc = up.0; uuid = j.uuid; parts = j.parts; small = j.small; weight = j.weight }; state = (k.0).1; last = k.1 },
      told_chain ss p ms (Some (told_member ss m)) up.1 (λ x q. f x (inr q)),
    )

in_incs : (ms : List LogMember) (m : LogMember) → In m ms → In m.inc (incs ms)
in_incs [] m h = absurd h
in_incs (x ∷ xs) m (inl e) = inl (ap (λ (y : LogMember). y.inc) e)
in_incs (x ∷ xs) m (inr q) = inr (in_incs xs m q)

ballot_of : (b : Ballot) → IsPromise b → 1 ≤ b.round → IsBallot b
ballot_of b (inl e) h = absurd (omega (arith, e, h))
ballot_of b (inr k) h = k

module _ (a : Member) (w : Turns) (k : InRange a) (well : is_error (state a.life) ≡ false) (h : a.node.turns ≡ Some w) where
  abbrev v : View
  v = view a.setup a.life

  shows : Shows (taken a.life) (view a.setup a.life) w.reading
  shows = k.shown well w h

  has : HasLog a.node w
  has = k.log w h

  member_known : (m : LogMember) → In m w.reading.members → IsSeat (seat_in (view a.setup a.life).seats m.inc) × (m.last ≤ w.reading.place)
  member_known m q = (seat_is (view a.setup a.life).seats m.inc shows.view.seats (subst (λ is. In m.inc is) shows.seats (in_incs w.reading.members m q)), has.log.lasts m q)

  config_known : (c : _) → In c (drop (w.slot - w.base) w.configs) → IsConfig c
  config_known c q =
      let z = in_drop (w.slot - w.base) w.configs c q in
      let n = has.log.configs c z in
      (all_of IsInc c (((k.node.turns w h).1).configs c z), omega (arith, n))

  pub welcome_is : 1 ≤ taken a.life → length w.reading.ever ≤ last_u32 → IsWelcome (welcome_of a.node w (shown (view a.setup a.life)))
  welcome_is some few =
      let p = shows.place in
      let l = has.log in
      let s = has.slot in
      let n = k.node.next in
      let z = k.horizon in
      let y = k.setup.horizon_below in
      let d = length-drop (w.slot - w.base) w.configs in
      let c = length-map w.reading.members (told_member (view a.setup a.life).seats) in
      let i = length-map w.reading.members (λ (m : LogMember). m.inc) in
      record {
        slot_above = omega (arith, p, some, l.place);
        slot_below = omega (arith, s, has.next, n);
        place_above = omega (arith, p, some);
        place_below = l.place;
        number_above = shows.view.number_above;
        number_below = omega (arith, p, shows.view.number_below);
        promise = ballot_of a.node.acceptor.promise k.node.promise has.round;
        primary = shows.view.primary;
        elected = omega (arith, p, shows.view.elected);
        members = told_chain (view a.setup a.life).seats w.reading.place w.reading.members None l.members member_known;
        few_members = omega (arith, c, i, l.few);
        ever = l.ever;
        few_ever = few;
        configs = all_of IsConfig (drop (w.slot - w.base) w.configs) config_known;
        few_configs = omega (arith, d, l.reaches, l.base, z, y);
      }

-- ---- the ask, and the Add

pub ask_is : (a : Member) → InRange a → is_recovering (state a.life) ≡ true → IsCanonical (executed a.life) → IsWire (ask_wire a)
ask_is a k r c =
    let w = k.welcomed r in
    let p = ap add_place w.1 in
    record { place_above = omega (arith, p, w.2.place_above); place_below = omega (arith, p, w.2.place_below, w.2.slot_below); executed = c }

pub add_is : (a : Member) → InRange a → IsValue (add_of a.me)
add_is a k = record { id = record { origin = k.joiner.inc; number_below = omega arith }; what = k.joiner }
