-- A member begins in range: a founder, and an incarnation that is to join.
use Rattle.std.proofs.Common.{◌≡◌, inl, inr, ◌<◌, Option, Some, None, List, [], ◌∷◌, refl, sym, ap, subst, ◌∙◌, arith, length}
use Rattle.std.specs.Prelude.{map}
use Rattle.std.proofs.lemmas.Bool.{false≢true}
use Rattle.std.proofs.lemmas.List.{length-map}
use Rattle.byte_forms.specs.Lists.{IsChain}
use Rattle.gr_ids.specs.declared.names.Inc.{Inc}
use Rattle.gr_ids.specs.declared.levels.MemberState.TheVariants.{Online}
use Rattle.name_forms.specs.Incs.{IsInc}
use Rattle.slot_values.specs.Joiners.{IsJoiner}
use Rattle.slot_values.specs.Log.{Turns, first_turns, founded, incs}
use Rattle.slot_values.specs.declared.value.Joiner.{Joiner}
use Rattle.slot_values.proofs.Effects.{incs_of_founders}
use Rattle.node_rules.specs.Lists.{In}
use Rattle.node_rules.specs.Node.{founder}
use Rattle.node_rules.specs.declared.seat.Seat.{Seat}
use Rattle.paxos_ranges.proofs.Rows.{founder_in_range, joiner_in_range}
use Rattle.group_rules.specs.Events.{Setup, Stored}
use Rattle.group_rules.specs.Steps.{found, group_of, start}
use Rattle.group_rules.specs.View.{founding, seated}
use Rattle.member_ranges.specs.Lives.{AreGivable}
use Rattle.member_ranges.specs.Logs.{AreFew, HasLog}
use Rattle.member_ranges.specs.Ranges.{InRange, IsFounderAfter, IsFounding, Shows, inc_of_joiner}
use Rattle.member_ranges.proofs.Chains.{Ascend, ascend_incs}
use Rattle.member_ranges.proofs.Logs.{log_first}
use Rattle.member_ranges.proofs.Seats.{founding_seats, settled_seats}
use Rattle.member_ranges.proofs.Views.{after_none, founding_is_view}

founders_ascend : (js : List Joiner) (b : Option Joiner) → IsChain IsFounderAfter b js → Ascend (inc_of_joiner b) (map {A = Joiner} (λ j. j.inc) js)
founders_ascend [] b k = tt
founders_ascend (j ∷ js) b k = ((k.0).inc, founders_ascend js (Some j) k.1)

founder_joiner : (js : List Joiner) (b : Option Joiner) → IsChain IsFounderAfter b js → (j : Joiner) → In j js → IsJoiner j
founder_joiner [] b k j h = absurd h
founder_joiner (x ∷ xs) b k j (inl e) = subst (λ y. IsJoiner y) e (after_none (inc_of_joiner b) x k.0)
founder_joiner (x ∷ xs) b k j (inr q) = founder_joiner xs (Some x) k.1 j q

module _ (s : Setup) (good : IsFounding s) where
  ascend : Ascend None (group_of s).founders
  ascend = founders_ascend s.founders None good.founders

  few : AreFew (group_of s).founders
  few = let n = length-map s.founders (λ (j : Joiner). j.inc) in let m = good.few in omega (arith, n, m)

  some : 0 < length (group_of s).founders
  some = let n = length-map s.founders (λ (j : Joiner). j.inc) in let m = good.some in omega (arith, n, m)

  first_seats : incs (founded (group_of s)).members ≡ seated (founding s.mode s.founders).seats
  first_seats = incs_of_founders (group_of s).founders
      ∙ (founding_seats s.founders ∙ sym (ap seated (settled_seats 0 (record { number = 1; mode = s.mode; primary = None; elected = 0; seats = map {A = Joiner} {B = Seat} (λ j. record { joiner = j; state = Online }) s.founders }))))

  pub founded_in_range : (j : Joiner) → In j s.founders → InRange (found s j)
  unfolding found
  founded_in_range j h =
      let i : IsJoiner j = founder_joiner s.founders None good.founders j h in
      record {
        setup = good;
        joiner = i;
        contact = i.inc;
        me = refl;
        horizon = refl;
        node = founder_in_range (group_of s) j.inc i.inc some (ascend_incs (group_of s).founders None ascend);
        log = λ w e. let z : first_turns (group_of s) ≡ w = cc in subst (λ (v : Turns). HasLog (founder (group_of s) j.inc) v) z (record { round = omega arith; slot = refl; next = omega arith; log = log_first (group_of s) ascend few });
        shown = λ q w e. let z : first_turns (group_of s) ≡ w = cc in subst (λ (v : Turns). Shows 0 (founding s.mode s.founders) v.reading) z (record { place = refl; seats = first_seats; view = founding_is_view s.mode s.founders good.founders });
        outside = λ e. absurd (cc e);
        offline = λ e. absurd (false≢true e);
        before = λ e. absurd (false≢true e);
        welcomed = λ e. absurd (false≢true e);
        waits = λ q w e. absurd (cc e);
        life = (tt, (tt, tt));
      }

  pub started_in_range : (j : Joiner) (x : Stored) (i : Inc) → IsJoiner j → IsInc i → AreGivable x.committed → InRange (start s j x i)
  unfolding start
  started_in_range j x i g c y = record {
    setup = good;
    joiner = g;
    contact = c;
    me = refl;
    horizon = refl;
    node = joiner_in_range (group_of s) j.inc g.inc;
    log = λ w e. absurd (cc e);
    shown = λ q w e. absurd (cc e);
    outside = λ e. refl;
    offline = λ e. refl;
    before = λ e. (refl, record { certified = refl; untaken = λ p. refl; undone = λ p. refl; uncommitted = λ cs. refl });
    welcomed = λ e. absurd (false≢true e);
    waits = λ q w e. absurd (cc e);
    life = (tt, ((y, refl), tt));
  }
