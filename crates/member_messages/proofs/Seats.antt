-- Seats that are found.
use Rattle.std.proofs.Common.{◌≡◌, Bool, true, false, Option, Some, None, List, [], ◌∷◌, zero, suc, refl, ap, ◌∙◌, arith}
use Rattle.std.proofs.lemmas.Bool.{and_parts}
use Rattle.std.specs.List.{All, list_all}
use Rattle.std.specs.Option.{unwrap_or}
use Rattle.slot_values.specs.declared.member.Member.{Member}
use Rattle.slot_values.specs.Log.{incs}
use Rattle.std.specs.Prelude.{find}
use Rattle.gr_ids.specs.declared.names.Inc.{Inc}
use Rattle.gr_ids.specs.Names.{inc_eq}
use Rattle.node_rules.specs.declared.seat.Seat.{Seat}
use Rattle.group_rules.specs.View.{seat_in}
use Rattle.member_messages.specs.Greeting.{is_in_seats}

abbrev pub seat_found : List Seat → Inc → Option Seat
seat_found ss i = find (λ s. inc_eq s.joiner.inc i) ss

pub found : (ss : List Seat) (i : Inc) → is_in_seats ss i ≡ true → seat_found ss i ≡ Some (seat_in ss i)
found [] i h = absurd cc
found (s ∷ ss) i h = go (inc_eq s.joiner.inc i) refl h (found ss i)
  where
    go : (b : Bool) → inc_eq s.joiner.inc i ≡ b → is_in_seats (s ∷ ss) i ≡ true → (is_in_seats ss i ≡ true → seat_found ss i ≡ Some (seat_in ss i)) → seat_found (s ∷ ss) i ≡ Some (seat_in (s ∷ ss) i)
    go true e h r = rw (e, seat_in) refl
    go false e h r = rw (e, seat_in) (r (rw e at h))

-- the seat that was found
pub is_seat : (ss : List Seat) (i : Inc) (s : Seat) → is_in_seats ss i ≡ true → Some s ≡ seat_found ss i → s ≡ seat_in ss i
is_seat ss i s h e = the_same s (seat_in ss i) (e ∙ found ss i h)
  where
    the_same : (a b : Seat) → Some a ≡ Some b → a ≡ b
    the_same a b p = ap (λ o. unwrap_or o a) p

pub is_there : (ss : List Seat) (i : Inc) → is_in_seats ss i ≡ true → None ≡ seat_found ss i → ⊥
is_there ss i h e = absurd (none_some (e ∙ found ss i h))
  where
    none_some : None ≡ Some (seat_in ss i) → ⊥
    none_some p = cc

pub all_seated : (ss : List Seat) (ms : List Member) → list_all (is_in_seats ss) (incs ms) ≡ true → All (λ m. is_in_seats ss m.inc ≡ true) ms
all_seated ss [] h k d l = absurd (omega (arith, l))
all_seated ss (m ∷ ms) h zero d l = (and_parts (is_in_seats ss m.inc) (list_all (is_in_seats ss) (incs ms)) h).0
all_seated ss (m ∷ ms) h (suc k) d l = all_seated ss ms (and_parts (is_in_seats ss m.inc) (list_all (is_in_seats ss) (incs ms)) h).1 k d (omega (arith, l))
