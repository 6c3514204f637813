-- The Welcome: what a member tells a joiner whose Add it has just taken, and how the joiner begins with it. (The project's own.)
use Rattle.std.specs.Prelude.{ℕ, Bool, true, false, ◌+◌, ◌&&◌, not, Option, Some, None, List, [], ◌∷◌, length, map, nat_lt, nat_le, ◌==◌, if◌then◌else◌, is_some}
use Rattle.std.specs.List.{list_any, list_all}
use Rattle.node_rules.specs.Names.{Inc, Ballot, MemberState, Online, Recovering, Mode, Single, Multi, Joiner, Member, TurnsAt, Welcome, WelcomeMember}
use Rattle.gr_ids.specs.Names.{inc_eq, ballot_lt, has_inc}
use Rattle.slot_values.specs.Log.{Turns}
use Rattle.slot_values.specs.Turns.{told as turns_at, resumed as turns_from}
use Rattle.node_rules.specs.Lists.{incs_eq, others}
use Rattle.node_rules.specs.Learner.{begin_at}
use Rattle.node_rules.specs.Node.{Node, Effect, quiet, told_from}
use Rattle.node_rules.specs.Voting.{promises}
pub use Rattle.node_rules.specs.declared.seat.Seat.{Seat}

-- ---- making one

-- what a Welcome tells of the view, which is no matter of the order
pub record Shown : Type 0 where
  pub number : ℕ
  pub mode : Mode
  pub primary : Option Inc
  pub elected : ℕ
  pub seat : Inc → Seat

abbrev pub welcome_of : Node → Turns → Shown → Welcome
welcome_of n w v =
    let x : TurnsAt = turns_at w in
    record {
      slot = x.slot;
      place = x.place;
      number = v.number;
      promise = n.acceptor.promise;
      mode = v.mode;
      primary = v.primary;
      elected = v.elected;
      members = map {A = Member} (λ m. record { joiner = record (v.seat m.inc).joiner { inc = m.inc }; state = (v.seat m.inc).state; last = m.last }) x.last;
      ever = x.ever;
      configs = x.configs;
    }

-- ---- a Welcome in order

-- strictly ascending, and of distinct servers
abbrev pub ascends : List Inc → Bool
ascends [] = true
ascends (i ∷ []) = true
ascends (i ∷ j ∷ is) = nat_lt i.server j.server && ascends (j ∷ is)

-- what the members after a slot are: 1 to 9, ascending
abbrev pub is_config : List Inc → Bool
is_config c = ascends c && (nat_lt 0 (length c) && nat_le (length c) 9)

abbrev pub last_config : List (List Inc) → List Inc
last_config [] = []
last_config (c ∷ []) = c
last_config (c ∷ d ∷ cs) = last_config (d ∷ cs)

abbrev pub is_online : MemberState → Bool
is_online Online = true
is_online _ = false

abbrev pub is_recovering : MemberState → Bool
is_recovering Recovering = true
is_recovering _ = false

abbrev pub is_single : Mode → Bool
is_single Single = true
is_single Multi = false

-- a primary is named in mode single alone, and is ONLINE among the members
abbrev pub fits_primary : Welcome → Option Inc → Bool
fits_primary x None = true
fits_primary x (Some i) = is_single x.mode && list_any {X = WelcomeMember} (λ m. inc_eq m.joiner.inc i && is_online m.state) x.members

abbrev pub incs_in : Welcome → List Inc
incs_in x = map {A = WelcomeMember} (λ m. m.joiner.inc) x.members

-- a Welcome that fits together
abbrev pub is_in_order : Welcome → Bool
is_in_order x =
    (list_all is_config x.configs && incs_eq (incs_in x) (last_config x.configs))
    && (list_all (has_inc x.ever) (incs_in x) && fits_primary x x.primary)

-- as many configurations as the horizon, and this incarnation RECOVERING among the members
abbrev pub is_for : Welcome → Inc → ℕ → Bool
is_for x me h = (length x.configs == h) && list_any {X = WelcomeMember} (λ m. inc_eq m.joiner.inc me && is_recovering m.state) x.members

-- ---- beginning with one

-- what it tells of the log
abbrev pub told_in : Welcome → TurnsAt
told_in x = record { slot = x.slot; place = x.place; last = map {A = WelcomeMember} (λ m. record { inc = m.joiner.inc; last = m.last }) x.members; ever = x.ever; configs = x.configs }

abbrev pub higher_ballot : Ballot → Ballot → Ballot
higher_ballot a b = if ballot_lt a b then b else a

-- The promise becomes the greater of the two, so that none that was given is broken. The slots after the Add's are taken.
abbrev pub welcomed : Node → Welcome → Node
welcomed n x = record (promises n (higher_ballot n.acceptor.promise x.promise)) {
  learner = begin_at n.learner (x.slot + 1);
  turns = Some (turns_from (told_in x));
  told = told_from (x.slot + 1) (others n.me (incs_in x));
}

-- the first Welcome in order counts
unfoldable pub hear_welcome : Welcome → Node → Effect
hear_welcome x n = if not (is_some n.turns) && (is_in_order x && is_for x n.me n.horizon) then quiet (welcomed n x) else quiet n
