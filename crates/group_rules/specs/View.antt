-- The view: the members and their states, the mode and the primary, as the entries make them.
-- (MySQL 8.0 Reference Manual: Group Replication, Group Membership; Single-Primary Mode, Primary Election Algorithm; Changing a Group's Mode.)
use Rattle.std.specs.Prelude.{ℕ, ◌+◌, Bool, true, false, ◌&&◌, not, Option, Some, None, List, [], ◌∷◌, nat_lt, ◌==◌, if◌then◌else◌, filter, map}
use Rattle.std.specs.List.{list_any}
use Rattle.gr_ids.specs.Names.{inc_eq, inc_lt, is_inc, bytes_eq, bytes_lt}
pub use Rattle.node_rules.specs.declared.seat.Seat.{Seat}
use Rattle.node_rules.specs.Welcoming.{Shown}
use Rattle.group_rules.specs.Names.{Inc, MemberState, Online, Recovering, Mode, Single, Multi, Joiner, What, Add, Remove, ToMulti, ToSingle, Body, Arrives, Switches, Appoints, Effect, Plain, Void, Unread}

-- A member has a seat, with its state: ONLINE or RECOVERING. The number is 1 and the Adds and Removes that took effect. `elected` is the place at which the primary became primary, 0 where there is none.
-- The seats stand by ascending incarnation.
pub record View : Type 0 where
  pub number : ℕ
  pub mode : Mode
  pub primary : Option Inc
  pub elected : ℕ
  pub seats : List Seat

-- that of a joiner which was never welcomed
abbrev pub no_view : View
no_view = record { number = 0; mode = Multi; primary = None; elected = 0; seats = [] }

abbrev pub is_online_state : MemberState → Bool
is_online_state Online = true
is_online_state _ = false

abbrev pub is_single : Mode → Bool
is_single Single = true
is_single Multi = false

abbrev pub joiners : List Seat → List Joiner
joiners ss = map (λ s. s.joiner) ss

abbrev pub seated : List Seat → List Inc
seated ss = map (λ s. s.joiner.inc) ss

abbrev pub online_seats : View → List Seat
online_seats v = filter (λ s. is_online_state s.state) v.seats

abbrev pub online_incs : View → List Inc
online_incs v = seated (online_seats v)

abbrev pub is_seated : View → Inc → Bool
is_seated v i = list_any (λ s. inc_eq s.joiner.inc i) v.seats

abbrev pub is_online : View → Inc → Bool
is_online v i = list_any (λ s. inc_eq s.joiner.inc i && is_online_state s.state) v.seats

-- ---- what a Welcome tells of the view

-- (it is asked for members alone)
abbrev pub no_seat : Inc → Seat
no_seat i = record { joiner = record { inc = i; uuid = []; version = []; weight = 0 }; state = Recovering }

abbrev pub seat_in : List Seat → Inc → Seat
seat_in [] i = no_seat i
seat_in (s ∷ ss) i = elim (inc_eq s.joiner.inc i) [ true ↦ s | false ↦ seat_in ss i ]

abbrev pub shown : View → Shown
shown v = record { number = v.number; mode = v.mode; primary = v.primary; elected = v.elected; seat = seat_in v.seats }

-- ---- election

-- lowest version, then highest weight, then lowest UUID, then least incarnation (a version is ordered as its numbers are, one after another)
abbrev pub goes_first : Joiner → Joiner → Bool
goes_first a b =
    elim (bytes_eq a.version b.version) [
      | false ↦ bytes_lt a.version b.version
      | true ↦ elim (a.weight == b.weight) [
        | false ↦ nat_lt b.weight a.weight
        | true ↦ elim (bytes_eq a.uuid b.uuid) [ false ↦ bytes_lt a.uuid b.uuid | true ↦ inc_lt a.inc b.inc ]
      ]
    ]

abbrev pub first_of_two : Joiner → Option Joiner → Option Joiner
first_of_two a None = Some a
first_of_two a (Some b) = if goes_first a b then Some a else Some b

-- the first of the candidates
abbrev pub elect : List Joiner → Option Joiner
elect [] = None
elect (j ∷ js) = first_of_two j (elect js)

-- at place p the candidate becomes primary
abbrev pub with_primary : ℕ → Option Joiner → View → View
with_primary p None v = record v { primary = None; elected = 0 }
with_primary p (Some j) v = record v { primary = Some j.inc; elected = p }

abbrev pub has_primary : View → Option Inc → Bool
has_primary v None = false
has_primary v (Some i) = is_seated v i

-- in single-primary mode there is an election among the ONLINE members where no member is primary
abbrev pub settled : ℕ → View → View
settled p v = elim (is_single v.mode && not (has_primary v v.primary)) [ true ↦ with_primary p (elect (joiners (online_seats v))) v | false ↦ v ]

-- the founders are ONLINE, and the first primary is elected among them at place 0
abbrev pub founding : Mode → List Joiner → View
founding m js = settled 0 (record { number = 1; mode = m; primary = None; elected = 0; seats = map (λ j. record { joiner = j; state = Online }) js })

-- ---- what an entry does

abbrev pub void_if : Bool → Effect
void_if true = Void
void_if false = Plain

-- A mode entry is void in that mode; a primary entry is void in multi-primary mode, and where it doesn't name an ONLINE member that isn't the primary.
abbrev pub is_idle : View → Body → Bool
is_idle v (Switches ToMulti) = not (is_single v.mode)
is_idle v (Switches (ToSingle o)) = is_single v.mode
is_idle v (Appoints i) = not (is_single v.mode && (is_online v i && not (is_inc v.primary i)))
is_idle v _ = false

-- The effect of an entry that holds no transaction. Whether an Add or a Remove has effect is known from the kept list; a body that isn't in the grammar is unread.
abbrev pub effect_in : View → Bool → What → Option Body → Effect
effect_in v has_effect (Add j) x = void_if (not has_effect)
effect_in v has_effect (Remove i) x = void_if (not has_effect)
effect_in v has_effect _ None = Unread
effect_in v has_effect _ (Some b) = void_if (is_idle v b)

-- ---- one entry more

abbrev pub with_seat : List Seat → Seat → List Seat
with_seat [] s = s ∷ []
with_seat (x ∷ xs) s = elim (inc_lt s.joiner.inc x.joiner.inc) [ true ↦ s ∷ x ∷ xs | false ↦ x ∷ with_seat xs s ]

abbrev pub comes_online : List Seat → Inc → List Seat
comes_online ss i = map {A = Seat} (λ s. elim (inc_eq s.joiner.inc i) [ true ↦ record s { state = Online } | false ↦ s ]) ss

-- the ONLINE member named becomes primary, or else there is an election
abbrev pub with_named : ℕ → Option Inc → View → View
with_named p None v = v
with_named p (Some i) v = if is_online v i then record v { primary = Some i; elected = p } else v

-- an entry that takes effect at place p, from this origin
abbrev pub changed_view : ℕ → Inc → What → Option Body → View → View
changed_view p o (Add j) x v = record v { number = v.number + 1; seats = with_seat v.seats (record { joiner = j; state = Recovering }) }
changed_view p o (Remove i) x v = record v { number = v.number + 1; seats = filter (λ s. not (inc_eq s.joiner.inc i)) v.seats }
changed_view p o w (Some (Arrives set)) v = record v { seats = comes_online v.seats o }
changed_view p o w (Some (Switches ToMulti)) v = record v { mode = Multi; primary = None; elected = 0 }
changed_view p o w (Some (Switches (ToSingle i))) v = with_named p i (record v { mode = Single; primary = None })
changed_view p o w (Some (Appoints i)) v = record v { primary = Some i; elected = p }
changed_view p o w x v = v

abbrev pub next_view : ℕ → Inc → What → Option Body → Effect → View → View
next_view p o w x Plain v = settled p (changed_view p o w x v)
next_view p o w x e v = settled p v
