-- What a member keeps of its own values, its ticks and its own Online entry, and how that stands for its history.
use Rattle.std.specs.Prelude.{◌≡◌, ◌&&◌, if◌then◌else◌, ℕ, suc, Bool, true, false, Option, Some, None}
use Rattle.std.specs.List.{list_any}
use Rattle.gr_ids.specs.Names.{inc_eq}
use Rattle.gr_ids.specs.declared.names.Inc.{Inc}
use Rattle.group_rules.specs.Events.{Came, Did, Entry, Life, Made, Ticks, Took}
use Rattle.group_rules.specs.Life.{is_arrival, last_made, made, online_place, ticks}

-- the number of its last own value, whether one of them is an Online entry, its ticks, and the place at which it took its Online entry
pub record Kept : Type 0 where
  pub made : ℕ
  pub arrived : Bool
  pub ticks : ℕ
  pub online : Option ℕ

abbrev pub nothing_kept : Kept
nothing_kept = record { made = 0; arrived = false; ticks = 0; online = None }

-- an own value with this number, an Online entry or another one
abbrev pub with_value : ℕ → Bool → Kept → Kept
with_value n arrives k = record k { made = n; arrived = if arrives then true else k.arrived }

abbrev pub with_tick : Kept → Kept
with_tick k = record k { ticks = suc k.ticks }

-- an entry is taken at this place: the own Online entry, or another one
abbrev pub with_place : ℕ → Bool → Kept → Kept
with_place p arrives k = record k { online = if arrives then Some p else k.online }

abbrev pub is_own_arrival : Inc → Entry → Bool
is_own_arrival me e = inc_eq e.value.id.origin me && is_arrival e.holds

-- it is what the rules read from the history
pub record Keeps (me : Inc) (l : Life) (k : Kept) : Type 0 where
  pub number : k.made ≡ last_made l
  pub arrival : k.arrived ≡ list_any is_arrival (made l)
  pub count : k.ticks ≡ ticks l
  pub place : k.online ≡ online_place l me

-- an own value, a tick and an entry change it
abbrev pub is_of_own : Did → Bool
is_of_own (Made v b) = true
is_of_own (Took e) = true
is_of_own (Came Ticks) = true
is_of_own d = false
