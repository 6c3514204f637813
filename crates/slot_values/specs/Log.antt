-- The kept list of a log, its members, and the configurations behind the horizon.
-- (Reconfiguration of a replicated state machine by its own commands: Lamport, Malkhi, Zhou, "Reconfiguring a State Machine".)
use Rattle.std.specs.Prelude.{ℕ, Bool, true, ◌+◌, ◌-◌, ◌*◌, ◌&&◌, not, Option, None, List, [], ◌∷◌, ◌++◌, map, filter, fold, count_by, length, take, drop, replicate, slice_get, nat_lt, ◌==◌, if◌then◌else◌}
use Rattle.std.specs.List.{list_any}
use Rattle.gr_ids.specs.declared.names.Inc.{Inc}
use Rattle.gr_ids.specs.Names.{inc_eq, inc_lt, has_inc}
use Rattle.slot_values.specs.Values.{Value, What, Add, Remove, is_noop}
pub use Rattle.slot_values.specs.declared.member.Member.{Member}
pub use Rattle.slot_values.specs.declared.kept.Kept.{Kept}
pub use Rattle.slot_values.specs.declared.kept.Kept.TheVariants.{At, Skipped}

-- What reading a log leaves: the number of kept values, the members, ascending, every incarnation that ever was one, ascending,
-- and the removed members with their last kept numbers, the latest first.
pub record Reading : Type 0 where
  pub place : ℕ
  pub members : List Member
  pub ever : List Inc
  pub former : List Member

abbrev pub incs : List Member → List Inc
incs ms = map (λ m. m.inc) ms

-- the origin is a member, and the number is one more than its last kept one
abbrev pub is_next : List Member → Inc → ℕ → Bool
is_next ms i n = list_any (λ m. inc_eq m.inc i && (n == m.last + 1)) ms

abbrev pub is_kept : Reading → Value → Bool
is_kept r v = not (is_noop v.what) && is_next r.members v.id.origin v.id.number

abbrev pub counted : List Member → Inc → ℕ → List Member
counted ms i n = map (λ m. record { inc = m.inc; last = if inc_eq m.inc i then n else m.last }) ms

abbrev pub is_member : List Member → Inc → Bool
is_member ms i = list_any (λ m. inc_eq m.inc i) ms

abbrev pub has_server : List Member → ℕ → Bool
has_server ms s = list_any (λ m. m.inc.server == s) ms

abbrev pub with_member : List Member → Inc → List Member
with_member [] i = record { inc = i; last = 0 } ∷ []
with_member (m ∷ ms) i = if inc_lt i m.inc then record { inc = i; last = 0 } ∷ m ∷ ms else m ∷ with_member ms i

abbrev pub without : List Member → Inc → List Member
without ms i = filter (λ m. not (inc_eq m.inc i)) ms

-- an incarnation put into an ascending list, once
abbrev pub with_inc : List Inc → Inc → List Inc
with_inc [] i = i ∷ []
with_inc (x ∷ xs) i = if inc_lt i x then i ∷ x ∷ xs else (if inc_eq i x then x ∷ xs else x ∷ with_inc xs i)

-- An Add takes effect where fewer than 9 are members, its server has none, and its incarnation never was one;
-- a Remove where its incarnation is a member and not the only one. No other value changes the members.
abbrev pub has_effect : Reading → What → Bool
has_effect r (Add j) = (nat_lt (length r.members) 9 && not (has_server r.members j.inc.server)) && not (has_inc r.ever j.inc)
has_effect r (Remove i) = is_member r.members i && nat_lt 1 (length r.members)
has_effect r _ = true

abbrev pub changed : Reading → What → Reading
changed r (Add j) = record r { members = with_member r.members j.inc; ever = with_inc r.ever j.inc }
changed r (Remove i) = record r { members = without r.members i; former = filter (λ m. inc_eq m.inc i) r.members ++ r.former }
changed r _ = r

abbrev pub kept : Reading → Value → Reading
kept r v = record r { place = r.place + 1; members = counted r.members v.id.origin v.id.number }

-- the log read on by one value
unfoldable pub read : Reading → Value → Reading
read r v = if is_kept r v then (if has_effect r v.what then changed (kept r v) v.what else kept r v) else r

-- what the value becomes: kept at the next place, with effect or not, or skipped
abbrev pub became : Reading → Value → Kept
became r v = if is_kept r v then At (r.place + 1) (has_effect r v.what) else Skipped

-- a group is founded by its first members, with a horizon
pub record Group : Type 0 where
  pub founders : List Inc
  pub horizon : ℕ

abbrev pub founded : Group → Reading
founded g = record { place = 0; members = map (λ i. record { inc = i; last = 0 }) g.founders; ever = g.founders; former = [] }

-- what a whole log leaves; the value of slot 1 stands first
abbrev pub after : Group → List Value → Reading
after g log = fold read (founded g) log

-- the members after slots 1 to t - H, and the founders for t at most H
abbrev pub config : Group → List Value → ℕ → List Inc
config g log t = incs (after g (take (t - g.horizon) log)).members

-- more than half of these pass
abbrev pub majority : List Inc → (Inc → Bool) → Bool
majority c p = nat_lt (length c) (2 * count_by p c)

-- the last kept number of a member, and 0 for any other
abbrev pub last_in : List Member → Inc → ℕ
last_in [] i = 0
last_in (m ∷ ms) i = if inc_eq m.inc i then m.last else last_in ms i

-- the last kept number of a member, or of one that was removed
abbrev pub last_of : Reading → Inc → ℕ
last_of r i = last_in (r.members ++ r.former) i

-- ---- one slot taken after another

-- It has taken the slots to `slot`, and knows the configurations of the slots after `base`, to slot + H.
pub record Turns : Type 0 where
  pub slot : ℕ
  pub reading : Reading
  pub base : ℕ
  pub configs : List (List Inc)

abbrev pub first_turns : Group → Turns
first_turns g = record { slot = 0; reading = founded g; base = 0; configs = replicate g.horizon g.founders }

-- the next slot taken
unfoldable pub turn : Turns → Value → Turns
turn w v = record { slot = w.slot + 1; reading = read w.reading v; base = w.base; configs = w.configs ++ incs (read w.reading v).members ∷ [] }

abbrev pub config_of : Turns → ℕ → Option (List Inc)
config_of w t = if nat_lt w.base t then slice_get w.configs (t - (w.base + 1)) else None

-- the configurations of slots below k are forgotten
abbrev pub forget_configs : ℕ → Turns → Turns
forget_configs k w = let d : ℕ = k - (w.base + 1) in record w { base = w.base + d; configs = drop d w.configs }
