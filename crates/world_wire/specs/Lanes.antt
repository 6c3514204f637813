-- The index of the letters that may still be delivered: for each pair of a server and an incarnation a lane, with the indexes of the letters
-- from that server to that incarnation.
use Rattle.std.specs.Prelude.{◌≡◌, ◌&&◌, ◌==◌, ◌++◌, ◌∷◌, [], ℕ, Bool, true, false, List, Option, Some, None, filter, nat_lt}
use Rattle.std.specs.List.{find, list_all, list_any, slice_get}
use Rattle.gr_ids.specs.Names.{inc_eq}
use Rattle.gr_ids.specs.declared.names.Inc.{Inc}
use Rattle.group_rules.specs.Script.{Letter}
use Rattle.world_wire.specs.Nexts.{is_next_at, is_open, lower, passes, serves}

pub record LaneOf : Type 0 where
  pub to : Inc
  pub from : ℕ
  pub indexes : List ℕ

abbrev pub has_index : List ℕ → ℕ → Bool
has_index is i = list_any (λ j. j == i) is

-- each is below all behind it
abbrev pub rises : List ℕ → Bool
rises [] = true
rises (i ∷ is) = list_all (λ j. nat_lt i j) is && rises is

abbrev pub is_between : Inc → ℕ → LaneOf → Bool
is_between to from l = inc_eq l.to to && (l.from == from)

-- the lane has the letter with this index
abbrev pub lists : ℕ → Letter → LaneOf → Bool
lists i x l = is_between x.message.to x.message.from.server l && has_index l.indexes i

-- Lanes rise, and each open letter stands in the lane of its pair. They may list more.
pub record IsIndex (ls : List LaneOf) (xs : List Letter) : Type 0 where
  pub rising : list_all (λ l. rises l.indexes) ls ≡ true
  pub complete : (i : ℕ) (x : Letter) → slice_get xs i ≡ Some x → is_open x ≡ true → list_any (lists i x) ls ≡ true

-- without the indexes from i on
abbrev pub cut_at : ℕ → LaneOf → LaneOf
cut_at i l = record l { indexes = filter (λ j. nat_lt j i) l.indexes }

-- and with i behind them
abbrev pub put_at : ℕ → LaneOf → LaneOf
put_at i l = record l { indexes = filter (λ j. nat_lt j i) l.indexes ++ i ∷ [] }

abbrev pub opens : Option Letter → Bool
opens o = passes is_open o

-- without those in front that name no open letter
abbrev pub dropped : List Letter → List ℕ → List ℕ
dropped xs [] = []
dropped xs (i ∷ is) = elim (opens (slice_get xs i)) [ true ↦ i ∷ is | false ↦ dropped xs is ]

abbrev pub dropped_in : List Letter → LaneOf → LaneOf
dropped_in xs l = record l { indexes = dropped xs l.indexes }

-- the first letter of a lane that is next
abbrev pub next_of_lane : List ℕ → List Inc → List Letter → LaneOf → Option ℕ
next_of_lane ns is xs l = elim (serves ns is l.from l.to) [ true ↦ find (is_next_at ns is xs) l.indexes | false ↦ None ]

-- the least of these and of one that is known
abbrev pub next_in : List ℕ → List Inc → List Letter → Option ℕ → List LaneOf → Option ℕ
next_in ns is xs o [] = o
next_in ns is xs o (l ∷ ls) = next_in ns is xs (lower o (next_of_lane ns is xs l)) ls
