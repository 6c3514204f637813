-- A run of the group as one of which the laws speak, and what is known of each history at each moment of it.
use Rattle.std.specs.Prelude.{◌≡◌, ◌≤◌, ◌<◌, true, List, length, reverse}
use Rattle.gr_ids.specs.declared.names.Inc.{Inc}
use Rattle.key_items.specs.declared.item.Item.{Item}
use Rattle.slot_values.specs.declared.value.Value.{Value}
use Rattle.group_rules.specs.Events.{Life, Setup}
use Rattle.group_rules.specs.Life.{executed, certs, taken}
use Rattle.group_rules.specs.Rows.{row_in, row_of}
use Rattle.group_rules.specs.OneList.{listed}
use Rattle.group_rules.specs.Legal.{IsPast, runs_in, writes_in}
use Rattle.group_rules.specs.World.{Past, life_in}
use Rattle.group_order.specs.OneLog.{IsReady}
use Rattle.group_laws.specs.Entries as law
use Rattle.group_laws.specs.World.{IsRun}
use Rattle.group_lives.specs.Lives.{run_of}
use Rattle.group_lives.specs.Sound.{HasSets}
use Rattle.group_lawful.specs.Lived.{Lived}
use Rattle.group_lawful.specs.Knows.{AlwaysSound}
use Rattle.group_legal.specs.Bases.{list_of, base_in, JudgesAs}

-- what is known of the history of an incarnation
pub record MomentOf (t : Setup) (log : List Value) (base : List law.Placed) (i : Inc) (l : Life) : Type 0 where
  pub lived : Lived t i l
  pub always : AlwaysSound t i base l
  pub sets : HasSets l
  pub judged : IsReady t i l → 0 < length l → JudgesAs t log base l
  pub within : IsReady t i l → 0 < length l → taken l ≤ length (list_of t log)

-- its rows are those of the transactions of the list that it has executed, and of its server's offline writes
abbrev pub SameRows : Setup → List Value → Past → Inc → Type 0
SameRows t log p i = (x : Item) → row_of (life_in p i) (executed (life_in p i)) x ≡ row_in (reverse (certs (listed t log))) (writes_in p i.server) (executed (life_in p i)) x

pub record IsLawRun (t : Setup) (log : List Value) (w : Past) : Type 0 where
  pub run : IsRun t (law.values (list_of t log)) (run_of (base_in t log w) w)
  pub moments : (p : Past) → IsPast p w → (i : Inc) → MomentOf t log (base_in t log w i) i (life_in p i)
  pub rows : (p : Past) → IsPast p w → (i : Inc) → runs_in p i ≡ true → SameRows t log p i
