-- Last writers that are forgotten.
use Rattle.std.specs.Prelude.{◌≡◌, ◌+◌, Bool, true, false, cond, Option, Some, None, List, length, if◌then◌else◌, IsSome}
use Rattle.std.specs.Map.{lookup}
use Rattle.std.specs.BTreeMap.{is_at}
use Rattle.std.specs.Global.{Vec}
use Rattle.std.specs.Ordering.{is_eq}
use Rattle.gr_ids.specs.declared.names.Gtid.{Gtid}
use Rattle.gr_ids.specs.Names.{gtid_eq}
use Rattle.gtid_sets.specs.declared.run.Run.{Run}
use Rattle.gtid_sets.specs.Sets.{Gtids, has, in_run}
use Rattle.key_items.specs.declared.item.Item.{Item}
use Rattle.certifier.specs.declared.writer.Writer.{Writer}
use Rattle.certifier.specs.Inside.{gtid_cmp}

-- whether the last writer is this one
abbrev pub is_by : Gtid → Option Writer → Bool
is_by g None = false
is_by g (Some w) = gtid_eq w.gtid g

-- unless it is this one
abbrev pub unless_by : Gtid → Option Writer → Option Writer
unless_by g o = if is_by g o then None else o

-- unless its GTID is in the run
abbrev pub unless_in : Run → Option Writer → Option Writer
unless_in r None = None
unless_in r (Some w) = if in_run w.gtid r then None else Some w

-- unless its GTID is in the set
abbrev pub unless_has : Gtids → Option Writer → Option Writer
unless_has s None = None
unless_has s (Some w) = if has s w.gtid then None else Some w

-- no writer is in the run
abbrev pub Lacks : List (Gtid × Vec Item) → Run → Type 0
Lacks ws r = (g : Gtid) → in_run g r ≡ true → lookup (is_at (gtid_cmp g)) ws ≡ None

-- no writer is in the run, and all are as they were
pub record HasNone (old new : List (Gtid × Vec Item)) (r : Run) : Type 0 where
  pub lacks : Lacks old r
  pub same : new ≡ old

-- a writer that is in the run
pub record IsInRun (ws : List (Gtid × Vec Item)) (r : Run) (g : Gtid) : Type 0 where
  pub inside : in_run g r ≡ true
  pub there : IsSome (lookup (is_at (gtid_cmp g)) ws)

-- a writer that is in the run is taken out, with the items that are noted for it
pub record Takes (old new : List (Gtid × Vec Item)) (r : Run) (g : Gtid) (v : Vec Item) : Type 0 where
  pub inside : in_run g r ≡ true
  pub had : lookup (is_at (gtid_cmp g)) old ≡ Some v
  pub left : (q : Gtid) → lookup (is_at (gtid_cmp q)) new ≡ cond (is_eq (gtid_cmp g q)) None (lookup (is_at (gtid_cmp q)) old)
  pub shorter : length new + 1 ≡ length old
