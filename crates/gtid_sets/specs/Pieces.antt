-- What the pieces of a set's spelling put among the runs that stand there already, and why a spelling isn't read.
use Rattle.std.specs.Prelude.{◌≡◌, ℕ, Option, List, [], ◌∷◌, ◌++◌, map}
use Rattle.byte_forms.specs.Cuts.{Cut, Takes}
use Rattle.byte_forms.specs.Lists.{list_of}
use Rattle.byte_forms.specs.declared.unread.Unread.{Unread}
use Rattle.byte_forms.specs.declared.unread.Unread.TheVariants.{Memory as NoMemory, Misfit}
use Rattle.gtid_sets.specs.declared.faults.SetFault.{SetFault}
use Rattle.gtid_sets.specs.declared.faults.SetFault.TheVariants.{Memory, BadSet}
use Rattle.gtid_sets.specs.Sets.{Run, Gtids}
use Rattle.gtid_sets.specs.Spelling.{Interval, Source, interval_of, runs_of, next_interval_after, next_source_above}

-- an interval as a run of a source
abbrev pub run_of : List ℕ → Interval → Run
run_of u i = record { source = u; first = i.first; last = i.last }

-- runs of one source, as that source
abbrev pub source_with : List ℕ → Gtids → Source
source_with u runs = record { uuid = u; intervals = map interval_of runs }

-- the intervals of a source were read, and its runs were put behind those that stand there
pub record PutsIntervals (u : List ℕ) (old : Cut) (had runs : Gtids) (new : Cut) : Type 0 where
  pub intervals : List Interval
  pub reads : Takes (list_of 1 next_interval_after) old intervals new
  pub put : runs ≡ had ++ map (run_of u) intervals

-- a source was read, and its runs were put behind those that stand there
pub record PutsSource (before : Option (List ℕ)) (old : Cut) (had : Gtids) (u : List ℕ) (runs : Gtids) (new : Cut) : Type 0 where
  pub source : Source
  pub reads : Takes (next_source_above before) old source new
  pub uuid : source.uuid ≡ u
  pub put : runs ≡ had ++ runs_of (source ∷ [])

-- the same fault where any form is read
abbrev pub unread_of : SetFault → Unread
unread_of Memory = NoMemory
unread_of (BadSet at) = Misfit at
