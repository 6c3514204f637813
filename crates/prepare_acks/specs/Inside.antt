-- How those who are awaited stand in a map by GTID.
use Rattle.std.specs.Prelude.{Option, Some, None, List, []}
use Rattle.std.specs.Ordering.{nat_cmp, ordering_then}
use Rattle.std.specs.declared.cmp.Ordering.{Ordering}
use Rattle.std.specs.Cmp.Lexicographic.{slice_cmp}
use Rattle.std.specs.Global.{Vec}
use Rattle.gr_ids.specs.declared.names.Inc.{Inc}
use Rattle.gr_ids.specs.declared.names.Gtid.{Gtid}
use Rattle.prepare_acks.specs.Awaited.{Waiting}

abbrev pub waiting_of : Gtid × Vec Inc → Waiting
waiting_of e = record { gtid = e.0; members = e.1.items }

-- by source, then number
abbrev pub gtid_cmp : Gtid → Gtid → Ordering
gtid_cmp a b = ordering_then (slice_cmp nat_cmp a.source b.source) (nat_cmp a.number b.number)

abbrev pub members_in : Option (Vec Inc) → List Inc
members_in None = []
members_in (Some v) = v.items
