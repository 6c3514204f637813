-- The order of incarnations, in which maps keep them.
use Rattle.std.specs.Ordering.{nat_cmp, ordering_then}
use Rattle.std.specs.declared.cmp.Ordering.{Ordering}
use Rattle.node_rules.specs.Names.{Inc}

-- by server, then start
abbrev pub inc_cmp : Inc → Inc → Ordering
inc_cmp a b = ordering_then (nat_cmp a.server b.server) (nat_cmp a.start b.start)
