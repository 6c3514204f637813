-- Told sets, and the stable set: what all ONLINE members have told to have executed.
-- (MySQL 8.0 Reference Manual, Group Replication: the transactions committed at all members, for which certification data is no longer kept.)
use Rattle.std.specs.Prelude.{true, false, Option, Some, None, List, [], ◌∷◌}
use Rattle.gr_ids.specs.Names.{inc_eq, inc_lt}
use Rattle.gtid_sets.specs.Sets.{Gtids, meet}
use Rattle.group_rules.specs.Names.{Inc, ToldSet, Body, Executed, Arrives}
use Rattle.group_rules.specs.View.{online_incs}
use Rattle.group_rules.specs.Events.{Took, Restores, Life, Setup, Entry}
use Rattle.group_rules.specs.Life.{view}

-- an Executed and an Online entry tell a set
abbrev pub tells : Option Body → Option Gtids
tells (Some (Executed s)) = Some s
tells (Some (Arrives s)) = Some s
tells b = None

-- the last set that the incarnation told, in a list that has one for each that told any
abbrev pub told_of : List ToldSet → Inc → Option Gtids
told_of [] m = None
told_of (t ∷ ts) m = elim (inc_eq t.inc m) [ true ↦ Some t.set | false ↦ told_of ts m ]

abbrev pub with_told : List ToldSet → ToldSet → List ToldSet
with_told [] t = t ∷ []
with_told (x ∷ xs) t = elim (inc_lt t.inc x.inc) [ true ↦ t ∷ x ∷ xs | false ↦ elim (inc_eq t.inc x.inc) [ true ↦ t ∷ xs | false ↦ x ∷ with_told xs t ] ]

abbrev pub told_after : Entry → Option Gtids → List ToldSet → List ToldSet
told_after e None ts = ts
told_after e (Some s) ts = with_told ts (record { inc = e.value.id.origin; set = s })

-- the last set that each incarnation told, by the entries taken, ascending
abbrev pub told : Life → List ToldSet
told [] = []
told (Restores g cs ∷ l) = g.told
told (Took e ∷ l) = told_after e (tells e.holds) (told l)
told (_ ∷ l) = told l

abbrev pub set_or_empty : Option Gtids → Gtids
set_or_empty None = []
set_or_empty (Some s) = s

-- What the last told sets of these have in common, one that told none counting as empty. It is empty where these are none.
abbrev pub stable_of : List ToldSet → List Inc → Gtids
stable_of ts [] = []
stable_of ts (i ∷ []) = set_or_empty (told_of ts i)
stable_of ts (i ∷ j ∷ is) = meet (set_or_empty (told_of ts i)) (stable_of ts (j ∷ is))

-- the stable set after the entries taken: that of the members ONLINE then
abbrev pub stable : Setup → Life → Gtids
stable s l = stable_of (told l) (online_incs (view s l))

-- the last set of each of these that told one
abbrev pub sets_of : List ToldSet → List Inc → List ToldSet
sets_of ts [] = []
sets_of ts (i ∷ is) = elim (told_of ts i) [ None ↦ sets_of ts is | Some s ↦ record { inc = i; set = s } ∷ sets_of ts is ]
