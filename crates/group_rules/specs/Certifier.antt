-- Certification: the items that are kept with their last writers, GTID numbers by blocks, and the verdict that they give.
-- (MySQL 8.0 Reference Manual, Group Replication: conflict detection by write sets, where the first to be ordered wins;
-- `group_replication_gtid_assignment_block_size`.)
use Rattle.std.specs.Prelude.{ℕ, suc, ◌+◌, ◌*◌, ◌%◌, Bool, true, false, ◌&&◌, not, Option, Some, None, List, [], ◌∷◌, nat_lt, ◌==◌, if◌then◌else◌, filter}
use Rattle.gr_ids.specs.Names.{inc_eq, inc_lt}
use Rattle.gtid_sets.specs.Sets.{Gtids, has}
use Rattle.key_items.specs.Items.{item_eq, item_lt, has_item}
use Rattle.group_rules.specs.Names.{Inc, Gtid, Item, KeptItem, LastNumber, Limits, Txn, Body, Writes, Effect, Positive, Conflict, Give}
use Rattle.group_rules.specs.Events.{Took, Restores, Life, Setup, Entry}
use Rattle.group_rules.specs.Told.{stable}

-- How many blocks of numbers are taken; the number of each origin's last positive transaction, ascending by origin; and each item with its last
-- positive writer, ascending, until that one's GTID is in a stable set.
pub record Certifier : Type 0 where
  pub blocks : ℕ
  pub last : List LastNumber
  pub items : List KeptItem

abbrev pub no_certifier : Certifier
no_certifier = record { blocks = 0; last = []; items = [] }

-- ---- numbers: with block size b, block q, from 0, has the numbers qb+1 to (q+1)b

abbrev pub last_of : List LastNumber → Inc → Option ℕ
last_of [] m = None
last_of (x ∷ xs) m = elim (inc_eq x.inc m) [ true ↦ Some x.number | false ↦ last_of xs m ]

abbrev pub with_last : List LastNumber → LastNumber → List LastNumber
with_last [] n = n ∷ []
with_last (x ∷ xs) n = elim (inc_lt n.inc x.inc) [ true ↦ n ∷ x ∷ xs | false ↦ elim (inc_eq n.inc x.inc) [ true ↦ n ∷ xs | false ↦ x ∷ with_last xs n ] ]

-- the number after the origin's last one, in its block; or the first one of the next block
abbrev pub number_after : ℕ → ℕ → Option ℕ → ℕ
number_after b q None = q * b + 1
number_after b q (Some n) = if (n % b) == 0 then q * b + 1 else n + 1

abbrev pub next_gtid : Limits → Certifier → Inc → Gtid
next_gtid x c m = record { source = x.group; number = number_after x.block c.blocks (last_of c.last m) }

abbrev pub opens_block : ℕ → ℕ → Bool
opens_block b n = (n % b) == (1 % b)

-- ---- the verdict

abbrev pub later_of : KeptItem → Option KeptItem → Option KeptItem
later_of k None = Some k
later_of k (Some j) = if nat_lt j.place k.place then Some k else Some j

-- of the kept writers of its items whose GTIDs its snapshot lacks, that of the greatest place
abbrev pub blocker : List KeptItem → Txn → Option KeptItem
blocker [] t = None
blocker (k ∷ ks) t = elim (has_item t.items k.item && not (has t.snapshot k.gtid)) [ true ↦ later_of k (blocker ks t) | false ↦ blocker ks t ]

abbrev pub verdict_by : Gtid → Option KeptItem → Effect
verdict_by g None = Positive g
verdict_by g (Some k) = Conflict k.gtid

-- the verdict on a transaction of this origin that is taken next
abbrev pub verdict : Limits → Certifier → Inc → Txn → Effect
verdict x c m t = verdict_by (next_gtid x c m) (blocker c.items t)

-- ---- one entry more

abbrev pub with_kept : List KeptItem → KeptItem → List KeptItem
with_kept [] k = k ∷ []
with_kept (x ∷ xs) k = elim (item_lt k.item x.item) [ true ↦ k ∷ x ∷ xs | false ↦ elim (item_eq k.item x.item) [ true ↦ k ∷ xs | false ↦ x ∷ with_kept xs k ] ]

abbrev pub written_by : ℕ → Gtid → List Item → List KeptItem → List KeptItem
written_by p g [] ks = ks
written_by p g (i ∷ is) ks = written_by p g is (with_kept ks (record { item = i; gtid = g; place = p }))

-- a transaction of this origin is positive at place p: it is the last writer of its items
abbrev pub with_positive : Limits → ℕ → Inc → Gtid → List Item → Certifier → Certifier
with_positive x p m g is c = record { blocks = if opens_block x.block g.number then suc c.blocks else c.blocks; last = with_last c.last (record { inc = m; number = g.number }); items = written_by p g is c.items }

abbrev pub certified_by : Limits → ℕ → Inc → Effect → Option Body → Certifier → Certifier
certified_by x p m (Positive g) (Some (Writes t)) c = with_positive x p m g t.items c
certified_by x p m e b c = c

abbrev pub with_entry : Limits → Entry → Certifier → Certifier
with_entry x e c = certified_by x e.place e.value.id.origin e.effect e.holds c

-- the items whose writers are in this set are kept no more
abbrev pub forget : Gtids → Certifier → Certifier
forget s c = record c { items = filter (λ k. not (has s k.gtid)) c.items }

-- (where no item is kept, there is nothing to forget)
abbrev pub forget_stable : Setup → Life → Certifier → List KeptItem → Certifier
forget_stable s l c [] = c
forget_stable s l c (k ∷ ks) = forget (stable s l) c

-- what a Give tells of the certifier
abbrev pub restored : Give → Certifier
restored g = record { blocks = g.blocks; last = g.last; items = g.items }

-- the certifier after the entries taken; after each entry it forgets what the stable set then has
abbrev pub certifier : Setup → Life → Certifier
certifier s [] = no_certifier
certifier s (Restores g cs ∷ l) = restored g
certifier s (Took e ∷ l) = let c = with_entry s.limits e (certifier s l) in forget_stable s (Took e ∷ l) c c.items
certifier s (_ ∷ l) = certifier s l

-- the last numbers of those of these that have one
abbrev pub numbers_of : List LastNumber → List Inc → List LastNumber
numbers_of xs [] = []
numbers_of xs (i ∷ is) = elim (last_of xs i) [ None ↦ numbers_of xs is | Some n ↦ record { inc = i; number = n } ∷ numbers_of xs is ]
