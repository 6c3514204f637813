-- The rows that certified transactions leave.
use Rattle.std.specs.Prelude.{◌≡◌, ℕ, Bool, true, cond, List, [], ◌∷◌, Option, None}
use Rattle.group_rules.specs.Rows.{row_after, fits}
use Rattle.group_laws.specs.Lists.{Mem}
use Rattle.group_laws.specs.Names.{Gtid, Item, item_eq, Change, Txn}
use Rattle.group_laws.specs.Entries.{Cert}

abbrev pub Rows : Type 0
Rows = Item → Option (List ℕ)

abbrev pub no_rows : Rows
no_rows i = None

abbrev pub put : Item → Option (List ℕ) → Rows → Rows
put i row was j = cond (item_eq i j) row (was j)

-- changes, in order
abbrev pub applied : List Change → Rows → Rows
applied [] was = was
applied (c ∷ cs) was = applied cs (put c.item (row_after c.what) was)

-- no change is refused
abbrev pub Fits : List Change → Rows → Type 0
Fits [] was = Unit {0}
Fits (c ∷ cs) was = (fits c.what (was c.item) ≡ true) × Fits cs (put c.item (row_after c.what) was)

-- the rows of the certified transactions (newest first) that the set has, in order of place
abbrev pub rows_of : List Cert → (Gtid → Bool) → Rows
rows_of [] e = no_rows
rows_of (c ∷ cs) e = λ i. cond (e c.gtid) (applied c.txn.changes (rows_of cs e) i) (rows_of cs e i)

-- and none of their changes is refused
abbrev pub NoneRefused : List Cert → (Gtid → Bool) → Type 0
NoneRefused [] e = Unit {0}
NoneRefused (c ∷ cs) e = (e c.gtid ≡ true → Fits c.txn.changes (rows_of cs e)) × NoneRefused cs e

-- each change is of an item of the write set
abbrev pub Covers : Txn → Type 0
Covers t = (c : Change) → Mem c t.changes → Mem c.item t.items
