-- Rows: what the changes of a set of transactions leave.
use Rattle.std.specs.Prelude.{ℕ, Bool, true, false, ◌&&◌, not, Option, Some, None, List, [], ◌∷◌, nat_lt, is_some}
use Rattle.key_items.specs.Items.{item_eq}
use Rattle.gtid_sets.specs.Sets.{Gtids, has}
use Rattle.group_rules.specs.Names.{Item, Change, ChangeKind, Inserts, Updates, Deletes}
use Rattle.group_rules.specs.Events.{Life, Cert, OfflineWrite}
use Rattle.group_rules.specs.Life.{executed, certs, stored}
use Rattle.group_rules.specs.Sessions.{begun_set, changes}

-- ---- changes of one row

abbrev pub row_after : ChangeKind → Option (List ℕ)
row_after (Inserts v) = Some v
row_after (Updates v) = Some v
row_after Deletes = None

-- an insert needs the row absent, an update or delete needs it present
abbrev pub fits : ChangeKind → Option (List ℕ) → Bool
fits (Inserts v) r = not (is_some r)
fits k r = is_some r

-- the row of the item after these changes
abbrev pub changed_row : Item → Option (List ℕ) → List Change → Option (List ℕ)
changed_row i r [] = r
changed_row i r (c ∷ cs) = elim (item_eq c.item i) [ true ↦ changed_row i (row_after c.what) cs | false ↦ changed_row i r cs ]

-- ---- the rows of a set

-- the changes of those transactions that are in the set, in the order of the list
abbrev pub row_by : Item → Gtids → Option (List ℕ) → List Cert → Option (List ℕ)
row_by i e r [] = r
row_by i e r (c ∷ cs) = elim (has e c.gtid) [ true ↦ row_by i e (changed_row i r c.txn.changes) cs | false ↦ row_by i e r cs ]

abbrev pub offline_row : Item → Gtids → Option (List ℕ) → List OfflineWrite → Option (List ℕ)
offline_row i e r [] = r
offline_row i e r (w ∷ ws) = elim (item_eq w.item i && has e w.gtid) [ true ↦ offline_row i e (Some w.row) ws | false ↦ offline_row i e r ws ]

-- the row of a set: the changes of its transactions in order of place, from no rows, and then the server's own offline writes in it, in the order written
abbrev pub row_in : List Cert → List OfflineWrite → Gtids → Item → Option (List ℕ)
row_in cs ws e i = offline_row i e (row_by i e None cs) ws

abbrev pub with_cert : List Cert → Cert → List Cert
with_cert [] c = c ∷ []
with_cert (x ∷ xs) c = elim (nat_lt c.place x.place) [ true ↦ c ∷ x ∷ xs | false ↦ x ∷ with_cert xs c ]

abbrev pub all_in : List Cert → List Cert → List Cert
all_in xs [] = xs
all_in xs (c ∷ cs) = with_cert (all_in xs cs) c

-- the certified transactions that it knows, by ascending place: those taken, given, and had at its start
abbrev pub known : Life → List Cert
known l = all_in (all_in [] (stored l).committed) (certs l)

abbrev pub row_of : Life → Gtids → Item → Option (List ℕ)
row_of l e i = row_in (known l) (stored l).writes e i

-- ---- the rows that a transaction sees

-- the row now, with the transaction's own changes
abbrev pub row_now : Life → ℕ → Item → Option (List ℕ)
row_now l s i = changed_row i (row_of l (executed l) i) (changes l s)

-- the row that a Get of the transaction answers: its own last write, else that of the set that it reads
abbrev pub row_then : Life → ℕ → Item → Option (List ℕ)
row_then l s i = changed_row i (row_of l (begun_set l s) i) (changes l s)
