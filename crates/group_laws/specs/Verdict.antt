-- The verdict by scan, and the verdict of the items that a member keeps.
use Rattle.std.specs.Prelude.{ℕ, suc, ◌+◌, ◌-◌, ◌*◌, ◌%◌, Bool, cond, ◌&&◌, not, List, [], ◌∷◌, Option, Some, None, length, nat_lt, ◌==◌}
use Rattle.std.specs.List.{list_any}
use Rattle.key_items.specs.Items.{has_item}
use Rattle.group_rules.specs.Events.{Setup}
use Rattle.group_rules.specs.Certifier.{number_after, opens_block}
use Rattle.group_laws.specs.Lists.{newest, count_of}
use Rattle.group_laws.specs.Names.{Inc, inc_eq, Item, item_eq, has, Txn}
use Rattle.group_laws.specs.Entries.{Body, Write, Value, Outcome, Positive, Conflict, NoTxn, Placed, Cert, values, cert_of, certified}
use Rattle.group_laws.specs.View.{stable}

abbrev pub writes : Cert → Item → Bool
writes c i = has_item c.txn.items i

-- the two share an item
abbrev pub shares : Txn → Cert → Bool
shares t c = list_any (writes c) t.items

abbrev pub outside : Txn → Cert → Bool
outside t c = not (has t.snapshot c.gtid)

-- a certified transaction that stands in the way of `t`
abbrev pub blocks : Txn → Cert → Bool
blocks t c = shares t c && outside t c

-- ---- numbers, by blocks of each origin

abbrev pub last_of : Inc → List Cert → Option Cert
last_of m cs = newest (λ c. inc_eq c.origin m) cs

abbrev pub blocks_taken : ℕ → List Cert → ℕ
blocks_taken b cs = count_of (λ c. opens_block b c.gtid.number) cs

abbrev pub number_in : Option Cert → Option ℕ
number_in None = None
number_in (Some c) = Some c.gtid.number

abbrev pub next_number : Setup → List Cert → Inc → ℕ
next_number r cs origin = number_after r.limits.block (blocks_taken r.limits.block cs) (number_in (last_of origin cs))

-- ---- the outcome

abbrev pub decided : ℕ → Option Cert → Outcome
decided n None = Positive n
decided n (Some c) = Conflict c.gtid

-- by a scan of all that is certified
abbrev pub scan_parts : Setup → List Cert → Inc → Body → Outcome
scan_parts r cs origin (Write t) = decided (next_number r cs origin) (newest (blocks t) cs)
scan_parts r cs origin _ = NoTxn

abbrev pub scan_outcome : Setup → List Placed → Value → Outcome
scan_outcome r m v = scan_parts r (certified r m) v.origin v.body

-- the list, with the outcomes by scan
abbrev pub scan : Setup → List Value → List Placed
scan r [] = []
scan r (v ∷ p) = record { value = v; outcome = scan_outcome r (scan r p) v } ∷ scan r p

-- ---- the items that are kept

abbrev pub if_writes : Item → Option Cert → Option Cert → Option Cert
if_writes i None was = was
if_writes i (Some c) was = cond (writes c i) (Some c) was

-- without a writer that the stable set has
abbrev pub unless_stable : Setup → List Value → Option Cert → Option Cert
unless_stable r p None = None
unless_stable r p (Some c) = cond (stable r p c.gtid) None (Some c)

-- the last positive writer of the item, until its GTID is in a stable set
abbrev pub kept_writer : Setup → List Placed → Item → Option Cert
kept_writer r [] i = None
kept_writer r (e ∷ m) i =
    unless_stable r (e.value ∷ values m) (if_writes i (cert_of r (suc (length m)) e) (kept_writer r m i))

abbrev pub if_outside : Txn → Option Cert → Option Cert
if_outside t None = None
if_outside t (Some c) = cond (outside t c) (Some c) None

abbrev pub later : Option Cert → Option Cert → Option Cert
later None o = o
later (Some c) None = Some c
later (Some c) (Some d) = cond (nat_lt c.place d.place) (Some d) (Some c)

-- of the kept writers of these items outside the snapshot, that of the greatest place
abbrev pub kept_blocker : Setup → List Placed → Txn → List Item → Option Cert
kept_blocker r m t [] = None
kept_blocker r m t (i ∷ is) = later (if_outside t (kept_writer r m i)) (kept_blocker r m t is)

abbrev pub kept_parts : Setup → List Placed → Inc → Body → Outcome
kept_parts r m origin (Write t) = decided (next_number r (certified r m) origin) (kept_blocker r m t t.items)
kept_parts r m origin _ = NoTxn

abbrev pub kept_outcome : Setup → List Placed → Value → Outcome
kept_outcome r m v = kept_parts r m v.origin v.body
