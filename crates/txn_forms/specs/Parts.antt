-- Transactions in parts: which parts are open, what a part becomes, and the open parts of all origins.
use Rattle.std.specs.Prelude.{ℕ, ◌+◌, Bool, true, false, ◌&&◌, ◌||◌, Option, Some, None, is_some, List, [], ◌∷◌, ◌++◌, length, nat_lt, nat_le, ◌==◌, option_to_list}
use Rattle.gr_ids.specs.declared.names.Inc.{Inc}
use Rattle.gr_ids.specs.Names.{inc_eq, inc_lt}
use Rattle.gr_ids.specs.declared.names.OpenParts.{OpenParts}
use Rattle.txn_forms.specs.Bodies.{Body, Part, read_body}
use Rattle.txn_forms.specs.declared.body.Body.TheVariants as body
pub use Rattle.txn_forms.specs.declared.joined.Joined.{Joined}
use Rattle.txn_forms.specs.declared.joined.Joined.TheVariants.{Open, Void, Whole}

-- the bytes of a whole body number at most these; those of a transaction in parts more, and at most `most_bytes`
abbrev pub whole_bytes : ℕ
whole_bytes = 65536

abbrev pub most_bytes : ℕ
most_bytes = 16777216

-- ---- the parts of one origin

-- part i of c goes on where part i-1 of c is open
abbrev pub goes_on : Option OpenParts → Part → Bool
goes_on None x = false
goes_on (Some p) x = (p.count == x.count) && (p.held + 1 == x.index)

abbrev pub bytes_before : Option OpenParts → List ℕ
bytes_before None = []
bytes_before (Some p) = p.bytes

-- a part is open: it isn't the last one, and it is the first or goes on
abbrev pub is_open : Option OpenParts → Part → Bool
is_open o x = nat_lt x.index x.count && ((x.index == 1) || goes_on o x)

-- a part ends a transaction: it is the last one, and goes on
abbrev pub is_last : Option OpenParts → Part → Bool
is_last o x = (x.index == x.count) && goes_on o x

abbrev pub joined_bytes : Option OpenParts → Part → List ℕ
joined_bytes o x = elim (x.index == 1) [ true ↦ x.bytes | false ↦ bytes_before o ++ x.bytes ]

-- the parts that are open after a part, by those that were open before it
abbrev pub after_part : Inc → Option OpenParts → Part → Option OpenParts
after_part m o x = elim (is_open o x) [ true ↦ Some (record { origin = m; count = x.count; held = x.index; bytes = joined_bytes o x }) | false ↦ None ]

-- ---- what a part becomes

abbrev pub is_large : ℕ → Bool
is_large n = nat_lt whole_bytes n && nat_le n most_bytes

abbrev pub if_txn : Option Body → Option Body
if_txn (Some (body.Txn t)) = Some (body.Txn t)
if_txn x = None

-- the transaction that joined bytes spell
abbrev pub joined : List ℕ → Option Body
joined b = elim (is_large (length b)) [ true ↦ if_txn (read_body b) | false ↦ None ]

abbrev pub whole_or_void : List ℕ → Joined
whole_or_void b = elim (is_some (joined b)) [ true ↦ Whole b | false ↦ Void ]

-- open; or the bytes of a transaction, where the part ends one; or nothing
abbrev pub becomes : Option OpenParts → Part → Joined
becomes o x = elim (is_open o x) [ true ↦ Open | false ↦ elim (is_last o x) [ true ↦ whole_or_void (bytes_before o ++ x.bytes) | false ↦ Void ] ]

-- ---- the parts of all origins, ascending by origin

abbrev pub parts_of : List OpenParts → Inc → Option OpenParts
parts_of [] o = None
parts_of (p ∷ ps) o = elim (inc_eq p.origin o) [ true ↦ Some p | false ↦ parts_of ps o ]

-- an origin's parts in the place of those that it had
abbrev pub with_parts : List OpenParts → Inc → Option OpenParts → List OpenParts
with_parts [] o w = option_to_list w
with_parts (p ∷ ps) o w = elim (inc_lt p.origin o) [ true ↦ p ∷ with_parts ps o w | false ↦ option_to_list w ++ elim (inc_eq p.origin o) [ true ↦ ps | false ↦ p ∷ ps ] ]
