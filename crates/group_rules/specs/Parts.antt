-- Transactions in parts: which parts are open, what a place holds, and how a body is cut.
use Rattle.std.specs.Prelude.{ℕ, zero, suc, ◌+◌, ◌-◌, ◌/◌, Bool, true, false, not, Option, Some, None, List, [], ◌∷◌, ◌++◌, length, take, drop}
use Rattle.gr_ids.specs.Names.{inc_eq}
use Rattle.name_forms.specs.OpenParts.{part_size}
use Rattle.txn_forms.specs.Bodies.{read_body}
use Rattle.txn_forms.specs.Parts.{bytes_before, is_open, is_last, after_part, joined, parts_of}
use Rattle.group_rules.specs.Names.{Inc, OpenParts, Part, Body, PartOf, What, Says}
use Rattle.group_rules.specs.Events.{Took, Restores, Life}

-- ---- open parts

-- what a kept value of the origin leaves open, by what its kept value before left open; one that isn't a part ends its parts
abbrev pub open_after : Inc → Option Body → Option OpenParts → Option OpenParts
open_after m (Some (PartOf x)) o = after_part m o x
open_after m w o = None

-- the parts of an origin that are open after the entries taken
abbrev pub open_parts : Life → Inc → Option OpenParts
open_parts [] o = None
open_parts (Restores g cs ∷ l) o = parts_of g.parts o
open_parts (Took e ∷ l) o = elim (inc_eq e.value.id.origin o) [ true ↦ open_after o e.holds (open_parts l o) | false ↦ open_parts l o ]
open_parts (_ ∷ l) o = open_parts l o

-- ---- what a place holds

abbrev pub joined_or : Body → Option Body → Option Body
joined_or x None = Some x
joined_or x (Some t) = Some t

-- a last part that goes on holds the transaction that the joined bytes spell
abbrev pub held_part : Option OpenParts → Part → Option Body
held_part o x = elim (is_last o x) [ true ↦ joined_or (PartOf x) (joined (bytes_before o ++ x.bytes)) | false ↦ Some (PartOf x) ]

abbrev pub held_body : Option OpenParts → Option Body → Option Body
held_body o (Some (PartOf x)) = held_part o x
held_body o b = b

-- what a place with this value holds, by the parts that its origin had open; it is decoded once, here
abbrev pub held : Option OpenParts → What → Option Body
held o (Says b) = held_body o (read_body b)
held o w = None

-- a part that is neither open nor the last one of a transaction is void
abbrev pub is_void_part : Option OpenParts → Option Body → Bool
is_void_part o (Some (PartOf x)) = not (is_open o x)
is_void_part o b = false

-- ---- cutting

-- the parts of these bytes, from the one with this index on: so many of `count`
abbrev pub cut_from : ℕ → ℕ → List ℕ → List Part
cut_from zero c b = []
cut_from (suc k) c b = record { index = c - k; count = c; bytes = take part_size b } ∷ cut_from k c (drop part_size b)

-- a body that is too large to be sent whole, in parts
abbrev pub cut : List ℕ → List Part
cut b = let c = (length b + part_size - 1) / part_size in cut_from c c b
