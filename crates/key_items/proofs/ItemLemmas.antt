-- An item that is read is above the one before it.
use Rattle.std.proofs.Common.{◌≡◌, ℕ, zero, suc, ◌-◌, ◌<◌, ◌≤◌, Bool, true, false, ◌&&◌, ◌||◌, List, [], ◌∷◌, ◌++◌, length, Option, Some, None, refl, sym, ap, subst, ◌∙◌, arith, IsTrue}
use Rattle.std.specs.Prelude.{replicate, if◌then◌else◌}
use Rattle.std.proofs.lemmas.List.{append-nil}
use Rattle.std.proofs.lemmas.Bool.{and_parts, and_from, leb-true}
use Rattle.byte_forms.specs.Numbers.{number_of}
use Rattle.byte_forms.specs.Reads.{Got, go_on, pure}
use Rattle.byte_forms.specs.Fields.{field}
use Rattle.byte_forms.specs.Lists.{IsChain, list_of}
use Rattle.byte_forms.proofs.FieldLemmas.{go_on-got, field-got}
use Rattle.byte_forms.proofs.ListLemmas.{list_chain}
use Rattle.gr_ids.specs.Names.{bytes_eq, bytes_lt}
use Rattle.key_items.specs.Items.{Item, item_lt, ascend}
use Rattle.key_items.specs.Spelling.{IsItem, IsItemAfter, greatest, begins_table, begins_key, has_key_above, is_between, length_where, next_item_after}

-- a whole string is the greatest one that begins with it
greatest_whole : (n : ℕ) (string : List ℕ) → length string ≡ n → greatest n string ≡ string
greatest_whole n string e = (let none : n - length string ≡ 0 = omega arith in ap (λ k. string ++ replicate k 255) none ∙ append-nil string)

length_got : (test : ℕ → Bool) (bytes rest : List ℕ) (n : ℕ) → length_where test bytes ≡ Got n rest → test n ≡ true
length_got test bytes rest n e =
    let f = go_on-got (field (λ bs. test (number_of bs)) 1 bytes) (λ bs. pure (number_of bs)) n rest e in
    let inner = field-got (λ bs. test (number_of bs)) 1 bytes f.first f.behind f.reads in
    let g : Got (number_of f.first) f.behind ≡ Got n rest = f.then_reads in
    let is : number_of f.first ≡ n = cc in
    ap test (sym is) ∙ inner.passes (omega arith)

-- what the fields of an item say
fields_above : (b : Item) (i : Item) → begins_table (Some b) (length i.table) i.table ≡ true → begins_key (Some b) i.table (length i.key) i.key ≡ true → item_lt b i ≡ true
fields_above b i t k =
    let table : bytes_lt b.table i.table || (bytes_eq b.table i.table && has_key_above b) ≡ true = ap (λ s. bytes_lt b.table s || (bytes_eq b.table s && has_key_above b)) (sym (greatest_whole (length i.table) i.table refl)) ∙ t in
    let key : (if bytes_eq b.table i.table then bytes_lt b.key i.key else true) ≡ true = ap (λ s. if bytes_eq b.table i.table then bytes_lt b.key s else true) (sym (greatest_whole (length i.key) i.key refl)) ∙ k in
    go (bytes_eq b.table i.table) (bytes_lt b.table i.table) refl table key
  where
    or_left : (s h : Bool) → s || (false && h) ≡ true → s ≡ true
    or_left true h e = refl
    or_left false h e = e

    go : (same less : Bool) → bytes_eq b.table i.table ≡ same → less || (same && has_key_above b) ≡ true → (if same then bytes_lt b.key i.key else true) ≡ true → (if same then bytes_lt b.key i.key else less) ≡ true
    go true less e table key = key
    go false less e table key = or_left less (has_key_above b) table

between : (low high n : ℕ) (t : Bool) → is_between low high n && t ≡ true → (low ≤ n) × ((n ≤ high) × (t ≡ true))
between low high n t e =
    let both = and_parts _ _ e in
    let range = and_parts _ _ both.0 in
    (leb-true low n range.0, (leb-true n high range.1, both.1))

-- where a table's and a key's lengths and bytes passed
item_after : (before : Option Item) (i : Item) → IsItem i → begins_table before (length i.table) i.table ≡ true → begins_key before i.table (length i.key) i.key ≡ true → IsItemAfter before i
item_after None i is t k = is
item_after (Some b) i is t k = (is, fields_above b i t k)

is_item : (i : Item) (t k : ℕ) → length i.table ≡ t → length i.key ≡ k → 1 ≤ t → t ≤ 64 → 1 ≤ k → k ≤ 255 → IsItem i
is_item i t k et ek t1 t2 k1 k2 = record { table_above = omega arith; table_below = omega arith; key_above = omega arith; key_below = omega arith }

pub item_read : (before : Option Item) (bytes rest : List ℕ) (i : Item) → next_item_after before bytes ≡ Got i rest → IsItemAfter before i
unfolding next_item_after
item_read before bytes rest i e =
    let tl = go_on-got (length_where (λ n. is_between 1 64 n && begins_table before n []) bytes) _ i rest e in
    let t = go_on-got (field (begins_table before tl.first) tl.first tl.behind) _ i rest tl.then_reads in
    let kl = go_on-got (length_where (λ n. is_between 1 255 n && begins_key before t.first n []) t.behind) _ i rest t.then_reads in
    let k = go_on-got (field (begins_key before t.first kl.first) kl.first kl.behind) _ i rest kl.then_reads in
    let made : Item = record { table = t.first; key = k.first } in
    let end : Got made k.behind ≡ Got i rest = k.then_reads in
    let is : made ≡ i = cc in
    let table_length = between 1 64 tl.first (begins_table before tl.first []) (length_got (λ n. is_between 1 64 n && begins_table before n []) bytes tl.behind tl.first tl.reads) in
    let key_length = between 1 255 kl.first (begins_key before t.first kl.first []) (length_got (λ n. is_between 1 255 n && begins_key before t.first n []) t.behind kl.behind kl.first kl.reads) in
    let table = field-got (begins_table before tl.first) tl.first tl.behind t.first t.behind t.reads in
    let key = field-got (begins_key before t.first kl.first) kl.first kl.behind k.first k.behind k.reads in
    let ranges = is_item made tl.first kl.first table.long key.long table_length.0 table_length.1.0 key_length.0 key_length.1.0 in
    let P : Item → Type 0 = λ j. IsItemAfter before j in
    subst P is (item_after before made ranges
    (ap (λ n. begins_table before n t.first) table.long ∙ table.passes table_length.0)
    (ap (λ n. begins_key before t.first n k.first) key.long ∙ key.passes key_length.0))

pub items_read : (bytes rest : List ℕ) (xs : List Item) → list_of 0 next_item_after bytes ≡ Got xs rest → IsChain IsItemAfter None xs
items_read bytes rest xs e = list_chain 0 IsItemAfter next_item_after item_read bytes rest xs e

ascends_behind : (x : Item) (xs : List Item) → IsChain IsItemAfter (Some x) xs → ascend (x ∷ xs) ≡ true
ascends_behind x [] h = refl
ascends_behind x (y ∷ ys) h = and_from _ _ h.0.1 (ascends_behind y ys h.1)

pub chain_ascends : (xs : List Item) → IsChain IsItemAfter None xs → IsTrue (ascend xs)
chain_ascends [] h = refl
chain_ascends (x ∷ xs) h = ascends_behind x xs h.1

pub each_item : (before : Option Item) (i : Item) → IsItemAfter before i → IsItem i
each_item None i h = h
each_item (Some b) i h = h.0
