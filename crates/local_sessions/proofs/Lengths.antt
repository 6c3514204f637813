-- How many bytes a transaction's spelling has.
use Rattle.std.proofs.Common.{◌≡◌, ℕ, ◌+◌, Bool, true, false, List, [], ◌∷◌, ◌++◌, length, length-append, refl, sym, ap, ◌∙◌, arith}
use Rattle.std.specs.Prelude.{if◌then◌else◌}
use Rattle.std.specs.List.{flat_map}
use Rattle.std.specs.Cmp.Lexicographic.{same_text}
use Rattle.byte_forms.specs.Numbers.{number}
use Rattle.byte_forms.specs.Lists.{several, counted}
use Rattle.byte_forms.proofs.NumberLemmas.{length-number}
use Rattle.gr_ids.specs.Names.{bytes_eq}
use Rattle.gtid_sets.specs.declared.run.Run.{Run}
use Rattle.gtid_sets.specs.Sets.{Gtids}
use Rattle.gtid_sets.specs.Canonical.{IsCanonical}
use Rattle.gtid_sets.specs.Spelling.{Interval, Source, interval_bytes, source_bytes, set_bytes, sources_of, with_first}
use Rattle.key_items.specs.declared.item.Item.{Item}
use Rattle.key_items.specs.declared.change.Change.{Change}
use Rattle.key_items.specs.declared.change.ChangeKind.{ChangeKind}
use Rattle.key_items.specs.declared.change.ChangeKind.TheVariants.{Insert as Inserts, Update as Updates, Delete as Deletes}
use Rattle.key_items.specs.Spelling.{item_bytes}
use Rattle.txn_forms.specs.declared.body.Txn.{Txn}
use Rattle.txn_forms.specs.declared.body.Body.TheVariants.{Txn as Writes}
use Rattle.txn_forms.specs.Bodies.{body_bytes, txn_bytes, flag}
use Rattle.txn_forms.specs.Changes.{change_bytes, kind_bytes, index_of}
use Rattle.local_sessions.specs.Sizes.{goes_on, runs_size, item_size, items_size, kind_size, changes_size}

pub no_runs : (rs : Gtids) → length rs ≡ 0 → runs_size rs ≡ 0
no_runs [] h = refl
no_runs (r ∷ rs) h = absurd (omega (arith, h))

-- ---- lists

both : (a b : List ℕ) (m n : ℕ) → length a ≡ m → length b ≡ n → length (a ++ b) ≡ m + n
both a b m n g h = rw (length-append a b, g, h) refl

count_of : {A : Type 0} (spelling : A → List ℕ) (xs : List A) (n : ℕ) → length (flat_map spelling xs) ≡ n → length (several spelling xs) ≡ 4 + n
count_of spelling xs n h = both (number 4 (length xs)) (flat_map spelling xs) 4 n (length-number 4 (length xs)) h

-- ---- items and changes

item_is : (i : Item) → length (item_bytes i) ≡ item_size i
item_is i =
    both (number 1 (length i.table)) (i.table ++ (number 1 (length i.key) ++ i.key)) 1 (length i.table + (1 + length i.key)) (length-number 1 (length i.table))
    (both i.table (number 1 (length i.key) ++ i.key) (length i.table) (1 + length i.key) refl (both (number 1 (length i.key)) i.key 1 (length i.key) (length-number 1 (length i.key)) refl))
    ∙ omega arith

items_are : (is : List Item) → length (flat_map item_bytes is) ≡ items_size is
items_are [] = refl
items_are (i ∷ is) = both (item_bytes i) (flat_map item_bytes is) (item_size i) (items_size is) (item_is i) (items_are is)

row_is : (row : List ℕ) → length (counted row) ≡ 4 + length row
row_is row = both (number 4 (length row)) row 4 (length row) (length-number 4 (length row)) refl

kind_is : (k : ChangeKind) → length (kind_bytes k) ≡ 1 + kind_size k
kind_is (Inserts row) = both (number 1 1) (counted row) 1 (4 + length row) (length-number 1 1) (row_is row)
kind_is (Updates row) = both (number 1 2) (counted row) 1 (4 + length row) (length-number 1 2) (row_is row)
kind_is Deletes = length-number 1 3

change_is : (is : List Item) (c : Change) → length (change_bytes is c) ≡ 5 + kind_size c.what
change_is is c = both (number 4 (index_of c.item is)) (kind_bytes c.what) 4 (1 + kind_size c.what) (length-number 4 (index_of c.item is)) (kind_is c.what) ∙ omega arith

changes_are : (is : List Item) (cs : List Change) → length (flat_map (change_bytes is) cs) ≡ changes_size cs
changes_are is [] = refl
changes_are is (c ∷ cs) = both (change_bytes is c) (flat_map (change_bytes is) cs) (5 + kind_size c.what) (changes_size cs) (change_is is c) (changes_are is cs)

-- ---- sets

abbrev intervals_length : List Interval → ℕ
intervals_length is = length (flat_map interval_bytes is)

abbrev sources_length : List Source → ℕ
sources_length ss = length (flat_map source_bytes ss)

interval_is : (i : Interval) → length (interval_bytes i) ≡ 16
interval_is i = both (number 8 i.first) (number 8 i.last) 8 8 (length-number 8 i.first) (length-number 8 i.last)

interval_more : (i : Interval) (is : List Interval) → intervals_length (i ∷ is) ≡ 16 + intervals_length is
interval_more i is = both (interval_bytes i) (flat_map interval_bytes is) 16 (intervals_length is) (interval_is i) refl

source_is : (u : List ℕ) (is : List Interval) → length (source_bytes (record { uuid = u; intervals = is })) ≡ length u + (4 + intervals_length is)
source_is u is = both u (several interval_bytes is) (length u) (4 + intervals_length is) refl (count_of interval_bytes is (intervals_length is) refl)

source_more : (u : List ℕ) (is : List Interval) (ss : List Source) → sources_length (record { uuid = u; intervals = is } ∷ ss) ≡ (length u + (4 + intervals_length is)) + sources_length ss
source_more u is ss = both (source_bytes (record { uuid = u; intervals = is })) (flat_map source_bytes ss) (length u + (4 + intervals_length is)) (sources_length ss) (source_is u is) refl

-- the first of these sources is this one
abbrev heads : List ℕ → List Source → Bool
heads u [] = false
heads u (s ∷ ss) = bytes_eq u s.uuid

heads_as : (u : List ℕ) (r : Run) (ss : List Source) → heads u (with_first r ss) ≡ bytes_eq u r.source
heads_as u r [] = refl
heads_as u r (s ∷ ss) = go (bytes_eq r.source s.uuid) refl
  where
    go : (b : Bool) → bytes_eq r.source s.uuid ≡ b → heads u (with_first r (s ∷ ss)) ≡ bytes_eq u r.source
    go true f = rw (f, with_first) (ap (bytes_eq u) (sym (same_text r.source s.uuid (sym f))))
    go false f = rw (f, with_first) refl

heads_on : (u : List ℕ) (rs : Gtids) → heads u (sources_of rs) ≡ goes_on u rs
heads_on u [] = refl
heads_on u (r ∷ rs) = heads_as u r (sources_of rs)

first_is : (r : Run) (ss : List Source) → length r.source ≡ 16 → sources_length (with_first r ss) ≡ (if heads r.source ss then 16 else 36) + sources_length ss
first_is r [] h =
    let one = source_more r.source (record { first = r.first; last = r.last } ∷ []) [] in
    one ∙ omega (arith, h, interval_more (record { first = r.first; last = r.last }) [])
first_is r (s ∷ ss) h = go (bytes_eq r.source s.uuid) refl
  where
    i : Interval
    i = record { first = r.first; last = r.last }

    go : (b : Bool) → bytes_eq r.source s.uuid ≡ b → sources_length (with_first r (s ∷ ss)) ≡ (if heads r.source (s ∷ ss) then 16 else 36) + sources_length (s ∷ ss)
    go true f = rw (f, with_first) (source_more s.uuid (i ∷ s.intervals) ss ∙ omega (arith, interval_more i s.intervals, source_more s.uuid s.intervals ss))
    go false f = rw (f, with_first) (source_more r.source (i ∷ []) (s ∷ ss) ∙ omega (arith, h, interval_more i []))

set_is : (rs : Gtids) → IsCanonical rs → sources_length (sources_of rs) ≡ runs_size rs
set_is [] k = refl
set_is (r ∷ rs) k =
    first_is r (sources_of rs) k.0.uuid.long
    ∙ (ap (λ b. (if b then 16 else 36) + sources_length (sources_of rs)) (heads_on r.source rs) ∙ ap (λ n. (if goes_on r.source rs then 16 else 36) + n) (set_is rs k.2))

-- ---- bodies

pub body_is : (t : Txn) → IsCanonical t.snapshot → length (body_bytes (Writes t)) ≡ (runs_size t.snapshot + (items_size t.items + changes_size t.changes)) + 14
body_is t k =
    let set = count_of source_bytes (sources_of t.snapshot) (runs_size t.snapshot) (set_is t.snapshot k) in
    let items = count_of item_bytes t.items (items_size t.items) (items_are t.items) in
    let changes = count_of (change_bytes t.items) t.changes (changes_size t.changes) (changes_are t.items t.changes) in
    let rest = both (several item_bytes t.items) (several (change_bytes t.items) t.changes) (4 + items_size t.items) (4 + changes_size t.changes) items changes in
    let sets = both (set_bytes t.snapshot) (several item_bytes t.items ++ several (change_bytes t.items) t.changes) (4 + runs_size t.snapshot) ((4 + items_size t.items) + (4 + changes_size t.changes)) set rest in
    let flags =
    both (number 1 (flag t.after)) (set_bytes t.snapshot ++ (several item_bytes t.items ++ several (change_bytes t.items) t.changes)) 1 ((4 + runs_size t.snapshot) + ((4 + items_size t.items) + (4 + changes_size t.changes)))
    (length-number 1 (flag t.after)) sets in
    both (number 1 1) (txn_bytes t) 1 (1 + ((4 + runs_size t.snapshot) + ((4 + items_size t.items) + (4 + changes_size t.changes)))) (length-number 1 1) flags ∙ omega arith
