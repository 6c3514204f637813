-- The two sides of the form of an item.
use Rattle.std.proofs.Common.{◌≡◌, ℕ, zero, suc, ◌+◌, ◌-◌, ◌<◌, ◌≤◌, Bool, true, false, ◌&&◌, ◌||◌, List, [], ◌∷◌, ◌++◌, length, Option, Some, None, ◌⊎◌, inl, inr, Ordering, Less, Equal, Greater, refl, sym, ap, ◌∙◌, arith, append_assoc}
use Rattle.std.specs.Prelude.{replicate, if◌then◌else◌}
use Rattle.std.specs.Ordering.{nat_cmp, is_lt, ordering_then}
use Rattle.std.specs.Cmp.Lexicographic.{slice_cmp}
use Rattle.std.proofs.lemmas.Bool.{cases_lt, and_parts, and_from, leb-true, ltb-true, le-leb}
use Rattle.byte_forms.specs.Numbers.{number, number_of, are_bytes}
use Rattle.byte_forms.specs.Reads.{Got, Fault, Reader, ◌>>=◌, pure}
use Rattle.byte_forms.specs.Fields.{field}
use Rattle.byte_forms.specs.Forms.{IsRead, IsSpelled}
use Rattle.byte_forms.proofs.NumberLemmas.{number_1}
use Rattle.byte_forms.proofs.FieldLemmas.{FrontsPass, go_on-got, field-again, field-got}
use Rattle.byte_forms.proofs.FormLemmas.{glue}
use Rattle.gr_ids.specs.Names.{bytes_eq, bytes_lt}
use Rattle.key_items.specs.Items.{Item, item_lt}
use Rattle.key_items.specs.Spelling.{IsItem, IsItemAfter, AreBytes, item_bytes, greatest, begins_table, begins_key, has_key_above, is_between, length_where, next_item_after}
use Rattle.key_items.specs.Floors.{passes}
use Rattle.key_items.proofs.Above.{greatest-cons, tested, tested_above, tested_below, tested_same, passes_above, passes_below, passes_same, passes_strict, length_passes}
use Rattle.key_items.proofs.ItemLemmas.{item_read, each_item}

-- ---- what is read was spelled

-- a length that is read, below 256, is its byte
length_spelled : (test : ℕ → Bool) (bytes rest : List ℕ) (n : ℕ) → n < 256 → length_where test bytes ≡ Got n rest → bytes ≡ number 1 n ++ rest
unfolding number_of
length_spelled test bytes rest n small e =
    let f = go_on-got (field (λ bs. test (number_of bs)) 1 bytes) (λ bs. pure (number_of bs)) n rest e in
    let inner = field-got (λ bs. test (number_of bs)) 1 bytes f.first f.behind f.reads in
    let g : Got (number_of f.first) f.behind ≡ Got n rest = f.then_reads in
    let is : number_of f.first ≡ n = cc in
    let same : f.behind ≡ rest = cc in
    inner.parts ∙ ap (λ xs. xs ++ f.behind) (one f.first inner.long is) ∙ ap (λ xs. number 1 n ++ xs) same
  where
    one : (found : List ℕ) → length found ≡ 1 → number_of found ≡ n → found ≡ number 1 n
    one [] l i = absurd (omega arith)
    one (b ∷ []) l i = (let is : b ≡ n = omega (arith, i) in ap (λ k. k ∷ []) is ∙ sym (number_1 n small))
    one (b ∷ c ∷ bs) l i = absurd (omega arith)

length_tested : (test : ℕ → Bool) (bytes rest : List ℕ) (n : ℕ) → length_where test bytes ≡ Got n rest → test n ≡ true
length_tested test bytes rest n e =
    let f = go_on-got (field (λ bs. test (number_of bs)) 1 bytes) (λ bs. pure (number_of bs)) n rest e in
    let inner = field-got (λ bs. test (number_of bs)) 1 bytes f.first f.behind f.reads in
    let g : Got (number_of f.first) f.behind ≡ Got n rest = f.then_reads in
    let is : number_of f.first ≡ n = cc in
    ap test (sym is) ∙ inner.passes (omega arith)

at_most : (low high n : ℕ) (t : Bool) → is_between low high n && t ≡ true → n ≤ high
at_most low high n t e = leb-true n high (and_parts _ _ (and_parts _ _ e).0).1

pub item_spelled : (before : Option Item) → IsSpelled (IsItemAfter before) item_bytes (next_item_after before)
unfolding next_item_after
item_spelled before = record { spells = λ bytes rest i e. (item_read before bytes rest i e, parts bytes rest i e) }
  where
    parts : (bytes rest : List ℕ) (i : Item) → next_item_after before bytes ≡ Got i rest → bytes ≡ item_bytes i ++ rest
    parts bytes rest i e =
        let tl = go_on-got (length_where (λ n. is_between 1 64 n && begins_table before n []) bytes) _ i rest e in
        let t = go_on-got (field (begins_table before tl.first) tl.first tl.behind) _ i rest tl.then_reads in
        let kl = go_on-got (length_where (λ n. is_between 1 255 n && begins_key before t.first n []) t.behind) _ i rest t.then_reads in
        let k = go_on-got (field (begins_key before t.first kl.first) kl.first kl.behind) _ i rest kl.then_reads in
        let made : Item = record { table = t.first; key = k.first } in
        let end : Got made k.behind ≡ Got i rest = k.then_reads in
        let is : made ≡ i = cc in
        let same : k.behind ≡ rest = cc in
        let table = field-got (begins_table before tl.first) tl.first tl.behind t.first t.behind t.reads in
        let key = field-got (begins_key before t.first kl.first) kl.first kl.behind k.first k.behind k.reads in
        let table_most = at_most 1 64 tl.first _ (length_tested (λ n. is_between 1 64 n && begins_table before n []) bytes tl.behind tl.first tl.reads) in
        let key_most = at_most 1 255 kl.first _ (length_tested (λ n. is_between 1 255 n && begins_key before t.first n []) t.behind kl.behind kl.first kl.reads) in
        let table_length = length_spelled (λ n. is_between 1 64 n && begins_table before n []) bytes tl.behind tl.first (omega (arith, table_most)) tl.reads in
        let key_length = length_spelled (λ n. is_between 1 255 n && begins_key before t.first n []) t.behind kl.behind kl.first (omega (arith, key_most)) kl.reads in
        let key_part = glue t.behind (number 1 kl.first) kl.behind k.first k.behind key_length key.parts in
        let table_part = glue tl.behind t.first t.behind (number 1 kl.first ++ k.first) k.behind table.parts key_part in
        let all : bytes ≡ (number 1 tl.first ++ (t.first ++ (number 1 kl.first ++ k.first))) ++ k.behind = glue bytes (number 1 tl.first) tl.behind (t.first ++ (number 1 kl.first ++ k.first)) k.behind table_length table_part in
        let lengths : number 1 tl.first ++ (t.first ++ (number 1 kl.first ++ k.first)) ≡ item_bytes made =
        ap (λ n. number 1 n ++ (t.first ++ (number 1 kl.first ++ k.first))) (sym table.long) ∙ ap (λ n. number 1 (length t.first) ++ (t.first ++ (number 1 n ++ k.first))) (sym key.long) in
        all ∙ ap (λ xs. xs ++ k.behind) lengths ∙ ap (λ (j : Item). item_bytes j ++ k.behind) is ∙ ap (λ xs. item_bytes i ++ xs) same

-- ---- what is spelled is read, where it is bytes

greatest-nil : (k : ℕ) → greatest (suc k) [] ≡ 255 ∷ greatest k []
greatest-nil k =
    let all : suc k - 0 ≡ suc k = omega arith in
    let rest : k - 0 ≡ k = omega arith in
    ap (λ n. replicate n 255) all ∙ ap (λ n. 255 ∷ replicate n 255) (sym rest)

-- no front yet, or the greatest byte: the greatest string is the same
nil_as_greatest : (floor : List ℕ) (itself : Bool) (k : ℕ) → passes floor itself (suc k) [] ≡ passes floor itself (suc k) (255 ∷ [])
nil_as_greatest floor itself k = ap (tested floor itself) (greatest-nil k ∙ sym (greatest-cons k 255 []))

-- each front of a string that is above the floor begins one that is
fronts_pass : (floor string front more : List ℕ) (itself : Bool) → front ++ more ≡ string → are_bytes string ≡ true → tested floor itself string ≡ true → passes floor itself (length string) front ≡ true
fronts_pass [] [] [] more itself e b h = h
fronts_pass [] [] (y ∷ front) more itself e b h = absurd cc
fronts_pass [] (x ∷ xs) [] more itself e b h = ap (tested [] itself) (greatest-nil (length xs))
fronts_pass [] (x ∷ xs) (y ∷ front) more itself e b h = ap (tested [] itself) (greatest-cons (length xs) y front)
fronts_pass (t ∷ ts) [] front more itself e b h = absurd cc
fronts_pass (t ∷ ts) (x ∷ xs) [] more itself e b h =
    let bytes = and_parts _ _ b in
    let small = ltb-true x 256 bytes.0 in
    nil_as_greatest (t ∷ ts) itself (length xs) ∙ by_order (cases_lt t 255) (cases_lt x t) small (λ k. fronts_pass ts xs [] xs itself refl bytes.1 k)
  where
    by_order : (t < 255) ⊎ (255 ≤ t) → (x < t) ⊎ (t ≤ x) → x < 256 → (tested ts itself xs ≡ true → passes ts itself (length xs) [] ≡ true) → passes (t ∷ ts) itself (suc (length xs)) (255 ∷ []) ≡ true
    by_order (inl less) r small later = passes_above t 255 (length xs) ts [] itself less
    by_order (inr most) (inl below) small later = (let no : tested (t ∷ ts) itself (x ∷ xs) ≡ false = tested_below t x ts xs itself below in absurd cc)
    by_order (inr most) (inr above) small later =
        let is : t ≡ 255 = omega (arith, most, above, small) in
        let same : x ≡ t = omega (arith, most, above, small) in
        let there : tested ts itself xs ≡ true = sym (tested_same t ts xs itself) ∙ ap (λ y. tested (t ∷ ts) itself (y ∷ xs)) (sym same) ∙ h in
        ap (λ y. passes (y ∷ ts) itself (suc (length xs)) (255 ∷ [])) is ∙ passes_same 255 (length xs) ts [] itself ∙ later there
fronts_pass (t ∷ ts) (x ∷ xs) (y ∷ front) more itself e b h =
    let bytes = and_parts _ _ b in
    let first : y ≡ x = cc in
    let rest : front ++ more ≡ xs = cc in
    ap (λ z. passes (t ∷ ts) itself (suc (length xs)) (z ∷ front)) first ∙ by_order (cases_lt t x) (cases_lt x t) (λ k. fronts_pass ts xs front more itself rest bytes.1 k)
  where
    by_order : (t < x) ⊎ (x ≤ t) → (x < t) ⊎ (t ≤ x) → (tested ts itself xs ≡ true → passes ts itself (length xs) front ≡ true) → passes (t ∷ ts) itself (suc (length xs)) (x ∷ front) ≡ true
    by_order (inl less) r later = passes_above t x (length xs) ts front itself less
    by_order (inr most) (inl below) later = (let no : tested (t ∷ ts) itself (x ∷ xs) ≡ false = tested_below t x ts xs itself below in absurd cc)
    by_order (inr most) (inr above) later =
        let same : t ≡ x = omega (arith, most, above) in
        let there : tested ts itself xs ≡ true = sym (tested_same x ts xs itself) ∙ ap (λ z. tested (z ∷ ts) itself (x ∷ xs)) (sym same) ∙ h in
        ap (λ z. passes (z ∷ ts) itself (suc (length xs)) (x ∷ front)) same ∙ passes_same x (length xs) ts front itself ∙ later there

longer : (floor : List ℕ) (m n : ℕ) → m ≤ n → bytes_lt floor (replicate m 255) ≡ true → bytes_lt floor (replicate n 255) ≡ true
longer [] zero n le h = absurd cc
longer [] (suc m) zero le h = absurd (omega arith)
longer [] (suc m) (suc n) le h = refl
longer (x ∷ xs) zero n le h = absurd cc
longer (x ∷ xs) (suc m) zero le h = absurd (omega arith)
longer (x ∷ xs) (suc m) (suc n) le h = go (nat_cmp x 255) h (λ k. longer xs m n (omega arith) k)
  where
    go : (o : Ordering) → is_lt (ordering_then o (slice_cmp nat_cmp xs (replicate m 255))) ≡ true → (bytes_lt xs (replicate m 255) ≡ true → bytes_lt xs (replicate n 255) ≡ true) → is_lt (ordering_then o (slice_cmp nat_cmp xs (replicate n 255))) ≡ true
    go Less h later = refl
    go Equal h later = later h
    go Greater h later = absurd cc

or_first : (s t : Bool) → s ≡ true → s || t ≡ true
or_first true t e = refl
or_first false t e = absurd cc

or_second : (s t : Bool) → t ≡ true → s || t ≡ true
or_second true t e = refl
or_second false t e = e

key_above : (b i : Item) → IsItem i → are_bytes i.key ≡ true → bytes_lt b.key i.key ≡ true → has_key_above b ≡ true
key_above b i is bytes h =
    let at : bytes_lt b.key (greatest (length i.key) []) ≡ true = sym (passes_strict b.key (length i.key) []) ∙ fronts_pass b.key i.key [] i.key false refl bytes (or_first _ _ h) in
    longer b.key (length i.key - 0) (255 - 0) (omega (arith, is.key_below)) at

table_fronts : (before : Option Item) (i : Item) → IsItem i → IsItemAfter before i → AreBytes i → FrontsPass (begins_table before (length i.table)) i.table
table_fronts None i is fits bytes front more e = refl
table_fronts (Some b) i is fits bytes front more e = fronts_pass b.table i.table front more (has_key_above b) e bytes.0 (go (bytes_eq b.table i.table) refl fits.1)
  where
    go : (same : Bool) → bytes_eq b.table i.table ≡ same → (if same then bytes_lt b.key i.key else bytes_lt b.table i.table) ≡ true → tested b.table (has_key_above b) i.table ≡ true
    go true q h = or_second _ _ (and_from _ _ q (key_above b i is bytes.1 h))
    go false q h = or_first _ _ h

key_fronts : (before : Option Item) (i : Item) → IsItemAfter before i → AreBytes i → FrontsPass (begins_key before i.table (length i.key)) i.key
key_fronts None i fits bytes front more e = refl
key_fronts (Some b) i fits bytes front more e = go (bytes_eq b.table i.table) refl fits.1
  where
    go : (same : Bool) → bytes_eq b.table i.table ≡ same → (if same then bytes_lt b.key i.key else bytes_lt b.table i.table) ≡ true → (if same then bytes_lt b.key (greatest (length i.key) front) else true) ≡ true
    go true q h = sym (passes_strict b.key (length i.key) front) ∙ fronts_pass b.key i.key front more false e bytes.1 (or_first _ _ h)
    go false q h = refl

spread : (a b c d rest : List ℕ) → (a ++ (b ++ (c ++ d))) ++ rest ≡ a ++ (b ++ (c ++ (d ++ rest)))
spread a b c d rest = append_assoc a (b ++ (c ++ d)) rest ∙ ap (λ xs. a ++ xs) (append_assoc b (c ++ d) rest ∙ ap (λ xs. b ++ xs) (append_assoc c d rest))

between_true : (low high n : ℕ) (t : Bool) → low ≤ n → n ≤ high → t ≡ true → is_between low high n && t ≡ true
between_true low high n t above below e = and_from _ _ (and_from _ _ (le-leb low n above) (le-leb n high below)) e

pub item_is_read : (before : Option Item) → IsRead (λ i. IsItemAfter before i × AreBytes i) item_bytes (next_item_after before)
unfolding next_item_after
item_is_read before = record { reads = λ i rest fits. back i rest (each_item before i fits.0) fits.0 fits.1 }
  where
    back : (i : Item) (rest : List ℕ) → IsItem i → IsItemAfter before i → AreBytes i → next_item_after before (item_bytes i ++ rest) ≡ Got i rest
    back i rest is fits bytes =
        let tf = table_fronts before i is fits bytes in
        let kf = key_fronts before i fits bytes in
        let behind_key = i.key ++ rest in
        let behind_table = number 1 (length i.key) ++ behind_key in
        let table_length = length_passes (λ n. is_between 1 64 n && begins_table before n []) (number 1 (length i.table) ++ (i.table ++ behind_table)) (i.table ++ behind_table) (length i.table) (omega (arith, is.table_below)) refl (between_true 1 64 (length i.table) _ is.table_above is.table_below (tf [] i.table refl)) in
        let table = field-again (begins_table before (length i.table)) i.table behind_table tf in
        let key_length = length_passes (λ n. is_between 1 255 n && begins_key before i.table n []) behind_table behind_key (length i.key) (omega (arith, is.key_below)) refl (between_true 1 255 (length i.key) _ is.key_above is.key_below (kf [] i.key refl)) in
        let key = field-again (begins_key before i.table (length i.key)) i.key rest kf in
        rw (spread (number 1 (length i.table)) i.table (number 1 (length i.key)) i.key rest, table_length, table, key_length, key) refl
