-- How a field above a floor is read byte by byte.
use Rattle.std.proofs.Common.{◌≡◌, ℕ, zero, suc, ◌+◌, ◌-◌, ◌<◌, ◌≤◌, Bool, true, false, ◌&&◌, ◌||◌, List, [], ◌∷◌, ◌++◌, length, Option, Some, None, Ordering, Less, Equal, Greater, nat_eq, refl, sym, ap, subst, ◌∙◌, ◌⊎◌, inl, inr, arith}
use Rattle.std.specs.Ordering.{nat_cmp, is_lt, ordering_then}
use Rattle.std.specs.Prelude.{replicate}
use Rattle.std.proofs.lemmas.Bool.{lt-ltb, lt-leb, le-leb, cases_lt, and_left, and_right, and_from}
use Rattle.std.proofs.lemmas.Bool.Decides.{nat_tests}
use Rattle.byte_forms.specs.Reads.{Read, Got, Fault, go_on, pure}
use Rattle.byte_forms.specs.Cuts.{Cut, Takes, FaultsAt}
use Rattle.byte_forms.specs.Numbers.{number, number_of}
use Rattle.byte_forms.specs.Fields.{field, word}
use Rattle.byte_forms.proofs.NumberLemmas.{number_1}
use Rattle.byte_forms.proofs.FieldLemmas.{field-got}
use Rattle.byte_forms.proofs.FormLemmas.{word_form}
use Rattle.gr_ids.specs.Names.{bytes_eq, bytes_lt}
use Rattle.key_items.specs.Spelling.{greatest, length_where, is_between}
use Rattle.key_items.specs.Floors.{passes, left_at}

pub greatest-cons : (k x : ℕ) (front : List ℕ) → greatest (suc k) (x ∷ front) ≡ x ∷ greatest k front
greatest-cons k x front = (let less : suc k - suc (length front) ≡ k - length front = omega arith in ap (λ n. x ∷ (front ++ replicate n 255)) less)

-- ---- one byte

cmp_less : (x y : ℕ) → x < y → nat_cmp x y ≡ Less
cmp_less x y h = rw (lt-ltb x y h) refl

cmp_greater : (x y : ℕ) → y < x → nat_cmp x y ≡ Greater
cmp_greater x y h = grind (arith, nat_tests)

cmp_same : (x : ℕ) → nat_cmp x x ≡ Equal
cmp_same x = grind (arith, nat_tests)

eq_same : (x : ℕ) → nat_eq x x ≡ true
eq_same x = grind (arith, nat_tests)

eq_other : (x y : ℕ) → y < x → nat_eq x y ≡ false
eq_other x y h = grind (arith, nat_tests)

-- the test of a whole string
abbrev pub tested : List ℕ → Bool → List ℕ → Bool
tested floor itself string = bytes_lt floor string || (bytes_eq floor string && itself)

pub tested_above : (t x : ℕ) (ts xs : List ℕ) (itself : Bool) → t < x → tested (t ∷ ts) itself (x ∷ xs) ≡ true
tested_above t x ts xs itself h = rw (cmp_less t x h) refl

pub tested_below : (t x : ℕ) (ts xs : List ℕ) (itself : Bool) → x < t → tested (t ∷ ts) itself (x ∷ xs) ≡ false
tested_below t x ts xs itself h = rw (cmp_greater t x h, eq_other t x h) refl

pub tested_same : (x : ℕ) (ts xs : List ℕ) (itself : Bool) → tested (x ∷ ts) itself (x ∷ xs) ≡ tested ts itself xs
tested_same x ts xs itself = rw (cmp_same x, eq_same x) refl

pub passes_above : (t x k : ℕ) (ts front : List ℕ) (itself : Bool) → t < x → passes (t ∷ ts) itself (suc k) (x ∷ front) ≡ true
passes_above t x k ts front itself h = ap (tested (t ∷ ts) itself) (greatest-cons k x front) ∙ tested_above t x ts (greatest k front) itself h

pub passes_below : (t x k : ℕ) (ts front : List ℕ) (itself : Bool) → x < t → passes (t ∷ ts) itself (suc k) (x ∷ front) ≡ false
passes_below t x k ts front itself h = ap (tested (t ∷ ts) itself) (greatest-cons k x front) ∙ tested_below t x ts (greatest k front) itself h

pub passes_same : (x k : ℕ) (ts front : List ℕ) (itself : Bool) → passes (x ∷ ts) itself (suc k) (x ∷ front) ≡ passes ts itself k front
passes_same x k ts front itself = ap (tested (x ∷ ts) itself) (greatest-cons k x front) ∙ tested_same x ts (greatest k front) itself

-- ---- a field

left_at-go : (b : ℕ) (read : Read (List ℕ)) → left_at (go_on read (λ bytes. pure (b ∷ bytes))) ≡ left_at read
left_at-go b (Got x rest) = refl
left_at-go b (Fault left) = refl

field-goes : (begins : List ℕ → Bool) (n b : ℕ) (bs : List ℕ) → begins (b ∷ []) ≡ true → field begins (suc n) (b ∷ bs) ≡ go_on (field (λ front. begins (b ∷ front)) n bs) (λ bytes. pure (b ∷ bytes))
unfolding field
field-goes begins n b bs h = rw (field, h) refl

field-halts : (begins : List ℕ → Bool) (n b : ℕ) (bs : List ℕ) → begins (b ∷ []) ≡ false → field begins (suc n) (b ∷ bs) ≡ Fault (suc (length bs))
unfolding field
field-halts begins n b bs h = rw (field, h) refl

field-left : (begins : List ℕ → Bool) (n b : ℕ) (bs : List ℕ) → begins (b ∷ []) ≡ true → left_at (field begins (suc n) (b ∷ bs)) ≡ left_at (field (λ front. begins (b ∷ front)) n bs)
field-left begins n b bs h = ap left_at (field-goes begins n b bs h) ∙ left_at-go b (field (λ front. begins (b ∷ front)) n bs)

pub field-same : (f g : List ℕ → Bool) → ((xs : List ℕ) → f xs ≡ g xs) → (n : ℕ) (bytes : List ℕ) → field f n bytes ≡ field g n bytes
unfolding field
field-same f g h zero bytes = refl
field-same f g h (suc n) [] = refl
field-same f g h (suc n) (b ∷ bs) = by_test (field-same (λ front. f (b ∷ front)) (λ front. g (b ∷ front)) (λ xs. h (b ∷ xs)) n bs) (g (b ∷ [])) refl
  where
    by_test : field (λ front. f (b ∷ front)) n bs ≡ field (λ front. g (b ∷ front)) n bs → (t : Bool) → g (b ∷ []) ≡ t → field f (suc n) (b ∷ bs) ≡ field g (suc n) (b ∷ bs)
    by_test later true e = field-goes f n b bs (h (b ∷ []) ∙ e) ∙ ap (λ r. go_on r (λ bytes. pure (b ∷ bytes))) later ∙ sym (field-goes g n b bs e)
    by_test later false e = field-halts f n b bs (h (b ∷ []) ∙ e) ∙ sym (field-halts g n b bs e)

field-enough : (begins : List ℕ → Bool) (n : ℕ) (bytes : List ℕ) → ((x : ℕ) (xs : List ℕ) → begins (x ∷ xs) ≡ true) → n ≤ length bytes → left_at (field begins n bytes) ≡ None
unfolding field
field-enough begins zero bytes h enough = refl
field-enough begins (suc n) [] h enough = absurd (omega arith)
field-enough begins (suc n) (b ∷ bs) h enough = field-left begins n b bs (h b []) ∙ field-enough (λ front. begins (b ∷ front)) n bs (λ x xs. h b (x ∷ xs)) (omega arith)

field-few : (begins : List ℕ → Bool) (n : ℕ) (bytes : List ℕ) → ((x : ℕ) (xs : List ℕ) → begins (x ∷ xs) ≡ true) → length bytes < n → left_at (field begins n bytes) ≡ Some 0
unfolding field
field-few begins zero bytes h few = absurd (omega arith)
field-few begins (suc n) [] h few = refl
field-few begins (suc n) (b ∷ bs) h few = field-left begins n b bs (h b []) ∙ field-few (λ front. begins (b ∷ front)) n bs (λ x xs. h b (x ∷ xs)) (omega arith)

-- a field above a floor, by its first byte
field_tie : (b k : ℕ) (bs ts : List ℕ) (itself : Bool) → passes ts itself k [] ≡ true → left_at (field (passes (b ∷ ts) itself (suc k)) (suc k) (b ∷ bs)) ≡ left_at (field (passes ts itself k) k bs)
field_tie b k bs ts itself can =
    field-left (passes (b ∷ ts) itself (suc k)) k b bs (passes_same b k ts [] itself ∙ can)
    ∙ ap left_at (field-same (λ front. passes (b ∷ ts) itself (suc k) (b ∷ front)) (passes ts itself k) (λ xs. passes_same b k ts xs itself) k bs)

field_stuck : (b k : ℕ) (bs ts : List ℕ) (itself : Bool) → passes ts itself k [] ≡ false → left_at (field (passes (b ∷ ts) itself (suc k)) (suc k) (b ∷ bs)) ≡ Some (suc (length bs))
field_stuck b k bs ts itself can = ap left_at (field-halts (passes (b ∷ ts) itself (suc k)) k b bs (passes_same b k ts [] itself ∙ can))

field_below : (t b k : ℕ) (bs ts : List ℕ) (itself : Bool) → b < t → left_at (field (passes (t ∷ ts) itself (suc k)) (suc k) (b ∷ bs)) ≡ Some (suc (length bs))
field_below t b k bs ts itself h = ap left_at (field-halts (passes (t ∷ ts) itself (suc k)) k b bs (passes_below t b k ts [] itself h))

-- ---- the same of bytes and a floor that are known by an equation

-- where so many bytes break off
abbrev pub outcome : List ℕ → Bool → ℕ → List ℕ → Option ℕ
outcome floor itself n bytes = left_at (field (passes floor itself n) n bytes)

pub outcome_done : (floor : List ℕ) (itself : Bool) (n : ℕ) (bytes : List ℕ) → n ≤ 0 → outcome floor itself n bytes ≡ None
unfolding field
outcome_done floor itself zero bytes h = refl
outcome_done floor itself (suc n) bytes h = absurd (omega arith)

pub outcome_empty : (floor : List ℕ) (itself : Bool) (n : ℕ) (bytes : List ℕ) → 0 < n → length bytes ≡ 0 → outcome floor itself n bytes ≡ Some 0
unfolding field
outcome_empty floor itself zero bytes pos e = absurd (omega arith)
outcome_empty floor itself (suc n) [] pos e = refl
outcome_empty floor itself (suc n) (b ∷ bs) pos e = absurd (omega arith)

-- what is answered where no byte is tested any more
pub record IsShortage (n : ℕ) (bytes : List ℕ) (answer : Option ℕ) : Type 0 where
  pub enough : n ≤ length bytes → answer ≡ None
  pub few : length bytes < n → answer ≡ Some 0

by_length : (begins : List ℕ → Bool) (n : ℕ) (bytes : List ℕ) (answer : Option ℕ) → ((x : ℕ) (xs : List ℕ) → begins (x ∷ xs) ≡ true) → IsShortage n bytes answer → answer ≡ left_at (field begins n bytes)
by_length begins n bytes answer h s =
    elim (cases_lt (length bytes) n) [
      | inl few ↦ s.few few ∙ sym (field-few begins n bytes h few)
      | inr enough ↦ s.enough enough ∙ sym (field-enough begins n bytes h enough)
    ]

-- behind a byte that is above the floor's, any byte passes
free : (t b k : ℕ) (ts bs : List ℕ) (itself : Bool) (answer : Option ℕ) → t < b → IsShortage (suc k) (b ∷ bs) answer → answer ≡ left_at (field (passes (t ∷ ts) itself (suc k)) (suc k) (b ∷ bs))
free t b k ts bs itself answer h s =
    let shorter : IsShortage k bs answer = record { enough = λ e. s.enough (omega arith); few = λ e. s.few (omega arith) } in
    by_length (λ front. passes (t ∷ ts) itself (suc k) (b ∷ front)) k bs answer (λ x xs. passes_above t b k ts (x ∷ xs) itself h) shorter
    ∙ sym (field-left (passes (t ∷ ts) itself (suc k)) k b bs (passes_above t b k ts [] itself h))

pub outcome_all : (floor : List ℕ) (itself : Bool) (n : ℕ) (bytes : List ℕ) (answer : Option ℕ) → 0 < n → length floor ≡ 0 → IsShortage n bytes answer → answer ≡ outcome floor itself n bytes
outcome_all [] itself zero bytes answer pos e s = absurd (omega arith)
outcome_all [] itself (suc n) bytes answer pos e s = by_length (passes [] itself (suc n)) (suc n) bytes answer (λ x xs. refl) s
outcome_all (t ∷ ts) itself n bytes answer pos e s = absurd (omega arith)

pub outcome_below : (floor : List ℕ) (itself : Bool) (n : ℕ) (bytes : List ℕ) (t b : ℕ) (ts bs : List ℕ) → 0 < n → bytes ≡ b ∷ bs → floor ≡ t ∷ ts → b < t → outcome floor itself n bytes ≡ Some (length bytes)
outcome_below floor itself zero bytes t b ts bs pos eb ef h = absurd (omega arith)
outcome_below floor itself (suc n) bytes t b ts bs pos eb ef h = rw (eb, ef) (field_below t b n bs ts itself h)

pub outcome_above : (floor : List ℕ) (itself : Bool) (n : ℕ) (bytes : List ℕ) (t b : ℕ) (ts bs : List ℕ) (answer : Option ℕ) → 0 < n → bytes ≡ b ∷ bs → floor ≡ t ∷ ts → t < b → IsShortage n bytes answer → answer ≡ outcome floor itself n bytes
outcome_above floor itself zero bytes t b ts bs answer pos eb ef h s = absurd (omega arith)
outcome_above floor itself (suc n) bytes t b ts bs answer pos eb ef h s =
    let here : IsShortage (suc n) (b ∷ bs) answer = subst (λ (ys : List ℕ). IsShortage (suc n) ys answer) eb s in
    rw (eb, ef) (free t b n ts bs itself answer h here)

pub outcome_stuck : (floor : List ℕ) (itself : Bool) (n : ℕ) (bytes : List ℕ) (t b : ℕ) (ts bs : List ℕ) → 0 < n → bytes ≡ b ∷ bs → floor ≡ t ∷ ts → b ≡ t → passes ts itself (n - 1) [] ≡ false → outcome floor itself n bytes ≡ Some (length bytes)
outcome_stuck floor itself zero bytes t b ts bs pos eb ef same h = absurd (omega arith)
outcome_stuck floor itself (suc n) bytes t b ts bs pos eb ef same h =
    let less : suc n - 1 ≡ n = omega arith in
    rw (eb, ef, ← same) (field_stuck b n bs ts itself (rw less at h))

pub outcome_tie : (floor : List ℕ) (itself : Bool) (n : ℕ) (bytes : List ℕ) (t b : ℕ) (ts bs : List ℕ) → 0 < n → bytes ≡ b ∷ bs → floor ≡ t ∷ ts → b ≡ t → passes ts itself (n - 1) [] ≡ true → outcome ts itself (n - 1) bs ≡ outcome floor itself n bytes
outcome_tie floor itself zero bytes t b ts bs pos eb ef same h = absurd (omega arith)
outcome_tie floor itself (suc n) bytes t b ts bs pos eb ef same h =
    let less : suc n - 1 ≡ n = omega arith in
    rw (eb, ef, ← same, less) (sym (field_tie b n bs ts itself (rw less at h)))

-- ---- what an outcome says of the field

pub is_fault : {A : Type 0} (read : Read A) (left : ℕ) → left_at read ≡ Some left → read ≡ Fault left
is_fault (Got x rest) left e = absurd cc
is_fault (Fault n) left e = (let same : n ≡ left = cc in ap Fault same)

pub field-within : (begins : List ℕ → Bool) (n : ℕ) (bytes : List ℕ) (left : ℕ) → left_at (field begins n bytes) ≡ Some left → left ≤ length bytes
unfolding field
field-within begins zero bytes left e = absurd cc
field-within begins (suc n) [] left e = (let none : 0 ≡ left = cc in omega arith)
field-within begins (suc n) (b ∷ bs) left e = by_test (λ r. field-within (λ front. begins (b ∷ front)) n bs left r) (begins (b ∷ [])) refl
  where
    by_test : (left_at (field (λ front. begins (b ∷ front)) n bs) ≡ Some left → left ≤ length bs) → (t : Bool) → begins (b ∷ []) ≡ t → left ≤ length (b ∷ bs)
    by_test later true et = (let le = later (sym (field-left begins n b bs et) ∙ e) in omega arith)
    by_test later false et =
        let here : Some (suc (length bs)) ≡ Some left = sym (ap left_at (field-halts begins n b bs et)) ∙ e in
        let same : suc (length bs) ≡ left = cc in
        omega arith

pub field_is_word : (begins : List ℕ → Bool) (n : ℕ) (bytes : List ℕ) → left_at (field begins n bytes) ≡ None → field begins n bytes ≡ word n bytes
field_is_word begins n bytes e = go (field begins n bytes) refl e
  where
    go : (read : Read (List ℕ)) → field begins n bytes ≡ read → left_at read ≡ None → field begins n bytes ≡ word n bytes
    go (Fault left) er e = absurd cc
    go (Got found rest) er e = (let f = field-got begins n bytes found rest er in er ∙ sym ((word_form n).reads found rest f.long) ∙ ap (word n) (sym f.parts))

-- ---- a length

pub length_passes : (test : ℕ → Bool) (bytes rest : List ℕ) (n : ℕ) → n < 256 → bytes ≡ number 1 n ++ rest → test n ≡ true → length_where test bytes ≡ Got n rest
unfolding field number_of
length_passes test bytes rest n small e h =
    let is : bytes ≡ n ∷ rest = e ∙ ap (λ xs. xs ++ rest) (number_1 n small) in
    let same : number_of (n ∷ []) ≡ n = omega arith in
    let goes = field-goes (λ bs. test (number_of bs)) 0 n rest (ap test same ∙ h) in
    ap (length_where test) is ∙ ap (λ r. go_on r (λ bs. pure (number_of bs))) goes ∙ ap (λ m. Got m rest) same

pub length_stops : (test : ℕ → Bool) (bytes rest : List ℕ) (n : ℕ) → n < 256 → bytes ≡ number 1 n ++ rest → test n ≡ false → length_where test bytes ≡ Fault (length bytes)
unfolding field number_of
length_stops test bytes rest n small e h =
    let is : bytes ≡ n ∷ rest = e ∙ ap (λ xs. xs ++ rest) (number_1 n small) in
    let same : number_of (n ∷ []) ≡ n = omega arith in
    let halts = field-halts (λ bs. test (number_of bs)) 0 n rest (ap test same ∙ h) in
    ap (length_where test) is ∙ ap (λ r. go_on r (λ bs. pure (number_of bs))) halts ∙ ap (λ bs. Fault (length bs)) (sym is)

pub length_ends : (test : ℕ → Bool) (bytes : List ℕ) → length bytes < 1 → length_where test bytes ≡ Fault 0
unfolding field
length_ends test [] h = refl
length_ends test (b ∷ bs) h = absurd (omega arith)

pub length-same : (f g : ℕ → Bool) → ((n : ℕ) → f n ≡ g n) → (bytes : List ℕ) → length_where f bytes ≡ length_where g bytes
length-same f g h bytes = ap (λ r. go_on r (λ bs. pure (number_of bs))) (field-same (λ bs. f (number_of bs)) (λ bs. g (number_of bs)) (λ xs. h (number_of xs)) 1 bytes)

-- ---- a length that is read, and one that isn't

-- a length from 1 to high with which a string passes
abbrev pub allowed : ℕ → List ℕ → Bool → ℕ → Bool
allowed high floor itself m = is_between 1 high m && passes floor itself m []

pub is_allowed : (high : ℕ) (floor : List ℕ) (itself : Bool) (n : ℕ) → (n ≡ 0 → ⊥) → n ≤ high → passes floor itself n [] ≡ true → allowed high floor itself n ≡ true
is_allowed high floor itself zero some below h = absurd (some refl)
is_allowed high floor itself (suc n) some below h = and_from _ _ (and_from _ _ (le-leb 1 (suc n) (omega arith)) (le-leb (suc n) high below)) h

pub is_outside : (high : ℕ) (floor : List ℕ) (itself : Bool) (n : ℕ) → (n ≡ 0) ⊎ ((n ≡ 0 → ⊥) × (high < n)) → allowed high floor itself n ≡ false
is_outside high floor itself n (inl none) = and_left _ _ (and_left _ _ (lt-leb 1 n (omega arith)))
is_outside high floor itself n (inr (some, above)) = and_left _ _ (and_right _ _ (lt-leb n high above))

pub is_stuck : (high : ℕ) (floor : List ℕ) (itself : Bool) (n : ℕ) → passes floor itself n [] ≡ false → allowed high floor itself n ≡ false
is_stuck high floor itself n h = and_right _ _ h

pub length_faults : (test : ℕ → Bool) (n at : ℕ) (old ahead new : Cut) → n < 256 → at + length old.left ≡ old.total → ahead ≡ old → ahead.left ≡ number 1 n ++ new.left → test n ≡ false → FaultsAt (length_where test) old at
length_faults test n at old ahead new small here same is h =
    let parts : old.left ≡ number 1 n ++ new.left = ap (λ c. c.left) (sym same) ∙ is in
    let back : length old.left ≡ old.total - at = omega arith in
    record { fault = length_stops test old.left new.left n small parts h ∙ ap Fault back; within = omega arith }

pub length_takes : (test : ℕ → Bool) (n : ℕ) (old ahead new : Cut) → n < 256 → ahead ≡ old → ahead.left ≡ number 1 n ++ new.left → new.total ≡ ahead.total → test n ≡ true → Takes (length_where test) old n new
length_takes test n old ahead new small same is whole h =
    record { value = length_passes test old.left new.left n small (ap (λ c. c.left) (sym same) ∙ is) h; whole = whole ∙ ap (λ c. c.total) same }

pub length_short : (test : ℕ → Bool) (old : Cut) → length old.left < 1 → FaultsAt (length_where test) old old.total
length_short test old h = (let none : 0 ≡ old.total - old.total = omega arith in record { fault = length_ends test old.left h ∙ ap Fault none; within = omega arith })

-- ---- a field that breaks off, and one that doesn't

pub above_faults : (begins : List ℕ → Bool) (n at left : ℕ) (old : Cut) → at + left ≡ old.total → left_at (field begins n old.left) ≡ Some left → FaultsAt (field begins n) old at
above_faults begins n at left old here e =
    let back : left ≡ old.total - at = omega arith in
    record { fault = is_fault (field begins n old.left) left e ∙ ap Fault back; within = omega arith }

-- a string that may not be the floor itself is above it
pub passes_strict : (floor : List ℕ) (n : ℕ) (front : List ℕ) → passes floor false n front ≡ bytes_lt floor (greatest n front)
passes_strict floor n front = or_nothing (bytes_lt floor (greatest n front)) (bytes_eq floor (greatest n front))
  where
    or_nothing : (s t : Bool) → s || (t && false) ≡ s
    or_nothing true t = refl
    or_nothing false true = refl
    or_nothing false false = refl
