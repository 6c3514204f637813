-- What a field reads, and where its fault stands.
use Rattle.std.proofs.Common.{◌≡◌, ℕ, zero, suc, ◌+◌, ◌-◌, ◌*◌, ◌/◌, ◌%◌, ◌^◌, ◌<◌, ◌≤◌, Bool, true, false, ◌&&◌, List, [], ◌∷◌, ◌++◌, length, get_or, take, drop, ◌⊎◌, inl, inr, refl, sym, ap, subst, ◌∙◌, arith, add-one, cond, length-append, ltb, leb}
use Rattle.std.proofs.lemmas.List.{take-append-drop, take_more, length-take-le}
use Rattle.std.proofs.lemmas.Bool.{and_parts, and_from, and_left, and_right, leb-true, le-leb, lt-leb, lt-ltb}
use Rattle.std.proofs.lemmas.Nat.{div-mul-add, le-div, pow-add}
use Rattle.std.proofs.Math.Nat.{pow-suc, div-one, div-mul-le_self, lt-div-mul-add}
use Rattle.byte_forms.specs.Numbers.{number, number_of, are_bytes}
use Rattle.byte_forms.specs.Reads.{Read, Got, Fault, Reader, go_on, ◌>>=◌, pure}
use Rattle.byte_forms.specs.Fields.{field, word, begins_number, number_in}
use Rattle.byte_forms.proofs.NumberLemmas.{span_pos, length-number, are_bytes-number, number_of-append, number_of-below, number_of-number, number-number_of}

-- ---- what was read first, and what was read behind it

pub record Follows {A B : Type 0} (read : Read A) (next : A → Reader B) (y : B) (rest : List ℕ) : Type 0 where
  pub first : A
  pub behind : List ℕ
  pub reads : read ≡ Got first behind
  pub then_reads : next first behind ≡ Got y rest

pub go_on-got : {A B : Type 0} (read : Read A) (next : A → Reader B) (y : B) (rest : List ℕ) → go_on read next ≡ Got y rest → Follows read next y rest
go_on-got (Got x behind) next y rest e = record { first = x; behind = behind; reads = refl; then_reads = e }
go_on-got (Fault left) next y rest e = absurd cc

-- ---- fields

-- each front of the bytes passes
abbrev pub FrontsPass : (List ℕ → Bool) → List ℕ → Type 0
FrontsPass begins bytes = (front more : List ℕ) → front ++ more ≡ bytes → begins front ≡ true

deeper : (begins : List ℕ → Bool) (b : ℕ) (bs : List ℕ) → FrontsPass begins (b ∷ bs) → FrontsPass (λ front. begins (b ∷ front)) bs
deeper begins b bs h front more e = h (b ∷ front) more (ap (λ xs. b ∷ xs) e)

pub field-again : (begins : List ℕ → Bool) (bytes rest : List ℕ) → FrontsPass begins bytes → field begins (length bytes) (bytes ++ rest) ≡ Got bytes rest
unfolding field
field-again begins [] rest h = refl
field-again begins (b ∷ bs) rest h = rw (h (b ∷ []) bs refl, field-again (λ front. begins (b ∷ front)) bs rest (deeper begins b bs h)) refl

pub record IsField (begins : List ℕ → Bool) (n : ℕ) (bytes : List ℕ) (found : List ℕ) (rest : List ℕ) : Type 0 where
  pub parts : bytes ≡ found ++ rest
  pub long : length found ≡ n
  pub passes : 0 < n → begins found ≡ true

passes_on : (begins : List ℕ → Bool) (b n : ℕ) (bs : List ℕ) → length bs ≡ n → begins (b ∷ []) ≡ true → (0 < n → begins (b ∷ bs) ≡ true) → begins (b ∷ bs) ≡ true
passes_on begins b n [] long first later = first
passes_on begins b n (x ∷ xs) long first later = later (omega arith)

pub field-got : (begins : List ℕ → Bool) (n : ℕ) (bytes found rest : List ℕ) → field begins n bytes ≡ Got found rest → IsField begins n bytes found rest
unfolding field
field-got begins zero bytes found rest e =
    let none : [] ≡ found = cc in
    let same : bytes ≡ rest = cc in
    record { parts = subst (λ (xs : List ℕ). bytes ≡ xs ++ rest) none same; long = ap length (sym none); passes = λ pos. absurd (omega arith) }
field-got begins (suc n) [] found rest e = absurd cc
field-got begins (suc n) (b ∷ bs) found rest e = by_test (λ front behind r. field-got (λ front. begins (b ∷ front)) n bs front behind r) (begins (b ∷ [])) refl e
  where
    by_test : ((front behind : List ℕ) → field (λ front. begins (b ∷ front)) n bs ≡ Got front behind → IsField (λ front. begins (b ∷ front)) n bs front behind)
        → (t : Bool) → t ≡ begins (b ∷ []) → (elim t [ true ↦ go_on (field (λ front. begins (b ∷ front)) n bs) (λ bytes. pure (b ∷ bytes)) | false ↦ Fault (suc (length bs)) ]) ≡ Got found rest → IsField begins (suc n) (b ∷ bs) found rest
    by_test later false et er = absurd cc
    by_test later true et er =
        let f = go_on-got (field (λ front. begins (b ∷ front)) n bs) (λ bytes. pure (b ∷ bytes)) found rest er in
        let inner = later f.first f.behind f.reads in
        let is : b ∷ f.first ≡ found = (let g : Got (b ∷ f.first) f.behind ≡ Got found rest = f.then_reads in cc) in
        let same : f.behind ≡ rest = (let g : Got (b ∷ f.first) f.behind ≡ Got found rest = f.then_reads in cc) in
        record {
          parts = ap (λ xs. b ∷ xs) (inner.parts ∙ ap (λ xs. f.first ++ xs) same) ∙ ap (λ xs. xs ++ rest) is;
          long = ap length (sym is) ∙ ap suc inner.long;
          passes = λ pos. subst (λ (xs : List ℕ). begins xs ≡ true) is (passes_on begins b n f.first inner.long (sym et) inner.passes);
        }

-- where enough bytes are left and their fronts pass
pub field-whole : (begins : List ℕ → Bool) (n : ℕ) (bytes : List ℕ) → n ≤ length bytes → ((j : ℕ) → 0 < j → j ≤ n → begins (take j bytes) ≡ true) → field begins n bytes ≡ Got (take n bytes) (drop n bytes)
unfolding field
field-whole begins zero bytes enough h = refl
field-whole begins (suc n) [] enough h = absurd (omega arith)
field-whole begins (suc n) (b ∷ bs) enough h =
    rw (field, h 1 (omega arith) (omega arith), field-whole (λ front. begins (b ∷ front)) n bs (omega arith) (λ j pos le. h (suc j) (omega arith) (omega arith))) refl

-- where the bytes end before the field does, and their fronts pass
pub field-short : (begins : List ℕ → Bool) (n : ℕ) (bytes : List ℕ) → length bytes < n → ((j : ℕ) → 0 < j → j ≤ length bytes → begins (take j bytes) ≡ true) → field begins n bytes ≡ Fault 0
unfolding field
field-short begins zero bytes few h = absurd (omega arith)
field-short begins (suc n) [] few h = refl
field-short begins (suc n) (b ∷ bs) few h =
    rw (field, h 1 (omega arith) (omega arith), field-short (λ front. begins (b ∷ front)) n bs (omega arith) (λ j pos le. h (suc j) (omega arith) (omega arith))) refl

-- where the front of i bytes passes, and that of one byte more doesn't
pub field-stops : (begins : List ℕ → Bool) (n : ℕ) (bytes : List ℕ) (i left : ℕ) → i < n → i < length bytes → left + i ≡ length bytes → ((j : ℕ) → 0 < j → j ≤ i → begins (take j bytes) ≡ true) → begins (take (suc i) bytes) ≡ false → field begins n bytes ≡ Fault left
unfolding field
field-stops begins zero bytes i left lt few e h stops = absurd (omega arith)
field-stops begins (suc n) [] i left lt few e h stops = absurd (omega arith)
field-stops begins (suc n) (b ∷ bs) zero left lt few e h stops = (let same : suc (length bs) ≡ left = omega arith in rw (field, stops) (ap Fault same))
field-stops begins (suc n) (b ∷ bs) (suc i) left lt few e h stops =
    rw (field, h 1 (omega arith) (omega arith), field-stops (λ front. begins (b ∷ front)) n bs i left (omega arith) (omega arith) (omega arith) (λ j pos le. h (suc j) (omega arith) (omega arith)) stops) refl

-- ---- numbers

pub are_bytes_parts : (xs ys : List ℕ) → are_bytes (xs ++ ys) ≡ true → (are_bytes xs ≡ true) × (are_bytes ys ≡ true)
are_bytes_parts [] ys h = (refl, h)
are_bytes_parts (x ∷ xs) ys h =
    let parts = and_parts _ _ h in
    let later = are_bytes_parts xs ys parts.1 in
    (and_from _ _ parts.0 later.0, later.1)

div-up : (a b s : ℕ) → 0 < s → a ≤ b → a / s ≤ b / s
div-up a b s pos le = le-div (a / s) b s pos (omega (arith, div-mul-le_self a s))

-- the number of the front of a spelling is the front of the number
front-number : (k n : ℕ) (front more : List ℕ) → n < 256 ^ k → front ++ more ≡ number k n → number_of front ≡ n / 256 ^ (k - length front)
front-number k n front more small e =
    let bytes = are_bytes_parts front more (ap are_bytes e ∙ are_bytes-number k n) in
    let long : length front + length more ≡ k = sym (length-append front more) ∙ ap length e ∙ length-number k n in
    let is : k - length front ≡ length more = omega arith in
    let sum : number_of front * 256 ^ length more + number_of more ≡ n = sym (number_of-append front more) ∙ ap number_of e ∙ number_of-number k n small in
    let here : number_of front ≡ (number_of front * 256 ^ length more + number_of more) / 256 ^ length more = sym (div-mul-add (number_of front) (256 ^ length more) (number_of more) (number_of-below more bytes.1)) in
    here ∙ ap (λ m. m / 256 ^ length more) sum ∙ ap (λ m. n / 256 ^ m) (sym is)

pub fronts-number : (k low high n : ℕ) → low ≤ n → n ≤ high → n < 256 ^ k → FrontsPass (begins_number k low high) (number k n)
unfolding begins_number
fronts-number k low high n above below small front more e =
    let is = front-number k n front more small e in
    let bytes = are_bytes_parts front more (ap are_bytes e ∙ are_bytes-number k n) in
    let span = 256 ^ (k - length front) in
    and_from _ _ (and_from _ _ (and_from _ _ bytes.0 (le-leb _ _ (omega arith)))
    (le-leb _ _ (omega (arith, is, div-up low n span (span_pos _) above))))
    (le-leb _ _ (omega (arith, is, div-up n high span (span_pos _) below)))

pub number_in-again : (k low high n : ℕ) (rest : List ℕ) → low ≤ n → n ≤ high → n < 256 ^ k → number_in k low high (number k n ++ rest) ≡ Got n rest
unfolding number_in
number_in-again k low high n rest above below small =
    let again = field-again (begins_number k low high) (number k n) rest (fronts-number k low high n above below small) in
    let at : field (begins_number k low high) k (number k n ++ rest) ≡ Got (number k n) rest = subst (λ (m : ℕ). field (begins_number k low high) m (number k n ++ rest) ≡ Got (number k n) rest) (length-number k n) again in
    rw (at, number_of-number k n small) refl

pub record IsNumber (k low high : ℕ) (bytes : List ℕ) (n : ℕ) (rest : List ℕ) : Type 0 where
  pub parts : bytes ≡ number k n ++ rest
  pub above : low ≤ n
  pub below : n ≤ high
  pub small : n < 256 ^ k

begins_all : (k low high : ℕ) (bytes : List ℕ) → length bytes ≡ k → begins_number k low high bytes ≡ true → (are_bytes bytes ≡ true) × ((low ≤ number_of bytes) × (number_of bytes ≤ high))
unfolding begins_number
begins_all k low high bytes long h =
    let one : 256 ^ (k - length bytes) ≡ 1 = ap (λ m. 256 ^ m) (let none : k - length bytes ≡ 0 = omega arith in none) in
    let top = and_parts _ _ h in
    let mid = and_parts _ _ top.0 in
    let all = and_parts _ _ mid.0 in
    let high_is : high / 256 ^ (k - length bytes) ≡ high = ap (λ m. high / m) one ∙ div-one high in
    let low_is : low / 256 ^ (k - length bytes) ≡ low = ap (λ m. low / m) one ∙ div-one low in
    (all.0, (omega (arith, low_is, leb-true _ _ mid.1), omega (arith, high_is, leb-true _ _ top.1)))

pub number_in-got : (k low high n : ℕ) (bytes rest : List ℕ) → 0 < k → number_in k low high bytes ≡ Got n rest → IsNumber k low high bytes n rest
unfolding number_in
number_in-got k low high n bytes rest pos e =
    let f = go_on-got (field (begins_number k low high) k bytes) (λ bytes. pure (number_of bytes)) n rest e in
    let inner = field-got (begins_number k low high) k bytes f.first f.behind f.reads in
    let all = begins_all k low high f.first inner.long (inner.passes pos) in
    let g : Got (number_of f.first) f.behind ≡ Got n rest = f.then_reads in
    let is : number_of f.first ≡ n = cc in
    let same : f.behind ≡ rest = cc in
    let spelled : f.first ≡ number k n = sym (number-number_of f.first all.0) ∙ ap (λ j. number j (number_of f.first)) inner.long ∙ ap (number k) is in
    record {
      parts = inner.parts ∙ ap (λ xs. xs ++ f.behind) spelled ∙ ap (λ xs. number k n ++ xs) same;
      above = omega arith;
      below = omega arith;
      small = subst (λ (j : ℕ). n < 256 ^ j) inner.long (subst (λ (m : ℕ). m < 256 ^ length f.first) is (number_of-below f.first all.0));
    }

-- ---- reading byte by byte

pub are_bytes_from : (bytes : List ℕ) → ((i : ℕ) → get_or bytes i 0 < 256) → are_bytes bytes ≡ true
are_bytes_from [] h = refl
are_bytes_from (b ∷ bs) h = and_from _ _ (lt-ltb b 256 (h 0)) (are_bytes_from bs (λ i. h (suc i)))

pub are_bytes-take : (n : ℕ) (bytes : List ℕ) → are_bytes bytes ≡ true → are_bytes (take n bytes) ≡ true
are_bytes-take n bytes h = (are_bytes_parts (take n bytes) (drop n bytes) (ap are_bytes (take-append-drop n bytes) ∙ h)).0

pow_256 : (r : ℕ) → 2 ^ (8 * r) ≡ 256 ^ r
pow_256 zero = refl
pow_256 (suc r) =
    let more : 8 * suc r ≡ 8 * r + 8 = omega arith in
    ap (λ k. 2 ^ k) more ∙ pow-add 2 (8 * r) 8 ∙ ap (λ m. m * 256) (pow_256 r) ∙ sym (pow-suc 256 r)

pub number_of_more : (bytes : List ℕ) (i : ℕ) → i < length bytes → number_of (take (suc i) bytes) ≡ number_of (take i bytes) * 256 + get_or bytes i 0
unfolding number_of
number_of_more bytes i lt =
    let last : number_of (get_or bytes i 0 ∷ []) ≡ get_or bytes i 0 = omega arith in
    let split : take (suc i) bytes ≡ take i bytes ++ get_or bytes i 0 ∷ [] = ap (λ k. take k bytes) (sym (add-one i)) ∙ take_more bytes i 0 lt in
    ap number_of split ∙ number_of-append (take i bytes) (get_or bytes i 0 ∷ []) ∙ ap (λ m. number_of (take i bytes) * 256 + m) last

-- the number so far lies between the fronts of low and high
pub begins_more : (k low high i value later : ℕ) (bytes : List ℕ) → i < k → i < length bytes → low ≤ high → are_bytes bytes ≡ true → value ≡ number_of (take (suc i) bytes) → later ≡ 8 * (k - 1 - i)
    → low / 2 ^ later ≤ value → value ≤ high / 2 ^ later → begins_number k low high (take (suc i) bytes) ≡ true
unfolding begins_number
begins_more k low high i value later bytes lt few le all is is_later above below =
    let long : length (take (suc i) bytes) ≡ suc i = length-take-le (suc i) bytes (omega arith) in
    let rest : k - length (take (suc i) bytes) ≡ k - 1 - i = omega arith in
    let span : 2 ^ later ≡ 256 ^ (k - length (take (suc i) bytes)) = ap (λ m. 2 ^ m) is_later ∙ pow_256 (k - 1 - i) ∙ ap (λ m. 256 ^ m) (sym rest) in
    let up : low / 256 ^ (k - length (take (suc i) bytes)) ≤ number_of (take (suc i) bytes) = omega (arith, is, ap (λ m. low / m) span) in
    let down : number_of (take (suc i) bytes) ≤ high / 256 ^ (k - length (take (suc i) bytes)) = omega (arith, is, ap (λ m. high / m) span) in
    and_from _ _ (and_from _ _ (and_from _ _ (are_bytes-take (suc i) bytes all) (le-leb _ _ le)) (le-leb _ _ up)) (le-leb _ _ down)

-- it doesn't
pub begins_no_more : (k low high i value later : ℕ) (bytes : List ℕ) → i < k → i < length bytes → value ≡ number_of (take (suc i) bytes) → later ≡ 8 * (k - 1 - i)
    → (value < low / 2 ^ later) ⊎ (high / 2 ^ later < value) → begins_number k low high (take (suc i) bytes) ≡ false
unfolding begins_number
begins_no_more k low high i value later bytes lt few is is_later out =
    let long : length (take (suc i) bytes) ≡ suc i = length-take-le (suc i) bytes (omega arith) in
    let rest : k - length (take (suc i) bytes) ≡ k - 1 - i = omega arith in
    let span : 2 ^ later ≡ 256 ^ (k - length (take (suc i) bytes)) = ap (λ m. 2 ^ m) is_later ∙ pow_256 (k - 1 - i) ∙ ap (λ m. 256 ^ m) (sym rest) in
    elim out [
      | inl under ↦
          let down : number_of (take (suc i) bytes) < low / 256 ^ (k - length (take (suc i) bytes)) = omega (arith, is, ap (λ m. low / m) span) in
          and_left _ _ (and_right _ _ (lt-leb _ _ down))
      | inr over ↦
          let up : high / 256 ^ (k - length (take (suc i) bytes)) < number_of (take (suc i) bytes) = omega (arith, is, ap (λ m. high / m) span) in
          and_right _ _ (lt-leb _ _ up)
    ]

-- no number lies in an empty range
pub no_range : (k low high : ℕ) (bytes : List ℕ) → 0 < k → high < low → number_in k low high bytes ≡ Fault (length bytes)
unfolding number_in field begins_number
no_range zero low high bytes pos lt = absurd (omega arith)
no_range (suc k) low high [] pos lt = refl
no_range (suc k) low high (b ∷ bs) pos lt =
    let none : begins_number (suc k) low high (b ∷ []) ≡ false = and_left _ _ (and_left _ _ (and_right _ _ (lt-leb low high lt))) in
    rw (field, none) refl

pub number-whole : (k low high : ℕ) (bytes : List ℕ) → k ≤ length bytes → ((j : ℕ) → 0 < j → j ≤ k → begins_number k low high (take j bytes) ≡ true) → number_in k low high bytes ≡ Got (number_of (take k bytes)) (drop k bytes)
unfolding number_in
number-whole k low high bytes enough h = rw (field-whole (begins_number k low high) k bytes enough h) refl

pub number-short : (k low high : ℕ) (bytes : List ℕ) → length bytes < k → ((j : ℕ) → 0 < j → j ≤ length bytes → begins_number k low high (take j bytes) ≡ true) → number_in k low high bytes ≡ Fault 0
unfolding number_in
number-short k low high bytes few h = rw (field-short (begins_number k low high) k bytes few h) refl

pub number-stops : (k low high : ℕ) (bytes : List ℕ) (i : ℕ) → i < k → i < length bytes → ((j : ℕ) → 0 < j → j ≤ i → begins_number k low high (take j bytes) ≡ true) → begins_number k low high (take (suc i) bytes) ≡ false → number_in k low high bytes ≡ Fault (length bytes - i)
unfolding number_in
number-stops k low high bytes i lt few h stops =
    let left : (length bytes - i) + i ≡ length bytes = omega arith in
    rw (field-stops (begins_number k low high) k bytes i (length bytes - i) lt few left h stops) refl

-- ---- slices

pub word-whole : (n : ℕ) (bytes : List ℕ) → n ≤ length bytes → word n bytes ≡ Got (take n bytes) (drop n bytes)
unfolding word
word-whole n bytes enough = rw (le-leb n (length bytes) enough) refl

pub word-short : (n : ℕ) (bytes : List ℕ) → length bytes < n → word n bytes ≡ Fault 0
unfolding word
word-short n bytes few = rw (lt-leb n (length bytes) few) refl

-- what a word is
pub word-got : (n : ℕ) (bytes found rest : List ℕ) → word n bytes ≡ Got found rest → (length found ≡ n) × (bytes ≡ found ++ rest)
unfolding word
word-got n bytes found rest e = by_test (leb n (length bytes)) refl e
  where
    by_test : (t : Bool) → leb n (length bytes) ≡ t → cond t (Got (take n bytes) (drop n bytes)) (Fault 0) ≡ Got found rest → (length found ≡ n) × (bytes ≡ found ++ rest)
    by_test false h g = absurd cc
    by_test true h g =
        let front : take n bytes ≡ found = cc in
        let back : drop n bytes ≡ rest = cc in
        (ap length (sym front) ∙ length-take-le n bytes (leb-true _ _ h), sym (take-append-drop n bytes) ∙ ap (λ xs. xs ++ drop n bytes) front ∙ ap (λ xs. found ++ xs) back)
