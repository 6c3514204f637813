-- The two sides of the basic forms, and how forms are put together.
use Rattle.std.proofs.Common.{◌≡◌, ℕ, zero, suc, ◌+◌, ◌-◌, ◌*◌, ◌/◌, ◌%◌, ◌^◌, ◌<◌, ◌≤◌, Bool, true, false, ◌&&◌, List, [], ◌∷◌, ◌++◌, length, take, drop, Option, Some, None, refl, sym, ap, subst, ◌∙◌, arith, append_assoc, length-append}
use Rattle.std.proofs.lemmas.List.{take_at, drop_at, append-nil}
use Rattle.std.specs.List.{flat_map}
use Rattle.byte_forms.specs.Numbers.{number, number_of, are_bytes}
use Rattle.byte_forms.specs.Reads.{Read, Got, Fault, Reader, go_on, ◌>>=◌, pure, at_end, whole}
use Rattle.byte_forms.specs.Fields.{field, word, begins_number, number_in}
use Rattle.byte_forms.specs.Lists.{several, counted, elements, IsChain, list_of, bytes_in}
use Rattle.byte_forms.specs.Forms.{IsRead, IsSpelled, IsForm}
use Rattle.byte_forms.proofs.FieldLemmas.{go_on-got, word-whole, word-got, number_in-again, number_in-got}

pub word_form : (n : ℕ) → IsForm (λ bytes. length bytes ≡ n) (λ bytes. bytes) (word n)
word_form n = record {
  reads = λ x rest fits.
      (let enough : n ≤ length (x ++ rest) = omega (arith, length-append x rest) in
      rw (word-whole n (x ++ rest) enough, take_at x rest n fits, drop_at x rest n fits) refl);
  spells = λ bytes rest x e. word-got n bytes x rest e;
}

pub number_form : (k low high : ℕ) → 0 < k → IsForm (λ n. (low ≤ n) × (n ≤ high) × (n < 256 ^ k)) (number k) (number_in k low high)
number_form k low high pos = record {
  reads = λ n rest fits. number_in-again k low high n rest fits.0 fits.1 fits.2;
  spells = λ bytes rest n e. (let f = number_in-got k low high n bytes rest pos e in ((f.above, f.below, f.small), f.parts));
}

pub form_read : {A : Type 0} {Fits : A → Type 0} {spelling : A → List ℕ} {read : Reader A} → IsForm Fits spelling read → IsRead Fits spelling read
form_read form = record { reads = form.reads }

pub form_spelled : {A : Type 0} {Fits : A → Type 0} {spelling : A → List ℕ} {read : Reader A} → IsForm Fits spelling read → IsSpelled Fits spelling read
form_spelled form = record { spells = form.spells }

-- no spelling begins another one
pub spelled_once : {A : Type 0} {Fits : A → Type 0} {spelling : A → List ℕ} {read : Reader A} → IsRead Fits spelling read → (x y : A) (a b : List ℕ) → Fits x → Fits y → spelling x ++ a ≡ spelling y ++ b → (x ≡ y) × (a ≡ b)
spelled_once {read = read} form x y a b fx fy e =
    let same : Got x a ≡ Got y b = sym (form.reads x a fx) ∙ ap read e ∙ form.reads y b fy in
    (cc, cc)

-- ---- lists

pub elements_read : {A : Type 0} (Fits : Option A → A → Type 0) (spelling : A → List ℕ) (read : Option A → Reader A) → ((before : Option A) → IsRead (Fits before) spelling (read before))
    → (n : ℕ) (before : Option A) (xs : List A) (rest : List ℕ) → IsChain Fits before xs × (length xs ≡ n) → elements read before n (flat_map spelling xs ++ rest) ≡ Got xs rest
unfolding elements
elements_read Fits spelling read forms zero before [] rest fits = refl
elements_read Fits spelling read forms zero before (x ∷ xs) rest fits = absurd (omega (arith, fits.1))
elements_read Fits spelling read forms (suc n) before [] rest fits = absurd (omega (arith, fits.1))
elements_read Fits spelling read forms (suc n) before (x ∷ xs) rest fits =
    let first = (forms before).reads x (flat_map spelling xs ++ rest) fits.0.0 in
    let others = elements_read Fits spelling read forms n (Some x) xs rest (fits.0.1, omega (arith, fits.1)) in
    rw (append_assoc (spelling x) (flat_map spelling xs) rest, first, others) refl

pub elements_spelled : {A : Type 0} (Fits : Option A → A → Type 0) (spelling : A → List ℕ) (read : Option A → Reader A) → ((before : Option A) → IsSpelled (Fits before) spelling (read before))
    → (n : ℕ) (before : Option A) (bytes rest : List ℕ) (xs : List A) → elements read before n bytes ≡ Got xs rest → (IsChain Fits before xs × (length xs ≡ n)) × (bytes ≡ flat_map spelling xs ++ rest)
unfolding elements
elements_spelled Fits spelling read forms zero before bytes rest [] e = ((tt, refl), cc)
elements_spelled Fits spelling read forms zero before bytes rest (x ∷ xs) e = absurd cc
elements_spelled {A} Fits spelling read forms (suc n) before bytes rest xs e =
    let f = go_on-got (read before bytes) (λ x. elements read (Some x) n >>= λ xs. pure (x ∷ xs)) xs rest e in
    let g = go_on-got (elements read (Some f.first) n f.behind) (λ xs. pure (f.first ∷ xs)) xs rest f.then_reads in
    let first = (forms before).spells bytes f.behind f.first f.reads in
    let others = elements_spelled Fits spelling read forms n (Some f.first) f.behind g.behind g.first g.reads in
    let end : Got (f.first ∷ g.first) g.behind ≡ Got xs rest = g.then_reads in
    let is : f.first ∷ g.first ≡ xs = cc in
    let same : g.behind ≡ rest = cc in
    let parts : bytes ≡ flat_map spelling (f.first ∷ g.first) ++ rest =
    first.1 ∙ ap (λ ys. spelling f.first ++ ys) (others.1 ∙ ap (λ ys. flat_map spelling g.first ++ ys) same) ∙ sym (append_assoc (spelling f.first) (flat_map spelling g.first) rest) in
    let there : List A → Type 0 = λ ys. (IsChain Fits before ys × (length ys ≡ suc n)) × (bytes ≡ flat_map spelling ys ++ rest) in
    subst there is (((first.0, others.0.0), ap suc others.0.1), parts)

-- a list, with a condition on each element in the light of the one before
abbrev pub IsListed : {A : Type 0} → ℕ → (Option A → A → Type 0) → List A → Type 0
IsListed least Fits xs = IsChain Fits None xs × (least ≤ length xs) × (length xs < 2 ^ 32)

pub list_read : {A : Type 0} (least : ℕ) (Fits : Option A → A → Type 0) (spelling : A → List ℕ) (read : Option A → Reader A) → ((before : Option A) → IsRead (Fits before) spelling (read before))
    → IsRead (IsListed least Fits) (several spelling) (list_of least read)
list_read least Fits spelling read forms = record {
  reads = λ xs rest fits.
      (let count = number_in-again 4 least 4294967295 (length xs) (flat_map spelling xs ++ rest) fits.1 (omega (arith, fits.2)) (omega (arith, fits.2)) in
      let all = elements_read Fits spelling read forms (length xs) None xs rest (fits.0, refl) in
      rw (append_assoc (number 4 (length xs)) (flat_map spelling xs) rest, count) all);
}

pub list_spelled : {A : Type 0} (least : ℕ) (Fits : Option A → A → Type 0) (spelling : A → List ℕ) (read : Option A → Reader A) → ((before : Option A) → IsSpelled (Fits before) spelling (read before))
    → IsSpelled (IsListed least Fits) (several spelling) (list_of least read)
list_spelled least Fits spelling read forms = record {
  spells = λ bytes rest xs e.
      (let f = go_on-got (number_in 4 least 4294967295 bytes) (elements read None) xs rest e in
      let count = number_in-got 4 least 4294967295 f.first bytes f.behind (omega arith) f.reads in
      let all = elements_spelled Fits spelling read forms f.first None f.behind rest xs f.then_reads in
      let is : length xs ≡ f.first = all.0.1 in
      let at_least : least ≤ length xs = omega (arith, is, count.above) in
      let small : length xs < 2 ^ 32 = omega (arith, is, count.small) in (
        (all.0.0, at_least, small),
        count.parts ∙ ap (λ ys. number 4 f.first ++ ys) all.1 ∙ ap (λ n. number 4 n ++ (flat_map spelling xs ++ rest)) (sym is) ∙ sym (append_assoc (number 4 (length xs)) (flat_map spelling xs) rest),
      ));
}

pub list_form : {A : Type 0} (least : ℕ) (Fits : Option A → A → Type 0) (spelling : A → List ℕ) (read : Option A → Reader A) → ((before : Option A) → IsForm (Fits before) spelling (read before))
    → IsForm (IsListed least Fits) (several spelling) (list_of least read)
list_form least Fits spelling read forms = record {
  reads = (list_read least Fits spelling read (λ before. form_read (forms before))).reads;
  spells = (list_spelled least Fits spelling read (λ before. form_spelled (forms before))).spells;
}

-- ---- bytes behind their count

pub counted_form : (low high : ℕ) → IsForm (λ bytes. (low ≤ length bytes) × (length bytes ≤ high) × (length bytes < 2 ^ 32)) counted (bytes_in low high)
counted_form low high = record {
  reads = λ xs rest fits.
      (let count = number_in-again 4 low high (length xs) (xs ++ rest) fits.0 fits.1 fits.2 in
      rw (append_assoc (number 4 (length xs)) xs rest, count) ((word_form (length xs)).reads xs rest refl));
  spells = λ bytes rest xs e.
      (let f = go_on-got (number_in 4 low high bytes) word xs rest e in
      let count = number_in-got 4 low high f.first bytes f.behind (omega arith) f.reads in
      let all = (word_form f.first).spells f.behind rest xs f.then_reads in
      let is : length xs ≡ f.first = all.0 in
      let above : low ≤ length xs = omega (arith, is, count.above) in
      let below : length xs ≤ high = omega (arith, is, count.below) in
      let small : length xs < 2 ^ 32 = omega (arith, is, count.small) in (
        (above, below, small),
        count.parts ∙ ap (λ ys. number 4 f.first ++ ys) all.1 ∙ ap (λ n. number 4 n ++ (xs ++ rest)) (sym is) ∙ sym (append_assoc (number 4 (length xs)) xs rest),
      ));
}

-- ---- one form behind another

-- the first of two forms in bytes from which the second one's value was read
pub record Step {A B : Type 0} (Fits : A → Type 0) (spelling : A → List ℕ) (next : A → Reader B) (bytes : List ℕ) (y : B) (rest : List ℕ) : Type 0 where
  pub first : A
  pub behind : List ℕ
  pub fits : Fits first
  pub parts : bytes ≡ spelling first ++ behind
  pub then_reads : next first behind ≡ Got y rest

pub spelled_step : {A B : Type 0} {Fits : A → Type 0} {spelling : A → List ℕ} {read : Reader A} → IsSpelled Fits spelling read → (next : A → Reader B) (bytes rest : List ℕ) (y : B) → (read >>= next) bytes ≡ Got y rest → Step Fits spelling next bytes y rest
spelled_step {read = read} form next bytes rest y e =
    let f = go_on-got (read bytes) next y rest e in
    let s = form.spells bytes f.behind f.first f.reads in
    record { first = f.first; behind = f.behind; fits = s.0; parts = s.1; then_reads = f.then_reads }

pub step : {A B : Type 0} {Fits : A → Type 0} {spelling : A → List ℕ} {read : Reader A} → IsForm Fits spelling read → (next : A → Reader B) (bytes rest : List ℕ) (y : B) → (read >>= next) bytes ≡ Got y rest → Step Fits spelling next bytes y rest
step form next bytes rest y e = spelled_step (form_spelled form) next bytes rest y e

-- the value that was put together
pub ends : {A : Type 0} (P : A → List ℕ → Type 0) (x y : A) (a b : List ℕ) → pure x a ≡ Got y b → P x a → P y b
ends {A} P x y a b e p =
    let g : Got x a ≡ Got y b = e in
    let value : x ≡ y = cc in
    let same : a ≡ b = cc in
    subst (λ (bs : List ℕ). P y bs) same (subst (λ (z : A). P z a) value p)

-- two spellings, one behind the other
pub glue : (bytes s b t c : List ℕ) → bytes ≡ s ++ b → b ≡ t ++ c → bytes ≡ (s ++ t) ++ c
glue bytes s b t c p q = p ∙ ap (λ xs. s ++ xs) q ∙ sym (append_assoc s t c)

-- a form is read from its spelling, and the next one from what follows
pub read_on : {A B : Type 0} {Fits : A → Type 0} {spelling : A → List ℕ} {read : Reader A} → IsRead Fits spelling read → (next : A → Reader B) (x : A) (more rest : List ℕ) → Fits x → (read >>= next) ((spelling x ++ more) ++ rest) ≡ next x (more ++ rest)
read_on {spelling = spelling} {read = read} form next x more rest fits =
    ap (λ bs. go_on (read bs) next) (append_assoc (spelling x) more rest) ∙ ap (λ r. go_on r next) (form.reads x (more ++ rest) fits)

pub read_last : {A B : Type 0} {Fits : A → Type 0} {spelling : A → List ℕ} {read : Reader A} → IsRead Fits spelling read → (next : A → Reader B) (x : A) (rest : List ℕ) → Fits x → (read >>= next) (spelling x ++ rest) ≡ next x rest
read_last {read = read} form next x rest fits = ap (λ r. go_on r next) (form.reads x rest fits)

pub reads_on : {A B : Type 0} {Fits : A → Type 0} {spelling : A → List ℕ} {read : Reader A} → IsForm Fits spelling read → (next : A → Reader B) (x : A) (more rest : List ℕ) → Fits x → (read >>= next) ((spelling x ++ more) ++ rest) ≡ next x (more ++ rest)
reads_on form next x more rest fits = read_on (form_read form) next x more rest fits

pub reads_last : {A B : Type 0} {Fits : A → Type 0} {spelling : A → List ℕ} {read : Reader A} → IsForm Fits spelling read → (next : A → Reader B) (x : A) (rest : List ℕ) → Fits x → (read >>= next) (spelling x ++ rest) ≡ next x rest
reads_last form next x rest fits = read_last (form_read form) next x rest fits

-- ---- a form that is all of the bytes

pub whole_spelled : {A : Type 0} {Fits : A → Type 0} {spelling : A → List ℕ} {read : Reader A} → IsSpelled Fits spelling read → (bytes : List ℕ) (x : A) → whole read bytes ≡ Got x [] → Fits x × (bytes ≡ spelling x)
whole_spelled {A} {Fits} {spelling} {read} form bytes x e =
    let f = go_on-got (read bytes) at_end x [] e in
    go f.first f.behind f.reads f.then_reads
  where
    go : (y : A) (behind : List ℕ) → read bytes ≡ Got y behind → at_end y behind ≡ Got x [] → Fits x × (bytes ≡ spelling x)
    go y [] r t =
        let same : y ≡ x = cc in
        let s = form.spells bytes [] y r in
        let there : A → Type 0 = λ z. Fits z × (bytes ≡ spelling z) in
        subst there same (s.0, s.1 ∙ append-nil (spelling y))
    go y (b ∷ bs) r t = absurd cc

pub whole_read : {A : Type 0} {Fits : A → Type 0} {spelling : A → List ℕ} {read : Reader A} → IsRead Fits spelling read → (x : A) → Fits x → whole read (spelling x) ≡ Got x []
whole_read {spelling = spelling} {read = read} form x fits = ap (λ bs. whole read bs) (sym (append-nil (spelling x))) ∙ ap (λ r. go_on r at_end) (form.reads x [] fits)
