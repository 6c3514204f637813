-- A log stands newest first in the rules of the group, and oldest first in those of a node.
use Rattle.std.proofs.Common.{eqb, eq-eqb, leb, ltb, append_assoc, append-nil, ◌≡◌, inl, inr, ℕ, zero, suc, ◌+◌, ◌≤◌, ◌<◌, true, false, Some, None, List, [], ◌∷◌, ◌++◌, refl, sym, ap, ◌∙◌, length, take, length-append, arith}
use Rattle.std.specs.Prelude.{slice_get, ◌==◌}
use Rattle.std.proofs.lemmas.Bool.{false≢true, cases_Bool, eqb-true, leb-true, leb-false, le-leb}
use Rattle.std.proofs.lemmas.List.Sums.{fold-append}
use Rattle.slot_values.specs.declared.value.Value.{Value}
use Rattle.slot_values.specs.Log.{founded, read, after}
use Rattle.group_rules.specs.Events.{Setup}
use Rattle.group_rules.specs.Steps.{group_of}
use Rattle.group_rules.specs.OneList.{reading_of, value_at, before_slot}

-- the other way round
abbrev pub flip : {A : Type 0} → List A → List A
flip [] = []
flip (x ∷ xs) = flip xs ++ x ∷ []

flip_append : {A : Type 0} (xs ys : List A) → flip (xs ++ ys) ≡ flip ys ++ flip xs
flip_append [] ys = sym (append-nil (flip ys))
flip_append (x ∷ xs) ys = ap (λ l. l ++ x ∷ []) (flip_append xs ys) ∙ append_assoc (flip ys) (flip xs) (x ∷ [])

pub flip_flip : {A : Type 0} (xs : List A) → flip (flip xs) ≡ xs
flip_flip [] = refl
flip_flip (x ∷ xs) = flip_append (flip xs) (x ∷ []) ∙ ap (λ l. x ∷ l) (flip_flip xs)

pub flip_length : {A : Type 0} (xs : List A) → length (flip xs) ≡ length xs
flip_length [] = refl
flip_length (x ∷ xs) = let a : length (flip xs ++ x ∷ []) ≡ length (flip xs) + 1 = length-append (flip xs) (x ∷ []) in let b = flip_length xs in omega (arith, a, b)

-- ---- reading

pub read_flip : (t : Setup) (l : List Value) → after (group_of t) (flip l) ≡ reading_of t l
read_flip t [] = refl
read_flip t (v ∷ l) = fold-append read (founded (group_of t)) (flip l) (v ∷ []) ∙ ap (λ r. read r v) (read_flip t l)

-- ---- the value of a slot

eqb_false : (a b : ℕ) → (a ≡ b → ⊥) → (a == b) ≡ false
eqb_false a b h = elim (cases_Bool (eqb a b)) [ inl q ↦ absurd (h (eqb-true a b q)) | inr q ↦ q ]

get_front : {A : Type 0} (xs ys : List A) (k : ℕ) → k < length xs → slice_get (xs ++ ys) k ≡ slice_get xs k
get_front [] ys k h = absurd (omega (arith, h))
get_front (x ∷ xs) ys zero h = refl
get_front (x ∷ xs) ys (suc k) h = get_front xs ys k (omega (arith, h))

get_last : {A : Type 0} (xs : List A) (x : A) → slice_get (xs ++ x ∷ []) (length xs) ≡ Some x
get_last [] x = refl
get_last (y ∷ xs) x = get_last xs x

get_past : {A : Type 0} (xs : List A) (k : ℕ) → length xs ≤ k → slice_get xs k ≡ None
get_past [] k h = refl
get_past (x ∷ xs) zero h = absurd (omega (arith, h))
get_past (x ∷ xs) (suc k) h = get_past xs k (omega (arith, h))

pub value_past : (l : List Value) (s : ℕ) → length l < s → value_at l s ≡ None
value_past [] s h = refl
value_past (v ∷ l) s h = ap (λ b. elim b [ true ↦ Some v | false ↦ value_at l s ]) (eqb_false s (suc (length l)) (λ e. absurd (omega (arith, h, e)))) ∙ value_past l s (omega (arith, h))

pub value_here : (v : Value) (l : List Value) → value_at (v ∷ l) (suc (length l)) ≡ Some v
value_here v l = ap (λ b. elim b [ true ↦ Some v | false ↦ value_at l (suc (length l)) ]) (eq-eqb (suc (length l)) (suc (length l)) refl)

pub value_below : (v : Value) (l : List Value) (s : ℕ) → s ≤ length l → value_at (v ∷ l) s ≡ value_at l s
value_below v l s h = ap (λ b. elim b [ true ↦ Some v | false ↦ value_at l s ]) (eqb_false s (suc (length l)) (λ e. absurd (omega (arith, h, e))))

pub get_flip : (l : List Value) (k : ℕ) → slice_get (flip l) k ≡ value_at l (suc k)
get_flip [] k = refl
get_flip (v ∷ l) k = elim (cases_Bool (ltb k (length l))) [
  | inl h ↦ (let lt : k < length l = leb-true (suc k) (length l) h in
      let len = flip_length l in
      get_front (flip l) (v ∷ []) k (omega (arith, lt, len)) ∙ (get_flip l k ∙ sym (value_below v l (suc k) (omega (arith, lt)))))
  | inr h ↦ elim (cases_Bool (eqb k (length l))) [
    | inl q ↦ (let e : k ≡ length l = eqb-true k (length l) q in
        let len = flip_length l in
        ap (λ z. slice_get (flip l ++ v ∷ []) z) (e ∙ sym len) ∙ (get_last (flip l) v ∙ (sym (value_here v l) ∙ ap (λ z. value_at (v ∷ l) (suc z)) (sym e))))
    | inr q ↦ (let ge : length l < suc k = leb-false (suc k) (length l) h in
        let ne : length l < k = omega (arith, ge, not_equal k (length l) q) in
        let len = flip_length (v ∷ l) in
        get_past (flip (v ∷ l)) k (omega (arith, ne, len)) ∙ sym (value_past (v ∷ l) (suc k) (omega (arith, ne))))
  ]
]
  where
    not_equal : (a b : ℕ) → eqb a b ≡ false → a ≡ b → ⊥
    not_equal a b h e = absurd (false≢true (sym h ∙ eq-eqb a b e))

-- ---- the log before a slot

pub before_above : (v : Value) (l : List Value) (s : ℕ) → s ≤ suc (length l) → before_slot (v ∷ l) s ≡ before_slot l s
before_above v l s h = ap (λ b. elim b [ true ↦ before_slot l s | false ↦ v ∷ l ]) (le-leb s (suc (length l)) h)

leb_no : (a b : ℕ) → b < a → leb a b ≡ false
leb_no a b h = elim (cases_Bool (leb a b)) [ inl q ↦ (let z = leb-true a b q in absurd (omega (arith, z, h))) | inr q ↦ q ]

pub before_all : (l : List Value) (s : ℕ) → length l < s → before_slot l s ≡ l
before_all [] s h = refl
before_all (v ∷ l) s h = ap (λ b. elim b [ true ↦ before_slot l s | false ↦ v ∷ l ]) (leb_no s (suc (length l)) (omega (arith, h)))

take_front : {A : Type 0} (xs ys : List A) (n : ℕ) → n ≤ length xs → take n (xs ++ ys) ≡ take n xs
take_front xs ys zero h = refl
take_front [] ys (suc n) h = absurd (omega (arith, h))
take_front (x ∷ xs) ys (suc n) h = ap (λ l. x ∷ l) (take_front xs ys n (omega (arith, h)))

take_all : {A : Type 0} (xs : List A) (n : ℕ) → length xs ≤ n → take n xs ≡ xs
take_all [] zero h = refl
take_all [] (suc n) h = refl
take_all (x ∷ xs) zero h = absurd (omega (arith, h))
take_all (x ∷ xs) (suc n) h = ap (λ l. x ∷ l) (take_all xs n (omega (arith, h)))

pub take_flip : (l : List Value) (n : ℕ) → flip (before_slot l (suc n)) ≡ take n (flip l)
take_flip [] n = sym (take_all [] n (omega arith))
take_flip (v ∷ l) n = elim (cases_Bool (leb n (length l))) [
  | inl h ↦ (let le : n ≤ length l = leb-true n (length l) h in
      let len = flip_length l in
      ap flip (before_above v l (suc n) (omega (arith, le))) ∙ (take_flip l n ∙ sym (take_front (flip l) (v ∷ []) n (omega (arith, le, len)))))
  | inr h ↦ (let gt : length l < n = leb-false n (length l) h in
      let len = flip_length (v ∷ l) in
      ap flip (before_all (v ∷ l) (suc n) (omega (arith, gt))) ∙ sym (take_all (flip (v ∷ l)) n (omega (arith, gt, len))))
]

-- the length of the log before a slot
pub before_length : (l : List Value) (n : ℕ) → n ≤ length l → length (before_slot l (suc n)) ≡ n
before_length [] n h = omega (arith, h)
before_length (v ∷ l) n h = elim (cases_Bool (leb n (length l))) [
  | inl q ↦ (let le : n ≤ length l = leb-true n (length l) q in ap length (before_above v l (suc n) (omega (arith, le))) ∙ before_length l n le)
  | inr q ↦ (let gt : length l < n = leb-false n (length l) q in let e : n ≡ suc (length l) = omega (arith, gt, h) in ap length (before_all (v ∷ l) (suc n) (omega (arith, gt))) ∙ sym e)
]

-- with the value of the next slot it is the log before the one after that
pub before_next : (l : List Value) (n : ℕ) (v : Value) → value_at l (suc n) ≡ Some v → before_slot l (suc (suc n)) ≡ v ∷ before_slot l (suc n)
before_next [] n v h = absurd (no_value h)
  where
    no_value : None ≡ Some v → ⊥
    no_value e = absurd (cc e)
before_next (u ∷ l) n v h = elim (cases_Bool (leb (suc n) (length l))) [
  | inl q ↦ (let le : suc n ≤ length l = leb-true (suc n) (length l) q in
      before_above u l (suc (suc n)) (omega (arith, le)) ∙ (before_next l n v (sym (value_below u l (suc n) le) ∙ h) ∙ ap (λ z. v ∷ z) (sym (before_above u l (suc n) (omega (arith, le))))))
  | inr q ↦ (let gt : length l < suc n = leb-false (suc n) (length l) q in
      elim (cases_Bool (eqb n (length l))) [
        | inl e ↦ (let same : n ≡ length l = eqb-true n (length l) e in
            let is_v : Some u ≡ Some v = sym (value_here u l) ∙ (ap (λ z. value_at (u ∷ l) (suc z)) (sym same) ∙ h) in
            let uv : u ≡ v = cc in
            before_all (u ∷ l) (suc (suc n)) (omega (arith, same)) ∙ (ap (λ z. z ∷ l) uv ∙ ap (λ z. v ∷ z) (sym (before_above u l (suc n) (omega (arith, same)) ∙ before_all l (suc n) (omega (arith, same))))))
        | inr e ↦ absurd (absent (omega (arith, gt, not_equal e)))
      ])
]
  where
    not_equal : eqb n (length l) ≡ false → n ≡ length l → ⊥
    not_equal e z = absurd (false≢true (sym e ∙ eq-eqb n (length l) z))

    absent : length l < n → ⊥
    absent lt = let z : None ≡ Some v = sym (value_past (u ∷ l) (suc n) (omega (arith, lt))) ∙ h in absurd (cc)

-- ---- one log is the beginning of another

pub front_of : {A : Type 0} (xs ys : List A) → length ys ≤ length xs → ((k : ℕ) (u v : A) → slice_get xs k ≡ Some u → slice_get ys k ≡ Some v → u ≡ v) → ys ≡ take (length ys) xs
front_of xs [] h f = refl
front_of [] (y ∷ ys) h f = absurd (omega (arith, h))
front_of (x ∷ xs) (y ∷ ys) h f = ap (λ z. z ∷ ys) (sym (f 0 x y refl refl)) ∙ ap (λ l. x ∷ l) (front_of xs ys (omega (arith, h)) (λ k u v p q. f (suc k) u v p q))

pub get_take : {A : Type 0} (xs : List A) (n k : ℕ) → k < n → slice_get (take n xs) k ≡ slice_get xs k
get_take xs zero k h = absurd (omega (arith, h))
get_take [] (suc n) k h = refl
get_take (x ∷ xs) (suc n) zero h = refl
get_take (x ∷ xs) (suc n) (suc k) h = get_take xs n k (omega (arith, h))

pub take_less : {A : Type 0} (xs : List A) (n m : ℕ) → n ≤ m → take n (take m xs) ≡ take n xs
take_less xs zero m h = refl
take_less xs (suc n) zero h = absurd (omega (arith, h))
take_less [] (suc n) (suc m) h = refl
take_less (x ∷ xs) (suc n) (suc m) h = ap (λ l. x ∷ l) (take_less xs n m (omega (arith, h)))

pub take_whole : {A : Type 0} (xs ys : List A) → take (length xs) (xs ++ ys) ≡ xs
take_whole xs ys = take_front xs ys (length xs) (omega arith) ∙ take_all xs (length xs) (omega arith)

pub get_end : {A : Type 0} (xs : List A) (x : A) → slice_get (xs ++ x ∷ []) (length xs) ≡ Some x
get_end xs x = get_last xs x
