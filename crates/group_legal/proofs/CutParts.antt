-- The parts into which the bytes of a large transaction are cut.
use Rattle.std.proofs.Common.{◌≡◌, ℕ, zero, suc, ◌+◌, ◌-◌, ◌*◌, ◌/◌, ◌%◌, ◌≤◌, ◌<◌, List, [], ◌∷◌, ◌++◌, sym, ap, ◌∙◌, length, take, drop, reverse, arith, append_assoc, append-nil}
use Rattle.std.proofs.lemmas.List.{reverse-append, reverse-reverse, take-take, drop-take, take-append-drop, drop-drop}
use Rattle.std.proofs.lemmas.Nat.{div-add-mod'}
use Rattle.name_forms.specs.OpenParts.{part_size, most_parts}
use Rattle.txn_forms.specs.declared.body.Part.{Part}
use Rattle.txn_forms.specs.Parts.{whole_bytes, most_bytes}
use Rattle.group_rules.specs.Parts.{cut_from, cut}

-- the part behind the first n
abbrev pub part_at : ℕ → ℕ → List ℕ → Part
part_at n c b = record { index = suc n; count = c; bytes = take part_size (drop (n * part_size) b) }

-- the first n parts, the last of them first
abbrev pub first_parts : ℕ → ℕ → List ℕ → List Part
first_parts zero c b = []
first_parts (suc n) c b = part_at n c b ∷ first_parts n c b

abbrev pub parts_in : List ℕ → ℕ
parts_in b = (length b + part_size - 1) / part_size

-- ---- a cut

cut_behind : (k n c : ℕ) (b : List ℕ) → n + k ≡ c → reverse (cut_from k c (drop (n * part_size) b)) ++ first_parts n c b ≡ first_parts c c b
cut_behind zero n c b e = let z : n ≡ c = omega (arith, e) in ap (λ m. first_parts m c b) z
cut_behind (suc k) n c b e =
    let x : Part = record { index = c - k; count = c; bytes = take part_size (drop (n * part_size) b) } in
    let xs : List Part = cut_from k c (drop part_size (drop (n * part_size) b)) in
    let first : c - k ≡ suc n = omega (arith, e) in
    let more : n * part_size + part_size ≡ suc n * part_size = omega arith in
    let behind : drop part_size (drop (n * part_size) b) ≡ drop (suc n * part_size) b = drop-drop part_size (n * part_size) b ∙ ap (λ m. drop m b) more in
    ap (λ l. l ++ first_parts n c b) (reverse-append (x ∷ []) xs)
    ∙ append_assoc (reverse xs) (x ∷ []) (first_parts n c b)
    ∙ ap (λ m. reverse xs ++ record { index = m; count = c; bytes = take part_size (drop (n * part_size) b) } ∷ first_parts n c b) first
    ∙ ap (λ y. reverse (cut_from k c y) ++ first_parts (suc n) c b) behind
    ∙ cut_behind k (suc n) c b (omega (arith, e))

none_more : (n : ℕ) → 0 + n ≡ n
none_more n = omega arith

-- the parts of a cut, the last one first
pub cut_is : (ps : List Part) (b : List ℕ) → reverse ps ≡ cut b → ps ≡ first_parts (parts_in b) (parts_in b) b
cut_is ps b e = sym (reverse-reverse ps) ∙ ap reverse e ∙ sym (append-nil (reverse (cut b))) ∙ cut_behind (parts_in b) 0 (parts_in b) b (none_more (parts_in b))

-- ---- joined again

take_add : (n m : ℕ) (xs : List ℕ) → take n xs ++ take m (drop n xs) ≡ take (n + m) xs
take_add n m xs = (λ k. sym (take-take n (n + m) xs (omega arith)) k ++ sym (drop-take n m xs) k) ∙ take-append-drop n (take (n + m) xs)

pub joined_more : (n : ℕ) (b : List ℕ) → take (n * part_size) b ++ take part_size (drop (n * part_size) b) ≡ take (suc n * part_size) b
joined_more n b = let more : n * part_size + part_size ≡ suc n * part_size = omega arith in take_add (n * part_size) part_size b ∙ ap (λ m. take m b) more

-- ---- how many

pub record IsCount (long c : ℕ) : Type 0 where
  pub two : 2 ≤ c
  pub few : c ≤ most_parts
  pub enough : long ≤ c * part_size
  pub needed : c * part_size < long + part_size

pub counted : (long : ℕ) → whole_bytes < long → long ≤ most_bytes → IsCount long ((long + part_size - 1) / part_size)
counted long a b =
    let split = div-add-mod' (long + part_size - 1) part_size in
    let rest : (long + part_size - 1) % part_size < part_size = omega arith in
    record { two = omega (arith, a, b, split, rest); few = omega (arith, a, b, split, rest); enough = omega (arith, a, b, split, rest); needed = omega (arith, a, b, split, rest) }
