-- A UUID above the one before, byte by byte: the bytes read, and the greatest bytes behind them.
use Rattle.std.proofs.Common.{◌≡◌, ℕ, zero, suc, ◌+◌, ◌-◌, ◌≤◌, ◌<◌, true, ◌&&◌, Option, List, [], ◌∷◌, ◌++◌, length, replicate, get_or, set, take, drop, refl, sym, ap, ◌∙◌, inl, inr, arith, length-append}
use Rattle.std.proofs.lemmas.Bool.{cases_lt}
use Rattle.std.proofs.lemmas.List.{length-take-le, drop_at}
use Rattle.byte_forms.specs.Reads.{Got}
use Rattle.byte_forms.specs.Fields.{word}
use Rattle.byte_forms.proofs.FieldLemmas.{word-got}
use Rattle.byte_forms.specs.Numbers.{are_bytes}
use Rattle.byte_forms.proofs.FieldLemmas.{are_bytes-take}
use Rattle.gtid_sets.specs.Spelling.{is_above, begins_uuid}

-- so many bytes, and the greatest ones behind them
abbrev pub padded : List ℕ → ℕ → List ℕ
padded bytes i = take i bytes ++ replicate (16 - i) 255

pub padded_next : (bytes : List ℕ) (i k : ℕ) → i < length bytes → set (take i bytes ++ replicate (suc k) 255) i (get_or bytes i 0) ≡ take (suc i) bytes ++ replicate k 255
padded_next [] i k lt = absurd (omega arith)
padded_next (b ∷ bs) zero k lt = refl
padded_next (b ∷ bs) (suc i) k lt = ap (λ xs. b ∷ xs) (padded_next bs i k (omega arith))

pub read_next : (bytes : List ℕ) (i : ℕ) (read : List ℕ) → i < 16 → i < length bytes → read ≡ padded bytes i → set read i (get_or bytes i 0) ≡ padded bytes (suc i)
read_next bytes i read small lt e =
    let some : 16 - i ≡ suc (16 - suc i) = omega arith in
    ap (λ xs. set xs i (get_or bytes i 0)) (e ∙ ap (λ k. take i bytes ++ replicate k 255) some) ∙ padded_next bytes i (16 - suc i) lt

pub begins_more : (before : Option (List ℕ)) (bytes : List ℕ) (i : ℕ) → ((j : ℕ) → 0 < j → j ≤ i → begins_uuid before (take j bytes) ≡ true) → begins_uuid before (take (suc i) bytes) ≡ true
    → (j : ℕ) → 0 < j → j ≤ suc i → begins_uuid before (take j bytes) ≡ true
begins_more before bytes i all next j some le = elim (cases_lt j (suc i)) [ inl lt ↦ all j some (omega arith) | inr ge ↦ (let same : suc i ≡ j = omega arith in ap (λ k. begins_uuid before (take k bytes)) (sym same) ∙ next) ]

pub begins_padded : (before : Option (List ℕ)) (bytes : List ℕ) (i : ℕ) → are_bytes bytes ≡ true → suc i ≤ length bytes → begins_uuid before (take (suc i) bytes) ≡ is_above before (padded bytes (suc i))
begins_padded before bytes i h le =
    let long : length (take (suc i) bytes) ≡ suc i = length-take-le (suc i) bytes le in
    ap (λ t. t && is_above before (take (suc i) bytes ++ replicate (16 - length (take (suc i) bytes)) 255)) (are_bytes-take (suc i) bytes h)
    ∙ ap (λ n. is_above before (take (suc i) bytes ++ replicate (16 - n) 255)) long

-- ---- the cutter behind so many bytes

pub word_drop : (n : ℕ) (bytes found rest : List ℕ) → word n bytes ≡ Got found rest → rest ≡ drop n bytes
word_drop n bytes found rest e = (let g = word-got n bytes found rest e in sym (ap (drop n) g.1 ∙ drop_at found rest n g.0))

pub word_left : (n : ℕ) (bytes found rest : List ℕ) → word n bytes ≡ Got found rest → length rest + n ≡ length bytes
word_left n bytes found rest e = (let g = word-got n bytes found rest e in omega (arith, ap length g.1, length-append found rest, g.0))
