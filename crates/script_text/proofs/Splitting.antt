-- Words, one after another.
use Rattle.std.proofs.Common.{◌≡◌, ◌==◌, ◌<◌, ◌≤◌, ◌+◌, cond, true, false, Bool, ℕ, suc, List, [], ◌∷◌, length, take, drop, refl, sym, ap}
use Rattle.std.proofs.Common.{◌∙◌, arith, not, ltb, inl, inr, Some}
use Rattle.std.proofs.lemmas.List.{take_all, drop_all, length-take-le}
use Rattle.std.proofs.lemmas.List.Splits.{slice_split_first}
use Rattle.std.proofs.lemmas.List.Sums.{prefix_len-le-length}
use Rattle.std.proofs.lemmas.Bool.Decides.{nat_tests}
use Rattle.std.proofs.lemmas.Bool.{cases_lt}
use Rattle.std.specs.List.{slice_split, onto_first, position_or_len, filter}
use Rattle.script_text.specs.Words.{words_of, first_word}

no_pass : (t : Bool) (n m : ℕ) → cond (not t) (1 + n) 0 ≡ suc m → (t ≡ false) × (n ≡ m)
no_pass true n m e = absurd (omega arith)
no_pass false n m e = (refl, omega arith)

-- where no element passes, the list is the one part
pub split_none : (p : ℕ → Bool) (xs : List ℕ) → position_or_len p xs ≡ length xs → slice_split p xs ≡ xs ∷ []
split_none p [] e = refl
split_none p (x ∷ xs) e =
    let h = no_pass (p x) (position_or_len p xs) (length xs) e in
    ap (λ (t : Bool). cond t ([] ∷ slice_split p xs) (onto_first x (slice_split p xs))) h.0 ∙ ap (onto_first x) (split_none p xs h.1)

-- a word before a place is the first one, unless it is empty
pub words_step : (rest : List ℕ) (end : ℕ) → end ≡ position_or_len (λ b. b == 32) rest → 0 < length rest
    → words_of rest ≡ cond (ltb 0 end) (take end rest ∷ words_of (drop (end + 1) rest)) (words_of (drop (end + 1) rest))
words_step rest end at some = elim (cases_lt end (length rest)) [ inl inside ↦ ended inside | inr past ↦ last past ]
  where
    ended : end < length rest → words_of rest ≡ cond (ltb 0 end) (take end rest ∷ words_of (drop (end + 1) rest)) (words_of (drop (end + 1) rest))
    ended inside =
        ap (filter (λ w. ltb 0 (length w))) (slice_split_first (λ b. b == 32) rest 0 (omega (arith, at)))
        ∙ ap (λ (n : ℕ). cond (ltb 0 (length (take n rest))) (take n rest ∷ words_of (drop (n + 1) rest)) (words_of (drop (n + 1) rest))) (sym at)
        ∙ ap (λ (n : ℕ). cond (ltb 0 n) (take end rest ∷ words_of (drop (end + 1) rest)) (words_of (drop (end + 1) rest)))
        (length-take-le end rest (omega arith))

    last : length rest ≤ end → words_of rest ≡ cond (ltb 0 end) (take end rest ∷ words_of (drop (end + 1) rest)) (words_of (drop (end + 1) rest))
    last past =
        let within = prefix_len-le-length (λ b. not (b == 32)) rest in
        let whole : position_or_len (λ b. b == 32) rest ≡ length rest = omega (arith, at, within) in
        ap (filter (λ w. ltb 0 (length w))) (split_none (λ b. b == 32) rest whole)
        ∙ ap (λ (n : ℕ). cond (ltb 0 n) (rest ∷ []) []) (sym whole ∙ sym at)
        ∙ ap (λ (t : List ℕ). cond (ltb 0 end) (t ∷ []) []) (sym (take_all end rest past))
        ∙ ap (λ (d : List ℕ). cond (ltb 0 end) (take end rest ∷ words_of d) (words_of d)) (sym (drop_all (end + 1) rest (omega arith)))

-- the first word was found
pub word_found : (rest line after : List ℕ) (end : ℕ)
    → words_of rest ≡ words_of line → end ≡ position_or_len (λ b. b == 32) rest → 0 < length rest → 0 < end → after ≡ drop (end + 1) rest
    → Some (take end rest, words_of after) ≡ first_word (words_of line)
word_found rest line after end same at some word behind =
    let yes : ltb 0 end ≡ true = grind (arith, nat_tests) in
    ap (λ (d : List ℕ). Some (take end rest, words_of d)) behind
    ∙ ap (λ (t : Bool). first_word (cond t (take end rest ∷ words_of (drop (end + 1) rest)) (words_of (drop (end + 1) rest)))) (sym yes)
    ∙ ap first_word (sym (words_step rest end at some)) ∙ ap first_word same
