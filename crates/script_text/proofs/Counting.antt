-- The words of a line, counted.
use Rattle.std.proofs.Common.{◌≡◌, List, [], ◌∷◌, Some, None, refl}
use Rattle.std.specs.Prelude.{if◌then◌else◌}
use Rattle.script_text.specs.Words.{Text, ◌>>=◌, first_word, has_none, one_word, two_words, three_words, four_words}

pub one_step : (ws : List Text) → one_word ws ≡ first_word ws >>= (λ f. if has_none f.1 then Some f.0 else None)
one_step [] = refl
one_step (a ∷ []) = refl
one_step (a ∷ b ∷ ws) = refl

pub two_step : (ws : List Text) → two_words ws ≡ first_word ws >>= (λ f. one_word f.1 >>= (λ b. Some (f.0, b)))
two_step [] = refl
two_step (a ∷ []) = refl
two_step (a ∷ b ∷ []) = refl
two_step (a ∷ b ∷ c ∷ ws) = refl

pub three_step : (ws : List Text) → three_words ws ≡ first_word ws >>= (λ f. two_words f.1 >>= (λ r. Some (f.0, r.0, r.1)))
three_step [] = refl
three_step (a ∷ []) = refl
three_step (a ∷ b ∷ []) = refl
three_step (a ∷ b ∷ c ∷ []) = refl
three_step (a ∷ b ∷ c ∷ d ∷ ws) = refl

pub four_step : (ws : List Text) → four_words ws ≡ first_word ws >>= (λ f. three_words f.1 >>= (λ r. Some (f.0, r.0, r.1, r.2)))
four_step [] = refl
four_step (a ∷ []) = refl
four_step (a ∷ b ∷ []) = refl
four_step (a ∷ b ∷ c ∷ []) = refl
four_step (a ∷ b ∷ c ∷ d ∷ []) = refl
four_step (a ∷ b ∷ c ∷ d ∷ e ∷ ws) = refl
