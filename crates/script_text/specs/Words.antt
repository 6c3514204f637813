-- The words of a line, and what is read of them one after another.
use Rattle.std.specs.Prelude.{ℕ, List, [], ◌∷◌, length, ◌==◌, Bool, true, false, nat_lt, slice_index, Option, Some, None, option_and_then}
use Rattle.std.specs.Prelude.{if◌then◌else◌}
use Rattle.std.specs.List.{slice_split, filter}

abbrev pub Text : Type 0
Text = List ℕ

infixl 10 ◌>>=◌
abbrev pub ◌>>=◌ : {A B : Type 0} → Option A → (A → Option B) → Option B
o >>= f = option_and_then f o

-- the first of two that there is
infixl 9 ◌<|>◌
abbrev pub ◌<|>◌ : {A : Type 0} → Option A → Option A → Option A
Some x <|> o = Some x
None <|> o = o

-- the parts between spaces that aren't empty
abbrev pub words_of : Text → List Text
words_of line = filter (λ w. nat_lt 0 (length w)) (slice_split (λ b. b == 32) line)

-- the first word, and the others
abbrev pub first_word : List Text → Option (Text × List Text)
first_word [] = None
first_word (a ∷ ws) = Some (a, ws)

-- The first word of a line that is no comment, and the others. A comment has no words, or begins with `#`.
abbrev pub named_words : Text → Option (Text × List Text)
named_words line = if slice_index line 0 == 35 then None else first_word (words_of line)

-- ---- all of the words

-- there is none
abbrev pub has_none : List Text → Bool
has_none [] = true
has_none (a ∷ ws) = false

-- x, where there is none
abbrev pub no_words : {A : Type 0} → A → List Text → Option A
no_words x ws = if has_none ws then Some x else None

abbrev pub one_word : List Text → Option Text
one_word (a ∷ []) = Some a
one_word ws = None

abbrev pub two_words : List Text → Option (Text × Text)
two_words (a ∷ b ∷ []) = Some (a, b)
two_words ws = None

abbrev pub three_words : List Text → Option (Text × Text × Text)
three_words (a ∷ b ∷ c ∷ []) = Some (a, b, c)
three_words ws = None

abbrev pub four_words : List Text → Option (Text × Text × Text × Text)
four_words (a ∷ b ∷ c ∷ d ∷ []) = Some (a, b, c, d)
four_words ws = None
