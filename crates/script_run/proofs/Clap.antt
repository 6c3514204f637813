-- What `clap` makes of the words of a command.
use Rattle.std.proofs.Common.{◌≡◌, ◌==◌, ◌⊎◌, ◌-◌, ◌^◌, ◌&&◌, ◌||◌, ◌∙◌, true, false, Bool, ℕ, List, [], ◌∷◌, length, Option, Some, None, refl, sym, ap, ap₂, codes, cond, inl, inr, arith, nat_le, nat_lt, is_some, option_map}
use Rattle.std.specs.Prelude.{find, option_and_then, unwrap_or}
use Rattle.std.specs.Char.{is_ascii_digit}
use Rattle.std.specs.Str.Parse.{digits_value}
use Rattle.std.proofs.lemmas.Bool.Decides.{nat_tests}
use Rattle.std.proofs.lemmas.Option.{cond_some, same_Some}
use Rattle.std.proofs.lemmas.Slice.Eq.{bytes_eq-Decides}
use Rattle.std.specs.Option.{option_map_or}
use Rattle.std.specs.List.{list_all}
use Rattle.std.specs.Str.{bytes_eq}
use Rattle.clap.specs.Lexer.{long_of, short_of}
use Rattle.clap.specs.Simple.{Shape, built, help_shape, label_of}
use Rattle.clap.specs.Takes.{bundle_passes, default_passes, flag_word_passes, is_valid, level_passes, settle_passes, step_passes, turn_passes, walk_passes}
use Rattle.clap.specs.Walk.{Held, Rule, Step, Text, Walk, after_step, answers_to, arg_by_index, finished, idle, long_or_other, nothing_held, short_or_plain, to_positional, trailing, value, walk, walked, word_met}
use Rattle.clap.specs.Words.{Row, first_of, one_of, subcommand_of, takes}
use Rattle.clap.proofs.OnLiterals.{clap_on_literals}
use Rattle.script_run.specs.Commands.{command_of, is_numeral, make_of, number_to}
use Rattle.script_run.specs.Parsing.{flag_in, flag_text, grsim, named, values_in}
use Rattle.script_run.specs.declared.command.Command.{Command}
use Rattle.script_run.specs.declared.command.Command.TheVariants.{Play, Make}

-- ---- `play`, `play --report`

abbrev pub plain_words : List Text
plain_words = codes "play" ∷ []

abbrev pub report_words : List Text
report_words = codes "play" ∷ codes "--report" ∷ []

pub plain_taken : takes grsim plain_words ≡ true
unfolding clap_on_literals
plain_taken = refl

pub plain_named : named (subcommand_of grsim plain_words) ≡ Some (codes "play")
unfolding clap_on_literals
plain_named = refl

pub plain_flag : flag_in (subcommand_of grsim plain_words) ≡ Some (Some (codes "false"))
unfolding clap_on_literals
plain_flag = refl

pub report_taken : takes grsim report_words ≡ true
unfolding clap_on_literals
report_taken = refl

pub report_named : named (subcommand_of grsim report_words) ≡ Some (codes "play")
unfolding clap_on_literals
report_named = refl

pub report_flag : flag_in (subcommand_of grsim report_words) ≡ Some (Some (codes "true"))
unfolding clap_on_literals
report_flag = refl

-- ---- a word that doesn't begin with a hyphen

no_long : (d : ℕ) (ds : Text) → (d == 45) ≡ false → long_of (d ∷ ds) ≡ None
no_long d ds e = rw e refl

no_short : (d : ℕ) (ds : Text) → (d == 45) ≡ false → short_of (d ∷ ds) ≡ None
no_short d ds e = rw e refl

no_dashes : (d : ℕ) (ds : Text) → (d == 45) ≡ false → bytes_eq (d ∷ ds) (45 ∷ 45 ∷ []) ≡ false
no_dashes d ds e = rw e refl

-- is a value
met_value : (c : List Rule) (position d : ℕ) (ds : Text) (h : Held) → (d == 45) ≡ false → word_met c [] false idle position (d ∷ ds) h ≡ (h, value)
met_value c position d ds h e =
    ap (λ (b : Bool). cond b (h, trailing position) (long_or_other c idle (d ∷ ds) (long_of (d ∷ ds)) h)) (no_dashes d ds e)
    ∙ ap (λ (o : Option (Text × Option Text)). long_or_other c idle (d ∷ ds) o h) (no_long d ds e)
    ∙ ap (λ (o : Option Text). short_or_plain c idle (d ∷ ds) o h) (no_short d ds e)

-- such words, one after another
abbrev at : Held → ℕ → Walk
at h position = record { held = h; waiting = idle; position = position; is_trailing = false; stopped = None }

walks : (c : List Rule) (position d : ℕ) (ds : Text) (h : Held) → (d == 45) ≡ false → walked c [] (at h position) (d ∷ ds) ≡ to_positional c (arg_by_index c position) (d ∷ ds) (at h position) h
unfolding walked
walks c position d ds h e = ap (λ (met : Held × Step). after_step c (d ∷ ds) (at h position) met.0 met.1) (met_value c position d ds h e)

passes : (s : Shape) (position d : ℕ) (ds : Text) (h : Held) → (d == 45) ≡ false → turn_passes s [] (at h position) (d ∷ ds) ≡ step_passes s position h value
passes s position d ds h e =
    ap (λ (b : Bool). (b || flag_word_passes s.rules s.args_override_self (long_of (d ∷ ds)) (d ∷ ds) h) && step_passes s position (word_met s.rules [] false idle position (d ∷ ds) h).0 (word_met s.rules [] false idle position (d ∷ ds) h).1) (no_dashes d ds e)
    ∙ ap (λ (o : Option (Text × Option Text)). flag_word_passes s.rules s.args_override_self o (d ∷ ds) h && step_passes s position (word_met s.rules [] false idle position (d ∷ ds) h).0 (word_met s.rules [] false idle position (d ∷ ds) h).1) (no_long d ds e)
    ∙ ap (λ (o : Option Text). option_map_or (λ flags. bundle_passes s.rules s.args_override_self flags h) o true && step_passes s position (word_met s.rules [] false idle position (d ∷ ds) h).0 (word_met s.rules [] false idle position (d ∷ ds) h).1) (no_short d ds e)
    ∙ ap (λ (m : Held × Step). step_passes s position m.0 m.1) (met_value s.rules position d ds h e)

-- ---- `make N FROM`, of such words

abbrev pub make_words : ℕ → Text → ℕ → Text → List Text
make_words d ds e es = codes "make" ∷ (d ∷ ds) ∷ (e ∷ es) ∷ []

pub make_named : (d : ℕ) (ds : Text) (e : ℕ) (es : Text) → named (subcommand_of grsim (make_words d ds e es)) ≡ Some (codes "make")
unfolding clap_on_literals
make_named d ds e es = refl

abbrev make_shape : Shape
make_shape = unwrap_or (find (λ s. answers_to (codes "make") (label_of s)) (built grsim).subs) help_shape

abbrev rules : List Rule
rules = make_shape.rules

-- after the first word, and after the second
abbrev first_walk : ℕ → Text → Walk
first_walk d ds = to_positional rules (arg_by_index rules 1) (d ∷ ds) (at nothing_held 1) nothing_held

abbrev last_walk : ℕ → Text → ℕ → Text → Walk
last_walk d ds e es = to_positional rules (arg_by_index rules 2) (e ∷ es) (first_walk d ds) (first_walk d ds).held

walk_is : (d : ℕ) (ds : Text) (e : ℕ) (es : Text) → (d == 45) ≡ false → (e == 45) ≡ false → walk rules [] nothing_held ((d ∷ ds) ∷ (e ∷ es) ∷ []) ≡ last_walk d ds e es
walk_is d ds e es p q =
    ap (λ (w : Walk). walked rules [] w (e ∷ es)) (walks rules 1 d ds nothing_held p)
    ∙ walks rules 2 e es (first_walk d ds).held q

abbrev rows_for : Walk → List Row
rows_for w = finished rules w.held

pub make_values : (d : ℕ) (ds : Text) (e : ℕ) (es : Text) → (d == 45) ≡ false → (e == 45) ≡ false → values_in (subcommand_of grsim (make_words d ds e es)) ≡ Some (Some (d ∷ ds), Some (e ∷ es))
unfolding clap_on_literals
make_values d ds e es p q = ap (λ (w : Walk). values_in (Some (codes "make", rows_for w))) (walk_is d ds e es p q)

words_pass : (d : ℕ) (ds : Text) (e : ℕ) (es : Text) → (d == 45) ≡ false → (e == 45) ≡ false → walk_passes make_shape [] (at nothing_held 1) ((d ∷ ds) ∷ (e ∷ es) ∷ []) ≡ true
unfolding walk_passes
words_pass d ds e es p q =
    ap (λ (b : Bool). b && walk_passes make_shape [] (walked rules [] (at nothing_held 1) (d ∷ ds)) ((e ∷ es) ∷ [])) (passes make_shape 1 d ds nothing_held p)
    ∙ ap (λ (w : Walk). walk_passes make_shape [] w ((e ∷ es) ∷ [])) (walks rules 1 d ds nothing_held p)
    ∙ ap (λ (b : Bool). b && true) (passes make_shape 2 e es (first_walk d ds).held q)

-- what is tested behind a walk
abbrev behind : Walk → Bool
behind w = settle_passes rules make_shape.args_override_self w.held && (list_all default_passes rules && is_valid make_shape (finished rules w.held) false)

level_taken : (d : ℕ) (ds : Text) (e : ℕ) (es : Text) → (d == 45) ≡ false → (e == 45) ≡ false → level_passes make_shape [] nothing_held ((d ∷ ds) ∷ (e ∷ es) ∷ []) false ≡ true
level_taken d ds e es p q =
    ap (λ (b : Bool). b && behind (walk rules [] nothing_held ((d ∷ ds) ∷ (e ∷ es) ∷ []))) (words_pass d ds e es p q)
    ∙ ap behind (walk_is d ds e es p q)

pub make_taken : (d : ℕ) (ds : Text) (e : ℕ) (es : Text) → (d == 45) ≡ false → (e == 45) ≡ false → takes grsim (make_words d ds e es) ≡ true
unfolding clap_on_literals
make_taken d ds e es p q = ap (λ (b : Bool). b && true) (level_taken d ds e es p q)

-- ---- the words of a command

pub record IsMake (ws : List Text) : Type 0 where
  pub first : ℕ
  pub steps : Text
  pub second : ℕ
  pub from : Text
  pub words : ws ≡ make_words first steps second from
  pub first_plain : (first == 45) ≡ false
  pub second_plain : (second == 45) ≡ false

abbrev Shapes : List Text → Type 0
Shapes ws = (ws ≡ plain_words) ⊎ (ws ≡ report_words) ⊎ IsMake ws

same : (a b : Text) → bytes_eq a b ≡ true → a ≡ b
same a b e = (bytes_eq-Decides a b).0 e

both : (s t : Bool) → (s && t) ≡ true → (s ≡ true) × (t ≡ true)
both true true e = (refl, refl)
both true false e = cc e
both false t e = cc e

-- digits don't begin with a hyphen
abbrev Plain : Text → Type 0
Plain w = (d : ℕ) × (ds : Text) × (w ≡ d ∷ ds) × ((d == 45) ≡ false)

numeral_plain : (w : Text) → is_numeral w ≡ true → Plain w
numeral_plain [] e = cc e
numeral_plain (d ∷ ds) e =
    let t = both _ _ (both (list_all is_ascii_digit (d ∷ ds) && nat_lt 0 (length (d ∷ ds))) (nat_le (length (d ∷ ds)) 20) e).0 in
    let u = both (is_ascii_digit d) (list_all is_ascii_digit ds) t.0 in
    (d, ds, refl, grind (arith, nat_tests, u.0))

number_plain : (most : ℕ) (w : Text) (n : ℕ) → number_to most w ≡ Some n → Plain w
unfolding number_to
number_plain most w n e = numeral_plain w (both (is_numeral w) (nat_le (digits_value 10 w) most) (cond_some _ _ n e).0).0

make_plain : (b c : Text) → is_some (make_of b c) ≡ true → Plain b × Plain c
unfolding make_of
make_plain b c e = by_steps (number_to 20000 b) refl e
  where
    by_from : (n : ℕ) (o : Option ℕ) → number_to (2 ^ 64 - 1) c ≡ o → number_to 20000 b ≡ Some n → is_some (option_and_then (λ x. Some (Make n x)) o) ≡ true → Plain b × Plain c
    by_from n None is steps some = cc some
    by_from n (Some x) is steps some = (number_plain 20000 b n steps, number_plain (2 ^ 64 - 1) c x is)

    by_steps : (o : Option ℕ) → number_to 20000 b ≡ o → is_some (option_and_then (λ n. option_and_then (λ x. Some (Make n x)) (number_to (2 ^ 64 - 1) c)) o) ≡ true → Plain b × Plain c
    by_steps None is some = cc some
    by_steps (Some n) is some = by_from n (number_to (2 ^ 64 - 1) c) refl is some

pub shapes : (ws : List Text) → is_some (command_of ws) ≡ true → Shapes ws
unfolding command_of
shapes [] e = cc e
shapes (a ∷ []) e = by_name (bytes_eq a (codes "play")) refl e
  where
    by_name : (t : Bool) → bytes_eq a (codes "play") ≡ t → is_some (cond t (Some (Play false)) None) ≡ true → Shapes (a ∷ [])
    by_name true is some = inl (ap (λ (w : Text). w ∷ []) (same a (codes "play") is))
    by_name false is some = cc some
shapes (a ∷ b ∷ []) e = by_name (bytes_eq a (codes "play") && bytes_eq b (codes "--report")) refl e
  where
    by_name : (t : Bool) → (bytes_eq a (codes "play") && bytes_eq b (codes "--report")) ≡ t → is_some (cond t (Some (Play true)) None) ≡ true → Shapes (a ∷ b ∷ [])
    by_name true is some = let p = both _ _ is in inr (inl (ap₂ (λ (v w : Text). v ∷ w ∷ []) (same a (codes "play") p.0) (same b (codes "--report") p.1)))
    by_name false is some = cc some
shapes (a ∷ b ∷ c ∷ []) e = by_name (bytes_eq a (codes "make")) refl e
  where
    by_name : (t : Bool) → bytes_eq a (codes "make") ≡ t → is_some (cond t (make_of b c) None) ≡ true → Shapes (a ∷ b ∷ c ∷ [])
    by_name true is some =
        let p = make_plain b c some in
        inr (inr (record {
          first = p.0.0;
          steps = p.0.1;
          second = p.1.0;
          from = p.1.1;
          words = ap (λ (w : Text). w ∷ b ∷ c ∷ []) (same a (codes "make") is) ∙ ap₂ (λ (v w : Text). codes "make" ∷ v ∷ w ∷ []) p.0.2 p.1.2;
          first_plain = p.0.3;
          second_plain = p.1.3;
        }))
    by_name false is some = cc some
shapes (a ∷ b ∷ c ∷ d ∷ ws) e = cc e

-- `clap` takes them
pub taken : (ws : List Text) → is_some (command_of ws) ≡ true → takes grsim ws ≡ true
taken ws e = by_shape (shapes ws e)
  where
    by_shape : Shapes ws → takes grsim ws ≡ true
    by_shape (inl is) = ap (takes grsim) is ∙ plain_taken
    by_shape (inr (inl is)) = ap (takes grsim) is ∙ report_taken
    by_shape (inr (inr m)) = ap (takes grsim) m.words ∙ make_taken m.first m.steps m.second m.from m.first_plain m.second_plain

-- and what is read of its matches is the command
pub met : (ws : List Text) (rows : Option (Text × List Row)) (r : Option Command) → is_some (command_of ws) ≡ true → rows ≡ subcommand_of grsim ws
    → ((b : Bool) → named rows ≡ Some (codes "play") → flag_in rows ≡ Some (Some (flag_text b)) → r ≡ Some (Play b))
    → ((n from : Text) → named rows ≡ Some (codes "make") → values_in rows ≡ Some (Some n, Some from) → r ≡ make_of n from) → r ≡ command_of ws
unfolding command_of
met ws rows r e is play make = by_shape (shapes ws e)
  where
    by_shape : Shapes ws → r ≡ command_of ws
    by_shape (inl s) = let at_ = is ∙ ap (subcommand_of grsim) s in play false (ap named at_ ∙ plain_named) (ap flag_in at_ ∙ plain_flag) ∙ sym (ap command_of s)
    by_shape (inr (inl s)) = let at_ = is ∙ ap (subcommand_of grsim) s in play true (ap named at_ ∙ report_named) (ap flag_in at_ ∙ report_flag) ∙ sym (ap command_of s)
    by_shape (inr (inr m)) =
        let at_ = is ∙ ap (subcommand_of grsim) m.words in
        make (m.first ∷ m.steps) (m.second ∷ m.from) (ap named at_ ∙ make_named m.first m.steps m.second m.from) (ap values_in at_ ∙ make_values m.first m.steps m.second m.from m.first_plain m.second_plain)
        ∙ sym (ap command_of m.words)

-- ---- what is read of the matches

map_twice : {A B C : Type 0} (f : B → C) (g : A → B) (o : Option A) → option_map f (option_map g o) ≡ option_map (λ x. f (g x)) o
map_twice f g None = refl
map_twice f g (Some x) = refl

pub some_is : {A : Type 0} {x y : A} → Some x ≡ Some y → x ≡ y
some_is {A} {x} {y} e = same_Some x y e

pub flag_read : (rows : Option (Text × List Row)) (found : List Row) (b : Bool) → option_map (λ p. p.1) rows ≡ Some found → flag_in rows ≡ Some (Some (flag_text b)) → one_of (codes "report") found ≡ Some (flag_text b)
flag_read None found b is flag = cc is
flag_read (Some p) found b is flag = ap (one_of (codes "report")) (sym (some_is is)) ∙ some_is flag

pub steps_read : (rows : Option (Text × List Row)) (found : List Row) (n from : Text) → option_map (λ p. p.1) rows ≡ Some found → values_in rows ≡ Some (Some n, Some from) → first_of (codes "steps") found ≡ Some n
steps_read None found n from is values = cc is
steps_read (Some p) found n from is values = ap (first_of (codes "steps")) (sym (some_is is)) ∙ ap (λ (v : Option Text × Option Text). v.0) (some_is values)

pub from_read : (rows : Option (Text × List Row)) (found : List Row) (n from : Text) → option_map (λ p. p.1) rows ≡ Some found → values_in rows ≡ Some (Some n, Some from) → first_of (codes "from") found ≡ Some from
from_read None found n from is values = cc is
from_read (Some p) found n from is values = ap (first_of (codes "from")) (sym (some_is is)) ∙ ap (λ (v : Option Text × Option Text). v.1) (some_is values)
