-- A step that says something has a text.
use Rattle.std.proofs.Common.{◌≡◌, ◌==◌, false, length, List, [], ◌∷◌, ◌++◌, refl, sym, ap, ◌∙◌}
use Rattle.std.specs.Prelude.{flat_map}
use Rattle.group_rules.specs.declared.said.Said.{Said}
use Rattle.group_rules.specs.declared.said.Said.TheVariants.{Marked, Idle, Offline, Looked}
use Rattle.group_rules.specs.declared.said.Look.{Look}
use Rattle.group_rules.specs.declared.said.Look.TheVariants.{Members, Slots, Config, Gtids, Rows, Queue, Certifier, Kept, Wire}
use Rattle.group_rules.specs.Texts.{Text, look_texts, said_texts, texts_or_ok}

abbrev IsSome : List Text → Type 0
IsSome ts = (t : Text) × (more : List Text) × (ts ≡ t ∷ more)

behind : (ts : List Text) (last : Text) → IsSome (ts ++ last ∷ [])
behind [] last = (last, [], refl)
behind (t ∷ ts) last = (t, ts ++ last ∷ [], refl)

shows : (x : Look) → IsSome (look_texts x)
shows (Members i ms n mode) = behind _ _
shows (Slots i n p b) = (_, [], refl)
shows (Config i t c) = (_, [], refl)
shows (Gtids i e) = (_, [], refl)
shows (Rows i rs) = behind _ _
shows (Queue i ps) = behind _ _
shows (Certifier i xs) = behind _ _
shows (Kept i n) = (_, [], refl)
shows (Wire xs n) = behind _ _

says : (x : Said) → IsSome (said_texts x)
says (Marked i m) = (_, [], refl)
says (Idle i) = (_, [], refl)
says (Offline g) = (_, [], refl)
says (Looked x) = shows x

pub not_ok : (xs : List Said) → (length xs == 0) ≡ false → texts_or_ok (flat_map said_texts xs) ≡ flat_map said_texts xs
not_ok [] e = cc e
not_ok (x ∷ xs) e = let s = says x in ap (λ (ts : List Text). texts_or_ok (ts ++ flat_map said_texts xs)) s.2 ∙ ap (λ (ts : List Text). ts ++ flat_map said_texts xs) (sym s.2)
