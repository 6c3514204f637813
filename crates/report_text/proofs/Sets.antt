-- Sets of GTIDs in their numerals.
use Rattle.std.proofs.Common.{◌≡◌, ◌<◌, ◌^◌, ◌++◌, ◌∷◌, []}
use Rattle.std.proofs.Common.{ℕ, zero, suc, List, Bool, true, false, length, codes, refl, sym, ap, ◌∙◌, arith, lit<, eqb}
use Rattle.std.specs.List.{flat_map}
use Rattle.std.specs.Fmt.{decimal as std_decimal}
use Rattle.std.specs.Str.{bytes_eq, IsAscii, IsUtf8}
use Rattle.std.proofs.lemmas.Str.{IsUtf8-append, IsUtf8-nil, IsUtf8-from_ascii}
use Rattle.std.proofs.lemmas.Fmt.{IsAscii-decimal}
use Rattle.gr_ids.specs.Uuids.{uuid_text}
use Rattle.gr_ids.proofs.UuidTexts.{uuid_text-IsUtf8}
use Rattle.gtid_sets.specs.declared.run.Run.{Run}
use Rattle.gtid_sets.specs.Sets.{Gtids}
use Rattle.gtid_sets.specs.Canonical.{IsCanonical, IsRun}
use Rattle.gtid_sets.specs.Spelling.{Interval, Source, interval_of, with_first, sources_of}
use Rattle.gtid_sets.specs.Text.{span_text_by, interval_text_by, source_text_by, joined_text_by, sources_text_by, set_text as spelt_set}
use Rattle.group_rules.specs.Texts.{decimal, set_text}
use Rattle.report_text.proofs.Numerals.{numerals}

-- ---- numbers of 64 bits

IsSmall : Interval → Type 0
IsSmall i = (i.first < 2 ^ 64) × (i.last < 2 ^ 64)

AreSmall : List Interval → Type 0
AreSmall [] = Unit {0}
AreSmall (i ∷ is) = IsSmall i × AreSmall is

HasSmall : List Source → Type 0
HasSmall [] = Unit {0}
HasSmall (s ∷ ss) = AreSmall s.intervals × HasSmall ss

small_first : (r : Run) (ss : List Source) → IsSmall (interval_of r) → HasSmall ss → HasSmall (with_first r ss)
unfolding IsSmall AreSmall HasSmall
small_first r [] h hs = ((h, tt), tt)
small_first r (s ∷ ss) h hs = go (bytes_eq r.source s.uuid)
  where
    go : (b : Bool) → HasSmall (elim b [
      | true ↦ record { uuid = s.uuid; intervals = interval_of r ∷ s.intervals } ∷ ss
      | false ↦ record { uuid = r.source; intervals = interval_of r ∷ [] } ∷ s ∷ ss
    ])
    go true = ((h, hs.0), hs.1)
    go false = ((h, tt), hs)

small_run : (r : Run) → IsRun r → IsSmall (interval_of r)
unfolding IsSmall
small_run r h = (omega (arith, h.ordered, h.bounded), omega (arith, h.bounded))

small_sources : (s : Gtids) → IsCanonical s → HasSmall (sources_of s)
small_sources [] h = unfold HasSmall in tt
small_sources (r ∷ rs) h = small_first r (sources_of rs) (small_run r h.0) (small_sources rs h.2)

-- ---- their texts

span_is : (i : Interval) → IsSmall i → span_text_by std_decimal i ≡ span_text_by decimal i
unfolding IsSmall
span_is i h = go (eqb i.first i.last)
  where
    go : (b : Bool) → ◌≡◌ {A = List ℕ}
        (elim b [ true ↦ std_decimal i.first | false ↦ std_decimal i.first ++ (45 ∷ std_decimal i.last) ])
        (elim b [ true ↦ decimal i.first | false ↦ decimal i.first ++ (45 ∷ decimal i.last) ])
    go true = sym (numerals i.first h.0)
    go false =
        ap (λ (t : List ℕ). t ++ (45 ∷ std_decimal i.last)) (sym (numerals i.first h.0))
        ∙ ap (λ (t : List ℕ). decimal i.first ++ (45 ∷ t)) (sym (numerals i.last h.1))

intervals_are : (is : List Interval) → AreSmall is → flat_map (interval_text_by std_decimal) is ≡ flat_map (interval_text_by decimal) is
unfolding AreSmall
intervals_are [] h = refl
intervals_are (i ∷ is) h =
    ap (λ (t : List ℕ). (58 ∷ t) ++ flat_map (interval_text_by std_decimal) is) (span_is i h.0)
    ∙ ap (λ (t : List ℕ). interval_text_by decimal i ++ t) (intervals_are is h.1)

source_is : (s : Source) → AreSmall s.intervals → source_text_by std_decimal s ≡ source_text_by decimal s
source_is s h = ap (λ (t : List ℕ). uuid_text s.uuid ++ t) (intervals_are s.intervals h)

others_are : (ss : List Source) → HasSmall ss → flat_map (joined_text_by std_decimal) ss ≡ flat_map (joined_text_by decimal) ss
unfolding HasSmall
others_are [] h = refl
others_are (s ∷ ss) h =
    ap (λ (t : List ℕ). (44 ∷ t) ++ flat_map (joined_text_by std_decimal) ss) (source_is s h.0)
    ∙ ap (λ (t : List ℕ). joined_text_by decimal s ++ t) (others_are ss h.1)

sources_are : (ss : List Source) → HasSmall ss → sources_text_by std_decimal ss ≡ sources_text_by decimal ss
unfolding HasSmall
sources_are [] h = refl
sources_are (s ∷ ss) h =
    ap (λ (t : List ℕ). t ++ flat_map (joined_text_by std_decimal) ss) (source_is s h.0)
    ∙ ap (λ (t : List ℕ). source_text_by decimal s ++ t) (others_are ss h.1)

-- the text of a set that isn't empty
pub set_is : (s : Gtids) → IsCanonical s → 0 < length s → spelt_set s ≡ set_text s
set_is [] h some = absurd (omega arith)
set_is (r ∷ rs) h some = sources_are (sources_of (r ∷ rs)) (small_sources (r ∷ rs) h)

-- ---- their bytes

ascii_byte : (b : ℕ) → b < 128 → IsAscii (b ∷ [])
ascii_byte b h zero = h
ascii_byte b h (suc i) = lit< tt

dash : IsUtf8 (codes "-")
dash = IsUtf8-from_ascii (codes "-") (ascii_byte 45 (lit< tt))

colon : IsUtf8 (codes ":")
colon = IsUtf8-from_ascii (codes ":") (ascii_byte 58 (lit< tt))

comma : IsUtf8 (codes ",")
comma = IsUtf8-from_ascii (codes ",") (ascii_byte 44 (lit< tt))

span_utf8 : (i : Interval) → IsSmall i → IsUtf8 (span_text_by std_decimal i)
unfolding IsSmall
span_utf8 i h = go (eqb i.first i.last)
  where
    first : IsUtf8 (std_decimal i.first)
    first = IsUtf8-from_ascii _ (IsAscii-decimal i.first h.0)

    last : IsUtf8 (std_decimal i.last)
    last = IsUtf8-from_ascii _ (IsAscii-decimal i.last h.1)

    go : (b : Bool) → IsUtf8 (elim b [ true ↦ std_decimal i.first | false ↦ std_decimal i.first ++ (codes "-" ++ std_decimal i.last) ])
    go true = first
    go false = IsUtf8-append _ _ first (IsUtf8-append (codes "-") _ dash last)

intervals_utf8 : (is : List Interval) → AreSmall is → IsUtf8 (flat_map (interval_text_by std_decimal) is)
unfolding AreSmall
intervals_utf8 [] h = IsUtf8-nil
intervals_utf8 (i ∷ is) h =
    IsUtf8-append (interval_text_by std_decimal i) _ (IsUtf8-append (codes ":") _ colon (span_utf8 i h.0)) (intervals_utf8 is h.1)

source_utf8 : (s : Source) → AreSmall s.intervals → IsUtf8 (source_text_by std_decimal s)
source_utf8 s h = IsUtf8-append (uuid_text s.uuid) _ (uuid_text-IsUtf8 s.uuid) (intervals_utf8 s.intervals h)

others_utf8 : (ss : List Source) → HasSmall ss → IsUtf8 (flat_map (joined_text_by std_decimal) ss)
unfolding HasSmall
others_utf8 [] h = IsUtf8-nil
others_utf8 (s ∷ ss) h =
    IsUtf8-append (joined_text_by std_decimal s) _ (IsUtf8-append (codes ",") _ comma (source_utf8 s h.0)) (others_utf8 ss h.1)

sources_utf8 : (ss : List Source) → HasSmall ss → IsUtf8 (sources_text_by std_decimal ss)
unfolding HasSmall
sources_utf8 [] h = IsUtf8-nil
sources_utf8 (s ∷ ss) h = IsUtf8-append (source_text_by std_decimal s) _ (source_utf8 s h.0) (others_utf8 ss h.1)

pub set_text-IsUtf8 : (s : Gtids) → IsCanonical s → IsUtf8 (spelt_set s)
set_text-IsUtf8 s h = sources_utf8 (sources_of s) (small_sources s h)
