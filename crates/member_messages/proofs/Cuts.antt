-- A body cut, one part after another.
use Rattle.std.proofs.Common.{◌≡◌, ℕ, suc, ◌+◌, ◌-◌, ◌/◌, ◌<◌, ◌≤◌, List, [], ◌∷◌, ◌++◌, take, drop, length, sym, ap, ◌∙◌, arith, append_assoc, append-nil}
use Rattle.std.proofs.lemmas.List.{take_min, drop_min}
use Rattle.std.specs.Int.{div_ceil}
use Rattle.std.specs.Prelude.{min}
use Rattle.name_forms.specs.OpenParts.{part_size}
use Rattle.txn_forms.specs.declared.body.Part.{Part}
use Rattle.group_rules.specs.Parts.{cut, cut_from}

pub cut_next : (i c : ℕ) (b : List ℕ) → i < c → cut_from (c - i) c b ≡ record { index = i + 1; count = c; bytes = take part_size b } ∷ cut_from (c - (i + 1)) c (drop part_size b)
cut_next i c b h =
    let more : c - i ≡ suc (c - (i + 1)) = omega (arith, h) in
    let at : c - (c - (i + 1)) ≡ i + 1 = omega (arith, h) in
    ap (λ k. cut_from k c b) more ∙ ap (λ n. record { index = n; count = c; bytes = take part_size b } ∷ cut_from (c - (i + 1)) c (drop part_size b)) at

-- a part more is cut from the bytes that are left
pub cut_more : (i c m : ℕ) (b front behind : List ℕ) (xs ys whole : List Part) → i < c → m ≡ min part_size (length b) → front ≡ take m b → behind ≡ drop m b → ys ≡ xs ++ record { index = i + 1; count = c; bytes = front } ∷ []
    → xs ++ cut_from (c - i) c b ≡ whole → ys ++ cut_from (c - (i + 1)) c behind ≡ whole
cut_more i c m b front behind xs ys whole h e f g y w =
    let x : Part = record { index = i + 1; count = c; bytes = front } in
    let taken : front ≡ take part_size b = f ∙ (ap (λ n. take n b) e ∙ take_min part_size b) in
    let left : behind ≡ drop part_size b = g ∙ (ap (λ n. drop n b) e ∙ drop_min part_size b) in
    let next : x ∷ cut_from (c - (i + 1)) c behind ≡ cut_from (c - i) c b = (λ k. record { index = i + 1; count = c; bytes = taken k } ∷ cut_from (c - (i + 1)) c (left k)) ∙ sym (cut_next i c b h) in
    ap (λ ps. ps ++ cut_from (c - (i + 1)) c behind) y ∙ (append_assoc xs (x ∷ []) (cut_from (c - (i + 1)) c behind) ∙ (ap (λ ps. xs ++ ps) next ∙ w))

-- no bytes are left
pub cut_all : (i c : ℕ) (b rest : List ℕ) (xs : List Part) → c ≤ i → c ≡ div_ceil (length b) part_size → xs ++ cut_from (c - i) c rest ≡ cut_from c c b → xs ≡ cut b
cut_all i c b rest xs h e w =
    let none : c - i ≡ 0 = omega (arith, h) in
    let count : c ≡ (length b + 65523 - 1) / 65523 = omega (arith, e) in
    sym (append-nil xs) ∙ (ap (λ k. xs ++ cut_from k c rest) (sym none) ∙ (w ∙ ap (λ k. cut_from k k b) count))
