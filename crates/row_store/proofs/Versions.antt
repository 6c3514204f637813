-- Versions of one row: what one version more changes.
use Rattle.std.proofs.Common.{◌≡◌, ℕ, Bool, true, false, Option, Some, None, List, [], ◌∷◌, ◌++◌, append-nil, refl, sym, ap, ◌∙◌}
use Rattle.std.specs.Prelude.{if◌then◌else◌, ◌==◌}
use Rattle.std.specs.Option.{option_to_list}
use Rattle.std.specs.Ordering.{is_eq}
use Rattle.std.specs.Cmp.Lexicographic.{same_text, texts_ties}
use Rattle.std.proofs.lemmas.Cmp.{nat_list_cmp_total, tied_itself}
use Rattle.std.proofs.lemmas.Grind.{fold-append}
use Rattle.std.proofs.lemmas.Bool.{and_parts, eqb-true, eq-eqb}
use Rattle.gr_ids.specs.declared.names.Gtid.{Gtid}
use Rattle.gr_ids.specs.Names.{bytes_eq, gtid_eq}
use Rattle.gtid_sets.specs.Sets.{Gtids, has}
use Rattle.row_store.specs.Chains.{Version, seen_in, last_row}
use Rattle.row_store.specs.Inside.{is_newest}

pub same_gtid : (a b : Gtid) → gtid_eq a b ≡ true → a ≡ b
same_gtid a b e =
    let p = and_parts _ _ e in
    let s : a.source ≡ b.source = same_text a.source b.source (sym p.0) in
    let n : a.number ≡ b.number = eqb-true a.number b.number p.1 in
    rw (s, n) refl

pub gtid_itself : (a : Gtid) → gtid_eq a a ≡ true
gtid_itself a = let n : (a.number == a.number) ≡ true = eq-eqb a.number a.number refl in rw (same_bytes a.source, n) refl
  where
    same_bytes : (xs : List ℕ) → bytes_eq xs xs ≡ true
    same_bytes xs = texts_ties xs xs ∙ ap is_eq (tied_itself nat_list_cmp_total xs)

-- one version more
pub seen_more : (e : Gtids) (vs : List Version) (v : Version) → seen_in e (vs ++ v ∷ []) ≡ (if has e v.gtid then v.row else seen_in e vs)
seen_more e vs v = fold-append (λ (r : Option (List ℕ)) (u : Version). if has e u.gtid then u.row else r) None vs (v ∷ [])

pub last_more : (vs : List Version) (v : Version) → last_row (vs ++ v ∷ []) ≡ v.row
last_more vs v = fold-append (λ (r : Option (List ℕ)) (u : Version). u.row) None vs (v ∷ [])

pub newest_more : (g : Gtid) (vs : List Version) (v : Version) → is_newest g (vs ++ v ∷ []) ≡ gtid_eq v.gtid g
newest_more g vs v = fold-append (λ (b : Bool) (u : Version). gtid_eq u.gtid g) false vs (v ∷ [])

-- without its newest version, which is of this transaction, a chain shows the same where that isn't seen
pub seen_without : (e : Gtids) (g : Gtid) (vs ys : List Version) (u : Option Version) → vs ≡ ys ++ option_to_list u → is_newest g vs ≡ true → has e g ≡ false → seen_in e ys ≡ seen_in e vs
seen_without e g vs ys None s n h = let z : vs ≡ ys ++ [] = s in rw (s, append-nil ys) refl
seen_without e g vs ys (Some u) s n h =
    let is : gtid_eq u.gtid g ≡ true = sym (newest_more g ys u) ∙ (ap (is_newest g) (sym s) ∙ n) in
    let unseen : has e u.gtid ≡ false = ap (has e) (same_gtid u.gtid g is) ∙ h in
    rw s (sym (seen_more e ys u ∙ rw unseen refl))
