-- The order of GTIDs is total, and GTIDs that tie are equal.
use Rattle.std.proofs.Common.{◌≡◌, true, false, refl, sym, ap, ◌∙◌}
use Rattle.std.specs.Ordering.{nat_cmp, is_eq}
use Rattle.std.specs.declared.cmp.Ordering.{Ordering}
use Rattle.std.specs.declared.cmp.Ordering.TheVariants.{Less, Equal, Greater}
use Rattle.std.specs.Cmp.{IsTotalOrder, unsigned_ties}
use Rattle.std.specs.Cmp.Lexicographic.{slice_cmp, texts_ties, same_text}
use Rattle.std.specs.Str.{bytes_eq}
use Rattle.std.proofs.lemmas.Cmp.{then_total, on_total, nat_cmp_total, nat_list_cmp_total, tied_itself}
use Rattle.std.proofs.lemmas.Bool.{and_parts, eqb-true}
use Rattle.gr_ids.specs.declared.names.Gtid.{Gtid}
use Rattle.gr_ids.specs.Names.{gtid_eq}
use Rattle.certifier.specs.Inside.{gtid_cmp}

pub gtid_cmp_total : IsTotalOrder gtid_cmp
gtid_cmp_total = then_total (on_total (λ (g : Gtid). g.source) nat_list_cmp_total) (on_total (λ (g : Gtid). g.number) nat_cmp_total)

pub gtid_eq_cmp : (a b : Gtid) → gtid_eq a b ≡ is_eq (gtid_cmp a b)
gtid_eq_cmp a b = go (slice_cmp nat_cmp a.source b.source) refl (texts_ties a.source b.source)
  where
    go : (o : Ordering) → slice_cmp nat_cmp a.source b.source ≡ o → bytes_eq a.source b.source ≡ is_eq (slice_cmp nat_cmp a.source b.source) → gtid_eq a b ≡ is_eq (gtid_cmp a b)
    go Less f t = let u : bytes_eq a.source b.source ≡ false = t ∙ ap is_eq f in rw (u, f) refl
    go Equal f t = let u : bytes_eq a.source b.source ≡ true = t ∙ ap is_eq f in rw (u, f) (unsigned_ties a.number b.number)
    go Greater f t = let u : bytes_eq a.source b.source ≡ false = t ∙ ap is_eq f in rw (u, f) refl

pub same_gtid : (a b : Gtid) → gtid_eq a b ≡ true → a ≡ b
same_gtid a b e =
    let p = and_parts _ _ e in
    let s : a.source ≡ b.source = same_text a.source b.source (sym p.0) in
    let n : a.number ≡ b.number = eqb-true a.number b.number p.1 in
    rw (s, n) refl

pub same_gtid_cmp : (a b : Gtid) → is_eq (gtid_cmp a b) ≡ true → a ≡ b
same_gtid_cmp a b e = same_gtid a b (gtid_eq_cmp a b ∙ e)

pub gtid_eq_itself_cmp : (a : Gtid) → is_eq (gtid_cmp a a) ≡ true
gtid_eq_itself_cmp a = ap is_eq (tied_itself gtid_cmp_total a)

pub gtid_eq_itself : (a : Gtid) → gtid_eq a a ≡ true
gtid_eq_itself a = gtid_eq_cmp a a ∙ gtid_eq_itself_cmp a
