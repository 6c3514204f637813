-- No two certified transactions that a history knows have one GTID, and so it stays where those that come are new.
use Rattle.std.proofs.Common.{◌≡◌, ◌⊎◌, inl, inr, true, false, List, [], ◌∷◌, sym, ap, ◌∙◌}
use Rattle.std.proofs.lemmas.Bool.{true≢false}
use Rattle.gr_ids.specs.declared.names.Gtid.{Gtid}
use Rattle.gr_ids.specs.Names.{gtid_eq}
use Rattle.node_rules.specs.Lists.{In}
use Rattle.group_rules.specs.Events.{Cert, Life}
use Rattle.group_rules.specs.Rows.{known}
use Rattle.row_store.proofs.Versions.{gtid_itself, same_gtid}
use Rattle.member_truth.specs.Truth.{AreDistinct}
use Rattle.member_tables.specs.Standing.{HasGtids}

turned : (c d : Gtid) → gtid_eq c d ≡ true → gtid_eq d c ≡ true
turned c d e = ap (λ (x : Gtid). gtid_eq d x) (same_gtid c d e) ∙ gtid_itself d

one_of : (cs : List Cert) (c d : Cert) → AreDistinct cs → In c cs → In d cs → gtid_eq c.gtid d.gtid ≡ true → c ≡ d
one_of [] c d k m n e = absurd m
one_of (x ∷ xs) c d k (inl p) (inl q) e = sym p ∙ q
one_of (x ∷ xs) c d k (inl p) (inr n) e = absurd (true≢false (sym (turned c.gtid d.gtid e) ∙ (ap (λ (y : Cert). gtid_eq d.gtid y.gtid) (sym p) ∙ k.0 d n)))
one_of (x ∷ xs) c d k (inr m) (inl q) e = absurd (true≢false (sym e ∙ (ap (λ (y : Cert). gtid_eq c.gtid y.gtid) (sym q) ∙ k.0 c m)))
one_of (x ∷ xs) c d k (inr m) (inr n) e = one_of xs c d k.1 m n e

pub more_gtids : (l m : Life) (ns : List Cert) → ((y : Cert) → In y (known m) → In y (known l) ⊎ In y ns) → AreDistinct ns
    → ((c : Cert) → In c ns → (d : Cert) → In d (known l) → gtid_eq d.gtid c.gtid ≡ false) → HasGtids l → HasGtids m
more_gtids l m ns apart k new h c d i j e = go (apart c i) (apart d j)
  where
    go : In c (known l) ⊎ In c ns → In d (known l) ⊎ In d ns → c ≡ d
    go (inl p) (inl q) = h c d p q e
    go (inl p) (inr q) = absurd (true≢false (sym e ∙ new d q c p))
    go (inr p) (inl q) = absurd (true≢false (sym (turned c.gtid d.gtid e) ∙ new c p d q))
    go (inr p) (inr q) = one_of ns c d k p q e
