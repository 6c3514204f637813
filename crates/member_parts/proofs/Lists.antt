-- Places that rise, and what lists of certified transactions have.
use Rattle.std.proofs.Common.{◌≡◌, ◌<◌, ◌⊎◌, inl, inr, Bool, true, false, List, [], ◌∷◌, ◌++◌, refl, sym, ◌∙◌, subst, true≢false}
use Rattle.std.specs.Prelude.{filter, nat_lt, if◌then◌else◌}
use Rattle.gr_ids.specs.Names.{gtid_eq}
use Rattle.node_rules.specs.Lists.{In}
use Rattle.group_rules.specs.Events.{Cert}
use Rattle.group_rules.specs.Rows.{all_in, with_cert}
use Rattle.apply_queue.specs.Following.{IsRising}
use Rattle.apply_queue.proofs.Lists.{in_filter}
use Rattle.member_truth.specs.Truth.{AreDistinct, Rise}
use Rattle.prepare_acks.proofs.Lists.{in_either}
use Rattle.prepare_acks.proofs.Entries.{gtid_other}

pub rising : (cs : List Cert) → Rise cs → IsRising cs
rising [] k = tt
rising (c ∷ cs) k = (k.0, rising cs k.1)

pub rising_left : (p : Cert → Bool) (cs : List Cert) → IsRising cs → IsRising (filter p cs)
rising_left p [] k = tt
rising_left p (c ∷ cs) k = go (p c) (rising_left p cs k.1)
  where
    go : (b : Bool) → IsRising (filter p cs) → IsRising (if b then c ∷ filter p cs else filter p cs)
    go true r = ((λ d m. k.0 d (in_filter p d cs m).0), r)
    go false r = r

pub rising_last : (cs : List Cert) (c : Cert) → IsRising cs → ((d : Cert) → In d cs → d.place < c.place) → IsRising (cs ++ c ∷ [])
rising_last [] c k h = ((λ d m. absurd m), tt)
rising_last (x ∷ xs) c k h = ((λ d m. by d (in_either d xs (c ∷ []) m)), rising_last xs c k.1 (λ d m. h d (inr m)))
  where
    by : (d : Cert) → In d xs ⊎ In d (c ∷ []) → x.place < d.place
    by d (inl m) = k.0 d m
    by d (inr (inl e)) = subst (λ (z : Cert). x.place < z.place) e (h x (inl refl))
    by d (inr (inr m)) = absurd m

pub distinct_in : (cs : List Cert) → AreDistinct cs → (c d : Cert) → In c cs → In d cs → gtid_eq c.gtid d.gtid ≡ true → c ≡ d
distinct_in [] k c d m n e = absurd m
distinct_in (x ∷ xs) k c d (inl a) (inl b) e = sym a ∙ b
distinct_in (x ∷ xs) k c d (inl a) (inr n) e =
    let other : gtid_eq d.gtid c.gtid ≡ false = subst (λ (z : Cert). gtid_eq d.gtid z.gtid ≡ false) a (k.0 d n) in
    absurd (true≢false (sym e ∙ gtid_other d.gtid c.gtid other))
distinct_in (x ∷ xs) k c d (inr m) (inl b) e =
    let other : gtid_eq c.gtid d.gtid ≡ false = subst (λ (z : Cert). gtid_eq c.gtid z.gtid ≡ false) b (k.0 c m) in
    absurd (true≢false (sym e ∙ other))
distinct_in (x ∷ xs) k c d (inr m) (inr n) e = distinct_in xs k.1 c d m n e

-- ---- what is certified is known

in_here : (xs : List Cert) (c : Cert) → In c (with_cert xs c)
in_here [] c = inl refl
in_here (x ∷ xs) c = go (nat_lt c.place x.place) (in_here xs c)
  where
    go : (b : Bool) → In c (with_cert xs c) → In c (elim b [ true ↦ c ∷ x ∷ xs | false ↦ x ∷ with_cert xs c ])
    go true r = inl refl
    go false r = inr r

in_still : (xs : List Cert) (c d : Cert) → In d xs → In d (with_cert xs c)
in_still [] c d m = absurd m
in_still (x ∷ xs) c d m = go (nat_lt c.place x.place) m (in_still xs c d)
  where
    go : (b : Bool) → In d (x ∷ xs) → (In d xs → In d (with_cert xs c)) → In d (elim b [ true ↦ c ∷ x ∷ xs | false ↦ x ∷ with_cert xs c ])
    go true n r = inr n
    go false (inl e) r = inl e
    go false (inr n) r = inr (r n)

pub in_all : (xs cs : List Cert) (d : Cert) → In d cs → In d (all_in xs cs)
in_all xs [] d m = absurd m
in_all xs (c ∷ cs) d (inl e) = subst (λ (z : Cert). In z (with_cert (all_in xs cs) c)) e (in_here (all_in xs cs) c)
in_all xs (c ∷ cs) d (inr m) = in_still (all_in xs cs) c d (in_all xs cs d m)
