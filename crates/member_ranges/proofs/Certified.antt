-- What an entry makes of the certifier, the told sets and the open parts stays in range.
use Rattle.std.proofs.Common.{◌≡◌, ◌⊎◌, inl, inr, ℕ, suc, ◌≤◌, ◌<◌, Bool, true, false, Option, Some, None, IfSome, List, [], ◌∷◌, refl, subst, arith}
use Rattle.std.proofs.lemmas.Bool.{cond_both}
use Rattle.gr_ids.specs.Names.{inc_eq, inc_lt}
use Rattle.gr_ids.specs.declared.limits.Limits.{Limits}
use Rattle.gr_ids.specs.declared.names.Gtid.{Gtid}
use Rattle.gr_ids.specs.declared.names.Inc.{Inc}
use Rattle.gr_ids.specs.declared.names.LastNumber.{LastNumber}
use Rattle.gr_ids.specs.declared.names.OpenParts.{OpenParts}
use Rattle.gr_ids.specs.declared.names.ValueId.{ValueId}
use Rattle.name_forms.specs.Gtids.{IsGtid}
use Rattle.name_forms.specs.Ids.{last_u64}
use Rattle.gtid_sets.specs.Canonical.{IsCanonical, IsNumber, IsUuid}
use Rattle.gtid_sets.specs.Sets.{Gtids}
use Rattle.gtid_sets.specs.declared.told.ToldSet.{ToldSet}
use Rattle.key_items.specs.declared.item.KeptItem.{KeptItem}
use Rattle.txn_forms.specs.declared.body.Body.{Body}
use Rattle.txn_forms.specs.declared.body.Txn.{Txn}
use Rattle.txn_forms.specs.declared.body.Body.TheVariants.{Txn as Writes, Prepared, Sync, Executed, Online as Arrives, Mode as Switches, Primary as Appoints, Part as PartOf}
use Rattle.txn_forms.proofs.Joins.{after_fits}
use Rattle.txn_forms.proofs.OpenPlaces.{IsOpenFor}
use Rattle.node_rules.specs.Lists.{In}
use Rattle.group_rules.specs.declared.marks.Effect.{Effect}
use Rattle.group_rules.specs.declared.marks.Effect.TheVariants.{Plain, Void, Unread, Positive, Conflict}
use Rattle.group_rules.specs.Events.{Cert, Entry, Life, Setup}
use Rattle.group_rules.specs.Life.{cert_by}
use Rattle.group_rules.specs.Certifier.{Certifier, certified_by, forget_stable, opens_block, with_last, with_positive}
use Rattle.group_rules.specs.Parts.{open_after}
use Rattle.group_rules.specs.Told.{stable, tells, told_after, with_told}
use Rattle.member_ranges.specs.Lives.{IsHolding}
use Rattle.member_ranges.proofs.Items.{Kept, chain_items, kept_later, kept_left, kept_written}

-- ---- the certifier

-- after the entries up to this place
pub record IsCertifier (q : ℕ) (c : Certifier) : Type 0 where
  pub blocks : c.blocks ≤ q
  pub lasts : (x : LastNumber) → In x c.last → x.number ≤ last_u64
  pub items : Kept q None c.items

pub certifier_later : (q p : ℕ) (c : Certifier) → q ≤ p → IsCertifier q c → IsCertifier p c
certifier_later q p c l k = record { blocks = let a = k.blocks in omega (arith, l, a); lasts = k.lasts; items = kept_later q p c.items None l k.items }

in_with_last : (xs : List LastNumber) (n y : LastNumber) → In y (with_last xs n) → (n ≡ y) ⊎ In y xs
in_with_last [] n y h = h
in_with_last (x ∷ xs) n y h = go (inc_lt n.inc x.inc) refl (inc_eq n.inc x.inc) refl (in_with_last xs n y)
  where
    go : (u : Bool) → inc_lt n.inc x.inc ≡ u → (v : Bool) → inc_eq n.inc x.inc ≡ v → (In y (with_last xs n) → (n ≡ y) ⊎ In y xs) → (n ≡ y) ⊎ In y (x ∷ xs)
    go true e v f r = let k : In y (n ∷ x ∷ xs) = rw (e, with_last) at h in k
    go false e true f r = let k : In y (n ∷ xs) = rw (e, f, with_last) at h in elim k [ inl z ↦ inl z | inr z ↦ inr (inr z) ]
    go false e false f r = let k : In y (x ∷ with_last xs n) = rw (e, f, with_last) at h in elim k [ inl z ↦ inr (inl z) | inr z ↦ elim (r z) [ inl w ↦ inl w | inr w ↦ inr (inr w) ] ]

abbrev pub IsNumbered : Gtid → Type 0
IsNumbered g = IsUuid g.source × IsNumber g.number

gtid_of : (g : Gtid) → IsNumbered g → IsGtid g
gtid_of g h = record { source = h.0.long; number_above = h.1.0; number_below = h.1.1 }

with_txn : (x : Limits) (q p : ℕ) (m : Inc) (g : Gtid) (t : Txn) (c : Certifier) → q < p → IsHolding (Some (Writes t)) → IsNumbered g → IsCertifier q c → IsCertifier p (with_positive x p m g t.items c)
with_txn x q p m g t c l h n k = record {
  blocks = let a = k.blocks in cond_both (opens_block x.block g.number) (suc c.blocks) c.blocks (λ (z : ℕ). z ≤ p) (λ e. omega (arith, l, a)) (λ e. omega (arith, l, a));
  lasts = λ y z. elim (in_with_last c.last (record { inc = m; number = g.number }) y z) [ inl e ↦ subst (λ (w : LastNumber). w.number ≤ last_u64) e (let a = n.1.1 in omega (arith, a)) | inr w ↦ k.lasts y w ];
  items = kept_written p g t.items c.items (gtid_of g n) (omega (arith, l)) (chain_items t.items None (h.0).items) (kept_later q p c.items None (omega (arith, l)) k.items);
}

pub certified_is : (x : Limits) (q p : ℕ) (m : Inc) (e : Effect) (h : Option Body) (c : Certifier) → q < p → IsHolding h → ((g : Gtid) (t : Txn) → e ≡ Positive g → h ≡ Some (Writes t) → IsNumbered g) → IsCertifier q c → IsCertifier p (certified_by x p m e h c)
certified_is x q p m (Positive g) (Some (Writes t)) c l h n k = with_txn x q p m g t c l h (n g t refl refl) k
certified_is x q p m (Positive g) None c l h n k = certifier_later q p c (omega (arith, l)) k
certified_is x q p m (Positive g) (Some (Prepared y)) c l h n k = certifier_later q p c (omega (arith, l)) k
certified_is x q p m (Positive g) (Some Sync) c l h n k = certifier_later q p c (omega (arith, l)) k
certified_is x q p m (Positive g) (Some (Executed y)) c l h n k = certifier_later q p c (omega (arith, l)) k
certified_is x q p m (Positive g) (Some (Arrives y)) c l h n k = certifier_later q p c (omega (arith, l)) k
certified_is x q p m (Positive g) (Some (Switches y)) c l h n k = certifier_later q p c (omega (arith, l)) k
certified_is x q p m (Positive g) (Some (Appoints y)) c l h n k = certifier_later q p c (omega (arith, l)) k
certified_is x q p m (Positive g) (Some (PartOf y)) c l h n k = certifier_later q p c (omega (arith, l)) k
certified_is x q p m Plain h c l y n k = certifier_later q p c (omega (arith, l)) k
certified_is x q p m Void h c l y n k = certifier_later q p c (omega (arith, l)) k
certified_is x q p m Unread h c l y n k = certifier_later q p c (omega (arith, l)) k
certified_is x q p m (Conflict g) h c l y n k = certifier_later q p c (omega (arith, l)) k

pub forgotten_is : (s : Setup) (l : Life) (q : ℕ) (c : Certifier) (ks : List KeptItem) → IsCertifier q c → IsCertifier q (forget_stable s l c ks)
forgotten_is s l q c [] k = k
forgotten_is s l q c (x ∷ xs) k = record { blocks = k.blocks; lasts = k.lasts; items = kept_left q (stable s l) c.items None k.items }

-- ---- told sets

tells_set : (h : Option Body) (s : Gtids) → IsHolding h → tells h ≡ Some s → IsCanonical s
tells_set None s k e = absurd (cc e)
tells_set (Some (Writes t)) s k e = absurd (cc e)
tells_set (Some (Prepared g)) s k e = absurd (cc e)
tells_set (Some Sync) s k e = absurd (cc e)
tells_set (Some (Executed x)) s k e = let q : x ≡ s = cc in subst (λ y. IsCanonical y) q k.0
tells_set (Some (Arrives x)) s k e = let q : x ≡ s = cc in subst (λ y. IsCanonical y) q k.0
tells_set (Some (Switches m)) s k e = absurd (cc e)
tells_set (Some (Appoints i)) s k e = absurd (cc e)
tells_set (Some (PartOf p)) s k e = absurd (cc e)

in_with_told : (xs : List ToldSet) (t y : ToldSet) → In y (with_told xs t) → (t ≡ y) ⊎ In y xs
in_with_told [] t y h = h
in_with_told (x ∷ xs) t y h = go (inc_lt t.inc x.inc) refl (inc_eq t.inc x.inc) refl (in_with_told xs t y)
  where
    go : (u : Bool) → inc_lt t.inc x.inc ≡ u → (v : Bool) → inc_eq t.inc x.inc ≡ v → (In y (with_told xs t) → (t ≡ y) ⊎ In y xs) → (t ≡ y) ⊎ In y (x ∷ xs)
    go true e v f r = let k : In y (t ∷ x ∷ xs) = rw (e, with_told) at h in k
    go false e true f r = let k : In y (t ∷ xs) = rw (e, f, with_told) at h in elim k [ inl z ↦ inl z | inr z ↦ inr (inr z) ]
    go false e false f r = let k : In y (x ∷ with_told xs t) = rw (e, f, with_told) at h in elim k [ inl z ↦ inr (inl z) | inr z ↦ elim (r z) [ inl w ↦ inl w | inr w ↦ inr (inr w) ] ]

pub told_is : (e : Entry) (ts : List ToldSet) → IsHolding e.holds → ((x : ToldSet) → In x ts → IsCanonical x.set) → (x : ToldSet) → In x (told_after e (tells e.holds) ts) → IsCanonical x.set
told_is e ts h f x q = go (tells e.holds) refl q
  where
    go : (o : Option Gtids) → tells e.holds ≡ o → In x (told_after e o ts) → IsCanonical x.set
    go None z y = f x y
    go (Some s) z y = elim (in_with_told ts (record { inc = e.value.id.origin; set = s }) x y) [ inl w ↦ subst (λ (t : ToldSet). IsCanonical t.set) w (tells_set e.holds s h z) | inr w ↦ f x w ]

-- ---- open parts

pub parts_are : (o : Inc) (h : Option Body) (w : Option OpenParts) → IsHolding h → IfSome w (IsOpenFor o) → IfSome (open_after o h w) (IsOpenFor o)
parts_are o (Some (PartOf x)) w k f = after_fits o w x k.0 f
parts_are o None w k f = tt
parts_are o (Some (Writes t)) w k f = tt
parts_are o (Some (Prepared g)) w k f = tt
parts_are o (Some Sync) w k f = tt
parts_are o (Some (Executed x)) w k f = tt
parts_are o (Some (Arrives x)) w k f = tt
parts_are o (Some (Switches m)) w k f = tt
parts_are o (Some (Appoints i)) w k f = tt

-- ---- what is certified

pub record IsCertBy (p : ℕ) (i : ValueId) (h : Option Body) (c : Cert) : Type 0 where
  pub place : c.place ≡ p
  pub id : c.id ≡ i
  pub holds : h ≡ Some (Writes c.txn)

cert_one : (p : ℕ) (i : ValueId) (g : Gtid) (t : Txn) (c : Cert) → In c (record { place = p; id = i; gtid = g; txn = t } ∷ []) → IsCertBy p i (Some (Writes t)) c
cert_one p i g t c (inl e) = subst (λ (d : Cert). IsCertBy p i (Some (Writes t)) d) e (record { place = refl; id = refl; holds = refl })
cert_one p i g t c (inr q) = absurd q

pub cert_is : (p : ℕ) (i : ValueId) (e : Effect) (h : Option Body) (c : Cert) → In c (cert_by p i e h) → IsCertBy p i h c
cert_is p i (Positive g) (Some (Writes t)) c q = cert_one p i g t c q
cert_is p i (Positive g) None c q = absurd q
cert_is p i (Positive g) (Some (Prepared y)) c q = absurd q
cert_is p i (Positive g) (Some Sync) c q = absurd q
cert_is p i (Positive g) (Some (Executed y)) c q = absurd q
cert_is p i (Positive g) (Some (Arrives y)) c q = absurd q
cert_is p i (Positive g) (Some (Switches y)) c q = absurd q
cert_is p i (Positive g) (Some (Appoints y)) c q = absurd q
cert_is p i (Positive g) (Some (PartOf y)) c q = absurd q
cert_is p i Plain h c q = absurd q
cert_is p i Void h c q = absurd q
cert_is p i Unread h c q = absurd q
cert_is p i (Conflict g) h c q = absurd q
