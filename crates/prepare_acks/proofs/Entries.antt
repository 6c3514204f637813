-- Certified transactions of a history with one thing more: what each requires.
use Rattle.std.proofs.Common.{◌≡◌, inl, inr, ℕ, ◌<◌, Bool, true, false, ◌&&◌, Option, Some, None, List, [], ◌∷◌, refl, sym, ap, subst, ◌∙◌, arith}
use Rattle.std.specs.Prelude.{◌==◌}
use Rattle.std.proofs.lemmas.Bool.{and_from, and_right, eq-eqb, ne_eqb, true≢false}
use Rattle.std.specs.Cmp.Lexicographic.{nat_list_eq_equiv}
use Rattle.gr_ids.specs.declared.names.Inc.{Inc}
use Rattle.gr_ids.specs.declared.names.Gtid.{Gtid}
use Rattle.gr_ids.specs.Names.{gtid_eq, inc_eq}
use Rattle.txn_forms.specs.declared.body.Body.{Body}
use Rattle.txn_forms.specs.declared.body.Body.TheVariants.{Txn as Writes, Prepared, Sync, Executed, Online as Arrives, Mode as Switches, Primary as Appoints, Part as PartOf}
use Rattle.txn_forms.specs.declared.body.Txn.{Txn}
use Rattle.node_rules.specs.Lists.{In}
use Rattle.group_rules.specs.declared.marks.Effect.{Effect}
use Rattle.group_rules.specs.declared.marks.Effect.TheVariants.{Plain, Void, Unread, Positive, Conflict}
use Rattle.group_rules.specs.Commit.{has_prepared, prepares, required}
use Rattle.group_rules.specs.Events.{AskFails, AsksCommit, Answered, Begun, Called, Came, Cert, Changed, Committed, Did, Done, Ends, Enters, Entry, Founds, Gave, Is, Life, Made, Replied, Restores, Setup, Skips, Starts, Took}
use Rattle.group_rules.specs.Life.{cert_by, cert_of, entry_at, upto, view}
use Rattle.group_rules.specs.View.{online_incs}
use Rattle.prepare_acks.specs.Following.{is_entry}
use Rattle.prepare_acks.proofs.MapReads.{same_gtid}

-- ---- GTIDs

pub gtid_same : (g : Gtid) → gtid_eq g g ≡ true
gtid_same g = and_from _ _ (nat_list_eq_equiv.refl g.source) (eq-eqb g.number g.number refl)

pub gtid_other : (g h : Gtid) → gtid_eq g h ≡ false → gtid_eq h g ≡ false
gtid_other g h f = go (gtid_eq h g) refl
  where
    go : (b : Bool) → gtid_eq h g ≡ b → gtid_eq h g ≡ false
    go false e = e
    go true e = absurd (true≢false (sym (gtid_same g) ∙ subst (λ z. gtid_eq g z ≡ false) (same_gtid h g e) f))

-- ---- an entry that is certified

pub record Certifies (e : Entry) (c : Cert) : Type 0 where
  pub gtid : Gtid
  pub txn : Txn
  pub effect : e.effect ≡ Positive gtid
  pub holds : e.holds ≡ Some (Writes txn)
  pub is_it : record { place = e.place; id = e.value.id; gtid = gtid; txn = txn } ≡ c

pub certifies : (e : Entry) (c : Cert) → In c (cert_of e) → Certifies e c
certifies e c h = go e.effect e.holds refl refl h
  where
    go : (f : Effect) (b : Option Body) → e.effect ≡ f → e.holds ≡ b → In c (cert_by e.place e.value.id f b) → Certifies e c
    go (Positive g) (Some (Writes x)) p q (inl z) = record { gtid = g; txn = x; effect = p; holds = q; is_it = z }
    go (Positive g) (Some (Writes x)) p q (inr z) = absurd z
    go (Positive g) (Some (Prepared y)) p q z = absurd z
    go (Positive g) (Some Sync) p q z = absurd z
    go (Positive g) (Some (Executed s)) p q z = absurd z
    go (Positive g) (Some (Arrives s)) p q z = absurd z
    go (Positive g) (Some (Switches m)) p q z = absurd z
    go (Positive g) (Some (Appoints i)) p q z = absurd z
    go (Positive g) (Some (PartOf y)) p q z = absurd z
    go (Positive g) None p q z = absurd z
    go Plain b p q z = absurd z
    go Void b p q z = absurd z
    go Unread b p q z = absurd z
    go (Conflict g) b p q z = absurd z

pub place_is : (e : Entry) (c : Cert) → In c (cert_of e) → c.place ≡ e.place
place_is e c h = sym (ap (λ (d : Cert). d.place) (certifies e c h).is_it)

-- an entry certifies one transaction at most
pub only_one : (e : Entry) (c : Cert) → In c (cert_of e) → cert_of e ≡ c ∷ []
only_one e c h =
    let k = certifies e c h in
    ap (λ (f : Effect). cert_by e.place e.value.id f e.holds) k.effect ∙ (ap (λ (b : Option Body). cert_by e.place e.value.id (Positive k.gtid) b) k.holds ∙ ap (λ (d : Cert). d ∷ []) k.is_it)

-- it acknowledges nothing
pub unprepared_after : (l : Life) (e : Entry) (c : Cert) (m : Inc) (g : Gtid) → In c (cert_of e) → has_prepared (Took e ∷ l) m g ≡ has_prepared l m g
unprepared_after l e c m g h = ap (λ b. elim b [ true ↦ true | false ↦ has_prepared l m g ]) none
  where
    none : (inc_eq e.value.id.origin m && prepares e.holds g) ≡ false
    none = and_right (inc_eq e.value.id.origin m) (prepares e.holds g) (ap (λ (b : Option Body). prepares b g) (certifies e c h).holds)

-- ---- what is required

abbrev required_if : Setup → Life → Entry → ℕ → Bool → List Inc
required_if s l e p b = online_incs (view s (elim b [ true ↦ Took e ∷ l | false ↦ upto l p ]))

pub required_here : (s : Setup) (l : Life) (e : Entry) (c : Cert) → In c (cert_of e) → required s (Took e ∷ l) c ≡ online_incs (view s (Took e ∷ l))
required_here s l e c h = ap (required_if s l e c.place) (eq-eqb e.place c.place (sym (place_is e c h)))

pub required_one : (s : Setup) (l : Life) (e : Entry) (c : Cert) → cert_of e ≡ c ∷ [] → required s (Took e ∷ l) c ≡ online_incs (view s (Took e ∷ l))
required_one s l e c k = required_here s l e c (subst (In c) (sym k) (inl refl))

pub required_later : (s : Setup) (l : Life) (e : Entry) (c : Cert) → c.place < e.place → required s (Took e ∷ l) c ≡ required s l c
required_later s l e c h = ap (required_if s l e c.place) (ne_eqb e.place c.place (omega (arith, h)))

pub passes_required : (s : Setup) (l : Life) (d : Did) (c : Cert) → is_entry d ≡ false → required s (d ∷ l) c ≡ required s l c
passes_required s l Founds c h = refl
passes_required s l (Starts x) c h = refl
passes_required s l (Came x) c h = refl
passes_required s l (Made v x) c h = refl
passes_required s l (Took e) c h = absurd (true≢false h)
passes_required s l (Skips t v) c h = refl
passes_required s l (Done q) c h = refl
passes_required s l (Committed g) c h = refl
passes_required s l (Is u x) c h = refl
passes_required s l (Gave q n) c h = refl
passes_required s l (Answered u x) c h = refl
passes_required s l (Begun u x y) c h = refl
passes_required s l (Changed u x) c h = refl
passes_required s l (Replied x) c h = refl
passes_required s l (Called u v w) c h = refl
passes_required s l (AsksCommit u i) c h = refl
passes_required s l (Ends u) c h = refl
passes_required s l (Enters w) c h = refl
passes_required s l (Restores g cs) c h = refl
passes_required s l AskFails c h = refl

none_up_to : (l : Life) (p : ℕ) → entry_at l p ≡ None → upto l p ≡ []
none_up_to [] p h = refl
none_up_to (Took e ∷ l) p h = go (e.place == p) h (λ k. none_up_to l p k)
  where
    go : (b : Bool) → ◌≡◌ {A = Option Entry} (elim b [ true ↦ Some e | false ↦ entry_at l p ]) None → (entry_at l p ≡ None → upto l p ≡ []) → ◌≡◌ {A = Life} (elim b [ true ↦ Took e ∷ l | false ↦ upto l p ]) []
    go true k r = let x : Some e ≡ None = k in cc
    go false k r = r k
none_up_to (Founds ∷ l) p h = none_up_to l p h
none_up_to (Starts x ∷ l) p h = none_up_to l p h
none_up_to (Came x ∷ l) p h = none_up_to l p h
none_up_to (Made v x ∷ l) p h = none_up_to l p h
none_up_to (Skips t v ∷ l) p h = none_up_to l p h
none_up_to (Done q ∷ l) p h = none_up_to l p h
none_up_to (Committed g ∷ l) p h = none_up_to l p h
none_up_to (Is u x ∷ l) p h = none_up_to l p h
none_up_to (Gave q n ∷ l) p h = none_up_to l p h
none_up_to (Answered u x ∷ l) p h = none_up_to l p h
none_up_to (Begun u x y ∷ l) p h = none_up_to l p h
none_up_to (Changed u x ∷ l) p h = none_up_to l p h
none_up_to (Replied x ∷ l) p h = none_up_to l p h
none_up_to (Called u v w ∷ l) p h = none_up_to l p h
none_up_to (AsksCommit u i ∷ l) p h = none_up_to l p h
none_up_to (Ends u ∷ l) p h = none_up_to l p h
none_up_to (Enters w ∷ l) p h = none_up_to l p h
none_up_to (Restores g cs ∷ l) p h = none_up_to l p h
none_up_to (AskFails ∷ l) p h = none_up_to l p h

-- a transaction at a place that wasn't taken requires nobody
pub none_required : (s : Setup) (l : Life) (c : Cert) → entry_at l c.place ≡ None → required s l c ≡ []
none_required s l c h = ap (λ (k : Life). online_incs (view s k)) (none_up_to l c.place h)
