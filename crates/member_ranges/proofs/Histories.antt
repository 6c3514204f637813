-- What follows from a history that fits: what its certifier, its told sets and its open parts are, and what it has certified.
use Rattle.std.proofs.Common.{◌≡◌, inl, inr, ℕ, ◌≤◌, Bool, true, false, Option, Some, None, IfSome, List, [], ◌∷◌, reverse, refl, sym, ap, subst, ◌∙◌, arith, length}
use Rattle.std.specs.Prelude.{◌==◌}
use Rattle.std.proofs.lemmas.Bool.{eqb-true}
use Rattle.std.proofs.lemmas.List.{reverse-append}
use Rattle.byte_forms.specs.Lists.{IsChain}
use Rattle.gr_ids.specs.Names.{inc_eq}
use Rattle.gr_ids.specs.declared.names.Gtid.{Gtid}
use Rattle.gr_ids.specs.declared.names.Inc.{Inc}
use Rattle.gr_ids.specs.declared.names.LastNumber.{LastNumber}
use Rattle.gr_ids.specs.declared.names.OpenParts.{OpenParts}
use Rattle.name_forms.specs.Ids.{last_u64}
use Rattle.name_forms.specs.Incs.{IsInc}
use Rattle.name_forms.specs.OpenParts.{IsOpenAfter}
use Rattle.gtid_sets.specs.Canonical.{IsCanonical}
use Rattle.gtid_sets.specs.declared.told.ToldSet.{ToldSet}
use Rattle.slot_values.specs.Slots.{last_slot}
use Rattle.slot_values.specs.Spelling.{last_u32}
use Rattle.txn_forms.specs.declared.body.Body.{Body}
use Rattle.txn_forms.specs.declared.body.Txn.{Txn}
use Rattle.txn_forms.specs.declared.body.Body.TheVariants.{Txn as Writes, Prepared, Sync, Executed, Online as Arrives, Mode as Switches, Primary as Appoints, Part as PartOf}
use Rattle.txn_forms.specs.Bodies.{body_bytes, read_body}
use Rattle.txn_forms.specs.Parts.{parts_of}
use Rattle.txn_forms.proofs.OpenPlaces.{IsOpenFor, parts_open}
use Rattle.paxos_forms.specs.Gives.{IsGivenAfter, IsLastAfter, IsToldAfter, place_above}
use Rattle.paxos_forms.specs.declared.recovery.Give.{Give}
use Rattle.paxos_forms.specs.declared.recovery.Given.{Given}
use Rattle.paxos_forms.specs.declared.welcome.Welcome.{Welcome}
use Rattle.node_rules.specs.Lists.{In}
use Rattle.order_laws.proofs.Lists.{in_append, in_push}
use Rattle.group_rules.specs.declared.marks.Effect.TheVariants.{Positive}
use Rattle.group_rules.specs.Events.{AskFails, AsksCommit, Answered, Begun, Called, Calls, Came, Cert, Changed, Committed, Did, Done, Ends, Enters, Entry, Founds, Gave, Hears, Is, Life, Made, Operates, Replied, Restores, Setup, Skips, Starts, Stored, Ticks, Took, Works}
use Rattle.group_rules.specs.Life.{cert_by, cert_of, certs, entry_at, stored, taken, upto}
use Rattle.group_rules.specs.Certifier.{certifier, with_entry}
use Rattle.group_rules.specs.Parts.{open_after, open_parts}
use Rattle.group_rules.specs.Recovery.{cert_given, cert_read, certs_given}
use Rattle.group_rules.specs.Told.{told}
use Rattle.member_truth.specs.Truth.{IsTrue, IsTrueEntry, IsTrueGive}
use Rattle.member_ranges.specs.Lives.{AllFit, IsHolding, AreGivable, IsInPlace, IsTakenUp}
use Rattle.member_ranges.proofs.Certified.{IsCertifier, IsNumbered, cert_is, certified_is, certifier_later, forgotten_is, parts_are, told_is}
use Rattle.member_ranges.proofs.Holding.{read_holding}

pub record Facts (s : Setup) (l : Life) : Type 0 where
  pub certifies : IsCertifier (taken l) (certifier s l)
  pub sets : (x : ToldSet) → In x (told l) → IsCanonical x.set
  pub parts : (o : Inc) → IfSome (open_parts l o) (IsOpenFor o)
  pub given : AreGivable (certs l)
  pub had : AreGivable (stored l).committed

-- whatever leaves all of these
keeps : (s : Setup) (d : Did) (l : Life) → taken (d ∷ l) ≡ taken l → certifier s (d ∷ l) ≡ certifier s l → told (d ∷ l) ≡ told l → ((o : Inc) → open_parts (d ∷ l) o ≡ open_parts l o)
    → certs (d ∷ l) ≡ certs l → stored (d ∷ l) ≡ stored l → Facts s l → Facts s (d ∷ l)
keeps s d l t c o p x y f = record {
  certifies = subst (λ z. IsCertifier z (certifier s (d ∷ l))) (sym t) (subst (λ z. IsCertifier (taken l) z) (sym c) f.certifies);
  sets = λ z q. f.sets z (subst (λ ts. In z ts) o q);
  parts = λ z. subst (λ (w : Option OpenParts). IfSome w (IsOpenFor z)) (sym (p z)) (f.parts z);
  given = λ z q. f.given z (subst (λ cs. In z cs) x q);
  had = λ z q. f.had z (subst (λ (cs : Stored). In z cs.committed) y q);
}

-- ---- an entry

entry_certs : (s : Setup) (me : Inc) (l : Life) (e : Entry) → IsInPlace s l e → IsTrueEntry s me l e → AreGivable (cert_of e)
entry_certs s me l e f t c q =
    let k = cert_is e.place e.value.id e.effect e.holds c q in
    let p = k.place in
    let n = t.numbers c q in
    record {
      place_above = omega (arith, p, f.above);
      place_below = omega (arith, p, f.below);
      origin = subst (λ i. IsInc i) (sym (ap (λ i. i.origin) k.id)) f.value.id.origin;
      source = n.0;
      number = n.1;
      body = (subst (λ h. IsHolding h) k.holds f.holds).1;
    }

entry_number : (s : Setup) (me : Inc) (l : Life) (e : Entry) → IsTrueEntry s me l e → (g : Gtid) (t : Txn) → e.effect ≡ Positive g → e.holds ≡ Some (Writes t) → IsNumbered g
entry_number s me l e k g t p q = k.numbers (record { place = e.place; id = e.value.id; gtid = g; txn = t }) (subst (λ cs. In (record { place = e.place; id = e.value.id; gtid = g; txn = t }) cs) (sym certified) (inl refl))
  where
    certified : cert_of e ≡ record { place = e.place; id = e.value.id; gtid = g; txn = t } ∷ []
    certified = ap (λ x. cert_by e.place e.value.id x e.holds) p ∙ ap (λ x. cert_by e.place e.value.id (Positive g) x) q

took : (s : Setup) (me : Inc) (l : Life) (e : Entry) → IsInPlace s l e → IsTrueEntry s me l e → Facts s l → Facts s (Took e ∷ l)
took s me l e f t k = record {
  certifies = forgotten_is s (Took e ∷ l) e.place (with_entry s.limits e (certifier s l)) (with_entry s.limits e (certifier s l)).items
      (certified_is s.limits (taken l) e.place e.value.id.origin e.effect e.holds (certifier s l) f.above f.holds (entry_number s me l e t) k.certifies);
  sets = told_is e (told l) f.holds k.sets;
  parts = λ o. go o (inc_eq e.value.id.origin o);
  given = λ c q. elim (in_append c (cert_of e) (certs l) q) [ inl z ↦ entry_certs s me l e f t c z | inr z ↦ k.given c z ];
  had = k.had;
}
  where
    go : (o : Inc) (b : Bool) → IfSome (elim b [ true ↦ open_after o e.holds (open_parts l o) | false ↦ open_parts l o ]) (IsOpenFor o)
    go o true = parts_are o e.holds (open_parts l o) f.holds (k.parts o)
    go o false = k.parts o

-- ---- a Give

in_reverse : {A : Type 0} (xs : List A) (x : A) → In x (reverse xs) → In x xs
in_reverse [] x h = h
in_reverse (y ∷ ys) x h = elim (in_push x (reverse ys) y (subst (λ zs. In x zs) (reverse-append (y ∷ []) ys) h)) [ inl q ↦ inr (in_reverse ys x q) | inr e ↦ inl e ]

-- a transaction that was given, but for its GTID
record IsReadFrom (c : Cert) : Type 0 where
  place_above : 1 ≤ c.place
  place_below : c.place ≤ last_slot
  origin : IsInc c.id.origin
  body : length (body_bytes (Writes c.txn)) ≤ last_u32

above_one : (b : Option Given) → 1 ≤ place_above b
above_one None = omega arith
above_one (Some x) = omega arith

given_one : (p : ℕ) (b : Option Given) (g : Given) (t : Txn) → p ≤ last_slot → IsGivenAfter p b g → read_body g.body ≡ Some (Writes t) → IsReadFrom (cert_given g t)
given_one p b g t l k e = record {
  place_above = let a = above_one b in omega (arith, a, k.above);
  place_below = omega (arith, l, k.below);
  origin = k.origin;
  body = (read_holding g.body (Writes t) k.body e).1;
}

given_read : (p : ℕ) (gs : List Given) (b : Option Given) → p ≤ last_slot → IsChain (IsGivenAfter p) b gs → (c : Cert) → In c (certs_given gs) → IsReadFrom c
given_read p [] b l k c h = absurd h
given_read p (g ∷ gs) b l k c h = go (read_body g.body) refl (given_read p gs (Some g) l k.1 c)
  where
    skips : (o : Option Body) → read_body g.body ≡ o → cert_read g o ≡ [] → (In c (certs_given gs) → IsReadFrom c) → IsReadFrom c
    skips o e z r = let q : In c (certs_given gs) = rw (e, z, certs_given) at h in r q

    go : (o : Option Body) → read_body g.body ≡ o → (In c (certs_given gs) → IsReadFrom c) → IsReadFrom c
    go (Some (Writes t)) e r =
        let q : In c (cert_given g t ∷ certs_given gs) = rw (e, certs_given) at h in
        elim q [ inl z ↦ subst (λ y. IsReadFrom y) z (given_one p b g t l k.0 e) | inr z ↦ r z ]
    go None e r = skips None e refl r
    go (Some (Prepared x)) e r = skips (Some (Prepared x)) e refl r
    go (Some Sync) e r = skips (Some Sync) e refl r
    go (Some (Executed x)) e r = skips (Some (Executed x)) e refl r
    go (Some (Arrives x)) e r = skips (Some (Arrives x)) e refl r
    go (Some (Switches x)) e r = skips (Some (Switches x)) e refl r
    go (Some (Appoints x)) e r = skips (Some (Appoints x)) e refl r
    go (Some (PartOf x)) e r = skips (Some (PartOf x)) e refl r

last_numbers : (xs : List LastNumber) (b : Option LastNumber) → IsChain IsLastAfter b xs → (x : LastNumber) → In x xs → x.number ≤ last_u64
last_numbers [] b k x h = absurd h
last_numbers (y ∷ ys) b k x (inl e) = subst (λ (z : LastNumber). z.number ≤ last_u64) e (k.0).small
last_numbers (y ∷ ys) b k x (inr q) = last_numbers ys (Some y) k.1 x q

told_sets : (xs : List ToldSet) (b : Option ToldSet) → IsChain IsToldAfter b xs → (x : ToldSet) → In x xs → IsCanonical x.set
told_sets [] b k x h = absurd h
told_sets (y ∷ ys) b k x (inl e) = subst (λ (z : ToldSet). IsCanonical z.set) e (k.0).set
told_sets (y ∷ ys) b k x (inr q) = told_sets ys (Some y) k.1 x q

open_given : (ps : List OpenParts) → IsChain IsOpenAfter None ps → (o : Inc) → IfSome (parts_of ps o) (IsOpenFor o)
open_given ps k o = go (parts_of ps o) refl
  where
    go : (w : Option OpenParts) → parts_of ps o ≡ w → IfSome w (IsOpenFor o)
    go None e = tt
    go (Some p) e = parts_open ps None o p k e

restores : (s : Setup) (me : Inc) (l : Life) (g : Give) (cs : List Cert) → IsTakenUp l g cs → IsTrueGive me l cs → Facts s l → Facts s (Restores g cs ∷ l)
restores s me l g cs f t k = record {
  certifies = subst (λ z. IsCertifier z (certifier s (Restores g cs ∷ l))) f.place (record { blocks = f.give.blocks; lasts = last_numbers g.last None f.give.last; items = f.give.items });
  sets = told_sets g.told None f.give.told;
  parts = open_given g.parts f.give.parts;
  given = λ c q.
      let z = in_reverse cs c q in
      let r = given_read g.place g.txns None f.give.place_below f.give.txns c (subst (λ ds. In c ds) f.certs z) in
      let n = t.numbers c z in
      record { place_above = r.place_above; place_below = r.place_below; origin = r.origin; source = n.0; number = n.1; body = r.body };
  had = k.had;
}

enters : (s : Setup) (l : Life) (w : Welcome) → taken l ≤ w.place → Facts s l → Facts s (Enters w ∷ l)
enters s l w h k = record { certifies = certifier_later (taken l) w.place (certifier s l) h k.certifies; sets = k.sets; parts = k.parts; given = k.given; had = k.had }

starts : (s : Setup) (l : Life) (x : Stored) → AreGivable x.committed → Facts s l → Facts s (Starts x ∷ l)
starts s l x h k = record { certifies = k.certifies; sets = k.sets; parts = k.parts; given = k.given; had = h }

-- ---- a history

pub facts : (s : Setup) (me : Inc) (l : Life) → AllFit s l → IsTrue s me l → Facts s l
facts s me [] f t = record { certifies = record { blocks = omega arith; lasts = λ x h. absurd h; items = tt }; sets = λ x h. absurd h; parts = λ o. tt; given = λ c h. absurd h; had = λ c h. absurd h }
facts s me (Took e ∷ l) f t = took s me l e f.0 t.0 (facts s me l f.1 t.1)
facts s me (Restores g cs ∷ l) f t = restores s me l g cs f.0 t.0 (facts s me l f.1 t.1)
facts s me (Enters w ∷ l) f t = enters s l w (f.0).place (facts s me l f.1 t.1)
facts s me (Starts x ∷ l) f t = starts s l x (f.0).0 (facts s me l f.1 t.1)
facts s me (Founds ∷ l) f t = keeps s Founds l refl refl refl (λ o. refl) refl refl (facts s me l f.1 t.1)
facts s me (Came (Hears m) ∷ l) f t = keeps s (Came (Hears m)) l refl refl refl (λ o. refl) refl refl (facts s me l f.1 t.1)
facts s me (Came Ticks ∷ l) f t = keeps s (Came Ticks) l refl refl refl (λ o. refl) refl refl (facts s me l f.1 t.1)
facts s me (Came (Works p b) ∷ l) f t = keeps s (Came (Works p b)) l refl refl refl (λ o. refl) refl refl (facts s me l f.1 t.1)
facts s me (Came (Calls s' r') ∷ l) f t = keeps s (Came (Calls s' r')) l refl refl refl (λ o. refl) refl refl (facts s me l f.1 t.1)
facts s me (Came (Operates o) ∷ l) f t = keeps s (Came (Operates o)) l refl refl refl (λ o. refl) refl refl (facts s me l f.1 t.1)
facts s me (Made v x ∷ l) f t = keeps s (Made v x) l refl refl refl (λ o. refl) refl refl (facts s me l f.1 t.1)
facts s me (Skips t' v ∷ l) f t = keeps s (Skips t' v) l refl refl refl (λ o. refl) refl refl (facts s me l f.1 t.1)
facts s me (Done p ∷ l) f t = keeps s (Done p) l refl refl refl (λ o. refl) refl refl (facts s me l f.1 t.1)
facts s me (Committed g ∷ l) f t = keeps s (Committed g) l refl refl refl (λ o. refl) refl refl (facts s me l f.1 t.1)
facts s me (Is st c ∷ l) f t = keeps s (Is st c) l refl refl refl (λ o. refl) refl refl (facts s me l f.1 t.1)
facts s me (Gave p n ∷ l) f t = keeps s (Gave p n) l refl refl refl (λ o. refl) refl refl (facts s me l f.1 t.1)
facts s me (Answered s' x ∷ l) f t = keeps s (Answered s' x) l refl refl refl (λ o. refl) refl refl (facts s me l f.1 t.1)
facts s me (Begun s' e y ∷ l) f t = keeps s (Begun s' e y) l refl refl refl (λ o. refl) refl refl (facts s me l f.1 t.1)
facts s me (Changed s' y ∷ l) f t = keeps s (Changed s' y) l refl refl refl (λ o. refl) refl refl (facts s me l f.1 t.1)
facts s me (Replied r' ∷ l) f t = keeps s (Replied r') l refl refl refl (λ o. refl) refl refl (facts s me l f.1 t.1)
facts s me (Called s' v y ∷ l) f t = keeps s (Called s' v y) l refl refl refl (λ o. refl) refl refl (facts s me l f.1 t.1)
facts s me (AsksCommit s' i ∷ l) f t = keeps s (AsksCommit s' i) l refl refl refl (λ o. refl) refl refl (facts s me l f.1 t.1)
facts s me (Ends s' ∷ l) f t = keeps s (Ends s') l refl refl refl (λ o. refl) refl refl (facts s me l f.1 t.1)
facts s me (AskFails ∷ l) f t = keeps s AskFails l refl refl refl (λ o. refl) refl refl (facts s me l f.1 t.1)

-- ---- up to an entry

pub record Upto (s : Setup) (me : Inc) (l : Life) (p : ℕ) (e : Entry) : Type 0 where
  pub before : Life
  pub history : upto l p ≡ Took e ∷ before
  pub place : e.place ≡ p
  pub fits : AllFit s (Took e ∷ before)
  pub holds : IsTrue s me (Took e ∷ before)

some_is : {A : Type 0} {x y : A} → Some x ≡ Some y → x ≡ y
some_is {x = x} {y = y} e = cc

earlier : (s : Setup) (me : Inc) (l m : Life) (p : ℕ) (e : Entry) → upto m p ≡ upto l p → Upto s me l p e → Upto s me m p e
earlier s me l m p e h u = record { before = u.before; history = h ∙ u.history; place = u.place; fits = u.fits; holds = u.holds }

pub upto_entry : (s : Setup) (me : Inc) (l : Life) (p : ℕ) (e : Entry) → entry_at l p ≡ Some e → AllFit s l → IsTrue s me l → Upto s me l p e
upto_entry s me [] p e h f t = absurd (cc h)
upto_entry s me (Took x ∷ l) p e h f t = go (x.place == p) refl (upto_entry s me l p e)
  where
    go : (b : Bool) → (x.place == p) ≡ b → (entry_at l p ≡ Some e → AllFit s l → IsTrue s me l → Upto s me l p e) → Upto s me (Took x ∷ l) p e
    go true q r =
        let k : Some x ≡ Some e = rw (q, entry_at) at h in
        let z : x ≡ e = some_is k in
        let u : upto (Took x ∷ l) p ≡ Took x ∷ l = rw (q, upto) refl in
        record { before = l; history = u ∙ ap (λ y. Took y ∷ l) z; place = ap (λ (y : Entry). y.place) (sym z) ∙ eqb-true x.place p q; fits = subst (λ y. AllFit s (Took y ∷ l)) z f; holds = subst (λ y. IsTrue s me (Took y ∷ l)) z t }
    go false q r =
        let k : entry_at l p ≡ Some e = rw (q, entry_at) at h in
        let u : upto (Took x ∷ l) p ≡ upto l p = rw (q, upto) refl in
        earlier s me l (Took x ∷ l) p e u (r k f.1 t.1)
upto_entry s me (Restores g cs ∷ l) p e h f t = earlier s me l (Restores g cs ∷ l) p e refl (upto_entry s me l p e h f.1 t.1)
upto_entry s me (Enters w ∷ l) p e h f t = earlier s me l (Enters w ∷ l) p e refl (upto_entry s me l p e h f.1 t.1)
upto_entry s me (Starts x ∷ l) p e h f t = earlier s me l (Starts x ∷ l) p e refl (upto_entry s me l p e h f.1 t.1)
upto_entry s me (Founds ∷ l) p e h f t = earlier s me l (Founds ∷ l) p e refl (upto_entry s me l p e h f.1 t.1)
upto_entry s me (Came (Hears m) ∷ l) p e h f t = earlier s me l (Came (Hears m) ∷ l) p e refl (upto_entry s me l p e h f.1 t.1)
upto_entry s me (Came Ticks ∷ l) p e h f t = earlier s me l (Came Ticks ∷ l) p e refl (upto_entry s me l p e h f.1 t.1)
upto_entry s me (Came (Works q b) ∷ l) p e h f t = earlier s me l (Came (Works q b) ∷ l) p e refl (upto_entry s me l p e h f.1 t.1)
upto_entry s me (Came (Calls s' r') ∷ l) p e h f t = earlier s me l (Came (Calls s' r') ∷ l) p e refl (upto_entry s me l p e h f.1 t.1)
upto_entry s me (Came (Operates o) ∷ l) p e h f t = earlier s me l (Came (Operates o) ∷ l) p e refl (upto_entry s me l p e h f.1 t.1)
upto_entry s me (Made v x ∷ l) p e h f t = earlier s me l (Made v x ∷ l) p e refl (upto_entry s me l p e h f.1 t.1)
upto_entry s me (Skips t' v ∷ l) p e h f t = earlier s me l (Skips t' v ∷ l) p e refl (upto_entry s me l p e h f.1 t.1)
upto_entry s me (Done q ∷ l) p e h f t = earlier s me l (Done q ∷ l) p e refl (upto_entry s me l p e h f.1 t.1)
upto_entry s me (Committed g ∷ l) p e h f t = earlier s me l (Committed g ∷ l) p e refl (upto_entry s me l p e h f.1 t.1)
upto_entry s me (Is st c ∷ l) p e h f t = earlier s me l (Is st c ∷ l) p e refl (upto_entry s me l p e h f.1 t.1)
upto_entry s me (Gave q n ∷ l) p e h f t = earlier s me l (Gave q n ∷ l) p e refl (upto_entry s me l p e h f.1 t.1)
upto_entry s me (Answered s' x ∷ l) p e h f t = earlier s me l (Answered s' x ∷ l) p e refl (upto_entry s me l p e h f.1 t.1)
upto_entry s me (Begun s' e' y ∷ l) p e h f t = earlier s me l (Begun s' e' y ∷ l) p e refl (upto_entry s me l p e h f.1 t.1)
upto_entry s me (Changed s' y ∷ l) p e h f t = earlier s me l (Changed s' y ∷ l) p e refl (upto_entry s me l p e h f.1 t.1)
upto_entry s me (Replied r' ∷ l) p e h f t = earlier s me l (Replied r' ∷ l) p e refl (upto_entry s me l p e h f.1 t.1)
upto_entry s me (Called s' v y ∷ l) p e h f t = earlier s me l (Called s' v y ∷ l) p e refl (upto_entry s me l p e h f.1 t.1)
upto_entry s me (AsksCommit s' i ∷ l) p e h f t = earlier s me l (AsksCommit s' i ∷ l) p e refl (upto_entry s me l p e h f.1 t.1)
upto_entry s me (Ends s' ∷ l) p e h f t = earlier s me l (Ends s' ∷ l) p e refl (upto_entry s me l p e h f.1 t.1)
upto_entry s me (AskFails ∷ l) p e h f t = earlier s me l (AskFails ∷ l) p e refl (upto_entry s me l p e h f.1 t.1)
