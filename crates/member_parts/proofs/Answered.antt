-- What is answered of an entry decides what each part makes of it.
use Rattle.std.proofs.Common.{◌≡◌, ℕ, Option, Some, None, List, [], refl, sym, ap, ◌∙◌, inl, inr, subst}
use Rattle.gr_ids.specs.declared.names.Gtid.{Gtid}
use Rattle.gr_ids.specs.declared.names.Inc.{Inc}
use Rattle.gr_ids.specs.declared.names.OpenParts.{OpenParts}
use Rattle.gr_ids.specs.declared.names.ValueId.{ValueId}
use Rattle.gr_ids.specs.Names.{gtid_eq}
use Rattle.std.specs.Prelude.{if◌then◌else◌}
use Rattle.gtid_sets.specs.Sets.{Gtids}
use Rattle.slot_values.specs.declared.value.What.{What}
use Rattle.slot_values.specs.declared.value.What.TheVariants.{Noop, Add, Remove, Body as Says}
use Rattle.txn_forms.specs.Bodies.{body_bytes, read_body}
use Rattle.txn_forms.specs.declared.body.Body.{Body}
use Rattle.txn_forms.specs.declared.body.Body.TheVariants as body
use Rattle.node_rules.specs.Lists.{In}
use Rattle.group_rules.specs.declared.marks.Effect.{Effect}
use Rattle.group_rules.specs.declared.marks.Effect.TheVariants.{Plain, Void, Unread, Positive, Conflict}
use Rattle.group_rules.specs.Events.{Cert, Entry}
use Rattle.group_rules.specs.Life.{cert_by, cert_of}
use Rattle.group_rules.specs.View.{View, online_incs}
use Rattle.donor_recovery.specs.Donating.{Donating, with_given}
use Rattle.donor_recovery.specs.Laws.{with_cert_given}
use Rattle.list_state.specs.declared.held.Held.{Held}
use Rattle.list_state.specs.declared.held.Held.TheVariants.{Txn, Part as PartHeld, Other, Nothing}
use Rattle.list_state.specs.Holding.{HasNumber, IsNews, Shows}
use Rattle.member_backlog.proofs.Backlogs.{with_certs_waiting}
use Rattle.member_backlog.specs.declared.uncommitted.Uncommitted.{Uncommitted}
use Rattle.prepare_acks.specs.Awaited.{prepared_by, without}
use Rattle.prepare_acks.specs.Following.{IsGtid, acks_after, with_cert, with_prepared, with_removed}
use Rattle.member_parts.specs.Entering.{HasUuid, IsSpelt, acknowledged_by, cert_held, given_by, waiting_by}
use Rattle.member_parts.specs.Joining.{AreRead}

-- ---- the certified transaction

no_cert : (p : ℕ) (i : ValueId) (f : Effect) (d : Donating) → with_cert_given (cert_by p i f None) d ≡ d
no_cert p i (Positive g) d = refl
no_cert p i (Conflict g) d = refl
no_cert p i Plain d = refl
no_cert p i Void d = refl
no_cert p i Unread d = refl

no_txn : (p : ℕ) (i : ValueId) (f : Effect) (b : Body) (d : Donating) → IsNews b → with_cert_given (cert_by p i f (Some b)) d ≡ d
no_txn p i (Positive g) (body.Txn t) d h = absurd h
no_txn p i (Positive g) (body.Prepared x) d h = refl
no_txn p i (Positive g) body.Sync d h = refl
no_txn p i (Positive g) (body.Executed x) d h = refl
no_txn p i (Positive g) (body.Online x) d h = refl
no_txn p i (Positive g) (body.Mode x) d h = refl
no_txn p i (Positive g) (body.Primary x) d h = refl
no_txn p i (Positive g) (body.Part x) d h = refl
no_txn p i (Conflict g) b d h = refl
no_txn p i Plain b d h = refl
no_txn p i Void b d h = refl
no_txn p i Unread b d h = refl

pub given_is : (p : ℕ) (i : ValueId) (f : Effect) (y : Option Body) (h : Held) (o : Option OpenParts) (d : Donating) → Shows o y h → given_by p i.origin f h d ≡ with_cert_given (cert_by p i f y) d
given_is p i (Positive g) y (Txn t b) o d s =
    ap (λ (x : List ℕ). record d { certified = with_given d.certified (record { place = p; origin = i.origin; gtid = g; body = x }) }) s.1
    ∙ sym (ap (λ (u : Option Body). with_cert_given (cert_by p i (Positive g) u) d) s.0)
given_is p i (Positive g) y (PartHeld v) o d s = sym (ap (λ (u : Option Body). with_cert_given (cert_by p i (Positive g) u) d) s.1)
given_is p i (Positive g) y (Other b) o d s = sym (ap (λ (u : Option Body). with_cert_given (cert_by p i (Positive g) u) d) s.0 ∙ no_txn p i (Positive g) b d s.1)
given_is p i (Positive g) y Nothing o d s = sym (ap (λ (u : Option Body). with_cert_given (cert_by p i (Positive g) u) d) s)
given_is p i (Conflict g) y h o d s = refl
given_is p i Plain y h o d s = refl
given_is p i Void y h o d s = refl
given_is p i Unread y h o d s = refl

-- ---- what waits

none_waits : (e : Gtids) (p : ℕ) (i : ValueId) (f : Effect) (us : List Uncommitted) → with_certs_waiting e (cert_by p i f None) us ≡ us
none_waits e p i (Positive g) us = refl
none_waits e p i (Conflict g) us = refl
none_waits e p i Plain us = refl
none_waits e p i Void us = refl
none_waits e p i Unread us = refl

no_txn_waits : (e : Gtids) (p : ℕ) (i : ValueId) (g : Gtid) (b : Body) (us : List Uncommitted) → IsNews b → with_certs_waiting e (cert_by p i (Positive g) (Some b)) us ≡ us
no_txn_waits e p i g (body.Txn t) us h = absurd h
no_txn_waits e p i g (body.Prepared x) us h = refl
no_txn_waits e p i g body.Sync us h = refl
no_txn_waits e p i g (body.Executed x) us h = refl
no_txn_waits e p i g (body.Online x) us h = refl
no_txn_waits e p i g (body.Mode x) us h = refl
no_txn_waits e p i g (body.Primary x) us h = refl
no_txn_waits e p i g (body.Part x) us h = refl

pub waiting_is : (e : Gtids) (p : ℕ) (i : ValueId) (f : Effect) (y : Option Body) (h : Held) (o : Option OpenParts) (us : List Uncommitted) → Shows o y h → waiting_by e p i f h us ≡ with_certs_waiting e (cert_by p i f y) us
waiting_is e p i (Positive g) y (Txn t b) o us s = sym (ap (λ (u : Option Body). with_certs_waiting e (cert_by p i (Positive g) u) us) s.0)
waiting_is e p i (Positive g) y (PartHeld v) o us s = sym (ap (λ (u : Option Body). with_certs_waiting e (cert_by p i (Positive g) u) us) s.1)
waiting_is e p i (Positive g) y (Other b) o us s = sym (ap (λ (u : Option Body). with_certs_waiting e (cert_by p i (Positive g) u) us) s.0 ∙ no_txn_waits e p i g b us s.1)
waiting_is e p i (Positive g) y Nothing o us s = sym (ap (λ (u : Option Body). with_certs_waiting e (cert_by p i (Positive g) u) us) s ∙ none_waits e p i (Positive g) us)
waiting_is e p i (Conflict g) y h o us s = refl
waiting_is e p i Plain y h o us s = refl
waiting_is e p i Void y h o us s = refl
waiting_is e p i Unread y h o us s = refl

-- ---- what is certified

no_cert_held : (p : ℕ) (i : ValueId) (f : Effect) → cert_by p i f None ≡ []
no_cert_held p i (Positive g) = refl
no_cert_held p i (Conflict g) = refl
no_cert_held p i Plain = refl
no_cert_held p i Void = refl
no_cert_held p i Unread = refl

no_txn_held : (p : ℕ) (i : ValueId) (g : Gtid) (b : Body) → IsNews b → cert_by p i (Positive g) (Some b) ≡ []
no_txn_held p i g (body.Txn t) h = absurd h
no_txn_held p i g (body.Prepared x) h = refl
no_txn_held p i g body.Sync h = refl
no_txn_held p i g (body.Executed x) h = refl
no_txn_held p i g (body.Online x) h = refl
no_txn_held p i g (body.Mode x) h = refl
no_txn_held p i g (body.Primary x) h = refl
no_txn_held p i g (body.Part x) h = refl

pub held_is : (p : ℕ) (i : ValueId) (f : Effect) (y : Option Body) (h : Held) (o : Option OpenParts) → Shows o y h → cert_held p i f h ≡ cert_by p i f y
held_is p i (Positive g) y (Txn t b) o s = sym (ap (λ (u : Option Body). cert_by p i (Positive g) u) s.0)
held_is p i (Positive g) y (PartHeld v) o s = sym (ap (λ (u : Option Body). cert_by p i (Positive g) u) s.1)
held_is p i (Positive g) y (Other b) o s = sym (ap (λ (u : Option Body). cert_by p i (Positive g) u) s.0 ∙ no_txn_held p i g b s.1)
held_is p i (Positive g) y Nothing o s = sym (ap (λ (u : Option Body). cert_by p i (Positive g) u) s)
held_is p i (Conflict g) y h o s = refl
held_is p i Plain y h o s = refl
held_is p i Void y h o s = refl
held_is p i Unread y h o s = refl

pub spelt_is : (o : Option OpenParts) (y : Option Body) (h : Held) → Shows o y h → IsSpelt h
spelt_is o y (Txn t b) s = (s.1, s.2)
spelt_is o y (PartHeld v) s = tt
spelt_is o y (Other b) s = tt
spelt_is o y Nothing s = tt

pub gtids_held : (p : ℕ) (i : ValueId) (f : Effect) (h : Held) → HasNumber f → HasUuid f → (c : Cert) → In c (cert_held p i f h) → IsGtid c.gtid
gtids_held p i (Positive g) (Txn t b) n u c (inl e) = subst (λ (z : Cert). IsGtid z.gtid) e (u, n)
gtids_held p i (Positive g) (Txn t b) n u c (inr m) = absurd m
gtids_held p i (Positive g) (PartHeld v) n u c m = absurd m
gtids_held p i (Positive g) (Other b) n u c m = absurd m
gtids_held p i (Positive g) Nothing n u c m = absurd m
gtids_held p i (Conflict g) h n u c m = absurd m
gtids_held p i Plain h n u c m = absurd m
gtids_held p i Void h n u c m = absurd m
gtids_held p i Unread h n u c m = absurd m

pub read_held : (p : ℕ) (i : ValueId) (f : Effect) (h : Held) → IsSpelt h → AreRead (cert_held p i f h)
read_held p i (Positive g) (Txn t b) s c (inl e) = subst (λ (z : Cert). read_body (body_bytes (body.Txn z.txn)) ≡ Some (body.Txn z.txn)) e (ap read_body (sym s.0) ∙ s.1)
read_held p i (Positive g) (Txn t b) s c (inr m) = absurd m
read_held p i (Positive g) (PartHeld v) s c m = absurd m
read_held p i (Positive g) (Other b) s c m = absurd m
read_held p i (Positive g) Nothing s c m = absurd m
read_held p i (Conflict g) h s c m = absurd m
read_held p i Plain h s c m = absurd m
read_held p i Void h s c m = absurd m
read_held p i Unread h s c m = absurd m

-- ---- who is awaited

abbrev Awaits : Type 0
Awaits = Gtid → List Inc

same_prepared : (i : Inc) (k : Gtid) (p q : Awaits) (g : Gtid) → p g ≡ q g → prepared_by k i p g ≡ prepared_by k i q g
same_prepared i k p q g e = ap (λ (ms : List Inc). if gtid_eq k g then without i ms else ms) e

acknowledged_is : (i : Inc) (o : Option OpenParts) (y : Option Body) (h : Held) (p q : Awaits) (g : Gtid) → Shows o y h → p g ≡ q g → acknowledged_by i h p g ≡ with_prepared y i q g
acknowledged_is i o y (Txn t b) p q g s e = e ∙ sym (ap (λ (u : Option Body). with_prepared u i q g) s.0)
acknowledged_is i o y (PartHeld v) p q g s e = e ∙ sym (ap (λ (u : Option Body). with_prepared u i q g) s.1)
acknowledged_is i o y Nothing p q g s e = e ∙ sym (ap (λ (u : Option Body). with_prepared u i q g) s)
acknowledged_is i o y (Other (body.Txn t)) p q g s e = absurd s.1
acknowledged_is i o y (Other (body.Prepared k)) p q g s e = same_prepared i k p q g e ∙ sym (ap (λ (u : Option Body). with_prepared u i q g) s.0)
acknowledged_is i o y (Other body.Sync) p q g s e = e ∙ sym (ap (λ (u : Option Body). with_prepared u i q g) s.0)
acknowledged_is i o y (Other (body.Executed x)) p q g s e = e ∙ sym (ap (λ (u : Option Body). with_prepared u i q g) s.0)
acknowledged_is i o y (Other (body.Online x)) p q g s e = e ∙ sym (ap (λ (u : Option Body). with_prepared u i q g) s.0)
acknowledged_is i o y (Other (body.Mode x)) p q g s e = e ∙ sym (ap (λ (u : Option Body). with_prepared u i q g) s.0)
acknowledged_is i o y (Other (body.Primary x)) p q g s e = e ∙ sym (ap (λ (u : Option Body). with_prepared u i q g) s.0)
acknowledged_is i o y (Other (body.Part x)) p q g s e = absurd s.1

same_removed : (f : Effect) (w : What) (p q : Awaits) (g : Gtid) → p g ≡ q g → with_removed f w p g ≡ with_removed f w q g
same_removed Plain (Remove i) p q g e = ap (without i) e
same_removed Plain Noop p q g e = e
same_removed Plain (Add j) p q g e = e
same_removed Plain (Says b) p q g e = e
same_removed Void w p q g e = e
same_removed Unread w p q g e = e
same_removed (Positive k) w p q g e = e
same_removed (Conflict k) w p q g e = e

-- one after another: a certified transaction, a Prepared entry, a Remove
pub awaited_is : (v : View) (e : Entry) (o : Option OpenParts) (h : Held) (cs : List Cert) (was p q r : Awaits) → Shows o e.holds h → cs ≡ cert_of e
    → ((g : Gtid) → p g ≡ with_cert cs (online_incs v) was g) → ((g : Gtid) → q g ≡ acknowledged_by e.value.id.origin h p g) → ((g : Gtid) → r g ≡ with_removed e.effect e.value.what q g)
    → (g : Gtid) → r g ≡ acks_after v e was g
awaited_is v e o h cs was p q r s ec ep eq er g =
    er g ∙ same_removed e.effect e.value.what q (with_prepared e.holds e.value.id.origin (with_cert (cert_of e) (online_incs v) was)) g
    (eq g ∙ acknowledged_is e.value.id.origin o e.holds h p (with_cert (cert_of e) (online_incs v) was) g s (ep g ∙ ap (λ (ds : List Cert). with_cert ds (online_incs v) was g) ec))
