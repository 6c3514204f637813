-- A history that takes a list and its life have the same places, certified transactions, and views.
use Rattle.std.proofs.Common.{◌≡◌, ℕ, suc, Bool, true, false, List, [], ◌∷◌, ◌++◌, length, map, refl, ◌∙◌, sym, ap, subst}
use Rattle.std.specs.Prelude.{Option, Some, None}
use Rattle.std.proofs.lemmas.Bool.{false≢true}
use Rattle.gr_ids.specs.declared.names.Inc.{Inc}
use Rattle.gr_ids.specs.declared.names.ValueId.{ValueId}
use Rattle.gr_ids.specs.declared.levels.MemberState.{MemberState}
use Rattle.gr_ids.specs.declared.levels.MemberState.TheVariants.{Error}
use Rattle.slot_values.specs.declared.value.What.{What}
use Rattle.slot_values.specs.declared.value.What.TheVariants.{Noop, Add, Remove, Body as Says}
use Rattle.slot_values.specs.declared.value.Value.{Value}
use Rattle.txn_forms.specs.declared.body.Body.{Body}
use Rattle.txn_forms.specs.declared.body.Body.TheVariants.{Txn as Writes, Online as Arrives, Mode as Switches, Primary as Appoints}
use Rattle.txn_forms.specs.declared.body.ModeChange.TheVariants.{Multi as ToMulti, Single as ToSingle}
use Rattle.group_rules.specs.declared.answers.Answer.{Answer}
use Rattle.group_rules.specs.declared.answers.Answer.TheVariants.{Committed as CommittedAs}
use Rattle.group_rules.specs.declared.marks.Cause.{Cause}
use Rattle.group_rules.specs.declared.marks.Effect.{Effect}
use Rattle.group_rules.specs.declared.marks.Effect.TheVariants.{Plain, Void, Unread, Positive, Conflict}
use Rattle.group_rules.specs.Events.{Founds, Starts, Made, Took, Is, Answered, Restores, Enters, Life, Cert, Setup}
use Rattle.group_rules.specs.Life.{taken, view, certs, cert_by, has_give}
use Rattle.group_rules.specs.View.{View, next_view, void_if, is_idle}
use Rattle.group_laws.specs.Entries as law
use Rattle.group_laws.specs.Primary as primary
use Rattle.group_laws.specs.Life as lives
use Rattle.group_lives.specs.Lives.{does_entry, outcome_of, law_cert, made_did, did_of, life_of}
use Rattle.group_lives.specs.Sound.{IsEffect, IsTaking}

pub skip_answer : (base : List law.Placed) (s : ℕ) (a : Answer) (l : Life) (m : lives.Life) → lives.marked (did_of base (Answered s a) l ++ m) ≡ lives.marked m
skip_answer base s (CommittedAs h) l m = refl
skip_answer base s a l m = refl

pub skip_state : (base : List law.Placed) (x : MemberState) (c : Cause) (l : Life) (m : lives.Life) → lives.marked (did_of base (Is x c) l ++ m) ≡ lives.marked m
skip_state base Error c l m = refl
skip_state base x c l m = refl

pub skip_made : (v : Value) (b : Option Body) (l : Life) (m : lives.Life) → lives.marked (made_did v b l ++ m) ≡ lives.marked m
skip_made v (Some (Writes t)) l m = refl
skip_made v b l m = refl

-- ---- places

pub places_agree : (s : Setup) (base : List law.Placed) (l : Life) → IsTaking s base l → length (lives.marked (life_of base l)) ≡ taken l
places_agree s base [] h = absurd h
places_agree s base (Founds ∷ l) h = subst (λ (y : Life). length (lives.marked (life_of base y)) ≡ taken y) (sym h) refl
places_agree s base (Took e ∷ l) h = ap suc (places_agree s base l h.1) ∙ sym h.0.0
places_agree s base (Restores g cs ∷ l) h = h.places
places_agree s base (Enters w ∷ l) h = absurd h
places_agree s base (Starts x ∷ l) h = absurd h
places_agree s base (Answered k a ∷ l) h = ap length (skip_answer base k a l (life_of base l)) ∙ places_agree s base l h
places_agree s base (Is x c ∷ l) h = ap length (skip_state base x c l (life_of base l)) ∙ places_agree s base l h
places_agree s base (Made v b ∷ l) h = ap length (skip_made v b l (life_of base l)) ∙ places_agree s base l h
places_agree s base (d ∷ l) h = places_agree s base l h

-- ---- certified transactions

one_cert : (s : Setup) (v : View) (p : ℕ) (i : ValueId) (w : What) (b : Option Body) (e : Effect) (cs : List Cert) → IsEffect s v w b e
    → law.cons_some (law.cert_parts s p i.origin i.number (does_entry w e b) (outcome_of e)) (map law_cert cs) ≡ map law_cert (cert_by p i e b ++ cs)
one_cert s v p i (Says x) (Some (Writes t)) (Positive g) cs h = λ k. record { place = p; origin = i.origin; id = i.number; gtid = record { source = sym h k; number = g.number }; txn = t } ∷ map law_cert cs
one_cert s v p i (Says x) (Some (Writes t)) (Conflict g) cs h = refl
one_cert s v p i (Says x) (Some (Writes t)) Plain cs h = absurd h
one_cert s v p i (Says x) (Some (Writes t)) Void cs h = absurd h
one_cert s v p i (Says x) (Some (Writes t)) Unread cs h = absurd h
one_cert s v p i (Says x) None Plain cs h = refl
one_cert s v p i (Says x) None e cs h = refl
one_cert s v p i (Says x) (Some b) Plain cs h = refl
one_cert s v p i (Says x) (Some b) e cs h = refl
one_cert s v p i Noop (Some b) e cs h = absurd h
one_cert s v p i (Add j) (Some b) e cs h = absurd h
one_cert s v p i (Remove j) (Some b) e cs h = absurd h
one_cert s v p i Noop None Plain cs h = refl
one_cert s v p i Noop None e cs h = refl
one_cert s v p i (Add j) None Plain cs h = refl
one_cert s v p i (Add j) None e cs h = refl
one_cert s v p i (Remove j) None Plain cs h = refl
one_cert s v p i (Remove j) None e cs h = refl

pub certs_agree : (s : Setup) (base : List law.Placed) (l : Life) → IsTaking s base l → has_give l ≡ false → law.certified s (lives.marked (life_of base l)) ≡ map law_cert (certs l)
certs_agree s base [] h f = absurd h
certs_agree s base (Founds ∷ l) h f = subst (λ (y : Life). law.certified s (lives.marked (life_of base y)) ≡ map law_cert (certs y)) (sym h) refl
certs_agree s base (Took e ∷ l) h f = go (certs_agree s base l h.1 f) (ap suc (places_agree s base l h.1) ∙ sym h.0.0)
  where
    go : law.certified s (lives.marked (life_of base l)) ≡ map law_cert (certs l) → suc (length (lives.marked (life_of base l))) ≡ e.place → law.certified s (lives.marked (life_of base (Took e ∷ l))) ≡ map law_cert (certs (Took e ∷ l))
    go q n =
        let x : law.certified s (lives.marked (life_of base (Took e ∷ l))) ≡ law.cons_some (law.cert_parts s e.place e.value.id.origin e.value.id.number (does_entry e.value.what e.effect e.holds) (outcome_of e.effect)) (map law_cert (certs l)) =
        λ k. law.cons_some (law.cert_parts s (n k) e.value.id.origin e.value.id.number (does_entry e.value.what e.effect e.holds) (outcome_of e.effect)) (q k) in
        x ∙ one_cert s (view s l) e.place e.value.id e.value.what e.holds e.effect (certs l) h.0.1
certs_agree s base (Restores g cs ∷ l) h f = absurd (false≢true (sym f))
certs_agree s base (Enters w ∷ l) h f = absurd h
certs_agree s base (Starts x ∷ l) h f = absurd h
certs_agree s base (Answered k a ∷ l) h f = ap (law.certified s) (skip_answer base k a l (life_of base l)) ∙ certs_agree s base l h f
certs_agree s base (Is x c ∷ l) h f = ap (law.certified s) (skip_state base x c l (life_of base l)) ∙ certs_agree s base l h f
certs_agree s base (Made v b ∷ l) h f = ap (law.certified s) (skip_made v b l (life_of base l)) ∙ certs_agree s base l h f
certs_agree s base (d ∷ l) h f = certs_agree s base l h f

-- ---- views

by_idle : (n : ℕ) (o : Inc) (x : List ℕ) (b : Body) (v : View) (y : Bool) → next_view n o (Says []) (Some b) (void_if y) v ≡ next_view n o (Says x) (Some b) (void_if y) v
by_idle n o x (Switches ToMulti) v true = refl
by_idle n o x (Switches ToMulti) v false = refl
by_idle n o x (Switches (ToSingle i)) v true = refl
by_idle n o x (Switches (ToSingle i)) v false = refl
by_idle n o x b v true = refl
by_idle n o x b v false = refl

one_view : (s : Setup) (v : View) (n : ℕ) (o : Inc) (w : What) (b : Option Body) (e : Effect) → IsEffect s v w b e → primary.view_after n o (does_entry w e b) v ≡ next_view n o w b e v
one_view s v n o (Says x) (Some (Switches m)) e h = by_idle n o x (Switches m) v (is_idle v (Switches m)) ∙ ap (λ (y : Effect). next_view n o (Says x) (Some (Switches m)) y v) (sym h.1)
one_view s v n o (Says x) (Some (Appoints i)) e h = by_idle n o x (Appoints i) v (is_idle v (Appoints i)) ∙ ap (λ (y : Effect). next_view n o (Says x) (Some (Appoints i)) y v) (sym h.1)
one_view s v n o (Says x) (Some (Arrives t)) e h = ap (λ (y : Effect). next_view n o (Says x) (Some (Arrives t)) y v) (sym h.1)
one_view s v n o (Says x) None Plain h = refl
one_view s v n o (Says x) None e h = refl
one_view s v n o (Says x) (Some b) Plain h = refl
one_view s v n o (Says x) (Some b) e h = refl
one_view s v n o Noop (Some b) e h = absurd h
one_view s v n o (Add j) (Some b) e h = absurd h
one_view s v n o (Remove j) (Some b) e h = absurd h
one_view s v n o Noop None Plain h = refl
one_view s v n o Noop None e h = refl
one_view s v n o (Add j) None Plain h = refl
one_view s v n o (Add j) None e h = refl
one_view s v n o (Remove j) None Plain h = refl
one_view s v n o (Remove j) None e h = refl

length_values : (m : List law.Placed) → length (law.values m) ≡ length m
length_values [] = refl
length_values (e ∷ m) = ap suc (length_values m)

pub views_agree : (s : Setup) (base : List law.Placed) (l : Life) → IsTaking s base l → primary.view s (lives.taken (life_of base l)) ≡ view s l
views_agree s base [] h = absurd h
views_agree s base (Founds ∷ l) h = subst (λ (y : Life). primary.view s (lives.taken (life_of base (Founds ∷ y))) ≡ view s (Founds ∷ y)) (sym h) refl
views_agree s base (Took e ∷ l) h = go (views_agree s base l h.1) (ap suc (length_values (lives.marked (life_of base l)) ∙ places_agree s base l h.1) ∙ sym h.0.0)
  where
    go : primary.view s (lives.taken (life_of base l)) ≡ view s l → suc (length (lives.taken (life_of base l))) ≡ e.place → primary.view s (lives.taken (life_of base (Took e ∷ l))) ≡ view s (Took e ∷ l)
    go q n =
        let x : primary.view s (lives.taken (life_of base (Took e ∷ l))) ≡ primary.view_after e.place e.value.id.origin (does_entry e.value.what e.effect e.holds) (view s l) =
        λ k. primary.view_after (n k) e.value.id.origin (does_entry e.value.what e.effect e.holds) (q k) in
        x ∙ one_view s (view s l) e.place e.value.id.origin e.value.what e.holds e.effect h.0.1
views_agree s base (Restores g cs ∷ l) h = h.view
views_agree s base (Enters w ∷ l) h = absurd h
views_agree s base (Starts x ∷ l) h = absurd h
views_agree s base (Answered k a ∷ l) h = ap (λ (y : List law.Placed). primary.view s (law.values y)) (skip_answer base k a l (life_of base l)) ∙ views_agree s base l h
views_agree s base (Is x c ∷ l) h = ap (λ (y : List law.Placed). primary.view s (law.values y)) (skip_state base x c l (life_of base l)) ∙ views_agree s base l h
views_agree s base (Made v b ∷ l) h = ap (λ (y : List law.Placed). primary.view s (law.values y)) (skip_made v b l (life_of base l)) ∙ views_agree s base l h
views_agree s base (d ∷ l) h = views_agree s base l h
