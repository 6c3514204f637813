-- A form that is read field by field: how far it is read, and what a fault of a field says of the whole.
use Rattle.std.proofs.Common.{◌≡◌, ℕ, ◌-◌, ◌≤◌, ◌<◌, List, [], ◌∷◌, length, Result, Ok, Err, IfOk, IfErr, refl, sym, ap, subst, ◌∙◌, arith}
use Rattle.std.specs.Result.{IsErrAnd}
use Rattle.byte_forms.specs.Reads.{Read, Got, Fault, Reader, go_on, ◌>>=◌, pure, at_end, whole}
use Rattle.byte_forms.specs.Cuts.{Cut, Takes, FaultsAt}
use Rattle.byte_forms.specs.Unreads.{Breaks}
use Rattle.byte_forms.specs.declared.faults.Misfit.{Misfit}
use Rattle.byte_forms.specs.declared.unread.Unread.{Unread}
use Rattle.byte_forms.specs.declared.unread.Unread.TheVariants.{Memory, Misfit as Breaks_at}

-- What is left of the form is read by the rest.
pub record Reached {A : Type 0} (form : Reader A) (old mid : Cut) (rest : Reader A) : Type 0 where
  pub left : form old.left ≡ rest mid.left
  pub total : mid.total ≡ old.total

pub reached : {A : Type 0} (form : Reader A) (old mid : Cut) → mid ≡ old → Reached form old mid form
reached form old mid e = record { left = ap (λ c. form c.left) (sym e); total = ap (λ c. c.total) e }

pub reached_on : {A B : Type 0} {form : Reader A} {old mid new : Cut} {read : Reader B} (next : B → Reader A) (x : B) → Reached form old mid (read >>= next) → Takes read mid x new → Reached form old new (next x)
reached_on next x h t = record { left = h.left ∙ ap (λ r. go_on r next) t.value; total = t.whole ∙ h.total }

pub reached_end : {A : Type 0} {form : Reader A} {old mid : Cut} (x : A) → Reached form old mid (pure x) → Takes form old x mid
reached_end x h = record { value = h.left; whole = h.total }

pub faults_there : {A B : Type 0} {form : Reader A} {old mid : Cut} {read : Reader B} (next : B → Reader A) (at : ℕ) → Reached form old mid (read >>= next) → FaultsAt read mid at → FaultsAt form old at
faults_there next at h f = record { fault = h.left ∙ ap (λ r. go_on r next) f.fault ∙ ap (λ t. Fault (t - at)) h.total; within = omega (arith, f.within, h.total) }

pub breaks_there : {A B : Type 0} {form : Reader A} {old mid : Cut} (read : Reader B) (next : B → Reader A) (e : Unread) → Reached form old mid (read >>= next) → Breaks read mid e → Breaks form old e
breaks_there read next Memory h b = tt
breaks_there read next (Breaks_at at) h b = faults_there next at h b

-- ---- readers that read the same

pub takes_same : {A : Type 0} (read other : Reader A) (old : Cut) (x : A) (new : Cut) → other old.left ≡ read old.left → Takes read old x new → Takes other old x new
takes_same read other old x new e h = record { value = e ∙ h.value; whole = h.whole }

pub faults_same : {A : Type 0} (read other : Reader A) (old : Cut) (at : ℕ) → other old.left ≡ read old.left → FaultsAt read old at → FaultsAt other old at
faults_same read other old at e h = record { fault = e ∙ h.fault; within = h.within }

-- of an answer; its value is seen as the reader's
pub if_takes : {A B E : Type 0} (seen : B → A) (read other : Reader A) (old new : Cut) (answer : Result B E) → other old.left ≡ read old.left
    → IfOk answer (λ x. Takes read old (seen x) new) → IfOk answer (λ x. Takes other old (seen x) new)
if_takes seen read other old new (Ok x) e h = takes_same read other old (seen x) new e h
if_takes seen read other old new (Err f) e h = tt

pub if_faults : {A B : Type 0} (read other : Reader A) (old : Cut) (answer : Result B Misfit) → other old.left ≡ read old.left
    → IfErr answer (λ e. FaultsAt read old e.at) → IfErr answer (λ e. FaultsAt other old e.at)
if_faults read other old (Ok x) e h = tt
if_faults read other old (Err f) e h = faults_same read other old f.at e h

-- ---- errors that were made of others

pub err_at : {A : Type 0} (answer : Result A Misfit) (place : ℕ) (P : ℕ → Type 0) → IsErrAnd answer (λ e. e.at ≡ place) → P place → IfErr answer (λ e. P e.at)
err_at (Ok x) place P h p = tt
err_at (Err e) place P h p = subst P (sym h) p

pub err_is : {A E : Type 0} (answer : Result A E) (u : E) (P : E → Type 0) → IsErrAnd answer (λ e. e ≡ u) → P u → IfErr answer P
err_is (Ok x) u P h p = tt
err_is (Err e) u P h p = subst P (sym h) p

-- ---- a value that is equal

pub takes_equal : {A : Type 0} (read : Reader A) (old : Cut) (x y : A) (new : Cut) → x ≡ y → Takes read old x new → Takes read old y new
takes_equal {A} read old x y new e h = record { value = h.value ∙ ap (λ (z : A). Got z new.left) e; whole = h.whole }

-- ---- a byte that stands behind the form

-- all that is left of a whole form is its end
pub whole_ends : {A : Type 0} (form : Reader A) (old : Cut) (x : A) (new : Cut) → Takes form old x new → new.left ≡ [] → whole form old.left ≡ Got x []
whole_ends {A} form old x new h e =
    let P : List ℕ → Type 0 = λ bs. whole form old.left ≡ at_end x bs in
    subst P e (ap (λ r. go_on r at_end) h.value)

at_end-more : {A : Type 0} (x : A) (bytes : List ℕ) → 0 < length bytes → at_end x bytes ≡ Fault (length bytes)
at_end-more x [] h = absurd (omega arith)
at_end-more x (b ∷ bs) h = refl

pub whole_goes_on : {A : Type 0} (form : Reader A) (old : Cut) (x : A) (new : Cut) → Takes form old x new → 0 < length new.left → whole form old.left ≡ Fault (length new.left)
whole_goes_on form old x new h more = ap (λ r. go_on r at_end) h.value ∙ at_end-more x new.left more

pub whole_breaks : {A : Type 0} (form : Reader A) (old : Cut) (at : ℕ) → FaultsAt form old at → whole form old.left ≡ Fault (old.total - at)
whole_breaks form old at h = ap (λ r. go_on r at_end) h.fault
