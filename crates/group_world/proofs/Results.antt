-- What holds of a result in each of its cases.
use Rattle.std.proofs.Common.{◌≡◌, subst, sym}
use Rattle.std.specs.Prelude.{Result, Ok, Err, IfErr, IfOk, OnOk}
use Rattle.std.specs.Result.{IsErrAnd}

pub if_err : {A E : Type 0} {P Q : E → Type 0} (r : Result A E) → IfErr r P → ((e : E) → P e → Q e) → IfErr r Q
if_err (Ok x) h k = tt
if_err (Err e) h k = k e h

pub if_ok : {A E : Type 0} {P Q : A → Type 0} (r : Result A E) → IfOk r P → ((x : A) → P x → Q x) → IfOk r Q
if_ok (Ok x) h k = k x h
if_ok (Err e) h k = tt

pub on_ok : {A E : Type 0} {P Q : Type 0} (r : Result A E) → OnOk r P → (P → Q) → OnOk r Q
on_ok (Ok x) h k = k h
on_ok (Err e) h k = tt

-- four facts at once
pub on_four : {A E : Type 0} {P Q R S T : Type 0} (r : Result A E) → OnOk r P → OnOk r Q → OnOk r R → OnOk r S → (P → Q → R → S → T) → OnOk r T
on_four (Ok x) p q s t k = k p q s t
on_four (Err e) p q s t k = tt

-- what the exit of a `?` returns
pub err_is : {A E : Type 0} (answer : Result A E) (u : E) (P : E → Type 0) → IsErrAnd answer (λ e. e ≡ u) → P u → IfErr answer P
err_is (Ok x) u P h p = tt
err_is (Err e) u P h p = subst P (sym h) p

-- no success is returned there
pub no_ok : {A E : Type 0} (P : Type 0) (r : Result A E) (u : E) → IsErrAnd r (λ e. e ≡ u) → OnOk r P
no_ok P (Ok x) u h = absurd h
no_ok P (Err e) u h = tt
