-- What holds after a success or an error.
use Rattle.std.proofs.Common.{Result, Ok, Err, OnErr, OnOk}

pub err_anyway : {A E : Type 0} {P : Type 0} (r : Result A E) → P → OnErr r P
err_anyway (Ok x) p = tt
err_anyway (Err e) p = p

pub on_err : {A E : Type 0} {P Q : Type 0} (r : Result A E) → (P → Q) → OnErr r P → OnErr r Q
on_err (Ok x) f p = tt
on_err (Err e) f p = f p

pub on_ok : {A E : Type 0} {P Q : Type 0} (r : Result A E) → (P → Q) → OnOk r P → OnOk r Q
on_ok (Ok x) f p = f p
on_ok (Err e) f p = tt
