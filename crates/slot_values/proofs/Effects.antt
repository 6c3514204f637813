-- What an effect says of the members.
use Rattle.std.proofs.Common.{◌≡◌, ℕ, Bool, true, false, not, ◌&&◌, refl, ap, ◌∙◌, ◌++◌, ◌∷◌, [], List, length, ◌-◌, ◌<◌, Some, arith}
use Rattle.std.specs.List.{slice_get}
use Rattle.std.specs.Prelude.{map, replicate}
use Rattle.std.proofs.lemmas.List.{length-append, length-replicate, get_or-replicate}
use Rattle.std.proofs.lemmas.Option.{slice_get-get_or}
use Rattle.std.proofs.Math.Seq.{get_or-append_seam}
use Rattle.gr_ids.specs.declared.names.Inc.{Inc}
use Rattle.gr_ids.specs.Names.{has_inc}
use Rattle.slot_values.specs.Values.{Joiner, Add}
use Rattle.slot_values.specs.Log.{Reading, has_effect, incs}

last_holds : (s t : Bool) → (s && not t) ≡ true → t ≡ false
last_holds true true e = absurd cc
last_holds true false e = refl
last_holds false t e = absurd cc

-- one that is added never was a member
pub never_was : (r : Reading) (j : Joiner) → has_effect r (Add j) ≡ true → has_inc r.ever j.inc ≡ false
never_was r j e = last_holds _ (has_inc r.ever j.inc) e

pub latest_after : (cs : List (List Inc)) (c : List Inc) → slice_get (cs ++ c ∷ []) (length (cs ++ c ∷ []) - 1) ≡ Some c
latest_after cs c =
    let n : length (cs ++ c ∷ []) - 1 ≡ length cs = omega (arith, length-append cs (c ∷ [])) in
    rw n (slice_get-get_or (cs ++ c ∷ []) (length cs) c (omega (arith, length-append cs (c ∷ []))) ∙ ap Some (get_or-append_seam cs c [] c))

-- the founders are the members before slot 1
pub incs_of_founders : (is : List Inc) → incs (map (λ i. record { inc = i; last = 0 }) is) ≡ is
incs_of_founders [] = refl
incs_of_founders (i ∷ is) = ap (λ js. i ∷ js) (incs_of_founders is)

pub latest_of_same : (n : ℕ) (c : List Inc) → 0 < n → slice_get (replicate n c) (length (replicate n c) - 1) ≡ Some c
latest_of_same n c l =
    let e : length (replicate n c) ≡ n = length-replicate n c in
    slice_get-get_or (replicate n c) (length (replicate n c) - 1) c (omega arith) ∙ ap Some (get_or-replicate n (length (replicate n c) - 1) c c (omega arith))
