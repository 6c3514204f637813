-- A place that is done.
use Rattle.std.proofs.Common.{◌≡◌, ℕ, Bool, true, false, not, Some, None, List, [], ◌∷◌, filter, reverse, refl, sym, ap, ◌∙◌, inl}
use Rattle.std.specs.Prelude.{nat_lt, OnErr, OnOk, Result, Ok, Err}
use Rattle.std.proofs.lemmas.Bool.{and_from, lt-ltb}
use Rattle.gr_ids.specs.declared.names.Inc.{Inc}
use Rattle.gtid_sets.specs.Sets.{has}
use Rattle.group_rules.specs.Events.{Cert, Life}
use Rattle.group_rules.specs.Life.{certs, executed, is_error, state}
use Rattle.group_rules.specs.Queue.{at_place, is_own, pending, queue}
use Rattle.apply_queue.specs.Following.{IsRising}
use Rattle.local_sessions.specs.Following.{rise}

-- each is above the one before it
pub rises : (cs : List Cert) → IsRising cs → rise cs ≡ true
rises [] h = refl
rises (c ∷ []) h = refl
rises (c ∷ d ∷ ds) h = and_from (nat_lt c.place d.place) (rise (d ∷ ds)) (lt-ltb c.place d.place (h.0 d (inl refl))) (rises (d ∷ ds) h.1)

-- where nothing is certified nothing is queued
none_pending : (l : Life) → certs l ≡ [] → pending l ≡ []
none_pending l n = ap (λ cs. filter (λ (c : Cert). not (has (executed l) c.gtid)) (reverse cs)) n

none_queued : (l : Life) (me : Inc) → certs l ≡ [] → queue l me ≡ []
none_queued l me n = go (is_error (state l)) refl
  where
    go : (b : Bool) → is_error (state l) ≡ b → queue l me ≡ []
    go true e = rw (e, queue) refl
    go false e = rw (e, queue) (ap (λ cs. filter (λ (c : Cert). not (is_own me c)) cs) (none_pending l n))

pub something_certified : (l : Life) (me : Inc) (p : ℕ) (c : Cert) → at_place (queue l me) p ≡ Some c → certs l ≡ [] → ⊥
something_certified l me p c h n =
    let none : None ≡ Some c = ap (λ cs. at_place cs p) (sym (none_queued l me n)) ∙ h in
    cc

pub ok_since : {T E P Q : Type 0} → (r : Result T E) → OnErr r (Q → ⊥) → Q → OnOk r P → P
ok_since (Ok x) n q p = p
ok_since (Err e) n q p = absurd (n q)
