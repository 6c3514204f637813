-- The next number of a server's own UUID is free.
use Rattle.std.proofs.Common.{◌≡◌, ◌≤◌, inl, inr, ℕ, suc, Bool, true, false, ◌&&◌, List, [], ◌∷◌, length, refl, ap, ◌∙◌, arith}
use Rattle.std.specs.Prelude.{◌==◌}
use Rattle.std.proofs.lemmas.Bool.{ne_eqb}
use Rattle.gr_ids.specs.Names.{bytes_eq}
use Rattle.node_rules.specs.Lists.{In}
use Rattle.group_rules.specs.Events.{Cert, OfflineWrite, Starts, Stored}
use Rattle.row_store.specs.Following.{IsFree}
use Rattle.row_store.proofs.Known.{in_all}

and_false : (b : Bool) → (b && false) ≡ false
and_false true = refl
and_false false = refl

above : (n k : ℕ) → k ≤ n → (suc n == k) ≡ false
above n k h = ne_eqb (suc n) k (omega (arith, h))

pub free : (y : Stored) (u : List ℕ) → ((w : OfflineWrite) → In w y.writes → w.gtid.number ≤ length y.writes) → ((c : Cert) → In c y.committed → bytes_eq u c.gtid.source ≡ false)
    → IsFree (Starts y ∷ []) (record { source = u; number = suc (length y.writes) })
free y u numbers apart = record {
  uncertified = λ c m.
      let e : bytes_eq u c.gtid.source ≡ false = elim (in_all [] y.committed c m) [ inl k ↦ absurd k | inr k ↦ apart c k ] in
      ap (λ b. b && (suc (length y.writes) == c.gtid.number)) e;
  unwritten = λ w m.
      let e : (suc (length y.writes) == w.gtid.number) ≡ false = above (length y.writes) w.gtid.number (numbers w m) in
      ap (λ b. bytes_eq u w.gtid.source && b) e ∙ and_false (bytes_eq u w.gtid.source);
}
