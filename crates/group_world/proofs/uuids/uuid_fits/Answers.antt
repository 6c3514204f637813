-- All of them are bytes.
use Rattle.std.proofs.Common.{◌≡◌, ◌<◌, ◌≤◌, ℕ, List, length, get_or, inl, inr, arith}
use Rattle.std.proofs.lemmas.Bool.{cases_lt}
use Rattle.std.proofs.lemmas.List.{get_or_past}
use Rattle.byte_forms.proofs.FieldLemmas.{are_bytes_from}
use Rattle.group_world.proofs.uuids.uuid_fits.Goals as goal

each : (bytes : List ℕ) (n : ℕ) → length bytes ≤ n → ((k : ℕ) → k < n → get_or bytes k 0 < 256) → (k : ℕ) → get_or bytes k 0 < 256
each bytes n long h k = elim (cases_lt k n) [ inl lt ↦ h k lt | inr le ↦ omega (arith, get_or_past bytes k 0 (omega arith)) ]

pub returns : goal.returns
returns c =
    let long : length c.args.id.now ≡ 16 = omega (arith, c.told-id) in
    record { long = long; bytes = are_bytes_from c.args.id.now (each c.args.id.now c.bytes.i (omega (arith, long)) c.bytes.invariant) }
