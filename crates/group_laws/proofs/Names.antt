-- The tests of names say what they seem to say.
use Rattle.std.proofs.Common.{◌≡◌, ℕ, List, true, eqb, eqb-true, eq-eqb, refl}
use Rattle.std.proofs.lemmas.Bool.{and_parts, and_from}
use Rattle.std.proofs.lemmas.Slice.Eq.{bytes_eq-Decides}
pub use Rattle.key_items.proofs.Order.{item_eq_same, item_eq_itself}
use Rattle.group_laws.specs.Names.{Gtid, bytes_eq, gtid_eq}

pub eqb-self : (a : ℕ) → eqb a a ≡ true
eqb-self a = eq-eqb a a refl

pub bytes_eq_same : (as' bs : List ℕ) → bytes_eq as' bs ≡ true → as' ≡ bs
bytes_eq_same as' bs h = (bytes_eq-Decides as' bs).0 h

pub bytes_eq_itself : (as' : List ℕ) → bytes_eq as' as' ≡ true
bytes_eq_itself as' = (bytes_eq-Decides as' as').1 refl

pub gtid_eq_same : (a b : Gtid) → gtid_eq a b ≡ true → a ≡ b
gtid_eq_same a b h =
    let k = and_parts (bytes_eq a.source b.source) (eqb a.number b.number) h in
    λ i. record { source = bytes_eq_same a.source b.source k.0 i; number = eqb-true a.number b.number k.1 i }

pub gtid_eq_itself : (a : Gtid) → gtid_eq a a ≡ true
gtid_eq_itself a = and_from (bytes_eq a.source a.source) (eqb a.number a.number) (bytes_eq_itself a.source) (eqb-self a.number)
