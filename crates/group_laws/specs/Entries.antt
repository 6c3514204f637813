-- What a place of the ordered list holds, as far as the laws rest on it: a view of the entries that a member takes, newest first.
use Rattle.std.specs.Prelude.{ℕ, suc, List, [], ◌∷◌, Option, Some, None, length}
use Rattle.group_laws.specs.Names.{Inc, Gtid, Gtids, Joiner, Txn, ModeChange}
use Rattle.group_rules.specs.Events.{Setup}

-- what a value does at its place
pub data Body : Type 0 where
  Write : (txn : Txn) → Body
  Executed : (set : Gtids) → Body
  Online : (set : Gtids) → Body
  -- an Add and a Remove with effect
  Joins : (joiner : Joiner) → Body
  Leaves : (member : Inc) → Body
  Prepared : (gtid : Gtid) → Body
  Switches : (mode : ModeChange) → Body
  Appoints : (primary : Inc) → Body
  -- all that does nothing here: a Sync, an Add or Remove without effect, a part before the last, bytes that spell no body
  Plain : Body

pub record Value : Type 0 where
  pub origin : Inc
  pub number : ℕ
  pub body : Body

pub data Outcome : Type 0 where
  Positive : (number : ℕ) → Outcome
  Conflict : (gtid : Gtid) → Outcome
  NoTxn : Outcome

-- a value with the outcome that it was given at its place
pub record Placed : Type 0 where
  pub value : Value
  pub outcome : Outcome

-- what it is known to do where it is made, and stands at no place yet: an Add or a Remove nothing
abbrev pub unplaced : Body → Body
unplaced (Joins j) = Plain
unplaced (Leaves i) = Plain
unplaced b = b

abbrev pub as_made : Value → Value
as_made v = record v { body = unplaced v.body }

abbrev pub value_of : Placed → Value
value_of e = e.value

abbrev pub values : List Placed → List Value
values [] = []
values (e ∷ m) = e.value ∷ values m

-- a certified transaction
pub record Cert : Type 0 where
  pub place : ℕ
  pub origin : Inc
  pub id : ℕ
  pub gtid : Gtid
  pub txn : Txn

abbrev pub cert_parts : Setup → ℕ → Inc → ℕ → Body → Outcome → Option Cert
cert_parts r place origin id (Write t) (Positive n) =
    Some (record { place = place; origin = origin; id = id; gtid = record { source = r.limits.group; number = n }; txn = t })
cert_parts r place origin id _ _ = None

abbrev pub cert_of : Setup → ℕ → Placed → Option Cert
cert_of r place e = cert_parts r place e.value.origin e.value.number e.value.body e.outcome

abbrev pub cons_some : {A : Type 0} → Option A → List A → List A
cons_some None xs = xs
cons_some (Some x) xs = x ∷ xs

-- the certified transactions, newest first
abbrev pub certified : Setup → List Placed → List Cert
certified r [] = []
certified r (e ∷ m) = cons_some (cert_of r (suc (length m)) e) (certified r m)
