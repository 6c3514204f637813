-- What a donor gave, read.
use Rattle.std.specs.Prelude.{ℕ, Option, Some, None, List, length, ◌==◌, ◌*◌, Bool, if◌then◌else◌, nat_le}
use Rattle.std.specs.List.{list_all}
use Rattle.gr_ids.specs.declared.names.LastNumber.{LastNumber}
use Rattle.paxos_forms.specs.declared.recovery.Give.{Give}
use Rattle.paxos_forms.specs.declared.recovery.Given.{Given}
use Rattle.txn_forms.specs.declared.body.Txn.{Txn}
use Rattle.txn_forms.specs.declared.body.Body.{Body}
use Rattle.txn_forms.specs.declared.body.Body.TheVariants.{Txn as Writes}
use Rattle.txn_forms.specs.Bodies.{read_body}
use Rattle.group_rules.specs.Events.{Cert}
use Rattle.group_rules.specs.Recovery.{cert_given, certs_given}
use Rattle.member_joining.specs.declared.given_txn.GivenTxn.{GivenTxn}

-- the transaction that a body is, if it is one
abbrev pub txn_of : Option Body → Option Txn
txn_of (Some (Writes t)) = Some t
txn_of b = None

-- the transaction that these bytes spell, if they spell one
abbrev pub txn_in : List ℕ → Option Txn
txn_in bytes = txn_of (read_body bytes)

abbrev pub cert_of_given : GivenTxn → Cert
cert_of_given t = cert_given t.given t.txn

-- the certified transactions, where each body spells one
abbrev pub certs_read : List Given → Option (List Cert)
certs_read gs = if length (certs_given gs) == length gs then Some (certs_given gs) else None

-- no last number is above those of the blocks taken
abbrev pub are_of_blocks : ℕ → Give → Bool
are_of_blocks block g = list_all {X = LastNumber} (λ x. nat_le x.number (g.blocks * block)) g.last
