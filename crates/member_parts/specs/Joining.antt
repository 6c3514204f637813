-- What a joiner takes up.
use Rattle.std.specs.Prelude.{◌≡◌, ℕ, true, false, Some, None, List}
use Rattle.paxos_forms.specs.declared.recovery.Given.{Given}
use Rattle.txn_forms.specs.declared.body.Body.TheVariants.{Txn as Writes}
use Rattle.txn_forms.specs.Bodies.{body_bytes, read_body}
use Rattle.node_rules.specs.Lists.{In}
use Rattle.group_rules.specs.Events.{Cert, Life}
use Rattle.group_rules.specs.Life.{entry_at, is_error, state}
use Rattle.group_rules.specs.Queue.{is_done}
use Rattle.apply_queue.specs.Works.{spells_txn}

-- its bytes spell a transaction
abbrev pub IsSpeltGiven : Given → Type 0
IsSpeltGiven g = spells_txn g.body ≡ true

-- each is read from its bytes
abbrev pub AreRead : List Cert → Type 0
AreRead cs = (c : Cert) → In c cs → read_body (body_bytes (Writes c.txn)) ≡ Some (Writes c.txn)

-- a joiner before its Give: it isn't in ERROR, has taken no entry, and no place is done
pub record IsBare (l : Life) : Type 0 where
  pub well : is_error (state l) ≡ false
  pub untaken : (p : ℕ) → entry_at l p ≡ None
  pub undone : (p : ℕ) → is_done l p ≡ false
