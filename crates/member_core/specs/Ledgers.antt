-- What a server keeps while an incarnation of it runs.
use Rattle.group_rules.specs.Events.{Stored}
use Rattle.kept_server.specs.Keeping.{KeptFor}
use Rattle.kept_server.specs.Redoing.{LeadTo}
use Rattle.member_core.specs.declared.ledger.Ledger.{Ledger}

-- what was stored before, and the commits since lead to what is stored now
pub record IsLedger (y z : Stored) (x : Ledger) : Type 0 where
  pub before : KeptFor y x.before
  pub since : LeadTo y x.since.items z
