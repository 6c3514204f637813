-- What an own value is to hold, as a member notes it.
use Rattle.std.specs.Prelude.{◌≡◌, Bool, Option}
use Rattle.gr_ids.specs.declared.names.Gtid.{Gtid}
use Rattle.txn_forms.specs.declared.body.Body.{Body}
use Rattle.group_rules.specs.Life.{is_arrival}
use Rattle.member_parts.specs.Committing.{HasNumber, prepared_in}

-- a Prepared entry of this GTID, or none; and whether it is an Online entry
pub record IsHeldAs (prepared : Option Gtid) (arrives : Bool) (holds : Option Body) : Type 0 where
  pub acknowledges : prepared ≡ prepared_in holds
  pub number : HasNumber prepared
  pub comes : arrives ≡ is_arrival holds
