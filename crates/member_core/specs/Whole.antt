-- What a member keeps, sealed: whoever holds a member sees none of it.
use Rattle.std.specs.Prelude.{Bool, refl}
use Rattle.std.specs.Coded.{Coded, code_by, coded_bool, coded×}
use Rattle.member_moment.specs.declared.moment.Moment.{Moment}
use Rattle.member_moment.specs.contracts.moment.Moment.{the_row as moment_row}
use Rattle.member_core.specs.declared.ledger.Ledger.{Ledger}
use Rattle.member_core.specs.contracts.ledger.Ledger.{the_row as ledger_row}

pub record Contents : Type 0 where
  pub moment : Moment
  pub ledger : Ledger
  pub is_stopped : Bool

unfoldable pub Whole : Type 0
Whole = Contents

unfoldable pub closed : Contents → Whole
unfolding Whole
closed x = x

unfoldable pub contents : Whole → Contents
unfolding Whole
contents x = x

-- a step of it was refused memory
unfoldable pub is_stopped : Whole → Bool
unfolding Whole
is_stopped x = x.is_stopped

-- two members are the same where their contents are
unfoldable pub code : Coded Whole
unfolding Whole
code =
    code_by (Moment × (Ledger × Bool)) (coded× moment_row.coded (coded× ledger_row.coded coded_bool)) (λ x. (x.moment, (x.ledger, x.is_stopped)))
    (λ p. record { moment = p.0; ledger = (p.1).0; is_stopped = (p.1).1 }) (λ _. refl)
