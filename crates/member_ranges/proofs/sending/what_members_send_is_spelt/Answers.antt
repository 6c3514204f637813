use Rattle.member_ranges.proofs.Gives.{give_is}
use Rattle.member_ranges.proofs.Sent.{add_is, all_seated, ask_is, welcome_is}
use Rattle.member_ranges.proofs.Stored.{stored_is}
use Rattle.member_ranges.proofs.sending.what_members_send_is_spelt.Goals as goal

pub returns-clause-seats : goal.returns-clause-seats
returns-clause-seats c = all_seated

pub returns-clause-welcome : goal.returns-clause-welcome
returns-clause-welcome c = λ a w k well h some few. welcome_is a w k well h some few

pub returns-clause-ask : goal.returns-clause-ask
returns-clause-ask c = ask_is

pub returns-clause-give : goal.returns-clause-give
returns-clause-give c = give_is

pub returns-clause-add : goal.returns-clause-add
returns-clause-add c = add_is

pub returns-clause-stored : goal.returns-clause-stored
returns-clause-stored c = stored_is
