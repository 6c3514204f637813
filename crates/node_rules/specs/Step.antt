-- A whole step of a node: the row of its event, and then the forgetting.
use Rattle.node_rules.specs.Names.{Inc, Wire, Prepare, Promise, Accept, Accepted, Learn, Offer, Greet, Ask, Give, Alive, Gone, PaxosEvent, Heard, Own, Campaign, Tick, Propose}
use Rattle.node_rules.specs.Node.{Node, Effect, quiet, also}
use Rattle.node_rules.specs.Voting.{hear_prepare, hear_accept}
use Rattle.node_rules.specs.Learning.{hear_learn, hear_accepted, hear_alive}
use Rattle.node_rules.specs.Proposing.{hear_promise, hear_offer, own_value, propose_all, campaign}
use Rattle.node_rules.specs.Welcoming.{hear_welcome}
use Rattle.node_rules.specs.Ticks.{tick}
use Rattle.node_rules.specs.Taking.{forgets}

-- Ask, Give and Gone are the member's alone
unfoldable pub hear : Inc → Wire → Node → Effect
hear i (Prepare b s) n = hear_prepare i b s n
hear i (Promise b s xs) n = hear_promise i b xs n
hear i (Accept b t v) n = hear_accept i b t v n
hear i (Accepted b t) n = hear_accepted i b t n
hear i (Learn t v) n = hear_learn t v n
hear i (Offer v) n = hear_offer v n
hear i (Greet x) n = hear_welcome x n
hear i (Ask x) n = quiet n
hear i (Give x) n = quiet n
hear i (Alive k) n = hear_alive i k n
hear i Gone n = quiet n

abbrev pub row : PaxosEvent → Node → Effect
row (Heard m) n = hear m.from m.wire n
row (Own v) n = own_value v n
row Campaign n = campaign n
row Tick n = tick n
row Propose n = propose_all n

unfoldable pub node_step : PaxosEvent → Node → Effect
node_step e n = also (row e n) forgets
