-- The rows Learn, Accepted and Alive: how decided values spread.
-- (Lamport, "Paxos Made Simple", section 2.3: a distinguished learner, here the leader, tells the others. The catching up by Alive is the project's own.)
use Rattle.std.specs.Prelude.{ℕ, ◌+◌, ◌&&◌, Option, Some, None, List, filter, map, max, nat_lt, nat_le, if◌then◌else◌}
use Rattle.node_rules.specs.Names.{Inc, Ballot, Value, Message, Learn}
use Rattle.gr_ids.specs.Names.{inc_eq, ballot_eq, has_inc}
use Rattle.node_rules.specs.Lists.{union}
use Rattle.node_rules.specs.Learner.{is_decided, learn}
use Rattle.node_rules.specs.Known.{members_by, config_here}
use Rattle.node_rules.specs.Leader.{Leader, Proposal, proposal_at, accepted_by, count_accepted, has_majority}
use Rattle.node_rules.specs.Node.{Node, Told, Effect, quiet, sends, message, to_others, leads}
use Rattle.node_rules.specs.Voting.{gone_to}

abbrev pub learns : Node → ℕ → Value → Node
learns n t v = record n { learner = learn n.learner t v }

unfoldable pub hear_learn : ℕ → Value → Node → Effect
hear_learn t v n = quiet (learns n t v)

-- ---- Accepted

-- decided by a majority: Learn to the others in the slot's configuration and the other members
abbrev pub settles : Node → ℕ → Value → Effect
settles n t v = sends (learns n t v) (to_others n (union (config_here n.turns t) (members_by n.turns)) (Learn t v))

abbrev pub counts : Inc → Node → Leader → Option Proposal → Effect
counts i n l None = quiet n
counts i n l (Some p) =
    if is_decided n.learner p.slot then quiet n
    else (let q : Proposal = accepted_by p i in
    let m : Node = leads n (count_accepted l q) in
    if has_majority n.turns q then settles m p.slot p.value else quiet m)

abbrev pub lead_accepted : Inc → Ballot → ℕ → Node → Option Leader → Effect
lead_accepted i b t n None = quiet n
lead_accepted i b t n (Some l) = if ballot_eq l.ballot b then counts i n l (proposal_at l t) else quiet n

-- the sender voted in slot t at the ballot, at which this node leads and proposed the slot
unfoldable pub hear_accepted : Inc → Ballot → ℕ → Node → Effect
hear_accepted i b t n = lead_accepted i b t n n.leader

-- ---- Alive

-- the told slot of a member rises
abbrev pub tells : List Told → Inc → ℕ → List Told
tells ts i k = map {A = Told} (λ x. if inc_eq x.inc i then record x { slot = max x.slot k } else x) ts

-- Learn of the slots from k on, at most ten, that are below `next` and whose values are kept
abbrev pub learns_from : Node → Inc → ℕ → List Message
learns_from n i k = map (λ e. message n i (Learn e.slot e.value)) (filter (λ e. nat_le k e.slot && (nat_lt e.slot (k + 10) && nat_lt e.slot n.learner.next)) n.learner.decided)

-- the sender has decided all slots below k
unfoldable pub hear_alive : Inc → ℕ → Node → Effect
hear_alive i k n = if has_inc (members_by n.turns) i then sends (record n { told = tells n.told i k }) (learns_from n i k) else sends n (gone_to n i)
