-- The rows Prepare and Accept: a node promises and votes.
-- (Lamport, "Paxos Made Simple", section 2.2, phases 1 and 2 at the acceptor.)
use Rattle.std.specs.Prelude.{ℕ, Option, Some, None, List, [], ◌∷◌, ◌&&◌, not, nat_lt, if◌then◌else◌}
use Rattle.node_rules.specs.Names.{Inc, Ballot, Value, Vote, Message, Promise, Accepted, Gone}
use Rattle.gr_ids.specs.Names.{ballot_lt, has_inc}
use Rattle.node_rules.specs.Acceptor.{promising, voting, votes_from}
use Rattle.node_rules.specs.Known.{members_by, ever_by}
use Rattle.node_rules.specs.Leader.{Leader}
use Rattle.node_rules.specs.Node.{Node, Effect, quiet, sends, message}

-- a node that meets a ballot above its own leading ballot stops leading, and its offers and proposals are gone
abbrev pub still_leads : Ballot → Option Leader → Option Leader
still_leads b None = None
still_leads b (Some l) = if ballot_lt l.ballot b then None else Some l

abbrev pub promises : Node → Ballot → Node
promises n b = record n { acceptor = promising n.acceptor b; leader = still_leads b n.leader }

abbrev pub votes : Node → Vote → Node
votes n x = record n { acceptor = voting n.acceptor x }

-- Gone to a sender that was a member and isn't, by the entries taken
abbrev pub gone_to : Node → Inc → List Message
gone_to n i = if has_inc (ever_by n.turns) i && not (has_inc (members_by n.turns) i) then message n i Gone ∷ [] else []

-- Prepare of the ballot from slot s on: a promise, with the own votes in these slots
unfoldable pub hear_prepare : Inc → Ballot → ℕ → Node → Effect
hear_prepare i b s n =
    if nat_lt s n.acceptor.low then sends n (gone_to n i)
    else (if ballot_lt b n.acceptor.promise then quiet n
    else sends (promises n b) (message n i (Promise b s (votes_from n.acceptor s)) ∷ []))

-- Accept of the value in slot t at the ballot: a promise, and a vote
unfoldable pub hear_accept : Inc → Ballot → ℕ → Value → Node → Effect
hear_accept i b t v n =
    if nat_lt t n.acceptor.low then sends n (gone_to n i)
    else (if ballot_lt b n.acceptor.promise then quiet n
    else record {
      node = votes (promises n b) (record { slot = t; ballot = b; value = v });
      sent = message n i (Accepted b t) ∷ [];
      cast = record { slot = t; ballot = b; value = v } ∷ [];
      took = [];
    })
