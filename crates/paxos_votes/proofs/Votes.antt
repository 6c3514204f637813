-- The votes of an acceptor: a map by slot, seen as a list kept by slot.
use Rattle.std.proofs.Common.{◌≡◌, ℕ, List, refl}
use Rattle.std.specs.Prelude.{map}
use Rattle.std.specs.Ordering.{nat_cmp}
use Rattle.std.specs.BTreeMap.{insert_entry}
use Rattle.node_rules.specs.Slots.{put_slot, from_slot}
use Rattle.paxos_votes.specs.Entries.{entries_from}
use Rattle.paxos_votes.specs.Votes.{vote_of}
use Rattle.paxos_votes.specs.declared.acceptor.Voted.{Voted}
use Rattle.paxos_votes.proofs.SlotMaps.{put_is, from_is}

pub votes_put : (es : List (ℕ × Voted)) (k : ℕ) (x : Voted) → map vote_of (insert_entry nat_cmp es k x) ≡ put_slot (λ y. y.slot) (map vote_of es) (vote_of (k, x))
votes_put es k x = put_is vote_of (λ y. y.slot) (λ e. refl) es k x

pub votes_from_is : (es : List (ℕ × Voted)) (s : ℕ) → from_slot (λ y. y.slot) (map vote_of es) s ≡ map vote_of (entries_from s es)
votes_from_is es s = from_is vote_of (λ y. y.slot) (λ e. refl) es s
