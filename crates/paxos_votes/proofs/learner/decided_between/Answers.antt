-- The iterator goes over the entries of these slots.
use Rattle.std.proofs.Common.{◌≡◌, ap, ◌∙◌, rules}
use Rattle.std.specs.Prelude.{map}
use Rattle.std.specs.Ordering.{nat_cmp}
use Rattle.std.specs.Map.Iter.{deref_pair}
use Rattle.std.specs.BTreeMap.Range.{entries_between}
use Rattle.std.specs.declared.ops.Bound.TheVariants.{Included, Excluded}
use Rattle.std.proofs.lemmas.Map.Iter.{rest_more}
use Rattle.slot_values.specs.declared.value.Value.{Value}
use Rattle.paxos_votes.specs.declared.learner.KnownSlot.{KnownSlot}
use Rattle.paxos_votes.specs.Entries.{entry_of, entry_in}
use Rattle.paxos_votes.proofs.SlotMaps.{within_is}
use Rattle.paxos_votes.proofs.Decided.{shifts}
use Rattle.paxos_votes.proofs.learner.decided_between.Goals as goal

pub loop-slot-init : goal.loop-slot-init
loop-slot-init c =
    let all : c.into_iter-slot-iterator.result ≡ entries_between nat_cmp (Included c.args.from) (Excluded c.args.end) c.args.decided.now.entries = search rules in
    rw c.new-known.ensures.items (ap (map entry_of) (all ∙ within_is c.args.decided.now.entries c.args.from c.args.end))

pub loop-slot-preserved : goal.loop-slot-preserved
loop-slot-preserved c =
    let k : KnownSlot = record { slot = c.in-Some.slot.now; value = c.in_ok-try_copy.field-0 } in
    let same : entry_in k ≡ entry_of (c.in-Some.slot.now, c.in-Some.value.now) = ap (λ (v : Value). entry_of (c.in-Some.slot.now, v)) c.in_ok-try_copy.ensures in
    let first = rest_more deref_pair c.loop-slot.slot-iterator c.next.new.self c.next.result (c.in-Some.slot, c.in-Some.value) c.in-Some.is c.next.ensures.steps in
    rw c.in_ok-push.ensures.items (shifts c.loop-slot.known.items k (c.in-Some.slot.now, c.in-Some.value.now) c.loop-slot.slot-iterator c.next.new.self first same ∙ c.loop-slot.invariant)
