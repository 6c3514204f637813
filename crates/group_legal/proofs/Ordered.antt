-- What the one log of a run says of each thing done is the first law of a legal run.
use Rattle.gr_ids.specs.declared.names.Inc.{Inc}
use Rattle.slot_values.specs.declared.value.Value.{Value}
use Rattle.std.proofs.Common.{ℕ}
use Rattle.group_rules.specs.Events.{Did, Took, Skips, Enters, Setup, Entry}
use Rattle.group_rules.specs.Legal.{DidAt, OneOrderedList}
use Rattle.group_rules.specs.World.{Past, world_after}
use Rattle.group_order.specs.OneLog.{TakenAs, SkippedAs, Follows, OneLogOf, EveryRunHasOne}
use Rattle.group_order.proofs.Nexts.{done_at}
use Rattle.group_legal.specs.Order.{EveryRunIsOrdered}

pub ordered : (t : Setup) (w : Past) (one : OneLogOf t w) → OneOrderedList t one.parts.log w
ordered t w one = record {
  took = λ i e p h. ((taken i e p h).value, (taken i e p h).listed);
  skipped = λ i s v p h. ((skips i s v p h).value, (skips i s v p h).skipped);
  no_other = one.no_other;
  took_next = λ i e p h. (taken i e p h).next;
  skipped_next = λ i s v p h. (skips i s v p h).next;
  joined = λ i x p h. let y = at_point i (Enters x) p h in (y.joiner, y.value, y.there, y.adds, y.inc);
  took_made = λ i e p h. (taken i e p h).made;
  skipped_made = λ i s v p h. (skips i s v p h).made;
}
  where
    at_point : (i : Inc) (d : Did) (p : Past) → DidAt w i d p → Follows t one.parts.log p i d
    at_point i d p h = done_at (Follows t one.parts.log) w p i d one.parts.follows h

    taken : (i : Inc) (e : Entry) (p : Past) → DidAt w i (Took e) p → TakenAs t one.parts.log p i e
    taken i e p h = at_point i (Took e) p h

    skips : (i : Inc) (s : ℕ) (v : Value) (p : Past) → DidAt w i (Skips s v) p → SkippedAs t one.parts.log p i s v
    skips i s v p h = at_point i (Skips s v) p h

pub every_run_ordered : EveryRunHasOne → EveryRunIsOrdered
every_run_ordered logs ms t e h = (logs ms t e h, ordered t (world_after ms).past (logs ms t e h))
