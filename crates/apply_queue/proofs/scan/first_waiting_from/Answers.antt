-- The first one that waits, or none does.
use Rattle.std.proofs.Common.{◌≡◌, ◌<◌, ◌≤◌, not, length, ap, sym, ◌∙◌, arith}
use Rattle.apply_queue.specs.Queues.{Queued, is_waiting}
use Rattle.apply_queue.proofs.Firsts.{prefix_is, prefix_all}
use Rattle.apply_queue.proofs.scan.first_waiting_from.Goals as goal

pub returns-then-is_waiting : goal.returns-then-is_waiting
returns-then-is_waiting c =
    let within : c.loop-at.at < length c.args.entries.now.items = omega (arith, c.loop-at-test.true, c.len-at-end.ensures, c.args.entries.now.ok.0) in
    sym (prefix_is (λ (q : Queued). not (is_waiting q)) c.args.entries.now.items c.loop-at.at c.index.result.now c.loop-at.invariant within c.index.ensures (ap not (sym c.is_waiting.ensures ∙ c.if-is_waiting.true)))

pub returns : goal.returns
returns c =
    let all : c.len.result ≡ length c.args.entries.now.items = omega (arith, c.len.ensures, c.args.entries.now.ok.0) in
    let behind : length c.args.entries.now.items ≤ c.loop-at.at = omega (arith, c.loop-at-test.false, c.len-at-end.ensures, c.args.entries.now.ok.0) in
    all ∙ prefix_all (λ (q : Queued). not (is_waiting q)) c.args.entries.now.items c.loop-at.at c.loop-at.invariant behind
