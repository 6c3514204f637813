-- The place stands there, or nowhere.
use Rattle.std.proofs.Common.{◌≡◌, ◌<◌, ◌≤◌, true, not, length, ap, sym, ◌∙◌, arith}
use Rattle.std.specs.Prelude.{◌==◌}
use Rattle.apply_queue.specs.Queues.{Queued, is_at}
use Rattle.apply_queue.proofs.Firsts.{prefix_is, prefix_all}
use Rattle.apply_queue.proofs.scan.index_of.Goals as goal

pub returns-then-eq : goal.returns-then-eq
returns-then-eq c =
    let within : c.loop-at.at < length c.args.entries.now.items = omega (arith, c.loop-at-test.true, c.len-at-end.ensures, c.args.entries.now.ok.0) in
    let here : is_at c.args.place c.index.result.now ≡ true = ap (λ p. p == c.args.place) (sym c.place.ensures) ∙ (sym c.eq.ensures ∙ c.if-eq.true) in
    sym (prefix_is (λ (q : Queued). not (is_at c.args.place q)) c.args.entries.now.items c.loop-at.at c.index.result.now c.loop-at.invariant within c.index.ensures (ap not here))

pub returns : goal.returns
returns c =
    let all : c.len.result ≡ length c.args.entries.now.items = omega (arith, c.len.ensures, c.args.entries.now.ok.0) in
    let behind : length c.args.entries.now.items ≤ c.loop-at.at = omega (arith, c.loop-at-test.false, c.len-at-end.ensures, c.args.entries.now.ok.0) in
    all ∙ prefix_all (λ (q : Queued). not (is_at c.args.place q)) c.args.entries.now.items c.loop-at.at c.loop-at.invariant behind
