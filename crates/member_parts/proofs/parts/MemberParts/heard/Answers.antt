-- The watch hears.
use Rattle.std.proofs.Common.{ap, sym, ◌∙◌}
use Rattle.gr_ids.specs.declared.names.Inc.{Inc}
use Rattle.group_rules.specs.Watch.{heard}
use Rattle.failure_events.specs.Watching.{Watching}
use Rattle.member_parts.proofs.Begun.{stands_message}
use Rattle.member_parts.proofs.parts.MemberParts.heard.Goals as goal

pub returns : goal.returns
returns c = λ s me l m e f.
    (let w : Watching = c.args.self.now.watch in
    let by : Inc → Watching = λ i. record w { watch = heard w.watch i } in
    stands_message s me l m c.args.self.now c.heard.new.self f (c.heard.ensures ∙ ap by (sym e)))
