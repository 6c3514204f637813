-- The parts hold it; then its Sync is sent.
use Rattle.std.proofs.Common.{sym, ◌∙◌}
use Rattle.member_tables.proofs.Results.{on_ok}
use Rattle.member_moment.proofs.Opened.{opens_synced, opens_unsynced}
use Rattle.member_moment.proofs.moment.Moment.hold.Goals as goal

pub returns-then-syncs-clause-rest : goal.returns-then-syncs-clause-rest
returns-then-syncs-clause-rest c =
    on_ok c.sync.result
    (opens_synced c.args.self.now c.sync.new.self c.hold.new.self c.args.session c.args.level c.args.limit c.args.state c.made-last.result c.online-online.result c.in_ok-conditions.conditions
    c.in_ok-conditions.ensures c.in_ok-hold.ensures c.made-last.ensures c.online-online.ensures (sym c.is_some-syncs.ensures ∙ c.if-syncs.true))
    c.sync.ensures.rest

pub returns-clause-rest : goal.returns-clause-rest
returns-clause-rest c =
    opens_unsynced c.args.self.now c.hold.new.self c.args.session c.args.level c.args.limit c.args.state c.made-last.result c.online-online.result c.in_ok-conditions.conditions
    c.in_ok-conditions.ensures c.in_ok-hold.ensures c.made-last.ensures c.online-online.ensures (sym c.is_some-syncs.ensures ∙ c.if-syncs.false)
