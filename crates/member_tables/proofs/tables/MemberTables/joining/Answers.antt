-- Nobody has begun.
use Rattle.std.proofs.Common.{refl, None}
use Rattle.gr_ids.specs.declared.levels.MemberState.TheVariants.{Offline}
use Rattle.gr_ids.specs.declared.levels.Mode.TheVariants.{Multi}
use Rattle.member_tables.proofs.Listed.{starts}
use Rattle.member_tables.proofs.tables.MemberTables.joining.Goals as goal

pub returns : goal.returns
returns c = λ s j y i e x k r g.
    starts s j y i (record { tables = record { me = c.args.me; store = c.args.store; locks = c.new.result; executed = c.args.executed; state = Offline; mode = Multi; primary = None }; sessions = c.new-2.result })
    c.new-2.ensures c.new.ensures refl refl refl e x k r g
