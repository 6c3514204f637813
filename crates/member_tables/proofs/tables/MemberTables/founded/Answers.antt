-- Nothing was executed, and nobody has begun.
use Rattle.std.proofs.Common.{refl}
use Rattle.gr_ids.specs.declared.levels.MemberState.TheVariants.{Online}
use Rattle.member_tables.proofs.Listed.{founds}
use Rattle.member_tables.proofs.tables.MemberTables.founded.Goals as goal

pub returns : goal.returns
returns c = λ s j i m o.
    founds s j (record { tables = record { me = c.args.me; store = c.new.result; locks = c.new-2.result; executed = c.new-3.result; state = Online; mode = c.args.mode; primary = c.args.primary }; sessions = c.new-4.result })
    c.new.ensures c.new-2.ensures c.new-3.ensures refl c.new-4.ensures i m o
