-- What a report tells of the play of a script.
use Rattle.std.specs.Prelude.{ℕ, Option, Some, None, List, [], ◌∷◌, length, map}
use Rattle.group_rules.specs.Life.{state, executed, view, taken}
use Rattle.group_rules.specs.Looks.{all_items, rows_at}
use Rattle.group_rules.specs.Member.{Member}
use Rattle.group_rules.specs.Script.{Play}
use Rattle.group_rules.specs.World.{Server}
use Rattle.report_text.specs.declared.world_report.MemberReport.{MemberReport}
use Rattle.report_text.specs.declared.world_report.WorldReport.{WorldReport}

-- the rows as `show rows` lists them
abbrev pub row_count : Member → ℕ
row_count a = length (rows_at a.life (executed a.life) (all_items a.life))

abbrev pub member_report : Member → MemberReport
member_report a = record {
  inc = a.me.inc;
  state = state a.life;
  view = (view a.setup a.life).number;
  place = taken a.life;
  executed = executed a.life;
  rows = row_count a;
}

abbrev pub with_running : Option Member → List Member → List Member
with_running None others = others
with_running (Some a) others = a ∷ others

-- the incarnations that run, ascending
abbrev pub running : List Server → List Member
running [] = []
running (s ∷ ss) = with_running s.running (running ss)

-- after so many lines
unfoldable pub report_of : ℕ → Play → WorldReport
report_of lines y = record { lines = lines; members = map member_report (running y.world.servers); messages = length y.wire }
