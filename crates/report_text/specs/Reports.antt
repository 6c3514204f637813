-- The report: a JSON object, whose keys ascend.
use Rattle.std.specs.Prelude.{ℕ, codes, map}
use Rattle.serde_json.specs.Data.{Data, number, unsigned, string, array, object, member, no_members}
use Rattle.serde_json.specs.View.{items_of}
use Rattle.serde_json.specs.Written.{compact_text}
use Rattle.gtid_sets.specs.Text.{set_text}
use Rattle.group_rules.specs.Texts.{Text, inc_text, state_text}
use Rattle.report_text.specs.declared.world_report.MemberReport.{MemberReport}
use Rattle.report_text.specs.declared.world_report.WorldReport.{WorldReport}

abbrev pub count : ℕ → Data
count n = number (unsigned n)

abbrev pub named_data : Text → Text → ℕ → ℕ → Text → ℕ → Data
named_data executed inc place rows state view = object (
    member (codes "executed") (string executed)
    (member (codes "inc") (string inc)
    (member (codes "place") (count place)
    (member (codes "rows") (count rows)
    (member (codes "state") (string state)
    (member (codes "view") (count view) no_members))))))

-- a running incarnation; the text of the empty set is empty
abbrev pub member_data : MemberReport → Data
member_data m = named_data (set_text m.executed) (inc_text m.inc) m.place m.rows (state_text m.state) m.view

abbrev pub report_data : WorldReport → Data
report_data w = object (
    member (codes "lines") (count w.lines)
    (member (codes "members") (array (items_of (map member_data w.members)))
    (member (codes "messages") (count w.messages) no_members)))

abbrev pub report_json : WorldReport → Text
report_json w = compact_text (report_data w)
