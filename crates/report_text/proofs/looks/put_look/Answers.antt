use Rattle.std.proofs.Common.{◌≡◌, ◌++◌, List, OnOk, subst}
use Rattle.group_rules.specs.declared.said.WireLine.{WireLine}
use Rattle.group_rules.specs.declared.said.Look.TheVariants.{Wire}
use Rattle.group_rules.specs.Texts.{look_texts}
use Rattle.report_text.specs.Lines.{output_lines}
use Rattle.report_text.proofs.looks.put_look.Goals as goal

pub returns-in-Slots : goal.returns-in-Slots
returns-in-Slots c = rw c.in-Slots.is c.put_slots_line.ensures

pub returns-in-Wire : goal.returns-in-Wire
returns-in-Wire c =
    let said = λ (messages : List WireLine). OnOk c.put_messages.result
    (c.put_messages.new.to ≡ c.args.to.now ++ output_lines c.args.number (look_texts (Wire messages c.in-Wire.sent))) in
    rw c.in-Wire.is (subst said c.as_slice-in-Wire.ensures c.put_messages.ensures)
