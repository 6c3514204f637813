-- One more is written; where memory is refused, all have again what they had.
use Rattle.std.proofs.Common.{◌≡◌, true, false, take, sym, ap, subst, ◌∙◌}
use Rattle.std.specs.Prelude.{if◌then◌else◌}
use Rattle.std.specs.Result.{is_err}
use Rattle.std.specs.BTreeMap.{get}
use Rattle.key_items.specs.Items.{has_item}
use Rattle.certifier.specs.Inside.{AreThere, item_cmp}
use Rattle.certifier.proofs.PuttingBack.{Entries, writer_at}
use Rattle.certifier.proofs.Results.{on_ok, on_err}
use Rattle.certifier.proofs.WritingItems.{writing_begun, writing_next, there_so_far, back_again, taken_map}
use Rattle.certifier.proofs.writing.write_items.Goals as goal

pub loop-at-init : goal.loop-at-init
loop-at-init c = writing_begun c.args.writer.now c.args.written.now c.args.items.now.entries c.requires

pub loop-at-preserved : goal.loop-at-preserved
loop-at-preserved c =
    let no : is_err c.write_item.result ≡ false = sym c.is_err.ensures.value ∙ c.if-is_err.false in
    writing_next c.args.writer.now c.args.written.now c.args.items.now.entries c.loop-at.at c.loop-at.items.entries c.write_item.new.items.entries c.index-written-at.result c.loop-at-test.true c.index-written-at.is
    (on_ok c.write_item.result no c.write_item.ensures.ok) (on_ok c.write_item.result no c.write_item.ensures.there) c.write_item.ensures.ordered c.loop-at.invariant

pub returns-then-is_err-clause-err : goal.returns-then-is_err-clause-err
returns-then-is_err-clause-err c =
    let yes : is_err c.write_item.result ≡ true = sym c.is_err.ensures.value ∙ c.if-is_err.true in
    let same = on_err c.write_item.result yes c.write_item.ensures.err in
    let front = take c.loop-at.at c.args.written.now in
    let there = subst (λ (es : Entries). AreThere es front) (sym same) (there_so_far c.args.writer.now c.args.written.now c.args.items.now.entries c.loop-at.at c.loop-at.items.entries c.loop-at.invariant) in
    let before = ap (take c.loop-at.at) (c.deref.ensures.value ∙ c.in_ok-before.ensures) ∙ taken_map (get item_cmp c.args.items.now) c.loop-at.at c.args.written.now in
    back_again c.args.writer.now c.args.written.now c.loop-at.at c.args.items.now c.loop-at.items c.put_all_back.new.items c.loop-at.invariant
    (λ q. c.put_all_back.ensures.back (get item_cmp c.args.items.now) before there q ∙ ap (λ (es : Entries). if has_item front q then get item_cmp c.args.items.now q else writer_at es q) same)
    c.requires (c.put_all_back.ensures.ordered c.write_item.ensures.ordered)
