use Rattle.std.proofs.Common.{◌≡◌, ◌+◌, ◌<◌, ◌^◌, length, ◌∙◌, arith}
use Rattle.txn_forms.proofs.OpenPlaces.{remove_set}
use Rattle.txn_forms.proofs.Joins.{follows_within, follows_is, extends, last_becomes, last_ends}
use Rattle.txn_forms.proofs.joining.take_part.Goals as goal

pub index_mut-requires : goal.index_mut-requires
index_mut-requires c =
    let within = follows_within c.args.parts.now.items c.deref.result.now c.deref-2.result.now c.args.origin c.parts_before-at.result c.args.part c.requires.ascend c.deref.ensures.value c.deref-2.ensures.value c.parts_before-at.ensures.place c.if-not-goes_on.ensures in
    omega (arith, within, c.deref.ensures.len)

pub returns-then-part-clause-left : goal.returns-then-part-clause-left
returns-then-part-clause-left c =
    let f = follows_is c.args.parts.now.items c.deref.result.now c.deref-2.result.now c.args.origin c.parts_before-at.result c.args.part c.index_mut.result.now c.requires.ascend c.deref.ensures.value c.deref-2.ensures.value c.parts_before-at.ensures.place c.if-not-goes_on.ensures c.index_mut.ensures.value in
    extends c.args.parts.now.items c.args.origin c.parts_before-at.result c.args.part c.index_mut.result.now c.extend.new.held f c.if-part.true c.in_ok-extend.ensures.ok

pub index_mut-requires-2 : goal.index_mut-requires-2
index_mut-requires-2 c =
    let within = follows_within c.args.parts.now.items c.deref.result.now c.deref-2.result.now c.args.origin c.parts_before-at.result c.args.part c.requires.ascend c.deref.ensures.value c.deref-2.ensures.value c.parts_before-at.ensures.place c.if-not-goes_on.ensures in
    omega (arith, within, c.deref.ensures.len)

pub complete-requires : goal.complete-requires
complete-requires c =
    let f = follows_is c.args.parts.now.items c.deref.result.now c.deref-2.result.now c.args.origin c.parts_before-at.result c.args.part c.index_mut-2.result.now c.requires.ascend c.deref.ensures.value c.deref-2.ensures.value c.parts_before-at.ensures.place c.if-not-goes_on.ensures c.index_mut-2.ensures.value in
    omega (arith, f.fits.bytes, f.fits.held_below, f.fits.count_below, c.requires.part.bytes_below)

pub remove-requires : goal.remove-requires
remove-requires c =
    let within = follows_within c.args.parts.now.items c.deref.result.now c.deref-2.result.now c.args.origin c.parts_before-at.result c.args.part c.requires.ascend c.deref.ensures.value c.deref-2.ensures.value c.parts_before-at.ensures.place c.if-not-goes_on.ensures in
    omega (arith, within, c.deref.ensures.len)

pub returns-clause-joined : goal.returns-clause-joined
returns-clause-joined c =
    let f = follows_is c.args.parts.now.items c.deref.result.now c.deref-2.result.now c.args.origin c.parts_before-at.result c.args.part c.index_mut-2.result.now c.requires.ascend c.deref.ensures.value c.deref-2.ensures.value c.parts_before-at.ensures.place c.if-not-goes_on.ensures c.index_mut-2.ensures.value in
    c.in_ok-joined.ensures.ok ∙ last_becomes c.args.parts.now.items c.args.origin c.parts_before-at.result c.args.part c.index_mut-2.result.now f (omega (arith, c.if-part.false, c.requires.part.index_below))

pub returns-clause-left : goal.returns-clause-left
returns-clause-left c =
    let f = follows_is c.args.parts.now.items c.deref.result.now c.deref-2.result.now c.args.origin c.parts_before-at.result c.args.part c.index_mut-2.result.now c.requires.ascend c.deref.ensures.value c.deref-2.ensures.value c.parts_before-at.ensures.place c.if-not-goes_on.ensures c.index_mut-2.ensures.value in
    c.remove.ensures.items ∙ remove_set c.args.parts.now.items c.parts_before-at.result c.complete.new.held
    ∙ last_ends c.args.parts.now.items c.args.origin c.parts_before-at.result c.args.part c.index_mut-2.result.now f (omega (arith, c.if-part.false, c.requires.part.index_below))
