use Rattle.std.proofs.Common.{◌≡◌, ap, sym, ◌∙◌, subst, IfSome, option_copied}
use Rattle.byte_forms.proofs.ListLemmas.{last_of, last_is, last_pushed, done_next, done_takes, done_breaks}
use Rattle.byte_forms.proofs.lists.take_elements.Goals as goal

pub take_next-requires : goal.take_next-requires
take_next-requires g c =
    let is = c.last.ensures.value ∙ last_is c.deref.result.now ∙ ap last_of c.deref.ensures.value in
    subst (λ r. IfSome r (g.L.ListForm.CanPrecede c.args.form.now)) (sym is) c.loop-i.invariant.last

pub returns-in-Err-clause-misfit : goal.returns-in-Err-clause-misfit
returns-in-Err-clause-misfit g c =
    let is = c.last.ensures.value ∙ last_is c.deref.result.now ∙ ap last_of c.deref.ensures.value in
    done_breaks (g.L.ListForm.reader c.args.form.now) c.args.count c.loop-i.done.items c.loop-i._i c.args.from.now c.loop-i.from (option_copied c.last.result) c.in-Err.e c.loop-i-test.true c.loop-i.invariant.so_far is c.loop-i.invariant.whole c.in-Err.ensures.misfit

pub loop-i-preserved : goal.loop-i-preserved
loop-i-preserved g c =
    let is = c.last.ensures.value ∙ last_is c.deref.result.now ∙ ap last_of c.deref.ensures.value in
    record {
      so_far = done_next (g.L.ListForm.reader c.args.form.now) c.args.count c.args.from.now.left c.loop-i.done.items c.push.new.self.items c.loop-i._i c.loop-i.from c.take_next.new.from (option_copied c.last.result) c.in-Ok.x c.loop-i-test.true c.loop-i.invariant.so_far is c.in_ok-push-in-Ok.ensures.items c.in-Ok.ensures.ok;
      last = last_pushed (g.L.ListForm.CanPrecede c.args.form.now) c.push.new.self.items c.loop-i.done.items c.in-Ok.x c.in_ok-push-in-Ok.ensures.items c.in-Ok.ensures.precedes;
      whole = c.in-Ok.ensures.ok.whole ∙ c.loop-i.invariant.whole;
    }

pub returns-clause-ok : goal.returns-clause-ok
returns-clause-ok g c = done_takes (g.L.ListForm.reader c.args.form.now) c.args.count c.loop-i._i c.loop-i.done.items c.from_vec.result c.args.from.now c.loop-i.from c.loop-i-test.false c.loop-i.invariant.so_far c.from_vec.ensures c.loop-i.invariant.whole
