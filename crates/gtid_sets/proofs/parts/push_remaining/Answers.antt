use Rattle.std.proofs.Common.{◌++◌, sym, ap, ◌∙◌}
use Rattle.gtid_sets.proofs.StepLemmas.{skip_cut, uncut, cut_to_end, cut_through, regroup}
use Rattle.gtid_sets.proofs.parts.push_remaining.Goals as goal

pub loop-j-preserved-then-precedes : goal.loop-j-preserved-then-precedes
loop-j-preserved-then-precedes c =
    let i = c.loop-j.invariant in
    let s = skip_cut c.args.cuts.now c.loop-j.j _ c.loop-j.rest c.args.run c.loop-j-test.true c.requires.cuts i.rest c.requires.run i.source i.end c.if-precedes.ensures in
    record { rest = i.rest; source = i.source; end = i.end; added = ap (λ xs. c.loop-j.runs.items ++ xs) s.added ∙ i.added; later = λ behind b h. s.later behind b h ∙ i.later behind b h }

pub returns-then-precedes-2-clause-added : goal.returns-then-precedes-2-clause-added
returns-then-precedes-2-clause-added c =
    let i = c.loop-j.invariant in
    c.in_ok-push.ensures.items ∙ ap (λ xs. c.loop-j.runs.items ++ xs) (sym (uncut c.args.cuts.now c.loop-j.j _ c.loop-j.rest c.loop-j-test.true c.requires.cuts i.rest c.if-precedes-2.ensures)) ∙ i.added

pub returns-then-rest-cut-clause-added : goal.returns-then-rest-cut-clause-added
returns-then-rest-cut-clause-added c =
    let i = c.loop-j.invariant in
    c.in_ok-push_below.ensures ∙ ap (λ xs. c.loop-j.runs.items ++ xs) (sym (cut_to_end c.args.cuts.now c.loop-j.j _ c.loop-j.rest c.loop-j-test.true c.requires.cuts i.rest c.if-precedes.ensures c.if-precedes-2.ensures c.if-rest-cut.true)) ∙ i.added

pub loop-j-preserved : goal.loop-j-preserved
loop-j-preserved c =
    let i = c.loop-j.invariant in
    let s = cut_through c.args.cuts.now c.loop-j.j _ c.loop-j.rest c.args.run c.loop-j-test.true c.requires.cuts i.rest c.requires.run i.source i.end c.if-precedes.ensures c.if-precedes-2.ensures c.if-rest-cut.false in
    record {
      rest = s.is_run;
      source = i.source;
      end = i.end;
      added = regroup _ _ _ _ _ _ c.in_ok-push_below.ensures s.added i.added;
      later = λ behind b h. s.later behind b h ∙ i.later behind b h;
    }
