use Rattle.std.proofs.Common.{sym, ap, subst, ◌∙◌, arith}
use Rattle.gtid_sets.specs.Places.{runs_before}
use Rattle.gtid_sets.specs.Canonical.{IsCanonical}
use Rattle.gtid_sets.proofs.PutLemmas.{put_end, put_between, put_touching, canonical_with_gtid}
use Rattle.gtid_sets.proofs.adding.put_gtid.Goals as goal

at_end : goal.returns-then-at-len-clause-ok
at_end c = c.in_ok-push.ensures.items ∙ put_end c.args.runs.now.items c.args.gtid c.runs_before-at.result c.single-run.result c.single-run.ensures.uuid c.requires.canonical (c.runs_before-at.ensures.place ∙ ap (λ s. runs_before s c.args.gtid) c.deref.ensures.value) c.single-run.ensures.run (omega (arith, c.if-at-len.true))

pub returns-then-at-len-clause-ok : goal.returns-then-at-len-clause-ok
returns-then-at-len-clause-ok c = at_end c

between : goal.returns-then-is_before-clause-ok
between c = c.in_ok-insert.ensures.items ∙ put_between c.args.runs.now.items c.args.gtid c.runs_before-at.result c.index.result.now c.single-run.result c.single-run.ensures.uuid c.requires.canonical (c.runs_before-at.ensures.place ∙ ap (λ s. runs_before s c.args.gtid) c.deref.ensures.value) c.single-run.ensures.run c.index.ensures (omega (arith, c.runs_before-at.ensures.within, c.if-at-len.false)) c.if-is_before.ensures

pub returns-then-is_before-clause-ok : goal.returns-then-is_before-clause-ok
returns-then-is_before-clause-ok c = between c

touching : goal.returns-clause-ok
touching c = c.put_joined.ensures ∙ put_touching c.args.runs.now.items c.args.gtid c.runs_before-at.result c.index.result.now c.single-run.result c.joined-joined.result c.single-run.ensures.uuid c.requires.number c.requires.canonical (c.runs_before-at.ensures.place ∙ ap (λ s. runs_before s c.args.gtid) c.deref.ensures.value) c.single-run.ensures.run c.index.ensures (omega (arith, c.runs_before-at.ensures.within, c.if-at-len.false)) c.if-is_before.ensures c.joined-joined.ensures

pub returns-clause-ok : goal.returns-clause-ok
returns-clause-ok c = touching c

pub returns-then-at-len-clause-canonical : goal.returns-then-at-len-clause-canonical
returns-then-at-len-clause-canonical c = subst IsCanonical (sym (at_end c)) (canonical_with_gtid c.args.runs.now.items c.args.gtid c.single-run.ensures.uuid c.requires.number c.requires.canonical)

pub returns-then-is_before-clause-canonical : goal.returns-then-is_before-clause-canonical
returns-then-is_before-clause-canonical c = subst IsCanonical (sym (between c)) (canonical_with_gtid c.args.runs.now.items c.args.gtid c.single-run.ensures.uuid c.requires.number c.requires.canonical)

pub returns-clause-canonical : goal.returns-clause-canonical
returns-clause-canonical c = subst IsCanonical (sym (touching c)) (canonical_with_gtid c.args.runs.now.items c.args.gtid c.single-run.ensures.uuid c.requires.number c.requires.canonical)
