-- The first one with the GTID is taken out.
use Rattle.std.proofs.Common.{◌≡◌, List, Some, ap, sym, ◌∙◌, arith}
use Rattle.member_parts.specs.Remote.{OwnWork, without_own}
use Rattle.member_parts.proofs.Owns.{before, found_at, is_of, stays, taken_out}
use Rattle.std.specs.List.{find}
use Rattle.member_parts.proofs.own.OwnCertified.take_out.Goals as goal

pub returns-then-at-len-clause-rest : goal.returns-then-at-len-clause-rest
returns-then-at-len-clause-rest c =
    (let items : List OwnWork = c.self.inside.waiting.items in
    let at : c.index_of-at.result ≡ before c.args.gtid items = c.index_of-at.ensures ∙ ap (before c.args.gtid) c.deref.ensures.value in
    c.remove.ensures.items ∙ (taken_out c.args.gtid items c.index_of-at.result at (omega (arith, c.if-at-len.true, c.len.ensures)) ∙ ap (without_own c.args.gtid) c.self.view_is))

pub returns-then-at-len-clause-found : goal.returns-then-at-len-clause-found
returns-then-at-len-clause-found c =
    (let items : List OwnWork = c.self.inside.waiting.items in
    let at : c.index_of-at.result ≡ before c.args.gtid items = c.index_of-at.ensures ∙ ap (before c.args.gtid) c.deref.ensures.value in
    let found = found_at c.args.gtid items c.index_of-at.result c.remove.result at (omega (arith, c.if-at-len.true, c.len.ensures)) c.remove.ensures.value in
    (c.result.inside.gtid, ap (find (is_of c.args.gtid)) (sym c.self.view_is) ∙ (found ∙ ap (λ (w : OwnWork). Some w) (sym c.result.view_is))))

pub returns-else-at-len-clause-rest : goal.returns-else-at-len-clause-rest
returns-else-at-len-clause-rest c =
    (let items : List OwnWork = c.self.inside.waiting.items in
    let at : c.index_of-at.result ≡ before c.args.gtid items = c.index_of-at.ensures ∙ ap (before c.args.gtid) c.deref.ensures.value in
    sym (ap (without_own c.args.gtid) (sym c.self.view_is) ∙ ((stays c.args.gtid items c.index_of-at.result at (omega (arith, c.if-at-len.false, c.len.ensures))).0 ∙ c.self.view_is)))

pub returns-else-at-len-clause-found : goal.returns-else-at-len-clause-found
returns-else-at-len-clause-found c =
    (let items : List OwnWork = c.self.inside.waiting.items in
    let at : c.index_of-at.result ≡ before c.args.gtid items = c.index_of-at.ensures ∙ ap (before c.args.gtid) c.deref.ensures.value in
    ap (find (is_of c.args.gtid)) (sym c.self.view_is) ∙ (stays c.args.gtid items c.index_of-at.result at (omega (arith, c.if-at-len.false, c.len.ensures))).1)
