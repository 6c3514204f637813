-- The number of the origin's last positive transaction is that of its entry.
use Rattle.std.proofs.Common.{ℕ, ◌<◌, ◌≤◌, ◌*◌, ◌^◌, Option, ap, sym, subst, ◌∙◌, arith}
use Rattle.std.specs.Prelude.{IfSome}
use Rattle.gr_ids.specs.declared.names.Gtid.{Gtid}
use Rattle.group_rules.specs.Certifier.{number_after}
use Rattle.certifier.specs.Certifying.{Certifying}
use Rattle.certifier.proofs.LastMaps.{reads}
use Rattle.certifier.proofs.Positive.{fits}
use Rattle.certifier.proofs.certifier.Certifier.next_gtid.Goals as goal

pub number_after-requires-clause-of_blocks : goal.number_after-requires-clause-of_blocks
number_after-requires-clause-of_blocks c = λ x e.
    subst (λ (o : Option ℕ). IfSome o (λ n. n ≤ c.self.inside.blocks * c.self.inside.block)) (sym c.get.ensures.value ∙ (sym c.copied-last.ensures ∙ e)) (c.self.invariant.numbers c.args.origin)

pub returns-clause-gtid : goal.returns-clause-gtid
returns-clause-gtid c =
    let last = c.copied-last.ensures ∙ (c.get.ensures.value ∙ sym (reads c.self.inside.last.entries c.args.origin)) in
    let made : ℕ → Gtid = λ n. record { source = c.self.inside.group; number = n } in
    rw (← c.self.view_is) (ap made (c.number_after.ensures ∙ ap (number_after c.self.inside.block c.self.inside.blocks) last))

pub returns-clause-range : goal.returns-clause-range
returns-clause-range c =
    let i = c.self.inside in
    let was : IfSome c.copied-last.result (λ n. n ≤ i.blocks * i.block) = subst (λ (o : Option ℕ). IfSome o (λ n. n ≤ i.blocks * i.block)) (sym c.get.ensures.value ∙ sym c.copied-last.ensures) (c.self.invariant.numbers c.args.origin) in
    let few : i.blocks < 2 ^ 42 = omega (arith, ap (λ (v : Certifying). v.certified.blocks) c.self.view_is, c.requires) in
    rw c.number_after.ensures (fits i.block i.blocks c.copied-last.result c.self.invariant.least c.self.invariant.most few was)
