use Rattle.std.proofs.Common.{◌≡◌, List, subst, sym, rules}
use Rattle.std.specs.List.{AllByRecursion}
use Rattle.script_text.specs.declared.line.Line.{Line}
use Rattle.script_text.specs.Make.{made}
use Rattle.script_text.specs.Ranges.{IsInRange}
use Rattle.script_text.proofs.MadeRanges.{made_in_range}
use Rattle.script_text.proofs.make.make_script.Goals as goal

pub returns-clause-range : goal.returns-clause-range
unfolding made
returns-clause-range c =
    let is : c.push-2.new.self.items ≡ made c.args.n c.args.from = search rules in
    subst (λ (ls : List Line). AllByRecursion IsInRange ls) (sym is) (made_in_range c.args.n c.args.from c.requires)
