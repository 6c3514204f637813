use Rattle.std.proofs.Common.{Option, Some, None, true, false, ℕ, ap}
use Rattle.member_core.proofs.holding.unless_held.Goals as goal

pub returns-then-is_held : goal.returns-then-is_held
returns-then-is_held c = λ base a r st. ap (λ b. elim b as (λ u. Option ℕ) [ true ↦ None | false ↦ Some c.args.session ]) (c.if-is_held.ensures base a st)

pub returns : goal.returns
returns c = λ base a r st. ap (λ b. elim b as (λ u. Option ℕ) [ true ↦ None | false ↦ Some c.args.session ]) (c.if-is_held.ensures base a st)
