-- The watch, the holds and the count of ticks have it.
use Rattle.std.proofs.Common.{◌∷◌, refl, sym, subst}
use Rattle.group_rules.specs.Events.{Came, Ticks}
use Rattle.member_own.specs.Keeping.{Keeps}
use Rattle.member_own.proofs.Kept.{ticks_once}
use Rattle.member_moment.proofs.Came.{came}
use Rattle.member_moment.proofs.moment.Moment.ticked.Goals as goal

pub returns : goal.returns
returns c = λ base a p st. came base a Ticks c.args.self.now _ refl (c.tick-2.ensures a.setup a.me.inc a.life st.rest.parts)
    (subst (λ k. Keeps a.me.inc (Came Ticks ∷ a.life) k) (sym c.tick.ensures) (ticks_once a.me.inc a.life c.args.self.now.own st.rest.own)) st
