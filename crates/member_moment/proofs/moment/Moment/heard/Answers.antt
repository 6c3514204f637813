-- The watch hears it.
use Rattle.std.proofs.Common.{refl}
use Rattle.group_rules.specs.Events.{Came, Hears}
use Rattle.member_own.proofs.Kept.{passes as own_passes}
use Rattle.member_moment.proofs.Came.{came}
use Rattle.member_moment.proofs.moment.Moment.heard.Goals as goal

pub returns : goal.returns
returns c = λ m e base a p st. came base a (Hears m) c.args.self.now _ refl (c.heard.ensures a.setup a.me.inc a.life m e st.rest.parts) (own_passes a.me.inc a.life c.args.self.now.own (Came (Hears m)) refl st.rest.own) st
