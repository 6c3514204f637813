-- The state is that of the tables too.
use Rattle.std.proofs.Common.{refl}
use Rattle.gr_ids.specs.declared.levels.MemberState.TheVariants.{Online}
use Rattle.group_rules.specs.Events.{Is}
use Rattle.group_rules.specs.Life.{has_give, state}
use Rattle.group_rules.specs.Member.{push}
use Rattle.member_joining.proofs.Joined.{states}
use Rattle.member_parts.proofs.Passed.{stated}
use Rattle.member_ranges.proofs.Passed.{arrives, ready}
use Rattle.member_moment.specs.declared.moment.Moment.{Moment}
use Rattle.member_moment.proofs.Aside.{aside_of, pushed, rest_of}
use Rattle.member_moment.proofs.moment.Moment.come_online.Goals as goal

pub returns : goal.returns
returns c = λ base a ok p st.
    let x : Moment = c.args.self.now in
    let y : Moment = record x { tables = c.stated.new.self; marks = c.push.new.self } in
    let well = (ready (state a.life) (has_give a.life) ok).0 in
    record {
      rest = rest_of base (push (Is Online c.args.cause) a) y
          (pushed base a x y refl (Is Online c.args.cause) c.in_ok-push.ensures.items (record { own = refl; ranged = tt; committed = refl }) (arrives c.args.cause a ok st.rest.range) (states a.life Online c.args.cause x.joining st.rest.joining ok) (aside_of base a x st.rest))
          (stated a.setup a.me.inc a.life Online c.args.cause x.parts well refl st.rest.parts);
      tables = c.stated.ensures a c.args.cause well refl st.tables;
    }
