-- The member takes ERROR, and then its sessions are told.
use Rattle.std.proofs.Common.{refl, sym, subst, ap, ◌∙◌, map, List}
use Rattle.gr_ids.specs.declared.levels.MemberState.TheVariants.{Error}
use Rattle.group_rules.specs.Events.{Is}
use Rattle.group_rules.specs.Member.{Member, fall, push}
use Rattle.local_sessions.specs.Acting.{TakenOf}
use Rattle.local_sessions.specs.declared.told.TakenOwn.{TakenOwn}
use Rattle.member_joining.proofs.Joined.{states}
use Rattle.member_ranges.proofs.Passed.{passed as said}
use Rattle.member_tables.specs.declared.tables.MemberTables.{MemberTables}
use Rattle.member_tables.specs.Standing.{TablesFor}
use Rattle.member_moment.specs.Ending.{taken_of}
use Rattle.member_moment.specs.Standing.{RestFor}
use Rattle.member_moment.specs.declared.moment.Moment.{Moment}
use Rattle.member_moment.proofs.Aside.{aside_of, pushed, rest_of}
use Rattle.member_moment.proofs.Ended.{both_ok, taken_of_pending}
use Rattle.member_moment.proofs.moment.Moment.fall.Goals as goal

pub returns : goal.returns
returns c = both_ok c.tell_all.result
    (λ r t. λ base a p st.
    let asked : TakenOf c.deref.result.now a.life =
    subst (λ (ts : List TakenOwn). TakenOf ts a.life) (sym (c.deref.ensures.value ∙ (c.in_ok-taken.ensures ∙ ap (map taken_of) (c.waiting.ensures ∙ (c.backlog.ensures ∙ st.rest.parts.backlog.waiting))))) (taken_of_pending a.life) in
    let x : Moment = c.args.self.now in
    let y : Moment = record x { parts = c.fail.new.self; tables = c.fall.new.self; marks = c.push.new.self } in
    let b : Member = push (Is Error c.args.cause) a in
    let fallen : RestFor base b y =
    rest_of base b y
    (pushed base a x y refl (Is Error c.args.cause) c.in_ok-push.ensures.items (record { own = refl; ranged = tt; committed = refl }) (said (Is Error c.args.cause) a refl st.rest.range) (states a.life Error c.args.cause x.joining st.rest.joining tt) (aside_of base a x st.rest))
    (c.fail.ensures a.setup a.me.inc a.life c.args.cause st.rest.parts) in
    record {
      rest = subst (λ (d : Member). RestFor base d c.tell_all.new.self) (sym (c.in_ok-answers.ensures.answers a c.args.cause asked st.tables)) (r base b fallen);
      tables = subst (λ (z : MemberTables). TablesFor (fall c.args.cause a) z) (sym t) (c.in_ok-answers.ensures.fallen a c.args.cause asked st.tables);
    })
    c.tell_all.ensures.rest c.tell_all.ensures.tables
