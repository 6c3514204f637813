-- It is committed, and then its session is told, if one waits.
use Rattle.std.proofs.Common.{refl}
use Rattle.member_moment.specs.declared.moment.Moment.{Moment}
use Rattle.member_moment.proofs.Committed.{is_of, told, untold}
use Rattle.member_moment.proofs.Ended.{both_ok}
use Rattle.member_moment.proofs.moment.Moment.commit_done.Goals as goal

pub returns-in-Some : goal.returns-in-Some
returns-in-Some c = both_ok c.tell.result
    (λ r t. λ base a d w f.
    let x : Moment = c.args.self.now in
    let y : Moment = record x { committed = c.push-2.new.self; marks = c.push.new.self; tables = c.commit.new.self } in
    let of = is_of base a d c.args.one.now c.args.done x y f w refl c.in_ok-push.ensures.items c.in_ok-push-2.ensures.items c.own_value-own.result (c.own_value-own.ensures d w.is_it) in
    told base a d c.args.one.now c.args.done x y f w refl c.in_ok-push.ensures.items c.in_ok-push-2.ensures.items c.in_ok-told.field-0
    (c.in_ok-told.ensures.answer a d f.next of f.others.tables) (c.in_ok-told.ensures.committed a d f.next of f.others.tables) c.in-Some.told c.in-Some.is c.tell.new.self r t)
    c.tell.ensures.rest c.tell.ensures.tables

pub returns : goal.returns
returns c = λ base a d w f.
    let x : Moment = c.args.self.now in
    let y : Moment = record x { committed = c.push-2.new.self; marks = c.push.new.self; tables = c.commit.new.self } in
    let of = is_of base a d c.args.one.now c.args.done x y f w refl c.in_ok-push.ensures.items c.in_ok-push-2.ensures.items c.own_value-own.result (c.own_value-own.ensures d w.is_it) in
    untold base a d c.args.one.now c.args.done x y f w refl c.in_ok-push.ensures.items c.in_ok-push-2.ensures.items c.in_ok-told.field-0
    (c.in_ok-told.ensures.answer a d f.next of f.others.tables) (c.in_ok-told.ensures.committed a d f.next of f.others.tables) c.in-None.is
