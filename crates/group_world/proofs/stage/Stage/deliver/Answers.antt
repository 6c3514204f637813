use Rattle.std.proofs.Common.{◌≡◌, refl, true, false, sym, ◌∙◌}
use Rattle.group_rules.specs.Script.{Letter}
use Rattle.group_rules.specs.World.{Takes, runs}
use Rattle.group_world.proofs.Idle.{idle}
use Rattle.group_world.proofs.Posting.{got, kth_in, marked, marks, taken_by, taken_by_none, untaken}
use Rattle.group_world.proofs.Results.{if_err, on_ok}
use Rattle.group_world.proofs.stage.Stage.deliver.Goals as goal

abbrev as_delivered : Letter → Letter
as_delivered l = record l { delivered = true }

pub returns-in_default-clause-stands : goal.returns-in_default-clause-stands
returns-in_default-clause-stands c y a =
    let b = marks as_delivered (λ l. (refl, refl)) c.args.k y c.args.self.now c.mark_delivered.new.self c.mark_delivered.ensures a in
    let x = record c.args.self.now { wire = c.mark_delivered.new.self } in
    let none = got (marked as_delivered c.args.k y) x c.args.k _ b c.in_ok-message.ensures ∙ c.in_default.is in
    idle c.plays_are_runs.ensures.idle (Takes c.args.k) _ x x b tt (taken_by_none y.world c.args.k none) b.holds.sites refl refl refl refl refl

pub returns-then-not-is_message-clause-stands : goal.returns-then-not-is_message-clause-stands
returns-then-not-is_message-clause-stands c y a =
    let b = marks as_delivered (λ l. (refl, refl)) c.args.k y c.args.self.now c.mark_delivered.new.self c.mark_delivered.ensures a in
    let x = record c.args.self.now { wire = c.mark_delivered.new.self } in
    let some = got (marked as_delivered c.args.k y) x c.args.k _ b c.in_ok-message.ensures ∙ c.in-Some.is in
    let can = c.is_message.ensures.1 (b.carries.spellable c.in-Some.message (kth_in y.world.sent c.args.k c.in-Some.message some)) in
    let cannot = c.if-not-is_message.true in
    absurd (cc)

pub returns-then-not-runs-clause-stands : goal.returns-then-not-runs-clause-stands
returns-then-not-runs-clause-stands c y a =
    let b = marks as_delivered (λ l. (refl, refl)) c.args.k y c.args.self.now c.mark_delivered.new.self c.mark_delivered.ensures a in
    let x = record c.args.self.now { wire = c.mark_delivered.new.self } in
    let some = got (marked as_delivered c.args.k y) x c.args.k _ b c.in_ok-message.ensures ∙ c.in-Some.is in
    let stays : runs y.world c.in-Some.message.to ≡ false = sym (c.runs.ensures y.world.servers b.holds.sites) ∙ c.if-not-runs.true in
    idle c.plays_are_runs.ensures.idle (Takes c.args.k) _ x x b tt (untaken y.world c.args.k c.in-Some.message some stays) b.holds.sites refl refl refl refl refl

pub returns-clause-stands : goal.returns-clause-stands
returns-clause-stands c = on_ok c.hand.result c.hand.ensures.stands (λ h y a.
    let b = marks as_delivered (λ l. (refl, refl)) c.args.k y c.args.self.now c.mark_delivered.new.self c.mark_delivered.ensures a in
    let x = record c.args.self.now { wire = c.mark_delivered.new.self } in
    let some = got (marked as_delivered c.args.k y) x c.args.k _ b c.in_ok-message.ensures ∙ c.in-Some.is in
    let comes : runs y.world c.in-Some.message.to ≡ true = sym (c.runs.ensures y.world.servers b.holds.sites) ∙ c.if-not-runs.false in
    h (marked as_delivered c.args.k y) (Takes c.args.k) b (taken_by y.world c.args.k c.in-Some.message some comes))

pub returns-clause-full : goal.returns-clause-full
returns-clause-full c = if_err c.hand.result c.hand.ensures.full (λ f h y a.
    let b = marks as_delivered (λ l. (refl, refl)) c.args.k y c.args.self.now c.mark_delivered.new.self c.mark_delivered.ensures a in
    let x = record c.args.self.now { wire = c.mark_delivered.new.self } in
    let some = got (marked as_delivered c.args.k y) x c.args.k _ b c.in_ok-message.ensures ∙ c.in-Some.is in
    let comes : runs y.world c.in-Some.message.to ≡ true = sym (c.runs.ensures y.world.servers b.holds.sites) ∙ c.if-not-runs.false in
    h (marked as_delivered c.args.k y) (Takes c.args.k) b (taken_by y.world c.args.k c.in-Some.message some comes))
