-- A stopped member stays as it was; another one takes the step, or is stopped.
use Rattle.std.proofs.Common.{◌≡◌, ◌∙◌, false, true, refl, sym}
use Rattle.std.proofs.lemmas.Bool.{false≢true}
use Rattle.member_core.specs.Standing.{event_of}
use Rattle.member_core.specs.Whole.{is_stopped}
use Rattle.member_core.proofs.Acted.{stepped}
use Rattle.member_core.proofs.Closed.{has_server, is_made_of, stopped_is}
use Rattle.member_core.proofs.member.Member.step.Goals as goal

pub returns-then-self-clause-fault : goal.returns-then-self-clause-fault
returns-then-self-clause-fault c = let was : is_stopped c.args.self.now ≡ true = stopped_is _ _ c.self.view_is ∙ c.if-self.true in rw was refl

pub returns-then-self-clause-stops : goal.returns-then-self-clause-stops
returns-then-self-clause-stops c = stopped_is _ _ c.self.view_is ∙ c.if-self.true

pub returns-then-self-clause-kept : goal.returns-then-self-clause-kept
returns-then-self-clause-kept c = λ a m. absurd (false≢true (sym (is_made_of a _ _ c.self.view_is m).running ∙ c.if-self.true))

pub returns-in-Ok-clause-ok : goal.returns-in-Ok-clause-ok
returns-in-Ok-clause-ok c = λ a k m.
    (let made = is_made_of a _ _ c.self.view_is m in
    stepped (event_of c.args.event) a c.in-Ok.left (record { moment = c.go_on.new.moment; ledger = c.go_on.new.ledger; is_stopped = c.self.inside.is_stopped }) made.running
    (c.in-Ok.ensures.ok a k made.moment made.server))

pub returns-in-Ok-clause-running : goal.returns-in-Ok-clause-running
returns-in-Ok-clause-running c = stopped_is _ _ c.self.view_is ∙ c.if-self.false

pub returns-in-Ok-clause-same : goal.returns-in-Ok-clause-same
returns-in-Ok-clause-same c = λ t. absurd (false≢true (sym (stopped_is _ _ c.self.view_is ∙ c.if-self.false) ∙ t))

pub returns-in-Err-clause-fault : goal.returns-in-Err-clause-fault
returns-in-Err-clause-fault c = let was : is_stopped c.args.self.now ≡ false = stopped_is _ _ c.self.view_is ∙ c.if-self.false in rw was refl

pub returns-in-Err-clause-same : goal.returns-in-Err-clause-same
returns-in-Err-clause-same c = λ t. absurd (false≢true (sym (stopped_is _ _ c.self.view_is ∙ c.if-self.false) ∙ t))

pub returns-in-Err-clause-stops : goal.returns-in-Err-clause-stops
returns-in-Err-clause-stops c = stopped_is (record { moment = c.go_on.new.moment; ledger = c.go_on.new.ledger; is_stopped = true }) _ refl

pub returns-in-Err-clause-kept : goal.returns-in-Err-clause-kept
returns-in-Err-clause-kept c = λ a m.
    (let made = is_made_of a _ _ c.self.view_is m in
    has_server a (record { moment = c.go_on.new.moment; ledger = c.go_on.new.ledger; is_stopped = true }) (record { server = c.in-Err.ensures.err a made.server; stopped = refl }))
