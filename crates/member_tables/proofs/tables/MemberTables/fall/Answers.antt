-- Those that wait are told, and nothing is queued.
use Rattle.std.proofs.Common.{List, sym, ap, ◌∙◌}
use Rattle.gr_ids.specs.declared.levels.MemberState.TheVariants.{Error}
use Rattle.group_rules.specs.Events.{Is}
use Rattle.group_rules.specs.Member.{push}
use Rattle.row_locks.specs.Locking.{Locked, session_at}
use Rattle.local_sessions.specs.declared.told.Answered.{Answered}
use Rattle.local_sessions.specs.Acting.{tell}
use Rattle.local_sessions.specs.Others.{without_told}
use Rattle.member_tables.proofs.Fallen.{falls, told}
use Rattle.member_tables.proofs.tables.MemberTables.fall.Goals as goal

pub returns-clause-answers : goal.returns-clause-answers
returns-clause-answers c = λ a x t f.
    told a c.args.self.now c.args.taken.now x c.in_ok-answers.ensures.order t f ∙ ap (λ (os : List Answered). tell os (push (Is Error x) a)) (sym c.in_ok-answers.ensures.answers)

pub returns-clause-fallen : goal.returns-clause-fallen
returns-clause-fallen c = λ a x t f.
    falls a c.args.self.now c.args.taken.now x c.in_ok-answers.answers c.member_left.new.self c.free_places.new.self c.in_ok-answers.ensures.order c.in_ok-answers.ensures.answers c.in_ok-answers.ensures.sessions
    (λ j. ap (λ (k : Locked). session_at k.keys j) c.free_places.ensures ∙ (c.free_told.ensures.keys j ∙ ap (λ (os : List Answered). without_told os (session_at c.args.self.now.tables.locks.keys j)) c.as_slice.ensures))
    (ap (λ (k : Locked). k.places) c.free_places.ensures) t f
