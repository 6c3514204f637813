-- A body that a commit hands out.
use Rattle.std.proofs.Common.{◌≡◌, ℕ, Ok, Err}
use Rattle.std.specs.Prelude.{IfOk, Result}
use Rattle.gr_ids.specs.declared.memory.Memory.{Memory}
use Rattle.group_rules.specs.declared.requests.Request.TheVariants.{Commit}
use Rattle.group_rules.specs.Member.{Member}
use Rattle.local_sessions.specs.declared.commit_step.CommitStep.{CommitStep}
use Rattle.local_sessions.specs.declared.commit_step.CommitStep.TheVariants.{Ready, Said}
use Rattle.local_sessions.specs.Acting.{reply_to}
use Rattle.local_sessions.specs.Committing.{IsSpeltIn}
use Rattle.local_sessions.specs.Standing.{session_in}
use Rattle.local_sessions.proofs.Telling.{tells_sent, tells_size}
use Rattle.member_tables.specs.declared.tables.MemberTables.{MemberTables}
use Rattle.member_tables.specs.Calling.{IsSendable, IsSized}
use Rattle.member_tables.specs.Standing.{TablesFor}
use Rattle.member_tables.proofs.Read.{reads}

pub by_step_sized : (x : MemberTables) (s : ℕ) (o : Result CommitStep Memory) → IfOk o (λ w. (reply_to x.tables (session_in x.sessions s) Commit).answer ≡ w) → IfOk o IsSized
by_step_sized x s (Ok (Said w)) e = tt
by_step_sized x s (Ok (Ready b)) e = tells_size x.tables (session_in x.sessions s) b e
by_step_sized x s (Err m) e = tt

pub by_step_spelt : (x : MemberTables) (s : ℕ) (o : Result CommitStep Memory) → IfOk o (λ w. (reply_to x.tables (session_in x.sessions s) Commit).answer ≡ w)
    → IfOk o (λ w. IsSpeltIn x.tables (session_in x.sessions s) w) → IfOk o (λ w. (a : Member) → TablesFor a x → IsSendable w s a)
by_step_spelt x s (Ok (Said w)) e k = λ a f. tt
by_step_spelt x s (Ok (Ready b)) e k = λ a f. let q = tells_sent x.sessions x.tables a s b f.sessions f.left (reads a x f) e in (q.0, (q.1.0, q.1.1 k))
by_step_spelt x s (Err m) e k = tt
