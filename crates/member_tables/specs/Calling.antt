-- What a call leaves.
use Rattle.std.specs.Prelude.{◌≡◌, ◌≤◌, ℕ, true, false, List, Some, length}
use Rattle.group_rules.specs.declared.requests.Request.TheVariants.{Commit}
use Rattle.txn_forms.specs.declared.body.Body.TheVariants.{Txn as Writes}
use Rattle.txn_forms.specs.Bodies.{body_bytes}
use Rattle.txn_forms.specs.Parts.{most_bytes}
use Rattle.group_rules.specs.Calls.{call, txn_of}
use Rattle.group_rules.specs.Sessions.{is_holding, phase}
use Rattle.member_truth.specs.Ranged.{IsSpelt}
use Rattle.group_rules.specs.Member.{Member}
use Rattle.local_sessions.specs.declared.commit_step.CommitStep.{CommitStep}
use Rattle.local_sessions.specs.declared.commit_step.CommitStep.TheVariants.{Ready, Said}
use Rattle.local_sessions.specs.Acting.{sent_as}
use Rattle.local_sessions.specs.declared.session.Stage.TheVariants.{Asking}
use Rattle.local_sessions.specs.Standing.{at_stage, changed_at, is_asked, session_in}
use Rattle.member_tables.specs.declared.tables.MemberTables.{MemberTables}
use Rattle.member_tables.specs.Standing.{TablesFor}

-- the tables stand for the member that asked the commit once the body is sent
abbrev pub OnceSent : ℕ → List ℕ → Member → MemberTables → Type 0
OnceSent s b a x = TablesFor (call s Commit a) (record x { sessions = changed_at s (at_stage (Asking (sent_as b a))) x.sessions })

-- what a commit leaves, by what it comes to
abbrev pub CommitsTo : CommitStep → ℕ → Member → MemberTables → Type 0
CommitsTo (Said x) s a t = TablesFor (call s Commit a) t
CommitsTo (Ready b) s a t = OnceSent s b a t

-- a commit that hands out a body leaves its session waiting for the value
abbrev pub AsksIfReady : CommitStep → ℕ → MemberTables → Type 0
AsksIfReady (Said x) s t = Unit {0}
AsksIfReady (Ready b) s t = is_asked (session_in t.sessions s) ≡ true

-- a body that is handed out is that of the transaction, which can be spelt and read back, and whose begin isn't held
abbrev pub IsSendable : CommitStep → ℕ → Member → Type 0
IsSendable (Said x) s a = Unit {0}
IsSendable (Ready b) s a = (b ≡ body_bytes (Writes (txn_of s a))) × ((is_holding (phase a.life s) ≡ false) × IsSpelt (Some (Writes (txn_of s a))))

-- it isn't empty, and no larger than a body may be
abbrev pub IsSized : CommitStep → Type 0
IsSized (Said x) = Unit {0}
IsSized (Ready b) = (1 ≤ length b) × (length b ≤ most_bytes)
