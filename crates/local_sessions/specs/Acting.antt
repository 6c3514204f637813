-- What a reply is to the history of its member.
use Rattle.std.specs.Prelude.{◌≡◌, ◌+◌, ℕ, true, false, Option, Some, None, List, [], ◌∷◌, length, nat_le}
use Rattle.std.specs.Option.{option_map}
use Rattle.gr_ids.specs.declared.names.ValueId.{ValueId}
use Rattle.key_items.specs.declared.change.ChangeKind.TheVariants.{Insert as Inserts, Update as Updates, Delete as Deletes}
use Rattle.txn_forms.specs.Parts.{whole_bytes}
use Rattle.group_rules.specs.declared.answers.Answer.{Answer}
use Rattle.group_rules.specs.declared.requests.Request.{Request}
use Rattle.group_rules.specs.declared.requests.Request.TheVariants.{Begin, Get, Insert, Update, Delete, Commit, Rollback}
use Rattle.group_rules.specs.Events.{Called, Cert, Changed, Life}
use Rattle.group_rules.specs.Life.{last_made}
use Rattle.group_rules.specs.Parts.{cut}
use Rattle.group_rules.specs.Queue.{pending}
use Rattle.group_rules.specs.Member.{Member, answer, last_answer, push, waiting_as}
use Rattle.group_rules.specs.Calls.{send_sync, send_txn, txn_of as txn_in}
use Rattle.local_sessions.specs.declared.tables.Tables.{Tables}
use Rattle.local_sessions.specs.declared.commit_step.CommitStep.{CommitStep}
use Rattle.local_sessions.specs.declared.commit_step.CommitStep.TheVariants.{Said, Ready}
use Rattle.local_sessions.specs.declared.told.Answered.{Answered}
use Rattle.local_sessions.specs.declared.told.TakenOwn.{TakenOwn}
use Rattle.local_sessions.specs.Others.{taken_as}
use Rattle.local_sessions.specs.Standing.{Session}
use Rattle.local_sessions.specs.Replies.{Asks, Deed, Ends, Holds, Nothing, Reply, Writing, begin, commit, get, rollback, statement}

-- the reply to a request
abbrev pub reply_to : Tables → Option Session → Request → Reply
reply_to at o (Begin v w) = begin at v o
reply_to at o (Get i) = get at i o
reply_to at o (Insert i r) = statement at (record { item = i; what = Inserts r }) o
reply_to at o (Update i r) = statement at (record { item = i; what = Updates r }) o
reply_to at o (Delete i) = statement at (record { item = i; what = Deletes }) o
reply_to at o Commit = commit at o
reply_to at o Rollback = rollback o

-- a begin is called, and sends its Sync; whether its answer is Held shows at the end of the step
abbrev pub held_by : ℕ → Request → Member → Member
held_by s (Begin v w) a = send_sync v (push (Called s v w) a)
held_by s r a = a

-- an answer; a last answer; a begin; a change, which is answered so; a body that is sent
abbrev pub done_by : ℕ → Request → CommitStep → Deed → Member → Member
done_by s r (Ready b) d a = send_txn s (txn_in s a) b a
done_by s r (Said x) Nothing a = answer s x a
done_by s r (Said x) Ends a = last_answer s x a
done_by s r (Said x) (Holds f t) a = held_by s r a
done_by s r (Said x) (Writing c) a = push (Changed s c) a
done_by s r (Said x) Asks a = a

-- the identity of the value, the last of those that send this body
abbrev pub sent_as : List ℕ → Member → ValueId
sent_as b a = record { origin = a.me.inc; number = last_made a.life + (elim (nat_le (length b) whole_bytes) [ true ↦ 1 | false ↦ length (cut b) ]) }

-- what a reply leaves of the member
abbrev pub after_reply : ℕ → Request → Reply → Member → Member
after_reply s r q a = done_by s r q.answer q.deed a

-- the answer that ends a session's transaction, if one is named
abbrev pub told_to : Option Session → Answer → Member → Member
told_to None x a = a
told_to (Some y) x a = last_answer y.session x a

-- answers, one after another
abbrev pub tell : List Answered → Member → Member
tell [] a = a
tell (x ∷ xs) a = tell xs (last_answer x.session x.answer a)

-- these are the own transactions that were taken positive and aren't committed
abbrev pub TakenOf : List TakenOwn → Life → Type 0
TakenOf ts l = (i : ValueId) → option_map (λ (t : TakenOwn). t.gtid) (taken_as ts i) ≡ option_map (λ (c : Cert). c.gtid) (waiting_as (pending l) i)
