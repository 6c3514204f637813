-- A call, its answer, and what stands then.
use Rattle.std.proofs.Common.{◌≡◌, ◌==◌, ℕ, Bool, true, false, Option, Some, List, [], ◌∷◌, length, refl, sym, subst, Ok, Err}
use Rattle.std.specs.Prelude.{◌+◌, IfOk, OnOk, Result, nat_le}
use Rattle.gr_ids.specs.declared.memory.Memory.{Memory}
use Rattle.gr_ids.specs.declared.levels.Level.{Level}
use Rattle.gr_ids.specs.declared.names.ValueId.{ValueId}
use Rattle.slot_values.specs.declared.value.What.{What}
use Rattle.slot_values.specs.declared.value.What.TheVariants.{Body as SaysBody}
use Rattle.txn_forms.specs.declared.body.Body.{Body}
use Rattle.txn_forms.specs.declared.body.Body.TheVariants.{Txn as Writes, Part as PartOf, Sync}
use Rattle.txn_forms.specs.declared.body.Part.{Part}
use Rattle.txn_forms.specs.declared.body.Txn.{Txn}
use Rattle.txn_forms.specs.Bodies.{body_bytes}
use Rattle.txn_forms.specs.Parts.{whole_bytes}
use Rattle.group_rules.specs.declared.answers.Answer.{Answer}
use Rattle.group_rules.specs.declared.answers.Answer.TheVariants.{Sent}
use Rattle.group_rules.specs.declared.requests.Request.{Request}
use Rattle.group_rules.specs.declared.requests.Request.TheVariants.{Begin, Get, Insert, Update, Delete, Commit, Rollback}
use Rattle.group_rules.specs.Calls.{ask_commit, call, own_part, send_sync, send_txn, txn_of as txn_in}
use Rattle.group_rules.specs.Events.{Answered as AnsweredIn, AsksCommit, Called, Changed, Ends as EndsIn, Made}
use Rattle.group_rules.specs.Holds.{has_sync}
use Rattle.group_rules.specs.Life.{last_made}
use Rattle.group_rules.specs.Member.{Member, for_each, next_id, own, push}
use Rattle.group_rules.specs.Parts.{cut}
use Rattle.local_sessions.specs.declared.commit_step.CommitStep.{CommitStep}
use Rattle.local_sessions.specs.declared.commit_step.CommitStep.TheVariants.{Ready, Said}
use Rattle.local_sessions.specs.declared.session.Session.{Session}
use Rattle.local_sessions.specs.declared.session.Stage.TheVariants.{Asking}
use Rattle.local_sessions.specs.declared.tables.Tables.{Tables}
use Rattle.local_sessions.specs.Acting.{after_reply, done_by, held_by, reply_to, sent_as}
use Rattle.local_sessions.specs.Following.{AsksOnce}
use Rattle.local_sessions.specs.Replies.{Asks, Deed, Does, Ends, Holds, Nothing, Reply, Writing}
use Rattle.local_sessions.specs.Standing.{at_stage, changed_at, session_in}
use Rattle.local_sessions.proofs.Awaited.{replied as once_replied}
use Rattle.local_sessions.proofs.Calling.{said, sent}
use Rattle.local_sessions.proofs.Replying.{replied}
use Rattle.member_tables.specs.declared.tables.MemberTables.{MemberTables}
use Rattle.member_tables.specs.Calling.{CommitsTo}
use Rattle.member_tables.specs.Standing.{Keeps, TablesFor}
use Rattle.member_tables.proofs.Decided.{rekeyed}
use Rattle.member_tables.proofs.Kept.{keeps_on}
use Rattle.member_tables.proofs.Read.{reads}

abbrev KeepsFor : Member → Tables → Type 0
KeepsFor a at = Keeps a.setup a.me.inc a.life at

-- ---- what a call sends leaves the tables as they are

owned : (w : What) (h : Option Body) (m : Member) (at : Tables) → KeepsFor m at → KeepsFor (own w h m) at
owned w h m at f = keeps_on m.setup m.me.inc m.life at (Made (record { id = next_id m; what = w }) h) refl f

parts : (t : Txn) (ps : List Part) (m : Member) (at : Tables) → KeepsFor m at → KeepsFor (for_each (own_part t) ps m) at
parts t [] m at f = f
parts t (p ∷ ps) m at f = parts t ps (own_part t p m) at (owned (SaysBody (body_bytes (PartOf p))) (Some (elim (p.index == p.count) [ true ↦ Writes t | false ↦ PartOf p ])) m at f)

synced : (v : Level) (m : Member) (at : Tables) → KeepsFor m at → KeepsFor (send_sync v m) at
synced v m at f = go (has_sync v) refl
  where
    go : (b : Bool) → has_sync v ≡ b → KeepsFor (send_sync v m) at
    go true e = rw (send_sync, e) (owned (SaysBody (body_bytes Sync)) (Some Sync) m at f)
    go false e = rw (send_sync, e) f

asked : (s : ℕ) (n : ℕ) (f : Member → Member) (m : Member) (at : Tables) → ((b : Member) → KeepsFor b at → KeepsFor (f b) at) → KeepsFor m at → KeepsFor (ask_commit s n f m) at
asked s n f m at g k =
    let i : ValueId = record { origin = m.me.inc; number = n } in
    let b : Member = push (AsksCommit s i) m in
    keeps_on (f b).setup (f b).me.inc (f b).life at (AnsweredIn s (Sent i)) refl (g b (keeps_on m.setup m.me.inc m.life at (AsksCommit s i) refl k))

sends : (s : ℕ) (t : Txn) (b : List ℕ) (m : Member) (at : Tables) → KeepsFor m at → KeepsFor (send_txn s t b m) at
sends s t b m at k = go (nat_le (length b) whole_bytes) refl
  where
    go : (z : Bool) → nat_le (length b) whole_bytes ≡ z → KeepsFor (send_txn s t b m) at
    go true e = rw (send_txn, e) (asked s (last_made m.life + 1) (own (SaysBody b) (Some (Writes t))) m at (λ x h. owned (SaysBody b) (Some (Writes t)) x at h) k)
    go false e = rw (send_txn, e) (asked s (last_made m.life + length (cut b)) (for_each (own_part t) (cut b)) m at (λ x h. parts t (cut b) x at h) k)

holds_call : (s : ℕ) (r : Request) (a : Member) (at : Tables) → KeepsFor a at → KeepsFor (held_by s r a) at
holds_call s (Begin v w) a at f = synced v (push (Called s v w) a) at (keeps_on a.setup a.me.inc a.life at (Called s v w) refl f)
holds_call s (Get i) a at f = f
holds_call s (Insert i x) a at f = f
holds_call s (Update i x) a at f = f
holds_call s (Delete i) a at f = f
holds_call s Commit a at f = f
holds_call s Rollback a at f = f

does : (s : ℕ) (r : Request) (w : CommitStep) (d : Deed) (a : Member) (at : Tables) → KeepsFor a at → KeepsFor (done_by s r w d a) at
does s r (Ready b) d a at f = sends s (txn_in s a) b a at f
does s r (Said x) Nothing a at f = keeps_on a.setup a.me.inc a.life at (AnsweredIn s x) refl f
does s r (Said x) Ends a at f = keeps_on a.setup a.me.inc (AnsweredIn s x ∷ a.life) at (EndsIn s) refl (keeps_on a.setup a.me.inc a.life at (AnsweredIn s x) refl f)
does s r (Said x) (Holds after was) a at f = holds_call s r a at f
does s r (Said x) (Writing c) a at f = keeps_on a.setup a.me.inc a.life at (Changed s c) refl f
does s r (Said x) Asks a at f = f

-- ---- a call

module _ (a : Member) (x : MemberTables) (s : ℕ) (r : Request) (f : TablesFor a x) where
  abbrev q : Reply
  q = reply_to x.tables (session_in x.sessions s) r

  pub is_reply : call s r a ≡ after_reply s r (reply_to x.tables (session_in x.sessions s) r) a
  is_reply = replied x.sessions x.tables a s r f.sessions f.left (reads a x f)

  keeps : (new : List Session) (now : Tables) → Does q.deed s x.sessions new x.tables now → KeepsFor (call s r a) now
  keeps new now d = rekeyed (call s r a).setup (call s r a).me.inc (call s r a).life x.tables now d.tables (subst (λ (m : Member). KeepsFor m x.tables) (sym is_reply) (does s r q.answer q.deed a x.tables f.tables))

  once : AsksOnce (call s r a).life
  once = subst (λ (m : Member). AsksOnce m.life) (sym is_reply) (once_replied s r q a f.once)

  pub answers : (y : MemberTables) (w : Answer) → q.answer ≡ Said w → Does q.deed s x.sessions y.sessions x.tables y.tables → TablesFor (call s r a) y
  answers y w e d =
      let k = said x.sessions y.sessions x.tables y.tables a s r f.sessions f.left (reads a x f) w e d in
      record { tables = keeps y.sessions y.tables d; locks = k.1; sessions = k.0; left = k.2; once = once }

  pub sends_body : (y : MemberTables) (b : List ℕ) → q.answer ≡ Ready b → Does q.deed s x.sessions y.sessions x.tables y.tables
      → TablesFor (call s r a) (record y { sessions = changed_at s (at_stage (Asking (sent_as b a))) y.sessions })
  sends_body y b e d =
      let k = sent x.sessions y.sessions x.tables y.tables a s r f.sessions f.left (reads a x f) b e d in
      record { tables = keeps y.sessions y.tables d; locks = k.1; sessions = k.0; left = k.2; once = once }

-- ---- by its result

pub by_answer : (x y : MemberTables) (s : ℕ) (r : Request) (o : Result Answer Memory) → IfOk o (λ w. (reply_to x.tables (session_in x.sessions s) r).answer ≡ Said w)
    → OnOk o (Does (reply_to x.tables (session_in x.sessions s) r).deed s x.sessions y.sessions x.tables y.tables) → OnOk o ((a : Member) → TablesFor a x → TablesFor (call s r a) y)
by_answer x y s r (Ok w) e d = λ a f. answers a x s r f y w e d
by_answer x y s r (Err m) e d = tt

pub by_step : (x y : MemberTables) (s : ℕ) (o : Result CommitStep Memory) → IfOk o (λ w. (reply_to x.tables (session_in x.sessions s) Commit).answer ≡ w)
    → OnOk o (Does (reply_to x.tables (session_in x.sessions s) Commit).deed s x.sessions y.sessions x.tables y.tables) → IfOk o (λ w. (a : Member) → TablesFor a x → CommitsTo w s a y)
by_step x y s (Ok (Said w)) e d = λ a f. answers a x s Commit f y w e d
by_step x y s (Ok (Ready b)) e d = λ a f. sends_body a x s Commit f y b e d
by_step x y s (Err m) e d = tt
