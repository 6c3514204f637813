-- A call that is answered.
use Rattle.std.proofs.Common.{◌≡◌, ℕ, Bool, false, Ok, Err, sym, subst, ap, ◌∙◌}
use Rattle.std.specs.Prelude.{OnOk, Result}
use Rattle.gr_ids.specs.declared.memory.Memory.{Memory}
use Rattle.group_rules.specs.declared.answers.Answer.{Answer}
use Rattle.group_rules.specs.declared.requests.Request.{Request}
use Rattle.group_rules.specs.Calls.{call}
use Rattle.group_rules.specs.Events.{Life}
use Rattle.group_rules.specs.Member.{Member}
use Rattle.local_sessions.specs.declared.commit_step.CommitStep.TheVariants.{Said}
use Rattle.local_sessions.specs.Acting.{done_by, reply_to}
use Rattle.local_sessions.specs.Replies.{Deed, Reply}
use Rattle.local_sessions.specs.Standing.{session_in}
use Rattle.member_tables.specs.declared.tables.MemberTables.{MemberTables}
use Rattle.member_tables.specs.Standing.{TablesFor}
use Rattle.member_tables.proofs.Called.{is_reply}
use Rattle.member_moment.specs.declared.moment.Moment.{Moment}
use Rattle.local_sessions.specs.Telling.{Fits, ends_by, is_begin}
use Rattle.member_moment.specs.Doing.{Does}
use Rattle.member_moment.specs.Standing.{RestFor}
use Rattle.member_moment.proofs.Aside.{other_tables}
use Rattle.local_sessions.proofs.Telling.{tells}

-- what a call is answered, as the rest knows it
abbrev pub Answers : ℕ → Bool → Answer → Moment → Moment → Type 0
Answers s b w x y = (base : Life) (a : Member) (r : Request) (d : Deed) → Fits b w d → RestFor base a x → RestFor base (done_by s r (Said w) d a) y

-- the tables know the call, then it is answered
pub does_said : (x y : Moment) (t : MemberTables) (s : ℕ) (r : Request) (w : Answer) (b : Bool) → Fits b w (reply_to x.tables.tables (session_in x.tables.sessions s) r).deed
    → (reply_to x.tables.tables (session_in x.tables.sessions s) r).answer ≡ Said w
    → ((a : Member) → TablesFor a x.tables → TablesFor (call s r a) t)
    → Answers s b w (record x { tables = t }) y → y.tables ≡ t
    → Does (call s r) x y
does_said x y t s r w b n e g h k = λ base a p st.
    let q : Reply = reply_to x.tables.tables (session_in x.tables.sessions s) r in
    let is : call s r a ≡ done_by s r (Said w) q.deed a = is_reply a x.tables s r st.tables ∙ ap (λ z. done_by s r z q.deed a) e in
    record {
      rest = subst (λ b. RestFor base b y) (sym is) (h base a r q.deed n (other_tables base a x t st.rest));
      tables = subst (λ z. TablesFor (call s r a) z) (sym k) (g a st.tables);
    }

pub does_call : (x y : Moment) (t : MemberTables) (s : ℕ) (r : Request) (w : Answer) (b : Bool) (o : Result (Unit {0}) Memory) → is_begin r ≡ false
    → b ≡ ends_by r w
    → (reply_to x.tables.tables (session_in x.tables.sessions s) r).answer ≡ Said w
    → ((a : Member) → TablesFor a x.tables → TablesFor (call s r a) t)
    → OnOk o (Answers s b w (record x { tables = t }) y) → OnOk o (y.tables ≡ t)
    → OnOk o (Does (call s r) x y)
does_call x y t s r w b (Ok u) n z e g h k =
    does_said x y t s r w (ends_by r w) (tells x.tables.tables (session_in x.tables.sessions s) r w n e) e g (subst (λ v. Answers s v w (record x { tables = t }) y) z h) k
does_call x y t s r w b (Err m) n z e g h k = tt
