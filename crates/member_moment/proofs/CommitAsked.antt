-- A commit that is asked, and its transaction sent.
use Rattle.std.proofs.Common.{◌≡◌, ◌++◌, ◌∷◌, ◌+◌, ℕ, Bool, true, false, Some, List, [], length, Ok, Err, refl, sym, subst, ap, ◌∙◌, arith}
use Rattle.std.proofs.lemmas.List.{append-nil}
use Rattle.std.specs.Prelude.{OnOk, Result, nat_le}
use Rattle.gr_ids.specs.declared.memory.Memory.{Memory}
use Rattle.gr_ids.specs.declared.names.Inc.{Inc}
use Rattle.gr_ids.specs.declared.names.ValueId.{ValueId}
use Rattle.slot_values.specs.declared.value.Joiner.{Joiner}
use Rattle.slot_values.specs.declared.value.What.TheVariants.{Body as Says}
use Rattle.txn_forms.specs.declared.body.Body.TheVariants.{Txn as Writes}
use Rattle.txn_forms.specs.declared.body.Txn.{Txn}
use Rattle.txn_forms.specs.Parts.{whole_bytes}
use Rattle.group_rules.specs.declared.answers.Answer.{Answer}
use Rattle.group_rules.specs.declared.answers.Answer.TheVariants.{Sent}
use Rattle.group_rules.specs.declared.marks.Mark.TheVariants.{Answered as AnsweredMark}
use Rattle.group_rules.specs.declared.requests.Request.TheVariants.{Commit}
use Rattle.group_rules.specs.Calls.{ask_commit, call, own_part, send_parts, send_txn, txn_of}
use Rattle.group_rules.specs.Events.{Answered, AsksCommit, Life}
use Rattle.group_rules.specs.Life.{last_made}
use Rattle.group_rules.specs.Member.{Member, answer, for_each, own, push}
use Rattle.group_rules.specs.Parts.{cut}
use Rattle.group_rules.specs.Sessions.{is_holding, phase}
use Rattle.local_sessions.specs.declared.commit_step.CommitStep.TheVariants.{Ready}
use Rattle.local_sessions.specs.Acting.{done_by, reply_to, sent_as}
use Rattle.local_sessions.specs.Replies.{Reply}
use Rattle.local_sessions.specs.Standing.{session_in}
use Rattle.local_sessions.proofs.Awaited.{last_part}
use Rattle.member_parts.proofs.Passed.{asked as parts_asked}
use Rattle.member_tables.specs.declared.tables.MemberTables.{MemberTables}
use Rattle.member_tables.specs.Calling.{IsSendable, OnceSent}
use Rattle.member_tables.specs.Standing.{TablesFor}
use Rattle.member_tables.proofs.Called.{is_reply}
use Rattle.member_truth.specs.Ranged.{IsSpelt}
use Rattle.member_moment.specs.declared.moment.Moment.{Moment}
use Rattle.member_moment.specs.Calling.{sends_body}
use Rattle.member_moment.specs.Doing.{Does}
use Rattle.member_moment.specs.Standing.{RestFor}
use Rattle.member_moment.proofs.Aside.{aside_of, other_tables, passed, rest_of}
use Rattle.member_moment.proofs.Pushed.{rest_said}
use Rattle.member_moment.proofs.Sending.{Keeps, SendsBody}

-- the commit is asked as the last of the values that are made next, by whether the body is sent whole
module _ (s : ℕ) (t : Txn) (b : List ℕ) (a : Member) where
  abbrev id_by : Bool → ValueId
  id_by z = record { origin = a.me.inc; number = last_made a.life + (elim z [ true ↦ 1 | false ↦ length (cut b) ]) }

  abbrev sends_by : Bool → Member → Member
  sends_by z c = elim z [ true ↦ own (Says b) (Some (Writes t)) c | false ↦ for_each (own_part t) (cut b) c ]

  abbrev txn_by : Bool → Member
  txn_by z = elim z [ true ↦ ask_commit s (last_made a.life + 1) (own (Says b) (Some (Writes t))) a | false ↦ send_parts s t (cut b) a ]

  last_by : (z : Bool) → last_made (sends_by z (push (AsksCommit s (id_by z)) a)).life ≡ (id_by z).number
  last_by true = omega arith
  last_by false = last_part t (cut b) (push (AsksCommit s (id_by false)) a)

  sent_by : (z : Bool) → txn_by z ≡ answer s (Sent (id_by z)) (sends_by z (push (AsksCommit s (id_by z)) a))
  sent_by true = refl
  sent_by false = refl

  last_sent : last_made (sends_body t b (push (AsksCommit s (sent_as b a)) a)).life ≡ (sent_as b a).number
  last_sent = last_by (nat_le (length b) whole_bytes)

  is_sent : send_txn s t b a ≡ answer s (Sent (sent_as b a)) (sends_body t b (push (AsksCommit s (sent_as b a)) a))
  is_sent = sent_by (nat_le (length b) whole_bytes)

-- what becomes of the rest and of the tables
abbrev pub SendsTxn : ℕ → List ℕ → Moment → Moment → Type 0
SendsTxn s b x z = (base : Life) (a : Member) (t : Txn) → IsSpelt (Some (Writes t)) → is_holding (phase a.life s) ≡ false → RestFor base a x → OnceSent s b a x.tables
    → RestFor base (send_txn s t b a) z × TablesFor (call s Commit a) z.tables

pub txn_is_sent : (x y z : Moment) (s : ℕ) (b : List ℕ) (n : ℕ) (w : Answer) → SendsBody b x y → Keeps x y → n ≡ y.own.made → w ≡ Sent (record { origin = y.me.inc; number = n })
    → ((a : Member) (c : List ℕ) → record { origin = y.me.inc; number = n } ≡ sent_as c a → OnceSent s c a y.tables → TablesFor (call s Commit a) z.tables)
    → z ≡ record y { tables = z.tables; marks = z.marks } → z.marks.items ≡ y.marks.items ++ AnsweredMark s w ∷ [] → SendsTxn s b x z
txn_is_sent x y z s b n w f keeps e g h same m = λ base a t k q r o.
    let j : ValueId = sent_as b a in
    let asks : RestFor base (push (AsksCommit s j) a) x =
    rest_of base (push (AsksCommit s j) a) x
    (passed base a x x refl (AsksCommit s j) (sym (append-nil x.marks.items)) (record { own = refl; ranged = tt; committed = refl }) refl refl (aside_of base a x r))
    (parts_asked a.setup a.me.inc a.life s j x.parts q r.parts) in
    let sends : RestFor base (sends_body t b (push (AsksCommit s j) a)) y = f base (push (AsksCommit s j) a) t k asks in
    let me : y.me ≡ a.me = ap (λ (v : Moment). v.me) keeps ∙ r.me in
    let named : Inc → ℕ → ValueId = λ o k. record { origin = o; number = k } in
    let id : named y.me.inc n ≡ j = ap (λ o. named o n) (ap (λ (v : Joiner). v.inc) me) ∙ ap (named a.me.inc) (e ∙ (sends.own.number ∙ last_sent s t b a)) in
    let mark : z.marks.items ≡ y.marks.items ++ AnsweredMark s (Sent j) ∷ [] = m ∙ (ap (λ v. y.marks.items ++ AnsweredMark s v ∷ []) (g ∙ ap Sent id)) in
    let tables : y.tables ≡ x.tables = ap (λ (v : Moment). v.tables) keeps in (
      subst (λ c. RestFor base c z) (sym (is_sent s t b a))
          (rest_said base (sends_body t b (push (AsksCommit s j) a)) (record y { tables = z.tables }) (Answered s (Sent j)) z same mark
          (record { parts = refl; own = refl; joining = refl; range = refl; ranged = tt; committed = refl }) (other_tables base (sends_body t b (push (AsksCommit s j) a)) y z.tables sends)),
      h a b id (subst (λ u. OnceSent s b a u) (sym tables) o),
    )

-- ---- a commit that hands out a body

does_send : (x z : Moment) (t : MemberTables) (s : ℕ) (b : List ℕ) → (reply_to x.tables.tables (session_in x.tables.sessions s) Commit).answer ≡ Ready b
    → ((a : Member) → TablesFor a x.tables → OnceSent s b a t) → ((a : Member) → TablesFor a x.tables → IsSendable (Ready b) s a) → SendsTxn s b (record x { tables = t }) z → Does (call s Commit) x z
does_send x z t s b e once spelt f = λ base a p st.
    let q : Reply = reply_to x.tables.tables (session_in x.tables.sessions s) Commit in
    let is : call s Commit a ≡ send_txn s (txn_of s a) b a = is_reply a x.tables s Commit st.tables ∙ ap (λ w. done_by s Commit w q.deed a) e in
    let k = spelt a st.tables in
    let both = f base a (txn_of s a) k.1.1 k.1.0 (other_tables base a x t st.rest) (once a st.tables) in
    record { rest = subst (λ c. RestFor base c z) (sym is) both.0; tables = both.1 }

pub does_commit : (x z : Moment) (t : MemberTables) (s : ℕ) (b : List ℕ) (o : Result (Unit {0}) Memory) → (reply_to x.tables.tables (session_in x.tables.sessions s) Commit).answer ≡ Ready b
    → ((a : Member) → TablesFor a x.tables → OnceSent s b a t) → ((a : Member) → TablesFor a x.tables → IsSendable (Ready b) s a) → OnOk o (SendsTxn s b (record x { tables = t }) z)
    → OnOk o (Does (call s Commit) x z)
does_commit x z t s b (Ok u) e once spelt f = does_send x z t s b e once spelt f
does_commit x z t s b (Err m) e once spelt f = tt
