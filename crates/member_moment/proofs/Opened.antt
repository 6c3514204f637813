-- A begin that is called.
use Rattle.std.proofs.Common.{◌≡◌, ◌∷◌, ℕ, Bool, true, false, Option, Ok, Err, refl, sym, subst, ap, ◌∙◌}
use Rattle.std.specs.Prelude.{OnOk, Result, is_some}
use Rattle.std.proofs.lemmas.List.{append-nil}
use Rattle.gr_ids.specs.declared.levels.Level.{Level}
use Rattle.gr_ids.specs.declared.levels.MemberState.{MemberState}
use Rattle.gr_ids.specs.declared.memory.Memory.{Memory}
use Rattle.gr_ids.specs.declared.names.Inc.{Inc}
use Rattle.slot_values.specs.declared.value.Joiner.{Joiner}
use Rattle.txn_forms.specs.declared.body.Body.TheVariants.{Sync}
use Rattle.group_rules.specs.declared.answers.Answer.{Answer}
use Rattle.group_rules.specs.declared.answers.Answer.TheVariants.{Held}
use Rattle.group_rules.specs.declared.requests.Request.TheVariants.{Begin}
use Rattle.group_rules.specs.Calls.{call, send_sync}
use Rattle.group_rules.specs.Events.{Called, Life, Setup}
use Rattle.group_rules.specs.Holds.{conditions, has_sync, sync_then}
use Rattle.group_rules.specs.declared.holds.Conditions.{Conditions}
use Rattle.group_rules.specs.Life.{last_made, online_place, state as state_of}
use Rattle.group_rules.specs.Member.{Member, own_body, push}
use Rattle.group_rules.specs.Sessions.{is_holding, phase}
use Rattle.local_sessions.specs.declared.commit_step.CommitStep.TheVariants.{Said}
use Rattle.local_sessions.specs.Acting.{done_by, reply_to}
use Rattle.local_sessions.specs.Replies.{Reply}
use Rattle.local_sessions.specs.Standing.{session_in}
use Rattle.local_sessions.specs.Telling.{is_last}
use Rattle.local_sessions.proofs.Telling.{tells_begun, tells_held}
use Rattle.member_parts.specs.declared.parts.MemberParts.{MemberParts}
use Rattle.member_parts.specs.Standing.{StandsFor}
use Rattle.member_tables.specs.declared.tables.MemberTables.{MemberTables}
use Rattle.member_tables.specs.Standing.{TablesFor}
use Rattle.member_tables.proofs.Called.{is_reply}
use Rattle.member_moment.specs.declared.moment.Moment.{Moment}
use Rattle.member_moment.specs.Doing.{Does}
use Rattle.member_moment.specs.Standing.{RestFor, Stands}
use Rattle.member_moment.proofs.Aside.{aside_of, other_tables, passed, rest_of}
use Rattle.member_moment.proofs.Called.{Answers, does_said}

-- what its conditions are known from
abbrev pub Knows : Moment → Level → MemberState → ℕ → Option ℕ → Conditions → Type 0
Knows x v state last online c = (s : Setup) (l : Life) → state ≡ state_of l → last ≡ last_made l → online ≡ online_place l x.me.inc → StandsFor s x.me.inc l x.parts → c ≡ conditions s x.me.inc v l

-- the parts hold it
abbrev pub HeldIn : Moment → MemberParts → ℕ → ℕ → Conditions → Type 0
HeldIn x p s n c = (g : Setup) (me : Inc) (l : Life) (v : Level) → c ≡ conditions g me v l → is_holding (phase l s) ≡ false → StandsFor g me l x.parts → StandsFor g me (Called s v n ∷ l) p

-- the begin is called, and its Sync is still to be sent where it has one
record IsCalled (base : Life) (a : Member) (x : Moment) (s : ℕ) (v : Level) (n : ℕ) (b : Bool) : Type 0 where
  rest : RestFor base (push (Called s v n) a) x
  syncs : has_sync v ≡ b

-- a Sync is among its conditions where it has one
sync_told : (me : Inc) (v : Level) (l : Life) → has_sync v ≡ is_some (sync_then me v l)
sync_told me v l = go (has_sync v) refl
  where
    go : (z : Bool) → has_sync v ≡ z → has_sync v ≡ is_some (sync_then me v l)
    go true h = rw (sync_then, h) refl
    go false h = rw (sync_then, h) refl

is_called : (base : Life) (a : Member) (x : Moment) (p : MemberParts) (s : ℕ) (v : Level) (n : ℕ) (state : MemberState) (last : ℕ) (online : Option ℕ) (c : Conditions) → Knows x v state last online c → HeldIn x p s n c
    → last ≡ x.own.made → online ≡ x.own.online → state ≡ state_of a.life → is_holding (phase a.life s) ≡ false → RestFor base a x → IsCalled base a (record x { parts = p }) s v n (is_some c.sync)
is_called base a x p s v n state last online c known held e f g free r =
    let me : x.me.inc ≡ a.me.inc = ap (λ (j : Joiner). j.inc) r.me in
    let place : online ≡ online_place a.life x.me.inc = f ∙ (r.own.place ∙ ap (online_place a.life) (sym me)) in
    let mine : StandsFor a.setup x.me.inc a.life x.parts = subst (λ i. StandsFor a.setup i a.life x.parts) (sym me) r.parts in
    let are : c ≡ conditions a.setup x.me.inc v a.life = known a.setup a.life g (e ∙ r.own.number) place mine in
    let parts : StandsFor a.setup a.me.inc (Called s v n ∷ a.life) p = subst (λ i. StandsFor a.setup i (Called s v n ∷ a.life) p) me (held a.setup x.me.inc a.life v are free mine) in
    let y : Moment = record x { parts = p } in
    record {
      rest = rest_of base (push (Called s v n) a) y (passed base a x y refl (Called s v n) (sym (append-nil x.marks.items)) (record { own = refl; ranged = tt; committed = refl }) refl refl (aside_of base a x r)) parts;
      syncs = sync_told x.me.inc v a.life ∙ sym (ap (λ (d : Conditions). is_some d.sync) are);
    }

-- what becomes of the rest
abbrev pub Opens : Moment → Moment → ℕ → Level → ℕ → MemberState → Type 0
Opens x z s v n state = (base : Life) (a : Member) → state ≡ state_of a.life → is_holding (phase a.life s) ≡ false → RestFor base a x → RestFor base (send_sync v (push (Called s v n) a)) z

pub opens_synced : (x z : Moment) (p : MemberParts) (s : ℕ) (v : Level) (n : ℕ) (state : MemberState) (last : ℕ) (online : Option ℕ) (c : Conditions) → Knows x v state last online c → HeldIn x p s n c
    → last ≡ x.own.made → online ≡ x.own.online → is_some c.sync ≡ true → ((base : Life) (a : Member) → RestFor base a (record x { parts = p }) → RestFor base (own_body Sync a) z) → Opens x z s v n state
opens_synced x z p s v n state last online c known held e f b k = λ base a g free r.
    let h : IsCalled base a (record x { parts = p }) s v n (is_some c.sync) = is_called base a x p s v n state last online c known held e f g free r in
    let syncs : has_sync v ≡ true = h.syncs ∙ b in
    rw (send_sync, syncs) (k base (push (Called s v n) a) h.rest)

pub opens_unsynced : (x : Moment) (p : MemberParts) (s : ℕ) (v : Level) (n : ℕ) (state : MemberState) (last : ℕ) (online : Option ℕ) (c : Conditions) → Knows x v state last online c → HeldIn x p s n c
    → last ≡ x.own.made → online ≡ x.own.online → is_some c.sync ≡ false → Opens x (record x { parts = p }) s v n state
opens_unsynced x p s v n state last online c known held e f b = λ base a g free r.
    let h : IsCalled base a (record x { parts = p }) s v n (is_some c.sync) = is_called base a x p s v n state last online c known held e f g free r in
    let syncs : has_sync v ≡ false = h.syncs ∙ b in
    rw (send_sync, syncs) h.rest

-- ---- a begin

-- it is held
does_hold : (x z : Moment) (t : MemberTables) (s : ℕ) (v : Level) (n : ℕ) (state : MemberState) → ((base : Life) (a : Member) → Stands base a x → state ≡ state_of a.life)
    → (reply_to x.tables.tables (session_in x.tables.sessions s) (Begin v n)).answer ≡ Said Held → ((a : Member) → TablesFor a x.tables → TablesFor (call s (Begin v n) a) t)
    → Opens (record x { tables = t }) z s v n state → z.tables ≡ t → Does (call s (Begin v n)) x z
does_hold x z t s v n state in_state e g f k = λ base a p st.
    let q : Reply = reply_to x.tables.tables (session_in x.tables.sessions s) (Begin v n) in
    let told = tells_held x.tables.sessions x.tables.tables a.life s v n st.tables.sessions e in
    let is : call s (Begin v n) a ≡ send_sync v (push (Called s v n) a) =
    is_reply a x.tables s (Begin v n) st.tables ∙ (ap (λ w. done_by s (Begin v n) w q.deed a) e ∙ ap (λ d. done_by s (Begin v n) (Said Held) d a) told.1) in
    record {
      rest = subst (λ b. RestFor base b z) (sym is) (f base a (in_state base a st) told.0 (other_tables base a x t st.rest));
      tables = subst (λ u. TablesFor (call s (Begin v n) a) u) (sym k) (g a st.tables);
    }

pub does_open : (x z : Moment) (t : MemberTables) (s : ℕ) (v : Level) (n : ℕ) (state : MemberState) (o : Result (Unit {0}) Memory) → ((base : Life) (a : Member) → Stands base a x → state ≡ state_of a.life)
    → (reply_to x.tables.tables (session_in x.tables.sessions s) (Begin v n)).answer ≡ Said Held → ((a : Member) → TablesFor a x.tables → TablesFor (call s (Begin v n) a) t)
    → OnOk o (Opens (record x { tables = t }) z s v n state) → OnOk o (z.tables ≡ t) → OnOk o (Does (call s (Begin v n)) x z)
does_open x z t s v n state (Ok u) in_state e g f k = does_hold x z t s v n state in_state e g f k
does_open x z t s v n state (Err m) in_state e g f k = tt

-- it isn't
does_refuse : (x y : Moment) (t : MemberTables) (s : ℕ) (v : Level) (n : ℕ) (w : Answer) → (w ≡ Held → ⊥)
    → (reply_to x.tables.tables (session_in x.tables.sessions s) (Begin v n)).answer ≡ Said w → ((a : Member) → TablesFor a x.tables → TablesFor (call s (Begin v n) a) t)
    → Answers s (is_last w) w (record x { tables = t }) y → y.tables ≡ t → Does (call s (Begin v n)) x y
does_refuse x y t s v n w other e g h k =
    does_said x y t s (Begin v n) w (is_last w) (tells_begun x.tables.tables (session_in x.tables.sessions s) v n w other e) e g h k

pub does_answer_begin : (x y : Moment) (t : MemberTables) (s : ℕ) (v : Level) (n : ℕ) (w : Answer) (b : Bool) (o : Result (Unit {0}) Memory) → (w ≡ Held → ⊥) → b ≡ is_last w
    → (reply_to x.tables.tables (session_in x.tables.sessions s) (Begin v n)).answer ≡ Said w → ((a : Member) → TablesFor a x.tables → TablesFor (call s (Begin v n) a) t)
    → OnOk o (Answers s b w (record x { tables = t }) y) → OnOk o (y.tables ≡ t) → OnOk o (Does (call s (Begin v n)) x y)
does_answer_begin x y t s v n w b (Ok u) other z e g h k = does_refuse x y t s v n w other e g (subst (λ i. Answers s i w (record x { tables = t }) y) z h) k
does_answer_begin x y t s v n w b (Err m) other z e g h k = tt
