-- What a call, a point and the slots leave: nothing comes, and only a call begins.
use Rattle.std.proofs.Common.{append_assoc, ◌≡◌, ℕ, zero, suc, ◌^◌, Bool, true, false, Option, Some, None, List, [], ◌∷◌, ◌++◌, refl, sym, ap, ◌∙◌}
use Rattle.gr_ids.specs.declared.names.Inc.{Inc}
use Rattle.gr_ids.specs.declared.names.Gtid.{Gtid}
use Rattle.gr_ids.specs.declared.names.ValueId.{ValueId}
use Rattle.gr_ids.specs.Names.{id_eq}
use Rattle.gr_ids.specs.declared.levels.Level.{Level}
use Rattle.gr_ids.specs.declared.levels.MemberState.TheVariants.{Error}
use Rattle.key_items.specs.declared.change.Change.{Change}
use Rattle.key_items.specs.declared.change.ChangeKind.TheVariants.{Insert as Inserts, Update as Updates, Delete as Deletes}
use Rattle.slot_values.specs.declared.value.Value.{Value}
use Rattle.slot_values.specs.declared.value.What.{What}
use Rattle.slot_values.specs.declared.value.What.TheVariants.{Noop, Add, Remove, Body as Says}
use Rattle.slot_values.specs.declared.kept.Kept.{Kept}
use Rattle.slot_values.specs.declared.kept.Kept.TheVariants.{At as KeptAt, Skipped as IsSkipped}
use Rattle.slot_values.specs.Log.{Turns}
use Rattle.txn_forms.specs.Bodies.{body_bytes}
use Rattle.txn_forms.specs.declared.body.Body.{Body}
use Rattle.txn_forms.specs.declared.body.Body.TheVariants.{Txn as Writes, Prepared, Sync, Executed, Online as Arrives, Mode as Switches, Primary as Appoints, Part as PartOf}
use Rattle.txn_forms.specs.declared.body.Part.{Part}
use Rattle.std.specs.Prelude.{◌==◌, ◌&&◌, ◌||◌}
use Rattle.member_core.specs.Acting.{caller_of, hold_by}
use Rattle.txn_forms.specs.declared.body.Txn.{Txn}
use Rattle.paxos_forms.specs.declared.message.Message.{Message}
use Rattle.node_rules.specs.Node.{Node, Effect}
use Rattle.node_rules.specs.Step.{node_step}
use Rattle.node_rules.specs.declared.event.PaxosEvent.TheVariants.{Propose}
use Rattle.node_rules.specs.declared.taken.Taken.{Taken}
use Rattle.node_rules.specs.Taking.{take}
use Rattle.group_rules.specs.declared.requests.Request.{Request}
use Rattle.group_rules.specs.declared.requests.Request.TheVariants.{Begin, Get, Insert, Update, Delete, Commit, Rollback}
use Rattle.group_rules.specs.declared.answers.Holder.{Holder}
use Rattle.group_rules.specs.declared.answers.Answer.{Answer}
use Rattle.group_rules.specs.declared.answers.Answer.TheVariants.{Conflict as ConflictWith, Held, MemberLeft, NotOnline}
use Rattle.group_rules.specs.declared.marks.Cause.{Cause}
use Rattle.group_rules.specs.declared.marks.Effect.{Effect as Outcome}
use Rattle.group_rules.specs.declared.marks.Effect.TheVariants.{Positive, Conflict, Plain, Void, Unread}
use Rattle.group_rules.specs.Events.{Answered, Begun, Changed, Ends, Founds, Made, Restores, Skips, Starts, Did, Done, Enters, Came, Called, AsksCommit, Gave, AskFails, Replied, Took, Is, Committed, Event, Hears, Ticks, Works, Calls, Operates, Cert, Entry, Life}
use Rattle.group_rules.specs.Life.{is_error, is_up, state}
use Rattle.group_rules.specs.Member.{Member, push, by_node, own, answer, last_answer, for_each, leave_session, fall, unanswered, waiting_as}
use Rattle.group_rules.specs.Queue.{is_own, pending}
use Rattle.group_rules.specs.Sessions.{is_holding, Phase, Free, Holding, Active, Asking, phase, sessions, Call, last_call}
use Rattle.group_rules.specs.Keys.{holder}
use Rattle.group_rules.specs.Parts.{cut}
use Rattle.group_rules.specs.Calls.{is_read_only, read_only, state_then, txn_of, begin, send_sync, change_row, unless_locked, statement, own_part, ask_commit, send_txn, commit_bytes, commit_changes, in_transaction, without_transaction, by_phase, unless_killed, call}
use Rattle.group_rules.specs.Welcomes.{greet, greet_by}
use Rattle.group_rules.specs.Points.{answer_commit, answer_own, commit_one, commit_all, prepare_one, prepare_all, begin_by, begin_one, begin_all, unless_pending, arrive, point}
use Rattle.group_rules.specs.Taking.{answer_conflict, on_conflict, on_plain, causes, take_kept, entry_of, take_slot, next_slot, take_slots, propose, rounds, settle_slots}
use Rattle.group_rules.specs.Steps.{act, called_now, held_mark}

-- nothing comes, and a begin is called only where it may be
abbrev IsQuiet : Bool → Did → Type 0
IsQuiet q (Came e) = ⊥
IsQuiet q (Called s v w) = q ≡ true
IsQuiet q d = Unit {0}

abbrev AreQuiet : Bool → Life → Type 0
AreQuiet q [] = Unit {0}
AreQuiet q (d ∷ l) = IsQuiet q d × AreQuiet q l

record Adds (q : Bool) (a b : Member) : Type 0 where
  pub more : Life
  pub is_it : b.life ≡ more ++ a.life
  pub quiet : AreQuiet q more

both_quiet : (q : Bool) (x y : Life) → AreQuiet q x → AreQuiet q y → AreQuiet q (x ++ y)
both_quiet q [] y p r = r
both_quiet q (d ∷ x) y p r = (p.0, both_quiet q x y p.1 r)

stays : {q : Bool} → (a : Member) → Adds q a a
stays a = record { more = []; is_it = refl; quiet = tt }

then : {q : Bool} {a b c : Member} → Adds q a b → Adds q b c → Adds q a c
then {q = q} {a = a} p r = record { more = r.more ++ p.more; is_it = r.is_it ∙ (ap (λ z. r.more ++ z) p.is_it ∙ sym (append_assoc r.more p.more a.life)); quiet = both_quiet q r.more p.more r.quiet p.quiet }

pushes : {q : Bool} → (d : Did) (a : Member) → IsQuiet q d → Adds q a (push d a)
pushes d a p = record { more = d ∷ []; is_it = refl; quiet = (p, tt) }

-- what changes the node and the messages alone
by_act : {q : Bool} → (f : Node → Effect) (a : Member) → Adds q a (by_node f a)
by_act f a = record { more = []; is_it = refl; quiet = tt }

sends : {q : Bool} → (ms : List Message) (a : Member) → Adds q a (record a { sent = ms })
sends ms a = record { more = []; is_it = refl; quiet = tt }

either : {q : Bool} {a x y : Member} → (b : Bool) → Adds q a x → Adds q a y → Adds q a (elim b [ true ↦ x | false ↦ y ])
either true p r = p
either false p r = r

unless : {q : Bool} {a x y : Member} → (b : Bool) → Adds q a x → Adds q a y → Adds q a (elim b [ false ↦ x | true ↦ y ])
unless false p r = p
unless true p r = r

each : {q : Bool} {A : Type 0} → (f : A → Member → Member) → ((x : A) (a : Member) → Adds q a (f x a)) → (xs : List A) (a : Member) → Adds q a (for_each f xs a)
each f h [] a = stays a
each f h (x ∷ xs) a = then (h x a) (each f h xs (f x a))

-- ---- small acts

owns : {q : Bool} → (w : What) (holds : Option Body) (a : Member) → Adds q a (own w holds a)
owns w holds a = record { more = _ ∷ []; is_it = refl; quiet = (tt, tt) }

answers : {q : Bool} → (s : ℕ) (x : Answer) (a : Member) → Adds q a (answer s x a)
answers s x a = pushes _ a tt

answers_last : {q : Bool} → (s : ℕ) (x : Answer) (a : Member) → Adds q a (last_answer s x a)
answers_last s x a = record { more = _ ∷ _ ∷ []; is_it = refl; quiet = (tt, (tt, tt)) }

leaves : {q : Bool} → (s : ℕ) (a : Member) → Adds q a (leave_session s a)
leaves {q = q} s a = go (phase a.life s)
  where
    go : (p : Phase) → Adds q a (elim p [ Free ↦ a | Holding ↦ last_answer s MemberLeft a | Active ↦ a | Asking i ↦ last_answer s (unanswered i (waiting_as (pending a.life) i)) a ])
    go Free = stays a
    go Holding = answers_last s _ a
    go Active = stays a
    go (Asking i) = answers_last s _ a

falls : {q : Bool} → (c : Cause) (a : Member) → Adds q a (fall c a)
falls c a = then (pushes (Is Error c) a tt) (each leave_session leaves (sessions (push (Is Error c) a).life) (push (Is Error c) a))

-- ---- session calls

syncs : {q : Bool} → (v : Level) (a : Member) → Adds q a (send_sync v a)
syncs v a = either _ (owns _ _ a) (stays a)

begins : (s : ℕ) (v : Level) (w : ℕ) (a : Member) → Adds true a (begin s v w a)
begins s v w a = either _ (answers s _ a) (then (pushes (Called s v w) a refl) (syncs v (push (Called s v w) a)))

changes_row : {q : Bool} → (s : ℕ) (c : Change) (a : Member) → Adds q a (change_row s c a)
changes_row s c a = either _ (pushes _ a tt) (answers s _ a)

changes_unless : {q : Bool} → (s : ℕ) (c : Change) (h : Option Holder) (a : Member) → Adds q a (unless_locked s c h a)
changes_unless s c None a = changes_row s c a
changes_unless s c (Some h) a = answers s _ a

states : {q : Bool} → (s : ℕ) (c : Change) (a : Member) → Adds q a (statement s c a)
states s c a = unless (is_up (state_then (last_call a.life s))) (answers s (NotOnline (state_then (last_call a.life s))) a) (either (is_read_only a) (answers s (read_only a) a) (changes_unless s c (holder a.life a.me.inc s c.item) a))

parts : {q : Bool} → (t : Txn) (ps : List Part) (a : Member) → Adds q a (for_each (own_part t) ps a)
parts t ps a = each (own_part t) (λ p b. owns _ _ b) ps a

asks : {q : Bool} → (s n : ℕ) (f : Member → Member) → ((b : Member) → Adds q b (f b)) → (a : Member) → Adds q a (ask_commit s n f a)
asks s n f h a = let i : ValueId = record { origin = a.me.inc; number = n } in then (pushes (AsksCommit s i) a tt) (then (h (push (AsksCommit s i) a)) (answers s _ (f (push (AsksCommit s i) a))))

txns : {q : Bool} → (s : ℕ) (t : Txn) (b : List ℕ) (a : Member) → Adds q a (send_txn s t b a)
txns s t b a = either _ (asks s _ (own (Says b) (Some (Writes t))) (owns _ _) a) (asks s _ (for_each (own_part t) (cut b)) (parts t (cut b)) a)

commits_bytes : {q : Bool} → (s : ℕ) (t : Txn) (b : List ℕ) (a : Member) → Adds q a (commit_bytes s t b a)
commits_bytes s t b a = either _ (answers_last s _ a) (txns s t b a)

commits_changes : {q : Bool} → (s : ℕ) (cs : List Change) (a : Member) → Adds q a (commit_changes s cs a)
commits_changes s [] a = answers_last s _ a
commits_changes s (c ∷ cs) a = either (is_read_only a) (answers_last s (read_only a) a) (commits_bytes s (txn_of s a) (body_bytes (Writes (txn_of s a))) a)

transacts : {q : Bool} → (s : ℕ) (r : Request) (a : Member) → Adds q a (in_transaction s r a)
transacts s (Begin v w) a = answers s _ a
transacts s (Get i) a = answers s _ a
transacts s (Insert i r) a = states s (record { item = i; what = Inserts r }) a
transacts s (Update i r) a = states s (record { item = i; what = Updates r }) a
transacts s (Delete i) a = states s (record { item = i; what = Deletes }) a
transacts s Commit a = commits_changes s _ a
transacts s Rollback a = answers_last s _ a

begins_or_not : (s : ℕ) (r : Request) (a : Member) → Adds true a (without_transaction s r a)
begins_or_not s (Begin v w) a = begins s v w a
begins_or_not s (Get i) a = answers s _ a
begins_or_not s (Insert i r) a = answers s _ a
begins_or_not s (Update i r) a = answers s _ a
begins_or_not s (Delete i) a = answers s _ a
begins_or_not s Commit a = answers s _ a
begins_or_not s Rollback a = answers s _ a

in_phase : (s : ℕ) (r : Request) (p : Phase) (a : Member) → Adds true a (by_phase s r p a)
in_phase s r Free a = begins_or_not s r a
in_phase s r Holding a = answers s _ a
in_phase s r Active a = transacts s r a
in_phase s r (Asking i) a = answers s _ a

calls_unless : (s : ℕ) (r : Request) (o : Option Gtid) (a : Member) → Adds true a (unless_killed s r o a)
calls_unless s r (Some g) a = answers_last s _ a
calls_unless s r None a = either _ (answers_last s _ a) (in_phase s r _ a)

calls : (s : ℕ) (r : Request) (a : Member) → Adds true a (call s r a)
unfolding call
calls s r a = calls_unless s r _ a

-- one whose begin is held is busy
busy : (s : ℕ) (r : Request) (p : Phase) (a : Member) → is_holding p ≡ true → Adds false a (by_phase s r p a)
busy s r Free a h = absurd (cc h)
busy s r Holding a h = answers s _ a
busy s r Active a h = absurd (cc h)
busy s r (Asking i) a h = absurd (cc h)

busy_unless : (s : ℕ) (r : Request) (o : Option Gtid) (a : Member) → is_holding (phase a.life s) ≡ true → Adds false a (unless_killed s r o a)
busy_unless s r (Some g) a h = answers_last s _ a
busy_unless s r None a h = either _ (answers_last s _ a) (busy s r (phase a.life s) a h)

calls_held : (s : ℕ) (r : Request) (a : Member) → is_holding (phase a.life s) ≡ true → Adds false a (call s r a)
unfolding call
calls_held s r a h = busy_unless s r _ a h

-- ---- joining

greets : {q : Bool} → (i : Inc) (a : Member) → Adds q a (greet i a)
greets {q = q} i a = either _ (go a.node.turns) (stays a)
  where
    go : (o : Option Turns) → Adds q a (greet_by i o a)
    go None = stays a
    go (Some w) = sends _ a

-- ---- points

commit_answers : {q : Bool} → (c : Cert) (s : ℕ) (a : Member) → Adds q a (answer_commit c s a)
commit_answers c s a = either _ (answers_last s _ a) (stays a)

own_answers : {q : Bool} → (c : Cert) (a : Member) → Adds q a (answer_own c a)
own_answers c a = either (is_own a.me.inc c) (each (answer_commit c) (commit_answers c) (sessions a.life) a) (stays a)

commits_one : {q : Bool} → (c : Cert) (a : Member) → Adds q a (commit_one c a)
commits_one c a = either _ (then (pushes (Committed c.gtid) a tt) (own_answers c (push (Committed c.gtid) a))) (stays a)

commits : {q : Bool} → (a : Member) → Adds q a (commit_all a)
commits a = each commit_one commits_one (pending a.life) a

prepares_one : {q : Bool} → (c : Cert) (a : Member) → Adds q a (prepare_one c a)
prepares_one c a = either _ (owns _ _ a) (stays a)

prepares : {q : Bool} → (a : Member) → Adds q a (prepare_all a)
prepares a = each prepare_one prepares_one (pending a.life) a

begins_by : {q : Bool} → (s : ℕ) (o : Option Call) (a : Member) → Adds q a (begin_by s o a)
begins_by s None a = stays a
begins_by s (Some c) a = either _ (pushes _ a tt) (stays a)

begins_one : {q : Bool} → (s : ℕ) (a : Member) → Adds q a (begin_one s a)
begins_one s a = either (is_holding (phase a.life s)) (begins_by s (last_call a.life s) a) (stays a)

begins_all : {q : Bool} → (a : Member) → Adds q a (begin_all a)
begins_all a = each begin_one begins_one (sessions a.life) a

arrives_unless : {q : Bool} → (cs : List Cert) (a : Member) → Adds q a (unless_pending cs a)
arrives_unless [] a = owns _ _ a
arrives_unless (c ∷ cs) a = stays a

arrives : {q : Bool} → (a : Member) → Adds q a (arrive a)
arrives a = either _ (arrives_unless _ a) (stays a)

points : {q : Bool} → (a : Member) → Adds q a (point a)
unfolding point
points a = either _ (begins_all a) (then (commits a) (then (prepares (commit_all a)) (then (begins_all (prepare_all (commit_all a))) (arrives (begin_all (prepare_all (commit_all a)))))))

-- ---- slots

answers_conflict : {q : Bool} → (i : ValueId) (g : Gtid) (s : ℕ) (a : Member) → Adds q a (answer_conflict i g s a)
answers_conflict {q = q} i g s a = go (phase a.life s)
  where
    go : (p : Phase) → Adds q a (elim p [ Asking j ↦ elim (id_eq i j) [ true ↦ last_answer s (ConflictWith g) a | false ↦ a ] | _ ↦ a ])
    go Free = stays a
    go Holding = stays a
    go Active = stays a
    go (Asking j) = either _ (answers_last s _ a) (stays a)

conflicts : {q : Bool} → (i : ValueId) (g : Gtid) (a : Member) → Adds q a (on_conflict i g a)
conflicts i g a = each (answer_conflict i g) (answers_conflict i g) (sessions a.life) a

arrived : {q : Bool} → (o : Inc) (w : What) (b : Option Body) (a : Member) → Adds q a (on_plain o w b a)
arrived o (Add j) b a = greets j.inc a
arrived o (Remove i) b a = either _ (falls _ a) (stays a)
arrived o Noop None a = stays a
arrived o (Says x) None a = stays a
arrived o Noop (Some (Arrives e)) a = either _ (pushes _ a tt) (stays a)
arrived o (Says x) (Some (Arrives e)) a = either _ (pushes _ a tt) (stays a)
arrived o Noop (Some (Writes t)) a = stays a
arrived o Noop (Some (Prepared g)) a = stays a
arrived o Noop (Some Sync) a = stays a
arrived o Noop (Some (Executed e)) a = stays a
arrived o Noop (Some (Switches m)) a = stays a
arrived o Noop (Some (Appoints i)) a = stays a
arrived o Noop (Some (PartOf p)) a = stays a
arrived o (Says x) (Some (Writes t)) a = stays a
arrived o (Says x) (Some (Prepared g)) a = stays a
arrived o (Says x) (Some Sync) a = stays a
arrived o (Says x) (Some (Executed e)) a = stays a
arrived o (Says x) (Some (Switches m)) a = stays a
arrived o (Says x) (Some (Appoints i)) a = stays a
arrived o (Says x) (Some (PartOf p)) a = stays a

causes_more : {q : Bool} → (e : Entry) (f : Outcome) (a : Member) → Adds q a (causes e f a)
causes_more e (Conflict g) a = conflicts e.value.id g a
causes_more e Plain a = arrived e.value.id.origin e.value.what e.holds a
causes_more e (Positive g) a = stays a
causes_more e Void a = stays a
causes_more e Unread a = stays a

takes_kept : {q : Bool} → (t : ℕ) (v : Value) (k : Kept) (a : Member) → Adds q a (take_kept t v k a)
takes_kept t v IsSkipped a = pushes _ a tt
takes_kept t v (KeptAt p h) a = let e : Entry = entry_of a.setup a.life t p h v in then (pushes (Took e) a tt) (causes_more e e.effect (push (Took e) a))

proposes : {q : Bool} → (a : Member) → Adds q a (propose a)
proposes a = either _ (stays a) (by_act (node_step Propose) a)

takes_slot : {q : Bool} → (x : Taken) (a : Member) → Adds q a (point (take_slot x (by_node take a)))
takes_slot x a = then (by_act take a) (then (takes_kept x.slot x.value x.kept (by_node take a)) (points (take_slot x (by_node take a))))

one_more : {q : Bool} → (f : Member → Member) → ((b : Member) → Adds q b (f b)) → (a : Member) (xs : List Taken) → Adds q a (elim xs [ [] ↦ a | x ∷ xs ↦ f (point (take_slot x (by_node take a))) ])
one_more f h a [] = stays a
one_more f h a (x ∷ xs) = then (takes_slot x a) (h (point (take_slot x (by_node take a))))

takes_slots : {q : Bool} → (k : ℕ) (a : Member) → Adds q a (take_slots k a)
takes_slots zero a = stays a
takes_slots (suc k) a = one_more (take_slots k) (takes_slots k) a (next_slot a)

takes_all : {q : Bool} → (a : Member) → Adds q a (propose (take_slots (2 ^ 42) a))
takes_all a = then (takes_slots (2 ^ 42) a) (proposes (take_slots (2 ^ 42) a))

one_round : {q : Bool} → (f : Member → Member) → ((b : Member) → Adds q b (f b)) → (a : Member) (xs : List Taken) → Adds q a (elim xs [ [] ↦ a | x ∷ xs ↦ f (propose (take_slots (2 ^ 42) a)) ])
one_round f h a [] = stays a
one_round f h a (x ∷ xs) = then (takes_all a) (h (propose (take_slots (2 ^ 42) a)))

in_rounds : {q : Bool} → (k : ℕ) (a : Member) → Adds q a (rounds k a)
in_rounds zero a = stays a
in_rounds (suc k) a = one_round (rounds k) (in_rounds k) a (next_slot a)

settles : {q : Bool} → (a : Member) → Adds q a (settle_slots a)
unfolding settle_slots
settles a = then (takes_all a) (in_rounds (2 ^ 42) (propose (take_slots (2 ^ 42) a)))

-- ---- what is told of a begin that is held

-- who was called, and by whom, stays
skip_one : (d : Did) (l : Life) (s : ℕ) → IsQuiet false d → called_now (d ∷ l) s ≡ called_now l s
skip_one Founds l s q = refl
skip_one (Starts x) l s q = refl
skip_one (Came e) l s q = absurd q
skip_one (Made v b) l s q = refl
skip_one (Took e) l s q = refl
skip_one (Skips t v) l s q = refl
skip_one (Done p) l s q = refl
skip_one (Committed g) l s q = refl
skip_one (Is st c) l s q = refl
skip_one (Gave p n) l s q = refl
skip_one (Answered t x) l s q = refl
skip_one (Begun t e y) l s q = refl
skip_one (Changed t c) l s q = refl
skip_one (Replied r) l s q = refl
skip_one (Called t v w) l s q = absurd (cc q)
skip_one (AsksCommit t i) l s q = refl
skip_one (Ends t) l s q = refl
skip_one (Enters w) l s q = refl
skip_one (Restores g cs) l s q = refl
skip_one AskFails l s q = refl

skips : (x l : Life) (s : ℕ) → AreQuiet false x → called_now (x ++ l) s ≡ called_now l s
skips [] l s q = refl
skips (d ∷ x) l s q = skip_one d (x ++ l) s q.0 ∙ skips x l s q.1

held_below : (p o : Phase) (b : Bool) → is_holding p ≡ false → is_holding (elim b as (λ u. Phase) [ true ↦ p | false ↦ o ]) ≡ true → is_holding o ≡ true
held_below p o true e h = absurd (let q = sym e ∙ h in cc q)
held_below p o false e h = h

called_one : (b : Bool) (p : Phase) (n : Bool) → (is_holding p ≡ true → n ≡ true) → is_holding (elim b as (λ u. Phase) [ true ↦ Holding | false ↦ p ]) ≡ true → (b || n) ≡ true
called_one true p n f h = refl
called_one false p n f h = f h

-- a begin that is held, and wasn't, was called since
since_one : (d : Did) (l : Life) (s : ℕ) → IsQuiet true d → (is_holding (phase l s) ≡ true → called_now l s ≡ true) → is_holding (phase (d ∷ l) s) ≡ true → called_now (d ∷ l) s ≡ true
since_one Founds l s q f h = f h
since_one (Starts x) l s q f h = f h
since_one (Came e) l s q f h = absurd q
since_one (Made v b) l s q f h = f h
since_one (Took e) l s q f h = f h
since_one (Skips t v) l s q f h = f h
since_one (Done p) l s q f h = f h
since_one (Committed g) l s q f h = f h
since_one (Is st c) l s q f h = f h
since_one (Gave p n) l s q f h = f h
since_one (Answered t x) l s q f h = f h
since_one (Begun t e y) l s q f h = f (held_below Active (phase l s) (t == s) refl h)
since_one (Changed t c) l s q f h = f h
since_one (Replied r) l s q f h = f h
since_one (Called t v w) l s q f h = called_one (t == s) (phase l s) (called_now l s) f h
since_one (AsksCommit t i) l s q f h = f (held_below (Asking i) (phase l s) (t == s) refl h)
since_one (Ends t) l s q f h = f (held_below Free (phase l s) (t == s) refl h)
since_one (Enters w) l s q f h = f h
since_one (Restores g cs) l s q f h = f h
since_one AskFails l s q f h = f h

since : (x l : Life) (s : ℕ) → AreQuiet true x → is_holding (phase l s) ≡ false → is_holding (phase (x ++ l) s) ≡ true → called_now (x ++ l) s ≡ true
since [] l s q e h = absurd (let r = sym e ∙ h in cc r)
since (d ∷ x) l s q e h = since_one d (x ++ l) s q.0 (since x l s q.1 e) h

and_is : (p q : Bool) → (q ≡ true → p ≡ true) → (p && q) ≡ q
and_is true q f = refl
and_is false true f = absurd (let r = f refl in cc r)
and_is false false f = refl

same_where : (b : Bool) (a : Member) → elim b as (λ u. Member) [ true ↦ a | false ↦ a ] ≡ a
same_where true a = refl
same_where false a = refl

-- the rest of a step in which a session calls
abbrev pub rest : Member → Member
rest a = settle_slots (point a)

rests : {q : Bool} → (a : Member) → Adds q a (rest a)
rests a = then (points a) (settles (point a))

-- the session was held already, and is busy
held_before : (s : ℕ) (r : Request) (a : Member) → is_holding (phase a.life s) ≡ true → called_now (rest (call s r (push (Came (Calls s r)) a))).life s ≡ false
held_before s r a h =
    let c : Member = push (Came (Calls s r)) a in
    let g : Adds false c (rest (call s r c)) = then (calls_held s r c h) (rests (call s r c)) in
    ap (λ l. called_now l s) g.is_it ∙ skips g.more c.life s g.quiet

held_since : (s : ℕ) (r : Request) (a : Member) → is_holding (phase a.life s) ≡ false → let b : Member = rest (call s r (push (Came (Calls s r)) a)) in is_holding (phase b.life s) ≡ true → called_now b.life s ≡ true
held_since s r a e h =
    let c : Member = push (Came (Calls s r)) a in
    let g : Adds true c (rest (call s r c)) = then (calls s r c) (rests (call s r c)) in
    ap (λ l. called_now l s) g.is_it ∙ since g.more c.life s g.quiet e (ap (λ l. is_holding (phase l s)) (sym g.is_it) ∙ h)

abbrev told : Bool → ℕ → Member → Member
told x s b = elim x [ true ↦ push (Answered s Held) b | false ↦ b ]

tells_call : (s : ℕ) (r : Request) (a b : Member) → b ≡ rest (call s r (push (Came (Calls s r)) a)) → held_mark (Calls s r) b ≡ hold_by (caller_of (Calls s r) a) b
tells_call s r a b e = go (is_holding (phase a.life s)) refl
  where
    go : (h : Bool) → is_holding (phase a.life s) ≡ h → held_mark (Calls s r) b ≡ hold_by (elim h as (λ u. Option ℕ) [ true ↦ None | false ↦ Some s ]) b
    go true h = ap (λ x. told (x && is_holding (phase b.life s)) s b) (ap (λ (m : Member). called_now m.life s) e ∙ held_before s r a h)
    go false h = ap (λ x. told x s b) (and_is (called_now b.life s) (is_holding (phase b.life s)) (λ k. ap (λ (m : Member). called_now m.life s) e ∙ held_since s r a h (ap (λ (m : Member). is_holding (phase m.life s)) (sym e) ∙ k)))

-- a step marks as held the begin of the session that calls, if it is held now and wasn't
pub marks_held : (e : Event) (a : Member) → held_mark e (rest (act e a)) ≡ hold_by (caller_of e a) (rest (act e a))
marks_held (Hears m) a = refl
marks_held Ticks a = refl
marks_held (Works p b) a = refl
marks_held (Operates o) a = refl
marks_held (Calls s r) a = tells_call s r a _ (ap rest (same_where (is_error (state a.life)) (call s r (push (Came (Calls s r)) a))))
