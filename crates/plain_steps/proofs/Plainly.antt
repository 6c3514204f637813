-- What a step leaves is plain.
use Rattle.std.proofs.Common.{append_assoc, ◌≡◌, ℕ, zero, suc, ◌^◌, Bool, true, false, Option, Some, None, List, [], ◌∷◌, ◌++◌, length, refl, sym, ap, ◌∙◌}
use Rattle.gr_ids.specs.declared.names.Inc.{Inc}
use Rattle.gr_ids.specs.declared.names.Gtid.{Gtid}
use Rattle.gr_ids.specs.declared.names.ValueId.{ValueId}
use Rattle.gr_ids.specs.Names.{bytes_eq, id_eq}
use Rattle.gr_ids.specs.declared.levels.Level.{Level}
use Rattle.gr_ids.specs.declared.levels.MemberState.TheVariants.{Error, Recovering}
use Rattle.gtid_sets.specs.Sets.{Gtids}
use Rattle.key_items.specs.declared.change.Change.{Change}
use Rattle.key_items.specs.declared.change.ChangeKind.{ChangeKind}
use Rattle.key_items.specs.declared.change.ChangeKind.TheVariants.{Insert as Inserts, Update as Updates, Delete as Deletes}
use Rattle.slot_values.specs.declared.value.Value.{Value}
use Rattle.slot_values.specs.declared.value.What.{What}
use Rattle.slot_values.specs.declared.value.What.TheVariants.{Noop, Add, Remove, Body as Says}
use Rattle.slot_values.specs.declared.kept.Kept.{Kept}
use Rattle.slot_values.specs.declared.kept.Kept.TheVariants.{At as KeptAt, Skipped as IsSkipped}
use Rattle.slot_values.specs.Log.{Turns}
use Rattle.txn_forms.specs.Bodies.{body_bytes}
use Rattle.txn_forms.specs.declared.body.Body.{Body}
use Rattle.txn_forms.specs.declared.body.Body.TheVariants.{Txn as Writes, Prepared, Sync, Executed, Online as Arrives, Mode as Switches, Primary as Appoints, Part as PartOf}
use Rattle.txn_forms.specs.declared.body.ModeChange.TheVariants.{Multi as ToMulti, Single as ToSingle}
use Rattle.txn_forms.specs.declared.body.Part.{Part}
use Rattle.std.specs.Prelude.{◌==◌, ◌&&◌, is_some}
use Rattle.txn_forms.specs.declared.body.Txn.{Txn}
use Rattle.paxos_forms.specs.declared.message.Message.{Message}
use Rattle.paxos_forms.specs.declared.message.Wire.{Wire}
use Rattle.paxos_forms.specs.declared.message.Wire.TheVariants.{Prepare, Promise, Accept, Accepted, Learn, Offer, Welcome as Greet, Ask as Asks, Give as Gives, Alive, Gone}
use Rattle.paxos_forms.specs.declared.welcome.Welcome.{Welcome}
use Rattle.paxos_forms.specs.declared.recovery.Give.{Give}
use Rattle.node_rules.specs.Node.{Node, Effect}
use Rattle.node_rules.specs.Step.{node_step}
use Rattle.node_rules.specs.declared.event.PaxosEvent.TheVariants.{Heard, Campaign as Campaigns, Propose, Tick}
use Rattle.node_rules.specs.declared.taken.Taken.{Taken}
use Rattle.node_rules.specs.Taking.{take}
use Rattle.group_rules.specs.declared.requests.Request.{Request}
use Rattle.group_rules.specs.declared.requests.Request.TheVariants.{Begin, Get, Insert, Update, Delete, Commit, Rollback}
use Rattle.group_rules.specs.declared.requests.Operator.{Operator}
use Rattle.group_rules.specs.declared.requests.Operator.TheVariants.{Campaign, Tell, Leave, SetPrimary, Single as SetSingle, Multi as SetMulti, AskDonor, DonorFailed, Finish}
use Rattle.group_rules.specs.declared.answers.Holder.{Holder}
use Rattle.group_rules.specs.declared.answers.Answer.{Answer}
use Rattle.group_rules.specs.declared.answers.Answer.TheVariants.{Conflict as ConflictWith, MemberLeft, NotOnline}
use Rattle.group_rules.specs.declared.marks.Reply.TheVariants.{NoAskPending, Failed, NotQueued, AlreadyDone}
use Rattle.group_rules.specs.declared.marks.Cause.{Cause}
use Rattle.group_rules.specs.declared.marks.Cause.TheVariants.{Welcomed}
use Rattle.group_rules.specs.declared.marks.Effect.{Effect as Outcome}
use Rattle.group_rules.specs.declared.marks.Effect.TheVariants.{Positive, Conflict, Plain, Void, Unread}
use Rattle.group_rules.specs.Events.{Did, Done, Enters, Came, Called, AsksCommit, Gave, AskFails, Replied, Took, Is, Committed, Event, Hears, Ticks, Works, Calls, Operates, Cert, Entry, Life}
use Rattle.group_rules.specs.Life.{entry_at, executed, is_recovering, is_up, state, ticks, view}
use Rattle.group_rules.specs.View.{online_incs, seated}
use Rattle.group_rules.specs.Watch.{Watch, leads_by_rank, watch}
use Rattle.group_rules.specs.Member.{Member, push, by_node, at_node, own, own_body, answer, last_answer, for_each, leave_session, fall, unanswered, waiting_as}
use Rattle.group_rules.specs.Queue.{is_done, is_own, pending, at_place, queue}
use Rattle.group_rules.specs.Sessions.{is_holding, Phase, Free, Holding, Active, Asking, phase, sessions, Call, last_call}
use Rattle.group_rules.specs.Keys.{holder}
use Rattle.group_rules.specs.Parts.{cut}
use Rattle.group_rules.specs.Calls.{misfit, is_read_only, read_only, state_then, txn_of, begin, send_sync, change_row, unless_locked, statement, own_part, ask_commit, send_txn, commit_bytes, commit_changes, in_transaction, without_transaction, by_phase, unless_killed, call}
use Rattle.group_rules.specs.Welcomes.{greet, greet_by, hear_welcome}
use Rattle.group_rules.specs.Recovery.{fail_ask, check_donor, check_ask, unless_self, ask_wire, ask_donor, donor_failed, give_at, restore, take_give, hear_give, pending_ask}
use Rattle.group_rules.specs.Points.{answer_commit, answer_own, commit_one, commit_all, prepare_one, prepare_all, begin_by, begin_one, begin_all, unless_pending, arrive, point}
use Rattle.group_rules.specs.Taking.{answer_conflict, on_conflict, on_plain, causes, take_kept, entry_of, take_slot, next_slot, take_slots, propose, rounds, settle_slots}
use Rattle.group_rules.specs.Steps.{hear_add, hear_wire, done_of, work, time_out_by, time_out, expel_one, campaign_if_due, look_after, tell_at, member_tick, tick_on, tick_once, reply_ballot, reply_sent, if_online, leave, operate, act_alive, hear_in_error, act_in_error, act, held_mark, step}
use Rattle.plain_steps.specs.Plain.{ArePlain, IsPlain, IsPlainAnswer}

-- the history grows by what is plain
pub record Adds (a b : Member) : Type 0 where
  pub more : Life
  pub is_it : b.life ≡ more ++ a.life
  pub plain : ArePlain more

both_plain : (x y : Life) → ArePlain x → ArePlain y → ArePlain (x ++ y)
both_plain [] y p q = q
both_plain (d ∷ x) y p q = (p.0, both_plain x y p.1 q)

stays : (a : Member) → Adds a a
stays a = record { more = []; is_it = refl; plain = tt }

then : {a b c : Member} → Adds a b → Adds b c → Adds a c
then {a = a} p q = record { more = q.more ++ p.more; is_it = q.is_it ∙ (ap (λ z. q.more ++ z) p.is_it ∙ sym (append_assoc q.more p.more a.life)); plain = both_plain q.more p.more q.plain p.plain }

pushes : (d : Did) (a : Member) → IsPlain d → Adds a (push d a)
pushes d a p = record { more = d ∷ []; is_it = refl; plain = (p, tt) }

-- what changes the node and the messages alone
by_act : (f : Node → Effect) (a : Member) → Adds a (by_node f a)
by_act f a = record { more = []; is_it = refl; plain = tt }

sends : (ms : List Message) (a : Member) → Adds a (record a { sent = ms })
sends ms a = record { more = []; is_it = refl; plain = tt }

either : {a x y : Member} → (b : Bool) → Adds a x → Adds a y → Adds a (elim b [ true ↦ x | false ↦ y ])
either true p q = p
either false p q = q

unless : {a x y : Member} → (b : Bool) → Adds a x → Adds a y → Adds a (elim b [ false ↦ x | true ↦ y ])
unless false p q = p
unless true p q = q

each : {A : Type 0} → (f : A → Member → Member) → ((x : A) (a : Member) → Adds a (f x a)) → (xs : List A) (a : Member) → Adds a (for_each f xs a)
each f h [] a = stays a
each f h (x ∷ xs) a = then (h x a) (each f h xs (f x a))

-- ---- small acts

owns : (w : What) (holds : Option Body) (a : Member) → Adds a (own w holds a)
owns w holds a = record { more = _ ∷ []; is_it = refl; plain = (tt, tt) }

answers : (s : ℕ) (x : Answer) (a : Member) → IsPlainAnswer x → Adds a (answer s x a)
answers s x a p = pushes _ a p

answers_last : (s : ℕ) (x : Answer) (a : Member) → IsPlainAnswer x → Adds a (last_answer s x a)
answers_last s x a p = record { more = _ ∷ _ ∷ []; is_it = refl; plain = (tt, (p, tt)) }

unanswered_plain : (i : ValueId) (o : Option Cert) → IsPlainAnswer (unanswered i o)
unanswered_plain i None = tt
unanswered_plain i (Some c) = tt

leaves : (s : ℕ) (a : Member) → Adds a (leave_session s a)
leaves s a = go (phase a.life s)
  where
    go : (p : Phase) → Adds a (elim p [ Free ↦ a | Holding ↦ last_answer s MemberLeft a | Active ↦ a | Asking i ↦ last_answer s (unanswered i (waiting_as (pending a.life) i)) a ])
    go Free = stays a
    go Holding = answers_last s _ a tt
    go Active = stays a
    go (Asking i) = answers_last s _ a (unanswered_plain i (waiting_as (pending a.life) i))

falls : (c : Cause) (a : Member) → Adds a (fall c a)
falls c a = then (pushes (Is Error c) a tt) (each leave_session leaves (sessions (push (Is Error c) a).life) (push (Is Error c) a))

-- ---- session calls

syncs : (v : Level) (a : Member) → Adds a (send_sync v a)
syncs v a = either _ (owns _ _ a) (stays a)

begins : (s : ℕ) (v : Level) (w : ℕ) (a : Member) → Adds a (begin s v w a)
begins s v w a = either _ (answers s _ a tt) (then (pushes (Called s v w) a tt) (syncs v (push (Called s v w) a)))

misfit_plain : (k : ChangeKind) → IsPlainAnswer (misfit k)
misfit_plain (Inserts v) = tt
misfit_plain (Updates v) = tt
misfit_plain Deletes = tt

changes_row : (s : ℕ) (c : Change) (a : Member) → Adds a (change_row s c a)
changes_row s c a = either _ (pushes _ a tt) (answers s _ a (misfit_plain c.what))

changes_unless : (s : ℕ) (c : Change) (h : Option Holder) (a : Member) → Adds a (unless_locked s c h a)
changes_unless s c None a = changes_row s c a
changes_unless s c (Some h) a = answers s _ a tt

states : (s : ℕ) (c : Change) (a : Member) → Adds a (statement s c a)
states s c a = unless (is_up (state_then (last_call a.life s))) (answers s (NotOnline (state_then (last_call a.life s))) a tt) (either (is_read_only a) (answers s (read_only a) a tt) (changes_unless s c (holder a.life a.me.inc s c.item) a))

parts : (t : Txn) (ps : List Part) (a : Member) → Adds a (for_each (own_part t) ps a)
parts t ps a = each (own_part t) (λ p b. owns _ _ b) ps a

asks : (s n : ℕ) (f : Member → Member) → ((b : Member) → Adds b (f b)) → (a : Member) → Adds a (ask_commit s n f a)
asks s n f h a = let i : ValueId = record { origin = a.me.inc; number = n } in then (pushes (AsksCommit s i) a tt) (then (h (push (AsksCommit s i) a)) (answers s _ (f (push (AsksCommit s i) a)) tt))

txns : (s : ℕ) (t : Txn) (b : List ℕ) (a : Member) → Adds a (send_txn s t b a)
txns s t b a = either _ (asks s _ (own (Says b) (Some (Writes t))) (owns _ _) a) (asks s _ (for_each (own_part t) (cut b)) (parts t (cut b)) a)

commits_bytes : (s : ℕ) (t : Txn) (b : List ℕ) (a : Member) → Adds a (commit_bytes s t b a)
commits_bytes s t b a = either _ (answers_last s _ a tt) (txns s t b a)

commits_changes : (s : ℕ) (cs : List Change) (a : Member) → Adds a (commit_changes s cs a)
commits_changes s [] a = answers_last s _ a tt
commits_changes s (c ∷ cs) a = either (is_read_only a) (answers_last s (read_only a) a tt) (commits_bytes s (txn_of s a) (body_bytes (Writes (txn_of s a))) a)

transacts : (s : ℕ) (r : Request) (a : Member) → Adds a (in_transaction s r a)
transacts s (Begin v w) a = answers s _ a tt
transacts s (Get i) a = answers s _ a tt
transacts s (Insert i r) a = states s (record { item = i; what = Inserts r }) a
transacts s (Update i r) a = states s (record { item = i; what = Updates r }) a
transacts s (Delete i) a = states s (record { item = i; what = Deletes }) a
transacts s Commit a = commits_changes s _ a
transacts s Rollback a = answers_last s _ a tt

begins_or_not : (s : ℕ) (r : Request) (a : Member) → Adds a (without_transaction s r a)
begins_or_not s (Begin v w) a = begins s v w a
begins_or_not s (Get i) a = answers s _ a tt
begins_or_not s (Insert i r) a = answers s _ a tt
begins_or_not s (Update i r) a = answers s _ a tt
begins_or_not s (Delete i) a = answers s _ a tt
begins_or_not s Commit a = answers s _ a tt
begins_or_not s Rollback a = answers s _ a tt

in_phase : (s : ℕ) (r : Request) (p : Phase) (a : Member) → Adds a (by_phase s r p a)
in_phase s r Free a = begins_or_not s r a
in_phase s r Holding a = answers s _ a tt
in_phase s r Active a = transacts s r a
in_phase s r (Asking i) a = answers s _ a tt

calls_unless : (s : ℕ) (r : Request) (o : Option Gtid) (a : Member) → Adds a (unless_killed s r o a)
calls_unless s r (Some g) a = answers_last s _ a tt
calls_unless s r None a = either _ (answers_last s _ a tt) (in_phase s r _ a)

calls : (s : ℕ) (r : Request) (a : Member) → Adds a (call s r a)
unfolding call
calls s r a = calls_unless s r _ a

-- ---- joining

greets : (i : Inc) (a : Member) → Adds a (greet i a)
greets i a = either _ (go a.node.turns) (stays a)
  where
    go : (o : Option Turns) → Adds a (greet_by i o a)
    go None = stays a
    go (Some w) = sends _ a

welcomes : (w : Welcome) (a : Member) → Adds a (hear_welcome w a)
welcomes w a = either _ (then (pushes (Enters w) a tt) (pushes (Is Recovering Welcomed) (push (Enters w) a) tt)) (stays a)

fails : (a : Member) → Adds a (fail_ask a)
fails a = then (pushes AskFails a tt) (either _ (falls _ (push AskFails a)) (stays (push AskFails a)))

checks_donor : (o : Option Inc) (a : Member) → Adds a (check_donor o a)
checks_donor None a = stays a
checks_donor (Some d) a = either _ (fails a) (stays a)

checks : (a : Member) → Adds a (check_ask a)
checks a = either _ (checks_donor _ a) (stays a)

asked : (d : Inc) (x : Wire) (a : Member) → Adds a (unless_self d x a)
asked d x a = either _ (stays a) (sends _ a)

asks_donor : (d : Inc) (a : Member) → Adds a (ask_donor d a)
asks_donor d a = let b : Member = push (Replied _) a in unless _ (pushes _ a tt) (then (pushes _ a tt) (then (asked d (ask_wire a) b) (checks (unless_self d (ask_wire a) b))))

fails_donor : (a : Member) → Adds a (donor_failed a)
fails_donor a = unless (is_recovering (state a.life) && is_some (pending_ask a.life)) (pushes (Replied NoAskPending) a tt) (then (pushes (Replied Failed) a tt) (fails (push (Replied Failed) a)))

gives_at : (i : Inc) (set : Gtids) (o : Option Entry) (a : Member) → Adds a (give_at i set o a)
gives_at i set None a = stays a
gives_at i set (Some e) a = either _ (sends _ a) (stays a)

restores : (g : Give) (cs : List Cert) (x : Gtids) (a : Member) → Adds a (restore g cs x a)
restores g cs [] a = pushes _ a tt
restores g cs (x ∷ xs) a = falls _ a

takes_give : (g : Give) (cs : List Cert) (a : Member) → Adds a (take_give g cs a)
takes_give g cs a = unless _ (stays a) (then (pushes (Gave g.place (length g.txns)) a tt) (restores g cs _ (push (Gave g.place (length g.txns)) a)))

hears_give : (i : Inc) (g : Give) (a : Member) → Adds a (hear_give i g a)
hears_give i g a = unless _ (stays a) (takes_give g _ a)

-- ---- points

commit_answers : (c : Cert) (s : ℕ) (a : Member) → Adds a (answer_commit c s a)
commit_answers c s a = either _ (answers_last s _ a tt) (stays a)

own_answers : (c : Cert) (a : Member) → Adds a (answer_own c a)
own_answers c a = either (is_own a.me.inc c) (each (answer_commit c) (commit_answers c) (sessions a.life) a) (stays a)

commits_one : (c : Cert) (a : Member) → Adds a (commit_one c a)
commits_one c a = either _ (then (pushes (Committed c.gtid) a tt) (own_answers c (push (Committed c.gtid) a))) (stays a)

commits : (a : Member) → Adds a (commit_all a)
commits a = each commit_one commits_one (pending a.life) a

prepares_one : (c : Cert) (a : Member) → Adds a (prepare_one c a)
prepares_one c a = either _ (owns _ _ a) (stays a)

prepares : (a : Member) → Adds a (prepare_all a)
prepares a = each prepare_one prepares_one (pending a.life) a

begins_by : (s : ℕ) (o : Option Call) (a : Member) → Adds a (begin_by s o a)
begins_by s None a = stays a
begins_by s (Some c) a = either _ (pushes _ a tt) (stays a)

begins_one : (s : ℕ) (a : Member) → Adds a (begin_one s a)
begins_one s a = either (is_holding (phase a.life s)) (begins_by s (last_call a.life s) a) (stays a)

begins_all : (a : Member) → Adds a (begin_all a)
begins_all a = each begin_one begins_one (sessions a.life) a

arrives_unless : (cs : List Cert) (a : Member) → Adds a (unless_pending cs a)
arrives_unless [] a = owns _ _ a
arrives_unless (c ∷ cs) a = stays a

arrives : (a : Member) → Adds a (arrive a)
arrives a = either _ (arrives_unless _ a) (stays a)

points : (a : Member) → Adds a (point a)
unfolding point
points a = either _ (begins_all a) (then (commits a) (then (prepares (commit_all a)) (then (begins_all (prepare_all (commit_all a))) (arrives (begin_all (prepare_all (commit_all a)))))))

-- ---- slots

answers_conflict : (i : ValueId) (g : Gtid) (s : ℕ) (a : Member) → Adds a (answer_conflict i g s a)
answers_conflict i g s a = go (phase a.life s)
  where
    go : (p : Phase) → Adds a (elim p [ Asking j ↦ elim (id_eq i j) [ true ↦ last_answer s (ConflictWith g) a | false ↦ a ] | _ ↦ a ])
    go Free = stays a
    go Holding = stays a
    go Active = stays a
    go (Asking j) = either _ (answers_last s _ a tt) (stays a)

conflicts : (i : ValueId) (g : Gtid) (a : Member) → Adds a (on_conflict i g a)
conflicts i g a = each (answer_conflict i g) (answers_conflict i g) (sessions a.life) a

arrived : (o : Inc) (w : What) (b : Option Body) (a : Member) → Adds a (on_plain o w b a)
arrived o (Add j) b a = greets j.inc a
arrived o (Remove i) b a = either _ (falls _ a) (stays a)
arrived o Noop None a = stays a
arrived o (Says x) None a = stays a
arrived o Noop (Some (Arrives e)) a = either _ (pushes _ a tt) (stays a)
arrived o (Says x) (Some (Arrives e)) a = either _ (pushes _ a tt) (stays a)
arrived o Noop (Some (Writes t)) a = stays a
arrived o Noop (Some (Prepared g)) a = stays a
arrived o Noop (Some Sync) a = stays a
arrived o Noop (Some (Executed e)) a = stays a
arrived o Noop (Some (Switches m)) a = stays a
arrived o Noop (Some (Appoints i)) a = stays a
arrived o Noop (Some (PartOf p)) a = stays a
arrived o (Says x) (Some (Writes t)) a = stays a
arrived o (Says x) (Some (Prepared g)) a = stays a
arrived o (Says x) (Some Sync) a = stays a
arrived o (Says x) (Some (Executed e)) a = stays a
arrived o (Says x) (Some (Switches m)) a = stays a
arrived o (Says x) (Some (Appoints i)) a = stays a
arrived o (Says x) (Some (PartOf p)) a = stays a

causes_more : (e : Entry) (f : Outcome) (a : Member) → Adds a (causes e f a)
causes_more e (Conflict g) a = conflicts e.value.id g a
causes_more e Plain a = arrived e.value.id.origin e.value.what e.holds a
causes_more e (Positive g) a = stays a
causes_more e Void a = stays a
causes_more e Unread a = stays a

takes_kept : (t : ℕ) (v : Value) (k : Kept) (a : Member) → Adds a (take_kept t v k a)
takes_kept t v IsSkipped a = pushes _ a tt
takes_kept t v (KeptAt p h) a = let e : Entry = entry_of a.setup a.life t p h v in then (pushes (Took e) a tt) (causes_more e e.effect (push (Took e) a))

proposes : (a : Member) → Adds a (propose a)
proposes a = either _ (stays a) (by_act (node_step Propose) a)

takes_slot : (x : Taken) (a : Member) → Adds a (point (take_slot x (by_node take a)))
takes_slot x a = then (by_act take a) (then (takes_kept x.slot x.value x.kept (by_node take a)) (points (take_slot x (by_node take a))))

one_more : (f : Member → Member) → ((b : Member) → Adds b (f b)) → (a : Member) (xs : List Taken) → Adds a (elim xs [ [] ↦ a | x ∷ xs ↦ f (point (take_slot x (by_node take a))) ])
one_more f h a [] = stays a
one_more f h a (x ∷ xs) = then (takes_slot x a) (h (point (take_slot x (by_node take a))))

takes_slots : (k : ℕ) (a : Member) → Adds a (take_slots k a)
takes_slots zero a = stays a
takes_slots (suc k) a = one_more (take_slots k) (takes_slots k) a (next_slot a)

takes_all : (a : Member) → Adds a (propose (take_slots (2 ^ 42) a))
takes_all a = then (takes_slots (2 ^ 42) a) (proposes (take_slots (2 ^ 42) a))

one_round : (f : Member → Member) → ((b : Member) → Adds b (f b)) → (a : Member) (xs : List Taken) → Adds a (elim xs [ [] ↦ a | x ∷ xs ↦ f (propose (take_slots (2 ^ 42) a)) ])
one_round f h a [] = stays a
one_round f h a (x ∷ xs) = then (takes_all a) (h (propose (take_slots (2 ^ 42) a)))

in_rounds : (k : ℕ) (a : Member) → Adds a (rounds k a)
in_rounds zero a = stays a
in_rounds (suc k) a = one_round (rounds k) (in_rounds k) a (next_slot a)

settles : (a : Member) → Adds a (settle_slots a)
unfolding settle_slots
settles a = then (takes_all a) (in_rounds (2 ^ 42) (propose (take_slots (2 ^ 42) a)))

-- ---- actions

hears_add : (w : What) (a : Member) → Adds a (hear_add w a)
hears_add (Add j) a = either _ (owns _ _ a) (stays a)
hears_add Noop a = stays a
hears_add (Remove i) a = stays a
hears_add (Says b) a = stays a

hears : (m : Message) (a : Member) → Adds a (at_node (Heard m) a)
hears m a = by_act (node_step (Heard m)) a

hears_checked : (m : Message) (a : Member) → Adds a (check_ask (at_node (Heard m) a))
hears_checked m a = then (hears m a) (checks (at_node (Heard m) a))

hears_wire : (m : Message) (x : Wire) (a : Member) → Adds a (hear_wire m x a)
hears_wire m (Asks x) a = gives_at _ _ (entry_at a.life x.place) a
hears_wire m (Gives g) a = hears_give _ g a
hears_wire m Gone a = then (hears m a) (falls _ (at_node (Heard m) a))
hears_wire m (Greet w) a = then (hears m a) (welcomes w (at_node (Heard m) a))
hears_wire m (Offer v) a = either (v.id.number == 0) (hears_add v.what a) (hears m a)
hears_wire m (Prepare b s) a = hears_checked m a
hears_wire m (Promise b s xs) a = hears_checked m a
hears_wire m (Accept b t v) a = hears_checked m a
hears_wire m (Accepted b t) a = hears_checked m a
hears_wire m (Learn t v) a = hears_checked m a
hears_wire m (Alive n) a = hears_checked m a

works_of : (p : ℕ) (b : Option (List ℕ)) (o : Option Cert) (a : Member) → Adds a (done_of p b o a)
works_of p (Some b) (Some c) a = unless (bytes_eq (body_bytes (Writes c.txn)) b) (pushes (Replied (NotQueued p)) a tt) (either (is_done a.life p) (pushes (Replied (AlreadyDone p)) a tt) (pushes (Done p) a tt))
works_of p (Some b) None a = pushes _ a tt
works_of p None o a = pushes _ a tt

works : (p : ℕ) (b : Option (List ℕ)) (a : Member) → Adds a (work p b a)
works p b a = works_of p b (at_place (queue a.life a.me.inc) p) a

times_out_by : (s : ℕ) (o : Option Call) (a : Member) → Adds a (time_out_by s o a)
times_out_by s None a = stays a
times_out_by s (Some c) a = either _ (answers_last s _ a tt) (stays a)

times_out : (s : ℕ) (a : Member) → Adds a (time_out s a)
times_out s a = either (is_holding (phase a.life s)) (times_out_by s (last_call a.life s) a) (stays a)

times_out_all : (a : Member) → Adds a (for_each time_out (sessions a.life) a)
times_out_all a = each time_out times_out (sessions a.life) a

expels : (w : Watch) (i : Inc) (a : Member) → Adds a (expel_one w i a)
expels w i a = either _ (owns _ _ a) (stays a)

expels_each : (w : Watch) (is : List Inc) (a : Member) → Adds a (for_each (expel_one w) is a)
expels_each w is a = each (expel_one w) (expels w) is a

campaigns : (w : Watch) (a : Member) → Adds a (campaign_if_due w a)
campaigns w a = either _ (by_act (node_step Campaigns) a) (stays a)

looks_after : (w : Watch) (a : Member) → Adds a (look_after w a)
looks_after w a =
    let is : List Inc = seated (view a.setup a.life).seats in
    either (leads_by_rank a.me.inc w (online_incs (view a.setup a.life))) (then (expels_each w is a) (campaigns w (for_each (expel_one w) is a))) (stays a)

tells : (n : ℕ) (a : Member) → Adds a (tell_at n a)
tells n a = either _ (owns _ _ a) (stays a)

member_ticks : (w : Watch) (a : Member) → Adds a (member_tick w a)
member_ticks w a =
    let b : Member = at_node Tick a in
    either _ (falls _ a) (then (by_act (node_step Tick) a) (then (looks_after w b) (tells (ticks a.life) (look_after w b))))

ticks_on : (a : Member) → Adds a (tick_on a)
ticks_on a = either _ (sends _ a) (member_ticks (watch a.setup a.me.inc a.life) a)

ticks_once : (a : Member) → Adds a (tick_once a)
ticks_once a = then (times_out_all a) (ticks_on (for_each time_out (sessions a.life) a))

replies : (f : Member → Member) (a : Member) → Adds a (f a) → Adds a (reply_sent f a)
replies f a h = then h (pushes _ (f a) tt)

if_up : (f : Member → Member) (a : Member) → Adds a (f a) → Adds a (if_online f a)
if_up f a h = either _ h (pushes _ a tt)

operates : (o : Operator) (a : Member) → Adds a (operate o a)
operates Campaign a = if_up (λ b. reply_ballot (at_node Campaigns b)) a (then (by_act (node_step Campaigns) a) (pushes _ (at_node Campaigns a) tt))
operates Tell a = if_up (λ b. reply_sent (own_body (Executed (executed b.life))) b) a (replies (own_body (Executed (executed a.life))) a (owns _ _ a))
operates Leave a = either _ (replies (own (Remove a.me.inc) None) a (owns _ _ a)) (if_up leave a (replies (own (Remove a.me.inc) None) a (owns _ _ a)))
operates (SetPrimary i) a = if_up (reply_sent (own_body (Appoints i))) a (replies (own_body (Appoints i)) a (owns _ _ a))
operates (SetSingle i) a = if_up (reply_sent (own_body (Switches (ToSingle i)))) a (replies (own_body (Switches (ToSingle i))) a (owns _ _ a))
operates SetMulti a = if_up (reply_sent (own_body (Switches ToMulti))) a (replies (own_body (Switches ToMulti)) a (owns _ _ a))
operates (AskDonor d) a = asks_donor d a
operates DonorFailed a = fails_donor a
operates Finish a = pushes _ a tt

acts_alive : (e : Event) (a : Member) → Adds a (act_alive e a)
acts_alive (Hears m) a = hears_wire m m.wire a
acts_alive Ticks a = ticks_once a
acts_alive (Works p b) a = works p b a
acts_alive (Calls s r) a = calls s r a
acts_alive (Operates o) a = operates o a

hears_fallen : (m : Message) (x : Wire) (a : Member) → Adds a (hear_in_error m x a)
hears_fallen m (Prepare b s) a = then (pushes (Came (Hears m)) a tt) (hears m (push (Came (Hears m)) a))
hears_fallen m (Accept b t v) a = then (pushes (Came (Hears m)) a tt) (hears m (push (Came (Hears m)) a))
hears_fallen m (Asks x) a = stays a
hears_fallen m (Gives g) a = stays a
hears_fallen m Gone a = stays a
hears_fallen m (Greet w) a = stays a
hears_fallen m (Offer v) a = stays a
hears_fallen m (Promise b s xs) a = stays a
hears_fallen m (Accepted b t) a = stays a
hears_fallen m (Learn t v) a = stays a
hears_fallen m (Alive n) a = stays a

acts_fallen : (e : Event) (a : Member) → Adds a (act_in_error e a)
acts_fallen (Hears m) a = hears_fallen m m.wire a
acts_fallen Ticks a = stays a
acts_fallen (Works p b) a = pushes _ a tt
acts_fallen (Calls s r) a = then (pushes (Came (Calls s r)) a tt) (calls s r (push (Came (Calls s r)) a))
acts_fallen (Operates o) a = then (pushes (Came (Operates o)) a tt) (operates o (push (Came (Operates o)) a))

acts : (e : Event) (a : Member) → Adds a (act e a)
acts e a = either _ (acts_fallen e a) (then (pushes (Came e) a tt) (acts_alive e (push (Came e) a)))

held : (e : Event) (a : Member) → Adds a (held_mark e a)
held (Calls s r) a = either _ (pushes _ a tt) (stays a)
held (Hears m) a = stays a
held Ticks a = stays a
held (Works p b) a = stays a
held (Operates o) a = stays a

pub steps : (e : Event) (a : Member) → Adds a (step e a)
unfolding step
steps e a =
    let b : Member = act e (record a { sent = [] }) in
    then (sends [] a) (then (acts e (record a { sent = [] })) (then (points b) (then (settles (point b)) (held e (settle_slots (point b))))))
