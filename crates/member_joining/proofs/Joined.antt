-- How the asks stand for a history, thing by thing.
use Rattle.std.proofs.Common.{◌≡◌, suc, Bool, true, false, ◌&&◌, ◌||◌, not, Option, Some, None, List, [], ◌∷◌, refl, sym, ap, ◌∙◌}
use Rattle.std.specs.Prelude.{is_some, nat_lt}
use Rattle.gr_ids.specs.declared.names.Inc.{Inc}
use Rattle.gr_ids.specs.declared.names.Gtid.{Gtid}
use Rattle.gr_ids.specs.declared.levels.MemberState.{MemberState}
use Rattle.gr_ids.specs.declared.levels.MemberState.TheVariants.{Offline, Recovering, Online, Error}
use Rattle.paxos_forms.specs.declared.recovery.Give.{Give}
use Rattle.paxos_forms.specs.declared.welcome.Welcome.{Welcome}
use Rattle.group_rules.specs.declared.marks.Cause.{Cause}
use Rattle.group_rules.specs.declared.marks.Reply.TheVariants.{Sent, Ballot, Asked, Failed, Finished, NotOnline, NoAskDue, NoAskPending, NotQueued, AlreadyDone}
use Rattle.group_rules.specs.Events.{AskFails, AsksCommit, Answered, Begun, Called, Came, Cert, Changed, Committed, Did, Done, Ends, Enters, Entry, Founds, Gave, Is, Life, Made, Replied, Restores, Skips, Starts, Stored, Took}
use Rattle.group_rules.specs.Life.{certs, entered, executed as executed_by, has_give as has_give_by, is_offline, is_recovering, is_up, state}
use Rattle.group_rules.specs.Recovery.{pending_ask}
use Rattle.group_rules.specs.Taking.{takes_slots}
use Rattle.donor_recovery.specs.Asking.{Asking, is_due}
use Rattle.member_joining.specs.Asking.{asked, failed, failures_in, given, has_give_in, may_ask, pending_in, welcomed}
use Rattle.member_joining.specs.Joins.{JoinsBy, MayBe, is_of_joining}

-- ---- the beginning

pub founds : JoinsBy (Founds ∷ []) None
founds = record { welcomed = refl; place = refl; pending = refl; failures = refl; has_give = refl; executed = λ x e. refl; certified = λ x e. refl; down = λ x e. refl; asks = λ e. refl; outside = λ e. refl; offline = λ e. (refl, refl) }

pub leads : (c : Cause) → JoinsBy (Is Online c ∷ Founds ∷ []) None
leads c = record { welcomed = refl; place = refl; pending = refl; failures = refl; has_give = refl; executed = λ x e. cc; certified = λ x e. refl; down = λ x e. cc; asks = λ e. refl; outside = λ e. refl; offline = λ e. cc }

pub starts : (y : Stored) → JoinsBy (Starts y ∷ []) None
starts y = record { welcomed = refl; place = refl; pending = refl; failures = refl; has_give = refl; executed = λ x e. cc; certified = λ x e. refl; down = λ x e. refl; asks = λ e. refl; outside = λ e. refl; offline = λ e. (refl, refl) }

-- ---- the Welcome

-- before it nothing is asked
none_before : (x : Option Asking) → is_some x ≡ false → (pending_in x ≡ None) × (failures_in x ≡ 0) × (has_give_in x ≡ false)
none_before None e = (refl, refl, refl)
none_before (Some r) e = cc

pub enters : (l : Life) (w : Welcome) (c : Cause) (x : Option Asking) → JoinsBy l x → is_offline (state l) ≡ true
    → JoinsBy (Is Recovering c ∷ Enters w ∷ l) (welcomed (executed_by l) w.place)
enters l w c x j o =
    let f = j.offline o in
    let b = none_before x (j.welcomed ∙ ap is_some f.0) in
    record {
      welcomed = refl;
      place = refl;
      pending = sym b.0 ∙ j.pending;
      failures = sym b.1 ∙ j.failures;
      has_give = sym b.2 ∙ j.has_give;
      executed = λ y g. refl;
      certified = λ y g. f.1;
      down = λ y g. refl;
      asks = λ y. sym j.has_give ∙ b.2;
      outside = λ y. cc;
      offline = λ y. cc;
    }

-- ---- an entry and a commit

slots_up : (u r g : Bool) → (u || (r && g)) ≡ true → g ≡ false → u ≡ true
slots_up true r g h e = refl
slots_up false true g h e = cc
slots_up false false g h e = cc

not_offline : (m : MemberState) (g : Bool) → (is_up m || (is_recovering m && g)) ≡ true → is_offline m ≡ true → ⊥
not_offline Offline true h e = cc
not_offline Offline false h e = cc
not_offline Recovering g h e = cc
not_offline Online g h e = cc
not_offline Error g h e = cc

pub takes : (l : Life) (e : Entry) (x : Option Asking) → JoinsBy l x → takes_slots l ≡ true → JoinsBy (Took e ∷ l) x
takes l e x j h =
    let never : is_some x ≡ true → has_give_by l ≡ false → ⊥ = λ y g. let u : is_up (state l) ≡ true = slots_up (is_up (state l)) (is_recovering (state l)) (has_give_by l) h g in let d = j.down y g in cc in
    record { welcomed = j.welcomed; place = j.place; pending = j.pending; failures = j.failures; has_give = j.has_give; executed = j.executed; certified = λ y g. elim (never y g) [ ]; down = j.down; asks = j.asks; outside = j.outside; offline = λ y. elim (not_offline (state l) (has_give_by l) h y) [ ] }

pub commits : (l : Life) (g : Gtid) (x : Option Asking) → JoinsBy l x → (certs l ≡ [] → ⊥) → JoinsBy (Committed g ∷ l) x
commits l g x j some = record { welcomed = j.welcomed; place = j.place; pending = j.pending; failures = j.failures; has_give = j.has_give; executed = λ y n. elim (some (j.certified y n)) [ ]; certified = j.certified; down = j.down; asks = j.asks; outside = j.outside; offline = j.offline }

-- ---- a state

not_outside : (x : Option Asking) (o : Bool) → is_some x ≡ o → o ≡ true → is_some x ≡ false → ⊥
not_outside x o e t f = cc

pub states : (l : Life) (s : MemberState) (c : Cause) (x : Option Asking) → JoinsBy l x → MayBe l s → JoinsBy (Is s c ∷ l) x
states l Offline c x j h = record { welcomed = j.welcomed; place = j.place; pending = j.pending; failures = j.failures; has_give = j.has_give; executed = j.executed; certified = j.certified; down = λ y g. refl; asks = j.asks; outside = λ y. refl; offline = λ y. h }
states l Recovering c x j h = record { welcomed = j.welcomed; place = j.place; pending = j.pending; failures = j.failures; has_give = j.has_give; executed = j.executed; certified = j.certified; down = λ y g. refl; asks = j.asks; outside = λ y. elim (not_outside x (is_some (entered l)) j.welcomed h y) [ ]; offline = λ y. cc }
states l Online c x j h =
    let never : is_some x ≡ true → has_give_by l ≡ false → ⊥ = λ y g. let u : is_up (state l) ≡ true = slots_up (is_up (state l)) (is_recovering (state l)) (has_give_by l) h g in let d = j.down y g in cc in
    record { welcomed = j.welcomed; place = j.place; pending = j.pending; failures = j.failures; has_give = j.has_give; executed = j.executed; certified = j.certified; down = λ y g. elim (never y g) [ ]; asks = j.asks; outside = λ y. refl; offline = λ y. cc }
states l Error c x j h = record { welcomed = j.welcomed; place = j.place; pending = j.pending; failures = j.failures; has_give = j.has_give; executed = j.executed; certified = j.certified; down = λ y g. refl; asks = j.asks; outside = λ y. refl; offline = λ y. cc }

-- ---- an ask, its failure, and a Give

pub due_without : (r : Asking) → is_due r ≡ true → r.has_give ≡ false
due_without r h = go (is_some r.pending) r.has_give (nat_lt r.failures 10) h
  where
    go : (p g n : Bool) → (not p && (not g && n)) ≡ true → g ≡ false
    go p false n h = refl
    go true true n h = cc
    go false true n h = cc

pub asks : (l : Life) (d : Inc) (x : Option Asking) → JoinsBy l x → may_ask x ≡ true → JoinsBy (Replied (Asked d) ∷ l) (asked d x)
asks l d None j h = cc
asks l d (Some r) j h = record { welcomed = j.welcomed; place = j.place; pending = refl; failures = j.failures; has_give = j.has_give; executed = j.executed; certified = j.certified; down = j.down; asks = λ y. sym j.has_give ∙ due_without r h; outside = j.outside; offline = j.offline }

pub fails : (l : Life) (x : Option Asking) → JoinsBy l x → is_some (pending_ask l) ≡ true → JoinsBy (AskFails ∷ l) (failed x)
fails l None j h = let p = j.pending in cc
fails l (Some r) j h = record { welcomed = j.welcomed; place = j.place; pending = refl; failures = ap suc j.failures; has_give = j.has_give; executed = j.executed; certified = j.certified; down = j.down; asks = λ y. cc; outside = j.outside; offline = j.offline }

recovering_is_not_offline : (m : MemberState) → is_recovering m ≡ true → is_offline m ≡ true → ⊥
recovering_is_not_offline m r o = not_offline m true (recovers m r) o
  where
    recovers : (m : MemberState) → is_recovering m ≡ true → (is_up m || (is_recovering m && true)) ≡ true
    recovers Offline r = cc
    recovers Recovering r = refl
    recovers Online r = cc
    recovers Error r = cc

pub restores : (l : Life) (g : Give) (cs : List Cert) (x : Option Asking) → JoinsBy l x → is_recovering (state l) ≡ true → is_some (pending_ask l) ≡ true → JoinsBy (Restores g cs ∷ l) (given x)
restores l g cs None j u h = let p = j.pending in cc
restores l g cs (Some r) j u h = record { welcomed = j.welcomed; place = j.place; pending = refl; failures = j.failures; has_give = refl; executed = λ y n. cc; certified = λ y n. cc; down = λ y n. cc; asks = λ y. cc; outside = j.outside; offline = λ y. elim (recovering_is_not_offline (state l) u y) [ ] }

-- ---- what else happens

pub passes : (l : Life) (d : Did) (x : Option Asking) → is_of_joining d ≡ false → JoinsBy l x → JoinsBy (d ∷ l) x
passes l Founds x h j = record { welcomed = j.welcomed; place = j.place; pending = j.pending; failures = j.failures; has_give = j.has_give; executed = j.executed; certified = j.certified; down = j.down; asks = j.asks; outside = j.outside; offline = j.offline }
passes l (Came e) x h j = record { welcomed = j.welcomed; place = j.place; pending = j.pending; failures = j.failures; has_give = j.has_give; executed = j.executed; certified = j.certified; down = j.down; asks = j.asks; outside = j.outside; offline = j.offline }
passes l (Made v y) x h j = record { welcomed = j.welcomed; place = j.place; pending = j.pending; failures = j.failures; has_give = j.has_give; executed = j.executed; certified = j.certified; down = j.down; asks = j.asks; outside = j.outside; offline = j.offline }
passes l (Skips t v) x h j = record { welcomed = j.welcomed; place = j.place; pending = j.pending; failures = j.failures; has_give = j.has_give; executed = j.executed; certified = j.certified; down = j.down; asks = j.asks; outside = j.outside; offline = j.offline }
passes l (Done p) x h j = record { welcomed = j.welcomed; place = j.place; pending = j.pending; failures = j.failures; has_give = j.has_give; executed = j.executed; certified = j.certified; down = j.down; asks = j.asks; outside = j.outside; offline = j.offline }
passes l (Gave p n) x h j = record { welcomed = j.welcomed; place = j.place; pending = j.pending; failures = j.failures; has_give = j.has_give; executed = j.executed; certified = j.certified; down = j.down; asks = j.asks; outside = j.outside; offline = j.offline }
passes l (Answered n a) x h j = record { welcomed = j.welcomed; place = j.place; pending = j.pending; failures = j.failures; has_give = j.has_give; executed = j.executed; certified = j.certified; down = j.down; asks = j.asks; outside = j.outside; offline = j.offline }
passes l (Begun n e y) x h j = record { welcomed = j.welcomed; place = j.place; pending = j.pending; failures = j.failures; has_give = j.has_give; executed = j.executed; certified = j.certified; down = j.down; asks = j.asks; outside = j.outside; offline = j.offline }
passes l (Changed n c) x h j = record { welcomed = j.welcomed; place = j.place; pending = j.pending; failures = j.failures; has_give = j.has_give; executed = j.executed; certified = j.certified; down = j.down; asks = j.asks; outside = j.outside; offline = j.offline }
passes l (Called n v w) x h j = record { welcomed = j.welcomed; place = j.place; pending = j.pending; failures = j.failures; has_give = j.has_give; executed = j.executed; certified = j.certified; down = j.down; asks = j.asks; outside = j.outside; offline = j.offline }
passes l (AsksCommit n i) x h j = record { welcomed = j.welcomed; place = j.place; pending = j.pending; failures = j.failures; has_give = j.has_give; executed = j.executed; certified = j.certified; down = j.down; asks = j.asks; outside = j.outside; offline = j.offline }
passes l (Ends n) x h j = record { welcomed = j.welcomed; place = j.place; pending = j.pending; failures = j.failures; has_give = j.has_give; executed = j.executed; certified = j.certified; down = j.down; asks = j.asks; outside = j.outside; offline = j.offline }
passes l (Replied (Sent i)) x h j = record { welcomed = j.welcomed; place = j.place; pending = j.pending; failures = j.failures; has_give = j.has_give; executed = j.executed; certified = j.certified; down = j.down; asks = j.asks; outside = j.outside; offline = j.offline }
passes l (Replied (Ballot b)) x h j = record { welcomed = j.welcomed; place = j.place; pending = j.pending; failures = j.failures; has_give = j.has_give; executed = j.executed; certified = j.certified; down = j.down; asks = j.asks; outside = j.outside; offline = j.offline }
passes l (Replied (NotOnline s)) x h j = record { welcomed = j.welcomed; place = j.place; pending = j.pending; failures = j.failures; has_give = j.has_give; executed = j.executed; certified = j.certified; down = j.down; asks = j.asks; outside = j.outside; offline = j.offline }
passes l (Replied (NotQueued p)) x h j = record { welcomed = j.welcomed; place = j.place; pending = j.pending; failures = j.failures; has_give = j.has_give; executed = j.executed; certified = j.certified; down = j.down; asks = j.asks; outside = j.outside; offline = j.offline }
passes l (Replied (AlreadyDone p)) x h j = record { welcomed = j.welcomed; place = j.place; pending = j.pending; failures = j.failures; has_give = j.has_give; executed = j.executed; certified = j.certified; down = j.down; asks = j.asks; outside = j.outside; offline = j.offline }
passes l (Replied Failed) x h j = record { welcomed = j.welcomed; place = j.place; pending = j.pending; failures = j.failures; has_give = j.has_give; executed = j.executed; certified = j.certified; down = j.down; asks = j.asks; outside = j.outside; offline = j.offline }
passes l (Replied Finished) x h j = record { welcomed = j.welcomed; place = j.place; pending = j.pending; failures = j.failures; has_give = j.has_give; executed = j.executed; certified = j.certified; down = j.down; asks = j.asks; outside = j.outside; offline = j.offline }
passes l (Replied NoAskDue) x h j = record { welcomed = j.welcomed; place = j.place; pending = j.pending; failures = j.failures; has_give = j.has_give; executed = j.executed; certified = j.certified; down = j.down; asks = j.asks; outside = j.outside; offline = j.offline }
passes l (Replied NoAskPending) x h j = record { welcomed = j.welcomed; place = j.place; pending = j.pending; failures = j.failures; has_give = j.has_give; executed = j.executed; certified = j.certified; down = j.down; asks = j.asks; outside = j.outside; offline = j.offline }
passes l (Starts y) x h j = cc
passes l (Took e) x h j = cc
passes l (Committed g) x h j = cc
passes l (Is s c) x h j = cc
passes l (Replied (Asked d)) x h j = cc
passes l (Enters w) x h j = cc
passes l (Restores g cs) x h j = cc
passes l AskFails x h j = cc
