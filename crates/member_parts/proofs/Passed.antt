-- What else happens changes no part.
use Rattle.std.proofs.Common.{◌≡◌, ◌≤◌, ℕ, suc, false, ◌∷◌, refl, sym, subst, true≢false}
use Rattle.gr_ids.specs.declared.names.Inc.{Inc}
use Rattle.group_rules.specs.Events.{AskFails, AsksCommit, Answered, Begun, Called, Calls, Came, Changed, Committed, Did, Done, Ends, Enters, Founds, Gave, Hears, Is, Life, Made, Operates, Replied, Restores, Setup, Skips, Starts, Ticks, Took, Works}
use Rattle.gr_ids.specs.declared.names.ValueId.{ValueId}
use Rattle.gr_ids.specs.declared.levels.MemberState.{MemberState}
use Rattle.group_rules.specs.declared.marks.Cause.{Cause}
use Rattle.group_rules.specs.Sessions.{is_holding, phase}
use Rattle.group_rules.specs.Life.{is_error, state, taken}
use Rattle.apply_queue.specs.Following.{is_of_queue}
use Rattle.apply_queue.proofs.Lives.{changes_state, passes as queue_passes}
use Rattle.consistency_waits.specs.Following.{touches}
use Rattle.consistency_waits.proofs.Histories.{asked as holds_asked, passes as holds_pass}
use Rattle.donor_recovery.specs.Laws.{is_of_donor}
use Rattle.donor_recovery.proofs.Donors.{passes as donor_passes}
use Rattle.failure_events.specs.Watching.{is_of_watch}
use Rattle.failure_events.proofs.Histories.{passes as watch_passes}
use Rattle.list_state.specs.Following.{is_of_list}
use Rattle.list_state.proofs.Followed.{passed as list_passes}
use Rattle.member_backlog.specs.Standing.{is_of_backlog}
use Rattle.member_backlog.proofs.Backlogs.{passes as backlog_passes}
use Rattle.prepare_acks.specs.Following.{is_making, is_of_acks}
use Rattle.prepare_acks.proofs.Awaiting.{passes_awaited}
use Rattle.prepare_acks.proofs.Requiring.{passes_requiring}
use Rattle.prepare_acks.proofs.Sending.{passes_sent}
use Rattle.member_parts.specs.declared.parts.MemberParts.{MemberParts}
use Rattle.member_parts.specs.Standing.{OwnOf, StandsFor, is_of_parts}
use Rattle.member_parts.specs.Remote.{free_from}
use Rattle.member_parts.proofs.Orderly.{is_of_order, passes_orderly}

-- it is of no part
pub record IsOfNone (d : Did) : Type 0 where
  pub list : is_of_list d ≡ false
  pub watch : is_of_watch d ≡ false
  pub donor : is_of_donor d ≡ false
  pub backlog : is_of_backlog d ≡ false
  pub queue : is_of_queue d ≡ false
  pub acks : is_of_acks d ≡ false
  pub sent : is_making d ≡ false
  pub waits : touches d ≡ false
  pub order : is_of_order d ≡ false

none_of : (d : Did) → is_of_parts d ≡ false → IsOfNone d
none_of Founds h = absurd (true≢false h)
none_of (Starts y) h = absurd (true≢false h)
none_of (Came (Hears m)) h = absurd (true≢false h)
none_of (Came Ticks) h = absurd (true≢false h)
none_of (Came (Works q b)) h = record { list = refl; watch = refl; donor = refl; backlog = refl; queue = refl; acks = refl; sent = refl; waits = refl; order = refl }
none_of (Came (Calls t r)) h = record { list = refl; watch = refl; donor = refl; backlog = refl; queue = refl; acks = refl; sent = refl; waits = refl; order = refl }
none_of (Came (Operates o)) h = record { list = refl; watch = refl; donor = refl; backlog = refl; queue = refl; acks = refl; sent = refl; waits = refl; order = refl }
none_of (Made v y) h = absurd (true≢false h)
none_of (Took e) h = absurd (true≢false h)
none_of (Skips t v) h = record { list = refl; watch = refl; donor = refl; backlog = refl; queue = refl; acks = refl; sent = refl; waits = refl; order = refl }
none_of (Done p) h = absurd (true≢false h)
none_of (Committed g) h = absurd (true≢false h)
none_of (Is m c) h = absurd (true≢false h)
none_of (Gave p n) h = record { list = refl; watch = refl; donor = refl; backlog = refl; queue = refl; acks = refl; sent = refl; waits = refl; order = refl }
none_of (Answered n a) h = record { list = refl; watch = refl; donor = refl; backlog = refl; queue = refl; acks = refl; sent = refl; waits = refl; order = refl }
none_of (Begun n e y) h = absurd (true≢false h)
none_of (Changed n c) h = record { list = refl; watch = refl; donor = refl; backlog = refl; queue = refl; acks = refl; sent = refl; waits = refl; order = refl }
none_of (Replied r) h = record { list = refl; watch = refl; donor = refl; backlog = refl; queue = refl; acks = refl; sent = refl; waits = refl; order = refl }
none_of (Called n v w) h = absurd (true≢false h)
none_of (AsksCommit n i) h = absurd (true≢false h)
none_of (Ends n) h = absurd (true≢false h)
none_of (Enters w) h = absurd (true≢false h)
none_of (Restores g cs) h = absurd (true≢false h)
none_of AskFails h = record { list = refl; watch = refl; donor = refl; backlog = refl; queue = refl; acks = refl; sent = refl; waits = refl; order = refl }

own_passes : (me : Inc) (l : Life) (d : Did) (x : MemberParts) → is_of_parts d ≡ false → OwnOf me l x.own → OwnOf me (d ∷ l) x.own
own_passes me l Founds x h f = absurd (true≢false h)
own_passes me l (Starts y) x h f = absurd (true≢false h)
own_passes me l (Came (Hears m)) x h f = absurd (true≢false h)
own_passes me l (Came Ticks) x h f = absurd (true≢false h)
own_passes me l (Came (Works q b)) x h f = f
own_passes me l (Came (Calls t r)) x h f = f
own_passes me l (Came (Operates o)) x h f = f
own_passes me l (Made v y) x h f = absurd (true≢false h)
own_passes me l (Took e) x h f = absurd (true≢false h)
own_passes me l (Skips t v) x h f = f
own_passes me l (Done p) x h f = absurd (true≢false h)
own_passes me l (Committed g) x h f = absurd (true≢false h)
own_passes me l (Is m c) x h f = absurd (true≢false h)
own_passes me l (Gave p n) x h f = f
own_passes me l (Answered n a) x h f = f
own_passes me l (Begun n e y) x h f = absurd (true≢false h)
own_passes me l (Changed n c) x h f = f
own_passes me l (Replied r) x h f = f
own_passes me l (Called n v w) x h f = absurd (true≢false h)
own_passes me l (AsksCommit n i) x h f = absurd (true≢false h)
own_passes me l (Ends n) x h f = absurd (true≢false h)
own_passes me l (Enters w) x h f = absurd (true≢false h)
own_passes me l (Restores g cs) x h f = absurd (true≢false h)
own_passes me l AskFails x h f = f

taken_passes : (l : Life) (d : Did) → is_of_parts d ≡ false → taken (d ∷ l) ≡ taken l
taken_passes l Founds h = absurd (true≢false h)
taken_passes l (Starts y) h = absurd (true≢false h)
taken_passes l (Came (Hears m)) h = absurd (true≢false h)
taken_passes l (Came Ticks) h = absurd (true≢false h)
taken_passes l (Came (Works q b)) h = refl
taken_passes l (Came (Calls t r)) h = refl
taken_passes l (Came (Operates o)) h = refl
taken_passes l (Made v y) h = absurd (true≢false h)
taken_passes l (Took e) h = absurd (true≢false h)
taken_passes l (Skips t v) h = refl
taken_passes l (Done p) h = absurd (true≢false h)
taken_passes l (Committed g) h = absurd (true≢false h)
taken_passes l (Is m c) h = absurd (true≢false h)
taken_passes l (Gave p n) h = refl
taken_passes l (Answered n a) h = refl
taken_passes l (Begun n e y) h = absurd (true≢false h)
taken_passes l (Changed n c) h = refl
taken_passes l (Replied r) h = refl
taken_passes l (Called n v w) h = absurd (true≢false h)
taken_passes l (AsksCommit n i) h = absurd (true≢false h)
taken_passes l (Ends n) h = absurd (true≢false h)
taken_passes l (Enters w) h = absurd (true≢false h)
taken_passes l (Restores g cs) h = absurd (true≢false h)
taken_passes l AskFails h = refl

pub passes : (s : Setup) (me : Inc) (l : Life) (d : Did) (x : MemberParts) → is_of_parts d ≡ false → StandsFor s me l x → StandsFor s me (d ∷ l) x
passes s me l d x h f =
    let n = none_of d h in
    record {
      list = list_passes s l x.list d n.list f.list;
      watch = watch_passes s me l d x.watch n.watch f.watch;
      donor = donor_passes s l x.donor d n.donor f.donor;
      backlog = backlog_passes l d x.backlog n.backlog f.backlog;
      queue = queue_passes me l d x.remotes.queue n.queue f.queue;
      free = subst (λ (k : ℕ). free_from x.remotes.last ≤ suc k) (sym (taken_passes l d h)) f.free;
      own = own_passes me l d x h f.own;
      acks = passes_awaited s l d x.acks n.acks f.acks;
      required = passes_requiring s me l d x.required n.acks f.required;
      sent = passes_sent l d x.sent n.sent f.sent;
      waits = holds_pass s me l x.waits d n.waits f.waits;
      orderly = passes_orderly me l d n.order f.orderly;
    }

-- a state other than ERROR, before and after
pub stated : (s : Setup) (me : Inc) (l : Life) (m : MemberState) (c : Cause) (x : MemberParts) → is_error (state l) ≡ false → is_error m ≡ false → StandsFor s me l x → StandsFor s me (Is m c ∷ l) x
stated s me l m c x h k f = record {
  list = list_passes s l x.list (Is m c) refl f.list;
  watch = watch_passes s me l (Is m c) x.watch refl f.watch;
  donor = donor_passes s l x.donor (Is m c) refl f.donor;
  backlog = backlog_passes l (Is m c) x.backlog refl f.backlog;
  queue = changes_state me l m c x.remotes.queue f.queue h k;
  free = f.free;
  own = λ _. f.own h;
  acks = passes_awaited s l (Is m c) x.acks refl f.acks;
  required = passes_requiring s me l (Is m c) x.required refl f.required;
  sent = passes_sent l (Is m c) x.sent refl f.sent;
  waits = holds_pass s me l x.waits (Is m c) refl f.waits;
  orderly = passes_orderly me l (Is m c) refl f.orderly;
}

-- the commit of a session whose begin isn't held
pub asked : (s : Setup) (me : Inc) (l : Life) (t : ℕ) (i : ValueId) (x : MemberParts) → is_holding (phase l t) ≡ false → StandsFor s me l x → StandsFor s me (AsksCommit t i ∷ l) x
asked s me l t i x h f = record {
  list = list_passes s l x.list (AsksCommit t i) refl f.list;
  watch = watch_passes s me l (AsksCommit t i) x.watch refl f.watch;
  donor = donor_passes s l x.donor (AsksCommit t i) refl f.donor;
  backlog = backlog_passes l (AsksCommit t i) x.backlog refl f.backlog;
  queue = queue_passes me l (AsksCommit t i) x.remotes.queue refl f.queue;
  free = f.free;
  own = f.own;
  acks = passes_awaited s l (AsksCommit t i) x.acks refl f.acks;
  required = passes_requiring s me l (AsksCommit t i) x.required refl f.required;
  sent = passes_sent l (AsksCommit t i) x.sent refl f.sent;
  waits = holds_asked s me l x.waits t i f.waits h;
  orderly = passes_orderly me l (AsksCommit t i) refl f.orderly;
}
