-- The parts stand for the begin of a history, and for one with a tick, a message, a Welcome and a Give.
use Rattle.std.proofs.Common.{◌≡◌, ◌≤◌, suc, List, [], ◌∷◌, map, refl, sym, ap, ◌∙◌, arith, subst}
use Rattle.std.specs.Prelude.{filter, reverse}
use Rattle.gr_ids.specs.declared.names.Inc.{Inc}
use Rattle.gtid_sets.specs.Sets.{Gtids}
use Rattle.gtid_sets.specs.Canonical.{IsCanonical}
use Rattle.paxos_forms.specs.declared.message.Message.{Message}
use Rattle.paxos_forms.specs.declared.welcome.Welcome.{Welcome}
use Rattle.paxos_forms.specs.declared.welcome.WelcomeMember.{WelcomeMember}
use Rattle.paxos_forms.specs.declared.recovery.Give.{Give}
use Rattle.paxos_forms.specs.declared.recovery.Given.{Given}
use Rattle.paxos_forms.specs.Gives.{IsGive}
use Rattle.slot_values.specs.declared.value.Joiner.{Joiner}
use Rattle.group_rules.specs.Events.{Came, Cert, Enters, Founds, Hears, Life, Restores, Setup, Starts, Stored, Ticks}
use Rattle.group_rules.specs.Life.{certs, executed, taken}
use Rattle.group_rules.specs.Queue.{is_own}
use Rattle.group_rules.specs.Recovery.{given_of}
use Rattle.group_rules.specs.Rows.{all_in}
use Rattle.group_rules.specs.Watch.{heard, ticked}
use Rattle.apply_queue.specs.Following.{QueuedOf, works_of}
use Rattle.apply_queue.proofs.Lives.{founded, lacks, started, passes as queue_passes, restores as queue_restores}
use Rattle.consistency_waits.specs.Holding.{ticked as ticked_hold}
use Rattle.consistency_waits.specs.Following.{HeldOf}
use Rattle.consistency_waits.proofs.Histories.{none, passes as holds_pass, ticks as holds_tick}
use Rattle.donor_recovery.specs.declared.at_add.AtAdd.{AtAdd}
use Rattle.donor_recovery.specs.Asking.{at_add}
use Rattle.donor_recovery.specs.Donating.{Donating, no_adds, with_given}
use Rattle.donor_recovery.specs.Laws.{Donates, with_certs}
use Rattle.donor_recovery.proofs.Donors.{same_with, passes as donor_passes, restores as donor_restores}
use Rattle.failure_events.specs.Watching.{Watching, Watches, capped, first_watch}
use Rattle.failure_events.proofs.Histories.{watches_welcome, watches_founding, watches_message, watches_tick, begins_capped, passes as watch_passes}
use Rattle.list_state.specs.Following.{Follows}
use Rattle.list_state.specs.Joining.{restored, welcomed}
use Rattle.list_state.specs.Listing.{Listed}
use Rattle.list_state.proofs.Followed.{passed as list_passes}
use Rattle.list_state.proofs.Joined.{enters, restores}
use Rattle.member_backlog.specs.Standing.{Waits, uncommitted_of}
use Rattle.member_backlog.specs.declared.uncommitted.Uncommitted.{Uncommitted}
use Rattle.member_backlog.specs.Waiting.{without_committed}
use Rattle.member_backlog.proofs.Backlogs.{passes as backlog_passes, restores as backlog_restores}
use Rattle.member_truth.specs.Truth.{IsTrueGive}
use Rattle.prepare_acks.specs.Awaited.{Waiting}
use Rattle.prepare_acks.specs.Following.{AwaitedOf, RequiredOf, SentOf}
use Rattle.prepare_acks.proofs.Awaiting.{founds as acks_found, starts as acks_start, enters as acks_enter, restores as acks_restore, passes_awaited}
use Rattle.prepare_acks.proofs.Requiring.{founds_requiring, starts_requiring, enters_requiring, restores_requiring, passes_requiring}
use Rattle.prepare_acks.proofs.Sending.{founds_sent, starts_sent, passes_sent}
use Rattle.member_parts.specs.declared.parts.MemberParts.{MemberParts}
use Rattle.member_parts.specs.Entering.{all_back, with_all}
use Rattle.member_parts.specs.Joining.{AreRead, IsBare}
use Rattle.member_parts.specs.Remote.{Remote, free_from, no_remote, own_work, with_works}
use Rattle.member_parts.specs.Standing.{StandsFor}
use Rattle.member_parts.proofs.Orderly.{enters_orderly, none_orderly, passes_orderly, restores_orderly}
use Rattle.member_parts.proofs.Works.{given_free, given_works, own_of_others}

-- nothing is queued, kept, awaited, required, sent or held
pub record IsEmpty (x : MemberParts) : Type 0 where
  pub backlog : x.backlog ≡ []
  pub remotes : x.remotes ≡ no_remote
  pub own : x.own ≡ []
  pub acks : x.acks ≡ []
  pub required : x.required ≡ []
  pub sent : x.sent ≡ []
  pub waits : x.waits ≡ []

pub stands_founding : (s : Setup) (me : Inc) (x : MemberParts) → Follows s (Founds ∷ []) x.list → x.watch ≡ first_watch me s.limits (map {A = Joiner} (λ j. j.inc) s.founders) → x.donor ≡ no_adds → IsEmpty x → StandsFor s me (Founds ∷ []) x
stands_founding s me x f ew ed b = record {
  list = f;
  watch = subst (λ (z : Watching). Watches s me (Founds ∷ []) z) (sym ew) (watches_founding s me);
  donor = subst (λ (z : Donating). Donates s (Founds ∷ []) z) (sym ed) (record { certified = refl; adds = λ p. refl });
  backlog = subst (λ (us : List Uncommitted). Waits (Founds ∷ []) us) (sym b.backlog) (record { waiting = refl; set = tt });
  queue = subst (λ (r : Remote). QueuedOf me (Founds ∷ []) r.queue) (sym b.remotes) (founded me);
  free = subst (λ (r : Remote). free_from r.last ≤ 1) (sym b.remotes) (omega arith);
  own = λ k. b.own;
  acks = subst (λ (ws : List Waiting). AwaitedOf s (Founds ∷ []) ws) (sym b.acks) (acks_found s);
  required = subst (λ (set : Gtids). RequiredOf s me (Founds ∷ []) set) (sym b.required) (founds_requiring s me);
  sent = subst (λ (set : Gtids). SentOf (Founds ∷ []) set) (sym b.sent) founds_sent;
  waits = subst (HeldOf s me (Founds ∷ [])) (sym b.waits) (holds_pass s me [] [] Founds refl (none s me));
  orderly = passes_orderly me [] Founds refl (none_orderly me);
}

pub stands_tick : (s : Setup) (me : Inc) (l : Life) (x y : MemberParts) → StandsFor s me l x → y.watch ≡ record x.watch { watch = capped (ticked x.watch.me x.watch.watch) } → y.waits ≡ map ticked_hold x.waits
    → StandsFor s me (Came Ticks ∷ l) (record x { watch = y.watch; waits = y.waits })
stands_tick s me l x y f e eh = record {
  list = list_passes s l x.list (Came Ticks) refl f.list;
  watch = subst (λ (z : Watching). Watches s me (Came Ticks ∷ l) z) (sym e) (watches_tick s me l x.watch f.watch);
  donor = donor_passes s l x.donor (Came Ticks) refl f.donor;
  backlog = backlog_passes l (Came Ticks) x.backlog refl f.backlog;
  queue = queue_passes me l (Came Ticks) x.remotes.queue refl f.queue;
  free = f.free;
  own = f.own;
  acks = passes_awaited s l (Came Ticks) x.acks refl f.acks;
  required = passes_requiring s me l (Came Ticks) x.required refl f.required;
  sent = passes_sent l (Came Ticks) x.sent refl f.sent;
  waits = subst (HeldOf s me (Came Ticks ∷ l)) (sym eh) (holds_tick s me l x.waits f.waits);
  orderly = passes_orderly me l (Came Ticks) refl f.orderly;
}

pub stands_message : (s : Setup) (me : Inc) (l : Life) (m : Message) (x : MemberParts) (w : Watching) → StandsFor s me l x → w ≡ record x.watch { watch = heard x.watch.watch m.from } → StandsFor s me (Came (Hears m) ∷ l) (record x { watch = w })
stands_message s me l m x w f e = record {
  list = list_passes s l x.list (Came (Hears m)) refl f.list;
  watch = subst (λ (z : Watching). Watches s me (Came (Hears m) ∷ l) z) (sym e) (watches_message s me l m x.watch f.watch);
  donor = donor_passes s l x.donor (Came (Hears m)) refl f.donor;
  backlog = backlog_passes l (Came (Hears m)) x.backlog refl f.backlog;
  queue = queue_passes me l (Came (Hears m)) x.remotes.queue refl f.queue;
  free = f.free;
  own = f.own;
  acks = passes_awaited s l (Came (Hears m)) x.acks refl f.acks;
  required = passes_requiring s me l (Came (Hears m)) x.required refl f.required;
  sent = passes_sent l (Came (Hears m)) x.sent refl f.sent;
  waits = holds_pass s me l x.waits (Came (Hears m)) refl f.waits;
  orderly = passes_orderly me l (Came (Hears m)) refl f.orderly;
}

-- ---- a joiner

all_known : (cs : List Cert) → all_back [] (map given_of cs) ≡ map given_of (all_in [] cs)
all_known [] = refl
all_known (c ∷ cs) = ap (λ (gs : List Given). with_given gs (given_of c)) (all_known cs) ∙ sym (same_with (all_in [] cs) c)

pub stands_start : (s : Setup) (me : Inc) (y : Stored) (ts : List Given) (x : MemberParts) → Follows s (Starts y ∷ []) x.list → x.watch ≡ first_watch me s.limits [] → x.donor ≡ record no_adds { certified = all_back [] ts } → ts ≡ map given_of y.committed
    → IsEmpty x → IsCanonical y.executed → StandsFor s me (Starts y ∷ []) x
stands_start s me y ts x f ew ed et b k = record {
  list = f;
  watch = subst (λ (z : Watching). Watches s me (Starts y ∷ []) z) (sym ew) (record { is_me = refl; limits = refl; watch = sym (begins_capped []) });
  donor = subst (λ (z : Donating). Donates s (Starts y ∷ []) z) (sym ed) (record { certified = ap (all_back []) et ∙ all_known y.committed; adds = λ p. refl });
  backlog = subst (λ (us : List Uncommitted). Waits (Starts y ∷ []) us) (sym b.backlog) (record { waiting = refl; set = k });
  queue = subst (λ (r : Remote). QueuedOf me (Starts y ∷ []) r.queue) (sym b.remotes) (started me y);
  free = subst (λ (r : Remote). free_from r.last ≤ 1) (sym b.remotes) (omega arith);
  own = λ k. b.own;
  acks = subst (λ (ws : List Waiting). AwaitedOf s (Starts y ∷ []) ws) (sym b.acks) (acks_start s y);
  required = subst (λ (set : Gtids). RequiredOf s me (Starts y ∷ []) set) (sym b.required) (starts_requiring s me y);
  sent = subst (λ (set : Gtids). SentOf (Starts y ∷ []) set) (sym b.sent) (starts_sent y);
  waits = subst (HeldOf s me (Starts y ∷ [])) (sym b.waits) (holds_pass s me [] [] (Starts y) refl (none s me));
  orderly = passes_orderly me [] (Starts y) refl (none_orderly me);
}

pub stands_welcome : (s : Setup) (me : Inc) (l : Life) (w : Welcome) (x : MemberParts) (ls : Listed) (z : Watching) → StandsFor s me l x → x.list.taken ≤ w.place → certs l ≡ [] → ls ≡ welcomed w x.list
    → z ≡ first_watch me s.limits (map {A = WelcomeMember} (λ m. m.joiner.inc) w.members) → StandsFor s me (Enters w ∷ l) (record x { list = ls; watch = z })
stands_welcome s me l w x ls z f h n el ew =
    let above : taken l ≤ w.place = omega (arith, f.list.taken, h) in
    record {
      list = subst (λ (y : Listed). Follows s (Enters w ∷ l) y) (sym el) (enters s l x.list w f.list);
      watch = subst (λ (y : Watching). Watches s me (Enters w ∷ l) y) (sym ew) (watches_welcome s me l w);
      donor = donor_passes s l x.donor (Enters w) refl f.donor;
      backlog = backlog_passes l (Enters w) x.backlog refl f.backlog;
      queue = queue_passes me l (Enters w) x.remotes.queue refl f.queue;
      free = omega (arith, f.free, above);
      own = f.own;
      acks = acks_enter s l w x.acks f.acks n;
      required = enters_requiring s me l w x.required f.required n;
      sent = passes_sent l (Enters w) x.sent refl f.sent;
      waits = holds_pass s me l x.waits (Enters w) refl f.waits;
      orderly = enters_orderly me l w f.orderly above;
    }

same_all : (gs : List Given) (cs : List Cert) → with_certs gs cs ≡ with_all gs (map given_of cs)
same_all gs [] = refl
same_all gs (c ∷ cs) = same_all (with_given gs (given_of c)) cs

-- what each call leaves of its part
pub record IsRestored (me : Inc) (a : AtAdd) (ts : List Given) (us : List Uncommitted) (z : Gtids) (x y : MemberParts) : Type 0 where
  pub list : y.list ≡ restored a x.list
  pub watch : y.watch ≡ x.watch
  pub donor : y.donor ≡ record x.donor { certified = with_all x.donor.certified ts }
  pub backlog : y.backlog ≡ without_committed z us
  pub remotes : y.remotes ≡ with_works me z no_remote ts
  pub own : y.own ≡ x.own
  pub acks : y.acks ≡ x.acks
  pub required : y.required ≡ x.required
  pub sent : y.sent ≡ x.sent
  pub waits : y.waits ≡ x.waits

pub stands_give : (s : Setup) (me : Inc) (l : Life) (g : Give) (cs : List Cert) (a : AtAdd) (ts : List Given) (us : List Uncommitted) (z : Gtids) (x y : MemberParts) → StandsFor s me l x → IsGive g → a ≡ at_add g → ts ≡ map given_of cs → us ≡ map uncommitted_of cs
    → z ≡ executed l → IsTrueGive me l cs → AreRead cs → IsBare l → IsRestored me a ts us z x y → StandsFor s me (Restores g cs ∷ l) y
stands_give s me l g cs a ts us z x y f i ea et eu ez t rs b h =
    let with : List Given → Donating = λ gs. record x.donor { certified = gs } in
    let kept : y.donor ≡ record x.donor { certified = with_certs x.donor.certified cs } = h.donor ∙ (ap (λ (ts : List Given). with (with_all x.donor.certified ts)) et ∙ ap with (sym (same_all x.donor.certified cs))) in
    let remotes : y.remotes ≡ with_works me (executed l) no_remote (map given_of cs) = h.remotes ∙ (ap (λ (e : Gtids). with_works me e no_remote ts) ez ∙ ap (with_works me (executed l) no_remote) et) in
    let queue : y.remotes.queue ≡ works_of me (executed l) cs = ap (λ (r : Remote). r.queue) remotes ∙ given_works me (executed l) cs no_remote t.rise (λ c m. omega arith) in
    record {
      list = subst (λ (z : Listed). Follows s (Restores g cs ∷ l) z) (sym (h.list ∙ ap (λ (a : AtAdd). restored a x.list) ea)) (restores s l x.list g cs f.list i);
      watch = subst (λ (z : Watching). Watches s me (Restores g cs ∷ l) z) (sym h.watch) (watch_passes s me l (Restores g cs) x.watch refl f.watch);
      donor = subst (λ (z : Donating). Donates s (Restores g cs ∷ l) z) (sym kept) (donor_restores s l g cs x.donor f.donor t.first);
      backlog = subst (λ (vs : List Uncommitted). Waits (Restores g cs ∷ l) vs) (sym (h.backlog ∙ (ap (without_committed z) eu ∙ ap (λ (e : Gtids). without_committed e (map uncommitted_of cs)) ez))) (backlog_restores l g cs x.backlog f.backlog);
      queue = subst (QueuedOf me (Restores g cs ∷ l)) (sym queue) (queue_restores me l g cs b.well b.undone);
      free = subst (λ (r : Remote). free_from r.last ≤ suc (taken l)) (sym remotes) (given_free me (executed l) cs no_remote (taken l) (omega arith) t.places);
      own = λ k. h.own ∙ (f.own k ∙ (ap (λ (ds : List Cert). map own_work (filter (is_own me) (filter (lacks (executed l)) (reverse ds)))) t.first ∙ sym (own_of_others me (executed l) cs t.others)));
      acks = subst (λ (ws : List Waiting). AwaitedOf s (Restores g cs ∷ l) ws) (sym h.acks) (acks_restore s l g cs x.acks f.acks t.first t.places (λ c m _. b.untaken c.place));
      required = subst (λ (set : Gtids). RequiredOf s me (Restores g cs ∷ l) set) (sym h.required) (restores_requiring s me l g cs x.required f.required t.first t.places (λ c m _. b.untaken c.place));
      sent = subst (λ (set : Gtids). SentOf (Restores g cs ∷ l) set) (sym h.sent) (passes_sent l (Restores g cs) x.sent refl f.sent);
      waits = subst (HeldOf s me (Restores g cs ∷ l)) (sym h.waits) (holds_pass s me l x.waits (Restores g cs) refl f.waits);
      orderly = restores_orderly me l g cs f.orderly t rs;
    }
