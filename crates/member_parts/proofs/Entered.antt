-- The parts stand for the history with an entry.
use Rattle.std.proofs.Common.{◌≡◌, ℕ, suc, ◌<◌, Bool, true, false, Option, None, List, [], ◌∷◌, map, refl, sym, ap, ◌∙◌, arith, subst}
use Rattle.std.specs.Prelude.{if◌then◌else◌}
use Rattle.gr_ids.specs.declared.names.Gtid.{Gtid}
use Rattle.gr_ids.specs.declared.names.Inc.{Inc}
use Rattle.gr_ids.specs.declared.names.OpenParts.{OpenParts}
use Rattle.gr_ids.specs.Names.{inc_eq}
use Rattle.gtid_sets.specs.Sets.{Gtids}
use Rattle.name_forms.specs.Incs.{IsInc}
use Rattle.slot_values.specs.declared.value.Value.{Value}
use Rattle.node_rules.specs.Lists.{In}
use Rattle.group_rules.specs.declared.marks.Effect.{Effect}
use Rattle.group_rules.specs.Events.{Cert, Entry, Life, Setup, Took}
use Rattle.group_rules.specs.Life.{cert_of, certs, entry_at, executed, is_error, state, stored, taken, view}
use Rattle.group_rules.specs.Parts.{open_parts}
use Rattle.group_rules.specs.Recovery.{is_add}
use Rattle.group_rules.specs.Rows.{all_in}
use Rattle.group_rules.specs.Taking.{entry_of}
use Rattle.group_rules.specs.View.{View, online_incs}
use Rattle.group_rules.specs.Watch.{watched}
use Rattle.consistency_waits.specs.Following.{HeldOf}
use Rattle.consistency_waits.specs.Holding.{placed}
use Rattle.consistency_waits.proofs.Histories.{foreign, takes as holds_take}
use Rattle.donor_recovery.specs.declared.at_add.AtAdd.{AtAdd}
use Rattle.donor_recovery.specs.Donating.{Donating}
use Rattle.donor_recovery.specs.Laws.{Donates, add_of, after_entry, marked_if, with_cert_given}
use Rattle.donor_recovery.proofs.Donors.{takes as donor_takes}
use Rattle.failure_events.specs.Watching.{Watching, Watches}
use Rattle.failure_events.proofs.Histories.{watches_entry}
use Rattle.list_state.specs.declared.entered.Entered.{Entered}
use Rattle.list_state.specs.Following.{Follows}
use Rattle.list_state.specs.Holding.{HasNumber, IsEntered}
use Rattle.list_state.specs.Joining.{add_here}
use Rattle.list_state.specs.Listing.{Listed, entry_next, open_of, with_entry}
use Rattle.list_state.proofs.Followed.{entries_agree, took}
use Rattle.list_state.proofs.Joined.{kept_of_add}
use Rattle.member_backlog.specs.declared.uncommitted.Uncommitted.{Uncommitted}
use Rattle.member_backlog.specs.Standing.{Waits}
use Rattle.member_backlog.proofs.Backlogs.{takes as backlog_takes, with_certs_waiting}
use Rattle.member_truth.specs.Truth.{IsTrueEntry}
use Rattle.prepare_acks.specs.Awaited.{Waiting, awaited}
use Rattle.prepare_acks.specs.Following.{AwaitedOf, IsGtid, IsNew, RequiredOf, SentOf, with_cert, with_removed, with_required}
use Rattle.prepare_acks.proofs.Awaiting.{takes as acks_take}
use Rattle.prepare_acks.proofs.Requiring.{takes_requiring}
use Rattle.prepare_acks.proofs.Sending.{passes_sent}
use Rattle.member_parts.specs.declared.parts.MemberParts.{MemberParts}
use Rattle.member_parts.specs.Entering.{HasUuid, acknowledged_by, cert_held, given_by, waiting_by}
use Rattle.member_parts.specs.Joining.{AreRead}
use Rattle.member_parts.specs.Remote.{OwnWork, Remote, with_own, with_remote}
use Rattle.member_parts.specs.Standing.{OwnOf, StandsFor}
use Rattle.member_parts.proofs.Answered.{awaited_is, given_is, gtids_held, held_is, read_held, spelt_is, waiting_is}
use Rattle.member_parts.proofs.Lists.{in_all}
use Rattle.member_parts.proofs.Orderly.{takes_orderly}
use Rattle.member_parts.proofs.Works.{IsQueuedAfter, takes_own, takes_remote}

abbrev entry : Setup → Life → ℕ → Bool → Value → Entry
entry s l t b v = entry_of s l t (suc (taken l)) b v

-- what the code has is what the rules say of the entry
pub entered_is : (s : Setup) (me : Inc) (l : Life) (t : ℕ) (b : Bool) (v : Value) (x : MemberParts) (r : Entered) → StandsFor s me l x → IsEntered (open_of x.list v) (entry_next x.list t b v) r → IsEntered (open_parts l v.id.origin) (entry s l t b v) r
entered_is s me l t b v x r f h =
    let e = entries_agree s l x.list t b v f.list in
    let n : entry_next x.list t b v ≡ entry s l t b v = e ∙ ap (λ (k : ℕ). entry_of s l t (suc k) b v) f.list.taken in
    subst (λ (o : Option OpenParts). IsEntered o (entry s l t b v) r) (f.list.parts v.id.origin) (subst (λ (e : Entry). IsEntered (open_of x.list v) e r) n h)

-- ---- the list, the watch, the donor and the backlog

-- what the list answered, and what it made
pub record IsListed (x : MemberParts) (y : Listed) (t : ℕ) (b : Bool) (v : Value) (r : Entered) : Type 0 where
  pub entered : IsEntered (open_of x.list v) (entry_next x.list t b v) r
  pub list : y ≡ with_entry (entry_next x.list t b v) x.list

list_after : (s : Setup) (me : Inc) (l : Life) (t : ℕ) (b : Bool) (v : Value) (x : MemberParts) (y : Listed) (r : Entered) → StandsFor s me l x → IsInc v.id.origin → IsListed x y t b v r → Follows s (Took (entry s l t b v) ∷ l) y
list_after s me l t b v x y r f i k =
    let e = entry s l t b v in
    let n : entry_of s l t (suc x.list.taken) b v ≡ e = ap (λ (k : ℕ). entry_of s l t (suc k) b v) f.list.taken in
    subst (λ (z : Listed). Follows s (Took e ∷ l) z) (sym k.list) (subst (λ (e : Entry). Follows s (Took e ∷ l) (with_entry (entry_next x.list t b v) x.list)) n (took s l x.list t b v f.list i))

watch_after : (s : Setup) (me : Inc) (l : Life) (e : Entry) (x w : Watching) (g : Effect) → Watches s me l x → g ≡ e.effect → w ≡ record x { watch = watched e.value.what g x.watch } → Watches s me (Took e ∷ l) w
watch_after s me l e x w g f eg ew =
    let seen : w ≡ record x { watch = watched e.value.what e.effect x.watch } = ew ∙ ap (λ (g : Effect). record x { watch = watched e.value.what g x.watch }) eg in
    subst (λ (z : Watching). Watches s me (Took e ∷ l) z) (sym seen) (watches_entry s me l e x f)

donor_after : (s : Setup) (me : Inc) (l : Life) (e : Entry) (r : Entered) (x d c : Donating) (y : Listed) → Donates s l x → e.place ≡ suc (taken l) → ((p : ℕ) → taken l < p → entry_at l p ≡ None)
    → IsEntered (open_parts l e.value.id.origin) e r → Follows s (Took e ∷ l) y → c ≡ given_by r.place e.value.id.origin r.effect r.held x → d ≡ marked_if (is_add e.value.what r.effect) (add_here y) c → Donates s (Took e ∷ l) d
donor_after s me l e r x d c y f n ps k h ec ed =
    let m = e.value.id.origin in
    let w = e.value.what in
    let given : c ≡ with_cert_given (cert_of e) x =
    ec ∙ (ap (λ (p : ℕ). given_by p m r.effect r.held x) k.place
    ∙ (ap (λ (g : Effect). given_by e.place m g r.held x) k.effect ∙ given_is e.place e.value.id e.effect e.holds r.held (open_parts l m) x k.held)) in
    let here : add_here y ≡ add_of s (Took e ∷ l) e.place = kept_of_add s (Took e ∷ l) y h ∙ ap (add_of s (Took e ∷ l)) h.taken in
    let kept : d ≡ after_entry e (add_of s (Took e ∷ l) e.place) x =
    ed ∙ (ap (λ (g : Effect). marked_if (is_add w g) (add_here y) c) k.effect
    ∙ (ap (λ (a : AtAdd). marked_if (is_add w e.effect) a c) here ∙ ap (marked_if (is_add w e.effect) (add_of s (Took e ∷ l) e.place)) given)) in
    subst (λ (z : Donating). Donates s (Took e ∷ l) z) (sym kept) (donor_takes s l e x f (ps e.place (omega (arith, n))))

backlog_after : (l : Life) (e : Entry) (r : Entered) (z : Gtids) (x b : List Uncommitted) → Waits l x → IsEntered (open_parts l e.value.id.origin) e r → z ≡ executed l → b ≡ waiting_by z r.place e.value.id r.effect r.held x → Waits (Took e ∷ l) b
backlog_after l e r z x b f k ez eb =
    let i = e.value.id in
    let waits : b ≡ with_certs_waiting (executed l) (cert_of e) x =
    eb ∙ (ap (λ (z : Gtids). waiting_by z r.place i r.effect r.held x) ez
    ∙ (ap (λ (p : ℕ). waiting_by (executed l) p i r.effect r.held x) k.place
    ∙ (ap (λ (g : Effect). waiting_by (executed l) e.place i g r.held x) k.effect ∙ waiting_is (executed l) e.place i e.effect e.holds r.held (open_parts l i.origin) x k.held))) in
    subst (λ (us : List Uncommitted). Waits (Took e ∷ l) us) (sym waits) (backlog_takes l e x f)

-- ---- the certified transaction

pub certified_is : (l : Life) (e : Entry) (r : Entered) → IsEntered (open_parts l e.value.id.origin) e r → cert_held r.place e.value.id r.effect r.held ≡ cert_of e
certified_is l e r k =
    ap (λ (p : ℕ). cert_held p e.value.id r.effect r.held) k.place
    ∙ (ap (λ (g : Effect). cert_held e.place e.value.id g r.held) k.effect ∙ held_is e.place e.value.id e.effect e.holds r.held (open_parts l e.value.id.origin) k.held)

gtids_after : (l : Life) (e : Entry) (r : Entered) → IsEntered (open_parts l e.value.id.origin) e r → HasNumber r.effect → HasUuid r.effect → (c : Cert) → In c (cert_of e) → IsGtid c.gtid
gtids_after l e r k n u = subst (λ (cs : List Cert). (c : Cert) → In c cs → IsGtid c.gtid) (certified_is l e r k) (gtids_held r.place e.value.id r.effect r.held n u)

read_after : (l : Life) (e : Entry) (r : Entered) → IsEntered (open_parts l e.value.id.origin) e r → AreRead (cert_of e)
read_after l e r k = subst AreRead (certified_is l e r k) (read_held r.place e.value.id r.effect r.held (spelt_is (open_parts l e.value.id.origin) e.holds r.held k.held))

new_after : (s : Setup) (me : Inc) (l : Life) (e : Entry) → IsTrueEntry s me l e → IsNew l e
new_after s me l e t = record { place = omega (arith, t.next); gtid = λ c m a d n b. (t.certified c m).unknown d (in_all (all_in [] (stored l).committed) (certs l) d n) }

-- ---- the queue, the own transactions, the acknowledgements and the holds

queue_after : (me : Inc) (l : Life) (e : Entry) (r : Entered) (z : Gtids) (x y : Remote) → IsEntered (open_parts l e.value.id.origin) e r → z ≡ executed l → y ≡ with_remote me z (cert_held r.place e.value.id r.effect r.held) x
    → IsQueuedAfter me l e (with_remote me (executed l) (cert_of e) x) → IsQueuedAfter me l e y
queue_after me l e r z x y k ez ey q =
    subst (IsQueuedAfter me l e) (sym (ey ∙ (ap (λ (z : Gtids). with_remote me z (cert_held r.place e.value.id r.effect r.held) x) ez ∙ ap (λ (cs : List Cert). with_remote me (executed l) cs x) (certified_is l e r k)))) q

own_after : (me : Inc) (l : Life) (e : Entry) (r : Entered) (z : Gtids) (x y : List OwnWork) → IsEntered (open_parts l e.value.id.origin) e r → z ≡ executed l → y ≡ with_own me z (cert_held r.place e.value.id r.effect r.held) x → OwnOf me l x → OwnOf me (Took e ∷ l) y
own_after me l e r z x y k ez ey f =
    subst (OwnOf me (Took e ∷ l)) (sym (ey ∙ (ap (λ (z : Gtids). with_own me z (cert_held r.place e.value.id r.effect r.held) x) ez ∙ ap (λ (cs : List Cert). with_own me (executed l) cs x) (certified_is l e r k)))) (takes_own me l e x f)

acks_are : (s : Setup) (me : Inc) (l : Life) (e : Entry) (r : Entered) (y : Listed) (x a b c : List Waiting) → IsTrueEntry s me l e → IsEntered (open_parts l e.value.id.origin) e r → Follows s (Took e ∷ l) y → AwaitedOf s l x
    → ((g : Gtid) → awaited a g ≡ with_cert (cert_held r.place e.value.id r.effect r.held) (online_incs y.view) (awaited x) g) → ((g : Gtid) → awaited b g ≡ acknowledged_by e.value.id.origin r.held (awaited a) g)
    → ((g : Gtid) → awaited c g ≡ with_removed r.effect e.value.what (awaited b) g) → AwaitedOf s (Took e ∷ l) c
acks_are s me l e r y x a b c t k h f ea eb ec =
    let cs = cert_held r.place e.value.id r.effect r.held in
    acks_take s l e x c f (new_after s me l e t) (λ d m n _. (t.certified d n).unprepared m) (λ j d w g m _. t.joins j w g d m)
    (awaited_is (view s (Took e ∷ l)) e (open_parts l e.value.id.origin) r.held cs (awaited x) (awaited a) (awaited b) (awaited c) k.held (certified_is l e r k)
    (λ g. ea g ∙ ap (λ (v : View). with_cert cs (online_incs v) (awaited x) g) h.view) eb (λ g. ec g ∙ ap (λ (f : Effect). with_removed f e.value.what (awaited b) g) k.effect))

required_after : (s : Setup) (me : Inc) (l : Life) (e : Entry) (r : Entered) (y : Listed) (x z : Gtids) → IsTrueEntry s me l e → IsEntered (open_parts l e.value.id.origin) e r → Follows s (Took e ∷ l) y → ((c : Cert) → In c (cert_of e) → IsGtid c.gtid)
    → RequiredOf s me l x → z ≡ with_required me (online_incs y.view) (cert_held r.place e.value.id r.effect r.held) x → RequiredOf s me (Took e ∷ l) z
required_after s me l e r y x z t k h gs f ez =
    subst (RequiredOf s me (Took e ∷ l))
    (sym (ez ∙ (ap (λ (v : View). with_required me (online_incs v) (cert_held r.place e.value.id r.effect r.held) x) h.view ∙ ap (λ (cs : List Cert). with_required me (online_incs (view s (Took e ∷ l))) cs x) (certified_is l e r k))))
    (takes_requiring s me l e x f (new_after s me l e t) (λ c m _. gs c m))

holds_after : (s : Setup) (me : Inc) (l : Life) (e : Entry) (p : ℕ) (x y : MemberParts) → p ≡ e.place → HeldOf s me l x.waits → y.waits ≡ (if inc_eq e.value.id.origin me then map (placed e.value.id p) x.waits else x.waits) → HeldOf s me (Took e ∷ l) y.waits
holds_after s me l e p x y ep f ey = go (inc_eq e.value.id.origin me) refl
  where
    go : (b : Bool) → inc_eq e.value.id.origin me ≡ b → HeldOf s me (Took e ∷ l) y.waits
    go true o = subst (HeldOf s me (Took e ∷ l)) (sym (ey ∙ (rw o refl ∙ ap (λ (q : ℕ). map (placed e.value.id q) x.waits) ep))) (holds_take s me l x.waits e f)
    go false o = subst (HeldOf s me (Took e ∷ l)) (sym (ey ∙ rw o refl)) (foreign s me l x.waits e f o)

-- ---- the whole

-- what each call leaves of its part
pub record IsMade (me : Inc) (v : Value) (z : Gtids) (x y : MemberParts) (r : Entered) (d : Donating) (a b : List Waiting) : Type 0 where
  pub number : HasNumber r.effect
  pub uuid : HasUuid r.effect
  pub watch : y.watch ≡ record x.watch { watch = watched v.what r.effect x.watch.watch }
  pub given : d ≡ given_by r.place v.id.origin r.effect r.held x.donor
  pub donor : y.donor ≡ marked_if (is_add v.what r.effect) (add_here y.list) d
  pub backlog : y.backlog ≡ waiting_by z r.place v.id r.effect r.held x.backlog
  pub remotes : y.remotes ≡ with_remote me z (cert_held r.place v.id r.effect r.held) x.remotes
  pub own : y.own ≡ with_own me z (cert_held r.place v.id r.effect r.held) x.own
  pub first : (g : Gtid) → awaited a g ≡ with_cert (cert_held r.place v.id r.effect r.held) (online_incs y.list.view) (awaited x.acks) g
  pub second : (g : Gtid) → awaited b g ≡ acknowledged_by v.id.origin r.held (awaited a) g
  pub acks : (g : Gtid) → awaited y.acks g ≡ with_removed r.effect v.what (awaited b) g
  pub required : y.required ≡ with_required me (online_incs y.list.view) (cert_held r.place v.id r.effect r.held) x.required
  pub sent : y.sent ≡ x.sent
  pub waits : y.waits ≡ (if inc_eq v.id.origin me then map (placed v.id r.place) x.waits else x.waits)

pub stands_on : (s : Setup) (me : Inc) (l : Life) (t : ℕ) (b : Bool) (v : Value) (z : Gtids) (x y : MemberParts) (r : Entered) (d : Donating) (p q : List Waiting)
    → IsListed x y.list t b v r → IsMade me v z x y r d p q → IsInc v.id.origin → z ≡ executed l → is_error (state l) ≡ false → IsTrueEntry s me l (entry s l t b v) → StandsFor s me l x
    → StandsFor s me (Took (entry s l t b v) ∷ l) y
stands_on s me l t b v z x y r d p q i h n ez w u f =
    let e = entry s l t b v in
    let k : IsEntered (open_parts l v.id.origin) e r = entered_is s me l t b v x r f i.entered in
    let list : Follows s (Took e ∷ l) y.list = list_after s me l t b v x y.list r f n i in
    let gs : (c : Cert) → In c (cert_of e) → IsGtid c.gtid = gtids_after l e r k h.number h.uuid in
    let queue : IsQueuedAfter me l e y.remotes =
    queue_after me l e r z x.remotes y.remotes k ez h.remotes (takes_remote me l e x.remotes f.queue (omega (arith, f.free)) w (f.orderly.undone e.place (omega arith))) in
    record {
      list = list;
      watch = watch_after s me l e x.watch y.watch r.effect f.watch k.effect h.watch;
      donor = donor_after s me l e r x.donor y.donor d y.list f.donor refl f.orderly.untaken k list h.given h.donor;
      backlog = backlog_after l e r z x.backlog y.backlog f.backlog k ez h.backlog;
      queue = queue.queue;
      free = queue.free;
      own = own_after me l e r z x.own y.own k ez h.own f.own;
      acks = acks_are s me l e r y.list x.acks p q y.acks u k list f.acks h.first h.second h.acks;
      required = required_after s me l e r y.list x.required y.required u k list gs f.required h.required;
      sent = subst (SentOf (Took e ∷ l)) (sym h.sent) (passes_sent l (Took e) x.sent refl f.sent);
      waits = holds_after s me l e r.place x y k.place f.waits h.waits;
      orderly = takes_orderly s me l e f.orderly f.acks.placed u gs (read_after l e r k);
    }
