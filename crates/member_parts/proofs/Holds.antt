-- What changes the held begins alone.
use Rattle.std.proofs.Common.{◌≡◌, ◌≤◌, ℕ, suc, false, not, Option, Some, None, List, [], ◌∷◌, map, refl, sym, ap, ◌∙◌, subst, arith}
use Rattle.std.specs.Prelude.{filter, MatchOption, Result, Ok, Err, OnOk, IfOk}
use Rattle.gr_ids.specs.declared.memory.Memory.{Memory}
use Rattle.std.proofs.Common.{eq-eqb}
use Rattle.gr_ids.specs.declared.levels.Level.{Level}
use Rattle.gr_ids.specs.declared.names.Inc.{Inc}
use Rattle.gtid_sets.specs.Sets.{Gtids}
use Rattle.group_rules.specs.declared.holds.Conditions.{Conditions}
use Rattle.group_rules.specs.declared.holds.Pending.{Pending}
use Rattle.group_rules.specs.Events.{Begun, Called, Did, Ends, Life, Setup}
use Rattle.group_rules.specs.Holds.{conditions, standing}
use Rattle.group_rules.specs.Life.{executed, taken}
use Rattle.group_rules.specs.Member.{Member, push}
use Rattle.group_rules.specs.Points.{begin_all}
use Rattle.group_rules.specs.Sessions.{is_holding, phase}
use Rattle.apply_queue.specs.Following.{is_of_queue}
use Rattle.apply_queue.proofs.Lives.{passes as queue_passes}
use Rattle.consistency_waits.specs.Following.{HeldOf, begins}
use Rattle.consistency_waits.specs.Holding.{is_due, is_held, last_tick, new_hold, released_as, with_hold, without}
use Rattle.consistency_waits.specs.declared.held.Released.{Released}
use Rattle.consistency_waits.proofs.Begins.{all_begin, left_held}
use Rattle.consistency_waits.proofs.Finding.{held_none, in_without}
use Rattle.consistency_waits.proofs.Histories.{begun, calls, ended, others}
use Rattle.donor_recovery.specs.Laws.{is_of_donor}
use Rattle.donor_recovery.proofs.Donors.{passes as donor_passes}
use Rattle.failure_events.specs.Watching.{is_of_watch}
use Rattle.failure_events.proofs.Histories.{passes as watch_passes}
use Rattle.list_state.specs.Following.{is_of_list}
use Rattle.list_state.proofs.Followed.{passed as list_passes}
use Rattle.member_backlog.specs.Standing.{is_of_backlog}
use Rattle.member_backlog.specs.Waiting.{pending_of}
use Rattle.member_backlog.proofs.Backlogs.{passes as backlog_passes, pending_told}
use Rattle.prepare_acks.specs.Following.{is_making, is_of_acks}
use Rattle.prepare_acks.proofs.Awaiting.{passes_awaited}
use Rattle.prepare_acks.proofs.Requiring.{passes_requiring}
use Rattle.prepare_acks.proofs.Sending.{passes_sent}
use Rattle.member_parts.specs.declared.parts.MemberParts.{MemberParts}
use Rattle.member_parts.specs.Remote.{free_from}
use Rattle.member_parts.specs.Standing.{OwnOf, StandsFor}
use Rattle.member_parts.proofs.Orderly.{is_of_order, passes_orderly}

-- it is of no other part
pub record IsOfHolds (me : Inc) (l : Life) (d : Did) (x : MemberParts) : Type 0 where
  pub list : is_of_list d ≡ false
  pub watch : is_of_watch d ≡ false
  pub donor : is_of_donor d ≡ false
  pub backlog : is_of_backlog d ≡ false
  pub queue : is_of_queue d ≡ false
  pub taken : taken (d ∷ l) ≡ taken l
  pub own : OwnOf me l x.own → OwnOf me (d ∷ l) x.own
  pub acks : is_of_acks d ≡ false
  pub sent : is_making d ≡ false
  pub order : is_of_order d ≡ false

holds_change : (s : Setup) (me : Inc) (l : Life) (d : Did) (x y : MemberParts) → IsOfHolds me l d x → HeldOf s me (d ∷ l) y.waits → StandsFor s me l x → StandsFor s me (d ∷ l) (record x { waits = y.waits })
holds_change s me l d x y n h f = record {
  list = list_passes s l x.list d n.list f.list;
  watch = watch_passes s me l d x.watch n.watch f.watch;
  donor = donor_passes s l x.donor d n.donor f.donor;
  backlog = backlog_passes l d x.backlog n.backlog f.backlog;
  queue = queue_passes me l d x.remotes.queue n.queue f.queue;
  free = subst (λ (k : ℕ). free_from x.remotes.last ≤ suc k) (sym n.taken) f.free;
  own = n.own f.own;
  acks = passes_awaited s l d x.acks n.acks f.acks;
  required = passes_requiring s me l d x.required n.acks f.required;
  sent = passes_sent l d x.sent n.sent f.sent;
  waits = h;
  orderly = passes_orderly me l d n.order f.orderly;
}

-- ---- a begin call and an end

pub is_free : (x : MemberParts) (t : ℕ) → is_held (without t x.waits) t ≡ false
is_free x t = held_none (without t x.waits) t (in_without x.waits t t ∙ rw (eq-eqb t t refl) refl)

pub stands_called : (s : Setup) (me : Inc) (l : Life) (t : ℕ) (v : Level) (w : ℕ) (k : Conditions) (x y z : MemberParts) → z.waits ≡ without t x.waits → y.waits ≡ with_hold z.waits (new_hold t k w) → k ≡ conditions s me v l → is_holding (phase l t) ≡ false → w ≤ last_tick
    → StandsFor s me l x → StandsFor s me (Called t v w ∷ l) (record x { waits = y.waits })
stands_called s me l t v w k x y z ez ey ek h u f =
    let same : y.waits ≡ with_hold x.waits (new_hold t (conditions s me v l) w) =
    ey ∙ (ap (λ hs. with_hold hs (new_hold t k w)) (ez ∙ others s me l x.waits t f.waits h) ∙ ap (λ (c : Conditions). with_hold x.waits (new_hold t c w)) ek) in
    holds_change s me l (Called t v w) x y (record { list = refl; watch = refl; donor = refl; backlog = refl; queue = refl; taken = refl; own = λ o. o; acks = refl; sent = refl; order = refl })
    (subst (HeldOf s me (Called t v w ∷ l)) (sym same) (calls s me l x.waits t v w f.waits h (f.orderly.unmade _ (omega arith)) u)) f

pub stands_ended : (s : Setup) (me : Inc) (l : Life) (t : ℕ) (x y : MemberParts) → y.waits ≡ without t x.waits → StandsFor s me l x → StandsFor s me (Ends t ∷ l) (record x { waits = y.waits })
stands_ended s me l t x y e f =
    holds_change s me l (Ends t) x y (record { list = refl; watch = refl; donor = refl; backlog = refl; queue = refl; taken = refl; own = λ o. o; acks = refl; sent = refl; order = refl })
    (subst (HeldOf s me (Ends t ∷ l)) (sym e) (ended s me l x.waits t f.waits)) f

-- ---- begins

stands_begun : (s : Setup) (me : Inc) (l : Life) (t : ℕ) (e : Gtids) (p : Option ℕ) (x : MemberParts) → StandsFor s me l x → StandsFor s me (Begun t e p ∷ l) (record x { waits = without t x.waits })
stands_begun s me l t e p x f =
    holds_change s me l (Begun t e p) x (record x { waits = without t x.waits }) (record { list = refl; watch = refl; donor = refl; backlog = refl; queue = refl; taken = refl; own = λ o. o; acks = refl; sent = refl; order = refl })
    (begun s me l x.waits t e p f.waits) f

begins_stand : (s : Setup) (me : Inc) (e : Gtids) (rs : List Released) (a : Member) (x : MemberParts) → StandsFor s me a.life x → (y : MemberParts) × StandsFor s me (begins e rs a).life (record x { waits = y.waits })
begins_stand s me e [] a x f = (x, f)
begins_stand s me e (r ∷ rs) a x f = begins_stand s me e rs (push (Begun r.session e r.sync) a) (record x { waits = without r.session x.waits }) (stands_begun s me a.life r.session e r.sync x f)

other_holds : (s : Setup) (me : Inc) (l : Life) (x y z : MemberParts) → StandsFor s me l (record x { waits = y.waits }) → HeldOf s me l z.waits → StandsFor s me l (record x { waits = z.waits })
other_holds s me l x y z f h = record { list = f.list; watch = f.watch; donor = f.donor; backlog = f.backlog; queue = f.queue; free = f.free; own = f.own; acks = f.acks; required = f.required; sent = f.sent; waits = h; orderly = f.orderly }

pub released_are : (a : Member) (x : MemberParts) (ps : List Pending) (rs : List Released) → ps ≡ pending_of x.backlog → rs ≡ map released_as (filter (is_due ps) x.waits) → StandsFor a.setup a.me.inc a.life x → begin_all a ≡ begins (executed a.life) rs a
released_are a x ps rs ep er f =
    all_begin a x.waits f.waits ∙ ap (λ (qs : List Released). begins (executed a.life) qs a) (sym (er ∙ ap (λ (ws : List Pending). map released_as (filter (is_due ws) x.waits)) (ep ∙ pending_told a.life x.backlog f.backlog)))

pub stands_released : (a : Member) (x y : MemberParts) (ps : List Pending) → ps ≡ pending_of x.backlog → y.waits ≡ filter (λ h. not (is_due ps h)) x.waits → StandsFor a.setup a.me.inc a.life x → StandsFor a.setup a.me.inc (begin_all a).life (record x { waits = y.waits })
stands_released a x y ps ep ey f =
    let now : ps ≡ standing a.life = ep ∙ pending_told a.life x.backlog f.backlog in
    let k = begins_stand a.setup a.me.inc (executed a.life) (map released_as (filter (is_due (standing a.life)) x.waits)) a x f in
    let there : StandsFor a.setup a.me.inc (begin_all a).life (record x { waits = k.0.waits }) =
    subst (λ (b : Member). StandsFor a.setup a.me.inc b.life (record x { waits = k.0.waits })) (sym (all_begin a x.waits f.waits)) k.1 in
    other_holds a.setup a.me.inc (begin_all a).life x k.0 y there
    (subst (HeldOf a.setup a.me.inc (begin_all a).life) (sym (ey ∙ ap (λ (ws : List Pending). filter (λ h. not (is_due ws h)) x.waits) now)) (left_held a x.waits f.waits))

-- ---- after a call

pub released_out : {A : Type 0} (r : Result A Memory) (P : A → Type 0) (Q : A → Type 0) → ((x : A) → P x → Q x) → IfOk r P → IfOk r Q
released_out (Ok x) P Q f h = f x h
released_out (Err e) P Q f h = tt

pub left_out : {A : Type 0} (r : Result A Memory) (P Q : Type 0) → (P → Q) → OnOk r P → OnOk r Q
left_out (Ok x) P Q f h = f h
left_out (Err e) P Q f h = tt

pub timed_out_as : (o : Option (ℕ × ℕ)) (x y : MemberParts) → MatchOption o (y.waits ≡ x.waits) (λ p. y.waits ≡ without p.0 x.waits)
    → MatchOption o (record x { waits = y.waits } ≡ x) (λ p. (s : Setup) (me : Inc) (l : Life) → StandsFor s me l x → StandsFor s me (Ends p.0 ∷ l) (record x { waits = y.waits }))
timed_out_as None x y h = ap (λ hs. record x { waits = hs }) h
timed_out_as (Some p) x y h = λ s me l f. stands_ended s me l p.0 x y h f
