-- What happens at a point, act by act.
use Rattle.std.proofs.Common.{◌≡◌, inl, inr, ◌+◌, ◌≤◌, ◌<◌, ℕ, Bool, true, false, ◌&&◌, List, [], ◌∷◌, ◌++◌, map, drop, length, get_or, suc, add-one, refl, sym, ap, ◌∙◌, subst, append_assoc}
use Rattle.std.proofs.lemmas.List.{append-nil, drop_all}
use Rattle.std.proofs.Math.Seq.{drop-cons}
use Rattle.name_forms.specs.Gtids.{IsGtid}
use Rattle.gtid_sets.specs.Sets.{Gtids}
use Rattle.group_rules.specs.Commit.{may_commit, owes_prepared}
use Rattle.group_rules.specs.Events.{Cert, Committed, Life}
use Rattle.group_rules.specs.Life.{executed, is_error, state}
use Rattle.group_rules.specs.Member.{Member, for_each, own_body, push}
use Rattle.txn_forms.specs.declared.body.Body.TheVariants.{Online as Arrives, Prepared}
use Rattle.group_rules.specs.Points.{answer_own, arrive, begin_all, commit_all, commit_one, point, prepare_all, prepare_one, unless_pending}
use Rattle.group_rules.specs.Queue.{pending}
use Rattle.node_rules.specs.Lists.{In}
use Rattle.member_truth.specs.Growing.{Grows}
use Rattle.member_truth.proofs.Grown.{arrives, begins_all, commits_one, prepares, prepares_one, promised}
use Rattle.member_backlog.specs.declared.uncommitted.Uncommitted.{Uncommitted}
use Rattle.member_backlog.specs.Standing.{uncommitted_of}
use Rattle.member_parts.specs.Committing.{IsPending}
use Rattle.member_parts.proofs.Committed.{in_certs}
use Rattle.member_moment.specs.declared.moment.Moment.{Moment}
use Rattle.member_moment.specs.Doing.{Does, DoesIf, IsKept}
use Rattle.member_moment.specs.Standing.{Stands}
use Rattle.member_moment.specs.Telling.{is_arriving, is_none}
use Rattle.member_moment.proofs.Doing.{does_same}
use Rattle.member_core.specs.Points.{DoesOne, IsWell, point_well}
use Rattle.member_core.proofs.Pending.{Leaves, Same, commits_each, commits_well, have_gtids, it_was, pending_same, prepares_each, waits_still}

-- ---- the own Online entry

arrives_where : (b : Bool) (cs : List Cert) (a : Member) → (b && is_none cs) ≡ true → elim b [ true ↦ unless_pending cs a | false ↦ a ] ≡ own_body (Arrives (executed a.life)) a
arrives_where true [] a h = refl
arrives_where true (c ∷ cs) a h = absurd (cc h)
arrives_where false cs a h = absurd (cc h)

stays_where : (b : Bool) (cs : List Cert) (a : Member) → (b && is_none cs) ≡ false → elim b [ true ↦ unless_pending cs a | false ↦ a ] ≡ a
stays_where true [] a h = absurd (cc h)
stays_where true (c ∷ cs) a h = refl
stays_where false cs a h = refl

pub does_arrive : (x z : Moment) (set : Gtids) → ((base : Life) (a : Member) → Stands base a x → true ≡ is_arriving a) → ((base : Life) (a : Member) → Stands base a x → set ≡ executed a.life) → Does (own_body (Arrives set)) x z → Does arrive x z
does_arrive x z set t e d = does_same arrive (own_body (Arrives set)) x z (λ base a st. arrives_where _ (pending a.life) a (sym (t base a st)) ∙ ap (λ s. own_body (Arrives s) a) (sym (e base a st))) d

pub does_not_arrive : (x : Moment) → ((base : Life) (a : Member) → Stands base a x → false ≡ is_arriving a) → Does arrive x x
does_not_arrive x t = does_same arrive (λ a. a) x x (λ base a st. stays_where _ (pending a.life) a (sym (t base a st))) (λ base a k st. st)

-- ---- a Prepared entry

pub not_owed : (u : Uncommitted) (x : Moment) → ((base : Life) (a : Member) (c : Cert) → IsPending a.life c u → Stands base a x → false ≡ owes_prepared a.setup a.life a.me.inc c) → DoesOne prepare_one u x x
not_owed u x t base a c p k st = subst (λ b. Stands base b x) (sym (ap (λ b. elim b [ true ↦ own_body (Prepared c.gtid) a | false ↦ a ]) (sym (t base a c p st)))) st

pub is_owed : (u : Uncommitted) (x z : Moment) → ((base : Life) (a : Member) (c : Cert) → IsPending a.life c u → Stands base a x → true ≡ owes_prepared a.setup a.life a.me.inc c) → Does (own_body (Prepared u.gtid)) x z → DoesOne prepare_one u x z
is_owed u x z t d base a c p k st =
    let e : prepare_one c a ≡ own_body (Prepared u.gtid) a = ap (λ b. elim b [ true ↦ own_body (Prepared c.gtid) a | false ↦ a ]) (sym (t base a c p st)) ∙ ap (λ g. own_body (Prepared g) a) (sym (ap (λ v. v.gtid) p.is_it)) in
    subst (λ b. Stands base b z) (sym e) (d base a (subst IsKept e k) st)

-- a GTID that is pending is in range
pub out_of_range : (u : Uncommitted) (x : Moment) → (IsGtid u.gtid → ⊥) → DoesOne prepare_one u x x
out_of_range u x h base a c p k st =
    let g = st.rest.parts.orderly.gtids c (in_certs a.life c p.waits) in
    let e : c.gtid ≡ u.gtid = sym (ap (λ (v : Uncommitted). v.gtid) p.is_it) in
    absurd (h (subst IsGtid e (record { source = g.0.long; number_above = g.1.0; number_below = g.1.1 })))

-- ---- for each that is pending

-- those before are done, and these are left
pub record Along (f : Cert → Member → Member) (us : List Uncommitted) (base : Life) (a : Member) (y : Moment) : Type 0 where
  pub done : List Cert
  pub left : List Cert
  pub whole : pending a.life ≡ done ++ left
  pub are : us ≡ map uncommitted_of left
  pub stands : IsKept (for_each f done a) → Stands base (for_each f done a) y

abbrev pub AreDone : (Cert → Member → Member) → List Uncommitted → Moment → Moment → Type 0
AreDone f us x y = (base : Life) (a : Member) → IsWell a → Stands base a x → Along f us base a y

each_and_one : (f : Cert → Member → Member) (xs : List Cert) (x : Cert) (a : Member) → for_each f (xs ++ x ∷ []) a ≡ f x (for_each f xs a)
each_and_one f [] x a = refl
each_and_one f (y ∷ ys) x a = each_and_one f ys x (f y a)

pub none_done : (f : Cert → Member → Member) (us : List Uncommitted) (x : Moment) → ((base : Life) (a : Member) → Stands base a x → us ≡ map uncommitted_of (pending a.life)) → AreDone f us x x
none_done f us x e base a w st = record { done = []; left = pending a.life; whole = refl; are = e base a st; stands = λ k. st }

-- the act leaves those behind it pending
abbrev LeavesPending : (Cert → Member → Member) → Type 0
LeavesPending f = (base : Life) (a : Member) (x : Moment) (ds : List Cert) (c : Cert) (es : List Cert) → IsWell a → Stands base a x → pending a.life ≡ ds ++ c ∷ es → IsPending (for_each f ds a).life c (uncommitted_of c)

one_done : (f : Cert → Member → Member) → LeavesPending f → ((c : Cert) (a : Member) → Grows a (f c a)) → (u : Uncommitted) (us : List Uncommitted) (x y z : Moment) → AreDone f (u ∷ us) x y → DoesOne f u y z → AreDone f us x z
one_done f h grows u us x y z d o base a w st = go g.left g.whole g.are
  where
    g : Along f (u ∷ us) base a y
    g = d base a w st

    go : (cs : List Cert) → pending a.life ≡ g.done ++ cs → u ∷ us ≡ map uncommitted_of cs → Along f us base a z
    go [] ew ea = absurd (cc ea)
    go (c ∷ cs) ew ea =
        let is_it : u ≡ uncommitted_of c = cc in
        let rest : us ≡ map uncommitted_of cs = cc in
        let p : IsPending (for_each f g.done a).life c (uncommitted_of c) = h base a x g.done c cs w st ew in
        record {
          done = g.done ++ c ∷ [];
          left = cs;
          whole = ew ∙ sym (append_assoc g.done (c ∷ []) cs);
          are = rest;
          stands = λ k.
              (let e : for_each f (g.done ++ c ∷ []) a ≡ f c (for_each f g.done a) = each_and_one f g.done c a in
              let k' : IsKept (f c (for_each f g.done a)) = subst IsKept e k in
              subst (λ b. Stands base b z) (sym e) (o base (for_each f g.done a) c (subst (IsPending (for_each f g.done a).life c) (sym is_it) p) k' (g.stands (promised (grows c (for_each f g.done a)) k'))));
        }

pub all_done : (f : Cert → Member → Member) (x y : Moment) → AreDone f [] x y → DoesIf IsWell (λ a. for_each f (pending a.life) a) x y
all_done f x y d base a w k st = go g.left g.whole g.are
  where
    g : Along f [] base a y
    g = d base a w st

    go : (cs : List Cert) → pending a.life ≡ g.done ++ cs → [] ≡ map uncommitted_of cs → Stands base (for_each f (pending a.life) a) y
    go [] ew ea =
        let e : pending a.life ≡ g.done = ew ∙ append-nil g.done in
        subst (λ cs. Stands base (for_each f cs a) y) (sym e) (g.stands (subst (λ cs. IsKept (for_each f cs a)) e k))
    go (c ∷ cs) ew ea = absurd (cc ea)

commits_leave : LeavesPending commit_one
commits_leave base a x ds c es w st e =
    let f = st.rest.parts in
    let l : Leaves a.life (for_each commit_one ds a).life ds = commits_each ds a (have_gtids a.setup a.me.inc a.life x.parts f ds c es e) f.backlog.set in
    record {
      well = ap is_error l.own_state ∙ w;
      waits = waits_still a.setup a.me.inc a.life x.parts f ds c es e (for_each commit_one ds a).life l;
      is_it = refl;
    }

prepares_leave : LeavesPending prepare_one
prepares_leave base a x ds c es w st e =
    let s : Same a.life (for_each prepare_one ds a).life = prepares_each ds a in
    let f = st.rest.parts in
    record {
      well = ap is_error s.own_state ∙ w;
      waits = subst (In c) (sym (pending_same a.life (for_each prepare_one ds a).life s)) (it_was a.setup a.me.inc a.life x.parts f ds c es e);
      is_it = refl;
    }

pub one_committed : (u : Uncommitted) (us : List Uncommitted) (x y z : Moment) → AreDone commit_one (u ∷ us) x y → DoesOne commit_one u y z → AreDone commit_one us x z
one_committed = one_done commit_one commits_leave commits_one

pub one_prepared : (u : Uncommitted) (us : List Uncommitted) (x y z : Moment) → AreDone prepare_one (u ∷ us) x y → DoesOne prepare_one u y z → AreDone prepare_one us x z
one_prepared = one_done prepare_one prepares_leave prepares_one

-- ---- a loop over those that waited

drops_one : (us : List Uncommitted) (i : ℕ) (u : Uncommitted) → i < length us → u ≡ get_or us i u → drop i us ≡ u ∷ drop (i + 1) us
drops_one us i u h e = rw add-one (drop-cons us i u h ∙ ap (λ v. v ∷ drop (suc i) us) (sym e))

pub next_committed : (us : List Uncommitted) (i : ℕ) (u : Uncommitted) (x y z : Moment) → i < length us → u ≡ get_or us i u → AreDone commit_one (drop i us) x y → DoesOne commit_one u y z → AreDone commit_one (drop (i + 1) us) x z
next_committed us i u x y z h e d o = one_committed u (drop (i + 1) us) x y z (subst (λ vs. AreDone commit_one vs x y) (drops_one us i u h e) d) o

pub next_prepared : (us : List Uncommitted) (i : ℕ) (u : Uncommitted) (x y z : Moment) → i < length us → u ≡ get_or us i u → AreDone prepare_one (drop i us) x y → DoesOne prepare_one u y z → AreDone prepare_one (drop (i + 1) us) x z
next_prepared us i u x y z h e d o = one_prepared u (drop (i + 1) us) x y z (subst (λ vs. AreDone prepare_one vs x y) (drops_one us i u h e) d) o

pub ends_at : (f : Cert → Member → Member) (us : List Uncommitted) (i : ℕ) (x y : Moment) → length us ≤ i → AreDone f (drop i us) x y → DoesIf IsWell (λ a. for_each f (pending a.life) a) x y
ends_at f us i x y h d = all_done f x y (subst (λ vs. AreDone f vs x y) (drop_all i us h) d)

-- ---- where none passes its test

idle : (f : Cert → Member → Member) (cs : List Cert) (a : Member) → ((c : Cert) → In c cs → f c a ≡ a) → for_each f cs a ≡ a
idle f [] a h = refl
idle f (c ∷ cs) a h = ap (for_each f cs) (h c (inl refl)) ∙ idle f cs a (λ d m. h d (inr m))

none_moves : (f : Cert → Member → Member) (x : Moment) → ((base : Life) (a : Member) → Stands base a x → IsWell a → (c : Cert) → In c (pending a.life) → f c a ≡ a) → DoesIf IsWell (λ a. for_each f (pending a.life) a) x x
none_moves f x h base a w k st = subst (λ b. Stands base b x) (sym (idle f (pending a.life) a (h base a st w))) st

pub commits_none : (x : Moment) → ((base : Life) (a : Member) → Stands base a x → IsWell a → (c : Cert) → In c (pending a.life) → may_commit a.setup a.life a.me.inc c ≡ false) → DoesIf IsWell commit_all x x
commits_none x h = none_moves commit_one x (λ base a st w c m. ap (λ b. elim b [ true ↦ answer_own c (push (Committed c.gtid) a) | false ↦ a ]) (h base a st w c m))

pub prepares_none : (x : Moment) → ((base : Life) (a : Member) → Stands base a x → IsWell a → (c : Cert) → In c (pending a.life) → owes_prepared a.setup a.life a.me.inc c ≡ false) → DoesIf IsWell prepare_all x x
prepares_none x h = none_moves prepare_one x (λ base a st w c m. ap (λ b. elim b [ true ↦ own_body (Prepared c.gtid) a | false ↦ a ]) (h base a st w c m))

-- ---- all of it

pub does_well : (x y z v w : Moment) → DoesIf IsWell commit_all x y → DoesIf IsWell prepare_all y z → Does begin_all z v → Does arrive v w → DoesIf IsWell point_well x w
does_well x y z v w d e f g base a h k st =
    let b : Member = commit_all a in
    let c : Member = prepare_all b in
    let begun : IsKept (begin_all c) = promised (arrives (begin_all c)) k in
    let prepared : IsKept c = promised (begins_all c) begun in
    let well : IsWell b = ap is_error (commits_well (pending a.life) a) ∙ h in
    g base (begin_all c) k (f base c begun (e base b well prepared (d base a h (promised (prepares b) prepared) st)))

pub does_point : (x y : Moment) → ((base : Life) (a : Member) → Stands base a x → is_error (state a.life) ≡ false) → DoesIf IsWell point_well x y → Does point x y
unfolding point
does_point x y t d base a k st =
    let e : point a ≡ point_well a = ap (λ b. elim b [ true ↦ begin_all a | false ↦ point_well a ]) (t base a st) in
    subst (λ b. Stands base b y) (sym e) (d base a (t base a st) (subst IsKept e k) st)

pub in_error : (x y : Moment) → ((base : Life) (a : Member) → Stands base a x → is_error (state a.life) ≡ true) → Does begin_all x y → Does point x y
unfolding point
in_error x y t d base a k st =
    let e : point a ≡ begin_all a = ap (λ b. elim b [ true ↦ begin_all a | false ↦ point_well a ]) (t base a st) in
    subst (λ b. Stands base b y) (sym e) (d base a (subst IsKept e k) st)
