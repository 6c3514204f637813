-- Acts for each transaction that is pending: those not yet reached are pending still.
use Rattle.std.proofs.Common.{◌≡◌, ◌<◌, inl, inr, ℕ, Bool, true, false, ◌||◌, not, List, [], ◌∷◌, ◌++◌, refl, sym, ap, ◌∙◌, subst, arith, true≢false}
use Rattle.std.specs.Prelude.{filter, reverse}
use Rattle.gr_ids.specs.declared.names.Gtid.{Gtid}
use Rattle.gr_ids.specs.declared.names.Inc.{Inc}
use Rattle.gr_ids.specs.Names.{gtid_eq}
use Rattle.gtid_sets.specs.Canonical.{IsCanonical, IsNumber, IsUuid}
use Rattle.gtid_sets.specs.Sets.{Gtids, has}
use Rattle.gtid_sets.proofs.LawLemmas.{all_with_gtid}
use Rattle.gtid_sets.proofs.PutLemmas.{canonical_with_gtid}
use Rattle.node_rules.specs.Lists.{In}
use Rattle.group_rules.specs.Commit.{may_commit, owes_prepared}
use Rattle.group_rules.specs.Events.{Cert, Committed, Life, Setup}
use Rattle.group_rules.specs.Life.{certs, executed, state}
use Rattle.group_rules.specs.Member.{Member, for_each, last_answer, own_body, push}
use Rattle.group_rules.specs.declared.answers.Answer.TheVariants.{Committed as CommittedAs}
use Rattle.txn_forms.specs.declared.body.Body.TheVariants.{Prepared}
use Rattle.group_rules.specs.Points.{answer_commit, answer_own, asks_this, commit_one, prepare_one}
use Rattle.group_rules.specs.Queue.{is_own, pending}
use Rattle.group_rules.specs.Sessions.{phase, sessions}
use Rattle.apply_queue.specs.Following.{IsRising}
use Rattle.apply_queue.proofs.Lists.{in_filter}
use Rattle.member_parts.specs.declared.parts.MemberParts.{MemberParts}
use Rattle.member_parts.specs.Standing.{StandsFor}
use Rattle.member_parts.proofs.Committed.{in_certs, pending_rises}

-- what is certified and the state are the same, and what is executed but for these
pub record Leaves (l k : Life) (ds : List Cert) : Type 0 where
  pub own_state : state k ≡ state l
  pub certified : certs k ≡ certs l
  pub set : IsCanonical (executed k)
  pub others : (g : Gtid) → ((d : Cert) → In d ds → gtid_eq d.gtid g ≡ false) → has (executed k) g ≡ has (executed l) g

-- ---- lists

into_filter : (p : Cert → Bool) (x : Cert) (xs : List Cert) → In x xs → p x ≡ true → In x (filter p xs)
into_filter p x [] m h = absurd m
into_filter p x (y ∷ ys) m h = go (p y) refl m (λ n. into_filter p x ys n h)
  where
    go : (b : Bool) → p y ≡ b → In x (y ∷ ys) → (In x ys → In x (filter p ys)) → In x (filter p (y ∷ ys))
    go true e (inl same) k = rw e (inl same)
    go true e (inr n) k = rw e (inr (k n))
    go false e (inl same) k = absurd (true≢false (sym h ∙ (ap p (sym same) ∙ e)))
    go false e (inr n) k = rw e (k n)

in_front : (ds : List Cert) (es : List Cert) (d : Cert) → In d ds → In d (ds ++ es)
in_front [] es d m = absurd m
in_front (x ∷ xs) es d (inl e) = inl e
in_front (x ∷ xs) es d (inr m) = inr (in_front xs es d m)

in_middle : (ds : List Cert) (c : Cert) (es : List Cert) → In c (ds ++ c ∷ es)
in_middle [] c es = inl refl
in_middle (x ∷ xs) c es = inr (in_middle xs c es)

place_before : (ds : List Cert) (c : Cert) (es : List Cert) (d : Cert) → IsRising (ds ++ c ∷ es) → In d ds → d.place < c.place
place_before [] c es d k m = absurd m
place_before (x ∷ xs) c es d k (inl e) = subst (λ z. z.place < c.place) e (k.0 c (in_middle xs c es))
place_before (x ∷ xs) c es d k (inr m) = place_before xs c es d k.1 m

-- ---- what acts leave

-- what is certified and executed and the state are the same
pub record Same (l k : Life) : Type 0 where
  pub own_state : state k ≡ state l
  pub certified : certs k ≡ certs l
  pub done : executed k ≡ executed l

same_still : (l : Life) → Same l l
same_still l = record { own_state = refl; certified = refl; done = refl }

same_then : {j k l : Life} → Same j k → Same k l → Same j l
same_then p q = record { own_state = q.own_state ∙ p.own_state; certified = q.certified ∙ p.certified; done = q.done ∙ p.done }

either_same : (l : Life) (b : Bool) (x y : Member) → Same l x.life → Same l y.life → (let r : Member = elim b [ true ↦ x | false ↦ y ] in Same l r.life)
either_same l true x y p q = p
either_same l false x y p q = q

answers_one : (c : Cert) (s : ℕ) (a : Member) → Same a.life (answer_commit c s a).life
answers_one c s a = either_same a.life (asks_this c (phase a.life s)) (last_answer s (CommittedAs c.gtid) a) a (record { own_state = refl; certified = refl; done = refl }) (same_still a.life)

answers_each : (c : Cert) (ss : List ℕ) (a : Member) → Same a.life (for_each (answer_commit c) ss a).life
answers_each c [] a = same_still a.life
answers_each c (s ∷ ss) a = same_then (answers_one c s a) (answers_each c ss (answer_commit c s a))

answers_own : (c : Cert) (a : Member) → Same a.life (answer_own c a).life
answers_own c a = either_same a.life (is_own a.me.inc c) (for_each (answer_commit c) (sessions a.life) a) a (answers_each c (sessions a.life) a) (same_still a.life)

leaves_still : (l : Life) (ds : List Cert) → IsCanonical (executed l) → Leaves l l ds
leaves_still l ds k = record { own_state = refl; certified = refl; set = k; others = λ g h. refl }

leaves_same : (j k l : Life) (ds : List Cert) → Leaves j k ds → Same k l → Leaves j l ds
leaves_same j k l ds p q = record { own_state = q.own_state ∙ p.own_state; certified = q.certified ∙ p.certified; set = subst IsCanonical (sym q.done) p.set; others = λ g h. ap (λ e. has e g) q.done ∙ p.others g h }

leaves_then : (j k l : Life) (d : Cert) (ds : List Cert) → Leaves j k (d ∷ []) → Leaves k l ds → Leaves j l (d ∷ ds)
leaves_then j k l d ds p q = record {
  own_state = q.own_state ∙ p.own_state;
  certified = q.certified ∙ p.certified;
  set = q.set;
  others = λ g h. q.others g (λ e m. h e (inr m)) ∙ p.others g (λ e m. h e (elim m [ inl x ↦ inl x | inr y ↦ absurd y ]));
}

commits_it : (c : Cert) (l : Life) → IsUuid c.gtid.source → IsNumber c.gtid.number → IsCanonical (executed l) → Leaves l (Committed c.gtid ∷ l) (c ∷ [])
commits_it c l u n k = record {
  own_state = refl;
  certified = refl;
  set = canonical_with_gtid (executed l) c.gtid u n k;
  others = λ g h. all_with_gtid (executed l) c.gtid g k u n ∙ ap (λ b. b || has (executed l) g) (h c (inl refl));
}

either_leaves : (l : Life) (ds : List Cert) (b : Bool) (x y : Member) → Leaves l x.life ds → Leaves l y.life ds → (let r : Member = elim b [ true ↦ x | false ↦ y ] in Leaves l r.life ds)
either_leaves l ds true x y p q = p
either_leaves l ds false x y p q = q

commits_one : (c : Cert) (a : Member) → IsUuid c.gtid.source → IsNumber c.gtid.number → IsCanonical (executed a.life) → Leaves a.life (commit_one c a).life (c ∷ [])
commits_one c a u n k =
    let b : Member = push (Committed c.gtid) a in
    either_leaves a.life (c ∷ []) (may_commit a.setup a.life a.me.inc c) (answer_own c b) a (leaves_same a.life b.life (answer_own c b).life (c ∷ []) (commits_it c a.life u n k) (answers_own c b)) (leaves_still a.life (c ∷ []) k)

abbrev pub HasGtids : List Cert → Type 0
HasGtids ds = (d : Cert) → In d ds → IsUuid d.gtid.source × IsNumber d.gtid.number

pub commits_each : (ds : List Cert) (a : Member) → HasGtids ds → IsCanonical (executed a.life) → Leaves a.life (for_each commit_one ds a).life ds
commits_each [] a h k = leaves_still a.life [] k
commits_each (d ∷ ds) a h k =
    let one : Leaves a.life (commit_one d a).life (d ∷ []) = commits_one d a (h d (inl refl)).0 (h d (inl refl)).1 k in
    leaves_then a.life (commit_one d a).life (for_each commit_one ds (commit_one d a)).life d ds one (commits_each ds (commit_one d a) (λ e m. h e (inr m)) one.set)

prepares_it : (c : Cert) (a : Member) → Same a.life (prepare_one c a).life
prepares_it c a = either_same a.life (owes_prepared a.setup a.life a.me.inc c) (own_body (Prepared c.gtid) a) a (record { own_state = refl; certified = refl; done = refl }) (same_still a.life)

either_well : (l : Life) (b : Bool) (x y : Member) → state x.life ≡ state l → state y.life ≡ state l → (let r : Member = elim b [ true ↦ x | false ↦ y ] in state r.life ≡ state l)
either_well l true x y p q = p
either_well l false x y p q = q

-- the state is the same
pub commits_well : (ds : List Cert) (a : Member) → state (for_each commit_one ds a).life ≡ state a.life
commits_well [] a = refl
commits_well (d ∷ ds) a =
    let b : Member = push (Committed d.gtid) a in
    commits_well ds (commit_one d a) ∙ either_well a.life (may_commit a.setup a.life a.me.inc d) (answer_own d b) a (answers_own d b).own_state refl

pub prepares_each : (ds : List Cert) (a : Member) → Same a.life (for_each prepare_one ds a).life
prepares_each [] a = same_still a.life
prepares_each (d ∷ ds) a = same_then (prepares_it d a) (prepares_each ds (prepare_one d a))

-- ---- what is pending still

abbrev lacks : Gtids → Cert → Bool
lacks e c = not (has e c.gtid)

pub pending_same : (l k : Life) → Same l k → pending k ≡ pending l
pending_same l k s = ap (λ e. filter (lacks e) (reverse (certs k))) s.done ∙ ap (λ cs. filter (lacks (executed l)) (reverse cs)) s.certified

-- it isn't one of those
still_pending : (l k : Life) (ds : List Cert) (c : Cert) → Leaves l k ds → In c (pending l) → ((d : Cert) → In d ds → gtid_eq d.gtid c.gtid ≡ false) → In c (pending k)
still_pending l k ds c p m h =
    let was = in_filter (lacks (executed l)) c (reverse (certs l)) m in
    into_filter (lacks (executed k)) c (reverse (certs k)) (subst (λ cs. In c (reverse cs)) (sym p.certified) was.0) (ap not (p.others c.gtid h) ∙ was.1)

module _ (s : Setup) (me : Inc) (l : Life) (x : MemberParts) (f : StandsFor s me l x) (ds : List Cert) (c : Cert) (es : List Cert) (w : pending l ≡ ds ++ c ∷ es) where
  pub it_was : In c (pending l)
  it_was = subst (In c) (sym w) (in_middle ds c es)

  they_were : (d : Cert) → In d ds → In d (pending l)
  they_were d m = subst (In d) (sym w) (in_front ds (c ∷ es) d m)

  pub have_gtids : HasGtids ds
  have_gtids d m = f.orderly.gtids d (in_certs l d (they_were d m))

  apart : (d : Cert) → In d ds → gtid_eq d.gtid c.gtid ≡ false
  apart d m = go (gtid_eq d.gtid c.gtid) refl
    where
      before : d.place < c.place
      before = place_before ds c es d (subst IsRising w (pending_rises s me l x f)) m

      go : (b : Bool) → gtid_eq d.gtid c.gtid ≡ b → b ≡ false
      go false e = refl
      go true e = let same : d.place ≡ c.place = ap (λ z. z.place) (f.orderly.distinct d c (in_certs l d (they_were d m)) (in_certs l c it_was) e) in absurd (omega (arith, same, before))

  pub waits_still : (k : Life) → Leaves l k ds → In c (pending k)
  waits_still k p = still_pending l k ds c p it_was apart
