-- A transaction is committed, but for the answer of its session.
use Rattle.std.proofs.Common.{◌≡◌, ℕ, Bool, true, false, Option, Some, None, List, [], ◌∷◌, ◌++◌, option_to_list, filter, reverse, refl, sym, subst, ap, ◌∙◌, arith, ◌⊎◌, inl, inr}
use Rattle.std.proofs.lemmas.Bool.{false≢true}
use Rattle.std.proofs.lemmas.List.{append-nil, reverse-append, reverse-reverse}
use Rattle.std.proofs.lemmas.List.Elements.{filter-append}
use Rattle.gr_ids.specs.Names.{gtid_eq}
use Rattle.gr_ids.specs.declared.names.Inc.{Inc}
use Rattle.gr_ids.specs.declared.names.ValueId.{ValueId}
use Rattle.slot_values.specs.declared.value.Joiner.{Joiner}
use Rattle.node_rules.specs.Lists.{In}
use Rattle.paxos_forms.specs.declared.recovery.Given.{Given}
use Rattle.group_rules.specs.declared.marks.Mark.TheVariants.{Committed as CommittedMark}
use Rattle.group_rules.specs.Events.{Cert, Committed, Life, Setup}
use Rattle.group_rules.specs.Life.{certs}
use Rattle.group_rules.specs.Member.{Member, last_answer, push}
use Rattle.group_rules.specs.Commit.{may_commit}
use Rattle.group_rules.specs.Points.{answer_own, commit_one}
use Rattle.group_rules.specs.Queue.{pending}
use Rattle.group_rules.specs.Recovery.{given_of}
use Rattle.apply_queue.specs.Following.{IsRising}
use Rattle.apply_queue.specs.declared.work.WorkDone.{WorkDone}
use Rattle.row_store.proofs.Known.{in_reverse}
use Rattle.row_store.proofs.Versions.{gtid_itself}
use Rattle.member_backlog.specs.Standing.{uncommitted_of}
use Rattle.member_backlog.specs.declared.uncommitted.Uncommitted.{Uncommitted}
use Rattle.member_truth.specs.Growing.{IsPromised}
use Rattle.member_truth.specs.Ranged.{IsRanged}
use Rattle.member_truth.specs.Truth.{IsTrue}
use Rattle.member_truth.proofs.Grown.{own_answers, promised}
use Rattle.member_own.proofs.Kept.{passes as own_passes}
use Rattle.member_joining.proofs.Joined.{commits as joining_commits}
use Rattle.member_parts.specs.declared.parts.MemberParts.{MemberParts}
use Rattle.member_parts.specs.Committing.{IsPending, IsWritten, MayGo}
use Rattle.member_parts.specs.Standing.{IsOrderly, StandsFor}
use Rattle.member_parts.proofs.Committed.{in_certs}
use Rattle.member_ranges.proofs.Passed.{committed_in_range}
use Rattle.local_sessions.specs.Acting.{tell}
use Rattle.local_sessions.specs.declared.told.Answered.{Answered}
use Rattle.member_tables.specs.declared.tables.MemberTables.{MemberTables}
use Rattle.member_tables.specs.Committing.{IsNext, IsOf, own_id}
use Rattle.member_tables.specs.Standing.{TablesFor}
use Rattle.member_tables.proofs.Nexts.{comes_next}
use Rattle.kept_server.specs.Keeping.{left_of}
use Rattle.kept_server.specs.Redoing.{LeadTo, MayCommit, committing}
use Rattle.kept_server.proofs.Leading.{left_with, may_commit as next_may, one_more}
use Rattle.member_moment.specs.Doing.{IsKept}
use Rattle.member_moment.specs.declared.moment.Moment.{Moment}
use Rattle.member_moment.specs.Committing.{Commits, IsCommitOf}
use Rattle.member_moment.specs.Standing.{Marked, RestFor, Stands}
use Rattle.member_moment.proofs.Pushed.{marked}

-- ---- the only one of its GTID

none_passes : (p : Cert → Bool) (cs : List Cert) → ((d : Cert) → In d cs → p d ≡ true → ⊥) → filter p cs ≡ []
none_passes p [] n = refl
none_passes p (c ∷ cs) n = go (p c) refl (none_passes p cs (λ d i. n d (inr i)))
  where
    go : (b : Bool) → p c ≡ b → filter p cs ≡ [] → filter p (c ∷ cs) ≡ []
    go true e r = absurd (n c (inl refl) e)
    go false e r = rw e r

one_passes : (p : Cert → Bool) (c : Cert) (cs : List Cert) → IsRising cs → In c cs → p c ≡ true → ((d : Cert) → In d cs → p d ≡ true → d ≡ c) → filter p cs ≡ c ∷ []
one_passes p c [] k i e only = absurd i
one_passes p c (d ∷ ds) k i e only = go (p d) refl i (one_passes p c ds k.1)
  where
    go : (b : Bool) → p d ≡ b → (d ≡ c) ⊎ In c ds → (In c ds → p c ≡ true → ((u : Cert) → In u ds → p u ≡ true → u ≡ c) → filter p ds ≡ c ∷ []) → filter p (d ∷ ds) ≡ c ∷ []
    go true f j r =
        let here : d ≡ c = only d (inl refl) f in
        let behind : filter p ds ≡ [] = none_passes p ds (λ u m g. let above = k.0 u m in let same = ap (λ (z : Cert). z.place) (only u (inr m) g ∙ sym here) in omega (arith, above, same)) in
        rw f (ap (λ z. z ∷ filter p ds) here ∙ ap (λ zs. c ∷ zs) behind)
    go false f (inl q) r = absurd (false≢true (sym f ∙ (ap p q ∙ e)))
    go false f (inr m) r = rw f (r m e (λ u n. only u (inr n)))

filter_back : (p : Cert → Bool) (cs : List Cert) → filter p (reverse cs) ≡ reverse (filter p cs)
filter_back p [] = refl
filter_back p (c ∷ cs) = ap (filter p) (reverse-append (c ∷ []) cs) ∙ (filter-append p (reverse cs) (c ∷ []) ∙ go (p c) refl (filter_back p cs))
  where
    go : (b : Bool) → p c ≡ b → filter p (reverse cs) ≡ reverse (filter p cs) → filter p (reverse cs) ++ filter p (c ∷ []) ≡ reverse (filter p (c ∷ cs))
    go true e r = rw e (ap (λ zs. zs ++ c ∷ []) r ∙ sym (reverse-append (c ∷ []) (filter p cs)))
    go false e r = rw e (append-nil (filter p (reverse cs)) ∙ r)

only_one : (me : Inc) (l : Life) (c : Cert) → IsOrderly me l → In c (certs l) → filter (λ (d : Cert). gtid_eq d.gtid c.gtid) (certs l) ≡ c ∷ []
only_one me l c o i =
    let p : Cert → Bool = λ d. gtid_eq d.gtid c.gtid in
    ap (filter p) (sym (reverse-reverse (certs l)))
    ∙ (filter_back p (reverse (certs l))
    ∙ ap reverse (one_passes p c (reverse (certs l)) o.rising (in_reverse c (reverse (certs l)) (subst (λ (cs : List Cert). In c cs) (sym (reverse-reverse (certs l))) i)) (gtid_itself c.gtid) (λ d m e. o.distinct d c (in_reverse d (certs l) m) i e)))

-- ---- all but the tables

abbrev given_as : Uncommitted → List ℕ → Given
given_as u b = record { place = u.place; origin = u.id.origin; gtid = u.gtid; body = b }

module _ (base : Life) (a : Member) (c : Cert) (u : Uncommitted) (d : WorkDone) (x y : Moment) (f : Commits base a c x) (w : IsCommitOf c u d)
    (same : y ≡ record x { tables = y.tables; committed = y.committed; marks = y.marks })
    (marks : y.marks.items ≡ x.marks.items ++ CommittedMark u.gtid ∷ [])
    (given : y.committed.items ≡ x.committed.items ++ record { place = u.place; origin = u.id.origin; gtid = u.gtid; body = d.body } ∷ []) where
  ordered : IsOrderly a.me.inc a.life
  ordered = let o = f.parts.orderly in record { untaken = o.untaken; undone = o.undone; unmade = o.unmade; rising = o.rising; distinct = o.distinct; gtids = o.gtids; read = o.read }

  certified : In c (certs a.life)
  certified = in_certs a.life c f.next.waits

  some : certs a.life ≡ [] → ⊥
  some n = subst (λ (cs : List Cert). In c cs) n certified

  gives : record { place = u.place; origin = u.id.origin; gtid = u.gtid; body = d.body } ≡ given_of c
  gives =
      ap (λ (z : Uncommitted). given_as z d.body) w.is_it ∙ ap (λ b. given_as (uncommitted_of c) b) w.body

  all_given : LeadTo (left_of base) y.committed.items (left_of (Committed c.gtid ∷ a.life))
  all_given =
      let may : MayCommit (left_of a.life) c = next_may a.life c f.others.tables.tables.gtids f.next (ordered.read c certified) in
      let with : left_of (Committed c.gtid ∷ a.life) ≡ committing (left_of a.life) c = left_with a.life c (only_one a.me.inc a.life c ordered certified) in
      subst (λ gs. LeadTo (left_of base) gs (left_of (Committed c.gtid ∷ a.life))) (sym (given ∙ ap (λ g. x.committed.items ++ g ∷ []) gives))
      (subst (LeadTo (left_of base) (x.committed.items ++ given_of c ∷ [])) (sym with) (one_more (left_of base) (left_of a.life) x.committed.items c may f.others.aside.committed))

  pub rest_committed : RestFor base (push (Committed c.gtid) a) y
  rest_committed = subst (λ z. RestFor base (push (Committed c.gtid) a) z) (sym same) (record {
    me = f.others.aside.me;
    contact = f.others.aside.contact;
    limits = f.others.aside.limits;
    node = f.others.aside.node;
    parts = f.parts;
    own = own_passes a.me.inc a.life x.own (Committed c.gtid) refl f.others.aside.own;
    joining = joining_commits a.life c.gtid x.joining f.others.aside.joining some;
    committed = all_given;
    marks = subst (Marked base (Committed c.gtid ∷ a.life)) (sym (marks ∙ ap (λ (z : Uncommitted). x.marks.items ++ CommittedMark z.gtid ∷ []) w.is_it)) (marked base a.life x.marks.items (Committed c.gtid) f.others.aside.marks);
    sent = f.others.aside.sent;
    range = committed_in_range c.gtid a some f.others.aside.range;
    sent_range = f.others.aside.sent_range;
    ranged = (tt, f.others.aside.ranged);
  })

  abbrev after : Member
  after = push (Committed c.gtid) a

  pub is_of : (o : Option ValueId) → o ≡ own_id x.me.inc c → IsOf a.me.inc c u.place u.gtid o d.changes
  is_of o e = record {
    at = ap (λ (z : Uncommitted). z.place) w.is_it;
    named = ap (λ (z : Uncommitted). z.gtid) w.is_it;
    sent = e ∙ ap (λ (j : Joiner). own_id j.inc c) f.others.aside.me;
    writes = w.changes;
  }

  -- ---- its session

  module _ (o : Option Answered) (is : answer_own c after ≡ tell (option_to_list o) after) (tables : TablesFor (answer_own c after) y.tables) where
    pub untold : o ≡ None → Stands base (answer_own c after) y
    untold n = record { rest = subst (λ (b : Member). RestFor base b y) (sym (is ∙ ap (λ (q : Option Answered). tell (option_to_list q) after) n)) rest_committed; tables = tables }

    pub told : (t : Answered) → o ≡ Some t → (z : Moment) → ((k : Life) (b : Member) → RestFor k b y → RestFor k (last_answer t.session t.answer b) z) → z.tables ≡ y.tables → Stands base (answer_own c after) z
    told t n z tells e = record {
      rest = subst (λ (b : Member). RestFor base b z) (sym (is ∙ ap (λ (q : Option Answered). tell (option_to_list q) after) n)) (tells base after rest_committed);
      tables = subst (λ (q : MemberTables). TablesFor (answer_own c after) q) (sym e) tables;
    }

-- ---- whether it is committed

pub goes : (c : Cert) (a : Member) → may_commit a.setup a.life a.me.inc c ≡ true → commit_one c a ≡ answer_own c (push (Committed c.gtid) a)
goes c a h = rw (h, commit_one) refl

pub stays : (c : Cert) (a : Member) → may_commit a.setup a.life a.me.inc c ≡ false → commit_one c a ≡ a
stays c a h = rw (h, commit_one) refl

-- what is promised of the commit makes it the next one
pub comes : (c : Cert) (a : Member) → In c (pending a.life) → IsRanged a.life → may_commit a.setup a.life a.me.inc c ≡ true → IsKept (commit_one c a) → IsNext a.life c
comes c a i r h k =
    let b : Member = push (Committed c.gtid) a in
    let all : IsPromised a.setup a.me.inc (Committed c.gtid ∷ a.life) = promised (own_answers c b) (subst IsKept (goes c a h) k) in
    let t : IsTrue a.setup a.me.inc (Committed c.gtid ∷ a.life) = all (Committed c.gtid ∷ a.life) ([], refl) (tt, r) in
    comes_next a.setup a.me.inc a.life c t.1 i t.0

-- what the parts tell of it
module _ (base : Life) (a : Member) (c : Cert) (u : Uncommitted) (x : Moment) (i : IsPending a.life c u) (st : Stands base a x) where
  me : x.me.inc ≡ a.me.inc
  me = ap (λ (j : Joiner). j.inc) st.rest.me

  before : StandsFor a.setup x.me.inc a.life x.parts
  before = subst (λ (j : Inc). StandsFor a.setup j a.life x.parts) (sym me) st.rest.parts

  pub may_at : (b : Bool) → ((s : Setup) (l : Life) (d : Cert) → IsPending l d u → StandsFor s x.me.inc l x.parts → b ≡ may_commit s l x.me.inc d) → b ≡ may_commit a.setup a.life a.me.inc c
  may_at b h = h a.setup a.life c i before ∙ ap (λ (j : Inc). may_commit a.setup a.life j c) me

  module _ (may : may_commit a.setup a.life a.me.inc c ≡ true) where
    go : MayGo a.setup x.me.inc a.life c u
    go = record { well = i.well; waits = i.waits; is_it = i.is_it; may = ap (λ (j : Inc). may_commit a.setup a.life j c) me ∙ may }

    pub written_at : (o : Option WorkDone) → ((s : Setup) (l : Life) (d : Cert) → MayGo s x.me.inc l d u → StandsFor s x.me.inc l x.parts → IsWritten d o) → IsWritten c o
    written_at o h = h a.setup a.life c go before

    pub stands_at : (p : MemberParts) → ((s : Setup) (l : Life) (d : Cert) → MayGo s x.me.inc l d u → StandsFor s x.me.inc l x.parts → StandsFor s x.me.inc (Committed d.gtid ∷ l) p)
        → StandsFor a.setup a.me.inc (Committed c.gtid ∷ a.life) p
    stands_at p h = subst (λ (j : Inc). StandsFor a.setup j (Committed c.gtid ∷ a.life) p) me (h a.setup a.life c go before)
