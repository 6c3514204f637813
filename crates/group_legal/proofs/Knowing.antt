-- What each history knows of the list: it has each certified transaction up to its place, or has executed it; and so has each server what it executed.
use Rattle.std.proofs.Common.{◌≡◌, ◌⊎◌, inl, inr, ℕ, suc, ◌≤◌, ◌<◌, Bool, true, false, not, ◌&&◌, ◌||◌, Option, Some, None, List, [], ◌∷◌, ◌++◌, refl, sym, ap, subst, ◌∙◌, length, eq-eqb, arith}
use Rattle.std.specs.Prelude.{filter, map, reverse, nat_le, ◌==◌}
use Rattle.std.proofs.lemmas.List.{reverse-append}
use Rattle.std.proofs.lemmas.Bool.{false≢true, cases_Bool, or_cases, or_right, not-true, leb-true, le-leb}
use Rattle.gr_ids.specs.Names.{inc_eq, gtid_eq, bytes_eq}
use Rattle.gr_ids.specs.declared.names.Inc.{Inc}
use Rattle.gr_ids.specs.declared.names.Gtid.{Gtid}
use Rattle.gtid_sets.specs.Sets.{Gtids, has, with_gtid, minus}
use Rattle.gtid_sets.specs.Canonical.{IsCanonical, IsUuid, IsNumber}
use Rattle.gtid_sets.proofs.LawLemmas.{all_with_gtid, all_minus}
use Rattle.gtid_sets.proofs.PutLemmas.{canonical_with_gtid}
use Rattle.slot_values.specs.declared.value.What.{What}
use Rattle.slot_values.specs.declared.value.What.TheVariants.{Noop, Add, Remove, Body as Says}
use Rattle.txn_forms.specs.declared.body.Body.{Body}
use Rattle.txn_forms.specs.declared.body.Txn.{Txn}
use Rattle.txn_forms.specs.declared.body.Body.TheVariants.{Txn as HasTxn, Prepared, Sync, Executed, Online as Arrives, Mode as Switches, Primary as Appoints, Part as PartOf}
use Rattle.paxos_forms.specs.declared.welcome.Welcome.{Welcome}
use Rattle.node_rules.specs.Lists.{In}
use Rattle.node_rules.proofs.Incs.{inc_is, inc_same}
use Rattle.group_rules.specs.Names.{Give}
use Rattle.group_rules.specs.declared.marks.Effect.{Effect}
use Rattle.group_rules.specs.declared.marks.Effect.TheVariants.{Plain, Void, Unread, Positive, Conflict}
use Rattle.group_rules.specs.Events.{Did, Founds, Starts, Came, Made, Took, Skips, Done, Committed, Is, Gave, Answered, Begun, Changed, Replied, Called, AsksCommit, Ends, Enters, Restores, AskFails, Hears, Ticks, Works, Calls, Operates, Life, Setup, Entry, Stored, OfflineWrite, Cert}
use Rattle.group_rules.specs.Life.{state, is_recovering, executed, view, taken, entered, has_give, entry_at, cert_by, cert_of, certs, stored}
use Rattle.group_rules.specs.View.{View}
use Rattle.group_rules.specs.Rows.{all_in, known}
use Rattle.group_rules.specs.Recovery.{add_place, certs_given, gtids_of}
use Rattle.group_rules.specs.Legal.{IsPast}
use Rattle.group_rules.specs.World.{Past, Does, Writes, Halts, life_in, nothing_stored}
use Rattle.group_bridge.specs.Left as left
use Rattle.group_runs.specs.Runs.{IsSetup, is_founder, running_in, stored_after, stored_in, AllDid, IsDone}
use Rattle.group_runs.specs.Servers.{IsWritten, OfServers}
use Rattle.group_order.specs.OneLog.{IsReady, GivenBy, LogOver}
use Rattle.group_order.proofs.Nexts.{past_self, past_of, did_past, done_at}
use Rattle.group_order.proofs.Shapes.{Shape, Asks, shapes, one_more}
use Rattle.group_order.proofs.Spans.{enters_waits}
use Rattle.group_laws.specs.Lists as listing
use Rattle.group_laws.specs.Lists.{Mem}
use Rattle.group_laws.specs.Entries as law
use Rattle.group_laws.specs.Life as lives
use Rattle.group_laws.specs.Verdict as decided
use Rattle.group_laws.proofs.Certs.{cons_cases, place_le, same_place}
use Rattle.group_laws.proofs.Names.{gtid_eq_same, bytes_eq_itself}
use Rattle.group_laws.proofs.Scans.{gtids_distinct}
use Rattle.group_lives.specs.Lives.{does_entry, outcome_of, placed, life_of}
use Rattle.group_lives.specs.Sound.{IsEffect, HasSets}
use Rattle.group_lives.proofs.Sets.{canonical}
use Rattle.group_lives.proofs.Taking.{places_agree}
use Rattle.group_lawful.specs.Lived.{Lived}
use Rattle.group_lawful.specs.Knows.{Alike, Descends}
use Rattle.group_lawful.proofs.Lives.{lived}
use Rattle.group_lawful.proofs.Opens.{in_filter, in_reverse, in_end, in_pending, unready}
use Rattle.group_lawful.proofs.Lawfuls.{Ascends, ascends_filter, commit_new}
use Rattle.group_lawful.proofs.Given.{cert_place, cert_within}
use Rattle.group_lawful.proofs.Known.{executed_stays, reverse_in}
use Rattle.group_laws.proofs.Acks.{upto_is_past}
use Rattle.group_legal.specs.Bases.{list_of, base_in, TakesOf, JudgesAs}
use Rattle.group_legal.specs.Ranges.{HasSmallNumbers}
use Rattle.group_legal.proofs.Scanned.{scanned}
use Rattle.group_legal.proofs.Told.{Spelled}
use Rattle.group_legal.proofs.Owners.{some_none, HasNumbers, SetsAt, sets_at, written_past}
use Rattle.group_legal.proofs.Sorted.{Apart, NoTwice, in_all, all_ascends, all_first, all_second}
use Rattle.group_legal.proofs.Stocks.{StockOf, CommitsOnce, CertsOf, filter_in, in_first, in_second, in_either, stopped}
use Rattle.group_legal.proofs.Carried.{as_given, given_back, in_map, map_in, in_known, CarriedAt}
use Rattle.group_legal.proofs.Listed.{Known, given_gtid, fine_at, ready_took, judged_took, known_at}

-- ---- small lists

life_self : (l : Life) → left.IsPast l l
life_self [] = refl
life_self (d ∷ l) = inl refl

pub past_lives : (q p : Past) (i : Inc) → IsPast q p → left.IsPast (life_in q i) (life_in p i)
past_lives q [] i h = ap (λ y. life_in y i) h
past_lives q (Writes n y ∷ p) i (inl e) = subst (λ z. left.IsPast (life_in z i) (life_in p i)) (sym e) (life_self (life_in p i))
past_lives q (Halts n ∷ p) i (inl e) = subst (λ z. left.IsPast (life_in z i) (life_in p i)) (sym e) (life_self (life_in p i))
past_lives q (Does j d ∷ p) i (inl e) = subst (λ z. left.IsPast (life_in z i) (life_in (Does j d ∷ p) i)) (sym e) (life_self (life_in (Does j d ∷ p) i))
past_lives q (Writes n y ∷ p) i (inr h) = past_lives q p i h
past_lives q (Halts n ∷ p) i (inr h) = past_lives q p i h
past_lives q (Does j d ∷ p) i (inr h) = go (inc_eq j i) (past_lives q p i h)
  where
    go : (b : Bool) → left.IsPast (life_in q i) (life_in p i) → left.IsPast (life_in q i) (elim b [ true ↦ d ∷ life_in p i | false ↦ life_in p i ])
    go true k = inr k
    go false k = k

-- ---- what is known

-- of the list k, by one that executed this, holds these as certified, was started with this and is at this place
pub record KnowsBy (t : Setup) (k : List law.Placed) (e : Gtids) (cs : List Cert) (x : Stored) (n : ℕ) (there : Cert → Type 0) (ready : Type 0) (commits : Type 0) : Type 0 where
  pub complete : (d : law.Cert) → Mem d (law.certified t k) → has e d.gtid ≡ true → (has x.executed d.gtid ≡ true) ⊎ ((c : Cert) × In c cs × Alike c d)
  pub reached : ready → (d : law.Cert) → Mem d (law.certified t k) → d.place ≤ n → ((c : Cert) × In c cs × Alike c d) ⊎ (has e d.gtid ≡ true)
  pub descends : Descends cs
  pub below : (c : Cert) → In c cs → c.place ≤ n
  pub had : ready → (c : Cert) → In c x.committed → c.place ≤ n
  pub apart : (c : Cert) → In c cs → Apart c x.committed
  pub entries : (c : Cert) → In c cs → there c
  pub once : commits
  pub stays : (g : Gtid) → has x.executed g ≡ true → has e g ≡ true
  pub stock : StockOf t k x

-- it was given up to its Add, or the history took its entry
abbrev pub IsThere : Life → Cert → Type 0
IsThere l c = (c.place ≤ add_place (entered l)) ⊎ ((e : Entry) × (entry_at l c.place ≡ Some e))

abbrev pub LifeKnows : Setup → List law.Placed → Inc → Life → Type 0
LifeKnows t k i l = KnowsBy t k (executed l) (certs l) (stored l) (taken l) (IsThere l) (IsReady t i l) (CommitsOnce l)

pub record KnownAt (t : Setup) (k : List law.Placed) (p : Past) : Type 0 where
  pub lives : (i : Inc) → LifeKnows t k i (life_in p i)
  pub stocks : (n : ℕ) → StockOf t k (stored_in p n)

no_stock : (t : Setup) (k : List law.Placed) → StockOf t k nothing_stored
no_stock t k = record { listed = λ c m. absurd m; known = λ d m e. absurd (false≢true e); done = λ c m. absurd m; twice = tt; readable = λ c m. absurd m }

-- of no history anything is known
nothing_known : (t : Setup) (k : List law.Placed) (i : Inc) → LifeKnows t k i []
nothing_known t k i = record {
  complete = λ d m e. absurd (false≢true e);
  reached = λ r d m h. let one = cert_place t k d m in absurd (omega (arith, h, one));
  descends = tt;
  below = λ c m. absurd m;
  had = λ r c m. absurd m;
  apart = λ c m. absurd m;
  entries = λ c m. absurd m;
  once = tt;
  stays = λ g e. e;
  stock = no_stock t k;
}

-- ---- an entry of the list is the history's

-- a certified transaction at the place of an entry is that of the entry
pub cert_back : (t : Setup) (v : View) (e : Entry) (n : ℕ) (d : law.Cert) → IsEffect t v e.value.what e.holds e.effect → e.place ≡ n → law.cert_of t n (placed e) ≡ Some d → (c : Cert) × In c (cert_of e) × Alike c d
cert_back t v e n d h p q = go e.value.what e.effect e.holds refl refl refl h q
  where
    Goal : Type 0
    Goal = (c : Cert) × In c (cert_of e) × Alike c d

    here : (g : Gtid) (x : Txn) → e.effect ≡ Positive g → e.holds ≡ Some (HasTxn x) → g.source ≡ t.limits.group → law.cert_parts t n e.value.id.origin e.value.id.number (law.Write x) (law.Positive g.number) ≡ Some d → Goal
    here g x f b s z =
        let c : Cert = record { place = e.place; id = e.value.id; gtid = g; txn = x } in
        let y : record { place = n; origin = e.value.id.origin; id = e.value.id.number; gtid = record { source = t.limits.group; number = g.number }; txn = x } ≡ d = cc z in (
          c,
          subst (In c) (sym (ap (λ (f : Effect). cert_by e.place e.value.id f e.holds) f ∙ ap (λ (b : Option Body). cert_by e.place e.value.id (Positive g) b) b)) (inl refl),
          record {
            place = p ∙ ap (λ (u : law.Cert). u.place) y;
            origin = ap (λ (u : law.Cert). u.origin) y;
            number = inl (ap (λ (u : law.Cert). u.id) y);
            gtid = ap (λ s. record { source = s; number = g.number }) s ∙ ap (λ (u : law.Cert). u.gtid) y;
            txn = ap (λ (u : law.Cert). u.txn) y;
          },
        )

    says : (b : List ℕ) (f : Effect) (o : Option Body) → e.effect ≡ f → e.holds ≡ o → IsEffect t v (Says b) o f → law.cert_parts t n e.value.id.origin e.value.id.number (does_entry (Says b) f o) (outcome_of f) ≡ Some d → Goal
    says b (Positive g) (Some (HasTxn x)) y u k z = here g x y u k z
    says b (Conflict g) (Some (HasTxn x)) y u k z = absurd (cc z)
    says b Plain (Some (HasTxn x)) y u k z = absurd k
    says b Void (Some (HasTxn x)) y u k z = absurd k
    says b Unread (Some (HasTxn x)) y u k z = absurd k
    says b f (Some (Prepared g)) y u k z = absurd (cc z)
    says b f (Some Sync) y u k z = absurd (cc z)
    says b f (Some (Executed s)) y u k z = absurd (cc z)
    says b f (Some (Arrives s)) y u k z = absurd (cc z)
    says b f (Some (Switches m)) y u k z = absurd (cc z)
    says b f (Some (Appoints i)) y u k z = absurd (cc z)
    says b f (Some (PartOf x)) y u k z = absurd (cc z)
    says b f None y u k z = absurd (cc z)

    adds : (w : What) (f : Effect) (o : Option Body) → ((b : List ℕ) → w ≡ Says b → ⊥) → law.cert_parts t n e.value.id.origin e.value.id.number (does_entry w f o) (outcome_of f) ≡ Some d → Goal
    adds (Says b) f o k z = absurd (k b refl)
    adds Noop f o k z = absurd (cc z)
    adds (Add j) Plain o k z = absurd (cc z)
    adds (Add j) Void o k z = absurd (cc z)
    adds (Add j) Unread o k z = absurd (cc z)
    adds (Add j) (Positive g) o k z = absurd (cc z)
    adds (Add j) (Conflict g) o k z = absurd (cc z)
    adds (Remove j) Plain o k z = absurd (cc z)
    adds (Remove j) Void o k z = absurd (cc z)
    adds (Remove j) Unread o k z = absurd (cc z)
    adds (Remove j) (Positive g) o k z = absurd (cc z)
    adds (Remove j) (Conflict g) o k z = absurd (cc z)

    same : (w : What) (f : Effect) (o : Option Body) → e.value.what ≡ w → e.effect ≡ f → e.holds ≡ o → law.cert_of t n (placed e) ≡ law.cert_parts t n e.value.id.origin e.value.id.number (does_entry w f o) (outcome_of f)
    same w f o a y u =
        ap (λ (w : What). law.cert_parts t n e.value.id.origin e.value.id.number (does_entry w e.effect e.holds) (outcome_of e.effect)) a
        ∙ ap (λ (f : Effect). law.cert_parts t n e.value.id.origin e.value.id.number (does_entry w f e.holds) (outcome_of f)) y
        ∙ ap (λ (o : Option Body). law.cert_parts t n e.value.id.origin e.value.id.number (does_entry w f o) (outcome_of f)) u

    go : (w : What) (f : Effect) (o : Option Body) → e.value.what ≡ w → e.effect ≡ f → e.holds ≡ o → IsEffect t v e.value.what e.holds e.effect → law.cert_of t n (placed e) ≡ Some d → Goal
    go (Says b) f o a y u k z = says b f o y u (subst (λ w. w) (ap (λ w. IsEffect t v w e.holds e.effect) a ∙ ap (λ o. IsEffect t v (Says b) o e.effect) u ∙ ap (λ f. IsEffect t v (Says b) o f) y) k) (sym (same (Says b) f o a y u) ∙ z)
    go w f o a y u k z = adds w f o (λ b x. absurd (cc x)) (sym (same w f o a y u) ∙ z)

-- ---- in order

descends_more : (e : Entry) (cs : List Cert) → Descends cs → ((c : Cert) → In c cs → c.place < e.place) → Descends (cert_of e ++ cs)
descends_more e cs h f = go e.effect e.holds
  where
    go : (f : Effect) (b : Option Body) → Descends (cert_by e.place e.value.id f b ++ cs)
    go (Positive g) (Some (HasTxn x)) = (f, h)
    go (Positive g) (Some (Prepared y)) = h
    go (Positive g) (Some Sync) = h
    go (Positive g) (Some (Executed y)) = h
    go (Positive g) (Some (Arrives y)) = h
    go (Positive g) (Some (Switches m)) = h
    go (Positive g) (Some (Appoints i)) = h
    go (Positive g) (Some (PartOf y)) = h
    go (Positive g) None = h
    go Plain b = h
    go Void b = h
    go Unread b = h
    go (Conflict g) b = h

descends_end : (cs : List Cert) (c : Cert) → Descends cs → ((d : Cert) → In d cs → c.place < d.place) → Descends (cs ++ c ∷ [])
descends_end [] c h f = ((λ d m. absurd m), tt)
descends_end (x ∷ xs) c h f = ((λ d m. elim (in_end d xs c m) [ inl q ↦ subst (λ (y : Cert). y.place < x.place) q (f x (inl refl)) | inr k ↦ h.0 d k ]), descends_end xs c h.1 (λ d m. f d (inr m)))

descends_reverse : (cs : List Cert) → Ascends cs → Descends (reverse cs)
descends_reverse [] h = tt
descends_reverse (c ∷ cs) h = subst Descends (sym (reverse-append (c ∷ []) cs)) (descends_end (reverse cs) c (descends_reverse cs h.1) (λ d m. h.0 d (in_reverse d cs m)))

pub ascends_given : (cs : List Cert) → Ascends cs → Ascends (map as_given cs)
ascends_given [] h = tt
ascends_given (c ∷ cs) h = ((λ d m. let r = in_map cs d m in subst (λ (y : Cert). c.place < y.place) r.2 (h.0 r.0 r.1)), ascends_given cs h.1)

descends_apart : (cs : List Cert) → Descends cs → NoTwice cs
descends_apart [] h = tt
descends_apart (c ∷ cs) h = ((λ y m e. let z = h.0 y m in absurd (omega (arith, z, e))), descends_apart cs h.1)

-- what a history knows stands once, by place
pub ascends_known : (t : Setup) (k : List law.Placed) (i : Inc) (l : Life) → LifeKnows t k i l → Ascends (known l)
ascends_known t k i l h =
    all_ascends (all_in [] (stored l).committed) (certs l) (all_ascends [] (stored l).committed tt h.stock.twice (λ c m y n. absurd n)) (descends_apart (certs l) h.descends) (λ c m. unlike c m)
  where
    unlike : (c : Cert) → In c (certs l) → Apart c (all_in [] (stored l).committed)
    unlike c m y n e = elim (in_all [] (stored l).committed y n) [ inl z ↦ absurd z | inr z ↦ h.apart c m y z e ]

-- ---- the GTIDs of transactions

gtids_canonical : (cs : List Cert) → ((c : Cert) → In c cs → IsUuid c.gtid.source × IsNumber c.gtid.number) → IsCanonical (gtids_of cs)
gtids_canonical [] f = tt
gtids_canonical (c ∷ cs) f = canonical_with_gtid (gtids_of cs) c.gtid (f c (inl refl)).0 (f c (inl refl)).1 (gtids_canonical cs (λ y m. f y (inr m)))

of_gtids : (cs : List Cert) (g : Gtid) → ((c : Cert) → In c cs → IsUuid c.gtid.source × IsNumber c.gtid.number) → has (gtids_of cs) g ≡ true → (c : Cert) × In c cs × (c.gtid ≡ g)
of_gtids [] g f h = absurd (false≢true h)
of_gtids (c ∷ cs) g f h = go (or_cases (gtid_eq c.gtid g) (has (gtids_of cs) g) (sym (all_with_gtid (gtids_of cs) c.gtid g (gtids_canonical cs (λ y m. f y (inr m))) (f c (inl refl)).0 (f c (inl refl)).1) ∙ h)) (of_gtids cs g (λ y m. f y (inr m)))
  where
    go : (gtid_eq c.gtid g ≡ true) ⊎ (has (gtids_of cs) g ≡ true) → (has (gtids_of cs) g ≡ true → (y : Cert) × In y cs × (y.gtid ≡ g)) → (y : Cert) × In y (c ∷ cs) × (y.gtid ≡ g)
    go (inl q) k = (c, inl refl, gtid_eq_same c.gtid g q)
    go (inr q) k = let r = k q in (r.0, inr r.1, r.2)

-- nothing is extra: what the one set has the other has too
none_extra : (a b : Gtids) (g : Gtid) → IsCanonical a → IsCanonical b → minus a b ≡ [] → has a g ≡ true → has b g ≡ true
none_extra a b g p q e h = go (has b g) refl
  where
    go : (z : Bool) → has b g ≡ z → has b g ≡ true
    go true r = r
    go false r = absurd (false≢true (sym (ap (λ y. has y g) e) ∙ all_minus a b g p q ∙ (λ j. h j && not (r j))))

-- ---- what it was started with

pub stored_stays : (t : Setup) (i : Inc) (l p : Life) → left.IsPast p l → Lived t i l → 0 < length p → stored p ≡ stored l
stored_stays t i [] p h k n = ap stored h
stored_stays t i (Starts y ∷ l) p (inl e) k n = ap stored e
stored_stays t i (Starts y ∷ l) p (inr h) k n = absurd (none l p k.0.0 h n)
  where
    none : (l p : Life) → l ≡ [] → left.IsPast p l → 0 < length p → ⊥
    none [] p q h n = let z : length p ≡ 0 = ap length h in omega (arith, z, n)
    none (d ∷ l) p q h n = absurd (cc q)
stored_stays t i (Came (Hears m) ∷ l) p (inl e) k n = ap stored e
stored_stays t i (Came (Hears m) ∷ l) p (inr h) k n = stored_stays t i l p h k.1 n
stored_stays t i (Came Ticks ∷ l) p (inl e) k n = ap stored e
stored_stays t i (Came Ticks ∷ l) p (inr h) k n = stored_stays t i l p h k.1 n
stored_stays t i (Came (Works z y) ∷ l) p (inl e) k n = ap stored e
stored_stays t i (Came (Works z y) ∷ l) p (inr h) k n = stored_stays t i l p h k.1 n
stored_stays t i (Came (Calls z y) ∷ l) p (inl e) k n = ap stored e
stored_stays t i (Came (Calls z y) ∷ l) p (inr h) k n = stored_stays t i l p h k.1 n
stored_stays t i (Came (Operates z) ∷ l) p (inl e) k n = ap stored e
stored_stays t i (Came (Operates z) ∷ l) p (inr h) k n = stored_stays t i l p h k.1 n
stored_stays t i (Skips u v ∷ l) p (inl e) k n = ap stored e
stored_stays t i (Skips u v ∷ l) p (inr h) k n = stored_stays t i l p h k.1 n
stored_stays t i (Gave m j ∷ l) p (inl e) k n = ap stored e
stored_stays t i (Gave m j ∷ l) p (inr h) k n = stored_stays t i l p h k.1 n
stored_stays t i (Replied r ∷ l) p (inl e) k n = ap stored e
stored_stays t i (Replied r ∷ l) p (inr h) k n = stored_stays t i l p h k.1 n
stored_stays t i (AskFails ∷ l) p (inl e) k n = ap stored e
stored_stays t i (AskFails ∷ l) p (inr h) k n = stored_stays t i l p h k.1 n
stored_stays t i (Founds ∷ l) p (inl e) k n = ap stored e
stored_stays t i (Founds ∷ l) p (inr h) k n = stored_stays t i l p h k.1 n
stored_stays t i (Enters z ∷ l) p (inl e) k n = ap stored e
stored_stays t i (Enters z ∷ l) p (inr h) k n = stored_stays t i l p h k.1 n
stored_stays t i (Done q ∷ l) p (inl e) k n = ap stored e
stored_stays t i (Done q ∷ l) p (inr h) k n = stored_stays t i l p h k.1 n
stored_stays t i (Begun u y z ∷ l) p (inl e) k n = ap stored e
stored_stays t i (Begun u y z ∷ l) p (inr h) k n = stored_stays t i l p h k.1 n
stored_stays t i (Changed u z ∷ l) p (inl e) k n = ap stored e
stored_stays t i (Changed u z ∷ l) p (inr h) k n = stored_stays t i l p h k.1 n
stored_stays t i (Called u y z ∷ l) p (inl e) k n = ap stored e
stored_stays t i (Called u y z ∷ l) p (inr h) k n = stored_stays t i l p h k.1 n
stored_stays t i (AsksCommit u y ∷ l) p (inl e) k n = ap stored e
stored_stays t i (AsksCommit u y ∷ l) p (inr h) k n = stored_stays t i l p h k.1 n
stored_stays t i (Ends u ∷ l) p (inl e) k n = ap stored e
stored_stays t i (Ends u ∷ l) p (inr h) k n = stored_stays t i l p h k.1 n
stored_stays t i (Took z ∷ l) p (inl e) k n = ap stored e
stored_stays t i (Took z ∷ l) p (inr h) k n = stored_stays t i l p h k.1 n
stored_stays t i (Made u y ∷ l) p (inl e) k n = ap stored e
stored_stays t i (Made u y ∷ l) p (inr h) k n = stored_stays t i l p h k.1 n
stored_stays t i (Answered u y ∷ l) p (inl e) k n = ap stored e
stored_stays t i (Answered u y ∷ l) p (inr h) k n = stored_stays t i l p h k.1 n
stored_stays t i (Is y z ∷ l) p (inl e) k n = ap stored e
stored_stays t i (Is y z ∷ l) p (inr h) k n = stored_stays t i l p h k.1 n
stored_stays t i (Restores y z ∷ l) p (inl e) k n = ap stored e
stored_stays t i (Restores y z ∷ l) p (inr h) k n = stored_stays t i l p h k.1 n
stored_stays t i (Committed u ∷ l) p (inl e) k n = ap stored e
stored_stays t i (Committed u ∷ l) p (inr h) k n = stored_stays t i l p h k.1 n

pub recovering_began : (l : Life) → is_recovering (state l) ≡ true → 0 < length l
recovering_began [] h = absurd (false≢true h)
recovering_began (d ∷ l) h = omega arith

-- the GTIDs of the list are the group's
pub of_group : (t : Setup) (m : List law.Placed) (d : law.Cert) → Mem d (law.certified t m) → d.gtid.source ≡ t.limits.group
of_group t [] d h = absurd h
of_group t (e ∷ m) d h = go (cons_cases (law.cert_of t (suc (length m)) e) (law.certified t m) d h) (of_group t m d)
  where
    parts : (b : law.Body) (o : law.Outcome) → law.cert_parts t (suc (length m)) e.value.origin e.value.number b o ≡ Some d → d.gtid.source ≡ t.limits.group
    parts (law.Write x) (law.Positive n) q =
        let z : record { place = suc (length m); origin = e.value.origin; id = e.value.number; gtid = record { source = t.limits.group; number = n }; txn = x } ≡ d = cc in
        ap (λ (u : law.Cert). u.gtid.source) (sym z)
    parts (law.Write x) (law.Conflict y) q = absurd (cc q)
    parts (law.Write x) law.NoTxn q = absurd (cc q)
    parts (law.Executed x) o q = absurd (cc q)
    parts (law.Online x) o q = absurd (cc q)
    parts (law.Joins x) o q = absurd (cc q)
    parts (law.Leaves x) o q = absurd (cc q)
    parts (law.Prepared x) o q = absurd (cc q)
    parts (law.Switches x) o q = absurd (cc q)
    parts (law.Appoints x) o q = absurd (cc q)
    parts law.Plain o q = absurd (cc q)

    go : (law.cert_of t (suc (length m)) e ≡ Some d) ⊎ Mem d (law.certified t m) → (Mem d (law.certified t m) → d.gtid.source ≡ t.limits.group) → d.gtid.source ≡ t.limits.group
    go (inl q) f = parts e.value.body e.outcome q
    go (inr k) f = f k

-- ---- one thing more

module _ (t : Setup) (setup : IsSetup t) (w : Past) (x : LogOver t w) (done : AllDid (IsDone t) w) (servers : OfServers t w) (spelled : Spelled) (small : HasSmallNumbers w) (v : Past) (v_past : IsPast v w)
    (judges : (p : Past) → IsPast p v → (i : Inc) → IsReady t i (life_in p i) → 0 < length (life_in p i) → TakesOf t x.log (base_in t x.log w i) (life_in p i) × JudgesAs t x.log (base_in t x.log w i) (life_in p i)) where
  abbrev list : List law.Placed
  list = list_of t x.log

  abbrev KnownBefore : Past → Type 0
  KnownBefore p = (q : Past) → IsPast q p → KnownAt t list q

  pub in_w : (p : Past) → IsPast p v → IsPast p w
  in_w p k = past_of v p w v_past k

  pub distinct : (c d : law.Cert) → Mem c (law.certified t list) → Mem d (law.certified t list) → c.gtid ≡ d.gtid → c ≡ d
  distinct c d m n =
      let e : list ≡ decided.scan t (law.values list) = scanned t [] x.log in
      gtids_distinct t setup.block (law.values list) c d (subst (λ y. Mem c (law.certified t y)) e m) (subst (λ y. Mem d (law.certified t y)) e n)

  pub everywhere : (p : Past) → IsPast p v → CarriedAt (Known t list) p
  everywhere p k = known_at t setup w x done spelled small v v_past judges p k

  -- ---- sets

  pub commit_cert : (p : Past) (i : Inc) (g : Gtid) → (h : left.IsCommitted t i (life_in p i) g) → In h.cert (certs (life_in p i))
  commit_cert p i g h = subst (In h.cert) (sym h.certs) (in_pending h.begin h.cert (subst (In h.cert) (sym h.pending) (in_second h.cert h.first (h.cert ∷ h.rest) (inl refl)))).0

  pub numbers : HasNumbers t w
  numbers = record {
    committed = λ p i g k. (let h : IsDone t p i (Committed g) = done_at (IsDone t) w p i (Committed g) done k in
        subst (λ (y : Gtid). IsUuid y.source × IsNumber y.number) h.1.1.is_it ((fine_at t setup w x done spelled small p (past_of (Does i (Committed g) ∷ p) p w k (inr (past_self p)))).lives i h.1.1.cert (commit_cert p i g h.1.1)).0);
    written = small.written;
  }

  pub sets : (p : Past) → IsPast p w → SetsAt p
  sets p k = sets_at t w servers numbers p k (did_past (IsDone t) w p done k) (written_past (IsWritten t) w p k servers.written)

  -- ---- an entry

  took_known : (p : Past) (i : Inc) (e : Entry) → IsPast (Does i (Took e) ∷ p) v → LifeKnows t list i (life_in p i) → LifeKnows t list i (Took e ∷ life_in p i)
  took_known p i e k h = record {
    complete = λ d m z. elim (h.complete d m z) [ inl a ↦ inl a | inr b ↦ inr (b.0, in_second b.0 (cert_of e) (certs l) b.1, b.2) ];
    reached = λ r d m n. reached d m n (cons_cases (law.cert_of t (suc (length marked)) (placed e)) (law.certified t marked) d (within d m n));
    descends = descends_more e (certs l) h.descends (λ c m. let z = h.below c m in omega (arith, z, place));
    below = λ c m. elim (in_either c (cert_of e) (certs l) m) [ inl n ↦ (let z = new c n in omega (arith, z)) | inr n ↦ (let z = h.below c n in omega (arith, z, place)) ];
    had = λ r c m. (let z = h.had is_ready c m in omega (arith, z, place));
    apart = λ c m. elim (in_either c (cert_of e) (certs l) m) [
      | inl n ↦ (λ y u q. let a = new c n in let b = h.had is_ready y u in omega (arith, a, b, q, place))
      | inr n ↦ h.apart c n
    ];
    entries = λ c m. entries c m (e.place == c.place) refl;
    once = h.once;
    stays = h.stays;
    stock = h.stock;
  }
    where
      l : Life
      l = life_in p i

      base : List law.Placed
      base = base_in t x.log w i

      marked : List law.Placed
      marked = lives.marked (life_of base l)

      both : TakesOf t x.log base (Took e ∷ life_in p i) × JudgesAs t x.log base (Took e ∷ life_in p i)
      both = judged_took t setup w x done spelled small v v_past judges p i e k

      is_ready : IsReady t i l
      is_ready = ready_took t setup w x done spelled small p i e (in_w (Does i (Took e) ∷ p) k)

      place : e.place ≡ suc (taken l)
      place = both.0.taking.0.0

      long : length marked ≡ taken l
      long = places_agree t base l both.0.taking.1

      entries : (c : Cert) → In c (cert_of e ++ certs (life_in p i)) → (b : Bool) → (e.place == c.place) ≡ b
          → (c.place ≤ add_place (entered (life_in p i))) ⊎ ((y : Entry) × (elim b [ true ↦ Some e | false ↦ entry_at (life_in p i) c.place ] ≡ Some y))
      entries c m true q = inr (e, refl)
      entries c m false q = elim (in_either c (cert_of e) (certs (life_in p i)) m) [
        | inl n ↦ absurd (false≢true (sym q ∙ eq-eqb e.place c.place (sym (new c n))))
        | inr n ↦ h.entries c n
      ]
        where
          new : (c : Cert) → In c (cert_of e) → c.place ≡ e.place
          new c m = sym (ap (λ (y : Cert). y.place) (given_gtid e c m).is_it)

      new : (c : Cert) → In c (cert_of e) → c.place ≡ e.place
      new c m = sym (ap (λ (y : Cert). y.place) (given_gtid e c m).is_it)

      within : (d : law.Cert) → Mem d (law.certified t list) → d.place ≤ e.place → Mem d (law.certified t (placed e ∷ marked))
      within d m n =
          cert_within t (placed e ∷ marked) list d (subst (λ y. listing.IsPast y list) (sym both.1) (upto_is_past e.place list)) m (omega (arith, n, place, long))

      reached : (d : law.Cert) → Mem d (law.certified t list) → d.place ≤ e.place → (law.cert_of t (suc (length marked)) (placed e) ≡ Some d) ⊎ Mem d (law.certified t marked)
          → ((c : Cert) × In c (cert_of e ++ certs l) × Alike c d) ⊎ (has (executed l) d.gtid ≡ true)
      reached d m n (inl q) =
          let c = cert_back t (view t l) e (suc (length marked)) d both.0.taking.0.1 (place ∙ ap suc (sym long)) q in
          inl (c.0, in_first c.0 (cert_of e) (certs l) c.1, c.2)
      reached d m n (inr q) =
          let z = place_le t marked d q in
          elim (h.reached is_ready d m (omega (arith, z, long))) [ inl b ↦ inl (b.0, in_second b.0 (cert_of e) (certs l) b.1, b.2) | inr b ↦ inr b ]

  -- ---- a commit

  committed_known : (p : Past) (i : Inc) (g : Gtid) → IsPast (Does i (Committed g) ∷ p) v → IsPast p v → LifeKnows t list i (life_in p i) → LifeKnows t list i (Committed g ∷ life_in p i)
  committed_known p i g k below h = record {
    complete = λ d m z. complete d m (or_cases (gtid_eq g d.gtid) (has (executed l) d.gtid) (sym (more d.gtid) ∙ z));
    reached = λ r d m n. elim (h.reached r d m n) [ inl b ↦ inl b | inr b ↦ inr (grows d.gtid b) ];
    descends = h.descends;
    below = h.below;
    had = h.had;
    apart = h.apart;
    entries = h.entries;
    once = ((ap (has (executed l)) (sym y.is_it) ∙ new, (y.cert, here, y.is_it)), h.once);
    stays = λ u z. grows u (h.stays u z);
    stock = h.stock;
  }
    where
      l : Life
      l = life_in p i

      y : left.IsCommitted t i (life_in p i) g
      y = (done_at (IsDone t) w p i (Committed g) done (in_w (Does i (Committed g) ∷ p) k)).1.1

      here : In y.cert (certs (life_in p i))
      here = commit_cert p i g y

      set : HasSets (life_in p i)
      set = (sets p (in_w p below)).lives i

      gtid : IsUuid g.source × IsNumber g.number
      gtid = numbers.committed p i g (in_w (Does i (Committed g) ∷ p) k)

      more : (u : Gtid) → has (with_gtid (executed (life_in p i)) g) u ≡ (gtid_eq g u || has (executed (life_in p i)) u)
      more u = all_with_gtid (executed (life_in p i)) g u (canonical (life_in p i) set) gtid.0 gtid.1

      grows : (u : Gtid) → has (executed (life_in p i)) u ≡ true → has (with_gtid (executed (life_in p i)) g) u ≡ true
      grows u e = more u ∙ or_right (gtid_eq g u) (has (executed (life_in p i)) u) e

      known_here : (c : Cert) → In c (certs (life_in p i)) → Known t list c
      known_here c m = (everywhere p below).lives i c m

      same : (a b : Cert) → In a (certs (life_in p i)) → In b (certs (life_in p i)) → a.gtid ≡ b.gtid → a.place ≡ b.place
      same a b m n q =
          let c = (known_here a m).1 in
          let d = (known_here b n).1 in
          c.2.place ∙ ap (λ (u : law.Cert). u.place) (distinct c.0 d.0 c.1 d.1 (sym c.2.gtid ∙ q ∙ d.2.gtid)) ∙ sym d.2.place

      new : has (executed (life_in p i)) y.cert.gtid ≡ false
      new = commit_new t i [] (life_in p i) g y h.descends (λ c m. (known_here c m).0.0) same set

      complete : (d : law.Cert) → Mem d (law.certified t list) → (gtid_eq g d.gtid ≡ true) ⊎ (has (executed (life_in p i)) d.gtid ≡ true) → (has (stored (life_in p i)).executed d.gtid ≡ true) ⊎ ((c : Cert) × In c (certs (life_in p i)) × Alike c d)
      complete d m (inr z) = h.complete d m z
      complete d m (inl z) =
          let c = (known_here y.cert here).1 in
          let s : c.0 ≡ d = distinct c.0 d c.1 m (sym c.2.gtid ∙ y.is_it ∙ gtid_eq_same g d.gtid z) in
          inr (y.cert, here, subst (Alike y.cert) s c.2)

  -- ---- the beginning

  starts_known : (p : Past) (i : Inc) (y : Stored) → IsDone t p i (Starts y) → KnownAt t list p → LifeKnows t list i (Starts y ∷ life_in p i)
  starts_known p i y h b = subst (λ l. LifeKnows t list i (Starts y ∷ l)) (sym h.1) (record {
    complete = λ d m e. inl e;
    reached = λ r. absurd (unready_yet r);
    descends = tt;
    below = λ c m. absurd m;
    had = λ r. absurd (unready_yet r);
    apart = λ c m. absurd m;
    entries = λ c m. absurd m;
    once = tt;
    stays = λ g e. e;
    stock = subst (StockOf t list) (sym h.3) (b.stocks i.server);
  })
    where
      unready_yet : (is_founder t i ≡ true) ⊎ (false ≡ true) → ⊥
      unready_yet (inl f) = false≢true (sym h.2 ∙ f)
      unready_yet (inr f) = false≢true f

  -- a Welcome comes to one that has no certified transaction, and isn't ready
  enters_known : (p : Past) (i : Inc) (u : Welcome) → IsDone t p i (Enters u) → AllDid (IsDone t) p → LifeKnows t list i (life_in p i) → LifeKnows t list i (Enters u ∷ life_in p i)
  enters_known p i u h all k = record {
    complete = k.complete;
    reached = λ r. absurd (unready_yet r);
    descends = k.descends;
    below = λ c m. absurd (subst (In c) none m);
    had = λ r. absurd (unready_yet r);
    apart = k.apart;
    entries = λ c m. absurd (subst (In c) none m);
    once = k.once;
    stays = k.stays;
    stock = k.stock;
  }
    where
      shape : Shape t i (life_in p i)
      shape = shapes t p all i

      none : certs (life_in p i) ≡ []
      none = (unready t i [] (life_in p i) (enters_waits t p i u h shape).slots (enters_waits t p i u h shape).give).0

      unready_yet : (is_founder t i ≡ true) ⊎ (has_give (life_in p i) ≡ true) → ⊥
      unready_yet (inl f) = some_none (((one_more t p i (Enters u) h shape).founder f).entered)
      unready_yet (inr f) = false≢true (sym (enters_waits t p i u h shape).give ∙ f)

  -- ---- one that is ready stays so, and goes on

  abbrev Went : Past → Past → Inc → Type 0
  Went q p i = IsReady t i (life_in p i) × (taken (life_in q i) ≤ taken (life_in p i))

  went_did : (q p : Past) (i : Inc) (d : Did) → IsPast (Does i d ∷ p) v → AllDid (IsDone t) p → Went q p i → IsReady t i (d ∷ life_in p i) × (taken (life_in q i) ≤ taken (d ∷ life_in p i))
  went_did q p i (Took e) k all h =
      let place = (judged_took t setup w x done spelled small v v_past judges p i e k).0.taking.0.0 in
      let z = h.1 in
      (h.0, omega (arith, z, place))
  went_did q p i (Enters u) k all h = absurd (by h.0)
    where
      is_done : IsDone t p i (Enters u)
      is_done = done_at (IsDone t) w p i (Enters u) done (in_w (Does i (Enters u) ∷ p) k)

      by : (is_founder t i ≡ true) ⊎ (has_give (life_in p i) ≡ true) → ⊥
      by (inl f) = some_none (((one_more t p i (Enters u) is_done (shapes t p all i)).founder f).entered)
      by (inr f) = false≢true (sym (enters_waits t p i u is_done (shapes t p all i)).give ∙ f)
  went_did q p i (Restores g cs) k all h = (inr refl, h.1)
  went_did q p i (Starts x) k all h = h
  went_did q p i (Came (Hears m)) k all h = h
  went_did q p i (Came Ticks) k all h = h
  went_did q p i (Came (Works z y)) k all h = h
  went_did q p i (Came (Calls z y)) k all h = h
  went_did q p i (Came (Operates z)) k all h = h
  went_did q p i (Skips u v) k all h = h
  went_did q p i (Gave n j) k all h = h
  went_did q p i (Replied r) k all h = h
  went_did q p i AskFails k all h = h
  went_did q p i Founds k all h = h
  went_did q p i (Done m) k all h = h
  went_did q p i (Begun u y z) k all h = h
  went_did q p i (Changed u z) k all h = h
  went_did q p i (Called u y z) k all h = h
  went_did q p i (AsksCommit u y) k all h = h
  went_did q p i (Ends u) k all h = h
  went_did q p i (Made u y) k all h = h
  went_did q p i (Answered u y) k all h = h
  went_did q p i (Is y z) k all h = h
  went_did q p i (Committed u) k all h = h

  pub went : (q p : Past) (i : Inc) → IsPast q p → IsPast p v → AllDid (IsDone t) p → IsReady t i (life_in q i) → Went q p i
  went q [] i h k all r = (subst (λ y. IsReady t i (life_in y i)) h r, subst (λ y. taken (life_in q i) ≤ taken (life_in y i)) h (omega arith))
  went q (Writes n y ∷ p) i (inl e) k all r = (subst (λ z. IsReady t i (life_in z i)) e r, subst (λ z. taken (life_in q i) ≤ taken (life_in z i)) e (omega arith))
  went q (Halts n ∷ p) i (inl e) k all r = (subst (λ z. IsReady t i (life_in z i)) e r, subst (λ z. taken (life_in q i) ≤ taken (life_in z i)) e (omega arith))
  went q (Does j d ∷ p) i (inl e) k all r = (subst (λ z. IsReady t i (life_in z i)) e r, subst (λ z. taken (life_in q i) ≤ taken (life_in z i)) e (omega arith))
  went q (Writes n y ∷ p) i (inr h) k all r = went q p i h (past_of (Writes n y ∷ p) p v k (inr (past_self p))) all r
  went q (Halts n ∷ p) i (inr h) k all r = went q p i h (past_of (Halts n ∷ p) p v k (inr (past_self p))) all r
  went q (Does j d ∷ p) i (inr h) k all r = go (inc_eq j i) refl (went q p i h (past_of (Does j d ∷ p) p v k (inr (past_self p))) all.1 r)
    where
      go : (b : Bool) → inc_eq j i ≡ b → Went q p i → IsReady t i (elim b [ true ↦ d ∷ life_in p i | false ↦ life_in p i ]) × (taken (life_in q i) ≤ taken (elim b [ true ↦ d ∷ life_in p i | false ↦ life_in p i ]))
      go false e z = z
      go true e z = went_did q p i d (subst (λ y. IsPast (Does y d ∷ p) v) (inc_is j i e) k) all.1 z

  -- ---- a Give

  module _ (p : Past) (i : Inc) (g : Give) (cs : List Cert) (k : IsPast (Does i (Restores g cs) ∷ p) w) (below_v : IsPast p v) (before : KnownBefore p) where
    abbrev l : Life
    l = life_in p i

    all_p : AllDid (IsDone t) p
    all_p = did_past (IsDone t) w p done (in_w p below_v)

    abbrev f : GivenBy t p i g cs
    f = x.given p i g cs k

    sent_v : IsPast f.sent v
    sent_v = past_of p f.sent v below_v f.sent_before

    abbrev giver : Life
    giver = life_in f.sent f.giver

    giver_knows : LifeKnows t list f.giver (life_in f.sent f.giver)
    giver_knows = (before f.sent f.sent_before).lives f.giver

    -- what the giver knew then up to the Add, and what of it the joiner lacked
    abbrev up : List Cert
    up = filter (λ c. nat_le c.place f.add.place) (known (life_in f.sent f.giver))

    abbrev lacked : List Cert
    lacked = filter (λ c. not (has (executed (life_in f.asked i)) c.gtid)) up

    giver_has : (c : Cert) → In c (known (life_in f.sent f.giver)) → Known t list c
    giver_has c m = elim (in_known (life_in f.sent f.giver) c m) [ inl n ↦ (everywhere f.sent sent_v).had f.giver c n | inr n ↦ (everywhere f.sent sent_v).lives f.giver c n ]

    pub up_has : (c : Cert) → In c up → Known t list c × (c.place ≤ f.add.place)
    up_has c m = let r = in_filter (λ (c : Cert). nat_le c.place f.add.place) c (known (life_in f.sent f.giver)) m in (giver_has c r.0, leb-true c.place f.add.place r.1)

    pub lacked_has : (c : Cert) → In c lacked → In c up × (has (executed (life_in f.asked i)) c.gtid ≡ false)
    lacked_has c m = let r = in_filter (λ (c : Cert). not (has (executed (life_in f.asked i)) c.gtid)) c up m in (r.0, not-true (has (executed (life_in f.asked i)) c.gtid) r.1)

    pub told : cs ≡ map as_given lacked
    told = f.certs ∙ ap (λ (y : Give). certs_given y.txns) f.give ∙ given_back lacked (λ c m. (up_has c (lacked_has c m).0).0.0.1)

    -- one of those that the joiner then holds
    given_one : (c : Cert) → In c (reverse cs) → (y : Cert) × In y lacked × (as_given y ≡ c)
    given_one c m = in_map lacked c (subst (In c) told (in_reverse c cs m))

    -- the joiner had nothing yet, and stands at its Add
    pub joined : is_founder t i ≡ false
    joined = elim (cases_Bool (is_founder t i)) [
      | inl y ↦ absurd (some_none (sym f.entered ∙ ((shapes t p all_p i).founder y).entered))
      | inr y ↦ y
    ]

    pub asks : Asks (life_in p i) f.welcome
    asks = ((shapes t p all_p i).joiner joined).ungiven f.welcome f.entered f.ungiven

    pub place : f.add.place ≡ taken (life_in p i)
    place = f.place ∙ sym asks.place

    pub none : certs (life_in p i) ≡ []
    none = (unready t i [] (life_in p i) asks.slots f.ungiven).0

    -- the giver knew each certified transaction up to the Add
    reach : Went (Does f.giver (Took f.add) ∷ f.before) f.sent f.giver
    reach = went (Does f.giver (Took f.add) ∷ f.before) f.sent f.giver f.earlier sent_v (did_past (IsDone t) w f.sent done (in_w f.sent sent_v)) (subst (IsReady t f.giver) (sym here) was)
      where
        here : life_in (Does f.giver (Took f.add) ∷ f.before) f.giver ≡ Took f.add ∷ life_in f.before f.giver
        here = ap (λ b. elim b [ true ↦ Took f.add ∷ life_in f.before f.giver | false ↦ life_in f.before f.giver ]) (inc_same f.giver)

        was : IsReady t f.giver (life_in f.before f.giver)
        was = ready_took t setup w x done spelled small f.before f.giver f.add (in_w (Does f.giver (Took f.add) ∷ f.before) (past_of f.sent (Does f.giver (Took f.add) ∷ f.before) v sent_v f.earlier))

    far : f.add.place ≤ taken (life_in f.sent f.giver)
    far = subst (λ l. taken l ≤ taken (life_in f.sent f.giver)) (ap (λ b. elim b [ true ↦ Took f.add ∷ life_in f.before f.giver | false ↦ life_in f.before f.giver ]) (inc_same f.giver)) reach.1

    giver_all : (d : law.Cert) → Mem d (law.certified t list) → d.place ≤ f.add.place → (c : Cert) × In c (known (life_in f.sent f.giver)) × Alike c d
    giver_all d m n = elim (giver_knows.reached reach.0 d m (let z = far in omega (arith, n, z))) [
      | inl b ↦ (b.0, all_second (all_in [] (stored (life_in f.sent f.giver)).committed) (certs (life_in f.sent f.giver)) b.0 b.1, b.2)
      | inr e ↦ elim (giver_knows.complete d m e) [
        | inl y ↦ (let r = giver_knows.stock.known d m y in
            (r.0, all_first (all_in [] (stored (life_in f.sent f.giver)).committed) (certs (life_in f.sent f.giver)) r.0 (all_second [] (stored (life_in f.sent f.giver)).committed r.0 r.1), r.2))
        | inr b ↦ (b.0, all_second (all_in [] (stored (life_in f.sent f.giver)).committed) (certs (life_in f.sent f.giver)) b.0 b.1, b.2)
      ]
    ]

    asked_v : IsPast f.asked v
    asked_v = past_of p f.asked v below_v f.asked_before

    -- what the joiner had executed when it asked, it has now
    asked_stays : (u : Gtid) → has (executed (life_in f.asked i)) u ≡ true → has (executed (life_in p i)) u ≡ true
    asked_stays u e = executed_stays t i [] (life_in p i) (life_in f.asked i) u (past_lives f.asked p i f.asked_before) (lived t p all_p i) ((sets p (in_w p below_v)).lives i) e

    lacked_is : (c : Cert) → In c (known (life_in f.sent f.giver)) → c.place ≤ f.add.place → has (executed (life_in f.asked i)) c.gtid ≡ false → In c lacked
    lacked_is c m n e = filter_in (λ (y : Cert). not (has (executed (life_in f.asked i)) y.gtid)) c up (filter_in (λ (y : Cert). nat_le y.place f.add.place) c (known (life_in f.sent f.giver)) m (le-leb c.place f.add.place n)) (ap not e)

    reached : (d : law.Cert) → Mem d (law.certified t list) → d.place ≤ taken (life_in p i) → ((c : Cert) × In c (reverse cs) × Alike c d) ⊎ (has (executed (life_in p i)) d.gtid ≡ true)
    reached d m n = go (giver_all d m (let z = place in omega (arith, n, z)))
      where
        go : (c : Cert) × In c (known (life_in f.sent f.giver)) × Alike c d → ((c : Cert) × In c (reverse cs) × Alike c d) ⊎ (has (executed (life_in p i)) d.gtid ≡ true)
        go c = elim (cases_Bool (has (executed (life_in f.asked i)) (c.0).gtid)) [
          | inl e ↦ inr (ap (has (executed (life_in p i))) (sym c.2.gtid) ∙ asked_stays (c.0).gtid e)
          | inr e ↦ (let y = c.2.place in
              let z = place in
              let there = map_in lacked c.0 (lacked_is c.0 c.1 (omega (arith, n, y, z)) e) in
              inl (as_given c.0, reverse_in t i [] (as_given c.0) cs (subst (In (as_given c.0)) (sym told) there), record { place = c.2.place; origin = c.2.origin; number = inr refl; gtid = c.2.gtid; txn = c.2.txn }))
        ]

    pub lacked_ascends : Ascends lacked
    lacked_ascends = ascends_filter (λ (c : Cert). not (has (executed (life_in f.asked i)) c.gtid)) up (ascends_filter (λ (c : Cert). nat_le c.place f.add.place) (known (life_in f.sent f.giver)) (ascends_known t list f.giver (life_in f.sent f.giver) giver_knows))

    own_known : LifeKnows t list i (life_in p i)
    own_known = (before p (past_self p)).lives i

    -- all that it has executed was certified before its Add
    pub certified_before : (u : Gtid) → has (executed (life_in p i)) u ≡ true → (d : law.Cert) × Mem d (law.certified t list) × (d.place ≤ f.add.place) × (d.gtid ≡ u)
    certified_before u h = go (of_gtids up u numbered certified)
      where
        numbered : (y : Cert) → In y up → IsUuid y.gtid.source × IsNumber y.gtid.number
        numbered y n = (up_has y n).0.0.0

        is_up : g.certified ≡ gtids_of up
        is_up = ap (λ (y : Give). y.certified) f.give

        certified : has (gtids_of up) u ≡ true
        certified = none_extra (executed (life_in p i)) (gtids_of up) u (canonical (life_in p i) ((sets p (in_w p below_v)).lives i)) (gtids_canonical up numbered)
            (ap (minus (executed (life_in p i))) (sym is_up) ∙ f.no_extra) h

        go : (y : Cert) × In y up × (y.gtid ≡ u) → (d : law.Cert) × Mem d (law.certified t list) × (d.place ≤ f.add.place) × (d.gtid ≡ u)
        go y =
            let a = up_has y.0 y.1 in
            let b = a.0.1 in
            let n = a.1 in
            let e = b.2.place in
            (b.0, b.1, omega (arith, e, n), sym b.2.gtid ∙ y.2)

    had : (c : Cert) → In c (stored (life_in p i)).committed → c.place ≤ taken (life_in p i)
    had c m =
        let r = certified_before c.gtid (own_known.stays c.gtid (own_known.stock.done c m)) in
        let d = ((everywhere p below_v).had i c m).1 in
        let same : r.0 ≡ d.0 = distinct r.0 d.0 r.1 d.1 (r.3 ∙ d.2.gtid) in
        let e : c.place ≡ (r.0).place = d.2.place ∙ ap (λ (u : law.Cert). u.place) (sym same) in
        let n = r.2 in
        let z = place in
        omega (arith, e, n, z)

    -- the giver goes on
    pub giver_here : IsReady t f.giver (life_in p f.giver) × (f.add.place ≤ taken (life_in p f.giver))
    giver_here =
        let z = went f.sent p f.giver f.sent_before below_v all_p reach.0 in
        let a = far in
        let b = z.1 in
        (z.0, omega (arith, a, b))

    -- and isn't given again
    apart : (c : Cert) → In c (reverse cs) → Apart c (stored (life_in p i)).committed
    apart c m z n e =
        let r = given_one c m in
        let y = lacked_has r.0 r.1 in
        let a = (up_has r.0 y.0).0.1 in
        let b = ((everywhere p below_v).had i z n).1 in
        let q : z.place ≡ (r.0).place = e ∙ ap (λ (u : Cert). u.place) (sym r.2) in
        let same : b.0 ≡ a.0 = same_place t list b.0 a.0 b.1 a.1 (sym b.2.place ∙ q ∙ a.2.place) in
        let one : z.gtid ≡ (r.0).gtid = b.2.gtid ∙ ap (λ (u : law.Cert). u.gtid) same ∙ sym a.2.gtid in
        absurd (false≢true (sym y.1 ∙ ap (has (executed (life_in f.asked i))) (sym one) ∙ asked_has z.gtid (own_known.stock.done z n)))
      where
        -- it had begun when it asked
        began : stored (life_in f.asked i) ≡ stored (life_in p i)
        began = stored_stays t i (life_in p i) (life_in f.asked i) (past_lives f.asked p i f.asked_before) (lived t p all_p i) (recovering_began (life_in f.asked i) f.asking)

        asked_has : (u : Gtid) → has (stored (life_in p i)).executed u ≡ true → has (executed (life_in f.asked i)) u ≡ true
        asked_has u h = ((before f.asked f.asked_before).lives i).stays u (ap (λ (y : Stored). has y.executed u) began ∙ h)

    restores_known : LifeKnows t list i (Restores g cs ∷ life_in p i)
    restores_known = record {
      complete = λ d m e. elim (own_known.complete d m e) [ inl a ↦ inl a | inr b ↦ absurd (subst (In b.0) none b.1) ];
      reached = λ r. reached;
      descends = descends_reverse cs (subst Ascends (sym told) (ascends_given lacked lacked_ascends));
      below = λ c m. (let r = given_one c m in
          let n = (up_has r.0 (lacked_has r.0 r.1).0).1 in
          let q : (r.0).place ≡ c.place = ap (λ (u : Cert). u.place) r.2 in
          let z = place in
          omega (arith, n, q, z));
      had = λ r. had;
      apart = apart;
      entries = λ c m. (let r = given_one c m in
          let n = (up_has r.0 (lacked_has r.0 r.1).0).1 in
          let q : (r.0).place ≡ c.place = ap (λ (u : Cert). u.place) r.2 in
          let z : f.add.place ≡ add_place (entered (life_in p i)) = f.place ∙ sym (ap add_place f.entered) in
          inl (omega (arith, n, q, z)));
      once = own_known.once;
      stays = own_known.stays;
      stock = own_known.stock;
    }

  -- ---- all that happened

  did_known : (p : Past) (i : Inc) (d : Did) → IsPast (Does i d ∷ p) v → IsDone t p i d → AllDid (IsDone t) p → KnownBefore p → LifeKnows t list i (d ∷ life_in p i)
  did_known p i Founds k h all b = subst (λ l. LifeKnows t list i (Founds ∷ l)) (sym h.1) (nothing_known t list i)
  did_known p i (Starts y) k h all b = starts_known p i y h (b p (past_self p))
  did_known p i (Took e) k h all b = took_known p i e k ((b p (past_self p)).lives i)
  did_known p i (Committed g) k h all b = committed_known p i g k (past_of (Does i (Committed g) ∷ p) p v k (inr (past_self p))) ((b p (past_self p)).lives i)
  did_known p i (Enters u) k h all b = enters_known p i u h all ((b p (past_self p)).lives i)
  did_known p i (Restores g cs) k h all b = restores_known p i g cs (in_w (Does i (Restores g cs) ∷ p) k) (past_of (Does i (Restores g cs) ∷ p) p v k (inr (past_self p))) b
  did_known p i (Came (Hears n)) k h all b = (b p (past_self p)).lives i
  did_known p i (Came Ticks) k h all b = (b p (past_self p)).lives i
  did_known p i (Came (Works z y)) k h all b = (b p (past_self p)).lives i
  did_known p i (Came (Calls z y)) k h all b = (b p (past_self p)).lives i
  did_known p i (Came (Operates z)) k h all b = (b p (past_self p)).lives i
  did_known p i (Skips u v) k h all b = (b p (past_self p)).lives i
  did_known p i (Gave n j) k h all b = (b p (past_self p)).lives i
  did_known p i (Replied r) k h all b = (b p (past_self p)).lives i
  did_known p i AskFails k h all b = (b p (past_self p)).lives i
  did_known p i (Done q) k h all b = (b p (past_self p)).lives i
  did_known p i (Begun u y z) k h all b = (b p (past_self p)).lives i
  did_known p i (Changed u z) k h all b = (b p (past_self p)).lives i
  did_known p i (Called u y z) k h all b = (b p (past_self p)).lives i
  did_known p i (AsksCommit u y) k h all b = (b p (past_self p)).lives i
  did_known p i (Ends u) k h all b = (b p (past_self p)).lives i
  did_known p i (Made u y) k h all b = (b p (past_self p)).lives i
  did_known p i (Answered u y) k h all b = (b p (past_self p)).lives i
  did_known p i (Is y z) k h all b = (b p (past_self p)).lives i

  does_known : (p : Past) (j : Inc) (d : Did) → IsPast (Does j d ∷ p) v → KnownBefore p → KnownAt t list (Does j d ∷ p)
  does_known p j d k b = record { lives = λ i. go i (inc_eq j i) refl; stocks = (b p (past_self p)).stocks }
    where
      go : (i : Inc) (z : Bool) → inc_eq j i ≡ z → LifeKnows t list i (elim z [ true ↦ d ∷ life_in p i | false ↦ life_in p i ])
      go i false e = (b p (past_self p)).lives i
      go i true e =
          let s : j ≡ i = inc_is j i e in
          let m : IsPast (Does i d ∷ p) v = subst (λ y. IsPast (Does y d ∷ p) v) s k in
          let n : IsPast (Does i d ∷ p) w = in_w (Does i d ∷ p) m in
          did_known p i d m (done_at (IsDone t) w p i d done n) (did_past (IsDone t) w (Does i d ∷ p) done n).1 b

  -- an incarnation that stops leaves what its server keeps
  halts_known : (p : Past) (n : ℕ) → IsPast p v → KnownAt t list p → KnownAt t list (Halts n ∷ p)
  halts_known p n k b = record { lives = b.lives; stocks = λ m. go m (n == m) }
    where
      certs_of : (i : Inc) → CertsOf t i list (life_in p i)
      certs_of i = let h = b.lives i in record {
        listed = λ c m. ((everywhere p k).lives i c m).1;
        known = h.complete;
        descends = h.descends;
        apart = h.apart;
        readable = λ c m. ((everywhere p k).lives i c m).0.1;
      }

      after : (m : ℕ) (o : Option Inc) → StockOf t list (stored_after (stored_in p m) p o)
      after m None = b.stocks m
      after m (Some i) = stopped t i list (life_in p i) (stored_in p m) (lived t p (did_past (IsDone t) w p done (in_w p k)) i) ((sets p (in_w p k)).lives i) (b.lives i).once (certs_of i) (b.lives i).stock (b.lives i).stays

      go : (m : ℕ) (z : Bool) → StockOf t list (elim z [ true ↦ stored_after (stored_in p m) p (running_in p m) | false ↦ stored_in p m ])
      go m true = after m (running_in p m)
      go m false = b.stocks m

  -- a row that is written offline has a GTID of the server's own
  writes_known : (p : Past) (n : ℕ) (y : OfflineWrite) → IsPast (Writes n y ∷ p) v → KnownAt t list p → KnownAt t list (Writes n y ∷ p)
  writes_known p n y k b = record { lives = b.lives; stocks = λ m. go m (n == m) }
    where
      in_past : IsPast (Writes n y ∷ p) w
      in_past = in_w (Writes n y ∷ p) k

      is_written : IsWritten t p n y
      is_written = (written_past (IsWritten t) w (Writes n y ∷ p) in_past servers.written).0

      number : IsNumber y.gtid.number
      number = (written_past (λ p n x. IsNumber x.gtid.number) w (Writes n y ∷ p) in_past small.written).0

      wrote : ℕ → Stored
      wrote m = let z : Stored = stored_in p m in record { executed = with_gtid z.executed y.gtid; committed = z.committed; writes = z.writes ++ y ∷ [] }

      more : (m : ℕ) (g : Gtid) → has (with_gtid (stored_in p m).executed y.gtid) g ≡ (gtid_eq y.gtid g || has (stored_in p m).executed g)
      more m g = all_with_gtid (stored_in p m).executed y.gtid g ((sets p (past_of (Writes n y ∷ p) p w in_past (inr (past_self p)))).stored m) is_written.uuid number

      -- no certified transaction has it
      other : (d : law.Cert) → Mem d (law.certified t list) → gtid_eq y.gtid d.gtid ≡ true → ⊥
      other d m e = false≢true (sym is_written.apart ∙ ap (λ u. bytes_eq u t.limits.group) (ap (λ (u : Gtid). u.source) (gtid_eq_same y.gtid d.gtid e) ∙ of_group t list d m) ∙ bytes_eq_itself t.limits.group)

      one : (m : ℕ) → StockOf t list (wrote m)
      one m = let h = b.stocks m in record {
        listed = h.listed;
        known = λ d z e. elim (or_cases (gtid_eq y.gtid d.gtid) (has (stored_in p m).executed d.gtid) (sym (more m d.gtid) ∙ e)) [ inl q ↦ absurd (other d z q) | inr q ↦ h.known d z q ];
        done = λ c z. more m c.gtid ∙ or_right (gtid_eq y.gtid c.gtid) (has (stored_in p m).executed c.gtid) (h.done c z);
        twice = h.twice;
        readable = h.readable;
      }

      go : (m : ℕ) (z : Bool) → StockOf t list (elim z [ true ↦ wrote m | false ↦ stored_in p m ])
      go m true = one m
      go m false = b.stocks m

  pub known_before : (p : Past) → IsPast p v → KnownBefore p
  known_before [] k q e = subst (KnownAt t list) (sym e) (record { lives = λ i. nothing_known t list i; stocks = λ n. no_stock t list })
  known_before (Does j d ∷ p) k q e = go e (known_before p (past_of (Does j d ∷ p) p v k (inr (past_self p))))
    where
      go : (q ≡ Does j d ∷ p) ⊎ IsPast q p → KnownBefore p → KnownAt t list q
      go (inl z) h = subst (KnownAt t list) (sym z) (does_known p j d k h)
      go (inr z) h = h q z
  known_before (Halts n ∷ p) k q e = go e (known_before p below)
    where
      below : IsPast p v
      below = past_of (Halts n ∷ p) p v k (inr (past_self p))

      go : (q ≡ Halts n ∷ p) ⊎ IsPast q p → KnownBefore p → KnownAt t list q
      go (inl z) h = subst (KnownAt t list) (sym z) (halts_known p n below (h p (past_self p)))
      go (inr z) h = h q z
  known_before (Writes n y ∷ p) k q e = go e (known_before p (past_of (Writes n y ∷ p) p v k (inr (past_self p))))
    where
      go : (q ≡ Writes n y ∷ p) ⊎ IsPast q p → KnownBefore p → KnownAt t list q
      go (inl z) h = subst (KnownAt t list) (sym z) (writes_known p n y k (h p (past_self p)))
      go (inr z) h = h q z
