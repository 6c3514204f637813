-- The points of a run, as points of the run of which the laws speak.
use Rattle.std.proofs.Common.{◌≡◌, inl, inr, ℕ, suc, ◌≤◌, ◌<◌, Bool, true, false, not, ◌&&◌, Some, List, [], ◌∷◌, ◌++◌, map, refl, sym, ap, subst, ◌∙◌, length, arith}
use Rattle.std.specs.Prelude.{Option}
use Rattle.std.specs.List.{list_any}
use Rattle.std.proofs.lemmas.Bool.{false≢true, or_left, and_from}
use Rattle.gr_ids.specs.declared.names.Inc.{Inc}
use Rattle.gr_ids.specs.declared.names.Gtid.{Gtid}
use Rattle.gr_ids.specs.declared.levels.Level.{Level}
use Rattle.gr_ids.specs.declared.levels.MemberState.{MemberState}
use Rattle.gr_ids.specs.declared.levels.MemberState.TheVariants.{Offline, Recovering, Online, Error}
use Rattle.gr_ids.specs.Names.{inc_eq}
use Rattle.gtid_sets.specs.Sets.{Gtids, has}
use Rattle.node_rules.specs.Lists.{In}
use Rattle.node_rules.proofs.Incs.{inc_same}
use Rattle.group_rules.specs.Events.{Did, Called, Begun, Life, Setup, Cert}
use Rattle.group_rules.specs.Life.{state, is_up, is_error, is_recovering, view, certs, has_give}
use Rattle.group_rules.specs.OneList.{listed}
use Rattle.group_rules.specs.Sessions.{Call}
use Rattle.group_rules.specs.Legal.{IsPast, BegunAt}
use Rattle.group_rules.specs.World.{Past, Does, Writes as WritesOffline, Halts, life_in}
use Rattle.group_bridge.specs.Left as left
use Rattle.group_bridge.specs.Left.{is_settled, IsBegun}
use Rattle.group_runs.specs.Runs.{AllDid, IsDone}
use Rattle.group_order.specs.OneLog.{IsReady, LogOver}
use Rattle.group_order.proofs.Nexts.{past_self, past_of, done_at}
use Rattle.group_laws.specs.Lists as listing
use Rattle.group_laws.specs.Lists.{Mem}
use Rattle.group_laws.specs.Entries as law
use Rattle.group_laws.specs.View as seen
use Rattle.group_laws.specs.Primary as primary
use Rattle.group_laws.specs.Verdict as decided
use Rattle.group_laws.specs.Life as lives
use Rattle.group_laws.specs.World as run
use Rattle.group_laws.specs.Laws.{WasBegun}
use Rattle.group_laws.proofs.Lists.{IsPast-self}
use Rattle.group_lives.specs.Lives.{law_cert, sync_number, did_of, life_of, all_did, run_of}
use Rattle.group_lives.proofs.Runs.{lives_agree}
use Rattle.group_lives.proofs.Sets.{executed_agrees}
use Rattle.group_lives.proofs.Taking.{certs_agree, views_agree}
use Rattle.group_lawful.specs.Knows.{Sound, AlwaysSound}
use Rattle.group_lawful.proofs.States.{StateAs, stand, fallen_is, ready_by, shape_of, stands_so}
use Rattle.group_lawful.proofs.Sessions.{call_as, calls}
use Rattle.group_lawful.proofs.Begins.{call_past}
use Rattle.group_legal.specs.Bases.{list_of, base_in}
use Rattle.group_legal.specs.LawRun.{MomentOf, IsLawRun}
use Rattle.group_legal.proofs.Scanned.{takes, no_give, scanned}

-- ---- points

past_more : {A : Type 0} (p xs ys : List A) → listing.IsPast p ys → listing.IsPast p (xs ++ ys)
past_more p [] ys h = h
past_more p (x ∷ xs) ys h = inr (past_more p xs ys h)

-- an earlier point is one of the run of the laws
pub point : (base : Inc → List law.Placed) (p w : Past) → IsPast p w → listing.IsPast (run_of base p) (run_of base w)
point base p [] h = ap (run_of base) h
point base p (x ∷ w) (inl e) = subst (λ y. listing.IsPast (run_of base y) (run_of base (x ∷ w))) (sym e) (IsPast-self (run_of base (x ∷ w)))
point base p (Does i d ∷ w) (inr h) = past_more (run_of base p) (all_did i (did_of (base i) d (life_in w i))) (run_of base w) (point base p w h)
point base p (WritesOffline n x ∷ w) (inr h) = inr (point base p w h)
point base p (Halts n ∷ w) (inr h) = point base p w h

-- what an incarnation had done at an earlier point is a past of its history
pub history_past : (p w : Past) (i : Inc) → IsPast p w → left.IsPast (life_in p i) (life_in w i)
history_past p [] i h = ap (λ y. life_in y i) h
history_past p (x ∷ w) i (inl e) = subst (λ y. left.IsPast (life_in y i) (life_in (x ∷ w) i)) (sym e) (here (life_in (x ∷ w) i))
  where
    here : (l : Life) → left.IsPast l l
    here [] = refl
    here (d ∷ l) = inl refl
history_past p (WritesOffline n x ∷ w) i (inr h) = history_past p w i h
history_past p (Halts n ∷ w) i (inr h) = history_past p w i h
history_past p (Does j d ∷ w) i (inr h) = go (inc_eq j i) (history_past p w i h)
  where
    go : (b : Bool) → left.IsPast (life_in p i) (life_in w i) → left.IsPast (life_in p i) (elim b [ true ↦ d ∷ life_in w i | false ↦ life_in w i ])
    go true k = inr k
    go false k = k

-- right after the point it had done this
pub did_here : (p : Past) (i : Inc) (d : Did) → life_in (Does i d ∷ p) i ≡ d ∷ life_in p i
did_here p i d = ap (λ b. elim b [ true ↦ d ∷ life_in p i | false ↦ life_in p i ]) (inc_same i)

-- ---- the last call

past_length : (p l : Life) → left.IsPast p l → length p ≤ length l
past_length p [] h = let n : length p ≡ 0 = ap length h in omega (arith, n)
past_length p (d ∷ l) (inl e) = let n : length p ≡ suc (length l) = ap length e in omega (arith, n)
past_length p (d ∷ l) (inr h) = let n = past_length p l h in omega (arith, n)

-- what was done right after one and the same past is one and the same
same_did : (c d : Did) (p q l : Life) → p ≡ q → left.IsPast (c ∷ p) l → left.IsPast (d ∷ q) l → c ≡ d
same_did c d p q [] e a b = absurd (cc a)
same_did c d p q (x ∷ l) e (inl a) (inl b) = let y : c ≡ x = cc a in let z : d ≡ x = cc b in y ∙ sym z
same_did c d p q (x ∷ l) e (inl a) (inr b) =
    let y : p ≡ l = cc a in
    let n : length p ≡ length q = ap length e in
    let m : length p ≡ length l = ap length y in
    let k = past_length (d ∷ q) l b in
    absurd (omega (arith, n, m, k))
same_did c d p q (x ∷ l) e (inr a) (inl b) =
    let y : q ≡ l = cc b in
    let n : length p ≡ length q = ap length e in
    let m : length q ≡ length l = ap length y in
    let k = past_length (c ∷ p) l a in
    absurd (omega (arith, n, m, k))
same_did c d p q (x ∷ l) e (inr a) (inr b) = same_did c d p q l e a b

abbrev level_in : Did → Level → Level
level_in (Called s v n) u = v
level_in d u = u

-- ---- one that takes part

pub values_length : (xs : List law.Placed) → length (law.values xs) ≡ length xs
values_length [] = refl
values_length (x ∷ xs) = ap suc (values_length xs)

pub sound_at : (t : Setup) (i : Inc) (base : List law.Placed) (l : Life) → AlwaysSound t i base l → IsReady t i l → 0 < length l → Sound t i base l
sound_at t i base [] o k n = absurd (omega (arith, n))
sound_at t i base (d ∷ l) o k n = o.0.0.1 k n

-- ---- a begin

module _ (t : Setup) (w : Past) (one : LogOver t w) (done : AllDid (IsDone t) w) (r : IsLawRun t one.log w) where
  abbrev base : Inc → List law.Placed
  base = base_in t one.log w

  abbrev values : List law.Value
  values = law.values (list_of t one.log)

  pub called_past : (i : Inc) (b c : Past) (v : Level) (set : Gtids) (sync : Option ℕ) → BegunAt w i b c v set sync → IsPast c w
  called_past i b c v set sync h =
      past_of (Does i (Called h.session v h.limit) ∷ c) c w
      (past_of (Does i (Begun h.session set sync) ∷ b) (Does i (Called h.session v h.limit) ∷ c) w h.answer (inr h.call)) (inr (past_self c))

  pub begun_past : (i : Inc) (b c : Past) (v : Level) (set : Gtids) (sync : Option ℕ) → BegunAt w i b c v set sync → IsPast b w
  begun_past i b c v set sync h = past_of (Does i (Begun h.session set sync) ∷ b) b w h.answer (inr (past_self b))

  -- its call has its level
  pub called_level : (i : Inc) (b c : Past) (v : Level) (set : Gtids) (sync : Option ℕ) → (h : BegunAt w i b c v set sync) → (h.last.0).level ≡ v
  called_level i b c v set sync h =
      ap (λ d. level_in d v)
      (same_did (Called h.session call.level named.0) (Called h.session v h.limit) call.past (life_in c i) (life_in b i) h.last.2 named.1 there)
    where
      call : Call
      call = h.last.0

      named : (n : ℕ) × left.IsPast (Called h.session call.level n ∷ call.past) (life_in b i)
      named = call_past (life_in b i) h.session call h.last.1

      there : left.IsPast (Called h.session v h.limit ∷ life_in c i) (life_in b i)
      there = subst (λ y. left.IsPast y (life_in b i)) (did_here c i (Called h.session v h.limit)) (history_past (Does i (Called h.session v h.limit) ∷ c) b i h.call)

  -- a begin that was answered is so in the run of the laws
  pub was_begun : (i : Inc) (b c : Past) (v : Level) (set : Gtids) (sync : Option ℕ) → BegunAt w i b c v set sync
      → WasBegun (run_of base w) i (run_of base b) (run_of base c) v
  was_begun i b c v set sync h = record {
    session = h.session;
    sync = sync_number v (life_in c i);
    mark = point base (Does i (Begun h.session set sync) ∷ b) w h.answer;
    call = point base (Does i (Called h.session v h.limit) ∷ c) b h.call;
    last = last;
  }
    where
      level : (h.last.0).level ≡ v
      level = called_level i b c v set sync h

      last : lives.last_call (run.life (run_of base b) i) h.session ≡ Some (record { level = v; sync = sync_number v (life_in c i); past = run.life (run_of base c) i })
      last =
          ap (λ y. lives.last_call y h.session) (lives_agree base b i)
          ∙ call_as t i (base i) (life_in b i) h.session
          ∙ ap (calls t i (base i)) h.last.1
          ∙ (λ j. Some (record { level = level j; sync = sync_number (level j) (h.last.2 j); past = life_of (base i) (h.last.2 j) }))
          ∙ ap (λ y. Some (record { level = v; sync = sync_number v (life_in c i); past = y })) (sym (lives_agree base c i))

  -- with the number of its Sync
  pub sync_is : (i : Inc) (b c : Past) (v : Level) (set : Gtids) (sync : Option ℕ) → (h : BegunAt w i b c v set sync)
      → (was_begun i b c v set sync h).sync ≡ sync_number v (life_in c i)
  unfolding was_begun
  sync_is i b c v set sync h = refl

  -- it reads what was executed then
  pub is_begun : (i : Inc) (b c : Past) (v : Level) (set : Gtids) (sync : Option ℕ) → (h : BegunAt w i b c v set sync) → IsBegun t i (life_in b i) h.session set sync
  is_begun i b c v set sync h = (done_at (IsDone t) w b i (Begun h.session set sync) done h.answer).1.1

  pub has_read : (i : Inc) (b c : Past) (v : Level) (set : Gtids) (sync : Option ℕ) → BegunAt w i b c v set sync → (g : Gtid)
      → lives.executed (run.life (run_of base b) i) g ≡ true → has set g ≡ true
  has_read i b c v set sync h g e =
      ap (λ y. has y g) (is_begun i b c v set sync h).set
      ∙ sym (executed_agrees (base i) (life_in b i) g (r.moments b (begun_past i b c v set sync h) i).sets)
      ∙ ap (λ y. lives.executed y g) (sym (lives_agree base b i))
      ∙ e

  -- ---- the list

  -- its certified transactions are those of the laws
  pub certs_are : law.certified t (decided.scan t values) ≡ map law_cert (certs (listed t one.log))
  certs_are = ap (law.certified t) (sym (scanned t [] one.log)) ∙ certs_agree t [] (listed t one.log) (takes t [] one.log) (no_give t one.log)

  pub certified_there : (c : Cert) → In c (certs (listed t one.log)) → Mem (law_cert c) (law.certified t (decided.scan t values))
  certified_there c m = subst (Mem (law_cert c)) (sym certs_are) (mapped (certs (listed t one.log)) m)
    where
      mapped : (cs : List Cert) → In c cs → Mem (law_cert c) (map law_cert cs)
      mapped [] h = h
      mapped (x ∷ cs) (inl e) = inl (ap law_cert e)
      mapped (x ∷ cs) (inr h) = inr (mapped cs h)

  -- ---- ONLINE by its own marks

  -- one that is ONLINE takes part
  ready_up : (p : Past) → IsPast p w → (i : Inc) → 1 < length (life_in p i) → is_up (state (life_in p i)) ≡ true → IsReady t i (life_in p i)
  ready_up p h i b u =
      ready_by t i (base i) (life_in p i) (shape_of t i (base i) (life_in p i) (r.moments p h i).always b)
      (or_left (is_up (state (life_in p i))) (is_recovering (state (life_in p i)) && has_give (life_in p i)) u)

  pub sound_up : (p : Past) → IsPast p w → (i : Inc) → 1 < length (life_in p i) → is_up (state (life_in p i)) ≡ true → Sound t i (base i) (life_in p i)
  sound_up p h i b u = sound_at t i (base i) (life_in p i) (r.moments p h i).always (ready_up p h i b u) (omega (arith, b))

  pub online_at : (p : Past) → IsPast p w → (i : Inc) → 1 < length (life_in p i) → is_settled i (life_in p i) ≡ true → is_up (state (life_in p i)) ≡ true
      → lives.online t i (run.life (run_of base p) i) ≡ true
  online_at p h i b z u =
      ap (lives.online t i) (lives_agree base p i)
      ∙ and_from (not (list_any lives.is_fall (life_of (base i) (life_in p i)))) (seen.active t (lives.taken (life_of (base i) (life_in p i))) i)
      (ap not (fallen_is t i (base i) (life_in p i) m.lived ∙ no_error (state (life_in p i)) u))
      (ap seen.is_active (stands_up (state (life_in p i)) (stand t i (base i) (life_in p i)) u ((stands_so t i (base i) (life_in p i) m.lived m.always).0 (ready_up p h i b u) b z)))
    where
      m : MomentOf t one.log (base i) i (life_in p i)
      m = r.moments p h i

      no_error : (x : MemberState) → is_up x ≡ true → is_error x ≡ false
      no_error Online q = refl
      no_error Error q = absurd (false≢true q)
      no_error Recovering q = refl
      no_error Offline q = refl

      stands_up : (x : MemberState) (y : seen.Standing) → is_up x ≡ true → StateAs t i (base i) x y → y ≡ seen.Active
      stands_up Online y q k = k
      stands_up Error y q k = absurd (false≢true q)
      stands_up Recovering y q k = absurd (false≢true q)
      stands_up Offline y q k = absurd (false≢true q)

  -- its view is that of its life in the run
  pub view_at : (p : Past) (i : Inc) → Sound t i (base i) (life_in p i) → primary.view t (lives.taken (run.life (run_of base p) i)) ≡ view t (life_in p i)
  view_at p i s = ap (λ l. primary.view t (lives.taken l)) (lives_agree base p i) ∙ views_agree t (base i) (life_in p i) s.taking

  -- a call comes in a settled moment
  pub at_call : (i : Inc) (b c : Past) (v : Level) (set : Gtids) (sync : Option ℕ) → BegunAt w i b c v set sync
      → (1 < length (life_in c i)) × (is_settled i (life_in c i) ≡ true)
  at_call i b c v set sync h =
      let d = done_at (IsDone t) w c i (Called h.session v h.limit) done (past_of b (Does i (Called h.session v h.limit) ∷ c) w (begun_past i b c v set sync h) h.call) in
      (d.0.begun, d.0.settled)
