-- Servers: what they have executed, and which incarnation runs.
use Rattle.std.proofs.Common.{◌≡◌, ◌⊎◌, inl, inr, ℕ, Bool, true, false, cond, ◌&&◌, ◌||◌, Option, Some, None, List, [], ◌∷◌, ◌++◌, refl, sym, ap, subst, ◌∙◌, eq-eqb}
use Rattle.std.specs.Prelude.{◌==◌}
use Rattle.std.proofs.lemmas.Bool.{false≢true, eqb-true}
use Rattle.gr_ids.specs.Names.{inc_eq, gtid_eq}
use Rattle.gr_ids.specs.declared.names.Inc.{Inc}
use Rattle.gr_ids.specs.declared.names.Gtid.{Gtid}
use Rattle.gr_ids.specs.declared.levels.MemberState.TheVariants.{Offline, Recovering, Online, Error}
use Rattle.gtid_sets.specs.Sets.{has, with_gtid}
use Rattle.gtid_sets.specs.Canonical.{IsCanonical, IsUuid, IsNumber}
use Rattle.gtid_sets.proofs.LawLemmas.{all_with_gtid}
use Rattle.gtid_sets.proofs.PutLemmas.{canonical_with_gtid}
use Rattle.txn_forms.specs.declared.body.Body.{Body}
use Rattle.txn_forms.specs.declared.body.Body.TheVariants.{Txn as HasTxn}
use Rattle.node_rules.proofs.Incs.{inc_same, inc_is}
use Rattle.group_rules.specs.declared.answers.Answer.{Answer}
use Rattle.group_rules.specs.declared.answers.Answer.TheVariants.{Committed as CommittedAs}
use Rattle.group_rules.specs.Events.{Did, Founds, Starts, Came, Made, Took, Skips, Done, Committed, Is, Gave, Answered, Begun, Changed, Replied, Called, AsksCommit, Ends, Enters, Restores, AskFails, Hears, Ticks, Works, Calls, Operates, Life, Setup, Stored, OfflineWrite}
use Rattle.group_rules.specs.Life.{executed}
use Rattle.group_rules.specs.Legal.{IsPast}
use Rattle.group_rules.specs.World.{Past, Does, Writes, Halts, life_in}
use Rattle.group_runs.specs.Runs.{is_founder, running_in, stored_after, stored_in, AllDid, IsDone}
use Rattle.group_runs.specs.Servers.{IsFounding, FoundedAt, IsWritten, AllWritten, OfServers}
use Rattle.group_order.proofs.Nexts.{past_self, past_of}
use Rattle.group_laws.specs.Entries as law
use Rattle.group_laws.specs.Life as lives
use Rattle.group_laws.specs.World as run
use Rattle.group_lives.specs.Lives.{placed, made_as, sync_number, asking, did_of, all_did, run_of}
use Rattle.group_lives.specs.Sound.{HasSets}
use Rattle.group_lives.proofs.Sets.{canonical}

pub some_none : {A : Type 0} {x : A} → Some x ≡ None → ⊥
some_none e = absurd (cc e)

some_is : {A : Type 0} {x y : A} → Some x ≡ Some y → x ≡ y
some_is {x = x} {y = y} e = cc

-- the incarnation that runs at a server is of it
pub running_at : (p : Past) (n : ℕ) (i : Inc) → running_in p n ≡ Some i → i.server ≡ n
running_at [] n i h = absurd (some_none (sym h))
running_at (Writes m x ∷ p) n i h = running_at p n i h
running_at (Halts m ∷ p) n i h = go (m == n) h (running_at p n i)
  where
    go : (b : Bool) → ◌≡◌ {A = Option Inc} (elim b [ true ↦ None | false ↦ running_in p n ]) (Some i) → (running_in p n ≡ Some i → i.server ≡ n) → i.server ≡ n
    go true q f = absurd (some_none (sym q))
    go false q f = f q
running_at (Does j d ∷ p) n i h = go (j.server == n) refl h (running_at p n i)
  where
    go : (b : Bool) → (j.server == n) ≡ b → ◌≡◌ {A = Option Inc} (elim b [ true ↦ Some j | false ↦ running_in p n ]) (Some i) → (running_in p n ≡ Some i → i.server ≡ n) → i.server ≡ n
    go true e q f = ap (λ (y : Inc). y.server) (sym (some_is q)) ∙ eqb-true j.server n e
    go false e q f = f q

-- ---- the founding

pub pasts_compare : (p q w : Past) → IsPast p w → IsPast q w → IsPast p q ⊎ IsPast q p
pasts_compare p q [] h k = inl (subst (IsPast p) (sym k) h)
pasts_compare p q (x ∷ w) (inl e) k = inr (subst (IsPast q) (sym e) k)
pasts_compare p q (x ∷ w) (inr h) (inl e) = inl (subst (IsPast p) (sym e) (inr h))
pasts_compare p q (x ∷ w) (inr h) (inr k) = pasts_compare p q w h k

pub founding_past : (p q : Past) → IsPast q p → IsFounding p → IsFounding q
founding_past [] q h f = subst IsFounding (sym h) tt
founding_past (x ∷ p) q (inl e) f = subst IsFounding (sym e) f
founding_past (Does i Founds ∷ p) q (inr h) f = founding_past p q h f
founding_past (Does i (Is Online c) ∷ p) q (inr h) f = founding_past p q h f
founding_past (Halts n ∷ p) q (inr h) f = founding_past p q h f
founding_past (Writes n y ∷ p) q (inr h) f = absurd f
founding_past (Does i d ∷ p) q (inr h) f = founding_past p q h (rest d f)
  where
    rest : (d : Did) → IsFounding (Does i d ∷ p) → IsFounding p
    rest Founds f = f
    rest (Is Online c) f = f
    rest d f = absurd f

life_stays : (p q : Past) (i : Inc) → IsPast q p → life_in p i ≡ [] → life_in q i ≡ []
life_stays [] q i h e = subst (λ y. life_in y i ≡ []) (sym h) e
life_stays (x ∷ p) q i (inl k) e = subst (λ y. life_in y i ≡ []) (sym k) e
life_stays (Writes n y ∷ p) q i (inr h) e = life_stays p q i h e
life_stays (Halts n ∷ p) q i (inr h) e = life_stays p q i h e
life_stays (Does j d ∷ p) q i (inr h) e = life_stays p q i h (go (inc_eq j i) e)
  where
    go : (b : Bool) → ◌≡◌ {A = Life} (elim b [ true ↦ d ∷ life_in p i | false ↦ life_in p i ]) [] → life_in p i ≡ []
    go true q = absurd (cc q)
    go false q = q

-- a founder begins while nothing else happened
pub founds_first : (t : Setup) (w : Past) → FoundedAt t w → (p : Past) (i : Inc) → IsPast (Does i Founds ∷ p) w → is_founder t i ≡ true → life_in p i ≡ [] → IsFounding p
founds_first t w f p i h g e = elim (pasts_compare (Does i Founds ∷ p) f.past w h f.earlier) [
  | inl k ↦ founding_past f.past p (past_of (Does i Founds ∷ p) p f.past k (inr (past_self p))) f.founding
  | inr k ↦ later k
]
  where
    later : IsPast f.past (Does i Founds ∷ p) → IsFounding p
    later (inl q) = founding_past f.past p (subst (IsPast p) (sym q) (inr (past_self p))) f.founding
    later (inr q) = absurd (f.begun i g (life_stays p f.past i q e))

module _ (base : Inc → List law.Placed) where
  pub nothing_run : (p : Past) → IsFounding p → run_of base p ≡ []
  nothing_run [] f = refl
  nothing_run (Does i Founds ∷ p) f = nothing_run p f
  nothing_run (Does i (Is Online c) ∷ p) f = nothing_run p f
  nothing_run (Halts n ∷ p) f = nothing_run p f
  nothing_run (Writes n x ∷ p) f = absurd f
  nothing_run (Does i (Is Offline c) ∷ p) f = absurd f
  nothing_run (Does i (Is Recovering c) ∷ p) f = absurd f
  nothing_run (Does i (Is Error c) ∷ p) f = absurd f
  nothing_run (Does i (Starts x) ∷ p) f = absurd f
  nothing_run (Does i (Came x) ∷ p) f = absurd f
  nothing_run (Does i (Made v y) ∷ p) f = absurd f
  nothing_run (Does i (Took e) ∷ p) f = absurd f
  nothing_run (Does i (Skips s v) ∷ p) f = absurd f
  nothing_run (Does i (Done n) ∷ p) f = absurd f
  nothing_run (Does i (Committed g) ∷ p) f = absurd f
  nothing_run (Does i (Gave n m) ∷ p) f = absurd f
  nothing_run (Does i (Answered s a) ∷ p) f = absurd f
  nothing_run (Does i (Begun s a b) ∷ p) f = absurd f
  nothing_run (Does i (Changed s c) ∷ p) f = absurd f
  nothing_run (Does i (Replied r) ∷ p) f = absurd f
  nothing_run (Does i (Called s v x) ∷ p) f = absurd f
  nothing_run (Does i (AsksCommit s y) ∷ p) f = absurd f
  nothing_run (Does i (Ends s) ∷ p) f = absurd f
  nothing_run (Does i (Enters u) ∷ p) f = absurd f
  nothing_run (Does i (Restores g cs) ∷ p) f = absurd f
  nothing_run (Does i AskFails ∷ p) f = absurd f

  -- ---- who runs

  module _ (t : Setup) where
    -- of an incarnation's own marks the last one says that it runs; where there are none, what was before
    pub runs_here : (j : Inc) (ds : List lives.Did) (v : run.World) → run.runs t v j ≡ true → run.runs t (all_did j ds ++ v) j ≡ true
    runs_here j [] v h = h
    runs_here j (d ∷ ds) v h = ap (λ b. cond b (inc_eq j j) (run.runs t (all_did j ds ++ v) j)) (eq-eqb j.server j.server refl) ∙ inc_same j

    runs_other : (j i : Inc) (ds : List lives.Did) (v : run.World) → (j.server == i.server) ≡ false → run.runs t (all_did j ds ++ v) i ≡ run.runs t v i
    runs_other j i [] v h = refl
    runs_other j i (d ∷ ds) v h = ap (λ b. cond b (inc_eq j i) (run.runs t (all_did j ds ++ v) i)) h ∙ runs_other j i ds v h

    module _ (w : Past) (servers : OfServers t w) where
      pub runs_as : (p : Past) → IsPast p w → AllDid (IsDone t) p → AllWritten (IsWritten t) p → (n : ℕ) (i : Inc) → running_in p n ≡ Some i → run.runs t (run_of base p) i ≡ true
      runs_as [] k d s n i h = absurd (some_none (sym h))
      runs_as (Writes m x ∷ p) k d s n i h = go (m == i.server) refl (runs_as p (past_of (Writes m x ∷ p) p w k (inr (past_self p))) d s.1 n i h)
        where
          go : (b : Bool) → (m == i.server) ≡ b → run.runs t (run_of base p) i ≡ true → cond b false (run.runs t (run_of base p) i) ≡ true
          go true e f = absurd (some_none (sym h ∙ ap (running_in p) (sym (running_at p n i h) ∙ sym (eqb-true m i.server e)) ∙ s.0.idle))
          go false e f = f
      runs_as (Halts m ∷ p) k d s n i h = go (m == n) h (runs_as p (past_of (Halts m ∷ p) p w k (inr (past_self p))) d s n i)
        where
          go : (b : Bool) → ◌≡◌ {A = Option Inc} (elim b [ true ↦ None | false ↦ running_in p n ]) (Some i) → (running_in p n ≡ Some i → run.runs t (run_of base p) i ≡ true) → run.runs t (run_of base p) i ≡ true
          go true q f = absurd (some_none (sym q))
          go false q f = f q
      runs_as (Does j d ∷ p) k h s n i e = go (j.server == n) refl e (runs_as p below h.1 s)
        where
          below : IsPast p w
          below = past_of (Does j d ∷ p) p w k (inr (past_self p))

          -- by what was before it
          was : (x : Did) → IsDone t p j x → IsPast (Does j x ∷ p) w → ((n : ℕ) (i : Inc) → running_in p n ≡ Some i → run.runs t (run_of base p) i ≡ true) → run.runs t (all_did j (did_of (base j) x (life_in p j)) ++ run_of base p) j ≡ true
          was Founds q y f = runs_here j [] (run_of base p) (ap (λ v. run.runs t v j) (nothing_run p (founds_first t w servers.founded p j y q.2 q.1)) ∙ q.2)
          was (Starts x) q y f = ap (λ b. cond b (inc_eq j j) (run.runs t (run_of base p) j)) (eq-eqb j.server j.server refl) ∙ inc_same j
          was (Is x c) (inl q) y f = runs_here j (did_of (base j) (Is x c) (life_in p j)) (run_of base p) (f j.server j q.0)
          was (Is x c) (inr q) y f = runs_here j (did_of (base j) (Is x c) (life_in p j)) (run_of base p) (f j.server j q.0.running)
          was (Came (Hears m)) q y f = f j.server j q.0.running
          was (Came Ticks) q y f = f j.server j q.0.running
          was (Came (Works a b)) q y f = f j.server j q.0.running
          was (Came (Calls a b)) q y f = f j.server j q.0.running
          was (Came (Operates a)) q y f = f j.server j q.0.running
          was (Made a b) q y f = runs_here j (did_of (base j) (Made a b) (life_in p j)) (run_of base p) (f j.server j q.0.running)
          was (Took a) q y f = runs_here j (did_of (base j) (Took a) (life_in p j)) (run_of base p) (f j.server j q.0.running)
          was (Skips a b) q y f = f j.server j q.0.running
          was (Done a) q y f = runs_here j (did_of (base j) (Done a) (life_in p j)) (run_of base p) (f j.server j q.0.running)
          was (Committed a) q y f = runs_here j (did_of (base j) (Committed a) (life_in p j)) (run_of base p) (f j.server j q.0.running)
          was (Gave a b) q y f = f j.server j q.0.running
          was (Answered a b) q y f = runs_here j (did_of (base j) (Answered a b) (life_in p j)) (run_of base p) (f j.server j q.0.running)
          was (Begun a b c) q y f = runs_here j (did_of (base j) (Begun a b c) (life_in p j)) (run_of base p) (f j.server j q.0.running)
          was (Changed a b) q y f = runs_here j (did_of (base j) (Changed a b) (life_in p j)) (run_of base p) (f j.server j q.0.running)
          was (Replied a) q y f = f j.server j q.0.running
          was (Called a b c) q y f = runs_here j (did_of (base j) (Called a b c) (life_in p j)) (run_of base p) (f j.server j q.0.running)
          was (AsksCommit a b) q y f = f j.server j q.0.running
          was (Ends a) q y f = runs_here j (did_of (base j) (Ends a) (life_in p j)) (run_of base p) (f j.server j q.0.running)
          was (Enters a) q y f = f j.server j q.0.running
          was (Restores a b) q y f = runs_here j (did_of (base j) (Restores a b) (life_in p j)) (run_of base p) (f j.server j q.0.running)
          was AskFails q y f = f j.server j q.0.running

          other : (b : Bool) → (j.server == n) ≡ b → b ≡ false → (m : Inc) → m.server ≡ n → (j.server == m.server) ≡ false
          other b q z m y = ap (λ x. j.server == x) y ∙ q ∙ z

          go : (b : Bool) → (j.server == n) ≡ b → ◌≡◌ {A = Option Inc} (elim b [ true ↦ Some j | false ↦ running_in p n ]) (Some i) → ((n : ℕ) (i : Inc) → running_in p n ≡ Some i → run.runs t (run_of base p) i ≡ true) → run.runs t (all_did j (did_of (base j) d (life_in p j)) ++ run_of base p) i ≡ true
          go true q z f = subst (λ y. run.runs t (all_did j (did_of (base j) d (life_in p j)) ++ run_of base p) y ≡ true) (some_is z) (was d h.0 k f)
          go false q z f = runs_other j i (did_of (base j) d (life_in p j)) (run_of base p) (other false q refl i (running_at p n i z)) ∙ f n i z

-- ---- what servers have executed

-- the numbers of the GTIDs that are committed and written offline are within the range of a GTID
pub record HasNumbers (t : Setup) (w : Past) : Type 0 where
  pub committed : (p : Past) (i : Inc) (g : Gtid) → IsPast (Does i (Committed g) ∷ p) w → IsUuid g.source × IsNumber g.number
  pub written : AllWritten (λ p n x. IsNumber x.gtid.number) w

pub written_past : (P : Past → ℕ → OfflineWrite → Type 0) (w p : Past) → IsPast p w → AllWritten P w → AllWritten P p
written_past P [] p h a = subst (AllWritten P) (sym h) tt
written_past P (x ∷ w) p (inl e) a = subst (AllWritten P) (sym e) a
written_past P (Does i d ∷ w) p (inr h) a = written_past P w p h a
written_past P (Writes n x ∷ w) p (inr h) a = written_past P w p h a.1
written_past P (Halts n ∷ w) p (inr h) a = written_past P w p h a

-- the sets of what happened are canonical
pub record SetsAt (p : Past) : Type 0 where
  pub stored : (n : ℕ) → IsCanonical (stored_in p n).executed
  pub lives : (i : Inc) → HasSets (life_in p i)

module _ (t : Setup) (w : Past) (servers : OfServers t w) (numbers : HasNumbers t w) where
  sets_did : (p : Past) (j : Inc) (d : Did) → IsPast (Does j d ∷ p) w → IsDone t p j d → SetsAt p → HasSets (d ∷ life_in p j)
  sets_did p j (Starts x) k h s = (subst (λ (y : Stored). IsCanonical y.executed) (sym h.3) (s.stored j.server), s.lives j)
  sets_did p j (Committed g) k h s = (numbers.committed p j g k, s.lives j)
  sets_did p j Founds k h s = s.lives j
  sets_did p j (Came x) k h s = s.lives j
  sets_did p j (Made v y) k h s = s.lives j
  sets_did p j (Took e) k h s = s.lives j
  sets_did p j (Skips a b) k h s = s.lives j
  sets_did p j (Done a) k h s = s.lives j
  sets_did p j (Is a b) k h s = s.lives j
  sets_did p j (Gave a b) k h s = s.lives j
  sets_did p j (Answered a b) k h s = s.lives j
  sets_did p j (Begun a b c) k h s = s.lives j
  sets_did p j (Changed a b) k h s = s.lives j
  sets_did p j (Replied a) k h s = s.lives j
  sets_did p j (Called a b c) k h s = s.lives j
  sets_did p j (AsksCommit a b) k h s = s.lives j
  sets_did p j (Ends a) k h s = s.lives j
  sets_did p j (Enters a) k h s = s.lives j
  sets_did p j (Restores a b) k h s = s.lives j
  sets_did p j AskFails k h s = s.lives j

  pub sets_at : (p : Past) → IsPast p w → AllDid (IsDone t) p → AllWritten (IsWritten t) p → SetsAt p
  sets_at [] k d s = record { stored = λ n. tt; lives = λ i. tt }
  sets_at (Does j d ∷ p) k h s = record { stored = (sets_at p below h.1 s).stored; lives = λ i. go i (inc_eq j i) refl (sets_at p below h.1 s) }
    where
      below : IsPast p w
      below = past_of (Does j d ∷ p) p w k (inr (past_self p))

      go : (i : Inc) (b : Bool) → inc_eq j i ≡ b → SetsAt p → HasSets (elim b [ true ↦ d ∷ life_in p i | false ↦ life_in p i ])
      go i true e f = subst (λ y. HasSets (d ∷ life_in p y)) (inc_is j i e) (sets_did p j d k h.0 f)
      go i false e f = f.lives i
  sets_at (Halts m ∷ p) k h s = record { stored = λ n. go n (m == n) (sets_at p below h s); lives = (sets_at p below h s).lives }
    where
      below : IsPast p w
      below = past_of (Halts m ∷ p) p w k (inr (past_self p))

      after : (n : ℕ) (o : Option Inc) → SetsAt p → IsCanonical (stored_after (stored_in p n) p o).executed
      after n None f = f.stored n
      after n (Some i) f = canonical (life_in p i) (f.lives i)

      go : (n : ℕ) (b : Bool) → SetsAt p → IsCanonical (elim b as (λ x. Stored) [ true ↦ stored_after (stored_in p n) p (running_in p n) | false ↦ stored_in p n ]).executed
      go n true f = after n (running_in p n) f
      go n false f = f.stored n
  sets_at (Writes m x ∷ p) k h s = record { stored = λ n. go n (m == n) (sets_at p below h s.1); lives = (sets_at p below h s.1).lives }
    where
      below : IsPast p w
      below = past_of (Writes m x ∷ p) p w k (inr (past_self p))

      number : IsNumber x.gtid.number
      number = (written_past (λ p n x. IsNumber x.gtid.number) w (Writes m x ∷ p) k numbers.written).0

      wrote : ℕ → Stored
      wrote n = let y : Stored = stored_in p n in record { executed = with_gtid y.executed x.gtid; committed = y.committed; writes = y.writes ++ x ∷ [] }

      go : (n : ℕ) (b : Bool) → SetsAt p → IsCanonical (elim b as (λ x. Stored) [ true ↦ wrote n | false ↦ stored_in p n ]).executed
      go n true f = canonical_with_gtid (stored_in p n).executed x.gtid s.0.uuid number (f.stored n)
      go n false f = f.stored n

  -- ---- what the servers of the run have

  module _ (base : Inc → List law.Placed) where
    owned_other : (j : Inc) (n : ℕ) (ds : List lives.Did) (v : run.World) (g : Gtid) → (j.server == n) ≡ false → run.owned (all_did j ds ++ v) n g ≡ run.owned v n g
    owned_other j n [] v g h = refl
    owned_other j n (d ∷ ds) v g h = ap (λ b. (b && run.adds d g) || run.owned (all_did j ds ++ v) n g) h ∙ owned_other j n ds v g h

    -- what a history leaves adds what it commits
    owned_did : (j : Inc) (d : Did) (p : Past) (v : run.World) (g : Gtid) → (c : Gtid) → d ≡ Committed c → run.owned (all_did j (did_of (base j) d (life_in p j)) ++ v) j.server g ≡ (gtid_eq c g || run.owned v j.server g)
    owned_did j d p v g c e = ap (λ x. run.owned (all_did j (did_of (base j) x (life_in p j)) ++ v) j.server g) e ∙ ap (λ b. (b && gtid_eq c g) || run.owned v j.server g) (eq-eqb j.server j.server refl)

    none_added : (j : Inc) (n : ℕ) (d : lives.Did) (v : run.World) (g : Gtid) → run.adds d g ≡ false → run.owned (run.Does j d ∷ v) n g ≡ run.owned v n g
    none_added j n d v g h = ap (λ b. ((j.server == n) && b) || run.owned v n g) h ∙ by (j.server == n) (run.owned v n g)
      where
        by : (a b : Bool) → ((a && false) || b) ≡ b
        by true b = refl
        by false b = refl

    -- for each server
    pub record OwnsAs (p : Past) (n : ℕ) (g : Gtid) : Type 0 where
      pub idle : running_in p n ≡ None → run.owned (run_of base p) n g ≡ has (stored_in p n).executed g
      pub busy : (i : Inc) → running_in p n ≡ Some i → run.owned (run_of base p) n g ≡ has (executed (life_in p i)) g

    owned_here : (p : Past) (j : Inc) (d : Did) (g : Gtid) → IsPast (Does j d ∷ p) w → IsDone t p j d → SetsAt p → OwnsAs p j.server g → run.owned (all_did j (did_of (base j) d (life_in p j)) ++ run_of base p) j.server g ≡ has (executed (d ∷ life_in p j)) g
    owned_here p j Founds g k h s o = ap (λ v. run.owned v j.server g) (nothing_run base p (founds_first t w servers.founded p j k h.2 h.1)) ∙ sym (ap (λ l. has (executed l) g) h.1)
    owned_here p j (Starts x) g k h s o = none_added j j.server (lives.Started x.executed) (run_of base p) g refl ∙ o.idle h.0 ∙ ap (λ (y : Stored). has y.executed g) (sym h.3)
    owned_here p j (Committed c) g k h s o =
        let z = numbers.committed p j c k in
        owned_did j (Committed c) p (run_of base p) g c refl ∙ ap (λ b. gtid_eq c g || b) (o.busy j h.0.running) ∙ sym (all_with_gtid (executed (life_in p j)) c g (canonical (life_in p j) (s.lives j)) z.0 z.1)
    owned_here p j (Is Error c) g k (inl h) s o = none_added j j.server lives.Fell (run_of base p) g refl ∙ o.busy j h.0
    owned_here p j (Is Error c) g k (inr h) s o = none_added j j.server lives.Fell (run_of base p) g refl ∙ o.busy j h.0.running
    owned_here p j (Is Offline c) g k (inl h) s o = o.busy j h.0
    owned_here p j (Is Offline c) g k (inr h) s o = o.busy j h.0.running
    owned_here p j (Is Recovering c) g k (inl h) s o = o.busy j h.0
    owned_here p j (Is Recovering c) g k (inr h) s o = o.busy j h.0.running
    owned_here p j (Is Online c) g k (inl h) s o = o.busy j h.0
    owned_here p j (Is Online c) g k (inr h) s o = o.busy j h.0.running
    owned_here p j (Came (Hears m)) g k h s o = o.busy j h.0.running
    owned_here p j (Came Ticks) g k h s o = o.busy j h.0.running
    owned_here p j (Came (Works a b)) g k h s o = o.busy j h.0.running
    owned_here p j (Came (Calls a b)) g k h s o = o.busy j h.0.running
    owned_here p j (Came (Operates a)) g k h s o = o.busy j h.0.running
    owned_here p j (Made v y) g k h s o = made y ∙ o.busy j h.0.running
      where
        made : (y : Option Body) → run.owned (all_did j (did_of (base j) (Made v y) (life_in p j)) ++ run_of base p) j.server g ≡ run.owned (run_of base p) j.server g
        made (Some (HasTxn x)) = none_added j j.server (lives.Made (made_as v (Some (HasTxn x)))) (run.Does j (lives.Asked (asking (life_in p j))) ∷ run_of base p) g refl ∙ none_added j j.server (lives.Asked (asking (life_in p j))) (run_of base p) g refl
        made y = none_added j j.server (lives.Made (made_as v y)) (run_of base p) g refl
    owned_here p j (Took e) g k h s o = none_added j j.server (lives.Took (placed e)) (run_of base p) g refl ∙ o.busy j h.0.running
    owned_here p j (Skips a b) g k h s o = o.busy j h.0.running
    owned_here p j (Done a) g k h s o = none_added j j.server (lives.Finished a) (run_of base p) g refl ∙ o.busy j h.0.running
    owned_here p j (Gave a b) g k h s o = o.busy j h.0.running
    owned_here p j (Answered a y) g k h s o = answered y ∙ o.busy j h.0.running
      where
        answered : (y : Answer) → run.owned (all_did j (did_of (base j) (Answered a y) (life_in p j)) ++ run_of base p) j.server g ≡ run.owned (run_of base p) j.server g
        answered (CommittedAs c) = none_added j j.server (lives.Acked c) (run_of base p) g refl
        answered y = refl
    owned_here p j (Begun a b c) g k h s o = none_added j j.server (lives.Begun a) (run_of base p) g refl ∙ o.busy j h.0.running
    owned_here p j (Changed a b) g k h s o = none_added j j.server (lives.Changed a b) (run_of base p) g refl ∙ o.busy j h.0.running
    owned_here p j (Replied a) g k h s o = o.busy j h.0.running
    owned_here p j (Called a b c) g k h s o = none_added j j.server (lives.Called a b (sync_number b (life_in p j))) (run_of base p) g refl ∙ o.busy j h.0.running
    owned_here p j (AsksCommit a b) g k h s o = o.busy j h.0.running
    owned_here p j (Ends a) g k h s o = none_added j j.server (lives.Ended a) (run_of base p) g refl ∙ o.busy j h.0.running
    owned_here p j (Enters a) g k h s o = o.busy j h.0.running
    owned_here p j (Restores a b) g k h s o = none_added j j.server (lives.Given (base j)) (run_of base p) g refl ∙ o.busy j h.0.running
    owned_here p j AskFails g k h s o = o.busy j h.0.running

    pub owns_as : (p : Past) → IsPast p w → AllDid (IsDone t) p → AllWritten (IsWritten t) p → (n : ℕ) (g : Gtid) → OwnsAs p n g
    owns_as [] k d s n g = record { idle = λ h. refl; busy = λ i h. absurd (some_none (sym h)) }
    owns_as (Does j d ∷ p) k h s n g = go (j.server == n) refl (owns_as p below h.1 s n g) (sets_at p below h.1 s)
      where
        below : IsPast p w
        below = past_of (Does j d ∷ p) p w k (inr (past_self p))

        life_here : life_in (Does j d ∷ p) j ≡ d ∷ life_in p j
        life_here = ap (λ b. elim b [ true ↦ d ∷ life_in p j | false ↦ life_in p j ]) (inc_same j)

        life_other : (i : Inc) → (j.server == i.server) ≡ false → life_in (Does j d ∷ p) i ≡ life_in p i
        life_other i e = ap (λ b. elim b [ true ↦ d ∷ life_in p i | false ↦ life_in p i ]) (apart (inc_eq j i) refl)
          where
            apart : (b : Bool) → inc_eq j i ≡ b → inc_eq j i ≡ false
            apart false q = q
            apart true q = absurd (false≢true (sym e ∙ eq-eqb j.server i.server (ap (λ (y : Inc). y.server) (inc_is j i q))))

        runs : (b : Bool) → (j.server == n) ≡ b → running_in (Does j d ∷ p) n ≡ elim b [ true ↦ Some j | false ↦ running_in p n ]
        runs b e = ap (λ b. elim b [ true ↦ Some j | false ↦ running_in p n ]) e

        go : (b : Bool) → (j.server == n) ≡ b → OwnsAs p n g → SetsAt p → OwnsAs (Does j d ∷ p) n g
        go true e o f =
            let same : j.server ≡ n = eqb-true j.server n e in
            record {
              idle = λ q. absurd (some_none (sym (runs true e) ∙ q));
              busy = λ i q. (let z : j ≡ i = some_is (sym (runs true e) ∙ q) in
                  subst (λ m. run.owned (all_did j (did_of (base j) d (life_in p j)) ++ run_of base p) m g ≡ has (executed (life_in (Does j d ∷ p) i)) g) same
                  (owned_here p j d g k h.0 f (subst (λ m. OwnsAs p m g) (sym same) o) ∙ ap (λ l. has (executed l) g) (sym life_here ∙ ap (life_in (Does j d ∷ p)) z)));
            }
        go false e o f = record {
          idle = λ q. owned_other j n (did_of (base j) d (life_in p j)) (run_of base p) g e ∙ o.idle (sym (runs false e) ∙ q);
          busy = λ i q. (let r : running_in p n ≡ Some i = sym (runs false e) ∙ q in
              owned_other j n (did_of (base j) d (life_in p j)) (run_of base p) g e ∙ o.busy i r ∙ ap (λ l. has (executed l) g) (sym (life_other i (ap (λ m. j.server == m) (running_at p n i r) ∙ e))));
        }
    owns_as (Halts m ∷ p) k h s n g = go (m == n) refl (owns_as p (past_of (Halts m ∷ p) p w k (inr (past_self p))) h s n g)
      where
        after : (o : Option Inc) → running_in p n ≡ o → OwnsAs p n g → run.owned (run_of base p) n g ≡ has (stored_after (stored_in p n) p o).executed g
        after None e o = o.idle e
        after (Some i) e o = o.busy i e

        runs : (b : Bool) → (m == n) ≡ b → running_in (Halts m ∷ p) n ≡ elim b [ true ↦ None | false ↦ running_in p n ]
        runs b e = ap (λ b. elim b [ true ↦ None | false ↦ running_in p n ]) e

        stored : (b : Bool) → (m == n) ≡ b → stored_in (Halts m ∷ p) n ≡ elim b [ true ↦ stored_after (stored_in p n) p (running_in p n) | false ↦ stored_in p n ]
        stored b e = ap (λ b. elim b [ true ↦ stored_after (stored_in p n) p (running_in p n) | false ↦ stored_in p n ]) e

        go : (b : Bool) → (m == n) ≡ b → OwnsAs p n g → OwnsAs (Halts m ∷ p) n g
        go true e o = record {
          idle = λ q. after (running_in p n) refl o ∙ ap (λ (y : Stored). has y.executed g) (sym (stored true e));
          busy = λ i q. absurd (some_none (sym (sym (runs true e) ∙ q)));
        }
        go false e o = record {
          idle = λ q. o.idle (sym (runs false e) ∙ q) ∙ ap (λ (y : Stored). has y.executed g) (sym (stored false e));
          busy = λ i q. o.busy i (sym (runs false e) ∙ q);
        }
    owns_as (Writes m x ∷ p) k h s n g = go (m == n) refl (owns_as p below h s.1 n g) (sets_at p below h s.1)
      where
        below : IsPast p w
        below = past_of (Writes m x ∷ p) p w k (inr (past_self p))

        number : IsNumber x.gtid.number
        number = (written_past (λ p n x. IsNumber x.gtid.number) w (Writes m x ∷ p) k numbers.written).0

        wrote : Stored
        wrote = let y : Stored = stored_in p n in record { executed = with_gtid y.executed x.gtid; committed = y.committed; writes = y.writes ++ x ∷ [] }

        stored : (b : Bool) → (m == n) ≡ b → stored_in (Writes m x ∷ p) n ≡ elim b [ true ↦ wrote | false ↦ stored_in p n ]
        stored b e = ap (λ b. elim b [ true ↦ wrote | false ↦ stored_in p n ]) e

        owned : (b : Bool) → (m == n) ≡ b → run.owned (run_of base (Writes m x ∷ p)) n g ≡ ((b && gtid_eq x.gtid g) || run.owned (run_of base p) n g)
        owned b e = ap (λ b. (b && gtid_eq x.gtid g) || run.owned (run_of base p) n g) e

        go : (b : Bool) → (m == n) ≡ b → OwnsAs p n g → SetsAt p → OwnsAs (Writes m x ∷ p) n g
        go true e o f = record {
          idle = λ q. owned true e ∙ ap (λ b. gtid_eq x.gtid g || b) (o.idle q) ∙ sym (all_with_gtid (stored_in p n).executed x.gtid g (f.stored n) s.0.uuid number) ∙ ap (λ (y : Stored). has y.executed g) (sym (stored true e));
          busy = λ i q. absurd (some_none (sym q ∙ ap (running_in p) (sym (eqb-true m n e)) ∙ s.0.idle));
        }
        go false e o f = record {
          idle = λ q. owned false e ∙ o.idle q ∙ ap (λ (y : Stored). has y.executed g) (sym (stored false e));
          busy = λ i q. owned false e ∙ o.busy i q;
        }
