-- A commit is true of the history before it.
use Rattle.std.proofs.Common.{◌≡◌, ◌⊎◌, inl, inr, ℕ, ◌<◌, Bool, true, false, ◌&&◌, ◌||◌, List, [], ◌∷◌, ◌++◌, refl, sym, ap, subst, ◌∙◌, length, arith}
use Rattle.std.specs.Prelude.{◌==◌}
use Rattle.std.proofs.lemmas.Bool.{false≢true, cases_Bool, and_from, or_left, or_right}
use Rattle.gr_ids.specs.Names.{gtid_eq, bytes_eq}
use Rattle.gr_ids.specs.declared.names.Inc.{Inc}
use Rattle.gr_ids.specs.declared.names.Gtid.{Gtid}
use Rattle.gtid_sets.specs.Sets.{has}
use Rattle.key_items.specs.Items.{item_eq}
use Rattle.node_rules.specs.Lists.{In}
use Rattle.group_rules.specs.Events.{Committed, Setup, OfflineWrite, Cert}
use Rattle.group_rules.specs.Life.{executed, certs, stored}
use Rattle.group_rules.specs.Rows.{known}
use Rattle.group_rules.specs.Legal.{IsPast, writes_in}
use Rattle.group_rules.specs.World.{Past, Does, Writes, Halts, life_in}
use Rattle.group_bridge.specs.Left.{IsCommitted}
use Rattle.group_runs.specs.Runs.{IsDone}
use Rattle.group_runs.specs.Servers.{IsWritten}
use Rattle.group_order.specs.OneLog.{IsReady}
use Rattle.group_order.proofs.Nexts.{past_self, past_of, done_at}
use Rattle.group_order.proofs.Shapes.{shapes}
use Rattle.group_laws.specs.Lists.{Mem}
use Rattle.group_laws.specs.Entries as law
use Rattle.group_laws.specs.Verdict as decided
use Rattle.group_laws.specs.Table.{Covers}
use Rattle.group_laws.specs.Life as lives
use Rattle.group_laws.specs.Lawful.{LawfulCommit}
use Rattle.group_laws.specs.World as run
use Rattle.group_laws.specs.World.{IsRun}
use Rattle.group_laws.specs.Laws.{Common}
use Rattle.group_laws.proofs.Lists.{any_from}
use Rattle.group_laws.proofs.Names.{gtid_eq_same, gtid_eq_itself, bytes_eq_itself, item_eq_itself}
use Rattle.group_laws.proofs.ServerRows.{runs_owned, covers_known}
use Rattle.group_laws.proofs.Freshness.{Inv}
use Rattle.group_laws.proofs.Law.{run_holds}
use Rattle.group_lives.specs.Lives.{did_of, all_did, life_of, run_of}
use Rattle.group_lives.proofs.Runs.{lives_agree}
use Rattle.group_lives.proofs.Sets.{executed_agrees}
use Rattle.group_lawful.proofs.Marks.{ready_as}
use Rattle.group_lawful.proofs.Opens.{unready, ready_or}
use Rattle.group_legal.proofs.Scanned.{scanned}
use Rattle.group_legal.proofs.Owners.{runs_as, written_past}
use Rattle.group_legal.proofs.RowsAgree.{writes_apart, life_writes}
use Rattle.group_legal.proofs.Knowing as knowing
use Rattle.group_legal.proofs.Knowing.{of_group}
use Rattle.member_truth.specs.Truth.{AreApart, IsInOrder}
use Rattle.group_promises.proofs.Ran.{Ran, list_in, given_in}
use Rattle.group_promises.proofs.Ran as ran

mem_in : {A : Type 0} (x : A) (xs : List A) → In x xs → Mem x xs
mem_in x [] h = absurd h
mem_in x (y ∷ ys) (inl e) = inl e
mem_in x (y ∷ ys) (inr h) = inr (mem_in x ys h)

-- a server has its offline writes
module _ (base : Inc → List law.Placed) where
  owned_more : (j : Inc) (ds : List lives.Did) (v : run.World) (n : ℕ) (g : Gtid) → run.owned v n g ≡ true → run.owned (all_did j ds ++ v) n g ≡ true
  owned_more j [] v n g h = h
  owned_more j (d ∷ ds) v n g h = or_right ((j.server == n) && run.adds d g) (run.owned (all_did j ds ++ v) n g) (owned_more j ds v n g h)

  in_last : (x y : OfflineWrite) (xs : List OfflineWrite) → In x (xs ++ y ∷ []) → In x xs ⊎ (y ≡ x)
  in_last x y [] (inl e) = inr e
  in_last x y [] (inr h) = absurd h
  in_last x y (z ∷ xs) (inl e) = inl (inl e)
  in_last x y (z ∷ xs) (inr h) = elim (in_last x y xs h) [ inl k ↦ inl (inr k) | inr e ↦ inr e ]

  writes_owned : (p : Past) (n : ℕ) (x : OfflineWrite) → In x (writes_in p n) → run.owned (run_of base p) n x.gtid ≡ true
  writes_owned [] n x h = absurd h
  writes_owned (Does j d ∷ p) n x h = owned_more j (did_of (base j) d (life_in p j)) (run_of base p) n x.gtid (writes_owned p n x h)
  writes_owned (Halts m ∷ p) n x h = writes_owned p n x h
  writes_owned (Writes m y ∷ p) n x h = go (m == n) refl h (writes_owned p n x)
    where
      go : (b : Bool) → (m == n) ≡ b → In x (elim b [ true ↦ writes_in p n ++ y ∷ [] | false ↦ writes_in p n ]) → (In x (writes_in p n) → run.owned (run_of base p) n x.gtid ≡ true)
          → (((m == n) && gtid_eq y.gtid x.gtid) || run.owned (run_of base p) n x.gtid) ≡ true
      go false e k f = or_right ((m == n) && gtid_eq y.gtid x.gtid) (run.owned (run_of base p) n x.gtid) (f k)
      go true e k f = elim (in_last x y (writes_in p n) k) [
        | inl z ↦ or_right ((m == n) && gtid_eq y.gtid x.gtid) (run.owned (run_of base p) n x.gtid) (f z)
        | inr z ↦ or_left ((m == n) && gtid_eq y.gtid x.gtid) (run.owned (run_of base p) n x.gtid) (and_from (m == n) (gtid_eq y.gtid x.gtid) e (ap (λ (u : OfflineWrite). gtid_eq u.gtid x.gtid) z ∙ gtid_eq_itself x.gtid))
      ]

module _ (t : Setup) (w : Past) (s : Ran t w) (p : Past) (i : Inc) (g : Gtid) (m : IsPast (Does i (Committed g) ∷ p) w) where
  in_w : IsPast p w
  in_w = past_of (Does i (Committed g) ∷ p) p w m (inr (past_self p))

  abbrev values : List law.Value
  values = law.values (list_in t w s)

  abbrev base : Inc → List law.Placed
  base = given_in t w s

  is_done : IsDone t p i (Committed g)
  is_done = done_at (IsDone t) w p i (Committed g) s.done m

  commits : IsCommitted t i (life_in p i) g
  commits = is_done.1.1

  here : In commits.cert (certs (life_in p i))
  here = knowing.commit_cert t s.setup w s.over s.done s.servers s.spelled s.small w (past_self w) (ran.judges t w s) p i g commits

  ready : IsReady t i (life_in p i)
  ready = elim (ready_or t i (base i) (life_in p i) (shapes t p (ran.done_to t w s p in_w) i)) [
    | inl y ↦ y
    | inr e ↦ absurd (subst (In commits.cert) (unready t i (base i) (life_in p i) e.0 e.1).0 here)
  ]

  long : 0 < length (life_in p i)
  long = let b = is_done.0.begun in omega (arith, b)

  ru : IsRun t values (run_of base p)
  ru = ran.run_at t w s p in_w

  inv : Inv t values (run_of base p)
  inv = run_holds t values (run_of base p) ru

  lawful : LawfulCommit t i (run.life (run_of base p) i) g
  lawful = (ran.run_at t w s (Does i (Committed g) ∷ p) m).lawful.0

  -- what it has executed, as the laws have it
  has_so : (u : Gtid) → run.life (run_of base p) i ≡ life_of (base i) (life_in p i) → lives.executed (run.life (run_of base p) i) u ≡ has (executed (life_in p i)) u
  has_so u e = ap (λ l. lives.executed l u) e ∙ executed_agrees (base i) (life_in p i) u (ran.sets t w s p in_w i)

  scanned_mem : (d : law.Cert) → Mem d (law.certified t (list_in t w s)) → Mem d (law.certified t (decided.scan t values))
  scanned_mem d n = subst (λ y. Mem d (law.certified t y)) (scanned t [] s.over.log) n

  -- each change is of an item that it certifies
  covers : (d : law.Cert) → Mem d (law.certified t (list_in t w s)) → (x : law.Cert) → Mem x (law.certified t (lives.marked (run.life (run_of base p) i))) → x.gtid ≡ d.gtid → Covers d.txn
  covers d n x k q = covers_known t values ru.founding (run_of base p) ru.lawful inv d (scanned_mem d n) (record { who = i; cert = x; there = k; is_it = q })

  ready_so : lives.ready t i (run.life (run_of base p) i) ≡ true
  ready_so = ap (lives.ready t i) (lives_agree base p i) ∙ ready_as t i (base i) (life_in p i) ready

  module _ (c d : Cert) (in_c : In c (known (life_in p i))) (in_d : In d (known (life_in p i))) (is_c : gtid_eq c.gtid g ≡ true) (has_d : has (executed (life_in p i)) d.gtid ≡ true) (lt : c.place < d.place) where
    abbrev c_listed : (y : law.Cert) × Mem y (law.certified t (list_in t w s)) × (c.place ≡ y.place) × (c.gtid ≡ y.gtid) × (c.txn ≡ y.txn)
    c_listed = let y = ran.listed_known t w s p in_w i c in_c in (y.0, y.1, y.2.place, y.2.gtid, y.2.txn)

    abbrev d_listed : (y : law.Cert) × Mem y (law.certified t (list_in t w s)) × (d.place ≡ y.place) × (d.gtid ≡ y.gtid) × (d.txn ≡ y.txn)
    d_listed = let y = ran.listed_known t w s p in_w i d in_d in (y.0, y.1, y.2.place, y.2.gtid, y.2.txn)

    gtid_is : g ≡ c_listed.0.gtid
    gtid_is = sym (gtid_eq_same c.gtid g is_c) ∙ c_listed.3

    d_had : lives.executed (run.life (run_of base p) i) d_listed.0.gtid ≡ true
    d_had = has_so d_listed.0.gtid (lives_agree base p i) ∙ ap (has (executed (life_in p i))) (sym d_listed.3) ∙ has_d

    c_covers : Covers c_listed.0.txn
    c_covers = covers c_listed.0 c_listed.1 lawful.cert lawful.here (lawful.is_it ∙ gtid_is)

    d_covers : Covers d_listed.0.txn
    d_covers = let y = inv.within i ready_so d_listed.0.gtid d_had in covers d_listed.0 d_listed.1 y.0 y.1 y.2

    apart : AreApart c.txn.changes d.txn.changes
    apart x y in_x in_y = elim (cases_Bool (item_eq x.item y.item)) [ inr z ↦ z | inl z ↦ absurd (no z) ]
      where
        no : item_eq x.item y.item ≡ true → ⊥
        no z =
            let a = c_covers x (mem_in x c_listed.0.txn.changes (subst (λ u. In x u.changes) c_listed.4 in_x)) in
            let b = d_covers y (mem_in y d_listed.0.txn.changes (subst (λ u. In y u.changes) d_listed.4 in_y)) in
            let common : Common c_listed.0 d_listed.0 = record {
              item = x.item;
              first = any_from (item_eq x.item) c_listed.0.txn.items x.item a (item_eq_itself x.item);
              second = any_from (item_eq x.item) d_listed.0.txn.items y.item b z;
            } in
            let m = c_listed.2 in
            let n = d_listed.2 in
            let had = inv.closed_executed i c_listed.0 d_listed.0 (scanned_mem c_listed.0 c_listed.1) (scanned_mem d_listed.0 d_listed.1) (omega (arith, m, n, lt)) common d_had in
            absurd (false≢true (sym lawful.uncommitted ∙ ap (lives.executed (run.life (run_of base p) i)) gtid_is ∙ had))

  -- a server that wrote offline has no member that commits
  unwritten : (stored (life_in p i)).writes ≡ []
  unwritten = writes_are ∙ none (writes_in p i.server) refl
    where
      writes_are : (stored (life_in p i)).writes ≡ writes_in p i.server
      writes_are = life_writes t w s.done s.servers p in_w i is_done.0.running

      runs_so : run.runs t (run_of base p) i ≡ true
      runs_so = runs_as base t w s.servers p in_w (ran.done_to t w s p in_w) (written_past (IsWritten t) w p in_w s.servers.written) i.server i is_done.0.running

      none : (xs : List OfflineWrite) → writes_in p i.server ≡ xs → writes_in p i.server ≡ []
      none [] e = e
      none (x ∷ xs) e =
          let there : In x (writes_in p i.server) = subst (In x) (sym e) (inl refl) in
          let had : has (executed (life_in p i)) x.gtid ≡ true =
          sym (has_so x.gtid (lives_agree base p i)) ∙ sym (runs_owned t values (run_of base p) i x.gtid ru.joint ru.alive runs_so) ∙ writes_owned base p i.server x there in
          let y = ran.certified_all t w s p in_w i ready long x.gtid had in
          let group : x.gtid.source ≡ t.limits.group = ap (λ (u : Gtid). u.source) (sym y.3) ∙ of_group t (list_in t w s) y.0 y.1 in
          let other = writes_apart t p (written_past (IsWritten t) w p in_w s.servers.written) i.server x there in
          absurd (false≢true (sym other ∙ ap (λ u. bytes_eq u t.limits.group) group ∙ bytes_eq_itself t.limits.group))

  pub in_order : IsInOrder (life_in p i) g
  in_order = record { ahead = apart; unwritten = unwritten }
