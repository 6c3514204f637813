-- The rows of a history: those of the transactions of the list that it has executed, and of its server's offline writes.
use Rattle.std.proofs.Common.{◌≡◌, inl, inr, ℕ, suc, ◌<◌, Bool, true, false, cond, ◌&&◌, Option, Some, None, List, [], ◌∷◌, ◌++◌, refl, sym, ap, subst, ◌∙◌, length, arith}
use Rattle.std.specs.Prelude.{map, reverse, ◌==◌}
use Rattle.std.proofs.lemmas.List.{reverse-append}
use Rattle.std.proofs.lemmas.Bool.{false≢true, cases_Bool, eqb-true}
use Rattle.gr_ids.specs.Names.{inc_eq, bytes_eq}
use Rattle.gr_ids.specs.declared.names.Inc.{Inc}
use Rattle.gr_ids.specs.declared.names.Gtid.{Gtid}
use Rattle.gr_ids.specs.declared.levels.MemberState.TheVariants.{Online}
use Rattle.gtid_sets.specs.Sets.{Gtids, has, with_gtid}
use Rattle.key_items.specs.declared.item.Item.{Item}
use Rattle.key_items.specs.Items.{item_eq}
use Rattle.node_rules.specs.Lists.{In}
use Rattle.node_rules.proofs.Incs.{inc_same}
use Rattle.group_rules.specs.Events.{Did, Founds, Starts, Came, Made, Took, Skips, Done, Committed, Is, Gave, Answered, Begun, Changed, Replied, Called, AsksCommit, Ends, Enters, Restores, AskFails, Hears, Ticks, Works, Calls, Operates, Setup, Stored, OfflineWrite, Cert}
use Rattle.group_rules.specs.Life.{executed, certs, stored}
use Rattle.group_rules.specs.Rows.{changed_row, row_by, offline_row, all_in, known}
use Rattle.group_rules.specs.OneList.{listed}
use Rattle.group_rules.specs.Legal.{IsPast, writes_in}
use Rattle.group_rules.specs.World.{Past, Does, Writes, Halts, life_in}
use Rattle.group_runs.specs.Runs.{IsSetup, running_in, stored_after, stored_in, AllDid, IsDone}
use Rattle.group_runs.specs.Servers.{IsFounding, IsWritten, AllWritten, OfServers}
use Rattle.group_order.specs.OneLog.{IsReady, LogOver}
use Rattle.group_order.proofs.Nexts.{past_self, past_of, done_at}
use Rattle.group_laws.specs.Lists as listing
use Rattle.group_laws.specs.Lists.{Mem}
use Rattle.group_laws.specs.Entries as law
use Rattle.group_laws.specs.Life as lives
use Rattle.group_laws.specs.Table.{applied, rows_of}
use Rattle.group_laws.proofs.Certs.{place_le, parts_place}
use Rattle.group_laws.proofs.ServerRows.{certified_past}
use Rattle.group_laws.proofs.Lists.{IsPast-self}
use Rattle.group_laws.proofs.Names.{bytes_eq_itself}
use Rattle.group_lives.specs.Lives.{life_of, law_cert}
use Rattle.group_lives.specs.Sound.{HasSets}
use Rattle.group_lives.proofs.Sets.{executed_agrees}
use Rattle.group_lives.proofs.Taking.{certs_agree}
use Rattle.group_lawful.specs.Knows.{Alike, Descends, certified_of}
use Rattle.group_lawful.proofs.Changes as changed
use Rattle.group_lawful.proofs.Lawfuls.{ascends_reverse}
use Rattle.group_lawful.proofs.Opens.{in_reverse}
use Rattle.group_lawful.proofs.Known.{reverse_in}
use Rattle.group_legal.specs.Bases.{list_of, base_in, TakesOf, JudgesAs}
use Rattle.group_legal.specs.LawRun.{SameRows}
use Rattle.group_legal.specs.Ranges.{HasSmallNumbers}
use Rattle.group_legal.proofs.Scanned.{takes, no_give}
use Rattle.group_legal.proofs.Told.{Spelled}
use Rattle.group_legal.proofs.Owners.{some_none, founds_first, written_past}
use Rattle.group_legal.proofs.Sorted.{all_first, all_second, StandFor, same_rows}
use Rattle.group_legal.proofs.Carried.{CarriedAt, in_known}
use Rattle.group_legal.proofs.Listed.{Known, known_at}
use Rattle.group_legal.proofs.Knowing.{LifeKnows, of_group, ascends_known, known_before}

-- ---- the rows of the laws

as_cert : law.Cert → Cert
as_cert d = record { place = d.place; id = record { origin = d.origin; number = d.id }; gtid = d.gtid; txn = d.txn }

back_again : (cs : List Cert) → map as_cert (map law_cert cs) ≡ cs
unfolding as_cert
back_again [] = refl
back_again (c ∷ cs) = ap (λ xs. c ∷ xs) (back_again cs)

row_end : (x : Item) (e : Gtids) (r : Option (List ℕ)) (xs : List Cert) (c : Cert) → row_by x e r (xs ++ c ∷ []) ≡ elim (has e c.gtid) [ true ↦ changed_row x (row_by x e r xs) c.txn.changes | false ↦ row_by x e r xs ]
row_end x e r [] c = refl
row_end x e r (y ∷ xs) c = go (has e y.gtid) (row_end x e (changed_row x r y.txn.changes) xs c) (row_end x e r xs c)
  where
    go : (b : Bool)
        → row_by x e (changed_row x r y.txn.changes) (xs ++ c ∷ []) ≡ elim (has e c.gtid) [ true ↦ changed_row x (row_by x e (changed_row x r y.txn.changes) xs) c.txn.changes | false ↦ row_by x e (changed_row x r y.txn.changes) xs ]
        → row_by x e r (xs ++ c ∷ []) ≡ elim (has e c.gtid) [ true ↦ changed_row x (row_by x e r xs) c.txn.changes | false ↦ row_by x e r xs ]
        → ◌≡◌ {A = Option (List ℕ)} (elim b [ true ↦ row_by x e (changed_row x r y.txn.changes) (xs ++ c ∷ []) | false ↦ row_by x e r (xs ++ c ∷ []) ])
        (elim (has e c.gtid) [ true ↦ changed_row x (elim b [ true ↦ row_by x e (changed_row x r y.txn.changes) xs | false ↦ row_by x e r xs ]) c.txn.changes | false ↦ elim b [ true ↦ row_by x e (changed_row x r y.txn.changes) xs | false ↦ row_by x e r xs ] ])
    go true f g = f
    go false f g = g

either_row : (b : Bool) (x y : Option (List ℕ)) → cond b x y ≡ elim b [ true ↦ x | false ↦ y ]
either_row true x y = refl
either_row false x y = refl

rows_by : (ds : List law.Cert) (e : Gtids) (x : Item) → rows_of ds (has e) x ≡ row_by x e None (reverse (map as_cert ds))
unfolding as_cert
rows_by [] e x = refl
rows_by (d ∷ ds) e x =
    either_row (has e d.gtid) (applied d.txn.changes (rows_of ds (has e)) x) (rows_of ds (has e) x)
    ∙ ap (λ y. elim (has e d.gtid) [ true ↦ y | false ↦ rows_of ds (has e) x ]) (changed.changed_as d.txn.changes (rows_of ds (has e)) x)
    ∙ ap (λ y. elim (has e d.gtid) [ true ↦ changed_row x y d.txn.changes | false ↦ y ]) (rows_by ds e x)
    ∙ sym (row_end x e None (reverse (map as_cert ds)) (as_cert d))
    ∙ ap (row_by x e None) (sym (reverse-append (as_cert d ∷ []) (map as_cert ds)))

-- ---- transactions of the list, as certified ones

law_descends : (t : Setup) (m : List law.Placed) → Descends (map as_cert (law.certified t m))
unfolding as_cert
law_descends t [] = tt
law_descends t (e ∷ m) = go (law.cert_of t (suc (length m)) e) refl (law_descends t m)
  where
    below : (ds : List law.Cert) (n : ℕ) → ((d : law.Cert) → Mem d ds → d.place < n) → (c : Cert) → In c (map as_cert ds) → c.place < n
    below [] n f c h = absurd h
    below (d ∷ ds) n f c (inl q) = subst (λ (y : Cert). y.place < n) q (f d (inl refl))
    below (d ∷ ds) n f c (inr h) = below ds n (λ y k. f y (inr k)) c h

    go : (o : Option law.Cert) → law.cert_of t (suc (length m)) e ≡ o → Descends (map as_cert (law.certified t m)) → Descends (map as_cert (law.cons_some o (law.certified t m)))
    go None q h = h
    go (Some d) q h =
        let p = parts_place t (suc (length m)) e.value.origin e.value.number e.value.body e.outcome d q in
        (below (law.certified t m) d.place (λ y k. let z = place_le t m y k in omega (arith, z, p)), h)

in_as : (ds : List law.Cert) (c : Cert) → In c (map as_cert ds) → (d : law.Cert) × Mem d ds × (as_cert d ≡ c)
in_as [] c h = absurd h
in_as (d ∷ ds) c (inl e) = (d, inl refl, e)
in_as (d ∷ ds) c (inr h) = let r = in_as ds c h in (r.0, inr r.1, r.2)

as_in : (ds : List law.Cert) (d : law.Cert) → Mem d ds → In (as_cert d) (map as_cert ds)
as_in [] d h = absurd h
as_in (x ∷ ds) d (inl e) = inl (ap as_cert e)
as_in (x ∷ ds) d (inr h) = inr (as_in ds d h)

as_alike : (d : law.Cert) → Alike (as_cert d) d
unfolding as_cert
as_alike d = record { place = refl; origin = refl; number = inl refl; gtid = refl; txn = refl }

-- a part of the list with all that is executed stands for it
stand_law : (t : Setup) (m k : List law.Placed) (e : Gtids) → listing.IsPast m k → ((d : law.Cert) → Mem d (law.certified t k) → has e d.gtid ≡ true → Mem d (law.certified t m)) → StandFor t k e (reverse (map as_cert (law.certified t m)))
stand_law t m k e h f = record {
  ascends = ascends_reverse (map as_cert (law.certified t m)) (law_descends t m);
  listed = λ c n q. (let r = in_as (law.certified t m) c (in_reverse c (map as_cert (law.certified t m)) n) in
      (r.0, certified_past t m k r.0 h r.1, subst (λ y. Alike y r.0) r.2 (as_alike r.0)));
  all = λ d n q. (as_cert d, reverse_in t none [] (as_cert d) (map as_cert (law.certified t m)) (as_in (law.certified t m) d (f d n q)), as_alike d);
}
  where
    none : Inc
    none = record { server = 0; start = 0 }

-- ---- offline writes

offline_none : (x : Item) (e : Gtids) (r : Option (List ℕ)) (ws : List OfflineWrite) → ((y : OfflineWrite) → In y ws → has e y.gtid ≡ false) → offline_row x e r ws ≡ r
offline_none x e r [] f = refl
offline_none x e r (y ∷ ws) f = ap (λ b. elim b [ true ↦ offline_row x e (Some y.row) ws | false ↦ offline_row x e r ws ]) (none (item_eq y.item x) (f y (inl refl))) ∙ offline_none x e r ws (λ z m. f z (inr m))
  where
    none : (a : Bool) → has e y.gtid ≡ false → (a && has e y.gtid) ≡ false
    none true q = q
    none false q = refl

stored_writes : (p : Past) (n : ℕ) → (stored_in p n).writes ≡ writes_in p n
stored_writes [] n = refl
stored_writes (Does i d ∷ p) n = stored_writes p n
stored_writes (Halts m ∷ p) n = go (m == n) (stored_writes p n)
  where
    after : (o : Option Inc) → (stored_after (stored_in p n) p o).writes ≡ (stored_in p n).writes
    after None = refl
    after (Some i) = refl

    go : (b : Bool) → (stored_in p n).writes ≡ writes_in p n → (elim b as (λ y. Stored) [ true ↦ stored_after (stored_in p n) p (running_in p n) | false ↦ stored_in p n ]).writes ≡ writes_in p n
    go true h = after (running_in p n) ∙ h
    go false h = h
stored_writes (Writes m y ∷ p) n = go (m == n) (stored_writes p n)
  where
    wrote : Stored
    wrote = let z : Stored = stored_in p n in record { executed = with_gtid z.executed y.gtid; committed = z.committed; writes = z.writes ++ y ∷ [] }

    go : (b : Bool) → (stored_in p n).writes ≡ writes_in p n → (elim b as (λ y. Stored) [ true ↦ wrote | false ↦ stored_in p n ]).writes ≡ elim b [ true ↦ writes_in p n ++ y ∷ [] | false ↦ writes_in p n ]
    go true h = ap (λ ws. ws ++ y ∷ []) h
    go false h = h

pub founding_writes : (p : Past) → IsFounding p → (n : ℕ) → writes_in p n ≡ []
founding_writes [] f n = refl
founding_writes (Does i d ∷ p) f n = founding_writes p (rest d f) n
  where
    rest : (d : Did) → IsFounding (Does i d ∷ p) → IsFounding p
    rest Founds f = f
    rest (Is Online c) f = f
    rest d f = absurd f
founding_writes (Halts m ∷ p) f n = founding_writes p f n
founding_writes (Writes m y ∷ p) f n = absurd f

-- those of a server aren't the group's
pub writes_apart : (t : Setup) (p : Past) → AllWritten (IsWritten t) p → (n : ℕ) (y : OfflineWrite) → In y (writes_in p n) → bytes_eq y.gtid.source t.limits.group ≡ false
writes_apart t [] s n y h = absurd h
writes_apart t (Does i d ∷ p) s n y h = writes_apart t p s n y h
writes_apart t (Halts m ∷ p) s n y h = writes_apart t p s n y h
writes_apart t (Writes m z ∷ p) s n y h = go (m == n) h (writes_apart t p s.1 n y)
  where
    last : (ws : List OfflineWrite) → In y (ws ++ z ∷ []) → (In y ws → bytes_eq y.gtid.source t.limits.group ≡ false) → bytes_eq y.gtid.source t.limits.group ≡ false
    last [] (inl e) f = subst (λ (u : OfflineWrite). bytes_eq u.gtid.source t.limits.group ≡ false) e s.0.apart
    last [] (inr e) f = absurd e
    last (u ∷ ws) (inl e) f = f (inl e)
    last (u ∷ ws) (inr e) f = last ws e (λ k. f (inr k))

    go : (b : Bool) → In y (elim b [ true ↦ writes_in p n ++ z ∷ [] | false ↦ writes_in p n ]) → (In y (writes_in p n) → bytes_eq y.gtid.source t.limits.group ≡ false) → bytes_eq y.gtid.source t.limits.group ≡ false
    go true k f = last (writes_in p n) k f
    go false k f = f k

module _ (t : Setup) (w : Past) (done : AllDid (IsDone t) w) (servers : OfServers t w) where
  -- one that runs started with the offline writes of its server
  did_writes : (p : Past) (i : Inc) (d : Did) → IsPast (Does i d ∷ p) w → IsDone t p i d → (running_in p i.server ≡ Some i → (stored (life_in p i)).writes ≡ writes_in p i.server) → (stored (d ∷ life_in p i)).writes ≡ writes_in p i.server
  did_writes p i Founds k h f = ap (λ l. (stored l).writes) h.1 ∙ sym (founding_writes p (founds_first t w servers.founded p i k h.2 h.1) i.server)
  did_writes p i (Starts y) k h f = ap (λ (z : Stored). z.writes) h.3 ∙ stored_writes p i.server
  did_writes p i (Is y z) k (inl h) f = f h.0
  did_writes p i (Is y z) k (inr h) f = f h.0.running
  did_writes p i (Came (Hears n)) k h f = f h.0.running
  did_writes p i (Came Ticks) k h f = f h.0.running
  did_writes p i (Came (Works z y)) k h f = f h.0.running
  did_writes p i (Came (Calls z y)) k h f = f h.0.running
  did_writes p i (Came (Operates z)) k h f = f h.0.running
  did_writes p i (Skips u v) k h f = f h.0.running
  did_writes p i (Gave n j) k h f = f h.0.running
  did_writes p i (Replied r) k h f = f h.0.running
  did_writes p i AskFails k h f = f h.0.running
  did_writes p i (Enters z) k h f = f h.0.running
  did_writes p i (Done q) k h f = f h.0.running
  did_writes p i (Begun u y z) k h f = f h.0.running
  did_writes p i (Changed u z) k h f = f h.0.running
  did_writes p i (Called u y z) k h f = f h.0.running
  did_writes p i (AsksCommit u y) k h f = f h.0.running
  did_writes p i (Ends u) k h f = f h.0.running
  did_writes p i (Took z) k h f = f h.0.running
  did_writes p i (Made u y) k h f = f h.0.running
  did_writes p i (Answered u y) k h f = f h.0.running
  did_writes p i (Restores y z) k h f = f h.0.running
  did_writes p i (Committed u) k h f = f h.0.running

  pub life_writes : (p : Past) → IsPast p w → (i : Inc) → running_in p i.server ≡ Some i → (stored (life_in p i)).writes ≡ writes_in p i.server
  life_writes [] k i h = absurd (some_none (sym h))
  life_writes (Writes m y ∷ p) k i h = go (m == i.server) refl (life_writes p (past_of (Writes m y ∷ p) p w k (inr (past_self p))) i h)
    where
      idle : running_in p m ≡ None
      idle = (written_past (IsWritten t) w (Writes m y ∷ p) k servers.written).0.idle

      go : (b : Bool) → (m == i.server) ≡ b → (stored (life_in p i)).writes ≡ writes_in p i.server → (stored (life_in p i)).writes ≡ elim b [ true ↦ writes_in p i.server ++ y ∷ [] | false ↦ writes_in p i.server ]
      go true e f = absurd (some_none (sym h ∙ ap (running_in p) (sym (eqb-true m i.server e)) ∙ idle))
      go false e f = f
  life_writes (Halts m ∷ p) k i h = go (m == i.server) h (life_writes p (past_of (Halts m ∷ p) p w k (inr (past_self p))) i)
    where
      go : (b : Bool) → ◌≡◌ {A = Option Inc} (elim b [ true ↦ None | false ↦ running_in p i.server ]) (Some i) → (running_in p i.server ≡ Some i → (stored (life_in p i)).writes ≡ writes_in p i.server) → (stored (life_in p i)).writes ≡ writes_in p i.server
      go true q f = absurd (some_none (sym q))
      go false q f = f q
  life_writes (Does j d ∷ p) k i h = go (j.server == i.server) refl h (life_writes p (past_of (Does j d ∷ p) p w k (inr (past_self p))) i)
    where
      here : j ≡ i → (running_in p i.server ≡ Some i → (stored (life_in p i)).writes ≡ writes_in p i.server) → (stored (life_in (Does j d ∷ p) i)).writes ≡ writes_in p i.server
      here e f =
          let m : IsPast (Does i d ∷ p) w = subst (λ y. IsPast (Does y d ∷ p) w) e k in
          let b : inc_eq j i ≡ true = ap (λ y. inc_eq y i) e ∙ inc_same i in
          ap (λ b. (stored (elim b [ true ↦ d ∷ life_in p i | false ↦ life_in p i ])).writes) b ∙ did_writes p i d m (done_at (IsDone t) w p i d done m) f

      other : (j.server == i.server) ≡ false → inc_eq j i ≡ false
      other e = ap (λ b. b && (j.start == i.start)) e

      go : (b : Bool) → (j.server == i.server) ≡ b → ◌≡◌ {A = Option Inc} (elim b [ true ↦ Some j | false ↦ running_in p i.server ]) (Some i) → (running_in p i.server ≡ Some i → (stored (life_in p i)).writes ≡ writes_in p i.server)
          → (stored (life_in (Does j d ∷ p) i)).writes ≡ writes_in p i.server
      go true e q f = let z : j ≡ i = cc q in here z f
      go false e q f = ap (λ b. (stored (elim b [ true ↦ d ∷ life_in p i | false ↦ life_in p i ])).writes) (other e) ∙ f q

-- ---- its rows

module _ (t : Setup) (setup : IsSetup t) (w : Past) (x : LogOver t w) (done : AllDid (IsDone t) w) (servers : OfServers t w) (spelled : Spelled) (small : HasSmallNumbers w) (v : Past) (v_past : IsPast v w)
    (judges : (p : Past) → IsPast p v → (i : Inc) → IsReady t i (life_in p i) → 0 < length (life_in p i) → TakesOf t x.log (base_in t x.log w i) (life_in p i) × JudgesAs t x.log (base_in t x.log w i) (life_in p i))
    (p : Past) (k : IsPast p v) (i : Inc) (running : running_in p i.server ≡ Some i) where
  abbrev list : List law.Placed
  list = list_of t x.log

  abbrev e : Gtids
  e = executed (life_in p i)

  abbrev base : List law.Placed
  base = base_in t x.log w i

  knows : LifeKnows t list i (life_in p i)
  knows = (known_before t setup w x done servers spelled small v v_past judges p k p (past_self p)).lives i

  everywhere : CarriedAt (Known t list) p
  everywhere = known_at t setup w x done spelled small v v_past judges p k

  writes_are : (stored (life_in p i)).writes ≡ writes_in p i.server
  writes_are = life_writes t w done servers p (past_of v p w v_past k) i running

  stand_known : StandFor t list e (known (life_in p i))
  stand_known = record {
    ascends = ascends_known t list i (life_in p i) knows;
    listed = λ c m q. elim (in_known (life_in p i) c m) [ inl n ↦ (everywhere.had i c n).1 | inr n ↦ (everywhere.lives i c n).1 ];
    all = λ d m q. elim (knows.complete d m q) [
      | inl s ↦ (let r = knows.stock.known d m s in (r.0, all_first (all_in [] (stored (life_in p i)).committed) (certs (life_in p i)) r.0 (all_second [] (stored (life_in p i)).committed r.0 r.1), r.2))
      | inr b ↦ (b.0, all_second (all_in [] (stored (life_in p i)).committed) (certs (life_in p i)) b.0 b.1, b.2)
    ];
  }

  stand_list : StandFor t list e (reverse (certs (listed t x.log)))
  stand_list = subst (λ cs. StandFor t list e (reverse cs)) is_all (stand_law t list list e (IsPast-self list) (λ d m q. m))
    where
      is_all : map as_cert (law.certified t list) ≡ certs (listed t x.log)
      is_all = ap (map as_cert) (certs_agree t [] (listed t x.log) (takes t [] x.log) (no_give t x.log)) ∙ back_again (certs (listed t x.log))

  -- over the whole list, with its server's offline writes
  pub rows_listed : SameRows t x.log p i
  rows_listed y =
      ap (λ u. offline_row y e u (stored (life_in p i)).writes) (same_rows t list e (known (life_in p i)) (reverse (certs (listed t x.log))) y stand_known stand_list)
      ∙ ap (offline_row y e (row_by y e None (reverse (certs (listed t x.log))))) writes_are

  -- where all that it has executed is certified, by what it has taken
  pub rows_taken : listing.IsPast (lives.marked (life_of base (life_in p i))) list → HasSets (life_in p i)
      → ((g : Gtid) → has e g ≡ true → (d : law.Cert) × Mem d (certified_of t base (life_in p i)) × (d.gtid ≡ g))
      → ((c d : law.Cert) → Mem c (law.certified t list) → Mem d (law.certified t list) → c.gtid ≡ d.gtid → c ≡ d) → changed.SameRows t i base (life_in p i)
  rows_taken past sets within distinct y =
      offline_none y e (row_by y e None (known (life_in p i))) (stored (life_in p i)).writes (λ z m. none z m)
      ∙ same_rows t list e (known (life_in p i)) (reverse (map as_cert (certified_of t base (life_in p i)))) y stand_known (stand_law t (lives.marked (life_of base (life_in p i))) list e past taken_all)
      ∙ sym (rows_by (certified_of t base (life_in p i)) e y)
      ∙ (λ j. rows_of (certified_of t base (life_in p i)) (λ g. sym (executed_agrees base (life_in p i) g sets) j) y)
    where
      taken_all : (d : law.Cert) → Mem d (law.certified t list) → has e d.gtid ≡ true → Mem d (certified_of t base (life_in p i))
      taken_all d m q =
          let r = within d.gtid q in
          subst (λ z. Mem z (certified_of t base (life_in p i))) (distinct r.0 d (certified_past t (lives.marked (life_of base (life_in p i))) list r.0 past r.1) m r.2) r.1

      none : (z : OfflineWrite) → In z (stored (life_in p i)).writes → has e z.gtid ≡ false
      none z m = elim (cases_Bool (has e z.gtid)) [
        | inr q ↦ q
        | inl q ↦ (let r = within z.gtid q in
            let a = writes_apart t p (written_past (IsWritten t) w p (past_of v p w v_past k) servers.written) i.server z (subst (In z) writes_are m) in
            let g : z.gtid.source ≡ t.limits.group = ap (λ (u : Gtid). u.source) (sym r.2) ∙ of_group t (lives.marked (life_of base (life_in p i))) r.0 r.1 in
            absurd (false≢true (sym a ∙ ap (λ u. bytes_eq u t.limits.group) g ∙ bytes_eq_itself t.limits.group)))
      ]
