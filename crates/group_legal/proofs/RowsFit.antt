-- The sixth law of a legal run: the rows of each incarnation that runs are those of the list, and no change is refused.
use Rattle.std.proofs.Common.{◌≡◌, inl, inr, ℕ, Bool, true, false, cond, List, [], ◌∷◌, map, refl, sym, ap, subst, ◌∙◌, eq-eqb}
use Rattle.std.specs.Prelude.{Option}
use Rattle.std.proofs.lemmas.Bool.{false≢true}
use Rattle.gr_ids.specs.declared.names.Inc.{Inc}
use Rattle.gr_ids.specs.declared.names.Gtid.{Gtid}
use Rattle.gr_ids.specs.Names.{inc_eq}
use Rattle.gtid_sets.specs.Sets.{Gtids, has}
use Rattle.key_items.specs.Items.{item_eq}
use Rattle.key_items.specs.declared.change.Change.{Change}
use Rattle.node_rules.proofs.Incs.{inc_is, inc_same}
use Rattle.group_rules.specs.Events.{Setup, Cert}
use Rattle.group_rules.specs.Life.{executed, certs}
use Rattle.group_rules.specs.OneList.{listed}
use Rattle.group_rules.specs.Rows.{row_after}
use Rattle.group_rules.specs.Legal.{IsPast, Table, with_change, with_changes, AllFit, table_of, NoneRefused, RowsLaw}
use Rattle.group_rules.specs.World.{Past, life_in}
use Rattle.group_runs.specs.Runs.{AllDid, IsDone}
use Rattle.group_order.specs.OneLog.{LogOver}
use Rattle.group_laws.specs.Lists as listing
use Rattle.group_laws.specs.Entries as law
use Rattle.group_laws.specs.Verdict as decided
use Rattle.group_laws.specs.Life as lives
use Rattle.group_laws.specs.Table as rows
use Rattle.group_laws.specs.World as run
use Rattle.group_laws.specs.World.{IsRun}
use Rattle.group_laws.specs.Laws.{RowLaw}
use Rattle.group_laws.proofs.RowLaw.{row_law}
use Rattle.group_lives.specs.Lives.{law_cert, run_of}
use Rattle.group_lives.proofs.Runs.{lives_agree}
use Rattle.group_lives.proofs.Sets.{executed_agrees}
use Rattle.group_legal.specs.Bases.{list_of, base_in}
use Rattle.group_legal.specs.LawRun.{IsLawRun}
use Rattle.group_legal.proofs.Points.{point, certs_are}

-- ---- no change is refused, by the laws

refuses_none : (cs : List law.Cert) → rows.NoneRefused cs (λ g. false)
refuses_none [] = tt
refuses_none (c ∷ cs) = ((λ h. absurd (false≢true h)), refuses_none cs)

-- a run before one thing more
run_before : (t : Setup) (k : List law.Value) (x : run.Happening) (w : run.World) → IsRun t k (x ∷ w) → IsRun t k w
run_before t k (run.Does i d) w h = record { founding = h.founding; lawful = h.lawful.1; joint = h.joint.1; alive = h.alive.1; kept = h.kept }
run_before t k (run.Writes s g i x) w h = record { founding = h.founding; lawful = h.lawful; joint = h.joint.1; alive = h.alive; kept = h.kept }

pub run_past : (t : Setup) (k : List law.Value) (a w : run.World) → listing.IsPast a w → IsRun t k w → IsRun t k a
run_past t k a [] h r = subst (IsRun t k) (sym h) r
run_past t k a (x ∷ w) (inl e) r = subst (IsRun t k) (sym e) r
run_past t k a (x ∷ w) (inr h) r = run_past t k a w h (run_before t k x w r)

-- of what an incarnation has executed: its server has had no more since its last mark
none_refused : (t : Setup) (k : List law.Value) (w : run.World) → IsRun t k w → (m : Inc)
    → rows.NoneRefused (law.certified t (decided.scan t k)) (lives.executed (run.life w m))
none_refused t k [] h m = refuses_none (law.certified t (decided.scan t k))
none_refused t k (run.Writes s g i x ∷ w) h m = none_refused t k w (run_before t k (run.Writes s g i x) w h) m
none_refused t k (run.Does i d ∷ w) h m = go (inc_eq i m) refl (none_refused t k w (run_before t k (run.Does i d) w h) m)
  where
    rule : RowLaw t k (run.Does i d ∷ w)
    rule = row_law t k (run.Does i d ∷ w) h

    runs : i ≡ m → run.runs t (run.Does i d ∷ w) m ≡ true
    runs e = subst (λ y. run.runs t (run.Does y d ∷ w) m ≡ true) (sym e) (ap (λ b. cond b (inc_eq m m) (run.runs t w m)) (eq-eqb m.server m.server refl) ∙ inc_same m)

    go : (b : Bool) → inc_eq i m ≡ b → rows.NoneRefused (law.certified t (decided.scan t k)) (lives.executed (run.life w m))
        → rows.NoneRefused (law.certified t (decided.scan t k)) (lives.executed (run.life (run.Does i d ∷ w) m))
    go true e rest = subst (rows.NoneRefused (law.certified t (decided.scan t k))) (λ j g. rule.running m g (runs (inc_is i m e)) j) (rule.fits m.server)
    go false e rest = subst (λ l. rows.NoneRefused (law.certified t (decided.scan t k)) (lives.executed l))
        (sym (ap (λ b. cond b (d ∷ run.life w m) (run.life w m)) e)) rest

-- ---- the tables of the laws are those of the rules

either_row : (b : Bool) (x y : Option (List ℕ)) → cond b x y ≡ elim b [ true ↦ x | false ↦ y ]
either_row true x y = refl
either_row false x y = refl

put_same : (c : Change) (was : Table) → rows.put c.item (row_after c.what) was ≡ with_change was c
put_same c was = λ j i. either_row (item_eq c.item i) (row_after c.what) (was i) j

changed_same : (cs : List Change) (was : Table) → rows.applied cs was ≡ with_changes was cs
changed_same [] was = refl
changed_same (c ∷ cs) was = ap (rows.applied cs) (put_same c was) ∙ changed_same cs (with_change was c)

table_same : (cs : List Cert) (e : Gtids) → rows.rows_of (map law_cert cs) (has e) ≡ table_of cs e
table_same [] e = refl
table_same (c ∷ cs) e =
    let q : rows.applied c.txn.changes (rows.rows_of (map law_cert cs) (has e)) ≡ with_changes (table_of cs e) c.txn.changes =
    ap (rows.applied c.txn.changes) (table_same cs e) ∙ changed_same c.txn.changes (table_of cs e) in
    (λ j i. cond (has e c.gtid) (q j i) (table_same cs e j i))
    ∙ (λ j i. either_row (has e c.gtid) (with_changes (table_of cs e) c.txn.changes i) (table_of cs e i) j)

fits_same : (cs : List Change) (was : Table) → rows.Fits cs was → AllFit was cs
fits_same [] was h = tt
fits_same (c ∷ cs) was h = (h.0, fits_same cs (with_change was c) (subst (rows.Fits cs) (put_same c was) h.1))

refused_same : (cs : List Cert) (e : Gtids) → rows.NoneRefused (map law_cert cs) (has e) → NoneRefused cs e
refused_same [] e h = tt
refused_same (c ∷ cs) e h = ((λ x. fits_same c.txn.changes (table_of cs e) (subst (rows.Fits c.txn.changes) (table_same cs e) (h.0 x))), refused_same cs e h.1)

-- ---- the law

module _ (t : Setup) (w : Past) (one : LogOver t w) (done : AllDid (IsDone t) w) (r : IsLawRun t one.log w) where
  abbrev given : Inc → List law.Placed
  given = base_in t one.log w

  -- the executed set of a history is that of its life in the run
  executed_is : (p : Past) → IsPast p w → (i : Inc) (g : Gtid) → lives.executed (run.life (run_of given p) i) g ≡ has (executed (life_in p i)) g
  executed_is p h i g = ap (λ y. lives.executed y g) (lives_agree given p i) ∙ executed_agrees (given i) (life_in p i) g (r.moments p h i).sets

  pub rows_law : RowsLaw (listed t one.log) w
  rows_law p i h n = record {
    rows = r.rows p h i n;
    fits =
        refused_same (certs (listed t one.log)) (executed (life_in p i))
        (subst (λ y. y) (λ j. rows.NoneRefused (certs_are t w one done r j) (λ g. executed_is p h i g j))
        (none_refused t (law.values (list_of t one.log)) (run_of given p)
        (run_past t (law.values (list_of t one.log)) (run_of given p) (run_of given w) (point given p w h) r.run) i));
  }
