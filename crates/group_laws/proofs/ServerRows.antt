-- What a server has, and the rows that it leaves.
use Rattle.std.proofs.Common.{◌≡◌, ◌⊎◌, inl, inr, ℕ, suc, ◌<◌, List, [], ◌∷◌, length, Option, Some, None, Bool, true, false, cond, ◌&&◌, ◌||◌, refl, sym, ◌∙◌, ap, subst, eqb, eqb-true}
use Rattle.std.proofs.lemmas.Bool.{false≢true, or_cases, or_left, or_right, and_from, and_parts, both_ways, false_from_ne_true}
use Rattle.group_rules.specs.Events.{Setup}
use Rattle.group_laws.specs.Lists.{Mem, IsPast, AllPasts}
use Rattle.group_laws.specs.Names.{Inc, inc_eq, bytes_eq, Gtid, gtid_eq, Item}
use Rattle.group_laws.specs.Entries.{Body, Write, Value, Placed, Cert, certified, cert_of, unplaced}
use Rattle.group_laws.specs.Verdict.{writes, scan}
use Rattle.group_laws.specs.Table.{Rows, put, applied, rows_of, Covers}
use Rattle.group_laws.specs.Life.{Did, Started, Given, Made, Took, Finished, Committed, Called, Begun, Acked, Fell, Life, marked, taken, executed, ready, Changed, Asked, Ended}
use Rattle.group_laws.specs.Lawful.{LawfulBody, LawfulCommit, LawfulDid}
use Rattle.group_laws.specs.World.{Does, Writes, World, life, adds, owned, Lawful, JointDid, Joint, runs, AliveDid, Alive, Founding, cert_named, applied_some, stored_did, stored, offline_over}
use Rattle.group_laws.proofs.Lists.{newest_mem, newest_none, AllPasts-here}
use Rattle.node_rules.proofs.Incs.{inc_is}
use Rattle.group_laws.proofs.Names.{gtid_eq_same, gtid_eq_itself, bytes_eq_itself}
use Rattle.group_laws.proofs.Scans.{certified_mono, gtids_distinct, cert_source, cert_value}
use Rattle.group_laws.proofs.Certs.{cons_keeps}
use Rattle.group_laws.proofs.Lives.{unready, marked_more}
use Rattle.group_laws.proofs.Worlds.{lawful_life, made_is}
use Rattle.group_laws.proofs.Freshness.{Inv}
use Rattle.group_laws.proofs.Law.{Ext}
use Rattle.group_laws.proofs.Tables.{put_at, applied_at, rows_agree, rows_commit, untouched}

-- ---- a running incarnation has what its server has

module _ (r : Setup) (k : List Value) where
  runs_did : (w : World) (m : Inc) (d : Did) (g : Gtid) → JointDid k w m d → AliveDid r w m d → (runs r w m ≡ true → owned w m.server g ≡ executed (life w m) g) → (adds d g || owned w m.server g) ≡ executed (d ∷ life w m) g
  runs_did w m (Started s) g j a rec = sym (j g)
  runs_did w m (Committed c) g j a rec = ap (λ x. gtid_eq c g || x) (rec a)
  runs_did w m (Given b) g j a rec = rec a
  runs_did w m (Made v) g j a rec = rec a
  runs_did w m (Took e) g j a rec = rec a
  runs_did w m (Finished p) g j a rec = rec a
  runs_did w m (Called s x y) g j a rec = rec a
  runs_did w m (Begun s) g j a rec = rec a
  runs_did w m (Acked c) g j a rec = rec a
  runs_did w m Fell g j a rec = rec a
  runs_did w m (Changed s2 c2) g j a rec = rec a
  runs_did w m (Asked s2) g j a rec = rec a
  runs_did w m (Ended s2) g j a rec = rec a

  pub runs_owned : (w : World) (m : Inc) (g : Gtid) → Joint r k w → Alive r w → runs r w m ≡ true → owned w m.server g ≡ executed (life w m) g
  runs_owned [] m g j a h = refl
  runs_owned (Does i d ∷ w) m g j a h = go (eqb i.server m.server) refl (runs_owned w m g j.1 a.1)
    where
      go : (b : Bool) → eqb i.server m.server ≡ b → (runs r w m ≡ true → owned w m.server g ≡ executed (life w m) g) → owned (Does i d ∷ w) m.server g ≡ executed (life (Does i d ∷ w) m) g
      go false e rec =
          let h2 : runs r w m ≡ true = rw e at h in
          let x = rec h2 in rw e x
      go true e rec =
          let h2 : inc_eq i m ≡ true = subst (λ (b : Bool). cond b (inc_eq i m) (runs r w m) ≡ true) e h in
          let q : i ≡ m = inc_is i m h2 in
          let j2 : JointDid k w m d = subst (λ (y : Inc). JointDid k w y d) q j.0 in
          let a2 : AliveDid r w m d = subst (λ (y : Inc). AliveDid r w y d) q a.0 in
          let x : (adds d g || owned w m.server g) ≡ executed (d ∷ life w m) g = runs_did w m d g j2 a2 rec in
          let y1 : owned (Does i d ∷ w) m.server g ≡ (adds d g || owned w m.server g) = rw e refl in
          let y2 : life (Does i d ∷ w) m ≡ d ∷ life w m = rw h2 refl in
          y1 ∙ x ∙ ap (λ (z : Life). executed z g) (sym y2)
  runs_owned (Writes s c y x ∷ w) m g j a h = go (eqb s m.server) refl (runs_owned w m g j.1 a)
    where
      go : (b : Bool) → eqb s m.server ≡ b → (runs r w m ≡ true → owned w m.server g ≡ executed (life w m) g) → owned (Writes s c y x ∷ w) m.server g ≡ executed (life w m) g
      go false e rec = let h2 : runs r w m ≡ true = rw e at h in let z = rec h2 in rw e z
      go true e rec = let h2 : false ≡ true = rw e at h in absurd (false≢true h2)

-- ---- what a server has of the group stands in some list that was taken

pub record Known (r : Setup) (w : World) (g : Gtid) : Type 0 where
  pub who : Inc
  pub cert : Cert
  pub there : Mem cert (certified r (marked (life w who)))
  pub is_it : cert.gtid ≡ g

pub certified_past : (r : Setup) (a b : List Placed) (c : Cert) → IsPast a b → Mem c (certified r a) → Mem c (certified r b)
certified_past r a [] c h i = let e : a ≡ [] = h in subst (λ (y : List Placed). Mem c (certified r y)) e i
certified_past r a (x ∷ b) c (inl e) i = subst (λ (y : List Placed). Mem c (certified r y)) e i
certified_past r a (x ∷ b) c (inr h) i = cons_keeps (cert_of r (suc (length b)) x) (certified r b) c (certified_past r a b c h i)

pub known_more : (r : Setup) (i : Inc) (d : Did) (w : World) (g : Gtid) → Lawful r (Does i d ∷ w) → Known r w g → Known r (Does i d ∷ w) g
known_more r i d w g l n = record { who = n.who; cert = n.cert; there = go (inc_eq i n.who) refl; is_it = n.is_it }
  where
    go : (b : Bool) → inc_eq i n.who ≡ b → Mem n.cert (certified r (marked (life (Does i d ∷ w) n.who)))
    go false e = rw e n.there
    go true e =
        let q : i ≡ n.who = inc_is i n.who e in
        let ld : LawfulDid r n.who (life w n.who) d = subst (λ (y : Inc). LawfulDid r y (life w y) d) q l.0 in
        let p = marked_more r n.who d (life w n.who) (lawful_life r w n.who l.1) ld in
        rw e (certified_past r (marked (life w n.who)) (marked (d ∷ life w n.who)) n.cert p n.there)

pub did_known : (r : Setup) (i : Inc) (d : Did) (w : World) (g : Gtid) → LawfulDid r i (life w i) d → adds d g ≡ true → Known r w g
did_known r i (Committed c) w g q h = record { who = i; cert = q.cert; there = q.here; is_it = q.is_it ∙ gtid_eq_same c g h }
did_known r i (Started s) w g q h = absurd (false≢true h)
did_known r i (Given s) w g q h = absurd (false≢true h)
did_known r i (Made s) w g q h = absurd (false≢true h)
did_known r i (Took s) w g q h = absurd (false≢true h)
did_known r i (Finished s) w g q h = absurd (false≢true h)
did_known r i (Called s x y) w g q h = absurd (false≢true h)
did_known r i (Begun s) w g q h = absurd (false≢true h)
did_known r i (Acked s) w g q h = absurd (false≢true h)
did_known r i Fell w g q h = absurd (false≢true h)
did_known r i (Changed s2 c2) w g q h = absurd (false≢true h)
did_known r i (Asked s2) w g q h = absurd (false≢true h)
did_known r i (Ended s2) w g q h = absurd (false≢true h)

pub owned_known : (r : Setup) (k : List Value) (w : World) (s : ℕ) (g : Gtid) → Lawful r w → Joint r k w → owned w s g ≡ true → bytes_eq g.source r.limits.group ≡ true → Known r w g
owned_known r k [] s g l j h q = absurd (false≢true h)
owned_known r k (Does i d ∷ w) s g l j h q = go (or_cases (eqb i.server s && adds d g) (owned w s g) h) (owned_known r k w s g l.1 j.1)
  where
    go : ((eqb i.server s && adds d g) ≡ true) ⊎ (owned w s g ≡ true) → (owned w s g ≡ true → bytes_eq g.source r.limits.group ≡ true → Known r w g) → Known r (Does i d ∷ w) g
    go (inr e) rec = known_more r i d w g l (rec e q)
    go (inl e) rec = known_more r i d w g l (did_known r i d w g l.0 (and_parts (eqb i.server s) (adds d g) e).1)
owned_known r k (Writes t c y x ∷ w) s g l j h q = go (or_cases (eqb t s && gtid_eq c g) (owned w s g) h) (owned_known r k w s g l j.1)
  where
    more : Known r w g → Known r (Writes t c y x ∷ w) g
    more n = record { who = n.who; cert = n.cert; there = n.there; is_it = n.is_it }

    go : ((eqb t s && gtid_eq c g) ≡ true) ⊎ (owned w s g ≡ true) → (owned w s g ≡ true → bytes_eq g.source r.limits.group ≡ true → Known r w g) → Known r (Writes t c y x ∷ w) g
    go (inr e) rec = more (rec e q)
    go (inl e) rec =
        let z : c ≡ g = gtid_eq_same c g (and_parts (eqb t s) (gtid_eq c g) e).1 in
        let b : bytes_eq c.source r.limits.group ≡ true = ap (λ (u : Gtid). bytes_eq u.source r.limits.group) z ∙ q in
        absurd (both_ways (bytes_eq c.source r.limits.group) j.0 b)

-- ---- offline writes

pub offline_at : (w : World) (s : ℕ) (a b : Rows) (j : Item) → a j ≡ b j → offline_over w s a j ≡ offline_over w s b j
offline_at [] s a b j e = e
offline_at (Does i d ∷ w) s a b j e = offline_at w s a b j e
offline_at (Writes t g y x ∷ w) s a b j e = go (eqb t s) refl (offline_at w s a b j e)
  where
    go : (v : Bool) → eqb t s ≡ v → offline_over w s a j ≡ offline_over w s b j → offline_over (Writes t g y x ∷ w) s a j ≡ offline_over (Writes t g y x ∷ w) s b j
    go true q rec = rw q (put_at y (Some x) (offline_over w s a) (offline_over w s b) j rec)
    go false q rec = rw q rec

-- a server that has nothing but GTIDs of the group wrote nothing offline
pub no_offline : (r : Setup) (k : List Value) (w : World) (s : ℕ) (a : Rows) (j : Item) → Joint r k w → ((g : Gtid) → owned w s g ≡ true → bytes_eq g.source r.limits.group ≡ true) → offline_over w s a j ≡ a j
no_offline r k [] s a j jt h = refl
no_offline r k (Does i d ∷ w) s a j jt h = no_offline r k w s a j jt.1 (λ g e. h g (or_right (eqb i.server s && adds d g) (owned w s g) e))
no_offline r k (Writes t g y x ∷ w) s a j jt h = go (eqb t s) refl (no_offline r k w s a j jt.1 (λ c e. h c (or_right (eqb t s && gtid_eq g c) (owned w s c) e)))
  where
    go : (v : Bool) → eqb t s ≡ v → offline_over w s a j ≡ a j → offline_over (Writes t g y x ∷ w) s a j ≡ a j
    go false q rec = rw q rec
    go true q rec =
        let o : owned (Writes t g y x ∷ w) s g ≡ true = or_left (eqb t s && gtid_eq g g) (owned w s g) (and_from (eqb t s) (gtid_eq g g) q (gtid_eq_itself g)) in
        absurd (both_ways (bytes_eq g.source r.limits.group) jt.0 (h g o))

module _ (r : Setup) (k : List Value) (f : Founding r) where
  abbrev pub all : List Cert
  all = certified r (scan r k)

  pub source_is : (c : Cert) → Mem c (certified r (scan r k)) → bytes_eq c.gtid.source r.limits.group ≡ true
  source_is c i = ap (λ y. bytes_eq y r.limits.group) (cert_source r k c i) ∙ bytes_eq_itself r.limits.group

  pub known_here : (w : World) → Inv r k w → (c : Cert) → Mem c (certified r (scan r k)) → (n : Known r w c.gtid) → Mem c (certified r (scan r (taken (life w n.who))))
  known_here w inv c i n =
      let x : Mem n.cert (certified r (scan r (taken (life w n.who)))) = subst (λ (y : List Placed). Mem n.cert (certified r y)) (inv.same n.who) n.there in
      let y = certified_mono r (taken (life w n.who)) k n.cert (inv.past n.who) x in
      let z : n.cert ≡ c = gtids_distinct r f.block k n.cert c y i n.is_it in
      subst (λ (u : Cert). Mem u (certified r (scan r (taken (life w n.who))))) z x

  pub covers_known : (w : World) → Lawful r w → Inv r k w → (c : Cert) → Mem c (certified r (scan r k)) → Known r w c.gtid → Covers c.txn
  covers_known w l inv c i n =
      let x = known_here w inv c i n in
      let cv = cert_value r (taken (life w n.who)) c x in
      let mb = inv.made n.who cv.value cv.there in
      let lm = made_is r w mb.0 cv.value l mb.1 in
      let lb : LawfulBody r cv.value.origin (life mb.0 cv.value.origin) (Write c.txn) = subst (λ (y : Body). LawfulBody r cv.value.origin (life mb.0 cv.value.origin) y) (ap unplaced cv.body) lm.body in
      lb.1.1.covers

  pub covers_owned : (w : World) → Lawful r w → Joint r k w → Inv r k w → (s : ℕ) (c : Cert) → Mem c (certified r (scan r k)) → owned w s c.gtid ≡ true → Covers c.txn
  covers_owned w l j inv s c i o = covers_known w l inv c i (owned_known r k w s c.gtid l j o (source_is c i))

  -- ---- a commit
  commit_rows : (i : Inc) (g : Gtid) (w : World) (ld : LawfulCommit r i (life w i) g) (l : Lawful r w) (jt : Joint r k w) (al : Alive r w) (ru : runs r w i ≡ true) (inv : Inv r k w) (j : Item) →
      ((x : Item) → stored r w i.server x ≡ offline_over w i.server (rows_of all (owned w i.server)) x) →
      applied_some (cert_named g (certified r (marked (life w i)))) (stored r w i.server) j ≡ offline_over w i.server (rows_of all (Ext g (owned w i.server))) j
  commit_rows i g w ld l jt al ru inv j rec = go (cert_named g (certified r (marked (life w i)))) refl
    where
      s : ℕ
      s = i.server

      c0 : Cert
      c0 = ld.cert

      e : Gtid → Bool
      e = owned w s

      c0-in : Mem c0 (certified r (scan r k))
      c0-in = certified_mono r (taken (life w i)) k c0 (inv.past i) (subst (λ (y : List Placed). Mem c0 (certified r y)) (inv.same i) ld.here)

      is-ready : ready r i (life w i) ≡ true
      is-ready = at (ready r i (life w i)) refl
        where
          at : (b : Bool) → ready r i (life w i) ≡ b → ready r i (life w i) ≡ true
          at true q = q
          at false q =
              let u = unready r i (life w i) (lawful_life r w i l) q in
              let x : Mem c0 [] = subst (λ (y : List Placed). Mem c0 (certified r y)) u ld.here in absurd x

      exec-is : (h : Gtid) → owned w s h ≡ executed (life w i) h
      exec-is h = runs_owned r k w i h jt al ru

      group-only : (h : Gtid) → owned w s h ≡ true → bytes_eq h.source r.limits.group ≡ true
      group-only h q =
          let x = inv.within i is-ready h (sym (exec-is h) ∙ q) in
          let y : Mem x.0 (certified r (scan r (taken (life w i)))) = subst (λ (z : List Placed). Mem x.0 (certified r z)) (inv.same i) x.1 in
          let z = source_is x.0 (certified_mono r (taken (life w i)) k x.0 (inv.past i) y) in
          ap (λ (u : Gtid). bytes_eq u.source r.limits.group) (sym x.2) ∙ z

      not-yet : e c0.gtid ≡ false
      not-yet = ap e ld.is_it ∙ exec-is g ∙ ld.uncommitted

      ext-covers : (c : Cert) → Mem c (certified r (scan r k)) → Ext c0.gtid e c.gtid ≡ true → Covers c.txn
      ext-covers c x q = split (or_cases (gtid_eq c0.gtid c.gtid) (e c.gtid) q)
        where
          split : (gtid_eq c0.gtid c.gtid ≡ true) ⊎ (e c.gtid ≡ true) → Covers c.txn
          split (inr z) = covers_owned w l jt inv s c x z
          split (inl z) = covers_known w l inv c x (record { who = i; cert = c0; there = ld.here; is_it = gtid_eq_same c0.gtid c.gtid z })

      late : (c : Cert) → Mem c (certified r (scan r k)) → c0.place < c.place → writes c0 j ≡ true → writes c j ≡ true → e c.gtid ≡ false
      late c x lt w0 w1 = false_from_ne_true (e c.gtid) (λ q. both_ways (e c0.gtid) not-yet (inv.closed_owned s c0 c c0-in x lt (record { item = j; first = w0; second = w1 }) q))

      -- the new rows are those of one more transaction
      one-more : rows_of all (Ext c0.gtid e) j ≡ applied c0.txn.changes (rows_of all e) j
      one-more = at (writes c0 j) refl
        where
          at : (b : Bool) → writes c0 j ≡ b → rows_of all (Ext c0.gtid e) j ≡ applied c0.txn.changes (rows_of all e) j
          at true q = rows_commit r f.block k c0 e j c0-in q not-yet ext-covers (λ c x lt z. late c x lt q z)
          at false q =
              rows_agree all (Ext c0.gtid e) e j ext-covers (λ c x z. covers_owned w l jt inv s c x z) (λ c x z. same-at c x z)
              ∙ sym (untouched c0 j (rows_of all e) (ext-covers c0 c0-in (or_left (gtid_eq c0.gtid c0.gtid) (e c0.gtid) (gtid_eq_itself c0.gtid))) q)
            where
              same-at : (c : Cert) → Mem c (certified r (scan r k)) → writes c j ≡ true → Ext c0.gtid e c.gtid ≡ e c.gtid
              same-at c x z =
                  let n : gtid_eq c0.gtid c.gtid ≡ false = false_from_ne_true (gtid_eq c0.gtid c.gtid) (λ u. both_ways (writes c0 j) q (ap (λ (y : Cert). writes y j) (gtids_distinct r f.block k c0 c c0-in x (gtid_eq_same c0.gtid c.gtid u)) ∙ z)) in
                  rw n refl

      clean : (a : Rows) → offline_over w s a j ≡ a j
      clean a = no_offline r k w s a j jt group-only

      go : (o : Option Cert) → cert_named g (certified r (marked (life w i))) ≡ o → applied_some (cert_named g (certified r (marked (life w i)))) (stored r w s) j ≡ offline_over w s (rows_of all (Ext g e)) j
      go None q =
          let x = newest_none (λ (c : Cert). gtid_eq c.gtid g) (certified r (marked (life w i))) c0 q ld.here in
          absurd (both_ways (gtid_eq c0.gtid g) x (ap (λ u. gtid_eq u g) ld.is_it ∙ gtid_eq_itself g))
      go (Some c) q =
          let x = newest_mem (λ (c : Cert). gtid_eq c.gtid g) (certified r (marked (life w i))) c q in
          let c-in = certified_mono r (taken (life w i)) k c (inv.past i) (subst (λ (y : List Placed). Mem c (certified r y)) (inv.same i) x.0) in
          let cc0 : c ≡ c0 = gtids_distinct r f.block k c c0 c-in c0-in (gtid_eq_same c.gtid g x.1 ∙ sym ld.is_it) in
          let q2 : cert_named g (certified r (marked (life w i))) ≡ Some c0 = q ∙ ap Some cc0 in
          let a : applied c0.txn.changes (stored r w s) j ≡ applied c0.txn.changes (rows_of all e) j = applied_at c0.txn.changes (stored r w s) (rows_of all e) j (rec j ∙ clean (rows_of all e)) in
          let b : rows_of all (Ext c0.gtid e) j ≡ rows_of all (Ext g e) j = ap (λ u. rows_of all (Ext u e) j) ld.is_it in
          ap (λ o. applied_some o (stored r w s) j) q2 ∙ a ∙ sym one-more ∙ b ∙ sym (clean (rows_of all (Ext g e)))

  -- ---- a step
  rows_step_did : (i : Inc) (d : Did) (w : World) → LawfulDid r i (life w i) d → Lawful r w → AliveDid r w i d → Joint r k w → Alive r w → Inv r k w → (j : Item) →
      ((x : Item) → stored r w i.server x ≡ offline_over w i.server (rows_of all (owned w i.server)) x) →
      stored_did r (life w i) d (stored r w i.server) j ≡ offline_over w i.server (rows_of all (λ g. adds d g || owned w i.server g)) j
  rows_step_did i (Committed g) w ld l ad jt al inv j rec = commit_rows i g w ld l jt al ad inv j rec
  rows_step_did i (Started s) w ld l ad jt al inv j rec = rec j
  rows_step_did i (Given s) w ld l ad jt al inv j rec = rec j
  rows_step_did i (Made s) w ld l ad jt al inv j rec = rec j
  rows_step_did i (Took s) w ld l ad jt al inv j rec = rec j
  rows_step_did i (Finished s) w ld l ad jt al inv j rec = rec j
  rows_step_did i (Called s x y) w ld l ad jt al inv j rec = rec j
  rows_step_did i (Begun s) w ld l ad jt al inv j rec = rec j
  rows_step_did i (Acked s) w ld l ad jt al inv j rec = rec j
  rows_step_did i Fell w ld l ad jt al inv j rec = rec j
  rows_step_did i (Changed s2 c2) w ld l ad jt al inv j rec = rec j
  rows_step_did i (Asked s2) w ld l ad jt al inv j rec = rec j
  rows_step_did i (Ended s2) w ld l ad jt al inv j rec = rec j

  pub rows_always : (w : World) → Lawful r w → Joint r k w → Alive r w → AllPasts (Inv r k) w → (s : ℕ) (j : Item) → stored r w s j ≡ offline_over w s (rows_of all (owned w s)) j
  rows_always [] l jt al inv s j = none all
    where
      none : (cs : List Cert) → None ≡ rows_of cs (λ g. false) j
      none [] = refl
      none (c ∷ cs) = none cs
  rows_always (Does i d ∷ w) l jt al inv s j = go (eqb i.server s) refl (rows_always w l.1 jt.1 al.1 inv.1)
    where
      go : (b : Bool) → eqb i.server s ≡ b → ((t : ℕ) (x : Item) → stored r w t x ≡ offline_over w t (rows_of all (owned w t)) x) → stored r (Does i d ∷ w) s j ≡ offline_over w s (rows_of all (owned (Does i d ∷ w) s)) j
      go false e rec =
          subst (λ (b : Bool). cond b (stored_did r (life w i) d (stored r w s) j) (stored r w s j) ≡ offline_over w s (rows_of all (λ g. (b && adds d g) || owned w s g)) j) (sym e) (rec s j)
      go true e rec =
          let q : i.server ≡ s = eqb-true i.server s e in
          let x = rows_step_did i d w l.0 l.1 al.0 jt.1 al.1 (AllPasts-here (Inv r k) w inv.1) j (rec i.server) in
          let y : stored_did r (life w i) d (stored r w s) j ≡ offline_over w s (rows_of all (λ g. adds d g || owned w s g)) j =
          subst (λ (t : ℕ). stored_did r (life w i) d (stored r w t) j ≡ offline_over w t (rows_of all (λ g. adds d g || owned w t g)) j) q x in
          subst (λ (b : Bool). cond b (stored_did r (life w i) d (stored r w s) j) (stored r w s j) ≡ offline_over w s (rows_of all (λ g. (b && adds d g) || owned w s g)) j) (sym e) y
  rows_always (Writes t g y x ∷ w) l jt al inv s j = go (eqb t s) refl (rows_always w l jt.1 al inv.1 s j)
    where
      i0 : Inv r k w
      i0 = AllPasts-here (Inv r k) w inv.1

      other : (c : Cert) → Mem c all → gtid_eq g c.gtid ≡ false
      other c m = false_from_ne_true (gtid_eq g c.gtid) (λ e. both_ways (bytes_eq g.source r.limits.group) jt.0 (ap (λ (u : Gtid). bytes_eq u.source r.limits.group) (gtid_eq_same g c.gtid e) ∙ source_is c m))

      same_rows : rows_of all (owned w s) j ≡ rows_of all (Ext g (owned w s)) j
      same_rows =
          rows_agree all (owned w s) (Ext g (owned w s)) j
          (λ c m z. covers_owned w l jt.1 i0 s c m z)
          (λ c m z. covers_owned w l jt.1 i0 s c m (drop-first (gtid_eq g c.gtid) (owned w s c.gtid) (other c m) z))
          (λ c m z. (let n : gtid_eq g c.gtid ≡ false = other c m in rw n refl))
        where
          drop-first : (a b : Bool) → a ≡ false → (a || b) ≡ true → b ≡ true
          drop-first a b e h = subst (λ (u : Bool). (u || b) ≡ true) e h

      go : (b : Bool) → eqb t s ≡ b → stored r w s j ≡ offline_over w s (rows_of all (owned w s)) j → stored r (Writes t g y x ∷ w) s j ≡ offline_over (Writes t g y x ∷ w) s (rows_of all (owned (Writes t g y x ∷ w) s)) j
      go false e rec = subst (λ (b : Bool). cond b (put y (Some x) (stored r w s) j) (stored r w s j) ≡ cond b (put y (Some x) (offline_over w s (rows_of all (λ h. (b && gtid_eq g h) || owned w s h))) j) (offline_over w s (rows_of all (λ h. (b && gtid_eq g h) || owned w s h)) j)) (sym e) rec
      go true e rec =
          let z : stored r w s j ≡ offline_over w s (rows_of all (Ext g (owned w s))) j = rec ∙ offline_at w s (rows_of all (owned w s)) (rows_of all (Ext g (owned w s))) j same_rows in
          let u : put y (Some x) (stored r w s) j ≡ put y (Some x) (offline_over w s (rows_of all (Ext g (owned w s)))) j = put_at y (Some x) (stored r w s) (offline_over w s (rows_of all (Ext g (owned w s)))) j z in
          subst (λ (b : Bool). cond b (put y (Some x) (stored r w s) j) (stored r w s j) ≡ cond b (put y (Some x) (offline_over w s (rows_of all (λ h. (b && gtid_eq g h) || owned w s h))) j) (offline_over w s (rows_of all (λ h. (b && gtid_eq g h) || owned w s h)) j)) (sym e) u
