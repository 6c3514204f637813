-- The invariant of every run, by one induction on what happened.
use Rattle.std.proofs.Common.{◌≡◌, ◌⊎◌, inl, inr, ℕ, suc, ◌<◌, List, [], ◌∷◌, length, Bool, true, false, cond, ◌&&◌, ◌||◌, refl, sym, ◌∙◌, ap, subst, arith, eqb, eqb-true}
use Rattle.std.specs.List.{list_any}
use Rattle.std.proofs.lemmas.Bool.{false≢true, or_cases, or_right, both_ways}
use Rattle.group_rules.specs.Events.{Setup}
use Rattle.group_laws.specs.Lists.{Mem, IsPast, AllPasts}
use Rattle.group_laws.specs.Names.{Inc, inc_eq, bytes_eq, Gtid, gtid_eq, Gtids, has, Item, item_eq}
use Rattle.group_laws.specs.Entries.{Body, Write, Value, Placed, Cert, values, cert_of, certified, as_made, unplaced}
use Rattle.group_laws.specs.Verdict.{writes, shares, scan_outcome, kept_outcome, scan}
use Rattle.group_laws.specs.Fresh.{Fresh}
use Rattle.group_laws.specs.Life.{Did, Started, Given, Made, Took, Committed, Life, marked, taken, executed, is_give, founder, ready}
use Rattle.group_laws.specs.Lawful.{LawfulBody, LawfulTook, LawfulCommit, LawfulDid}
use Rattle.group_laws.specs.World.{Happening, Does, Writes, World, life, adds, owned, Lawful, MadeBy, JointDid, Joint, IsKeptList, Founding, IsRun}
use Rattle.group_laws.specs.Laws.{FreshList, Common, Closed}
use Rattle.group_laws.proofs.Lists.{any_mem, any_from, IsPast-nil, IsPast-tail, IsPast-trans, IsPast-mem, AllPasts-here}
use Rattle.node_rules.proofs.Incs.{inc_is}
use Rattle.group_laws.proofs.Names.{gtid_eq_same, bytes_eq_itself, item_eq_same}
use Rattle.group_laws.proofs.Certs.{cons_keeps}
use Rattle.group_laws.proofs.KeptIsScan.{kept_is_scan}
use Rattle.group_laws.proofs.Scans.{scan_past, certified_mono, certified_back, positive_has, gtids_distinct, cert_source, cert_value, scan_place}
use Rattle.group_laws.proofs.Lives.{executed_mono}
use Rattle.group_laws.proofs.Worlds.{life_past, lawful_life, executed_owned, made_is}
use Rattle.group_laws.proofs.Freshness.{Inv, fresh_here}

-- ---- closed sets

-- the set with one more
abbrev pub Ext : Gtid → (Gtid → Bool) → Gtid → Bool
Ext g e h = gtid_eq g h || e h

pub closed_one_more : (r : Setup) (k : List Value) → Founding r → (e : Gtid → Bool) (c0 : Cert) → Closed r k e → Mem c0 (certified r (scan r k)) → ((c : Cert) → Mem c (certified r (scan r k)) → c.place < c0.place → Common c c0 → e c.gtid ≡ true) → Closed r k (Ext c0.gtid e)
closed_one_more r k f e c0 cl i0 h c d i j lt cm t = go (or_cases (gtid_eq c0.gtid d.gtid) (e d.gtid) t)
  where
    go : (gtid_eq c0.gtid d.gtid ≡ true) ⊎ (e d.gtid ≡ true) → (gtid_eq c0.gtid c.gtid || e c.gtid) ≡ true
    go (inl q) =
        let s : d ≡ c0 = sym (gtids_distinct r f.block k c0 d i0 j (gtid_eq_same c0.gtid d.gtid q)) in
        let lt2 : c.place < c0.place = subst (λ (y : Cert). c.place < y.place) s lt in
        or_right (gtid_eq c0.gtid c.gtid) (e c.gtid) (h c i lt2 (subst (λ (y : Cert). Common c y) s cm))
    go (inr q) = or_right (gtid_eq c0.gtid c.gtid) (e c.gtid) (cl c d i j lt cm q)

-- an offline write is no GTID of the group
pub closed_offline : (r : Setup) (k : List Value) (e : Gtid → Bool) (g : Gtid) → bytes_eq g.source r.limits.group ≡ false → Closed r k e → Closed r k (Ext g e)
closed_offline r k e g ne cl c d i j lt cm t = go (or_cases (gtid_eq g d.gtid) (e d.gtid) t)
  where
    go : (gtid_eq g d.gtid ≡ true) ⊎ (e d.gtid ≡ true) → (gtid_eq g c.gtid || e c.gtid) ≡ true
    go (inl q) =
        let s : g.source ≡ r.limits.group = ap (λ (y : Gtid). y.source) (gtid_eq_same g d.gtid q) ∙ cert_source r k d j in
        let b : bytes_eq g.source r.limits.group ≡ true = ap (λ y. bytes_eq y r.limits.group) s ∙ bytes_eq_itself r.limits.group in
        absurd (both_ways (bytes_eq g.source r.limits.group) ne b)
    go (inr q) = or_right (gtid_eq g c.gtid) (e c.gtid) (cl c d i j lt cm q)

pub common_shares : (c d : Cert) → Common c d → shares d.txn c ≡ true
common_shares c d cm =
    let x = any_mem (item_eq cm.item) d.txn.items cm.second in
    let e : cm.item ≡ x.0 = item_eq_same cm.item x.0 x.2 in
    any_from (writes c) d.txn.items x.0 x.1 (subst (λ y. writes c y ≡ true) e cm.first)

-- where a transaction is committed, all earlier ones that write an item of it are
pub commit_closed : (r : Setup) (k : List Value) (w : World) (m : Inc) (g : Gtid) → Lawful r w → Inv r k w → (lc : LawfulCommit r m (life w m) g) → (c : Cert) → Mem c (certified r (scan r k)) → c.place < lc.cert.place → Common c lc.cert → executed (life w m) c.gtid ≡ true
commit_closed r k w m g l inv lc c i lt cm = go lc.order
  where
    p : List Value
    p = taken (life w m)

    sm : marked (life w m) ≡ scan r p
    sm = inv.same m

    c0-in : Mem lc.cert (certified r (scan r p))
    c0-in = subst (λ (y : List Placed). Mem lc.cert (certified r y)) sm lc.here

    c-in : Mem c (certified r (scan r p))
    c-in = let a = scan_place r p lc.cert c0-in in certified_back r p k c (inv.past m) i (omega (arith, a, lt))

    go : (lc.cert.origin ≡ m) ⊎ ((d : Cert) → Mem d (certified r (marked (life w m))) → d.place < lc.cert.place → executed (life w m) d.gtid ≡ true) → executed (life w m) c.gtid ≡ true
    go (inr all) = all c (subst (λ (y : List Placed). Mem c (certified r y)) (sym sm) c-in) lt
    go (inl o) =
        let h = positive_has r p lc.cert c c0-in c-in lt (common_shares c lc.cert cm) in
        let cv = cert_value r p lc.cert c0-in in
        let mb = inv.made m cv.value cv.there in
        let lm = made_is r w mb.0 cv.value l mb.1 in
        let lb : LawfulBody r cv.value.origin (life mb.0 cv.value.origin) (Write lc.cert.txn) = subst (λ (y : Body). LawfulBody r cv.value.origin (life mb.0 cv.value.origin) y) (ap unplaced cv.body) lm.body in
        let e1 : executed (life mb.0 cv.value.origin) c.gtid ≡ true = sym (lb.0 c.gtid) ∙ h in
        let vo : cv.value.origin ≡ m = cv.origin ∙ o in
        let e2 : executed (life mb.0 m) c.gtid ≡ true = subst (λ (y : Inc). executed (life mb.0 y) c.gtid ≡ true) vo e1 in
        let pm = life_past mb.0 w m (IsPast-tail (Does cv.value.origin (Made (as_made cv.value))) mb.0 w mb.1) in
        executed_mono r m (life mb.0 m) (life w m) c.gtid (lawful_life r w m l) pm e2

-- ---- lists that are taken

pub record ListOk (r : Setup) (k : List Value) (w : World) (l : List Placed) : Type 0 where
  pub same : l ≡ scan r (values l)
  pub past : IsPast (values l) k
  pub made : (v : Value) → Mem v (values l) → MadeBy w v
  pub fresh : FreshList r (values l)

pub fresh_past : (r : Setup) (p k : List Value) → IsPast p k → FreshList r k → FreshList r p
fresh_past r p [] h l = let e : p ≡ [] = h in subst (λ (x : List Value). FreshList r x) (sym e) l
fresh_past r p (v ∷ k) (inl e) l = subst (λ (x : List Value). FreshList r x) (sym e) l
fresh_past r p (v ∷ k) (inr h) l = fresh_past r p k h l.1

pub took_ok : (r : Setup) (k : List Value) → IsKeptList r k → (w : World) (m : Inc) (e : Placed) → Lawful r w → AllPasts (Inv r k) w → ListOk r k w (marked (life w m)) → LawfulTook r m (life w m) e → IsPast (e.value ∷ values (marked (life w m))) k → MadeBy w e.value → ListOk r k w (e ∷ marked (life w m))
took_ok r k kept w m e l inv ok lt pk mb =
    record {
      same = λ i. record { value = e.value; outcome = out i } ∷ ok.same i;
      past = pk;
      made = λ v i. made v i;
      fresh = (fr, ok.fresh);
    }
  where
    fr : Fresh r (scan r (values (marked (life w m)))) e.value
    fr = fresh_here r k kept w l inv (values (marked (life w m))) e.value pk mb.0 mb.1 ok.made

    out : e.outcome ≡ scan_outcome r (scan r (values (marked (life w m)))) e.value
    out = lt.outcome ∙ ap (λ (y : List Placed). kept_outcome r y e.value) ok.same ∙ kept_is_scan r (scan r (values (marked (life w m)))) e.value fr

    made : (v : Value) → Mem v (e.value ∷ values (marked (life w m))) → MadeBy w v
    made v (inl q) = subst (λ (y : Value). MadeBy w y) q mb
    made v (inr i) = ok.made v i

pub given_ok : (r : Setup) (k : List Value) (w : World) (base l : List Placed) → IsPast base l → ListOk r k w l → ListOk r k w base
given_ok r k w base l h ok =
    let h2 : IsPast base (scan r (values l)) = subst (λ (y : List Placed). IsPast base y) ok.same h in
    let x = scan_past r base (values l) h2 in
    record {
      same = x.0;
      past = IsPast-trans (values base) (values l) k x.1 ok.past;
      made = λ v i. ok.made v (IsPast-mem (values base) (values l) v x.1 i);
      fresh = fresh_past r (values base) (values l) x.1 ok.fresh;
    }

pub list_more : (r : Setup) (k : List Value) (x : Happening) (w : World) (l : List Placed) → ListOk r k w l → ListOk r k (x ∷ w) l
list_more r k x w l ok = record { same = ok.same; past = ok.past; made = λ v i. (let y = ok.made v i in (y.0, inr y.1)); fresh = ok.fresh }

-- ---- one step

module _ (r : Setup) (k : List Value) (f : Founding r) (kept : IsKeptList r k) (i : Inc) (d : Did) (w : World) (ld : LawfulDid r i (life w i) d) (l : Lawful r w) (jd : JointDid k w i d) (jw : Joint r k w) (all : AllPasts (Inv r k) w) where
  inv : Inv r k w
  inv = AllPasts-here (Inv r k) w all

  old_list : (m : Inc) → ListOk r k w (marked (life w m))
  old_list m = record { same = inv.same m; past = inv.past m; made = inv.made m; fresh = inv.fresh m }

  did_list : (c : Did) → LawfulDid r i (life w i) c → JointDid k w i c → ListOk r k w (marked (c ∷ life w i))
  did_list (Took e) q o = took_ok r k kept w i e l all (old_list i) q o.0 o.1
  did_list (Given base) q o = given_ok r k w base (marked (life w o.0)) o.1 (old_list o.0)
  did_list _ q o = old_list i

  new_list : (m : Inc) → ListOk r k (Does i d ∷ w) (marked (life (Does i d ∷ w) m))
  new_list m = go (inc_eq i m) refl
    where
      go : (b : Bool) → inc_eq i m ≡ b → ListOk r k (Does i d ∷ w) (marked (life (Does i d ∷ w) m))
      go false e = rw e (list_more r k (Does i d) w (marked (life w m)) (old_list m))
      go true e =
          let q : i ≡ m = inc_is i m e in
          let ok : ListOk r k w (marked (d ∷ life w m)) = subst (λ (y : Inc). ListOk r k w (marked (d ∷ life w y))) q (did_list d ld jd) in
          rw e (list_more r k (Does i d) w (marked (d ∷ life w m)) ok)

  -- what a commit adds keeps a set closed that has what the incarnation had
  commit_ok : (g : Gtid) → LawfulCommit r i (life w i) g → (e : Gtid → Bool) → Closed r k e → ((h : Gtid) → executed (life w i) h ≡ true → e h ≡ true) → Closed r k (Ext g e)
  commit_ok g q e cl sub =
      let j : Mem q.cert (certified r (scan r (taken (life w i)))) = subst (λ (y : List Placed). Mem q.cert (certified r y)) (inv.same i) q.here in
      let i2 = certified_mono r (taken (life w i)) k q.cert (inv.past i) j in
      let c1 : Closed r k (Ext q.cert.gtid e) = closed_one_more r k f e q.cert cl i2 (λ c x lt cm. sub c.gtid (commit_closed r k w i g l inv q c x lt cm)) in
      subst (λ (y : Gtid). Closed r k (Ext y e)) q.is_it c1

  did_owned : (c : Did) → LawfulDid r i (life w i) c → Closed r k (λ g. adds c g || owned w i.server g)
  did_owned (Committed g) q = commit_ok g q (owned w i.server) (inv.closed_owned i.server) (λ h. executed_owned r k w i h jw)
  did_owned _ q = inv.closed_owned i.server

  new_owned : (s : ℕ) → Closed r k (owned (Does i d ∷ w) s)
  new_owned s = go (eqb i.server s) refl
    where
      go : (b : Bool) → eqb i.server s ≡ b → Closed r k (owned (Does i d ∷ w) s)
      go false e = let P : Bool → Type 0 = λ v. Closed r k (λ g. (v && adds d g) || owned w s g) in subst P (sym e) (inv.closed_owned s)
      go true e =
          let q : i.server ≡ s = eqb-true i.server s e in
          let c : Closed r k (λ g. adds d g || owned w s g) = subst (λ (y : ℕ). Closed r k (λ g. adds d g || owned w y g)) q (did_owned d ld) in
          let P : Bool → Type 0 = λ v. Closed r k (λ g. (v && adds d g) || owned w s g) in subst P (sym e) c

  started_closed : (s : Gtids) → ((g : Gtid) → has s g ≡ owned w i.server g) → Closed r k (has s)
  started_closed s same a b x y lt cm t = same a.gtid ∙ inv.closed_owned i.server a b x y lt cm (sym (same b.gtid) ∙ t)

  did_executed : (c : Did) → LawfulDid r i (life w i) c → JointDid k w i c → Closed r k (executed (c ∷ life w i))
  did_executed (Started s) q o = started_closed s o
  did_executed (Committed g) q o = commit_ok g q (executed (life w i)) (inv.closed_executed i) (λ h e. e)
  did_executed _ q o = inv.closed_executed i

  new_executed : (m : Inc) → Closed r k (executed (life (Does i d ∷ w) m))
  new_executed m = go (inc_eq i m) refl
    where
      go : (b : Bool) → inc_eq i m ≡ b → Closed r k (executed (life (Does i d ∷ w) m))
      go false e = subst (λ (v : Bool). Closed r k (executed (cond v (d ∷ life w m) (life w m)))) (sym e) (inv.closed_executed m)
      go true e =
          let q : i ≡ m = inc_is i m e in
          let c : Closed r k (executed (d ∷ life w m)) = subst (λ (y : Inc). Closed r k (executed (d ∷ life w y))) q (did_executed d ld jd) in
          subst (λ (v : Bool). Closed r k (executed (cond v (d ∷ life w m) (life w m)))) (sym e) c

  did_within : (c : Did) → LawfulDid r i (life w i) c → ready r i (c ∷ life w i) ≡ true → (g : Gtid) → executed (c ∷ life w i) g ≡ true → (x : Cert) × Mem x (certified r (marked (c ∷ life w i))) × (x.gtid ≡ g)
  did_within (Started s) q h g e = absurd (both_ways (ready r i (Started s ∷ life w i)) not-ready h)
    where
      not-ready : (founder r i || list_any is_give (life w i)) ≡ false
      not-ready = rw (q.0, q.1) refl
  did_within (Given base) q h g e = q.no_extra g e
  did_within (Took t) q h g e =
      let y = inv.within i q.is_ready g e in
      (y.0, cons_keeps (cert_of r (suc (length (marked (life w i)))) t) (certified r (marked (life w i))) y.0 y.1, y.2)
  did_within (Committed c) q h g e = go (or_cases (gtid_eq c g) (executed (life w i) g) e)
    where
      go : (gtid_eq c g ≡ true) ⊎ (executed (life w i) g ≡ true) → (x : Cert) × Mem x (certified r (marked (life w i))) × (x.gtid ≡ g)
      go (inl s) = (q.cert, q.here, q.is_it ∙ gtid_eq_same c g s)
      go (inr s) = inv.within i h g s
  did_within _ q h g e = inv.within i h g e

  new_within : (m : Inc) → ready r m (life (Does i d ∷ w) m) ≡ true → (g : Gtid) → executed (life (Does i d ∷ w) m) g ≡ true → (c : Cert) × Mem c (certified r (marked (life (Does i d ∷ w) m))) × (c.gtid ≡ g)
  new_within m = go (inc_eq i m) refl
    where
      Q : Life → Type 0
      Q x = ready r m x ≡ true → (g : Gtid) → executed x g ≡ true → (c : Cert) × Mem c (certified r (marked x)) × (c.gtid ≡ g)

      go : (b : Bool) → inc_eq i m ≡ b → ready r m (life (Does i d ∷ w) m) ≡ true → (g : Gtid) → executed (life (Does i d ∷ w) m) g ≡ true → (c : Cert) × Mem c (certified r (marked (life (Does i d ∷ w) m))) × (c.gtid ≡ g)
      go false e = subst (λ (v : Bool). (ready r m (cond v (d ∷ life w m) (life w m)) ≡ true → (g : Gtid) → executed (cond v (d ∷ life w m) (life w m)) g ≡ true → (c : Cert) × Mem c (certified r (marked (cond v (d ∷ life w m) (life w m)))) × (c.gtid ≡ g))) (sym e) (inv.within m)
      go true e =
          let q : i ≡ m = inc_is i m e in
          let y : ready r m (d ∷ life w m) ≡ true → (g : Gtid) → executed (d ∷ life w m) g ≡ true → (c : Cert) × Mem c (certified r (marked (d ∷ life w m))) × (c.gtid ≡ g) =
          subst (λ (y : Inc). ready r y (d ∷ life w y) ≡ true → (g : Gtid) → executed (d ∷ life w y) g ≡ true → (c : Cert) × Mem c (certified r (marked (d ∷ life w y))) × (c.gtid ≡ g)) q (did_within d ld) in
          subst (λ (v : Bool). (ready r m (cond v (d ∷ life w m) (life w m)) ≡ true → (g : Gtid) → executed (cond v (d ∷ life w m) (life w m)) g ≡ true → (c : Cert) × Mem c (certified r (marked (cond v (d ∷ life w m) (life w m)))) × (c.gtid ≡ g))) (sym e) y

  pub step : Inv r k (Does i d ∷ w)
  step = record {
    same = λ m. (new_list m).same;
    past = λ m. (new_list m).past;
    made = λ m. (new_list m).made;
    fresh = λ m. (new_list m).fresh;
    closed_owned = new_owned;
    closed_executed = new_executed;
    within = new_within;
  }

pub step_write : (r : Setup) (k : List Value) (s : ℕ) (g : Gtid) (y : Item) (x : List ℕ) (w : World) → bytes_eq g.source r.limits.group ≡ false → Inv r k w → Inv r k (Writes s g y x ∷ w)
step_write r k s g y x w ne inv =
    record {
      same = inv.same;
      past = inv.past;
      made = λ m v j. (let z = inv.made m v j in (z.0, inr z.1));
      fresh = inv.fresh;
      closed_owned = owns;
      closed_executed = inv.closed_executed;
      within = inv.within;
    }
  where
    owns : (t : ℕ) → Closed r k (owned (Writes s g y x ∷ w) t)
    owns t = go (eqb s t) refl
      where
        go : (b : Bool) → eqb s t ≡ b → Closed r k (owned (Writes s g y x ∷ w) t)
        go false e = let P : Bool → Type 0 = λ v. Closed r k (λ h. (v && gtid_eq g h) || owned w t h) in subst P (sym e) (inv.closed_owned t)
        go true e = let P : Bool → Type 0 = λ v. Closed r k (λ h. (v && gtid_eq g h) || owned w t h) in subst P (sym e) (closed_offline r k (owned w t) g ne (inv.closed_owned t))

pub empty : (r : Setup) (k : List Value) → Inv r k []
empty r k = record {
  same = λ m. refl;
  past = λ m. IsPast-nil k;
  made = λ m v i. absurd i;
  fresh = λ m. tt;
  closed_owned = λ s c d i j lt cm t. absurd (false≢true t);
  closed_executed = λ m c d i j lt cm t. absurd (false≢true t);
  within = λ m h g t. absurd (false≢true t);
}

pub holds_always : (r : Setup) (k : List Value) → Founding r → IsKeptList r k → (w : World) → Lawful r w → Joint r k w → AllPasts (Inv r k) w
holds_always r k f kept [] l o = empty r k
holds_always r k f kept (Does i d ∷ w) l o =
    let a = holds_always r k f kept w l.1 o.1 in
    (step r k f kept i d w l.0 l.1 o.0 o.1 a, a)
holds_always r k f kept (Writes s g y x ∷ w) l o =
    let a = holds_always r k f kept w l o.1 in
    (step_write r k s g y x w o.0 (AllPasts-here (Inv r k) w a), a)

pub invs : (r : Setup) (k : List Value) (w : World) → IsRun r k w → AllPasts (Inv r k) w
invs r k w h = holds_always r k h.founding h.kept w h.lawful h.joint

pub run_holds : (r : Setup) (k : List Value) (w : World) → IsRun r k w → Inv r k w
run_holds r k w h = AllPasts-here (Inv r k) w (invs r k w h)
