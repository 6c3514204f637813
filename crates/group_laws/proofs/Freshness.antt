-- What is made by the rules is fresh at its place.
use Rattle.std.proofs.Common.{◌≡◌, ℕ, suc, ◌≤◌, ◌<◌, List, ◌∷◌, Some, true, not, sym, ◌∙◌, ap, subst, arith, refl}
use Rattle.std.specs.List.{list_any}
use Rattle.std.proofs.lemmas.Bool.{and_parts}
use Rattle.group_rules.specs.Events.{Setup}
use Rattle.group_laws.specs.Lists.{Mem, IsPast, AllPasts}
use Rattle.group_laws.specs.Names.{Inc, Gtid, Gtids, has, Txn}
use Rattle.group_laws.specs.Entries.{Body, Write, Executed, Online, Joins, Leaves, Prepared, Switches, Appoints, Plain, Value, Placed, Cert, values, certified, as_made, unplaced}
use Rattle.group_laws.specs.View.{active, member, before_online, set_told, last_kept}
use Rattle.group_laws.specs.Verdict.{scan}
use Rattle.group_laws.specs.Fresh.{Tells, Meet, FreshTxn, FreshBody, Fresh}
use Rattle.group_laws.specs.Life.{Made, Called, Begun, Life, marked, taken, executed, is_fall, ready, Call, last_call, last_begun}
use Rattle.group_laws.specs.Lawful.{IsNow, InSession, Holds, LawfulBody, LawfulLife}
use Rattle.group_laws.specs.World.{Does, World, life, owned, Lawful, MadeAt, MadeBy, IsKeptList}
use Rattle.group_laws.specs.Laws.{FreshList, Closed}
use Rattle.group_laws.proofs.Lists.{IsPast-self, IsPast-tail, IsPast-trans, past_before, AllPasts-at}
use Rattle.group_laws.proofs.Views.{before_online_le, active_still, online_place}
use Rattle.group_laws.proofs.Scans.{values_scan, certified_mono, certified_back}
use Rattle.group_laws.proofs.Lives.{executed_mono, ready_mono, online_ready, call_mark, begun_mark}
use Rattle.group_laws.proofs.Lives as Lives
use Rattle.group_laws.proofs.Worlds.{life_past, lawful_past, lawful_life, within_run, made_is, not_made_before, made_before, kept_number, kept_past}

-- what holds of a run at each time
pub record Inv (r : Setup) (k : List Value) (w : World) : Type 0 where
  pub same : (m : Inc) → marked (life w m) ≡ scan r (taken (life w m))
  pub past : (m : Inc) → IsPast (taken (life w m)) k
  pub made : (m : Inc) (v : Value) → Mem v (taken (life w m)) → MadeBy w v
  pub fresh : (m : Inc) → FreshList r (taken (life w m))
  pub closed_owned : (s : ℕ) → Closed r k (owned w s)
  pub closed_executed : (m : Inc) → Closed r k (executed (life w m))
  pub within : (m : Inc) → ready r m (life w m) ≡ true → (g : Gtid) → executed (life w m) g ≡ true → (c : Cert) × Mem c (certified r (marked (life w m))) × (c.gtid ≡ g)

-- a begun session's conditions held
pub session_holds : (r : Setup) (m : Inc) (l b : Life) (s : ℕ) (c : Call) → LawfulLife r m l → last_begun l s ≡ Some b → last_call b s ≡ Some c → Holds r b m c
session_holds r m l b s c k h i =
    let lb = (Lives.lawful_past r m (Begun s ∷ b) l (begun_mark l s b h) k).0 in
    let e : Some lb.0 ≡ Some c = sym lb.1 ∙ i in
    let q : lb.0 ≡ c = cc e in
    subst (λ (y : Call). Holds r b m y) q lb.2

pub told_now : (r : Setup) (m : Inc) (l : Life) (b : Body) (s : Gtids) → LawfulBody r m l b → set_told b ≡ Some s → IsNow l s
told_now r m l (Executed t) s k h = let q : t ≡ s = cc h in subst (λ (y : Gtids). IsNow l y) q k
told_now r m l (Online t) s k h = let q : t ≡ s = cc h in subst (λ (y : Gtids). IsNow l y) q k
told_now r m l (Write t) s k h = absurd (cc h)
told_now r m l (Joins t) s k h = absurd (cc h)
told_now r m l (Leaves t) s k h = absurd (cc h)
told_now r m l (Prepared t) s k h = absurd (cc h)
told_now r m l (Switches t) s k h = absurd (cc h)
told_now r m l (Appoints t) s k h = absurd (cc h)
told_now r m l Plain s k h = absurd (cc h)

pub told_made : (b : Body) → set_told (unplaced b) ≡ set_told b
told_made (Write t) = refl
told_made (Executed s) = refl
told_made (Online s) = refl
told_made (Joins j) = refl
told_made (Leaves j) = refl
told_made (Prepared g) = refl
told_made (Switches x) = refl
told_made (Appoints x) = refl
told_made Plain = refl

-- ---- an own value at its place
module _ (r : Setup) (k : List Value) (kept : IsKeptList r k) (w : World) (l : Lawful r w) (inv : AllPasts (Inv r k) w) (p : List Value) (v : Value) (pk : IsPast (v ∷ p) k) (w1 : World) (mk : MadeAt w v w1) (pm : (x : Value) → Mem x p → MadeBy w x) where
  inv_at : (w0 : World) → IsPast w0 w1 → Inv r k w0
  inv_at w0 h = AllPasts-at (Inv r k) w0 w inv (IsPast-trans w0 w1 w h (IsPast-tail (Does v.origin (Made (as_made v))) w1 w mk))

  -- what an incarnation had taken when the value was made, or before, stands before the value's place
  pub taken_before : (w0 : World) → IsPast w0 w1 → (m : Inc) → IsPast (taken (life w0 m)) p
  taken_before w0 h m =
      past_before v p (taken (life w0 m)) k pk ((inv_at w0 h).past m)
      (λ i. not_made_before r w w1 v l mk w0 h ((inv_at w0 h).made m v i))

  fresh_write : (t : Txn) → LawfulBody r v.origin (life w1 v.origin) (Write t) → FreshTxn r (scan r p) v.origin t
  fresh_write t lb = record { told = told; before = before; closed = closed; within = within; online = rw (values_scan r p) on }
    where
      o : Inc
      o = v.origin

      l1 : Life
      l1 = life w1 o

      now : IsNow l1 t.snapshot
      now = lb.0

      ss : InSession r o l1
      ss = lb.1.0

      c : Call
      c = ss.call

      lw1 : Lawful r w1
      lw1 = (lawful_past r (Does v.origin (Made (as_made v)) ∷ w1) w mk l).1

      ll1 : LawfulLife r o l1
      ll1 = lawful_life r w1 o lw1

      pb : IsPast ss.begun l1
      pb = IsPast-tail (Begun ss.session) ss.begun l1 (begun_mark l1 ss.session ss.begun ss.is_begun)

      cm : IsPast (Called ss.session c.level c.sync ∷ c.past) l1
      cm = IsPast-trans (Called ss.session c.level c.sync ∷ c.past) ss.begun l1 (call_mark ss.begun ss.session c ss.is_call) pb

      -- the run at the begin call
      wc : World
      wc = (within_run w1 o (Called ss.session c.level c.sync) c.past cm).past

      wc-past : IsPast wc w1
      wc-past = IsPast-tail (Does o (Called ss.session c.level c.sync)) wc w1 (within_run w1 o (Called ss.session c.level c.sync) c.past cm).mark

      wc-life : life wc o ≡ c.past
      wc-life = (within_run w1 o (Called ss.session c.level c.sync) c.past cm).lived

      q : List Value
      q = taken c.past

      cp : IsPast q p
      cp = subst (λ (y : Life). IsPast (taken y) p) wc-life (taken_before wc wc-past o)

      called : active r q o ≡ true
      called = (and_parts (not (list_any is_fall c.past)) (active r q o) ss.was_online).1

      holds : Holds r ss.begun o c
      holds = session_holds r o l1 ss.begun ss.session c ll1 ss.is_begun ss.is_call

      kp : ((v.number ≡ suc (last_kept p v.origin)) × (member r p v.origin ≡ true)) × IsKeptList r p
      kp = kept_past r (v ∷ p) k pk kept

      on : active r p o ≡ true
      on = active_still r q p o cp called kp.0.1

      has_from : (g : Gtid) → executed l1 g ≡ true → has t.snapshot g ≡ true
      has_from g e = now g ∙ e

      told : (u : Value) (s : Gtids) → Mem u (values (scan r p)) → Tells u o s → (g : Gtid) → has s g ≡ true → has t.snapshot g ≡ true
      told u s i ts g e =
          let i2 : Mem u p = rw (values_scan r p) at i in
          let n1 = kept_number r p u kp.1 i2 in
          let n2 : last_kept p u.origin ≡ last_kept p v.origin = ap (last_kept p) ts.0 in
          let n3 : v.number ≡ suc (last_kept p v.origin) = kp.0.0 in
          let mb = made_before r w w1 u v l mk (pm u i2) ts.0 (omega (arith, n1, n2, n3)) in
          let lu = made_is r w1 mb.0 u lw1 mb.1 in
          let un : IsNow (life mb.0 u.origin) s = told_now r u.origin (life mb.0 u.origin) (unplaced u.body) s lu.body (told_made u.body ∙ ts.1) in
          let e2 : executed (life mb.0 u.origin) g ≡ true = sym (un g) ∙ e in
          let e3 : executed (life mb.0 o) g ≡ true = subst (λ (y : Inc). executed (life mb.0 y) g ≡ true) ts.0 e2 in
          let pu : IsPast (life mb.0 o) l1 = life_past mb.0 w1 o (IsPast-tail (Does u.origin (Made (as_made u))) mb.0 w1 mb.1) in
          has_from g (executed_mono r o (life mb.0 o) l1 g ll1 pu e3)

      before : (d : Cert) → Mem d (certified r (scan r p)) → d.place ≤ before_online r (values (scan r p)) o → has t.snapshot d.gtid ≡ true
      before d i h =
          let h2 : d.place ≤ before_online r p o = rw (values_scan r p) at h in
          let z : before_online r p o ≡ before_online r q o = online_place r q p o cp called on in
          let le = before_online_le r q o in
          let i2 = certified_back r q p d cp i (omega (arith, h2, z, le)) in
          let sm : scan r q ≡ marked c.past = subst (λ (y : Life). scan r (taken y) ≡ marked y) wc-life (sym ((inv_at wc wc-past).same o)) in
          let i3 : Mem d (certified r (marked c.past)) = subst (λ (y : List Placed). Mem d (certified r y)) sm i2 in
          let e = holds.joined ss.was_online d i3 (omega (arith, h2, z)) in
          has_from d.gtid (executed_mono r o ss.begun l1 d.gtid ll1 pb e)

      closed : (x y : Cert) → Mem x (certified r (scan r p)) → Mem y (certified r (scan r p)) → x.place < y.place → Meet t x y → has t.snapshot y.gtid ≡ true → has t.snapshot x.gtid ≡ true
      closed x y i j lt mt e =
          let pk2 : IsPast p k = IsPast-tail v p k pk in
          let e2 : executed l1 y.gtid ≡ true = sym (now y.gtid) ∙ e in
          has_from x.gtid
          ((inv_at w1 (IsPast-self w1)).closed_executed o x y (certified_mono r p k x pk2 i) (certified_mono r p k y pk2 j) lt (record { item = mt.item; first = mt.of_first; second = mt.of_second }) e2)

      within : (g : Gtid) → has t.snapshot g ≡ true → (d : Cert) × Mem d (certified r (scan r p)) × (d.gtid ≡ g)
      within g e =
          let e2 : executed l1 g ≡ true = sym (now g) ∙ e in
          let i1 = inv_at w1 (IsPast-self w1) in
          let lc : LawfulLife r o c.past = Lives.lawful_past r o c.past l1 (IsPast-tail (Called ss.session c.level c.sync) c.past l1 cm) ll1 in
          let rd = ready_mono r o c.past l1 (IsPast-tail (Called ss.session c.level c.sync) c.past l1 cm) (online_ready r o c.past lc ss.was_online) in
          let x = i1.within o rd g e2 in
          let m2 : Mem x.0 (certified r (scan r (taken l1))) = subst (λ (y : List Placed). Mem x.0 (certified r y)) (i1.same o) x.1 in
          (x.0, certified_mono r (taken l1) p x.0 (taken_before w1 (IsPast-self w1) o) m2, x.2)

  fresh_any : (b : Body) → LawfulBody r v.origin (life w1 v.origin) (unplaced b) → FreshBody r (scan r p) v.origin b
  fresh_any (Write t) lb = fresh_write t lb
  fresh_any (Executed s) lb = tt
  fresh_any (Online s) lb = tt
  fresh_any (Joins j) lb = tt
  fresh_any (Leaves j) lb = tt
  fresh_any (Prepared g) lb = tt
  fresh_any (Switches j) lb = tt
  fresh_any (Appoints j) lb = tt
  fresh_any Plain lb = tt

  pub fresh_here : Fresh r (scan r p) v
  fresh_here = fresh_any v.body (made_is r w w1 v l mk).body
