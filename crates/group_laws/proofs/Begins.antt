-- The laws that follow from the invariant, but for AFTER.
use Rattle.std.proofs.Common.{◌≡◌, inl, inr, suc, ◌≤◌, ◌<◌, List, [], ◌∷◌, length, Some, true, false, sym, ◌∙◌, ap, subst, arith}
use Rattle.group_rules.specs.Events.{Setup}
use Rattle.group_rules.specs.Holds.{has_sync, is_eventual}
use Rattle.group_laws.specs.Lists.{Mem, IsPast}
use Rattle.group_laws.specs.Names.{Inc, Level}
use Rattle.group_laws.specs.Entries.{Value, Placed, Cert, certified}
use Rattle.group_laws.specs.Verdict.{scan}
use Rattle.group_laws.specs.Primary.{view}
use Rattle.group_laws.specs.Life.{Called, Begun, marked, taken, executed, online, last_made, Call}
use Rattle.group_laws.specs.Lawful.{Synced, Holds}
use Rattle.group_laws.specs.World.{Does, World, life, Lawful, IsRun}
use Rattle.group_laws.specs.Laws.{AllFresh, SameVerdicts, WasBegun, ReadsBefore}
use Rattle.group_laws.proofs.Primaries.{elected_place}
use Rattle.group_laws.proofs.Lists.{IsPast-tail, IsPast-trans, IsPast-length, past_before, AllPasts-at}
use Rattle.group_laws.proofs.Scans.{certified_mono, certified_back, scan_place}
use Rattle.group_laws.proofs.Worlds.{lawful_past, made_number}
use Rattle.group_laws.proofs.Freshness.{Inv}
use Rattle.group_laws.proofs.Law.{invs, run_holds}

pub scan_mono : (r : Setup) (p k : List Value) → IsPast p k → IsPast (scan r p) (scan r k)
scan_mono r p [] h = let e : p ≡ [] = h in ap (scan r) e
scan_mono r p (v ∷ k) (inl e) = inl (ap (scan r) e)
scan_mono r p (v ∷ k) (inr h) = inr (scan_mono r p k h)

pub all_fresh : (r : Setup) (k : List Value) (w : World) → IsRun r k w → AllFresh r w
all_fresh r k w h m = (run_holds r k w h).fresh m

pub same_verdicts : (r : Setup) (k : List Value) (w : World) → IsRun r k w → SameVerdicts r k w
same_verdicts r k w h m =
    let inv = run_holds r k w h in
    subst (λ (y : List Placed). IsPast y (scan r k)) (sym (inv.same m)) (scan_mono r (taken (life w m)) k (inv.past m))

module _ (r : Setup) (k : List Value) (w : World) (run : IsRun r k w) where
  pub inv_at : (a : World) → IsPast a w → Inv r k a
  inv_at a h = AllPasts-at (Inv r k) a w (invs r k w run) h

  -- what an incarnation has taken, as certified transactions of the whole list
  pub here_from : (a : World) → IsPast a w → (m : Inc) (d : Cert) → Mem d (certified r (scan r k)) → d.place ≤ length (taken (life a m)) → Mem d (certified r (marked (life a m)))
  here_from a h m d i l =
      let inv = inv_at a h in
      let j = certified_back r (taken (life a m)) k d (inv.past m) i l in
      subst (λ (y : List Placed). Mem d (certified r y)) (sym (inv.same m)) j

  pub to_all : (a : World) → IsPast a w → (m : Inc) (d : Cert) → Mem d (certified r (marked (life a m))) → Mem d (certified r (scan r k)) × (d.place ≤ length (taken (life a m)))
  to_all a h m d i =
      let inv = inv_at a h in
      let j : Mem d (certified r (scan r (taken (life a m)))) = subst (λ (y : List Placed). Mem d (certified r y)) (inv.same m) i in
      (certified_mono r (taken (life a m)) k d (inv.past m) j, scan_place r (taken (life a m)) d j)

  pub begun_past : (m : Inc) (b c : World) (level : Level) → WasBegun w m b c level → IsPast b w
  begun_past m b c level h = IsPast-tail (Does m (Begun h.session)) b w h.mark

  pub called_past : (m : Inc) (b c : World) (level : Level) → WasBegun w m b c level → IsPast c w
  called_past m b c level h = IsPast-trans c b w (IsPast-tail (Does m (Called h.session level h.sync)) c b h.call) (begun_past m b c level h)

  pub holds_at : (m : Inc) (b c : World) (level : Level) (h : WasBegun w m b c level) → Holds r (life b m) m (record { level = level; sync = h.sync; past = life c m })
  holds_at m b c level h =
      let lb = (lawful_past r (Does m (Begun h.session) ∷ b) w h.mark run.lawful).0 in
      let e : Some lb.0 ≡ Some (record { level = level; sync = h.sync; past = life c m }) = sym lb.1 ∙ h.last in
      let q : lb.0 ≡ record { level = level; sync = h.sync; past = life c m } = cc e in
      subst (λ (y : Call). Holds r (life b m) m y) q lb.2

  -- ---- BEFORE
  pub before_law : (m : Inc) (b c : World) (level : Level) (h : WasBegun w m b c level) → has_sync level ≡ true → ReadsBefore r k m b c h.sync
  before_law m b c level h sy = record { sync = v; front = q; placed = placed; origin = sd.origin; number = sd.number; new = new; reads = reads }
    where
      pb : IsPast b w
      pb = begun_past m b c level h

      lb : Lawful r b
      lb = lawful_past r b w pb run.lawful

      sd : Synced r (life b m) m (record { level = level; sync = h.sync; past = life c m })
      sd = (holds_at m b c level h).before sy

      v : Value
      v = sd.value

      q : List Value
      q = sd.front

      placed : IsPast (v ∷ q) k
      placed = IsPast-trans (v ∷ q) (taken (life b m)) k sd.there ((inv_at b pb).past m)

      reads : (d : Cert) → Mem d (certified r (scan r k)) → d.place ≤ length q → executed (life b m) d.gtid ≡ true
      reads d i l =
          let n = IsPast-length (v ∷ q) (taken (life b m)) sd.there in
          sd.all d (here_from b pb m d i (omega (arith, n, l))) l

      pc : IsPast c w
      pc = called_past m b c level h

      lc : Lawful r c
      lc = lawful_past r c w pc run.lawful

      next : h.sync ≡ suc (last_made (life c m))
      next = (lawful_past r (Does m (Called h.session level h.sync) ∷ c) b h.call lb).0 sy

      -- a member that had the Sync at the call would have taken it before it was made
      not_yet : (o : Inc) → Mem v (taken (life c o)) → ⊥
      not_yet o i =
          let mb = (inv_at c pc).made o v i in
          let n = made_number r c mb.0 v lc mb.1 in
          let e : last_made (life c v.origin) ≡ last_made (life c m) = ap (λ (y : Inc). last_made (life c y)) sd.origin in
          let z = sd.number in
          omega (arith, n, e, z, next)

      new : (other : Inc) → length (taken (life c other)) ≤ length q
      new other =
          IsPast-length (taken (life c other)) q (past_before v q (taken (life c other)) k placed ((inv_at c pc).past other) (not_yet other))

  -- ---- a new primary
  pub failover_law : (m : Inc) (b c : World) (level : Level) → WasBegun w m b c level → online r m (life c m) ≡ true → is_eventual level ≡ false → (view r (taken (life c m))).primary ≡ Some m → (d : Cert) → Mem d (certified r (scan r k)) → d.place < (view r (taken (life c m))).elected → executed (life b m) d.gtid ≡ true
  failover_law m b c level h o ev pr d i l =
      let n = elected_place r (taken (life c m)) in
      let j = here_from c (called_past m b c level h) m d i (omega (arith, l, n)) in
      (holds_at m b c level h).primary o ev pr d j l
