-- The rows of each server are those of what it has executed, and no change is refused.
use Rattle.std.proofs.Common.{◌≡◌, ◌⊎◌, inl, inr, ℕ, suc, ◌≤◌, ◌<◌, List, [], ◌∷◌, length, Option, Some, None, Bool, true, false, refl, sym, ◌∙◌, ap, subst, arith}
use Rattle.std.proofs.lemmas.Bool.{false_from_ne_true}
use Rattle.group_rules.specs.Events.{Setup}
use Rattle.group_laws.specs.Lists.{Mem, IsPast}
use Rattle.group_laws.specs.Names.{Inc, Gtid, Item, item_eq, Change}
use Rattle.group_laws.specs.Entries.{Body, Write, Value, Placed, Cert, certified, cons_some, as_made, unplaced}
use Rattle.group_laws.specs.Verdict.{writes, scan}
use Rattle.group_laws.specs.Table.{Fits, rows_of, NoneRefused}
use Rattle.group_laws.specs.Life.{Made, Life, marked, taken, executed}
use Rattle.group_laws.specs.Lawful.{LawfulBody, rows_now}
use Rattle.group_laws.specs.World.{Does, World, life, owned, Lawful, MadeBy, Joint, IsRun}
use Rattle.group_laws.specs.Laws.{RowLaw}
use Rattle.group_laws.proofs.Lists.{any_from, IsPast-self, IsPast-tail, IsPast-mem, IsPast-length, pasts_compare, AllPasts-at, AllPasts-here}
use Rattle.group_laws.proofs.Names.{item_eq_itself}
use Rattle.group_laws.proofs.Scans.{certified_mono, positive_has, gtids_distinct, scan_place, length_scan, head_cert, head_is, head_mem}
use Rattle.group_laws.proofs.Lives.{session_ready}
use Rattle.group_laws.proofs.Worlds.{lawful_past, lawful_life, joint_past, executed_owned, made_is}
use Rattle.group_laws.proofs.Freshness.{Inv, taken_before}
use Rattle.group_laws.proofs.Law.{invs}
use Rattle.group_laws.proofs.Tables.{rows_agree, rows_longer, fits_agree}
use Rattle.group_laws.proofs.ServerRows.{Known, runs_owned, owned_known, source_is, known_here, covers_owned, rows_always}
use Rattle.group_laws.proofs.Sessions.{fits_now}

module _ (r : Setup) (k : List Value) (w : World) (run : IsRun r k w) (s : ℕ) where
  has_it : Gtid → Bool
  has_it = owned w s

  inv : Inv r k w
  inv = AllPasts-here (Inv r k) w (invs r k w run)

  -- a transaction that the server has stands in a list that was taken
  stands_in : (v : Value) (p : List Value) → IsPast (v ∷ p) k → (c : Cert) → head_cert r v p ≡ Some c → owned w s c.gtid ≡ true → (m : Inc) × IsPast (v ∷ p) (taken (life w m))
  stands_in v p pk c hc o = (n.who, go (pasts_compare (v ∷ p) (taken (life w n.who)) k pk (inv.past n.who)))
    where
      c-in : Mem c (certified r (scan r k))
      c-in = certified_mono r (v ∷ p) k c pk (head_mem r v p c hc)

      n : Known r w c.gtid
      n = owned_known r k w s c.gtid run.lawful run.joint o (source_is r k run.founding c c-in)

      far : suc (length p) ≤ length (taken (life w n.who))
      far =
          let a = scan_place r (taken (life w n.who)) c (known_here r k run.founding w inv c c-in n) in
          let b = (head_is r v p c hc).place in
          let d = length_scan r p in omega (arith, a, b, d)

      go : IsPast (v ∷ p) (taken (life w n.who)) ⊎ IsPast (taken (life w n.who)) (v ∷ p) → IsPast (v ∷ p) (taken (life w n.who))
      go (inl h) = h
      go (inr (inl h)) = subst (λ (y : List Value). IsPast (v ∷ p) y) (sym h) (IsPast-self (v ∷ p))
      go (inr (inr h)) = let z = IsPast-length (taken (life w n.who)) p h in absurd (omega (arith, z, far))

  fits_head : (v : Value) (p : List Value) → IsPast (v ∷ p) k → (c : Cert) → head_cert r v p ≡ Some c → owned w s c.gtid ≡ true → Fits c.txn.changes (rows_of (certified r (scan r p)) (owned w s))
  fits_head v p pk c hc o = fits_agree c.txn.changes (rows_of (certified r (marked l2)) (executed l2)) (rows_of (certified r (scan r p)) (owned w s)) agree fits_then
    where
      si : (m : Inc) × IsPast (v ∷ p) (taken (life w m))
      si = stands_in v p pk c hc o

      pm : (x : Value) → Mem x p → MadeBy w x
      pm x i = inv.made si.0 x (IsPast-mem (v ∷ p) (taken (life w si.0)) x si.1 (inr i))

      mb : MadeBy w v
      mb = inv.made si.0 v (IsPast-mem (v ∷ p) (taken (life w si.0)) v si.1 (inl refl))

      w2 : World
      w2 = mb.0

      p2w : IsPast w2 w
      p2w = IsPast-tail (Does v.origin (Made (as_made v))) w2 w mb.1

      i : Inc
      i = v.origin

      l2 : Life
      l2 = life w2 i

      lw2 : Lawful r w2
      lw2 = lawful_past r w2 w p2w run.lawful

      jw2 : Joint r k w2
      jw2 = joint_past r k w2 w p2w run.joint

      inv2 : Inv r k w2
      inv2 = AllPasts-at (Inv r k) w2 w (invs r k w run) p2w

      lb : LawfulBody r i l2 (Write c.txn)
      lb = subst (λ (y : Body). LawfulBody r i l2 y) (ap unplaced (head_is r v p c hc).body) (made_is r w w2 v run.lawful mb.1).body

      t2p : IsPast (taken l2) p
      t2p = taken_before r k run.kept w run.lawful (invs r k w run) p v pk w2 mb.1 pm w2 (IsPast-self w2) i

      pk2 : IsPast p k
      pk2 = IsPast-tail v p k pk

      c-in : Mem c (certified r (scan r (v ∷ p)))
      c-in = head_mem r v p c hc

      fits_then : Fits c.txn.changes (rows_now r l2)
      fits_then = fits_now r k w run i w2 p2w lb.1.0.session c.txn lb.1.1

      none_later : (d : Cert) → Mem d (certified r (scan r p)) → length (taken l2) < d.place → executed l2 d.gtid ≡ false
      none_later d m lt = false_from_ne_true (executed l2 d.gtid) (λ e. no_way e)
        where
          no_way : executed l2 d.gtid ≡ true → ⊥
          no_way e =
              let x = inv2.within i (session_ready r i l2 (lawful_life r w2 i lw2) lb.1.0) d.gtid e in
              let y : Mem x.0 (certified r (scan r (taken l2))) = subst (λ (z : List Placed). Mem x.0 (certified r z)) (inv2.same i) x.1 in
              let q : x.0 ≡ d = gtids_distinct r run.founding.block p x.0 d (certified_mono r (taken l2) p x.0 t2p y) m x.2 in
              let a = scan_place r (taken l2) x.0 y in
              let b : x.0.place ≡ d.place = ap (λ (z : Cert). z.place) q in
              omega (arith, a, b, lt)

      agree : (ch : Change) → Mem ch c.txn.changes → rows_of (certified r (marked l2)) (executed l2) ch.item ≡ rows_of (certified r (scan r p)) (owned w s) ch.item
      agree ch m =
          ap (λ (y : List Placed). rows_of (certified r y) (executed l2) j) (inv2.same i)
          ∙ sym (rows_longer r (taken l2) p (executed l2) j t2p none_later)
          ∙ rows_agree (certified r (scan r p)) (executed l2) (owned w s) j
          (λ d x e. covers_owned r k run.founding w2 lw2 jw2 inv2 i.server d (certified_mono r p k d pk2 x) (executed_owned r k w2 i d.gtid jw2 e))
          (λ d x e. covers_owned r k run.founding w run.lawful run.joint inv s d (certified_mono r p k d pk2 x) e)
          both
        where
          j : Item
          j = ch.item

          j-in : Mem j c.txn.items
          j-in = lb.1.1.covers ch m

          both : (d : Cert) → Mem d (certified r (scan r p)) → writes d j ≡ true → executed l2 d.gtid ≡ owned w s d.gtid
          both d x e = mine ∙ sym its
            where
              d-in : Mem d (certified r (scan r (v ∷ p)))
              d-in = certified_mono r p (v ∷ p) d (inr (IsPast-self p)) x

              lt : d.place < c.place
              lt =
                  let a = scan_place r p d x in
                  let b = (head_is r v p c hc).place in
                  let z = length_scan r p in omega (arith, a, b, z)

              mine : executed l2 d.gtid ≡ true
              mine = sym (lb.0 d.gtid) ∙ positive_has r (v ∷ p) c d c-in d-in lt (any_from (writes d) c.txn.items j j-in e)

              its : owned w s d.gtid ≡ true
              its =
                  inv.closed_owned s d c (certified_mono r (v ∷ p) k d pk d-in) (certified_mono r (v ∷ p) k c pk c-in) lt
                  (record { item = j; first = e; second = any_from (item_eq j) c.txn.items j j-in (item_eq_itself j) }) o

  fits_all : (p : List Value) → IsPast p k → NoneRefused (certified r (scan r p)) (owned w s)
  unfolding head_cert
  fits_all [] h = tt
  fits_all (v ∷ p) h = go (head_cert r v p) refl (fits_all p (IsPast-tail v p k h))
    where
      go : (o : Option Cert) → head_cert r v p ≡ o → NoneRefused (certified r (scan r p)) (owned w s) → NoneRefused (cons_some o (certified r (scan r p))) (owned w s)
      go None e rec = rec
      go (Some c) e rec = ((λ o. fits_head v p h c e o), rec)

pub row_law : (r : Setup) (k : List Value) (w : World) → IsRun r k w → RowLaw r k w
row_law r k w run =
    record {
      rows = rows_always r k run.founding w run.lawful run.joint run.alive (invs r k w run);
      fits = λ s. fits_all r k w run s k (IsPast-self k);
      running = λ m g h. runs_owned r k w m g run.joint run.alive h;
    }
