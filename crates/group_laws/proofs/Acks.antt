-- What later begins read of an acknowledged AFTER transaction.
use Rattle.std.proofs.Common.{◌≡◌, ◌⊎◌, inl, inr, ℕ, suc, ◌≤◌, List, [], ◌∷◌, length, Bool, true, false, leb, leb-true, leb-false, not, refl, sym, ◌∙◌, ap, subst, arith}
use Rattle.std.specs.List.{list_any}
use Rattle.std.proofs.lemmas.Bool.{false≢true, or_left, and_parts, both_ways, not-true, lt-leb}
use Rattle.group_rules.specs.Events.{Setup}
use Rattle.group_laws.specs.Lists.{Mem, IsPast}
use Rattle.group_laws.specs.Names.{Inc, Gtid, gtid_eq, Level}
use Rattle.group_laws.specs.Entries.{Body, Prepared, Value, Placed, Cert, values, certified, as_made, unplaced}
use Rattle.group_laws.specs.View.{Standing, Absent, Recovering, Active, Gone, standing, active, is_in, member}
use Rattle.group_laws.specs.Verdict.{scan}
use Rattle.group_laws.specs.Life.{Given, Made, Committed, Called, Acked, Life, marked, taken, executed, is_fall, finishes, online}
use Rattle.group_laws.specs.Lawful.{upto, HasPrepared, Complete, Settled, IsPrepared, LawfulBody, LawfulCommit, LawfulAck, LawfulLife}
use Rattle.group_laws.specs.World.{Does, World, life, IsRun}
use Rattle.group_laws.specs.Laws.{JoinLaw, WasBegun, WasAcked, AfterKept}
use Rattle.group_laws.proofs.Lists.{IsPast-tail, IsPast-trans, IsPast-mem, IsPast-length, pasts_compare}
use Rattle.group_laws.proofs.Names.{gtid_eq_itself}
use Rattle.group_laws.proofs.Views.{rank, rank_up, active_still, active_between, not_yet_online}
use Rattle.group_laws.proofs.Scans.{gtids_distinct}
use Rattle.group_laws.proofs.Lives.{executed_mono, ever_mono, marked_mono}
use Rattle.group_laws.proofs.Worlds.{life_past, life_here, lawful_past, lawful_life, within_run, made_is}
use Rattle.group_laws.proofs.Begins.{same_verdicts, inv_at, here_from, to_all, begun_past, called_past, holds_at}

pub upto_past : {A : Type 0} (n : ℕ) (p k : List A) → IsPast p k → n ≤ length p → upto n k ≡ upto n p
upto_past n p [] h l = ap (upto n) (sym h)
upto_past n p (v ∷ k) (inl e) l = ap (upto n) (sym e)
upto_past {A} n p (v ∷ k) (inr h) l =
    let a = IsPast-length p k h in
    let f : leb (suc (length k)) n ≡ false = lt-leb (suc (length k)) n (omega (arith, a, l)) in
    rw f (upto_past n p k h l)

pub upto_is_past : {A : Type 0} (n : ℕ) (p : List A) → IsPast (upto n p) p
upto_is_past n [] = refl
upto_is_past {A} n (v ∷ p) = go (leb (suc (length p)) n) refl (upto_is_past n p)
  where
    go : (b : Bool) → leb (suc (length p)) n ≡ b → IsPast (upto n p) p → IsPast (upto n (v ∷ p)) (v ∷ p)
    go true e i = let u : upto n (v ∷ p) ≡ v ∷ p = rw e refl in inl u
    go false e i = let u : upto n (v ∷ p) ≡ upto n p = rw e refl in inr (subst (λ (y : List A). IsPast y p) (sym u) i)

pub length_upto : {A : Type 0} (n : ℕ) (p : List A) → n ≤ length p → length (upto n p) ≡ n
length_upto n [] l = omega arith
length_upto {A} n (v ∷ p) l = go (leb (suc (length p)) n) refl (length_upto n p)
  where
    go : (b : Bool) → leb (suc (length p)) n ≡ b → (n ≤ length p → length (upto n p) ≡ n) → length (upto n (v ∷ p)) ≡ n
    go true e rec = let x = leb-true (suc (length p)) n e in rw e (omega (arith, x, l))
    go false e rec = let x = leb-false (suc (length p)) n e in let y : length (upto n p) ≡ n = rec (omega (arith, x)) in rw e y

pub gone_rank : (s : Standing) → 3 ≤ rank s → s ≡ Gone
gone_rank Absent h = absurd (omega arith)
gone_rank Recovering h = absurd (omega arith)
gone_rank Active h = absurd (omega arith)
gone_rank Gone h = refl

pub gone_stays : (r : Setup) (p k : List Value) (m : Inc) → IsPast p k → standing r p m ≡ Gone → standing r k m ≡ Gone
gone_stays r p k m h g =
    let a = rank_up r p k m h in
    let b : rank (standing r p m) ≡ 3 = ap rank g in
    gone_rank (standing r k m) (omega (arith, a, b))

pub complete_mono : (r : Setup) (p k : List Value) (c : Cert) → IsPast p k → c.place ≤ length p → Complete r p c → Complete r k c
complete_mono r p k c h l f m q = go (f m (subst (λ (y : List Value). active r y m ≡ true) (upto_past c.place p k h l) q))
  where
    go : (m ≡ c.origin) ⊎ (HasPrepared p m c.gtid ⊎ (standing r p m ≡ Gone)) → (m ≡ c.origin) ⊎ (HasPrepared k m c.gtid ⊎ (standing r k m ≡ Gone))
    go (inl e) = inl e
    go (inr (inl e)) = inr (inl (e.0, IsPast-mem p k e.0 h e.1, e.2, e.3))
    go (inr (inr e)) = inr (inr (gone_stays r p k m h e))

pub settled_mono : (r : Setup) (m : Inc) (a l : Life) (c : Cert) → LawfulLife r m l → IsPast a l → Settled a m c → Settled l m c
settled_mono r m a l c k h (inl e) = inl (ever_mono (finishes c.place) a l h e)
settled_mono r m a l c k h (inr (inl e)) = inr (inl e)
settled_mono r m a l c k h (inr (inr e)) = inr (inr (executed_mono r m a l c.gtid k h e))

pub values_past : (a b : List Placed) → IsPast a b → IsPast (values a) (values b)
values_past a [] h = ap values h
values_past a (e ∷ b) (inl p) = inl (ap values p)
values_past a (e ∷ b) (inr h) = inr (values_past a b h)

pub committed_now : (l : Life) (g : Gtid) → executed (Committed g ∷ l) g ≡ true
committed_now l g = or_left (gtid_eq g g) (executed l g) (gtid_eq_itself g)

module _ (r : Setup) (k : List Value) (w : World) (run : IsRun r k w) where
  pub taken_mono : (a b : World) → IsPast a b → IsPast b w → (m : Inc) → IsPast (taken (life a m)) (taken (life b m))
  taken_mono a b h i m =
      values_past (marked (life a m)) (marked (life b m))
      (marked_mono r m (life a m) (life b m) (lawful_life r b m (lawful_past r b w i run.lawful)) (life_past a b m h))

  pub prepared_mono : (a b : World) → IsPast a b → IsPast b w → (m : Inc) (c : Cert) → IsPrepared r (life a m) m c → IsPrepared r (life b m) m c
  prepared_mono a b h1 h2 m c p = (here_from r k w run b h2 m c all.0 (omega (arith, all.1, grown)), go p.1)
    where
      h : IsPast a w
      h = IsPast-trans a b w h1 h2

      all : Mem c (certified r (scan r k)) × (c.place ≤ length (taken (life a m)))
      all = to_all r k w run a h m c p.0

      lb : LawfulLife r m (life b m)
      lb = lawful_life r b m (lawful_past r b w h2 run.lawful)

      grown : length (taken (life a m)) ≤ length (taken (life b m))
      grown = IsPast-length (taken (life a m)) (taken (life b m)) (taken_mono a b h1 h2 m)

      go : (c.origin ≡ m) ⊎ ((d : Cert) → Mem d (certified r (marked (life a m))) → d.place ≤ c.place → Settled (life a m) m d) → (c.origin ≡ m) ⊎ ((d : Cert) → Mem d (certified r (marked (life b m))) → d.place ≤ c.place → Settled (life b m) m d)
      go (inl e) = inl e
      go (inr f) = inr (λ d i l. settled_mono r m (life a m) (life b m) d lb (life_past a b m h1)
          (let x = to_all r k w run b h2 m d i in f d (here_from r k w run a h m d x.0 (let y = all.1 in omega (arith, y, l))) l))

  pub after_law : (m : Inc) (a : World) (d : Cert) → WasAcked r k w m a d → AfterKept r w m a d
  after_law m a d h = record { complete = done; later = later }
    where
      pa : IsPast a w
      pa = IsPast-tail (Does m (Acked d.gtid)) a w h.mark

      la : LawfulLife r m (life a m)
      la = lawful_life r a m (lawful_past r a w pa run.lawful)

      ack : LawfulAck r m (life a m) d.gtid
      ack = (lawful_past r (Does m (Acked d.gtid) ∷ a) w h.mark run.lawful).0

      -- the run at the commit
      a0 : World
      a0 = (within_run a m (Committed d.gtid) ack.past ack.mark).past

      a0-mark : IsPast (Does m (Committed d.gtid) ∷ a0) a
      a0-mark = (within_run a m (Committed d.gtid) ack.past ack.mark).mark

      a0-life : life a0 m ≡ ack.past
      a0-life = (within_run a m (Committed d.gtid) ack.past ack.mark).lived

      ha0 : IsPast a0 a
      ha0 = IsPast-tail (Does m (Committed d.gtid)) a0 a a0-mark

      pa0 : IsPast a0 w
      pa0 = IsPast-trans a0 a w ha0 pa

      lc : LawfulCommit r m (life a0 m) d.gtid
      lc = (lawful_past r (Does m (Committed d.gtid) ∷ a0) w (IsPast-trans (Does m (Committed d.gtid) ∷ a0) a w a0-mark pa) run.lawful).0

      lc-all : Mem lc.cert (certified r (scan r k)) × (lc.cert.place ≤ length (taken (life a0 m)))
      lc-all = to_all r k w run a0 pa0 m lc.cert lc.here

      it : lc.cert ≡ d
      it = gtids_distinct r run.founding.block k lc.cert d lc-all.0 h.cert lc.is_it

      d-here : Mem d (certified r (marked (life a0 m)))
      d-here = subst (λ (y : Cert). Mem y (certified r (marked (life a0 m)))) it lc.here

      place0 : d.place ≤ length (taken (life a0 m))
      place0 = (to_all r k w run a0 pa0 m d d-here).1

      local : d.origin ≡ m
      local = ack.local d (subst (λ (y : Life). Mem d (certified r (marked y))) a0-life d-here) refl

      done0 : Complete r (taken (life a0 m)) d
      done0 =
          subst (λ (y : Cert). Complete r (taken (life a0 m)) y) it
          (lc.complete (ap (λ (y : Cert). y.txn.after) it ∙ h.after) (inl (ap (λ (y : Cert). y.origin) it ∙ local)))

      grown : IsPast (taken (life a0 m)) (taken (life a m))
      grown = taken_mono a0 a ha0 pa m

      done : Complete r (taken (life a m)) d
      done = complete_mono r (taken (life a0 m)) (taken (life a m)) d grown place0 done0

      pj : List Value
      pj = taken (life a m)

      place-j : d.place ≤ length pj
      place-j = let n = IsPast-length (taken (life a0 m)) pj grown in omega (arith, n, place0)

      qk : List Value
      qk = upto d.place pj

      qk-past : IsPast qk pj
      qk-past = upto_is_past d.place pj

      qk-all : IsPast qk k
      qk-all = IsPast-trans qk pj k qk-past ((inv_at r k w run a pa).past m)

      committed : executed (life a m) d.gtid ≡ true
      committed = executed_mono r m (Committed d.gtid ∷ ack.past) (life a m) d.gtid la ack.mark (committed_now ack.past d.gtid)

      later : (m2 : Inc) (b c : World) (level : Level) → WasBegun w m2 b c level → IsPast (Does m (Acked d.gtid) ∷ a) c → online r m2 (life c m2) ≡ true → member r pj m2 ≡ true → executed (life b m2) d.gtid ≡ true
      later m2 b c level wb ha o mem = at_active (active r qk m2) refl
        where
          pb : IsPast b w
          pb = begun_past r k w run m2 b c level wb

          cb : IsPast c b
          cb = IsPast-tail (Does m2 (Called wb.session level wb.sync)) c b wb.call

          pc : IsPast c w
          pc = called_past r k w run m2 b c level wb

          ac : IsPast a c
          ac = IsPast-tail (Does m (Acked d.gtid)) a c ha

          o2 : (not (list_any is_fall (life c m2)) ≡ true) × (active r (taken (life c m2)) m2 ≡ true)
          o2 = and_parts (not (list_any is_fall (life c m2))) (active r (taken (life c m2)) m2) o

          pcv : List Value
          pcv = taken (life c m2)

          pcv-all : IsPast pcv k
          pcv-all = (inv_at r k w run c pc).past m2

          required : (m2 ≡ d.origin) ⊎ (HasPrepared pj m2 d.gtid ⊎ (standing r pj m2 ≡ Gone)) → executed (life b m2) d.gtid ≡ true
          required (inl e) =
              let y = executed_mono r m (life a m) (life b m) d.gtid (lawful_life r b m (lawful_past r b w pb run.lawful)) (life_past a b m (IsPast-trans a c b ac cb)) committed in
              subst (λ (z : Inc). executed (life b z) d.gtid ≡ true) (sym (e ∙ local)) y
          required (inr (inl hp)) =
              let mb = (inv_at r k w run a pa).made m hp.0 hp.1 in
              let lm = made_is r a mb.0 hp.0 (lawful_past r a w pa run.lawful) mb.1 in
              let lb : LawfulBody r hp.0.origin (life mb.0 hp.0.origin) (Prepared d.gtid) = subst (λ (y : Body). LawfulBody r hp.0.origin (life mb.0 hp.0.origin) y) (ap unplaced hp.3) lm.body in
              let p3 : IsPast mb.0 a = IsPast-tail (Does hp.0.origin (Made (as_made hp.0))) mb.0 a mb.1 in
              let ip : IsPrepared r (life mb.0 m2) m2 lb.0 = subst (λ (y : Inc). IsPrepared r (life mb.0 y) y lb.0) hp.2 lb.2 in
              let cw = to_all r k w run mb.0 (IsPast-trans mb.0 a w p3 pa) m2 lb.0 ip.0 in
              let cd : lb.0 ≡ d = gtids_distinct r run.founding.block k lb.0 d cw.0 h.cert lb.1 in
              let ip2 : IsPrepared r (life mb.0 m2) m2 d = subst (λ (y : Cert). IsPrepared r (life mb.0 m2) m2 y) cd ip in
              let ip3 = prepared_mono mb.0 c (IsPast-trans mb.0 a c p3 ac) pc m2 d ip2 in
              (holds_at r k w run m2 b c level wb).after (not-true (list_any is_fall (life c m2)) o2.0) d h.after ip3
          required (inr (inr g)) =
              let bad : is_in Gone ≡ true = rw g at mem in absurd (false≢true bad)

          not_required : active r qk m2 ≡ false → executed (life b m2) d.gtid ≡ true
          not_required e = go (pasts_compare qk pcv k qk-all pcv-all)
            where
              go : IsPast qk pcv ⊎ IsPast pcv qk → executed (life b m2) d.gtid ≡ true
              go (inl p) =
                  let n = not_yet_online r qk pcv m2 p e in
                  let z = length_upto d.place pj place-j in
                  let n2 = IsPast-length qk pcv p in
                  let i = here_from r k w run c pc m2 d h.cert (omega (arith, z, n2)) in
                  (holds_at r k w run m2 b c level wb).joined o d i (omega (arith, n, z))
              go (inr p) =
                  let s = active_still r pcv pj m2 (IsPast-trans pcv qk pj p qk-past) o2.1 mem in
                  let t = active_between r pcv qk pj m2 p qk-past o2.1 s in
                  absurd (both_ways (active r qk m2) e t)

          at_active : (v : Bool) → active r qk m2 ≡ v → executed (life b m2) d.gtid ≡ true
          at_active true e = required (done m2 e)
          at_active false e = not_required e

-- two pasts of one length are one
pub same_length_past : {A : Type 0} (a b k : List A) → IsPast a k → IsPast b k → length a ≡ length b → a ≡ b
same_length_past a b [] h g e = h ∙ sym g
same_length_past a b (x ∷ k) (inl h) (inl g) e = h ∙ sym g
same_length_past a b (x ∷ k) (inl h) (inr g) e =
    let l = IsPast-length b k g in let n : length a ≡ suc (length k) = ap length h in absurd (omega (arith, l, n, e))
same_length_past a b (x ∷ k) (inr h) (inl g) e =
    let l = IsPast-length a k h in let n : length b ≡ suc (length k) = ap length g in absurd (omega (arith, l, n, e))
same_length_past a b (x ∷ k) (inr h) (inr g) e = same_length_past a b k h g e

pub join_law : (r : Setup) (k : List Value) (w : World) → IsRun r k w → JoinLaw w
join_law r k w run m b base h other l = same_length_past (upto (length base) (marked (life w other))) base (scan r k) one two (length_upto (length base) (marked (life w other)) l)
  where
    one : IsPast (upto (length base) (marked (life w other))) (scan r k)
    one = IsPast-trans (upto (length base) (marked (life w other))) (marked (life w other)) (scan r k) (upto_is_past (length base) (marked (life w other))) (same_verdicts r k w run other)

    now : IsPast (marked (life (Does m (Given base) ∷ b) m)) (marked (life w m))
    now = marked_mono r m (life (Does m (Given base) ∷ b) m) (life w m) (lawful_life r w m run.lawful) (life_past (Does m (Given base) ∷ b) w m h)

    now2 : IsPast base (marked (life w m))
    now2 = subst (λ (y : Life). IsPast (marked y) (marked (life w m))) (life_here b m (Given base)) now

    two : IsPast base (scan r k)
    two = IsPast-trans base (marked (life w m)) (scan r k) now2 (same_verdicts r k w run m)
