-- What a transaction of a session changes fits the rows when its commit is asked.
use Rattle.std.proofs.Common.{◌≡◌, ◌⊎◌, inl, inr, ℕ, suc, ◌≤◌, ◌<◌, List, [], ◌∷◌, ◌++◌, length, Option, Some, None, Bool, true, false, cond, ◌||◌, refl, sym, ◌∙◌, ap, subst, arith, eqb, eqb-true}
use Rattle.std.proofs.lemmas.Bool.{false≢true, or_cases, or_right, both_ways, false_from_ne_true, cases_order, or_parts}
use Rattle.std.specs.List.{list_any}
use Rattle.group_rules.specs.Events.{Setup}
use Rattle.group_rules.specs.Rows.{fits, row_after}
use Rattle.group_laws.specs.Lists.{Mem, IsPast}
use Rattle.group_laws.specs.Names.{Inc, inc_eq, Gtid, gtid_eq, Item, item_eq, Txn, Change}
use Rattle.group_laws.specs.Entries.{Body, Write, Value, Placed, Cert, certified, cert_of, values, Outcome, Positive, Conflict, NoTxn, Executed, Online, Joins, Leaves, Prepared, Switches, Appoints, Plain, cert_parts, as_made, unplaced}
use Rattle.group_laws.specs.Verdict.{writes, scan}
use Rattle.group_laws.specs.View.{last_kept}
use Rattle.group_laws.specs.Table.{Rows, put, applied, Fits, rows_of, Covers}
use Rattle.group_laws.specs.Life.{Did, Started, Given, Made, Took, Finished, Committed, Called, Begun, Acked, Fell, Life, marked, taken, executed, ready, Changed, Asked, Ended, finishes, hits, unless_hit, one_more, at_place, open_of, is_give, founder}
use Rattle.group_laws.specs.Lawful.{LawfulBody, LawfulCommit, LawfulDid, LawfulChange, Asks, Waits, Lost, is_done, rows_now, LawfulLife, IsNow, LawfulGiven, LawfulTook, LawfulMade}
use Rattle.group_laws.specs.World.{Does, Writes, World, life, Lawful, MadeBy, Joint, IsRun, IsKeptList}
use Rattle.group_laws.proofs.Lists.{any_from, IsPast-self, IsPast-tail, newest_mem, newest_none, AllPasts-at, any_mem, IsPast-trans}
use Rattle.node_rules.proofs.Incs.{inc_is, inc_same}
use Rattle.group_laws.proofs.Names.{gtid_eq_same, item_eq_itself, item_eq_same, eqb-self}
use Rattle.group_laws.proofs.Scans.{certified_mono, positive_has, gtids_distinct, cert_value, scan_place, certified_back, CertValue}
use Rattle.group_laws.proofs.Certs.{cons_keeps, same_place, cons_cases}
use Rattle.group_laws.proofs.Lives.{unready, marked_more, executed_mono}
use Rattle.group_laws.proofs.Worlds.{lawful_past, lawful_life, joint_past, made_is, Within, within_run, made_life, life_past, life_here, kept_past}
use Rattle.group_laws.proofs.Freshness.{Inv}
use Rattle.group_laws.proofs.Law.{invs}
use Rattle.group_laws.proofs.Tables.{applied_at, rows_agree, rows_longer, fits_agree}
use Rattle.group_laws.proofs.ServerRows.{certified_past, covers_known, all}

pub is_made : Did → Bool
is_made (Made v) = true
is_made _ = false

pub made_past : (d : Did) (v : Value) (a l : Life) → (Made v ≡ d → ⊥) → IsPast (Made v ∷ a) (d ∷ l) → IsPast (Made v ∷ a) l
made_past d v a l n (inl p) = let q : Made v ≡ d = cc p in absurd (n q)
made_past d v a l n (inr p) = p

-- what holds of the open transactions of a member's sessions
pub record Sessions (r : Setup) (m : Inc) (l : Life) : Type 0 where
  pub fits : (s : ℕ) (cs : List Change) → open_of r l s ≡ Some cs → Fits cs (rows_now r l)
  pub free : (s : ℕ) (cs : List Change) → open_of r l s ≡ Some cs → (ch : Change) → Mem ch cs → (c : Cert) → Mem c (certified r (marked l)) → writes c ch.item ≡ true → is_done l c ≡ true → executed l c.gtid ≡ true
  pub apart : (s t : ℕ) (cs ds : List Change) → open_of r l s ≡ Some cs → open_of r l t ≡ Some ds → (s ≡ t → ⊥) → (ch dh : Change) → Mem ch cs → Mem dh ds → item_eq ch.item dh.item ≡ false
  pub asked : (s : ℕ) (cs : List Change) → open_of r l s ≡ Some cs → (ch : Change) → Mem ch cs → (v : Value) (t : Txn) (a : Life) → IsPast (Made v ∷ a) l → v.body ≡ Write t → Mem ch.item t.items → Waits r m l v → Lost r l a ch.item
  pub idle : (s : ℕ) (cs : List Change) → open_of r l s ≡ Some cs → ready r m l ≡ false → cs ≡ []
  pub handed : (t : ℕ) (a : Life) (ds : List Change) → l ≡ Asked t ∷ a → open_of r a t ≡ Some ds → (s : ℕ) (cs : List Change) → open_of r l s ≡ Some cs → (ch dh : Change) → Mem ch cs → Mem dh ds → item_eq ch.item dh.item ≡ false

pub no_sessions : (r : Setup) (m : Inc) → Sessions r m []
no_sessions r m = record {
  fits = λ s cs e. absurd (cc e);
  free = λ s cs e. absurd (cc e);
  apart = λ s t cs ds e. absurd (cc e);
  asked = λ s cs e. absurd (cc e);
  idle = λ s cs e. absurd (cc e);
  handed = λ t a ds e o s cs h. absurd (cc h);
}

pub mem_append : {A : Type 0} (xs : List A) (y x : A) → Mem x (xs ++ y ∷ []) → Mem x xs ⊎ (y ≡ x)
mem_append [] y x (inl e) = inr e
mem_append [] y x (inr h) = absurd h
mem_append {A} (z ∷ xs) y x (inl e) = inl (inl e)
mem_append {A} (z ∷ xs) y x (inr h) = go (mem_append xs y x h)
  where
    go : Mem x xs ⊎ (y ≡ x) → Mem x (z ∷ xs) ⊎ (y ≡ x)
    go (inl k) = inl (inr k)
    go (inr k) = inr k

pub fits_append : (cs : List Change) (ch : Change) (a : Rows) → Fits cs a → fits ch.what (applied cs a ch.item) ≡ true → Fits (cs ++ ch ∷ []) a
fits_append [] ch a f n = (n, tt)
fits_append (c ∷ cs) ch a f n = (f.0, fits_append cs ch (put c.item (row_after c.what) a) f.1 n)

-- an open transaction after a mark that ends or begins one was open before, or is new
pub cond_open : (b : Bool) (n : Option (List Change)) (o : Option (List Change)) (cs : List Change) → cond b n o ≡ Some cs → ((b ≡ true) × (n ≡ Some cs)) ⊎ ((b ≡ false) × (o ≡ Some cs))
cond_open true n o cs h = inl (refl, h)
cond_open false n o cs h = inr (refl, h)

pub hit_open : (c : Option Cert) (o : Option (List Change)) (cs : List Change) → unless_hit c o ≡ Some cs → (o ≡ Some cs) × (hits c cs ≡ false)
hit_open c None cs h = absurd (cc h)
hit_open c (Some ds) cs h = go (hits c ds) refl
  where
    go : (b : Bool) → hits c ds ≡ b → (Some ds ≡ Some cs) × (hits c cs ≡ false)
    go true e = let h2 : None ≡ Some cs = subst (λ (b : Bool). cond b None (Some ds) ≡ Some cs) e h in absurd (cc h2)
    go false e =
        let h2 : Some ds ≡ Some cs = subst (λ (b : Bool). cond b None (Some ds) ≡ Some cs) e h in
        let q : ds ≡ cs = cc h2 in (h2, subst (λ (y : List Change). hits c y ≡ false) q e)

pub item_eq-comm : (a b : Item) → item_eq a b ≡ false → item_eq b a ≡ false
item_eq-comm a b h = false_from_ne_true (item_eq b a) (λ e. (let q : b ≡ a = item_eq_same b a e in both_ways (item_eq a b) h (ap (λ (y : Item). item_eq y b) (sym q) ∙ item_eq_itself b)))

pub one_more_open : (ch : Change) (o : Option (List Change)) (cs ds : List Change) → o ≡ Some ds → one_more ch o ≡ Some cs → cs ≡ ds ++ ch ∷ []
one_more_open ch o cs ds e h =
    let h2 : one_more ch (Some ds) ≡ Some cs = subst (λ (y : Option (List Change)). one_more ch y ≡ Some cs) e h in
    let h3 : Some (ds ++ ch ∷ []) ≡ Some cs = h2 in sym (cc h3)

-- ---- a step, where each open transaction was open before, or has no change yet
module _ (r : Setup) (m : Inc) (d : Did) (l : Life) (z : Sessions r m l)
    (op : (s : ℕ) (cs : List Change) → open_of r (d ∷ l) s ≡ Some cs → (cs ≡ []) ⊎ (open_of r l s ≡ Some cs))
    (ro : (s : ℕ) (cs : List Change) → open_of r l s ≡ Some cs → open_of r (d ∷ l) s ≡ Some cs → (ch : Change) → Mem ch cs → rows_now r l ch.item ≡ rows_now r (d ∷ l) ch.item)
    (fr : (s : ℕ) (cs : List Change) → open_of r l s ≡ Some cs → open_of r (d ∷ l) s ≡ Some cs → (ch : Change) → Mem ch cs → (c : Cert) → Mem c (certified r (marked (d ∷ l))) → writes c ch.item ≡ true → is_done (d ∷ l) c ≡ true → Mem c (certified r (marked l)) × (is_done l c ≡ true))
    (ma : (s : ℕ) (cs : List Change) → open_of r l s ≡ Some cs → open_of r (d ∷ l) s ≡ Some cs → (ch : Change) → Mem ch cs → (v : Value) (t : Txn) (a : Life) → IsPast (Made v ∷ a) (d ∷ l) → v.body ≡ Write t → Mem ch.item t.items → IsPast (Made v ∷ a) l)
    (gr : (g : Gtid) → executed l g ≡ true → executed (d ∷ l) g ≡ true)
    (nc : (c : Cert) → Mem c (certified r (marked l)) → Mem c (certified r (marked (d ∷ l))))
    (wt : (s : ℕ) (cs : List Change) → open_of r l s ≡ Some cs → open_of r (d ∷ l) s ≡ Some cs → (ch : Change) → Mem ch cs → (v : Value) → Waits r m (d ∷ l) v → Waits r m l v)
    (ha : (t : ℕ) (a : Life) (ds : List Change) → d ∷ l ≡ Asked t ∷ a → open_of r a t ≡ Some ds → (s : ℕ) (cs : List Change) → open_of r (d ∷ l) s ≡ Some cs → (ch dh : Change) → Mem ch cs → Mem dh ds → item_eq ch.item dh.item ≡ false)
    (rd : ready r m (d ∷ l) ≡ false → ready r m l ≡ false) where
  private-none : (cs : List Change) (ch : Change) → cs ≡ [] → Mem ch cs → ⊥
  private-none cs ch e i = subst (λ (y : List Change). Mem ch y) e i

  s-fits : (s : ℕ) (cs : List Change) → open_of r (d ∷ l) s ≡ Some cs → Fits cs (rows_now r (d ∷ l))
  s-fits s cs e = go (op s cs e)
    where
      go : (cs ≡ []) ⊎ (open_of r l s ≡ Some cs) → Fits cs (rows_now r (d ∷ l))
      go (inl q) = subst (λ (y : List Change). Fits y (rows_now r (d ∷ l))) (sym q) tt
      go (inr q) = fits_agree cs (rows_now r l) (rows_now r (d ∷ l)) (λ ch i. ro s cs q e ch i) (z.fits s cs q)

  s-free : (s : ℕ) (cs : List Change) → open_of r (d ∷ l) s ≡ Some cs → (ch : Change) → Mem ch cs → (c : Cert) → Mem c (certified r (marked (d ∷ l))) → writes c ch.item ≡ true → is_done (d ∷ l) c ≡ true → executed (d ∷ l) c.gtid ≡ true
  s-free s cs e ch i c j w f = go (op s cs e)
    where
      go : (cs ≡ []) ⊎ (open_of r l s ≡ Some cs) → executed (d ∷ l) c.gtid ≡ true
      go (inl q) = absurd (private-none cs ch q i)
      go (inr q) = let x = fr s cs q e ch i c j w f in gr c.gtid (z.free s cs q ch i c x.0 w x.1)

  s-apart : (s t : ℕ) (cs ds : List Change) → open_of r (d ∷ l) s ≡ Some cs → open_of r (d ∷ l) t ≡ Some ds → (s ≡ t → ⊥) → (ch dh : Change) → Mem ch cs → Mem dh ds → item_eq ch.item dh.item ≡ false
  s-apart s t cs ds e f n ch dh i j = go (op s cs e) (op t ds f)
    where
      go : (cs ≡ []) ⊎ (open_of r l s ≡ Some cs) → (ds ≡ []) ⊎ (open_of r l t ≡ Some ds) → item_eq ch.item dh.item ≡ false
      go (inl q) y = absurd (private-none cs ch q i)
      go (inr q) (inl y) = absurd (private-none ds dh y j)
      go (inr q) (inr y) = z.apart s t cs ds q y n ch dh i j

  s-asked : (s : ℕ) (cs : List Change) → open_of r (d ∷ l) s ≡ Some cs → (ch : Change) → Mem ch cs → (v : Value) (t : Txn) (a : Life) → IsPast (Made v ∷ a) (d ∷ l) → v.body ≡ Write t → Mem ch.item t.items → Waits r m (d ∷ l) v → Lost r (d ∷ l) a ch.item
  s-asked s cs e ch i v t a p b k w = go (op s cs e)
    where
      go : (cs ≡ []) ⊎ (open_of r l s ≡ Some cs) → Lost r (d ∷ l) a ch.item
      go (inl q) = absurd (private-none cs ch q i)
      go (inr q) =
          let x = z.asked s cs q ch i v t a (ma s cs q e ch i v t a p b k) b k (wt s cs q e ch i v w) in
          (x.0, nc x.0 x.1, x.2, or_right (finishes x.0.place d) (is_done l x.0) x.3, x.4)

  s-idle : (s : ℕ) (cs : List Change) → open_of r (d ∷ l) s ≡ Some cs → ready r m (d ∷ l) ≡ false → cs ≡ []
  s-idle s cs e h = go (op s cs e)
    where
      go : (cs ≡ []) ⊎ (open_of r l s ≡ Some cs) → cs ≡ []
      go (inl q) = q
      go (inr q) = z.idle s cs q (rd h)

  pub step_open : Sessions r m (d ∷ l)
  step_open = record { fits = s-fits; free = s-free; apart = s-apart; asked = s-asked; idle = s-idle; handed = ha }

-- one more change
module _ (r : Setup) (m : Inc) (s0 : ℕ) (c0 : Change) (l : Life) (z : Sessions r m l) (q : LawfulChange r m l s0 c0) where
  -- the transactions that are open after
  is_new : (s : ℕ) (cs : List Change) → open_of r (Changed s0 c0 ∷ l) s ≡ Some cs → ((s ≡ s0) × (cs ≡ q.changes ++ c0 ∷ [])) ⊎ ((s0 ≡ s → ⊥) × (open_of r l s ≡ Some cs))
  is_new s cs e = go (eqb s0 s) refl
    where
      go : (b : Bool) → eqb s0 s ≡ b → ((s ≡ s0) × (cs ≡ q.changes ++ c0 ∷ [])) ⊎ ((s0 ≡ s → ⊥) × (open_of r l s ≡ Some cs))
      go true h =
          let e2 : one_more c0 (open_of r l s) ≡ Some cs = subst (λ (b : Bool). cond b (one_more c0 (open_of r l s)) (open_of r l s) ≡ Some cs) h e in
          let t : s0 ≡ s = eqb-true s0 s h in
          let o : open_of r l s ≡ Some q.changes = ap (open_of r l) (sym t) ∙ q.is_open in
          inl (sym t, one_more_open c0 (open_of r l s) cs q.changes o e2)
      go false h =
          let e2 : open_of r l s ≡ Some cs = subst (λ (b : Bool). cond b (one_more c0 (open_of r l s)) (open_of r l s) ≡ Some cs) h e in
          inr ((λ t. both_ways (eqb s0 s) h (ap (eqb s0) (sym t) ∙ eqb-self s0)), e2)

  old_or_new : (s : ℕ) (cs : List Change) → open_of r (Changed s0 c0 ∷ l) s ≡ Some cs → (ch : Change) → Mem ch cs → ((ds : List Change) × (open_of r l s ≡ Some ds) × Mem ch ds) ⊎ ((s ≡ s0) × (c0 ≡ ch))
  old_or_new s cs e ch i = go (is_new s cs e)
    where
      go : ((s ≡ s0) × (cs ≡ q.changes ++ c0 ∷ [])) ⊎ ((s0 ≡ s → ⊥) × (open_of r l s ≡ Some cs)) → ((ds : List Change) × (open_of r l s ≡ Some ds) × Mem ch ds) ⊎ ((s ≡ s0) × (c0 ≡ ch))
      go (inr y) = inl (cs, y.1, i)
      go (inl y) = split (mem_append q.changes c0 ch (subst (λ (u : List Change). Mem ch u) y.1 i))
        where
          split : Mem ch q.changes ⊎ (c0 ≡ ch) → ((ds : List Change) × (open_of r l s ≡ Some ds) × Mem ch ds) ⊎ ((s ≡ s0) × (c0 ≡ ch))
          split (inl j) = inl (q.changes, ap (open_of r l) y.0 ∙ q.is_open, j)
          split (inr j) = inr (y.0, j)

  c-fits : (s : ℕ) (cs : List Change) → open_of r (Changed s0 c0 ∷ l) s ≡ Some cs → Fits cs (rows_now r l)
  c-fits s cs e = go (is_new s cs e)
    where
      go : ((s ≡ s0) × (cs ≡ q.changes ++ c0 ∷ [])) ⊎ ((s0 ≡ s → ⊥) × (open_of r l s ≡ Some cs)) → Fits cs (rows_now r l)
      go (inr y) = z.fits s cs y.1
      go (inl y) = subst (λ (u : List Change). Fits u (rows_now r l)) (sym y.1) (fits_append q.changes c0 (rows_now r l) (z.fits s0 q.changes q.is_open) q.need)

  c-free : (s : ℕ) (cs : List Change) → open_of r (Changed s0 c0 ∷ l) s ≡ Some cs → (ch : Change) → Mem ch cs → (c : Cert) → Mem c (certified r (marked l)) → writes c ch.item ≡ true → is_done l c ≡ true → executed l c.gtid ≡ true
  c-free s cs e ch i c j w f = go (old_or_new s cs e ch i)
    where
      go : ((ds : List Change) × (open_of r l s ≡ Some ds) × Mem ch ds) ⊎ ((s ≡ s0) × (c0 ≡ ch)) → executed l c.gtid ≡ true
      go (inl y) = z.free s y.0 y.1 ch y.2 c j w f
      go (inr y) = q.no_place c j (ap (λ (u : Change). writes c u.item) y.1 ∙ w) f

  c-apart : (s t : ℕ) (cs ds : List Change) → open_of r (Changed s0 c0 ∷ l) s ≡ Some cs → open_of r (Changed s0 c0 ∷ l) t ≡ Some ds → (s ≡ t → ⊥) → (ch dh : Change) → Mem ch cs → Mem dh ds → item_eq ch.item dh.item ≡ false
  c-apart s t cs ds e f n ch dh i j = go (old_or_new s cs e ch i) (old_or_new t ds f dh j)
    where
      go : ((us : List Change) × (open_of r l s ≡ Some us) × Mem ch us) ⊎ ((s ≡ s0) × (c0 ≡ ch)) → ((us : List Change) × (open_of r l t ≡ Some us) × Mem dh us) ⊎ ((t ≡ s0) × (c0 ≡ dh)) → item_eq ch.item dh.item ≡ false
      go (inl y) (inl u) = z.apart s t y.0 u.0 y.1 u.1 n ch dh y.2 u.2
      go (inl y) (inr u) =
          let a = q.no_open s y.0 (λ p. n (p ∙ sym u.0)) y.1 ch y.2 in subst (λ (x : Change). item_eq ch.item x.item ≡ false) u.1 a
      go (inr y) (inl u) =
          let a = q.no_open t u.0 (λ p. n (y.0 ∙ sym p)) u.1 dh u.2 in
          item_eq-comm dh.item ch.item (subst (λ (x : Change). item_eq dh.item x.item ≡ false) y.1 a)
      go (inr y) (inr u) = absurd (n (y.0 ∙ sym u.0))

  c-asked : (s : ℕ) (cs : List Change) → open_of r (Changed s0 c0 ∷ l) s ≡ Some cs → (ch : Change) → Mem ch cs → (v : Value) (t : Txn) (a : Life) → IsPast (Made v ∷ a) (Changed s0 c0 ∷ l) → v.body ≡ Write t → Mem ch.item t.items → Waits r m l v → Lost r l a ch.item
  c-asked s cs e ch i v t a p b k w = go (old_or_new s cs e ch i)
    where
      p2 : IsPast (Made v ∷ a) l
      p2 = made_past (Changed s0 c0) v a l (λ x. absurd (cc x)) p

      go : ((ds : List Change) × (open_of r l s ≡ Some ds) × Mem ch ds) ⊎ ((s ≡ s0) × (c0 ≡ ch)) → Lost r l a ch.item
      go (inl y) = z.asked s y.0 y.1 ch y.2 v t a p2 b k w
      go (inr y) =
          let k2 : Mem c0.item t.items = subst (λ (u : Change). Mem u.item t.items) (sym y.1) k in
          subst (λ (u : Change). Lost r l a u.item) y.1 (q.no_asked v t a p2 b k2 w)

  pub step_changed : Sessions r m (Changed s0 c0 ∷ l)
  step_changed = record { fits = c-fits; free = c-free; apart = c-apart; asked = c-asked; idle = λ s cs e h. absurd (both_ways (ready r m l) h q.is_ready); handed = λ t a ds e. absurd (cc e) }

-- a step that leaves list, executed set and Done places as they are
pub step_quiet : (r : Setup) (m : Inc) (d : Did) (l : Life) → Sessions r m l → ((v : Value) → Made v ≡ d → ⊥) → marked (d ∷ l) ≡ marked l → ((g : Gtid) → executed (d ∷ l) g ≡ executed l g) → ((n : ℕ) → finishes n d ≡ false) → is_give d ≡ false → ((s : ℕ) (cs : List Change) → open_of r (d ∷ l) s ≡ Some cs → (cs ≡ []) ⊎ (open_of r l s ≡ Some cs)) → ((t : ℕ) (a : Life) (ds : List Change) → d ∷ l ≡ Asked t ∷ a → open_of r a t ≡ Some ds → (s : ℕ) (cs : List Change) → open_of r (d ∷ l) s ≡ Some cs → (ch dh : Change) → Mem ch cs → Mem dh ds → item_eq ch.item dh.item ≡ false) → Sessions r m (d ∷ l)
step_quiet r m d l z nm mk ex nf ng op ha =
    step_open r m d l z op
    (λ s cs q e ch i. rows_same ch.item)
    (λ s cs q e ch i c j w f. (subst (λ (y : List Placed). Mem c (certified r y)) mk j, subst (λ (b : Bool). (b || is_done l c) ≡ true) (nf c.place) f))
    (λ s cs q e ch i v t a p b k. made_past d v a l (nm v) p)
    (λ g h. ex g ∙ h)
    (λ c i. subst (λ (y : List Placed). Mem c (certified r y)) (sym mk) i)
    (λ s cs q e ch i v w. old_waits v w)
    ha
    (λ h. subst (λ (b : Bool). (founder r m || (b || list_any is_give l)) ≡ false) ng h)
  where
    rows_same : (j : Item) → rows_now r l j ≡ rows_now r (d ∷ l) j
    rows_same j = by_set (certified r (marked l)) ∙ ap (λ (y : List Placed). rows_of (certified r y) (executed (d ∷ l)) j) (sym mk)
      where
        both : (b : Bool) (x y : Option (List ℕ)) (u v : Option (List ℕ)) → x ≡ u → y ≡ v → cond b x y ≡ cond b u v
        both true x y u v a c = a
        both false x y u v a c = c

        one : (c : Cert) (cs : List Cert) → rows_of cs (executed l) j ≡ rows_of cs (executed (d ∷ l)) j → rows_of (c ∷ cs) (executed l) j ≡ rows_of (c ∷ cs) (executed (d ∷ l)) j
        one c cs h =
            ap (λ b. cond b (applied c.txn.changes (rows_of cs (executed l)) j) (rows_of cs (executed l) j)) (sym (ex c.gtid))
            ∙ both (executed (d ∷ l) c.gtid) (applied c.txn.changes (rows_of cs (executed l)) j) (rows_of cs (executed l) j) (applied c.txn.changes (rows_of cs (executed (d ∷ l))) j) (rows_of cs (executed (d ∷ l)) j)
            (applied_at c.txn.changes (rows_of cs (executed l)) (rows_of cs (executed (d ∷ l))) j h) h

        by_set : (cs : List Cert) → rows_of cs (executed l) j ≡ rows_of cs (executed (d ∷ l)) j
        by_set = elim [ [] ↦ refl | c ∷ (cs → h) ↦ one c cs h ]

    old_waits : (v : Value) → Waits r m (d ∷ l) v → Waits r m l v
    old_waits v (inl h) = inl (subst (λ (y : List Placed). last_kept (values y) m < v.number) mk h)
    old_waits v (inr h) = inr (h.0, subst (λ (y : List Placed). Mem h.0 (certified r y)) mk h.1, h.2, h.3, sym (ex h.0.gtid) ∙ h.4)

pub none_open : (r : Setup) (m : Inc) (l : Life) → ((s : ℕ) (cs : List Change) → open_of r l s ≡ Some cs → ⊥) → Sessions r m l
none_open r m l n = record {
  fits = λ s cs e. absurd (n s cs e);
  free = λ s cs e. absurd (n s cs e);
  apart = λ s t cs ds e. absurd (n s cs e);
  asked = λ s cs e. absurd (n s cs e);
  idle = λ s cs e. absurd (n s cs e);
  handed = λ t a ds e o s cs h. absurd (n s cs h);
}

-- a place that was Done stood in the list
pub done_place : (r : Setup) (m : Inc) (n : ℕ) (l : Life) → LawfulLife r m l → list_any (finishes n) l ≡ true → (c : Cert) × Mem c (certified r (marked l)) × (c.place ≡ n) × (c.origin ≡ m → ⊥)
done_place r m n [] k h = absurd (false≢true h)
done_place r m n (d ∷ l) k h = go (or_cases (finishes n d) (list_any (finishes n) l) h) (done_place r m n l k.1)
  where
    grows : (x : (c : Cert) × Mem c (certified r (marked l)) × (c.place ≡ n) × (c.origin ≡ m → ⊥)) → (c : Cert) × Mem c (certified r (marked (d ∷ l))) × (c.place ≡ n) × (c.origin ≡ m → ⊥)
    grows x = (x.0, certified_past r (marked l) (marked (d ∷ l)) x.0 (marked_more r m d l k.1 k.0) x.1, x.2, x.3)

    by_did : (e : Did) → finishes n e ≡ true → LawfulDid r m l e → (c : Cert) × Mem c (certified r (marked l)) × (c.place ≡ n) × (c.origin ≡ m → ⊥)
    by_did (Finished p) e q = (q.0, q.1, q.2 ∙ eqb-true p n e, q.3)
    by_did Fell e q = absurd (false≢true e)
    by_did _ e q = absurd (false≢true e)

    go : (finishes n d ≡ true) ⊎ (list_any (finishes n) l ≡ true) → (list_any (finishes n) l ≡ true → (c : Cert) × Mem c (certified r (marked l)) × (c.place ≡ n) × (c.origin ≡ m → ⊥)) → (c : Cert) × Mem c (certified r (marked (d ∷ l))) × (c.place ≡ n) × (c.origin ≡ m → ⊥)
    go (inl e) rec = grows (by_did d e k.0)
    go (inr e) rec = grows (rec e)

-- a GTID that came into an executed set after an own value was made was committed since
pub committed_between : (r : Setup) (m : Inc) (g : Gtid) (v : Value) (a l : Life) → LawfulLife r m l → IsPast (Made v ∷ a) l → executed a g ≡ false → executed l g ≡ true → (b : Life) × IsPast (Committed g ∷ b) l
committed_between r m g v a [] k p n e = absurd (false≢true e)
committed_between r m g v a (d ∷ l) k (inl p) n e = absurd (both_ways (executed (d ∷ l) g) (subst (λ (y : Life). executed y g ≡ false) p n) e)
committed_between r m g v a (d ∷ l) k (inr p) n e = go (executed l g) refl (committed_between r m g v a l k.1 p n)
  where
    by_did : (c : Did) → LawfulDid r m l c → executed l g ≡ false → executed (c ∷ l) g ≡ true → IsPast (Made v ∷ a) l → (b : Life) × IsPast (Committed g ∷ b) (c ∷ l)
    by_did (Committed h) q f t u = pick (or_cases (gtid_eq h g) (executed l g) t)
      where
        pick : (gtid_eq h g ≡ true) ⊎ (executed l g ≡ true) → (b : Life) × IsPast (Committed g ∷ b) (Committed h ∷ l)
        pick (inl y) = (l, inl (ap (λ (w : Gtid). Committed w ∷ l) (sym (gtid_eq_same h g y))))
        pick (inr y) = absurd (both_ways (executed l g) f y)
    by_did (Started s) q f t u = let z : Made v ∷ a ≡ [] = subst (λ (y : Life). IsPast (Made v ∷ a) y) q.0 u in absurd (cc z)
    by_did Fell q f t u = absurd (both_ways (executed l g) f t)
    by_did _ q f t u = absurd (both_ways (executed l g) f t)

    go : (w : Bool) → executed l g ≡ w → (executed l g ≡ true → (b : Life) × IsPast (Committed g ∷ b) l) → (b : Life) × IsPast (Committed g ∷ b) (d ∷ l)
    go true f rec = let x = rec f in (x.0, inr x.1)
    go false f rec = by_did d k.0 f e p

-- the certified transaction of a place
pub at_place_is : (r : Setup) (n : ℕ) (ms : List Placed) (c : Cert) → Mem c (certified r ms) → c.place ≡ n → at_place n (certified r ms) ≡ Some c
at_place_is r n ms c i e = go (at_place n (certified r ms)) refl
  where
    passes : eqb c.place n ≡ true
    passes = ap (λ x. eqb x n) e ∙ eqb-self n

    go : (o : Option Cert) → at_place n (certified r ms) ≡ o → at_place n (certified r ms) ≡ Some c
    go None q = absurd (both_ways (eqb c.place n) (newest_none (λ (d : Cert). eqb d.place n) (certified r ms) c q i) passes)
    go (Some d) q =
        let x = newest_mem (λ (d : Cert). eqb d.place n) (certified r ms) d q in
        let dc : d ≡ c = same_place r ms d c x.0 i (eqb-true d.place n x.1 ∙ sym e) in
        q ∙ ap Some dc

-- numbers of an origin rise along a kept list
pub last_kept_mono : (r : Setup) (p k : List Value) (m : Inc) → IsPast p k → IsKeptList r k → last_kept p m ≤ last_kept k m
last_kept_mono r p [] m h l = let e : p ≡ [] = h in rw e (omega arith)
last_kept_mono r p (v ∷ k) m (inl e) l = rw e (omega arith)
last_kept_mono r p (v ∷ k) m (inr h) l = go (inc_eq v.origin m) refl (last_kept_mono r p k m h l.1)
  where
    go : (b : Bool) → inc_eq v.origin m ≡ b → last_kept p m ≤ last_kept k m → last_kept p m ≤ last_kept (v ∷ k) m
    go false e a = subst (λ (b : Bool). last_kept p m ≤ cond b v.number (last_kept k m)) (sym e) a
    go true e a =
        let o : v.origin ≡ m = inc_is v.origin m e in
        let n : v.number ≡ suc (last_kept k v.origin) = l.0.0 in
        let q : last_kept k v.origin ≡ last_kept k m = ap (last_kept k) o in
        subst (λ (b : Bool). last_kept p m ≤ cond b v.number (last_kept k m)) (sym e) (omega (arith, a, n, q))

module _ (r : Setup) (k : List Value) (w : World) (run : IsRun r k w) (m : Inc) where
  at : (a : World) → IsPast a w → Inv r k a
  at a h = AllPasts-at (Inv r k) a w (invs r k w run) h

  to_k : (a : World) → IsPast a w → (i : Inc) (c : Cert) → Mem c (certified r (marked (life a i))) → Mem c (certified r (scan r (taken (life a i))))
  to_k a h i c x = subst (λ (y : List Placed). Mem c (certified r y)) ((at a h).same i) x

  -- an open transaction has no key of a transaction that is committed now
  unhit : (a : World) → (pa : IsPast a w) → (g : Gtid) → (lc : LawfulCommit r m (life a m) g) → Sessions r m (life a m) → (s : ℕ) (cs : List Change) → open_of r (life a m) s ≡ Some cs → (ch : Change) → Mem ch cs → writes lc.cert ch.item ≡ false
  unhit a pa g lc z s cs o ch i = false_from_ne_true (writes lc.cert ch.item) (λ e. by_origin e (inc_eq lc.cert.origin m) refl)
    where
      l : Life
      l = life a m

      c : Cert
      c = lc.cert

      la : Lawful r a
      la = lawful_past r a w pa run.lawful

      ll : LawfulLife r m (life a m)
      ll = lawful_life r a m la

      p : List Value
      p = taken (life a m)

      c-in : Mem c (certified r (scan r (taken (life a m))))
      c-in = to_k a pa m lc.cert lc.here

      not-yet : executed (life a m) c.gtid ≡ false
      not-yet = ap (executed (life a m)) lc.is_it ∙ lc.uncommitted

      remote : writes lc.cert ch.item ≡ true → (lc.cert.origin ≡ m → ⊥) → ⊥
      remote e n = both_ways (executed (life a m) lc.cert.gtid) not-yet (z.free s cs o ch i lc.cert lc.here e (lc.done n))

      local : writes lc.cert ch.item ≡ true → lc.cert.origin ≡ m → ⊥
      local e q = ends (cases_order d.place c.place)
        where
          cv : CertValue (taken (life a m)) lc.cert
          cv = cert_value r (taken (life a m)) lc.cert c-in

          mb : MadeBy a cv.value
          mb = (at a pa).made m cv.value cv.there

          own : cv.value.origin ≡ m
          own = cv.origin ∙ q

          before : Life
          before = life mb.0 m

          made-l : IsPast (Made (as_made cv.value) ∷ life mb.0 m) (life a m)
          made-l = subst (λ (y : Inc). IsPast (Made (as_made cv.value) ∷ life mb.0 y) (life a y)) own (made_life a mb.0 cv.value mb.1)

          key : Mem ch.item lc.cert.txn.items
          key =
              let x = any_mem (item_eq ch.item) lc.cert.txn.items e in
              subst (λ (y : Item). Mem y lc.cert.txn.items) (sym (item_eq_same ch.item x.0 x.2)) x.1

          lost : Lost r (life a m) (life mb.0 m) ch.item
          lost = z.asked s cs o ch i (as_made cv.value) lc.cert.txn (life mb.0 m) made-l (ap unplaced cv.body) key (inr (lc.cert, lc.here, sym cv.number, q, not-yet))

          d : Cert
          d = lost.0

          d-in : Mem d (certified r (scan r (taken (life a m))))
          d-in = to_k a pa m lost.0 lost.1

          d-now : executed (life a m) d.gtid ≡ true
          d-now = z.free s cs o ch i lost.0 lost.1 lost.2 lost.3

          snap : IsNow (life mb.0 m) c.txn.snapshot
          snap =
              let lm = made_is r a mb.0 cv.value la mb.1 in
              let lb : LawfulBody r cv.value.origin (life mb.0 cv.value.origin) (Write lc.cert.txn) = subst (λ (y : Body). LawfulBody r cv.value.origin (life mb.0 cv.value.origin) y) (ap unplaced cv.body) lm.body in
              subst (λ (y : Inc). IsNow (life mb.0 y) lc.cert.txn.snapshot) own lb.0

          ends : (d.place ≡ c.place) ⊎ ((d.place < c.place) ⊎ (c.place < d.place)) → ⊥
          ends (inl x) =
              let dc : d ≡ c = same_place r (scan r (taken (life a m))) d c d-in c-in x in
              both_ways (executed (life a m) c.gtid) not-yet (subst (λ (y : Cert). executed (life a m) y.gtid ≡ true) dc d-now)
          ends (inr (inl x)) =
              let h = positive_has r (taken (life a m)) c d c-in d-in x (any_from (writes d) c.txn.items ch.item key lost.2) in
              both_ways (executed (life mb.0 m) d.gtid) lost.4 (sym (snap d.gtid) ∙ h)
          ends (inr (inr x)) = by_order lc2.order
            where
              cb : (b : Life) × IsPast (Committed d.gtid ∷ b) (life a m)
              cb = committed_between r m d.gtid (as_made cv.value) (life mb.0 m) (life a m) ll made-l lost.4 d-now

              wi : Within a m (Committed d.gtid) cb.0
              wi = within_run a m (Committed d.gtid) cb.0 cb.1

              b : World
              b = wi.past

              ba : IsPast b a
              ba = IsPast-tail (Does m (Committed d.gtid)) wi.past a wi.mark

              bw : IsPast b w
              bw = IsPast-trans wi.past a w ba pa

              lc2 : LawfulCommit r m (life b m) d.gtid
              lc2 = (lawful_past r (Does m (Committed d.gtid) ∷ wi.past) a wi.mark la).0

              d2-in : Mem lc2.cert (certified r (scan r (taken (life b m))))
              d2-in = to_k wi.past bw m lc2.cert lc2.here

              d2-is : lc2.cert ≡ d
              d2-is =
                  gtids_distinct r run.founding.block k lc2.cert d
                  (certified_mono r (taken (life wi.past m)) k lc2.cert ((at wi.past bw).past m) d2-in)
                  (certified_mono r (taken (life a m)) k d ((at a pa).past m) d-in) lc2.is_it

              far : d.place ≤ length (taken (life b m))
              far = subst (λ (y : Cert). y.place ≤ length (taken (life wi.past m))) d2-is (scan_place r (taken (life wi.past m)) lc2.cert d2-in)

              c-k : Mem c (certified r (scan r k))
              c-k = certified_mono r (taken (life a m)) k c ((at a pa).past m) c-in

              c-there : Mem c (certified r (marked (life b m)))
              c-there =
                  let y = certified_back r (taken (life wi.past m)) k c ((at wi.past bw).past m) c-k (omega (arith, far, x)) in
                  subst (λ (u : List Placed). Mem c (certified r u)) (sym ((at wi.past bw).same m)) y

              by_order : (lc2.cert.origin ≡ m) ⊎ ((e : Cert) → Mem e (certified r (marked (life b m))) → e.place < lc2.cert.place → executed (life b m) e.gtid ≡ true) → ⊥
              by_order (inl own2) =
                  let y = done_place r m d.place (life a m) ll lost.3 in
                  let f : y.0 ≡ d = same_place r (marked (life a m)) y.0 d y.1 lost.1 y.2 in
                  y.3 (ap (λ (u : Cert). u.origin) f ∙ ap (λ (u : Cert). u.origin) (sym d2-is) ∙ own2)
              by_order (inr all) =
                  let lt : c.place < lc2.cert.place = subst (λ (u : Cert). c.place < u.place) (sym d2-is) x in
                  let h = all c c-there lt in
                  both_ways (executed (life a m) c.gtid) not-yet (executed_mono r m (life wi.past m) (life a m) c.gtid ll (life_past wi.past a m ba) h)

      by_origin : writes lc.cert ch.item ≡ true → (b : Bool) → inc_eq lc.cert.origin m ≡ b → ⊥
      by_origin e true q = local e (inc_is lc.cert.origin m q)
      by_origin e false q = remote e (λ x. both_ways (inc_eq lc.cert.origin m) q (ap (λ (y : Inc). inc_eq y m) x ∙ inc_same m))

  parts_own : (n : ℕ) (o : Inc) (id : ℕ) (b : Body) (u : Outcome) (c : Cert) → cert_parts r n o id b u ≡ Some c → (c.id ≡ id) × (c.origin ≡ o)
  parts_own n o id (Write t) (Positive x) c h =
      let e : record { place = n; origin = o; id = id; gtid = record { source = r.limits.group; number = x }; txn = t } ≡ c = cc h in
      (ap (λ (d : Cert). d.id) (sym e), ap (λ (d : Cert). d.origin) (sym e))
  parts_own n o id (Write t) (Conflict g) c h = absurd (cc h)
  parts_own n o id (Write t) NoTxn c h = absurd (cc h)
  parts_own n o id (Executed s) u c h = absurd (cc h)
  parts_own n o id (Online s) u c h = absurd (cc h)
  parts_own n o id (Joins s) u c h = absurd (cc h)
  parts_own n o id (Leaves s) u c h = absurd (cc h)
  parts_own n o id (Prepared s) u c h = absurd (cc h)
  parts_own n o id (Switches s) u c h = absurd (cc h)
  parts_own n o id (Appoints s) u c h = absurd (cc h)
  parts_own n o id Plain u c h = absurd (cc h)

  sess_given : (l : Life) (base : List Placed) → LawfulLife r m l → Sessions r m l → LawfulGiven r m l base → Sessions r m (Given base ∷ l)
  sess_given l base k2 z q =
      step_open r m (Given base) l z
      (λ s cs e. inl (z.idle s cs e q.fresh))
      (λ s cs o e ch i. absurd (none cs ch (z.idle s cs o q.fresh) i))
      (λ s cs o e ch i c j x f. absurd (none cs ch (z.idle s cs o q.fresh) i))
      (λ s cs o e ch i v t a p b x. absurd (none cs ch (z.idle s cs o q.fresh) i))
      (λ g h. h)
      (λ c i. (let x : Mem c [] = subst (λ (y : List Placed). Mem c (certified r y)) (unready r m l k2 q.fresh) i in absurd x))
      (λ s cs o e ch i v x. absurd (none cs ch (z.idle s cs o q.fresh) i))
      (λ t a ds e. absurd (cc e))
      (λ h. q.fresh)
    where
      none : (cs : List Change) (ch : Change) → cs ≡ [] → Mem ch cs → ⊥
      none cs ch e i = subst (λ (y : List Change). Mem ch y) e i

  sess_made : (l : Life) (v : Value) → Sessions r m l → LawfulMade r m l v → Sessions r m (Made v ∷ l)
  sess_made l v z q =
      step_open r m (Made v) l z
      (λ s cs e. inr e)
      (λ s cs o e ch i. refl)
      (λ s cs o e ch i c j x f. (j, f))
      (λ s cs o e ch i u t a p b x. past s cs o ch i u t a b x p)
      (λ g h. h)
      (λ c i. i)
      (λ s cs o e ch i u x. x)
      (λ t a ds e. absurd (cc e))
      (λ h. h)
    where
      past : (s : ℕ) (cs : List Change) → open_of r l s ≡ Some cs → (ch : Change) → Mem ch cs → (u : Value) (t : Txn) (a : Life) → u.body ≡ Write t → Mem ch.item t.items → IsPast (Made u ∷ a) (Made v ∷ l) → IsPast (Made u ∷ a) l
      past s cs o ch i u t a b x (inr p) = p
      past s cs o ch i u t a b x (inl p) =
          let y : Made u ≡ Made v = cc p in
          let uv : u ≡ v = cc y in
          let vb : v.body ≡ Write t = ap (λ (y : Value). y.body) (sym uv) ∙ b in
          let lb : LawfulBody r m l (Write t) = subst (λ (y : Body). LawfulBody r m l y) vb q.body in
          let as' = lb.1.1 in
          let ky = as'.keys ch.item x in
          let h = z.handed lb.1.0.session as'.past t.changes as'.asked as'.changes s cs o ch ky.0 i ky.1 in
          absurd (both_ways (item_eq ch.item (ky.0).item) h (ap (item_eq ch.item) ky.2 ∙ item_eq_itself ch.item))

  sess_finished : (l : Life) (p : ℕ) → Sessions r m l → Sessions r m (Finished p ∷ l)
  sess_finished l p z =
      step_open r m (Finished p) l z
      (λ s cs e. inr (hit_open (at_place p (certified r (marked l))) (open_of r l s) cs e).0)
      (λ s cs o e ch i. refl)
      (λ s cs o e ch i c j x f. (j, old cs ch i c j x (hit_open (at_place p (certified r (marked l))) (open_of r l s) cs e).1 (or_cases (eqb p c.place) (is_done l c) f)))
      (λ s cs o e ch i v t a h b x. made_past (Finished p) v a l (λ y. absurd (cc y)) h)
      (λ g h. h)
      (λ c i. i)
      (λ s cs o e ch i u x. x)
      (λ t a ds e. absurd (cc e))
      (λ h. h)
    where
      old : (cs : List Change) (ch : Change) → Mem ch cs → (c : Cert) → Mem c (certified r (marked l)) → writes c ch.item ≡ true → hits (at_place p (certified r (marked l))) cs ≡ false → (eqb p c.place ≡ true) ⊎ (is_done l c ≡ true) → is_done l c ≡ true
      old cs ch i c j x h (inr f) = f
      old cs ch i c j x h (inl f) =
          let e = at_place_is r p (marked l) c j (sym (eqb-true p c.place f)) in
          let h2 : hits (Some c) cs ≡ false = subst (λ (y : Option Cert). hits y cs ≡ false) e h in
          absurd (both_ways (hits (Some c) cs) h2 (any_from (λ (y : Change). writes c y.item) cs ch i x))

  sess_took : (a : World) (e : Placed) → IsPast (Does m (Took e) ∷ a) w → Sessions r m (life a m) → Sessions r m (Took e ∷ life a m)
  sess_took a e pa z =
      step_open r m (Took e) (life a m) z
      (λ s cs h. inr h)
      (λ s cs o h ch i. rows_same ch.item)
      (λ s cs o h ch i c j x f. (old c j f, f))
      (λ s cs o h ch i v t b p x y. made_past (Took e) v b (life a m) (λ u. absurd (cc u)) p)
      (λ g h. h)
      (λ c i. cons_keeps (cert_of r (suc (length (marked (life a m)))) e) (certified r (marked (life a m))) c i)
      (λ s cs o h ch i v x. waits v x)
      (λ t b ds h. absurd (cc h))
      (λ h. h)
    where
      pw : IsPast a w
      pw = IsPast-tail (Does m (Took e)) a w pa

      la : Lawful r a
      la = lawful_past r a w pw run.lawful

      lt : LawfulTook r m (life a m) e
      lt = (lawful_past r (Does m (Took e) ∷ a) w pa run.lawful).0

      p : List Value
      p = taken (life a m)

      i1 : Inv r k (Does m (Took e) ∷ a)
      i1 = at (Does m (Took e) ∷ a) pa

      same1 : e ∷ marked (life a m) ≡ scan r (e.value ∷ taken (life a m))
      same1 = subst (λ (y : Life). marked y ≡ scan r (taken y)) (life_here a m (Took e)) (i1.same m)

      kept1 : IsKeptList r (e.value ∷ taken (life a m))
      kept1 = kept_past r (e.value ∷ taken (life a m)) k (subst (λ (y : Life). IsPast (taken y) k) (life_here a m (Took e)) (i1.past m)) run.kept

      none : (c : Cert) → Mem c (certified r (scan r (e.value ∷ taken (life a m)))) → length (taken (life a m)) < c.place → executed (life a m) c.gtid ≡ false
      none c i n = false_from_ne_true (executed (life a m) c.gtid) (λ h. no_way h)
        where
          no_way : executed (life a m) c.gtid ≡ true → ⊥
          no_way h =
              let x = (at a pw).within m lt.is_ready c.gtid h in
              let y = to_k a pw m x.0 x.1 in
              let q : x.0 ≡ c = gtids_distinct r run.founding.block (e.value ∷ taken (life a m)) x.0 c (certified_mono r (taken (life a m)) (e.value ∷ taken (life a m)) x.0 (inr (IsPast-self (taken (life a m)))) y) i x.2 in
              let b = scan_place r (taken (life a m)) x.0 y in
              let u : x.0.place ≡ c.place = ap (λ (z : Cert). z.place) q in
              omega (arith, b, u, n)

      rows_same : (j : Item) → rows_now r (life a m) j ≡ rows_now r (Took e ∷ life a m) j
      rows_same j =
          ap (λ (y : List Placed). rows_of (certified r y) (executed (life a m)) j) ((at a pw).same m)
          ∙ sym (rows_longer r (taken (life a m)) (e.value ∷ taken (life a m)) (executed (life a m)) j (inr (IsPast-self (taken (life a m)))) none)
          ∙ ap (λ (y : List Placed). rows_of (certified r y) (executed (life a m)) j) (sym same1)

      old : (c : Cert) → Mem c (certified r (e ∷ marked (life a m))) → is_done (life a m) c ≡ true → Mem c (certified r (marked (life a m)))
      old c j f =
          let y = done_place r m c.place (life a m) (lawful_life r a m la) f in
          let q : y.0 ≡ c = same_place r (e ∷ marked (life a m)) y.0 c (cons_keeps (cert_of r (suc (length (marked (life a m)))) e) (certified r (marked (life a m))) y.0 y.1) j y.2 in
          subst (λ (u : Cert). Mem u (certified r (marked (life a m)))) q y.1

      waits : (v : Value) → Waits r m (Took e ∷ life a m) v → Waits r m (life a m) v
      waits v (inl h) =
          let y = last_kept_mono r (taken (life a m)) (e.value ∷ taken (life a m)) m (inr (IsPast-self (taken (life a m)))) kept1 in
          inl (omega (arith, y, h))
      waits v (inr h) = split (cons_cases (cert_of r (suc (length (marked (life a m)))) e) (certified r (marked (life a m))) h.0 h.1)
        where
          split : (cert_of r (suc (length (marked (life a m)))) e ≡ Some h.0) ⊎ Mem h.0 (certified r (marked (life a m))) → Waits r m (life a m) v
          split (inr i) = inr (h.0, i, h.2, h.3, h.4)
          split (inl i) =
              let o = parts_own (suc (length (marked (life a m)))) e.value.origin e.value.number e.value.body e.outcome h.0 i in
              let n : e.value.number ≡ suc (last_kept (taken (life a m)) e.value.origin) = kept1.0.0 in
              let om : e.value.origin ≡ m = sym o.1 ∙ h.3 in
              let u : last_kept (taken (life a m)) e.value.origin ≡ last_kept (taken (life a m)) m = ap (last_kept (taken (life a m))) om in
              let x = o.0 in
              let y = h.2 in
              inl (omega (arith, n, u, x, y))

  sess_committed : (a : World) (g : Gtid) → IsPast (Does m (Committed g) ∷ a) w → Sessions r m (life a m) → Sessions r m (Committed g ∷ life a m)
  sess_committed a g pa z =
      step_open r m (Committed g) (life a m) z
      (λ s cs h. inr h)
      (λ s cs o h ch i. rows_same ch.item (unhit a pw g lc z s cs o ch i))
      (λ s cs o h ch i c j x f. (j, f))
      (λ s cs o h ch i v t b p x y. made_past (Committed g) v b (life a m) (λ u. absurd (cc u)) p)
      (λ h e. or_right (gtid_eq g h) (executed (life a m) h) e)
      (λ c i. i)
      (λ s cs o h ch i v x. waits v x)
      (λ t b ds h. absurd (cc h))
      (λ h. h)
    where
      pw : IsPast a w
      pw = IsPast-tail (Does m (Committed g)) a w pa

      la : Lawful r a
      la = lawful_past r a w pw run.lawful

      ja : Joint r k a
      ja = joint_past r k a w pw run.joint

      lc : LawfulCommit r m (life a m) g
      lc = (lawful_past r (Does m (Committed g) ∷ a) w pa run.lawful).0

      ia : Inv r k a
      ia = at a pw

      in_k : (c : Cert) → Mem c (certified r (marked (life a m))) → Mem c (certified r (scan r k))
      in_k c i = certified_mono r (taken (life a m)) k c (ia.past m) (to_k a pw m c i)

      cov : (c : Cert) → Mem c (certified r (marked (life a m))) → Covers c.txn
      cov c i = covers_known r k run.founding a la ia c (in_k c i) (record { who = m; cert = c; there = i; is_it = refl })

      rows_same : (j : Item) → writes lc.cert j ≡ false → rows_now r (life a m) j ≡ rows_now r (Committed g ∷ life a m) j
      rows_same j n =
          rows_agree (certified r (marked (life a m))) (executed (life a m)) (executed (Committed g ∷ life a m)) j (λ c i e. cov c i) (λ c i e. cov c i) (λ c i e. same_at c i e)
        where
          same_at : (c : Cert) → Mem c (certified r (marked (life a m))) → writes c j ≡ true → executed (life a m) c.gtid ≡ (gtid_eq g c.gtid || executed (life a m) c.gtid)
          same_at c i e =
              let f : gtid_eq g c.gtid ≡ false = false_from_ne_true (gtid_eq g c.gtid) (λ q. differs q) in
              subst (λ (b : Bool). executed (life a m) c.gtid ≡ (b || executed (life a m) c.gtid)) (sym f) refl
            where
              differs : gtid_eq g c.gtid ≡ true → ⊥
              differs q =
                  let x : lc.cert ≡ c = gtids_distinct r run.founding.block k lc.cert c (in_k lc.cert lc.here) (in_k c i) (lc.is_it ∙ gtid_eq_same g c.gtid q) in
                  both_ways (writes lc.cert j) n (ap (λ (u : Cert). writes u j) x ∙ e)

      waits : (v : Value) → Waits r m (Committed g ∷ life a m) v → Waits r m (life a m) v
      waits v (inl h) = inl h
      waits v (inr h) = inr (h.0, h.1, h.2, h.3, (or_parts (gtid_eq g h.0.gtid) (executed (life a m) h.0.gtid) h.4).1)

  sess_did : (a : World) (d : Did) → IsPast (Does m d ∷ a) w → LawfulDid r m (life a m) d → Sessions r m (life a m) → Sessions r m (d ∷ life a m)
  sess_did a (Started s) pa q z =
      none_open r m (Started s ∷ life a m) (λ t cs e. (let x : None ≡ Some cs = subst (λ (y : Life). open_of r y t ≡ Some cs) q.0 e in absurd (cc x)))
  sess_did a (Given base) pa q z = sess_given (life a m) base (lawful_life r a m (lawful_past r a w (IsPast-tail (Does m (Given base)) a w pa) run.lawful)) z q
  sess_did a (Made v) pa q z = sess_made (life a m) v z q
  sess_did a (Took e) pa q z = sess_took a e pa z
  sess_did a (Finished p) pa q z = sess_finished (life a m) p z
  sess_did a (Committed g) pa q z = sess_committed a g pa z
  sess_did a (Changed s ch) pa q z = step_changed r m s ch (life a m) z q
  sess_did a (Called t level sync) pa q z =
      step_quiet r m (Called t level sync) (life a m) z (λ v x. absurd (cc x)) refl (λ g. refl) (λ n. refl) refl (λ s cs e. opens s cs (cond_open (eqb t s) (Some []) (open_of r (life a m) s) cs e)) (λ u b ds e. absurd (cc e))
    where
      opens : (s : ℕ) (cs : List Change) → ((eqb t s ≡ true) × (Some [] ≡ Some cs)) ⊎ ((eqb t s ≡ false) × (open_of r (life a m) s ≡ Some cs)) → (cs ≡ []) ⊎ (open_of r (life a m) s ≡ Some cs)
      opens s cs (inl x) = let y : [] ≡ cs = cc x.1 in inl (sym y)
      opens s cs (inr x) = inr x.1
  sess_did a (Asked t) pa q z =
      step_quiet r m (Asked t) (life a m) z (λ v x. absurd (cc x)) refl (λ g. refl) (λ n. refl) refl (λ s cs e. inr (others s cs (cond_open (eqb t s) None (open_of r (life a m) s) cs e)).1) (λ u b ds e o s cs h ch dh i j. hand u b ds e o s cs h ch dh i j)
    where
      others : (s : ℕ) (cs : List Change) → ((eqb t s ≡ true) × (None ≡ Some cs)) ⊎ ((eqb t s ≡ false) × (open_of r (life a m) s ≡ Some cs)) → (eqb t s ≡ false) × (open_of r (life a m) s ≡ Some cs)
      others s cs (inl x) = absurd (cc x.1)
      others s cs (inr x) = x

      hand : (u : ℕ) (b : Life) (ds : List Change) → Asked t ∷ life a m ≡ Asked u ∷ b → open_of r b u ≡ Some ds → (s : ℕ) (cs : List Change) → open_of r (Asked t ∷ life a m) s ≡ Some cs → (ch dh : Change) → Mem ch cs → Mem dh ds → item_eq ch.item dh.item ≡ false
      hand u b ds e o s cs h ch dh i j =
          let x = others s cs (cond_open (eqb t s) None (open_of r (life a m) s) cs h) in
          let hd : Asked t ≡ Asked u = cc e in
          let tu : t ≡ u = cc hd in
          let lb : life a m ≡ b = cc e in
          let o2 : open_of r (life a m) t ≡ Some ds = ap (λ (y : Life). open_of r y t) lb ∙ ap (open_of r b) tu ∙ o in
          z.apart s t cs ds x.1 o2 (λ st. both_ways (eqb t s) x.0 (ap (eqb t) st ∙ eqb-self t)) ch dh i j
  sess_did a (Ended t) pa q z =
      step_quiet r m (Ended t) (life a m) z (λ v x. absurd (cc x)) refl (λ g. refl) (λ n. refl) refl (λ s cs e. inr (others s cs (cond_open (eqb t s) None (open_of r (life a m) s) cs e))) (λ u b ds e. absurd (cc e))
    where
      others : (s : ℕ) (cs : List Change) → ((eqb t s ≡ true) × (None ≡ Some cs)) ⊎ ((eqb t s ≡ false) × (open_of r (life a m) s ≡ Some cs)) → open_of r (life a m) s ≡ Some cs
      others s cs (inl x) = absurd (cc x.1)
      others s cs (inr x) = x.1
  sess_did a (Begun s) pa q z = step_quiet r m (Begun s) (life a m) z (λ v x. absurd (cc x)) refl (λ g. refl) (λ n. refl) refl (λ s cs e. inr e) (λ u b ds e. absurd (cc e))
  sess_did a (Acked s) pa q z = step_quiet r m (Acked s) (life a m) z (λ v x. absurd (cc x)) refl (λ g. refl) (λ n. refl) refl (λ s cs e. inr e) (λ u b ds e. absurd (cc e))
  sess_did a Fell pa q z = step_quiet r m Fell (life a m) z (λ v x. absurd (cc x)) refl (λ g. refl) (λ n. refl) refl (λ s cs e. inr e) (λ u b ds e. absurd (cc e))

  pub sessions : (a : World) → IsPast a w → Sessions r m (life a m)
  sessions [] h = no_sessions r m
  sessions (Does i d ∷ a) h = go (inc_eq i m) refl (sessions a (IsPast-tail (Does i d) a w h))
    where
      go : (b : Bool) → inc_eq i m ≡ b → Sessions r m (life a m) → Sessions r m (life (Does i d ∷ a) m)
      go false e z = subst (λ (b : Bool). Sessions r m (cond b (d ∷ life a m) (life a m))) (sym e) z
      go true e z =
          let q : i ≡ m = inc_is i m e in
          let h2 : IsPast (Does m d ∷ a) w = subst (λ (y : Inc). IsPast (Does y d ∷ a) w) q h in
          let ld = (lawful_past r (Does m d ∷ a) w h2 run.lawful).0 in
          subst (λ (b : Bool). Sessions r m (cond b (d ∷ life a m) (life a m))) (sym e) (sess_did a d h2 ld z)
  sessions (Writes t g y x ∷ a) h = sessions a (IsPast-tail (Writes t g y x) a w h)

-- the changes of a transaction fit the rows of the moment when its commit is asked
pub fits_now : (r : Setup) (k : List Value) (w : World) → IsRun r k w → (m : Inc) (a : World) → IsPast a w → (s : ℕ) (t : Txn) → Asks r (life a m) s t → Fits t.changes (rows_now r (life a m))
fits_now r k w run m a h s t q =
    let mk : IsPast (Asked s ∷ q.past) (life a m) = subst (λ (y : Life). IsPast y (life a m)) q.asked (IsPast-self (life a m)) in
    let x = within_run a m (Asked s) q.past mk in
    let b : IsPast x.past w = IsPast-trans x.past a w (IsPast-tail (Does m (Asked s)) x.past a x.mark) h in
    let z = sessions r k w run m x.past b in
    let o : open_of r (life x.past m) s ≡ Some t.changes = ap (λ (y : Life). open_of r y s) x.lived ∙ q.changes in
    let f : Fits t.changes (rows_now r (life x.past m)) = z.fits s t.changes o in
    let f2 : Fits t.changes (rows_now r (Asked s ∷ q.past)) = subst (λ (y : Life). Fits t.changes (rows_now r (Asked s ∷ y))) x.lived f in
    subst (λ (y : Life). Fits t.changes (rows_now r y)) (sym q.asked) f2
