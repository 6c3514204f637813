-- The numbers that a certifier gives, and the sets that members told it, are those of its life.
use Rattle.std.proofs.Common.{◌≡◌, ℕ, suc, Bool, true, false, cond, List, [], ◌∷◌, length, refl, ◌∙◌, sym, ap, subst}
use Rattle.std.specs.Prelude.{Option, Some, None}
use Rattle.std.proofs.lemmas.Bool.{false≢true}
use Rattle.gr_ids.specs.declared.names.Inc.{Inc}
use Rattle.gr_ids.specs.declared.names.ValueId.{ValueId}
use Rattle.gr_ids.specs.Names.{inc_eq, inc_lt}
use Rattle.gtid_sets.specs.Sets.{Gtids}
use Rattle.slot_values.specs.declared.value.What.{What}
use Rattle.slot_values.specs.declared.value.What.TheVariants.{Noop, Add, Remove, Body as Says}
use Rattle.txn_forms.specs.declared.body.Body.{Body}
use Rattle.txn_forms.specs.declared.body.Body.TheVariants.{Txn as Writes, Executed, Online as Arrives}
use Rattle.group_rules.specs.Names.{LastNumber, ToldSet, KeptItem}
use Rattle.group_rules.specs.declared.marks.Effect.{Effect}
use Rattle.group_rules.specs.declared.marks.Effect.TheVariants.{Plain, Void, Unread, Positive, Conflict}
use Rattle.group_rules.specs.Events.{Founds, Starts, Made, Took, Is, Answered, Restores, Enters, Life, Setup, Entry}
use Rattle.group_rules.specs.Life.{view}
use Rattle.group_rules.specs.View.{View}
use Rattle.group_rules.specs.Told.{told, told_of, with_told, told_after, tells}
use Rattle.group_rules.specs.Certifier.{Certifier, opens_block, certifier, certified_by, with_entry, forget_stable, last_of, with_last, next_gtid, number_after}
use Rattle.group_laws.specs.Entries as law
use Rattle.group_laws.specs.View as seen
use Rattle.group_laws.specs.Verdict as decided
use Rattle.group_laws.specs.Life as lives
use Rattle.node_rules.proofs.Incs.{inc_is}
use Rattle.group_lives.specs.Given.{IsHere}
use Rattle.group_lives.specs.Lives.{does_entry, outcome_of, life_of}
use Rattle.group_lives.specs.Sound.{IsEffect, IsTaking}
use Rattle.group_lives.proofs.Taking.{skip_answer, skip_state, skip_made}

-- two names that differ are not both the same as a third
apart : (a b m : Inc) → inc_eq a b ≡ false → inc_eq b m ≡ true → inc_eq a m ≡ false
apart a b m h k = subst (λ (z : Inc). inc_eq a z ≡ false) (inc_is b m k) h

-- ---- the last number of each

-- the last number that `m` had, if `n` is noted after `was`
abbrev noted : LastNumber → Inc → Option ℕ → Option ℕ
noted n m was = cond (inc_eq n.inc m) (Some n.number) was

last_with : (xs : List LastNumber) (n : LastNumber) (m : Inc) → last_of (with_last xs n) m ≡ noted n m (last_of xs m)
last_with [] n m = go (inc_eq n.inc m) refl
  where
    go : (b : Bool) → inc_eq n.inc m ≡ b → last_of (n ∷ []) m ≡ noted n m None
    go true e = rw (e, last_of) refl
    go false e = rw (e, last_of) refl
last_with (x ∷ xs) n m = go (inc_lt n.inc x.inc) (inc_eq n.inc x.inc) (inc_eq n.inc m) (inc_eq x.inc m) refl refl refl refl (last_with xs n m)
  where
    go : (l e a b : Bool) → inc_lt n.inc x.inc ≡ l → inc_eq n.inc x.inc ≡ e → inc_eq n.inc m ≡ a → inc_eq x.inc m ≡ b
        → last_of (with_last xs n) m ≡ noted n m (last_of xs m) → last_of (with_last (x ∷ xs) n) m ≡ noted n m (last_of (x ∷ xs) m)
    go true e true b p q r s k = rw (p, r, with_last, last_of) refl
    go true e false b p q r s k = rw (p, r, with_last, last_of) refl
    go false true true b p q r s k = rw (p, q, r, with_last, last_of) refl
    go false true false true p q r s k = absurd (false≢true (sym r ∙ ap (λ (z : Inc). inc_eq z m) (inc_is n.inc x.inc q) ∙ s))
    go false true false false p q r s k = rw (p, q, r, s, with_last, last_of) refl
    go false false true true p q r s k = absurd (false≢true (sym (apart n.inc x.inc m q s) ∙ r))
    go false false true false p q r s k = rw (p, q, r, s, with_last, last_of) (k ∙ ap (λ (z : Bool). cond z (Some n.number) (last_of xs m)) r)
    go false false false true p q r s k = rw (p, q, r, s, with_last, last_of) refl
    go false false false false p q r s k = rw (p, q, r, s, with_last, last_of) (k ∙ ap (λ (z : Bool). cond z (Some n.number) (last_of xs m)) r)

-- ---- the numbers given

-- those that were removed stay so
gone_more : (m o : Inc) (b : law.Body) (x : seen.Standing) → x ≡ seen.Gone → seen.stands_after m o b x ≡ seen.Gone
gone_more m o b x e = ap (seen.stands_after m o b) e ∙ go b
  where
    same : (t : Bool) → cond t seen.Gone seen.Gone ≡ seen.Gone
    same true = refl
    same false = refl

    go : (b : law.Body) → seen.stands_after m o b seen.Gone ≡ seen.Gone
    go (law.Online t) = same (inc_eq o m)
    go (law.Joins j) = same (inc_eq j.inc m)
    go (law.Leaves j) = same (inc_eq j m)
    go (law.Write t) = refl
    go (law.Executed t) = refl
    go (law.Prepared t) = refl
    go (law.Switches t) = refl
    go (law.Appoints t) = refl
    go law.Plain = refl

forgets : (s : Setup) (l : Life) (c : Certifier) (ks : List KeptItem) → ((forget_stable s l c ks).last ≡ c.last) × ((forget_stable s l c ks).blocks ≡ c.blocks)
forgets s l c [] = (refl, refl)
forgets s l c (k ∷ ks) = (refl, refl)

module _ (s : Setup) (m : Inc) (base : List law.Placed) where
  -- the last number of `m` in the list, and how many blocks are taken
  abbrev pub last_in : List law.Cert → Option ℕ
  last_in cs = decided.number_in (decided.last_of m cs)

  abbrev pub taken_in : List law.Cert → ℕ
  taken_in cs = decided.blocks_taken s.limits.block cs

  abbrev pub SameNumbers : Type 0 → Certifier → List law.Cert → Type 0
  SameNumbers P c cs = (P → last_of c.last m ≡ last_in cs) × (c.blocks ≡ taken_in cs)

  number_here : (v : View) (p n : ℕ) (i : ValueId) (w : What) (b : Option Body) (e : Effect) (c : Certifier) (cs : List law.Cert) (P : Type 0) → IsEffect s v w b e → SameNumbers P c cs
      → SameNumbers P (certified_by s.limits p i.origin e b c) (law.cons_some (law.cert_parts s n i.origin i.number (does_entry w e b) (outcome_of e)) cs)
  number_here v p n i (Says y) (Some (Writes t)) (Positive g) c cs P f h = ((λ q. go q (inc_eq i.origin m) refl), ap (λ (n : ℕ). cond (opens_block s.limits.block g.number) (suc n) n) h.1)
    where
      go : P → (b : Bool) → inc_eq i.origin m ≡ b → last_of (with_last c.last (record { inc = i.origin; number = g.number })) m
          ≡ last_in (law.cons_some (law.cert_parts s n i.origin i.number (law.Write t) (law.Positive g.number)) cs)
      go q true e = last_with c.last (record { inc = i.origin; number = g.number }) m ∙ rw e refl
      go q false e = last_with c.last (record { inc = i.origin; number = g.number }) m ∙ rw e (h.0 q)
  number_here v p n i (Says y) (Some (Writes t)) (Conflict g) c cs P f h = h
  number_here v p n i (Says y) (Some (Writes t)) Plain c cs P f h = absurd f
  number_here v p n i (Says y) (Some (Writes t)) Void c cs P f h = absurd f
  number_here v p n i (Says y) (Some (Writes t)) Unread c cs P f h = absurd f
  number_here v p n i (Says y) None Plain c cs P f h = h
  number_here v p n i (Says y) None (Positive g) c cs P f h = h
  number_here v p n i (Says y) None e c cs P f h = h
  number_here v p n i (Says y) (Some b) (Positive g) c cs P f h = h
  number_here v p n i (Says y) (Some b) e c cs P f h = h
  number_here v p n i Noop (Some b) e c cs P f h = absurd f
  number_here v p n i (Add j) (Some b) e c cs P f h = absurd f
  number_here v p n i (Remove j) (Some b) e c cs P f h = absurd f
  number_here v p n i Noop None (Positive g) c cs P f h = h
  number_here v p n i Noop None e c cs P f h = h
  number_here v p n i (Add j) None Plain c cs P f h = h
  number_here v p n i (Add j) None (Positive g) c cs P f h = h
  number_here v p n i (Add j) None e c cs P f h = h
  number_here v p n i (Remove j) None Plain c cs P f h = h
  number_here v p n i (Remove j) None (Positive g) c cs P f h = h
  number_here v p n i (Remove j) None e c cs P f h = h

  abbrev list_of : Life → List law.Value
  list_of l = lives.taken (life_of base l)

  abbrev Here : Life → Type 0
  Here l = IsHere s (list_of l) m

  was_here : (l : Life) (e : Entry) → Here (Took e ∷ l) → Here l
  was_here l e h g = h (gone_more m e.value.id.origin (does_entry e.value.what e.effect e.holds) (seen.standing s (list_of l) m) g)

  abbrev Numbers : Certifier → List law.Placed → Type 0
  Numbers c ps = SameNumbers (IsHere s (law.values ps) m) c (law.certified s ps)

  moved : (c : Certifier) (p q : List law.Placed) → p ≡ q → Numbers c q → Numbers c p
  moved c p q e h = subst (Numbers c) (sym e) h

  pub same_numbers : (l : Life) → IsTaking s base l → Numbers (certifier s l) (lives.marked (life_of base l))
  same_numbers [] h = absurd h
  same_numbers (Founds ∷ l) h = subst (λ (y : Life). Numbers (certifier s y) (lives.marked (life_of base y))) (sym h) ((λ k. refl), refl)
  same_numbers (Took e ∷ l) h =
      let r = same_numbers l h.1 in
      let k = number_here (view s l) e.place (suc (length (lives.marked (life_of base l)))) e.value.id e.value.what e.holds e.effect (certifier s l) (law.certified s (lives.marked (life_of base l))) (Here (Took e ∷ l)) h.0.1 ((λ z. r.0 (was_here l e z)), r.1) in
      let c = with_entry s.limits e (certifier s l) in
      let f = forgets s (Took e ∷ l) c c.items in
      ((λ z. ap (λ xs. last_of xs m) f.0 ∙ k.0 z), f.1 ∙ k.1)
  same_numbers (Restores g cs ∷ l) h = (h.last m, h.blocks)
  same_numbers (Enters w ∷ l) h = absurd h
  same_numbers (Starts x ∷ l) h = absurd h
  same_numbers (Answered n a ∷ l) h = moved (certifier s l) (lives.marked (life_of base (Answered n a ∷ l))) (lives.marked (life_of base l)) (skip_answer base n a l (life_of base l)) (same_numbers l h)
  same_numbers (Is x c ∷ l) h = moved (certifier s l) (lives.marked (life_of base (Is x c ∷ l))) (lives.marked (life_of base l)) (skip_state base x c l (life_of base l)) (same_numbers l h)
  same_numbers (Made v b ∷ l) h = moved (certifier s l) (lives.marked (life_of base (Made v b ∷ l))) (lives.marked (life_of base l)) (skip_made v b l (life_of base l)) (same_numbers l h)
  same_numbers (d ∷ l) h = same_numbers l h

  pub numbers_agree : (l : Life) → IsTaking s base l → Here l
      → (next_gtid s.limits (certifier s l) m).number ≡ decided.next_number s (law.certified s (lives.marked (life_of base l))) m
  numbers_agree l h z = let k = same_numbers l h in λ j. number_after s.limits.block (k.1 j) (k.0 z j)

-- ---- told sets

-- the last set that `m` told, if `t` is told after `was`
abbrev told_more : ToldSet → Inc → Option Gtids → Option Gtids
told_more t m was = cond (inc_eq t.inc m) (Some t.set) was

told_with : (xs : List ToldSet) (t : ToldSet) (m : Inc) → told_of (with_told xs t) m ≡ told_more t m (told_of xs m)
told_with [] t m = go (inc_eq t.inc m) refl
  where
    go : (b : Bool) → inc_eq t.inc m ≡ b → told_of (t ∷ []) m ≡ told_more t m None
    go true e = rw (e, told_of) refl
    go false e = rw (e, told_of) refl
told_with (x ∷ xs) t m = go (inc_lt t.inc x.inc) (inc_eq t.inc x.inc) (inc_eq t.inc m) (inc_eq x.inc m) refl refl refl refl (told_with xs t m)
  where
    go : (l e a b : Bool) → inc_lt t.inc x.inc ≡ l → inc_eq t.inc x.inc ≡ e → inc_eq t.inc m ≡ a → inc_eq x.inc m ≡ b
        → told_of (with_told xs t) m ≡ told_more t m (told_of xs m) → told_of (with_told (x ∷ xs) t) m ≡ told_more t m (told_of (x ∷ xs) m)
    go true e true b p q r s k = rw (p, r, with_told, told_of) refl
    go true e false b p q r s k = rw (p, r, with_told, told_of) refl
    go false true true b p q r s k = rw (p, q, r, with_told, told_of) refl
    go false true false true p q r s k = absurd (false≢true (sym r ∙ ap (λ (z : Inc). inc_eq z m) (inc_is t.inc x.inc q) ∙ s))
    go false true false false p q r s k = rw (p, q, r, s, with_told, told_of) refl
    go false false true true p q r s k = absurd (false≢true (sym (apart t.inc x.inc m q s) ∙ r))
    go false false true false p q r s k = rw (p, q, r, s, with_told, told_of) (k ∙ ap (λ (z : Bool). cond z (Some t.set) (told_of xs m)) r)
    go false false false true p q r s k = rw (p, q, r, s, with_told, told_of) refl
    go false false false false p q r s k = rw (p, q, r, s, with_told, told_of) (k ∙ ap (λ (z : Bool). cond z (Some t.set) (told_of xs m)) r)

-- what an entry tells, by its effect and what its place holds
set_here : (s : Setup) (v : View) (w : What) (b : Option Body) (e : Effect) → IsEffect s v w b e → seen.set_told (does_entry w e b) ≡ tells b
set_here s v (Says x) None e h = refl
set_here s v (Says x) (Some b) e h = by_body b
  where
    by_body : (y : Body) → seen.set_told (does_entry (Says x) e (Some y)) ≡ tells (Some y)
    by_body (Executed t) = refl
    by_body (Arrives t) = refl
    by_body y = refl
set_here s v Noop (Some b) e h = absurd h
set_here s v (Add j) (Some b) e h = absurd h
set_here s v (Remove j) (Some b) e h = absurd h
set_here s v Noop None e h = refl
set_here s v (Add j) None Plain h = refl
set_here s v (Add j) None e h = refl
set_here s v (Remove j) None Plain h = refl
set_here s v (Remove j) None e h = refl

-- the last set of `m` after one entry more
pub told_here : (e : Entry) (o : Option Gtids) (ts : List ToldSet) (m : Inc) → told_of (told_after e o ts) m ≡ seen.first_some (cond (inc_eq e.value.id.origin m) o None) (told_of ts m)
told_here e None ts m = go (inc_eq e.value.id.origin m)
  where
    go : (b : Bool) → told_of ts m ≡ seen.first_some {A = Gtids} (cond b None None) (told_of ts m)
    go true = refl
    go false = refl
told_here e (Some t) ts m = told_with ts (record { inc = e.value.id.origin; set = t }) m ∙ go (inc_eq e.value.id.origin m)
  where
    go : (b : Bool) → cond b (Some t) (told_of ts m) ≡ seen.first_some (cond b (Some t) None) (told_of ts m)
    go true = refl
    go false = refl

-- Of one that is ONLINE after an entry more: it was ONLINE before, or tells its set now.
told_more_here : (o m : Inc) (b : law.Body) (st : seen.Standing) (x y : Option Gtids) → seen.is_active (seen.stands_after m o b st) ≡ true → (seen.is_active st ≡ true → x ≡ y)
    → seen.first_some (cond (inc_eq o m) (seen.set_told b) None) x ≡ seen.first_some (cond (inc_eq o m) (seen.set_told b) None) y
told_more_here o m b st x y a f = by_body b a
  where
    silent : (t : Bool) → x ≡ y → seen.first_some {A = Gtids} (cond t None None) x ≡ seen.first_some {A = Gtids} (cond t None None) y
    silent true e = e
    silent false e = e

    joined : (t : Bool) (z : seen.Standing) → seen.is_active (cond t (seen.on_join z) z) ≡ true → seen.is_active z ≡ true
    joined false z h = h
    joined true seen.Absent h = h
    joined true seen.Recovering h = h
    joined true seen.Active h = h
    joined true seen.Gone h = h

    left : (t : Bool) (z : seen.Standing) → seen.is_active (cond t (seen.on_leave z) z) ≡ true → seen.is_active z ≡ true
    left false z h = h
    left true seen.Absent h = h
    left true seen.Recovering h = absurd (false≢true h)
    left true seen.Active h = refl
    left true seen.Gone h = h

    telling : (t : Bool) (z : seen.Standing) (q : Gtids) → seen.is_active (cond t z st) ≡ true → seen.first_some (cond t (Some q) None) x ≡ seen.first_some (cond t (Some q) None) y
    telling true z q h = refl
    telling false z q h = f h

    by_body : (b : law.Body) → seen.is_active (seen.stands_after m o b st) ≡ true → seen.first_some (cond (inc_eq o m) (seen.set_told b) None) x ≡ seen.first_some (cond (inc_eq o m) (seen.set_told b) None) y
    by_body (law.Online t) h = telling (inc_eq o m) (seen.on_online st) t h
    by_body (law.Executed t) h = told_now (inc_eq o m)
      where
        told_now : (t2 : Bool) → seen.first_some (cond t2 (Some t) None) x ≡ seen.first_some (cond t2 (Some t) None) y
        told_now true = refl
        told_now false = f h
    by_body (law.Joins j) h = silent (inc_eq o m) (f (joined (inc_eq j.inc m) st h))
    by_body (law.Leaves j) h = silent (inc_eq o m) (f (left (inc_eq j m) st h))
    by_body (law.Write t) h = silent (inc_eq o m) (f h)
    by_body (law.Prepared t) h = silent (inc_eq o m) (f h)
    by_body (law.Switches t) h = silent (inc_eq o m) (f h)
    by_body (law.Appoints t) h = silent (inc_eq o m) (f h)
    by_body law.Plain h = silent (inc_eq o m) (f h)

module _ (s : Setup) (base : List law.Placed) (m : Inc) where
  -- of one that is ONLINE after this list
  abbrev SameTold : List law.Value → List ToldSet → Type 0
  SameTold p ts = seen.active s p m ≡ true → told_of ts m ≡ seen.told p m

  abbrev told_list : Life → List law.Value
  told_list l = lives.taken (life_of base l)

  carried : (ts : List ToldSet) (p q : List law.Value) → p ≡ q → SameTold q ts → SameTold p ts
  carried ts p q e h = subst (λ (y : List law.Value). SameTold y ts) (sym e) h

  pub told_agrees : (l : Life) → IsTaking s base l → SameTold (told_list l) (told l)
  told_agrees [] h = absurd h
  told_agrees (Founds ∷ l) h = subst (λ (y : Life). SameTold (told_list y) (told y)) (sym h) (λ a. refl)
  told_agrees (Took e ∷ l) h = λ a.
      let o = e.value.id.origin in
      told_here e (tells e.holds) (told l) m
      ∙ (λ k. seen.first_some (cond (inc_eq o m) (sym (set_here s (view s l) e.value.what e.holds e.effect h.0.1) k) None) (told_of (told l) m))
      ∙ told_more_here o m (does_entry e.value.what e.effect e.holds) (seen.standing s (told_list l) m) (told_of (told l) m) (seen.told (told_list l) m) a (told_agrees l h.1)
  told_agrees (Restores g cs ∷ l) h = h.told m
  told_agrees (Enters w ∷ l) h = absurd h
  told_agrees (Starts x ∷ l) h = absurd h
  told_agrees (Answered k a ∷ l) h = carried (told l) (told_list (Answered k a ∷ l)) (told_list l) (ap law.values (skip_answer base k a l (life_of base l))) (told_agrees l h)
  told_agrees (Is x c ∷ l) h = carried (told l) (told_list (Is x c ∷ l)) (told_list l) (ap law.values (skip_state base x c l (life_of base l))) (told_agrees l h)
  told_agrees (Made v b ∷ l) h = carried (told l) (told_list (Made v b ∷ l)) (told_list l) (ap law.values (skip_made v b l (life_of base l))) (told_agrees l h)
  told_agrees (d ∷ l) h = told_agrees l h
