-- What a commit and a Prepared entry ask of a life.
use Rattle.std.proofs.Common.{◌≡◌, ◌⊎◌, inl, inr, ℕ, suc, ◌≤◌, Bool, true, false, cond, not, ◌&&◌, ◌||◌, Option, Some, None, List, [], ◌∷◌, ◌++◌, refl, sym, ap, subst, ◌∙◌, length, arith}
use Rattle.std.specs.Prelude.{nat_lt, nat_le, filter}
use Rattle.std.specs.List.{list_any, list_all}
use Rattle.std.proofs.lemmas.Bool.{false≢true, cases_Bool, or_cases, or_left, or_right, and_parts, and_from, not-true, leb-true, leb-false}
use Rattle.gr_ids.specs.Names.{inc_eq}
use Rattle.gr_ids.specs.declared.names.Inc.{Inc}
use Rattle.gr_ids.specs.declared.names.Gtid.{Gtid}
use Rattle.gtid_sets.specs.Sets.{has}
use Rattle.slot_values.specs.declared.value.What.{What}
use Rattle.slot_values.specs.declared.value.What.TheVariants.{Noop, Add, Remove, Body as Says}
use Rattle.txn_forms.specs.declared.body.Body.{Body}
use Rattle.txn_forms.specs.declared.body.Body.TheVariants.{Txn as Writes, Prepared, Sync, Executed, Online as Arrives, Mode as Switches, Primary as Appoints, Part as PartOf}
use Rattle.node_rules.specs.Lists.{In}
use Rattle.node_rules.specs.declared.seat.Seat.{Seat}
use Rattle.node_rules.proofs.Incs.{inc_is, inc_same}
use Rattle.group_rules.specs.declared.marks.Effect.{Effect}
use Rattle.group_rules.specs.Events.{Founds, Starts, Came, Made, Took, Skips, Done, Committed, Is, Gave, Answered, Begun, Changed, Replied, Called, AsksCommit, Ends, Enters, Restores, AskFails, Hears, Ticks, Works, Calls, Operates, Life, Setup, Entry, Cert}
use Rattle.group_bridge.specs.Moves.{slots_in}
use Rattle.group_rules.specs.Life.{executed, certs, view, entry_at, upto}
use Rattle.group_rules.specs.View.{View, seated, is_online_state, is_online, is_seated}
use Rattle.group_rules.specs.Queue.{is_done, is_own}
use Rattle.group_rules.specs.Commit.{required, prepares, has_prepared, complete, is_settled, is_prepared}
use Rattle.group_laws.specs.Lists.{Mem}
use Rattle.group_laws.specs.Entries as law
use Rattle.group_laws.specs.View as seen
use Rattle.group_laws.specs.Primary as primary
use Rattle.group_laws.specs.Life as lives
use Rattle.group_laws.specs.Lawful as lawful
use Rattle.group_laws.specs.Lawful.{Requires, HasPrepared, Complete, Settled, IsPrepared, LawfulCommit}
use Rattle.group_laws.proofs.Names.{gtid_eq_same}
use Rattle.group_laws.proofs.Views.{rank, rank_up}
use Rattle.group_laws.proofs.Acks.{upto_is_past}
use Rattle.group_lives.specs.Lives.{does_entry, placed, life_of}
use Rattle.group_lives.specs.Sound.{IsEffect, AddsNew}
use Rattle.group_lives.proofs.Taking.{views_agree, skip_made, skip_answer, skip_state}
use Rattle.group_lives.proofs.Standings.{stands}
use Rattle.group_lives.proofs.Stable.{is_there}
use Rattle.group_lawful.specs.Lived.{Lived}
use Rattle.group_lawful.specs.Knows.{Alike, certified_of, Sound, AlwaysSound}
use Rattle.group_lawful.proofs.Marks.{done_as}
use Rattle.group_lawful.proofs.Known.{took_at, sound_took, empty_before}

end_none : (xs : List ℕ) (x : ℕ) → xs ++ x ∷ [] ≡ [] → ⊥
end_none [] x e = absurd (cc e)
end_none (y ∷ xs) x e = absurd (cc e)

-- ---- lists

pub all_in : {A : Type 0} (test : A → Bool) (xs : List A) (x : A) → list_all test xs ≡ true → In x xs → test x ≡ true
all_in test [] x h m = absurd m
all_in test (y ∷ ys) x h (inl e) = ap test (sym e) ∙ (and_parts (test y) (list_all test ys) h).0
all_in test (y ∷ ys) x h (inr m) = all_in test ys x (and_parts (test y) (list_all test ys) h).1 m

in_all : {A : Type 0} (test : A → Bool) (xs : List A) → ((x : A) → In x xs → test x ≡ true) → list_all test xs ≡ true
in_all test [] f = refl
in_all test (y ∷ ys) f = and_from (test y) (list_all test ys) (f y (inl refl)) (in_all test ys (λ x m. f x (inr m)))

pub in_mem : {A : Type 0} (x : A) (xs : List A) → Mem x xs → In x xs
in_mem x [] m = m
in_mem x (y ∷ ys) (inl e) = inl e
in_mem x (y ∷ ys) (inr m) = inr (in_mem x ys m)

-- ---- settled and prepared

values_length : (xs : List law.Placed) → length (law.values xs) ≡ length xs
values_length [] = refl
values_length (x ∷ xs) = ap suc (values_length xs)

pub upto_values : (n : ℕ) (xs : List law.Placed) → law.values (lawful.upto n xs) ≡ lawful.upto n (law.values xs)
upto_values n [] = refl
upto_values n (x ∷ xs) = go (nat_le (suc (length xs)) n) refl (upto_values n xs)
  where
    go : (b : Bool) → nat_le (suc (length xs)) n ≡ b → law.values (lawful.upto n xs) ≡ lawful.upto n (law.values xs) → law.values (lawful.upto n (x ∷ xs)) ≡ lawful.upto n (law.values (x ∷ xs))
    go b e h =
        ap (λ c. law.values (cond c (x ∷ xs) (lawful.upto n xs))) e
        ∙ by b h
        ∙ ap (λ c. cond c (law.values (x ∷ xs)) (lawful.upto n (law.values xs))) (sym (ap (λ m. nat_le (suc m) n) (values_length xs) ∙ e))
      where
        by : (b : Bool) → law.values (lawful.upto n xs) ≡ lawful.upto n (law.values xs) → law.values (cond b (x ∷ xs) (lawful.upto n xs)) ≡ cond b (law.values (x ∷ xs)) (lawful.upto n (law.values xs))
        by true h = refl
        by false h = h

module _ (t : Setup) (i : Inc) (base : List law.Placed) where
  -- the sets of the history are those of its life
  abbrev pub SameSets : Life → Type 0
  SameSets l = (g : Gtid) → lives.executed (life_of base l) g ≡ has (executed l) g

  settled_as : (l : Life) → SameSets l → (c : Cert) (d : law.Cert) → Alike c d → is_settled l i (executed l) c ≡ true → Settled (life_of base l) i d
  settled_as l s c d a h = elim (or_cases (is_own i c) (has (executed l) c.gtid || is_done l c.place) h) [
    | inl q ↦ inr (inl (sym a.origin ∙ inc_is c.id.origin i q))
    | inr q ↦ elim (or_cases (has (executed l) c.gtid) (is_done l c.place) q) [
      | inl z ↦ inr (inr (s d.gtid ∙ ap (has (executed l)) (sym a.gtid) ∙ z))
      | inr z ↦ inl (done_as t i base l d.place ∙ ap (is_done l) (sym a.place) ∙ z)
    ]
  ]

  settled_back : (l : Life) → SameSets l → (c : Cert) (d : law.Cert) → Alike c d → Settled (life_of base l) i d → is_settled l i (executed l) c ≡ true
  settled_back l s c d a (inl h) = or_right (is_own i c) (has (executed l) c.gtid || is_done l c.place) (or_right (has (executed l) c.gtid) (is_done l c.place) (ap (is_done l) a.place ∙ sym (done_as t i base l d.place) ∙ h))
  settled_back l s c d a (inr (inl h)) = or_left (is_own i c) (has (executed l) c.gtid || is_done l c.place) (ap (λ y. inc_eq y i) (a.origin ∙ h) ∙ inc_same i)
  settled_back l s c d a (inr (inr h)) = or_right (is_own i c) (has (executed l) c.gtid || is_done l c.place) (or_left (has (executed l) c.gtid) (is_done l c.place) (ap (has (executed l)) a.gtid ∙ sym (s d.gtid) ∙ h))

  below_or : (a b : ℕ) (x : Bool) → (nat_lt a b || x) ≡ true → b ≤ a → x ≡ true
  below_or a b x h n = elim (or_cases (nat_lt a b) x h) [ inl q ↦ (let z = leb-true (suc a) b q in absurd (omega (arith, z, n))) | inr q ↦ q ]

  or_below : (a b : ℕ) (x : Bool) → (b ≤ a → x ≡ true) → (nat_lt a b || x) ≡ true
  or_below a b x f = elim (cases_Bool (nat_lt a b)) [
    | inl q ↦ or_left (nat_lt a b) x q
    | inr q ↦ or_right (nat_lt a b) x (f (let z = leb-false (suc a) b q in omega (arith, z)))
  ]

  -- a transaction that is prepared by the history is so by its life
  pub prepared_as : (l : Life) → Sound t i base l → SameSets l → (c : Cert) → In c (certs l) → is_prepared l i c ≡ true → (d : law.Cert) × Alike c d × IsPrepared t (life_of base l) i d
  prepared_as l o s c m h =
      let d = o.knows.of_list c m in
      (d.0, d.2, (d.1, by d.0 d.2 (is_own i c) refl))
    where
      by : (d : law.Cert) → Alike c d → (b : Bool) → is_own i c ≡ b → (d.origin ≡ i) ⊎ ((e : law.Cert) → Mem e (certified_of t base l) → e.place ≤ d.place → Settled (life_of base l) i e)
      by d a true q = inl (sym a.origin ∙ inc_is c.id.origin i q)
      by d a false q = inr (λ e n le. elim (o.knows.all e n) [
        | inl k ↦ settled_as l s k.0 e k.2 (below_or c.place k.0.place (is_settled l i (executed l) k.0) (all_in (λ (y : Cert). nat_lt c.place y.place || is_settled l i (executed l) y) (certs l) k.0 all k.1) (lower k.0 e d a k.2 le))
        | inr k ↦ inr (inr (s e.gtid ∙ k))
      ])
        where
          all : list_all (λ (y : Cert). nat_lt c.place y.place || is_settled l i (executed l) y) (certs l) ≡ true
          all = ap (λ b. elim b [ true ↦ true | false ↦ list_all (λ (y : Cert). nat_lt c.place y.place || is_settled l i (executed l) y) (certs l) ]) (sym q) ∙ h

          lower : (k : Cert) (e d : law.Cert) → Alike c d → Alike k e → e.place ≤ d.place → k.place ≤ c.place
          lower k e d a b le = let x = a.place in let y = b.place in omega (arith, x, y, le)

  pub prepared_back : (l : Life) → Sound t i base l → SameSets l → (c : Cert) (d : law.Cert) → Alike c d → IsPrepared t (life_of base l) i d → is_prepared l i c ≡ true
  prepared_back l o s c d a (m, h) = by (is_own i c) refl h
    where
      own : d.origin ≡ i → is_own i c ≡ true
      own e = ap (λ y. inc_eq y i) (a.origin ∙ e) ∙ inc_same i

      by : (b : Bool) → is_own i c ≡ b → (d.origin ≡ i) ⊎ ((e : law.Cert) → Mem e (certified_of t base l) → e.place ≤ d.place → Settled (life_of base l) i e)
          → elim b [ true ↦ true | false ↦ list_all (λ (y : Cert). nat_lt c.place y.place || is_settled l i (executed l) y) (certs l) ] ≡ true
      by true q h = refl
      by false q (inl e) = absurd (false≢true (sym q ∙ own e))
      by false q (inr f) = in_all (λ (y : Cert). nat_lt c.place y.place || is_settled l i (executed l) y) (certs l) (λ y n. or_below c.place y.place (is_settled l i (executed l) y) (λ le.
          let e = o.knows.of_list y n in
          settled_back l s y e.0 e.2 (f e.0 e.1 (higher y e.0 e.2 le))))
        where
          higher : (y : Cert) (e : law.Cert) → Alike y e → y.place ≤ c.place → e.place ≤ d.place
          higher y e b le = let u = a.place in let v = b.place in omega (arith, u, v, le)

  -- ---- required members

  -- those ONLINE by the seats
  up_in : (ss : List Seat) (m : Inc) → list_any (λ (s : Seat). inc_eq s.joiner.inc m && is_online_state s.state) ss ≡ true → In m (seated (filter (λ s. is_online_state s.state) ss))
  up_in ss m h = in_mem m (seated (filter (λ s. is_online_state s.state) ss)) (is_there ss m h)

  -- a member that the transaction requires by the list is one that it requires by the history
  pub required_as : (l : Life) (c : Cert) (d : law.Cert) (e : Entry) → Lived t i l → AlwaysSound t i base l → Alike c d → entry_at l c.place ≡ Some e → (m : Inc) → Requires t (lives.taken (life_of base l)) d m → In m (required t l c)
  required_as l c d e k o a h m r =
      let x = took_at t i base l c.place e k o h in
      let same : primary.view t (law.values (lawful.upto c.place (lives.marked (life_of base l)))) ≡ view t (upto l c.place) =
      ap (λ y. primary.view t (law.values y)) (sym x.list) ∙ views_agree t base (Took e ∷ x.rest) x.sound.taking ∙ ap (view t) (sym x.up_to) in
      let adds : AddsNew t (law.values (lawful.upto c.place (lives.marked (life_of base l)))) = subst (λ y. AddsNew t (law.values y)) x.list x.sound.adds in
      let active : seen.active t (law.values (lawful.upto c.place (lives.marked (life_of base l)))) m ≡ true = ap (λ y. seen.active t y m) (upto_values c.place (lives.marked (life_of base l)) ∙ ap (λ n. lawful.upto n (lives.taken (life_of base l))) a.place) ∙ r in
      up_in (view t (upto l c.place)).seats m (ap (λ v. is_online v m) (sym same) ∙ (stands t (law.values (lawful.upto c.place (lives.marked (life_of base l)))) m adds).1 ∙ active)

  -- ---- complete

  says_prepared : (v : View) (w : What) (f : Effect) (b : Option Body) (g : Gtid) → IsEffect t v w b f → prepares b g ≡ true → does_entry w f b ≡ law.Prepared g
  says_prepared v (Says z) f (Some (Prepared h)) g e q = ap law.Prepared (gtid_eq_same h g q)
  says_prepared v (Says z) f None g e q = absurd (false≢true q)
  says_prepared v (Says z) f (Some (Writes x)) g e q = absurd (false≢true q)
  says_prepared v (Says z) f (Some Sync) g e q = absurd (false≢true q)
  says_prepared v (Says z) f (Some (Executed x)) g e q = absurd (false≢true q)
  says_prepared v (Says z) f (Some (Arrives x)) g e q = absurd (false≢true q)
  says_prepared v (Says z) f (Some (Switches x)) g e q = absurd (false≢true q)
  says_prepared v (Says z) f (Some (Appoints x)) g e q = absurd (false≢true q)
  says_prepared v (Says z) f (Some (PartOf x)) g e q = absurd (false≢true q)
  says_prepared v Noop f None g e q = absurd (false≢true q)
  says_prepared v (Add j) f None g e q = absurd (false≢true q)
  says_prepared v (Remove j) f None g e q = absurd (false≢true q)
  says_prepared v Noop f (Some b) g e q = absurd e
  says_prepared v (Add j) f (Some b) g e q = absurd e
  says_prepared v (Remove j) f (Some b) g e q = absurd e

  none_prepared : (l : Life) (m : Inc) (g : Gtid) → slots_in l ≡ [] → has_prepared l m g ≡ false
  none_prepared [] m g h = refl
  none_prepared (Took e ∷ l) m g h = absurd (end_none (slots_in l) e.slot h)
  none_prepared (Skips u v ∷ l) m g h = absurd (end_none (slots_in l) u h)
  none_prepared (Came (Hears n) ∷ l) m g h = none_prepared l m g h
  none_prepared (Came Ticks ∷ l) m g h = none_prepared l m g h
  none_prepared (Came (Works z y) ∷ l) m g h = none_prepared l m g h
  none_prepared (Came (Calls z y) ∷ l) m g h = none_prepared l m g h
  none_prepared (Came (Operates z) ∷ l) m g h = none_prepared l m g h
  none_prepared (Gave n j ∷ l) m g h = none_prepared l m g h
  none_prepared (Replied r ∷ l) m g h = none_prepared l m g h
  none_prepared (AskFails ∷ l) m g h = none_prepared l m g h
  none_prepared (Founds ∷ l) m g h = none_prepared l m g h
  none_prepared (Enters z ∷ l) m g h = none_prepared l m g h
  none_prepared (Starts x ∷ l) m g h = none_prepared l m g h
  none_prepared (Committed y ∷ l) m g h = none_prepared l m g h
  none_prepared (Done p ∷ l) m g h = none_prepared l m g h
  none_prepared (Begun u y z ∷ l) m g h = none_prepared l m g h
  none_prepared (Changed u z ∷ l) m g h = none_prepared l m g h
  none_prepared (Called u v w ∷ l) m g h = none_prepared l m g h
  none_prepared (AsksCommit u y ∷ l) m g h = none_prepared l m g h
  none_prepared (Ends u ∷ l) m g h = none_prepared l m g h
  none_prepared (Made v y ∷ l) m g h = none_prepared l m g h
  none_prepared (Answered u y ∷ l) m g h = none_prepared l m g h
  none_prepared (Is y c ∷ l) m g h = none_prepared l m g h
  none_prepared (Restores y cs ∷ l) m g h = none_prepared l m g h

  -- who has prepared by the history has by its life
  pub prepared_entry : (l : Life) (m : Inc) (g : Gtid) → Lived t i l → AlwaysSound t i base l → has_prepared l m g ≡ true → HasPrepared (lives.taken (life_of base l)) m g
  prepared_entry [] m g k o h = absurd (false≢true h)
  prepared_entry (Took e ∷ l) m g k o h = go (inc_eq e.value.id.origin m && prepares e.holds g) refl h (prepared_entry l m g k.1 o.1)
    where
      sound : Sound t i base (Took e ∷ l)
      sound = sound_took t i base e l k o

      go : (b : Bool) → (inc_eq e.value.id.origin m && prepares e.holds g) ≡ b → elim b [ true ↦ true | false ↦ has_prepared l m g ] ≡ true → (has_prepared l m g ≡ true → HasPrepared (lives.taken (life_of base l)) m g) → HasPrepared (lives.taken (life_of base (Took e ∷ l))) m g
      go true q z f =
          let x = and_parts (inc_eq e.value.id.origin m) (prepares e.holds g) q in
          ((placed e).value, inl refl, inc_is e.value.id.origin m x.0, says_prepared (view t l) e.value.what e.effect e.holds g sound.taking.0.1 x.1)
      go false q z f = let n = f z in (n.0, inr n.1, n.2, n.3)
  prepared_entry (Restores y cs ∷ l) m g k o h = absurd (false≢true (sym (none_prepared l m g (empty_before t i base y cs l k.0 o.1 o.0.1).0) ∙ h))
  prepared_entry (Made v y ∷ l) m g k o h = subst (λ x. HasPrepared (law.values x) m g) (sym (skip_made v y l (life_of base l))) (prepared_entry l m g k.1 o.1 h)
  prepared_entry (Answered u y ∷ l) m g k o h = subst (λ x. HasPrepared (law.values x) m g) (sym (skip_answer base u y l (life_of base l))) (prepared_entry l m g k.1 o.1 h)
  prepared_entry (Is y c ∷ l) m g k o h = subst (λ x. HasPrepared (law.values x) m g) (sym (skip_state base y c l (life_of base l))) (prepared_entry l m g k.1 o.1 h)
  prepared_entry (Came (Hears n) ∷ l) m g k o h = prepared_entry l m g k.1 o.1 h
  prepared_entry (Came Ticks ∷ l) m g k o h = prepared_entry l m g k.1 o.1 h
  prepared_entry (Came (Works z y) ∷ l) m g k o h = prepared_entry l m g k.1 o.1 h
  prepared_entry (Came (Calls z y) ∷ l) m g k o h = prepared_entry l m g k.1 o.1 h
  prepared_entry (Came (Operates z) ∷ l) m g k o h = prepared_entry l m g k.1 o.1 h
  prepared_entry (Skips u v ∷ l) m g k o h = prepared_entry l m g k.1 o.1 h
  prepared_entry (Gave n j ∷ l) m g k o h = prepared_entry l m g k.1 o.1 h
  prepared_entry (Replied r ∷ l) m g k o h = prepared_entry l m g k.1 o.1 h
  prepared_entry (AskFails ∷ l) m g k o h = prepared_entry l m g k.1 o.1 h
  prepared_entry (Founds ∷ l) m g k o h = prepared_entry l m g k.1 o.1 h
  prepared_entry (Enters z ∷ l) m g k o h = prepared_entry l m g k.1 o.1 h
  prepared_entry (Starts x ∷ l) m g k o h = prepared_entry l m g k.1 o.1 h
  prepared_entry (Committed y ∷ l) m g k o h = prepared_entry l m g k.1 o.1 h
  prepared_entry (Done p ∷ l) m g k o h = prepared_entry l m g k.1 o.1 h
  prepared_entry (Begun u y z ∷ l) m g k o h = prepared_entry l m g k.1 o.1 h
  prepared_entry (Changed u z ∷ l) m g k o h = prepared_entry l m g k.1 o.1 h
  prepared_entry (Called u v w ∷ l) m g k o h = prepared_entry l m g k.1 o.1 h
  prepared_entry (AsksCommit u y ∷ l) m g k o h = prepared_entry l m g k.1 o.1 h
  prepared_entry (Ends u ∷ l) m g k o h = prepared_entry l m g k.1 o.1 h

  -- one that was in and isn't now is gone
  is_gone : (x : seen.Standing) → 2 ≤ rank x → seen.is_in x ≡ false → x ≡ seen.Gone
  is_gone seen.Absent h e = absurd (omega (arith, h))
  is_gone seen.Recovering h e = absurd (false≢true (sym e))
  is_gone seen.Active h e = absurd (false≢true (sym e))
  is_gone seen.Gone h e = refl

  active_two : (x : seen.Standing) → seen.is_active x ≡ true → rank x ≡ 2
  active_two seen.Absent e = absurd (false≢true e)
  active_two seen.Recovering e = absurd (false≢true e)
  active_two seen.Active e = refl
  active_two seen.Gone e = absurd (false≢true e)

  pub complete_as : (l : Life) (c : Cert) (d : law.Cert) (e : Entry) → Lived t i l → AlwaysSound t i base l → Sound t i base l → Alike c d → entry_at l c.place ≡ Some e → complete t l c ≡ true → Complete t (lives.taken (life_of base l)) d
  complete_as l c d e k o s a h q m r =
      let n : In m (required t l c) = required_as l c d e k o a h m r in
      let y = all_in (λ (x : Inc). inc_eq x c.id.origin || (has_prepared l x c.gtid || not (is_seated (view t l) x))) (required t l c) m q n in
      elim (or_cases (inc_eq m c.id.origin) (has_prepared l m c.gtid || not (is_seated (view t l) m)) y) [
        | inl z ↦ inl (inc_is m c.id.origin z ∙ a.origin)
        | inr z ↦ inr (elim (or_cases (has_prepared l m c.gtid) (not (is_seated (view t l) m)) z) [
          | inl z ↦ inl (subst (HasPrepared (lives.taken (life_of base l)) m) a.gtid (prepared_entry l m c.gtid k o z))
          | inr z ↦ inr (gone (not-true (is_seated (view t l) m) z))
        ])
      ]
    where
      p : List law.Value
      p = lives.taken (life_of base l)

      gone : is_seated (view t l) m ≡ false → seen.standing t (lives.taken (life_of base l)) m ≡ seen.Gone
      gone z =
          let was : rank (seen.standing t (lawful.upto d.place (lives.taken (life_of base l))) m) ≡ 2 = active_two (seen.standing t (lawful.upto d.place (lives.taken (life_of base l))) m) r in
          let up = rank_up t (lawful.upto d.place (lives.taken (life_of base l))) (lives.taken (life_of base l)) m (upto_is_past d.place (lives.taken (life_of base l))) in
          let seats : seen.is_in (seen.standing t (lives.taken (life_of base l)) m) ≡ false =
          sym (stands t (lives.taken (life_of base l)) m s.adds).0 ∙ ap (λ v. is_seated v m) (views_agree t base l s.taking) ∙ z in
          is_gone (seen.standing t (lives.taken (life_of base l)) m) (omega (arith, was, up)) seats
