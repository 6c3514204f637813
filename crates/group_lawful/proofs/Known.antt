-- What is known at a moment of a history stays known.
use Rattle.std.proofs.Common.{◌≡◌, ◌⊎◌, inl, inr, ℕ, ◌≤◌, Bool, true, false, not, Option, Some, None, List, [], ◌∷◌, ◌++◌, refl, sym, ap, subst, ◌∙◌, length, arith}
use Rattle.std.specs.Prelude.{◌==◌, if◌then◌else◌, filter, reverse}
use Rattle.std.proofs.lemmas.List.{reverse-append}
use Rattle.std.proofs.lemmas.Bool.{false≢true, or_right, eqb-true}
use Rattle.gr_ids.specs.declared.names.Inc.{Inc}
use Rattle.gr_ids.specs.declared.names.Gtid.{Gtid}
use Rattle.gr_ids.specs.Names.{gtid_eq}
use Rattle.gtid_sets.specs.Sets.{has}
use Rattle.gtid_sets.proofs.LawLemmas.{all_with_gtid}
use Rattle.node_rules.specs.Lists.{In}
use Rattle.group_rules.specs.Events.{Did, Founds, Starts, Came, Made, Took, Skips, Done, Committed, Is, Gave, Answered, Begun, Changed, Replied, Called, AsksCommit, Ends, Enters, Restores, AskFails, Hears, Ticks, Works, Calls, Operates, Life, Setup, Entry, Cert}
use Rattle.group_rules.specs.Names.{Give}
use Rattle.group_rules.specs.Life.{state, is_recovering, upto, entry_at, executed, cert_of, certs, has_give}
use Rattle.group_rules.specs.Queue.{pending}
use Rattle.group_bridge.specs.Left as left
use Rattle.group_bridge.specs.Moves.{slots_in}
use Rattle.group_order.specs.OneLog.{IsReady}
use Rattle.group_order.proofs.Shapes.{Shape}
use Rattle.group_laws.specs.Entries as law
use Rattle.group_laws.specs.Life as lives
use Rattle.group_laws.specs.Lawful as lawful
use Rattle.group_laws.proofs.Lists.{IsPast-length}
use Rattle.group_laws.proofs.Acks.{upto_is_past}
use Rattle.group_lives.specs.Lives.{placed, life_of}
use Rattle.group_lives.specs.Sound.{HasSets}
use Rattle.group_lives.proofs.Sets.{canonical}
use Rattle.group_lives.proofs.Taking.{places_agree, skip_made, skip_answer, skip_state}
use Rattle.group_lawful.specs.Lived.{LivedDid, Lived}
use Rattle.group_lawful.specs.Knows.{Sound, AlwaysSound}
use Rattle.group_lawful.proofs.States.{ready_by, shape_of}
use Rattle.group_lawful.proofs.Opens.{unready, ready_or}
use Rattle.group_lawful.proofs.Fronts.{upto_all, upto_less}

-- ---- executed sets

pub sets_past : (p l : Life) → left.IsPast p l → HasSets l → HasSets p
sets_past p [] h k = subst HasSets (sym h) tt
sets_past p (d ∷ l) (inl e) k = subst HasSets (sym e) k
sets_past p (d ∷ l) (inr h) k = sets_past p l h (tail d l k)
  where
    tail : (d : Did) (l : Life) → HasSets (d ∷ l) → HasSets l
    tail (Starts x) l k = k.1
    tail (Committed g) l k = k.1
    tail d l k = k

some_none : {A : Type 0} {x : A} → Some x ≡ None → ⊥
some_none e = absurd (cc e)

some_is : {A : Type 0} {x y : A} → Some x ≡ Some y → x ≡ y
some_is {x = x} {y = y} e = cc

end_none : (xs : List ℕ) (x : ℕ) → xs ++ x ∷ [] ≡ [] → ⊥
end_none [] x e = absurd (cc e)
end_none (y ∷ xs) x e = absurd (cc e)

module _ (t : Setup) (i : Inc) (base : List law.Placed) where
  pub executed_stays : (l p : Life) (g : Gtid) → left.IsPast p l → Lived t i l → HasSets l → has (executed p) g ≡ true → has (executed l) g ≡ true
  executed_stays [] p g h k s e = subst (λ y. has (executed y) g ≡ true) h e
  executed_stays (d ∷ l) p g (inl q) k s e = subst (λ y. has (executed y) g ≡ true) q e
  executed_stays (Starts x ∷ l) p g (inr h) k s e = absurd (false≢true (sym (ap (λ y. has (executed y) g) (nothing l p k.0.0 h)) ∙ e))
    where
      nothing : (l p : Life) → l ≡ [] → left.IsPast p l → p ≡ []
      nothing [] p q h = h
      nothing (d ∷ l) p q h = absurd (cc q)
  executed_stays (Committed y ∷ l) p g (inr h) k s e =
      let m = executed_stays l p g h k.1 s.1 e in
      all_with_gtid (executed l) y g (canonical l s.1) s.0.0 s.0.1 ∙ or_right (gtid_eq y g) (has (executed l) g) m
  executed_stays (Came (Hears m) ∷ l) p g (inr h) k s e = executed_stays l p g h k.1 s e
  executed_stays (Came Ticks ∷ l) p g (inr h) k s e = executed_stays l p g h k.1 s e
  executed_stays (Came (Works z y) ∷ l) p g (inr h) k s e = executed_stays l p g h k.1 s e
  executed_stays (Came (Calls z y) ∷ l) p g (inr h) k s e = executed_stays l p g h k.1 s e
  executed_stays (Came (Operates z) ∷ l) p g (inr h) k s e = executed_stays l p g h k.1 s e
  executed_stays (Skips u v ∷ l) p g (inr h) k s e = executed_stays l p g h k.1 s e
  executed_stays (Gave n m ∷ l) p g (inr h) k s e = executed_stays l p g h k.1 s e
  executed_stays (Replied r ∷ l) p g (inr h) k s e = executed_stays l p g h k.1 s e
  executed_stays (AskFails ∷ l) p g (inr h) k s e = executed_stays l p g h k.1 s e
  executed_stays (Founds ∷ l) p g (inr h) k s e = executed_stays l p g h k.1 s e
  executed_stays (Enters z ∷ l) p g (inr h) k s e = executed_stays l p g h k.1 s e
  executed_stays (Made v y ∷ l) p g (inr h) k s e = executed_stays l p g h k.1 s e
  executed_stays (Took z ∷ l) p g (inr h) k s e = executed_stays l p g h k.1 s e
  executed_stays (Done n ∷ l) p g (inr h) k s e = executed_stays l p g h k.1 s e
  executed_stays (Is y c ∷ l) p g (inr h) k s e = executed_stays l p g h k.1 s e
  executed_stays (Answered u y ∷ l) p g (inr h) k s e = executed_stays l p g h k.1 s e
  executed_stays (Begun u y c ∷ l) p g (inr h) k s e = executed_stays l p g h k.1 s e
  executed_stays (Changed u c ∷ l) p g (inr h) k s e = executed_stays l p g h k.1 s e
  executed_stays (Called u v w ∷ l) p g (inr h) k s e = executed_stays l p g h k.1 s e
  executed_stays (AsksCommit u y ∷ l) p g (inr h) k s e = executed_stays l p g h k.1 s e
  executed_stays (Ends u ∷ l) p g (inr h) k s e = executed_stays l p g h k.1 s e
  executed_stays (Restores y cs ∷ l) p g (inr h) k s e = executed_stays l p g h k.1 s e

  -- ---- certified transactions

  in_behind : (xs ys : List Cert) (c : Cert) → In c ys → In c (xs ++ ys)
  in_behind [] ys c h = h
  in_behind (x ∷ xs) ys c h = inr (in_behind xs ys c h)

  -- before its Give a joiner isn't ready
  not_given : (l : Life) → Shape t i l → is_recovering (state l) ≡ true → has_give l ≡ false → IsReady t i l → ⊥
  not_given l s r g (inl f) = absurd (false≢true (sym (s.founder f).joined ∙ r))
  not_given l s r g (inr k) = absurd (false≢true (sym g ∙ k))

  restoring : (g : Give) → (cs : List Cert) (l : Life) → LivedDid t i (Restores g cs) l → is_recovering (state l) ≡ true
  restoring g cs l h = let w = h.allowed in subst (λ y. is_recovering (state y) ≡ true) (sym w.heard) w.recovering

  pub empty_before : (g : Give) → (cs : List Cert) (l : Life) → LivedDid t i (Restores g cs) l → AlwaysSound t i base l → has_give l ≡ false → (slots_in l ≡ []) × (has_give l ≡ false)
  empty_before g cs l h o n =
      let s = shape_of t i base l o h.goes_on.begun in
      elim (ready_or t i base l s) [ inl r ↦ absurd (not_given l s (restoring g cs l h) n r) | inr e ↦ e ]

  pub certs_stay : (l p : Life) (c : Cert) → left.IsPast p l → Lived t i l → AlwaysSound t i base l → In c (certs p) → In c (certs l)
  certs_stay [] p c h k o m = subst (λ y. In c (certs y)) h m
  certs_stay (d ∷ l) p c (inl q) k o m = subst (λ y. In c (certs y)) q m
  certs_stay (Took e ∷ l) p c (inr h) k o m = in_behind (cert_of e) (certs l) c (certs_stay l p c h k.1 o.1 m)
  certs_stay (Restores y cs ∷ l) p c (inr h) k o m =
      let b = empty_before y cs l k.0 o.1 o.0.1 in
      absurd (subst (In c) (unready t i base l b.0 b.1).0 (certs_stay l p c h k.1 o.1 m))
  certs_stay (Came (Hears n) ∷ l) p c (inr h) k o m = certs_stay l p c h k.1 o.1 m
  certs_stay (Came Ticks ∷ l) p c (inr h) k o m = certs_stay l p c h k.1 o.1 m
  certs_stay (Came (Works z y) ∷ l) p c (inr h) k o m = certs_stay l p c h k.1 o.1 m
  certs_stay (Came (Calls z y) ∷ l) p c (inr h) k o m = certs_stay l p c h k.1 o.1 m
  certs_stay (Came (Operates z) ∷ l) p c (inr h) k o m = certs_stay l p c h k.1 o.1 m
  certs_stay (Skips u v ∷ l) p c (inr h) k o m = certs_stay l p c h k.1 o.1 m
  certs_stay (Gave n j ∷ l) p c (inr h) k o m = certs_stay l p c h k.1 o.1 m
  certs_stay (Replied r ∷ l) p c (inr h) k o m = certs_stay l p c h k.1 o.1 m
  certs_stay (AskFails ∷ l) p c (inr h) k o m = certs_stay l p c h k.1 o.1 m
  certs_stay (Founds ∷ l) p c (inr h) k o m = certs_stay l p c h k.1 o.1 m
  certs_stay (Enters z ∷ l) p c (inr h) k o m = certs_stay l p c h k.1 o.1 m
  certs_stay (Starts x ∷ l) p c (inr h) k o m = certs_stay l p c h k.1 o.1 m
  certs_stay (Committed y ∷ l) p c (inr h) k o m = certs_stay l p c h k.1 o.1 m
  certs_stay (Made v y ∷ l) p c (inr h) k o m = certs_stay l p c h k.1 o.1 m
  certs_stay (Done n ∷ l) p c (inr h) k o m = certs_stay l p c h k.1 o.1 m
  certs_stay (Is y z ∷ l) p c (inr h) k o m = certs_stay l p c h k.1 o.1 m
  certs_stay (Answered u y ∷ l) p c (inr h) k o m = certs_stay l p c h k.1 o.1 m
  certs_stay (Begun u y z ∷ l) p c (inr h) k o m = certs_stay l p c h k.1 o.1 m
  certs_stay (Changed u z ∷ l) p c (inr h) k o m = certs_stay l p c h k.1 o.1 m
  certs_stay (Called u v w ∷ l) p c (inr h) k o m = certs_stay l p c h k.1 o.1 m
  certs_stay (AsksCommit u y ∷ l) p c (inr h) k o m = certs_stay l p c h k.1 o.1 m
  certs_stay (Ends u ∷ l) p c (inr h) k o m = certs_stay l p c h k.1 o.1 m

  -- ---- pending

  pub filter_in : (test : Cert → Bool) (c : Cert) (xs : List Cert) → In c xs → test c ≡ true → In c (filter test xs)
  filter_in test c [] h q = absurd h
  filter_in test c (x ∷ xs) h q = go (test x) refl h (λ k. filter_in test c xs k q)
    where
      go : (b : Bool) → test x ≡ b → (x ≡ c) ⊎ In c xs → (In c xs → In c (filter test xs)) → In c (if b then x ∷ filter test xs else filter test xs)
      go true e (inl z) f = inl z
      go true e (inr z) f = inr (f z)
      go false e (inl z) f = absurd (false≢true (sym e ∙ ap test z ∙ q))
      go false e (inr z) f = f z

  pub in_front : (xs ys : List Cert) (c : Cert) → In c xs → In c (xs ++ ys)
  in_front [] ys c h = absurd h
  in_front (x ∷ xs) ys c (inl q) = inl q
  in_front (x ∷ xs) ys c (inr h) = inr (in_front xs ys c h)

  pub reverse_in : (c : Cert) (xs : List Cert) → In c xs → In c (reverse xs)
  reverse_in c [] h = h
  reverse_in c (x ∷ xs) h = subst (In c) (sym (reverse-append (x ∷ []) xs)) (elim h [ inl q ↦ in_behind (reverse xs) (x ∷ []) c (inl q) | inr k ↦ in_front (reverse xs) (x ∷ []) c (reverse_in c xs k) ])

  -- a certified transaction that isn't executed is pending
  pub is_pending : (l : Life) (c : Cert) → In c (certs l) → has (executed l) c.gtid ≡ false → In c (pending l)
  is_pending l c m e = filter_in (λ (d : Cert). not (has (executed l) d.gtid)) c (reverse (certs l)) (reverse_in c (certs l) m) (ap not e)

  -- ---- the entry at a place

  none_taken : (l : Life) (n : ℕ) → slots_in l ≡ [] → entry_at l n ≡ None
  none_taken [] n h = refl
  none_taken (Took e ∷ l) n h = absurd (end_none (slots_in l) e.slot h)
  none_taken (Skips u v ∷ l) n h = absurd (end_none (slots_in l) u h)
  none_taken (Came (Hears m) ∷ l) n h = none_taken l n h
  none_taken (Came Ticks ∷ l) n h = none_taken l n h
  none_taken (Came (Works z y) ∷ l) n h = none_taken l n h
  none_taken (Came (Calls z y) ∷ l) n h = none_taken l n h
  none_taken (Came (Operates z) ∷ l) n h = none_taken l n h
  none_taken (Gave m j ∷ l) n h = none_taken l n h
  none_taken (Replied r ∷ l) n h = none_taken l n h
  none_taken (AskFails ∷ l) n h = none_taken l n h
  none_taken (Founds ∷ l) n h = none_taken l n h
  none_taken (Enters z ∷ l) n h = none_taken l n h
  none_taken (Starts x ∷ l) n h = none_taken l n h
  none_taken (Committed y ∷ l) n h = none_taken l n h
  none_taken (Made v y ∷ l) n h = none_taken l n h
  none_taken (Done p ∷ l) n h = none_taken l n h
  none_taken (Is y z ∷ l) n h = none_taken l n h
  none_taken (Answered u y ∷ l) n h = none_taken l n h
  none_taken (Begun u y z ∷ l) n h = none_taken l n h
  none_taken (Changed u z ∷ l) n h = none_taken l n h
  none_taken (Called u v w ∷ l) n h = none_taken l n h
  none_taken (AsksCommit u y ∷ l) n h = none_taken l n h
  none_taken (Ends u ∷ l) n h = none_taken l n h
  none_taken (Restores y cs ∷ l) n h = none_taken l n h

  -- the history up to it has the list up to it
  pub record TookAt (l : Life) (n : ℕ) (e : Entry) : Type 0 where
    pub rest : Life
    pub past : left.IsPast (Took e ∷ rest) l
    pub up_to : upto l n ≡ Took e ∷ rest
    pub place : e.place ≡ n
    pub sound : Sound t i base (Took e ∷ rest)
    pub list : lives.marked (life_of base (Took e ∷ rest)) ≡ lawful.upto n (lives.marked (life_of base l))

  TookBefore : (d : Did) (l : Life) (n : ℕ) (e : Entry) → upto (d ∷ l) n ≡ upto l n → lives.marked (life_of base (d ∷ l)) ≡ lives.marked (life_of base l) → TookAt l n e → TookAt (d ∷ l) n e
  TookBefore d l n e a b k = record { rest = k.rest; past = inr k.past; up_to = a ∙ k.up_to; place = k.place; sound = k.sound; list = k.list ∙ ap (lawful.upto n) (sym b) }

  within : (l : Life) (n : ℕ) (e : Entry) → TookAt l n e → n ≤ length (lives.marked (life_of base l))
  within l n e k =
      let a = places_agree t base (Took e ∷ k.rest) k.sound.taking in
      let b = IsPast-length (lawful.upto n (lives.marked (life_of base l))) (lives.marked (life_of base l)) (upto_is_past n (lives.marked (life_of base l))) in
      let c : length (lives.marked (life_of base (Took e ∷ k.rest))) ≡ length (lawful.upto n (lives.marked (life_of base l))) = ap length k.list in
      let p = k.place in
      omega (arith, a, b, c, p)

  pub sound_took : (e : Entry) (l : Life) → Lived t i (Took e ∷ l) → AlwaysSound t i base (Took e ∷ l) → Sound t i base (Took e ∷ l)
  sound_took e l k o = o.0.0.1 (ready_here (ready_by t i base l (shape_of t i base l o.1 k.0.goes_on.begun) k.0.allowed)) (omega arith)
    where
      ready_here : IsReady t i l → IsReady t i (Took e ∷ l)
      ready_here r = r

  pub took_at : (l : Life) (n : ℕ) (e : Entry) → Lived t i l → AlwaysSound t i base l → entry_at l n ≡ Some e → TookAt l n e
  took_at [] n e k o h = absurd (some_none (sym h))
  took_at (Took x ∷ l) n e k o h = go (x.place == n) refl h (took_at l n e k.1 o.1)
    where
      sound : Sound t i base (Took x ∷ l)
      sound = sound_took x l k o

      long : length (lives.marked (life_of base (Took x ∷ l))) ≡ x.place
      long = places_agree t base (Took x ∷ l) sound.taking

      go : (b : Bool) → (x.place == n) ≡ b → ◌≡◌ {A = Option Entry} (elim b [ true ↦ Some x | false ↦ entry_at l n ]) (Some e) → (entry_at l n ≡ Some e → TookAt l n e) → TookAt (Took x ∷ l) n e
      go true q z f =
          let p : x.place ≡ n = eqb-true x.place n q in
          subst (TookAt (Took x ∷ l) n) (some_is z) (record { rest = l; past = inl refl; up_to = ap (λ b. elim b [ true ↦ Took x ∷ l | false ↦ upto l n ]) q; place = p; sound = sound; list = sym (upto_all n (lives.marked (life_of base (Took x ∷ l))) (omega (arith, long, p))) })
      go false q z f =
          let r = f z in
          let w = within l n e r in
          record { rest = r.rest; past = inr r.past; up_to = ap (λ b. elim b [ true ↦ Took x ∷ l | false ↦ upto l n ]) q ∙ r.up_to; place = r.place; sound = r.sound; list = r.list ∙ sym (upto_less n (placed x) (lives.marked (life_of base l)) w) }
  took_at (Restores y cs ∷ l) n e k o h =
      let b = empty_before y cs l k.0 o.1 o.0.1 in
      absurd (some_none (sym h ∙ none_taken l n b.0))
  took_at (Made v y ∷ l) n e k o h = TookBefore (Made v y) l n e refl (skip_made v y l (life_of base l)) (took_at l n e k.1 o.1 h)
  took_at (Answered u y ∷ l) n e k o h = TookBefore (Answered u y) l n e refl (skip_answer base u y l (life_of base l)) (took_at l n e k.1 o.1 h)
  took_at (Is y c ∷ l) n e k o h = TookBefore (Is y c) l n e refl (skip_state base y c l (life_of base l)) (took_at l n e k.1 o.1 h)
  took_at (Came (Hears m) ∷ l) n e k o h = TookBefore (Came (Hears m)) l n e refl refl (took_at l n e k.1 o.1 h)
  took_at (Came Ticks ∷ l) n e k o h = TookBefore (Came Ticks) l n e refl refl (took_at l n e k.1 o.1 h)
  took_at (Came (Works z y) ∷ l) n e k o h = TookBefore (Came (Works z y)) l n e refl refl (took_at l n e k.1 o.1 h)
  took_at (Came (Calls z y) ∷ l) n e k o h = TookBefore (Came (Calls z y)) l n e refl refl (took_at l n e k.1 o.1 h)
  took_at (Came (Operates z) ∷ l) n e k o h = TookBefore (Came (Operates z)) l n e refl refl (took_at l n e k.1 o.1 h)
  took_at (Skips u v ∷ l) n e k o h = TookBefore (Skips u v) l n e refl refl (took_at l n e k.1 o.1 h)
  took_at (Gave m j ∷ l) n e k o h = TookBefore (Gave m j) l n e refl refl (took_at l n e k.1 o.1 h)
  took_at (Replied r ∷ l) n e k o h = TookBefore (Replied r) l n e refl refl (took_at l n e k.1 o.1 h)
  took_at (AskFails ∷ l) n e k o h = TookBefore AskFails l n e refl refl (took_at l n e k.1 o.1 h)
  took_at (Founds ∷ l) n e k o h = TookBefore Founds l n e refl refl (took_at l n e k.1 o.1 h)
  took_at (Enters z ∷ l) n e k o h = TookBefore (Enters z) l n e refl refl (took_at l n e k.1 o.1 h)
  took_at (Starts x ∷ l) n e k o h = TookBefore (Starts x) l n e refl refl (took_at l n e k.1 o.1 h)
  took_at (Committed y ∷ l) n e k o h = TookBefore (Committed y) l n e refl refl (took_at l n e k.1 o.1 h)
  took_at (Done p ∷ l) n e k o h = TookBefore (Done p) l n e refl refl (took_at l n e k.1 o.1 h)
  took_at (Begun u y z ∷ l) n e k o h = TookBefore (Begun u y z) l n e refl refl (took_at l n e k.1 o.1 h)
  took_at (Changed u z ∷ l) n e k o h = TookBefore (Changed u z) l n e refl refl (took_at l n e k.1 o.1 h)
  took_at (Called u v w ∷ l) n e k o h = TookBefore (Called u v w) l n e refl refl (took_at l n e k.1 o.1 h)
  took_at (AsksCommit u y ∷ l) n e k o h = TookBefore (AsksCommit u y) l n e refl refl (took_at l n e k.1 o.1 h)
  took_at (Ends u ∷ l) n e k o h = TookBefore (Ends u) l n e refl refl (took_at l n e k.1 o.1 h)
