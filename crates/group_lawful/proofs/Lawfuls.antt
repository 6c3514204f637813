-- A commit, and own values but those of transactions, as the laws ask them.
use Rattle.std.proofs.Common.{◌≡◌, ◌⊎◌, inl, inr, suc, ◌≤◌, ◌<◌, Bool, true, false, not, ◌&&◌, ◌||◌, Some, List, [], ◌∷◌, ◌++◌, refl, sym, ap, subst, ◌∙◌, length, arith}
use Rattle.std.specs.Prelude.{if◌then◌else◌, nat_lt, filter, reverse}
use Rattle.std.proofs.lemmas.List.{reverse-append}
use Rattle.std.proofs.lemmas.Bool.{false≢true, cases_Bool, or_cases, or_left, or_right, and_parts, le-leb}
use Rattle.gr_ids.specs.Names.{inc_eq, has_inc, gtid_eq}
use Rattle.gr_ids.specs.declared.names.Inc.{Inc}
use Rattle.gr_ids.specs.declared.names.Gtid.{Gtid}
use Rattle.gtid_sets.specs.Sets.{Gtids, has}
use Rattle.gtid_sets.specs.Canonical.{IsCanonical, IsUuid, IsNumber}
use Rattle.gtid_sets.proofs.LawLemmas.{all_with_gtid}
use Rattle.gtid_sets.proofs.PutLemmas.{canonical_with_gtid}
use Rattle.txn_forms.specs.declared.body.Txn.{Txn}
use Rattle.node_rules.specs.Lists.{In}
use Rattle.node_rules.proofs.Incs.{inc_is, inc_same}
use Rattle.group_rules.specs.Events.{Life, Setup, Entry, Cert}
use Rattle.group_rules.specs.Life.{executed, certs, entry_at, has_give}
use Rattle.group_rules.specs.Queue.{pending, is_done, is_own, all_below}
use Rattle.group_rules.specs.Commit.{required, complete, may_commit_own, unless_incomplete, may_commit_other, may_commit}
use Rattle.group_bridge.specs.Left.{with_all, AreOf, IsCommitted}
use Rattle.group_laws.specs.Lists.{Mem}
use Rattle.group_laws.specs.Entries as law
use Rattle.group_laws.specs.Life as lives
use Rattle.group_laws.specs.Lawful.{Requires, Complete, LawfulCommit}
use Rattle.group_laws.proofs.Names.{gtid_eq_same}
use Rattle.group_lives.specs.Lives.{life_of}
use Rattle.group_lives.specs.Sound.{HasSets}
use Rattle.group_lives.proofs.Sets.{canonical}
use Rattle.group_lawful.specs.Lived.{Lived}
use Rattle.group_lawful.specs.Knows.{Alike, certified_of, Descends, Sound, AlwaysSound, Distinct}
use Rattle.group_lawful.proofs.Opens.{in_filter, in_reverse, in_end, in_pending, sound_where, ready_or, unready}
use Rattle.group_lawful.proofs.Marks.{done_as}
use Rattle.group_runs.specs.Runs.{is_founder}
use Rattle.group_order.proofs.Shapes.{Shape}
use Rattle.group_lawful.proofs.Given.{cert_place, given_before}
use Rattle.group_lawful.proofs.Known.{sets_past, in_front}
use Rattle.group_lawful.proofs.Commits.{all_in, SameSets, required_as, complete_as}

-- ---- the order of what is pending

abbrev pub Ascends : List Cert → Type 0
Ascends [] = Unit {0}
Ascends (c ∷ cs) = ((d : Cert) → In d cs → c.place < d.place) × Ascends cs

pub ascends_end : (xs : List Cert) (c : Cert) → Ascends xs → ((d : Cert) → In d xs → d.place < c.place) → Ascends (xs ++ c ∷ [])
ascends_end [] c h f = ((λ d m. absurd m), tt)
ascends_end (x ∷ xs) c h f = ((λ d m. elim (in_end d xs c m) [ inl q ↦ subst (λ (y : Cert). x.place < y.place) q (f x (inl refl)) | inr k ↦ h.0 d k ]), ascends_end xs c h.1 (λ d m. f d (inr m)))

pub ascends_reverse : (cs : List Cert) → Descends cs → Ascends (reverse cs)
ascends_reverse [] h = tt
ascends_reverse (c ∷ cs) h = subst Ascends (sym (reverse-append (c ∷ []) cs)) (ascends_end (reverse cs) c (ascends_reverse cs h.1) (λ d m. h.0 d (in_reverse d cs m)))

pub ascends_filter : (test : Cert → Bool) (xs : List Cert) → Ascends xs → Ascends (filter test xs)
ascends_filter test [] h = tt
ascends_filter test (x ∷ xs) h = go (test x) (ascends_filter test xs h.1)
  where
    go : (b : Bool) → Ascends (filter test xs) → Ascends (if b then x ∷ filter test xs else filter test xs)
    go true k = ((λ d m. h.0 d (in_filter test d xs m).0), k)
    go false k = k

in_middle : (xs : List Cert) (c : Cert) (ys : List Cert) → In c (xs ++ c ∷ ys)
in_middle [] c ys = inl refl
in_middle (x ∷ xs) c ys = inr (in_middle xs c ys)

pub ascends_before : (xs : List Cert) (c : Cert) (ys : List Cert) → Ascends (xs ++ c ∷ ys) → (d : Cert) → In d xs → d.place < c.place
ascends_before [] c ys h d m = absurd m
ascends_before (x ∷ xs) c ys h d (inl e) = subst (λ (y : Cert). y.place < c.place) e (h.0 c (in_middle xs c ys))
ascends_before (x ∷ xs) c ys h d (inr m) = ascends_before xs c ys h.1 d m

module _ (t : Setup) (i : Inc) (base : List law.Placed) where
  -- ---- a commit

  canonical_all : (e : Gtids) (gs : List Gtid) → IsCanonical e → ((h : Gtid) → In h gs → IsUuid h.source × IsNumber h.number) → IsCanonical (with_all e gs)
  canonical_all e [] k f = k
  canonical_all e (x ∷ gs) k f = canonical_with_gtid (with_all e gs) x (f x (inl refl)).0 (f x (inl refl)).1 (canonical_all e gs k (λ h m. f h (inr m)))

  -- none of these is it
  not_among : (e : Gtids) (gs : List Gtid) (g : Gtid) → IsCanonical e → ((h : Gtid) → In h gs → (IsUuid h.source × IsNumber h.number) × (gtid_eq h g ≡ false)) → has e g ≡ false → has (with_all e gs) g ≡ false
  not_among e [] g k f h = h
  not_among e (x ∷ gs) g k f h =
      let o = f x (inl refl) in
      let r = not_among e gs g k (λ y m. f y (inr m)) h in
      all_with_gtid (with_all e gs) x g (all_canonical gs (λ y m. (f y (inr m)).0)) o.0.0 o.0.1 ∙ (λ j. o.1 j || r j)
    where
      all_canonical : (gs : List Gtid) → ((h : Gtid) → In h gs → IsUuid h.source × IsNumber h.number) → IsCanonical (with_all e gs)
      all_canonical gs f = canonical_all e gs k f

  of_first : (cs : List Cert) (gs : List Gtid) → AreOf cs gs → (g : Gtid) → In g gs → (c : Cert) × In c cs × (c.gtid ≡ g)
  of_first cs [] h g m = absurd m
  of_first cs (x ∷ gs) h g (inl e) = (h.0.0, h.0.1, h.0.2 ∙ e)
  of_first cs (x ∷ gs) h g (inr m) = of_first cs gs h.1 g m

  -- it wasn't committed
  pub commit_new : (l : Life) (g : Gtid) → (x : IsCommitted t i l g) → Descends (certs l) → ((c : Cert) → In c (certs l) → IsUuid c.gtid.source × IsNumber c.gtid.number)
      → ((y z : Cert) → In y (certs l) → In z (certs l) → y.gtid ≡ z.gtid → y.place ≡ z.place) → HasSets l → has (executed l) x.cert.gtid ≡ false
  commit_new l g x descends numbers same sets = ap (λ y. has y (x.cert).gtid) x.executed ∙ not_among (executed x.begin) x.since (x.cert).gtid (canonical x.begin (sets_past x.begin l x.past sets)) earlier (in_pending x.begin x.cert pend).1
    where
      pend : In x.cert (pending x.begin)
      pend = subst (In x.cert) (sym x.pending) (in_middle x.first x.cert x.rest)

      here : In x.cert (certs l)
      here = subst (In x.cert) (sym x.certs) (in_pending x.begin x.cert pend).0

      ascends : Ascends (x.first ++ x.cert ∷ x.rest)
      ascends =
          subst Ascends x.pending
          (ascends_filter (λ (y : Cert). not (has (executed x.begin) y.gtid)) (reverse (certs x.begin)) (subst (λ y. Ascends (reverse y)) x.certs (ascends_reverse (certs l) descends)))

      -- those committed since the beginning of the point are earlier ones
      earlier : (h : Gtid) → In h x.since → (IsUuid h.source × IsNumber h.number) × (gtid_eq h (x.cert).gtid ≡ false)
      earlier h n =
          let a = of_first x.first x.since x.earlier h n in
          let b : In a.0 (pending x.begin) = subst (In a.0) (sym x.pending) (in_front t i base x.first (x.cert ∷ x.rest) a.0 a.1) in
          let k : In a.0 (certs l) = subst (In a.0) (sym x.certs) (in_pending x.begin a.0 b).0 in
          let less = ascends_before x.first x.cert x.rest ascends a.0 a.1 in
          (subst (λ (y : Gtid). IsUuid y.source × IsNumber y.number) a.2 (numbers a.0 k), other a.0 k a.2 less)
        where
          other : (y : Cert) → In y (certs l) → y.gtid ≡ h → y.place < (x.cert).place → gtid_eq h (x.cert).gtid ≡ false
          other y k q less = elim (cases_Bool (gtid_eq h (x.cert).gtid)) [
            | inr z ↦ z
            | inl z ↦ (let p : y.place ≡ (x.cert).place = same y x.cert k here (q ∙ gtid_eq_same h (x.cert).gtid z) in absurd (omega (arith, p, less)))
          ]

  pub lawful_commit : (l : Life) (g : Gtid) → IsCommitted t i l g → Lived t i l → AlwaysSound t i base l → SameSets t i base l → HasSets l → Distinct t base l → LawfulCommit t i (life_of base l) g
  lawful_commit l g x k o s sets distinct = record {
    cert = d.0;
    here = d.1;
    is_it = sym d.2.gtid ∙ x.is_it;
    uncommitted = s g ∙ ap (λ y. has (executed l) y) (sym x.is_it) ∙ fresh;
    done = λ n. done_as t i base l (d.0).place ∙ ap (is_done l) (sym d.2.place) ∙ done (is_own i c) refl n x.may;
    order = order (is_own i c) refl x.may;
    complete = λ a r. completes (is_own i c) refl x.may (ap (λ (y : Txn). y.after) d.2.txn ∙ a) r;
  }
    where
      c : Cert
      c = x.cert

      pend : In x.cert (pending x.begin)
      pend = subst (In x.cert) (sym x.pending) (in_middle x.first x.cert x.rest)

      m : In x.cert (certs l)
      m = subst (In x.cert) (sym x.certs) (in_pending x.begin x.cert pend).0

      sound : Sound t i base l
      sound = sound_where t i base l o x.cert m

      d : (e : law.Cert) × Mem e (certified_of t base l) × Alike x.cert e
      d = sound.knows.of_list x.cert m

      same : (y z : Cert) → In y (certs l) → In z (certs l) → y.gtid ≡ z.gtid → y.place ≡ z.place
      same y z m n q =
          let a = sound.knows.of_list y m in
          let b = sound.knows.of_list z n in
          a.2.place ∙ ap (λ (u : law.Cert). u.place) (distinct a.0 b.0 a.1 b.1 (sym a.2.gtid ∙ q ∙ b.2.gtid)) ∙ sym b.2.place

      fresh : has (executed l) (x.cert).gtid ≡ false
      fresh = commit_new l g x sound.knows.descends sound.knows.numbers same sets

      own_origin : is_own i x.cert ≡ true → (d.0).origin ≡ i
      own_origin q = sym d.2.origin ∙ inc_is (x.cert).id.origin i q

      -- what is asked of one of another origin
      others : may_commit_other t l i x.cert ≡ true → (is_done l (x.cert).place ≡ true) × (all_below (executed l) (certs l) (x.cert).place ≡ true) × (unless_incomplete t l i x.cert ≡ true)
      others q = go (is_done l (x.cert).place) refl q
        where
          go : (b : Bool) → is_done l (x.cert).place ≡ b → elim b [ false ↦ false | true ↦ all_below (executed l) (certs l) (x.cert).place && unless_incomplete t l i x.cert ] ≡ true → (is_done l (x.cert).place ≡ true) × (all_below (executed l) (certs l) (x.cert).place ≡ true) × (unless_incomplete t l i x.cert ≡ true)
          go false e q = absurd (false≢true q)
          go true e q = let z = and_parts (all_below (executed l) (certs l) (x.cert).place) (unless_incomplete t l i x.cert) q in (e, z.0, z.1)

      by_own : (b : Bool) → is_own i x.cert ≡ b → may_commit t l i x.cert ≡ true → elim b [ true ↦ may_commit_own t l x.cert | false ↦ may_commit_other t l i x.cert ] ≡ true
      by_own b e q = ap (λ y. elim y [ true ↦ may_commit_own t l x.cert | false ↦ may_commit_other t l i x.cert ]) (sym e) ∙ q

      done : (b : Bool) → is_own i x.cert ≡ b → ((d.0).origin ≡ i → ⊥) → may_commit t l i x.cert ≡ true → is_done l (x.cert).place ≡ true
      done true e n q = absurd (n (own_origin e))
      done false e n q = (others (by_own false e q)).0

      order : (b : Bool) → is_own i x.cert ≡ b → may_commit t l i x.cert ≡ true → ((d.0).origin ≡ i) ⊎ ((e : law.Cert) → Mem e (certified_of t base l) → e.place < (d.0).place → lives.executed (life_of base l) e.gtid ≡ true)
      order true e q = inl (own_origin e)
      order false e q = inr (λ y n less. s y.gtid ∙ elim (sound.knows.all y n) [
        | inr z ↦ z
        | inl z ↦ (let w = all_in (λ (u : Cert). not (nat_lt u.place (x.cert).place) || has (executed l) u.gtid) (certs l) z.0 (others (by_own false e q)).1 z.1 in
            let lower : nat_lt (z.0).place (x.cert).place ≡ true = le-leb (suc (z.0).place) (x.cert).place (below z.0 y z.2 less) in
            ap (has (executed l)) (sym z.2.gtid) ∙ elim (or_cases (not (nat_lt (z.0).place (x.cert).place)) (has (executed l) (z.0).gtid) w) [ inl f ↦ absurd (false≢true (sym (ap not lower) ∙ f)) | inr f ↦ f ])
      ])
        where
          below : (u : Cert) (y : law.Cert) → Alike u y → y.place < (d.0).place → suc u.place ≤ (x.cert).place
          below u y a less = let p = a.place in let r = d.2.place in omega (arith, p, r, less)

      not_ready : is_founder t i ≡ false → has_give l ≡ false → ⊥
      not_ready f g = elim (ready_or t i base l (shape_where l o m)) [
        | inl r ↦ elim r [ inl y ↦ absurd (false≢true (sym f ∙ y)) | inr y ↦ absurd (false≢true (sym g ∙ y)) ]
        | inr e ↦ absurd (subst (In x.cert) (unready t i base l e.0 e.1).0 m)
      ]
        where
          shape_where : (l : Life) → AlwaysSound t i base l → In x.cert (certs l) → Shape t i l
          shape_where [] o m = absurd m
          shape_where (d ∷ l) o m = o.0.0.0

      given : is_founder t i ≡ false → has_give l ≡ true
      given f = elim (cases_Bool (has_give l)) [
        | inl g ↦ g
        | inr g ↦ absurd (not_ready f g)
      ]

      none_given : (b : Bool) → is_founder t i ≡ b → (d.0).place ≤ length base → ((d.0).origin ≡ i) ⊎ Requires t (lives.taken (life_of base l)) d.0 i → ⊥
      none_given true f n r = let e : length base ≡ 0 = ap length (sound.founded f) in let p = cert_place t (lives.marked (life_of base l)) d.0 d.1 in absurd (omega (arith, n, e, p))
      none_given false f n r = given_before t i base l sound (given f) f d.0 d.1 n r

      -- one that was given isn't its own, nor required
      entry : ((d.0).origin ≡ i) ⊎ Requires t (lives.taken (life_of base l)) d.0 i → (e : Entry) × (entry_at l (x.cert).place ≡ Some e)
      entry r = elim (sound.knows.entries x.cert m) [ inr y ↦ y | inl z ↦ absurd (none_given (is_founder t i) refl (subst (λ n. n ≤ length base) d.2.place z) r) ]

      completes : (b : Bool) → is_own i x.cert ≡ b → may_commit t l i x.cert ≡ true → (x.cert).txn.after ≡ true → ((d.0).origin ≡ i) ⊎ Requires t (lives.taken (life_of base l)) d.0 i → Complete t (lives.taken (life_of base l)) d.0
      completes b e q a r =
          let n = entry r in
          complete_as t i base l x.cert d.0 n.0 k o sound d.2 n.1 (now b e (by_own b e q))
        where
          now : (b : Bool) → is_own i x.cert ≡ b → elim b [ true ↦ may_commit_own t l x.cert | false ↦ may_commit_other t l i x.cert ] ≡ true → complete t l x.cert ≡ true
          now true e q = ap (λ y. elim y [ false ↦ true | true ↦ complete t l x.cert ]) (sym a) ∙ q
          now false e q =
              let z : (not (has_inc (required t l x.cert) i) || complete t l x.cert) ≡ true = ap (λ y. elim y [ false ↦ true | true ↦ not (has_inc (required t l x.cert) i) || complete t l x.cert ]) (sym a) ∙ (others q).2 in
              let n = entry r in
              elim (or_cases (not (has_inc (required t l x.cert) i)) (complete t l x.cert) z) [
                | inr y ↦ y
                | inl y ↦ elim r [
                  | inl w ↦ absurd (false≢true (sym e ∙ ap (λ u. inc_eq u i) (d.2.origin ∙ w) ∙ inc_same i))
                  | inr w ↦ (let h : has_inc (required t l x.cert) i ≡ true = has_in (required t l x.cert) i (required_as t i base l x.cert d.0 n.0 k o d.2 n.1 i w) in absurd (false≢true (sym (ap not h) ∙ y)))
                ]
              ]
            where
              has_in : (xs : List Inc) (j : Inc) → In j xs → has_inc xs j ≡ true
              has_in [] j h = absurd h
              has_in (u ∷ xs) j (inl q) = or_left (inc_eq u j) (has_inc xs j) (ap (λ y. inc_eq y j) q ∙ inc_same j)
              has_in (u ∷ xs) j (inr h) = or_right (inc_eq u j) (has_inc xs j) (has_in xs j h)
