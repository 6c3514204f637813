-- What a server keeps when an incarnation stops: the transactions that it has committed.
use Rattle.std.proofs.Common.{◌≡◌, ◌⊎◌, inl, inr, Bool, true, false, ◌||◌, Some, List, [], ◌∷◌, ◌++◌, refl, sym, ap, subst, ◌∙◌, arith}
use Rattle.std.specs.Prelude.{if◌then◌else◌, filter}
use Rattle.std.proofs.lemmas.Bool.{false≢true, or_left, or_right}
use Rattle.gr_ids.specs.Names.{gtid_eq}
use Rattle.gr_ids.specs.declared.names.Inc.{Inc}
use Rattle.gr_ids.specs.declared.names.Gtid.{Gtid}
use Rattle.gtid_sets.specs.Sets.{has}
use Rattle.gtid_sets.proofs.LawLemmas.{all_with_gtid}
use Rattle.txn_forms.specs.declared.body.Body.TheVariants.{Txn as HasTxn}
use Rattle.txn_forms.specs.Bodies.{body_bytes, read_body}
use Rattle.node_rules.specs.Lists.{In}
use Rattle.group_rules.specs.Events.{Founds, Starts, Came, Made, Took, Skips, Done, Committed, Is, Gave, Answered, Begun, Changed, Replied, Called, AsksCommit, Ends, Enters, Restores, AskFails, Hears, Ticks, Works, Calls, Operates, Life, Setup, Stored, Cert}
use Rattle.group_rules.specs.Life.{executed, stored, certs}
use Rattle.group_rules.specs.World.{committed_of}
use Rattle.group_laws.specs.Lists.{Mem}
use Rattle.group_laws.specs.Entries as law
use Rattle.group_laws.proofs.Certs.{same_place}
use Rattle.group_laws.proofs.Names.{gtid_eq_same, gtid_eq_itself}
use Rattle.group_lives.specs.Sound.{HasSets}
use Rattle.group_lives.proofs.Sets.{canonical}
use Rattle.group_lawful.specs.Lived.{Lived}
use Rattle.group_lawful.specs.Knows.{Alike, Descends}
use Rattle.group_lawful.proofs.Opens.{in_filter}
use Rattle.group_legal.proofs.Sorted.{Apart, NoTwice}

-- its bytes are read as it
abbrev pub Readable : Cert → Type 0
Readable c = read_body (body_bytes (HasTxn c.txn)) ≡ Some (HasTxn c.txn)

-- what a server stored is of the list, and is all that it has executed of it
pub record StockOf (t : Setup) (k : List law.Placed) (x : Stored) : Type 0 where
  pub listed : (c : Cert) → In c x.committed → (d : law.Cert) × Mem d (law.certified t k) × Alike c d
  pub known : (d : law.Cert) → Mem d (law.certified t k) → has x.executed d.gtid ≡ true → (c : Cert) × In c x.committed × Alike c d
  pub done : (c : Cert) → In c x.committed → has x.executed c.gtid ≡ true
  pub twice : NoTwice x.committed
  pub readable : (c : Cert) → In c x.committed → Readable c

-- each commit is of a certified transaction that wasn't committed
abbrev pub CommitsOnce : Life → Type 0
CommitsOnce [] = Unit {0}
CommitsOnce (Committed g ∷ l) = ((has (executed l) g ≡ false) × ((c : Cert) × In c (certs l) × (c.gtid ≡ g))) × CommitsOnce l
CommitsOnce (d ∷ l) = CommitsOnce l

-- ---- lists

pub in_first : {A : Type 0} (x : A) (xs ys : List A) → In x xs → In x (xs ++ ys)
in_first x [] ys h = absurd h
in_first x (y ∷ xs) ys (inl e) = inl e
in_first x (y ∷ xs) ys (inr h) = inr (in_first x xs ys h)

pub in_second : {A : Type 0} (x : A) (xs ys : List A) → In x ys → In x (xs ++ ys)
in_second x [] ys h = h
in_second x (y ∷ xs) ys h = inr (in_second x xs ys h)

pub in_either : {A : Type 0} (x : A) (xs ys : List A) → In x (xs ++ ys) → In x xs ⊎ In x ys
in_either x [] ys h = inr h
in_either x (y ∷ xs) ys (inl e) = inl (inl e)
in_either x (y ∷ xs) ys (inr h) = elim (in_either x xs ys h) [ inl k ↦ inl (inr k) | inr k ↦ inr k ]

pub filter_in : (test : Cert → Bool) (c : Cert) (xs : List Cert) → In c xs → test c ≡ true → In c (filter test xs)
filter_in test c [] h q = absurd h
filter_in test c (x ∷ xs) h q = go (test x) refl h (λ k. filter_in test c xs k q)
  where
    go : (b : Bool) → test x ≡ b → (x ≡ c) ⊎ In c xs → (In c xs → In c (filter test xs)) → In c (if b then x ∷ filter test xs else filter test xs)
    go true e (inl z) f = inl z
    go true e (inr z) f = inr (f z)
    go false e (inl z) f = absurd (false≢true (sym e ∙ ap test z ∙ q))
    go false e (inr z) f = f z

twice_append : (xs ys : List Cert) → NoTwice xs → NoTwice ys → ((x : Cert) → In x xs → Apart x ys) → NoTwice (xs ++ ys)
twice_append [] ys a b f = b
twice_append (x ∷ xs) ys a b f = ((λ y m e. elim (in_either y xs ys m) [ inl k ↦ a.0 y k e | inr k ↦ f x (inl refl) y k e ]), twice_append xs ys a.1 b (λ y m. f y (inr m)))

twice_filter : (test : Cert → Bool) (xs : List Cert) → Descends xs → NoTwice (filter test xs)
twice_filter test [] h = tt
twice_filter test (x ∷ xs) h = go (test x) (twice_filter test xs h.1)
  where
    go : (b : Bool) → NoTwice (filter test xs) → NoTwice (if b then x ∷ filter test xs else filter test xs)
    go true k = ((λ y m e. let z = h.0 y (in_filter test y xs m).0 in absurd (omega (arith, z, e))), k)
    go false k = k

-- ---- the transactions committed

module _ (t : Setup) (i : Inc) where
  -- each is a certified one, and executed
  committed_in : (l : Life) (cs : List Cert) (c : Cert) → Lived t i l → HasSets l → In c (committed_of l cs) → In c cs × (has (executed l) c.gtid ≡ true)
  committed_in [] cs c k h m = absurd m
  committed_in (Committed g ∷ l) cs c k h m = elim (in_either c (committed_of l cs) (filter (λ c. gtid_eq c.gtid g) cs) m) [
    | inl n ↦ (let r = committed_in l cs c k.1 h.1 n in (r.0, all_with_gtid (executed l) g c.gtid (canonical l h.1) h.0.0 h.0.1 ∙ or_right (gtid_eq g c.gtid) (has (executed l) c.gtid) r.1))
    | inr n ↦ (let r = in_filter (λ (c : Cert). gtid_eq c.gtid g) c cs n in
        (r.0, all_with_gtid (executed l) g c.gtid (canonical l h.1) h.0.0 h.0.1 ∙ or_left (gtid_eq g c.gtid) (has (executed l) c.gtid) (ap (λ y. gtid_eq y c.gtid) (sym (gtid_eq_same c.gtid g r.1)) ∙ gtid_eq_itself c.gtid)))
  ]
  committed_in (Starts x ∷ l) cs c k h m = absurd (subst (λ y. In c (committed_of y cs)) k.0.0 m)
  committed_in (Came (Hears n) ∷ l) cs c k h m = committed_in l cs c k.1 h m
  committed_in (Came Ticks ∷ l) cs c k h m = committed_in l cs c k.1 h m
  committed_in (Came (Works z y) ∷ l) cs c k h m = committed_in l cs c k.1 h m
  committed_in (Came (Calls z y) ∷ l) cs c k h m = committed_in l cs c k.1 h m
  committed_in (Came (Operates z) ∷ l) cs c k h m = committed_in l cs c k.1 h m
  committed_in (Skips u v ∷ l) cs c k h m = committed_in l cs c k.1 h m
  committed_in (Gave n j ∷ l) cs c k h m = committed_in l cs c k.1 h m
  committed_in (Replied r ∷ l) cs c k h m = committed_in l cs c k.1 h m
  committed_in (AskFails ∷ l) cs c k h m = committed_in l cs c k.1 h m
  committed_in (Founds ∷ l) cs c k h m = committed_in l cs c k.1 h m
  committed_in (Enters z ∷ l) cs c k h m = committed_in l cs c k.1 h m
  committed_in (Done q ∷ l) cs c k h m = committed_in l cs c k.1 h m
  committed_in (Begun u y z ∷ l) cs c k h m = committed_in l cs c k.1 h m
  committed_in (Changed u z ∷ l) cs c k h m = committed_in l cs c k.1 h m
  committed_in (Called u v w ∷ l) cs c k h m = committed_in l cs c k.1 h m
  committed_in (AsksCommit u y ∷ l) cs c k h m = committed_in l cs c k.1 h m
  committed_in (Ends u ∷ l) cs c k h m = committed_in l cs c k.1 h m
  committed_in (Took e ∷ l) cs c k h m = committed_in l cs c k.1 h m
  committed_in (Made v y ∷ l) cs c k h m = committed_in l cs c k.1 h m
  committed_in (Answered u y ∷ l) cs c k h m = committed_in l cs c k.1 h m
  committed_in (Is y z ∷ l) cs c k h m = committed_in l cs c k.1 h m
  committed_in (Restores y zs ∷ l) cs c k h m = committed_in l cs c k.1 h m

  -- each executed one that it didn't start with is committed
  in_committed : (l : Life) (cs : List Cert) (g : Gtid) (c : Cert) → Lived t i l → HasSets l → In c cs → c.gtid ≡ g → has (executed l) g ≡ true → (has (stored l).executed g ≡ true) ⊎ In c (committed_of l cs)
  in_committed [] cs g c k h m e x = absurd (false≢true x)
  in_committed (Starts y ∷ l) cs g c k h m e x = inl x
  in_committed (Committed u ∷ l) cs g c k h m e x = go (gtid_eq u g) refl (sym (all_with_gtid (executed l) u g (canonical l h.1) h.0.0 h.0.1) ∙ x) (in_committed l cs g c k.1 h.1 m e)
    where
      go : (b : Bool) → gtid_eq u g ≡ b → (gtid_eq u g || has (executed l) g) ≡ true → (has (executed l) g ≡ true → (has (stored l).executed g ≡ true) ⊎ In c (committed_of l cs)) → (has (stored l).executed g ≡ true) ⊎ In c (committed_of l cs ++ filter (λ c. gtid_eq c.gtid u) cs)
      go true q z f = inr (in_second c (committed_of l cs) (filter (λ c. gtid_eq c.gtid u) cs) (filter_in (λ (c : Cert). gtid_eq c.gtid u) c cs m (ap (λ y. gtid_eq y u) (e ∙ sym (gtid_eq_same u g q)) ∙ gtid_eq_itself u)))
      go false q z f = elim (f (ap (λ b. b || has (executed l) g) (sym q) ∙ z)) [ inl r ↦ inl r | inr r ↦ inr (in_first c (committed_of l cs) (filter (λ c. gtid_eq c.gtid u) cs) r) ]
  in_committed (Came (Hears n) ∷ l) cs g c k h m e x = in_committed l cs g c k.1 h m e x
  in_committed (Came Ticks ∷ l) cs g c k h m e x = in_committed l cs g c k.1 h m e x
  in_committed (Came (Works z y) ∷ l) cs g c k h m e x = in_committed l cs g c k.1 h m e x
  in_committed (Came (Calls z y) ∷ l) cs g c k h m e x = in_committed l cs g c k.1 h m e x
  in_committed (Came (Operates z) ∷ l) cs g c k h m e x = in_committed l cs g c k.1 h m e x
  in_committed (Skips u v ∷ l) cs g c k h m e x = in_committed l cs g c k.1 h m e x
  in_committed (Gave n j ∷ l) cs g c k h m e x = in_committed l cs g c k.1 h m e x
  in_committed (Replied r ∷ l) cs g c k h m e x = in_committed l cs g c k.1 h m e x
  in_committed (AskFails ∷ l) cs g c k h m e x = in_committed l cs g c k.1 h m e x
  in_committed (Founds ∷ l) cs g c k h m e x = in_committed l cs g c k.1 h m e x
  in_committed (Enters z ∷ l) cs g c k h m e x = in_committed l cs g c k.1 h m e x
  in_committed (Done q ∷ l) cs g c k h m e x = in_committed l cs g c k.1 h m e x
  in_committed (Begun u y z ∷ l) cs g c k h m e x = in_committed l cs g c k.1 h m e x
  in_committed (Changed u z ∷ l) cs g c k h m e x = in_committed l cs g c k.1 h m e x
  in_committed (Called u v w ∷ l) cs g c k h m e x = in_committed l cs g c k.1 h m e x
  in_committed (AsksCommit u y ∷ l) cs g c k h m e x = in_committed l cs g c k.1 h m e x
  in_committed (Ends u ∷ l) cs g c k h m e x = in_committed l cs g c k.1 h m e x
  in_committed (Took z ∷ l) cs g c k h m e x = in_committed l cs g c k.1 h m e x
  in_committed (Made v y ∷ l) cs g c k h m e x = in_committed l cs g c k.1 h m e x
  in_committed (Answered u y ∷ l) cs g c k h m e x = in_committed l cs g c k.1 h m e x
  in_committed (Is y z ∷ l) cs g c k h m e x = in_committed l cs g c k.1 h m e x
  in_committed (Restores y zs ∷ l) cs g c k h m e x = in_committed l cs g c k.1 h m e x

  -- and none twice: two of one place have one GTID
  abbrev OneGtid : List Cert → Type 0
  OneGtid cs = (c d : Cert) → In c cs → In d cs → c.place ≡ d.place → c.gtid ≡ d.gtid

  committed_twice : (l : Life) (cs : List Cert) → Lived t i l → HasSets l → CommitsOnce l → Descends cs → OneGtid cs → NoTwice (committed_of l cs)
  committed_twice [] cs k h o d f = tt
  committed_twice (Committed g ∷ l) cs k h o d f = twice_append (committed_of l cs) (filter (λ c. gtid_eq c.gtid g) cs) (committed_twice l cs k.1 h.1 o.1 d f) (twice_filter (λ c. gtid_eq c.gtid g) cs d) (λ x m y n e.
      let a = committed_in l cs x k.1 h.1 m in
      let b = in_filter (λ (c : Cert). gtid_eq c.gtid g) y cs n in
      let same : x.gtid ≡ g = f x y a.0 b.0 (sym e) ∙ gtid_eq_same y.gtid g b.1 in
      absurd (false≢true (sym o.0.0 ∙ ap (has (executed l)) (sym same) ∙ a.1)))
  committed_twice (Starts x ∷ l) cs k h o d f = subst (λ y. NoTwice (committed_of y cs)) (sym k.0.0) tt
  committed_twice (Came (Hears n) ∷ l) cs k h o d f = committed_twice l cs k.1 h o d f
  committed_twice (Came Ticks ∷ l) cs k h o d f = committed_twice l cs k.1 h o d f
  committed_twice (Came (Works z y) ∷ l) cs k h o d f = committed_twice l cs k.1 h o d f
  committed_twice (Came (Calls z y) ∷ l) cs k h o d f = committed_twice l cs k.1 h o d f
  committed_twice (Came (Operates z) ∷ l) cs k h o d f = committed_twice l cs k.1 h o d f
  committed_twice (Skips u v ∷ l) cs k h o d f = committed_twice l cs k.1 h o d f
  committed_twice (Gave n j ∷ l) cs k h o d f = committed_twice l cs k.1 h o d f
  committed_twice (Replied r ∷ l) cs k h o d f = committed_twice l cs k.1 h o d f
  committed_twice (AskFails ∷ l) cs k h o d f = committed_twice l cs k.1 h o d f
  committed_twice (Founds ∷ l) cs k h o d f = committed_twice l cs k.1 h o d f
  committed_twice (Enters z ∷ l) cs k h o d f = committed_twice l cs k.1 h o d f
  committed_twice (Done q ∷ l) cs k h o d f = committed_twice l cs k.1 h o d f
  committed_twice (Begun u y z ∷ l) cs k h o d f = committed_twice l cs k.1 h o d f
  committed_twice (Changed u z ∷ l) cs k h o d f = committed_twice l cs k.1 h o d f
  committed_twice (Called u v w ∷ l) cs k h o d f = committed_twice l cs k.1 h o d f
  committed_twice (AsksCommit u y ∷ l) cs k h o d f = committed_twice l cs k.1 h o d f
  committed_twice (Ends u ∷ l) cs k h o d f = committed_twice l cs k.1 h o d f
  committed_twice (Took e ∷ l) cs k h o d f = committed_twice l cs k.1 h o d f
  committed_twice (Made v y ∷ l) cs k h o d f = committed_twice l cs k.1 h o d f
  committed_twice (Answered u y ∷ l) cs k h o d f = committed_twice l cs k.1 h o d f
  committed_twice (Is y z ∷ l) cs k h o d f = committed_twice l cs k.1 h o d f
  committed_twice (Restores y zs ∷ l) cs k h o d f = committed_twice l cs k.1 h o d f

  -- ---- when it stops

  -- what is known of the certified transactions of a history, ready or not
  pub record CertsOf (k : List law.Placed) (l : Life) : Type 0 where
    pub listed : (c : Cert) → In c (certs l) → (d : law.Cert) × Mem d (law.certified t k) × Alike c d
    pub known : (d : law.Cert) → Mem d (law.certified t k) → has (executed l) d.gtid ≡ true → (has (stored l).executed d.gtid ≡ true) ⊎ ((c : Cert) × In c (certs l) × Alike c d)
    pub descends : Descends (certs l)
    pub apart : (c : Cert) → In c (certs l) → Apart c (stored l).committed
    pub readable : (c : Cert) → In c (certs l) → Readable c

  pub stopped : (k : List law.Placed) (l : Life) (x : Stored) → Lived t i l → HasSets l → CommitsOnce l → CertsOf k l → StockOf t k (stored l) → ((g : Gtid) → has (stored l).executed g ≡ true → has (executed l) g ≡ true)
      → StockOf t k (record { executed = executed l; committed = (stored l).committed ++ committed_of l (certs l); writes = x.writes })
  stopped k l x lived sets once c s stays = record {
    listed = λ y m. elim (in_either y (stored l).committed (committed_of l (certs l)) m) [ inl n ↦ s.listed y n | inr n ↦ c.listed y (committed_in l (certs l) y lived sets n).0 ];
    known = λ d m e. elim (c.known d m e) [
      | inl q ↦ (let r = s.known d m q in (r.0, in_first r.0 (stored l).committed (committed_of l (certs l)) r.1, r.2))
      | inr q ↦ elim (in_committed l (certs l) d.gtid q.0 lived sets q.1 q.2.gtid e) [
        | inl z ↦ (let r = s.known d m z in (r.0, in_first r.0 (stored l).committed (committed_of l (certs l)) r.1, r.2))
        | inr z ↦ (q.0, in_second q.0 (stored l).committed (committed_of l (certs l)) z, q.2)
      ]
    ];
    done = λ y m. elim (in_either y (stored l).committed (committed_of l (certs l)) m) [ inl n ↦ stays y.gtid (s.done y n) | inr n ↦ (committed_in l (certs l) y lived sets n).1 ];
    twice = twice_append (stored l).committed (committed_of l (certs l)) s.twice (committed_twice l (certs l) lived sets once c.descends one_gtid) (λ y m z n e. c.apart z (committed_in l (certs l) z lived sets n).0 y m (sym e));
    readable = λ y m. elim (in_either y (stored l).committed (committed_of l (certs l)) m) [ inl n ↦ s.readable y n | inr n ↦ c.readable y (committed_in l (certs l) y lived sets n).0 ];
  }
    where
      one_gtid : OneGtid (certs l)
      one_gtid a b m n e =
          let p = c.listed a m in
          let q = c.listed b n in
          let same : p.0 ≡ q.0 = same_place t k p.0 q.0 p.1 q.1 (sym p.2.place ∙ e ∙ q.2.place) in
          p.2.gtid ∙ ap (λ (y : law.Cert). y.gtid) same ∙ sym q.2.gtid
