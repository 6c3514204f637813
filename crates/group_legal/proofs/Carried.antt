-- What holds of each certified transaction that is taken holds wherever it is known: where it was given, and where it is stored.
use Rattle.std.proofs.Common.{◌≡◌, ◌⊎◌, inl, inr, ℕ, Bool, true, false, Option, Some, None, List, [], ◌∷◌, ◌++◌, refl, sym, ap, subst, ◌∙◌}
use Rattle.std.specs.Prelude.{filter, map, nat_le, not, ◌==◌}
use Rattle.gr_ids.specs.Names.{inc_eq, gtid_eq}
use Rattle.gr_ids.specs.declared.names.Inc.{Inc}
use Rattle.gtid_sets.specs.Sets.{has, with_gtid}
use Rattle.txn_forms.specs.declared.body.Body.{Body}
use Rattle.node_rules.specs.Lists.{In}
use Rattle.node_rules.proofs.Incs.{inc_is}
use Rattle.group_rules.specs.Names.{Give}
use Rattle.group_rules.specs.Events.{Did, Founds, Starts, Came, Made, Took, Skips, Done, Committed, Is, Gave, Answered, Begun, Changed, Replied, Called, AsksCommit, Ends, Enters, Restores, AskFails, Hears, Ticks, Works, Calls, Operates, Life, Setup, Entry, Stored, OfflineWrite, Cert}
use Rattle.group_rules.specs.Life.{executed, certs, cert_of, stored}
use Rattle.group_rules.specs.Rows.{all_in, known}
use Rattle.group_rules.specs.Recovery.{given_of, cert_read, certs_given}
use Rattle.group_rules.specs.Legal.{IsPast}
use Rattle.group_rules.specs.World.{Past, Does, Writes, Halts, life_in, committed_of}
use Rattle.group_runs.specs.Runs.{running_in, stored_after, stored_in, AllDid, IsDone}
use Rattle.group_order.specs.OneLog.{GivenBy, LogOver}
use Rattle.group_order.proofs.Nexts.{past_self, past_of, done_at}
use Rattle.group_lawful.proofs.Opens.{in_filter, in_reverse}
use Rattle.group_legal.proofs.Sorted.{in_all}
use Rattle.group_legal.proofs.Stocks.{Readable, in_either}

-- ---- what a Give tells of one

-- the number of its value isn't told
abbrev pub as_given : Cert → Cert
as_given c = record { place = c.place; id = record { origin = c.id.origin; number = 0 }; gtid = c.gtid; txn = c.txn }

pub given_back : (cs : List Cert) → ((c : Cert) → In c cs → Readable c) → certs_given (map given_of cs) ≡ map as_given cs
given_back [] h = refl
given_back (c ∷ cs) h =
    ap (λ (y : Option Body). elim (cert_read (given_of c) y) [ [] ↦ certs_given (map given_of cs) | z ∷ zs ↦ z ∷ certs_given (map given_of cs) ]) (h c (inl refl))
    ∙ ap (λ zs. as_given c ∷ zs) (given_back cs (λ y m. h y (inr m)))

pub in_map : (cs : List Cert) (c : Cert) → In c (map as_given cs) → (y : Cert) × In y cs × (as_given y ≡ c)
in_map [] c h = absurd h
in_map (x ∷ xs) c (inl e) = (x, inl refl, e)
in_map (x ∷ xs) c (inr h) = let r = in_map xs c h in (r.0, inr r.1, r.2)

pub map_in : (cs : List Cert) (y : Cert) → In y cs → In (as_given y) (map as_given cs)
map_in [] y h = absurd h
map_in (x ∷ xs) y (inl e) = inl (ap as_given e)
map_in (x ∷ xs) y (inr h) = inr (map_in xs y h)

pub in_known : (l : Life) (c : Cert) → In c (known l) → In c (stored l).committed ⊎ In c (certs l)
in_known l c h = elim (in_all (all_in [] (stored l).committed) (certs l) c h) [
  | inl k ↦ elim (in_all [] (stored l).committed c k) [ inl m ↦ absurd m | inr m ↦ inl m ]
  | inr k ↦ inr k
]

-- ---- what is committed

committed_cert : (l : Life) (cs : List Cert) (c : Cert) → In c (committed_of l cs) → In c cs
committed_cert [] cs c m = absurd m
committed_cert (Committed g ∷ l) cs c m = elim (in_either c (committed_of l cs) (filter (λ c. gtid_eq c.gtid g) cs) m) [
  | inl n ↦ committed_cert l cs c n
  | inr n ↦ (in_filter (λ (c : Cert). gtid_eq c.gtid g) c cs n).0
]
committed_cert (Starts x ∷ l) cs c m = committed_cert l cs c m
committed_cert (Came (Hears n) ∷ l) cs c m = committed_cert l cs c m
committed_cert (Came Ticks ∷ l) cs c m = committed_cert l cs c m
committed_cert (Came (Works z y) ∷ l) cs c m = committed_cert l cs c m
committed_cert (Came (Calls z y) ∷ l) cs c m = committed_cert l cs c m
committed_cert (Came (Operates z) ∷ l) cs c m = committed_cert l cs c m
committed_cert (Skips u v ∷ l) cs c m = committed_cert l cs c m
committed_cert (Gave n j ∷ l) cs c m = committed_cert l cs c m
committed_cert (Replied r ∷ l) cs c m = committed_cert l cs c m
committed_cert (AskFails ∷ l) cs c m = committed_cert l cs c m
committed_cert (Founds ∷ l) cs c m = committed_cert l cs c m
committed_cert (Enters z ∷ l) cs c m = committed_cert l cs c m
committed_cert (Done q ∷ l) cs c m = committed_cert l cs c m
committed_cert (Begun u y z ∷ l) cs c m = committed_cert l cs c m
committed_cert (Changed u z ∷ l) cs c m = committed_cert l cs c m
committed_cert (Called u y z ∷ l) cs c m = committed_cert l cs c m
committed_cert (AsksCommit u y ∷ l) cs c m = committed_cert l cs c m
committed_cert (Ends u ∷ l) cs c m = committed_cert l cs c m
committed_cert (Took z ∷ l) cs c m = committed_cert l cs c m
committed_cert (Made u y ∷ l) cs c m = committed_cert l cs c m
committed_cert (Answered u y ∷ l) cs c m = committed_cert l cs c m
committed_cert (Is y z ∷ l) cs c m = committed_cert l cs c m
committed_cert (Restores y z ∷ l) cs c m = committed_cert l cs c m

-- ---- wherever it is known

pub record CarriedAt (P : Cert → Type 0) (p : Past) : Type 0 where
  pub lives : (i : Inc) (c : Cert) → In c (certs (life_in p i)) → P c
  pub had : (i : Inc) (c : Cert) → In c (stored (life_in p i)).committed → P c
  pub stocks : (n : ℕ) (c : Cert) → In c (stored_in p n).committed → P c

module _ (t : Setup) (w : Past) (x : LogOver t w) (done : AllDid (IsDone t) w) (v : Past) (v_past : IsPast v w) (P : Cert → Type 0)
    (took : (p : Past) (i : Inc) (e : Entry) → IsPast (Does i (Took e) ∷ p) v → (c : Cert) → In c (cert_of e) → P c)
    (given : (c : Cert) → P c → P (as_given c)) (readable : (c : Cert) → P c → Readable c) where
  abbrev CarriedBefore : Past → Type 0
  CarriedBefore p = (q : Past) → IsPast q p → CarriedAt P q

  restored : (p : Past) (i : Inc) (g : Give) (cs : List Cert) → IsPast (Does i (Restores g cs) ∷ p) v → CarriedBefore p → (c : Cert) → In c cs → P c
  restored p i g cs k h c m =
      let r = in_map sent c (subst (In c) told m) in
      subst P r.2 (given r.0 (was r.0 r.1))
    where
      f : GivenBy t p i g cs
      f = x.given p i g cs (past_of v (Does i (Restores g cs) ∷ p) w v_past k)

      up : List Cert
      up = filter (λ c. nat_le c.place f.add.place) (known (life_in f.sent f.giver))

      sent : List Cert
      sent = filter (λ c. not (has (executed (life_in f.asked i)) c.gtid)) up

      was : (y : Cert) → In y sent → P y
      was y n =
          let a = in_filter (λ (c : Cert). not (has (executed (life_in f.asked i)) c.gtid)) y up n in
          let b = in_filter (λ (c : Cert). nat_le c.place f.add.place) y (known (life_in f.sent f.giver)) a.0 in
          let s = h f.sent f.sent_before in
          elim (in_known (life_in f.sent f.giver) y b.0) [ inl z ↦ s.had f.giver y z | inr z ↦ s.lives f.giver y z ]

      told : cs ≡ map as_given sent
      told = f.certs ∙ ap (λ (y : Give). certs_given y.txns) f.give ∙ given_back sent (λ y n. readable y (was y n))

  lives_did : (p : Past) (i : Inc) (d : Did) → IsPast (Does i d ∷ p) v → CarriedBefore p → (c : Cert) → In c (certs (d ∷ life_in p i)) → P c
  lives_did p i (Took e) k h c m = elim (in_either c (cert_of e) (certs (life_in p i)) m) [ inl n ↦ took p i e k c n | inr n ↦ (h p (past_self p)).lives i c n ]
  lives_did p i (Restores g cs) k h c m = restored p i g cs k h c (in_reverse c cs m)
  lives_did p i (Starts x) k h c m = (h p (past_self p)).lives i c m
  lives_did p i (Came (Hears n)) k h c m = (h p (past_self p)).lives i c m
  lives_did p i (Came Ticks) k h c m = (h p (past_self p)).lives i c m
  lives_did p i (Came (Works z y)) k h c m = (h p (past_self p)).lives i c m
  lives_did p i (Came (Calls z y)) k h c m = (h p (past_self p)).lives i c m
  lives_did p i (Came (Operates z)) k h c m = (h p (past_self p)).lives i c m
  lives_did p i (Skips u v) k h c m = (h p (past_self p)).lives i c m
  lives_did p i (Gave n j) k h c m = (h p (past_self p)).lives i c m
  lives_did p i (Replied r) k h c m = (h p (past_self p)).lives i c m
  lives_did p i AskFails k h c m = (h p (past_self p)).lives i c m
  lives_did p i Founds k h c m = (h p (past_self p)).lives i c m
  lives_did p i (Enters z) k h c m = (h p (past_self p)).lives i c m
  lives_did p i (Done q) k h c m = (h p (past_self p)).lives i c m
  lives_did p i (Begun u y z) k h c m = (h p (past_self p)).lives i c m
  lives_did p i (Changed u z) k h c m = (h p (past_self p)).lives i c m
  lives_did p i (Called u y z) k h c m = (h p (past_self p)).lives i c m
  lives_did p i (AsksCommit u y) k h c m = (h p (past_self p)).lives i c m
  lives_did p i (Ends u) k h c m = (h p (past_self p)).lives i c m
  lives_did p i (Made u y) k h c m = (h p (past_self p)).lives i c m
  lives_did p i (Answered u y) k h c m = (h p (past_self p)).lives i c m
  lives_did p i (Is y z) k h c m = (h p (past_self p)).lives i c m
  lives_did p i (Committed u) k h c m = (h p (past_self p)).lives i c m

  had_did : (p : Past) (i : Inc) (d : Did) → IsDone t p i d → CarriedAt P p → (c : Cert) → In c (stored (d ∷ life_in p i)).committed → P c
  had_did p i (Starts y) k h c m = h.stocks i.server c (subst (λ (z : Stored). In c z.committed) k.3 m)
  had_did p i (Came (Hears n)) k h c m = h.had i c m
  had_did p i (Came Ticks) k h c m = h.had i c m
  had_did p i (Came (Works z y)) k h c m = h.had i c m
  had_did p i (Came (Calls z y)) k h c m = h.had i c m
  had_did p i (Came (Operates z)) k h c m = h.had i c m
  had_did p i (Skips u v) k h c m = h.had i c m
  had_did p i (Gave n j) k h c m = h.had i c m
  had_did p i (Replied r) k h c m = h.had i c m
  had_did p i AskFails k h c m = h.had i c m
  had_did p i Founds k h c m = h.had i c m
  had_did p i (Enters z) k h c m = h.had i c m
  had_did p i (Done q) k h c m = h.had i c m
  had_did p i (Begun u y z) k h c m = h.had i c m
  had_did p i (Changed u z) k h c m = h.had i c m
  had_did p i (Called u y z) k h c m = h.had i c m
  had_did p i (AsksCommit u y) k h c m = h.had i c m
  had_did p i (Ends u) k h c m = h.had i c m
  had_did p i (Took z) k h c m = h.had i c m
  had_did p i (Made u y) k h c m = h.had i c m
  had_did p i (Answered u y) k h c m = h.had i c m
  had_did p i (Is y z) k h c m = h.had i c m
  had_did p i (Restores y z) k h c m = h.had i c m
  had_did p i (Committed u) k h c m = h.had i c m

  does : (p : Past) (j : Inc) (d : Did) → IsPast (Does j d ∷ p) v → CarriedBefore p → CarriedAt P (Does j d ∷ p)
  does p j d k h = record { lives = λ i. one i (inc_eq j i) refl; had = λ i. two i (inc_eq j i) refl; stocks = (h p (past_self p)).stocks }
    where
      one : (i : Inc) (b : Bool) → inc_eq j i ≡ b → (c : Cert) → In c (certs (elim b [ true ↦ d ∷ life_in p i | false ↦ life_in p i ])) → P c
      one i true e c m = lives_did p j d k h c (subst (λ y. In c (certs (d ∷ life_in p y))) (sym (inc_is j i e)) m)
      one i false e c m = (h p (past_self p)).lives i c m

      is_done : IsDone t p j d
      is_done = done_at (IsDone t) w p j d done (past_of v (Does j d ∷ p) w v_past k)

      two : (i : Inc) (b : Bool) → inc_eq j i ≡ b → (c : Cert) → In c (stored (elim b [ true ↦ d ∷ life_in p i | false ↦ life_in p i ])).committed → P c
      two i true e c m = had_did p j d is_done (h p (past_self p)) c (subst (λ y. In c (stored (d ∷ life_in p y)).committed) (sym (inc_is j i e)) m)
      two i false e c m = (h p (past_self p)).had i c m

  halts : (p : Past) (m : ℕ) → CarriedAt P p → CarriedAt P (Halts m ∷ p)
  halts p m h = record { lives = h.lives; had = h.had; stocks = λ n. go n (m == n) }
    where
      after : (n : ℕ) (o : Option Inc) (c : Cert) → In c (stored_after (stored_in p n) p o).committed → P c
      after n None c k = h.stocks n c k
      after n (Some i) c k = elim (in_either c (stored (life_in p i)).committed (committed_of (life_in p i) (certs (life_in p i))) k) [
        | inl z ↦ h.had i c z
        | inr z ↦ h.lives i c (committed_cert (life_in p i) (certs (life_in p i)) c z)
      ]

      go : (n : ℕ) (b : Bool) (c : Cert) → In c (elim b as (λ y. Stored) [ true ↦ stored_after (stored_in p n) p (running_in p n) | false ↦ stored_in p n ]).committed → P c
      go n true c k = after n (running_in p n) c k
      go n false c k = h.stocks n c k

  writes : (p : Past) (m : ℕ) (y : OfflineWrite) → CarriedAt P p → CarriedAt P (Writes m y ∷ p)
  writes p m y h = record { lives = h.lives; had = h.had; stocks = λ n. go n (m == n) }
    where
      wrote : ℕ → Stored
      wrote n = let z : Stored = stored_in p n in record { executed = with_gtid z.executed y.gtid; committed = z.committed; writes = z.writes ++ y ∷ [] }

      go : (n : ℕ) (b : Bool) (c : Cert) → In c (elim b as (λ y. Stored) [ true ↦ wrote n | false ↦ stored_in p n ]).committed → P c
      go n true c k = h.stocks n c k
      go n false c k = h.stocks n c k

  pub carried : (p : Past) → IsPast p v → CarriedBefore p
  carried [] k q e = subst (CarriedAt P) (sym e) (record { lives = λ i c m. absurd m; had = λ i c m. absurd m; stocks = λ n c m. absurd m })
  carried (Does j d ∷ p) k q e = go e (carried p (past_of (Does j d ∷ p) p v k (inr (past_self p))))
    where
      go : (q ≡ Does j d ∷ p) ⊎ IsPast q p → CarriedBefore p → CarriedAt P q
      go (inl z) h = subst (CarriedAt P) (sym z) (does p j d k h)
      go (inr z) h = h q z
  carried (Halts m ∷ p) k q e = go e (carried p (past_of (Halts m ∷ p) p v k (inr (past_self p))))
    where
      go : (q ≡ Halts m ∷ p) ⊎ IsPast q p → CarriedBefore p → CarriedAt P q
      go (inl z) h = subst (CarriedAt P) (sym z) (halts p m (h p (past_self p)))
      go (inr z) h = h q z
  carried (Writes m y ∷ p) k q e = go e (carried p (past_of (Writes m y ∷ p) p v k (inr (past_self p))))
    where
      go : (q ≡ Writes m y ∷ p) ⊎ IsPast q p → CarriedBefore p → CarriedAt P q
      go (inl z) h = subst (CarriedAt P) (sym z) (writes p m y (h p (past_self p)))
      go (inr z) h = h q z
