-- A run that meets the definitions: a founder commits one insert, a joiner gets its Give and comes ONLINE.
use Rattle.std.proofs.Common.{◌≡◌, ◌⊎◌, inl, inr, ℕ, ◌<◌, List, [], ◌∷◌, Some, None, Bool, true, false, ◌&&◌, ◌||◌, leb, eqb, leb-true, refl, ap, subst, arith, cond, eqb-true, sym}
use Rattle.std.proofs.lemmas.Bool.{false≢true, cases_eq, ne_eqb}
use Rattle.group_rules.specs.Events.{Setup}
use Rattle.group_laws.specs.Lists.{Mem, IsPast}
use Rattle.group_laws.specs.Names.{Inc, Gtid, Item, Gtids, has, bytes_eq, item_eq, Change, Inserts, Joiner, Txn, Eventual, Multi}
use Rattle.group_laws.specs.Entries.{Write, Online, Joins, Value, Positive, NoTxn, Cert, as_made}
use Rattle.group_laws.specs.Life.{Started, Given, Made, Took, Committed, Called, Begun, Call, executed, Finished, Changed, Asked, Life}
use Rattle.group_laws.specs.Lawful.{Holds, InSession, Waits, Lost}
use Rattle.group_laws.specs.World.{Does, World, Lawful, Joint, IsRun}

abbrev one : Inc
one = record { server = 1; start = 1 }

abbrev two : Inc
two = record { server = 2; start = 1 }

abbrev joiner : Inc → Joiner
joiner i = record { inc = i; uuid = []; version = []; weight = 50 }

abbrev rules : Setup
rules = record { limits = record { group = 7 ∷ []; horizon = 10; expel = 5; majority = 0; block = 1 }; mode = Multi; founders = joiner one ∷ [] }

abbrev item : Item
item = record { table = 1 ∷ []; key = 2 ∷ [] }

abbrev insert : Change
insert = record { item = item; what = Inserts (5 ∷ []) }

abbrev txn : Txn
txn = record { after = false; snapshot = []; items = item ∷ []; changes = record { item = item; what = Inserts (5 ∷ []) } ∷ [] }

abbrev write : Value
write = record { origin = one; number = 1; body = Write txn }

abbrev add : Value
add = record { origin = one; number = 2; body = Joins (joiner two) }

abbrev gtid : Gtid
gtid = record { source = 7 ∷ []; number = 1 }

abbrev done : Gtids
done = record { source = 7 ∷ []; first = 1; last = 1 } ∷ []

abbrev on : Value
on = record { origin = two; number = 1; body = Online done }

abbrev list : List Value
list = on ∷ add ∷ write ∷ []

abbrev run : World
run =
    Does two (Took (record { value = on; outcome = NoTxn })) ∷
    Does two (Made on) ∷
    Does two (Committed gtid) ∷
    Does two (Finished 1) ∷
    Does two (Given (record { value = add; outcome = NoTxn } ∷ record { value = write; outcome = Positive 1 } ∷ [])) ∷
    Does one (Took (record { value = add; outcome = NoTxn })) ∷
    Does two (Started []) ∷
    Does one (Made (as_made add)) ∷
    Does one (Committed gtid) ∷
    Does one (Took (record { value = write; outcome = Positive 1 })) ∷
    Does one (Made write) ∷
    Does one (Asked 9) ∷
    Does one (Changed 9 insert) ∷
    Does one (Begun 9) ∷
    Does one (Called 9 Eventual 0) ∷ []

abbrev cert : Cert
cert = record { place = 1; origin = one; id = 1; gtid = gtid; txn = txn }

one_only : (n : ℕ) → (leb 1 n && leb n 1) ≡ eqb 1 n
one_only n = go (cases_eq 1 n)
  where
    go : (1 ≡ n) ⊎ (1 ≡ n → ⊥) → (leb 1 n && leb n 1) ≡ eqb 1 n
    go (inl e) = subst (λ (y : ℕ). (leb 1 y && leb y 1) ≡ eqb 1 y) e refl
    go (inr ne) = out (leb 1 n) refl (leb n 1) refl
      where
        no_eq : eqb 1 n ≡ false
        no_eq = ne_eqb 1 n ne

        out : (a : Bool) → leb 1 n ≡ a → (b : Bool) → leb n 1 ≡ b → (leb 1 n && leb n 1) ≡ eqb 1 n
        out false p b q = rw (p, no_eq) refl
        out true p false q = rw (p, q, no_eq) refl
        out true p true q = let x = leb-true 1 n p in let y = leb-true n 1 q in absurd (ne (omega (arith, x, y)))

online_tells : (g : Gtid) → has done g ≡ executed (Committed gtid ∷ Finished 1 ∷ Given (record { value = add; outcome = NoTxn } ∷ record { value = write; outcome = Positive 1 } ∷ []) ∷ Started [] ∷ []) g
online_tells g = ap (λ (x : Bool). (bytes_eq (7 ∷ []) g.source && x) || false) (one_only g.number)

call : Call
call = record { level = Eventual; sync = 0; past = [] }

founder_holds : Holds rules (Called 9 Eventual 0 ∷ []) one (record { level = Eventual; sync = 0; past = [] })
founder_holds = record {
  after = λ h d a p. absurd p.0;
  before = λ h. absurd (false≢true h);
  primary = λ o h p d i l. absurd i;
  joined = λ o d i l. absurd i;
}

is_lawful : Lawful rules run
is_lawful = (
  record { is_ready = refl; outcome = refl },
  (
    record { own = refl; next = refl; body = online_tells },
    (
      record { cert = cert; here = inl refl; is_it = refl; uncommitted = refl; done = λ n. refl; order = inr no_earlier; complete = λ h. absurd (false≢true h) },
      (
        (cert, inl refl, refl, (λ e. one_is_two e)),
        (
          record { fresh = refl; add = (record { value = add; outcome = NoTxn }, record { value = write; outcome = Positive 1 } ∷ [], joiner two, refl, refl, refl); no_extra = λ g h. absurd (false≢true h) },
          (
            record { is_ready = refl; outcome = refl },
            (
              (refl, refl),
              (
                record { own = refl; next = refl; body = tt },
                (
                  record { cert = cert; here = inl refl; is_it = refl; uncommitted = refl; done = λ n. absurd (n refl); order = inl refl; complete = λ h. absurd (false≢true h) },
                  (
                    record { is_ready = refl; outcome = refl },
                    (
                      record { own = refl; next = refl; body = ((λ g. refl), (in_session, record { past = Changed 9 insert ∷ Begun 9 ∷ Called 9 Eventual 0 ∷ []; asked = refl; changes = refl; covers = covers; keys = keys })) },
                      (
                        tt,
                        (
                          record { changes = []; is_open = refl; is_ready = refl; need = refl; no_place = λ c i. absurd i; no_open = λ t ds n o dh i. no_other t ds n o dh i; no_asked = λ v t a p. not_made v a p },
                          (
                            (record { level = Eventual; sync = 0; past = [] }, refl, founder_holds),
                            ((λ h. absurd (false≢true h)), tt),
                          ),
                        ),
                      ),
                    ),
                  ),
                ),
              ),
            ),
          ),
        ),
      ),
    ),
  ),
)
  where
    one_is_two : one ≡ two → ⊥
    one_is_two e = let q : 1 ≡ 2 = ap (λ (y : Inc). y.server) e in absurd (omega (arith, q))

    in_session : InSession rules one (Asked 9 ∷ Changed 9 insert ∷ Begun 9 ∷ Called 9 Eventual 0 ∷ [])
    in_session = record { session = 9; begun = Called 9 Eventual 0 ∷ []; call = record { level = Eventual; sync = 0; past = [] }; is_begun = refl; is_call = refl; was_online = refl }

    covers : (c : Change) → Mem c txn.changes → Mem c.item txn.items
    covers c (inl e) = inl (ap (λ (y : Change). y.item) e)
    covers c (inr i) = absurd i

    keys : (i : Item) → Mem i txn.items → (ch : Change) × Mem ch txn.changes × (ch.item ≡ i)
    keys i (inl e) = (insert, inl refl, e)
    keys i (inr h) = absurd h

    no_earlier : (d : Cert) → Mem d (cert ∷ []) → d.place < 1 → has [] d.gtid ≡ true
    no_earlier d (inl e) l = let p : 1 ≡ d.place = ap (λ (y : Cert). y.place) e in absurd (omega (arith, p, l))
    no_earlier d (inr i) l = absurd i

    no_other : (t : ℕ) (ds : List Change) → (t ≡ 9 → ⊥) → cond (eqb 9 t) (Some []) None ≡ Some ds → (dh : Change) → Mem dh ds → item_eq dh.item item ≡ false
    no_other t ds n o dh i = go (eqb 9 t) refl
      where
        go : (b : Bool) → eqb 9 t ≡ b → item_eq dh.item item ≡ false
        go true e = absurd (n (sym (eqb-true 9 t e)))
        go false e = let z : None ≡ Some ds = subst (λ (b : Bool). cond b (Some []) None ≡ Some ds) e o in absurd (cc z)

    not_made : (v : Value) (a : Life) → IsPast (Made v ∷ a) (Begun 9 ∷ Called 9 Eventual 0 ∷ []) → {t : Txn} → v.body ≡ Write t → Mem item t.items → Waits rules one (Begun 9 ∷ Called 9 Eventual 0 ∷ []) v → Lost rules (Begun 9 ∷ Called 9 Eventual 0 ∷ []) a item
    not_made v a (inl e) = absurd (cc e)
    not_made v a (inr (inl e)) = absurd (cc e)
    not_made v a (inr (inr e)) = absurd (cc e)

is_joint : Joint rules list run
is_joint = (
  (inl refl, (_, inl refl)),
  (
    tt,
    (
      tt,
      (
        tt,
        (
          (one, inl refl),
          (
            (inr (inl refl), (_, inr (inl refl))),
            (
              (λ g. refl),
              (
                tt,
                (
                  tt,
                  (
                    (inr (inr (inl refl)), (_, inl refl)),
                    (tt, (tt, (tt, (tt, (tt, tt))))),
                  ),
                ),
              ),
            ),
          ),
        ),
      ),
    ),
  ),
)

is_run : IsRun rules list run
is_run = record {
  founding = record { block = omega arith };
  lawful = is_lawful;
  joint = is_joint;
  alive = (refl, (refl, (refl, (refl, (refl, (refl, (tt, (refl, (refl, (refl, (refl, (refl, (refl, (refl, (refl, tt)))))))))))))));
  kept = ((refl, refl), ((refl, refl), ((refl, refl), tt)));
}
