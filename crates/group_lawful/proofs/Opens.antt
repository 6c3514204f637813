-- The changes of a session's transaction: as a history has them, and as its life has.
use Rattle.std.proofs.Common.{◌≡◌, ◌⊎◌, inl, inr, ℕ, Bool, true, false, cond, not, ◌||◌, Option, Some, None, List, [], ◌∷◌, ◌++◌, refl, sym, ap, subst, ◌∙◌, eq-eqb, arith}
use Rattle.std.specs.Prelude.{◌==◌, if◌then◌else◌, filter, reverse}
use Rattle.std.specs.List.{list_any}
use Rattle.std.proofs.lemmas.List.{reverse-append}
use Rattle.std.proofs.lemmas.Bool.{false≢true, cases_Bool, not-true, eqb-true}
use Rattle.gr_ids.specs.declared.names.Inc.{Inc}
use Rattle.gr_ids.specs.declared.levels.MemberState.{MemberState}
use Rattle.gr_ids.specs.declared.levels.MemberState.TheVariants.{Error}
use Rattle.key_items.specs.declared.item.Item.{Item}
use Rattle.key_items.specs.declared.change.Change.{Change}
use Rattle.key_items.specs.Items.{item_eq, has_item}
use Rattle.key_items.proofs.Order.{item_eq_same, item_eq_itself}
use Rattle.txn_forms.specs.declared.body.Body.{Body}
use Rattle.txn_forms.specs.declared.body.Body.TheVariants.{Txn as Writes}
use Rattle.node_rules.specs.Lists.{In}
use Rattle.group_rules.specs.declared.answers.Answer.{Answer}
use Rattle.group_rules.specs.declared.answers.Answer.TheVariants.{Committed as CommittedAs}
use Rattle.group_rules.specs.Events.{Founds, Starts, Came, Made, Took, Skips, Done, Committed, Is, Gave, Answered, Begun, Changed, Replied, Called, AsksCommit, Ends, Enters, Restores, AskFails, Hears, Ticks, Works, Calls, Operates, Life, Setup, Cert}
use Rattle.gtid_sets.specs.Sets.{has}
use Rattle.group_rules.specs.Life.{state, is_error, executed, certs, has_give, entered}
use Rattle.group_rules.specs.Queue.{at_place, pending, queue, is_own}
use Rattle.paxos_forms.specs.declared.welcome.Welcome.{Welcome}
use Rattle.group_bridge.specs.Moves.{slots_in}
use Rattle.group_runs.specs.Runs.{is_founder}
use Rattle.group_order.specs.OneLog.{IsReady}
use Rattle.group_order.proofs.Shapes.{Shape}
use Rattle.group_laws.specs.Lists.{Mem}
use Rattle.group_laws.specs.Entries as law
use Rattle.group_laws.specs.Verdict as decided
use Rattle.group_laws.specs.Life as lives
use Rattle.group_laws.proofs.Lists.{any_mem, any_from, newest_mem}
use Rattle.group_laws.proofs.Certs.{same_place}
use Rattle.group_lives.specs.Lives.{life_of}
use Rattle.group_lawful.specs.Knows.{Alike, certified_of, Knows, Sound, AlwaysSound}

some_none : {A : Type 0} {x : A} → Some x ≡ None → ⊥
some_none e = absurd (cc e)

some_is : {A : Type 0} {x y : A} → Some x ≡ Some y → x ≡ y
some_is {x = x} {y = y} e = cc

end_none : (xs : List ℕ) (x : ℕ) → xs ++ x ∷ [] ≡ [] → ⊥
end_none [] x e = absurd (cc e)
end_none (y ∷ xs) x e = absurd (cc e)

-- ---- items of changes

abbrev pub any_item : List Change → Item → Bool
any_item ds x = list_any (λ (c : Change). item_eq c.item x) ds

pub any_more : (ds : List Change) (c : Change) (x : Item) → any_item (ds ++ c ∷ []) x ≡ (any_item ds x || item_eq c.item x)
any_more [] c x = or_none (item_eq c.item x)
  where
    or_none : (b : Bool) → (b || false) ≡ b
    or_none true = refl
    or_none false = refl
any_more (d ∷ ds) c x = ap (λ b. item_eq d.item x || b) (any_more ds c x) ∙ assoc (item_eq d.item x) (any_item ds x) (item_eq c.item x)
  where
    assoc : (a b c : Bool) → (a || (b || c)) ≡ ((a || b) || c)
    assoc true b c = refl
    assoc false b c = refl

-- one that has none of the items changes none of them
pub none_hit : (c : law.Cert) (ds : List Change) (x : Item) → lives.hits (Some c) ds ≡ false → has_item c.txn.items x ≡ true → any_item ds x ≡ false
none_hit c ds x h k = elim (cases_Bool (any_item ds x)) [
  | inr q ↦ q
  | inl q ↦ (let m = any_mem (λ (d : Change). item_eq d.item x) ds q in
      let same : (m.0).item ≡ x = item_eq_same (m.0).item x m.2 in
      let z : lives.hits (Some c) ds ≡ true = any_from (λ (d : Change). decided.writes c d.item) ds m.0 m.1 (ap (has_item c.txn.items) same ∙ k) in
      absurd (false≢true (sym h ∙ z)))
]

in_items : (xs : List Item) (x : Item) → Mem x xs → has_item xs x ≡ true
in_items xs x m = any_from (item_eq x) xs x m (item_eq_itself x)

-- where no key is kept of the items, none is hit
pub kept_hit : (c : law.Cert) (ds : List Change) → list_any (any_item ds) c.txn.items ≡ false → lives.hits (Some c) ds ≡ false
kept_hit c ds h = elim (cases_Bool (lives.hits (Some c) ds)) [
  | inr q ↦ q
  | inl q ↦ (let m = any_mem (λ (d : Change). decided.writes c d.item) ds q in
      let n = any_mem (item_eq (m.0).item) c.txn.items m.2 in
      let same : (m.0).item ≡ n.0 = item_eq_same (m.0).item n.0 n.2 in
      let here : any_item ds n.0 ≡ true = any_from (λ (d : Change). item_eq d.item n.0) ds m.0 m.1 (ap (λ y. item_eq y n.0) same ∙ item_eq_itself n.0) in
      absurd (false≢true (sym h ∙ any_from (any_item ds) c.txn.items n.0 n.1 here)))
]

pub hit_kept : (c : law.Cert) (ds : List Change) → lives.hits (Some c) ds ≡ false → list_any (any_item ds) c.txn.items ≡ false
hit_kept c ds h = elim (cases_Bool (list_any (any_item ds) c.txn.items)) [
  | inr q ↦ q
  | inl q ↦ (let m = any_mem (any_item ds) c.txn.items q in absurd (false≢true (sym (none_hit c ds m.0 h (in_items c.txn.items m.0 m.1)) ∙ m.2)))
]

pub any_same : {A : Type 0} (f g : A → Bool) → ((x : A) → f x ≡ g x) → (xs : List A) → list_any f xs ≡ list_any g xs
any_same f g e [] = refl
any_same f g e (x ∷ xs) = λ k. e x k || any_same f g e xs k

-- ---- the certified transaction at a place

pub find_is : (p : ℕ) (cs : List Cert) (c : Cert) → at_place cs p ≡ Some c → In c cs × (c.place ≡ p)
find_is p [] c h = absurd (cc h)
find_is p (d ∷ cs) c h = go (d.place == p) refl h (find_is p cs c)
  where
    go : (b : Bool) → (d.place == p) ≡ b → cond b (Some d) (at_place cs p) ≡ Some c → (at_place cs p ≡ Some c → In c cs × (c.place ≡ p)) → In c (d ∷ cs) × (c.place ≡ p)
    go true e q f = let s : d ≡ c = some_is q in (inl s, ap (λ (y : Cert). y.place) (sym s) ∙ eqb-true d.place p e)
    go false e q f = let k = f q in (inr k.0, k.1)

pub find_some : (p : ℕ) (cs : List Cert) (c : Cert) → In c cs → c.place ≡ p → (d : Cert) × (at_place cs p ≡ Some d)
find_some p [] c h e = absurd h
find_some p (x ∷ cs) c h e = go (x.place == p) refl h (λ k. find_some p cs c k e)
  where
    go : (b : Bool) → (x.place == p) ≡ b → (x ≡ c) ⊎ In c cs → (In c cs → (d : Cert) × (at_place cs p ≡ Some d)) → (d : Cert) × (cond b (Some x) (at_place cs p) ≡ Some d)
    go true q k f = (x, refl)
    go false q (inl k) f = absurd (false≢true (sym q ∙ eq-eqb x.place p (ap (λ (y : Cert). y.place) k ∙ e)))
    go false q (inr k) f = f k

pub in_filter : (test : Cert → Bool) (x : Cert) (xs : List Cert) → In x (filter test xs) → In x xs × (test x ≡ true)
in_filter test x [] h = absurd h
in_filter test x (y ∷ ys) h = go (test y) refl h (in_filter test x ys)
  where
    go : (b : Bool) → test y ≡ b → In x (if b then y ∷ filter test ys else filter test ys) → (In x (filter test ys) → In x ys × (test x ≡ true)) → In x (y ∷ ys) × (test x ≡ true)
    go true e (inl q) k = (inl q, ap test (sym q) ∙ e)
    go true e (inr z) k = let m = k z in (inr m.0, m.1)
    go false e z k = let m = k z in (inr m.0, m.1)

pub in_end : (x : Cert) (xs : List Cert) (y : Cert) → In x (xs ++ y ∷ []) → (y ≡ x) ⊎ In x xs
in_end x [] y h = elim h [ inl q ↦ inl q | inr z ↦ absurd z ]
in_end x (z ∷ xs) y h = elim h [ inl q ↦ inr (inl q) | inr k ↦ elim (in_end x xs y k) [ inl q ↦ inl q | inr m ↦ inr (inr m) ] ]

pub in_reverse : (x : Cert) (xs : List Cert) → In x (reverse xs) → In x xs
in_reverse x [] h = h
in_reverse x (y ∷ ys) h = elim (in_end x (reverse ys) y (subst (In x) (reverse-append (y ∷ []) ys) h)) [ inl q ↦ inl q | inr k ↦ inr (in_reverse x ys k) ]

-- what is pending is certified, and isn't committed
pub in_pending : (l : Life) (c : Cert) → In c (pending l) → In c (certs l) × (has (executed l) c.gtid ≡ false)
in_pending l c h =
    let k = in_filter (λ (d : Cert). not (has (executed l) d.gtid)) c (reverse (certs l)) h in
    (in_reverse c (certs l) k.0, not-true (has (executed l) c.gtid) k.1)

-- what is queued is pending, of another origin, and the member isn't in ERROR
pub in_queue : (l : Life) (me : Inc) (c : Cert) → In c (queue l me) → (is_error (state l) ≡ false) × In c (pending l) × (is_own me c ≡ false)
in_queue l me c h = go (is_error (state l)) refl h
  where
    go : (b : Bool) → is_error (state l) ≡ b → In c (elim b [ true ↦ [] | false ↦ filter (λ d. not (is_own me d)) (pending l) ]) → (is_error (state l) ≡ false) × In c (pending l) × (is_own me c ≡ false)
    go true e z = absurd z
    go false e z = let k = in_filter (λ (d : Cert). not (is_own me d)) c (pending l) z in (e, k.0, not-true (is_own me c) k.1)

module _ (t : Setup) (i : Inc) (base : List law.Placed) where
  -- the two have the same transaction at a place
  pub record AtPlace (l : Life) (p : ℕ) : Type 0 where
    pub cert : Cert
    pub listed : law.Cert
    pub found : at_place (certs l) p ≡ Some cert
    pub newest : lives.at_place p (certified_of t base l) ≡ Some listed
    pub alike : Alike cert listed
    pub place : cert.place ≡ p
    pub here : In cert (certs l)
    pub there : Mem listed (certified_of t base l)

  newest_there : (p : ℕ) (cs : List law.Cert) (d : law.Cert) → Mem d cs → d.place ≡ p → (c : law.Cert) × (lives.at_place p cs ≡ Some c)
  newest_there p [] d m e = absurd m
  newest_there p (x ∷ cs) d m e = go (x.place == p) refl m (λ k. newest_there p cs d k e)
    where
      go : (b : Bool) → (x.place == p) ≡ b → (x ≡ d) ⊎ Mem d cs → (Mem d cs → (c : law.Cert) × (lives.at_place p cs ≡ Some c)) → (c : law.Cert) × (cond b (Some x) (lives.at_place p cs) ≡ Some c)
      go true q k f = (x, refl)
      go false q (inl k) f = absurd (false≢true (sym q ∙ eq-eqb x.place p (ap (λ (y : law.Cert). y.place) k ∙ e)))
      go false q (inr k) f = f k

  pub at_place_as : (l : Life) → Knows t base l → (c : Cert) (p : ℕ) → In c (certs l) → c.place ≡ p → AtPlace l p
  at_place_as l k c p m e =
      let f = find_some p (certs l) c m e in
      let a = find_is p (certs l) f.0 f.1 in
      let d = k.of_list f.0 a.0 in
      let n = newest_there p (certified_of t base l) d.0 d.1 (sym (d.2).place ∙ a.1) in
      let b = newest_mem (λ (y : law.Cert). y.place == p) (certified_of t base l) n.0 n.1 in
      let same : n.0 ≡ d.0 = same_place t (lives.marked (life_of base l)) n.0 d.0 b.0 d.1 (eqb-true (n.0).place p b.1 ∙ sym a.1 ∙ (d.2).place) in
      record { cert = f.0; listed = d.0; found = f.1; newest = n.1 ∙ ap Some same; alike = d.2; place = a.1; here = a.0; there = d.1 }

  -- ---- one that isn't ready has no certified transactions

  pub unready : (l : Life) → slots_in l ≡ [] → has_give l ≡ false → (certs l ≡ []) × (lives.marked (life_of base l) ≡ [])
  unready [] h g = (refl, refl)
  unready (Took e ∷ l) h g = absurd (end_none (slots_in l) e.slot h)
  unready (Skips u v ∷ l) h g = absurd (end_none (slots_in l) u h)
  unready (Restores y cs ∷ l) h g = absurd (false≢true (sym g))
  unready (Made v y ∷ l) h g = let k = unready l h g in (k.0, made y ∙ k.1)
    where
      made : (y : Option Body) → lives.marked (life_of base (Made v y ∷ l)) ≡ lives.marked (life_of base l)
      made (Some (Writes x)) = refl
      made y = refl
  unready (Answered u a ∷ l) h g = let k = unready l h g in (k.0, answered a ∙ k.1)
    where
      answered : (a : Answer) → lives.marked (life_of base (Answered u a ∷ l)) ≡ lives.marked (life_of base l)
      answered (CommittedAs g) = refl
      answered a = refl
  unready (Is x c ∷ l) h g = let k = unready l h g in (k.0, is x ∙ k.1)
    where
      is : (x : MemberState) → lives.marked (life_of base (Is x c ∷ l)) ≡ lives.marked (life_of base l)
      is Error = refl
      is x = refl
  unready (Came (Hears m) ∷ l) h g = unready l h g
  unready (Came Ticks ∷ l) h g = unready l h g
  unready (Came (Works a y) ∷ l) h g = unready l h g
  unready (Came (Calls a y) ∷ l) h g = unready l h g
  unready (Came (Operates a) ∷ l) h g = unready l h g
  unready (Committed y ∷ l) h g = unready l h g
  unready (Gave n m ∷ l) h g = unready l h g
  unready (Replied r ∷ l) h g = unready l h g
  unready (AskFails ∷ l) h g = unready l h g
  unready (Founds ∷ l) h g = unready l h g
  unready (Starts x ∷ l) h g = unready l h g
  unready (Enters z ∷ l) h g = unready l h g
  unready (Begun u a c ∷ l) h g = unready l h g
  unready (Changed u c ∷ l) h g = unready l h g
  unready (Called u v w ∷ l) h g = unready l h g
  unready (AsksCommit u y ∷ l) h g = unready l h g
  unready (Ends u ∷ l) h g = unready l h g
  unready (Done n ∷ l) h g = unready l h g

  pub ready_or : (l : Life) → Shape t i l → IsReady t i l ⊎ ((slots_in l ≡ []) × (has_give l ≡ false))
  ready_or l s = elim (cases_Bool (is_founder t i)) [
    | inl f ↦ inl (inl f)
    | inr f ↦ elim (cases_Bool (has_give l)) [
      | inl g ↦ inl (inr g)
      | inr g ↦ inr (empty f g (entered l) refl, g)
    ]
  ]
    where
      empty : is_founder t i ≡ false → has_give l ≡ false → (o : Option Welcome) → entered l ≡ o → slots_in l ≡ []
      empty f g None e = ((s.joiner f).unentered e).slots
      empty f g (Some w) e = ((s.joiner f).ungiven w e g).slots

  -- one that knows a certified transaction is ready
  pub sound_where : (l : Life) → AlwaysSound t i base l → (c : Cert) → In c (certs l) → Sound t i base l
  sound_where [] o c m = absurd m
  sound_where (d ∷ l) o c m = elim (ready_or (d ∷ l) o.0.0.0) [
    | inl r ↦ o.0.0.1 r (omega arith)
    | inr e ↦ (let k = unready (d ∷ l) e.0 e.1 in absurd (subst (In c) k.0 m))
  ]
