-- What a donor keeps of a history.
use Rattle.std.proofs.Common.{◌≡◌, ℕ, Bool, true, false, arith, eqb, ltb, subst, Option, Some, None, List, [], ◌∷◌, ◌++◌, map, refl, sym, ap, ◌∙◌}
use Rattle.std.specs.Prelude.{filter, nat_le, nat_lt, option_to_list, reverse}
use Rattle.std.proofs.lemmas.List.{reverse-append}
use Rattle.std.proofs.lemmas.Bool.{eqb-true}
use Rattle.std.proofs.lemmas.Bool.Decides.{nat_tests}
use Rattle.gr_ids.specs.declared.names.ValueId.{ValueId}
use Rattle.txn_forms.specs.declared.body.Body.{Body}
use Rattle.txn_forms.specs.declared.body.Body.TheVariants as body
use Rattle.group_rules.specs.declared.marks.Effect.{Effect}
use Rattle.group_rules.specs.declared.marks.Effect.TheVariants.{Plain, Void, Unread, Positive, Conflict}
use Rattle.gtid_sets.specs.Sets.{Gtids}
use Rattle.paxos_forms.specs.declared.recovery.Give.{Give}
use Rattle.paxos_forms.specs.declared.recovery.Given.{Given}
use Rattle.group_rules.specs.Events.{AskFails, AsksCommit, Answered, Begun, Called, Came, Cert, Changed, Committed, Did, Done, Ends, Enters, Entry, Founds, Gave, Is, Life, Made, Replied, Restores, Setup, Skips, Starts, Took}
use Rattle.group_rules.specs.Life.{cert_by, cert_of, certs, entry_at, stored, upto}
use Rattle.group_rules.specs.Recovery.{give_of, given_of, is_add}
use Rattle.group_rules.specs.Rows.{all_in, known, with_cert}
use Rattle.donor_recovery.specs.declared.at_add.AtAdd.{AtAdd}
use Rattle.donor_recovery.specs.Donating.{Donating, at_place, give_from, is_by, with_add, with_given}
use Rattle.donor_recovery.specs.Laws.{Donates, add_kept, add_of, after_entry, is_of_donor, marked_if, with_cert_given, with_certs}
use Rattle.donor_recovery.proofs.Giving.{same_gtids, same_lacking}

-- ---- the certified transactions

pub same_with : (cs : List Cert) (c : Cert) → map given_of (with_cert cs c) ≡ with_given (map given_of cs) (given_of c)
same_with [] c = refl
same_with (x ∷ xs) c = go (nat_lt c.place x.place) refl (same_with xs c)
  where
    go : (b : Bool) → nat_lt c.place x.place ≡ b → map given_of (with_cert xs c) ≡ with_given (map given_of xs) (given_of c) → map given_of (with_cert (x ∷ xs) c) ≡ with_given (map given_of (x ∷ xs)) (given_of c)
    go true e r = rw (e, with_cert, with_given) refl
    go false e r = rw (e, with_cert, with_given) (ap (λ (gs : List Given). given_of x ∷ gs) r)

-- at most one is certified by an entry
certified_next : (xs ds : List Cert) (d : Donating) (cs : List Cert) (c : Option Cert) → cs ≡ option_to_list c → d.certified ≡ map given_of (all_in xs ds) → (with_cert_given cs d).certified ≡ map given_of (all_in xs (cs ++ ds))
certified_next xs ds d cs None e h = let f : cs ≡ [] = e in rw f h
certified_next xs ds d cs (Some c) e h = let f : cs ≡ c ∷ [] = e in rw f (ap (λ (gs : List Given). with_given gs (given_of c)) h ∙ sym (same_with (all_in xs ds) c))

first_cert : List Cert → Option Cert
first_cert [] = None
first_cert (c ∷ cs) = Some c

few : (p : ℕ) (i : ValueId) (f : Effect) (y : Option Body) → cert_by p i f y ≡ option_to_list (first_cert (cert_by p i f y))
unfolding first_cert
few p i (Positive g) (Some (body.Txn t)) = refl
few p i (Positive g) (Some (body.Prepared h)) = refl
few p i (Positive g) (Some body.Sync) = refl
few p i (Positive g) (Some (body.Executed s)) = refl
few p i (Positive g) (Some (body.Online s)) = refl
few p i (Positive g) (Some (body.Mode m)) = refl
few p i (Positive g) (Some (body.Primary j)) = refl
few p i (Positive g) (Some (body.Part q)) = refl
few p i (Positive g) None = refl
few p i (Conflict g) y = refl
few p i Plain y = refl
few p i Void y = refl
few p i Unread y = refl

same_adds : (b : Bool) (a : AtAdd) (d : Donating) → (marked_if b a d).certified ≡ d.certified
same_adds true a d = refl
same_adds false a d = refl

-- ---- the Adds

itself : (n : ℕ) → eqb n n ≡ true
itself n = grind (arith, nat_tests)

at_own : (xs : List AtAdd) (a : AtAdd) → at_place (with_add xs a) a.place ≡ Some a
at_own [] a = rw (itself a.place, at_place) refl
at_own (x ∷ xs) a = go (ltb a.place x.place) (eqb a.place x.place) refl refl (at_own xs a)
  where
    here : (ys : List AtAdd) → at_place (a ∷ ys) a.place ≡ Some a
    here ys = rw (itself a.place, at_place) refl

    go : (u v : Bool) → ltb a.place x.place ≡ u → eqb a.place x.place ≡ v → at_place (with_add xs a) a.place ≡ Some a → at_place (with_add (x ∷ xs) a) a.place ≡ Some a
    go true v e f r = let w : with_add (x ∷ xs) a ≡ a ∷ x ∷ xs = rw (e, with_add) refl in ap (λ (ys : List AtAdd). at_place ys a.place) w ∙ here (x ∷ xs)
    go false true e f r = let w : with_add (x ∷ xs) a ≡ a ∷ xs = rw (e, f, with_add) refl in ap (λ (ys : List AtAdd). at_place ys a.place) w ∙ here xs
    go false false e f r =
        let w : with_add (x ∷ xs) a ≡ x ∷ with_add xs a = rw (e, f, with_add) refl in
        let n : at_place (x ∷ with_add xs a) a.place ≡ at_place (with_add xs a) a.place = rw (f, at_place) refl in
        ap (λ (ys : List AtAdd). at_place ys a.place) w ∙ (n ∙ r)

at_other : (xs : List AtAdd) (a : AtAdd) (p : ℕ) → eqb p a.place ≡ false → at_place (with_add xs a) p ≡ at_place xs p
at_other [] a p h = rw (h, at_place) refl
at_other (x ∷ xs) a p h = go (ltb a.place x.place) (eqb a.place x.place) (eqb p x.place) refl refl refl (at_other xs a p h)
  where
    past : (ys : List AtAdd) → at_place (a ∷ ys) p ≡ at_place ys p
    past ys = rw (h, at_place) refl

    go : (u v w : Bool) → ltb a.place x.place ≡ u → eqb a.place x.place ≡ v → eqb p x.place ≡ w → at_place (with_add xs a) p ≡ at_place xs p → at_place (with_add (x ∷ xs) a) p ≡ at_place (x ∷ xs) p
    go true v w e f g r = let w : with_add (x ∷ xs) a ≡ a ∷ x ∷ xs = rw (e, with_add) refl in ap (λ (ys : List AtAdd). at_place ys p) w ∙ past (x ∷ xs)
    go false true w e f g r =
        let w : with_add (x ∷ xs) a ≡ a ∷ xs = rw (e, f, with_add) refl in
        let k : eqb p x.place ≡ false = ap (eqb p) (sym (eqb-true a.place x.place f)) ∙ h in
        let n : at_place (x ∷ xs) p ≡ at_place xs p = rw (k, at_place) refl in
        ap (λ (ys : List AtAdd). at_place ys p) w ∙ (past xs ∙ sym n)
    go false false true e f g r =
        let w : with_add (x ∷ xs) a ≡ x ∷ with_add xs a = rw (e, f, with_add) refl in
        let n : at_place (x ∷ with_add xs a) p ≡ at_place (x ∷ xs) p = rw (g, at_place) refl in
        ap (λ (ys : List AtAdd). at_place ys p) w ∙ n
    go false false false e f g r =
        let w : with_add (x ∷ xs) a ≡ x ∷ with_add xs a = rw (e, f, with_add) refl in
        let m : at_place (x ∷ with_add xs a) p ≡ at_place (with_add xs a) p = rw (g, at_place) refl in
        let n : at_place (x ∷ xs) p ≡ at_place xs p = rw (g, at_place) refl in
        ap (λ (ys : List AtAdd). at_place ys p) w ∙ (m ∙ (r ∙ sym n))

-- ---- an entry

abbrev kept_if : Bool → AtAdd → Option AtAdd
kept_if b a = elim b [ true ↦ Some a | false ↦ None ]

-- two histories with the same entry at a place, and the same up to it
kept_same : (s : Setup) (l m : Life) (p : ℕ) → entry_at m p ≡ entry_at l p → upto m p ≡ upto l p → add_kept s m p (entry_at m p) ≡ add_kept s l p (entry_at l p)
kept_same s l m p e u = ap (add_kept s m p) e ∙ go (entry_at l p)
  where
    go : (o : Option Entry) → add_kept s m p o ≡ add_kept s l p o
    go None = refl
    go (Some f) = ap (λ (y : Life). kept_if (is_add f.value.what f.effect) (add_of s y p)) u

-- the place isn't that of the entry
other_place : (s : Setup) (l : Life) (e : Entry) (p : ℕ) → eqb e.place p ≡ false → add_kept s (Took e ∷ l) p (entry_at (Took e ∷ l) p) ≡ add_kept s l p (entry_at l p)
other_place s l e p h =
    let t : entry_at (Took e ∷ l) p ≡ entry_at l p = rw (h, entry_at) refl in
    let u : upto (Took e ∷ l) p ≡ upto l p = rw (h, upto) refl in
    kept_same s l (Took e ∷ l) p t u

-- what is kept at the entry's own place
own_place : (s : Setup) (l : Life) (e : Entry) → add_kept s (Took e ∷ l) e.place (entry_at (Took e ∷ l) e.place) ≡ kept_if (is_add e.value.what e.effect) (add_of s (Took e ∷ l) e.place)
own_place s l e =
    let t : entry_at (Took e ∷ l) e.place ≡ Some e = rw (itself e.place, entry_at) refl in
    let u : upto (Took e ∷ l) e.place ≡ Took e ∷ l = rw (itself e.place, upto) refl in
    ap (add_kept s (Took e ∷ l) e.place) t ∙ ap (λ (y : Life). kept_if (is_add e.value.what e.effect) (add_of s y e.place)) u

adds_same : (cs : List Cert) (d : Donating) → (with_cert_given cs d).adds ≡ d.adds
adds_same [] d = refl
adds_same (c ∷ cs) d = refl

turned : (a b : ℕ) → eqb a b ≡ false → eqb b a ≡ false
turned a b h = grind (arith, nat_tests)

abbrev IsKeptAt : Setup → Life → Entry → Donating → ℕ → Type 0
IsKeptAt s l e d p = at_place (after_entry e (add_of s (Took e ∷ l) e.place) d).adds p ≡ add_kept s (Took e ∷ l) p (entry_at (Took e ∷ l) p)

-- at its own place
kept_here : (s : Setup) (l : Life) (e : Entry) (d : Donating) → Donates s l d → entry_at l e.place ≡ None → (b : Bool) → is_add e.value.what e.effect ≡ b → IsKeptAt s l e d e.place
kept_here s l e d h n true i =
    let a = add_of s (Took e ∷ l) e.place in
    let f = with_cert_given (cert_of e) d in
    ap (λ (b : Bool). at_place (marked_if b a f).adds e.place) i ∙ (at_own f.adds a ∙ sym (own_place s l e ∙ ap (λ (b : Bool). kept_if b a) i))
kept_here s l e d h n false i =
    let a = add_of s (Took e ∷ l) e.place in
    let f = with_cert_given (cert_of e) d in
    ap (λ (b : Bool). at_place (marked_if b a f).adds e.place) i
    ∙ (ap (λ (xs : List AtAdd). at_place xs e.place) (adds_same (cert_of e) d)
    ∙ (h.adds e.place ∙ (ap (add_kept s l e.place) n ∙ sym (own_place s l e ∙ ap (λ (b : Bool). kept_if b a) i))))

-- at another place
kept_there : (s : Setup) (l : Life) (e : Entry) (d : Donating) (p : ℕ) → Donates s l d → eqb e.place p ≡ false → (b : Bool) → is_add e.value.what e.effect ≡ b → IsKeptAt s l e d p
kept_there s l e d p h t true i =
    let a = add_of s (Took e ∷ l) e.place in
    let f = with_cert_given (cert_of e) d in
    ap (λ (b : Bool). at_place (marked_if b a f).adds p) i
    ∙ (at_other f.adds a p (turned e.place p t) ∙ (ap (λ (xs : List AtAdd). at_place xs p) (adds_same (cert_of e) d) ∙ (h.adds p ∙ sym (other_place s l e p t))))
kept_there s l e d p h t false i =
    let a = add_of s (Took e ∷ l) e.place in
    let f = with_cert_given (cert_of e) d in
    ap (λ (b : Bool). at_place (marked_if b a f).adds p) i ∙ (ap (λ (xs : List AtAdd). at_place xs p) (adds_same (cert_of e) d) ∙ (h.adds p ∙ sym (other_place s l e p t)))

kept_after : (s : Setup) (l : Life) (e : Entry) (d : Donating) (p : ℕ) → Donates s l d → entry_at l e.place ≡ None → IsKeptAt s l e d p
kept_after s l e d p h n = go (eqb e.place p) refl
  where
    go : (t : Bool) → eqb e.place p ≡ t → IsKeptAt s l e d p
    go true t = subst (λ (q : ℕ). IsKeptAt s l e d q) (eqb-true e.place p t) (kept_here s l e d h n (is_add e.value.what e.effect) refl)
    go false t = kept_there s l e d p h t (is_add e.value.what e.effect) refl

certified_after : (s : Setup) (l : Life) (e : Entry) (d : Donating) (a : AtAdd) → Donates s l d → (after_entry e a d).certified ≡ map given_of (known (Took e ∷ l))
certified_after s l e d a h =
    same_adds (is_add e.value.what e.effect) a (with_cert_given (cert_of e) d)
    ∙ certified_next (all_in [] (stored l).committed) (certs l) d (cert_of e) (first_cert (cert_of e)) (few e.place e.value.id e.effect e.holds) h.certified

pub takes : (s : Setup) (l : Life) (e : Entry) (d : Donating) → Donates s l d → entry_at l e.place ≡ None → Donates s (Took e ∷ l) (after_entry e (add_of s (Took e ∷ l) e.place) d)
takes s l e d h n = record { certified = certified_after s l e d (add_of s (Took e ∷ l) e.place) h; adds = λ p. kept_after s l e d p h n }

-- ---- a Give that is taken up

in_two : (xs ys zs : List Cert) → all_in xs (ys ++ zs) ≡ all_in (all_in xs zs) ys
in_two xs [] zs = refl
in_two xs (y ∷ ys) zs = ap (λ (cs : List Cert). with_cert cs y) (in_two xs ys zs)

each_with : (gs : List Given) (xs : List Cert) (cs : List Cert) → gs ≡ map given_of xs → with_certs gs cs ≡ map given_of (all_in xs (reverse cs))
each_with gs xs [] e = e
each_with gs xs (c ∷ cs) e =
    each_with (with_given gs (given_of c)) (with_cert xs c) cs (ap (λ (gs : List Given). with_given gs (given_of c)) e ∙ sym (same_with xs c))
    ∙ ap (map given_of) (sym (in_two xs (reverse cs) (c ∷ [])) ∙ ap (all_in xs) (sym (reverse-append (c ∷ []) cs)))

pub restores : (s : Setup) (l : Life) (g : Give) (cs : List Cert) (d : Donating) → Donates s l d → certs l ≡ [] → Donates s (Restores g cs ∷ l) (record d { certified = with_certs d.certified cs })
restores s l g cs d h n = record {
  certified = each_with d.certified (all_in [] (stored l).committed) cs (h.certified ∙ ap (λ (xs : List Cert). map given_of (all_in (all_in [] (stored l).committed) xs)) n);
  adds = λ p. h.adds p ∙ sym (go p (entry_at l p));
}
  where
    go : (p : ℕ) (o : Option Entry) → add_kept s (Restores g cs ∷ l) p o ≡ add_kept s l p o
    go p None = refl
    go p (Some f) = refl

-- ---- what is given

same_by : (v : ℕ) (cs : List Cert) → filter (is_by v) (map given_of cs) ≡ map given_of (filter (λ c. nat_le c.place v) cs)
same_by v [] = refl
same_by v (c ∷ cs) = go (nat_le c.place v) refl (same_by v cs)
  where
    go : (b : Bool) → nat_le c.place v ≡ b → filter (is_by v) (map given_of cs) ≡ map given_of (filter (λ c. nat_le c.place v) cs) → filter (is_by v) (map given_of (c ∷ cs)) ≡ map given_of (filter (λ c. nat_le c.place v) (c ∷ cs))
    go true e r = rw e (ap (λ (gs : List Given). given_of c ∷ gs) r)
    go false e r = rw e r

given_at : (s : Setup) (l : Life) (v : ℕ) (o : Option Entry) (a : AtAdd) → add_kept s l v o ≡ Some a → a ≡ add_of s (upto l v) v
given_at s l v None a e = cc
given_at s l v (Some f) a e = go (is_add f.value.what f.effect) refl
  where
    go : (b : Bool) → is_add f.value.what f.effect ≡ b → a ≡ add_of s (upto l v) v
    go true i = let x : Some (add_of s (upto l v) v) ≡ Some a = sym (ap (λ (b : Bool). kept_if b (add_of s (upto l v) v)) i) ∙ e in cc
    go false i = let x : None ≡ Some a = sym (ap (λ (b : Bool). kept_if b (add_of s (upto l v) v)) i) ∙ e in cc

pub gives : (s : Setup) (l : Life) (v : ℕ) (e : Gtids) (d : Donating) (a : AtAdd) → Donates s l d → at_place d.adds v ≡ Some a
    → give_from a (filter (is_by v) d.certified) e ≡ give_of s (upto l v) (filter (λ c. nat_le c.place v) (known l)) v e
gives s l v e d a h k =
    let cs = filter (λ (c : Cert). nat_le c.place v) (known l) in
    let at : a ≡ add_of s (upto l v) v = given_at s l v (entry_at l v) a (sym (h.adds v) ∙ k) in
    let by : filter (is_by v) d.certified ≡ map given_of cs = ap (filter (is_by v)) h.certified ∙ same_by v (known l) in
    ap (λ (x : AtAdd). give_from x (filter (is_by v) d.certified) e) at
    ∙ (ap (λ (gs : List Given). give_from (add_of s (upto l v) v) gs e) by
    ∙ sym (give_is s (upto l v) cs v e))
  where
    give_is : (s : Setup) (l : Life) (cs : List Cert) (v : ℕ) (e : Gtids) → give_of s l cs v e ≡ give_from (add_of s l v) (map given_of cs) e
    give_is s l cs v e = rw (same_gtids cs, same_lacking e cs) refl

-- ---- what else happens

other : (s : Setup) (l : Life) (d : Donating) (x : Did) → Donates s l d → known (x ∷ l) ≡ known l → ((p : ℕ) → entry_at (x ∷ l) p ≡ entry_at l p) → ((p : ℕ) → upto (x ∷ l) p ≡ upto l p) → Donates s (x ∷ l) d
other s l d x f k e u = record { certified = f.certified ∙ ap (map given_of) (sym k); adds = λ p. f.adds p ∙ sym (kept_same s l (x ∷ l) p (e p) (u p)) }

pub passes : (s : Setup) (l : Life) (d : Donating) (x : Did) → is_of_donor x ≡ false → Donates s l d → Donates s (x ∷ l) d
passes s l d Founds h f = other s l d Founds f refl (λ p. refl) (λ p. refl)
passes s l d (Starts y) h f = cc
passes s l d (Came e) h f = other s l d (Came e) f refl (λ p. refl) (λ p. refl)
passes s l d (Made v y) h f = other s l d (Made v y) f refl (λ p. refl) (λ p. refl)
passes s l d (Took e) h f = cc
passes s l d (Skips t v) h f = other s l d (Skips t v) f refl (λ p. refl) (λ p. refl)
passes s l d (Done p) h f = other s l d (Done p) f refl (λ p. refl) (λ p. refl)
passes s l d (Committed g) h f = other s l d (Committed g) f refl (λ p. refl) (λ p. refl)
passes s l d (Is m c) h f = other s l d (Is m c) f refl (λ p. refl) (λ p. refl)
passes s l d (Gave p n) h f = other s l d (Gave p n) f refl (λ p. refl) (λ p. refl)
passes s l d (Answered n a) h f = other s l d (Answered n a) f refl (λ p. refl) (λ p. refl)
passes s l d (Begun n e y) h f = other s l d (Begun n e y) f refl (λ p. refl) (λ p. refl)
passes s l d (Changed n c) h f = other s l d (Changed n c) f refl (λ p. refl) (λ p. refl)
passes s l d (Replied r) h f = other s l d (Replied r) f refl (λ p. refl) (λ p. refl)
passes s l d (Called n v w) h f = other s l d (Called n v w) f refl (λ p. refl) (λ p. refl)
passes s l d (AsksCommit n i) h f = other s l d (AsksCommit n i) f refl (λ p. refl) (λ p. refl)
passes s l d (Ends n) h f = other s l d (Ends n) f refl (λ p. refl) (λ p. refl)
passes s l d (Enters w) h f = other s l d (Enters w) f refl (λ p. refl) (λ p. refl)
passes s l d (Restores g cs) h f = cc
passes s l d AskFails h f = other s l d AskFails f refl (λ p. refl) (λ p. refl)
