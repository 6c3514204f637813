-- The rows of a history, thing by thing.
use Rattle.std.proofs.Common.{◌≡◌, ℕ, Bool, true, false, ◌&&◌, Option, None, List, [], ◌∷◌, ◌++◌, refl, sym, ap, subst, ◌∙◌}
use Rattle.std.specs.Prelude.{reverse, if◌then◌else◌}
use Rattle.std.proofs.lemmas.Bool.{false≢true, and_parts}
use Rattle.gr_ids.specs.declared.names.Gtid.{Gtid}
use Rattle.key_items.specs.declared.item.Item.{Item}
use Rattle.key_items.specs.declared.change.Change.{Change}
use Rattle.gtid_sets.specs.Sets.{Gtids, has, meet, with_gtid}
use Rattle.paxos_forms.specs.declared.recovery.Give.{Give}
use Rattle.node_rules.specs.Lists.{In}
use Rattle.group_rules.specs.Events.{AskFails, AsksCommit, Answered, Begun, Called, Came, Cert, Changed, Committed, Did, Done, Ends, Enters, Entry, Founds, Gave, Is, Life, Made, Replied, Restores, Skips, Starts, Took}
use Rattle.group_rules.specs.Life.{cert_of, certs, executed, stored}
use Rattle.group_rules.specs.Rows.{all_in, changed_row, known, offline_row, row_by, row_of}
use Rattle.group_rules.specs.World.{nothing_stored}
use Rattle.row_store.specs.Chains.{Chain, IsApplied, row_at, row_now, row_with}
use Rattle.row_store.specs.Following.{AreAlike, IsPartOf, IsWithin, RowsOf, is_of_rows, is_start}
use Rattle.row_store.proofs.Members.{grows, has_both, has_new}
use Rattle.row_store.proofs.Known.{all_first, all_second, in_reverse, unseen_all, unseen_with, with_new, with_old}

-- ---- what is executed is within

pub executed_within : (l : Life) → IsWithin (executed l) l
executed_within l = record { certified = λ c m h. h; written = λ w m h. h }

pub part_within : (l : Life) (e : Gtids) → IsPartOf e (executed l) → IsWithin e l
part_within l e p = record { certified = λ c m h. p c.gtid h; written = λ w m h. p w.gtid h }

-- what a set has of the executed set
abbrev pub inside : Gtids → Life → Gtids
inside e l = meet e (executed l)

pub inside_part : (e : Gtids) (l : Life) → IsPartOf (inside e l) (executed l)
inside_part e l g h = (and_parts (has e g) (has (executed l) g) (sym (has_both e (executed l) g) ∙ h)).1

pub inside_alike : (e : Gtids) (l : Life) → AreAlike (executed l) e (inside e l)
inside_alike e l g h = sym (has_both e (executed l) g ∙ go (has e g) (has (executed l) g) h)
  where
    go : (a b : Bool) → b ≡ true → (a && b) ≡ a
    go true true k = refl
    go false true k = refl
    go a false k = absurd (false≢true k)

-- any set sees what its part that is executed sees
pub sees_inside : (l : Life) (cs : List Chain) (i : Item) (e : Gtids) → RowsOf l cs → row_at cs i e ≡ row_of l (inside e l) i
sees_inside l cs i e h = h.alone i e (inside e l) (inside_alike e l) ∙ h.seen i (inside e l) (part_within l (inside e l) (inside_part e l))

-- ---- what is told

pub now_told : (l : Life) (cs : List Chain) (i : Item) → RowsOf l cs → row_now cs i ≡ row_of l (executed l) i
now_told l cs i h = h.now i ∙ h.seen i (executed l) (executed_within l)

pub set_told : (l : Life) (cs : List Chain) (i : Item) (e : Gtids) → RowsOf l cs → IsPartOf e (executed l) → row_at cs i e ≡ row_of l e i
set_told l cs i e h p = h.seen i e (part_within l e p)

-- ---- the begin

pub founded : RowsOf (Founds ∷ []) []
founded = record { seen = λ i e w. refl; alone = λ i e f a. refl; now = λ i. refl }

pub started_first : RowsOf (Starts nothing_stored ∷ []) []
started_first = record { seen = λ i e w. refl; alone = λ i e f a. refl; now = λ i. refl }

-- ---- what leaves the rows

carried : (k l : Life) (cs : List Chain) → ((e : Gtids) → IsWithin e k → IsWithin e l) → ((i : Item) (e : Gtids) → IsWithin e k → row_of l e i ≡ row_of k e i) → executed k ≡ executed l → RowsOf l cs → RowsOf k cs
carried k l cs w r x h = record {
  seen = λ i e n. h.seen i e (w e n) ∙ r i e n;
  alone = λ i e f a. h.alone i e f (λ g m. a g (ap (λ s. has s g) x ∙ m));
  now = λ i. h.now i ∙ ap (row_at cs i) (sym x);
}

-- ---- an entry

known_of : (l : Life) (e : Entry) (xs : List Cert) → cert_of e ≡ xs → known (Took e ∷ l) ≡ all_in (all_in [] (stored l).committed) (xs ++ certs l)
known_of l e xs n = ap (λ (cs : List Cert). all_in (all_in [] (stored l).committed) (cs ++ certs l)) n

pub takes_none : (l : Life) (e : Entry) (cs : List Chain) → RowsOf l cs → cert_of e ≡ [] → RowsOf (Took e ∷ l) cs
takes_none l e cs h n = carried (Took e ∷ l) l cs
    (λ s w. record { certified = λ c m t. w.certified c (subst (In c) (sym (known_of l e [] n)) m) t; written = w.written })
    (λ i s w. ap (λ (ds : List Cert). offline_row i s (row_by i s None ds) (stored l).writes) (sym (known_of l e [] n)))
    refl h

pub takes_one : (l : Life) (e : Entry) (c : Cert) (cs : List Chain) → RowsOf l cs → cert_of e ≡ c ∷ [] → has (executed l) c.gtid ≡ false → RowsOf (Took e ∷ l) cs
takes_one l e c cs h n f = carried (Took e ∷ l) l cs
    (λ s w. record { certified = λ d m t. w.certified d (subst (In d) (sym (known_of l e (c ∷ []) n)) (with_old (known l) c d m)) t; written = w.written })
    (λ i s w. ap (λ (r : Option (List ℕ)). offline_row i s r (stored l).writes) (sym (ap (row_by i s None) (known_of l e (c ∷ []) n) ∙ unseen_with i s None (known l) c (unseen s w))))
    refl h
  where
    unseen : (s : Gtids) → IsWithin s (Took e ∷ l) → has s c.gtid ≡ false
    unseen s w = go (has s c.gtid) refl
      where
        go : (b : Bool) → has s c.gtid ≡ b → has s c.gtid ≡ false
        go true t = absurd (false≢true (sym f ∙ w.certified c (subst (In c) (sym (known_of l e (c ∷ []) n)) (with_new (known l) c)) t))
        go false t = t

-- ---- a Give

pub restores : (l : Life) (g : Give) (ts : List Cert) (cs : List Chain) → RowsOf l cs → certs l ≡ [] → ((c : Cert) → In c ts → has (executed l) c.gtid ≡ false) → RowsOf (Restores g ts ∷ l) cs
restores l g ts cs h n f = carried (Restores g ts ∷ l) l cs
    (λ s w. record { certified = λ c m t. w.certified c (all_first had (reverse ts) c (subst (In c) before m)) t; written = w.written })
    (λ i s w. ap (λ (r : Option (List ℕ)). offline_row i s r (stored l).writes) (ap (row_by i s None) before ∙ sym (unseen_all i s None had (reverse ts) (λ c m. unseen s w c m))))
    refl h
  where
    had : List Cert
    had = all_in [] (stored l).committed

    before : known l ≡ had
    before = ap (all_in had) n

    unseen : (s : Gtids) → IsWithin s (Restores g ts ∷ l) → (c : Cert) → In c (reverse ts) → has s c.gtid ≡ false
    unseen s w c m = go (has s c.gtid) refl
      where
        go : (b : Bool) → has s c.gtid ≡ b → has s c.gtid ≡ false
        go true t = absurd (false≢true (sym (f c (in_reverse c ts m)) ∙ w.certified c (all_second had (reverse ts) c m) t))
        go false t = t

-- ---- a transaction is applied

pub with_seen : (g : Gtid) (xs : List Change) (e : Gtids) (i : Item) (r : Option (List ℕ)) → has e g ≡ true → row_with g xs e i r ≡ changed_row i r xs
with_seen g xs e i r h = rw h refl

pub with_unseen : (g : Gtid) (xs : List Change) (e : Gtids) (i : Item) (r : Option (List ℕ)) → has e g ≡ false → row_with g xs e i r ≡ r
with_unseen g xs e i r h = rw h refl

-- two sets with the same of the executed set see the same after it, and the rows now are those of the set
pub applied_alone : (s : Gtids) (g : Gtid) (xs : List Change) (cs ds : List Chain) → IsApplied cs ds g xs → ((i : Item) (e f : Gtids) → AreAlike s e f → row_at cs i e ≡ row_at cs i f)
    → (i : Item) (e f : Gtids) → AreAlike (with_gtid s g) e f → row_at ds i e ≡ row_at ds i f
applied_alone s g xs cs ds a h i e f k =
    a i e
    ∙ (ap (row_with g xs e i) (h i e f (λ m n. k m (grows s g m n)))
    ∙ (ap (λ b. if b then changed_row i (row_at cs i f) xs else row_at cs i f) (k g (has_new s g)) ∙ sym (a i f)))

pub applied_now : (s : Gtids) (g : Gtid) (xs : List Change) (cs ds : List Chain) → IsApplied cs ds g xs → ((i : Item) (e f : Gtids) → AreAlike s e f → row_at cs i e ≡ row_at cs i f) → ((i : Item) → row_now cs i ≡ row_at cs i s)
    → ((i : Item) → row_now ds i ≡ changed_row i (row_now cs i) xs) → (i : Item) → row_now ds i ≡ row_at ds i (with_gtid s g)
applied_now s g xs cs ds a h n k i =
    k i
    ∙ (ap (λ r. changed_row i r xs) (n i ∙ h i s (with_gtid s g) (λ m t. t ∙ sym (grows s g m t)))
    ∙ (sym (with_seen g xs (with_gtid s g) i (row_at cs i (with_gtid s g)) (has_new s g)) ∙ sym (a i (with_gtid s g))))

-- ---- what else happens

pub passes : (l : Life) (d : Did) (cs : List Chain) → is_of_rows d ≡ false → RowsOf l cs → RowsOf (d ∷ l) cs
passes l Founds cs h k = carried (Founds ∷ l) l cs (λ s w. record { certified = w.certified; written = w.written }) (λ i s w. refl) refl k
passes l (Starts y) cs h k = cc
passes l (Came e) cs h k = carried (Came e ∷ l) l cs (λ s w. record { certified = w.certified; written = w.written }) (λ i s w. refl) refl k
passes l (Made v y) cs h k = carried (Made v y ∷ l) l cs (λ s w. record { certified = w.certified; written = w.written }) (λ i s w. refl) refl k
passes l (Took e) cs h k = cc
passes l (Skips t v) cs h k = carried (Skips t v ∷ l) l cs (λ s w. record { certified = w.certified; written = w.written }) (λ i s w. refl) refl k
passes l (Done p) cs h k = carried (Done p ∷ l) l cs (λ s w. record { certified = w.certified; written = w.written }) (λ i s w. refl) refl k
passes l (Committed g) cs h k = cc
passes l (Is m c) cs h k = carried (Is m c ∷ l) l cs (λ s w. record { certified = w.certified; written = w.written }) (λ i s w. refl) refl k
passes l (Gave p n) cs h k = carried (Gave p n ∷ l) l cs (λ s w. record { certified = w.certified; written = w.written }) (λ i s w. refl) refl k
passes l (Answered n a) cs h k = carried (Answered n a ∷ l) l cs (λ s w. record { certified = w.certified; written = w.written }) (λ i s w. refl) refl k
passes l (Begun n e y) cs h k = carried (Begun n e y ∷ l) l cs (λ s w. record { certified = w.certified; written = w.written }) (λ i s w. refl) refl k
passes l (Changed n c) cs h k = carried (Changed n c ∷ l) l cs (λ s w. record { certified = w.certified; written = w.written }) (λ i s w. refl) refl k
passes l (Replied r) cs h k = carried (Replied r ∷ l) l cs (λ s w. record { certified = w.certified; written = w.written }) (λ i s w. refl) refl k
passes l (Called n v u) cs h k = carried (Called n v u ∷ l) l cs (λ s w. record { certified = w.certified; written = w.written }) (λ i s w. refl) refl k
passes l (AsksCommit n i) cs h k = carried (AsksCommit n i ∷ l) l cs (λ s w. record { certified = w.certified; written = w.written }) (λ i s w. refl) refl k
passes l (Ends n) cs h k = carried (Ends n ∷ l) l cs (λ s w. record { certified = w.certified; written = w.written }) (λ i s w. refl) refl k
passes l (Enters u) cs h k = carried (Enters u ∷ l) l cs (λ s w. record { certified = w.certified; written = w.written }) (λ i s w. refl) refl k
passes l (Restores g ts) cs h k = cc
passes l AskFails cs h k = carried (AskFails ∷ l) l cs (λ s w. record { certified = w.certified; written = w.written }) (λ i s w. refl) refl k

-- a part of what is executed stays one
pub part_stays : (l : Life) (d : Did) (e : Gtids) → is_start d ≡ false → IsPartOf e (executed l) → IsPartOf e (executed (d ∷ l))
part_stays l Founds e h k = k
part_stays l (Starts y) e h k = cc
part_stays l (Came x) e h k = k
part_stays l (Made v y) e h k = k
part_stays l (Took x) e h k = k
part_stays l (Skips t v) e h k = k
part_stays l (Done p) e h k = k
part_stays l (Committed g) e h k = λ m t. grows (executed l) g m (k m t)
part_stays l (Is m c) e h k = k
part_stays l (Gave p n) e h k = k
part_stays l (Answered n a) e h k = k
part_stays l (Begun n s y) e h k = k
part_stays l (Changed n c) e h k = k
part_stays l (Replied r) e h k = k
part_stays l (Called n v u) e h k = k
part_stays l (AsksCommit n i) e h k = k
part_stays l (Ends n) e h k = k
part_stays l (Enters u) e h k = k
part_stays l (Restores g ts) e h k = k
part_stays l AskFails e h k = k
