-- What an incarnation executed of the certified transactions, it committed.
use Rattle.std.proofs.Common.{◌≡◌, ◌⊎◌, inl, inr, Bool, true, false, List, [], ◌∷◌, ◌++◌, refl, sym, ap, ◌∙◌}
use Rattle.std.specs.Prelude.{filter, if◌then◌else◌}
use Rattle.std.proofs.lemmas.Bool.{false≢true}
use Rattle.gr_ids.specs.declared.names.Gtid.{Gtid}
use Rattle.gr_ids.specs.Names.{gtid_eq}
use Rattle.gtid_sets.specs.Canonical.{IsCanonical, IsNumber, IsUuid}
use Rattle.gtid_sets.specs.Sets.{has}
use Rattle.paxos_forms.specs.declared.recovery.Give.{Give}
use Rattle.node_rules.specs.Lists.{In}
use Rattle.group_rules.specs.Events.{AskFails, AsksCommit, Answered, Begun, Called, Came, Cert, Changed, Committed, Did, Done, Ends, Enters, Entry, Founds, Gave, Is, Life, Made, Replied, Restores, Skips, Starts, Stored, Took}
use Rattle.group_rules.specs.Life.{cert_of, certs, executed}
use Rattle.group_rules.specs.World.{committed_of}
use Rattle.row_store.specs.Following.{HasCommitted, is_of_rows}
use Rattle.row_store.proofs.Versions.{gtid_itself}
use Rattle.row_store.proofs.Members.{new_or_old}
use Rattle.row_store.proofs.Known.{in_back, in_either, in_front, in_reverse}

-- ---- what is committed

in_filter : (p : Cert → Bool) (x : Cert) (xs : List Cert) → In x (filter p xs) → In x xs × (p x ≡ true)
in_filter p x [] m = absurd m
in_filter p x (y ∷ ys) m = go (p y) refl m (in_filter p x ys)
  where
    go : (b : Bool) → p y ≡ b → In x (if b then y ∷ filter p ys else filter p ys) → (In x (filter p ys) → In x ys × (p x ≡ true)) → In x (y ∷ ys) × (p x ≡ true)
    go true e (inl same) k = (inl same, ap p (sym same) ∙ e)
    go true e (inr n) k = let r = k n in (inr r.0, r.1)
    go false e n k = let r = k n in (inr r.0, r.1)

to_filter : (p : Cert → Bool) (x : Cert) (xs : List Cert) → In x xs → p x ≡ true → In x (filter p xs)
to_filter p x [] m t = absurd m
to_filter p x (y ∷ ys) m t = go (p y) refl m (λ n. to_filter p x ys n t)
  where
    go : (b : Bool) → p y ≡ b → (y ≡ x) ⊎ In x ys → (In x ys → In x (filter p ys)) → In x (if b then y ∷ filter p ys else filter p ys)
    go true e (inl same) k = inl same
    go true e (inr n) k = inr (k n)
    go false e (inl same) k = absurd (false≢true (sym e ∙ ap p same ∙ t))
    go false e (inr n) k = k n

abbrev is_named : Gtid → Cert → Bool
is_named g c = gtid_eq c.gtid g

-- what was committed was certified
pub committed_in : (l : Life) (cs : List Cert) (c : Cert) → In c (committed_of l cs) → In c cs
committed_in [] cs c m = absurd m
committed_in (Committed g ∷ l) cs c m = elim (in_either c (committed_of l cs) (filter (is_named g) cs) m) [ inl n ↦ committed_in l cs c n | inr n ↦ (in_filter (is_named g) c cs n).0 ]
committed_in (Founds ∷ l) cs c m = committed_in l cs c m
committed_in (Starts y ∷ l) cs c m = committed_in l cs c m
committed_in (Came x ∷ l) cs c m = committed_in l cs c m
committed_in (Made v y ∷ l) cs c m = committed_in l cs c m
committed_in (Took x ∷ l) cs c m = committed_in l cs c m
committed_in (Skips t v ∷ l) cs c m = committed_in l cs c m
committed_in (Done p ∷ l) cs c m = committed_in l cs c m
committed_in (Is n k ∷ l) cs c m = committed_in l cs c m
committed_in (Gave p n ∷ l) cs c m = committed_in l cs c m
committed_in (Answered n a ∷ l) cs c m = committed_in l cs c m
committed_in (Begun n s y ∷ l) cs c m = committed_in l cs c m
committed_in (Changed n k ∷ l) cs c m = committed_in l cs c m
committed_in (Replied r ∷ l) cs c m = committed_in l cs c m
committed_in (Called n v u ∷ l) cs c m = committed_in l cs c m
committed_in (AsksCommit n i ∷ l) cs c m = committed_in l cs c m
committed_in (Ends n ∷ l) cs c m = committed_in l cs c m
committed_in (Enters u ∷ l) cs c m = committed_in l cs c m
committed_in (Restores g ts ∷ l) cs c m = committed_in l cs c m
committed_in (AskFails ∷ l) cs c m = committed_in l cs c m

committed_more : (l : Life) (xs ys : List Cert) (c : Cert) → ((d : Cert) → In d xs → In d ys) → In c (committed_of l xs) → In c (committed_of l ys)
committed_more [] xs ys c h m = absurd m
committed_more (Committed g ∷ l) xs ys c h m = elim (in_either c (committed_of l xs) (filter (is_named g) xs) m) [
  | inl n ↦ in_front c (committed_of l ys) (filter (is_named g) ys) (committed_more l xs ys c h n)
  | inr n ↦ (let r = in_filter (is_named g) c xs n in in_back c (committed_of l ys) (filter (is_named g) ys) (to_filter (is_named g) c ys (h c r.0) r.1))
]
committed_more (Founds ∷ l) xs ys c h m = committed_more l xs ys c h m
committed_more (Starts y ∷ l) xs ys c h m = committed_more l xs ys c h m
committed_more (Came x ∷ l) xs ys c h m = committed_more l xs ys c h m
committed_more (Made v y ∷ l) xs ys c h m = committed_more l xs ys c h m
committed_more (Took x ∷ l) xs ys c h m = committed_more l xs ys c h m
committed_more (Skips t v ∷ l) xs ys c h m = committed_more l xs ys c h m
committed_more (Done p ∷ l) xs ys c h m = committed_more l xs ys c h m
committed_more (Is z k ∷ l) xs ys c h m = committed_more l xs ys c h m
committed_more (Gave p n ∷ l) xs ys c h m = committed_more l xs ys c h m
committed_more (Answered n a ∷ l) xs ys c h m = committed_more l xs ys c h m
committed_more (Begun n s y ∷ l) xs ys c h m = committed_more l xs ys c h m
committed_more (Changed n k ∷ l) xs ys c h m = committed_more l xs ys c h m
committed_more (Replied r ∷ l) xs ys c h m = committed_more l xs ys c h m
committed_more (Called n v u ∷ l) xs ys c h m = committed_more l xs ys c h m
committed_more (AsksCommit n i ∷ l) xs ys c h m = committed_more l xs ys c h m
committed_more (Ends n ∷ l) xs ys c h m = committed_more l xs ys c h m
committed_more (Enters u ∷ l) xs ys c h m = committed_more l xs ys c h m
committed_more (Restores g ts ∷ l) xs ys c h m = committed_more l xs ys c h m
committed_more (AskFails ∷ l) xs ys c h m = committed_more l xs ys c h m

-- ---- thing by thing

pub keeps_founded : HasCommitted (Founds ∷ [])
keeps_founded c m t = absurd m

pub keeps_started : (x : Stored) → HasCommitted (Starts x ∷ [])
keeps_started x c m t = absurd m

pub keeps_taking : (l : Life) (e : Entry) → HasCommitted l → ((c : Cert) → In c (cert_of e) → has (executed l) c.gtid ≡ false) → HasCommitted (Took e ∷ l)
keeps_taking l e k f c m t = elim (in_either c (cert_of e) (certs l) m) [
  | inl n ↦ absurd (false≢true (sym (f c n) ∙ t))
  | inr n ↦ committed_more l (certs l) (cert_of e ++ certs l) c (λ d p. in_back d (cert_of e) (certs l) p) (k c n t)
]

pub keeps_restoring : (l : Life) (g : Give) (ts : List Cert) → ((c : Cert) → In c ts → has (executed l) c.gtid ≡ false) → HasCommitted (Restores g ts ∷ l)
keeps_restoring l g ts f c m t = absurd (false≢true (sym (f c (in_reverse c ts m)) ∙ t))

pub keeps_committing : (l : Life) (g : Gtid) → HasCommitted l → IsCanonical (executed l) → IsUuid g.source → IsNumber g.number → HasCommitted (Committed g ∷ l)
keeps_committing l g k s u n c m t = elim (new_or_old (executed l) g c.gtid s u n t) [
  | inl q ↦ in_back c (committed_of l (certs l)) (filter (is_named g) (certs l)) (to_filter (is_named g) c (certs l) m (ap (λ x. gtid_eq x g) (sym q) ∙ gtid_itself g))
  | inr q ↦ in_front c (committed_of l (certs l)) (filter (is_named g) (certs l)) (k c m q)
]

pub keeps_passing : (l : Life) (d : Did) → is_of_rows d ≡ false → HasCommitted l → HasCommitted (d ∷ l)
keeps_passing l Founds h k = k
keeps_passing l (Starts y) h k = cc
keeps_passing l (Came x) h k = k
keeps_passing l (Made v y) h k = k
keeps_passing l (Took x) h k = cc
keeps_passing l (Skips t v) h k = k
keeps_passing l (Done p) h k = k
keeps_passing l (Committed g) h k = cc
keeps_passing l (Is m j) h k = k
keeps_passing l (Gave p n) h k = k
keeps_passing l (Answered n a) h k = k
keeps_passing l (Begun n s y) h k = k
keeps_passing l (Changed n j) h k = k
keeps_passing l (Replied r) h k = k
keeps_passing l (Called n v u) h k = k
keeps_passing l (AsksCommit n i) h k = k
keeps_passing l (Ends n) h k = k
keeps_passing l (Enters u) h k = k
keeps_passing l (Restores g ts) h k = cc
keeps_passing l AskFails h k = k
