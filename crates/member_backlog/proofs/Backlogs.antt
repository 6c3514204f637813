-- What is pending, thing by thing.
use Rattle.std.proofs.Common.{◌≡◌, ℕ, Bool, true, false, ◌&&◌, ◌||◌, not, List, [], ◌∷◌, ◌++◌, map, refl, sym, ap, ◌∙◌, Option, Some, None}
use Rattle.std.specs.Prelude.{filter, reverse, nat_lt, if◌then◌else◌, option_to_list}
use Rattle.std.specs.List.{list_all}
use Rattle.std.proofs.lemmas.List.{reverse-append, reverse-reverse}
use Rattle.paxos_forms.specs.declared.recovery.Give.{Give}
use Rattle.txn_forms.specs.declared.body.Body.{Body}
use Rattle.txn_forms.specs.declared.body.Body.TheVariants as body
use Rattle.group_rules.specs.declared.marks.Effect.{Effect}
use Rattle.group_rules.specs.declared.marks.Effect.TheVariants.{Plain, Void, Unread, Positive, Conflict}
use Rattle.gr_ids.specs.declared.names.ValueId.{ValueId}
use Rattle.std.proofs.lemmas.List.Elements.{filter-append}
use Rattle.gr_ids.specs.declared.names.Gtid.{Gtid}
use Rattle.gr_ids.specs.Names.{gtid_eq}
use Rattle.gtid_sets.specs.Sets.{Gtids, has, with_gtid}
use Rattle.gtid_sets.specs.Canonical.{IsNumber, IsUuid}
use Rattle.gtid_sets.proofs.LawLemmas.{all_with_gtid}
use Rattle.gtid_sets.proofs.PutLemmas.{canonical_with_gtid}
use Rattle.group_rules.specs.Events.{AskFails, AsksCommit, Answered, Begun, Called, Came, Cert, Changed, Committed, Did, Done, Ends, Enters, Entry, Founds, Gave, Is, Life, Made, Replied, Restores, Skips, Starts, Took}
use Rattle.group_rules.specs.Holds.{standing, standing_of}
use Rattle.group_rules.specs.declared.holds.Pending.{Pending}
use Rattle.group_rules.specs.Life.{cert_of, certs, executed, cert_by}
use Rattle.group_rules.specs.Queue.{all_below, pending}
use Rattle.member_backlog.specs.Standing.{Waits, is_of_backlog, uncommitted_of}
use Rattle.member_backlog.specs.Waiting.{Uncommitted, is_clear, pending_of, with_certified, without, without_committed}

abbrev lacks : Gtids → Cert → Bool
lacks e c = not (has e c.gtid)

-- ---- an entry

pub takes_none : (l : Life) (e : Entry) (us : List Uncommitted) → Waits l us → cert_of e ≡ [] → Waits (Took e ∷ l) us
takes_none l e us w n = record { waiting = w.waiting ∙ ap (λ (cs : List Cert). map uncommitted_of (filter (lacks (executed l)) (reverse (cs ++ certs l)))) (sym n); set = w.set }

one_left : (e : Gtids) (c : Cert) → map uncommitted_of (filter (lacks e) (c ∷ [])) ≡ (if has e c.gtid then [] else uncommitted_of c ∷ [])
one_left e c = go (has e c.gtid) refl
  where
    go : (b : Bool) → has e c.gtid ≡ b → map uncommitted_of (filter (lacks e) (c ∷ [])) ≡ (if has e c.gtid then [] else uncommitted_of c ∷ [])
    go true f = rw f refl
    go false f = rw f refl

map_two : (xs ys : List Cert) → map uncommitted_of (xs ++ ys) ≡ map uncommitted_of xs ++ map uncommitted_of ys
map_two [] ys = refl
map_two (x ∷ xs) ys = ap (λ (us : List Uncommitted). uncommitted_of x ∷ us) (map_two xs ys)

pub takes_one : (l : Life) (e : Entry) (c : Cert) (us : List Uncommitted) → Waits l us → cert_of e ≡ c ∷ [] → Waits (Took e ∷ l) (with_certified (executed l) us (uncommitted_of c))
takes_one l e c us w n =
    let s = executed l in
    let more : map uncommitted_of (pending (Took e ∷ l)) ≡ map uncommitted_of (pending l) ++ (if has s c.gtid then [] else uncommitted_of c ∷ []) =
    ap (λ (cs : List Cert). map uncommitted_of (filter (lacks s) (reverse (cs ++ certs l)))) n
    ∙ (ap (λ (cs : List Cert). map uncommitted_of (filter (lacks s) cs)) (reverse-append (c ∷ []) (certs l))
    ∙ (ap (map uncommitted_of) (filter-append (lacks s) (reverse (certs l)) (c ∷ []))
    ∙ (map_two (pending l) (filter (lacks s) (c ∷ [])) ∙ ap (λ (us : List Uncommitted). map uncommitted_of (pending l) ++ us) (one_left s c)))) in
    record { waiting = ap (λ (us : List Uncommitted). us ++ (if has s c.gtid then [] else uncommitted_of c ∷ [])) w.waiting ∙ sym more; set = w.set }

-- ---- a commit

same_left : (e : Gtids) (cs : List Cert) → without_committed e (map uncommitted_of cs) ≡ map uncommitted_of (filter (lacks e) cs)
same_left e [] = refl
same_left e (c ∷ cs) = go (has e c.gtid) refl (same_left e cs)
  where
    go : (b : Bool) → has e c.gtid ≡ b → without_committed e (map uncommitted_of cs) ≡ map uncommitted_of (filter (lacks e) cs) → without_committed e (map uncommitted_of (c ∷ cs)) ≡ map uncommitted_of (filter (lacks e) (c ∷ cs))
    go true f r = rw f r
    go false f r = rw f (ap (λ (us : List Uncommitted). uncommitted_of c ∷ us) r)

abbrev pub is_not : Gtid → Cert → Bool
is_not g c = not (gtid_eq g c.gtid)

-- a set with one GTID more lacks what the set lacks, but for the one that has it
pub lacks_left : (s t : Gtids) (g : Gtid) → ((m : Gtid) → has t m ≡ (gtid_eq g m || has s m)) → (cs : List Cert) → filter (lacks t) cs ≡ filter (is_not g) (filter (lacks s) cs)
lacks_left s t g h [] = refl
lacks_left s t g h (c ∷ cs) = go (gtid_eq g c.gtid) refl (has s c.gtid) refl (lacks_left s t g h cs)
  where
    go : (a : Bool) → gtid_eq g c.gtid ≡ a → (b : Bool) → has s c.gtid ≡ b → filter (lacks t) cs ≡ filter (is_not g) (filter (lacks s) cs) → filter (lacks t) (c ∷ cs) ≡ filter (is_not g) (filter (lacks s) (c ∷ cs))
    go true ea true eb r = let k : has t c.gtid ≡ true = h c.gtid ∙ rw ea refl in rw (k, eb) r
    go true ea false eb r = let k : has t c.gtid ≡ true = h c.gtid ∙ rw ea refl in rw (k, eb, ea) r
    go false ea true eb r = let k : has t c.gtid ≡ true = h c.gtid ∙ rw (ea, eb) refl in rw (k, eb) r
    go false ea false eb r = let k : has t c.gtid ≡ false = h c.gtid ∙ rw (ea, eb) refl in rw (k, eb, ea) (ap (λ (ds : List Cert). c ∷ ds) r)

one_less : (g : Gtid) (cs : List Cert) → without g (map uncommitted_of cs) ≡ map uncommitted_of (filter (is_not g) cs)
one_less g [] = refl
one_less g (c ∷ cs) = go (gtid_eq g c.gtid) refl (one_less g cs)
  where
    go : (b : Bool) → gtid_eq g c.gtid ≡ b → without g (map uncommitted_of cs) ≡ map uncommitted_of (filter (is_not g) cs) → without g (map uncommitted_of (c ∷ cs)) ≡ map uncommitted_of (filter (is_not g) (c ∷ cs))
    go true e r = rw e r
    go false e r = rw e (ap (λ (us : List Uncommitted). uncommitted_of c ∷ us) r)

pub commits : (l : Life) (g : Gtid) (us : List Uncommitted) → Waits l us → IsUuid g.source → IsNumber g.number → Waits (Committed g ∷ l) (without g us)
commits l g us w u n =
    let s = executed l in
    record {
      waiting = ap (without g) w.waiting ∙ (one_less g (pending l) ∙ ap (map uncommitted_of) (sym (lacks_left s (with_gtid s g) g (λ m. all_with_gtid s g m w.set u n) (reverse (certs l)))));
      set = canonical_with_gtid s g u n w.set;
    }

-- ---- a Give

pub restores : (l : Life) (g : Give) (cs : List Cert) (us : List Uncommitted) → Waits l us → Waits (Restores g cs ∷ l) (without_committed (executed l) (map uncommitted_of cs))
restores l g cs us w = record { waiting = same_left (executed l) cs ∙ ap (λ (ds : List Cert). map uncommitted_of (filter (lacks (executed l)) ds)) (sym (reverse-reverse cs)); set = w.set }

-- ---- any entry

abbrev first_cert : List Cert → Option Cert
first_cert [] = None
first_cert (c ∷ cs) = Some c

few : (p : ℕ) (i : ValueId) (f : Effect) (y : Option Body) → cert_by p i f y ≡ option_to_list (first_cert (cert_by p i f y))
few p i (Positive g) (Some (body.Txn t)) = refl
few p i (Positive g) (Some (body.Prepared h)) = refl
few p i (Positive g) (Some body.Sync) = refl
few p i (Positive g) (Some (body.Executed s)) = refl
few p i (Positive g) (Some (body.Online s)) = refl
few p i (Positive g) (Some (body.Mode m)) = refl
few p i (Positive g) (Some (body.Primary j)) = refl
few p i (Positive g) (Some (body.Part q)) = refl
few p i (Positive g) None = refl
few p i (Conflict g) y = refl
few p i Plain y = refl
few p i Void y = refl
few p i Unread y = refl

abbrev pub with_certs_waiting : Gtids → List Cert → List Uncommitted → List Uncommitted
with_certs_waiting e [] us = us
with_certs_waiting e (c ∷ cs) us = with_certified e us (uncommitted_of c)

-- an entry certifies one transaction or none
pub takes : (l : Life) (e : Entry) (us : List Uncommitted) → Waits l us → Waits (Took e ∷ l) (with_certs_waiting (executed l) (cert_of e) us)
takes l e us w = go (cert_of e) refl (few e.place e.value.id e.effect e.holds)
  where
    go : (cs : List Cert) → cert_of e ≡ cs → cert_of e ≡ option_to_list (first_cert (cert_of e)) → Waits (Took e ∷ l) (with_certs_waiting (executed l) cs us)
    go [] n f = takes_none l e us w n
    go (c ∷ cs) n f = takes_one l e c us w (f ∙ ap (λ (ds : List Cert). option_to_list (first_cert ds)) n)

-- ---- what is told

pub pending_told : (l : Life) (us : List Uncommitted) → Waits l us → pending_of us ≡ standing l
pending_told l us w = ap pending_of w.waiting ∙ same (pending l)
  where
    same : (cs : List Cert) → pending_of (map uncommitted_of cs) ≡ map standing_of cs
    same [] = refl
    same (c ∷ cs) = ap (λ (ps : List Pending). standing_of c ∷ ps) (same cs)

clear_left : (e : Gtids) (cs : List Cert) (p : ℕ) → is_clear p (map uncommitted_of (filter (lacks e) cs)) ≡ all_below e cs p
clear_left e [] p = refl
clear_left e (c ∷ cs) p = go (has e c.gtid) refl (nat_lt c.place p) refl (clear_left e cs p)
  where
    go : (a : Bool) → has e c.gtid ≡ a → (b : Bool) → nat_lt c.place p ≡ b → is_clear p (map uncommitted_of (filter (lacks e) cs)) ≡ all_below e cs p → is_clear p (map uncommitted_of (filter (lacks e) (c ∷ cs))) ≡ all_below e (c ∷ cs) p
    go true f true g r = rw (f, g) r
    go true f false g r = rw (f, g) r
    go false f true g r = rw (f, g) refl
    go false f false g r = rw (f, g) r

all_and : (p : Cert → Bool) (xs ys : List Cert) → list_all p (xs ++ ys) ≡ (list_all p xs && list_all p ys)
all_and p [] ys = refl
all_and p (x ∷ xs) ys = go (p x) refl (all_and p xs ys)
  where
    go : (b : Bool) → p x ≡ b → list_all p (xs ++ ys) ≡ (list_all p xs && list_all p ys) → list_all p ((x ∷ xs) ++ ys) ≡ (list_all p (x ∷ xs) && list_all p ys)
    go true e r = rw e r
    go false e r = rw e refl

both_ways : (a b : Bool) → (a && (b && true)) ≡ (b && a)
both_ways true true = refl
both_ways true false = refl
both_ways false true = refl
both_ways false false = refl

all_back : (p : Cert → Bool) (xs : List Cert) → list_all p (reverse xs) ≡ list_all p xs
all_back p [] = refl
all_back p (x ∷ xs) =
    ap (list_all p) (reverse-append (x ∷ []) xs)
    ∙ (all_and p (reverse xs) (x ∷ []) ∙ (ap (λ (b : Bool). b && (p x && true)) (all_back p xs) ∙ both_ways (list_all p xs) (p x)))

pub clear_told : (l : Life) (us : List Uncommitted) (p : ℕ) → Waits l us → is_clear p us ≡ all_below (executed l) (certs l) p
clear_told l us p w =
    ap (is_clear p) w.waiting
    ∙ (clear_left (executed l) (reverse (certs l)) p ∙ all_back (λ (c : Cert). not (nat_lt c.place p) || has (executed l) c.gtid) (certs l))

-- ---- what else happens

pub passes : (l : Life) (d : Did) (us : List Uncommitted) → is_of_backlog d ≡ false → Waits l us → Waits (d ∷ l) us
passes l Founds us h f = record { waiting = f.waiting; set = f.set }
passes l (Starts y) us h f = cc
passes l (Came e) us h f = record { waiting = f.waiting; set = f.set }
passes l (Made v y) us h f = record { waiting = f.waiting; set = f.set }
passes l (Took e) us h f = cc
passes l (Skips t v) us h f = record { waiting = f.waiting; set = f.set }
passes l (Done p) us h f = record { waiting = f.waiting; set = f.set }
passes l (Committed g) us h f = cc
passes l (Is m c) us h f = record { waiting = f.waiting; set = f.set }
passes l (Gave p n) us h f = record { waiting = f.waiting; set = f.set }
passes l (Answered n a) us h f = record { waiting = f.waiting; set = f.set }
passes l (Begun n e y) us h f = record { waiting = f.waiting; set = f.set }
passes l (Changed n c) us h f = record { waiting = f.waiting; set = f.set }
passes l (Replied r) us h f = record { waiting = f.waiting; set = f.set }
passes l (Called n v w) us h f = record { waiting = f.waiting; set = f.set }
passes l (AsksCommit n i) us h f = record { waiting = f.waiting; set = f.set }
passes l (Ends n) us h f = record { waiting = f.waiting; set = f.set }
passes l (Enters w) us h f = record { waiting = f.waiting; set = f.set }
passes l (Restores g cs) us h f = cc
passes l AskFails us h f = record { waiting = f.waiting; set = f.set }
