-- What is new to a history wasn't committed in it.
use Rattle.std.proofs.Common.{◌≡◌, Bool, true, false, List, [], ◌∷◌, ◌++◌, filter, refl, sym, subst, ap, ◌∙◌, inl, inr}
use Rattle.std.proofs.lemmas.Bool.{false≢true}
use Rattle.gr_ids.specs.declared.names.Gtid.{Gtid}
use Rattle.gr_ids.specs.Names.{gtid_eq}
use Rattle.gtid_sets.specs.Sets.{Gtids, has, with_gtid}
use Rattle.node_rules.specs.Lists.{In}
use Rattle.group_rules.specs.Events.{AskFails, AsksCommit, Answered, Begun, Called, Came, Cert, Changed, Committed, Done, Ends, Enters, Founds, Gave, Is, Life, Made, Replied, Restores, Setup, Skips, Starts, Took}
use Rattle.group_rules.specs.Life.{executed}
use Rattle.group_rules.specs.World.{committed_of}
use Rattle.row_store.proofs.Members.{grows, has_new}
use Rattle.row_store.proofs.Versions.{same_gtid}
use Rattle.member_ranges.specs.Lives.{AllFit}

abbrev pub AreNew : Gtids → List Cert → Type 0
AreNew e cs = (c : Cert) → In c cs → has e c.gtid ≡ false

-- without one more GTID too
fewer : (e : Gtids) (g : Gtid) (cs : List Cert) → AreNew (with_gtid e g) cs → AreNew e cs
fewer e g cs n c i = go (has e c.gtid) refl
  where
    go : (b : Bool) → has e c.gtid ≡ b → has e c.gtid ≡ false
    go true h = absurd (false≢true (sym (n c i) ∙ grows e g c.gtid h))
    go false h = h

-- none of them is that GTID
none_is : (e : Gtids) (g : Gtid) (cs ds : List Cert) → AreNew (with_gtid e g) cs → filter (λ (c : Cert). gtid_eq c.gtid g) (cs ++ ds) ≡ filter (λ (c : Cert). gtid_eq c.gtid g) ds
none_is e g [] ds n = refl
none_is e g (c ∷ cs) ds n = go (gtid_eq c.gtid g) refl (none_is e g cs ds (λ d i. n d (inr i)))
  where
    go : (b : Bool) → gtid_eq c.gtid g ≡ b → filter (λ (d : Cert). gtid_eq d.gtid g) (cs ++ ds) ≡ filter (λ (d : Cert). gtid_eq d.gtid g) ds → filter (λ (d : Cert). gtid_eq d.gtid g) ((c ∷ cs) ++ ds) ≡ filter (λ (d : Cert). gtid_eq d.gtid g) ds
    go true h r = absurd (false≢true (sym (n c (inl refl)) ∙ (ap (has (with_gtid e g)) (same_gtid c.gtid g h) ∙ has_new e g)))
    go false h r = rw h r

pub committed_before : (s : Setup) (l : Life) (cs ds : List Cert) → AllFit s l → AreNew (executed l) cs → committed_of l (cs ++ ds) ≡ committed_of l ds
committed_before s [] cs ds f n = refl
committed_before s (Starts x ∷ l) cs ds f n = subst (λ (k : Life). committed_of k (cs ++ ds) ≡ committed_of k ds) (sym (f.0).1) refl
committed_before s (Committed g ∷ l) cs ds f n =
    ap (λ xs. xs ++ filter (λ (c : Cert). gtid_eq c.gtid g) (cs ++ ds)) (committed_before s l cs ds f.1 (fewer (executed l) g cs n))
    ∙ ap (λ xs. committed_of l ds ++ xs) (none_is (executed l) g cs ds n)
committed_before s (Founds ∷ l) cs ds f n = committed_before s l cs ds f.1 n
committed_before s (Came e ∷ l) cs ds f n = committed_before s l cs ds f.1 n
committed_before s (Made v x ∷ l) cs ds f n = committed_before s l cs ds f.1 n
committed_before s (Took e ∷ l) cs ds f n = committed_before s l cs ds f.1 n
committed_before s (Skips t v ∷ l) cs ds f n = committed_before s l cs ds f.1 n
committed_before s (Done p ∷ l) cs ds f n = committed_before s l cs ds f.1 n
committed_before s (Is m c ∷ l) cs ds f n = committed_before s l cs ds f.1 n
committed_before s (Gave p k ∷ l) cs ds f n = committed_before s l cs ds f.1 n
committed_before s (Answered t x ∷ l) cs ds f n = committed_before s l cs ds f.1 n
committed_before s (Begun t e y ∷ l) cs ds f n = committed_before s l cs ds f.1 n
committed_before s (Changed t x ∷ l) cs ds f n = committed_before s l cs ds f.1 n
committed_before s (Replied r ∷ l) cs ds f n = committed_before s l cs ds f.1 n
committed_before s (Called t v w ∷ l) cs ds f n = committed_before s l cs ds f.1 n
committed_before s (AsksCommit t i ∷ l) cs ds f n = committed_before s l cs ds f.1 n
committed_before s (Ends t ∷ l) cs ds f n = committed_before s l cs ds f.1 n
committed_before s (Enters w ∷ l) cs ds f n = committed_before s l cs ds f.1 n
committed_before s (Restores g ks ∷ l) cs ds f n = committed_before s l cs ds f.1 n
committed_before s (AskFails ∷ l) cs ds f n = committed_before s l cs ds f.1 n
