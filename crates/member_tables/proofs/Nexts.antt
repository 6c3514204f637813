-- In a history that is true each transaction that waits may be the next that is committed.
use Rattle.std.proofs.Common.{◌≡◌, inl, inr, List, [], ◌∷◌, sym, ap, ◌∙◌, arith}
use Rattle.gr_ids.specs.declared.names.Inc.{Inc}
use Rattle.gtid_sets.specs.Canonical.{IsNumber, IsUuid}
use Rattle.node_rules.specs.Lists.{In}
use Rattle.group_rules.specs.Events.{Founds, Starts, Came, Made, Took, Skips, Done, Committed, Is, Gave, Answered, Begun, Changed, Replied, Called, AsksCommit, Ends, Enters, Restores, AskFails, Cert, Life, Setup}
use Rattle.group_rules.specs.Life.{cert_of, certs}
use Rattle.group_rules.specs.Queue.{pending}
use Rattle.group_rules.specs.Rows.{known}
use Rattle.row_store.specs.Following.{HasPlaces}
use Rattle.row_store.proofs.Known.{in_either, in_reverse}
use Rattle.member_truth.specs.Truth.{IsTrue, IsTrueDid, Rise}
use Rattle.member_tables.specs.Committing.{IsNext}
use Rattle.member_tables.proofs.Settled.{is_certified}

rises : (s : Setup) (me : Inc) (l : Life) → IsTrue s me l → Rise (known l)
rises s me [] h = tt
rises s me (d ∷ l) h = h.2

one_place : (cs : List Cert) → Rise cs → (c d : Cert) → In c cs → In d cs → c.place ≡ d.place → c ≡ d
one_place [] k c d m n e = absurd m
one_place (x ∷ xs) k c d (inl p) (inl q) e = sym p ∙ q
one_place (x ∷ xs) k c d (inl p) (inr n) e = let z = k.0 d n in let y = ap (λ (u : Cert). u.place) p in absurd (omega (arith, z, y, e))
one_place (x ∷ xs) k c d (inr m) (inl q) e = let z = k.0 c m in let y = ap (λ (u : Cert). u.place) q in absurd (omega (arith, z, y, e))
one_place (x ∷ xs) k c d (inr m) (inr n) e = one_place xs k.1 c d m n e

pub places : (s : Setup) (me : Inc) (l : Life) → IsTrue s me l → HasPlaces l
places s me l h = one_place (known l) (rises s me l h)

-- the GTIDs of those that it took or was given are in their ranges
numbered : (s : Setup) (me : Inc) (l : Life) → IsTrue s me l → (c : Cert) → In c (certs l) → IsUuid c.gtid.source × IsNumber c.gtid.number
numbered s me [] h c m = absurd m
numbered s me (Took e ∷ l) h c m = elim (in_either c (cert_of e) (certs l) m) [ inl n ↦ h.0.numbers c n | inr n ↦ numbered s me l h.1 c n ]
numbered s me (Restores g cs ∷ l) h c m = h.0.numbers c (in_reverse c cs m)
numbered s me (Founds ∷ l) h c m = numbered s me l h.1 c m
numbered s me (Starts x ∷ l) h c m = numbered s me l h.1 c m
numbered s me (Came e ∷ l) h c m = numbered s me l h.1 c m
numbered s me (Made v b ∷ l) h c m = numbered s me l h.1 c m
numbered s me (Skips t v ∷ l) h c m = numbered s me l h.1 c m
numbered s me (Done p ∷ l) h c m = numbered s me l h.1 c m
numbered s me (Committed g ∷ l) h c m = numbered s me l h.1 c m
numbered s me (Is x y ∷ l) h c m = numbered s me l h.1 c m
numbered s me (Gave p n ∷ l) h c m = numbered s me l h.1 c m
numbered s me (Answered t x ∷ l) h c m = numbered s me l h.1 c m
numbered s me (Begun t e o ∷ l) h c m = numbered s me l h.1 c m
numbered s me (Changed t x ∷ l) h c m = numbered s me l h.1 c m
numbered s me (Replied r ∷ l) h c m = numbered s me l h.1 c m
numbered s me (Called t v n ∷ l) h c m = numbered s me l h.1 c m
numbered s me (AsksCommit t v ∷ l) h c m = numbered s me l h.1 c m
numbered s me (Ends t ∷ l) h c m = numbered s me l h.1 c m
numbered s me (Enters w ∷ l) h c m = numbered s me l h.1 c m
numbered s me (AskFails ∷ l) h c m = numbered s me l h.1 c m

pub comes_next : (s : Setup) (me : Inc) (l : Life) (c : Cert) → IsTrue s me l → In c (pending l) → IsTrueDid s me (Committed c.gtid) l → IsNext l c
comes_next s me l c h m o =
    let n : IsUuid c.gtid.source × IsNumber c.gtid.number = numbered s me l h c (is_certified l c m) in
    record { waits = m; order = o; source = n.0; number = n.1; places = places s me l h }
