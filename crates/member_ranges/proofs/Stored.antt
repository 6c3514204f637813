-- What a server keeps of an incarnation can be given.
use Rattle.std.proofs.Common.{inl, inr, List, [], ◌∷◌}
use Rattle.std.specs.Prelude.{Some, filter}
use Rattle.gr_ids.specs.Names.{gtid_eq}
use Rattle.node_rules.specs.Lists.{In}
use Rattle.order_laws.proofs.Lists.{in_append, in_filter}
use Rattle.group_rules.specs.Events.{AskFails, AsksCommit, Answered, Begun, Called, Calls, Came, Cert, Changed, Committed, Done, Ends, Enters, Founds, Gave, Hears, Is, Life, Made, Operates, Replied, Restores, Skips, Starts, Stored, Ticks, Took, Works}
use Rattle.group_rules.specs.Life.{certs, stored}
use Rattle.group_rules.specs.Member.{Member}
use Rattle.group_rules.specs.World.{committed_of, stored_by}
use Rattle.member_truth.specs.Truth.{IsTrue}
use Rattle.member_ranges.specs.Lives.{AreGivable}
use Rattle.member_ranges.specs.Ranges.{InRange}
use Rattle.member_ranges.proofs.Histories.{facts}

committed_in : (l : Life) (cs : List Cert) (c : Cert) → In c (committed_of l cs) → In c cs
committed_in [] cs c h = absurd h
committed_in (Committed g ∷ l) cs c h = elim (in_append c (committed_of l cs) (filter (λ d. gtid_eq d.gtid g) cs) h) [ inl q ↦ committed_in l cs c q | inr q ↦ in_filter (λ d. gtid_eq d.gtid g) cs c q ]
committed_in (Founds ∷ l) cs c h = committed_in l cs c h
committed_in (Starts x ∷ l) cs c h = committed_in l cs c h
committed_in (Enters w ∷ l) cs c h = committed_in l cs c h
committed_in (Took e ∷ l) cs c h = committed_in l cs c h
committed_in (Restores g ds ∷ l) cs c h = committed_in l cs c h
committed_in (Came (Hears m) ∷ l) cs c h = committed_in l cs c h
committed_in (Came Ticks ∷ l) cs c h = committed_in l cs c h
committed_in (Came (Works p b) ∷ l) cs c h = committed_in l cs c h
committed_in (Came (Calls s r) ∷ l) cs c h = committed_in l cs c h
committed_in (Came (Operates o) ∷ l) cs c h = committed_in l cs c h
committed_in (Made v x ∷ l) cs c h = committed_in l cs c h
committed_in (Skips t v ∷ l) cs c h = committed_in l cs c h
committed_in (Done p ∷ l) cs c h = committed_in l cs c h
committed_in (Is s x ∷ l) cs c h = committed_in l cs c h
committed_in (Gave p n ∷ l) cs c h = committed_in l cs c h
committed_in (Answered s x ∷ l) cs c h = committed_in l cs c h
committed_in (Begun s e y ∷ l) cs c h = committed_in l cs c h
committed_in (Changed s y ∷ l) cs c h = committed_in l cs c h
committed_in (Replied r ∷ l) cs c h = committed_in l cs c h
committed_in (Called s v y ∷ l) cs c h = committed_in l cs c h
committed_in (AsksCommit s i ∷ l) cs c h = committed_in l cs c h
committed_in (Ends s ∷ l) cs c h = committed_in l cs c h
committed_in (AskFails ∷ l) cs c h = committed_in l cs c h

pub stored_is : (x : Stored) (a : Member) → InRange a → IsTrue a.setup a.me.inc a.life → AreGivable (stored_by x (Some a)).committed
stored_is x a k t c h =
    let f = facts a.setup a.me.inc a.life k.life t in
    elim (in_append c (stored a.life).committed (committed_of a.life (certs a.life)) h) [ inl q ↦ f.had c q | inr q ↦ f.given c (committed_in a.life (certs a.life) c q) ]
