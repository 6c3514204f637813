-- Commits that lead from what is stored to more.
use Rattle.std.proofs.Common.{◌≡◌, inl, inr, Bool, true, false, not, Some, List, [], ◌∷◌, ◌++◌, filter, reverse, refl, sym, ap, subst, ◌∙◌}
use Rattle.std.proofs.lemmas.Bool.{false≢true}
use Rattle.std.proofs.lemmas.List.{append_assoc}
use Rattle.gr_ids.specs.Names.{gtid_eq}
use Rattle.gtid_sets.specs.Sets.{has}
use Rattle.txn_forms.specs.declared.body.Body.TheVariants.{Txn as Writes}
use Rattle.txn_forms.specs.Bodies.{body_bytes, read_body}
use Rattle.paxos_forms.specs.declared.recovery.Given.{Given}
use Rattle.node_rules.specs.Lists.{In}
use Rattle.group_rules.specs.Events.{Cert, Committed, Life, Stored}
use Rattle.group_rules.specs.Life.{certs, executed, stored}
use Rattle.group_rules.specs.Queue.{pending}
use Rattle.group_rules.specs.Recovery.{given_of}
use Rattle.group_rules.specs.Rows.{all_in, known}
use Rattle.group_rules.specs.World.{committed_of}
use Rattle.row_store.proofs.Kept.{committed_in}
use Rattle.row_store.proofs.Known.{all_first, all_second, in_either}
use Rattle.row_store.proofs.Versions.{gtid_itself}
use Rattle.member_tables.specs.Committing.{IsNext}
use Rattle.member_tables.specs.Standing.{HasGtids}
use Rattle.member_tables.proofs.Settled.{is_certified}
use Rattle.kept_server.specs.Keeping.{left_of}
use Rattle.kept_server.specs.Redoing.{LeadTo, MayCommit, committing}

-- ---- one after another

pub lead_on : (y z w : Stored) (gs hs : List Given) → LeadTo y gs z → LeadTo z hs w → LeadTo y (gs ++ hs) w
lead_on y z w [] hs a b = subst (λ x. LeadTo x hs w) (sym a) b
lead_on y z w (g ∷ gs) hs (c, is, may, more) b = (c, is, may, lead_on (committing y c) z w gs hs more b)

pub one_more : (y z : Stored) (gs : List Given) (c : Cert) → MayCommit z c → LeadTo y gs z → LeadTo y (gs ++ given_of c ∷ []) (committing z c)
one_more y z gs c may a = lead_on y z (committing z c) gs (given_of c ∷ []) a (c, refl, may, refl)

-- ---- what an incarnation commits

-- it was not executed
unexecuted : (l : Life) (c : Cert) → In c (pending l) → has (executed l) c.gtid ≡ false
unexecuted l c m = passes (reverse (certs l)) m
  where
    flips : (b : Bool) → not b ≡ true → b ≡ false
    flips true e = absurd (false≢true e)
    flips false e = refl

    passes : (cs : List Cert) → In c (filter (λ d. not (has (executed l) d.gtid)) cs) → has (executed l) c.gtid ≡ false
    passes [] n = absurd n
    passes (d ∷ ds) n = go (not (has (executed l) d.gtid)) refl (passes ds)
      where
        go : (b : Bool) → not (has (executed l) d.gtid) ≡ b → (In c (filter (λ d. not (has (executed l) d.gtid)) ds) → has (executed l) c.gtid ≡ false) → has (executed l) c.gtid ≡ false
        go true e r = elim (rw e at n) [ inl q ↦ ap (λ (x : Cert). has (executed l) x.gtid) (sym q) ∙ flips (has (executed l) d.gtid) e | inr k ↦ r k ]
        go false e r = r (rw e at n)

-- what is stored behind it was known
was_known : (l : Life) (c : Cert) → In c (left_of l).committed → In c (known l)
was_known l c m = elim (in_either c (stored l).committed (committed_of l (certs l)) m) [
  | inl n ↦ all_first (all_in [] (stored l).committed) (certs l) c (all_second [] (stored l).committed c n)
  | inr n ↦ all_second (all_in [] (stored l).committed) (certs l) c (committed_in l (certs l) c n)
]

pub may_commit : (l : Life) (c : Cert) → HasGtids l → IsNext l c → read_body (body_bytes (Writes c.txn)) ≡ Some (Writes c.txn) → MayCommit (left_of l) c
may_commit l c gtids k read =
    let here : In c (known l) = all_second (all_in [] (stored l).committed) (certs l) c (is_certified l c k.waits) in
    record {
      unexecuted = unexecuted l c k.waits;
      only = λ d m e. gtids d c (was_known l d m) here e;
      placed = λ d m e. k.places d c (was_known l d m) here e;
      ahead = λ d m e p. k.order.ahead c d here (was_known l d m) (gtid_itself c.gtid) e p;
      unwritten = k.order.unwritten;
      source = k.source;
      number = k.number;
      read = read;
    }

-- the only one of its GTID is committed
pub left_with : (l : Life) (c : Cert) → filter (λ (d : Cert). gtid_eq d.gtid c.gtid) (certs l) ≡ c ∷ [] → left_of (Committed c.gtid ∷ l) ≡ committing (left_of l) c
left_with l c only =
    let had : List Cert = (stored l).committed in
    let more : List Cert = committed_of l (certs l) in
    ap (λ (cs : List Cert). record (left_of (Committed c.gtid ∷ l)) { committed = cs }) (ap (λ (cs : List Cert). had ++ (more ++ cs)) only ∙ sym (append_assoc had more (c ∷ [])))
