-- What is kept of an Add is what the rules give of it.
use Rattle.std.proofs.Common.{◌≡◌, ℕ, Bool, true, false, Option, Some, None, [], ◌∷◌, eqb, refl, sym, ap, ◌∙◌}
use Rattle.std.specs.Prelude.{filter, nat_le, IfErr, IfOk, Result, Ok, Err}
use Rattle.std.specs.Option.{IsSomeAnd}
use Rattle.std.proofs.lemmas.Bool.{eqb-true}
use Rattle.gr_ids.specs.declared.names.Inc.{Inc}
use Rattle.gtid_sets.specs.Sets.{Gtids}
use Rattle.paxos_forms.specs.declared.recovery.Ask.{Ask}
use Rattle.paxos_forms.specs.declared.recovery.Give.{Give}
use Rattle.group_rules.specs.Events.{AskFails, AsksCommit, Answered, Begun, Called, Came, Cert, Changed, Committed, Done, Ends, Enters, Entry, Founds, Gave, Is, Life, Made, Replied, Restores, Setup, Skips, Starts, Took}
use Rattle.group_rules.specs.Life.{entry_at, upto}
use Rattle.group_rules.specs.Recovery.{give_of, is_add}
use Rattle.group_rules.specs.Rows.{known}
use Rattle.donor_recovery.specs.declared.at_add.AtAdd.{AtAdd}
use Rattle.donor_recovery.specs.declared.donor.GiveFault.{GiveFault}
use Rattle.donor_recovery.specs.declared.donor.GiveFault.TheVariants.{Memory, NotKept}
use Rattle.donor_recovery.specs.Donating.{Donating, IsGiveFault, at_place, give_from, is_by}
use Rattle.donor_recovery.specs.Laws.{Donates, add_kept, add_of}
use Rattle.donor_recovery.proofs.Donors.{gives}
use Rattle.member_parts.specs.declared.parts.MemberParts.{MemberParts}
use Rattle.member_parts.specs.Giving.{IsNotGiven, given_to}
use Rattle.member_parts.specs.Standing.{StandsFor}

-- ---- the entry at a place has that place

pub at_its_place : (l : Life) (v : ℕ) (e : Entry) → entry_at l v ≡ Some e → e.place ≡ v
at_its_place [] v e h = cc
at_its_place (Founds ∷ l) v e h = at_its_place l v e h
at_its_place (Starts y ∷ l) v e h = at_its_place l v e h
at_its_place (Came x ∷ l) v e h = at_its_place l v e h
at_its_place (Made w y ∷ l) v e h = at_its_place l v e h
at_its_place (Took f ∷ l) v e h = go (eqb f.place v) refl (at_its_place l v e)
  where
    go : (b : Bool) → eqb f.place v ≡ b → (entry_at l v ≡ Some e → e.place ≡ v) → e.place ≡ v
    go true k r =
        let t : entry_at (Took f ∷ l) v ≡ Some f = rw (k, entry_at) refl in
        let s : f ≡ e = cc in
        ap (λ (x : Entry). x.place) (sym s) ∙ eqb-true f.place v k
    go false k r =
        let t : entry_at (Took f ∷ l) v ≡ entry_at l v = rw (k, entry_at) refl in
        r (sym t ∙ h)
at_its_place (Skips t w ∷ l) v e h = at_its_place l v e h
at_its_place (Done p ∷ l) v e h = at_its_place l v e h
at_its_place (Committed g ∷ l) v e h = at_its_place l v e h
at_its_place (Is m c ∷ l) v e h = at_its_place l v e h
at_its_place (Gave p n ∷ l) v e h = at_its_place l v e h
at_its_place (Answered n a ∷ l) v e h = at_its_place l v e h
at_its_place (Begun n y z ∷ l) v e h = at_its_place l v e h
at_its_place (Changed n c ∷ l) v e h = at_its_place l v e h
at_its_place (Replied r ∷ l) v e h = at_its_place l v e h
at_its_place (Called n x w ∷ l) v e h = at_its_place l v e h
at_its_place (AsksCommit n i ∷ l) v e h = at_its_place l v e h
at_its_place (Ends n ∷ l) v e h = at_its_place l v e h
at_its_place (Enters w ∷ l) v e h = at_its_place l v e h
at_its_place (Restores g cs ∷ l) v e h = at_its_place l v e h
at_its_place (AskFails ∷ l) v e h = at_its_place l v e h

-- ---- what is given

abbrev give_at : Setup → Life → ℕ → Gtids → Give
give_at s l v set = give_of s (upto l v) (filter (λ (c : Cert). nat_le c.place v) (known l)) v set

abbrev give_if : Bool → Give → Option Give
give_if b g = elim b [ true ↦ Some g | false ↦ None ]

abbrev kept_if : Bool → AtAdd → Option AtAdd
kept_if b a = elim b [ true ↦ Some a | false ↦ None ]

kept_is_given : (s : Setup) (l : Life) (v : ℕ) (set : Gtids) (a : AtAdd) (o : Option Entry) → add_kept s l v o ≡ Some a → ((e : Entry) → o ≡ Some e → e.place ≡ v) → given_to s l set o ≡ Some (give_at s l v set)
kept_is_given s l v set a None h f = cc
kept_is_given s l v set a (Some e) h f = go (is_add e.value.what e.effect) refl
  where
    go : (b : Bool) → is_add e.value.what e.effect ≡ b → given_to s l set (Some e) ≡ Some (give_at s l v set)
    go true i = ap (λ (b : Bool). give_if b (give_at s l e.place set)) i ∙ ap (λ (p : ℕ). Some (give_at s l p set)) (f e refl)
    go false i = let x : None ≡ Some a = sym (ap (λ (b : Bool). kept_if b (add_of s (upto l v) v)) i) ∙ h in cc

none_is_given : (s : Setup) (l : Life) (v : ℕ) (set : Gtids) (o : Option Entry) → add_kept s l v o ≡ None → given_to s l set o ≡ None
none_is_given s l v set None h = refl
none_is_given s l v set (Some e) h = go (is_add e.value.what e.effect) refl
  where
    go : (b : Bool) → is_add e.value.what e.effect ≡ b → given_to s l set (Some e) ≡ None
    go true i = let x : Some (add_of s (upto l v) v) ≡ None = sym (ap (λ (b : Bool). kept_if b (add_of s (upto l v) v)) i) ∙ h in cc
    go false i = ap (λ (b : Bool). give_if b (give_at s l e.place set)) i

-- a donor that keeps what the history has gives what the rules give
pub give_is : (s : Setup) (l : Life) (d : Donating) (k : Ask) (g : Give) → Donates s l d → IsSomeAnd (at_place d.adds k.place) (λ a. g ≡ give_from a (filter (is_by k.place) d.certified) k.executed)
    → given_to s l k.executed (entry_at l k.place) ≡ Some g
give_is s l d k g f h = go (at_place d.adds k.place) refl h
  where
    go : (o : Option AtAdd) → at_place d.adds k.place ≡ o → IsSomeAnd o (λ a. g ≡ give_from a (filter (is_by k.place) d.certified) k.executed) → given_to s l k.executed (entry_at l k.place) ≡ Some g
    go None e p = absurd p
    go (Some a) e p =
        kept_is_given s l k.place k.executed a (entry_at l k.place) (sym (f.adds k.place) ∙ e) (at_its_place l k.place)
        ∙ ap Some (sym (p ∙ gives s l k.place k.executed d a f e))

pub no_give_is : (s : Setup) (l : Life) (d : Donating) (k : Ask) (x : GiveFault) → Donates s l d → IsGiveFault d k x → IsNotGiven (given_to s l k.executed (entry_at l k.place)) x
no_give_is s l d k (NotKept p) f h = none_is_given s l k.place k.executed (entry_at l k.place) (sym (f.adds k.place) ∙ h.1)
no_give_is s l d k Memory f h = tt

pub each_given : (x : MemberParts) (k : Ask) (r : Result Give GiveFault) → IfOk r (λ g. IsSomeAnd (at_place x.donor.adds k.place) (λ a. g ≡ give_from a (filter (is_by k.place) x.donor.certified) k.executed))
    → IfOk r (λ g. (s : Setup) (me : Inc) (l : Life) → StandsFor s me l x → given_to s l k.executed (entry_at l k.place) ≡ Some g)
each_given x k (Ok g) h = λ s me l f. give_is s l x.donor k g f.donor h
each_given x k (Err e) h = tt

pub each_fault : (x : MemberParts) (k : Ask) (r : Result Give GiveFault) → IfErr r (IsGiveFault x.donor k)
    → IfErr r (λ e. (s : Setup) (me : Inc) (l : Life) → StandsFor s me l x → IsNotGiven (given_to s l k.executed (entry_at l k.place)) e)
each_fault x k (Ok g) h = tt
each_fault x k (Err e) h = λ s me l f. no_give_is s l x.donor k e f.donor h
