-- Lemmas on lives: executed sets grow, own values have rising numbers, what is taken grows.
use Rattle.std.proofs.Common.{◌≡◌, ◌⊎◌, inl, inr, ℕ, ◌≤◌, List, [], ◌∷◌, Some, None, Bool, true, false, ◌||◌, not, refl, sym, ◌∙◌, ap, subst, arith, eqb, eqb-true}
use Rattle.std.specs.List.{list_any}
use Rattle.std.proofs.lemmas.Bool.{false≢true, or_cases, or_left, or_right, or_parts, and_parts, both_ways}
use Rattle.group_rules.specs.Events.{Setup}
use Rattle.group_laws.specs.Lists.{IsPast}
use Rattle.group_laws.specs.Names.{Inc, Gtid, gtid_eq}
use Rattle.group_laws.specs.Entries.{Placed, values}
use Rattle.group_laws.specs.View.{active, is_active, Absent}
use Rattle.group_laws.specs.Life.{Did, Started, Given, Made, Took, Finished, Committed, Called, Begun, Acked, Fell, Life, marked, taken, executed, is_give, is_fall, founder, ready, online, last_made, Call, last_call, last_begun, Changed, Asked, Ended}
use Rattle.group_laws.specs.Lawful.{InSession, LawfulDid, LawfulLife}
use Rattle.group_laws.proofs.Lists.{IsPast-self, IsPast-nil, IsPast-tail, IsPast-trans}

pub lawful_past : (r : Setup) (m : Inc) (a l : Life) → IsPast a l → LawfulLife r m l → LawfulLife r m a
lawful_past r m a [] h k = let e : a ≡ [] = h in subst (λ (x : Life). LawfulLife r m x) (sym e) k
lawful_past r m a (x ∷ l) (inl e) k = subst (λ (y : Life). LawfulLife r m y) (sym e) k
lawful_past r m a (x ∷ l) (inr h) k = lawful_past r m a l h k.1

pub executed_more : (r : Setup) (m : Inc) (d : Did) (l : Life) (g : Gtid) → LawfulDid r m l d → executed l g ≡ true → executed (d ∷ l) g ≡ true
executed_more r m (Started s) l g q h =
    let h2 : executed [] g ≡ true = subst (λ (y : Life). executed y g ≡ true) q.0 h in absurd (false≢true h2)
executed_more r m (Committed c) l g q h = or_right (gtid_eq c g) (executed l g) h
executed_more r m (Given b) l g q h = h
executed_more r m (Made v) l g q h = h
executed_more r m (Took e) l g q h = h
executed_more r m (Finished p) l g q h = h
executed_more r m (Called s a b) l g q h = h
executed_more r m (Begun s) l g q h = h
executed_more r m (Acked c) l g q h = h
executed_more r m Fell l g q h = h
executed_more r m (Changed s2 c2) l g q h = h
executed_more r m (Asked s2) l g q h = h
executed_more r m (Ended s2) l g q h = h

pub executed_mono : (r : Setup) (m : Inc) (a l : Life) (g : Gtid) → LawfulLife r m l → IsPast a l → executed a g ≡ true → executed l g ≡ true
executed_mono r m a [] g k p h = let e : a ≡ [] = p in subst (λ (y : Life). executed y g ≡ true) e h
executed_mono r m a (d ∷ l) g k (inl e) h = subst (λ (y : Life). executed y g ≡ true) e h
executed_mono r m a (d ∷ l) g k (inr p) h = executed_more r m d l g k.0 (executed_mono r m a l g k.1 p h)

pub ever_mono : (test : Did → Bool) (a l : Life) → IsPast a l → list_any test a ≡ true → list_any test l ≡ true
ever_mono test a [] p h = let e : a ≡ [] = p in subst (λ (y : Life). list_any test y ≡ true) e h
ever_mono test a (d ∷ l) (inl e) h = subst (λ (y : Life). list_any test y ≡ true) e h
ever_mono test a (d ∷ l) (inr p) h = or_right (test d) (list_any test l) (ever_mono test a l p h)

pub ready_mono : (r : Setup) (m : Inc) (a l : Life) → IsPast a l → ready r m a ≡ true → ready r m l ≡ true
ready_mono r m a l p h = go (or_cases (founder r m) (list_any is_give a) h)
  where
    go : (founder r m ≡ true) ⊎ (list_any is_give a ≡ true) → ready r m l ≡ true
    go (inl e) = or_left (founder r m) (list_any is_give l) e
    go (inr e) = or_right (founder r m) (list_any is_give l) (ever_mono is_give a l p e)

pub last_made_more : (r : Setup) (m : Inc) (d : Did) (l : Life) → LawfulDid r m l d → last_made l ≤ last_made (d ∷ l)
last_made_more r m (Made v) l q = let e = q.next in omega (arith, e)
last_made_more r m (Started s) l q = omega arith
last_made_more r m (Given b) l q = omega arith
last_made_more r m (Took e) l q = omega arith
last_made_more r m (Finished p) l q = omega arith
last_made_more r m (Committed g) l q = omega arith
last_made_more r m (Called s a b) l q = omega arith
last_made_more r m (Begun s) l q = omega arith
last_made_more r m (Acked g) l q = omega arith
last_made_more r m Fell l q = omega arith
last_made_more r m (Changed s2 c2) l q = omega arith
last_made_more r m (Asked s2) l q = omega arith
last_made_more r m (Ended s2) l q = omega arith

pub last_made_mono : (r : Setup) (m : Inc) (a l : Life) → LawfulLife r m l → IsPast a l → last_made a ≤ last_made l
last_made_mono r m a [] k p = let e : a ≡ [] = p in rw e (omega arith)
last_made_mono r m a (d ∷ l) k (inl e) = rw e (omega arith)
last_made_mono r m a (d ∷ l) k (inr p) =
    let x = last_made_mono r m a l k.1 p in let y = last_made_more r m d l k.0 in omega (arith, x, y)

-- before its Give a joiner has taken nothing
pub unready : (r : Setup) (m : Inc) (l : Life) → LawfulLife r m l → ready r m l ≡ false → marked l ≡ []
unready r m [] k h = refl
unready r m (Took e ∷ l) k h = absurd (both_ways (ready r m l) h k.0.is_ready)
unready r m (Given b ∷ l) k h = absurd (both_ways (founder r m || true) h (or_right (founder r m) true refl))
unready r m (Started s ∷ l) k h = unready r m l k.1 h
unready r m (Made v ∷ l) k h = unready r m l k.1 h
unready r m (Finished p ∷ l) k h = unready r m l k.1 h
unready r m (Committed g ∷ l) k h = unready r m l k.1 h
unready r m (Called s a b ∷ l) k h = unready r m l k.1 h
unready r m (Begun s ∷ l) k h = unready r m l k.1 h
unready r m (Acked g ∷ l) k h = unready r m l k.1 h
unready r m (Fell ∷ l) k h = unready r m l k.1 h
unready r m (Changed s2 c2 ∷ l) k h = unready r m l k.1 h
unready r m (Asked s2 ∷ l) k h = unready r m l k.1 h
unready r m (Ended s2 ∷ l) k h = unready r m l k.1 h

pub marked_more : (r : Setup) (m : Inc) (d : Did) (l : Life) → LawfulLife r m l → LawfulDid r m l d → IsPast (marked l) (marked (d ∷ l))
marked_more r m (Took e) l k q = inr (IsPast-self (marked l))
marked_more r m (Given b) l k q = subst (λ (y : List Placed). IsPast y b) (sym (unready r m l k q.fresh)) (IsPast-nil b)
marked_more r m (Started s) l k q = IsPast-self (marked l)
marked_more r m (Made v) l k q = IsPast-self (marked l)
marked_more r m (Finished p) l k q = IsPast-self (marked l)
marked_more r m (Committed g) l k q = IsPast-self (marked l)
marked_more r m (Called s a b) l k q = IsPast-self (marked l)
marked_more r m (Begun s) l k q = IsPast-self (marked l)
marked_more r m (Acked g) l k q = IsPast-self (marked l)
marked_more r m Fell l k q = IsPast-self (marked l)
marked_more r m (Changed s2 c2) l k q = IsPast-self (marked l)
marked_more r m (Asked s2) l k q = IsPast-self (marked l)
marked_more r m (Ended s2) l k q = IsPast-self (marked l)

pub marked_mono : (r : Setup) (m : Inc) (a l : Life) → LawfulLife r m l → IsPast a l → IsPast (marked a) (marked l)
marked_mono r m a [] k p = let e : a ≡ [] = p in subst (λ (y : Life). IsPast (marked a) (marked y)) e (IsPast-self (marked a))
marked_mono r m a (d ∷ l) k (inl e) = subst (λ (y : Life). IsPast (marked a) (marked y)) e (IsPast-self (marked a))
marked_mono r m a (d ∷ l) k (inr p) =
    IsPast-trans (marked a) (marked l) (marked (d ∷ l)) (marked_mono r m a l k.1 p) (marked_more r m d l k.1 k.0)

-- a member that is ONLINE is ready
pub online_ready : (r : Setup) (m : Inc) (l : Life) → LawfulLife r m l → online r m l ≡ true → ready r m l ≡ true
online_ready r m l k h = go (ready r m l) refl
  where
    a : active r (taken l) m ≡ true
    a = (and_parts (not (list_any is_fall l)) (active r (taken l) m) h).1

    go : (b : Bool) → ready r m l ≡ b → ready r m l ≡ true
    go true e = e
    go false e =
        let u : marked l ≡ [] = unready r m l k e in
        let f : founder r m ≡ false = (or_parts (founder r m) (list_any is_give l) e).0 in
        let a2 : active r [] m ≡ true = subst (λ (y : List Placed). active r (values y) m ≡ true) u a in
        let a3 : is_active Absent ≡ true = rw f at a2 in absurd (false≢true a3)

-- ---- sessions

pub call_mark : (l : Life) (s : ℕ) (c : Call) → last_call l s ≡ Some c → IsPast (Called s c.level c.sync ∷ c.past) l
call_mark [] s c h = absurd (cc h)
call_mark (Called t level sync ∷ l) s c h = go (eqb t s) refl (call_mark l s c)
  where
    go : (b : Bool) → eqb t s ≡ b → (last_call l s ≡ Some c → IsPast (Called s c.level c.sync ∷ c.past) l) → IsPast (Called s c.level c.sync ∷ c.past) (Called t level sync ∷ l)
    go true e rec =
        let k2 : Some (record { level = level; sync = sync; past = l }) ≡ Some c = rw e at h in
        let u : record { level = level; sync = sync; past = l } ≡ c = cc k2 in
        let ts : s ≡ t = sym (eqb-true t s e) in
        let v : Called s c.level c.sync ∷ c.past ≡ Called s level sync ∷ l = ap (λ (y : Call). Called s y.level y.sync ∷ y.past) (sym u) in
        inl (v ∙ ap (λ y. Called y level sync ∷ l) ts)
    go false e rec = let k2 : last_call l s ≡ Some c = rw e at h in inr (rec k2)
call_mark (Started x ∷ l) s c h = inr (call_mark l s c h)
call_mark (Given x ∷ l) s c h = inr (call_mark l s c h)
call_mark (Made x ∷ l) s c h = inr (call_mark l s c h)
call_mark (Took x ∷ l) s c h = inr (call_mark l s c h)
call_mark (Finished x ∷ l) s c h = inr (call_mark l s c h)
call_mark (Committed x ∷ l) s c h = inr (call_mark l s c h)
call_mark (Begun x ∷ l) s c h = inr (call_mark l s c h)
call_mark (Acked x ∷ l) s c h = inr (call_mark l s c h)
call_mark (Fell ∷ l) s c h = inr (call_mark l s c h)
call_mark (Changed s2 c2 ∷ l) s c h = inr (call_mark l s c h)
call_mark (Asked s2 ∷ l) s c h = inr (call_mark l s c h)
call_mark (Ended s2 ∷ l) s c h = inr (call_mark l s c h)

pub begun_mark : (l : Life) (s : ℕ) (b : Life) → last_begun l s ≡ Some b → IsPast (Begun s ∷ b) l
begun_mark [] s b h = absurd (cc h)
begun_mark (Begun t ∷ l) s b h = go (eqb t s) refl (begun_mark l s b)
  where
    go : (v : Bool) → eqb t s ≡ v → (last_begun l s ≡ Some b → IsPast (Begun s ∷ b) l) → IsPast (Begun s ∷ b) (Begun t ∷ l)
    go true e rec =
        let k2 : Some l ≡ Some b = rw e at h in
        let u : b ≡ l = sym (cc k2) in
        let ts : s ≡ t = sym (eqb-true t s e) in
        inl (ap (λ (y : Life). Begun s ∷ y) u ∙ ap (λ y. Begun y ∷ l) ts)
    go false e rec = let k2 : last_begun l s ≡ Some b = rw e at h in inr (rec k2)
begun_mark (Called t level sync ∷ l) s b h = go (eqb t s) refl (begun_mark l s b)
  where
    go : (v : Bool) → eqb t s ≡ v → (last_begun l s ≡ Some b → IsPast (Begun s ∷ b) l) → IsPast (Begun s ∷ b) (Called t level sync ∷ l)
    go true e rec = let k2 : None ≡ Some b = rw e at h in absurd (cc k2)
    go false e rec = let k2 : last_begun l s ≡ Some b = rw e at h in inr (rec k2)
begun_mark (Started x ∷ l) s b h = inr (begun_mark l s b h)
begun_mark (Given x ∷ l) s b h = inr (begun_mark l s b h)
begun_mark (Made x ∷ l) s b h = inr (begun_mark l s b h)
begun_mark (Took x ∷ l) s b h = inr (begun_mark l s b h)
begun_mark (Finished x ∷ l) s b h = inr (begun_mark l s b h)
begun_mark (Committed x ∷ l) s b h = inr (begun_mark l s b h)
begun_mark (Acked x ∷ l) s b h = inr (begun_mark l s b h)
begun_mark (Fell ∷ l) s b h = inr (begun_mark l s b h)
begun_mark (Changed s2 c2 ∷ l) s b h = inr (begun_mark l s b h)
begun_mark (Asked s2 ∷ l) s b h = inr (begun_mark l s b h)
begun_mark (Ended s2 ∷ l) s b h = inr (begun_mark l s b h)

pub session_ready : (r : Setup) (m : Inc) (l : Life) → LawfulLife r m l → InSession r m l → ready r m l ≡ true
session_ready r m l k s =
    let pb : IsPast s.begun l = IsPast-tail (Begun s.session) s.begun l (begun_mark l s.session s.begun s.is_begun) in
    let cm = IsPast-trans (Called s.session s.call.level s.call.sync ∷ s.call.past) s.begun l (call_mark s.begun s.session s.call s.is_call) pb in
    let pc : IsPast s.call.past l = IsPast-tail (Called s.session s.call.level s.call.sync) s.call.past l cm in
    ready_mono r m s.call.past l pc (online_ready r m s.call.past (lawful_past r m s.call.past l pc k) s.was_online)
