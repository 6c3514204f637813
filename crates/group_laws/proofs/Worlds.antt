-- Lemmas on runs: lives within them, and which own value was made first.
use Rattle.std.proofs.Common.{◌≡◌, ◌⊎◌, inl, inr, suc, ◌≤◌, ◌<◌, List, [], ◌∷◌, Bool, true, false, cond, ◌&&◌, ◌||◌, refl, sym, ◌∙◌, ap, subst, arith, eqb}
use Rattle.std.proofs.lemmas.Bool.{false≢true, or_cases, or_left, or_right}
use Rattle.group_rules.specs.Events.{Setup}
use Rattle.group_laws.specs.Lists.{Mem, IsPast}
use Rattle.group_laws.specs.Names.{Inc, inc_eq, Gtid, gtid_eq}
use Rattle.group_laws.specs.Entries.{Value, as_made}
use Rattle.group_laws.specs.Life.{Did, Started, Given, Made, Took, Finished, Committed, Called, Begun, Acked, Fell, Life, executed, last_made, Changed, Asked, Ended}
use Rattle.group_laws.specs.Lawful.{LawfulMade, LawfulDid, LawfulLife}
use Rattle.group_laws.specs.View.{last_kept}
use Rattle.group_laws.specs.World.{Does, Writes, World, life, adds, owned, Lawful, MadeAt, MadeBy, JointDid, Joint, IsKeptList}
use Rattle.group_laws.proofs.Lists.{IsPast-self, pasts_compare}
use Rattle.node_rules.proofs.Incs.{inc_is, inc_same}
use Rattle.group_laws.proofs.Names.{eqb-self}
use Rattle.group_laws.proofs.Lives.{last_made_mono}

pub life_here : (w : World) (m : Inc) (d : Did) → life (Does m d ∷ w) m ≡ d ∷ life w m
life_here w m d = let e : inc_eq m m ≡ true = inc_same m in rw e refl

pub life_past : (a w : World) (m : Inc) → IsPast a w → IsPast (life a m) (life w m)
life_past a [] m h = let e : a ≡ [] = h in ap (λ (y : World). life y m) e
life_past a (x ∷ w) m (inl e) = subst (λ (y : World). IsPast (life a m) (life y m)) e (IsPast-self (life a m))
life_past a (Does i d ∷ w) m (inr h) = go (inc_eq i m) refl (life_past a w m h)
  where
    go : (b : Bool) → inc_eq i m ≡ b → IsPast (life a m) (life w m) → IsPast (life a m) (life (Does i d ∷ w) m)
    go true e k = rw e (inr k)
    go false e k = rw e k
life_past a (Writes s g y x ∷ w) m (inr h) = life_past a w m h

pub lawful_past : (r : Setup) (a w : World) → IsPast a w → Lawful r w → Lawful r a
lawful_past r a [] h l = let e : a ≡ [] = h in subst (λ (x : World). Lawful r x) (sym e) l
lawful_past r a (x ∷ w) (inl e) l = subst (λ (y : World). Lawful r y) (sym e) l
lawful_past r a (Does i d ∷ w) (inr h) l = lawful_past r a w h l.1
lawful_past r a (Writes s g y x ∷ w) (inr h) l = lawful_past r a w h l

pub lawful_life : (r : Setup) (w : World) (m : Inc) → Lawful r w → LawfulLife r m (life w m)
lawful_life r [] m l = tt
lawful_life r (Does i d ∷ w) m l = go (inc_eq i m) refl (lawful_life r w m l.1)
  where
    go : (b : Bool) → inc_eq i m ≡ b → LawfulLife r m (life w m) → LawfulLife r m (life (Does i d ∷ w) m)
    go true e k =
        let q : i ≡ m = inc_is i m e in
        let ld : LawfulDid r m (life w m) d = subst (λ (y : Inc). LawfulDid r y (life w y) d) q l.0 in
        rw e (ld, k)
    go false e k = rw e k
lawful_life r (Writes s g y x ∷ w) m l = lawful_life r w m l

-- where a mark stands in the run
pub record Within (w : World) (m : Inc) (d : Did) (l : Life) : Type 0 where
  pub past : World
  pub mark : IsPast (Does m d ∷ past) w
  pub lived : life past m ≡ l

pub within_run : (w : World) (m : Inc) (d : Did) (l : Life) → IsPast (d ∷ l) (life w m) → Within w m d l
within_run [] m d l h = let e : d ∷ l ≡ [] = h in absurd (cc e)
within_run (Does i c ∷ w) m d l h = go (inc_eq i m) refl (within_run w m d l)
  where
    more : Within w m d l → Within (Does i c ∷ w) m d l
    more y = record { past = y.past; mark = inr y.mark; lived = y.lived }

    go : (b : Bool) → inc_eq i m ≡ b → (IsPast (d ∷ l) (life w m) → Within w m d l) → Within (Does i c ∷ w) m d l
    go false e rec = let h2 : IsPast (d ∷ l) (life w m) = subst (λ (v : Bool). IsPast (d ∷ l) (cond v (c ∷ life w m) (life w m))) e h in more (rec h2)
    go true e rec = split h2
      where
        h2 : (d ∷ l ≡ c ∷ life w m) ⊎ IsPast (d ∷ l) (life w m)
        h2 = subst (λ (v : Bool). IsPast (d ∷ l) (cond v (c ∷ life w m) (life w m))) e h

        split : (d ∷ l ≡ c ∷ life w m) ⊎ IsPast (d ∷ l) (life w m) → Within (Does i c ∷ w) m d l
        split (inr k) = more (rec k)
        split (inl k) =
            let q : d ≡ c = cc k in
            let u : l ≡ life w m = cc k in
            let im : m ≡ i = sym (inc_is i m e) in
            record { past = w; mark = inl (ap (λ y. Does y d ∷ w) im ∙ ap (λ y. Does i y ∷ w) q); lived = sym u }
within_run (Writes s g y x ∷ w) m d l h = let y = within_run w m d l h in record { past = y.past; mark = inr y.mark; lived = y.lived }

pub joint_past : (r : Setup) (k : List Value) (a w : World) → IsPast a w → Joint r k w → Joint r k a
joint_past r k a [] h l = let e : a ≡ [] = h in subst (λ (x : World). Joint r k x) (sym e) l
joint_past r k a (x ∷ w) (inl e) l = subst (λ (y : World). Joint r k y) (sym e) l
joint_past r k a (Does i d ∷ w) (inr h) l = joint_past r k a w h l.1
joint_past r k a (Writes s g y x ∷ w) (inr h) l = joint_past r k a w h l.1

-- ---- executed sets

pub did_owned : (k : List Value) (w : World) (m : Inc) (d : Did) (g : Gtid) → JointDid k w m d → (executed (life w m) g ≡ true → owned w m.server g ≡ true) → executed (d ∷ life w m) g ≡ true → (adds d g || owned w m.server g) ≡ true
did_owned k w m (Started s) g j rec h = sym (j g) ∙ h
did_owned k w m (Committed c) g j rec h = go (or_cases (gtid_eq c g) (executed (life w m) g) h)
  where
    go : (gtid_eq c g ≡ true) ⊎ (executed (life w m) g ≡ true) → (gtid_eq c g || owned w m.server g) ≡ true
    go (inl e) = or_left (gtid_eq c g) (owned w m.server g) e
    go (inr e) = or_right (gtid_eq c g) (owned w m.server g) (rec e)
did_owned k w m (Given b) g j rec h = rec h
did_owned k w m (Made v) g j rec h = rec h
did_owned k w m (Took e) g j rec h = rec h
did_owned k w m (Finished p) g j rec h = rec h
did_owned k w m (Called s a b) g j rec h = rec h
did_owned k w m (Begun s) g j rec h = rec h
did_owned k w m (Acked c) g j rec h = rec h
did_owned k w m Fell g j rec h = rec h
did_owned k w m (Changed s2 c2) g j rec h = rec h
did_owned k w m (Asked s2) g j rec h = rec h
did_owned k w m (Ended s2) g j rec h = rec h

pub executed_owned : (r : Setup) (k : List Value) (w : World) (m : Inc) (g : Gtid) → Joint r k w → executed (life w m) g ≡ true → owned w m.server g ≡ true
executed_owned r k [] m g j h = absurd (false≢true h)
executed_owned r k (Does i d ∷ w) m g j h = go (inc_eq i m) refl (executed_owned r k w m g j.1)
  where
    go : (b : Bool) → inc_eq i m ≡ b → (executed (life w m) g ≡ true → owned w m.server g ≡ true) → owned (Does i d ∷ w) m.server g ≡ true
    go false e rec =
        let h2 : executed (life w m) g ≡ true = rw e at h in
        or_right (eqb i.server m.server && adds d g) (owned w m.server g) (rec h2)
    go true e rec =
        let h2 : executed (d ∷ life w m) g ≡ true = rw e at h in
        let q : i ≡ m = inc_is i m e in
        let j2 : JointDid k w m d = subst (λ (y : Inc). JointDid k w y d) q j.0 in
        let o : (adds d g || owned w m.server g) ≡ true = did_owned k w m d g j2 rec h2 in
        let s : eqb i.server m.server ≡ true = ap (λ (y : Inc). eqb y.server m.server) q ∙ eqb-self m.server in
        rw s o
executed_owned r k (Writes s c y x ∷ w) m g j h = or_right (eqb s m.server && gtid_eq c g) (owned w m.server g) (executed_owned r k w m g j.1 h)

-- ---- own values

pub made_life : (w a : World) (v : Value) → MadeAt w v a → IsPast (Made (as_made v) ∷ life a v.origin) (life w v.origin)
made_life w a v h =
    let x = life_past (Does v.origin (Made (as_made v)) ∷ a) w v.origin h in
    subst (λ (y : Life). IsPast y (life w v.origin)) (life_here a v.origin (Made (as_made v))) x

pub made_is : (r : Setup) (w a : World) (v : Value) → Lawful r w → MadeAt w v a → LawfulMade r v.origin (life a v.origin) (as_made v)
made_is r w a v l h = (lawful_past r (Does v.origin (Made (as_made v)) ∷ a) w h l).0

pub made_number : (r : Setup) (w a : World) (v : Value) → Lawful r w → MadeAt w v a → v.number ≤ last_made (life w v.origin)
made_number r w a v l h = last_made_mono r v.origin (Made (as_made v) ∷ life a v.origin) (life w v.origin) (lawful_life r w v.origin l) (made_life w a v h)

-- an own value was not made before it was made
pub not_made_before : (r : Setup) (w a : World) (v : Value) → Lawful r w → MadeAt w v a → (b : World) → IsPast b a → MadeBy b v → ⊥
not_made_before r w a v l h b p m =
    let la : Lawful r a = (lawful_past r (Does v.origin (Made (as_made v)) ∷ a) w h l).1 in
    let n = (made_is r w a v l h).next in
    let x = made_number r b m.0 v (lawful_past r b a p la) m.1 in
    let y = last_made_mono r v.origin (life b v.origin) (life a v.origin) (lawful_life r a v.origin la) (life_past b a v.origin p) in
    omega (arith, n, x, y)

pub making_is : (v e : Value) → Does v.origin (Made (as_made v)) ≡ Does e.origin (Made (as_made e)) → as_made v ≡ as_made e
making_is v e p = cc p

-- one of two own values of one origin was made within the past of the other only if its number is lesser
pub inside_less : (r : Setup) (w a b : World) (u v : Value) → Lawful r w → MadeAt w v b → u.origin ≡ v.origin → MadeAt b u a → u.number < v.number
inside_less r w a b u v l h o p =
    let lb : Lawful r b = (lawful_past r (Does v.origin (Made (as_made v)) ∷ b) w h l).1 in
    let x = made_number r b a u lb p in
    let y = (made_is r w b v l h).next in
    let z : last_made (life b u.origin) ≡ last_made (life b v.origin) = ap (λ (i : Inc). last_made (life b i)) o in
    omega (arith, x, y, z)

-- of two own values the one with the lesser number was made first
pub made_before : (r : Setup) (w a : World) (v e : Value) → Lawful r w → MadeAt w e a → MadeBy w v → v.origin ≡ e.origin → v.number < e.number → MadeBy a v
made_before r w a v e l h m o n = go (pasts_compare (Does v.origin (Made (as_made v)) ∷ m.0) (Does e.origin (Made (as_made e)) ∷ a) w m.1 h)
  where
    go : IsPast (Does v.origin (Made (as_made v)) ∷ m.0) (Does e.origin (Made (as_made e)) ∷ a) ⊎ IsPast (Does e.origin (Made (as_made e)) ∷ a) (Does v.origin (Made (as_made v)) ∷ m.0) → MadeBy a v
    go (inl (inr p)) = (m.0, p)
    go (inl (inl p)) =
        let q : Does v.origin (Made (as_made v)) ≡ Does e.origin (Made (as_made e)) = cc p in
        let s : v.number ≡ e.number = ap (λ (y : Value). y.number) (making_is v e q) in absurd (omega (arith, s, n))
    go (inr (inl p)) =
        let q : Does e.origin (Made (as_made e)) ≡ Does v.origin (Made (as_made v)) = cc p in
        let s : e.number ≡ v.number = ap (λ (y : Value). y.number) (making_is e v q) in absurd (omega (arith, s, n))
    go (inr (inr p)) = let s = inside_less r w a m.0 e v l m.1 (sym o) p in absurd (omega (arith, s, n))

-- ---- kept lists

-- in a kept list the numbers of an origin rise
pub kept_number : (r : Setup) (p : List Value) (v : Value) → IsKeptList r p → Mem v p → v.number ≤ last_kept p v.origin
kept_number r [] v k i = absurd i
kept_number r (x ∷ p) v k (inl e) =
    let t : inc_eq x.origin v.origin ≡ true = ap (λ (y : Value). inc_eq y.origin v.origin) e ∙ inc_same v.origin in
    let s : x.number ≡ v.number = ap (λ (y : Value). y.number) e in
    rw t (omega (arith, s))
kept_number r (x ∷ p) v k (inr i) = go (inc_eq x.origin v.origin) refl (kept_number r p v k.1 i)
  where
    go : (b : Bool) → inc_eq x.origin v.origin ≡ b → v.number ≤ last_kept p v.origin → v.number ≤ last_kept (x ∷ p) v.origin
    go true e a =
        let o : x.origin ≡ v.origin = inc_is x.origin v.origin e in
        let s : x.number ≡ suc (last_kept p x.origin) = k.0.0 in
        let t : last_kept p x.origin ≡ last_kept p v.origin = ap (last_kept p) o in
        rw e (omega (arith, a, s, t))
    go false e a = rw e a

pub kept_past : (r : Setup) (p k : List Value) → IsPast p k → IsKeptList r k → IsKeptList r p
kept_past r p [] h l = let e : p ≡ [] = h in subst (λ (x : List Value). IsKeptList r x) (sym e) l
kept_past r p (v ∷ k) (inl e) l = subst (λ (x : List Value). IsKeptList r x) (sym e) l
kept_past r p (v ∷ k) (inr h) l = kept_past r p k h l.1
