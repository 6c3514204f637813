-- Lemmas on the members, what they told, and the stable set.
use Rattle.std.proofs.Common.{◌≡◌, ◌⊎◌, inl, inr, ℕ, suc, ◌≤◌, ◌<◌, List, [], ◌∷◌, length, Option, Some, None, Bool, true, false, cond, ◌||◌, not, refl, sym, ap, subst, arith}
use Rattle.std.specs.List.{list_any, list_all}
use Rattle.std.proofs.lemmas.Bool.{false≢true, and_parts}
use Rattle.group_rules.specs.Events.{Setup}
use Rattle.group_laws.specs.Lists.{Mem, IsPast}
use Rattle.group_laws.specs.Names.{Inc, Gtid, Gtids, has, inc_eq, has_inc}
use Rattle.group_laws.specs.Entries.{Body, Write, Executed, Online, Joins, Leaves, Prepared, Switches, Appoints, Plain, Value, cons_some}
use Rattle.group_laws.specs.View.{founders, Standing, Absent, Recovering, Active, Gone, on_join, on_online, on_leave, stands_after, standing, is_active, active, is_in, member, joined_by, everyone, set_told, told, has_in, bears, stable, before_online}
use Rattle.group_laws.specs.Fresh.{Tells}
use Rattle.group_laws.proofs.Lists.{any_mem, all_at, IsPast-length, IsPast-self}
use Rattle.node_rules.proofs.Incs.{inc_is}
use Rattle.group_laws.proofs.Certs.{cons_keeps}

-- how far an incarnation has come
abbrev pub rank : Standing → ℕ
rank Absent = 0
rank Recovering = 1
rank Active = 2
rank Gone = 3

pub join_up : (s : Standing) → rank s ≤ rank (on_join s)
join_up Absent = omega arith
join_up Recovering = omega arith
join_up Active = omega arith
join_up Gone = omega arith

pub online_up : (s : Standing) → rank s ≤ rank (on_online s)
online_up Absent = omega arith
online_up Recovering = omega arith
online_up Active = omega arith
online_up Gone = omega arith

pub leave_up : (s : Standing) → rank s ≤ rank (on_leave s)
leave_up Absent = omega arith
leave_up Recovering = omega arith
leave_up Active = omega arith
leave_up Gone = omega arith

pub cond_up : (b : Bool) (s t : Standing) → rank s ≤ rank t → rank s ≤ rank (cond b t s)
cond_up true s t h = h
cond_up false s t h = omega arith

pub after_up : (m o : Inc) (b : Body) (s : Standing) → rank s ≤ rank (stands_after m o b s)
after_up m o (Write t) s = omega arith
after_up m o (Executed t) s = omega arith
after_up m o (Online t) s = cond_up (inc_eq o m) s (on_online s) (online_up s)
after_up m o (Joins j) s = cond_up (inc_eq j.inc m) s (on_join s) (join_up s)
after_up m o (Leaves j) s = cond_up (inc_eq j m) s (on_leave s) (leave_up s)
after_up m o (Prepared t) s = omega arith
after_up m o (Switches t) s = omega arith
after_up m o (Appoints t) s = omega arith
after_up m o Plain s = omega arith

-- an incarnation never goes back
pub rank_up : (r : Setup) (q p : List Value) (m : Inc) → IsPast q p → rank (standing r q m) ≤ rank (standing r p m)
rank_up r q [] m h = rw h (omega arith)
rank_up r q (v ∷ p) m (inl e) = rw e (omega arith)
rank_up r q (v ∷ p) m (inr h) =
    let a = rank_up r q p m h in let b = after_up m v.origin v.body (standing r p m) in omega (arith, a, b)

pub active_rank : (s : Standing) → is_active s ≡ true → rank s ≡ 2
active_rank Absent h = absurd (false≢true h)
active_rank Recovering h = absurd (false≢true h)
active_rank Active h = refl
active_rank Gone h = absurd (false≢true h)

pub rank_active : (s : Standing) → rank s ≡ 2 → is_active s ≡ true
rank_active Absent h = absurd (omega arith)
rank_active Recovering h = absurd (omega arith)
rank_active Active h = refl
rank_active Gone h = absurd (omega arith)

pub in_active : (s : Standing) → is_in s ≡ true → 2 ≤ rank s → is_active s ≡ true
in_active Absent h l = absurd (omega arith)
in_active Recovering h l = absurd (omega arith)
in_active Active h l = refl
in_active Gone h l = absurd (false≢true h)

-- who ever stood in the group is in `everyone`
pub cond_rank : (b : Bool) (s t : Standing) → 0 < rank (cond b t s) → (b ≡ true) ⊎ (0 < rank s)
cond_rank true s t h = inl refl
cond_rank false s t h = inr h

pub online_from : (s : Standing) → 0 < rank (on_online s) → 0 < rank s
online_from Absent h = h
online_from Recovering h = omega arith
online_from Active h = omega arith
online_from Gone h = omega arith

pub leave_from : (s : Standing) → 0 < rank (on_leave s) → 0 < rank s
leave_from Absent h = h
leave_from Recovering h = omega arith
leave_from Active h = omega arith
leave_from Gone h = omega arith

pub cond_from : (b : Bool) (s t : Standing) → (0 < rank t → 0 < rank s) → 0 < rank (cond b t s) → 0 < rank s
cond_from true s t f h = f h
cond_from false s t f h = h

pub came_from : (m o : Inc) (b : Body) (s : Standing) → 0 < rank (stands_after m o b s) → (joined_by b ≡ Some m) ⊎ (0 < rank s)
came_from m o (Write t) s h = inr h
came_from m o (Executed t) s h = inr h
came_from m o (Online t) s h = inr (cond_from (inc_eq o m) s (on_online s) (online_from s) h)
came_from m o (Joins j) s h = go (cond_rank (inc_eq j.inc m) s (on_join s) h)
  where
    go : (inc_eq j.inc m ≡ true) ⊎ (0 < rank s) → (Some j.inc ≡ Some m) ⊎ (0 < rank s)
    go (inl e) = inl (ap Some (inc_is j.inc m e))
    go (inr k) = inr k
came_from m o (Leaves j) s h = inr (cond_from (inc_eq j m) s (on_leave s) (leave_from s) h)
came_from m o (Prepared t) s h = inr h
came_from m o (Switches t) s h = inr h
came_from m o (Appoints t) s h = inr h
came_from m o Plain s h = inr h

pub stood_in : (r : Setup) (p : List Value) (m : Inc) → 0 < rank (standing r p m) → Mem m (everyone r p)
stood_in r [] m h = go (has_inc (founders r) m) refl
  where
    go : (b : Bool) → has_inc (founders r) m ≡ b → Mem m (founders r)
    go true e =
        let f = any_mem (λ x. inc_eq x m) (founders r) e in
        let p : f.0 ≡ m = inc_is f.0 m f.2 in subst (λ x. Mem x (founders r)) p f.1
    go false e = let h2 : 0 < 0 = rw e at h in absurd (omega arith)
stood_in r (v ∷ p) m h = go (came_from m v.origin v.body (standing r p m) h) (stood_in r p m)
  where
    go : (joined_by v.body ≡ Some m) ⊎ (0 < rank (standing r p m)) → (0 < rank (standing r p m) → Mem m (everyone r p)) → Mem m (cons_some (joined_by v.body) (everyone r p))
    go (inl e) rec = rw e (inl refl)
    go (inr k) rec = cons_keeps (joined_by v.body) (everyone r p) m (rec k)

-- what the stable set has, each ONLINE member has told
pub stable_told : (r : Setup) (p : List Value) (g : Gtid) (m : Inc) → stable r p g ≡ true → active r p m ≡ true → has_in (told p m) g ≡ true
stable_told r p g m h a =
    let parts = and_parts (list_any (active r p) (everyone r p)) (list_all (bears r p g) (everyone r p)) h in
    let k = active_rank (standing r p m) a in
    let i = stood_in r p m (omega arith) in
    let b : (not (active r p m) || has_in (told p m) g) ≡ true = all_at (bears r p g) (everyone r p) m parts.1 i in
    rw a at b

pub told_by : (p : List Value) (m : Inc) (g : Gtid) → has_in (told p m) g ≡ true → (v : Value) × (s : Gtids) × Mem v p × Tells v m s × (has s g ≡ true)
told_by [] m g h = absurd (false≢true h)
told_by (v ∷ p) m g h = go (inc_eq v.origin m) refl (set_told v.body) refl (told_by p m g)
  where
    go : (b : Bool) → inc_eq v.origin m ≡ b → (o : Option Gtids) → set_told v.body ≡ o → (has_in (told p m) g ≡ true → (w : Value) × (s : Gtids) × Mem w p × Tells w m s × (has s g ≡ true)) → (w : Value) × (s : Gtids) × Mem w (v ∷ p) × Tells w m s × (has s g ≡ true)
    go true e (Some s) f rec = let h2 : has s g ≡ true = rw (e, f) at h in (v, s, inl refl, (inc_is v.origin m e, f), h2)
    go true e None f rec = let h2 : has_in (told p m) g ≡ true = rw (e, f) at h in let x = rec h2 in (x.0, x.1, inr x.2, x.3, x.4)
    go false e o f rec = let h2 : has_in (told p m) g ≡ true = rw e at h in let x = rec h2 in (x.0, x.1, inr x.2, x.3, x.4)

-- where a member wasn't ONLINE, its Online entry was still to come
pub not_yet_online : (r : Setup) (q p : List Value) (m : Inc) → IsPast q p → active r q m ≡ false → length q ≤ before_online r p m
not_yet_online r q [] m h a = rw h (omega arith)
not_yet_online r q (v ∷ p) m (inl e) a =
    let b : active r (v ∷ p) m ≡ false = subst (λ x. active r x m ≡ false) e a in
    rw (e, b) (omega arith)
not_yet_online r q (v ∷ p) m (inr h) a = go (active r (v ∷ p) m) refl (not_yet_online r q p m h a)
  where
    go : (b : Bool) → active r (v ∷ p) m ≡ b → length q ≤ before_online r p m → length q ≤ before_online r (v ∷ p) m
    go true e k = rw e k
    go false e k = let l = IsPast-length q p h in rw e (omega (arith, l))

pub before_online_le : (r : Setup) (p : List Value) (m : Inc) → before_online r p m ≤ length p
before_online_le r [] m = omega arith
before_online_le r (v ∷ p) m = go (active r (v ∷ p) m) refl (before_online_le r p m)
  where
    go : (b : Bool) → active r (v ∷ p) m ≡ b → before_online r p m ≤ length p → before_online r (v ∷ p) m ≤ suc (length p)
    go true e k = rw e (omega arith)
    go false e k = rw e (omega arith)

-- between two times at which it is ONLINE a member is ONLINE
pub active_between : (r : Setup) (q p s : List Value) (m : Inc) → IsPast q p → IsPast p s → active r q m ≡ true → active r s m ≡ true → active r p m ≡ true
active_between r q p s m h k a b =
    let x = rank_up r q p m h in
    let y = rank_up r p s m k in
    let i = active_rank (standing r q m) a in
    let j = active_rank (standing r s m) b in
    rank_active (standing r p m) (omega (arith, x, y, i, j))

pub active_still : (r : Setup) (q p : List Value) (m : Inc) → IsPast q p → active r q m ≡ true → member r p m ≡ true → active r p m ≡ true
active_still r q p m h a b =
    let x = rank_up r q p m h in
    let i = active_rank (standing r q m) a in
    in_active (standing r p m) b (omega (arith, x, i))

-- the place of the Online entry stays
pub online_place : (r : Setup) (q p : List Value) (m : Inc) → IsPast q p → active r q m ≡ true → active r p m ≡ true → before_online r p m ≡ before_online r q m
online_place r q [] m h a b = let e : q ≡ [] = h in ap (λ x. before_online r x m) (sym e)
online_place r q (v ∷ p) m (inl e) a b = ap (λ x. before_online r x m) (sym e)
online_place r q (v ∷ p) m (inr h) a b =
    let c = active_between r q p (v ∷ p) m h (inr (IsPast-self p)) a b in
    let d = online_place r q p m h a c in
    rw b d
