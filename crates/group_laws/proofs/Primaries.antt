-- A primary was elected at a place that was taken.
use Rattle.std.proofs.Common.{◌≡◌, ℕ, suc, ◌≤◌, List, [], ◌∷◌, length, Option, Some, None, Bool, true, false, ◌&&◌, not, refl, ap, ◌∙◌, arith, map}
use Rattle.group_rules.specs.Events.{Setup}
use Rattle.gr_ids.specs.declared.levels.MemberState.TheVariants.{Online as IsUp}
use Rattle.txn_forms.specs.declared.body.Body.{Body as Said}
use Rattle.group_laws.specs.Names.{Inc, Joiner, ToMulti, ToSingle, Single}
use Rattle.group_rules.specs.View.{View, is_single, has_primary, online_seats, joiners, elect, with_primary, settled, with_named, is_online, void_if, is_idle, changed_view, effect_in}
use Rattle.group_laws.specs.Entries.{Body, Write, Executed, Online, Joins, Leaves, Prepared, Switches, Appoints, Plain, Value}
use Rattle.group_laws.specs.Primary.{view, view_after, what_of, said_of}

with_primary_place : (n : ℕ) (j : Option Joiner) (v : View) → (with_primary n j v).elected ≤ n
with_primary_place n None v = omega arith
with_primary_place n (Some j) v = omega arith

pub settled_place : (n : ℕ) (v : View) → v.elected ≤ n → (settled n v).elected ≤ n
settled_place n v h = go (is_single v.mode && not (has_primary v v.primary)) refl
  where
    go : (b : Bool) → (is_single v.mode && not (has_primary v v.primary)) ≡ b → (settled n v).elected ≤ n
    go true e = rw (e, settled) (with_primary_place n (elect (joiners (online_seats v))) v)
    go false e = rw (e, settled) h

named_place : (n : ℕ) (o : Option Inc) (v : View) → v.elected ≤ n → (with_named n o v).elected ≤ n
named_place n None v h = h
named_place n (Some i) v h = go (is_online v i) refl
  where
    go : (b : Bool) → is_online v i ≡ b → (with_named n (Some i) v).elected ≤ n
    go true e = rw e (omega arith)
    go false e = rw e h

-- a body that is idle leaves the view as it was, but for an election
if_idle : (n : ℕ) (origin : Inc) (b : Body) (v : View) → (changed_view n origin (what_of b) (said_of b) v).elected ≤ n → v.elected ≤ n → (x : Said) → said_of b ≡ Some x → effect_in v true (what_of b) (said_of b) ≡ void_if (is_idle v x) → (view_after n origin b v).elected ≤ n
if_idle n origin b v c h x e q = go (is_idle v x) refl
  where
    go : (t : Bool) → is_idle v x ≡ t → (view_after n origin b v).elected ≤ n
    go true z =
        let w : effect_in v true (what_of b) (said_of b) ≡ void_if true = q ∙ ap void_if z in
        rw w (settled_place n v h)
    go false z =
        let w : effect_in v true (what_of b) (said_of b) ≡ void_if false = q ∙ ap void_if z in
        rw w (settled_place n (changed_view n origin (what_of b) (said_of b) v) c)

pub after_place : (n : ℕ) (origin : Inc) (b : Body) (v : View) → v.elected ≤ n → (view_after n origin b v).elected ≤ n
after_place n origin (Joins j) v h = settled_place n (changed_view n origin (what_of (Joins j)) (said_of (Joins j)) v) h
after_place n origin (Leaves j) v h = settled_place n (changed_view n origin (what_of (Leaves j)) (said_of (Leaves j)) v) h
after_place n origin (Online s) v h = settled_place n (changed_view n origin (what_of (Online s)) (said_of (Online s)) v) h
after_place n origin (Switches ToMulti) v h = if_idle n origin (Switches ToMulti) v (omega arith) h _ refl refl
after_place n origin (Switches (ToSingle i)) v h = if_idle n origin (Switches (ToSingle i)) v (named_place n i (record v { mode = Single; primary = None }) h) h _ refl refl
after_place n origin (Appoints i) v h = if_idle n origin (Appoints i) v (omega arith) h _ refl refl
after_place n origin (Write t) v h = settled_place n v h
after_place n origin (Executed t) v h = settled_place n v h
after_place n origin (Prepared t) v h = settled_place n v h
after_place n origin Plain v h = settled_place n v h

pub elected_place : (r : Setup) (p : List Value) → (view r p).elected ≤ length p
elected_place r [] = settled_place 0 (record { number = 1; mode = r.mode; primary = None; elected = 0; seats = map (λ j. record { joiner = j; state = IsUp }) r.founders }) (omega arith)
elected_place r (x ∷ p) = let h = elected_place r p in after_place (suc (length p)) x.origin x.body (view r p) (omega (arith, h))
