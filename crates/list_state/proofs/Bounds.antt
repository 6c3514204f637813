-- How much an entry adds to the number of the view and to the blocks taken.
use Rattle.std.proofs.Common.{◌≡◌, ℕ, ◌+◌, ◌≤◌, Bool, true, false, ◌&&◌, not, Option, Some, None, refl, ap, arith}
use Rattle.gr_ids.specs.declared.names.Gtid.{Gtid}
use Rattle.gr_ids.specs.declared.names.Inc.{Inc}
use Rattle.gr_ids.specs.declared.limits.Limits.{Limits}
use Rattle.gtid_sets.specs.Sets.{Gtids}
use Rattle.key_items.specs.declared.item.KeptItem.{KeptItem}
use Rattle.slot_values.specs.declared.value.Joiner.{Joiner}
use Rattle.slot_values.specs.declared.value.What.{What}
use Rattle.slot_values.specs.declared.value.What.TheVariants.{Noop, Add, Remove, Body as Says}
use Rattle.txn_forms.specs.declared.body.Body.{Body}
use Rattle.txn_forms.specs.declared.body.Body.TheVariants as body
use Rattle.txn_forms.specs.declared.body.ModeChange.TheVariants.{Multi as ToMulti, Single as ToSingle}
use Rattle.txn_forms.specs.declared.body.Txn.{Txn as AnyTxn}
use Rattle.group_rules.specs.declared.marks.Effect.{Effect}
use Rattle.group_rules.specs.declared.marks.Effect.TheVariants.{Plain, Void, Unread, Positive, Conflict}
use Rattle.group_rules.specs.View.{View, changed_view, elect, has_primary, is_online, is_single, joiners, next_view, online_seats, settled, with_named, with_primary}
use Rattle.group_rules.specs.Certifier.{Certifier, certified_by, opens_block, verdict_by}
use Rattle.certifier.specs.Certifying.{Certifying, limits_of, without_stable}
use Rattle.list_state.specs.declared.held.Held.{Held}
use Rattle.list_state.specs.declared.held.Held.TheVariants.{Txn, Part as PartHeld, Other, Nothing}
use Rattle.list_state.specs.Holding.{certified_held}

-- ---- the view number

elected_number : (p : ℕ) (o : Option Joiner) (v : View) → (with_primary p o v).number ≡ v.number
elected_number p None v = refl
elected_number p (Some j) v = refl

settled_number : (p : ℕ) (v : View) → (settled p v).number ≡ v.number
settled_number p v = go (is_single v.mode && not (has_primary v v.primary)) refl
  where
    go : (t : Bool) → (is_single v.mode && not (has_primary v v.primary)) ≡ t → (settled p v).number ≡ v.number
    go true e = rw (e, settled) (elected_number p (elect (joiners (online_seats v))) v)
    go false e = rw (e, settled) refl

named_number : (p : ℕ) (o : Option Inc) (v : View) → (with_named p o v).number ≡ v.number
named_number p None v = refl
named_number p (Some i) v = go (is_online v i) refl
  where
    go : (t : Bool) → is_online v i ≡ t → (with_named p (Some i) v).number ≡ v.number
    go true e = rw (e, with_named) refl
    go false e = rw (e, with_named) refl

same_number : (k n : ℕ) → n ≡ k → n ≤ k + 1
same_number k n e = omega (arith, e)

body_number : (p : ℕ) (m : Inc) (x : What) (b : Body) (v : View) → (changed_view p m x (Some b) v).number ≤ v.number + 1
body_number p m (Add j) b v = omega arith
body_number p m (Remove i) b v = omega arith
body_number p m Noop (body.Txn t) v = omega arith
body_number p m Noop (body.Prepared g) v = omega arith
body_number p m Noop body.Sync v = omega arith
body_number p m Noop (body.Executed s) v = omega arith
body_number p m Noop (body.Online s) v = omega arith
body_number p m Noop (body.Mode ToMulti) v = omega arith
body_number p m Noop (body.Mode (ToSingle i)) v = same_number v.number _ (named_number p i _)
body_number p m Noop (body.Primary i) v = omega arith
body_number p m Noop (body.Part q) v = omega arith
body_number p m (Says bs) (body.Txn t) v = omega arith
body_number p m (Says bs) (body.Prepared g) v = omega arith
body_number p m (Says bs) body.Sync v = omega arith
body_number p m (Says bs) (body.Executed s) v = omega arith
body_number p m (Says bs) (body.Online s) v = omega arith
body_number p m (Says bs) (body.Mode ToMulti) v = omega arith
body_number p m (Says bs) (body.Mode (ToSingle i)) v = same_number v.number _ (named_number p i _)
body_number p m (Says bs) (body.Primary i) v = omega arith
body_number p m (Says bs) (body.Part q) v = omega arith

changed_number : (p : ℕ) (m : Inc) (x : What) (y : Option Body) (v : View) → (changed_view p m x y v).number ≤ v.number + 1
changed_number p m x (Some b) v = body_number p m x b v
changed_number p m Noop None v = omega arith
changed_number p m (Add j) None v = omega arith
changed_number p m (Remove i) None v = omega arith
changed_number p m (Says bs) None v = omega arith

settled_within : (p : ℕ) (v : View) (k : ℕ) → v.number ≤ k → (settled p v).number ≤ k
settled_within p v k h = omega (arith, settled_number p v, h)

next_number : (p : ℕ) (m : Inc) (x : What) (y : Option Body) (f : Effect) (v : View) → (next_view p m x y f v).number ≤ v.number + 1
next_number p m x y Plain v = settled_within p (changed_view p m x y v) (v.number + 1) (changed_number p m x y v)
next_number p m x y Void v = settled_within p v (v.number + 1) (omega arith)
next_number p m x y Unread v = settled_within p v (v.number + 1) (omega arith)
next_number p m x y (Positive g) v = settled_within p v (v.number + 1) (omega arith)
next_number p m x y (Conflict g) v = settled_within p v (v.number + 1) (omega arith)

pub number_within : (old new : View) (p : ℕ) (m : Inc) (x : What) (y : Option Body) (f : Effect) (k : ℕ) → new ≡ next_view p m x y f old → old.number ≤ k → new.number ≤ k + 1
number_within old new p m x y f k e h = omega (arith, ap (λ (v : View). v.number) e, next_number p m x y f old, h)

-- ---- the blocks

abbrev blocks_of : Certifying → ℕ
blocks_of c = c.certified.blocks

verdict_blocks : (x : Limits) (p : ℕ) (m : Inc) (g : Gtid) (k : Option KeptItem) (t : AnyTxn) (c : Certifier) → (certified_by x p m (verdict_by g k) (Some (body.Txn t)) c).blocks ≤ c.blocks + 1
verdict_blocks x p m g None t c = go (opens_block x.block g.number) refl
  where
    go : (b : Bool) → opens_block x.block g.number ≡ b → (certified_by x p m (Positive g) (Some (body.Txn t)) c).blocks ≤ c.blocks + 1
    go true e = rw e (omega arith)
    go false e = rw e (omega arith)
verdict_blocks x p m g (Some k) t c = omega arith

held_blocks : (p : ℕ) (m : Inc) (h : Held) (c : Certifying) → blocks_of (certified_held p m h c) ≤ blocks_of c + 1
held_blocks p m (Txn t b) c = verdict_blocks (limits_of c) p m _ _ t c.certified
held_blocks p m (PartHeld x) c = omega arith
held_blocks p m (Other b) c = omega arith
held_blocks p m Nothing c = omega arith

pub blocks_within : (old new : Certifying) (p : ℕ) (m : Inc) (h : Held) (k : ℕ) → new ≡ certified_held p m h old → blocks_of old ≤ k → blocks_of new ≤ k + 1
blocks_within old new p m h k e o = omega (arith, ap blocks_of e, held_blocks p m h old, o)

-- forgetting takes no block back
pub blocks_kept : (old new : Certifying) (s : Gtids) (k : ℕ) → new ≡ without_stable s old → blocks_of old ≤ k → blocks_of new ≤ k
blocks_kept old new s k e o = omega (arith, ap blocks_of e, o)

pub same_blocks : (old new : Certifying) (k : ℕ) → new ≡ old → blocks_of old ≤ k → blocks_of new ≤ k
same_blocks old new k e o = omega (arith, ap blocks_of e, o)
