-- Where nothing was left to forget, nothing is after a transaction whose GTID the first member ONLINE hasn't told, or after a part.
use Rattle.std.proofs.Common.{◌≡◌, ℕ, Bool, true, false, not, ◌&&◌, ◌||◌, Option, Some, None, List, [], ◌∷◌, refl, sym, ap, subst, ◌∙◌, arith, leb, ltb}
use Rattle.std.specs.Prelude.{cond, filter, find, flat_map}
use Rattle.std.specs.Option.{option_map}
use Rattle.std.proofs.lemmas.Bool.{or_from}
use Rattle.std.proofs.lemmas.Bool.Decides.{nat_tests}
use Rattle.gr_ids.specs.declared.names.Gtid.{Gtid}
use Rattle.gr_ids.specs.declared.names.Inc.{Inc}
use Rattle.gr_ids.specs.declared.names.OpenParts.{OpenParts}
use Rattle.gr_ids.specs.declared.limits.Limits.{Limits}
use Rattle.gr_ids.specs.Names.{bytes_eq}
use Rattle.gtid_sets.specs.declared.run.Run.{Run}
use Rattle.gtid_sets.specs.Sets.{Gtids, common, has, in_run, meet}
use Rattle.gtid_sets.specs.declared.told.ToldSet.{ToldSet}
use Rattle.gtid_sets.proofs.PartLemmas.{has-append}
use Rattle.key_items.specs.declared.item.Item.{Item}
use Rattle.key_items.specs.declared.item.KeptItem.{KeptItem}
use Rattle.key_items.specs.Items.{item_eq, item_lt}
use Rattle.slot_values.specs.declared.value.Joiner.{Joiner}
use Rattle.slot_values.specs.declared.value.What.{What}
use Rattle.slot_values.specs.declared.value.What.TheVariants.{Noop, Add, Remove, Body as Says}
use Rattle.node_rules.specs.declared.seat.Seat.{Seat}
use Rattle.txn_forms.specs.declared.body.Body.{Body}
use Rattle.txn_forms.specs.declared.body.Body.TheVariants as body
use Rattle.txn_forms.specs.declared.body.Txn.{Txn as AnyTxn}
use Rattle.group_rules.specs.declared.marks.Effect.{Effect}
use Rattle.group_rules.specs.View.{View, effect_in, elect, has_primary, is_online_state, is_single, joiners, next_view, online_incs, online_seats, seated, settled, with_primary}
use Rattle.group_rules.specs.Told.{set_or_empty, stable_of, told_of}
use Rattle.group_rules.specs.Certifier.{Certifier, certified_by, verdict_by, with_kept, written_by}
use Rattle.group_rules.specs.Parts.{held}
use Rattle.certifier.specs.Certifying.{Certifying, limits_of, without_stable}
use Rattle.list_state.specs.declared.held.Held.{Held}
use Rattle.list_state.specs.declared.held.Held.TheVariants.{Txn, Part as PartHeld, Other, Nothing}
use Rattle.list_state.specs.Holding.{Shows, certified_held, effect_held, news_of, told_held}
use Rattle.list_state.specs.Settling.{AreKept, first_online, is_new_to, is_quiet}

-- ---- what the first has not, an intersection has not

or_false : (x y : Bool) → (x || y) ≡ false → (x ≡ false) × (y ≡ false)
or_false false false e = (refl, refl)
or_false false true e = cc
or_false true y e = cc

not_true : (b : Bool) → not b ≡ true → b ≡ false
not_true false e = refl
not_true true e = cc

common_lacks : (r b : Run) (g : Gtid) → in_run g r ≡ false → has (common r b) g ≡ false
common_lacks r b g h = by_test (bytes_eq r.source b.source && leb (cond (ltb r.first b.first) b.first r.first) (cond (ltb r.last b.last) r.last b.last))
  where
    by_test : (t : Bool) → has (cond t (record { source = r.source; first = cond (ltb r.first b.first) b.first r.first; last = cond (ltb r.last b.last) r.last b.last } ∷ []) []) g ≡ false
    by_test false = refl
    by_test true = grind (arith, nat_tests, h)

run_lacks : (r : Run) (b : Gtids) (g : Gtid) → in_run g r ≡ false → has (flat_map (common r) b) g ≡ false
run_lacks r [] g h = refl
run_lacks r (s ∷ ss) g h = has-append (common r s) (flat_map (common r) ss) g ∙ or_from (has (common r s) g) (has (flat_map (common r) ss) g) (common_lacks r s g h) (run_lacks r ss g h)

meet_lacks : (a b : Gtids) (g : Gtid) → has a g ≡ false → has (meet a b) g ≡ false
meet_lacks [] b g h = refl
meet_lacks (r ∷ rs) b g h =
    let two = or_false (in_run g r) (has rs g) h in
    has-append (flat_map (common r) b) (meet rs b) g ∙ or_from (has (flat_map (common r) b) g) (has (meet rs b) g) (run_lacks r b g two.0) (meet_lacks rs b g two.1)

abbrev first_of : List Inc → Option Inc
first_of [] = None
first_of (i ∷ is) = Some i

new_lacks : (ts : List ToldSet) (is : List Inc) (g : Gtid) → is_new_to ts (first_of is) g ≡ true → has (stable_of ts is) g ≡ false
new_lacks ts [] g h = refl
new_lacks ts (i ∷ []) g h = not_true (has (set_or_empty (told_of ts i)) g) h
new_lacks ts (i ∷ j ∷ is) g h = meet_lacks (set_or_empty (told_of ts i)) (stable_of ts (j ∷ is)) g (not_true (has (set_or_empty (told_of ts i)) g) h)

-- ---- what is kept

kept_with : (s : Gtids) (ks : List KeptItem) (k : KeptItem) → has s k.gtid ≡ false → AreKept s ks → AreKept s (with_kept ks k)
kept_with s [] k h a = (h, tt)
kept_with s (x ∷ xs) k h a = by_order (item_lt k.item x.item) refl (kept_with s xs k h a.1)
  where
    by_order : (b : Bool) → item_lt k.item x.item ≡ b → AreKept s (with_kept xs k) → AreKept s (with_kept (x ∷ xs) k)
    by_order true e r = rw (e, with_kept) (h, a)
    by_order false e r = by_place (item_eq k.item x.item) refl
      where
        by_place : (b : Bool) → item_eq k.item x.item ≡ b → AreKept s (with_kept (x ∷ xs) k)
        by_place true f = rw (e, f, with_kept) (h, a.1)
        by_place false f = rw (e, f, with_kept) (a.0, r)

written_kept : (s : Gtids) (p : ℕ) (g : Gtid) (is : List Item) (ks : List KeptItem) → has s g ≡ false → AreKept s ks → AreKept s (written_by p g is ks)
written_kept s p g [] ks h a = a
written_kept s p g (i ∷ is) ks h a =
    let k : KeptItem = record { item = i; gtid = g; place = p } in
    written_kept s p g is (with_kept ks k) h (kept_with s ks k h a)

-- what a set leaves, it leaves again
pub left_kept : (s : Gtids) (ks : List KeptItem) → AreKept s (filter (λ k. not (has s k.gtid)) ks)
left_kept s [] = tt
left_kept s (k ∷ ks) = go (has s k.gtid) refl (left_kept s ks)
  where
    go : (b : Bool) → has s k.gtid ≡ b → AreKept s (filter (λ k. not (has s k.gtid)) ks) → AreKept s (filter (λ k. not (has s k.gtid)) (k ∷ ks))
    go true e r = rw (e, filter) r
    go false e r = rw (e, filter) (e, r)

kept_left : (s : Gtids) (ks : List KeptItem) → AreKept s ks → filter (λ k. not (has s k.gtid)) ks ≡ ks
kept_left s [] a = refl
kept_left s (k ∷ ks) a = rw (a.0, filter) (ap (λ (xs : List KeptItem). k ∷ xs) (kept_left s ks a.1))

nothing_left : (s : Gtids) (c : Certifying) → AreKept s c.certified.items → without_stable s c ≡ c
nothing_left s c a =
    let made : List KeptItem → Certifying = λ ks. record { group = c.group; block = c.block; certified = record { blocks = c.certified.blocks; last = c.certified.last; items = ks } } in
    ap made (kept_left s c.certified.items a)

pub settles : (s : Gtids) (c d : Certifying) → d ≡ without_stable s c → AreKept s d.certified.items
settles s c d e = subst (λ (d : Certifying). AreKept s d.certified.items) (sym e) (left_kept s c.certified.items)

verdict_kept : (ts : List ToldSet) (is : List Inc) (x : Limits) (p : ℕ) (m : Inc) (g : Gtid) (k : Option KeptItem) (t : AnyTxn) (bytes : List ℕ) (c : Certifier)
    → is_quiet ts (first_of is) (Txn t bytes) (verdict_by g k) ≡ true → AreKept (stable_of ts is) c.items
    → AreKept (stable_of ts is) (certified_by x p m (verdict_by g k) (Some (body.Txn t)) c).items
verdict_kept ts is x p m g None t bytes c q a = written_kept (stable_of ts is) p g t.items c.items (new_lacks ts is g q) a
verdict_kept ts is x p m g (Some k) t bytes c q a = a

held_kept : (ts : List ToldSet) (is : List Inc) (p : ℕ) (m : Inc) (h : Held) (c : Certifying) (seen : Effect)
    → is_quiet ts (first_of is) h (effect_held c m h seen) ≡ true → AreKept (stable_of ts is) c.certified.items
    → AreKept (stable_of ts is) (certified_held p m h c).certified.items
held_kept ts is p m (Txn t bytes) c seen q a = verdict_kept ts is (limits_of c) p m _ _ t bytes c.certified q a
held_kept ts is p m (PartHeld z) c seen q a = a
held_kept ts is p m (Other b) c seen q a = a
held_kept ts is p m Nothing c seen q a = a

-- ---- the members ONLINE

first_found : (ss : List Seat) → option_map (λ (s : Seat). s.joiner.inc) (find (λ s. is_online_state s.state) ss) ≡ first_of (seated (filter (λ s. is_online_state s.state) ss))
first_found [] = refl
first_found (s ∷ ss) = go (is_online_state s.state) refl (first_found ss)
  where
    go : (b : Bool) → is_online_state s.state ≡ b
        → option_map (λ (s : Seat). s.joiner.inc) (find (λ s. is_online_state s.state) ss) ≡ first_of (seated (filter (λ s. is_online_state s.state) ss))
        → option_map (λ (s : Seat). s.joiner.inc) (find (λ s. is_online_state s.state) (s ∷ ss)) ≡ first_of (seated (filter (λ s. is_online_state s.state) (s ∷ ss)))
    go true e r = rw (e, find, filter) refl
    go false e r = rw (e, find, filter) r

elected_online : (p : ℕ) (o : Option Joiner) (v : View) → online_incs (with_primary p o v) ≡ online_incs v
elected_online p None v = refl
elected_online p (Some j) v = refl

settled_online : (p : ℕ) (v : View) → online_incs (settled p v) ≡ online_incs v
settled_online p v = go (is_single v.mode && not (has_primary v v.primary)) refl
  where
    go : (t : Bool) → (is_single v.mode && not (has_primary v v.primary)) ≡ t → online_incs (settled p v) ≡ online_incs v
    go true e = rw (e, settled) (elected_online p (elect (joiners (online_seats v))) v)
    go false e = rw (e, settled) refl

-- a value that holds a body adds and removes none
body_online : (p : ℕ) (m : Inc) (x : What) (o : Option OpenParts) (t : Bool) (w : View) (b : Body) → held o x ≡ Some b
    → online_incs (next_view p m x None (effect_in w t x None) w) ≡ online_incs w
body_online p m Noop o t w b e = settled_online p w
body_online p m (Says bs) o t w b e = settled_online p w
body_online p m (Add j) o t w b e = cc
body_online p m (Remove i) o t w b e = cc

quiet_online : (p : ℕ) (m : Inc) (x : What) (o : Option OpenParts) (t : Bool) (w : View) (ts : List ToldSet) (i : Option Inc) (h : Held) (f : Effect) → Shows o (held o x) h → is_quiet ts i h f ≡ true
    → online_incs (next_view p m x (news_of h) (effect_in w t x (news_of h)) w) ≡ online_incs w
quiet_online p m x o t w ts i (Txn z bytes) f s q = body_online p m x o t w (body.Txn z) s.0
quiet_online p m x o t w ts i (PartHeld z) f s q = body_online p m x o t w (body.Part s.0) s.1
quiet_online p m x o t w ts i (Other b) f s q = cc
quiet_online p m x o t w ts i Nothing f s q = cc

quiet_told : (m : Inc) (ts us : List ToldSet) (i : Option Inc) (h : Held) (f : Effect) → is_quiet us i h f ≡ true → told_held m h ts ≡ ts
quiet_told m ts us i (Txn z bytes) f q = refl
quiet_told m ts us i (PartHeld z) f q = refl
quiet_told m ts us i (Other b) f q = cc
quiet_told m ts us i Nothing f q = cc

-- ---- the whole

-- while an entry is taken, nothing is known
pub unsettled : {A : Type 0} → false ≡ true → A
unsettled e = cc

pub nothing_to_forget : (was : Bool) (p : ℕ) (m : Inc) (x : What) (o : Option OpenParts) (b : Bool) (h : Held) (n : Option Body) (w v : View) (ts us : List ToldSet) (c d : Certifying) (seen f : Effect)
    → n ≡ news_of h → Shows o (held o x) h
    → v ≡ next_view p m x n (effect_in w b x n) w
    → d ≡ certified_held p m h c
    → us ≡ told_held m h ts
    → f ≡ effect_held c m h seen
    → (was ≡ true → AreKept (stable_of ts (online_incs w)) c.certified.items)
    → (was && is_quiet us (first_online v) h f) ≡ true
    → without_stable (stable_of us (online_incs v)) d ≡ d
nothing_to_forget false p m x o b h n w v ts us c d seen f nh s vh dh uh fh a q = cc
nothing_to_forget true p m x o b h n w v ts us c d seen f nh s vh dh uh fh a q' =
    let q : is_quiet us (first_of (online_incs v)) h f ≡ true = ap (λ (i : Option Inc). is_quiet us i h f) (sym (first_found v.seats)) ∙ q' in
    let online : online_incs v ≡ online_incs w =
    ap online_incs (vh ∙ ap (λ (n : Option Body). next_view p m x n (effect_in w b x n) w) nh) ∙ quiet_online p m x o b w us (first_of (online_incs v)) h f s q in
    let told : us ≡ ts = uh ∙ quiet_told m ts us (first_of (online_incs v)) h f q in
    let stable : stable_of us (online_incs v) ≡ stable_of ts (online_incs w) = ap (λ (us : List ToldSet). stable_of us (online_incs v)) told ∙ ap (stable_of ts) online in
    let quiet : is_quiet us (first_of (online_incs v)) h (effect_held c m h seen) ≡ true = ap (is_quiet us (first_of (online_incs v)) h) (sym fh) ∙ q in
    let before : AreKept (stable_of us (online_incs v)) c.certified.items = subst (λ (s : Gtids). AreKept s c.certified.items) (sym stable) (a refl) in
    let after : AreKept (stable_of us (online_incs v)) (certified_held p m h c).certified.items = held_kept us (online_incs v) p m h c seen quiet before in
    nothing_left (stable_of us (online_incs v)) d (subst (λ (d : Certifying). AreKept (stable_of us (online_incs v)) d.certified.items) (sym dh) after)
