-- The holds of a history, thing by thing.
use Rattle.std.proofs.Common.{◌≡◌, ◌≤◌, ℕ, suc, ◌+◌, Bool, true, false, ◌&&◌, not, Option, Some, None, List, [], ◌∷◌, map, refl, sym, ap, subst, ◌∙◌, arith, le-leb, eq-eqb}
use Rattle.std.specs.Prelude.{IfSome, min, nat_le, is_some, ◌==◌}
use Rattle.std.specs.Option.{option_map}
use Rattle.std.proofs.lemmas.Bool.{eqb-true, eqb-false, true≢false}
use Rattle.gr_ids.specs.Names.{inc_eq, id_eq, is_id}
use Rattle.gr_ids.specs.declared.levels.Level.{Level}
use Rattle.gr_ids.specs.declared.names.Inc.{Inc}
use Rattle.gr_ids.specs.declared.names.ValueId.{ValueId}
use Rattle.node_rules.proofs.Incs.{inc_back}
use Rattle.gtid_sets.specs.Sets.{Gtids}
use Rattle.group_rules.specs.Events.{AskFails, AsksCommit, Answered, Begun, Called, Came, Changed, Calls, Committed, Did, Done, Ends, Enters, Entry, Founds, Gave, Hears, Is, Life, Made, Operates, Replied, Restores, Setup, Skips, Starts, Ticks, Took, Works}
use Rattle.group_rules.specs.Life.{last_made, own_place}
use Rattle.group_rules.specs.Holds.{conditions, has_sync, sync_place, sync_then}
use Rattle.group_rules.specs.Sessions.{Call, is_holding, last_call, one_tick, phase, sessions}
use Rattle.consistency_waits.specs.Following.{HeldOf, held_by, hold_of, touches}
use Rattle.consistency_waits.specs.Holding.{Held, held_in, is_held, last_tick, new_hold, placed, ticked, with_hold, without}
use Rattle.consistency_waits.proofs.Ascending.{Keeps, all_filter, all_map, all_with, ascend_filter, ascend_map, ascend_with}
use Rattle.consistency_waits.proofs.Known.{has_session, known}
use Rattle.consistency_waits.proofs.Finding.{held_is, held_none, in_map, in_with, in_without, others_stay}

-- ---- the hold of a call

abbrev pub held_from : Setup → Inc → Life → ℕ → Bool → Option Call → Option Held
held_from s me l t b o = elim b [ true ↦ option_map (hold_of s me l t) o | false ↦ None ]

-- whose Sync stands where it stood
abbrev SamePlaces : Inc → Life → Life → Type 0
SamePlaces me m l = (n : ℕ) → own_place m me n ≡ own_place l me n

sync_same : (me : Inc) (m l : Life) (o : Option ValueId) → SamePlaces me m l → sync_place me o m ≡ sync_place me o l
sync_same me m l None h = refl
sync_same me m l (Some i) h = h i.number

abbrev at_sync : Held → Option ℕ → Held
at_sync h p = record h { sync_place = p }

hold_same : (s : Setup) (me : Inc) (m l : Life) (t : ℕ) (c : Call) → SamePlaces me m l → hold_of s me m t c ≡ hold_of s me l t c
hold_same s me m l t c h = ap (at_sync (hold_of s me l t c)) (sync_same me m l (conditions s me c.level c.past).sync h)

from_same : (s : Setup) (me : Inc) (m l : Life) (t : ℕ) (b : Bool) (o : Option Call) → SamePlaces me m l → held_from s me m t b o ≡ held_from s me l t b o
from_same s me m l t false o h = refl
from_same s me m l t true None h = refl
from_same s me m l t true (Some c) h = ap Some (hold_same s me m l t c h)

pub same : (s : Setup) (me : Inc) (m l : Life) (t : ℕ) → is_holding (phase m t) ≡ is_holding (phase l t) → last_call m t ≡ last_call l t → SamePlaces me m l → held_by s me m t ≡ held_by s me l t
same s me m l t p c h =
    ap (λ (b : Bool). held_from s me m t b (last_call m t)) p
    ∙ (ap (λ (o : Option Call). held_from s me m t (is_holding (phase l t)) o) c ∙ from_same s me m l t (is_holding (phase l t)) (last_call l t) h)

-- ---- nothing, and what touches none

pub none : (s : Setup) (me : Inc) → HeldOf s me [] []
none s me = record { holds = λ t. refl; up = refl; limits = refl }

stays : (s : Setup) (me : Inc) (m l : Life) (hs : List Held) → HeldOf s me l hs → ((t : ℕ) → is_holding (phase m t) ≡ is_holding (phase l t)) → ((t : ℕ) → last_call m t ≡ last_call l t) → SamePlaces me m l → HeldOf s me m hs
stays s me m l hs f p c h = record { holds = λ t. f.holds t ∙ sym (same s me m l t (p t) (c t) h); up = f.up; limits = f.limits }

pub passes : (s : Setup) (me : Inc) (l : Life) (hs : List Held) (d : Did) → touches d ≡ false → HeldOf s me l hs → HeldOf s me (d ∷ l) hs
passes s me l hs Founds h f = stays s me (Founds ∷ l) l hs f (λ u. refl) (λ u. refl) (λ k. refl)
passes s me l hs (Starts x) h f = stays s me (Starts x ∷ l) l hs f (λ u. refl) (λ u. refl) (λ k. refl)
passes s me l hs (Came (Hears m)) h f = stays s me (Came (Hears m) ∷ l) l hs f (λ u. refl) (λ u. refl) (λ k. refl)
passes s me l hs (Came (Works p b)) h f = stays s me (Came (Works p b) ∷ l) l hs f (λ u. refl) (λ u. refl) (λ k. refl)
passes s me l hs (Came (Calls n r)) h f = stays s me (Came (Calls n r) ∷ l) l hs f (λ u. refl) (λ u. refl) (λ k. refl)
passes s me l hs (Came (Operates o)) h f = stays s me (Came (Operates o) ∷ l) l hs f (λ u. refl) (λ u. refl) (λ k. refl)
passes s me l hs (Made v y) h f = stays s me (Made v y ∷ l) l hs f (λ u. refl) (λ u. refl) (λ k. refl)
passes s me l hs (Skips t v) h f = stays s me (Skips t v ∷ l) l hs f (λ u. refl) (λ u. refl) (λ k. refl)
passes s me l hs (Done p) h f = stays s me (Done p ∷ l) l hs f (λ u. refl) (λ u. refl) (λ k. refl)
passes s me l hs (Committed g) h f = stays s me (Committed g ∷ l) l hs f (λ u. refl) (λ u. refl) (λ k. refl)
passes s me l hs (Is m c) h f = stays s me (Is m c ∷ l) l hs f (λ u. refl) (λ u. refl) (λ k. refl)
passes s me l hs (Gave p n) h f = stays s me (Gave p n ∷ l) l hs f (λ u. refl) (λ u. refl) (λ k. refl)
passes s me l hs (Answered n a) h f = stays s me (Answered n a ∷ l) l hs f (λ u. refl) (λ u. refl) (λ k. refl)
passes s me l hs (Changed n c) h f = stays s me (Changed n c ∷ l) l hs f (λ u. refl) (λ u. refl) (λ k. refl)
passes s me l hs (Replied r) h f = stays s me (Replied r ∷ l) l hs f (λ u. refl) (λ u. refl) (λ k. refl)
passes s me l hs (Enters w) h f = stays s me (Enters w ∷ l) l hs f (λ u. refl) (λ u. refl) (λ k. refl)
passes s me l hs (Restores g cs) h f = stays s me (Restores g cs ∷ l) l hs f (λ u. refl) (λ u. refl) (λ k. refl)
passes s me l hs AskFails h f = stays s me (AskFails ∷ l) l hs f (λ u. refl) (λ u. refl) (λ k. refl)
passes s me l hs (Came Ticks) h f = cc
passes s me l hs (Took e) h f = cc
passes s me l hs (Begun n e y) h f = cc
passes s me l hs (Called n v w) h f = cc
passes s me l hs (AsksCommit n i) h f = cc
passes s me l hs (Ends n) h f = cc

-- ---- a begin call

fits : (n m : ℕ) → n ≤ m → nat_le n m ≡ true
fits n m h = le-leb n m h

at_zero : min 0 last_tick ≡ 0
at_zero = omega arith

-- its Sync isn't taken yet
not_taken : (me : Inc) (v : Level) (l m : Life) → SamePlaces me m l → own_place l me (suc (last_made l)) ≡ None → sync_place me (sync_then me v l) m ≡ None
not_taken me v l m same n = go (has_sync v) refl
  where
    go : (b : Bool) → has_sync v ≡ b → sync_place me (sync_then me v l) m ≡ None
    go true e = rw (sync_then, e) (same (suc (last_made l)) ∙ n)
    go false e = rw (sync_then, e) refl

abbrev with_three : Held → ℕ → Option ℕ → ℕ → Held
with_three h t p k = record h { session = t; sync_place = p; ticks = k }

new_is : (s : Setup) (me : Inc) (l : Life) (t u : ℕ) (v : Level) (w : ℕ) → t ≡ u → own_place l me (suc (last_made l)) ≡ None
    → new_hold t (conditions s me v l) w ≡ hold_of s me (Called t v w ∷ l) u (record { level = v; limit = w; past = l; ticks = 0 })
new_is s me l t u v w e n =
    let h : Held = new_hold t (conditions s me v l) w in
    ap (λ (z : ℕ). with_three h z None 0) e
    ∙ (ap (λ (p : Option ℕ). with_three h u p 0) (sym (not_taken me v l (Called t v w ∷ l) (λ k. refl) n)) ∙ ap (with_three h u (sync_place me (sync_then me v l) (Called t v w ∷ l))) (sym at_zero))

pub calls : (s : Setup) (me : Inc) (l : Life) (hs : List Held) (t : ℕ) (v : Level) (w : ℕ) → HeldOf s me l hs → is_holding (phase l t) ≡ false → own_place l me (suc (last_made l)) ≡ None → w ≤ last_tick
    → HeldOf s me (Called t v w ∷ l) (with_hold hs (new_hold t (conditions s me v l) w))
calls s me l hs t v w f p n b =
    record {
      holds = λ u. in_with hs h u apart ∙ one u (t == u) refl;
      up = ascend_with hs h f.up apart;
      limits = all_with (λ x. nat_le x.limit last_tick) hs h (fits w last_tick b) f.limits;
    }
  where
    h : Held
    h = new_hold t (conditions s me v l) w

    apart : is_held hs t ≡ false
    apart = held_none hs t (f.holds t ∙ (rw (held_by, p) refl))

    one : (u : ℕ) (b : Bool) → (t == u) ≡ b → (elim (t == u) [ true ↦ Some (new_hold t (conditions s me v l) w) | false ↦ held_in hs u ]) ≡ held_by s me (Called t v w ∷ l) u
    one u true e =
        let c : Call = record { level = v; limit = w; past = l; ticks = 0 } in
        let q : is_holding (phase (Called t v w ∷ l) u) ≡ true = rw (phase, e) refl in
        let z : last_call (Called t v w ∷ l) u ≡ Some c = rw (last_call, e) refl in
        let now : held_by s me (Called t v w ∷ l) u ≡ Some (hold_of s me (Called t v w ∷ l) u c) =
        ap (λ (b : Bool). held_from s me (Called t v w ∷ l) u b (last_call (Called t v w ∷ l) u)) q ∙ ap (held_from s me (Called t v w ∷ l) u true) z in
        rw e (ap Some (new_is s me l t u v w (eqb-true t u e) n) ∙ sym now)
    one u false e =
        let q : is_holding (phase (Called t v w ∷ l) u) ≡ is_holding (phase l u) = rw (phase, e) refl in
        let c : last_call (Called t v w ∷ l) u ≡ last_call l u = rw (last_call, e) refl in
        rw e (f.holds u ∙ sym (same s me (Called t v w ∷ l) l u q c (λ k. refl)))

-- ---- a begin, an end, a commit that is asked

leaves : (s : Setup) (me : Inc) (l m : Life) (hs : List Held) (t : ℕ) → HeldOf s me l hs → ((u : ℕ) → (t == u) ≡ true → is_holding (phase m u) ≡ false) → ((u : ℕ) → (t == u) ≡ false → phase m u ≡ phase l u)
    → ((u : ℕ) → last_call m u ≡ last_call l u) → SamePlaces me m l → HeldOf s me m (without t hs)
leaves s me l m hs t f gone others c h =
    record {
      holds = λ u. in_without hs t u ∙ one u (t == u) refl;
      up = ascend_filter (λ x. not (x.session == t)) hs f.up;
      limits = all_filter (λ x. not (x.session == t)) (λ x. nat_le x.limit last_tick) hs f.limits;
    }
  where
    one : (u : ℕ) (b : Bool) → (t == u) ≡ b → (elim (t == u) [ true ↦ None | false ↦ held_in hs u ]) ≡ held_by s me m u
    one u true e = let g : is_holding (phase m u) ≡ false = gone u e in rw (held_by, e, g) refl
    one u false e = rw e (f.holds u ∙ sym (same s me m l u (ap is_holding (others u e)) (c u) h))

pub begun : (s : Setup) (me : Inc) (l : Life) (hs : List Held) (t : ℕ) (e : Gtids) (y : Option ℕ) → HeldOf s me l hs → HeldOf s me (Begun t e y ∷ l) (without t hs)
begun s me l hs t e y f = leaves s me l (Begun t e y ∷ l) hs t f (λ u k. rw (phase, k) refl) (λ u k. rw (phase, k) refl) (λ u. refl) (λ n. refl)

pub ended : (s : Setup) (me : Inc) (l : Life) (hs : List Held) (t : ℕ) → HeldOf s me l hs → HeldOf s me (Ends t ∷ l) (without t hs)
ended s me l hs t f = leaves s me l (Ends t ∷ l) hs t f (λ u k. rw (phase, k) refl) (λ u k. rw (phase, k) refl) (λ u. refl) (λ n. refl)

pub others : (s : Setup) (me : Inc) (l : Life) (hs : List Held) (t : ℕ) → HeldOf s me l hs → is_holding (phase l t) ≡ false → without t hs ≡ hs
others s me l hs t f p = others_stay hs t (held_none hs t (f.holds t ∙ (rw (held_by, p) refl)))

pub asked : (s : Setup) (me : Inc) (l : Life) (hs : List Held) (t : ℕ) (i : ValueId) → HeldOf s me l hs → is_holding (phase l t) ≡ false → HeldOf s me (AsksCommit t i ∷ l) hs
asked s me l hs t i f p =
    subst (λ (xs : List Held). HeldOf s me (AsksCommit t i ∷ l) xs) (others s me l hs t f p)
    (leaves s me l (AsksCommit t i ∷ l) hs t f (λ u k. rw (phase, k) refl) (λ u k. rw (phase, k) refl) (λ u. refl) (λ n. refl))

-- ---- a change of each hold

changes_each : (s : Setup) (me : Inc) (l m : Life) (g : Held → Held) (hs : List Held) → HeldOf s me l hs → Keeps g → ((h : Held) → (g h).limit ≡ h.limit)
    → ((t : ℕ) → option_map g (held_by s me l t) ≡ held_by s me m t) → HeldOf s me m (map g hs)
changes_each s me l m g hs f k b e =
    record {
      holds = λ t. in_map g hs t k ∙ (ap (option_map g) (f.holds t) ∙ e t);
      up = ascend_map g hs k ∙ f.up;
      limits = all_map g (λ h. nat_le h.limit last_tick) hs (λ h. ap (λ n. nat_le n last_tick) (b h)) ∙ f.limits;
    }

-- ---- a tick

tick_capped : (n : ℕ) → min (min n last_tick + 1) last_tick ≡ min (suc n) last_tick
tick_capped n = omega arith

abbrev at_tick : Held → Option ℕ → ℕ → Held
at_tick h p n = record h { sync_place = p; ticks = n }

tick_from : (s : Setup) (me : Inc) (l : Life) (t : ℕ) (b : Bool) (o : Option Call) → option_map ticked (held_from s me l t b o) ≡ held_from s me (Came Ticks ∷ l) t b (one_tick o)
tick_from s me l t false o = refl
tick_from s me l t true None = refl
tick_from s me l t true (Some c) =
    let h : Held = hold_of s me l t c in
    ap (λ (n : ℕ). Some (at_tick h h.sync_place n)) (tick_capped c.ticks)
    ∙ ap (λ (p : Option ℕ). Some (at_tick h p (min (suc c.ticks) last_tick))) (sym (sync_same me (Came Ticks ∷ l) l (conditions s me c.level c.past).sync (λ n. refl)))

pub ticks : (s : Setup) (me : Inc) (l : Life) (hs : List Held) → HeldOf s me l hs → HeldOf s me (Came Ticks ∷ l) (map ticked hs)
ticks s me l hs f = changes_each s me l (Came Ticks ∷ l) ticked hs f (λ h. refl) (λ h. refl) (λ t. tick_from s me l t (is_holding (phase l t)) (last_call l t))

-- ---- an entry

-- the Sync of a begin is an own value
abbrev IsOwn : Inc → Option ValueId → Type 0
IsOwn me o = IfSome o (λ i. i.origin ≡ me)

own_sync : (me : Inc) (v : Level) (l : Life) → IsOwn me (sync_then me v l)
own_sync me v l = go (has_sync v)
  where
    go : (b : Bool) → IsOwn me (elim b [ true ↦ Some (record { origin = me; number = suc (last_made l) }) | false ↦ None ])
    go true = refl
    go false = _

turned : (a b : ℕ) → (a == b) ≡ (b == a)
turned a b = go (a == b) refl
  where
    go : (u : Bool) → (a == b) ≡ u → (a == b) ≡ (b == a)
    go true e = let same : b ≡ a = sym (eqb-true a b e) in e ∙ sym (eq-eqb b a same)
    go false e = go_back (b == a) refl e
      where
        go_back : (u : Bool) → (b == a) ≡ u → (a == b) ≡ false → (a == b) ≡ (b == a)
        go_back true g k = absurd (eqb-false a b k (sym (eqb-true b a g)))
        go_back false g k = k ∙ sym g

-- it is the entry's value, or another one
sync_at : (me : Inc) (o : Option ValueId) (e : Entry) (l : Life) → IsOwn me o → sync_place me o (Took e ∷ l) ≡ (elim (is_id o e.value.id) [ true ↦ Some e.place | false ↦ sync_place me o l ])
sync_at me None e l h = refl
sync_at me (Some i) e l h =
    let origins : inc_eq e.value.id.origin me ≡ inc_eq i.origin e.value.id.origin = inc_back e.value.id.origin me ∙ ap (λ (j : Inc). inc_eq j e.value.id.origin) (sym h) in
    let both : (inc_eq e.value.id.origin me && (e.value.id.number == i.number)) ≡ id_eq i e.value.id =
    ap (λ (b : Bool). b && (e.value.id.number == i.number)) origins ∙ ap (λ (b : Bool). inc_eq i.origin e.value.id.origin && b) (turned e.value.id.number i.number) in
    ap (λ (b : Bool). elim b [ true ↦ Some e.place | false ↦ own_place l me i.number ]) both

placed_at : (i : ValueId) (p : ℕ) (h : Held) → placed i p h ≡ at_sync h (elim (is_id h.conditions.sync i) [ true ↦ Some p | false ↦ h.sync_place ])
placed_at i p h = go (is_id h.conditions.sync i) refl
  where
    go : (b : Bool) → is_id h.conditions.sync i ≡ b → placed i p h ≡ at_sync h (elim (is_id h.conditions.sync i) [ true ↦ Some p | false ↦ h.sync_place ])
    go true e = rw (placed, e) refl
    go false e = rw (placed, e) refl

pub keeps_session : (i : ValueId) (p : ℕ) → Keeps (placed i p)
keeps_session i p h = ap (λ (x : Held). x.session) (placed_at i p h)

take_from : (s : Setup) (me : Inc) (l : Life) (e : Entry) (t : ℕ) (b : Bool) (o : Option Call) → option_map (placed e.value.id e.place) (held_from s me l t b o) ≡ held_from s me (Took e ∷ l) t b o
take_from s me l e t false o = refl
take_from s me l e t true None = refl
take_from s me l e t true (Some c) =
    let h : Held = hold_of s me l t c in
    ap Some (placed_at e.value.id e.place h ∙ ap (at_sync h) (sym (sync_at me (sync_then me c.level c.past) e l (own_sync me c.level c.past))))

pub takes : (s : Setup) (me : Inc) (l : Life) (hs : List Held) (e : Entry) → HeldOf s me l hs → HeldOf s me (Took e ∷ l) (map (placed e.value.id e.place) hs)
takes s me l hs e f =
    changes_each s me l (Took e ∷ l) (placed e.value.id e.place) hs f (keeps_session e.value.id e.place) (λ h. ap (λ (x : Held). x.limit) (placed_at e.value.id e.place h))
    (λ t. take_from s me l e t (is_holding (phase l t)) (last_call l t))

-- one of another origin
pub foreign : (s : Setup) (me : Inc) (l : Life) (hs : List Held) (e : Entry) → HeldOf s me l hs → inc_eq e.value.id.origin me ≡ false → HeldOf s me (Took e ∷ l) hs
foreign s me l hs e f o = stays s me (Took e ∷ l) l hs f (λ t. refl) (λ t. refl) (λ n. rw (own_place, o) refl)

-- ---- the code's test

some_map : {A B : Type 0} (g : A → B) (o : Option A) → is_some (option_map g o) ≡ is_some o
some_map g None = refl
some_map g (Some x) = refl

pub held_told : (s : Setup) (me : Inc) (l : Life) (hs : List Held) (t : ℕ) → HeldOf s me l hs → is_held hs t ≡ is_holding (phase l t)
held_told s me l hs t f = held_is hs t ∙ (ap is_some (f.holds t) ∙ go (is_holding (phase l t)) refl)
  where
    go : (b : Bool) → is_holding (phase l t) ≡ b → is_some (held_by s me l t) ≡ is_holding (phase l t)
    go false e = rw (held_by, e) refl
    go true e = rw (held_by, e) (some_map (hold_of s me l t) (last_call l t) ∙ (known l t e).0)

-- a session that is held has begun
pub among_known : (s : Setup) (me : Inc) (l : Life) (hs : List Held) → HeldOf s me l hs → (t : ℕ) → is_some (held_in hs t) ≡ true → has_session (sessions l) t ≡ true
among_known s me l hs f t n = (known l t (sym (held_told s me l hs t f) ∙ (held_is hs t ∙ n))).1

pub unknown_none : (s : Setup) (me : Inc) (l : Life) (hs : List Held) (t : ℕ) → HeldOf s me l hs → has_session (sessions l) t ≡ false → held_in hs t ≡ None
unknown_none s me l hs t f n = go (held_in hs t) refl
  where
    go : (o : Option Held) → held_in hs t ≡ o → held_in hs t ≡ None
    go None e = e
    go (Some h) e = absurd (true≢false (sym (among_known s me l hs f t (ap is_some e)) ∙ n))
