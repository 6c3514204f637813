-- At a point those begin whose conditions hold.
use Rattle.std.proofs.Common.{◌≡◌, ℕ, Bool, true, false, Option, Some, None, List, [], ◌∷◌, map, filter, refl, sym, ap, subst, ◌∙◌}
use Rattle.std.specs.Prelude.{◌==◌}
use Rattle.std.specs.List.{list_any}
use Rattle.gr_ids.specs.declared.names.Inc.{Inc}
use Rattle.gtid_sets.specs.Sets.{Gtids}
use Rattle.group_rules.specs.declared.holds.Pending.{Pending}
use Rattle.group_rules.specs.Events.{Begun, Setup}
use Rattle.group_rules.specs.Life.{executed}
use Rattle.group_rules.specs.Holds.{standing}
use Rattle.group_rules.specs.Member.{Member, for_each, push}
use Rattle.group_rules.specs.Points.{begin_all, begin_by, begin_one}
use Rattle.group_rules.specs.Sessions.{Call, is_holding, last_call, phase, sessions}
use Rattle.consistency_waits.specs.Following.{HeldOf, begins}
use Rattle.consistency_waits.specs.Holding.{Held, held_in, is_due, released_as, without}
use Rattle.consistency_waits.proofs.Acts.{act, chosen, each_acts, either, held_at, if_so, merged}
use Rattle.consistency_waits.proofs.Chosen.{fails, left_over, not_any, sessions_of, without_all}
use Rattle.consistency_waits.proofs.Histories.{among_known, begun, held_from, same}
use Rattle.consistency_waits.proofs.Known.{sessions_rise}

abbrev begins_now : Gtids → Held → Member → Member
begins_now e h a = push (Begun h.session e h.sync_place) a

abbrev begins_if : Gtids → List Pending → Held → Member → Member
begins_if e p h a = if_so (is_due p) (begins_now e) h a

-- ---- one session

begin_from : (a : Member) (t : ℕ) (b : Bool) (o : Option Call)
    → (elim b [ true ↦ begin_by t o a | false ↦ a ]) ≡ act (begins_if (executed a.life) (standing a.life)) (held_from a.setup a.me.inc a.life t b o) a
begin_from a t false o = refl
begin_from a t true None = refl
begin_from a t true (Some c) = refl

-- what is executed and what is pending then
abbrev Now : Gtids → List Pending → Member → Type 0
Now e p a = (executed a.life ≡ e) × (standing a.life ≡ p)

one_begins : (e : Gtids) (p : List Pending) (hs : List Held) (a : Member) (t : ℕ) → Now e p a → held_at a t ≡ held_in hs t → begin_one t a ≡ act (begins_if e p) (held_in hs t) a
one_begins e p hs a t n k =
    begin_from a t (is_holding (phase a.life t)) (last_call a.life t)
    ∙ (ap (λ (o : Option Held). act (begins_if (executed a.life) (standing a.life)) o a) k
    ∙ (ap (λ (x : Gtids). act (begins_if x (standing a.life)) (held_in hs t) a) n.0 ∙ ap (λ (x : List Pending). act (begins_if e x) (held_in hs t) a) n.1))

keeps_now : (e : Gtids) (p : List Pending) (a : Member) (h : Held) → Now e p a → Now e p (begins_if e p h a)
keeps_now e p a h n = either (Now e p) (is_due p) (begins_now e) h a (n.0, n.1) n

keeps_others : (e : Gtids) (p : List Pending) (a : Member) (h : Held) (t : ℕ) → (h.session == t) ≡ false → held_at (begins_if e p h a) t ≡ held_at a t
keeps_others e p a h t n = either (λ b. held_at b t ≡ held_at a t) (is_due p) (begins_now e) h a begins_other refl
  where
    other : phase (Begun h.session e h.sync_place ∷ a.life) t ≡ phase a.life t
    other = rw (phase, n) refl

    begins_other : held_at (begins_now e h a) t ≡ held_at a t
    begins_other = same a.setup a.me.inc (Begun h.session e h.sync_place ∷ a.life) a.life t (ap is_holding other) refl (λ k. refl)

-- ---- all

told : (e : Gtids) (hs : List Held) (a : Member) → for_each (begins_now e) hs a ≡ begins e (map released_as hs) a
told e [] a = refl
told e (h ∷ hs) a = told e hs (begins_now e h a)

by_hold : (a : Member) (hs : List Held) → HeldOf a.setup a.me.inc a.life hs → begin_all a ≡ for_each (begins_now (executed a.life)) (filter (is_due (standing a.life)) hs) a
by_hold a hs f =
    let e : Gtids = executed a.life in
    let p : List Pending = standing a.life in
    each_acts begin_one (begins_if e p) (Now e p) hs (one_begins e p hs) (keeps_now e p) (keeps_others e p) (sessions a.life) a (sessions_rise a.life) (refl, refl) (λ t m. sym (f.holds t))
    ∙ (merged (begins_if e p) (sessions a.life) hs a (sessions_rise a.life) f.up (among_known a.setup a.me.inc a.life hs f) ∙ chosen (is_due p) (begins_now e) hs a)

pub all_begin : (a : Member) (hs : List Held) → HeldOf a.setup a.me.inc a.life hs → begin_all a ≡ begins (executed a.life) (map released_as (filter (is_due (standing a.life)) hs)) a
all_begin a hs f = by_hold a hs f ∙ told (executed a.life) (filter (is_due (standing a.life)) hs) a

-- ---- those that are left

pub ends_all : (s : Setup) (me : Inc) (k : Held → Member → Member) → ((a : Member) (h : Held) (hs : List Held) → HeldOf s me a.life hs → HeldOf s me (k h a).life (without h.session hs))
    → (ts : List Held) (a : Member) (hs : List Held) → HeldOf s me a.life hs → HeldOf s me (for_each k ts a).life (without_all (sessions_of ts) hs)
ends_all s me k one [] a hs f = f
ends_all s me k one (h ∷ ts) a hs f = ends_all s me k one ts (k h a) (without h.session hs) (one a h hs f)

pub left_held : (a : Member) (hs : List Held) → HeldOf a.setup a.me.inc a.life hs → HeldOf a.setup a.me.inc (begin_all a).life (filter (fails (is_due (standing a.life))) hs)
left_held a hs f =
    let e : Gtids = executed a.life in
    let q : Held → Bool = is_due (standing a.life) in
    let s : Setup = a.setup in
    let me : Inc = a.me.inc in
    subst (λ (b : Member). HeldOf s me b.life (filter (fails q) hs)) (sym (by_hold a hs f))
    (subst (λ (ks : List Held). HeldOf s me (for_each (begins_now e) (filter q hs) a).life ks) (left_over q hs f.up)
    (ends_all s me (begins_now e) (λ b h ks g. begun s me b.life ks h.session e h.sync_place g) (filter q hs) a hs f))

pub idle : (a : Member) (hs : List Held) → HeldOf a.setup a.me.inc a.life hs → list_any (is_due (standing a.life)) hs ≡ false → begin_all a ≡ a
idle a hs f n = all_begin a hs f ∙ ap (λ (ks : List Held). begins (executed a.life) (map released_as ks) a) (not_any (is_due (standing a.life)) hs n)
