-- A group that is founded.
use Rattle.std.proofs.Common.{◌≡◌, ◌⊎◌, inl, inr, ℕ, zero, suc, ◌<◌, ◌≤◌, ◌/◌, ◌*◌, ◌+◌, ◌%◌, Bool, true, false, Some, None, Option, List, [], ◌∷◌, ◌++◌, append-nil, append_assoc, length, refl, sym, ap, subst, ◌∙◌, arith}
use Rattle.std.specs.Prelude.{◌==◌, ◌||◌, ◌&&◌, not, is_some, nat_lt}
use Rattle.std.specs.List.{list_any}
use Rattle.std.proofs.lemmas.Bool.Decides.{nat_tests}
use Rattle.byte_forms.specs.Lists.{IsChain}
use Rattle.gr_ids.specs.Names.{bytes_eq, inc_lt}
use Rattle.gr_ids.specs.declared.levels.MemberState.TheVariants.{Online}
use Rattle.gr_ids.specs.declared.names.Inc.{Inc}
use Rattle.gtid_sets.specs.Canonical.{IsUuid}
use Rattle.name_forms.specs.Incs.{IsIncAfter}
use Rattle.slot_values.specs.declared.value.Joiner.{Joiner}
use Rattle.node_rules.specs.Lists.{In}
use Rattle.group_rules.specs.declared.marks.Cause.TheVariants.{Founded}
use Rattle.group_rules.specs.declared.marks.Mark.TheVariants.{State}
use Rattle.group_rules.specs.declared.said.Said.{Said}
use Rattle.group_rules.specs.declared.said.Said.TheVariants.{Marked}
use Rattle.group_rules.specs.Events.{Setup}
use Rattle.group_rules.specs.Life.{stored}
use Rattle.group_rules.specs.Script.{Play, founder_by, founders, plays, said_of, with_joiner}
use Rattle.group_rules.specs.Steps.{found}
use Rattle.group_rules.specs.World.{Founds, Server, World, default_uuid, dids, found_all, found_at, has_uuid, is_default_of_other, is_group_taken, move, nothing_happens, nothing_stored, server_at, with_server}
use Rattle.group_runs.specs.Runs.{Apart, IsSetup}
use Rattle.member_ranges.specs.Ranges.{IsFounderAfter, IsFounding, setup_with}
use Rattle.gr_ids.specs.declared.limits.Limits.{Limits}
use Rattle.gr_ids.specs.declared.levels.Mode.{Mode}
use Rattle.play_runs.specs.Runs.{IsRun}
use Rattle.group_world.specs.Founding.{AreFounded, IsWithin}
use Rattle.group_world.specs.Sites.{AreSites}
use Rattle.group_world.specs.Standing.{Along, AreDeclared, setup_in}
use Rattle.world_servers.specs.Naming.{AreOf}
use Rattle.group_world.specs.declared.founding.Founding.{Founding}
use Rattle.group_world.specs.declared.stage.Stage.{Stage}
use Rattle.group_world.proofs.Finding.{at_in}
use Rattle.group_world.proofs.Servers.{in_with, rises_with}
use Rattle.group_world.proofs.Still.{still}

abbrev pub FoundedRuns : Type 0
FoundedRuns = (w : World) (t : Setup) → IsSetup t → IsRun w → IsRun (move (Founds t) w)

-- ---- the founders

in_joined : (k j : Joiner) (js : List Joiner) → In k (with_joiner js j) → (j ≡ k) ⊎ In k js
in_joined k j [] h = h
in_joined k j (x ∷ xs) h = go (nat_lt j.inc.server x.inc.server) h (in_joined k j xs)
  where
    go : (b : Bool) → In k (elim b [ true ↦ j ∷ x ∷ xs | false ↦ x ∷ with_joiner xs j ]) → (In k (with_joiner xs j) → (j ≡ k) ⊎ In k xs) → (j ≡ k) ⊎ In k (x ∷ xs)
    go true i r = i
    go false (inl e) r = inr (inl e)
    go false (inr i) r = elim (r i) [ inl e ↦ inl e | inr z ↦ inr (inr z) ]

-- each is the founder of a number
founder_of : (w : World) (ns : List ℕ) (j : Joiner) → In j (founders w ns) → (n : ℕ) × (founder_by n (server_at w n) ≡ j)
founder_of w [] j h = absurd h
founder_of w (n ∷ ns) j h = elim (in_joined j (founder_by n (server_at w n)) (founders w ns) h) [ inl e ↦ (n, e) | inr k ↦ founder_of w ns j k ]

-- what is known of a founder
record Fits (g : List ℕ) (j : Joiner) : Type 0 where
  first : j.inc.start ≡ 1
  uuid : IsUuid j.uuid
  other : bytes_eq j.uuid g ≡ false

default_is_uuid : (n : ℕ) → n ≤ 32 → IsUuid (default_uuid n)
default_is_uuid n h = record { long = refl; bytes = let small : nat_lt ((n / 10) * 16 + n % 10) 256 ≡ true = grind (arith, nat_tests) in rw small refl }

no_default : (g : List ℕ) (n k : ℕ) → is_default_of_other g 0 k ≡ false → 1 ≤ n → n ≤ k → bytes_eq (default_uuid n) g ≡ false
no_default g n zero h above below = absurd (omega (arith, above, below))
no_default g n (suc k) h above below = go (n == suc k) refl (no_default g n k)
  where
    or_left : (b c : Bool) → (b || c) ≡ false → b ≡ false
    or_left true c e = e
    or_left false c e = refl

    or_right : (b c : Bool) → (b || c) ≡ false → c ≡ false
    or_right true c e = absurd (cc e)
    or_right false c e = e

    go : (b : Bool) → (n == suc k) ≡ b → (is_default_of_other g 0 k ≡ false → 1 ≤ n → n ≤ k → bytes_eq (default_uuid n) g ≡ false) → bytes_eq (default_uuid n) g ≡ false
    go true e r =
        let is : n ≡ suc k = grind (arith, nat_tests) in
        let zero_not : not (suc k == 0) ≡ true = grind (arith, nat_tests) in
        let here : bytes_eq (default_uuid (suc k)) g ≡ false = ap (λ b. b && bytes_eq (default_uuid (suc k)) g) (sym zero_not) ∙ or_left (not (suc k == 0) && bytes_eq (default_uuid (suc k)) g) (is_default_of_other g 0 k) h in
        subst (λ m. bytes_eq (default_uuid m) g ≡ false) (sym is) here
    go false e r = r (or_right (not (suc k == 0) && bytes_eq (default_uuid (suc k)) g) (is_default_of_other g 0 k) h) above (grind (arith, nat_tests))

not_uuid : (g : List ℕ) (ss : List Server) (s : Server) → list_any (λ x. bytes_eq x.uuid g) ss ≡ false → In s ss → bytes_eq s.uuid g ≡ false
not_uuid g [] s h i = absurd i
not_uuid g (x ∷ ss) s h i = go (bytes_eq x.uuid g) refl h i (not_uuid g ss s)
  where
    go : (b : Bool) → bytes_eq x.uuid g ≡ b → (b || list_any (λ y. bytes_eq y.uuid g) ss) ≡ false → In s (x ∷ ss) → (list_any (λ y. bytes_eq y.uuid g) ss ≡ false → In s ss → bytes_eq s.uuid g ≡ false) → bytes_eq s.uuid g ≡ false
    go true q k m r = absurd (cc k)
    go false q k (inl e) r = subst (λ y. bytes_eq y.uuid g ≡ false) e q
    go false q k (inr m) r = r k m

fits : (w : World) (g : List ℕ) (n : ℕ) (j : Joiner) (o : Option Server) → AreDeclared w.servers → is_group_taken g w ≡ false → server_at w n ≡ o → founder_by n o ≡ j → 1 ≤ j.inc.server → j.inc.server ≤ 32 → Fits g j
fits w g n j o known free at is above below = go o at is (has_uuid w g) refl free
  where
    go : (p : Option Server) → server_at w n ≡ p → founder_by n p ≡ j → (b : Bool) → has_uuid w g ≡ b → (b || is_default_of_other g 0 32) ≡ false → Fits g j
    go p q k true u f = absurd (cc f)
    go None q k false u f = subst (Fits g) k (record {
      first = refl;
      uuid = default_is_uuid n (subst (λ i. i.inc.server ≤ 32) (sym k) below);
      other = no_default g n 32 f (subst (λ i. 1 ≤ i.inc.server) (sym k) above) (subst (λ i. i.inc.server ≤ 32) (sym k) below);
    })
    go (Some s) q k false u f = let i = (at_in n w.servers s q).0 in subst (Fits g) k (record { first = refl; uuid = known s i; other = not_uuid g w.servers s u i })

-- ---- in their order

after_one : (js : List Joiner) (b : Joiner) → IsChain IsFounderAfter (Some b) js → b.inc.start ≡ 1 → ((j : Joiner) → In j js → j.inc.start ≡ 1) → (k : Joiner) → In k js → b.inc.server < k.inc.server
after_one [] b c f h k i = absurd i
after_one (j ∷ js) b c f h k i =
    let less : inc_lt b.inc j.inc ≡ true = c.0.inc.1 in
    let one : j.inc.start ≡ 1 = h j (inl refl) in
    let step : b.inc.server < j.inc.server = rises b.inc j.inc less (f ∙ sym one) in
    elim i [
      | inl e ↦ subst (λ x. b.inc.server < x.inc.server) e step
      | inr m ↦ let more = after_one js j c.1 one (λ x n. h x (inr n)) k m in omega (arith, step, more)
    ]
  where
    rises : (x y : Inc) → inc_lt x y ≡ true → x.start ≡ y.start → x.server < y.server
    rises x y l s = go (x.server == y.server) refl
      where
        go : (d : Bool) → (x.server == y.server) ≡ d → x.server < y.server
        go true e = let sooner : nat_lt x.start y.start ≡ true = rw e at l in absurd (let less : x.start < y.start = grind (arith, nat_tests) in omega (arith, s, less))
        go false e = let sooner : nat_lt x.server y.server ≡ true = rw e at l in grind (arith, nat_tests)

apart : (js : List Joiner) (b : Option Joiner) → IsChain IsFounderAfter b js → ((j : Joiner) → In j js → j.inc.start ≡ 1) → Apart js
apart [] b c h = tt
apart (j ∷ js) b c h = ((λ k i e. let less = after_one js j c.1 (h j (inl refl)) (λ x n. h x (inr n)) k i in absurd (omega (arith, less, e))), apart js (Some j) c.1 (λ x n. h x (inr n)))

number_in : (b : Option Inc) (i : Inc) → IsIncAfter b i → (1 ≤ i.server) × (i.server ≤ 32)
number_in None i h = (h.server_above, h.server_below)
number_in (Some a) i h = (h.0.server_above, h.0.server_below)

numbers : (js : List Joiner) (b : Option Joiner) → IsChain IsFounderAfter b js → (j : Joiner) → In j js → (1 ≤ j.inc.server) × (j.inc.server ≤ 32)
numbers [] b c j i = absurd i
numbers (x ∷ xs) b c j (inl e) = subst (λ y. (1 ≤ y.inc.server) × (y.inc.server ≤ 32)) e (number_in _ x.inc c.0.inc)
numbers (x ∷ xs) b c j (inr i) = numbers xs (Some x) c.1 j i

pub is_setup : (w : World) (t : Setup) (ns : List ℕ) → AreDeclared w.servers → is_group_taken t.limits.group w ≡ false → t.founders ≡ founders w ns → IsFounding t → IsSetup t
is_setup w t ns known free are f = record {
  first = λ j i. (each j i).first;
  apart = apart t.founders None f.founders (λ j i. (each j i).first);
  horizon = let above : 10 ≤ t.limits.horizon = f.horizon_above in omega (arith, above);
  block = f.block_above;
  group = f.group;
  uuids = λ j i. ((each j i).uuid, (each j i).other);
}
  where
    each : (j : Joiner) → In j t.founders → Fits t.limits.group j
    each j i =
        let p = founder_of w ns j (subst (In j) are i) in
        let m = numbers t.founders None f.founders j i in
        fits w t.limits.group p.0 j (server_at w p.0) known free refl p.1 m.0 m.1

-- ---- one founder after another

pub me_stored : (t : Setup) (j : Joiner) → stored (found t j).life ≡ nothing_stored
unfolding found
me_stored t j = refl

said_first : (t : Setup) (j : Joiner) (w : World) → said_of (dids j.inc (found t j).life ++ w.left) ≡ said_of w.left ++ Marked j.inc (State Online Founded) ∷ []
unfolding found
said_first t j w = refl

pub said_too : (t : Setup) (j : Joiner) (w : World) (before xs zs : List Said) → xs ≡ before ++ said_of w.left → zs ≡ xs ++ Marked j.inc (State Online Founded) ∷ [] → zs ≡ before ++ said_of (found_at t j w).left
said_too t j w before xs zs h k = k ∙ (ap (λ l. l ++ Marked j.inc (State Online Founded) ∷ []) h
    ∙ (append_assoc before (said_of w.left) (Marked j.inc (State Online Founded) ∷ []) ∙ ap (λ l. before ++ l) (sym (said_first t j w))))

-- the server of a founder
abbrev pub founder_at : Setup → Joiner → Server
founder_at t j = record { number = j.inc.server; uuid = j.uuid; version = j.version; weight = j.weight; starts = 1; stored = nothing_stored; running = Some (found t j) }

pub one_founded : (t : Setup) (j : Joiner) (w : World) (before : List Said) (x z : Stage) → IsUuid j.uuid → AreFounded before w x → AreOf (found_at t j w) z.servers → AreSites (with_server w.servers (founder_at t j)) z.sites
    → z.said.items ≡ x.said.items ++ Marked j.inc (State Online Founded) ∷ [] → AreFounded before (found_at t j w) z
one_founded t j w before x z u a servers sites said = record {
  servers = servers;
  sites = sites;
  rising = rises_with (founder_at t j) w.servers a.rising;
  declared = λ v h. elim (in_with v (founder_at t j) w.servers h) [ inl q ↦ subst (λ s. IsUuid s.uuid) q u | inr q ↦ a.declared v q ];
  said = said_too t j w before x.said.items z.said.items a.said said;
}

-- ---- those that are left

-- founding them leads to what founding all leads to
abbrev pub FoundsOn : Setup → List Joiner → Stage → Stage → Type 0
FoundsOn t js x z = IsWithin x z × ((w : World) (before : List Said) → AreFounded before w x → (v : World) × AreFounded before v z × (found_all t js v ≡ found_all t t.founders w))

-- and they are founders
abbrev pub AreLeft : Setup → List Joiner → Stage → Stage → Type 0
AreLeft t js x z = FoundsOn t js x z × ((j : Joiner) → In j js → In j t.founders)

pub none_yet : (t : Setup) (js : List Joiner) (x : Stage) → js ≡ t.founders → AreLeft t js x x
none_yet t js x e = ((record { wire = refl; block = refl }, λ w before a. (w, a, ap (λ l. found_all t l w) e)), λ j i. subst (In j) e i)

pub is_founder : (t : Setup) (left : List Joiner) (j : Joiner) (js : List Joiner) (x z : Stage) → left ≡ j ∷ js → AreLeft t left x z → In j t.founders
is_founder t left j js x z e h = h.1 j (subst (In j) (sym e) (inl refl))

founds_one : (t : Setup) (j : Joiner) (js : List Joiner) (x y z : Stage) → FoundsOn t (j ∷ js) x y → IsWithin y z → ((w : World) (before : List Said) → AreFounded before w y → AreFounded before (found_at t j w) z) → FoundsOn t js x z
founds_one t j js x y z h k f = (record { wire = k.wire ∙ h.0.wire; block = k.block ∙ h.0.block }, λ w before a. let r = h.1 w before a in (found_at t j r.0, f r.0 before r.1, r.2))

pub one_more : (t : Setup) (left : List Joiner) (j : Joiner) (js : List Joiner) (x y z : Stage) → left ≡ j ∷ js → AreLeft t left x y → IsWithin y z
    → ((w : World) (before : List Said) → AreFounded before w y → AreFounded before (found_at t j w) z) → AreLeft t js x z
one_more t left j js x y z e h k f = (founds_one t j js x y z (subst (λ l. FoundsOn t l x y) e h.0) k f, λ i m. h.1 i (subst (In i) (sym e) (inr m)))

empty : (js : List Joiner) → length js ≡ 0 → js ≡ []
empty [] e = refl
empty (j ∷ js) e = absurd (omega (arith, e))

pub all_founded : (t : Setup) (left : List Joiner) (x z : Stage) → length left ≡ 0 → AreLeft t left x z → (w : World) (before : List Said) → AreFounded before w x → AreFounded before (found_all t t.founders w) z
all_founded t left x z e h w before a =
    let k : FoundsOn t [] x z = subst (λ l. FoundsOn t l x z) (empty left e) h.0 in
    let r = k.1 w before a in
    subst (λ v. AreFounded before v z) r.2 r.1

-- ---- the whole founding

all_sent : (t : Setup) (js : List Joiner) (w : World) → (found_all t js w).sent ≡ w.sent
all_sent t [] w = refl
all_sent t (j ∷ js) w = all_sent t js (found_at t j w)

all_setup : (t : Setup) (js : List Joiner) (w : World) → (found_all t js w).setup ≡ w.setup
all_setup t [] w = refl
all_setup t (j ∷ js) w = all_setup t js (found_at t j w)

abbrev pub beginning : Setup → World → World
beginning t w = nothing_happens (record w { setup = Some t })

-- nothing was founded yet
pub before_all : (t : Setup) (y : Play) (x : Stage) → Along y x → AreFounded x.said.items (beginning t y.world) x
before_all t y x a = record { servers = a.holds.servers; sites = a.holds.sites; rising = a.holds.rising; declared = a.holds.declared; said = sym (append-nil x.said.items) }

pub was_founded : (t : Setup) (w : World) → is_some w.setup ≡ true → move (Founds t) w ≡ nothing_happens w
unfolding move
was_founded t w h = rw (h, move) refl

or_true : (b : Bool) → (b || true) ≡ true
or_true true = refl
or_true false = refl

pub was_taken : (t : Setup) (w : World) → is_group_taken t.limits.group w ≡ true → move (Founds t) w ≡ nothing_happens w
unfolding move
was_taken t w h = let both : (is_some w.setup || is_group_taken t.limits.group w) ≡ true = ap (λ b. is_some w.setup || b) h ∙ or_true (is_some w.setup) in rw (both, move) refl

module _ (law : FoundedRuns) (t : Setup) (ns : List ℕ) (f : Founding) (y : Play) (x z : Stage) (a : Along y x) (fit : IsFounding t) (are : t.founders ≡ founders y.world ns) (same : setup_in (Some f) ≡ Some t)
    (none : is_some y.world.setup ≡ false) (free : is_group_taken t.limits.group y.world ≡ false) where
  abbrev w : World
  w = y.world

  abbrev next : World
  next = found_all t t.founders (beginning t w)

  is_it : move (Founds t) w ≡ next
  unfolding move
  is_it = let both : (is_some w.setup || is_group_taken t.limits.group w) ≡ false = ap (λ b. b || is_group_taken t.limits.group w) none ∙ free in rw (both, move) refl

  some_is : (u : Setup) → next.setup ≡ Some u → IsFounding u
  some_is u e = let is : Some t ≡ Some u = sym (all_setup t t.founders (beginning t w)) ∙ e in subst IsFounding (let q : t ≡ u = cc in q) fit

  pub founds : AreFounded x.said.items next z → z.founding ≡ Some f → z.block ≡ x.block → z.wire ≡ x.wire → Along (plays (Founds t) y) z
  founds h founding block wire = still (Founds t) y x z next a is_it (all_sent t t.founders (beginning t w))
      (record {
        servers = h.servers;
        sites = h.sites;
        rising = h.rising;
        declared = h.declared;
        setup = all_setup t t.founders (beginning t w) ∙ (sym same ∙ ap setup_in (sym founding));
        founded = some_is;
        run = subst IsRun is_it (law w t (is_setup w t ns a.holds.declared free are fit) a.holds.run);
      })
      h.said block wire

-- ---- what its code tells

unfounded : (o : Option Founding) → is_some o ≡ false → is_some (setup_in o) ≡ false
unfounded None h = refl
unfounded (Some f) h = h

pub any_setup : (o : Option Founding) → is_some o ≡ true → is_some (setup_in o) ≡ true
any_setup None h = h
any_setup (Some f) h = refl

pub founds_with : FoundedRuns → (l : Limits) (m : Mode) (js : List Joiner) (ns : List ℕ) (f : Founding) (y : Play) (x s z : Stage) → Along y x → IsFounding (setup_with l m js) → js ≡ founders y.world ns → setup_in (Some f) ≡ Some (setup_with l m js)
    → is_some x.founding ≡ false → is_group_taken l.group y.world ≡ false → ((w : World) (before : List Said) → AreFounded before w x → AreFounded before (found_all (setup_with l m js) js w) s) → IsWithin x s
    → z ≡ record s { founding = Some f } → Along (plays (Founds (setup_with l m (founders y.world ns))) y) z
founds_with law l m js ns f y x s z a fit are same none free all within e =
    let t : Setup = setup_with l m js in
    let h = all (beginning t y.world) x.said.items (before_all t y x a) in
    let unset : is_some y.world.setup ≡ false = ap is_some a.holds.setup ∙ unfounded x.founding none in
    let is = founds law t ns f y x (record s { founding = Some f }) a fit are same unset free (record { servers = h.servers; sites = h.sites; rising = h.rising; declared = h.declared; said = h.said }) refl within.block within.wire in
    subst (λ k. Along (plays (Founds (setup_with l m k)) y) z) are (subst (Along (plays (Founds t) y)) (sym e) is)
