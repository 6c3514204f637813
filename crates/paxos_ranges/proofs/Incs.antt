-- Lists of incarnations, each in its range: those of members, of configurations, and of both together.
use Rattle.std.proofs.Common.{◌≡◌, ◌⊎◌, inl, inr, ℕ, zero, suc, ◌+◌, ◌-◌, Bool, true, false, not, cond, Option, Some, None, List, [], ◌∷◌, map, filter, drop, ltb, refl, sym, ap, subst}
use Rattle.std.proofs.lemmas.Bool.{cond_both}
use Rattle.std.specs.Prelude.{slice_get, unwrap_or, replicate}
use Rattle.std.specs.List.{AllByRecursion}
use Rattle.byte_forms.specs.Lists.{IsChain}
use Rattle.gr_ids.specs.Names.{inc_eq, inc_lt}
use Rattle.gr_ids.specs.declared.names.Inc.{Inc}
use Rattle.name_forms.specs.Incs.{IsInc, IsIncAfter}
use Rattle.slot_values.specs.Spelling.{IsValue, IsWhat}
use Rattle.slot_values.specs.Log.{Group, Reading, Turns, incs, counted, with_member, without, with_inc, is_kept, has_effect, changed, kept, read, turn, first_turns, forget_configs, config_of, majority}
use Rattle.slot_values.specs.Turns.{resumed}
use Rattle.slot_values.specs.declared.member.Member.{Member}
use Rattle.slot_values.specs.declared.value.Value.{Value}
use Rattle.slot_values.specs.declared.value.What.{What}
use Rattle.slot_values.specs.declared.value.What.TheVariants.{Noop, Add, Remove, Body}
use Rattle.paxos_forms.specs.Welcomes.{IsMemberAfter, IsConfig, IsWelcome}
use Rattle.paxos_forms.specs.declared.welcome.Welcome.{Welcome}
use Rattle.paxos_forms.specs.declared.welcome.WelcomeMember.{WelcomeMember}
use Rattle.node_rules.specs.Lists.{In, union}
use Rattle.node_rules.specs.Known.{members_by, config_here}
use Rattle.node_rules.specs.Leader.{Leader, Promised, has_promise, not_promised, unpromised}
use Rattle.node_rules.specs.Welcoming.{told_in}
use Rattle.order_laws.proofs.Lists.{in_push, in_filter}
use Rattle.order_laws.proofs.Runs.{get-in}
use Rattle.paxos_ranges.specs.Ranges.{AreIncs, KnowsIncs}

-- ---- lists

all_in : {A : Type 0} (P : A → Type 0) (xs : List A) → AllByRecursion P xs → (x : A) → In x xs → P x
all_in P [] k x h = absurd h
all_in P (y ∷ ys) k x (inl e) = subst P e k.0
all_in P (y ∷ ys) k x (inr q) = all_in P ys k.1 x q

in_drop : {A : Type 0} (n : ℕ) (xs : List A) (x : A) → In x (drop n xs) → In x xs
in_drop zero xs x h = h
in_drop (suc n) [] x h = h
in_drop (suc n) (y ∷ ys) x h = inr (in_drop n ys x h)

in_replicate : {A : Type 0} (n : ℕ) (y x : A) → In x (replicate n y) → y ≡ x
in_replicate zero y x h = absurd h
in_replicate (suc n) y x (inl e) = e
in_replicate (suc n) y x (inr q) = in_replicate n y x q

in_with : (xs : List Inc) (i a : Inc) → In a (with_inc xs i) → (i ≡ a) ⊎ In a xs
in_with [] i a h = h
in_with (x ∷ xs) i a h = go (inc_lt i x) (inc_eq i x) refl refl (in_with xs i a)
  where
    go : (u v : Bool) → inc_lt i x ≡ u → inc_eq i x ≡ v → (In a (with_inc xs i) → (i ≡ a) ⊎ In a xs) → (i ≡ a) ⊎ In a (x ∷ xs)
    go true v e f r = let k : In a (i ∷ x ∷ xs) = rw e at h in k
    go false true e f r = let k : In a (x ∷ xs) = rw (e, f) at h in inr k
    go false false e f r = let k : In a (x ∷ with_inc xs i) = rw (e, f) at h in elim k [ inl q ↦ inr (inl q) | inr q ↦ elim (r q) [ inl z ↦ inl z | inr z ↦ inr (inr z) ] ]

pub union_incs : (is js : List Inc) → AreIncs is → AreIncs js → AreIncs (union is js)
union_incs [] js k l i h = l i h
union_incs (x ∷ xs) js k l i h = union_incs xs (with_inc js x) (λ a q. k a (inr q)) (λ a q. elim (in_with js x a q) [ inl e ↦ k a (inl e) | inr z ↦ l a z ]) i h

-- ---- members

incs_counted : (ms : List Member) (i : Inc) (n : ℕ) → incs (counted ms i n) ≡ incs ms
incs_counted [] i n = refl
incs_counted (m ∷ ms) i n = ap (λ l. m.inc ∷ l) (incs_counted ms i n)

in_member : (ms : List Member) (i a : Inc) → In a (incs (with_member ms i)) → (i ≡ a) ⊎ In a (incs ms)
in_member [] i a h = h
in_member (m ∷ ms) i a h = go (inc_lt i m.inc) refl (in_member ms i a)
  where
    go : (u : Bool) → inc_lt i m.inc ≡ u → (In a (incs (with_member ms i)) → (i ≡ a) ⊎ In a (incs ms)) → (i ≡ a) ⊎ In a (incs (m ∷ ms))
    go true e r = let k : In a (i ∷ m.inc ∷ incs ms) = rw e at h in k
    go false e r = let k : In a (m.inc ∷ incs (with_member ms i)) = rw e at h in elim k [ inl q ↦ inr (inl q) | inr q ↦ elim (r q) [ inl z ↦ inl z | inr z ↦ inr (inr z) ] ]

in_without : (ms : List Member) (i a : Inc) → In a (incs (without ms i)) → In a (incs ms)
in_without [] i a h = h
in_without (m ∷ ms) i a h = go (not (inc_eq m.inc i)) refl (in_without ms i a)
  where
    go : (u : Bool) → not (inc_eq m.inc i) ≡ u → (In a (incs (without ms i)) → In a (incs ms)) → In a (incs (m ∷ ms))
    go true e r = let k : In a (m.inc ∷ incs (without ms i)) = rw e at h in elim k [ inl q ↦ inl q | inr q ↦ inr (r q) ]
    go false e r = let k : In a (incs (without ms i)) = rw e at h in inr (r k)

changed_incs : (r : Reading) (n : ℕ) (w : What) → IsWhat n w → AreIncs (incs r.members) → AreIncs (incs (changed r w).members)
changed_incs r n Noop h k = k
changed_incs r n (Body b) h k = k
changed_incs r n (Remove i) h k = λ a q. k a (in_without r.members i a q)
changed_incs r n (Add j) h k = λ a q. elim (in_member r.members j.inc a q) [ inl e ↦ subst IsInc e h.inc | inr z ↦ k a z ]

pub read_incs : (r : Reading) (v : Value) → IsValue v → AreIncs (incs r.members) → AreIncs (incs (read r v).members)
unfolding read
read_incs r v h k =
    let c : AreIncs (incs (kept r v).members) = subst (λ l. AreIncs l) (sym (incs_counted r.members v.id.origin v.id.number)) k in
    cond_both (is_kept r v) (cond (has_effect r v.what) (changed (kept r v) v.what) (kept r v)) r (λ x. AreIncs (incs x.members))
    (λ e. cond_both (has_effect r v.what) (changed (kept r v) v.what) (kept r v) (λ x. AreIncs (incs x.members)) (λ f. changed_incs (kept r v) v.id.number v.what h.what c) (λ f. c)) (λ e. k)

-- ---- what is known of the log

pub turn_incs : (w : Turns) (v : Value) → IsValue v → KnowsIncs w → KnowsIncs (turn w v)
unfolding turn
turn_incs w v h k =
    let m = read_incs w.reading v h k.members in
    record { members = m; configs = λ c q. elim (in_push c w.configs (incs (read w.reading v).members) q) [ inl z ↦ k.configs c z | inr e ↦ subst (λ l. AreIncs l) e m ] }

pub first_incs : (g : Group) → AreIncs g.founders → KnowsIncs (first_turns g)
first_incs g k = record { members = λ i h. k i (subst (λ l. In i l) (named g.founders) h); configs = λ c q. subst (λ l. AreIncs l) (in_replicate g.horizon g.founders c q) k }
  where
    named : (is : List Inc) → incs (map {A = Inc} {B = Member} (λ i. record { inc = i; last = 0 }) is) ≡ is
    named [] = refl
    named (i ∷ is) = ap (λ l. i ∷ l) (named is)

pub forget_incs : (n : ℕ) (w : Turns) → KnowsIncs w → KnowsIncs (forget_configs n w)
forget_incs n w k = record { members = k.members; configs = λ c q. k.configs c (in_drop (n - (w.base + 1)) w.configs c q) }

pub welcome_incs : (x : Welcome) → IsWelcome x → KnowsIncs (resumed (told_in x))
welcome_incs x k = record {
  members = λ i h. chain x.members None k.members i (subst (λ l. In i l) (named x.members) h);
  configs = λ c q. all_in IsInc c (all_in IsConfig x.configs k.configs c q).0;
}
  where
    named : (ms : List WelcomeMember) → incs (map {A = WelcomeMember} {B = Member} (λ m. record { inc = m.joiner.inc; last = m.last }) ms) ≡ map {A = WelcomeMember} (λ m. m.joiner.inc) ms
    named [] = refl
    named (m ∷ ms) = ap (λ l. m.joiner.inc ∷ l) (named ms)

    after_inc : (b : Option Inc) (i : Inc) → IsIncAfter b i → IsInc i
    after_inc None i h = h
    after_inc (Some b) i h = h.0

    chain : (ms : List WelcomeMember) (b : Option WelcomeMember) → IsChain (IsMemberAfter x.place) b ms → AreIncs (map {A = WelcomeMember} (λ m. m.joiner.inc) ms)
    chain [] b h i q = absurd q
    chain (m ∷ ms) b h i (inl e) = subst IsInc e (after_inc _ m.joiner.inc (h.0).joiner.inc)
    chain (m ∷ ms) b h i (inr q) = chain ms (Some m) h.1 i q

-- ---- to whom a node sends

abbrev pub Knows : Option Turns → Type 0
Knows o = (w : Turns) → o ≡ Some w → KnowsIncs w

pub members_incs : (o : Option Turns) → Knows o → AreIncs (members_by o)
members_incs None k i h = absurd h
members_incs (Some w) k i h = (k w refl).members i h

pub config_incs : (o : Option Turns) → Knows o → (t : ℕ) → AreIncs (config_here o t)
config_incs None k t i h = absurd h
config_incs (Some w) k t i h = go (config_of w t) refl h
  where
    found : (c : List Inc) → config_of w t ≡ Some c → In c w.configs
    found c e = cond_both (ltb w.base t) (slice_get w.configs (t - (w.base + 1))) None (λ o. o ≡ Some c → In c w.configs) (λ f z. get-in w.configs (t - (w.base + 1)) c z) (λ f z. absurd (cc z)) e

    go : (c : Option (List Inc)) → config_of w t ≡ c → In i (unwrap_or c []) → IsInc i
    go None e q = absurd q
    go (Some c) e q = (k w refl).configs c (found c e) i q

not_promised_incs : (ps : List Promised) (c : List Inc) → AreIncs c → AreIncs (not_promised ps c)
not_promised_incs ps c k = cond_both (majority c (has_promise ps)) [] (filter (λ i. not (has_promise ps i)) c) (λ l. AreIncs l) (λ e i h. absurd h) (λ e i h. k i (in_filter (λ i. not (has_promise ps i)) c i h))

pub unpromised_incs : (o : Option Turns) → Knows o → (l : Leader) (n t : ℕ) → AreIncs (unpromised o l n t)
unpromised_incs o k l zero t i h = absurd h
unpromised_incs o k l (suc n) t i h = union_incs (not_promised l.promises (config_here o t)) (unpromised o l n (t + 1)) (not_promised_incs l.promises (config_here o t) (config_incs o k t)) (unpromised_incs o k l n (t + 1)) i h

-- where nothing is known, nobody's promise is wanted
pub none_unpromised : (l : Leader) (n t : ℕ) (i : Inc) → In i (unpromised None l n t) → ⊥
none_unpromised l zero t i h = absurd h
none_unpromised l (suc n) t i h = none_unpromised l n (t + 1) i h
