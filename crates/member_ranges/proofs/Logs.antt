-- What a node knows of the log: of the founding, one slot more, some configurations fewer, and what a Welcome tells.
use Rattle.std.proofs.Common.{◌≡◌, inl, inr, ℕ, zero, suc, ◌+◌, ◌-◌, ◌≤◌, Bool, true, false, not, cond, ◌&&◌, ◌||◌, None, List, [], ◌∷◌, refl, sym, ap, subst, ◌∙◌, arith, length}
use Rattle.std.specs.Prelude.{drop, replicate, nat_lt, ◌==◌}
use Rattle.std.proofs.lemmas.Bool.{false≢true, and_parts, cond_both, eqb-true, ltb-true, not-true}
use Rattle.std.proofs.lemmas.Bool.Decides.{nat_tests}
use Rattle.std.proofs.lemmas.List.{length-append, length-drop, length-map, length-replicate}
use Rattle.gr_ids.specs.Names.{inc_eq, inc_lt, has_inc}
use Rattle.gr_ids.specs.declared.names.Inc.{Inc}
use Rattle.name_forms.specs.Incs.{IsInc}
use Rattle.slot_values.specs.Values.{is_noop}
use Rattle.slot_values.specs.Spelling.{IsValue, IsWhat}
use Rattle.slot_values.specs.Log.{Group, Reading, Turns, incs, counted, with_member, is_next, is_kept, has_effect, has_server, changed, kept, read, turn, first_turns, forget_configs}
use Rattle.slot_values.specs.declared.member.Member.{Member}
use Rattle.slot_values.specs.declared.value.Joiner.{Joiner}
use Rattle.slot_values.specs.declared.value.Value.{Value}
use Rattle.slot_values.specs.declared.value.What.{What}
use Rattle.slot_values.specs.declared.value.What.TheVariants.{Noop, Add, Remove, Body}
use Rattle.slot_values.proofs.Effects.{incs_of_founders}
use Rattle.node_rules.specs.Lists.{In}
use Rattle.order_laws.proofs.Lists.{in_push, in_filter, in_map}
use Rattle.member_ranges.specs.Logs.{AreFew, IsLog}
use Rattle.member_ranges.proofs.Chains.{Ascend, ascend_with, ascend_filter, incs_counted, incs_without, incs_with, length_with, filter_shorter}

-- ---- one value read

-- what is said of the members of a reading
pub record IsReading (r : Reading) : Type 0 where
  pub lasts : (m : Member) → In m r.members → m.last ≤ r.place
  pub members : Ascend None (incs r.members)
  pub few : AreFew (incs r.members)
  pub ever : Ascend None r.ever

counted_below : (ms : List Member) (i : Inc) (n p : ℕ) → n ≤ suc p → ((m : Member) → In m ms → m.last ≤ p) → (m : Member) → In m (counted ms i n) → m.last ≤ suc p
counted_below [] i n p h k m q = absurd q
counted_below (x ∷ xs) i n p h k m (inr q) = counted_below xs i n p h (λ y z. k y (inr z)) m q
counted_below (x ∷ xs) i n p h k m (inl e) = subst (λ (y : Member). y.last ≤ suc p) e (go (inc_eq x.inc i))
  where
    low : x.last ≤ p
    low = k x (inl refl)

    go : (u : Bool) → cond u n x.last ≤ suc p
    go true = h
    go false = omega (arith, low)

next_below : (ms : List Member) (i : Inc) (n p : ℕ) → is_next ms i n ≡ true → ((m : Member) → In m ms → m.last ≤ p) → n ≤ suc p
next_below [] i n p h k = absurd (false≢true h)
next_below (x ∷ xs) i n p h k = go (inc_eq x.inc i) (n == x.last + 1) refl h (λ z. next_below xs i n p z (λ m q. k m (inr q)))
  where
    low : x.last ≤ p
    low = k x (inl refl)

    go : (u v : Bool) → (n == x.last + 1) ≡ v → ((u && v) || is_next xs i n) ≡ true → (is_next xs i n ≡ true → n ≤ suc p) → n ≤ suc p
    go true true e q r = let a : n ≡ x.last + 1 = eqb-true n (x.last + 1) e in omega (arith, a, low)
    go true false e q r = r q
    go false v e q r = r q

kept_next : (r : Reading) (v : Value) → is_kept r v ≡ true → is_next r.members v.id.origin v.id.number ≡ true
kept_next r v h = (and_parts (not (is_noop v.what)) (is_next r.members v.id.origin v.id.number) h).1

kept_reading : (r : Reading) (v : Value) → is_kept r v ≡ true → IsReading r → IsReading (kept r v)
kept_reading r v h k = record {
  lasts = λ m q. let a = counted_below r.members v.id.origin v.id.number r.place (next_below r.members v.id.origin v.id.number r.place (kept_next r v h) k.lasts) k.lasts m q in omega (arith, a);
  members = subst (λ l. Ascend None l) (sym (incs_counted r.members v.id.origin v.id.number)) k.members;
  few = subst (λ l. AreFew l) (sym (incs_counted r.members v.id.origin v.id.number)) k.few;
  ever = k.ever;
}

-- ---- a member more, a member fewer

no_server : (ms : List Member) (i : Inc) → has_server ms i.server ≡ false → (m : Member) → In m ms → inc_eq i m.inc ≡ false
no_server [] i h m q = absurd q
no_server (x ∷ xs) i h m q = go (x.inc.server == i.server) refl h q (no_server xs i)
  where
    here : (x.inc.server == i.server) ≡ false → inc_eq i x.inc ≡ false
    here e = grind (arith, nat_tests)

    go : (u : Bool) → (x.inc.server == i.server) ≡ u → (u || has_server xs i.server) ≡ false → In m (x ∷ xs) → (has_server xs i.server ≡ false → (m : Member) → In m xs → inc_eq i m.inc ≡ false) → inc_eq i m.inc ≡ false
    go true e z q r = absurd (false≢true (sym z))
    go false e z (inl f) r = subst (λ (y : Member). inc_eq i y.inc ≡ false) f (here e)
    go false e z (inr f) r = r z m f

lasts_with : (ms : List Member) (i : Inc) (p : ℕ) → ((m : Member) → In m ms → m.last ≤ p) → (m : Member) → In m (with_member ms i) → m.last ≤ p
lasts_with [] i p k m (inl e) = subst (λ (y : Member). y.last ≤ p) e (omega arith)
lasts_with [] i p k m (inr q) = absurd q
lasts_with (x ∷ xs) i p k m h = go (inc_lt i x.inc) refl (lasts_with xs i p (λ y z. k y (inr z)) m)
  where
    new : Member
    new = record { inc = i; last = 0 }

    go : (u : Bool) → inc_lt i x.inc ≡ u → (In m (with_member xs i) → m.last ≤ p) → m.last ≤ p
    go true e r = let q : In m (new ∷ x ∷ xs) = rw e at h in elim q [ inl z ↦ subst (λ (y : Member). y.last ≤ p) z (omega arith) | inr z ↦ k m z ]
    go false e r = let q : In m (x ∷ with_member xs i) = rw e at h in elim q [ inl z ↦ k m (inl z) | inr z ↦ r z ]

left_reading : (r : Reading) (i : Inc) → IsReading r → IsReading (changed r (Remove i))
left_reading r i k = record {
  lasts = λ m q. k.lasts m (in_filter (λ (x : Member). not (inc_eq x.inc i)) r.members m q);
  members = subst (λ l. Ascend None l) (sym (incs_without r.members i)) (ascend_filter (λ j. not (inc_eq j i)) (incs r.members) None k.members);
  few = let a = filter_shorter (λ j. not (inc_eq j i)) (incs r.members) in subst (λ l. AreFew l) (sym (incs_without r.members i)) (omega (arith, a, k.few));
  ever = k.ever;
}

added_reading : (r : Reading) (j : Joiner) → IsInc j.inc → has_effect r (Add j) ≡ true → IsReading r → IsReading (changed r (Add j))
added_reading r j i h k = record {
  lasts = lasts_with r.members j.inc r.place k.lasts;
  members = subst (λ l. Ascend None l) (sym (incs_with r.members j.inc other)) (ascend_with (incs r.members) None j.inc k.members i);
  few = let a = length_with r.members j.inc in let b = ltb-true (length r.members) 9 tests.0 in let c = length-map r.members (λ (m : Member). m.inc) in omega (arith, a, b, c);
  ever = ascend_with r.ever None j.inc k.ever i;
}
  where
    tests : (nat_lt (length r.members) 9 ≡ true) × (not (has_server r.members j.inc.server) ≡ true)
    tests = and_parts (nat_lt (length r.members) 9) (not (has_server r.members j.inc.server)) (and_parts _ (not (has_inc r.ever j.inc)) h).0

    other : (m : Member) → In m r.members → inc_eq j.inc m.inc ≡ false
    other = no_server r.members j.inc (not-true (has_server r.members j.inc.server) tests.1)

-- what has effect is the same once the value is counted
counted_length : (ms : List Member) (i : Inc) (n : ℕ) → length (counted ms i n) ≡ length ms
counted_length [] i n = refl
counted_length (m ∷ ms) i n = ap suc (counted_length ms i n)

counted_server : (ms : List Member) (i : Inc) (n s : ℕ) → has_server (counted ms i n) s ≡ has_server ms s
counted_server [] i n s = refl
counted_server (m ∷ ms) i n s = ap (λ (b : Bool). (m.inc.server == s) || b) (counted_server ms i n s)

adds_still : (r : Reading) (v : Value) (j : Joiner) → has_effect r (Add j) ≡ true → has_effect (kept r v) (Add j) ≡ true
adds_still r v j h = ap (λ (k : ℕ). (nat_lt k 9 && not (has_server (counted r.members v.id.origin v.id.number) j.inc.server)) && not (has_inc r.ever j.inc)) (counted_length r.members v.id.origin v.id.number)
    ∙ (ap (λ (b : Bool). (nat_lt (length r.members) 9 && not b) && not (has_inc r.ever j.inc)) (counted_server r.members v.id.origin v.id.number j.inc.server) ∙ h)

-- what the value says, where it has effect
reading_with : (r : Reading) (v : Value) (w : What) → IsWhat v.id.number w → has_effect r w ≡ true → IsReading (kept r v) → IsReading (changed (kept r v) w)
reading_with r v Noop i h k = k
reading_with r v (Body b) i h k = k
reading_with r v (Remove j) i h k = left_reading (kept r v) j k
reading_with r v (Add j) i h k = added_reading (kept r v) j i.inc (adds_still r v j h) k

pub read_reading : (r : Reading) (v : Value) → IsValue v → IsReading r → IsReading (read r v)
unfolding read
read_reading r v i k =
    cond_both (is_kept r v) (cond (has_effect r v.what) (changed (kept r v) v.what) (kept r v)) r (λ (x : Reading). IsReading x)
    (λ e. cond_both (has_effect r v.what) (changed (kept r v) v.what) (kept r v) (λ (x : Reading). IsReading x)
    (λ f. reading_with r v v.what i.what f (kept_reading r v e k)) (λ f. kept_reading r v e k))
    (λ e. k)

-- ---- what is known of the log

as_reading : (h : ℕ) (w : Turns) → IsLog h w → IsReading w.reading
as_reading h w k = record { lasts = k.lasts; members = k.members; few = k.few; ever = k.ever }

changed_place : (r : Reading) (w : What) → (changed r w).place ≡ r.place
changed_place r Noop = refl
changed_place r (Add j) = refl
changed_place r (Remove i) = refl
changed_place r (Body b) = refl

place_read : (r : Reading) (v : Value) → (read r v).place ≤ r.place + 1
unfolding read
place_read r v =
    cond_both (is_kept r v) (cond (has_effect r v.what) (changed (kept r v) v.what) (kept r v)) r (λ (x : Reading). x.place ≤ r.place + 1)
    (λ e. cond_both (has_effect r v.what) (changed (kept r v) v.what) (kept r v) (λ (x : Reading). x.place ≤ r.place + 1) (λ f. let a = changed_place (kept r v) v.what in omega (arith, a)) (λ f. omega arith)) (λ e. omega arith)

pub log_turn : (h : ℕ) (w : Turns) (v : Value) → IsValue v → IsLog h w → IsLog h (turn w v)
unfolding turn
log_turn h w v i k =
    let r = read_reading w.reading v i (as_reading h w k) in
    let p = place_read w.reading v in
    let n = length-append w.configs (incs (read w.reading v).members ∷ []) in
    record {
      place = omega (arith, p, k.place);
      lasts = r.lasts;
      members = r.members;
      few = r.few;
      ever = r.ever;
      base = omega (arith, k.base);
      reaches = omega (arith, n, k.reaches);
      configs = λ c q. elim (in_push c w.configs (incs (read w.reading v).members) q) [ inl z ↦ k.configs c z | inr e ↦ subst (λ l. AreFew l) e r.few ];
    }

pub in_drop : {A : Type 0} (n : ℕ) (xs : List A) (x : A) → In x (drop n xs) → In x xs
in_drop zero xs x h = h
in_drop (suc n) [] x h = h
in_drop (suc n) (y ∷ ys) x h = inr (in_drop n ys x h)

pub log_forget : (h k : ℕ) (w : Turns) → k ≤ w.slot + 1 → IsLog h w → IsLog h (forget_configs k w)
log_forget h k w below l = dropped (k - (w.base + 1)) (omega arith)
  where
    dropped : (d : ℕ) → d ≤ w.slot - w.base → IsLog h (record w { base = w.base + d; configs = drop d w.configs })
    dropped d q =
        let n = length-drop d w.configs in
        record {
          place = l.place;
          lasts = l.lasts;
          members = l.members;
          few = l.few;
          ever = l.ever;
          base = omega (arith, l.base);
          reaches = omega (arith, n, l.base, l.reaches);
          configs = λ c z. l.configs c (in_drop d w.configs c z);
        }

in_replicate : {A : Type 0} (n : ℕ) (y x : A) → In x (replicate n y) → y ≡ x
in_replicate zero y x h = absurd h
in_replicate (suc n) y x (inl e) = e
in_replicate (suc n) y x (inr q) = in_replicate n y x q

pub log_first : (g : Group) → Ascend None g.founders → AreFew g.founders → IsLog g.horizon (first_turns g)
log_first g up few =
    let n = length-replicate g.horizon g.founders in
    record {
      place = omega arith;
      lasts = λ m q. let r = in_map {A = Inc} {B = Member} (λ i. record { inc = i; last = 0 }) g.founders m q in subst (λ (y : Member). y.last ≤ 0) r.2 (omega arith);
      members = subst (λ l. Ascend None l) (sym (incs_of_founders g.founders)) up;
      few = subst (λ l. AreFew l) (sym (incs_of_founders g.founders)) few;
      ever = up;
      base = omega arith;
      reaches = omega (arith, n);
      configs = λ c q. subst (λ l. AreFew l) (in_replicate g.horizon g.founders c q) few;
    }
