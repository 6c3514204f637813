-- The decided slots of a learner: a map by slot, seen as a list kept by slot.
use Rattle.std.proofs.Common.{◌≡◌, ℕ, zero, suc, ◌+◌, ◌-◌, ◌<◌, ◌≤◌, Bool, true, false, List, [], ◌∷◌, ◌++◌, Option, Some, None, ltb, refl, sym, ap, ◌∙◌, arith}
use Rattle.std.specs.Prelude.{map, filter, min, length, option_map, is_some, nat_lt, nat_le, ◌&&◌, ◌||◌, ◌==◌, if◌then◌else◌, slice_get}
use Rattle.std.specs.List.{All, list_any}
use Rattle.std.specs.Ordering.{nat_cmp, is_lt}
use Rattle.std.specs.Map.{lookup, keys_of}
use Rattle.std.specs.BTreeMap.{insert_entry, is_at}
use Rattle.slot_values.specs.declared.value.Value.{Value}
use Rattle.node_rules.specs.Slots.{Entry, entry_at, put_slot, from_slot, first_empty}
use Rattle.node_rules.specs.Learner.{Learner, advanced, removes, waiting}
use Rattle.std.proofs.lemmas.Bool.{ltb-true, ltb-false, lt-ltb, le-ltb}
use Rattle.std.proofs.lemmas.Bool.Decides.{nat_tests}
use Rattle.std.proofs.lemmas.List.Elements.{All-head, All-tail}
use Rattle.std.proofs.lemmas.List.{length-map}
use Rattle.gr_ids.specs.declared.names.Inc.{Inc}
use Rattle.slot_values.specs.Slots.{last_slot}
use Rattle.paxos_votes.specs.Entries.{InRange, entries_from, entries_within, entry_in, entry_of}
use Rattle.paxos_votes.specs.declared.learner.KnownSlot.{KnownSlot}
use Rattle.paxos_votes.proofs.SlotMaps.{put_is, at_is, has_is, from_is, each_at}

pub entries_put : (es : List (ℕ × Value)) (k : ℕ) (v : Value) → map entry_of (insert_entry nat_cmp es k v) ≡ put_slot (λ e. e.slot) (map entry_of es) (entry_of (k, v))
entries_put es k v = put_is entry_of (λ e. e.slot) (λ e. refl) es k v

pub has_entry : (es : List (ℕ × Value)) (t : ℕ) → is_some (entry_at (map entry_of es) t) ≡ is_some (lookup (is_at (nat_cmp t)) es)
has_entry es t = has_is entry_of (λ e. e.slot) (λ e. refl) es t

pub entry_is : (es : List (ℕ × Value)) (t : ℕ) → entry_at (map entry_of es) t ≡ option_map (λ v. entry_of (t, v)) (lookup (is_at (nat_cmp t)) es)
entry_is es t = at_is entry_of (λ e. e.slot) (λ e. refl) es t

pub entries_from_is : (es : List (ℕ × Value)) (s : ℕ) → from_slot (λ e. e.slot) (map entry_of es) s ≡ map entry_of (entries_from s es)
entries_from_is es s = from_is entry_of (λ e. e.slot) (λ e. refl) es s

abbrev next_of : List (ℕ × Value) → ℕ → ℕ
next_of es t = first_empty (length es) (map entry_of es) t

-- the loop's step: a slot that has an entry is passed
pub passes : (es : List (ℕ × Value)) (k t : ℕ) → is_some (lookup (is_at (nat_cmp t)) es) ≡ true → first_empty (suc k) (map entry_of es) t ≡ first_empty k (map entry_of es) (t + 1)
passes es k t h = rw (has_entry es t ∙ h) refl

pub stops : (es : List (ℕ × Value)) (k t : ℕ) → is_some (lookup (is_at (nat_cmp t)) es) ≡ false → first_empty k (map entry_of es) t ≡ t
stops es zero t h = refl
stops es (suc k) t h = rw (has_entry es t ∙ h) refl

-- an entry of a slot in a map with slots in range is in range
pub in_range_at : (es : List (ℕ × Value)) (t n : ℕ) → InRange es n → is_some (lookup (is_at (nat_cmp t)) es) ≡ true → t ≤ last_slot
in_range_at es t n r h = each_at (λ k. k ≤ last_slot) es t h r.slots

any_at : (t : ℕ) (es : List (ℕ × Value)) (i k : ℕ) (v : Value) → slice_get es i ≡ Some (k, v) → nat_lt t k ≡ true → list_any (λ e. nat_lt t e.slot) (map entry_of es) ≡ true
any_at t [] i k v e h = absurd cc
any_at t (x ∷ es) zero k v e h = let same : x ≡ (k, v) = cc in let above : nat_lt t x.0 ≡ true = ap (λ (y : ℕ × Value). nat_lt t y.0) same ∙ h in rw above refl
any_at t (x ∷ es) (suc i) k v e h = go (nat_lt t x.0) refl (any_at t es i k v e h)
  where
    go : (u : Bool) → nat_lt t x.0 ≡ u → list_any (λ e. nat_lt t e.slot) (map entry_of es) ≡ true → list_any (λ e. nat_lt t e.slot) (map entry_of (x ∷ es)) ≡ true
    go true p r = rw p refl
    go false p r = rw p r

none_above : (t k : ℕ) (es : List (ℕ × Value)) → k ≤ t → All (λ q. is_lt (nat_cmp k q) ≡ false) (keys_of es) → list_any (λ e. nat_lt t e.slot) (map entry_of es) ≡ false
none_above t k [] h a = refl
none_above t k (x ∷ es) h a =
    let here : is_lt (nat_cmp k x.0) ≡ false = All-head (λ q. is_lt (nat_cmp k q) ≡ false) x.0 (keys_of es) a in
    let most : x.0 ≤ k = most_of k x.0 here in
    let no : nat_lt t x.0 ≡ false = le-ltb t x.0 (omega arith) in
    rw no (none_above t k es h (All-tail (λ q. is_lt (nat_cmp k q) ≡ false) x.0 (keys_of es) a))
  where
    most_of : (k q : ℕ) → is_lt (nat_cmp k q) ≡ false → q ≤ k
    most_of k q h = go (ltb k q) refl
      where
        go : (u : Bool) → ltb k q ≡ u → q ≤ k
        go true p = absurd (let bad : is_lt (nat_cmp k q) ≡ true = rw p refl in let no : true ≡ false = sym bad ∙ h in cc)
        go false p = ltb-false k q p

-- a slot above t is among the entries exactly where the last one is
pub above_last : (es : List (ℕ × Value)) (t : ℕ) (k : ℕ) (v : Value) → slice_get es (length es - 1) ≡ Some (k, v) → All (λ q. is_lt (nat_cmp k q) ≡ false) (keys_of es) → list_any (λ e. nat_lt t e.slot) (map entry_of es) ≡ nat_lt t k
above_last es t k v e a = go (nat_lt t k) refl
  where
    go : (u : Bool) → nat_lt t k ≡ u → list_any (λ e. nat_lt t e.slot) (map entry_of es) ≡ nat_lt t k
    go true p = any_at t es (length es - 1) k v e p ∙ sym p
    go false p = none_above t k es (ltb-false t k p) a ∙ sym p

pub above_none : (es : List (ℕ × Value)) (t : ℕ) → length es ≡ 0 → list_any (λ e. nat_lt t e.slot) (map entry_of es) ≡ false
above_none [] t h = refl
above_none (e ∷ es) t h = absurd (omega arith)

-- a Remove from slot s on
pub removes_from : (i : Inc) (es : List (ℕ × Value)) (s : ℕ) → list_any (λ e. nat_le s e.slot && removes i e.value.what) (map entry_of es) ≡ list_any (λ e. removes i e.1.what) (entries_from s es)
removes_from i [] s = refl
removes_from i (e ∷ es) s = go (nat_le s e.0) refl (removes_from i es s)
  where
    go : (u : Bool) → nat_le s e.0 ≡ u → list_any (λ e. nat_le s e.slot && removes i e.value.what) (map entry_of es) ≡ list_any (λ e. removes i e.1.what) (entries_from s es) → list_any (λ e. nat_le s e.slot && removes i e.value.what) (map entry_of (e ∷ es)) ≡ list_any (λ e. removes i e.1.what) (entries_from s (e ∷ es))
    go true p r = rw p (ap (λ b. removes i e.1.what || b) r)
    go false p r = rw p r

pub entry_value : (es : List (ℕ × Value)) (t : ℕ) → option_map (λ e. e.value) (entry_at (map entry_of es) t) ≡ lookup (is_at (nat_cmp t)) es
entry_value es t = ap (option_map (λ (e : Entry). e.value)) (entry_is es t) ∙ same (lookup (is_at (nat_cmp t)) es)
  where
    same : (o : Option Value) → option_map (λ (e : Entry). e.value) (option_map (λ v. entry_of (t, v)) o) ≡ o
    same None = refl
    same (Some v) = refl

abbrev least : List (ℕ × Value) → ℕ → ℕ
least es n = if n == 0 then 0 else first_empty (length es) (map entry_of es) n

pub begun : (es : List (ℕ × Value)) (s n r : ℕ) → r ≡ least es n → ◌≡◌ {A = Learner} (record { decided = map entry_of es; slot = s; next = r }) (advanced (record { decided = map entry_of es; slot = s; next = n }))
begun es s n r e = rw (e, length-map es entry_of) refl

pub learnt : (es fs : List (ℕ × Value)) (s n r t : ℕ) (v : Value) → fs ≡ insert_entry nat_cmp es t v → r ≡ least fs n → ◌≡◌ {A = Learner} (record { decided = map entry_of fs; slot = s; next = r }) (advanced (record { decided = put_slot (λ e. e.slot) (map entry_of es) (record { slot = t; value = v }); slot = s; next = n }))
learnt es fs s n r t v p e =
    let put : map entry_of fs ≡ put_slot (λ e. e.slot) (map entry_of es) (record { slot = t; value = v }) = ap (map entry_of) p ∙ entries_put es t v in
    rw (← put) (begun fs s n r e)

slots_of : (es : List (ℕ × Value)) → map (λ (e : Entry). e.slot) (map entry_of es) ≡ map (λ e. e.0) es
slots_of [] = refl
slots_of (e ∷ es) = ap (λ l. e.0 ∷ l) (slots_of es)

pub waiting_is : (es : List (ℕ × Value)) (s n : ℕ) → map (λ e. e.0) (entries_from s es) ≡ waiting (record { decided = map entry_of es; slot = s; next = n })
waiting_is es s n = sym (ap (map (λ (e : Entry). e.slot)) (entries_from_is es s) ∙ slots_of (entries_from s es))

abbrev ten_from : List Entry → ℕ → ℕ → List Entry
ten_from es k n = filter (λ e. nat_le k e.slot && (nat_lt e.slot (k + 10) && nat_lt e.slot n)) es

-- nothing from the least undecided slot on
pub none_known : (es : List (ℕ × Value)) (k n : ℕ) → n ≤ k → ten_from (map entry_of es) k n ≡ []
none_known [] k n h = refl
none_known (e ∷ es) k n h =
    let no : (nat_le k e.0 && (nat_lt e.0 (k + 10) && nat_lt e.0 n)) ≡ false = go (nat_le k e.0) refl in
    rw no (none_known es k n h)
  where
    and_false : (u : Bool) → (u && false) ≡ false
    and_false true = refl
    and_false false = refl

    go : (u : Bool) → nat_le k e.0 ≡ u → (nat_le k e.0 && (nat_lt e.0 (k + 10) && nat_lt e.0 n)) ≡ false
    go true p = let from : k ≤ e.0 = grind (arith, nat_tests) in rw (p, le-ltb e.0 n (omega arith)) (and_false (nat_lt e.0 (k + 10)))
    go false p = rw p refl

pub known_is : (es : List (ℕ × Value)) (k n t : ℕ) → t ≡ min n (k + 10) → map entry_of (entries_within k t es) ≡ ten_from (map entry_of es) k n
known_is [] k n t h = refl
known_is (e ∷ es) k n t h = go (nat_le k e.0 && nat_lt e.0 t) refl (both (nat_lt e.0 (k + 10)) (nat_lt e.0 n) refl refl) (known_is es k n t h)
  where
    both : (u w : Bool) → nat_lt e.0 (k + 10) ≡ u → nat_lt e.0 n ≡ w → nat_lt e.0 t ≡ (nat_lt e.0 (k + 10) && nat_lt e.0 n)
    both true true p q = let a : e.0 < k + 10 = ltb-true e.0 (k + 10) p in let b : e.0 < n = ltb-true e.0 n q in rw (p, q, lt-ltb e.0 t (omega arith)) refl
    both true false p q = let b : n ≤ e.0 = ltb-false e.0 n q in rw (p, q, le-ltb e.0 t (omega arith)) refl
    both false w p q = let a : k + 10 ≤ e.0 = ltb-false e.0 (k + 10) p in rw (p, le-ltb e.0 t (omega arith)) refl

    go : (u : Bool) → (nat_le k e.0 && nat_lt e.0 t) ≡ u → nat_lt e.0 t ≡ (nat_lt e.0 (k + 10) && nat_lt e.0 n) → map entry_of (entries_within k t es) ≡ ten_from (map entry_of es) k n → map entry_of (entries_within k t (e ∷ es)) ≡ ten_from (map entry_of (e ∷ es)) k n
    go true p h r = rw (← h, p) (ap (λ l. entry_of e ∷ l) r)
    go false p h r = rw (← h, p) r

-- one more is known, and one less is left
pub shifts : (ks : List KnownSlot) (k : KnownSlot) (e : ℕ × Value) (es fs : List (ℕ × Value)) → es ≡ e ∷ fs → entry_in k ≡ entry_of e → map entry_in (ks ++ k ∷ []) ++ map entry_of fs ≡ map entry_in ks ++ map entry_of es
shifts [] k e es fs p q = rw (p, q) refl
shifts (x ∷ ks) k e es fs p q = ap (λ l. entry_in x ∷ l) (shifts ks k e es fs p q)
