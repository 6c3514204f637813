-- The index after a change of one lane, and after one more letter.
use Rattle.std.proofs.Common.{◌≡◌, ◌⊎◌, inl, inr, ℕ, ◌<◌, ◌≤◌, true, nat_lt, Some, List, [], ◌∷◌, ◌++◌, length, sym, ap, subst, ◌∙◌, arith}
use Rattle.std.specs.Prelude.{slice_set}
use Rattle.std.specs.List.{filter, list_any, remove, slice_get}
use Rattle.std.proofs.lemmas.Bool.{and_from, and_parts, and_right, lt-ltb}
use Rattle.std.proofs.lemmas.Option.{slice_get_within}
use Rattle.group_rules.specs.Script.{Letter}
use Rattle.world_wire.specs.Nexts.{is_open}
use Rattle.world_wire.specs.Lanes.{IsIndex, LaneOf, cut_at, dropped, dropped_in, has_index, is_between, lists, opens, put_at, rises}
use Rattle.world_wire.proofs.Members.{all_at, all_pass, all_removed, all_set, any_removed, any_set, any_there, dropped_has, dropped_rises, filter_has, filter_rises, get_push, push_has, push_has_it, push_rises}

pub lane_rises : (ls : List LaneOf) (xs : List Letter) (at : ℕ) (l : LaneOf) → slice_get ls at ≡ Some l → IsIndex ls xs → rises l.indexes ≡ true
lane_rises ls xs at l g ix = all_at (λ m. rises m.indexes) ls at l g ix.rising

changed : (ls : List LaneOf) (xs : List Letter) (at : ℕ) (l : LaneOf) (is : List ℕ) → slice_get ls at ≡ Some l → rises is ≡ true
    → ((i : ℕ) (x : Letter) → slice_get xs i ≡ Some x → is_open x ≡ true → has_index l.indexes i ≡ true → has_index is i ≡ true)
    → IsIndex ls xs → IsIndex (slice_set ls at (record l { indexes = is })) xs
changed ls xs at l is g r h ix = record {
  rising = all_set (λ m. rises m.indexes) ls at (record l { indexes = is }) r ix.rising;
  complete = λ i x e o. any_set (lists i x) ls at l (record l { indexes = is }) g (λ p.
      let parts = and_parts (is_between x.message.to x.message.from.server l) (has_index l.indexes i) p in
      and_from _ _ parts.0 (h i x e o parts.1)) (ix.complete i x e o);
}

pub cut_keeps : (ls : List LaneOf) (xs : List Letter) (at : ℕ) (l : LaneOf) (n : ℕ) → length xs ≤ n → slice_get ls at ≡ Some l → IsIndex ls xs → IsIndex (slice_set ls at (cut_at n l)) xs
cut_keeps ls xs at l n s g ix =
    changed ls xs at l (filter (λ j. nat_lt j n) l.indexes) g (filter_rises (λ j. nat_lt j n) l.indexes (lane_rises ls xs at l g ix))
    (λ i x e o h. let low : i < n = omega (arith, slice_get_within xs i x e) in filter_has (λ j. nat_lt j n) l.indexes i (lt-ltb i n low) h) ix

pub put_keeps : (ls : List LaneOf) (xs : List Letter) (at : ℕ) (l : LaneOf) (n : ℕ) → length xs ≤ n → slice_get ls at ≡ Some l → IsIndex ls xs → IsIndex (slice_set ls at (put_at n l)) xs
put_keeps ls xs at l n s g ix =
    changed ls xs at l (filter (λ j. nat_lt j n) l.indexes ++ n ∷ []) g
    (push_rises (filter (λ j. nat_lt j n) l.indexes) n (all_pass (λ j. nat_lt j n) l.indexes) (filter_rises (λ j. nat_lt j n) l.indexes (lane_rises ls xs at l g ix)))
    (λ i x e o h.
    let low : i < n = omega (arith, slice_get_within xs i x e) in
    push_has (filter (λ j. nat_lt j n) l.indexes) n i (filter_has (λ j. nat_lt j n) l.indexes i (lt-ltb i n low) h)) ix

more : (ls : List LaneOf) (xs : List Letter) (x : Letter) → list_any (lists (length xs) x) ls ≡ true → IsIndex ls xs → IsIndex ls (xs ++ x ∷ [])
more ls xs x h ix = record {
  rising = ix.rising;
  complete = λ i y e o. go i y o (get_push xs x y i e);
}
  where
    go : (i : ℕ) (y : Letter) → is_open y ≡ true → (slice_get xs i ≡ Some y) ⊎ ((i ≡ length xs) × (x ≡ y)) → list_any (lists i y) ls ≡ true
    go i y o (inl e) = ix.complete i y e o
    go i y o (inr e) = subst (λ (z : Letter). list_any (lists i z) ls ≡ true) e.1 (subst (λ (k : ℕ). list_any (lists k x) ls ≡ true) (sym e.0) h)

pub put_adds : (ls : List LaneOf) (xs : List Letter) (at : ℕ) (l : LaneOf) (n : ℕ) (x : Letter) → length xs ≡ n → slice_get ls at ≡ Some l
    → is_between x.message.to x.message.from.server l ≡ true → IsIndex ls xs → IsIndex (slice_set ls at (put_at n l)) (xs ++ x ∷ [])
put_adds ls xs at l n x e g b ix =
    let has : lists n x (put_at n l) ≡ true = and_from _ _ b (push_has_it (filter (λ j. nat_lt j n) l.indexes) n) in
    let there : list_any (lists n x) (slice_set ls at (put_at n l)) ≡ true = any_there (lists n x) ls at l (put_at n l) g has in
    more (slice_set ls at (put_at n l)) xs x (subst (λ (k : ℕ). list_any (lists k x) (slice_set ls at (put_at n l)) ≡ true) (sym e) there)
    (put_keeps ls xs at l n (omega (arith, e)) g ix)

pub drop_keeps : (ls : List LaneOf) (xs : List Letter) (at : ℕ) (l : LaneOf) → slice_get ls at ≡ Some l → IsIndex ls xs → IsIndex (slice_set ls at (dropped_in xs l)) xs
drop_keeps ls xs at l g ix =
    changed ls xs at l (dropped xs l.indexes) g (dropped_rises xs l.indexes (lane_rises ls xs at l g ix))
    (λ i x e o h. dropped_has xs l.indexes i (ap opens e ∙ o) h) ix

-- an empty lane lists no letter
pub empty_goes : (ls : List LaneOf) (xs : List Letter) (at : ℕ) (l : LaneOf) → slice_get ls at ≡ Some l → l.indexes ≡ [] → IsIndex ls xs → IsIndex (remove ls at) xs
empty_goes ls xs at l g n ix = record {
  rising = all_removed (λ m. rises m.indexes) ls at ix.rising;
  complete = λ i x e o. any_removed (lists i x) ls at l g (and_right _ _ (ap (λ is. has_index is i) n)) (ix.complete i x e o);
}
