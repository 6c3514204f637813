-- Each part that is cut has the form of parts.
use Rattle.std.proofs.Common.{◌≡◌, ℕ, zero, suc, ◌+◌, ◌-◌, ◌*◌, ◌<◌, ◌≤◌, Bool, true, false, List, length, take, drop, refl, arith, length-take, length-drop}
use Rattle.std.specs.Prelude.{◌==◌, if◌then◌else◌, min}
use Rattle.std.specs.List.{AllByRecursion}
use Rattle.std.proofs.lemmas.Bool.{eqb-false}
use Rattle.name_forms.specs.OpenParts.{part_size}
use Rattle.txn_forms.specs.Bodies.{IsPart}
use Rattle.group_rules.specs.Parts.{cut, cut_from}

-- so many parts of these bytes are left
record IsLeft (k c n : ℕ) : Type 0 where
  below : k ≤ c
  two : 2 ≤ c
  few : c ≤ 257
  enough : n ≤ k * 65523
  needed : k * 65523 < n + 65523

part_fits : (k c : ℕ) (b : List ℕ) → IsLeft (suc k) c (length b) → IsPart (record { index = c - k; count = c; bytes = take part_size b })
part_fits k c b h =
    let below = h.below in
    let two = h.two in
    let few = h.few in
    let enough = h.enough in
    let needed = h.needed in
    let long : length (take part_size b) ≡ min 65523 (length b) = length-take part_size b in
    record {
      index_above = omega arith;
      index_below = omega arith;
      count_above = two;
      count_below = few;
      bytes_above = go ((c - k) == c) refl;
      bytes_below = omega (arith, long);
    }
  where
    go : (t : Bool) → ((c - k) == c) ≡ t → (if (c - k) == c then 1 else part_size) ≤ length (take part_size b)
    go true e = let needed = h.needed in let long : length (take part_size b) ≡ min 65523 (length b) = length-take part_size b in rw e (omega (arith, long))
    go false e =
        let below = h.below in
        let two = h.two in
        let needed = h.needed in
        let long : length (take part_size b) ≡ min 65523 (length b) = length-take part_size b in
        let other : (c - k) ≡ c → ⊥ = eqb-false (c - k) c e in
        rw e (omega (arith, long))

-- all that are left
parts_fit : (k c : ℕ) (b : List ℕ) → IsLeft k c (length b) → AllByRecursion IsPart (cut_from k c b)
parts_fit zero c b h = tt
parts_fit (suc k) c b h = (
  part_fits k c b h,
  parts_fit k c (drop part_size b) (record {
    below = let x = h.below in omega arith;
    two = h.two;
    few = h.few;
    enough = let x = h.enough in omega (arith, length-drop part_size b);
    needed = let x = h.needed in let y = h.enough in omega (arith, length-drop part_size b);
  }),
)

pub cut_fits : (b : List ℕ) → 65536 < length b → length b ≤ 16777216 → AllByRecursion IsPart (cut b)
cut_fits b low high = parts_fit _ _ b (record {
  below = omega arith;
  two = omega arith;
  few = omega arith;
  enough = omega arith;
  needed = omega arith;
})
