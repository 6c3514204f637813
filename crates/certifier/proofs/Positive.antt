-- A positive transaction: the blocks taken, the last numbers and the items after it.
use Rattle.std.proofs.Common.{◌≡◌, ℕ, suc, ◌+◌, ◌*◌, ◌%◌, ◌≤◌, ◌<◌, ◌^◌, ◌⊎◌, inl, inr, Bool, true, false, cond, Option, Some, None, List, refl, sym, ap, subst, ◌∙◌, arith, eqb}
use Rattle.std.specs.Prelude.{if◌then◌else◌, option_map, is_some, IsSome, IfSome}
use Rattle.std.specs.Map.{lookup}
use Rattle.std.specs.BTreeMap.{BTreeMap, IsOrdered, Updates, get, is_at}
use Rattle.std.specs.Ordering.{is_eq}
use Rattle.std.proofs.lemmas.Map.Lookups.{btree_map_from_get}
use Rattle.std.proofs.lemmas.Bool.{eqb-false, eq-eqb}
use Rattle.std.proofs.lemmas.Nat.{mul-le}
use Rattle.gtid_sets.specs.Canonical.{IsNumber}
use Rattle.std.proofs.Math.Nat.{eq-or-lt_of_le, mul-add-mod_self_right, mul-mod_left, suc-mul}
use Rattle.gr_ids.specs.declared.names.Inc.{Inc}
use Rattle.gr_ids.specs.declared.names.Gtid.{Gtid}
use Rattle.gr_ids.specs.declared.names.LastNumber.{LastNumber}
use Rattle.key_items.specs.declared.item.KeptItem.{KeptItem}
use Rattle.txn_forms.specs.declared.body.Txn.{Txn}
use Rattle.group_rules.specs.Certifier.{blocker, next_gtid, number_after, opens_block, with_last, written_by}
use Rattle.certifier.specs.Blockers.{writer_of}
use Rattle.certifier.specs.Certifying.{Certifying, limits_of, with_txn}
use Rattle.certifier.specs.Inside.{IsSound}
use Rattle.node_rules.specs.Order.{inc_cmp}
use Rattle.node_rules.proofs.Incs.{inc_is}
use Rattle.node_rules.proofs.IncOrder.{inc_cmp_total, inc_eq_cmp}

pub no_blocker : (o : Option KeptItem) → option_map writer_of o ≡ None → o ≡ None
no_blocker None e = refl
no_blocker (Some k) e = absurd (cc e)

-- what a positive transaction leaves
pub made_positive : (c : Certifying) (p : ℕ) (m : Inc) (t : Txn) (g : Gtid) (blocks : ℕ) (last : List LastNumber) (items : List KeptItem)
    → blocker c.certified.items t ≡ None → g ≡ next_gtid (limits_of c) c.certified m
    → blocks ≡ (if opens_block c.block g.number then suc c.certified.blocks else c.certified.blocks)
    → last ≡ with_last c.certified.last (record { inc = m; number = g.number })
    → items ≡ written_by p g t.items c.certified.items
    → let made : Certifying = record { group = c.group; block = c.block; certified = record { blocks = blocks; last = last; items = items } } in made ≡ with_txn p m t c
made_positive c p m t g blocks last items none is b l i = rw (b, l, i, none, is) refl

-- ---- numbers

-- the first number of a block opens it
opens_first : (b q : ℕ) → opens_block b (q * b + 1) ≡ true
opens_first b q = eq-eqb ((q * b + 1) % b) (1 % b) (mul-add-mod_self_right q b 1)

-- a number that ends no block isn't the last of those taken
not_last : (b q n : ℕ) → eqb (n % b) 0 ≡ false → n ≤ q * b → n + 1 ≤ q * b
not_last b q n e l = let ne = eqb-false (n % b) 0 e in go ne (λ z. ap (λ k. k % b) z ∙ mul-mod_left q b)
  where
    go : (n % b ≡ 0 → ⊥) → (n ≡ q * b → n % b ≡ 0) → n + 1 ≤ q * b
    go ne f = by_order (eq-or-lt_of_le l)
      where
        by_order : (n ≡ q * b) ⊎ (n < q * b) → n + 1 ≤ q * b
        by_order (inl a) = absurd (ne (f a))
        by_order (inr a) = omega arith

pub in_blocks : (b q : ℕ) (o : Option ℕ) → IfSome o (λ n. n ≤ q * b) → opens_block b (number_after b q o) ≡ false → number_after b q o ≤ q * b
in_blocks b q None h e = absurd (let z = opens_first b q in cc)
in_blocks b q (Some n) h e = go (eqb (n % b) 0) refl e
  where
    go : (u : Bool) → eqb (n % b) 0 ≡ u → opens_block b (number_after b q (Some n)) ≡ false → number_after b q (Some n) ≤ q * b
    go true f k = absurd (let z = opens_first b q in let k2 : opens_block b (q * b + 1) ≡ false = rw f at k in cc)
    go false f k = rw f (not_last b q n f h)

next_block : (b q : ℕ) → (q + 1) * b ≡ q * b + b
next_block b q = let e : q + 1 ≡ suc q = omega arith in ap (λ k. k * b) e ∙ suc-mul q b

pub wider : (b q : ℕ) → q * b ≤ (q + 1) * b
wider b q = omega (arith, next_block b q)

pub in_next_block : (b q : ℕ) (o : Option ℕ) → 1 ≤ b → IfSome o (λ n. n ≤ q * b) → number_after b q o ≤ (q + 1) * b
in_next_block b q o l h = go o h
  where
    go : (o : Option ℕ) → IfSome o (λ n. n ≤ q * b) → number_after b q o ≤ (q + 1) * b
    go None h = omega (arith, next_block b q)
    go (Some n) h = at (eqb (n % b) 0) refl
      where
        at : (u : Bool) → eqb (n % b) 0 ≡ u → number_after b q (Some n) ≤ (q + 1) * b
        at true f = rw f (omega (arith, next_block b q))
        at false f = rw f (let m : n ≤ q * b = h in omega (arith, next_block b q))

-- ---- what is sound stays so

pub sound_with : (b q p : ℕ) (es fs : List (Inc × ℕ)) (m : Inc) (n : ℕ) → IsSound b q es
    → ((i : Inc) → lookup (is_at (inc_cmp i)) fs ≡ cond (is_at (inc_cmp m) i) (Some n) (lookup (is_at (inc_cmp i)) es))
    → n ≤ p * b → q * b ≤ p * b → IsSound b p fs
sound_with b q p es fs m n s put l k = record { least = s.least; most = s.most; numbers = numbers }
  where
    with_more : (o : Option ℕ) → IfSome o (λ n. n ≤ q * b) → IfSome o (λ n. n ≤ p * b)
    with_more None h = tt
    with_more (Some x) h = let g : x ≤ q * b = h in omega arith

    numbers : (i : Inc) → IfSome (lookup (is_at (inc_cmp i)) fs) (λ n. n ≤ p * b)
    numbers i = subst (λ (o : Option ℕ). IfSome o (λ n. n ≤ p * b)) (sym (put i)) (either (is_at (inc_cmp m) i))
      where
        either : (u : Bool) → IfSome (cond u (Some n) (lookup (is_at (inc_cmp i)) es)) (λ n. n ≤ p * b)
        either true = l
        either false = with_more (lookup (is_at (inc_cmp i)) es) (s.numbers i)

-- an origin that is given the number that it had before
pub undone : (i : Inc) (was mid now : BTreeMap Inc ℕ) (n : ℕ) (before : Option ℕ) → before ≡ get inc_cmp was i → Updates inc_cmp was mid i (Some n)
    → ((IsSome before → IsSome (get inc_cmp mid i)) → (q : Inc) → get inc_cmp now q ≡ cond (is_eq (inc_cmp i q)) before (get inc_cmp mid q))
    → IsOrdered inc_cmp was → IsOrdered inc_cmp now → now.entries ≡ was.entries
undone i was mid now n before e u b o p = btree_map_from_get inc_cmp_total now was p o at (λ x y t. inc_is x y (inc_eq_cmp x y ∙ ap is_eq t))
  where
    here : (q : Inc) → get inc_cmp now q ≡ cond (is_eq (inc_cmp i q)) before (get inc_cmp mid q)
    here = b (λ s. ap is_some u.1)

    at : (q : Inc) → get inc_cmp now q ≡ get inc_cmp was q
    at q = go (is_eq (inc_cmp i q)) refl (here q) (u.0 q)
      where
        go : (v : Bool) → is_eq (inc_cmp i q) ≡ v → get inc_cmp now q ≡ cond (is_eq (inc_cmp i q)) before (get inc_cmp mid q)
            → get inc_cmp mid q ≡ cond (is_at (inc_cmp i) q) (Some n) (get inc_cmp was q) → get inc_cmp now q ≡ get inc_cmp was q
        go true f h k =
            let same : i ≡ q = inc_is i q (inc_eq_cmp i q ∙ f) in
            h ∙ (ap (λ c. cond c before (get inc_cmp mid q)) f ∙ (e ∙ ap (get inc_cmp was) same))
        go false f h k = h ∙ (ap (λ c. cond c before (get inc_cmp mid q)) f ∙ (k ∙ ap (λ c. cond c (Some n) (get inc_cmp was q)) f))

-- ---- a number that a GTID may have

at_least_one : (b q : ℕ) (o : Option ℕ) → 1 ≤ number_after b q o
at_least_one b q None = omega arith
at_least_one b q (Some n) = go (eqb (n % b) 0) refl
  where
    go : (u : Bool) → eqb (n % b) 0 ≡ u → 1 ≤ number_after b q (Some n)
    go true f = rw f (omega arith)
    go false f = rw f (omega arith)

pub fits : (b q : ℕ) (o : Option ℕ) → 1 ≤ b → b ≤ 1000000 → q < 2 ^ 42 → IfSome o (λ n. n ≤ q * b) → IsNumber (number_after b q o)
fits b q o l m h w =
    let p : number_after b q o ≤ (q + 1) * b = in_next_block b q o l w in
    let k : (q + 1) * b ≤ 4398046511104 * 1000000 = mul-le (q + 1) b 4398046511104 1000000 (omega (arith, h)) m in
    (at_least_one b q o, omega (arith, p, k))
