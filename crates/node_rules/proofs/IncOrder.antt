-- The order of incarnations is total, and its tests are those of the order.
use Rattle.std.proofs.Common.{◌≡◌, ℕ, ◌<◌, Bool, true, false, ltb, eqb, cond, refl, ap, ◌∙◌, arith}
use Rattle.std.specs.Prelude.{nat_lt, ◌==◌}
use Rattle.std.specs.Ordering.{nat_cmp, ordering_reverse, is_eq, is_lt}
use Rattle.std.specs.declared.cmp.Ordering.{Ordering}
use Rattle.std.specs.declared.cmp.Ordering.TheVariants.{Less, Equal, Greater}
use Rattle.std.specs.Cmp.{IsTotalOrder, unsigned_ties}
use Rattle.std.proofs.lemmas.Cmp.{then_total, on_total, nat_cmp_total}
use Rattle.std.proofs.lemmas.Bool.{eqb-true, ltb-true}
use Rattle.gr_ids.specs.declared.names.Inc.{Inc}
use Rattle.gr_ids.specs.Names.{inc_eq, inc_lt}
use Rattle.node_rules.specs.Order.{inc_cmp}

pub inc_cmp_total : IsTotalOrder inc_cmp
inc_cmp_total = then_total (on_total (λ (i : Inc). i.server) nat_cmp_total) (on_total (λ (i : Inc). i.start) nat_cmp_total)

below : (x y : ℕ) → nat_lt x y ≡ is_lt (nat_cmp x y)
below x y = go (nat_lt x y) refl
  where
    go : (b : Bool) → nat_lt x y ≡ b → nat_lt x y ≡ is_lt (nat_cmp x y)
    go true e = rw e refl
    go false e = rw e (other (x == y))
      where
        other : (c : Bool) → false ≡ is_lt (cond c Equal Greater)
        other true = refl
        other false = refl

pub inc_lt_cmp : (a b : Inc) → inc_lt a b ≡ is_lt (inc_cmp a b)
inc_lt_cmp a b = go (ltb a.server b.server) (eqb a.server b.server) refl refl
  where
    go : (l e : Bool) → ltb a.server b.server ≡ l → eqb a.server b.server ≡ e → inc_lt a b ≡ is_lt (inc_cmp a b)
    go true true p q = let l : a.server < b.server = ltb-true a.server b.server p in let e : a.server ≡ b.server = eqb-true a.server b.server q in absurd (omega arith)
    go true false p q = rw (p, q) refl
    go false true p q = rw (p, q) (below a.start b.start)
    go false false p q = rw (p, q) refl

pub inc_eq_cmp : (a b : Inc) → inc_eq a b ≡ is_eq (inc_cmp a b)
inc_eq_cmp a b = go (ltb a.server b.server) (eqb a.server b.server) refl refl
  where
    go : (l e : Bool) → ltb a.server b.server ≡ l → eqb a.server b.server ≡ e → inc_eq a b ≡ is_eq (inc_cmp a b)
    go true true p q = let l : a.server < b.server = ltb-true a.server b.server p in let e : a.server ≡ b.server = eqb-true a.server b.server q in absurd (omega arith)
    go true false p q = rw (p, q) refl
    go false true p q = rw (p, q) (unsigned_ties a.start b.start)
    go false false p q = rw (p, q) refl

turned : (o : Ordering) → is_eq (ordering_reverse o) ≡ is_eq o
turned Less = refl
turned Equal = refl
turned Greater = refl

pub inc_eq_back : (a b : Inc) → inc_eq b a ≡ is_eq (inc_cmp a b)
inc_eq_back a b = inc_eq_cmp b a ∙ (ap is_eq (inc_cmp_total.antisymm b a) ∙ turned (inc_cmp a b))
