-- The steps of a script that is made are within their ranges.
use Rattle.std.proofs.Common.{◌<◌, ◌≤◌, ◌+◌, ◌%◌, ◌^◌, ◌==◌, cond, true, false, Bool, ℕ, zero, suc, List, [], ◌∷◌, ◌++◌, length, codes, arith, nat_lt, refl}
use Rattle.std.proofs.lemmas.List.{length-append}
use Rattle.std.proofs.lemmas.Fmt.{length-decimal-le}
use Rattle.std.specs.List.{AllByRecursion}
use Rattle.std.specs.Fmt.{decimal}
use Rattle.key_items.specs.declared.change.ChangeKind.{ChangeKind}
use Rattle.key_items.specs.declared.change.ChangeKind.TheVariants.{Insert as Inserts, Update as Updates}
use Rattle.key_items.specs.Spelling.{IsItem}
use Rattle.group_rules.specs.declared.requests.Operator.TheVariants.{Tell}
use Rattle.group_rules.specs.declared.steps.Step.{Step}
use Rattle.group_rules.specs.declared.steps.Step.TheVariants.{Settle, Work, Tick, Operate}
use Rattle.script_text.specs.declared.line.Line.{Line}
use Rattle.script_text.specs.Make.{after_draw, draw, founding, key_of, lines_up_to, made, once_step, state_before, step_by, step_drawn, value_of}
use Rattle.script_text.specs.Ranges.{IsChangeKind, IsInRange, IsServer, IsStep, IsValue}

all_append : (P : Line → Type 0) (xs ys : List Line) → AllByRecursion P xs → AllByRecursion P ys → AllByRecursion P (xs ++ ys)
all_append P [] ys p q = q
all_append P (x ∷ xs) ys p q = (p.0, all_append P xs ys p.1 q)

short : (n : ℕ) → n < 2 ^ 64 → length (decimal n) ≤ 20
short n small = length-decimal-le 20 n (omega arith) (omega arith) small

key_in_range : (k : ℕ) → k < 100 → IsItem (key_of k)
key_in_range k small =
    let s = short k (omega arith) in
    let l = length-append (codes "k") (decimal k) in
    record { table_above = omega arith; table_below = omega arith; key_above = omega (arith, s, l); key_below = omega (arith, s, l) }

value_in_range : (i : ℕ) → i ≤ 20000 → IsValue (value_of i)
value_in_range i small =
    let s = short i (omega arith) in
    let l = length-append (codes "v") (decimal i) in
    (omega (arith, s, l), omega (arith, s, l))

once_in_range : (i server key : ℕ) (what : ChangeKind) → i ≤ 20000 → IsServer server → key < 100 → IsChangeKind what → IsStep (once_step i server key what)
unfolding IsStep
once_in_range i server key what small s k w = (s, (omega arith, omega arith), (key_in_range key k, w))

choose : (b : Bool) (x y : Step) → IsStep x → IsStep y → IsStep (cond b x y)
choose true x y p q = p
choose false x y p q = q

step_in_range : (i kind server key : ℕ) → i ≤ 20000 → IsServer server → key < 100 → IsStep (step_by i kind server key)
unfolding step_by IsStep
step_in_range i kind server key small s k =
    choose (nat_lt kind 2) _ _ (once_in_range i server key (Inserts (value_of i)) small s k (value_in_range i small))
    (choose (nat_lt kind 4) _ _ (once_in_range i server key (Updates (value_of i)) small s k (value_in_range i small))
    (choose (kind == 4) (Settle []) _ tt
    (choose (kind == 5) (Work server _) _ (s, tt)
    (choose (kind == 6) (Tick server 1) (Operate server Tell) (s, (omega arith, omega arith)) (s, tt)))))

drawn_in_range : (i x : ℕ) → i ≤ 20000 → IsStep (step_drawn i x)
unfolding step_drawn
drawn_in_range i x small = step_in_range i (draw x % 8) (draw (after_draw x) % 3 + 1) (draw (after_draw (after_draw x)) % 100) small (omega arith, omega arith) (omega arith)

founding_in_range : IsStep founding
unfolding IsStep
founding_in_range = record {
  horizon = (omega arith, omega arith);
  expel = omega arith;
  majority = omega arith;
  count = (omega arith, omega arith);
  distinct = refl;
  servers = ((omega arith, omega arith), ((omega arith, omega arith), ((omega arith, omega arith), tt)));
}

lines_in_range : (from n : ℕ) → n ≤ 20000 → AllByRecursion IsInRange (lines_up_to from n)
lines_in_range from zero small = (founding_in_range, tt)
lines_in_range from (suc i) small = all_append IsInRange (lines_up_to from i) _ (lines_in_range from i (omega arith)) (drawn_in_range (i + 1) (state_before from i) (omega arith), tt)

pub made_in_range : (n from : ℕ) → n ≤ 20000 → AllByRecursion IsInRange (made n from)
unfolding made IsStep
made_in_range n from small = all_append IsInRange (lines_up_to from n) _ (lines_in_range from n small) (tt, tt)
