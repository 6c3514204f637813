use Rattle.std.proofs.Common.{◌≡◌, ℕ, ◌+◌, ◌-◌, ◌*◌, ◌/◌, ◌^◌, ◌<◌, ◌≤◌, true, suc, List, length, get_or, take, drop, refl, sym, ap, ◌∙◌, subst, inl, inr, arith, add-one}
use Rattle.std.proofs.lemmas.List.{length-take-le}
use Rattle.std.proofs.lemmas.Bool.{cases_lt}
use Rattle.std.proofs.Math.Nat.{pow-le-pow_right}
use Rattle.byte_forms.specs.Numbers.{number_of, are_bytes}
use Rattle.byte_forms.specs.Reads.{Got, Fault}
use Rattle.byte_forms.specs.Fields.{begins_number, number_in}
use Rattle.byte_forms.proofs.NumberLemmas.{number_of-below}
use Rattle.byte_forms.proofs.FieldLemmas.{are_bytes_from, are_bytes-take, number_of_more, begins_more, begins_no_more, no_range, number-whole, number-short, number-stops, number_in-got}
use Rattle.byte_forms.proofs.numbers.read_number.Goals as goal
use Rattle.byte_forms.proofs.numbers.read_number.Goals.{then-value-low-via-then-value-low, then-value-low-via-else-value-low+then-value-high}

-- the number of fewer than eight bytes leaves room for one more
room : (bytes : List ℕ) (i : ℕ) → are_bytes bytes ≡ true → i < 8 → i ≤ length bytes → number_of (take i bytes) < 256 ^ 7
room bytes i all lt few =
    let small : number_of (take i bytes) < 256 ^ i = subst (λ (k : ℕ). number_of (take i bytes) < 256 ^ k) (length-take-le i bytes few) (number_of-below (take i bytes) (are_bytes-take i bytes all)) in
    omega (arith, pow-le-pow_right {n = 256} (omega arith) {i = i} {j = 7} (omega arith))

pub returns-then-low-high : goal.returns-then-low-high
returns-then-low-high c = (omega arith, no_range c.args.width c.args.low c.args.high c.args.bytes.now c.requires.some c.if-low-high.true ∙ ap Fault (let same : length c.args.bytes.now ≡ length c.args.bytes.now - 0 = omega arith in same))

pub loop-i-init : goal.loop-i-init
unfolding number_of
loop-i-init c = record { in_order = c.if-low-high.false; within = omega arith; value = refl; passes = λ j pos le. absurd (omega arith) }

pub returns-then-i-bytes : goal.returns-then-i-bytes
returns-then-i-bytes c =
    let short = number-short c.args.width c.args.low c.args.high c.args.bytes.now (omega (arith, c.if-i-bytes.true)) (λ j pos le. c.loop-i.invariant.passes j pos (omega (arith, c.if-i-bytes.true))) in
    (omega arith, short ∙ ap Fault (let none : 0 ≡ length c.args.bytes.now - length c.args.bytes.now = omega arith in none))

pub overflow_mul-value : goal.overflow_mul-value
overflow_mul-value c =
    omega (arith, c.loop-i.invariant.value, room c.args.bytes.now c.loop-i.i (are_bytes_from c.args.bytes.now (λ k. omega (arith, c.type_inv.bytes k))) (omega arith) c.loop-i.invariant.within)

pub overflow_add-value : goal.overflow_add-value
overflow_add-value c =
    omega (arith, c.loop-i.invariant.value, c.type_inv.bytes c.loop-i.i, room c.args.bytes.now c.loop-i.i (are_bytes_from c.args.bytes.now (λ k. omega (arith, c.type_inv.bytes k))) (omega arith) c.loop-i.invariant.within)

-- the value with one byte more
grown : (bytes : List ℕ) (i value : ℕ) → i < length bytes → value ≡ number_of (take i bytes) → value * 256 + get_or bytes i 0 ≡ number_of (take (suc i) bytes)
grown bytes i value lt is = ap (λ m. m * 256 + get_or bytes i 0) is ∙ sym (number_of_more bytes i lt)

pub returns-then-value-low : goal.returns-then-value-low
returns-then-value-low c =
    let lt : c.loop-i.i < length c.args.bytes.now = omega (arith, c.if-i-bytes.false, c.loop-i.invariant.within) in
    let is = grown c.args.bytes.now c.loop-i.i c.loop-i.value lt c.loop-i.invariant.value in
    let stops = begins_no_more c.args.width c.args.low c.args.high c.loop-i.i _ (8 * (c.args.width - 1 - c.loop-i.i)) c.args.bytes.now c.loop-i-test.true lt is refl
    (elim c.then-value-low.branch [ then-value-low-via-then-value-low w ↦ inl w.if-value-low.true | then-value-low-via-else-value-low+then-value-high w ↦ inr w.if-value-high.true ]) in
    (c.loop-i.invariant.within, number-stops c.args.width c.args.low c.args.high c.args.bytes.now c.loop-i.i c.loop-i-test.true lt c.loop-i.invariant.passes stops)

pub loop-i-preserved : goal.loop-i-preserved
loop-i-preserved c =
    let lt : c.loop-i.i < length c.args.bytes.now = omega (arith, c.if-i-bytes.false, c.loop-i.invariant.within) in
    let is = grown c.args.bytes.now c.loop-i.i c.loop-i.value lt c.loop-i.invariant.value in
    let all = are_bytes_from c.args.bytes.now (λ k. omega (arith, c.type_inv.bytes k)) in
    let more = begins_more c.args.width c.args.low c.args.high c.loop-i.i _ (8 * (c.args.width - 1 - c.loop-i.i)) c.args.bytes.now c.loop-i-test.true lt c.loop-i.invariant.in_order all is refl c.if-value-low.false c.if-value-high.false in
    record {
      in_order = c.loop-i.invariant.in_order;
      within = omega arith;
      value = is ∙ ap (λ k. number_of (take k c.args.bytes.now)) (sym (add-one c.loop-i.i));
      passes = λ j pos le. elim (cases_lt j (c.loop-i.i + 1)) [
        | inl below ↦ c.loop-i.invariant.passes j pos (omega arith)
        | inr above ↦ (let last : suc c.loop-i.i ≡ j = omega arith in subst (λ (m : ℕ). begins_number c.args.width c.args.low c.args.high (take m c.args.bytes.now) ≡ true) last more)
      ];
    }

pub returns : goal.returns
returns c =
    let end : c.loop-i.i ≡ c.args.width = omega arith in
    let enough : c.args.width ≤ length c.args.bytes.now = omega (arith, c.loop-i.invariant.within) in
    let got = number-whole c.args.width c.args.low c.args.high c.args.bytes.now enough (λ j pos le. c.loop-i.invariant.passes j pos (omega arith)) in
    let is : c.loop-i.value ≡ number_of (take c.args.width c.args.bytes.now) = c.loop-i.invariant.value ∙ ap (λ k. number_of (take k c.args.bytes.now)) end in
    let at : number_in c.args.width c.args.low c.args.high c.args.bytes.now ≡ Got c.loop-i.value (drop c.args.width c.args.bytes.now) = got ∙ ap (λ n. Got n (drop c.args.width c.args.bytes.now)) (sym is) in
    let read = number_in-got c.args.width c.args.low c.args.high c.loop-i.value c.args.bytes.now _ c.requires.some at in
    (enough, read.above, read.below, at)
