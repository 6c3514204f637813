-- Numbers drawn from blocks are distinct.
use Rattle.std.proofs.Common.{◌≡◌, ◌⊎◌, inl, inr, ℕ, zero, suc, ◌+◌, ◌-◌, ◌*◌, ◌/◌, ◌%◌, ◌≤◌, ◌<◌, List, [], ◌∷◌, Option, Some, None, Bool, true, false, refl, sym, ◌∙◌, ap, arith, eqb}
use Rattle.std.proofs.lemmas.Bool.{cases_Bool, both_ways, eqb-false, eq-eqb, ne_eqb, cases_eq}
use Rattle.std.proofs.lemmas.Nat.{div-add-mod', mod_below, div-mul-add, mod-mul-add, div_below}
use Rattle.group_laws.specs.Lists.{Mem}
use Rattle.group_laws.specs.Names.{Inc, inc_eq}
use Rattle.group_laws.specs.Entries.{Cert}
use Rattle.group_laws.specs.Verdict.{last_of, blocks_taken, number_in}
use Rattle.group_rules.specs.Certifier.{number_after, opens_block}
use Rattle.node_rules.proofs.Incs.{inc_is, inc_same}
use Rattle.group_laws.proofs.Lists.{newest_mem}

abbrev pub num : Cert → ℕ
num c = c.gtid.number

-- each number is the one that the rule gives after the ones below it
abbrev pub Numbered : ℕ → List Cert → Type 0
Numbered b [] = Unit {0}
Numbered b (c ∷ cs) = (num c ≡ number_after b (blocks_taken b cs) (number_in (last_of c.origin cs))) × Numbered b cs

pub mod_zero : (q b : ℕ) → 0 < b → (q * b) % b ≡ 0
mod_zero q b h = ap (λ x. x % b) (omega arith) ∙ mod-mul-add q b 0 h

-- a number and the one before it are in one block where it is not the first of one
pub same_block : (b n : ℕ) → 0 < b → (n % b ≡ 0 → ⊥) → n / b ≡ (n - 1) / b
same_block b n h ne = go (n % b) refl
  where
    whole : n / b * b + n % b ≡ n
    whole = div-add-mod' n b

    go : (k : ℕ) → n % b ≡ k → n / b ≡ (n - 1) / b
    go zero e = absurd (ne e)
    go (suc k) e =
        let l = mod_below n b h in
        let e2 : (n / b) * b + k ≡ n - 1 = omega (arith, whole, e) in
        let lt : k < b = omega (arith, l, e) in
        sym (div-mul-add (n / b) b k lt) ∙ ap (λ x. x / b) e2

-- what holds of the numbers of a list
pub record Drawn (b : ℕ) (cs : List Cert) : Type 0 where
  pub low : (c : Cert) → Mem c cs → 0 < num c
  pub high : (c : Cert) → Mem c cs → num c ≤ blocks_taken b cs * b
  pub own : (c d : Cert) → Mem c cs → Mem d cs → (num c - 1) / b ≡ (num d - 1) / b → c.origin ≡ d.origin
  pub last : (c l : Cert) → Mem c cs → last_of c.origin cs ≡ Some l → num c ≤ num l

-- the next number, by its two cases
pub data NextIs (b : ℕ) (cs : List Cert) (o : Inc) (n : ℕ) : Type 0 where
  opens : n ≡ blocks_taken b cs * b + 1 → NextIs b cs o n
  goes_on : (l : Cert) → last_of o cs ≡ Some l → (num l % b ≡ 0 → ⊥) → n ≡ num l + 1 → NextIs b cs o n

pub next_is : (b : ℕ) (cs : List Cert) (o : Inc) (n : ℕ) → n ≡ number_after b (blocks_taken b cs) (number_in (last_of o cs)) → NextIs b cs o n
next_is b cs o n h = go (last_of o cs) refl
  where
    go : (u : Option Cert) → last_of o cs ≡ u → NextIs b cs o n
    go None e = opens (let h2 : n ≡ number_after b (blocks_taken b cs) (number_in None) = rw e at h in h2)
    go (Some l) e = at_test (eqb (num l % b) 0) refl
      where
        h2 : n ≡ number_after b (blocks_taken b cs) (number_in (Some l))
        h2 = rw e at h

        at_test : (v : Bool) → eqb (num l % b) 0 ≡ v → NextIs b cs o n
        at_test true f = opens (let h3 : n ≡ blocks_taken b cs * b + 1 = rw f at h2 in h3)
        at_test false f = goes_on l e (eqb-false (num l % b) 0 f) (let h3 : n ≡ num l + 1 = rw f at h2 in h3)

-- the last of an origin is of that origin
pub last_origin : (o : Inc) (cs : List Cert) (l : Cert) → last_of o cs ≡ Some l → Mem l cs × (l.origin ≡ o)
last_origin o cs l h = let x = newest_mem (λ c. inc_eq c.origin o) cs l h in (x.0, inc_is l.origin o x.1)

-- the next number is new
pub next_new : (b : ℕ) (cs : List Cert) (o : Inc) (n : ℕ) → 0 < b → Drawn b cs → NextIs b cs o n → (c : Cert) → Mem c cs → num c ≡ n → ⊥
next_new b cs o n h d (opens e) c i p = let k = d.high c i in omega (arith, k, e, p)
next_new b cs o n h d (goes_on l e ne f) c i p =
    let x = last_origin o cs l e in
    let pl = d.low l x.0 in
    let s : num l / b ≡ (num l - 1) / b = same_block b (num l) h ne in
    let cl : num c - 1 ≡ num l = omega (arith, p, f) in
    let t : (num c - 1) / b ≡ (num l - 1) / b = ap (λ y. y / b) cl ∙ s in
    let oo : c.origin ≡ o = d.own c l i x.0 t ∙ x.1 in
    let ll : last_of c.origin cs ≡ Some l = ap (λ y. last_of y cs) oo ∙ e in
    let m = d.last c l i ll in
    omega (arith, m, p, f)

-- how many blocks are taken after one more
pub mul_more : (q b : ℕ) → suc q * b ≡ q * b + b
mul_more q b = omega arith

one_left : (b : ℕ) → 1 < b → 1 % b ≡ 1
one_left b l = let e : 1 ≡ 0 * b + 1 = omega arith in ap (λ x. x % b) e ∙ mod-mul-add 0 b 1 l

-- the first number of a block leaves what 1 leaves
first_left : (b q : ℕ) → 0 < b → (q * b + 1) % b ≡ 1 % b
first_left b q h = go (cases_eq b 1)
  where
    go : (b ≡ 1) ⊎ (b ≡ 1 → ⊥) → (q * b + 1) % b ≡ 1 % b
    go (inl e) =
        let x = mod_below (q * b + 1) b h in
        let y = mod_below 1 b h in omega (arith, x, y, e)
    go (inr ne) = mod-mul-add q b 1 (omega (arith, h, ne)) ∙ sym (one_left b (omega (arith, h, ne)))

-- a number after one that doesn't end its block leaves something else
later_left : (b n : ℕ) → 0 < b → (n % b ≡ 0 → ⊥) → (n + 1) % b ≡ 1 % b → ⊥
later_left b n h ne e = go (cases_eq (n % b + 1) b)
  where
    whole : n / b * b + n % b ≡ n
    whole = div-add-mod' n b

    below : n % b < b
    below = mod_below n b h

    wide : 1 < b
    wide = let k = below in omega (arith, k, ne)

    one : 1 % b ≡ 1
    one = one_left b wide

    go : (n % b + 1 ≡ b) ⊎ (n % b + 1 ≡ b → ⊥) → ⊥
    go (inl f) =
        let w = whole in
        let m = mul_more (n / b) b in
        let e2 : n + 1 ≡ suc (n / b) * b + 0 = omega (arith, w, m, f) in
        let z : (n + 1) % b ≡ 0 = ap (λ x. x % b) e2 ∙ mod-mul-add (suc (n / b)) b 0 h in
        let o = one in omega (arith, z, o, e)
    go (inr g) =
        let w = whole in
        let l = below in
        let e2 : n + 1 ≡ n / b * b + (n % b + 1) = omega (arith, w) in
        let z : (n + 1) % b ≡ n % b + 1 = ap (λ x. x % b) e2 ∙ mod-mul-add (n / b) b (n % b + 1) (omega (arith, l, g)) in
        let o = one in omega (arith, z, o, e, ne)

pub opens_true : (b q : ℕ) (c : Cert) → 0 < b → num c ≡ q * b + 1 → opens_block b (num c) ≡ true
opens_true b q c h e = eq-eqb (num c % b) (1 % b) (ap (λ x. x % b) e ∙ first_left b q h)

pub opens_false : (b : ℕ) → 0 < b → (c l : Cert) → (num l % b ≡ 0 → ⊥) → num c ≡ num l + 1 → opens_block b (num c) ≡ false
opens_false b h c l ne e = ne_eqb (num c % b) (1 % b) (λ z. later_left b (num l) h ne (ap (λ x. x % b) (sym e) ∙ z))

pub taken_opens : (b : ℕ) (c : Cert) (cs : List Cert) → opens_block b (num c) ≡ true → blocks_taken b (c ∷ cs) ≡ suc (blocks_taken b cs)
taken_opens b c cs e = rw e refl

pub taken_same : (b : ℕ) (c : Cert) (cs : List Cert) → opens_block b (num c) ≡ false → blocks_taken b (c ∷ cs) ≡ blocks_taken b cs
taken_same b c cs e = rw e refl

pub last_here : (o : Inc) (c : Cert) (cs : List Cert) → c.origin ≡ o → last_of o (c ∷ cs) ≡ Some c
last_here o c cs e = let t : inc_eq c.origin o ≡ true = ap (λ x. inc_eq x o) e ∙ inc_same o in rw t refl

-- the last of an origin, in a list with one more
pub last_cases : (o : Inc) (c l : Cert) (cs : List Cert) → last_of o (c ∷ cs) ≡ Some l → (c ≡ l) ⊎ ((c.origin ≡ o → ⊥) × (last_of o cs ≡ Some l))
last_cases o c l cs h = go (inc_eq c.origin o) refl
  where
    go : (v : Bool) → inc_eq c.origin o ≡ v → (c ≡ l) ⊎ ((c.origin ≡ o → ⊥) × (last_of o cs ≡ Some l))
    go true e = inl (let h2 : Some c ≡ Some l = rw e at h in cc h2)
    go false e =
        let h2 : last_of o cs ≡ Some l = rw e at h in
        inr ((λ p. both_ways (inc_eq c.origin o) e (ap (λ x. inc_eq x o) p ∙ inc_same o)), h2)

pub block_below : (b q n : ℕ) → 0 < b → 0 < n → n ≤ q * b → (n - 1) / b < q
block_below b q n h p l = div_below (n - 1) b q h (omega arith)

pub block_of_first : (b q n : ℕ) → 0 < b → n ≡ q * b + 1 → (n - 1) / b ≡ q
block_of_first b q n h e = let e2 : n - 1 ≡ q * b + 0 = omega (arith, e) in ap (λ x. x / b) e2 ∙ div-mul-add q b 0 h

-- a number that is not a whole count of blocks is below one that is
pub not_whole : (b q n : ℕ) → 0 < b → n ≤ q * b → (n % b ≡ 0 → ⊥) → n + 1 ≤ q * b
not_whole b q n h l ne = go (cases_eq n (q * b))
  where
    go : (n ≡ q * b) ⊎ (n ≡ q * b → ⊥) → n + 1 ≤ q * b
    go (inl e) = absurd (ne (ap (λ x. x % b) e ∙ mod_zero q b h))
    go (inr k) = omega (arith, k)

module _ (b : ℕ) (h : 0 < b) (c : Cert) (cs : List Cert) (d : Drawn b cs) where
  drawn_opens : num c ≡ blocks_taken b cs * b + 1 → Drawn b (c ∷ cs)
  drawn_opens e = record { low = low; high = high; own = own; last = last }
    where
      q : ℕ
      q = blocks_taken b cs

      more : blocks_taken b (c ∷ cs) ≡ suc (blocks_taken b cs)
      more = taken_opens b c cs (opens_true b (blocks_taken b cs) c h e)

      low : (x : Cert) → Mem x (c ∷ cs) → 0 < num x
      low x (inl p) = let y : num c ≡ num x = ap num p in omega (arith, y, e)
      low x (inr p) = d.low x p

      high : (x : Cert) → Mem x (c ∷ cs) → num x ≤ blocks_taken b (c ∷ cs) * b
      high x (inl p) =
          let y : num c ≡ num x = ap num p in
          let z = mul_more (blocks_taken b cs) b in
          rw (more, z) (omega (arith, y, e))
      high x (inr p) =
          let y = d.high x p in
          let z = mul_more (blocks_taken b cs) b in
          rw (more, z) (omega (arith, y))

      apart : (x : Cert) → Mem x cs → (num c - 1) / b ≡ (num x - 1) / b → ⊥
      apart x p y =
          let k = block_below b (blocks_taken b cs) (num x) h (d.low x p) (d.high x p) in
          let j = block_of_first b (blocks_taken b cs) (num c) h e in
          omega (arith, k, j, y)

      own : (x y : Cert) → Mem x (c ∷ cs) → Mem y (c ∷ cs) → (num x - 1) / b ≡ (num y - 1) / b → x.origin ≡ y.origin
      own x y (inl p) (inl t) k = ap (λ (z : Cert). z.origin) (sym p ∙ t)
      own x y (inl p) (inr t) k = absurd (apart y t (ap (λ z. (num z - 1) / b) p ∙ k))
      own x y (inr p) (inl t) k = absurd (apart x p (ap (λ z. (num z - 1) / b) t ∙ sym k))
      own x y (inr p) (inr t) k = d.own x y p t k

      last : (x l : Cert) → Mem x (c ∷ cs) → last_of x.origin (c ∷ cs) ≡ Some l → num x ≤ num l
      last x l i k = go (last_cases x.origin c l cs k) i
        where
          go : (c ≡ l) ⊎ ((c.origin ≡ x.origin → ⊥) × (last_of x.origin cs ≡ Some l)) → Mem x (c ∷ cs) → num x ≤ num l
          go (inl p) (inl t) = let u : num x ≡ num l = ap num (sym t ∙ p) in omega (arith, u)
          go (inl p) (inr t) = let u : num c ≡ num l = ap num p in let v = d.high x t in omega (arith, u, v, e)
          go (inr p) (inl t) = absurd (p.0 (ap (λ (z : Cert). z.origin) t))
          go (inr p) (inr t) = d.last x l t p.1

  drawn_goes_on : (l : Cert) → last_of c.origin cs ≡ Some l → (num l % b ≡ 0 → ⊥) → num c ≡ num l + 1 → Drawn b (c ∷ cs)
  drawn_goes_on l lo ne e = record { low = low; high = high; own = own; last = last }
    where
      li : Mem l cs × (l.origin ≡ c.origin)
      li = last_origin c.origin cs l lo

      same : blocks_taken b (c ∷ cs) ≡ blocks_taken b cs
      same = taken_same b c cs (opens_false b h c l ne e)

      low : (x : Cert) → Mem x (c ∷ cs) → 0 < num x
      low x (inl p) = let y : num c ≡ num x = ap num p in omega (arith, y, e)
      low x (inr p) = d.low x p

      high : (x : Cert) → Mem x (c ∷ cs) → num x ≤ blocks_taken b (c ∷ cs) * b
      high x (inl p) =
          let y : num c ≡ num x = ap num p in
          let z = not_whole b (blocks_taken b cs) (num l) h (d.high l li.0) ne in
          rw same (omega (arith, y, e, z))
      high x (inr p) = rw same (d.high x p)

      block-is : (num c - 1) / b ≡ (num l - 1) / b
      block-is = let e2 : num c - 1 ≡ num l = omega (arith, e) in ap (λ x. x / b) e2 ∙ same_block b (num l) h ne

      own : (x y : Cert) → Mem x (c ∷ cs) → Mem y (c ∷ cs) → (num x - 1) / b ≡ (num y - 1) / b → x.origin ≡ y.origin
      own x y (inl p) (inl t) k = ap (λ (z : Cert). z.origin) (sym p ∙ t)
      own x y (inl p) (inr t) k =
          ap (λ (z : Cert). z.origin) (sym p) ∙ sym li.1 ∙ d.own l y li.0 t (sym block-is ∙ ap (λ z. (num z - 1) / b) p ∙ k)
      own x y (inr p) (inl t) k =
          d.own x l p li.0 (k ∙ ap (λ z. (num z - 1) / b) (sym t) ∙ block-is) ∙ li.1 ∙ ap (λ (z : Cert). z.origin) t
      own x y (inr p) (inr t) k = d.own x y p t k

      last : (x k : Cert) → Mem x (c ∷ cs) → last_of x.origin (c ∷ cs) ≡ Some k → num x ≤ num k
      last x k i w = go (last_cases x.origin c k cs w) i
        where
          go : (c ≡ k) ⊎ ((c.origin ≡ x.origin → ⊥) × (last_of x.origin cs ≡ Some k)) → Mem x (c ∷ cs) → num x ≤ num k
          go (inl p) (inl t) = let u : num x ≡ num k = ap num (sym t ∙ p) in omega (arith, u)
          go (inl p) (inr t) = at_test (cases_Bool (inc_eq c.origin x.origin))
            where
              u : num c ≡ num k
              u = ap num p

              at_test : (inc_eq c.origin x.origin ≡ true) ⊎ (inc_eq c.origin x.origin ≡ false) → num x ≤ num k
              at_test (inl f) =
                  let oo : x.origin ≡ c.origin = sym (inc_is c.origin x.origin f) in
                  let v = d.last x l t (ap (λ z. last_of z cs) oo ∙ lo) in omega (arith, u, v, e)
              at_test (inr f) = let w2 : last_of x.origin cs ≡ Some k = rw f at w in d.last x k t w2
          go (inr p) (inl t) = absurd (p.0 (ap (λ (z : Cert). z.origin) t))
          go (inr p) (inr t) = d.last x k t p.1

pub drawn_nil : (b : ℕ) → Drawn b []
drawn_nil b = record { low = λ c i. absurd i; high = λ c i. absurd i; own = λ c d i. absurd i; last = λ c l i. absurd i }

pub drawn_more : (b : ℕ) → 0 < b → (c : Cert) (cs : List Cert) → Drawn b cs → NextIs b cs c.origin (num c) → Drawn b (c ∷ cs)
drawn_more b h c cs d (opens e) = drawn_opens b h c cs d e
drawn_more b h c cs d (goes_on l lo ne e) = drawn_goes_on b h c cs d l lo ne e

pub drawn : (b : ℕ) → 0 < b → (cs : List Cert) → Numbered b cs → Drawn b cs
drawn b h [] n = drawn_nil b
drawn b h (c ∷ cs) n = drawn_more b h c cs (drawn b h cs n.1) (next_is b cs c.origin (num c) n.0)

-- distinct places have distinct numbers
pub numbers_distinct : (b : ℕ) → 0 < b → (cs : List Cert) → Numbered b cs → (c d : Cert) → Mem c cs → Mem d cs → num c ≡ num d → c ≡ d
numbers_distinct b h [] n c d i j e = absurd i
numbers_distinct b h (x ∷ cs) n c d (inl p) (inl q) e = sym p ∙ q
numbers_distinct b h (x ∷ cs) n c d (inl p) (inr q) e =
    absurd (next_new b cs x.origin (num x) h (drawn b h cs n.1) (next_is b cs x.origin (num x) n.0) d q (sym e ∙ ap num (sym p)))
numbers_distinct b h (x ∷ cs) n c d (inr p) (inl q) e =
    absurd (next_new b cs x.origin (num x) h (drawn b h cs n.1) (next_is b cs x.origin (num x) n.0) c p (e ∙ ap num (sym q)))
numbers_distinct b h (x ∷ cs) n c d (inr p) (inr q) e = numbers_distinct b h cs n.1 c d p q e
