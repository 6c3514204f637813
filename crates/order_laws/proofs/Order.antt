-- The order of ballots is a total order in which every descent ends; the tests say what they test.
use Rattle.std.proofs.Common.{◌≡◌, ℕ, zero, suc, ◌<◌, ◌≤◌, Bool, true, false, ◌⊎◌, inl, inr, eqb, ◌&&◌, List, refl, ap, subst, arith, eq-eqb}
use Rattle.std.proofs.lemmas.Bool.{eqb-true, and_parts, and_from, cases_lt, false≢true}
use Rattle.std.proofs.lemmas.Bool.Decides.{nat_tests}
use Rattle.std.proofs.lemmas.Slice.Eq.{bytes_eq-Decides}
use Rattle.std.specs.Str.{bytes_eq}
use Rattle.gr_ids.specs.Names.{inc_eq, ballot_eq, ballot_lt, id_eq}
use Rattle.node_rules.proofs.Incs.{inc_same, inc_is}
use Rattle.node_rules.specs.Chosen.{Cast, cast_eq}
use Rattle.order_laws.specs.Names.{Ballot, Value, ValueId, What, Noop, Add, Remove, Body, Joiner, Vote}
use Rattle.slot_values.specs.Values.{joiner_eq, what_eq, value_eq, vote_eq}

pub ballot-eq : (a b : Ballot) → ballot_eq a b ≡ true → a ≡ b
ballot-eq a b h =
    let p = and_parts (eqb a.round b.round) (inc_eq a.inc b.inc) h in
    let s : a.round ≡ b.round = eqb-true _ _ p.0 in
    let t : a.inc ≡ b.inc = inc_is _ _ p.1 in
    λ k. record { round = s k; inc = t k }

pub ballot_same : (a : Ballot) → ballot_eq a a ≡ true
ballot_same a = and_from _ _ (eq-eqb a.round a.round refl) (inc_same a.inc)

-- ---- the order of ballots

pub lt_same : (a : Ballot) → ballot_lt a a ≡ false
lt_same a = grind (arith, nat_tests)

pub lt_le : (a b : Ballot) → ballot_lt a b ≡ true → ballot_lt b a ≡ false
lt_le a b h = grind (arith, nat_tests)

pub lt_trans : (a b c : Ballot) → ballot_lt a b ≡ true → ballot_lt b c ≡ true → ballot_lt a c ≡ true
lt_trans a b c h k = grind (arith, nat_tests)

pub le_trans : (a b c : Ballot) → ballot_lt b a ≡ false → ballot_lt c b ≡ false → ballot_lt c a ≡ false
le_trans a b c h k = grind (arith, nat_tests)

pub le_lt_trans : (a b c : Ballot) → ballot_lt b a ≡ false → ballot_lt b c ≡ true → ballot_lt a c ≡ true
le_lt_trans a b c h k = grind (arith, nat_tests)

pub lt_le_trans : (a b c : Ballot) → ballot_lt a b ≡ true → ballot_lt c b ≡ false → ballot_lt a c ≡ true
lt_le_trans a b c h k = grind (arith, nat_tests)

pub le_round : (a b : Ballot) → ballot_lt b a ≡ false → a.round ≤ b.round
le_round a b h = grind (arith, nat_tests)

pub round_lt : (a b : Ballot) → a.round < b.round → ballot_lt a b ≡ true
round_lt a b h = grind (arith, nat_tests)

same_ballot : (a b : Ballot) → a.round ≡ b.round → a.inc.server ≡ b.inc.server → a.inc.start ≡ b.inc.start → a ≡ b
same_ballot a b r s t = λ k. record { round = r k; inc = record { server = s k; start = t k } }

-- neither is below the other: they are one
pub le_both : (a b : Ballot) → ballot_lt a b ≡ false → ballot_lt b a ≡ false → a ≡ b
le_both a b h k = same_ballot a b (grind (arith, nat_tests)) (grind (arith, nat_tests)) (grind (arith, nat_tests))

pub cases_ballot : (a b : Ballot) → (a ≡ b) ⊎ ((ballot_lt a b ≡ true) ⊎ (ballot_lt b a ≡ true))
cases_ballot a b = go (ballot_lt a b) (ballot_lt b a) refl refl
  where
    go : (p q : Bool) → ballot_lt a b ≡ p → ballot_lt b a ≡ q → (a ≡ b) ⊎ ((ballot_lt a b ≡ true) ⊎ (ballot_lt b a ≡ true))
    go true q e f = inr (inl e)
    go false true e f = inr (inr f)
    go false false e f = inl (le_both a b e f)

-- ---- every descent ends

below_ind : (P : ℕ → Type 0) → ((n : ℕ) → ((m : ℕ) → m < n → P m) → P n) → (n m : ℕ) → m < n → P m
below_ind P step zero m h = absurd (omega arith)
below_ind P step (suc n) m h = step m (λ k l. below_ind P step n k (omega arith))

-- what holds of a number once it holds of all below it holds of every number
pub number_ind : (P : ℕ → Type 0) → ((n : ℕ) → ((m : ℕ) → m < n → P m) → P n) → (n : ℕ) → P n
number_ind P step n = below_ind P step (suc n) n (omega arith)

mk : ℕ → ℕ → ℕ → Ballot
mk r s t = record { round = r; inc = record { server = s; start = t } }

above_round : (a b : Ballot) → ballot_lt a b ≡ true → b.round ≤ a.round → b.round ≡ a.round
above_round a b lt h = grind (arith, nat_tests)

above_server : (a b : Ballot) → ballot_lt a b ≡ true → b.round ≤ a.round → b.inc.server ≤ a.inc.server → b.inc.server ≡ a.inc.server
above_server a b lt h k = grind (arith, nat_tests)

below_start : (a b : Ballot) → ballot_lt a b ≡ true → b.round ≤ a.round → b.inc.server ≤ a.inc.server → a.inc.start < b.inc.start
below_start a b lt h k = grind (arith, nat_tests)

lower : (P : Ballot → Type 0) (r s t : ℕ) → ((m : ℕ) → m < r → (s t : ℕ) → P (mk m s t)) → ((m : ℕ) → m < s → (t : ℕ) → P (mk r m t)) → ((m : ℕ) → m < t → P (mk r s m)) → (a : Ballot) → ballot_lt a (mk r s t) ≡ true → P a
unfolding mk
lower P r s t hr hs ht a lt =
    elim (cases_lt a.round r) [
      | inl h ↦ hr a.round h a.inc.server a.inc.start
      | inr h ↦
          let er : r ≡ a.round = above_round a (mk r s t) lt h in
          elim (cases_lt a.inc.server s) [
            | inl k ↦ subst (λ x. P (mk x a.inc.server a.inc.start)) er (hs a.inc.server k a.inc.start)
            | inr k ↦
                let es : s ≡ a.inc.server = above_server a (mk r s t) lt h k in
                let l : a.inc.start < t = below_start a (mk r s t) lt h k in
                subst (λ x. P (mk x a.inc.server a.inc.start)) er (subst (λ x. P (mk r x a.inc.start)) es (ht a.inc.start l))
          ]
    ]

pub ballot_ind : (P : Ballot → Type 0) → ((b : Ballot) → ((a : Ballot) → ballot_lt a b ≡ true → P a) → P b) → (b : Ballot) → P b
unfolding mk
ballot_ind P step b =
    number_ind (λ r. (s t : ℕ) → P (mk r s t)) (λ r hr. number_ind (λ s. (t : ℕ) → P (mk r s t)) (λ s hs. number_ind (λ t. P (mk r s t)) (λ t ht. step (mk r s t) (λ a lt. lower P r s t hr hs ht a lt)))) b.round b.inc.server b.inc.start

-- ---- the tests of values, votes and casts

bytes-eq : (xs ys : List ℕ) → bytes_eq xs ys ≡ true → xs ≡ ys
bytes-eq xs ys h = (bytes_eq-Decides xs ys).0 h

bytes_same : (xs : List ℕ) → bytes_eq xs xs ≡ true
bytes_same xs = (bytes_eq-Decides xs xs).1 refl

joiner-eq : (x y : Joiner) → joiner_eq x y ≡ true → x ≡ y
joiner-eq x y h =
    let p = and_parts (inc_eq x.inc y.inc && bytes_eq x.uuid y.uuid) (bytes_eq x.version y.version && eqb x.weight y.weight) h in
    let q = and_parts (inc_eq x.inc y.inc) (bytes_eq x.uuid y.uuid) p.0 in
    let r = and_parts (bytes_eq x.version y.version) (eqb x.weight y.weight) p.1 in
    let a : x.inc ≡ y.inc = inc_is _ _ q.0 in
    let b : x.uuid ≡ y.uuid = bytes-eq _ _ q.1 in
    let c : x.version ≡ y.version = bytes-eq _ _ r.0 in
    let d : x.weight ≡ y.weight = eqb-true _ _ r.1 in
    λ k. record { inc = a k; uuid = b k; version = c k; weight = d k }

joiner_same : (x : Joiner) → joiner_eq x x ≡ true
joiner_same x = and_from _ _ (and_from _ _ (inc_same x.inc) (bytes_same x.uuid)) (and_from _ _ (bytes_same x.version) (eq-eqb x.weight x.weight refl))

what-eq : (x y : What) → what_eq x y ≡ true → x ≡ y
what-eq Noop Noop h = refl
what-eq (Add x) (Add y) h = ap Add (joiner-eq x y h)
what-eq (Remove x) (Remove y) h = ap Remove (inc_is x y h)
what-eq (Body x) (Body y) h = ap Body (bytes-eq x y h)
what-eq Noop (Add y) h = absurd (false≢true h)
what-eq Noop (Remove y) h = absurd (false≢true h)
what-eq Noop (Body y) h = absurd (false≢true h)
what-eq (Add x) Noop h = absurd (false≢true h)
what-eq (Add x) (Remove y) h = absurd (false≢true h)
what-eq (Add x) (Body y) h = absurd (false≢true h)
what-eq (Remove x) Noop h = absurd (false≢true h)
what-eq (Remove x) (Add y) h = absurd (false≢true h)
what-eq (Remove x) (Body y) h = absurd (false≢true h)
what-eq (Body x) Noop h = absurd (false≢true h)
what-eq (Body x) (Add y) h = absurd (false≢true h)
what-eq (Body x) (Remove y) h = absurd (false≢true h)

what_same : (x : What) → what_eq x x ≡ true
what_same Noop = refl
what_same (Add x) = joiner_same x
what_same (Remove x) = inc_same x
what_same (Body x) = bytes_same x

id-eq : (x y : ValueId) → id_eq x y ≡ true → x ≡ y
id-eq x y h =
    let p = and_parts (inc_eq x.origin y.origin) (eqb x.number y.number) h in
    let a : x.origin ≡ y.origin = inc_is _ _ p.0 in
    let b : x.number ≡ y.number = eqb-true _ _ p.1 in
    λ k. record { origin = a k; number = b k }

pub value-eq : (x y : Value) → value_eq x y ≡ true → x ≡ y
value-eq x y h =
    let p = and_parts (id_eq x.id y.id) (what_eq x.what y.what) h in
    let a : x.id ≡ y.id = id-eq _ _ p.0 in
    let b : x.what ≡ y.what = what-eq _ _ p.1 in
    λ k. record { id = a k; what = b k }

pub value_same : (x : Value) → value_eq x x ≡ true
value_same x = and_from _ _ (and_from _ _ (inc_same x.id.origin) (eq-eqb x.id.number x.id.number refl)) (what_same x.what)

vote-eq : (x y : Vote) → vote_eq x y ≡ true → x ≡ y
vote-eq x y h =
    let p = and_parts (eqb x.slot y.slot) (ballot_eq x.ballot y.ballot && value_eq x.value y.value) h in
    let q = and_parts (ballot_eq x.ballot y.ballot) (value_eq x.value y.value) p.1 in
    let a : x.slot ≡ y.slot = eqb-true _ _ p.0 in
    let b : x.ballot ≡ y.ballot = ballot-eq _ _ q.0 in
    let c : x.value ≡ y.value = value-eq _ _ q.1 in
    λ k. record { slot = a k; ballot = b k; value = c k }

pub cast-eq : (x y : Cast) → cast_eq x y ≡ true → x ≡ y
cast-eq x y h =
    let p = and_parts (inc_eq x.by y.by) (vote_eq x.vote y.vote) h in
    let a : x.by ≡ y.by = inc_is _ _ p.0 in
    let b : x.vote ≡ y.vote = vote-eq _ _ p.1 in
    λ k. record { by = a k; vote = b k }

pub cast_same : (x : Cast) → cast_eq x x ≡ true
cast_same x = and_from _ _ (inc_same x.by) (and_from _ _ (eq-eqb x.vote.slot x.vote.slot refl) (and_from _ _ (ballot_same x.vote.ballot) (value_same x.vote.value)))
