-- At most one value is decided in each slot, by facts on the votes alone.
-- Nothing here speaks of nodes, messages or time: it is one state of the votes that were cast.
use Rattle.std.proofs.Common.{◌≡◌, ℕ, zero, suc, ◌+◌, ◌-◌, ◌<◌, ◌≤◌, true, false, ◌⊎◌, inl, inr, Some, List, [], ◌∷◌, length, take, refl, sym, ap, ◌∙◌, subst, arith}
use Rattle.std.specs.Prelude.{slice_get}
use Rattle.std.proofs.lemmas.Bool.{false≢true}
use Rattle.gr_ids.specs.Names.{ballot_lt, has_inc}
use Rattle.node_rules.specs.Chosen.{Cast, has_cast, cast_of, IsChosen, IsChosenLog}
use Rattle.node_rules.specs.Leader.{vote_at, Promised, has_promise, best}
use Rattle.node_rules.specs.Lists.{In}
use Rattle.order_laws.specs.Names.{Inc, Ballot, Value, Vote}
use Rattle.slot_values.specs.Log.{Group, config, majority, after, incs}
use Rattle.std.proofs.lemmas.Option.{slice_get_within}
use Rattle.order_laws.proofs.Order.{lt_same, lt_le, le_trans, le_round, cases_ballot, ballot_ind, number_ind}
use Rattle.order_laws.proofs.Lists.{cast-in, has-inc, promise-in, quorum, some_member, best_real, best_most}

-- a majority of the log's configuration voted for it at one ballot, each value of the log being decided likewise
pub data Decided (g : Group) (cs : List Cast) : ℕ → Value → Type 0 where
  decided : {t : ℕ} {v : Value} (log : List Value) (b : Ballot) → ((k : ℕ) (u : Value) → slice_get log k ≡ Some u → Decided g cs (k + 1) u) → t ≤ length log + g.horizon → majority (config g log t) (λ a. has_cast cs (cast_of a t b v)) ≡ true → Decided g cs t v

abbrev pub LogDecided : Group → List Cast → List Value → Type 0
LogDecided g cs log = (k : ℕ) (u : Value) → slice_get log k ≡ Some u → Decided g cs (k + 1) u

-- what a promise at b reports of slot t: its sender's votes below b, or a later one
pub record Report (cs : List Cast) (a : Inc) (b : Ballot) (t : ℕ) (votes : List Vote) : Type 0 where
  pub covers : (c : Ballot) (v : Value) → In (cast_of a t c v) cs → ballot_lt c b ≡ true → (x : Vote) × (vote_at votes t ≡ Some x) × (ballot_lt x.ballot c ≡ false)
  pub real : (x : Vote) → vote_at votes t ≡ Some x → In (cast_of a t x.ballot x.value) cs × (ballot_lt b x.ballot ≡ false)

-- a proposal at a later ballot than the first
pub record Supported (g : Group) (cs : List Cast) (b : Ballot) (t : ℕ) (v : Value) : Type 0 where
  pub log : List Value
  pub log_decided : LogDecided g cs log
  pub known : t ≤ length log + g.horizon
  pub promises : List Promised
  pub promised : majority (config g log t) (has_promise promises) ≡ true
  pub reports : (p : Promised) → In p promises → Report cs p.inc b t p.votes
  pub below : (p : Promised) (x : Vote) → In p promises → vote_at p.votes t ≡ Some x → ballot_lt x.ballot b ≡ true
  pub rule : (x : Vote) → best (config g log t) promises t ≡ Some x → x.value ≡ v

pub record Sound (g : Group) (first : Ballot) (cs : List Cast) : Type 0 where
  pub proposed : (a : Inc) (t : ℕ) (b : Ballot) (v : Value) → In (cast_of a t b v) cs → In (cast_of b.inc t b v) cs
  pub one : (t : ℕ) (b : Ballot) (u v : Value) → In (cast_of b.inc t b u) cs → In (cast_of b.inc t b v) cs → u ≡ v
  pub rounds : (a : Inc) (t : ℕ) (b : Ballot) (v : Value) → In (cast_of a t b v) cs → (b ≡ first) ⊎ (first.round < b.round)
  pub supported : (t : ℕ) (b : Ballot) (v : Value) → In (cast_of b.inc t b v) cs → (b ≡ first) ⊎ Supported g cs b t v

-- ---- the same configuration from logs that agree so far

take_same : (xs ys : List Value) (n : ℕ) → n ≤ length xs → n ≤ length ys → ((k : ℕ) (u v : Value) → k < n → slice_get xs k ≡ Some u → slice_get ys k ≡ Some v → u ≡ v) → take n xs ≡ take n ys
take_same xs ys zero h k f = refl
take_same [] ys (suc n) h k f = absurd (omega arith)
take_same (x ∷ xs) [] (suc n) h k f = absurd (omega arith)
take_same (x ∷ xs) (y ∷ ys) (suc n) h k f =
    let e : x ≡ y = f 0 x y (omega arith) refl refl in
    let r : take n xs ≡ take n ys = take_same xs ys n (omega arith) (omega arith) (λ i u v l p q. f (suc i) u v (omega arith) p q) in
    λ i. e i ∷ r i

get_take : (xs : List Value) (n k : ℕ) (u : Value) → slice_get (take n xs) k ≡ Some u → (k < n) × (slice_get xs k ≡ Some u)
get_take xs zero k u h = cc
get_take [] (suc n) k u h = cc
get_take (x ∷ xs) (suc n) zero u h = (omega arith, h)
get_take (x ∷ xs) (suc n) (suc k) u h = let r = get_take xs n k u h in (omega (arith, r.0), r.1)

take_less : (xs : List Value) (n m : ℕ) → n ≤ m → take n (take m xs) ≡ take n xs
take_less xs zero m h = refl
take_less xs (suc n) zero h = absurd (omega arith)
take_less [] (suc n) (suc m) h = refl
take_less (x ∷ xs) (suc n) (suc m) h = ap (λ l. x ∷ l) (take_less xs n m (omega arith))

length_take : (xs : List Value) (n k : ℕ) (u : Value) → slice_get xs k ≡ Some u → n ≤ k → length (take n xs) ≡ n
length_take xs zero k u h l = refl
length_take [] (suc n) k u h l = cc
length_take (x ∷ xs) (suc n) zero u h l = absurd (omega arith)
length_take (x ∷ xs) (suc n) (suc k) u h l = ap suc (length_take xs n k u h (omega arith))

module _ (g : Group) (first : Ballot) (cs : List Cast) (far : 0 < g.horizon) (sound : Sound g first cs) where
  AgreeAt : ℕ → Type 0
  AgreeAt t = (u v : Value) → Decided g cs t u → Decided g cs t v → u ≡ v

  same_config : (t : ℕ) → ((s : ℕ) → s < t → AgreeAt s) → (xs ys : List Value) → LogDecided g cs xs → LogDecided g cs ys → t ≤ length xs + g.horizon → t ≤ length ys + g.horizon → config g xs t ≡ config g ys t
  unfolding AgreeAt
  same_config t ih xs ys dx dy hx hy =
      ap (λ l. incs (after g l).members) (take_same xs ys (t - g.horizon) (omega arith) (omega arith) (λ k u v l p q. ih (k + 1) (omega arith) u v (dx k u p) (dy k v q)))

  -- once a majority voted for v in slot t at b, each proposal at b or above is v
  later : (t : ℕ) → ((s : ℕ) → s < t → AgreeAt s) → (log : List Value) (b : Ballot) (v : Value) → LogDecided g cs log → t ≤ length log + g.horizon → majority (config g log t) (λ a. has_cast cs (cast_of a t b v)) ≡ true
      → (c : Ballot) (u : Value) → In (cast_of c.inc t c u) cs → ballot_lt c b ≡ false → u ≡ v
  later t ih log b v dl kn maj = ballot_ind (λ c. (u : Value) → In (cast_of c.inc t c u) cs → ballot_lt c b ≡ false → u ≡ v) step
    where
      voter : (a : Inc) × In a (config g log t) × (has_cast cs (cast_of a t b v) ≡ true)
      voter = some_member (config g log t) (λ a. has_cast cs (cast_of a t b v)) maj

      cast_b : In (cast_of voter.0 t b v) cs
      cast_b = cast-in cs (cast_of voter.0 t b v) voter.2

      at_b : In (cast_of b.inc t b v) cs
      at_b = sound.proposed voter.0 t b v cast_b

      above : (c : Ballot) → ((a : Ballot) → ballot_lt a c ≡ true → (u : Value) → In (cast_of a.inc t a u) cs → ballot_lt a b ≡ false → u ≡ v) → (u : Value) → ballot_lt b c ≡ true → Supported g cs c t u → u ≡ v
      above c rec u lt s =
          let e : config g s.log t ≡ config g log t = same_config t ih s.log log s.log_decided dl s.known kn in
          let maj' : majority (config g log t) (has_promise s.promises) ≡ true = subst (λ x. majority x (has_promise s.promises) ≡ true) e s.promised in
          let q = quorum (config g log t) (λ a. has_cast cs (cast_of a t b v)) (has_promise s.promises) maj maj' in
          let p = promise-in s.promises q.0 q.3 in
          let cast_p : In (cast_of (p.0).inc t b v) cs = subst (λ i. In (cast_of i t b v) cs) (sym p.2) (cast-in cs (cast_of q.0 t b v) q.2) in
          let x = (s.reports p.0 p.1).covers b v cast_p lt in
          let member : has_inc (config g s.log t) (p.0).inc ≡ true = has-inc (config g s.log t) (p.0).inc (subst (λ i. In i (config g s.log t)) (sym p.2) (subst (λ l. In q.0 l) (sym e) q.1)) in
          let y = best_most (config g s.log t) s.promises t p.0 x.0 p.1 member x.1 in
          let r = best_real (config g s.log t) s.promises t y.0 y.1 in
          let real = ((s.reports r.0 r.1).real y.0 r.2).0 in
          let under : ballot_lt (y.0).ballot c ≡ true = s.below r.0 y.0 r.1 r.2 in
          let over : ballot_lt (y.0).ballot b ≡ false = le_trans b (x.0).ballot (y.0).ballot x.2 y.2 in
          sym (s.rule y.0 y.1) ∙ rec (y.0).ballot under (y.0).value (sound.proposed (r.0).inc t (y.0).ballot (y.0).value real) over

      no_first : (c : Ballot) → ballot_lt b c ≡ true → c ≡ first → ⊥
      no_first c lt e = elim (sound.rounds voter.0 t b v cast_b) [
        | inl f ↦ let same : b ≡ c = f ∙ sym e in false≢true (sym (lt_same c) ∙ subst (λ x. ballot_lt x c ≡ true) same lt)
        | inr f ↦ let h : b.round ≤ c.round = le_round b c (lt_le b c lt) in let k : c.round ≡ first.round = ap (λ x. x.round) e in omega arith
      ]

      step : (c : Ballot) → ((a : Ballot) → ballot_lt a c ≡ true → (u : Value) → In (cast_of a.inc t a u) cs → ballot_lt a b ≡ false → u ≡ v) → (u : Value) → In (cast_of c.inc t c u) cs → ballot_lt c b ≡ false → u ≡ v
      step c rec u i ge = go (cases_ballot b c)
        where
          go : (b ≡ c) ⊎ ((ballot_lt b c ≡ true) ⊎ (ballot_lt c b ≡ true)) → u ≡ v
          go (inl e) = sound.one t c u v i (subst (λ x. In (cast_of x.inc t x v) cs) e at_b)
          go (inr (inl lt)) = elim (sound.supported t c u i) [ inl e ↦ absurd (no_first c lt e) | inr s ↦ above c rec u lt s ]
          go (inr (inr lt)) = absurd (false≢true (sym ge ∙ lt))

  agree_step : (t : ℕ) → ((s : ℕ) → s < t → AgreeAt s) → AgreeAt t
  unfolding AgreeAt
  agree_step t ih u v (decided lu bu du ku mu) (decided lv bv dv kv mv) = go (cases_ballot bu bv)
    where
      go : (bu ≡ bv) ⊎ ((ballot_lt bu bv ≡ true) ⊎ (ballot_lt bv bu ≡ true)) → u ≡ v
      go c =
          let pu = some_member (config g lu t) (λ a. has_cast cs (cast_of a t bu u)) mu in
          let pv = some_member (config g lv t) (λ a. has_cast cs (cast_of a t bv v)) mv in
          let at_u : In (cast_of bu.inc t bu u) cs = sound.proposed pu.0 t bu u (cast-in cs (cast_of pu.0 t bu u) pu.2) in
          let at_v : In (cast_of bv.inc t bv v) cs = sound.proposed pv.0 t bv v (cast-in cs (cast_of pv.0 t bv v) pv.2) in
          elim c [
            | inl e ↦ later t ih lv bv v dv kv mv bu u at_u (subst (λ x. ballot_lt bu x ≡ false) e (lt_same bu))
            | inr d ↦ elim d [
              | inl lt ↦ sym (later t ih lu bu u du ku mu bv v at_v (lt_le bu bv lt))
              | inr lt ↦ later t ih lv bv v dv kv mv bu u at_u (lt_le bv bu lt)
            ]
          ]

  -- at most one value is decided in each slot
  pub agree : (t : ℕ) (u v : Value) → Decided g cs t u → Decided g cs t v → u ≡ v
  unfolding AgreeAt
  agree = number_ind AgreeAt agree_step

  chosen_decided : (log : List Value) → IsChosenLog g cs log → (n k : ℕ) (u : Value) → k < n → slice_get log k ≡ Some u → Decided g cs (k + 1) u
  chosen_decided log h zero k u l e = absurd (omega arith)
  chosen_decided log h (suc n) k u l e =
      let c = h k u e in
      let same : config g (take k log) (k + 1) ≡ config g log (k + 1) = ap (λ x. incs (after g x).members) (take_less log (k + 1 - g.horizon) k (omega arith)) in
      let len : length (take k log) ≡ k = length_take log k k u e (omega arith) in
      decided (take k log) c.0 (λ j w q. let r = get_take log k j w q in chosen_decided log h n j w (omega (arith, r.0)) r.1) (omega arith)
      (subst (λ x. majority x (λ a. has_cast cs (cast_of a (k + 1) c.0 u)) ≡ true) (sym same) c.1)

  pub chosen_once : (xs ys : List Value) → IsChosenLog g cs xs → IsChosenLog g cs ys → (t : ℕ) (u v : Value) → t ≤ length xs + g.horizon → t ≤ length ys + g.horizon → IsChosen g cs xs t u → IsChosen g cs ys t v → u ≡ v
  chosen_once xs ys hx hy t u v kx ky cx cy =
      agree t u v (decided xs cx.0 (λ k w e. chosen_decided xs hx (suc k) k w (omega arith) e) kx cx.1) (decided ys cy.0 (λ k w e. chosen_decided ys hy (suc k) k w (omega arith) e) ky cy.1)

  -- two logs of chosen values do not differ in a slot
  pub logs_agree : (xs ys : List Value) → IsChosenLog g cs xs → IsChosenLog g cs ys → (k : ℕ) (u v : Value) → slice_get xs k ≡ Some u → slice_get ys k ≡ Some v → u ≡ v
  logs_agree xs ys hx hy k u v p q = agree (k + 1) u v (chosen_decided xs hx (suc k) k u (omega arith) p) (chosen_decided ys hy (suc k) k v (omega arith) q)

  -- what is decided in a slot is chosen there, by each log that gives its configuration
  pub decided_chosen : (log : List Value) → LogDecided g cs log → (t : ℕ) (v : Value) → t ≤ length log + g.horizon → Decided g cs t v → IsChosen g cs log t v
  unfolding AgreeAt
  decided_chosen log dl t v within (decided l b d kn maj) =
      let same : config g l t ≡ config g log t = same_config t (λ s h. agree s) l log d dl kn within in
      (b, subst (λ x. majority x (λ a. has_cast cs (cast_of a t b v)) ≡ true) same maj)

  -- a log of decided values is a log of chosen ones
  pub log_chosen : (log : List Value) → LogDecided g cs log → IsChosenLog g cs log
  log_chosen log dl k v e = let len : k < length log = slice_get_within log k v e in decided_chosen log dl (k + 1) v (omega arith) (dl k v e)
