-- Transactions and holds that end, each with its last answer.
use Rattle.std.proofs.Common.{◌≡◌, ℕ, ◌<◌, Bool, true, false, not, Option, Some, None, List, [], ◌∷◌, ◌++◌, length, filter, map, refl, sym, subst, ap, ◌∙◌, arith}
use Rattle.std.specs.Prelude.{find, ◌==◌, ◌||◌, OnOk, Result, Ok, Err}
use Rattle.std.specs.List.{list_any}
use Rattle.std.specs.Option.{option_map}
use Rattle.std.proofs.lemmas.Bool.{eq-eqb}
use Rattle.std.proofs.lemmas.List.Filters.{length-filter_both}
use Rattle.gr_ids.specs.Names.{id_eq}
use Rattle.gr_ids.specs.declared.names.ValueId.{ValueId}
use Rattle.group_rules.specs.declared.answers.Answer.TheVariants.{HoldTimeout}
use Rattle.group_rules.specs.Events.{Cert, Life}
use Rattle.group_rules.specs.Member.{Member, for_each, last_answer, waiting_as}
use Rattle.group_rules.specs.Queue.{pending}
use Rattle.group_rules.specs.Sessions.{is_holding, phase, sessions}
use Rattle.group_rules.specs.Steps.{time_out}
use Rattle.consistency_waits.specs.Following.{HeldOf, all_time_out}
use Rattle.consistency_waits.specs.Holding.{is_over, without}
use Rattle.consistency_waits.proofs.Histories.{held_told}
use Rattle.consistency_waits.proofs.Timeouts.{all_end}
use Rattle.local_sessions.specs.Acting.{TakenOf, tell}
use Rattle.local_sessions.specs.Others.{taken_as}
use Rattle.local_sessions.specs.declared.told.Answered.{Answered}
use Rattle.local_sessions.specs.declared.told.TakenOwn.{TakenOwn}
use Rattle.member_backlog.specs.Standing.{uncommitted_of}
use Rattle.member_parts.specs.declared.parts.MemberParts.{MemberParts}
use Rattle.member_moment.specs.declared.moment.Moment.{Moment}
use Rattle.member_parts.specs.Ending.{IsTurn}
use Rattle.member_parts.specs.Standing.{StandsFor}
use Rattle.member_moment.specs.Aside.{ButParts}
use Rattle.member_moment.specs.Ending.{taken_of}
use Rattle.member_moment.specs.Standing.{Stands}
use Rattle.member_moment.proofs.Aside.{but_parts, whole}

-- ---- what is told, one after another

pub one_more_told : (xs : List Answered) (x : Answered) (a : Member) → tell (xs ++ x ∷ []) a ≡ last_answer x.session x.answer (tell xs a)
one_more_told [] x a = refl
one_more_told (y ∷ ys) x a = one_more_told ys x (last_answer y.session y.answer a)

pub both_ok : {T E P Q R : Type 0} → (r : Result T E) → (P → Q → R) → OnOk r P → OnOk r Q → OnOk r R
both_ok (Ok x) f p q = f p q
both_ok (Err e) f p q = tt

-- ---- what a fall asks of those that wait

gtid_taken : (cs : List Cert) (i : ValueId) → option_map (λ (t : TakenOwn). t.gtid) (taken_as (map taken_of (map uncommitted_of cs)) i) ≡ option_map (λ (c : Cert). c.gtid) (waiting_as cs i)
gtid_taken [] i = refl
gtid_taken (c ∷ cs) i = go (id_eq c.id i) refl (gtid_taken cs i)
  where
    go : (b : Bool) → id_eq c.id i ≡ b → option_map (λ (t : TakenOwn). t.gtid) (taken_as (map taken_of (map uncommitted_of cs)) i) ≡ option_map (λ (c : Cert). c.gtid) (waiting_as cs i)
        → option_map (λ (t : TakenOwn). t.gtid) (taken_as (map taken_of (map uncommitted_of (c ∷ cs))) i) ≡ option_map (λ (c : Cert). c.gtid) (waiting_as (c ∷ cs) i)
    go true e r = rw (e, waiting_as) refl
    go false e r = rw (e, waiting_as) r

pub taken_of_pending : (l : Life) → TakenOf (map taken_of (map uncommitted_of (pending l))) l
taken_of_pending l = gtid_taken (pending l)

-- ---- holds that reach their limits

-- some holds have ended; those that are left are those that end still
pub record Timing (base : Life) (a : Member) (x : Moment) : Type 0 where
  pub now : Member
  pub stands : Stands base now x
  pub rest : all_time_out x.parts.waits now ≡ for_each time_out (sessions a.life) a

pub none_yet : (base : Life) (a : Member) (x : Moment) → Stands base a x → Timing base a x
none_yet base a x st = record { now = a; stands = st; rest = sym (all_end a x.parts.waits st.rest.parts.waits) }

or_true : (b : Bool) → (b || true) ≡ true
or_true true = refl
or_true false = refl

-- what a search finds is among them
found : {A : Type 0} → (key : A → ℕ) (q : A → Bool) (xs : List A) (x : A) → find q xs ≡ Some x → list_any (λ y. key y == key x) xs ≡ true
found key q [] x e = cc
found key q (y ∷ ys) x e = go (q y) refl (found key q ys x)
  where
    go : (b : Bool) → q y ≡ b → (find q ys ≡ Some x → list_any (λ z. key z == key x) ys ≡ true) → list_any (λ z. key z == key x) (y ∷ ys) ≡ true
    go true f i = let same : Some y ≡ Some x = rw f at e in let one : y ≡ x = cc in rw (eq-eqb (key y) (key x) (ap key one)) refl
    go false f i = rw (i (rw f at e)) (or_true (key y == key x))

-- without it they are fewer
fewer : {A : Type 0} → (key : A → ℕ) (s : ℕ) (xs : List A) → list_any (λ y. key y == s) xs ≡ true → length (filter (λ y. not (key y == s)) xs) < length xs
fewer key s [] e = cc
fewer key s (y ∷ ys) e = go (key y == s) refl (fewer key s ys)
  where
    go : (b : Bool) → (key y == s) ≡ b → (list_any (λ z. key z == s) ys ≡ true → length (filter (λ z. not (key z == s)) ys) < length ys) → length (filter (λ z. not (key z == s)) (y ∷ ys)) < length (y ∷ ys)
    go true f i = rw f (omega (arith, length-filter_both (λ z. key z == s) (λ z. not (key z == s)) (λ z. refl) ys))
    go false f i = let less = i (rw f at e) in rw f (omega (arith, less))

-- the first hold that is over, by its session and its limit
module _ (x : MemberParts) (s : ℕ) (e : Some s ≡ option_map (λ h. h.session) (find is_over x.waits)) where
  pub over_is_held : (a : Member) → HeldOf a.setup a.me.inc a.life x.waits → is_holding (phase a.life s) ≡ true
  over_is_held a f = go (find is_over x.waits) refl
    where
      go : (o : Option _) → find is_over x.waits ≡ o → is_holding (phase a.life s) ≡ true
      go None k = let none : Some s ≡ None = rw k at e in cc
      go (Some h) k =
          let same : Some s ≡ Some h.session = rw k at e in
          let one : s ≡ h.session = cc in
          subst (λ (t : ℕ). is_holding (phase a.life t) ≡ true) (sym one) (sym (held_told a.setup a.me.inc a.life x.waits h.session f) ∙ found (λ y. y.session) is_over x.waits h k)

  pub fewer_without : length (without s x.waits) < length x.waits
  fewer_without = go (find is_over x.waits) refl
    where
      go : (o : Option _) → find is_over x.waits ≡ o → length (without s x.waits) < length x.waits
      go None k = let none : Some s ≡ None = rw k at e in cc
      go (Some h) k =
          let same : Some s ≡ Some h.session = rw k at e in
          let one : s ≡ h.session = cc in
          subst (λ (t : ℕ). length (without t x.waits) < length x.waits) (sym one) (fewer (λ y. y.session) h.session x.waits (found (λ y. y.session) is_over x.waits h k))

-- one hold more has ended: the parts say so first, and then all the rest
pub one_turn : (base : Life) (a : Member) (x y : Moment) (p : MemberParts) (s w : ℕ) → Some s ≡ option_map (λ h. h.session) (find is_over x.parts.waits) → IsTurn x.parts p (Some (s, w))
    → ((k : Life) (b : Member) → is_holding (phase b.life s) ≡ true → ButParts k b (record x { parts = p }) → ButParts k (last_answer s (HoldTimeout w) b) y) → y.parts ≡ p
    → Timing base a x → Timing base a y
one_turn base a x y p s w e turn told same t =
    let b : Member = last_answer s (HoldTimeout w) t.now in
    record {
      now = b;
      stands =
          whole base b y (subst (λ (q : MemberParts). StandsFor b.setup b.me.inc b.life q) (sym same) ((turn t.now).1 t.stands.rest.parts))
          (told base t.now (over_is_held x.parts s e t.now t.stands.rest.parts.waits) (but_parts base t.now x p t.stands));
      rest = ap (λ (q : MemberParts). all_time_out q.waits b) same ∙ (sym (turn t.now).0 ∙ t.rest);
    }
