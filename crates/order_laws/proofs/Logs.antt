-- What a node knows of the log: one slot more, some configurations fewer, or what a Welcome tells.
use Rattle.std.proofs.Common.{◌≡◌, ℕ, zero, suc, ◌+◌, ◌-◌, ◌<◌, ◌≤◌, Bool, true, false, ◌⊎◌, inl, inr, Some, List, [], ◌∷◌, ◌++◌, length, take, drop, refl, sym, ap, ◌∙◌, subst, arith}
use Rattle.std.specs.Prelude.{slice_get, map}
use Rattle.std.proofs.lemmas.Bool.{cases_lt}
use Rattle.std.proofs.lemmas.List.{length-drop}
use Rattle.std.proofs.lemmas.List.Sums.{fold_push}
use Rattle.node_rules.specs.Chosen.{Cast}
use Rattle.node_rules.specs.Node.{Node}
use Rattle.node_rules.specs.Welcoming.{Shown, welcome_of}
use Rattle.order_laws.specs.Names.{Member, Inc, Value, What, Noop, Add, Remove, Body, WelcomeMember}
use Rattle.slot_values.specs.Log.{Group, Reading, read, kept, changed, config, after, became, incs, founded, has_effect, is_kept, Turns, turn, forget_configs}
use Rattle.order_laws.proofs.Agree.{Decided, LogDecided}
use Rattle.order_laws.proofs.Inv.{Begun, ReadsAs, Stands, Greeted}

-- ---- lists

pub get_left : {A : Type 0} (xs ys : List A) (k : ℕ) → k < length xs → slice_get (xs ++ ys) k ≡ slice_get xs k
get_left [] ys k h = absurd (omega arith)
get_left (x ∷ xs) ys zero h = refl
get_left (x ∷ xs) ys (suc k) h = get_left xs ys k (omega arith)

pub get_last : {A : Type 0} (xs : List A) (y : A) → slice_get (xs ++ y ∷ []) (length xs) ≡ Some y
get_last [] y = refl
get_last (x ∷ xs) y = get_last xs y

pub get_past : {A : Type 0} (xs : List A) (y u : A) (k : ℕ) → slice_get (xs ++ y ∷ []) k ≡ Some u → (slice_get xs k ≡ Some u) ⊎ ((k ≡ length xs) × (y ≡ u))
get_past [] y u zero h = inr (refl, cc)
get_past [] y u (suc k) h = cc
get_past (x ∷ xs) y u zero h = inl h
get_past (x ∷ xs) y u (suc k) h = elim (get_past xs y u k h) [ inl e ↦ inl e | inr e ↦ inr (ap suc e.0, e.1) ]

length_push : {A : Type 0} (xs : List A) (y : A) → length (xs ++ y ∷ []) ≡ length xs + 1
length_push [] y = refl
length_push (x ∷ xs) y = let e = length_push xs y in omega arith

take_left : (xs ys : List Value) (n : ℕ) → n ≤ length xs → take n (xs ++ ys) ≡ take n xs
take_left xs ys zero h = refl
take_left [] ys (suc n) h = absurd (omega arith)
take_left (x ∷ xs) ys (suc n) h = ap (λ l. x ∷ l) (take_left xs ys n (omega arith))

take_all : (xs : List Value) (n : ℕ) → n ≡ length xs → take n xs ≡ xs
take_all [] zero h = refl
take_all [] (suc n) h = absurd (omega arith)
take_all (x ∷ xs) zero h = absurd (omega arith)
take_all (x ∷ xs) (suc n) h = ap (λ l. x ∷ l) (take_all xs n (omega arith))

get_drop : {A : Type 0} (xs : List A) (n k : ℕ) → slice_get (drop n xs) k ≡ slice_get xs (n + k)
get_drop xs zero k = ap (λ z. slice_get xs z) (omega arith)
get_drop [] (suc n) k = refl
get_drop (x ∷ xs) (suc n) k = let e : suc n + k ≡ suc (n + k) = omega arith in get_drop xs n k ∙ sym (ap (λ z. slice_get (x ∷ xs) z) e)

-- ---- readings that differ in the former members alone

kept_as : (r : Reading) (f : List Member) (v : Value) (x : What) → ReadsAs (changed (kept (record r { former = f }) v) x) (changed (kept r v) x)
kept_as r f v Noop = record { place = refl; members = refl; ever = refl }
kept_as r f v (Add j) = record { place = refl; members = refl; ever = refl }
kept_as r f v (Remove i) = record { place = refl; members = refl; ever = refl }
kept_as r f v (Body b) = record { place = refl; members = refl; ever = refl }

read_as : (r : Reading) (f : List Member) (v : Value) → ReadsAs (read (record r { former = f }) v) (read r v)
unfolding read
read_as r f v = go (is_kept r v) refl (has_effect r v.what) refl
  where
    go : (a : Bool) → is_kept r v ≡ a → (b : Bool) → has_effect r v.what ≡ b → ReadsAs (read (record r { former = f }) v) (read r v)
    go false p b q = rw p (record { place = refl; members = refl; ever = refl })
    go true p false q = rw (p, q) (record { place = refl; members = refl; ever = refl })
    go true p true q = rw (p, q) (kept_as r f v v.what)

as_former : (r s : Reading) → ReadsAs r s → r ≡ record s { former = r.former }
as_former r s h = λ k. record { place = h.place k; members = h.members k; ever = h.ever k; former = r.former }

pub reads_on : (r s : Reading) (v : Value) → ReadsAs r s → ReadsAs (read r v) (read s v)
reads_on r s v h = subst (λ z. ReadsAs (read z v) (read s v)) (sym (as_former r s h)) (read_as s r.former v)

pub became_alike : (r s : Reading) (v : Value) → ReadsAs r s → became r v ≡ became s v
became_alike r s v h = ap (λ z. became z v) (as_former r s h)

pub kept_alike : (r s : Reading) (v : Value) → ReadsAs r s → is_kept r v ≡ is_kept s v
kept_alike r s v h = ap (λ z. is_kept z v) (as_former r s h)

pub effect_alike : (r s : Reading) (x : What) → ReadsAs r s → has_effect r x ≡ has_effect s x
effect_alike r s x h = ap (λ z. has_effect z x) (as_former r s h)

-- ---- a slot taken

pub log_more : (g : Group) (cs : List Cast) (log : List Value) (v : Value) → LogDecided g cs log → Decided g cs (length log + 1) v → LogDecided g cs (log ++ v ∷ [])
log_more g cs log v dl d k u e = elim (get_past log v u k e) [
  | inl h ↦ dl k u h
  | inr h ↦ subst (λ z. Decided g cs (k + 1) z) h.1 (subst (λ z. Decided g cs (z + 1) v) (sym h.0) d)
]

config_left : (g : Group) (log : List Value) (v : Value) (t : ℕ) → t ≤ length log + g.horizon → config g (log ++ v ∷ []) t ≡ config g log t
config_left g log v t h = ap (λ x. incs (after g x).members) (take_left log (v ∷ []) (t - g.horizon) (omega arith))

config_last : (g : Group) (log : List Value) (v : Value) (t : ℕ) → t ≡ length log + 1 + g.horizon → config g (log ++ v ∷ []) t ≡ incs (after g (log ++ v ∷ [])).members
config_last g log v t h = ap (λ x. incs (after g x).members) (take_all (log ++ v ∷ []) (t - g.horizon) (omega (arith, length_push log v)))

pub stands_turn : (g : Group) (cs : List Cast) (w : Turns) (v : Value) → Stands g cs w → Decided g cs (w.slot + 1) v → Stands g cs (turn w v)
unfolding turn
stands_turn g cs w v s d = record {
  log = s.log ++ v ∷ [];
  log_decided = log_more g cs s.log v s.log_decided (subst (λ z. Decided g cs (z + 1) v) s.slot d);
  slot = omega (arith, s.slot, length_push s.log v);
  reading = reads;
  base = omega (arith, s.base);
  room = omega (arith, s.room, length_push w.configs (incs (read w.reading v).members));
  configs = at_t;
}
  where
    reads : ReadsAs (read w.reading v) (after g (s.log ++ v ∷ []))
    reads = subst (λ z. ReadsAs (read w.reading v) z) (sym (fold_push read (founded g) s.log v)) (reads_on w.reading (after g s.log) v s.reading)

    at_t : (t : ℕ) → w.base < t → t ≤ w.slot + 1 + g.horizon → slice_get (w.configs ++ incs (read w.reading v).members ∷ []) (t - (w.base + 1)) ≡ Some (config g (s.log ++ v ∷ []) t)
    at_t t b h = elim (cases_lt t (w.slot + 1 + g.horizon)) [
      | inl k ↦ get_left w.configs (incs (read w.reading v).members ∷ []) (t - (w.base + 1)) (omega (arith, s.room)) ∙ s.configs t b (omega arith) ∙ ap Some (sym (config_left g s.log v t (omega (arith, s.slot))))
      | inr k ↦
          let at_i : t - (w.base + 1) ≡ length w.configs = omega (arith, s.room, s.base) in
          ap (λ z. slice_get (w.configs ++ incs (read w.reading v).members ∷ []) z) at_i ∙ get_last w.configs (incs (read w.reading v).members) ∙ ap Some (ap incs reads.members ∙ sym (config_last g s.log v t (omega (arith, s.slot))))
    ]

pub turn-slot : (w : Turns) (v : Value) → (turn w v).slot ≡ w.slot + 1
unfolding turn
turn-slot w v = refl

-- ---- configurations forgotten

pub stands_forget : (g : Group) (cs : List Cast) (k : ℕ) (w : Turns) → k ≤ w.slot + 1 → Stands g cs w → Stands g cs (forget_configs k w)
stands_forget g cs k w h s = dropped (k - (w.base + 1)) (omega arith)
  where
    dropped : (d : ℕ) → d ≤ w.slot - w.base → Stands g cs (record w { base = w.base + d; configs = drop d w.configs })
    dropped d h = record {
      log = s.log;
      log_decided = s.log_decided;
      slot = s.slot;
      reading = s.reading;
      base = omega (arith, s.base);
      room = let e : length (drop d w.configs) ≡ length w.configs - d = length-drop d w.configs in omega (arith, s.base, s.room);
      configs = λ t b l.
          let i : d + (t - (w.base + d + 1)) ≡ t - (w.base + 1) = omega arith in
          get_drop w.configs d (t - (w.base + d + 1)) ∙ ap (λ y. slice_get w.configs y) i ∙ s.configs t (omega arith) l;
    }

-- ---- a Welcome made

told_members : (v : Shown) (ms : List Member)
    → map {A = WelcomeMember} (λ m. record { inc = m.joiner.inc; last = m.last }) (map (λ m. record { joiner = record (v.seat m.inc).joiner { inc = m.inc }; state = (v.seat m.inc).state; last = m.last }) ms) ≡ ms
told_members v [] = refl
told_members v (m ∷ ms) = ap (λ z. m ∷ z) (told_members v ms)

pub greeted : (g : Group) (cs : List Cast) (to : Inc) (n : Node) (w : Turns) (v : Shown) → 1 ≤ n.acceptor.promise.round → Stands g cs w → Begun g cs to w.slot → Greeted g cs to (welcome_of n w v)
greeted g cs to n w v rd s bg = record {
  begun = bg;
  log = s.log;
  log_decided = s.log_decided;
  slot = s.slot;
  reading = record { place = (s.reading).place; members = told_members v w.reading.members ∙ (s.reading).members; ever = (s.reading).ever };
  round = rd;
  configs = λ k h.
      let j : (w.slot - w.base) + k ≡ w.slot + (k + 1) - (w.base + 1) = omega (arith, s.base) in
      get_drop w.configs (w.slot - w.base) k ∙ ap (λ y. slice_get w.configs y) j ∙ s.configs (w.slot + (k + 1)) (omega (arith, s.base)) (omega arith);
}
