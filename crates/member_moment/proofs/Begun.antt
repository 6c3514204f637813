-- Held begins that are done at a point, one after another.
use Rattle.std.proofs.Common.{◌≡◌, ℕ, ◌<◌, ◌+◌, Bool, true, false, Option, List, [], ◌∷◌, ◌++◌, append_assoc, drop, filter, get_or, length, map, reverse, refl, sym, subst, ap, ◌∙◌, arith, ne_eqb}
use Rattle.std.specs.Prelude.{◌==◌, ◌||◌}
use Rattle.std.specs.List.{list_all, list_any}
use Rattle.std.proofs.lemmas.Bool.{and_from, and_parts, eq-eqb, ltb-true}
use Rattle.std.proofs.lemmas.List.{append_cancel_right, at_drop_more, map-append, reverse-append, reverse-reverse}
use Rattle.gtid_sets.specs.Sets.{Gtids}
use Rattle.group_rules.specs.Events.{Begun, Did, Life}
use Rattle.group_rules.specs.Holds.{standing}
use Rattle.group_rules.specs.Life.{executed}
use Rattle.group_rules.specs.Member.{Member, for_each, push}
use Rattle.group_rules.specs.Points.{begin_all}
use Rattle.group_rules.specs.Sessions.{is_holding, phase}
use Rattle.consistency_waits.specs.declared.held.Released.{Released}
use Rattle.consistency_waits.specs.Following.{HeldOf, begins}
use Rattle.consistency_waits.specs.Holding.{ascend, is_due, released_as}
use Rattle.consistency_waits.proofs.Ascending.{all_filter, ascend_filter, is_above, parts}
use Rattle.consistency_waits.proofs.Begins.{all_begin}
use Rattle.consistency_waits.proofs.Histories.{held_told}
use Rattle.member_parts.specs.declared.parts.MemberParts.{MemberParts}
use Rattle.member_moment.specs.declared.moment.Moment.{Moment}
use Rattle.member_moment.specs.Aside.{ButParts}
use Rattle.member_moment.specs.Beginning.{begins_now}

-- each is held when its turn comes
abbrev pub AreHeld : List Released → Member → Type 0
AreHeld [] a = Unit {0}
AreHeld (r ∷ rs) a = (is_holding (phase a.life r.session) ≡ true) × AreHeld rs (begins_now r a)

pub by_now : (rs : List Released) (a : Member) → begins (executed a.life) rs a ≡ for_each begins_now rs a
by_now [] a = refl
by_now (r ∷ rs) a = by_now rs (begins_now r a)

-- ---- what begins is what is held and due

abbrev did_begin : Gtids → Released → Did
did_begin e r = Begun r.session e r.sync

lives : (e : Gtids) (rs : List Released) (a : Member) → (begins e rs a).life ≡ map (did_begin e) (reverse rs) ++ a.life
lives e [] a = refl
lives e (r ∷ rs) a =
    lives e rs (push (did_begin e r) a)
    ∙ (sym (append_assoc (map (did_begin e) (reverse rs)) (did_begin e r ∷ []) a.life)
    ∙ ap (λ l. l ++ a.life) (sym (map-append (did_begin e) (reverse rs) (r ∷ [])) ∙ ap (map (did_begin e)) (sym (reverse-append (r ∷ []) rs))))

same_begin : (e : Gtids) (r q : Released) → did_begin e r ≡ did_begin e q → r ≡ q
same_begin e r q h =
    let p : r.session ≡ q.session = cc in
    let u : r.sync ≡ q.sync = cc in
    let make : ℕ → Option ℕ → Released = λ s y. record { session = s; sync = y } in
    ap (λ s. make s r.sync) p ∙ ap (make q.session) u

same_begins : (e : Gtids) (rs qs : List Released) → map (did_begin e) rs ≡ map (did_begin e) qs → rs ≡ qs
same_begins e [] [] h = refl
same_begins e [] (q ∷ qs) h = cc
same_begins e (r ∷ rs) [] h = cc
same_begins e (r ∷ rs) (q ∷ qs) h =
    let one : did_begin e r ≡ did_begin e q = cc in
    let more : map (did_begin e) rs ≡ map (did_begin e) qs = cc in
    ap (λ x. x ∷ rs) (same_begin e r q one) ∙ ap (λ xs. q ∷ xs) (same_begins e rs qs more)

-- what begins is known by what is left of it
told_by : (e : Gtids) (rs qs : List Released) (a : Member) → begins e rs a ≡ begins e qs a → rs ≡ qs
told_by e rs qs a h =
    let l : map (did_begin e) (reverse rs) ++ a.life ≡ map (did_begin e) (reverse qs) ++ a.life = sym (lives e rs a) ∙ (ap (λ (b : Member). b.life) h ∙ lives e qs a) in
    sym (reverse-reverse rs) ∙ (ap reverse (same_begins e (reverse rs) (reverse qs) (append_cancel_right (map (did_begin e) (reverse rs)) (map (did_begin e) (reverse qs)) a.life l)) ∙ reverse-reverse qs)

-- ---- each of them is held

all_of : {A : Type 0} → (key : A → ℕ) (p : ℕ → Bool) (xs : List A) → ((t : ℕ) → list_any (λ y. key y == t) xs ≡ true → p t ≡ true) → list_all (λ y. p (key y)) xs ≡ true
all_of key p [] f = refl
all_of key p (x ∷ xs) f =
    let here : list_any (λ y. key y == key x) (x ∷ xs) ≡ true = rw (eq-eqb (key x) (key x) refl) refl in
    and_from (p (key x)) (list_all (λ y. p (key y)) xs) (f (key x) here) (all_of key p xs (λ t k. f t (or_right (key x == t) (list_any (λ y. key y == t) xs) k)))
  where
    or_right : (b d : Bool) → d ≡ true → (b || d) ≡ true
    or_right true d k = refl
    or_right false d k = k

-- a begin leaves those above it held
still : (l : Life) (s : ℕ) (e : Gtids) (y : Option ℕ) (ts : List _) → list_all (is_above s) ts ≡ true → list_all (λ h. is_holding (phase l h.session)) ts ≡ true
    → list_all (λ h. is_holding (phase (Begun s e y ∷ l) h.session)) ts ≡ true
still l s e y [] u k = refl
still l s e y (h ∷ ts) u k =
    let above = and_parts (is_above s h) (list_all (is_above s) ts) u in
    let held = and_parts (is_holding (phase l h.session)) (list_all (λ x. is_holding (phase l x.session)) ts) k in
    let apart : (s == h.session) ≡ false = ne_eqb s h.session (λ q. let w = ltb-true s h.session above.0 in omega (arith, w, q)) in
    let now : is_holding (phase (Begun s e y ∷ l) h.session) ≡ true = rw (apart, phase) held.0 in
    and_from (is_holding (phase (Begun s e y ∷ l) h.session)) (list_all (λ x. is_holding (phase (Begun s e y ∷ l) x.session)) ts) now (still l s e y ts above.1 held.1)

each_held : (a : Member) (ts : List _) → ascend ts ≡ true → list_all (λ h. is_holding (phase a.life h.session)) ts ≡ true → AreHeld (map released_as ts) a
each_held a [] u k = tt
each_held a (h ∷ ts) u k =
    let up = parts h ts u in
    let held = and_parts (is_holding (phase a.life h.session)) (list_all (λ x. is_holding (phase a.life x.session)) ts) k in
    (held.0, each_held (begins_now (released_as h) a) ts up.1 (still a.life h.session (executed a.life) h.sync_place ts up.0 held.1))

pub are_held : (x : MemberParts) (rs : List Released) (a : Member) → HeldOf a.setup a.me.inc a.life x.waits → begin_all a ≡ begins (executed a.life) rs a → AreHeld rs a
are_held x rs a f e =
    let due = is_due (standing a.life) in
    let same : rs ≡ map released_as (filter due x.waits) = told_by (executed a.life) rs (map released_as (filter due x.waits)) a (sym e ∙ all_begin a x.waits f) in
    let all = all_of (λ h. h.session) (λ t. is_holding (phase a.life t)) x.waits (λ t k. sym (held_told a.setup a.me.inc a.life x.waits t f) ∙ k) in
    subst (λ qs. AreHeld qs a) (sym same) (each_held a (filter due x.waits) (ascend_filter due x.waits f.up) (all_filter due (λ h. is_holding (phase a.life h.session)) x.waits all))

-- ---- some have begun

pub record Beginning (base : Life) (a : Member) (done rs : List Released) (x : Moment) : Type 0 where
  pub now : Member
  pub stands : ButParts base now x
  pub rest : for_each begins_now rs now ≡ for_each begins_now done a
  pub held : AreHeld rs now

pub none_yet : (base : Life) (a : Member) (rs : List Released) (x : Moment) → AreHeld rs a → ButParts base a x → Beginning base a rs rs x
none_yet base a rs x h b = record { now = a; stands = b; rest = refl; held = h }

pub one_begins : (base : Life) (a : Member) (done rs : List Released) (r : Released) (x y : Moment)
    → ((k : Life) (b : Member) → is_holding (phase b.life r.session) ≡ true → ButParts k b x → ButParts k (begins_now r b) y)
    → Beginning base a done (r ∷ rs) x → Beginning base a done rs y
one_begins base a done rs r x y f w = record { now = begins_now r w.now; stands = f base w.now w.held.0 w.stands; rest = w.rest; held = w.held.1 }

pub next_of : {A : Type 0} → (xs : List A) (i : ℕ) (x : A) → i < length xs → x ≡ get_or xs i x → drop i xs ≡ x ∷ drop (i + 1) xs
next_of xs i x h e = at_drop_more (λ ys. ys) xs i x h ∙ ap (λ y. y ∷ drop (i + 1) xs) (sym e)
