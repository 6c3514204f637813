-- Each kind of step keeps the rule of a mailbox.
use Rattle.std.proofs.Common.{◌≡◌, ◌≢◌, ℕ, zero, suc, ◌<◌, ⊎_elim, Bool, true, false, List, [], ◌∷◌, ◌++◌, length, set, sym, refl, ap, ◌∙◌, subst, append_assoc, append-nil, Option, Some, None}
use Rattle.std.specs.List.{All}
use Rattle.std.proofs.lemmas.List.Elements.{All-nil, All-cons, All-head, All-tail, All-append, All-push, All-weaker}
use mathlib.Core.Bool.{cond}
use mathlib.Core.Option.{some, some-injective, some-ne-none}
use mathlib.Core.List.{IsPrefix}
use lib.ListN.{get_elem?}
use Rattle.gr_ids.specs.declared.names.Inc.{Inc}
use Rattle.gr_ids.specs.Names.{inc_eq, has_inc}
use Rattle.crossbeam_queue.specs.Fifo.{Pushes, Pops, Forks, Merges, Learns}
use Rattle.crossbeam_queue.proofs.Lists.{at_set}
use Rattle.wire_hub.specs.declared.letter.Letter.{Letter}
use Rattle.wire_hub.specs.declared.view.View.{View}
use Rattle.wire_hub.specs.declared.view.Told.{Told}
use Rattle.wire_hub.specs.declared.view.Role.{Role}
use Rattle.wire_hub.specs.declared.view.Role.TheVariants.{Taker, Sender, Note}
use Rattle.wire_hub.specs.Letters.{of, rises, last_index}
use Rattle.wire_hub.specs.Posts.{Knows, Fits, Posted, TrueOf, taker, no_one, note, with_letter, sent, taken, emptied, owned, owning, making, newcomer, told_of, told_own, hears}
use Rattle.wire_hub.proofs.Lists.{same_inc, eq_self, either_way, true_not_false, not_among, was_sent, eq_apart, prefix_self, prefix_more, of-append, of_next, of_same, none_sent, rises_next, rises_begun, each_set, each_end}

module _ {A : Type 0} where
  none_apart : (o : Option A) (a : A) → o ≡ None → o ≡ Some a → ⊥
  none_apart o a n s = cc (n, s)

  some_same : (o : Option A) (a b : A) → o ≡ Some a → o ≡ Some b → a ≡ b
  some_same o a b p q = cc (p, q)

  middle : (P : A → Type 0) (xs ys : List A) (y : A) → All P (xs ++ y ∷ ys) → P y
  middle P [] ys y h = All-head P y ys h
  middle P (x ∷ xs) ys y h = middle P xs ys y (All-tail P x (xs ++ y ∷ ys) h)

-- ---- what stays where letters are added

true_more : (all zs : List Letter) (told : List Told) → TrueOf all told → TrueOf (all ++ zs) told
true_more all zs told h = All-weaker (λ (t : Told). IsPrefix t.letters (of t.name all)) (λ (t : Told). IsPrefix t.letters (of t.name (all ++ zs)))
    (λ t p. subst (λ (l : List Letter). IsPrefix t.letters l) (sym (of-append t.name all zs)) (prefix_more _ _ (of t.name zs) p)) told h

module _ (reader : ℕ) (seat : Inc → Option ℕ) (owner : Inc) where
  -- what a pass knows, by its role
  own : (got all : List Letter) (pass : ℕ) (v : View) (role : Role) → v.role ≡ role → Fits reader seat owner got all pass v → Knows reader seat owner got all pass v role
  own got all pass v role is fits = subst (λ (r : Role). Knows reader seat owner got all pass v r) is fits.1

  -- another pass than that of the sender of x
  knows_more : (got all : List Letter) (pass : ℕ) (x : Letter) → seat x.from ≡ Some pass → (j : ℕ) (u : View) (role : Role) → j ≢ pass → Knows reader seat owner got all j u role
      → Knows reader seat owner got (all ++ x ∷ []) j u role
  knows_more got all pass x from j u Taker apart k = (
    k.0,
    k.1,
    k.2,
    λ p low. let none = k.3 p low in
        (none.0, of_same p all x (eq_apart p x.from (λ e. none_apart (seat p) pass none.0 (ap seat e ∙ from))) ∙ none.1),
  )
  knows_more got all pass x from j u Sender apart k = (
    k.0,
    k.1,
    k.2 ∙ sym (of_same u.name all x (eq_apart u.name x.from (λ e. apart (some_same (seat u.name) j pass k.0 (ap seat e ∙ from))))),
  )
  knows_more got all pass x from j u Note apart k = tt

  -- another pass than the taker's
  knows_taken : (got more all : List Letter) (pass : ℕ) → pass ≡ reader → (j : ℕ) (u : View) (role : Role) → j ≢ pass → Knows reader seat owner got all j u role → Knows reader seat owner more all j u role
  knows_taken got more all pass is j u Taker apart k = absurd (apart (k.0 ∙ sym is))
  knows_taken got more all pass is j u Sender apart k = k
  knows_taken got more all pass is j u Note apart k = tt

  -- what it was told makes no difference
  knows_told : (got all : List Letter) (pass : ℕ) (v w : View) (role : Role) → Knows reader seat owner got all pass v role → Knows reader seat owner got all pass (hears v w) role
  knows_told got all pass v w Taker k = k
  knows_told got all pass v w Sender k = k
  knows_told got all pass v w Note k = tt

-- ---- the steps

pub begins : Posted [] (taker no_one [] [] [] ∷ [])
begins = (0, λ p. None, no_one, [], All-nil _, λ p. refl, only)
  where
    only : (j : ℕ) (u : View) → get_elem? (taker no_one [] [] [] ∷ []) j ≡ some u → Fits 0 (λ p. None) no_one [] [] j u
    only zero u e = subst (Fits 0 (λ p. None) no_one [] [] 0) (some-injective (taker no_one [] [] []) u e) (All-nil _, (refl, refl, refl, λ p low. (refl, refl)))
    only (suc j) u e = absurd (some-ne-none u (sym e))

pub sends : (n pass : ℕ) (v : View) (x : Letter) → v.role ≡ Sender → x.from ≡ v.name → x.to ≡ v.owner → last_index 0 v.letters < x.index → Pushes Posted n pass v x (sent v x)
sends n pass v x is from to high items views _ h at =
    let all : List Letter = h.3 ++ items in let w : View = with_letter v x in let mine = own h.0 h.1 h.2 h.3 all pass v Sender is (h.6 pass v at) in
    let grown : h.3 ++ (items ++ x ∷ []) ≡ all ++ x ∷ [] = sym (append_assoc h.3 items (x ∷ [])) in
    let seat : h.1 x.from ≡ Some pass = ap h.1 from ∙ mine.0 in
    let same : inc_eq v.name x.from ≡ true = subst (λ (p : Inc). inc_eq v.name p ≡ true) (sym from) (eq_self v.name) in
    let rise : (p : Inc) → rises 0 (of p (all ++ x ∷ [])) ≡ true = λ p. ⊎_elim
    (λ (e : inc_eq p x.from ≡ true). let name : p ≡ v.name = same_inc p x.from e ∙ from in let put : of p all ≡ v.letters = ap (λ q. of q all) name ∙ sym mine.2 in
    subst (λ (l : List Letter). rises 0 l ≡ true) (sym (of_next p all x e)) (rises_next 0 (of p all) x (h.5 p) (subst (λ (l : List Letter). last_index 0 l < x.index) (sym put) high)))
    (λ (e : inc_eq p x.from ≡ false). subst (λ (l : List Letter). rises 0 l ≡ true) (sym (of_same p all x e)) (h.5 p))
    (either_way (inc_eq p x.from)) in
    let knows : Knows h.0 h.1 h.2 h.3 (all ++ x ∷ []) pass w Sender = (mine.0, mine.1, ap (λ l. l ++ x ∷ []) mine.2 ∙ sym (of_next v.name all x same)) in
    let each : (j : ℕ) (u : View) → get_elem? (set views pass w) j ≡ some u → Fits h.0 h.1 h.2 h.3 (all ++ x ∷ []) j u = each_set (Fits h.0 h.1 h.2 h.3 (all ++ x ∷ [])) views pass w
    (true_more all (x ∷ []) v.told (h.6 pass v at).0, subst (λ (r : Role). Knows h.0 h.1 h.2 h.3 (all ++ x ∷ []) pass w r) (sym is) knows)
    (λ j u apart e. (true_more all (x ∷ []) u.told (h.6 j u e).0, knows_more h.0 h.1 h.2 h.3 all pass x seat j u u.role apart (h.6 j u e).1)) in (
      w,
      (
        h.0,
        h.1,
        h.2,
        h.3,
        subst (All (λ (y : Letter). y.to ≡ h.2)) (sym grown) (All-push (λ (y : Letter). y.to ≡ h.2) all x h.4 (to ∙ mine.1)),
        λ p. subst (λ (l : List Letter). rises 0 (of p l) ≡ true) (sym grown) (rise p),
        λ j u e. subst (λ (l : List Letter). Fits h.0 h.1 h.2 h.3 l j u) (sym grown) (each j u e),
      ),
      refl,
    )

pub takes : (pass : ℕ) (v : View) → v.role ≡ Taker → Pops Posted pass v (taken v)
takes pass v is x items views h at =
    let all : List Letter = h.3 ++ x ∷ items in let w : View = with_letter v x in let got : List Letter = h.3 ++ x ∷ [] in let mine = own h.0 h.1 h.2 h.3 all pass v Taker is (h.6 pass v at) in
    let same : got ++ items ≡ all = append_assoc h.3 (x ∷ []) items in
    let knows : Knows h.0 h.1 h.2 got all pass w Taker = (mine.0, mine.1, ap (λ l. l ++ x ∷ []) mine.2, mine.3) in
    let each : (j : ℕ) (u : View) → get_elem? (set views pass w) j ≡ some u → Fits h.0 h.1 h.2 got all j u = each_set (Fits h.0 h.1 h.2 got all) views pass w
    ((h.6 pass v at).0, subst (λ (r : Role). Knows h.0 h.1 h.2 got all pass w r) (sym is) knows)
    (λ j u apart e. ((h.6 j u e).0, knows_taken h.0 h.1 h.2 h.3 got all pass mine.0 j u u.role apart (h.6 j u e).1)) in
    let made : has_inc v.senders x.from ≡ true = ⊎_elim (λ (e : has_inc v.senders x.from ≡ true). e) (λ (e : has_inc v.senders x.from ≡ false). absurd (was_sent h.3 items x (mine.3 x.from e).1)) (either_way (has_inc v.senders x.from)) in
    let rise : (p : Inc) → rises 0 (of p (got ++ items)) ≡ true = λ p. subst (λ (l : List Letter). rises 0 (of p l) ≡ true) (sym same) (h.5 p) in (
      w,
      (
        h.0,
        h.1,
        h.2,
        got,
        subst (All (λ (y : Letter). y.to ≡ h.2)) (sym same) h.4,
        rise,
        λ j u e. subst (λ (l : List Letter). Fits h.0 h.1 h.2 got l j u) (sym same) (each j u e),
      ),
      (
        refl,
        middle (λ (y : Letter). y.to ≡ h.2) h.3 items x h.4 ∙ sym mine.1,
        made,
        λ p. subst (λ (l : List Letter). rises 0 (of p (l ++ x ∷ [])) ≡ true) (sym mine.2) (rises_begun 0 (of p got) (of p items) (subst (λ (l : List Letter). rises 0 l ≡ true) (of-append p got items) (rise p))),
      ),
    )

pub empties : (pass : ℕ) (v : View) → v.role ≡ Taker → Learns Posted pass v (emptied v)
empties pass v is items views h at none =
    let mine = own h.0 h.1 h.2 h.3 (h.3 ++ items) pass v Taker is (h.6 pass v at) in
    let same : h.3 ++ items ≡ v.letters = ap (λ l. h.3 ++ l) none ∙ (append-nil h.3 ∙ sym mine.2) in
    subst (λ (l : List Letter). TrueOf l v.told) same (h.6 pass v at).0

pub owns : (pass : ℕ) (v : View) → v.role ≡ Sender → Learns Posted pass v (owned v)
owns pass v is items views h at =
    let all : List Letter = h.3 ++ items in let mine = own h.0 h.1 h.2 h.3 all pass v Sender is (h.6 pass v at) in
    All-weaker (λ (t : Told). IsPrefix t.letters (of t.name all)) (λ (t : Told). t.name ≡ v.name → IsPrefix t.letters v.letters)
    (λ t p e. subst (λ (l : List Letter). IsPrefix t.letters l) (ap (λ q. of q all) e ∙ sym mine.2) p) v.told (h.6 pass v at).0

pub names : (p : Inc) (pass : ℕ) (v : View) → v.role ≡ Taker → v.senders ≡ [] → Forks Posted pass v (owning p v) (note [])
names p pass v is new items views h at =
    let all : List Letter = h.3 ++ items in let w : View = owning p v in let mine = own h.0 h.1 h.2 h.3 all pass v Taker is (h.6 pass v at) in
    let low : (q : Inc) → has_inc v.senders q ≡ false = λ q. ap (λ (l : List Inc). has_inc l q) new in
    let empty : all ≡ [] = none_sent all (λ q. (mine.3 q (low q)).1) in
    let knows : Knows h.0 h.1 p h.3 all pass w Taker = (mine.0, refl, mine.2, mine.3) in
    let others : (j : ℕ) (u : View) (role : Role) → j ≢ pass → Knows h.0 h.1 h.2 h.3 all j u role → Knows h.0 h.1 p h.3 all j u role = λ j u role. elim role as (λ r. j ≢ pass → Knows h.0 h.1 h.2 h.3 all j u r → Knows h.0 h.1 p h.3 all j u r) [
      | Taker ↦ λ apart k. absurd (apart (k.0 ∙ sym mine.0))
      | Sender ↦ λ apart k. absurd (none_apart (h.1 u.name) j (mine.3 u.name (low u.name)).0 k.0)
      | Note ↦ λ apart k. tt
    ] in (
      h.0,
      h.1,
      p,
      h.3,
      subst (All (λ (y : Letter). y.to ≡ p)) (sym empty) (All-nil (λ (y : Letter). y.to ≡ p)),
      h.5,
      each_end (Fits h.0 h.1 p h.3 all) (set views pass w) (note []) (All-nil _, tt)
          (each_set (Fits h.0 h.1 p h.3 all) views pass w
          ((h.6 pass v at).0, subst (λ (r : Role). Knows h.0 h.1 p h.3 all pass w r) (sym is) knows)
          (λ j u apart e. ((h.6 j u e).0, others j u u.role apart (h.6 j u e).1))),
    )

pub makes : (p : Inc) (pass : ℕ) (v : View) → v.role ≡ Taker → has_inc v.senders p ≡ false → Forks Posted pass v (making p v) (newcomer p v)
makes p pass v is low items views h at =
    let all : List Letter = h.3 ++ items in let w : View = making p v in let mine = own h.0 h.1 h.2 h.3 all pass v Taker is (h.6 pass v at) in
    let vs : List View = set views pass w in
    let seat : Inc → Option ℕ = λ q. cond (inc_eq p q) (Some (length vs)) (h.1 q) in
    let new : seat p ≡ Some (length vs) = ap (λ (b : Bool). cond b (Some (length vs)) (h.1 p)) (eq_self p) in
    let old : (q : Inc) → (p ≡ q → ⊥) → seat q ≡ h.1 q = λ q apart. ap (λ (b : Bool). cond b (Some (length vs)) (h.1 q)) (eq_apart p q apart) in
    let knows : Knows h.0 seat h.2 h.3 all pass w Taker = (
      mine.0,
      mine.1,
      mine.2,
      λ q not. let k = not_among v.senders p q not in let rest = mine.3 q k.0 in (old q (λ e. true_not_false (inc_eq p q) (subst (λ (i : Inc). inc_eq p i ≡ true) e (eq_self p)) k.1) ∙ rest.0, rest.1),
    ) in
    let others : (j : ℕ) (u : View) (role : Role) → j ≢ pass → Knows h.0 h.1 h.2 h.3 all j u role → Knows h.0 seat h.2 h.3 all j u role = λ j u role. elim role as (λ r. j ≢ pass → Knows h.0 h.1 h.2 h.3 all j u r → Knows h.0 seat h.2 h.3 all j u r) [
      | Taker ↦ λ apart k. absurd (apart (k.0 ∙ sym mine.0))
      | Sender ↦ λ apart k. (old u.name (λ e. none_apart (h.1 u.name) j (ap h.1 (sym e) ∙ (mine.3 p low).0) k.0) ∙ k.0, k.1, k.2)
      | Note ↦ λ apart k. tt
    ] in (
      h.0,
      seat,
      h.2,
      h.3,
      h.4,
      h.5,
      each_end (Fits h.0 seat h.2 h.3 all) vs (newcomer p v) (All-nil _, (new, mine.1, sym (mine.3 p low).1))
          (each_set (Fits h.0 seat h.2 h.3 all) views pass w
          ((h.6 pass v at).0, subst (λ (r : Role). Knows h.0 seat h.2 h.3 all pass w r) (sym is) knows)
          (λ j u apart e. ((h.6 j u e).0, others j u u.role apart (h.6 j u e).1))),
    )

module _ (items : List Letter) (views : List View) (h : Posted items views) (pass : ℕ) (v : View) (at : get_elem? views pass ≡ some v) where
  -- a note joins that tells what is true
  writes : (t : Told) → IsPrefix t.letters (of t.name (h.3 ++ items)) → Posted items (set views pass v ++ note (t ∷ []) ∷ [])
  writes t is = (
    h.0,
    h.1,
    h.2,
    h.3,
    h.4,
    h.5,
    each_end (Fits h.0 h.1 h.2 h.3 (h.3 ++ items)) (set views pass v) (note (t ∷ [])) (All-cons (λ (s : Told). IsPrefix s.letters (of s.name (h.3 ++ items))) t [] is (All-nil _), tt)
        (each_set (Fits h.0 h.1 h.2 h.3 (h.3 ++ items)) views pass v (h.6 pass v at) (λ j u apart e. h.6 j u e)),
  )

pub tells_of : (p : Inc) (pass : ℕ) (v : View) → v.role ≡ Taker → Forks Posted pass v v (told_of p v)
tells_of p pass v is items views h at =
    let mine = own h.0 h.1 h.2 h.3 (h.3 ++ items) pass v Taker is (h.6 pass v at) in
    writes items views h pass v at (record { name = p; letters = of p v.letters })
    (subst (λ (l : List Letter). IsPrefix (of p l) (of p (h.3 ++ items))) (sym mine.2) (of p items, sym (of-append p h.3 items)))

pub tells_own : (pass : ℕ) (v : View) → v.role ≡ Sender → Forks Posted pass v v (told_own v)
tells_own pass v is items views h at =
    let mine = own h.0 h.1 h.2 h.3 (h.3 ++ items) pass v Sender is (h.6 pass v at) in
    writes items views h pass v at (record { name = v.name; letters = v.letters })
    (subst (λ (l : List Letter). IsPrefix l (of v.name (h.3 ++ items))) (sym mine.2) (prefix_self (of v.name (h.3 ++ items))))

pub hears_more : (pass : ℕ) (v : View) (other : ℕ) (w : View) → Merges Posted pass v other w (hears v w) (note [])
hears_more pass v other w items views h at apart at' =
    let all : List Letter = h.3 ++ items in let both : View = hears v w in
    let was : get_elem? views other ≡ some w = ⊎_elim (λ (x : (other ≡ pass) × (both ≡ w)). absurd (apart x.0)) (λ (x : (other ≢ pass) × (get_elem? views other ≡ some w)). x.1) (at_set views pass other both w at') in
    let told : TrueOf all both.told = All-append (λ (t : Told). IsPrefix t.letters (of t.name all)) v.told w.told (h.6 pass v at).0 (h.6 other w was).0 in
    let now : (j : ℕ) (u : View) → get_elem? (set views pass both) j ≡ some u → Fits h.0 h.1 h.2 h.3 all j u = each_set (Fits h.0 h.1 h.2 h.3 all) views pass both
    (told, knows_told h.0 h.1 h.2 h.3 all pass v w v.role (h.6 pass v at).1) (λ j u ne e. h.6 j u e) in
    (h.0, h.1, h.2, h.3, h.4, h.5, each_set (Fits h.0 h.1 h.2 h.3 all) (set views pass both) other (note []) (All-nil _, tt) (λ j u ne e. now j u e))
