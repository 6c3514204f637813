-- Parts of a step, one after another.
use Rattle.std.proofs.Common.{◌≡◌, Result, Ok, Err, OnOk, Bool, true, false, List, [], ◌∷◌, ◌++◌, refl, sym, subst, ap}
use Rattle.group_rules.specs.Events.{Life}
use Rattle.group_rules.specs.Member.{Member, for_each}
use Rattle.member_truth.specs.Growing.{Grows}
use Rattle.member_truth.proofs.Grown.{promised}
use Rattle.member_moment.specs.declared.moment.Moment.{Moment}
use Rattle.member_moment.specs.Standing.{Stands}
use Rattle.member_moment.specs.Doing.{Does, IsKept}

-- nothing is done
pub does_nothing : (x : Moment) → Does (λ a. a) x x
does_nothing x = λ base a p st. st

-- the same, said in other words
pub does_same : (f g : Member → Member) (x y : Moment) → ((base : Life) (a : Member) → Stands base a x → f a ≡ g a) → Does g x y → Does f x y
does_same f g x y e d = λ base a p st. let q : f a ≡ g a = e base a st in subst (λ b. Stands base b y) (sym q) (d base a (subst IsKept q p) st)

-- one after another
pub does_then : (f g : Member → Member) → ((a : Member) → Grows a (g a)) → (x y z : Moment) → Does f x y → Does g y z → Does (λ a. g (f a)) x z
does_then f g grows x y z d e = λ base a p st. e base (f a) p (d base a (promised (grows (f a)) p) st)

-- by a test, whose outcome is known of each member that it may stand for
pub does_where : (test : Member → Bool) (f g : Member → Member) (x y : Moment) → ((base : Life) (a : Member) → Stands base a x → test a ≡ true) → Does f x y
    → Does (λ a. elim (test a) [ true ↦ f a | false ↦ g a ]) x y
does_where test f g x y h d = does_same (λ a. elim (test a) [ true ↦ f a | false ↦ g a ]) f x y (λ base a st. ap (λ b. elim b [ true ↦ f a | false ↦ g a ]) (h base a st)) d

pub does_unless : (test : Member → Bool) (f g : Member → Member) (x y : Moment) → ((base : Life) (a : Member) → Stands base a x → test a ≡ false) → Does g x y
    → Does (λ a. elim (test a) [ true ↦ f a | false ↦ g a ]) x y
does_unless test f g x y h d = does_same (λ a. elim (test a) [ true ↦ f a | false ↦ g a ]) g x y (λ base a st. ap (λ b. elim b [ true ↦ f a | false ↦ g a ]) (h base a st)) d

-- ---- one act for each of a list

each_and_one : {A : Type 0} → (f : A → Member → Member) (xs : List A) (x : A) (a : Member) → for_each f (xs ++ x ∷ []) a ≡ f x (for_each f xs a)
each_and_one f [] x a = refl
each_and_one f (y ∷ ys) x a = each_and_one f ys x (f y a)

pub does_one_more : {A : Type 0} → (f : A → Member → Member) → ((v : A) (a : Member) → Grows a (f v a)) → (xs : List A) (v : A) (x y z : Moment)
    → Does (for_each f xs) x y → Does (f v) y z → Does (for_each f (xs ++ v ∷ [])) x z
does_one_more f grows xs v x y z d e = does_same (for_each f (xs ++ v ∷ [])) (λ a. f v (for_each f xs a)) x z (λ base a st. each_and_one f xs v a) (does_then (for_each f xs) (f v) (grows v) x y z d e)

-- ---- what holds at Ok

pub on_ok_two : {T E P Q S : Type 0} (r : Result T E) → (P → Q → S) → OnOk r P → OnOk r Q → OnOk r S
on_ok_two (Ok x) f p q = f p q
on_ok_two (Err e) f p q = tt
