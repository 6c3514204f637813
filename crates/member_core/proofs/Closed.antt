-- A member and what it keeps.
use Rattle.std.proofs.Common.{◌≡◌, ap, subst, sym}
use Rattle.group_rules.specs.Member.{Member}
use Rattle.member_core.specs.Whole.{Contents, Whole, closed, contents, is_stopped}
use Rattle.member_core.specs.Standing.{HasServerOf, IsMadeOf, IsMember, IsStoppedOf}

-- it is made for whom it stands for
pub is_made_of : (a : Member) (x : Contents) (y : Whole) → closed x ≡ y → IsMember a y → IsMadeOf a x
unfolding Whole closed contents IsMember
is_made_of a x y e m = subst (λ z. IsMadeOf a z) (sym e) m

-- it stands for whom it is made for
pub is_member : (a : Member) (x : Contents) → IsMadeOf a x → IsMember a (closed x)
unfolding Whole closed contents IsMember
is_member a x m = m

-- the same where it is stopped
pub is_stopped_of : (a : Member) (x : Contents) (y : Whole) → closed x ≡ y → HasServerOf a y → IsStoppedOf a x
unfolding Whole closed contents HasServerOf
is_stopped_of a x y e m = subst (λ z. IsStoppedOf a z) (sym e) m

pub has_server : (a : Member) (x : Contents) → IsStoppedOf a x → HasServerOf a (closed x)
unfolding Whole closed contents HasServerOf
has_server a x m = m

pub stopped_is : (x : Contents) (y : Whole) → closed x ≡ y → is_stopped y ≡ x.is_stopped
unfolding Whole closed is_stopped
stopped_is x y e = ap (λ z. is_stopped z) (sym e)
