-- A transaction of one statement, call by call.
use Rattle.std.proofs.Common.{◌≡◌, ℕ, true, false, refl}
use Rattle.group_rules.specs.declared.requests.Request.{Request}
use Rattle.group_rules.specs.declared.requests.Request.TheVariants.{Commit, Rollback}
use Rattle.group_rules.specs.Events.{Calls}
use Rattle.group_rules.specs.Script.{Play, event, has_changed, once_end, once_rest, phase_of}
use Rattle.group_rules.specs.Sessions.{is_active}
use Rattle.group_rules.specs.World.{member_at}

pub inactive : (n s : ℕ) (r : Request) (y : Play) → is_active (phase_of (member_at y.world n) s) ≡ false → once_rest n s r y ≡ y
inactive n s r y h = rw (h, once_rest) refl

pub active : (n s : ℕ) (r : Request) (y : Play) → is_active (phase_of (member_at y.world n) s) ≡ true → once_rest n s r y ≡ once_end n s (event n (Calls s r) y)
active n s r y h = rw (h, once_rest) refl

pub commits : (n s : ℕ) (y : Play) → has_changed y.world.left ≡ true → once_end n s y ≡ event n (Calls s Commit) y
commits n s y h = rw (h, once_end) refl

pub rolls_back : (n s : ℕ) (y : Play) → has_changed y.world.left ≡ false → once_end n s y ≡ event n (Calls s Rollback) y
rolls_back n s y h = rw (h, once_end) refl
