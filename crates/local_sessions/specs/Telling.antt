-- What an answer tells of what its call did besides.
use Rattle.std.specs.Prelude.{◌≡◌, Bool, true, false}
use Rattle.group_rules.specs.declared.answers.Answer.{Answer}
use Rattle.group_rules.specs.declared.answers.Answer.TheVariants.{Busy, Changed as IsChanged, Killed, MemberLeft, NoTransaction, RolledBack}
use Rattle.group_rules.specs.declared.requests.Request.{Request}
use Rattle.group_rules.specs.declared.requests.Request.TheVariants.{Begin, Commit}
use Rattle.local_sessions.specs.Replies.{Asks, Deed, Ends, Holds, Nothing, Writing}

-- it ends the transaction, at any call but a commit
abbrev pub is_last : Answer → Bool
is_last (Killed g) = true
is_last MemberLeft = true
is_last RolledBack = true
is_last x = false

-- the answer of a commit ends the transaction, if there is one that is active
abbrev pub ends_commit : Answer → Bool
ends_commit Busy = false
ends_commit NoTransaction = false
ends_commit x = true

abbrev pub is_begin : Request → Bool
is_begin (Begin v w) = true
is_begin r = false

abbrev pub ends_by : Request → Answer → Bool
ends_by Commit x = ends_commit x
ends_by r x = is_last x

-- nothing, or the end, or a row that is changed
abbrev pub Fits : Bool → Answer → Deed → Type 0
Fits ends x Nothing = ends ≡ false
Fits ends x Ends = ends ≡ true
Fits ends x (Writing c) = (ends ≡ false) × (x ≡ IsChanged)
Fits ends x (Holds after state) = ⊥
Fits ends x Asks = ⊥
