-- How the asks of an incarnation stand for its history.
use Rattle.std.specs.Prelude.{◌≡◌, Bool, true, false, Option, None, [], is_some}
use Rattle.gr_ids.specs.declared.levels.MemberState.{MemberState}
use Rattle.gr_ids.specs.declared.levels.MemberState.TheVariants.{Offline, Recovering, Online, Error}
use Rattle.group_rules.specs.declared.marks.Reply.TheVariants.{Asked}
use Rattle.group_rules.specs.Events.{AskFails, Committed, Did, Enters, Is, Life, Replied, Restores, Starts, Took}
use Rattle.group_rules.specs.Life.{certs, entered, executed as executed_by, has_give as has_give_by, is_offline, is_recovering, is_up, state}
use Rattle.group_rules.specs.Recovery.{add_place, failures as failures_by, pending_ask}
use Rattle.group_rules.specs.Taking.{takes_slots}
use Rattle.donor_recovery.specs.Asking.{Asking}
use Rattle.member_joining.specs.Asking.{executed_in, failures_in, has_give_in, pending_in, place_in}

-- They are what the rules of the group read from the history, and begin with the Welcome. Until a Give is taken up nothing is certified, and so nothing is
-- committed; the set that is asked with is the executed one until then.
pub record JoinsBy (l : Life) (x : Option Asking) : Type 0 where
  pub welcomed : is_some x ≡ is_some (entered l)
  pub place : place_in x ≡ add_place (entered l)
  pub pending : pending_in x ≡ pending_ask l
  pub failures : failures_in x ≡ failures_by l
  pub has_give : has_give_in x ≡ has_give_by l
  pub executed : is_some x ≡ true → has_give_by l ≡ false → executed_in x ≡ executed_by l
  pub certified : is_some x ≡ true → has_give_by l ≡ false → certs l ≡ []
  pub down : is_some x ≡ true → has_give_by l ≡ false → is_up (state l) ≡ false
  pub asks : is_some (pending_ask l) ≡ true → has_give_by l ≡ false
  pub outside : is_some x ≡ false → is_recovering (state l) ≡ false
  pub offline : is_offline (state l) ≡ true → (entered l ≡ None) × (certs l ≡ [])

-- a state that may be taken: OFFLINE before all else, RECOVERING behind a Welcome, ONLINE where slots are taken
abbrev pub MayBe : Life → MemberState → Type 0
MayBe l Recovering = is_some (entered l) ≡ true
MayBe l Online = takes_slots l ≡ true
MayBe l Offline = (entered l ≡ None) × (certs l ≡ [])
MayBe l Error = Unit {0}

-- a start, a Welcome, an entry, a commit, a state, an ask, its failure and a Give are of the joining
abbrev pub is_of_joining : Did → Bool
is_of_joining (Starts x) = true
is_of_joining (Enters w) = true
is_of_joining (Took e) = true
is_of_joining (Committed g) = true
is_of_joining (Is s c) = true
is_of_joining (Replied (Asked d)) = true
is_of_joining AskFails = true
is_of_joining (Restores g cs) = true
is_of_joining d = false
