-- Replies.
use Rattle.std.specs.Prelude.{◌≡◌, false}
use Rattle.std.proofs.Common.{refl}
use Rattle.group_rules.specs.declared.marks.Reply.{Reply}
use Rattle.group_rules.specs.declared.marks.Reply.TheVariants.{Sent, Ballot, Asked, Failed, Finished, NotOnline, NoAskDue, NoAskPending, NotQueued, AlreadyDone}
use Rattle.group_rules.specs.Events.{Replied}
use Rattle.member_joining.specs.Joins.{is_of_joining}
use Rattle.member_moment.specs.Saying.{asks_a_donor}

pub is_no_joining : (r : Reply) → asks_a_donor r ≡ false → is_of_joining (Replied r) ≡ false
is_no_joining (Sent i) h = refl
is_no_joining (Ballot b) h = refl
is_no_joining (Asked d) h = h
is_no_joining Failed h = refl
is_no_joining Finished h = refl
is_no_joining (NotOnline s) h = refl
is_no_joining NoAskDue h = refl
is_no_joining NoAskPending h = refl
is_no_joining (NotQueued p) h = refl
is_no_joining (AlreadyDone p) h = refl
