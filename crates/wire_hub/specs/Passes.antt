-- What clauses say of a hub and its passes.
use Rattle.std.specs.Prelude.{◌≡◌, ℕ, Bool, true, List, [], ◌∷◌, ◌&&◌, nat_lt, Some, map, slice_get, slice_index_or}
use Rattle.std.specs.declared.alloc.Global.{Global}
use mathlib.Core.List.{IsPrefix}
use Rattle.crossbeam_queue.specs.SegTies.{SegId}
use Rattle.gr_ids.specs.declared.names.Inc.{Inc}
use Rattle.wire_hub.specs.declared.letter.Letter.{Letter}
use Rattle.wire_hub.specs.declared.view.Told.{Told}
use Rattle.wire_hub.specs.declared.passes.Hub.{Hub}
use Rattle.wire_hub.specs.declared.passes.Mailbox.{Mailbox}
use Rattle.wire_hub.specs.declared.passes.Port.{Port}
use Rattle.wire_hub.specs.declared.passes.SendPass.{SendPass}
use Rattle.wire_hub.specs.declared.passes.TakePass.{TakePass}
use Rattle.wire_hub.specs.Letters.{of}

-- the servers ascend, from above n: they are distinct
abbrev pub ascends : ℕ → List Inc → Bool
ascends n [] = true
ascends n (x ∷ xs) = nat_lt n x.server && ascends x.server xs

-- the members of a group: incarnations of distinct servers, ascending
abbrev pub are_members : List Inc → Bool
are_members members = ascends 0 members

-- ---- what a pass knows

-- the letters that it has sent to each member, in the order of the members
abbrev pub sent_to : SendPass → List (List Letter)
sent_to pass = map (λ (p : Port). p.seat.me.view.client.letters) pass.ports.items

-- those to the member at the place k
abbrev pub sent_at : SendPass → ℕ → List Letter
sent_at pass k = slice_index_or (sent_to pass) k []

-- the letters that it has taken
abbrev pub got : TakePass → List Letter
got pass = pass.seat.me.view.client.letters

-- what it was told of the senders: of each, letters that begin what it had sent here
abbrev pub told : TakePass → List Told
told pass = pass.seat.me.view.client.told

-- its name, and what it has sent
abbrev pub what_of : SendPass → Inc × List (List Letter)
what_of pass = (pass.name, sent_to pass)

abbrev pub send_name : SendPass → Inc
send_name pass = pass.name

abbrev pub take_owner : TakePass → Inc
take_owner pass = pass.seat.me.view.client.owner

-- ---- of which hub it is a pass

abbrev pub queues : Hub → List (SegId Global)
queues hub = map (λ (b : Mailbox). b.line) hub.boxes.items

abbrev pub queue_of : Port → SegId Global
queue_of p = record { web = p.seat.web; heap = p.seat.heap }

abbrev pub owner_of : Port → Inc
owner_of p = p.seat.me.view.client.owner

-- it has a port for each mailbox of the hub
abbrev pub IsSendPassOf : Hub → SendPass → Type 0
IsSendPassOf hub pass = (map queue_of pass.ports.items ≡ queues hub) × (map owner_of pass.ports.items ≡ hub.members.items)

-- it is the pass of a member's mailbox, whose senders are the members
abbrev pub IsTakePassOf : Hub → TakePass → Type 0
IsTakePassOf hub pass =
    (slice_get (queues hub) pass.at ≡ Some (record { web = pass.seat.web; heap = pass.seat.heap }))
    × (slice_get hub.members.items pass.at ≡ Some pass.seat.me.view.client.owner)
    × (pass.seat.me.view.client.senders ≡ hub.members.items)

-- the letters of this sender that were taken begin what it has sent there
abbrev pub AreSent : TakePass → SendPass → Type 0
AreSent take send = IsPrefix (of send.name (got take)) (sent_at send take.at)
