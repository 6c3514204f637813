-- What is said of the parts of a hub while it is made.
use Rattle.std.specs.Prelude.{◌≡◌, ℕ, List, [], Some, map, slice_get}
use Rattle.std.specs.List.{All}
use Rattle.std.specs.declared.alloc.Global.{Global}
use Rattle.crossbeam_queue.specs.SegTies.{SegId}
use Rattle.gr_ids.specs.declared.names.Inc.{Inc}
use Rattle.wire_hub.specs.declared.view.View.{View}
use Rattle.wire_hub.specs.declared.passes.Mailbox.{Mailbox}
use Rattle.wire_hub.specs.declared.passes.Port.{Port}
use Rattle.wire_hub.specs.declared.passes.SendPass.{SendPass}
use Rattle.wire_hub.specs.declared.passes.TakePass.{TakePass}
use Rattle.wire_hub.specs.Passes.{queue_of, owner_of, sent_to}

abbrev pub box_queue : Mailbox → SegId Global
box_queue b = b.line

abbrev pub port_view : Port → View
port_view p = p.seat.me.view.client

abbrev pub take_queue : TakePass → SegId Global
take_queue t = record { web = t.seat.web; heap = t.seat.heap }

abbrev pub take_view : TakePass → View
take_view t = t.seat.me.view.client

abbrev pub take_tie : TakePass → SegId Global × ℕ
take_tie t = (take_queue t, t.at)

-- each stands at its place
abbrev pub AreInOrder : List TakePass → Type 0
AreInOrder takes = (k : ℕ) (t : TakePass) → slice_get takes k ≡ Some t → t.at ≡ k

-- a sender's pass with a port to each of these mailboxes of these members, with which nothing was sent
abbrev pub IsNew : List (SegId Global) → List Inc → SendPass → Type 0
IsNew queues members s =
    (s.last ≡ 0) × (map queue_of s.ports.items ≡ queues) × (map owner_of s.ports.items ≡ members) × All (λ letters. letters ≡ []) (sent_to s)
