-- A port of a pass, and the mailbox at its place.
use Rattle.std.proofs.Common.{◌≡◌, ℕ, ◌<◌, ◌≤◌, List, [], ◌∷◌, ◌++◌, length, set, get_or, map, sym, ap, ◌∙◌, subst, arith, Some, slice_get}
use Rattle.std.specs.List.{All}
use Rattle.std.specs.declared.alloc.Global.{Global}
use Rattle.std.proofs.lemmas.List.{map-set}
use Rattle.std.proofs.lemmas.List.Elements.{All-set, All-weaker}
use Rattle.std.proofs.lemmas.Option.{slice_get_within}
use Rattle.crossbeam_queue.specs.SegTies.{SegId}
use Rattle.gr_ids.specs.declared.names.Inc.{Inc}
use Rattle.wire_hub.specs.declared.letter.Letter.{Letter}
use Rattle.wire_hub.specs.declared.passes.Hub.{Hub}
use Rattle.wire_hub.specs.declared.passes.Mailbox.{Mailbox}
use Rattle.wire_hub.specs.declared.passes.Port.{Port}
use Rattle.wire_hub.specs.declared.passes.SendPass.{SendPass}
use Rattle.wire_hub.specs.declared.passes.TakePass.{TakePass}
use Rattle.wire_hub.specs.declared.view.View.{View}
use Rattle.wire_hub.specs.Letters.{last_index}
use Rattle.wire_hub.specs.Posts.{with_letter}
use Rattle.wire_hub.specs.Passes.{IsSendPassOf, IsTakePassOf, sent_to, sent_at, queues, queue_of, owner_of}
use Rattle.wire_hub.proofs.Maps.{map_kept, map_read, map_at, map_within}
use Rattle.wire_hub.proofs.Lists.{last-next}

abbrev pub letters_of : Port → List Letter
letters_of p = p.seat.me.view.client.letters

module _ (pass : SendPass) (k : ℕ) (p : Port) (within : k < length pass.ports.items) (is : p ≡ get_or pass.ports.items k p) where
  pub port_own : (p.seat.me.view.client.name ≡ pass.name) × (last_index 0 p.seat.me.view.client.letters ≤ pass.last)
  port_own = subst (λ (q : Port). (q.seat.me.view.client.name ≡ pass.name) × (last_index 0 q.seat.me.view.client.letters ≤ pass.last)) (sym is) (pass.own k p within)

  pub port_sent : sent_at pass k ≡ p.seat.me.view.client.letters
  port_sent = map_read letters_of pass.ports.items k p [] within is

  module _ (hub : Hub) (b : Mailbox) (here : k < length hub.boxes.items) (is' : b ≡ get_or hub.boxes.items k b) (own : IsSendPassOf hub pass) where
    pub port_queue : queue_of p ≡ b.line
    port_queue =
        let one = map_at queue_of pass.ports.items k p within is in
        let two = map_at (λ (m : Mailbox). m.line) hub.boxes.items k b here is' in
        let same = ap (λ l. slice_get l k) own.0 in
        cc (one, two, same)

    pub port_owner : (i : Inc) → slice_get hub.members.items k ≡ Some i → owner_of p ≡ i
    port_owner i at = let one = map_at owner_of pass.ports.items k p within is in let same = ap (λ l. slice_get l k) own.1 in cc (one, same, at)

    -- the port is written
    pub port_kept : (q : Port) → queue_of q ≡ b.line → owner_of q ≡ owner_of p → (map queue_of (set pass.ports.items k q) ≡ queues hub) × (map owner_of (set pass.ports.items k q) ≡ hub.members.items)
    port_kept q same owner = (map_kept queue_of pass.ports.items k p q is (same ∙ sym port_queue) ∙ own.0, map_kept owner_of pass.ports.items k p q is owner ∙ own.1)

-- the pass of a taker, which took, or was told
module _ (hub : Hub) (take : TakePass) (b : Mailbox) (here : take.at < length hub.boxes.items) (is : b ≡ get_or hub.boxes.items take.at b) (own : IsTakePassOf hub take) where
  pub take_kept : (w : TakePass) → w.at ≡ take.at → record { web = w.seat.web; heap = w.seat.heap } ≡ b.line → w.seat.me.view.client.owner ≡ take.seat.me.view.client.owner
      → w.seat.me.view.client.senders ≡ take.seat.me.view.client.senders → IsTakePassOf hub w
  take_kept w at same owner senders = let one = map_at (λ (m : Mailbox). m.line) hub.boxes.items take.at b here is in (
    ap (slice_get (queues hub)) at ∙ (one ∙ ap (λ q. Some q) (sym same)),
    ap (slice_get hub.members.items) at ∙ (own.1 ∙ ap (λ (i : Inc). Some i) (sym owner)),
    senders ∙ own.2,
  )

-- a letter to the member at k
module _ (hub : Hub) (pass : SendPass) (x : Letter) (k : ℕ) (p : Port) (b : Mailbox) (place : slice_get hub.members.items k ≡ Some x.to) (own : IsSendPassOf hub pass)
    (is : p ≡ get_or pass.ports.items k p) (is' : b ≡ get_or hub.boxes.items k b) where
  within : k < length pass.ports.items
  within = map_within owner_of pass.ports.items k x.to (ap (λ l. slice_get l k) own.1 ∙ place)

  here : k < length hub.boxes.items
  here = omega (arith, slice_get_within hub.members.items k x.to place, hub.one_each)

  pub post_own : (p.seat.web ≡ b.line.web) × (p.seat.heap ≡ b.line.heap)
  post_own = let q = port_queue pass k p within is hub b here is' own in (ap (λ (s : SegId Global). s.web) q, ap (λ (s : SegId Global). s.heap) q)

  pub post_names : x.from ≡ pass.name → (x.from ≡ p.seat.me.view.client.name) × (x.to ≡ p.seat.me.view.client.owner)
  post_names from = (from ∙ sym (port_own pass k p within is).0, sym (port_owner pass k p within is hub b here is' own x.to place))

  pub post_index : pass.last < x.index → last_index 0 p.seat.me.view.client.letters < x.index
  post_index low = let le = (port_own pass k p within is).1 in omega (arith, le, low)

  pub post_kept : (q : Port) → queue_of q ≡ b.line → owner_of q ≡ owner_of p → (map queue_of (set pass.ports.items k q) ≡ queues hub) × (map owner_of (set pass.ports.items k q) ≡ hub.members.items)
  post_kept = port_kept pass k p within is hub b here is' own

  pub post_own_next : (q : Port) → q.seat.me.view.client ≡ with_letter p.seat.me.view.client x → pass.last < x.index
      → All (λ (r : Port). (r.seat.me.view.client.name ≡ pass.name) × (last_index 0 r.seat.me.view.client.letters ≤ x.index)) (set pass.ports.items k q)
  post_own_next q put low =
      let name : q.seat.me.view.client.name ≡ pass.name = ap (λ (v : View). v.name) put ∙ (port_own pass k p within is).0 in
      let last : last_index 0 q.seat.me.view.client.letters ≡ x.index = ap (λ (v : View). last_index 0 v.letters) put ∙ last-next 0 p.seat.me.view.client.letters x in
      All-set (λ (r : Port). (r.seat.me.view.client.name ≡ pass.name) × (last_index 0 r.seat.me.view.client.letters ≤ x.index)) pass.ports.items k q
      (name, omega (arith, last))
      (All-weaker (λ (r : Port). (r.seat.me.view.client.name ≡ pass.name) × (last_index 0 r.seat.me.view.client.letters ≤ pass.last))
      (λ (r : Port). (r.seat.me.view.client.name ≡ pass.name) × (last_index 0 r.seat.me.view.client.letters ≤ x.index))
      (λ r h. (h.0, omega (arith, h.1, low))) pass.ports.items pass.own)

  pub post_sent : (q : Port) → q.seat.me.view.client ≡ with_letter p.seat.me.view.client x → map letters_of (set pass.ports.items k q) ≡ set (sent_to pass) k (sent_at pass k ++ x ∷ [])
  post_sent q put = map-set letters_of pass.ports.items k q ∙ ap (λ w. set (sent_to pass) k w) (ap (λ (v : View). v.letters) put ∙ ap (λ w. w ++ x ∷ []) (sym (port_sent pass k p within is)))

  pub post_back : (q : Port) → q.seat.me.view.client ≡ p.seat.me.view.client → map letters_of (set pass.ports.items k q) ≡ sent_to pass
  post_back q back = map_kept letters_of pass.ports.items k p q is (ap (λ (v : View). v.letters) back)
