-- How the parts of a hub grow while it is made.
use Rattle.std.proofs.Common.{◌≡◌, ℕ, zero, suc, ◌+◌, ◌<◌, ◌≤◌, ◌⊎◌, inl, inr, ⊎_elim, true, false, List, [], ◌∷◌, ◌++◌, length, set, get_or, map, take, drop, sym, refl, ap, ◌∙◌, subst, arith, Some, slice_get}
use Rattle.std.specs.List.{All}
use Rattle.std.specs.declared.alloc.Global.{Global}
use Rattle.std.proofs.lemmas.List.{map-append, map-id, map-set, take_more}
use Rattle.std.proofs.Math.Dec.{ltb}
use Rattle.std.proofs.lemmas.Bool.{and_parts, ltb-true}
use Rattle.std.proofs.lemmas.List.Edits.{map_over_more}
use Rattle.std.proofs.lemmas.List.Elements.{All-nil, All-cons, All-head, All-tail, All-map, All-take}
use Rattle.std.proofs.lemmas.Option.{slice_get_within, get_or_from_slice_get, slice_get-map}
use Rattle.crossbeam_queue.specs.SegTies.{SegId}
use Rattle.gr_ids.specs.declared.names.Inc.{Inc}
use Rattle.gr_ids.specs.Names.{inc_eq, has_inc}
use Rattle.wire_hub.specs.declared.letter.Letter.{Letter}
use Rattle.wire_hub.specs.declared.view.View.{View}
use Rattle.wire_hub.specs.declared.passes.Mailbox.{Mailbox}
use Rattle.wire_hub.specs.declared.passes.Port.{Port}
use Rattle.wire_hub.specs.declared.passes.TakePass.{TakePass}
use Rattle.wire_hub.specs.Letters.{last_index}
use Rattle.wire_hub.specs.Posts.{taker, making, newcomer}
use Rattle.std.specs.Option.{option_map}
use Rattle.wire_hub.specs.Passes.{ascends, queue_of, owner_of, take_owner, got, told}
use Rattle.wire_hub.specs.Opening.{AreInOrder, box_queue, take_queue, take_tie, take_view, port_view}
use Rattle.wire_hub.proofs.Lists.{eq_apart, neither}
use Rattle.wire_hub.proofs.Ties.{letters_of}
use Rattle.wire_hub.proofs.Maps.{map_kept, map_read, map_at, map_under}

module _ {A : Type 0} where
  pub some_there : (xs : List A) (k : ℕ) (d : A) → k < length xs → slice_get xs k ≡ Some (get_or xs k d)
  some_there [] k d l = absurd (omega arith)
  some_there (x ∷ xs) zero d l = refl
  some_there (x ∷ xs) (suc k) d l = some_there xs k d (omega arith)

  at_end : (xs : List A) (y z : A) (k : ℕ) → slice_get (xs ++ y ∷ []) k ≡ Some z → (slice_get xs k ≡ Some z) ⊎ ((k ≡ length xs) × (y ≡ z))
  at_end [] y z zero e = inr (refl, cc e)
  at_end [] y z (suc k) e = absurd (cc e)
  at_end (x ∷ xs) y z zero e = inl e
  at_end (x ∷ xs) y z (suc k) e = ⊎_elim (λ (h : slice_get xs k ≡ Some z). inl h) (λ (h : (k ≡ length xs) × (y ≡ z)). inr (ap suc h.0, h.1)) (at_end xs y z k e)

  pub all_at : (P : A → Type 0) (xs : List A) (k : ℕ) (x : A) → All P xs → slice_get xs k ≡ Some x → P x
  all_at P xs k x h at = subst P (get_or_from_slice_get xs k x x at) (h k x (slice_get_within xs k x at))

  pub next_taken : (xs : List A) (k : ℕ) (x : A) → slice_get xs k ≡ Some x → take (k + 1) xs ≡ take k xs ++ x ∷ []
  next_taken xs k x at = take_more xs k x (slice_get_within xs k x at) ∙ ap (λ y. take k xs ++ y ∷ []) (get_or_from_slice_get xs k x x at)

  at_rest : (f : A → A) (xs : List A) (k : ℕ) → slice_get (map f (take k xs) ++ drop k xs) k ≡ slice_get xs k
  at_rest f [] zero = refl
  at_rest f [] (suc k) = refl
  at_rest f (x ∷ xs) zero = refl
  at_rest f (x ∷ xs) (suc k) = at_rest f xs k

module _ {A B : Type 0} (f : A → B) where
  pub map_length : (xs : List A) → length (map f xs) ≡ length xs
  map_length [] = refl
  map_length (x ∷ xs) = ap suc (map_length xs)

  pub all_under : (P : B → Type 0) (xs : List A) → All P (map f xs) → All (λ x. P (f x)) xs
  all_under P [] h = All-nil _
  all_under P (x ∷ xs) h = All-cons (λ y. P (f y)) x xs (All-head P (f x) (map f xs) h) (all_under P xs (All-tail P (f x) (map f xs) h))

  -- one more of those that are wanted
  pub grows : (xs : List A) (x : A) (wanted : List B) (k : ℕ) (y : B) → map f xs ≡ take k wanted → slice_get wanted k ≡ Some y → f x ≡ y → map f (xs ++ x ∷ []) ≡ take (k + 1) wanted
  grows xs x wanted k y so at is = map-append f xs (x ∷ []) ∙ ((λ i. so i ++ is i ∷ []) ∙ sym (next_taken wanted k y at))

  module _ {C : Type 0} (g : B → C) where
    pub map_twice : (xs : List A) → map g (map f xs) ≡ map (λ x. g (f x)) xs
    map_twice [] = refl
    map_twice (x ∷ xs) = ap (λ l. g (f x) ∷ l) (map_twice xs)

pub order_next : (takes : List TakePass) (t : TakePass) → AreInOrder takes → t.at ≡ length takes → AreInOrder (takes ++ t ∷ [])
order_next takes t h at k u e = ⊎_elim (λ (x : slice_get takes k ≡ Some u). h k u x) (λ (x : (k ≡ length takes) × (t ≡ u)). ap (λ (w : TakePass). w.at) (sym x.1) ∙ (at ∙ sym x.0)) (at_end takes t u k e)

pub order_none : AreInOrder []
order_none k u e = absurd (cc e)

-- the ties of a list of takers tell its queues, and its order
pub tie_queues : (xs ys : List TakePass) → map take_tie xs ≡ map take_tie ys → map take_queue xs ≡ map take_queue ys
tie_queues xs ys e = sym (map_twice take_tie (λ (q : SegId Global × ℕ). q.0) xs) ∙ (ap (map (λ (q : SegId Global × ℕ). q.0)) e ∙ map_twice take_tie (λ (q : SegId Global × ℕ). q.0) ys)

pub tie_order : (xs ys : List TakePass) → map take_tie xs ≡ map take_tie ys → AreInOrder ys → AreInOrder xs
tie_order xs ys e h k t at =
    let there : slice_get (map take_tie ys) k ≡ Some (take_tie t) = ap (λ l. slice_get l k) (sym e) ∙ (slice_get-map take_tie xs k ∙ ap (option_map take_tie) at) in
    let u = map_under take_tie ys k (take_tie t) there in
    ap (λ (q : SegId Global × ℕ). q.1) (sym u.2) ∙ h k u.0 u.1

-- ---- the port of one sender to the mailbox at k
module _ (takes₀ takes : List TakePass) (boxes : List Mailbox) (k : ℕ) (t : TakePass) (b : Mailbox) (name : Inc)
    (queues : map take_queue takes₀ ≡ map box_queue boxes) (ties : map take_tie takes ≡ map take_tie takes₀) (here : k < length boxes) (is : t ≡ get_or takes k t) (is' : b ≡ get_or boxes k b)
    (views : map take_view takes ≡ map (making name) (take k (map take_view takes₀)) ++ drop k (map take_view takes₀)) where
  same_count : length takes ≡ length boxes
  same_count = sym (map_length take_queue takes) ∙ (ap length (tie_queues takes takes₀ ties ∙ queues) ∙ map_length box_queue boxes)

  within : k < length takes
  within = omega (arith, same_count, here)

  pub port_tie : take_queue t ≡ b.line
  port_tie =
      let one = map_at take_queue takes k t within is in let two = map_at box_queue boxes k b here is' in
      let same = ap (λ l. slice_get l k) (tie_queues takes takes₀ ties ∙ queues) in cc (one, two, same)

  old_view : slice_get (map take_view takes₀) k ≡ Some (take_view t)
  old_view = sym (at_rest (making name) (map take_view takes₀) k) ∙ (ap (λ l. slice_get l k) (sym views) ∙ map_at take_view takes k t within is)

  pub port_fresh : All (λ (v : View). has_inc v.senders name ≡ false) (map take_view takes₀) → has_inc t.seat.me.view.client.senders name ≡ false
  port_fresh new = all_at (λ (v : View). has_inc v.senders name ≡ false) (map take_view takes₀) k (take_view t) new old_view

  pub ties_next : (w : TakePass) → take_queue w ≡ b.line → w.at ≡ t.at → map take_tie (set takes k w) ≡ map take_tie takes₀
  ties_next w same at = map_kept take_tie takes k t w is (λ i. ((same ∙ sym port_tie) i, at i)) ∙ ties

  pub views_next : (w : TakePass) → take_view w ≡ making name (take_view t) → map take_view (set takes k w) ≡ map (making name) (take (k + 1) (map take_view takes₀)) ++ drop (k + 1) (map take_view takes₀)
  views_next w made = map-set take_view takes k w ∙ (ap (set (map take_view takes) k) made
      ∙ map_over_more (making name) (map take_view takes₀) (map take_view takes) k (take_view t) (slice_get_within (map take_view takes₀) k (take_view t) old_view) views (sym (map_read take_view takes k t (take_view t) within is)))

  pub queues_next : (ports : List Port) (p : Port) → map queue_of ports ≡ take k (map box_queue boxes) → queue_of p ≡ b.line → map queue_of (ports ++ p ∷ []) ≡ take (k + 1) (map box_queue boxes)
  queues_next ports p so same = grows queue_of ports p (map box_queue boxes) k b.line so (map_at box_queue boxes k b here is') same

  pub ports_next : (ports : List Port) (p : Port) → map port_view ports ≡ take k (map (newcomer name) (map take_view takes₀)) → port_view p ≡ newcomer name (take_view t)
      → map port_view (ports ++ p ∷ []) ≡ take (k + 1) (map (newcomer name) (map take_view takes₀))
  ports_next ports p so made = grows port_view ports p (map (newcomer name) (map take_view takes₀)) k (newcomer name (take_view t)) so (slice_get-map (newcomer name) (map take_view takes₀) k ∙ ap (option_map (newcomer name)) old_view) made

-- a sender's pass that has sent nothing
pub new_own : (ports : List Port) (name : Inc) (n : ℕ) (views : List View) → map port_view ports ≡ take n (map (newcomer name) views)
    → All (λ (p : Port). (p.seat.me.view.client.name ≡ name) × (last_index 0 p.seat.me.view.client.letters ≤ 0)) ports
new_own ports name n views so =
    let P : View → Type 0 = λ v. (v.name ≡ name) × (last_index 0 v.letters ≤ 0) in
    all_under port_view P ports (subst (All P) (sym so) (All-take P n (map (newcomer name) views) (All-map P (newcomer name) views (λ j d l. (refl, omega arith)))))

-- ---- the members ascend, so each is new

above : (n : ℕ) (xs : List Inc) (k : ℕ) (d : Inc) → ascends n xs ≡ true → k < length xs → n < (get_or xs k d).server
above n [] k d up l = absurd (omega arith)
above n (x ∷ xs) zero d up l = ltb-true n x.server (and_parts (ltb n x.server) (ascends x.server xs) up).0
above n (x ∷ xs) (suc k) d up l =
    let h = and_parts (ltb n x.server) (ascends x.server xs) up in let low = ltb-true n x.server h.0 in let high = above x.server xs k d h.1 (omega arith) in omega (arith, low, high)

pub is_new : (n : ℕ) (xs : List Inc) (k : ℕ) (d : Inc) → ascends n xs ≡ true → k < length xs → has_inc (take k xs) (get_or xs k d) ≡ false
is_new n [] k d up l = absurd (omega arith)
is_new n (x ∷ xs) zero d up l = refl
is_new n (x ∷ xs) (suc k) d up l =
    let h = and_parts (ltb n x.server) (ascends x.server xs) up in let high = above x.server xs k d h.1 (omega arith) in
    neither (inc_eq x (get_or xs k d)) (has_inc (take k xs) (get_or xs k d)) (eq_apart x (get_or xs k d) (λ e. let s : x.server ≡ (get_or xs k d).server = ap (λ (i : Inc). i.server) e in omega (arith, s, high))) (is_new x.server xs k d h.1 (omega arith))

abbrev pub taker_of : List Inc → Inc → View
taker_of senders m = taker m senders [] []

pub all_new : (views : List View) (senders members : List Inc) (name : Inc) → views ≡ map (taker_of senders) members → has_inc senders name ≡ false → All (λ (v : View). has_inc v.senders name ≡ false) views
all_new views senders members name is new = subst (All (λ (v : View). has_inc v.senders name ≡ false)) (sym is) (All-map (λ (v : View). has_inc v.senders name ≡ false) (taker_of senders) members (λ j d l. new))

-- what the ports of a new sender know
module _ (ports : List Port) (views : List View) (name : Inc) (senders members : List Inc) (so : map port_view ports ≡ map (newcomer name) views) (is : views ≡ map (taker_of senders) members) where
  port_views : map port_view ports ≡ map (λ m. newcomer name (taker_of senders m)) members
  port_views = so ∙ (ap (map (newcomer name)) is ∙ map_twice (taker_of senders) (newcomer name) members)

  pub ports_owned : map owner_of ports ≡ members
  ports_owned = sym (map_twice port_view (λ (v : View). v.owner) ports) ∙ (ap (map (λ (v : View). v.owner)) port_views ∙ (map_twice (λ m. newcomer name (taker_of senders m)) (λ (v : View). v.owner) members ∙ map-id members))

  pub ports_empty : All (λ letters. letters ≡ []) (map letters_of ports)
  ports_empty =
      let same : map letters_of ports ≡ map (λ (m : Inc). []) members =
      sym (map_twice port_view (λ (v : View). v.letters) ports) ∙ (ap (map (λ (v : View). v.letters)) port_views ∙ map_twice (λ m. newcomer name (taker_of senders m)) (λ (v : View). v.letters) members) in
      subst (All (λ (l : List Letter). l ≡ [])) (sym same) (All-map (λ (l : List Letter). l ≡ []) (λ (m : Inc). []) members (λ j d l. refl))

-- the passes of the takers
module _ (qs : List (SegId Global)) (members : List Inc) (takes : List TakePass) (same : map take_queue takes ≡ qs) (is : map take_view takes ≡ map (taker_of members) members) (order : AreInOrder takes) where
  seen : (k : ℕ) (d : TakePass) → k < length takes → (m : Inc) × (slice_get members k ≡ Some m) × (taker_of members m ≡ take_view (get_or takes k d))
  seen k d l = map_under (taker_of members) members k (take_view (get_or takes k d)) (ap (λ x. slice_get x k) (sym is) ∙ (slice_get-map take_view takes k ∙ ap (option_map take_view) (some_there takes k d l)))

  pub takes_own : All (λ (t : TakePass). (slice_get qs t.at ≡ Some (take_queue t)) × (slice_get members t.at ≡ Some (take_owner t)) × (t.seat.me.view.client.senders ≡ members)) takes
  takes_own k d l =
      let t = get_or takes k d in let at = order k t (some_there takes k d l) in let m = seen k d l in (
        ap (slice_get qs) at ∙ (ap (λ x. slice_get x k) (sym same) ∙ (slice_get-map take_queue takes k ∙ ap (option_map take_queue) (some_there takes k d l))),
        ap (slice_get members) at ∙ (m.1 ∙ ap (λ (v : View). Some v.owner) m.2),
        ap (λ (v : View). v.senders) (sym m.2),
      )

  pub takes_empty : All (λ (t : TakePass). (got t ≡ []) × (told t ≡ [])) takes
  takes_empty k d l = let m = seen k d l in (ap (λ (v : View). v.letters) (sym m.2), ap (λ (v : View). v.told) (sym m.2))

  pub takes_owned : map take_owner takes ≡ members
  takes_owned = sym (map_twice take_view (λ (v : View). v.owner) takes) ∙ (ap (map (λ (v : View). v.owner)) is ∙ (map_twice (taker_of members) (λ (v : View). v.owner) members ∙ map-id members))
