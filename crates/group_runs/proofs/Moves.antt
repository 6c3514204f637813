-- Every move keeps what holds of the world, so it holds of every run.
use Rattle.std.proofs.Common.{◌≡◌, inl, inr, ℕ, zero, suc, Bool, true, false, Option, Some, None, List, [], ◌∷◌, refl, sym, ap, subst, ◌∙◌}
use Rattle.std.specs.Prelude.{◌==◌, ◌||◌, is_some, slice_get}
use Rattle.std.proofs.lemmas.Bool.{false≢true}
use Rattle.gr_ids.specs.Names.{inc_eq}
use Rattle.gr_ids.specs.declared.names.Inc.{Inc}
use Rattle.slot_values.specs.declared.value.Joiner.{Joiner}
use Rattle.key_items.specs.declared.item.Item.{Item}
use Rattle.paxos_forms.specs.declared.message.Message.{Message}
use Rattle.node_rules.specs.Lists.{In}
use Rattle.node_rules.specs.World as nodes
use Rattle.order_laws.specs.Laws.{InEveryRun, Named, HearingTakesNone, HearingGreetsNobody}
use Rattle.group_rules.specs.Events.{Event, Hears, Ticks, Works, Calls, Operates, Setup, Stored}
use Rattle.group_rules.specs.Member.{Member}
use Rattle.group_rules.specs.Steps.{group_of}
use Rattle.group_rules.specs.World.{World, Server, new_world, nothing_stored, server_at, is_declared, running_of, member_at, is_member, runs, is_taken, is_group_taken, nothing_happens, declare, found_at, found_all, started, start_by, stop, stored_by, written, write_by, event_by, event_at, take_message, kth, Move, Declares, Founds, Starts, Stops, WritesRow, Takes, Happens, move, world_after}
use Rattle.group_bridge.specs.Moves.{StepIsActs}
use Rattle.group_runs.specs.Runs.{as_sent, EveryRun, IsSetup, running_in, stored_after, stored_in}
use Rattle.node_rules.proofs.Incs.{inc_is}
use Rattle.group_runs.proofs.Servers.{put_cases}
use Rattle.group_runs.proofs.Inv.{Inv}
use Rattle.group_runs.proofs.Stepped.{Laws, stepped_keeps}
use Rattle.group_runs.proofs.Others.{declared_keeps, nothing_keeps, stopped_keeps, written_keeps, started_keeps}
use Rattle.group_runs.proofs.Founding.{Bare, founded}

some_is : {A : Type 0} {x y : A} → Some x ≡ Some y → x ≡ y
some_is {x = x} {y = y} e = cc

some_none : {A : Type 0} (x : A) → Some x ≡ None → ⊥
some_none x e = absurd (cc e)

or_first : (a b : Bool) → (a || b) ≡ false → a ≡ false
or_first true b e = e
or_first false b e = refl

not_some : {A : Type 0} (o : Option A) → is_some o ≡ false → o ≡ None
not_some None e = refl
not_some (Some x) e = absurd (false≢true (sym e))

-- ---- before the founding

bare_new : Bare new_world
bare_new = record { idle = λ n s q. absurd (some_none s (sym q)); sent = refl; lives = λ i. refl; runs = λ n. refl; stored = λ n. refl; none = tt }

bare_nothing : (w : World) → Bare w → Bare (nothing_happens w)
bare_nothing w b = record { idle = b.idle; sent = b.sent; lives = b.lives; runs = b.runs; stored = b.stored; none = b.none }

bare_declared : (w : World) → Bare w → (n : ℕ) (u z : List ℕ) (g : ℕ) → Bare (nothing_happens (declare n u z g w))
bare_declared w b n u z g = record {
  idle = λ k s q. elim (put_cases y w k s q) [ inl c ↦ (sym (ap (λ d. d.running) c.1), sym (ap (λ d. d.stored) c.1), sym (ap (λ d. d.starts) c.1)) | inr c ↦ b.idle k s c.1 ];
  sent = b.sent;
  lives = b.lives;
  runs = b.runs;
  stored = b.stored;
  none = b.none;
}
  where
    y : Server
    y = record { number = n; uuid = u; version = z; weight = g; starts = 0; stored = nothing_stored; running = None }

bare_stopped : (w : World) → Bare w → (n : ℕ) (s : Server) → server_at w n ≡ Some s → Bare (stop (Some s) w)
bare_stopped w b n s at_it = record {
  idle = λ k x q. elim (put_cases y w k x q) [ inl c ↦ (sym (ap (λ d. d.running) c.1), ap (λ d. d.stored) (sym c.1) ∙ left, ap (λ d. d.starts) (sym c.1) ∙ was.2) | inr c ↦ b.idle k x c.1 ];
  sent = b.sent;
  lives = b.lives;
  runs = λ k. go k (s.number == k);
  stored = λ k. stays k (s.number == k);
  none = b.none;
}
  where
    y : Server
    y = record s { stored = stored_by s.stored s.running; running = None }

    was : (s.running ≡ None) × (s.stored ≡ nothing_stored) × (s.starts ≡ 0)
    was = b.idle n s at_it

    left : stored_by s.stored s.running ≡ nothing_stored
    left = ap (λ o. stored_by s.stored o) was.0 ∙ was.1

    go : (k : ℕ) (c : Bool) → ◌≡◌ {A = Option Inc} (elim c [ true ↦ None | false ↦ running_in w.past k ]) None
    go k true = refl
    go k false = b.runs k

    stays : (k : ℕ) (c : Bool) → ◌≡◌ {A = Stored} (elim c [ true ↦ stored_after (stored_in w.past k) w.past (running_in w.past k) | false ↦ stored_in w.past k ]) nothing_stored
    stays k true = ap (λ o. stored_after (stored_in w.past k) w.past o) (b.runs k) ∙ b.stored k
    stays k false = b.stored k

-- ---- what the founding leaves

found_setup : (t : Setup) (js : List Joiner) (w : World) → (found_all t js w).setup ≡ w.setup
found_setup t [] w = refl
found_setup t (j ∷ js) w = found_setup t js (found_at t j w)

in_kth : {A : Type 0} (xs : List A) (k : ℕ) (x : A) → slice_get xs k ≡ Some x → In x xs
in_kth [] k x h = absurd (some_none x (sym h))
in_kth (y ∷ xs) zero x h = inl (some_is h)
in_kth (y ∷ xs) (suc k) x h = inr (in_kth xs k x h)

-- ---- every move

-- It holds of a world, once it is founded as the headline asks.
pub record Sound (w : World) : Type 0 where
  pub bare : w.setup ≡ None → Bare w
  pub runs : (t : Setup) → w.setup ≡ Some t → IsSetup t → (v : nodes.World) × Inv t w v

sound_nothing : (w : World) → Sound w → Sound (nothing_happens w)
sound_nothing w p = record { bare = λ q. bare_nothing w (p.bare q); runs = λ t q g. let r = p.runs t q g in (r.0, nothing_keeps t w r.0 r.1) }

module _ (acts : (e : Event) (a : Member) → StepIsActs e a) (named : (t : Setup) → IsSetup t → Laws t) (takes_none : HearingTakesNone) (greets_nobody : HearingGreetsNobody) where
  -- an event at an incarnation that runs
  sound_event : (w : World) → Sound w → (n : ℕ) (e : Event) → ((s : Server) (a : Member) → server_at w n ≡ Some s → s.running ≡ Some a → (m : Message) → e ≡ Hears m → In m w.sent × (m.to ≡ a.me.inc)) → Sound (event_at e (server_at w n) w)
  sound_event w p n e wired = go (server_at w n) refl
    where
      steps : (s : Server) → server_at w n ≡ Some s → (o : Option Member) → s.running ≡ o → Sound (event_by e s o w)
      steps s q None r = sound_nothing w p
      steps s q (Some a) r = record {
        bare = λ z. absurd (some_none a (sym r ∙ ((p.bare z).idle n s q).0));
        runs = λ t z g. let x = p.runs t z g in stepped_keeps t (named t g) takes_none greets_nobody w x.0 x.1 n s q a r e (wired s a q r) (acts e a);
      }

      go : (o : Option Server) → server_at w n ≡ o → Sound (event_at e o w)
      go None q = sound_nothing w p
      go (Some s) q = steps s q s.running refl

  no_message : (w : World) (n : ℕ) (e : Event) → ((m : Message) → e ≡ Hears m → ⊥) → (s : Server) (a : Member) → server_at w n ≡ Some s → s.running ≡ Some a → (m : Message) → e ≡ Hears m → In m w.sent × (m.to ≡ a.me.inc)
  no_message w n e h s a q r m z = absurd (h m z)

  sound_take : (w : World) → Sound w → (o : Option Message) → ((m : Message) → o ≡ Some m → In m w.sent) → Sound (take_message o w)
  sound_take w p None h = sound_nothing w p
  sound_take w p (Some m) h = go (runs w m.to) refl
    where
      addressed : runs w m.to ≡ true → (s : Server) (a : Member) → server_at w m.to.server ≡ Some s → s.running ≡ Some a → (x : Message) → Hears m ≡ Hears x → In x w.sent × (x.to ≡ a.me.inc)
      addressed y s a q r x z =
          let same : m ≡ x = cc in
          let is_it : inc_eq a.me.inc m.to ≡ true = sym (ap (λ o. is_member (running_of o) m.to) q ∙ ap (λ o. is_member o m.to) r) ∙ y in
          subst (λ c. In c w.sent × (c.to ≡ a.me.inc)) same (h m refl, sym (inc_is a.me.inc m.to is_it))

      go : (b : Bool) → runs w m.to ≡ b → Sound (elim b [ true ↦ event_at (Hears m) (server_at w m.to.server) w | false ↦ nothing_happens w ])
      go true y = sound_event w p m.to.server (Hears m) (addressed y)
      go false y = sound_nothing w p

  kth_sent : (w : World) (k : ℕ) (m : Message) → kth w.sent k ≡ Some m → In m w.sent
  kth_sent w zero m h = absurd (some_none m (sym h))
  kth_sent w (suc k) m h = in_kth w.sent k m h

  sound_declares : (w : World) → Sound w → (n : ℕ) (u z : List ℕ) (g : ℕ) → Sound (move (Declares n u z g) w)
  unfolding move
  sound_declares w p n u z g = go (is_taken n u w) refl
    where
      go : (b : Bool) → is_taken n u w ≡ b → Sound (elim b [ true ↦ nothing_happens w | false ↦ nothing_happens (declare n u z g w) ])
      go true h = sound_nothing w p
      go false h = record {
        bare = λ q. bare_declared w (p.bare q) n u z g;
        runs = λ t q c. let r = p.runs t q c in (r.0, declared_keeps t w r.0 r.1 n u z g (or_first (is_declared w n) _ h));
      }

  sound_founds : (w : World) → Sound w → (t : Setup) → Sound (move (Founds t) w)
  unfolding move
  sound_founds w p t = go (is_some w.setup || is_group_taken t.limits.group w) refl
    where
      w1 : World
      w1 = record w { setup = Some t; left = [] }

      go : (b : Bool) → (is_some w.setup || is_group_taken t.limits.group w) ≡ b → Sound (elim b [ true ↦ nothing_happens w | false ↦ found_all t t.founders (nothing_happens (record w { setup = Some t })) ])
      go true h = sound_nothing w p
      go false h = record {
        bare = λ q. absurd (some_none t (sym (found_setup t t.founders w1) ∙ q));
        runs = λ s q g.
            let same : t ≡ s = some_is (sym (found_setup t t.founders w1) ∙ q) in
            let b : Bare w = p.bare (not_some w.setup (or_first (is_some w.setup) (is_group_taken t.limits.group w) h)) in
            subst (λ c. (v : nodes.World) × Inv c (found_all t t.founders w1) v) same (nodes.start _, founded t (subst (λ c. IsSetup c) (sym same) g) w b);
      }

  sound_starts : (w : World) → Sound w → (n : ℕ) → (o : Option Setup) → w.setup ≡ o → (x : Option Server) → server_at w n ≡ x → (y : Option Member) → Sound (start_by o x y w)
  sound_starts w p n None q x r y = sound_nothing w p
  sound_starts w p n (Some t) q None r y = sound_nothing w p
  sound_starts w p n (Some t) q (Some s) r None = sound_nothing w p
  sound_starts w p n (Some t) q (Some s) r (Some via) = go (is_some s.running) refl
    where
      go : (b : Bool) → is_some s.running ≡ b → Sound (elim b [ true ↦ nothing_happens w | false ↦ started t s via w ])
      go true h = sound_nothing w p
      go false h = record {
        bare = λ z. absurd (some_none t (sym q ∙ z));
        runs = λ c z g. let same : t ≡ c = some_is (sym q ∙ z) in let k = p.runs c z g in subst (λ d. (v : nodes.World) × Inv c (started d s via w) v) (sym same) (started_keeps c w k.0 k.1 n s r (not_some s.running h) via);
      }

  sound_stops : (w : World) → Sound w → (n : ℕ) → (x : Option Server) → server_at w n ≡ x → Sound (stop x w)
  sound_stops w p n None r = sound_nothing w p
  sound_stops w p n (Some s) r = record { bare = λ q. bare_stopped w (p.bare q) n s r; runs = λ t q g. let k = p.runs t q g in (k.0, stopped_keeps t w k.0 k.1 n s r) }

  sound_writes : (w : World) → Sound w → (n : ℕ) (i : Item) (row : List ℕ) → Sound (move (WritesRow n i row) w)
  unfolding move
  sound_writes w p n i row = go w.setup refl
    where
      by : (t : Setup) → w.setup ≡ Some t → (x : Option Server) → server_at w n ≡ x → Sound (write_by i row x w)
      by t q None r = sound_nothing w p
      by t q (Some s) r = idle (is_some s.running) refl
        where
          idle : (b : Bool) → is_some s.running ≡ b → Sound (elim b [ true ↦ nothing_happens w | false ↦ written i row s w ])
          idle true h = sound_nothing w p
          idle false h = record {
            bare = λ z. absurd (some_none t (sym q ∙ z));
            runs = λ c z g. let k = p.runs c z g in (k.0, written_keeps c w k.0 k.1 n s r (not_some s.running h) i row);
          }

      go : (o : Option Setup) → w.setup ≡ o → Sound (elim (is_some o) [ true ↦ write_by i row (server_at w n) w | false ↦ nothing_happens w ])
      go None q = sound_nothing w p
      go (Some t) q = by t q (server_at w n) refl

  sound_move : (m : Move) (w : World) → Sound w → Sound (move m w)
  unfolding move
  sound_move (Declares n u z g) w p = sound_declares w p n u z g
  sound_move (Founds t) w p = sound_founds w p t
  sound_move (Starts n via) w p = sound_starts w p n w.setup refl (server_at w n) refl (member_at w via)
  sound_move (Stops n) w p = sound_stops w p n (server_at w n) refl
  sound_move (WritesRow n i row) w p = sound_writes w p n i row
  sound_move (Takes k) w p = sound_take w p (kth w.sent k) (λ m h. kth_sent w k m h)
  sound_move (Happens n (Hears m)) w p = sound_nothing w p
  sound_move (Happens n Ticks) w p = sound_event w p n Ticks (no_message w n Ticks (λ m q. absurd (cc q)))
  sound_move (Happens n (Works x b)) w p = sound_event w p n (Works x b) (no_message w n (Works x b) (λ m q. absurd (cc q)))
  sound_move (Happens n (Calls s r)) w p = sound_event w p n (Calls s r) (no_message w n (Calls s r) (λ m q. absurd (cc q)))
  sound_move (Happens n (Operates o)) w p = sound_event w p n (Operates o) (no_message w n (Operates o) (λ m q. absurd (cc q)))

  pub sound : (ms : List Move) → Sound (world_after ms)
  sound [] = record { bare = λ q. bare_new; runs = λ t q g. absurd (some_none t (sym q)) }
  sound (m ∷ ms) = sound_move m (world_after ms) (sound ms)

  pub every_run : EveryRun
  every_run ms t q g = let r = (sound ms).runs t q g in let k = r.1 in record { nodes = r.0; run = k.run; took = k.took; then = k.mids; heard = k.heard; there = k.there; slots = k.slots; done = k.done }

-- ---- the laws of the order, in these runs

pub named_runs : InEveryRun Named → (t : Setup) → IsSetup t → Laws t
named_runs law t g v r i n h = law as_sent (λ ms m k. k) (group_of t) r.0 g.horizon i n (subst (λ w. w.at i ≡ Some n) r.1 h)
