-- In every run: the founding, and what is written offline.
use Rattle.std.proofs.Common.{◌≡◌, ◌⊎◌, inl, inr, ℕ, suc, ◌-◌, Bool, true, false, cond, Option, Some, None, List, [], ◌∷◌, ◌++◌, refl, sym, ap, subst, ◌∙◌, length, take, eqb, eq-eqb}
use Rattle.std.specs.Prelude.{◌==◌, ◌||◌, ◌&&◌, is_some, map}
use Rattle.std.specs.List.{list_any, find}
use Rattle.std.proofs.lemmas.Bool.{false≢true, cases_Bool, eqb-true}
use Rattle.gr_ids.specs.Names.{bytes_eq, inc_eq, has_inc}
use Rattle.gr_ids.specs.declared.names.Inc.{Inc}
use Rattle.gr_ids.specs.declared.levels.MemberState.TheVariants.{Online}
use Rattle.group_rules.specs.declared.marks.Cause.TheVariants.{Founded}
use Rattle.gtid_sets.specs.Canonical.{IsUuid}
use Rattle.slot_values.specs.declared.value.Joiner.{Joiner}
use Rattle.key_items.specs.declared.item.Item.{Item}
use Rattle.paxos_forms.specs.declared.message.Message.{Message}
use Rattle.node_rules.specs.Lists.{In}
use Rattle.node_rules.specs.World as nodes
use Rattle.group_rules.specs.Events.{Did, Founds, Is, Event, Hears, Ticks, Works, Calls, Operates, Life, Setup, OfflineWrite}
use Rattle.group_rules.specs.Member.{Member}
use Rattle.gtid_sets.specs.Sets.{with_gtid}
use Rattle.group_rules.specs.Steps.{step, found, start}
use Rattle.group_rules.specs.World.{World, Server, new_world, nothing_stored, server_at, running_of, member_at, runs, is_taken, is_group, is_group_taken, is_declared, has_uuid, is_default_of_other, nothing_happens, put_server, declare, found_at, found_all, started, start_by, stop, stored_by, written, write_by, stepped, event_by, event_at, take_message, kth, dids, happens, Move, Declares, Founds as Founds_, Starts, Stops, WritesRow, Takes, Happens, move, world_after, Past, Does, Writes, Halts, life_in}
use Rattle.group_rules.specs.World as world
use Rattle.group_rules.specs.Legal.{IsPast}
use Rattle.group_runs.specs.Runs.{IsSetup, running_in}
use Rattle.group_runs.specs.Servers.{IsFounding, FoundedAt, IsWritten, AllWritten, IsMove, OfServers, EveryRunOfServers}
use Rattle.group_runs.proofs.Servers.{put_cases, number_of}
use Rattle.group_runs.proofs.Pasts.{past_of_more}
use Rattle.group_runs.proofs.Inv.{inc_of, Inv}
use Rattle.group_runs.proofs.Stepped.{Laws}
use Rattle.group_runs.proofs.Moves.{sound}
use Rattle.group_bridge.specs.Moves.{StepIsActs}
use Rattle.order_laws.specs.Laws.{HearingTakesNone, HearingGreetsNobody}

some_is : {A : Type 0} {x y : A} → Some x ≡ Some y → x ≡ y
some_is {x = x} {y = y} e = cc

some_none : {A : Type 0} {x : A} → Some x ≡ None → ⊥
some_none e = absurd (cc e)

past_of : (b a p : Past) → IsPast b p → IsPast a b → IsPast a p
past_of b a [] k h = subst (λ y. IsPast a y) k h
past_of b a (x ∷ p) (inl e) h = subst (λ y. IsPast a y) e h
past_of b a (x ∷ p) (inr k) h = inr (past_of b a p k h)

past_self : (p : Past) → IsPast p p
past_self [] = refl
past_self (x ∷ p) = inl refl

-- ---- UUIDs

eq_back : (a b : ℕ) → eqb a b ≡ eqb b a
eq_back a b = go (cases_Bool (eqb a b)) (cases_Bool (eqb b a))
  where
    go : (eqb a b ≡ true) ⊎ (eqb a b ≡ false) → (eqb b a ≡ true) ⊎ (eqb b a ≡ false) → eqb a b ≡ eqb b a
    go (inl p) (inl q) = p ∙ sym q
    go (inr p) (inr q) = p ∙ sym q
    go (inl p) (inr q) = absurd (false≢true (sym q ∙ eq-eqb b a (sym (eqb-true a b p))))
    go (inr p) (inl q) = absurd (false≢true (sym p ∙ eq-eqb a b (sym (eqb-true b a q))))

bytes_back : (a b : List ℕ) → bytes_eq a b ≡ bytes_eq b a
bytes_back [] [] = refl
bytes_back [] (y ∷ b) = refl
bytes_back (x ∷ a) [] = refl
bytes_back (x ∷ a) (y ∷ b) = λ k. eq_back x y k && bytes_back a b k

or_none : (a b : Bool) → (a || b) ≡ false → (a ≡ false) × (b ≡ false)
or_none false false h = (refl, refl)
or_none true b h = absurd (false≢true (sym h))
or_none false true h = absurd (false≢true (sym h))

-- a server that stands in the list fails the test that none passes
none_passes : (test : Server → Bool) (ss : List Server) (n : ℕ) (s : Server) → list_any test ss ≡ false → find (λ s. s.number == n) ss ≡ Some s → test s ≡ false
none_passes test [] n s h e = absurd (some_none (sym e))
none_passes test (x ∷ ss) n s h e = go (x.number == n) e (or_none (test x) (list_any test ss) h) (λ k q. none_passes test ss n s k q)
  where
    go : (b : Bool) → cond b (Some x) (find (λ s. s.number == n) ss) ≡ Some s → (test x ≡ false) × (list_any test ss ≡ false) → (list_any test ss ≡ false → find (λ s. s.number == n) ss ≡ Some s → test s ≡ false) → test s ≡ false
    go true q k f = ap test (sym (some_is q)) ∙ k.0
    go false q k f = f k.1 q

-- ---- what happens more

written_more : (P : Past → ℕ → OfflineWrite → Type 0) (i : Inc) (l : Life) (p : Past) → AllWritten P p → AllWritten P (dids i l ++ p)
written_more P i [] p h = h
written_more P i (d ∷ l) p h = written_more P i l p h

founded_more : (t : Setup) (ps p : Past) → FoundedAt t p → FoundedAt t (ps ++ p)
founded_more t ps p f = record { past = f.past; earlier = past_of p f.past (ps ++ p) (past_of_more ps p) f.earlier; founding = f.founding; begun = f.begun }

servers_more : (t : Setup) (i : Inc) (l : Life) (p : Past) → OfServers t p → OfServers t (dids i l ++ p)
servers_more t i l p o = record { founded = founded_more t (dids i l) p o.founded; written = written_more (IsWritten t) i l p o.written }

-- ---- the world

abbrev Apart : Setup → World → Type 0
Apart t w = (n : ℕ) (s : Server) → server_at w n ≡ Some s → bytes_eq s.uuid t.limits.group ≡ false

abbrev Uuids : World → Type 0
Uuids w = (n : ℕ) (s : Server) → server_at w n ≡ Some s → IsUuid s.uuid

record Stands (w : World) : Type 0 where
  before : w.setup ≡ None → IsFounding w.past × Uuids w
  after : (t : Setup) → w.setup ≡ Some t → IsSetup t → (Uuids w × Apart t w) × OfServers t w.past

stands_nothing : (w : World) → Stands w → Stands (nothing_happens w)
stands_nothing w h = record { before = h.before; after = h.after }

-- one server is put that has the UUID that it had
stands_put : (w : World) → Stands w → (s y : Server) (n : ℕ) → server_at w n ≡ Some s → y.uuid ≡ s.uuid → (m : ℕ) (z : Server) → server_at (put_server y w) m ≡ Some z → (P : List ℕ → Type 0) → ((k : ℕ) (x : Server) → server_at w k ≡ Some x → P x.uuid) → P z.uuid
stands_put w h s y n e u m z q P f = elim (put_cases y w m z q) [
  | inl c ↦ subst (λ (x : Server). P x.uuid) c.1 (subst P (sym u) (f n s e))
  | inr c ↦ f m z c.1
]

-- ---- the founding

found_founding : (t : Setup) (js : List Joiner) (w : World) → IsFounding w.past → IsFounding (found_all t js w).past
unfolding found
found_founding t [] w h = h
found_founding t (j ∷ js) w h = found_founding t js (found_at t j w) h

life_more : (j i : Inc) (l : Life) (p : Past) → (life_in p i ≡ [] → ⊥) → life_in (dids j l ++ p) i ≡ [] → ⊥
life_more j i [] p h = h
life_more j i (d ∷ l) p h = go (inc_eq j i) (life_in (dids j l ++ p) i) (life_more j i l p h)
  where
    go : (b : Bool) (x : Life) → (x ≡ [] → ⊥) → ◌≡◌ {A = Life} (elim b [ true ↦ d ∷ x | false ↦ x ]) [] → ⊥
    go true x f e = absurd (cc e)
    go false x f e = f e

-- one that did something has begun
life_here : (j i : Inc) (d : Did) (p : Past) → inc_eq j i ≡ true → life_in (Does j d ∷ p) i ≡ [] → ⊥
life_here j i d p e q = go (inc_eq j i) (life_in p i) e q
  where
    go : (b : Bool) (x : Life) → b ≡ true → ◌≡◌ {A = Life} (elim b [ true ↦ d ∷ x | false ↦ x ]) [] → ⊥
    go true x f e = absurd (cc e)
    go false x f e = absurd (false≢true f)

grown_life : (t : Setup) (js : List Joiner) (w : World) (i : Inc) → (life_in w.past i ≡ [] → ⊥) → life_in (found_all t js w).past i ≡ [] → ⊥
grown_life t [] w i h = h
grown_life t (j ∷ js) w i h = grown_life t js (found_at t j w) i (life_more j.inc i (found t j).life w.past h)

found_life : (t : Setup) (js : List Joiner) (w : World) (i : Inc) → has_inc (map {A = Joiner} (λ j. j.inc) js) i ≡ true → life_in (found_all t js w).past i ≡ [] → ⊥
unfolding found
found_life t [] w i h = absurd (false≢true h)
found_life t (j ∷ js) w i h = go (inc_eq j.inc i) refl h (found_life t js (found_at t j w) i)
  where
    go : (b : Bool) → inc_eq j.inc i ≡ b → (b || has_inc (map {A = Joiner} (λ j. j.inc) js) i) ≡ true → (has_inc (map {A = Joiner} (λ j. j.inc) js) i ≡ true → life_in (found_all t js (found_at t j w)).past i ≡ [] → ⊥) → life_in (found_all t js (found_at t j w)).past i ≡ [] → ⊥
    go true e k f = grown_life t js (found_at t j w) i (life_here j.inc i (Is Online Founded) (Does j.inc Founds ∷ w.past) e)
    go false e k f = f k

-- the servers' UUIDs have what the declared ones and the founders' have
found_uuids : (t : Setup) (P : List ℕ → Type 0) (js : List Joiner) (w : World) → ((j : Joiner) → In j js → P j.uuid) → ((n : ℕ) (s : Server) → server_at w n ≡ Some s → P s.uuid) → (n : ℕ) (s : Server) → server_at (found_all t js w) n ≡ Some s → P s.uuid
unfolding found
found_uuids t P [] w f g n s e = g n s e
found_uuids t P (j ∷ js) w f g n s e = found_uuids t P js (found_at t j w) (λ k h. f k (inr h)) one n s e
  where
    y : Server
    y = record { number = j.inc.server; uuid = j.uuid; version = j.version; weight = j.weight; starts = 1; stored = nothing_stored; running = Some (found t j) }

    one : (m : ℕ) (z : Server) → server_at (found_at t j w) m ≡ Some z → P z.uuid
    one m z q = elim (put_cases y (record w { left = dids j.inc (found t j).life ++ w.left; past = dids j.inc (found t j).life ++ w.past }) m z q) [
      | inl c ↦ subst (λ (x : Server). P x.uuid) c.1 (f j (inl refl))
      | inr c ↦ g m z c.1
    ]

found_setup : (t : Setup) (js : List Joiner) (w : World) → (found_all t js w).setup ≡ w.setup
found_setup t [] w = refl
found_setup t (j ∷ js) w = found_setup t js (found_at t j w)

-- ---- every move

-- before the founding no server runs
abbrev Idle : World → Type 0
Idle w = w.setup ≡ None → (n : ℕ) (s : Server) → server_at w n ≡ Some s → s.running ≡ None

module _ (idle : (ms : List Move) → Idle (world_after ms)) (inv : (ms : List Move) (t : Setup) → (world_after ms).setup ≡ Some t → IsSetup t → (v : nodes.World) × Inv t (world_after ms) v) where
  module _ (ms : List Move) (h : Stands (world_after ms)) where
    abbrev w : World
    w = world_after ms

    event_in : (n : ℕ) (e : Event) → Stands (event_at e (server_at (world_after ms) n) (world_after ms))
    event_in n e = go (world_after ms).setup refl
      where
        steps : (s : Server) → server_at (world_after ms) n ≡ Some s → (o : Option Member) → s.running ≡ o → Stands (event_by e s o (world_after ms))
        steps s q None r = stands_nothing (world_after ms) h
        steps s q (Some a) r = record {
          before = λ y. absurd (some_none (sym r ∙ idle ms y n s q));
          after = λ t y g. (
            (
              (λ m z x. stands_put (world_after ms) h s (record s { running = Some (step e a) }) n q refl m z x IsUuid (h.after t y g).0.0),
              (λ m z x. stands_put (world_after ms) h s (record s { running = Some (step e a) }) n q refl m z x (λ u. bytes_eq u t.limits.group ≡ false) (h.after t y g).0.1),
            ),
            servers_more t a.me.inc (take (length (step e a).life - length a.life) (step e a).life) (world_after ms).past (h.after t y g).1,
          );
        }

        at : (o : Option Server) → server_at (world_after ms) n ≡ o → Stands (event_at e o (world_after ms))
        at None q = stands_nothing (world_after ms) h
        at (Some s) q = steps s q s.running refl

        go : (o : Option Setup) → (world_after ms).setup ≡ o → Stands (event_at e (server_at (world_after ms) n) (world_after ms))
        go o q = at (server_at (world_after ms) n) refl

    take_in : (o : Option Message) → Stands (take_message o (world_after ms))
    take_in None = stands_nothing (world_after ms) h
    take_in (Some m) = go (runs (world_after ms) m.to)
      where
        go : (b : Bool) → Stands (elim b [ true ↦ event_at (Hears m) (server_at (world_after ms) m.to.server) (world_after ms) | false ↦ nothing_happens (world_after ms) ])
        go true = event_in m.to.server (Hears m)
        go false = stands_nothing (world_after ms) h

    declares_in : (n : ℕ) (u v : List ℕ) (g : ℕ) → IsUuid u → Stands (move (Declares n u v g) (world_after ms))
    unfolding move
    declares_in n u v g x = go (is_taken n u (world_after ms)) refl
      where
        go : (b : Bool) → is_taken n u (world_after ms) ≡ b → Stands (elim b [ true ↦ nothing_happens (world_after ms) | false ↦ nothing_happens (declare n u v g (world_after ms)) ])
        go true e = stands_nothing (world_after ms) h
        go false e = record {
          before = λ q. ((h.before q).0, put (h.before q).1);
          after = λ t q k. (
            (
              put (h.after t q k).0.0,
              (λ m z r. elim (put_cases y (world_after ms) m z r) [ inl c ↦ subst (λ (k : Server). bytes_eq k.uuid t.limits.group ≡ false) c.1 (other t q) | inr c ↦ (h.after t q k).0.1 m z c.1 ]),
            ),
            (h.after t q k).1,
          );
        }
          where
            y : Server
            y = record { number = n; uuid = u; version = v; weight = g; starts = 0; stored = nothing_stored; running = None }

            put : Uuids (world_after ms) → Uuids (put_server y (world_after ms))
            put f m z q = elim (put_cases y (world_after ms) m z q) [ inl c ↦ subst (λ (k : Server). IsUuid k.uuid) c.1 x | inr c ↦ f m z c.1 ]

            apart : is_group (world_after ms).setup u ≡ false
            apart =
                let a = or_none (is_declared (world_after ms) n) (has_uuid (world_after ms) u || (is_group (world_after ms).setup u || is_default_of_other u n 32)) e in
                let b = or_none (has_uuid (world_after ms) u) (is_group (world_after ms).setup u || is_default_of_other u n 32) a.1 in
                (or_none (is_group (world_after ms).setup u) (is_default_of_other u n 32) b.1).0

            other : (t : Setup) → (world_after ms).setup ≡ Some t → bytes_eq u t.limits.group ≡ false
            other t q = bytes_back u t.limits.group ∙ ap (λ o. is_group o u) (sym q) ∙ apart

    founds_in : (t : Setup) → Stands (move (Founds_ t) (world_after ms))
    unfolding move
    founds_in t = go (is_some (world_after ms).setup || is_group_taken t.limits.group (world_after ms)) refl
      where
        w1 : World
        w1 = record (world_after ms) { setup = Some t; left = [] }

        go : (b : Bool) → (is_some (world_after ms).setup || is_group_taken t.limits.group (world_after ms)) ≡ b → Stands (elim b [ true ↦ nothing_happens (world_after ms) | false ↦ found_all t t.founders (nothing_happens (record (world_after ms) { setup = Some t })) ])
        go true e = stands_nothing (world_after ms) h
        go false e = record {
          before = λ q. absurd (some_none (sym (found_setup t t.founders w1) ∙ q));
          after = λ s q g. (
            ((λ n x r. all_uuids s q g n x r), (λ n x r. by s q g n x r)),
            subst (λ y. OfServers y (found_all t t.founders w1).past) (some_is (sym (found_setup t t.founders w1) ∙ q)) founded,
          );
        }
          where
            free : ((world_after ms).setup ≡ None) × (list_any (λ s. bytes_eq s.uuid t.limits.group) (world_after ms).servers ≡ false)
            free =
                let a = or_none (is_some (world_after ms).setup) (is_group_taken t.limits.group (world_after ms)) e in
                let b = or_none (has_uuid (world_after ms) t.limits.group) (is_default_of_other t.limits.group 0 32) a.1 in
                (not_some (world_after ms).setup a.0, b.0)
              where
                not_some : (o : Option Setup) → is_some o ≡ false → o ≡ None
                not_some None q = refl
                not_some (Some x) q = absurd (false≢true (sym q))

            founding : IsFounding (found_all t t.founders w1).past
            founding = found_founding t t.founders w1 (h.before free.0).0

            all_uuids : (s : Setup) → (found_all t t.founders w1).setup ≡ Some s → IsSetup s → Uuids (found_all t t.founders w1)
            all_uuids s q g n x r =
                let same : t ≡ s = some_is (sym (found_setup t t.founders w1) ∙ q) in
                found_uuids t IsUuid t.founders w1 (λ j k. ((subst IsSetup (sym same) g).uuids j k).0) (h.before free.0).1 n x r

            by : (s : Setup) → (found_all t t.founders w1).setup ≡ Some s → IsSetup s → (n : ℕ) (x : Server) → server_at (found_all t t.founders w1) n ≡ Some x → bytes_eq x.uuid s.limits.group ≡ false
            by s q g n x r =
                let same : t ≡ s = some_is (sym (found_setup t t.founders w1) ∙ q) in
                subst (λ (y : Setup). bytes_eq x.uuid y.limits.group ≡ false) same
                (found_uuids t (λ u. bytes_eq u t.limits.group ≡ false) t.founders w1 (λ j k. ((subst IsSetup (sym same) g).uuids j k).1) (λ m z y. none_passes (λ s. bytes_eq s.uuid t.limits.group) (world_after ms).servers m z free.1 y) n x r)

            founded : OfServers t (found_all t t.founders w1).past
            founded = record {
              founded = record { past = (found_all t t.founders w1).past; earlier = past_self (found_all t t.founders w1).past; founding = founding; begun = λ i k. found_life t t.founders w1 i k };
              written = none_written (found_all t t.founders w1).past founding;
            }
              where
                none_written : (p : Past) → IsFounding p → AllWritten (IsWritten t) p
                none_written [] k = tt
                none_written (Does i d ∷ p) k = none_written p (rest d k)
                  where
                    rest : (d : Did) → IsFounding (Does i d ∷ p) → IsFounding p
                    rest Founds k = k
                    rest (Is Online c) k = k
                    rest d k = absurd k
                none_written (Writes n x ∷ p) k = absurd k
                none_written (Halts n ∷ p) k = none_written p k

    starts_in : (o : Option Setup) → (world_after ms).setup ≡ o → (n : ℕ) (x : Option Server) → server_at (world_after ms) n ≡ x → (y : Option Member) → Stands (start_by o x y (world_after ms))
    starts_in None q n x r y = stands_nothing (world_after ms) h
    starts_in (Some t) q n None r y = stands_nothing (world_after ms) h
    starts_in (Some t) q n (Some s) r None = stands_nothing (world_after ms) h
    starts_in (Some t) q n (Some s) r (Some via) = go (is_some s.running)
      where
        go : (b : Bool) → Stands (elim b [ true ↦ nothing_happens (world_after ms) | false ↦ started t s via (world_after ms) ])
        go true = stands_nothing (world_after ms) h
        go false = record {
          before = λ z. absurd (some_none (sym q ∙ z));
          after = λ c z g. (
            (
              (λ m x e. put IsUuid (h.after c z g).0.0 m x e),
              (λ m x e. put (λ u. bytes_eq u c.limits.group ≡ false) (h.after c z g).0.1 m x e),
            ),
            servers_more c (world.joiner_of s (suc s.starts)).inc (start t (world.joiner_of s (suc s.starts)) s.stored via.me.inc).life (world_after ms).past (h.after c z g).1,
          );
        }
          where
            a : Member
            a = start t (world.joiner_of s (suc s.starts)) s.stored via.me.inc

            put : (P : List ℕ → Type 0) → ((k : ℕ) (x : Server) → server_at (world_after ms) k ≡ Some x → P x.uuid) → (m : ℕ) (x : Server) → server_at (started t s via (world_after ms)) m ≡ Some x → P x.uuid
            put P f m x e = elim (put_cases (record s { starts = suc s.starts; running = Some a }) (record (world_after ms) { sent = (world_after ms).sent ++ a.sent }) m x e) [
              | inl c ↦ subst (λ (z : Server). P z.uuid) c.1 (f n s r)
              | inr c ↦ f m x c.1
            ]

    stops_in : (n : ℕ) (x : Option Server) → server_at (world_after ms) n ≡ x → Stands (stop x (world_after ms))
    stops_in n None r = stands_nothing (world_after ms) h
    stops_in n (Some s) r = record {
      before = λ q. ((h.before q).0, λ m z e. stands_put (world_after ms) h s y n r refl m z e IsUuid (h.before q).1);
      after = λ t q g. (
        (
          (λ m z e. stands_put (world_after ms) h s y n r refl m z e IsUuid (h.after t q g).0.0),
          (λ m z e. stands_put (world_after ms) h s y n r refl m z e (λ u. bytes_eq u t.limits.group ≡ false) (h.after t q g).0.1),
        ),
        record { founded = founded_more t (Halts s.number ∷ []) (world_after ms).past (h.after t q g).1.founded; written = (h.after t q g).1.written },
      );
    }
      where
        y : Server
        y = record s { stored = stored_by s.stored s.running; running = None }

    writes_in : (n : ℕ) (i : Item) (row : List ℕ) → Stands (move (WritesRow n i row) (world_after ms))
    unfolding move
    writes_in n i row = go (world_after ms).setup refl
      where
        by : (t : Setup) → (world_after ms).setup ≡ Some t → (x : Option Server) → server_at (world_after ms) n ≡ x → Stands (write_by i row x (world_after ms))
        by t q None r = stands_nothing (world_after ms) h
        by t q (Some s) r = running (is_some s.running) refl
          where
            y : Server
            y = record s { stored = record { executed = with_gtid s.stored.executed (record { source = s.uuid; number = suc (length s.stored.writes) }); committed = s.stored.committed; writes = s.stored.writes ++ record { gtid = record { source = s.uuid; number = suc (length s.stored.writes) }; item = i; row = row } ∷ [] } }

            not_some : (o : Option Member) → is_some o ≡ false → o ≡ None
            not_some None e = refl
            not_some (Some x) e = absurd (false≢true (sym e))

            running : (b : Bool) → is_some s.running ≡ b → Stands (elim b [ true ↦ nothing_happens (world_after ms) | false ↦ written i row s (world_after ms) ])
            running true e = stands_nothing (world_after ms) h
            running false e = record {
              before = λ z. absurd (some_none (sym q ∙ z));
              after = λ c z g. (
                (
                  (λ m x k. stands_put (world_after ms) h s y n r refl m x k IsUuid (h.after c z g).0.0),
                  (λ m x k. stands_put (world_after ms) h s y n r refl m x k (λ u. bytes_eq u c.limits.group ≡ false) (h.after c z g).0.1),
                ),
                record {
                  founded = founded_more c (Writes s.number (record { gtid = record { source = s.uuid; number = suc (length s.stored.writes) }; item = i; row = row }) ∷ []) (world_after ms).past (h.after c z g).1.founded;
                  written = (record { idle = nobody c z g e; apart = (h.after c z g).0.1 n s r; uuid = (h.after c z g).0.0 n s r }, (h.after c z g).1.written);
                },
              );
            }
              where
                nobody : (c : Setup) → (world_after ms).setup ≡ Some c → IsSetup c → is_some s.running ≡ false → running_in (world_after ms).past s.number ≡ None
                nobody c z g e =
                    let v = inv ms c z g in
                    ap (running_in (world_after ms).past) (number_of (world_after ms) n s r) ∙ v.1.runs n s r ∙ ap inc_of (not_some s.running e)

        go : (o : Option Setup) → (world_after ms).setup ≡ o → Stands (elim (is_some o) [ true ↦ write_by i row (server_at (world_after ms) n) (world_after ms) | false ↦ nothing_happens (world_after ms) ])
        go None q = stands_nothing (world_after ms) h
        go (Some t) q = by t q (server_at (world_after ms) n) refl

    one_move : (m : Move) → IsMove m → Stands (move m (world_after ms))
    unfolding move
    one_move (Declares n u v g) k = declares_in n u v g k
    one_move (Founds_ t) k = founds_in t
    one_move (Starts n via) k = starts_in (world_after ms).setup refl n (server_at (world_after ms) n) refl (member_at (world_after ms) via)
    one_move (Stops n) k = stops_in n (server_at (world_after ms) n) refl
    one_move (WritesRow n i row) k = writes_in n i row
    one_move (Takes n) k = take_in (kth (world_after ms).sent n)
    one_move (Happens n (Hears m)) k = stands_nothing (world_after ms) h
    one_move (Happens n Ticks) k = event_in n Ticks
    one_move (Happens n (Works x b)) k = event_in n (Works x b)
    one_move (Happens n (Calls s r)) k = event_in n (Calls s r)
    one_move (Happens n (Operates o)) k = event_in n (Operates o)

  all_stand : (ms : List Move) → ((m : Move) → In m ms → IsMove m) → Stands (world_after ms)
  all_stand [] k = record { before = λ q. (tt, λ n s e. absurd (some_none (sym e))); after = λ t q g. absurd (some_none (sym q)) }
  all_stand (m ∷ ms) k = one_move ms (all_stand ms (λ x h. k x (inr h))) m (k m (inl refl))

  pub every_run_of_servers : EveryRunOfServers
  every_run_of_servers ms t e g k = ((all_stand ms k).after t e g).1

-- in every run
pub of_servers : ((e : Event) (a : Member) → StepIsActs e a) → ((t : Setup) → IsSetup t → Laws t) → HearingTakesNone → HearingGreetsNobody → EveryRunOfServers
of_servers acts named takes greets = every_run_of_servers (λ ms q n s e. (((sound acts named takes greets ms).bare q).idle n s e).0) (λ ms t q g. (sound acts named takes greets ms).runs t q g)
