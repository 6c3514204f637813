-- The founding: each founder is founded at its server, one after another.
use Rattle.std.proofs.Common.{eq-eqb, eqb, ◌≡◌, ◌⊎◌, inl, inr, ℕ, ◌≤◌, Bool, true, false, Some, None, List, [], ◌∷◌, ◌++◌, refl, sym, ap, subst, ◌∙◌, arith}
use Rattle.std.specs.Prelude.{map, ◌==◌, ◌||◌, if◌then◌else◌}
use Rattle.std.proofs.lemmas.Bool.{false≢true, cases_Bool, eqb-true}
use Rattle.gr_ids.specs.Names.{inc_eq, has_inc}
use Rattle.gr_ids.specs.declared.names.Inc.{Inc}
use Rattle.slot_values.specs.declared.value.Joiner.{Joiner}
use Rattle.node_rules.specs.Lists.{In}
use Rattle.node_rules.specs.Node.{Node, founder}
use Rattle.node_rules.specs.World as nodes
use Rattle.group_rules.specs.Events.{Did, Founds, Setup}
use Rattle.group_rules.specs.Member.{Member}
use Rattle.group_rules.specs.Steps.{group_of, found}
use Rattle.group_rules.specs.World.{World, Server, Past, life_in, nothing_stored, server_at, put_server, dids, found_at, found_all}
use Rattle.group_bridge.specs.Moves.{slots_in}
use Rattle.group_runs.specs.Runs.{Apart, IsSetup, is_founder, running_in, stored_in, AllDid, IsDone, TookIn, TookThen, OfSlots, HeardIn}
use Rattle.node_rules.proofs.Incs.{inc_same, inc_is}
use Rattle.group_runs.proofs.Pasts.{life_of_dids, life_of_others, running_of_others, did_map}
use Rattle.group_runs.proofs.Servers.{put_same, put_other, put_cases, number_of}
use Rattle.group_runs.proofs.Nodes.{no_event}
use Rattle.group_runs.proofs.Inv.{inc_of, IsRunning, WasStarted, Inv}
use Rattle.group_runs.proofs.Stepped.{slots_map}

some_is : {A : Type 0} {x y : A} → Some x ≡ Some y → x ≡ y
some_is {x = x} {y = y} e = cc

some_none : {A : Type 0} (x : A) → Some x ≡ None → ⊥
some_none x e = absurd (cc e)

-- ---- the founders

abbrev incs : List Joiner → List Inc
incs js = map {A = Joiner} (λ j. j.inc) js

found_in : (i : Inc) (js : List Joiner) → has_inc (incs js) i ≡ true → (j : Joiner) × In j js × (j.inc ≡ i)
found_in i [] h = absurd (false≢true h)
found_in i (j ∷ js) h = go (inc_eq j.inc i) refl h (found_in i js)
  where
    go : (b : Bool) → inc_eq j.inc i ≡ b → (b || has_inc (incs js) i) ≡ true → (has_inc (incs js) i ≡ true → (k : Joiner) × In k js × (k.inc ≡ i)) → (k : Joiner) × In k (j ∷ js) × (k.inc ≡ i)
    go true e z k = (j, inl refl, inc_is j.inc i e)
    go false e z k = let r = k z in (r.0, inr r.1, r.2)

in_found : (j : Joiner) (js : List Joiner) → In j js → has_inc (incs js) j.inc ≡ true
in_found j [] h = absurd h
in_found j (k ∷ js) (inl e) = ap (λ b. b || has_inc (incs js) j.inc) (ap (λ z. inc_eq z.inc j.inc) e ∙ inc_same j.inc)
in_found j (k ∷ js) (inr h) = go (inc_eq k.inc j.inc) (in_found j js h)
  where
    go : (b : Bool) → has_inc (incs js) j.inc ≡ true → (b || has_inc (incs js) j.inc) ≡ true
    go true z = refl
    go false z = z

-- ---- nobody has begun

abbrev pub Never : Past → Inc → Did → Type 0
Never p i d = ⊥

-- before the founding no incarnation did anything
pub record Bare (w : World) : Type 0 where
  pub idle : (n : ℕ) (s : Server) → server_at w n ≡ Some s → (s.running ≡ None) × (s.stored ≡ nothing_stored) × (s.starts ≡ 0)
  pub sent : w.sent ≡ []
  pub lives : (i : Inc) → life_in w.past i ≡ []
  pub runs : (n : ℕ) → running_in w.past n ≡ None
  pub stored : (n : ℕ) → stored_in w.past n ≡ nothing_stored
  pub none : AllDid Never w.past

-- ---- some founders have begun, and the rest have not

record Begun (t : Setup) (rest : List Joiner) (w : World) : Type 0 where
  all : (j : Joiner) → In j rest → In j t.founders
  apart : Apart rest
  running : (n : ℕ) (s : Server) (a : Member) → server_at w n ≡ Some s → s.running ≡ Some a → IsRunning t w (nodes.start (group_of t)) s a
  runs : (n : ℕ) (s : Server) → server_at w n ≡ Some s → running_in w.past n ≡ inc_of s.running
  stored : (n : ℕ) (s : Server) → server_at w n ≡ Some s → s.stored ≡ nothing_stored
  unstored : (n : ℕ) → stored_in w.past n ≡ nothing_stored
  unknown : (n : ℕ) → server_at w n ≡ None → running_in w.past n ≡ None
  founders : (j : Joiner) → In j t.founders → In j rest ⊎ WasStarted w j.inc
  lives : (i : Inc) → (life_in w.past i ≡ []) ⊎ WasStarted w i
  there : (i : Inc) → (life_in w.past i ≡ []) ⊎ ((n : Node) × ((nodes.start (group_of t)).at i ≡ Some n))
  idle : (j : Joiner) → In j rest → (running_in w.past j.inc.server ≡ None) × ((n : ℕ) → life_in w.past (record { server = j.inc.server; start = n }) ≡ [])
  unstarted : (j : Joiner) → In j rest → (s : Server) → server_at w j.inc.server ≡ Some s → s.starts ≡ 0
  sent : w.sent ≡ []
  slots : (i : Inc) → slots_in (life_in w.past i) ≡ []
  none : AllDid (OfSlots Never) w.past
  heard : AllDid (HeardIn (nodes.start (group_of t))) w.past
  done : AllDid (IsDone t) w.past

module _ (t : Setup) (good : IsSetup t) where
  -- one more
  found_one : (j : Joiner) (rest : List Joiner) (w : World) → Begun t (j ∷ rest) w → Begun t rest (found_at t j w)
  unfolding found
  found_one j rest w p = record {
    all = λ k h. p.all k (inr h);
    apart = p.apart.1;
    running = λ k z b q r. elim (put_cases y w k z q) [
      | inl c ↦ subst (λ d. IsRunning t next v d b) c.1 (subst (λ d. IsRunning t next v y d) (some_is (subst (λ d. d.running ≡ Some b) (sym c.1) r)) run_here)
      | inr c ↦ (let o = p.running k z b c.1 r in
          let apart : inc_eq j.inc b.me.inc ≡ false = of_server k z b c.1 r c.0 in
          record { setup = o.setup; server = o.server; start = o.start; node = o.node; life = life_of_others j.inc b.me.inc a.life w.past apart ∙ o.life; begun = o.begun; settled = o.settled })
    ];
    runs = λ k z q. elim (put_cases y w k z q) [
      | inl c ↦ subst (λ d. running_in past k ≡ inc_of d.running) c.1 (subst (λ d. running_in past d ≡ Some j.inc) c.0 run_now)
      | inr c ↦ running_of_others j.inc a.life w.past k c.0 ∙ p.runs k z c.1
    ];
    stored = λ k z q. elim (put_cases y w k z q) [ inl c ↦ ap (λ d. d.stored) (sym c.1) | inr c ↦ p.stored k z c.1 ];
    unstored = p.unstored;
    unknown = λ k q. elim (cases_Bool (eqb j.inc.server k)) [
      | inl c ↦ absurd (some_none y (sym (subst (λ d. server_at (put_server y w) d ≡ Some y) (eqb-true j.inc.server k c) (put_same y w)) ∙ q))
      | inr c ↦ running_of_others j.inc a.life w.past k c ∙ p.unknown k (sym (put_other y w k c) ∙ q)
    ];
    founders = λ k h. elim (p.founders k h) [
      | inl z ↦ elim z [ inl e ↦ inr (subst (λ d. WasStarted next d.inc) e begun) | inr z ↦ inl z ]
      | inr z ↦ inr (grows k.inc z)
    ];
    lives = λ i. elim (cases_Bool (inc_eq j.inc i)) [
      | inl q ↦ inr (subst (λ z. WasStarted next z) (inc_is j.inc i q) begun)
      | inr q ↦ elim (p.lives i) [ inl k ↦ inl (life_of_others j.inc i a.life w.past q ∙ k) | inr k ↦ inr (grows i k) ]
    ];
    there = λ i. elim (cases_Bool (inc_eq j.inc i)) [
      | inl q ↦ inr (founder (group_of t) j.inc, subst (λ z. (nodes.start (group_of t)).at z ≡ Some (founder (group_of t) j.inc)) (inc_is j.inc i q) run_here.node)
      | inr q ↦ elim (p.there i) [ inl k ↦ inl (life_of_others j.inc i a.life w.past q ∙ k) | inr k ↦ inr k ]
    ];
    idle = λ k h.
        let other : (j.inc.server == k.inc.server) ≡ false = not_same k h in
        let was = p.idle k (inr h) in
        (running_of_others j.inc a.life w.past k.inc.server other ∙ was.0, λ n. life_of_others j.inc (record { server = k.inc.server; start = n }) a.life w.past (not_inc k n other) ∙ was.1 n);
    unstarted = still;
    sent = p.sent;
    slots = λ i. elim (cases_Bool (inc_eq j.inc i)) [
      | inl q ↦ subst (λ z. slots_in (life_in past z) ≡ []) (inc_is j.inc i q) (ap slots_in life_here)
      | inr q ↦ ap slots_in (life_of_others j.inc i a.life w.past q) ∙ p.slots i
    ];
    none = (tt, (tt, p.none));
    heard = (tt, (tt, p.heard));
    done = (inl (ap (λ b. elim b [ true ↦ Some j.inc | false ↦ running_in w.past j.inc.server ]) (eq-eqb j.inc.server j.inc.server refl), inl (ap (λ b. elim b [ true ↦ Founds ∷ life_in w.past j.inc | false ↦ life_in w.past j.inc ]) (inc_same j.inc) ∙ ap (λ l. Founds ∷ l) fresh, refl)), (((p.idle j (inl refl)).0, fresh, in_found j t.founders (p.all j (inl refl))), p.done));
  }
    where
      a : Member
      a = found t j

      y : Server
      y = record { number = j.inc.server; uuid = j.uuid; version = j.version; weight = j.weight; starts = 1; stored = nothing_stored; running = Some a }

      next : World
      next = found_at t j w

      v : nodes.World
      v = nodes.start (group_of t)

      past : Past
      past = dids j.inc a.life ++ w.past

      fresh : life_in w.past j.inc ≡ []
      fresh = (p.idle j (inl refl)).1 j.inc.start

      life_here : life_in past j.inc ≡ a.life
      life_here = life_of_dids j.inc a.life w.past ∙ ap (λ l. a.life ++ l) fresh

      run_now : running_in past j.inc.server ≡ Some j.inc
      run_now = ap (λ b. elim b [ true ↦ Some j.inc | false ↦ running_in (dids j.inc (Founds ∷ []) ++ w.past) j.inc.server ]) (eq-eqb j.inc.server j.inc.server refl)

      not_same : (k : Joiner) → In k rest → (j.inc.server == k.inc.server) ≡ false
      not_same k h = elim (cases_Bool (eqb j.inc.server k.inc.server)) [ inl q ↦ absurd (p.apart.0 k h (sym (eqb-true j.inc.server k.inc.server q))) | inr q ↦ q ]

      not_inc : (k : Joiner) (n : ℕ) → (j.inc.server == k.inc.server) ≡ false → inc_eq j.inc (record { server = k.inc.server; start = n }) ≡ false
      not_inc k n h = elim (cases_Bool (inc_eq j.inc (record { server = k.inc.server; start = n }))) [
        | inl q ↦ absurd (false≢true (sym h ∙ eq-eqb j.inc.server k.inc.server (ap (λ i. i.server) (inc_is j.inc (record { server = k.inc.server; start = n }) q))))
        | inr q ↦ q
      ]

      -- a server that ran before is another one's
      grows : (i : Inc) → WasStarted w i → WasStarted next i
      grows i k = elim (cases_Bool (eqb j.inc.server i.server)) [
        | inl q ↦ (y, subst (λ z. server_at (put_server y w) z ≡ Some y) (eqb-true j.inc.server i.server q) (put_same y w), up q)
        | inr q ↦ (k.0, put_other y w i.server q ∙ k.1, k.2)
      ]
        where
          up : (j.inc.server == i.server) ≡ true → i.start ≤ 1
          up q =
              let z : (k.0).starts ≡ 0 = p.unstarted j (inl refl) k.0 (subst (λ c. server_at w c ≡ Some k.0) (sym (eqb-true j.inc.server i.server q)) k.1) in
              omega (arith, k.2, z)

      begun : WasStarted next j.inc
      begun = (y, put_same y w, omega (arith, good.first j (p.all j (inl refl))))

      run_here : IsRunning t next v y a
      run_here = record { setup = refl; server = refl; start = good.first j (p.all j (inl refl)); node = ap (λ b. if b then Some (founder (group_of t) j.inc) else None) (in_found j t.founders (p.all j (inl refl))); life = life_here; begun = omega arith; settled = refl }

      of_server : (k : ℕ) (x : Server) (b : Member) → server_at w k ≡ Some x → x.running ≡ Some b → (j.inc.server == k) ≡ false → inc_eq j.inc b.me.inc ≡ false
      of_server k x b q r z = elim (cases_Bool (inc_eq j.inc b.me.inc)) [
        | inl h ↦ (let same : j.inc ≡ b.me.inc = inc_is j.inc b.me.inc h in
            let o = p.running k x b q r in
            let m : j.inc.server ≡ k = ap (λ c. c.server) same ∙ (o.server ∙ number_of w k x q) in
            absurd (false≢true (sym z ∙ eq-eqb j.inc.server k m)))
        | inr h ↦ h
      ]

      still : (k : Joiner) → In k rest → (s : Server) → server_at next k.inc.server ≡ Some s → s.starts ≡ 0
      still k h s q = elim (put_cases y w k.inc.server s q) [ inl c ↦ absurd (p.apart.0 k h (sym c.0)) | inr c ↦ p.unstarted k (inr h) s c.1 ]

  found_them : (js : List Joiner) (w : World) → Begun t js w → Begun t [] (found_all t js w)
  found_them [] w p = p
  found_them (j ∷ js) w p = found_them js (found_at t j w) (found_one j js w p)

  begins : (w : World) → Bare w → Begun t t.founders (record w { setup = Some t; left = [] })
  begins w b = record {
    all = λ j h. h;
    apart = good.apart;
    running = λ n s a q r. absurd (some_none a (sym r ∙ (b.idle n s q).0));
    runs = λ n s q. b.runs n ∙ ap inc_of (sym (b.idle n s q).0);
    stored = λ n s q. (b.idle n s q).1;
    unstored = b.stored;
    unknown = λ n q. b.runs n;
    founders = λ j h. inl h;
    lives = λ i. inl (b.lives i);
    there = λ i. inl (b.lives i);
    idle = λ j h. (b.runs j.inc.server, λ n. b.lives (record { server = j.inc.server; start = n }));
    unstarted = λ j h s q. (b.idle j.inc.server s q).2;
    sent = b.sent;
    slots = λ i. ap slots_in (b.lives i);
    heard = did_map Never (HeardIn (nodes.start (group_of t))) (λ p i d h. absurd h) w.past b.none;
    none = did_map Never (OfSlots Never) (λ p i d h. absurd h) w.past b.none;
    done = did_map Never (IsDone t) (λ p i d h. absurd h) w.past b.none;
  }

  begun_all : (w : World) → Begun t [] w → Inv t w (nodes.start (group_of t))
  begun_all w p = record {
    run = no_event t;
    ended = refl;
    running = p.running;
    runs = p.runs;
    stored = λ n s q. p.stored n s q ∙ sym (p.unstored n);
    unknown = λ n q. (p.unknown n q, p.unstored n);
    founders = founders;
    known = λ i. elim (cases_Bool (is_founder t i)) [ inl h ↦ inr (founders i h) | inr h ↦ inl (ap (λ b. if b then Some (founder (group_of t) i) else None) h) ];
    lives = p.lives;
    there = p.there;
    heard = p.heard;
    sent = λ m h. absurd (subst (λ l. In m l) p.sent h);
    told = λ m h. absurd (subst (λ l. In m l) p.sent h);
    took = did_map (OfSlots Never) (OfSlots (TookIn t (nodes.start (group_of t)))) (slots_map Never (TookIn t (nodes.start (group_of t))) (λ q i d h. absurd h)) w.past p.none;
    mids = did_map (OfSlots Never) (OfSlots (TookThen t)) (slots_map Never (TookThen t) (λ q i d h. absurd h)) w.past p.none;
    made = λ u h. absurd h;
    slots = λ i. sym (p.slots i);
    done = p.done;
  }
    where
      founders : (i : Inc) → is_founder t i ≡ true → WasStarted w i
      founders i h = let r = found_in i t.founders h in elim (p.founders r.0 r.1) [ inl z ↦ absurd z | inr z ↦ subst (λ j. WasStarted w j) r.2 z ]

  pub founded : (w : World) → Bare w → Inv t (found_all t t.founders (record w { setup = Some t; left = [] })) (nodes.start (group_of t))
  founded w b = begun_all (found_all t t.founders (record w { setup = Some t; left = [] })) (found_them t.founders (record w { setup = Some t; left = [] }) (begins w b))
