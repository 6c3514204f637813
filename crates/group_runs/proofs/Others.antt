-- The moves that are no step of a member: a server is declared, stops, or writes a row while it doesn't run, and an incarnation starts.
use Rattle.std.proofs.Common.{eq-eqb, eqb, ◌≡◌, inl, inr, ℕ, suc, ◌≤◌, Bool, true, false, Option, Some, None, List, [], ◌∷◌, ◌++◌, refl, sym, ap, subst, ◌∙◌, arith, length}
use Rattle.std.specs.Prelude.{◌==◌}
use Rattle.std.specs.List.{list_any}
use Rattle.std.proofs.lemmas.Bool.{false≢true, cases_Bool, eqb-true}
use Rattle.gr_ids.specs.Names.{inc_eq}
use Rattle.gr_ids.specs.declared.names.Inc.{Inc}
use Rattle.gtid_sets.specs.Sets.{with_gtid}
use Rattle.slot_values.specs.declared.value.Joiner.{Joiner}
use Rattle.key_items.specs.declared.item.Item.{Item}
use Rattle.node_rules.specs.Node.{joiner}
use Rattle.node_rules.specs.World as nodes
use Rattle.order_laws.specs.Laws.{slots_by}
use Rattle.group_rules.specs.Events.{Starts, Life, Setup, Stored, OfflineWrite}
use Rattle.group_rules.specs.Member.{Member}
use Rattle.group_rules.specs.Steps.{group_of, start}
use Rattle.group_rules.specs.World.{World, Server, Past, Does, Writes, Halts, life_in, nothing_stored, server_at, is_declared, joiner_of, put_server, nothing_happens, dids, declare, started, stop, stored_by, written}
use Rattle.group_bridge.specs.Moves.{is_apart, slots_in}
use Rattle.group_runs.specs.Runs.{as_sent, is_founder, running_in, stored_after, stored_in, WasSent, HeardIn}
use Rattle.node_rules.proofs.Incs.{inc_same, inc_is}
use Rattle.group_runs.proofs.Pasts.{in_left, in_either, life_of_dids, life_of_others, running_of_others, made_grows, did_map}
use Rattle.group_runs.proofs.Servers.{at_number, put_same, put_other, put_cases, number_of}
use Rattle.group_runs.proofs.Nodes.{one_more, put_here, put_there, started_on}
use Rattle.group_runs.proofs.Inv.{inc_of, IsRunning, WasStarted, Inv}
use Rattle.group_runs.proofs.Stepped.{sent_grows, heard_grows}

some_is : {A : Type 0} {x y : A} → Some x ≡ Some y → x ≡ y
some_is {x = x} {y = y} e = cc

some_none : {A : Type 0} (x : A) → Some x ≡ None → ⊥
some_none x e = absurd (cc e)

-- a server that isn't declared
pub undeclared : (w : World) (n : ℕ) → is_declared w n ≡ false → server_at w n ≡ None
undeclared w n h = go w.servers h
  where
    go : (ss : List Server) → list_any (λ s. s.number == n) ss ≡ false → at_number n ss ≡ None
    go [] e = refl
    go (s ∷ ss) e = by (eqb s.number n) refl e (go ss)
      where
        by : (b : Bool) → eqb s.number n ≡ b → list_any (λ x. x.number == n) (s ∷ ss) ≡ false → (list_any (λ x. x.number == n) ss ≡ false → at_number n ss ≡ None) → at_number n (s ∷ ss) ≡ None
        by true q z k = let y : true ≡ false = rw q at z in absurd (false≢true (sym y))
        by false q z k = let y : list_any (λ x. x.number == n) ss ≡ false = rw q at z in rw q (k y)

-- ---- a server is put anew: its number and its starts stay, or rise

started_put : (w : World) (s y : Server) → ((x : Server) → server_at w y.number ≡ Some x → x.starts ≤ y.starts) → (j : Inc) → WasStarted w j → (w' : World) → ((n : ℕ) → server_at w' n ≡ server_at (put_server y w) n) → WasStarted w' j
started_put w s y up j k w' at_it = elim (cases_Bool (eqb y.number j.server)) [
  | inl q ↦ (y, at_it j.server ∙ subst (λ z. server_at (put_server y w) z ≡ Some y) (eqb-true y.number j.server q) (put_same y w), omega (arith, k.2, up k.0 (subst (λ z. server_at w z ≡ Some k.0) (sym (eqb-true y.number j.server q)) k.1)))
  | inr q ↦ (k.0, at_it j.server ∙ (put_other y w j.server q ∙ k.1), k.2)
]

-- ---- a declaration

pub declared_keeps : (t : Setup) (w : World) (v : nodes.World) → Inv t w v → (n : ℕ) (u z : List ℕ) (g : ℕ) → is_declared w n ≡ false → Inv t (nothing_happens (declare n u z g w)) v
declared_keeps t w v inv n u z g h = record {
  run = inv.run;
  ended = inv.ended;
  running = λ k x a q r. elim (put_cases y w k x q) [
    | inl c ↦ absurd (none_runs (subst (λ d. d.running ≡ Some a) (sym c.1) r))
    | inr c ↦ (let o = inv.running k x a c.1 r in record { setup = o.setup; server = o.server; start = o.start; node = o.node; life = o.life; begun = o.begun; settled = o.settled })
  ];
  runs = λ k x q. elim (put_cases y w k x q) [
    | inl c ↦ subst (λ d. running_in w.past k ≡ inc_of d.running) c.1 (subst (λ d. running_in w.past d ≡ None) c.0 (inv.unknown n new).0)
    | inr c ↦ inv.runs k x c.1
  ];
  stored = λ k x q. elim (put_cases y w k x q) [
    | inl c ↦ subst (λ d. d.stored ≡ stored_in w.past k) c.1 (subst (λ d. nothing_stored ≡ stored_in w.past d) c.0 (sym (inv.unknown n new).1))
    | inr c ↦ inv.stored k x c.1
  ];
  unknown = λ k q. elim (cases_Bool (eqb n k)) [
    | inl c ↦ absurd (some_none y (sym (subst (λ d. server_at (put_server y w) d ≡ Some y) (eqb-true n k c) (put_same y w)) ∙ q))
    | inr c ↦ inv.unknown k (sym (put_other y w k c) ∙ q)
  ];
  founders = λ j k. grows j (inv.founders j k);
  known = λ j. elim (inv.known j) [ inl k ↦ inl k | inr k ↦ inr (grows j k) ];
  lives = λ j. elim (inv.lives j) [ inl k ↦ inl k | inr k ↦ inr (grows j k) ];
  there = inv.there;
  sent = inv.sent;
  told = inv.told;
  took = inv.took;
  mids = inv.mids;
  heard = inv.heard;
  made = inv.made;
  slots = inv.slots;
  done = inv.done;
}
  where
    y : Server
    y = record { number = n; uuid = u; version = z; weight = g; starts = 0; stored = nothing_stored; running = None }

    new : server_at w n ≡ None
    new = undeclared w n h

    none_runs : {a : Member} → None ≡ Some a → ⊥
    none_runs {a = a} e = absurd (cc e)

    grows : (j : Inc) → WasStarted w j → WasStarted (nothing_happens (declare n u z g w)) j
    grows j k = started_put w y y (λ x q. absurd (some_none x (sym q ∙ new))) j k (nothing_happens (declare n u z g w)) (λ m. refl)

-- ---- nothing happens

pub nothing_keeps : (t : Setup) (w : World) (v : nodes.World) → Inv t w v → Inv t (nothing_happens w) v
nothing_keeps t w v inv = record {
  run = inv.run;
  ended = inv.ended;
  running = λ k x a q r. let o = inv.running k x a q r in record { setup = o.setup; server = o.server; start = o.start; node = o.node; life = o.life; begun = o.begun; settled = o.settled };
  runs = inv.runs;
  stored = inv.stored;
  unknown = inv.unknown;
  founders = inv.founders;
  known = inv.known;
  lives = inv.lives;
  there = inv.there;
  sent = inv.sent;
  told = inv.told;
  took = inv.took;
  mids = inv.mids;
  heard = inv.heard;
  made = inv.made;
  slots = inv.slots;
  done = inv.done;
}

-- ---- a stop

pub stopped_keeps : (t : Setup) (w : World) (v : nodes.World) → Inv t w v → (n : ℕ) (s : Server) → server_at w n ≡ Some s → Inv t (stop (Some s) w) v
stopped_keeps t w v inv n s at_it = record {
  run = inv.run;
  ended = inv.ended;
  running = λ k x a q r. elim (put_cases y w k x q) [
    | inl c ↦ absurd (some_none a (sym (subst (λ d. d.running ≡ Some a) (sym c.1) r)))
    | inr c ↦ (let o = inv.running k x a c.1 r in record { setup = o.setup; server = o.server; start = o.start; node = o.node; life = o.life; begun = o.begun; settled = o.settled })
  ];
  runs = λ k x q. elim (put_cases y w k x q) [
    | inl c ↦ subst (λ d. running_in past k ≡ inc_of d.running) c.1 (ap (λ b. elim b [ true ↦ None | false ↦ running_in w.past k ]) (eq-eqb s.number k c.0))
    | inr c ↦ ap (λ b. elim b [ true ↦ None | false ↦ running_in w.past k ]) c.0 ∙ inv.runs k x c.1
  ];
  stored = λ k x q. elim (put_cases y w k x q) [
    | inl c ↦ subst (λ d. d.stored ≡ stored_in past k) c.1 (left_by k c.0)
    | inr c ↦ inv.stored k x c.1 ∙ sym (ap (λ b. elim b [ true ↦ stored_after (stored_in w.past k) w.past (running_in w.past k) | false ↦ stored_in w.past k ]) c.0)
  ];
  unknown = λ k q. elim (cases_Bool (eqb s.number k)) [
    | inl c ↦ absurd (some_none y (sym (subst (λ d. server_at (put_server y w) d ≡ Some y) (eqb-true s.number k c) (put_same y w)) ∙ q))
    | inr c ↦ (let z = inv.unknown k (sym (put_other y w k c) ∙ q) in (ap (λ b. elim b [ true ↦ None | false ↦ running_in w.past k ]) c ∙ z.0, ap (λ b. elim b [ true ↦ stored_after (stored_in w.past k) w.past (running_in w.past k) | false ↦ stored_in w.past k ]) c ∙ z.1))
  ];
  founders = λ j k. grows j (inv.founders j k);
  known = λ j. elim (inv.known j) [ inl k ↦ inl k | inr k ↦ inr (grows j k) ];
  lives = λ j. elim (inv.lives j) [ inl k ↦ inl k | inr k ↦ inr (grows j k) ];
  there = inv.there;
  sent = inv.sent;
  told = λ m h. sent_grows t (Halts s.number ∷ []) w.past m (inv.told m h);
  took = inv.took;
  mids = inv.mids;
  heard = inv.heard;
  made = λ u h. made_grows (Halts s.number ∷ []) w.past u (inv.made u h);
  slots = inv.slots;
  done = inv.done;
}
  where
    y : Server
    y = record s { stored = stored_by s.stored s.running; running = None }

    past : Past
    past = Halts s.number ∷ w.past

    grows : (j : Inc) → WasStarted w j → WasStarted (stop (Some s) w) j
    grows j k = started_put w y y (λ x q. same x (sym (subst (λ z. server_at w z ≡ Some s) (sym (number_of w n s at_it)) at_it) ∙ q)) j k (stop (Some s) w) (λ m. refl)
      where
        same : (x : Server) → Some s ≡ Some x → x.starts ≤ s.starts
        same x e = let z : s ≡ x = some_is e in omega (arith, ap (λ c. c.starts) z)

    by : (o : Option Member) → s.running ≡ o → stored_by s.stored o ≡ stored_after (stored_in w.past n) w.past (inc_of o)
    by None r = inv.stored n s at_it
    by (Some a) r = ap (λ x. stored_by x (Some a)) (inv.stored n s at_it) ∙ ap (λ l. stored_life (stored_in w.past n) l) (sym (inv.running n s a at_it r).life)
      where
        stored_life : Stored → Life → Stored
        stored_life x l = stored_by x (Some (record a { life = l }))

    left_by : (k : ℕ) → s.number ≡ k → stored_by s.stored s.running ≡ stored_in (Halts s.number ∷ w.past) k
    left_by k c =
        let nk : n ≡ k = sym (number_of w n s at_it) ∙ c in
        by s.running refl ∙ (ap (λ o. stored_after (stored_in w.past n) w.past o) (sym (inv.runs n s at_it)) ∙ (ap (λ m. stored_after (stored_in w.past m) w.past (running_in w.past m)) nk ∙ sym (ap (λ b. elim b [ true ↦ stored_after (stored_in w.past k) w.past (running_in w.past k) | false ↦ stored_in w.past k ]) (eq-eqb s.number k c))))

-- ---- a row written while the server doesn't run

pub written_keeps : (t : Setup) (w : World) (v : nodes.World) → Inv t w v → (n : ℕ) (s : Server) → server_at w n ≡ Some s → s.running ≡ None → (item : Item) (row : List ℕ) → Inv t (written item row s w) v
written_keeps t w v inv n s at_it idle item row = record {
  run = inv.run;
  ended = inv.ended;
  running = λ k z a q r. elim (put_cases y w k z q) [
    | inl c ↦ absurd (some_none a (sym (subst (λ d. d.running ≡ Some a) (sym c.1) r) ∙ idle))
    | inr c ↦ (let o = inv.running k z a c.1 r in record { setup = o.setup; server = o.server; start = o.start; node = o.node; life = o.life; begun = o.begun; settled = o.settled })
  ];
  runs = λ k z q. elim (put_cases y w k z q) [
    | inl c ↦ subst (λ d. running_in w.past k ≡ inc_of d.running) c.1 (subst (λ d. running_in w.past d ≡ inc_of s.running) (sym (number_of w n s at_it) ∙ c.0) (inv.runs n s at_it))
    | inr c ↦ inv.runs k z c.1
  ];
  stored = λ k z q. elim (put_cases y w k z q) [
    | inl c ↦ subst (λ d. d.stored ≡ stored_in (Writes s.number x ∷ w.past) k) c.1 (wrote k c.0)
    | inr c ↦ inv.stored k z c.1 ∙ sym (ap (λ b. elim b [ true ↦ with_write (stored_in w.past k) | false ↦ stored_in w.past k ]) c.0)
  ];
  unknown = λ k q. elim (cases_Bool (eqb s.number k)) [
    | inl c ↦ absurd (some_none y (sym (subst (λ d. server_at (put_server y w) d ≡ Some y) (eqb-true s.number k c) (put_same y w)) ∙ q))
    | inr c ↦ (let z = inv.unknown k (sym (put_other y w k c) ∙ q) in (z.0, ap (λ b. elim b [ true ↦ with_write (stored_in w.past k) | false ↦ stored_in w.past k ]) c ∙ z.1))
  ];
  founders = λ j k. grows j (inv.founders j k);
  known = λ j. elim (inv.known j) [ inl k ↦ inl k | inr k ↦ inr (grows j k) ];
  lives = λ j. elim (inv.lives j) [ inl k ↦ inl k | inr k ↦ inr (grows j k) ];
  there = inv.there;
  sent = inv.sent;
  told = λ m h. sent_grows t (Writes s.number x ∷ []) w.past m (inv.told m h);
  took = inv.took;
  mids = inv.mids;
  heard = inv.heard;
  made = λ u h. made_grows (Writes s.number x ∷ []) w.past u (inv.made u h);
  slots = inv.slots;
  done = inv.done;
}
  where
    x : OfflineWrite
    x = record { gtid = record { source = s.uuid; number = suc (length s.stored.writes) }; item = item; row = row }

    with_write : Stored → Stored
    with_write z = record { executed = with_gtid z.executed x.gtid; committed = z.committed; writes = z.writes ++ x ∷ [] }

    y : Server
    y = record s { stored = with_write s.stored }

    grows : (j : Inc) → WasStarted w j → WasStarted (written item row s w) j
    grows j k = started_put w y y (λ z q. same z (sym (subst (λ c. server_at w c ≡ Some s) (sym (number_of w n s at_it)) at_it) ∙ q)) j k (written item row s w) (λ m. refl)
      where
        same : (z : Server) → Some s ≡ Some z → z.starts ≤ s.starts
        same z e = let q : s ≡ z = some_is e in omega (arith, ap (λ c. c.starts) q)

    wrote : (k : ℕ) → s.number ≡ k → with_write s.stored ≡ stored_in (Writes s.number x ∷ w.past) k
    wrote k c =
        let nk : n ≡ k = sym (number_of w n s at_it) ∙ c in
        ap with_write (inv.stored n s at_it ∙ ap (λ m. stored_in w.past m) nk) ∙ sym (ap (λ b. elim b [ true ↦ with_write (stored_in w.past k) | false ↦ stored_in w.past k ]) (eq-eqb s.number k c))

-- ---- a start

pub started_keeps : (t : Setup) (w : World) (v : nodes.World) → Inv t w v → (n : ℕ) (s : Server) → server_at w n ≡ Some s → s.running ≡ None → (via : Member) → (v' : nodes.World) × Inv t (started t s via w) v'
unfolding start
started_keeps t w v inv n s at_it idle via = (
  after,
  record {
    run = subst (λ z. (es : List nodes.Event) × (z ≡ nodes.run as_sent (group_of t) es)) (started_on (group_of t) v j via.me.inc absent) (one_more t v (nodes.Starts j via.me.inc) inv.run);
    ended = inv.ended;
    running = λ k z b q r. elim (put_cases y w k z q) [
      | inl c ↦ subst (λ d. IsRunning t next after d b) c.1 (subst (λ d. IsRunning t next after y d) (some_is (subst (λ d. d.running ≡ Some b) (sym c.1) r)) run_here)
      | inr c ↦ (let o = inv.running k z b c.1 r in
          let apart : inc_eq j.inc b.me.inc ≡ false = of_server k z b c.1 r c.0 in
          record { setup = o.setup; server = o.server; start = o.start; node = put_there v.at j.inc b.me.inc (joiner (group_of t) j.inc) apart ∙ o.node; life = life_of_others j.inc b.me.inc a.life w.past apart ∙ o.life; begun = o.begun; settled = o.settled })
    ];
    runs = λ k z q. elim (put_cases y w k z q) [
      | inl c ↦ subst (λ d. running_in past k ≡ inc_of d.running) c.1 (subst (λ d. running_in past d ≡ Some j.inc) c.0 (ap (λ b. elim b [ true ↦ Some j.inc | false ↦ running_in (Does j.inc (Starts s.stored) ∷ w.past) s.number ]) (eq-eqb s.number s.number refl)))
      | inr c ↦ running_of_others j.inc a.life w.past k c.0 ∙ inv.runs k z c.1
    ];
    stored = λ k z q. elim (put_cases y w k z q) [
      | inl c ↦ subst (λ d. d.stored ≡ stored_in past k) c.1 (inv.stored n s at_it ∙ ap (λ m. stored_in w.past m) (sym (number_of w n s at_it) ∙ c.0))
      | inr c ↦ inv.stored k z c.1
    ];
    unknown = λ k q. elim (cases_Bool (eqb s.number k)) [
      | inl c ↦ absurd (some_none y (sym (subst (λ d. server_at (put_server y w) d ≡ Some y) (eqb-true s.number k c) (put_same y w)) ∙ q))
      | inr c ↦ (let z = inv.unknown k (sym (put_other y w k c) ∙ q) in (running_of_others j.inc a.life w.past k c ∙ z.0, z.1))
    ];
    founders = λ i k. grows i (inv.founders i k);
    known = λ i. elim (cases_Bool (inc_eq j.inc i)) [
      | inl q ↦ inr (subst (λ z. WasStarted next z) (inc_is j.inc i q) begun)
      | inr q ↦ elim (inv.known i) [ inl k ↦ inl (put_there v.at j.inc i (joiner (group_of t) j.inc) q ∙ k) | inr k ↦ inr (grows i k) ]
    ];
    lives = λ i. elim (cases_Bool (inc_eq j.inc i)) [
      | inl q ↦ inr (subst (λ z. WasStarted next z) (inc_is j.inc i q) begun)
      | inr q ↦ elim (inv.lives i) [ inl k ↦ inl (life_of_others j.inc i a.life w.past q ∙ k) | inr k ↦ inr (grows i k) ]
    ];
    there = λ i. elim (cases_Bool (inc_eq j.inc i)) [
      | inl q ↦ inr (joiner (group_of t) j.inc, subst (λ z. after.at z ≡ Some (joiner (group_of t) j.inc)) (inc_is j.inc i q) (put_here v.at j.inc (joiner (group_of t) j.inc)))
      | inr q ↦ elim (inv.there i) [ inl k ↦ inl (life_of_others j.inc i a.life w.past q ∙ k) | inr k ↦ inr (k.0, put_there v.at j.inc i (joiner (group_of t) j.inc) q ∙ k.1) ]
    ];
    sent = λ m h. elim (in_either m w.sent a.sent h) [
      | inl z ↦ elim (inv.sent m z) [ inl k ↦ inl (in_left m v.wire (nodes.start_sent j via.me.inc ∷ []) k) | inr k ↦ inr k ]
      | inr z ↦ elim z [ inl q ↦ inr (subst (λ x. is_apart x.wire ≡ true) q refl) | inr q ↦ absurd q ]
    ];
    told = λ m h. elim (in_either m w.sent a.sent h) [
      | inl z ↦ sent_grows t (dids j.inc a.life) w.past m (inv.told m z)
      | inr z ↦ elim z [ inl q ↦ subst (λ x. WasSent t past x) q tt | inr q ↦ absurd q ]
    ];
    took = (tt, (tt, inv.took));
    mids = (tt, (tt, inv.mids));
    heard = (tt, (tt, did_map (HeardIn v) (HeardIn after) (heard_grows v after (λ m h. in_left m v.wire (nodes.start_sent j via.me.inc ∷ []) h)) w.past inv.heard));
    made = λ u h. made_grows (dids j.inc a.life) w.past u (inv.made u h);
    slots = λ i. elim (cases_Bool (inc_eq j.inc i)) [
      | inl q ↦ subst (λ z. slots_by z v.took ≡ slots_in (life_in past z)) (inc_is j.inc i q) (inv.slots j.inc ∙ (ap slots_in fresh ∙ sym (ap slots_in life_here)))
      | inr q ↦ inv.slots i ∙ sym (ap slots_in (life_of_others j.inc i a.life w.past q))
    ];
    done = (inl (run_now, inr (s.stored, ap (λ b. elim b [ true ↦ Starts s.stored ∷ life_in w.past j.inc | false ↦ life_in w.past j.inc ]) (inc_same j.inc) ∙ ap (λ l. Starts s.stored ∷ l) fresh, refl)), ((nobody, fresh, not_founder, stored_here), inv.done));
  },
)
  where
    j : Joiner
    j = joiner_of s (suc s.starts)

    a : Member
    a = start t j s.stored via.me.inc

    y : Server
    y = record s { starts = suc s.starts; running = Some a }

    next : World
    next = started t s via w

    past : Past
    past = dids j.inc a.life ++ w.past

    after : nodes.World
    after = record v { at = nodes.put_node v.at j.inc (joiner (group_of t) j.inc); wire = v.wire ++ nodes.start_sent j via.me.inc ∷ [] }

    number : s.number ≡ n
    number = number_of w n s at_it

    -- nothing was started as this incarnation
    unstarted : WasStarted w j.inc → ⊥
    unstarted k =
        let there : server_at w s.number ≡ Some s = subst (λ z. server_at w z ≡ Some s) (sym number) at_it in
        let same : s ≡ k.0 = some_is (sym there ∙ k.1) in
        absurd (omega (arith, k.2, ap (λ c. c.starts) same))

    absent : v.at j.inc ≡ None
    absent = elim (inv.known j.inc) [ inl k ↦ k | inr k ↦ absurd (unstarted k) ]

    fresh : life_in w.past j.inc ≡ []
    fresh = elim (inv.lives j.inc) [ inl k ↦ k | inr k ↦ absurd (unstarted k) ]

    nobody : running_in w.past s.number ≡ None
    nobody = subst (λ z. running_in w.past z ≡ None) (sym number) (inv.runs n s at_it ∙ ap inc_of idle)

    not_founder : is_founder t j.inc ≡ false
    not_founder = elim (cases_Bool (is_founder t j.inc)) [ inl k ↦ absurd (unstarted (inv.founders j.inc k)) | inr k ↦ k ]

    stored_here : s.stored ≡ stored_in w.past s.number
    stored_here = inv.stored n s at_it ∙ ap (λ m. stored_in w.past m) (sym number)

    run_now : running_in (Does j.inc (Starts s.stored) ∷ w.past) s.number ≡ Some j.inc
    run_now = ap (λ b. elim b [ true ↦ Some j.inc | false ↦ running_in w.past s.number ]) (eq-eqb s.number s.number refl)

    life_here : life_in past j.inc ≡ a.life
    life_here = life_of_dids j.inc a.life w.past ∙ ap (λ l. a.life ++ l) fresh

    grows : (i : Inc) → WasStarted w i → WasStarted next i
    grows i k = started_put w y y (λ x q. same x (sym (subst (λ z. server_at w z ≡ Some s) (sym number) at_it) ∙ q)) i k next (λ m. refl)
      where
        same : (x : Server) → Some s ≡ Some x → x.starts ≤ suc s.starts
        same x e = let z : s ≡ x = some_is e in omega (arith, ap (λ c. c.starts) z)

    begun : WasStarted next j.inc
    begun = (y, put_same y w, omega arith)

    run_here : IsRunning t next after y a
    run_here = record { setup = refl; server = refl; start = refl; node = put_here v.at j.inc (joiner (group_of t) j.inc); life = life_here; begun = omega arith; settled = refl }

    of_server : (k : ℕ) (x : Server) (b : Member) → server_at w k ≡ Some x → x.running ≡ Some b → (s.number == k) ≡ false → inc_eq j.inc b.me.inc ≡ false
    of_server k x b q r z = elim (cases_Bool (inc_eq j.inc b.me.inc)) [
      | inl h ↦ (let same : j.inc ≡ b.me.inc = inc_is j.inc b.me.inc h in
          let o = inv.running k x b q r in
          let m : s.number ≡ k = ap (λ c. c.server) same ∙ (o.server ∙ number_of w k x q) in
          absurd (false≢true (sym z ∙ eq-eqb s.number k m)))
      | inr h ↦ h
    ]
