-- A row that is written offline: the world afterwards.
use Rattle.std.proofs.Common.{◌≡◌, inl, inr, ℕ, suc, length, Bool, true, false, Some, None, Option, List, [], ◌∷◌, ◌++◌, refl, sym, ap, subst, ◌∙◌}
use Rattle.std.specs.Prelude.{is_some, not}
use Rattle.gr_ids.specs.declared.names.Gtid.{Gtid}
use Rattle.gtid_sets.specs.Canonical.{IsNumber, IsUuid}
use Rattle.key_items.specs.declared.item.Item.{Item}
use Rattle.group_rules.specs.declared.said.Said.TheVariants.{Offline as WroteOffline}
use Rattle.group_rules.specs.Events.{Setup}
use Rattle.group_rules.specs.Script.{Play, plays}
use Rattle.group_rules.specs.World.{Server, World, WritesRow, move, nothing_happens, server_at, write_by, written}
use Rattle.member_ranges.specs.Ranges.{setup_with}
use Rattle.group_promises.specs.Promises.{IsApart}
use Rattle.world_servers.specs.Naming.{declared_of}
use Rattle.play_runs.specs.Runs.{HasRoom, IsRun}
use Rattle.group_world.specs.Changing.{is_busy}
use Rattle.group_world.specs.Standing.{Along, AreDeclared, Holds, setup_in}
use Rattle.group_world.specs.Writing.{WritesAt, after_write}
use Rattle.group_world.specs.declared.founding.Founding.{Founding}
use Rattle.group_world.specs.declared.stage.Stage.{Stage}
use Rattle.group_world.proofs.Finding.{at_in}
use Rattle.group_world.proofs.Servers.{in_with, map_with, rises_with}
use Rattle.group_world.proofs.Still.{still}

abbrev pub WrittenRuns : Type 0
WrittenRuns = (w : World) (n : ℕ) (i : Item) (row : List ℕ) → HasRoom w n → IsRun w → IsRun (move (WritesRow n i row) w)

abbrev pub OwnGtids : Type 0
OwnGtids = (w : World) (n : ℕ) (s : Server) → IsRun w → server_at w n ≡ Some s → s.running ≡ None → IsApart s.uuid s.stored

-- ---- whether a group is founded

pub unset : (o : Option Founding) (r : Bool) → is_some o ≡ not r → r ≡ true → setup_in o ≡ None
unset None r h e = refl
unset (Some f) r h e = absurd (let k : true ≡ false = h ∙ ap not e in cc)

pub set : (o : Option Founding) (r : Bool) → is_some o ≡ not r → r ≡ false → (t : Setup) × (setup_in o ≡ Some t)
set None r h e = absurd (let k : false ≡ true = h ∙ ap not e in cc)
set (Some f) r h e = (setup_with f.limits f.mode f.founders.items, refl)

-- ---- where none can be

pub no_setup : (n : ℕ) (i : Item) (r : List ℕ) (w : World) → w.setup ≡ None → move (WritesRow n i r) w ≡ nothing_happens w
unfolding move
no_setup n i r w h = let none : is_some w.setup ≡ false = ap is_some h in rw (none, move) refl

pub busy : (n : ℕ) (i : Item) (r : List ℕ) (w : World) → is_busy (server_at w n) ≡ true → move (WritesRow n i r) w ≡ nothing_happens w
unfolding move
busy n i r w h = go (is_some w.setup) (server_at w n) h
  where
    by : (o : Option Server) → is_busy o ≡ true → write_by i r o w ≡ nothing_happens w
    by None e = refl
    by (Some s) e = rw (e, write_by) refl

    go : (b : Bool) (o : Option Server) → is_busy o ≡ true → (elim b [ true ↦ write_by i r o w | false ↦ nothing_happens w ]) ≡ nothing_happens w
    go true o e = by o e
    go false o e = refl

-- ---- where one is

module _ (law : WrittenRuns) (own : OwnGtids) (n : ℕ) (i : Item) (v : List ℕ) (t : Setup) (g : Gtid) (y : Play) (x z : Stage) (a : Along y x) (setup : y.world.setup ≡ Some t)
    (r : WritesAt n i v y.world.servers g z.sites) (servers : z.servers ≡ x.servers) (founding : z.founding ≡ x.founding) where
  abbrev w : World
  w = y.world

  abbrev s : Server
  s = r.server

  abbrev next : World
  next = written i v s w

  by_it : write_by i v (Some s) w ≡ next
  by_it = let none : is_some s.running ≡ false = ap is_some r.written.stopped in rw (none, write_by) refl

  is_it : move (WritesRow n i v) w ≡ next
  unfolding move
  is_it = let some : is_some w.setup ≡ true = ap is_some setup in rw (some, move) (ap (λ o. write_by i v o w) r.at_it ∙ by_it)

  room : HasRoom w n
  room u h = let same : Some s ≡ Some u = sym r.at_it ∙ h in let is : s ≡ u = cc in subst (λ q. IsNumber (suc (length q.stored.writes))) is (subst IsNumber (ap (λ k. k.number) r.written.gtid) r.written.number)

  declared : AreDeclared next.servers
  declared u h = elim (in_with u (after_write i v s) w.servers h) [ inl q ↦ subst (λ k. IsUuid k.uuid) q (a.holds.declared s (at_in n w.servers s r.at_it).0) | inr q ↦ a.holds.declared u q ]

  holds : Holds next z
  holds = record {
    servers = servers ∙ (a.holds.servers ∙ sym (map_with declared_of n w.servers s (after_write i v s) a.holds.rising r.at_it (at_in n w.servers s r.at_it).1 refl));
    sites = r.after (own w n s a.holds.run r.at_it r.written.stopped);
    rising = rises_with (after_write i v s) w.servers a.holds.rising;
    declared = declared;
    setup = a.holds.setup ∙ ap setup_in (sym founding);
    founded = a.holds.founded;
    run = subst IsRun is_it (law w n i v room a.holds.run);
  }

  pub wrote : z.said.items ≡ x.said.items ++ WroteOffline g ∷ [] → z.block ≡ x.block → z.wire ≡ x.wire → Along (plays (WritesRow n i v) y) z
  wrote said block wire = still (WritesRow n i v) y x z next a is_it refl holds (said ∙ ap (λ k. x.said.items ++ WroteOffline k ∷ []) r.written.gtid) block wire
