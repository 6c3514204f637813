-- An incarnation that starts: the world afterwards.
use Rattle.std.proofs.Common.{◌≡◌, inl, inr, ℕ, suc, true, false, Some, None, Option, [], ◌∷◌, ◌++◌, refl, sym, ap, subst, ◌∙◌}
use Rattle.std.specs.Prelude.{is_some, map}
use Rattle.gtid_sets.specs.Canonical.{IsUuid}
use Rattle.gr_ids.specs.declared.names.Inc.{Inc}
use Rattle.gr_ids.specs.declared.levels.MemberState.TheVariants.{Offline}
use Rattle.slot_values.specs.declared.value.Joiner.{Joiner}
use Rattle.group_rules.specs.declared.marks.Cause.TheVariants.{Started}
use Rattle.group_rules.specs.declared.marks.Mark.TheVariants.{State}
use Rattle.group_rules.specs.Events.{Setup, Stored}
use Rattle.group_rules.specs.Life.{stored}
use Rattle.group_rules.specs.Member.{Member}
use Rattle.group_rules.specs.Script.{Play, letter, plays, is_full, said_of}
use Rattle.group_rules.specs.Steps.{start}
use Rattle.group_rules.specs.World.{Server, Starts, World, dids, joiner_of, member_at, move, nothing_happens, server_at, start_by, started}
use Rattle.kept_server.specs.Keeping.{KeptFor}
use Rattle.kept_server.specs.declared.kept.KeptServer.{KeptServer}
use Rattle.member_core.specs.Standing.{HasStarted}
use Rattle.member_core.specs.declared.member.Started.{Started as JustBegun}
use Rattle.world_servers.specs.Naming.{declared_of}
use Rattle.world_wire.specs.Faults.{IsCause}
use Rattle.world_wire.specs.declared.fault.WireFault.{WireFault}
use Rattle.play_runs.specs.Runs.{IsRun}
use Rattle.group_world.specs.Changing.{BeginsAt, IsBegin, begun, is_busy, joining}
use Rattle.group_world.specs.Events.{messages_in, said_by}
use Rattle.group_world.specs.Running.{inc_of}
use Rattle.group_world.specs.Sites.{IsSite, IsStay}
use Rattle.group_world.specs.Standing.{Along, AreDeclared, Closes, Holds, setup_in}
use Rattle.group_world.specs.declared.site.Site.{Site}
use Rattle.group_world.specs.declared.site.Stay.TheVariants.{Stopped, Running}
use Rattle.group_world.specs.declared.site.Turn.{Turn}
use Rattle.group_world.specs.declared.stage.Stage.{Stage}
use Rattle.group_world.proofs.Finding.{at_in}
use Rattle.group_world.proofs.Left.{messages_spelt}
use Rattle.group_world.proofs.Moving.{Leads, closes, goes}
use Rattle.group_world.proofs.Servers.{in_with, map_with, rises_with}

abbrev pub StartedRuns : Type 0
StartedRuns = (w : World) (n via : ℕ) → IsRun w → IsRun (move (Starts n via) w)

-- ---- where none can

pub no_contact : (n via : ℕ) (w : World) → member_at w via ≡ None → move (Starts n via) w ≡ nothing_happens w
unfolding move
no_contact n via w h = ap (λ m. start_by w.setup (server_at w n) m w) h ∙ go w.setup (server_at w n)
  where
    go : (t : Option Setup) (o : Option Server) → start_by t o None w ≡ nothing_happens w
    go None o = refl
    go (Some t) None = refl
    go (Some t) (Some s) = refl

pub no_setup : (n via : ℕ) (w : World) → w.setup ≡ None → move (Starts n via) w ≡ nothing_happens w
unfolding move
no_setup n via w h = ap (λ t. start_by t (server_at w n) (member_at w via) w) h

pub busy : (n via : ℕ) (w : World) → is_busy (server_at w n) ≡ true → move (Starts n via) w ≡ nothing_happens w
unfolding move
busy n via w h = go w.setup (server_at w n) (member_at w via) h
  where
    go : (t : Option Setup) (o : Option Server) (m : Option Member) → is_busy o ≡ true → start_by t o m w ≡ nothing_happens w
    go None o m e = refl
    go (Some t) None m e = refl
    go (Some t) (Some s) None e = refl
    go (Some t) (Some s) (Some a) e = rw (e, start_by) refl

-- ---- the first of a joiner

pub me_of : (t : Setup) (j : Joiner) (x : Stored) (i : Inc) → (start t j x i).me.inc ≡ j.inc
unfolding start
me_of t j x i = refl

pub stored_of : (t : Setup) (j : Joiner) (x : Stored) (i : Inc) → stored (start t j x i).life ≡ x
unfolding start
stored_of t j x i = refl

said_first : (t : Setup) (j : Joiner) (x : Stored) (i : Inc) → said_of (dids j.inc (start t j x i).life) ≡ said_by j.inc (State Offline Started ∷ [])
unfolding start
said_first t j x i = refl

-- the site of a server whose incarnation began
pub site_begins : (t : Setup) (via : Inc) (s : Server) (z : Site) (k : KeptServer) (me : Joiner) (x : JustBegun) (o : Turn) → IsSite s z → z.stay ≡ Stopped k → me ≡ joiner_of s (suc s.starts)
    → ((y : Stored) → KeptFor y k → HasStarted (start t me y via) x) → o.inc ≡ me.inc → o.left.marks.items ≡ State Offline Started ∷ [] → o.left.sent.items ≡ x.sent.items
    → (s.running ≡ None) × IsBegin (joining t via s) o × IsSite (begun t via s) (record { number = z.number; starts = me.inc.start; stay = Running x.member })
site_begins t via s z k me x o h e m b inc marks sent =
    let p : IsStay s (Stopped k) = subst (IsStay s) e h.stay in
    let a : HasStarted (joining t via s) x = subst (λ j. HasStarted (start t j s.stored via) x) m (b s.stored p.1) in
    let first = joiner_of s (suc s.starts) in (
      p.0,
      record { inc = inc ∙ (ap (λ j. j.inc) m ∙ sym (me_of t first s.stored via)); marks = marks; sent = sent ∙ a.sent; spellable = a.spellable },
      record { number = h.number; starts = ap (λ j. j.inc.start) m; stay = (joining t via s, refl, a.stands, stored_of t first s.stored via) },
    )

-- ---- who runs

pub nobody : (o : Option Member) → inc_of o ≡ None → o ≡ None
nobody None e = refl
nobody (Some a) e = absurd (cc e)

pub somebody : (o : Option Member) (i : Inc) → inc_of o ≡ Some i → (a : Member) × (o ≡ Some a) × (a.me.inc ≡ i)
somebody None i e = absurd (cc e)
somebody (Some a) i e = let same : a.me.inc ≡ i = cc in (a, refl, same)

-- ---- where one does

module _ (law : StartedRuns) (n via : ℕ) (t : Setup) (contact : Member) (y : Play) (x z : Stage) (turn : Turn) (a : Along y x) (setup : y.world.setup ≡ Some t) (by : member_at y.world via ≡ Some contact)
    (r : BeginsAt n t contact.me.inc y.world.servers turn z.sites) (servers : z.servers ≡ x.servers) (founding : z.founding ≡ x.founding) where
  abbrev w : World
  w = y.world

  abbrev s : Server
  s = r.server

  abbrev j : Joiner
  j = joiner_of s (suc s.starts)

  abbrev b : Member
  b = joining t contact.me.inc s

  abbrev next : World
  next = started t s contact w

  by_it : start_by (Some t) (Some s) (Some contact) w ≡ next
  by_it = let none : is_some s.running ≡ false = ap is_some r.stopped in rw (none, start_by) refl

  is_it : move (Starts n via) w ≡ next
  unfolding move
  is_it = ap (λ o. start_by o (server_at w n) (member_at w via) w) setup ∙ (ap (λ o. start_by (Some t) o (member_at w via) w) r.at_it ∙ (ap (λ o. start_by (Some t) (Some s) o w) by ∙ by_it))

  declared : AreDeclared next.servers
  declared v h = elim (in_with v (begun t contact.me.inc s) w.servers h) [ inl q ↦ subst (λ u. IsUuid u.uuid) q (a.holds.declared s (at_in n w.servers s r.at_it).0) | inr q ↦ a.holds.declared v q ]

  holds : Holds next z
  holds = record {
    servers = servers ∙ (a.holds.servers ∙ sym (map_with declared_of n w.servers s (begun t contact.me.inc s) a.holds.rising r.at_it (at_in n w.servers s r.at_it).1 refl));
    sites = r.after;
    rising = rises_with (begun t contact.me.inc s) w.servers a.holds.rising;
    declared = declared;
    setup = a.holds.setup ∙ ap setup_in (sym founding);
    founded = a.holds.founded;
    run = subst IsRun is_it (law w n via a.holds.run);
  }

  leads : Leads y (Starts n via) next b.sent
  leads = record { is_it = is_it; sent = refl; spellable = r.turn.spellable }

  sent : messages_in turn.left.sent.items ≡ b.sent
  sent = ap messages_in r.turn.sent ∙ messages_spelt b.sent

  said : said_by turn.inc turn.left.marks.items ≡ said_of next.left
  said = ap (λ i. said_by i turn.left.marks.items) (r.turn.inc ∙ me_of t j s.stored contact.me.inc) ∙ (ap (said_by j.inc) r.turn.marks ∙ sym (said_first t j s.stored contact.me.inc))

  -- its Add is sent, and its state said
  pub goes_on : z.wire ≡ x.wire ++ map letter (messages_in turn.left.sent.items) → is_full z.wire ≡ false → z.said.items ≡ x.said.items ++ said_by turn.inc turn.left.marks.items → z.block ≡ x.block → Along (plays (Starts n via) y) z
  goes_on wire few told block =
      goes y x a (Starts n via) next b.sent leads z (told ∙ ap (λ l. x.said.items ++ l) said) block (wire ∙ ap (λ l. x.wire ++ map letter l) sent) few holds

  -- or the wire hasn't room for it
  pub closed : (f : WireFault) → IsCause (x.wire ++ map letter (messages_in turn.left.sent.items)) f → Closes f (plays (Starts n via) y)
  closed f h = closes y x a (Starts n via) next b.sent leads f (subst (λ l. IsCause (x.wire ++ map letter l) f) sent h)
