-- A member that runs takes an event: the world afterwards.
use Rattle.std.proofs.Common.{◌≡◌, false, ℕ, Some, None, Option, refl, sym, ap, subst, ◌∙◌, ◌++◌, inl, inr, take, length, ◌-◌}
use Rattle.std.specs.Prelude.{map}
use Rattle.gtid_sets.specs.Canonical.{IsUuid}
use Rattle.world_servers.specs.Naming.{declared_of}
use Rattle.group_rules.specs.Events.{Event}
use Rattle.group_rules.specs.Histories.{arranged}
use Rattle.group_rules.specs.Member.{Member}
use Rattle.group_rules.specs.Script.{Play, letter, plays, is_full, said_of}
use Rattle.group_rules.specs.Steps.{step}
use Rattle.group_rules.specs.World.{Move, Server, World, event_at, event_by, move, nothing_happens, running_of, server_at, stepped}
use Rattle.world_wire.specs.Faults.{IsCause}
use Rattle.world_wire.specs.declared.fault.WireFault.{WireFault}
use Rattle.play_runs.specs.Runs.{IsRun, IsSafe, IsStepIn}
use Rattle.group_world.specs.Events.{IsMoveOf, messages_in, said_by}
use Rattle.group_world.specs.Sites.{IsTurn, StepsAt, after_step}
use Rattle.group_world.specs.Standing.{Along, AreDeclared, Closes, Holds, setup_in}
use Rattle.group_world.specs.declared.site.Turn.{Turn}
use Rattle.group_world.specs.declared.stage.Stage.{Stage}
use Rattle.group_world.proofs.Finding.{at_in}
use Rattle.group_world.proofs.Left.{arranged_in, messages_spelt, said_dids}
use Rattle.group_world.proofs.Moving.{Leads, closes, goes}
use Rattle.group_world.proofs.Servers.{in_with, map_with, rises_with}

abbrev pub AllSafe : Type 0
AllSafe = (w : World) (m : Move) (e : Event) (a : Member) → IsRun w → IsStepIn w m e a → IsSafe w m e a

-- ---- where nobody runs

-- nothing happens
pub idles : (m : Move) (n : ℕ) (e : Event) (w : World) → IsMoveOf m n e w → running_of (server_at w n) ≡ None → move m w ≡ nothing_happens w
idles m n e w k h = k.is_it ∙ go (server_at w n) h
  where
    by : (s : Server) (o : Option Member) → o ≡ None → event_by e s o w ≡ nothing_happens w
    by s None q = refl
    by s (Some a) q = absurd (cc q)

    go : (o : Option Server) → running_of o ≡ None → event_at e o w ≡ nothing_happens w
    go None q = refl
    go (Some s) q = by s s.running q

-- ---- where one does

module _ (safe : AllSafe) (m : Move) (n : ℕ) (e : Event) (y : Play) (x z : Stage) (t : Turn) (a : Along y x) (k : IsMoveOf m n e y.world) (r : StepsAt n e y.world.servers t z.sites)
    (servers : z.servers ≡ x.servers) (founding : z.founding ≡ x.founding) where
  abbrev w : World
  w = y.world

  abbrev s : Server
  s = r.server

  abbrev b : Member
  b = r.member

  abbrev next : World
  next = stepped s b (step e b) w

  is_it : move m w ≡ next
  is_it = k.is_it ∙ (ap (λ o. event_at e o w) r.at_it ∙ ap (λ o. event_by e s o w) r.running)

  it_is_safe : IsSafe w m e b
  it_is_safe = safe w m e b a.holds.run (record { allowed = k.allowed; server = s; number = n; at_it = r.at_it; running = r.running; is_it = is_it })

  turn : IsTurn e b t
  turn = (r.after it_is_safe.promised).0

  here : s.number ≡ n
  here = (at_in n w.servers s r.at_it).1

  declared : AreDeclared next.servers
  declared v h = elim (in_with v (after_step e s b) w.servers h) [
    | inl q ↦ subst (λ u. IsUuid u.uuid) q (a.holds.declared s (at_in n w.servers s r.at_it).0)
    | inr q ↦ a.holds.declared v q
  ]

  holds : Holds next z
  holds = record {
    servers = servers ∙ (a.holds.servers ∙ sym (map_with declared_of n w.servers s (after_step e s b) a.holds.rising r.at_it here refl));
    sites = (r.after it_is_safe.promised).1;
    rising = rises_with (after_step e s b) w.servers a.holds.rising;
    declared = declared;
    setup = a.holds.setup ∙ ap setup_in (sym founding);
    founded = a.holds.founded;
    run = subst IsRun is_it (it_is_safe.runs turn.ranged);
  }

  leads : Leads y m next (arranged (step e b).sent)
  leads = record { is_it = is_it; sent = refl; spellable = λ v h. turn.spellable v (arranged_in v (step e b).sent h) }

  sent : messages_in t.left.sent.items ≡ arranged (step e b).sent
  sent = ap messages_in turn.sent ∙ messages_spelt (arranged (step e b).sent)

  said : said_by t.inc t.left.marks.items ≡ said_of next.left
  said = ap (λ i. said_by i t.left.marks.items) turn.inc ∙ (ap (said_by b.me.inc) turn.marks ∙ sym (said_dids b.me.inc (take (length (step e b).life - length b.life) (step e b).life)))

  -- its messages are sent and its marks said
  pub handed : z.wire ≡ x.wire ++ map letter (messages_in t.left.sent.items) → is_full z.wire ≡ false → z.said.items ≡ x.said.items ++ said_by t.inc t.left.marks.items → z.block ≡ x.block → Along (plays m y) z
  handed wire few told block =
      goes y x a m next (arranged (step e b).sent) leads z (told ∙ ap (λ l. x.said.items ++ l) said) block (wire ∙ ap (λ l. x.wire ++ map letter l) sent) few holds

  -- or the wire hasn't room for them
  pub refused : (f : WireFault) → IsCause (x.wire ++ map letter (messages_in t.left.sent.items)) f → Closes f (plays m y)
  refused f h = closes y x a m next (arranged (step e b).sent) leads f (subst (λ l. IsCause (x.wire ++ map letter l) f) sent h)
