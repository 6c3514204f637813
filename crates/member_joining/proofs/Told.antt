-- What the asks tell, as the rules of the group do.
use Rattle.std.proofs.Common.{◌≡◌, ℕ, Bool, true, false, ◌&&◌, Option, Some, None, ◌∷◌, refl, sym, ap, ◌∙◌, eqb-true}
use Rattle.std.specs.Prelude.{is_some, nat_le, ◌==◌}
use Rattle.gr_ids.specs.declared.names.Inc.{Inc}
use Rattle.gr_ids.specs.declared.levels.MemberState.{MemberState}
use Rattle.gr_ids.specs.Names.{is_inc}
use Rattle.gtid_sets.specs.Sets.{Gtids, minus}
use Rattle.paxos_forms.specs.declared.recovery.Give.{Give}
use Rattle.paxos_forms.specs.declared.message.Wire.TheVariants.{Ask as Asks}
use Rattle.group_rules.specs.Events.{AskFails, Life}
use Rattle.group_rules.specs.Life.{executed as executed_by, is_recovering, state}
use Rattle.group_rules.specs.Member.{Member}
use Rattle.group_rules.specs.Recovery.{ask_wire, failures as failures_by, is_ask_due, is_awaited, pending_ask}
use Rattle.donor_recovery.specs.Asking.{Asking}
use Rattle.member_joining.specs.Asking.{ask_in, awaits_by, extra_in, is_ask_due_by, is_last_in, may_ask, pending_in, place_in}
use Rattle.member_joining.specs.Joins.{JoinsBy}
use Rattle.member_joining.proofs.Joined.{due_without}

pub due_told : (a : Member) (x : Option Asking) → JoinsBy a.life x → is_ask_due a ≡ is_ask_due_by (state a.life) x
due_told a None j = rw (j.outside refl) refl
due_told a (Some r) j = rw (← j.pending, ← j.has_give, ← j.failures) refl

pub wire_told : (a : Member) (x : Option Asking) → JoinsBy a.life x → may_ask x ≡ true → Asks (ask_in x) ≡ ask_wire a
wire_told a None j h = cc
wire_told a (Some r) j h = rw (← j.place, ← j.executed refl (sym j.has_give ∙ due_without r h)) refl

pub awaited_told : (a : Member) (i : Inc) (g : Give) (x : Option Asking) → JoinsBy a.life x → is_awaited i g a ≡ awaits_by (state a.life) i g.place x
awaited_told a i g x j = rw (← j.pending, ← j.place) refl

pub last_told : (l : Life) (x : Option Asking) → JoinsBy l x → is_some (pending_ask l) ≡ true → nat_le 10 (failures_by (AskFails ∷ l)) ≡ is_last_in x
last_told l None j h = let p = j.pending in cc
last_told l (Some r) j h = rw (← j.failures) refl

pub extra_told : (l : Life) (g : Give) (x : Option Asking) → JoinsBy l x → is_some (pending_ask l) ≡ true → minus (executed_by l) g.certified ≡ extra_in x g
extra_told l g None j h = let p = j.pending in cc
extra_told l g (Some r) j h = ap (λ (e : Gtids). minus e g.certified) (sym (j.executed refl (j.asks h)))

named : (o : Option Inc) (i : Inc) (b c : Bool) → ((b && is_inc o i) && c) ≡ true → (is_some o ≡ true) × (c ≡ true)
named None i true c h = cc
named None i false c h = cc
named (Some d) i b true h = (refl, refl)
named (Some d) i true false h = go (is_inc (Some d) i) h
  where
    go : (e : Bool) → (e && false) ≡ true → (true ≡ true) × (false ≡ true)
    go true h = cc
    go false h = cc
named (Some d) i false false h = cc

pub awaited : (s : MemberState) (i : Inc) (p : ℕ) (x : Option Asking) → awaits_by s i p x ≡ true → (is_some (pending_in x) ≡ true) × (p ≡ place_in x)
awaited s i p x h = let n = named (pending_in x) i (is_recovering s) (p == place_in x) h in (n.0, eqb-true p (place_in x) n.1)
