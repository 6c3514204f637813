-- When the member takes ERROR all holds end.
use Rattle.std.proofs.Common.{◌≡◌, ℕ, false, List, [], ◌∷◌, refl, sym, ap, subst}
use Rattle.gr_ids.specs.declared.levels.MemberState.TheVariants.{Error}
use Rattle.gr_ids.specs.declared.names.Inc.{Inc}
use Rattle.group_rules.specs.declared.answers.Answer.TheVariants.{MemberLeft}
use Rattle.group_rules.specs.declared.marks.Cause.{Cause}
use Rattle.group_rules.specs.Events.{Is, Setup}
use Rattle.group_rules.specs.Member.{Member, fall, for_each, leave_session, push, unanswered, waiting_as}
use Rattle.group_rules.specs.Queue.{pending}
use Rattle.group_rules.specs.Sessions.{Phase, Free, Holding, Active, Asking, is_holding, phase, sessions}
use Rattle.consistency_waits.specs.Following.{HeldOf}
use Rattle.consistency_waits.specs.Holding.{Held, without}
use Rattle.consistency_waits.proofs.Chosen.{nobody, none_of, without_all}
use Rattle.consistency_waits.proofs.Histories.{others, passes, unknown_none}
use Rattle.consistency_waits.proofs.Timeouts.{answered_and_ended}

left_one : (s : Setup) (me : Inc) (a : Member) (t : ℕ) (hs : List Held) → HeldOf s me a.life hs → HeldOf s me (leave_session t a).life (without t hs)
left_one s me a t hs f = go (phase a.life t) refl
  where
    unheld : is_holding (phase a.life t) ≡ false → HeldOf s me a.life (without t hs)
    unheld n = subst (λ (ks : List Held). HeldOf s me a.life ks) (sym (others s me a.life hs t f n)) f

    go : (p : Phase) → phase a.life t ≡ p → HeldOf s me (leave_session t a).life (without t hs)
    go Free e = rw (leave_session, e) (unheld (ap is_holding e))
    go Holding e = rw (leave_session, e) (answered_and_ended s me a.life hs t MemberLeft f)
    go Active e = rw (leave_session, e) (unheld (ap is_holding e))
    go (Asking i) e = rw (leave_session, e) (answered_and_ended s me a.life hs t (unanswered i (waiting_as (pending a.life) i)) f)

left_all : (s : Setup) (me : Inc) (ss : List ℕ) (a : Member) (hs : List Held) → HeldOf s me a.life hs → HeldOf s me (for_each leave_session ss a).life (without_all ss hs)
left_all s me [] a hs f = f
left_all s me (t ∷ ss) a hs f = left_all s me ss (leave_session t a) (without t hs) (left_one s me a t hs f)

pub falls : (a : Member) (c : Cause) (hs : List Held) → HeldOf a.setup a.me.inc a.life hs → HeldOf a.setup a.me.inc (fall c a).life []
falls a c hs f =
    let s : Setup = a.setup in
    let me : Inc = a.me.inc in
    let ss : List ℕ = sessions a.life in
    let none : without_all ss hs ≡ [] = nobody (without_all ss hs) (λ t. none_of ss hs t (unknown_none s me a.life hs t f)) in
    subst (λ (ks : List Held). HeldOf s me (fall c a).life ks) none (left_all s me ss (push (Is Error c) a) hs (passes s me a.life hs (Is Error c) refl f))
