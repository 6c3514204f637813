-- At a tick those end that have reached their limits.
use Rattle.std.proofs.Common.{◌≡◌, ℕ, Bool, true, false, Option, Some, None, List, ◌∷◌, filter, refl, sym, ap, subst, ◌∙◌, arith}
use Rattle.std.proofs.lemmas.Bool.Decides.{nat_tests}
use Rattle.std.specs.Prelude.{min, nat_le, ◌==◌, ⊤}
use Rattle.std.specs.List.{list_all}
use Rattle.gr_ids.specs.declared.names.Inc.{Inc}
use Rattle.group_rules.specs.declared.answers.Answer.{Answer}
use Rattle.group_rules.specs.declared.answers.Answer.TheVariants.{HoldTimeout}
use Rattle.group_rules.specs.Events.{Answered, Ends, Life, Setup}
use Rattle.group_rules.specs.Member.{Member, for_each, last_answer}
use Rattle.group_rules.specs.Sessions.{Call, is_holding, last_call, phase, sessions}
use Rattle.group_rules.specs.Steps.{time_out, time_out_by}
use Rattle.consistency_waits.specs.Following.{HeldOf, times_out}
use Rattle.consistency_waits.specs.Holding.{Held, held_in, is_over, last_tick, without}
use Rattle.consistency_waits.proofs.Acts.{act, chosen, each_acts, either, held_at, if_so, merged}
use Rattle.consistency_waits.proofs.Begins.{ends_all}
use Rattle.consistency_waits.proofs.Chosen.{fails, left_over}
use Rattle.consistency_waits.proofs.Finding.{all_held}
use Rattle.consistency_waits.proofs.Histories.{among_known, ended, held_from, passes, same}
use Rattle.consistency_waits.proofs.Known.{sessions_rise}

abbrev ends_now : Held → Member → Member
ends_now h a = last_answer h.session (HoldTimeout h.limit) a

abbrev ends_if : Held → Member → Member
ends_if h a = if_so is_over ends_now h a

-- ---- one session

-- the count stops above every limit
same_over : (n m : ℕ) → nat_le n last_tick ≡ true → nat_le n m ≡ nat_le n (min m last_tick)
same_over n m h = grind (arith, nat_tests, h)

abbrev Within : Option Held → Type 0
Within o = (h : Held) → o ≡ Some h → nat_le h.limit last_tick ≡ true

end_from : (a : Member) (t : ℕ) (b : Bool) (o : Option Call) → Within (held_from a.setup a.me.inc a.life t b o)
    → (elim b [ true ↦ time_out_by t o a | false ↦ a ]) ≡ act ends_if (held_from a.setup a.me.inc a.life t b o) a
end_from a t false o w = refl
end_from a t true None w = refl
end_from a t true (Some c) w = ap (λ (b : Bool). elim b [ true ↦ last_answer t (HoldTimeout c.limit) a | false ↦ a ]) (same_over c.limit c.ticks (w _ refl))

one_ends : (hs : List Held) → list_all (λ h. nat_le h.limit last_tick) hs ≡ true → (a : Member) (t : ℕ) → ⊤ → held_at a t ≡ held_in hs t → time_out t a ≡ act ends_if (held_in hs t) a
one_ends hs b a t w k =
    end_from a t (is_holding (phase a.life t)) (last_call a.life t) (λ h e. all_held (λ x. nat_le x.limit last_tick) hs t h b (sym k ∙ e))
    ∙ ap (λ (o : Option Held). act ends_if o a) k

keeps_others : (a : Member) (h : Held) (t : ℕ) → (h.session == t) ≡ false → held_at (ends_if h a) t ≡ held_at a t
keeps_others a h t n = either (λ b. held_at b t ≡ held_at a t) is_over ends_now h a ends_other refl
  where
    other : phase (Ends h.session ∷ Answered h.session (HoldTimeout h.limit) ∷ a.life) t ≡ phase a.life t
    other = rw (phase, n) refl

    ends_other : held_at (ends_now h a) t ≡ held_at a t
    ends_other = same a.setup a.me.inc (Ends h.session ∷ Answered h.session (HoldTimeout h.limit) ∷ a.life) a.life t (ap is_holding other) refl (λ k. refl)

-- ---- all

pub all_end : (a : Member) (hs : List Held) → HeldOf a.setup a.me.inc a.life hs → for_each time_out (sessions a.life) a ≡ times_out (filter is_over hs) a
all_end a hs f =
    each_acts time_out ends_if (λ b. ⊤) hs (one_ends hs f.limits) (λ b h w. w) keeps_others (sessions a.life) a (sessions_rise a.life) _ (λ t m. sym (f.holds t))
    ∙ (merged ends_if (sessions a.life) hs a (sessions_rise a.life) f.up (among_known a.setup a.me.inc a.life hs f) ∙ chosen is_over ends_now hs a)

pub answered_and_ended : (s : Setup) (me : Inc) (l : Life) (hs : List Held) (t : ℕ) (x : Answer) → HeldOf s me l hs → HeldOf s me (Ends t ∷ Answered t x ∷ l) (without t hs)
answered_and_ended s me l hs t x f = ended s me (Answered t x ∷ l) hs t (passes s me l hs (Answered t x) refl f)

pub left_held : (a : Member) (hs : List Held) → HeldOf a.setup a.me.inc a.life hs → HeldOf a.setup a.me.inc (for_each time_out (sessions a.life) a).life (filter (fails is_over) hs)
left_held a hs f =
    let s : Setup = a.setup in
    let me : Inc = a.me.inc in
    subst (λ (b : Member). HeldOf s me b.life (filter (fails is_over) hs)) (sym (all_end a hs f))
    (subst (λ (ks : List Held). HeldOf s me (times_out (filter is_over hs) a).life ks) (left_over is_over hs f.up)
    (ends_all s me ends_now (λ b h ks g. answered_and_ended s me b.life ks h.session (HoldTimeout h.limit) g) (filter is_over hs) a hs f))
