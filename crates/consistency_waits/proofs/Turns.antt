-- Those that have reached their limits end one by one.
use Rattle.std.proofs.Common.{◌≡◌, ℕ, true, Option, Some, None, List, refl, sym, ap, ◌∙◌}
use Rattle.std.specs.Prelude.{MatchOption}
use Rattle.std.specs.List.{find}
use Rattle.std.specs.Option.{option_map}
use Rattle.group_rules.specs.declared.answers.Answer.TheVariants.{HoldTimeout}
use Rattle.group_rules.specs.Member.{Member, last_answer}
use Rattle.consistency_waits.specs.Following.{IsTurn, all_time_out, times_out}
use Rattle.consistency_waits.specs.Holding.{Held, ascend, is_over, without}
use Rattle.consistency_waits.proofs.Chosen.{first_chosen, none_chosen}

-- the least one is answered
abbrev after_one : Member → List Held → ℕ → ℕ → Member
after_one a hs t n = all_time_out hs (last_answer t (HoldTimeout n) a)

first_turn : (a : Member) (hs ks : List Held) (h : Held) (t n : ℕ) → ascend hs ≡ true → find is_over hs ≡ Some h → t ≡ h.session → n ≡ h.limit → ks ≡ without t hs → all_time_out hs a ≡ after_one a ks t n
first_turn a hs ks h t n up e et en ek =
    ap (λ (ws : List Held). times_out ws a) (first_chosen is_over hs h up e)
    ∙ (ap (λ (p : ℕ). after_one a (without p hs) p h.limit) (sym et) ∙ (ap (λ (m : ℕ). after_one a (without t hs) t m) (sym en) ∙ ap (λ (ws : List Held). after_one a ws t n) (sym ek)))

pub turn_is : (o : Option (ℕ × ℕ)) (hs ks : List Held) → option_map (λ p. p.0) o ≡ option_map (λ h. h.session) (find is_over hs) → option_map (λ p. p.1) o ≡ option_map (λ h. h.limit) (find is_over hs)
    → MatchOption o (ks ≡ hs) (λ p. ks ≡ without p.0 hs) → ascend hs ≡ true → IsTurn hs ks o
turn_is None hs ks es en m up = go (find is_over hs) refl es
  where
    go : (f : Option Held) → find is_over hs ≡ f → None ≡ option_map (λ (h : Held). h.session) f → (a : Member) → all_time_out hs a ≡ a
    go None e k a = ap (λ (ws : List Held). times_out ws a) (none_chosen is_over hs e)
    go (Some h) e k a = absurd cc
turn_is (Some p) hs ks es en m up = go (find is_over hs) refl es en
  where
    go : (f : Option Held) → find is_over hs ≡ f → Some p.0 ≡ option_map (λ (h : Held). h.session) f → Some p.1 ≡ option_map (λ (h : Held). h.limit) f → (a : Member) → all_time_out hs a ≡ after_one a ks p.0 p.1
    go None e k j a = absurd cc
    go (Some h) e k j a =
        let session : p.0 ≡ h.session = cc in
        let limit : p.1 ≡ h.limit = cc in
        first_turn a hs ks h p.0 p.1 up e session limit m
