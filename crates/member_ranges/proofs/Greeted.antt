-- What a Welcome tells of the log.
use Rattle.std.proofs.Common.{◌≡◌, inl, inr, ℕ, suc, ◌≤◌, true, ◌&&◌, Option, Some, None, List, [], ◌∷◌, ltb, leb, refl, sym, ap, subst, arith, length}
use Rattle.std.specs.Prelude.{map}
use Rattle.std.specs.List.{list_all}
use Rattle.std.specs.Cmp.Lexicographic.{pointwise}
use Rattle.std.proofs.lemmas.Bool.{false≢true, and_parts, leb-true}
use Rattle.byte_forms.specs.Lists.{IsChain}
use Rattle.gr_ids.specs.Names.{inc_eq, has_inc}
use Rattle.gr_ids.specs.declared.names.Inc.{Inc}
use Rattle.slot_values.specs.Log.{incs}
use Rattle.slot_values.specs.Turns.{resumed}
use Rattle.slot_values.specs.declared.member.Member.{Member}
use Rattle.paxos_forms.specs.Welcomes.{IsMemberAfter, IsWelcome, inc_before}
use Rattle.paxos_forms.specs.declared.welcome.Welcome.{Welcome}
use Rattle.paxos_forms.specs.declared.welcome.WelcomeMember.{WelcomeMember}
use Rattle.node_rules.specs.Lists.{In, incs_eq}
use Rattle.node_rules.specs.Welcoming.{ascends, fits_primary, incs_in, is_config, is_in_order, last_config, told_in}
use Rattle.order_laws.proofs.Lists.{in_map}
use Rattle.member_ranges.specs.Logs.{AreFew, IsLog}
use Rattle.member_ranges.proofs.Chains.{Ascend}

-- ---- its members

pub told_incs : (ms : List WelcomeMember) → incs (map {A = WelcomeMember} {B = Member} (λ m. record { inc = m.joiner.inc; last = m.last }) ms) ≡ map {A = WelcomeMember} (λ m. m.joiner.inc) ms
told_incs [] = refl
told_incs (m ∷ ms) = ap (λ l. m.joiner.inc ∷ l) (told_incs ms)

pub told_ascend : (place : ℕ) (ms : List WelcomeMember) (b : Option WelcomeMember) → IsChain (IsMemberAfter place) b ms → Ascend (inc_before b) (map {A = WelcomeMember} (λ m. m.joiner.inc) ms)
told_ascend place [] b k = tt
told_ascend place (m ∷ ms) b k = ((k.0).joiner.inc, told_ascend place ms (Some m) k.1)

told_lasts : (place : ℕ) (ms : List WelcomeMember) (b : Option WelcomeMember) → IsChain (IsMemberAfter place) b ms → (m : WelcomeMember) → In m ms → m.last ≤ place
told_lasts place [] b k m q = absurd q
told_lasts place (x ∷ xs) b k m (inl e) = subst (λ (y : WelcomeMember). y.last ≤ place) e (k.0).last
told_lasts place (x ∷ xs) b k m (inr q) = told_lasts place xs (Some x) k.1 m q

-- ---- its configurations

same_length : (is js : List Inc) → pointwise inc_eq is js ≡ true → length is ≡ length js
same_length [] [] h = refl
same_length [] (j ∷ js) h = absurd (false≢true h)
same_length (i ∷ is) [] h = absurd (false≢true h)
same_length (i ∷ is) (j ∷ js) h = ap suc (same_length is js (and_parts (inc_eq i j) (pointwise inc_eq is js) h).1)

config_few : (c : List Inc) → is_config c ≡ true → AreFew c
config_few c h = leb-true (length c) 9 (and_parts (ltb 0 (length c)) (leb (length c) 9) (and_parts (ascends c) (ltb 0 (length c) && leb (length c) 9) h).1).1

configs_few : (cs : List (List Inc)) → list_all is_config cs ≡ true → (c : List Inc) → In c cs → AreFew c
configs_few [] h c q = absurd q
configs_few (x ∷ xs) h c (inl e) = subst (λ l. AreFew l) e (config_few x (and_parts (is_config x) (list_all is_config xs) h).0)
configs_few (x ∷ xs) h c (inr q) = configs_few xs (and_parts (is_config x) (list_all is_config xs) h).1 c q

last_few : (cs : List (List Inc)) → ((c : List Inc) → In c cs → AreFew c) → AreFew (last_config cs)
last_few [] h = omega arith
last_few (c ∷ []) h = h c (inl refl)
last_few (c ∷ d ∷ cs) h = last_few (d ∷ cs) (λ x q. h x (inr q))

-- ---- the log

module _ (x : Welcome) (k : IsWelcome x) (order : is_in_order x ≡ true) where
  parts : (list_all is_config x.configs ≡ true) × (incs_eq (incs_in x) (last_config x.configs) ≡ true)
  parts = and_parts (list_all is_config x.configs) (incs_eq (incs_in x) (last_config x.configs)) (and_parts (list_all is_config x.configs && incs_eq (incs_in x) (last_config x.configs)) (list_all (has_inc x.ever) (incs_in x) && fits_primary x x.primary) order).0

  few_configs : (c : List Inc) → In c x.configs → AreFew c
  few_configs = configs_few x.configs parts.0

  pub few_members : AreFew (incs_in x)
  few_members = let n = same_length (incs_in x) (last_config x.configs) parts.1 in let f = last_few x.configs few_configs in omega (arith, n, f)

  pub log_told : (h : ℕ) → length x.configs ≡ h → IsLog h (resumed (told_in x))
  log_told h n = record {
    place = k.place_below;
    lasts = λ m q. let r = in_map {A = WelcomeMember} {B = Member} (λ y. record { inc = y.joiner.inc; last = y.last }) x.members m q in subst (λ (y : Member). y.last ≤ x.place) r.2 (told_lasts x.place x.members None k.members r.0 r.1);
    members = subst (λ l. Ascend None l) (sym (told_incs x.members)) (told_ascend x.place x.members None k.members);
    few = subst (λ l. AreFew l) (sym (told_incs x.members)) few_members;
    ever = k.ever;
    base = omega arith;
    reaches = omega (arith, n);
    configs = few_configs;
  }
