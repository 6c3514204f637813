-- How a joiner begins with a Welcome.
use Rattle.std.proofs.Common.{◌≡◌, ℕ, ◌-◌, Bool, true, false, List, [], ◌∷◌, Some, refl, sym, ap, ◌∙◌, arith, length}
use Rattle.std.specs.Prelude.{map, slice_get, ◌&&◌, not, is_some, if◌then◌else◌}
use Rattle.std.specs.List.{list_any}
use Rattle.gr_ids.specs.declared.names.Inc.{Inc}
use Rattle.gr_ids.specs.Names.{inc_eq}
use Rattle.slot_values.specs.Log.{incs}
use Rattle.node_rules.specs.Names.{Welcome, WelcomeMember}
use Rattle.node_rules.specs.Lists.{incs_eq}
use Rattle.node_rules.proofs.Incs.{inc_is}
use Rattle.node_rules.specs.Node.{Node, quiet}
use Rattle.paxos_node.proofs.Lists.{last_is}
use Rattle.node_rules.specs.Welcoming.{hear_welcome, incs_in, is_for, is_in_order, is_recovering, last_config, told_in, welcomed}

incs_same : (is js : List Inc) → incs_eq is js ≡ true → is ≡ js
incs_same [] [] h = refl
incs_same [] (j ∷ js) h = absurd cc
incs_same (i ∷ is) [] h = absurd cc
incs_same (i ∷ is) (j ∷ js) h = go (inc_eq i j) refl (λ r. incs_same is js r)
  where
    go : (u : Bool) → inc_eq i j ≡ u → (incs_eq is js ≡ true → is ≡ js) → i ∷ is ≡ j ∷ js
    go true p r = rw (inc_is i j p) (ap (λ l. j ∷ l) (r (rw p at h)))
    go false p r = absurd (let no : false ≡ true = (rw p at h) in cc)

pub left : (u w : Bool) → (u && w) ≡ true → u ≡ true
left true w h = refl
left false w h = absurd cc

pub right : (u w : Bool) → (u && w) ≡ true → w ≡ true
right true w h = h
right false w h = absurd cc

pub incs_told : (x : Welcome) → incs (told_in x).last ≡ incs_in x
incs_told x = go x.members
  where
    go : (ms : List WelcomeMember) → map (λ m. m.inc) (map {A = WelcomeMember} {B = Rattle.slot_values.specs.declared.member.Member.Member} (λ m. record { inc = m.joiner.inc; last = m.last }) ms) ≡ map (λ m. m.joiner.inc) ms
    go [] = refl
    go (m ∷ ms) = ap (λ l. m.joiner.inc ∷ l) (go ms)

-- the last configuration is that of the members
pub latest_is : (x : Welcome) (me : Inc) (h : ℕ) → is_in_order x ≡ true → is_for x me h ≡ true → slice_get x.configs (length x.configs - 1) ≡ Some (incs_in x)
latest_is x me h o f =
    let same : incs_in x ≡ last_config x.configs = incs_same (incs_in x) (last_config x.configs) (right _ _ (left _ _ o)) in
    go x.configs same (right _ _ f)
  where
    go : (cs : List (List Inc)) → incs_in x ≡ last_config cs → list_any {X = WelcomeMember} (λ m. inc_eq m.joiner.inc me && is_recovering m.state) x.members ≡ true → slice_get cs (length cs - 1) ≡ Some (incs_in x)
    go [] s r = absurd (none x.members s r)
      where
        none : (ms : List WelcomeMember) → map (λ m. m.joiner.inc) ms ≡ [] → list_any {X = WelcomeMember} (λ m. inc_eq m.joiner.inc me && is_recovering m.state) ms ≡ true → ⊥
        none [] s r = cc
        none (m ∷ ms) s r = cc
    go (c ∷ cs) s r =
        let last : length (c ∷ cs) - 1 ≡ length cs = omega arith in
        rw last (last_is c cs ∙ ap Some (sym s))

pub welcome_counts : (x : Welcome) (n : Node) → is_some n.turns ≡ false → is_in_order x ≡ true → is_for x n.me n.horizon ≡ true → hear_welcome x n ≡ quiet (welcomed n x)
unfolding hear_welcome
welcome_counts x n t o f = rw (t, o, f) refl

pub welcome_late : (x : Welcome) (n : Node) → is_some n.turns ≡ true → hear_welcome x n ≡ quiet n
unfolding hear_welcome
welcome_late x n t = rw t refl

pub welcome_misfits : (x : Welcome) (n : Node) → is_in_order x ≡ false → hear_welcome x n ≡ quiet n
unfolding hear_welcome
welcome_misfits x n o = go (is_some n.turns) refl
  where
    go : (u : Bool) → is_some n.turns ≡ u → (if not (is_some n.turns) && (is_in_order x && is_for x n.me n.horizon) then quiet (welcomed n x) else quiet n) ≡ quiet n
    go true p = rw p refl
    go false p = rw (p, o) refl

pub welcome_other : (x : Welcome) (n : Node) → is_for x n.me n.horizon ≡ false → hear_welcome x n ≡ quiet n
unfolding hear_welcome
welcome_other x n f = go (is_some n.turns) (is_in_order x) refl refl
  where
    go : (u w : Bool) → is_some n.turns ≡ u → is_in_order x ≡ w → (if not (is_some n.turns) && (is_in_order x && is_for x n.me n.horizon) then quiet (welcomed n x) else quiet n) ≡ quiet n
    go true w p q = rw p refl
    go false true p q = rw (p, q, f) refl
    go false false p q = rw (p, q) refl
