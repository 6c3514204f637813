-- Runs of the world of nodes, one event after another.
use Rattle.std.proofs.Common.{append-nil, ◌≡◌, inl, inr, ℕ, suc, Bool, true, false, Option, Some, None, List, [], ◌∷◌, ◌++◌, refl, sym, ap, subst, ◌∙◌}
use Rattle.std.specs.Prelude.{map, slice_get, is_some, if◌then◌else◌}
use Rattle.gr_ids.specs.Names.{inc_eq, has_inc}
use Rattle.gr_ids.specs.declared.names.Inc.{Inc}
use Rattle.slot_values.specs.declared.value.Joiner.{Joiner}
use Rattle.slot_values.specs.declared.value.Value.{Value}
use Rattle.slot_values.specs.Log.{Group}
use Rattle.paxos_forms.specs.declared.message.Message.{Message}
use Rattle.node_rules.specs.declared.event.PaxosEvent.TheVariants.{Heard}
use Rattle.node_rules.specs.declared.taken.Taken.{Taken}
use Rattle.node_rules.specs.Lists.{In}
use Rattle.node_rules.specs.Node.{Node, Effect, also, joiner}
use Rattle.node_rules.specs.Step.{node_step}
use Rattle.node_rules.specs.World.{World, Event, Act, Took, Owns, Campaigns, Ticks, Proposes, Takes, made_by, all_made_by, does_all, put_node, took_by, acted, makes, act_on, acts, hears, start_sent, starts, happens, start, run_from, run}
use Rattle.order_laws.specs.Laws.{slots_by}
use Rattle.group_rules.specs.Events.{Setup}
use Rattle.group_rules.specs.Steps.{group_of}
use Rattle.group_runs.specs.Runs.{as_sent, IsNodeRun}
use Rattle.node_rules.proofs.Incs.{inc_same, inc_is}
use Rattle.group_runs.proofs.Pasts.{in_either}

run_more : (f : List Message → List Message) (g : Group) (es : List Event) (e : Event) (w : World) → run_from f g (es ++ e ∷ []) w ≡ happens f g (run_from f g es w) e
run_more f g [] e w = refl
run_more f g (x ∷ es) e w = run_more f g es e (happens f g w x)

pub one_more : (t : Setup) (v : World) (e : Event) → IsNodeRun t v → IsNodeRun t (happens as_sent (group_of t) v e)
unfolding run
one_more t v e r = (r.0 ++ e ∷ [], ap (λ w. happens as_sent (group_of t) w e) r.1 ∙ sym (run_more as_sent (group_of t) r.0 e (start (group_of t))))

pub no_event : (t : Setup) → IsNodeRun t (start (group_of t))
unfolding run
no_event t = ([], refl)

-- ---- an event of one incarnation that has not stopped

pub acted_on : (v : World) (i : Inc) (l : List Act) (f : Node → Effect) (n : Node) → v.at i ≡ Some n → v.ended ≡ [] → acts as_sent v i l f ≡ acted as_sent (makes v (all_made_by i l)) i (also (f n) (does_all i l))
acted_on v i l f n h e = ap (λ o. act_on as_sent v i l f o) h ∙ ap (λ is. if has_inc is i then v else acted as_sent (makes v (all_made_by i l)) i (also (f n) (does_all i l))) e

pub heard_on : (v : World) (k : ℕ) (m : Message) (l : List Act) (n : Node) → slice_get v.wire k ≡ Some m → v.at m.to ≡ Some n → v.ended ≡ [] → hears as_sent v l (slice_get v.wire k) ≡ acted as_sent (makes v (all_made_by m.to l)) m.to (also (node_step (Heard m) n) (does_all m.to l))
heard_on v k m l n w h e = ap (λ o. hears as_sent v l o) w ∙ acted_on v m.to l (node_step (Heard m)) n h e

-- a message on the wire has a number
pub index_of : {A : Type 0} (xs : List A) (x : A) → In x xs → (k : ℕ) × (slice_get xs k ≡ Some x)
index_of [] x h = absurd h
index_of (y ∷ xs) x (inl e) = (0, ap Some e)
index_of (y ∷ xs) x (inr h) = let r = index_of xs x h in (suc r.0, r.1)

-- ---- nodes put anew

pub put_here : (at : Inc → Option Node) (i : Inc) (n : Node) → put_node at i n i ≡ Some n
put_here at i n = ap (λ b. if b then Some n else at i) (inc_same i)

pub put_there : (at : Inc → Option Node) (i j : Inc) (n : Node) → inc_eq i j ≡ false → put_node at i n j ≡ at j
put_there at i j n h = ap (λ b. if b then Some n else at j) h

-- ---- what an incarnation makes is its own

made_own : (i : Inc) (x : Act) (v : Value) → In v (made_by i x) → v.id.origin ≡ i
made_own i (Owns u) v h = go (inc_eq u.id.origin i) refl h
  where
    go : (b : Bool) → inc_eq u.id.origin i ≡ b → In v (if b then u ∷ [] else []) → v.id.origin ≡ i
    go true e (inl q) = subst (λ z. z.id.origin ≡ i) q (inc_is u.id.origin i e)
    go true e (inr q) = absurd q
    go false e q = absurd q
made_own i Campaigns v h = absurd h
made_own i Ticks v h = absurd h
made_own i Proposes v h = absurd h
made_own i (Takes s) v h = absurd h

pub all_made_own : (i : Inc) (l : List Act) (v : Value) → In v (all_made_by i l) → v.id.origin ≡ i
all_made_own i [] v h = absurd h
all_made_own i (x ∷ l) v h = elim (in_either v (made_by i x) (all_made_by i l) h) [ inl z ↦ made_own i x v z | inr z ↦ all_made_own i l v z ]

-- ---- slots taken

slots_append : (i : Inc) (xs ys : List Took) → slots_by i (xs ++ ys) ≡ slots_by i xs ++ slots_by i ys
slots_append i [] ys = refl
slots_append i (x ∷ xs) ys = go (inc_eq x.by i) refl (slots_append i xs ys)
  where
    go : (u : Bool) → inc_eq x.by i ≡ u → slots_by i (xs ++ ys) ≡ slots_by i xs ++ slots_by i ys → slots_by i (x ∷ xs ++ ys) ≡ slots_by i (x ∷ xs) ++ slots_by i ys
    go true e r = rw e (ap (λ l. x.taken.slot ∷ l) r)
    go false e r = rw e r

slots_own : (i : Inc) (xs : List Taken) → slots_by i (took_by i xs) ≡ map (λ x. x.slot) xs
slots_own i [] = refl
slots_own i (x ∷ xs) = let e = inc_same i in rw e (ap (λ l. x.slot ∷ l) (slots_own i xs))

slots_other : (i j : Inc) (xs : List Taken) → inc_eq i j ≡ false → slots_by j (took_by i xs) ≡ []
slots_other i j [] e = refl
slots_other i j (x ∷ xs) e = rw e (slots_other i j xs e)

pub slots_of_one : (i : Inc) (ts : List Took) (xs : List Taken) → slots_by i (ts ++ took_by i xs) ≡ slots_by i ts ++ map (λ x. x.slot) xs
slots_of_one i ts xs = slots_append i ts (took_by i xs) ∙ ap (λ l. slots_by i ts ++ l) (slots_own i xs)

pub slots_of_other : (i j : Inc) (ts : List Took) (xs : List Taken) → inc_eq i j ≡ false → slots_by j (ts ++ took_by i xs) ≡ slots_by j ts
slots_of_other i j ts xs e = slots_append j ts (took_by i xs) ∙ (ap (λ l. slots_by j ts ++ l) (slots_other i j xs e) ∙ append-nil (slots_by j ts))

-- ---- a start

pub started_on : (g : Group) (v : World) (j : Joiner) (contact : Inc) → v.at j.inc ≡ None → starts g v j contact ≡ record v { at = put_node v.at j.inc (joiner g j.inc); wire = v.wire ++ start_sent j contact ∷ [] }
started_on g v j contact h = ap (λ o. if is_some o then v else record v { at = put_node v.at j.inc (joiner g j.inc); wire = v.wire ++ start_sent j contact ∷ [] }) h
