-- Who runs, by the list of those who do.
use Rattle.std.proofs.Common.{◌≡◌, inl, inr, ℕ, ◌<◌, Bool, true, false, Option, Some, None, List, [], ◌∷◌, refl, sym, ap, subst, ◌∙◌, eq-eqb, arith}
use Rattle.std.specs.Prelude.{◌==◌, ◌||◌}
use Rattle.std.proofs.lemmas.Bool.{eqb-true}
use Rattle.std.proofs.lemmas.Bool.Decides.{nat_tests}
use Rattle.gr_ids.specs.Names.{has_inc, inc_eq}
use Rattle.gr_ids.specs.declared.names.Inc.{Inc}
use Rattle.node_rules.specs.Lists.{In}
use Rattle.group_rules.specs.Member.{Member}
use Rattle.group_rules.specs.World.{Server, World, is_member, running_of, runs, server_at}
use Rattle.play_runs.specs.Runs.{IsRun, RunsAt}
use Rattle.group_world.specs.Running.{incs, running_incs}
use Rattle.group_world.specs.Sites.{Rises, at_number}
use Rattle.report_text.specs.Reporting.{with_running, running}

-- a server of an ascending list stands at its number
pub at_own : (ss : List Server) (s : Server) → Rises ss → In s ss → at_number s.number ss ≡ Some s
at_own [] s r h = absurd h
at_own (x ∷ ss) s r (inl e) = let here : (x.number == s.number) ≡ true = eq-eqb x.number s.number (ap (λ y. y.number) e) in rw here (ap Some e)
at_own (x ∷ ss) s r (inr h) =
    let less : x.number < s.number = r.0 s h in
    let other : (x.number == s.number) ≡ false = grind (arith, nat_tests) in
    rw other (at_own ss s r.1 h)

-- each member is of its server
abbrev Owned : List Server → Type 0
Owned ss = (s : Server) (a : Member) → In s ss → s.running ≡ Some a → a.me.inc.server ≡ s.number

not_of : (i j : Inc) → (i.server == j.server) ≡ false → inc_eq i j ≡ false
not_of i j h = rw h refl

-- none of the others has the number
nobody : (i : Inc) (ss : List Server) → Owned ss → ((s : Server) → In s ss → (s.number == i.server) ≡ false) → has_inc (running_incs ss) i ≡ false
nobody i [] o n = refl
nobody i (s ∷ ss) o n = go s.running refl (nobody i ss (λ t a h e. o t a (inr h) e) (λ t h. n t (inr h)))
  where
    go : (m : Option Member) → s.running ≡ m → has_inc (running_incs ss) i ≡ false → has_inc (incs (with_running m (running ss))) i ≡ false
    go None e k = k
    go (Some a) e k =
        let other : (a.me.inc.server == i.server) ≡ false = subst (λ p. (p == i.server) ≡ false) (sym (o s a (inl refl) e)) (n s (inl refl)) in
        ap (λ b. b || has_inc (running_incs ss) i) (not_of a.me.inc i other) ∙ k

or_false : (b c : Bool) → c ≡ false → (b || c) ≡ b
or_false true c e = refl
or_false false c e = e

seen : (i : Inc) (ss : List Server) → Rises ss → Owned ss → is_member (running_of (at_number i.server ss)) i ≡ has_inc (running_incs ss) i
seen i [] r o = refl
seen i (s ∷ ss) r o = go (s.number == i.server) refl (seen i ss r.1 (λ t a h e. o t a (inr h) e))
  where
    rest : (s.number == i.server) ≡ true → has_inc (running_incs ss) i ≡ false
    rest q = nobody i ss (λ t a h e. o t a (inr h) e) (λ t h.
        let less : i.server < t.number = subst (λ n. n < t.number) (eqb-true s.number i.server q) (r.0 t h) in
        grind (arith, nat_tests))

    here : (m : Option Member) → has_inc (running_incs ss) i ≡ false → is_member m i ≡ has_inc (incs (with_running m (running ss))) i
    here None k = sym k
    here (Some a) k = sym (or_false (inc_eq a.me.inc i) (has_inc (running_incs ss) i) k)

    there : (s.number == i.server) ≡ false → (m : Option Member) → s.running ≡ m → has_inc (running_incs ss) i ≡ has_inc (incs (with_running m (running ss))) i
    there q None e = refl
    there q (Some a) e =
        let other : (a.me.inc.server == i.server) ≡ false = subst (λ p. (p == i.server) ≡ false) (sym (o s a (inl refl) e)) q in
        sym (ap (λ b. b || has_inc (running_incs ss) i) (not_of a.me.inc i other))

    go : (b : Bool) → (s.number == i.server) ≡ b → is_member (running_of (at_number i.server ss)) i ≡ has_inc (running_incs ss) i
        → is_member (running_of (at_number i.server (s ∷ ss))) i ≡ has_inc (running_incs (s ∷ ss)) i
    go true q k = rw q (here s.running (rest q))
    go false q k = rw q (k ∙ there q s.running refl)

abbrev pub AllRun : Type 0
AllRun = (w : World) (n : ℕ) (s : Server) (a : Member) → IsRun w → server_at w n ≡ Some s → s.running ≡ Some a → RunsAt w s a

-- in a run the list has exactly those that run
pub runs_seen : AllRun → (w : World) → IsRun w → Rises w.servers → (i : Inc) → runs w i ≡ has_inc (running_incs w.servers) i
runs_seen law w run r i = seen i w.servers r (λ s a h e. (law w s.number s a run (at_own w.servers s r h) e).server)
