-- Slots are handed out by the taking alone; what Welcomes tell.
use Rattle.std.proofs.Common.{◌≡◌, [], ◌∷◌, ◌++◌, refl, sym, ap, ◌∙◌, subst}
use Rattle.std.specs.Prelude.{is_some, ◌&&◌, not}
use Rattle.std.proofs.lemmas.Bool.{false≢true, cond_both}
use Rattle.gr_ids.specs.Names.{inc_eq}
use Rattle.node_rules.specs.Node.{Node, Effect, quiet, also, first_ballot}
use Rattle.node_rules.specs.Proposing.{own_value, propose_all, campaign}
use Rattle.node_rules.specs.Step.{hear, node_step}
use Rattle.node_rules.specs.Taking.{forgets}
use Rattle.node_rules.specs.Ticks.{tick}
use Rattle.node_rules.specs.Welcoming.{is_in_order, is_for, welcomed, hear_welcome}
use Rattle.node_rules.specs.World.{World, Owns, Campaigns, Ticks, Proposes, Takes, run}
use Rattle.order_laws.specs.Laws.{InEveryRun, AddedIn, Named, WelcomesFollow, OnlyTakingTakes, HearingTakesNone}
use Rattle.order_laws.specs.Names.{Inc, Value, Wire, Prepare, Promise, Accept, Accepted, Learn, Offer, Greet, Ask, Give, Alive, Gone, Welcome, Own, Campaign, Tick, Propose}
use Rattle.order_laws.proofs.Agree.{Decided, log_chosen}
use Rattle.order_laws.proofs.Inv.{Greeted, WireOk, sound_of}
use Rattle.order_laws.proofs.Logs.{log_more}
use Rattle.order_laws.proofs.Runs.{Good, good}
use Rattle.order_laws.proofs.Keeps.{keeps_prepare, keeps_accept, keeps_learn, keeps_accepted, keeps_all, keeps_promise, keeps_own, keeps_offer, keeps_campaign, keeps_alive, keeps_tick, keeps_forgets}

-- ---- what hands out no slot

forgets_none : (e : Effect) → e.took ≡ [] → (also e forgets).took ≡ []
forgets_none e h = ap (λ x. x ++ (forgets e.node).took) h ∙ (keeps_forgets e.node).took

welcome_none : (x : Welcome) (n : Node) → (hear_welcome x n).took ≡ []
unfolding hear_welcome
welcome_none x n = cond_both (not (is_some n.turns) && (is_in_order x && is_for x n.me n.horizon)) (quiet (welcomed n x)) (quiet n) (λ (e : Effect). e.took ≡ []) (λ h. refl) (λ h. refl)

hear_none : (i : Inc) (x : Wire) (n : Node) → (hear i x n).took ≡ []
unfolding hear
hear_none i (Prepare b s) n = (keeps_prepare i b s n).took
hear_none i (Promise b s xs) n = (keeps_promise i b xs n).took
hear_none i (Accept b t v) n = (keeps_accept i b t v n).took
hear_none i (Accepted b t) n = (keeps_accepted i b t n).took
hear_none i (Learn t v) n = (keeps_learn t v n).took
hear_none i (Offer v) n = (keeps_offer v n).took
hear_none i (Greet x) n = welcome_none x n
hear_none i (Ask x) n = refl
hear_none i (Give x) n = refl
hear_none i (Alive k) n = (keeps_alive i k n).took
hear_none i Gone n = refl

pub hearing_takes_none : HearingTakesNone
unfolding node_step
hearing_takes_none m n = forgets_none (hear m.from m.wire n) (hear_none m.from m.wire n)

own_none : (v : Value) (n : Node) → (node_step (Own v) n).took ≡ []
unfolding node_step
own_none v n = forgets_none (own_value v n) (keeps_own v n).took

campaign_none : (n : Node) → (node_step Campaign n).took ≡ []
unfolding node_step
campaign_none n = forgets_none (campaign n) (keeps_campaign n).took

tick_none : (n : Node) → (node_step Tick n).took ≡ []
unfolding node_step
tick_none n = forgets_none (tick n) (keeps_tick n).took

propose_none : (n : Node) → (node_step Propose n).took ≡ []
unfolding node_step
propose_none n = forgets_none (propose_all n) (keeps_all n).took

pub only_taking : OnlyTakingTakes
only_taking i (Owns v) n h = cond_both (inc_eq v.id.origin i) (node_step (Own v) n) (quiet n) (λ (e : Effect). e.took ≡ []) (λ q. own_none v n) (λ q. refl)
only_taking i Campaigns n h = campaign_none n
only_taking i Ticks n h = tick_none n
only_taking i Proposes n h = propose_none n
only_taking i (Takes s) n h = absurd (false≢true (sym h))

-- ---- nodes and Welcomes

pub named : InEveryRun Named
named arrange ok g es far i n here = ((good arrange ok g es).nodes i n here).me

pub welcomes : InEveryRun WelcomesFollow
welcomes arrange ok g es far m x sent wire = (s.log, log_chosen g (first_ballot g) w.cast far (sound_of g w.at w.wire w.cast w.took inv) s.log s.log_decided, s.slot, s.reading.place, s.reading.members, added)
  where
    w : World
    w = run arrange g es

    inv : Good g (run arrange g es)
    inv = good arrange ok g es

    s : Greeted g (run arrange g es).cast m.to x
    s = subst (λ z. WireOk g (run arrange g es).at (run arrange g es).cast m.from m.to z) wire (inv.wire m sent)

    added : AddedIn g (run arrange g es).cast m.to x.slot
    added =
        let b = s.begun in
        let d = subst (λ z. Decided g (run arrange g es).cast z b.value) b.slot b.value_decided in
        (b.before, b.value, b.joiner, log_chosen g (first_ballot g) (run arrange g es).cast far (sound_of g (run arrange g es).at (run arrange g es).wire (run arrange g es).cast (run arrange g es).took inv) (b.before ++ b.value ∷ []) (log_more g (run arrange g es).cast b.before b.value b.before_decided d), b.slot, b.adds, b.names, b.kept, b.effect)
