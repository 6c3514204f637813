-- The sender is put among those who accepted the proposal.
use Rattle.std.proofs.Common.{◌≡◌, false, Some, List, Result, Ok, Err, OnErr, sym, ap, ◌∙◌}
use Rattle.std.specs.Prelude.{map}
use Rattle.gr_ids.specs.declared.names.Inc.{Inc}
use Rattle.gr_ids.specs.Names.{has_inc}
use Rattle.slot_values.specs.Log.{majority}
use Rattle.node_rules.specs.Known.{config_here}
use Rattle.node_rules.specs.Learner.{is_decided}
use Rattle.node_rules.specs.Leader.{Leader, Proposal, accepted_by}
use Rattle.paxos_leader.specs.Parts.{promised_of, proposal_of, offer_of, standing}
use Rattle.paxos_leader.specs.declared.leader.Proposed.{Proposed}
use Rattle.paxos_leader.proofs.Proposals.{decided_never, decided_stays, unproposed, unproposed_never, counts_one, decides_one, put_again, set_is, with_one, found, whole}
use Rattle.paxos_leader.proofs.leader.Leader.accepted.Goals as goal

on_err : {T E : Type 0} (r : Result T E) (Q : Type 0) → Q → OnErr r Q
on_err (Ok x) Q q = tt
on_err (Err e) Q q = q

pub returns-then-is_decided-clause-answer : goal.returns-then-is_decided-clause-answer
returns-then-is_decided-clause-answer c = sym (decided_never (is_decided c.args.learner.now) (Some (standing c.args.turns.now)) c.args.inc c.args.self.now.proposals c.args.slot (sym c.is_decided.ensures ∙ c.if-is_decided.true))

pub returns-then-is_decided-clause-ok : goal.returns-then-is_decided-clause-ok
returns-then-is_decided-clause-ok c = sym (decided_stays (is_decided c.args.learner.now) c.args.inc c.args.self.now c.args.self.now.proposals c.args.slot (sym c.is_decided.ensures ∙ c.if-is_decided.true))

pub returns-in_default-clause-answer : goal.returns-in_default-clause-answer
returns-in_default-clause-answer c = rw (← c.self.view_is) (sym (unproposed_never (is_decided c.args.learner.now) (Some (standing c.args.turns.now)) c.args.inc c.self.inside.proposals.entries c.args.slot c.in_default.ensures.value))

pub returns-in_default-clause-ok : goal.returns-in_default-clause-ok
returns-in_default-clause-ok c =
    let l = whole c.self.inside.ballot (map promised_of c.self.inside.promises.items) c.self.inside.proposals.entries (map offer_of c.self.inside.offers.entries) in
    rw (c.get_mut.follows.holds-at-none, ← c.self.view_is) (sym (unproposed (is_decided c.args.learner.now) c.args.inc l c.self.inside.proposals.entries c.args.slot c.in_default.ensures.value))

pub returns-in_err-put_inc-clause-err : goal.returns-in_err-put_inc-clause-err
returns-in_err-put_inc-clause-err c =
    let es = c.self.inside.proposals.entries in
    let v = c.in-Some.proposed.now in
    let w : Proposed = record { value = c.in-Some.proposed.now.value; accepted = c.put_inc.new.incs } in
    let there : found c.self.inside.proposals.entries c.args.slot ≡ Some c.in-Some.proposed.now = sym c.in-Some.ensures.value in
    let same : proposal_of (c.args.slot, w) ≡ proposal_of (c.args.slot, c.in-Some.proposed.now) = ap (λ (is : List Inc). let p : Proposal = record { slot = c.args.slot; value = c.in-Some.proposed.now.value; accepted = is } in p) c.in_err-put_inc.ensures.err in
    let stay : map proposal_of (c.get_mut.follows.lender w).entries ≡ map proposal_of c.self.inside.proposals.entries =
    ap (map proposal_of) (c.get_mut.follows.holds w).0 ∙ set_is es c.args.slot v w c.in-Some.ensures.ordered there ∙ ap (with_one es) same ∙ put_again es c.args.slot v c.in-Some.ensures.ordered there in
    on_err c.from_residual.result _ (rw (← c.self.view_is) (ap (λ (ps : List Proposal). let l : Leader = record { ballot = c.self.inside.ballot; promises = map promised_of c.self.inside.promises.items; proposals = ps; offers = map offer_of c.self.inside.offers.entries } in l) stay))

pub returns-clause-answer : goal.returns-clause-answer
returns-clause-answer c =
    let open_here : is_decided c.args.learner.now c.args.slot ≡ false = sym c.is_decided.ensures ∙ c.if-is_decided.false in
    rw (← c.self.view_is) (c.has_majority.ensures
    ∙ ap (λ (is : List Inc). majority (config_here (Some (standing c.args.turns.now)) c.args.slot) (has_inc is)) (c.deref.ensures.value ∙ c.in_ok-put_inc.ensures.ok)
    ∙ sym (decides_one (is_decided c.args.learner.now) (Some (standing c.args.turns.now)) c.self.inside.proposals.entries c.args.inc c.args.slot c.in-Some.proposed.now open_here c.in-Some.ensures.value))

pub returns-clause-ok : goal.returns-clause-ok
returns-clause-ok c =
    let es = c.self.inside.proposals.entries in
    let v = c.in-Some.proposed.now in
    let w : Proposed = record { value = c.in-Some.proposed.now.value; accepted = c.put_inc.new.incs } in
    let open_here : is_decided c.args.learner.now c.args.slot ≡ false = sym c.is_decided.ensures ∙ c.if-is_decided.false in
    let there : found c.self.inside.proposals.entries c.args.slot ≡ Some c.in-Some.proposed.now = sym c.in-Some.ensures.value in
    let same : proposal_of (c.args.slot, w) ≡ accepted_by (proposal_of (c.args.slot, c.in-Some.proposed.now)) c.args.inc = ap (λ (is : List Inc). let p : Proposal = record { slot = c.args.slot; value = c.in-Some.proposed.now.value; accepted = is } in p) c.in_ok-put_inc.ensures.ok in
    let put : map proposal_of (c.get_mut.follows.lender w).entries ≡ with_one c.self.inside.proposals.entries (accepted_by (proposal_of (c.args.slot, c.in-Some.proposed.now)) c.args.inc) =
    ap (map proposal_of) (c.get_mut.follows.holds w).0 ∙ set_is es c.args.slot v w c.in-Some.ensures.ordered there ∙ ap (with_one es) same in
    rw (← c.self.view_is) (ap (λ (ps : List Proposal). let l : Leader = record { ballot = c.self.inside.ballot; promises = map promised_of c.self.inside.promises.items; proposals = ps; offers = map offer_of c.self.inside.offers.entries } in l) put
    ∙ sym (counts_one c.self.inside.ballot (map promised_of c.self.inside.promises.items) es (map offer_of c.self.inside.offers.entries) (is_decided c.args.learner.now) c.args.inc c.args.slot v open_here c.in-Some.ensures.value))
