-- The offer goes last.
use Rattle.std.proofs.Common.{◌≡◌, false, List, [], ◌∷◌, ◌++◌, sym, ap, ◌∙◌, arith}
use Rattle.std.specs.Prelude.{map, nat_le}
use Rattle.std.proofs.lemmas.Bool.Decides.{nat_tests}
use Rattle.slot_values.specs.declared.value.Value.{Value}
use Rattle.slot_values.specs.Log.{last_of}
use Rattle.node_rules.specs.Learner.{is_decided}
use Rattle.node_rules.specs.Leader.{Leader, has_id, is_proposed}
use Rattle.paxos_leader.specs.Parts.{promised_of, proposal_of, offer_of}
use Rattle.paxos_leader.proofs.Offers.{goes_last, takes}
use Rattle.paxos_leader.proofs.leader.Leader.offer.Goals as goal

pub returns-clause-ok : goal.returns-clause-ok
returns-clause-ok c =
    let with_offers = λ (os : List Value). let l : Leader = record { ballot = c.self.inside.ballot; promises = map promised_of c.self.inside.promises.items; proposals = map proposal_of c.self.inside.proposals.entries; offers = os } in l in
    let new : has_id (map offer_of c.self.inside.offers.entries) c.args.value.id ≡ false = sym c.has_offer.ensures ∙ c.if-has_offer.false in
    let apart : is_proposed (is_decided c.args.learner.now) (with_offers (map offer_of c.self.inside.offers.entries)) c.args.value.id ≡ false = sym c.is_proposed.ensures ∙ c.if-is_proposed.false in
    let above : nat_le c.args.value.id.number (last_of c.args.turns.now.turns.reading c.args.value.id.origin) ≡ false = rw (← c.last.ensures) (grind (arith, nat_tests)) in
    let put : map offer_of c.insert.new.self.entries ≡ map offer_of c.self.inside.offers.entries ++ c.args.value ∷ [] = ap (map offer_of) c.in_ok-insert.ensures.entries ∙ goes_last c.self.inside.offers.entries c.args.value.id c.args.value.what new in
    rw (← c.self.view_is) (ap with_offers put ∙ sym (takes (is_decided c.args.learner.now) (last_of c.args.turns.now.turns.reading) (with_offers (map offer_of c.self.inside.offers.entries)) c.args.value new apart above))
