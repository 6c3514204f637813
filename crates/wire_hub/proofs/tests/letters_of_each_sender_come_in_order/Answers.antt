use Rattle.std.proofs.Common.{◌≡◌, List, ◌∷◌, [], ◌++◌, sym, subst}
use Rattle.std.specs.List.{All}
use Rattle.std.proofs.lemmas.List.Elements.{All-push}
use Rattle.wire_hub.specs.Passes.{IsSendPassOf, IsTakePassOf}
use Rattle.wire_hub.proofs.tests.letters_of_each_sender_come_in_order.Goals as goal

pushed : {A : Type 0} (P : A → Type 0) (xs ys : List A) (x : A) → ys ≡ xs ++ x ∷ [] → All P xs → P x → All P ys
pushed P xs ys x e h k = subst (All P) (sym e) (All-push P xs x h k)

pub close-requires-clause-sends : goal.close-requires-clause-sends
close-requires-clause-sends g c =
    let P = IsSendPassOf c.in_ok-hub.hub in
    pushed P _ _ _ c.in_ok-push-3.ensures.items (pushed P _ _ _ c.in_ok-push-2.ensures.items (pushed P _ _ _ c.in_ok-push.ensures.items c.last_sender-first.ensures.rest.0 c.tell.ensures.sender.0) c.exchange-first.ensures.senders.1) c.last_sender-third.ensures.last.0

pub close-requires-clause-takes : goal.close-requires-clause-takes
close-requires-clause-takes g c = pushed (IsTakePassOf c.in_ok-hub.hub) _ _ _ c.in_ok-push-4.ensures.items c.last_taker-take.ensures.rest c.take.ensures.same.0
