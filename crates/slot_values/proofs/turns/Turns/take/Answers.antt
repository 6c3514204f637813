use Rattle.std.proofs.Common.{◌≡◌, ◌++◌, ◌∷◌, [], length, arith, rules}
use Rattle.std.proofs.lemmas.List.{length-append}
use Rattle.slot_values.specs.Log.{incs}
use Rattle.slot_values.proofs.Effects.{latest_after}
use Rattle.slot_values.proofs.turns.Turns.take.Goals as goal

pub invariant_of-self-2 : goal.invariant_of-self-2
invariant_of-self-2 c =
    let latest = incs c.in_ok-members.members.items in
    let items : c.push_reserved.new.self.items ≡ c.self.inside.configs.items ++ latest ∷ [] = search rules in
    record {
      places = omega (arith, c.place_after-place.ensures.most, c.self.invariant.places);
      begins = omega arith;
      reaches = rw items (omega (arith, length-append c.self.inside.configs.items (latest ∷ []), c.self.invariant.reaches));
      latest = rw items (latest_after c.self.inside.configs.items latest);
    }
