-- A move that sends nothing.
use Rattle.std.proofs.Common.{◌≡◌, append-nil, ◌++◌, false, sym, subst, ◌∙◌, []}
use Rattle.group_rules.specs.Script.{Play, is_full, plays, said_of}
use Rattle.group_rules.specs.World.{Move, World, move}
use Rattle.group_world.specs.Standing.{Along, Holds}
use Rattle.group_world.specs.declared.stage.Stage.{Stage}
use Rattle.group_world.proofs.Moving.{goes}

pub still : (m : Move) (y : Play) (x z : Stage) (w : World) → Along y x → move m y.world ≡ w → w.sent ≡ y.world.sent → Holds w z
    → z.said.items ≡ x.said.items ++ said_of w.left → z.block ≡ x.block → z.wire ≡ x.wire → Along (plays m y) z
still m y x z w a e sent holds said block wire =
    goes y x a m w [] (record { is_it = e; sent = sent ∙ sym (append-nil y.world.sent); spellable = λ n h. absurd h }) z
    said block (wire ∙ sym (append-nil x.wire))
    (subst (λ l. is_full l ≡ false) (sym (wire ∙ a.wire)) a.carries.few) holds
