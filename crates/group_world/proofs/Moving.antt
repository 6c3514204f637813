-- A move of a play: what its world stands for afterwards, or how the wire's limits close it.
use Rattle.std.proofs.Common.{◌≡◌, inl, inr, true, false, Option, None, Some, List, [], ◌∷◌, ◌++◌, length, drop, refl, sym, ap, subst, ◌∙◌}
use Rattle.std.specs.Prelude.{map}
use Rattle.paxos_forms.specs.declared.message.Message.{Message}
use Rattle.paxos_forms.specs.Messages.{IsMessage}
use Rattle.node_rules.specs.Lists.{In}
use Rattle.group_rules.specs.Script.{Full, Letter, Play, is_full, letter, moved, moved_to, plays, said_of, total, with_letters}
use Rattle.group_rules.specs.World.{Move, World, move}
use Rattle.world_wire.specs.Faults.{IsCause}
use Rattle.world_wire.specs.declared.fault.WireFault.{WireFault}
use Rattle.world_wire.specs.declared.fault.WireFault.TheVariants.{Full as IsFull, Memory as IsMemory}
use Rattle.group_world.specs.Standing.{Along, Carries, Closes, Holds}
use Rattle.group_world.specs.declared.stage.Stage.{Stage}

-- ---- the wire

abbrev messages : List Letter → List Message
messages xs = map {A = Letter} (λ l. l.message) xs

drop_front : (xs : List Letter) (ms : List Message) → drop (length xs) (messages xs ++ ms) ≡ ms
drop_front [] ms = refl
drop_front (x ∷ xs) ms = drop_front xs ms

with_more : (xs : List Letter) (ms : List Message) → with_letters xs (messages xs ++ ms) ≡ xs ++ map letter ms
with_more xs ms = ap (λ l. xs ++ map letter l) (drop_front xs ms)

messages_more : (xs : List Letter) (ms : List Message) → messages (xs ++ map letter ms) ≡ messages xs ++ ms
messages_more [] ms = go ms
  where
    go : (l : List Message) → messages (map letter l) ≡ l
    go [] = refl
    go (m ∷ l) = ap (λ k. m ∷ k) (go l)
messages_more (x ∷ xs) ms = ap (λ l. x.message ∷ l) (messages_more xs ms)

in_either : (m : Message) (xs ys : List Message) → ((n : Message) → In n xs → IsMessage n) → ((n : Message) → In n ys → IsMessage n) → In m (xs ++ ys) → IsMessage m
in_either m [] ys p q h = q m h
in_either m (x ∷ xs) ys p q h = elim h [ inl e ↦ p m (inl e) | inr k ↦ in_either m xs ys (λ n i. p n (inr i)) q k ]

-- ---- a move

not_some : (f : Full) → Some f ≡ None → ⊥
not_some f e = absurd (cc e)

pub open_plays : (m : Move) (y : Play) → y.closed ≡ None → plays m y ≡ moved (move m y.world) y
unfolding plays
open_plays m y h = go y.closed h
  where
    go : (c : Option Full) → c ≡ None → ◌≡◌ {A = Play} (elim c [ Some f ↦ y | None ↦ moved (move m y.world) y ]) (moved (move m y.world) y)
    go (Some f) e = absurd (not_some f e)
    go None e = refl

-- a play that is closed stays as it is
pub closed_plays : (m : Move) (y : Play) (f : Full) → y.closed ≡ Some f → plays m y ≡ y
unfolding plays
closed_plays m y f h = go y.closed h
  where
    go : (c : Option Full) → c ≡ Some f → ◌≡◌ {A = Play} (elim c [ Some f ↦ y | None ↦ moved (move m y.world) y ]) y
    go (Some g) e = refl
    go None e = absurd (not_some f (sym e))

-- the move m leads to the world w, and these messages are sent
pub record Leads (y : Play) (m : Move) (w : World) (ms : List Message) : Type 0 where
  pub is_it : move m y.world ≡ w
  pub sent : w.sent ≡ y.world.sent ++ ms
  pub spellable : (n : Message) → In n ms → IsMessage n

abbrev moved_on : Play → World → List Message → Play
moved_on y w ms = record y { world = w; wire = y.wire ++ map letter ms; said = y.said ++ said_of w.left }

module _ (y : Play) (x : Stage) (a : Along y x) (m : Move) (w : World) (ms : List Message) (l : Leads y m w ms) where
  abbrev longer : List Letter
  longer = y.wire ++ map letter ms

  plays_is : plays m y ≡ moved_to w longer y
  plays_is = open_plays m y a.unclosed ∙ (ap (λ v. moved v y) l.is_it ∙ ap (λ xs. moved_to w xs y) (ap (λ s. with_letters y.wire s) (l.sent ∙ ap (λ s. s ++ ms) (sym a.carries.letters)) ∙ with_more y.wire ms))

  plays_open : is_full longer ≡ false → plays m y ≡ moved_on y w ms
  plays_open h = plays_is ∙ rw (h, moved_to) refl

  plays_full : is_full longer ≡ true → plays m y ≡ record y { closed = Some (record { messages = length longer; bytes = total longer }) }
  plays_full h = plays_is ∙ rw (h, moved_to) refl

  carried : is_full longer ≡ false → Carries w longer
  carried h = record {
    letters = messages_more y.wire ms ∙ (ap (λ s. s ++ ms) a.carries.letters ∙ sym l.sent);
    spellable = λ n k. in_either n y.world.sent ms a.carries.spellable l.spellable (subst (λ s. In n s) l.sent k);
    few = h;
  }

  -- it is done
  pub goes : (z : Stage) → z.said.items ≡ x.said.items ++ said_of w.left → z.block ≡ x.block → z.wire ≡ x.wire ++ map letter ms → is_full z.wire ≡ false → Holds w z → Along (plays m y) z
  goes z said block wire few holds =
      let same : z.wire ≡ longer = wire ∙ ap (λ xs. xs ++ map letter ms) a.wire in
      let room : is_full longer ≡ false = subst (λ xs. is_full xs ≡ false) same few in
      subst (λ p. Along p z) (sym (plays_open room)) (record {
        unclosed = a.unclosed;
        unrefused = a.unrefused;
        said = said ∙ ap (λ xs. xs ++ said_of w.left) a.said;
        block = block ∙ a.block;
        block_above = a.block_above;
        block_below = a.block_below;
        wire = same;
        carries = carried room;
        holds = holds;
      })

  -- it isn't
  pub closes : (e : WireFault) → IsCause (x.wire ++ map letter ms) e → Closes e (plays m y)
  closes IsMemory h = tt
  closes (IsFull n b) h =
      let same : x.wire ++ map letter ms ≡ longer = ap (λ xs. xs ++ map letter ms) a.wire in
      let full : is_full longer ≡ true = subst (λ xs. is_full xs ≡ true) same h.0 in
      let counts : n ≡ length longer = h.1 ∙ ap length same in
      let sums : b ≡ total longer = h.2 ∙ ap total same in
      ap (λ p. p.closed) (plays_full full) ∙ cc
