use Rattle.std.proofs.Common.{◌≡◌, ◌<◌, ◌+◌, ◌++◌, ◌∷◌, [], List, length, take, sym, ap, subst, ◌∙◌, arith, append_assoc, length-append}
use Rattle.std.proofs.lemmas.List.{length-take-le, take_more}
use Rattle.group_rules.specs.Script.{Letter}
use Rattle.world_wire.specs.Lanes.{IsIndex}
use Rattle.world_wire.proofs.Numbered.{index_front}
use Rattle.world_wire.proofs.Results.{err_anyway}
use Rattle.world_wire.proofs.lanes.Lanes.put_all.Goals as goal

pub loop-at-preserved : goal.loop-at-preserved
loop-at-preserved c = λ xs s ix.
    let item : Letter = c.index-letters-at.result in
    let within : c.loop-at.at < length c.args.letters.now = omega (arith, c.loop-at-test.true) in
    let long : length (xs ++ take c.loop-at.at c.args.letters.now) ≡ c.args.first + c.loop-at.at = omega (arith, s, length-append xs (take c.loop-at.at c.args.letters.now), length-take-le c.loop-at.at c.args.letters.now (omega arith)) in
    let more : IsIndex c.put.new.self ((xs ++ take c.loop-at.at c.args.letters.now) ++ item ∷ []) = c.in_ok-put.ensures.ok (xs ++ take c.loop-at.at c.args.letters.now) long (c.loop-at.invariant xs s ix) in
    subst (IsIndex c.put.new.self)
    (append_assoc xs (take c.loop-at.at c.args.letters.now) (item ∷ [])
    ∙ ap (λ l. xs ++ l) (ap (λ y. take c.loop-at.at c.args.letters.now ++ y ∷ []) c.index-letters-at.is ∙ sym (take_more c.args.letters.now c.loop-at.at item within))) more

pub returns-in_err-put-clause-err : goal.returns-in_err-put-clause-err
returns-in_err-put-clause-err c = err_anyway c.from_residual.result (λ (xs : List Letter) (s : length xs ≡ c.args.first) (ix : IsIndex c.args.self.now xs).
    c.in_err-put.ensures.err xs (omega (arith, s)) (index_front c.loop-at.self xs (take c.loop-at.at c.args.letters.now) (c.loop-at.invariant xs s ix)))
