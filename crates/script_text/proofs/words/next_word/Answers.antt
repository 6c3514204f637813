use Rattle.std.proofs.Common.{arith}
use Rattle.std.proofs.lemmas.Bool.Decides.{nat_tests}
use Rattle.script_text.proofs.Splitting.{word_found}
use Rattle.script_text.proofs.words.next_word.Goals as goal

pub returns-then-end-gt0 : goal.returns-then-end-gt0
returns-then-end-gt0 c =
    word_found c.loop-rest.rest.now c.args.line.now c.behind-rest.result.now c.find_byte-end.result c.loop-rest.invariant c.find_byte-end.ensures
    (grind (arith, nat_tests)) (omega arith) c.behind-rest.ensures
