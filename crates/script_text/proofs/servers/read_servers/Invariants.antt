use Rattle.std.proofs.Common.{◌≡◌, ◌++◌, List, ℕ, length}
use Rattle.std.specs.Option.{option_map}
use Rattle.script_text.specs.Words.{words_of}
use Rattle.script_text.specs.Servers.{all_servers}
use Rattle.script_text.proofs.servers.read_servers.Given as goal

abbrev pub invariant-loop-word : goal.invariant-loop-word
invariant-loop-word l = option_map (λ (ns : List ℕ). l.servers.items ++ ns) (all_servers (words_of l.rest)) ≡ all_servers (words_of l.line)

abbrev pub decreases-loop-word : goal.decreases-loop-word
decreases-loop-word l = length (words_of l.rest)
