-- Output lines: each has the number of the script's line that says it.
use Rattle.std.specs.Prelude.{ℕ, List, ◌++◌, codes, flat_map}
use Rattle.group_rules.specs.Texts.{Text, decimal}

abbrev pub output_line : ℕ → Text → Text
output_line number text = decimal number ++ codes " " ++ text ++ codes "\n"

abbrev pub output_lines : ℕ → List Text → Text
output_lines number texts = flat_map (output_line number) texts
