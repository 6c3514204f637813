-- Which limit of the messages is named.
use Rattle.std.proofs.Common.{◌≡◌, ◌<◌, ◌≤◌, ℕ, Bool, true, false, codes, sym, ap, arith, ltb}
use Rattle.std.proofs.lemmas.Bool.Decides.{nat_tests}
use Rattle.group_rules.specs.Texts.{Text, limit_text}

named : Bool → Text
named true = codes "limit wire 1048576"
named false = codes "limit bytes 1073741824"

pub messages_named : (m b : ℕ) → 1048576 < m → codes "limit wire 1048576" ≡ limit_text (record { messages = m; bytes = b })
unfolding named
messages_named m b h = let over : ltb 1048576 m ≡ true = grind (arith, nat_tests) in ap named (sym over)

pub bytes_named : (m b : ℕ) → m ≤ 1048576 → codes "limit bytes 1073741824" ≡ limit_text (record { messages = m; bytes = b })
unfolding named
bytes_named m b h = let within : ltb 1048576 m ≡ false = grind (arith, nat_tests) in ap named (sym within)
