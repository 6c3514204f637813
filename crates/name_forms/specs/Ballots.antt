-- Ballots as bytes: the round, at least 1, in four bytes, and the incarnation.
use Rattle.std.specs.Prelude.{ℕ, ◌≤◌, List, ◌++◌}
use Rattle.byte_forms.specs.Numbers.{number}
use Rattle.byte_forms.specs.Reads.{Reader, ◌>>=◌, pure}
use Rattle.byte_forms.specs.Fields.{number_in}
use Rattle.gr_ids.specs.declared.names.Ballot.{Ballot}
use Rattle.name_forms.specs.Incs.{IsInc, inc_bytes, next_inc}

-- 2 ^ 32 - 1
abbrev pub last_round : ℕ
last_round = 4294967295

pub record IsBallot (b : Ballot) : Type 0 where
  pub round_above : 1 ≤ b.round
  pub round_below : b.round ≤ last_round
  pub inc : IsInc b.inc

abbrev pub ballot_bytes : Ballot → List ℕ
ballot_bytes b = number 4 b.round ++ inc_bytes b.inc

unfoldable pub next_ballot : Reader Ballot
next_ballot = do
  round ← number_in 4 1 last_round
  inc ← next_inc
  pure (record { round = round; inc = inc })
