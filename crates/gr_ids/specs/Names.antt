-- Tests and orders of names: incarnations, ballots, identities, GTIDs.
use Rattle.std.specs.Prelude.{ℕ, Bool, false, ◌&&◌, Option, Some, None, List, nat_lt, ◌==◌, if◌then◌else◌}
use Rattle.std.specs.List.{list_any}
use Rattle.std.specs.Ordering.{nat_cmp, is_lt}
use Rattle.std.specs.Cmp.Lexicographic.{slice_cmp}
pub use Rattle.std.specs.Str.{bytes_eq}
pub use Rattle.gr_ids.specs.declared.names.Inc.{Inc}
pub use Rattle.gr_ids.specs.declared.names.Ballot.{Ballot}
pub use Rattle.gr_ids.specs.declared.names.ValueId.{ValueId}
pub use Rattle.gr_ids.specs.declared.names.Gtid.{Gtid}

-- the order of byte strings: the first byte that differs decides, and a beginning stands before what it begins
abbrev pub bytes_lt : List ℕ → List ℕ → Bool
bytes_lt xs ys = is_lt (slice_cmp nat_cmp xs ys)

-- ---- incarnations: by server, then start

abbrev pub inc_eq : Inc → Inc → Bool
inc_eq i j = (i.server == j.server) && (i.start == j.start)

abbrev pub inc_lt : Inc → Inc → Bool
inc_lt i j = if i.server == j.server then nat_lt i.start j.start else nat_lt i.server j.server

abbrev pub has_inc : List Inc → Inc → Bool
has_inc xs i = list_any (λ x. inc_eq x i) xs

abbrev pub is_inc : Option Inc → Inc → Bool
is_inc None i = false
is_inc (Some j) i = inc_eq j i

-- ---- ballots: by round, then incarnation

abbrev pub ballot_eq : Ballot → Ballot → Bool
ballot_eq a b = (a.round == b.round) && inc_eq a.inc b.inc

abbrev pub ballot_lt : Ballot → Ballot → Bool
ballot_lt a b = if a.round == b.round then inc_lt a.inc b.inc else nat_lt a.round b.round

-- the promise of a node that has promised nothing: below every ballot, whose rounds begin at 1
abbrev pub no_ballot : Ballot
no_ballot = record { round = 0; inc = record { server = 0; start = 0 } }

-- ---- identities of values

abbrev pub id_eq : ValueId → ValueId → Bool
id_eq x y = inc_eq x.origin y.origin && (x.number == y.number)

abbrev pub is_id : Option ValueId → ValueId → Bool
is_id None x = false
is_id (Some y) x = id_eq y x

-- ---- GTIDs: by source, then number

abbrev pub gtid_eq : Gtid → Gtid → Bool
gtid_eq a b = bytes_eq a.source b.source && (a.number == b.number)

abbrev pub gtid_lt : Gtid → Gtid → Bool
gtid_lt a b = if bytes_eq a.source b.source then nat_lt a.number b.number else bytes_lt a.source b.source
