-- Outcomes computed from the definitions, for lists whose outcomes are known.
use Rattle.std.proofs.Common.{◌≡◌, ℕ, List, [], ◌∷◌, false, refl}
use Rattle.group_rules.specs.Events.{Setup}
use Rattle.group_laws.specs.Names.{Inc, Gtid, Item, Run, Gtids, Joiner, Multi}
use Rattle.group_laws.specs.Entries.{Write, Executed, Value, Outcome, Positive, Conflict, NoTxn, Placed}
use Rattle.group_laws.specs.Verdict.{scan, kept_outcome}

abbrev server : ℕ → Inc
server n = record { server = n; start = 1 }

abbrev joiner : ℕ → Joiner
joiner n = record { inc = server n; uuid = []; version = []; weight = 50 }

abbrev blocks_of : ℕ → Setup
blocks_of b = record { limits = record { group = 7 ∷ []; horizon = 10; expel = 5; majority = 0; block = b }; mode = Multi; founders = joiner 1 ∷ joiner 2 ∷ joiner 3 ∷ [] }

abbrev key : ℕ → Item
key n = record { table = 1 ∷ []; key = n ∷ [] }

abbrev number : ℕ → Run
number n = record { source = 7 ∷ []; first = n; last = n }

abbrev writes_at : ℕ → ℕ → Gtids → List Item → Value
writes_at s n has_it items = record { origin = server s; number = n; body = Write (record { after = false; snapshot = has_it; items = items; changes = [] }) }

abbrev outcomes : List Placed → List Outcome
outcomes [] = []
outcomes (e ∷ m) = e.outcome ∷ outcomes m

abbrev gtid : ℕ → Gtid
gtid n = record { source = 7 ∷ []; number = n }

-- servers 1, 2, 1 write the keys 1, 2, 3; server 3, which saw nothing, writes 2 and 3
abbrev list : ℕ → ℕ → List Value
list first second =
    writes_at 3 1 [] (key 2 ∷ key 3 ∷ []) ∷
    writes_at 1 2 (number first ∷ number second ∷ []) (key 3 ∷ []) ∷
    writes_at 2 1 (number first ∷ []) (key 2 ∷ []) ∷
    writes_at 1 1 [] (key 1 ∷ []) ∷ []

-- in blocks of 5 the numbers are 1, 6 and 2, and the conflict names the last place, not the last number
in_fives : outcomes (scan (blocks_of 5) (list 1 6)) ≡ Conflict (gtid 2) ∷ Positive 2 ∷ Positive 6 ∷ Positive 1 ∷ []
in_fives = refl

in_ones : outcomes (scan (blocks_of 1) (list 1 2)) ≡ Conflict (gtid 3) ∷ Positive 3 ∷ Positive 2 ∷ Positive 1 ∷ []
in_ones = refl

-- once all three have told 1 and 6 the items of these are forgotten: the same transaction, asked late with an old snapshot, is judged by what is left
abbrev told : List Value
told =
    record { origin = server 3; number = 1; body = Executed (number 1 ∷ number 6 ∷ []) } ∷
    record { origin = server 2; number = 2; body = Executed (number 1 ∷ number 6 ∷ []) } ∷
    record { origin = server 1; number = 2; body = Executed (number 1 ∷ number 6 ∷ []) } ∷
    writes_at 2 1 (number 1 ∷ []) (key 2 ∷ []) ∷
    writes_at 1 1 [] (key 1 ∷ []) ∷ []

-- it is not fresh, so the verdicts differ
forgotten : kept_outcome (blocks_of 5) (scan (blocks_of 5) told) (writes_at 3 2 [] (key 2 ∷ [])) ≡ Positive 11
forgotten = refl

scanned : outcomes (scan (blocks_of 5) (writes_at 3 2 [] (key 2 ∷ []) ∷ told)) ≡ Conflict (gtid 6) ∷ NoTxn ∷ NoTxn ∷ NoTxn ∷ Positive 6 ∷ Positive 1 ∷ []
scanned = refl
