-- How long spellings are.
use Rattle.std.proofs.Common.{◌≡◌, length-append}
use Rattle.byte_forms.proofs.NumberLemmas.{length-number}

pub ruleset lengths = (length-append, length-number)
