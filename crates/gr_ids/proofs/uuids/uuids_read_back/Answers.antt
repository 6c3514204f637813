use Rattle.std.proofs.Common.{sym, inl, refl}
use Rattle.uuid.proofs.RoundTrips.{parses_hyphenated_text}
use Rattle.uuid.specs.Text.{lower}
use Rattle.gr_ids.proofs.uuids.uuids_read_back.Goals as goal

pub returns : goal.returns
returns c = λ id is. sym (parses_hyphenated_text lower id (inl refl) is.0 is.1)
