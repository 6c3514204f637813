-- What an origin has sent of a large transaction: how many parts there are, how many of them are held, at least one and not all, and their
-- bytes, 65,523 of each. Such lists ascend strictly by origin.
use Rattle.std.specs.Prelude.{◌≡◌, ℕ, ◌*◌, ◌≤◌, ◌<◌, Option, Some, None, length}
pub use Rattle.gr_ids.specs.declared.names.Inc.{Inc}
pub use Rattle.gr_ids.specs.declared.names.OpenParts.{OpenParts}
use Rattle.name_forms.specs.Incs.{IsIncAfter}

-- the bytes of each part but the last one
abbrev pub part_size : ℕ
part_size = 65523

abbrev pub most_parts : ℕ
most_parts = 257

abbrev pub inc_of_parts : Option OpenParts → Option Inc
inc_of_parts None = None
inc_of_parts (Some b) = Some b.origin

pub record IsOpenAfter (before : Option OpenParts) (x : OpenParts) : Type 0 where
  pub origin : IsIncAfter (inc_of_parts before) x.origin
  pub held_above : 1 ≤ x.held
  pub held_below : x.held < x.count
  pub count_below : x.count ≤ most_parts
  pub bytes : length x.bytes ≡ part_size * x.held
