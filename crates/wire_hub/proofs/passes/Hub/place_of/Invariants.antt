use Rattle.std.proofs.Common.{◌≡◌, false, take}
use Rattle.gr_ids.specs.Names.{has_inc}
use Rattle.wire_hub.proofs.passes.Hub.place_of.Given as goal

abbrev pub invariant-loop-place : goal.invariant-loop-place
invariant-loop-place l = has_inc (take l.place l.member-items) l.to ≡ false
