-- What a joiner begins with, and what a member keeps for those that join.
use Rattle.std.specs.Prelude.{◌≤◌, ℕ, Some, None, List, [], ◌∷◌}
use Rattle.byte_forms.specs.Lists.{IsChain}
use Rattle.gr_ids.specs.declared.names.Inc.{Inc}
use Rattle.gr_ids.specs.declared.names.OpenParts.{OpenParts}
use Rattle.name_forms.specs.OpenParts.{IsOpenAfter}
use Rattle.paxos_forms.specs.Gives.{IsKeptAfter, IsLastAfter, IsToldAfter}
use Rattle.paxos_forms.specs.declared.welcome.Welcome.{Welcome}
use Rattle.txn_forms.specs.Parts.{parts_of}
use Rattle.group_rules.specs.View.{seated, online_incs}
use Rattle.group_rules.specs.Life.{view_told}
use Rattle.group_rules.specs.Told.{sets_of}
use Rattle.group_rules.specs.Certifier.{numbers_of}
use Rattle.certifier.specs.Certifying.{AreOfBlocks, restored_as}
use Rattle.donor_recovery.specs.declared.at_add.AtAdd.{AtAdd}
use Rattle.list_state.specs.Listing.{Listed}

-- a joiner is welcomed
abbrev pub welcomed : Welcome → Listed → Listed
welcomed w x = record x { taken = w.place; view = view_told w }

-- ---- what a donor gave

-- the ranges and orders of a Give's form, with no more blocks than places, and no number above those of the blocks
pub record FitsPlace (place block : ℕ) (a : AtAdd) : Type 0 where
  pub blocks : a.blocks ≤ place
  pub numbers : AreOfBlocks block a.blocks a.last
  pub last : IsChain IsLastAfter None a.last
  pub items : IsChain (IsKeptAfter a.place) None a.items
  pub told : IsChain IsToldAfter None a.told
  pub parts : IsChain IsOpenAfter None a.parts

-- what stood at the place of its Add is a joiner's own
abbrev pub restored : AtAdd → Listed → Listed
restored a x = record x { told = a.told; certifier = restored_as x.limits.group x.limits.block a.blocks a.last a.items; parts = a.parts }

-- ---- what is kept of an Add

abbrev pub parts_in : List OpenParts → List Inc → List OpenParts
parts_in ps [] = []
parts_in ps (i ∷ is) = elim (parts_of ps i) [ None ↦ parts_in ps is | Some p ↦ p ∷ parts_in ps is ]

-- what stands at the last place taken
abbrev pub add_here : Listed → AtAdd
add_here x = record {
  place = x.taken;
  blocks = x.certifier.certified.blocks;
  last = numbers_of x.certifier.certified.last (seated x.view.seats);
  items = x.certifier.certified.items;
  told = sets_of x.told (online_incs x.view);
  parts = parts_in x.parts (seated x.view.seats);
}
