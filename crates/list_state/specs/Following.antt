-- How what the list has made stands for a history.
use Rattle.std.specs.Prelude.{◌≡◌, Bool, true, false, None}
use Rattle.byte_forms.specs.Lists.{IsChain}
use Rattle.gr_ids.specs.declared.names.Inc.{Inc}
use Rattle.name_forms.specs.OpenParts.{IsOpenAfter}
use Rattle.txn_forms.specs.Parts.{parts_of}
use Rattle.group_rules.specs.Events.{Did, Founds, Enters, Took, Restores, Life, Setup}
use Rattle.group_rules.specs.Life.{taken, view}
use Rattle.group_rules.specs.Told.{told}
use Rattle.group_rules.specs.Parts.{open_parts}
use Rattle.certifier.specs.Laws.{certifying}
use Rattle.list_state.specs.Listing.{Listed}

-- it is what the rules of the group read from the history
pub record Follows (s : Setup) (l : Life) (x : Listed) : Type 0 where
  pub limits : x.limits ≡ s.limits
  pub taken : x.taken ≡ taken l
  pub view : x.view ≡ view s l
  pub told : x.told ≡ told l
  pub certifier : x.certifier ≡ certifying s l
  pub parts : (o : Inc) → parts_of x.parts o ≡ open_parts l o
  pub ascend : IsChain IsOpenAfter None x.parts

-- the founding, a Welcome, a Give and an entry change what the list has made
abbrev pub is_of_list : Did → Bool
is_of_list Founds = true
is_of_list (Enters w) = true
is_of_list (Restores g cs) = true
is_of_list (Took e) = true
is_of_list d = false
