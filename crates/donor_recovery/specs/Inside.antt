-- How the data of the Adds stand in a map by place.
use Rattle.std.specs.Prelude.{ℕ}
use Rattle.donor_recovery.specs.declared.at_add.AtAdd.{AtAdd}

-- the key stands for the place
abbrev pub add_in : ℕ × AtAdd → AtAdd
add_in e = record e.1 { place = e.0 }
