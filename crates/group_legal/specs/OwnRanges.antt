-- A run in which what own values are made to hold is in the ranges of its form. (A member's requests are within them.)
use Rattle.std.specs.Prelude.{Some, ◌∷◌}
use Rattle.byte_forms.specs.Forms.{IsRead}
use Rattle.gr_ids.specs.declared.names.Inc.{Inc}
use Rattle.slot_values.specs.declared.value.Value.{Value}
use Rattle.txn_forms.specs.declared.body.Body.{Body}
use Rattle.txn_forms.specs.Bodies.{IsBody, IsHeld, body_bytes, next_body}
use Rattle.group_rules.specs.Events.{Made}
use Rattle.group_rules.specs.Legal.{IsPast}
use Rattle.group_rules.specs.World.{Past, Does}

-- its bytes are read as it
abbrev pub InRange : Body → Type 0
InRange b = IsBody b × IsHeld b

abbrev pub ReadBack : Type 0
ReadBack = IsRead InRange body_bytes next_body

abbrev pub MadeInRange : Past → Type 0
MadeInRange w = (q : Past) (j : Inc) (v : Value) (b : Body) → IsPast (Does j (Made v (Some b)) ∷ q) w → InRange b
