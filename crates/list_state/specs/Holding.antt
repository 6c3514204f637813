-- What a place holds, as its member needs it.
use Rattle.std.specs.Prelude.{◌≡◌, ℕ, not, Option, Some, None, List}
use Rattle.gr_ids.specs.declared.names.Inc.{Inc}
use Rattle.gr_ids.specs.declared.names.OpenParts.{OpenParts}
use Rattle.gtid_sets.specs.Canonical.{IsNumber}
use Rattle.gtid_sets.specs.declared.told.ToldSet.{ToldSet}
use Rattle.txn_forms.specs.Bodies.{body_bytes, read_body}
use Rattle.txn_forms.specs.Parts.{is_open}
use Rattle.txn_forms.specs.declared.body.Body.{Body}
use Rattle.txn_forms.specs.declared.body.Part.{Part}
use Rattle.txn_forms.specs.declared.body.Body.TheVariants as body
use Rattle.group_rules.specs.declared.marks.Effect.{Effect}
use Rattle.group_rules.specs.declared.marks.Effect.TheVariants.{Positive}
use Rattle.group_rules.specs.View.{void_if}
use Rattle.group_rules.specs.Events.{Entry}
use Rattle.group_rules.specs.Told.{with_told}
use Rattle.certifier.specs.Certifying.{Certifying, verdict_on, with_txn}
use Rattle.list_state.specs.declared.entered.Entered.{Entered}
use Rattle.list_state.specs.declared.held.Held.{Held}
use Rattle.list_state.specs.declared.held.Held.TheVariants.{Txn, Part as PartHeld, Other, Nothing}

-- a body that is no transaction and no part
abbrev pub IsNews : Body → Type 0
IsNews (body.Txn t) = ⊥
IsNews (body.Part p) = ⊥
IsNews b = Unit {0}

-- A transaction is held with its bytes, which are read as it; of a part it is known whether it is void, by the parts that were open before it.
abbrev pub Shows : Option OpenParts → Option Body → Held → Type 0
Shows o x (Txn t b) = (x ≡ Some (body.Txn t)) × (b ≡ body_bytes (body.Txn t)) × (read_body b ≡ Some (body.Txn t))
Shows o x (PartHeld void) = (p : Part) × (x ≡ Some (body.Part p)) × (void ≡ not (is_open o p))
Shows o x (Other b) = (x ≡ Some b) × IsNews b
Shows o x Nothing = x ≡ None

-- the number of a GTID that is given is one that a GTID may have
abbrev pub HasNumber : Effect → Type 0
HasNumber (Positive g) = IsNumber g.number
HasNumber e = Unit {0}

-- what is answered of an entry
pub record IsEntered (o : Option OpenParts) (e : Entry) (x : Entered) : Type 0 where
  pub place : x.place ≡ e.place
  pub effect : x.effect ≡ e.effect
  pub held : Shows o e.holds x.held

-- ---- what follows from what is held

-- the body, where it is no transaction and no part
abbrev pub news_of : Held → Option Body
news_of (Other b) = Some b
news_of h = None

-- `seen` is the effect by the view
abbrev pub effect_held : Certifying → Inc → Held → Effect → Effect
effect_held c m (Txn t b) seen = verdict_on c m t
effect_held c m (PartHeld void) seen = void_if void
effect_held c m h seen = seen

abbrev pub certified_held : ℕ → Inc → Held → Certifying → Certifying
certified_held p m (Txn t b) c = with_txn p m t c
certified_held p m h c = c

abbrev pub told_held : Inc → Held → List ToldSet → List ToldSet
told_held m (Other (body.Executed s)) ts = with_told ts (record { inc = m; set = s })
told_held m (Other (body.Online s)) ts = with_told ts (record { inc = m; set = s })
told_held m h ts = ts
