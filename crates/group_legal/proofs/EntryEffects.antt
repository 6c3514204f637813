-- Entries as the rules give them: each has the effect that its list gives it, and the next place.
use Rattle.std.proofs.Common.{◌≡◌, ℕ, suc, ◌+◌, Bool, true, false, Option, Some, None, List, refl, ap, arith}
use Rattle.std.specs.Prelude.{if◌then◌else◌}
use Rattle.gr_ids.specs.declared.names.OpenParts.{OpenParts}
use Rattle.slot_values.specs.declared.value.Value.{Value}
use Rattle.slot_values.specs.declared.value.What.{What}
use Rattle.slot_values.specs.declared.value.What.TheVariants.{Noop, Add, Remove, Body as Says}
use Rattle.slot_values.specs.declared.kept.Kept.{Kept}
use Rattle.slot_values.specs.declared.kept.Kept.TheVariants.{At as KeptAt, Skipped as IsSkipped}
use Rattle.slot_values.specs.Log.{Reading, is_kept, has_effect, became}
use Rattle.txn_forms.specs.declared.body.Body.{Body}
use Rattle.txn_forms.specs.declared.body.Body.TheVariants.{Txn as Writes, Part as PartOf}
use Rattle.group_rules.specs.Events.{Life, Setup}
use Rattle.group_rules.specs.Names.{KeptItem}
use Rattle.group_rules.specs.Life.{view}
use Rattle.group_rules.specs.View.{effect_in}
use Rattle.group_rules.specs.Parts.{held, is_void_part}
use Rattle.group_rules.specs.Certifier.{certifier, blocker, verdict_by, next_gtid}
use Rattle.group_rules.specs.Taking.{effect_of}
use Rattle.group_lives.specs.Sound.{IsEffect}

-- ---- an entry by the rules has its effect

said_takes : (s : Setup) (l : Life) (h : Bool) (v : Value) (o : Option OpenParts) (x : List ℕ) (b : Option Body) → v.what ≡ Says x → IsEffect s (view s l) (Says x) b (effect_of s l h v o b)
said_takes s l h v o x None e = (h, ap (λ (w : What). effect_in (view s l) h w None) e)
said_takes s l h v o x (Some (Writes t)) e = go (blocker (certifier s l).items t)
  where
    go : (k : Option KeptItem) → IsEffect s (view s l) (Says x) (Some (Writes t)) (verdict_by (next_gtid s.limits (certifier s l) v.id.origin) k)
    go None = refl
    go (Some k) = tt
said_takes s l h v o x (Some (PartOf p)) e = (is_void_part o (Some (PartOf p)), refl)
said_takes s l h v o x (Some b) e = (h, ap (λ (w : What). effect_in (view s l) h w (Some b)) e)

pub entry_takes : (s : Setup) (l : Life) (h : Bool) (v : Value) (o : Option OpenParts) → IsEffect s (view s l) v.what (held o v.what) (effect_of s l h v o (held o v.what))
entry_takes s l h v o = go v.what refl
  where
    go : (w : What) → v.what ≡ w → IsEffect s (view s l) w (held o w) (effect_of s l h v o (held o w))
    go (Says x) e = said_takes s l h v o x (held o (Says x)) e
    go Noop e = (h, ap (λ (w : What). effect_in (view s l) h w None) e)
    go (Add j) e = (h, ap (λ (w : What). effect_in (view s l) h w None) e)
    go (Remove i) e = (h, ap (λ (w : What). effect_in (view s l) h w None) e)

-- a value that is kept is at the next place
pub next_place : (r : Reading) (v : Value) (p : ℕ) (b : Bool) → KeptAt p b ≡ became r v → p ≡ suc r.place
next_place r v p b e = go (is_kept r v) e
  where
    place_of : Kept → ℕ
    place_of (KeptAt n c) = n
    place_of IsSkipped = 0

    at : (n : ℕ) → p ≡ n + 1 → p ≡ suc n
    at n q = omega (arith, q)

    go : (k : Bool) → KeptAt p b ≡ (if k then KeptAt (r.place + 1) (has_effect r v.what) else IsSkipped) → p ≡ suc r.place
    go true q = at r.place cc
    go false q = absurd (cc q)
