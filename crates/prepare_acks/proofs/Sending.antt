-- The Prepared entries that a member sent, thing by thing.
use Rattle.std.proofs.Common.{◌≡◌, Bool, false, ◌||◌, Option, Some, None, [], ◌∷◌, refl, ap, ◌∙◌}
use Rattle.std.proofs.lemmas.Bool.{true≢false}
use Rattle.gr_ids.specs.declared.names.Gtid.{Gtid}
use Rattle.gr_ids.specs.Names.{gtid_eq}
use Rattle.gtid_sets.specs.Sets.{Gtids}
use Rattle.gtid_sets.proofs.LawLemmas.{all_with_gtid}
use Rattle.gtid_sets.proofs.PutLemmas.{canonical_with_gtid}
use Rattle.slot_values.specs.declared.value.Value.{Value}
use Rattle.txn_forms.specs.declared.body.Body.{Body}
use Rattle.txn_forms.specs.declared.body.Body.TheVariants.{Txn as Writes, Prepared, Sync, Executed, Online as Arrives, Mode as Switches, Primary as Appoints, Part as PartOf}
use Rattle.group_rules.specs.Events.{AskFails, AsksCommit, Answered, Begun, Called, Came, Changed, Committed, Did, Done, Ends, Enters, Founds, Gave, Is, Life, Made, Replied, Restores, Skips, Starts, Stored, Took}
use Rattle.prepare_acks.specs.Following.{IsGtid, SentOf, is_making, with_sent}

pub founds_sent : SentOf (Founds ∷ []) []
founds_sent = record { canonical = tt; each = λ g. refl }

pub starts_sent : (x : Stored) → SentOf (Starts x ∷ []) []
starts_sent x = record { canonical = tt; each = λ g. refl }

pub makes : (l : Life) (v : Value) (x : Option Body) (set : Gtids) → SentOf l set → ((g : Gtid) → x ≡ Some (Prepared g) → IsGtid g) → SentOf (Made v x ∷ l) (with_sent x set)
makes l v (Some (Prepared g)) set f h =
    let k = h g refl in
    record { canonical = canonical_with_gtid set g k.0 k.1 f.canonical; each = λ m. all_with_gtid set g m f.canonical k.0 k.1 ∙ ap (λ (b : Bool). gtid_eq g m || b) (f.each m) }
makes l v None set f h = record { canonical = f.canonical; each = f.each }
makes l v (Some (Writes t)) set f h = record { canonical = f.canonical; each = f.each }
makes l v (Some Sync) set f h = record { canonical = f.canonical; each = f.each }
makes l v (Some (Executed e)) set f h = record { canonical = f.canonical; each = f.each }
makes l v (Some (Arrives e)) set f h = record { canonical = f.canonical; each = f.each }
makes l v (Some (Switches m)) set f h = record { canonical = f.canonical; each = f.each }
makes l v (Some (Appoints i)) set f h = record { canonical = f.canonical; each = f.each }
makes l v (Some (PartOf p)) set f h = record { canonical = f.canonical; each = f.each }

pub passes_sent : (l : Life) (d : Did) (set : Gtids) → is_making d ≡ false → SentOf l set → SentOf (d ∷ l) set
passes_sent l Founds set h f = record { canonical = f.canonical; each = f.each }
passes_sent l (Starts x) set h f = record { canonical = f.canonical; each = f.each }
passes_sent l (Came x) set h f = record { canonical = f.canonical; each = f.each }
passes_sent l (Made v x) set h f = absurd (true≢false h)
passes_sent l (Took e) set h f = record { canonical = f.canonical; each = f.each }
passes_sent l (Skips t v) set h f = record { canonical = f.canonical; each = f.each }
passes_sent l (Done q) set h f = record { canonical = f.canonical; each = f.each }
passes_sent l (Committed g) set h f = record { canonical = f.canonical; each = f.each }
passes_sent l (Is u x) set h f = record { canonical = f.canonical; each = f.each }
passes_sent l (Gave q n) set h f = record { canonical = f.canonical; each = f.each }
passes_sent l (Answered u x) set h f = record { canonical = f.canonical; each = f.each }
passes_sent l (Begun u x y) set h f = record { canonical = f.canonical; each = f.each }
passes_sent l (Changed u x) set h f = record { canonical = f.canonical; each = f.each }
passes_sent l (Replied x) set h f = record { canonical = f.canonical; each = f.each }
passes_sent l (Called u v w) set h f = record { canonical = f.canonical; each = f.each }
passes_sent l (AsksCommit u i) set h f = record { canonical = f.canonical; each = f.each }
passes_sent l (Ends u) set h f = record { canonical = f.canonical; each = f.each }
passes_sent l (Enters w) set h f = record { canonical = f.canonical; each = f.each }
passes_sent l (Restores g cs) set h f = record { canonical = f.canonical; each = f.each }
passes_sent l AskFails set h f = record { canonical = f.canonical; each = f.each }
