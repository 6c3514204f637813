-- One entry more, and what a Give tells.
use Rattle.std.proofs.Common.{◌≡◌, ℕ, not, Option, Some, List, [], ◌∷◌, refl, sym, ap, ◌∙◌}
use Rattle.std.specs.Prelude.{filter}
use Rattle.gr_ids.specs.declared.names.Inc.{Inc}
use Rattle.gtid_sets.specs.Sets.{has}
use Rattle.key_items.specs.declared.item.KeptItem.{KeptItem}
use Rattle.txn_forms.specs.declared.body.Body.{Body}
use Rattle.txn_forms.specs.declared.body.Body.TheVariants.{Txn as Writes}
use Rattle.group_rules.specs.declared.marks.Effect.{Effect}
use Rattle.group_rules.specs.declared.marks.Effect.TheVariants.{Positive}
use Rattle.group_rules.specs.Events.{Life, Setup, Took}
use Rattle.group_rules.specs.Told.{stable}
use Rattle.group_rules.specs.Certifier.{Certifier, certified_by, certifier, forget, forget_stable, with_entry}
use Rattle.certifier.specs.Certifying.{Certifying, limits_of, verdict_on}
use Rattle.certifier.specs.Laws.{certifying}
use Rattle.certifier.proofs.NumberLists.{told_as_they_are}
use Rattle.certifier.proofs.certifiers_are_those_of_the_rules.Goals as goal

-- where no item is kept, there is nothing to forget
forgets : (s : Setup) (l : Life) (c : Certifier) (ks : List KeptItem) → c.items ≡ ks → forget (stable s l) c ≡ forget_stable s l c ks
forgets s l c [] e =
    let made : List KeptItem → Certifier = λ ks. record { blocks = c.blocks; last = c.last; items = ks } in
    ap (λ (ks : List KeptItem). made (filter (λ (k : KeptItem). not (has (stable s l) k.gtid)) ks)) e ∙ ap made (sym e)
forgets s l c (k ∷ ks) e = refl

pub returns-clause-begun : goal.returns-clause-begun
returns-clause-begun c s = refl

-- of the limits it reads the size of a block alone
same_limits : (s : Setup) (c : Certifying) (p : ℕ) (m : Inc) (f : Effect) (b : Option Body) (z : Certifier) → s.limits.block ≡ c.block → certified_by (limits_of c) p m f b z ≡ certified_by s.limits p m f b z
same_limits s c p m (Positive g) (Some (Writes t)) z e = rw e refl
same_limits s c p m f b z e = refl

pub returns-clause-taken : goal.returns-clause-taken
returns-clause-taken c s l e t h v =
    let was = certifying s l in
    let z = certifier s l in
    let m = e.value.id.origin in
    let with : Certifier → Certifying = λ z. record { group = s.limits.group; block = s.limits.block; certified = z } in
    let entry : certified_by (limits_of was) e.place m (verdict_on was m t) (Some (Writes t)) z ≡ with_entry s.limits e z =
    ap (λ f. certified_by (limits_of was) e.place m f (Some (Writes t)) z) (sym v)
    ∙ (ap (λ b. certified_by (limits_of was) e.place m e.effect b z) (sym h) ∙ same_limits s was e.place m e.effect e.holds z refl) in
    ap with (ap (forget (stable s (Took e ∷ l))) entry ∙ forgets s (Took e ∷ l) (with_entry s.limits e z) (with_entry s.limits e z).items refl)

pub returns-clause-passed : goal.returns-clause-passed
returns-clause-passed c s l e h =
    let with : Certifier → Certifying = λ z. record { group = s.limits.group; block = s.limits.block; certified = z } in
    ap with (ap (forget (stable s (Took e ∷ l))) (sym h) ∙ forgets s (Took e ∷ l) (with_entry s.limits e (certifier s l)) (with_entry s.limits e (certifier s l)).items refl)

pub returns-clause-restored : goal.returns-clause-restored
returns-clause-restored c s l g cs a = rw (told_as_they_are g.last a) refl
