-- What a step leaves changes nothing of what its server had.
use Rattle.std.proofs.Common.{◌≡◌, ◌-◌, [], ◌∷◌, ◌++◌, sym, ap, subst, refl, ◌∙◌, length, take}
use Rattle.group_rules.specs.Events.{Founds, Starts, Came, Made, Took, Skips, Done, Committed, Is, Gave, Answered, Begun, Changed, Replied, Called, AsksCommit, Ends, Enters, Restores, AskFails, Event, Life}
use Rattle.group_rules.specs.Life.{stored}
use Rattle.group_rules.specs.Member.{Member}
use Rattle.group_rules.specs.Steps.{step}
use Rattle.plain_steps.specs.Plain.{ArePlain}
use Rattle.plain_steps.proofs.Plainly.{Adds, steps}
use Rattle.plain_steps.proofs.Last.{take_more}

stored_more : (x l : Life) → ArePlain x → stored (x ++ l) ≡ stored l
stored_more [] past ok = refl
stored_more (Founds ∷ more) past ok = stored_more more past ok.1
stored_more (Starts y ∷ more) past ok = absurd ok.0
stored_more (Came e ∷ more) past ok = stored_more more past ok.1
stored_more (Made v h ∷ more) past ok = stored_more more past ok.1
stored_more (Took e ∷ more) past ok = stored_more more past ok.1
stored_more (Skips t v ∷ more) past ok = stored_more more past ok.1
stored_more (Done p ∷ more) past ok = stored_more more past ok.1
stored_more (Committed g ∷ more) past ok = stored_more more past ok.1
stored_more (Is s c ∷ more) past ok = stored_more more past ok.1
stored_more (Gave p n ∷ more) past ok = stored_more more past ok.1
stored_more (Answered s a ∷ more) past ok = stored_more more past ok.1
stored_more (Begun s e p ∷ more) past ok = stored_more more past ok.1
stored_more (Changed s c ∷ more) past ok = stored_more more past ok.1
stored_more (Replied r ∷ more) past ok = stored_more more past ok.1
stored_more (Called s v n ∷ more) past ok = stored_more more past ok.1
stored_more (AsksCommit s i ∷ more) past ok = stored_more more past ok.1
stored_more (Ends s ∷ more) past ok = stored_more more past ok.1
stored_more (Enters w ∷ more) past ok = stored_more more past ok.1
stored_more (Restores g cs ∷ more) past ok = stored_more more past ok.1
stored_more (AskFails ∷ more) past ok = stored_more more past ok.1

pub stored_stays : (e : Event) (a : Member) → stored (step e a).life ≡ stored a.life
stored_stays e a = let s : Adds a (step e a) = steps e a in ap stored s.is_it ∙ stored_more s.more a.life s.plain

pub left_plain : (e : Event) (a : Member) → ArePlain (take (length (step e a).life - length a.life) (step e a).life)
left_plain e a =
    let s : Adds a (step e a) = steps e a in
    subst ArePlain (sym (ap (λ l. take (length l - length a.life) l) s.is_it ∙ take_more s.more a.life)) s.plain
