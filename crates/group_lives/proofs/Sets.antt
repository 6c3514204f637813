-- The executed set of a history is that of its life.
use Rattle.std.proofs.Common.{◌≡◌, Bool, ◌||◌, List, [], ◌∷◌, ◌++◌, ℕ, refl, ◌∙◌, ap, sym}
use Rattle.gr_ids.specs.declared.names.Gtid.{Gtid}
use Rattle.gr_ids.specs.declared.levels.MemberState.{MemberState}
use Rattle.gr_ids.specs.declared.levels.MemberState.TheVariants.{Error}
use Rattle.gr_ids.specs.Names.{gtid_eq}
use Rattle.slot_values.specs.declared.value.Value.{Value}
use Rattle.std.specs.Prelude.{Option, Some}
use Rattle.txn_forms.specs.declared.body.Body.{Body}
use Rattle.txn_forms.specs.declared.body.Body.TheVariants.{Txn as Writes}
use Rattle.gtid_sets.specs.Sets.{has}
use Rattle.gtid_sets.specs.Canonical.{IsCanonical}
use Rattle.gtid_sets.proofs.LawLemmas.{all_with_gtid}
use Rattle.gtid_sets.proofs.PutLemmas.{canonical_with_gtid}
use Rattle.group_rules.specs.declared.answers.Answer.{Answer}
use Rattle.group_rules.specs.declared.answers.Answer.TheVariants.{Committed as CommittedAs}
use Rattle.group_rules.specs.declared.marks.Cause.{Cause}
use Rattle.group_rules.specs.Events.{Starts, Made, Committed, Is, Answered, Life}
use Rattle.group_rules.specs.Life.{executed}
use Rattle.group_laws.specs.Entries.{Placed}
use Rattle.group_laws.specs.Life as lives
use Rattle.group_lives.specs.Lives.{made_did, did_of, life_of}
use Rattle.group_lives.specs.Sound.{HasSets}

pub canonical : (l : Life) → HasSets l → IsCanonical (executed l)
canonical [] h = tt
canonical (Starts x ∷ l) h = h.0
canonical (Committed g ∷ l) h = canonical_with_gtid (executed l) g h.0.0 h.0.1 (canonical l h.1)
canonical (d ∷ l) h = canonical l h

skip_answer : (base : List Placed) (s : ℕ) (a : Answer) (l : Life) (m : lives.Life) (g : Gtid) → lives.executed (did_of base (Answered s a) l ++ m) g ≡ lives.executed m g
skip_answer base s (CommittedAs h) l m g = refl
skip_answer base s a l m g = refl

skip_state : (base : List Placed) (x : MemberState) (c : Cause) (l : Life) (m : lives.Life) (g : Gtid) → lives.executed (did_of base (Is x c) l ++ m) g ≡ lives.executed m g
skip_state base Error c l m g = refl
skip_state base x c l m g = refl

skip_made : (v : Value) (b : Option Body) (l : Life) (m : lives.Life) (g : Gtid) → lives.executed (made_did v b l ++ m) g ≡ lives.executed m g
skip_made v (Some (Writes t)) l m g = refl
skip_made v b l m g = refl

pub executed_agrees : (base : List Placed) (l : Life) (g : Gtid) → HasSets l → lives.executed (life_of base l) g ≡ has (executed l) g
executed_agrees base [] g h = refl
executed_agrees base (Starts x ∷ l) g h = refl
executed_agrees base (Committed c ∷ l) g h =
    ap (λ (p : Bool). gtid_eq c g || p) (executed_agrees base l g h.1) ∙ sym (all_with_gtid (executed l) c g (canonical l h.1) h.0.0 h.0.1)
executed_agrees base (Answered s a ∷ l) g h = skip_answer base s a l (life_of base l) g ∙ executed_agrees base l g h
executed_agrees base (Is x c ∷ l) g h = skip_state base x c l (life_of base l) g ∙ executed_agrees base l g h
executed_agrees base (Made v b ∷ l) g h = skip_made v b l (life_of base l) g ∙ executed_agrees base l g h
executed_agrees base (d ∷ l) g h = executed_agrees base l g h
