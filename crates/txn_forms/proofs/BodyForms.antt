-- The two sides of the form of a body.
use Rattle.std.proofs.Common.{◌≡◌, ℕ, zero, suc, ◌+◌, ◌-◌, ◌<◌, ◌≤◌, ◌^◌, Bool, true, false, List, [], ◌∷◌, ◌++◌, length, max, Option, Some, None, refl, sym, ap, ◌∙◌, arith}
use Rattle.std.specs.Prelude.{slice_index_or, ◌==◌, if◌then◌else◌}
use Rattle.std.specs.List.{AllByRecursion}
use Rattle.byte_forms.specs.Numbers.{number}
use Rattle.byte_forms.specs.Reads.{Read, Got, Fault, Reader, go_on, ◌>>=◌, pure}
use Rattle.byte_forms.specs.Fields.{number_in}
use Rattle.byte_forms.specs.Lists.{several, counted, list_of, bytes_in, IsChain}
use Rattle.byte_forms.specs.Forms.{IsRead, IsSpelled, IsForm}
use Rattle.byte_forms.proofs.FormLemmas.{IsListed, number_form, counted_form, list_read, list_spelled, form_read, form_spelled, step, spelled_step, ends, glue, read_on, read_last, reads_on, reads_last}
use Rattle.byte_forms.proofs.ListLemmas.{chain_all}
use Rattle.name_forms.specs.Incs.{inc_bytes, next_inc}
use Rattle.name_forms.specs.Gtids.{gtid_bytes}
use Rattle.name_forms.specs.OpenParts.{part_size, most_parts}
use Rattle.name_forms.proofs.NameLaws.{inc_form, gtid_form}
use Rattle.gtid_sets.specs.Canonical.{IsCanonical}
use Rattle.gtid_sets.specs.Spelling.{set_bytes, next_set, HasCounts}
use Rattle.gtid_sets.proofs.SourceLemmas.{set_form}
use Rattle.key_items.specs.declared.item.Item.{Item}
use Rattle.key_items.specs.declared.change.Change.{Change}
use Rattle.key_items.specs.Items.{ascend}
use Rattle.key_items.specs.Spelling.{IsItemAfter, AreBytes, item_bytes, next_item_after}
use Rattle.key_items.proofs.ItemLemmas.{chain_ascends}
use Rattle.key_items.proofs.ItemForms.{item_is_read, item_spelled}
use Rattle.txn_forms.specs.Changes.{IsChange, last_u32, change_bytes, next_change}
use Rattle.txn_forms.specs.Bodies.{Txn, Part, ModeChange, Multi, Single, Body, flag, txn_bytes, next_txn, mode_bytes, modes, next_mode, part_bytes, next_part, body_bytes, kinds, next_body, IsTxn, IsPart, IsModeChange, IsBody, IsHeldTxn, IsHeld}
use Rattle.txn_forms.specs.declared.body.Body.TheVariants as body
use Rattle.txn_forms.proofs.ChangeForms.{change_read, change_spelled}

-- ---- lists of elements that don't depend on the one before, or on more than the one before

chain_of_all : {A : Type 0} (P : A → Type 0) (before : Option A) (xs : List A) → AllByRecursion P xs → IsChain (λ b x. P x) before xs
chain_of_all P before [] h = tt
chain_of_all P before (x ∷ xs) h = (h.0, chain_of_all P (Some x) xs h.1)

chain_with_all : {A : Type 0} (IsNext : Option A → A → Type 0) (P : A → Type 0) (before : Option A) (xs : List A) → IsChain IsNext before xs → AllByRecursion P xs → IsChain (λ b x. IsNext b x × P x) before xs
chain_with_all IsNext P before [] c h = tt
chain_with_all IsNext P before (x ∷ xs) c h = ((c.0, h.0), chain_with_all IsNext P (Some x) xs c.1 h.1)

items_read : IsRead (IsListed 0 (λ before i. IsItemAfter before i × AreBytes i)) (several item_bytes) (list_of 0 next_item_after)
items_read = list_read 0 (λ before i. IsItemAfter before i × AreBytes i) item_bytes next_item_after item_is_read

items_spelled : IsSpelled (IsListed 0 IsItemAfter) (several item_bytes) (list_of 0 next_item_after)
items_spelled = list_spelled 0 IsItemAfter item_bytes next_item_after item_spelled

changes_read : (items : List Item) → length items ≤ 2 ^ 32 → IsRead (IsListed 1 (λ b c. IsChange items c)) (several (change_bytes items)) (list_of 1 (λ before. next_change items))
changes_read items few = list_read 1 (λ b c. IsChange items c) (change_bytes items) (λ before. next_change items) (λ before. change_read items few)

changes_spelled : (items : List Item) → length items ≤ 2 ^ 32 → ascend items ≡ true → IsSpelled (IsListed 1 (λ b c. IsChange items c)) (several (change_bytes items)) (list_of 1 (λ before. next_change items))
changes_spelled items few up = list_spelled 1 (λ b c. IsChange items c) (change_bytes items) (λ before. next_change items) (λ before. change_spelled items few up)

-- ---- transactions

flag_form : IsForm (λ n. (0 ≤ n) × (n ≤ 1) × (n < 256 ^ 1)) (number 1) (number_in 1 0 1)
flag_form = number_form 1 0 1 (omega arith)

flag_fits : (b : Bool) → (0 ≤ flag b) × (flag b ≤ 1) × (flag b < 256 ^ 1)
flag_fits true = (omega arith, omega arith, omega arith)
flag_fits false = (omega arith, omega arith, omega arith)

flag_back : (b : Bool) → (flag b == 1) ≡ b
flag_back true = refl
flag_back false = refl

back_flag : (n : ℕ) → n ≤ 1 → flag (n == 1) ≡ n
back_flag zero h = refl
back_flag (suc zero) h = refl
back_flag (suc (suc n)) h = absurd (omega (arith, h))

pub txn_read : IsRead (λ t. IsTxn t × IsHeldTxn t) txn_bytes next_txn
unfolding next_txn
txn_read = record {
  reads = λ t rest fits.
      (let few : length t.items < 2 ^ 32 = omega (arith, fits.0.few_items) in
      let items = chain_with_all IsItemAfter AreBytes None t.items fits.0.items fits.1.items in
      let changes = chain_of_all (IsChange t.items) None t.changes fits.0.changes in
      let there : Bool → Read Txn = λ (b : Bool). (let x : Txn = record { after = b; snapshot = t.snapshot; items = t.items; changes = t.changes } in Got x rest) in
      read_on (form_read flag_form) _ (flag t.after) (set_bytes t.snapshot ++ (several item_bytes t.items ++ several (change_bytes t.items) t.changes)) rest (flag_fits t.after)
      ∙ read_on (form_read set_form) _ t.snapshot (several item_bytes t.items ++ several (change_bytes t.items) t.changes) rest (fits.0.snapshot, fits.1.counts)
      ∙ read_on items_read _ t.items (several (change_bytes t.items) t.changes) rest (items, omega arith, few)
      ∙ read_last (changes_read t.items (omega (arith, few))) _ t.changes rest (changes, fits.0.some_changes, omega (arith, fits.0.few_changes))
      ∙ ap there (flag_back t.after));
}

pub txn_spelled : IsSpelled IsTxn txn_bytes next_txn
unfolding next_txn
txn_spelled = record {
  spells = λ bytes rest t e.
      (let a = step flag_form _ bytes rest t e in
      let b = step set_form _ a.behind rest t a.then_reads in
      let c = spelled_step items_spelled _ b.behind rest t b.then_reads in
      let d = spelled_step (changes_spelled c.first (omega (arith, c.fits.2)) (chain_ascends c.first c.fits.0)) _ c.behind rest t c.then_reads in
      let first : bytes ≡ number 1 (flag (a.first == 1)) ++ a.behind = a.parts ∙ ap (λ n. number 1 n ++ a.behind) (sym (back_flag a.first a.fits.1)) in
      let changes = chain_all (λ b c'. IsChange c.first c') (IsChange c.first) (λ b c' is. is) None d.first d.fits.0 in
      ends (λ y more. IsTxn y × (bytes ≡ txn_bytes y ++ more)) _ t d.behind rest d.then_reads
      (record { snapshot = b.fits.0; items = c.fits.0; few_items = omega (arith, c.fits.2); changes = changes; some_changes = d.fits.1; few_changes = omega (arith, d.fits.2) }, glue _ _ _ _ _ first (glue _ _ _ _ _ b.parts (glue _ _ _ _ _ c.parts d.parts))));
}

-- ---- changes of the mode

mode_byte : IsForm (λ k. (0 ≤ k) × (k ≤ 2) × (k < 256 ^ 1)) (number 1) (number_in 1 0 2)
mode_byte = number_form 1 0 2 (omega arith)

mode_reads : (m : ModeChange) (rest : List ℕ) → IsModeChange m → next_mode (mode_bytes m ++ rest) ≡ Got m rest
unfolding next_mode
mode_reads Multi rest fits = reads_last mode_byte _ 0 rest (omega arith, omega arith, omega arith)
mode_reads (Single None) rest fits = reads_last mode_byte _ 1 rest (omega arith, omega arith, omega arith)
mode_reads (Single (Some i)) rest fits = reads_on mode_byte _ 2 (inc_bytes i) rest (omega arith, omega arith, omega arith) ∙ reads_last inc_form (λ j. pure (Single (Some j))) i rest fits

mode_spells : (k : ℕ) (bytes rest : List ℕ) (m : ModeChange) → k ≤ 2 → slice_index_or modes k (pure Multi) bytes ≡ Got m rest → IsModeChange m × (number 1 k ++ bytes ≡ mode_bytes m ++ rest)
mode_spells zero bytes rest m high e = ends (λ y more. IsModeChange y × (number 1 0 ++ bytes ≡ mode_bytes y ++ more)) Multi m bytes rest e (tt, refl)
mode_spells (suc zero) bytes rest m high e = ends (λ y more. IsModeChange y × (number 1 1 ++ bytes ≡ mode_bytes y ++ more)) (Single None) m bytes rest e (tt, refl)
mode_spells (suc (suc zero)) bytes rest m high e =
    let a = step inc_form (λ i. pure (Single (Some i))) bytes rest m e in
    ends (λ y more. IsModeChange y × (number 1 2 ++ bytes ≡ mode_bytes y ++ more)) _ m a.behind rest a.then_reads (a.fits, glue _ _ _ _ _ refl a.parts)
mode_spells (suc (suc (suc k))) bytes rest m high e = absurd (omega (arith, high))

mode_form : IsForm IsModeChange mode_bytes next_mode
unfolding next_mode
mode_form = record {
  reads = λ m rest fits. mode_reads m rest fits;
  spells = λ bytes rest m e.
      (let a = step mode_byte _ bytes rest m e in
      let b = mode_spells a.first a.behind rest m a.fits.1 a.then_reads in
      (b.0, a.parts ∙ b.1));
}

-- ---- parts

abbrev least_size : ℕ → ℕ → ℕ
least_size i c = if i == c then 1 else part_size

pub part_form : IsForm IsPart part_bytes next_part
unfolding next_part
part_form = record {
  reads = λ p rest fits.
      (reads_on (number_form 4 1 most_parts (omega arith)) _ p.index (number 4 p.count ++ counted p.bytes) rest (fits.index_above, omega (arith, fits.index_below, fits.count_below), omega (arith, fits.index_below, fits.count_below))
      ∙ reads_on (number_form 4 (max 2 p.index) most_parts (omega arith)) _ p.count (counted p.bytes) rest (omega (arith, fits.index_below, fits.count_above), fits.count_below, omega (arith, fits.count_below))
      ∙ reads_last (counted_form (least_size p.index p.count) part_size) _ p.bytes rest (fits.bytes_above, fits.bytes_below, omega (arith, fits.bytes_below)));
  spells = λ bytes rest p e.
      (let a = step (number_form 4 1 most_parts (omega arith)) _ bytes rest p e in
      let b = step (number_form 4 (max 2 a.first) most_parts (omega arith)) _ a.behind rest p a.then_reads in
      let c = step (counted_form (least_size a.first b.first) part_size) _ b.behind rest p b.then_reads in
      ends (λ y more. IsPart y × (bytes ≡ part_bytes y ++ more)) _ p c.behind rest c.then_reads
      (record { index_above = a.fits.0; index_below = omega (arith, b.fits.0); count_above = omega (arith, b.fits.0); count_below = b.fits.1; bytes_above = c.fits.0; bytes_below = c.fits.1 }, glue _ _ _ _ _ a.parts (glue _ _ _ _ _ b.parts c.parts)));
}

-- ---- bodies

kind_byte : IsForm (λ k. (1 ≤ k) × (k ≤ 8) × (k < 256 ^ 1)) (number 1) (number_in 1 1 8)
kind_byte = number_form 1 1 8 (omega arith)

body_reads : (b : Body) (rest : List ℕ) → IsBody b → IsHeld b → next_body (body_bytes b ++ rest) ≡ Got b rest
unfolding next_body
body_reads (body.Txn t) rest fits held = reads_on kind_byte _ 1 (txn_bytes t) rest (omega arith, omega arith, omega arith) ∙ read_last txn_read (λ x. pure (body.Txn x)) t rest (fits, held)
body_reads (body.Prepared g) rest fits held = reads_on kind_byte _ 2 (gtid_bytes g) rest (omega arith, omega arith, omega arith) ∙ reads_last gtid_form (λ x. pure (body.Prepared x)) g rest fits
body_reads body.Sync rest fits held = reads_last kind_byte _ 3 rest (omega arith, omega arith, omega arith)
body_reads (body.Executed s) rest fits held = reads_on kind_byte _ 4 (set_bytes s) rest (omega arith, omega arith, omega arith) ∙ reads_last set_form (λ x. pure (body.Executed x)) s rest (fits, held)
body_reads (body.Online s) rest fits held = reads_on kind_byte _ 5 (set_bytes s) rest (omega arith, omega arith, omega arith) ∙ reads_last set_form (λ x. pure (body.Online x)) s rest (fits, held)
body_reads (body.Mode m) rest fits held = reads_on kind_byte _ 6 (mode_bytes m) rest (omega arith, omega arith, omega arith) ∙ reads_last mode_form (λ x. pure (body.Mode x)) m rest fits
body_reads (body.Primary i) rest fits held = reads_on kind_byte _ 7 (inc_bytes i) rest (omega arith, omega arith, omega arith) ∙ reads_last inc_form (λ x. pure (body.Primary x)) i rest fits
body_reads (body.Part p) rest fits held = reads_on kind_byte _ 8 (part_bytes p) rest (omega arith, omega arith, omega arith) ∙ reads_last part_form (λ x. pure (body.Part x)) p rest fits

pub body_read : IsRead (λ b. IsBody b × IsHeld b) body_bytes next_body
body_read = record { reads = λ b rest fits. body_reads b rest fits.0 fits.1 }

-- a body of the kind k that is spelled behind its byte
abbrev Spelled : ℕ → List ℕ → Body → List ℕ → Type 0
Spelled k bytes b more = IsBody b × (number 1 k ++ bytes ≡ body_bytes b ++ more)

kind_spells : (k : ℕ) (bytes rest : List ℕ) (b : Body) → 1 ≤ k → k ≤ 8 → slice_index_or kinds (k - 1) (pure body.Sync) bytes ≡ Got b rest → Spelled k bytes b rest
kind_spells zero bytes rest b low high e = absurd (omega (arith, low))
kind_spells (suc zero) bytes rest b low high e =
    let a = spelled_step txn_spelled (λ x. pure (body.Txn x)) bytes rest b e in
    ends (Spelled 1 bytes) _ b a.behind rest a.then_reads (a.fits, glue _ _ _ _ _ refl a.parts)
kind_spells (suc (suc zero)) bytes rest b low high e =
    let a = step gtid_form (λ x. pure (body.Prepared x)) bytes rest b e in
    ends (Spelled 2 bytes) _ b a.behind rest a.then_reads (a.fits, glue _ _ _ _ _ refl a.parts)
kind_spells (suc (suc (suc zero))) bytes rest b low high e =
    ends (Spelled 3 bytes) body.Sync b bytes rest e (tt, refl)
kind_spells (suc (suc (suc (suc zero)))) bytes rest b low high e =
    let a = step set_form (λ x. pure (body.Executed x)) bytes rest b e in
    ends (Spelled 4 bytes) _ b a.behind rest a.then_reads (a.fits.0, glue _ _ _ _ _ refl a.parts)
kind_spells (suc (suc (suc (suc (suc zero))))) bytes rest b low high e =
    let a = step set_form (λ x. pure (body.Online x)) bytes rest b e in
    ends (Spelled 5 bytes) _ b a.behind rest a.then_reads (a.fits.0, glue _ _ _ _ _ refl a.parts)
kind_spells (suc (suc (suc (suc (suc (suc zero)))))) bytes rest b low high e =
    let a = step mode_form (λ x. pure (body.Mode x)) bytes rest b e in
    ends (Spelled 6 bytes) _ b a.behind rest a.then_reads (a.fits, glue _ _ _ _ _ refl a.parts)
kind_spells (suc (suc (suc (suc (suc (suc (suc zero))))))) bytes rest b low high e =
    let a = step inc_form (λ x. pure (body.Primary x)) bytes rest b e in
    ends (Spelled 7 bytes) _ b a.behind rest a.then_reads (a.fits, glue _ _ _ _ _ refl a.parts)
kind_spells (suc (suc (suc (suc (suc (suc (suc (suc zero)))))))) bytes rest b low high e =
    let a = step part_form (λ x. pure (body.Part x)) bytes rest b e in
    ends (Spelled 8 bytes) _ b a.behind rest a.then_reads (a.fits, glue _ _ _ _ _ refl a.parts)
kind_spells (suc (suc (suc (suc (suc (suc (suc (suc (suc k))))))))) bytes rest b low high e = absurd (omega (arith, high))

pub body_spelled : IsSpelled IsBody body_bytes next_body
unfolding next_body
body_spelled = record {
  spells = λ bytes rest b e.
      (let a = step kind_byte _ bytes rest b e in
      let s = kind_spells a.first a.behind rest b a.fits.0 a.fits.1 a.then_reads in
      (s.0, a.parts ∙ s.1));
}
