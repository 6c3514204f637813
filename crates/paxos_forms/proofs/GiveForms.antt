-- The two sides of the forms of Asks and Gives.
use Rattle.std.proofs.Common.{◌≡◌, ℕ, suc, ◌+◌, ◌-◌, ◌*◌, ◌<◌, ◌≤◌, ◌^◌, List, [], ◌∷◌, ◌++◌, length, Option, Some, None, refl, sym, ap, subst, ◌∙◌, arith}
use Rattle.std.specs.List.{AllByRecursion}
use Rattle.byte_forms.specs.Numbers.{number}
use Rattle.byte_forms.specs.Reads.{Got, Reader, ◌>>=◌, pure}
use Rattle.byte_forms.specs.Fields.{number_in}
use Rattle.byte_forms.specs.Lists.{several, counted, list_of, bytes_in, IsChain}
use Rattle.byte_forms.specs.Forms.{IsRead, IsSpelled, IsForm}
use Rattle.byte_forms.proofs.FormLemmas.{IsListed, number_form, counted_form, list_read, list_spelled, list_form, form_read, form_spelled, step, spelled_step, ends, glue, read_on, read_last, reads_on, reads_last}
use Rattle.gr_ids.specs.declared.names.LastNumber.{LastNumber}
use Rattle.name_forms.specs.Incs.{inc_bytes}
use Rattle.name_forms.specs.Gtids.{gtid_bytes}
use Rattle.name_forms.specs.Ids.{last_u64}
use Rattle.name_forms.specs.OpenParts.{OpenParts, IsOpenAfter, inc_of_parts, part_size, most_parts}
use Rattle.name_forms.proofs.NameLaws.{inc_form, inc_after_form, gtid_form}
use Rattle.gtid_sets.specs.declared.told.ToldSet.{ToldSet}
use Rattle.gtid_sets.specs.Canonical.{IsCanonical}
use Rattle.gtid_sets.specs.Spelling.{set_bytes, next_set, HasCounts}
use Rattle.gtid_sets.proofs.SourceLemmas.{set_form}
use Rattle.key_items.specs.declared.item.KeptItem.{KeptItem}
use Rattle.key_items.specs.Spelling.{AreBytes, item_bytes}
use Rattle.key_items.proofs.ItemForms.{item_is_read, item_spelled}
use Rattle.slot_values.specs.Slots.{last_slot}
use Rattle.slot_values.specs.Spelling.{last_u32}
use Rattle.paxos_forms.specs.Gives.{Ask, Give, Given, IsAsk, ask_bytes, next_ask, IsLastAfter, last_bytes, inc_of_last, next_last_after, IsKeptAfter, kept_bytes, item_of_kept, next_kept_after, IsToldAfter, told_bytes, inc_of_told, next_told_after, IsGivenAfter, given_bytes, place_above, next_given_after, parts_bytes, next_parts_after, IsGive, give_bytes, next_give, IsHeldGive}

place_form : IsForm (λ n. (1 ≤ n) × (n ≤ last_slot) × (n < 256 ^ 8)) (number 8) (number_in 8 1 last_slot)
place_form = number_form 8 1 last_slot (omega arith)

-- ---- an Ask

pub ask_read : IsRead (λ a. IsAsk a × HasCounts a.executed) ask_bytes next_ask
unfolding next_ask
ask_read = record {
  reads = λ a rest fits.
      (reads_on place_form _ a.place (set_bytes a.executed) rest (fits.0.place_above, fits.0.place_below, omega (arith, fits.0.place_below))
      ∙ reads_last set_form _ a.executed rest (fits.0.executed, fits.1));
}

pub ask_spelled : IsSpelled IsAsk ask_bytes next_ask
unfolding next_ask
ask_spelled = record {
  spells = λ bytes rest x e.
      (let a = step place_form _ bytes rest x e in
      let b = step set_form _ a.behind rest x a.then_reads in
      ends (λ y more. IsAsk y × (bytes ≡ ask_bytes y ++ more)) _ x b.behind rest b.then_reads
      (record { place_above = a.fits.0; place_below = a.fits.1; executed = b.fits.0 }, glue _ _ _ _ _ a.parts b.parts));
}

-- ---- the elements of the lists

last_form : (before : Option LastNumber) → IsForm (IsLastAfter before) last_bytes (next_last_after before)
unfolding next_last_after
last_form before = record {
  reads = λ x rest fits.
      (reads_on (inc_after_form (inc_of_last before)) _ x.inc (number 8 x.number) rest fits.inc
      ∙ reads_last (number_form 8 0 last_u64 (omega arith)) _ x.number rest (omega arith, fits.small, omega (arith, fits.small)));
  spells = λ bytes rest x e.
      (let a = step (inc_after_form (inc_of_last before)) _ bytes rest x e in
      let b = step (number_form 8 0 last_u64 (omega arith)) _ a.behind rest x a.then_reads in
      ends (λ y more. IsLastAfter before y × (bytes ≡ last_bytes y ++ more)) _ x b.behind rest b.then_reads
      (record { inc = a.fits; small = b.fits.1 }, glue _ _ _ _ _ a.parts b.parts));
}

kept_read : (place : ℕ) → place ≤ last_slot → (before : Option KeptItem) → IsRead (λ x. IsKeptAfter place before x × AreBytes x.item) kept_bytes (next_kept_after place before)
unfolding next_kept_after
kept_read place few before = record {
  reads = λ x rest fits.
      (read_on (item_is_read (item_of_kept before)) _ x.item (gtid_bytes x.gtid ++ number 8 x.place) rest (fits.0.item, fits.1)
      ∙ reads_on gtid_form _ x.gtid (number 8 x.place) rest fits.0.gtid
      ∙ reads_last (number_form 8 1 place (omega arith)) _ x.place rest (fits.0.place_above, fits.0.place_below, omega (arith, fits.0.place_below, few)));
}

kept_spelled : (place : ℕ) (before : Option KeptItem) → IsSpelled (IsKeptAfter place before) kept_bytes (next_kept_after place before)
unfolding next_kept_after
kept_spelled place before = record {
  spells = λ bytes rest x e.
      (let a = spelled_step (item_spelled (item_of_kept before)) _ bytes rest x e in
      let b = step gtid_form _ a.behind rest x a.then_reads in
      let c = step (number_form 8 1 place (omega arith)) _ b.behind rest x b.then_reads in
      ends (λ y more. IsKeptAfter place before y × (bytes ≡ kept_bytes y ++ more)) _ x c.behind rest c.then_reads
      (record { item = a.fits; gtid = b.fits; place_above = c.fits.0; place_below = c.fits.1 }, glue _ _ _ _ _ a.parts (glue _ _ _ _ _ b.parts c.parts)));
}

told_read : (before : Option ToldSet) → IsRead (λ x. IsToldAfter before x × HasCounts x.set) told_bytes (next_told_after before)
unfolding next_told_after
told_read before = record {
  reads = λ x rest fits.
      (reads_on (inc_after_form (inc_of_told before)) _ x.inc (set_bytes x.set) rest fits.0.inc
      ∙ reads_last set_form _ x.set rest (fits.0.set, fits.1));
}

told_spelled : (before : Option ToldSet) → IsSpelled (IsToldAfter before) told_bytes (next_told_after before)
unfolding next_told_after
told_spelled before = record {
  spells = λ bytes rest x e.
      (let a = step (inc_after_form (inc_of_told before)) _ bytes rest x e in
      let b = step set_form _ a.behind rest x a.then_reads in
      ends (λ y more. IsToldAfter before y × (bytes ≡ told_bytes y ++ more)) _ x b.behind rest b.then_reads
      (record { inc = a.fits; set = b.fits.0 }, glue _ _ _ _ _ a.parts b.parts));
}

bodies_form : IsForm (λ bytes. (0 ≤ length bytes) × (length bytes ≤ last_u32) × (length bytes < 2 ^ 32)) counted (bytes_in 0 last_u32)
bodies_form = counted_form 0 last_u32

given_read : (place : ℕ) → place ≤ last_slot → (before : Option Given) → IsRead (IsGivenAfter place before) given_bytes (next_given_after place before)
unfolding next_given_after
given_read place few before = record {
  reads = λ x rest fits.
      (reads_on (number_form 8 (place_above before) place (omega arith)) _ x.place (inc_bytes x.origin ++ (gtid_bytes x.gtid ++ counted x.body)) rest (fits.above, fits.below, omega (arith, fits.below, few))
      ∙ reads_on inc_form _ x.origin (gtid_bytes x.gtid ++ counted x.body) rest fits.origin
      ∙ reads_on gtid_form _ x.gtid (counted x.body) rest fits.gtid
      ∙ reads_last bodies_form _ x.body rest (omega arith, fits.body, omega (arith, fits.body)));
}

given_spelled : (place : ℕ) (before : Option Given) → IsSpelled (IsGivenAfter place before) given_bytes (next_given_after place before)
unfolding next_given_after
given_spelled place before = record {
  spells = λ bytes rest x e.
      (let a = step (number_form 8 (place_above before) place (omega arith)) _ bytes rest x e in
      let b = step inc_form _ a.behind rest x a.then_reads in
      let c = step gtid_form _ b.behind rest x b.then_reads in
      let d = step bodies_form _ c.behind rest x c.then_reads in
      ends (λ y more. IsGivenAfter place before y × (bytes ≡ given_bytes y ++ more)) _ x d.behind rest d.then_reads
      (record { above = a.fits.0; below = a.fits.1; origin = b.fits; gtid = c.fits; body = d.fits.1 }, glue _ _ _ _ _ a.parts (glue _ _ _ _ _ b.parts (glue _ _ _ _ _ c.parts d.parts))));
}

parts_form : (before : Option OpenParts) → IsForm (IsOpenAfter before) parts_bytes (next_parts_after before)
unfolding next_parts_after
parts_form before = record {
  reads = λ x rest fits.
      (let above : 2 ≤ x.count = omega (arith, fits.held_above, fits.held_below) in
      reads_on (inc_after_form (inc_of_parts before)) _ x.origin (number 4 x.count ++ (number 4 x.held ++ counted x.bytes)) rest fits.origin
      ∙ reads_on (number_form 4 2 most_parts (omega arith)) _ x.count (number 4 x.held ++ counted x.bytes) rest (above, fits.count_below, omega (arith, fits.count_below))
      ∙ reads_on (number_form 4 1 (x.count - 1) (omega arith)) _ x.held (counted x.bytes) rest (fits.held_above, omega (arith, fits.held_below), omega (arith, fits.held_below, fits.count_below))
      ∙ reads_last (counted_form (part_size * x.held) (part_size * x.held)) _ x.bytes rest (omega (arith, fits.bytes), omega (arith, fits.bytes), omega (arith, fits.bytes, fits.held_below, fits.count_below)));
  spells = λ bytes rest x e.
      (let a = step (inc_after_form (inc_of_parts before)) _ bytes rest x e in
      let b = step (number_form 4 2 most_parts (omega arith)) _ a.behind rest x a.then_reads in
      let c = step (number_form 4 1 (b.first - 1) (omega arith)) _ b.behind rest x b.then_reads in
      let d = step (counted_form (part_size * c.first) (part_size * c.first)) _ c.behind rest x c.then_reads in
      ends (λ y more. IsOpenAfter before y × (bytes ≡ parts_bytes y ++ more)) _ x d.behind rest d.then_reads
      (record { origin = a.fits; held_above = c.fits.0; held_below = omega (arith, c.fits.0, c.fits.1); count_below = b.fits.1; bytes = omega (arith, d.fits.0, d.fits.1) }, glue _ _ _ _ _ a.parts (glue _ _ _ _ _ b.parts (glue _ _ _ _ _ c.parts d.parts))));
}

-- ---- the lists

pub chain_with_all : {A : Type 0} (IsNext : Option A → A → Type 0) (P : A → Type 0) (before : Option A) (xs : List A) → IsChain IsNext before xs → AllByRecursion P xs → IsChain (λ b x. IsNext b x × P x) before xs
chain_with_all IsNext P before [] c h = tt
chain_with_all IsNext P before (x ∷ xs) c h = ((c.0, h.0), chain_with_all IsNext P (Some x) xs c.1 h.1)

lasts_form : IsForm (IsListed 0 IsLastAfter) (several last_bytes) (list_of 0 next_last_after)
lasts_form = list_form 0 IsLastAfter last_bytes next_last_after last_form

kepts_read : (place : ℕ) → place ≤ last_slot → IsRead (IsListed 0 (λ b x. IsKeptAfter place b x × AreBytes x.item)) (several kept_bytes) (list_of 0 (next_kept_after place))
kepts_read place few = list_read 0 (λ b x. IsKeptAfter place b x × AreBytes x.item) kept_bytes (next_kept_after place) (kept_read place few)

kepts_spelled : (place : ℕ) → IsSpelled (IsListed 0 (IsKeptAfter place)) (several kept_bytes) (list_of 0 (next_kept_after place))
kepts_spelled place = list_spelled 0 (IsKeptAfter place) kept_bytes (next_kept_after place) (kept_spelled place)

tolds_read : IsRead (IsListed 0 (λ b x. IsToldAfter b x × HasCounts x.set)) (several told_bytes) (list_of 0 next_told_after)
tolds_read = list_read 0 (λ b x. IsToldAfter b x × HasCounts x.set) told_bytes next_told_after told_read

tolds_spelled : IsSpelled (IsListed 0 IsToldAfter) (several told_bytes) (list_of 0 next_told_after)
tolds_spelled = list_spelled 0 IsToldAfter told_bytes next_told_after told_spelled

givens_read : (place : ℕ) → place ≤ last_slot → IsRead (IsListed 0 (IsGivenAfter place)) (several given_bytes) (list_of 0 (next_given_after place))
givens_read place few = list_read 0 (IsGivenAfter place) given_bytes (next_given_after place) (given_read place few)

givens_spelled : (place : ℕ) → IsSpelled (IsListed 0 (IsGivenAfter place)) (several given_bytes) (list_of 0 (next_given_after place))
givens_spelled place = list_spelled 0 (IsGivenAfter place) given_bytes (next_given_after place) (given_spelled place)

all_parts_form : IsForm (IsListed 0 IsOpenAfter) (several parts_bytes) (list_of 0 next_parts_after)
all_parts_form = list_form 0 IsOpenAfter parts_bytes next_parts_after parts_form

-- ---- a Give

pub give_read : IsRead (λ g. IsGive g × IsHeldGive g) give_bytes next_give
unfolding next_give
give_read = record {
  reads = λ g rest fits.
      (let few : g.place ≤ last_slot = fits.0.place_below in
      let items = chain_with_all (IsKeptAfter g.place) (λ x. AreBytes x.item) None g.items fits.0.items fits.1.items in
      let told = chain_with_all IsToldAfter (λ x. HasCounts x.set) None g.told fits.0.told fits.1.told in
      let behind_txns = several parts_bytes g.parts in
      let behind_certified = several given_bytes g.txns ++ behind_txns in
      let behind_told = set_bytes g.certified ++ behind_certified in
      let behind_items = several told_bytes g.told ++ behind_told in
      let behind_last = several kept_bytes g.items ++ behind_items in
      let behind_blocks = several last_bytes g.last ++ behind_last in
      reads_on place_form _ g.place (number 8 g.blocks ++ behind_blocks) rest (fits.0.place_above, few, omega (arith, few))
      ∙ reads_on (number_form 8 0 g.place (omega arith)) _ g.blocks behind_blocks rest (omega arith, fits.0.blocks, omega (arith, fits.0.blocks, few))
      ∙ reads_on lasts_form _ g.last behind_last rest (fits.0.last, omega arith, omega (arith, fits.0.few_last))
      ∙ read_on (kepts_read g.place few) _ g.items behind_items rest (items, omega arith, omega (arith, fits.0.few_items))
      ∙ read_on tolds_read _ g.told behind_told rest (told, omega arith, omega (arith, fits.0.few_told))
      ∙ reads_on set_form _ g.certified behind_certified rest (fits.0.certified, fits.1.certified)
      ∙ read_on (givens_read g.place few) _ g.txns behind_txns rest (fits.0.txns, omega arith, omega (arith, fits.0.few_txns))
      ∙ reads_last all_parts_form _ g.parts rest (fits.0.parts, omega arith, omega (arith, fits.0.few_parts)));
}

-- what is read behind the kept items
behind_items : (place blocks : ℕ) (last : List LastNumber) (items : List KeptItem) → Reader Give
behind_items place blocks last items = do
  told ← list_of 0 next_told_after
  certified ← next_set
  txns ← list_of 0 (next_given_after place)
  parts ← list_of 0 next_parts_after
  pure (record { place = place; blocks = blocks; last = last; items = items; told = told; certified = certified; txns = txns; parts = parts })

abbrev behind_items_bytes : Give → List ℕ
behind_items_bytes g = several told_bytes g.told ++ (set_bytes g.certified ++ (several given_bytes g.txns ++ several parts_bytes g.parts))

record BehindItems (place blocks : ℕ) (last : List LastNumber) (items : List KeptItem) (bytes : List ℕ) (g : Give) (rest : List ℕ) : Type 0 where
  pub place_is : place ≡ g.place
  pub blocks_is : blocks ≡ g.blocks
  pub last_is : last ≡ g.last
  pub items_is : items ≡ g.items
  pub told : IsChain IsToldAfter None g.told
  pub few_told : length g.told ≤ last_u32
  pub certified : IsCanonical g.certified
  pub txns : IsChain (IsGivenAfter place) None g.txns
  pub few_txns : length g.txns ≤ last_u32
  pub parts_open : IsChain IsOpenAfter None g.parts
  pub few_parts : length g.parts ≤ last_u32
  pub parts : bytes ≡ behind_items_bytes g ++ rest

small : (n : ℕ) → n < 2 ^ 32 → n ≤ last_u32
small n h = omega (arith, h)

behind_items_spelled : (place blocks : ℕ) (last : List LastNumber) (items : List KeptItem) (bytes rest : List ℕ) (x : Give) → behind_items place blocks last items bytes ≡ Got x rest → BehindItems place blocks last items bytes x rest
unfolding behind_items
behind_items_spelled place blocks last items bytes rest x e =
    let f = spelled_step tolds_spelled _ bytes rest x e in
    let g = step set_form _ f.behind rest x f.then_reads in
    let h = spelled_step (givens_spelled place) _ g.behind rest x g.then_reads in
    let p = step all_parts_form _ h.behind rest x h.then_reads in
    ends (λ y more. BehindItems place blocks last items bytes y more) _ x p.behind rest p.then_reads
    (record {
      place_is = refl;
      blocks_is = refl;
      last_is = refl;
      items_is = refl;
      told = f.fits.0;
      few_told = small _ f.fits.2;
      certified = g.fits.0;
      txns = h.fits.0;
      few_txns = small _ h.fits.2;
      parts_open = p.fits.0;
      few_parts = small _ p.fits.2;
      parts = glue _ _ _ _ _ f.parts (glue _ _ _ _ _ g.parts (glue _ _ _ _ _ h.parts p.parts));
    })

-- the parts before, which those behind the kept items name again
same_state : (place blocks : ℕ) (last : List LastNumber) (items : List KeptItem) (g : Give) → place ≡ g.place → blocks ≡ g.blocks → last ≡ g.last → items ≡ g.items
    → number 8 place ++ (number 8 blocks ++ (several last_bytes last ++ (several kept_bytes items ++ behind_items_bytes g))) ≡ give_bytes g
same_state place blocks last items g ep eb el ei =
    ap (λ n. number 8 n ++ (number 8 blocks ++ (several last_bytes last ++ (several kept_bytes items ++ behind_items_bytes g)))) ep
    ∙ ap (λ n. number 8 g.place ++ (number 8 n ++ (several last_bytes last ++ (several kept_bytes items ++ behind_items_bytes g)))) eb
    ∙ ap (λ (xs : List LastNumber). number 8 g.place ++ (number 8 g.blocks ++ (several last_bytes xs ++ (several kept_bytes items ++ behind_items_bytes g)))) el
    ∙ ap (λ (xs : List KeptItem). number 8 g.place ++ (number 8 g.blocks ++ (several last_bytes g.last ++ (several kept_bytes xs ++ behind_items_bytes g)))) ei

is_give : (place blocks : ℕ) (last : List LastNumber) (items : List KeptItem) (bytes : List ℕ) (g : Give) (rest : List ℕ) → BehindItems place blocks last items bytes g rest
    → 1 ≤ place → place ≤ last_slot → blocks ≤ place → IsListed 0 IsLastAfter last → IsListed 0 (IsKeptAfter place) items → IsGive g
is_give place blocks last items bytes g rest b p1 p2 q lasts kepts =
    let lasts' : IsListed 0 IsLastAfter g.last = subst (λ (xs : List LastNumber). IsListed 0 IsLastAfter xs) b.last_is lasts in
    let kepts' : IsListed 0 (IsKeptAfter place) g.items = subst (λ (xs : List KeptItem). IsListed 0 (IsKeptAfter place) xs) b.items_is kepts in
    record {
      place_above = omega (arith, b.place_is, p1);
      place_below = omega (arith, b.place_is, p2);
      blocks = omega (arith, b.place_is, b.blocks_is, q);
      last = lasts'.0;
      few_last = small (length g.last) lasts'.2;
      items = subst (λ (n : ℕ). IsChain (IsKeptAfter n) None g.items) b.place_is kepts'.0;
      few_items = small (length g.items) kepts'.2;
      told = b.told;
      few_told = b.few_told;
      certified = b.certified;
      txns = subst (λ (n : ℕ). IsChain (IsGivenAfter n) None g.txns) b.place_is b.txns;
      few_txns = b.few_txns;
      parts = b.parts_open;
      few_parts = b.few_parts;
    }

pub give_spelled : IsSpelled IsGive give_bytes next_give
unfolding next_give behind_items
give_spelled = record {
  spells = λ bytes rest x e.
      (let a = step place_form _ bytes rest x e in
      let b = step (number_form 8 0 a.first (omega arith)) _ a.behind rest x a.then_reads in
      let c = step lasts_form _ b.behind rest x b.then_reads in
      let d = spelled_step (kepts_spelled a.first) _ c.behind rest x c.then_reads in
      let g = behind_items_spelled a.first b.first c.first d.first d.behind rest x d.then_reads in (
        is_give a.first b.first c.first d.first d.behind x rest g a.fits.0 a.fits.1 b.fits.1 c.fits d.fits,
        glue _ _ _ _ _ a.parts (glue _ _ _ _ _ b.parts (glue _ _ _ _ _ c.parts (glue _ _ _ _ _ d.parts g.parts)))
            ∙ ap (λ xs. xs ++ rest) (same_state a.first b.first c.first d.first x g.place_is g.blocks_is g.last_is g.items_is),
      ));
}
