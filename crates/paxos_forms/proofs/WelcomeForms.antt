-- The two sides of the form of a Welcome.
use Rattle.std.proofs.Common.{◌≡◌, ℕ, zero, suc, ◌+◌, ◌<◌, ◌≤◌, ◌^◌, List, [], ◌∷◌, ◌++◌, length, Option, Some, None, refl, sym, ap, subst, ◌∙◌, arith}
use Rattle.std.specs.Prelude.{slice_index_or, ◌==◌, if◌then◌else◌}
use Rattle.std.specs.List.{AllByRecursion}
use Rattle.byte_forms.specs.Numbers.{number}
use Rattle.byte_forms.specs.Reads.{Read, Got, Reader, ◌>>=◌, pure}
use Rattle.byte_forms.specs.Fields.{number_in}
use Rattle.byte_forms.specs.Lists.{several, list_of, IsChain}
use Rattle.byte_forms.specs.Forms.{IsForm}
use Rattle.byte_forms.proofs.FormLemmas.{IsListed, number_form, list_form, step, ends, glue, reads_on, reads_last}
use Rattle.byte_forms.proofs.ListLemmas.{chain_all}
use Rattle.gr_ids.specs.declared.names.Inc.{Inc}
use Rattle.gr_ids.specs.declared.names.Ballot.{Ballot}
use Rattle.gr_ids.specs.declared.levels.MemberState.{MemberState}
use Rattle.gr_ids.specs.declared.levels.MemberState.TheVariants.{Offline, Recovering, Online, Error}
use Rattle.gr_ids.specs.declared.levels.Mode.{Mode}
use Rattle.gr_ids.specs.declared.levels.Mode.TheVariants as mode
use Rattle.name_forms.specs.Incs.{IsInc, IsIncAfter, inc_bytes, next_inc, next_inc_after}
use Rattle.name_forms.specs.Ballots.{IsBallot, ballot_bytes}
use Rattle.name_forms.proofs.NameLaws.{inc_form, inc_after_form, ballot_form}
use Rattle.slot_values.specs.Slots.{last_slot}
use Rattle.slot_values.specs.Spelling.{last_u32}
use Rattle.slot_values.proofs.ValueForms.{joiner_after_form}
use Rattle.paxos_forms.specs.Welcomes.{Welcome, WelcomeMember, mode_number, next_mode, IsPrimary, primary_bytes, primaries, next_primary, state_number, next_state, inc_before, IsMemberAfter, member_bytes, next_member_after, IsConfig, config_bytes, next_config, IsWelcome, welcome_bytes, next_welcome}

chain_of_all : {A : Type 0} (P : A → Type 0) (before : Option A) (xs : List A) → AllByRecursion P xs → IsChain (λ b x. P x) before xs
chain_of_all P before [] h = tt
chain_of_all P before (x ∷ xs) h = (h.0, chain_of_all P (Some x) xs h.1)

-- ---- the mode, the primary and states

two_form : IsForm (λ n. (0 ≤ n) × (n ≤ 1) × (n < 256 ^ 1)) (number 1) (number_in 1 0 1)
two_form = number_form 1 0 1 (omega arith)

abbrev mode_of : ℕ → Mode
mode_of n = if n == 1 then mode.Single else mode.Multi

mode_reads : (m : Mode) (rest : List ℕ) → next_mode (number 1 (mode_number m) ++ rest) ≡ Got m rest
unfolding next_mode
mode_reads mode.Multi rest = reads_last two_form _ 0 rest (omega arith, omega arith, omega arith)
mode_reads mode.Single rest = reads_last two_form _ 1 rest (omega arith, omega arith, omega arith)

mode_back : (n : ℕ) → n ≤ 1 → mode_number (mode_of n) ≡ n
mode_back zero h = refl
mode_back (suc zero) h = refl
mode_back (suc (suc n)) h = absurd (omega (arith, h))

mode_form : IsForm (λ m. Unit {0}) (λ m. number 1 (mode_number m)) next_mode
unfolding next_mode
mode_form = record {
  reads = λ m rest fits. mode_reads m rest;
  spells = λ bytes rest m e.
      (let a = step two_form _ bytes rest m e in
      ends (λ y more. Unit {0} × (bytes ≡ number 1 (mode_number y) ++ more)) (mode_of a.first) m a.behind rest a.then_reads
      (tt, a.parts ∙ ap (λ n. number 1 n ++ a.behind) (sym (mode_back a.first a.fits.1))));
}

primary_reads : (p : Option Inc) (rest : List ℕ) → IsPrimary p → next_primary (primary_bytes p ++ rest) ≡ Got p rest
unfolding next_primary
primary_reads None rest fits = reads_last two_form _ 0 rest (omega arith, omega arith, omega arith)
primary_reads (Some i) rest fits = reads_on two_form _ 1 (inc_bytes i) rest (omega arith, omega arith, omega arith) ∙ reads_last inc_form (λ j. pure (Some j)) i rest fits

primary_spells : (k : ℕ) (bytes rest : List ℕ) (p : Option Inc) → k ≤ 1 → slice_index_or primaries k (pure None) bytes ≡ Got p rest → IsPrimary p × (number 1 k ++ bytes ≡ primary_bytes p ++ rest)
primary_spells zero bytes rest p high e = ends (λ y more. IsPrimary y × (number 1 0 ++ bytes ≡ primary_bytes y ++ more)) None p bytes rest e (tt, refl)
primary_spells (suc zero) bytes rest p high e =
    let a = step inc_form (λ i. pure (Some i)) bytes rest p e in
    ends (λ y more. IsPrimary y × (number 1 1 ++ bytes ≡ primary_bytes y ++ more)) (Some a.first) p a.behind rest a.then_reads (a.fits, glue _ _ _ _ _ refl a.parts)
primary_spells (suc (suc k)) bytes rest p high e = absurd (omega (arith, high))

primary_form : IsForm IsPrimary primary_bytes next_primary
unfolding next_primary
primary_form = record {
  reads = λ p rest fits. primary_reads p rest fits;
  spells = λ bytes rest p e.
      (let a = step two_form _ bytes rest p e in
      let b = primary_spells a.first a.behind rest p a.fits.1 a.then_reads in
      (b.0, a.parts ∙ b.1));
}

state_byte : IsForm (λ n. (1 ≤ n) × (n ≤ 2) × (n < 256 ^ 1)) (number 1) (number_in 1 1 2)
state_byte = number_form 1 1 2 (omega arith)

abbrev state_of : ℕ → MemberState
state_of n = if n == 1 then Online else Recovering

state_reads : (s : MemberState) (rest : List ℕ) → 1 ≤ state_number s → next_state (number 1 (state_number s) ++ rest) ≡ Got s rest
unfolding next_state
state_reads Online rest fits = reads_last state_byte _ 1 rest (omega arith, omega arith, omega arith)
state_reads Recovering rest fits = reads_last state_byte _ 2 rest (omega arith, omega arith, omega arith)
state_reads Offline rest fits = absurd (omega (arith, fits))
state_reads Error rest fits = absurd (omega (arith, fits))

state_back : (n : ℕ) → 1 ≤ n → n ≤ 2 → state_number (state_of n) ≡ n
state_back zero l h = absurd (omega (arith, l))
state_back (suc zero) l h = refl
state_back (suc (suc zero)) l h = refl
state_back (suc (suc (suc n))) l h = absurd (omega (arith, h))

state_form : IsForm (λ s. 1 ≤ state_number s) (λ s. number 1 (state_number s)) next_state
unfolding next_state
state_form = record {
  reads = λ s rest fits. state_reads s rest fits;
  spells = λ bytes rest s e.
      (let a = step state_byte _ bytes rest s e in
      let back = state_back a.first a.fits.0 a.fits.1 in
      ends (λ y more. (1 ≤ state_number y) × (bytes ≡ number 1 (state_number y) ++ more)) (state_of a.first) s a.behind rest a.then_reads
      (omega (arith, back, a.fits.0), a.parts ∙ ap (λ n. number 1 n ++ a.behind) (sym back)));
}

-- ---- members and configurations

member_form : (place : ℕ) → place ≤ last_slot → (before : Option WelcomeMember) → IsForm (IsMemberAfter place before) member_bytes (next_member_after place before)
unfolding next_member_after
member_form place few before = record {
  reads = λ x rest fits.
      (reads_on (joiner_after_form (inc_before before)) _ x.joiner (number 1 (state_number x.state) ++ number 8 x.last) rest fits.joiner
      ∙ reads_on state_form _ x.state (number 8 x.last) rest fits.state
      ∙ reads_last (number_form 8 0 place (omega arith)) _ x.last rest (omega arith, fits.last, omega (arith, fits.last, few)));
  spells = λ bytes rest x e.
      (let a = step (joiner_after_form (inc_before before)) _ bytes rest x e in
      let b = step state_form _ a.behind rest x a.then_reads in
      let c = step (number_form 8 0 place (omega arith)) _ b.behind rest x b.then_reads in
      ends (λ y more. IsMemberAfter place before y × (bytes ≡ member_bytes y ++ more)) _ x c.behind rest c.then_reads
      (record { joiner = a.fits; state = b.fits; last = c.fits.1 }, glue _ _ _ _ _ a.parts (glue _ _ _ _ _ b.parts c.parts)));
}

members_form : (place : ℕ) → place ≤ last_slot → IsForm (IsListed 0 (IsMemberAfter place)) (several member_bytes) (list_of 0 (next_member_after place))
members_form place few = list_form 0 (IsMemberAfter place) member_bytes (next_member_after place) (member_form place few)

ever_form : IsForm (IsListed 0 IsIncAfter) (several inc_bytes) (list_of 0 next_inc_after)
ever_form = list_form 0 IsIncAfter inc_bytes next_inc_after inc_after_form

incs_form : IsForm (IsListed 0 (λ b i. IsInc i)) (several inc_bytes) (list_of 0 (λ before. next_inc))
incs_form = list_form 0 (λ b i. IsInc i) inc_bytes (λ before. next_inc) (λ before. inc_form)

config_form : IsForm IsConfig config_bytes next_config
config_form = record {
  reads = λ x rest fits. incs_form.reads x rest (chain_of_all IsInc None x fits.0, omega arith, omega (arith, fits.1));
  spells = λ bytes rest x e.
      (let a = incs_form.spells bytes rest x e in
      ((chain_all (λ b i. IsInc i) IsInc (λ b i is. is) None x a.0.0, omega (arith, a.0.2)), a.1));
}

configs_form : IsForm (IsListed 0 (λ b c. IsConfig c)) (several config_bytes) (list_of 0 (λ before. next_config))
configs_form = list_form 0 (λ b c. IsConfig c) config_bytes (λ before. next_config) (λ before. config_form)

-- ---- a Welcome

slot_form : IsForm (λ n. (1 ≤ n) × (n ≤ last_slot) × (n < 256 ^ 8)) (number 8) (number_in 8 1 last_slot)
slot_form = number_form 8 1 last_slot (omega arith)

pub welcome_reads : (w : Welcome) (rest : List ℕ) → IsWelcome w → next_welcome (welcome_bytes w ++ rest) ≡ Got w rest
unfolding next_welcome
welcome_reads w rest fits =
    let place : w.place ≤ last_slot = omega (arith, fits.place_below, fits.slot_below) in
    let behind_ever = several config_bytes w.configs in
    let behind_members = several inc_bytes w.ever ++ behind_ever in
    let behind_elected = several member_bytes w.members ++ behind_members in
    let behind_primary = number 8 w.elected ++ behind_elected in
    let behind_mode = primary_bytes w.primary ++ behind_primary in
    let behind_promise = number 1 (mode_number w.mode) ++ behind_mode in
    let behind_number = ballot_bytes w.promise ++ behind_promise in
    let behind_place = number 8 w.number ++ behind_number in
    reads_on slot_form _ w.slot (number 8 w.place ++ behind_place) rest (fits.slot_above, fits.slot_below, omega (arith, fits.slot_below))
    ∙ reads_on (number_form 8 1 w.slot (omega arith)) _ w.place behind_place rest (fits.place_above, fits.place_below, omega (arith, place))
    ∙ reads_on (number_form 8 1 (w.place + 1) (omega arith)) _ w.number behind_number rest (fits.number_above, fits.number_below, omega (arith, fits.number_below, place))
    ∙ reads_on ballot_form _ w.promise behind_promise rest fits.promise
    ∙ reads_on mode_form _ w.mode behind_mode rest tt
    ∙ reads_on primary_form _ w.primary behind_primary rest fits.primary
    ∙ reads_on (number_form 8 0 w.place (omega arith)) _ w.elected behind_elected rest (omega arith, fits.elected, omega (arith, fits.elected, place))
    ∙ reads_on (members_form w.place place) _ w.members behind_members rest (fits.members, omega arith, omega (arith, fits.few_members))
    ∙ reads_on ever_form _ w.ever behind_ever rest (fits.ever, omega arith, omega (arith, fits.few_ever))
    ∙ reads_last configs_form _ w.configs rest (chain_of_all IsConfig None w.configs fits.configs, omega arith, omega (arith, fits.few_configs))

-- what is read behind the mode
behind_mode : (slot place view : ℕ) (promise : Ballot) (m : Mode) → Reader Welcome
behind_mode slot place view promise m = do
  primary ← next_primary
  elected ← number_in 8 0 place
  members ← list_of 0 (next_member_after place)
  ever ← list_of 0 next_inc_after
  configs ← list_of 0 (λ before. next_config)
  pure (record { slot = slot; place = place; number = view; promise = promise; mode = m; primary = primary; elected = elected; members = members; ever = ever; configs = configs })

abbrev behind_mode_bytes : Welcome → List ℕ
behind_mode_bytes w = primary_bytes w.primary ++ (number 8 w.elected ++ (several member_bytes w.members ++ (several inc_bytes w.ever ++ several config_bytes w.configs)))

record BehindMode (slot place view : ℕ) (promise : Ballot) (m : Mode) (bytes : List ℕ) (w : Welcome) (rest : List ℕ) : Type 0 where
  pub slot_is : slot ≡ w.slot
  pub place_is : place ≡ w.place
  pub view_is : view ≡ w.number
  pub promise_is : promise ≡ w.promise
  pub mode_is : m ≡ w.mode
  pub primary : IsPrimary w.primary
  pub elected : w.elected ≤ place
  pub members : IsChain (IsMemberAfter place) None w.members
  pub few_members : length w.members ≤ last_u32
  pub ever : IsChain IsIncAfter None w.ever
  pub few_ever : length w.ever ≤ last_u32
  pub configs : AllByRecursion IsConfig w.configs
  pub few_configs : length w.configs ≤ last_u32
  pub parts : bytes ≡ behind_mode_bytes w ++ rest

behind_mode_spelled : (slot place view : ℕ) (promise : Ballot) (m : Mode) → place ≤ last_slot → (bytes rest : List ℕ) (x : Welcome) → behind_mode slot place view promise m bytes ≡ Got x rest → BehindMode slot place view promise m bytes x rest
unfolding behind_mode
behind_mode_spelled slot place view promise m few bytes rest x e =
    let g = step primary_form _ bytes rest x e in
    let h = step (number_form 8 0 place (omega arith)) _ g.behind rest x g.then_reads in
    let n = step (members_form place few) _ h.behind rest x h.then_reads in
    let v = step ever_form _ n.behind rest x n.then_reads in
    let k = step configs_form _ v.behind rest x v.then_reads in
    ends (λ y more. BehindMode slot place view promise m bytes y more) _ x k.behind rest k.then_reads
    (record {
      slot_is = refl;
      place_is = refl;
      view_is = refl;
      promise_is = refl;
      mode_is = refl;
      primary = g.fits;
      elected = h.fits.1;
      members = n.fits.0;
      few_members = small n.fits.2;
      ever = v.fits.0;
      few_ever = small v.fits.2;
      configs = chain_all (λ b c. IsConfig c) IsConfig (λ b c is. is) None k.first k.fits.0;
      few_configs = small k.fits.2;
      parts = glue _ _ _ _ _ g.parts (glue _ _ _ _ _ h.parts (glue _ _ _ _ _ n.parts (glue _ _ _ _ _ v.parts k.parts)));
    })
  where
    small : {n : ℕ} → n < 2 ^ 32 → n ≤ last_u32
    small h = omega (arith, h)

-- the numbers of a Welcome, which the parts behind the mode name again
same_numbers : (slot place view : ℕ) (promise : Ballot) (m : Mode) (w : Welcome) → slot ≡ w.slot → place ≡ w.place → view ≡ w.number → promise ≡ w.promise → m ≡ w.mode
    → number 8 slot ++ (number 8 place ++ (number 8 view ++ (ballot_bytes promise ++ (number 1 (mode_number m) ++ behind_mode_bytes w)))) ≡ welcome_bytes w
same_numbers slot place view promise m w es ep ev eb em =
    ap (λ n. number 8 n ++ (number 8 place ++ (number 8 view ++ (ballot_bytes promise ++ (number 1 (mode_number m) ++ behind_mode_bytes w))))) es
    ∙ ap (λ n. number 8 w.slot ++ (number 8 n ++ (number 8 view ++ (ballot_bytes promise ++ (number 1 (mode_number m) ++ behind_mode_bytes w))))) ep
    ∙ ap (λ n. number 8 w.slot ++ (number 8 w.place ++ (number 8 n ++ (ballot_bytes promise ++ (number 1 (mode_number m) ++ behind_mode_bytes w))))) ev
    ∙ ap (λ (b : Ballot). number 8 w.slot ++ (number 8 w.place ++ (number 8 w.number ++ (ballot_bytes b ++ (number 1 (mode_number m) ++ behind_mode_bytes w))))) eb
    ∙ ap (λ (k : Mode). number 8 w.slot ++ (number 8 w.place ++ (number 8 w.number ++ (ballot_bytes w.promise ++ (number 1 (mode_number k) ++ behind_mode_bytes w))))) em

is_welcome : (slot place view : ℕ) (promise : Ballot) (m : Mode) (bytes : List ℕ) (w : Welcome) (rest : List ℕ) → BehindMode slot place view promise m bytes w rest
    → 1 ≤ slot → slot ≤ last_slot → 1 ≤ place → place ≤ slot → 1 ≤ view → view ≤ place + 1 → IsBallot promise → IsWelcome w
is_welcome slot place view promise m bytes w rest b s1 s2 p1 p2 v1 v2 ok =
    record {
      slot_above = omega (arith, b.slot_is, s1);
      slot_below = omega (arith, b.slot_is, s2);
      place_above = omega (arith, b.place_is, p1);
      place_below = omega (arith, b.place_is, b.slot_is, p2);
      number_above = omega (arith, b.view_is, v1);
      number_below = omega (arith, b.view_is, b.place_is, v2);
      promise = subst IsBallot b.promise_is ok;
      primary = b.primary;
      elected = omega (arith, b.place_is, b.elected);
      members = subst (λ (n : ℕ). IsChain (IsMemberAfter n) None w.members) b.place_is b.members;
      few_members = b.few_members;
      ever = b.ever;
      few_ever = b.few_ever;
      configs = b.configs;
      few_configs = b.few_configs;
    }

pub welcome_form : IsForm IsWelcome welcome_bytes next_welcome
unfolding next_welcome behind_mode
welcome_form = record {
  reads = λ w rest fits. welcome_reads w rest fits;
  spells = λ bytes rest x e.
      (let a = step slot_form _ bytes rest x e in
      let b = step (number_form 8 1 a.first (omega arith)) _ a.behind rest x a.then_reads in
      let c = step (number_form 8 1 (b.first + 1) (omega arith)) _ b.behind rest x b.then_reads in
      let d = step ballot_form _ c.behind rest x c.then_reads in
      let f = step mode_form _ d.behind rest x d.then_reads in
      let few : b.first ≤ last_slot = le_le b.first a.first last_slot b.fits.1 a.fits.1 in
      let g = behind_mode_spelled a.first b.first c.first d.first f.first few f.behind rest x f.then_reads in (
        is_welcome a.first b.first c.first d.first f.first f.behind x rest g a.fits.0 a.fits.1 b.fits.0 b.fits.1 c.fits.0 c.fits.1 d.fits,
        glue _ _ _ _ _ a.parts (glue _ _ _ _ _ b.parts (glue _ _ _ _ _ c.parts (glue _ _ _ _ _ d.parts (glue _ _ _ _ _ f.parts g.parts))))
            ∙ ap (λ xs. xs ++ rest) (same_numbers a.first b.first c.first d.first f.first x g.slot_is g.place_is g.view_is g.promise_is g.mode_is),
      ));
}
  where
    le_le : (a b c : ℕ) → a ≤ b → b ≤ c → a ≤ c
    le_le a b c h k = omega (arith, h, k)
