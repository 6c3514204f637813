-- The two sides of the form of a message.
use Rattle.std.proofs.Common.{◌≡◌, ℕ, zero, suc, ◌+◌, ◌-◌, ◌<◌, ◌≤◌, ◌^◌, List, [], ◌∷◌, ◌++◌, length, Option, Some, None, refl, sym, ap, ◌∙◌, arith}
use Rattle.std.specs.Prelude.{slice_index_or}
use Rattle.byte_forms.specs.Numbers.{number}
use Rattle.byte_forms.specs.Reads.{Got, Reader, ◌>>=◌, pure}
use Rattle.byte_forms.specs.Fields.{number_in}
use Rattle.byte_forms.specs.Lists.{several, list_of, IsChain}
use Rattle.byte_forms.specs.Forms.{IsRead, IsSpelled, IsForm}
use Rattle.byte_forms.proofs.FormLemmas.{IsListed, number_form, list_form, form_read, form_spelled, step, spelled_step, ends, glue, read_on, read_last, reads_on, reads_last}
use Rattle.name_forms.specs.Incs.{inc_bytes}
use Rattle.name_forms.specs.Ballots.{ballot_bytes}
use Rattle.name_forms.proofs.NameLaws.{inc_form, ballot_form}
use Rattle.slot_values.specs.Slots.{IsSlot, last_slot}
use Rattle.slot_values.specs.Spelling.{IsVoteAfter, vote_bytes, value_bytes, next_vote_after}
use Rattle.slot_values.proofs.ValueForms.{value_form, vote_after_form}
use Rattle.paxos_forms.specs.Welcomes.{welcome_bytes}
use Rattle.paxos_forms.specs.Gives.{ask_bytes, give_bytes}
use Rattle.paxos_forms.specs.Messages.{Message, Wire, Prepare, Promise, Accept, Accepted, Learn, Offer, Alive, Gone, IsNextSlot, next_slot, next_from_slot, wire_bytes, IsWire, next_prepare, next_promise, next_accept, next_accepted, next_learn, kinds, next_wire, IsMessage, message_bytes, next_message, IsHeld}
use Rattle.paxos_forms.specs.declared.message.Wire.TheVariants as wire
use Rattle.paxos_forms.proofs.WelcomeForms.{welcome_form}
use Rattle.paxos_forms.proofs.GiveForms.{ask_read, ask_spelled, give_read, give_spelled}

kind_byte : IsForm (λ k. (1 ≤ k) × (k ≤ 11) × (k < 256 ^ 1)) (number 1) (number_in 1 1 11)
kind_byte = number_form 1 1 11 (omega arith)

slot_form : IsForm IsSlot (number 8) next_slot
slot_form = record {
  reads = λ t rest fits. (number_form 8 1 last_slot (omega arith)).reads t rest (fits.0, fits.1, omega (arith, fits.1));
  spells = λ bytes rest t e. (let a = (number_form 8 1 last_slot (omega arith)).spells bytes rest t e in ((a.0.0, a.0.1), a.1));
}

from_slot_form : IsForm IsNextSlot (number 8) next_from_slot
from_slot_form = record {
  reads = λ t rest fits. (number_form 8 1 (last_slot + 1) (omega arith)).reads t rest (fits.0, fits.1, omega (arith, fits.1));
  spells = λ bytes rest t e. (let a = (number_form 8 1 (last_slot + 1) (omega arith)).spells bytes rest t e in ((a.0.0, a.0.1), a.1));
}

votes_form : IsForm (IsListed 0 IsVoteAfter) (several vote_bytes) (list_of 0 next_vote_after)
votes_form = list_form 0 IsVoteAfter vote_bytes next_vote_after vote_after_form

-- ---- what is spelled is read

wire_reads : (w : Wire) (rest : List ℕ) → IsWire w → IsHeld w → next_wire (wire_bytes w ++ rest) ≡ Got w rest
unfolding next_wire next_prepare next_promise next_accept next_accepted next_learn
wire_reads (Prepare b s) rest fits held =
    reads_on kind_byte _ 1 (ballot_bytes b ++ number 8 s) rest (omega arith, omega arith, omega arith)
    ∙ reads_on ballot_form _ b (number 8 s) rest fits.0 ∙ reads_last from_slot_form _ s rest fits.1
wire_reads (Promise b s xs) rest fits held =
    reads_on kind_byte _ 2 (ballot_bytes b ++ (number 8 s ++ several vote_bytes xs)) rest (omega arith, omega arith, omega arith)
    ∙ reads_on ballot_form _ b (number 8 s ++ several vote_bytes xs) rest fits.0 ∙ reads_on from_slot_form _ s (several vote_bytes xs) rest fits.1
    ∙ reads_last votes_form _ xs rest (fits.2, omega arith, omega (arith, fits.3))
wire_reads (Accept b t v) rest fits held =
    reads_on kind_byte _ 3 (ballot_bytes b ++ (number 8 t ++ value_bytes v)) rest (omega arith, omega arith, omega arith)
    ∙ reads_on ballot_form _ b (number 8 t ++ value_bytes v) rest fits.0 ∙ reads_on slot_form _ t (value_bytes v) rest fits.1 ∙ reads_last value_form _ v rest fits.2
wire_reads (Accepted b t) rest fits held =
    reads_on kind_byte _ 4 (ballot_bytes b ++ number 8 t) rest (omega arith, omega arith, omega arith)
    ∙ reads_on ballot_form _ b (number 8 t) rest fits.0 ∙ reads_last slot_form _ t rest fits.1
wire_reads (Learn t v) rest fits held =
    reads_on kind_byte _ 5 (number 8 t ++ value_bytes v) rest (omega arith, omega arith, omega arith)
    ∙ reads_on slot_form _ t (value_bytes v) rest fits.0 ∙ reads_last value_form _ v rest fits.1
wire_reads (Offer v) rest fits held =
    reads_on kind_byte _ 6 (value_bytes v) rest (omega arith, omega arith, omega arith) ∙ reads_last value_form (λ x. pure (Offer x)) v rest fits
wire_reads (wire.Welcome w) rest fits held =
    reads_on kind_byte _ 7 (welcome_bytes w) rest (omega arith, omega arith, omega arith) ∙ reads_last welcome_form (λ x. pure (wire.Welcome x)) w rest fits
wire_reads (wire.Ask a) rest fits held =
    reads_on kind_byte _ 8 (ask_bytes a) rest (omega arith, omega arith, omega arith) ∙ read_last ask_read (λ x. pure (wire.Ask x)) a rest (fits, held)
wire_reads (wire.Give g) rest fits held =
    reads_on kind_byte _ 9 (give_bytes g) rest (omega arith, omega arith, omega arith) ∙ read_last give_read (λ x. pure (wire.Give x)) g rest (fits, held)
wire_reads (Alive n) rest fits held =
    reads_on kind_byte _ 10 (number 8 n) rest (omega arith, omega arith, omega arith) ∙ reads_last from_slot_form (λ x. pure (Alive x)) n rest fits
wire_reads Gone rest fits held = reads_last kind_byte _ 11 rest (omega arith, omega arith, omega arith)

wire_read : IsRead (λ w. IsWire w × IsHeld w) wire_bytes next_wire
wire_read = record { reads = λ w rest fits. wire_reads w rest fits.0 fits.1 }

pub message_read : IsRead (λ m. IsMessage m × IsHeld m.wire) message_bytes next_message
unfolding next_message
message_read = record {
  reads = λ m rest fits.
      (reads_on inc_form _ m.from (inc_bytes m.to ++ wire_bytes m.wire) rest fits.0.from
      ∙ reads_on inc_form _ m.to (wire_bytes m.wire) rest fits.0.to
      ∙ read_last wire_read _ m.wire rest (fits.0.wire, fits.1));
}

-- ---- what is read was spelled

-- a kind k that is spelled behind its byte
abbrev Spelled : ℕ → List ℕ → Wire → List ℕ → Type 0
Spelled k bytes w more = IsWire w × (number 1 k ++ bytes ≡ wire_bytes w ++ more)

prepare_spelled : (bytes rest : List ℕ) (w : Wire) → next_prepare bytes ≡ Got w rest → Spelled 1 bytes w rest
unfolding next_prepare
prepare_spelled bytes rest w e =
    let a = step ballot_form _ bytes rest w e in
    let b = step from_slot_form _ a.behind rest w a.then_reads in
    ends (Spelled 1 bytes) (Prepare a.first b.first) w b.behind rest b.then_reads ((a.fits, b.fits), glue _ _ _ _ _ refl (glue _ _ _ _ _ a.parts b.parts))

promise_spelled : (bytes rest : List ℕ) (w : Wire) → next_promise bytes ≡ Got w rest → Spelled 2 bytes w rest
unfolding next_promise
promise_spelled bytes rest w e =
    let a = step ballot_form _ bytes rest w e in
    let b = step from_slot_form _ a.behind rest w a.then_reads in
    let c = step votes_form _ b.behind rest w b.then_reads in
    ends (Spelled 2 bytes) (Promise a.first b.first c.first) w c.behind rest c.then_reads
    ((a.fits, b.fits, c.fits.0, omega (arith, c.fits.2)), glue _ _ _ _ _ refl (glue _ _ _ _ _ a.parts (glue _ _ _ _ _ b.parts c.parts)))

accept_spelled : (bytes rest : List ℕ) (w : Wire) → next_accept bytes ≡ Got w rest → Spelled 3 bytes w rest
unfolding next_accept
accept_spelled bytes rest w e =
    let a = step ballot_form _ bytes rest w e in
    let b = step slot_form _ a.behind rest w a.then_reads in
    let c = step value_form _ b.behind rest w b.then_reads in
    ends (Spelled 3 bytes) (Accept a.first b.first c.first) w c.behind rest c.then_reads ((a.fits, b.fits, c.fits), glue _ _ _ _ _ refl (glue _ _ _ _ _ a.parts (glue _ _ _ _ _ b.parts c.parts)))

accepted_spelled : (bytes rest : List ℕ) (w : Wire) → next_accepted bytes ≡ Got w rest → Spelled 4 bytes w rest
unfolding next_accepted
accepted_spelled bytes rest w e =
    let a = step ballot_form _ bytes rest w e in
    let b = step slot_form _ a.behind rest w a.then_reads in
    ends (Spelled 4 bytes) (Accepted a.first b.first) w b.behind rest b.then_reads ((a.fits, b.fits), glue _ _ _ _ _ refl (glue _ _ _ _ _ a.parts b.parts))

learn_spelled : (bytes rest : List ℕ) (w : Wire) → next_learn bytes ≡ Got w rest → Spelled 5 bytes w rest
unfolding next_learn
learn_spelled bytes rest w e =
    let a = step slot_form _ bytes rest w e in
    let b = step value_form _ a.behind rest w a.then_reads in
    ends (Spelled 5 bytes) (Learn a.first b.first) w b.behind rest b.then_reads ((a.fits, b.fits), glue _ _ _ _ _ refl (glue _ _ _ _ _ a.parts b.parts))

kind_spells : (k : ℕ) (bytes rest : List ℕ) (w : Wire) → 1 ≤ k → k ≤ 11 → slice_index_or kinds (k - 1) (pure Gone) bytes ≡ Got w rest → Spelled k bytes w rest
kind_spells zero bytes rest w low high e = absurd (omega (arith, low))
kind_spells (suc zero) bytes rest w low high e = prepare_spelled bytes rest w e
kind_spells (suc (suc zero)) bytes rest w low high e = promise_spelled bytes rest w e
kind_spells (suc (suc (suc zero))) bytes rest w low high e = accept_spelled bytes rest w e
kind_spells (suc (suc (suc (suc zero)))) bytes rest w low high e = accepted_spelled bytes rest w e
kind_spells (suc (suc (suc (suc (suc zero))))) bytes rest w low high e = learn_spelled bytes rest w e
kind_spells (suc (suc (suc (suc (suc (suc zero)))))) bytes rest w low high e =
    let a = step value_form (λ x. pure (Offer x)) bytes rest w e in
    ends (Spelled 6 bytes) (Offer a.first) w a.behind rest a.then_reads (a.fits, glue _ _ _ _ _ refl a.parts)
kind_spells (suc (suc (suc (suc (suc (suc (suc zero))))))) bytes rest w low high e =
    let a = step welcome_form (λ x. pure (wire.Welcome x)) bytes rest w e in
    ends (Spelled 7 bytes) (wire.Welcome a.first) w a.behind rest a.then_reads (a.fits, glue _ _ _ _ _ refl a.parts)
kind_spells (suc (suc (suc (suc (suc (suc (suc (suc zero)))))))) bytes rest w low high e =
    let a = spelled_step ask_spelled (λ x. pure (wire.Ask x)) bytes rest w e in
    ends (Spelled 8 bytes) (wire.Ask a.first) w a.behind rest a.then_reads (a.fits, glue _ _ _ _ _ refl a.parts)
kind_spells (suc (suc (suc (suc (suc (suc (suc (suc (suc zero))))))))) bytes rest w low high e =
    let a = spelled_step give_spelled (λ x. pure (wire.Give x)) bytes rest w e in
    ends (Spelled 9 bytes) (wire.Give a.first) w a.behind rest a.then_reads (a.fits, glue _ _ _ _ _ refl a.parts)
kind_spells (suc (suc (suc (suc (suc (suc (suc (suc (suc (suc zero)))))))))) bytes rest w low high e =
    let a = step from_slot_form (λ x. pure (Alive x)) bytes rest w e in
    ends (Spelled 10 bytes) (Alive a.first) w a.behind rest a.then_reads (a.fits, glue _ _ _ _ _ refl a.parts)
kind_spells (suc (suc (suc (suc (suc (suc (suc (suc (suc (suc (suc zero))))))))))) bytes rest w low high e =
    ends (Spelled 11 bytes) Gone w bytes rest e (tt, refl)
kind_spells (suc (suc (suc (suc (suc (suc (suc (suc (suc (suc (suc (suc k)))))))))))) bytes rest w low high e = absurd (omega (arith, high))

wire_spelled : IsSpelled IsWire wire_bytes next_wire
unfolding next_wire
wire_spelled = record {
  spells = λ bytes rest w e.
      (let a = step kind_byte _ bytes rest w e in
      let s = kind_spells a.first a.behind rest w a.fits.0 a.fits.1 a.then_reads in
      (s.0, a.parts ∙ s.1));
}

pub message_spelled : IsSpelled IsMessage message_bytes next_message
unfolding next_message
message_spelled = record {
  spells = λ bytes rest x e.
      (let a = step inc_form _ bytes rest x e in
      let b = step inc_form _ a.behind rest x a.then_reads in
      let c = spelled_step wire_spelled _ b.behind rest x b.then_reads in
      ends (λ y more. IsMessage y × (bytes ≡ message_bytes y ++ more)) (record { from = a.first; to = b.first; wire = c.first }) x c.behind rest c.then_reads
      (record { from = a.fits; to = b.fits; wire = c.fits }, glue _ _ _ _ _ a.parts (glue _ _ _ _ _ b.parts c.parts)));
}
