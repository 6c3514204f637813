use Rattle.std.proofs.Common.{◌≡◌, ◌∙◌, true, false, Bool, ℕ, List, Option, Some, None, ap, ap₂, sym, codes, option_map}
use Rattle.std.specs.Borrow.{Bor}
use Rattle.clap.specs.Words.{found_of, rows_of, subcommand_rows_of}
use Rattle.clap.proofs.WalkLemmas.{first_value-rows, one_text-rows}
use Rattle.script_run.specs.Commands.{make_of}
use Rattle.script_run.specs.Parsing.{flag_text}
use Rattle.script_run.specs.declared.command.Command.TheVariants.{Play}
use Rattle.script_run.proofs.Clap.{flag_read, from_read, some_is, steps_read}
use Rattle.script_run.proofs.command.met_command.Goals as goal

flag_is : (b r : Bool) (text : Option (List ℕ)) → text ≡ Some (flag_text b) → (text ≡ Some (codes "true") → r ≡ true) → (text ≡ Some (codes "false") → r ≡ false) → r ≡ b
flag_is true r text is f g = f is
flag_is false r text is f g = g is

not_none : {A : Type 0} (o : Option (Bor (List ℕ))) (w : List ℕ) → option_map (λ s. s.now) o ≡ Some w → o ≡ None → A
not_none None w is none = cc is
not_none (Some x) w is none = cc none

lent : (o : Option (Bor (List ℕ))) (s : Bor (List ℕ)) (w : List ℕ) → option_map (λ s. s.now) o ≡ Some w → o ≡ Some s → s.now ≡ w
lent None s w is there = cc is
lent (Some x) s w is there = ap (λ (y : Bor (List ℕ)). y.now) (sym (some_is there)) ∙ some_is is

pub returns-in-Some-clause-play : goal.returns-in-Some-clause-play
returns-in-Some-clause-play c = λ b name flag.
    let found = found_of c.in-Some.play.now in
    let read = one_text-rows found (codes "report") ∙ flag_read (subcommand_rows_of c.args.matches.now) (rows_of found) b c.in-Some.ensures.rows flag in
    ap (λ (r : Bool). Some (Play r)) (flag_is b c.get_flag.result _ read c.get_flag.ensures.value c.get_flag.ensures.other)

pub returns-in_err-get_str-clause-make : goal.returns-in_err-get_str-clause-make
returns-in_err-get_str-clause-make c = λ n from name values.
    let found = found_of c.in_ok-make.make.now in
    let read = c.get_str.ensures ∙ first_value-rows found (codes "steps") ∙ steps_read (subcommand_rows_of c.args.matches.now) (rows_of found) n from c.in_ok-make.ensures.rows values in
    not_none c.get_str.result n read c.in_err-get_str.was

pub returns-in_err-get_str-2-clause-make : goal.returns-in_err-get_str-2-clause-make
returns-in_err-get_str-2-clause-make c = λ n from name values.
    let found = found_of c.in_ok-make.make.now in
    let read = c.get_str-2.ensures ∙ first_value-rows found (codes "from") ∙ from_read (subcommand_rows_of c.args.matches.now) (rows_of found) n from c.in_ok-make.ensures.rows values in
    not_none c.get_str-2.result from read c.in_err-get_str-2.was

pub returns-clause-make : goal.returns-clause-make
returns-clause-make c = λ n from name values.
    let found = found_of c.in_ok-make.make.now in
    let steps_is = c.get_str.ensures ∙ first_value-rows found (codes "steps") ∙ steps_read (subcommand_rows_of c.args.matches.now) (rows_of found) n from c.in_ok-make.ensures.rows values in
    let from_is = c.get_str-2.ensures ∙ first_value-rows found (codes "from") ∙ from_read (subcommand_rows_of c.args.matches.now) (rows_of found) n from c.in_ok-make.ensures.rows values in
    c.make_of.ensures.command ∙ ap₂ make_of (lent c.get_str.result c.in_ok-get_str.field-0 n steps_is c.in_ok-get_str.was) (lent c.get_str-2.result c.in_ok-get_str-2.field-0 from from_is c.in_ok-get_str-2.was)
