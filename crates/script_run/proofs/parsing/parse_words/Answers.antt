use Rattle.std.proofs.Common.{◌≡◌, ◌∙◌, true, ap, ap₂}
use Rattle.std.proofs.lemmas.Result.{IfErr-weaker, IfOk-weaker}
use Rattle.clap.specs.Simple.{app_of_fields, on_top}
use Rattle.clap.specs.Words.{App, app_of, is_simple, subcommand_of, takes, with_subcommand}
use Rattle.script_run.specs.Commands.{texts_of}
use Rattle.script_run.specs.Parsing.{grsim, nameless, play_app}
use Rattle.script_run.proofs.parsing.parse_words.Goals as goal

pub returns : goal.returns
returns c =
    let named : app_of c.no_binary_name.result ≡ nameless = ap app_of_fields c.no_binary_name.ensures ∙ ap (on_top (λ s. record s { no_binary_name = true })) c.new.ensures.app in
    let first : app_of c.in_ok-subcommand.field-0 ≡ with_subcommand nameless play_app.top =
    c.in_ok-subcommand.ensures.shape c.in_ok-play.ensures.local ∙ ap₂ with_subcommand named (ap (λ (a : App). a.top) c.in_ok-play.ensures.shape) in
    let all : app_of c.in_ok-grsim.grsim ≡ grsim =
    c.in_ok-grsim.ensures.shape c.in_ok-make.ensures.local ∙ ap₂ with_subcommand first (ap (λ (a : App). a.top) c.in_ok-make.ensures.shape) in
    let words = texts_of c.args.words.now in
    let parse = c.try_get_matches_from in
    record {
      ok = IfOk-weaker parse.result _ _ (λ m h. (h (ap is_simple all)).1 ∙ ap (λ (a : App). subcommand_of a words) all) parse.ensures.matches;
      err = IfErr-weaker parse.result _ _ (λ e h. λ t. h (ap (λ (a : App). takes a words) all ∙ t)) parse.ensures.passes;
    }
