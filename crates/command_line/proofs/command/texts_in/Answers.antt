use Rattle.std.proofs.Common.{ap, sym, codes, true, false, refl, map, string_bytes, List, ◌≡◌, ◌∙◌}
use Rattle.std.proofs.lemmas.Bool.{false≢true}
use Rattle.clap.specs.Simple.{App, app_of, is_simple, matches_of}
use Rattle.clap.specs.Faults.{fault_of, is_simple_and_free}
use Rattle.clap.specs.Matches.{found_of, first_value}
use Rattle.clap.specs.Walk.{Text, first_of, rows_of}
use Rattle.clap.proofs.WalkLemmas.{first_value-rows}
use Rattle.clap.proofs.OnLiterals.{clap_on_literals}
use Rattle.command_line.specs.Command.{waplay_command, has_form, given, is_faultless}
use Rattle.command_line.proofs.Faults.{fault_is_there}
use Rattle.command_line.proofs.command.texts_in.Goals as goal

-- the command is one of which clap says exactly what it makes of the words
is_simple_command : is_simple waplay_command ≡ true
unfolding clap_on_literals
is_simple_command = refl

is_free_too : is_simple_and_free waplay_command ≡ true
unfolding clap_on_literals
is_free_too = refl

pub returns-in-Ok : goal.returns-in-Ok
returns-in-Ok c =
    let line : List Text = map (string_bytes {Z = Rattle.std.proofs.Common.Global}) c.args.words.now in
    let same = c.in_ok-command.ensures in
    let found = found_of c.in-Ok.matches in
    let rows : rows_of found ≡ matches_of waplay_command line =
    (c.in-Ok.ensures.matches (ap is_simple same ∙ is_simple_command)).0 ∙ ap (λ (a : App). matches_of a line) same in
    let at : (name : Text) → first_value found name ≡ given name line = λ name. first_value-rows found name ∙ ap (first_of name) rows in
    let form : has_form line ≡ true =
    ap is_faultless (ap (λ (a : App). fault_of a line) (sym same) ∙ c.in-Ok.ensures.kinds (ap is_simple_and_free same ∙ is_free_too)) in
    let bits = c.get_str.ensures ∙ at (codes "bits") in
    let order = c.get_str-in-Ok.ensures ∙ at (codes "order") in
    let mode = c.get_str-in-Ok-2.ensures ∙ at (codes "mode") in
    let generated = c.get_str-in-Ok-3.ensures ∙ at (codes "gen") in
    let out = c.get_str-in-Ok-4.ensures ∙ at (codes "out") in
    rw (form, bits, order, mode, generated, out) refl

pub returns : goal.returns
returns c =
    let line : List Text = map (string_bytes {Z = Rattle.std.proofs.Common.Global}) c.args.words.now in
    let same = c.in_ok-command.ensures in
    let kinds = c.in-Err.ensures.kinds (ap is_simple_and_free same ∙ is_free_too) in
    let form : has_form line ≡ false =
    ap (λ (a : App). is_faultless (fault_of a line)) (sym same)
    ∙ fault_is_there (fault_of (app_of c.in_ok-command.command) line) c.in-Err.e kinds (λ memory. false≢true (rw (c.kind.ensures ∙ memory) at c.if-eq.ensures)) in
    rw form refl
