use Rattle.std.proofs.Common.{ap₂, codes, ◌≡◌, ◌∙◌}
use Rattle.std.proofs.lemmas.Result.{IfOk-weaker}
use Rattle.clap.specs.Simple.{app_of, with_rule}
use Rattle.command_line.specs.Command.{bare_command, option_rule}
use Rattle.command_line.proofs.command.waplay_command.Goals as goal

pub returns : goal.returns
returns c =
    let with_bits : app_of c.in_ok-arg.field-0 ≡ with_rule bare_command (option_rule (codes "bits")) =
    c.in_ok-arg.ensures.shape c.text_option.ensures.local ∙ ap₂ with_rule c.bare_command.ensures c.text_option.ensures.rule in
    let with_order = c.in_ok-arg-2.ensures.shape c.text_option-2.ensures.local ∙ ap₂ with_rule with_bits c.text_option-2.ensures.rule in
    let with_mode = c.in_ok-arg-3.ensures.shape c.text_option-3.ensures.local ∙ ap₂ with_rule with_order c.text_option-3.ensures.rule in
    let with_generated = c.in_ok-arg-4.ensures.shape c.text_option-4.ensures.local ∙ ap₂ with_rule with_mode c.text_option-4.ensures.rule in
    IfOk-weaker c.arg-5.result _ _ (λ command added. added.shape c.out_word.ensures.local ∙ ap₂ with_rule with_generated c.out_word.ensures.rule) c.arg-5.ensures
