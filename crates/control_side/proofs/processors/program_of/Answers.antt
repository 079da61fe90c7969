use Rattle.std.proofs.Common.{◌≡◌, true, false, refl, inl, inr, sym, ◌∙◌}
use Rattle.worklet.proofs.Deciding.{accepted_true, accepted_false}
use Rattle.worklet.proofs.Refusals.{not_accepted}
use Rattle.control_side.proofs.processors.program_of.Goals as goal

pub returns-in-Ok : goal.returns-in-Ok
returns-in-Ok c = rw (accepted_true _ c.in-Ok.ensures.accepted, c.in-Ok.ensures.program) refl

pub returns-in-Err-2 : goal.returns-in-Err-2
returns-in-Err-2 c = elim c.in-Err.ensures.error [
  | inl none ↦ absurd (let both : true ≡ false = sym (c.ran_out.ensures.1 none) ∙ c.if-ran_out.false in cc)
  | inr is ↦ rw (accepted_false _ (not_accepted _ _ is)) refl
]
