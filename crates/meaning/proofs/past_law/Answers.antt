use Rattle.std.proofs.Common.{length, ◌++◌, ◌∷◌, [], refl, subst}
use Rattle.meaning.specs.World.{sounding}
use Rattle.meaning.specs.Validity.{IsJoined}
use Rattle.meaning.proofs.Joined.{joined_in}
use Rattle.meaning.proofs.TapeLaws.{world_after}
use Rattle.meaning.proofs.Successors.{SamePast, successor}
use Rattle.meaning.proofs.PastLaws.{count_new, value_new, param_new, past_new}
use Rattle.meaning.proofs.past_law.Goals as goal

pub returns : goal.returns
returns c q some few w tape tape' regular regular' same =
    let joined : IsJoined (sounding w) = subst IsJoined (world_after tape w (length tape) refl) (joined_in (tape ++ w ∷ []) regular.valid (length tape)) in
    let alike : SamePast q w tape tape' = successor q some w tape tape' regular regular' same in (
      (λ e is. count_new q some w joined tape tape' alike e),
      (λ f e here is. value_new q some w joined tape tape' alike f e here is),
      (λ f id here there. param_new q some w joined tape tape' alike f id here there),
      past_new q some w joined tape tape' alike,
    )
