use Rattle.std.proofs.Common.{◌≡◌, true, length}
use Rattle.law_base.specs.Reaching.{reaches}
use Rattle.law_base.proofs.Reaching.{direct, further, up_to}
use Rattle.law_base.proofs.HeightLaws.{settled}
use Rattle.law_base.proofs.settling_law.Goals as goal

pub returns : goal.returns
returns g c arrow ends silence rule local quiet h low e in_ends =
    settled ends (λ a b. arrow a b ≡ true) (λ n a b. reaches arrow ends n a b ≡ true) (direct arrow ends) (further arrow ends) silence rule local
    (λ e n few r s. quiet e (up_to arrow ends n (length ends) e e few r) s) h low e in_ends
