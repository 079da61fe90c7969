use Rattle.std.proofs.Common.{List, ap, sym, subst}
use Rattle.meaning.specs.declared.params.Param.{Param}
use Rattle.meaning.specs.World.{plain}
use Rattle.meaning.specs.Validity.{IsValid}
use Rattle.meaning.specs.Automation.{with_params}
use Rattle.meaning.proofs.Valid.{plain_valid, valid_plain}
use Rattle.meaning.proofs.Automating.{slots_valid}
use Rattle.meaning.proofs.world.World.set_slots.Goals as goal

pub returns-clause-valid : goal.returns-clause-valid
returns-clause-valid c = λ valid.
    let set = ap (λ (ps : List Param). with_params (plain c.args.self.now) ps) c.set_slots.ensures in
    valid_plain _ (subst IsValid (sym set) (slots_valid (plain c.args.self.now) c.args.first (plain_valid c.args.self.now valid)))
