use Rattle.std.proofs.Common.{◌∙◌, sym, arith}
use Rattle.derivations.specs.Contexts.{tape_in}
use Rattle.derivations.proofs.Knowing.{count_of, count_low, abs_is}
use Rattle.derivations.proofs.places.Context.count.Goals as goal

pub overflow_cast-result : goal.overflow_cast-result
overflow_cast-result c =
    let few = count_low c.args.self.quantum (tape_in c.args.self) c.args.self.known.now c.requires c.args.quantum c.args.end c.args.output c.in_ok-fact.fact c.in_ok-fact.ensures.found.0 c.in_ok-fact.ensures.found.1 in
    let value = abs_is c.in_ok-fact.fact.value c.unsigned_abs.result few c.unsigned_abs.ensures.value in
    omega (arith, few, value)

pub returns-clause-value : goal.returns-clause-value
returns-clause-value c = λ a all.
    let few = count_low c.args.self.quantum (tape_in c.args.self) c.args.self.known.now c.requires c.args.quantum c.args.end c.args.output c.in_ok-fact.fact c.in_ok-fact.ensures.found.0 c.in_ok-fact.ensures.found.1 in
    count_of c.args.self.quantum (tape_in c.args.self) c.args.self.known.now c.requires a all c.args.quantum c.args.end c.args.output c.in_ok-fact.fact c.in_ok-fact.ensures.found.0 c.in_ok-fact.ensures.found.1
    ∙ sym (abs_is c.in_ok-fact.fact.value c.unsigned_abs.result few c.unsigned_abs.ensures.value)

pub returns-clause-few : goal.returns-clause-few
returns-clause-few c =
    let few = count_low c.args.self.quantum (tape_in c.args.self) c.args.self.known.now c.requires c.args.quantum c.args.end c.args.output c.in_ok-fact.fact c.in_ok-fact.ensures.found.0 c.in_ok-fact.ensures.found.1 in
    let value = abs_is c.in_ok-fact.fact.value c.unsigned_abs.result few c.unsigned_abs.ensures.value in
    omega (arith, few, value)
