use Rattle.std.proofs.Common.{subst}
use Rattle.explain.specs.declared.facts.Key.{Key}
use Rattle.explain.specs.Needs.{needs}
use Rattle.derivations.specs.Contexts.{tape_in}
use Rattle.equations.specs.Given.{meaning_of, AllKnown}
use Rattle.equations.proofs.Needed.{count_known, inlet_known, param_known, output_known}
use Rattle.equations.proofs.derived.meant_value.Goals as goal

pub end_channels-requires-clause-known : goal.end_channels-requires-clause-known
end_channels-requires-clause-known c =
    count_known c.args.context c.in-Count.quantum c.in-Count.end c.in-Count.output
    (subst (λ (k : Key). AllKnown c.args.context (needs c.args.context.quantum (tape_in c.args.context) (meaning_of c.args.context) k)) c.in-Count.is c.requires.known)

pub input_value-requires-clause-known : goal.input_value-requires-clause-known
input_value-requires-clause-known c =
    inlet_known c.args.context c.in-Inlet.frame c.in-Inlet.end c.in-Inlet.input c.in-Inlet.channel
    (subst (λ (k : Key). AllKnown c.args.context (needs c.args.context.quantum (tape_in c.args.context) (meaning_of c.args.context) k)) c.in-Inlet.is c.requires.known)

pub param_value-requires-clause-known : goal.param_value-requires-clause-known
param_value-requires-clause-known c =
    param_known c.args.context c.in-Par.frame c.in-Par.node c.in-Par.name
    (subst (λ (k : Key). AllKnown c.args.context (needs c.args.context.quantum (tape_in c.args.context) (meaning_of c.args.context) k)) c.in-Par.is c.requires.known)

pub output_value-requires-clause-known : goal.output_value-requires-clause-known
output_value-requires-clause-known c =
    output_known c.args.context c.in-Out.frame c.in-Out.end c.in-Out.output c.in-Out.channel
    (subst (λ (k : Key). AllKnown c.args.context (needs c.args.context.quantum (tape_in c.args.context) (meaning_of c.args.context) k)) c.in-Out.is c.requires.known)
