use Rattle.std.proofs.Common.{◌≡◌, ◌+◌, ◌*◌, ◌∷◌, [], suc, pos, subst, arith}
use Rattle.std.specs.Prelude.{codes}
use Rattle.script_ast.specs.declared.operations.Op.TheVariants.{SetValue}
use Rattle.load_gen.specs.Generator.{Adds, muting_ops}
use Rattle.load_gen.specs.Voices.{gain}
use Rattle.load_gen.proofs.Listing.{adds_length, adds_then, muting_length}
use Rattle.load_gen.proofs.generator.add_muting.Goals as goal

pub add-requires : goal.add-requires
add-requires c =
    let place = c.loop-place.place in
    let long = adds_length c.args.suspension (muting_ops place) c.args.calls.now c.loop-place.calls c.loop-place.invariant in
    omega (arith, long, muting_length place, c.loop-place-test.true, c.requires)

pub loop-place-preserved : goal.loop-place-preserved
loop-place-preserved c =
    let place = c.loop-place.place in
    let suspension = c.args.suspension in
    let next : suc place ≡ place + 1 = omega arith in
    let added : Adds suspension (SetValue (gain (5 * place)) (codes "gain") (pos 0) ∷ []) c.loop-place.calls c.add.new.calls = cc (c.in_ok-add.ensures.calls, c.in_ok-gain.ensures, c.in_ok-text.ensures) in
    let all = adds_then suspension (muting_ops place) (SetValue (gain (5 * place)) (codes "gain") (pos 0) ∷ []) c.args.calls.now c.loop-place.calls c.add.new.calls c.loop-place.invariant added in
    subst (λ n. Adds suspension (muting_ops n) c.args.calls.now c.add.new.calls) next all
