use Rattle.std.proofs.Common.{ℕ, ◌≡◌, List, [], ◌∷◌, true, false, sym, ◌∙◌, ap, subst}
use Rattle.std.specs.Prelude.{if◌then◌else◌}
use Rattle.wa_base.specs.declared.graph_names.ParamName.TheVariants as params
use Rattle.meaning.specs.declared.world.World.{World}
use Rattle.meaning.specs.World.{sounding, sounds_at}
use Rattle.explain.specs.declared.facts.Key.{Key}
use Rattle.explain.specs.declared.facts.Key.TheVariants.{Par}
use Rattle.explain.specs.declared.facts.Fact.{Fact}
use Rattle.explain.specs.Accounts.{Account}
use Rattle.explain.specs.Facts.{IsKeyOf}
use Rattle.derivations.specs.Contexts.{tape_in}
use Rattle.derivations.specs.Groups.{one}
use Rattle.derivations.proofs.Heard.{IsAnswer, single_answer, param_of}
use Rattle.derivations.proofs.Leading.{known_as, nothing_known}
use Rattle.derivations.proofs.outputs.missing_offset.Goals as goal

pub returns-then-not-sounds : goal.returns-then-not-sounds
returns-then-not-sounds c =
    let q : ℕ = c.args.context.quantum in
    let tape : List World = tape_in c.args.context in
    let facts : List Fact = c.args.context.known.now in
    let f : ℕ = c.args.sample.frame in
    let key : Key = Par f c.args.sample.end.node params.Offset in
    let keys : Account → List Key = λ a. if sounds_at (sounding c.args.world.now) c.args.sample.end.node.0 f then one key else [] in
    let silent : sounds_at (sounding c.args.world.now) c.args.sample.end.node.0 f ≡ false = sym c.sounds.ensures ∙ c.if-not-sounds.true in
    record { none = known_as q tape facts (λ a. []) keys (λ a. sym (ap (λ b. if b then one key else []) silent)) (nothing_known q tape facts); some = tt }

pub returns : goal.returns
returns c =
    let q : ℕ = c.args.context.quantum in
    let tape : List World = tape_in c.args.context in
    let facts : List Fact = c.args.context.known.now in
    let f : ℕ = c.args.sample.frame in
    let key : Key = Par f c.args.sample.end.node params.Offset in
    let keys : Account → List Key = λ a. if sounds_at (sounding c.args.world.now) c.args.sample.end.node.0 f then one key else [] in
    let loud : sounds_at (sounding c.args.world.now) c.args.sample.end.node.0 f ≡ true = sym c.sounds.ensures ∙ c.if-not-sounds.false in
    let made : c.param.result ≡ key = c.param.ensures in
    let there : IsKeyOf q tape key = param_of q tape f c.args.sample.end.node params.Offset c.args.world.now c.requires.there c.requires.world c.requires.key in
    let answer : IsAnswer q tape facts keys c.missing.result =
    single_answer q tape facts keys c.param.result (λ a. ap (λ z. z ∷ []) made ∙ sym (ap (λ b. if b then one key else []) loud)) (subst (IsKeyOf q tape) (sym made) there) c.missing.result c.missing.ensures.none c.missing.ensures.some in
    record { none = answer.none; some = answer.some }
