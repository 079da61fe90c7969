use Rattle.std.proofs.Common.{ℕ, ◌≡◌, List, [], ◌∷◌, ◌++◌, sym, ◌∙◌, ap, subst}
use Rattle.std.specs.Prelude.{Option}
use Rattle.wa_base.specs.declared.graph_names.End.{End}
use Rattle.node_table.specs.Kinds.{row}
use Rattle.node_table.specs.declared.kinds.Kind.{Kind}
use Rattle.node_table.specs.declared.rows.ParamRow.{ParamRow}
use Rattle.meaning.specs.declared.world.World.{World}
use Rattle.meaning.specs.Values.{taken_from}
use Rattle.explain.specs.declared.facts.Key.{Key}
use Rattle.explain.specs.declared.facts.Key.TheVariants.{Inlet}
use Rattle.explain.specs.declared.facts.Fact.{Fact}
use Rattle.explain.specs.Accounts.{Account}
use Rattle.explain.specs.Needs.{level_needs, output_by_kind}
use Rattle.derivations.specs.declared.tape.Stretch.{Stretch}
use Rattle.derivations.specs.Contexts.{tape_in}
use Rattle.derivations.specs.Searches.{AreKnown, IsMissing}
use Rattle.derivations.proofs.Answering.{none_as, some_as}
use Rattle.derivations.proofs.Heard.{IsAnswer}
use Rattle.derivations.proofs.Leading.{known_as, missing_as}
use Rattle.derivations.proofs.Effects.{effect_needs}
use Rattle.derivations.proofs.Making.{level_key, taken_answer}
use Rattle.derivations.proofs.Remembering.{both_known, first_missing, second_missing}
use Rattle.derivations.proofs.outputs.next_of_effect.Goals as goal

pub missing_level-requires-clause-key : goal.missing_level-requires-clause-key
missing_level-requires-clause-key c =
    level_key c.args.context.quantum (tape_in c.args.context) c.args.context.known.now c.requires.ready c.args.sample.frame c.args.sample.end c.args.sample.output c.args.sample.channel c.requires.there c.args.stretch.now c.requires.piece c.requires.sample.output
    c.args.kind.now c.requires.kind c.requires.effect c.row.result.param (ap (λ r. r.param) (sym c.row.ensures))

pub returns-in-Some-clause-some : goal.returns-in-Some-clause-some
returns-in-Some-clause-some c =
    let q : ℕ = c.args.context.quantum in
    let tape : List World = tape_in c.args.context in
    let facts : List Fact = c.args.context.known.now in
    let f : ℕ = c.args.sample.frame in
    let e : End = c.args.sample.end in
    let o : ℕ = c.args.sample.output in
    let d : ℕ = c.args.sample.channel in
    let s : Stretch = c.args.stretch.now in
    let kind : Kind = c.args.kind.now in
    let levels : Account → List Key = λ a. level_needs q tape a f e.node (row kind).param in
    let taken : Key = Inlet f e (taken_from kind o d).0 (taken_from kind o d).1 in
    missing_as q tape facts (λ a. levels a ++ taken ∷ []) (λ a. output_by_kind q tape a f e o d kind)
    (λ a. effect_needs q tape a f e o d kind c.requires.effect) c.in-Some.key
    (first_missing q tape facts levels (λ a. taken ∷ []) c.in-Some.key
    (subst (λ (p : Option ParamRow). IsMissing q tape facts (λ a. level_needs q tape a f e.node p) c.in-Some.key) (ap (λ r. r.param) c.row.ensures) c.in-Some.ensures.some))

pub returns-in-None : goal.returns-in-None
returns-in-None c =
    let q : ℕ = c.args.context.quantum in
    let tape : List World = tape_in c.args.context in
    let facts : List Fact = c.args.context.known.now in
    let f : ℕ = c.args.sample.frame in
    let e : End = c.args.sample.end in
    let o : ℕ = c.args.sample.output in
    let d : ℕ = c.args.sample.channel in
    let s : Stretch = c.args.stretch.now in
    let kind : Kind = c.args.kind.now in
    let levels : Account → List Key = λ a. level_needs q tape a f e.node (row kind).param in
    let taken : Key = Inlet f e (taken_from kind o d).0 (taken_from kind o d).1 in
    let both : Account → List Key = λ a. levels a ++ taken ∷ [] in
    let all : Account → List Key = λ a. output_by_kind q tape a f e o d kind in
    let same : (a : Account) → both a ≡ all a = λ a. effect_needs q tape a f e o d kind c.requires.effect in
    let known : AreKnown q tape facts levels = subst (λ (p : Option ParamRow). AreKnown q tape facts (λ a. level_needs q tape a f e.node p)) (ap (λ r. r.param) c.row.ensures) c.in-None.ensures.none in
    let answer : IsAnswer q tape facts (λ a. taken ∷ []) c.missing.result =
    taken_answer q tape facts c.requires.ready f e o d c.requires.there s c.requires.piece c.requires.sample.output kind c.requires.kind c.requires.effect c.requires.sample.loud c.requires.sample.channel c.requires.sample.few
    c.inlet.result (c.inlet.ensures ∙ ap (λ t. Inlet f e t.0 t.1) c.taken_from-input.ensures) c.missing.result c.missing.ensures.none c.missing.ensures.some in
    record {
      none = none_as c.missing.result (λ last. known_as q tape facts both all same (both_known q tape facts levels (λ a. taken ∷ []) known last)) answer.none;
      some = some_as c.missing.result (λ k last. missing_as q tape facts both all same k (second_missing q tape facts levels (λ a. taken ∷ []) k last)) answer.some;
    }
