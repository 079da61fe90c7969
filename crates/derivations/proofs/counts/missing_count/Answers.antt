use Rattle.std.proofs.Common.{ℕ, ◌≡◌, List, [], sym, ◌∙◌, ap, subst}
use Rattle.std.specs.Prelude.{if◌then◌else◌}
use Rattle.wa_base.specs.declared.graph_names.End.{End}
use Rattle.conn_graph.specs.Ends.{reader_of}
use Rattle.meaning.specs.declared.world.World.{World}
use Rattle.explain.specs.declared.facts.Key.{Key}
use Rattle.explain.specs.declared.facts.Key.TheVariants.{Count}
use Rattle.explain.specs.declared.facts.Fact.{Fact}
use Rattle.explain.specs.Accounts.{Account}
use Rattle.derivations.specs.Contexts.{tape_in}
use Rattle.derivations.specs.Groups.{led, one}
use Rattle.derivations.specs.Searches.{IsMissing}
use Rattle.derivations.proofs.Answering.{none_as, some_as}
use Rattle.derivations.proofs.Counting.{one_known, one_missing}
use Rattle.derivations.proofs.Leading.{known_as, missing_as, nothing_known}
use Rattle.derivations.proofs.counts.missing_count.Goals as goal

pub returns-then-is_same : goal.returns-then-is_same
returns-then-is_same c =
    let q : ℕ = c.args.context.quantum in
    let tape : List World = tape_in c.args.context in
    let facts : List Fact = c.args.context.known.now in
    let source : End = reader_of c.args.edge.from.0 in
    let key : Key = Count c.args.quantum source c.args.edge.output in
    let keys : Account → List Key = λ a. one key in
    let keys' : Account → List Key = λ a. led c.args.target (λ x. one (Count c.args.quantum (reader_of x.from.0) x.output)) c.args.edge in
    let same : (a : Account) → keys a ≡ keys' a = λ a. sym (ap (λ b. if b then one key else []) (sym c.is_same.ensures ∙ c.if-is_same.true)) in
    record {
      none = none_as c.missing.result (λ stands. known_as q tape facts keys keys' same (one_known q tape facts key stands)) c.missing.ensures.none;
      some = some_as c.missing.result
          (λ k is. subst (IsMissing q tape facts keys') (sym is.0) (missing_as q tape facts keys keys' same key (one_missing q tape facts c.args.quantum source c.args.edge.output c.requires.there c.requires.source is.1)))
          c.missing.ensures.some;
    }

pub returns-else-is_same : goal.returns-else-is_same
returns-else-is_same c =
    let q : ℕ = c.args.context.quantum in
    let tape : List World = tape_in c.args.context in
    let facts : List Fact = c.args.context.known.now in
    let key : Key = Count c.args.quantum (reader_of c.args.edge.from.0) c.args.edge.output in
    let keys' : Account → List Key = λ a. led c.args.target (λ x. one (Count c.args.quantum (reader_of x.from.0) x.output)) c.args.edge in
    record {
      none = known_as q tape facts (λ a. []) keys' (λ a. sym (ap (λ b. if b then one key else []) (sym c.is_same.ensures ∙ c.if-is_same.false))) (nothing_known q tape facts);
      some = tt;
    }
