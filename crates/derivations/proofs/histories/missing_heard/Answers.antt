use Rattle.std.proofs.Common.{ℕ, ◌≡◌, ◌/◌, List, true, false, sym, ◌∙◌, ap, subst}
use Rattle.conn_graph.specs.Ends.{reader_of, muted}
use Rattle.meaning.specs.declared.world.World.{World}
use Rattle.meaning.specs.Values.{world_at}
use Rattle.explain.specs.declared.facts.Key.TheVariants.{Count}
use Rattle.explain.specs.declared.facts.Fact.{Fact}
use Rattle.explain.specs.Accounts.{Account}
use Rattle.explain.specs.Needs.{heard_needs}
use Rattle.explain.specs.Checked.{AllHold, Stands}
use Rattle.derivations.specs.declared.tape.Stretch.{Stretch}
use Rattle.derivations.specs.Contexts.{tape_in}
use Rattle.derivations.specs.Searches.{IsMissing}
use Rattle.derivations.specs.Stretches.{IsInForce}
use Rattle.derivations.proofs.Heard.{IsAnswer}
use Rattle.derivations.proofs.Remembering.{heard_muted, heard_absent, heard_count_missing, heard_answer}
use Rattle.derivations.proofs.Taking.{count_there, inlet_there, end_there, silence_is}
use Rattle.derivations.proofs.histories.missing_heard.Goals as goal

pub returns-in_default-clause-some : goal.returns-in_default-clause-some
returns-in_default-clause-some c =
    let q : ℕ = c.args.context.quantum in
    let tape : List World = tape_in c.args.context in
    let facts : List Fact = c.args.context.known.now in
    let g : ℕ = c.args.heard.frame in
    let n : ℕ = c.args.heard.node.0 in
    let quantum : g / c.from.result ≡ g / q = ap (λ k. g / k) c.from.ensures in
    subst (λ j. IsMissing q tape facts (λ a. heard_needs q tape a g n c.args.heard.channel) (Count j (reader_of n) 0)) (sym quantum)
    (heard_count_missing q tape facts g n c.args.heard.channel c.requires.there (count_there q tape facts c.requires.ready g n c.requires.there c.requires.node c.requires.history)
    (subst (λ j. Stands (Count j (reader_of n) 0) facts → ⊥) quantum c.in_default.ensures.none))

pub is_muted-requires-clause-end : goal.is_muted-requires-clause-end
is_muted-requires-clause-end c =
    let q : ℕ = c.args.context.quantum in
    let tape : List World = tape_in c.args.context in
    let facts : List Fact = c.args.context.known.now in
    let g : ℕ = c.args.heard.frame in
    let n : ℕ = c.args.heard.node.0 in
    let quantum : g / c.from.result ≡ g / q = ap (λ k. g / k) c.from.ensures in
    let s : Stretch = c.piece.result.now in
    let force : IsInForce tape (g / q) s = subst (λ j. IsInForce tape j s) quantum c.piece.ensures.piece in
    end_there q tape facts c.requires.ready g n c.requires.there c.requires.node c.requires.history s force

pub returns-then-is_muted-clause-none : goal.returns-then-is_muted-clause-none
returns-then-is_muted-clause-none c =
    let q : ℕ = c.args.context.quantum in
    let tape : List World = tape_in c.args.context in
    let facts : List Fact = c.args.context.known.now in
    let g : ℕ = c.args.heard.frame in
    let n : ℕ = c.args.heard.node.0 in
    let quantum : g / c.from.result ≡ g / q = ap (λ k. g / k) c.from.ensures in
    let stands : Stands (Count (g / q) (reader_of n) 0) facts = subst (λ j. Stands (Count j (reader_of n) 0) facts) quantum c.in-Some.ensures.stands in
    let s : Stretch = c.piece.result.now in
    let force : IsInForce tape (g / q) s = subst (λ j. IsInForce tape j s) quantum c.piece.ensures.piece in
    let heard : muted (world_at q tape g).graph.value (reader_of n) ≡ true = silence_is q tape facts c.requires.ready g n c.requires.there c.requires.node c.requires.history s force true (sym c.if-is_muted.true ∙ c.is_muted.ensures) in
    heard_muted q tape facts g n c.args.heard.channel heard stands

pub returns-then-heard-count-clause-none : goal.returns-then-heard-count-clause-none
returns-then-heard-count-clause-none c =
    let q : ℕ = c.args.context.quantum in
    let tape : List World = tape_in c.args.context in
    let facts : List Fact = c.args.context.known.now in
    let g : ℕ = c.args.heard.frame in
    let n : ℕ = c.args.heard.node.0 in
    let quantum : g / c.from.result ≡ g / q = ap (λ k. g / k) c.from.ensures in
    let is : (a : Account) → AllHold q tape a facts → a.counts (g / q) (reader_of n) ≡ c.in-Some.count =
    subst (λ j. (a : Account) → AllHold q tape a facts → a.counts j (reader_of n) ≡ c.in-Some.count) quantum c.in-Some.ensures.value in
    let stands : Stands (Count (g / q) (reader_of n) 0) facts = subst (λ j. Stands (Count j (reader_of n) 0) facts) quantum c.in-Some.ensures.stands in
    heard_absent q tape facts g n c.args.heard.channel c.in-Some.count is c.if-heard-count.true stands

pub returns : goal.returns
returns c =
    let q : ℕ = c.args.context.quantum in
    let tape : List World = tape_in c.args.context in
    let facts : List Fact = c.args.context.known.now in
    let g : ℕ = c.args.heard.frame in
    let n : ℕ = c.args.heard.node.0 in
    let quantum : g / c.from.result ≡ g / q = ap (λ k. g / k) c.from.ensures in
    let is : (a : Account) → AllHold q tape a facts → a.counts (g / q) (reader_of n) ≡ c.in-Some.count =
    subst (λ j. (a : Account) → AllHold q tape a facts → a.counts j (reader_of n) ≡ c.in-Some.count) quantum c.in-Some.ensures.value in
    let stands : Stands (Count (g / q) (reader_of n) 0) facts = subst (λ j. Stands (Count j (reader_of n) 0) facts) quantum c.in-Some.ensures.stands in
    let s : Stretch = c.piece.result.now in
    let force : IsInForce tape (g / q) s = subst (λ j. IsInForce tape j s) quantum c.piece.ensures.piece in
    let heard : muted (world_at q tape g).graph.value (reader_of n) ≡ false = silence_is q tape facts c.requires.ready g n c.requires.there c.requires.node c.requires.history s force false (sym c.if-is_muted.false ∙ c.is_muted.ensures) in
    let answer : IsAnswer q tape facts (λ a. heard_needs q tape a g n c.args.heard.channel) c.missing.result =
    heard_answer q tape facts g n c.args.heard.channel c.in-Some.count is c.if-heard-count.false heard stands c.requires.there (inlet_there q tape facts c.requires.ready g n c.requires.there c.requires.node c.requires.history) c.requires.channel c.missing.result c.missing.ensures.none c.missing.ensures.some in
    record { none = answer.none; some = answer.some }
